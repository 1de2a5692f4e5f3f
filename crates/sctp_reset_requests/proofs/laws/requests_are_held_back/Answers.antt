use Rattle.sctp_reset_requests.proofs.HeldBack.{data_holds_back, one_is_active, one_is_open}
use Rattle.sctp_reset_requests.proofs.laws.requests_are_held_back.Goals as goal

pub returns : goal.returns
returns c = record { active = one_is_active; made = one_is_open; data_waits = data_holds_back }
