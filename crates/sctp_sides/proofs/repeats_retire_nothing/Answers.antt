use Rattle.sctp_sides.proofs.DataKeptOut.{data_behind_is_for_later, kept_data_reaches_no_stream, later_data_stays_out}
use Rattle.sctp_sides.proofs.DataKeptOut.{other_data_is_read_now, retiring_data_is_for_later, retiring_data_stays_out}
use Rattle.sctp_sides.proofs.OwnRequestsHeld.{own_requests_wait}
use Rattle.sctp_sides.proofs.PeerRequestsOverRuns.{completed_requests_stay, repeats_stay_known}
use Rattle.sctp_sides.proofs.RepeatsKnown.{completed_numbers_are_repeats, repeats_are_only_answered}
use Rattle.sctp_sides.proofs.RepeatsKnown.{repeats_end_no_generation, repeats_retire_nothing}
use Rattle.sctp_sides.proofs.repeats_retire_nothing.Goals as goal

pub returns-clause-repeats : goal.returns-clause-repeats
returns-clause-repeats c = completed_numbers_are_repeats

pub returns-clause-known : goal.returns-clause-known
returns-clause-known c = repeats_retire_nothing

pub returns-clause-silent : goal.returns-clause-silent
returns-clause-silent c = repeats_are_only_answered

pub returns-clause-retires : goal.returns-clause-retires
returns-clause-retires c = repeats_end_no_generation

pub returns-clause-stay : goal.returns-clause-stay
returns-clause-stay c = completed_requests_stay c.completed_requests_are_known.ensures.stay

pub returns-clause-repeated : goal.returns-clause-repeated
returns-clause-repeated c =
    repeats_stay_known c.completed_requests_are_known.ensures.stay c.completed_requests_are_known.ensures.known

pub returns-clause-held_back : goal.returns-clause-held_back
returns-clause-held_back c = own_requests_wait c.requests_are_held_back.ensures.data_waits

pub returns-clause-behind : goal.returns-clause-behind
returns-clause-behind c = data_behind_is_for_later

pub returns-clause-kept_out : goal.returns-clause-kept_out
returns-clause-kept_out c = kept_data_reaches_no_stream

pub returns-clause-stays_out : goal.returns-clause-stays_out
returns-clause-stays_out c = later_data_stays_out

pub returns-clause-retiring : goal.returns-clause-retiring
returns-clause-retiring c = retiring_data_is_for_later

pub returns-clause-no_other : goal.returns-clause-no_other
returns-clause-no_other c = other_data_is_read_now

pub returns-clause-retiring_stays_out : goal.returns-clause-retiring_stays_out
returns-clause-retiring_stays_out c = retiring_data_stays_out
