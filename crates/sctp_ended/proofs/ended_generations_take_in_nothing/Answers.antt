use Rattle.sctp_ended.proofs.Closed.{ended_generations_of_reached_sides_take_in_nothing}
use Rattle.sctp_ended.proofs.Closed.{ended_generations_take_in_nothing}
use Rattle.sctp_ended.proofs.ended_generations_take_in_nothing.Goals as goal

pub returns : goal.returns
returns c = record {
  any = ended_generations_take_in_nothing;
  reached = ended_generations_of_reached_sides_take_in_nothing;
}
