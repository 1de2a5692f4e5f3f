use Rattle.sctp_ended.proofs.StaysOut.{data_above_the_end_stays_out, data_above_the_end_stays_out_of_reached_sides}
use Rattle.sctp_ended.proofs.StaysOut.{data_behind_a_request_stays_out}
use Rattle.sctp_ended.proofs.data_above_a_boundary_stays_out.Goals as goal

pub returns : goal.returns
returns c = record {
  any = data_above_the_end_stays_out;
  reached = data_above_the_end_stays_out_of_reached_sides;
  waits = data_behind_a_request_stays_out;
}
