use Rattle.sctp_closed.proofs.Proved.{created_sides_tell_no_end, joined_sides_tell_no_end, only_closed_streams_are_reset}
use Rattle.sctp_closed.proofs.Proved.{only_closed_streams_end, other_streams_stay_live}
use Rattle.sctp_closed.proofs.only_closed_streams_end.Goals as goal

pub returns : goal.returns
returns c = record {
  reset = only_closed_streams_are_reset;
  told = only_closed_streams_end;
  live = other_streams_stay_live;
  created = created_sides_tell_no_end;
  joined = joined_sides_tell_no_end;
}
