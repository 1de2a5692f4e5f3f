use Rattle.sctp_ended.proofs.KeptApart.{created_sides_keep_nothing_apart, joined_sides_keep_nothing_apart}
use Rattle.sctp_ended.proofs.KeptApart.{other_data_is_never_kept_apart}
use Rattle.sctp_ended.proofs.other_data_is_never_kept_apart.Goals as goal

pub returns : goal.returns
returns c = record {
  kept = other_data_is_never_kept_apart;
  created = created_sides_keep_nothing_apart;
  joined = joined_sides_keep_nothing_apart;
}
