use Rattle.sctp_closed_between.proofs.NewPairs.{clients_and_servers_begin_unclosed, joined_pairs_begin_unclosed}
use Rattle.sctp_closed_between.proofs.RunsTell.{only_closed_streams_end_between}
use Rattle.sctp_closed_between.proofs.only_closed_streams_end_between.Goals as goal

pub returns-clause-joined : goal.returns-clause-joined
returns-clause-joined c = joined_pairs_begin_unclosed

pub returns-clause-created : goal.returns-clause-created
returns-clause-created c = clients_and_servers_begin_unclosed

pub returns-clause-runs : goal.returns-clause-runs
returns-clause-runs c = only_closed_streams_end_between c.boundaries_are_kept.ensures.steps
