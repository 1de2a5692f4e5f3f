use Rattle.sctp_boundaries.proofs.Joined.{clients_and_servers_begin, joined_pairs_begin}
use Rattle.sctp_boundaries.proofs.Kept.{runs_keep_boundaries, steps_keep_boundaries}
use Rattle.sctp_boundaries.proofs.boundaries_are_kept.Goals as goal

pub returns-clause-joined : goal.returns-clause-joined
returns-clause-joined c = joined_pairs_begin

pub returns-clause-created : goal.returns-clause-created
returns-clause-created c = clients_and_servers_begin

pub returns-clause-steps : goal.returns-clause-steps
returns-clause-steps c =
    steps_keep_boundaries c.requests_are_held_back.ensures.data_waits c.requests_name_what_they_list.ensures

pub returns-clause-runs : goal.returns-clause-runs
returns-clause-runs c =
    runs_keep_boundaries c.requests_are_held_back.ensures.data_waits c.requests_name_what_they_list.ensures
