use Rattle.std.proofs.Common.{◌≡◌, ◌∙◌, ◌++◌, ◌∷◌, [], ◌-◌, set, rules}
use Rattle.std.specs.List.{remove}
use Rattle.sctp_receive_queues.specs.Reassembly.{run_at}
use Rattle.sctp_receive_queues.proofs.RunsJoined.{run_joined_at, run_restored_at}
use Rattle.sctp_receive_queues.proofs.runs.join_at.Goals as goal

pub returns-in-Ok-clause-put : goal.returns-in-Ok-clause-put
returns-in-Ok-clause-put c =
    let runs = c.args.runs.now.items in
    let index = c.args.index in
    let all : c.remove.new.self.items ≡ remove
    (set (set runs index []) (index - 1) (run_at (set runs index []) (index - 1) ++ c.args.piece ∷ run_at runs index))
    index = search rules in
    all ∙ run_joined_at runs index c.args.piece c.requires.first

pub returns-in-Err-clause-unchanged : goal.returns-in-Err-clause-unchanged
returns-in-Err-clause-unchanged c =
    let runs = c.args.runs.now.items in
    let index = c.args.index in
    let all : c.replace_at.new.runs.items ≡ set (set runs index []) index (run_at runs index) = search rules in
    all ∙ run_restored_at runs index
