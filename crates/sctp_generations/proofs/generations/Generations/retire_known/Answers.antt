use Rattle.std.proofs.lemmas.Result.{on_ok_weaker}
use Rattle.sctp_generations.proofs.NewestEnded.{right_without}
use Rattle.sctp_generations.proofs.generations.Generations.retire_known.Goals as goal

pub returns-clause-later : goal.returns-clause-later
returns-clause-later c =
    on_ok_weaker c.retire_by.result
    (right_without c.args.self.now c.args.id c.args.boundary c.args.is_drained c.retire_by.new.self
    c.args.later.now c.remove-is_followed.new.self c.requires c.remove-is_followed.ensures.updates)
    c.retire_by.ensures.ok
