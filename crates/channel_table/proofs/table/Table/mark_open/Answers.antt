use Rattle.std.proofs.Common.{◌∙◌}
use Rattle.channel_table.specs.declared.channel.Stage.TheVariants as stages
use Rattle.channel_table.proofs.Keeping.{begins, is_open}
use Rattle.channel_table.proofs.table.Table.mark_open.Goals as goal

pub returns-clause-keeps : goal.returns-clause-keeps
returns-clause-keeps c =
    begins c.args.self.now _ c.args.id stages.Open (c.recall.ensures.same ∙ c.set_stage.ensures)

pub returns-clause-open : goal.returns-clause-open
returns-clause-open c =
    is_open c.args.self.now _ c.args.id stages.Open (c.recall.ensures.same ∙ c.set_stage.ensures)
