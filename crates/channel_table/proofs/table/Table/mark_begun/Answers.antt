use Rattle.channel_table.specs.declared.channel.Stage.TheVariants as stages
use Rattle.channel_table.proofs.Keeping.{begins}
use Rattle.channel_table.proofs.table.Table.mark_begun.Goals as goal

pub returns-clause-keeps : goal.returns-clause-keeps
returns-clause-keeps c = begins c.args.self.now _ c.args.id stages.Begun c.set_stage.ensures
