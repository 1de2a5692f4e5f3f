use Rattle.channel_table.proofs.Keeping.{closes, is_closed}
use Rattle.channel_table.proofs.table.Table.mark_closing.Goals as goal

pub returns-clause-keeps : goal.returns-clause-keeps
returns-clause-keeps c = closes c.args.self.now _ c.args.id c.set_stage.ensures

pub returns-clause-ended : goal.returns-clause-ended
returns-clause-ended c = is_closed c.args.self.now _ c.args.id c.set_stage.ensures
