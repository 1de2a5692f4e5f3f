use Rattle.std.proofs.Common.{ap, ◌∙◌, List, ℕ}
use Rattle.channel_table.specs.Channels.{ChannelView}
use Rattle.channel_table.specs.Tables.{keeping_first}
use Rattle.channel_table.specs.declared.channel.Stage.TheVariants as stages
use Rattle.channel_table.proofs.Keeping.{opens_by, is_open_by}
use Rattle.channel_table.proofs.table.Table.mark_open_by.Goals as goal

pub returns-clause-keeps : goal.returns-clause-keeps
returns-clause-keeps c =
    opens_by c.args.self.now _ c.args.id c.args.message stages.Open
    (c.keep_first.ensures
    ∙ ap (λ (t : List (ℕ × ChannelView)). keeping_first t c.args.id c.args.message) c.set_stage.ensures)

pub returns-clause-open : goal.returns-clause-open
returns-clause-open c =
    is_open_by c.args.self.now _ c.args.id c.args.message stages.Open
    (c.keep_first.ensures
    ∙ ap (λ (t : List (ℕ × ChannelView)). keeping_first t c.args.id c.args.message) c.set_stage.ensures)
