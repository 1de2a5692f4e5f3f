use Rattle.std.proofs.Common.{◌∙◌}
use Rattle.sctp_streams.proofs.TableWalks.{sum_in}
use Rattle.sctp_streams.proofs.table.StreamTable.waiting_bytes.Goals as goal

pub returns : goal.returns
returns c = rw (← c.self.view_is) (c.add_waiting.ensures ∙ sum_in c.self.inside.pages.items)
