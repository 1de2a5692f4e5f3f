use Rattle.std.proofs.Common.{◌∙◌, sym}
use Rattle.sctp_streams.proofs.TableIsMap.{found_in}
use Rattle.sctp_streams.proofs.table.StreamTable.get.Goals as goal

pub returns : goal.returns
returns c = rw (← c.self.view_is)
    (c.find.ensures ∙ sym (found_in c.args.id c.self.inside.pages.items c.self.invariant.1.small))
