use Rattle.std.proofs.Common.{arith}
use Rattle.sctp_streams.proofs.TableIsMap.{most_in, sorted_in}
use Rattle.sctp_streams.proofs.table.StreamTable.len.Goals as goal

pub returns-clause-small : goal.returns-clause-small
returns-clause-small c =
    let most = most_in c.self.inside.pages.items c.self.invariant.1 in omega (arith, most, c.self.invariant.0)

pub returns-clause-ordered : goal.returns-clause-ordered
returns-clause-ordered c = rw (← c.self.view_is) (sorted_in c.self.inside.pages.items c.self.invariant.1)
