use Rattle.sctp_reassembly.proofs.SkipsAlike.{the_invariant_gives_the_window}
use Rattle.sctp_reassembly.proofs.the_invariant_gives_the_window.Goals as goal

pub returns : goal.returns
returns c = the_invariant_gives_the_window
