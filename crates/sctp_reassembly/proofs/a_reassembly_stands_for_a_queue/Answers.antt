use Rattle.sctp_reassembly.proofs.ReadAnswers.{reads_answer_alike}
use Rattle.sctp_reassembly.proofs.OrderedArrives.{ordered_pieces_stand}
use Rattle.sctp_reassembly.proofs.ReadyAlike.{the_same_is_ready}
use Rattle.sctp_reassembly.proofs.SkipsAlike.{ordered_skips_stand}
use Rattle.sctp_reassembly.proofs.BoundedSkips.{bounded_skips_spare, bounded_skips_stand}
use Rattle.sctp_reassembly.proofs.UnorderedDropped.{unordered_drops_stand}
use Rattle.sctp_reassembly.proofs.UnorderedArrives.{unordered_pieces_stand}
use Rattle.sctp_reassembly.proofs.a_reassembly_stands_for_a_queue.Goals as goal

pub returns-clause-pieces : goal.returns-clause-pieces
returns-clause-pieces c = ordered_pieces_stand

pub returns-clause-reads : goal.returns-clause-reads
returns-clause-reads c = reads_answer_alike

pub returns-clause-skips : goal.returns-clause-skips
returns-clause-skips c = ordered_skips_stand

pub returns-clause-ready : goal.returns-clause-ready
returns-clause-ready c = the_same_is_ready

pub returns-clause-unordered : goal.returns-clause-unordered
returns-clause-unordered c = unordered_pieces_stand

pub returns-clause-drops : goal.returns-clause-drops
returns-clause-drops c = unordered_drops_stand

pub returns-clause-bounded : goal.returns-clause-bounded
returns-clause-bounded c = bounded_skips_stand

pub returns-clause-spares : goal.returns-clause-spares
returns-clause-spares c = bounded_skips_spare
