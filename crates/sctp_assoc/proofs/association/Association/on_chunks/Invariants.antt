use Rattle.std.proofs.Common.{◌≡◌, true}
use Rattle.std.specs.Vec.Iter.{into_iter_items}
use Rattle.sctp_assoc.specs.Chunks.{after_chunks}
use Rattle.sctp_assoc.specs.Memory.{chunks_take_memory}
use Rattle.sctp_inbound.specs.declared.receiver.AckTrigger.TheVariants as triggers
use Rattle.sctp_assoc.proofs.association.Association.on_chunks.Given as goal

abbrev pub invariant-loop-chunk : goal.invariant-loop-chunk
invariant-loop-chunk l = record {
  same : after_chunks l.header (into_iter_items l.chunk-iterator) l.self l.trigger l.now
      ≡ after_chunks l.header l.fn.chunks.items l.fn.self triggers.None l.now;
  grows : chunks_take_memory l.header (into_iter_items l.chunk-iterator) l.self l.trigger l.now ≡ true
      → chunks_take_memory l.header l.fn.chunks.items l.fn.self triggers.None l.now ≡ true;
}
