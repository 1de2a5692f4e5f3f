use Rattle.std.proofs.Common.{◌≡◌, ℕ, List}
use Rattle.sctp_driver.specs.Driving.{Driving}
use Rattle.sctp_channels.specs.declared.receiving.Next.TheVariants as nexts
use Rattle.sctp_channels.specs.Receiving.{Drops, ReadsNext}
use Rattle.sctp_channels.proofs.channels.Channels.read_further.Given as goal

abbrev pub invariant-loop-dropped : goal.invariant-loop-dropped
invariant-loop-dropped l = record {
  same : l.self ≡ l.fn.self;
  dropped : (d : Driving) → (bytes : List ℕ) → ReadsNext l.fn.id d bytes nexts.Dropped l.fn.driver l.fn.buffer
      → Drops l._dropped l.fn.id d bytes l.driver l.buffer;
}
