use Rattle.std.proofs.Common.{refl}
use Rattle.sctp_channels.specs.declared.receiving.Next.TheVariants as nexts
use Rattle.sctp_channels.proofs.Dropped.{one_more}
use Rattle.sctp_channels.proofs.channels.Channels.read_further.Goals as goal

pub loop-dropped-init : goal.loop-dropped-init
loop-dropped-init c = record {
  same = refl;
  dropped = λ d bytes first.
      one_more 0 c.args.id d bytes d bytes nexts.Dropped c.args.driver.now c.args.buffer.now (refl, refl) first refl;
}

pub loop-dropped-preserved : goal.loop-dropped-preserved
loop-dropped-preserved c = record {
  same = c.loop-dropped.invariant.same;
  dropped = λ d bytes first.
      one_more c.loop-dropped._dropped c.args.id d bytes c.loop-dropped.driver c.loop-dropped.buffer
      c.in_ok-received.field-0 c.read_next.new.driver c.read_next.new.buffer
      (c.loop-dropped.invariant.dropped d bytes first) c.in_ok-received.ensures.ok c.in-Dropped.is;
}
