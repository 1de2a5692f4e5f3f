use Rattle.std.proofs.Common.{refl, ap, ◌∙◌, sym}
use Rattle.std.specs.BTreeMap.{is_at}
use Rattle.std.specs.Map.{set_value}
use Rattle.std.specs.Ordering.{nat_cmp}
use Rattle.std.specs.Option.{option_copied_mut}
use Rattle.sctp_streams.proofs.ReadableStreams.{still_readable}
use Rattle.sctp_streams.proofs.WaitingBytes.{unchanged}
use Rattle.sctp_streams.proofs.streams.Streams.release.Goals as goal

pub invariant_of-self-2 : goal.invariant_of-self-2
invariant_of-self-2 c =
    let there = sym c.get_mut.ensures.value ∙ ap option_copied_mut c.in-Some.is in
    let last = c.on_buffer_released.new.self in
    let old = c.self.inside.by_id in
    let new = set_value (is_at (nat_cmp c.args.id)) c.self.inside.by_id last in (
      c.self.invariant.0 ∙ sym (unchanged c.args.id old new c.in-Some.stream.now last there refl
          (rw c.on_buffer_released.ensures.released refl)),
      c.self.invariant.1 ∙ sym (still_readable c.args.id old new c.in-Some.stream.now last there refl
          (rw c.on_buffer_released.ensures.released refl)),
    )
