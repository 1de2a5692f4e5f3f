use Rattle.std.proofs.Common.{ap, ◌∙◌, sym, refl}
use Rattle.std.specs.BTreeMap.{is_at}
use Rattle.std.specs.Map.{set_value}
use Rattle.std.specs.Ordering.{nat_cmp}
use Rattle.std.specs.Option.{option_copied_mut}
use Rattle.sctp_streams.specs.Stream.{StreamView, gives_messages}
use Rattle.sctp_streams.proofs.ReadableStreams.{set_gives, still_readable}
use Rattle.sctp_streams.proofs.WaitingBytes.{set_reassembly, unchanged}
use Rattle.sctp_streams.proofs.streams.Streams.set.Goals as goal

pub invariant_of-self-2 : goal.invariant_of-self-2
invariant_of-self-2 c =
    let there = sym c.get_mut.ensures.value ∙ ap option_copied_mut c.in-Some.is in
    let last = c.set.new.self in
    let old = c.self.inside.by_id in
    let new = set_value (is_at (nat_cmp c.args.id)) c.self.inside.by_id last in
    let same = ap (λ (t : StreamView). t.reassembly) c.set.ensures
    ∙ set_reassembly c.in-Some.stream.now c.args.setting in (
      c.self.invariant.0 ∙ sym (unchanged c.args.id old new c.in-Some.stream.now last there refl same),
      c.self.invariant.1 ∙ sym (still_readable c.args.id old new c.in-Some.stream.now last there refl
          (ap gives_messages c.set.ensures ∙ set_gives c.in-Some.stream.now c.args.setting)),
    )
