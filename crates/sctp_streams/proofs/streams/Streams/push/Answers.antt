use Rattle.std.proofs.Common.{◌≡◌, ◌+◌, length, true, false, ap, ◌∙◌, sym, Bool, arith, rules, refl}
use Rattle.std.specs.BTreeMap.{is_at}
use Rattle.std.specs.Map.{set_value}
use Rattle.std.specs.Ordering.{nat_cmp}
use Rattle.std.specs.Option.{option_copied_mut}
use Rattle.sctp_streams.specs.Stream.{stream_pushed}
use Rattle.sctp_streams.proofs.ReadableStreams.{count_is}
use Rattle.sctp_streams.proofs.WaitingBytes.{dropped_bytes, exchanged, kept_bytes, pushed_is}
use Rattle.sctp_streams.proofs.streams.Streams.push.Goals as goal

pub invariant_of-self-then-kept : goal.invariant_of-self-then-kept
invariant_of-self-then-kept c =
    let there = sym c.get_mut.ensures.value ∙ ap option_copied_mut c.in-Some.is in
    let last = c.push.new.self in
    let s = c.in-Some.stream.now in
    let old = c.self.inside.by_id in
    let new = set_value (is_at (nat_cmp c.args.id)) c.self.inside.by_id last in
    let e = exchanged c.args.id old new s last there refl in
    let kept : stream_pushed s c.args.piece ≡ (last, true) =
    c.in_ok-kept.ensures.pushed ∙ ap (λ (k : Bool). (last, k)) c.if-kept.true in
    let more : c.in-Some-checked_add.waiting ≡ c.self.inside.waiting + length c.args.piece.user_data = search rules in (
      omega (arith, e, kept_bytes s last c.args.piece kept, more, c.self.invariant.0),
      c.recounted-self-inside.ensures ∙ count_is c.args.id old new s last there refl c.self.invariant.1
          c.gives_messages-gave.ensures c.gives_messages-gives.ensures c.len-2.ensures.len c.len-2.ensures.small,
    )

pub invariant_of-self-else-kept : goal.invariant_of-self-else-kept
invariant_of-self-else-kept c =
    let there = sym c.get_mut.ensures.value ∙ ap option_copied_mut c.in-Some.is in
    let last = c.push.new.self in
    let s = c.in-Some.stream.now in
    let old = c.self.inside.by_id in
    let new = set_value (is_at (nat_cmp c.args.id)) c.self.inside.by_id last in
    let e = exchanged c.args.id old new s last there refl in
    let dropped : stream_pushed s c.args.piece ≡ (last, false) =
    c.in_ok-kept.ensures.pushed ∙ ap (λ (k : Bool). (last, k)) c.if-kept.false in (
      omega (arith, e, dropped_bytes s last c.args.piece dropped, c.self.invariant.0),
      c.recounted-self-inside.ensures ∙ count_is c.args.id old new s last there refl c.self.invariant.1
          c.gives_messages-gave.ensures c.gives_messages-gives.ensures c.len-2.ensures.len c.len-2.ensures.small,
    )

pub returns-then-kept-clause-pushed : goal.returns-then-kept-clause-pushed
returns-then-kept-clause-pushed c =
    let there = sym c.get_mut.ensures.value ∙ ap option_copied_mut c.in-Some.is in
    let last = c.push.new.self in
    rw (← c.self.view_is) (pushed_is _ c.args.id c.args.piece there c.in_ok-kept.ensures.pushed
    refl)
