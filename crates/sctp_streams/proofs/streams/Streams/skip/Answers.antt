use Rattle.std.proofs.Common.{◌≡◌, ◌-◌, ap, ◌∙◌, sym, arith, rules, refl}
use Rattle.std.specs.BTreeMap.{is_at}
use Rattle.std.specs.Map.{set_value}
use Rattle.std.specs.Ordering.{nat_cmp}
use Rattle.std.specs.Option.{option_copied_mut}
use Rattle.sctp_streams.proofs.ReadableStreams.{count_is}
use Rattle.sctp_streams.proofs.WaitingBytes.{exchanged, skipped_bytes}
use Rattle.sctp_streams.proofs.streams.Streams.skip.Goals as goal

pub invariant_of-self-2 : goal.invariant_of-self-2
invariant_of-self-2 c =
    let there = sym c.get_mut.ensures.value ∙ ap option_copied_mut c.in-Some.is in
    let last = c.skip.new.self in
    let s = c.in-Some.stream.now in
    let old = c.self.inside.by_id in
    let new = set_value (is_at (nat_cmp c.args.id)) c.self.inside.by_id last in
    let e = exchanged c.args.id old new s last there refl in
    let less = skipped_bytes s last c.args.ssn c.skip.ensures in
    let held = c.waiting_bytes-held.ensures in
    let left = c.waiting_bytes.ensures in
    let dropped : c.saturating_sub-dropped.result
    ≡ c.waiting_bytes-held.result - c.waiting_bytes.result = search rules in
    let rest : c.saturating_sub-self-inside.result ≡ c.self.inside.waiting - c.saturating_sub-dropped.result =
    search rules in (
      omega (arith, e, less, held, left, dropped, rest, c.self.invariant.0),
      c.recounted-self-inside.ensures ∙ count_is c.args.id old new s last there refl c.self.invariant.1
          c.gives_messages-gave.ensures c.gives_messages-gives.ensures c.len.ensures.len c.len.ensures.small,
    )
