use Rattle.std.proofs.Common.{◌≡◌, ◌-◌, length, ap, ◌∙◌, sym, arith, rules, refl}
use Rattle.std.specs.BTreeMap.{is_at}
use Rattle.std.specs.Map.{set_value}
use Rattle.std.specs.Ordering.{nat_cmp}
use Rattle.std.specs.Option.{option_copied_mut}
use Rattle.sctp_receive_queues.specs.Messages.{bytes_left}
use Rattle.sctp_streams.proofs.ReadableStreams.{count_is}
use Rattle.sctp_streams.proofs.WaitingBytes.{exchanged, given, read_bytes}
use Rattle.sctp_streams.proofs.streams.Streams.read.Goals as goal

pub invariant_of-self-in_err-message : goal.invariant_of-self-in_err-message
invariant_of-self-in_err-message c =
    let there = sym c.get_mut.ensures.value ∙ ap option_copied_mut c.in_ok-stream.was in
    let last = c.read-read.new.self in
    let s = c.in_ok-stream.stream.now in
    let old = c.self.inside.by_id in
    let new = set_value (is_at (nat_cmp c.args.id)) c.self.inside.by_id last in
    let e = exchanged c.args.id old new s last there refl in
    let none : given c.read-read.result ≡ 0 = ap given c.in_err-message.was in (
      omega (arith, e, read_bytes s last c.read-read.result c.read-read.ensures, none, c.self.invariant.0),
      c.recounted-self-inside.ensures ∙ count_is c.args.id old new s last there refl c.self.invariant.1
          c.gives_messages-gave.ensures c.gives_messages-still_gives.ensures c.len.ensures.len c.len.ensures.small,
    )

pub invariant_of-self-2 : goal.invariant_of-self-2
invariant_of-self-2 c =
    let there = sym c.get_mut.ensures.value ∙ ap option_copied_mut c.in_ok-stream.was in
    let last = c.read-read.new.self in
    let s = c.in_ok-stream.stream.now in
    let old = c.self.inside.by_id in
    let new = set_value (is_at (nat_cmp c.args.id)) c.self.inside.by_id last in
    let e = exchanged c.args.id old new s last there refl in
    let some : given c.read-read.result ≡ length (bytes_left c.in_ok-message.message) =
    ap given c.in_ok-message.was in
    let less : c.saturating_sub-self-inside.result
    ≡ c.self.inside.waiting - length (bytes_left c.in_ok-message.message) = search rules in (
      omega (arith, e, read_bytes s last c.read-read.result c.read-read.ensures, some, less, c.self.invariant.0),
      c.recounted-self-inside.ensures ∙ count_is c.args.id old new s last there refl c.self.invariant.1
          c.gives_messages-gave.ensures c.gives_messages-still_gives.ensures c.len.ensures.len c.len.ensures.small,
    )
