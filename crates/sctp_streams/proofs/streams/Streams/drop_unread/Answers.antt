use Rattle.std.proofs.Common.{◌≡◌, ◌-◌, ap, ◌∙◌, sym, arith, rules, refl}
use Rattle.std.specs.BTreeMap.{is_at}
use Rattle.std.specs.Map.{set_value}
use Rattle.std.specs.Ordering.{nat_cmp}
use Rattle.std.specs.Option.{option_copied_mut}
use Rattle.sctp_receive_queues.specs.Reassembly.{bytes_waiting}
use Rattle.sctp_streams.specs.Stream.{StreamView, gives_messages}
use Rattle.sctp_streams.proofs.ReadableStreams.{count_is}
use Rattle.sctp_streams.proofs.StreamChanges.{emptied_is_silent}
use Rattle.sctp_streams.proofs.WaitingBytes.{exchanged}
use Rattle.sctp_streams.proofs.streams.Streams.drop_unread.Goals as goal

pub invariant_of-self-2 : goal.invariant_of-self-2
invariant_of-self-2 c =
    let there = sym c.get_mut.ensures.value ∙ ap option_copied_mut c.in-Some.is in
    let last = c.drop_unread.new.self in
    let s = c.in-Some.stream.now in
    let old = c.self.inside.by_id in
    let new = set_value (is_at (nat_cmp c.args.id)) c.self.inside.by_id last in
    let e = exchanged c.args.id old new s last there refl in
    let none : bytes_waiting last.reassembly ≡ 0 =
    ap (λ (t : StreamView). bytes_waiting t.reassembly) c.drop_unread.ensures in
    let held = c.waiting_bytes-dropped.ensures in
    let rest : c.saturating_sub-self-inside.result ≡ c.self.inside.waiting - c.waiting_bytes-dropped.result =
    search rules in
    let silent = sym (ap gives_messages c.drop_unread.ensures ∙ emptied_is_silent s) in (
      omega (arith, e, none, held, rest, c.self.invariant.0),
      c.recounted-self-inside.ensures ∙ count_is c.args.id old new s last there refl c.self.invariant.1
          c.gives_messages-gave.ensures silent c.len.ensures.len c.len.ensures.small,
    )
