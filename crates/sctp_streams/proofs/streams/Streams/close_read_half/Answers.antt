use Rattle.std.proofs.Common.{ap, ◌∙◌, sym, refl}
use Rattle.std.specs.BTreeMap.{is_at}
use Rattle.std.specs.Map.{set_value}
use Rattle.std.specs.Ordering.{nat_cmp}
use Rattle.std.specs.Option.{option_copied_mut}
use Rattle.sctp_streams.specs.Stream.{StreamView, gives_messages}
use Rattle.sctp_streams.proofs.ReadableStreams.{count_is}
use Rattle.sctp_streams.proofs.StreamChanges.{closed_is_silent}
use Rattle.sctp_streams.proofs.WaitingBytes.{unchanged}
use Rattle.sctp_streams.proofs.streams.Streams.close_read_half.Goals as goal

pub invariant_of-self-2 : goal.invariant_of-self-2
invariant_of-self-2 c =
    let there = sym c.get_mut.ensures.value ∙ ap option_copied_mut c.in-Some.is in
    let last = c.close_read_half.new.self in
    let s = c.in-Some.stream.now in
    let old = c.self.inside.by_id in
    let new = set_value (is_at (nat_cmp c.args.id)) c.self.inside.by_id last in
    let silent = sym (ap gives_messages c.close_read_half.ensures ∙ closed_is_silent s) in (
      c.self.invariant.0 ∙ sym (unchanged c.args.id old new s last there refl
          (ap (λ (t : StreamView). t.reassembly) c.close_read_half.ensures)),
      c.recounted-self-inside.ensures ∙ count_is c.args.id old new s last there refl c.self.invariant.1
          c.gives_messages-gave.ensures silent c.len.ensures.len c.len.ensures.small,
    )
