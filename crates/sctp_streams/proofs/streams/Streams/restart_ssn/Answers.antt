use Rattle.std.proofs.Common.{ap, ◌∙◌, sym, refl}
use Rattle.std.specs.BTreeMap.{is_at}
use Rattle.std.specs.Map.{set_value}
use Rattle.std.specs.Ordering.{nat_cmp}
use Rattle.std.specs.Option.{option_copied_mut}
use Rattle.sctp_streams.specs.Stream.{StreamView, gives_messages}
use Rattle.sctp_streams.proofs.ReadableStreams.{still_readable}
use Rattle.sctp_streams.proofs.WaitingBytes.{unchanged}
use Rattle.sctp_streams.proofs.streams.Streams.restart_ssn.Goals as goal

pub invariant_of-self-2 : goal.invariant_of-self-2
invariant_of-self-2 c =
    let there = sym c.get_mut.ensures.value ∙ ap option_copied_mut c.in-Some.is in
    let last = c.restart_ssn.new.self in
    let old = c.self.inside.by_id in
    let new = set_value (is_at (nat_cmp c.args.id)) c.self.inside.by_id last in (
      c.self.invariant.0 ∙ sym (unchanged c.args.id old new c.in-Some.stream.now last there refl
          (ap (λ (t : StreamView). t.reassembly) c.restart_ssn.ensures)),
      c.self.invariant.1 ∙ sym (still_readable c.args.id old new c.in-Some.stream.now last there refl
          (ap gives_messages c.restart_ssn.ensures)),
    )
