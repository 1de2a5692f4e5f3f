-- What is accepted on a stream within its span that is not loose is ordered and reliable.
use Rattle.std.proofs.Common.{◌≡◌, refl, sym, ap, ◌∙◌, subst, ℕ, Bool, true, false, eqb, if◌then◌else◌, List, []}
use Rattle.std.proofs.Common.{length, Option, Some, None}
use Rattle.std.proofs.lemmas.Bool.{eqb-true}
use Rattle.std.specs.List.{AllByRecursion}
use Rattle.sctp_wire_types.specs.declared.ids.PayloadProtocolIdentifier.{PayloadProtocolIdentifier}
use Rattle.sctp_streams.specs.Stream.{StreamView}
use Rattle.sctp_streams.specs.Streams.{stream_at}
use Rattle.sctp_model.specs.Messages.{Message}
use Rattle.sctp_model.specs.Machine.{Direction}
use Rattle.sctp_directions.specs.Acts.{type_on}
use Rattle.sctp_assoc.specs.Calls.{first_filled}
use Rattle.sctp_assoc.specs.Shown.{Shown}
use Rattle.sctp_sides.proofs.Proved.{accepted_writes_fit, established_is_not_closed}
use Rattle.sctp_assoc.specs.declared.call.Reply.{Reply}
use Rattle.sctp_assoc.specs.declared.call.Reply.TheVariants as replies
use Rattle.sctp_steps.specs.declared.step.Side2.{Side2}
use Rattle.sctp_steps.specs.declared.step.Side2.TheVariants as sides
use Rattle.sctp_steps.specs.declared.step.Step.{Step}
use Rattle.sctp_steps.specs.declared.step.Step.TheVariants as steps
use Rattle.sctp_steps.specs.Ends.{Ends}
use Rattle.sctp_pair.specs.Fits.{Fits, Stands}
use Rattle.sctp_assoc.specs.Replies.{Writes}
use Rattle.sctp_steps.specs.Steps.{AtSide, Steps, Writing}
use Rattle.sctp_steps.specs.Seen.{IsOpen}
use Rattle.sctp_pair.specs.World.{IsOrderedAndReliable, World, accepted_at, accepted_of, loose_of, messages_on}
use Rattle.sctp_pair.proofs.Promised.{stands_open}
use Rattle.sctp_pair.proofs.WriteCall.{first_none, message_in_order}

-- the direction of which a side is the sender
abbrev pub from : Side2 → World → Direction
from sides.A w = w.ab
from sides.B w = w.ba

in_order_if : (c : Bool) (ms : List Message) → (c ≡ true → AllByRecursion IsOrderedAndReliable ms)
    → AllByRecursion IsOrderedAndReliable (if c then ms else [])
in_order_if true ms h = h refl
in_order_if false ms h = tt

-- an accepted write was made on a live stream of an open association
written_in_order : {loose : ℕ → Bool} {own peer : ℕ} {a b : Shown} {out coming : Direction} (id n s : ℕ)
    (named : Option PayloadProtocolIdentifier) (bytes : List ℕ) → Stands loose own peer a out coming
    → out.over s ≡ false → loose s ≡ false → Writes a id named bytes (replies.Wrote n) b → eqb id s ≡ true
    → AllByRecursion IsOrderedAndReliable (messages_on (stream_at a.streams id) named bytes)
written_in_order {loose} {own} {peer} {a} {b} {out} {coming} id n s named bytes stands span tight h here =
    let can = accepted_writes_fit a id (length bytes) (first_none _ _ h.0) in
    let is_open : IsOpen a = (can.live.working, established_is_not_closed a can.established) in
    let open_there = stands_open own peer a out coming is_open stands in
    let t : StreamView = can.live.stream in
    let same : id ≡ s = eqb-true id s here in
    let kept = open_there.in_order id (ap out.over same ∙ span) (ap loose same ∙ tight) t can.live.there in
    subst (λ (o : Option StreamView). AllByRecursion IsOrderedAndReliable (messages_on o named bytes))
    (sym can.live.there) (message_in_order t (type_on t named) bytes kept, tt)

-- what a step asks to write
abbrev asked : Side2 → ℕ → Option PayloadProtocolIdentifier → List ℕ → Option Writing
asked side id named bytes = Some (record { side = side; id = id; named = named; bytes = bytes })

-- From the pair of the world, which fits it, a step with this reply leads to q.
module _ (step : Step) (r : Reply) (w : World) (q : Ends) (fits : Fits w.ends w) where
  wrote_in_order : (side x : Side2) (id n s : ℕ) (named : Option PayloadProtocolIdentifier) (bytes : List ℕ)
      → AtSide side w.ends (λ a b. Writes a id named bytes (replies.Wrote n) b) q → (from x w).over s ≡ false
      → loose_of x w s ≡ false
      → AllByRecursion IsOrderedAndReliable (accepted_of (asked side id named bytes) (replies.Wrote n) x s w)
  wrote_in_order sides.A sides.A id n s named bytes h span tight =
      in_order_if (eqb id s) (messages_on (stream_at w.ends.a.streams id) named bytes)
      (written_in_order id n s named bytes fits.stand.side_a span tight h.0)
  wrote_in_order sides.A sides.B id n s named bytes h span tight = tt
  wrote_in_order sides.B sides.A id n s named bytes h span tight = tt
  wrote_in_order sides.B sides.B id n s named bytes h span tight =
      in_order_if (eqb id s) (messages_on (stream_at w.ends.b.streams id) named bytes)
      (written_in_order id n s named bytes fits.stand.side_b span tight h.0)

  step_in_order : (a : Step) (reply : Reply) → Steps a w.ends reply q → (x : Side2) (s : ℕ)
      → (from x w).over s ≡ false → loose_of x w s ≡ false
      → AllByRecursion IsOrderedAndReliable (accepted_at a reply x s w)
  step_in_order (steps.Write side id bytes) (replies.Wrote n) h x s span tight =
      wrote_in_order side x id n s None bytes h span tight
  step_in_order (steps.WriteWithPpi side id bytes kind) (replies.Wrote n) h x s span tight =
      wrote_in_order side x id n s (Some kind) bytes h span tight
  step_in_order (steps.WriteSctp side id bytes kind) (replies.Wrote n) h x s span tight =
      wrote_in_order side x id n s (Some kind) bytes h span tight
  step_in_order (steps.WriteChunk side id bytes) (replies.Wrote n) h x s span tight =
      wrote_in_order side x id n s None bytes h span tight
  step_in_order (steps.WriteChunks side id chunks) (replies.Wrote n) h x s span tight =
      wrote_in_order side x id n s None (first_filled chunks.items) h span tight
  step_in_order a reply h x s span tight = tt

  pub accepted_in_order : Steps step w.ends r q → (x : Side2) (s : ℕ) → (from x w).over s ≡ false
      → loose_of x w s ≡ false
      → AllByRecursion IsOrderedAndReliable (accepted_at step r x s w)
  accepted_in_order h x s span tight = step_in_order step r h x s span tight
