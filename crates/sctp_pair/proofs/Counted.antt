-- Where few pieces are not acknowledged and few messages not read, each world is within the limits, and so it is safe.
use Rattle.std.proofs.Common.{◌≡◌, refl, sym, ap, ◌∙◌, subst, ℕ, ◌+◌, ◌-◌, ◌≤◌, arith, Bool, true, false, eqb, ◌&&◌}
use Rattle.std.proofs.Common.{if◌then◌else◌, is_some, List, [], ◌∷◌, ◌++◌, length, Option, Some, None}
use Rattle.std.proofs.lemmas.Bool.{ne_eqb, true≢false}
use Rattle.std.proofs.lemmas.List.{append-nil, length-append}
use Rattle.std.proofs.lemmas.List.Sums.{sum_by-append, sum_by-cons}
use Rattle.sctp_wire_types.specs.declared.ids.PayloadProtocolIdentifier.{PayloadProtocolIdentifier}
use Rattle.sctp_receive_queues.specs.Messages as letters
use Rattle.sctp_streams.specs.Stream.{StreamView}
use Rattle.sctp_streams.specs.Streams.{stream_at}
use Rattle.sctp_model.specs.Messages.{Message}
use Rattle.sctp_model.specs.Machine.{Direction}
use Rattle.sctp_model.specs.Reassembly.{Got}
use Rattle.sctp_model.specs.Safe.{IsWithin}
use Rattle.sctp_reassembly.specs.Stands.{IsReadAs}
use Rattle.sctp_fit.specs.Writes.{message_on}
use Rattle.sctp_fit.specs.FewPieces.{HasAccepted, all_pieces, pieces_in}
use Rattle.sctp_directions.specs.Acts.{type_on}
use Rattle.sctp_directions.specs.Between.{IsSound}
use Rattle.sctp_directions.proofs.Proved.{accepted_messages_are_counted, nothing_is_accepted_at_first}
use Rattle.sctp_assoc.specs.Shown.{Shown}
use Rattle.sctp_assoc.specs.declared.call.Reply.{Reply}
use Rattle.sctp_assoc.specs.declared.call.Reply.TheVariants as replies
use Rattle.sctp_steps.specs.declared.step.Side2.{Side2}
use Rattle.sctp_steps.specs.declared.step.Step.{Step}
use Rattle.sctp_steps.specs.Ends.{Ends, end_of}
use Rattle.sctp_steps.specs.Steps.{Runs, Steps, Writing, writing_of}
use Rattle.sctp_pair.specs.World.{IsDirectionStep, IsSafeWorld, IsWithinLimits, IsWorldStep, World, accepted_at}
use Rattle.sctp_steps.specs.Seen.{is_side, message_read, other_side}
use Rattle.sctp_pair.specs.World.{accepted_of, empty_world, messages_on}
use Rattle.sctp_pair.specs.Counted.{AreFew, FitsCounted, IsFew, LeadsCounted, RunsCounted, Tally, nothing_tallied}
use Rattle.sctp_pair.specs.Counted.{one_accepted, one_read, one_written, pieces_accepted, pieces_of, tallied_in}
use Rattle.sctp_pair.specs.Fits.{Fits, Stands}
use Rattle.sctp_fit.proofs.PlacesCounted.{offsets_counted}
use Rattle.sctp_pair.proofs.SinceBegun.{Since, begins, few_in_flight, goes_on}
use Rattle.sctp_pair.proofs.StepsLead.{step_leads}
use Rattle.sctp_pair.proofs.WaitingCounted.{waiting_counted}

-- The pieces of what a step accepts are counted

-- On each stream these messages were accepted behind those before, and the payload size stays.
record AcceptsMore (more : ℕ → List Message) (before after : Direction) : Type 0 where
  size : after.sender.plan.size ≡ before.sender.plan.size
  accepted : (s : ℕ) → after.sender.plan.accepted s ≡ before.sender.plan.accepted s ++ more s

-- nothing more was accepted
none_counted : {n : ℕ} {before after : Direction} → AcceptsMore (λ s. []) before after → HasAccepted n before
    → HasAccepted (n + 0) after
none_counted {n} {before} {after} c a =
    let stays = λ (s : ℕ). c.accepted s ∙ append-nil (before.sender.plan.accepted s) in
    accepted_messages_are_counted n 0 0 before after c.size (λ s ne. stays s)
    (let e = ap (λ (ms : List Message). all_pieces before.sender.plan.size ms) (stays 0) in omega (arith, e)) a

one_message : (size : ℕ) (o : Option StreamView) (named : Option PayloadProtocolIdentifier) (bytes : List ℕ)
    → all_pieces size (messages_on o named bytes) ≤ pieces_in size (length bytes)
one_message size None named bytes = omega arith
one_message size (Some t) named bytes =
    let e =
    sum_by-cons (λ (m : Message). pieces_in size (length m.bytes)) (message_on t (type_on t named) bytes) [] in
    omega (arith, e)

-- on one stream these messages were accepted, which have at most so many pieces
some_counted : (here : Bool) (id more : ℕ) (ms : List Message) {n : ℕ} {before after : Direction}
    → AcceptsMore (λ s. if here && eqb id s then ms else []) before after
    → all_pieces before.sender.plan.size ms ≤ more → HasAccepted n before
    → HasAccepted (n + (if here then more else 0)) after
some_counted false id more ms c most a = none_counted c a
some_counted true id more ms {n} {before} {after} c most a =
    accepted_messages_are_counted n more id before after c.size
    (λ s ne. c.accepted s ∙ ap (λ (z : Bool). before.sender.plan.accepted s ++ (if z then ms else []))
    (ne_eqb id s (λ (q : id ≡ s). ne (sym q))) ∙ append-nil (before.sender.plan.accepted s))
    grown a
  where
    grown : all_pieces before.sender.plan.size (after.sender.plan.accepted id)
        ≤ all_pieces before.sender.plan.size (before.sender.plan.accepted id) + more
    grown =
        let e = ap (λ (xs : List Message). all_pieces before.sender.plan.size xs) (c.accepted id) in
        let f =
        sum_by-append (λ (m : Message). pieces_in before.sender.plan.size (length m.bytes))
        (before.sender.plan.accepted id) (if eqb id id then ms else []) in
        let g = at_most (eqb id id) in
        omega (arith, e, f, g)
      where
        at_most : (z : Bool) → all_pieces before.sender.plan.size (if z then ms else []) ≤ more
        at_most true = most
        at_most false = omega arith

writing_counted : (x : Side2) (writing : Option Writing) (r : Reply) (w : World) {n : ℕ} {before after : Direction}
    → AcceptsMore (λ s. accepted_of writing r x s w) before after → HasAccepted n before
    → HasAccepted (n + pieces_accepted before.sender.plan.size x writing r) after
writing_counted x (Some y) (replies.Wrote count) w {n} {before} c a =
    let o : Option StreamView = stream_at (end_of x w.ends).streams y.id in
    some_counted (is_side y.side x) y.id (pieces_in before.sender.plan.size (length y.bytes))
    (messages_on o y.named y.bytes) c (one_message before.sender.plan.size o y.named y.bytes) a
writing_counted x writing r w c a = none_counted c a

-- The messages that a step accepts or reads are counted

one_on : (o : Option StreamView) (named : Option PayloadProtocolIdentifier) (bytes : List ℕ)
    → length (messages_on o named bytes) ≤ 1
one_on None named bytes = omega arith
one_on (Some t) named bytes = omega arith

one_if : (here : Bool) (ms : List Message) → length ms ≤ 1
    → length (if here then ms else []) ≤ (if here then 1 else 0)
one_if true ms l = l
one_if false ms l = omega arith

accepted_one : (writing : Option Writing) (r : Reply) (x : Side2) (s : ℕ) (w : World)
    → length (accepted_of writing r x s w) ≤ one_accepted writing r x s
accepted_one (Some y) (replies.Wrote count) x s w =
    let o : Option StreamView = stream_at (end_of x w.ends).streams y.id in
    one_if (is_side y.side x && eqb y.id s) (messages_on o y.named y.bytes) (one_on o y.named y.bytes)
accepted_one writing r x s w = omega arith

reads_grow : (m : Option letters.ReceivedMessage) (before after : List Got) → IsReadAs m before after
    → length after ≡ length before + (if is_some m then 1 else 0)
reads_grow None before after e = let f = ap (λ (gs : List Got). length gs) e in omega (arith, f)
reads_grow (Some m) before after (g, e, l) =
    let f = ap (λ (gs : List Got). length gs) e in
    let more = length-append before (g ∷ []) in
    omega (arith, f, more)

-- On each stream, at most so many of the messages that were accepted were not read.
abbrev pub IsRead : (ℕ → ℕ) → Direction → Type 0
IsRead waiting w = (s : ℕ) → length (w.sender.plan.accepted s) ≤ length (w.reads s) + waiting s

-- A step of the direction from side x.
module _ {x : Side2} {step : Step} {r : Reply} {w : World} {q : Ends} {initial : ℕ} {before after : Direction}
    (h : IsDirectionStep step r x (other_side x) w q initial before after) where
  pub pieces_counted : {n : ℕ} → HasAccepted n before
      → HasAccepted (n + pieces_of before.sender.plan.size x step r) after
  pieces_counted a =
      let more : AcceptsMore (λ s. accepted_at step r x s w) before after =
      record { size = h.size; accepted = h.accepted } in
      writing_counted x (writing_of step) r w more a

  pub reads_counted : (waiting : ℕ → ℕ) → IsRead waiting before
      → IsRead (λ s. waiting s + one_written step r x s - one_read step r (other_side x) s) after
  reads_counted waiting a s =
      let grown = ap (λ (ms : List Message). length ms) (h.accepted s) in
      let both = length-append (before.sender.plan.accepted s) (accepted_at step r x s w) in
      let one = accepted_one (writing_of step) r x s w in
      let read =
      reads_grow (message_read step r (other_side x) s) (before.reads s) (after.reads s) (h.read s) in
      let old = a s in
      omega (arith, grown, both, one, read, old)

  -- Side x stands between the next direction and what comes, and these are since a call that began at `begin`.
  module _ {loose : ℕ → Bool} {own peer : ℕ} {coming : Direction} {begin : Shown}
      (stands : Stands loose own peer (end_of x q) after coming) (since : Since initial begin after coming) where
    -- Where few are left, the next direction is within the limits.
    pub stays_within : {pieces : ℕ} {waiting : ℕ → ℕ} → IsFew pieces waiting initial begin → IsWithin before
        → IsSound after → HasAccepted pieces after → IsRead waiting after → IsWithin after
    stays_within {pieces} few within sound accepted read =
        let places = offsets_counted pieces after accepted sound.invariant in
        record {
          offsets = (let all = few.all in omega (arith, all, places));
          flight = few_in_flight h own peer stands begin pieces since few.flight places within.flight;
          unread = λ s span.
              let left = waiting_counted after s sound.invariant span in
              let some = read s in
              let most = few.waiting s in
              omega (arith, left, some, most);
        }

-- Steps of a pair

-- So it is of both sides since a call began.
record SinceBoth (begin : Ends) (w : World) : Type 0 where
  of_a : Since w.initial_a begin.a w.ab w.ba
  of_b : Since w.initial_b begin.b w.ba w.ab

both_begin : (t : Tally) (p : Ends) (w : World) → FitsCounted t p w → SinceBoth w.ends w
both_begin t p w f = record {
  of_a = begins w.initial_a w.initial_b w.ends.a w.ab w.ba f.fits.stand.side_a;
  of_b = begins w.initial_b w.initial_a w.ends.b w.ba w.ab f.fits.stand.side_b;
}

-- A step leads to a next world in which that is still so; where few are left, the world is safe.
LeadsSince : Ends → Step → Reply → World → Tally → Ends → Type 0
LeadsSince begin step r w t q =
    (v : World) × IsWorldStep step w r v × SinceBoth begin v
    × (AreFew (tallied_in w step r t) w.initial_a w.initial_b begin
    → IsSafeWorld v × FitsCounted (tallied_in w step r t) q v)

-- A step with this reply leads from p to q, and the pair fits the world w before it.
module _ (step : Step) (p q : Ends) (r : Reply) (h : Steps step p r q) (t : Tally) (w : World)
    (f : FitsCounted t p w) where
  leads_since : (begin : Ends) → SinceBoth begin w → LeadsSince begin step r w t q
  unfolding LeadsSince
  leads_since begin since =
      let x = step_leads step p q r h w f.fits in
      let v : World = x.0 in
      let ab = x.1.ab_step in
      let ba = x.1.ba_step in
      let since_a = goes_on since.of_a ab.reach_on ba.stays_closed in
      let since_b = goes_on since.of_b ba.reach_on ab.stays_closed in
      let of_a = pieces_counted ab f.of_a in
      let of_b = pieces_counted ba f.of_b in
      let read_a = reads_counted ab t.unread_a f.unread_a in
      let read_b = reads_counted ba t.unread_b f.unread_b in (
        v,
        x.1,
        record {
          of_a = subst (λ (z : ℕ). Since z begin.a v.ab v.ba) (sym x.1.same_a) since_a;
          of_b = subst (λ (z : ℕ). Since z begin.b v.ba v.ab) (sym x.1.same_b) since_b;
        },
        λ few.
            let within : IsWithinLimits v = (
              stays_within ab x.2.side_a since_a few.of_a f.fits.within.0 x.2.sound_ab of_a read_a,
              stays_within ba x.2.side_b since_b few.of_b f.fits.within.1 x.2.sound_ba of_b read_b,
            ) in (
              x.3 within,
              record {
                fits = record { within = within; stand = x.2 };
                of_a = of_a;
                of_b = of_b;
                unread_a = read_a;
                unread_b = read_b;
              },
            ),
      )

  -- The step leads to a world that is safe where few are left.
  pub step_leads_counted : LeadsCounted step r w t q
  unfolding LeadsSince
  step_leads_counted = let x = leads_since w.ends (both_begin t p w f) in (x.0, x.1, x.3)

-- So does a row of steps, since `begin` and up to q.
module _ (begin q : Ends) where
  rows_lead : (ss : List Step) (rs : List Reply) (p : Ends) → Runs ss rs p q → (t : Tally) (w : World)
      → FitsCounted t p w → SinceBoth begin w → RunsCounted ss rs w t begin q
  unfolding LeadsSince
  rows_lead [] [] p e t w fits since = subst (λ (z : Ends). FitsCounted t z w) (sym e) fits
  rows_lead (s ∷ ss) (r ∷ rs) p (u, first, rest) t w fits since =
      let x = leads_since s p u r first t w fits begin since in
      let next : Tally = tallied_in w s r t in (
        x.0,
        x.1,
        λ few.
            let y = x.3 few in (
              y.0,
              subst (λ (z : Ends). FitsCounted next z x.0) y.1.fits.stand.is y.1,
              rows_lead ss rs u rest next x.0 y.1 x.2,
            ),
      )
  rows_lead [] (r ∷ rs) p h t w fits since = absurd h
  rows_lead (s ∷ ss) [] p h t w fits since = absurd h

pub runs_lead_counted : (ss : List Step) (rs : List Reply) (p q : Ends) → Runs ss rs p q → (t : Tally) (w : World)
    → FitsCounted t p w → RunsCounted ss rs w t p q
runs_lead_counted ss rs p q h t w f =
    rows_lead p q ss rs p h t w f
    (subst (λ (z : Ends). SinceBoth z w) (sym f.fits.stand.is) (both_begin t p w f))

-- A pair that fits the empty world fits it with nothing tallied.
pub fits_with_none : (p : Ends) (initial_a initial_b size_a size_b : ℕ)
    → Fits p (empty_world p initial_a initial_b size_a size_b)
    → FitsCounted nothing_tallied p (empty_world p initial_a initial_b size_a size_b)
fits_with_none p initial_a initial_b size_a size_b f = record {
  fits = f;
  of_a = nothing_is_accepted_at_first size_a;
  of_b = nothing_is_accepted_at_first size_b;
  unread_a = λ s. omega arith;
  unread_b = λ s. omega arith;
}
