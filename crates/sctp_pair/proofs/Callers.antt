-- Along the steps of a pair, what was written and read as the steps and their replies tell it is what its worlds have.
use Rattle.std.proofs.Common.{◌≡◌, refl, sym, ap, ◌∙◌, subst, ⊎_elim, ℕ, ◌<◌, Bool, true, false, eqb, ◌&&◌}
use Rattle.std.proofs.Common.{if◌then◌else◌, List, [], ◌∷◌, ◌++◌, length, Option, Some, None}
use Rattle.std.proofs.lemmas.Bool.{cases_Bool, true≢false}
use Rattle.std.proofs.lemmas.List.{append-nil, append_assoc, map-append}
use Rattle.std.specs.List.{AllByRecursion}
use Rattle.sctp_wire.specs.declared.packet.Packet.{Packet}
use Rattle.sctp_wire_types.specs.declared.ids.PayloadProtocolIdentifier.{PayloadProtocolIdentifier}
use Rattle.sctp_receive_queues.specs.Messages as letters
use Rattle.sctp_streams.specs.Stream.{StreamView}
use Rattle.sctp_streams.specs.Streams.{stream_at}
use Rattle.sctp_model.specs.Messages.{Message, message_at}
use Rattle.sctp_model.specs.Packets.{mem}
use Rattle.sctp_model.specs.Machine.{Direction}
use Rattle.sctp_serial.specs.Serial.{tsn}
use Rattle.sctp_model.specs.Safe.{IsSafe}
use Rattle.sctp_model.proofs.Lists.{all_join}
use Rattle.sctp_assoc.specs.Calls.{first_filled}
use Rattle.sctp_assoc.specs.Shown.{Shown}
use Rattle.sctp_sides.proofs.Proved.{accepted_writes_fit}
use Rattle.sctp_assoc.specs.declared.call.Reply.{Reply}
use Rattle.sctp_assoc.specs.declared.call.Reply.TheVariants as replies
use Rattle.sctp_steps.specs.declared.step.Side2.{Side2}
use Rattle.sctp_steps.specs.declared.step.Side2.TheVariants as sides
use Rattle.sctp_steps.specs.declared.step.Step.{Step}
use Rattle.sctp_steps.specs.declared.step.Step.TheVariants as steps
use Rattle.sctp_pair.specs.Callers.{CameBy, ComesOn, HoldsOn, IsFrontOf, LedSafely, Made, NothingIsReadBeforeADelivery}
use Rattle.sctp_pair.specs.Callers.{ReadsAreFronts, bytes_answered, bytes_of, bytes_read, bytes_written, delivers_to}
use Rattle.sctp_pair.specs.Callers.{tallied_by, tally_of, world_of}
use Rattle.sctp_pair.specs.Callers as callers
use Rattle.sctp_pair.specs.Callers.{AreAt, ReadsWereWritten, WrittenMessage, message_accepted, messages_of}
use Rattle.sctp_pair.specs.Callers.{messages_read, messages_written, stays_in_order, stays_in_span}
use Rattle.sctp_pair.specs.World.{IsOrderedAndReliable, loose_after, loose_of, loosens}
use Rattle.sctp_pair.proofs.WrittenIndexes.{AreTold, at_indexes, letters_grow, told_accepted, told_join}
use Rattle.sctp_model.specs.Safe.{AreDistinct, letter_read}
use Rattle.sctp_reassembly.specs.Stands.{letter_received}
use Rattle.std.proofs.lemmas.Bool.{and_parts}
use Rattle.std.specs.Prelude.{◌||◌, not, map}
use Rattle.sctp_pair.specs.Callers.{read_in, read_undelivered, written_in}
use Rattle.sctp_pair.specs.Counted.{FitsCounted, Tally, nothing_tallied}
use Rattle.sctp_steps.specs.Ends.{Ends}
use Rattle.sctp_assoc.specs.Replies.{Writes}
use Rattle.sctp_steps.specs.Steps.{AtSide, Runs, Steps, reading_of, writing_of}
use Rattle.sctp_pair.specs.World.{EndsSpan, HasData, IsDirectionStep, IsWorldStep, World, accepted_at, empty_world}
use Rattle.sctp_pair.specs.World.{ends_span}
use Rattle.sctp_steps.specs.Seen.{is_side, message_answered, message_read, other_side}
use Rattle.sctp_pair.specs.World.{accepted_of, messages_on}
use Rattle.sctp_pair.specs.World.{packet_brought}
use Rattle.sctp_pair.proofs.AcceptedAndRead.{writes}
use Rattle.sctp_pair.proofs.AcceptedInOrder.{from}
use Rattle.sctp_pair.proofs.Counted.{runs_lead_counted}
use Rattle.sctp_pair.proofs.CountedRuns.{begun_made, led_from, led_join}
use Rattle.sctp_pair.proofs.MessageBytes.{bytes_accepted, bytes_got, nothing_read_of_none, read_grows}
use Rattle.sctp_pair.proofs.MessageBytes.{reads_are_a_front}
use Rattle.sctp_pair.proofs.Promised.{safe_world}
use Rattle.sctp_pair.proofs.RunsJoined.{runs_join}
use Rattle.sctp_pair.proofs.WriteCall.{first_none}

-- One step

abbrev initial_of : Side2 → World → ℕ
initial_of sides.A w = w.initial_a
initial_of sides.B w = w.initial_b

step_from : {a : Step} {r : Reply} {w v : World} (x : Side2) → IsWorldStep a w r v
    → IsDirectionStep a r x (other_side x) w v.ends (initial_of x w) (from x w) (from x v)
step_from sides.A h = h.ab_step
step_from sides.B h = h.ba_step

told_read_if : (c : Bool) (m : Option letters.ReceivedMessage)
    → bytes_of (if c then m else None) ≡ (if c then bytes_of m else [])
told_read_if true m = refl
told_read_if false m = refl

told_answered : (reading : Option (Side2 × ℕ)) (r : Reply) (x : Side2) (s : ℕ)
    → bytes_of (message_answered reading r x s) ≡ bytes_answered reading r x s
told_answered (Some y) (replies.Read message) x s = told_read_if (is_side y.0 x && eqb y.1 s) message
told_answered reading r x s = refl

-- what a reply says of a read is what the reader of the model got
told_read : (a : Step) (r : Reply) (x : Side2) (s : ℕ) → bytes_of (message_read a r x s) ≡ bytes_read a r x s
told_read a r x s = told_answered (reading_of a) r x s

-- an accepted write was made on a live stream
wrote_live : (a b : Shown) (id count : ℕ) (named : Option PayloadProtocolIdentifier) (bytes : List ℕ)
    → Writes a id named bytes (replies.Wrote count) b
    → bytes_accepted (messages_on (stream_at a.streams id) named bytes) ≡ bytes ∷ []
wrote_live a b id count named bytes h =
    let can = accepted_writes_fit a id (length bytes) (first_none _ _ h.0) in
    ap (λ (o : Option StreamView). bytes_accepted (messages_on o named bytes)) can.live.there

wrote_if : (c : Bool) (ms : List Message) (bytes : List ℕ) → bytes_accepted ms ≡ bytes ∷ []
    → bytes_accepted (if c then ms else []) ≡ (if c then bytes ∷ [] else [])
wrote_if true ms bytes e = e
wrote_if false ms bytes e = refl

-- A step of the pair of the world w leads to q; s is a stream.
module _ (s : ℕ) (w : World) (q : Ends) where
  told_written_at : (side x : Side2) (id count : ℕ) (named : Option PayloadProtocolIdentifier) (bytes : List ℕ)
      → AtSide side w.ends (λ a b. Writes a id named bytes (replies.Wrote count) b) q
      → bytes_accepted (accepted_of (writes side id named bytes) (replies.Wrote count) x s w)
      ≡ callers.bytes_accepted (writes side id named bytes) (replies.Wrote count) x s
  told_written_at sides.A sides.A id count named bytes h =
      wrote_if (eqb id s) (messages_on (stream_at w.ends.a.streams id) named bytes) bytes
      (wrote_live w.ends.a q.a id count named bytes h.0)
  told_written_at sides.A sides.B id count named bytes h = refl
  told_written_at sides.B sides.A id count named bytes h = refl
  told_written_at sides.B sides.B id count named bytes h =
      wrote_if (eqb id s) (messages_on (stream_at w.ends.b.streams id) named bytes) bytes
      (wrote_live w.ends.b q.b id count named bytes h.0)

  -- what a reply says of a write is what was accepted
  told_written : (a : Step) (r : Reply) (x : Side2) → Steps a w.ends r q
      → bytes_accepted (accepted_at a r x s w) ≡ bytes_written a r x s
  told_written (steps.Write side id bytes) (replies.Wrote count) x h = told_written_at side x id count None bytes h
  told_written (steps.WriteWithPpi side id bytes kind) (replies.Wrote count) x h =
      told_written_at side x id count (Some kind) bytes h
  told_written (steps.WriteSctp side id bytes kind) (replies.Wrote count) x h =
      told_written_at side x id count (Some kind) bytes h
  told_written (steps.WriteChunk side id bytes) (replies.Wrote count) x h =
      told_written_at side x id count None bytes h
  told_written (steps.WriteChunks side id chunks) (replies.Wrote count) x h =
      told_written_at side x id count None (first_filled chunks.items) h
  told_written a r x h = refl

-- what one step told to be loose is so in the next world, and nothing else
loose_step : {a : Step} {r : Reply} {w v : World} (x : Side2) → IsWorldStep a w r v → (s : ℕ)
    → loose_of x v s ≡ loose_after a r x w s
loose_step sides.A h s = h.loose_a_is s
loose_step sides.B h s = h.loose_b_is s

not_so : (l : Bool) → not l ≡ true → l ≡ false
not_so true e = absurd (true≢false (sym e))
not_so false e = refl

-- Where none of these steps stops a stream, neither the first one nor any behind it does.
module _ (a : Step) (ss : List Step) (r : Reply) (rs : List Reply) (s : ℕ)
    (stays : stays_in_span (a ∷ ss) (r ∷ rs) s ≡ true) where
  stays_first : ends_span a r s ≡ false
  stays_first = not_so (ends_span a r s) (and_parts (not (ends_span a r s)) (stays_in_span ss rs s) stays).0

  stays_behind : stays_in_span ss rs s ≡ true
  stays_behind = (and_parts (not (ends_span a r s)) (stays_in_span ss rs s) stays).1

-- What rows of steps made of the direction of which side x is the sender, as they tell it; these streams were loose
-- before. What was written and read is told of each stream; what is kept in order, of each that was within its span
-- before and that none of the steps stopped or closed: it is within it after them, too.
record Grew (loose : ℕ → Bool) (ss : List Step) (rs : List Reply) (x : Side2) (before after : Direction) : Type 0 where
  written : (s : ℕ)
      → bytes_accepted (after.sender.plan.accepted s) ≡ bytes_accepted (before.sender.plan.accepted s)
      ++ written_in ss rs x s
  read : (s : ℕ) → bytes_got (after.reads s) ≡ bytes_got (before.reads s) ++ read_in ss rs (other_side x) s
  kept : (s : ℕ) → stays_in_span ss rs s ≡ true → before.over s ≡ false
      → stays_in_order ss rs x s ≡ true → loose s ≡ false
      → AllByRecursion IsOrderedAndReliable (before.sender.plan.accepted s)
      → AllByRecursion IsOrderedAndReliable (after.sender.plan.accepted s)
  told : (s : ℕ) (ws : List WrittenMessage) → AreTold (before.sender.plan.accepted s) ws
      → AreTold (after.sender.plan.accepted s) (ws ++ messages_written ss rs x s)
  letters : (s : ℕ)
      → map letter_read (after.reads s)
      ≡ map letter_read (before.reads s) ++ map letter_received (messages_read ss rs (other_side x) s)
  span : (s : ℕ) → stays_in_span ss rs s ≡ true → before.over s ≡ false → after.over s ≡ false

grew_nothing : (loose : ℕ → Bool) (x : Side2) (d : Direction) → Grew loose [] [] x d d
grew_nothing loose x d = record {
  written = λ s. sym (append-nil (bytes_accepted (d.sender.plan.accepted s)));
  read = λ s. sym (append-nil (bytes_got (d.reads s)));
  kept = λ s stays span ordered tight k. k;
  told = λ s ws t. subst (AreTold (d.sender.plan.accepted s)) (sym (append-nil ws)) t;
  letters = λ s. sym (append-nil (map letter_read (d.reads s)));
  span = λ s stays span. span;
}

not_brought : (a : Step) (r : Reply) (y : Side2) (w : World) → delivers_to y a r ≡ false → packet_brought a r y w ≡ None
not_brought (steps.Deliver side number now) replies.Done y w e = rw e refl
not_brought a r y w e = refl

-- One step of the world, seen in the direction of which side x is the sender.
module _ (x : Side2) {a : Step} {r : Reply} {w v : World} (h : IsWorldStep a w r v) where
  wrote_one : (s : ℕ)
      → bytes_accepted ((from x v).sender.plan.accepted s) ≡ bytes_accepted ((from x w).sender.plan.accepted s)
      ++ bytes_written a r x s
  wrote_one s =
      ap bytes_accepted ((step_from x h).accepted s)
      ∙ map-append (λ (m : Message). m.bytes) ((from x w).sender.plan.accepted s) (accepted_at a r x s w)
      ∙ ap (λ z. bytes_accepted ((from x w).sender.plan.accepted s) ++ z) (told_written s w v.ends a r x h.ends_step)

  read_one : (s : ℕ)
      → bytes_got ((from x v).reads s) ≡ bytes_got ((from x w).reads s) ++ bytes_read a r (other_side x) s
  read_one s =
      read_grows (message_read a r (other_side x) s) ((from x w).reads s) ((from x v).reads s)
      ((step_from x h).read s)
      ∙ ap (λ z. bytes_got ((from x w).reads s) ++ z) (told_read a r (other_side x) s)

  -- only a step that stops a stream ends its span
  span_one : (s : ℕ) → ends_span a r s ≡ false → (from x w).over s ≡ false → (from x v).over s ≡ false
  span_one s unstopped still =
      ⊎_elim
      (λ (over : (from x v).over s ≡ true). ⊎_elim
      (λ (before : (from x w).over s ≡ true). absurd (true≢false (sym before ∙ still)))
      (λ (ends : EndsSpan a r s). absurd (true≢false (sym ends ∙ unstopped)))
      ((step_from x h).span s over))
      (λ (within : (from x v).over s ≡ false). within)
      (cases_Bool ((from x v).over s))

  tight_on : (s : ℕ) → loose_of x w s ≡ false → loosens a r x s ≡ false → loose_of x v s ≡ false
  tight_on s tight l =
      loose_step x h s ∙ ap (λ z. z || loosens a r x s) tight ∙ l

  letters_one : (s : ℕ) → map letter_read ((from x v).reads s)
      ≡ map letter_read ((from x w).reads s) ++ map letter_received (messages_of (message_read a r (other_side x) s))
  letters_one s =
      letters_grow (message_read a r (other_side x) s) ((from x w).reads s) ((from x v).reads s)
      ((step_from x h).read s)

  told_one : (s : ℕ) (ws : List WrittenMessage) → AreTold ((from x w).sender.plan.accepted s) ws
      → AreTold ((from x v).sender.plan.accepted s) (ws ++ message_accepted (writing_of a) r x s)
  told_one s ws t =
      subst (λ z. AreTold z (ws ++ message_accepted (writing_of a) r x s)) (sym ((step_from x h).accepted s))
      (told_join ((from x w).sender.plan.accepted s) ws (accepted_at a r x s w) (message_accepted (writing_of a) r x s)
      t (told_accepted s w v.ends a r x h.ends_step))

  grew_on : {ss : List Step} {rs : List Reply} {after : Direction} → Grew (loose_of x v) ss rs x (from x v) after
      → Grew (loose_of x w) (a ∷ ss) (r ∷ rs) x (from x w) after
  grew_on {ss} {rs} {after} more = record {
    written = λ s. more.written s ∙ ap (λ z. z ++ written_in ss rs x s) (wrote_one s)
        ∙ append_assoc (bytes_accepted ((from x w).sender.plan.accepted s)) (bytes_written a r x s)
        (written_in ss rs x s);
    read = λ s. more.read s ∙ ap (λ z. z ++ read_in ss rs (other_side x) s) (read_one s)
        ∙ append_assoc (bytes_got ((from x w).reads s)) (bytes_read a r (other_side x) s)
        (read_in ss rs (other_side x) s);
    kept = λ s stays span ordered tight k.
        let both = and_parts (not (loosens a r x s)) (stays_in_order ss rs x s) ordered in
        more.kept s (stays_behind a ss r rs s stays) (span_on s stays span) both.1
        (tight_on s tight (not_so (loosens a r x s) both.0))
        (subst (AllByRecursion IsOrderedAndReliable) (sym ((step_from x h).accepted s))
        (all_join IsOrderedAndReliable ((from x w).sender.plan.accepted s) (accepted_at a r x s w) k
        ((step_from x h).in_order s span tight)));
    told = λ s ws t.
        subst (AreTold (after.sender.plan.accepted s))
        (append_assoc ws (message_accepted (writing_of a) r x s) (messages_written ss rs x s))
        (more.told s (ws ++ message_accepted (writing_of a) r x s) (told_one s ws t));
    letters = λ s. more.letters s
        ∙ ap (λ z. z ++ map letter_received (messages_read ss rs (other_side x) s)) (letters_one s)
        ∙ append_assoc (map letter_read ((from x w).reads s))
        (map letter_received (messages_of (message_read a r (other_side x) s)))
        (map letter_received (messages_read ss rs (other_side x) s))
        ∙ ap (λ z. map letter_read ((from x w).reads s) ++ z)
        (sym (map-append letter_received (messages_of (message_read a r (other_side x) s))
        (messages_read ss rs (other_side x) s)));
    span = λ s stays span. more.span s (stays_behind a ss r rs s stays) (span_on s stays span);
  }
    where
      -- the step stops none of these streams
      span_on : (s : ℕ) → stays_in_span (a ∷ ss) (r ∷ rs) s ≡ true → (from x w).over s ≡ false
          → (from x v).over s ≡ false
      span_on s stays span = span_one s (stays_first a ss r rs s stays) span

  -- where nothing is delivered to the receiver, it takes nothing in
  untaken_on : delivers_to (other_side x) a r ≡ false
      → ((o : ℕ) → mem o (from x w).receiver.taken ≡ true → ⊥) → (o : ℕ) → mem o (from x v).receiver.taken ≡ true → ⊥
  untaken_on none before o m =
      ⊎_elim
      (λ (old : mem o (from x w).receiver.taken ≡ true). before o old)
      (λ (b : HasData (packet_brought a r (other_side x) w) (tsn (initial_of x w) o)).
      subst (λ (z : Option Packet). HasData z (tsn (initial_of x w) o)) (not_brought a r (other_side x) w none) b)
      ((step_from x h).taken o m)

-- Rows of steps

-- the last world of a run
record Reached (ss : List Step) (rs : List Reply) (w : World) (q : Ends) : Type 0 where
  last : World
  tally : Tally
  fits : FitsCounted tally q last
  grew : (x : Side2) → Grew (loose_of x w) ss rs x (from x w) (from x last)

reached : (m : Made) (ss : List Step) (rs : List Reply) (w : World) (t : Tally) (q : Ends) → LedSafely m ss rs w t q
    → Reached ss rs w q
reached m [] [] w t q h = record {
  last = w;
  tally = t;
  fits = h;
  grew = λ x. grew_nothing (loose_of x w) x (from x w);
}
reached m (a ∷ ss) (r ∷ rs) w t q (v, step, safe, fits, next) =
    let rest = reached m ss rs v (tallied_by m a r t) q next in
    record {
      last = rest.last;
      tally = rest.tally;
      fits = rest.fits;
      grew = λ x. grew_on x step (rest.grew x);
    }
reached m [] (r ∷ rs) w t q h = absurd h
reached m (a ∷ ss) [] w t q h = absurd h

-- in a world that a pair fits each stream within its span is safe, and no message is empty
safe_from : {t : Tally} {p : Ends} {w : World} (x : Side2) (s : ℕ) → FitsCounted t p w → (from x w).over s ≡ false
    → IsSafe (from x w) s
safe_from {t} {p} {w} sides.A s f span = (safe_world p w f.fits).ab_safe.safe s span
safe_from {t} {p} {w} sides.B s f span = (safe_world p w f.fits).ba_safe.safe s span

filled_from : {t : Tally} {p : Ends} {w : World} (x : Side2) (s : ℕ) → FitsCounted t p w
    → (i : ℕ) → i < length ((from x w).sender.plan.accepted s)
    → 0 < length (message_at (from x w).sender.plan s i).bytes
filled_from sides.A s f i b = f.fits.stand.sound_ab.invariant.planned.filled s i b
filled_from sides.B s f i b = f.fits.stand.sound_ba.invariant.planned.filled s i b

-- At first nothing was accepted, read or taken in, and no stream's span is over.
record NothingHappened (d : Direction) : Type 0 where
  accepted : (s : ℕ) → d.sender.plan.accepted s ≡ []
  unread : (s : ℕ) → d.reads s ≡ []
  untaken : (o : ℕ) → mem o d.receiver.taken ≡ true → ⊥
  within : (s : ℕ) → d.over s ≡ false

fresh_from : (x : Side2) (p : Ends) (initial_a initial_b size_a size_b : ℕ)
    → NothingHappened (from x (empty_world p initial_a initial_b size_a size_b))
fresh_from sides.A p initial_a initial_b size_a size_b =
    record { accepted = λ s. refl; unread = λ s. refl; untaken = λ o m. true≢false (sym m); within = λ s. refl }
fresh_from sides.B p initial_a initial_b size_a size_b =
    record { accepted = λ s. refl; unread = λ s. refl; untaken = λ o m. true≢false (sym m); within = λ s. refl }

-- Steps made the direction from side x, in which nothing had happened, what it is after them. None of them stopped
-- stream s, which is safe there if its span is not over.
module _ {loose : ℕ → Bool} {ss : List Step} {rs : List Reply} {x : Side2} {before after : Direction}
    (first : NothingHappened before) (grew : Grew loose ss rs x before after) (s : ℕ)
    (stays : stays_in_span ss rs s ≡ true) (safe : after.over s ≡ false → IsSafe after s) where
  front_along : loose s ≡ false → stays_in_order ss rs x s ≡ true
      → IsFrontOf (read_in ss rs (other_side x) s) (written_in ss rs x s)
  front_along tight ordered =
      let within = first.within s in
      let kept =
      grew.kept s stays within ordered tight (subst (AllByRecursion IsOrderedAndReliable) (sym (first.accepted s)) tt)
      in
      let front = reads_are_a_front after s (safe (grew.span s stays within)) kept in
      let wrote : bytes_accepted (after.sender.plan.accepted s) ≡ written_in ss rs x s =
      grew.written s ∙ ap (λ ms. bytes_accepted ms ++ written_in ss rs x s) (first.accepted s) in
      let read : bytes_got (after.reads s) ≡ read_in ss rs (other_side x) s =
      grew.read s ∙ ap (λ gs. bytes_got gs ++ read_in ss rs (other_side x) s) (first.unread s) in
      (front.0, sym wrote ∙ front.1 ∙ ap (λ z. z ++ front.0) read)

  -- each message that was read was written at an index of its own
  written_along : (indexes : List ℕ) × AreDistinct indexes
      × AreAt (messages_read ss rs (other_side x) s) indexes (messages_written ss rs x s)
  written_along =
      let within = first.within s in
      let named = (safe (grew.span s stays within)).read in
      let told = grew.told s [] (subst (λ ms. AreTold ms []) (sym (first.accepted s)) tt) in
      let letters : map letter_read (after.reads s) ≡ map letter_received (messages_read ss rs (other_side x) s) =
      grew.letters s
      ∙ ap (λ gs. map letter_read gs ++ map letter_received (messages_read ss rs (other_side x) s))
      (first.unread s) in (
        named.0,
        named.1.once,
        at_indexes after.sender.plan after.receiver.taken s (after.reads s) named.0
            (messages_read ss rs (other_side x) s) (messages_written ss rs x s) named.1.named letters told,
      )

-- Before the first delivery

nothing_behind : (xs ys : List (List ℕ)) → [] ≡ xs ++ ys → ys ≡ []
nothing_behind [] ys e = sym e
nothing_behind (x ∷ xs) ys e = absurd (cc)

module _ (m : Made) (x : Side2) (s : ℕ) (q : Ends) where
  -- where nothing was taken in, nothing is read on a stream within its span until a packet was handed over, as long as
  -- no step stops it
  bare : (ss : List Step) (rs : List Reply) (w : World) (t : Tally) → LedSafely m ss rs w t q
      → stays_in_span ss rs s ≡ true → ((o : ℕ) → mem o (from x w).receiver.taken ≡ true → ⊥)
      → (from x w).over s ≡ false → read_undelivered ss rs (other_side x) s ≡ []
  bare [] [] w t h stays none span = refl
  bare (a ∷ ss) (r ∷ rs) w t (v, step, safe, fits, next) stays none span =
      ⊎_elim
      (λ (b : delivers_to (other_side x) a r ≡ true). rw b refl)
      (λ (b : delivers_to (other_side x) a r ≡ false).
      let still = untaken_on x step b none in
      let within = span_one x step s (stays_first a ss r rs s stays) span in
      let unread = nothing_read_of_none (from x v) s (safe_from x s fits within) still (filled_from x s fits) in
      let this : bytes_read a r (other_side x) s ≡ [] =
      nothing_behind (bytes_got ((from x w).reads s)) (bytes_read a r (other_side x) s)
      (sym (ap bytes_got unread) ∙ read_one x step s) in
      rw (b, this) (bare ss rs v (tallied_by m a r t) next (stays_behind a ss r rs s stays) still within))
      (cases_Bool (delivers_to (other_side x) a r))
  bare [] (r ∷ rs) w t h stays none span = absurd h
  bare (a ∷ ss) [] w t h stays none span = absurd h

turned_back : (x : Side2) → other_side (other_side x) ≡ x
turned_back sides.A = refl
turned_back sides.B = refl

-- All steps so far

-- the world of a new pair from which these steps led
abbrev begun : {m : Made} {ss : List Step} {rs : List Reply} {p : Ends} → CameBy m ss rs p → World
begun {m} c = world_of m c.begin

begun_fresh : {m : Made} {ss : List Step} {rs : List Reply} {p : Ends} (c : CameBy m ss rs p) (x : Side2)
    → NothingHappened (from x (begun c))
begun_fresh {m} c x = fresh_from x c.begin m.initial_a m.initial_b m.size_a m.size_b

begun_tight : {m : Made} {ss : List Step} {rs : List Reply} {p : Ends} (c : CameBy m ss rs p) (x : Side2) (s : ℕ)
    → loose_of x (begun c) s ≡ false
begun_tight c sides.A s = refl
begun_tight c sides.B s = refl

-- These steps led from a new pair.
module _ {m : Made} {ss : List Step} {rs : List Reply} {p : Ends} (c : CameBy m ss rs p) where
  -- What was read is a front of what was written.
  fronts : ReadsAreFronts ss rs
  fronts x s stays ordered =
      let r = reached m ss rs (begun c) nothing_tallied p c.safely in
      front_along (begun_fresh c x) (r.grew x) s stays (safe_from x s r.fits) (begun_tight c x s) ordered

  -- Each message that was read was written.
  were_written : ReadsWereWritten ss rs
  were_written x s stays =
      let r = reached m ss rs (begun c) nothing_tallied p c.safely in
      written_along (begun_fresh c x) (r.grew x) s stays (safe_from x s r.fits)

  -- Until a packet was handed to a side nothing is read there.
  unbrought : NothingIsReadBeforeADelivery ss rs
  unbrought x s stays =
      let first = begun_fresh c (other_side x) in
      subst (λ y. read_undelivered ss rs y s ≡ []) (turned_back x)
      (bare m (other_side x) s p ss rs (begun c) nothing_tallied c.safely stays first.untaken (first.within s))

-- These steps lead on from p to q.
module _ (more : List Step) (answers : List Reply) (p q : Ends) (led : Runs more answers p q) where
  -- they follow those that led to p
  unfoldable pub comes_on : ComesOn more answers p q
  comes_on m ss rs c few = record {
    begin = c.begin;
    new = c.new;
    led = runs_join ss rs c.begin p q more answers c.led led;
    safely =
        led_join m ss rs more answers p q (begun c) nothing_tallied (begun_made m c.begin) c.safely
        (λ w made fits. led_from m p more answers w (tally_of m ss rs) q made
        (runs_lead_counted more answers p q led (tally_of m ss rs) w fits) few);
  }

  pub fronts_on : HoldsOn ReadsAreFronts more answers p
  fronts_on m ss rs c few = fronts (comes_on m ss rs c few)

  pub were_written_on : HoldsOn ReadsWereWritten more answers p
  were_written_on m ss rs c few = were_written (comes_on m ss rs c few)

  pub unbrought_on : HoldsOn NothingIsReadBeforeADelivery more answers p
  unbrought_on m ss rs c few = unbrought (comes_on m ss rs c few)
