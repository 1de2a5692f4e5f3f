-- What a piece in flight counts is how often the DATA of its offset was given out, whatever acts are done.
use Rattle.std.proofs.Common.{◌≡◌, refl, sym, ap, ◌∙◌, ℕ, zero, suc, ◌<◌, ◌≤◌, ◌+◌, ◌-◌, ◌^◌, arith, Bool}
use Rattle.std.proofs.Common.{true, false, not, ◌==◌, if◌then◌else◌, List, [], ◌∷◌, ◌++◌, drop, length, map}
use Rattle.std.proofs.Common.{slice_get, slice_set, take, Option, Some, None, is_some}
use Rattle.std.proofs.lemmas.Bool.{false≢true, ltb-false, not-true}
use Rattle.std.proofs.lemmas.List.{length-map, map-append}
use Rattle.std.proofs.lemmas.Option.{slice_get-map}
use Rattle.std.specs.Prelude.{⊤}
use Rattle.std.specs.Option.{option_map}
use Rattle.sctp_wire_types.specs.declared.ids.PayloadProtocolIdentifier.{PayloadProtocolIdentifier}
use Rattle.sctp_wire_types.specs.declared.reliability.Policy.{Policy}
use Rattle.sctp_wire_types.specs.declared.reliability.Policy.TheVariants.{Rexmit}
use Rattle.sctp_outbound_queue.specs.declared.message.Attributes.{Attributes}
use Rattle.sctp_outbound_queue.specs.declared.message.InFlight.{InFlight}
use Rattle.sctp_outbound_queue.specs.declared.message.Reports.{Reports}
use Rattle.sctp_outbound_queue.specs.declared.message.Retransmission.{Retransmission}
use Rattle.sctp_outbound_queue.specs.declared.message.Retransmission.TheVariants as causes
use Rattle.sctp_outbound_queue.specs.Message.{acked, counted_again, flagged, is_of, is_outstanding, marked_again}
use Rattle.sctp_outbound_queue.specs.Message.{is_reported, marker_of, misses_after, one_sending_more}
use Rattle.sctp_outbound_queue.specs.Message.{reported_missing, sent_once, sent_started, stays_resent}
use Rattle.sctp_outbound_queue.specs.Outbound.{Outbound, changed_from, sent_from, tail_dropped_from}
use Rattle.sctp_outbound_queue.specs.Waiting.{Waiting}
use Rattle.sctp_streams.specs.Stream.{StreamView}
use Rattle.sctp_streams.specs.Streams.{stream_at}
use Rattle.sctp_outbound.specs.Abandonment.{allows_no_more, is_spent}
use Rattle.sctp_outbound.specs.GapAcks.{acked_among}
use Rattle.sctp_directions.specs.Acts.{Act, Can, CanAll, Parts, done, done_all, is_acknowledged_by, with_abandoned}
use Rattle.sctp_directions.specs.Acts.{with_dropped, with_tail_abandoned, with_written}
use Rattle.sctp_assoc.proofs.PolledData.{get_behind}
use Rattle.sctp_sides.specs.Lifetimes.{GivesUnder, is_that, message_given, offset_given, times_given}
use Rattle.sctp_sides.proofs.SentCounts.{IsUnder, Stands, Tally, again_stand, dropped_stand, get_set_there}
use Rattle.sctp_sides.proofs.SentCounts.{is_given_at, nothing_there, same_value, sent_stand, stand_as}
use Rattle.sctp_sides.proofs.SentCounts.{stands_kept, turned_stand, unsent_stand}

-- Counts of pieces

abbrev pub tally : InFlight → Tally
tally x = (x.sent_count, x.message.policy)

abbrev pub tallies : List InFlight → List Tally
tallies xs = map tally xs

tally_at : (xs : List InFlight) (index : ℕ) (x : InFlight) → slice_get xs index ≡ Some x
    → slice_get (tallies xs) index ≡ Some (tally x)
tally_at xs index x e = slice_get-map tally xs index ∙ ap (λ (z : Option InFlight). option_map tally z) e

tallies_set : (xs : List InFlight) (index : ℕ) (x : InFlight)
    → tallies (slice_set xs index x) ≡ slice_set (tallies xs) index (tally x)
tallies_set [] index x = refl
tallies_set (y ∷ ys) zero x = refl
tallies_set (y ∷ ys) (suc index) x = ap (λ (z : List Tally). tally y ∷ z) (tallies_set ys index x)

tallies_dropped : (n : ℕ) (xs : List InFlight) → tallies (drop n xs) ≡ drop n (tallies xs)
tallies_dropped zero [] = refl
tallies_dropped zero (x ∷ xs) = refl
tallies_dropped (suc n) [] = refl
tallies_dropped (suc n) (x ∷ xs) = tallies_dropped n xs

-- what leaves each count and each policy
alike : (f : InFlight → InFlight) → ((x : InFlight) → tally (f x) ≡ tally x) → (xs : List InFlight)
    → tallies (map f xs) ≡ tallies xs
alike f same [] = refl
alike f same (x ∷ xs) = rw (same x, alike f same xs) refl

acked_if : (c : Bool) (x : InFlight) → tally (if c then acked x else x) ≡ tally x
acked_if true x = refl
acked_if false x = refl

among_alike : (named : ℕ → Bool) (j : ℕ) (xs : List InFlight) → tallies (acked_among named j xs) ≡ tallies xs
among_alike named j [] = refl
among_alike named j (x ∷ xs) = rw (acked_if (named j) x, among_alike named (suc j) xs) refl

marked_if : (c : Bool) (x : InFlight) → tally (if c then record x { retransmit = true } else x) ≡ tally x
marked_if true x = refl
marked_if false x = refl

flagged_if : (c : Bool) (x : InFlight)
    → tally (if c then record x { abandoned = true; retransmit = false } else x) ≡ tally x
flagged_if true x = refl
flagged_if false x = refl

reported_if : (c : Bool) (r : Reports) (x : InFlight)
    → tally (if c then record x { misses = misses_after r x; resent = stays_resent r.among x } else x) ≡ tally x
reported_if true r x = refl
reported_if false r x = refl

reported_alike : (r : Reports) (n : ℕ) (xs : List InFlight)
    → tallies (map (reported_missing r) (take n xs) ++ drop n xs) ≡ tallies xs
reported_alike r zero xs = refl
reported_alike r (suc n) [] = refl
reported_alike r (suc n) (x ∷ xs) = rw (reported_if (is_reported r x) r x, reported_alike r n xs) refl

-- one sending more counts
counted_tally : (by : Retransmission) (x : InFlight)
    → tally (counted_again by x) ≡ (one_sending_more x.sent_count, x.message.policy)
counted_tally causes.Timer x = refl
counted_tally causes.Fast x = refl

-- Acts

-- a piece is there, and may go out again
abbrev pub is_spared : Option InFlight → Bool
is_spared None = false
is_spared (Some x) = not (is_spent x)

-- an act gives no piece out again that was sent as often as its policy allows
abbrev pub Spares : Act → Parts → Type 0
Spares (Act.SentAgain at_once by index) p = is_spared (slice_get p.queue.in_flight index) ≡ true
Spares act p = ⊤

abbrev pub AllSpare : List Act → Parts → Type 0
AllSpare [] p = ⊤
AllSpare (x ∷ xs) p = Spares x p × AllSpare xs (done x p)

-- the offset o stands so in what is in flight
abbrev pub StandsIn : Bool → ℕ → ℕ → ℕ → Parts → Type 0
StandsIn under n o t p = Stands under n o t p.history.base (tallies p.queue.in_flight)

spared_count : (n : ℕ) (policy : Policy) (count : ℕ) → not (allows_no_more policy count) ≡ true → policy ≡ Rexmit n
    → count ≤ n
spared_count n policy count e is =
    ltb-false n count (ap (λ (z : Policy). allows_no_more z count) (sym is) ∙ not-true (allows_no_more policy count) e)

-- Where it stands after each kind of act, for every bound n that counts reach.
module _ (under : Bool) (n o t : ℕ) (small : n < 2 ^ 32 - 1) where
  -- nothing in flight and no offset changed, but for what no count tells
  same_stands : (p q : Parts) → q.history.base ≡ p.history.base
      → tallies q.queue.in_flight ≡ tallies p.queue.in_flight → StandsIn under n o t p → StandsIn under n o (0 + t) q
  same_stands p q base same h = let none : 0 + t ≡ t = omega arith in rw (none, base, same) h

  written_stands : (s : Option StreamView) (p : Parts) (id : ℕ) (named : Option PayloadProtocolIdentifier)
      (bytes : List ℕ) → StandsIn under n o t p → StandsIn under n o (0 + t) (with_written s p id named bytes)
  written_stands None p id named bytes h = same_stands p p refl refl h
  written_stands (Some s) p id named bytes h = same_stands p (with_written (Some s) p id named bytes) refl refl h

  sent_stands : (ms : List Waiting) (now : ℕ) (p : Parts) → is_some (slice_get ms 0) ≡ true → StandsIn under n o t p
      → StandsIn under n o (is_given_at o (p.history.base + length p.queue.in_flight) + t)
      (record p { queue = sent_from ms p.queue now })
  sent_stands [] now p can h = absurd (false≢true can)
  sent_stands (m ∷ ms) now p can h =
      stand_as
      (ap (λ (l : ℕ). is_given_at o (p.history.base + l) + t) (sym (length-map p.queue.in_flight tally)))
      (map-append tally p.queue.in_flight (sent_once now m ∷ []))
      (sent_stand under n o t p.history.base (tallies p.queue.in_flight) m.message.policy h)

  again_stands : (x : Option InFlight) (by : Retransmission) (index : ℕ) (p : Parts)
      → slice_get p.queue.in_flight index ≡ x → is_spared x ≡ true → StandsIn under n o t p
      → StandsIn under n o (is_given_at o (p.history.base + index) + t)
      (record p { queue = changed_from (counted_again by) x p.queue index })
  again_stands None by index p e spared h = absurd (false≢true spared)
  again_stands (Some x) by index p e spared h =
      stand_as refl
      (tallies_set p.queue.in_flight index (counted_again by x)
      ∙ ap (λ (z : Tally). slice_set (tallies p.queue.in_flight) index z) (counted_tally by x))
      (again_stand under n o t p.history.base index (tally x) (tallies p.queue.in_flight) small
      (tally_at p.queue.in_flight index x e) (spared_count n x.message.policy x.sent_count spared) h)

  -- a message may have a tail that is dropped
  tail_stands : (ms : List Waiting) (q : Outbound) (id base : ℕ) → Stands under n o t base (tallies q.in_flight)
      → Stands under n o t base (tallies (tail_dropped_from ms q id).0.in_flight)
  tail_stands [] q id base h = h
  tail_stands (m ∷ ms) q id base h =
      tail_if (m.message.message_id == id) _ q _ _
      (stand_as refl (map-append tally q.in_flight (marker_of m.message ∷ []))
      (unsent_stand under n o t base (tallies q.in_flight) m.message.policy h)) h
    where
      tail_if : (c : Bool) (p q : Outbound) (n' k : ℕ) → Stands under n o t base (tallies p.in_flight)
          → Stands under n o t base (tallies q.in_flight)
          → Stands under n o t base (tallies (if◌then◌else◌ {A = Outbound × ℕ} c (p, n') (q, k)).0.in_flight)
      tail_if true p q n' k a b = a
      tail_if false p q n' k a b = b

  abandoned_stands : (x : Option InFlight) (p : Parts) → StandsIn under n o t p
      → StandsIn under n o (0 + t) (with_abandoned x p)
  abandoned_stands None p h = same_stands p p refl refl h
  abandoned_stands (Some x) p h =
      let id = x.message.message_id in
      stand_as (omega arith) (alike (flagged id) (λ y. flagged_if (is_of id y) y) _)
      (tail_stands p.queue.pending p.queue id p.history.base h)

  tail_abandoned_stands : (x : Option Waiting) (p : Parts) → StandsIn under n o t p
      → StandsIn under n o (0 + t) (with_tail_abandoned x p)
  tail_abandoned_stands None p h = same_stands p p refl refl h
  tail_abandoned_stands (Some x) p h =
      stand_as (omega arith) refl (tail_stands p.queue.pending p.queue x.message.message_id p.history.base h)

  dropped_stands : (k : ℕ) (x : Option Waiting) (p : Parts) → StandsIn under n o t p
      → StandsIn under n o (0 + t) (with_dropped k x p)
  dropped_stands k None p h = same_stands p p refl refl h
  dropped_stands k (Some x) p h = same_stands p (with_dropped k (Some x) p) refl refl h

  act_stands : (x : Act) (p : Parts) → Can x p → Spares x p → StandsIn under n o t p
      → StandsIn under n o ((if is_that o (offset_given x p) then 1 else 0) + t) (done x p)
  act_stands (Act.PeerKnown tsn) p can spares h = same_stands p (done (Act.PeerKnown tsn) p) refl refl h
  act_stands (Act.Opened id first kind) p can spares h =
      same_stands p (done (Act.Opened id first kind) p) refl refl h
  act_stands (Act.Wrote id named bytes) p can spares h = written_stands (stream_at p.streams id) p id named bytes h
  act_stands (Act.Adjusted id setting) p can spares h = same_stands p (done (Act.Adjusted id setting) p) refl refl h
  act_stands (Act.SpansEnded ids m) p can spares h = same_stands p (done (Act.SpansEnded ids m) p) refl refl h
  act_stands (Act.Sent at_once now) p can spares h = sent_stands p.queue.pending now p can h
  act_stands (Act.SentAgain at_once by index) p can spares h =
      again_stands (slice_get p.queue.in_flight index) by index p refl spares h
  act_stands Act.Marked p can spares h =
      same_stands p (done Act.Marked p) refl
      (alike marked_again (λ x. marked_if (is_outstanding x) x) p.queue.in_flight) h
  act_stands (Act.Acknowledged count blocks missing) p can spares h =
      stand_as (omega arith)
      (reported_alike missing missing.count _ ∙ tallies_dropped count _
      ∙ ap (drop count) (among_alike (is_acknowledged_by count blocks) 0 p.queue.in_flight))
      (dropped_stand under n o t p.history.base count (tallies p.queue.in_flight) h)
  act_stands (Act.Abandoned index) p can spares h = abandoned_stands (slice_get p.queue.in_flight index) p h
  act_stands Act.TailAbandoned p can spares h = tail_abandoned_stands (slice_get p.queue.pending 0) p h
  act_stands (Act.Dropped k) p can spares h = dropped_stands k (slice_get p.queue.pending k) p h
  act_stands (Act.Started now) p can spares h =
      same_stands p (done (Act.Started now) p) refl (alike (sent_started now) (λ x. refl) p.queue.in_flight) h
  act_stands Act.Forwarded p can spares h = same_stands p p refl refl h
  act_stands (Act.Took piece) p can spares h = same_stands p (done (Act.Took piece) p) refl refl h
  act_stands (Act.Deferred piece) p can spares h = same_stands p (done (Act.Deferred piece) p) refl refl h
  act_stands (Act.PassedOver tsn skipped) p can spares h =
      same_stands p (done (Act.PassedOver tsn skipped) p) refl refl h
  act_stands Act.Reported p can spares h = same_stands p p refl refl h
  act_stands (Act.WasRead id) p can spares h = same_stands p (done (Act.WasRead id) p) refl refl h
  act_stands Act.Ended p can spares h = same_stands p (done Act.Ended p) refl refl h

-- Acts, one after another

module _ (under : Bool) (n o : ℕ) (small : n < 2 ^ 32 - 1) where
  acts_stand : (t : ℕ) (xs : List Act) (p : Parts) → CanAll xs p → AllSpare xs p
      → StandsIn under n o t p → StandsIn under n o (times_given o xs p + t) (done_all xs p)
  acts_stand t [] p can spares h = same_stands under n o t small p p refl refl h
  acts_stand t (x ∷ xs) p (can, cans) (one, more) h =
      let given : ℕ = if is_that o (offset_given x p) then 1 else 0 in
      stand_as (omega arith) refl
      (acts_stand (given + t) xs (done x p) cans more (act_stands under n o t small x p can one h))

-- an act that gives out the offset, of such a message, has it in flight

module _ (n o : ℕ) (p : Parts) (message : Attributes) (policy : message.policy ≡ Rexmit n) where
  sent_under : (ms : List Waiting) (now : ℕ) → o ≡ p.history.base + length p.queue.in_flight
      → option_map (λ (m : Waiting). m.message) (slice_get ms 0) ≡ Some message
      → IsUnder n o p.history.base (tallies (sent_from ms p.queue now).in_flight)
  sent_under [] now at of = absurd (nothing_there message of)
  sent_under (m ∷ ms) now at of =
      let l = length-map p.queue.in_flight tally in
      record {
        index = length (tallies p.queue.in_flight);
        piece = (1, m.message.policy);
        at = omega (arith, at, l);
        there =
            ap (λ (vs : List Tally). slice_get vs (length (tallies p.queue.in_flight)))
            (map-append tally p.queue.in_flight (sent_once now m ∷ []))
            ∙ get_behind (tallies p.queue.in_flight) [] (1, m.message.policy);
        policy = ap (λ (a : Attributes). a.policy) (same_value m.message message of) ∙ policy;
      }

  again_under : (x : Option InFlight) (by : Retransmission) (index : ℕ)
      → slice_get p.queue.in_flight index ≡ x → o ≡ p.history.base + index
      → option_map (λ (y : InFlight). y.message) x ≡ Some message
      → IsUnder n o p.history.base (tallies (changed_from (counted_again by) x p.queue index).in_flight)
  again_under None by index e at of = absurd (nothing_there message of)
  again_under (Some x) by index e at of =
      let v : Tally = (one_sending_more x.sent_count, x.message.policy) in
      record {
        index = index;
        piece = v;
        at = at;
        there =
            ap (λ (vs : List Tally). slice_get vs index)
            (tallies_set p.queue.in_flight index (counted_again by x)
            ∙ ap (λ (z : Tally). slice_set (tallies p.queue.in_flight) index z) (counted_tally by x))
            ∙ get_set_there (tallies p.queue.in_flight) v (tally x) index (tally_at p.queue.in_flight index x e);
        policy = ap (λ (a : Attributes). a.policy) (same_value x.message message of) ∙ policy;
      }

  act_under : (x : Act) → offset_given x p ≡ Some o
      → message_given x p.queue ≡ Some message
      → IsUnder n o (done x p).history.base (tallies (done x p).queue.in_flight)
  act_under (Act.Sent at_once now) at of =
      sent_under p.queue.pending now (sym (same_value (p.history.base + length p.queue.in_flight) o at)) of
  act_under (Act.SentAgain at_once by index) at of =
      again_under (slice_get p.queue.in_flight index) by index refl (sym (same_value (p.history.base + index) o at)) of
  act_under act at of = absurd (nothing_there o at)

-- Acts in two parts

times_join : (o : ℕ) (xs ys : List Act) (p : Parts)
    → times_given o (xs ++ ys) p ≡ times_given o xs p + times_given o ys (done_all xs p)
times_join o [] ys p = omega arith
times_join o (x ∷ xs) ys p = let more = times_join o xs ys (done x p) in omega (arith, more)

spares_parts : (xs ys : List Act) (p : Parts) → AllSpare (xs ++ ys) p → AllSpare xs p × AllSpare ys (done_all xs p)
spares_parts [] ys p s = (tt, s)
spares_parts (x ∷ xs) ys p (one, more) = let rest = spares_parts xs ys (done x p) more in ((one, rest.0), rest.1)

can_parts : (xs ys : List Act) (p : Parts) → CanAll (xs ++ ys) p → CanAll xs p × CanAll ys (done_all xs p)
can_parts [] ys p c = (tt, c)
can_parts (x ∷ xs) ys p (one, more) = let rest = can_parts xs ys (done x p) more in ((one, rest.0), rest.1)

-- Where no act gives out again what was sent as often as its policy allows, an offset whose message may be sent again n
-- times is given out at most n + 1 times.
module _ (n o : ℕ) (before after : List Act) (act : Act) (p : Parts) (small : n < 2 ^ 32 - 1) where
  pub spared_offsets_are_kept : CanAll (before ++ act ∷ after) p → AllSpare (before ++ act ∷ after) p
      → StandsIn false n o 0 p → GivesUnder n o act (done_all before p)
      → times_given o (before ++ act ∷ after) p ≤ n + 1
  spared_offsets_are_kept can spares h under =
      let cans = can_parts before (act ∷ after) p can in
      let spared = spares_parts before (act ∷ after) p spares in
      let q : Parts = done_all before p in
      let r : Parts = done act q in
      let given : ℕ = if is_that o (offset_given act q) then 1 else 0 in
      let so_far : ℕ = given + (times_given o before p + 0) in
      let there : StandsIn false n o so_far r =
      act_stands false n o (times_given o before p + 0) small act q cans.1.0 spared.1.0
      (acts_stand false n o small 0 before p cans.0 spared.0 h) in
      let turned : StandsIn true n o so_far r =
      turned_stand n o so_far r.history.base (tallies r.queue.in_flight)
      (act_under n o q under.message under.policy act under.at under.of) there in
      let last = acts_stand true n o small so_far after r cans.1.1 spared.1.1 turned in
      let kept =
      stands_kept n o (times_given o after r + so_far) (done_all after r).history.base
      (tallies (done_all after r).queue.in_flight) last in
      let joined = times_join o before (act ∷ after) p in
      omega (arith, joined, kept)
