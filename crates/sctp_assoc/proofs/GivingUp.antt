-- Messages are given up, one after another.
use Rattle.std.proofs.Common.{◌≡◌, refl, sym, ap, ◌∙◌, ℕ, zero, suc, ◌+◌, ◌-◌, arith}
use Rattle.std.proofs.Common.{Bool, true, false, not, ◌&&◌, if◌then◌else◌, is_some, nat_le, nat_lt}
use Rattle.std.proofs.Common.{List, [], ◌∷◌, get_or, slice_get, Option, Some, None}
use Rattle.std.proofs.lemmas.Bool.{and_parts, false≢true, not-true}
use Rattle.std.proofs.lemmas.List.Quantifiers.{position-Some}
use Rattle.std.proofs.lemmas.Option.{slice_get-get_or}
use Rattle.std.specs.List.{list_any, position}
use Rattle.sctp_wire_types.specs.declared.reliability.Policy.{Policy}
use Rattle.sctp_wire_types.specs.declared.reliability.Policy.TheVariants.{Reliable, Rexmit, Timed}
use Rattle.sctp_outbound_queue.specs.declared.message.InFlight.{InFlight}
use Rattle.sctp_outbound_queue.specs.declared.message.Retransmission.{Retransmission}
use Rattle.sctp_outbound_queue.specs.declared.message.Retransmission.TheVariants as causes
use Rattle.sctp_outbound_queue.specs.Expiry.{after_tail_expiry_of, is_expired_tail}
use Rattle.sctp_outbound_queue.specs.Message.{is_expired, is_expired_piece, is_of, is_outstanding, picks}
use Rattle.sctp_outbound_queue.specs.Message.{room_taken}
use Rattle.sctp_outbound_queue.specs.Outbound.{abandoned_from}
use Rattle.sctp_outbound_queue.specs.Waiting.{Waiting}
use Rattle.sctp_streams.specs.Streams.{StreamMap}
use Rattle.sctp_outbound.specs.declared.abandonment.Reason.{Reason}
use Rattle.sctp_outbound.specs.declared.abandonment.Reason.TheVariants as reasons
use Rattle.sctp_outbound.specs.declared.abandonment.Reached.{Reached}
use Rattle.sctp_outbound.specs.declared.abandonment.Reached.TheVariants as reached
use Rattle.sctp_outbound.specs.declared.sender.Sender.{Sender}
use Rattle.sctp_outbound.specs.Abandonment.{abandoned_if, abandoned_of, allows_no_more, given_up_first}
use Rattle.sctp_outbound.specs.Abandonment.{is_pass_due, is_spent, next_given_up, pass_room, reached_at}
use Rattle.sctp_outbound.specs.Abandonment.{released_at, spent_from, spent_index, tail_given_up}
use Rattle.sctp_model.specs.Messages.{is_reliable}
use Rattle.sctp_fit.specs.Outgoing.{policy_of}
use Rattle.sctp_directions.specs.Acts.{Act, History, can_abandon, can_abandon_tail, with_abandoned}
use Rattle.sctp_assoc.specs.Happened.{acts_of_abandoning, acts_of_giving_up, acts_of_tail}
use Rattle.sctp_assoc.proofs.Dropping.{late_unreliable}
use Rattle.sctp_assoc.proofs.Giving.{Gives, both_parts, gives_none, gives_on, sending, still_right}
use Rattle.sctp_assoc.proofs.MarksOutstanding.{AreMarkedRight, get_right}

-- What is given up next.

-- the piece of that index is in flight and its message may be abandoned
record CanGo (s : Sender) (index : ℕ) : Type 0 where
  piece : InFlight
  there : slice_get s.queue.in_flight index ≡ Some piece
  can : can_abandon (Some piece) ≡ true

abbrev number_in : Option ℕ → ℕ
number_in None = 0
number_in (Some n) = n

none_is_some : (i : ℕ) → None ≡ Some i → ⊥
none_is_some i e = false≢true (ap (λ (z : Option ℕ). is_some z) e)

same_number : (i j : ℕ) → Some i ≡ Some j → i ≡ j
same_number i j e = ap number_in e

may_go : (a b : Bool) → a ≡ false → b ≡ false → (not a && not b) ≡ true
may_go a b e f = rw (e, f) refl

-- an expired piece
expired_can : (now : ℕ) (p : InFlight) → is_expired_piece now p ≡ true → can_abandon (Some p) ≡ true
expired_can now p e =
    let parts = and_parts (not p.abandoned) (is_expired now p.message) e in
    may_go p.abandoned (is_reliable (policy_of p.message.policy)) (not-true p.abandoned parts.0)
    (late_unreliable p.message.policy p.message.deadline now parts.1)

expired_goes_in : (now : ℕ) (s : Sender) (ps : List InFlight) (i : ℕ) → s.queue.in_flight ≡ ps
    → position (is_expired_piece now) ps ≡ Some i → CanGo s i
expired_goes_in now s [] i e at = absurd (none_is_some i at)
expired_goes_in now s (p ∷ ps) i e at =
    let found = position-Some (is_expired_piece now) (p ∷ ps) i p at in
    record {
      piece = get_or (p ∷ ps) i p;
      there = rw e (slice_get-get_or (p ∷ ps) i p found.0);
      can = expired_can now (get_or (p ∷ ps) i p) found.1;
    }

-- a piece that was sent as often as it may be
spent_unreliable : (p : Policy) (count : ℕ) → allows_no_more p count ≡ true → is_reliable (policy_of p) ≡ false
spent_unreliable Reliable count e = absurd (false≢true e)
spent_unreliable (Rexmit n) count e = refl
spent_unreliable (Timed ms) count e = absurd (false≢true e)

-- a piece that is picked is outstanding
outstanding_of : (k : Retransmission) (p : InFlight) → picks k p ≡ true
    → (p.retransmit ≡ true → is_outstanding p ≡ true) → is_outstanding p ≡ true
outstanding_of causes.Timer p picked right = right picked
outstanding_of causes.Fast p picked right =
    (and_parts (is_outstanding p) (not p.resent)
    (and_parts (is_outstanding p && not p.resent) (nat_le 3 p.misses) picked).0).0

spent_can : (k : Retransmission) (p : InFlight) → picks k p ≡ true → is_spent p ≡ true
    → (p.retransmit ≡ true → is_outstanding p ≡ true) → can_abandon (Some p) ≡ true
spent_can k p picked spent right =
    let out = and_parts (not p.acked) (not p.abandoned) (outstanding_of k p picked right) in
    may_go p.abandoned (is_reliable (policy_of p.message.policy)) (not-true p.abandoned out.1)
    (spent_unreliable p.message.policy p.sent_count spent)

-- an index so far past another, with a piece that a pass would send again too often
record Comes (k : Retransmission) (j : ℕ) (ps : List InFlight) (i : ℕ) : Type 0 where
  past : ℕ
  piece : InFlight
  sum : i ≡ j + past
  there : slice_get ps past ≡ Some piece
  picked : picks k piece ≡ true
  spent : is_spent piece ≡ true

comes_later : (k : Retransmission) (j i : ℕ) (p : InFlight) (ps : List InFlight) → Comes k (j + 1) ps i
    → Comes k j (p ∷ ps) i
comes_later k j i p ps c = record {
  past = suc c.past;
  piece = c.piece;
  sum = omega (arith, c.sum);
  there = c.there;
  picked = c.picked;
  spent = c.spent;
}

abbrev is_reached_spent : Reached → Bool
is_reached_spent (reached.On room) = false
is_reached_spent reached.Spent = true
is_reached_spent reached.Full = false

-- what a pass comes to where it ends at a spent piece
spent_by_tests : (c s f : Bool) (room left : ℕ)
    → is_reached_spent (if not c then reached.On room else if s then reached.Spent else
    if f then reached.Full else reached.On left) ≡ true → (c ≡ true) × (s ≡ true)
spent_by_tests true true f room left e = (refl, refl)
spent_by_tests true false true room left e = absurd (false≢true e)
spent_by_tests true false false room left e = absurd (false≢true e)
spent_by_tests false s f room left e = absurd (false≢true e)

module _ (k : Retransmission) (j room i : ℕ) (p : InFlight) (ps : List InFlight) where
  comes_if : (r : Reached) → reached_at k room p ≡ r
      → ((left : ℕ) → spent_index k (j + 1) left ps ≡ Some i → Comes k (j + 1) ps i)
      → spent_from r j (λ left. spent_index k (j + 1) left ps) ≡ Some i → Comes k j (p ∷ ps) i
  comes_if (reached.On left) e rest at = comes_later k j i p ps (rest left at)
  comes_if reached.Spent e rest at =
      let tests = spent_by_tests (picks k p) (is_spent p) (nat_lt room (room_taken k p)) room (room - room_taken k p)
      (ap is_reached_spent e) in
      let same = same_number j i at in
      record {
        past = 0;
        piece = p;
        sum = omega (arith, same);
        there = refl;
        picked = tests.0;
        spent = tests.1;
      }
  comes_if reached.Full e rest at = absurd (none_is_some i at)

comes : (k : Retransmission) (j room i : ℕ) (ps : List InFlight) → spent_index k j room ps ≡ Some i → Comes k j ps i
comes k j room i [] at = absurd (none_is_some i at)
comes k j room i (p ∷ ps) at =
    comes_if k j room i p ps (reached_at k room p) refl (λ left e. comes k (j + 1) left i ps e) at

spent_goes : (k : Retransmission) (s : Sender) (i : ℕ) → AreMarkedRight s.queue.in_flight
    → spent_index k 0 (pass_room k s) s.queue.in_flight ≡ Some i → CanGo s i
spent_goes k s i right at =
    let c = comes k 0 (pass_room k s) i s.queue.in_flight at in
    let same : i ≡ c.past = omega (arith, c.sum) in
    record {
      piece = c.piece;
      there = ap (slice_get s.queue.in_flight) same ∙ c.there;
      can = spent_can k c.piece c.picked c.spent (get_right s.queue.in_flight c.past c.piece c.there right);
    }

spent_if : (due : Bool) (k : Retransmission) (s : Sender) (i : ℕ) → AreMarkedRight s.queue.in_flight
    → (if due then spent_index k 0 (pass_room k s) s.queue.in_flight else None) ≡ Some i → CanGo s i
spent_if false k s i right e = absurd (none_is_some i e)
spent_if true k s i right e = spent_goes k s i right e

next_goes : (why : Reason) (s : Sender) (i : ℕ) → AreMarkedRight s.queue.in_flight → next_given_up why s ≡ Some i
    → CanGo s i
next_goes (reasons.Expired now) s i right e = expired_goes_in now s s.queue.in_flight i refl e
next_goes (reasons.Spent k) s i right e = spent_if (is_pass_due k s) k s i right e

-- One message.

abandoned_same : (o : Option InFlight) (s : Sender) (m : StreamMap) (h : History)
    → with_abandoned o (sending s m h)
    ≡ record {
      queue = (abandoned_from o s.queue).0;
      streams = released_at (abandoned_from o s.queue).1 m;
      size = s.max_payload_size;
      history = h;
    }
abandoned_same None s m h = refl
abandoned_same (Some x) s m h = refl

one_gives : (o : Option ℕ) (why : Reason) (all : Sender × StreamMap) (h : History) → next_given_up why all.0 ≡ o
    → AreMarkedRight all.0.queue.in_flight
    → Gives (acts_of_abandoning o) (both_parts all h) (both_parts (abandoned_if o all) h) []
unfolding abandoned_of
one_gives None why all h e right = gives_none (both_parts all h)
one_gives (Some i) why (s, m) h e right =
    let goes = next_goes why s i right e in
    record {
      can = (ap can_abandon goes.there ∙ goes.can, tt);
      there = sym (abandoned_same (slice_get s.queue.in_flight i) s m h);
      said = refl;
    }

-- All.

pub giving_up : (n : ℕ) (why : Reason) (all : Sender × StreamMap) (h : History)
    → AreMarkedRight all.0.queue.in_flight
    → Gives (acts_of_giving_up n why all) (both_parts all h) (both_parts (given_up_first n why all) h) []
giving_up zero why all h right = gives_none (both_parts all h)
giving_up (suc n) why all h right =
    let o = next_given_up why all.0 in
    let one = one_gives o why all h refl right in
    gives_on (acts_of_abandoning o) (acts_of_giving_up n why (abandoned_if o all)) (both_parts all h)
    (both_parts (abandoned_if o all) h) (both_parts (given_up_first (suc n) why all) h) [] [] one
    (giving_up n why (abandoned_if o all) h
    (still_right (acts_of_abandoning o) (both_parts all h) (both_parts (abandoned_if o all) h) [] one right))

-- The rest of a message that waits.

late_tail_can : (now : ℕ) (w : Waiting) (pieces : List InFlight) → is_expired_tail now w pieces ≡ true
    → can_abandon_tail (Some w) pieces ≡ true
late_tail_can now w pieces e =
    let outer = and_parts (w.begun && is_expired now w.message)
    (not (list_any (is_of w.message.message_id) pieces)) e in
    let inner = and_parts w.begun (is_expired now w.message) outer.0 in
    all_three w.begun (is_reliable (policy_of w.message.policy)) (not (list_any (is_of w.message.message_id) pieces))
    inner.0 (late_unreliable w.message.policy w.message.deadline now inner.1) outer.1
  where
    all_three : (a b c : Bool) → a ≡ true → b ≡ false → c ≡ true → (a && (not b && c)) ≡ true
    all_three a b c e f g = rw (e, f, g) refl

tail_at_if : (c : Bool) (now : ℕ) (w : Waiting) (ws : List Waiting) (s : Sender) (m : StreamMap) (h : History)
    → s.queue.pending ≡ w ∷ ws → is_expired_tail now w s.queue.in_flight ≡ c
    → Gives (if is_some (after_tail_expiry_of (w ∷ ws) s.queue now).1 then Act.TailAbandoned ∷ [] else [])
    (sending s m h)
    (record {
      queue = (after_tail_expiry_of (w ∷ ws) s.queue now).0;
      streams = released_at (after_tail_expiry_of (w ∷ ws) s.queue now).1 m;
      size = s.max_payload_size;
      history = h;
    }) []
tail_at_if true now w ws s m h e c =
    rw c (record {
      can = (rw e (late_tail_can now w s.queue.in_flight c), tt);
      there = rw e refl;
      said = refl;
    })
tail_at_if false now w ws s m h e c = rw c (gives_none (sending s m h))

tail_at : (ws : List Waiting) (now : ℕ) (s : Sender) (m : StreamMap) (h : History) → s.queue.pending ≡ ws
    → Gives (if is_some (after_tail_expiry_of ws s.queue now).1 then Act.TailAbandoned ∷ [] else []) (sending s m h)
    (record {
      queue = (after_tail_expiry_of ws s.queue now).0;
      streams = released_at (after_tail_expiry_of ws s.queue now).1 m;
      size = s.max_payload_size;
      history = h;
    }) []
tail_at [] now s m h e = gives_none (sending s m h)
tail_at (w ∷ ws) now s m h e = tail_at_if (is_expired_tail now w s.queue.in_flight) now w ws s m h e refl

pub tail_gives : (now : ℕ) (all : Sender × StreamMap) (h : History)
    → Gives (acts_of_tail now all.0) (both_parts all h) (both_parts (tail_given_up now all) h) []
unfolding tail_given_up
tail_gives now (s, m) h = tail_at s.queue.pending now s m h refl
