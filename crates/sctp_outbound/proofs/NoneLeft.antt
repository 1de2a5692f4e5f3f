-- Once all that is given up for a reason is abandoned, nothing is given up for it.
use Rattle.std.proofs.Common.{◌≡◌, ℕ, zero, suc, ◌+◌, ◌-◌, ◌≤◌, Bool, true, false, ◌||◌, not}
use Rattle.std.proofs.Common.{is_some}
use Rattle.std.proofs.Common.{nat_lt, eqb, List, [], ◌∷◌, ◌++◌, map, Option, Some, None, length, position, slice_get}
use Rattle.std.proofs.Common.{get_or}
use Rattle.std.proofs.Common.{cond, eq-eqb, refl, ap, sym, subst, ◌∙◌, ⊎_elim, arith}
use Rattle.std.proofs.lemmas.Bool.{cases_Bool, and_parts, false≢true}
use Rattle.std.proofs.lemmas.List.{map-append}
use Rattle.std.proofs.lemmas.List.Quantifiers.{position-Some}
use Rattle.std.proofs.lemmas.List.Sums.{count_by-le-length, sum_by-append, sum_by-cons}
use Rattle.std.proofs.lemmas.Option.{slice_get-get_or}
use Rattle.std.specs.List.{count_by}
use Rattle.std.specs.Option.{unwrap_or}
use Rattle.sctp_outbound_queue.specs.declared.message.Attributes.{Attributes}
use Rattle.sctp_outbound_queue.specs.declared.message.InFlight.{InFlight}
use Rattle.sctp_outbound_queue.specs.declared.message.Retransmission.{Retransmission}
use Rattle.sctp_outbound_queue.specs.declared.message.Retransmission.TheVariants as causes
use Rattle.sctp_outbound_queue.specs.Message.{flagged, is_expired, is_expired_piece, is_of, is_outstanding, marker_of}
use Rattle.sctp_outbound_queue.specs.Message.{picks, room_taken}
use Rattle.sctp_outbound_queue.specs.Outbound.{Outbound, abandoned_at, abandoned_from, tail_dropped_from}
use Rattle.sctp_outbound_queue.specs.Waiting.{Waiting}
use Rattle.sctp_streams.specs.Streams.{StreamMap}
use Rattle.sctp_outbound.specs.declared.abandonment.Reason.{Reason}
use Rattle.sctp_outbound.specs.declared.abandonment.Reason.TheVariants as reasons
use Rattle.sctp_outbound.specs.declared.sender.Sender.{Sender}
use Rattle.sctp_outbound.specs.Abandonment.{abandoned_if, abandoned_of, first_spent, given_up_first, is_pass_due}
use Rattle.sctp_outbound.specs.Abandonment.{is_spent}
use Rattle.sctp_outbound.specs.Abandonment.{next_given_up, pass_room, spent_index}
use Rattle.sctp_outbound.specs.Laws.{NoneIsLeft}
use Rattle.sctp_outbound.proofs.GivenUp.{none_given_up}
use Rattle.sctp_outbound.proofs.Unlimited.{index_full, index_on, index_skip, index_spent}

-- a piece that may be given up yet: it is marked, or not abandoned
abbrev is_active : InFlight → Bool
is_active p = p.retransmit || not p.abandoned

abbrev active_in : List InFlight → ℕ
active_in ps = count_by is_active ps

abbrev one_if : InFlight → ℕ
one_if p = cond (is_active p) 1 0

or_true : (a : Bool) → (a || true) ≡ true
or_true true = refl
or_true false = refl

-- an active piece stands at this index in flight
record Gives (s : Sender) (index : ℕ) : Type 0 where
  piece : InFlight
  there : slice_get s.queue.in_flight index ≡ Some piece
  active : is_active piece ≡ true

none_is_some : (i : ℕ) → None ≡ Some i → ⊥
none_is_some i e = false≢true (ap (λ (z : Option ℕ). is_some z) e)

same_number : (i j : ℕ) → Some i ≡ Some j → i ≡ j
same_number i j e = ap (λ (z : Option ℕ). unwrap_or z 0) e

-- expired pieces

expired_active : (now : ℕ) (p : InFlight) → is_expired_piece now p ≡ true → is_active p ≡ true
expired_active now p e =
    ap (λ z. p.retransmit || z) (and_parts (not p.abandoned) (is_expired now p.message) e).0 ∙ or_true p.retransmit

expired_at : (now : ℕ) (ps : List InFlight) (i : ℕ) → position (is_expired_piece now) ps ≡ Some i
    → (p : InFlight) × (slice_get ps i ≡ Some p) × (is_active p ≡ true)
expired_at now [] i e = absurd (none_is_some i e)
expired_at now (p ∷ ps) i e =
    let found = position-Some (is_expired_piece now) (p ∷ ps) i p e in (
      get_or (p ∷ ps) i p,
      slice_get-get_or (p ∷ ps) i p found.0,
      expired_active now (get_or (p ∷ ps) i p) found.1,
    )

expired_gives : (now : ℕ) (s : Sender) (index : ℕ) → next_given_up (reasons.Expired now) s ≡ Some index
    → Gives s index
expired_gives now s index e =
    let a = expired_at now s.queue.in_flight index e in
    record { piece = a.0; there = a.1; active = a.2 }

-- spent pieces

picked_active : (k : Retransmission) (p : InFlight) → picks k p ≡ true → is_active p ≡ true
picked_active causes.Timer p e = ap (λ z. z || not p.abandoned) e
picked_active causes.Fast p e =
    let out = (and_parts (not p.acked) (not p.abandoned) (outstanding p e)).1 in
    ap (λ z. p.retransmit || z) out ∙ or_true p.retransmit
  where
    outstanding : (p : InFlight) → picks causes.Fast p ≡ true → is_outstanding p ≡ true
    outstanding p e =
        ⊎_elim
        (λ (a : is_outstanding p ≡ true). a)
        (λ (a : is_outstanding p ≡ false). absurd (false≢true (rw a at e)))
        (cases_Bool (is_outstanding p))

-- an index so far past another, with an active piece
record Comes (j : ℕ) (ps : List InFlight) (i : ℕ) : Type 0 where
  past : ℕ
  piece : InFlight
  sum : i ≡ j + past
  there : slice_get ps past ≡ Some piece
  active : is_active piece ≡ true

comes_later : (j i : ℕ) (p : InFlight) (ps : List InFlight) → Comes (j + 1) ps i → Comes j (p ∷ ps) i
comes_later j i p ps c =
    record { past = suc c.past; piece = c.piece; sum = omega (arith, c.sum); there = c.there; active = c.active }

spent_comes : (k : Retransmission) (j room i : ℕ) (ps : List InFlight) → spent_index k j room ps ≡ Some i → Comes j ps i
spent_comes k j room i [] e = absurd (none_is_some i e)
spent_comes k j room i (p ∷ ps) e =
    ⊎_elim (
    λ (a : picks k p ≡ true). ⊎_elim (
    λ (b : is_spent p ≡ true).
    let same = same_number j i (sym (index_spent k j room p ps a b) ∙ e) in
    record { past = 0; piece = p; sum = omega (arith, same); there = refl; active = picked_active k p a }
    ) (
    λ (b : is_spent p ≡ false). ⊎_elim
    (λ (c : nat_lt room (room_taken k p) ≡ true).
    absurd (none_is_some i (sym (index_full k j room p ps a b c) ∙ e)))
    (λ (c : nat_lt room (room_taken k p) ≡ false).
    comes_later j i p ps
    (spent_comes k (j + 1) (room - room_taken k p) i ps (sym (index_on k j room p ps a b c) ∙ e)))
    (cases_Bool (nat_lt room (room_taken k p)))
    ) (cases_Bool (is_spent p))
    ) (
    λ (a : picks k p ≡ false).
    comes_later j i p ps (spent_comes k (j + 1) room i ps (sym (index_skip k j room p ps a) ∙ e))
    ) (cases_Bool (picks k p))

due_gives : (k : Retransmission) (s : Sender) (index : ℕ)
    → spent_index k 0 (pass_room k s) s.queue.in_flight ≡ Some index → Gives s index
due_gives k s index e =
    let c = spent_comes k 0 (pass_room k s) index s.queue.in_flight e in
    let same : c.past ≡ index = omega (arith, c.sum) in
    record {
      piece = c.piece;
      there = ap (slice_get s.queue.in_flight) (sym same) ∙ c.there;
      active = c.active;
    }

spent_gives : (k : Retransmission) (s : Sender) (tsn : ℕ) → first_spent k s ≡ Some tsn → Gives s tsn
spent_gives k s tsn e =
    ⊎_elim
    (λ (due : is_pass_due k s ≡ true). due_gives k s tsn (rw due at e))
    (λ (due : is_pass_due k s ≡ false). absurd (none_is_some tsn (rw due at e)))
    (cases_Bool (is_pass_due k s))

gives : (why : Reason) (s : Sender) (tsn : ℕ) → next_given_up why s ≡ Some tsn → Gives s tsn
gives (reasons.Expired now) s tsn e = expired_gives now s tsn e
gives (reasons.Spent k) s tsn e = spent_gives k s tsn e

-- what an abandonment leaves

tested : (InFlight → Bool) → Option InFlight → Bool
tested f None = false
tested f (Some p) = f p

-- what holds of the piece found holds of the one that stands there
holds_at : (f : InFlight → Bool) (q p : InFlight) → Some q ≡ Some p → f p ≡ true → f q ≡ true
unfolding tested
holds_at f q p e h = ap (tested f) e ∙ h

nothing_there : (p : InFlight) → None ≡ Some p → ⊥
nothing_there p e = false≢true (ap (λ (z : Option InFlight). is_some z) e)

one_at_least : (ps : List InFlight) (i : ℕ) (p : InFlight) → slice_get ps i ≡ Some p → is_active p ≡ true
    → 1 ≤ active_in ps
one_at_least [] i p there active = absurd (nothing_there p there)
one_at_least (q ∷ ps) zero p there active =
    let same : one_if q ≡ 1 = ap (λ z. cond z 1 0) (holds_at is_active q p there active) in
    let sum = sum_by-cons one_if q ps in
    omega (arith, same, sum)
one_at_least (q ∷ ps) (suc i) p there active =
    let rest = one_at_least ps i p there active in
    let sum = sum_by-cons one_if q ps in
    omega (arith, rest, sum)

flag_one : (id : ℕ) (p : InFlight) → one_if (flagged id p) ≤ one_if p
flag_one id p =
    ⊎_elim
    (λ (a : is_of id p ≡ true). rw a (omega arith))
    (λ (a : is_of id p ≡ false). rw a (omega arith))
    (cases_Bool (is_of id p))

flags : (id : ℕ) (ps : List InFlight) → active_in (map (flagged id) ps) ≤ active_in ps
flags id [] = omega arith
flags id (p ∷ ps) =
    let one = flag_one id p in
    let rest = flags id ps in
    let before = sum_by-cons one_if p ps in
    let after = sum_by-cons one_if (flagged id p) (map (flagged id) ps) in
    omega (arith, one, rest, before, after)

flag_own : (id : ℕ) (p : InFlight) → is_of id p ≡ true → one_if (flagged id p) ≡ 0
flag_own id p a = rw a refl

flags_less : (id : ℕ) (ps : List InFlight) (i : ℕ) (p : InFlight) → slice_get ps i ≡ Some p → is_of id p ≡ true
    → is_active p ≡ true → active_in (map (flagged id) ps) + 1 ≤ active_in ps
flags_less id [] i p there own active = absurd (nothing_there p there)
flags_less id (q ∷ ps) zero p there own active =
    let one : one_if q ≡ 1 = ap (λ z. cond z 1 0) (holds_at is_active q p there active) in
    let none = flag_own id q (holds_at (is_of id) q p there own) in
    let rest = flags id ps in
    let before = sum_by-cons one_if q ps in
    let after = sum_by-cons one_if (flagged id q) (map (flagged id) ps) in
    omega (arith, one, none, rest, before, after)
flags_less id (q ∷ ps) (suc i) p there own active =
    let one = flag_one id q in
    let rest = flags_less id ps i p there own active in
    let before = sum_by-cons one_if q ps in
    let after = sum_by-cons one_if (flagged id q) (map (flagged id) ps) in
    omega (arith, one, rest, before, after)

-- a marker is not active
marker_rests : (id : ℕ) (a : Attributes) → active_in (map (flagged id) (marker_of a ∷ [])) ≡ 0
marker_rests id a =
    let one = flag_one id (marker_of a) in
    let after = sum_by-cons one_if (flagged id (marker_of a)) [] in
    omega (arith, one, after)

-- fewer active pieces are in flight
record Fewer (q r : Outbound) : Type 0 where
  fewer : active_in r.in_flight + 1 ≤ active_in q.in_flight

-- The active piece at an index is of the message that is abandoned.
module _ (q : Outbound) (id i : ℕ) (p : InFlight) (there : slice_get q.in_flight i ≡ Some p) (own : is_of id p ≡ true)
    (active : is_active p ≡ true) where
  flagged_fewer : (r : Outbound) → r.in_flight ≡ map (flagged id) q.in_flight → Fewer q r
  flagged_fewer r is =
      let less = flags_less id q.in_flight i p there own active in
      let same = ap active_in is in
      record { fewer = omega (arith, less, same) }

  marked_fewer : (r : Outbound) (a : Attributes) → r.in_flight ≡ map (flagged id) (q.in_flight ++ marker_of a ∷ [])
      → Fewer q r
  marked_fewer r a is =
      let less = flags_less id q.in_flight i p there own active in
      let parts = is ∙ map-append (flagged id) q.in_flight (marker_of a ∷ []) in
      let same = ap active_in parts in
      let sum = sum_by-append one_if (map (flagged id) q.in_flight) (map (flagged id) (marker_of a ∷ [])) in
      let none = marker_rests id a in
      record { fewer = omega (arith, less, same, sum, none) }

  dropped_fewer : (ms : List Waiting)
      → Fewer q (let r = (tail_dropped_from ms q id).0 in record r { in_flight = map (flagged id) r.in_flight })
  dropped_fewer [] = flagged_fewer _ refl
  dropped_fewer (m ∷ ms) =
      ⊎_elim
      (λ (a : eqb m.message.message_id id ≡ true). rw a (marked_fewer _ m.message refl))
      (λ (a : eqb m.message.message_id id ≡ false). rw a (flagged_fewer _ refl))
      (cases_Bool (eqb m.message.message_id id))

piece_fewer : (o : Option InFlight) (q : Outbound) (i : ℕ) (p : InFlight) → o ≡ Some p
    → slice_get q.in_flight i ≡ Some p
    → is_active p ≡ true → Fewer q (abandoned_from o q).0
piece_fewer o q i p e there active =
    rw e
    (dropped_fewer q p.message.message_id i p there (eq-eqb p.message.message_id p.message.message_id refl) active
    q.pending)

abandoned_fewer : (s : Sender) (index : ℕ) → Gives s index → Fewer s.queue (abandoned_at s.queue index).0
abandoned_fewer s index g =
    piece_fewer (slice_get s.queue.in_flight index) s.queue index g.piece g.there g.there g.active

queue_after : (tsn : ℕ) (all : Sender × StreamMap) → (abandoned_of tsn all).0.queue ≡ (abandoned_at all.0.queue tsn).0
unfolding abandoned_of
queue_after tsn all = refl

after_fewer : (index : ℕ) (all : Sender × StreamMap) → Gives all.0 index
    → Fewer all.0.queue (abandoned_of index all).0.queue
after_fewer index all g =
    subst (Fewer all.0.queue) (sym (queue_after index all)) (abandoned_fewer all.0 index g)

none_active : (why : Reason) (s : Sender) (o : Option ℕ) → next_given_up why s ≡ o → active_in s.queue.in_flight ≤ 0
    → next_given_up why s ≡ None
none_active why s None e few = e
none_active why s (Some index) e few =
    let g = gives why s index e in
    let one = one_at_least s.queue.in_flight index g.piece g.there g.active in
    absurd (omega (arith, one, few))

-- for one more, where it holds of so many
next_none : (why : Reason) (n : ℕ) (all : Sender × StreamMap) → active_in all.0.queue.in_flight ≤ suc n
    → ((then : Sender × StreamMap) → active_in then.0.queue.in_flight ≤ n
    → next_given_up why (given_up_first n why then).0 ≡ None)
    → (o : Option ℕ) → next_given_up why all.0 ≡ o → next_given_up why (given_up_first (suc n) why all).0 ≡ None
next_none why n all few rest None e =
    ap (λ (z : Sender × StreamMap). next_given_up why z.0) (none_given_up why (suc n) all e) ∙ e
next_none why n all few rest (Some index) e =
    let less = after_fewer index all (gives why all.0 index e) in
    ap (λ o. next_given_up why (given_up_first n why (abandoned_if o all)).0) e
    ∙ rest (abandoned_of index all) (omega (arith, less.fewer, few))

left_none : (why : Reason) (n : ℕ) (all : Sender × StreamMap) → active_in all.0.queue.in_flight ≤ n
    → next_given_up why (given_up_first n why all).0 ≡ None
left_none why zero all few = none_active why all.0 (next_given_up why all.0) refl few
left_none why (suc n) all few = next_none why n all few (left_none why n) (next_given_up why all.0) refl

pub none_is_left : NoneIsLeft
none_is_left why s m =
    left_none why (length s.queue.in_flight) (s, m) (count_by-le-length is_active s.queue.in_flight)
