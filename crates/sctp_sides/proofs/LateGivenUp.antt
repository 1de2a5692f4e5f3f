-- Behind what a poll gives up first, nothing that is in flight is late, nor is a message that waits and of which
-- something was sent.
use Rattle.std.proofs.Common.{◌≡◌, refl, sym, ap, ◌∙◌, subst, ⊎_elim, inl, inr, ℕ, suc, ◌+◌, arith, Bool}
use Rattle.std.proofs.Common.{true, false, if◌then◌else◌, not, ◌&&◌, ◌||◌, eqb, List, [], ◌∷◌, ◌++◌, length}
use Rattle.std.proofs.Common.{Option, Some, None}
use Rattle.std.proofs.lemmas.Bool.{cases_Bool, cond-true, eq-eqb, false≢true, ne_eqb, true≢false}
use Rattle.std.specs.List.{AllByRecursion, list_any, position_or_len}
use Rattle.sctp_outbound_queue.specs.declared.message.InFlight.{InFlight}
use Rattle.sctp_outbound_queue.specs.declared.queue.Released.{Released}
use Rattle.sctp_outbound_queue.specs.Expiry.{after_tail_expiry, after_tail_expiry_of, is_expired_tail}
use Rattle.sctp_outbound_queue.specs.Message.{is_expired, is_expired_piece, is_of, marker_of, message_bytes}
use Rattle.sctp_outbound_queue.specs.Outbound.{Outbound, released, tail_dropped, tail_dropped_from}
use Rattle.sctp_outbound_queue.specs.Waiting.{Waiting}
use Rattle.sctp_outbound_queue.proofs.ExpiredUnsent.{not_found}
use Rattle.sctp_streams.specs.Streams.{StreamMap}
use Rattle.sctp_outbound.specs.declared.abandonment.Reason.TheVariants as reasons
use Rattle.sctp_outbound.specs.declared.sender.Sender.{Sender}
use Rattle.sctp_outbound.specs.Abandonment.{expired_by, late_given_up, tail_given_up, with_started}
use Rattle.sctp_outbound.proofs.NoneLeft.{none_is_left}
use Rattle.sctp_directions.specs.Acts.{Act, History, Parts}
use Rattle.sctp_assoc.specs.Gather.{both_of, late_abandoned}
use Rattle.sctp_assoc.specs.Happened.{acts_of_giving_up}
use Rattle.sctp_assoc.specs.Leads.{Binds}
use Rattle.sctp_assoc.specs.Shown.{Shown, uses_forward_tsn}
use Rattle.sctp_assoc.proofs.Giving.{both_parts}
use Rattle.sctp_assoc.proofs.GivingUp.{giving_up}
use Rattle.sctp_assoc.proofs.MarksOutstanding.{AreMarkedRight, act_marked}
use Rattle.sctp_sides.proofs.FirstBegun.{IsBefore, IsFirstBegun, IsOrderly, acts_orderly, started_orderly, tail_orderly}
use Rattle.sctp_sides.proofs.NothingLate.{AreInTime, IsOldInTime, tail_in_time}
use Rattle.sctp_sides.proofs.WaitingInTime.{IsFirstInTime, unbegun_in_time}

-- What is in flight

zero_suc : (n : ℕ) → 0 ≡ suc n → ⊥
zero_suc n e = omega arith

one_more_same : (n k : ℕ) → 1 + n ≡ suc k → n ≡ k
one_more_same n k e = omega arith

none_there : (now : ℕ) (ps : List InFlight) → position_or_len (is_expired_piece now) ps ≡ length ps → AreInTime now ps
none_there now [] e = tt
none_there now (p ∷ ps) e =
    ⊎_elim (λ (late : is_expired_piece now p ≡ true). absurd (zero_suc _ (rw late at e)))
    (λ (late : is_expired_piece now p ≡ false). (late, none_there now ps (one_more_same _ _ (rw late at e))))
    (cases_Bool (is_expired_piece now p))

late_flight : (now : ℕ) (all : Sender × StreamMap) → AreInTime now (late_given_up now all).0.queue.in_flight
late_flight now (s, m) =
    let pieces = (late_given_up now (s, m)).0.queue.in_flight in
    none_there now pieces
    (not_found (is_expired_piece now) pieces (none_is_left (reasons.Expired now) (with_started now s) m))

-- The rest of the first message that waits

given_late : (abandoned expired : Bool) → abandoned ≡ false → expired ≡ true → (not abandoned && expired) ≡ false → ⊥
given_late abandoned expired e f g = true≢false (sym (both abandoned expired e f) ∙ g)
  where
    both : (a b : Bool) → a ≡ false → b ≡ true → (not a && b) ≡ true
    both a b e f = rw (e, f) refl

both_false : (a b : Bool) → a ≡ false → b ≡ false → (a || b) ≡ false
both_false a b e f = rw (e, f) refl

not_of_it : (now : ℕ) (m : Waiting) (p : InFlight) → is_expired now m.message ≡ true → is_expired_piece now p ≡ false
    → IsBefore m p → is_of m.message.message_id p ≡ false
not_of_it now m p late piece (inl e) =
    ne_eqb p.message.message_id m.message.message_id
    (λ (s : p.message.message_id ≡ m.message.message_id). omega (arith, e, s))
not_of_it now m p late piece (inr (begun, same, given)) =
    absurd (given_late p.abandoned (is_expired now p.message) given (ap (is_expired now) same ∙ late) piece)

-- of a late one nothing is in flight
none_of_it : (now : ℕ) (m : Waiting) (ps : List InFlight) → is_expired now m.message ≡ true → AreInTime now ps
    → AllByRecursion (IsBefore m) ps → list_any (is_of m.message.message_id) ps ≡ false
none_of_it now m [] late h before = refl
none_of_it now m (p ∷ ps) late (one, more) (its, others) =
    both_false (is_of m.message.message_id p) (list_any (is_of m.message.message_id) ps)
    (not_of_it now m p late one its) (none_of_it now m ps late more others)

is_tail : (begun expired flies : Bool) → begun ≡ true → expired ≡ true → flies ≡ false
    → (begun && expired && not flies) ≡ true
is_tail begun expired flies e f g = rw (e, f, g) refl

-- so one that is not given up then is not late
kept_first : (now : ℕ) (m : Waiting) (ps : List InFlight) → is_expired_tail now m ps ≡ false → AreInTime now ps
    → AllByRecursion (IsBefore m) ps → m.begun ≡ true → is_expired now m.message ≡ false
kept_first now m ps kept h before begun =
    ⊎_elim
    (λ (late : is_expired now m.message ≡ true).
    absurd (true≢false (sym (is_tail m.begun (is_expired now m.message) (list_any (is_of m.message.message_id) ps) begun
    late (none_of_it now m ps late h before)) ∙ kept)))
    (λ (late : is_expired now m.message ≡ false). late)
    (cases_Bool (is_expired now m.message))

-- what holds of both queues holds of the one that is taken
either_queue : (P : Outbound → Type 0) (c : Bool) (p q : Outbound) (x y : Option Released) → (c ≡ true → P p)
    → (c ≡ false → P q) → P (if◌then◌else◌ {A = Outbound × Option Released} c (p, x) (q, y)).0
either_queue P true p q x y a b = a refl
either_queue P false p q x y a b = b refl

gone_first : (m : Waiting) (ms : List Waiting) (q : Outbound) → q.pending ≡ m ∷ ms
    → (tail_dropped q m.message.message_id).0.pending ≡ ms
gone_first m ms q e =
    ap (λ (z : List Waiting). (tail_dropped_from z q m.message.message_id).0.pending) e
    ∙ ap (λ (z : Outbound × ℕ). z.0.pending)
    (cond-true (eqb m.message.message_id m.message.message_id)
    (record q { pending = ms; in_flight = q.in_flight ++ marker_of m.message ∷ [] }, message_bytes m) (q, 0)
    (eq-eqb m.message.message_id m.message.message_id refl))

tail_in_order : (now : ℕ) (ms : List Waiting) (q : Outbound) → q.pending ≡ ms → IsOrderly q → AreInTime now q.in_flight
    → IsOldInTime now (after_tail_expiry_of ms q now).0
tail_in_order now [] q e orderly h =
    record { orderly = orderly; flight = h; first = subst (IsFirstInTime now) (sym e) tt }
tail_in_order now (m ∷ ms) q e orderly h =
    let own : IsFirstBegun (m ∷ ms) q.in_flight q.next_message_id =
    subst (λ (z : List Waiting). IsFirstBegun z q.in_flight q.next_message_id) e orderly in
    let id = m.message.message_id in
    either_queue (IsOldInTime now) (is_expired_tail now m q.in_flight) (tail_dropped q id).0 q
    (Some (released m.message (tail_dropped q id).1)) None
    (λ (late : is_expired_tail now m q.in_flight ≡ true). record {
      orderly = tail_orderly q.pending q id refl orderly;
      flight = tail_in_time now q.pending q id h;
      first =
          subst (IsFirstInTime now) (sym (gone_first m ms q e))
          (unbegun_in_time now (suc id) ms q.next_message_id own.1);
    })
    (λ (kept : is_expired_tail now m q.in_flight ≡ false). record {
      orderly = orderly;
      flight = h;
      first = subst (IsFirstInTime now) (sym e) (kept_first now m q.in_flight kept h own.0);
    })

tail_queue : (now : ℕ) (all : Sender × StreamMap)
    → (tail_given_up now all).0.queue ≡ (after_tail_expiry now all.0.queue).0
unfolding tail_given_up
tail_queue now (s, m) = refl

-- All

late_orderly : (now : ℕ) (all : Sender × StreamMap) (h : History) → AreMarkedRight all.0.queue.in_flight
    → IsOrderly all.0.queue → IsOrderly (late_given_up now all).0.queue
late_orderly now all h right orderly =
    let b : Sender × StreamMap = (with_started now all.0, all.1) in
    let n = length b.0.queue.in_flight in
    let up = giving_up n (reasons.Expired now) b h (act_marked (Act.Started now) (both_parts all h) right) in
    subst (λ (p : Parts). IsOrderly p.queue) (sym up.there)
    (acts_orderly (acts_of_giving_up n (reasons.Expired now) b) (both_parts b h)
    (started_orderly now all.0.queue orderly))

late_if : (uses : Bool) (now : ℕ) (all : Sender × StreamMap) (h : History) → uses ≡ true
    → AreMarkedRight all.0.queue.in_flight → IsOrderly all.0.queue → IsOldInTime now (expired_by uses now all).0.queue
late_if true now all h e right orderly =
    let late : Sender × StreamMap = late_given_up now all in
    subst (IsOldInTime now) (sym (tail_queue now late))
    (tail_in_order now late.0.queue.pending late.0.queue refl (late_orderly now all h right orderly)
    (late_flight now all))
late_if false now all h e right orderly = absurd (false≢true e)

pub nothing_late_is_left : (a : Shown) (now : ℕ) (h : History) → Binds a h → uses_forward_tsn a ≡ true
    → IsOrderly a.sender.queue → IsOldInTime now (late_abandoned a now).sender.queue
nothing_late_is_left a now h binds uses orderly =
    late_if (uses_forward_tsn a) now (both_of a) h uses binds.marked orderly
