-- Where a pass reaches no spent piece, none of what it sends again is spent.
use Rattle.std.proofs.Common.{◌≡◌, ℕ, ◌+◌, ◌-◌, true, false, is_some, nat_lt, List, [], ◌∷◌, inl, inr}
use Rattle.std.proofs.Common.{Option, Some, None, slice_get, refl, ap, sym, subst, ◌∙◌, ⊎_elim, arith}
use Rattle.std.proofs.lemmas.Bool.{cases_Bool, ltb-false, false≢true}
use Rattle.sctp_outbound_queue.specs.declared.message.InFlight.{InFlight}
use Rattle.sctp_outbound_queue.specs.declared.message.Retransmission.{Retransmission}
use Rattle.sctp_outbound_queue.specs.declared.message.Retransmission.TheVariants as causes
use Rattle.sctp_outbound_queue.specs.Message.{picks, room_taken}
use Rattle.sctp_outbound_queue.specs.Outbound.{marked_of}
use Rattle.sctp_outbound.specs.declared.sender.Sender.{Sender}
use Rattle.sctp_outbound.specs.Sender.{after_marked, alone_length_of, both_windows, fast_room, first_counted}
use Rattle.sctp_outbound.specs.Sender.{missing_counted, resend_window, resends_alone, resent_pieces}
use Rattle.sctp_outbound.specs.Abandonment.{first_spent, is_pass_due, is_spent, pass_room, spent_index}
use Rattle.sctp_outbound.specs.Laws.{IsSparing, SpentAreSpared}
use Rattle.sctp_outbound.proofs.MarkedPieces.{none_of}
use Rattle.sctp_outbound.proofs.SenderSteps.{pieces_full, pieces_sent, pieces_skip}
use Rattle.sctp_outbound.proofs.Unlimited.{index_on, index_skip, index_spent}

-- an option that is there is not missing
pub some_is_none : (i : ℕ) → Some i ≡ None → ⊥
some_is_none i e = false≢true (sym (ap (λ (z : Option ℕ). is_some z) e))

pub sparing_same : (k : Retransmission) (ps : List InFlight) → IsSparing k ps ps
sparing_same k [] = tt
sparing_same k (p ∷ ps) = (inl refl, sparing_same k ps)

pub sparing : (k : Retransmission) (i room : ℕ) (ps : List InFlight) → spent_index k i room ps ≡ None
    → IsSparing k ps (resent_pieces k room ps)
sparing k i room [] e = tt
sparing k i room (p ∷ ps) e =
    ⊎_elim (
    λ (a : picks k p ≡ true). ⊎_elim (
    λ (b : is_spent p ≡ true). absurd (some_is_none i (sym (index_spent k i room p ps a b) ∙ e))
    ) (
    λ (b : is_spent p ≡ false). ⊎_elim
    (λ (c : nat_lt room (room_taken k p) ≡ true).
    subst (IsSparing k (p ∷ ps)) (sym (pieces_full k p ps room a c)) (sparing_same k (p ∷ ps)))
    (λ (c : nat_lt room (room_taken k p) ≡ false).
    subst (IsSparing k (p ∷ ps)) (sym (pieces_sent k p ps room a c))
    (inr (refl, b), sparing k (i + 1) (room - room_taken k p) ps (sym (index_on k i room p ps a b c) ∙ e)))
    (cases_Bool (nat_lt room (room_taken k p)))
    ) (cases_Bool (is_spent p))
    ) (
    λ (a : picks k p ≡ false).
    subst (IsSparing k (p ∷ ps)) (sym (pieces_skip k p ps room a))
    (inl refl, sparing k (i + 1) room ps (sym (index_skip k i room p ps a) ∙ e))
    ) (cases_Bool (picks k p))

-- with no mark nothing is picked
pub unmarked : (i room : ℕ) (ps : List InFlight) → marked_of ps ≡ 0 → spent_index causes.Timer i room ps ≡ None
unmarked i room [] none = refl
unmarked i room (p ∷ ps) none =
    let both = none_of p ps none in
    index_skip causes.Timer i room p ps both.0 ∙ unmarked (i + 1) room ps both.1

pub due_index : (k : Retransmission) (s : Sender) → is_pass_due k s ≡ true → first_spent k s ≡ None
    → spent_index k 0 (pass_room k s) s.queue.in_flight ≡ None
due_index k s due e =
    rw due at e

pub marked_index : (s : Sender) → first_spent causes.Timer s ≡ None
    → spent_index causes.Timer 0 (both_windows s) s.queue.in_flight ≡ None
marked_index s e =
    ⊎_elim
    (λ (due : is_pass_due causes.Timer s ≡ true). due_index causes.Timer s due e)
    (λ (due : is_pass_due causes.Timer s ≡ false).
    let none : marked_of s.queue.in_flight ≡ 0 = omega (arith, ltb-false 0 (marked_of s.queue.in_flight) due) in
    unmarked 0 (both_windows s) s.queue.in_flight none)
    (cases_Bool (is_pass_due causes.Timer s))

-- a first piece that goes alone is marked
pub alone_marked : (window : ℕ) (p : InFlight) → is_some (alone_length_of window (Some p)) ≡ true → p.retransmit ≡ true
alone_marked window p e =
    ⊎_elim
    (λ (a : p.retransmit ≡ true). a)
    (λ (a : p.retransmit ≡ false). absurd (false≢true (rw a at e)))
    (cases_Bool p.retransmit)

pub alone : (window room : ℕ) (ps : List InFlight) → is_some (alone_length_of window (slice_get ps 0)) ≡ true
    → spent_index causes.Timer 0 room ps ≡ None → IsSparing causes.Timer ps (first_counted ps)
alone window room [] e none = tt
alone window room (p ∷ ps) e none =
    ⊎_elim
    (λ (b : is_spent p ≡ true).
    absurd (some_is_none 0 (sym (index_spent causes.Timer 0 room p ps (alone_marked window p e) b) ∙ none)))
    (λ (b : is_spent p ≡ false). (inr (refl, b), sparing_same causes.Timer ps))
    (cases_Bool (is_spent p))

pub marked_spared : (s : Sender) → first_spent causes.Timer s ≡ None
    → IsSparing causes.Timer s.queue.in_flight (after_marked s).queue.in_flight
marked_spared s e =
    let none = marked_index s e in
    ⊎_elim
    (λ (a : resends_alone s ≡ true).
    rw a (alone (resend_window s) (both_windows s) s.queue.in_flight a none))
    (λ (a : resends_alone s ≡ false).
    rw a (sparing causes.Timer 0 (both_windows s) s.queue.in_flight none))
    (cases_Bool (resends_alone s))

pub missing_spared : (s : Sender) → first_spent causes.Fast s ≡ None
    → IsSparing causes.Fast s.queue.in_flight (missing_counted s)
missing_spared s e =
    ⊎_elim
    (λ (a : s.is_fast_due ≡ true).
    rw a (sparing causes.Fast 0 (fast_room s) s.queue.in_flight (due_index causes.Fast s a e)))
    (λ (a : s.is_fast_due ≡ false). rw a (sparing_same causes.Fast s.queue.in_flight))
    (cases_Bool s.is_fast_due)

pub spent_are_spared : SpentAreSpared
spent_are_spared s = (marked_spared s, missing_spared s)
