-- Where no message has a limit nothing is given up.
use Rattle.std.proofs.Common.{◌≡◌, ℕ, ◌+◌, ◌-◌, Bool, true, false, ◌&&◌, ◌||◌, not, is_some, nat_lt, List, [], ◌∷◌, map}
use Rattle.std.proofs.Common.{Option, Some, None, length, slice_get, refl, ap, ◌∙◌, ⊎_elim, arith}
use Rattle.std.proofs.lemmas.Bool.{cases_Bool}
use Rattle.std.specs.List.{AllByRecursion, find, position, position_or_len}
use Rattle.std.specs.Option.{option_map}
use Rattle.sctp_outbound_queue.specs.declared.message.Attributes.{Attributes}
use Rattle.sctp_outbound_queue.specs.declared.message.InFlight.{InFlight}
use Rattle.sctp_outbound_queue.specs.declared.message.Retransmission.{Retransmission}
use Rattle.sctp_outbound_queue.specs.Message.{deadline_under, is_expired_piece, is_past, picks, room_taken}
use Rattle.sctp_outbound_queue.specs.Message.{sent_started}
use Rattle.sctp_outbound_queue.specs.Message.{is_expired_unsent, message_bytes, started, waiting_started}
use Rattle.sctp_outbound_queue.specs.Outbound.{Outbound, released}
use Rattle.sctp_outbound_queue.specs.Expiry.{all_started}
use Rattle.sctp_outbound_queue.specs.Waiting.{Waiting}
use Rattle.sctp_streams.specs.Streams.{StreamMap}
use Rattle.sctp_outbound.specs.declared.abandonment.Reason.TheVariants as reasons
use Rattle.sctp_outbound.specs.declared.sender.Sender.{Sender}
use Rattle.sctp_outbound.specs.Abandonment.{all_given_up, allows_no_more, dropped_by, expired_by, expires, first_spent}
use Rattle.sctp_outbound.specs.Abandonment.{given_up_before, gives_up_before, has_late_tail, is_pass_due}
use Rattle.sctp_outbound.specs.Abandonment.{is_spent, late_given_up, next_given_up, pass_room, spent_index}
use Rattle.sctp_outbound.specs.Abandonment.{tail_given_up}
use Rattle.sctp_outbound.specs.Abandonment.{with_started}
use Rattle.sctp_outbound.specs.Laws.{HasNoLimit, IsUnlimited, UnlimitedStay}
use Rattle.sctp_outbound.proofs.Dropped.{none_of_any}
use Rattle.sctp_outbound.proofs.GivenUp.{is_late, lt_same, no_late_tail, none_given_up, tail_stays}

-- what a pass does at one piece

pub index_skip : (k : Retransmission) (i room : ℕ) (p : InFlight) (ps : List InFlight) → picks k p ≡ false
    → spent_index k i room (p ∷ ps) ≡ spent_index k (i + 1) room ps
index_skip k i room p ps a = rw a refl

pub index_spent : (k : Retransmission) (i room : ℕ) (p : InFlight) (ps : List InFlight) → picks k p ≡ true
    → is_spent p ≡ true → spent_index k i room (p ∷ ps) ≡ Some i
index_spent k i room p ps a b = rw (a, b) refl

pub index_full : (k : Retransmission) (i room : ℕ) (p : InFlight) (ps : List InFlight) → picks k p ≡ true
    → is_spent p ≡ false → nat_lt room (room_taken k p) ≡ true → spent_index k i room (p ∷ ps) ≡ None
index_full k i room p ps a b c = rw (a, b, c) refl

pub index_on : (k : Retransmission) (i room : ℕ) (p : InFlight) (ps : List InFlight) → picks k p ≡ true
    → is_spent p ≡ false → nat_lt room (room_taken k p) ≡ false
    → spent_index k i room (p ∷ ps) ≡ spent_index k (i + 1) (room - room_taken k p) ps
index_on k i room p ps a b c = rw (a, b, c) refl

-- no piece is spent

never_spent : (p : InFlight) → IsUnlimited p.message → is_spent p ≡ false
never_spent p u = ap (λ z. allows_no_more z p.sent_count) u

no_index : (k : Retransmission) (i room : ℕ) (ps : List InFlight)
    → AllByRecursion (λ (p : InFlight). IsUnlimited p.message) ps → spent_index k i room ps ≡ None
no_index k i room [] all = refl
no_index k i room (p ∷ ps) all =
    ⊎_elim (
    λ (a : picks k p ≡ true). ⊎_elim
    (λ (c : nat_lt room (room_taken k p) ≡ true). index_full k i room p ps a (never_spent p all.0) c)
    (λ (c : nat_lt room (room_taken k p) ≡ false).
    index_on k i room p ps a (never_spent p all.0) c ∙ no_index k (i + 1) (room - room_taken k p) ps all.1)
    (cases_Bool (nat_lt room (room_taken k p)))
    ) (
    λ (a : picks k p ≡ false). index_skip k i room p ps a ∙ no_index k (i + 1) room ps all.1
    ) (cases_Bool (picks k p))

none_spent : (k : Retransmission) (s : Sender) → HasNoLimit s.queue → first_spent k s ≡ None
none_spent k s all =
    ⊎_elim
    (λ (due : is_pass_due k s ≡ true).
    rw due (no_index k 0 (pass_room k s) s.queue.in_flight all.1))
    (λ (due : is_pass_due k s ≡ false). rw due refl)
    (cases_Bool (is_pass_due k s))

-- no deadline runs, nor begins to

and_false : (a : Bool) → (a && false) ≡ false
and_false true = refl
and_false false = refl

not_expired : (now : ℕ) (p : InFlight) → IsUnlimited p.message → is_expired_piece now p ≡ false
not_expired now p u =
    ap (λ z. not p.abandoned && is_past z p.message.deadline now) u ∙ and_false (not p.abandoned)

all_passed : (now : ℕ) (ps : List InFlight) → AllByRecursion (λ (p : InFlight). IsUnlimited p.message) ps
    → position_or_len (is_expired_piece now) ps ≡ length ps
all_passed now [] all = refl
all_passed now (p ∷ ps) all =
    let rest = all_passed now ps all.1 in
    rw (not_expired now p all.0) (omega (arith, rest))

no_position : (now : ℕ) (ps : List InFlight) → AllByRecursion (λ (p : InFlight). IsUnlimited p.message) ps
    → position (is_expired_piece now) ps ≡ None
no_position now ps all = rw (all_passed now ps all, lt_same (length ps)) refl

none_expired : (now : ℕ) (s : Sender) → HasNoLimit s.queue → next_given_up (reasons.Expired now) s ≡ None
none_expired now s all = no_position now s.queue.in_flight all.1

started_same : (now : ℕ) (a : Attributes) → IsUnlimited a → started now a ≡ a
started_same now a u = ap (λ z. record a { deadline = z }) (ap (λ z. deadline_under z now a.deadline) u)

sent_same : (now : ℕ) (ps : List InFlight) → AllByRecursion (λ (p : InFlight). IsUnlimited p.message) ps
    → map (sent_started now) ps ≡ ps
sent_same now [] all = refl
sent_same now (p ∷ ps) all =
    ap (λ z. record p { message = z } ∷ map (sent_started now) ps) (started_same now p.message all.0)
    ∙ ap (λ z. p ∷ z) (sent_same now ps all.1)

waiting_same : (now : ℕ) (ms : List Waiting) → AllByRecursion (λ (m : Waiting). IsUnlimited m.message) ms
    → map (waiting_started now) ms ≡ ms
waiting_same now [] all = refl
waiting_same now (m ∷ ms) all =
    ap (λ z. record m { message = z } ∷ map (waiting_started now) ms) (started_same now m.message all.0)
    ∙ ap (λ z. m ∷ z) (waiting_same now ms all.1)

all_same : (now : ℕ) (q : Outbound) → HasNoLimit q → all_started now q ≡ q
all_same now q all =
    ap (λ z. record q { pending = z; in_flight = map (sent_started now) q.in_flight })
    (waiting_same now q.pending all.0)
    ∙ ap (λ z. record q { in_flight = z }) (sent_same now q.in_flight all.1)

sender_same : (now : ℕ) (s : Sender) → HasNoLimit s.queue → with_started now s ≡ s
sender_same now s all = ap (λ z. record s { queue = z }) (all_same now s.queue all)

never_late : (now : ℕ) (ms : List Waiting) → AllByRecursion (λ (m : Waiting). IsUnlimited m.message) ms
    → is_late now (slice_get ms 0) ≡ false
never_late now [] all = refl
never_late now (m ∷ ms) all = ap (λ z. m.begun && is_past z m.message.deadline now) all.0 ∙ and_false m.begun

late_same : (now : ℕ) (s : Sender) (m : StreamMap) → HasNoLimit s.queue → late_given_up now (s, m) ≡ (s, m)
late_same now s m all =
    ap (λ (z : Sender). all_given_up (reasons.Expired now) (z, m)) (sender_same now s all)
    ∙ none_given_up (reasons.Expired now) (length s.queue.in_flight) (s, m) (none_expired now s all)

given_up_same : (s : Sender) (m : StreamMap) → HasNoLimit s.queue → (forward : Bool) (k : Retransmission)
    → (given_up_before forward k (s, m) ≡ (s, m)) × (gives_up_before forward k s ≡ false)
given_up_same s m all false k = (refl, refl)
given_up_same s m all true k = (
  none_given_up (reasons.Spent k) (length s.queue.in_flight) (s, m) (none_spent k s all),
  ap (λ (z : Option ℕ). is_some z) (none_spent k s all),
)

expired_same : (s : Sender) (m : StreamMap) → HasNoLimit s.queue → (forward : Bool) (now : ℕ)
    → (expired_by forward now (s, m) ≡ (s, m)) × (expires forward now (s, m) ≡ false)
expired_same s m all false now = (refl, refl)
expired_same s m all true now = (
  ap (tail_given_up now) (late_same now s m all)
      ∙ tail_stays now s m (never_late now s.queue.pending all.0),
  ap (λ (z : Option ℕ). is_some z || has_late_tail now (late_given_up now (s, m)).0)
      (ap (λ (z : Sender). next_given_up (reasons.Expired now) z) (sender_same now s all) ∙ none_expired now s all)
      ∙ ap (λ (z : Sender × StreamMap). has_late_tail now z.0) (late_same now s m all)
      ∙ no_late_tail now s (never_late now s.queue.pending all.0),
)

never_unsent : (now : ℕ) (ms : List Waiting) → AllByRecursion (λ (m : Waiting). IsUnlimited m.message) ms
    → find (is_expired_unsent now) ms ≡ None
never_unsent now [] all = refl
never_unsent now (m ∷ ms) all =
    let late = ap (λ z. not m.begun && is_past z m.message.deadline now) all.0 ∙ and_false (not m.begun) in
    rw late (never_unsent now ms all.1)

dropped_same : (s : Sender) (m : StreamMap) → HasNoLimit s.queue → (forward : Bool) (now : ℕ)
    → dropped_by forward now (s, m) ≡ (s, m)
dropped_same s m all false now = refl
dropped_same s m all true now =
    none_of_any (length s.queue.pending) now (s, m)
    (ap (λ (z : Option Waiting). is_some (option_map (λ m. released m.message (message_bytes m)) z))
    (never_unsent now s.queue.pending all.0))

pub unlimited_stay : UnlimitedStay
unlimited_stay s m all = (
  given_up_same s m all,
  λ forward now. (
    (expired_same s m all forward now).0,
    (expired_same s m all forward now).1,
    dropped_same s m all forward now,
  ),
)
