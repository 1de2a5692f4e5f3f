-- The sets of pieces in flight still have those that they are to have, as pieces come, leave and change.
use Rattle.std.proofs.Common.{◌≡◌, ℕ, zero, suc, ◌-◌, ◌<◌, Bool, true, false, ◌&&◌, not, nat_le, nat_lt, List, []}
use Rattle.std.proofs.Common.{◌∷◌, length, ◌==◌, drop, map, slice_get, slice_set, Option, Some, None, is_some, refl}
use Rattle.std.proofs.Common.{ap, sym, ◌∙◌, arith, ⊎_elim}
use Rattle.std.specs.Prelude.{if◌then◌else◌, position}
use Rattle.std.specs.Option.{option_map}
use Rattle.std.proofs.lemmas.Bool.{cases_Bool}
use Rattle.std.proofs.lemmas.Bool.Decides.{nat_tests}
use Rattle.sctp_candidates.specs.Candidates.{IsNext, passes}
use Rattle.sctp_candidates.proofs.Standing.{next_passing, stand_kept, stand_mapped}
use Rattle.sctp_outbound_queue.specs.declared.message.Among.{Among}
use Rattle.sctp_outbound_queue.specs.declared.message.Among.TheVariants as amongs
use Rattle.sctp_outbound_queue.specs.declared.message.InFlight.{InFlight}
use Rattle.sctp_outbound_queue.specs.declared.message.Reports.{Reports}
use Rattle.sctp_outbound_queue.specs.declared.message.Retransmission.TheVariants as causes
use Rattle.sctp_outbound_queue.specs.declared.piece_sets.PieceSets.{PieceSets}
use Rattle.sctp_outbound_queue.specs.Message.{is_among, is_last_report, is_outstanding, is_reported, marked_again}
use Rattle.sctp_outbound_queue.specs.Message.{misses_after, misses_before, picks, reported_missing, sent_once}
use Rattle.sctp_outbound_queue.specs.Message.{sent_started, stays_resent, was_acknowledged}
use Rattle.sctp_outbound_queue.specs.PieceSets.{AreStanding, HavePlace, IsPlain}
use Rattle.sctp_outbound_queue.specs.Waiting.{Waiting}

-- a piece that is there has a place
there : (ps : List InFlight) (i : ℕ) (p : InFlight) → slice_get ps i ≡ Some p → i < length ps
there [] i p e = absurd (cc)
there (x ∷ xs) zero p e = omega arith
there (x ∷ xs) (suc i) p e = omega (arith, there xs i p e)

pub has_place : (s : PieceSets) (ps : List InFlight) (i : ℕ) (p : InFlight) → slice_get ps i ≡ Some p
    → AreStanding s ps → HavePlace i s
has_place s ps i p e stand =
    let within = there ps i p e in
    (omega (arith, within, stand.0.0), omega (arith, within, stand.1.0), omega (arith, within, stand.2.0))

-- a piece becomes one that is in the same sets
pub standing_kept : (s : PieceSets) (ps : List InFlight) (i : ℕ) (p q : InFlight) → slice_get ps i ≡ Some p
    → picks causes.Timer q ≡ picks causes.Timer p → picks causes.Fast q ≡ picks causes.Fast p
    → was_acknowledged q ≡ was_acknowledged p → AreStanding s ps → AreStanding s (slice_set ps i q)
standing_kept s ps i p q e timer fast acked stand =
    let within = there ps i p e in (
      stand_kept (picks causes.Timer) s.marked ps i q stand.0 within
          (timer ∙ sym (ap (passes (picks causes.Timer)) e)),
      stand_kept (picks causes.Fast) s.missing ps i q stand.1 within
          (fast ∙ sym (ap (passes (picks causes.Fast)) e)),
      stand_kept was_acknowledged s.acked ps i q stand.2 within (acked ∙ sym (ap (passes was_acknowledged) e)),
    )

-- the time of messages runs
pub standing_started : (s : PieceSets) (now : ℕ) (ps : List InFlight) → AreStanding s ps
    → AreStanding s (map (sent_started now) ps)
standing_started s now ps stand = (
  stand_mapped (picks causes.Timer) (sent_started now) s.marked ps (λ p. refl) stand.0,
  stand_mapped (picks causes.Fast) (sent_started now) s.missing ps (λ p. refl) stand.1,
  stand_mapped was_acknowledged (sent_started now) s.acked ps (λ p. refl) stand.2,
)

-- where messages wait there is a first one
pub first_waits : (ms : List Waiting) → (length ms == 0) ≡ false → (m : Waiting) × (slice_get ms 0 ≡ Some m)
first_waits [] some = absurd (cc)
first_waits (m ∷ ms) some = (m, refl)

-- a piece goes out for the first time
pub sent_plain : (now : ℕ) (ms : List Waiting) (p : InFlight) → option_map (sent_once now) (slice_get ms 0) ≡ Some p
    → IsPlain p
sent_plain now [] p e = absurd (cc)
sent_plain now (m ∷ ms) p e =
    let same : sent_once now m ≡ p = cc in
    rw (← same) (refl, refl, refl)

-- the first piece leaves
pub standing_behind : (s t : PieceSets) (ps : List InFlight) (p : InFlight) → slice_get ps 0 ≡ Some p
    → ((q : InFlight) → (qs : List InFlight) → AreStanding s (q ∷ qs) → AreStanding t qs) → AreStanding s ps
    → AreStanding t (drop 1 ps)
standing_behind s t [] p e passed stand = absurd (cc)
standing_behind s t (x ∷ xs) p e passed stand = passed x xs stand

-- what a change leaves

pub marked_as_missing : (p : InFlight) → picks causes.Fast (marked_again p) ≡ picks causes.Fast p
marked_as_missing p =
    ⊎_elim (λ (t : is_outstanding p ≡ true). rw (t, t) refl) (λ (f : is_outstanding p ≡ false). rw (f, f) refl)
    (cases_Bool (is_outstanding p))

pub marked_as_acked : (p : InFlight) → was_acknowledged (marked_again p) ≡ was_acknowledged p
marked_as_acked p =
    ⊎_elim (λ (t : p.acked ≡ true). rw t refl)
    (λ (f : p.acked ≡ false).
    ⊎_elim (λ (t : is_outstanding p ≡ true). rw (t, f) refl) (λ (g : is_outstanding p ≡ false). rw (g, f) refl)
    (cases_Bool (is_outstanding p)))
    (cases_Bool p.acked)

pub reported_as_marked : (r : Reports) (p : InFlight)
    → picks causes.Timer (reported_missing r p) ≡ picks causes.Timer p
reported_as_marked r p =
    ⊎_elim (λ (t : is_reported r p ≡ true). rw t refl) (λ (f : is_reported r p ≡ false). rw f refl)
    (cases_Bool (is_reported r p))

pub reported_as_acked : (r : Reports) (p : InFlight) → was_acknowledged (reported_missing r p) ≡ was_acknowledged p
reported_as_acked r p =
    ⊎_elim (λ (t : is_reported r p ≡ true). rw t refl) (λ (f : is_reported r p ≡ false). rw f refl)
    (cases_Bool (is_reported r p))

-- a piece that a report counts for is not to be sent again so far

few : (m : ℕ) → nat_lt m 3 ≡ true → nat_le 3 m ≡ false
few m e = grind (arith, nat_tests, e)

few_outstanding : (o s : Bool) (m : ℕ) → (o && nat_lt m 3) ≡ true → (o && not s && nat_le 3 m) ≡ false
few_outstanding true true m e = refl
few_outstanding true false m e = few m e
few_outstanding false s m e = refl

few_not_resent : (o t s : Bool) (m : ℕ) → ((o && not t && not s) && nat_lt m 3) ≡ true
    → (o && not s && nat_le 3 m) ≡ false
few_not_resent true true s m e = absurd (cc)
few_not_resent true false true m e = refl
few_not_resent true false false m e = few m e
few_not_resent false t s m e = refl

few_flying : (o t s : Bool) (m : ℕ) → ((o && not t) && nat_lt (if s then 0 else m) 3) ≡ true
    → (o && not s && nat_le 3 m) ≡ false
few_flying true t true m e = refl
few_flying true true false m e = absurd (cc)
few_flying true false false m e = few m e
few_flying false t s m e = refl

not_picked : (among : Among) (p : InFlight) → (is_among among p && nat_lt (misses_before among p) 3) ≡ true
    → picks causes.Fast p ≡ false
not_picked amongs.Outstanding p e = few_outstanding (is_outstanding p) p.resent p.misses e
not_picked amongs.NotResent p e = few_not_resent (is_outstanding p) p.retransmit p.resent p.misses e
not_picked amongs.Flying p e = few_flying (is_outstanding p) p.retransmit p.resent p.misses e

-- and where that was not the last report, it is not either

last_alone : (b l : Bool) → b ≡ true → (b && l) ≡ false → l ≡ false
last_alone true l on none = none
last_alone false l on none = absurd (cc)

none_after : (o s l : Bool) → l ≡ false → (o && not s && l) ≡ false
none_after true true l e = refl
none_after true false l e = e
none_after false s l e = refl

pub reported_as_missing : (r : Reports) (p : InFlight) → is_last_report r p ≡ false
    → picks causes.Fast (reported_missing r p) ≡ picks causes.Fast p
reported_as_missing r p not_last =
    ⊎_elim (λ (t : is_reported r p ≡ true).
    let less = last_alone (is_reported r p) (nat_le 3 (misses_after r p)) t not_last in
    let after = none_after (is_outstanding p) (stays_resent r.among p) (nat_le 3 (misses_after r p)) less in
    let before = not_picked r.among p t in
    rw t (after ∙ sym before))
    (λ (f : is_reported r p ≡ false). rw f refl)
    (cases_Bool (is_reported r p))

-- whether one of the pieces is missing

still_some : (f : ℕ → ℕ) (o : Option ℕ) → is_some (option_map f o) ≡ is_some o
still_some f None = refl
still_some f (Some n) = refl

pub any_standing : (s : PieceSets) (ps : List InFlight) (found : Option ℕ) {b : Bool} → AreStanding s ps
    → IsNext 0 found s.missing → b ≡ is_some found → b ≡ is_some (position (picks causes.Fast) ps)
any_standing s ps found stand is some =
    some ∙ sym (still_some (λ n. n - 0) found)
    ∙ sym (ap is_some (next_passing (picks causes.Fast) s.missing ps 0 found stand.1 is))
