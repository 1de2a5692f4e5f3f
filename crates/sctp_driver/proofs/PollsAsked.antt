-- A driver in which no datagram waits asks its association for packets.
use Rattle.std.proofs.Common.{◌≡◌, refl, ap, sym, ◌∙◌, subst, ℕ, Bool, true, List, [], ◌∷◌, length, Result, Ok, Err}
use Rattle.std.proofs.Common.{Option, arith, ◌==◌}
use Rattle.std.specs.Prelude.{IsErrOf}
use Rattle.std.proofs.lemmas.Bool.Decides.{nat_tests}
use Rattle.sctp_wire_types.specs.declared.error.Error.{Error}
use Rattle.sctp_wire.specs.declared.transmit.Transmit.{Transmit}
use Rattle.sctp_assoc.specs.Gather.{has_something_to_give, polled}
use Rattle.sctp_assoc.specs.Shown.{Shown}
use Rattle.sctp_driver.specs.Driving.{Driving}
use Rattle.sctp_driver.specs.Sending.{asked, asked_for, with_polled}

zero_of : (n : ℕ) → (n == 0) ≡ true → n ≡ 0
zero_of n e = grind (arith, nat_tests, e)

pub nothing_waits : (len : ℕ) (waiting : List (List ℕ)) (empty : Bool) → length waiting ≡ len → empty ≡ (len == 0)
    → empty ≡ true → waiting ≡ []
nothing_waits len [] empty is e f = refl
nothing_waits len (w ∷ ws) empty is e f =
    let none : len ≡ 0 = zero_of len (sym e ∙ f) in
    absurd (omega (arith, is, none))

pub polled_then : (d : Driving) (b : Shown) (moment now : ℕ) (packets : List (List ℕ)) → moment ≡ now
    → d.waiting ≡ [] → polled d.association moment ≡ (b, packets)
    → record d { association = b; waiting = packets } ≡ asked d now
polled_then d b moment now packets e none p =
    sym (ap (λ (ws : List (List ℕ)). asked_for ws d now) none
    ∙ ap (λ (m : ℕ). with_polled d (polled d.association m)) (sym e)
    ∙ ap (with_polled d) p)

error_of : {T : Type 0} → Result T Error → Error → Error
error_of (Err x) z = x
error_of (Ok x) z = z

-- what lacks memory is the association's poll
module _ (a : Shown) {moment now : ℕ} (at_now : moment ≡ now) {inner error other : Error}
    (given : IsErrOf {T = Option Transmit} (Err inner) other → has_something_to_give a moment ≡ true)
    (same : error ≡ inner)
  where
    pub lacking_given : {r : Result (Unit {0}) Error} → r ≡ Err error → IsErrOf r other
        → has_something_to_give a now ≡ true
    unfolding error_of
    lacking_given {r} is lacks =
        let error_is : error ≡ other = ap (λ (z : Result (Unit {0}) Error). error_of z error) (sym is ∙ lacks) in
        subst (λ (m : ℕ). has_something_to_give a m ≡ true) at_now
        (given (ap (λ (z : Error). let s : Result (Option Transmit) Error = Err z in s) (sym same ∙ error_is)))

-- where none waits, what failed is the association
pub failing_given : {r : Result (Unit {0}) Error} {inner error : Error} (d e : Driving) (other : Error) → d ≡ e
    → d.waiting ≡ [] → (IsErrOf {T = Option Transmit} (Err inner) other → d.association.failed ≡ true)
    → (d.association.failed ≡ true → IsErrOf {T = Option Transmit} (Err inner) other) → error ≡ inner → r ≡ Err error
    → (IsErrOf r other → (e.waiting ≡ []) × (e.association.failed ≡ true))
    × ((e.waiting ≡ []) × (e.association.failed ≡ true) → IsErrOf r other)
unfolding error_of
failing_given {r = r} {inner = inner} {error = error} d e other view none failed fails same is =
    let down : IsErrOf r other → error ≡ other =
    λ (f : IsErrOf r other). ap (λ (z : Result (Unit {0}) Error). error_of z error) (sym is ∙ f) in
    let up : IsErrOf {T = Option Transmit} (Err inner) other → inner ≡ other =
    λ (f : IsErrOf {T = Option Transmit} (Err inner) other).
    ap (λ (z : Result (Option Transmit) Error). error_of z inner) f in
    subst (λ (z : Driving). (IsErrOf r other → (z.waiting ≡ []) × (z.association.failed ≡ true))
    × ((z.waiting ≡ []) × (z.association.failed ≡ true) → IsErrOf r other)) view (
      λ f. (
        none,
        failed (ap (λ (z : Error). let t : Result (Option Transmit) Error = Err z in t) (sym same ∙ down f)),
      ),
      λ both. is ∙ ap (λ (z : Error). let t : Result (Unit {0}) Error = Err z in t) (same ∙ up (fails both.1)),
    )
