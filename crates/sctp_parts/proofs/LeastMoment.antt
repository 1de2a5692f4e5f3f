use Rattle.std.proofs.Common.{◌≡◌, ◌↔◌, ℕ, ◌≤◌, min, Option, Some, None, IfSome, IsNone, refl, ap, sym, ◌∙◌, ◌⊎◌}
use Rattle.std.proofs.Common.{⊎_elim, arith, rules}
use Rattle.sctp_parts.specs.declared.timer.Timer.{Timer}
use Rattle.sctp_parts.specs.declared.timer.Timer.TheVariants.{T1Init, T1Cookie, T2Shutdown, T3RTX, Reconfig, Ack}
use Rattle.sctp_parts.specs.Timers.{Timers, moment_of, earlier, least_moment, IsNoneArmed, IsLeastArmed}

-- where the second moment is armed, the first one is too, and it is not later
abbrev pub IsAtMost : Option ℕ → Option ℕ → Type 0
IsAtMost a b = (x : ℕ) → b ≡ Some x → (m : ℕ) × (a ≡ Some m) × (m ≤ x)

at_most_same : (a : Option ℕ) → IsAtMost a a
at_most_same a x e = (x, e, omega arith)

at_most_trans : (a b c : Option ℕ) → IsAtMost a b → IsAtMost b c → IsAtMost a c
at_most_trans a b c p q x e =
    let y = q x e in
    let z = p y.0 y.1 in
    (z.0, z.1, omega (arith, y.2, z.2))

left : (a b : Option ℕ) → IsAtMost (earlier a b) a
left None b x e = grind (arith, rules, e)
left (Some a) None x e = (x, e, omega arith)
left (Some a) (Some b) x e = (min a b, refl, grind (arith, rules, e))

right : (a b : Option ℕ) → IsAtMost (earlier a b) b
right None b x e = (x, e, omega arith)
right (Some a) None x e = grind (arith, rules, e)
right (Some a) (Some b) x e = (min a b, refl, grind (arith, rules, e))

least_at_most : (t : Timers) (timer : Timer) → IsAtMost (least_moment t) (moment_of timer t)
least_at_most t timer =
    let e2 = earlier t.t1_init.moment t.t1_cookie.moment in
    let e3 = earlier e2 t.t2_shutdown.moment in
    let e4 = earlier e3 t.t3_rtx.moment in
    let e5 = earlier e4 t.reconfig.moment in
    let above5 = left e5 t.ack.moment in
    let above4 = at_most_trans _ e5 e4 above5 (left e4 _) in
    let above3 = at_most_trans _ e4 e3 above4 (left e3 _) in
    let above2 = at_most_trans _ e3 e2 above3 (left e2 _) in
    elim timer as (λ name. IsAtMost (least_moment t) (moment_of name t)) [
      | T1Init ↦ at_most_trans _ e2 _ above2 (left _ _)
      | T1Cookie ↦ at_most_trans _ e2 _ above2 (right t.t1_init.moment _)
      | T2Shutdown ↦ at_most_trans _ e3 _ above3 (right e2 _)
      | T3RTX ↦ at_most_trans _ e4 _ above4 (right e3 _)
      | Reconfig ↦ at_most_trans _ e5 _ above5 (right e4 _)
      | Ack ↦ right e5 _
    ]

-- a moment is that of one of the timers
abbrev pub IsOfTimer : Timers → Option ℕ → Type 0
IsOfTimer t o = (m : ℕ) → o ≡ Some m → (timer : Timer) × (moment_of timer t ≡ Some m)

of_earlier : (t : Timers) (a b : Option ℕ) → IsOfTimer t a → IsOfTimer t b → IsOfTimer t (earlier a b)
of_earlier t None b f g m e = g m e
of_earlier t (Some a) None f g m e = f m e
of_earlier t (Some a) (Some b) f g m e =
    ⊎_elim (λ (h : min a b ≡ a). f m (ap Some (sym h) ∙ e)) (λ (h : min a b ≡ b). g m (ap Some (sym h) ∙ e))
    (min_cases a b)
  where
    min_cases : (x y : ℕ) → (min x y ≡ x) ⊎ (min x y ≡ y)
    min_cases x y = grind arith

least_of_timer : (t : Timers) → IsOfTimer t (least_moment t)
least_of_timer t =
    of_earlier t _ _ (of_earlier t _ _ (of_earlier t _ _ (of_earlier t _ _ (of_earlier t _ _
    (λ m e. (T1Init, e)) (λ m e. (T1Cookie, e))) (λ m e. (T2Shutdown, e))) (λ m e. (T3RTX, e)))
    (λ m e. (Reconfig, e))) (λ m e. (Ack, e))

some_least : (o : Option ℕ) (P : ℕ → Type 0) → ((m : ℕ) → o ≡ Some m → P m) → IfSome o P
some_least None P f = tt
some_least (Some m) P f = f m refl

-- the least moment is armed and none is earlier
pub least_armed : (t : Timers) → IfSome (least_moment t) (λ moment. IsLeastArmed t moment)
least_armed t = some_least (least_moment t) _ (λ m e. record {
  armed = least_of_timer t m e;
  least = λ timer other is. let found = least_at_most t timer other is in
      omega (arith, found.2, same m found.0 (sym e ∙ found.1));
})
  where
    same : (x y : ℕ) → Some x ≡ Some y → x ≡ y
    same x y h = grind (arith, rules, h)

none_or : (o : Option ℕ) → ((m : ℕ) → o ≡ Some m → ⊥) → o ≡ None
none_or None f = refl
none_or (Some m) f = absurd (f m refl)

is_none : (o : Option ℕ) → IsNone o → o ≡ None
is_none None e = refl
is_none (Some m) e = grind (rules, e)

-- there is no least moment exactly where no timer is armed
pub none_armed : (t : Timers) → IsNone (least_moment t) ↔ IsNoneArmed t
none_armed t = (
  (λ none timer. none_or (moment_of timer t) (λ x e. let found = least_at_most t timer x e in
      grind (rules, sym (is_none (least_moment t) none) ∙ found.1))),
  (λ idle. let none = none_or (least_moment t) (λ m e. let found = least_of_timer t m e in
      grind (rules, sym (idle found.0) ∙ found.1)) in rw none refl),
)
