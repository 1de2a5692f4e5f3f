-- Accepted messages are counted as more of them are accepted.
use Rattle.std.proofs.Common.{◌≡◌, refl, sym, ap, ◌∙◌, subst, ⊎_elim, ℕ, ◌+◌, ◌≤◌, arith, true, false, eqb, ◌||◌}
use Rattle.std.proofs.Common.{List, [], ◌∷◌}
use Rattle.std.specs.List.{sum_by}
use Rattle.std.proofs.lemmas.Bool.{cases_Bool, cases_eq, eq-eqb, false≢true}
use Rattle.std.proofs.lemmas.List.Sums.{sum_by-cons}
use Rattle.sctp_model.specs.Messages.{Message}
use Rattle.sctp_model.specs.Packets.{mem}
use Rattle.sctp_model.specs.Machine.{Direction}
use Rattle.sctp_model.specs.Safe.{AreDistinct}
use Rattle.sctp_fit.specs.FewPieces.{HasAccepted, all_pieces}
use Rattle.sctp_directions.specs.Laws.{AcceptedMessagesAreCounted, NothingIsAcceptedAtFirst}

-- More pieces of one stream

sum_same : (f g : ℕ → ℕ) (xs : List ℕ) (t : ℕ) → mem t xs ≡ false → ((s : ℕ) → (s ≡ t → ⊥) → g s ≡ f s)
    → sum_by g xs ≡ sum_by f xs
sum_same f g [] t m same = refl
sum_same f g (x ∷ xs) t m same = ⊎_elim
    (λ (e : eqb x t ≡ true). absurd (false≢true (sym m ∙ ap (λ z. z || mem t xs) e)))
    (λ (e : eqb x t ≡ false).
    let here = same x (λ (q : x ≡ t). false≢true (sym e ∙ eq-eqb x t q)) in
    let rest = sum_same f g xs t (subst (λ z. (z || mem t xs) ≡ false) e m) same in
    let a = sum_by-cons f x xs in
    let b = sum_by-cons g x xs in
    omega arith)
    (cases_Bool (eqb x t))

sum_grown : (f g : ℕ → ℕ) (xs : List ℕ) (t k : ℕ) → AreDistinct xs → ((s : ℕ) → (s ≡ t → ⊥) → g s ≡ f s) → g t ≤ f t + k
    → sum_by g xs ≤ sum_by f xs + k
sum_grown f g [] t k once same more = omega arith
sum_grown f g (x ∷ xs) t k (fresh, once) same more = ⊎_elim
    (λ (e : x ≡ t).
    let here : g x ≤ f x + k = subst (λ z. g z ≤ f z + k) (sym e) more in
    let rest = sum_same f g xs t (subst (λ z. mem z xs ≡ false) e fresh) same in
    let a = sum_by-cons f x xs in
    let b = sum_by-cons g x xs in
    omega (arith, here))
    (λ (ne : x ≡ t → ⊥).
    let here = same x ne in
    let rest = sum_grown f g xs t k once same more in
    let a = sum_by-cons f x xs in
    let b = sum_by-cons g x xs in
    omega (arith, here))
    (cases_eq x t)

-- how many pieces a stream of w has
abbrev pieces_on : Direction → ℕ → ℕ
pieces_on w s = all_pieces w.sender.plan.size (w.sender.plan.accepted s)

module _ (n k id : ℕ) (w v : Direction) (size : v.sender.plan.size ≡ w.sender.plan.size)
    (same : (s : ℕ) → (s ≡ id → ⊥) → v.sender.plan.accepted s ≡ w.sender.plan.accepted s)
    (more : all_pieces w.sender.plan.size (v.sender.plan.accepted id)
    ≤ all_pieces w.sender.plan.size (w.sender.plan.accepted id) + k)
    (a : HasAccepted n w) where
  accepted_counted : HasAccepted (n + k) v
  accepted_counted = ⊎_elim
      (λ (m : mem id a.streams ≡ true). record {
        streams = a.streams;
        once = a.once;
        others =
            λ s none. same s (λ (e : s ≡ id). false≢true (sym none ∙ ap (λ z. mem z a.streams) e ∙ m))
            ∙ a.others s none;
        total =
            (let grown =
            sum_grown (λ (s : ℕ). pieces_on w s) (λ (s : ℕ). pieces_on v s) a.streams id k a.once as_before added in
            let total = a.total in omega arith);
      })
      (λ (m : mem id a.streams ≡ false). record {
        streams = id ∷ a.streams;
        once = (m, a.once);
        others = λ s none. ⊎_elim
            (λ (e : eqb id s ≡ true). absurd (false≢true (sym none ∙ ap (λ z. z || mem s a.streams) e)))
            (λ (e : eqb id s ≡ false). same s (λ (q : s ≡ id). false≢true (sym e ∙ eq-eqb id s (sym q)))
            ∙ a.others s (subst (λ z. (z || mem s a.streams) ≡ false) e none))
            (cases_Bool (eqb id s));
        total =
            (let here : pieces_on w id ≡ 0 =
            ap (λ (ms : List Message). all_pieces w.sender.plan.size ms) (a.others id m) in
            let rest = sum_same (λ (s : ℕ). pieces_on w s) (λ (s : ℕ). pieces_on v s) a.streams id m as_before in
            let both = sum_by-cons (λ (s : ℕ). pieces_on v s) id a.streams in
            let total = a.total in
            omega (arith, added));
      })
      (cases_Bool (mem id a.streams))
    where
      as_before : (s : ℕ) → (s ≡ id → ⊥) → pieces_on v s ≡ pieces_on w s
      as_before s ne =
          ap (λ (z : ℕ). all_pieces z (v.sender.plan.accepted s)) size
          ∙ ap (λ (ms : List Message). all_pieces w.sender.plan.size ms) (same s ne)

      added : pieces_on v id ≤ pieces_on w id + k
      added = subst (λ (z : ℕ). all_pieces z (v.sender.plan.accepted id) ≤ pieces_on w id + k) (sym size) more

pub accepted_messages_are_counted : AcceptedMessagesAreCounted
accepted_messages_are_counted = accepted_counted

pub nothing_is_accepted_at_first : NothingIsAcceptedAtFirst
nothing_is_accepted_at_first size = record { streams = []; once = tt; others = λ s none. refl; total = omega arith }
