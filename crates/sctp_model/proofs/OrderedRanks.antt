-- How many of the first messages of a stream are ordered.
use Rattle.std.proofs.Common.{ℕ, zero, suc, ◌+◌, ◌<◌, ◌≤◌, ◌≡◌, true, false, cond, List, [], ◌∷◌, length, drop, get_or}
use Rattle.std.proofs.Common.{refl, ap, ◌∙◌, ⊎_elim, arith}
use Rattle.std.proofs.lemmas.Bool.{cases_Bool, cases_lt}
use Rattle.sctp_model.specs.Messages.{Message, count_ordered, no_message, rank}

rank_step : (m : Message) (ms : List Message) (i : ℕ) → rank (m ∷ ms) (suc i) ≡ cond m.ordered 1 0 + rank ms i
rank_step m ms i = refl

pub rank_yes : (ms : List Message) (i : ℕ) → i < length ms → (get_or ms i no_message).ordered ≡ true
    → rank ms (suc i) ≡ suc (rank ms i)
rank_yes [] i l o = absurd (omega arith)
rank_yes (m ∷ ms) zero l o = rw o refl
rank_yes (m ∷ ms) (suc i) l o =
    let r = rank_yes ms i (omega arith) o in
    rw (rank_step m ms (suc i), rank_step m ms i) (omega arith)

pub rank_no : (ms : List Message) (i : ℕ) → (get_or ms i no_message).ordered ≡ false → rank ms (suc i) ≡ rank ms i
rank_no [] zero o = refl
rank_no [] (suc i) o = refl
rank_no (m ∷ ms) zero o = rw o refl
rank_no (m ∷ ms) (suc i) o =
    let r = rank_no ms i o in
    rw (rank_step m ms (suc i), rank_step m ms i) (omega arith)

pub rank_rises : (ms : List Message) (i j : ℕ) → i ≤ j → rank ms i ≤ rank ms j
rank_rises [] zero zero l = omega arith
rank_rises [] zero (suc j) l = omega arith
rank_rises [] (suc i) zero l = omega arith
rank_rises [] (suc i) (suc j) l = omega arith
rank_rises (m ∷ ms) zero j l = omega arith
rank_rises (m ∷ ms) (suc i) zero l = absurd (omega arith)
rank_rises (m ∷ ms) (suc i) (suc j) l =
    let r = rank_rises ms i j (omega arith) in rw (rank_step m ms i, rank_step m ms j) (omega arith)

-- the ordered messages from i on
pub rank_rest : (ms : List Message) (i j : ℕ) → rank ms j ≤ rank ms i + count_ordered (drop i ms)
rank_rest [] zero zero = omega arith
rank_rest [] zero (suc j) = omega arith
rank_rest [] (suc i) zero = omega arith
rank_rest [] (suc i) (suc j) = omega arith
rank_rest (m ∷ ms) zero zero = omega arith
rank_rest (m ∷ ms) zero (suc j) = let r = rank_rest ms zero j in rw (rank_step m ms j) (omega arith)
rank_rest (m ∷ ms) (suc i) zero = omega arith
rank_rest (m ∷ ms) (suc i) (suc j) = let r = rank_rest ms i j in rw (rank_step m ms i, rank_step m ms j) (omega arith)

-- where all are ordered, the rank is the number
pub rank_of_all : (ms : List Message) (i : ℕ) → i ≤ length ms
    → ((j : ℕ) → j < length ms → (get_or ms j no_message).ordered ≡ true) → rank ms i ≡ i
rank_of_all ms zero l a = refl
rank_of_all ms (suc i) l a = rank_yes ms i (omega arith) (a i (omega arith)) ∙ ap suc (rank_of_all ms i (omega arith) a)

-- below any number of greater rank there is an ordered message of rank r
pub rank_found : (ms : List Message) (i r : ℕ) → i ≤ length ms → r < rank ms i
    → (j : ℕ) × (j < i) × ((get_or ms j no_message).ordered ≡ true) × (rank ms j ≡ r)
rank_found ms zero r l h = absurd (omega arith)
rank_found ms (suc i) r l h =
    ⊎_elim
    (λ (a : r < rank ms i). let f = rank_found ms i r (omega arith) a in (f.0, omega (arith, f.1), f.2, f.3))
    (λ (b : rank ms i ≤ r). ⊎_elim
    (λ (o : (get_or ms i no_message).ordered ≡ true).
    (i, omega arith, o, (let y = rank_yes ms i (omega arith) o in omega arith)))
    (λ (o : (get_or ms i no_message).ordered ≡ false). absurd (let y = rank_no ms i o in omega arith))
    (cases_Bool (get_or ms i no_message).ordered))
    (cases_lt r (rank ms i))
