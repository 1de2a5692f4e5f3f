-- What is so of the first of some boundaries, if there is one.
use Rattle.std.proofs.Common.{◌≡◌, refl, ℕ, List, [], ◌∷◌, ◌++◌}
use Rattle.std.specs.List.{AllByRecursion}
use Rattle.sctp_courses.specs.Invariants.{OfFirst}

pub first_weaker : (P Q : ℕ → Type 0) (bs : List ℕ) → ((b : ℕ) → P b → Q b) → OfFirst P bs → OfFirst Q bs
first_weaker P Q [] f h = h
first_weaker P Q (b ∷ bs) f h = f b h

pub first_both : (P Q R : ℕ → Type 0) (bs : List ℕ) → ((b : ℕ) → P b → Q b → R b) → OfFirst P bs → OfFirst Q bs
    → OfFirst R bs
first_both P Q R [] f g h = h
first_both P Q R (b ∷ bs) f g h = f b g h

pub first_all : (P : ℕ → Type 0) (bs : List ℕ) → ((b : ℕ) → P b) → OfFirst P bs
first_all P [] f = tt
first_all P (b ∷ bs) f = f b

pub first_of_all : (P : ℕ → Type 0) (bs : List ℕ) → AllByRecursion P bs → OfFirst P bs
first_of_all P [] h = tt
first_of_all P (b ∷ bs) h = h.0

pub first_of_none : (P : ℕ → Type 0) (bs : List ℕ) → bs ≡ [] → OfFirst P bs
first_of_none P [] e = tt
first_of_none P (b ∷ bs) e = absurd (cc)

pub first_push : (P : ℕ → Type 0) (bs : List ℕ) (c : ℕ) → (bs ≡ [] → P c) → OfFirst P bs → OfFirst P (bs ++ c ∷ [])
first_push P [] c f h = f refl
first_push P (b ∷ bs) c f h = h
