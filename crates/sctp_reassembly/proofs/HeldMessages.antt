-- What is held of the messages of a stream, as a list of them by ascending number.
use Rattle.std.proofs.Common.{ℕ, ◌<◌, ◌≡◌, Bool, true, false, cond, eqb, ◌&&◌, List, [], ◌∷◌, length, filter, Some}
use Rattle.std.proofs.Common.{None, refl, sym, ap, ◌∙◌, ⊎_elim, arith}
use Rattle.std.specs.List.{AllByRecursion}
use Rattle.std.proofs.lemmas.Bool.{cases_Bool, eqb-true, eq-eqb, or_left, or_right, cond-true, cond-false}
use Rattle.sctp_receive_queues.specs.Reassembly.{Group}
use Rattle.sctp_model.specs.Messages.{Plan, place_at}
use Rattle.sctp_model.specs.Packets.{Data, mem, data_at}
use Rattle.sctp_model.specs.Reassembly.{at}
use Rattle.sctp_model.specs.Safe.{AreRising}
use Rattle.sctp_model.proofs.Lists.{all_mem, mem_left, mem_right, mem_cases}
use Rattle.sctp_reassembly.specs.Stands.{HeldMessage, IsOf, IsGroup, AreGroups, offsets_in, numbers_in}
use Rattle.sctp_reassembly.proofs.WholeMessages.{IsAllOf}

-- the number of an offset held is one of the numbers
pub number_in : (initial : ℕ) (p : Plan) (s : ℕ) (gs : List Group) (hs : List HeldMessage) (o : ℕ)
    → AreGroups initial p s gs hs
    → mem o (offsets_in hs) ≡ true → mem (place_at p o).ssn (numbers_in hs) ≡ true
number_in initial p s gs [] o a m = m
number_in initial p s [] (h ∷ hs) o a m = absurd a
number_in initial p s (g ∷ gs) (h ∷ hs) o a m =
    ⊎_elim
    (λ (l : mem o h.offsets ≡ true). let i = all_mem (IsOf p s h.number) h.offsets o a.0.mine l in
    or_left _ _ (eq-eqb h.number (place_at p o).ssn (sym i.is)))
    (λ (r : mem o (offsets_in hs) ≡ true). or_right _ _ (number_in initial p s gs hs o a.1 r))
    (mem_cases o h.offsets (offsets_in hs) m)

-- an offset of a later message is none of the first
pub later_number : (p : Plan) (h : HeldMessage) (hs : List HeldMessage) (o : ℕ) → AreRising (numbers_in (h ∷ hs))
    → mem (place_at p o).ssn (numbers_in hs) ≡ true → h.number < (place_at p o).ssn
later_number p h hs o r m = all_mem (λ (j : ℕ). h.number < j) (numbers_in hs) (place_at p o).ssn r.0 m

-- what is held at the offsets of these messages
abbrev pub AreThere : Plan → List Data → List HeldMessage → Type 0
AreThere p held hs = (x : ℕ) → mem x (offsets_in hs) ≡ true → at x held ≡ Some (data_at p x)

-- and nothing else of their numbers
abbrev pub AreFull : Plan → List Data → List HeldMessage → Type 0
AreFull p held hs =
    (x : ℕ) (d : Data) → at x held ≡ Some d → mem (place_at p x).ssn (numbers_in hs) ≡ true
    → mem x (offsets_in hs) ≡ true

-- the offsets of a message are all that is held of it
pub record IsAlone (p : Plan) (s : ℕ) (held : List Data) (h : HeldMessage) : Type 0 where
  pub first : ℕ
  pub rest : List ℕ
  pub offsets : h.offsets ≡ first ∷ rest
  pub all : IsAllOf p s h.number held first rest

all_at : (p : Plan) (held : List Data) (os : List ℕ) → ((x : ℕ) → mem x os ≡ true → at x held ≡ Some (data_at p x))
    → AllByRecursion (λ (x : ℕ). at x held ≡ Some (data_at p x)) os
all_at p held [] f = tt
all_at p held (o ∷ os) f = (f o (or_left _ _ (eq-eqb o o refl)), all_at p held os (λ x m. f x (or_right _ _ m)))

alone_with : (p : Plan) (s : ℕ) (held : List Data) (h : HeldMessage) (os : List ℕ) → h.offsets ≡ os → 0 < length os
    → AreRising os → AllByRecursion (IsOf p s h.number) os
    → ((x : ℕ) → mem x os ≡ true → at x held ≡ Some (data_at p x))
    → ((x : ℕ) (d : Data) → at x held ≡ Some d → (place_at p x).ssn ≡ h.number → mem x os ≡ true) → IsAlone p s held h
alone_with p s held h [] e some r m t f = absurd (omega arith)
alone_with p s held h (o ∷ os) e some r m t f = record {
  first = o;
  rest = os;
  offsets = e;
  all = record {
    from = record { rising = r; mine = m; there = all_at p held (o ∷ os) t; all = λ x d i l n. f x d i n };
    full = f;
  };
}

module _ {initial : ℕ} {p : Plan} {s : ℕ} {g : Group} {h : HeldMessage} (held : List Data) (hs : List HeldMessage)
    (r : AreRising (numbers_in (h ∷ hs))) (i : IsGroup initial p s g h) where
  pub full_rest : AreFull p held (h ∷ hs) → AreFull p held hs
  full_rest f x d e m =
      ⊎_elim
      (λ (l : mem x h.offsets ≡ true). absurd (
      let n = all_mem (IsOf p s h.number) h.offsets x i.mine l in
      let less = all_mem (λ (j : ℕ). h.number < j) (numbers_in hs) (place_at p x).ssn r.0 m in
      let same = n.is in
      omega arith))
      (λ (t : mem x (offsets_in hs) ≡ true). t)
      (mem_cases x h.offsets (offsets_in hs) (f x d e (or_right _ _ m)))

  pub first_alone : (gs : List Group) → AreGroups initial p s gs hs → AreThere p held (h ∷ hs) → AreFull p held (h ∷ hs)
      → IsAlone p s held h
  first_alone gs a t f =
      alone_with p s held h h.offsets refl i.some i.rising i.mine (λ x m. t x (mem_left x h.offsets (offsets_in hs) m))
      (λ x d e n. ⊎_elim
      (λ (l : mem x h.offsets ≡ true). l)
      (λ (m : mem x (offsets_in hs) ≡ true).
      absurd (let less = later_number p h hs x r (number_in initial p s gs hs x a m) in omega arith))
      (mem_cases x h.offsets (offsets_in hs) (f x d e (or_left _ _ (eq-eqb h.number (place_at p x).ssn (sym n))))))

-- the first of some groups with the message that it is held of, and nothing else of that is held
pub record BeginsWith (initial : ℕ) (p : Plan) (s : ℕ) (held : List Data) (g : Group) (gs : List Group)
    (h : HeldMessage)
    (hs : List HeldMessage) : Type 0 where
  pub groups : AreGroups initial p s (g ∷ gs) (h ∷ hs)
  pub rising : AllByRecursion (λ (j : ℕ). h.number < j) (numbers_in hs)
  pub alone : IsAlone p s held h

pub all_alone : (initial : ℕ) (p : Plan) (s : ℕ) (held : List Data) (gs : List Group) (hs : List HeldMessage)
    → AreRising (numbers_in hs)
    → AreGroups initial p s gs hs → AreThere p held hs → AreFull p held hs → AllByRecursion (IsAlone p s held) hs
all_alone initial p s held gs [] r a t f = tt
all_alone initial p s held [] (h ∷ hs) r a t f = absurd a
all_alone initial p s held (g ∷ gs) (h ∷ hs) r a t f = (
  first_alone held hs r a.0 gs a.1 t f,
  all_alone initial p s held gs hs r.1 a.1 (λ x m. t x (mem_right x h.offsets (offsets_in hs) m))
      (full_rest held hs r a.0 f),
)

module _ (p : Plan) (held : List Data) (hs : List HeldMessage)
    (same : (o : ℕ) → at o held ≡ cond (mem o (offsets_in hs)) (Some (data_at p o)) None) where
  -- from what the relation says
  pub there_from : AreThere p held hs
  there_from x m = same x ∙ cond-true (mem x (offsets_in hs)) (Some (data_at p x)) None m

  pub in_from : (x : ℕ) (d : Data) → at x held ≡ Some d → mem x (offsets_in hs) ≡ true
  in_from x d e =
      ⊎_elim
      (λ (b : mem x (offsets_in hs) ≡ true). b)
      (λ (b : mem x (offsets_in hs) ≡ false).
      absurd (none_some (sym (cond-false (mem x (offsets_in hs)) (Some (data_at p x)) None b) ∙ sym (same x) ∙ e)))
      (cases_Bool (mem x (offsets_in hs)))
    where
      none_some : None ≡ Some d → ⊥
      none_some i = cc

  -- so nothing else of their numbers is held
  pub full_from : AreFull p held hs
  full_from x d e m = in_from x d e

-- what a filter leaves at an offset
pub at_filtered : (p : Plan) (f : Data → Bool) (o : ℕ) (held : List Data)
    → AllByRecursion (λ (d : Data). d ≡ data_at p d.offset) held
    → at o (filter f held) ≡ cond (f (data_at p o)) (at o held) None
at_filtered p f o [] a = none_either (f (data_at p o))
  where
    none_either : (b : Bool) → at o [] ≡ cond b (at o []) None
    none_either true = refl
    none_either false = refl
at_filtered p f o (x ∷ xs) a =
    ⊎_elim
    (λ (b : eqb x.offset o ≡ true).
    let i : x ≡ data_at p o = a.0 ∙ ap (data_at p) (eqb-true x.offset o b) in
    ⊎_elim
    (λ (t : f x ≡ true). rw (t, b, sym (ap f i) ∙ t) refl)
    (λ (t : f x ≡ false).
    rw (t, sym (ap f i) ∙ t) (at_filtered p f o xs a.1 ∙ ap (λ z. cond z (at o xs) None) (sym (ap f i) ∙ t)))
    (cases_Bool (f x)))
    (λ (b : eqb x.offset o ≡ false).
    ⊎_elim
    (λ (t : f x ≡ true). rw (t, b) (at_filtered p f o xs a.1))
    (λ (t : f x ≡ false). rw (t, b) (at_filtered p f o xs a.1))
    (cases_Bool (f x)))
    (cases_Bool (eqb x.offset o))

-- two tests one after the other
pub nested : (a b : Bool) (d : Data) → cond a (cond b (Some d) None) None ≡ cond (a && b) (Some d) None
nested true b d = refl
nested false b d = refl

pub and_none : (b : Bool) → (b && false) ≡ false
and_none true = refl
and_none false = refl

pub nothing_held : (held : List Data) → ((o : ℕ) → at o held ≡ None) → held ≡ []
nothing_held [] n = refl
nothing_held (d ∷ ds) n =
    absurd
    (some_none (sym (cond-true (eqb d.offset d.offset) (Some d) (at d.offset ds) (eq-eqb d.offset d.offset refl))
    ∙ n d.offset))
  where
    some_none : Some d ≡ None → ⊥
    some_none i = cc
