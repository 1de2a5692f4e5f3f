-- Where a piece is put among the others, as recursions.
use Rattle.std.proofs.Common.{◌≡◌, ℕ, suc, ◌<◌, ◌≤◌, Bool, true, false, cond, eqb, ltb, List, [], ◌∷◌, length, position}
use Rattle.std.proofs.Common.{insert, slice_get, unwrap_or, Option, Some, None, refl, sym, ap, ◌∙◌, ⊎_elim, arith}
use Rattle.std.specs.Prelude.{⊤}
use Rattle.std.specs.List.{position_or_len}
use Rattle.std.proofs.lemmas.Bool.{cases_Bool, cases_lt, lt-ltb, le-ltb}
use Rattle.sctp_serial.specs.Serial.{tsn_lt, ssn_lt}
use Rattle.sctp_wire_types.specs.declared.chunk.ChunkPayloadData.{ChunkPayloadData}
use Rattle.sctp_receive_queues.specs.Reassembly.{Group, group_of, grown, grown_at, put_at, with_ordered, index_of_ssn}
use Rattle.sctp_receive_queues.specs.Reassembly.{index_for_ssn}

abbrev pub up_one : Option ℕ → Option ℕ
up_one None = None
up_one (Some k) = Some (suc k)

choose_up : (k n : ℕ) → cond (ltb (suc k) (suc n)) (Some (suc k)) None ≡ up_one (cond (ltb k n) (Some k) None)
choose_up k n =
    ⊎_elim
    (λ (l : k < n). ap (λ z. cond z (Some (suc k)) None) (lt-ltb (suc k) (suc n) (omega arith))
    ∙ ap (λ z. up_one (cond z (Some k) None)) (sym (lt-ltb k n l)))
    (λ (g : n ≤ k). ap (λ z. cond z (Some (suc k)) None) (le-ltb (suc k) (suc n) (omega arith))
    ∙ ap (λ z. up_one (cond z (Some k) None)) (sym (le-ltb k n g)))
    (cases_lt k n)

one_later : {X : Type 0} (f : X → Bool) (x : X) (xs : List X) → f x ≡ false
    → position_or_len f (x ∷ xs) ≡ suc (position_or_len f xs)
one_later f x xs e = rw e (omega arith)

pub position_here : {X : Type 0} (f : X → Bool) (x : X) (xs : List X) → f x ≡ true → position f (x ∷ xs) ≡ Some 0
position_here f x xs e = rw (e, lt-ltb 0 (suc (length xs)) (omega arith)) refl

pub position_later : {X : Type 0} (f : X → Bool) (x : X) (xs : List X) → f x ≡ false
    → position f (x ∷ xs) ≡ up_one (position f xs)
position_later f x xs e =
    ap (λ z. cond (ltb z (suc (length xs))) (Some z) None) (one_later f x xs e)
    ∙ choose_up (position_or_len f xs) (length xs)

-- in front of the first element that passes the test, else at the end
abbrev pub put_before : {X : Type 0} → (X → Bool) → X → List X → List X
put_before f p [] = p ∷ []
put_before f p (x ∷ xs) = cond (f x) (p ∷ x ∷ xs) (x ∷ put_before f p xs)

insert_later : {X : Type 0} (k : Option ℕ) (p x : X) (xs : List X)
    → insert (x ∷ xs) (unwrap_or (up_one k) (suc (length xs))) p ≡ x ∷ insert xs (unwrap_or k (length xs)) p
insert_later None p x xs = refl
insert_later (Some k) p x xs = refl

pub inserted : {X : Type 0} (f : X → Bool) (p : X) (xs : List X)
    → insert xs (unwrap_or (position f xs) (length xs)) p ≡ put_before f p xs
inserted f p [] = refl
inserted f p (x ∷ xs) =
    ⊎_elim
    (λ (b : f x ≡ true). rw (position_here f x xs b, b) refl)
    (λ (b : f x ≡ false).
    rw (position_later f x xs b, b) (insert_later (position f xs) p x xs ∙ ap (λ z. x ∷ z) (inserted f p xs)))
    (cases_Bool (f x))

-- the groups with a piece, by recursion
abbrev pub entered : List Group → ChunkPayloadData → List Group
entered [] p = group_of p ∷ []
entered (g ∷ gs) p =
    cond (eqb g.ssn p.stream_sequence_number) (grown g p ∷ gs)
    (cond (ssn_lt p.stream_sequence_number g.ssn) (group_of p ∷ g ∷ gs) (g ∷ entered gs p))

-- no group has this number
abbrev pub AreOthers : ℕ → List Group → Type 0
AreOthers ssn [] = ⊤
AreOthers ssn (g ∷ gs) = (eqb g.ssn ssn ≡ false) × AreOthers ssn gs

-- where the number lies before a group's, no group from there on has it
abbrev pub AreSplit : ℕ → List Group → Type 0
AreSplit ssn [] = ⊤
AreSplit ssn (g ∷ gs) = (ssn_lt ssn g.ssn ≡ true → AreOthers ssn gs) × AreSplit ssn gs

pub none_there : (ssn : ℕ) (gs : List Group) → AreOthers ssn gs → index_of_ssn ssn gs ≡ None
none_there ssn [] a = refl
none_there ssn (g ∷ gs) a = position_later (λ (x : Group). eqb x.ssn ssn) g gs a.0 ∙ ap up_one (none_there ssn gs a.1)

-- a group further on has the number
some_there : (k : Option ℕ) (g : Group) (gs : List Group) (p : ChunkPayloadData)
    → index_for_ssn p.stream_sequence_number (g ∷ gs)
    ≡ unwrap_or (up_one (position (λ (x : Group). ssn_lt p.stream_sequence_number x.ssn) gs)) (suc (length gs))
    → put_at (up_one k) (g ∷ gs) p ≡ g ∷ put_at k gs p
some_there None g gs p e =
    rw e (insert_later (position (λ (x : Group). ssn_lt p.stream_sequence_number x.ssn) gs) (group_of p) g gs)
some_there (Some k) g gs p e = go (slice_get gs k)
  where
    go : (x : Option Group) → grown_at x (suc k) (g ∷ gs) p ≡ g ∷ grown_at x k gs p
    go None = refl
    go (Some h) = refl

first_past : (g : Group) (gs : List Group) (p : ChunkPayloadData) → ssn_lt p.stream_sequence_number g.ssn ≡ false
    → index_for_ssn p.stream_sequence_number (g ∷ gs)
    ≡ unwrap_or (up_one (position (λ (x : Group). ssn_lt p.stream_sequence_number x.ssn) gs)) (suc (length gs))
first_past g gs p e = rw (position_later (λ (x : Group). ssn_lt p.stream_sequence_number x.ssn) g gs e) refl

first_here : (g : Group) (gs : List Group) (p : ChunkPayloadData) → ssn_lt p.stream_sequence_number g.ssn ≡ true
    → index_for_ssn p.stream_sequence_number (g ∷ gs) ≡ 0
first_here g gs p e = rw (position_here (λ (x : Group). ssn_lt p.stream_sequence_number x.ssn) g gs e) refl

-- in ascending groups a piece goes to its message's group, else in front of the first one past it
pub with_ordered_is : (gs : List Group) (p : ChunkPayloadData) → AreSplit p.stream_sequence_number gs
    → with_ordered gs p ≡ entered gs p
with_ordered_is [] p a = refl
with_ordered_is (g ∷ gs) p a =
    ⊎_elim
    (λ (b : eqb g.ssn p.stream_sequence_number ≡ true). ap (λ z. put_at z (g ∷ gs) p)
    (position_here (λ (x : Group). eqb x.ssn p.stream_sequence_number) g gs b) ∙ rw b refl)
    (λ (b : eqb g.ssn p.stream_sequence_number ≡ false).
    ap (λ z. put_at z (g ∷ gs) p) (position_later (λ (x : Group). eqb x.ssn p.stream_sequence_number) g gs b)
    ∙ ⊎_elim
    (λ (l : ssn_lt p.stream_sequence_number g.ssn ≡ true).
    ap (λ z. put_at (up_one z) (g ∷ gs) p) (none_there p.stream_sequence_number gs (a.0 l))
    ∙ ap (λ z. insert (g ∷ gs) z (group_of p)) (first_here g gs p l)
    ∙ rw (b, l) refl)
    (λ (l : ssn_lt p.stream_sequence_number g.ssn ≡ false).
    some_there (index_of_ssn p.stream_sequence_number gs) g gs p (first_past g gs p l)
    ∙ ap (λ z. g ∷ z) (with_ordered_is gs p a.1) ∙ rw (b, l) refl)
    (cases_Bool (ssn_lt p.stream_sequence_number g.ssn)))
    (cases_Bool (eqb g.ssn p.stream_sequence_number))

-- the group with a piece
pub grown_is : (g : Group) (p : ChunkPayloadData)
    → (grown g p).pieces ≡ put_before (λ (x : ChunkPayloadData). tsn_lt p.tsn x.tsn) p g.pieces
grown_is g p = inserted (λ (x : ChunkPayloadData). tsn_lt p.tsn x.tsn) p g.pieces
