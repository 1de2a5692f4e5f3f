-- The bytes of a message that are left, and those of its cuts.
use Rattle.std.proofs.Common.{◌≡◌, ℕ, ◌+◌, Bool, true, false, eqb, cond, List, [], ◌∷◌, ◌++◌, length, take, drop, Some}
use Rattle.std.proofs.Common.{None, refl, ap, sym, ◌∙◌, ◌⊎◌, inl, inr, arith}
use Rattle.std.specs.List.{concat}
use Rattle.std.proofs.lemmas.Bool.{cond-false, ne_eqb}
use Rattle.std.proofs.lemmas.List.{append_assoc, length-append, nil_from_length, take-append-drop}
use Rattle.sctp_wire_types.specs.declared.chunk.ChunkPayloadData.{ChunkPayloadData}
use Rattle.sctp_receive_queues.specs.Messages.{IsCut, ReceivedMessage, behind_cut, bytes_left, filled, first_cut}
use Rattle.sctp_receive_queues.specs.Messages.{in_front, joined, message_of}

in_front_joins : (bytes : List ℕ) (others : List (List ℕ)) → concat (in_front bytes others) ≡ bytes ++ concat others
in_front_joins [] others = refl
in_front_joins (x ∷ xs) others =
    let some = ne_eqb (length (x ∷ xs)) 0 (λ (e : length (x ∷ xs) ≡ 0). omega (arith, e)) in
    ap concat (cond-false (eqb (length (x ∷ xs)) 0) others ((x ∷ xs) ∷ others) some)

-- the bytes that are left of a message that pieces make up are the pieces' bytes
pub bytes_of_pieces : (pieces : List ChunkPayloadData) → bytes_left (message_of pieces) ≡ joined pieces
bytes_of_pieces [] = refl
bytes_of_pieces (p ∷ ps) = in_front_joins p.user_data (filled ps) ∙ ap (λ z. p.user_data ++ z) (bytes_of_pieces ps)

-- a cut and what is left behind it are what was left
pub cut_and_rest : (max : ℕ) (pieces : List (List ℕ)) (cut : List ℕ) → first_cut max pieces ≡ Some cut
    → concat pieces ≡ cut ++ concat (behind_cut max pieces)
cut_and_rest max [] cut e = absurd (cc)
cut_and_rest max (bytes ∷ others) cut e = go (eqb max 0) e
  where
    go : (none : Bool) → cond none None (Some (take max bytes)) ≡ Some cut
        → bytes ++ concat others ≡ cut ++ concat (cond none (bytes ∷ others) (in_front (drop max bytes) others))
    go true e = absurd (cc)
    go false e =
        let s : take max bytes ≡ cut = cc in
        ap (λ z. z ++ concat others) (sym (take-append-drop max bytes))
        ∙ append_assoc (take max bytes) (drop max bytes) (concat others)
        ∙ ap (λ z. take max bytes ++ z) (sym (in_front_joins (drop max bytes) others))
        ∙ ap (λ z. z ++ concat (in_front (drop max bytes) others)) s

-- nothing is taken out for a max of 0, or where nothing is left
pub no_cut : (max : ℕ) (m : ReceivedMessage) → (max ≡ 0) ⊎ (m.pieces ≡ []) → IsCut max m m None
no_cut max m (inl e) =
    let same = of_zero m.pieces in (
      sym (ap (λ n. first_cut n m.pieces) e ∙ same.0),
      ap (λ z. record m { pieces = z }) (sym (ap (λ n. behind_cut n m.pieces) e ∙ same.1)),
    )
  where
    of_zero : (pieces : List (List ℕ)) → (first_cut 0 pieces ≡ None) × (behind_cut 0 pieces ≡ pieces)
    of_zero [] = (refl, refl)
    of_zero (bytes ∷ others) = (refl, refl)
no_cut max m (inr e) = (
  sym (ap (first_cut max) e),
  ap (λ z. record m { pieces = z }) (e ∙ sym (ap (behind_cut max) e)),
)

-- no piece is left where no byte is
pub none_filled : (pieces : List ChunkPayloadData) → length (concat (filled pieces)) ≡ 0 → filled pieces ≡ []
none_filled [] e = refl
none_filled (p ∷ ps) e =
    let same = ap length (in_front_joins p.user_data (filled ps)) ∙ length-append p.user_data (concat (filled ps)) in
    let nothing : p.user_data ≡ [] = nil_from_length p.user_data (omega (arith, e, same)) in
    let rest : length (concat (filled ps)) ≡ 0 = omega (arith, e, same) in
    ap (λ z. in_front z (filled ps)) nothing ∙ none_filled ps rest
