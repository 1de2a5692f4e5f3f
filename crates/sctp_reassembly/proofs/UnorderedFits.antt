-- A piece of an unordered message that is new contradicts none of those that wait.
use Rattle.std.proofs.Common.{ℕ, zero, suc, ◌+◌, ◌-◌, ◌^◌, ◌<◌, ◌≤◌, ◌≡◌, Bool, true, false, cond, not, eqb, ltb, ◌&&◌}
use Rattle.std.proofs.Common.{List, [], ◌∷◌, ◌++◌, length, Some, None, refl, sym, ap, ◌∙◌, subst, inl, inr, ⊎_elim}
use Rattle.std.proofs.Common.{arith}
use Rattle.std.specs.List.{AllByRecursion}
use Rattle.std.proofs.lemmas.Bool.{cases_Bool, eq-eqb, eqb-true, ne_eqb, le-ltb, true≢false}
use Rattle.sctp_wire_types.specs.Ids.{number_of}
use Rattle.sctp_serial.specs.Serial.{tsn_past, tsn, tsn_after}
use Rattle.sctp_wire_types.specs.declared.chunk.ChunkPayloadData.{ChunkPayloadData}
use Rattle.sctp_wire_types.specs.declared.error.Error.TheVariants as errors
use Rattle.sctp_receive_queues.specs.Pieces.{bytes_of, covers, has_other_type, is_last as is_last_piece}
use Rattle.sctp_receive_queues.specs.Pieces.{is_right_before, last_of}
use Rattle.sctp_receive_queues.specs.Reassembly.{is_torn_after, is_torn_before, joins_after, joins_before, part}
use Rattle.sctp_receive_queues.specs.Reassembly.{refusal_between, run_at, run_before, tears}
use Rattle.sctp_model.specs.Messages.{Plan, place_at, is_last}
use Rattle.sctp_model.specs.Packets.{data_at}
use Rattle.sctp_model.specs.Invariants.{IsPlanned}
use Rattle.sctp_model.proofs.Lists.{all_back}
use Rattle.sctp_reassembly.specs.Stands.{AreRuns, CarryDataOf, IsForBytesAlone, IsLoose, CarriesData}
use Rattle.sctp_reassembly.proofs.PieceChains.{not_last, same_text}
use Rattle.sctp_reassembly.proofs.UnorderedEnters.{AreSmall, HasLast, head_run, last_cases, run_behind, run_in_front}
use Rattle.sctp_reassembly.proofs.OffsetRuns.{IsChain}
use Rattle.sctp_reassembly.proofs.TsnOrder.{tsn_next}
use Rattle.sctp_reassembly.proofs.WholeMessages.{last_later}

-- pieces of one message
record AreTogether (p : Plan) (a b : ℕ) : Type 0 where
  pub stream : (place_at p a).stream ≡ (place_at p b).stream
  pub message : (place_at p a).message ≡ (place_at p b).message

module _ {p : Plan} {over : ℕ → Bool} {s : ℕ} (h : IsPlanned p over) where
  -- behind the last piece of a message stands the first one of another
  first_after : (a : ℕ) → IsLoose p s a → IsLoose p s (suc a) → is_last p (place_at p a) ≡ true
      → (place_at p (suc a)).piece ≡ 0
  first_after a x y l = go (place_at p (suc a)).piece refl
    where
      go : (k : ℕ) → (place_at p (suc a)).piece ≡ k → k ≡ 0
      go zero e = refl
      go (suc k) e =
          let b = h.before (suc a) k y.at.known e in
          let c = b.1 in
          let f = c.follows in
          let next = c.next in
          let q : b.0 ≡ a = omega arith in
          absurd (true≢false (sym l ∙ not_last h a (suc a) (omega arith) y.at.known
          (sym (f.stream ∙ ap (λ z. (place_at p z).stream) q)) (sym (f.message ∙ ap (λ z. (place_at p z).message) q))))

  next_together : (a : ℕ) → IsLoose p s a → IsLoose p s (suc a) → is_last p (place_at p a) ≡ false
      → AreTogether p a (suc a) × (eqb (place_at p (suc a)).piece 0 ≡ false)
  next_together a x y l =
      let f = h.after a y.at.known l x.sent in
      let piece = f.piece in (
        record { stream = sym f.stream; message = sym f.message },
        ne_eqb (place_at p (suc a)).piece 0 (λ (e : (place_at p (suc a)).piece ≡ 0). omega arith),
      )

  -- two neighbours
  untorn : (a b : ℕ) (other : Bool) → IsLoose p s a → IsLoose p s b → b ≡ suc a → (AreTogether p a b → other ≡ false)
      → tears (is_last p (place_at p a)) (eqb (place_at p b).piece 0) other ≡ false
  untorn a b other x y e f =
      ⊎_elim
      (λ (l : is_last p (place_at p a) ≡ true).
      let first = first_after a x (subst (IsLoose p s) e y) l in
      rw l (ap not (eq-eqb (place_at p b).piece 0 (ap (λ z. (place_at p z).piece) e ∙ first))))
      (λ (l : is_last p (place_at p a) ≡ false).
      let t = next_together a x (subst (IsLoose p s) e y) l in
      rw (l, ap (λ z. eqb (place_at p z).piece 0) e ∙ t.1) (f (subst (AreTogether p a) (sym e) t.0)))
      (cases_Bool (is_last p (place_at p a)))

same_type : (initial : ℕ) (p : Plan) (c d : ChunkPayloadData) (o x : ℕ) → CarriesData initial c (data_at p o)
    → CarriesData initial d (data_at p x) → AreTogether p x o
    → not (eqb (number_of d.payload_type) (number_of c.payload_type)) ≡ false
same_type initial p c d o x i j t =
    ap not (eq-eqb (number_of d.payload_type) (number_of c.payload_type)
    (j.payload_type ∙ ap (λ z. z.payload_type) (same_text p x o t.stream t.message) ∙ sym i.payload_type))

-- The run in front.

abbrev pub end_of : ℕ → List ℕ → ℕ
end_of o [] = o
end_of o (x ∷ xs) = end_of x xs

pub end_is : (initial : ℕ) (p : Plan) (d : ChunkPayloadData) (ds : List ChunkPayloadData) (x : ℕ) (xs : List ℕ)
    → CarryDataOf initial p (d ∷ ds) (x ∷ xs)
    → (e : ChunkPayloadData) × (last_of (d ∷ ds) ≡ Some e) × CarriesData initial e (data_at p (end_of x xs))
end_is initial p d [] x [] a = (d, refl, a.0)
end_is initial p d [] x (y ∷ ys) a = absurd a.1
end_is initial p d (e ∷ es) x [] a = absurd a.1
end_is initial p d (e ∷ es) x (y ∷ ys) a =
    let t = end_is initial p e es y ys a.1 in
    (t.0, last_later d e es ∙ t.1, t.2)

pub end_all : (P : ℕ → Type 0) (x : ℕ) (xs : List ℕ) → AllByRecursion P (x ∷ xs) → P (end_of x xs)
end_all P x [] a = a.0
end_all P x (y ∷ ys) a = end_all P y ys a.1

chain_together : (p : Plan) (over : ℕ → Bool) (s x : ℕ) (xs : List ℕ) → IsPlanned p over → IsChain p (x ∷ xs)
    → AllByRecursion (IsLoose p s) (x ∷ xs) → AreTogether p x (end_of x xs)
chain_together p over s x [] h k a = record { stream = refl; message = refl }
chain_together p over s x (y ∷ ys) h k a =
    let one : AreTogether p x y =
    subst (AreTogether p x) (sym k.0) (next_together h x a.0 (subst (IsLoose p s) k.0 a.1.0) k.1).0 in
    let more = chain_together p over s y ys h k.2 a.1 in
    record { stream = one.stream ∙ more.stream; message = one.message ∙ more.message }

-- what is said of a run beside the piece o: its offsets lie on one side of it
pub record IsBeside (p : Plan) (s : ℕ) (P : ℕ → Type 0) (r : List ℕ) : Type 0 where
  pub chain : IsChain p r
  pub mine : AllByRecursion (IsLoose p s) r
  pub small : AreSmall r
  pub side : AllByRecursion P r

for_bytes : (b : Bool) → IsForBytesAlone (cond b (Some errors.ErrInboundMessageTooLarge) None)
for_bytes true = inr refl
for_bytes false = inl refl

between : (before : List ChunkPayloadData) (c : ChunkPayloadData) (after : List ChunkPayloadData) (limit : ℕ)
    → covers before c.tsn ≡ false → is_torn_before before c ≡ false
    → is_torn_after after c ≡ false → IsForBytesAlone (refusal_between before c after limit)
between before c after limit x y z =
    rw (x, y, z)
    (for_bytes
    (ltb limit (bytes_of (part (joins_before before c) before) + length c.user_data
    + bytes_of (part (joins_after after c) after))))

abbrev pub AreBeside : Plan → ℕ → (ℕ → Type 0) → List (List ℕ) → Type 0
AreBeside p s P gs = AllByRecursion (IsBeside p s P) gs

pub beside : (p : Plan) (s : ℕ) (P : ℕ → Type 0) (gs : List (List ℕ)) → AllByRecursion (IsChain p) gs
    → AllByRecursion (AllByRecursion (IsLoose p s)) gs
    → AllByRecursion AreSmall gs → AllByRecursion (AllByRecursion P) gs → AreBeside p s P gs
beside p s P [] a b c d = tt
beside p s P (g ∷ gs) a b c d =
    (record { chain = a.0; mine = b.0; small = c.0; side = d.0 }, beside p s P gs a.1 b.1 c.1 d.1)

module _ {initial : ℕ} {p : Plan} {over : ℕ → Bool} {s : ℕ} {c : ChunkPayloadData} {o : ℕ}
    (h : IsPlanned p over) (i : CarriesData initial c (data_at p o)) (l : o < 2 ^ 31) (m : IsLoose p s o) where
  chain_length : (d : ChunkPayloadData) (ds : List ChunkPayloadData) (x : ℕ) (xs : List ℕ)
      → CarryDataOf initial p (d ∷ ds) (x ∷ xs) → IsChain p (x ∷ xs) → AllByRecursion (λ (y : ℕ). y < o) (x ∷ xs)
      → x + length (d ∷ ds) ≤ o
  chain_length d [] x [] a k b = let l = b.0 in omega arith
  chain_length d [] x (y ∷ ys) a k b = absurd a.1
  chain_length d (e ∷ es) x [] a k b = absurd a.1
  chain_length d (e ∷ es) x (y ∷ ys) a k b =
      let t = chain_length e es y ys a.1 k.2 b.1 in
      let n = k.0 in
      omega arith

  uncovered : (cs : List ChunkPayloadData) (r : List ℕ) → CarryDataOf initial p cs r → IsBeside p s (λ (y : ℕ). y < o) r
      → covers cs c.tsn ≡ false
  uncovered [] [] a b = refl
  uncovered [] (x ∷ xs) a b = absurd a
  uncovered (d ∷ ds) [] a b = absurd a
  uncovered (d ∷ ds) (x ∷ xs) a b =
      let n = chain_length d ds x xs a b.chain b.side in
      let less = b.side.0 in
      let small = b.small.0 in
      let far : tsn_past (tsn initial x) (tsn initial o) ≡ o - x = omega arith in
      ap (λ z. ltb (tsn_past z c.tsn) (length (d ∷ ds))) a.0.tsn
      ∙ ap (λ z. ltb (tsn_past (tsn initial x) z) (length (d ∷ ds))) i.tsn
      ∙ ap (λ z. ltb z (length (d ∷ ds))) far ∙ le-ltb (o - x) (length (d ∷ ds)) (omega arith)

  untorn_before : (cs : List ChunkPayloadData) (r : List ℕ) → CarryDataOf initial p cs r
      → IsBeside p s (λ (y : ℕ). y < o) r → is_torn_before cs c ≡ false
  untorn_before [] [] a b = refl
  untorn_before [] (x ∷ xs) a b = absurd a
  untorn_before (d ∷ ds) [] a b = absurd a
  untorn_before (d ∷ ds) (x ∷ xs) a b =
      let e = end_is initial p d ds x xs a in
      let z : ℕ = end_of x xs in
      let near : eqb c.tsn (tsn_after (e.0).tsn) ≡ eqb o (suc z)
      =
      ap (λ y. eqb y (tsn_after (e.0).tsn)) i.tsn ∙ ap (λ y. eqb (tsn initial o) (tsn_after y)) e.2.tsn
      ∙ tsn_next initial z o (end_all (λ (y : ℕ). y < 2 ^ 31) x xs b.small) l in
      ap (λ y. is_right_before c.tsn y && tears (is_last_piece y) c.beginning_fragment (has_other_type (d ∷ ds) c)) e.1
      ∙ ap (λ y. y && tears (e.0).ending_fragment c.beginning_fragment (has_other_type (d ∷ ds) c)) near
      ∙ ⊎_elim
      (λ (t : eqb o (suc z) ≡ true).
      rw t (ap (λ y. tears y c.beginning_fragment (has_other_type (d ∷ ds) c)) e.2.last
      ∙ ap (λ y. tears (is_last p (place_at p z)) y (has_other_type (d ∷ ds) c)) i.first
      ∙ untorn h z o (has_other_type (d ∷ ds) c) (end_all (IsLoose p s) x xs b.mine) m (eqb-true o (suc z) t)
      (λ u. let v = chain_together p over s x xs h b.chain b.mine in
      same_type initial p c d o x i a.0 (record { stream = v.stream ∙ u.stream; message = v.message ∙ u.message }))))
      (λ (t : eqb o (suc z) ≡ false). rw t refl)
      (cases_Bool (eqb o (suc z)))

  untorn_after : (cs : List ChunkPayloadData) (r : List ℕ) → CarryDataOf initial p cs r
      → IsBeside p s (λ (y : ℕ). o < y) r → is_torn_after cs c ≡ false
  untorn_after [] [] a b = refl
  untorn_after [] (x ∷ xs) a b = absurd a
  untorn_after (d ∷ ds) [] a b = absurd a
  untorn_after (d ∷ ds) (x ∷ xs) a b =
      let near : eqb d.tsn (tsn_after c.tsn) ≡ eqb x (suc o)
      =
      ap (λ y. eqb y (tsn_after c.tsn)) a.0.tsn ∙ ap (λ y. eqb (tsn initial x) (tsn_after y)) i.tsn
      ∙ tsn_next initial o x l b.small.0 in
      ap (λ y. y && tears c.ending_fragment d.beginning_fragment (has_other_type (d ∷ ds) c)) near
      ∙ ⊎_elim
      (λ (t : eqb x (suc o) ≡ true).
      rw t (ap (λ y. tears y d.beginning_fragment (has_other_type (d ∷ ds) c)) i.last
      ∙ ap (λ y. tears (is_last p (place_at p o)) y (has_other_type (d ∷ ds) c)) a.0.first
      ∙ untorn h o x (has_other_type (d ∷ ds) c) m b.mine.0 (eqb-true x (suc o) t)
      (λ u. same_type initial p c d o x i a.0 (record { stream = sym u.stream; message = sym u.message }))))
      (λ (t : eqb x (suc o) ≡ false). rw t refl)
      (cases_Bool (eqb x (suc o)))

  pub fits_between : (limit : ℕ) (xs ys : List (List ChunkPayloadData)) (gs hs : List (List ℕ))
      → AreRuns initial p xs gs
      → AreRuns initial p ys hs → AreBeside p s (λ (y : ℕ). y < o) gs → AreBeside p s (λ (y : ℕ). o < y) hs
      → IsForBytesAlone (refusal_between (run_before (xs ++ ys) (length xs)) c (run_at (xs ++ ys) (length xs)) limit)
  fits_between limit xs ys gs hs a b u v =
      ⊎_elim
      (λ (n : (xs ≡ []) × (gs ≡ [])).
      subst (λ z. IsForBytesAlone
      (refusal_between (run_before (z ++ ys) (length z)) c (run_at (z ++ ys) (length z)) limit)) (sym n.0)
      (subst (λ z. IsForBytesAlone (refusal_between [] c z limit)) (sym (run_behind [] ys))
      (between [] c (head_run ys) limit refl refl after)))
      (λ (n : HasLast initial p xs gs).
      let t = subst (AreBeside p s (λ (y : ℕ). y < o)) n.are_offsets u in
      let k = (all_back (IsBeside p s (λ (y : ℕ). y < o)) n.offsets (n.last ∷ []) t).0 in
      subst (λ z. IsForBytesAlone
      (refusal_between (run_before (z ++ ys) (length z)) c (run_at (z ++ ys) (length z)) limit)) (sym n.are_chunks)
      (subst
      (λ z.
      IsForBytesAlone (refusal_between z c (run_at ((n.chunks ++ n.run ∷ []) ++ ys) (length (n.chunks ++ n.run ∷ [])))
      limit)) (sym (run_in_front n.chunks ys n.run))
      (subst (λ z. IsForBytesAlone (refusal_between n.run c z limit)) (sym (run_behind (n.chunks ++ n.run ∷ []) ys))
      (between n.run c (head_run ys) limit (uncovered n.run n.last n.said k)
      (untorn_before n.run n.last n.said k) after))))
      (last_cases initial p xs gs a)
    where
      after : is_torn_after (head_run ys) c ≡ false
      after = go ys hs b v
        where
          go : (ys : List (List ChunkPayloadData)) (hs : List (List ℕ)) → AreRuns initial p ys hs
              → AreBeside p s (λ (y : ℕ). o < y) hs → is_torn_after (head_run ys) c ≡ false
          go [] hs b v = refl
          go (y ∷ ys) [] b v = absurd b
          go (y ∷ ys) (z ∷ zs) b v = untorn_after y z b.0 v.0
