-- A message all of whose pieces are held is found on both sides, and is the same to a reader.
use Rattle.std.proofs.Common.{ℕ, suc, ◌+◌, ◌-◌, ◌%◌, ◌^◌, ◌<◌, ◌≤◌, ◌≡◌, Bool, true, false, cond, eqb, ◌&&◌, List, []}
use Rattle.std.proofs.Common.{◌∷◌, ◌++◌, length, map, flat_map, slice_get, Option, Some, None, refl, sym, ap, ◌∙◌}
use Rattle.std.proofs.Common.{⊎_elim, arith}
use Rattle.std.specs.List.{AllByRecursion}
use Rattle.std.proofs.lemmas.Bool.{cases_Bool, eqb-true, eqb-false, eq-eqb, or_cases}
use Rattle.sctp_wire_types.specs.declared.chunk.ChunkPayloadData.{ChunkPayloadData}
use Rattle.sctp_wire_types.specs.Ids.{number_of}
use Rattle.sctp_receive_queues.proofs.Cuts.{bytes_of_pieces}
use Rattle.sctp_receive_queues.specs.Messages.{joined, message_of}
use Rattle.sctp_receive_queues.specs.Pieces.{ends, follows, is_complete, is_last as is_last_piece, last_of}
use Rattle.sctp_model.specs.Messages.{Plan, place_at}
use Rattle.sctp_model.specs.Packets.{Data, mem, data_at}
use Rattle.sctp_serial.specs.Serial.{tsn, tsn_after}
use Rattle.sctp_model.specs.Reassembly.{at, top, run_from, run_with, run_of, run_begun, begins, got_of, message_in}
use Rattle.sctp_model.specs.Safe.{AreRising, Letter, letter_read}
use Rattle.sctp_model.specs.Invariants.{IsPlanned, IsHeld}
use Rattle.sctp_model.proofs.Lists.{all_weaker, all_both, all_mem}
use Rattle.sctp_model.proofs.NumberWindows.{same_from}
use Rattle.sctp_model.proofs.CompleteRuns.{at_found}
use Rattle.sctp_model.proofs.NextOrdered.{begins_found, begins_finds, first_is, ssn_is}
use Rattle.sctp_reassembly.specs.Stands.{CarryDataOf, letter_received}
use Rattle.sctp_reassembly.proofs.PieceChains.{apart, one_message}
use Rattle.sctp_reassembly.proofs.MessageRuns.{AreAllOf, is_rest, run_is}
use Rattle.sctp_reassembly.proofs.TsnOrder.{tsn_next}

-- something is held at this offset
abbrev pub IsThere : List Data → ℕ → Type 0
IsThere held o = (d : Data) × (at o held ≡ Some d)

there_more : (x : Data) (held : List Data) (o : ℕ) → IsThere held o → IsThere (x ∷ held) o
there_more x held o t =
    ⊎_elim (λ (b : eqb x.offset o ≡ true). (x, rw b refl)) (λ (b : eqb x.offset o ≡ false). (t.0, rw b t.1))
    (cases_Bool (eqb x.offset o))

pub all_there : (held : List Data) → AllByRecursion (λ (d : Data). IsThere held d.offset) held
all_there [] = tt
all_there (d ∷ ds) = (
  (d, rw (eq-eqb d.offset d.offset refl) refl),
  all_weaker _ _ ds (λ x t. there_more d ds x.offset t) (all_there ds),
)

abbrev pub IsNearBy : Plan → ℕ → Data → Type 0
IsNearBy p low d = (place_at p d.offset).ssn < low + 32767

-- the message with this number that is held, and nothing else of it
pub record IsAllOf (p : Plan) (s number : ℕ) (held : List Data) (o : ℕ) (rest : List ℕ) : Type 0 where
  pub from : AreAllOf p s number held o rest
  pub full : (x : ℕ) (d : Data) → at x held ≡ Some d → (place_at p x).ssn ≡ number → mem x (o ∷ rest) ≡ true

not_below : (o x : ℕ) (rest : List ℕ) → AreRising (o ∷ rest) → mem x (o ∷ rest) ≡ true → o ≤ x
not_below o x rest r m =
    ⊎_elim (λ (e : eqb o x ≡ true). let i = eqb-true o x e in omega arith)
    (λ (t : mem x rest ≡ true). let l = all_mem (λ (j : ℕ). o < j) rest x r.0 t in omega arith) (or_cases _ _ m)

found : (held : List Data) (d : Data) (b : Bool) (ps : List Data)
    → run_from (top held) d.offset held ≡ cond b (Some ps) None
    → run_of held d ≡ cond b (Some (record { head = d; pieces = ps })) None
found held d true ps e = ap (run_with d) e
found held d false ps e = ap (run_with d) e

module _ {p : Plan} {over : ℕ → Bool} (taken : List ℕ) {s : ℕ} (low : ℕ) {number : ℕ} {held : List Data} {o : ℕ}
    {rest : List ℕ} (h : IsPlanned p over) (v : over s ≡ false)
    (ah : AllByRecursion (IsHeld p taken s true low) held) (near : AllByRecursion (IsNearBy p low) held)
    (a : IsAllOf p s number held o rest) where
  -- a piece that begins the message is the first one held of it
  head_is : (x : Data) → begins (number % 65536) held ≡ Some x → (x ≡ data_at p o) × ((place_at p o).piece ≡ 0)
  head_is x e =
      let f =
      begins_found (λ (d : Data). (IsHeld p taken s true low d × IsNearBy p low d) × IsThere held d.offset)
      (number % 65536) held x e
      (all_both _ _ held (all_both _ _ held ah near) (all_there held)) in
      let hx = f.0.0.0 in
      let nx = f.0.0.1 in
      let first = a.from.mine.0 in
      let nf = (at_found (IsNearBy p low) o held (data_at p o) a.from.there.0 near).0 in
      let hf = (at_found (IsHeld p taken s true low) o held (data_at p o) a.from.there.0 ah).0 in
      let lo = hf.above in
      let lx = hx.above in
      let fi = first.is in
      let n : (place_at p x.offset).ssn ≡ number =
      same_from _ _ (omega arith) (omega arith) (sym (ssn_is p taken s low true x hx) ∙ f.1) in
      let zero_there : (place_at p x.offset).piece ≡ 0 = first_is p taken s low true x hx f.2 in
      let later = not_below o x.offset rest a.from.rising (a.full x.offset f.0.1.0 f.0.1.1 n) in
      let far = apart h o x.offset first.at.known hx.at.known (first.at.stream ∙ sym hx.at.stream)
      (one_message h v first.at hx.at (first.is ∙ sym n)) in
      let same : x.offset ≡ o = omega arith in
      (hx.is ∙ ap (data_at p) same, omega arith)

  -- the model finds the message with this number exactly where its pieces are held from the first to the last
  pub message_is : message_in held (number % 65536)
      ≡ cond (eqb (place_at p o).piece 0 && is_rest p (o ∷ rest))
      (Some (record { head = data_at p o; pieces = map (data_at p) (o ∷ rest) })) None
  message_is =
      ⊎_elim
      (λ (b : eqb (place_at p o).piece 0 ≡ true).
      let first = a.from.mine.0 in
      let x = begins_finds (number % 65536) o held (data_at p o) a.from.there.0 (ap (λ z. z % 65536) first.is) b in
      let i = head_is x.0 x.1 in
      ap (run_begun held) (x.1 ∙ ap Some i.0)
      ∙ found held (data_at p o) (is_rest p (o ∷ rest)) (map (data_at p) (o ∷ rest))
      (run_is taken low h v ah (top held) o rest a.from (omega arith))
      ∙ ap (λ z. cond (z && is_rest p (o ∷ rest))
      (Some (record { head = data_at p o; pieces = map (data_at p) (o ∷ rest) })) None) (sym b))
      (λ (b : eqb (place_at p o).piece 0 ≡ false). go b (begins (number % 65536) held) refl)
      (cases_Bool (eqb (place_at p o).piece 0))
    where
      go : eqb (place_at p o).piece 0 ≡ false → (x : Option Data) → begins (number % 65536) held ≡ x
          → message_in held (number % 65536)
          ≡ cond (eqb (place_at p o).piece 0 && is_rest p (o ∷ rest))
          (Some (record { head = data_at p o; pieces = map (data_at p) (o ∷ rest) })) None
      go b None e =
          ap (run_begun held) e
          ∙ ap (λ z. cond (z && is_rest p (o ∷ rest))
          (Some (record { head = data_at p o; pieces = map (data_at p) (o ∷ rest) })) None) (sym b)
      go b (Some x) e =
          absurd (eqb-false (place_at p o).piece 0 b (head_is x e).1)

-- The same of the groups.

pub last_later : (c d : ChunkPayloadData) (cs : List ChunkPayloadData) → last_of (c ∷ d ∷ cs) ≡ last_of (d ∷ cs)
last_later c d cs =
    ap (slice_get (c ∷ d ∷ cs)) (let e : length (c ∷ d ∷ cs) - 1 ≡ suc (length (d ∷ cs) - 1) = omega arith in e)

move : (a b c : Bool) → (a && (b && c)) ≡ (b && (a && c))
move true b c = refl
move false true c = refl
move false false c = refl

and_true : (a : Bool) → (a && true) ≡ a
and_true true = refl
and_true false = refl

rest_is : (initial : ℕ) (p : Plan) (c : ChunkPayloadData) (cs : List ChunkPayloadData) (o : ℕ) (rest : List ℕ)
    → CarryDataOf initial p (c ∷ cs) (o ∷ rest)
    → AllByRecursion (λ (x : ℕ). x < 2 ^ 31) (o ∷ rest)
    → (ends (c ∷ cs) && follows None (c ∷ cs)) ≡ is_rest p (o ∷ rest)
rest_is initial p c [] o [] a l = and_true c.ending_fragment ∙ a.0.last
rest_is initial p c [] o (x ∷ xs) a l = absurd a.1
rest_is initial p c (d ∷ ds) o [] a l = absurd a.1
rest_is initial p c (d ∷ ds) o (x ∷ xs) a l =
    let step : eqb d.tsn (tsn_after c.tsn) ≡ eqb x (suc o)
    =
    ap (λ z. eqb z (tsn_after c.tsn)) a.1.0.tsn ∙ ap (λ z. eqb (tsn initial x) (tsn_after z)) a.0.tsn
    ∙ tsn_next initial o x l.0 l.1.0 in
    ap (λ z. is_last_piece z && (eqb d.tsn (tsn_after c.tsn) && follows (Some d.tsn) ds)) (last_later c d ds)
    ∙ move (ends (d ∷ ds)) (eqb d.tsn (tsn_after c.tsn)) (follows (Some d.tsn) ds)
    ∙ ap (λ z. z && (ends (d ∷ ds) && follows (Some d.tsn) ds)) step
    ∙ ap (λ z. eqb x (suc o) && z) (rest_is initial p d ds x xs a.1 l.1)

and_join : (a b c : Bool) → ((a && b) && c) ≡ (a && (b && c))
and_join true b c = refl
and_join false b c = refl

-- these pieces are a whole message
pub complete_is : (initial : ℕ) (p : Plan) (cs : List ChunkPayloadData) (o : ℕ) (rest : List ℕ)
    → CarryDataOf initial p cs (o ∷ rest)
    → AllByRecursion (λ (x : ℕ). x < 2 ^ 31) (o ∷ rest)
    → is_complete cs ≡ (eqb (place_at p o).piece 0 && is_rest p (o ∷ rest))
complete_is initial p [] o rest a l = absurd a
complete_is initial p (c ∷ cs) o rest a l =
    and_join c.beginning_fragment (ends (c ∷ cs)) (follows None (c ∷ cs))
    ∙ ap (λ z. z && (ends (c ∷ cs) && follows None (c ∷ cs))) a.0.first
    ∙ ap (λ z. eqb (place_at p o).piece 0 && z) (rest_is initial p c cs o rest a l)

-- and its bytes are the DATA's
joined_is : (initial : ℕ) (p : Plan) (cs : List ChunkPayloadData) (os : List ℕ) → CarryDataOf initial p cs os
    → joined cs ≡ flat_map (λ (d : Data). d.bytes) (map (data_at p) os)
joined_is initial p [] [] a = refl
joined_is initial p [] (o ∷ os) a = absurd a
joined_is initial p (c ∷ cs) [] a = absurd a
joined_is initial p (c ∷ cs) (o ∷ os) a =
    ap (λ z. z ++ joined cs) a.0.bytes ∙ ap (λ z. (data_at p o).bytes ++ z) (joined_is initial p cs os a.1)

pub letter_is : (initial : ℕ) (p : Plan) (cs : List ChunkPayloadData) (o : ℕ) (rest : List ℕ)
    → CarryDataOf initial p cs (o ∷ rest)
    → letter_received (message_of cs)
    ≡ letter_read (got_of (record { head = data_at p o; pieces = map (data_at p) (o ∷ rest) }))
letter_is initial p [] o rest a = absurd a
letter_is initial p (c ∷ cs) o rest a =
    ap (the_letter (number_of c.payload_type)) (bytes_of_pieces (c ∷ cs))
    ∙ ap (λ (z : ℕ). the_letter z (joined (c ∷ cs))) a.0.payload_type
    ∙ ap (the_letter (data_at p o).payload_type) (joined_is initial p (c ∷ cs) (o ∷ rest) a)
  where
    the_letter : ℕ → List ℕ → Letter
    the_letter k bs = record { payload_type = k; bytes = bs }
