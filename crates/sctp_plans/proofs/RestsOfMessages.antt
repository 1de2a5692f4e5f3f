-- Pieces of a plan whose TSNs follow one another up to a last one are the rest of one message, from the place of the
-- first of them on.
use Rattle.std.proofs.Common.{◌≡◌, refl, sym, ap, ◌∙◌, subst, arith, ℕ, suc, ◌+◌, ◌*◌, ◌^◌, ◌<◌, ◌≤◌, ◌++◌, eqb, true}
use Rattle.std.proofs.Common.{Bool, false, List, [], ◌∷◌, length, drop, Some, ⊎_elim, append-nil}
use Rattle.std.specs.List.{AllByRecursion}
use Rattle.std.proofs.Math.Nat.{mul-le-mul_left}
use Rattle.std.proofs.lemmas.Bool.{and_parts, cases_lt, eq-eqb, eqb-true, leb-true, or_left, or_right}
use Rattle.std.proofs.lemmas.List.{drop-drop, length-drop, take-append-drop, take_all}
use Rattle.sctp_serial.specs.Serial.{tsn, tsn_after}
use Rattle.sctp_wire_types.specs.declared.chunk.ChunkPayloadData.{ChunkPayloadData}
use Rattle.sctp_wire_types.specs.declared.ids.PayloadProtocolIdentifier.{PayloadProtocolIdentifier}
use Rattle.sctp_receive_queues.specs.Messages.{joined}
use Rattle.sctp_receive_queues.specs.Pieces.{ends, follows, has_tsn, is_last as is_last_of}
use Rattle.sctp_model.specs.Messages.{Plan, is_last, is_last_piece, message_of, piece_of, place_at}
use Rattle.sctp_model.specs.Invariants.{Follows, IsPlanned}
use Rattle.sctp_reassembly.proofs.PieceChains.{same_text}
use Rattle.sctp_reassembly.proofs.WholeMessages.{last_later}
use Rattle.sctp_reset_fit.specs.Pieces.{IsPieceOf, OnlyTheLastEnds, Order}
use Rattle.sctp_plans.specs.Plans.{IsOfPlan, StandsIn}

-- The cut of some bytes

-- a piece and what is behind it
piece_and_rest : (size k : ℕ) (bytes : List ℕ)
    → piece_of size bytes k ++ drop (size * suc k) bytes ≡ drop (size * k) bytes
piece_and_rest size k bytes =
    ap (λ (n : ℕ). piece_of size bytes k ++ drop n bytes)
    (let m : size * suc k ≡ size * k + size = omega arith in m)
    ∙ ap (λ (rest : List ℕ). piece_of size bytes k ++ rest) (sym (drop-drop size (size * k) bytes))
    ∙ take-append-drop size (drop (size * k) bytes)

-- the last piece has all that is left
last_is_rest : (size k : ℕ) (bytes : List ℕ) → is_last_piece size bytes k ≡ true
    → piece_of size bytes k ≡ drop (size * k) bytes
last_is_rest size k bytes last =
    let short = leb-true (length bytes) (size * suc k) last in
    take_all size (drop (size * k) bytes) (omega (arith, short, length-drop (size * k) bytes))

-- and none is behind it
none_behind : (size k j : ℕ) (bytes : List ℕ) → is_last_piece size bytes k ≡ true → size * j < length bytes → j ≤ k
none_behind size k j bytes last less =
    ⊎_elim
    (λ (more : k < j). absurd (
    let short = leb-true (length bytes) (size * suc k) last in
    let up : size * suc k ≤ size * j = mul-le-mul_left size more in
    omega (arith, short)))
    (λ (within : j ≤ k). within)
    (cases_lt k j)

next_offset : (initial o q : ℕ) → o < 2 ^ 31 → q < 2 ^ 31 → tsn initial q ≡ tsn_after (tsn initial o) → q ≡ suc o
next_offset initial o q near later e = omega arith

-- These are the pieces of the message that the offset o belongs to, from there on.
pub record AreRestOf (initial id : ℕ) (p : Plan) (o : ℕ) (cs : List ChunkPayloadData) : Type 0 where
  pub bytes : joined cs ≡ drop (p.size * (place_at p o).piece) (message_of p (place_at p o)).bytes
  pub mine : AllByRecursion (λ (c : ChunkPayloadData). StandsIn initial id p (place_at p o).message c) cs
  pub all : (q : ℕ) → q < length p.places → (place_at p q).stream ≡ id
      → (place_at p q).message ≡ (place_at p o).message → (place_at p o).piece ≤ (place_at p q).piece
      → has_tsn (tsn initial q) cs ≡ true

module _ (initial id : ℕ) (p : Plan) (over : ℕ → Bool) (h : IsPlanned p over) where
  at_its_place : (c : ChunkPayloadData) (x : IsOfPlan initial p c) → (place_at p x.offset).stream ≡ id
      → StandsIn initial id p (place_at p x.offset).message c
  at_its_place c x stream = record {
    offset = x.offset;
    known = x.known;
    is = x.is;
    sent = x.sent;
    stream = stream;
    message = refl;
  }

  -- the last piece of a message
  rest_ends : (c : ChunkPayloadData) (x : IsOfPlan initial p c) → (place_at p x.offset).stream ≡ id
      → is_last p (place_at p x.offset) ≡ true → AreRestOf initial id p x.offset (c ∷ [])
  rest_ends c x stream last = record {
    bytes =
        append-nil c.user_data ∙ x.bytes
        ∙ last_is_rest p.size (place_at p x.offset).piece (message_of p (place_at p x.offset)).bytes last;
    mine = (at_its_place c x stream, tt);
    all = λ q known there message from.
        let within : (place_at p q).piece ≤ (place_at p x.offset).piece =
        none_behind p.size (place_at p x.offset).piece (place_at p q).piece
        (message_of p (place_at p x.offset)).bytes last
        (subst (λ z. p.size * (place_at p q).piece < length z.bytes)
        (same_text p q x.offset (there ∙ sym stream) message) (h.piece q known)) in
        let same : q ≡ x.offset =
        h.one q x.offset known x.known (there ∙ sym stream) message (omega (arith, from, within)) in
        or_left _ _ (eq-eqb c.tsn (tsn initial q) (x.is ∙ ap (tsn initial) (sym same)));
  }

  -- a piece in front of the rest from the next one on
  rest_begins : (c : ChunkPayloadData) (cs : List ChunkPayloadData) (x : IsOfPlan initial p c) (q : ℕ)
      → (place_at p x.offset).stream ≡ id → Follows (place_at p x.offset) (place_at p q)
      → AreRestOf initial id p q cs → AreRestOf initial id p x.offset (c ∷ cs)
  rest_begins c cs x q stream f r = record {
    bytes =
        ap (λ (z : List ℕ). z ++ joined cs) x.bytes
        ∙ ap
        (λ (z : List ℕ). piece_of p.size (message_of p (place_at p x.offset)).bytes (place_at p x.offset).piece ++ z)
        (r.bytes
        ∙ ap (λ (k : ℕ). drop (p.size * k) (message_of p (place_at p q)).bytes) f.piece
        ∙ ap (λ z. drop (p.size * suc (place_at p x.offset).piece) z.bytes)
        (same_text p q x.offset f.stream f.message))
        ∙ piece_and_rest p.size (place_at p x.offset).piece (message_of p (place_at p x.offset)).bytes;
    mine = (
      at_its_place c x stream,
      subst (λ (n : ℕ). AllByRecursion (λ (d : ChunkPayloadData). StandsIn initial id p n d) cs) f.message r.mine,
    );
    all = λ o known there message from.
        ⊎_elim
        (λ (later : (place_at p x.offset).piece < (place_at p o).piece).
        or_right _ _ (r.all o known there (message ∙ sym f.message)
        (subst (λ (k : ℕ). k ≤ (place_at p o).piece) (sym f.piece) later)))
        (λ (within : (place_at p o).piece ≤ (place_at p x.offset).piece).
        let same : o ≡ x.offset =
        h.one o x.offset known x.known (there ∙ sym stream) message (omega (arith, from, within)) in
        or_left _ _ (eq-eqb c.tsn (tsn initial o) (x.is ∙ ap (tsn initial) (sym same))))
        (cases_lt (place_at p x.offset).piece (place_at p o).piece);
  }

  -- a piece that does not end its message is followed by the next one of the same message
  followed : (c d : ChunkPayloadData) (x : IsOfPlan initial p c) (y : IsOfPlan initial p d) → length p.places < 2 ^ 31
      → c.ending_fragment ≡ false → d.tsn ≡ tsn_after c.tsn → Follows (place_at p x.offset) (place_at p y.offset)
  followed c d x y small goes_on after =
      let near : x.offset < 2 ^ 31 = (let known = x.known in omega (arith, known, small)) in
      let later : y.offset < 2 ^ 31 = (let known = y.known in omega (arith, known, small)) in
      let next : y.offset ≡ suc x.offset =
      next_offset initial x.offset y.offset near later (sym y.is ∙ after ∙ ap tsn_after x.is) in
      subst (λ (q : ℕ). Follows (place_at p x.offset) (place_at p q)) (sym next)
      (h.after x.offset (subst (λ (q : ℕ). q < length p.places) next y.known) (sym x.last ∙ goes_on) x.sent)

  pub rest_is : (P : ChunkPayloadData → Type 0) (so : (d : ChunkPayloadData) → P d → IsOfPlan initial p d)
      (order : Order) (kind : PayloadProtocolIdentifier) (c : ChunkPayloadData) (cs : List ChunkPayloadData)
      → length p.places < 2 ^ 31
      → (each : AllByRecursion (λ (d : ChunkPayloadData). IsPieceOf P id order kind d) (c ∷ cs))
      → OnlyTheLastEnds (c ∷ cs) → ends (c ∷ cs) ≡ true → follows (Some c.tsn) cs ≡ true
      → AreRestOf initial id p (so c each.0.is_so).offset (c ∷ cs)
  rest_is P so order kind c [] small each one ended after =
      let x = so c each.0.is_so in rest_ends c x (sym x.stream ∙ each.0.stream) (sym x.last ∙ ended)
  rest_is P so order kind c (d ∷ ds) small each one ended after =
      let x = so c each.0.is_so in
      let y = so d each.1.0.is_so in
      let t = and_parts (eqb d.tsn (tsn_after c.tsn)) (follows (Some d.tsn) ds) after in
      rest_begins c (d ∷ ds) x y.offset (sym x.stream ∙ each.0.stream)
      (followed c d x y small one.0 (eqb-true d.tsn (tsn_after c.tsn) t.0))
      (rest_is P so order kind d ds small each.1 one.1 (sym (ap is_last_of (last_later c d ds)) ∙ ended) t.1)
