-- Pieces of one message, and a piece that the receiver does not refuse beside them.
use Rattle.std.proofs.Common.{◌≡◌, refl, sym, ap, ◌∙◌, subst, arith, ℕ, zero, suc, ◌-◌, ◌==◌, ◌<◌, ◌≤◌, ◌&&◌, ◌||◌, not}
use Rattle.std.proofs.Common.{Bool, true, false, if◌then◌else◌, List, [], ◌∷◌, ◌++◌, length, take, drop}
use Rattle.std.proofs.Common.{filter, Option, Some, None, unwrap_or, is_some}
use Rattle.std.specs.Prelude.{position, slice_get}
use Rattle.std.specs.List.{AllByRecursion}
use Rattle.std.proofs.lemmas.Bool.{cond-false, cond-true, eq-eqb, eqb-true, false≢true, ne_eqb, not-false, or_parts}
use Rattle.std.proofs.lemmas.Bool.{true≢false}
use Rattle.std.proofs.lemmas.List.Quantifiers.{position-Some}
use Rattle.sctp_serial.specs.Serial.{tsn_lt}
use Rattle.sctp_wire_types.specs.declared.chunk.ChunkPayloadData.{ChunkPayloadData}
use Rattle.sctp_wire_types.specs.declared.ids.PayloadProtocolIdentifier.{PayloadProtocolIdentifier}
use Rattle.sctp_wire_types.specs.declared.ids.PayloadProtocolIdentifier.TheVariants as kinds
use Rattle.sctp_wire_types.specs.Ids.{identifier_of, number_of}
use Rattle.sctp_receive_queues.specs.Pieces.{begins, breaks_ends, contradicts, differs_from, ends, has_other_type}
use Rattle.sctp_receive_queues.specs.Pieces.{has_tsn, index_of, is_last}
use Rattle.sctp_receive_queues.specs.Reassembly.{tears}
use Rattle.sctp_resets.proofs.ListsOver.{all_appended, all_filtered, all_inserted, of_chosen}
use Rattle.sctp_reset_fit.specs.Pieces.{ArePiecesOf, HasOrder, IsPieceOf, NoneBegins, NoneEnds, OnlyTheFirstBegins}
use Rattle.sctp_reset_fit.specs.Pieces.{OnlyTheLastEnds, Order}

-- what is not refused does not do what it would be refused for
pub unrefused : {X : Type 0} (b : Bool) (fault : X) (other : Option X) → (if b then Some fault else other) ≡ None
    → b ≡ false
unrefused true fault other e = absurd (true≢false (ap is_some e))
unrefused false fault other e = refl

-- of three things none is so
pub none_of_three : (a b c : Bool) → (a || b || c) ≡ false → (a ≡ false) × (b ≡ false) × (c ≡ false)
none_of_three false false false e = (refl, refl, refl)
none_of_three false false true e = absurd (true≢false e)
none_of_three false true c e = absurd (true≢false e)
none_of_three true b c e = absurd (true≢false e)

-- Types

number_names : (kind : PayloadProtocolIdentifier) → identifier_of (number_of kind) ≡ kind
number_names kinds.Dcep = refl
number_names kinds.String = refl
number_names kinds.Binary = refl
number_names kinds.StringEmpty = refl
number_names kinds.BinaryEmpty = refl
number_names kinds.Unknown = refl

-- a payload type with the number of another one is that
same_type : (p q : ChunkPayloadData) → differs_from p (Some q) ≡ false → q.payload_type ≡ p.payload_type
same_type p q e =
    let number : number_of q.payload_type ≡ number_of p.payload_type =
    eqb-true (number_of q.payload_type) (number_of p.payload_type) (not-false _ e) in
    sym (number_names q.payload_type) ∙ ap identifier_of number ∙ number_names p.payload_type

-- Ends

-- one piece more in front, which ends nothing
ends_behind_more : (p : ChunkPayloadData) (ps : List ChunkPayloadData) → p.ending_fragment ≡ false
    → OnlyTheLastEnds ps → OnlyTheLastEnds (p ∷ ps)
ends_behind_more p [] e last = tt
ends_behind_more p (q ∷ ps) e last = (e, last)

-- one piece more in front does not change whether the last one ends the message
ends_with_more : (p q : ChunkPayloadData) (ps : List ChunkPayloadData) → ends (p ∷ q ∷ ps) ≡ ends (q ∷ ps)
ends_with_more p q ps =
    let longer : length (p ∷ q ∷ ps) - 1 ≡ suc (length ps) = omega arith in
    let shorter : length (q ∷ ps) - 1 ≡ length ps = omega arith in
    ap (λ (k : ℕ). is_last (slice_get (p ∷ q ∷ ps) k)) longer
    ∙ sym (ap (λ (k : ℕ). is_last (slice_get (q ∷ ps) k)) shorter)

none_ends : (ps : List ChunkPayloadData) → OnlyTheLastEnds ps → ends ps ≡ false → NoneEnds ps
none_ends [] last e = tt
none_ends (p ∷ []) last e = (e, tt)
none_ends (p ∷ q ∷ ps) last e = (last.0, none_ends (q ∷ ps) last.1 (sym (ends_with_more p q ps) ∙ e))

none_begins : (ps : List ChunkPayloadData) → OnlyTheFirstBegins ps → begins ps ≡ false → NoneBegins ps
none_begins [] first e = tt
none_begins (p ∷ ps) first e = (e, first)

begins_joined : (front : List ChunkPayloadData) (p : ChunkPayloadData) (back : List ChunkPayloadData)
    → OnlyTheFirstBegins front → (0 < length front → p.beginning_fragment ≡ false) → NoneBegins back
    → OnlyTheFirstBegins (front ++ p ∷ back)
begins_joined [] p back first one later = later
begins_joined (q ∷ qs) p back first one later =
    all_appended (λ (x : ChunkPayloadData). x.beginning_fragment ≡ false) qs (p ∷ back) first
    (one (omega arith), later)

ends_in_front : (p : ChunkPayloadData) (back : List ChunkPayloadData)
    → (0 < length back → p.ending_fragment ≡ false) → OnlyTheLastEnds back → OnlyTheLastEnds (p ∷ back)
ends_in_front p [] one last = tt
ends_in_front p (q ∷ qs) one last = (one (omega arith), last)

ends_joined : (front : List ChunkPayloadData) (p : ChunkPayloadData) (back : List ChunkPayloadData) → NoneEnds front
    → (0 < length back → p.ending_fragment ≡ false) → OnlyTheLastEnds back → OnlyTheLastEnds (front ++ p ∷ back)
ends_joined [] p back none one last = ends_in_front p back one last
ends_joined (q ∷ qs) p back none one last =
    ends_behind_more q (qs ++ p ∷ back) none.0 (ends_joined qs p back none.1 one last)

-- one piece is put in at its place

begins_inserted : (ps : List ChunkPayloadData) (index : ℕ) (p : ChunkPayloadData) → OnlyTheFirstBegins ps
    → (index ≡ 0 → begins ps ≡ false) → (0 < index → p.beginning_fragment ≡ false)
    → OnlyTheFirstBegins (take index ps ++ p ∷ drop index ps)
begins_inserted [] zero p first front one = tt
begins_inserted [] (suc index) p first front one = tt
begins_inserted (q ∷ qs) zero p first front one = (front refl, first)
begins_inserted (q ∷ qs) (suc index) p first front one =
    all_inserted (λ (x : ChunkPayloadData). x.beginning_fragment ≡ false) qs index p first (one (omega arith))

ends_inserted : (ps : List ChunkPayloadData) (index : ℕ) (p : ChunkPayloadData) → index ≤ length ps
    → OnlyTheLastEnds ps → (index ≡ length ps → ends ps ≡ false)
    → (index < length ps → p.ending_fragment ≡ false) → OnlyTheLastEnds (take index ps ++ p ∷ drop index ps)
ends_inserted [] zero p within last back one = tt
ends_inserted [] (suc index) p within last back one = tt
ends_inserted (q ∷ qs) zero p within last back one = (one (omega arith), last)
ends_inserted (q ∷ []) (suc zero) p within last back one = (back refl, tt)
ends_inserted (q ∷ []) (suc (suc index)) p within last back one =
    let none : suc (suc index) ≤ 1 = within in absurd (omega (arith, none))
ends_inserted (q ∷ r ∷ rs) (suc index) p within last back one =
    ends_behind_more q (take index (r ∷ rs) ++ p ∷ drop index (r ∷ rs)) last.0
    (ends_inserted (r ∷ rs) index p (omega (arith, within)) last.1
    (λ (e : index ≡ length (r ∷ rs)). sym (ends_with_more q r rs) ∙ back (omega (arith, e)))
    (λ (less : index < length (r ∷ rs)). one (omega (arith, less))))

-- some of the pieces stay

begins_filtered : (test : ChunkPayloadData → Bool) (ps : List ChunkPayloadData) → OnlyTheFirstBegins ps
    → OnlyTheFirstBegins (filter test ps)
begins_filtered test [] first = tt
begins_filtered test (p ∷ ps) first =
    let left = all_filtered (λ (x : ChunkPayloadData). x.beginning_fragment ≡ false) test ps first in
    of_chosen OnlyTheFirstBegins (test p) (p ∷ filter test ps) (filter test ps) left (weaker (filter test ps) left)
  where
    weaker : (qs : List ChunkPayloadData) → NoneBegins qs → OnlyTheFirstBegins qs
    weaker [] none = tt
    weaker (q ∷ qs) none = none.1

ends_filtered : (test : ChunkPayloadData → Bool) (ps : List ChunkPayloadData) → OnlyTheLastEnds ps
    → OnlyTheLastEnds (filter test ps)
ends_filtered test [] last = tt
ends_filtered test (p ∷ []) last = of_chosen OnlyTheLastEnds (test p) (p ∷ []) [] tt tt
ends_filtered test (p ∷ q ∷ ps) last =
    let left : OnlyTheLastEnds (filter test (q ∷ ps)) = ends_filtered test (q ∷ ps) last.1 in
    of_chosen OnlyTheLastEnds (test p) (p ∷ filter test (q ∷ ps)) (filter test (q ∷ ps))
    (ends_behind_more p (filter test (q ∷ ps)) last.0 left) left

-- A place

within_length : (o : Option ℕ) (n : ℕ) → ((index : ℕ) → o ≡ Some index → index < n) → unwrap_or o n ≤ n
within_length None n inside = omega arith
within_length (Some index) n inside = let less = inside index refl in omega (arith, less)

index_within : (p : ChunkPayloadData) (ps : List ChunkPayloadData) → index_of p.tsn ps ≤ length ps
index_within p ps =
    within_length (position (λ (q : ChunkPayloadData). tsn_lt p.tsn q.tsn) ps) (length ps)
    (λ index e. (position-Some (λ (q : ChunkPayloadData). tsn_lt p.tsn q.tsn) ps index p e).0)

-- The pieces of a message on a stream, of which something is so.
module _ (P : ChunkPayloadData → Type 0) (id : ℕ) (order : Order) where
  -- each is of this payload type
  abbrev pub EachOfType : PayloadProtocolIdentifier → List ChunkPayloadData → Type 0
  EachOfType kind pieces = AllByRecursion (λ (piece : ChunkPayloadData). IsPieceOf P id order kind piece) pieces

  typed_as : (kind other : PayloadProtocolIdentifier) → kind ≡ other → (ps : List ChunkPayloadData)
      → EachOfType kind ps → EachOfType other ps
  typed_as kind other e ps each = subst (λ (k : PayloadProtocolIdentifier). EachOfType k ps) e each

  -- all have the payload type of a piece that has no other type than they
  typed_like : (kind : PayloadProtocolIdentifier) (ps : List ChunkPayloadData) (p : ChunkPayloadData)
      → EachOfType kind ps → has_other_type ps p ≡ false → EachOfType p.payload_type ps
  typed_like kind [] p each e = tt
  typed_like kind (q ∷ ps) p each e =
      typed_as kind p.payload_type (sym each.0.typed ∙ same_type p q e) (q ∷ ps) each

  one_piece : (p : ChunkPayloadData) → P p → p.stream_identifier ≡ id → HasOrder order p
      → IsPieceOf P id order p.payload_type p
  one_piece p so stream stands = record { is_so = so; stream = stream; stands = stands; typed = refl }

  -- no piece, and one
  pub no_pieces : ArePiecesOf P id order []
  no_pieces = record { kind = kinds.Unknown; each = tt; begun_first = tt; ended_last = tt }

  pub single_piece : (p : ChunkPayloadData) → P p → p.stream_identifier ≡ id → HasOrder order p
      → ArePiecesOf P id order (p ∷ [])
  single_piece p so stream stands =
      record { kind = p.payload_type; each = (one_piece p so stream stands, tt); begun_first = tt; ended_last = tt }

  -- one more, which does not contradict them
  pub one_inserted : (ps : List ChunkPayloadData) (p : ChunkPayloadData) → ArePiecesOf P id order ps → P p
      → p.stream_identifier ≡ id → HasOrder order p → contradicts ps p ≡ false
      → ArePiecesOf P id order (take (index_of p.tsn ps) ps ++ p ∷ drop (index_of p.tsn ps) ps)
  one_inserted ps p h so stream stands e =
      let index : ℕ = index_of p.tsn ps in
      let apart = none_of_three (has_tsn p.tsn ps) (has_other_type ps p) (breaks_ends index ps p) e in
      let whole = or_parts (if index == 0 then begins ps else p.beginning_fragment)
      (if index == length ps then ends ps else p.ending_fragment) apart.2 in
      let at_front : (index ≡ 0 → begins ps ≡ false) =
      λ (same : index ≡ 0). sym (cond-true (index == 0) _ _ (eq-eqb index 0 same)) ∙ whole.0 in
      let behind_front : (0 < index → p.beginning_fragment ≡ false) =
      λ (more : 0 < index). sym (cond-false (index == 0) (begins ps) p.beginning_fragment
      (ne_eqb index 0 (λ (same : index ≡ 0). omega (arith, same, more)))) ∙ whole.0 in
      let at_end : (index ≡ length ps → ends ps ≡ false) =
      λ (same : index ≡ length ps). sym (cond-true (index == length ps) _ _ (eq-eqb index (length ps) same)) ∙ whole.1
      in
      let before_end : (index < length ps → p.ending_fragment ≡ false) =
      λ (less : index < length ps). sym (cond-false (index == length ps) (ends ps) p.ending_fragment
      (ne_eqb index (length ps) (λ (same : index ≡ length ps). omega (arith, same, less)))) ∙ whole.1 in
      record {
        kind = p.payload_type;
        each =
            all_inserted (IsPieceOf P id order p.payload_type) ps index p
            (typed_like h.kind ps p h.each apart.1) (one_piece p so stream stands);
        begun_first = begins_inserted ps index p h.begun_first at_front behind_front;
        ended_last = ends_inserted ps index p (index_within p ps) h.ended_last at_end before_end;
      }

  -- some of them stay
  pub pieces_filtered : (test : ChunkPayloadData → Bool) (ps : List ChunkPayloadData) → ArePiecesOf P id order ps
      → ArePiecesOf P id order (filter test ps)
  pieces_filtered test ps h = record {
    kind = h.kind;
    each = all_filtered (IsPieceOf P id order h.kind) test ps h.each;
    begun_first = begins_filtered test ps h.begun_first;
    ended_last = ends_filtered test ps h.ended_last;
  }

  -- What may stand in front of a piece, and behind it.
  pub record FitsInFront (p : ChunkPayloadData) (front : List ChunkPayloadData) : Type 0 where
    pub each : EachOfType p.payload_type front
    pub begun_first : OnlyTheFirstBegins front
    pub unended : NoneEnds front
    pub one : 0 < length front → p.beginning_fragment ≡ false

  pub record FitsBehind (p : ChunkPayloadData) (back : List ChunkPayloadData) : Type 0 where
    pub each : EachOfType p.payload_type back
    pub ended_last : OnlyTheLastEnds back
    pub unbegun : NoneBegins back
    pub one : 0 < length back → p.ending_fragment ≡ false

  pub nothing_in_front : (p : ChunkPayloadData) → FitsInFront p []
  nothing_in_front p = record { each = tt; begun_first = tt; unended = tt; one = λ some. absurd (omega (arith, some)) }

  pub nothing_behind : (p : ChunkPayloadData) → FitsBehind p []
  nothing_behind p = record { each = tt; ended_last = tt; unbegun = tt; one = λ some. absurd (omega (arith, some)) }

  pub run_in_front : (p : ChunkPayloadData) (run : List ChunkPayloadData) → ArePiecesOf P id order run
      → ends run ≡ false → p.beginning_fragment ≡ false → has_other_type run p ≡ false → FitsInFront p run
  run_in_front p run h ended begun other = record {
    each = typed_like h.kind run p h.each other;
    begun_first = h.begun_first;
    unended = none_ends run h.ended_last ended;
    one = λ some. begun;
  }

  pub run_behind : (p : ChunkPayloadData) (run : List ChunkPayloadData) → ArePiecesOf P id order run
      → p.ending_fragment ≡ false → begins run ≡ false → has_other_type run p ≡ false → FitsBehind p run
  run_behind p run h ended begun other = record {
    each = typed_like h.kind run p h.each other;
    ended_last = h.ended_last;
    unbegun = none_begins run h.begun_first begun;
    one = λ some. ended;
  }

  pub pieces_joined : (front : List ChunkPayloadData) (p : ChunkPayloadData) (back : List ChunkPayloadData)
      → FitsInFront p front → P p → p.stream_identifier ≡ id → HasOrder order p → FitsBehind p back
      → ArePiecesOf P id order (front ++ p ∷ back)
  pieces_joined front p back before so stream stands behind = record {
    kind = p.payload_type;
    each =
        all_appended (IsPieceOf P id order p.payload_type) front (p ∷ back) before.each
        (one_piece p so stream stands, behind.each);
    begun_first = begins_joined front p back before.begun_first before.one behind.unbegun;
    ended_last = ends_joined front p back before.unended behind.one behind.ended_last;
  }

-- what does not tear two neighbours, of which the one does not end a message: the other does not begin one, and they
-- have no different types
pub untorn : (neighbours ended begun other : Bool) → (neighbours && not ended) ≡ true
    → (neighbours && tears ended begun other) ≡ false → (ended ≡ false) × (begun ≡ false) × (other ≡ false)
untorn false ended begun other joins torn = absurd (false≢true joins)
untorn true true begun other joins torn = absurd (false≢true joins)
untorn true false true other joins torn = absurd (true≢false torn)
untorn true false false true joins torn = absurd (true≢false torn)
untorn true false false false joins torn = (refl, refl, refl)
