-- A piece of an ordered message that came, as both sides take it.
use Rattle.std.proofs.Common.{ℕ, ◌+◌, ◌^◌, ◌<◌, ◌≤◌, ◌≡◌, Bool, true, false, cond, not, eqb, ltb, List, ◌∷◌, length}
use Rattle.std.proofs.Common.{Option, Some, None, refl, sym, ap, ◌∙◌, subst, inl, inr, ⊎_elim, arith}
use Rattle.std.specs.List.{AllByRecursion}
use Rattle.std.proofs.lemmas.Bool.{cases_Bool, eqb-true, cond-true, cond-false, false_from_ne_true}
use Rattle.sctp_serial.specs.Serial.{ssn_lt}
use Rattle.sctp_wire_types.specs.declared.chunk.ChunkPayloadData.{ChunkPayloadData}
use Rattle.sctp_wire_types.specs.declared.error.Error.{Error}
use Rattle.sctp_wire_types.specs.declared.error.Error.TheVariants as errors
use Rattle.sctp_receive_queues.specs.Pieces.{bytes_of, contradicts, refusal_of}
use Rattle.sctp_receive_queues.specs.Reassembly.{Reassembly, pieces_at, index_of_ssn, pushed, refusal}
use Rattle.sctp_receive_queues.specs.Reassembly.{refusal_of_ordered, refusal_of_unordered, unordered_put, with_ordered}
use Rattle.sctp_receive_queues.specs.Reassembly.{with_put}
use Rattle.sctp_model.specs.Messages.{Plan, place_at}
use Rattle.sctp_model.specs.Packets.{Data, mem, data_at}
use Rattle.sctp_model.specs.Reassembly.{Queue, at, push, push_ordered, push_unordered}
use Rattle.sctp_model.specs.Invariants.{IsPlanned}
use Rattle.sctp_model.proofs.Lists.{all_weaker}
use Rattle.sctp_reassembly.specs.Laws.{OrderedPiecesStand}
use Rattle.sctp_reassembly.specs.Stands.{HeldMessage, CarriesData, IsOf, AreGroups, offsets_in, StandsFor, IsInWindow}
use Rattle.sctp_reassembly.specs.Stands.{IsForBytesAlone}
use Rattle.sctp_reassembly.proofs.HeldMessages.{IsAlone, all_alone, full_from, there_from}
use Rattle.sctp_reassembly.proofs.IndexRecursion.{with_ordered_is}
use Rattle.sctp_reassembly.proofs.OrderedPut.{AreNear, fits_there, groups_in, mem_put_in, put_in, rising_in, split}
use Rattle.sctp_reassembly.proofs.OrderedPut.{BringsPiece}
use Rattle.sctp_reassembly.proofs.ReadsAlike.{in_window}

-- the model's queue with an ordered piece
abbrev with_piece : Queue → Data → Queue
with_piece q d = record q { ordered = d ∷ q.ordered }

narrower : {p : Plan} {came : List ℕ} {s low cursor : ℕ} (q : Queue) (d : Data)
    → IsInWindow p came s low cursor (with_piece q d) → IsInWindow p came s low cursor q
narrower q d w =
    record { held = w.held.1; near = w.near.1; is = w.is; above = w.above; until = w.until }

module _ {initial : ℕ} {p : Plan} {came : List ℕ} {s low cursor : ℕ} {r : Reassembly} {q : Queue}
    (w : IsInWindow p came s low cursor q) (st : StandsFor initial p s r q) where
  -- all numbers held lie within half the range of one in the window
  all_near : (n : ℕ) → low ≤ n → n < low + 32767 → AllByRecursion (AreNear n) st.held
  all_near n l u =
      all_weaker (IsAlone p s q.ordered) (AreNear n) st.held (λ h a.
      let b = in_window w a.first a.all.from.there.0 in
      let b0 = b.0 in
      let b1 = b.1 in
      let e = a.all.from.mine.0.is in
      (omega arith, omega arith))
      (all_alone initial p s q.ordered r.ordered st.held st.ascends st.groups (there_from p q.ordered st.held st.same)
      (full_from p q.ordered st.held st.same))

not_among : (p : Plan) (held : List Data) (hs : List HeldMessage) (o : ℕ) → at o held ≡ None
    → ((x : ℕ) → at x held ≡ cond (mem x (offsets_in hs)) (Some (data_at p x)) None) → mem o (offsets_in hs) ≡ false
not_among p held hs o e same =
    false_from_ne_true _
    (λ (m : mem o (offsets_in hs) ≡ true). none_some (sym e ∙ same o ∙ cond-true _ (Some (data_at p o)) None m))
  where
    none_some : None ≡ Some (data_at p o) → ⊥
    none_some i = cc

same_with : (p : Plan) (held : List Data) (hs : List HeldMessage) (o : ℕ)
    → ((x : ℕ) → at x held ≡ cond (mem x (offsets_in hs)) (Some (data_at p x)) None)
    → (x : ℕ)
    → at x (data_at p o ∷ held) ≡ cond (mem x (offsets_in (put_in (place_at p o).ssn o hs))) (Some (data_at p x)) None
same_with p held hs o same x =
    ⊎_elim
    (λ (b : eqb o x ≡ true). rw b (ap (λ z. Some (data_at p z)) (eqb-true o x b)))
    (λ (b : eqb o x ≡ false). rw b (same x))
    (cases_Bool (eqb o x))
    ∙ ap (λ z. cond z (Some (data_at p x)) None) (sym (mem_put_in (place_at p o).ssn o x hs))

for_bytes : (pieces : List ChunkPayloadData) (c : ChunkPayloadData) (limit : ℕ) → contradicts pieces c ≡ false
    → IsForBytesAlone (refusal_of pieces c limit)
for_bytes pieces c limit e =
    subst IsForBytesAlone
    (sym (cond-false (contradicts pieces c) (Some errors.ErrContradictoryPieces)
    (too_many (ltb limit (bytes_of pieces + length c.user_data))) e))
    (go (ltb limit (bytes_of pieces + length c.user_data)))
  where
    too_many : Bool → Option Error
    too_many b = cond b (Some errors.ErrInboundMessageTooLarge) None

    go : (b : Bool) → IsForBytesAlone (too_many b)
    go true = inr refl
    go false = inl refl

-- left as it is, or with the piece
abbrev kept_if : Bool → Reassembly → Reassembly → Reassembly × Bool
kept_if b r after = cond b (r, false) (after, true)

module _ {initial : ℕ} {p : Plan} {came : List ℕ} {s low cursor : ℕ} {r : Reassembly} {q : Queue}
    (refused : Option Error) (st : StandsFor initial p s r q) where
  decided : (after : Reassembly) (with : Queue) (b : Bool)
      → (IsInWindow p came s low cursor with → StandsFor initial p s after with × IsForBytesAlone refused)
      → IsInWindow p came s low cursor (cond b q with)
      → StandsFor initial p s (kept_if b r after).0 (cond b q with) × IsForBytesAlone (cond b None refused)
  decided after with true f w = (st, inl refl)
  decided after with false f w = f w

module _ (initial : ℕ) (p : Plan) (over : ℕ → Bool) (came : List ℕ) (s low cursor o limit : ℕ) (r : Reassembly)
    (q : Queue) (c : ChunkPayloadData) (h : IsPlanned p over) (v : over s ≡ false)
    (small : length p.places < 2 ^ 31) (st : StandsFor initial p s r q)
    (i : CarriesData initial c (data_at p o)) (kind : (data_at p o).ordered ≡ true)
    (new : at o q.ordered ≡ None) where
  -- with the piece one side stands for the other, and the piece contradicts nothing
  taken_in : IsInWindow p came s low cursor (with_piece q (data_at p o))
      → StandsFor initial p s (record r { ordered = with_ordered r.ordered c }) (with_piece q (data_at p o))
      × (contradicts (pieces_at (index_of_ssn c.stream_sequence_number r.ordered) r.ordered) c ≡ false)
  taken_in w =
      let here = w.held.0 in
      let n : ℕ = (place_at p o).ssn in
      let x : IsOf p s n o = record { at = here.at; sent = here.sent; is = refl } in
      let near =
      all_near (narrower q (data_at p o) w) st n here.above w.near.0 in
      let out = not_among p q.ordered st.held o new st.same in
      let brings : BringsPiece initial p over s n o c = record {
        planned = h;
        spans = v;
        small = small;
        carried = i;
        mine = x;
        number = i.ssn;
      } in (
        record {
          held = put_in n o st.held;
          groups =
              subst (λ z. AreGroups initial p s z (put_in n o st.held))
              (sym
              (with_ordered_is r.ordered c (split brings r.ordered st.held st.groups near st.ascends)))
              (groups_in brings r.ordered st.held st.groups near out);
          ascends = rising_in n o st.held st.ascends;
          same = same_with p q.ordered st.held o st.same;
          next = st.next;
          waiting = st.waiting;
          complete = st.complete;
        },
        fits_there brings r.ordered st.held st.groups near out,
      )

  piece_stands : IsInWindow p came s low cursor (push q (data_at p o))
      → StandsFor initial p s (pushed r c).0 (push q (data_at p o)) × IsForBytesAlone (refusal r c limit)
  piece_stands w =
      let d = data_at p o in
      let after : Reassembly = record r { ordered = with_ordered r.ordered c } in
      let plain : c.unordered ≡ false = i.ordered ∙ ap not kind in
      let b = ssn_lt d.ssn q.cursor in
      let test : ssn_lt c.stream_sequence_number r.next_ssn ≡ b =
      ap (λ z. ssn_lt z r.next_ssn) i.ssn ∙ ap (ssn_lt d.ssn) st.next in
      let model : push q d ≡ cond b q (with_piece q d) =
      cond-true d.ordered (push_ordered q d) (push_unordered q d) kind in
      let view : pushed r c ≡ kept_if b r after
      =
      cond-false c.unordered (with_put r (unordered_put r.unordered r.complete c), true)
      (cond (ssn_lt c.stream_sequence_number r.next_ssn) (r, false) (after, true)) plain
      ∙ ap (λ z. cond z (r, false) (after, true)) test in
      let refused : refusal r c limit ≡ cond b None (refusal_of_ordered r.ordered c limit)
      =
      cond-false c.unordered (refusal_of_unordered r.unordered c limit)
      (cond (ssn_lt c.stream_sequence_number r.next_ssn) None (refusal_of_ordered r.ordered c limit)) plain
      ∙ ap (λ z. cond z None (refusal_of_ordered r.ordered c limit)) test in
      let both =
      decided (refusal_of_ordered r.ordered c limit) st after (with_piece q d) b
      (λ w'. let t = taken_in w' in
      (t.0, for_bytes (pieces_at (index_of_ssn c.stream_sequence_number r.ordered) r.ordered) c limit t.1))
      (subst (IsInWindow p came s low cursor) model w) in (
        subst (λ z. StandsFor initial p s (pushed r c).0 z) (sym model)
            (subst (λ z. StandsFor initial p s z.0 (cond b q (with_piece q d))) (sym view) both.0),
        subst IsForBytesAlone (sym refused) both.1,
      )

pub ordered_pieces_stand : OrderedPiecesStand
ordered_pieces_stand = piece_stands
