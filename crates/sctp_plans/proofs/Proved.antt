-- The laws of this crate.
use Rattle.std.proofs.Common.{◌≡◌, sym, ap, ◌∙◌, subst, arith, ℕ, ◌*◌, ◌^◌, ◌<◌, ◌&&◌, true, List, [], ◌∷◌, length}
use Rattle.std.proofs.Common.{drop, Bool, None, ◌+◌, ◌≤◌, ◌==◌, if◌then◌else◌, eqb, ⊎_elim}
use Rattle.std.proofs.lemmas.Bool.{and_parts, eq-eqb, eqb-true, false≢true, or_cases}
use Rattle.sctp_serial.specs.Serial.{tsn}
use Rattle.sctp_wire_types.specs.Ids.{number_of}
use Rattle.sctp_wire_types.specs.declared.chunk.ChunkPayloadData.{ChunkPayloadData}
use Rattle.sctp_receive_queues.specs.Messages.{ReceivedMessage, bytes_left, message_of as message_made_of}
use Rattle.sctp_receive_queues.specs.Pieces.{begins, ends, follows, has_tsn, is_complete}
use Rattle.sctp_receive_queues.proofs.Cuts.{bytes_of_pieces}
use Rattle.sctp_model.specs.Messages.{Message, Plan, message_at, message_of, place_at}
use Rattle.sctp_model.specs.Invariants.{IsPlanned}
use Rattle.sctp_courses.specs.Course.{times}
use Rattle.sctp_reset_fit.specs.Held.{offsets_in}
use Rattle.sctp_reset_fit.specs.Pieces.{ArePiecesOf, Order}
use Rattle.sctp_reset_fit.specs.Stands.{offset_of}
use Rattle.sctp_plans.specs.Laws.{AcceptedMessagesHaveTheirType, OtherOffsetsAreAnotherMessage}
use Rattle.sctp_plans.specs.Laws.{OtherPiecesAreAnotherMessage, WereAccepted, WhatIsMadeOfAPlanWasAccepted}
use Rattle.sctp_plans.specs.Laws.{WhatPassesAndIsMadeWasAccepted}
use Rattle.sctp_plans.specs.Plans.{IsAccepted, IsOfPlan}
use Rattle.sctp_plans.proofs.RestsOfMessages.{rest_is}

whole_from_the_first : (size : ℕ) (bytes : List ℕ) → drop (size * 0) bytes ≡ bytes
whole_from_the_first size bytes =
    ap (λ (n : ℕ). drop n bytes) (let none : size * 0 ≡ 0 = omega arith in none)

module _ (initial id : ℕ) (p : Plan) (P : ChunkPayloadData → Type 0)
    (so : (c : ChunkPayloadData) → P c → IsOfPlan initial p c) where
  complete_pieces : (over : ℕ → Bool) (m : ReceivedMessage) → IsPlanned p over → length p.places < 2 ^ 31
      → (order : Order) (pieces : List ChunkPayloadData) → ArePiecesOf P id order pieces → is_complete pieces ≡ true
      → m ≡ message_made_of pieces → IsAccepted initial id p m pieces
  complete_pieces over m h small order [] are complete same = absurd (false≢true complete)
  complete_pieces over m h small order (c ∷ cs) are complete same =
      let x = so c are.each.0.is_so in
      let stream : (place_at p x.offset).stream ≡ id = sym x.stream ∙ are.each.0.stream in
      let outer = and_parts (begins (c ∷ cs) && ends (c ∷ cs)) (follows None (c ∷ cs)) complete in
      let inner = and_parts (begins (c ∷ cs)) (ends (c ∷ cs)) outer.0 in
      let first : (place_at p x.offset).piece ≡ 0 =
      eqb-true (place_at p x.offset).piece 0 (sym x.first ∙ inner.0) in
      let r = rest_is initial id p over h P so order are.kind c cs small are.each are.ended_last inner.1 outer.1 in
      record {
        number = (place_at p x.offset).message;
        known =
            subst (λ (s : ℕ). (place_at p x.offset).message < length (p.accepted s)) stream
            (h.known x.offset x.known);
        bytes =
            ap bytes_left same ∙ bytes_of_pieces (c ∷ cs) ∙ r.bytes
            ∙ ap (λ (k : ℕ). drop (p.size * k) (message_of p (place_at p x.offset)).bytes) first
            ∙ whole_from_the_first p.size (message_of p (place_at p x.offset)).bytes
            ∙ ap (λ (s : ℕ). (message_at p s (place_at p x.offset).message).bytes) stream;
        mine = r.mine;
        all = λ o known there message. r.all o known there message (omega (arith, first));
      }

-- pieces of which P is so make up what was accepted, if none but pieces of the plan are so
pub were_accepted : (initial : ℕ) (p : Plan) (P : ChunkPayloadData → Type 0)
    → ((c : ChunkPayloadData) → P c → IsOfPlan initial p c) → WereAccepted initial p P
were_accepted initial p P so id over m h small made =
    complete_pieces initial id p P so over m h small made.order made.pieces made.are made.complete made.same

pub what_is_made_of_a_plan_was_accepted : WhatIsMadeOfAPlanWasAccepted
what_is_made_of_a_plan_was_accepted initial p = were_accepted initial p (IsOfPlan initial p) (λ c is. is)

pub what_passes_and_is_made_was_accepted : WhatPassesAndIsMadeWasAccepted
what_passes_and_is_made_was_accepted initial p test so =
    were_accepted initial p (λ (c : ChunkPayloadData). test c ≡ true) so

-- the message of a place is that of its stream with its number
message_there : (p : Plan) (o id number : ℕ) → (place_at p o).stream ≡ id → (place_at p o).message ≡ number
    → message_of p (place_at p o) ≡ message_at p id number
message_there p o id number stream message =
    ap (λ (s : ℕ). message_at p s (place_at p o).message) stream ∙ ap (message_at p id) message

pub accepted_messages_have_their_type : AcceptedMessagesHaveTheirType
accepted_messages_have_their_type initial id p m [] a complete same typed = absurd (false≢true complete)
accepted_messages_have_their_type initial id p m (c ∷ cs) a complete same typed =
    let s = a.mine.0 in
    ap (λ (z : ReceivedMessage). number_of z.payload_type) same
    ∙ typed.0 s.offset s.known s.is
    ∙ ap (λ (z : Message). z.payload_type) (message_there p s.offset id a.number s.stream s.message)

pub other_pieces_are_another_message : OtherPiecesAreAnotherMessage
other_pieces_are_another_message initial id p m n ps [] a b complete apart same = false≢true complete
other_pieces_are_another_message initial id p m n ps (d ∷ ds) a b complete apart same =
    let s = b.mine.0 in
    apart (tsn initial s.offset) (a.all s.offset s.known s.stream (s.message ∙ sym same))
    (b.all s.offset s.known s.stream s.message)

-- an offset that stands first, or later, among some is counted
counted_first : (x o : ℕ) (xs : List ℕ) → x ≡ o → 1 ≤ times o (x ∷ xs)
counted_first x o xs e =
    subst (λ (here : Bool). 1 ≤ (if here then 1 else 0) + times o xs) (sym (eq-eqb x o e))
    (let one : 1 ≤ 1 + times o xs = omega arith in one)

counted_later : (x o : ℕ) (xs : List ℕ) → 1 ≤ times o xs → 1 ≤ times o (x ∷ xs)
counted_later x o xs some =
    let more : 1 ≤ (if x == o then 1 else 0) + times o xs = omega (arith, some) in more

-- the offset of a TSN that one of the pieces has is one of their offsets
pub tsn_counted : (initial t : ℕ) (pieces : List ChunkPayloadData) → has_tsn t pieces ≡ true
    → 1 ≤ times (offset_of initial t) (offsets_in initial pieces)
tsn_counted initial t [] there = absurd (false≢true there)
tsn_counted initial t (c ∷ cs) there =
    ⊎_elim
    (λ (e : eqb c.tsn t ≡ true). counted_first (offset_of initial c.tsn) (offset_of initial t) (offsets_in initial cs)
    (ap (offset_of initial) (eqb-true c.tsn t e)))
    (λ (later : has_tsn t cs ≡ true).
    counted_later (offset_of initial c.tsn) (offset_of initial t) (offsets_in initial cs)
    (tsn_counted initial t cs later))
    (or_cases (eqb c.tsn t) (has_tsn t cs) there)

once_alone : (a b : ℕ) → 1 ≤ a → 1 ≤ b → a + b ≤ 1 → ⊥
once_alone a b one other few = omega arith

pub other_offsets_are_another_message : OtherOffsetsAreAnotherMessage
other_offsets_are_another_message initial id p m n ps qs a b complete once same =
    other_pieces_are_another_message initial id p m n ps qs a b complete
    (λ (t : ℕ) there here.
    once_alone (times (offset_of initial t) (offsets_in initial ps))
    (times (offset_of initial t) (offsets_in initial qs)) (tsn_counted initial t ps there)
    (tsn_counted initial t qs here) (once (offset_of initial t)))
    same
