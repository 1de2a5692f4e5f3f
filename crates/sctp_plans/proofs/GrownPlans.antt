-- Pieces of accepted messages stay pieces of them when the plan grows, and what is made of them is an accepted message
-- under its payload type.
use Rattle.std.proofs.Common.{◌≡◌, sym, ap, ◌∙◌, subst, arith, ℕ, ◌^◌, ◌*◌, ◌<◌, suc, eqb, leb, List, length}
use Rattle.std.specs.List.{AllByRecursion}
use Rattle.sctp_serial.specs.Serial.{tsn}
use Rattle.sctp_wire_types.specs.declared.chunk.ChunkPayloadData.{ChunkPayloadData}
use Rattle.sctp_wire_types.specs.declared.ids.PayloadProtocolIdentifier.{PayloadProtocolIdentifier}
use Rattle.sctp_model.specs.Messages.{Message, Place, Plan, is_last, message_of, piece_of, place_at}
use Rattle.sctp_model.proofs.Lists.{all_weaker}
use Rattle.sctp_reset_fit.specs.Pieces.{IsPieceOf, Order}
use Rattle.sctp_plans.specs.Laws.{AcceptedPiecesStay, WhatIsMadeOfAcceptedPiecesWasAccepted}
use Rattle.sctp_plans.specs.Plans.{HasItsType, IsAcceptedPiece, IsGrown}
use Rattle.sctp_plans.proofs.Proved.{accepted_messages_have_their_type, were_accepted}

-- What stays where a plan grew

module _ (p q : Plan) (g : IsGrown p q) (o : ℕ) (known : o < length p.places)
    (accepted : (place_at p o).message < length (p.accepted (place_at p o).stream)) where
  message_stays : message_of q (place_at q o) ≡ message_of p (place_at p o)
  message_stays = ap (message_of q) (g.places o known) ∙ g.messages _ _ accepted

  last_stays : is_last q (place_at q o) ≡ is_last p (place_at p o)
  last_stays =
      ap (λ (size : ℕ). leb (length (message_of q (place_at q o)).bytes) (size * suc (place_at q o).piece)) g.size
      ∙ ap (λ (m : Message). leb (length m.bytes) (p.size * suc (place_at q o).piece)) message_stays
      ∙ ap (λ (y : Place). leb (length (message_of p (place_at p o)).bytes) (p.size * suc y.piece)) (g.places o known)

  bytes_stay : piece_of q.size (message_of q (place_at q o)).bytes (place_at q o).piece
      ≡ piece_of p.size (message_of p (place_at p o)).bytes (place_at p o).piece
  bytes_stay =
      ap (λ (size : ℕ). piece_of size (message_of q (place_at q o)).bytes (place_at q o).piece) g.size
      ∙ ap (λ (m : Message). piece_of p.size m.bytes (place_at q o).piece) message_stays
      ∙ ap (λ (y : Place). piece_of p.size (message_of p (place_at p o)).bytes y.piece) (g.places o known)

pub accepted_pieces_stay : AcceptedPiecesStay
accepted_pieces_stay initial p q c g k =
    let x = k.of_plan in
    let o = x.offset in
    let same = g.places o x.known in
    record {
      of_plan = record {
        offset = o;
        known = (let before = x.known in let more = g.assigned in omega arith);
        is = x.is;
        sent = ap (λ (y : Place). y.marker) same ∙ x.sent;
        stream = x.stream ∙ sym (ap (λ (y : Place). y.stream) same);
        first = x.first ∙ sym (ap (λ (y : Place). eqb y.piece 0) same);
        last = x.last ∙ sym (last_stays p q g o x.known k.accepted);
        bytes = x.bytes ∙ sym (bytes_stay p q g o x.known k.accepted);
      };
      accepted =
          subst (λ (y : Place). y.message < length (q.accepted y.stream)) (sym same)
          (let before = k.accepted in
          let more = g.accepted (place_at p o).stream in
          let now : (place_at p o).message < length (q.accepted (place_at p o).stream) = omega arith in
          now);
      payload_type = k.payload_type ∙ sym (ap (λ (m : Message). m.payload_type)
          (message_stays p q g o x.known k.accepted));
    }

-- What is made of pieces of accepted messages

-- offsets that one TSN spells are the same, where few are assigned
same_offset : (initial o q : ℕ) → o < 2 ^ 31 → q < 2 ^ 31 → tsn initial o ≡ tsn initial q → o ≡ q
same_offset initial o q near later e = omega arith

module _ (initial : ℕ) (p : Plan) (small : length p.places < 2 ^ 31) where
  has_its_type : (c : ChunkPayloadData) → IsAcceptedPiece initial p c → HasItsType initial p c
  has_its_type c k o known is =
      let x = k.of_plan in
      let there = x.known in
      let same : x.offset ≡ o =
      same_offset initial x.offset o (omega (arith, there, small)) (omega (arith, known, small)) (sym x.is ∙ is) in
      k.payload_type ∙ ap (λ (z : ℕ). (message_of p (place_at p z)).payload_type) same

  have_their_types : (id : ℕ) (order : Order) (kind : PayloadProtocolIdentifier) (pieces : List ChunkPayloadData)
      → AllByRecursion (λ (c : ChunkPayloadData). IsPieceOf (IsAcceptedPiece initial p) id order kind c) pieces
      → AllByRecursion (λ (c : ChunkPayloadData). HasItsType initial p c) pieces
  have_their_types id order kind pieces each =
      all_weaker (λ (c : ChunkPayloadData). IsPieceOf (IsAcceptedPiece initial p) id order kind c)
      (λ (c : ChunkPayloadData). HasItsType initial p c) pieces (λ c is. has_its_type c is.is_so) each

pub what_is_made_of_accepted_pieces_was_accepted : WhatIsMadeOfAcceptedPiecesWasAccepted
what_is_made_of_accepted_pieces_was_accepted initial id p over m h small made =
    let a =
    were_accepted initial p (IsAcceptedPiece initial p) (λ (c : ChunkPayloadData) k. k.of_plan) id over m h small made in (
      a,
      accepted_messages_have_their_type initial id p m made.pieces a made.complete made.same
          (have_their_types initial p small id made.order made.are.kind made.pieces made.are.each),
    )
