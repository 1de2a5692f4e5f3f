-- What is made of DATA that a side gave out is a message that this side accepted.
use Rattle.std.proofs.Common.{sym, subst, inl, inr, ℕ, List, Option, Some, None}
use Rattle.sctp_wire_types.specs.declared.chunk.Chunk.TheVariants as chunks
use Rattle.sctp_wire_types.specs.declared.chunk.ChunkPayloadData.{ChunkPayloadData}
use Rattle.sctp_wire.specs.declared.packet.Packet.{Packet}
use Rattle.sctp_model.specs.Machine.{Direction}
use Rattle.sctp_model.specs.Safe.{IsWithin}
use Rattle.sctp_model.proofs.Lists.{all_get}
use Rattle.sctp_reset_fit.proofs.Weaker.{pieces_weaker}
use Rattle.sctp_plans.specs.Plans.{IsAcceptedPiece}
use Rattle.sctp_plans.proofs.GrownPlans.{what_is_made_of_accepted_pieces_was_accepted}
use Rattle.sctp_directions.specs.Between.{IsSound}
use Rattle.sctp_sides.specs.Meeting.{Stage}
use Rattle.sctp_sides.specs.SideLaws.{OfEachChunk}
use Rattle.sctp_assoc.specs.Replies.{packet_in}
use Rattle.sctp_steps.specs.Ends.{Ends}
use Rattle.sctp_boundaries.specs.Between.{HasPiece, IsGivenOut}
use Rattle.sctp_pair.specs.Across.{WasAccepted, WhatWasGivenOutWasAccepted}
use Rattle.sctp_pair.specs.Fits.{AreSaid, IsSaidBy}

module _ (own peer : ℕ) (s : Stage) (out coming : Direction) where
  -- DATA that a side may say is a piece of what it accepted
  said_piece : (c : ChunkPayloadData) → IsSaidBy own peer s out coming (chunks.Data c)
      → IsAcceptedPiece own out.sender.plan c
  said_piece c (inl said) = said.1
  said_piece c (inr (inl greets)) = absurd greets
  said_piece c (inr (inr resets)) = absurd resets

  piece_of_packet : (packet : Option Packet) (c : ChunkPayloadData)
      → OfEachChunk (IsSaidBy own peer s out coming) packet → HasPiece packet c → IsAcceptedPiece own out.sender.plan c
  piece_of_packet None c said has = absurd has
  piece_of_packet (Some packet) c said (k, there) =
      said_piece c (all_get (IsSaidBy own peer s out coming) packet.chunks k (chunks.Data c) there said)

  given_out_piece : (packets : List (List ℕ)) → AreSaid own peer s out coming packets → (c : ChunkPayloadData)
      → IsGivenOut packets c → IsAcceptedPiece own out.sender.plan c
  given_out_piece packets said c (number, bytes, there, has) =
      piece_of_packet (packet_in bytes) c
      (all_get (λ (z : List ℕ). OfEachChunk (IsSaidBy own peer s out coming) (packet_in z)) packets number bytes there
      said) has

  was_accepted : (packets : List (List ℕ)) → AreSaid own peer s out coming packets → IsSound out → IsWithin out
      → WasAccepted packets own out.sender.plan
  was_accepted packets said sound within id m made =
      what_is_made_of_accepted_pieces_was_accepted own id out.sender.plan out.over m sound.invariant.planned
      within.offsets
      (record {
        order = made.order;
        pieces = made.pieces;
        are =
            pieces_weaker (IsGivenOut packets) (IsAcceptedPiece own out.sender.plan) (given_out_piece packets said) id
            made.order made.pieces made.are;
        complete = made.complete;
        same = made.same;
      })

pub what_was_given_out_was_accepted : WhatWasGivenOutWasAccepted
what_was_given_out_was_accepted p w fits = (
  was_accepted w.initial_a w.initial_b fits.stand.stage_a w.ab w.ba p.packets_a
      (subst (λ (z : Ends). AreSaid w.initial_a w.initial_b fits.stand.stage_a w.ab w.ba z.packets_a)
      (sym fits.stand.is) fits.stand.said_a) fits.stand.sound_ab fits.within.0,
  was_accepted w.initial_b w.initial_a fits.stand.stage_b w.ba w.ab p.packets_b
      (subst (λ (z : Ends). AreSaid w.initial_b w.initial_a fits.stand.stage_b w.ba w.ab z.packets_b)
      (sym fits.stand.is) fits.stand.said_b) fits.stand.sound_ba fits.within.1,
)
