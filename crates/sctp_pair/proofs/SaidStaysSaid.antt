-- What a side's packets say of its directions stays said while these go on.
use Rattle.std.proofs.Common.{◌≡◌, inl, inr, ℕ, Bool, false, List, Option, Some, None}
use Rattle.std.specs.Prelude.{slice_get}
use Rattle.sctp_wire_types.specs.declared.chunk.Chunk.{Chunk}
use Rattle.sctp_wire_types.specs.declared.chunk.Chunk.TheVariants as chunks
use Rattle.sctp_wire_types.specs.declared.chunk.ChunkForwardTsn.{ChunkForwardTsn}
use Rattle.sctp_wire_types.specs.declared.chunk.ChunkPayloadData.{ChunkPayloadData}
use Rattle.sctp_wire.specs.declared.packet.Packet.{Packet}
use Rattle.sctp_model.specs.Packets.{Data, Forward, Sack}
use Rattle.sctp_model.specs.Machine.{Direction}
use Rattle.sctp_model.proofs.Lists.{all_weaker}
use Rattle.sctp_sides.specs.Meeting.{IsNoEarlier, Stage}
use Rattle.sctp_sides.specs.SideLaws.{OfEachChunk}
use Rattle.sctp_sides.proofs.Proved.{greetings_stay_true, more_is_asked_past}
use Rattle.sctp_fit.specs.Forwards.{IsForwardSaid}
use Rattle.sctp_fit.specs.Incoming.{IsSaid}
use Rattle.sctp_directions.specs.Said.{Says}
use Rattle.sctp_assoc.specs.Replies.{packet_in}
use Rattle.sctp_plans.specs.Plans.{IsGrown}
use Rattle.sctp_plans.proofs.GrownPlans.{accepted_pieces_stay}
use Rattle.sctp_pair.specs.Fits.{AreSaid, IsPieceIfData, IsSaidBy}
use Rattle.sctp_pair.proofs.BetweenDirections.{SpansGoOn}

-- whatever DATA was given out in a direction stays given out
abbrev pub KeepsDatas : Direction → Direction → Type 0
KeepsDatas w v = (k : ℕ) (d : Data) → slice_get w.datas k ≡ Some d → slice_get v.datas k ≡ Some d

-- so does whatever FORWARD TSN was
abbrev pub KeepsForwards : Direction → Direction → Type 0
KeepsForwards w v = (k : ℕ) (f : Forward) → slice_get w.forwards k ≡ Some f → slice_get v.forwards k ≡ Some f

-- and whatever SACK its receiver made stays made
abbrev pub KeepsSacks : Direction → Direction → Type 0
KeepsSacks w v = (k : ℕ) (x : Sack) → slice_get w.sacks k ≡ Some x → slice_get v.sacks k ≡ Some x

-- A side's stage goes on, and so do its own direction and the one that comes to it.
pub record StageGoesOn (s t : Stage) (out coming out2 coming2 : Direction) : Type 0 where
  pub goes : IsNoEarlier s t
  pub datas : KeepsDatas out out2
  pub forwards : KeepsForwards out out2
  pub sacks : KeepsSacks coming coming2
  pub spans : SpansGoOn out out2
  pub plan : IsGrown out.sender.plan out2.sender.plan

-- what DATA and FORWARD TSNs say is said of streams within their span, and stays said of those that still are
pub data_stays_said : (initial : ℕ) {over over2 : ℕ → Bool} (c : ChunkPayloadData) (d : Data)
    → ((s : ℕ) → over2 s ≡ false → over s ≡ false) → IsSaid over initial c d → IsSaid over2 initial c d
data_stays_said initial c d spans said = record {
  stream = said.stream;
  tsn = said.tsn;
  carries = λ within. said.carries (spans d.stream within);
}

pub forward_stays_said : (initial : ℕ) {over over2 : ℕ → Bool} (c : ChunkForwardTsn) (f : Forward)
    → ((s : ℕ) → over2 s ≡ false → over s ≡ false) → IsForwardSaid over initial c f → IsForwardSaid over2 initial c f
forward_stays_said initial c f spans said = record {
  reach = said.reach;
  streams = λ s within. said.streams s (spans s within);
}

module _ (own peer : ℕ) {s t : Stage} {out coming out2 coming2 : Direction}
    (g : StageGoesOn s t out coming out2 coming2) where
  -- one chunk
  chunk_grows : (c : Chunk) → Says own peer out coming c → Says own peer out2 coming2 c
  chunk_grows (chunks.Data c) (k, d, there, said) =
      (k, d, g.datas k d there, data_stays_said own c d g.spans.within said)
  chunk_grows (chunks.SelectiveAck c) (k, x, there, made) = (k, x, g.sacks k x there, made)
  chunk_grows (chunks.ForwardTsn c) (k, f, there, said) =
      (k, f, g.forwards k f there, forward_stays_said own c f g.spans.within said)
  chunk_grows c h = absurd h

  -- DATA is still a piece of what was accepted
  piece_stays : (c : Chunk) → IsPieceIfData own out c → IsPieceIfData own out2 c
  piece_stays (chunks.Data c) piece = accepted_pieces_stay own out.sender.plan out2.sender.plan c g.plan piece
  piece_stays c piece = tt

  -- a chunk of the handshake says it of a later stage, too, and one that resets streams of more that are past their
  -- span
  said_by_grows : (c : Chunk) → IsSaidBy own peer s out coming c → IsSaidBy own peer t out2 coming2 c
  said_by_grows c (inl said) = inl (chunk_grows c said.0, piece_stays c said.1)
  said_by_grows c (inr (inl greets)) = inr (inl (greetings_stay_true own s t c g.goes greets))
  said_by_grows c (inr (inr resets)) = inr (inr (more_is_asked_past out.over out2.over c g.spans.over resets))

  -- one packet
  packet_grows : (packet : Option Packet) → OfEachChunk (IsSaidBy own peer s out coming) packet
      → OfEachChunk (IsSaidBy own peer t out2 coming2) packet
  packet_grows None h = h
  packet_grows (Some packet) h =
      all_weaker (IsSaidBy own peer s out coming) (IsSaidBy own peer t out2 coming2) packet.chunks said_by_grows h

  -- Packets that say what their directions have, and what is so of their side's handshake, say it of what these became.
  pub said_grows : (packets : List (List ℕ)) → AreSaid own peer s out coming packets
      → AreSaid own peer t out2 coming2 packets
  said_grows packets h =
      all_weaker
      (λ (bytes : List ℕ). OfEachChunk (IsSaidBy own peer s out coming) (packet_in bytes))
      (λ (bytes : List ℕ). OfEachChunk (IsSaidBy own peer t out2 coming2) (packet_in bytes))
      packets
      (λ bytes said. packet_grows (packet_in bytes) said)
      h
