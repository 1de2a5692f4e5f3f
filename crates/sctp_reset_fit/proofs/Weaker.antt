-- Where something is so of each piece that a stream holds, or that a message was made of, so is all that follows from
-- it.
use Rattle.std.proofs.Common.{ℕ, List, Option, Some, None}
use Rattle.std.specs.List.{AllByRecursion}
use Rattle.sctp_model.proofs.Lists.{all_weaker}
use Rattle.sctp_wire_types.specs.declared.chunk.ChunkPayloadData.{ChunkPayloadData}
use Rattle.sctp_wire_types.specs.declared.ids.PayloadProtocolIdentifier.{PayloadProtocolIdentifier}
use Rattle.sctp_receive_queues.specs.Messages.{ReceivedMessage}
use Rattle.sctp_receive_queues.specs.Reassembly.{Group, Reassembly}
use Rattle.sctp_streams.specs.Stream.{StreamView}
use Rattle.sctp_streams.specs.Streams.{StreamMap, stream_at}
use Rattle.sctp_generations.specs.Generations.{GenerationsView}
use Rattle.sctp_reset_requests.specs.Request.{PeerRequestView}
use Rattle.sctp_resets.specs.Resets.{ResetsView}
use Rattle.sctp_courses.specs.Course.{Course, Live}
use Rattle.sctp_reset_fit.specs.Held.{AreAllOfOne, IsHeldOn}
use Rattle.sctp_reset_fit.specs.Keeping.{StandsBeside}
use Rattle.sctp_reset_fit.specs.Laws.{Stands}
use Rattle.sctp_reset_fit.specs.Pieces.{ArePiecesOf, HoldsOnly, IsMadeOf, IsPieceOf, Order}
use Rattle.sctp_reset_fit.specs.Stands.{IsNear, LiveAs}

-- What is so of pieces, and what follows from it.
module _ (P Q : ChunkPayloadData → Type 0) (weaker : (x : ChunkPayloadData) → P x → Q x) where
  piece_weaker : (id : ℕ) (order : Order) (kind : PayloadProtocolIdentifier) (x : ChunkPayloadData)
      → IsPieceOf P id order kind x → IsPieceOf Q id order kind x
  piece_weaker id order kind x h =
      record { is_so = weaker x h.is_so; stream = h.stream; stands = h.stands; typed = h.typed }

  pub pieces_weaker : (id : ℕ) (order : Order) (pieces : List ChunkPayloadData) → ArePiecesOf P id order pieces
      → ArePiecesOf Q id order pieces
  pieces_weaker id order pieces h = record {
    kind = h.kind;
    each =
        all_weaker (IsPieceOf P id order h.kind) (IsPieceOf Q id order h.kind) pieces
        (piece_weaker id order h.kind) h.each;
    begun_first = h.begun_first;
    ended_last = h.ended_last;
  }

  pub made_weaker : (id : ℕ) (m : ReceivedMessage) → IsMadeOf P id m → IsMadeOf Q id m
  made_weaker id m h = record {
    order = h.order;
    pieces = h.pieces;
    are = pieces_weaker id h.order h.pieces h.are;
    complete = h.complete;
    same = h.same;
  }

  pub stream_weaker : (id : ℕ) (q : Reassembly) → HoldsOnly P id q → HoldsOnly Q id q
  stream_weaker id q h = record {
    ordered =
        all_weaker (λ (g : Group). ArePiecesOf P id (Order.InOrder g.ssn) g.pieces)
        (λ (g : Group). ArePiecesOf Q id (Order.InOrder g.ssn) g.pieces) q.ordered
        (λ g. pieces_weaker id (Order.InOrder g.ssn) g.pieces) h.ordered;
    unordered =
        all_weaker (ArePiecesOf P id Order.OutOfOrder) (ArePiecesOf Q id Order.OutOfOrder) q.unordered
        (pieces_weaker id Order.OutOfOrder) h.unordered;
    complete = all_weaker (IsMadeOf P id) (IsMadeOf Q id) q.complete (made_weaker id) h.complete;
  }

  held_on_weaker : (initial id : ℕ) (q : Reassembly) (os : List ℕ) → IsHeldOn P initial id q os
      → IsHeldOn Q initial id q os
  held_on_weaker initial id q os h = record {
    only = stream_weaker id q h.only;
    made = h.made;
    whole =
        all_weaker (AreAllOfOne P id) (AreAllOfOne Q id) h.made
        (λ pieces all. (pieces_weaker id Order.OutOfOrder pieces all.0, all.1)) h.whole;
    complete = h.complete;
    few = h.few;
  }

  live_weaker : (initial id : ℕ) (t : Option StreamView) (l : Option Live) → LiveAs (IsHeldOn P initial id) t l
      → LiveAs (IsHeldOn Q initial id) t l
  live_weaker initial id None None h = h
  live_weaker initial id None (Some l) h = absurd h
  live_weaker initial id (Some t) None h = absurd h
  live_weaker initial id (Some t) (Some l) h = record {
    generation = h.generation;
    is_open = h.is_open;
    held = held_on_weaker initial id t.reassembly l.held h.held;
  }

  stands_weaker : (initial id : ℕ) (g : GenerationsView) (m : StreamMap) (o : Option PeerRequestView) (c : Course)
      → Stands P initial id g m o c → Stands Q initial id g m o c
  stands_weaker initial id g m o c h = record {
    live = live_weaker initial id (stream_at m id) c.live h.live;
    next = h.next;
    marks = h.marks;
    kept =
        all_weaker (λ (p : ChunkPayloadData). P p × IsNear initial p.tsn)
        (λ (p : ChunkPayloadData). Q p × IsNear initial p.tsn) g.deferred (λ p k. (weaker p k.0, k.1)) h.kept;
    deferred = h.deferred;
    waits = h.waits;
    once_named = h.once_named;
    once_live = h.once_live;
    once_marked = h.once_marked;
    open_where_marked = h.open_where_marked;
    near = h.near;
    still = h.still;
  }

  pub beside_weaker : (initial id : ℕ) (r : ResetsView) (m : StreamMap) (c : Course)
      → StandsBeside P initial id r m c → StandsBeside Q initial id r m c
  beside_weaker initial id r m c h = record {
    kept = h.kept;
    stands = stands_weaker initial id r.generations m r.peer.in_progress c h.stands;
    read_on = h.read_on;
    numbered = h.numbered;
  }
