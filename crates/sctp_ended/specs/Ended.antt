-- A generation of a stream that ended and is still read takes in nothing (RFC 6525 section 5.2.2).
use Rattle.std.specs.Prelude.{◌≡◌, ◌<◌, ℕ, Bool, true, false, List, Some}
use Rattle.sctp_wire_types.specs.declared.chunk.ChunkPayloadData.{ChunkPayloadData}
use Rattle.sctp_streams.specs.declared.event.Event.{Event}
use Rattle.sctp_streams.specs.Stream.{StreamView, is_read_half_open}
use Rattle.sctp_streams.specs.Streams.{stream_at}
use Rattle.sctp_reset_fit.specs.Laws.{Passes}
use Rattle.sctp_reset_fit.specs.Pieces.{HoldsOnly}
use Rattle.sctp_assoc.specs.Shown.{Shown}
use Rattle.sctp_sides.specs.Ascending.{StreamsAscend}
use Rattle.sctp_sides.specs.Generations.{HasNoGeneration}
use Rattle.sctp_sides.specs.OneSide.{Call, IsRun}
use Rattle.sctp_sides.specs.Repeats.{IsReadOfOld}

-- A generation of the stream ended and is still read: it is live under this number, its read half is open, boundaries
-- are kept of it, and it holds nothing but pieces of which P is so.
pub record IsEnded (P : ChunkPayloadData → Type 0) (id generation : ℕ) (a : Shown) : Type 0 where
  pub stream : StreamView
  pub live : stream_at a.streams id ≡ Some stream
  pub number : stream.stats.generation ≡ generation
  pub is_open : is_read_half_open stream.halves ≡ true
  pub marked : IsReadOfOld a id
  pub only : HoldsOnly P id stream.reassembly

-- While a generation that ended can still be read, nothing is taken into it any more: whatever test all pieces pass
-- that it holds, all pieces pass that it holds after every list of calls, whatever the peer sends, as long as it is
-- that generation and the association did not fail. The identifiers of the live streams ascend before, and the number
-- of the generation was given out, as in every association that a constructor made.
abbrev pub EndedGenerationsTakeInNothing : Type 0
EndedGenerationsTakeInNothing =
    (id generation : ℕ) (test : ChunkPayloadData → Bool) (calls : List Call) (told : List Event)
    (a b : Shown) (s : StreamView) → StreamsAscend a.streams → IsEnded (Passes test) id generation a
    → generation < a.streams.next_generation → IsRun calls told a b → b.failed ≡ false
    → stream_at b.streams id ≡ Some s → s.stats.generation ≡ generation → is_read_half_open s.halves ≡ true
    → IsEnded (Passes test) id generation b

-- So it is, with nothing more asked, from whatever a list of calls leaves of an association that began with no stream.
abbrev pub EndedGenerationsOfReachedSidesTakeInNothing : Type 0
EndedGenerationsOfReachedSidesTakeInNothing =
    (id generation : ℕ) (test : ChunkPayloadData → Bool) (before calls : List Call) (first later : List Event)
    (start a b : Shown) (s : StreamView) → HasNoGeneration start → IsRun before first start a → a.failed ≡ false
    → IsEnded (Passes test) id generation a → IsRun calls later a b → b.failed ≡ false
    → stream_at b.streams id ≡ Some s → s.stats.generation ≡ generation → is_read_half_open s.halves ≡ true
    → IsEnded (Passes test) id generation b
