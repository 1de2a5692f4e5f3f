-- What waits to be read at a side that follows a stream's course came, and waits once.
use Rattle.std.specs.Prelude.{◌≡◌, ◌≤◌, ◌+◌, ℕ, List, map, if◌then◌else◌}
use Rattle.std.specs.List.{AllByRecursion}
use Rattle.sctp_wire_types.specs.declared.chunk.ChunkPayloadData.{ChunkPayloadData}
use Rattle.sctp_receive_queues.specs.Messages.{message_of}
use Rattle.sctp_streams.specs.Streams.{stream_at}
use Rattle.sctp_model.specs.Packets.{mem}
use Rattle.sctp_courses.specs.Course.{Course, offsets_told, times}
use Rattle.sctp_directions.specs.Acts.{History}
use Rattle.sctp_reset_fit.specs.Held.{AreAllOfOne, offsets_in_all, pieces_of_groups}
use Rattle.sctp_reset_fit.specs.Pieces.{HoldsOnly}
use Rattle.sctp_reset_fit.specs.Stands.{offsets_of}
use Rattle.sctp_assoc.specs.Shown.{Shown}
use Rattle.sctp_sides.specs.Intake.{held_by}
use Rattle.sctp_course_sides.specs.Follows.{Follows}

-- The pieces that a stream holds, those that its complete messages were made of, and those that are kept for a later
-- generation of it stand on offsets that were taken in; each offset is waited on once at most, and not after it was
-- read. P is so of each of these pieces.
pub record WaitsOnce (P : ChunkPayloadData → Type 0) (initial id : ℕ) (a : Shown) (c : Course) : Type 0 where
  pub only : HoldsOnly P id (held_by (stream_at a.streams id))
  pub kept : AllByRecursion P a.resets.generations.deferred
  pub made : List (List ChunkPayloadData)
  pub whole : AllByRecursion (AreAllOfOne P id) made
  pub complete : (held_by (stream_at a.streams id)).complete ≡ map message_of made
  pub once : (o : ℕ)
      → times o (offsets_in_all initial (pieces_of_groups (held_by (stream_at a.streams id)).ordered))
      + times o (offsets_in_all initial (held_by (stream_at a.streams id)).unordered)
      + times o (offsets_in_all initial made) + times o (offsets_of initial id a.resets.generations.deferred)
      + times o (offsets_told c.told) ≤ (if mem o c.taken then 1 else 0)

abbrev pub WhatWaitsWaitsOnce : (ChunkPayloadData → Type 0) → Type 0
WhatWaitsWaitsOnce P = (initial id : ℕ) (a : Shown) (h : History) (c : Course) → Follows P initial id a h c
    → WaitsOnce P initial id a c
