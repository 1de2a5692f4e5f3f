-- What waits at a side that follows a stream's course waits once.
use Rattle.std.proofs.Common.{◌≡◌, ℕ, ◌+◌, ◌≤◌, [], Option, Some, None, if◌then◌else◌, arith}
use Rattle.sctp_wire_types.specs.declared.chunk.ChunkPayloadData.{ChunkPayloadData}
use Rattle.sctp_streams.specs.Stream.{StreamView}
use Rattle.sctp_streams.specs.Streams.{stream_at}
use Rattle.sctp_model.specs.Packets.{mem}
use Rattle.sctp_model.proofs.Lists.{all_weaker}
use Rattle.sctp_courses.specs.Course.{Live, held_on, offsets_told, times}
use Rattle.sctp_reset_fit.specs.Held.{IsHeldOn, offsets_in_all, pieces_of_groups}
use Rattle.sctp_reset_fit.specs.Stands.{IsNear, LiveAs, offsets_of}
use Rattle.sctp_sides.specs.Intake.{held_by}
use Rattle.sctp_reset_fit.proofs.Piles.{empty_on}
use Rattle.sctp_course_sides.specs.Waiting.{WhatWaitsWaitsOnce}

-- what the stream holds, live or not, stands on what the course holds
held_as : (P : ChunkPayloadData → Type 0) (initial id : ℕ) (t : Option StreamView) (l : Option Live)
    → LiveAs (IsHeldOn P initial id) t l
    → IsHeldOn P initial id (held_by t) (held_on l)
held_as P initial id None None h = empty_on P initial id
held_as P initial id None (Some l) h = absurd h
held_as P initial id (Some t) None h = absurd h
held_as P initial id (Some t) (Some l) h = h.held

pub what_waits_waits_once : (P : ChunkPayloadData → Type 0) → WhatWaitsWaitsOnce P
what_waits_waits_once P initial id a h c follows =
    let stands = follows.stands.stands in
    let held = held_as P initial id (stream_at a.streams id) c.live stands.live in
    let counts = follows.stands.kept.counts in
    record {
      only = held.only;
      kept =
          all_weaker (λ (p : ChunkPayloadData). P p × IsNear initial p.tsn) P a.resets.generations.deferred (λ p k. k.0)
          stands.kept;
      made = held.made;
      whole = held.whole;
      complete = held.complete;
      once = λ o.
          let few = held.few o in
          let later = stands.deferred o in
          let once = counts.once o in
          together (if mem o c.taken then 1 else 0)
          (times o (offsets_in_all initial (pieces_of_groups (held_by (stream_at a.streams id)).ordered)))
          (times o (offsets_in_all initial (held_by (stream_at a.streams id)).unordered))
          (times o (offsets_in_all initial held.made)) (times o (offsets_of initial id a.resets.generations.deferred))
          (times o (offsets_told c.told)) (times o c.hand) (times o c.deferred)
          (times o (held_on c.live)) few later once;
    }
  where
    together : (most ordered unordered made kept told hand deferred held : ℕ) → ordered + unordered + made ≤ held
        → kept ≤ deferred → hand + deferred + held + told ≤ most → ordered + unordered + made + kept + told ≤ most
    together most ordered unordered made kept told hand deferred held few later once = omega arith
