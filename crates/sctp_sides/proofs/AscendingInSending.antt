-- What is so of the live streams, where each change of streams keeps it, stays so whatever a side does for its sending:
-- bytes are released, and messages are given up or dropped.
use Rattle.std.proofs.Common.{ℕ, zero, suc, ◌+◌, Bool, List, [], ◌∷◌, slice_get, Option, Some, None}
use Rattle.sctp_wire_types.specs.declared.chunk.GapAckBlock.{GapAckBlock}
use Rattle.sctp_parts.specs.Estimate.{Estimate}
use Rattle.sctp_received.specs.Received.{is_named}
use Rattle.sctp_streams.specs.Streams.{StreamMap}
use Rattle.sctp_outbound_queue.specs.declared.message.InFlight.{InFlight}
use Rattle.sctp_outbound_queue.specs.declared.queue.Released.{Released}
use Rattle.sctp_outbound_queue.specs.Expiry.{after_expiry, after_tail_expiry}
use Rattle.sctp_outbound_queue.specs.Message.{outstanding_bytes}
use Rattle.sctp_outbound_queue.specs.Outbound.{abandoned_at}
use Rattle.sctp_outbound.specs.declared.sender.Sender.{Sender}
use Rattle.sctp_outbound.specs.Abandonment.{abandoned_of, first_dropped, given_back_of, released_at, tail_given_up}
use Rattle.sctp_outbound.specs.GapAcks.{released_among, with_blocks}
use Rattle.sctp_outbound.specs.Sacks.{before_acknowledging, sack_taken}
use Rattle.sctp_outbound.specs.Sender.{acknowledged, after_first, streams_after, tsns_up_to}
use Rattle.sctp_resets.proofs.ListsOver.{of_chosen}
use Rattle.sctp_assoc.specs.Gather.{data_polled}
use Rattle.sctp_assoc.specs.Shown.{Shown, uses_forward_tsn}
use Rattle.sctp_sides.proofs.GivingUpKeeps.{KeptByGivingUp, KeptByPolls, data_poll_kept}
use Rattle.sctp_sides.proofs.AscendingSteps.{IsKept, given_back_in_kept, released_in_kept}

-- What is so of the live streams.
module _ (P : StreamMap → Type 0) (law : IsKept P) where
  -- A SACK

  after_holds : (o : Option InFlight) (m : StreamMap) → P m → P (streams_after o m)
  after_holds None m h = h
  after_holds (Some p) m h =
      released_in_kept P law m p.message.stream_identifier p.message.generation (outstanding_bytes p) h

  first_holds : (now : ℕ) (x : Sender × Estimate × StreamMap) → P x.2
      → P (after_first now x).2
  unfolding after_first
  first_holds now (s, e, m) h = after_holds (slice_get s.queue.in_flight 0) m h

  acknowledged_holds : (n now : ℕ) (x : Sender × Estimate × StreamMap) → P x.2
      → P (acknowledged n now x).2
  acknowledged_holds zero now x h = h
  acknowledged_holds (suc n) now x h = acknowledged_holds n now (after_first now x) (first_holds now x h)

  among_holds : (named : ℕ → Bool) (j : ℕ) (ps : List InFlight) (m : StreamMap) → P m
      → P (released_among named j ps m)
  among_holds named j [] m h = h
  among_holds named j (p ∷ ps) m h =
      among_holds named (suc j) ps _
      (of_chosen P (named j) (streams_after (Some p) m) m (after_holds (Some p) m h) h)

  blocks_hold : (now : ℕ) (blocks : List GapAckBlock) (x : Sender × Estimate × StreamMap) → P x.2
      → P (with_blocks now blocks x).2
  blocks_hold now blocks (s, e, m) h = among_holds (λ j. is_named (j + 1) blocks) 0 s.queue.in_flight m h

  pub sack_holds : (cumulative_tsn_ack : ℕ) (blocks : List GapAckBlock) (window now : ℕ) (s : Sender) (e : Estimate)
      (m : StreamMap) → P m
      → P (sack_taken cumulative_tsn_ack blocks window now s e m).2
  sack_holds cumulative_tsn_ack blocks window now s e m h =
      let n : ℕ = tsns_up_to s cumulative_tsn_ack in
      let x : Sender × Estimate × StreamMap = (before_acknowledging n window s, e, m) in
      blocks_hold now blocks (acknowledged n now x) (acknowledged_holds n now x h)

  -- Messages that are given up or dropped

  -- it is so of the streams beside a sender
  abbrev BesideSender : Sender × StreamMap → Type 0
  BesideSender x = P x.1

  released_at_holds : (o : Option Released) (m : StreamMap) → P m
      → P (released_at o m)
  released_at_holds None m h = h
  released_at_holds (Some r) m h =
      released_in_kept P law m r.message.stream_identifier r.message.generation r.bytes h

  abandoned_holds : (index : ℕ) (x : Sender × StreamMap) → BesideSender x → BesideSender (abandoned_of index x)
  unfolding abandoned_of
  abandoned_holds index (s, m) h = released_at_holds (abandoned_at s.queue index).1 m h

  tail_holds : (now : ℕ) (x : Sender × StreamMap) → BesideSender x → BesideSender (tail_given_up now x)
  unfolding tail_given_up
  tail_holds now (s, m) h = released_at_holds (after_tail_expiry now s.queue).1 m h

  given_back_of_holds : (o : Option Released) (m : StreamMap) → P m
      → P (given_back_of o m)
  given_back_of_holds None m h = h
  given_back_of_holds (Some r) m h =
      given_back_in_kept P law m r.message.stream_identifier r.message.generation r.message.unordered r.bytes h

  dropped_holds : (now : ℕ) (x : Sender × StreamMap) → BesideSender x → BesideSender (first_dropped now x)
  unfolding first_dropped
  dropped_holds now (s, m) h = given_back_of_holds (after_expiry now s.queue).1 m h

  kept_by_giving_up : (now : ℕ) → KeptByGivingUp BesideSender now
  kept_by_giving_up now = record {
    started = λ x h. h;
    abandoned = abandoned_holds;
    tail = tail_holds now;
    dropped = dropped_holds now;
  }

  -- so does a whole poll of DATA
  pub data_poll_holds : (a : Shown) (now : ℕ) → P a.streams
      → P (data_polled a now).0.streams
  data_poll_holds a now h =
      let kept : KeptByPolls BesideSender (uses_forward_tsn a) now = record {
        given_up = λ uses. kept_by_giving_up now;
        marked = λ x held. held;
        missing = λ x held. held;
        new = λ x held. held;
      } in
      data_poll_kept BesideSender now a kept h
