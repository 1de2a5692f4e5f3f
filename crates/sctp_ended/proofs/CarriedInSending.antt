-- What a side does for its sending, bytes that are released, messages that are given up or dropped, carries what is so
-- of the streams and stays so where one is changed and nothing more waits of it.
use Rattle.std.proofs.Common.{ℕ, zero, suc, ◌+◌, Bool, true, false, cond, List, [], ◌∷◌, slice_get, Option, Some, None}
use Rattle.sctp_wire_types.specs.declared.chunk.GapAckBlock.{GapAckBlock}
use Rattle.sctp_outbound_queue.specs.declared.message.InFlight.{InFlight}
use Rattle.sctp_outbound_queue.specs.declared.queue.Released.{Released}
use Rattle.sctp_outbound_queue.specs.Expiry.{after_expiry, after_tail_expiry}
use Rattle.sctp_outbound_queue.specs.Message.{outstanding_bytes}
use Rattle.sctp_outbound_queue.specs.Outbound.{abandoned_at}
use Rattle.sctp_received.specs.Received.{is_named}
use Rattle.sctp_streams.specs.Stream.{StreamView, released_from, with_ssn_given_back}
use Rattle.sctp_streams.specs.Streams.{StreamMap, changed_stream, given_back_in, is_generation, released_in, stream_at}
use Rattle.sctp_parts.specs.Estimate.{Estimate}
use Rattle.sctp_outbound.specs.declared.sender.Sender.{Sender}
use Rattle.sctp_outbound.specs.Abandonment.{abandoned_of, first_dropped, given_back_of, released_at, tail_given_up}
use Rattle.sctp_outbound.specs.GapAcks.{released_among, with_blocks}
use Rattle.sctp_outbound.specs.Sacks.{before_acknowledging, sack_taken}
use Rattle.sctp_outbound.specs.Sender.{acknowledged, after_first, streams_after, tsns_up_to}
use Rattle.sctp_resets.proofs.ListsOver.{of_chosen}
use Rattle.sctp_assoc.specs.Gather.{data_polled}
use Rattle.sctp_assoc.specs.Shown.{Shown, uses_forward_tsn}
use Rattle.sctp_sides.proofs.GivingUpKeeps.{KeptByGivingUp, KeptByPolls, data_poll_kept}
use Rattle.sctp_ended.proofs.Carried.{IsMild, given_back_is_mild, released_is_mild}

-- What is so of the streams.
module _ (S : StreamMap → Type 0)
    (changes : (m : StreamMap) (change : StreamView → StreamView) (id : ℕ) → IsMild change → S m
    → S (changed_stream change m id)) where
  -- Bytes are released

  released_carries : (m : StreamMap) (k number bytes : ℕ) → S m → S (released_in m k number bytes)
  released_carries m k number bytes h =
      of_chosen S (is_generation (stream_at m k) number) _ m
      (changes m (λ s. released_from s bytes) k (released_is_mild bytes) h) h

  given_back_carries : (m : StreamMap) (k number : ℕ) (unordered : Bool) (bytes : ℕ) → S m
      → S (given_back_in m k number unordered bytes)
  given_back_carries m k number unordered bytes h =
      of_chosen S (is_generation (stream_at m k) number) _ m (by unordered) h
    where
      by : (u : Bool) → S (changed_stream (λ s. released_from (cond u s (with_ssn_given_back s)) bytes) m k)
      by true = changes m (λ s. released_from s bytes) k (released_is_mild bytes) h
      by false = changes m (λ s. released_from (with_ssn_given_back s) bytes) k (given_back_is_mild bytes) h

  -- A SACK

  after_carries : (o : Option InFlight) (m : StreamMap) → S m
      → S (streams_after o m)
  after_carries None m h = h
  after_carries (Some p) m h =
      released_carries m p.message.stream_identifier p.message.generation
      (outstanding_bytes p) h

  first_carries : (now : ℕ) (x : Sender × Estimate × StreamMap) → S x.2
      → S (after_first now x).2
  unfolding after_first
  first_carries now (s, e, m) h = after_carries (slice_get s.queue.in_flight 0) m h

  acknowledged_carry : (n now : ℕ) (x : Sender × Estimate × StreamMap) → S x.2
      → S (acknowledged n now x).2
  acknowledged_carry zero now x h = h
  acknowledged_carry (suc n) now x h = acknowledged_carry n now (after_first now x) (first_carries now x h)

  among_carry : (named : ℕ → Bool) (j : ℕ) (ps : List InFlight) (m : StreamMap) → S m
      → S (released_among named j ps m)
  among_carry named j [] m h = h
  among_carry named j (p ∷ ps) m h =
      among_carry named (suc j) ps _
      (of_chosen S (named j) (streams_after (Some p) m) m
      (after_carries (Some p) m h) h)

  blocks_carry : (now : ℕ) (blocks : List GapAckBlock) (x : Sender × Estimate × StreamMap)
      → S x.2
      → S (with_blocks now blocks x).2
  blocks_carry now blocks (s, e, m) h = among_carry (λ j. is_named (j + 1) blocks) 0 s.queue.in_flight m h

  pub sack_taken_carries : (cumulative_tsn_ack : ℕ) (blocks : List GapAckBlock) (window now : ℕ) (s : Sender)
      (e : Estimate) (m : StreamMap) → S m
      → S (sack_taken cumulative_tsn_ack blocks window now s e m).2
  sack_taken_carries cumulative_tsn_ack blocks window now s e m h =
      let n : ℕ = tsns_up_to s cumulative_tsn_ack in
      let x : Sender × Estimate × StreamMap = (before_acknowledging n window s, e, m) in
      blocks_carry now blocks (acknowledged n now x) (acknowledged_carry n now x h)

  -- Messages that are given up or dropped

  -- of the streams beside a sender
  abbrev BesideIs : Sender × StreamMap → Type 0
  BesideIs x = S x.1

  released_at_carries : (o : Option Released) (m : StreamMap) → S m
      → S (released_at o m)
  released_at_carries None m h = h
  released_at_carries (Some r) m h =
      released_carries m r.message.stream_identifier r.message.generation r.bytes h

  abandoned_carries : (index : ℕ) (x : Sender × StreamMap) → BesideIs x → BesideIs (abandoned_of index x)
  unfolding abandoned_of
  abandoned_carries index (s, m) h = released_at_carries (abandoned_at s.queue index).1 m h

  tail_carries : (now : ℕ) (x : Sender × StreamMap) → BesideIs x → BesideIs (tail_given_up now x)
  unfolding tail_given_up
  tail_carries now (s, m) h = released_at_carries (after_tail_expiry now s.queue).1 m h

  given_back_of_carries : (o : Option Released) (m : StreamMap) → S m
      → S (given_back_of o m)
  given_back_of_carries None m h = h
  given_back_of_carries (Some r) m h =
      given_back_carries m r.message.stream_identifier r.message.generation
      r.message.unordered r.bytes h

  dropped_carries : (now : ℕ) (x : Sender × StreamMap) → BesideIs x → BesideIs (first_dropped now x)
  unfolding first_dropped
  dropped_carries now (s, m) h = given_back_of_carries (after_expiry now s.queue).1 m h

  kept_by_giving_up : (now : ℕ) → KeptByGivingUp BesideIs now
  kept_by_giving_up now = record {
    started = λ x h. h;
    abandoned = abandoned_carries;
    tail = tail_carries now;
    dropped = dropped_carries now;
  }

  -- so does a whole poll of DATA
  pub data_poll_carries : (a : Shown) (now : ℕ) → S a.streams
      → S (data_polled a now).0.streams
  data_poll_carries a now h =
      let kept : KeptByPolls BesideIs (uses_forward_tsn a) now = record {
        given_up = λ uses. kept_by_giving_up now;
        marked = λ x held. held;
        missing = λ x held. held;
        new = λ x held. held;
      } in
      data_poll_kept BesideIs now a kept h
