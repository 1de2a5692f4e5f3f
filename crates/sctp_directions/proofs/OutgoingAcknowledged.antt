-- What an association finds acknowledged is acknowledged at the direction's sender, and a SACK acknowledges as many
-- offsets there as pieces here (RFC 4960 section 6.2.1).
use Rattle.std.proofs.Common.{zero, suc, List, [], ◌∷◌, ◌++◌, map, take, drop, Some, slice_get}
use Rattle.std.proofs.Common.{◌≡◌, sym, ap, ◌∙◌, ⊎_elim, ℕ, ◌+◌, ◌-◌, ◌<◌, ◌≤◌, ◌%◌, ◌^◌, ◌||◌, length, arith}
use Rattle.std.proofs.lemmas.Bool.{cases_lt, le-ltb, lt-ltb}
use Rattle.sctp_wire_types.specs.declared.chunk.ChunkSelectiveAck.{ChunkSelectiveAck}
use Rattle.sctp_received.specs.Received.{is_named}
use Rattle.sctp_model.specs.Packets.{Sack, mem, names}
use Rattle.sctp_model.specs.Machine.{Direction, Event, happens, reach}
use Rattle.sctp_model.specs.Invariants.{Invariant, IsHonest}
use Rattle.sctp_model.proofs.Lists.{all_get}
use Rattle.sctp_serial.specs.Serial.{tsn}
use Rattle.sctp_fit.specs.Incoming.{tsn_before}
use Rattle.sctp_fit.proofs.FlightAcknowledged as flight
use Rattle.sctp_fit.proofs.SentAgain.{flight_length}
use Rattle.sctp_directions.specs.Acts.{Act, Parts, done, is_acknowledged_by, sending, with_acknowledged, with_reports}
use Rattle.sctp_directions.proofs.OutgoingSentAgain.{same_piece}
use Rattle.sctp_fit.proofs.MarksSayNothing as marks
use Rattle.sctp_fit.specs.Sendings.{AreSamePieces, IsSamePiece}
use Rattle.sctp_outbound_queue.specs.declared.message.InFlight.{InFlight}
use Rattle.sctp_outbound_queue.specs.declared.message.Reports.{Reports}
use Rattle.sctp_outbound_queue.specs.Message.{is_reported, misses_after, reported_missing, stays_resent}
use Rattle.std.proofs.lemmas.Bool.{cond_both}
use Rattle.sctp_directions.specs.Laws.{ItsAcknowledgementsAreAlike, SacksMeanTheSame}
use Rattle.sctp_directions.specs.Reports.{SaysWhatWasTaken}
use Rattle.sctp_directions.proofs.IncomingTook.{reach_known}
use Rattle.sctp_fit.specs.Outgoing.{FitsOutgoing}
use Rattle.sctp_model.specs.Safe.{IsWithin}

-- What a SACK names

-- the offset that is j past the first piece in flight lies below the SACK's reach, or is one of the set above it, where
-- its cumulative TSN ack or its blocks acknowledge the piece at j
names_alike : (own base n j : ℕ) (x : Sack) (c : ChunkSelectiveAck) → SaysWhatWasTaken own x.reach x.above c
    → x.reach ≡ base + n → names x (base + j) ≡ is_acknowledged_by n c.gap_ack_blocks j
names_alike own base n j x c says far = ⊎_elim
    (λ (l : j < n).
    ap (λ b. b || mem (base + j) x.above) (lt-ltb (base + j) x.reach (omega arith))
    ∙ sym (ap (λ b. b || is_named (j + 1 - n) c.gap_ack_blocks) (lt-ltb j n l)))
    (λ (g : n ≤ j).
    ap (λ b. b || mem (base + j) x.above) (le-ltb (base + j) x.reach (omega arith))
    ∙ ap (λ o. mem o x.above) (let e : base + j ≡ x.reach + (j + 1 - n) - 1 = omega arith in e)
    ∙ sym (ap (λ b. b || is_named (j + 1 - n) c.gap_ack_blocks) (le-ltb j n g)
    ∙ says.set (j + 1 - n) (omega arith)))
    (cases_lt j n)

-- What it reports missing

-- a report that a piece is missing says nothing of it to the direction
same_reported : (r : Reports) (x : InFlight) → IsSamePiece x (reported_missing r x)
same_reported r x =
    cond_both (is_reported r x) (record x { misses = misses_after r x; resent = stays_resent r.among x }) x
    (IsSamePiece x) (λ b. same_piece x x.retransmit (misses_after r x) (stays_resent r.among x))
    (λ b. same_piece x x.retransmit x.misses x.resent)

all_same : (xs : List InFlight) → AreSamePieces xs xs
all_same [] = tt
all_same (x ∷ xs) = (same_piece x x.retransmit x.misses x.resent, all_same xs)

-- nor of the first ones in flight
first_reported : (r : Reports) (n : ℕ) (xs : List InFlight)
    → AreSamePieces xs (map (reported_missing r) (take n xs) ++ drop n xs)
first_reported r zero xs = all_same xs
first_reported r (suc n) [] = tt
first_reported r (suc n) (x ∷ xs) = (same_reported r x, first_reported r n xs)

module _ (p : Parts) (n k : ℕ) (missing : Reports) (c : ChunkSelectiveAck) (x : Sack) (w : Direction)
    (there : slice_get w.sacks k ≡ Some x) (says : SaysWhatWasTaken p.history.own x.reach x.above c)
    (far : x.reach ≡ w.sender.reach + n) (within : n ≤ length p.queue.in_flight) (inv : Invariant w)
    (f : FitsOutgoing (sending p) w) where
  -- What a SACK acknowledges of the pieces in flight, it acknowledges at the direction's sender.
  acknowledged_alike : FitsOutgoing (sending (done (Act.Acknowledged n c.gap_ack_blocks missing) p))
      (happens w (Event.SackComes k))
  acknowledged_alike =
      let left = with_acknowledged n c.gap_ack_blocks p in
      marks.marks_are_no_events (sending left) (with_reports missing left).queue.in_flight
      (happens w (Event.SackComes k)) (first_reported missing missing.count left.queue.in_flight)
      (flight.acknowledgements_are_alike (sending p) n k (is_acknowledged_by n c.gap_ack_blocks) x w there far within
      (λ j l. names_alike p.history.own w.sender.reach n j x c says far) inv f)

pub its_acknowledgements_are_alike : ItsAcknowledgementsAreAlike
its_acknowledgements_are_alike = acknowledged_alike

-- What its cumulative TSN ack means

-- two reaches of offsets that are known, and that are less than half the range of the TSNs
module _ (own at p l t : ℕ) (e : t ≡ tsn_before (tsn own p)) (f : t % 2 ^ 32 ≡ tsn_before (tsn own at))
    (within : at ≤ l) (known : p ≤ l) (small : l < 2 ^ 31) where
  same_reach : p ≡ at
  same_reach = omega arith

module _ (p : Parts) (n t k : ℕ) (x : Sack) (w : Direction) (there : slice_get w.sacks k ≡ Some x)
    (at : t ≡ tsn_before (tsn p.history.own x.reach))
    (is : t % 2 ^ 32 ≡ tsn_before (tsn p.history.own (p.history.base + n))) (some : n ≤ length p.queue.in_flight)
    (within : IsWithin w) (inv : Invariant w) (f : FitsOutgoing (sending p) w) where
  -- A SACK that was made acknowledges as many offsets as its cumulative TSN ack acknowledges pieces.
  sack_means_the_same : x.reach ≡ w.sender.reach + n
  sack_means_the_same =
      let honest =
      all_get (IsHonest w.receiver.taken w.receiver.passed (reach w.receiver)) w.sacks k x there inv.sacks in
      let known = reach_known w inv in
      let length_is =
      flight_length f.named w.sender.plan w.sender.acknowledged w.sender.gone w.sender.reach p.queue.in_flight
      f.flight in
      let base_is : p.history.base ≡ w.sender.reach = f.base in
      same_reach p.history.own (p.history.base + n) x.reach (length w.sender.plan.places) t at is (omega arith)
      (let r = honest.reach in omega arith) within.offsets
      ∙ ap (λ b. b + n) base_is

pub sacks_mean_the_same : SacksMeanTheSame
sacks_mean_the_same = sack_means_the_same
