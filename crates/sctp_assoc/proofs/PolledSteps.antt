-- What a poll gives out and gives up is what its acts say.
use Rattle.std.proofs.Common.{◌≡◌, refl, ◌∙◌, ℕ}
use Rattle.std.proofs.Common.{Bool, true, false, if◌then◌else◌, List, [], ◌∷◌, ◌++◌, length}
use Rattle.std.specs.List.{filter}
use Rattle.sctp_serial.specs.Serial.{tsn}
use Rattle.sctp_wire_types.specs.declared.chunk.ChunkPayloadData.{ChunkPayloadData}
use Rattle.sctp_wire.specs.DataPackets.{all_of, data_fits}
use Rattle.sctp_wire.proofs.DataCarried.{three_carried}
use Rattle.sctp_outbound_queue.specs.declared.message.Retransmission.{Retransmission}
use Rattle.sctp_outbound_queue.specs.declared.message.Retransmission.TheVariants as causes
use Rattle.sctp_streams.specs.Streams.{StreamMap, bytes_waiting}
use Rattle.sctp_inbound.specs.Handshake.{header_of}
use Rattle.sctp_outbound.specs.declared.abandonment.Reason.TheVariants as reasons
use Rattle.sctp_outbound.specs.declared.sender.Sender.{Sender}
use Rattle.sctp_outbound.specs.Abandonment.{dropped_by, expired_by, given_up_before, late_given_up, with_started}
use Rattle.sctp_outbound.specs.Sender.{marked_by, missing_by}
use Rattle.sctp_outbound.specs.Sender.{sent_new}
use Rattle.sctp_directions.specs.Acts.{Act, History}
use Rattle.sctp_assoc.specs.Gather.{AckIsReadAgain, both_of, data_after, data_polled, fast_polled, fast_sent}
use Rattle.sctp_assoc.specs.Gather.{late_abandoned, late_dropped, marks_polled, marks_sent, new_polled, new_sent}
use Rattle.sctp_assoc.specs.Gather.{spent_abandoned}
use Rattle.sctp_assoc.specs.Happened.{acks_given, acts_of_ack, acts_of_data_poll, acts_of_drops, acts_of_expiry}
use Rattle.sctp_assoc.specs.Happened.{acts_of_fast_poll, acts_of_giving_all_up, acts_of_late, acts_of_marks}
use Rattle.sctp_assoc.specs.Happened.{acts_of_marks_poll, acts_of_missing, acts_of_new, acts_of_new_poll, acts_of_spent}
use Rattle.sctp_assoc.specs.Happened.{acts_of_tail, acts_of_unsent}
use Rattle.sctp_assoc.specs.Leads.{parts}
use Rattle.sctp_assoc.specs.Shown.{Shown, uses_forward_tsn}
use Rattle.sctp_assoc.proofs.Dropping.{drops_give}
use Rattle.sctp_assoc.proofs.Giving.{Gives, both_parts, gives_none, gives_on, still_right, still_tied}
use Rattle.sctp_assoc.proofs.GivingUp.{giving_up, tail_gives}
use Rattle.sctp_assoc.proofs.MarksOutstanding.{AreMarkedRight}
use Rattle.sctp_assoc.proofs.PolledData.{marks_give, missing_give, new_gives_if}
use Rattle.sctp_assoc.proofs.StreamsWait.{drops_wait, given_up_waits, tail_waits}

-- Messages that are given up.

pub late_gives : (uses : Bool) (now : ℕ) (all : Sender × StreamMap) (h : History) → AreMarkedRight all.0.queue.in_flight
    → Gives (if uses then acts_of_expiry now all else []) (both_parts all h) (both_parts (expired_by uses now all) h) []
late_gives false now all h right = gives_none (both_parts all h)
late_gives true now all h right =
    let b : Sender × StreamMap = (with_started now all.0, all.1) in
    let start : Gives (Act.Started now ∷ []) (both_parts all h) (both_parts b h) [] =
    record { can = (tt, tt); there = refl; said = refl } in
    let late : Sender × StreamMap = late_given_up now all in
    let up =
    giving_up (length b.0.queue.in_flight) (reasons.Expired now) b h
    (still_right (Act.Started now ∷ []) (both_parts all h) (both_parts b h) [] start right) in
    gives_on (Act.Started now ∷ [])
    (acts_of_giving_all_up (reasons.Expired now) b ++ acts_of_tail now late.0) (both_parts all h) (both_parts b h)
    (both_parts (expired_by true now all) h) [] [] start
    (gives_on (acts_of_giving_all_up (reasons.Expired now) b) (acts_of_tail now late.0) (both_parts b h)
    (both_parts late h) (both_parts (expired_by true now all) h) [] [] up (tail_gives now late h))

pub spent_gives : (uses : Bool) (k : Retransmission) (all : Sender × StreamMap) (h : History)
    → AreMarkedRight all.0.queue.in_flight
    → Gives (if uses then acts_of_giving_all_up (reasons.Spent k) all else []) (both_parts all h)
    (both_parts (given_up_before uses k all) h) []
spent_gives false k all h right = gives_none (both_parts all h)
spent_gives true k all h right = giving_up (length all.0.queue.in_flight) (reasons.Spent k) all h right

pub drops_gives : (uses : Bool) (now : ℕ) (all : Sender × StreamMap) (h : History)
    → Gives (if uses then acts_of_drops (length all.0.queue.pending) now all else []) (both_parts all h)
    (both_parts (dropped_by uses now all) h) []
drops_gives false now all h = gives_none (both_parts all h)
drops_gives true now all h = drops_give now (length all.0.queue.pending) all h

drops_waits : (uses : Bool) (now : ℕ) (all : Sender × StreamMap)
    → bytes_waiting (dropped_by uses now all).1 ≡ bytes_waiting all.1
drops_waits false now all = refl
drops_waits true now all = drops_wait (length all.0.queue.pending) now all

-- the DATA of a poll, in order
abbrev pub data_of_poll : Shown → ℕ → List ChunkPayloadData
data_of_poll a now =
    marks_sent (late_abandoned a now) ++ fast_sent (marks_polled a now) ++ new_sent (fast_polled a now) now

-- A poll of DATA of an association that stands on a history.
module _ (a : Shown) (now : ℕ) (h : History) (tied : a.sender.queue.first_tsn ≡ tsn h.own h.base)
    (right : AreMarkedRight a.sender.queue.in_flight) where
  pub late : Gives (acts_of_late a now) (parts a h) (parts (late_abandoned a now) h) []
  late = late_gives (uses_forward_tsn a) now (both_of a) h right

  pub late_tied : (late_abandoned a now).sender.queue.first_tsn ≡ tsn h.own h.base
  late_tied = still_tied (acts_of_late a now) (parts a h) (parts (late_abandoned a now) h) [] late tied

  pub late_right : AreMarkedRight (late_abandoned a now).sender.queue.in_flight
  late_right = still_right (acts_of_late a now) (parts a h) (parts (late_abandoned a now) h) [] late right

  pub marks : Gives (acts_of_marks_poll (late_abandoned a now)) (parts (late_abandoned a now) h)
      (parts (marks_polled a now) h) (marks_sent (late_abandoned a now))
  marks =
      let c : Shown = late_abandoned a now in
      let b : Shown = spent_abandoned causes.Timer c in
      let up : Gives (acts_of_spent causes.Timer c) (parts c h) (parts b h) [] =
      spent_gives (uses_forward_tsn a) causes.Timer (both_of c) h late_right in
      gives_on (acts_of_spent causes.Timer c) (acts_of_marks b.sender) (parts c h) (parts b h)
      (parts (marks_polled a now) h) [] (marked_by b.sender) up
      (marks_give b.sender b.streams h
      (still_tied (acts_of_spent causes.Timer c) (parts c h) (parts b h) [] up late_tied)
      (still_right (acts_of_spent causes.Timer c) (parts c h) (parts b h) [] up late_right))

  pub marks_tied : (marks_polled a now).sender.queue.first_tsn ≡ tsn h.own h.base
  marks_tied =
      still_tied (acts_of_marks_poll (late_abandoned a now)) (parts (late_abandoned a now) h)
      (parts (marks_polled a now) h) (marks_sent (late_abandoned a now)) marks late_tied

  pub marks_right : AreMarkedRight (marks_polled a now).sender.queue.in_flight
  marks_right =
      still_right (acts_of_marks_poll (late_abandoned a now)) (parts (late_abandoned a now) h)
      (parts (marks_polled a now) h) (marks_sent (late_abandoned a now)) marks late_right

  pub fast : Gives (acts_of_fast_poll (marks_polled a now)) (parts (marks_polled a now) h) (parts (fast_polled a now) h)
      (fast_sent (marks_polled a now))
  fast =
      let c : Shown = marks_polled a now in
      let b : Shown = spent_abandoned causes.Fast c in
      let up : Gives (acts_of_spent causes.Fast c) (parts c h) (parts b h) [] =
      spent_gives (uses_forward_tsn a) causes.Fast (both_of c) h marks_right in
      gives_on (acts_of_spent causes.Fast c) (acts_of_missing b.sender) (parts c h) (parts b h)
      (parts (fast_polled a now) h) [] (missing_by b.sender) up
      (missing_give b.sender b.streams h
      (still_tied (acts_of_spent causes.Fast c) (parts c h) (parts b h) [] up marks_tied)
      (still_right (acts_of_spent causes.Fast c) (parts c h) (parts b h) [] up marks_right))

  pub fast_tied : (fast_polled a now).sender.queue.first_tsn ≡ tsn h.own h.base
  fast_tied =
      still_tied (acts_of_fast_poll (marks_polled a now)) (parts (marks_polled a now) h) (parts (fast_polled a now) h)
      (fast_sent (marks_polled a now)) fast marks_tied

  pub new : Gives (acts_of_new_poll (fast_polled a now) now) (parts (fast_polled a now) h) (parts (new_polled a now) h)
      (new_sent (fast_polled a now) now)
  new =
      let c : Shown = fast_polled a now in
      let b : Shown = late_dropped c now in
      let x = sent_new b.sender now in
      let drops : Gives (acts_of_unsent c now) (parts c h) (parts b h) [] =
      drops_gives (uses_forward_tsn a) now (both_of c) h in
      let bound : b.sender.queue.first_tsn ≡ tsn h.own h.base =
      still_tied (acts_of_unsent c now) (parts c h) (parts b h) [] drops fast_tied in
      gives_on (acts_of_unsent c now) (acts_of_new b.sender now) (parts c h) (parts b h) (parts (new_polled a now) h) []
      x.1 drops (new_gives_if now b.streams h _ b.sender bound)

  pub data_poll_gives : Gives (acts_of_data_poll a now) (parts a h) (parts (data_polled a now).0 h) (data_of_poll a now)
  unfolding data_polled
  data_poll_gives =
      gives_on
      (acts_of_late a now ++ acts_of_marks_poll (late_abandoned a now) ++ acts_of_fast_poll (marks_polled a now))
      (acts_of_new_poll (fast_polled a now) now) (parts a h) (parts (fast_polled a now) h) (parts (new_polled a now) h)
      (marks_sent (late_abandoned a now) ++ fast_sent (marks_polled a now)) (new_sent (fast_polled a now) now)
      (gives_on (acts_of_late a now ++ acts_of_marks_poll (late_abandoned a now))
      (acts_of_fast_poll (marks_polled a now)) (parts a h) (parts (marks_polled a now) h) (parts (fast_polled a now) h)
      (marks_sent (late_abandoned a now)) (fast_sent (marks_polled a now))
      (gives_on (acts_of_late a now) (acts_of_marks_poll (late_abandoned a now)) (parts a h)
      (parts (late_abandoned a now) h) (parts (marks_polled a now) h) [] (marks_sent (late_abandoned a now)) late
      marks)
      fast)
      new

-- what a poll's DATA leaves as it is
pub record IsSentBeside (a b : Shown) : Type 0 where
  pub receiver : b.receiver ≡ a.receiver
  pub handshake : b.handshake ≡ a.handshake
  pub acts : acts_of_ack b ≡ acts_of_ack a
  pub acks : acks_given b ≡ acks_given a
  pub again : AckIsReadAgain b → AckIsReadAgain a

-- what came and waits to be read stays, so the acknowledgement does
waits_beside : (a b : Shown) → b.receiver ≡ a.receiver → b.handshake ≡ a.handshake → b.resets ≡ a.resets
    → bytes_waiting b.streams ≡ bytes_waiting a.streams → IsSentBeside a b
waits_beside a b receiver handshake resets waits = record {
  receiver = receiver;
  handshake = handshake;
  acts = rw receiver refl;
  acks = rw (receiver, handshake, resets, waits) refl;
  again = λ again. rw (← receiver, ← handshake, ← resets, ← waits) again;
}

late_waits : (uses : Bool) (now : ℕ) (all : Sender × StreamMap)
    → bytes_waiting (expired_by uses now all).1 ≡ bytes_waiting all.1
late_waits false now all = refl
late_waits true now all =
    let b : Sender × StreamMap = (with_started now all.0, all.1) in
    tail_waits now (late_given_up now all)
    ∙ given_up_waits (length b.0.queue.in_flight) (reasons.Expired now) b

spent_waits : (uses : Bool) (k : Retransmission) (all : Sender × StreamMap)
    → bytes_waiting (given_up_before uses k all).1 ≡ bytes_waiting all.1
spent_waits false k all = refl
spent_waits true k all = given_up_waits (length all.0.queue.in_flight) (reasons.Spent k) all

pub data_poll_stays : (a : Shown) (now : ℕ) → IsSentBeside a (data_polled a now).0
unfolding data_polled
data_poll_stays a now =
    let uses = uses_forward_tsn a in
    waits_beside a (data_polled a now).0 refl refl refl
    (drops_waits uses now (both_of (fast_polled a now))
    ∙ spent_waits uses causes.Fast (both_of (marks_polled a now))
    ∙ spent_waits uses causes.Timer (both_of (late_abandoned a now))
    ∙ late_waits uses now (both_of a))

-- and so does the state
pub data_poll_state : (a : Shown) (now : ℕ) → (data_polled a now).0.state ≡ a.state
unfolding data_polled
data_poll_state a now = refl

-- a shutdown that goes on behind it changes nothing of that
pub data_after_stays : (a : Shown) (now : ℕ) → IsSentBeside a (data_after a now).0
data_after_stays a now =
    let same = data_poll_stays a now in
    record {
      receiver = same.receiver;
      handshake = same.handshake;
      acts = same.acts;
      acks = same.acks;
      again = same.again;
    }

-- and what its packets carry is its DATA
pub data_poll_carries : (a : Shown) (now : ℕ) → all_of (data_polled a now).1 ≡ filter data_fits (data_of_poll a now)
unfolding data_polled
data_poll_carries a now =
    three_carried (header_of a.handshake) (late_abandoned a now).sender.mtu (marks_sent (late_abandoned a now))
    (fast_sent (marks_polled a now)) (new_sent (fast_polled a now) now)
