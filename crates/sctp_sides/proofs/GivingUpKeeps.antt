-- What messages that are given up leave of a sender and its streams, and what a poll does.
use Rattle.std.proofs.Common.{◌≡◌, refl, ℕ, zero, suc, Bool, true, false}
use Rattle.std.proofs.Common.{length, Option, Some, None}
use Rattle.sctp_outbound_queue.specs.declared.message.Retransmission.{Retransmission}
use Rattle.sctp_outbound_queue.specs.declared.message.Retransmission.TheVariants as causes
use Rattle.sctp_streams.specs.Streams.{StreamMap}
use Rattle.sctp_outbound.specs.declared.abandonment.Reason.{Reason}
use Rattle.sctp_outbound.specs.declared.abandonment.Reason.TheVariants as reasons
use Rattle.sctp_outbound.specs.declared.sender.Sender.{Sender}
use Rattle.sctp_outbound.specs.Abandonment.{abandoned_if, abandoned_of, dropped_by, dropped_first, expired_by}
use Rattle.sctp_outbound.specs.Abandonment.{first_dropped, given_up_before, given_up_first, late_given_up}
use Rattle.sctp_outbound.specs.Abandonment.{next_given_up, tail_given_up, with_started}
use Rattle.sctp_outbound.specs.Sender.{after_marked, after_missing, sent_new}
use Rattle.sctp_assoc.specs.Gather.{both_of, data_polled, fast_polled, late_abandoned, late_dropped, marks_polled}
use Rattle.sctp_assoc.specs.Shown.{Shown, uses_forward_tsn}

-- Each step by which messages are given up at a moment keeps this of a sender and its streams.
pub record KeptByGivingUp (P : Sender × StreamMap → Type 0) (now : ℕ) : Type 0 where
  pub started : (x : Sender × StreamMap) → P x → P (with_started now x.0, x.1)
  pub abandoned : (index : ℕ) (x : Sender × StreamMap) → P x → P (abandoned_of index x)
  pub tail : (x : Sender × StreamMap) → P x → P (tail_given_up now x)
  pub dropped : (x : Sender × StreamMap) → P x → P (first_dropped now x)

-- So does each step by which DATA is given out; messages are given up where FORWARD TSN is in use.
pub record KeptByPolls (P : Sender × StreamMap → Type 0) (uses : Bool) (now : ℕ) : Type 0 where
  pub given_up : uses ≡ true → KeptByGivingUp P now
  pub marked : (x : Sender × StreamMap) → P x → P (after_marked x.0, x.1)
  pub missing : (x : Sender × StreamMap) → P x → P (after_missing x.0, x.1)
  pub new : (x : Sender × StreamMap) → P x → P ((sent_new x.0 now).0, x.1)

-- both of a pair are the pair
pub as_both : (P : Sender × StreamMap → Type 0) (x : Sender × StreamMap) → P x → P (x.0, x.1)
as_both P (s, m) h = h

module _ (P : Sender × StreamMap → Type 0) (now : ℕ) where
  one_kept : KeptByGivingUp P now → (o : Option ℕ) (x : Sender × StreamMap) → P x → P (abandoned_if o x)
  one_kept k None x h = h
  one_kept k (Some index) x h = k.abandoned index x h

  pub all_kept : KeptByGivingUp P now → (n : ℕ) (why : Reason) (x : Sender × StreamMap) → P x
      → P (given_up_first n why x)
  all_kept k zero why x h = h
  all_kept k (suc n) why x h =
      all_kept k n why (abandoned_if (next_given_up why x.0) x) (one_kept k (next_given_up why x.0) x h)

  pub late_kept : (uses : Bool) → (uses ≡ true → KeptByGivingUp P now) → (x : Sender × StreamMap) → P x
      → P (expired_by uses now x)
  late_kept false k x h = h
  late_kept true k x h =
      let b : Sender × StreamMap = (with_started now x.0, x.1) in
      (k refl).tail (late_given_up now x)
      (all_kept (k refl) (length b.0.queue.in_flight) (reasons.Expired now) b ((k refl).started x h))

  pub spent_kept : (uses : Bool) → (uses ≡ true → KeptByGivingUp P now) → (by : Retransmission)
      (x : Sender × StreamMap) → P x → P (given_up_before uses by x)
  spent_kept false k by x h = h
  spent_kept true k by x h = all_kept (k refl) (length x.0.queue.in_flight) (reasons.Spent by) x h

  first_kept : KeptByGivingUp P now → (n : ℕ) (x : Sender × StreamMap) → P x → P (dropped_first n now x)
  first_kept k zero x h = h
  first_kept k (suc n) x h = first_kept k n (first_dropped now x) (k.dropped x h)

  pub drops_kept : (uses : Bool) → (uses ≡ true → KeptByGivingUp P now) → (x : Sender × StreamMap) → P x
      → P (dropped_by uses now x)
  drops_kept false k x h = h
  drops_kept true k x h = first_kept (k refl) (length x.0.queue.pending) x h

-- A poll of DATA keeps what each of its steps keeps, before new DATA goes out
module _ (P : Sender × StreamMap → Type 0) (now : ℕ) (a : Shown)
    (given_up : uses_forward_tsn a ≡ true → KeptByGivingUp P now)
    (marked : (x : Sender × StreamMap) → P x → P (after_marked x.0, x.1))
    (missing : (x : Sender × StreamMap) → P x → P (after_missing x.0, x.1)) where
  late_poll_kept : P (both_of a) → P (both_of (late_abandoned a now))
  late_poll_kept h =
      let late = expired_by (uses_forward_tsn a) now (both_of a) in
      as_both P late (late_kept P now (uses_forward_tsn a) given_up (both_of a) h)

  marks_poll_kept : P (both_of a) → P (both_of (marks_polled a now))
  marks_poll_kept h =
      let b : Shown = late_abandoned a now in
      let spent = given_up_before (uses_forward_tsn a) causes.Timer (both_of b) in
      marked spent (spent_kept P now (uses_forward_tsn a) given_up causes.Timer (both_of b) (late_poll_kept h))

  fast_poll_kept : P (both_of a) → P (both_of (fast_polled a now))
  fast_poll_kept h =
      let b : Shown = marks_polled a now in
      let spent = given_up_before (uses_forward_tsn a) causes.Fast (both_of b) in
      missing spent (spent_kept P now (uses_forward_tsn a) given_up causes.Fast (both_of b) (marks_poll_kept h))

  pub drops_poll_before : P (both_of a) → P (both_of (late_dropped (fast_polled a now) now))
  drops_poll_before h =
      let b : Shown = fast_polled a now in
      let drops = dropped_by (uses_forward_tsn a) now (both_of b) in
      as_both P drops (drops_kept P now (uses_forward_tsn a) given_up (both_of b) (fast_poll_kept h))

-- and with it
module _ (P : Sender × StreamMap → Type 0) (now : ℕ) (a : Shown) (k : KeptByPolls P (uses_forward_tsn a) now) where
  pub drops_poll_kept : P (both_of a) → P (both_of (late_dropped (fast_polled a now) now))
  drops_poll_kept h = drops_poll_before P now a k.given_up k.marked k.missing h

  pub data_poll_kept : P (both_of a) → P (both_of (data_polled a now).0)
  unfolding data_polled
  data_poll_kept h = k.new (both_of (late_dropped (fast_polled a now) now)) (drops_poll_kept h)
