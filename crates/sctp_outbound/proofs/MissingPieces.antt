-- What a SACK reports missing, by what its parts acknowledge.
use Rattle.std.proofs.Common.{◌≡◌, ℕ, zero, suc, ◌+◌, Bool, true, false, not, ◌&&◌, ◌||◌, ◌==◌, List, [], ◌∷◌, drop}
use Rattle.std.proofs.Common.{length, nat_le, nat_lt, take, Option, Some, None, if◌then◌else◌, is_some, slice_get}
use Rattle.std.proofs.Common.{refl, ap, sym, ◌∙◌, true≢false}
use Rattle.std.specs.List.{list_any}
use Rattle.sctp_wire_types.specs.Config.{is_rfc}
use Rattle.sctp_wire_types.specs.declared.chunk.GapAckBlock.{GapAckBlock}
use Rattle.sctp_received.specs.Received.{is_named}
use Rattle.sctp_parts.specs.Estimate.{Estimate}
use Rattle.sctp_streams.specs.Streams.{StreamMap}
use Rattle.sctp_outbound_queue.specs.declared.message.Among.TheVariants as amongs
use Rattle.sctp_outbound_queue.specs.declared.message.InFlight.{InFlight}
use Rattle.sctp_outbound_queue.specs.declared.message.Reports.{Reports}
use Rattle.sctp_outbound_queue.specs.Message.{is_last_report}
use Rattle.sctp_outbound_queue.specs.Outbound.{Outbound, any_missing, marked_of, next_tsn_of, outstanding_of}
use Rattle.sctp_outbound_queue.specs.Outbound.{with_missing, without_first_of}
use Rattle.sctp_outbound.specs.declared.growth.Brought.{Brought}
use Rattle.sctp_outbound.specs.declared.progress.Progress.{Progress}
use Rattle.sctp_outbound.specs.declared.recovery.Heard.{Heard}
use Rattle.sctp_outbound.specs.declared.sender.Sender.{Sender}
use Rattle.sctp_outbound.specs.Congestion.{halved}
use Rattle.sctp_outbound.specs.GapAcks.{acked_among, with_blocks}
use Rattle.sctp_outbound.specs.Recovery.{acknowledges_fresh, ends_round, exit_of, goes_on, in_front_of, is_among_last}
use Rattle.sctp_outbound.specs.Recovery.{is_lost}
use Rattle.sctp_outbound.specs.Recovery.{is_made_due, misses_counted, missing_of, past_recovery, recovers, reports_by}
use Rattle.sctp_outbound.specs.Recovery.{tells_nothing}
use Rattle.sctp_outbound.specs.Sacks.{all_acknowledged, before_acknowledging, brought_by, fresh_of, grown_by, heard_by}
use Rattle.sctp_outbound.specs.Sacks.{newest_of, progress_of, reach_of, reported_by, reports_of, sack_taken}
use Rattle.sctp_outbound.specs.Sender.{acknowledged, after_first, estimate_after_first, sender_after}
use Rattle.sctp_outbound.specs.Sender.{sender_after_first, streams_after_first, tsns_up_to, with_in_flight}
use Rattle.sctp_outbound.proofs.NewPieces.{left_behind}

-- all that a SACK does, where it acknowledges so many, brings this, and tells this of what is missing
abbrev pub done_by : ℕ → Brought → Heard → List GapAckBlock → ℕ → ℕ → Sender → Estimate → StreamMap
    → Sender × Estimate × StreamMap
done_by n brought heard blocks window now s e m =
    reported_by heard (grown_by brought (all_acknowledged n blocks window now s e m))

-- What a SACK reports missing is decided by what it leaves in flight, and by what of the sender no acknowledgement
-- changes.

-- by all that it rests on: the rules, whether a loss is recovered from, how many wait, fly and are outstanding, and how
-- much a packet holds
abbrev reports_from : Heard → Bool → Bool → ℕ → ℕ → ℕ → ℕ → Reports
reports_from h rfc recovering waiting flying outstanding payload = record {
  count =
      (if not recovering then in_front_of h.newest else
      if rfc then (if h.moved then h.reach else in_front_of h.newest) else
      if h.moved then flying else 0);
  among =
      (if not rfc then amongs.Outstanding else
      if h.is_round_over && is_among_last h.newest h.fresh flying then amongs.Flying else amongs.NotResent);
  enough =
      (if rfc && (not (nat_lt 0 waiting) && (nat_le flying h.reach && nat_le outstanding payload)) then 1 else 3);
}

same_reports : (h : Heard) (s t : Sender) → s.recovery_exit ≡ t.recovery_exit → s.profile ≡ t.profile
    → s.max_payload_size ≡ t.max_payload_size → s.queue.pending ≡ t.queue.pending
    → s.queue.in_flight ≡ t.queue.in_flight → reports_by h s ≡ reports_by h t
same_reports h s t exit profile payload pending pieces =
    ap (λ z. reports_from h (is_rfc s.profile) (is_some z) (length s.queue.pending) (length s.queue.in_flight)
    (outstanding_of s.queue.in_flight) s.max_payload_size) exit
    ∙ ap (λ z. reports_from h (is_rfc z) (recovers t) (length s.queue.pending) (length s.queue.in_flight)
    (outstanding_of s.queue.in_flight) s.max_payload_size) profile
    ∙ ap (λ z. reports_from h (is_rfc t.profile) (recovers t) (length s.queue.pending) (length s.queue.in_flight)
    (outstanding_of s.queue.in_flight) z) payload
    ∙ ap (λ z. reports_from h (is_rfc t.profile) (recovers t) (length z) (length s.queue.in_flight)
    (outstanding_of s.queue.in_flight) t.max_payload_size) pending
    ∙ ap (λ z. reports_from h (is_rfc t.profile) (recovers t) (length t.queue.pending) (length z)
    (outstanding_of z) t.max_payload_size) pieces

-- beside what is in flight, what it reports missing rests on the same of both
abbrev Stays : Sender → Sender → Type 0
Stays s t =
    (s.recovery_exit ≡ t.recovery_exit) × (s.profile ≡ t.profile) × (s.max_payload_size ≡ t.max_payload_size)
    × (s.queue.pending ≡ t.queue.pending)

pending_stays : (xs : List InFlight) (q : Outbound) → (without_first_of xs q).pending ≡ q.pending
pending_stays [] q = refl
pending_stays (x ∷ xs) q = refl

first_stays : (o : Option InFlight) (s : Sender) → Stays (sender_after o s) s
first_stays None s = (refl, refl, refl, refl)
first_stays (Some p) s = (refl, refl, refl, pending_stays s.queue.in_flight s.queue)

sender_stays : (n now : ℕ) (s : Sender) (e : Estimate) (m : StreamMap) → Stays (acknowledged n now (s, e, m)).0 s
unfolding after_first
sender_stays zero now s e m = (refl, refl, refl, refl)
sender_stays (suc n) now s e m =
    let first = first_stays (slice_get s.queue.in_flight 0) s in
    let rest = sender_stays n now (sender_after_first s) (estimate_after_first s now e) (streams_after_first s m) in
    (rest.0 ∙ first.0, rest.1 ∙ first.1, rest.2 ∙ first.2, rest.3 ∙ first.3)

-- none of them goes by an acknowledgement
pub acked_length : (named : ℕ → Bool) (j : ℕ) (xs : List InFlight) → length (acked_among named j xs) ≡ length xs
acked_length named j [] = refl
acked_length named j (x ∷ xs) = ap suc (acked_length named (suc j) xs)

blocks_stay : (now : ℕ) (blocks : List GapAckBlock) (x : Sender × Estimate × StreamMap)
    → Stays (with_blocks now blocks x).0 x.0
blocks_stay now blocks (s, e, m) = (refl, refl, refl, refl)

blocks_pieces : (now : ℕ) (blocks : List GapAckBlock) (x : Sender × Estimate × StreamMap)
    → (with_blocks now blocks x).0.queue.in_flight
    ≡ acked_among (λ j. is_named (j + 1) blocks) 0 x.0.queue.in_flight
blocks_pieces now blocks (s, e, m) = refl

-- what it brings, by its parts
pub brought_is : {n k before : ℕ} {p : Progress} (s : Sender) (cumulative_tsn_ack : ℕ) (blocks : List GapAckBlock)
    → n ≡ tsns_up_to s cumulative_tsn_ack → p ≡ progress_of s cumulative_tsn_ack blocks
    → k ≡ marked_of s.queue.in_flight → before ≡ outstanding_of s.queue.in_flight
    → record { moved = nat_lt 0 n; any_new = p.any_new; any_marked = nat_lt 0 k; before = before }
    ≡ brought_by s cumulative_tsn_ack blocks
brought_is s cumulative_tsn_ack blocks count progress marks bytes = rw (count, progress, marks, bytes) refl

-- A SACK is taken in.
module _ (s : Sender) (cumulative_tsn_ack : ℕ) (blocks : List GapAckBlock) (window now : ℕ) (e : Estimate)
    (m : StreamMap) where
  pub counts_with : {n : ℕ} {brought : Brought} {heard : Heard} → n ≡ tsns_up_to s cumulative_tsn_ack
      → brought ≡ brought_by s cumulative_tsn_ack blocks → heard ≡ heard_by s cumulative_tsn_ack blocks
      → sack_taken cumulative_tsn_ack blocks window now s e m ≡ done_by n brought heard blocks window now s e m
  counts_with {n = n} {brought = brought} count brings hears =
      ap (λ k. done_by k (brought_by s cumulative_tsn_ack blocks) (heard_by s cumulative_tsn_ack blocks) blocks
      window now s e m) (sym count)
      ∙ ap (λ b. done_by n b (heard_by s cumulative_tsn_ack blocks) blocks window now s e m) (sym brings)
      ∙ ap (λ h. done_by n brought h blocks window now s e m) (sym hears)

  pub reports_are : (n : ℕ) (brought : Brought) → n ≡ tsns_up_to s cumulative_tsn_ack
      → reports_by (heard_by s cumulative_tsn_ack blocks)
      (grown_by brought (all_acknowledged n blocks window now s e m)).0
      ≡ reports_of s cumulative_tsn_ack blocks
  reports_are n brought count =
      let x = acknowledged n now (before_acknowledging n window s, e, m) in
      let stays = sender_stays n now (before_acknowledging n window s) e m in
      let named = blocks_stay now blocks x in
      same_reports (heard_by s cumulative_tsn_ack blocks) (grown_by brought (with_blocks now blocks x)).0
      (with_in_flight (past_recovery n s) (acked_among (λ j. is_named (j + 1) blocks) 0 (drop n s.queue.in_flight)))
      (named.0 ∙ stays.0)
      (named.1 ∙ stays.1)
      (named.2 ∙ stays.2)
      (named.3 ∙ stays.3)
      (blocks_pieces now blocks x
      ∙ ap (acked_among (λ j. is_named (j + 1) blocks) 0) (left_behind n now (before_acknowledging n window s) e m))
      ∙ ap (λ k. reports_by (heard_by s cumulative_tsn_ack blocks)
      (with_in_flight (past_recovery k s)
      (acked_among (λ j. is_named (j + 1) blocks) 0 (drop k s.queue.in_flight)))) count

-- what it tells of what is missing, by its parts
pub heard_is : {n fresh reach : ℕ} {newest : Option ℕ} (s : Sender) (cumulative_tsn_ack : ℕ)
    (blocks : List GapAckBlock) → n ≡ tsns_up_to s cumulative_tsn_ack
    → newest ≡ newest_of s cumulative_tsn_ack blocks → fresh ≡ fresh_of s → reach ≡ reach_of blocks
    → record { moved = nat_lt 0 n; newest = newest; fresh = fresh; is_round_over = s.is_round_over; reach = reach }
    ≡ heard_by s cumulative_tsn_ack blocks
heard_is s cumulative_tsn_ack blocks count newest fresh reach = rw (count, newest, fresh, reach) refl

-- Where a SACK tells nothing, nothing changes.

or_false : (a : Bool) → (a || false) ≡ a
or_false true = refl
or_false false = refl

and_none : (a b : Bool) → (a && (b && false)) ≡ false
and_none true true = refl
and_none true false = refl
and_none false b = refl

either_none : (b x y : Bool) → x ≡ false → y ≡ false → (if b then x else y) ≡ false
either_none true x y e f = e
either_none false x y e f = f

silent : (o : Option ℕ) (a b : Bool) → (not (is_some o) && not a && not b) ≡ true
    → (o ≡ None) × (a ≡ false) × (b ≡ false)
silent None true b e = absurd (true≢false (sym e))
silent None false true e = absurd (true≢false (sym e))
silent None false false e = (refl, refl, refl)
silent (Some last) a b e = absurd (true≢false (sym e))

none_missing : (h : Heard) (s : Sender) → h.newest ≡ None → recovers s ≡ false → missing_of h s ≡ 0
none_missing h s newest none =
    ap (λ (z : Bool). if not z then in_front_of h.newest else
    if is_rfc s.profile then (if h.moved then h.reach else in_front_of h.newest) else
    if h.moved then length s.queue.in_flight else 0) none
    ∙ ap in_front_of newest

none_reported : (r : Reports) (q : Outbound) → r.count ≡ 0 → with_missing r q ≡ q
none_reported r q none = ap (λ (z : ℕ). with_missing (record r { count = z }) q) none

none_lost : (h : Heard) (s : Sender) → missing_of h s ≡ 0 → any_missing s.queue ≡ false → is_lost h s ≡ false
none_lost h s few none =
    let r = reports_by h s in
    let time : Bool = h.moved || not (recovers s) || acknowledges_fresh h s in
    either_none (is_rfc s.profile) (goes_on h s (with_missing r s.queue))
    (list_any (is_last_report r) (take r.count s.queue.in_flight))
    (ap (goes_on h s) (none_reported r s.queue few)
    ∙ ap (λ (z : Bool). time && (marked_of s.queue.in_flight == 0 && z)) none
    ∙ and_none time (marked_of s.queue.in_flight == 0))
    (ap (λ (z : ℕ). list_any (is_last_report r) (take z s.queue.in_flight)) few)

none_due : (h : Heard) (s : Sender) → recovers s ≡ false → is_lost h s ≡ false → is_made_due h s ≡ false
none_due h s none lost =
    either_none (is_rfc s.profile) (is_lost h s) (if recovers s then h.moved else is_lost h s) lost
    (ap (λ (z : Bool). if z then h.moved else is_lost h s) none ∙ lost)

none_ended : (h : Heard) (s : Sender) → h.newest ≡ None → ends_round h s ≡ false
none_ended h s none = ap (λ (z : Option ℕ). is_among_last z h.fresh (length s.queue.in_flight)) none

-- the sender by what is found, is due, and ends a round trip
abbrev counted_by : Bool → Bool → Bool → Reports → Sender → Sender
counted_by found due ends r s = record s {
  queue = with_missing r s.queue;
  congestion = (if found then halved s.mtu s.congestion else s.congestion);
  recovery_exit = (if found then Some (exit_of r s) else s.recovery_exit);
  is_fast_due = s.is_fast_due || due;
  fresh_tsn = (if due || (ends && not s.is_round_over) then next_tsn_of s.queue else s.fresh_tsn);
  is_round_over = not due && (s.is_round_over || ends);
}

pub nothing_counted : (h : Heard) (s : Sender) → tells_nothing h s ≡ true → s ≡ misses_counted h s
nothing_counted h s nothing =
    let none = silent h.newest (recovers s) (any_missing s.queue) nothing in
    let few = none_missing h s none.0 none.1 in
    let lost = none_lost h s few none.2 in
    let r = reports_by h s in
    sym (
    ap (λ (z : Bool). counted_by (z && not (recovers s)) (is_made_due h s) (ends_round h s) r s) lost
    ∙ ap (λ (z : Bool). counted_by false z (ends_round h s) r s) (none_due h s none.1 lost)
    ∙ ap (λ (z : Bool). counted_by false false z r s) (none_ended h s none.0)
    ∙ ap (λ (z : Outbound). record s {
      queue = z;
      is_fast_due = s.is_fast_due || false;
      is_round_over = s.is_round_over || false;
    }) (none_reported r s.queue few)
    ∙ ap (λ (z : Bool). record s { is_fast_due = z; is_round_over = s.is_round_over || false }) (or_false s.is_fast_due)
    ∙ ap (λ (z : Bool). record s { is_round_over = z }) (or_false s.is_round_over)
    )
