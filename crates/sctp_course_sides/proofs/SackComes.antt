-- A SACK that comes keeps a side on the course of a stream that it receives.
use Rattle.std.proofs.Common.{◌≡◌, ◌⊎◌, inl, inr, refl, sym, ap, subst, ℕ, zero, suc, ◌+◌, Bool, true, false}
use Rattle.std.proofs.Common.{if◌then◌else◌, List, [], ◌∷◌, slice_get, Option, Some, None, Result, Ok, Err}
use Rattle.sctp_wire_types.specs.declared.chunk.ChunkPayloadData.{ChunkPayloadData}
use Rattle.sctp_wire_types.specs.Checks.{checked_chunk}
use Rattle.sctp_wire_types.specs.declared.chunk.Chunk.TheVariants as chunks
use Rattle.sctp_wire_types.specs.declared.chunk.ChunkSelectiveAck.{ChunkSelectiveAck}
use Rattle.sctp_wire_types.specs.declared.chunk.GapAckBlock.{GapAckBlock}
use Rattle.sctp_wire_types.specs.declared.error.Error.{Error}
use Rattle.sctp_wire_types.specs.declared.packet.CommonHeader.{CommonHeader}
use Rattle.sctp_parts.specs.Estimate.{Estimate}
use Rattle.sctp_received.specs.Received.{is_named}
use Rattle.sctp_streams.specs.Streams.{StreamMap}
use Rattle.sctp_inbound.specs.declared.receiver.AckTrigger.{AckTrigger}
use Rattle.sctp_outbound_queue.specs.declared.message.InFlight.{InFlight}
use Rattle.sctp_outbound_queue.specs.declared.message.Reports.{Reports}
use Rattle.sctp_outbound.specs.declared.progress.Progress.{Progress}
use Rattle.sctp_outbound.specs.declared.sender.SackOutcome.{SackOutcome}
use Rattle.sctp_outbound.specs.declared.sender.SackOutcome.TheVariants as outcomes
use Rattle.sctp_outbound.specs.declared.sender.Sender.{Sender}
use Rattle.sctp_outbound.specs.GapAcks.{released_among, with_blocks}
use Rattle.sctp_outbound.specs.Sacks.{before_acknowledging, progress_of, sack_taken}
use Rattle.sctp_outbound.specs.Sender.{acknowledged, after_first, sack_outcome, streams_after, tsns_up_to}
use Rattle.sctp_resets.specs.Resets.{ResetsView}
use Rattle.sctp_courses.specs.Course.{Course}
use Rattle.sctp_reset_fit.specs.Keeping.{KeepsCourse}
use Rattle.sctp_reset_fit.proofs.Keeping.{keeps_same, keeps_then}
use Rattle.sctp_reset_fit.proofs.Streams.{released_keeps}
use Rattle.sctp_directions.specs.Acts.{Act, History, Parts, done_all}
use Rattle.sctp_assoc.specs.Calls.{sends_data}
use Rattle.sctp_assoc.specs.declared.inbound.Flow.{Flow}
use Rattle.sctp_assoc.specs.declared.inbound.Flow.TheVariants as flows
use Rattle.sctp_assoc.specs.Chunks.{after_sack, checked_first, counted_sack, on_chunk, on_counted_sack, on_sack}
use Rattle.sctp_assoc.specs.Chunks.{with_acknowledged}
use Rattle.sctp_assoc.specs.Happened.{acts_of_chunk, marks_if}
use Rattle.sctp_assoc.specs.Leads.{IsSamePast, parts}
use Rattle.sctp_assoc.specs.Probes.{forgiven_if, is_probing, marked_if, probes_answered}
use Rattle.sctp_assoc.specs.Shown.{Shown}
use Rattle.sctp_assoc.specs.Shutdown.{shutdown_continued}
use Rattle.sctp_assoc.proofs.CallsLeadOn.{chunk_leads}
use Rattle.sctp_assoc.proofs.Leading.{past_itself}
use Rattle.sctp_assoc.proofs.Probes.{probes_keep}
use Rattle.sctp_sides.specs.SideLaws.{IsAcknowledging}
use Rattle.sctp_sides.proofs.ActsOfChunks.{sacks_acknowledge}
use Rattle.sctp_course_sides.specs.Following.{LeadsFollowing}
use Rattle.sctp_course_sides.specs.Follows.{Follows}
use Rattle.sctp_course_sides.proofs.Reaching.{keeps_following}

-- Bytes that are released keep the courses of streams
module _ (P : ChunkPayloadData → Type 0) (initial id : ℕ) (r : ResetsView) where
  -- from these streams to those
  abbrev Keeps : StreamMap → StreamMap → Type 0
  Keeps m n = KeepsCourse P initial id r m r n

  keeps_on : (m n k : StreamMap) → Keeps m n → Keeps n k → Keeps m k
  keeps_on m n k first later = keeps_then P initial id r r r m n k first later

  after_keeps : (o : Option InFlight) (m : StreamMap) → Keeps m (streams_after o m)
  after_keeps None m = keeps_same P initial id r m
  after_keeps (Some p) m = released_keeps P initial id r m p.message.stream_identifier p.message.generation _

  first_keeps : (now : ℕ) (x : Sender × Estimate × StreamMap) → Keeps x.2 (after_first now x).2
  unfolding after_first
  first_keeps now (s, e, m) = after_keeps (slice_get s.queue.in_flight 0) m

  acknowledged_keeps : (n now : ℕ) (x : Sender × Estimate × StreamMap) → Keeps x.2 (acknowledged n now x).2
  acknowledged_keeps zero now x = keeps_same P initial id r x.2
  acknowledged_keeps (suc n) now x =
      keeps_on x.2 (after_first now x).2 (acknowledged n now (after_first now x)).2 (first_keeps now x)
      (acknowledged_keeps n now (after_first now x))

  named_keeps : (named : Bool) (p : InFlight) (m : StreamMap)
      → Keeps m (if named then streams_after (Some p) m else m)
  named_keeps true p m = after_keeps (Some p) m
  named_keeps false p m = keeps_same P initial id r m

  among_keeps : (named : ℕ → Bool) (j : ℕ) (ps : List InFlight) (m : StreamMap)
      → Keeps m (released_among named j ps m)
  among_keeps named j [] m = keeps_same P initial id r m
  among_keeps named j (p ∷ ps) m =
      let n : StreamMap = if named j then streams_after (Some p) m else m in
      keeps_on m n (released_among named (suc j) ps n) (named_keeps (named j) p m) (among_keeps named (suc j) ps n)

  blocks_keep : (now : ℕ) (blocks : List GapAckBlock) (x : Sender × Estimate × StreamMap)
      → Keeps x.2 (with_blocks now blocks x).2
  blocks_keep now blocks (s, e, m) = among_keeps (λ j. is_named (j + 1) blocks) 0 s.queue.in_flight m

  sack_keeps : (cumulative_tsn_ack : ℕ) (blocks : List GapAckBlock) (window now : ℕ) (s : Sender) (e : Estimate)
      (m : StreamMap) → Keeps m (sack_taken cumulative_tsn_ack blocks window now s e m).2
  sack_keeps cumulative_tsn_ack blocks window now s e m =
      let n : ℕ = tsns_up_to s cumulative_tsn_ack in
      let x : Sender × Estimate × StreamMap = (before_acknowledging n window s, e, m) in
      keeps_on m (acknowledged n now x).2 (with_blocks now blocks (acknowledged n now x)).2 (acknowledged_keeps n now x)
      (blocks_keep now blocks (acknowledged n now x))

-- What a SACK leaves: the resets, and streams that keep to the course.
record LeavesCourse (P : ChunkPayloadData → Type 0) (initial id : ℕ) (a b : Shown) : Type 0 where
  resets : b.resets ≡ a.resets
  streams : KeepsCourse P initial id a.resets a.streams a.resets b.streams

module _ (P : ChunkPayloadData → Type 0) (initial id : ℕ) where
  leaves : (a b : Shown) → b.resets ≡ a.resets
      → KeepsCourse P initial id a.resets a.streams a.resets b.streams → LeavesCourse P initial id a b
  leaves a b same keeps = record { resets = same; streams = keeps }

  same_leaves : (a : Shown) → LeavesCourse P initial id a a
  same_leaves a = leaves a a refl (keeps_same P initial id a.resets a.streams)

  acknowledged_leaves : (a : Shown) (progress : Progress) (now : ℕ) (x : Sender × Estimate × StreamMap)
      → KeepsCourse P initial id a.resets a.streams a.resets x.2
      → LeavesCourse P initial id a (with_acknowledged a progress now x)
  acknowledged_leaves a progress now (s, e, m) keeps = leaves a _ refl keeps

  -- probes of a closed window that are answered leave both
  probes_leave : (a b : Shown) (probing : Bool) (window : ℕ) → LeavesCourse P initial id a b
      → LeavesCourse P initial id a (probes_answered probing window b)
  probes_leave a b probing window l =
      probes_keep (λ (z : Shown). LeavesCourse P initial id a z)
      (λ (z : Shown) (k : LeavesCourse P initial id a z). leaves a (forgiven_if true z) k.resets k.streams)
      (λ (z : Shown) (k : LeavesCourse P initial id a z). leaves a (marked_if true z) k.resets k.streams)
      probing window b l

  outcome_leaves : (o : SackOutcome) (b : Shown) (cumulative_tsn_ack : ℕ) (blocks : List GapAckBlock) (window : ℕ)
      (trigger : AckTrigger) (now : ℕ)
      → LeavesCourse P initial id b (on_counted_sack o b cumulative_tsn_ack blocks window trigger now).0
  outcome_leaves outcomes.Older b cumulative_tsn_ack blocks window trigger now = same_leaves b
  outcome_leaves outcomes.NotInFlight b cumulative_tsn_ack blocks window trigger now = same_leaves b
  outcome_leaves outcomes.NamesTheUnsent b cumulative_tsn_ack blocks window trigger now = same_leaves b
  outcome_leaves outcomes.Taken b cumulative_tsn_ack blocks window trigger now =
      let x = sack_taken cumulative_tsn_ack blocks window now b.sender b.estimate b.streams in
      let d : Shown = shutdown_continued (after_sack b cumulative_tsn_ack blocks window now) in
      let l =
      acknowledged_leaves b (progress_of b.sender cumulative_tsn_ack blocks) now x
      (sack_keeps P initial id b.resets cumulative_tsn_ack blocks window now b.sender b.estimate b.streams) in
      probes_leave b d (is_probing b.profile b.sender) window (leaves b d l.resets l.streams)

  sack_leaves_if : (c : Bool) (a : Shown) (cumulative_tsn_ack : ℕ) (blocks : List GapAckBlock) (window : ℕ)
      (trigger : AckTrigger) (now : ℕ)
      → LeavesCourse P initial id a
      (if◌then◌else◌ {A = Shown × Flow} c
      (on_counted_sack (sack_outcome a.sender cumulative_tsn_ack blocks) (counted_sack a) cumulative_tsn_ack blocks
      window trigger now)
      (a, flows.Next trigger)).0
  sack_leaves_if true a cumulative_tsn_ack blocks window trigger now =
      let l =
      outcome_leaves (sack_outcome a.sender cumulative_tsn_ack blocks) (counted_sack a) cumulative_tsn_ack blocks window
      trigger now in
      leaves a _ l.resets l.streams
  sack_leaves_if false a cumulative_tsn_ack blocks window trigger now = same_leaves a

  sack_leaves : (a : Shown) (cumulative_tsn_ack : ℕ) (blocks : List GapAckBlock) (window : ℕ) (trigger : AckTrigger)
      (now : ℕ) → LeavesCourse P initial id a (on_sack a cumulative_tsn_ack blocks window trigger now).0
  unfolding on_sack
  sack_leaves a cumulative_tsn_ack blocks window trigger now =
      sack_leaves_if (sends_data a.state) a cumulative_tsn_ack blocks window trigger now

  checked_leaves : (r : Result (Unit {0}) Error) (a : Shown) (header : CommonHeader) (sack : ChunkSelectiveAck)
      (trigger : AckTrigger) (now : ℕ)
      → LeavesCourse P initial id a (checked_first r a header (chunks.SelectiveAck sack) trigger now).0
  checked_leaves (Err fault) a header sack trigger now = same_leaves a
  checked_leaves (Ok done) a header sack trigger now =
      sack_leaves a sack.cumulative_tsn_ack sack.gap_ack_blocks sack.advertised_receiver_window_credit trigger now

  chunk_leaves : (a : Shown) (header : CommonHeader) (sack : ChunkSelectiveAck) (trigger : AckTrigger) (now : ℕ)
      → LeavesCourse P initial id a (on_chunk a header (chunks.SelectiveAck sack) trigger now).0
  unfolding on_chunk
  chunk_leaves a header sack trigger now =
      checked_leaves (checked_chunk (chunks.SelectiveAck sack)) a header sack trigger now

-- what is acknowledged, and marked behind that, leaves what came
marked_past : (marked : Bool) (n : ℕ) (blocks : List GapAckBlock) (missing : Reports) (p : Parts)
    → IsSamePast p.history (done_all (Act.Acknowledged n blocks missing ∷ marks_if marked) p).history
marked_past true n blocks missing p = record { peer = refl; taken = refl; passed = refl }
marked_past false n blocks missing p = record { peer = refl; taken = refl; passed = refl }

-- so do the acts of a SACK
acked_past : (a : Shown) (h : History) (sack : ChunkSelectiveAck) (xs : List Act) (p : Parts)
    → (xs ≡ []) ⊎ IsAcknowledging a h sack xs → IsSamePast p.history (done_all xs p).history
acked_past a h sack xs p (inl e) =
    subst (λ ys. IsSamePast p.history (done_all ys p).history) (sym e) (past_itself p.history)
acked_past a h sack xs p (inr acked) =
    subst (λ ys. IsSamePast p.history (done_all ys p).history) (sym acked.are)
    (marked_past acked.marked acked.count sack.gap_ack_blocks acked.missing p)

-- A SACK keeps to the course.
pub sack_follows : (P : ChunkPayloadData → Type 0) (initial id : ℕ) (a : Shown) (h : History) (c : Course)
    (header : CommonHeader)
    (sack : ChunkSelectiveAck) (trigger : AckTrigger) (now : ℕ) → Follows P initial id a h c
    → LeadsFollowing P initial id (on_chunk a header (chunks.SelectiveAck sack) trigger now).0 c
sack_follows P initial id a h c header sack trigger now f =
    let b : Shown = (on_chunk a header (chunks.SelectiveAck sack) trigger now).0 in
    let leads = chunk_leads header (chunks.SelectiveAck sack) a trigger now h f.binds in
    let is : leads.0 ≡ (done_all (acts_of_chunk a header (chunks.SelectiveAck sack)) (parts a h)).history =
    ap (λ (p : Parts). p.history) leads.1.there in
    let past : IsSamePast h leads.0 =
    subst (IsSamePast h) (sym is)
    (acked_past a h sack (acts_of_chunk a header (chunks.SelectiveAck sack)) (parts a h)
    (sacks_acknowledge a h header sack f.binds)) in
    let left = chunk_leaves P initial id a header sack trigger now in
    keeps_following P initial id a b h leads.0 c f leads.1.binds past
    (subst (λ (r : ResetsView). KeepsCourse P initial id a.resets a.streams r b.streams) (sym left.resets) left.streams)
    (ap (λ (r : ResetsView). r.peer) left.resets)
