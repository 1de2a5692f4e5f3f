-- Each step of a pair leads safely.
use Rattle.std.proofs.Common.{◌≡◌, refl, sym, ap, ◌∙◌, subst, ℕ, List, [], Option, Some, None, Bool, true, false, ◌⊎◌}
use Rattle.std.proofs.Common.{inl, inr, ⊎_elim, eqb, eq-eqb, ◌&&◌}
use Rattle.std.specs.Prelude.{slice_get, ◌||◌}
use Rattle.sctp_wire_types.specs.declared.reliability.ReliabilityType.{ReliabilityType}
use Rattle.sctp_wire_types.specs.declared.reliability.ReliabilityType.TheVariants as types
use Rattle.std.proofs.lemmas.List.{append-nil}
use Rattle.sctp_receive_queues.specs.Messages as letters
use Rattle.sctp_model.specs.Messages.{Message}
use Rattle.sctp_serial.specs.Serial.{tsn}
use Rattle.sctp_model.proofs.Lists.{all_get}
use Rattle.sctp_sides.specs.SideLaws.{OfEachChunk}
use Rattle.sctp_assoc.specs.Calls.{first_filled, is_writable}
use Rattle.sctp_assoc.specs.Shown.{Shown}
use Rattle.sctp_assoc.specs.declared.call.Reply.{Reply}
use Rattle.sctp_assoc.specs.declared.call.Reply.TheVariants as replies
use Rattle.sctp_assoc.proofs.Replied.{buffers_same, finds_same, lists_same, measures_same, shows_same}
use Rattle.sctp_steps.specs.declared.step.Side2.{Side2}
use Rattle.sctp_steps.specs.declared.step.Side2.TheVariants as sides
use Rattle.sctp_steps.specs.declared.step.Step.{Step}
use Rattle.sctp_steps.specs.declared.step.Step.TheVariants as steps
use Rattle.sctp_steps.specs.Ends.{Ends, end_of, packets_of}
use Rattle.sctp_assoc.specs.Replies.{Buffers, Expires, Finds, Measures, Opens, Reads}
use Rattle.sctp_steps.specs.Steps.{AtSide, ComesTo, Delivers, SendsAt}
use Rattle.sctp_assoc.specs.Replies.{AcceptsStream, ClosesOne, ClosesStream, Limits, Lists, Sets, ShowsOrRefuses}
use Rattle.sctp_assoc.specs.Replies.{PollsEvent}
use Rattle.sctp_steps.specs.Steps.{Steps}
use Rattle.sctp_assoc.specs.Replies.{PollsEndpointEvent, ShutsDown, Stops, Writes}
use Rattle.sctp_assoc.specs.Replies.{WritesFirst}
use Rattle.sctp_assoc.specs.Replies.{packet_in}
use Rattle.sctp_streams.specs.declared.setting.Setting.TheVariants as settings
use Rattle.sctp_streams.specs.Stream.{is_read_half_open, ordered_and_reliable, params_of}
use Rattle.sctp_steps.specs.Seen.{is_side}
use Rattle.sctp_pair.specs.World.{EndsSpan, is_loose, loose_after, loose_of}
use Rattle.sctp_fit.specs.Incoming.{tsn_before}
use Rattle.sctp_steps.specs.Seen.{other_side}
use Rattle.sctp_pair.specs.World.{HasData, HasForward, World, packet_brought, packet_of_bytes}
use Rattle.sctp_pair.specs.Fits.{AreSaid, Fits, LeadsSafely}
use Rattle.sctp_pair.proofs.BetweenDirections.{Faces, None_brought, None_ended, Settles, SettlesEnding}
use Rattle.sctp_pair.proofs.BetweenDirections.{SettlesQuietly, Surroundings}
use Rattle.sctp_pair.proofs.BetweenDirections.{nothing_added, nothing_read}
use Rattle.sctp_pair.proofs.CallsAreSteps.{IsCallAt, IsCallEnding, around_a, around_b, faces_a, faces_b, settled_a}
use Rattle.sctp_pair.proofs.CallsAreSteps.{settled_b}
use Rattle.sctp_pair.proofs.AcceptedAndRead.{IsQuiet, quiet_call, read_call, write_call}
use Rattle.sctp_pair.proofs.PacketCall.{brings_more, brought_by, packet_settles}
use Rattle.sctp_pair.proofs.PacketChunks.{Brings_of}
use Rattle.sctp_pair.proofs.PacketChunks.{OtherSays}
use Rattle.sctp_pair.proofs.PollCall.{poll_settles}
use Rattle.sctp_pair.proofs.ReadCall.{read_by, reads_settle}
use Rattle.sctp_pair.proofs.QuietCalls.{opens_settle, same_settles}
use Rattle.sctp_pair.proofs.StreamCalls.{accepts_settle, closes_settle, limits_settle, sets_settle}
use Rattle.sctp_pair.proofs.CloseStreamCall.{closes_stream_settle}
use Rattle.sctp_pair.proofs.StopCall.{Ended_by, stops_settle}
use Rattle.sctp_pair.proofs.StreamCalls.{IsCovered, reliability_settles}
use Rattle.sctp_pair.proofs.TimedCalls.{drains_settle, expires_settle, shuts_down_settle, tells_settle}
use Rattle.sctp_pair.proofs.WriteCall.{first_writes_settle, writes_settle, written_by}

-- the initial TSN of the DATA that comes to a side
abbrev initial_to : Side2 → World → ℕ
initial_to sides.A w = w.initial_b
initial_to sides.B w = w.initial_a

-- where no such packet was given out, nothing changes
none_delivered : (a : Shown) (now : ℕ) (r : Reply) (b : Shown) → Delivers a None now r b → b ≡ a
none_delivered a now replies.NoSuchPacket b h = h
none_delivered a now r b h = absurd h

-- What comes to a side, if anything does: its DATA is what is brought.
delivered : {x : Surroundings} {a b : Shown} (now : ℕ) (packets : List (List ℕ)) (number : ℕ)
    (found : Option (List ℕ)) (r : Reply) → slice_get packets number ≡ found → Delivers a found now r b
    → AreSaid x.peer x.own x.there x.coming x.out packets → Faces x a
    → Settles x b nothing_added nothing_read (Brings_of x (brought_by r (packet_of_bytes found)))
delivered {x} {a} {b} now packets number None r e h said f =
    brings_more (Brings_of x (brought_by r None)) (same_settles (none_delivered a now r b h) f)
delivered {x} now packets number (Some bytes) r e h said f =
    packet_settles now (packet_in bytes) r h
    (all_get (λ (z : List ℕ). OfEachChunk (OtherSays x) (packet_in z)) packets number bytes e said) f

brought_here : (side : Side2) (number now : ℕ) (r : Reply) (w : World)
    → brought_by r (packet_of_bytes (slice_get (packets_of (other_side side) w.ends) number))
    ≡ packet_brought (steps.Deliver side number now) r side w
brought_here sides.A number now replies.Done w = refl
brought_here sides.B number now replies.Done w = refl
brought_here side number now r w = refl

-- what is set is ordered and reliable, or makes the stream loose
set_or_loose : (unordered : Bool) (kind : ReliabilityType) (value : ℕ)
    → (params_of unordered kind value ≡ ordered_and_reliable) ⊎ (is_loose unordered kind ≡ true)
set_or_loose true types.Reliable value = inr refl
set_or_loose false types.Reliable value = inl refl
set_or_loose unordered types.Rexmit value = inr refl
set_or_loose unordered types.Timed value = inr refl

or_true : (c : Bool) → (c || true) ≡ true
or_true true = refl
or_true false = refl

own_side : (side : Side2) → is_side side side ≡ true
own_side sides.A = refl
own_side sides.B = refl

covered_at : (side : Side2) (w : World) (id : ℕ) (unordered : Bool) (kind : ReliabilityType) (value : ℕ) (r : Reply)
    → IsCovered (loose_after (steps.SetReliabilityParams side id unordered kind value) r side w) id
    (params_of unordered kind value) r
covered_at side w id unordered kind value replies.Done =
    ⊎_elim
    (λ (e : params_of unordered kind value ≡ ordered_and_reliable). inl e)
    (λ (l : is_loose unordered kind ≡ true). inr
    (ap (λ z. loose_of side w id || (z && (eqb id id && is_loose unordered kind))) (own_side side)
    ∙ ap (λ z. loose_of side w id || (z && is_loose unordered kind)) (eq-eqb id id refl)
    ∙ ap (λ z. loose_of side w id || z) l ∙ or_true (loose_of side w id)))
    (set_or_loose unordered kind value)
covered_at side w id unordered kind value r = tt

-- the span that a stop ends is that of its stream, and so is the one that a close of a stream ends
stop_ends : (r : Reply) (side : Side2) (id s : ℕ) → Ended_by r id s → EndsSpan (steps.Stop side id) r s
stop_ends replies.Done side id s e = e
stop_ends r side id s e = absurd e

close_ends : (r : Reply) (side : Side2) (id s : ℕ) → Ended_by r id s → EndsSpan (steps.CloseStream side id) r s
close_ends replies.Done side id s e = e
close_ends r side id s e = absurd e

-- From the pair of the world, which fits it, a step with this reply leads to q.
module _ (q : Ends) (r : Reply) (w : World) (fits : Fits w.ends w) where
  -- A change of one side's association, by which these spans may end, leads safely where it settles and is what the
  -- step does.
  ending_leads : (Ended : ℕ → Type 0) (side : Side2) (step : Step) (Changes : Shown → Shown → Type 0)
      (Added : Shown → ℕ → List Message) (Read : ℕ → Option letters.ReceivedMessage)
      → ((x : Surroundings) (a b : Shown) → Changes a b → Faces x a
      → SettlesEnding Ended x b (Added a) Read None_brought)
      → IsCallEnding Ended step r side w (initial_to side w) (Added (end_of side w.ends)) Read None_brought
      → AtSide side w.ends Changes q → Steps step w.ends r q → LeadsSafely step r w q
  ending_leads Ended sides.A step Changes Added Read settle call (h, e) ends =
      settled_a step r w q [] fits (ap (λ (z : Ends). z.b) e)
      (ap (λ (z : Ends). z.packets_a) e ∙ sym (append-nil w.ends.packets_a)) (ap (λ (z : Ends). z.packets_b) e) ends
      (settle (around_a step r w fits) w.ends.a q.a h (faces_a step r w fits)) tt call
  ending_leads Ended sides.B step Changes Added Read settle call (h, e) ends =
      settled_b step r w q [] fits (ap (λ (z : Ends). z.a) e)
      (ap (λ (z : Ends). z.packets_b) e ∙ sym (append-nil w.ends.packets_b)) (ap (λ (z : Ends). z.packets_a) e) ends
      (settle (around_b step r w fits) w.ends.b q.b h (faces_b step r w fits)) tt call

  -- the same of one by which none ends
  change_leads : (side : Side2) (step : Step) (Changes : Shown → Shown → Type 0) (Added : Shown → ℕ → List Message)
      (Read : ℕ → Option letters.ReceivedMessage)
      → ((x : Surroundings) (a b : Shown) → Changes a b → Faces x a → Settles x b (Added a) Read None_brought)
      → IsCallAt step r side w (initial_to side w) (Added (end_of side w.ends)) Read None_brought
      → AtSide side w.ends Changes q → Steps step w.ends r q → LeadsSafely step r w q
  change_leads side step Changes Added Read settle call h ends =
      ending_leads None_ended side step Changes Added Read settle call h ends

  -- the same of one that neither writes nor reads
  quiet_leads : (side : Side2) (step : Step) (Changes : Shown → Shown → Type 0)
      → ((x : Surroundings) (a b : Shown) → Changes a b → Faces x a → SettlesQuietly x b) → IsQuiet step r w
      → AtSide side w.ends Changes q → Steps step w.ends r q → LeadsSafely step r w q
  quiet_leads side step Changes settle quiet h ends =
      change_leads side step Changes (λ a. nothing_added) nothing_read settle
      (quiet_call step r side w (initial_to side w) quiet) h ends

  -- and of one that changes nothing
  same_leads : (side : Side2) (step : Step) (Changes : Shown → Shown → Type 0)
      → ((a b : Shown) → Changes a b → b ≡ a) → IsQuiet step r w → AtSide side w.ends Changes q
      → Steps step w.ends r q → LeadsSafely step r w q
  same_leads side step Changes stays quiet h ends =
      quiet_leads side step Changes (λ x a b c f. same_settles (stays a b c) f) quiet h ends

  -- A step that neither writes nor reads, and may end the span of this stream, leads safely.
  stopping_leads : (id : ℕ) (side : Side2) (step : Step) (Changes : Shown → Shown → Type 0)
      → ((x : Surroundings) (a b : Shown) → Changes a b → Faces x a
      → SettlesEnding (Ended_by r id) x b nothing_added nothing_read None_brought)
      → IsQuiet step r w → ((s : ℕ) → Ended_by r id s → EndsSpan step r s)
      → AtSide side w.ends Changes q → Steps step w.ends r q → LeadsSafely step r w q
  stopping_leads id side step Changes settle is_quiet ends h leads =
      let quiet = quiet_call step r side w (initial_to side w) is_quiet in
      ending_leads (Ended_by r id) side step Changes (λ a. nothing_added) nothing_read settle record {
        adds = quiet.adds;
        reads = quiet.reads;
        brings = quiet.brings;
        passes = quiet.passes;
        adds_alone = quiet.adds_alone;
        reads_alone = quiet.reads_alone;
        ends = ends;
      } h leads

  -- A poll for packets leads safely.
  send_leads : (side : Side2) (now : ℕ) → SendsAt side w.ends now r q
      → LeadsSafely (steps.PollTransmit side now) r w q
  send_leads sides.A now (h, e) =
      let step : Step = steps.PollTransmit sides.A now in
      let poll = poll_settles q.a now w.ends.packets_a q.packets_a (faces_a step r w fits) r h in
      settled_a (steps.PollTransmit sides.A now) r w q poll.1 fits (ap (λ (z : Ends). z.b) e) poll.2
      (ap (λ (z : Ends). z.packets_b) e) (h, e) poll.0 poll.3
      (quiet_call (steps.PollTransmit sides.A now) r sides.A w w.initial_b (λ y s. (refl, refl)))
  send_leads sides.B now (h, e) =
      let step : Step = steps.PollTransmit sides.B now in
      let poll = poll_settles q.b now w.ends.packets_b q.packets_b (faces_b step r w fits) r h in
      settled_b (steps.PollTransmit sides.B now) r w q poll.1 fits (ap (λ (z : Ends). z.a) e) poll.2
      (ap (λ (z : Ends). z.packets_a) e) (h, e) poll.0 poll.3
      (quiet_call (steps.PollTransmit sides.B now) r sides.B w w.initial_a (λ y s. (refl, refl)))

  -- A delivery leads safely.
  come_leads : (side : Side2) (number now : ℕ) → ComesTo side w.ends number now r q
      → LeadsSafely (steps.Deliver side number now) r w q
  come_leads sides.A number now (h, e) =
      settled_a (steps.Deliver sides.A number now) r w q [] fits (ap (λ (z : Ends). z.b) e)
      (ap (λ (z : Ends). z.packets_a) e ∙ sym (append-nil w.ends.packets_a)) (ap (λ (z : Ends). z.packets_b) e) (h, e)
      (delivered now w.ends.packets_b number (slice_get w.ends.packets_b number) r refl h fits.stand.said_b
      (faces_a (steps.Deliver sides.A number now) r w fits)) tt
      record {
        adds = λ s. refl;
        reads = λ s. refl;
        brings = λ o b. subst (λ z. HasData z (tsn w.initial_b o)) (brought_here sides.A number now r w) b;
        passes =
            λ n b. subst (λ z. HasForward z (tsn_before (tsn w.initial_b n))) (brought_here sides.A number now r w) b;
        adds_alone = λ s. refl;
        reads_alone = λ s. refl;
        ends = λ s n. absurd n;
      }
  come_leads sides.B number now (h, e) =
      settled_b (steps.Deliver sides.B number now) r w q [] fits (ap (λ (z : Ends). z.a) e)
      (ap (λ (z : Ends). z.packets_b) e ∙ sym (append-nil w.ends.packets_b)) (ap (λ (z : Ends). z.packets_a) e) (h, e)
      (delivered now w.ends.packets_a number (slice_get w.ends.packets_a number) r refl h fits.stand.said_a
      (faces_b (steps.Deliver sides.B number now) r w fits)) tt
      record {
        adds = λ s. refl;
        reads = λ s. refl;
        brings = λ o b. subst (λ z. HasData z (tsn w.initial_a o)) (brought_here sides.B number now r w) b;
        passes =
            λ n b. subst (λ z. HasForward z (tsn_before (tsn w.initial_a n))) (brought_here sides.B number now r w) b;
        adds_alone = λ s. refl;
        reads_alone = λ s. refl;
        ends = λ s n. absurd n;
      }

  -- What sets the order and the reliability of a stream leads safely.
  set_leads : (side : Side2) (id : ℕ) (unordered : Bool) (kind : ReliabilityType) (value : ℕ)
      → AtSide side w.ends (λ a b. Sets a id (settings.Reliability (params_of unordered kind value)) r b) q
      → LeadsSafely (steps.SetReliabilityParams side id unordered kind value) r w q
  set_leads sides.A id unordered kind value (h, e) =
      let step : Step = steps.SetReliabilityParams sides.A id unordered kind value in
      settled_a step r w q [] fits (ap (λ (z : Ends). z.b) e)
      (ap (λ (z : Ends). z.packets_a) e ∙ sym (append-nil w.ends.packets_a)) (ap (λ (z : Ends). z.packets_b) e) (h, e)
      (reliability_settles id (params_of unordered kind value) r (covered_at sides.A w id unordered kind value r) h
      (faces_a step r w fits)) tt
      (quiet_call step r sides.A w w.initial_b (λ y s. (refl, refl)))
  set_leads sides.B id unordered kind value (h, e) =
      let step : Step = steps.SetReliabilityParams sides.B id unordered kind value in
      settled_b step r w q [] fits (ap (λ (z : Ends). z.a) e)
      (ap (λ (z : Ends). z.packets_b) e ∙ sym (append-nil w.ends.packets_b)) (ap (λ (z : Ends). z.packets_a) e) (h, e)
      (reliability_settles id (params_of unordered kind value) r (covered_at sides.B w id unordered kind value r) h
      (faces_b step r w fits)) tt
      (quiet_call step r sides.B w w.initial_a (λ y s. (refl, refl)))

  -- each step
  step_at : (step : Step) → Steps step w.ends r q → LeadsSafely step r w q
  step_at (steps.OpenStream side id kind) h =
      quiet_leads side (steps.OpenStream side id kind) (λ a b. Opens a id kind r b)
      (λ x a b c. opens_settle id kind r c) (λ y s. (refl, refl)) h h
  step_at (steps.Stream side id) h =
      same_leads side (steps.Stream side id) (λ a b. Finds a id r b) (λ a b c. finds_same a id r b c)
      (λ y s. (refl, refl)) h h
  step_at (steps.Write side id bytes) h =
      change_leads side (steps.Write side id bytes) (λ a b. Writes a id None bytes r b)
      (λ a. written_by r a id None bytes) nothing_read (λ x a b c. writes_settle id None bytes r c)
      (write_call (steps.Write side id bytes) side id None bytes r w (initial_to side w) refl refl) h h
  step_at (steps.WriteWithPpi side id bytes kind) h =
      change_leads side (steps.WriteWithPpi side id bytes kind) (λ a b. Writes a id (Some kind) bytes r b)
      (λ a. written_by r a id (Some kind) bytes) nothing_read (λ x a b c. writes_settle id (Some kind) bytes r c)
      (write_call (steps.WriteWithPpi side id bytes kind) side id (Some kind) bytes r w (initial_to side w) refl refl)
      h h
  step_at (steps.WriteSctp side id bytes kind) h =
      change_leads side (steps.WriteSctp side id bytes kind) (λ a b. Writes a id (Some kind) bytes r b)
      (λ a. written_by r a id (Some kind) bytes) nothing_read (λ x a b c. writes_settle id (Some kind) bytes r c)
      (write_call (steps.WriteSctp side id bytes kind) side id (Some kind) bytes r w (initial_to side w) refl refl) h h
  step_at (steps.WriteChunk side id bytes) h =
      change_leads side (steps.WriteChunk side id bytes) (λ a b. Writes a id None bytes r b)
      (λ a. written_by r a id None bytes) nothing_read (λ x a b c. writes_settle id None bytes r c)
      (write_call (steps.WriteChunk side id bytes) side id None bytes r w (initial_to side w) refl refl) h h
  step_at (steps.WriteChunks side id chunks) h =
      change_leads side (steps.WriteChunks side id chunks) (λ a b. WritesFirst a id chunks.items r b)
      (λ a. written_by r a id None (first_filled chunks.items)) nothing_read
      (λ x a b c. first_writes_settle id chunks.items r c)
      (write_call (steps.WriteChunks side id chunks) side id None (first_filled chunks.items) r w (initial_to side w)
      refl refl) h h
  step_at (steps.Read side id) h =
      change_leads side (steps.Read side id) (λ a b. Reads a id r b) (λ a. nothing_added) (read_by r id)
      (λ x a b c. reads_settle id r c) (read_call (steps.Read side id) side id r w (initial_to side w) refl refl) h h
  step_at (steps.ReadSctp side id) h =
      change_leads side (steps.ReadSctp side id) (λ a b. Reads a id r b) (λ a. nothing_added) (read_by r id)
      (λ x a b c. reads_settle id r c) (read_call (steps.ReadSctp side id) side id r w (initial_to side w) refl refl)
      h h
  step_at (steps.Finish side id) h =
      quiet_leads side (steps.Finish side id) (λ a b. Sets a id settings.WriteHalfClosed r b)
      (λ x a b c. sets_settle id settings.WriteHalfClosed r (λ s n. n) c) (λ y s. (refl, refl)) h h
  step_at (steps.Stop side id) h =
      stopping_leads id side (steps.Stop side id) (λ a b. Stops a id r b) (λ x a b c. stops_settle id r c)
      (λ y s. (refl, refl)) (stop_ends r side id) h h
  step_at (steps.CloseStream side id) h =
      stopping_leads id side (steps.CloseStream side id) (λ a b. ClosesStream a id r b)
      (λ x a b c. closes_stream_settle id r c) (λ y s. (refl, refl)) (close_ends r side id) h h
  step_at (steps.SetReliabilityParams side id unordered kind value) h = set_leads side id unordered kind value h
  step_at (steps.SetDefaultPayloadType side id kind) h =
      quiet_leads side (steps.SetDefaultPayloadType side id kind)
      (λ a b. Sets a id (settings.DefaultPayloadType kind) r b)
      (λ x a b c. sets_settle id (settings.DefaultPayloadType kind) r (λ s n. n) c) (λ y s. (refl, refl)) h h
  step_at (steps.SetBufferedAmountLowThreshold side id bytes) h =
      quiet_leads side (steps.SetBufferedAmountLowThreshold side id bytes)
      (λ a b. Sets a id (settings.LowMark bytes) r b)
      (λ x a b c. sets_settle id (settings.LowMark bytes) r (λ s n. n) c) (λ y s. (refl, refl)) h h
  step_at (steps.SetBufferedAmountHighThreshold side id bytes) h =
      quiet_leads side (steps.SetBufferedAmountHighThreshold side id bytes)
      (λ a b. Sets a id (settings.HighMark bytes) r b)
      (λ x a b c. sets_settle id (settings.HighMark bytes) r (λ s n. n) c) (λ y s. (refl, refl)) h h
  step_at (steps.StreamStats side id) h =
      same_leads side (steps.StreamStats side id) (λ a b. ShowsOrRefuses a id (λ s. replies.StreamStats s.stats) r b)
      (λ a b c. shows_same a id (λ s. replies.StreamStats s.stats) r b c) (λ y s. (refl, refl)) h h
  step_at (steps.IsReadable side id) h =
      same_leads side (steps.IsReadable side id)
      (λ a b. ShowsOrRefuses a id (λ s. replies.State (is_read_half_open s.halves)) r b)
      (λ a b c. shows_same a id (λ s. replies.State (is_read_half_open s.halves)) r b c) (λ y s. (refl, refl)) h h
  step_at (steps.IsWritable side id) h =
      same_leads side (steps.IsWritable side id)
      (λ a b. ShowsOrRefuses a id (λ s. replies.State (is_writable a id)) r b)
      (λ a b c. shows_same a id (λ s. replies.State (is_writable a id)) r b c) (λ y s. (refl, refl)) h h
  step_at (steps.StreamIdentifier side id) h =
      same_leads side (steps.StreamIdentifier side id)
      (λ a b. ShowsOrRefuses a id (λ s. replies.StreamIdentifier id) r b)
      (λ a b c. shows_same a id (λ s. replies.StreamIdentifier id) r b c) (λ y s. (refl, refl)) h h
  step_at (steps.GetDefaultPayloadType side id) h =
      same_leads side (steps.GetDefaultPayloadType side id)
      (λ a b. ShowsOrRefuses a id (λ s. replies.PayloadType s.default_payload_type) r b)
      (λ a b c. shows_same a id (λ s. replies.PayloadType s.default_payload_type) r b c) (λ y s. (refl, refl)) h h
  step_at (steps.BufferedAmountLowThreshold side id) h =
      same_leads side (steps.BufferedAmountLowThreshold side id)
      (λ a b. ShowsOrRefuses a id (λ s. replies.Threshold s.low_mark) r b)
      (λ a b c. shows_same a id (λ s. replies.Threshold s.low_mark) r b c) (λ y s. (refl, refl)) h h
  step_at (steps.BufferedAmountHighThreshold side id) h =
      same_leads side (steps.BufferedAmountHighThreshold side id)
      (λ a b. ShowsOrRefuses a id (λ s. replies.Threshold s.high_mark) r b)
      (λ a b c. shows_same a id (λ s. replies.Threshold s.high_mark) r b c) (λ y s. (refl, refl)) h h
  step_at (steps.AcceptStream side) h =
      quiet_leads side (steps.AcceptStream side) (λ a b. AcceptsStream a r b) (λ x a b c. accepts_settle r c)
      (λ y s. (refl, refl)) h h
  step_at (steps.SetMaxSendMessageSize side size) h =
      quiet_leads side (steps.SetMaxSendMessageSize side size) (λ a b. Limits a size r b)
      (λ x a b c. limits_settle size r c) (λ y s. (refl, refl)) h h
  step_at (steps.StreamIds side) h =
      same_leads side (steps.StreamIds side) (λ a b. Lists a r b) (λ a b c. lists_same a r b c)
      (λ y s. (refl, refl)) h h
  step_at (steps.Close side) h =
      quiet_leads side (steps.Close side) (λ a b. ClosesOne a r b) (λ x a b c. closes_settle r c)
      (λ y s. (refl, refl)) h h
  step_at (steps.Shutdown side) h =
      quiet_leads side (steps.Shutdown side) (λ a b. ShutsDown a r b) (λ x a b c. shuts_down_settle r c)
      (λ y s. (refl, refl)) h h
  step_at (steps.BufferedAmount side id) h =
      same_leads side (steps.BufferedAmount side id) (λ a b. Buffers a id r b) (λ a b c. buffers_same a id r b c)
      (λ y s. (refl, refl)) h h
  step_at (steps.Poll side) h =
      quiet_leads side (steps.Poll side) (λ a b. PollsEvent a r b) (λ x a b c. tells_settle r c)
      (λ y s. (refl, refl)) h h
  step_at (steps.PollEndpointEvent side) h =
      quiet_leads side (steps.PollEndpointEvent side) (λ a b. PollsEndpointEvent a r b) (λ x a b c. drains_settle r c)
      (λ y s. (refl, refl)) h h
  step_at (steps.PollTimeout side) h =
      same_leads side (steps.PollTimeout side) _ (λ a b c. c.1) (λ y s. (refl, refl)) h h
  step_at (steps.PollTransmit side now) h = send_leads side now h
  step_at (steps.HandleTimeout side now) h =
      quiet_leads side (steps.HandleTimeout side now) (λ a b. Expires a now r b)
      (λ x a b c. expires_settle now r c) (λ y s. (refl, refl)) h h
  step_at (steps.Deliver side number now) h = come_leads side number now h
  step_at (steps.IsHandshaking side) h =
      same_leads side (steps.IsHandshaking side) _ (λ a b c. c.1) (λ y s. (refl, refl)) h h
  step_at (steps.IsClosed side) h =
      same_leads side (steps.IsClosed side) _ (λ a b c. c.1) (λ y s. (refl, refl)) h h
  step_at (steps.IsClosing side) h =
      same_leads side (steps.IsClosing side) _ (λ a b c. c.1) (λ y s. (refl, refl)) h h
  step_at (steps.IsDrained side) h =
      same_leads side (steps.IsDrained side) _ (λ a b c. c.1) (λ y s. (refl, refl)) h h
  step_at (steps.IsFailed side) h =
      same_leads side (steps.IsFailed side) _ (λ a b c. c.1) (λ y s. (refl, refl)) h h
  step_at (steps.Rtt side) h =
      same_leads side (steps.Rtt side) (λ a b. Measures a r b) (λ a b c. measures_same a r b c)
      (λ y s. (refl, refl)) h h
  step_at (steps.Stats side) h =
      same_leads side (steps.Stats side) _ (λ a b c. c.1) (λ y s. (refl, refl)) h h
  step_at (steps.Side side) h =
      same_leads side (steps.Side side) _ (λ a b c. c.1) (λ y s. (refl, refl)) h h
  step_at (steps.RemoteAddr side) h =
      same_leads side (steps.RemoteAddr side) _ (λ a b c. c.1) (λ y s. (refl, refl)) h h
  step_at (steps.LocalIp side) h =
      same_leads side (steps.LocalIp side) _ (λ a b c. c.1) (λ y s. (refl, refl)) h h

-- From each world in which a pair stands, a step leads to a next one; where that is within the limits, the pair stands
-- in it, and it is safe.
pub step_leads : (step : Step) (p q : Ends) (r : Reply) → Steps step p r q → (w : World) → Fits p w
    → LeadsSafely step r w q
step_leads step p q r h w fits =
    step_at q r w (subst (λ (z : Ends). Fits z w) fits.stand.is fits) step
    (subst (λ (z : Ends). Steps step z r q) fits.stand.is h)
