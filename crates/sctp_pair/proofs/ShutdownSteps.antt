-- Each step of a pair leaves the shutdown of each side in order.
use Rattle.std.proofs.Common.{◌≡◌, sym, ap, ◌∙◌, subst, inl, inr, ℕ, true, false, List, Option, Some, None, slice_get}
use Rattle.std.proofs.lemmas.Bool.{true≢false}
use Rattle.sctp_receive_queues.specs.Messages.{ReceivedMessage}
use Rattle.sctp_streams.specs.declared.event.Event.{Event}
use Rattle.sctp_streams.specs.declared.setting.Setting.{Setting}
use Rattle.sctp_streams.specs.declared.setting.Setting.TheVariants as settings
use Rattle.sctp_streams.specs.Stream.{StreamView, is_read_half_open, params_of}
use Rattle.sctp_parts.specs.declared.shared.EndpointEvent.{EndpointEvent}
use Rattle.sctp_wire_types.specs.declared.ids.PayloadProtocolIdentifier.{PayloadProtocolIdentifier}
use Rattle.sctp_assoc.specs.Calls.{first_filled, is_writable}
use Rattle.sctp_assoc.specs.Shown.{Shown}
use Rattle.sctp_sides.specs.Ending.{IsInOrderOrLost, IsMade}
use Rattle.sctp_sides.specs.OneSide.{Call, carried_out, with_told}
use Rattle.sctp_sides.proofs.Proved.{accepted_streams_keep_the_status, endpoint_events_keep_the_status}
use Rattle.sctp_sides.proofs.Proved.{found_streams_are_live, limits_keep_the_status, opened_streams_were_not_live}
use Rattle.sctp_sides.proofs.Proved.{shutdowns_keep_the_stage, shutdowns_stay_in_order}
use Rattle.sctp_assoc.specs.declared.call.Reply.{Reply}
use Rattle.sctp_assoc.specs.declared.call.Reply.TheVariants as replies
use Rattle.sctp_assoc.proofs.Replied.{buffers_same, finds_same, lists_same, measures_same, shows_same}
use Rattle.sctp_steps.specs.declared.step.Side2.{Side2}
use Rattle.sctp_steps.specs.declared.step.Side2.TheVariants as sides
use Rattle.sctp_steps.specs.declared.step.Step.{Step}
use Rattle.sctp_steps.specs.declared.step.Step.TheVariants as steps
use Rattle.sctp_steps.specs.Ends.{Ends, end_of}
use Rattle.sctp_pair.specs.Fits.{EndsInOrder}
use Rattle.sctp_assoc.specs.Replies.{AcceptsStream, Buffers, ClosesOne, ClosesStream, Expires, Finds}
use Rattle.sctp_steps.specs.Steps.{AtSide, ComesTo, Delivers}
use Rattle.sctp_assoc.specs.Replies.{GivesOut, Limits, Lists, Measures, Opens, PollsEndpointEvent, PollsEvent, Reads}
use Rattle.sctp_assoc.specs.Replies.{Sets, ShowsOrRefuses, ShutsDown, Stops, TakesIn, Writes, WritesFirst, packet_in}
use Rattle.sctp_steps.specs.Steps.{SendsAt, Steps}
use Rattle.sctp_pair.proofs.ReadCall.{found_none}
use Rattle.sctp_pair.proofs.WriteCall.{first_none}

-- One call

same_ends : {a b : Shown} → b ≡ a → EndsInOrder a → EndsInOrder b
same_ends e h = subst EndsInOrder (sym e) h

failed_ends : (b : Shown) → b.failed ≡ true → EndsInOrder b
failed_ends b failed works = absurd (true≢false (sym failed ∙ works))

-- a call that was carried out
made_ends : (call : Call) (a b : Shown) → IsMade call a → (carried_out call a).0 ≡ b
    → (b.failed ≡ false → a.failed ≡ false) → EndsInOrder a → EndsInOrder b
made_ends call a b made e working h works =
    subst IsInOrderOrLost e
    (shutdowns_stay_in_order call a made (ap (λ (z : Shown). z.failed) e ∙ works) (h (working works)))

opens_end : (a b : Shown) (id : ℕ) (kind : PayloadProtocolIdentifier) (r : Reply) → Opens a id kind r b
    → EndsInOrder a → EndsInOrder b
opens_end a b id kind replies.Done h =
    made_ends (Call.OpenStream id kind) a b tt (sym h.1) (λ works. (opened_streams_were_not_live a id h.0).0)
opens_end a b id kind (replies.Refused n) h = same_ends h.1
opens_end a b id kind r h = absurd h

writes_end : (a b : Shown) (id : ℕ) (named : Option PayloadProtocolIdentifier) (bytes : List ℕ) (r : Reply)
    → Writes a id named bytes r b → EndsInOrder a → EndsInOrder b
writes_end a b id named bytes (replies.Wrote n) h =
    made_ends (Call.Write id named bytes) a b (first_none _ _ h.0) (sym h.2)
    (λ works. (found_streams_are_live a id (found_none _ _ h.0)).working)
writes_end a b id named bytes (replies.Refused n) h = same_ends h.1
writes_end a b id named bytes r h = absurd h

first_writes_end : (a b : Shown) (id : ℕ) (buffers : List (List ℕ)) (r : Reply) → WritesFirst a id buffers r b
    → EndsInOrder a → EndsInOrder b
first_writes_end a b id buffers (replies.Wrote n) h = writes_end a b id None (first_filled buffers) (replies.Wrote n) h
first_writes_end a b id buffers (replies.Refused n) h = same_ends h.1
first_writes_end a b id buffers r h = absurd h

reads_end : (a b : Shown) (id : ℕ) (r : Reply) → Reads a id r b → EndsInOrder a → EndsInOrder b
reads_end a b id (replies.Read message) h =
    made_ends (Call.Read id) a b tt (ap (λ (z : Shown × Option ReceivedMessage). z.0) h.1)
    (λ works. (found_streams_are_live a id (found_none _ _ h.0)).working)
reads_end a b id (replies.Refused n) (inl refused) = same_ends refused.1
reads_end a b id (replies.Refused n) (inr fails) = λ e. failed_ends b fails.1.2.marked
reads_end a b id r h = absurd h

stops_end : (a b : Shown) (id : ℕ) (r : Reply) → Stops a id r b → EndsInOrder a → EndsInOrder b
stops_end a b id replies.Done h =
    made_ends (Call.Stop id) a b tt (sym h.1) (λ works. (found_streams_are_live a id (found_none _ _ h.0)).working)
stops_end a b id (replies.Refused n) (inl refused) = same_ends refused.1
stops_end a b id (replies.Refused n) (inr fails) = λ e. failed_ends b fails.2.2.marked
stops_end a b id r h = absurd h

closes_stream_end : (a b : Shown) (id : ℕ) (r : Reply) → ClosesStream a id r b → EndsInOrder a → EndsInOrder b
closes_stream_end a b id replies.Done h =
    made_ends (Call.CloseStream id) a b tt (sym h.1)
    (λ works. (found_streams_are_live a id (found_none _ _ h.0)).working)
closes_stream_end a b id (replies.Refused n) (inl refused) = same_ends refused.1
closes_stream_end a b id (replies.Refused n) (inr fails) = λ e. failed_ends b fails.2.2.marked
closes_stream_end a b id r h = absurd h

pub sets_end : (a b : Shown) (id : ℕ) (setting : Setting) (r : Reply) → Sets a id setting r b → EndsInOrder a
    → EndsInOrder b
sets_end a b id setting replies.Done h =
    made_ends (Call.Set id setting) a b tt (sym h.1) (λ works. (found_streams_are_live a id h.0).working)
sets_end a b id setting (replies.Refused n) h = same_ends h.1
sets_end a b id setting r h = absurd h

accepts_end : (a b : Shown) (r : Reply) → AcceptsStream a r b → EndsInOrder a → EndsInOrder b
accepts_end a b (replies.Accepted id) h =
    let is = ap (λ (z : Shown × Option ℕ). z.0) h in
    made_ends Call.AcceptStream a b tt is
    (λ works. sym (accepted_streams_keep_the_status a).0.failed ∙ ap (λ (z : Shown). z.failed) is ∙ works)
accepts_end a b r h = absurd h

limits_end : (a b : Shown) (size : ℕ) (r : Reply) → Limits a size r b → EndsInOrder a → EndsInOrder b
limits_end a b size replies.Done h =
    made_ends (Call.SetMaxSendMessageSize size) a b tt (sym h)
    (λ works. sym (limits_keep_the_status a size).0.failed ∙ ap (λ (z : Shown). z.failed) (sym h) ∙ works)
limits_end a b size r h = absurd h

shutdowns_end : (a b : Shown) (r : Reply) → ShutsDown a r b → EndsInOrder a → EndsInOrder b
shutdowns_end a b replies.Done h =
    made_ends Call.Shutdown a b h.0 (sym h.1)
    (λ works. sym (shutdowns_keep_the_stage a h.0).0.failed ∙ ap (λ (z : Shown). z.failed) (sym h.1) ∙ works)
shutdowns_end a b (replies.Refused n) h = same_ends h.1
shutdowns_end a b r h = absurd h

closes_end : (a b : Shown) (r : Reply) → ClosesOne a r b → EndsInOrder a → EndsInOrder b
closes_end a b replies.Done h = made_ends Call.Close a b tt (sym h.1) (λ works. h.0)
closes_end a b (replies.Refused n) (inl had) = same_ends had.2
closes_end a b (replies.Refused n) (inr fails) = λ e. failed_ends b fails.1.2.marked
closes_end a b r h = absurd h

polls_end : (a b : Shown) (r : Reply) → PollsEvent a r b → EndsInOrder a → EndsInOrder b
polls_end a b (replies.Event event) h =
    made_ends Call.Poll a b tt (ap (λ (z : Shown × Option Event). (with_told z).0) h.1) (λ works. h.0)
polls_end a b (replies.Refused n) h = same_ends h.2
polls_end a b r h = absurd h

endpoint_polls_end : (a b : Shown) (r : Reply) → PollsEndpointEvent a r b → EndsInOrder a → EndsInOrder b
endpoint_polls_end a b (replies.EndpointEvent event) h =
    let is = ap (λ (z : Shown × Option EndpointEvent). z.0) h in
    made_ends Call.PollEndpointEvent a b tt is
    (λ works. sym (endpoint_events_keep_the_status a).0.failed ∙ ap (λ (z : Shown). z.failed) is ∙ works)
endpoint_polls_end a b r h = absurd h

expires_end : (a b : Shown) (now : ℕ) (r : Reply) → Expires a now r b → EndsInOrder a → EndsInOrder b
expires_end a b now replies.Done h = made_ends (Call.HandleTimeout now) a b tt (sym h.1) (λ works. h.0)
expires_end a b now (replies.Refused n) (inl had) = same_ends had.2
expires_end a b now (replies.Refused n) (inr fails) = λ e. failed_ends b fails.1.2.marked
expires_end a b now r h = absurd h

gives_end : (a b : Shown) (packets more : List (List ℕ)) (now : ℕ) (r : Reply) → GivesOut a packets now r b more
    → EndsInOrder a → EndsInOrder b
gives_end a b packets more now replies.NothingSent h =
    made_ends (Call.PollTransmit now) a b tt (ap (λ (z : Shown × List (List ℕ)). z.0) h.1) (λ works. h.0)
gives_end a b packets more now (replies.Sent first count) h =
    made_ends (Call.PollTransmit now) a b tt h.4 (λ works. h.0)
gives_end a b packets more now (replies.Refused n) (inl had) = same_ends had.0.2
gives_end a b packets more now (replies.Refused n) (inr (inl fails)) = λ e. failed_ends b fails.1.2.marked
gives_end a b packets more now (replies.Refused n) (inr (inr loses)) =
    made_ends (Call.PollTransmit now) a b tt loses.2 (λ works. loses.0)
gives_end a b packets more now r h = absurd h

takes_end : (a b : Shown) (bytes : List ℕ) (now : ℕ) (r : Reply) → TakesIn a bytes now r b → EndsInOrder a
    → EndsInOrder b
takes_end a b bytes now replies.Done h =
    made_ends (Call.HandleEvent (packet_in bytes) now) a b tt (sym h.1) (λ works. h.0)
takes_end a b bytes now (replies.Refused n) (inl had) = same_ends had.2
takes_end a b bytes now (replies.Refused n) (inr (inl fails)) = λ e. failed_ends b fails.1.2.marked
takes_end a b bytes now (replies.Refused n) (inr (inr lacks)) = same_ends lacks.2
takes_end a b bytes now r h = absurd h

delivers_end : (a b : Shown) (found : Option (List ℕ)) (now : ℕ) (r : Reply) → Delivers a found now r b
    → EndsInOrder a → EndsInOrder b
delivers_end a b None now replies.NoSuchPacket h = same_ends h
delivers_end a b None now r h = absurd h
delivers_end a b (Some bytes) now r h = takes_end a b bytes now r h

-- One step

-- a call of one side leaves the other side as it was
at_side : (side x : Side2) (p q : Ends) (Changes : Shown → Shown → Type 0)
    → ((a b : Shown) → Changes a b → EndsInOrder a → EndsInOrder b) → AtSide side p Changes q
    → EndsInOrder (end_of x p) → EndsInOrder (end_of x q)
at_side sides.A sides.A p q Changes ends h = ends p.a q.a h.0
at_side sides.A sides.B p q Changes ends h = same_ends (ap (λ (z : Ends). z.b) h.1)
at_side sides.B sides.A p q Changes ends h = same_ends (ap (λ (z : Ends). z.a) h.1)
at_side sides.B sides.B p q Changes ends h = ends p.b q.b h.0

sends_at : (side x : Side2) (p q : Ends) (now : ℕ) (r : Reply) → SendsAt side p now r q
    → EndsInOrder (end_of x p) → EndsInOrder (end_of x q)
sends_at sides.A sides.A p q now r h = gives_end p.a q.a p.packets_a q.packets_a now r h.0
sends_at sides.A sides.B p q now r h = same_ends (ap (λ (z : Ends). z.b) h.1)
sends_at sides.B sides.A p q now r h = same_ends (ap (λ (z : Ends). z.a) h.1)
sends_at sides.B sides.B p q now r h = gives_end p.b q.b p.packets_b q.packets_b now r h.0

comes_to : (side x : Side2) (p q : Ends) (number now : ℕ) (r : Reply) → ComesTo side p number now r q
    → EndsInOrder (end_of x p) → EndsInOrder (end_of x q)
comes_to sides.A sides.A p q number now r h = delivers_end p.a q.a (slice_get p.packets_b number) now r h.0
comes_to sides.A sides.B p q number now r h = same_ends (ap (λ (z : Ends). z.b) h.1)
comes_to sides.B sides.A p q number now r h = same_ends (ap (λ (z : Ends). z.a) h.1)
comes_to sides.B sides.B p q number now r h = delivers_end p.b q.b (slice_get p.packets_a number) now r h.0

-- Either side ends in order after each step where it did so before it.
module _ (r : Reply) (p q : Ends) (x : Side2) where
  abbrev Ending : Type 0
  Ending = EndsInOrder (end_of x p) → EndsInOrder (end_of x q)

  question : (side : Side2) (Asks : Shown → Shown → Type 0) → ((a b : Shown) → Asks a b → b ≡ a)
      → AtSide side p Asks q → Ending
  question side Asks stays h = at_side side x p q Asks (λ a b c. same_ends (stays a b c)) h

  shown : (side : Side2) (id : ℕ) (answer : StreamView → Reply)
      → AtSide side p (λ a b. ShowsOrRefuses a id answer r b) q → Ending
  shown side id answer h =
      question side (λ a b. ShowsOrRefuses a id answer r b) (λ a b c. shows_same a id answer r b c) h

  written : (side : Side2) (id : ℕ) (named : Option PayloadProtocolIdentifier) (bytes : List ℕ)
      → AtSide side p (λ a b. Writes a id named bytes r b) q → Ending
  written side id named bytes h =
      at_side side x p q (λ a b. Writes a id named bytes r b) (λ a b c. writes_end a b id named bytes r c) h

  setting_at : (side : Side2) (id : ℕ) (setting : Setting) → AtSide side p (λ a b. Sets a id setting r b) q → Ending
  setting_at side id setting h =
      at_side side x p q (λ a b. Sets a id setting r b) (λ a b c. sets_end a b id setting r c) h

  step_ends : (step : Step) → Steps step p r q → Ending
  step_ends (steps.OpenStream side id kind) h =
      at_side side x p q (λ a b. Opens a id kind r b) (λ a b c. opens_end a b id kind r c) h
  step_ends (steps.Stream side id) h = question side (λ a b. Finds a id r b) (λ a b c. finds_same a id r b c) h
  step_ends (steps.Write side id bytes) h = written side id None bytes h
  step_ends (steps.WriteWithPpi side id bytes kind) h = written side id (Some kind) bytes h
  step_ends (steps.WriteSctp side id bytes kind) h = written side id (Some kind) bytes h
  step_ends (steps.WriteChunk side id bytes) h = written side id None bytes h
  step_ends (steps.WriteChunks side id chunks) h =
      at_side side x p q (λ a b. WritesFirst a id chunks.items r b)
      (λ a b c. first_writes_end a b id chunks.items r c) h
  step_ends (steps.Read side id) h = at_side side x p q (λ a b. Reads a id r b) (λ a b c. reads_end a b id r c) h
  step_ends (steps.ReadSctp side id) h = at_side side x p q (λ a b. Reads a id r b) (λ a b c. reads_end a b id r c) h
  step_ends (steps.Finish side id) h = setting_at side id settings.WriteHalfClosed h
  step_ends (steps.Stop side id) h = at_side side x p q (λ a b. Stops a id r b) (λ a b c. stops_end a b id r c) h
  step_ends (steps.CloseStream side id) h =
      at_side side x p q (λ a b. ClosesStream a id r b) (λ a b c. closes_stream_end a b id r c) h
  step_ends (steps.SetReliabilityParams side id unordered kind value) h =
      setting_at side id (settings.Reliability (params_of unordered kind value)) h
  step_ends (steps.SetDefaultPayloadType side id kind) h = setting_at side id (settings.DefaultPayloadType kind) h
  step_ends (steps.SetBufferedAmountLowThreshold side id bytes) h = setting_at side id (settings.LowMark bytes) h
  step_ends (steps.SetBufferedAmountHighThreshold side id bytes) h = setting_at side id (settings.HighMark bytes) h
  step_ends (steps.StreamStats side id) h = shown side id (λ s. replies.StreamStats s.stats) h
  step_ends (steps.IsReadable side id) h = shown side id (λ s. replies.State (is_read_half_open s.halves)) h
  step_ends (steps.IsWritable side id) h =
      question side (λ a b. ShowsOrRefuses a id (λ s. replies.State (is_writable a id)) r b)
      (λ a b c. shows_same a id (λ s. replies.State (is_writable a id)) r b c) h
  step_ends (steps.StreamIdentifier side id) h = shown side id (λ s. replies.StreamIdentifier id) h
  step_ends (steps.GetDefaultPayloadType side id) h = shown side id (λ s. replies.PayloadType s.default_payload_type) h
  step_ends (steps.BufferedAmountLowThreshold side id) h = shown side id (λ s. replies.Threshold s.low_mark) h
  step_ends (steps.BufferedAmountHighThreshold side id) h = shown side id (λ s. replies.Threshold s.high_mark) h
  step_ends (steps.AcceptStream side) h =
      at_side side x p q (λ a b. AcceptsStream a r b) (λ a b c. accepts_end a b r c) h
  step_ends (steps.SetMaxSendMessageSize side size) h =
      at_side side x p q (λ a b. Limits a size r b) (λ a b c. limits_end a b size r c) h
  step_ends (steps.StreamIds side) h = question side (λ a b. Lists a r b) (λ a b c. lists_same a r b c) h
  step_ends (steps.Shutdown side) h = at_side side x p q (λ a b. ShutsDown a r b) (λ a b c. shutdowns_end a b r c) h
  step_ends (steps.Close side) h = at_side side x p q (λ a b. ClosesOne a r b) (λ a b c. closes_end a b r c) h
  step_ends (steps.BufferedAmount side id) h =
      question side (λ a b. Buffers a id r b) (λ a b c. buffers_same a id r b c) h
  step_ends (steps.Poll side) h = at_side side x p q (λ a b. PollsEvent a r b) (λ a b c. polls_end a b r c) h
  step_ends (steps.PollEndpointEvent side) h =
      at_side side x p q (λ a b. PollsEndpointEvent a r b) (λ a b c. endpoint_polls_end a b r c) h
  step_ends (steps.PollTimeout side) h = question side _ (λ a b c. c.1) h
  step_ends (steps.PollTransmit side now) h = sends_at side x p q now r h
  step_ends (steps.HandleTimeout side now) h =
      at_side side x p q (λ a b. Expires a now r b) (λ a b c. expires_end a b now r c) h
  step_ends (steps.Deliver side number now) h = comes_to side x p q number now r h
  step_ends (steps.IsHandshaking side) h = question side _ (λ a b c. c.1) h
  step_ends (steps.IsClosed side) h = question side _ (λ a b c. c.1) h
  step_ends (steps.IsClosing side) h = question side _ (λ a b c. c.1) h
  step_ends (steps.IsDrained side) h = question side _ (λ a b c. c.1) h
  step_ends (steps.IsFailed side) h = question side _ (λ a b c. c.1) h
  step_ends (steps.Rtt side) h = question side (λ a b. Measures a r b) (λ a b c. measures_same a r b c) h
  step_ends (steps.Stats side) h = question side _ (λ a b c. c.1) h
  step_ends (steps.Side side) h = question side _ (λ a b c. c.1) h
  step_ends (steps.RemoteAddr side) h = question side _ (λ a b c. c.1) h
  step_ends (steps.LocalIp side) h = question side _ (λ a b c. c.1) h

pub shutdowns_end_in_order : (step : Step) (r : Reply) (p q : Ends) (x : Side2) → Steps step p r q
    → EndsInOrder (end_of x p) → EndsInOrder (end_of x q)
shutdowns_end_in_order step r p q x h = step_ends r p q x step h
