-- A run of the contract of one association is a list of calls of one side.
use Rattle.std.proofs.Common.{◌≡◌, refl, sym, ap, ◌∙◌, subst, inl, inr, ℕ, Bool, true, false, if◌then◌else◌}
use Rattle.std.proofs.Common.{List, [], ◌∷◌, ◌++◌, Option, Some, None, is_some}
use Rattle.std.specs.List.{flat_map}
use Rattle.std.proofs.lemmas.Bool.{true≢false}
use Rattle.std.proofs.lemmas.List.{append_assoc, append-nil}
use Rattle.sctp_wire_types.specs.declared.error.Error.{Error}
use Rattle.sctp_wire_types.specs.declared.ids.PayloadProtocolIdentifier.{PayloadProtocolIdentifier}
use Rattle.sctp_wire.specs.declared.packet.Packet.{Packet}
use Rattle.sctp_parts.specs.declared.shared.EndpointEvent.{EndpointEvent}
use Rattle.sctp_receive_queues.specs.Messages.{ReceivedMessage}
use Rattle.sctp_streams.specs.declared.event.Event.{Event}
use Rattle.sctp_streams.specs.declared.setting.Setting.{Setting}
use Rattle.sctp_streams.specs.declared.setting.Setting.TheVariants as settings
use Rattle.sctp_streams.specs.Stream.{StreamView, params_of}
use Rattle.sctp_assoc.specs.declared.call.Call.{Call}
use Rattle.sctp_assoc.specs.declared.call.Call.TheVariants as calls
use Rattle.sctp_assoc.specs.declared.call.Reply.{Reply}
use Rattle.sctp_assoc.specs.declared.call.Reply.TheVariants as replies
use Rattle.sctp_assoc.specs.Abstract.{AbstractAssociation, IsRun, abstract}
use Rattle.sctp_assoc.specs.Calls.{first_filled, first_refusal, gone_refusal, stream_refusal}
use Rattle.sctp_assoc.specs.Replies.{AcceptsStream, Buffers, ClosesOne, ClosesStream, Expires, Fails, Finds, GivesOut}
use Rattle.sctp_assoc.specs.Replies.{Limits, Lists, Measures, OnlyAnswers, Opens, PollsEndpointEvent, PollsEvent}
use Rattle.sctp_assoc.specs.Replies.{Reads, Replies, Sets, ShowsOrRefuses, ShutsDown, Stops, TakesPacket, Writes}
use Rattle.sctp_assoc.specs.Replies.{WritesFirst, packet_in}
use Rattle.sctp_assoc.specs.Shown.{Shown}
use Rattle.sctp_sides.specs.OneSide as side
use Rattle.sctp_sides.specs.OneSide.{Calls, IsFresh, call_refusal, carried_out, has_a_middle, with_told}
use Rattle.sctp_sides.specs.Runs.{LostRunsEndClosed, OverEachRun, RunsAreListsOfCalls, RunsTellFinalsOnce}
use Rattle.sctp_sides.specs.Runs.{RunsTellOneLoss, side_calls_of, told_in}
use Rattle.sctp_sides.specs.Witnesses.{AfterEveryRun}
use Rattle.sctp_sides.proofs.GenerationsOverRuns.{finals_are_told_once}
use Rattle.sctp_sides.proofs.LossToldOnce.{losses_are_told_once}
use Rattle.sctp_sides.proofs.TimersOverRuns.{lost_sides_wait_for_nothing}

-- What is not refused

pub own_unrefused : (first own : Option Error) → first_refusal first own ≡ None → own ≡ None
own_unrefused None own e = e
own_unrefused (Some fault) own e = absurd (true≢false (ap is_some e))

pub works_unrefused : (failed : Bool) (fault : Error) → failed ≡ false → (if failed then Some fault else None) ≡ None
works_unrefused false fault e = refl
works_unrefused true fault e = absurd (true≢false e)

-- a stream that is lent is not gone
lent_is_there : (failed there : Bool) (fault missing gone : Error)
    → (if failed then Some fault else if there then None else Some missing) ≡ None
    → (if failed then Some fault else if there then None else Some gone) ≡ None
lent_is_there true there fault missing gone e = absurd (true≢false (ap is_some e))
lent_is_there false true fault missing gone e = refl
lent_is_there false false fault missing gone e = absurd (true≢false (ap is_some e))

pub set_unrefused : (a : Shown) (id : ℕ) → stream_refusal a id ≡ None → gone_refusal a id ≡ None
set_unrefused a id e = lent_is_there a.failed _ _ _ _ e

-- Lists of calls

-- one call, and none
one_call : (call : side.Call) (told : List Event) (a b : Shown) → Calls call told a b → side.IsRun (call ∷ []) told a b
one_call call told a b called = record {
  middle = b;
  first = told;
  later = [];
  called = called;
  others = record { same = refl; silent = refl };
  in_order = sym (append-nil told);
}

-- lists of calls one after the other
pub runs_joined : (cs ds : List side.Call) (told later : List Event) (a m b : Shown) → side.IsRun cs told a m
    → side.IsRun ds later m b → side.IsRun (cs ++ ds) (told ++ later) a b
runs_joined [] ds told later a m b first second =
    subst (λ (z : List Event). side.IsRun ds (z ++ later) a b) (sym first.silent)
    (subst (λ (z : Shown). side.IsRun ds later z b) first.same second)
runs_joined (c ∷ cs) ds told later a m b first second = record {
  middle = first.middle;
  first = first.first;
  later = first.later ++ later;
  called = first.called;
  others = runs_joined cs ds first.later later first.middle m b first.others second;
  in_order =
      ap (λ (z : List Event). z ++ later) first.in_order ∙ append_assoc first.first first.later later;
}

-- One call of one side

module _ (a b : Shown) where
  carried : (call : side.Call) (told : List Event) → call_refusal call a ≡ None → carried_out call a ≡ (b, told)
      → side.IsRun (call ∷ []) told a b
  carried call told accepted there = one_call call told a b (inl (record { accepted = accepted; there = there }))

  -- one that tells no event
  carried_silently : (call : side.Call) → call_refusal call a ≡ None → carried_out call a ≡ (b, [])
      → side.IsRun (call ∷ []) [] a b
  carried_silently call accepted there = carried call [] accepted there

  refused : (call : side.Call) → b ≡ a → side.IsRun (call ∷ []) [] a b
  refused call same = one_call call [] a b (inr (inl (record { same = same; silent = refl })))

  failed : (call : side.Call) (n : ℕ) → has_a_middle call ≡ true → Fails a n b → side.IsRun (call ∷ []) [] a b
  failed call n middle h =
      one_call call [] a b
      (inr (inr (record { working = h.0; middle = middle; failed = h.2; silent = refl })))

  -- a question
  unchanged : (told : List Event) → b ≡ a → told ≡ [] → side.IsRun [] told a b
  unchanged told same silent = record { same = same; silent = silent }

  opens_listed : (id : ℕ) (kind : PayloadProtocolIdentifier) (r : Reply) → Opens a id kind r b
      → side.IsRun (side.Call.OpenStream id kind ∷ []) (told_in r) a b
  opens_listed id kind replies.Done h =
      carried_silently (side.Call.OpenStream id kind) h.0 (ap (λ (z : Shown). (z, [])) (sym h.1))
  opens_listed id kind (replies.Refused n) h = refused (side.Call.OpenStream id kind) h.1
  opens_listed id kind r h = absurd h

  writes_listed : (id : ℕ) (named : Option PayloadProtocolIdentifier) (bytes : List ℕ) (r : Reply)
      → Writes a id named bytes r b → side.IsRun (side.Call.Write id named bytes ∷ []) (told_in r) a b
  writes_listed id named bytes (replies.Wrote n) h =
      carried_silently (side.Call.Write id named bytes) (own_unrefused _ _ h.0)
      (ap (λ (z : Shown). (z, [])) (sym h.2))
  writes_listed id named bytes (replies.Refused n) h = refused (side.Call.Write id named bytes) h.1
  writes_listed id named bytes r h = absurd h

  writes_first_listed : (id : ℕ) (buffers : List (List ℕ)) (r : Reply) → WritesFirst a id buffers r b
      → side.IsRun (side.Call.Write id None (first_filled buffers) ∷ []) (told_in r) a b
  writes_first_listed id buffers (replies.Wrote n) h = writes_listed id None (first_filled buffers) (replies.Wrote n) h
  writes_first_listed id buffers (replies.Refused n) h = refused (side.Call.Write id None (first_filled buffers)) h.1
  writes_first_listed id buffers r h = absurd h

  reads_listed : (id : ℕ) (r : Reply) → Reads a id r b → side.IsRun (side.Call.Read id ∷ []) (told_in r) a b
  reads_listed id (replies.Read message) h =
      carried_silently (side.Call.Read id) (own_unrefused _ _ h.0)
      (ap (λ (x : Shown × Option ReceivedMessage). (x.0, [])) h.1)
  reads_listed id (replies.Refused n) (inl h) = refused (side.Call.Read id) h.1
  reads_listed id (replies.Refused n) (inr h) = failed (side.Call.Read id) n refl h.1
  reads_listed id r h = absurd h

  stops_listed : (id : ℕ) (r : Reply) → Stops a id r b → side.IsRun (side.Call.Stop id ∷ []) (told_in r) a b
  stops_listed id replies.Done h =
      carried_silently (side.Call.Stop id) (own_unrefused _ _ h.0) (ap (λ (z : Shown). (z, [])) (sym h.1))
  stops_listed id (replies.Refused n) (inl h) = refused (side.Call.Stop id) h.1
  stops_listed id (replies.Refused n) (inr h) = failed (side.Call.Stop id) n refl h.2
  stops_listed id r h = absurd h

  closes_stream_listed : (id : ℕ) (r : Reply) → ClosesStream a id r b
      → side.IsRun (side.Call.CloseStream id ∷ []) (told_in r) a b
  closes_stream_listed id replies.Done h =
      carried_silently (side.Call.CloseStream id) (own_unrefused _ _ h.0) (ap (λ (z : Shown). (z, [])) (sym h.1))
  closes_stream_listed id (replies.Refused n) (inl h) = refused (side.Call.CloseStream id) h.1
  closes_stream_listed id (replies.Refused n) (inr h) = failed (side.Call.CloseStream id) n refl h.2
  closes_stream_listed id r h = absurd h

  sets_listed : (id : ℕ) (setting : Setting) (r : Reply) → Sets a id setting r b
      → side.IsRun (side.Call.Set id setting ∷ []) (told_in r) a b
  sets_listed id setting replies.Done h =
      carried_silently (side.Call.Set id setting) (set_unrefused a id h.0) (ap (λ (z : Shown). (z, [])) (sym h.1))
  sets_listed id setting (replies.Refused n) h = refused (side.Call.Set id setting) h.1
  sets_listed id setting r h = absurd h

  accepts_listed : (r : Reply) → AcceptsStream a r b → side.IsRun (side.Call.AcceptStream ∷ []) (told_in r) a b
  accepts_listed (replies.Accepted id) h =
      carried_silently side.Call.AcceptStream refl (ap (λ (x : Shown × Option ℕ). (x.0, [])) h)
  accepts_listed r h = absurd h

  limits_listed : (size : ℕ) (r : Reply) → Limits a size r b
      → side.IsRun (side.Call.SetMaxSendMessageSize size ∷ []) (told_in r) a b
  limits_listed size replies.Done h =
      carried_silently (side.Call.SetMaxSendMessageSize size) refl (ap (λ (z : Shown). (z, [])) (sym h))
  limits_listed size r h = absurd h

  closes_listed : (r : Reply) → ClosesOne a r b → side.IsRun (side.Call.Close ∷ []) (told_in r) a b
  closes_listed replies.Done h =
      carried_silently side.Call.Close (works_unrefused a.failed _ h.0) (ap (λ (z : Shown). (z, [])) (sym h.1))
  closes_listed (replies.Refused n) (inl had) = refused side.Call.Close had.2
  closes_listed (replies.Refused n) (inr h) = failed side.Call.Close n refl h.1
  closes_listed r h = absurd h

  shuts_down_listed : (r : Reply) → ShutsDown a r b → side.IsRun (side.Call.Shutdown ∷ []) (told_in r) a b
  shuts_down_listed replies.Done h =
      carried_silently side.Call.Shutdown h.0 (ap (λ (z : Shown). (z, [])) (sym h.1))
  shuts_down_listed (replies.Refused n) h = refused side.Call.Shutdown h.1
  shuts_down_listed r h = absurd h

  endpoint_listed : (r : Reply) → PollsEndpointEvent a r b
      → side.IsRun (side.Call.PollEndpointEvent ∷ []) (told_in r) a b
  endpoint_listed (replies.EndpointEvent event) h =
      carried_silently side.Call.PollEndpointEvent refl
      (ap (λ (x : Shown × Option EndpointEvent). (x.0, [])) h)
  endpoint_listed r h = absurd h

  -- a poll for events, which tells the one that it gives
  polls_event_listed : (r : Reply) → PollsEvent a r b → side.IsRun (side.Call.Poll ∷ []) (told_in r) a b
  polls_event_listed (replies.Event event) h =
      carried side.Call.Poll (told_in (replies.Event event)) (works_unrefused a.failed _ h.0)
      (ap (λ (x : Shown × Option Event). with_told x) h.1)
  polls_event_listed (replies.Refused n) had = refused side.Call.Poll had.2
  polls_event_listed r h = absurd h

  expires_listed : (now : ℕ) (r : Reply) → Expires a now r b
      → side.IsRun (side.Call.HandleTimeout now ∷ []) (told_in r) a b
  expires_listed now replies.Done h =
      carried_silently (side.Call.HandleTimeout now) (works_unrefused a.failed _ h.0)
      (ap (λ (z : Shown). (z, [])) (sym h.1))
  expires_listed now (replies.Refused n) (inl had) = refused (side.Call.HandleTimeout now) had.2
  expires_listed now (replies.Refused n) (inr h) = failed (side.Call.HandleTimeout now) n refl h.1
  expires_listed now r h = absurd h

  takes_listed : (packet : Option Packet) (now : ℕ) (r : Reply) → TakesPacket a packet now r b
      → side.IsRun (side.Call.HandleEvent packet now ∷ []) (told_in r) a b
  takes_listed packet now replies.Done h =
      carried_silently (side.Call.HandleEvent packet now) (works_unrefused a.failed _ h.0)
      (ap (λ (z : Shown). (z, [])) (sym h.1))
  takes_listed packet now (replies.Refused n) (inl had) = refused (side.Call.HandleEvent packet now) had.2
  takes_listed packet now (replies.Refused n) (inr (inl h)) = failed (side.Call.HandleEvent packet now) n refl h.1
  takes_listed packet now (replies.Refused n) (inr (inr lacks)) = refused (side.Call.HandleEvent packet now) lacks.2
  takes_listed packet now r h = absurd h

  gives_listed : (packets more : List (List ℕ)) (now : ℕ) (r : Reply) → GivesOut a packets now r b more
      → side.IsRun (side.Call.PollTransmit now ∷ []) (told_in r) a b
  gives_listed packets more now replies.NothingSent h =
      carried_silently (side.Call.PollTransmit now) (works_unrefused a.failed _ h.0)
      (ap (λ (x : Shown × List (List ℕ)). (x.0, [])) h.1)
  gives_listed packets more now (replies.Sent first count) h =
      carried_silently (side.Call.PollTransmit now) (works_unrefused a.failed _ h.0)
      (ap (λ (z : Shown). (z, [])) h.4)
  gives_listed packets more now (replies.Refused n) (inl had) = refused (side.Call.PollTransmit now) had.0.2
  gives_listed packets more now (replies.Refused n) (inr (inl h)) = failed (side.Call.PollTransmit now) n refl h.1
  gives_listed packets more now (replies.Refused n) (inr (inr loses)) =
      carried_silently (side.Call.PollTransmit now) (works_unrefused a.failed _ loses.0)
      (ap (λ (z : Shown). (z, [])) loses.2)
  gives_listed packets more now r h = absurd h

  -- Questions

  answers_listed : (answer r : Reply) → told_in answer ≡ [] → OnlyAnswers a answer r b
      → side.IsRun [] (told_in r) a b
  answers_listed answer r silent h = unchanged (told_in r) h.1 (ap told_in h.0 ∙ silent)

  shows_listed : (id : ℕ) (answer : StreamView → Reply) (r : Reply) → ((s : StreamView) → told_in (answer s) ≡ [])
      → ShowsOrRefuses a id answer r b → side.IsRun [] (told_in r) a b
  shows_listed id answer r silent (inl shown) =
      unchanged (told_in r) shown.same (ap told_in shown.answered ∙ silent shown.stream)
  shows_listed id answer r silent (inr refusal) = unchanged (told_in r) refusal.3 (ap told_in refusal.1)

  finds_listed : (id : ℕ) (r : Reply) → Finds a id r b → side.IsRun [] (told_in r) a b
  finds_listed id replies.Done h = unchanged [] h.1 refl
  finds_listed id (replies.Refused n) h = unchanged [] h.1 refl
  finds_listed id r h = absurd h

  lists_listed : (r : Reply) → Lists a r b → side.IsRun [] (told_in r) a b
  lists_listed (replies.StreamIds ids) h = unchanged [] h.2 refl
  lists_listed (replies.Refused n) (inl had) = unchanged [] had.2 refl
  lists_listed (replies.Refused n) (inr lacks) = unchanged [] lacks.2 refl
  lists_listed r h = absurd h

  buffers_listed : (id : ℕ) (r : Reply) → Buffers a id r b → side.IsRun [] (told_in r) a b
  buffers_listed id (replies.BufferedAmount n) h = unchanged [] h.1 refl
  buffers_listed id (replies.Refused n) h = unchanged [] h.1 refl
  buffers_listed id r h = absurd h

  measures_listed : (r : Reply) → Measures a r b → side.IsRun [] (told_in r) a b
  measures_listed (replies.Rtt duration) h = unchanged [] h.1 refl
  measures_listed r h = absurd h

  -- Any call

  pub listed : (call : Call) (packets more : List (List ℕ)) (r : Reply) → Replies call a packets r b more
      → side.IsRun (side_calls_of call) (told_in r) a b
  listed (calls.OpenStream id kind) packets more r h = opens_listed id kind r h.0
  listed (calls.Stream id) packets more r h = finds_listed id r h.0
  listed calls.AcceptStream packets more r h = accepts_listed r h.0
  listed calls.StreamIds packets more r h = lists_listed r h.0
  listed (calls.SetMaxSendMessageSize size) packets more r h = limits_listed size r h.0
  listed (calls.Write id bytes) packets more r h = writes_listed id None bytes r h.0
  listed (calls.WriteWithPpi id bytes kind) packets more r h = writes_listed id (Some kind) bytes r h.0
  listed (calls.WriteSctp id bytes kind) packets more r h = writes_listed id (Some kind) bytes r h.0
  listed (calls.WriteChunk id bytes) packets more r h = writes_listed id None bytes r h.0
  listed (calls.WriteChunks id buffers) packets more r h = writes_first_listed id buffers.items r h.0
  listed (calls.Read id) packets more r h = reads_listed id r h.0
  listed (calls.ReadSctp id) packets more r h = reads_listed id r h.0
  listed (calls.Finish id) packets more r h = sets_listed id settings.WriteHalfClosed r h.0
  listed (calls.Stop id) packets more r h = stops_listed id r h.0
  listed (calls.CloseStream id) packets more r h = closes_stream_listed id r h.0
  listed (calls.SetReliabilityParams id unordered kind value) packets more r h =
      sets_listed id (settings.Reliability (params_of unordered kind value)) r h.0
  listed (calls.SetDefaultPayloadType id kind) packets more r h =
      sets_listed id (settings.DefaultPayloadType kind) r h.0
  listed (calls.SetBufferedAmountLowThreshold id bytes) packets more r h = sets_listed id (settings.LowMark bytes) r h.0
  listed (calls.SetBufferedAmountHighThreshold id bytes) packets more r h =
      sets_listed id (settings.HighMark bytes) r h.0
  listed (calls.StreamStats id) packets more r h = shows_listed id _ r (λ s. refl) h.0
  listed (calls.IsReadable id) packets more r h = shows_listed id _ r (λ s. refl) h.0
  listed (calls.IsWritable id) packets more r h = shows_listed id _ r (λ s. refl) h.0
  listed (calls.StreamIdentifier id) packets more r h = shows_listed id _ r (λ s. refl) h.0
  listed (calls.GetDefaultPayloadType id) packets more r h = shows_listed id _ r (λ s. refl) h.0
  listed (calls.BufferedAmountLowThreshold id) packets more r h = shows_listed id _ r (λ s. refl) h.0
  listed (calls.BufferedAmountHighThreshold id) packets more r h = shows_listed id _ r (λ s. refl) h.0
  listed (calls.BufferedAmount id) packets more r h = buffers_listed id r h.0
  listed calls.Shutdown packets more r h = shuts_down_listed r h.0
  listed calls.Close packets more r h = closes_listed r h.0
  listed calls.Poll packets more r h = polls_event_listed r h.0
  listed calls.PollEndpointEvent packets more r h = endpoint_listed r h.0
  listed calls.PollTimeout packets more r h = answers_listed _ r refl h.0
  listed (calls.PollTransmit now) packets more r h = gives_listed packets more now r h
  listed (calls.HandleTimeout now) packets more r h = expires_listed now r h.0
  listed (calls.HandleDatagram datagram remote now) packets more r h = takes_listed (packet_in datagram) now r h.0
  listed calls.IsHandshaking packets more r h = answers_listed _ r refl h.0
  listed calls.IsClosed packets more r h = answers_listed _ r refl h.0
  listed calls.IsClosing packets more r h = answers_listed _ r refl h.0
  listed calls.IsDrained packets more r h = answers_listed _ r refl h.0
  listed calls.IsFailed packets more r h = answers_listed _ r refl h.0
  listed calls.Rtt packets more r h = measures_listed r h.0
  listed calls.Stats packets more r h = answers_listed _ r refl h.0
  listed calls.Side packets more r h = answers_listed _ r refl h.0
  listed calls.RemoteAddr packets more r h = answers_listed _ r refl h.0
  listed calls.LocalIp packets more r h = answers_listed _ r refl h.0

-- A run

pub run_listed : (cs : List Call) (rs : List Reply) (s t : AbstractAssociation) (packets more : List (List ℕ))
    → IsRun cs s packets rs t more → side.IsRun (flat_map side_calls_of cs) (flat_map told_in rs) s.shown t.shown
run_listed [] [] s t packets more run = record { same = ap (λ (z : AbstractAssociation). z.shown) run.0; silent = refl }
run_listed [] (r ∷ rs) s t packets more run = absurd run
run_listed (c ∷ cs) [] s t packets more run = absurd run
run_listed (c ∷ cs) (r ∷ rs) s t packets more (u, given, step, others) =
    runs_joined (side_calls_of c) (flat_map side_calls_of cs) (told_in r) (flat_map told_in rs) s.shown u.shown t.shown
    (listed s.shown u.shown c packets given r step.replied) (run_listed cs rs u t given more others)

pub runs_are_lists_of_calls : RunsAreListsOfCalls
runs_are_lists_of_calls made answers a b packets more h run stands =
    let led = run.from h stands in run_listed made answers (abstract a h) (abstract b led.0) packets more led.1

-- what holds after every list of calls of one side holds over each run
pub laws_hold_over_runs : (Holds : List Event → Shown → Type 0) → AfterEveryRun Holds → OverEachRun IsFresh Holds
laws_hold_over_runs Holds law made answers a b packets more h run stands fresh =
    law (flat_map side_calls_of made) (flat_map told_in answers) a b fresh
    (runs_are_lists_of_calls made answers a b packets more h run stands)

pub runs_tell_one_loss : RunsTellOneLoss
runs_tell_one_loss = laws_hold_over_runs _ losses_are_told_once

pub lost_runs_end_closed : LostRunsEndClosed
lost_runs_end_closed = laws_hold_over_runs _ lost_sides_wait_for_nothing

pub runs_tell_finals_once : RunsTellFinalsOnce
runs_tell_finals_once made answers a b packets more h run stands none =
    finals_are_told_once (flat_map side_calls_of made) (flat_map told_in answers) a b none
    (runs_are_lists_of_calls made answers a b packets more h run stands)
