-- Each step of a pair leaves what a side resets quiet: no DATA of a stream that its active request resets waits or is
-- in flight, nor does any where that request ended by the step.
use Rattle.std.proofs.Common.{◌≡◌, refl, sym, ap, ◌∙◌, subst, ◌⊎◌, ⊎_elim, inl, inr, ℕ, Bool, true, false}
use Rattle.std.proofs.Common.{if◌then◌else◌, List, [], ◌∷◌, Option, Some, None, slice_get}
use Rattle.std.proofs.lemmas.Bool.{true≢false}
use Rattle.std.proofs.lemmas.List.{append-nil}
use Rattle.std.specs.Prelude.{⊤}
use Rattle.sctp_wire_types.specs.declared.error.Error.{Error}
use Rattle.sctp_wire_types.specs.declared.ids.PayloadProtocolIdentifier.{PayloadProtocolIdentifier}
use Rattle.sctp_outbound_queue.specs.Outbound.{has_stream}
use Rattle.sctp_resets.specs.Resets.{ResetsView}
use Rattle.sctp_streams.specs.declared.event.Event.{Event}
use Rattle.sctp_streams.specs.Stream.{StreamView}
use Rattle.sctp_streams.specs.Streams.{stream_at}
use Rattle.sctp_directions.specs.Acts.{History, Parts}
use Rattle.sctp_assoc.specs.declared.call.Call as values
use Rattle.sctp_assoc.specs.declared.call.Call.TheVariants as calls
use Rattle.sctp_assoc.specs.declared.call.Reply.{Reply}
use Rattle.sctp_assoc.specs.declared.call.Reply.TheVariants as replies
use Rattle.sctp_assoc.specs.Calls.{accepted_stream, event_polled, read_from_stream, written_at}
use Rattle.sctp_assoc.specs.Gather.{polled}
use Rattle.sctp_assoc.specs.Happened.{PollsOn, acts_of_poll, forwards_of_poll}
use Rattle.sctp_assoc.specs.Leads.{Binds, LeadsOn, parts}
use Rattle.sctp_assoc.specs.Replies.{GivesOut, Replies, RepliesAlone}
use Rattle.sctp_assoc.specs.Shown.{Shown}
use Rattle.sctp_assoc.proofs.CallsLeadOn.{packet_leads_on}
use Rattle.sctp_assoc.proofs.StopsLeadOn.{close_stream_leads_on, stop_leads_on}
use Rattle.sctp_sides.specs.Lifetimes.{DoInOrder, acts_of_call}
use Rattle.sctp_sides.specs.OneSide.{Call, Calls, IsCarriedOut, IsRun, carried_out, with_told}
use Rattle.sctp_sides.specs.Restarts.{ActiveIsQuiet, is_being_reset, is_reset_by}
use Rattle.sctp_sides.specs.Runs.{side_calls_of, told_in}
use Rattle.sctp_sides.proofs.Proved.{AreNoWrites, accept_leads_on, acts_add_none, calls_restart_quietly, close_leads_on}
use Rattle.sctp_sides.proofs.Proved.{close_stream_writes_nothing, close_writes_nothing, endpoint_event_leads_on}
use Rattle.sctp_sides.proofs.Proved.{limit_leads_on, listed, open_leads_on, packet_writes_nothing, poll_leads_on}
use Rattle.sctp_sides.proofs.Proved.{poll_writes_nothing, read_leads_on, read_writes_nothing, setting_leads_on}
use Rattle.sctp_sides.proofs.Proved.{shutdown_leads_on, stop_writes_nothing, timeouts_lead_on, timeouts_write_nothing}
use Rattle.sctp_sides.proofs.Proved.{write_leads_on}
use Rattle.sctp_steps.specs.declared.step.Side2.{Side2}
use Rattle.sctp_steps.specs.declared.step.Side2.TheVariants as sides
use Rattle.sctp_steps.specs.declared.step.Step.{Step}
use Rattle.sctp_steps.specs.declared.step.Step.TheVariants as steps
use Rattle.sctp_steps.specs.Ends.{Ends, end_of}
use Rattle.sctp_steps.specs.Steps.{AtSide, ComesTo, Delivers, SendsAt, Steps}
use Rattle.sctp_pair.proofs.RequestsWait.{requests_wait}

-- From a to b what is being reset stays quiet, unless the association fails; and so does a stream whose reset is over
-- in b.
pub record StaysQuiet (a b : Shown) : Type 0 where
  pub active : (h : History) → Binds a h → ActiveIsQuiet a → b.failed ≡ false → ActiveIsQuiet b
  pub ended : (h : History) → Binds a h → ActiveIsQuiet a → b.failed ≡ false → (t : ℕ) → is_being_reset a t ≡ true
      → is_being_reset b t ≡ false → has_stream b.sender.queue t ≡ false

same_stays : {a b : Shown} → b ≡ a → StaysQuiet a b
same_stays {a} {b} same = record {
  active = λ h binds quiet works. subst ActiveIsQuiet (sym same) quiet;
  ended = λ h binds quiet works t is over.
      absurd (true≢false (sym is ∙ ap (λ (z : Shown). is_being_reset z t) (sym same) ∙ over));
}

failed_stays : {a b : Shown} → b.failed ≡ true → StaysQuiet a b
failed_stays {a} {b} failed = record {
  active = λ h binds quiet works. absurd (true≢false (sym failed ∙ works));
  ended = λ h binds quiet works t is over. absurd (true≢false (sym failed ∙ works));
}

-- One call of one side

-- a write leaves the requests, and no act of another call is a write
written_resets : (o : Option StreamView) (a : Shown) (id : ℕ) (named : Option PayloadProtocolIdentifier)
    (bytes : List ℕ) → (written_at o a id named bytes).resets ≡ a.resets
written_resets None a id named bytes = refl
written_resets (Some s) a id named bytes = refl

writes_alone : (c : Call) (a : Shown) → ((carried_out c a).0.resets ≡ a.resets) ⊎ AreNoWrites (acts_of_call c a)
writes_alone (Call.OpenStream id kind) a = inr (tt, tt)
writes_alone (Call.Write id named bytes) a = inl (written_resets (stream_at a.streams id) a id named bytes)
writes_alone (Call.Set id setting) a = inr (tt, tt)
writes_alone Call.AcceptStream a = inr tt
writes_alone (Call.SetMaxSendMessageSize size) a = inr tt
writes_alone Call.Shutdown a = inr tt
writes_alone Call.Close a = inr (close_writes_nothing a)
writes_alone (Call.Read id) a = inr (read_writes_nothing a id)
writes_alone Call.Poll a = inr tt
writes_alone Call.PollEndpointEvent a = inr tt
writes_alone (Call.PollTransmit now) a = inr (poll_writes_nothing a now)
writes_alone (Call.HandleTimeout now) a = inr (timeouts_write_nothing a now)
writes_alone (Call.HandleEvent packet now) a = inr (packet_writes_nothing packet a now)
writes_alone (Call.Stop id) a = inr (stop_writes_nothing a id)
writes_alone (Call.CloseStream id) a = inr (close_stream_writes_nothing a id)

-- A call that is carried out stays so, where its acts lead there.
module _ (c : Call) (told : List Event) (a b : Shown) (carried : IsCarriedOut c told a b)
    (led : LeadsOn (acts_of_call c a) a b) where
  is_left : b ≡ (carried_out c a).0
  is_left = sym (ap (λ (z : Shown × List Event). z.0) carried.there)

  carried_ends : (h : History) → Binds a h → ActiveIsQuiet a → (t : ℕ) → is_being_reset a t ≡ true
      → is_being_reset b t ≡ false → has_stream b.sender.queue t ≡ false
  carried_ends h binds quiet t is over =
      ⊎_elim
      (λ (stays : (carried_out c a).0.resets ≡ a.resets).
      absurd (true≢false (sym is ∙ ap (λ (r : ResetsView). is_reset_by r.own.active t)
      (sym (ap (λ (z : Shown). z.resets) is_left ∙ stays)) ∙ over)))
      (λ (none : AreNoWrites (acts_of_call c a)).
      ap (λ (p : Parts). has_stream p.queue t) (led h binds).1.there
      ∙ acts_add_none (acts_of_call c a) (parts a h) t none (quiet t is))
      (writes_alone c a)

  carried_stays : StaysQuiet a b
  carried_stays = record {
    active = λ h binds quiet works.
        let l = led h binds in
        let acts = acts_of_call c a in
        let once : DoInOrder (c ∷ []) a h acts b l.0 = (
          b,
          l.0,
          acts,
          [],
          sym (append-nil acts),
          record { told = told; does = inl (carried, refl, l.1) },
          (refl, refl, refl),
        ) in
        (calls_restart_quietly requests_wait (c ∷ []) a b h l.0 acts quiet binds once works).active;
    ended = λ h binds quiet works t is over. carried_ends h binds quiet t is over;
  }

-- any call but a poll for packets, of which its reply says where its acts lead
abbrev IsOther : Call → Type 0
IsOther (Call.PollTransmit now) = ⊥
IsOther c = ⊤

told_leads : (a : Shown) (x : Shown × Option Event) → event_polled a ≡ x → LeadsOn [] a (with_told x).0
told_leads a (b, event) e = poll_leads_on a b event e

leads_of : (c : Call) (a : Shown) → IsOther c → LeadsOn (acts_of_call c a) a (carried_out c a).0
leads_of (Call.OpenStream id kind) a other = open_leads_on a _ id kind refl
leads_of (Call.Write id named bytes) a other = write_leads_on a _ id named bytes refl
leads_of (Call.Set id setting) a other = setting_leads_on a _ id setting refl
leads_of Call.AcceptStream a other = accept_leads_on a (accepted_stream a).0 (accepted_stream a).1 refl
leads_of (Call.SetMaxSendMessageSize size) a other = limit_leads_on a _ size refl
leads_of Call.Shutdown a other = shutdown_leads_on a
leads_of Call.Close a other = close_leads_on a _ refl
leads_of (Call.Read id) a other =
    read_leads_on a (read_from_stream a id).0 id (read_from_stream a id).1 refl
leads_of Call.Poll a other = told_leads a (event_polled a) refl
leads_of Call.PollEndpointEvent a other = endpoint_event_leads_on a
leads_of (Call.PollTransmit now) a other = absurd other
leads_of (Call.HandleTimeout now) a other = timeouts_lead_on a _ now refl
leads_of (Call.HandleEvent packet now) a other = packet_leads_on a _ packet now refl
leads_of (Call.Stop id) a other = stop_leads_on a _ id refl
leads_of (Call.CloseStream id) a other = close_stream_leads_on a _ id refl

call_stays : (c : Call) (told : List Event) (a b : Shown) → IsOther c → Calls c told a b → StaysQuiet a b
call_stays c told a b other (inl carried) =
    carried_stays c told a b carried
    (subst (LeadsOn (acts_of_call c a) a) (ap (λ (z : Shown × List Event). z.0) carried.there) (leads_of c a other))
call_stays c told a b other (inr (inl unchanged)) = same_stays unchanged.same
call_stays c told a b other (inr (inr fails)) = failed_stays fails.failed.marked

-- one such call at most
abbrev IsOneOther : List Call → Type 0
IsOneOther [] = ⊤
IsOneOther (c ∷ []) = IsOther c
IsOneOther (c ∷ d ∷ more) = ⊥

run_stays : (cs : List Call) (told : List Event) (a b : Shown) → IsOneOther cs → IsRun cs told a b → StaysQuiet a b
run_stays [] told a b one run = same_stays run.same
run_stays (c ∷ []) told a b one run =
    subst (StaysQuiet a) (sym run.others.same) (call_stays c run.first a run.middle one run.called)
run_stays (c ∷ d ∷ more) told a b one run = absurd one

-- a call of an association, by its reply
reply_stays : (call : values.Call) (a b : Shown) (r : Reply) → IsOneOther (side_calls_of call)
    → Replies call a [] r b [] → StaysQuiet a b
reply_stays call a b r one h = run_stays (side_calls_of call) (told_in r) a b one (listed a b call [] [] r h)

-- a poll for packets
unrefused_if : (failed : Bool) (fault : Error) → failed ≡ false → (if failed then Some fault else None) ≡ None
unrefused_if false fault e = refl
unrefused_if true fault e = absurd (true≢false e)

poll_stays : (a b : Shown) (now : ℕ) (packets : List (List ℕ)) → a.failed ≡ false → (polled a now).0 ≡ b
    → PollsOn (acts_of_poll a now) (forwards_of_poll a now) a b packets → StaysQuiet a b
poll_stays a b now packets works there polls =
    carried_stays (Call.PollTransmit now) [] a b
    (record { accepted = unrefused_if a.failed _ works; there = ap (λ (z : Shown). (z, [])) there })
    (λ h binds. (h, (polls.from h binds).leads))

gives_stays : (a b : Shown) (packets more : List (List ℕ)) (now : ℕ) (r : Reply) → GivesOut a packets now r b more
    → StaysQuiet a b
gives_stays a b packets more now replies.NothingSent h =
    poll_stays a b now [] h.0 (ap (λ (z : Shown × List (List ℕ)). z.0) h.1) h.2
gives_stays a b packets more now (replies.Sent first count) h = poll_stays a b now (polled a now).1 h.0 h.4 h.5
gives_stays a b packets more now (replies.Refused n) (inl had) = same_stays had.0.2
gives_stays a b packets more now (replies.Refused n) (inr (inl fails)) = failed_stays fails.1.2.marked
gives_stays a b packets more now (replies.Refused n) (inr (inr loses)) =
    poll_stays a b now (polled a now).1 loses.0 loses.2 loses.3
gives_stays a b packets more now r h = absurd h

-- One step

delivered_stays : (a b : Shown) (found : Option (List ℕ)) (now : ℕ) (r : Reply) → Delivers a found now r b
    → StaysQuiet a b
delivered_stays a b None now replies.NoSuchPacket h = same_stays h
delivered_stays a b None now r h = absurd h
delivered_stays a b (Some bytes) now r h =
    reply_stays (calls.HandleDatagram bytes a.remote_addr now) a b r tt (h, refl)

-- A step of a pair with this reply, seen from either side.
module _ (r : Reply) (p q : Ends) (x : Side2) where
  abbrev Stays : Type 0
  Stays = StaysQuiet (end_of x p) (end_of x q)

  -- a call of one side leaves the other side as it was
  at_side : (side here : Side2) (Changes : Shown → Shown → Type 0)
      → ((a b : Shown) → Changes a b → StaysQuiet a b) → AtSide side p Changes q
      → StaysQuiet (end_of here p) (end_of here q)
  at_side sides.A sides.A Changes stays h = stays p.a q.a h.0
  at_side sides.A sides.B Changes stays h = same_stays (ap (λ (z : Ends). z.b) h.1)
  at_side sides.B sides.A Changes stays h = same_stays (ap (λ (z : Ends). z.a) h.1)
  at_side sides.B sides.B Changes stays h = stays p.b q.b h.0

  sends_at : (side here : Side2) (now : ℕ) → SendsAt side p now r q → StaysQuiet (end_of here p) (end_of here q)
  sends_at sides.A sides.A now h = gives_stays p.a q.a p.packets_a q.packets_a now r h.0
  sends_at sides.A sides.B now h = same_stays (ap (λ (z : Ends). z.b) h.1)
  sends_at sides.B sides.A now h = same_stays (ap (λ (z : Ends). z.a) h.1)
  sends_at sides.B sides.B now h = gives_stays p.b q.b p.packets_b q.packets_b now r h.0

  comes_to : (side here : Side2) (number now : ℕ) → ComesTo side p number now r q
      → StaysQuiet (end_of here p) (end_of here q)
  comes_to sides.A sides.A number now h = delivered_stays p.a q.a (slice_get p.packets_b number) now r h.0
  comes_to sides.A sides.B number now h = same_stays (ap (λ (z : Ends). z.b) h.1)
  comes_to sides.B sides.A number now h = same_stays (ap (λ (z : Ends). z.a) h.1)
  comes_to sides.B sides.B number now h = delivered_stays p.b q.b (slice_get p.packets_a number) now r h.0

  -- a step is this call of one side
  calls_at : (side : Side2) (call : values.Call) → IsOneOther (side_calls_of call)
      → ((a b : Shown) → RepliesAlone call a r b → Replies call a [] r b [])
      → AtSide side p (λ a b. RepliesAlone call a r b) q → Stays
  calls_at side call one replied h =
      at_side side x (λ a b. RepliesAlone call a r b) (λ a b c. reply_stays call a b r one (replied a b c)) h

  step_stays : (step : Step) → Steps step p r q → Stays
  step_stays (steps.OpenStream side id kind) h = calls_at side (calls.OpenStream id kind) tt (λ a b c. (c, refl)) h
  step_stays (steps.Stream side id) h = calls_at side (calls.Stream id) tt (λ a b c. (c, refl)) h
  step_stays (steps.AcceptStream side) h = calls_at side calls.AcceptStream tt (λ a b c. (c, refl)) h
  step_stays (steps.SetMaxSendMessageSize side size) h =
      calls_at side (calls.SetMaxSendMessageSize size) tt (λ a b c. (c, refl)) h
  step_stays (steps.StreamIds side) h = calls_at side calls.StreamIds tt (λ a b c. (c, refl)) h
  step_stays (steps.Shutdown side) h = calls_at side calls.Shutdown tt (λ a b c. (c, refl)) h
  step_stays (steps.Close side) h = calls_at side calls.Close tt (λ a b c. (c, refl)) h
  step_stays (steps.Write side id bytes) h = calls_at side (calls.Write id bytes) tt (λ a b c. (c, refl)) h
  step_stays (steps.WriteWithPpi side id bytes kind) h =
      calls_at side (calls.WriteWithPpi id bytes kind) tt (λ a b c. (c, refl)) h
  step_stays (steps.WriteSctp side id bytes kind) h =
      calls_at side (calls.WriteSctp id bytes kind) tt (λ a b c. (c, refl)) h
  step_stays (steps.WriteChunk side id bytes) h = calls_at side (calls.WriteChunk id bytes) tt (λ a b c. (c, refl)) h
  step_stays (steps.WriteChunks side id chunks) h =
      calls_at side (calls.WriteChunks id chunks) tt (λ a b c. (c, refl)) h
  step_stays (steps.Read side id) h = calls_at side (calls.Read id) tt (λ a b c. (c, refl)) h
  step_stays (steps.ReadSctp side id) h = calls_at side (calls.ReadSctp id) tt (λ a b c. (c, refl)) h
  step_stays (steps.Finish side id) h = calls_at side (calls.Finish id) tt (λ a b c. (c, refl)) h
  step_stays (steps.Stop side id) h = calls_at side (calls.Stop id) tt (λ a b c. (c, refl)) h
  step_stays (steps.CloseStream side id) h = calls_at side (calls.CloseStream id) tt (λ a b c. (c, refl)) h
  step_stays (steps.SetReliabilityParams side id unordered kind value) h =
      calls_at side (calls.SetReliabilityParams id unordered kind value) tt (λ a b c. (c, refl)) h
  step_stays (steps.SetDefaultPayloadType side id kind) h =
      calls_at side (calls.SetDefaultPayloadType id kind) tt (λ a b c. (c, refl)) h
  step_stays (steps.SetBufferedAmountLowThreshold side id bytes) h =
      calls_at side (calls.SetBufferedAmountLowThreshold id bytes) tt (λ a b c. (c, refl)) h
  step_stays (steps.SetBufferedAmountHighThreshold side id bytes) h =
      calls_at side (calls.SetBufferedAmountHighThreshold id bytes) tt (λ a b c. (c, refl)) h
  step_stays (steps.StreamStats side id) h = calls_at side (calls.StreamStats id) tt (λ a b c. (c, refl)) h
  step_stays (steps.IsReadable side id) h = calls_at side (calls.IsReadable id) tt (λ a b c. (c, refl)) h
  step_stays (steps.IsWritable side id) h = calls_at side (calls.IsWritable id) tt (λ a b c. (c, refl)) h
  step_stays (steps.StreamIdentifier side id) h = calls_at side (calls.StreamIdentifier id) tt (λ a b c. (c, refl)) h
  step_stays (steps.GetDefaultPayloadType side id) h =
      calls_at side (calls.GetDefaultPayloadType id) tt (λ a b c. (c, refl)) h
  step_stays (steps.BufferedAmountLowThreshold side id) h =
      calls_at side (calls.BufferedAmountLowThreshold id) tt (λ a b c. (c, refl)) h
  step_stays (steps.BufferedAmountHighThreshold side id) h =
      calls_at side (calls.BufferedAmountHighThreshold id) tt (λ a b c. (c, refl)) h
  step_stays (steps.BufferedAmount side id) h = calls_at side (calls.BufferedAmount id) tt (λ a b c. (c, refl)) h
  step_stays (steps.Poll side) h = calls_at side calls.Poll tt (λ a b c. (c, refl)) h
  step_stays (steps.PollEndpointEvent side) h = calls_at side calls.PollEndpointEvent tt (λ a b c. (c, refl)) h
  step_stays (steps.PollTimeout side) h = calls_at side calls.PollTimeout tt (λ a b c. (c, refl)) h
  step_stays (steps.PollTransmit side now) h = sends_at side x now h
  step_stays (steps.HandleTimeout side now) h = calls_at side (calls.HandleTimeout now) tt (λ a b c. (c, refl)) h
  step_stays (steps.Deliver side number now) h = comes_to side x number now h
  step_stays (steps.IsHandshaking side) h = calls_at side calls.IsHandshaking tt (λ a b c. (c, refl)) h
  step_stays (steps.IsClosed side) h = calls_at side calls.IsClosed tt (λ a b c. (c, refl)) h
  step_stays (steps.IsClosing side) h = calls_at side calls.IsClosing tt (λ a b c. (c, refl)) h
  step_stays (steps.IsDrained side) h = calls_at side calls.IsDrained tt (λ a b c. (c, refl)) h
  step_stays (steps.IsFailed side) h = calls_at side calls.IsFailed tt (λ a b c. (c, refl)) h
  step_stays (steps.Rtt side) h = calls_at side calls.Rtt tt (λ a b c. (c, refl)) h
  step_stays (steps.Stats side) h = calls_at side calls.Stats tt (λ a b c. (c, refl)) h
  step_stays (steps.Side side) h = calls_at side calls.Side tt (λ a b c. (c, refl)) h
  step_stays (steps.RemoteAddr side) h = calls_at side calls.RemoteAddr tt (λ a b c. (c, refl)) h
  step_stays (steps.LocalIp side) h = calls_at side calls.LocalIp tt (λ a b c. (c, refl)) h

pub steps_stay_quiet : (step : Step) (r : Reply) (p q : Ends) (x : Side2) → Steps step p r q
    → StaysQuiet (end_of x p) (end_of x q)
steps_stay_quiet step r p q x h = step_stays r p q x step h
