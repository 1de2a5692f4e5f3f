-- What a call replies and leaves is a step of the abstract association.
use Rattle.std.proofs.Common.{◌≡◌, refl, sym, ap, ◌∙◌, subst, ◌⊎◌, ⊎_elim, inl, inr, ℕ, Bool, true, false, List, []}
use Rattle.std.proofs.Common.{◌∷◌}
use Rattle.std.proofs.Common.{Option, Some, None, if◌then◌else◌}
use Rattle.std.proofs.lemmas.Bool.{cases_Bool, false≢true}
use Rattle.sctp_wire_types.specs.declared.ids.PayloadProtocolIdentifier.{PayloadProtocolIdentifier}
use Rattle.sctp_wire.specs.declared.packet.Packet.{Packet}
use Rattle.sctp_parts.specs.declared.shared.EndpointEvent.{EndpointEvent}
use Rattle.sctp_streams.specs.declared.setting.Setting.{Setting}
use Rattle.sctp_streams.specs.declared.setting.Setting.TheVariants as settings
use Rattle.sctp_streams.specs.Stream.{params_of}
use Rattle.sctp_directions.specs.Acts.{Act}
use Rattle.sctp_assoc.specs.declared.call.Call.{Call}
use Rattle.sctp_assoc.specs.declared.call.Call.TheVariants as calls
use Rattle.sctp_assoc.specs.declared.call.Reply.{Reply}
use Rattle.sctp_assoc.specs.declared.call.Reply.TheVariants as replies
use Rattle.sctp_assoc.specs.Abstract.{StepsOn, abstract, acts_done, unless_refused}
use Rattle.sctp_assoc.specs.Calls.{accepted_from, accepted_stream, first_filled}
use Rattle.sctp_assoc.specs.Calls.{with_max_send_message_size}
use Rattle.sctp_assoc.specs.Gather.{polled}
use Rattle.sctp_assoc.specs.Happened.{PollsOn, acts_of_close, acts_of_close_stream, acts_of_packet, acts_of_poll}
use Rattle.sctp_assoc.specs.Happened.{acts_of_read, acts_of_stop, acts_of_timeouts, forwards_of_poll}
use Rattle.sctp_assoc.specs.Leads.{Leads, LeadsOn}
use Rattle.sctp_assoc.specs.Replies.{AcceptsStream, ClosesOne, ClosesStream, Expires, GivesOut}
use Rattle.sctp_assoc.specs.Replies.{HadFailed, Limits, Opens}
use Rattle.sctp_assoc.specs.Replies.{PollsEndpointEvent, PollsEvent, Reads, Replies, Sets, ShutsDown}
use Rattle.sctp_assoc.specs.Replies.{Stops, TakesPacket, Writes, WritesFirst, packet_in}
use Rattle.sctp_assoc.specs.Shown.{HasFailed, Shown, answers_of}
use Rattle.sctp_assoc.specs.Shutdown.{shutdown_begun}
use Rattle.sctp_assoc.proofs.CallsLeadOn.{accept_leads_on, close_leads_on, limit_leads_on, open_leads_on}
use Rattle.sctp_assoc.proofs.CallsLeadOn.{packet_leads_on, poll_leads_on, setting_leads_on, timeouts_lead_on}
use Rattle.sctp_assoc.proofs.CallsLeadOn.{write_leads_on}
use Rattle.sctp_assoc.proofs.Leading.{leads_nowhere}
use Rattle.sctp_assoc.proofs.ReadsLeadOn.{read_leads_on}
use Rattle.sctp_assoc.proofs.Replied.{buffers_same, finds_same, found_works, lent_works, lists_same, measures_same}
use Rattle.sctp_assoc.proofs.Replied.{shows_same, unfailed}
use Rattle.sctp_assoc.proofs.StopsLeadOn.{close_stream_leads_on, stop_leads_on}

-- An association that works after a call worked before it, and these acts led there.
record Works (acts : List Act) (a b : Shown) : Type 0 where
  pub worked : a.failed ≡ false
  pub led : LeadsOn acts a b

same_leads_on : (a b : Shown) → b ≡ a → LeadsOn [] a b
same_leads_on a b e h binds = (h, subst (λ (c : Shown). Leads [] a h c h) (sym e) (leads_nowhere a a h binds refl refl))

nothing_done : (r : Reply) → unless_refused r [] ≡ []
nothing_done (replies.Refused n) = refl
nothing_done r = refl

accepted_keeps_failure : (a b : Shown) (id : Option ℕ) → accepted_stream a ≡ (b, id) → a.failed ≡ b.failed
accepted_keeps_failure a b id e = accepted_if a.failed refl ∙ ap (λ (x : Shown × Option ℕ). x.0.failed) e
  where
    accepted_from_keeps : (ids : List ℕ) → a.failed ≡ (accepted_from ids a).0.failed
    accepted_from_keeps [] = refl
    accepted_from_keeps (id ∷ ids) = refl

    accepted_if : (failed : Bool) → a.failed ≡ failed
        → a.failed ≡ (if failed then (a, None) else accepted_from a.to_accept a).0.failed
    accepted_if true e = refl
    accepted_if false e = accepted_from_keeps a.to_accept

limit_keeps_failure : (a b : Shown) (size : ℕ) → b ≡ with_max_send_message_size a size → a.failed ≡ b.failed
limit_keeps_failure a b size e = limit_if a.failed ∙ ap (λ (c : Shown). c.failed) (sym e)
  where
    limit_if : (failed : Bool)
        → a.failed ≡ (if failed then a else record a { max_send_message_size = size }).failed
    limit_if true = refl
    limit_if false = refl

shutdown_leads_on : (a b : Shown) → b ≡ shutdown_begun a → LeadsOn [] a b
shutdown_leads_on a b e h binds = (h, rw e (leads_nowhere a (shutdown_begun a) h binds refl refl))

polls_on_works : {a b : Shown} (now : ℕ) (packets : List (List ℕ)) → a.failed ≡ false
    → PollsOn (acts_of_poll a now) (forwards_of_poll a now) a b packets → Works (acts_of_poll a now) a b
polls_on_works now packets working polls =
    record { worked = working; led = λ h binds. (h, (polls.from h binds).leads) }

no_failure : {X : Type 0} (a : Shown) {b : Shown} → b.failed ≡ false → HasFailed (answers_of a) b → X
no_failure a works failed = absurd (false≢true (sym works ∙ failed.marked))

module _ {a b : Shown} (works : b.failed ≡ false) where
  same_works : b ≡ a → Works [] a b
  same_works e = record {
    worked = ap (λ (c : Shown). c.failed) (sym e) ∙ works;
    led = same_leads_on a b e;
  }

  had_failed_works : (n : ℕ) → HadFailed a n b → Works [] a b
  had_failed_works n had = same_works had.2

  -- a question is answered, or refused
  asked_works : (r : Reply) → b ≡ a → Works (unless_refused r []) a b
  asked_works r e = subst (λ acts. Works acts a b) (sym (nothing_done r)) (same_works e)

  opens_work : (id : ℕ) (kind : PayloadProtocolIdentifier) (r : Reply) → Opens a id kind r b
      → Works (unless_refused r (Act.Opened id a.sender.queue.next_message_id kind ∷ [])) a b
  opens_work id kind replies.Done h =
      record { worked = unfailed a.failed _ h.0; led = open_leads_on a b id kind h.1 }
  opens_work id kind (replies.Refused n) h = same_works h.1
  opens_work id kind r h = absurd h

  writes_work : (id : ℕ) (named : Option PayloadProtocolIdentifier) (bytes : List ℕ) (r : Reply)
      → Writes a id named bytes r b → Works (unless_refused r (Act.Wrote id named bytes ∷ [])) a b
  writes_work id named bytes (replies.Wrote n) h =
      record { worked = lent_works a id _ h.0; led = write_leads_on a b id named bytes h.2 }
  writes_work id named bytes (replies.Refused n) h = same_works h.1
  writes_work id named bytes r h = absurd h

  writes_first_works : (id : ℕ) (buffers : List (List ℕ)) (r : Reply) → WritesFirst a id buffers r b
      → Works (unless_refused r (Act.Wrote id None (first_filled buffers) ∷ [])) a b
  writes_first_works id buffers (replies.Wrote n) h = writes_work id None (first_filled buffers) (replies.Wrote n) h
  writes_first_works id buffers (replies.Refused n) h = same_works h.1
  writes_first_works id buffers r h = absurd h

  reads_work : (id : ℕ) (r : Reply) → Reads a id r b → Works (unless_refused r (acts_of_read a id)) a b
  reads_work id (replies.Read message) h =
      record { worked = lent_works a id _ h.0; led = read_leads_on a b id message h.1 }
  reads_work id (replies.Refused n) (inl h) = same_works h.1
  reads_work id (replies.Refused n) (inr h) = no_failure a works h.1.2
  reads_work id r h = absurd h

  stops_work : (id : ℕ) (r : Reply) → Stops a id r b → Works (unless_refused r (acts_of_stop a id)) a b
  stops_work id replies.Done h = record { worked = lent_works a id _ h.0; led = stop_leads_on a b id h.1 }
  stops_work id (replies.Refused n) (inl h) = same_works h.1
  stops_work id (replies.Refused n) (inr h) = no_failure a works h.2.2
  stops_work id r h = absurd h

  closes_stream_works : (id : ℕ) (r : Reply) → ClosesStream a id r b
      → Works (unless_refused r (acts_of_close_stream a id)) a b
  closes_stream_works id replies.Done h =
      record { worked = lent_works a id _ h.0; led = close_stream_leads_on a b id h.1 }
  closes_stream_works id (replies.Refused n) (inl h) = same_works h.1
  closes_stream_works id (replies.Refused n) (inr h) = no_failure a works h.2.2
  closes_stream_works id r h = absurd h

  sets_work : (id : ℕ) (setting : Setting) (r : Reply) → Sets a id setting r b
      → Works (unless_refused r (Act.Adjusted id setting ∷ [])) a b
  sets_work id setting replies.Done h =
      record { worked = found_works a id h.0; led = setting_leads_on a b id setting h.1 }
  sets_work id setting (replies.Refused n) h = same_works h.1
  sets_work id setting r h = absurd h

  accepts_work : (r : Reply) → AcceptsStream a r b → Works (unless_refused r []) a b
  accepts_work (replies.Accepted id) h = record {
    worked = accepted_keeps_failure a b id h ∙ works;
    led = accept_leads_on a b id h;
  }
  accepts_work r h = absurd h

  limits_work : (size : ℕ) (r : Reply) → Limits a size r b → Works (unless_refused r []) a b
  limits_work size replies.Done h = record {
    worked = limit_keeps_failure a b size h ∙ works;
    led = limit_leads_on a b size h;
  }
  limits_work size r h = absurd h

  closes_work : (r : Reply) → ClosesOne a r b → Works (unless_refused r (acts_of_close a)) a b
  closes_work replies.Done h = record { worked = h.0; led = close_leads_on a b h.1 }
  closes_work (replies.Refused n) (inl had) = had_failed_works n had
  closes_work (replies.Refused n) (inr h) = no_failure a works h.1.2
  closes_work r h = absurd h

  shuts_down_works : (r : Reply) → ShutsDown a r b → Works (unless_refused r []) a b
  shuts_down_works replies.Done h = record { worked = unfailed a.failed _ h.0; led = shutdown_leads_on a b h.1 }
  shuts_down_works (replies.Refused n) h = same_works h.1
  shuts_down_works r h = absurd h

  endpoint_works : (r : Reply) → PollsEndpointEvent a r b → Works (unless_refused r []) a b
  endpoint_works (replies.EndpointEvent event) h =
      let is : b ≡ record a { endpoint_event = None } =
      sym (ap (λ (x : Shown × Option EndpointEvent). x.0) h) in
      record {
        worked = ap (λ (c : Shown). c.failed) (sym is) ∙ works;
        led = λ h binds. (h, rw is (leads_nowhere a (record a { endpoint_event = None }) h binds refl refl));
      }
  endpoint_works r h = absurd h

  polls_event_works : (r : Reply) → PollsEvent a r b → Works (unless_refused r []) a b
  polls_event_works (replies.Event event) h = record { worked = h.0; led = poll_leads_on a b event h.1 }
  polls_event_works (replies.Refused n) had = had_failed_works n had
  polls_event_works r h = absurd h

  expires_works : (now : ℕ) (r : Reply) → Expires a now r b → Works (unless_refused r (acts_of_timeouts a now)) a b
  expires_works now replies.Done h = record { worked = h.0; led = timeouts_lead_on a b now h.1 }
  expires_works now (replies.Refused n) (inl had) = had_failed_works n had
  expires_works now (replies.Refused n) (inr h) = no_failure a works h.1.2
  expires_works now r h = absurd h

  takes_work : (packet : Option Packet) (now : ℕ) (r : Reply) → TakesPacket a packet now r b
      → Works (unless_refused r (acts_of_packet a packet now)) a b
  takes_work packet now replies.Done h = record { worked = h.0; led = packet_leads_on a b packet now h.1 }
  takes_work packet now (replies.Refused n) (inl had) = had_failed_works n had
  takes_work packet now (replies.Refused n) (inr (inl h)) = no_failure a works h.1.2
  takes_work packet now (replies.Refused n) (inr (inr lacks)) = same_works lacks.2
  takes_work packet now r h = absurd h

  gives_work : (packets more : List (List ℕ)) (now : ℕ) (r : Reply) → GivesOut a packets now r b more
      → Works (acts_of_poll a now) a b
  gives_work packets more now replies.NothingSent h = polls_on_works now [] h.0 h.2
  gives_work packets more now (replies.Sent first count) h = polls_on_works now (polled a now).1 h.0 h.5
  gives_work packets more now (replies.Refused n) (inl had) =
      absurd (false≢true (sym works ∙ ap (λ (c : Shown). c.failed) had.0.2 ∙ had.0.0))
  gives_work packets more now (replies.Refused n) (inr (inl h)) = no_failure a works h.1.2
  gives_work packets more now (replies.Refused n) (inr (inr loses)) =
      polls_on_works now (polled a now).1 loses.0 loses.3
  gives_work packets more now r h = absurd h

-- by the call
working : (call : Call) (packets more : List (List ℕ)) {a b : Shown} (r : Reply) → Replies call a packets r b more
    → b.failed ≡ false → Works (acts_done call r a) a b
working (calls.OpenStream id kind) packets more r h w = opens_work w id kind r h.0
working (calls.Stream id) packets more {a} {b} r h w = asked_works w r (finds_same a id r b h.0)
working calls.AcceptStream packets more r h w = accepts_work w r h.0
working calls.StreamIds packets more {a} {b} r h w = asked_works w r (lists_same a r b h.0)
working (calls.SetMaxSendMessageSize size) packets more r h w = limits_work w size r h.0
working (calls.Write id bytes) packets more r h w = writes_work w id None bytes r h.0
working (calls.WriteWithPpi id bytes kind) packets more r h w = writes_work w id (Some kind) bytes r h.0
working (calls.WriteSctp id bytes kind) packets more r h w = writes_work w id (Some kind) bytes r h.0
working (calls.WriteChunk id bytes) packets more r h w = writes_work w id None bytes r h.0
working (calls.WriteChunks id chunks) packets more r h w = writes_first_works w id chunks.items r h.0
working (calls.Read id) packets more r h w = reads_work w id r h.0
working (calls.ReadSctp id) packets more r h w = reads_work w id r h.0
working (calls.Finish id) packets more r h w = sets_work w id settings.WriteHalfClosed r h.0
working (calls.Stop id) packets more r h w = stops_work w id r h.0
working (calls.CloseStream id) packets more r h w = closes_stream_works w id r h.0
working (calls.SetReliabilityParams id unordered kind value) packets more r h w =
    sets_work w id (settings.Reliability (params_of unordered kind value)) r h.0
working (calls.SetDefaultPayloadType id kind) packets more r h w = sets_work w id (settings.DefaultPayloadType kind) r h.0
working (calls.SetBufferedAmountLowThreshold id bytes) packets more r h w = sets_work w id (settings.LowMark bytes) r h.0
working (calls.SetBufferedAmountHighThreshold id bytes) packets more r h w = sets_work w id (settings.HighMark bytes) r h.0
working (calls.StreamStats id) packets more {a} {b} r h w = asked_works w r (shows_same a id _ r b h.0)
working (calls.IsReadable id) packets more {a} {b} r h w = asked_works w r (shows_same a id _ r b h.0)
working (calls.IsWritable id) packets more {a} {b} r h w = asked_works w r (shows_same a id _ r b h.0)
working (calls.StreamIdentifier id) packets more {a} {b} r h w = asked_works w r (shows_same a id _ r b h.0)
working (calls.GetDefaultPayloadType id) packets more {a} {b} r h w = asked_works w r (shows_same a id _ r b h.0)
working (calls.BufferedAmountLowThreshold id) packets more {a} {b} r h w = asked_works w r (shows_same a id _ r b h.0)
working (calls.BufferedAmountHighThreshold id) packets more {a} {b} r h w = asked_works w r (shows_same a id _ r b h.0)
working (calls.BufferedAmount id) packets more {a} {b} r h w = asked_works w r (buffers_same a id r b h.0)
working calls.Shutdown packets more r h w = shuts_down_works w r h.0
working calls.Close packets more r h w = closes_work w r h.0
working calls.Poll packets more r h w = polls_event_works w r h.0
working calls.PollEndpointEvent packets more r h w = endpoint_works w r h.0
working calls.PollTimeout packets more r h w = asked_works w r h.0.1
working (calls.PollTransmit now) packets more {a} {b} r h w = gives_work w packets more now r h
working (calls.HandleTimeout now) packets more r h w = expires_works w now r h.0
working (calls.HandleDatagram datagram remote now) packets more r h w = takes_work w (packet_in datagram) now r h.0
working calls.IsHandshaking packets more r h w = asked_works w r h.0.1
working calls.IsClosed packets more r h w = asked_works w r h.0.1
working calls.IsClosing packets more r h w = asked_works w r h.0.1
working calls.IsDrained packets more r h w = asked_works w r h.0.1
working calls.IsFailed packets more r h w = asked_works w r h.0.1
working calls.Rtt packets more {a} {b} r h w = asked_works w r (measures_same a r b h.0)
working calls.Stats packets more r h w = asked_works w r h.0.1
working calls.Side packets more r h w = asked_works w r h.0.1
working calls.RemoteAddr packets more r h w = asked_works w r h.0.1
working calls.LocalIp packets more r h w = asked_works w r h.0.1

-- where the association fails, or failed before, what is past stands still; else its acts lead on
pub steps_on : (call : Call) (a b : Shown) (packets more : List (List ℕ)) (r : Reply)
    → Replies call a packets r b more → StepsOn call a packets r b more
steps_on call a b packets more r replied = record {
  from = λ h stands.
      ⊎_elim
      (λ (failed : b.failed ≡ true). (
        h,
        record {
          replied = replied;
          led = λ working. absurd (false≢true (sym working ∙ failed));
          stands_still = λ failed. refl;
          stays_failed = λ before. failed;
        },
        λ working. absurd (false≢true (sym working ∙ failed)),
      ))
      (λ (works : b.failed ≡ false).
      let w = working call packets more r replied works in
      let led = w.led h (stands w.worked) in (
        led.0,
        record {
          replied = replied;
          led = λ working. led.1;
          stands_still = λ failed. absurd (false≢true (sym works ∙ failed));
          stays_failed = λ before. absurd (false≢true (sym w.worked ∙ before));
        },
        λ working. led.1.binds,
      ))
      (cases_Bool b.failed);
}
