-- What one call of the contract of one association did, as a list of calls of one side.
use Rattle.std.proofs.Common.{◌≡◌, refl, sym, ap, ◌∙◌, subst, inl, inr, ℕ, false, List, [], ◌∷◌, Option, Some, None}
use Rattle.std.proofs.lemmas.Bool.{false≢true}
use Rattle.std.proofs.lemmas.List.{append-nil}
use Rattle.sctp_wire_types.specs.declared.ids.PayloadProtocolIdentifier.{PayloadProtocolIdentifier}
use Rattle.sctp_wire.specs.declared.packet.Packet.{Packet}
use Rattle.sctp_parts.specs.declared.shared.EndpointEvent.{EndpointEvent}
use Rattle.sctp_receive_queues.specs.Messages.{ReceivedMessage}
use Rattle.sctp_streams.specs.declared.event.Event.{Event}
use Rattle.sctp_streams.specs.declared.setting.Setting.{Setting}
use Rattle.sctp_streams.specs.declared.setting.Setting.TheVariants as settings
use Rattle.sctp_streams.specs.Stream.{params_of}
use Rattle.sctp_directions.specs.Acts.{Act, History, Parts}
use Rattle.sctp_assoc.specs.declared.call.Call.{Call}
use Rattle.sctp_assoc.specs.declared.call.Call.TheVariants as calls
use Rattle.sctp_assoc.specs.declared.call.Reply.{Reply}
use Rattle.sctp_assoc.specs.declared.call.Reply.TheVariants as replies
use Rattle.sctp_assoc.specs.Abstract.{acts_done, unless_refused}
use Rattle.sctp_assoc.specs.Calls.{first_filled}
use Rattle.sctp_assoc.specs.Happened.{acts_of_close, acts_of_close_stream, acts_of_packet, acts_of_poll, acts_of_read}
use Rattle.sctp_assoc.specs.Happened.{acts_of_stop, acts_of_timeouts}
use Rattle.sctp_assoc.specs.Leads.{Leads}
use Rattle.sctp_assoc.specs.Replies.{AcceptsStream, ClosesOne, ClosesStream, Expires, GivesOut, HadFailed, Limits}
use Rattle.sctp_assoc.specs.Replies.{Opens, PollsEndpointEvent, PollsEvent, Reads, Replies, Sets, ShutsDown, Stops}
use Rattle.sctp_assoc.specs.Replies.{TakesPacket, Writes, WritesFirst, packet_in}
use Rattle.sctp_assoc.specs.Shown.{HasFailed, Shown, answers_of}
use Rattle.sctp_assoc.proofs.Replied.{buffers_same, finds_same, lists_same, measures_same, shows_same}
use Rattle.sctp_sides.specs.Lifetimes.{DoInOrder, Does, acts_of_call}
use Rattle.sctp_sides.specs.OneSide as side
use Rattle.sctp_sides.specs.OneSide.{call_refusal, carried_out, with_told}
use Rattle.sctp_sides.specs.Runs.{side_calls_of}
use Rattle.sctp_sides.proofs.RunsListed.{own_unrefused, set_unrefused, works_unrefused}

nothing_done : (r : Reply) → unless_refused r [] ≡ []
nothing_done (replies.Refused n) = refl
nothing_done r = refl

-- One call led from a to b, which has not failed, and by its acts from one history to another.
module _ (a b : Shown) (h k : History) (works : b.failed ≡ false) where
  stood_still : Leads [] a h b k → k ≡ h
  stood_still led = ap (λ (p : Parts). p.history) led.there

  did : (call : side.Call) (acts : List Act) → Does call a h acts b k → DoInOrder (call ∷ []) a h acts b k
  did call acts does = (b, k, acts, [], sym (append-nil acts), does, (refl, refl, refl))

  carried : (call : side.Call) (told : List Event) → call_refusal call a ≡ None → carried_out call a ≡ (b, told)
      → Leads (acts_of_call call a) a h b k → DoInOrder (call ∷ []) a h (acts_of_call call a) b k
  carried call told accepted there led =
      did call (acts_of_call call a)
      (record { told = told; does = inl (record { accepted = accepted; there = there }, refl, led) })

  -- one that tells no event
  silently : (call : side.Call) → call_refusal call a ≡ None → carried_out call a ≡ (b, [])
      → Leads (acts_of_call call a) a h b k → DoInOrder (call ∷ []) a h (acts_of_call call a) b k
  silently call accepted there led = carried call [] accepted there led

  refused : (call : side.Call) → b ≡ a → Leads [] a h b k → DoInOrder (call ∷ []) a h [] b k
  refused call same led =
      did call []
      (record { told = []; does = inr (inl (record { same = same; silent = refl }), refl, stood_still led) })

  -- it has not failed
  no_failure : {X : Type 0} → HasFailed (answers_of a) b → X
  no_failure failed = absurd (false≢true (sym works ∙ failed.marked))

  -- and had not before
  had_not_failed : {X : Type 0} (n : ℕ) → HadFailed a n b → X
  had_not_failed n had =
      absurd (false≢true (sym works ∙ ap (λ (c : Shown). c.failed) had.2 ∙ had.0))

  -- a question
  asked : (r : Reply) → b ≡ a → Leads (unless_refused r []) a h b k → DoInOrder [] a h (unless_refused r []) b k
  asked r same led =
      (nothing_done r, same, stood_still (subst (λ (xs : List Act). Leads xs a h b k) (nothing_done r) led))

  opens_did : (id : ℕ) (kind : PayloadProtocolIdentifier) (r : Reply) → Opens a id kind r b
      → Leads (unless_refused r (Act.Opened id a.sender.queue.next_message_id kind ∷ [])) a h b k
      → DoInOrder (side.Call.OpenStream id kind ∷ []) a h
      (unless_refused r (Act.Opened id a.sender.queue.next_message_id kind ∷ [])) b k
  opens_did id kind replies.Done e led =
      silently (side.Call.OpenStream id kind) e.0 (ap (λ (z : Shown). (z, [])) (sym e.1)) led
  opens_did id kind (replies.Refused n) e led = refused (side.Call.OpenStream id kind) e.1 led
  opens_did id kind r e led = absurd e

  writes_did : (id : ℕ) (named : Option PayloadProtocolIdentifier) (bytes : List ℕ) (r : Reply)
      → Writes a id named bytes r b → Leads (unless_refused r (Act.Wrote id named bytes ∷ [])) a h b k
      → DoInOrder (side.Call.Write id named bytes ∷ []) a h (unless_refused r (Act.Wrote id named bytes ∷ [])) b k
  writes_did id named bytes (replies.Wrote n) e led =
      silently (side.Call.Write id named bytes) (own_unrefused _ _ e.0) (ap (λ (z : Shown). (z, [])) (sym e.2)) led
  writes_did id named bytes (replies.Refused n) e led = refused (side.Call.Write id named bytes) e.1 led
  writes_did id named bytes r e led = absurd e

  writes_first_did : (id : ℕ) (buffers : List (List ℕ)) (r : Reply) → WritesFirst a id buffers r b
      → Leads (unless_refused r (Act.Wrote id None (first_filled buffers) ∷ [])) a h b k
      → DoInOrder (side.Call.Write id None (first_filled buffers) ∷ []) a h
      (unless_refused r (Act.Wrote id None (first_filled buffers) ∷ [])) b k
  writes_first_did id buffers (replies.Wrote n) e led =
      writes_did id None (first_filled buffers) (replies.Wrote n) e led
  writes_first_did id buffers (replies.Refused n) e led =
      refused (side.Call.Write id None (first_filled buffers)) e.1 led
  writes_first_did id buffers r e led = absurd e

  reads_did : (id : ℕ) (r : Reply) → Reads a id r b → Leads (unless_refused r (acts_of_read a id)) a h b k
      → DoInOrder (side.Call.Read id ∷ []) a h (unless_refused r (acts_of_read a id)) b k
  reads_did id (replies.Read message) e led =
      silently (side.Call.Read id) (own_unrefused _ _ e.0)
      (ap (λ (x : Shown × Option ReceivedMessage). (x.0, [])) e.1) led
  reads_did id (replies.Refused n) (inl e) led = refused (side.Call.Read id) e.1 led
  reads_did id (replies.Refused n) (inr e) led = no_failure e.1.2
  reads_did id r e led = absurd e

  stops_did : (id : ℕ) (r : Reply) → Stops a id r b → Leads (unless_refused r (acts_of_stop a id)) a h b k
      → DoInOrder (side.Call.Stop id ∷ []) a h (unless_refused r (acts_of_stop a id)) b k
  stops_did id replies.Done e led =
      silently (side.Call.Stop id) (own_unrefused _ _ e.0) (ap (λ (z : Shown). (z, [])) (sym e.1)) led
  stops_did id (replies.Refused n) (inl e) led = refused (side.Call.Stop id) e.1 led
  stops_did id (replies.Refused n) (inr e) led = no_failure e.2.2
  stops_did id r e led = absurd e

  closes_stream_did : (id : ℕ) (r : Reply) → ClosesStream a id r b
      → Leads (unless_refused r (acts_of_close_stream a id)) a h b k
      → DoInOrder (side.Call.CloseStream id ∷ []) a h (unless_refused r (acts_of_close_stream a id)) b k
  closes_stream_did id replies.Done e led =
      silently (side.Call.CloseStream id) (own_unrefused _ _ e.0) (ap (λ (z : Shown). (z, [])) (sym e.1)) led
  closes_stream_did id (replies.Refused n) (inl e) led = refused (side.Call.CloseStream id) e.1 led
  closes_stream_did id (replies.Refused n) (inr e) led = no_failure e.2.2
  closes_stream_did id r e led = absurd e

  sets_did : (id : ℕ) (setting : Setting) (r : Reply) → Sets a id setting r b
      → Leads (unless_refused r (Act.Adjusted id setting ∷ [])) a h b k
      → DoInOrder (side.Call.Set id setting ∷ []) a h (unless_refused r (Act.Adjusted id setting ∷ [])) b k
  sets_did id setting replies.Done e led =
      silently (side.Call.Set id setting) (set_unrefused a id e.0) (ap (λ (z : Shown). (z, [])) (sym e.1)) led
  sets_did id setting (replies.Refused n) e led = refused (side.Call.Set id setting) e.1 led
  sets_did id setting r e led = absurd e

  accepts_did : (r : Reply) → AcceptsStream a r b → Leads (unless_refused r []) a h b k
      → DoInOrder (side.Call.AcceptStream ∷ []) a h (unless_refused r []) b k
  accepts_did (replies.Accepted id) e led =
      silently side.Call.AcceptStream refl (ap (λ (x : Shown × Option ℕ). (x.0, [])) e) led
  accepts_did r e led = absurd e

  limits_did : (size : ℕ) (r : Reply) → Limits a size r b → Leads (unless_refused r []) a h b k
      → DoInOrder (side.Call.SetMaxSendMessageSize size ∷ []) a h (unless_refused r []) b k
  limits_did size replies.Done e led =
      silently (side.Call.SetMaxSendMessageSize size) refl (ap (λ (z : Shown). (z, [])) (sym e)) led
  limits_did size r e led = absurd e

  closes_did : (r : Reply) → ClosesOne a r b → Leads (unless_refused r (acts_of_close a)) a h b k
      → DoInOrder (side.Call.Close ∷ []) a h (unless_refused r (acts_of_close a)) b k
  closes_did replies.Done e led =
      silently side.Call.Close (works_unrefused a.failed _ e.0) (ap (λ (z : Shown). (z, [])) (sym e.1)) led
  closes_did (replies.Refused n) (inl had) led = refused side.Call.Close had.2 led
  closes_did (replies.Refused n) (inr e) led = no_failure e.1.2
  closes_did r e led = absurd e

  shuts_down_did : (r : Reply) → ShutsDown a r b → Leads (unless_refused r []) a h b k
      → DoInOrder (side.Call.Shutdown ∷ []) a h (unless_refused r []) b k
  shuts_down_did replies.Done e led =
      silently side.Call.Shutdown e.0 (ap (λ (z : Shown). (z, [])) (sym e.1)) led
  shuts_down_did (replies.Refused n) e led = refused side.Call.Shutdown e.1 led
  shuts_down_did r e led = absurd e

  endpoint_did : (r : Reply) → PollsEndpointEvent a r b → Leads (unless_refused r []) a h b k
      → DoInOrder (side.Call.PollEndpointEvent ∷ []) a h (unless_refused r []) b k
  endpoint_did (replies.EndpointEvent event) e led =
      silently side.Call.PollEndpointEvent refl (ap (λ (x : Shown × Option EndpointEvent). (x.0, [])) e) led
  endpoint_did r e led = absurd e

  -- a poll for events, which tells the one that it gives
  polls_event_did : (r : Reply) → PollsEvent a r b → Leads (unless_refused r []) a h b k
      → DoInOrder (side.Call.Poll ∷ []) a h (unless_refused r []) b k
  polls_event_did (replies.Event event) e led =
      carried side.Call.Poll (with_told (b, event)).1 (works_unrefused a.failed _ e.0)
      (ap (λ (x : Shown × Option Event). with_told x) e.1) led
  polls_event_did (replies.Refused n) had led = refused side.Call.Poll had.2 led
  polls_event_did r e led = absurd e

  expires_did : (now : ℕ) (r : Reply) → Expires a now r b → Leads (unless_refused r (acts_of_timeouts a now)) a h b k
      → DoInOrder (side.Call.HandleTimeout now ∷ []) a h (unless_refused r (acts_of_timeouts a now)) b k
  expires_did now replies.Done e led =
      silently (side.Call.HandleTimeout now) (works_unrefused a.failed _ e.0) (ap (λ (z : Shown). (z, [])) (sym e.1))
      led
  expires_did now (replies.Refused n) (inl had) led = refused (side.Call.HandleTimeout now) had.2 led
  expires_did now (replies.Refused n) (inr e) led = no_failure e.1.2
  expires_did now r e led = absurd e

  takes_did : (packet : Option Packet) (now : ℕ) (r : Reply) → TakesPacket a packet now r b
      → Leads (unless_refused r (acts_of_packet a packet now)) a h b k
      → DoInOrder (side.Call.HandleEvent packet now ∷ []) a h (unless_refused r (acts_of_packet a packet now)) b k
  takes_did packet now replies.Done e led =
      silently (side.Call.HandleEvent packet now) (works_unrefused a.failed _ e.0)
      (ap (λ (z : Shown). (z, [])) (sym e.1)) led
  takes_did packet now (replies.Refused n) (inl had) led = refused (side.Call.HandleEvent packet now) had.2 led
  takes_did packet now (replies.Refused n) (inr (inl e)) led = no_failure e.1.2
  takes_did packet now (replies.Refused n) (inr (inr lacks)) led =
      refused (side.Call.HandleEvent packet now) lacks.2 led
  takes_did packet now r e led = absurd e

  -- a poll for packets does its acts whether room is found for all of its packets or not
  gives_did : (packets more : List (List ℕ)) (now : ℕ) (r : Reply) → GivesOut a packets now r b more
      → Leads (acts_of_poll a now) a h b k
      → DoInOrder (side.Call.PollTransmit now ∷ []) a h (acts_of_poll a now) b k
  gives_did packets more now replies.NothingSent e led =
      silently (side.Call.PollTransmit now) (works_unrefused a.failed _ e.0)
      (ap (λ (x : Shown × List (List ℕ)). (x.0, [])) e.1) led
  gives_did packets more now (replies.Sent first count) e led =
      silently (side.Call.PollTransmit now) (works_unrefused a.failed _ e.0) (ap (λ (z : Shown). (z, [])) e.4) led
  gives_did packets more now (replies.Refused n) (inl had) led = had_not_failed n had.0
  gives_did packets more now (replies.Refused n) (inr (inl e)) led = no_failure e.1.2
  gives_did packets more now (replies.Refused n) (inr (inr loses)) led =
      silently (side.Call.PollTransmit now) (works_unrefused a.failed _ loses.0)
      (ap (λ (z : Shown). (z, [])) loses.2) led
  gives_did packets more now r e led = absurd e

  -- Any call

  pub call_did : (call : Call) (packets more : List (List ℕ)) (r : Reply) → Replies call a packets r b more
      → Leads (acts_done call r a) a h b k → DoInOrder (side_calls_of call) a h (acts_done call r a) b k
  call_did (calls.OpenStream id kind) packets more r e led = opens_did id kind r e.0 led
  call_did (calls.Stream id) packets more r e led = asked r (finds_same a id r b e.0) led
  call_did calls.AcceptStream packets more r e led = accepts_did r e.0 led
  call_did calls.StreamIds packets more r e led = asked r (lists_same a r b e.0) led
  call_did (calls.SetMaxSendMessageSize size) packets more r e led = limits_did size r e.0 led
  call_did (calls.Write id bytes) packets more r e led = writes_did id None bytes r e.0 led
  call_did (calls.WriteWithPpi id bytes kind) packets more r e led = writes_did id (Some kind) bytes r e.0 led
  call_did (calls.WriteSctp id bytes kind) packets more r e led = writes_did id (Some kind) bytes r e.0 led
  call_did (calls.WriteChunk id bytes) packets more r e led = writes_did id None bytes r e.0 led
  call_did (calls.WriteChunks id buffers) packets more r e led = writes_first_did id buffers.items r e.0 led
  call_did (calls.Read id) packets more r e led = reads_did id r e.0 led
  call_did (calls.ReadSctp id) packets more r e led = reads_did id r e.0 led
  call_did (calls.Finish id) packets more r e led = sets_did id settings.WriteHalfClosed r e.0 led
  call_did (calls.Stop id) packets more r e led = stops_did id r e.0 led
  call_did (calls.CloseStream id) packets more r e led = closes_stream_did id r e.0 led
  call_did (calls.SetReliabilityParams id unordered kind value) packets more r e led =
      sets_did id (settings.Reliability (params_of unordered kind value)) r e.0 led
  call_did (calls.SetDefaultPayloadType id kind) packets more r e led =
      sets_did id (settings.DefaultPayloadType kind) r e.0 led
  call_did (calls.SetBufferedAmountLowThreshold id bytes) packets more r e led =
      sets_did id (settings.LowMark bytes) r e.0 led
  call_did (calls.SetBufferedAmountHighThreshold id bytes) packets more r e led =
      sets_did id (settings.HighMark bytes) r e.0 led
  call_did (calls.StreamStats id) packets more r e led = asked r (shows_same a id _ r b e.0) led
  call_did (calls.IsReadable id) packets more r e led = asked r (shows_same a id _ r b e.0) led
  call_did (calls.IsWritable id) packets more r e led = asked r (shows_same a id _ r b e.0) led
  call_did (calls.StreamIdentifier id) packets more r e led = asked r (shows_same a id _ r b e.0) led
  call_did (calls.GetDefaultPayloadType id) packets more r e led = asked r (shows_same a id _ r b e.0) led
  call_did (calls.BufferedAmountLowThreshold id) packets more r e led = asked r (shows_same a id _ r b e.0) led
  call_did (calls.BufferedAmountHighThreshold id) packets more r e led = asked r (shows_same a id _ r b e.0) led
  call_did (calls.BufferedAmount id) packets more r e led = asked r (buffers_same a id r b e.0) led
  call_did calls.Shutdown packets more r e led = shuts_down_did r e.0 led
  call_did calls.Close packets more r e led = closes_did r e.0 led
  call_did calls.Poll packets more r e led = polls_event_did r e.0 led
  call_did calls.PollEndpointEvent packets more r e led = endpoint_did r e.0 led
  call_did calls.PollTimeout packets more r e led = asked r e.0.1 led
  call_did (calls.PollTransmit now) packets more r e led = gives_did packets more now r e led
  call_did (calls.HandleTimeout now) packets more r e led = expires_did now r e.0 led
  call_did (calls.HandleDatagram datagram remote now) packets more r e led =
      takes_did (packet_in datagram) now r e.0 led
  call_did calls.IsHandshaking packets more r e led = asked r e.0.1 led
  call_did calls.IsClosed packets more r e led = asked r e.0.1 led
  call_did calls.IsClosing packets more r e led = asked r e.0.1 led
  call_did calls.IsDrained packets more r e led = asked r e.0.1 led
  call_did calls.IsFailed packets more r e led = asked r e.0.1 led
  call_did calls.Rtt packets more r e led = asked r (measures_same a r b e.0) led
  call_did calls.Stats packets more r e led = asked r e.0.1 led
  call_did calls.Side packets more r e led = asked r e.0.1 led
  call_did calls.RemoteAddr packets more r e led = asked r e.0.1 led
  call_did calls.LocalIp packets more r e led = asked r e.0.1 led
