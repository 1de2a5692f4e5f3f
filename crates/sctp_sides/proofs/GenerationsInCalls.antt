-- No poll, no timeout and no other call changes how often a generation is accounted for, where the last counters that
-- the call tells are counted along.
use Rattle.std.proofs.Common.{◌≡◌, refl, ap, ◌∙◌, subst, ℕ, ◌+◌, ◌==◌, ◌&&◌, arith, not, is_some, Bool, true, false}
use Rattle.std.proofs.Common.{if◌then◌else◌, List, [], ◌∷◌, fold, length, Option, Some, None}
use Rattle.std.specs.Prelude.{remove, slice_get}
use Rattle.sctp_wire_types.specs.declared.chunk.ChunkPayloadData.{ChunkPayloadData}
use Rattle.sctp_wire_types.specs.declared.error.Error.{Error}
use Rattle.sctp_wire_types.specs.declared.error.Error.TheVariants as errors
use Rattle.sctp_wire_types.specs.declared.event.StreamEvent.TheVariants.{BufferedAmountHigh}
use Rattle.sctp_wire_types.specs.declared.ids.PayloadProtocolIdentifier.{PayloadProtocolIdentifier}
use Rattle.sctp_wire_types.specs.declared.param.ParamOutgoingResetRequest.{ParamOutgoingResetRequest}
use Rattle.sctp_parts.specs.declared.timer.Timer.TheVariants as names
use Rattle.sctp_parts.specs.Timers.{Timers, expiry_of, moment_of, started, with_stopped}
use Rattle.sctp_wire.specs.DataPackets.{datagrams_of}
use Rattle.sctp_streams.specs.declared.event.AssociationError.TheVariants as reasons
use Rattle.sctp_streams.specs.declared.event.Event.{Event}
use Rattle.sctp_streams.specs.declared.event.Event.TheVariants as events
use Rattle.sctp_streams.specs.declared.setting.Setting.{Setting}
use Rattle.sctp_streams.specs.declared.setting.Setting.TheVariants as settings
use Rattle.sctp_streams.specs.Stream.{StreamView, accepted_by, reaches_high_mark, with_setting}
use Rattle.sctp_streams.specs.Streams.{StreamMap, changed_stream, stream_at}
use Rattle.sctp_inbound.specs.declared.handshake.Offer.{Offer}
use Rattle.sctp_inbound.specs.Handshake.{header_of}
use Rattle.sctp_directions.specs.Acts.{type_on}
use Rattle.sctp_resets.specs.Resets.{ResetsView, event_told, event_told_at, given_up, request_again, request_asked}
use Rattle.sctp_resets.specs.Resets.{request_sent, with_event}
use Rattle.sctp_resets.specs.Telling.{next_told}
use Rattle.sctp_assoc.specs.declared.control.Control.{Control}
use Rattle.sctp_assoc.specs.declared.control.Control.TheVariants as controls
use Rattle.sctp_assoc.specs.Calls.{accepted_from, accepted_stream, adjusted, after_ack_delay, after_t3, event_from}
use Rattle.sctp_assoc.specs.Calls.{event_polled, exchanges_data, fault_told, high_told, is_established, opened}
use Rattle.sctp_assoc.specs.Calls.{read_from_stream}
use Rattle.sctp_assoc.specs.Calls.{retransmits, stopped, t3_expired, with_max_send_message_size, written, written_at}
use Rattle.sctp_assoc.specs.Chunks.{after_packet}
use Rattle.sctp_assoc.specs.Closing.{closed_by}
use Rattle.sctp_assoc.specs.Gather.{ack_after, ack_polled, after_both, control_polled, data_after, exchange_after}
use Rattle.sctp_assoc.specs.Gather.{exchange_polled, first_request_behind, first_request_polled, forward_after}
use Rattle.sctp_assoc.specs.Gather.{forward_polled, is_due, open_polled, polled, repeat_polled, request_made}
use Rattle.sctp_assoc.specs.Gather.{requests_after}
use Rattle.sctp_assoc.specs.Gather.{requests_polled, with_control_given, with_request_again, with_request_asked}
use Rattle.sctp_assoc.specs.Gather.{with_request_placed, with_request_sent, without_control}
use Rattle.sctp_assoc.specs.Handshake.{after_t1_init, init_queued, cookie_queued, sends_cookie, sends_init}
use Rattle.sctp_assoc.specs.Handshake.{t1_cookie_expired, t1_init_expired}
use Rattle.sctp_assoc.specs.Resets.{after_reconfig_timer, asks_again, gives_up, reconfig_expired, with_beside}
use Rattle.sctp_assoc.specs.Resets.{with_reconfig_run}
use Rattle.sctp_assoc.specs.Shown.{Shown}
use Rattle.sctp_sides.proofs.EndedPolls.{by_poll_end, complete_given, ended_is_closed}
use Rattle.sctp_assoc.specs.Shutdown.{endpoint_event_polled, shutdown_begun}
use Rattle.sctp_assoc.specs.Timeouts.{after_handshake_timers, after_shutdown_timer, after_timeouts}
use Rattle.sctp_sides.specs.Generations.{finals, times}
use Rattle.sctp_sides.specs.OneSide.{Call, call_refusal, carried_out, told_by, with_told}
use Rattle.sctp_sides.proofs.GenerationsInChunks.{closed_keeps, packets_keep, reads_keep, stops_keep, tally_of}
use Rattle.sctp_sides.proofs.GenerationsInResets.{given_up_keeps}
use Rattle.sctp_sides.proofs.GenerationsInSending.{data_keeps}
use Rattle.sctp_sides.proofs.GenerationsKept.{changed_same, made_tally, same_tally, silent_told, taken_told, tally}
use Rattle.sctp_sides.proofs.LiveStreams.{opened_streams_were_not_live}

-- no event of a handshake that failed tells of last counters, nor does that of a high mark
fault_tells_none : (o : Option Error) → finals (told_by (fault_told o)) ≡ []
fault_tells_none None = refl
fault_tells_none (Some fault) = refl

high_tells_none : (reached : Bool) (id : ℕ)
    → finals (if reached then events.Stream (BufferedAmountHigh id) ∷ [] else []) ≡ []
high_tells_none true id = refl
high_tells_none false id = refl

-- no setting changes the generation of a stream
setting_generation : (setting : Setting) (s : StreamView)
    → (with_setting s setting).stats.generation ≡ s.stats.generation
setting_generation (settings.DefaultPayloadType kind) s = refl
setting_generation (settings.Reliability params) s = refl
setting_generation (settings.LowMark bytes) s = refl
setting_generation (settings.HighMark bytes) s = refl
setting_generation settings.WriteHalfClosed s = refl

module _ (g : ℕ) where
  -- The parts of a poll

  behind_keeps : (packets : List (List ℕ)) (x : Shown × List (List ℕ))
      → tally_of g (after_both packets x).0 ≡ tally_of g x.0
  behind_keeps packets (b, more) = refl

  again_keeps : (a : Shown) (x : ResetsView × Option ParamOutgoingResetRequest)
      → tally_of g (with_request_again a x).0 ≡ tally_of g a
  again_keeps a (r, None) = refl
  again_keeps a (r, Some param) = refl

  made_keeps : (a : Shown) (x : ResetsView × Bool) → tally_of g (with_request_asked a x) ≡ tally_of g a
  made_keeps a (r, true) = refl
  made_keeps a (r, false) = refl

  sent_keeps : (a : Shown) (x : ResetsView × Option ParamOutgoingResetRequest)
      → tally_of g (with_request_sent a x).0 ≡ tally_of g a
  sent_keeps a (r, None) = refl
  sent_keeps a (r, Some param) = refl

  first_keeps_if : (none : Bool) (a : Shown)
      → tally_of g (if none then (a, []) else with_request_sent a (request_sent a.resets a.sender.queue)).0
      ≡ tally_of g a
  first_keeps_if true a = refl
  first_keeps_if false a = sent_keeps a (request_sent a.resets a.sender.queue)

  first_keeps : (x : Shown × List (List ℕ)) → tally_of g (first_request_behind x).0 ≡ tally_of g x.0
  first_keeps (b, packets) =
      let c : Shown = request_made b in
      behind_keeps packets (first_request_polled c)
      ∙ first_keeps_if (length c.control == 0) c
      ∙ made_keeps b (request_asked b.resets b.sender.queue)

  requests_keep_if : (established : Bool) (a : Shown)
      → tally_of g (if established then first_request_behind (repeat_polled a) else (a, [])).0 ≡ tally_of g a
  requests_keep_if true a = first_keeps (repeat_polled a) ∙ again_keeps a (request_again a.resets)
  requests_keep_if false a = refl

  requests_keep : (a : Shown) → tally_of g (requests_polled a).0 ≡ tally_of g a
  unfolding requests_polled
  requests_keep a = requests_keep_if (is_established a.state) a

  requests_behind_keep : (x : Shown × List (List ChunkPayloadData)) → tally_of g (requests_after x).0 ≡ tally_of g x.0
  requests_behind_keep (b, bundles) =
      behind_keeps (datagrams_of (header_of b.handshake) bundles) (requests_polled b) ∙ requests_keep b

  ack_keeps_if : (due : Bool) (a : Shown) → is_due a.receiver.ack_state ≡ due
      → tally_of g (ack_polled a).0 ≡ tally_of g a
  unfolding ack_polled
  ack_keeps_if true a e = rw e refl
  ack_keeps_if false a e = rw e refl

  ack_keeps : (x : Shown × List (List ℕ)) → tally_of g (ack_after x).0 ≡ tally_of g x.0
  ack_keeps (b, packets) = behind_keeps packets (ack_polled b) ∙ ack_keeps_if _ b refl

  forward_keeps : (x : Shown × List (List ℕ)) → tally_of g (forward_after x).0 ≡ tally_of g x.0
  unfolding forward_polled
  forward_keeps (b, packets) = refl

  exchange_keeps_if : (c : Bool) (a : Shown) (now : ℕ)
      → tally_of g (if c then forward_after (ack_after (requests_after (data_after a now))) else (a, [])).0
      ≡ tally_of g a
  exchange_keeps_if true a now =
      let x = requests_after (data_after a now) in
      forward_keeps (ack_after x) ∙ ack_keeps x ∙ requests_behind_keep (data_after a now) ∙ data_keeps g a now
  exchange_keeps_if false a now = refl

  exchange_keeps : (x : Shown × List (List ℕ)) (now : ℕ) → tally_of g (exchange_after x now).0 ≡ tally_of g x.0
  unfolding exchange_polled
  exchange_keeps (b, packets) now =
      behind_keeps packets (exchange_polled b now) ∙ exchange_keeps_if (exchanges_data b.state) b now

  placed_keeps : (b : Shown) (packets : List (List ℕ)) (x : ResetsView × Option ParamOutgoingResetRequest)
      → tally_of g (with_request_placed (b, packets) x).0 ≡ tally_of g b
  placed_keeps b packets (r, None) = refl
  placed_keeps b packets (r, Some param) = refl

  given_keeps : (x : Shown × List (List ℕ)) (c : Control) → tally_of g (with_control_given x c).0 ≡ tally_of g x.0
  given_keeps (b, packets) (controls.Packet c) = refl
  given_keeps (b, packets) controls.OwnRequest = placed_keeps b packets (request_sent b.resets b.sender.queue)

  all_given_keep : (cs : List Control) (x : Shown × List (List ℕ))
      → tally_of g (fold with_control_given x cs).0 ≡ tally_of g x.0
  all_given_keep [] x = refl
  all_given_keep (c ∷ cs) x = all_given_keep cs (with_control_given x c) ∙ given_keeps x c

  control_keeps : (a : Shown) → tally_of g (control_polled a).0 ≡ tally_of g a
  control_keeps a = all_given_keep a.control (without_control a, [])

  run_keeps_if : (runs : Bool) (a : Shown) (timers : Timers)
      → tally_of g (if runs then record a { timers = timers } else a) ≡ tally_of g a
  run_keeps_if true a timers = refl
  run_keeps_if false a timers = refl

  run_keeps : (x : Shown × List (List ℕ)) (now : ℕ) → tally_of g (with_reconfig_run x.0 now) ≡ tally_of g x.0
  run_keeps (b, packets) now =
      run_keeps_if (is_some b.resets.own.active && not (is_some (moment_of names.Reconfig b.timers))) b
      (started names.Reconfig now b.estimate.rto b.timers)

  front_keeps : (a : Shown) (now : ℕ) → tally_of g (open_polled a now).0 ≡ tally_of g a
  front_keeps a now =
      run_keeps (exchange_after (control_polled a) now) now
      ∙ exchange_keeps (control_polled a) now ∙ control_keeps a

  -- the end of a poll changes no stream and tells nothing, or closes
  polls_keep : (a : Shown) (now : ℕ) → tally_of g (polled a now).0 ≡ tally_of g a
  polls_keep a now =
      let m : Shown = (open_polled a now).0 in
      let front = front_keeps a now in
      by_poll_end (λ (z : Shown). tally_of g z ≡ tally_of g a) a now (λ e due timer. front)
      (λ e open_still. subst (λ (z : Shown). tally_of g z ≡ tally_of g a) (ended_is_closed m open_still)
      (closed_keeps g (complete_given m) reasons.AssociationClosed ∙ front))

  -- Timers

  offer_keeps : (o : Option Offer) (a : Shown) → tally_of g (init_queued o a) ≡ tally_of g a
  offer_keeps None a = refl
  offer_keeps (Some offer) a = refl

  init_keeps : (a : Shown) (now : ℕ) → tally_of g (sends_init a now) ≡ tally_of g a
  unfolding sends_init
  init_keeps a now = offer_keeps a.handshake.offer a

  echo_keeps : (o : Option (List ℕ)) (a : Shown) → tally_of g (cookie_queued o a) ≡ tally_of g a
  echo_keeps None a = refl
  echo_keeps (Some cookie) a = refl

  cookie_keeps : (a : Shown) (now : ℕ) → tally_of g (sends_cookie a now) ≡ tally_of g a
  unfolding sends_cookie
  cookie_keeps a now = echo_keeps a.handshake.echo a

  t1_init_keeps : (expired failure : Bool) (a : Shown) (now : ℕ)
      → tally_of g
      (if expired then
      (if failure then (let b = t1_init_expired a now in record b { handshake_fault = Some errors.ErrHandshakeInitAck })
      else sends_init (t1_init_expired a now) now) else a)
      ≡ tally_of g a
  t1_init_keeps false failure a now = refl
  t1_init_keeps true true a now = refl
  t1_init_keeps true false a now = init_keeps (t1_init_expired a now) now

  t1_cookie_keeps : (expired failure : Bool) (a : Shown) (now : ℕ)
      → tally_of g
      (if expired then
      (if failure then (let b =
      t1_cookie_expired a now in record b { handshake_fault = Some errors.ErrHandshakeCookieEcho }) else
      sends_cookie (t1_cookie_expired a now) now) else a)
      ≡ tally_of g a
  t1_cookie_keeps false failure a now = refl
  t1_cookie_keeps true true a now = refl
  t1_cookie_keeps true false a now = cookie_keeps (t1_cookie_expired a now) now

  t3_keeps : (expired failure : Bool) (a : Shown) (now : ℕ)
      → tally_of g (if expired then (if failure then t3_expired a now else retransmits (t3_expired a now) now) else a)
      ≡ tally_of g a
  t3_keeps false failure a now = refl
  t3_keeps true true a now = refl
  t3_keeps true false a now = refl

  delay_keeps : (expired : Bool) (a : Shown) (now : ℕ) → (expiry_of names.Ack now a.timers).expired ≡ expired
      → tally_of g (after_ack_delay a now) ≡ tally_of g a
  delay_keeps false a now e = rw e refl
  delay_keeps true a now e = rw e refl

  goes_on_keeps : (active : Bool) (a : Shown) (now : ℕ)
      → tally_of g
      (if active then asks_again a now else record a { timers = with_stopped names.Reconfig a.timers })
      ≡ tally_of g a
  goes_on_keeps true a now = refl
  goes_on_keeps false a now = refl

  -- requests that are given up are told as failed
  request_given_up_keeps : (a : Shown) (now : ℕ) → tally_of g (gives_up (reconfig_expired a now) now) ≡ tally_of g a
  request_given_up_keeps a now =
      let b : Shown = with_beside (reconfig_expired a now) (given_up a.resets a.streams a.events) in
      goes_on_keeps (is_some b.resets.own.active) b now ∙ given_up_keeps g a.resets a.streams a.events

  reconfig_keeps : (expired failure : Bool) (a : Shown) (now : ℕ)
      → tally_of g
      (if expired then
      (if failure then gives_up (reconfig_expired a now) now else asks_again (reconfig_expired a now) now) else a)
      ≡ tally_of g a
  reconfig_keeps false failure a now = refl
  reconfig_keeps true true a now = request_given_up_keeps a now
  reconfig_keeps true false a now = refl

  timeouts_keep : (a : Shown) (now : ℕ) → tally_of g (after_timeouts a now) ≡ tally_of g a
  timeouts_keep a now =
      let b : Shown = after_t1_init a now in
      let c : Shown = after_handshake_timers a now in
      let f : Shown = after_shutdown_timer a now in
      let d : Shown = after_t3 f now in
      let e : Shown = after_reconfig_timer d now in
      delay_keeps _ e now refl
      ∙ reconfig_keeps (expiry_of names.Reconfig now d.timers).expired (expiry_of names.Reconfig now d.timers).failed d
      now
      ∙ t3_keeps (expiry_of names.T3RTX now f.timers).expired (expiry_of names.T3RTX now f.timers).failed f now
      ∙ t1_cookie_keeps (expiry_of names.T1Cookie now b.timers).expired
      (expiry_of names.T1Cookie now b.timers).failed b now
      ∙ t1_init_keeps (expiry_of names.T1Init now a.timers).expired (expiry_of names.T1Init now a.timers).failed a now

  -- The other calls

  written_keeps : (o : Option StreamView) (a : Shown) (id : ℕ) (named : Option PayloadProtocolIdentifier)
      (bytes : List ℕ) → tally_of g (written_at o a id named bytes) ≡ tally_of g a
  written_keeps None a id named bytes = refl
  written_keeps (Some s) a id named bytes =
      let f : StreamView → StreamView = λ t. accepted_by t (type_on s named) (length bytes) in
      let n : StreamMap = changed_stream f a.streams id in
      silent_told g n a.events (high_told s id (length bytes)) (high_tells_none (reaches_high_mark s (length bytes)) id)
      ∙ same_tally g a.streams n a.events (changed_same f (λ u. refl) a.streams id)

  adjusted_keeps : (a : Shown) (id : ℕ) (setting : Setting) → tally_of g (adjusted a id setting) ≡ tally_of g a
  adjusted_keeps a id setting =
      let f : StreamView → StreamView = λ s. with_setting s setting in
      same_tally g a.streams (changed_stream f a.streams id) a.events
      (changed_same f (setting_generation setting) a.streams id)

  accepted_from_keeps : (ids : List ℕ) (a : Shown) → tally_of g (accepted_from ids a).0 ≡ tally_of g a
  accepted_from_keeps [] a = refl
  accepted_from_keeps (id ∷ ids) a = refl

  accepted_keeps : (failed : Bool) (a : Shown)
      → tally_of g (if failed then (a, None) else accepted_from a.to_accept a).0 ≡ tally_of g a
  accepted_keeps true a = refl
  accepted_keeps false a = accepted_from_keeps a.to_accept a

  limit_keeps : (failed : Bool) (a : Shown) (size : ℕ)
      → tally_of g (if failed then a else record a { max_send_message_size = size }) ≡ tally_of g a
  limit_keeps true a size = refl
  limit_keeps false a size = refl

  -- An event that is told

  with_event_keeps : (m : StreamMap) (o : Option Event) (r : ResetsView) (rest : List Event)
      → tally g m (with_event o r rest).1 + times g (finals (told_by (with_event o r rest).2))
      ≡ tally g m rest + times g (finals (told_by o))
  with_event_keeps m None r rest = refl
  with_event_keeps m (Some event) r rest = refl

  told_at_keeps : (m : StreamMap) (o : Option ℕ) (r : ResetsView) (queued : List Event)
      → tally g m (event_told_at o r queued).1 + times g (finals (told_by (event_told_at o r queued).2))
      ≡ tally g m queued
  told_at_keeps m None r queued = omega arith
  told_at_keeps m (Some index) r queued =
      with_event_keeps m (slice_get queued index) r (remove queued index) ∙ taken_told g m queued index

  event_from_keeps : (x : ResetsView × List Event × Option Event) (a : Shown)
      → tally g a.streams x.1 + times g (finals (told_by x.2)) ≡ tally_of g a
      → tally_of g (with_told (event_from x a)).0 + times g (finals (with_told (event_from x a)).1) ≡ tally_of g a
  event_from_keeps (r, left, None) a e =
      let none : times g (finals (told_by (fault_told a.handshake_fault))) ≡ 0 =
      ap (times g) (fault_tells_none a.handshake_fault) in
      omega (arith, none, e)
  event_from_keeps (r, left, Some event) a e = e

  event_keeps : (a : Shown)
      → tally_of g (with_told (event_polled a)).0 + times g (finals (with_told (event_polled a)).1) ≡ tally_of g a
  event_keeps a =
      event_from_keeps (event_told a.resets a.events) a
      (told_at_keeps a.streams (next_told a.resets.generations a.resets.debts a.events) a.resets a.events)

  -- Any call

  -- what a call leaves and tells together has the tally from before
  abbrev Keeps : Shown → Shown × List Event → Type 0
  Keeps a x = tally_of g x.0 + times g (finals x.1) ≡ tally_of g a

  silent_keeps : (a b : Shown) → tally_of g b ≡ tally_of g a → Keeps a (b, [])
  silent_keeps a b e = omega (arith, e)

  pub carried_keeps : (call : Call) (a : Shown) → call_refusal call a ≡ None → Keeps a (carried_out call a)
  carried_keeps (Call.OpenStream id kind) a e =
      silent_keeps a (opened a id kind)
      (made_tally g a.streams id a.sender.queue.next_message_id kind a.events (opened_streams_were_not_live a id e).1)
  carried_keeps (Call.Write id named bytes) a e =
      silent_keeps a (written a id named bytes) (written_keeps (stream_at a.streams id) a id named bytes)
  carried_keeps (Call.Set id setting) a e = silent_keeps a (adjusted a id setting) (adjusted_keeps a id setting)
  carried_keeps Call.AcceptStream a e = silent_keeps a (accepted_stream a).0 (accepted_keeps a.failed a)
  carried_keeps (Call.SetMaxSendMessageSize size) a e =
      silent_keeps a (with_max_send_message_size a size) (limit_keeps a.failed a size)
  carried_keeps Call.Shutdown a e = silent_keeps a (shutdown_begun a) refl
  carried_keeps Call.PollEndpointEvent a e = silent_keeps a (endpoint_event_polled a).0 refl
  carried_keeps Call.Close a e =
      silent_keeps a (closed_by a reasons.AssociationClosed) (closed_keeps g a reasons.AssociationClosed)
  carried_keeps (Call.Read id) a e = silent_keeps a (read_from_stream a id).0 (reads_keep g a id)
  carried_keeps Call.Poll a e = event_keeps a
  carried_keeps (Call.PollTransmit now) a e = silent_keeps a (polled a now).0 (polls_keep a now)
  carried_keeps (Call.HandleTimeout now) a e = silent_keeps a (after_timeouts a now) (timeouts_keep a now)
  carried_keeps (Call.HandleEvent packet now) a e =
      silent_keeps a (after_packet a packet now) (packets_keep g a packet now)
  carried_keeps (Call.Stop id) a e = silent_keeps a (stopped a id) (stops_keep g a id)
  carried_keeps (Call.CloseStream id) a e =
      let b : Shown = adjusted a id settings.WriteHalfClosed in
      silent_keeps a (stopped b id) (stops_keep g b id ∙ adjusted_keeps a id settings.WriteHalfClosed)
