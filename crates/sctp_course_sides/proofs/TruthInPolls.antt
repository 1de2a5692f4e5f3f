-- A poll for packets leaves true what a side says of the course of a stream of its peer: a request that is made in it
-- names the last request of the peer that was completed.
use Rattle.std.proofs.Common.{◌≡◌, refl, sym, subst, ℕ, Bool, true, false, List, [], ◌∷◌, Option, Some, None, length}
use Rattle.std.proofs.Common.{if◌then◌else◌, ◌==◌, ◌-◌, fold}
use Rattle.sctp_wire_types.specs.declared.chunk.Chunk.{Chunk}
use Rattle.sctp_wire_types.specs.declared.packet.CommonHeader.{CommonHeader}
use Rattle.sctp_reset_requests.specs.Own.{OwnView, asked, repeated, sent_first}
use Rattle.sctp_courses.specs.Course.{Course}
use Rattle.sctp_assoc.specs.declared.control.Control.{Control}
use Rattle.sctp_assoc.specs.declared.control.Control.TheVariants as controls
use Rattle.sctp_assoc.specs.Control.{asking, queued, queued_under}
use Rattle.sctp_assoc.specs.Resets.{asking_if, with_reconfig_run}
use Rattle.sctp_assoc.specs.Shown.{Shown}
use Rattle.sctp_course_sides.specs.Answers.{AnswersTruly, ChunkIsTrue, ControlIsTrue, IsOfPerformed}
use Rattle.sctp_course_sides.proofs.TruthOfRequests.{OwnIsTrue, asked_truly, sent_first_truly, repeated_truly}
use Rattle.sctp_wire_types.specs.declared.param.ParamOutgoingResetRequest.{ParamOutgoingResetRequest}
use Rattle.sctp_reset_requests.specs.Peer.{PeerView}
use Rattle.sctp_wire_types.specs.declared.chunk.ChunkPayloadData.{ChunkPayloadData}
use Rattle.sctp_assoc.specs.Calls.{is_established, exchanges_data}
use Rattle.sctp_course_sides.proofs.TruthBeside.{queued_under_truly, asking_truly, own_answers}
use Rattle.sctp_wire.specs.DataPackets.{datagrams_of}
use Rattle.sctp_parts.specs.declared.timer.Timer.TheVariants as names
use Rattle.sctp_parts.specs.Timers.{started}
use Rattle.sctp_streams.specs.declared.event.AssociationError.{AssociationError}
use Rattle.sctp_streams.specs.declared.event.AssociationError.TheVariants as reasons
use Rattle.sctp_inbound.specs.Handshake.{header_of}
use Rattle.sctp_resets.proofs.ListsOver.{all_taken}
use Rattle.sctp_assoc.specs.Closing.{closed_open}
use Rattle.sctp_assoc.specs.Gather.{ack_after, ack_polled, after_both, control_polled, data_after, data_polled}
use Rattle.sctp_assoc.specs.Gather.{exchange_after, open_polled, exchange_polled, first_request_behind}
use Rattle.sctp_assoc.specs.Gather.{first_request_polled, forward_after, forward_polled, reconfig_run_after}
use Rattle.sctp_assoc.specs.Gather.{repeat_polled, request_made, requests_after, requests_polled, with_control_given}
use Rattle.sctp_assoc.specs.Gather.{with_request_again, with_request_asked, with_request_placed, with_request_sent}
use Rattle.sctp_assoc.specs.Gather.{is_due, polled, without_control}
use Rattle.sctp_sides.proofs.EndedPolls.{by_poll_end, complete_given, with_answer_timed}
use Rattle.sctp_resets.specs.Resets.{request_sent, with_asked, with_own}

-- What was performed:
module _ (initial : ℕ) (c : Course) where
  -- A side says what is true, and the last request that it knows to be completed was performed.
  pub record SpeaksTruly (a : Shown) : Type 0 where
    pub truth : AnswersTruly initial a c
    pub last : (number : ℕ) → a.resets.peer.last_completed ≡ Some number → IsOfPerformed initial c number

  abbrev pub SpeaksOn : Shown → Shown → Type 0
  SpeaksOn a b = SpeaksTruly a → SpeaksTruly b

  -- Steps in general

  -- this side's requests become others of which that is so
  pub speaks_with : (a b : Shown) → OwnIsTrue (IsOfPerformed initial c) b.resets.own → b.resets.peer ≡ a.resets.peer
      → b.control ≡ a.control → SpeaksOn a b
  speaks_with a b own peer control h = record {
    truth = own_answers initial c a b own control h.truth;
    last =
        subst (λ (p : PeerView). (number : ℕ) → p.last_completed ≡ Some number → IsOfPerformed initial c number)
        (sym peer) h.last;
  }

  -- both sides' requests, and what waits to go out, are as they were
  pub speaks_by : (a b : Shown) → b.resets.own ≡ a.resets.own → b.resets.peer ≡ a.resets.peer
      → b.control ≡ a.control → SpeaksOn a b
  speaks_by a b own peer control h =
      speaks_with a b (subst (λ (o : OwnView). OwnIsTrue (IsOfPerformed initial c) o) (sym own) h.truth.own) peer
      control
      h

  pub queued_under_speaks : (header : CommonHeader) (a : Shown) (chunk : Chunk) → ChunkIsTrue initial c chunk
      → SpeaksOn a (queued_under header a chunk)
  queued_under_speaks header a chunk t h =
      record { truth = queued_under_truly initial c header a chunk t h.truth; last = h.last }

  pub queued_speaks : (a : Shown) (chunk : Chunk) → ChunkIsTrue initial c chunk → SpeaksOn a (queued a chunk)
  queued_speaks a chunk t h = queued_under_speaks (header_of a.handshake) a chunk t h

  asking_speaks : (a : Shown) → SpeaksOn a (asking a)
  asking_speaks a h = record { truth = asking_truly initial c a h.truth; last = h.last }

  asking_if_speaks : (asks : Bool) (a : Shown) → SpeaksOn a (asking_if asks a)
  asking_if_speaks true a h = asking_speaks a h
  asking_if_speaks false a h = h

  pub closed_if_speaks : (closed : Bool) (a : Shown) (reason : AssociationError)
      → SpeaksOn a (if closed then a else closed_open a reason)
  closed_if_speaks true a reason h = h
  closed_if_speaks false a reason h = record { truth = record { own = tt; control = tt }; last = h.last }

  -- this side's requests are these
  abbrev with_own_requests : Shown → OwnView → Shown
  with_own_requests a o = record a { resets = (let r = a.resets in record r { own = o }) }

  with_own_speaks : (a : Shown) (o : OwnView) → OwnIsTrue (IsOfPerformed initial c) o
      → SpeaksOn a (with_own_requests a o)
  with_own_speaks a o own h = speaks_with a (with_own_requests a o) own refl refl h

  -- What waits goes out

  placed_speaks : (a : Shown) (packets : List (List ℕ)) (x : OwnView × Option ParamOutgoingResetRequest)
      → OwnIsTrue (IsOfPerformed initial c) x.0
      → SpeaksOn a (with_request_placed (a, packets) (with_own a.resets x)).0
  placed_speaks a packets (o, None) own h = asking_speaks (with_own_requests a o) (with_own_speaks a o own h)
  placed_speaks a packets (o, Some param) own h = with_own_speaks a o own h

  pub given_speaks : (x : Shown × List (List ℕ)) (k : Control) → SpeaksOn x.0 (with_control_given x k).0
  given_speaks (a, packets) (controls.Packet p) h = h
  given_speaks (a, packets) controls.OwnRequest h =
      placed_speaks a packets (sent_first a.resets.own a.sender.queue)
      (sent_first_truly (IsOfPerformed initial c) a.resets.own a.sender.queue h.truth.own).0 h

  all_given_speak : (ks : List Control) (x : Shown × List (List ℕ)) → SpeaksOn x.0 (fold with_control_given x ks).0
  all_given_speak [] x h = h
  all_given_speak (k ∷ ks) x h = all_given_speak ks (with_control_given x k) (given_speaks x k h)

  -- before the first goes out none is left to wait
  pub emptied_speaks : (a : Shown) → SpeaksOn a (without_control a)
  emptied_speaks a h = record { truth = record { own = h.truth.own; control = tt }; last = h.last }

  pub control_speaks : (a : Shown) → SpeaksOn a (control_polled a).0
  control_speaks a h = all_given_speak a.control (without_control a, []) (emptied_speaks a h)

  -- Requests go out behind DATA

  again_speaks_with : (a : Shown) (x : OwnView × Option ParamOutgoingResetRequest)
      → OwnIsTrue (IsOfPerformed initial c) x.0 → SpeaksOn a (with_request_again a (with_own a.resets x)).0
  again_speaks_with a (o, None) own h = with_own_speaks a o own h
  again_speaks_with a (o, Some param) own h = with_own_speaks a o own h

  pub again_speaks : (a : Shown) → SpeaksOn a (repeat_polled a).0
  again_speaks a h =
      again_speaks_with a (repeated a.resets.own) (repeated_truly (IsOfPerformed initial c) a.resets.own h.truth.own).0
      h

  made_speaks_with : (a : Shown) (x : OwnView × Bool) → OwnIsTrue (IsOfPerformed initial c) x.0
      → SpeaksOn a (with_request_asked a (with_asked a.resets x))
  made_speaks_with a (o, made) own h = asking_if_speaks made (with_own_requests a o) (with_own_speaks a o own h)

  pub made_speaks : (a : Shown) → SpeaksOn a (request_made a)
  made_speaks a h =
      made_speaks_with a (asked a.resets.own a.sender.queue a.resets.peer)
      (asked_truly (IsOfPerformed initial c) a.resets.own a.sender.queue a.resets.peer h.last h.truth.own) h

  sent_speaks_with : (a : Shown) (x : OwnView × Option ParamOutgoingResetRequest)
      → OwnIsTrue (IsOfPerformed initial c) x.0 → SpeaksOn a (with_request_sent a (with_own a.resets x)).0
  sent_speaks_with a (o, None) own h = with_own_speaks a o own h
  sent_speaks_with a (o, Some param) own h = record {
    truth = record {
      own = own;
      control = all_taken (ControlIsTrue initial c) (length a.control - 1) a.control h.truth.control;
    };
    last = h.last;
  }

  first_speaks_if : (none : Bool) (a : Shown)
      → SpeaksOn a (if none then (a, []) else with_request_sent a (request_sent a.resets a.sender.queue)).0
  first_speaks_if true a h = h
  first_speaks_if false a h =
      sent_speaks_with a (sent_first a.resets.own a.sender.queue)
      (sent_first_truly (IsOfPerformed initial c) a.resets.own a.sender.queue h.truth.own).0 h

  -- what a step leaves and gives
  abbrev GivenTruly : Shown × List (List ℕ) → Type 0
  GivenTruly x = SpeaksTruly x.0

  both_speak : (packets : List (List ℕ)) (x : Shown × List (List ℕ)) → GivenTruly x → GivenTruly (after_both packets x)
  both_speak packets (a, more) h = h

  behind_speaks : (x : Shown × List (List ℕ)) → GivenTruly x → GivenTruly (first_request_behind x)
  behind_speaks (a, packets) h =
      let b : Shown = request_made a in
      both_speak packets (first_request_polled b) (first_speaks_if (length b.control == 0) b (made_speaks a h))

  requests_speak_if : (established : Bool) (a : Shown) → SpeaksTruly a
      → GivenTruly (if established then first_request_behind (repeat_polled a) else (a, []))
  requests_speak_if true a h = behind_speaks (repeat_polled a) (again_speaks a h)
  requests_speak_if false a h = h

  requests_speak : (a : Shown) → SpeaksTruly a → GivenTruly (requests_polled a)
  unfolding requests_polled
  requests_speak a h = requests_speak_if (is_established a.state) a h

  requests_after_speak : (x : Shown × List (List ChunkPayloadData)) → SpeaksTruly x.0 → GivenTruly (requests_after x)
  requests_after_speak (a, bundles) h =
      both_speak (datagrams_of (header_of a.handshake) bundles) (requests_polled a) (requests_speak a h)

  -- DATA, acknowledgements and FORWARD TSN say nothing of requests

  pub data_polled_speaks : (a : Shown) (now : ℕ) → SpeaksOn a (data_polled a now).0
  unfolding data_polled
  data_polled_speaks a now h = speaks_by a _ refl refl refl h

  pub data_speaks : (a : Shown) (now : ℕ) → SpeaksOn a (data_after a now).0
  unfolding data_polled
  data_speaks a now h = speaks_by a _ refl refl refl h

  ack_speaks_if : (due : Bool) (a : Shown) → is_due a.receiver.ack_state ≡ due → SpeaksTruly a
      → GivenTruly (ack_polled a)
  unfolding ack_polled
  ack_speaks_if true a e = rw e (speaks_by a _ refl refl refl)
  ack_speaks_if false a e = rw e (λ h. h)

  ack_after_speaks : (x : Shown × List (List ℕ)) → GivenTruly x → GivenTruly (ack_after x)
  ack_after_speaks (a, packets) h =
      both_speak packets (ack_polled a) (ack_speaks_if (is_due a.receiver.ack_state) a refl h)

  forward_speaks : (a : Shown) → SpeaksTruly a → GivenTruly (forward_polled a)
  unfolding forward_polled
  forward_speaks a h = speaks_by a _ refl refl refl h

  forward_after_speaks : (x : Shown × List (List ℕ)) → GivenTruly x → GivenTruly (forward_after x)
  forward_after_speaks (a, packets) h = both_speak packets (forward_polled a) (forward_speaks a h)

  -- All of that while DATA is exchanged, and then the timer of a request

  exchange_speaks : (exchanges : Bool) (a : Shown) (now : ℕ) → exchanges_data a.state ≡ exchanges → SpeaksTruly a
      → GivenTruly (exchange_polled a now)
  unfolding exchange_polled
  exchange_speaks true a now e =
      rw e (λ h. forward_after_speaks (ack_after (requests_after (data_after a now)))
      (ack_after_speaks (requests_after (data_after a now))
      (requests_after_speak (data_after a now) (data_speaks a now h))))
  exchange_speaks false a now e = rw e (λ h. h)

  exchange_after_speaks : (x : Shown × List (List ℕ)) (now : ℕ) → GivenTruly x → GivenTruly (exchange_after x now)
  exchange_after_speaks (a, packets) now h =
      both_speak packets (exchange_polled a now) (exchange_speaks (exchanges_data a.state) a now refl h)

  run_speaks_if : (starts : Bool) (a : Shown) (now : ℕ)
      → SpeaksOn a (if starts then record a { timers = started names.Reconfig now a.estimate.rto a.timers } else a)
  run_speaks_if true a now h = speaks_by a _ refl refl refl h
  run_speaks_if false a now h = h

  run_speaks : (a : Shown) (now : ℕ) → SpeaksOn a (with_reconfig_run a now)
  run_speaks a now h = run_speaks_if _ a now h

  run_after_speaks : (x : Shown × List (List ℕ)) (now : ℕ) → GivenTruly x → GivenTruly (reconfig_run_after x now)
  run_after_speaks (a, packets) now h = run_speaks a now h

  front_speaks : (a : Shown) (now : ℕ) → SpeaksOn a (open_polled a now).0
  front_speaks a now h =
      run_after_speaks (exchange_after (control_polled a) now) now
      (exchange_after_speaks (control_polled a) now (control_speaks a h))

  -- the end of a poll changes no request, or closes
  pub poll_speaks : (a : Shown) (now : ℕ) → SpeaksOn a (polled a now).0
  poll_speaks a now h =
      let m : Shown = (open_polled a now).0 in
      let front : SpeaksTruly m = front_speaks a now h in
      by_poll_end SpeaksTruly a now
      (λ e due timer. speaks_by m (with_answer_timed m due timer) refl refl refl front)
      (λ e open_still. closed_if_speaks false (complete_given m) reasons.AssociationClosed
      (speaks_by m (complete_given m) refl refl refl front))
