-- A poll leaves the active request of this side as it was, or makes one active whose streams have no DATA that waits or
-- is in flight.
use Rattle.std.proofs.Common.{◌≡◌, refl, sym, ap, ◌∙◌, subst, ⊎_elim, ℕ, ◌==◌, Bool, true, false, ◌||◌, not, fold}
use Rattle.std.proofs.Common.{if◌then◌else◌, is_some, length, List, [], ◌∷◌, Option, Some, None}
use Rattle.std.proofs.lemmas.Bool.{cases_Bool, false≢true, true≢false}
use Rattle.sctp_wire_types.specs.declared.param.ParamOutgoingResetRequest.{ParamOutgoingResetRequest}
use Rattle.sctp_parts.specs.declared.timer.Timer.TheVariants as names
use Rattle.sctp_parts.specs.Timers.{started}
use Rattle.sctp_outbound_queue.specs.Outbound.{Outbound, has_stream}
use Rattle.sctp_reset_requests.specs.declared.own_request.OwnRequest.{OwnRequest}
use Rattle.sctp_reset_requests.specs.declared.own_request.SentRequest.{SentRequest}
use Rattle.sctp_reset_requests.specs.Laws.{DataHoldsBack}
use Rattle.sctp_reset_requests.specs.Own.{OwnView, asked, asked_for, may_go, put_ahead, quiet_ids, repeated}
use Rattle.sctp_reset_requests.specs.Own.{sent_first, sent_of, sent_param, with_request}
use Rattle.sctp_reset_requests.specs.Peer.{PeerView}
use Rattle.sctp_resets.specs.Resets.{with_asked, with_own}
use Rattle.sctp_assoc.specs.declared.control.Control.{Control}
use Rattle.sctp_assoc.specs.declared.control.Control.TheVariants as controls
use Rattle.sctp_assoc.specs.Calls.{exchanges_data, is_established}
use Rattle.sctp_assoc.specs.Gather.{control_polled, data_after, data_polled, exchange_polled, first_request_behind}
use Rattle.sctp_assoc.specs.Gather.{first_request_polled, open_polled, polled, repeat_polled, request_made}
use Rattle.sctp_assoc.specs.Gather.{requests_polled, with_control_given, with_request_again, with_request_asked}
use Rattle.sctp_assoc.specs.Gather.{with_request_placed, with_request_sent, without_control}
use Rattle.sctp_assoc.specs.Resets.{with_reconfig_run}
use Rattle.sctp_assoc.specs.Shown.{Shown}
use Rattle.sctp_assoc.proofs.GivenApart.{with_own_control}
use Rattle.sctp_assoc.proofs.PartsOfPolls.{both_first, first_request_if}
use Rattle.sctp_sides.specs.Restarts.{ActiveIsQuiet, is_reset_by}
use Rattle.sctp_sides.proofs.ActiveInChunks.{active_repeated}
use Rattle.sctp_sides.proofs.EndedPolls.{by_poll_end}
use Rattle.sctp_sides.proofs.PollsLeave.{control_leaves, exchange_leaves, front_leaves, polled_sender}
use Rattle.sctp_sides.proofs.PollsLeave.{silent_is}

-- no DATA of the streams of this request, if there is one, waits or is in flight
abbrev IsQuietOf : Option SentRequest → Outbound → Type 0
IsQuietOf o q = (id : ℕ) → is_reset_by o id ≡ true → has_stream q id ≡ false

-- Requests

repeated_quiet : (o : OwnView) (q : Outbound) → IsQuietOf o.active q → IsQuietOf (repeated o).0.active q
repeated_quiet o q h = λ id named. h id ((active_repeated false o.active).from id named)

asked_if : (none : Bool) (o made : OwnView) (last : ℕ) (ids : List ℕ) → made.active ≡ o.active
    → (if◌then◌else◌ {A = OwnView × Bool} none (o, false) (with_request made last false ids, true)).0.active
    ≡ o.active
asked_if true o made last ids e = refl
asked_if false o made last ids e = e

asked_for_active : (ids : List ℕ) (last : Option ℕ) (o : OwnView) → (asked_for ids last o).0.active ≡ o.active
asked_for_active ids None o = refl
asked_for_active ids (Some last) o = asked_if (length ids == 0) o (put_ahead o ids) last ids refl

open_if : (open_still : Bool) (x : OwnView × Bool) (o : OwnView) → x.0.active ≡ o.active
    → (if open_still then (o, false) else x).0.active ≡ o.active
open_if true x o e = refl
open_if false x o e = e

asked_active : (o : OwnView) (q : Outbound) (p : PeerView) → (asked o q p).0.active ≡ o.active
asked_active o q p =
    open_if (is_some o.active || not (length o.queued == 0)) (asked_for (quiet_ids o q) p.last_completed o) o
    (asked_for_active (quiet_ids o q) p.last_completed o)

-- a request that goes out for the first time is quiet
module _ (held : DataHoldsBack) (o : OwnView) (q : Outbound) where
  gone : (r : OwnRequest) (rs : List OwnRequest) → o.queued ≡ r ∷ rs
      → sent_first o q ≡ (record o { queued = rs; active = Some (sent_of r q) }, Some (sent_param (sent_of r q)))
      → IsQuietOf (Some (sent_of r q)) q
  gone r rs oldest there = λ id named.
      ⊎_elim
      (λ (waits : has_stream q id ≡ true).
      absurd (true≢false (ap (λ (x : OwnView × Option ParamOutgoingResetRequest). is_some x.1)
      (sym there ∙ held o q r rs id oldest named waits))))
      (λ (none : has_stream q id ≡ false). none)
      (cases_Bool (has_stream q id))

  first_if : (goes : Bool) (r : OwnRequest) (rs : List OwnRequest) → may_go r q ≡ goes → o.active ≡ None
      → o.queued ≡ r ∷ rs → IsQuietOf o.active q → IsQuietOf (sent_first o q).0.active q
  first_if true r rs e none oldest h =
      let there : sent_first o q
      ≡ (record o { queued = rs; active = Some (sent_of r q) }, Some (sent_param (sent_of r q))) =
      rw (none, oldest, e) refl in
      subst (λ (x : OwnView × Option ParamOutgoingResetRequest). IsQuietOf x.0.active q) (sym there)
      (gone r rs oldest there)
  first_if false r rs e none oldest h =
      let there : sent_first o q ≡ (o, None) = rw (none, oldest, e) refl in
      subst (λ (x : OwnView × Option ParamOutgoingResetRequest). IsQuietOf x.0.active q) (sym there) h

  first_queued : (queued : List OwnRequest) → o.active ≡ None → o.queued ≡ queued → IsQuietOf o.active q
      → IsQuietOf (sent_first o q).0.active q
  first_queued [] none e h =
      let there : sent_first o q ≡ (o, None) = rw (none, e) refl in
      subst (λ (x : OwnView × Option ParamOutgoingResetRequest). IsQuietOf x.0.active q) (sym there) h
  first_queued (r ∷ rs) none e h = first_if (may_go r q) r rs refl none e h

  first_active : (active : Option SentRequest) → o.active ≡ active → IsQuietOf o.active q
      → IsQuietOf (sent_first o q).0.active q
  first_active None e h = first_queued o.queued e refl h
  first_active (Some s) e h =
      let there : sent_first o q ≡ (o, None) = rw e refl in
      subst (λ (x : OwnView × Option ParamOutgoingResetRequest). IsQuietOf x.0.active q) (sym there) h

  first_quiet : IsQuietOf o.active q → IsQuietOf (sent_first o q).0.active q
  first_quiet h = first_active o.active refl h

-- The parts of a poll

again_quiet : (a : Shown) (x : OwnView × Option ParamOutgoingResetRequest) → IsQuietOf x.0.active a.sender.queue
    → ActiveIsQuiet (with_request_again a (with_own a.resets x)).0
again_quiet a (o, None) h = h
again_quiet a (o, Some param) h = h

made_quiet : (a : Shown) (x : OwnView × Bool) → x.0.active ≡ a.resets.own.active → ActiveIsQuiet a
    → ActiveIsQuiet (with_request_asked a (with_asked a.resets x))
made_quiet a (o, true) e h = λ id named. h id (sym (ap (λ (s : Option SentRequest). is_reset_by s id) e) ∙ named)
made_quiet a (o, false) e h = λ id named. h id (sym (ap (λ (s : Option SentRequest). is_reset_by s id) e) ∙ named)

sent_quiet : (a : Shown) (x : OwnView × Option ParamOutgoingResetRequest) → IsQuietOf x.0.active a.sender.queue
    → ActiveIsQuiet (with_request_sent a (with_own a.resets x)).0
sent_quiet a (o, None) h = h
sent_quiet a (o, Some param) h = h

placed_quiet : (a : Shown) (packets : List (List ℕ)) (x : OwnView × Option ParamOutgoingResetRequest)
    → IsQuietOf x.0.active a.sender.queue
    → ActiveIsQuiet (with_request_placed (a, packets) (with_own a.resets x)).0
placed_quiet a packets (o, None) h = h
placed_quiet a packets (o, Some param) h = h

run_if : (runs : Bool) (a : Shown) (now : ℕ) → ActiveIsQuiet a
    → ActiveIsQuiet (if runs then record a { timers = started names.Reconfig now a.estimate.rto a.timers } else a)
run_if true a now h = h
run_if false a now h = h

run_quiet : (a : Shown) (now : ℕ) → ActiveIsQuiet a → ActiveIsQuiet (with_reconfig_run a now)
run_quiet a now h = run_if _ a now h

module _ (held : DataHoldsBack) where
  given_one : (x : Shown × List (List ℕ)) (c : Control) → ActiveIsQuiet x.0
      → ActiveIsQuiet (with_control_given x c).0
  given_one (a, packets) (controls.Packet c) h = h
  given_one (a, packets) controls.OwnRequest h =
      placed_quiet a packets (sent_first a.resets.own a.sender.queue)
      (first_quiet held a.resets.own a.sender.queue h)

  given_quiet : (cs : List Control) (x : Shown × List (List ℕ)) → ActiveIsQuiet x.0
      → ActiveIsQuiet (fold with_control_given x cs).0
  given_quiet [] x h = h
  given_quiet (c ∷ cs) x h = given_quiet cs (with_control_given x c) (given_one x c h)

  control_quiet : (a : Shown) → ActiveIsQuiet a → ActiveIsQuiet (control_polled a).0
  control_quiet a h = given_quiet a.control (without_control a, []) h

  first_if_quiet : (none : Bool) (a : Shown) → ActiveIsQuiet a → ActiveIsQuiet (first_request_if none a).0
  first_if_quiet true a h = h
  first_if_quiet false a h =
      sent_quiet a (sent_first a.resets.own a.sender.queue) (first_quiet held a.resets.own a.sender.queue h)

  behind_quiet : (y : Shown × List (List ℕ)) → ActiveIsQuiet y.0 → ActiveIsQuiet (first_request_behind y).0
  behind_quiet (b, packets) h =
      let c = request_made b in
      subst ActiveIsQuiet (sym (both_first packets (first_request_polled c)))
      (first_if_quiet (length c.control == 0) c
      (made_quiet b (asked b.resets.own b.sender.queue b.resets.peer)
      (asked_active b.resets.own b.sender.queue b.resets.peer) h))

  requests_if : (established : Bool) (a : Shown) → ActiveIsQuiet a
      → ActiveIsQuiet (if established then first_request_behind (repeat_polled a) else (a, [])).0
  requests_if true a h =
      behind_quiet (repeat_polled a)
      (again_quiet a (repeated a.resets.own) (repeated_quiet a.resets.own a.sender.queue h))
  requests_if false a h = h

  requests_quiet : (a : Shown) → ActiveIsQuiet a → ActiveIsQuiet (requests_polled a).0
  unfolding requests_polled
  requests_quiet a h = requests_if (is_established a.state) a h

  -- A whole poll, behind which no stream has DATA that waits or is in flight that had none before.

  data_own : (a : Shown) (now : ℕ) → (data_after a now).0.resets.own ≡ a.resets.own
  unfolding data_polled
  data_own a now = refl

  data_sender : (a : Shown) (own : OwnView) (control : List Control) (now : ℕ)
      → (data_polled (with_own_control a own control) now).0.sender ≡ (data_polled a now).0.sender
  unfolding data_polled
  data_sender a own control now = refl

  module _ (a : Shown) (now : ℕ) (h : ActiveIsQuiet a)
      (none : (id : ℕ) → has_stream a.sender.queue id ≡ false → has_stream (polled a now).0.sender.queue id ≡ false)
    where
      -- what DATA leaves behind what waits beside it
      data_quiet : exchanges_data a.state ≡ true → ActiveIsQuiet (data_after (control_polled a).0 now).0
      data_quiet e = λ id named.
          (let c = (control_polled a).0 in
          let x = (data_after c now).0 in
          let before : has_stream c.sender.queue id ≡ false =
          control_quiet a h id (sym (ap (λ (o : OwnView). is_reset_by o.active id) (data_own c now)) ∙ named) in
          let first : has_stream a.sender.queue id ≡ false =
          sym (ap (λ (z : Shown). has_stream z.sender.queue id) (control_leaves a)) ∙ before in
          ap (λ (z : Shown). has_stream (data_polled z now).0.sender.queue id) (control_leaves a)
          ∙ ap (λ (s : _). has_stream s.queue id) (data_sender a c.resets.own c.control now)
          ∙ sym (ap (λ (s : _). has_stream s.queue id) (polled_sender a now e)) ∙ none id first)

      exchange_quiet : exchanges_data a.state ≡ true → ActiveIsQuiet (open_polled a now).0
      exchange_quiet e =
          let c = (control_polled a).0 in
          let there : exchanges_data c.state ≡ true =
          ap (λ (z : Shown). exchanges_data z.state) (control_leaves a) ∙ e in
          let y = (requests_polled (data_after c now).0).0 in
          subst ActiveIsQuiet (sym (front_leaves a now))
          (run_quiet (exchange_polled c now).0 now
          (subst ActiveIsQuiet (sym (exchange_leaves c now there))
          (requests_quiet (data_after c now).0 (data_quiet e))))

      silence_quiet : exchanges_data a.state ≡ false → ActiveIsQuiet (open_polled a now).0
      silence_quiet e =
          subst ActiveIsQuiet (sym (silent_is a now e)) (run_quiet (control_polled a).0 now (control_quiet a h))

      front_quiet : ActiveIsQuiet (open_polled a now).0
      front_quiet = ⊎_elim exchange_quiet silence_quiet (cases_Bool (exchanges_data a.state))

      pub poll_quiet : ActiveIsQuiet (polled a now).0
      poll_quiet =
          by_poll_end ActiveIsQuiet a now (λ e due timer. front_quiet)
          (λ e open_still id named. absurd (false≢true named))
