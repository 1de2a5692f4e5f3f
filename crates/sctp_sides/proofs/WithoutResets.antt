-- Associations in which no reset of a stream is under way: what resets would do is nothing.
use Rattle.std.proofs.Common.{◌≡◌, refl, sym, ap, ◌∙◌, ℕ, ◌+◌, ◌-◌, ◌<◌, ◌^◌, arith, Bool, true, false, ◌==◌, ◌||◌, not}
use Rattle.std.proofs.Common.{if◌then◌else◌, List, [], ◌∷◌, ◌++◌, length, filter, fold, take, min, Option, Some, None}
use Rattle.std.proofs.Common.{is_some}
use Rattle.std.specs.List.{AllByRecursion, list_any}
use Rattle.sctp_wire_types.specs.Config.{is_rfc}
use Rattle.sctp_wire_types.specs.declared.chunk.SkippedStream.{SkippedStream}
use Rattle.sctp_wire_types.specs.declared.event.StreamEvent.{StreamEvent}
use Rattle.sctp_wire_types.specs.declared.event.StreamEvent.TheVariants as told
use Rattle.sctp_receive_queues.specs.Pieces.{bytes_of}
use Rattle.sctp_streams.specs.declared.event.Event.{Event}
use Rattle.sctp_streams.specs.declared.event.Event.TheVariants as events
use Rattle.sctp_streams.specs.Streams.{StreamMap, bytes_waiting}
use Rattle.sctp_generations.specs.Generations as generations
use Rattle.sctp_generations.specs.Generations.{GenerationsView, has_retiring, has_skips, no_generations}
use Rattle.sctp_generations.specs.Generations.{unordered_skipped}
use Rattle.sctp_generations.specs.Deferred.{is_above}
use Rattle.sctp_generations.specs.Retiring.{boundaries_at, count_of}
use Rattle.sctp_reset_requests.specs.declared.own_request.OwnRequest.{OwnRequest}
use Rattle.sctp_reset_requests.specs.declared.own_request.SentRequest.{SentRequest}
use Rattle.sctp_reset_requests.specs.Debts.{DebtsView, bars, no_debt}
use Rattle.sctp_reset_requests.specs.Ids.{has_id}
use Rattle.sctp_reset_requests.specs.Own.{OwnView, asked, asked_for, ended, expired, failing_ids, most_ids}
use Rattle.sctp_reset_requests.specs.Own.{open_requests, open_with}
use Rattle.sctp_reset_requests.specs.Own.{param_again, quiet_ids, repeated, resets, sent_first, sent_from, with_active}
use Rattle.sctp_reset_requests.specs.Own.{with_given_up, with_repeat}
use Rattle.sctp_reset_requests.specs.Own as own
use Rattle.sctp_reset_requests.specs.Peer.{PeerView, advanced_with, boundary_for, boundary_of, is_one_due}
use Rattle.sctp_reset_requests.specs.Request.{PeerRequestView}
use Rattle.sctp_resets.specs.Answers.{failures_told}
use Rattle.sctp_resets.specs.Channels.{channels}
use Rattle.sctp_resets.specs.Draining.{Reading, passed_times}
use Rattle.sctp_resets.specs.Resets.{Beside, Resetting, ResetsView, given_up, given_up_for_now, given_up_where}
use Rattle.sctp_resets.specs.Resets.{is_blocked, is_hidden, is_retiring, request_again, request_asked, request_sent}
use Rattle.sctp_resets.specs.Resets.{settled_where}
use Rattle.sctp_resets.specs.Resets.{timer_expired}
use Rattle.sctp_resets.specs.Resets.{with_asked, with_generations, with_own, with_read, with_skips_done}
use Rattle.sctp_resets.specs.Resets.{without_unordered}
use Rattle.sctp_resets.specs.Resets as resets
use Rattle.sctp_resets.specs.Skips.{Skipping}
use Rattle.sctp_resets.specs.Skips as skips
use Rattle.sctp_resets.specs.Telling.{debts_told}
use Rattle.sctp_resets.specs.declared.performing.Settled.{Settled}
use Rattle.std.proofs.lemmas.List.{append-nil, append_assoc}
use Rattle.sctp_assoc.specs.declared.control.Control.{Control}
use Rattle.sctp_assoc.specs.declared.control.Control.TheVariants as controls
use Rattle.sctp_assoc.specs.Calls.{drained_behind}
use Rattle.sctp_assoc.specs.Gather.{after_both, control_polled, first_request_behind, first_request_polled}
use Rattle.sctp_assoc.specs.Gather.{packet_bytes}
use Rattle.sctp_assoc.specs.Gather.{requests_polled, with_control_given, with_request_again, with_request_asked}
use Rattle.sctp_assoc.specs.Gather.{with_request_sent, without_control}
use Rattle.sctp_assoc.specs.ResetActs.{acts_of_draining, acts_of_keeping, acts_of_kept_skips, acts_of_settling}
use Rattle.sctp_assoc.specs.Resets.{channels_of, settled, settled_with, settling_takes_memory, skips_applied}
use Rattle.sctp_assoc.specs.Resets.{skips_applied_of, with_beside, with_reconfig_run, with_resetting}
use Rattle.sctp_assoc.specs.Shown.{Shown, all_waiting}
use Rattle.sctp_assoc.specs.Skipping.{with_passed, with_skips}
pub use Rattle.sctp_assoc.proofs.QuietRequests.{no_request_goes_again, no_request_is_asked, no_request_is_polled}
pub use Rattle.sctp_assoc.proofs.QuietRequests.{no_request_is_sent}
use Rattle.sctp_sides.specs.NoReset.{HasNoReset, IsOfNoReset, control_packets}

-- What is kept of generations

no_skip_is_kept : (g : GenerationsView) → g ≡ no_generations → has_skips g ≡ false
no_skip_is_kept g kept = ap has_skips kept

pub none_retires : (r : ResetsView) (id : ℕ) → r.generations ≡ no_generations → is_retiring r id ≡ false
none_retires r id kept = ap (λ (g : GenerationsView). generations.retires g id) kept

pub none_is_hidden : (r : ResetsView) (id t : ℕ) → r.peer.in_progress ≡ None → r.generations ≡ no_generations
    → is_hidden r id t ≡ false
none_is_hidden r id t none kept =
    ap (λ (g : GenerationsView). generations.is_hidden g id t (boundary_of r.peer id)) kept
    ∙ ap (λ (o : Option PeerRequestView). is_above (boundary_for o id) t) none

none_applied_of : (g : GenerationsView) (m : StreamMap) (told : List Event) (id : ℕ) → has_skips g ≡ false
    → skips.skips_applied_of (g, m, told) id ≡ (g, m, told)
none_applied_of g m told id none = rw none refl

none_applied : (g : GenerationsView) (m : StreamMap) (told : List Event) → has_skips g ≡ false
    → skips.skips_applied (g, m, told) ≡ (g, m, told)
none_applied g m told none = rw none refl

-- no skip is kept, and so none is applied
pub no_skip_is_applied : (id : ℕ) (a : Shown) → a.resets.generations ≡ no_generations → skips_applied_of id a ≡ a
no_skip_is_applied id a kept =
    ap (λ (x : Skipping). with_beside a (with_skips_done a.resets x))
    (none_applied_of a.resets.generations a.streams a.events id (no_skip_is_kept a.resets.generations kept))

no_skips_are_applied : (a : Shown) → a.resets.generations ≡ no_generations → skips_applied a ≡ a
no_skips_are_applied a kept =
    ap (λ (x : Skipping). with_beside a (with_skips_done a.resets x))
    (none_applied a.resets.generations a.streams a.events (no_skip_is_kept a.resets.generations kept))

-- a FORWARD TSN passes over nothing that is kept
pub nothing_is_passed : (r : ResetsView) (tsn : ℕ) → r.generations ≡ no_generations → without_unordered r tsn ≡ r
nothing_is_passed r tsn kept =
    ap (λ (g : GenerationsView). with_generations r (unordered_skipped g tsn)) kept
    ∙ ap (λ (g : GenerationsView). with_generations r g) (sym kept)

-- a read ends no generation
none_ends : (o : Option (List ℕ)) (first limit id : ℕ) (in_progress : Option ℕ) (r : Reading) → o ≡ None
    → passed_times (count_of o) first limit id in_progress r ≡ r
none_ends None first limit id in_progress r e = refl
none_ends (Some boundaries) first limit id in_progress r e = absurd (cc)

pub nothing_is_drained : (a : Shown) (id : ℕ) (streams : StreamMap) → a.resets.generations ≡ no_generations
    → drained_behind a id streams ≡ record a { streams = streams }
nothing_is_drained a id streams kept =
    ap (λ (r : Reading). with_resetting a (with_read a.resets r))
    (none_ends (boundaries_at a.resets.generations.retiring id) a.sender.queue.next_message_id
    a.receiver.max_receive_message_size id (boundary_of a.resets.peer id)
    (a.resets.generations, channels streams a.events a.to_accept)
    (ap (λ (g : GenerationsView). boundaries_at g.retiring id) kept))

-- The request of the peer that waits

none_advances : (o : Option PeerRequestView) (p : PeerView) (t : ℕ) → o ≡ None → advanced_with o p t ≡ (p, None)
none_advances None p t e = refl
none_advances (Some r) p t e = absurd (cc)

-- where no request of the peer waits and no skip is kept, settling does nothing
settled_is_same : (a : Shown) → a.resets.peer.in_progress ≡ None → a.resets.generations ≡ no_generations
    → settled a ≡ a
unfolding settled
settled_is_same a none kept =
    ap (λ (x : PeerView × Option PeerRequestView).
    skips_applied (settled_with a (settled_where x a.sender.queue.next_message_id
    a.receiver.max_receive_message_size a.resets (channels_of a))))
    (none_advances a.resets.peer.in_progress a.resets.peer a.receiver.peer_last_tsn none)
    ∙ no_skips_are_applied a kept

settling_takes_none : (a : Shown) → a.resets.peer.in_progress ≡ None → a.resets.generations ≡ no_generations
    → settling_takes_memory a ≡ false
settling_takes_none a none kept =
    ap (λ (o : Option PeerRequestView).
    is_one_due o a.receiver.peer_last_tsn || has_skips a.resets.generations) none
    ∙ no_skip_is_kept a.resets.generations kept

pub settling_is_nothing : (a : Shown) → a.resets.peer.in_progress ≡ None → a.resets.generations ≡ no_generations
    → (settled a ≡ a) × (settling_takes_memory a ≡ false)
settling_is_nothing a none kept = (settled_is_same a none kept, settling_takes_none a none kept)

-- so are the acts of these
pub no_act_of_settling : (a : Shown) → a.resets.peer.in_progress ≡ None → a.resets.generations ≡ no_generations
    → acts_of_settling a ≡ []
no_act_of_settling a none kept = rw (settling_takes_none a none kept) refl

pub no_act_of_kept_skips : (id : ℕ) (a : Shown) → a.resets.generations ≡ no_generations → acts_of_kept_skips id a ≡ []
no_act_of_kept_skips id a kept = rw (no_skip_is_kept a.resets.generations kept) refl

none_is_retiring : (g : GenerationsView) → g ≡ no_generations → has_retiring g ≡ false
none_is_retiring g kept = ap has_retiring kept

pub no_act_of_keeping : (tsn : ℕ) (es : List SkippedStream) (a : Shown) → a.resets.generations ≡ no_generations
    → acts_of_keeping tsn es a ≡ []
no_act_of_keeping tsn es a kept = rw (none_is_retiring a.resets.generations kept) refl

pub no_act_of_draining : (a : Shown) (id : ℕ) (streams : StreamMap) → a.resets.generations ≡ no_generations
    → acts_of_draining a id streams ≡ []
no_act_of_draining a id streams kept = rw (none_retires a.resets id kept) refl

-- The bytes that wait are those of the live streams.
pub streams_alone_wait : (a : Shown) → a.resets.generations ≡ no_generations
    → all_waiting a ≡ min (bytes_waiting a.streams) (2 ^ 64 - 1)
streams_alone_wait a kept =
    ap (λ (g : GenerationsView). min (bytes_waiting a.streams + bytes_of g.deferred) (2 ^ 64 - 1)) kept
    ∙ ap (λ (n : ℕ). min n (2 ^ 64 - 1)) (nothing_more (bytes_waiting a.streams))
  where
    nothing_more : (n : ℕ) → n + 0 ≡ n
    nothing_more n = omega arith

min_is_first : (n m : ℕ) → n < m + 1 → min n m ≡ n
min_is_first n m below = omega (arith, below)

pub all_that_waits : (a : Shown) → a.resets.generations ≡ no_generations → bytes_waiting a.streams < 2 ^ 64
    → all_waiting a ≡ bytes_waiting a.streams
all_that_waits a kept below =
    streams_alone_wait a kept ∙ min_is_first (bytes_waiting a.streams) (2 ^ 64 - 1) below

-- This side's requests

-- no stream is to be reset, and none is kept from being used
pub none_is_blocked : (r : ResetsView) (id : ℕ) → r.own.waiting ≡ [] → r.own.queued ≡ [] → r.own.active ≡ None
    → r.own.ahead ≡ [] → r.debts ≡ no_debt → r.generations ≡ no_generations → is_blocked r id ≡ false
none_is_blocked r id waiting queued active ahead owed kept =
    ap (λ (w : List ℕ). has_id id w || (list_any (resets id) (open_requests r.own) || has_id id r.own.ahead)
    || bars r.debts id || is_retiring r id) waiting
    ∙ ap (λ (o : Option SentRequest). (list_any (resets id) (open_with o r.own.queued) || has_id id r.own.ahead)
    || bars r.debts id || is_retiring r id) active
    ∙ ap (λ (q : List OwnRequest). (list_any (resets id) q || has_id id r.own.ahead) || bars r.debts id
    || is_retiring r id) queued
    ∙ ap (λ (ids : List ℕ). has_id id ids || bars r.debts id || is_retiring r id) ahead
    ∙ ap (λ (d : DebtsView). bars d id || is_retiring r id) owed
    ∙ none_retires r id kept

-- none is to go out again, or given up
pub no_request_expires : (r : ResetsView) → r.own.active ≡ None → timer_expired r ≡ r
no_request_expires r active =
    ap (λ (o : Option SentRequest). record r { own = with_active r.own (with_repeat true o) }) active
    ∙ ap (λ (o : Option SentRequest). record r { own = with_active r.own o }) (sym active)

no_request_ends : (r : ResetsView) (m : StreamMap) (told : List Event) → r.own.active ≡ None
    → given_up_where (ended r.own) r m told ≡ (r, m, told)
no_request_ends r m told active =
    ap (λ (o : Option SentRequest). given_up_where (with_active r.own None, own.request_sent o) r m told) active
    ∙ ap (λ (o : Option SentRequest). (record r { own = with_active r.own o }, m, told)) (sym active)

no_request_is_marked : (r : ResetsView) (m : StreamMap) (told : List Event) → r.own.active ≡ None
    → given_up_for_now r m told ≡ (r, m, told)
no_request_is_marked r m told active =
    ap (λ (o : Option SentRequest). (
      record r { own = with_active r.own (with_given_up o) },
      m,
      failures_told r.debts m (failing_ids o) told,
    )) active
    ∙ ap (λ (o : Option SentRequest). (record r { own = with_active r.own o }, m, told)) (sym active)

given_up_as_if : (by_rfcs : Bool) (r : ResetsView) (m : StreamMap) (told : List Event) → r.own.active ≡ None
    → (if by_rfcs then given_up_for_now r m told else given_up_where (ended r.own) r m told) ≡ (r, m, told)
given_up_as_if true r m told active = no_request_is_marked r m told active
given_up_as_if false r m told active = no_request_ends r m told active

pub no_request_is_given_up : (r : ResetsView) (m : StreamMap) (told : List Event) → r.own.active ≡ None
    → given_up r m told ≡ (r, m, told)
no_request_is_given_up r m told active = given_up_as_if (is_rfc r.own.profile) r m told active

-- its timer is not started
pub no_request_is_timed : (a : Shown) (now : ℕ) → a.resets.own.active ≡ None → with_reconfig_run a now ≡ a
no_request_is_timed a now active = run_unless (is_some a.resets.own.active) a now (ap is_some active) refl
  where
    run_unless : (c : Bool) (b : Shown) (n : ℕ) → c ≡ false → is_some b.resets.own.active ≡ c
        → with_reconfig_run b n ≡ b
    run_unless true b n e f = absurd (cc)
    run_unless false b n e f = rw f refl

-- What waits goes out as it is.

packets_go_out : (cs : List Control) (a : Shown) (packets : List (List ℕ)) → AllByRecursion IsOfNoReset cs
    → fold with_control_given (a, packets) cs ≡ (a, packets ++ control_packets cs)
packets_go_out [] a packets all = ap (λ (z : List (List ℕ)). (a, z)) (sym (append-nil packets))
packets_go_out (controls.Packet c ∷ cs) a packets (one, rest) =
    packets_go_out cs a (packets ++ packet_bytes c.header c.chunk) rest
    ∙ ap (λ (z : List (List ℕ)). (a, z)) (append_assoc packets (packet_bytes c.header c.chunk) (control_packets cs))
packets_go_out (controls.OwnRequest ∷ cs) a packets (none, rest) = absurd none

pub what_waits_goes_out : (a : Shown) → HasNoReset a → control_polled a ≡ (without_control a, control_packets a.control)
what_waits_goes_out a n = packets_go_out a.control (without_control a) [] n.control

-- What is owed: nothing, whatever is told.

debts_said_none : (e : StreamEvent) → debts_told (events.Stream e) no_debt ≡ no_debt
debts_said_none (told.Opened i) = refl
debts_said_none (told.Readable i) = refl
debts_said_none (told.Writable i) = refl
debts_said_none (told.Finished i) = refl
debts_said_none (told.ResetComplete i) = refl
debts_said_none (told.ResetFailed i reason) = refl
debts_said_none (told.Stopped i code) = refl
debts_said_none (told.BufferedAmountLow i) = refl
debts_said_none (told.BufferedAmountHigh i) = refl
debts_said_none told.Available = refl

pub nothing_is_owed : (e : Event) → debts_told e no_debt ≡ no_debt
nothing_is_owed events.Connected = refl
nothing_is_owed (events.HandshakeFailed reason) = refl
nothing_is_owed (events.AssociationLost reason) = refl
nothing_is_owed (events.Stream e) = debts_said_none e
nothing_is_owed (events.DataChannelStatsFinal stats) = refl
nothing_is_owed events.DatagramReceived = refl
