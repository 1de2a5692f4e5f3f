-- The order of a shutdown at one side (RFC 4960 section 9.2): while SHUTDOWN or SHUTDOWN ACK waits for its answer all
-- DATA of this side is acknowledged, while it waits for DATA some is not, and SHUTDOWN or SHUTDOWN ACK is due, and
-- the timer of the answer runs, in the states alone in which an answer is awaited, and one of them is so there. What
-- keeps that order.
use Rattle.std.proofs.Common.{◌≡◌, refl, sym, ap, ◌∙◌, subst, ◌⊎◌, inl, inr, ℕ, Bool, true, false, ◌&&◌, ◌||◌, ◌==◌}
use Rattle.std.proofs.Common.{not}
use Rattle.std.proofs.Common.{if◌then◌else◌, ltb, List, [], ◌∷◌, length, map, slice_get, zero, suc, eqb, Option, Some}
use Rattle.std.proofs.Common.{None}
use Rattle.std.proofs.Common.{is_some}
use Rattle.std.proofs.lemmas.Bool.{and_parts, eqb-true, false≢true, true≢false}
use Rattle.std.proofs.lemmas.List.{length-map, nil_from_length}
use Rattle.sctp_wire_types.specs.declared.chunk.Chunk.TheVariants as chunks
use Rattle.sctp_wire_types.specs.declared.error.Error.TheVariants as errors
use Rattle.sctp_parts.specs.declared.state.AssociationState.{AssociationState}
use Rattle.sctp_parts.specs.declared.state.AssociationState.TheVariants as states
use Rattle.sctp_parts.specs.declared.timer.Timer.TheVariants as names
use Rattle.sctp_parts.specs.State.{is_closing}
use Rattle.sctp_parts.specs.Timers.{TimerState, Timers, expired_state, expiry_of, is_ahead, is_due, moment_of, started}
use Rattle.sctp_parts.specs.Timers.{with_stopped, with_timer}
use Rattle.sctp_streams.specs.declared.event.AssociationError.TheVariants as reasons
use Rattle.sctp_streams.specs.Streams.{StreamMap}
use Rattle.sctp_inbound.specs.declared.handshake.Offer.{Offer}
use Rattle.sctp_outbound_queue.specs.declared.message.InFlight.{InFlight}
use Rattle.sctp_outbound_queue.specs.declared.message.Retransmission.TheVariants as causes
use Rattle.sctp_outbound_queue.specs.Expiry.{after_tail_expiry_of, without_expired}
use Rattle.sctp_outbound_queue.specs.Message.{marked_again, sent_started, waiting_started}
use Rattle.sctp_outbound_queue.specs.Outbound.{abandoned_from, pieces_waiting}
use Rattle.sctp_outbound_queue.specs.Waiting.{Waiting}
use Rattle.sctp_outbound.specs.declared.sender.Sender.{Sender}
use Rattle.sctp_outbound.specs.Abandonment.{abandoned_of, expires, first_dropped, tail_given_up, with_started}
use Rattle.sctp_outbound.specs.Sender.{after_marked, after_missing, both_windows, can_send_next, fast_room}
use Rattle.sctp_outbound.specs.Sender.{first_counted}
use Rattle.sctp_outbound.specs.Sender.{resends_alone, resent_pieces, sent_new, sent_one, sent_probing, sent_within}
use Rattle.sctp_assoc.specs.declared.shutdown.ShutdownDue.{ShutdownDue}
use Rattle.sctp_assoc.specs.Calls.{after_ack_delay, after_t3, exchanges_data, is_established, retransmits, t3_expired}
use Rattle.sctp_assoc.specs.Closing.{closed_open, is_closed_state}
use Rattle.sctp_assoc.specs.Gather.{both_of, control_polled, data_after, data_polled, fast_polled, late_abandoned}
use Rattle.sctp_assoc.specs.Gather.{new_sent, open_polled, polled, shutdown_packet, shutdown_polled}
use Rattle.sctp_assoc.specs.Gather.{t3_run_if, with_complete_given}
use Rattle.sctp_assoc.specs.Handshake.{after_t1_cookie, after_t1_init, cookie_queued, init_queued, sends_cookie}
use Rattle.sctp_assoc.specs.Handshake.{sends_init, t1_cookie_expired, t1_init_expired}
use Rattle.sctp_assoc.specs.Resets.{after_reconfig_timer, with_reconfig_run}
use Rattle.sctp_assoc.specs.Shown.{Shown, uses_forward_tsn}
use Rattle.sctp_assoc.specs.Shutdown.{after_t2_shutdown, all_acknowledged, awaits_answer, due_again, due_at_shutdown}
use Rattle.sctp_assoc.specs.Shutdown.{due_behind_data, shutdown_ack_sent, shutdown_again, shutdown_answered}
use Rattle.sctp_assoc.specs.Shutdown.{shutdown_begun, shutdown_continued, shutdown_sent, shutdown_taken}
use Rattle.sctp_assoc.specs.Shutdown.{state_at_shutdown, state_behind_data}
use Rattle.sctp_assoc.specs.Timeouts.{after_timeouts}
use Rattle.sctp_assoc.proofs.GivenApart.{ChangesControl, with_own_control}
use Rattle.sctp_sides.specs.Ending.{AreInOrder, IsDueOrTimed, IsInOrder, is_any_due}
use Rattle.sctp_sides.specs.OneSide.{is_armed}
use Rattle.sctp_sides.specs.Witnesses.{is_waiting_for_data}
use Rattle.sctp_sides.proofs.EndedPolls.{polled_ends}
use Rattle.sctp_sides.proofs.GivingUpKeeps.{data_poll_kept}
use Rattle.sctp_sides.proofs.PollsLeave.{after_requests, control_leaves, polled_from, silent_is}
use Rattle.sctp_sides.proofs.ResetsBeside.{ChangesResets, reconfig_timer_changes, run_changes, with_resets_of}
use Rattle.sctp_sides.proofs.TimersOverChunks.{closed_rests}
use Rattle.sctp_sides.proofs.TimersOverTimeouts.{kept_if}
use Rattle.sctp_sides.proofs.TimersRun.{AtRest, closed_gives_nothing}

-- it is in order, or failed or was lost
abbrev pub IsOrderedOrRests : Shown → Type 0
IsOrderedOrRests a = IsInOrder a ⊎ AtRest a

-- one of two is so yet where both stayed as they were
still_either : {x y t u : Bool} → x ≡ y → t ≡ u → (x ≡ true) ⊎ (t ≡ true) → (y ≡ true) ⊎ (u ≡ true)
still_either first second (inl e) = inl (sym first ∙ e)
still_either first second (inr e) = inr (sym second ∙ e)

-- what none of this looks at may change
pub order_by : (a b : Shown) → b.state ≡ a.state → b.shutdown_due ≡ a.shutdown_due
    → b.timers.t2_shutdown ≡ a.timers.t2_shutdown → all_acknowledged b ≡ all_acknowledged a → IsInOrder a
    → IsInOrder b
order_by a b state due timer acknowledged h = record {
  order =
      subst (λ (z : Bool). AreInOrder z b.state b.shutdown_due (is_armed names.T2Shutdown b.timers)) (sym acknowledged)
      (subst
      (λ (z : AssociationState). AreInOrder (all_acknowledged a) z b.shutdown_due (is_armed names.T2Shutdown b.timers))
      (sym state)
      (subst (λ (z : ShutdownDue). AreInOrder (all_acknowledged a) a.state z (is_armed names.T2Shutdown b.timers))
      (sym due)
      (subst (λ (z : TimerState). AreInOrder (all_acknowledged a) a.state a.shutdown_due (is_some z.moment)) (sym timer)
      h.order)));
}

-- nor what resets of streams change
pub order_beside : (a b : Shown) → ChangesResets a b → IsInOrder a → IsInOrder b
order_beside a b e h = subst IsInOrder (sym e) (order_by a (with_resets_of a b) refl refl refl refl h)

-- States

pub nothing_awaited : (s : AssociationState) → is_closing s ≡ false
    → (awaits_answer s ≡ false) × (is_waiting_for_data s ≡ false)
nothing_awaited states.Closed e = (refl, refl)
nothing_awaited states.CookieWait e = (refl, refl)
nothing_awaited states.CookieEchoed e = (refl, refl)
nothing_awaited states.Established e = (refl, refl)
nothing_awaited states.ShutdownAckSent e = absurd (true≢false e)
nothing_awaited states.ShutdownPending e = absurd (true≢false e)
nothing_awaited states.ShutdownReceived e = absurd (true≢false e)
nothing_awaited states.ShutdownSent e = absurd (true≢false e)

pub established_is_not_closing : (s : AssociationState) → is_established s ≡ true → is_closing s ≡ false
established_is_not_closing states.Closed e = refl
established_is_not_closing states.CookieWait e = refl
established_is_not_closing states.CookieEchoed e = refl
established_is_not_closing states.Established e = refl
established_is_not_closing states.ShutdownAckSent e = absurd (false≢true e)
established_is_not_closing states.ShutdownPending e = absurd (false≢true e)
established_is_not_closing states.ShutdownReceived e = absurd (false≢true e)
established_is_not_closing states.ShutdownSent e = absurd (false≢true e)

-- where no shutdown goes on, and none does afterwards, DATA may come and go
module _ (k m : Bool) (s z : AssociationState) (due : ShutdownDue) (timed : Bool) (h : AreInOrder k s due timed)
    (before : is_closing s ≡ false) (after : is_closing z ≡ false) where
  pub in_use : AreInOrder m z due timed
  in_use = record {
    behind_data = λ e. absurd (false≢true (sym (nothing_awaited z after).0 ∙ e));
    before_data = λ e. absurd (false≢true (sym (nothing_awaited z after).1 ∙ e));
    asked = λ e. absurd (false≢true (sym (nothing_awaited s before).0 ∙ h.asked e));
    agreed = λ e. absurd (true≢false (ap is_closing (sym (h.agreed e)) ∙ before));
    answered = λ e. absurd (false≢true (sym (nothing_awaited s before).0 ∙ h.answered e));
    lives = λ e. absurd (false≢true (sym (nothing_awaited z after).0 ∙ e));
  }

-- Whether one of three is so

first_of : (x y z : Bool) → x ≡ true → (x || y || z) ≡ true
first_of true y z e = refl
first_of false y z e = absurd (false≢true e)

second_of : (x y z : Bool) → y ≡ true → (x || y || z) ≡ true
second_of true y z e = refl
second_of false true z e = refl
second_of false false z e = absurd (false≢true e)

third_of : (x y z : Bool) → z ≡ true → (x || y || z) ≡ true
third_of true y z e = refl
third_of false true z e = refl
third_of false false z e = e

-- A shutdown that goes on

-- behind DATA it is in order by what leads on there
module _ (due : ShutdownDue) (timed : Bool) where
  goes_on_in_order : (s : AssociationState)
      → (is_any_due due ≡ true → awaits_answer s ≡ true)
      → (due.shutdown_ack ≡ true → s ≡ states.ShutdownAckSent)
      → (timed ≡ true → awaits_answer s ≡ true)
      → (awaits_answer s ≡ true → IsDueOrTimed due timed)
      → AreInOrder true (state_behind_data s) (due_behind_data s due) timed
  goes_on_in_order states.Closed asked agreed answered lives = record {
    behind_data = λ e. refl;
    before_data = λ e. absurd (false≢true e);
    asked = asked;
    agreed = agreed;
    answered = answered;
    lives = lives;
  }
  goes_on_in_order states.CookieWait asked agreed answered lives = record {
    behind_data = λ e. refl;
    before_data = λ e. absurd (false≢true e);
    asked = asked;
    agreed = agreed;
    answered = answered;
    lives = lives;
  }
  goes_on_in_order states.CookieEchoed asked agreed answered lives = record {
    behind_data = λ e. refl;
    before_data = λ e. absurd (false≢true e);
    asked = asked;
    agreed = agreed;
    answered = answered;
    lives = lives;
  }
  goes_on_in_order states.Established asked agreed answered lives = record {
    behind_data = λ e. refl;
    before_data = λ e. absurd (false≢true e);
    asked = asked;
    agreed = agreed;
    answered = answered;
    lives = lives;
  }
  goes_on_in_order states.ShutdownAckSent asked agreed answered lives = record {
    behind_data = λ e. refl;
    before_data = λ e. absurd (false≢true e);
    asked = λ e. refl;
    agreed = agreed;
    answered = λ e. refl;
    lives = lives;
  }
  goes_on_in_order states.ShutdownPending asked agreed answered lives = record {
    behind_data = λ e. refl;
    before_data = λ e. absurd (false≢true e);
    asked = λ e. refl;
    agreed = λ e. absurd (false≢true (ap awaits_answer (agreed e)));
    answered = λ e. refl;
    lives = λ e. inl refl;
  }
  goes_on_in_order states.ShutdownReceived asked agreed answered lives = record {
    behind_data = λ e. refl;
    before_data = λ e. absurd (false≢true e);
    asked = λ e. refl;
    agreed = λ e. refl;
    answered = λ e. refl;
    lives = λ e. inl (second_of due.shutdown true due.shutdown_complete refl);
  }
  goes_on_in_order states.ShutdownSent asked agreed answered lives = record {
    behind_data = λ e. refl;
    before_data = λ e. absurd (false≢true e);
    asked = λ e. refl;
    agreed = agreed;
    answered = λ e. refl;
    lives = lives;
  }

  continued_if : (acknowledged : Bool) (s : AssociationState)
      → (awaits_answer s ≡ true → acknowledged ≡ true)
      → (is_any_due due ≡ true → awaits_answer s ≡ true)
      → (due.shutdown_ack ≡ true → s ≡ states.ShutdownAckSent)
      → (timed ≡ true → awaits_answer s ≡ true)
      → (awaits_answer s ≡ true → IsDueOrTimed due timed)
      → AreInOrder acknowledged (if acknowledged then state_behind_data s else s)
      (if acknowledged then due_behind_data s due else due) timed
  continued_if true s behind asked agreed answered lives = goes_on_in_order s asked agreed answered lives
  continued_if false s behind asked agreed answered lives = record {
    behind_data = behind;
    before_data = λ e. refl;
    asked = asked;
    agreed = agreed;
    answered = answered;
    lives = lives;
  }

pub continued_order : (b : Shown) → (awaits_answer b.state ≡ true → all_acknowledged b ≡ true)
    → (is_any_due b.shutdown_due ≡ true → awaits_answer b.state ≡ true)
    → (b.shutdown_due.shutdown_ack ≡ true → b.state ≡ states.ShutdownAckSent)
    → (is_armed names.T2Shutdown b.timers ≡ true → awaits_answer b.state ≡ true)
    → (awaits_answer b.state ≡ true → IsDueOrTimed b.shutdown_due (is_armed names.T2Shutdown b.timers))
    → IsInOrder (shutdown_continued b)
continued_order b behind asked agreed answered lives = record {
  order =
      continued_if b.shutdown_due (is_armed names.T2Shutdown b.timers) (all_acknowledged b) b.state behind asked
      agreed answered lives;
}

-- the application begins one
pub begun_order : (a : Shown) → is_established a.state ≡ true → IsInOrder a → IsInOrder (shutdown_begun a)
begun_order a e h =
    let none = (nothing_awaited a.state (established_is_not_closing a.state e)).0 in
    continued_order (record a { state = states.ShutdownPending; endpoint_event = (shutdown_begun a).endpoint_event })
    (λ (w : false ≡ true). absurd (false≢true w))
    (λ (w : is_any_due a.shutdown_due ≡ true). absurd (false≢true (sym none ∙ h.order.asked w)))
    (λ (w : a.shutdown_due.shutdown_ack ≡ true).
    absurd (false≢true (sym none ∙ ap awaits_answer (h.order.agreed w))))
    (λ (w : is_armed names.T2Shutdown a.timers ≡ true). absurd (false≢true (sym none ∙ h.order.answered w)))
    (λ (w : false ≡ true). absurd (false≢true w))

-- SHUTDOWN comes
taken_if : (acknowledged timed : Bool) (s : AssociationState) (due : ShutdownDue)
    → AreInOrder acknowledged s due timed
    → AreInOrder acknowledged (state_at_shutdown acknowledged s) (due_at_shutdown acknowledged s due) timed
taken_if acknowledged timed states.Closed due h = h
taken_if acknowledged timed states.CookieWait due h = h
taken_if acknowledged timed states.CookieEchoed due h = h
taken_if true timed states.Established due h = record {
  behind_data = λ e. refl;
  before_data = λ e. absurd (false≢true e);
  asked = λ e. refl;
  agreed = λ e. refl;
  answered = λ e. refl;
  lives = λ e. inl (second_of due.shutdown true due.shutdown_complete refl);
}
taken_if false timed states.Established due h = record {
  behind_data = λ e. absurd (false≢true e);
  before_data = λ e. refl;
  asked = h.asked;
  agreed = λ e. absurd (false≢true (ap awaits_answer (h.agreed e)));
  answered = h.answered;
  lives = λ e. absurd (false≢true e);
}
taken_if acknowledged timed states.ShutdownAckSent due h = h
taken_if acknowledged timed states.ShutdownPending due h = h
taken_if acknowledged timed states.ShutdownReceived due h = h
taken_if acknowledged timed states.ShutdownSent due h = record {
  behind_data = λ e. h.behind_data refl;
  before_data = λ e. absurd (false≢true e);
  asked = λ e. refl;
  agreed = λ e. refl;
  answered = λ e. refl;
  lives = λ e. inl (second_of due.shutdown true due.shutdown_complete refl);
}

pub taken_order : (a : Shown) → IsInOrder a → IsInOrder (shutdown_taken a)
taken_order a h = record {
  order = taken_if (all_acknowledged a) (is_armed names.T2Shutdown a.timers) a.state a.shutdown_due h.order;
}

-- SHUTDOWN or SHUTDOWN ACK goes out again where an answer is awaited
again_if : (acknowledged timed : Bool) (s : AssociationState) (due : ShutdownDue)
    → AreInOrder acknowledged s due timed → AreInOrder acknowledged s (due_again s due) timed
again_if acknowledged timed states.Closed due h = h
again_if acknowledged timed states.CookieWait due h = h
again_if acknowledged timed states.CookieEchoed due h = h
again_if acknowledged timed states.Established due h = h
again_if acknowledged timed states.ShutdownAckSent due h = record {
  behind_data = h.behind_data;
  before_data = h.before_data;
  asked = λ e. refl;
  agreed = λ e. refl;
  answered = h.answered;
  lives = λ e. inl (second_of due.shutdown true due.shutdown_complete refl);
}
again_if acknowledged timed states.ShutdownPending due h = h
again_if acknowledged timed states.ShutdownReceived due h = h
again_if acknowledged timed states.ShutdownSent due h = record {
  behind_data = h.behind_data;
  before_data = h.before_data;
  asked = λ e. refl;
  agreed = h.agreed;
  answered = h.answered;
  lives = λ e. inl refl;
}

pub again_order : (a : Shown) → IsInOrder a → IsInOrder (shutdown_again a)
again_order a h = record {
  order = again_if (all_acknowledged a) (is_armed names.T2Shutdown a.timers) a.state a.shutdown_due h.order;
}

-- SHUTDOWN ACK comes
stopped_or_as_it_was : (stops : Bool) (t : Timers)
    → is_armed names.T2Shutdown (if stops then with_stopped names.T2Shutdown t else t) ≡ true
    → is_armed names.T2Shutdown t ≡ true
stopped_or_as_it_was true t e = absurd (false≢true e)
stopped_or_as_it_was false t e = e

-- SHUTDOWN COMPLETE is due then where an answer was awaited, and else what was due
completes_where_awaited : (awaits : Bool) (due : ShutdownDue)
    → is_any_due (record due { shutdown_complete = if awaits then true else due.shutdown_complete }) ≡ true
    → (is_any_due due ≡ true → awaits ≡ true) → awaits ≡ true
completes_where_awaited true due e asked = refl
completes_where_awaited false due e asked = asked e

complete_is_due : (awaits : Bool) (due : ShutdownDue) → awaits ≡ true
    → is_any_due (record due { shutdown_complete = if awaits then true else due.shutdown_complete }) ≡ true
complete_is_due true due e = third_of due.shutdown due.shutdown_ack true refl
complete_is_due false due e = absurd (false≢true e)

pub answered_order : (a : Shown) → IsInOrder a → IsInOrder (shutdown_answered a)
answered_order a h = record {
  order = record {
    behind_data = h.order.behind_data;
    before_data = h.order.before_data;
    asked = λ e. completes_where_awaited (awaits_answer a.state) a.shutdown_due e h.order.asked;
    agreed = h.order.agreed;
    answered = λ e. h.order.answered (stopped_or_as_it_was (awaits_answer a.state) a.timers e);
    lives = λ e. inl (complete_is_due (awaits_answer a.state) a.shutdown_due e);
  };
}

-- The end of a poll: the chunk of a shutdown that goes out last

-- a closed side awaits nothing
completed_order : (closed : Bool) (m : Shown) (due : ShutdownDue) → is_closed_state m.state ≡ closed
    → (is_any_due due ≡ true → is_any_due m.shutdown_due ≡ true)
    → (due.shutdown_ack ≡ true → m.shutdown_due.shutdown_ack ≡ true) → IsInOrder m
    → IsOrderedOrRests
    (let b : Shown = record m { shutdown_due = due } in
    if closed then b else closed_open b reasons.AssociationClosed)
completed_order true m due closed e f h = inl (record {
  order = record {
    behind_data = h.order.behind_data;
    before_data = h.order.before_data;
    asked = λ w. h.order.asked (e w);
    agreed = λ w. h.order.agreed (f w);
    answered = h.order.answered;
    lives = λ w.
        absurd (false≢true (sym (nothing_awaited m.state (closed_gives_nothing m.state closed).1).0 ∙ w));
  };
})
completed_order false m due closed e f h =
    inr (closed_rests (record m { shutdown_due = due }) reasons.AssociationClosed)

-- where SHUTDOWN COMPLETE goes out the others are due no more often
third_left : (x y z : Bool) → (x || y || false) ≡ true → (x || y || z) ≡ true
third_left true y z e = refl
third_left false true z e = refl
third_left false false z e = absurd (false≢true e)

-- SHUTDOWN or SHUTDOWN ACK was due: an answer is awaited, and its timer runs
awaiting_order : (m b : Shown) → awaits_answer m.state ≡ true → is_armed names.T2Shutdown b.timers ≡ true
    → (b.shutdown_due.shutdown_ack ≡ true → m.state ≡ states.ShutdownAckSent) → b.state ≡ m.state
    → all_acknowledged b ≡ all_acknowledged m → IsInOrder m → IsInOrder b
awaiting_order m b w timed agreed state acknowledged h =
    let there : awaits_answer b.state ≡ true = ap awaits_answer state ∙ w in
    record {
      order = record {
        behind_data = λ e. acknowledged ∙ h.order.behind_data w;
        before_data = λ e. acknowledged ∙ h.order.before_data (sym (ap is_waiting_for_data state) ∙ e);
        asked = λ e. there;
        agreed = λ e. state ∙ agreed e;
        answered = λ e. there;
        lives = λ e. inr timed;
      };
    }

end_if : (closing shutdown shutdown_ack complete : Bool) (m : Shown) (now : ℕ)
    → m.shutdown_due.shutdown ≡ shutdown → m.shutdown_due.shutdown_ack ≡ shutdown_ack → IsInOrder m
    → IsOrderedOrRests
    (if◌then◌else◌ {A = Shown × List (List ℕ)} (not closing) (m, []) (
    if shutdown then (shutdown_sent m now, shutdown_packet m (chunks.Shutdown m.receiver.peer_last_tsn)) else
    if shutdown_ack then (shutdown_ack_sent m now, shutdown_packet m chunks.ShutdownAck) else
    if complete then with_complete_given m else (m, []))).0
end_if false shutdown shutdown_ack complete m now e f h = inl h
end_if true true shutdown_ack complete m now e f h =
    let w = h.order.asked
    (first_of m.shutdown_due.shutdown m.shutdown_due.shutdown_ack m.shutdown_due.shutdown_complete e) in
    inl (awaiting_order m (shutdown_sent m now) w refl h.order.agreed refl refl h)
end_if true false true complete m now e f h =
    let w = h.order.asked
    (second_of m.shutdown_due.shutdown m.shutdown_due.shutdown_ack m.shutdown_due.shutdown_complete f) in
    inl (awaiting_order m (shutdown_ack_sent m now) w refl (λ (v : false ≡ true). absurd (false≢true v)) refl refl h)
end_if true false false true m now e f h =
    completed_order (is_closed_state m.state) m
    (let due = m.shutdown_due in record due { shutdown_complete = false }) refl
    (third_left m.shutdown_due.shutdown m.shutdown_due.shutdown_ack m.shutdown_due.shutdown_complete)
    (λ (w : m.shutdown_due.shutdown_ack ≡ true). w) h
end_if true false false false m now e f h = inl h

end_order : (m : Shown) (now : ℕ) → IsInOrder m → IsOrderedOrRests (shutdown_polled m now).0
unfolding shutdown_polled
end_order m now h =
    end_if (is_closing m.state) m.shutdown_due.shutdown m.shutdown_due.shutdown_ack m.shutdown_due.shutdown_complete m
    now refl refl h

-- A poll of DATA with nothing to send

-- nothing waits, and nothing is in flight
abbrev HoldsNothing : Sender × StreamMap → Type 0
HoldsNothing x = (x.0.queue.pending ≡ []) × (x.0.queue.in_flight ≡ [])

nothing_started : (now : ℕ) (x : Sender × StreamMap) → HoldsNothing x → HoldsNothing (with_started now x.0, x.1)
nothing_started now x (waits, flies) = (
  ap (λ (ms : List Waiting). map (waiting_started now) ms) waits,
  ap (λ (ps : List InFlight). map (sent_started now) ps) flies,
)

none_at : (ps : List InFlight) (index : ℕ) → ps ≡ [] → slice_get ps index ≡ None
none_at [] zero e = refl
none_at [] (suc index) e = refl
none_at (p ∷ ps) index e = absurd cc

nothing_abandoned : (index : ℕ) (x : Sender × StreamMap) → HoldsNothing x → HoldsNothing (abandoned_of index x)
unfolding abandoned_of
nothing_abandoned index (s, m) (waits, flies) =
    let none : slice_get s.queue.in_flight index ≡ None =
    none_at s.queue.in_flight index flies in (
      ap (λ (o : Option InFlight). (abandoned_from o s.queue).0.pending) none ∙ waits,
      ap (λ (o : Option InFlight). (abandoned_from o s.queue).0.in_flight) none ∙ flies,
    )

nothing_late : (now : ℕ) (x : Sender × StreamMap) → HoldsNothing x → HoldsNothing (tail_given_up now x)
unfolding tail_given_up
nothing_late now (s, m) (waits, flies) = (
  ap (λ (ms : List Waiting). (after_tail_expiry_of ms s.queue now).0.pending) waits ∙ waits,
  ap (λ (ms : List Waiting). (after_tail_expiry_of ms s.queue now).0.in_flight) waits ∙ flies,
)

nothing_dropped : (now : ℕ) (x : Sender × StreamMap) → HoldsNothing x → HoldsNothing (first_dropped now x)
unfolding first_dropped
nothing_dropped now (s, m) (waits, flies) =
    (ap (λ (ms : List Waiting). without_expired now ms) waits, flies)

-- what goes again of nothing is nothing
none_either_way : (c : Bool) → (if◌then◌else◌ {A = List InFlight} c [] []) ≡ []
none_either_way true = refl
none_either_way false = refl

none_if : (c : Bool) (n : ℕ) (ps : List InFlight) → ps ≡ []
    → (if c then first_counted ps else resent_pieces causes.Timer n ps) ≡ []
none_if c n [] e = none_either_way c
none_if c n (p ∷ ps) e = absurd cc

nothing_marked : (x : Sender × StreamMap) → HoldsNothing x → HoldsNothing (after_marked x.0, x.1)
nothing_marked x (waits, flies) =
    (waits, none_if (resends_alone x.0) (both_windows x.0) x.0.queue.in_flight flies)

none_missing_if : (c : Bool) (n : ℕ) (ps : List InFlight) → ps ≡ []
    → (if c then resent_pieces causes.Fast n ps else ps) ≡ []
none_missing_if true n [] e = refl
none_missing_if true n (p ∷ ps) e = absurd cc
none_missing_if false n ps e = e

nothing_missing : (x : Sender × StreamMap) → HoldsNothing x → HoldsNothing (after_missing x.0, x.1)
nothing_missing x (waits, flies) =
    (waits, none_missing_if x.0.is_fast_due (fast_room x.0) x.0.queue.in_flight flies)

none_sent_if : (c : Bool) (ms : List Waiting) (s : Sender) (now : ℕ) → ms ≡ []
    → (if c then sent_one ms s now else sent_within (pieces_waiting ms) s now).0 ≡ s
unfolding sent_one
none_sent_if true [] s now e = refl
none_sent_if false [] s now e = refl
none_sent_if c (m ∷ ms) s now e = absurd cc

nothing_sent : (now : ℕ) (x : Sender × StreamMap) → HoldsNothing x → HoldsNothing ((sent_new x.0 now).0, x.1)
nothing_sent now x (waits, flies) =
    let same : (sent_probing x.0 now).0 ≡ x.0 =
    none_sent_if (eqb (length x.0.queue.in_flight) 0 && not (can_send_next x.0)) x.0.queue.pending x.0 now waits in
    (ap (λ (s : Sender). s.queue.pending) same ∙ waits, ap (λ (s : Sender). s.queue.in_flight) same ∙ flies)

nothing_polled : (a : Shown) (now : ℕ) → HoldsNothing (both_of a) → HoldsNothing (both_of (data_polled a now).0)
nothing_polled a now h =
    data_poll_kept HoldsNothing now a (record {
      given_up = λ used. record {
        started = nothing_started now;
        abandoned = nothing_abandoned;
        tail = nothing_late now;
        dropped = nothing_dropped now;
      };
      marked = nothing_marked;
      missing = nothing_missing;
      new = nothing_sent now;
    }) h

-- that is what it is for all DATA to be acknowledged
holds_nothing : (a : Shown) → all_acknowledged a ≡ true → HoldsNothing (both_of a)
holds_nothing a e =
    let both = and_parts (eqb (length a.sender.queue.pending) 0) (eqb (length a.sender.queue.in_flight) 0) e in (
      nil_from_length a.sender.queue.pending (eqb-true (length a.sender.queue.pending) 0 both.0),
      nil_from_length a.sender.queue.in_flight (eqb-true (length a.sender.queue.in_flight) 0 both.1),
    )

nothing_is_acknowledged : (ms : List Waiting) (ps : List InFlight) → ms ≡ [] → ps ≡ []
    → ((length ms == 0) && (length ps == 0)) ≡ true
nothing_is_acknowledged ms ps e f = rw (e, f) refl

polled_acknowledged : (a : Shown) (now : ℕ) → all_acknowledged a ≡ true
    → all_acknowledged (data_polled a now).0 ≡ true
polled_acknowledged a now e =
    let none = nothing_polled a now (holds_nothing a e) in
    nothing_is_acknowledged (data_polled a now).0.sender.queue.pending (data_polled a now).0.sender.queue.in_flight
    none.0 none.1

-- it leaves the timer of the answer
t3_leaves : (any : Bool) (now rto : ℕ) (t : Timers) → (t3_run_if any now rto t).t2_shutdown ≡ t.t2_shutdown
t3_leaves false now rto t = refl
t3_leaves true now rto t = restarted_leaves (is_ahead (moment_of names.T3RTX t) now)
  where
    restarted_leaves : (c : Bool) → (if c then t else started names.T3RTX now rto t).t2_shutdown ≡ t.t2_shutdown
    restarted_leaves true = refl
    restarted_leaves false = refl

data_leaves_timer : (a : Shown) (now : ℕ) → (data_polled a now).0.timers.t2_shutdown ≡ a.timers.t2_shutdown
unfolding data_polled
data_leaves_timer a now =
    t3_leaves (ltb 0 (length (new_sent (fast_polled a now) now))) now a.estimate.rto (late_abandoned a now).timers
    ∙ t3_leaves (expires (uses_forward_tsn a) now (both_of a)) now a.estimate.rto a.timers

data_leaves_state : (a : Shown) (now : ℕ) → (data_polled a now).0.state ≡ a.state
unfolding data_polled
data_leaves_state a now = refl

pub data_leaves_due : (a : Shown) (now : ℕ) → (data_polled a now).0.shutdown_due ≡ a.shutdown_due
unfolding data_polled
data_leaves_due a now = refl

data_order : (a : Shown) (now : ℕ) → IsInOrder a → IsInOrder (data_after a now).0
data_order a now h =
    let b : Shown = (data_polled a now).0 in
    let there : awaits_answer b.state ≡ awaits_answer a.state = ap awaits_answer (data_leaves_state a now) in
    let due : is_any_due b.shutdown_due ≡ is_any_due a.shutdown_due = ap is_any_due (data_leaves_due a now) in
    let timed : is_armed names.T2Shutdown b.timers ≡ is_armed names.T2Shutdown a.timers =
    ap (λ (t : TimerState). is_some t.moment) (data_leaves_timer a now) in
    continued_order b
    (λ (e : awaits_answer b.state ≡ true). polled_acknowledged a now (h.order.behind_data (sym there ∙ e)))
    (λ (e : is_any_due b.shutdown_due ≡ true).
    there ∙ h.order.asked (sym due ∙ e))
    (λ (e : b.shutdown_due.shutdown_ack ≡ true).
    data_leaves_state a now
    ∙ h.order.agreed (sym (ap (λ (d : ShutdownDue). d.shutdown_ack) (data_leaves_due a now)) ∙ e))
    (λ (e : is_armed names.T2Shutdown b.timers ≡ true).
    there ∙ h.order.answered (sym timed ∙ e))
    (λ (e : awaits_answer b.state ≡ true).
    still_either (sym due) (sym timed) (h.order.lives (sym there ∙ e)))

-- A whole poll

control_order : (a b : Shown) → ChangesControl a b → IsInOrder a → IsInOrder b
control_order a b e h =
    subst IsInOrder (sym e) (order_by a (with_own_control a b.resets.own b.control) refl refl refl refl h)

front_order : (exchanges : Bool) (a : Shown) (now : ℕ) → exchanges_data a.state ≡ exchanges → IsInOrder a
    → IsInOrder (open_polled a now).0
front_order true a now e h =
    let p = polled_from a now e in
    let b : Shown = after_requests p.asked in
    subst IsInOrder (sym p.there)
    (order_beside b (with_reconfig_run b now) (run_changes b now)
    (order_by p.asked b refl refl refl refl
    (control_order (data_after a now).0 p.asked p.requests (data_order a now h))))
front_order false a now e h =
    let b : Shown = (control_polled a).0 in
    subst IsInOrder (sym (silent_is a now e))
    (order_beside b (with_reconfig_run b now) (run_changes b now) (control_order a b (control_leaves a) h))

pub poll_order : (a : Shown) (now : ℕ) → IsInOrder a → IsOrderedOrRests (polled a now).0
poll_order a now h =
    subst IsOrderedOrRests (sym (polled_ends a now))
    (end_order (open_polled a now).0 now (front_order (exchanges_data a.state) a now refl h))

-- Timers

offer_order : (o : Option Offer) (a : Shown) → IsInOrder a → IsInOrder (init_queued o a)
offer_order None a h = h
offer_order (Some offer) a h = order_by a _ refl refl refl refl h

offers_order : (a : Shown) (now : ℕ) → IsInOrder a → IsInOrder (sends_init a now)
unfolding sends_init
offers_order a now h =
    let b : Shown = init_queued a.handshake.offer a in
    order_by b (sends_init a now) refl refl refl refl (offer_order a.handshake.offer a h)

echo_order : (o : Option (List ℕ)) (a : Shown) → IsInOrder a → IsInOrder (cookie_queued o a)
echo_order None a h = h
echo_order (Some cookie) a h = order_by a _ refl refl refl refl h

pub echoes_order : (a : Shown) (now : ℕ) → IsInOrder a → IsInOrder (sends_cookie a now)
unfolding sends_cookie
echoes_order a now h =
    let b : Shown = cookie_queued a.handshake.echo a in
    order_by b (sends_cookie a now) refl refl refl refl (echo_order a.handshake.echo a h)

-- a timer that expired leaves the timer of the answer
init_expired_order : (a : Shown) (now : ℕ) → IsInOrder a → IsInOrder (t1_init_expired a now)
init_expired_order a now h =
    order_by a (t1_init_expired a now) refl refl
    (kept_if (is_due a.timers.t1_init.moment now)
    (with_timer names.T1Init (expired_state a.timers.t1_init) a.timers) a.timers (λ (t : Timers). t.t2_shutdown) refl)
    refl h

cookie_expired_order : (a : Shown) (now : ℕ) → IsInOrder a → IsInOrder (t1_cookie_expired a now)
cookie_expired_order a now h =
    order_by a (t1_cookie_expired a now) refl refl
    (kept_if (is_due a.timers.t1_cookie.moment now)
    (with_timer names.T1Cookie (expired_state a.timers.t1_cookie) a.timers) a.timers (λ (t : Timers). t.t2_shutdown)
    refl)
    refl h

t3_expired_order : (a : Shown) (now : ℕ) → IsInOrder a → IsInOrder (t3_expired a now)
t3_expired_order a now h =
    order_by a (t3_expired a now) refl refl
    (kept_if (is_due a.timers.t3_rtx.moment now)
    (with_timer names.T3RTX (expired_state a.timers.t3_rtx) a.timers) a.timers (λ (t : Timers). t.t2_shutdown) refl)
    refl h

t1_init_order : (expired failure : Bool) (a : Shown) (now : ℕ) → IsInOrder a
    → IsInOrder
    (if expired then
    (if failure then (let b = t1_init_expired a now in record b { handshake_fault = Some errors.ErrHandshakeInitAck })
    else sends_init (t1_init_expired a now) now) else a)
t1_init_order false failure a now h = h
t1_init_order true true a now h =
    order_by (t1_init_expired a now) _ refl refl refl refl (init_expired_order a now h)
t1_init_order true false a now h = offers_order (t1_init_expired a now) now (init_expired_order a now h)

t1_cookie_order : (expired failure : Bool) (a : Shown) (now : ℕ) → IsInOrder a
    → IsInOrder
    (if expired then
    (if failure then (let b =
    t1_cookie_expired a now in record b { handshake_fault = Some errors.ErrHandshakeCookieEcho }) else
    sends_cookie (t1_cookie_expired a now) now) else a)
t1_cookie_order false failure a now h = h
t1_cookie_order true true a now h =
    order_by (t1_cookie_expired a now) _ refl refl refl refl (cookie_expired_order a now h)
t1_cookie_order true false a now h = echoes_order (t1_cookie_expired a now) now (cookie_expired_order a now h)

-- SHUTDOWN or SHUTDOWN ACK goes again where its timer ran, which it does where an answer is awaited alone
due_is_armed : (o : Option ℕ) (now : ℕ) → is_due o now ≡ true → is_some o ≡ true
due_is_armed None now e = absurd (false≢true e)
due_is_armed (Some moment) now e = refl

-- SHUTDOWN ACK goes again in ShutdownAckSent alone
again_agreed : (s : AssociationState) (due : ShutdownDue) → (due.shutdown_ack ≡ true → s ≡ states.ShutdownAckSent)
    → (due_again s due).shutdown_ack ≡ true → s ≡ states.ShutdownAckSent
again_agreed states.Closed due agreed e = agreed e
again_agreed states.CookieWait due agreed e = agreed e
again_agreed states.CookieEchoed due agreed e = agreed e
again_agreed states.Established due agreed e = agreed e
again_agreed states.ShutdownAckSent due agreed e = refl
again_agreed states.ShutdownPending due agreed e = agreed e
again_agreed states.ShutdownReceived due agreed e = agreed e
again_agreed states.ShutdownSent due agreed e = agreed e

answer_expired_order : (expired : Bool) (a : Shown) (t : Timers) → (expired ≡ true → awaits_answer a.state ≡ true)
    → is_armed names.T2Shutdown t ≡ true → IsInOrder a
    → IsInOrder (record a {
      timers = if expired then t else a.timers;
      shutdown_due = if expired then due_again a.state a.shutdown_due else a.shutdown_due;
    })
answer_expired_order true a t awaits timed h =
    awaiting_order a _ (awaits refl) timed (again_agreed a.state a.shutdown_due h.order.agreed) refl refl h
answer_expired_order false a t awaits timed h = h

t2_order : (a : Shown) (now : ℕ) → IsInOrder a → IsInOrder (after_t2_shutdown a now)
t2_order a now h =
    answer_expired_order (expiry_of names.T2Shutdown now a.timers).expired a _
    (λ e. h.order.answered (due_is_armed a.timers.t2_shutdown.moment now e)) refl h

retransmits_order : (a : Shown) (now : ℕ) → IsInOrder a → IsInOrder (retransmits a now)
retransmits_order a now h =
    order_by a (retransmits a now) refl refl refl
    (ap (λ (n : ℕ). (length a.sender.queue.pending == 0) && (n == 0))
    (length-map a.sender.queue.in_flight marked_again)) h

t3_order : (expired failure : Bool) (a : Shown) (now : ℕ) → IsInOrder a
    → IsInOrder (if expired then (if failure then t3_expired a now else retransmits (t3_expired a now) now) else a)
t3_order false failure a now h = h
t3_order true true a now h = t3_expired_order a now h
t3_order true false a now h = retransmits_order (t3_expired a now) now (t3_expired_order a now h)

ack_delay_order : (expired : Bool) (a : Shown) (now : ℕ) → (expiry_of names.Ack now a.timers).expired ≡ expired
    → IsInOrder a → IsInOrder (after_ack_delay a now)
ack_delay_order false a now e h = rw e h
ack_delay_order true a now e h = rw e (order_by a _ refl refl refl refl h)

pub timeouts_order : (a : Shown) (now : ℕ) → IsInOrder a → IsInOrder (after_timeouts a now)
timeouts_order a now h =
    let b : Shown = after_t1_init a now in
    let c : Shown = after_t1_cookie b now in
    let f : Shown = after_t2_shutdown c now in
    let d : Shown = after_t3 f now in
    let e : Shown = after_reconfig_timer d now in
    ack_delay_order (expiry_of names.Ack now e.timers).expired e now refl
    (order_beside d e (reconfig_timer_changes d now)
    (t3_order (expiry_of names.T3RTX now f.timers).expired (expiry_of names.T3RTX now f.timers).failed f now
    (t2_order c now
    (t1_cookie_order (expiry_of names.T1Cookie now b.timers).expired (expiry_of names.T1Cookie now b.timers).failed b
    now
    (t1_init_order (expiry_of names.T1Init now a.timers).expired (expiry_of names.T1Init now a.timers).failed a now
    h)))))
