-- What an event at one end of a direction leaves at the other: what the association received, and what it sends.
use Rattle.std.proofs.Common.{◌≡◌, refl, sym, ap, ◌∙◌, subst, ℕ, Bool, ltb, ◌&&◌, List, length, Option}
use Rattle.std.proofs.Common.{Some, None}
use Rattle.std.specs.Prelude.{slice_get}
use Rattle.std.proofs.lemmas.Bool.{cond_both}
use Rattle.sctp_streams.specs.Stream.{StreamView}
use Rattle.sctp_streams.specs.Streams.{stream_at}
use Rattle.sctp_model.specs.Messages.{Place, Plan}
use Rattle.sctp_model.specs.Packets.{Data, Forward, Sack}
use Rattle.sctp_model.specs.Reassembly.{Got, Queue, Taken, next}
use Rattle.sctp_model.specs.Machine.{Direction, Event, Receiver, data_comes, forward_comes, fresh, happens, is_new}
use Rattle.sctp_model.specs.Machine.{passes, reach, read, took, was_read}
use Rattle.sctp_model.proofs.PlansGrow.{IsExtended}
use Rattle.sctp_fit.specs.Growth.{FreshOnesReceiveNothing, InitialTsnsAreNoEvents}
use Rattle.sctp_fit.specs.Growth.{ReceiversEventsLeaveWhatIsSent, SendersEventsLeaveWhatComes}
use Rattle.sctp_fit.specs.Incoming.{FitsIncoming, IsQueueAt, Receiving}
use Rattle.sctp_fit.specs.Outgoing.{FitsOutgoing, Sending}
use Rattle.sctp_fit.proofs.PlansExtended.{IsGrownAlone, grown_by}
use Rattle.sctp_fit.proofs.GrownPlansStand.{stands_anew, stands_kept}

-- What comes

queue_kept : (p q : Plan) (e : IsExtended p q) (peer s : ℕ) (x : Option StreamView) (y : Option Queue)
    → IsQueueAt peer p s x y → IsQueueAt peer q s x y
queue_kept p q e peer s None None h = tt
queue_kept p q e peer s None (Some u) h = absurd h
queue_kept p q e peer s (Some t) None h = absurd h
queue_kept p q e peer s (Some t) (Some u) h = stands_kept p q e peer s t.reassembly u h

-- what came fits when the plan grows
incoming_kept : (a : Receiving) (w v : Direction) → IsGrownAlone w v → FitsIncoming a w → FitsIncoming a v
incoming_kept a w v g fits = record {
  is_open = ap (λ (r : Receiver). r.is_open) g.receiver ∙ fits.is_open;
  taken = fits.taken ∙ sym (ap (λ (r : Receiver). r.taken) g.receiver);
  passed = fits.passed ∙ sym (ap (λ (r : Receiver). r.passed) g.receiver);
  queues = λ s o.
      subst (IsQueueAt a.peer v.sender.plan s (stream_at a.streams s))
      (sym (ap (λ (r : Receiver). r.queues s) g.receiver))
      (queue_kept w.sender.plan v.sender.plan g.plan a.peer s (stream_at a.streams s) (w.receiver.queues s)
      (fits.queues s (sym (ap (λ (f : ℕ → Bool). f s) g.over) ∙ o)));
}

pub senders_events_leave_what_comes : SendersEventsLeaveWhatComes
senders_events_leave_what_comes a w e at inv fits = incoming_kept a w (happens w e) (grown_by w e at inv) fits

queue_anew : (peer t : ℕ) (p : Plan) (s : ℕ) (x : Option StreamView) (y : Option Queue) → length p.places ≡ 0
    → IsQueueAt peer p s x y → IsQueueAt t p s x y
queue_anew peer t p s None None none h = tt
queue_anew peer t p s None (Some u) none h = absurd h
queue_anew peer t p s (Some x) None none h = absurd h
queue_anew peer t p s (Some x) (Some u) none h = stands_anew peer t p s x.reassembly u none h

pub initial_tsns_are_no_events : InitialTsnsAreNoEvents
initial_tsns_are_no_events a t w none inv fits = record {
  is_open = fits.is_open;
  taken = fits.taken;
  passed = fits.passed;
  queues = λ s o.
      queue_anew a.peer t w.sender.plan s (stream_at a.streams s) (w.receiver.queues s)
      (ap (λ (ps : List Place). length ps) none) (fits.queues s o);
}

pub fresh_ones_receive_nothing : FreshOnesReceiveNothing
fresh_ones_receive_nothing peer size m none = record {
  is_open = refl;
  taken = refl;
  passed = refl;
  queues = λ s o. subst (λ (es : List (ℕ × StreamView)).
      IsQueueAt peer (fresh size).sender.plan s (stream_at (record m { by_id = es }) s) None) (sym none) tt;
}

-- What is sent

-- the receiver changes, and what it gave out and what was read
sent_kept : (a : Sending) (w : Direction) (r : Receiver) (sacks : List Sack) (reads : ℕ → List Got) (skipped : ℕ → ℕ)
    → FitsOutgoing a w
    → FitsOutgoing a (record w { receiver = r; sacks = sacks; reads = reads; skipped = skipped })
sent_kept a w r sacks reads skipped fits = record {
  named = fits.named;
  within = fits.within;
  names = fits.names;
  size = fits.size;
  base = fits.base;
  flight = fits.flight;
  waiting = fits.waiting;
  live = fits.live;
  own_streams = fits.own_streams;
}

sent_data : (a : Sending) (w : Direction) (o : Option Data) → FitsOutgoing a w → FitsOutgoing a (data_comes w o)
sent_data a w None fits = fits
sent_data a w (Some d) fits =
    cond_both (w.receiver.is_open && is_new w.receiver d.offset) (record w { receiver = took w.receiver d }) w
    (FitsOutgoing a) (λ b. sent_kept a w (took w.receiver d) w.sacks w.reads w.skipped fits) (λ b. fits)

sent_forward : (a : Sending) (w : Direction) (o : Option Forward) → FitsOutgoing a w
    → FitsOutgoing a (forward_comes w o)
sent_forward a w None fits = fits
sent_forward a w (Some f) fits =
    cond_both (w.receiver.is_open && ltb (reach w.receiver) f.reach) (passes w f) w (FitsOutgoing a)
    (λ b. sent_kept a w (passes w f).receiver w.sacks w.reads (passes w f).skipped fits) (λ b. fits)

sent_read : (a : Sending) (w : Direction) (s : ℕ) (o : Option Queue) → FitsOutgoing a w → FitsOutgoing a (read w s o)
sent_read a w s None fits = fits
sent_read a w s (Some q) fits =
    cond_both w.receiver.is_open (was_read w s (next q)) w (FitsOutgoing a) (λ b. given (next q)) (λ b. fits)
  where
    given : (t : Option Taken) → FitsOutgoing a (was_read w s t)
    given None = fits
    given (Some t) =
        sent_kept a w (was_read w s (Some t)).receiver w.sacks (was_read w s (Some t)).reads w.skipped fits

pub receivers_events_leave_what_is_sent : ReceiversEventsLeaveWhatIsSent
unfolding happens
receivers_events_leave_what_is_sent a w (Event.DataComes k) at fits = sent_data a w (slice_get w.datas k) fits
receivers_events_leave_what_is_sent a w Event.SackMade at fits =
    sent_kept a w w.receiver (happens w Event.SackMade).sacks w.reads w.skipped fits
receivers_events_leave_what_is_sent a w (Event.ForwardComes k) at fits =
    sent_forward a w (slice_get w.forwards k) fits
receivers_events_leave_what_is_sent a w (Event.Open s) at fits =
    sent_kept a w (happens w (Event.Open s)).receiver w.sacks w.reads w.skipped fits
receivers_events_leave_what_is_sent a w (Event.Read s) at fits = sent_read a w s (w.receiver.queues s) fits
receivers_events_leave_what_is_sent a w Event.Close at fits =
    sent_kept a w (happens w Event.Close).receiver w.sacks w.reads w.skipped fits
receivers_events_leave_what_is_sent a w (Event.Write s m) at fits = absurd at
receivers_events_leave_what_is_sent a w (Event.PassOver s) at fits = absurd at
receivers_events_leave_what_is_sent a w (Event.Drop s i) at fits = absurd at
receivers_events_leave_what_is_sent a w (Event.Begin s i any) at fits = absurd at
receivers_events_leave_what_is_sent a w Event.GoOn at fits = absurd at
receivers_events_leave_what_is_sent a w (Event.Resend o) at fits = absurd at
receivers_events_leave_what_is_sent a w (Event.Abandon s i) at fits = absurd at
receivers_events_leave_what_is_sent a w (Event.SackComes k) at fits = absurd at
receivers_events_leave_what_is_sent a w Event.ForwardMade at fits = absurd at
receivers_events_leave_what_is_sent a w (Event.End s) at fits = absurd at
receivers_events_leave_what_is_sent a w (Event.Restart s) at fits = absurd at
receivers_events_leave_what_is_sent a w (Event.Replace s q) at fits = absurd at
