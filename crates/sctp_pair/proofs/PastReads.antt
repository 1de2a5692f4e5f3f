-- A read of a stream past its span: there the machine lets the stream's queue become anything (`Replace`), and so it
-- becomes the one of which the next read gives the message that was answered. All else stays.
use Rattle.std.proofs.Common.{◌≡◌, ◌⊎◌, refl, sym, ap, ◌∙◌, subst, ⊎_elim, inl, inr, ℕ, true, false, [], ◌∷◌, ◌++◌}
use Rattle.std.proofs.Common.{Option, Some, arith}
use Rattle.std.proofs.lemmas.Bool.{cond-true, true≢false}
use Rattle.std.proofs.lemmas.List.{append-nil}
use Rattle.sctp_wire_types.specs.Ids.{number_of}
use Rattle.sctp_receive_queues.specs.Messages.{ReceivedMessage, bytes_left}
use Rattle.sctp_streams.specs.Streams.{stream_at}
use Rattle.sctp_model.specs.Reassembly.{Got, Queue, empty_queue, next}
use Rattle.sctp_model.specs.Machine.{Direction, Event, happens, put, read, was_read}
use Rattle.sctp_model.specs.Invariants.{Invariant}
use Rattle.sctp_model.specs.Safe.{IsWithin}
use Rattle.sctp_model.proofs.PlansGrow.{at_put, off_put}
use Rattle.sctp_model.proofs.Proved.{each_event_keeps_the_invariant}
use Rattle.sctp_model.proofs.ReceiverEvents.{keeps_replace}
use Rattle.sctp_reassembly.specs.Stands.{IsReadAs}
use Rattle.sctp_fit.specs.Incoming.{FitsIncoming, IsQueueAt, Receiving}
use Rattle.sctp_fit.specs.Outgoing.{FitsOutgoing, Sending}
use Rattle.sctp_directions.specs.Between.{IsSound}
use Rattle.sctp_pair.specs.Fits.{StandsClosed, StandsFailed, StandsOpen}
use Rattle.sctp_pair.proofs.BetweenDirections.{Does, None_brought, OtherStands, Surroundings, none_ends, nothing_added}
use Rattle.sctp_pair.proofs.BetweenDirections.{same_spans_go_on, spans_stay_put, stands_between}

-- the message as the machine's reader gets it
abbrev pub got_as : ReceivedMessage → Got
got_as m = record { from = 0; ordered = false; payload_type = number_of m.payload_type; bytes = bytes_left m }

-- the queue of which the next read gives this message, and further reads nothing
abbrev pub queue_that_gives : ReceivedMessage → Queue
queue_that_gives m = record empty_queue { complete = got_as m ∷ [] }

-- the direction with another queue of stream s
abbrev replaced : Direction → ℕ → Option Queue → Direction
replaced w s q = record w { receiver = record w.receiver { queues = put w.receiver.queues s q } }

-- the direction after a read of stream s, past its span, that gave this message
abbrev pub given_past : Direction → ℕ → ReceivedMessage → Direction
given_past w s m = was_read (replaced w s (Some (queue_that_gives m))) s (next (queue_that_gives m))

-- The stream's reads

pub given_is_read : (w : Direction) (s : ℕ) (m : ReceivedMessage)
    → IsReadAs (Some m) (w.reads s) ((given_past w s m).reads s)
given_is_read w s m = (got_as m, at_put w.reads s s (w.reads s ++ got_as m ∷ []) refl, refl)

pub others_are_not_read : (w : Direction) (s : ℕ) (m : ReceivedMessage) (t : ℕ) → (t ≡ s → ⊥)
    → (given_past w s m).reads t ≡ w.reads t
others_are_not_read w s m t apart = off_put w.reads s t (w.reads s ++ got_as m ∷ []) apart

-- What the read leaves

-- what the other association has to send does not look at queues and reads
given_leaves_what_is_sent : (a : Sending) (w : Direction) (s : ℕ) (m : ReceivedMessage) → FitsOutgoing a w
    → FitsOutgoing a (given_past w s m)
given_leaves_what_is_sent a w s m fits = record {
  named = fits.named;
  within = fits.within;
  names = fits.names;
  size = fits.size;
  base = fits.base;
  flight = fits.flight;
  waiting = fits.waiting;
  live = fits.live;
  own_streams = fits.own_streams;
}

pub given_leaves_the_other : (x : Surroundings) (s : ℕ) (m : ReceivedMessage) → OtherStands x
    → OtherStands (record x { coming = given_past x.coming s m })
given_leaves_the_other x s m h =
    ⊎_elim
    (λ (o : StandsOpen x.loose_there x.peer x.own x.other x.coming x.out).
    inl (stands_between o (λ t tight. tight) refl (same_spans_go_on x.coming (given_past x.coming s m) refl)
    (spans_stay_put x.out) record {
      outgoing = given_leaves_what_is_sent _ x.coming s m o.between.outgoing;
      incoming = o.between.incoming;
    }))
    (λ (r : StandsClosed x.peer x.other x.out ⊎ StandsFailed x.other x.out). inr r)
    h

module _ (w : Direction) (s : ℕ) (m : ReceivedMessage) (past : w.over s ≡ true) where
  -- a stream within its span is another one
  apart : (t : ℕ) → w.over t ≡ false → t ≡ s → ⊥
  apart t within e = true≢false (sym past ∙ ap w.over (sym e) ∙ within)

  same_queue : (t : ℕ) → w.over t ≡ false → (given_past w s m).receiver.queues t ≡ w.receiver.queues t
  same_queue t within =
      off_put (replaced w s (Some (queue_that_gives m))).receiver.queues s t (Some empty_queue) (apart t within)
      ∙ off_put w.receiver.queues s t (Some (queue_that_gives m)) (apart t within)

  -- and so what came fits, which speaks of the queues of streams within their span alone
  pub given_leaves_what_comes : (a : Receiving) → FitsIncoming a w → FitsIncoming a (given_past w s m)
  given_leaves_what_comes a fits = record {
    is_open = fits.is_open;
    taken = fits.taken;
    passed = fits.passed;
    queues = λ t within.
        subst (IsQueueAt a.peer w.sender.plan t (stream_at a.streams t)) (sym (same_queue t within))
        (fits.queues t within);
  }

  -- It is two events

  replace_happens : happens w (Event.Replace s (Some (queue_that_gives m)))
      ≡ replaced w s (Some (queue_that_gives m))
  unfolding happens
  replace_happens = cond-true (w.over s) (replaced w s (Some (queue_that_gives m))) w past

  module _ (open_still : w.receiver.is_open ≡ true) where
    read_happens : happens (replaced w s (Some (queue_that_gives m))) (Event.Read s) ≡ given_past w s m
    unfolding happens
    read_happens =
        let v : Direction = replaced w s (Some (queue_that_gives m)) in
        ap (read v s) (at_put w.receiver.queues s s (Some (queue_that_gives m)) refl)
        ∙ cond-true w.receiver.is_open (given_past w s m) v open_still

    -- they keep the machine's invariant, and count no message as begun
    pub given_is_sound : IsWithin w → IsSound w → IsSound (given_past w s m)
    given_is_sound within sound = record {
      invariant =
          subst Invariant read_happens
          (each_event_keeps_the_invariant (replaced w s (Some (queue_that_gives m))) (Event.Read s)
          (record { offsets = within.offsets; flight = within.flight; unread = within.unread })
          (keeps_replace w s (Some (queue_that_gives m)) past sound.invariant));
      counts = sound.counts;
    }

    -- What they do is what they read.
    pub given_does : (Read : ℕ → Option ReceivedMessage)
        → ((t : ℕ) → IsReadAs (Read t) (w.reads t) ((given_past w s m).reads t))
        → Does nothing_added Read None_brought w (given_past w s m)
    given_does Read reads = record {
      events = Event.Replace s (Some (queue_that_gives m)) ∷ Event.Read s ∷ [];
      is = sym read_happens ∙ ap (λ (v : Direction). happens v (Event.Read s)) (sym replace_happens);
      accepted = λ t. sym (append-nil (w.sender.plan.accepted t));
      size = refl;
      reads = reads;
      taken = λ o t. inl t;
      passed = inl refl;
      datas = λ k d e. e;
      forwards = λ k f e. e;
      sacks = λ k x e. e;
      spans = same_spans_go_on w (given_past w s m) refl;
      ends = none_ends w (given_past w s m) (λ t. refl);
      reach_on = omega arith;
    }
