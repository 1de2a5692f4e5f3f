-- A FORWARD TSN that comes and lies ahead is taken at an association as at the direction's receiver: each live stream
-- skips and drops the same (RFC 3758 section 3.6).
use Rattle.std.proofs.Common.{◌≡◌, refl, sym, ap, ◌∙◌, subst, ℕ, true, false, suc, ltb, slice_get, Option, Some, None}
use Rattle.std.specs.Option.{option_map}
use Rattle.sctp_receive_queues.specs.Reassembly.{unordered_skipped}
use Rattle.sctp_streams.specs.Stream.{StreamView}
use Rattle.sctp_streams.specs.Streams.{StreamMap, stream_at}
use Rattle.sctp_model.specs.Messages.{Plan}
use Rattle.sctp_model.specs.Packets.{Forward, skips}
use Rattle.sctp_serial.specs.Serial.{tsn}
use Rattle.sctp_model.specs.Reassembly.{Queue, drop_unordered, skip_if}
use Rattle.sctp_model.specs.Machine.{Direction, Event, forwarded, happens, live, passes, reach}
use Rattle.sctp_reassembly.specs.Stands.{StandsFor, skipped_if}
use Rattle.sctp_reassembly.proofs.LawsInEvents.{a_forward_that_comes_stands, came_forward}
use Rattle.sctp_fit.specs.Incoming.{FitsIncoming, IsQueueAt, Receiving}
use Rattle.sctp_fit.specs.Forwards.{ForwardsThatComeAreTaken, passed_stream}
use Rattle.sctp_model.specs.Invariants.{Invariant}
use Rattle.sctp_model.specs.Safe.{IsWithin}

-- Where what is left of each reassembly stands for what is left of its queue, each stream is live on both sides or on
-- neither again.
module _ (peer : ℕ) (p : Plan) (s o ahead : ℕ) (number : Option ℕ) where
  queue_passed : (x : Option StreamView) (y : Option Queue)
      → ((t : StreamView) (q : Queue) → y ≡ Some q → StandsFor peer p s t.reassembly q
      → StandsFor peer p s (unordered_skipped (skipped_if t.reassembly number) (tsn peer o))
      (drop_unordered ahead (skip_if q number)))
      → IsQueueAt peer p s x y
      → IsQueueAt peer p s (option_map (passed_stream peer o number) x) (forwarded y ahead number)
  queue_passed None None stands h = tt
  queue_passed None (Some q) stands h = absurd h
  queue_passed (Some t) None stands h = absurd h
  queue_passed (Some t) (Some q) stands h = stands t q refl h

module _ (a : Receiving) (k o : ℕ) (f : Forward) (m : StreamMap) (w : Direction) (e : slice_get w.forwards k ≡ Some f)
    (ahead : ltb (reach w.receiver) f.reach ≡ true) (at : f.reach ≡ suc o)
    (streams : (s : ℕ) → w.over s ≡ false
    → stream_at m s ≡ option_map (passed_stream a.peer o (skips f s)) (stream_at a.streams s))
    (within : IsWithin w) (inv : Invariant w) (fits : FitsIncoming a w) where
  -- A FORWARD TSN that comes and lies ahead is taken on both sides.
  forward_taken : FitsIncoming (record a { streams = m; passed = f.reach }) (happens w (Event.ForwardComes k))
  forward_taken =
      subst (FitsIncoming (record a { streams = m; passed = f.reach })) (sym came)
      (record {
        is_open = fits.is_open;
        taken = fits.taken;
        passed = refl;
        queues = λ s v.
            subst (λ z. IsQueueAt a.peer w.sender.plan s z (forwarded (w.receiver.queues s) f.reach (skips f s)))
            (sym (streams s v))
            (queue_passed a.peer w.sender.plan s o f.reach (skips f s) (stream_at a.streams s) (w.receiver.queues s)
            (stood s v) (fits.queues s v));
      })
    where
      came : happens w (Event.ForwardComes k) ≡ passes w f
      came = came_forward w k f e fits.is_open ahead

      -- the law of the reassembly, in the queue that is there
      stood : (s : ℕ) → w.over s ≡ false → (t : StreamView) (q : Queue) → w.receiver.queues s ≡ Some q
          → StandsFor a.peer w.sender.plan s t.reassembly q
          → StandsFor a.peer w.sender.plan s (unordered_skipped (skipped_if t.reassembly (skips f s)) (tsn a.peer o))
          (drop_unordered f.reach (skip_if q (skips f s)))
      stood s v t q there st =
          subst
          (StandsFor a.peer w.sender.plan s (unordered_skipped (skipped_if t.reassembly (skips f s)) (tsn a.peer o)))
          (ap (λ (z : Direction). live (z.receiver.queues s)) came
          ∙ ap (λ z. live (forwarded z f.reach (skips f s))) there)
          (a_forward_that_comes_stands a.peer w k s o t.reassembly q f within inv v e fits.is_open ahead at there st)

pub forwards_that_come_are_taken : ForwardsThatComeAreTaken
forwards_that_come_are_taken = forward_taken
