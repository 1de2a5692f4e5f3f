-- Behind a read that gave a message, and behind a stop, a window that opened may be told: an acknowledgement goes out
-- with the next poll, as behind a packet that asks for one at once. The directions see nothing of that.
use Rattle.std.proofs.Common.{◌≡◌, refl, ⊎_elim, inl, inr, ℕ, Bool, true, false, if◌then◌else◌, List, [], Option}
use Rattle.std.proofs.Common.{Some, None}
use Rattle.sctp_receive_queues.specs.Messages as letters
use Rattle.sctp_streams.specs.Streams.{StreamMap}
use Rattle.sctp_inbound.specs.declared.receiver.AckTrigger.TheVariants as triggers
use Rattle.sctp_model.specs.Messages.{Message}
use Rattle.sctp_assoc.specs.Calls.{after_read, credit_in, drained_behind, eased, is_beginning, tells_window, told_if}
use Rattle.sctp_assoc.specs.Closing.{exhausted, is_exhausted, relieved}
use Rattle.sctp_assoc.specs.Shown.{Shown}
use Rattle.sctp_sides.specs.SideLaws.{KeepsTheStage}
use Rattle.sctp_sides.proofs.Proved.{packet_ends_begin_no_reset, packet_ends_reset_no_more, packets_end}
use Rattle.sctp_sides.proofs.Proved.{the_same_status_is_the_same_stage}
use Rattle.sctp_pair.proofs.BetweenDirections.{By, OpenAt, SettlesEnding, StandsAt, Surroundings, moved}
use Rattle.sctp_pair.proofs.HandshakeStages.{at_same}
use Rattle.sctp_pair.proofs.QuietCalls.{closed_on, open_on}

telling_keeps_the_stage : (a : Shown) → KeepsTheStage a (told_if true a)
telling_keeps_the_stage a =
    the_same_status_is_the_same_stage a (told_if true a) (packets_end a triggers.Immediate 0).same

-- An association that tells its window stands where it stood.
module _ (x : Surroundings) (a : Shown) where
  telling_open : OpenAt x a → OpenAt x (told_if true a)
  telling_open s =
      let on = (packets_end a triggers.Immediate 0).leads s.past s.binds in
      open_on x [] s record {
        past2 = on.0;
        leads = on.1;
        nobody = tt;
        in_order = s.in_order;
        reads_open = s.reads_open;
        same = telling_keeps_the_stage a;
        resets = packet_ends_reset_no_more a triggers.Immediate 0 x.coming.over s.resets;
        size = refl;
        outgoing = s.between.outgoing;
        incoming = s.between.incoming;
      }

  telling_stands : StandsAt x a → StandsAt x (told_if true a)
  telling_stands (inl s) = inl (telling_open s)
  telling_stands (inr (inl s)) =
      inr (inl (closed_on (telling_keeps_the_stage a)
      (packet_ends_begin_no_reset a triggers.Immediate 0 s.no_reset) s.nothing_left s))
  telling_stands (inr (inr s)) = inr (inr record { failed = s.failed; stopped = s.stopped })

-- a call settles where its association tells the window behind it, too
pub telling_settles : {Ended : ℕ → Type 0} {x : Surroundings} {Added : ℕ → List Message}
    {Read : ℕ → Option letters.ReceivedMessage} {Brought : By → ℕ → Type 0} (tells : Bool) (b : Shown)
    → SettlesEnding Ended x b Added Read Brought → SettlesEnding Ended x (told_if tells b) Added Read Brought
telling_settles {x = x} true b s = record {
  out2 = s.out2;
  coming2 = s.coming2;
  here2 = s.here2;
  does_out = s.does_out;
  does_coming = s.does_coming;
  both = s.both;
  sound_out = s.sound_out;
  sound_coming = s.sound_coming;
  stands = telling_stands (moved x s.out2 s.coming2) b s.stands;
  other = s.other;
  goes = s.goes;
  at = at_same b (told_if true b) s.here2 (telling_keeps_the_stage b) s.at;
  meets = s.meets;
  no_more =
      ⊎_elim
      (λ (e : (is_beginning b.state ≡ false) × OpenAt (moved x s.out2 s.coming2) b).
      inl (e.0, telling_open (moved x s.out2 s.coming2) b e.1))
      (λ (same : s.out2.sender.plan.places ≡ x.out.sender.plan.places). inr same)
      s.no_more;
  coming_still = s.coming_still;
}
telling_settles false b s = s

-- What stays so of an association that tells its window is so behind a stop, and behind a read, where it is so of what
-- these leave before it is seen whether the receive buffer is exhausted, and of that with an exhausted one.
module _ (P : Shown → Type 0) (telling : (tells : Bool) (z : Shown) → P z → P (told_if tells z)) where
  relieved_so : (exhausts : Bool) (c : Shown) → P c → P (exhausted c) → P (if exhausts then exhausted c else c)
  relieved_so true c plain closed = closed
  relieved_so false c plain closed = plain

  eased_so : (before : ℕ) (c : Shown) → P c → P (exhausted c) → P (eased before c)
  eased_so before c plain closed =
      telling (tells_window before (relieved c)) (relieved c) (relieved_so (is_exhausted c) c plain closed)

  pub stopped_so : (is_open : Bool) (before : ℕ) (a c : Shown) → P a → P c → P (exhausted c)
      → P (if is_open then eased before c else a)
  stopped_so true before a c same plain closed = eased_so before c plain closed
  stopped_so false before a c same plain closed = same

  pub read_so : (a : Shown) (id : ℕ) (x : StreamMap × Option letters.ReceivedMessage) → P (drained_behind a id x.0)
      → P (exhausted (drained_behind a id x.0)) → P (after_read a id x).0
  read_so a id (streams, None) plain closed = plain
  read_so a id (streams, Some message) plain closed =
      eased_so (credit_in a) (drained_behind a id streams) plain closed
