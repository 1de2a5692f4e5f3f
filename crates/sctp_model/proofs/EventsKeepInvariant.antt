-- Every event keeps the invariant, so it holds after every list of events, and with it the promise.
use Rattle.std.proofs.Common.{ℕ, ◌+◌, ◌<◌, ◌≤◌, length, ◌≡◌, Bool, true, false, not, cond, eqb, ltb, ◌&&◌}
use Rattle.std.proofs.Common.{List, [], ◌∷◌, Option, Some, None, refl, sym, ap, ◌∙◌, inl, arith}
use Rattle.std.specs.Prelude.{slice_get}
use Rattle.std.proofs.lemmas.Bool.{and_parts, ltb-true, ltb-false, true≢false, false≢true, cond-true, cond_both}
use Rattle.std.proofs.lemmas.Bool.{eqb-true, eq-eqb, and_from, not-true}
use Rattle.sctp_model.specs.Messages.{Message, Place, is_reliable, message_at}
use Rattle.sctp_model.specs.Packets.{Data, Sack, Forward}
use Rattle.sctp_model.specs.Reassembly.{Queue, Taken, next}
use Rattle.sctp_model.specs.Machine.{Direction, Event, put_2, fresh, happens, run, reach, begin, begin_if, number_for}
use Rattle.sctp_model.specs.Machine.{can_begin, go_on, can_abandon, is_of, marked, tail_marked, left, unacknowledged}
use Rattle.sctp_model.specs.Machine.{has_message, sack_comes, data_comes, forward_comes, is_new, took, was_read, read}
use Rattle.sctp_model.specs.Machine.{passes, acknowledged_by, gone_front}
use Rattle.sctp_model.specs.Safe.{IsWithin, StaysWithin}
use Rattle.sctp_model.specs.Invariants.{Invariant, IsPiece, IsHonest, IsForward, released_bytes}
use Rattle.sctp_model.specs.Laws.{EachEventKeepsTheInvariant, OneDirectionIsSafe}
use Rattle.sctp_model.proofs.Lists.{all_get}
use Rattle.sctp_model.proofs.SenderEvents.{keeps_write, keeps_pass_over, keeps_drop, given_keeps}
use Rattle.sctp_model.proofs.OffsetsAssigned.{keeps_begin, keeps_go_on, keeps_marked, marked_frees}
use Rattle.sctp_model.proofs.ReleasedBytes.{released_given}
use Rattle.sctp_model.proofs.ForwardTsns.{front_within}
use Rattle.sctp_model.proofs.ReceiverEvents.{keeps_resend, keeps_sack_made, keeps_forward_made, keeps_sack_comes}
use Rattle.sctp_model.proofs.ReceiverEvents.{keeps_data_comes, keeps_forward_comes, keeps_read, keeps_open}
use Rattle.sctp_model.proofs.ReceiverEvents.{keeps_replace, keeps_close, keeps_end, keeps_restart}
use Rattle.sctp_model.proofs.Safety.{the_invariant_is_enough}

either : (b : Bool) (x y : Direction) → (b ≡ true → Invariant x) → (b ≡ false → Invariant y) → Invariant (cond b x y)
either b x y = cond_both b x y Invariant

begin_step : (w : Direction) (s i any : ℕ) (c : Option Place) → w.sender.current ≡ c → Invariant w
    → Invariant (begin_if w s i any c)
begin_step w s i any None e h = either (can_begin w.sender s i) (begin w s i (number_for w.sender s i any)) w
    (λ b. keeps_begin w s i (number_for w.sender s i any) (λ k. cond-true _ (w.sender.ssn s) any k) b e h) (λ b. h)
begin_step w s i any (Some y) e h = h

go_on_step : (w : Direction) (c : Option Place) → w.sender.current ≡ c → Invariant w → Invariant (go_on w c)
go_on_step w None e h = h
go_on_step w (Some y) e h = keeps_go_on w y e h

abandon_step : (w : Direction) (s i : ℕ) (c : Option Place) → w.sender.current ≡ c → can_abandon w.sender s i ≡ true
    → Invariant w
    → Invariant (record w { sender = left (tail_marked w.sender s i c) s i })
abandon_step w s i c e can h = go c e
  where
    parts : (has_message w.sender.plan s i ≡ true)
        × ((w.sender.begun s i && not (w.sender.gone s i) && not (is_reliable (message_at w.sender.plan s i).policy))
        ≡ true)
    parts = and_parts _ _ can

    unreliable : is_reliable (message_at w.sender.plan s i).policy ≡ false
    unreliable = not-true _ (and_parts (w.sender.begun s i && not (w.sender.gone s i)) _ parts.1).1

    stays : w.sender.gone s i ≡ false
    stays =
        not-true _ (and_parts (w.sender.begun s i) _
        (and_parts (w.sender.begun s i && not (w.sender.gone s i)) _ parts.1).0).1

    freed : w.sender.released s + unacknowledged w.sender s i
        ≡ released_bytes w.sender.plan w.sender.acknowledged (put_2 w.sender.gone s i) s
    freed =
        released_given w.sender.acknowledged w.sender.gone s i (w.sender.released s) h.planned
        stays (ltb-true _ _ parts.0) (h.released s)

    some_same : (y z : Place) → Some y ≡ Some z → y ≡ z
    some_same y z h = cc

    go : (c : Option Place) → w.sender.current ≡ c
        → Invariant (record w { sender = left (tail_marked w.sender s i c) s i })
    go None e = given_keeps w s i (w.sender.released s + unacknowledged w.sender s i) (ltb-true _ _ parts.0) unreliable
        (λ y f. absurd (none_some y (sym e ∙ f))) freed h
      where
        none_some : (y : Place) → None ≡ Some y → ⊥
        none_some y h = cc
    go (Some y) e =
        cond_both (is_of y s i) (marked w.sender y) w.sender (λ z. Invariant (record w { sender = left z s i }))
        (λ b.
        let t = and_parts (eqb y.stream s) (eqb y.message i) b in
        keeps_marked w s i (w.sender.released s + unacknowledged (marked w.sender y) s i) y e (eqb-true _ _ t.0)
        (eqb-true _ _ t.1) (ltb-true _ _ parts.0) unreliable
        (marked_frees w s i y e (eqb-true _ _ t.0) (eqb-true _ _ t.1) (ltb-true _ _ parts.0) h) h)
        (λ b. given_keeps w s i (w.sender.released s + unacknowledged w.sender s i) (ltb-true _ _ parts.0) unreliable
        (λ z f t.
        let same : y ≡ z = some_same y z (sym e ∙ f) in
        true≢false
        (sym (and_from (eqb y.stream s) (eqb y.message i) (eq-eqb _ _ (ap (λ v. v.stream) same ∙ t.0))
        (eq-eqb _ _ (ap (λ v. v.message) same ∙ t.1))) ∙ b))
        freed h)

sack_step : (w : Direction) (n : ℕ) (k : Option Sack) → slice_get w.sacks n ≡ k → Invariant w
    → Invariant (sack_comes w k)
sack_step w n None e h = h
sack_step w n (Some k) e h =
    either (ltb k.reach w.sender.reach) w (record w { sender = acknowledged_by w.sender k }) (λ b. h)
    (λ b. keeps_sack_comes w k (ltb-false _ _ b)
    (all_get (IsHonest w.receiver.taken w.receiver.passed (reach w.receiver)) w.sacks n k e h.sacks) h)

data_step : (w : Direction) (n : ℕ) (d : Option Data) → slice_get w.datas n ≡ d → IsWithin w → Invariant w
    → Invariant (data_comes w d)
data_step w n None e l h = h
data_step w n (Some d) e l h =
    either (w.receiver.is_open && is_new w.receiver d.offset) (record w { receiver = took w.receiver d }) w
    (λ b. keeps_data_comes w d (all_get (IsPiece w.sender.plan) w.datas n d e h.datas)
    (and_parts w.receiver.is_open (is_new w.receiver d.offset) b).1 l h)
    (λ b. h)

forward_step : (w : Direction) (n : ℕ) (f : Option Forward) → slice_get w.forwards n ≡ f → IsWithin w → Invariant w
    → Invariant (forward_comes w f)
forward_step w n None e l h = h
forward_step w n (Some f) e l h = either (w.receiver.is_open && ltb (reach w.receiver) f.reach) (passes w f) w
    (λ b.
    keeps_forward_comes w f (all_get (IsForward w.sender.plan w.sender.gone w.over w.sender.acknowledged w.sender.reach)
    w.forwards n f e h.forwards)
    (ltb-true _ _ (and_parts w.receiver.is_open (ltb (reach w.receiver) f.reach) b).1) l h)
    (λ b. h)

read_step : (w : Direction) (s : ℕ) (q : Option Queue) → w.receiver.queues s ≡ q → IsWithin w → Invariant w
    → Invariant (read w s q)
read_step w s None e l h = h
read_step w s (Some q) e l h = either w.receiver.is_open (was_read w s (next q)) w (λ b. go (next q) refl) (λ b. h)
  where
    go : (t : Option Taken) → next q ≡ t → Invariant (was_read w s t)
    go None f = h
    go (Some t) f = keeps_read w s q t e f l h

-- These events keep it whether or not the limits hold.

pub write_event_keeps : (w : Direction) (s : ℕ) (m : Message) → Invariant w → Invariant (happens w (Event.Write s m))
unfolding happens
write_event_keeps w s m h = either _ _ _ (λ b. h) (λ b. keeps_write w s m b h)

pub begin_event_keeps : (w : Direction) (s i any : ℕ) → Invariant w → Invariant (happens w (Event.Begin s i any))
unfolding happens
begin_event_keeps w s i any h = begin_step w s i any w.sender.current refl h

pub resend_event_keeps : (w : Direction) (o : ℕ) → Invariant w → Invariant (happens w (Event.Resend o))
unfolding happens
resend_event_keeps w o h = either _ _ _ (λ b. keeps_resend w o b h) (λ b. h)

pub sack_event_keeps : (w : Direction) (k : ℕ) → Invariant w → Invariant (happens w (Event.SackComes k))
unfolding happens
sack_event_keeps w k h = sack_step w k (slice_get w.sacks k) refl h

pub abandon_event_keeps : (w : Direction) (s i : ℕ) → Invariant w → Invariant (happens w (Event.Abandon s i))
unfolding happens
abandon_event_keeps w s i h = either _ _ _ (λ b. abandon_step w s i w.sender.current refl b h) (λ b. h)

-- So does this one, where it passes over 16,384 offsets at most.
pub forward_made_event_keeps : (w : Direction) → length (gone_front w.sender) ≤ 16384 → Invariant w
    → Invariant (happens w Event.ForwardMade)
unfolding happens
forward_made_event_keeps w few h = either _ _ _ (λ b. keeps_forward_made w few (ltb-true _ _ b) h) (λ b. h)

-- Every event keeps it where the limits hold.

pub each_event_keeps_the_invariant : EachEventKeepsTheInvariant
unfolding happens
each_event_keeps_the_invariant w (Event.Write s m) l h = write_event_keeps w s m h
each_event_keeps_the_invariant w (Event.PassOver s) l h = either _ _ _ (λ b. keeps_pass_over w s b h) (λ b. h)
each_event_keeps_the_invariant w (Event.Drop s i) l h = either _ _ _ (λ b. keeps_drop w s i b h) (λ b. h)
each_event_keeps_the_invariant w (Event.Begin s i any) l h = begin_event_keeps w s i any h
each_event_keeps_the_invariant w Event.GoOn l h = go_on_step w w.sender.current refl h
each_event_keeps_the_invariant w (Event.Resend o) l h = resend_event_keeps w o h
each_event_keeps_the_invariant w (Event.Abandon s i) l h = abandon_event_keeps w s i h
each_event_keeps_the_invariant w (Event.SackComes k) l h = sack_event_keeps w k h
each_event_keeps_the_invariant w Event.ForwardMade l h =
    forward_made_event_keeps w (front_within w.sender 16384 (let few = l.flight in omega arith)) h
each_event_keeps_the_invariant w (Event.DataComes k) l h = data_step w k (slice_get w.datas k) refl l h
each_event_keeps_the_invariant w Event.SackMade l h = keeps_sack_made w h
each_event_keeps_the_invariant w (Event.ForwardComes k) l h = forward_step w k (slice_get w.forwards k) refl l h
each_event_keeps_the_invariant w (Event.Open s) l h = keeps_open w s h
each_event_keeps_the_invariant w (Event.Read s) l h = read_step w s (w.receiver.queues s) refl l h
each_event_keeps_the_invariant w Event.Close l h = keeps_close w h
each_event_keeps_the_invariant w (Event.End s) l h = keeps_end w s h
each_event_keeps_the_invariant w (Event.Restart s) l h = either _ _ _ (λ b. keeps_restart w s b h) (λ b. h)
each_event_keeps_the_invariant w (Event.Replace s q) l h = either _ _ _ (λ b. keeps_replace w s q b h) (λ b. h)

pub fresh_holds : (size : ℕ) → 0 < size → Invariant (fresh size)
fresh_holds size some = record {
  planned = record {
    size = some;
    filled = λ s i l. absurd (omega arith);
    known = λ o l. absurd (omega arith);
    piece = λ o l. absurd (omega arith);
    one = λ o q l. absurd (omega arith);
    after = λ o l. absurd (omega arith);
    before = λ o k l. absurd (omega arith);
    rises = λ s o q l a. absurd (let k = a.known in omega arith);
    pairs = λ s v o q l a. absurd (let k = a.known in omega arith);
  };
  sending = record {
    within = λ s. omega arith;
    counted = λ o l. absurd (omega arith);
    numbers = λ s o a. absurd (let k = a.known in omega arith);
    earlier = λ s v o a. absurd (let k = a.known in omega arith);
    going = λ y e. absurd (none_some y e);
    closed = λ e o l. absurd (omega arith);
    given_up = λ s i g. absurd (false≢true g);
  };
  ascending = record {
    ascends = λ s o q from le a. absurd (let k = a.known in omega arith);
    below = λ s o from a. absurd (let k = a.known in omega arith);
    going = λ y e. absurd (none_some y e);
  };
  datas = tt;
  taken = λ o m. absurd (false≢true m);
  accounted = λ o l. absurd (omega arith);
  passed = omega arith;
  tails = λ o l. absurd (omega arith);
  sacks = tt;
  acknowledged = λ o a. absurd (false≢true a);
  cumulative = λ o l. absurd (omega arith);
  behind = omega arith;
  forwards = tt;
  released = λ s. refl;
  streams = λ s v. record {
    got = tt;
    once = tt;
    rising = tt;
    below = tt;
    complete = tt;
    ordered = record {
      cursor = 0;
      is = refl;
      above = omega arith;
      latest = refl;
      origin = inl refl;
      begun = omega arith;
      going = λ y e. absurd (none_some y e);
      held = tt;
      past = λ o a. absurd (let k = a.known in omega arith);
      later = λ o a. absurd (let k = a.known in omega arith);
      link = λ o a. absurd (let k = a.known in omega arith);
      until = omega arith;
      gap = omega arith;
      full = λ none. record {
        unskipped = refl;
        level = refl;
        exact = λ o a. absurd (let k = a.known in omega arith);
        level_next = refl;
        held = λ o a. absurd (let k = a.known in omega arith);
        read = λ i l. absurd (omega arith);
        letters = λ kept. refl;
      };
    };
    unordered = record {
      held = tt;
      fresh = tt;
      all = λ none i w. absurd (let k = w.accepted in omega arith);
      kept = λ none o a. absurd (let k = a.known in omega arith);
    };
  };
}
  where
    none_some : (y : Place) → None ≡ Some y → ⊥
    none_some y h = cc

pub run_keeps : (es : List Event) (w : Direction) → StaysWithin w es → Invariant w
    → Invariant (run es w) × IsWithin (run es w)
run_keeps [] w l h = (h, l)
run_keeps (e ∷ es) w l h = run_keeps es (happens w e) l.1 (each_event_keeps_the_invariant w e l.0 h)

pub one_direction_is_safe : OneDirectionIsSafe
one_direction_is_safe size some events l s v =
    let r = run_keeps events (fresh size) l (fresh_holds size some) in
    the_invariant_is_enough (run events (fresh size)) r.1 r.0 s v
