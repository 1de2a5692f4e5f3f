-- The receiver's events by their cases: they leave the sender's side as it is, and most of them keep the limits.
use Rattle.std.proofs.Common.{◌≡◌, ◌⊎◌, refl, sym, ap, ◌∙◌, subst, subst₂, inl, inr, ⊎_elim, ℕ, zero, suc, ◌+◌, ◌^◌}
use Rattle.std.proofs.Common.{◌<◌, arith, true, false, List, [], ◌∷◌, ◌++◌, length, Option, Some, None}
use Rattle.std.specs.Prelude.{slice_get}
use Rattle.std.proofs.lemmas.Bool.{cond_both}
use Rattle.sctp_model.specs.Packets.{Data, Forward, Sack, mem}
use Rattle.sctp_model.specs.Reassembly.{Got, Queue, Taken, next}
use Rattle.sctp_model.specs.Machine.{Direction, Event, Receiver, data_comes, forward_comes, happens, opened, passes}
use Rattle.sctp_model.specs.Machine.{put, read, sack_of, took, was_read}
use Rattle.sctp_model.specs.Safe.{IsWithin, unread}
use Rattle.sctp_model.proofs.StreamsTakeData.{mem_new}
use Rattle.sctp_directions.specs.Events.{BringsForward, IsReceived}
use Rattle.sctp_directions.proofs.SenderCases.{drop_cases, forward_made_cases, sack_cases}

-- The events, by their cases

-- what holds before DATA comes and after one that is taken in holds after it
pub data_cases : (P : Direction → Type 0) (w : Direction) (k : ℕ) → P w
    → ((d : Data) → slice_get w.datas k ≡ Some d → P (record w { receiver = took w.receiver d }))
    → P (happens w (Event.DataComes k))
unfolding happens
data_cases P w k h f = go (slice_get w.datas k) refl
  where
    go : (o : Option Data) → slice_get w.datas k ≡ o → P (data_comes w o)
    go None e = h
    go (Some d) e = cond_both _ _ _ P (λ b. f d e) (λ b. h)

-- what holds before a FORWARD TSN comes and after one that is taken holds after it
pub forward_cases : (P : Direction → Type 0) (w : Direction) (k : ℕ) → P w
    → ((f : Forward) → slice_get w.forwards k ≡ Some f → P (passes w f))
    → P (happens w (Event.ForwardComes k))
unfolding happens
forward_cases P w k h g = go (slice_get w.forwards k) refl
  where
    go : (o : Option Forward) → slice_get w.forwards k ≡ o → P (forward_comes w o)
    go None e = h
    go (Some f) e = cond_both _ _ _ P (λ b. g f e) (λ b. h)

-- what holds before a read and after one that gives a message holds after it
pub read_cases : (P : Direction → Type 0) (w : Direction) (s : ℕ) → P w
    → ((q : Queue) (t : Taken) → w.receiver.queues s ≡ Some q → next q ≡ Some t → P (was_read w s (Some t)))
    → P (happens w (Event.Read s))
unfolding happens
read_cases P w s h f = queued (w.receiver.queues s) refl
  where
    given : (q : Queue) → w.receiver.queues s ≡ Some q → (t : Option Taken) → next q ≡ t → P (was_read w s t)
    given q e None c = h
    given q e (Some t) c = f q t e c

    queued : (o : Option Queue) → w.receiver.queues s ≡ o → P (read w s o)
    queued None e = h
    queued (Some q) e = cond_both _ _ _ P (λ b. given q e (next q) refl) (λ b. h)

-- What the receiver's events leave

received_by : (w : Direction) (r : Receiver) (reads : ℕ → List Got)
    → IsReceived w (record w { receiver = r; reads = reads })
received_by w r reads =
    record { sender = refl; over = refl; datas = refl; forwards = refl; sacks = λ k x e. e }

-- DATA that comes concerns the receiver alone
pub data_received : (w : Direction) (k : ℕ) → IsReceived w (happens w (Event.DataComes k))
data_received w k =
    data_cases (IsReceived w) w k (received_by w w.receiver w.reads) (λ d e. received_by w (took w.receiver d) w.reads)

-- a SACK that is made comes behind those made before, which stay where they are
pub sack_received : (w : Direction) → IsReceived w (happens w Event.SackMade)
unfolding happens
sack_received w = record {
  sender = refl;
  over = refl;
  datas = refl;
  forwards = refl;
  sacks = λ k x e. get_before w.sacks k x e;
}
  where
    get_before : (xs : List Sack) (k : ℕ) (x : Sack) → slice_get xs k ≡ Some x
        → slice_get (xs ++ sack_of w.receiver ∷ []) k ≡ Some x
    get_before [] k x e = absurd (cc)
    get_before (y ∷ xs) zero x e = e
    get_before (y ∷ xs) (suc k) x e = get_before xs k x e

-- a FORWARD TSN that comes concerns the receiver and what was skipped alone
pub forward_received : (w : Direction) (k : ℕ) → IsReceived w (happens w (Event.ForwardComes k))
forward_received w k =
    forward_cases (IsReceived w) w k (received_by w w.receiver w.reads)
    (λ f e. record { sender = refl; over = refl; datas = refl; forwards = refl; sacks = λ n x g. g })

-- opening a stream concerns the receiver alone
pub open_received : (w : Direction) (s : ℕ) → IsReceived w (happens w (Event.Open s))
unfolding happens
open_received w s =
    received_by w (record w.receiver { queues = put w.receiver.queues s (opened (w.receiver.queues s)) }) w.reads

-- a read concerns the receiver and what was read alone
pub read_received : (w : Direction) (s : ℕ) → IsReceived w (happens w (Event.Read s))
read_received w s = read_cases (IsReceived w) w s (received_by w w.receiver w.reads)
    (λ q t e f. received_by w (record w.receiver { queues = put w.receiver.queues s (Some t.rest) })
    (put w.reads s (w.reads s ++ t.got ∷ [])))

-- the receiver's end concerns the receiver alone
pub close_received : (w : Direction) → IsReceived w (happens w Event.Close)
unfolding happens
close_received w = received_by w (record w.receiver { is_open = false }) w.reads

-- a receiver that closed is not open
pub closed : (w : Direction) → (happens w Event.Close).receiver.is_open ≡ false
unfolding happens
closed w = refl

-- what is taken in grows by the offset of the DATA that comes alone
pub data_takes : (w : Direction) (k : ℕ) (d : Data) (o : ℕ) → slice_get w.datas k ≡ Some d
    → mem o (happens w (Event.DataComes k)).receiver.taken ≡ true
    → (mem o w.receiver.taken ≡ true) ⊎ (o ≡ d.offset)
data_takes w k d o e =
    data_cases (λ v. mem o v.receiver.taken ≡ true → (mem o w.receiver.taken ≡ true) ⊎ (o ≡ d.offset)) w k (λ m. inl m)
    (λ c f m. ⊎_elim
    (λ (b : c.offset ≡ o). let same : c ≡ d = (let g : Some c ≡ Some d = sym f ∙ e in cc) in
    inr (sym b ∙ ap (λ z. z.offset) same))
    (λ (b : mem o w.receiver.taken ≡ true). inl b)
    (mem_new c.offset o w.receiver.taken m))

-- a report takes nothing in
pub sack_takes : (w : Direction) → (happens w Event.SackMade).receiver.taken ≡ w.receiver.taken
unfolding happens
sack_takes w = refl

-- a FORWARD TSN takes nothing in
pub forward_takes : (w : Direction) (k : ℕ) → (happens w (Event.ForwardComes k)).receiver.taken ≡ w.receiver.taken
forward_takes w k = forward_cases (λ v. v.receiver.taken ≡ w.receiver.taken) w k refl (λ f e. refl)

-- opening a stream takes nothing in
pub open_takes : (w : Direction) (s : ℕ) → (happens w (Event.Open s)).receiver.taken ≡ w.receiver.taken
unfolding happens
open_takes w s = refl

-- a read takes nothing in
pub read_takes : (w : Direction) (s : ℕ) → (happens w (Event.Read s)).receiver.taken ≡ w.receiver.taken
read_takes w s = read_cases (λ v. v.receiver.taken ≡ w.receiver.taken) w s refl (λ q t e f. refl)

-- the receiver's end takes nothing in
pub close_takes : (w : Direction) → (happens w Event.Close).receiver.taken ≡ w.receiver.taken
unfolding happens
close_takes w = refl

-- What is passed over

-- a FORWARD TSN alone passes over anything, and as far as it says
pub forward_passes : (w : Direction) (k : ℕ)
    → ((happens w (Event.ForwardComes k)).receiver.passed ≡ w.receiver.passed)
    ⊎ BringsForward w (Event.ForwardComes k) (happens w (Event.ForwardComes k)).receiver.passed
forward_passes w k =
    forward_cases
    (λ v. (v.receiver.passed ≡ w.receiver.passed) ⊎ BringsForward w (Event.ForwardComes k) v.receiver.passed) w k
    (inl refl) (λ f e. inr (f, e, refl))

pub data_passes : (w : Direction) (k : ℕ) → (happens w (Event.DataComes k)).receiver.passed ≡ w.receiver.passed
data_passes w k = data_cases (λ v. v.receiver.passed ≡ w.receiver.passed) w k refl (λ d e. refl)

pub sack_passes : (w : Direction) → (happens w Event.SackMade).receiver.passed ≡ w.receiver.passed
unfolding happens
sack_passes w = refl

pub open_passes : (w : Direction) (s : ℕ) → (happens w (Event.Open s)).receiver.passed ≡ w.receiver.passed
unfolding happens
open_passes w s = refl

pub read_passes : (w : Direction) (s : ℕ) → (happens w (Event.Read s)).receiver.passed ≡ w.receiver.passed
read_passes w s = read_cases (λ v. v.receiver.passed ≡ w.receiver.passed) w s refl (λ q t e f. refl)

pub close_passes : (w : Direction) → (happens w Event.Close).receiver.passed ≡ w.receiver.passed
unfolding happens
close_passes w = refl

-- The limits

-- the limits are kept where the sender and what was read stay
within_by : (w v : Direction) → v.sender ≡ w.sender → v.reads ≡ w.reads → v.over ≡ w.over → IsWithin w → IsWithin v
within_by w v sender reads over h = record {
  offsets = subst (λ z. length z.plan.places < 2 ^ 31) (sym sender) h.offsets;
  flight = subst (λ z. length z.plan.places < z.reach + 16384) (sym sender) h.flight;
  unread =
      λ s e. subst₂ (λ y z. unread y.plan s (z s) < 32768) (sym sender) (sym reads)
      (h.unread s (ap (λ f. f s) (sym over) ∙ e));
}

-- the numbers stay within their limits where DATA comes
pub within_data : (w : Direction) (k : ℕ) → IsWithin w → IsWithin (happens w (Event.DataComes k))
within_data w k h =
    data_cases IsWithin w k h (λ d e. within_by w (record w { receiver = took w.receiver d }) refl refl refl h)

-- the numbers stay within their limits where a FORWARD TSN comes
pub within_forward : (w : Direction) (k : ℕ) → IsWithin w → IsWithin (happens w (Event.ForwardComes k))
within_forward w k h = forward_cases IsWithin w k h (λ f e. within_by w (passes w f) refl refl refl h)

-- the numbers stay within their limits where a SACK is made
pub within_sack : (w : Direction) → IsWithin w → IsWithin (happens w Event.SackMade)
unfolding happens
within_sack w h = within_by w (record w { sacks = w.sacks ++ sack_of w.receiver ∷ [] }) refl refl refl h

-- the numbers stay within their limits where a stream is opened
pub within_open : (w : Direction) (s : ℕ) → IsWithin w → IsWithin (happens w (Event.Open s))
unfolding happens
within_open w s h =
    within_by w
    (record w { receiver = record w.receiver { queues = put w.receiver.queues s (opened (w.receiver.queues s)) } }) refl
    refl refl h

-- the numbers stay within their limits where the receiver closes
pub within_close : (w : Direction) → IsWithin w → IsWithin (happens w Event.Close)
unfolding happens
within_close w h = within_by w (record w { receiver = record w.receiver { is_open = false } }) refl refl refl h

-- the numbers stay within their limits where a message is dropped
pub within_drop : (w : Direction) (s i : ℕ) → IsWithin w → IsWithin (happens w (Event.Drop s i))
within_drop w s i h =
    drop_cases IsWithin w s i h (λ b. record { offsets = h.offsets; flight = h.flight; unread = h.unread })

-- the numbers stay within their limits where a FORWARD TSN is made
pub within_forward_made : (w : Direction) → IsWithin w → IsWithin (happens w Event.ForwardMade)
within_forward_made w h =
    forward_made_cases IsWithin w h (record { offsets = h.offsets; flight = h.flight; unread = h.unread })

-- the numbers stay within their limits where a SACK comes: it moves the sender's reach onwards or not at all
pub within_sack_comes : (w : Direction) (k : ℕ) → IsWithin w → IsWithin (happens w (Event.SackComes k))
within_sack_comes w k h = sack_cases IsWithin w k h
    (λ x e l.
    record { offsets = h.offsets; flight = (let f = h.flight in omega (arith, l)); unread = h.unread })
