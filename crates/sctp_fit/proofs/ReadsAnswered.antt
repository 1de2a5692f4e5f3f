-- What a read on a stream gives at an association is what the direction's reader gets, and so is what is ready.
use Rattle.std.proofs.Common.{◌≡◌, refl, sym, ap, ◌∙◌, subst, ⊎_elim, ℕ, true, false, cond, eqb, ◌∷◌, []}
use Rattle.std.proofs.Common.{◌++◌, map, Option, Some, None}
use Rattle.std.proofs.lemmas.Bool.{cases_Bool, cond-true, cond-false, eqb-true, eqb-false}
use Rattle.sctp_receive_queues.specs.Messages.{ReceivedMessage}
use Rattle.sctp_receive_queues.specs.Reassembly.{Reassembly, ready, taken}
use Rattle.sctp_streams.specs.Stream.{StreamView, read_with}
use Rattle.sctp_streams.specs.Streams.{StreamMap, read_at, read_in, stream_at, with_stream}
use Rattle.sctp_model.specs.Messages.{Plan}
use Rattle.sctp_model.specs.Reassembly.{Queue, Taken, next}
use Rattle.sctp_model.specs.Reassembly.{ready as model_ready}
use Rattle.sctp_model.specs.Machine.{Direction, Event, happens, live, put, read, was_read}
use Rattle.sctp_model.specs.Safe.{IsWithin, letter_read, read_ssn}
use Rattle.sctp_model.proofs.PlansGrow.{at_put, off_put}
use Rattle.sctp_reassembly.specs.Stands.{IsInWindow, IsReadAs, StandsFor, letter_received}
use Rattle.sctp_reassembly.proofs.LawsInEvents.{a_read_that_happens_stands}
use Rattle.sctp_reassembly.proofs.ReadyAlike.{the_same_is_ready as same_is_ready}
use Rattle.sctp_reassembly.proofs.SkipsAlike.{the_invariant_gives_the_window}
use Rattle.sctp_fit.specs.Incoming.{FitsIncoming, Receiving}
use Rattle.sctp_fit.specs.Arrivals.{ReadsAreAlike, TheSameStreamsAreReady}
use Rattle.sctp_fit.proofs.StreamsThere.{IsChangedAt, at_with, queue_of, queues_after}
use Rattle.sctp_model.specs.Invariants.{Invariant}

-- a read of a receiver that is open gives what is next of the stream
read_happens : (w : Direction) (id : ℕ) (q : Queue) → w.receiver.queues id ≡ Some q → w.receiver.is_open ≡ true
    → happens w (Event.Read id) ≡ was_read w id (next q)
unfolding happens
read_happens w id q e o = ap (read w id) e ∙ cond-true w.receiver.is_open (was_read w id (next q)) w o

-- what a read leaves of a stream, and what it gives, are those of its reassembly
read_leaves : (t : StreamView) (x : Reassembly × Option ReceivedMessage)
    → ((read_with t x).0.reassembly ≡ x.0) × ((read_with t x).1 ≡ x.1)
read_leaves t (r, None) = (refl, refl)
read_leaves t (r, Some m) = (refl, refl)

-- a read of the model leaves the other streams
reads_apart : (w : Direction) (id n : ℕ) (x : Option Taken) → eqb n id ≡ false
    → (was_read w id x).reads n ≡ w.reads n
reads_apart w id n None b = refl
reads_apart w id n (Some t) b = off_put w.reads id n (w.reads id ++ t.got ∷ []) (eqb-false n id b)

-- and has a queue of the stream that it reads
queues_apart : (w : Direction) (id n : ℕ) (q : Queue) (x : Option Taken) → w.receiver.queues id ≡ Some q
    → (was_read w id x).receiver.queues n
    ≡ cond (eqb n id) (Some (live ((was_read w id x).receiver.queues id))) (w.receiver.queues n)
queues_apart w id n q None e =
    ⊎_elim
    (λ (b : eqb n id ≡ true). ap w.receiver.queues (eqb-true n id b) ∙ e ∙ sym (ap (λ z. Some (live z)) e)
    ∙ sym (cond-true (eqb n id) (Some (live (w.receiver.queues id))) (w.receiver.queues n) b))
    (λ (b : eqb n id ≡ false).
    sym (cond-false (eqb n id) (Some (live (w.receiver.queues id))) (w.receiver.queues n) b))
    (cases_Bool (eqb n id))
queues_apart w id n q (Some t) e =
    ap (λ z. cond (eqb n id) z (w.receiver.queues n))
    (ap (λ z. Some (live z)) (sym (at_put w.receiver.queues id id (Some t.rest) refl)))

module _ (a : Receiving) (id : ℕ) (t : StreamView) (w : Direction) (there : stream_at a.streams id ≡ Some t)
    (v : w.over id ≡ false) (within : IsWithin w) (inv : Invariant w) (fits : FitsIncoming a w) where
  -- a read answers the same on both sides, and afterwards each stream has its queue again
  read_alike : FitsIncoming (record a { streams = (read_in a.streams id).0 }) (happens w (Event.Read id))
      × IsReadAs (read_in a.streams id).1 (w.reads id) ((happens w (Event.Read id)).reads id)
      × ((s : ℕ) → eqb s id ≡ false → (happens w (Event.Read id)).reads s ≡ w.reads s)
  read_alike =
      subst (λ (z : Direction). FitsIncoming (record a { streams = (read_in a.streams id).0 }) z
      × IsReadAs (read_in a.streams id).1 (w.reads id) (z.reads id)
      × ((s : ℕ) → eqb s id ≡ false → z.reads s ≡ w.reads s)) (sym happened)
      (subst (λ (z : StreamMap × Option ReceivedMessage). FitsIncoming (record a { streams = z.0 }) after
      × IsReadAs z.1 (w.reads id) (after.reads id) × ((s : ℕ) → eqb s id ≡ false → after.reads s ≡ w.reads s))
      (sym (ap (λ z. read_at z a.streams id) there)) (
        fit_left got (subst (λ z. StandsFor a.peer p id z (live (after.receiver.queues id))) (sym left.0) stands.0),
        subst (λ z. IsReadAs z (w.reads id) (after.reads id)) (sym left.1) stands.1,
        λ s b. reads_apart w id s got b,
      ))
    where
      p : Plan
      p = w.sender.plan

      queue : (q : Queue) × (w.receiver.queues id ≡ Some q) × StandsFor a.peer p id t.reassembly q
      queue = queue_of a.peer p id (stream_at a.streams id) (w.receiver.queues id) t there (fits.queues id v)

      got : Option Taken
      got = next queue.0

      after : Direction
      after = was_read w id got

      happened : happens w (Event.Read id) ≡ after
      happened = read_happens w id queue.0 queue.1 fits.is_open

      read_stream : StreamView
      read_stream = (read_with t (taken t.reassembly)).0

      left : (read_stream.reassembly ≡ (taken t.reassembly).0)
          × ((read_with t (taken t.reassembly)).1 ≡ (taken t.reassembly).1)
      left = read_leaves t (taken t.reassembly)

      stands : StandsFor a.peer p id (taken t.reassembly).0 (live (after.receiver.queues id))
          × IsReadAs (taken t.reassembly).1 (w.reads id) (after.reads id)
      stands =
          subst (λ (z : Direction). StandsFor a.peer p id (taken t.reassembly).0 (live (z.receiver.queues id))
          × IsReadAs (taken t.reassembly).1 (w.reads id) (z.reads id)) happened
          (a_read_that_happens_stands a.peer w id t.reassembly queue.0 within inv v fits.is_open queue.1 queue.2)

      changed : (x : Option Taken)
          → StandsFor a.peer p id read_stream.reassembly (live ((was_read w id x).receiver.queues id))
          → IsChangedAt a w (with_stream a.streams id read_stream) (was_read w id x).receiver.queues id
      changed x st = record {
        stream = read_stream;
        queue = live ((was_read w id x).receiver.queues id);
        streams = λ n. at_with a.streams id n t read_stream there;
        queues = λ n o. queues_apart w id n queue.0 x queue.1;
        stands = st;
      }

      fit_left : (x : Option Taken)
          → StandsFor a.peer p id read_stream.reassembly (live ((was_read w id x).receiver.queues id))
          → FitsIncoming (record a { streams = with_stream a.streams id read_stream }) (was_read w id x)
      fit_left None st = record {
        is_open = fits.is_open;
        taken = fits.taken;
        passed = fits.passed;
        queues = queues_after a w (with_stream a.streams id read_stream) w.receiver.queues id (changed None st) fits;
      }
      fit_left (Some x) st = record {
        is_open = fits.is_open;
        taken = fits.taken;
        passed = fits.passed;
        queues =
            queues_after a w (with_stream a.streams id read_stream) (put w.receiver.queues id (Some x.rest)) id
            (changed (Some x) st) fits;
      }

  -- what is ready is the same on both sides
  ready_alike : map letter_read (model_ready (live (w.receiver.queues id))) ≡ map letter_received (ready t.reassembly)
  ready_alike =
      let p = w.sender.plan in
      let low = read_ssn p 0 (w.reads id) in
      let queue = queue_of a.peer p id (stream_at a.streams id) (w.receiver.queues id) t there (fits.queues id v) in
      let window = the_invariant_gives_the_window w within inv id v in
      ap (λ z. map letter_read (model_ready (live z))) queue.1
      ∙ sym (same_is_ready a.peer p w.over w.receiver.taken id low window.0 t.reassembly queue.0 inv.planned v
      within.offsets
      (subst (IsInWindow p w.receiver.taken id low window.0) (ap live queue.1) window.1) queue.2)

pub reads_are_alike : ReadsAreAlike
reads_are_alike = read_alike

pub the_same_streams_are_ready : TheSameStreamsAreReady
the_same_streams_are_ready = ready_alike
