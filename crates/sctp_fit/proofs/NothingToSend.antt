-- A stream that an association opens, and an association that did nothing yet, have nothing to send.
use Rattle.std.proofs.Common.{ℕ, zero, suc, ◌<◌, ◌≡◌, ◌%◌, Bool, true, false, cond, ltb, ◌&&◌}
use Rattle.std.proofs.Common.{List, [], ◌∷◌, length, get_or, Option, Some, None}
use Rattle.std.proofs.Common.{refl, sym, ap, ◌∙◌, subst, arith}
use Rattle.std.specs.List.{AllByRecursion}
use Rattle.std.proofs.lemmas.Bool.{false_from_ne_true, false≢true, ltb-true}
use Rattle.sctp_outbound_queue.specs.Waiting.{Waiting}
use Rattle.sctp_streams.specs.Stream.{StreamView, fresh_stream}
use Rattle.sctp_model.specs.Messages.{Message, Place, Plan, accepted_bytes, no_message, rank, sum_below}
use Rattle.sctp_model.specs.Reassembly.{Got}
use Rattle.sctp_model.specs.Machine.{Direction, is_unsent, live, put}
use Rattle.sctp_model.specs.Safe.{read_ssn}
use Rattle.sctp_model.specs.Invariants.{Invariant, IsGot}
use Rattle.sctp_model.proofs.Lists.{all_front}
use Rattle.sctp_model.proofs.PlansGrow.{at_put, off_put}
use Rattle.sctp_model.proofs.ReleasedBytes.{released_within}
use Rattle.sctp_fit.specs.Outgoing.{AreUnsent, AreWaiting, CountsBegun, IsNumbered, IsOwnAt, Names, numbers_after}
use Rattle.sctp_fit.specs.Outgoing.{FitsOutgoing, Sending, numbers_past}
use Rattle.sctp_fit.specs.Writes.{FreshOnesFit, OpenedStreamsSendNothing}
use Rattle.sctp_fit.proofs.NamesKept.{KeepsMessages, all_waiting_kept, flight_kept}
use Rattle.sctp_fit.proofs.StreamsChanged.{each_made}
use Rattle.sctp_fit.proofs.LastUnsent.{past_others}
use Rattle.sctp_wire_types.specs.declared.ids.PayloadProtocolIdentifier.{PayloadProtocolIdentifier}
use Rattle.sctp_streams.specs.Streams.{made, stream_at}

-- On a stream on which nothing was accepted

module _ (p : Plan) (s : ℕ) (none : p.accepted s ≡ []) where
  -- there is no message
  no_message_of : (i : ℕ) → i < length (p.accepted s) → ⊥
  no_message_of i l = let n = ap length none in absurd (omega arith)

  -- no byte counts
  no_bytes : accepted_bytes p s ≡ 0
  no_bytes = ap (λ (z : List Message). sum_below (λ i. length (get_or z i no_message).bytes) (length z)) none

  -- nothing was read
  none_read : (taken : List ℕ) (gots : List Got) → AllByRecursion (IsGot p taken s) gots → gots ≡ []
  none_read taken [] all = refl
  none_read taken (g ∷ gs) (h, hs) = absurd (no_message_of _ h.tells.whole.accepted)

  -- what waits is of other streams, and leaves its next sequence number
  first_number : (n : Names) (unsent : ℕ → ℕ → Bool) (from numbers : ℕ → ℕ) (xs : List Waiting)
      → AreUnsent n p unsent from numbers xs → numbers_after numbers xs s ≡ numbers s
  first_number n unsent from numbers [] all = refl
  first_number n unsent from numbers (x ∷ xs) (i, u, us) =
      ap (λ (b : Bool). numbers_after (cond b numbers (numbers_past numbers x.message)) xs s) u.begun
      ∙ first_number n unsent (put from x.message.stream_identifier (suc i)) (numbers_past numbers x.message) xs us
      ∙ past_others numbers x.message s
      (λ (e : s ≡ x.message.stream_identifier).
      no_message_of i (subst (λ z. i < length (p.accepted z)) (sym e) u.waits.message.known))

  -- so does a message that goes on
  first_number_waiting : (n : Names) (unsent : ℕ → ℕ → Bool) (numbers : ℕ → ℕ) (current : Option Place)
      (xs : List Waiting)
      → AreWaiting n p unsent numbers current xs → numbers_after numbers xs s ≡ numbers s
  first_number_waiting n unsent numbers None xs all = first_number n unsent (λ t. 0) numbers xs all
  first_number_waiting n unsent numbers (Some y) [] all = absurd all
  first_number_waiting n unsent numbers (Some y) (x ∷ xs) (g, all) =
      ap (λ (b : Bool). numbers_after (cond b numbers (numbers_past numbers x.message)) xs s) g.begun
      ∙ first_number n unsent (λ t. 0) numbers xs all

-- of no messages none is ordered
rank_none : (i : ℕ) → rank [] i ≡ 0
rank_none zero = refl
rank_none (suc i) = refl

-- The stream's next sequence number is the first: no message got an offset, and none was read.
first_ssn : (w : Direction) (s : ℕ) → w.sender.plan.accepted s ≡ [] → Invariant w → w.over s ≡ false
    → w.sender.ssn s ≡ 0
first_ssn w s none inv within =
    let stream = inv.streams s within in
    let reads = none_read w.sender.plan s none w.receiver.taken (w.reads s)
    (all_front (IsGot w.sender.plan w.receiver.taken s) (w.reads s) (live (w.receiver.queues s)).complete stream.got) in
    let low = ap (read_ssn w.sender.plan 0) reads in
    let gap = stream.ordered.gap in
    let next = ap (λ z. rank z (w.sender.next s)) none ∙ rank_none (w.sender.next s) in
    omega arith

-- Streams that are opened

module _ (p : Plan) (n : Names) (s generation : ℕ) (none : p.accepted s ≡ []) where
  -- a stream with no message may be of any generation
  keeps_generations : KeepsMessages n (record n { generations = put n.generations s generation }) p p
  keeps_generations = record {
    size = refl;
    known = λ t i l. l;
    ids = λ t i l. refl;
    generations = λ t i l. off_put n.generations s t generation
        (λ (e : t ≡ s). no_message_of p s none i (subst (λ z. i < length (p.accepted z)) e l));
    within = λ t v. v;
    messages = λ t i l. refl;
  }

module _ (a : Sending) (id first : ℕ) (kind : PayloadProtocolIdentifier) (w : Direction)
    (e : stream_at a.streams id ≡ None) (within : w.over id ≡ false) (inv : Invariant w)
    (count : CountsBegun w.sender) (f : FitsOutgoing a w) where
  -- A stream that is opened: nothing was accepted on it, and its numbers begin with the first.
  opened_sends_nothing : FitsOutgoing (record a { streams = made a.streams id first kind }) w
  opened_sends_nothing = record {
    named = record f.named { generations = put f.named.generations id a.streams.next_generation };
    within = f.within;
    names = record { below = f.names.below; one = f.names.one };
    size = f.size;
    base = f.base;
    flight = flight_kept keeps w.sender.acknowledged w.sender.gone w.sender.reach a.queue.in_flight refl f.flight;
    waiting = all_waiting_kept keeps (is_unsent w.sender) w.sender.ssn w.sender.current a.queue.pending f.waiting;
    live =
        each_made a.streams id first kind
        (λ s o. (u : StreamView) → w.over s ≡ false → o ≡ Some u
        → IsNumbered (record f.named { generations = put f.named.generations id a.streams.next_generation })
        (numbers_after w.sender.ssn a.queue.pending s) s u) e
        (λ s ne u v d. record {
          generation =
              (f.live s u v d).generation ∙ sym (off_put f.named.generations id s a.streams.next_generation ne);
          ssn = (f.live s u v d).ssn;
        })
        (λ u v d. subst
        (IsNumbered (record f.named { generations = put f.named.generations id a.streams.next_generation })
        (numbers_after w.sender.ssn a.queue.pending id) id)
        (let same : fresh_stream id a.streams.next_generation first kind ≡ u = cc in same) first_numbered);
    own_streams =
        each_made a.streams id first kind (λ s o. w.over s ≡ false → IsOwnAt w.sender.plan (w.sender.released s) s o) e
        (λ s ne. f.own_streams s)
        (λ still.
        let most = released_within w.sender.plan w.over w.sender.acknowledged w.sender.gone id inv.planned in
        let is = inv.released id in
        let bytes = no_bytes w.sender.plan id none in
        omega arith);
  }
    where
      none : w.sender.plan.accepted id ≡ []
      none = subst (IsOwnAt w.sender.plan (w.sender.released id) id) e (f.own_streams id within)

      keeps : KeepsMessages f.named
          (record f.named { generations = put f.named.generations id a.streams.next_generation })
          w.sender.plan w.sender.plan
      keeps = keeps_generations w.sender.plan f.named id a.streams.next_generation none

      first_numbered : IsNumbered
          (record f.named { generations = put f.named.generations id a.streams.next_generation })
          (numbers_after w.sender.ssn a.queue.pending id) id
          (fresh_stream id a.streams.next_generation first kind)
      first_numbered = record {
        generation = sym (at_put f.named.generations id id a.streams.next_generation refl);
        ssn =
            let behind = first_number_waiting w.sender.plan id none f.named (is_unsent w.sender) w.sender.ssn
            w.sender.current a.queue.pending f.waiting in
            let number = first_ssn w id none inv within in
            sym (ap (λ z. z % 65536) (behind ∙ number));
      }

pub opened_streams_send_nothing : OpenedStreamsSendNothing
opened_streams_send_nothing = opened_sends_nothing

-- At first

-- no number is below 0, so no message is unsent
none_below : (i : ℕ) → (ltb i 0 && true) ≡ false
none_below i =
    ap (λ z. z && true) (false_from_ne_true (ltb i 0) (λ (b : ltb i 0 ≡ true). let l = ltb-true i 0 b in omega arith))

-- An association that did nothing yet fits a direction in which nothing happened.
pub fresh_ones_fit : FreshOnesFit
fresh_ones_fit size tsn = (
  record {
    named = record { ids = λ s i. 0; generations = λ s. 0; within = λ s. true };
    within = λ s. refl;
    names = record { below = λ s i l. absurd (omega arith); one = λ s i t j l m e. absurd (omega arith) };
    size = refl;
    base = refl;
    flight = refl;
    waiting = λ s i l. none_below i;
    live = λ s t v e. absurd (cc);
    own_streams = λ s e. refl;
  },
  record {
    accepted = λ s i b. absurd (false≢true b);
    below = λ s i b o. absurd (false≢true b);
    behind = λ s i l o. none_below i;
  },
)
