-- A message that is dropped before any of it was sent is dropped in the direction too: all that waits behind it stays
-- unsent, its bytes are released, and its number goes to its stream's next ordered message.
use Rattle.std.proofs.Common.{ℕ, zero, suc, ◌+◌, ◌*◌, ◌<◌, ◌≤◌, ◌≡◌, ◌%◌, Bool, true, false, not, cond, eqb}
use Rattle.std.proofs.Common.{◌&&◌, List, [], ◌∷◌, length, drop, Option, Some, None, is_some}
use Rattle.std.proofs.Common.{refl, sym, ap, ◌∙◌, subst, ⊎_elim, arith}
use Rattle.std.specs.Prelude.{slice_get}
use Rattle.std.specs.List.{sum_by}
use Rattle.std.proofs.lemmas.List.{length-take, length-drop}
use Rattle.std.proofs.lemmas.List.Sums.{sum_by-cons}
use Rattle.std.proofs.lemmas.Bool.{and_from, and_parts, cases_eq, cases_lt, cond_both, cond-false, cond-true}
use Rattle.std.proofs.lemmas.Bool.{eq-eqb, ne_eqb}
use Rattle.std.proofs.lemmas.Bool.{false≢true, leb-true, leb-false, not-true, true≢false}
use Rattle.sctp_outbound_queue.specs.declared.message.Attributes.{Attributes}
use Rattle.sctp_outbound_queue.specs.declared.message.InFlight.{InFlight}
use Rattle.sctp_outbound_queue.specs.Waiting.{Waiting}
use Rattle.sctp_outbound_queue.specs.Message.{message_bytes}
use Rattle.sctp_streams.specs.Stream.{StreamView, released_from, with_ssn_given_back}
use Rattle.sctp_streams.specs.Streams.{StreamMap, change_at, given_back_in, is_generation, stream_at, with_stream}
use Rattle.sctp_model.specs.Messages.{Place, Plan, accepted_bytes, is_reliable, message_at, place_at}
use Rattle.sctp_model.specs.Machine as machine
use Rattle.sctp_model.specs.Machine.{Direction, Event, Sender, can_drop, happens, has_message, is_unsent, put, put_2}
use Rattle.sctp_model.specs.Invariants.{Invariant}
use Rattle.sctp_model.proofs.PlansGrow.{at_put, off_put}
use Rattle.sctp_model.proofs.ReleasedBytes.{released_within}
use Rattle.sctp_model.proofs.SenderEvents.{keeps_drop, same_plan}
use Rattle.sctp_fit.specs.Drops.{DropsAreAlike, dropped, without_at}
use Rattle.sctp_fit.specs.Outgoing.{AreInFlight, ArePieces, AreUnsent, AreWaiting, FitsOutgoing, IsNumbered, IsOwnAt}
use Rattle.sctp_fit.specs.Outgoing.{CountsBegun, IsWaiting, Names, Sending, number_at, numbers_after, numbers_past}
use Rattle.sctp_fit.specs.Outgoing.{policy_of}
use Rattle.sctp_fit.proofs.BytesReleased.{own_less}
use Rattle.sctp_fit.proofs.FirstPiece.{at_put_2, off_put_2}
use Rattle.sctp_fit.proofs.NumbersMoveDown.{above_itself, after_without, one_if, steps, unsent_down, wrapped_down}
use Rattle.sctp_fit.proofs.SpansNamed.{named_within}
use Rattle.sctp_fit.proofs.StreamsThere.{at_with}
use Rattle.sctp_fit.proofs.UnsentKept.{AreUnsentAlike, unsent_kept}

-- What is unsent

-- Message i of stream s is no longer unsent, and each other one is as it was.
record IsOneLess (unsent fewer : ℕ → ℕ → Bool) (s i : ℕ) : Type 0 where
  one : fewer s i ≡ false
  others : (t j : ℕ) → (t ≡ s → j ≡ i → ⊥) → fewer t j ≡ unsent t j

-- where it was the first unsent one of its stream, those past it are the same, and none before it is unsent
alike_less : {unsent fewer : ℕ → ℕ → Bool} (from : ℕ → ℕ) {s i : ℕ} → IsOneLess unsent fewer s i → from s ≤ i
    → ((j : ℕ) → from s ≤ j → j < i → unsent s j ≡ false) → AreUnsentAlike unsent fewer (put from s (suc i)) from
alike_less {unsent} {fewer} from {s} {i} less past none = record { lower = lower; below = below; same = same }
  where
    lower : (t : ℕ) → from t ≤ put from s (suc i) t
    lower t = ⊎_elim
        (λ (e : t ≡ s). let a = at_put from s t (suc i) e in let b = ap from e in omega arith)
        (λ (ne : t ≡ s → ⊥). let a = off_put from s t (suc i) ne in omega arith)
        (cases_eq t s)

    below : (t j : ℕ) → from t ≤ j → j < put from s (suc i) t → fewer t j ≡ false
    below t j l b = ⊎_elim
        (λ (e : t ≡ s).
        let a = at_put from s t (suc i) e in
        let c = ap from e in
        ⊎_elim
        (λ (k : j < i).
        less.others t j (λ (u : t ≡ s). λ (v : j ≡ i). omega arith)
        ∙ ap (λ z. unsent z j) e ∙ none j (omega arith) k)
        (λ (k : i ≤ j).
        ap (λ z. fewer z j) e ∙ ap (fewer s) (let q : j ≡ i = omega arith in q) ∙ less.one)
        (cases_lt j i))
        (λ (ne : t ≡ s → ⊥). let a = off_put from s t (suc i) ne in absurd (omega arith))
        (cases_eq t s)

    same : (t j : ℕ) → put from s (suc i) t ≤ j → fewer t j ≡ unsent t j
    same t j l =
        less.others t j (λ (e : t ≡ s). λ (k : j ≡ i). let a = at_put from s t (suc i) e in omega arith)

-- what lies past a message of the same or another stream lies past where that was looked for
past_before : (from : ℕ → ℕ) (s t i index : ℕ) → from s ≤ i → put from s (suc i) t ≤ index → from t ≤ index
past_before from s t i index past l = ⊎_elim
    (λ (e : t ≡ s). let a = at_put from s t (suc i) e in let b = ap from e in omega arith)
    (λ (ne : t ≡ s → ⊥). let a = off_put from s t (suc i) ne in omega arith)
    (cases_eq t s)

-- and what lies up to that message is as it was
same_before : {unsent fewer : ℕ → ℕ → Bool} (from : ℕ → ℕ) {t index : ℕ} (s i j : ℕ) → IsOneLess unsent fewer t index
    → put from s (suc i) t ≤ index → j ≤ i → fewer s j ≡ unsent s j
same_before from {t} {index} s i j less past l =
    less.others s j
    (λ (e : s ≡ t). λ (k : j ≡ index). let a = at_put from s t (suc i) (sym e) in omega arith)

-- The message x, which is number k of what waits unsent, is message `index` of its stream, and without it the others
-- are all that stays unsent.
record IsFoundAt (n : Names) (p : Plan) (unsent : ℕ → ℕ → Bool) (from numbers : ℕ → ℕ) (k : ℕ) (xs : List Waiting)
    (x : Waiting) : Type 0 where
  index : ℕ
  number : ℕ
  past : from x.message.stream_identifier ≤ index
  is : unsent x.message.stream_identifier index ≡ true
  waits : IsWaiting n p index number 0 x
  kept : (fewer : ℕ → ℕ → Bool) → IsOneLess unsent fewer x.message.stream_identifier index
      → AreUnsent n p fewer from numbers (without_at k xs)

-- The same of what waits behind a message that goes on, if there is one.
record IsFound (n : Names) (p : Plan) (unsent : ℕ → ℕ → Bool) (numbers : ℕ → ℕ) (current : Option Place) (k : ℕ)
    (xs : List Waiting) (x : Waiting) : Type 0 where
  index : ℕ
  number : ℕ
  is : unsent x.message.stream_identifier index ≡ true
  waits : IsWaiting n p index number 0 x
  kept : (fewer : ℕ → ℕ → Bool) → IsOneLess unsent fewer x.message.stream_identifier index
      → AreWaiting n p fewer numbers current (without_at k xs)

module _ (n : Names) (p : Plan) (unsent : ℕ → ℕ → Bool)
    (known : (o : ℕ) → o < length p.places → (place_at p o).message < length (p.accepted (place_at p o).stream)) where
  -- each message that waits unsent is one that the model has unsent
  found_at : (k : ℕ) (x : Waiting) (from numbers : ℕ → ℕ) (xs : List Waiting) → slice_get xs k ≡ Some x
      → AreUnsent n p unsent from numbers xs → IsFoundAt n p unsent from numbers k xs x
  found_at k x from numbers [] e h = absurd (cc)
  found_at zero x from numbers (y ∷ ys) e (i, h, hs) =
      subst (λ (z : Waiting). IsFoundAt n p unsent from numbers 0 (y ∷ ys) z) (let same : y ≡ x = cc in same)
      (record {
        index = i;
        number = number_at numbers y.message;
        past = h.past;
        is = h.is;
        waits = h.waits;
        kept = λ fewer less.
            unsent_down n p y.message h.waits.message.generation fewer from ys
            (above_itself y.message numbers)
            (unsent_kept n p p (same_plan p known) (numbers_past numbers y.message) ys
            (alike_less from less h.past h.next) hs);
      })
  found_at (suc k) x from numbers (y ∷ ys) e (i, h, hs) =
      let r =
      found_at k x (put from y.message.stream_identifier (suc i)) (numbers_past numbers y.message) ys e hs in
      record {
        index = r.index;
        number = r.number;
        past = past_before from y.message.stream_identifier x.message.stream_identifier i r.index h.past r.past;
        is = r.is;
        waits = r.waits;
        kept = λ fewer less. (
          i,
          record {
            waits = h.waits;
            begun = h.begun;
            is =
                same_before from y.message.stream_identifier i i less r.past (omega arith) ∙ h.is;
            past = h.past;
            next = λ j l b.
                same_before from y.message.stream_identifier i j less r.past (omega arith) ∙ h.next j l b;
          },
          r.kept fewer less,
        );
      }

  -- so is each that waits and was not begun
  found : (k : ℕ) (x : Waiting) (numbers : ℕ → ℕ) (current : Option Place) (xs : List Waiting)
      → slice_get xs k ≡ Some x → x.begun ≡ false → AreWaiting n p unsent numbers current xs
      → IsFound n p unsent numbers current k xs x
  found k x numbers None xs e fresh h =
      let r = found_at k x (λ s. 0) numbers xs e h in
      record { index = r.index; number = r.number; is = r.is; waits = r.waits; kept = r.kept }
  found k x numbers (Some y) [] e fresh h = absurd h
  found zero x numbers (Some y) (z ∷ zs) e fresh (g, h) =
      absurd (true≢false (sym g.begun ∙ ap (λ (u : Waiting). u.begun) (let same : z ≡ x = cc in same) ∙ fresh))
  found (suc k) x numbers (Some y) (z ∷ zs) e fresh (g, h) =
      let r = found_at k x (λ s. 0) numbers zs e h in
      record {
        index = r.index;
        number = r.number;
        is = r.is;
        waits = r.waits;
        kept = λ fewer less. (g, r.kept fewer less);
      }

-- what is given up is not unsent
no_more : (a b : Bool) → (a && (not b && false)) ≡ false
no_more true true = refl
no_more true false = refl
no_more false b = refl

-- the message that is dropped is unsent no longer
unsent_less : (y : Sender) (s i : ℕ) → IsOneLess (is_unsent y) (is_unsent (machine.dropped y s i)) s i
unsent_less y s i = record {
  one =
      ap (λ z. has_message y.plan s i && (not (y.begun s i) && not z)) (at_put_2 y.gone s i s i refl refl)
      ∙ no_more (has_message y.plan s i) (y.begun s i);
  others = λ t j ne.
      ap (λ z. has_message y.plan t j && (not (y.begun t j) && not z)) (off_put_2 y.gone s i t j ne);
}

-- The bytes of what waits

-- the pieces from the k-th on are the rest of the bytes
bytes_waiting : (size : ℕ) (bytes : List ℕ) (k : ℕ) (first : List ℕ) (rest : List (List ℕ)) → size * k ≤ length bytes
    → ArePieces size bytes k first rest → size * k + (length first + sum_by length rest) ≡ length bytes
bytes_waiting size bytes k first [] l (e, last) =
    let a = ap length e in
    let b = length-take size (drop (size * k) bytes) in
    let c = length-drop (size * k) bytes in
    let d = leb-true (length bytes) (size * suc k) last in
    omega arith
bytes_waiting size bytes k first (r ∷ rs) l (e, last, more) =
    let a = ap length e in
    let b = length-take size (drop (size * k) bytes) in
    let c = length-drop (size * k) bytes in
    let d = leb-false (length bytes) (size * suc k) last in
    let s = sum_by-cons length r rs in
    let rest = bytes_waiting size bytes (suc k) r rs (omega arith) more in
    omega arith

-- those of a message of which nothing was sent are all its bytes
bytes_whole : (n : Names) (p : Plan) (i number : ℕ) (x : Waiting) → IsWaiting n p i number 0 x
    → message_bytes x ≡ length (message_at p x.message.stream_identifier i).bytes
bytes_whole n p i number x h =
    let zeroth : p.size * 0 ≡ 0 = omega arith in
    let r =
    bytes_waiting p.size (message_at p x.message.stream_identifier i).bytes 0 x.user_data x.rest (omega arith)
    h.pieces in
    omega arith

-- What is in flight

-- what is given up without an offset leaves all that has one
module _ (n : Names) (p : Plan) (acknowledged : ℕ → Bool) (gone : ℕ → ℕ → Bool) (s i : ℕ)
    (apart : (o : ℕ) → o < length p.places → (place_at p o).stream ≡ s → (place_at p o).message ≡ i → ⊥) where
  flight_left : (o : ℕ) (xs : List InFlight) → AreInFlight n p acknowledged gone o xs
      → AreInFlight n p acknowledged (put_2 gone s i) o xs
  flight_left o [] h = h
  flight_left o (x ∷ xs) (h, hs) = (
    record {
      known = h.known;
      stream = h.stream;
      message = h.message;
      piece = h.piece;
      acked = h.acked;
      abandoned =
          h.abandoned
          ∙ sym (off_put_2 gone s i (place_at p o).stream (place_at p o).message (apart o h.known));
    },
    flight_left (suc o) xs hs,
  )

-- Streams

-- What holds of each other stream, and of the message's own if it is live no longer, or as it is once it has its number
-- and its bytes back, holds of all; of streams past their span it need not hold.
module _ (m : StreamMap) (d : Attributes) (bytes : ℕ) (over : ℕ → Bool) (P : ℕ → Option StreamView → Type 0)
    (live : over d.stream_identifier ≡ false → (t : StreamView) → stream_at m d.stream_identifier ≡ Some t
    → t.stats.generation ≡ d.generation)
    (others : (s : ℕ) → over s ≡ false → (s ≡ d.stream_identifier → ⊥) → P s (stream_at m s))
    (none : over d.stream_identifier ≡ false → stream_at m d.stream_identifier ≡ None → P d.stream_identifier None)
    (some : over d.stream_identifier ≡ false → (t : StreamView) → stream_at m d.stream_identifier ≡ Some t
    → P d.stream_identifier (Some (released_from (cond d.unordered t (with_ssn_given_back t)) bytes))) where
  each_given : (s : ℕ) → over s ≡ false
      → P s (stream_at (given_back_in m d.stream_identifier d.generation d.unordered bytes) s)
  each_given s within = by_live (stream_at m d.stream_identifier) refl
    where
      span : s ≡ d.stream_identifier → over d.stream_identifier ≡ false
      span a = ap over (sym a) ∙ within

      by_live : (o : Option StreamView) → stream_at m d.stream_identifier ≡ o
          → P s (stream_at (cond (is_generation o d.generation)
          (change_at (λ t. released_from (cond d.unordered t (with_ssn_given_back t)) bytes) o m d.stream_identifier) m)
          s)
      by_live None e = ⊎_elim
          (λ (a : s ≡ d.stream_identifier).
          subst (λ z. P z (stream_at m z)) (sym a) (subst (P d.stream_identifier) (sym e) (none (span a) e)))
          (λ (ne : s ≡ d.stream_identifier → ⊥). others s within ne)
          (cases_eq s d.stream_identifier)
      by_live (Some t) e = ⊎_elim
          (λ (a : s ≡ d.stream_identifier).
          subst (λ z. P s (stream_at (cond z (with_stream m d.stream_identifier u) m) s))
          (sym (eq-eqb t.stats.generation d.generation (live (span a) t e)))
          (subst (P s) (sym (at_with m d.stream_identifier s t u e
          ∙ cond-true _ (Some u) (stream_at m s) (eq-eqb s d.stream_identifier a)))
          (subst (λ z. P z (Some u)) (sym a) (some (span a) t e))))
          (λ (ne : s ≡ d.stream_identifier → ⊥).
          cond_both (eqb t.stats.generation d.generation) (with_stream m d.stream_identifier u) m
          (λ (z : StreamMap). P s (stream_at z s))
          (λ c. subst (P s) (sym (at_with m d.stream_identifier s t u e
          ∙ cond-false _ (Some u) (stream_at m s) (ne_eqb s d.stream_identifier ne))) (others s within ne))
          (λ c. others s within ne))
          (cases_eq s d.stream_identifier)
        where
          u : StreamView
          u = released_from (cond d.unordered t (with_ssn_given_back t)) bytes

-- the next numbers of other streams don't move down
steps_aside : (d : Attributes) (s : ℕ) → (s ≡ d.stream_identifier → ⊥) → steps d s ≡ 0
steps_aside d s ne =
    by_order d.unordered (eqb d.stream_identifier s)
    (ne_eqb d.stream_identifier s (λ (e : d.stream_identifier ≡ s). ne (sym e)))
  where
    by_order : (u e : Bool) → e ≡ false → one_if (not u && e) ≡ 0
    by_order true e f = refl
    by_order false true f = absurd (true≢false f)
    by_order false false f = refl

-- and of its own they do, if it is ordered
steps_here : (d : Attributes) → steps d d.stream_identifier ≡ one_if (not d.unordered)
steps_here d =
    by_order d.unordered (eqb d.stream_identifier d.stream_identifier)
    (eq-eqb d.stream_identifier d.stream_identifier refl)
  where
    by_order : (u e : Bool) → e ≡ true → one_if (not u && e) ≡ one_if (not u)
    by_order true e f = refl
    by_order false true f = refl
    by_order false false f = absurd (true≢false (sym f))

-- the stream of the message gives its next ordered one the number that this one had
module _ {n : Names} {high s : ℕ} {t : StreamView} (low by bytes : ℕ) (above : high ≡ low + by)
    (h : IsNumbered n high s t) where
  numbered_down : (unordered : Bool) → by ≡ one_if (not unordered)
      → IsNumbered n low s (released_from (cond unordered t (with_ssn_given_back t)) bytes)
  numbered_down true e = record {
    generation = h.generation;
    ssn = h.ssn ∙ ap (λ z. z % 65536) (let r : high ≡ low = omega (arith, above, e) in r);
  }
  numbered_down false e = record {
    generation = h.generation;
    ssn = wrapped_down t.next_ssn high low by h.ssn above e;
  }

-- it counts the message's bytes no longer
own_down : (p : Plan) (freed s bytes : ℕ) (unordered : Bool) (t : StreamView) → freed + bytes ≤ accepted_bytes p s
    → IsOwnAt p freed s (Some t)
    → IsOwnAt p (freed + bytes) s (Some (released_from (cond unordered t (with_ssn_given_back t)) bytes))
own_down p freed s bytes true t l h = own_less p freed s bytes (Some t) l h
own_down p freed s bytes false t l h = own_less p freed s bytes (Some t) l h

-- The drop

-- an unsent message that isn't reliable is dropped
happens_drop : (w : Direction) (s i : ℕ) → can_drop w.sender s i ≡ true
    → happens w (Event.Drop s i) ≡ record w { sender = machine.dropped w.sender s i }
unfolding happens
happens_drop w s i can =
    cond-true (can_drop w.sender s i) (record w { sender = machine.dropped w.sender s i }) w can

module _ (a : Sending) (k : ℕ) (x : Waiting) (w : Direction) (at : slice_get a.queue.pending k ≡ Some x)
    (fresh : x.begun ≡ false) (inv : Invariant w) (f : FitsOutgoing a w)
    (r : IsFound f.named w.sender.plan (is_unsent w.sender) w.sender.ssn w.sender.current k a.queue.pending x)
    (after : Invariant (record w { sender = machine.dropped w.sender x.message.stream_identifier r.index })) where
  -- nothing of it is in flight
  apart : (o : ℕ) → o < length w.sender.plan.places → (place_at w.sender.plan o).stream ≡ x.message.stream_identifier
      → (place_at w.sender.plan o).message ≡ r.index → ⊥
  apart o l st m =
      let b = (and_parts (has_message w.sender.plan x.message.stream_identifier r.index) _ r.is).1 in
      let c = (and_parts (not (w.sender.begun x.message.stream_identifier r.index)) _ b).0 in
      true≢false (sym (inv.sending.counted o l)
      ∙ ap (λ z. w.sender.begun z (place_at w.sender.plan o).message) st
      ∙ ap (w.sender.begun x.message.stream_identifier) m ∙ not-true _ c)

  -- the bytes that are released are the message's
  bytes_same : message_bytes x
      ≡ length (message_at w.sender.plan x.message.stream_identifier r.index).bytes
  bytes_same = bytes_whole f.named w.sender.plan r.index r.number x r.waits

  -- no more are released than were accepted
  most : w.sender.released x.message.stream_identifier + message_bytes x
      ≤ accepted_bytes w.sender.plan x.message.stream_identifier
  most =
      let all =
      released_within w.sender.plan w.over w.sender.acknowledged
      (put_2 w.sender.gone x.message.stream_identifier r.index) x.message.stream_identifier after.planned in
      let released = after.released x.message.stream_identifier in
      let new =
      at_put w.sender.released x.message.stream_identifier x.message.stream_identifier
      (w.sender.released x.message.stream_identifier
      + length (message_at w.sender.plan x.message.stream_identifier r.index).bytes) refl in
      let same = bytes_same in
      omega arith

  -- a stream that is live within its span is of the message's generation
  generation_same : w.over x.message.stream_identifier ≡ false → (t : StreamView)
      → stream_at a.streams x.message.stream_identifier ≡ Some t
      → t.stats.generation ≡ x.message.generation
  generation_same v t e =
      (f.live x.message.stream_identifier t v e).generation
      ∙ sym (r.waits.message.generation (named_within a w f x.message.stream_identifier v))

  -- each live stream counts on from its next number
  live_now : (s : ℕ) (u : StreamView) → w.over s ≡ false → stream_at (dropped k x a).streams s ≡ Some u
      → IsNumbered f.named (numbers_after w.sender.ssn (without_at k a.queue.pending) s) s u
  live_now s u within there =
      each_given a.streams x.message (message_bytes x) w.over
      (λ s o. (u : StreamView) → o ≡ Some u
      → IsNumbered f.named (numbers_after w.sender.ssn (without_at k a.queue.pending) s) s u)
      generation_same
      (λ s v ne u e.
      let above = (after_without k x w.sender.ssn a.queue.pending at fresh).at s in
      let none = steps_aside x.message s ne in
      record {
        generation = (f.live s u v e).generation;
        ssn =
            (f.live s u v e).ssn
            ∙ ap (λ z. z % 65536)
            (let q : numbers_after w.sender.ssn a.queue.pending s
            ≡ numbers_after w.sender.ssn (without_at k a.queue.pending) s
            = omega arith in q);
      })
      (λ v e u d. absurd (false≢true (ap is_some d)))
      (λ v t e u d.
      subst
      (IsNumbered f.named
      (numbers_after w.sender.ssn (without_at k a.queue.pending) x.message.stream_identifier)
      x.message.stream_identifier)
      (let same : released_from (cond x.message.unordered t (with_ssn_given_back t)) (message_bytes x) ≡ u = cc in same)
      (numbered_down (numbers_after w.sender.ssn (without_at k a.queue.pending) x.message.stream_identifier)
      (steps x.message x.message.stream_identifier) (message_bytes x)
      ((after_without k x w.sender.ssn a.queue.pending at fresh).at x.message.stream_identifier)
      (f.live x.message.stream_identifier t v e) x.message.unordered (steps_here x.message)))
      s within u there

  -- and counts its bytes
  own_now : (s : ℕ) → w.over s ≡ false
      → IsOwnAt w.sender.plan
      ((machine.dropped w.sender x.message.stream_identifier r.index).released s) s
      (stream_at (dropped k x a).streams s)
  own_now =
      each_given a.streams x.message (message_bytes x) w.over
      (λ s o. IsOwnAt w.sender.plan
      ((machine.dropped w.sender x.message.stream_identifier r.index).released s) s o)
      generation_same
      (λ s within ne.
      subst (λ z. IsOwnAt w.sender.plan z s (stream_at a.streams s))
      (sym (off_put w.sender.released x.message.stream_identifier s
      (w.sender.released x.message.stream_identifier
      + length (message_at w.sender.plan x.message.stream_identifier r.index).bytes) ne))
      (f.own_streams s within))
      (λ within e.
      subst
      (IsOwnAt w.sender.plan (w.sender.released x.message.stream_identifier) x.message.stream_identifier) e
      (f.own_streams x.message.stream_identifier within))
      (λ within t e.
      subst
      (λ z. IsOwnAt w.sender.plan z x.message.stream_identifier
      (Some (released_from (cond x.message.unordered t (with_ssn_given_back t)) (message_bytes x))))
      (ap (λ z. w.sender.released x.message.stream_identifier + z) bytes_same
      ∙ sym (at_put w.sender.released x.message.stream_identifier x.message.stream_identifier
      (w.sender.released x.message.stream_identifier
      + length (message_at w.sender.plan x.message.stream_identifier r.index).bytes) refl))
      (own_down w.sender.plan (w.sender.released x.message.stream_identifier) x.message.stream_identifier
      (message_bytes x) x.message.unordered t most
      (subst
      (IsOwnAt w.sender.plan (w.sender.released x.message.stream_identifier) x.message.stream_identifier) e
      (f.own_streams x.message.stream_identifier within))))

  -- what the association is then fits what the sender is then
  fits_now : FitsOutgoing (dropped k x a)
      (record w { sender = machine.dropped w.sender x.message.stream_identifier r.index })
  fits_now = record {
    named = f.named;
    within = f.within;
    names = f.names;
    size = f.size;
    base = f.base;
    flight =
        flight_left f.named w.sender.plan w.sender.acknowledged w.sender.gone x.message.stream_identifier r.index
        apart w.sender.reach a.queue.in_flight f.flight;
    waiting =
        r.kept (is_unsent (machine.dropped w.sender x.message.stream_identifier r.index))
        (unsent_less w.sender x.message.stream_identifier r.index);
    live = live_now;
    own_streams = own_now;
  }

module _ (a : Sending) (k : ℕ) (x : Waiting) (w : Direction) (at : slice_get a.queue.pending k ≡ Some x)
    (fresh : x.begun ≡ false) (unreliable : is_reliable (policy_of x.message.policy) ≡ false) (inv : Invariant w)
    (count : CountsBegun w.sender) (f : FitsOutgoing a w) where
  -- A message that isn't reliable and of which nothing was sent is dropped in the direction too.
  drop_alike : (i : ℕ) × FitsOutgoing (dropped k x a) (happens w (Event.Drop x.message.stream_identifier i))
  drop_alike =
      let r =
      found f.named w.sender.plan (is_unsent w.sender) inv.planned.known k x w.sender.ssn w.sender.current
      a.queue.pending at fresh f.waiting in
      let can : can_drop w.sender x.message.stream_identifier r.index ≡ true =
      and_from (is_unsent w.sender x.message.stream_identifier r.index) _ r.is
      (ap not (ap is_reliable (sym r.waits.message.policy) ∙ unreliable)) in (
        r.index,
        subst (FitsOutgoing (dropped k x a)) (sym (happens_drop w x.message.stream_identifier r.index can))
            (fits_now a k x w at fresh inv f r (keeps_drop w x.message.stream_identifier r.index can inv)),
      )

pub drops_are_alike : DropsAreAlike
drops_are_alike = drop_alike
