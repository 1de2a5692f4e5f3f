-- A write that an association accepts is a write of its direction.
use Rattle.std.proofs.Common.{ℕ, zero, suc, ◌+◌, ◌<◌, ◌≤◌, ◌≡◌, ◌%◌, ◌^◌, Bool, true, false, not, cond, eqb, ltb, ◌&&◌}
use Rattle.std.proofs.Common.{List, [], ◌∷◌, ◌++◌, length, get_or, Option, Some, None}
use Rattle.std.proofs.Common.{refl, sym, ap, ◌∙◌, subst, ◌⊎◌, ⊎_elim, inl, inr, arith}
use Rattle.std.proofs.lemmas.List.{get_or_append_left, get_or_push, length_push}
use Rattle.std.proofs.lemmas.Bool.{and_from, and_parts, cases_Bool, cases_eq, cond-true, cond-false, eq-eqb, eqb-true}
use Rattle.std.proofs.lemmas.Bool.{false_from_ne_true, false≢true, lt-ltb, ltb-true, ne_eqb}
use Rattle.sctp_wire_types.specs.Ids.{number_of}
use Rattle.sctp_wire_types.specs.declared.ids.PayloadProtocolIdentifier.{PayloadProtocolIdentifier}
use Rattle.sctp_wire_types.specs.declared.ids.PayloadProtocolIdentifier.TheVariants as kinds
use Rattle.sctp_outbound_queue.specs.declared.message.Attributes.{Attributes}
use Rattle.sctp_outbound_queue.specs.Waiting.{Waiting}
use Rattle.sctp_outbound_queue.specs.Message.{accepted}
use Rattle.sctp_outbound_queue.specs.Outbound as queue
use Rattle.sctp_streams.specs.Stream.{StreamView, accepted_by, params_for}
use Rattle.sctp_streams.specs.Streams.{change_at, stream_at, with_stream}
use Rattle.sctp_model.specs.Messages.{Message, Plan, accepted_bytes, as_kept, message_at, no_message, sum_below}
use Rattle.sctp_model.specs.Machine.{Direction, Event, Sender, happens, has_message, is_empty, is_unsent}
use Rattle.sctp_model.specs.Machine.{with_message}
use Rattle.sctp_model.specs.Machine as machine
use Rattle.sctp_model.specs.Invariants.{Invariant}
use Rattle.sctp_model.proofs.PlansGrow.{IsExtended, at_put, off_put, message_extended}
use Rattle.sctp_fit.specs.Outgoing.{AreNames, ArePieces, AreWaiting, CountsBegun, FitsOutgoing, IsMessage, IsNumbered}
use Rattle.sctp_fit.specs.Outgoing.{IsOwnAt, IsWaiting, Names, Sending, number_at, numbers_after, numbers_past}
use Rattle.sctp_fit.specs.Outgoing.{policy_of}
use Rattle.sctp_fit.specs.Writes.{IsWritten, WritesAreAccepted, message_on, written}
use Rattle.sctp_fit.proofs.NamesKept.{KeepsMessages, all_waiting_kept, flight_kept}
use Rattle.sctp_fit.proofs.SpansNamed.{not_over}
use Rattle.sctp_fit.proofs.StreamsChanged.{each_with}
use Rattle.sctp_fit.proofs.LastUnsent.{IsOneMore, numbers_push, past_others, waiting_push}

-- The event

-- a message is kept as it was written, since one of the data channel establishment protocol was written so
pub kept_as_written : (t : StreamView) (kind : PayloadProtocolIdentifier) (bytes : List ℕ)
    → as_kept (message_on t kind bytes) ≡ message_on t kind bytes
kept_as_written t kinds.Dcep bytes = refl
kept_as_written t kinds.String bytes = refl
kept_as_written t kinds.Binary bytes = refl
kept_as_written t kinds.StringEmpty bytes = refl
kept_as_written t kinds.BinaryEmpty bytes = refl
kept_as_written t kinds.Unknown bytes = refl

-- a write of at least one byte is accepted
pub happens_write : (w : Direction) (s : ℕ) (m : Message) → 0 < length m.bytes → as_kept m ≡ m
    → happens w (Event.Write s m) ≡ record w { sender = machine.written w.sender s m }
unfolding happens
happens_write w s m some e =
    cond-false (is_empty m) w (record w { sender = machine.written w.sender s (as_kept m) })
    (ne_eqb (length m.bytes) 0 (λ n. omega arith))
    ∙ ap (λ z. record w { sender = machine.written w.sender s z }) e

-- The plan with one message more

-- it is the last one of its stream
message_last : (p : Plan) (s : ℕ) (m : Message) → message_at (with_message p s m) s (length (p.accepted s)) ≡ m
message_last p s m =
    ap (λ z. get_or z (length (p.accepted s)) no_message) (at_put p.accepted s s (p.accepted s ++ m ∷ []) refl)
    ∙ get_or_push (p.accepted s) m no_message (length (p.accepted s)) refl

-- its stream has one more
longer : (p : Plan) (s t : ℕ) (m : Message) → t ≡ s
    → length ((with_message p s m).accepted t) ≡ suc (length (p.accepted s))
longer p s t m e =
    ap length (at_put p.accepted s t (p.accepted s ++ m ∷ []) e)
    ∙ (let n : length (p.accepted s ++ m ∷ []) ≡ suc (length (p.accepted s))
    = omega (arith, length_push (p.accepted s) m) in n)

-- and each other as many
as_long : (p : Plan) (s t : ℕ) (m : Message) → (t ≡ s → ⊥)
    → length ((with_message p s m).accepted t) ≡ length (p.accepted t)
as_long p s t m ne = ap length (off_put p.accepted s t (p.accepted s ++ m ∷ []) ne)

-- a message of the stream is the new one, or was accepted before
new_or_old : (p : Plan) (s t i : ℕ) (m : Message) → i < length ((with_message p s m).accepted t)
    → ((t ≡ s) × (i ≡ length (p.accepted s))) ⊎ (i < length (p.accepted t))
new_or_old p s t i m l = ⊎_elim
    (λ (e : t ≡ s).
    let a = longer p s t m e in
    let b = ap (λ z. length (p.accepted z)) e in
    ⊎_elim
    (λ (f : i ≡ length (p.accepted s)). inl (e, f))
    (λ (ne : i ≡ length (p.accepted s) → ⊥). inr (omega arith))
    (cases_eq i (length (p.accepted s))))
    (λ (ne : t ≡ s → ⊥). let a = as_long p s t m ne in inr (omega arith))
    (cases_eq t s)

-- the bytes of a list
bytes_in : List Message → ℕ
bytes_in ms = sum_below (λ i. length (get_or ms i no_message).bytes) (length ms)

-- those of its first n messages are as they were
bytes_front : (ms : List Message) (m : Message) (n : ℕ) → n ≤ length ms
    → sum_below (λ i. length (get_or (ms ++ m ∷ []) i no_message).bytes) n
    ≡ sum_below (λ i. length (get_or ms i no_message).bytes) n
bytes_front ms m zero l = refl
bytes_front ms m (suc n) l =
    let r = bytes_front ms m n (omega arith) in
    let here = ap (λ z. length z.bytes) (get_or_append_left ms (m ∷ []) no_message n (omega arith)) in
    omega arith

-- the bytes of a list with one message more
bytes_push : (ms : List Message) (m : Message) → bytes_in (ms ++ m ∷ []) ≡ bytes_in ms + length m.bytes
unfolding bytes_in
bytes_push ms m =
    let n : length (ms ++ m ∷ []) ≡ suc (length ms) = omega (arith, length_push ms m) in
    let front = bytes_front ms m (length ms) (omega arith) in
    let last = ap (λ z. length z.bytes) (get_or_push ms m no_message (length ms) refl) in
    ap (sum_below (λ i. length (get_or (ms ++ m ∷ []) i no_message).bytes)) n ∙ omega arith

-- the bytes accepted on a stream are those of its messages
accepted_in : (p : Plan) (s : ℕ) (ms : List Message) → p.accepted s ≡ ms → accepted_bytes p s ≡ bytes_in ms
unfolding bytes_in
accepted_in p s ms e = ap (λ (z : List Message). sum_below (λ i. length (get_or z i no_message).bytes) (length z)) e

-- Names

-- the message that is written next on the stream s has the identifier `next`
abbrev named_more : Names → Plan → ℕ → ℕ → Names
named_more n p s next = record n {
  ids = λ t i. cond (eqb t s && eqb i (length (p.accepted s))) next (n.ids t i);
}

module _ (n : Names) (p : Plan) (s next : ℕ) (m : Message) where
  id_new : (t i : ℕ) → t ≡ s → i ≡ length (p.accepted s) → (named_more n p s next).ids t i ≡ next
  id_new t i e f = cond-true _ next (n.ids t i) (and_from _ _ (eq-eqb t s e) (eq-eqb i (length (p.accepted s)) f))

  id_old : (t i : ℕ) → i < length (p.accepted t) → (named_more n p s next).ids t i ≡ n.ids t i
  id_old t i l = cond-false _ next (n.ids t i)
      (false_from_ne_true (eqb t s && eqb i (length (p.accepted s)))
      (λ (b : (eqb t s && eqb i (length (p.accepted s))) ≡ true).
      let c = and_parts (eqb t s) (eqb i (length (p.accepted s))) b in
      let d = ap (λ z. length (p.accepted z)) (eqb-true t s c.0) in
      let e = eqb-true i (length (p.accepted s)) c.1 in
      omega arith))

  -- each message has an identifier of its own again
  names_more : AreNames n p next → AreNames (named_more n p s next) (with_message p s m) (next + 1)
  names_more h = record { below = below; one = one }
    where
      below : (t i : ℕ) → i < length ((with_message p s m).accepted t)
          → (named_more n p s next).ids t i < next + 1
      below t i l = ⊎_elim
          (λ (new : (t ≡ s) × (i ≡ length (p.accepted s))). let a = id_new t i new.0 new.1 in omega arith)
          (λ (old : i < length (p.accepted t)). let a = id_old t i old in let b = h.below t i old in omega arith)
          (new_or_old p s t i m l)

      one : (t i u j : ℕ) → i < length ((with_message p s m).accepted t)
          → j < length ((with_message p s m).accepted u)
          → (named_more n p s next).ids t i ≡ (named_more n p s next).ids u j → (t ≡ u) × (i ≡ j)
      one t i u j l k e = ⊎_elim
          (λ (new : (t ≡ s) × (i ≡ length (p.accepted s))).
          ⊎_elim
          (λ (too : (u ≡ s) × (j ≡ length (p.accepted s))). (new.0 ∙ sym too.0, new.1 ∙ sym too.1))
          (λ (old : j < length (p.accepted u)).
          let a = id_new t i new.0 new.1 in
          let b = id_old u j old in
          let c = h.below u j old in
          absurd (omega arith))
          (new_or_old p s u j m k))
          (λ (old : i < length (p.accepted t)).
          ⊎_elim
          (λ (new : (u ≡ s) × (j ≡ length (p.accepted s))).
          let a = id_new u j new.0 new.1 in
          let b = id_old t i old in
          let c = h.below t i old in
          absurd (omega arith))
          (λ (too : j < length (p.accepted u)).
          h.one t i u j old too (sym (id_old t i old) ∙ e ∙ id_old u j too))
          (new_or_old p s u j m k))
          (new_or_old p s t i m l)

  -- and those before the one that they had
  keeps_more : IsExtended p (with_message p s m)
      → KeepsMessages n (named_more n p s next) p (with_message p s m)
  keeps_more e = record {
    size = refl;
    known = λ t i l. let a = e.longer t in omega arith;
    ids = id_old;
    generations = λ t i l. refl;
    within = λ t v. v;
    messages = e.messages;
  }

-- What is unsent

-- below the next number is what is below this one, and this one
ltb_next : (i n : ℕ) → (i ≡ n → ⊥) → ltb i (suc n) ≡ ltb i n
ltb_next i n ne = ⊎_elim
    (λ (b : ltb i n ≡ true). let l = ltb-true i n b in lt-ltb i (suc n) (omega arith) ∙ sym b)
    (λ (b : ltb i n ≡ false).
    false_from_ne_true (ltb i (suc n))
    (λ (c : ltb i (suc n) ≡ true).
    let l = ltb-true i (suc n) c in
    false≢true (sym b ∙ lt-ltb i n (omega arith)))
    ∙ sym b)
    (cases_Bool (ltb i n))

-- the message that was written is unsent, and each other one as it was
unsent_written : (y : Sender) (s : ℕ) (m : Message) → CountsBegun y
    → ((t i : ℕ) → y.gone t i ≡ true → i < length (y.plan.accepted t))
    → IsOneMore (is_unsent y) (is_unsent (machine.written y s m)) s (length (y.plan.accepted s))
unsent_written y s m count known = record {
  below = λ i h. ltb-true i (length (y.plan.accepted s)) (and_parts (has_message y.plan s i) _ h).0;
  one =
      let more = longer y.plan s s m refl in
      and_from _ _ (lt-ltb (length (y.plan.accepted s)) (length ((with_message y.plan s m).accepted s)) (omega arith))
      (rw (
        false_from_ne_true (y.begun s (length (y.plan.accepted s)))
            (λ (b : y.begun s (length (y.plan.accepted s)) ≡ true).
            let l = count.accepted s (length (y.plan.accepted s)) b in omega arith),
        false_from_ne_true (y.gone s (length (y.plan.accepted s)))
            (λ (b : y.gone s (length (y.plan.accepted s)) ≡ true).
            let l = known s (length (y.plan.accepted s)) b in omega arith),
      ) refl);
  others = λ t i other. ap (λ z. z && (not (y.begun t i) && not (y.gone t i))) (has t i other);
}
  where
    has : (t i : ℕ) → (t ≡ s → i ≡ length (y.plan.accepted s) → ⊥)
        → has_message (with_message y.plan s m) t i ≡ has_message y.plan t i
    has t i other = ⊎_elim
        (λ (e : t ≡ s).
        ap (ltb i) (longer y.plan s t m e) ∙ ltb_next i (length (y.plan.accepted s)) (other e)
        ∙ ap (λ z. ltb i (length (y.plan.accepted z))) (sym e))
        (λ (ne : t ≡ s → ⊥). ap (ltb i) (as_long y.plan s t m ne))
        (cases_eq t s)

-- The message that waits

not_not : (b : Bool) → not (not b) ≡ b
not_not true = refl
not_not false = refl

-- a stream sequence number that wrapped
wrapped_once : (a n : ℕ) → a ≡ n % 65536 → a ≡ a % 65536
wrapped_once a n e = rw e (omega arith)

wrapped_next : (a n : ℕ) → a ≡ n % 65536 → (a + 1) % 2 ^ 16 ≡ suc n % 65536
wrapped_next a n e = rw e (omega arith)

-- the number that a message has which waits is that of its stream, or its own
number_given : (numbers : ℕ → ℕ) (a : Attributes) (next : ℕ) → next ≡ numbers a.stream_identifier % 65536
    → a.stream_sequence_number ≡ next → a.stream_sequence_number ≡ number_at numbers a % 65536
number_given numbers a next e given = ⊎_elim
    (λ (b : a.unordered ≡ true).
    rw b (wrapped_once a.stream_sequence_number (numbers a.stream_identifier) (given ∙ e)))
    (λ (b : a.unordered ≡ false). rw b (given ∙ e))
    (cases_Bool a.unordered)

-- and its stream gives the one behind it next
number_behind : (numbers : ℕ → ℕ) (a : Attributes) (next : ℕ) → next ≡ numbers a.stream_identifier % 65536
    → cond a.unordered next ((next + 1) % 2 ^ 16) ≡ numbers_past numbers a a.stream_identifier % 65536
number_behind numbers a next e = ⊎_elim
    (λ (b : a.unordered ≡ true). rw b e)
    (λ (b : a.unordered ≡ false).
    rw b (wrapped_next next (numbers a.stream_identifier) e
    ∙ ap (λ z. z % 65536) (sym (at_put numbers a.stream_identifier a.stream_identifier
    (suc (numbers a.stream_identifier)) refl))))
    (cases_Bool a.unordered)

-- Streams

-- what a stream counts as buffered hangs on what was accepted on it alone
own_kept : (p q : Plan) (freed s : ℕ) (o : Option StreamView) → q.accepted s ≡ p.accepted s → IsOwnAt p freed s o
    → IsOwnAt q freed s o
own_kept p q freed s None e h = e ∙ h
own_kept p q freed s (Some t) e h =
    h ∙ accepted_in p s (p.accepted s) refl ∙ sym (accepted_in q s (p.accepted s) e)

-- a stream counts the bytes of one message more
own_written : (p : Plan) (freed s : ℕ) (t : StreamView) (kind : PayloadProtocolIdentifier) (m : Message)
    → IsOwnAt p freed s (Some t)
    → IsOwnAt (with_message p s m) freed s (Some (accepted_by t kind (length m.bytes)))
own_written p freed s t kind m h =
    let old = accepted_in p s (p.accepted s) refl in
    let new =
    accepted_in (with_message p s m) s (p.accepted s ++ m ∷ []) (at_put p.accepted s s (p.accepted s ++ m ∷ []) refl) in
    let more = bytes_push (p.accepted s) m in
    omega arith

-- The write

-- the plan after it
abbrev plan_written : Direction → StreamView → PayloadProtocolIdentifier → List ℕ → Waiting → Plan
plan_written w t kind bytes x = with_message w.sender.plan x.message.stream_identifier (message_on t kind bytes)

-- and the names
abbrev names_written : Names → Sending → Direction → Waiting → Names
names_written n a w x = named_more n w.sender.plan x.message.stream_identifier a.queue.next_message_id

module _ (a : Sending) (kind : PayloadProtocolIdentifier) (bytes : List ℕ) (x : Waiting) (t : StreamView)
    (w : Direction) (live : stream_at a.streams x.message.stream_identifier ≡ Some t)
    (is : IsWritten t x.message.stream_identifier a.size kind bytes x) (inv : Invariant w)
    (count : CountsBegun w.sender) (f : FitsOutgoing a w) where
  -- the messages before stay
  keeps : KeepsMessages f.named (names_written f.named a w x) w.sender.plan (plan_written w t kind bytes x)
  keeps =
      keeps_more f.named w.sender.plan x.message.stream_identifier a.queue.next_message_id (message_on t kind bytes)
      (message_extended w.sender.plan x.message.stream_identifier (message_on t kind bytes) inv.planned.known)

  -- its stream was numbered before, if it is within its span
  numbered : w.over x.message.stream_identifier ≡ false
      → IsNumbered f.named (numbers_after w.sender.ssn a.queue.pending x.message.stream_identifier)
      x.message.stream_identifier t
  numbered v = f.live x.message.stream_identifier t v live

  -- the message is its stream's last
  last_written : message_on t kind bytes
      ≡ message_at (plan_written w t kind bytes x) x.message.stream_identifier
      (length (w.sender.plan.accepted x.message.stream_identifier))
  last_written = sym (message_last w.sender.plan x.message.stream_identifier (message_on t kind bytes))

  -- the message waits whole, under its new name
  message_written : IsMessage (names_written f.named a w x) (plan_written w t kind bytes x)
      (length (w.sender.plan.accepted x.message.stream_identifier))
      (number_at (numbers_after w.sender.ssn a.queue.pending) x.message)
      (accepted a.queue.next_message_id x).message
  message_written = record {
    known =
        let l =
        longer w.sender.plan x.message.stream_identifier x.message.stream_identifier (message_on t kind bytes) refl in
        omega arith;
    id =
        sym (id_new f.named w.sender.plan x.message.stream_identifier a.queue.next_message_id
        (message_on t kind bytes) x.message.stream_identifier
        (length (w.sender.plan.accepted x.message.stream_identifier)) refl refl);
    generation = λ v. is.generation ∙ (numbered (not_over a w f x.message.stream_identifier v)).generation;
    ordered =
        is.unordered ∙ sym (not_not (params_for t kind).unordered) ∙ ap (λ z. not z.ordered) last_written;
    ssn = λ v.
        number_given (numbers_after w.sender.ssn a.queue.pending) x.message t.next_ssn
        (numbered (not_over a w f x.message.stream_identifier v)).ssn is.ssn;
    payload_type = ap number_of is.payload_type ∙ ap (λ z. z.payload_type) last_written;
    policy = ap policy_of is.policy ∙ ap (λ z. z.policy) last_written;
  }

  -- so do its pieces
  waits_written : IsWaiting (names_written f.named a w x) (plan_written w t kind bytes x)
      (length (w.sender.plan.accepted x.message.stream_identifier))
      (number_at (numbers_after w.sender.ssn a.queue.pending) x.message) 0 (accepted a.queue.next_message_id x)
  waits_written = record {
    message = message_written;
    pieces =
        subst (λ z. ArePieces w.sender.plan.size z.bytes 0 x.user_data x.rest) last_written
        (subst (λ z. ArePieces z bytes 0 x.user_data x.rest) f.size is.pieces);
  }

  -- it waits behind all that waits
  waiting_written : AreWaiting (names_written f.named a w x) (plan_written w t kind bytes x)
      (is_unsent (machine.written w.sender x.message.stream_identifier (message_on t kind bytes))) w.sender.ssn
      w.sender.current (a.queue.pending ++ accepted a.queue.next_message_id x ∷ [])
  waiting_written =
      waiting_push (accepted a.queue.next_message_id x) refl
      (unsent_written w.sender x.message.stream_identifier (message_on t kind bytes) count
      (λ s i g. (inv.sending.given_up s i g).0))
      w.sender.ssn w.sender.current a.queue.pending waits_written
      (all_waiting_kept keeps (is_unsent w.sender) w.sender.ssn w.sender.current a.queue.pending f.waiting)

  -- the next numbers behind it
  numbers_written : numbers_after w.sender.ssn (a.queue.pending ++ accepted a.queue.next_message_id x ∷ [])
      ≡ numbers_past (numbers_after w.sender.ssn a.queue.pending) x.message
  numbers_written = numbers_push w.sender.ssn a.queue.pending (accepted a.queue.next_message_id x) refl

  -- each stream counts on from there
  live_written : (s : ℕ) (u : StreamView) → w.over s ≡ false
      → stream_at (with_stream a.streams x.message.stream_identifier (accepted_by t kind (length bytes))) s ≡ Some u
      → IsNumbered (names_written f.named a w x)
      (numbers_after w.sender.ssn (a.queue.pending ++ accepted a.queue.next_message_id x ∷ []) s) s u
  live_written =
      each_with a.streams x.message.stream_identifier t (accepted_by t kind (length bytes))
      (λ s o. (u : StreamView) → w.over s ≡ false → o ≡ Some u
      → IsNumbered (names_written f.named a w x)
      (numbers_after w.sender.ssn (a.queue.pending ++ accepted a.queue.next_message_id x ∷ []) s) s u)
      live
      (λ s ne u v e. record {
        generation = (f.live s u v e).generation;
        ssn =
            (f.live s u v e).ssn
            ∙ ap (λ z. z % 65536) (sym (ap (λ (z : ℕ → ℕ). z s) numbers_written
            ∙ past_others (numbers_after w.sender.ssn a.queue.pending) x.message s ne));
      })
      (λ u v e. subst
      (IsNumbered (names_written f.named a w x)
      (numbers_after w.sender.ssn (a.queue.pending ++ accepted a.queue.next_message_id x ∷ [])
      x.message.stream_identifier)
      x.message.stream_identifier)
      (let same : accepted_by t kind (length bytes) ≡ u = cc in same)
      (record {
        generation = (numbered v).generation;
        ssn =
            ap (λ b. cond b t.next_ssn ((t.next_ssn + 1) % 2 ^ 16)) (sym is.unordered)
            ∙ number_behind (numbers_after w.sender.ssn a.queue.pending) x.message t.next_ssn (numbered v).ssn
            ∙ ap (λ (z : ℕ → ℕ). z x.message.stream_identifier % 65536) (sym numbers_written);
      }))

  -- and counts its bytes
  own_streams_written : (s : ℕ) → w.over s ≡ false
      → IsOwnAt (plan_written w t kind bytes x) (w.sender.released s) s
      (stream_at (with_stream a.streams x.message.stream_identifier (accepted_by t kind (length bytes))) s)
  own_streams_written =
      each_with a.streams x.message.stream_identifier t (accepted_by t kind (length bytes))
      (λ s o. w.over s ≡ false → IsOwnAt (plan_written w t kind bytes x) (w.sender.released s) s o)
      live
      (λ s ne within.
      own_kept w.sender.plan (plan_written w t kind bytes x) (w.sender.released s) s (stream_at a.streams s)
      (off_put w.sender.plan.accepted x.message.stream_identifier s
      (w.sender.plan.accepted x.message.stream_identifier ++ message_on t kind bytes ∷ []) ne)
      (f.own_streams s within))
      (λ within.
      own_written w.sender.plan (w.sender.released x.message.stream_identifier) x.message.stream_identifier t kind
      (message_on t kind bytes)
      (subst (IsOwnAt w.sender.plan (w.sender.released x.message.stream_identifier) x.message.stream_identifier) live
      (f.own_streams x.message.stream_identifier within)))

  -- the association fits the direction in which the message was accepted
  fits_written : FitsOutgoing
      (record a {
        streams = with_stream a.streams x.message.stream_identifier (accepted_by t kind (length bytes));
        queue = queue.with_message a.queue x;
      })
      (record w { sender = machine.written w.sender x.message.stream_identifier (message_on t kind bytes) })
  fits_written = record {
    named = names_written f.named a w x;
    within = f.within;
    names =
        names_more f.named w.sender.plan x.message.stream_identifier a.queue.next_message_id (message_on t kind bytes)
        f.names;
    size = f.size;
    base = f.base;
    flight =
        flight_kept keeps w.sender.acknowledged w.sender.gone w.sender.reach a.queue.in_flight refl f.flight;
    waiting = waiting_written;
    live = live_written;
    own_streams = own_streams_written;
  }

module _ (a : Sending) (id : ℕ) (kind : PayloadProtocolIdentifier) (bytes : List ℕ) (x : Waiting) (t : StreamView)
    (w : Direction) (live : stream_at a.streams id ≡ Some t) (some : 0 < length bytes)
    (is : IsWritten t id a.size kind bytes x) (inv : Invariant w) (count : CountsBegun w.sender)
    (f : FitsOutgoing a w) where
  -- A write on a live stream: the direction's sender accepts the message as the stream has it.
  write_accepted : FitsOutgoing (written a id kind (length bytes) x)
      (happens w (Event.Write id (message_on t kind bytes)))
  write_accepted =
      subst (FitsOutgoing (written a id kind (length bytes) x))
      (sym (happens_write w id (message_on t kind bytes) some (kept_as_written t kind bytes)))
      (subst (λ o. FitsOutgoing
      (record a {
        streams = change_at (λ u. accepted_by u kind (length bytes)) o a.streams id;
        queue = queue.with_message a.queue x;
      })
      (record w { sender = machine.written w.sender id (message_on t kind bytes) })) (sym live)
      (on_stream id is.stream live is))
    where
      on_stream : (s : ℕ) → x.message.stream_identifier ≡ s → stream_at a.streams s ≡ Some t
          → IsWritten t s a.size kind bytes x
          → FitsOutgoing
          (record a {
            streams = with_stream a.streams s (accepted_by t kind (length bytes));
            queue = queue.with_message a.queue x;
          })
          (record w { sender = machine.written w.sender s (message_on t kind bytes) })
      on_stream s e = subst (λ (z : ℕ). stream_at a.streams z ≡ Some t → IsWritten t z a.size kind bytes x
          → FitsOutgoing
          (record a {
            streams = with_stream a.streams z (accepted_by t kind (length bytes));
            queue = queue.with_message a.queue x;
          })
          (record w { sender = machine.written w.sender z (message_on t kind bytes) })) e
          (λ l i. fits_written a kind bytes x t w l i inv count f)

pub writes_are_accepted : WritesAreAccepted
writes_are_accepted = write_accepted
