-- The sequence numbers of streams past their span begin again in a direction: its sender's next numbers change, and
-- nothing else does.
use Rattle.std.proofs.Common.{◌≡◌, refl, sym, ap, ◌∙◌, arith, ℕ, suc, ◌%◌, Bool, true, false, eqb, not, ◌&&◌, ◌||◌}
use Rattle.std.proofs.Common.{if◌then◌else◌, drop, filter, is_eq, map, nat_cmp, List, [], ◌∷◌, Option, Some, None}
use Rattle.std.proofs.Math.Seq.{drop-cons, drop-length}
use Rattle.std.proofs.lemmas.Bool.{and_from, and_parts, eq-eqb, eqb-true, false≢true, ne_eqb, not-true, or_parts}
use Rattle.std.proofs.lemmas.Bool.{true≢false}
use Rattle.std.specs.List.{list_any}
use Rattle.sctp_outbound_queue.specs.declared.message.Attributes.{Attributes}
use Rattle.sctp_outbound_queue.specs.declared.message.InFlight.{InFlight}
use Rattle.sctp_outbound_queue.specs.Message.{is_of_stream, is_waiting_of_stream}
use Rattle.sctp_outbound_queue.specs.Outbound.{has_stream}
use Rattle.sctp_outbound_queue.specs.Waiting.{Waiting}
use Rattle.sctp_reset_requests.specs.Ids.{has_id}
use Rattle.sctp_resets.proofs.StreamsBeside.{same_identifier}
use Rattle.sctp_model.specs.Messages.{Place, Plan, no_place, place_at}
use Rattle.sctp_model.specs.Machine.{Direction, Event, can_restart, happens, is_unsent, none_goes_on, none_of, put, run}
use Rattle.sctp_model.specs.Invariants.{Invariant}
use Rattle.sctp_model.proofs.ReceiverEvents.{keeps_restart}
use Rattle.sctp_fit.proofs.BegunCounts.{events_keep_the_count}
use Rattle.sctp_fit.specs.Incoming.{FitsIncoming, Receiving}
use Rattle.sctp_fit.specs.Outgoing.{AreInFlight, AreUnsent, AreWaiting, FitsOutgoing, IsMessage, Names, Sending}
use Rattle.sctp_fit.specs.Outgoing.{number_at, numbers_after, numbers_past}
use Rattle.sctp_directions.specs.Between.{IsSound}

-- the direction, where its sender's next sequence numbers are these
abbrev pub numbered : Direction → (ℕ → ℕ) → Direction
numbered w numbers = record w { sender = record w.sender { ssn = numbers } }

-- the numbers of these streams begin again, one after another, where they can
abbrev pub restarts_of : List ℕ → List Event
restarts_of ids = map (λ (id : ℕ). Event.Restart id) ids

-- the next numbers behind that
abbrev pub anew : List ℕ → Direction → (ℕ → ℕ) → ℕ → ℕ
anew [] w numbers = numbers
anew (id ∷ ids) w numbers = anew ids w (if can_restart w id then put numbers id 0 else numbers)

pub restarts_are : (ids : List ℕ) (w : Direction) (numbers : ℕ → ℕ)
    → run (restarts_of ids) (numbered w numbers) ≡ numbered w (anew ids w numbers)
unfolding happens
restarts_are [] w numbers = refl
restarts_are (id ∷ ids) w numbers =
    ap (run (restarts_of ids)) (one (can_restart w id))
    ∙ restarts_are ids w (if can_restart w id then put numbers id 0 else numbers)
  where
    one : (can : Bool)
        → (if can then numbered w (put numbers id 0) else numbered w numbers)
        ≡ numbered w (if can then put numbers id 0 else numbers)
    one true = refl
    one false = refl

-- Which numbers begin again

put_if : (numbers : ℕ → ℕ) (id s : ℕ) → numbers s ≡ 0 → (here : Bool) → (if here then 0 else numbers s) ≡ 0
put_if numbers id s e true = refl
put_if numbers id s e false = e

zero_if : (can : Bool) (numbers : ℕ → ℕ) (id s : ℕ) → numbers s ≡ 0
    → (if can then put numbers id 0 else numbers) s ≡ 0
zero_if true numbers id s e = put_if numbers id s e (eqb s id)
zero_if false numbers id s e = e

zero_stays : (ids : List ℕ) (w : Direction) (numbers : ℕ → ℕ) (s : ℕ) → numbers s ≡ 0 → anew ids w numbers s ≡ 0
zero_stays [] w numbers s e = e
zero_stays (id ∷ ids) w numbers s e =
    zero_stays ids w (if can_restart w id then put numbers id 0 else numbers) s
    (zero_if (can_restart w id) numbers id s e)

put_here : (numbers : ℕ → ℕ) (s : ℕ) → put numbers s 0 s ≡ 0
put_here numbers s = go (eqb s s) refl
  where
    go : (here : Bool) → eqb s s ≡ here → (if here then 0 else numbers s) ≡ 0
    go true e = refl
    go false e = absurd (true≢false (sym (eq-eqb s s refl) ∙ e))

-- those of each of the streams that can
pub begins_anew : (ids : List ℕ) (w : Direction) (numbers : ℕ → ℕ) (s : ℕ) → has_id s ids ≡ true
    → can_restart w s ≡ true → anew ids w numbers s ≡ 0
begins_anew [] w numbers s has can = absurd (false≢true has)
begins_anew (id ∷ ids) w numbers s has can =
    by (is_eq (nat_cmp s id)) refl has
    (λ is. begins_anew ids w (if can_restart w id then put numbers id 0 else numbers) s is can)
  where
    now : ℕ → ℕ
    now = if can_restart w id then put numbers id 0 else numbers

    here : s ≡ id → now s ≡ 0
    here e =
        ap (λ (z : ℕ). (if can_restart w z then put numbers z 0 else numbers) s) (sym e)
        ∙ ap (λ (c : Bool). (if c then put numbers s 0 else numbers) s) can ∙ put_here numbers s

    by : (b : Bool) → is_eq (nat_cmp s id) ≡ b → (b || has_id s ids) ≡ true
        → (has_id s ids ≡ true → anew ids w now s ≡ 0) → anew ids w now s ≡ 0
    by true same is others = zero_stays ids w now s (here (same_identifier s id same))
    by false apart is others = others is

-- those of no stream within its span
put_apart : (numbers : ℕ → ℕ) (id s : ℕ) (here : Bool) → here ≡ false → (if here then 0 else numbers s) ≡ numbers s
put_apart numbers id s true e = absurd (true≢false e)
put_apart numbers id s false e = refl

apart_if : (w : Direction) (numbers : ℕ → ℕ) (id s : ℕ) → w.over s ≡ false → (can : Bool) → can_restart w id ≡ can
    → (if can then put numbers id 0 else numbers) s ≡ numbers s
apart_if w numbers id s within true can = put_apart numbers id s (eqb s id) (other (eqb s id) refl)
  where
    other : (b : Bool) → eqb s id ≡ b → b ≡ false
    other true e =
        absurd (true≢false (sym (and_parts (w.over id) _ can).0 ∙ ap w.over (sym (eqb-true s id e)) ∙ within))
    other false e = refl
apart_if w numbers id s within false can = refl

pub within_stay : (ids : List ℕ) (w : Direction) (numbers : ℕ → ℕ) (s : ℕ) → w.over s ≡ false
    → anew ids w numbers s ≡ numbers s
within_stay [] w numbers s within = refl
within_stay (id ∷ ids) w numbers s within =
    within_stay ids w (if can_restart w id then put numbers id 0 else numbers) s within
    ∙ apart_if w numbers id s within (can_restart w id) refl

-- of a list the streams of which a test holds are in what is filtered
pub has_filtered : (test : ℕ → Bool) (s : ℕ) (ids : List ℕ) → has_id s ids ≡ true → test s ≡ true
    → has_id s (filter test ids) ≡ true
has_filtered test s [] has holds = absurd (false≢true has)
has_filtered test s (id ∷ ids) has holds =
    by (is_eq (nat_cmp s id)) refl has (λ is. has_filtered test s ids is holds)
  where
    kept : (b c : Bool) → (b ≡ true → c ≡ true) → (b || has_id s (filter test ids)) ≡ true
        → is_eq (nat_cmp s id) ≡ b
        → has_id s (if c then id ∷ filter test ids else filter test ids) ≡ true
    kept true true first is e = rw e refl
    kept true false first is e = absurd (false≢true (first refl))
    kept false true first is e = rw e is
    kept false false first is e = is

    by : (b : Bool) → is_eq (nat_cmp s id) ≡ b → (b || has_id s ids) ≡ true
        → (has_id s ids ≡ true → has_id s (filter test ids) ≡ true) → has_id s (filter test (id ∷ ids)) ≡ true
    by true same is others =
        kept true (test id) (λ t. ap test (sym (same_identifier s id same)) ∙ holds) refl same
    by false apart is others =
        kept false (test id) (λ f. absurd (false≢true f)) (others is) apart

-- What the association has to send

message_numbered : (n : Names) (p : Plan) (i number other : ℕ) (a : Attributes)
    → (n.within a.stream_identifier ≡ true → other ≡ number) → IsMessage n p i number a → IsMessage n p i other a
message_numbered n p i number other a same h = record {
  known = h.known;
  id = h.id;
  generation = h.generation;
  ordered = h.ordered;
  ssn = λ v. h.ssn v ∙ ap (λ (z : ℕ). z % 65536) (sym (same v));
  payload_type = h.payload_type;
  policy = h.policy;
}

-- Of streams within their span the next numbers f and g are the same.
module _ (n : Names) where
  abbrev IsSameWithin : (ℕ → ℕ) → (ℕ → ℕ) → Type 0
  IsSameWithin f g = (s : ℕ) → n.within s ≡ true → g s ≡ f s

  number_if : (unordered : Bool) (f g : ℕ → ℕ) (k s : ℕ) → g s ≡ f s
      → (if unordered then k else g s) ≡ (if unordered then k else f s)
  number_if true f g k s e = refl
  number_if false f g k s e = e

  put_same : (f g : ℕ → ℕ) (t s : ℕ) → IsSameWithin f g → n.within s ≡ true → (here : Bool) → eqb s t ≡ here
      → (if here then suc (g t) else g s) ≡ (if here then suc (f t) else f s)
  put_same f g t s same v true e = ap suc (same t (ap n.within (sym (eqb-true s t e)) ∙ v))
  put_same f g t s same v false e = same s v

  past_if : (unordered : Bool) (f g : ℕ → ℕ) (t : ℕ) → IsSameWithin f g
      → IsSameWithin (if unordered then f else put f t (suc (f t))) (if unordered then g else put g t (suc (g t)))
  past_if true f g t same = same
  past_if false f g t same = λ s v. put_same f g t s same v (eqb s t) refl

  past_same : (f g : ℕ → ℕ) (a : Attributes) → IsSameWithin f g → IsSameWithin (numbers_past f a) (numbers_past g a)
  past_same f g a same = past_if a.unordered f g a.stream_identifier same

  begun_if : (begun : Bool) (f g : ℕ → ℕ) (a : Attributes) → IsSameWithin f g
      → IsSameWithin (if begun then f else numbers_past f a) (if begun then g else numbers_past g a)
  begun_if true f g a same = same
  begun_if false f g a same = past_same f g a same

  after_same : (xs : List Waiting) (f g : ℕ → ℕ) → IsSameWithin f g
      → IsSameWithin (numbers_after f xs) (numbers_after g xs)
  after_same [] f g same = same
  after_same (x ∷ xs) f g same =
      after_same xs (if x.begun then f else numbers_past f x.message) (if x.begun then g else numbers_past g x.message)
      (begun_if x.begun f g x.message same)

  unsent_numbered : (p : Plan) (unsent : ℕ → ℕ → Bool) (from f g : ℕ → ℕ) (xs : List Waiting) → IsSameWithin f g
      → AreUnsent n p unsent from f xs → AreUnsent n p unsent from g xs
  unsent_numbered p unsent from f g [] same h = h
  unsent_numbered p unsent from f g (x ∷ xs) same (i, u, us) = (
    i,
    record {
      waits = record {
        message =
            message_numbered n p i (number_at f x.message) (number_at g x.message) x.message
            (λ v.
            number_if x.message.unordered f g x.message.stream_sequence_number x.message.stream_identifier
            (same x.message.stream_identifier v))
            u.waits.message;
        pieces = u.waits.pieces;
      };
      begun = u.begun;
      is = u.is;
      past = u.past;
      next = u.next;
    },
    unsent_numbered p unsent (put from x.message.stream_identifier (suc i)) (numbers_past f x.message)
        (numbers_past g x.message) xs (past_same f g x.message same) us,
  )

  waiting_numbered : (p : Plan) (unsent : ℕ → ℕ → Bool) (f g : ℕ → ℕ) (current : Option Place) (xs : List Waiting)
      → IsSameWithin f g → AreWaiting n p unsent f current xs → AreWaiting n p unsent g current xs
  waiting_numbered p unsent f g None xs same h = unsent_numbered p unsent (λ s. 0) f g xs same h
  waiting_numbered p unsent f g (Some y) [] same h = h
  waiting_numbered p unsent f g (Some y) (x ∷ xs) same (first, rest) =
      (first, unsent_numbered p unsent (λ s. 0) f g xs same rest)

-- An association fits a direction as its sender where the numbers of streams past their span are others.
pub numbered_out : (a : Sending) (w : Direction) (numbers : ℕ → ℕ)
    → ((s : ℕ) → w.over s ≡ false → numbers s ≡ w.sender.ssn s) → FitsOutgoing a w
    → FitsOutgoing a (numbered w numbers)
numbered_out a w numbers stays f = record {
  named = f.named;
  within = f.within;
  names = record { below = f.names.below; one = f.names.one };
  size = f.size;
  base = f.base;
  flight = f.flight;
  waiting =
      waiting_numbered f.named w.sender.plan (is_unsent w.sender) w.sender.ssn numbers w.sender.current a.queue.pending
      same f.waiting;
  live = λ s t v there.
      let r = f.live s t v there in
      record {
        generation = r.generation;
        ssn =
            r.ssn
            ∙ ap (λ (z : ℕ). z % 65536)
            (sym (after_same f.named a.queue.pending w.sender.ssn numbers same s (f.within s ∙ ap not v)));
      };
  own_streams = f.own_streams;
}
  where
    same : (s : ℕ) → f.named.within s ≡ true → numbers s ≡ w.sender.ssn s
    same s v = stays s (not-true (w.over s) (sym (f.within s) ∙ v))

-- It fits a direction as its receiver whatever the sender's numbers are.
pub numbered_coming : (a : Receiving) (w : Direction) (numbers : ℕ → ℕ) → FitsIncoming a w
    → FitsIncoming a (numbered w numbers)
numbered_coming a w numbers f =
    record { is_open = f.is_open; taken = f.taken; passed = f.passed; queues = f.queues }

-- Which numbers can begin again

-- of places on which no piece of a stream stands none is of the stream
flight_none : (n : Names) (p : Plan) (acknowledged : ℕ → Bool) (gone : ℕ → ℕ → Bool) (s o : ℕ) (xs : List InFlight)
    → AreInFlight n p acknowledged gone o xs → list_any (is_of_stream s) xs ≡ false
    → none_of s (drop o p.places) ≡ true
flight_none n p acknowledged gone s o [] h none =
    ap (λ (z : ℕ). none_of s (drop z p.places)) h ∙ ap (none_of s) (drop-length p.places)
flight_none n p acknowledged gone s o (x ∷ xs) (h, hs) none =
    let parts = or_parts (is_of_stream s x) (list_any (is_of_stream s) xs) none in
    ap (none_of s) (drop-cons p.places o no_place h.known)
    ∙ and_from (not (eqb (place_at p o).stream s)) (none_of s (drop (suc o) p.places))
    (ap (λ (z : ℕ). not (eqb z s)) (sym h.stream) ∙ ap not parts.0)
    (flight_none n p acknowledged gone s (suc o) xs hs parts.1)

waiting_none : (n : Names) (p : Plan) (unsent : ℕ → ℕ → Bool) (numbers : ℕ → ℕ) (s : ℕ) (current : Option Place)
    (xs : List Waiting) → AreWaiting n p unsent numbers current xs → list_any (is_waiting_of_stream s) xs ≡ false
    → none_goes_on s current ≡ true
waiting_none n p unsent numbers s None xs h none = refl
waiting_none n p unsent numbers s (Some y) [] h none = absurd h
waiting_none n p unsent numbers s (Some y) (x ∷ xs) (first, rest) none =
    ap (λ (z : ℕ). not (eqb z s)) (sym first.stream)
    ∙ ap not (or_parts (is_waiting_of_stream s x) (list_any (is_waiting_of_stream s) xs) none).0

-- Where nothing of a stream waits, each of its messages that are unsent would be one behind all that waits, and there
-- is none. Nothing of it was passed on the way, so that this holds from its first message on.
unsent_none : (n : Names) (p : Plan) (unsent : ℕ → ℕ → Bool) (from numbers : ℕ → ℕ) (s : ℕ) (xs : List Waiting)
    → from s ≡ 0 → AreUnsent n p unsent from numbers xs → list_any (is_waiting_of_stream s) xs ≡ false
    → (i : ℕ) → unsent s i ≡ false
unsent_none n p unsent from numbers s [] start h none i = h s i (omega (arith, start))
unsent_none n p unsent from numbers s (x ∷ xs) start (j, u, us) none i =
    let parts = or_parts (is_waiting_of_stream s x) (list_any (is_waiting_of_stream s) xs) none in
    unsent_none n p unsent (put from x.message.stream_identifier (suc j)) (numbers_past numbers x.message) s xs
    (ap (λ (c : Bool). if c then suc j else from s) (apart parts.0) ∙ start) us parts.1 i
  where
    apart : eqb x.message.stream_identifier s ≡ false → eqb s x.message.stream_identifier ≡ false
    apart other =
        ne_eqb s x.message.stream_identifier
        (λ (q : s ≡ x.message.stream_identifier).
        true≢false (sym (eq-eqb x.message.stream_identifier s (sym q)) ∙ other))

waiting_has_none : (n : Names) (p : Plan) (unsent : ℕ → ℕ → Bool) (numbers : ℕ → ℕ) (s : ℕ) (current : Option Place)
    (xs : List Waiting) → AreWaiting n p unsent numbers current xs → list_any (is_waiting_of_stream s) xs ≡ false
    → (i : ℕ) → unsent s i ≡ false
waiting_has_none n p unsent numbers s None xs h none i =
    unsent_none n p unsent (λ z. 0) numbers s xs refl h none i
waiting_has_none n p unsent numbers s (Some y) [] h none i = absurd h
waiting_has_none n p unsent numbers s (Some y) (x ∷ xs) (first, rest) none i =
    unsent_none n p unsent (λ z. 0) numbers s xs refl rest
    (or_parts (is_waiting_of_stream s x) (list_any (is_waiting_of_stream s) xs) none).1 i

-- Of a stream of which no DATA waits or is in flight no message is unsent.
pub quiet_has_none_unsent : (a : Sending) (w : Direction) (s : ℕ) → FitsOutgoing a w → has_stream a.queue s ≡ false
    → (i : ℕ) → is_unsent w.sender s i ≡ false
quiet_has_none_unsent a w s f quiet i =
    let parts =
    or_parts (list_any (is_waiting_of_stream s) a.queue.pending) (list_any (is_of_stream s) a.queue.in_flight) quiet in
    waiting_has_none f.named w.sender.plan (is_unsent w.sender) w.sender.ssn s w.sender.current a.queue.pending
    f.waiting parts.0 i

-- Those of a stream past its span of which no DATA waits or is in flight can.
pub quiet_can_restart : (a : Sending) (w : Direction) (s : ℕ) → FitsOutgoing a w → has_stream a.queue s ≡ false
    → w.over s ≡ true → can_restart w s ≡ true
quiet_can_restart a w s f quiet past =
    let parts =
    or_parts (list_any (is_waiting_of_stream s) a.queue.pending) (list_any (is_of_stream s) a.queue.in_flight) quiet in
    and_from (w.over s) (none_of s (drop w.sender.reach w.sender.plan.places) && none_goes_on s w.sender.current) past
    (and_from (none_of s (drop w.sender.reach w.sender.plan.places)) (none_goes_on s w.sender.current)
    (flight_none f.named w.sender.plan w.sender.acknowledged w.sender.gone s w.sender.reach a.queue.in_flight f.flight
    parts.1)
    (waiting_none f.named w.sender.plan (is_unsent w.sender) w.sender.ssn s w.sender.current a.queue.pending f.waiting
    parts.0))

-- The direction stays sound

restart_if : (w : Direction) (id : ℕ) (can : Bool) → can_restart w id ≡ can → Invariant w
    → Invariant (if can then numbered w (put w.sender.ssn id 0) else w)
restart_if w id true can h = keeps_restart w id can h
restart_if w id false can h = h

restart_keeps : (w : Direction) (id : ℕ) → Invariant w → Invariant (happens w (Event.Restart id))
unfolding happens
restart_keeps w id h = restart_if w id (can_restart w id) refl h

pub restarts_are_sound : (ids : List ℕ) (w : Direction) → IsSound w → IsSound (run (restarts_of ids) w)
restarts_are_sound [] w h = h
restarts_are_sound (id ∷ ids) w h =
    restarts_are_sound ids (happens w (Event.Restart id)) record {
      invariant = restart_keeps w id h.invariant;
      counts = events_keep_the_count w (Event.Restart id) h.invariant h.counts;
    }
