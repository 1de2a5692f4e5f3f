-- Of the messages that wait, something was sent of the first one alone, and what is in flight of that one is as it
-- waits: each act of an association keeps it so.
use Rattle.std.proofs.Common.{◌≡◌, refl, ap, ◌∙◌, ◌⊎◌, inl, inr, ℕ, zero, suc, ◌+◌, ◌<◌, ◌≤◌, arith, Bool, true, false}
use Rattle.std.proofs.Common.{if◌then◌else◌, List, [], ◌∷◌, ◌++◌, ◌==◌, drop, eqb, length, map}
use Rattle.std.proofs.Common.{slice_get, slice_set, subst, sym, take, Option, Some, None}
use Rattle.std.specs.List.{AllByRecursion}
use Rattle.std.specs.Prelude.{⊤}
use Rattle.std.proofs.lemmas.Bool.{eqb-false, eqb-true}
use Rattle.sctp_outbound_queue.specs.declared.message.Attributes.{Attributes}
use Rattle.sctp_outbound_queue.specs.declared.message.InFlight.{InFlight}
use Rattle.sctp_outbound_queue.specs.declared.message.Reports.{Reports}
use Rattle.sctp_outbound_queue.specs.declared.message.Retransmission.{Retransmission}
use Rattle.sctp_outbound_queue.specs.declared.message.Retransmission.TheVariants as causes
use Rattle.sctp_outbound_queue.specs.Expiry.{all_started}
use Rattle.sctp_outbound_queue.specs.Message.{accepted, acked, counted_again, flagged, is_of, is_outstanding}
use Rattle.sctp_outbound_queue.specs.Message.{is_reported}
use Rattle.sctp_outbound_queue.specs.Message.{marked_again, marker_of, moved_down, reported_missing, sent_once}
use Rattle.sctp_outbound_queue.specs.Message.{sent_started, share_ssns, started, waiting_started, without_piece}
use Rattle.sctp_outbound_queue.specs.Outbound.{Outbound, all_flagged, changed_from, sent_from}
use Rattle.sctp_outbound_queue.specs.Outbound.{tail_dropped_from}
use Rattle.sctp_outbound_queue.specs.Waiting.{Waiting}
use Rattle.sctp_wire_types.specs.declared.ids.PayloadProtocolIdentifier.{PayloadProtocolIdentifier}
use Rattle.sctp_streams.specs.Stream.{StreamView}
use Rattle.sctp_streams.specs.Streams.{stream_at}
use Rattle.sctp_outbound.specs.GapAcks.{acked_among}
use Rattle.sctp_model.proofs.Lists.{all_get, all_map, all_push, all_weaker}
use Rattle.sctp_fit.specs.Drops.{without_at}
use Rattle.sctp_directions.specs.Acts.{Act, Parts, done, done_all, is_acknowledged_by, message_of, type_on}
use Rattle.sctp_directions.specs.Acts.{with_abandoned, with_dropped, with_tail_abandoned, with_written}

-- What is kept

-- a piece is of a message with an identifier below this one
abbrev pub IsBelow : ℕ → InFlight → Type 0
IsBelow id p = p.message.message_id < id

-- a piece is of an earlier message than this one, or of it as it waits: it is begun, and not abandoned
abbrev pub IsBefore : Waiting → InFlight → Type 0
IsBefore m p =
    (p.message.message_id < m.message.message_id)
    ⊎ ((m.begun ≡ true) × (p.message ≡ m.message) × (p.abandoned ≡ false))

abbrev pub PieceFits : List Waiting → ℕ → InFlight → Type 0
PieceFits [] next p = IsBelow next p
PieceFits (m ∷ ms) next p = IsBefore m p

-- nothing was sent of these messages, and their identifiers ascend, from one on to below the next one
abbrev pub AreBehind : ℕ → List Waiting → ℕ → Type 0
AreBehind from [] next = from ≤ next
AreBehind from (x ∷ xs) next =
    (from ≤ x.message.message_id) × (x.begun ≡ false) × AreBehind (suc x.message.message_id) xs next

abbrev pub RestFits : List Waiting → ℕ → Type 0
RestFits [] next = ⊤
RestFits (m ∷ ms) next = AreBehind (suc m.message.message_id) ms next

-- The first message alone is begun, of what waits, and what is in flight is of it as it waits or of earlier ones.
abbrev pub IsFirstBegun : List Waiting → List InFlight → ℕ → Type 0
IsFirstBegun ms pieces next = AllByRecursion (PieceFits ms next) pieces × RestFits ms next

abbrev pub IsOrderly : Outbound → Type 0
IsOrderly q = IsFirstBegun q.pending q.in_flight q.next_message_id

-- What waits

weaker_behind : (a b : ℕ) (ms : List Waiting) (next : ℕ) → a ≤ b → AreBehind b ms next → AreBehind a ms next
weaker_behind a b [] next less e = omega (arith, less, e)
weaker_behind a b (x ∷ xs) next less (e, begun, rest) = (omega (arith, less, e), begun, rest)

pushed_behind : (from : ℕ) (ms : List Waiting) (next : ℕ) (x : Waiting) → AreBehind from ms next
    → AreBehind from (ms ++ accepted next x ∷ []) (next + 1)
pushed_behind from [] next x e = (e, refl, omega arith)
pushed_behind from (m ∷ ms) next x (e, begun, rest) =
    (e, begun, pushed_behind (suc m.message.message_id) ms next x rest)

started_behind : (now from : ℕ) (ms : List Waiting) (next : ℕ) → AreBehind from ms next
    → AreBehind from (map (waiting_started now) ms) next
started_behind now from [] next e = e
started_behind now from (m ∷ ms) next (e, begun, rest) =
    (e, begun, started_behind now (suc m.message.message_id) ms next rest)

-- a message that moves down keeps its identifier and whether it is begun
moved_one_if : (c : Bool) (m n : Waiting) (from next : ℕ) (ms : List Waiting)
    → n.message.message_id ≡ m.message.message_id → n.begun ≡ m.begun
    → (from ≤ m.message.message_id) × (m.begun ≡ false) × AreBehind (suc m.message.message_id) ms next
    → AreBehind from ((if c then n else m) ∷ ms) next
moved_one_if true m n from next ms id same (e, begun, rest) =
    (subst (λ (z : ℕ). from ≤ z) (sym id) e, same ∙ begun, subst (λ (z : ℕ). AreBehind (suc z) ms next) (sym id) rest)
moved_one_if false m n from next ms id same h = h

pub moved_behind : (a : Attributes) (from : ℕ) (ms : List Waiting) (next : ℕ) → AreBehind from ms next
    → AreBehind from (map (moved_down a) ms) next
moved_behind a from [] next e = e
moved_behind a from (m ∷ ms) next (e, begun, rest) =
    moved_one_if (share_ssns a m.message) m _ from next (map (moved_down a) ms) refl refl
    (e, begun, moved_behind a (suc m.message.message_id) ms next rest)

without_behind : (k from : ℕ) (ms : List Waiting) (next : ℕ) → AreBehind from ms next
    → AreBehind from (without_at k ms) next
without_behind k from [] next e = e
without_behind zero from (m ∷ ms) next (e, begun, rest) =
    moved_behind m.message from ms next
    (weaker_behind from (suc m.message.message_id) ms next (omega (arith, e)) rest)
without_behind (suc k) from (m ∷ ms) next (e, begun, rest) =
    (e, begun, without_behind k (suc m.message.message_id) ms next rest)

-- What is in flight

-- once a message went, what is in flight is of messages up to it, and the next one is not begun
handed_on : (from : ℕ) (ms : List Waiting) (pieces : List InFlight) (next : ℕ) → AreBehind from ms next
    → AllByRecursion (IsBelow from) pieces → IsFirstBegun ms pieces next
handed_on from [] pieces next less below = (
  all_weaker (IsBelow from) (IsBelow next) pieces
      (λ (p : InFlight) (e : p.message.message_id < from). omega (arith, e, less)) below,
  tt,
)
handed_on from (m ∷ ms) pieces next (less, begun, rest) below = (
  all_weaker (IsBelow from) (IsBefore m) pieces
      (λ (p : InFlight) (e : p.message.message_id < from). inl (omega (arith, e, less))) below,
  rest,
)

up_to : (m : Waiting) (p : InFlight) → IsBefore m p → IsBelow (suc m.message.message_id) p
up_to m p (inl e) = omega (arith, e)
up_to m p (inr (begun, same, given)) =
    let id : p.message.message_id ≡ m.message.message_id = ap (λ (a : Attributes). a.message_id) same in
    omega (arith, id)

all_up_to : (m : Waiting) (pieces : List InFlight) → AllByRecursion (IsBefore m) pieces
    → AllByRecursion (IsBelow (suc m.message.message_id)) pieces
all_up_to m pieces all = all_weaker (IsBefore m) (IsBelow (suc m.message.message_id)) pieces (up_to m) all

-- the same message, abandoned or not as before
fits_same : (ms : List Waiting) (next : ℕ) (x y : InFlight) → y.message ≡ x.message → y.abandoned ≡ x.abandoned
    → PieceFits ms next x → PieceFits ms next y
fits_same [] next x y m a e = subst (λ (z : Attributes). z.message_id < next) (sym m) e
fits_same (w ∷ ws) next x y m a (inl e) =
    inl (subst (λ (z : Attributes). z.message_id < w.message.message_id) (sym m) e)
fits_same (w ∷ ws) next x y m a (inr (begun, same, given)) = inr (begun, m ∙ same, a ∙ given)

module _ (ms : List Waiting) (next : ℕ) where
  abbrev Fits : InFlight → Type 0
  Fits p = PieceFits ms next p

  abbrev AllFit : List InFlight → Type 0
  AllFit xs = AllByRecursion (PieceFits ms next) xs

  set_fits : (xs : List InFlight) (index : ℕ) (x : InFlight) → Fits x → AllFit xs → AllFit (slice_set xs index x)
  set_fits [] index x r m = tt
  set_fits (y ∷ ys) zero x r (m, ms) = (r, ms)
  set_fits (y ∷ ys) (suc index) x r (m, ms) = (m, set_fits ys index x r ms)

  counted_fits : (by : Retransmission) (x : InFlight) → Fits x → Fits (counted_again by x)
  counted_fits causes.Timer x e = fits_same ms next x (counted_again causes.Timer x) refl refl e
  counted_fits causes.Fast x e = fits_same ms next x (counted_again causes.Fast x) refl refl e

  -- one that may have changed otherwise
  fits_if : (c : Bool) (x y : InFlight) → y.message ≡ x.message → y.abandoned ≡ x.abandoned → Fits x
      → Fits (if c then y else x)
  fits_if true x y m a e = fits_same ms next x y m a e
  fits_if false x y m a e = e

  all_marked_fit : (xs : List InFlight) → AllFit xs → AllFit (map marked_again xs)
  all_marked_fit [] m = tt
  all_marked_fit (x ∷ xs) (m, ms) = (fits_if (is_outstanding x) x _ refl refl m, all_marked_fit xs ms)

  among_fit : (named : ℕ → Bool) (j : ℕ) (xs : List InFlight) → AllFit xs → AllFit (acked_among named j xs)
  among_fit named j [] m = tt
  among_fit named j (x ∷ xs) (m, ms) = (fits_if (named j) x (acked x) refl refl m, among_fit named (suc j) xs ms)

  drop_fits : (n : ℕ) (xs : List InFlight) → AllFit xs → AllFit (drop n xs)
  drop_fits zero [] m = tt
  drop_fits zero (x ∷ xs) m = m
  drop_fits (suc n) [] m = tt
  drop_fits (suc n) (x ∷ xs) (m, ms) = drop_fits n xs ms

  missing_fit : (r : Reports) (n : ℕ) (xs : List InFlight) → AllFit xs
      → AllFit (map (reported_missing r) (take n xs) ++ drop n xs)
  missing_fit r zero xs m = m
  missing_fit r (suc n) [] m = tt
  missing_fit r (suc n) (x ∷ xs) (m, ms) = (fits_if (is_reported r x) x _ refl refl m, missing_fit r n xs ms)

started_fits : (now : ℕ) (ms : List Waiting) (next : ℕ) (x : InFlight) → PieceFits ms next x
    → PieceFits (map (waiting_started now) ms) next (sent_started now x)
started_fits now [] next x e = e
started_fits now (m ∷ ms) next x (inl e) = inl e
started_fits now (m ∷ ms) next x (inr (begun, same, given)) = inr (begun, ap (started now) same, given)

started_rest : (now : ℕ) (ms : List Waiting) (next : ℕ) → RestFits ms next
    → RestFits (map (waiting_started now) ms) next
started_rest now [] next e = tt
started_rest now (m ∷ ms) next e = started_behind now (suc m.message.message_id) ms next e

-- Acts

pub started_orderly : (now : ℕ) (q : Outbound) → IsOrderly q → IsOrderly (all_started now q)
started_orderly now q (pieces, rest) = (
  all_map (PieceFits (map (waiting_started now) q.pending) q.next_message_id) (sent_started now) q.in_flight
      (all_weaker (PieceFits q.pending q.next_message_id)
      (λ (x : InFlight). PieceFits (map (waiting_started now) q.pending) q.next_message_id (sent_started now x))
      q.in_flight
      (started_fits now q.pending q.next_message_id) pieces),
  started_rest now q.pending q.next_message_id rest,
)

accepted_orderly : (ms : List Waiting) (pieces : List InFlight) (next : ℕ) (x : Waiting) → IsFirstBegun ms pieces next
    → IsFirstBegun (ms ++ accepted next x ∷ []) pieces (next + 1)
accepted_orderly [] pieces next x (below, rest) = (
  all_weaker (IsBelow next) (IsBefore (accepted next x)) pieces
      (λ (p : InFlight) (e : p.message.message_id < next). inl e) below,
  omega arith,
)
accepted_orderly (m ∷ ms) pieces next x (before, rest) =
    (before, pushed_behind (suc m.message.message_id) ms next x rest)

written_orderly : (o : Option StreamView) (p : Parts) (id : ℕ) (named : Option PayloadProtocolIdentifier)
    (bytes : List ℕ) → IsOrderly p.queue → IsOrderly (with_written o p id named bytes).queue
written_orderly None p id named bytes h = h
written_orderly (Some s) p id named bytes h =
    accepted_orderly p.queue.pending p.queue.in_flight p.queue.next_message_id
    (message_of s (type_on s named) p.size id bytes) h

on_its_way : (m : Waiting) (p : InFlight) → IsBefore m p → IsBefore (without_piece m) p
on_its_way m p (inl e) = inl e
on_its_way m p (inr (begun, same, given)) = inr (refl, same, given)

sent_if : (last : Bool) (m : Waiting) (ms : List Waiting) (pieces : List InFlight) (next now : ℕ)
    → IsFirstBegun (m ∷ ms) pieces next
    → IsFirstBegun (if last then ms else without_piece m ∷ ms) (pieces ++ sent_once now m ∷ []) next
sent_if true m ms pieces next now (before, rest) =
    handed_on (suc m.message.message_id) ms (pieces ++ sent_once now m ∷ []) next rest
    (all_push (IsBelow (suc m.message.message_id)) pieces (sent_once now m) (all_up_to m pieces before) (omega arith))
sent_if false m ms pieces next now (before, rest) = (
  all_push (IsBefore (without_piece m)) pieces (sent_once now m)
      (all_weaker (IsBefore m) (IsBefore (without_piece m)) pieces (on_its_way m) before) (inr (refl, refl, refl)),
  rest,
)

sent_orderly : (ms : List Waiting) (q : Outbound) (now : ℕ) → q.pending ≡ ms → IsOrderly q
    → IsOrderly (sent_from ms q now)
sent_orderly [] q now e h = h
sent_orderly (m ∷ ms) q now e h =
    sent_if (length m.rest == 0) m ms q.in_flight q.next_message_id now
    (subst (λ (z : List Waiting). IsFirstBegun z q.in_flight q.next_message_id) e h)

again_orderly : (by : Retransmission) (o : Option InFlight) (q : Outbound) (index : ℕ)
    → slice_get q.in_flight index ≡ o → IsOrderly q → IsOrderly (changed_from (counted_again by) o q index)
again_orderly by None q index e h = h
again_orderly by (Some x) q index e (pieces, rest) =
    let fit : PieceFits q.pending q.next_message_id x =
    all_get (PieceFits q.pending q.next_message_id) q.in_flight index x e pieces in (
      set_fits q.pending q.next_message_id q.in_flight index (counted_again by x)
          (counted_fits q.pending q.next_message_id by x fit) pieces,
      rest,
    )

-- the first message is given up, and a marker stands for what waits of it
gone_orderly : (m : Waiting) (ms : List Waiting) (pieces : List InFlight) (next : ℕ)
    → IsFirstBegun (m ∷ ms) pieces next → IsFirstBegun ms (pieces ++ marker_of m.message ∷ []) next
gone_orderly m ms pieces next (before, rest) =
    handed_on (suc m.message.message_id) ms (pieces ++ marker_of m.message ∷ []) next rest
    (all_push (IsBelow (suc m.message.message_id)) pieces (marker_of m.message) (all_up_to m pieces before)
    (omega arith))

pub tail_orderly : (ms : List Waiting) (q : Outbound) (id : ℕ) → q.pending ≡ ms → IsOrderly q
    → IsOrderly (tail_dropped_from ms q id).0
tail_orderly [] q id e h = h
tail_orderly (m ∷ ms) q id e h =
    tail_if (m.message.message_id == id)
    (record q { pending = ms; in_flight = q.in_flight ++ marker_of m.message ∷ [] }) q _ _
    (gone_orderly m ms q.in_flight q.next_message_id
    (subst (λ (z : List Waiting). IsFirstBegun z q.in_flight q.next_message_id) e h)) h
  where
    tail_if : (c : Bool) (p q : Outbound) (n k : ℕ) → IsOrderly p → IsOrderly q
        → IsOrderly (if◌then◌else◌ {A = Outbound × ℕ} c (p, n) (q, k)).0
    tail_if true p q n k a b = a
    tail_if false p q n k a b = b

-- pieces of one message that are abandoned
below_flagged : (from id : ℕ) (xs : List InFlight) → AllByRecursion (IsBelow from) xs
    → AllByRecursion (IsBelow from) (map (flagged id) xs)
below_flagged from id [] e = tt
below_flagged from id (x ∷ xs) (e, es) = (below_if (is_of id x) x _ refl e, below_flagged from id xs es)
  where
    below_if : (c : Bool) (x y : InFlight) → y.message ≡ x.message → IsBelow from x → IsBelow from (if c then y else x)
    below_if true x y m e = subst (λ (z : Attributes). z.message_id < from) (sym m) e
    below_if false x y m e = e

before_flagged_if : (c : Bool) (m : Waiting) (id : ℕ) (x y : InFlight) → eqb m.message.message_id id ≡ false
    → is_of id x ≡ c → y.message ≡ x.message → IsBefore m x → IsBefore m (if c then y else x)
before_flagged_if true m id x y other own same (inl e) =
    inl (subst (λ (z : Attributes). z.message_id < m.message.message_id) (sym same) e)
before_flagged_if true m id x y other own same (inr (begun, its, given)) =
    let first : x.message.message_id ≡ id = eqb-true x.message.message_id id own in
    let second : x.message.message_id ≡ m.message.message_id = ap (λ (a : Attributes). a.message_id) its in
    absurd (eqb-false m.message.message_id id other (sym second ∙ first))
before_flagged_if false m id x y other own same h = h

before_flagged : (m : Waiting) (id : ℕ) (xs : List InFlight) → eqb m.message.message_id id ≡ false
    → AllByRecursion (IsBefore m) xs → AllByRecursion (IsBefore m) (map (flagged id) xs)
before_flagged m id [] other e = tt
before_flagged m id (x ∷ xs) other (e, es) =
    (before_flagged_if (is_of id x) m id x _ other refl refl e, before_flagged m id xs other es)

-- a message is abandoned, and what waits of it too
module _ (m : Waiting) (ms : List Waiting) (q : Outbound) (id n k : ℕ) (e : q.pending ≡ m ∷ ms) where
  abandoned_if : (c : Bool) → eqb m.message.message_id id ≡ c → IsFirstBegun (m ∷ ms) q.in_flight q.next_message_id
      → IsOrderly (all_flagged id (if◌then◌else◌ {A = Outbound × ℕ} c
      (record q { pending = ms; in_flight = q.in_flight ++ marker_of m.message ∷ [] }, n) (q, k)).0)
  abandoned_if true own (before, rest) =
      handed_on (suc m.message.message_id) ms (map (flagged id) (q.in_flight ++ marker_of m.message ∷ []))
      q.next_message_id rest
      (below_flagged (suc m.message.message_id) id (q.in_flight ++ marker_of m.message ∷ [])
      (all_push (IsBelow (suc m.message.message_id)) q.in_flight (marker_of m.message) (all_up_to m q.in_flight before)
      (omega arith)))
  abandoned_if false own (before, rest) =
      subst (λ (z : List Waiting). IsFirstBegun z (map (flagged id) q.in_flight) q.next_message_id) (sym e)
      (before_flagged m id q.in_flight own before, rest)

abandoned_orderly : (ms : List Waiting) (q : Outbound) (id : ℕ) → q.pending ≡ ms → IsOrderly q
    → IsOrderly (all_flagged id (tail_dropped_from ms q id).0)
abandoned_orderly [] q id e h =
    let own = subst (λ (z : List Waiting). IsFirstBegun z q.in_flight q.next_message_id) e h in
    subst (λ (z : List Waiting). IsFirstBegun z (map (flagged id) q.in_flight) q.next_message_id) (sym e)
    (below_flagged q.next_message_id id q.in_flight own.0, tt)
abandoned_orderly (m ∷ ms) q id e h =
    abandoned_if m ms q id _ _ e (m.message.message_id == id) refl
    (subst (λ (z : List Waiting). IsFirstBegun z q.in_flight q.next_message_id) e h)

given_up_orderly : (o : Option InFlight) (p : Parts) → IsOrderly p.queue → IsOrderly (with_abandoned o p).queue
given_up_orderly None p h = h
given_up_orderly (Some x) p h = abandoned_orderly p.queue.pending p.queue x.message.message_id refl h

tail_given_up_orderly : (o : Option Waiting) (p : Parts) → IsOrderly p.queue
    → IsOrderly (with_tail_abandoned o p).queue
tail_given_up_orderly None p h = h
tail_given_up_orderly (Some x) p h = tail_orderly p.queue.pending p.queue x.message.message_id refl h

-- a message that waits is dropped
dropped_from : (k : ℕ) (ms : List Waiting) (pieces : List InFlight) (next : ℕ)
    → IsFirstBegun ms pieces next → IsFirstBegun (without_at k ms) pieces next
dropped_from k [] pieces next h = h
dropped_from zero (m ∷ ms) pieces next (before, rest) =
    handed_on (suc m.message.message_id) (map (moved_down m.message) ms) pieces next
    (moved_behind m.message (suc m.message.message_id) ms next rest) (all_up_to m pieces before)
dropped_from (suc k) (m ∷ ms) pieces next (before, rest) =
    (before, without_behind k (suc m.message.message_id) ms next rest)

dropped_orderly : (k : ℕ) (o : Option Waiting) (p : Parts) → IsOrderly p.queue
    → IsOrderly (with_dropped k o p).queue
dropped_orderly k None p h = h
dropped_orderly k (Some x) p h = dropped_from k p.queue.pending p.queue.in_flight p.queue.next_message_id h

acknowledged_orderly : (n : ℕ) (missing : Reports) (named : ℕ → Bool) (q : Outbound) → IsOrderly q
    → IsFirstBegun q.pending
    (let xs = drop n (acked_among named 0 q.in_flight) in
    map (reported_missing missing) (take missing.count xs) ++ drop missing.count xs) q.next_message_id
acknowledged_orderly n missing named q (pieces, rest) = (
  missing_fit q.pending q.next_message_id missing missing.count (drop n (acked_among named 0 q.in_flight))
      (drop_fits q.pending q.next_message_id n (acked_among named 0 q.in_flight)
      (among_fit q.pending q.next_message_id named 0 q.in_flight pieces)),
  rest,
)

pub act_orderly : (act : Act) (p : Parts) → IsOrderly p.queue → IsOrderly (done act p).queue
act_orderly (Act.PeerKnown t) p h = h
act_orderly (Act.Opened id first kind) p h = h
act_orderly (Act.Wrote id named bytes) p h = written_orderly (stream_at p.streams id) p id named bytes h
act_orderly (Act.Adjusted id setting) p h = h
act_orderly (Act.SpansEnded ids m) p h = h
act_orderly (Act.Sent at_once now) p h = sent_orderly p.queue.pending p.queue now refl h
act_orderly (Act.SentAgain at_once by index) p h =
    again_orderly by (slice_get p.queue.in_flight index) p.queue index refl h
act_orderly Act.Marked p (pieces, rest) =
    (all_marked_fit p.queue.pending p.queue.next_message_id p.queue.in_flight pieces, rest)
act_orderly (Act.Acknowledged n blocks missing) p h =
    acknowledged_orderly n missing (is_acknowledged_by n blocks) p.queue h
act_orderly (Act.Abandoned index) p h = given_up_orderly (slice_get p.queue.in_flight index) p h
act_orderly Act.TailAbandoned p h = tail_given_up_orderly (slice_get p.queue.pending 0) p h
act_orderly (Act.Dropped k) p h = dropped_orderly k (slice_get p.queue.pending k) p h
act_orderly (Act.Started now) p h = started_orderly now p.queue h
act_orderly Act.Forwarded p h = h
act_orderly (Act.Took piece) p h = h
act_orderly (Act.Deferred piece) p h = h
act_orderly (Act.PassedOver t skipped) p h = h
act_orderly Act.Reported p h = h
act_orderly (Act.WasRead id) p h = h
act_orderly Act.Ended p h = h

pub acts_orderly : (acts : List Act) (p : Parts) → IsOrderly p.queue → IsOrderly (done_all acts p).queue
acts_orderly [] p h = h
acts_orderly (act ∷ acts) p h = acts_orderly acts (done act p) (act_orderly act p h)
