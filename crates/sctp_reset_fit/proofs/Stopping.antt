-- An application that reads a stream no more keeps to the course of each stream.
use Rattle.std.proofs.Common.{◌≡◌, refl, sym, ap, ◌∙◌, subst, subst₂, ℕ, ◌≤◌, Bool, true, false, not, ◌&&◌, cond, eqb}
use Rattle.std.proofs.Common.{is_eq, nat_cmp, if◌then◌else◌, List, [], ◌∷◌, filter, Option, Some, None, is_some, arith}
use Rattle.std.specs.List.{AllByRecursion}
use Rattle.std.specs.BTreeMap.{is_at}
use Rattle.std.proofs.lemmas.Bool.{and_from, cond-true, eq-eqb, eqb-true, true≢false}
use Rattle.sctp_model.proofs.Lists.{all_filter}
use Rattle.sctp_wire_types.specs.Config.{is_rfc}
use Rattle.sctp_wire_types.specs.declared.chunk.ChunkPayloadData.{ChunkPayloadData}
use Rattle.sctp_receive_queues.specs.Reassembly.{empty_reassembly}
use Rattle.sctp_streams.specs.declared.event.Event.{Event as AssociationEvent}
use Rattle.sctp_streams.specs.declared.halves.RecvSendState.{RecvSendState}
use Rattle.sctp_streams.specs.declared.halves.RecvSendState.TheVariants as halves
use Rattle.sctp_streams.specs.Events.{is_told_of}
use Rattle.sctp_streams.specs.Stream.{StreamView, is_read_half_open, with_halves, without_read_half, without_unread}
use Rattle.sctp_streams.specs.Streams.{StreamMap, change_at, changed_stream, stream_at, without_stream}
use Rattle.sctp_streams.proofs.LowMarks.{at_with, found_as}
use Rattle.sctp_generations.specs.Deferred.{is_of}
use Rattle.sctp_generations.specs.Generations as generations
use Rattle.sctp_generations.specs.Generations.{GenerationsView}
use Rattle.sctp_generations.specs.Retiring.{boundaries_at}
use Rattle.sctp_reset_requests.specs.Request.{PeerRequestView}
use Rattle.sctp_resets.specs.Resets.{Beside, ResetsView, ended_unless, is_blocked, is_retiring, reset_or_ended}
use Rattle.sctp_resets.specs.Resets.{stopped_reading, waiting_for, with_generations}
use Rattle.sctp_resets.proofs.StreamsBeside.{changed_apart, ended_apart, removed_apart}
use Rattle.sctp_courses.specs.Course.{Course, Live, is_readable, times}
use Rattle.sctp_courses.specs.Events.{Event, closed_to_reads, is_idle}
use Rattle.sctp_reset_fit.specs.Held.{IsHeldOn}
use Rattle.sctp_reset_fit.specs.Keeping.{KeepsCourse}
use Rattle.sctp_reset_fit.specs.Laws.{LeadsTo, Stands}
use Rattle.sctp_reset_fit.specs.Stands.{IsNear, IsOnce, LiveAs, MarksAs, offsets_of}
use Rattle.sctp_reset_fit.proofs.Keeping.{keeps_then}
use Rattle.sctp_reset_fit.proofs.Leading.{leads_by, leads_nowhere, leads_on}
use Rattle.sctp_reset_fit.proofs.Once.{removed_none, removed_once, set_once}
use Rattle.sctp_reset_fit.proofs.Parted.{offsets_chosen}
use Rattle.sctp_reset_fit.proofs.Piles.{empty_on, more_on}
use Rattle.sctp_reset_fit.proofs.Streams.{changed_keeps, read_half_closed_keeps}

-- Where only this side's requests and what is owed are others

-- The same is kept of generations, and the same request of the peer waits.
pub own_alone_keeps : (P : ChunkPayloadData → Type 0) (initial id : ℕ) (r : ResetsView) (m : StreamMap) (s : ResetsView)
    → s.generations ≡ r.generations → s.peer.in_progress ≡ r.peer.in_progress → KeepsCourse P initial id r m s m
own_alone_keeps P initial id r m s same waits c inv h read = (
  record {
    after = c;
    leads = leads_nowhere c;
    stands = subst₂ (λ (g : GenerationsView) (q : Option PeerRequestView). Stands P initial id g m q c) (sym same)
        (sym waits) h;
    told = refl;
  },
  read,
)

-- A stream is to be reset.
pub waiting_for_keeps : (P : ChunkPayloadData → Type 0) (initial id : ℕ) (r : ResetsView) (m : StreamMap) (k : ℕ)
    → KeepsCourse P initial id r m (waiting_for r k) m
waiting_for_keeps P initial id r m k = own_alone_keeps P initial id r m (waiting_for r k) refl refl

-- One stream of a map changes

-- the number of the next generation stays
changed_next : (f : StreamView → StreamView) (m : StreamMap) (k : ℕ)
    → (changed_stream f m k).next_generation ≡ m.next_generation
changed_next f m k = by (stream_at m k)
  where
    by : (o : Option StreamView) → (change_at f o m k).next_generation ≡ m.next_generation
    by None = refl
    by (Some t) = refl

-- and an identifier is still there at most once
changed_once : (id : ℕ) (f : StreamView → StreamView) (m : StreamMap) (k : ℕ) → IsOnce id m.by_id
    → IsOnce id (changed_stream f m k).by_id
changed_once id f m k once = by (stream_at m k)
  where
    by : (o : Option StreamView) → IsOnce id (change_at f o m k).by_id
    by None = once
    by (Some t) = set_once id (is_at (nat_cmp k)) (f t) m.by_id once

-- a live one is the changed one then
changed_here : (f : StreamView → StreamView) (m : StreamMap) (k : ℕ) (t : StreamView) → stream_at m k ≡ Some t
    → stream_at (changed_stream f m k) k ≡ Some (f t)
changed_here f m k t is =
    ap (λ (o : Option StreamView). stream_at (change_at f o m k) k) is ∙ at_with m k k t (f t) is
    ∙ cond-true _ (Some (f t)) (stream_at m k) (eq-eqb k k refl)

-- where none is live none is live then
changed_gone : (f : StreamView → StreamView) (m : StreamMap) (k : ℕ) → stream_at m k ≡ None
    → stream_at (changed_stream f m k) k ≡ None
changed_gone f m k is = ap (λ (o : Option StreamView). stream_at (change_at f o m k) k) is ∙ is

-- The streams once no more is read of one

-- the read half of a stream closes
abbrev pub with_read_half_closed : StreamMap → ℕ → StreamMap
with_read_half_closed m k = changed_stream (λ s. with_halves s (without_read_half s.halves)) m k

-- and what waits to be read of it is dropped
abbrev pub with_unread_dropped : StreamMap → ℕ → StreamMap
with_unread_dropped m k = changed_stream without_unread (with_read_half_closed m k) k

dropped_next : (m : StreamMap) (k : ℕ) → (with_unread_dropped m k).next_generation ≡ m.next_generation
dropped_next m k =
    changed_next without_unread (with_read_half_closed m k) k
    ∙ changed_next (λ s. with_halves s (without_read_half s.halves)) m k

dropped_once : (id : ℕ) (m : StreamMap) (k : ℕ) → IsOnce id m.by_id → IsOnce id (with_unread_dropped m k).by_id
dropped_once id m k once =
    changed_once id without_unread (with_read_half_closed m k) k
    (changed_once id (λ s. with_halves s (without_read_half s.halves)) m k once)

dropped_apart : (id k : ℕ) → is_eq (nat_cmp id k) ≡ false → (m : StreamMap)
    → stream_at (with_unread_dropped m k) id ≡ stream_at m id
dropped_apart id k apart m =
    changed_apart id k apart without_unread (with_read_half_closed m k)
    ∙ changed_apart id k apart (λ s. with_halves s (without_read_half s.halves)) m

shut : (h : RecvSendState) → is_read_half_open (without_read_half h) ≡ false
shut halves.Closed = refl
shut halves.Readable = refl
shut halves.Writable = refl
shut halves.ReadWritable = refl

-- a live stream is that of the course, closed to reads
dropped_live : (P : ChunkPayloadData → Type 0) (initial id : ℕ) (m : StreamMap) (live : Option Live)
    → LiveAs (IsHeldOn P initial id) (stream_at m id) live
    → LiveAs (IsHeldOn P initial id) (stream_at (with_unread_dropped m id) id) (closed_to_reads live)
dropped_live P initial id m live h = by (stream_at m id) refl live h
  where
    by : (o : Option StreamView) → stream_at m id ≡ o → (live : Option Live) → LiveAs (IsHeldOn P initial id) o live
        → LiveAs (IsHeldOn P initial id) (stream_at (with_unread_dropped m id) id) (closed_to_reads live)
    by None is None a =
        subst (λ (o : Option StreamView). LiveAs (IsHeldOn P initial id) o None)
        (sym (changed_gone without_unread (with_read_half_closed m id) id
        (changed_gone (λ s. with_halves s (without_read_half s.halves)) m id is))) tt
    by None is (Some l) a = absurd a
    by (Some t) is None a = absurd a
    by (Some t) is (Some l) a =
        subst (λ (o : Option StreamView). LiveAs (IsHeldOn P initial id) o (closed_to_reads (Some l)))
        (sym (changed_here without_unread (with_read_half_closed m id) id (with_halves t (without_read_half t.halves))
        (changed_here (λ s. with_halves s (without_read_half s.halves)) m id t is))) (record {
          generation = a.generation;
          is_open = sym (shut t.halves);
          held = more_on P initial id empty_reassembly [] l.held (λ o. omega arith) (empty_on P initial id);
        })

-- What is left of generations once nothing of a stream is

-- of what waited only what is of other streams
few_left : (initial id k : ℕ) (ds : List ChunkPayloadData) (b : Bool) → not (eqb id k) ≡ b → (o : ℕ)
    → times o (offsets_of initial id (filter (λ d. not (is_of k d)) ds))
    ≡ (if b then times o (offsets_of initial id ds) else 0)
few_left initial id k ds b is o =
    offsets_chosen initial id (λ d. not (is_of k d)) (λ o. b) ds (each ds) o
  where
    each : (xs : List ChunkPayloadData)
        → AllByRecursion (λ (d : ChunkPayloadData). is_of id d ≡ true → not (is_of k d) ≡ b) xs
    each [] = tt
    each (d ∷ xs) =
        ((λ mine. ap (λ i. not (eqb i k)) (eqb-true d.stream_identifier id mine) ∙ is), each xs)

-- Another stream

-- nothing of it changes
others_keep : (P : ChunkPayloadData → Type 0) (initial id : ℕ) (r : ResetsView) (m n : StreamMap) (k : ℕ)
    → eqb id k ≡ false
    → stream_at n id ≡ stream_at m id → n.next_generation ≡ m.next_generation
    → (IsOnce id m.by_id → IsOnce id n.by_id)
    → KeepsCourse P initial id r m (with_generations r (generations.discarded r.generations k)) n
others_keep P initial id r m n k apart same next once c inv h read =
    (record { after = c; leads = leads_nowhere c; stands = stands; told = refl }, read)
  where
    g : GenerationsView
    g = r.generations

    stands : Stands P initial id (generations.discarded g k) n r.peer.in_progress c
    stands = record {
      live = subst (λ (o : Option StreamView). LiveAs (IsHeldOn P initial id) o c.live) (sym same) h.live;
      next = subst (λ i. c.next ≤ i) (sym next) h.next;
      marks = subst (λ (o : Option (List ℕ)). MarksAs initial o c.marks)
          (sym (removed_apart id k (found_as id k ∙ apart) g.retiring)) h.marks;
      kept = all_filter (λ (p : ChunkPayloadData). P p × IsNear initial p.tsn) (λ d. not (is_of k d)) g.deferred
          h.kept;
      deferred = λ o.
          subst (λ i. i ≤ times o c.deferred) (sym (few_left initial id k g.deferred true (ap not apart) o))
          (h.deferred o);
      waits = h.waits;
      once_named = h.once_named;
      once_live = once h.once_live;
      once_marked = removed_once id (is_at (nat_cmp k)) g.retiring h.once_marked;
      open_where_marked = h.open_where_marked;
      near = h.near;
      still = h.still;
    }

-- The stream itself

-- a course of which nothing waits and nothing retires, with this live stream
abbrev left_of : Option Live → Course → Course
left_of live c = record c { live = live; marks = []; deferred = [] }

closed_reads : (live : Option Live) → is_readable (closed_to_reads live) ≡ false
closed_reads None = refl
closed_reads (Some l) = refl

-- the application reads it no more, and nothing waits for it any more
leads_to_closed : (c : Course) → is_idle c ≡ true → LeadsTo c (left_of (closed_to_reads c.live) c)
leads_to_closed c idle =
    leads_on c closed (left_of (closed_to_reads c.live) c) (leads_by c closed Event.Closes refl refl)
    (leads_by closed (left_of (closed_to_reads c.live) c) Event.Discards refl
    (ap (λ b. cond b (left_of (closed_to_reads c.live) c) closed) allowed))
  where
    closed : Course
    closed = record c { live = closed_to_reads c.live }

    allowed : (is_idle closed && not (is_readable closed.live)) ≡ true
    allowed = and_from (is_idle closed) (not (is_readable closed.live)) idle (ap not (closed_reads c.live))

-- and it is gone
leads_to_gone : (c : Course) → is_idle c ≡ true → LeadsTo c (left_of None c)
leads_to_gone c idle =
    leads_on c (left_of (closed_to_reads c.live) c) (left_of None c) (leads_to_closed c idle)
    (leads_by (left_of (closed_to_reads c.live) c) (left_of None c) Event.Vanishes refl
    (ap (λ b. cond b (left_of (closed_to_reads c.live) c) (left_of None c)) (closed_reads c.live)))

-- what is kept then stands for it
itself_keeps : (P : ChunkPayloadData → Type 0) (initial id : ℕ) (r : ResetsView) (m n : StreamMap)
    (live : Course → Option Live)
    → ((c : Course) → is_idle c ≡ true → LeadsTo c (left_of (live c) c))
    → ((c : Course) → IsOnce id m.by_id → LiveAs (IsHeldOn P initial id) (stream_at m id) c.live
    → LiveAs (IsHeldOn P initial id) (stream_at n id) (live c))
    → n.next_generation ≡ m.next_generation → (IsOnce id m.by_id → IsOnce id n.by_id)
    → KeepsCourse P initial id r m (with_generations r (generations.discarded r.generations id)) n
itself_keeps P initial id r m n live leads lives next once c inv h read = (
  record { after = left_of (live c) c; leads = leads c idle; stands = stands; told = refl },
  λ some. absurd (some refl),
)
  where
    g : GenerationsView
    g = r.generations

    idle : is_idle c ≡ true
    idle = rw (h.still.1, h.still.2) refl

    stands : Stands P initial id (generations.discarded g id) n r.peer.in_progress (left_of (live c) c)
    stands = record {
      live = lives c h.once_live h.live;
      next = subst (λ i. c.next ≤ i) (sym next) h.next;
      marks = subst (λ (o : Option (List ℕ)). MarksAs initial o [])
          (sym (removed_none id g.retiring h.once_marked)) refl;
      kept = all_filter (λ (p : ChunkPayloadData). P p × IsNear initial p.tsn) (λ d. not (is_of id d)) g.deferred
          h.kept;
      deferred = λ o.
          subst (λ i. i ≤ times o [])
          (sym (few_left initial id id g.deferred false (ap not (eq-eqb id id refl)) o)) (omega arith);
      waits = h.waits;
      once_named = h.once_named;
      once_live = once h.once_live;
      once_marked = removed_once id (is_at (nat_cmp id)) g.retiring h.once_marked;
      open_where_marked = λ some. absurd (some refl);
      near = h.near;
      still = h.still;
    }

-- An application reads a stream no more

-- by the rules of the port it ends, unless it is blocked
abbrev left_unless : Bool → ResetsView → StreamMap → List AssociationEvent → ℕ → Beside
left_unless blocked r m told k =
    ended_unless blocked (with_generations r (generations.discarded r.generations k)) k (with_unread_dropped m k) told

itself_left : (P : ChunkPayloadData → Type 0) (initial id : ℕ) (r : ResetsView) (m : StreamMap)
    (told : List AssociationEvent) (blocked : Bool)
    → KeepsCourse P initial id r m (left_unless blocked r m told id).0 (left_unless blocked r m told id).1
itself_left P initial id r m told true =
    itself_keeps P initial id r m (with_unread_dropped m id) (λ c. closed_to_reads c.live) leads_to_closed
    (λ c once h. dropped_live P initial id m c.live h) (dropped_next m id) (dropped_once id m id)
itself_left P initial id r m told false =
    itself_keeps P initial id r m (without_stream (with_unread_dropped m id) id) (λ c. None) leads_to_gone
    (λ c once h.
    subst (λ (o : Option StreamView). LiveAs (IsHeldOn P initial id) o None)
    (sym (removed_none id (with_unread_dropped m id).by_id (dropped_once id m id once))) tt) (dropped_next m id)
    (λ once. removed_once id (is_at (nat_cmp id)) (with_unread_dropped m id).by_id (dropped_once id m id once))

others_left : (P : ChunkPayloadData → Type 0) (initial id : ℕ) (r : ResetsView) (m : StreamMap)
    (told : List AssociationEvent) (k : ℕ)
    → eqb id k ≡ false → (blocked : Bool)
    → KeepsCourse P initial id r m (left_unless blocked r m told k).0 (left_unless blocked r m told k).1
others_left P initial id r m told k apart true =
    others_keep P initial id r m (with_unread_dropped m k) k apart (dropped_apart id k (found_as id k ∙ apart) m)
    (dropped_next m k) (dropped_once id m k)
others_left P initial id r m told k apart false =
    others_keep P initial id r m (without_stream (with_unread_dropped m k) k) k apart
    (ended_apart id k (found_as id k ∙ apart) (with_unread_dropped m k)
    ∙ dropped_apart id k (found_as id k ∙ apart) m) (dropped_next m k)
    (λ once. removed_once id (is_at (nat_cmp k)) (with_unread_dropped m k).by_id (dropped_once id m k once))

left_keeps : (P : ChunkPayloadData → Type 0) (initial id : ℕ) (r : ResetsView) (m : StreamMap)
    (told : List AssociationEvent) (k : ℕ) (blocked : Bool)
    → KeepsCourse P initial id r m (left_unless blocked r m told k).0 (left_unless blocked r m told k).1
left_keeps P initial id r m told k blocked = by (eqb id k) refl
  where
    by : (b : Bool) → eqb id k ≡ b
        → KeepsCourse P initial id r m (left_unless blocked r m told k).0 (left_unless blocked r m told k).1
    by true e =
        subst (λ i. KeepsCourse P initial id r m (left_unless blocked r m told i).0 (left_unless blocked r m told i).1)
        (eqb-true id k e) (itself_left P initial id r m told blocked)
    by false e = others_left P initial id r m told k e blocked

-- by the rules of the RFCs it ends, unless more of it came; then it is to be reset
abbrev pub left_by : Bool → Bool → Bool → ResetsView → StreamMap → List AssociationEvent → ℕ → Beside
left_by by_rfcs more blocked r m told k =
    if by_rfcs then
    reset_or_ended more (with_generations r (generations.discarded r.generations k)) k (with_unread_dropped m k) told
    else left_unless blocked r m told k

left_by_keeps : (P : ChunkPayloadData → Type 0) (initial id : ℕ) (r : ResetsView) (m : StreamMap)
    (told : List AssociationEvent) (k : ℕ) (by_rfcs more blocked : Bool)
    → KeepsCourse P initial id r m (left_by by_rfcs more blocked r m told k).0
    (left_by by_rfcs more blocked r m told k).1
left_by_keeps P initial id r m told k false more blocked = left_keeps P initial id r m told k blocked
left_by_keeps P initial id r m told k true false blocked = left_keeps P initial id r m told k false
left_by_keeps P initial id r m told k true true blocked = left_keeps P initial id r m told k true

-- No more is read of a stream whose generation ended, and its read half closes with it.
pub stopped_keeps : (P : ChunkPayloadData → Type 0) (initial id : ℕ) (r : ResetsView) (m : StreamMap)
    (told : List AssociationEvent) (k : ℕ)
    → KeepsCourse P initial id r m (stopped_reading k r (with_read_half_closed m k) told).0
    (stopped_reading k r (with_read_half_closed m k) told).1
stopped_keeps P initial id r m told k =
    left_by_keeps P initial id r m (filter (λ e. not (is_told_of k e)) told) k (is_rfc r.own.profile)
    (generations.has_newest r.generations k)
    (is_blocked (with_generations r (generations.discarded r.generations k)) k)

-- What waits to be read of a stream is dropped: the course has no less than is held.
pub unread_dropped_keeps : (P : ChunkPayloadData → Type 0) (initial id : ℕ) (r : ResetsView) (m : StreamMap) (k : ℕ)
    → KeepsCourse P initial id r m r (changed_stream without_unread m k)
unread_dropped_keeps P initial id r m k =
    changed_keeps P initial id r m k without_unread
    (λ t l h. record {
      generation = h.generation;
      is_open = h.is_open;
      held = more_on P initial id empty_reassembly [] l.held (λ o. omega arith) (empty_on P initial id);
    })

-- The read half of a stream closes: one whose generation ended is read no more, and another one is to be reset, and
-- what waits of that is dropped or not.
abbrev pub with_reads_stopped : Bool → ℕ → ResetsView → StreamMap → List AssociationEvent → Beside
with_reads_stopped drops k r m told =
    if is_retiring r k then stopped_reading k r (with_read_half_closed m k) told
    else (waiting_for r k, (if drops then with_unread_dropped m k else with_read_half_closed m k), told)

none_at : (o : Option (List ℕ)) → is_some o ≡ false → o ≡ None
none_at None e = refl
none_at (Some bs) e = absurd (true≢false e)

-- The application stops a stream.
pub stopped_open_keeps : (P : ChunkPayloadData → Type 0) (initial id : ℕ) (r : ResetsView) (m : StreamMap)
    (told : List AssociationEvent) (drops : Bool) (k : ℕ)
    → KeepsCourse P initial id r m (with_reads_stopped drops k r m told).0 (with_reads_stopped drops k r m told).1
stopped_open_keeps P initial id r m told drops k = by (is_retiring r k) refl
  where
    half : is_retiring r k ≡ false → KeepsCourse P initial id r m (waiting_for r k) (with_read_half_closed m k)
    half e = read_half_closed_keeps P initial id r m k (none_at (boundaries_at r.generations.retiring k) e)

    left : (d : Bool) → is_retiring r k ≡ false
        → KeepsCourse P initial id r m (waiting_for r k)
        (if d then with_unread_dropped m k else with_read_half_closed m k)
    left true e =
        keeps_then P initial id r (waiting_for r k) (waiting_for r k) m (with_read_half_closed m k)
        (with_unread_dropped m k) (half e)
        (unread_dropped_keeps P initial id (waiting_for r k) (with_read_half_closed m k) k)
    left false e = half e

    by : (b : Bool) → is_retiring r k ≡ b
        → KeepsCourse P initial id r m
        (cond {A = Beside} b (stopped_reading k r (with_read_half_closed m k) told)
        (waiting_for r k, (if drops then with_unread_dropped m k else with_read_half_closed m k), told)).0
        (cond {A = Beside} b (stopped_reading k r (with_read_half_closed m k) told)
        (waiting_for r k, (if drops then with_unread_dropped m k else with_read_half_closed m k), told)).1
    by true e = stopped_keeps P initial id r m told k
    by false e = left drops e
