-- A read on one stream keeps the course of every stream.
use Rattle.std.proofs.Common.{◌≡◌, refl, sym, ap, ◌∙◌, subst, ℕ, zero, suc, ◌≤◌, Bool, true, false, not, ◌&&◌, cond}
use Rattle.std.proofs.Common.{eqb}
use Rattle.std.proofs.Common.{List, [], ◌∷◌, fold, map, filter, Option, Some, None, is_some, is_eq, nat_cmp, arith}
use Rattle.std.specs.List.{AllByRecursion}
use Rattle.std.specs.BTreeMap.{is_at}
use Rattle.std.proofs.lemmas.Bool.{and_parts, cond-true, eq-eqb, eqb-true, ne_eqb, true≢false}
use Rattle.sctp_model.proofs.Lists.{all_filter}
use Rattle.sctp_wire_types.specs.declared.chunk.ChunkPayloadData.{ChunkPayloadData}
use Rattle.sctp_receive_queues.specs.Messages.{ReceivedMessage}
use Rattle.sctp_receive_queues.specs.Reassembly.{Reassembly, taken}
use Rattle.sctp_receive_queues.proofs.ReadyMessages.{TakesOne, takes_one}
use Rattle.sctp_streams.specs.declared.setting.Setting.TheVariants as settings
use Rattle.sctp_streams.specs.Stream.{StreamView, is_read_half_open, read_with, stream_read, with_setting}
use Rattle.sctp_streams.specs.Streams.{StreamMap, change_at, changed_stream, read_at, read_in, stream_at, waiting_of}
use Rattle.sctp_streams.specs.Streams.{with_stream}
use Rattle.sctp_streams.proofs.LowMarks.{at_with, found_as}
use Rattle.sctp_generations.specs.declared.skips.KeptSkip.{KeptSkip}
use Rattle.sctp_generations.specs.Deferred.{is_of, is_up_to}
use Rattle.sctp_generations.specs.Generations.{GenerationsView, after_given_to, given_to, readable_end, retires}
use Rattle.sctp_generations.specs.Generations.{skips_given_to}
use Rattle.sctp_generations.specs.Retiring.{boundaries_at, count_at, first_passed_at, forgotten, is_single, passed}
use Rattle.sctp_generations.specs.Retiring.{behind_first, readable_boundary}
use Rattle.sctp_generations.specs.Skips.{is_same, is_skip_of}
use Rattle.sctp_reset_requests.specs.Ids.{has_id}
use Rattle.sctp_reset_requests.specs.Peer.{boundary_of}
use Rattle.sctp_reset_requests.specs.Request.{PeerRequestView}
use Rattle.sctp_resets.specs.Channels.{Channels, channels, delivered, is_write_half_closed}
use Rattle.sctp_resets.specs.Draining.{Reading, drained_out, ended, next_generation_read, passed_once, passed_times}
use Rattle.sctp_resets.specs.Draining.{passed_where, with_write_half}
use Rattle.sctp_resets.specs.Resets.{ResetsView, read_out, with_generations}
use Rattle.sctp_resets.specs.Skips.{Skipping, skips_applied_of}
use Rattle.sctp_resets.proofs.SkipsBeside.{applied_apart, ids_of_skips}
use Rattle.sctp_resets.proofs.StreamsBeside.{all_delivered_apart, both_false, changed_apart, ended_apart, ids_of_data}
use Rattle.sctp_resets.proofs.StreamsBeside.{removed_apart, set_apart, stream_set_apart}
use Rattle.sctp_courses.specs.Course.{Course, times}
use Rattle.sctp_courses.specs.Invariants.{Invariant}
use Rattle.sctp_reset_fit.specs.Keeping.{KeepsCourse}
use Rattle.sctp_reset_fit.specs.Held.{IsHeldOn}
use Rattle.sctp_reset_fit.specs.Laws.{ReadsIt, Stands}
use Rattle.sctp_reset_fit.specs.Stands.{IsNear, IsOnce, IsReadOn, LiveAs, MarksAs, offset_of}
use Rattle.sctp_reset_fit.proofs.Delivered.{all_next, all_once}
use Rattle.sctp_reset_fit.proofs.Keeping.{tells}
use Rattle.sctp_reset_fit.proofs.Leading.{leads_nowhere, leads_on}
use Rattle.sctp_reset_fit.proofs.Once.{removed_once, set_once}
use Rattle.sctp_reset_fit.proofs.Passing.{leads_keep, skips_alike}
use Rattle.sctp_reset_fit.proofs.Proved.{messages_are_read, streams_are_read_out}

-- Of a stream all stays that its course has; of each piece that waits on what was so of all before.
pub record StaysOf (id : ℕ) (Q : ChunkPayloadData → Type 0) (g : GenerationsView) (m : StreamMap) (h : GenerationsView)
    (n : StreamMap) : Type 0 where
  pub live : stream_at n id ≡ stream_at m id
  pub next : m.next_generation ≤ n.next_generation
  pub marks : boundaries_at h.retiring id ≡ boundaries_at g.retiring id
  pub kept : AllByRecursion Q g.deferred → AllByRecursion Q h.deferred
  pub mine : filter (is_of id) h.deferred ≡ filter (is_of id) g.deferred
  pub once_live : IsOnce id m.by_id → IsOnce id n.by_id
  pub once_marked : IsOnce id g.retiring → IsOnce id h.retiring

module _ (id : ℕ) (Q : ChunkPayloadData → Type 0) where
  pub stays_itself : (g : GenerationsView) (m : StreamMap) → StaysOf id Q g m g m
  stays_itself g m = record {
    live = refl;
    next = omega arith;
    marks = refl;
    kept = λ h. h;
    mine = refl;
    once_live = λ h. h;
    once_marked = λ h. h;
  }

  pub stays_on : {f g h : GenerationsView} {k m n : StreamMap} → StaysOf id Q f k g m → StaysOf id Q g m h n
      → StaysOf id Q f k h n
  stays_on a b = record {
    live = b.live ∙ a.live;
    next = (let x = a.next in let y = b.next in omega arith);
    marks = b.marks ∙ a.marks;
    kept = λ h. b.kept (a.kept h);
    mine = b.mine ∙ a.mine;
    once_live = λ h. b.once_live (a.once_live h);
    once_marked = λ h. b.once_marked (a.once_marked h);
  }

  -- the streams alone are others
  pub streams_stay : (g : GenerationsView) (m n : StreamMap) → stream_at n id ≡ stream_at m id
      → n.next_generation ≡ m.next_generation → (IsOnce id m.by_id → IsOnce id n.by_id) → StaysOf id Q g m g n
  streams_stay g m n live next once = record {
    live = live;
    next = omega arith;
    marks = refl;
    kept = λ h. h;
    mine = refl;
    once_live = once;
    once_marked = λ h. h;
  }

  -- a read on the stream that gives nothing
  pub nothing_stays : (g : GenerationsView) (m : StreamMap) → (read_in m id).1 ≡ None
      → StaysOf id Q g m g (read_in m id).0
  nothing_stays g m none = by (stream_at m id) refl none
    where
      by : (o : Option StreamView) → stream_at m id ≡ o → (read_at o m id).1 ≡ None
          → StaysOf id Q g m g (read_at o m id).0
      by None is e = stays_itself g m
      by (Some t) is e =
          streams_stay g m (with_stream m id (stream_read t).0)
          (at_with m id id t (stream_read t).0 is
          ∙ cond-true _ (Some (stream_read t).0) (stream_at m id) (eq-eqb id id refl)
          ∙ ap (λ (s : StreamView). Some s) (same (taken t.reassembly) (takes_one t.reassembly) e)
          ∙ sym is) refl (λ once. set_once id (is_at (nat_cmp id)) (stream_read t).0 m.by_id once)
        where
          same : (x : Reassembly × Option ReceivedMessage) → TakesOne t.reassembly x → (read_with t x).1 ≡ None
              → (read_with t x).0 ≡ t
          same (r, None) left f = ap (λ (q : Reassembly). record t { reassembly = q }) left
          same (r, Some n) left f = absurd (true≢false (ap is_some f))

-- what is so of each piece that waits
abbrev pub IsKeptNear : (ChunkPayloadData → Type 0) → ℕ → ChunkPayloadData → Type 0
IsKeptNear P initial p = P p × IsNear initial p.tsn

-- what stands for a course stands for it then
pub stays_stand : (P : ChunkPayloadData → Type 0) (initial id : ℕ) {g h : GenerationsView} {m n : StreamMap}
    (in_progress : Option PeerRequestView)
    (c : Course) → StaysOf id (IsKeptNear P initial) g m h n → Stands P initial id g m in_progress c
    → Stands P initial id h n in_progress c
stays_stand P initial id in_progress c s a = record {
  live = subst (λ o. LiveAs (IsHeldOn P initial id) o c.live) (sym s.live) a.live;
  next = (let x = a.next in let y = s.next in omega arith);
  marks = subst (λ o. MarksAs initial o c.marks) (sym s.marks) a.marks;
  kept = s.kept a.kept;
  deferred = λ o.
      subst (λ ds. times o (map (λ (p : ChunkPayloadData). offset_of initial p.tsn) ds) ≤ times o c.deferred)
      (sym s.mine) (a.deferred o);
  waits = a.waits;
  once_named = a.once_named;
  once_live = s.once_live a.once_live;
  once_marked = s.once_marked a.once_marked;
  open_where_marked = a.open_where_marked;
  near = a.near;
  still = a.still;
}

-- where all stays that its course has, the course of the stream is kept
pub stays_keeps : (P : ChunkPayloadData → Type 0) (initial id : ℕ)
    (r : ResetsView) {m n : StreamMap} {h : GenerationsView}
    → StaysOf id (IsKeptNear P initial) r.generations m h n → KeepsCourse P initial id r m (with_generations r h) n
stays_keeps P initial id r s c inv a read_on = (
  record {
    after = c;
    leads = leads_nowhere c;
    stands = stays_stand P initial id r.peer.in_progress c s a;
    told = refl;
  },
  read_on,
)

-- One stream is read out, and another one stays

module _ (id k : ℕ) (Q : ChunkPayloadData → Type 0) (other : k ≡ id → ⊥) where
  apart : is_eq (nat_cmp id k) ≡ false
  apart = found_as id k ∙ ne_eqb id k (λ (e : id ≡ k). other (sym e))

  -- a piece of the one is none of the other
  of_other : (d : ChunkPayloadData) → is_of id d ≡ true → is_of k d ≡ false
  of_other d mine =
      ne_eqb d.stream_identifier k
      (λ (e : d.stream_identifier ≡ k). other (sym e ∙ eqb-true d.stream_identifier id mine))

  -- what a test finds to be of the one names no other
  pub chosen_apart : {X : Type 0} (f : X → ℕ) (test : X → Bool) → ((x : X) → test x ≡ true → f x ≡ k) → (xs : List X)
      → has_id id (map f (filter test xs)) ≡ false
  chosen_apart f test h [] = refl
  chosen_apart f test h (x ∷ xs) = by (test x) refl (chosen_apart f test h xs)
    where
      by : (b : Bool) → test x ≡ b → has_id id (map f (filter test xs)) ≡ false
          → has_id id (map f (cond b (x ∷ filter test xs) (filter test xs))) ≡ false
      by true e rest =
          both_false (is_eq (nat_cmp id (f x))) (has_id id (map f (filter test xs)))
          (subst (λ z. is_eq (nat_cmp id z) ≡ false) (sym (h x e)) apart) rest
      by false e rest = rest

  -- where pieces are taken out and none is of the other, its pieces are those that they were
  pub mine_stay : (choose : ChunkPayloadData → Bool) → ((d : ChunkPayloadData) → is_of id d ≡ true → choose d ≡ true)
      → (ds : List ChunkPayloadData) → filter (is_of id) (filter choose ds) ≡ filter (is_of id) ds
  mine_stay choose h [] = refl
  mine_stay choose h (d ∷ ds) = by (is_of id d) refl (choose d) refl (mine_stay choose h ds)
    where
      by : (mine : Bool) → is_of id d ≡ mine → (chosen : Bool) → choose d ≡ chosen
          → filter (is_of id) (filter choose ds) ≡ filter (is_of id) ds
          → filter (is_of id) (filter choose (d ∷ ds)) ≡ filter (is_of id) (d ∷ ds)
      by true e true f rest = rw (f, e) (ap (λ xs. d ∷ xs) rest)
      by true e false f rest = absurd (true≢false (sym (h d e) ∙ f))
      by false e true f rest = rw (f, e) rest
      by false e false f rest = rw (f, e) rest

  -- a read
  pub read_stays : (g : GenerationsView) (m : StreamMap) → StaysOf id Q g m g (read_in m k).0
  read_stays g m = by (stream_at m k)
    where
      by : (o : Option StreamView) → StaysOf id Q g m g (read_at o m k).0
      by None = stays_itself id Q g m
      by (Some t) =
          streams_stay id Q g m (with_stream m k (stream_read t).0)
          (stream_set_apart id k apart m (stream_read t).0) refl
          (λ once. set_once id (is_at (nat_cmp k)) (stream_read t).0 m.by_id once)

  -- its first boundary is passed
  pub passed_stays : (g : GenerationsView) (m : StreamMap)
      → StaysOf id Q g m (record g { retiring = passed g.retiring k }) m
  passed_stays g m = by (is_single (boundaries_at g.retiring k)) (boundaries_at g.retiring k)
    where
      by : (b : Bool) (o : Option (List ℕ))
          → StaysOf id Q g m
          (record g { retiring = cond b (forgotten g.retiring k) (first_passed_at o g.retiring k) }) m
      by true o = record {
        live = refl;
        next = omega arith;
        marks = removed_apart id k apart g.retiring;
        kept = λ h. h;
        mine = refl;
        once_live = λ h. h;
        once_marked = λ once. removed_once id (is_at (nat_cmp k)) g.retiring once;
      }
      by false None = stays_itself id Q g m
      by false (Some bs) = record {
        live = refl;
        next = omega arith;
        marks = set_apart id k apart (behind_first bs) g.retiring;
        kept = λ h. h;
        mine = refl;
        once_live = λ h. h;
        once_marked = λ once. set_once id (is_at (nat_cmp k)) (behind_first bs) g.retiring once;
      }

  -- its write half is closed again
  pub half_stays : (closed : Bool) (g : GenerationsView) (m : StreamMap)
      → StaysOf id Q g m g (with_write_half closed m k)
  half_stays false g m = stays_itself id Q g m
  half_stays true g m =
      streams_stay id Q g m (changed_stream f m k) (changed_apart id k apart f m) (next_of (stream_at m k))
      (once_of (stream_at m k))
    where
      f : StreamView → StreamView
      f s = with_setting s settings.WriteHalfClosed

      next_of : (o : Option StreamView) → (change_at f o m k).next_generation ≡ m.next_generation
      next_of None = refl
      next_of (Some t) = refl

      once_of : (o : Option StreamView) → IsOnce id m.by_id → IsOnce id (change_at f o m k).by_id
      once_of None once = once
      once_of (Some t) once = set_once id (is_at (nat_cmp k)) (f t) m.by_id once

  -- the skips of its generation are applied
  pub skips_stay : (x : Skipping) → StaysOf id Q x.0 x.1 (skips_applied_of x k).0 (skips_applied_of x k).1
  skips_stay (g, m, told) =
      let a = skips_alike id (IsHeldOn Q 0 id) (tells Q 0 id).skips (g, m, told) k in
      record {
        live = applied_apart id k (g, m, told) given;
        next = (let e = a.next in omega arith);
        marks = ap (λ rs. boundaries_at rs id) a.retiring;
        kept = λ h. subst (AllByRecursion Q) (sym a.deferred) h;
        mine = ap (filter (is_of id)) a.deferred;
        once_live = a.once;
        once_marked = λ once. subst (λ rs. IsOnce id rs) (sym a.retiring) once;
      }
    where
      given : has_id id (ids_of_skips (skips_given_to g k)) ≡ false
      given =
          chosen_apart (λ (s : KeptSkip). s.id) (is_skip_of k (readable_boundary g.retiring k))
          (λ s e. eqb-true s.id k (and_parts (eqb s.id k) (is_same s.boundary (readable_boundary g.retiring k)) e).0)
          g.skips

  module _ (first limit : ℕ) (in_progress : Option ℕ) where
    -- what waited for its next generation is given to it
    pub given_stay : (g : GenerationsView) (c : Channels)
        → StaysOf id Q g c.streams (after_given_to g k in_progress)
        (fold (delivered first limit) c (given_to g k in_progress)).streams
    given_stay g c = record {
      live = all_delivered_apart id first limit (given_to g k in_progress) c given;
      next = all_next 0 id Q (IsHeldOn Q 0 id) (tells Q 0 id) first limit (given_to g k in_progress) c;
      marks = refl;
      kept = λ h. all_filter Q (λ d. not (chosen d)) g.deferred h;
      mine = mine_stay (λ d. not (chosen d)) (λ d mine. stays d (of_other d mine)) g.deferred;
      once_live = λ once. all_once id first limit (given_to g k in_progress) c once;
      once_marked = λ h. h;
    }
      where
        chosen : ChunkPayloadData → Bool
        chosen d = is_of k d && is_up_to (readable_end g k in_progress) d.tsn

        given : has_id id (ids_of_data (given_to g k in_progress)) ≡ false
        given =
            chosen_apart (λ (d : ChunkPayloadData). d.stream_identifier) chosen
            (λ d e. eqb-true d.stream_identifier k
            (and_parts (is_of k d) (is_up_to (readable_end g k in_progress) d.tsn) e).0) g.deferred

        stays : (d : ChunkPayloadData) → is_of k d ≡ false → not (chosen d) ≡ true
        stays d e = rw e refl

    -- its next generation is read
    pub next_stays : (g : GenerationsView) (c : Channels)
        → StaysOf id Q g c.streams (next_generation_read first limit k in_progress (g, c)).0
        (next_generation_read first limit k in_progress (g, c)).1.streams
    unfolding next_generation_read
    next_stays g c =
        stays_on id Q gone
        (stays_on id Q (given_stay g (ended c k))
        (stays_on id Q (half_stays (is_write_half_closed c.streams k) rest filled.streams)
        (skips_stay (rest, with_write_half (is_write_half_closed c.streams k) filled.streams k, filled.events))))
      where
        rest : GenerationsView
        rest = after_given_to g k in_progress

        filled : Channels
        filled = fold (delivered first limit) (ended c k) (given_to g k in_progress)

        gone : StaysOf id Q g c.streams g (ended c k).streams
        gone =
            streams_stay id Q g c.streams (ended c k).streams (ended_apart id k apart c.streams) refl
            (λ once. removed_once id (is_at (nat_cmp k)) c.streams.by_id once)

    -- one generation of it is over, or is not
    pub one_stays : (r : Reading)
        → StaysOf id Q r.0 r.1.streams (passed_once first limit k in_progress r).0.0
        (passed_once first limit k in_progress r).0.1.streams
    one_stays (g, c) = by (retires g k && eqb (waiting_of c.streams k) 0)
      where
        left : GenerationsView
        left = record g { retiring = passed g.retiring k }

        by : (b : Bool)
            → StaysOf id Q g c.streams
            (passed_where first limit k in_progress c (cond {A = GenerationsView × Bool} b (left, true) (g, false))).0.0
            (passed_where first limit k in_progress c
            (cond {A = GenerationsView × Bool} b (left, true) (g, false))).0.1.streams
        by true = stays_on id Q (passed_stays g c.streams) (next_stays left c)
        by false = stays_itself id Q g c.streams

    -- one after the other
    pub times_stay : (n : ℕ) (r : Reading)
        → StaysOf id Q r.0 r.1.streams (passed_times n first limit k in_progress r).0
        (passed_times n first limit k in_progress r).1.streams
    times_stay zero r = stays_itself id Q r.0 r.1.streams
    times_stay (suc n) r =
        by (passed_once first limit k in_progress r).1
        (times_stay n (passed_once first limit k in_progress r).0)
      where
        one : Reading
        one = (passed_once first limit k in_progress r).0

        by : (over : Bool)
            → StaysOf id Q one.0 one.1.streams (passed_times n first limit k in_progress one).0
            (passed_times n first limit k in_progress one).1.streams
            → StaysOf id Q r.0 r.1.streams
            (cond {A = Reading} over (passed_times n first limit k in_progress one) one).0
            (cond {A = Reading} over (passed_times n first limit k in_progress one) one).1.streams
        by true more = stays_on id Q (one_stays r) more
        by false more = one_stays r

-- Where generations of one stream that were read to their end are passed, the course of each other one is kept.
pub drained_elsewhere : (P : ChunkPayloadData → Type 0) (initial id first limit k : ℕ) (r : ResetsView) (x : Channels)
    (in_progress : Option ℕ)
    → (k ≡ id → ⊥)
    → KeepsCourse P initial id r x.streams
    (with_generations r (drained_out first limit k in_progress (r.generations, x)).0)
    (drained_out first limit k in_progress (r.generations, x)).1.streams
drained_elsewhere P initial id first limit k r x in_progress other =
    stays_keeps P initial id r
    (times_stay id k (IsKeptNear P initial) other first limit in_progress (count_at r.generations.retiring k)
    (r.generations, x))

-- So it is where one stream is read.
pub reads_elsewhere : (P : ChunkPayloadData → Type 0) (initial id first limit k : ℕ) (r : ResetsView) (x : Channels)
    → (k ≡ id → ⊥)
    → KeepsCourse P initial id r x.streams
    (read_out first limit k r (channels (read_in x.streams k).0 x.events x.to_accept)).0
    (read_out first limit k r (channels (read_in x.streams k).0 x.events x.to_accept)).1.streams
reads_elsewhere P initial id first limit k r x other =
    stays_keeps P initial id r
    (stays_on id (IsKeptNear P initial) (read_stays id k (IsKeptNear P initial) other r.generations x.streams)
    (times_stay id k (IsKeptNear P initial) other first limit (boundary_of r.peer k)
    (count_at r.generations.retiring k)
    (r.generations, channels (read_in x.streams k).0 x.events x.to_accept)))

-- A message that is read on the stream itself is read in its course, and what ended and was read is passed.
pub reads_on : (P : ChunkPayloadData → Type 0) (initial id first limit : ℕ) (r : ResetsView) (x : Channels)
    (message : ReceivedMessage) (t : StreamView)
    (c : Course) → Invariant c → Stands P initial id r.generations x.streams r.peer.in_progress c
    → stream_at x.streams id ≡ Some t → is_read_half_open t.halves ≡ true → (read_in x.streams id).1 ≡ Some message
    → (l : ReadsIt P initial id t.stats.generation message
    (read_out first limit id r (channels (read_in x.streams id).0 x.events x.to_accept)).0.generations
    (read_out first limit id r (channels (read_in x.streams id).0 x.events x.to_accept)).1.streams r.peer.in_progress c)
    × IsReadOn l.after
reads_on P initial id first limit r x message t c inv h is can given =
    let one = messages_are_read P initial id message t r.generations x.streams r.peer.in_progress c inv h is can given
    in
    let all = streams_are_read_out P initial id first limit r.generations
    (channels (read_in x.streams id).0 x.events x.to_accept) r.peer.in_progress one.after
    (leads_keep c one.after one.leads inv) one.stands in (
      record {
        after = all.0.after;
        leads = leads_on c one.after all.0.after one.leads all.0.leads;
        stands = all.0.stands;
        offsets = one.offsets;
        made = one.made;
        told = all.0.told ∙ one.told;
      },
      all.1,
    )

-- A read on it that gives nothing keeps its course.
pub reads_nothing : (P : ChunkPayloadData → Type 0) (initial id first limit : ℕ) (r : ResetsView) (x : Channels)
    → (read_in x.streams id).1 ≡ None
    → KeepsCourse P initial id r x.streams
    (read_out first limit id r (channels (read_in x.streams id).0 x.events x.to_accept)).0
    (read_out first limit id r (channels (read_in x.streams id).0 x.events x.to_accept)).1.streams
reads_nothing P initial id first limit r x none c inv h read_on =
    streams_are_read_out P initial id first limit r.generations
    (channels (read_in x.streams id).0 x.events x.to_accept) r.peer.in_progress c inv
    (stays_stand P initial id r.peer.in_progress c
    (nothing_stays id (IsKeptNear P initial) r.generations x.streams none) h)
