-- DATA that comes goes to the stream, or waits for a later generation, as in the course.
use Rattle.std.proofs.Common.{◌≡◌, refl, sym, ap, ap₂, ◌∙◌, subst, ℕ, zero, suc, ◌+◌, ◌≤◌, Bool, true, false, not}
use Rattle.std.proofs.Common.{◌&&◌, ◌||◌, cond, List, [], ◌∷◌, insert, Option, Some, None}
use Rattle.std.proofs.Common.{is_some, arith, eqb, nat_cmp, if◌then◌else◌}
use Rattle.std.specs.BTreeMap.{is_at}
use Rattle.std.specs.Map.{keys_of}
use Rattle.std.proofs.lemmas.Bool.{and_from, cond-true, eq-eqb, false≢true}
use Rattle.sctp_wire_types.specs.declared.chunk.ChunkPayloadData.{ChunkPayloadData}
use Rattle.sctp_receive_queues.specs.Reassembly.{Reassembly, refusal}
use Rattle.sctp_streams.specs.Stream.{StreamView, stream_pushed}
use Rattle.sctp_streams.specs.Streams.{StreamMap, pushed_at, pushed_in, stream_at, with_stream}
use Rattle.sctp_streams.proofs.LowMarks.{at_with}
use Rattle.sctp_generations.specs.Deferred.{is_of, place_of}
use Rattle.sctp_generations.specs.Generations.{GenerationsView, is_hidden, with_deferred}
use Rattle.sctp_reset_requests.specs.Peer.{boundary_for}
use Rattle.sctp_reset_requests.specs.Request.{PeerRequestView}
use Rattle.sctp_resets.proofs.ListsOver.{all_inserted}
use Rattle.sctp_courses.specs.Course.{Course, Live, times}
use Rattle.sctp_courses.specs.Events.{Event, happens, is_behind, is_idle, is_new, kept, taken_in, with_held}
use Rattle.sctp_courses.specs.Events as events
use Rattle.sctp_courses.specs.Invariants.{Invariant}
use Rattle.sctp_reset_fit.specs.Stands.{IsNear, LiveAs, StandsFor, TellsHeld, offset_of, offsets_of}
use Rattle.sctp_reset_fit.proofs.Leading.{leads_same}
use Rattle.sctp_reset_fit.proofs.Once.{set_once}
use Rattle.sctp_reset_fit.proofs.Parted.{up_to_as}
use Rattle.sctp_reset_fit.proofs.Passing.{LeadsToOne, small_boundary}
use Rattle.sctp_reset_fit.proofs.Performing.{retiring_as}

twice : (b : Bool) → not (not b) ≡ b
twice true = refl
twice false = refl

-- offsets with one more, wherever it is put in
offsets_inserted : (initial id : ℕ) (p : ChunkPayloadData) (ds : List ChunkPayloadData) (at o : ℕ)
    → times o (offsets_of initial id (insert ds at p))
    ≤ (if is_of id p then (if eqb (offset_of initial p.tsn) o then 1 else 0) else 0) + times o
    (offsets_of initial id ds)
offsets_inserted initial id p [] at o = by (is_of id p) refl at
  where
    by : (m : Bool) → is_of id p ≡ m → (at : ℕ)
        → times o (offsets_of initial id (insert [] at p))
        ≤ (if is_of id p then (if eqb (offset_of initial p.tsn) o then 1 else 0) else 0) + times o
        (offsets_of initial id [])
    by true e zero = rw e (omega arith)
    by true e (suc at) = rw e (omega arith)
    by false e zero = rw e (omega arith)
    by false e (suc at) = rw e (omega arith)
offsets_inserted initial id p (d ∷ ds) zero o = by (is_of id p) refl
  where
    by : (m : Bool) → is_of id p ≡ m
        → times o (offsets_of initial id (p ∷ d ∷ ds))
        ≤ (if is_of id p then (if eqb (offset_of initial p.tsn) o then 1 else 0) else 0) + times o
        (offsets_of initial id (d ∷ ds))
    by true e = rw e (omega arith)
    by false e = rw e (omega arith)
offsets_inserted initial id p (d ∷ ds) (suc at) o =
    by (is_of id d) refl (offsets_inserted initial id p ds at o)
  where
    n : ℕ
    n = if is_of id p then (if eqb (offset_of initial p.tsn) o then 1 else 0) else 0

    by : (m : Bool) → is_of id d ≡ m
        → times o (offsets_of initial id (insert ds at p)) ≤ n + times o (offsets_of initial id ds)
        → times o (offsets_of initial id (d ∷ insert ds at p)) ≤ n + times o (offsets_of initial id (d ∷ ds))
    by true e l = rw e (omega arith)
    by false e l = rw e l

-- offsets with one more hold each no less often
no_fewer : (n o : ℕ) (os : List ℕ) → times n os ≤ times n (o ∷ os)
no_fewer n o os = by (eqb o n)
  where
    by : (b : Bool) → times n os ≤ (if b then 1 else 0) + times n os
    by true = omega arith
    by false = omega arith

module _ (initial id : ℕ) (P : ChunkPayloadData → Type 0) (IsHeld : Reassembly → List ℕ → Type 0)
    (tells : TellsHeld initial id P IsHeld) (g : GenerationsView) (in_progress : Option PeerRequestView) (c : Course)
    (inv : Invariant c) where
  -- what comes is of a later generation exactly where it is hidden in the course
  pub hidden_as : (m : StreamMap) (t : ℕ) → StandsFor initial id P IsHeld g m in_progress c → IsNear initial t
      → is_hidden g id t (boundary_for in_progress id) ≡ events.is_hidden c (offset_of initial t)
  hidden_as m t h near =
      ap₂ (λ a b. a || b) (retiring_as initial id g.retiring c.marks h.marks)
      (ap not (up_to_as initial id in_progress c h.waits (small_boundary c inv h.near) t near)
      ∙ twice (is_behind c.asked c.performed c.waits (offset_of initial t)))

  idle_now : (m : StreamMap) → StandsFor initial id P IsHeld g m in_progress c → is_idle c ≡ true
  idle_now m h = rw (h.still.1, h.still.2) refl

  -- new DATA of the generation that is read, which its stream does not refuse
  pub takes : (m : StreamMap) (p : ChunkPayloadData) (limit : ℕ) (t : StreamView)
      → StandsFor initial id P IsHeld g m in_progress c → p.stream_identifier ≡ id → P p → IsNear initial p.tsn
      → stream_at m id ≡ Some t → refusal t.reassembly p limit ≡ None
      → is_new c (offset_of initial p.tsn) ≡ true → is_hidden g id p.tsn (boundary_for in_progress id) ≡ false
      → LeadsToOne initial id P IsHeld g (pushed_in m id p).0 in_progress
      (happens c (Event.Takes (offset_of initial p.tsn)))
  takes m p limit t h mine so near is accepted new shown =
      by c.live refl (subst (λ x. LiveAs IsHeld x c.live) is h.live)
    where
      o : ℕ
      o = offset_of initial p.tsn

      put : (pushed_in m id p).0 ≡ with_stream m id (stream_pushed t p).0
      put = ap (λ (x : Option StreamView). (pushed_at x m id p).0) is

      here : stream_at (pushed_in m id p).0 id ≡ Some (stream_pushed t p).0
      here =
          ap (λ n. stream_at n id) put ∙ at_with m id id t (stream_pushed t p).0 is
          ∙ cond-true _ (Some (stream_pushed t p).0) (stream_at m id) (eq-eqb id id refl)

      by : (live : Option Live) → c.live ≡ live → LiveAs IsHeld (Some t) live
          → LeadsToOne initial id P IsHeld g (pushed_in m id p).0 in_progress (happens c (Event.Takes o))
      by None live a = absurd a
      by (Some l) live a = record {
        after = taken_in c o;
        leads = leads_same (happens c (Event.Takes o)) (taken_in c o) is_taken;
        stands = record {
          live = subst (λ x. LiveAs IsHeld x (with_held c.live o)) (sym here)
              (subst (λ x. LiveAs IsHeld (Some (stream_pushed t p).0) (with_held x o)) (sym live) (record {
                generation = a.generation;
                is_open = a.is_open;
                held = tells.pushes t.reassembly l.held p limit so mine accepted a.held;
              }));
          next = subst (λ n. c.next ≤ n.next_generation) (sym put) h.next;
          marks = h.marks;
          kept = h.kept;
          deferred = h.deferred;
          waits = h.waits;
          once_named = h.once_named;
          once_live = subst (λ (n : StreamMap). times id (keys_of n.by_id) ≤ 1) (sym put)
              (set_once id (is_at (nat_cmp id)) (stream_pushed t p).0 m.by_id h.once_live);
          once_marked = h.once_marked;
          open_where_marked = λ some k e. opens some k e;
          near = h.near;
          still = h.still;
        };
        told = ap (λ (d : Course). d.told) (sym is_taken);
      }
        where
          allowed : (is_idle c && (is_new c o && (is_some c.live && not (events.is_hidden c o)))) ≡ true
          allowed =
              and_from (is_idle c) _ (idle_now m h)
              (and_from (is_new c o) _ new
              (and_from (is_some c.live) _ (ap is_some live) (ap not (sym (hidden_as m p.tsn h near) ∙ shown))))

          is_taken : happens c (Event.Takes o) ≡ taken_in c o
          is_taken = ap (λ b. cond b (taken_in c o) c) allowed

          opens : (c.marks ≡ [] → ⊥) → (k : Live) → with_held c.live o ≡ Some k → k.is_open ≡ true
          opens some k e =
              let f : record l { held = o ∷ l.held } ≡ k =
              (let z : with_held (Some l) o ≡ Some k = ap (λ x. with_held x o) (sym live) ∙ e in cc) in
              ap (λ (y : Live). y.is_open) (sym f) ∙ h.open_where_marked some l live

  -- new DATA of that generation, of a live stream to which it does not go
  pub leaves : (m : StreamMap) (p : ChunkPayloadData) (t : StreamView)
      → StandsFor initial id P IsHeld g m in_progress c → IsNear initial p.tsn → stream_at m id ≡ Some t
      → is_new c (offset_of initial p.tsn) ≡ true → is_hidden g id p.tsn (boundary_for in_progress id) ≡ false
      → LeadsToOne initial id P IsHeld g m in_progress (happens c (Event.Takes (offset_of initial p.tsn)))
  leaves m p t h near is new shown = by c.live refl (subst (λ x. LiveAs IsHeld x c.live) is h.live)
    where
      o : ℕ
      o = offset_of initial p.tsn

      by : (live : Option Live) → c.live ≡ live → LiveAs IsHeld (Some t) live
          → LeadsToOne initial id P IsHeld g m in_progress (happens c (Event.Takes o))
      by None live a = absurd a
      by (Some l) live a = record {
        after = taken_in c o;
        leads = leads_same (happens c (Event.Takes o)) (taken_in c o) is_taken;
        stands = record {
          live = subst (λ x. LiveAs IsHeld x (with_held c.live o)) (sym is)
              (subst (λ x. LiveAs IsHeld (Some t) (with_held x o)) (sym live) (record {
                generation = a.generation;
                is_open = a.is_open;
                held = tells.more t.reassembly l.held (o ∷ l.held) (λ n. no_fewer n o l.held) a.held;
              }));
          next = h.next;
          marks = h.marks;
          kept = h.kept;
          deferred = h.deferred;
          waits = h.waits;
          once_named = h.once_named;
          once_live = h.once_live;
          once_marked = h.once_marked;
          open_where_marked = λ some k e. opens some k e;
          near = h.near;
          still = h.still;
        };
        told = ap (λ (d : Course). d.told) (sym is_taken);
      }
        where
          allowed : (is_idle c && (is_new c o && (is_some c.live && not (events.is_hidden c o)))) ≡ true
          allowed =
              and_from (is_idle c) _ (idle_now m h)
              (and_from (is_new c o) _ new
              (and_from (is_some c.live) _ (ap is_some live) (ap not (sym (hidden_as m p.tsn h near) ∙ shown))))

          is_taken : happens c (Event.Takes o) ≡ taken_in c o
          is_taken = ap (λ b. cond b (taken_in c o) c) allowed

          opens : (c.marks ≡ [] → ⊥) → (k : Live) → with_held c.live o ≡ Some k → k.is_open ≡ true
          opens some k e =
              let f : record l { held = o ∷ l.held } ≡ k =
              (let z : with_held (Some l) o ≡ Some k = ap (λ x. with_held x o) (sym live) ∙ e in cc) in
              ap (λ (y : Live). y.is_open) (sym f) ∙ h.open_where_marked some l live

  -- new DATA of a later generation
  pub keeps : (m : StreamMap) (p : ChunkPayloadData) → StandsFor initial id P IsHeld g m in_progress c
      → p.stream_identifier ≡ id → P p → IsNear initial p.tsn → is_new c (offset_of initial p.tsn) ≡ true
      → is_hidden g id p.tsn (boundary_for in_progress id) ≡ true
      → LeadsToOne initial id P IsHeld (with_deferred g p) m in_progress
      (happens c (Event.Keeps (offset_of initial p.tsn)))
  keeps m p h mine so near new hidden = record {
    after = kept c o;
    leads = leads_same (happens c (Event.Keeps o)) (kept c o) is_kept;
    stands = record {
      live = h.live;
      next = h.next;
      marks = h.marks;
      kept =
          all_inserted (λ (q : ChunkPayloadData). P q × IsNear initial q.tsn) g.deferred (place_of p.tsn g.deferred) p
          h.kept (so, near);
      deferred = λ n.
          one_more n (is_of id p) (eq-eqb p.stream_identifier id mine)
          (offsets_inserted initial id p g.deferred (place_of p.tsn g.deferred) n) (h.deferred n);
      waits = h.waits;
      once_named = h.once_named;
      once_live = h.once_live;
      once_marked = h.once_marked;
      open_where_marked = h.open_where_marked;
      near = h.near;
      still = h.still;
    };
    told = ap (λ (d : Course). d.told) (sym is_kept);
  }
    where
      o : ℕ
      o = offset_of initial p.tsn

      one_more : (n : ℕ) (b : Bool) → b ≡ true
          → times n (offsets_of initial id (with_deferred g p).deferred)
          ≤ (if b then (if eqb o n then 1 else 0) else 0) + times n (offsets_of initial id g.deferred)
          → times n (offsets_of initial id g.deferred) ≤ times n c.deferred
          → times n (offsets_of initial id (with_deferred g p).deferred) ≤ times n (o ∷ c.deferred)
      one_more n true e a d = omega arith
      one_more n false e a d = absurd (false≢true e)

      allowed : (is_idle c && (is_new c o && events.is_hidden c o)) ≡ true
      allowed =
          and_from (is_idle c) _ (idle_now m h)
          (and_from (is_new c o) _ new (sym (hidden_as m p.tsn h near) ∙ hidden))

      is_kept : happens c (Event.Keeps o) ≡ kept c o
      is_kept = ap (λ b. cond b (kept c o) c) allowed
