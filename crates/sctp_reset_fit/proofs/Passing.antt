-- A generation that was read to its end is passed, in the streams as in the course.
use Rattle.std.proofs.Common.{◌≡◌, refl, sym, ap, ◌∙◌, subst, ℕ, zero, suc, ◌≤◌, ◌<◌, ◌^◌, Bool, true, false, not}
use Rattle.std.proofs.Common.{◌&&◌, cond, List, [], ◌∷◌, fold, filter, length, Option, Some, None, is_some, arith, eqb}
use Rattle.std.proofs.Common.{⊎_elim, nat_lt, nat_cmp, subst₂, ap₂, if◌then◌else◌}
use Rattle.std.specs.List.{AllByRecursion}
use Rattle.std.specs.BTreeMap.{is_at}
use Rattle.std.proofs.lemmas.List.{get_or_past, length-map}
use Rattle.sctp_courses.specs.Course.{no_request}
use Rattle.sctp_courses.proofs.Steps.{lt_false, lt_true}
use Rattle.std.proofs.lemmas.Bool.{cases_Bool, true≢false, eqb-true}
use Rattle.sctp_model.proofs.Lists.{all_filter, all_weaker}
use Rattle.sctp_wire_types.specs.declared.chunk.ChunkPayloadData.{ChunkPayloadData}
use Rattle.sctp_receive_queues.specs.Reassembly.{Reassembly, skipped}
use Rattle.sctp_streams.specs.declared.setting.Setting.TheVariants as settings
use Rattle.sctp_streams.specs.Stream.{StreamView, is_read_half_open, stream_skipped, with_setting, without_write_half}
use Rattle.sctp_streams.specs.Streams.{StreamMap, change_at, changed_stream, stream_at, waiting_of}
use Rattle.sctp_streams.specs.Streams.{waiting_at}
use Rattle.sctp_streams.proofs.LowMarks.{at_with}
use Rattle.sctp_generations.specs.declared.skips.KeptSkip.{KeptSkip}
use Rattle.sctp_generations.specs.Deferred.{is_of, is_up_to}
use Rattle.sctp_generations.specs.Generations.{GenerationsView, after_given_to, after_skips_given_to}
use Rattle.sctp_generations.specs.Generations.{has_skips, readable_end, retires, skips_given_to, with_kept_skip}
use Rattle.sctp_generations.specs.Retiring.{boundaries_at, count_at, count_of, is_retiring, passed}
use Rattle.sctp_reset_requests.specs.Peer.{boundary_for}
use Rattle.sctp_reset_requests.specs.Request.{PeerRequestView}
use Rattle.sctp_resets.specs.Channels.{Channels, delivered, is_write_half_closed}
use Rattle.sctp_resets.specs.Draining.{drained_out, ended, next_generation_read, passed_times}
use Rattle.sctp_resets.specs.Draining.{with_write_half}
use Rattle.sctp_resets.specs.Skips.{Skipping, end_of_skip, reaches_its_ssn, skip_tried, skips_applied_of}
use Rattle.sctp_courses.specs.Course.{Course, Live, boundary_at, is_named, is_readable, times}
use Rattle.sctp_courses.specs.Events.{Event, is_idle, is_of_next, passed_first, run}
use Rattle.sctp_courses.specs.Invariants.{Invariant, IsPerformed}
use Rattle.sctp_courses.proofs.Proved.{each_event_keeps_the_invariant}
use Rattle.sctp_reset_fit.specs.Laws.{LeadsTo}
use Rattle.sctp_reset_fit.specs.Stands.{AreKept, IsLiveAs, IsNear, IsOnce, IsReadOn, LiveAs, MarksAs, StandsFor}
use Rattle.sctp_reset_fit.specs.Stands.{TellsHeld}
use Rattle.sctp_reset_fit.specs.Stands.{WaitsAs, last_below, offset_of, offsets_of}
use Rattle.sctp_reset_fit.proofs.Comes.{AreGiven, all_come}
use Rattle.sctp_reset_fit.proofs.Delivered.{all_once}
use Rattle.sctp_reset_fit.proofs.Leading.{leads_by, leads_nowhere, leads_on}
use Rattle.sctp_reset_fit.proofs.Once.{removed_none, removed_once, set_once}
use Rattle.sctp_reset_fit.proofs.Parted.{of_next_as, offsets_chosen, passed_marks, times_chosen}
use Rattle.sctp_reset_fit.proofs.Parted as parted

-- Where the course leads the invariant stays.
pub leads_keep : (c d : Course) → LeadsTo c d → Invariant c → Invariant d
leads_keep c d leads h = subst Invariant (sym leads.is) (go leads.events c h)
  where
    go : (es : List Event) (c : Course) → Invariant c → Invariant (run es c)
    go [] c h = h
    go (e ∷ es) c h = go es _ (each_event_keeps_the_invariant c e h)

-- Of what is kept of generations and streams nothing that the course has is another.
pub record IsAlike (id : ℕ) (IsHeld : Reassembly → List ℕ → Type 0) (g : GenerationsView) (m : StreamMap)
    (h : GenerationsView) (n : StreamMap) : Type 0 where
  pub retiring : h.retiring ≡ g.retiring
  pub deferred : h.deferred ≡ g.deferred
  pub next : n.next_generation ≡ m.next_generation
  pub live : (l : Option Live) → LiveAs IsHeld (stream_at m id) l → LiveAs IsHeld (stream_at n id) l
  pub once : IsOnce id m.by_id → IsOnce id n.by_id

module _ (id : ℕ) (IsHeld : Reassembly → List ℕ → Type 0) where
  pub alike_itself : (g : GenerationsView) (m : StreamMap) → IsAlike id IsHeld g m g m
  alike_itself g m = record {
    retiring = refl;
    deferred = refl;
    next = refl;
    live = λ l h. h;
    once = λ h. h;
  }

  pub alike_on : {f g h : GenerationsView} {k m n : StreamMap} → IsAlike id IsHeld f k g m → IsAlike id IsHeld g m h n
      → IsAlike id IsHeld f k h n
  alike_on a b = record {
    retiring = b.retiring ∙ a.retiring;
    deferred = b.deferred ∙ a.deferred;
    next = b.next ∙ a.next;
    live = λ l h. b.live l (a.live l h);
    once = λ h. b.once (a.once h);
  }

  -- some stream is changed in what the course does not have
  pub changed_alike : (f : StreamView → StreamView)
      → ((t : StreamView) (l : Live) → IsLiveAs IsHeld t l → IsLiveAs IsHeld (f t) l)
      → (g : GenerationsView) (m : StreamMap) (k : ℕ) → IsAlike id IsHeld g m g (changed_stream f m k)
  changed_alike f keeps g m k = by (stream_at m k) refl
    where
      by : (o : Option StreamView) → stream_at m k ≡ o → IsAlike id IsHeld g m g (change_at f o m k)
      by None is = alike_itself g m
      by (Some t) is = record {
        retiring = refl;
        deferred = refl;
        next = refl;
        live = λ l h.
            subst (λ o. LiveAs IsHeld o l) (sym (at_with m k id t (f t) is)) (there (eqb id k) refl l h);
        once = λ h. set_once id (is_at (nat_cmp k)) (f t) m.by_id h;
      }
        where
          there : (b : Bool) → eqb id k ≡ b → (l : Option Live) → LiveAs IsHeld (stream_at m id) l
              → LiveAs IsHeld (cond b (Some (f t)) (stream_at m id)) l
          there false e l h = h
          there true e None h = absurd (subst (λ o. LiveAs IsHeld o None) (ap (stream_at m) (eqb-true id k e) ∙ is) h)
          there true e (Some l) h =
              keeps t l (subst (λ o. LiveAs IsHeld o (Some l)) (ap (stream_at m) (eqb-true id k e) ∙ is) h)

  -- Skips of ordered messages that are applied, and a write half that is closed
  module _ (skips : (q : Reassembly) (os : List ℕ) (ssn : ℕ) → IsHeld q os → IsHeld (skipped q ssn) os) where
    pub skipped_as : (ssn : ℕ) (t : StreamView) (l : Live) → IsLiveAs IsHeld t l
        → IsLiveAs IsHeld (stream_skipped ssn t) l
    skipped_as ssn t l h = record {
      generation = h.generation;
      is_open = h.is_open;
      held = skips t.reassembly l.held ssn h.held;
    }

    tried_alike : (x : Skipping) (s : KeptSkip) → IsAlike id IsHeld x.0 x.1 (skip_tried x s).0 (skip_tried x s).1
    tried_alike (g, m, told) s = kept (reaches_its_ssn s m)
      where
        changed : IsAlike id IsHeld g m g (changed_stream (stream_skipped (end_of_skip s m)) m s.id)
        changed = changed_alike (stream_skipped (end_of_skip s m)) (skipped_as (end_of_skip s m)) g m s.id

        kept : (b : Bool)
            → IsAlike id IsHeld g m (cond b g (with_kept_skip g s))
            (changed_stream (stream_skipped (end_of_skip s m)) m s.id)
        kept true = changed
        kept false = record {
          retiring = refl;
          deferred = refl;
          next = changed.next;
          live = changed.live;
          once = changed.once;
        }

    all_tried_alike : (ss : List KeptSkip) (x : Skipping)
        → IsAlike id IsHeld x.0 x.1 (fold skip_tried x ss).0 (fold skip_tried x ss).1
    all_tried_alike [] x = alike_itself x.0 x.1
    all_tried_alike (s ∷ ss) x = alike_on (tried_alike x s) (all_tried_alike ss (skip_tried x s))

    pub skips_alike : (x : Skipping) (k : ℕ)
        → IsAlike id IsHeld x.0 x.1 (skips_applied_of x k).0 (skips_applied_of x k).1
    skips_alike (g, m, told) k = by (has_skips g && is_some (stream_at m k))
      where
        all : IsAlike id IsHeld g m (fold skip_tried (after_skips_given_to g k, m, told) (skips_given_to g k)).0
            (fold skip_tried (after_skips_given_to g k, m, told) (skips_given_to g k)).1
        all =
            let a = all_tried_alike (skips_given_to g k) (after_skips_given_to g k, m, told) in
            record {
              retiring = a.retiring;
              deferred = a.deferred;
              next = a.next;
              live = a.live;
              once = a.once;
            }

        by : (b : Bool)
            → IsAlike id IsHeld g m
            (cond {A = Skipping} b (fold skip_tried (after_skips_given_to g k, m, told) (skips_given_to g k))
            (g, m, told)).0
            (cond {A = Skipping} b (fold skip_tried (after_skips_given_to g k, m, told) (skips_given_to g k))
            (g, m, told)).1
        by true = all
        by false = alike_itself g m

  open_half : (h : _) → is_read_half_open (without_write_half h) ≡ is_read_half_open h
  open_half h = grind arith

  write_half_alike : (closed : Bool) (g : GenerationsView) (m : StreamMap) (k : ℕ)
      → IsAlike id IsHeld g m g (with_write_half closed m k)
  write_half_alike false g m k = alike_itself g m
  write_half_alike true g m k =
      changed_alike (λ s. with_setting s settings.WriteHalfClosed) (λ t l h. record {
        generation = h.generation;
        is_open = h.is_open ∙ sym (open_half t.halves);
        held = h.held;
      }) g m k

-- What a course leads to, that what is kept stands for.
pub record LeadsToOne (initial id : ℕ) (P : ChunkPayloadData → Type 0) (IsHeld : Reassembly → List ℕ → Type 0)
    (g : GenerationsView) (m : StreamMap) (in_progress : Option PeerRequestView) (c : Course) : Type 0 where
  pub after : Course
  pub leads : LeadsTo c after
  pub stands : StandsFor initial id P IsHeld g m in_progress after
  pub told : after.told ≡ c.told

pub small_marks : (c : Course) → Invariant c → c.assigned < 2 ^ 31 → AllByRecursion (λ (b : ℕ). b < 2 ^ 31) c.marks
small_marks c h near =
    all_weaker (IsPerformed c.asked c.performed) (λ (b : ℕ). b < 2 ^ 31) c.marks
    (λ b p.
    let l = h.asks.known in
    let d = p.1 in
    let e = h.asks.below p.0 (omega arith) in
    subst (λ z. z < 2 ^ 31) p.2 (omega arith)) h.marks.each

pub small_boundary : (c : Course) → Invariant c → c.assigned < 2 ^ 31 → boundary_at c.asked c.performed < 2 ^ 31
small_boundary c h near =
    ⊎_elim (λ (e : nat_lt c.performed (length c.asked) ≡ true). let b = h.asks.below c.performed
    (lt_true _ _ e) in omega arith)
    (λ (e : nat_lt c.performed (length c.asked) ≡ false).
    subst (λ r. r.boundary < 2 ^ 31) (sym (get_or_past c.asked c.performed no_request (lt_false _ _ e))) (omega arith))
    (cases_Bool (nat_lt c.performed (length c.asked)))

module _ (initial id : ℕ) (P : ChunkPayloadData → Type 0) (IsHeld : Reassembly → List ℕ → Type 0)
    (tells : TellsHeld initial id P IsHeld) (in_progress : Option PeerRequestView) where
  passes_one : (first limit : ℕ) (g : GenerationsView) (x : Channels) (c : Course) (mark : ℕ) (marks : List ℕ)
      → Invariant c → StandsFor initial id P IsHeld g x.streams in_progress c → c.marks ≡ mark ∷ marks
      → (l : LeadsToOne initial id P IsHeld
      (next_generation_read first limit id (boundary_for in_progress id)
      (record g { retiring = passed g.retiring id }, x)).0
      (next_generation_read first limit id (boundary_for in_progress id)
      (record g { retiring = passed g.retiring id }, x)).1.streams in_progress c) × (l.after.marks ≡ marks)
  unfolding next_generation_read
  passes_one first limit g x c mark marks inv h is = (
    record {
      after = given.after;
      leads = leads_on c gone given.after passes given.leads;
      stands = record {
        live = alike.live given.after.live (half.live given.after.live given.live_as);
        next = let n = given.next_is in let a = alike.next in let b = half.next in omega arith;
        marks = subst (λ (rs : _). MarksAs initial (boundaries_at rs id) given.after.marks) (sym alike.retiring)
            (subst (MarksAs initial (boundaries_at (passed g.retiring id) id)) (sym given.else_as.marks) passed_as);
        kept = subst (AreKept initial P) (sym alike.deferred)
            (all_filter (λ (p : ChunkPayloadData). P p × IsNear initial p.tsn) (λ d. not (chosen d)) g.deferred h.kept);
        deferred = λ o.
            subst (λ ds. times o (offsets_of initial id ds) ≤ times o given.after.deferred) (sym alike.deferred)
            (subst (λ xs. times o (offsets_of initial id (filter (λ d. not (chosen d)) g.deferred)) ≤ times o xs)
            (sym given.else_as.deferred) (later o));
        waits = waits_still in_progress h.waits;
        once_named = h.once_named;
        once_live = alike.once (half.once (all_once id first limit given_out (ended x id)
            (removed_once id (is_at (nat_cmp id)) x.streams.by_id h.once_live)));
        once_marked = subst (λ rs. IsOnce id rs) (sym alike.retiring) (parted.passed_once id g.retiring h.once_marked);
        open_where_marked = λ some l e. given.opens refl l e;
        near = subst (λ n. n < 2 ^ 31) (sym given.else_as.assigned) h.near;
        still = (
          given.else_as.retires ∙ h.still.0,
          given.else_as.releases ∙ h.still.1,
          given.given,
        );
      };
      told = given.else_as.told;
    },
    given.else_as.marks,
  )
    where
      end : Option ℕ
      end = boundary_for in_progress id

      left : GenerationsView
      left = record g { retiring = passed g.retiring id }

      chosen : ChunkPayloadData → Bool
      chosen d = is_of id d && is_up_to (readable_end left id end) d.tsn

      given_out : List ChunkPayloadData
      given_out = filter chosen g.deferred

      filled : Channels
      filled = fold (delivered first limit) (ended x id) given_out

      test : ℕ → Bool
      test = is_of_next marks c

      gone : Course
      gone = record c {
        live = None;
        marks = marks;
        hand = filter test c.deferred;
        deferred = filter (λ o. not (test o)) c.deferred;
      }

      idle : is_idle c ≡ true
      idle = rw (h.still.1, h.still.2) refl

      passes : LeadsTo c gone
      passes =
          leads_by c gone Event.Passes refl
          (ap (λ b. cond b (passed_first c.marks c) c) idle ∙ ap (λ ms. passed_first ms c) is)

      passed_as : MarksAs initial (boundaries_at (passed g.retiring id) id) marks
      passed_as =
          passed_marks initial id mark marks g.retiring h.once_marked
          (subst (MarksAs initial (boundaries_at g.retiring id)) is h.marks)

      small : AllByRecursion (λ (b : ℕ). b < 2 ^ 31) marks
      small = (subst (AllByRecursion (λ (b : ℕ). b < 2 ^ 31)) is (small_marks c inv h.near)).1

      as_chosen : AllByRecursion
          (λ (d : ChunkPayloadData). is_of id d ≡ true → chosen d ≡ test (offset_of initial d.tsn))
          g.deferred
      as_chosen =
          all_weaker (λ (p : ChunkPayloadData). P p × IsNear initial p.tsn)
          (λ (d : ChunkPayloadData). is_of id d ≡ true → chosen d ≡ test (offset_of initial d.tsn)) g.deferred
          (λ d k mine. rw mine (of_next_as initial id marks (passed g.retiring id) in_progress c passed_as small h.waits
          (small_boundary c inv h.near) d.tsn k.1)) h.kept

      few_of : (choose : ChunkPayloadData → Bool) (pass : ℕ → Bool)
          → AllByRecursion (λ (d : ChunkPayloadData). is_of id d ≡ true → choose d ≡ pass (offset_of initial d.tsn))
          g.deferred
          → (o : ℕ) → times o (offsets_of initial id (filter choose g.deferred)) ≤ times o (filter pass c.deferred)
      few_of choose pass all o =
          let a = offsets_chosen initial id choose pass g.deferred all o in
          let b = times_chosen pass o c.deferred in
          let f = h.deferred o in by (pass o) a b f
        where
          by : (t : Bool)
              → times o (offsets_of initial id (filter choose g.deferred))
              ≡ (if t then times o (offsets_of initial id g.deferred) else 0)
              → times o (filter pass c.deferred) ≡ (if t then times o c.deferred else 0)
              → times o (offsets_of initial id g.deferred) ≤ times o c.deferred
              → times o (offsets_of initial id (filter choose g.deferred)) ≤ times o (filter pass c.deferred)
          by true a b f = omega arith
          by false a b f = omega arith

      given : AreGiven IsHeld gone (stream_at filled.streams id) filled.streams.next_generation
      given =
          all_come initial id P IsHeld tells first limit given_out (ended x id) gone h.still.0
          (subst (λ o. LiveAs IsHeld o None) (sym (removed_none id x.streams.by_id h.once_live)) tt) h.next
          (all_weaker (λ (p : ChunkPayloadData). P p × IsNear initial p.tsn) P given_out (λ p k. k.0)
          (all_filter (λ (p : ChunkPayloadData). P p × IsNear initial p.tsn) chosen g.deferred h.kept))
          (few_of chosen test as_chosen)

      later : (o : ℕ)
          → times o (offsets_of initial id (filter (λ d. not (chosen d)) g.deferred))
          ≤ times o (filter (λ p. not (test p)) c.deferred)
      later =
          few_of (λ d. not (chosen d)) (λ p. not (test p))
          (all_weaker (λ (d : ChunkPayloadData). is_of id d ≡ true → chosen d ≡ test (offset_of initial d.tsn))
          (λ (d : ChunkPayloadData). is_of id d ≡ true → not (chosen d) ≡ not (test (offset_of initial d.tsn)))
          g.deferred
          (λ d k mine. ap not (k mine)) as_chosen)

      rest : GenerationsView
      rest = after_given_to left id end

      half : IsAlike id IsHeld rest filled.streams rest
          (with_write_half (is_write_half_closed x.streams id) filled.streams id)
      half = write_half_alike id IsHeld (is_write_half_closed x.streams id) rest filled.streams id

      alike : IsAlike id IsHeld rest (with_write_half (is_write_half_closed x.streams id) filled.streams id)
          (skips_applied_of (rest, with_write_half (is_write_half_closed x.streams id) filled.streams id, filled.events)
          id).0
          (skips_applied_of (rest, with_write_half (is_write_half_closed x.streams id) filled.streams id, filled.events)
          id).1
      alike = skips_alike id IsHeld tells.skips _ id

      waits_still : (q : Option PeerRequestView) → WaitsAs initial id q c → WaitsAs initial id q given.after
      waits_still None e = given.else_as.waits ∙ e
      waits_still (Some q) e = (
        given.else_as.waits ∙ e.0,
        e.1 ∙ sym (ap₂ (λ a p. last_below initial (boundary_at a p)) given.else_as.asked given.else_as.performed),
        e.2 ∙ sym (ap₂ is_named given.else_as.asked given.else_as.performed),
        subst₂ (λ a p. p < length a) (sym given.else_as.asked) (sym given.else_as.performed) e.3,
      )

  -- one that has a mark is kept a boundary of, and the other way round
  marked_is : (m : _) (marks : List ℕ) → MarksAs initial (boundaries_at m id) marks
      → (is_retiring m id ≡ true) → marks ≡ [] → ⊥
  marked_is m marks h r none = by (boundaries_at m id) refl h
    where
      by : (o : Option (List ℕ)) → boundaries_at m id ≡ o → MarksAs initial o marks → ⊥
      by None is e = true≢false (sym r ∙ ap is_some is)
      by (Some bs) is e = (let l = e.1 in let f : length marks ≡ 0 = ap length none in omega arith)

  retiring_is : (m : _) (marks : List ℕ) → MarksAs initial (boundaries_at m id) marks → (marks ≡ [] → ⊥)
      → is_retiring m id ≡ true
  retiring_is m marks h some = by (boundaries_at m id) refl h
    where
      by : (o : Option (List ℕ)) → boundaries_at m id ≡ o → MarksAs initial o marks → is_retiring m id ≡ true
      by None is e = absurd (some e)
      by (Some bs) is e = ap is_some is

  count_is : (m : _) (marks : List ℕ) → MarksAs initial (boundaries_at m id) marks → count_at m id ≡ length marks
  count_is m marks h = by (boundaries_at m id) h
    where
      by : (o : Option (List ℕ)) → MarksAs initial o marks → count_of o ≡ length marks
      by None e = sym (ap length e)
      by (Some bs) e = ap length e.0 ∙ length-map marks (last_below initial)

  -- what waits on a stream waits on one that is live
  pub waits_live : (g : GenerationsView) (m : StreamMap) (c : Course) → StandsFor initial id P IsHeld g m in_progress c
      → eqb (waiting_of m id) 0 ≡ false → (c.marks ≡ [] → ⊥) → is_readable c.live ≡ true
  waits_live g m c h some marked = by (stream_at m id) refl c.live refl h.live
    where
      by : (o : Option StreamView) → stream_at m id ≡ o → (l : Option Live) → c.live ≡ l → LiveAs IsHeld o l
          → is_readable c.live ≡ true
      by None is l live a = absurd (true≢false (ap (λ (o : Option StreamView). eqb (waiting_at o) 0) (sym is) ∙ some))
      by (Some t) is None live a = absurd a
      by (Some t) is (Some l) live a = ap is_readable live ∙ h.open_where_marked marked l live

  passes_all : (n first limit : ℕ) (g : GenerationsView) (x : Channels) (c : Course) → Invariant c
      → StandsFor initial id P IsHeld g x.streams in_progress c → length c.marks ≡ n
      → (l : LeadsToOne initial id P IsHeld (passed_times n first limit id (boundary_for in_progress id) (g, x)).0
      (passed_times n first limit id (boundary_for in_progress id) (g, x)).1.streams in_progress c) × IsReadOn l.after
  passes_all zero first limit g x c inv h n = (
    record { after = c; leads = leads_nowhere c; stands = h; told = refl },
    λ marked. absurd (marked (none_left c.marks n)),
  )
    where
      none_left : (xs : List ℕ) → length xs ≡ 0 → xs ≡ []
      none_left [] e = refl
      none_left (y ∷ ys) e = absurd (omega arith)
  passes_all (suc n) first limit g x c inv h long =
      by (retires g id && eqb (waiting_of x.streams id) 0) refl c.marks refl
      (λ y z d i s e. passes_all n first limit y z d i s e)
    where
      end : Option ℕ
      end = boundary_for in_progress id

      by : (b : Bool) → (retires g id && eqb (waiting_of x.streams id) 0) ≡ b → (marks : List ℕ) → c.marks ≡ marks
          → ((y : GenerationsView) (z : Channels) (d : Course) → Invariant d
          → StandsFor initial id P IsHeld y z.streams in_progress d → length d.marks ≡ n
          → (l : LeadsToOne initial id P IsHeld (passed_times n first limit id end (y, z)).0
          (passed_times n first limit id end (y, z)).1.streams in_progress d) × IsReadOn l.after)
          → (l : LeadsToOne initial id P IsHeld (passed_times (suc n) first limit id end (g, x)).0
          (passed_times (suc n) first limit id end (g, x)).1.streams in_progress c) × IsReadOn l.after
      by b e [] is rest = absurd (let f : length c.marks ≡ 0 = ap length is in omega arith)
      by false e (mark ∷ marks) is rest =
          rw e (
            record { after = c; leads = leads_nowhere c; stands = h; told = refl },
            λ marked. waits_live g x.streams c h (waits (retiring_is g.retiring c.marks h.marks marked)) marked,
          )
        where
          waits : is_retiring g.retiring id ≡ true → eqb (waiting_of x.streams id) 0 ≡ false
          waits r =
              ⊎_elim
              (λ (w : eqb (waiting_of x.streams id) 0 ≡ true).
              absurd (true≢false
              (sym (let f : (retires g id && eqb (waiting_of x.streams id) 0) ≡ true = rw (r, w) refl in f) ∙ e)))
              (λ (w : eqb (waiting_of x.streams id) 0 ≡ false). w) (cases_Bool (eqb (waiting_of x.streams id) 0))
      by true e (mark ∷ marks) is rest =
          rw e (
          let one = passes_one first limit g x c mark marks inv h is in
          let d : Course = one.0.after in
          let all = rest (next_generation_read first limit id end (record g { retiring = passed g.retiring id }, x)).0
          (next_generation_read first limit id end (record g { retiring = passed g.retiring id }, x)).1 d
          (leads_keep c d one.0.leads inv) one.0.stands
          (ap length one.1 ∙ (let f : length c.marks ≡ suc (length marks) = ap length is in omega arith)) in (
            record {
              after = all.0.after;
              leads = leads_on c d all.0.after one.0.leads all.0.leads;
              stands = all.0.stands;
              told = all.0.told ∙ one.0.told;
            },
            all.1,
          )
          )

  -- A stream is read out: the generations that ended and of which no byte waits are passed.
  pub reads_out : (first limit : ℕ) (g : GenerationsView) (x : Channels) (c : Course) → Invariant c
      → StandsFor initial id P IsHeld g x.streams in_progress c
      → (l : LeadsToOne initial id P IsHeld (drained_out first limit id (boundary_for in_progress id) (g, x)).0
      (drained_out first limit id (boundary_for in_progress id) (g, x)).1.streams in_progress c) × IsReadOn l.after
  reads_out first limit g x c inv h =
      passes_all (count_at g.retiring id) first limit g x c inv h (sym (count_is g.retiring c.marks h.marks))
