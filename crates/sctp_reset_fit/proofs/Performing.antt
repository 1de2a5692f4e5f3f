-- A request of the peer is performed: what ends, and what waited for it.
use Rattle.std.proofs.Common.{◌≡◌, refl, sym, ap, ap₂, ◌∙◌, subst, ℕ, suc, ◌+◌, ◌-◌, ◌≤◌, ◌<◌, ◌^◌, Bool}
use Rattle.std.proofs.Common.{true, false, not, ◌&&◌, cond, List, [], ◌∷◌, ◌++◌, fold, filter, length, Option}
use Rattle.std.proofs.Common.{Some, None, is_some, arith, eqb, nat_le, nat_cmp, is_eq, if◌then◌else◌}
use Rattle.std.specs.List.{AllByRecursion}
use Rattle.std.specs.BTreeMap.{is_at}
use Rattle.std.proofs.lemmas.Bool.{true≢false, false≢true, eq-eqb, eqb-true}
use Rattle.std.proofs.lemmas.Bool.{ne_eqb}
use Rattle.sctp_model.proofs.Lists.{all_filter, all_weaker}
use Rattle.sctp_wire_types.specs.declared.chunk.ChunkPayloadData.{ChunkPayloadData}
use Rattle.sctp_receive_queues.specs.Reassembly.{Reassembly}
use Rattle.sctp_streams.specs.Stream.{StreamView}
use Rattle.sctp_streams.specs.Streams.{stream_at}
use Rattle.sctp_streams.proofs.LowMarks.{found_as}
use Rattle.sctp_generations.specs.declared.retirement.Retirement.{Retirement}
use Rattle.sctp_generations.specs.declared.retirement.Retirement.TheVariants as retirements
use Rattle.sctp_generations.specs.Deferred.{is_of}
use Rattle.sctp_generations.specs.Generations.{GenerationsView, after_given_to_all, given_to_all, retired_by}
use Rattle.sctp_generations.specs.Generations.{retirement_of, without_newest_of}
use Rattle.sctp_generations.specs.Retiring.{RetiringMap, boundaries_at, is_retiring, retired_at, retired_with}
use Rattle.sctp_reset_requests.specs.Request.{PeerRequestView, names}
use Rattle.sctp_resets.specs.Channels.{Channels, channels, delivered}
use Rattle.sctp_resets.specs.Performing.{Performing, ends_told, is_drained, named_in, named_live, performing}
use Rattle.sctp_resets.specs.Performing.{retired_as, retired_next, retired_one, with_retired}
use Rattle.sctp_resets.specs.Resets.{ResetsView, performed}
use Rattle.sctp_resets.proofs.StreamsBeside.{ended_apart, set_apart}
use Rattle.sctp_courses.specs.Course.{Course, Live, boundary_at, is_readable, times}
use Rattle.sctp_courses.specs.Events.{Event, happens, is_idle, last_boundary, performed_next}
use Rattle.sctp_courses.specs.Events as events
use Rattle.sctp_courses.specs.Invariants.{Invariant, IsPerformed}
use Rattle.sctp_courses.proofs.Proved.{each_event_keeps_the_invariant}
use Rattle.sctp_reset_fit.specs.Laws.{LeadsTo}
use Rattle.sctp_reset_fit.specs.Stands.{IsNear, IsOnce, IsReadOn, LiveAs, MarksAs, StandsFor, TellsHeld}
use Rattle.sctp_reset_fit.specs.Stands.{last_below, offsets_of}
use Rattle.sctp_reset_fit.proofs.Comes.{AreGiven, all_come}
use Rattle.sctp_reset_fit.proofs.Delivered.{all_once}
use Rattle.sctp_reset_fit.proofs.Leading.{leads_by, leads_nowhere, leads_on, leads_same}
use Rattle.sctp_reset_fit.proofs.Once.{apart_too, inserted_apart, inserted_once}
use Rattle.sctp_reset_fit.proofs.Once.{removed_once, set_once}
use Rattle.sctp_reset_fit.proofs.Named.{named_times}
use Rattle.sctp_reset_fit.proofs.Parted.{offsets_chosen}
use Rattle.sctp_reset_fit.proofs.Passing.{LeadsToOne}
use Rattle.sctp_reset_fit.proofs.Retiring.{RetiresOn, StandsWhile, retires_here}

module _ (initial id : ℕ) (P : ChunkPayloadData → Type 0) (IsHeld : Reassembly → List ℕ → Type 0) where
  -- what the end of another stream's generation leaves
  retires_other : (b : ℕ) (p : Performing) (k : ℕ) (c : Course) → eqb id k ≡ false
      → StandsWhile initial id P IsHeld p.generations p.streams c
      → StandsWhile initial id P IsHeld (retired_one b p k).0.generations (retired_one b p k).0.streams c
  unfolding retired_one
  retires_other b p k c apart h = by (retirement_of p.generations k b (is_drained p.streams k))
    where
      g : GenerationsView
      g = p.generations

      other : is_eq (nat_cmp id k) ≡ false
      other = found_as id k ∙ apart

      marked : boundaries_at (retired_with g.retiring k b) id ≡ boundaries_at g.retiring id
      marked = on (boundaries_at g.retiring k)
        where
          on : (o : Option (List ℕ)) → boundaries_at (retired_at o g.retiring k b) id ≡ boundaries_at g.retiring id
          on None = inserted_apart id k (b ∷ []) g.retiring apart
          on (Some bs) = set_apart id k other (bs ++ b ∷ []) g.retiring

      once : IsOnce id (retired_with g.retiring k b)
      once = on (boundaries_at g.retiring k)
        where
          on : (o : Option (List ℕ)) → IsOnce id (retired_at o g.retiring k b)
          on None =
              inserted_once id k (b ∷ []) g.retiring h.once_marked
              (λ same. absurd (true≢false (sym (eq-eqb id k same) ∙ apart)))
          on (Some bs) = set_once id (is_at (nat_cmp k)) (bs ++ b ∷ []) g.retiring h.once_marked

      by : (w : Retirement)
          → StandsWhile initial id P IsHeld
          (retired_as w (record p { generations = retired_by w g k b }) k).0.generations
          (retired_as w (record p { generations = retired_by w g k b }) k).0.streams c
      by retirements.Ended = record {
        live = subst (λ o. LiveAs IsHeld o c.live) (sym (ended_apart id k other p.streams)) h.live;
        next = h.next;
        marks = h.marks;
        kept = h.kept;
        deferred = h.deferred;
        once_live = removed_once id (is_at (nat_cmp k)) p.streams.by_id h.once_live;
        once_marked = h.once_marked;
        open_where_marked = h.open_where_marked;
        near = h.near;
        releases = h.releases;
        hand = h.hand;
      }
      by retirements.Retires = record {
        live = h.live;
        next = h.next;
        marks = subst (λ o. MarksAs initial o c.marks) (sym marked) h.marks;
        kept = h.kept;
        deferred = h.deferred;
        once_live = h.once_live;
        once_marked = once;
        open_where_marked = h.open_where_marked;
        near = h.near;
        releases = h.releases;
        hand = h.hand;
      }
      by retirements.Unchanged = record {
        live = h.live;
        next = h.next;
        marks = h.marks;
        kept = h.kept;
        deferred = h.deferred;
        once_live = h.once_live;
        once_marked = h.once_marked;
        open_where_marked = h.open_where_marked;
        near = h.near;
        releases = h.releases;
        hand = h.hand;
      }

  listed : (x : Performing × Bool) (ids : List ℕ) (k : ℕ) → (with_retired x ids k).0 ≡ x.0
  listed (p, true) ids k = refl
  listed (p, false) ids k = refl

  -- the streams are ended one after the other
  abbrev each_of : ℕ → Performing × List ℕ → List ℕ → Performing
  each_of b p ks = (fold (retired_next b) p ks).0

  retire_others : (b : ℕ) (ks : List ℕ) (p : Performing × List ℕ) (c : Course) → times id ks ≡ 0
      → StandsWhile initial id P IsHeld p.0.generations p.0.streams c
      → StandsWhile initial id P IsHeld (each_of b p ks).generations (each_of b p ks).streams c
  retire_others b [] p c none h = h
  retire_others b (k ∷ ks) p c none h =
      retire_others b ks (retired_next b p k) c (rest (eqb k id) none)
      (subst (λ (x : Performing). StandsWhile initial id P IsHeld x.generations x.streams c)
      (sym (listed (retired_one b p.0 k) p.1 k))
      (retires_other b p.0 k c (apart_too k id (apart (eqb k id) refl none)) h))
    where
      rest : (m : Bool) → (if m then 1 else 0) + times id ks ≡ 0 → times id ks ≡ 0
      rest true e = absurd (omega arith)
      rest false e = omega arith

      apart : (m : Bool) → eqb k id ≡ m → (if m then 1 else 0) + times id ks ≡ 0 → m ≡ false
      apart true f e = absurd (omega arith)
      apart false f e = refl

  -- the stream is among them, once
  retire_all : (ks : List ℕ) (p : Performing × List ℕ) (c : Course) → Invariant c → c.retires ≡ true
      → last_boundary c < 2 ^ 31 → AllByRecursion (λ (m : ℕ). m < 2 ^ 31) c.marks
      → AllByRecursion (λ (m : ℕ). m ≤ last_boundary c) c.marks → times id ks ≡ 1
      → StandsWhile initial id P IsHeld p.0.generations p.0.streams c
      → RetiresOn initial id P IsHeld (each_of (last_below initial (last_boundary c)) p ks).generations
      (each_of (last_below initial (last_boundary c)) p ks).streams c
  retire_all [] p c inv now near small below once h = absurd (omega arith)
  retire_all (k ∷ ks) p c inv now near small below once h =
      by (eqb k id) refl once (λ q e s. retire_all ks q c inv now near small below e s)
    where
      b : ℕ
      b = last_below initial (last_boundary c)

      next : Performing × List ℕ
      next = retired_next b p k

      by : (m : Bool) → eqb k id ≡ m → (if m then 1 else 0) + times id ks ≡ 1
          → ((q : Performing × List ℕ) → times id ks ≡ 1 → StandsWhile initial id P IsHeld q.0.generations q.0.streams c
          → RetiresOn initial id P IsHeld (each_of b q ks).generations (each_of b q ks).streams c)
          → RetiresOn initial id P IsHeld (each_of b next ks).generations (each_of b next ks).streams c
      by true e o rest =
          let same : k ≡ id = eqb-true k id e in
          let one : RetiresOn initial id P IsHeld (retired_one b p.0 k).0.generations
          (retired_one b p.0 k).0.streams c =
          subst (λ i. RetiresOn initial id P IsHeld (retired_one b p.0 i).0.generations
          (retired_one b p.0 i).0.streams c)
          (sym same) (retires_here initial id P IsHeld p.0 c inv now near small below h) in
          record {
            after = one.after;
            leads = one.leads;
            stands = retire_others b ks next one.after (omega arith)
                (subst (λ (x : Performing). StandsWhile initial id P IsHeld x.generations x.streams one.after)
                (sym (listed (retired_one b p.0 k) p.1 k)) one.stands);
            done = one.done;
            told = one.told;
            waits = one.waits;
          }
      by false e o rest =
          rest next (omega arith)
          (subst (λ (x : Performing). StandsWhile initial id P IsHeld x.generations x.streams c)
          (sym (listed (retired_one b p.0 k) p.1 k)) (retires_other b p.0 k c (apart_too k id e) h))

-- whether something is kept of a stream's boundaries
pub retiring_as : (initial id : ℕ) (m : RetiringMap) (marks : List ℕ) → MarksAs initial (boundaries_at m id) marks
    → is_retiring m id ≡ not (eqb (length marks) 0)
retiring_as initial id m marks h = by (boundaries_at m id) h
  where
    by : (o : Option (List ℕ)) → MarksAs initial o marks → is_some o ≡ not (eqb (length marks) 0)
    by None e = rw e refl
    by (Some bs) e = ap not (sym (ne_eqb (length marks) 0 (λ f. (let l = e.1 in omega arith))))

unread_of : (initial id : ℕ) (IsHeld : Reassembly → List ℕ → Type 0) (o : Option StreamView) (l : Option Live)
    → LiveAs IsHeld o l → is_some o ≡ false → l ≡ None
unread_of initial id IsHeld None None h e = refl
unread_of initial id IsHeld None (Some l) h e = absurd h
unread_of initial id IsHeld (Some t) l h e = absurd (true≢false e)

unmarked_of : (c : Course) → IsReadOn c → c.live ≡ None → c.marks ≡ []
unmarked_of c h gone = by c.marks refl
  where
    by : (ms : List ℕ) → c.marks ≡ ms → c.marks ≡ []
    by [] e = e
    by (m ∷ ms) e =
        absurd (false≢true (sym (ap is_readable gone) ∙ h (λ none. (let f : m ∷ ms ≡ [] = sym e ∙ none in cc))))

module _ (initial id : ℕ) (P : ChunkPayloadData → Type 0) (IsHeld : Reassembly → List ℕ → Type 0)
    (tells : TellsHeld initial id P IsHeld) where
  -- what is given and what waits on once all generations of the request ended
  releases_all : (first limit : ℕ) (g : GenerationsView) (x : Channels) (d : Course) → d.retires ≡ false
      → d.waits ≡ false → StandsWhile initial id P IsHeld g x.streams d
      → (l : LeadsToOne initial id P IsHeld (after_given_to_all g)
      (fold (delivered first limit) x (given_to_all g)).streams None d) × IsReadOn l.after
  releases_all first limit g x d still quiet h = by (eqb (length d.marks) 0) refl
    where
      ds : List ChunkPayloadData
      ds = g.deferred

      chosen : ChunkPayloadData → Bool
      chosen p = not (is_retiring g.retiring p.stream_identifier)

      filled : Channels
      filled = fold (delivered first limit) x (filter chosen ds)

      as_chosen : (keep : Bool) → eqb (length d.marks) 0 ≡ keep
          → AllByRecursion (λ (p : ChunkPayloadData). is_of id p ≡ true → chosen p ≡ keep) ds
      as_chosen keep e =
          all_weaker (λ (p : ChunkPayloadData). P p × IsNear initial p.tsn)
          (λ (p : ChunkPayloadData). is_of id p ≡ true → chosen p ≡ keep) ds
          (λ p k mine.
          ap (λ i. not (is_retiring g.retiring i)) (eqb-true p.stream_identifier id mine)
          ∙ ap not (retiring_as initial id g.retiring d.marks h.marks) ∙ twice _ ∙ e) h.kept
        where
          twice : (z : Bool) → not (not z) ≡ z
          twice true = refl
          twice false = refl

      -- by what is in hand and what stays deferred then
      on : (keep : Bool) → eqb (length d.marks) 0 ≡ keep → (e : Course) → LeadsTo d e → e.retires ≡ false
          → e.releases ≡ false → e.waits ≡ false → e.live ≡ d.live → e.next ≡ d.next → e.marks ≡ d.marks
          → e.assigned ≡ d.assigned → e.told ≡ d.told
          → ((o : ℕ) → (if keep then times o (offsets_of initial id ds) else 0) ≤ times o e.hand)
          → ((o : ℕ) → (if not keep then times o (offsets_of initial id ds) else 0) ≤ times o e.deferred)
          → (l : LeadsToOne initial id P IsHeld (after_given_to_all g) filled.streams None d) × IsReadOn l.after
      on keep is e leads retires releases waits live next marks assigned told hand later = (
        record {
          after = given.after;
          leads = leads_on d e given.after leads given.leads;
          stands = record {
            live = given.live_as;
            next = given.next_is;
            marks = subst (MarksAs initial (boundaries_at g.retiring id)) (sym (given.else_as.marks ∙ marks)) h.marks;
            kept = all_filter (λ (p : ChunkPayloadData). P p × IsNear initial p.tsn) (λ p. not (chosen p)) ds h.kept;
            deferred = λ o.
                subst (λ xs. times o (offsets_of initial id (filter (λ p. not (chosen p)) ds)) ≤ times o xs)
                (sym given.else_as.deferred) (stays o);
            waits = given.else_as.waits ∙ waits;
            once_named = tt;
            once_live = all_once id first limit (filter chosen ds) x h.once_live;
            once_marked = h.once_marked;
            open_where_marked = λ some l there. ap is_readable (sym there) ∙ reads some;
            near = subst (λ n. n < 2 ^ 31) (sym (given.else_as.assigned ∙ assigned)) h.near;
            still = (given.else_as.retires ∙ retires, given.else_as.releases ∙ releases, given.given);
          };
          told = given.else_as.told ∙ told;
        },
        reads,
      )
        where
          given : AreGiven IsHeld e (stream_at filled.streams id) filled.streams.next_generation
          given =
              all_come initial id P IsHeld tells first limit (filter chosen ds) x e retires
              (subst (LiveAs IsHeld (stream_at x.streams id)) (sym live) h.live) (let n = h.next in omega arith)
              (all_weaker (λ (p : ChunkPayloadData). P p × IsNear initial p.tsn) P (filter chosen ds) (λ p k. k.0)
              (all_filter (λ (p : ChunkPayloadData). P p × IsNear initial p.tsn) chosen ds h.kept))
              (λ o. subst (λ n. n ≤ times o e.hand)
              (sym (offsets_chosen initial id chosen (λ p. keep) ds (as_chosen keep is) o)) (hand o))

          stays : (o : ℕ) → times o (offsets_of initial id (filter (λ p. not (chosen p)) ds)) ≤ times o e.deferred
          stays o =
              subst (λ n. n ≤ times o e.deferred)
              (sym (offsets_chosen initial id (λ p. not (chosen p)) (λ p. not keep) ds
              (all_weaker (λ (p : ChunkPayloadData). is_of id p ≡ true → chosen p ≡ keep)
              (λ (p : ChunkPayloadData). is_of id p ≡ true → not (chosen p) ≡ not keep) ds (λ p k mine. ap not (k mine))
              (as_chosen keep is)) o)) (later o)

          reads : (given.after.marks ≡ [] → ⊥) → is_readable given.after.live ≡ true
          reads some =
              given.reads
              (ap is_readable live ∙ h.open_where_marked (λ none. some (given.else_as.marks ∙ marks ∙ none)))

      by : (none : Bool) → eqb (length d.marks) 0 ≡ none
          → (l : LeadsToOne initial id P IsHeld (after_given_to_all g) filled.streams None d) × IsReadOn l.after
      by true e =
          on true e (record d { hand = d.deferred; deferred = []; releases = false })
          (leads_by d _ Event.Releases refl
          (let f : (d.releases && not d.retires) ≡ true = rw (h.releases, still) refl in
          ap (λ z. cond z (events.released d) d) f ∙ ap
          (λ z. cond z (record d { hand = d.deferred; deferred = []; releases = false })
          (record d { releases = false })) e)) still refl quiet refl refl refl refl refl h.deferred (λ o. omega arith)
      by false e =
          on false e (record d { releases = false })
          (leads_by d _ Event.Releases refl
          (let f : (d.releases && not d.retires) ≡ true = rw (h.releases, still) refl in
          ap (λ z. cond z (events.released d) d) f ∙ ap
          (λ z. cond z (record d { hand = d.deferred; deferred = []; releases = false })
          (record d { releases = false })) e)) still refl quiet refl refl refl refl refl (λ o. omega arith) h.deferred

  -- The request that waits is performed.
  pub performs : (q : PeerRequestView) (first limit : ℕ) (r : ResetsView) (x : Channels) (c : Course) → Invariant c
      → StandsFor initial id P IsHeld r.generations x.streams (Some q) c → IsReadOn c
      → boundary_at c.asked c.performed ≤ c.point
      → (l : LeadsToOne initial id P IsHeld (performed q first limit r x).0.0.generations
      (performed q first limit r x).0.1.streams None (happens c Event.Performs)) × IsReadOn l.after
  unfolding performed
  performs q first limit r x c inv h read due = (
    record {
      after = last.0.after;
      leads = leads_on (happens c Event.Performs) c1 last.0.after (leads_same (happens c Event.Performs) c1 begins)
          (leads_on c1 ended.0 last.0.after ended.1 last.0.leads);
      stands = last.0.stands;
      told = last.0.told ∙ ended.4 ∙ ap (λ (d : Course). d.told) (sym begins);
    },
    last.1,
  )
    where
      b : ℕ
      b = boundary_at c.asked c.performed

      c1 : Course
      c1 = performed_next c

      p : Performing
      p = performing r.generations r.debts x.streams x.events

      ks : List ℕ
      ks = named_live x.streams q

      after : Performing
      after = each_of initial id P IsHeld q.last_tsn (p, []) ks

      -- and the ends that it brings are told
      answered : Performing
      answered = ends_told r.own (named_in r.own x.streams q) after

      is_due_now : b ≤ c.point → nat_le b c.point ≡ true
      is_due_now l = grind arith

      begins : happens c Event.Performs ≡ c1
      begins =
          let f : (is_idle c && events.is_due c) ≡ true =
          rw (h.still.1, h.still.2, h.waits.0, is_due_now due) refl in
          ap (λ z. cond z c1 c) f

      inv1 : Invariant c1
      inv1 = subst Invariant begins (each_event_keeps_the_invariant c Event.Performs inv)

      known : c.performed < length c.asked
      known = h.waits.3

      before : suc c.performed - 1 ≡ c.performed
      before = omega arith

      last_is : last_boundary c1 ≡ b
      last_is = ap (boundary_at c.asked) before

      small : b < 2 ^ 31
      small = let l = inv.asks.below c.performed known in let n = h.near in omega arith

      each_mark : (Q : ℕ → Type 0) → ((k : ℕ) → k < c.performed → Q (boundary_at c.asked k)) → AllByRecursion Q c.marks
      each_mark Q f =
          all_weaker (IsPerformed c.asked c.performed) Q c.marks (λ m k. subst Q k.2 (f k.0 k.1)) inv.marks.each

      all_small : AllByRecursion (λ (m : ℕ). m < 2 ^ 31) c.marks
      all_small =
          each_mark (λ m. m < 2 ^ 31)
          (λ k l. (let a = inv.asks.ascend k c.performed (omega arith) known in let s = small in omega arith))

      all_below : AllByRecursion (λ (m : ℕ). m ≤ last_boundary c1) c.marks
      all_below =
          each_mark (λ m. m ≤ last_boundary c1)
          (λ k l. (let a = inv.asks.ascend k c.performed (omega arith) known in let e = last_is in omega arith))

      while : StandsWhile initial id P IsHeld r.generations x.streams c1
      while = record {
        live = h.live;
        next = h.next;
        marks = h.marks;
        kept = h.kept;
        deferred = h.deferred;
        once_live = h.once_live;
        once_marked = h.once_marked;
        open_where_marked = read;
        near = h.near;
        releases = refl;
        hand = h.still.2;
      }

      counted : times id ks ≡ (if names q id && is_some (stream_at x.streams id) then 1 else 0)
      counted = named_times id x.streams q h.once_live h.once_named

      -- the newest generations of the streams that it names ended
      ended : (d : Course) × LeadsTo c1 d × StandsWhile initial id P IsHeld after.generations after.streams d
          × (d.retires ≡ false) × (d.told ≡ c.told) × (d.waits ≡ false)
      ended = by (names q id) refl (is_some (stream_at x.streams id)) refl
        where
          by : (named : Bool) → names q id ≡ named → (live : Bool) → is_some (stream_at x.streams id) ≡ live
              → (d : Course) × LeadsTo c1 d × StandsWhile initial id P IsHeld after.generations after.streams d
              × (d.retires ≡ false) × (d.told ≡ c.told) × (d.waits ≡ false)
          by true n true l =
              let once : times id ks ≡ 1 = counted ∙ ap₂ (λ u v. if u && v then 1 else 0) n l in
              let now : c1.retires ≡ true = sym h.waits.2 ∙ n in
              let one = retire_all initial id P IsHeld ks (p, []) c1 inv1 now
              (subst (λ z. z < 2 ^ 31) (sym last_is) small) all_small all_below once while in
              let at : last_below initial (last_boundary c1) ≡ q.last_tsn =
              ap (last_below initial) last_is ∙ sym h.waits.1 in (
                one.after,
                one.leads,
                subst (λ t. StandsWhile initial id P IsHeld (each_of initial id P IsHeld t (p, []) ks).generations
                    (each_of initial id P IsHeld t (p, []) ks).streams one.after) at one.stands,
                one.done,
                one.told,
                one.waits,
              )
          by true n false l =
              let none : times id ks ≡ 0 = counted ∙ ap₂ (λ u v. if u && v then 1 else 0) n l in
              let now : c1.retires ≡ true = sym h.waits.2 ∙ n in
              let gone : c.live ≡ None = unread_of initial id IsHeld (stream_at x.streams id) c.live h.live l in
              let unmarked : c.marks ≡ [] = unmarked_of c read gone in
              let f : (c1.retires && eqb (length c.marks) 0) ≡ true = rw (now, unmarked) refl in
              let d : Course = events.finished c1 in (
                d,
                leads_by c1 d Event.Finishes refl (ap (λ z. cond z d c1) f),
                retire_others initial id P IsHeld q.last_tsn ks (p, []) d none (record {
                  live = subst (LiveAs IsHeld (stream_at x.streams id)) gone h.live;
                  next = h.next;
                  marks = h.marks;
                  kept = h.kept;
                  deferred = h.deferred;
                  once_live = h.once_live;
                  once_marked = h.once_marked;
                  open_where_marked = λ some. absurd (some unmarked);
                  near = h.near;
                  releases = refl;
                  hand = h.still.2;
                }),
                refl,
                refl,
                refl,
              )
          by false n live l =
              let none : times id ks ≡ 0 = counted ∙ ap
              (λ u. if u && is_some (stream_at x.streams id) then 1 else 0) n in
              let never : c1.retires ≡ false = sym h.waits.2 ∙ n in (
                c1,
                leads_nowhere c1,
                retire_others initial id P IsHeld q.last_tsn ks (p, []) c1 none while,
                never,
                refl,
                refl,
              )

      last : (l : LeadsToOne initial id P IsHeld (performed q first limit r x).0.0.generations
          (performed q first limit r x).0.1.streams None ended.0) × IsReadOn l.after
      last =
          releases_all first limit (without_newest_of after.generations q.ids)
          (channels after.streams answered.events x.to_accept) ended.0 ended.3 ended.5 (record {
            live = ended.2.live;
            next = ended.2.next;
            marks = ended.2.marks;
            kept = ended.2.kept;
            deferred = ended.2.deferred;
            once_live = ended.2.once_live;
            once_marked = ended.2.once_marked;
            open_where_marked = ended.2.open_where_marked;
            near = ended.2.near;
            releases = ended.2.releases;
            hand = ended.2.hand;
          })
