-- A request of the peer that is performed ends the newest generation of the stream, in the streams as in the course.
use Rattle.std.proofs.Common.{◌≡◌, refl, sym, ap, ◌∙◌, subst, subst₂, ℕ, suc, ◌-◌, ◌≤◌, ◌<◌, ◌^◌, Bool}
use Rattle.std.proofs.Common.{true, false, not, ◌&&◌, cond, List, [], ◌∷◌, ◌++◌, filter, length, map, Option}
use Rattle.std.proofs.Common.{Some, None, is_some, arith, eqb, ⊎_elim, nat_lt, nat_le, nat_cmp}
use Rattle.std.proofs.Common.{slice_get, if◌then◌else◌}
use Rattle.std.specs.List.{AllByRecursion}
use Rattle.std.specs.BTreeMap.{insert_entry, is_at}
use Rattle.std.specs.Map.{lookup}
use Rattle.std.proofs.lemmas.Bool.{cases_Bool, true≢false, false≢true, cond-true, eq-eqb, eqb-true}
use Rattle.std.proofs.lemmas.Bool.{or_cases, or_left, or_parts, or_right}
use Rattle.std.proofs.lemmas.Map.{lookup-set_value}
use Rattle.std.proofs.lemmas.List.{length_push, map_push}
use Rattle.std.proofs.lemmas.Cmp.{eq_by_cmp_equiv, nat_cmp_total}
use Rattle.sctp_model.specs.Packets.{mem}
use Rattle.sctp_model.proofs.Lists.{all_weaker}
use Rattle.sctp_serial.specs.Serial.{tsn_lte}
use Rattle.sctp_wire_types.specs.declared.chunk.ChunkPayloadData.{ChunkPayloadData}
use Rattle.sctp_receive_queues.specs.Reassembly.{Reassembly}
use Rattle.sctp_streams.specs.Stream.{StreamView}
use Rattle.sctp_streams.specs.Streams.{StreamMap, stream_at, without_stream}
use Rattle.sctp_streams.proofs.LowMarks.{found_as}
use Rattle.sctp_generations.specs.declared.retirement.Retirement.TheVariants as retirements
use Rattle.sctp_generations.specs.Deferred.{has_between, is_between, is_of}
use Rattle.sctp_generations.specs.Generations.{GenerationsView, retired, retired_by, retirement_of, retires}
use Rattle.sctp_generations.specs.Generations.{with_boundary}
use Rattle.sctp_generations.specs.Retiring.{RetiringMap, boundaries_at, last_of, newest_boundary, retired_at}
use Rattle.sctp_generations.specs.Retiring.{retired_with}
use Rattle.sctp_resets.specs.Performing.{Performing, is_drained, is_drained_at, retired_as, retired_one}
use Rattle.sctp_courses.specs.Course.{Course, Live, is_marked, is_readable, stands_for, times}
use Rattle.sctp_courses.specs.Course as course
use Rattle.sctp_courses.specs.Events.{Event, last_boundary}
use Rattle.sctp_courses.specs.Events as events
use Rattle.sctp_courses.specs.Invariants.{Invariant}
use Rattle.sctp_reset_fit.specs.Laws.{LeadsTo}
use Rattle.sctp_reset_fit.specs.Stands.{AreKept, IsNear, IsOnce, LiveAs, MarksAs, last_below, offset_of, offsets_of}
use Rattle.sctp_reset_fit.proofs.Leading.{leads_by, leads_on}
use Rattle.sctp_reset_fit.proofs.Numbers.{lte_below}
use Rattle.sctp_reset_fit.proofs.Once.{inserted_once, inserted_there, removed_none, removed_once, set_once}
use Rattle.sctp_reset_fit.proofs.Parted.{times_chosen}
use Rattle.sctp_courses.proofs.Times.{none_times}

-- What is kept of a stream stands for its course while a request is being performed.
pub record StandsWhile (initial id : ℕ) (P : ChunkPayloadData → Type 0) (IsHeld : Reassembly → List ℕ → Type 0)
    (g : GenerationsView) (m : StreamMap) (c : Course) : Type 0 where
  pub live : LiveAs IsHeld (stream_at m id) c.live
  pub next : c.next ≤ m.next_generation
  pub marks : MarksAs initial (boundaries_at g.retiring id) c.marks
  pub kept : AreKept initial P g.deferred
  pub deferred : (o : ℕ) → times o (offsets_of initial id g.deferred) ≤ times o c.deferred
  pub once_live : IsOnce id m.by_id
  pub once_marked : IsOnce id g.retiring
  pub open_where_marked : (c.marks ≡ [] → ⊥) → is_readable c.live ≡ true
  pub near : c.assigned < 2 ^ 31
  pub releases : c.releases ≡ true
  pub hand : c.hand ≡ []

-- the boundaries of a stream with one more
retired_marks : (initial id mark : ℕ) (marks : List ℕ) (m : RetiringMap) → MarksAs initial (boundaries_at m id) marks
    → MarksAs initial (boundaries_at (retired_with m id (last_below initial mark)) id) (marks ++ mark ∷ [])
retired_marks initial id mark marks m h = by (boundaries_at m id) refl h
  where
    b : ℕ
    b = last_below initial mark

    new : boundaries_at m id ≡ None → boundaries_at (retired_with m id b) id ≡ Some (b ∷ [])
    new none = rw none (inserted_found m none)
      where
        inserted_found : (es : RetiringMap) → lookup (is_at (nat_cmp id)) es ≡ None
            → lookup (is_at (nat_cmp id)) (insert_entry nat_cmp es id (b ∷ [])) ≡ Some (b ∷ [])
        inserted_found es e = inserted_there id (b ∷ []) es e

    by : (o : Option (List ℕ)) → boundaries_at m id ≡ o → MarksAs initial o marks
        → MarksAs initial (boundaries_at (retired_with m id b) id) (marks ++ mark ∷ [])
    by None is e =
        subst₂ (MarksAs initial) (sym (new is)) (ap (λ xs. xs ++ mark ∷ []) (sym e)) (refl, omega arith)
    by (Some bs) is e =
        subst (λ o. MarksAs initial o (marks ++ mark ∷ [])) (sym (more is)) (
          ap (λ xs. xs ++ b ∷ []) e.0 ∙ sym (map_push (last_below initial) marks mark),
          (let l = length_push marks mark in omega arith),
        )
      where
        more : boundaries_at m id ≡ Some bs → boundaries_at (retired_with m id b) id ≡ Some (bs ++ b ∷ [])
        more there =
            ap (λ o. boundaries_at (retired_at o m id b) id) there
            ∙ lookup-set_value (eq_by_cmp_equiv nat_cmp_total) (is_at (nat_cmp id))
            ((eq_by_cmp_equiv nat_cmp_total).congr id) id (bs ++ b ∷ []) m (ap is_some there)
            ∙ cond-true _ (Some (bs ++ b ∷ [])) (boundaries_at m id) (found_as id id ∙ eq-eqb id id refl)

-- A boundary that no deferred piece lies in front of, past the newest one

module _ (initial id : ℕ) where
  -- a piece between two boundaries is at an offset between them
  some_between : (mark boundary : ℕ) (ds : List ChunkPayloadData) → mark < 2 ^ 31 → boundary < 2 ^ 31
      → AllByRecursion (λ (d : ChunkPayloadData). IsNear initial d.tsn) ds
      → has_between id (Some (last_below initial mark)) (last_below initial boundary) ds ≡ false → (o : ℕ)
      → mem o (offsets_of initial id ds) ≡ true → course.is_between mark boundary o ≡ false
  some_between mark boundary [] a b near none o m = absurd (false≢true m)
  some_between mark boundary (d ∷ ds) a b near none o m =
      let parts = or_parts (is_between id (Some (last_below initial mark)) (last_below initial boundary) d) _ none in
      by (is_of id d) refl parts.0 (λ r. some_between mark boundary ds a b near.1 parts.1 o r) m
    where
      at : ℕ
      at = offset_of initial d.tsn

      past : tsn_lte d.tsn (last_below initial mark) ≡ nat_lt at mark
      past = ap (λ z. tsn_lte z (last_below initial mark)) near.0.is ∙ lte_below initial at mark near.0.near a

      front : tsn_lte d.tsn (last_below initial boundary) ≡ nat_lt at boundary
      front = ap (λ z. tsn_lte z (last_below initial boundary)) near.0.is ∙ lte_below initial at boundary near.0.near b

      outside : (p q : Bool) → nat_lt at mark ≡ p → nat_lt at boundary ≡ q → (not p && q) ≡ false
          → course.is_between mark boundary at ≡ false
      outside true q e f g = grind arith
      outside false true e f g = absurd (true≢false g)
      outside false false e f g = grind arith

      by : (mine : Bool) → is_of id d ≡ mine
          → is_between id (Some (last_below initial mark)) (last_below initial boundary) d ≡ false
          → (mem o (offsets_of initial id ds) ≡ true → course.is_between mark boundary o ≡ false)
          → mem o (offsets_of initial id (d ∷ ds)) ≡ true → course.is_between mark boundary o ≡ false
      by false e first rest m =
          rest (subst (λ b. mem o (map (λ (p : ChunkPayloadData). offset_of initial p.tsn)
          (cond b (d ∷ filter (is_of id) ds) (filter (is_of id) ds))) ≡ true) e m)
      by true e first rest m =
          let here : (not (nat_lt at mark) && nat_lt at boundary) ≡ false =
          subst₂ (λ x y. (not x && y) ≡ false) past front
          (subst (λ b.
          (b && not (tsn_lte d.tsn (last_below initial mark)) && tsn_lte d.tsn (last_below initial boundary)) ≡ false) e
          first)
          in
          ⊎_elim
          (λ (s : eqb at o ≡ true).
          subst (λ z. course.is_between mark boundary z ≡ false) (eqb-true at o s)
          (outside (nat_lt at mark) (nat_lt at boundary) refl refl here))
          (λ (r : mem o (offsets_of initial id ds) ≡ true). rest r)
          (or_cases (eqb at o) (mem o (offsets_of initial id ds)) (subst (λ b. mem o (map (λ (p : ChunkPayloadData).
          offset_of initial p.tsn) (cond b (d ∷ filter (is_of id) ds) (filter (is_of id) ds))) ≡ true) e m))

-- The newest of some marks
pub record HasNewest (initial : ℕ) (marks : List ℕ) : Type 0 where
  pub newest : ℕ
  pub is : slice_get (map (last_below initial) marks) (length (map (last_below initial) marks) - 1)
      ≡ Some (last_below initial newest)
  pub marked : (ds : List ℕ) (boundary : ℕ) → stands_for ds boundary newest ≡ true
      → is_marked marks ds boundary ≡ true
  pub one : (b : ℕ) → AllByRecursion (λ (m : ℕ). m ≤ b) marks → newest ≤ b

newest_of : (initial mark : ℕ) (marks : List ℕ) → HasNewest initial (mark ∷ marks)
newest_of initial mark [] = record {
  newest = mark;
  is = refl;
  marked = λ ds boundary s. or_left _ _ s;
  one = λ b h. h.0;
}
newest_of initial mark (next ∷ marks) =
    let rest = newest_of initial next marks in
    record {
      newest = rest.newest;
      is = at_end (last_below initial mark) (last_below initial next) (map (last_below initial) marks) _ rest.is;
      marked = λ ds boundary s. or_right _ _ (rest.marked ds boundary s);
      one = λ b h. rest.one b h.1;
    }
  where
    at_end : (x y : ℕ) (ys : List ℕ) (o : Option ℕ) → slice_get (y ∷ ys) (length (y ∷ ys) - 1) ≡ o
        → slice_get (x ∷ y ∷ ys) (length (x ∷ y ∷ ys) - 1) ≡ o
    at_end x y ys o e =
        let f : length (x ∷ y ∷ ys) - 1 ≡ suc (length (y ∷ ys) - 1) = omega arith in
        ap (slice_get (x ∷ y ∷ ys)) f ∙ e

-- the course in a state in which only what may be deferred is that
abbrev sifted : List ℕ → Course → Course
sifted os c = record c { deferred = filter (λ o. mem o os) c.deferred }

-- What the course leads to while a request is being performed.
pub record RetiresOn (initial id : ℕ) (P : ChunkPayloadData → Type 0) (IsHeld : Reassembly → List ℕ → Type 0)
    (g : GenerationsView) (m : StreamMap) (c : Course) : Type 0 where
  pub after : Course
  pub leads : LeadsTo c after
  pub stands : StandsWhile initial id P IsHeld g m after
  pub done : after.retires ≡ false
  pub told : after.told ≡ c.told
  pub waits : after.waits ≡ c.waits

module _ (initial id : ℕ) (P : ChunkPayloadData → Type 0) (IsHeld : Reassembly → List ℕ → Type 0) where
  -- the newest generation of the stream ends, once
  pub retires_here : (p : Performing) (c : Course) → Invariant c → c.retires ≡ true → last_boundary c < 2 ^ 31
      → AllByRecursion (λ (m : ℕ). m < 2 ^ 31) c.marks → AllByRecursion (λ (m : ℕ). m ≤ last_boundary c) c.marks
      → StandsWhile initial id P IsHeld p.generations p.streams c
      → RetiresOn initial id P IsHeld (retired_one (last_below initial (last_boundary c)) p id).0.generations
      (retired_one (last_below initial (last_boundary c)) p id).0.streams c
  unfolding retired_one
  retires_here p c inv now near small below h =
      by (retires p.generations id) refl
      (has_between id (newest_boundary p.generations.retiring id) b p.generations.deferred) refl
      (is_drained p.streams id)
      refl
    where
      b : ℕ
      b = last_below initial (last_boundary c)

      g : GenerationsView
      g = p.generations

      -- the live generation is read on
      more : (is_readable c.live ≡ true)
          → RetiresOn initial id P IsHeld (with_boundary g id b) p.streams c
      more can = record {
        after = events.retired c;
        leads = leads_by c (events.retired c) Event.Retires refl (ap (λ z. cond z (events.retired c) c) now);
        stands = record {
          live = h.live;
          next = h.next;
          marks = retired_marks initial id (last_boundary c) c.marks g.retiring h.marks;
          kept = h.kept;
          deferred = h.deferred;
          once_live = h.once_live;
          once_marked = retired_once (boundaries_at g.retiring id) refl;
          open_where_marked = λ some. can;
          near = h.near;
          releases = h.releases;
          hand = h.hand;
        };
        done = refl;
        told = refl;
        waits = refl;
      }
        where
          retired_once : (o : Option (List ℕ)) → boundaries_at g.retiring id ≡ o
              → IsOnce id (retired_at (boundaries_at g.retiring id) g.retiring id b)
          retired_once None is = rw is (inserted_once id id (b ∷ []) g.retiring h.once_marked (λ same. is))
          retired_once (Some bs) is = rw is (set_once id (is_at (nat_cmp id)) (bs ++ b ∷ []) g.retiring h.once_marked)

      -- nothing of it can be read any more
      over : retires g id ≡ false → is_drained p.streams id ≡ true
          → RetiresOn initial id P IsHeld (retired_by retirements.Ended g id b) (without_stream p.streams id) c
      over gone drained = record {
        after = events.finished c;
        leads = leads_by c (events.finished c) Event.Finishes refl
            (let f : (c.retires && eqb (length c.marks) 0) ≡ true = rw (now, unmarked) refl in
            ap (λ z. cond z (events.finished c) c) f);
        stands = record {
          live = subst (λ o. LiveAs IsHeld o None) (sym (removed_none id p.streams.by_id h.once_live)) tt;
          next = h.next;
          marks = h.marks;
          kept = h.kept;
          deferred = h.deferred;
          once_live = removed_once id (is_at (nat_cmp id)) p.streams.by_id h.once_live;
          once_marked = h.once_marked;
          open_where_marked = λ some. absurd (some unmarked);
          near = h.near;
          releases = h.releases;
          hand = h.hand;
        };
        done = refl;
        told = refl;
        waits = refl;
      }
        where
          unmarked : c.marks ≡ []
          unmarked = none (boundaries_at g.retiring id) refl h.marks
            where
              none : (o : Option (List ℕ)) → boundaries_at g.retiring id ≡ o → MarksAs initial o c.marks → c.marks ≡ []
              none None is e = e
              none (Some bs) is e = absurd (true≢false (sym (ap is_some is) ∙ none_retires))
                where
                  none_retires : is_some (boundaries_at g.retiring id) ≡ false
                  none_retires = gone

      -- a generation that ended before ends with the boundary, too
      left : retires g id ≡ true → has_between id (newest_boundary g.retiring id) b g.deferred ≡ false
          → RetiresOn initial id P IsHeld (retired_by retirements.Unchanged g id b) p.streams c
      left r none = by_marks c.marks refl
        where
          os : List ℕ
          os = offsets_of initial id g.deferred

          d : Course
          d = sifted os c

          after : Course
          after = record d { retires = false }

          -- nothing that the course has deferred lies between the newest boundary and this one
          none_of : (newest : ℕ) (xs : List ℕ) →
              ((o : ℕ) → mem o os ≡ true → course.is_between newest (last_boundary c) o ≡ false)
              → course.has_between newest (last_boundary c) (filter (λ o. mem o os) xs) ≡ false
          none_of newest [] h = refl
          none_of newest (o ∷ xs) h =
              ⊎_elim
              (λ (m : mem o os ≡ true). rw m (rw (h o m, none_of newest xs h) refl))
              (λ (m : mem o os ≡ false). rw m (none_of newest xs h)) (cases_Bool (mem o os))

          ends_with : (bs : Option (List ℕ)) → boundaries_at g.retiring id ≡ bs → (newest : ℕ)
              → MarksAs initial bs c.marks
              → slice_get (map (last_below initial) c.marks) (length (map (last_below initial) c.marks) - 1)
              ≡ Some (last_below initial newest)
              → newest_boundary g.retiring id ≡ Some (last_below initial newest)
          ends_with None is newest e f = absurd (true≢false (sym r ∙ ap is_some is))
          ends_with (Some bs) is newest e f =
              ap last_of is ∙ ap (λ (xs : List ℕ). slice_get xs (length xs - 1)) e.0 ∙ f

          by_marks : (ms : List ℕ) → c.marks ≡ ms
              → RetiresOn initial id P IsHeld (retired_by retirements.Unchanged g id b) p.streams c
          by_marks [] is = absurd (unmarked (boundaries_at g.retiring id) refl h.marks)
            where
              unmarked : (o : Option (List ℕ)) → boundaries_at g.retiring id ≡ o → MarksAs initial o c.marks → ⊥
              unmarked None there e = true≢false (sym r ∙ ap is_some there)
              unmarked (Some bs) there e = (let l = e.1 in let f : length c.marks ≡ 0 = ap length is in omega arith)
          by_marks (first ∷ ms) is = record {
            after = after;
            leads = leads_on c d after (leads_by c d (Event.Defers (λ o. mem o os)) refl refl)
                (leads_by d after Event.Leaves refl
                (let f : (c.retires && is_marked c.marks (filter (λ o. mem o os) c.deferred) (last_boundary c)) ≡ true =
                rw (now, marked) refl in ap (λ z. cond z after d) f));
            stands = record {
              live = h.live;
              next = h.next;
              marks = h.marks;
              kept = h.kept;
              deferred = λ o. as_often o;
              once_live = h.once_live;
              once_marked = h.once_marked;
              open_where_marked = h.open_where_marked;
              near = h.near;
              releases = h.releases;
              hand = h.hand;
            };
            done = refl;
            told = refl;
            waits = refl;
          }
            where
              found : HasNewest initial (first ∷ ms)
              found = newest_of initial first ms

              newest : ℕ
              newest = found.newest

              within : newest ≤ last_boundary c
              within = found.one (last_boundary c) (subst (AllByRecursion (λ (m : ℕ). m ≤ last_boundary c)) is below)

              named : newest_boundary g.retiring id ≡ Some (last_below initial newest)
              named =
                  ends_with (boundaries_at g.retiring id) refl newest h.marks
                  (subst (λ xs. slice_get (map (last_below initial) xs) (length (map (last_below initial) xs) - 1)
                  ≡ Some (last_below initial newest)) (sym is) found.is)

              apart : (o : ℕ) → mem o os ≡ true → course.is_between newest (last_boundary c) o ≡ false
              apart =
                  some_between initial id newest (last_boundary c) g.deferred (let w = within in omega arith) near
                  (all_weaker (λ (q : ChunkPayloadData). P q × IsNear initial q.tsn)
                  (λ (q : ChunkPayloadData). IsNear initial q.tsn) g.deferred (λ q k. k.1) h.kept)
                  (subst (λ x. has_between id x b g.deferred ≡ false) named none)

              is_le : (x y : ℕ) → x ≤ y → nat_le x y ≡ true
              is_le x y l = grind arith

              le : nat_le newest (last_boundary c) ≡ true
              le = is_le newest (last_boundary c) within

              marked : is_marked c.marks (filter (λ o. mem o os) c.deferred) (last_boundary c) ≡ true
              marked =
                  subst (λ xs. is_marked xs (filter (λ o. mem o os) c.deferred) (last_boundary c) ≡ true) (sym is)
                  (found.marked (filter (λ o. mem o os) c.deferred) (last_boundary c)
                  (rw (le, none_of newest c.deferred apart) refl))

              as_often : (o : ℕ) → times o os ≤ times o (filter (λ x. mem x os) c.deferred)
              as_often o =
                  let e = times_chosen (λ x. mem x os) o c.deferred in
                  let f = h.deferred o in
                  ⊎_elim
                  (λ (m : mem o os ≡ true).
                  let e' : times o (filter (λ x. mem x os) c.deferred) ≡ times o c.deferred =
                  e ∙ ap (λ z. if z then times o c.deferred else 0) m in omega arith)
                  (λ (m : mem o os ≡ false). let z = none_times o os m in omega arith) (cases_Bool (mem o os))

      by : (r : Bool) → retires g id ≡ r → (between : Bool)
          → has_between id (newest_boundary g.retiring id) b g.deferred ≡ between → (drained : Bool)
          → is_drained p.streams id ≡ drained
          → RetiresOn initial id P IsHeld
          (retired_as (retirement_of g id b (is_drained p.streams id))
          (record p { generations = retired g id b (is_drained p.streams id) }) id).0.generations
          (retired_as (retirement_of g id b (is_drained p.streams id))
          (record p { generations = retired g id b (is_drained p.streams id) }) id).0.streams c
      by true r true t drained e =
          rw (r, t) (more (h.open_where_marked (marked (boundaries_at g.retiring id) refl h.marks)))
        where
          marked : (o : Option (List ℕ)) → boundaries_at g.retiring id ≡ o → MarksAs initial o c.marks → c.marks ≡ []
              → ⊥
          marked None is f none = true≢false (sym r ∙ ap is_some is)
          marked (Some bs) is f none = (let l = f.1 in let n : length c.marks ≡ 0 = ap length none in omega arith)
      by true r false t drained e = rw (r, t) (left r t)
      by false r between t true e = rw (r, e) (over r e)
      by false r between t false e = rw (r, e) (more (open_there (stream_at p.streams id) refl c.live refl h.live e))
        where
          open_there : (o : Option StreamView) → stream_at p.streams id ≡ o → (l : Option Live) → c.live ≡ l
              → LiveAs IsHeld o l → is_drained p.streams id ≡ false → is_readable c.live ≡ true
          open_there None is l live a f = absurd (true≢false (ap is_drained_at (sym is) ∙ f))
          open_there (Some t) is None live a f = absurd a
          open_there (Some t) is (Some l) live a f =
              ap is_readable live ∙ a.is_open ∙ not_not _ (or_parts _ _ (ap is_drained_at (sym is) ∙ f)).0
            where
              not_not : (z : Bool) → not z ≡ false → z ≡ true
              not_not true e = refl
              not_not false e = absurd (true≢false e)
