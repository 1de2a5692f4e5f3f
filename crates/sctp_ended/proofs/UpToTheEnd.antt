-- A live stream holds nothing but pieces that pass a test, or lie not above where the generation ends that is read:
-- whatever happens, as long as that generation ended where a request of the peer is taken up.
use Rattle.std.proofs.Common.{◌≡◌, ◌++◌, refl, sym, ap, ◌∙◌, subst, ⊎_elim, ℕ, zero, suc, ◌==◌, ◌&&◌, ◌||◌, Bool, true}
use Rattle.std.proofs.Common.{false, not, cond, eqb, List, [], ◌∷◌, fold, filter, Option, Some, None, is_some, is_eq}
use Rattle.std.proofs.Common.{nat_cmp}
use Rattle.std.specs.BTreeMap.{is_at}
use Rattle.std.specs.List.{AllByRecursion}
use Rattle.std.proofs.lemmas.Bool.{and_parts, cond-true, eq-eqb, eqb-true, false≢true, or_cases, or_left, or_parts}
use Rattle.std.proofs.lemmas.Bool.{or_right}
use Rattle.std.proofs.lemmas.Cmp.{eq_by_cmp_equiv, nat_cmp_total}
use Rattle.std.proofs.lemmas.Map.{lookup-set_value}
use Rattle.sctp_model.proofs.Lists.{all_passed, all_weaker}
use Rattle.sctp_wire_types.specs.declared.chunk.ChunkPayloadData.{ChunkPayloadData}
use Rattle.sctp_streams.specs.declared.setting.Setting.TheVariants as settings
use Rattle.sctp_streams.specs.Stream.{with_setting, without_unread}
use Rattle.sctp_streams.specs.Streams.{StreamMap, changed_stream, live_ids, stream_at, waiting_of}
use Rattle.sctp_streams.proofs.LowMarks.{found_as}
use Rattle.sctp_generations.specs.declared.retirement.Retirement.{Retirement}
use Rattle.sctp_generations.specs.declared.retirement.Retirement.TheVariants as retirements
use Rattle.sctp_generations.specs.Deferred.{is_above, is_of, is_up_to}
use Rattle.sctp_generations.specs.Generations.{GenerationsView, after_given_to, discarded, first_boundary}
use Rattle.sctp_generations.specs.Generations.{given_to, given_to_all, is_hidden, no_generations, readable_end}
use Rattle.sctp_generations.specs.Generations.{retired_by}
use Rattle.sctp_generations.specs.Generations.{retirement_of, retires, without_newest_of}
use Rattle.sctp_generations.specs.Retiring.{RetiringMap, boundaries_at, count_at, first_of, is_retiring, passed}
use Rattle.sctp_generations.specs.Retiring.{readable_boundary, retired_at, retired_with}
use Rattle.sctp_reset_requests.specs.Ids.{has_id}
use Rattle.sctp_reset_requests.specs.Peer as peer
use Rattle.sctp_reset_requests.specs.Peer.{PeerView, boundary_for, boundary_of}
use Rattle.sctp_reset_requests.specs.Request.{PeerRequestView, names, names_all}
use Rattle.sctp_resets.specs.Channels.{Channels, channels, delivered, is_write_half_closed}
use Rattle.sctp_resets.specs.Draining.{Reading, ended, next_generation_read, passed_once, passed_times, passed_where}
use Rattle.sctp_resets.specs.Draining.{with_write_half}
use Rattle.sctp_resets.specs.Performing.{Performing, answered_in, is_drained, named_in, named_live, performing}
use Rattle.sctp_resets.specs.Performing.{retired_as, retired_each, retired_next, retired_one, with_retired}
use Rattle.sctp_resets.specs.Resets.{ResetsView, all_released, own_answered, performed, performed_with, read_out}
use Rattle.sctp_resets.proofs.ListsOver.{all_filtered, of_chosen}
use Rattle.sctp_resets.proofs.StreamsBeside.{removed_apart, set_apart}
use Rattle.sctp_reset_fit.specs.Laws.{Passes}
use Rattle.sctp_reset_fit.specs.Pieces.{HoldsOnly}
use Rattle.sctp_reset_fit.specs.Stands.{IsOnce}
use Rattle.sctp_reset_fit.proofs.Elsewhere.{StaysOf, times_stay}
use Rattle.sctp_reset_fit.proofs.Once.{inserted_apart, inserted_there}
use Rattle.sctp_ended.proofs.Carried.{IsCarried, IsCarriedByStreams, ResettingIs, emptied_is_mild, half_closed}
use Rattle.sctp_ended.proofs.Carried.{half_closed_is_mild}
use Rattle.sctp_ended.proofs.CarriedByCalls.{set_is_mild}
use Rattle.sctp_ended.proofs.CarriedInResets.{applied_of_carries}
use Rattle.sctp_ended.proofs.LiveStream.{ended_at, none_at}
use Rattle.sctp_ended.proofs.PassingStreams.{Holds, HoldsPassing, all_delivered_passing, changed_passing}
use Rattle.sctp_ended.proofs.PassingStreams.{emptied_passing, made_passing, passed_in_passing}
use Rattle.sctp_ended.proofs.PassingStreams.{pushed_passing, read_in_passing, weaker_passing, without_passing}

-- Ends

-- DATA that is of the generation that is read lies not above its end
read_now_is_within : (o : Option (List ℕ)) (in_progress : Option ℕ) (tsn : ℕ)
    → (is_some o || is_above in_progress tsn) ≡ false → is_up_to (first_boundary (first_of o) in_progress) tsn ≡ true
read_now_is_within None in_progress tsn e = by (is_up_to in_progress tsn) e
  where
    by : (b : Bool) → not b ≡ false → b ≡ true
    by true e = refl
    by false e = absurd (false≢true (sym e))
read_now_is_within (Some boundaries) in_progress tsn e = absurd (false≢true (sym e))

-- where no request is in progress any more, no less does
within_still : (o in_progress : Option ℕ) (tsn : ℕ) → is_up_to (first_boundary o in_progress) tsn ≡ true
    → is_up_to (first_boundary o None) tsn ≡ true
within_still None in_progress tsn e = refl
within_still (Some boundary) in_progress tsn e = e

-- all does where neither a request is in progress nor an ended generation is read
all_is_within : (o : Option (List ℕ)) (tsn : ℕ) → not (is_some o) ≡ true
    → is_up_to (first_boundary (first_of o) None) tsn ≡ true
all_is_within None tsn e = refl
all_is_within (Some boundaries) tsn e = absurd (false≢true e)

-- a boundary more, that of the request in progress, leaves the end
first_stays : (boundaries : List ℕ) (last : ℕ) (in_progress : Option ℕ) → in_progress ≡ Some last
    → first_boundary (first_of (Some (boundaries ++ last ∷ []))) in_progress
    ≡ first_boundary (first_of (Some boundaries)) in_progress
first_stays [] last in_progress e = sym e
first_stays (b ∷ bs) last in_progress e = refl

-- The streams that a request names

module _ (id : ℕ) where
  none_is : (ks : List ℕ) → has_id id ks ≡ false → AllByRecursion (λ (k : ℕ). eqb id k ≡ false) ks
  none_is [] h = tt
  none_is (k ∷ ks) h =
      let parts = or_parts (is_eq (nat_cmp id k)) (has_id id ks) h in
      (sym (found_as id k) ∙ parts.0, none_is ks parts.1)

  named_of : (all : Bool) (ls ks : List ℕ) → all ≡ false → AllByRecursion (λ (k : ℕ). eqb id k ≡ false) ks
      → AllByRecursion (λ (k : ℕ). eqb id k ≡ false) (cond all ls ks)
  named_of true ls ks e each = absurd (false≢true (sym e))
  named_of false ls ks e each = each

  whatever : (P : ℕ → Type 0) → ((k : ℕ) → P k) → (ks : List ℕ) → AllByRecursion P ks
  whatever P f [] = tt
  whatever P f (k ∷ ks) = (f k, whatever P f ks)

  -- each of those that it retires it names
  named_each : (m : StreamMap) (q : PeerRequestView)
      → AllByRecursion (λ (k : ℕ). id ≡ k → names q id ≡ true) (named_live m q)
  named_each m q = by (names q id) refl
    where
      by : (b : Bool) → names q id ≡ b → AllByRecursion (λ (k : ℕ). id ≡ k → names q id ≡ true) (named_live m q)
      by true e = whatever (λ (k : ℕ). id ≡ k → names q id ≡ true) (λ k same. e) (named_live m q)
      by false e =
          let parts = or_parts (names_all q) (has_id id q.ids) e in
          all_weaker (λ (k : ℕ). eqb id k ≡ false) (λ (k : ℕ). id ≡ k → names q id ≡ true) (named_live m q)
          (λ k other same. absurd (false≢true (sym other ∙ eq-eqb id k same)))
          (named_of (names_all q) (live_ids m) (filter (λ i. is_some (stream_at m i)) q.ids) parts.0
          (all_filtered (λ (k : ℕ). eqb id k ≡ false) (λ i. is_some (stream_at m i)) q.ids (none_is q.ids parts.1)))

  -- where a generation of some stream that it names ends, the end of the generation that is read stays
  end_stays : (q : PeerRequestView) (m : RetiringMap) (k : ℕ) → (id ≡ k → names q id ≡ true)
      → first_boundary (first_of (boundaries_at (retired_with m k q.last_tsn) id)) (boundary_for (Some q) id)
      ≡ first_boundary (first_of (boundaries_at m id)) (boundary_for (Some q) id)
  end_stays q m k named = by (eqb id k) refl
    where
      last : ℕ
      last = q.last_tsn

      -- another one
      apart : eqb id k ≡ false → (o : Option (List ℕ)) → boundaries_at (retired_at o m k last) id ≡ boundaries_at m id
      apart other None = inserted_apart id k (last ∷ []) m other
      apart other (Some bs) = set_apart id k (found_as id k ∙ other) (bs ++ last ∷ []) m

      -- this one
      bound : names q id ≡ true → boundary_for (Some q) id ≡ Some last
      bound e = cond-true (names q id) (Some last) None e

      mine : names q id ≡ true → (o : Option (List ℕ)) → boundaries_at m id ≡ o
          → first_boundary (first_of (boundaries_at (retired_at o m id last) id)) (boundary_for (Some q) id)
          ≡ first_boundary (first_of o) (boundary_for (Some q) id)
      mine e None is =
          ap (λ (o : Option (List ℕ)). first_boundary (first_of o) (boundary_for (Some q) id))
          (inserted_there id (last ∷ []) m is)
          ∙ sym (bound e)
      mine e (Some bs) is =
          ap (λ (o : Option (List ℕ)). first_boundary (first_of o) (boundary_for (Some q) id))
          (lookup-set_value (eq_by_cmp_equiv nat_cmp_total) (is_at (nat_cmp id))
          ((eq_by_cmp_equiv nat_cmp_total).congr id) id (bs ++ last ∷ []) m (ap is_some is)
          ∙ cond-true _ (Some (bs ++ last ∷ [])) (boundaries_at m id) (found_as id id ∙ eq-eqb id id refl))
          ∙ first_stays bs last (boundary_for (Some q) id) (bound e)

      by : (b : Bool) → eqb id k ≡ b
          → first_boundary (first_of (boundaries_at (retired_with m k last) id)) (boundary_for (Some q) id)
          ≡ first_boundary (first_of (boundaries_at m id)) (boundary_for (Some q) id)
      by false other =
          ap (λ (o : Option (List ℕ)). first_boundary (first_of o) (boundary_for (Some q) id))
          (apart other (boundaries_at m k))
      by true same =
          let one : id ≡ k = eqb-true id k same in
          subst
          (λ (j : ℕ).
          first_boundary (first_of (boundaries_at (retired_with m j last) id)) (boundary_for (Some q) id)
          ≡ first_boundary (first_of (boundaries_at m id)) (boundary_for (Some q) id)) one
          (mine (named one) (boundaries_at m id) refl)

-- DATA passes the test, or lies not above this end
abbrev pub within : (ChunkPayloadData → Bool) → Option ℕ → ChunkPayloadData → Bool
within test end d = test d || is_up_to end d.tsn

-- where the generation of the stream ends that is read
abbrev pub end_now : ℕ → GenerationsView → PeerView → Option ℕ
end_now id g p = readable_end g id (boundary_of p id)

module _ (test : ChunkPayloadData → Bool) (id : ℕ) where
  abbrev pub StreamIsWithin : GenerationsView → PeerView → StreamMap → Type 0
  StreamIsWithin g p m = HoldsPassing (within test (end_now id g p)) id m

  more_within : (end other : Option ℕ) → ((tsn : ℕ) → is_up_to end tsn ≡ true → is_up_to other tsn ≡ true)
      → (d : ChunkPayloadData) → within test end d ≡ true → within test other d ≡ true
  more_within end other more d h =
      ⊎_elim (λ (passes : test d ≡ true). or_left (test d) (is_up_to other d.tsn) passes)
      (λ (below : is_up_to end d.tsn ≡ true). or_right (test d) (is_up_to other d.tsn) (more d.tsn below))
      (or_cases (test d) (is_up_to end d.tsn) h)

  pub all_pass : (end : Option ℕ) → ((d : ChunkPayloadData) → is_up_to end d.tsn ≡ true → test d ≡ true)
      → (d : ChunkPayloadData) → within test end d ≡ true → test d ≡ true
  all_pass end passing d h =
      ⊎_elim (λ (passes : test d ≡ true). passes) (λ (below : is_up_to end d.tsn ≡ true). passing d below)
      (or_cases (test d) (is_up_to end d.tsn) h)

  by_streams : IsCarriedByStreams StreamIsWithin
  by_streams = record {
    changes = λ g p m change k mild h. changed_passing (within test (end_now id g p)) id change mild m k h;
    reads = λ g p m k h. read_in_passing (within test (end_now id g p)) id m k h;
    passes = λ g p m tsn h. passed_in_passing (within test (end_now id g p)) id m tsn h;
    makes = λ g p m k first kind none h. made_passing (within test (end_now id g p)) id m k first kind none h;
    ends = λ g p m k h. without_passing (within test (end_now id g p)) id m k h;
    skips = λ g p m left h. h;
  }

  pushed_within : (g : GenerationsView) (p : PeerView) (m : StreamMap) (d : ChunkPayloadData)
      → is_hidden g d.stream_identifier d.tsn (boundary_of p d.stream_identifier) ≡ false → id ≡ d.stream_identifier
      → within test (end_now id g p) d ≡ true
  pushed_within g p m d now same =
      or_right (test d) (is_up_to (end_now id g p) d.tsn)
      (subst (λ (j : ℕ). is_up_to (readable_end g j (boundary_of p j)) d.tsn ≡ true) (sym same)
      (read_now_is_within (boundaries_at g.retiring d.stream_identifier) (boundary_of p d.stream_identifier) d.tsn now))

  -- A request of the peer is performed

  module _ (q : PeerRequestView) where
    -- the end while it is in progress
    abbrev end_with : GenerationsView → Option ℕ
    end_with g = readable_end g id (boundary_for (Some q) id)

    abbrev PerformingIsWithin : Performing → Type 0
    PerformingIsWithin p = HoldsPassing (within test (end_with p.generations)) id p.streams

    one_within : (p : Performing) (k : ℕ) → (id ≡ k → names q id ≡ true) → PerformingIsWithin p
        → PerformingIsWithin (retired_one q.last_tsn p k).0
    unfolding retired_one
    one_within p k named h = by (retirement_of p.generations k q.last_tsn (is_drained p.streams k))
      where
        by : (w : Retirement)
            → PerformingIsWithin
            (retired_as w (record p { generations = retired_by w p.generations k q.last_tsn }) k).0
        by retirements.Ended = without_passing (within test (end_with p.generations)) id p.streams k h
        by retirements.Retires =
            subst (λ (end : Option ℕ). HoldsPassing (within test end) id p.streams)
            (sym (end_stays id q p.generations.retiring k named)) h
        by retirements.Unchanged = h

    listed_within : (p : Performing) (made : Bool) (ids : List ℕ) (k : ℕ) → PerformingIsWithin p
        → PerformingIsWithin (with_retired (p, made) ids k).0
    listed_within p true ids k h = h
    listed_within p false ids k h = h

    each_within : (ks : List ℕ) (p : Performing × List ℕ)
        → AllByRecursion (λ (k : ℕ). id ≡ k → names q id ≡ true) ks → PerformingIsWithin p.0
        → PerformingIsWithin (fold (retired_next q.last_tsn) p ks).0
    each_within [] p named h = h
    each_within (k ∷ ks) p named h =
        each_within ks (retired_next q.last_tsn p k) named.1
        (listed_within (retired_one q.last_tsn p.0 k).0 (retired_one q.last_tsn p.0 k).1 p.1 k
        (one_within p.0 k named.0 h))

    -- what waited goes to streams that do not retire
    given_within : (g : GenerationsView)
        → AllByRecursion
        (λ (d : ChunkPayloadData). id ≡ d.stream_identifier → within test (readable_end g id None) d ≡ true)
        (given_to_all g)
    given_within g =
        all_weaker (λ (d : ChunkPayloadData). not (is_retiring g.retiring d.stream_identifier) ≡ true)
        (λ (d : ChunkPayloadData). id ≡ d.stream_identifier → within test (readable_end g id None) d ≡ true)
        (given_to_all g)
        (λ d due same. or_right (test d) (is_up_to (readable_end g id None) d.tsn)
        (all_is_within (boundaries_at g.retiring id) d.tsn
        (subst (λ (j : ℕ). not (is_retiring g.retiring j) ≡ true) (sym same) due)))
        (all_passed (λ (d : ChunkPayloadData). not (is_retiring g.retiring d.stream_identifier)) g.deferred)

    released_within : (first limit : ℕ) (r : ResetsView) (c : Channels) → boundary_of r.peer id ≡ None
        → HoldsPassing (within test (end_with r.generations)) id c.streams
        → ResettingIs StreamIsWithin (all_released first limit r c)
    released_within first limit r c none h =
        subst
        (λ (o : Option ℕ).
        HoldsPassing (within test (readable_end r.generations id o)) id
        (fold (delivered first limit) c (given_to_all r.generations)).streams) (sym none)
        (all_delivered_passing (within test (readable_end r.generations id None)) id first limit
        (given_to_all r.generations) c
        (given_within r.generations)
        (weaker_passing (within test (end_with r.generations)) (within test (readable_end r.generations id None)) id
        c.streams
        (more_within (end_with r.generations) (readable_end r.generations id None)
        (within_still (first_of (boundaries_at r.generations.retiring id)) (boundary_for (Some q) id))) h))

    with_within : (first limit : ℕ) (r : ResetsView) (to_accept named : List ℕ) (p : Performing × List ℕ)
        → boundary_of r.peer id ≡ None → PerformingIsWithin p.0
        → ResettingIs StreamIsWithin (performed_with q first limit r to_accept named p).0
    with_within first limit r to_accept named (p, ids) none h =
        released_within first limit (record r {
          own = own_answered q named ids r.own;
          debts = p.debts;
          generations = without_newest_of p.generations q.ids;
        }) (channels p.streams p.events to_accept) none h

    performed_within : (first limit : ℕ) (r : ResetsView) (c : Channels) → boundary_of r.peer id ≡ None
        → HoldsPassing (within test (end_with r.generations)) id c.streams
        → ResettingIs StreamIsWithin (performed q first limit r c).0
    unfolding performed
    performed_within first limit r c none h =
        let named : List ℕ = named_in r.own c.streams q in
        with_within first limit r c.to_accept named
        (answered_in r.own named (retired_each q (performing r.generations r.debts c.streams c.events))) none
        (each_within (named_live c.streams q) (performing r.generations r.debts c.streams c.events, [])
        (named_each id c.streams q) h)

  -- The stream is read out: what is given to the next generation lies not above the end of that

  module _ (p : PeerView) (first limit : ℕ) where
    abbrev ReadingIsWithin : Reading → Type 0
    ReadingIsWithin s = StreamIsWithin s.0 p s.1.streams

    given_next : (g : GenerationsView)
        → AllByRecursion (λ (d : ChunkPayloadData). id ≡ d.stream_identifier → within test (end_now id g p) d ≡ true)
        (given_to g id (boundary_of p id))
    given_next g =
        all_weaker
        (λ (d : ChunkPayloadData). (is_of id d && is_up_to (end_now id g p) d.tsn) ≡ true)
        (λ (d : ChunkPayloadData). id ≡ d.stream_identifier → within test (end_now id g p) d ≡ true)
        (given_to g id (boundary_of p id))
        (λ d due same. or_right (test d) (is_up_to (end_now id g p) d.tsn)
        (and_parts (is_of id d) (is_up_to (end_now id g p) d.tsn) due).1)
        (all_passed (λ (d : ChunkPayloadData). is_of id d && is_up_to (end_now id g p) d.tsn) g.deferred)

    half_within : (closed : Bool) (g : GenerationsView) (m : StreamMap) → StreamIsWithin g p m
        → StreamIsWithin g p (with_write_half closed m id)
    half_within true g m h =
        changed_passing (within test (end_now id g p)) id (λ s. with_setting s settings.WriteHalfClosed)
        (set_is_mild settings.WriteHalfClosed) m id h
    half_within false g m h = h

    next_within : (g : GenerationsView) (c : Channels) → IsOnce id c.streams.by_id
        → ReadingIsWithin (next_generation_read first limit id (boundary_of p id) (g, c))
    unfolding next_generation_read
    next_within g c once =
        applied_of_carries by_streams p (
          after_given_to g id (boundary_of p id),
          with_write_half (is_write_half_closed c.streams id) filled.streams id,
          filled.events,
        ) id
        (half_within (is_write_half_closed c.streams id) (after_given_to g id (boundary_of p id)) filled.streams
        (all_delivered_passing (within test (end_now id g p)) id first limit (given_to g id (boundary_of p id))
        (ended c id)
        (given_next g) (ended_at (Holds (within test (end_now id g p)) id) id c.streams once)))
      where
        filled : Channels
        filled = fold (delivered first limit) (ended c id) (given_to g id (boundary_of p id))

    once_within : (s : Reading) → ReadingIsWithin s
        → ReadingIsWithin (passed_once first limit id (boundary_of p id) s).0
    once_within (g, c) h = by (retires g id && (waiting_of c.streams id == 0))
      where
        left : GenerationsView
        left = record g { retiring = passed g.retiring id }

        by : (b : Bool)
            → ReadingIsWithin
            (passed_where first limit id (boundary_of p id) c
            (cond {A = GenerationsView × Bool} b (left, true) (g, false))).0
        by true = next_within left c h.once
        by false = h

    times_within : (n : ℕ) (s : Reading) → ReadingIsWithin s
        → ReadingIsWithin (passed_times n first limit id (boundary_of p id) s)
    times_within zero s h = h
    times_within (suc n) s h =
        of_chosen ReadingIsWithin (passed_once first limit id (boundary_of p id) s).1
        (passed_times n first limit id (boundary_of p id) (passed_once first limit id (boundary_of p id) s).0)
        (passed_once first limit id (boundary_of p id) s).0
        (times_within n (passed_once first limit id (boundary_of p id) s).0 (once_within s h)) (once_within s h)

  -- what happens to other streams leaves this one
  others_within : {Q : ChunkPayloadData → Type 0} {g h : GenerationsView} {m n : StreamMap} (p : PeerView)
      → StaysOf id Q g m h n → StreamIsWithin g p m → StreamIsWithin h p n
  others_within p s held = record {
    once = s.once_live held.once;
    so = λ t e.
        subst
        (λ (o : Option (List ℕ)).
        HoldsOnly (Passes (within test (first_boundary (first_of o) (boundary_of p id)))) id t.reassembly) (sym s.marks)
        (held.so t (sym s.live ∙ e));
  }

  read_out_within : (first limit k : ℕ) (r : ResetsView) (c : Channels) → StreamIsWithin r.generations r.peer c.streams
      → ResettingIs StreamIsWithin (read_out first limit k r c)
  read_out_within first limit k r c h = by (eqb id k) refl
    where
      by : (b : Bool) → eqb id k ≡ b → ResettingIs StreamIsWithin (read_out first limit k r c)
      by true same =
          subst (λ (j : ℕ). ResettingIs StreamIsWithin (read_out first limit j r c)) (eqb-true id k same)
          (times_within r.peer first limit (count_at r.generations.retiring id) (r.generations, c) h)
      by false other =
          others_within r.peer
          (times_stay id k (Passes test) (λ same. false≢true (sym other ∙ eq-eqb id k (sym same))) first limit
          (boundary_of r.peer k) (count_at r.generations.retiring k) (r.generations, c)) h

  -- It is stopped

  stopped_within : (g : GenerationsView) (p : PeerView) (m : StreamMap) (k : ℕ) → StreamIsWithin g p m
      → StreamIsWithin (discarded g k) p (changed_stream without_unread (changed_stream half_closed m k) k)
  stopped_within g p m k h = by (eqb id k) refl
    where
      by : (b : Bool) → eqb id k ≡ b
          → StreamIsWithin (discarded g k) p (changed_stream without_unread (changed_stream half_closed m k) k)
      by true same =
          subst
          (λ (j : ℕ).
          StreamIsWithin (discarded g j) p (changed_stream without_unread (changed_stream half_closed m j) j))
          (eqb-true id k same)
          (emptied_passing (within test (end_now id (discarded g id) p)) id (Holds (within test (end_now id g p)) id)
          (changed_stream half_closed m id)
          (changed_passing (within test (end_now id g p)) id half_closed half_closed_is_mild m id h))
      by false other =
          subst
          (λ (o : Option (List ℕ)).
          HoldsPassing (within test (first_boundary (first_of o) (boundary_of p id))) id
          (changed_stream without_unread (changed_stream half_closed m k) k))
          (sym (removed_apart id k (found_as id k ∙ other) g.retiring))
          (changed_passing (within test (end_now id g p)) id without_unread emptied_is_mild
          (changed_stream half_closed m k) k
          (changed_passing (within test (end_now id g p)) id half_closed half_closed_is_mild m k h))

  -- but where a request is taken up, it is so whatever happens
  pub within_is_carried : (Open : GenerationsView → PeerView → Type 0)
      → ((g : GenerationsView) (p : PeerView) (m : StreamMap) (q : PeerRequestView) → p.in_progress ≡ None → Open g p
      → StreamIsWithin g p m → StreamIsWithin g (record p { in_progress = Some q }) m)
      → IsCarried Open StreamIsWithin
  within_is_carried Open taken_up = record {
    streams = by_streams;
    closes = λ g p m h. none_at (Holds (within test (end_now id no_generations (peer.peer_closed p))) id) id m;
    drops = λ g p m choose h. h;
    meets = λ g p m last h. h;
    defers = λ g p m d later h. h;
    pushes = λ g p m d limit now fits h.
        pushed_passing (within test (end_now id g p)) id m d limit (pushed_within g p m d now) fits h;
    takes_up = taken_up;
    performs = λ q first limit r c waits h.
        performed_within q first limit (record r { peer = peer.completed q }) c refl
        (subst
        (λ (o : Option PeerRequestView).
        HoldsPassing (within test (readable_end r.generations id (boundary_for o id))) id c.streams) waits h);
    reads_out = read_out_within;
    stops = stopped_within;
  }

  -- An ended generation is read on where a request is taken up

  -- the generation that is read ends somewhere
  abbrev pub EndsSomewhere : GenerationsView → PeerView → Type 0
  EndsSomewhere g p = is_some (end_now id g p) ≡ true

  same_end : (o : Option ℕ) (in_progress later : Option PeerRequestView) → in_progress ≡ None
      → is_some (first_boundary o (boundary_for in_progress id)) ≡ true
      → first_boundary o (boundary_for later id) ≡ first_boundary o (boundary_for in_progress id)
  same_end (Some boundary) in_progress later none some = refl
  same_end None None later none some = absurd (false≢true some)
  same_end None (Some q) later none some = absurd (false≢true (ap is_some (sym none)))

  pub ends_as_before : (g : GenerationsView) (p : PeerView) (m : StreamMap) (q : PeerRequestView)
      → p.in_progress ≡ None → EndsSomewhere g p → StreamIsWithin g p m
      → StreamIsWithin g (record p { in_progress = Some q }) m
  ends_as_before g p m q none some h =
      subst (λ (end : Option ℕ). HoldsPassing (within test end) id m)
      (sym (same_end (readable_boundary g.retiring id) p.in_progress (Some q) none some)) h
