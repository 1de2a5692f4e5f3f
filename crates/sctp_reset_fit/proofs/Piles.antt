-- How often an offset stands among what a stream holds, once a piece comes, a message is read, or pieces are dropped.
use Rattle.std.proofs.Common.{◌≡◌, refl, sym, ap, ◌∙◌, subst, ℕ, zero, suc, ◌+◌, ◌-◌, ◌≤◌, Bool, true, false, not}
use Rattle.std.proofs.Common.{cond, List, [], ◌∷◌, ◌++◌, filter, map, length, insert, remove}
use Rattle.std.proofs.Common.{Option, Some, None, arith, eqb, ⊎_elim, slice_get, slice_set, if◌then◌else◌, unwrap_or}
use Rattle.std.specs.List.{AllByRecursion}
use Rattle.std.proofs.lemmas.Bool.{and_parts, cases_Bool, true≢false, ne_eqb}
use Rattle.std.proofs.lemmas.List.{map_push}
use Rattle.sctp_serial.specs.Serial.{ssn_lt, ssn_lte, tsn_lte}
use Rattle.sctp_wire_types.specs.declared.chunk.ChunkPayloadData.{ChunkPayloadData}
use Rattle.sctp_receive_queues.specs.Messages.{ReceivedMessage, message_of}
use Rattle.sctp_receive_queues.specs.Pieces.{index_of, is_complete}
use Rattle.sctp_receive_queues.specs.Reassembly.{Group, Reassembly, above, after_read, empty_reassembly, finished}
use Rattle.sctp_receive_queues.specs.Reassembly.{group_of}
use Rattle.sctp_receive_queues.specs.Reassembly.{grown, grown_at, index_for_ssn, index_for_tsn, index_of_ssn, is_due}
use Rattle.sctp_receive_queues.specs.Reassembly.{joins_after, joins_before, part, pushed, put_at, put_between}
use Rattle.sctp_receive_queues.specs.Reassembly.{read_from, read_ordered, refusal, refusal_of_unordered, run_at}
use Rattle.sctp_receive_queues.specs.Reassembly.{run_before, skipped, stays}
use Rattle.sctp_receive_queues.specs.Reassembly.{taken, trimmed, unordered_put, unordered_skipped, with_ordered}
use Rattle.sctp_receive_queues.specs.Reassembly.{with_put}
use Rattle.sctp_receive_queues.specs.Reassembly.{with_unordered}
use Rattle.sctp_courses.specs.Course.{times}
use Rattle.sctp_courses.proofs.Times.{times-join}
use Rattle.sctp_model.proofs.Lists.{all_push}
use Rattle.sctp_reset_fit.specs.Held.{AreAllOfOne, IsHeldOn, IsMadeOn, offsets_in, offsets_in_all, pieces_of_groups}
use Rattle.sctp_reset_fit.specs.Pieces.{ArePiecesOf, HoldsOnly, IsMadeOf, Order}
use Rattle.sctp_reset_fit.specs.Stands.{IsTakenOut, offset_of}
use Rattle.sctp_reset_fit.proofs.HeldPieces.{empty_holds, pushed_holds, run_at_each, skipped_holds}
use Rattle.sctp_reset_fit.proofs.HeldPieces.{unordered_skipped_holds, with_unordered_each}

-- one of a number, or none
abbrev one_if : Bool → ℕ
one_if b = if b then 1 else 0

module _ (initial o : ℕ) where
  -- how often the offset stands among pieces, and among those of several messages
  abbrev In : List ChunkPayloadData → ℕ
  In ps = times o (offsets_in initial ps)

  abbrev InAll : List (List ChunkPayloadData) → ℕ
  InAll rs = times o (offsets_in_all initial rs)

  abbrev Is : ChunkPayloadData → ℕ
  Is p = one_if (eqb (offset_of initial p.tsn) o)

  in-join : (ps qs : List ChunkPayloadData) → In (ps ++ qs) ≡ In ps + In qs
  in-join [] qs = omega arith
  in-join (p ∷ ps) qs = let e = in-join ps qs in omega arith

  all-join : (rs ss : List (List ChunkPayloadData)) → InAll (rs ++ ss) ≡ InAll rs + InAll ss
  all-join [] ss = omega arith
  all-join (r ∷ rs) ss =
      let e = all-join rs ss in
      let a = times-join o (offsets_in initial r) (offsets_in_all initial (rs ++ ss)) in
      let b = times-join o (offsets_in initial r) (offsets_in_all initial rs) in omega arith

  all_first : (r : List ChunkPayloadData) (rs : List (List ChunkPayloadData)) → InAll (r ∷ rs) ≡ In r + InAll rs
  all_first r rs = times-join o (offsets_in initial r) (offsets_in_all initial rs)

  in_inserted : (p : ChunkPayloadData) (ps : List ChunkPayloadData) (at : ℕ) → In (insert ps at p) ≤ Is p + In ps
  in_inserted p [] zero = omega arith
  in_inserted p [] (suc at) = omega arith
  in_inserted p (q ∷ ps) zero = omega arith
  in_inserted p (q ∷ ps) (suc at) = let e = in_inserted p ps at in omega arith

  all_inserted_in : (r : List ChunkPayloadData) (rs : List (List ChunkPayloadData)) (at : ℕ)
      → InAll (insert rs at r) ≤ In r + InAll rs
  all_inserted_in r [] zero = let e = all_first r [] in omega arith
  all_inserted_in r [] (suc at) = let e = all_first r [] in omega arith
  all_inserted_in r (s ∷ rs) zero = let e = all_first r (s ∷ rs) in omega arith
  all_inserted_in r (s ∷ rs) (suc at) =
      let e = all_inserted_in r rs at in
      let a = all_first s (insert rs at r) in let b = all_first s rs in omega arith

  -- the one at an index, or none
  abbrev nth : List (List ChunkPayloadData) → ℕ → List ChunkPayloadData
  nth rs at = unwrap_or (slice_get rs at) []

  all_set : (rs : List (List ChunkPayloadData)) (at : ℕ) (r : List ChunkPayloadData)
      → InAll (slice_set rs at r) + In (nth rs at) ≤ InAll rs + In r
  all_set [] at r = omega arith
  all_set (s ∷ rs) zero r = let a = all_first r rs in let b = all_first s rs in omega arith
  all_set (s ∷ rs) (suc at) r =
      let e = all_set rs at r in
      let a = all_first s (slice_set rs at r) in let b = all_first s rs in omega arith

  all_removed : (rs : List (List ChunkPayloadData)) (at : ℕ) → InAll (remove rs at) + In (nth rs at) ≡ InAll rs
  all_removed [] at = empty at
    where
      empty : (at : ℕ) → InAll (remove [] at) + In (nth [] at) ≡ InAll []
      empty zero = refl
      empty (suc at) = refl
  all_removed (s ∷ rs) zero = let b = all_first s rs in omega arith
  all_removed (s ∷ rs) (suc at) =
      let e = all_removed rs at in
      let a = all_first s (remove rs at) in let b = all_first s rs in omega arith

  nth_next : (rs : List (List ChunkPayloadData)) (at : ℕ) (r : List ChunkPayloadData)
      → nth (slice_set rs at r) (suc at) ≡ nth rs (suc at)
  nth_next [] at r = refl
  nth_next (s ∷ rs) zero r = refl
  nth_next (s ∷ rs) (suc at) r = nth_next rs at r

  all_kept : (test : List ChunkPayloadData → Bool) (rs : List (List ChunkPayloadData))
      → InAll (filter test rs) ≤ InAll rs
  all_kept test [] = omega arith
  all_kept test (r ∷ rs) =
      let e = all_kept test rs in
      let a = all_first r (filter test rs) in
      let b = all_first r rs in
      ⊎_elim (λ (t : test r ≡ true). rw t (omega arith)) (λ (t : test r ≡ false). rw t (omega arith))
      (cases_Bool (test r))

  in_kept : (test : ChunkPayloadData → Bool) (ps : List ChunkPayloadData) → In (filter test ps) ≤ In ps
  in_kept test [] = omega arith
  in_kept test (p ∷ ps) =
      let e = in_kept test ps in
      ⊎_elim (λ (t : test p ≡ true). rw t (omega arith)) (λ (t : test p ≡ false). rw t (omega arith))
      (cases_Bool (test p))

  -- An ordered piece comes

  put_in : (p : ChunkPayloadData) (at : Option ℕ) (groups : List Group)
      → InAll (pieces_of_groups (put_at at groups p)) ≤ Is p + InAll (pieces_of_groups groups)
  put_in p None groups = new groups (index_for_ssn p.stream_sequence_number groups)
    where
      new : (gs : List Group) (at : ℕ)
          → InAll (pieces_of_groups (insert gs at (group_of p))) ≤ Is p + InAll (pieces_of_groups gs)
      new [] zero = omega arith
      new [] (suc at) = omega arith
      new (g ∷ gs) zero = let a = all_first (p ∷ []) (pieces_of_groups (g ∷ gs)) in omega arith
      new (g ∷ gs) (suc at) =
          let e = new gs at in
          let a = all_first g.pieces (pieces_of_groups (insert gs at (group_of p))) in
          let b = all_first g.pieces (pieces_of_groups gs) in omega arith
  put_in p (Some index) groups = more groups index
    where
      more : (gs : List Group) (at : ℕ)
          → InAll (pieces_of_groups (grown_at (slice_get gs at) at gs p)) ≤ Is p + InAll (pieces_of_groups gs)
      more [] at = omega arith
      more (g ∷ gs) zero =
          let a = all_first g.pieces (pieces_of_groups gs) in
          let b = all_first (insert g.pieces (index_of p.tsn g.pieces) p) (pieces_of_groups gs) in
          let c = in_inserted p g.pieces (index_of p.tsn g.pieces) in omega arith
      more (g ∷ gs) (suc at) = step (slice_get gs at) (more gs at)
        where
          step : (x : Option Group)
              → InAll (pieces_of_groups (grown_at x at gs p)) ≤ Is p + InAll (pieces_of_groups gs)
              → InAll (pieces_of_groups (grown_at x (suc at) (g ∷ gs) p)) ≤ Is p + InAll (pieces_of_groups (g ∷ gs))
          step None e = omega arith
          step (Some y) e =
              let a = all_first g.pieces (pieces_of_groups (slice_set gs at (grown y p))) in
              let b = all_first g.pieces (pieces_of_groups gs) in omega arith

  -- An unordered one

  no_last : (p : ChunkPayloadData) → joins_before [] p ≡ false
  no_last p = refl

  in_front : (runs : List (List ChunkPayloadData)) (at : ℕ) → run_before runs (suc at) ≡ nth runs (suc at - 1)
  in_front runs at = rw (ne_eqb (suc at) 0 (λ f. omega arith)) refl

  run_put : (p : ChunkPayloadData) (front back : Bool) (runs : List (List ChunkPayloadData)) (at : ℕ)
      → joins_before (run_before runs at) p ≡ front
      → InAll (put_between front back runs at (part front (run_before runs at) ++ p ∷ part back (run_at runs at)))
      ≤ Is p + InAll runs
  run_put p false false runs at e = let a = all_inserted_in (p ∷ []) runs at in omega arith
  run_put p false true runs at e =
      let a = all_set runs at (p ∷ run_at runs at) in omega arith
  run_put p true back runs zero e = absurd (true≢false (sym e ∙ no_last p))
  run_put p true false runs (suc at) e =
      subst (λ r. InAll (slice_set runs (suc at - 1) (r ++ p ∷ [])) ≤ Is p + InAll runs) (sym (in_front runs at))
      (before at (omega arith))
    where
      before : (k : ℕ) → suc at - 1 ≡ k
          → InAll (slice_set runs (suc at - 1) (unwrap_or (slice_get runs (suc at - 1)) [] ++ p ∷ [])) ≤ Is p + InAll
          runs
      before k f =
          let a = all_set runs (suc at - 1) (nth runs (suc at - 1) ++ p ∷ []) in
          let b = in-join (nth runs (suc at - 1)) (p ∷ []) in omega arith
  run_put p true true runs (suc at) e =
      subst (λ r. InAll (remove (slice_set runs (suc at - 1) (r ++ p ∷ nth runs (suc at))) (suc at)) ≤ Is p + InAll
      runs)
      (sym (in_front runs at)) (both (suc at - 1) (omega arith))
    where
      both : (k : ℕ) → suc k ≡ suc at
          → InAll (remove (slice_set runs k (nth runs k ++ p ∷ nth runs (suc at))) (suc at)) ≤ Is p + InAll runs
      both k f =
          let r : List ChunkPayloadData = nth runs k ++ p ∷ nth runs (suc at) in
          let a = all_set runs k r in
          let b = in-join (nth runs k) (p ∷ nth runs (suc at)) in
          let c = all_removed (slice_set runs k r) (suc at) in
          let d : nth (slice_set runs k r) (suc at) ≡ nth runs (suc at) =
          subst (λ z. nth (slice_set runs k r) z ≡ nth runs z) f (nth_next runs k r) in
          let g : In (nth (slice_set runs k r) (suc at)) ≡ In (nth runs (suc at)) = ap In d in omega arith

  -- the pieces of unordered messages, with those of complete ones
  abbrev Together : List (List ChunkPayloadData) → List (List ChunkPayloadData) → ℕ
  Together runs made = InAll runs + InAll made

  dropped_groups : (ssn : ℕ) (groups : List Group)
      → InAll (pieces_of_groups (filter (stays ssn) groups)) ≤ InAll (pieces_of_groups groups)
  dropped_groups ssn [] = omega arith
  dropped_groups ssn (g ∷ gs) =
      let e = dropped_groups ssn gs in
      let a = all_first g.pieces (pieces_of_groups (filter (stays ssn) gs)) in
      let b = all_first g.pieces (pieces_of_groups gs) in
      ⊎_elim (λ (t : stays ssn g ≡ true). rw t (omega arith)) (λ (t : stays ssn g ≡ false). rw t (omega arith))
      (cases_Bool (stays ssn g))

  trimmed_runs : (t : ℕ) (runs : List (List ChunkPayloadData)) → InAll (trimmed t runs) ≤ InAll runs
  trimmed_runs t runs =
      let a = all_kept (λ (r : List ChunkPayloadData). not (eqb (length r) 0)) (map (above t) runs) in
      let b = cut runs in omega arith
    where
      cut : (rs : List (List ChunkPayloadData)) → InAll (map (above t) rs) ≤ InAll rs
      cut [] = omega arith
      cut (r ∷ rs) =
          let e = cut rs in
          let a = all_first (above t r) (map (above t) rs) in
          let b = all_first r rs in
          let c : In (above t r) ≤ In r = in_kept (λ (p : ChunkPayloadData). not (tsn_lte p.tsn t)) r in omega arith

module _ (P : ChunkPayloadData → Type 0) (initial id : ℕ) where
  pub empty_on : IsHeldOn P initial id empty_reassembly []
  empty_on =
      record { only = empty_holds P id; made = []; whole = tt; complete = refl; few = λ o. omega arith }

  pub more_on : (q : Reassembly) (os more : List ℕ) → ((o : ℕ) → times o os ≤ times o more)
      → IsHeldOn P initial id q os → IsHeldOn P initial id q more
  more_on q os more few h = record {
    only = h.only;
    made = h.made;
    whole = h.whole;
    complete = h.complete;
    few = λ o. (let a = few o in let b = h.few o in omega arith);
  }

  pub skipped_on : (q : Reassembly) (os : List ℕ) (ssn : ℕ) → IsHeldOn P initial id q os
      → IsHeldOn P initial id (skipped q ssn) os
  skipped_on q os ssn h = record {
    only = skipped_holds P id q ssn h.only;
    made = h.made;
    whole = h.whole;
    complete = h.complete;
    few = λ o. (let a = h.few o in let b = dropped_groups initial o ssn q.ordered in omega arith);
  }

  pub passed_on : (q : Reassembly) (os : List ℕ) (t : ℕ) → IsHeldOn P initial id q os
      → IsHeldOn P initial id (unordered_skipped q t) os
  passed_on q os t h = record {
    only = unordered_skipped_holds P id q t h.only;
    made = h.made;
    whole = h.whole;
    complete = h.complete;
    few = λ o. (let a = h.few o in let b = trimmed_runs initial o t q.unordered in omega arith);
  }

  -- a run that is a whole message is that, among the complete ones
  finished_on : (runs : List (List ChunkPayloadData)) (at : ℕ) (messages : List ReceivedMessage)
      (made : List (List ChunkPayloadData)) → messages ≡ map message_of made
      → AllByRecursion (AreAllOfOne P id) made → ArePiecesOf P id Order.OutOfOrder (run_at runs at)
      → (more : List (List ChunkPayloadData)) × ((finished runs at messages).1 ≡ map message_of more)
      × AllByRecursion (AreAllOfOne P id) more
      × ((o : ℕ) → Together initial o (finished runs at messages).0 more ≤ Together initial o runs made)
  finished_on runs at messages made e whole run = by (is_complete (run_at runs at)) refl
    where
      by : (b : Bool) → is_complete (run_at runs at) ≡ b
          → (more : List (List ChunkPayloadData)) × ((finished runs at messages).1 ≡ map message_of more)
          × AllByRecursion (AreAllOfOne P id) more
          × ((o : ℕ) → Together initial o (finished runs at messages).0 more ≤ Together initial o runs made)
      by true c = rw c (
        made ++ run_at runs at ∷ [],
        ap (λ ms. ms ++ message_of (run_at runs at) ∷ []) e ∙ sym (map_push message_of made (run_at runs at)),
        all_push (AreAllOfOne P id) made (run_at runs at) whole (run, c),
        λ o.
            (let a = all_removed initial o runs at in
            let b = all-join initial o made (run_at runs at ∷ []) in
            let d = all_first initial o (run_at runs at) [] in omega arith),
      )
      by false c = rw c (made, e, whole, λ o. omega arith)

  module _ (q : Reassembly) (os : List ℕ) (p : ChunkPayloadData) (limit : ℕ) (so : P p)
      (stream : p.stream_identifier ≡ id) (accepted : refusal q p limit ≡ None) (h : IsHeldOn P initial id q os) where
    put : List (List ChunkPayloadData) × ℕ
    put = with_unordered q.unordered (index_for_tsn p.tsn q.unordered) p

    -- by whether it is unordered, and whether it is of a message before the next one
    pushed_if : (unordered late : Bool) → p.unordered ≡ unordered → ssn_lt p.stream_sequence_number q.next_ssn ≡ late
        → IsHeldOn P initial id (pushed q p).0 (offset_of initial p.tsn ∷ os)
    unfolding put
    pushed_if true late e f =
        let fits : refusal_of_unordered q.unordered p limit ≡ None = rw e at accepted in
        let run : ArePiecesOf P id Order.OutOfOrder (run_at put.0 put.1) =
        run_at_each P id put.0 put.1 (with_unordered_each P id q.unordered p limit h.only.unordered so stream e fits) in
        let done = finished_on put.0 put.1 q.complete h.made h.complete h.whole run in
        let only : HoldsOnly P id (pushed q p).0 = pushed_holds P id q p limit h.only so stream accepted in
        let to : (pushed q p).0 ≡ with_put q (unordered_put q.unordered q.complete p) = rw e refl in
        subst (λ (x : Reassembly). IsHeldOn P initial id x (offset_of initial p.tsn ∷ os)) (sym to) (record {
          only = subst (HoldsOnly P id) to only;
          made = done.0;
          whole = done.2;
          complete = done.1;
          few = λ o.
              (let a = h.few o in
              let b = done.3 o in
              let index : ℕ = index_for_tsn p.tsn q.unordered in
              let c = run_put initial o p (joins_before (run_before q.unordered index) p)
              (joins_after (run_at q.unordered index) p) q.unordered index refl in omega arith);
        })
    pushed_if false true e f =
        let to : (pushed q p).0 ≡ q = rw (e, f) refl in
        subst (λ (x : Reassembly). IsHeldOn P initial id x (offset_of initial p.tsn ∷ os)) (sym to) (record {
          only = h.only;
          made = h.made;
          whole = h.whole;
          complete = h.complete;
          few = λ o. (let a = h.few o in omega arith);
        })
    pushed_if false false e f =
        let only : HoldsOnly P id (pushed q p).0 = pushed_holds P id q p limit h.only so stream accepted in
        let to : (pushed q p).0 ≡ record q { ordered = with_ordered q.ordered p } = rw (e, f) refl in
        subst (λ (x : Reassembly). IsHeldOn P initial id x (offset_of initial p.tsn ∷ os)) (sym to) (record {
          only = subst (HoldsOnly P id) to only;
          made = h.made;
          whole = h.whole;
          complete = h.complete;
          few = λ o.
              (let a = h.few o in
              let b = put_in initial o p (index_of_ssn p.stream_sequence_number q.ordered) q.ordered in omega arith);
        })

    pub pushed_on : IsHeldOn P initial id (pushed q p).0 (offset_of initial p.tsn ∷ os)
    pushed_on = pushed_if p.unordered (ssn_lt p.stream_sequence_number q.next_ssn) refl refl

  pub taken_on : (q : Reassembly) (os : List ℕ) (m : ReceivedMessage) → IsHeldOn P initial id q os
      → (taken q).1 ≡ Some m → IsTakenOut (IsMadeOn P initial id) (IsHeldOn P initial id) (taken q).0 os m
  taken_on q os m h e = by q.complete h.made h.complete refl h.whole e
    where
      out_of : (pieces : List ChunkPayloadData) (left : Reassembly) (more : List (List ChunkPayloadData))
          → (order : Order) → ArePiecesOf P id order pieces → is_complete pieces ≡ true
          → message_of pieces ≡ m → left.complete ≡ map message_of more → AllByRecursion (AreAllOfOne P id) more
          → HoldsOnly P id left
          → ((o : ℕ) → times o (offsets_in initial pieces)
          + (times o (offsets_in_all initial (pieces_of_groups left.ordered))
          + times o (offsets_in_all initial left.unordered) + times o (offsets_in_all initial more)) ≤ times o os)
          → IsTakenOut (IsMadeOn P initial id) (IsHeldOn P initial id) left os m
      out_of pieces left more order are all same complete whole only few = record {
        out = offsets_in initial pieces;
        left = offsets_in_all initial (pieces_of_groups left.ordered)
            ++ (offsets_in_all initial left.unordered ++ offsets_in_all initial more);
        makes = record {
          made = record { order = order; pieces = pieces; are = are; complete = all; same = sym same };
          offsets = refl;
        };
        held = record {
          only = only;
          made = more;
          whole = whole;
          complete = complete;
          few = λ o. (let a = all_of o in omega arith);
        };
        parted = λ o. (let a = few o in let b = all_of o in omega arith);
      }
        where
          all_of : (o : ℕ)
              → times o (offsets_in_all initial (pieces_of_groups left.ordered)
              ++ (offsets_in_all initial left.unordered ++ offsets_in_all initial more))
              ≡ times o (offsets_in_all initial (pieces_of_groups left.ordered))
              + times o (offsets_in_all initial left.unordered) + times o (offsets_in_all initial more)
          all_of o =
              let a = times-join o (offsets_in_all initial (pieces_of_groups left.ordered))
              (offsets_in_all initial left.unordered ++ offsets_in_all initial more) in
              let b = times-join o (offsets_in_all initial left.unordered) (offsets_in_all initial more) in omega arith

      from_groups : (gs : List Group) → q.ordered ≡ gs → (read_ordered q gs).1 ≡ Some m
          → IsTakenOut (IsMadeOn P initial id) (IsHeldOn P initial id) (read_ordered q gs).0 os m
      from_groups [] is f = absurd (none_some f)
        where
          none_some : None ≡ Some m → ⊥
          none_some f = cc
      from_groups (g ∷ gs) is f = due (is_due q.next_ssn (Some g)) refl
        where
          each : AllByRecursion (λ (x : Group). ArePiecesOf P id (Order.InOrder x.ssn) x.pieces) (g ∷ gs)
          each =
              subst (λ (xs : List Group). AllByRecursion
              (λ (x : Group). ArePiecesOf P id (Order.InOrder x.ssn) x.pieces) xs)
              is h.only.ordered

          due : (b : Bool) → is_due q.next_ssn (Some g) ≡ b
              → IsTakenOut (IsMadeOn P initial id) (IsHeldOn P initial id) (read_ordered q (g ∷ gs)).0 os m
          due false d = absurd (none_some (sym (ap (λ (x : Reassembly × Option ReceivedMessage). x.1) (off d)) ∙ f))
            where
              off : is_due q.next_ssn (Some g) ≡ false → read_ordered q (g ∷ gs) ≡ (q, None)
              off d = rw d refl

              none_some : None ≡ Some m → ⊥
              none_some f = cc
          due true d =
              let answered : Some (message_of g.pieces) ≡ Some m =
              sym (ap (λ (x : Reassembly × Option ReceivedMessage). x.1) (on d)) ∙ f in
              subst (λ (x : Reassembly × Option ReceivedMessage).
              IsTakenOut (IsMadeOn P initial id) (IsHeldOn P initial id) x.0 os m)
              (sym (on d))
              (out_of g.pieces (record q { next_ssn = after_read g.ssn q.next_ssn; ordered = gs }) h.made
              (Order.InOrder g.ssn) each.0 (and_parts (ssn_lte g.ssn q.next_ssn) (is_complete g.pieces) d).1
              (let s : message_of g.pieces ≡ m = cc in s) h.complete h.whole
              (record { ordered = each.1; unordered = h.only.unordered; complete = h.only.complete })
              (λ o.
              (let a = h.few o in
              let b : times o (offsets_in_all initial (pieces_of_groups q.ordered))
              ≡ times o (offsets_in_all initial (pieces_of_groups (g ∷ gs))) =
              ap (λ xs. times o (offsets_in_all initial (pieces_of_groups xs))) is in
              let c = all_first initial o g.pieces (pieces_of_groups gs) in omega arith)))
            where
              on : is_due q.next_ssn (Some g) ≡ true
                  → read_ordered q (g ∷ gs)
                  ≡ (record q { next_ssn = after_read g.ssn q.next_ssn; ordered = gs }, Some (message_of g.pieces))
              on d = rw d refl

      by : (messages : List ReceivedMessage) (made : List (List ChunkPayloadData)) → messages ≡ map message_of made
          → made ≡ h.made → AllByRecursion (AreAllOfOne P id) made → (read_from q messages).1 ≡ Some m
          → IsTakenOut (IsMadeOn P initial id) (IsHeldOn P initial id) (read_from q messages).0 os m
      by [] made e same whole f = from_groups q.ordered refl f
      by (x ∷ xs) [] e same whole f = absurd (cc)
      by (x ∷ xs) (pieces ∷ more) e same whole f =
          let first : x ≡ message_of pieces = cc in
          let rest : xs ≡ map message_of more = cc in
          let each : AllByRecursion (λ (y : ReceivedMessage). IsMadeOf P id y) xs =
          subst (λ (ys : List ReceivedMessage). AllByRecursion (λ (y : ReceivedMessage). IsMadeOf P id y) ys) (sym rest)
          (made_of_all more whole.1) in
          out_of pieces (record q { complete = xs }) more Order.OutOfOrder whole.0.0 whole.0.1
          (sym first ∙ (let s : x ≡ m = cc in s)) rest whole.1
          (record { ordered = h.only.ordered; unordered = h.only.unordered; complete = each })
          (λ o.
          (let a = h.few o in
          let b : times o (offsets_in_all initial h.made) ≡ times o (offsets_in_all initial (pieces ∷ more)) =
          ap (λ xs. times o (offsets_in_all initial xs)) (sym same) in
          let c = all_first initial o pieces more in omega arith))
        where
          made_of_all : (runs : List (List ChunkPayloadData)) → AllByRecursion (AreAllOfOne P id) runs
              → AllByRecursion (λ (y : ReceivedMessage). IsMadeOf P id y) (map message_of runs)
          made_of_all [] all = tt
          made_of_all (r ∷ rs) all = (
            record { order = Order.OutOfOrder; pieces = r; are = all.0.0; complete = all.0.1; same = refl },
            made_of_all rs all.1,
          )
