-- What is so of each piece that a stream holds stays so, where it is so of each piece that comes; and the pieces of one
-- message stay pieces of one message, where the receiver refuses those that contradict them.
use Rattle.std.proofs.Common.{◌≡◌, refl, sym, ap, ◌∙◌, ℕ, zero, suc, ◌-◌, ◌==◌, Bool, true, false, not, cond}
use Rattle.std.proofs.Common.{if◌then◌else◌, List, [], ◌∷◌, length, map, drop, Option, Some, None, unwrap_or}
use Rattle.std.specs.Prelude.{⊤, get_or, slice_get, slice_set, remove}
use Rattle.std.specs.List.{AllByRecursion}
use Rattle.std.proofs.lemmas.Bool.{and_parts, eqb-true}
use Rattle.std.proofs.lemmas.List.Quantifiers.{position-Some}
use Rattle.std.proofs.lemmas.Option.{slice_get-get_or}
use Rattle.sctp_serial.specs.Serial.{ssn_lt, ssn_lte}
use Rattle.sctp_model.proofs.Lists.{all_weaker}
use Rattle.sctp_wire_types.specs.declared.chunk.ChunkPayloadData.{ChunkPayloadData}
use Rattle.sctp_receive_queues.specs.Messages.{ReceivedMessage, message_of}
use Rattle.sctp_receive_queues.specs.Pieces.{begins, contradicts, covers, ends, first_is_after, has_other_type}
use Rattle.sctp_receive_queues.specs.Pieces.{is_complete, last_is_before}
use Rattle.sctp_receive_queues.specs.Reassembly.{Group, Reassembly, above, empty_reassembly, finished, group_of, grown}
use Rattle.sctp_receive_queues.specs.Reassembly.{grown_at, index_for_ssn, index_for_tsn, index_of_ssn, is_due}
use Rattle.sctp_receive_queues.specs.Reassembly.{is_torn_after, is_torn_before, joined_run, joins_after, joins_before}
use Rattle.sctp_receive_queues.specs.Reassembly.{part, pieces_at, pieces_of, pushed, put_at, put_between, read_from}
use Rattle.sctp_receive_queues.specs.Reassembly.{read_ordered, refusal, refusal_between, refusal_of_ordered}
use Rattle.sctp_receive_queues.specs.Reassembly.{refusal_of_unordered, run_at, run_before, skipped, stays, taken}
use Rattle.sctp_receive_queues.specs.Reassembly.{trimmed, unordered_put, unordered_skipped, with_ordered, with_put}
use Rattle.sctp_receive_queues.specs.Reassembly.{with_unordered}
use Rattle.sctp_resets.proofs.ListsOver.{all_appended, all_dropped, all_filtered, all_inserted, all_taken, of_chosen}
use Rattle.sctp_resets.proofs.ListsOver.{to_images}
use Rattle.sctp_reset_fit.specs.Pieces.{ArePiecesOf, HoldsOnly, IsMadeOf, IsMadeOfWhereThere, Order}
use Rattle.sctp_reset_fit.proofs.PiecesOfOne.{FitsBehind, FitsInFront, no_pieces, none_of_three, nothing_behind}
use Rattle.sctp_reset_fit.proofs.PiecesOfOne.{nothing_in_front, one_inserted, pieces_filtered, pieces_joined}
use Rattle.sctp_reset_fit.proofs.PiecesOfOne.{run_behind}
use Rattle.sctp_reset_fit.proofs.PiecesOfOne.{run_in_front, single_piece, unrefused, untorn}

-- Lists, and one item of a list.
module _ {X : Type 0} (P : X → Type 0) where
  -- this is so of an item, if there is one
  abbrev pub IsSoWhereThere : Option X → Type 0
  IsSoWhereThere None = ⊤
  IsSoWhereThere (Some x) = P x

  so_at : (xs : List X) (index : ℕ) → AllByRecursion P xs → IsSoWhereThere (slice_get xs index)
  so_at [] index each = tt
  so_at (x ∷ xs) zero each = each.0
  so_at (x ∷ xs) (suc index) each = so_at xs index each.1

  all_with_one_set : (xs : List X) (index : ℕ) (x : X) → AllByRecursion P xs → P x
      → AllByRecursion P (slice_set xs index x)
  all_with_one_set [] index x each one = tt
  all_with_one_set (y ∷ ys) zero x each one = (one, each.1)
  all_with_one_set (y ∷ ys) (suc index) x each one = (each.0, all_with_one_set ys index x each.1 one)

  all_with_one_removed : (xs : List X) (index : ℕ) → AllByRecursion P xs → AllByRecursion P (remove xs index)
  all_with_one_removed xs index each =
      all_appended P _ (drop (suc index) xs) (all_taken P index xs each) (all_dropped P (suc index) xs each)

-- what holds of the first where the test passes, and of the second, holds of the one that is chosen
pub of_chosen_where : {A : Type 0} (P : A → Type 0) (b : Bool) (x y : A) → (b ≡ true → P x) → P y → P (cond b x y)
of_chosen_where P true x y first second = first refl
of_chosen_where P false x y first second = second

-- The pieces of which something is so, on one stream.
module _ (P : ChunkPayloadData → Type 0) (id : ℕ) where
  -- what is held of one ordered message are pieces of one message
  abbrev IsSoOfGroup : Group → Type 0
  IsSoOfGroup g = ArePiecesOf P id (Order.InOrder g.ssn) g.pieces

  -- so is a run
  abbrev IsSoOfRun : List ChunkPayloadData → Type 0
  IsSoOfRun run = ArePiecesOf P id Order.OutOfOrder run

  -- what is held of each of these ordered messages, each of these runs, and what each of these messages is made of
  abbrev EachGroup : List Group → Type 0
  EachGroup groups = AllByRecursion (λ (g : Group). ArePiecesOf P id (Order.InOrder g.ssn) g.pieces) groups

  abbrev EachRun : List (List ChunkPayloadData) → Type 0
  EachRun runs = AllByRecursion (λ (run : List ChunkPayloadData). ArePiecesOf P id Order.OutOfOrder run) runs

  abbrev EachMessage : List ReceivedMessage → Type 0
  EachMessage messages = AllByRecursion (λ (m : ReceivedMessage). IsMadeOf P id m) messages

  pub empty_holds : HoldsOnly P id empty_reassembly
  empty_holds = record { ordered = tt; unordered = tt; complete = tt }

  -- A piece comes that is of this stream, and of which P is so.
  module _ (p : ChunkPayloadData) (so : P p) (stream : p.stream_identifier ≡ id) where
    -- An ordered one, which does not contradict what is held of its message

    -- the message that is found has the piece's stream sequence number
    found_number : (groups : List Group) (index : ℕ) (g : Group)
        → index_of_ssn p.stream_sequence_number groups ≡ Some index → slice_get groups index ≡ Some g
        → p.stream_sequence_number ≡ g.ssn
    found_number groups index g found at =
        let is = position-Some (λ (x : Group). x.ssn == p.stream_sequence_number) groups index g found in
        let there : Some g ≡ Some (get_or groups index g) = sym at ∙ slice_get-get_or groups index g is.0 in
        let same : get_or groups index g ≡ g = cc in
        sym (eqb-true g.ssn p.stream_sequence_number
        (ap (λ (x : Group). x.ssn == p.stream_sequence_number) (sym same) ∙ is.1))

    grown_at_each : (o : Option Group) (index : ℕ) (groups : List Group) → p.unordered ≡ false
        → index_of_ssn p.stream_sequence_number groups ≡ Some index → slice_get groups index ≡ o
        → contradicts (pieces_of o) p ≡ false → IsSoWhereThere IsSoOfGroup o → EachGroup groups
        → EachGroup (grown_at o index groups p)
    grown_at_each None index groups ordered found at fits there each = each
    grown_at_each (Some g) index groups ordered found at fits there each =
        all_with_one_set IsSoOfGroup groups index (grown g p) each
        (one_inserted P id (Order.InOrder g.ssn) g.pieces p there so stream
        (ordered, found_number groups index g found at) fits)

    put_at_each : (o : Option ℕ) (groups : List Group) → p.unordered ≡ false
        → index_of_ssn p.stream_sequence_number groups ≡ o → contradicts (pieces_at o groups) p ≡ false
        → EachGroup groups → EachGroup (put_at o groups p)
    put_at_each None groups ordered found fits each =
        all_inserted IsSoOfGroup groups (index_for_ssn p.stream_sequence_number groups) (group_of p) each
        (single_piece P id (Order.InOrder p.stream_sequence_number) p so stream (ordered, refl))
    put_at_each (Some index) groups ordered found fits each =
        grown_at_each (slice_get groups index) index groups ordered found refl fits
        (so_at IsSoOfGroup groups index each) each

    with_ordered_each : (groups : List Group) (limit : ℕ) → p.unordered ≡ false
        → refusal_of_ordered groups p limit ≡ None → EachGroup groups → EachGroup (with_ordered groups p)
    with_ordered_each groups limit ordered accepted each =
        put_at_each (index_of_ssn p.stream_sequence_number groups) groups ordered refl
        (unrefused (contradicts (pieces_at (index_of_ssn p.stream_sequence_number groups) groups) p) _ _ accepted) each

    -- An unordered one, which does not tear the runs beside it

    in_front_if : (joins : Bool) (run : List ChunkPayloadData) → joins_before run p ≡ joins
        → is_torn_before run p ≡ false → IsSoOfRun run → FitsInFront P id Order.OutOfOrder p (part joins run)
    in_front_if false run e torn h = nothing_in_front P id Order.OutOfOrder p
    in_front_if true run e torn h =
        let whole =
        untorn (last_is_before run p.tsn) (ends run) p.beginning_fragment (has_other_type run p) e torn in
        run_in_front P id Order.OutOfOrder p run h whole.0 whole.1 whole.2

    behind_if : (joins : Bool) (run : List ChunkPayloadData) → joins_after run p ≡ joins
        → is_torn_after run p ≡ false → IsSoOfRun run → FitsBehind P id Order.OutOfOrder p (part joins run)
    behind_if false run e torn h = nothing_behind P id Order.OutOfOrder p
    behind_if true run e torn h =
        let whole =
        untorn (first_is_after run p.tsn) p.ending_fragment (begins run) (has_other_type run p) e torn in
        run_behind P id Order.OutOfOrder p run h whole.0 whole.1 whole.2

    joined_run_each : (before after : List ChunkPayloadData) (limit : ℕ) → p.unordered ≡ true
        → refusal_between before p after limit ≡ None → IsSoOfRun before → IsSoOfRun after
        → IsSoOfRun (joined_run before p after)
    joined_run_each before after limit unordered accepted front back =
        let apart = none_of_three (covers before p.tsn) (is_torn_before before p) (is_torn_after after p)
        (unrefused _ _ _ accepted) in
        pieces_joined P id Order.OutOfOrder (part (joins_before before p) before) p (part (joins_after after p) after)
        (in_front_if (joins_before before p) before refl apart.1 front) so stream unordered
        (behind_if (joins_after after p) after refl apart.2 back)

  each_of_run : (o : Option (List ChunkPayloadData)) → IsSoWhereThere IsSoOfRun o → IsSoOfRun (unwrap_or o [])
  each_of_run None there = no_pieces P id Order.OutOfOrder
  each_of_run (Some run) there = there

  pub run_at_each : (runs : List (List ChunkPayloadData)) (index : ℕ) → EachRun runs → IsSoOfRun (run_at runs index)
  run_at_each runs index each = each_of_run (slice_get runs index) (so_at IsSoOfRun runs index each)

  run_before_each : (runs : List (List ChunkPayloadData)) (index : ℕ) → EachRun runs
      → IsSoOfRun (run_before runs index)
  run_before_each runs index each =
      of_chosen IsSoOfRun (index == 0) [] (run_at runs (index - 1)) (no_pieces P id Order.OutOfOrder)
      (run_at_each runs (index - 1) each)

  put_between_each : (front back : Bool) (runs : List (List ChunkPayloadData)) (index : ℕ)
      (run : List ChunkPayloadData) → EachRun runs → IsSoOfRun run → EachRun (put_between front back runs index run)
  put_between_each false false runs index run each one = all_inserted IsSoOfRun runs index run each one
  put_between_each true false runs index run each one = all_with_one_set IsSoOfRun runs (index - 1) run each one
  put_between_each false true runs index run each one = all_with_one_set IsSoOfRun runs index run each one
  put_between_each true true runs index run each one =
      all_with_one_removed IsSoOfRun (slice_set runs (index - 1) run) index
      (all_with_one_set IsSoOfRun runs (index - 1) run each one)

  -- runs that are not complete, and complete messages
  abbrev HoldsUnordered : List (List ChunkPayloadData) × List ReceivedMessage → Type 0
  HoldsUnordered put = EachRun put.0 × EachMessage put.1

  run_made : (run : List ChunkPayloadData) → IsSoOfRun run → is_complete run ≡ true
      → IsMadeOf P id (message_of run)
  run_made run h complete =
      record { order = Order.OutOfOrder; pieces = run; are = h; complete = complete; same = refl }

  finished_each : (runs : List (List ChunkPayloadData)) (index : ℕ) (messages : List ReceivedMessage) → EachRun runs
      → EachMessage messages → HoldsUnordered (finished runs index messages)
  finished_each runs index messages each made =
      of_chosen_where HoldsUnordered (is_complete (run_at runs index)) _ (runs, messages) (λ complete. (
        all_with_one_removed IsSoOfRun runs index each,
        all_appended (IsMadeOf P id) messages (message_of (run_at runs index) ∷ []) made
            (run_made (run_at runs index) (run_at_each runs index each) complete, tt),
      )) (each, made)

  -- an unordered piece is among the runs
  pub with_unordered_each : (runs : List (List ChunkPayloadData)) (p : ChunkPayloadData) (limit : ℕ) → EachRun runs
      → P p → p.stream_identifier ≡ id → p.unordered ≡ true → refusal_of_unordered runs p limit ≡ None
      → EachRun (with_unordered runs (index_for_tsn p.tsn runs) p).0
  with_unordered_each runs p limit each so stream unordered accepted =
      let index : ℕ = index_for_tsn p.tsn runs in
      let before : List ChunkPayloadData = run_before runs index in
      let after : List ChunkPayloadData = run_at runs index in
      put_between_each (joins_before before p) (joins_after after p) runs index (joined_run before p after) each
      (joined_run_each p so stream before after limit unordered accepted (run_before_each runs index each)
      (run_at_each runs index each))

  unordered_put_each : (runs : List (List ChunkPayloadData)) (messages : List ReceivedMessage) (p : ChunkPayloadData)
      (limit : ℕ) → EachRun runs → EachMessage messages → P p → p.stream_identifier ≡ id → p.unordered ≡ true
      → refusal_of_unordered runs p limit ≡ None → HoldsUnordered (unordered_put runs messages p)
  unordered_put_each runs messages p limit each made so stream unordered accepted =
      let put = with_unordered runs (index_for_tsn p.tsn runs) p in
      finished_each put.0 put.1 messages (with_unordered_each runs p limit each so stream unordered accepted) made

  -- by whether the piece is unordered, and whether it is of a message before the next one

  abbrev pushed_where : Bool → Bool → Reassembly → ChunkPayloadData → Reassembly × Bool
  pushed_where unordered late q p =
      if unordered then (with_put q (unordered_put q.unordered q.complete p), true) else
      if late then (q, false) else (record q { ordered = with_ordered q.ordered p }, true)

  pushed_holds_if : (unordered late : Bool) (q : Reassembly) (p : ChunkPayloadData) (limit : ℕ) → HoldsOnly P id q
      → P p → p.stream_identifier ≡ id → p.unordered ≡ unordered
      → (if unordered then refusal_of_unordered q.unordered p limit else
      if late then None else refusal_of_ordered q.ordered p limit) ≡ None
      → HoldsOnly P id (pushed_where unordered late q p).0
  pushed_holds_if true late q p limit h so stream e accepted =
      let put = unordered_put_each q.unordered q.complete p limit h.unordered h.complete so stream e accepted in
      record { ordered = h.ordered; unordered = put.0; complete = put.1 }
  pushed_holds_if false true q p limit h so stream e accepted = h
  pushed_holds_if false false q p limit h so stream e accepted = record {
    ordered = with_ordered_each p so stream q.ordered limit e accepted h.ordered;
    unordered = h.unordered;
    complete = h.complete;
  }

  -- a piece of this stream comes that is not refused
  pub pushed_holds : (q : Reassembly) (p : ChunkPayloadData) (limit : ℕ) → HoldsOnly P id q → P p
      → p.stream_identifier ≡ id → refusal q p limit ≡ None → HoldsOnly P id (pushed q p).0
  pushed_holds q p limit h so stream accepted =
      pushed_holds_if p.unordered (ssn_lt p.stream_sequence_number q.next_ssn) q p limit h so stream refl accepted

  -- Messages are read

  -- what a read leaves, and what it gives
  abbrev ReadHolds : Reassembly × Option ReceivedMessage → Type 0
  ReadHolds left = HoldsOnly P id left.0 × IsMadeOfWhereThere P id left.1

  group_made : (g : Group) → IsSoOfGroup g → is_complete g.pieces ≡ true → IsMadeOf P id (message_of g.pieces)
  group_made g h complete =
      record { order = Order.InOrder g.ssn; pieces = g.pieces; are = h; complete = complete; same = refl }

  read_ordered_holds : (q : Reassembly) (groups : List Group) → HoldsOnly P id q → EachGroup groups
      → ReadHolds (read_ordered q groups)
  read_ordered_holds q [] h each = (h, tt)
  read_ordered_holds q (g ∷ gs) h each =
      of_chosen_where ReadHolds (is_due q.next_ssn (Some g)) _ (q, None) (λ due. (
        record { ordered = each.1; unordered = h.unordered; complete = h.complete },
        group_made g each.0 (and_parts (ssn_lte g.ssn q.next_ssn) (is_complete g.pieces) due).1,
      )) (h, tt)

  read_from_holds : (q : Reassembly) (messages : List ReceivedMessage) → HoldsOnly P id q → EachMessage messages
      → ReadHolds (read_from q messages)
  read_from_holds q [] h each = read_ordered_holds q q.ordered h h.ordered
  read_from_holds q (m ∷ ms) h each =
      (record { ordered = h.ordered; unordered = h.unordered; complete = each.1 }, each.0)

  pub taken_holds : (q : Reassembly) → HoldsOnly P id q
      → HoldsOnly P id (taken q).0 × IsMadeOfWhereThere P id (taken q).1
  taken_holds q h = read_from_holds q q.complete h h.complete

  -- Pieces are dropped

  pub skipped_holds : (q : Reassembly) (ssn : ℕ) → HoldsOnly P id q → HoldsOnly P id (skipped q ssn)
  skipped_holds q ssn h = record {
    ordered = all_filtered IsSoOfGroup (stays ssn) q.ordered h.ordered;
    unordered = h.unordered;
    complete = h.complete;
  }

  trimmed_each : (tsn : ℕ) (runs : List (List ChunkPayloadData)) → EachRun runs → EachRun (trimmed tsn runs)
  trimmed_each tsn runs each =
      all_filtered IsSoOfRun (λ (r : List ChunkPayloadData). not (length r == 0)) (map (above tsn) runs)
      (to_images IsSoOfRun (above tsn) runs
      (all_weaker IsSoOfRun (λ run. IsSoOfRun (above tsn run)) runs
      (λ run h. pieces_filtered P id Order.OutOfOrder _ run h) each))

  pub unordered_skipped_holds : (q : Reassembly) (tsn : ℕ) → HoldsOnly P id q
      → HoldsOnly P id (unordered_skipped q tsn)
  unordered_skipped_holds q tsn h = record {
    ordered = h.ordered;
    unordered = trimmed_each tsn q.unordered h.unordered;
    complete = h.complete;
  }
