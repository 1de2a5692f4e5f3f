-- What holds of a stream still holds when more is accepted, gets an offset, or is given up.
use Rattle.std.proofs.Common.{ℕ, suc, ◌+◌, ◌<◌, ◌≤◌, ◌≡◌, Bool, true, false, List, ◌++◌, length, map, Option, Some, sym}
use Rattle.std.proofs.Common.{ap, ◌∙◌, subst, inl, inr, ⊎_elim, arith}
use Rattle.std.specs.Prelude.{filter}
use Rattle.std.specs.List.{AllByRecursion}
use Rattle.std.proofs.lemmas.Bool.{cases_lt, true≢false, false_from_ne_true}
use Rattle.sctp_model.specs.Messages.{Place, Plan, IsAt, place_at, message_at, message_of, rank}
use Rattle.sctp_model.specs.Packets.{Data, mem, data_at}
use Rattle.sctp_model.specs.Reassembly.{Queue, Got, at}
use Rattle.sctp_model.specs.Safe.{AreDistinct, AreRising, letter_written, read_end, read_ssn}
use Rattle.sctp_model.specs.Invariants.{IsHeld, IsSkipped, IsOrdered, IsUnordered, IsGot, IsStream, NoneGone}
use Rattle.sctp_model.specs.Invariants.{numbers_of, IsFresh}
use Rattle.sctp_model.proofs.Lists.{all_weaker, all_both, all_front, all_filter}
use Rattle.sctp_model.proofs.PlansGrow.{IsExtended, data_kept, at_kept, at_before, rank_kept, ordered_kept}
use Rattle.sctp_model.proofs.PlansGrow.{whole_before, got_kept, numbers_kept, read_end_kept, read_ssn_kept, held_kept}

-- a new offset of an ordered message of the stream, against the cursor and the last read
pub record IsNew (r : Plan) (gone : ℕ → ℕ → Bool) (s cursor low end o : ℕ) : Type 0 where
  pub ahead : cursor ≤ (place_at r o).ssn
  pub later : end ≤ (place_at r o).message
  pub link : (place_at r o).ssn + rank (r.accepted s) end ≤ low + rank (r.accepted s) (place_at r o).message
  pub exact : NoneGone gone s → (place_at r o).ssn ≡ rank (r.accepted s) (place_at r o).message

-- what the stream's counters have to meet afterwards
pub record IsCounted (r : Plan) (gone : ℕ → ℕ → Bool) (current : Option Place) (next ssn : ℕ)
    (s cursor low end : ℕ) : Type 0 where
  pub going : (y : Place) → current ≡ Some y → y.stream ≡ s → (message_of r y).ordered ≡ true → cursor ≤ y.ssn
  pub begun : cursor ≤ ssn
  pub until : end ≤ next
  pub gap : ssn + rank (r.accepted s) end ≤ low + rank (r.accepted s) next
  pub level : NoneGone gone s → ssn ≡ rank (r.accepted s) next

module _ (p r : Plan) (gone : ℕ → ℕ → Bool) (current current' : Option Place) (next next' ssn ssn' : ℕ)
    (taken : List ℕ) (passed skipped s : ℕ) (q : Queue) (reads : List Got) (e : IsExtended p r)
    (below : (o : ℕ) → mem o taken ≡ true → o < length p.places) where
  -- what held of its ordered half
  abbrev IsOrderedBefore : ℕ → ℕ → Queue → List Got → Type 0
  IsOrderedBefore = IsOrdered p gone current next ssn taken passed skipped s

  -- what holds of its ordered half in the grown plan
  abbrev IsOrderedNow : ℕ → ℕ → Queue → List Got → Type 0
  IsOrderedNow = IsOrdered r gone current' next' ssn' taken passed skipped s

  -- what held of the stream before the plan grew
  abbrev IsStreamBefore : Queue → List Got → Type 0
  IsStreamBefore = IsStream p gone current next ssn taken passed skipped s

  -- what holds of the stream in the grown plan
  abbrev IsStreamNow : Queue → List Got → Type 0
  IsStreamNow = IsStream r gone current' next' ssn' taken passed skipped s

  pub ordered_grows : (low end : ℕ) → AllByRecursion (IsGot p taken s) reads → end ≤ length (p.accepted s)
      → (h : IsOrderedBefore low end q reads)
      → ((o : ℕ) → length p.places ≤ o → IsAt r s true o → IsNew r gone s h.cursor low end o)
      → IsCounted r gone current' next' ssn' s h.cursor low end
      → IsOrderedNow low end q reads
  ordered_grows low end got within h
      new c = record {
        cursor = h.cursor;
        is = h.is;
        above = h.above;
        latest = h.latest;
        origin = ⊎_elim (λ (x : skipped ≡ 0). inl x) (λ (k : IsSkipped p gone passed s skipped). inr (record {
          offset = k.offset;
          below = k.below;
          at = at_kept p r e s k.offset true k.at;
          given_up = subst (λ z. gone z.stream z.message ≡ true) (sym (e.places k.offset k.at.known)) k.given_up;
          is = k.is ∙ ap (λ z. suc z.ssn) (sym (e.places k.offset k.at.known));
        })) h.origin;
        begun = c.begun;
        going = c.going;
        held = all_weaker _ _ _ (λ d. held_kept p r e taken s low true d) h.held;
        past = λ o a l. ⊎_elim
            (λ (b : o < length p.places).
            h.past o (at_before p r e s o true b a) (subst (λ z. z.ssn < h.cursor) (e.places o b) l))
            (λ (b : length p.places ≤ o). absurd (let n = new o b a in let x = n.ahead in omega arith))
            (cases_lt o (length p.places));
        later = λ o a l. ⊎_elim
            (λ (b : o < length p.places). subst (λ z. end ≤ z.message) (sym (e.places o b))
            (h.later o (at_before p r e s o true b a) (subst (λ z. low ≤ z.ssn) (e.places o b) l)))
            (λ (b : length p.places ≤ o). (new o b a).later)
            (cases_lt o (length p.places));
        link = λ o a l. ⊎_elim
            (λ (b : o < length p.places).
            subst (λ z. z.ssn + rank (r.accepted s) end ≤ low + rank (r.accepted s) z.message) (sym (e.places o b))
            (let ap1 = at_before p r e s o true b a in
            let x = h.link o ap1 (subst (λ z. low ≤ z.ssn) (e.places o b) l) in
            let u = rank_kept p r e s end within in
            let k : (place_at p o).message < length (p.accepted s) =
            subst (λ z. (place_at p o).message < length (p.accepted z)) ap1.stream (e.known o b) in
            let v = rank_kept p r e s (place_at p o).message (omega arith) in
            omega arith))
            (λ (b : length p.places ≤ o). (new o b a).link)
            (cases_lt o (length p.places));
        until = c.until;
        gap = c.gap;
        full = λ none.
            let f = h.full none in
            record {
              unskipped = f.unskipped;
              level = f.level ∙ sym (rank_kept p r e s end within);
              exact = λ o a. ⊎_elim
                  (λ (b : o < length p.places).
                  let ap1 = at_before p r e s o true b a in
                  let k : (place_at p o).message < length (p.accepted s) =
                  subst (λ z. (place_at p o).message < length (p.accepted z)) ap1.stream (e.known o b) in
                  subst (λ z. z.ssn ≡ rank (r.accepted s) z.message) (sym (e.places o b))
                  (f.exact o ap1 ∙ sym (rank_kept p r e s (place_at p o).message (omega arith))))
                  (λ (b : length p.places ≤ o). (new o b a).exact none)
                  (cases_lt o (length p.places));
              level_next = c.level none;
              held = λ o a m l.
                  let b = below o m in
                  f.held o (at_before p r e s o true b a) m (subst (λ z. low ≤ z.ssn) (e.places o b) l)
                  ∙ ap Some (sym (data_kept p r e o b));
              read = λ i l k. subst (λ z. mem i z ≡ true) (sym (numbers_kept p r e taken s reads got))
                  (f.read i l (sym (ordered_kept p r e s i (omega arith)) ∙ k));
              letters =
                  λ kept. f.letters (λ i l. sym (ordered_kept p r e s i l) ∙ kept i (let x = e.longer s in omega arith))
                  ∙ ap (map letter_written) (sym (e.fronts s end within));
            };
      }

  pub unordered_grows : (gots : List Got) → AllByRecursion (IsGot p taken s) gots
      → ((t i : ℕ) → i < length (r.accepted t) → 0 < length (message_at r t i).bytes)
      → IsUnordered p gone taken s q gots
      → IsUnordered r gone taken s q gots
  unordered_grows gots got filled u = record {
    held = all_weaker _ _ _ (λ d. held_kept p r e taken s 0 false d) u.held;
    fresh = all_weaker _ _ _ fresh (all_both (IsFresh p gots) (IsHeld p taken s false 0) q.unordered u.fresh u.held);
    all = λ none i w k.
        let v = whole_before p r e taken s i below (filled s i w.accepted) w in
        subst (λ z. mem i z ≡ true) (sym (numbers_kept p r e taken s gots got))
        (u.all none i v (sym (ordered_kept p r e s i v.accepted) ∙ k));
    kept = λ none o a m.
        let b = below o m in
        ⊎_elim
        (λ (l : at o q.unordered ≡ Some (data_at p o)). inl (l ∙ ap Some (sym (data_kept p r e o b))))
        (λ (l : mem (place_at p o).message (numbers_of p gots) ≡ true).
        inr (subst (λ z. mem z.message (numbers_of r gots) ≡ true) (sym (e.places o b))
        (subst (λ z. mem (place_at p o).message z ≡ true) (sym (numbers_kept p r e taken s gots got)) l)))
        (u.kept none o (at_before p r e s o false b a) m);
  }
    where
      fresh : (d : Data) → IsFresh p gots d × IsHeld p taken s false 0 d → IsFresh r gots d
      fresh d f =
          let hd = f.1 in
          subst (λ z. mem z.message (numbers_of r gots) ≡ false) (sym (e.places d.offset hd.at.known))
          (subst (λ z. mem (place_at p d.offset).message z ≡ false) (sym (numbers_kept p r e taken s gots got)) f.0)

  pub stream_grows : ((t i : ℕ) → i < length (r.accepted t) → 0 < length (message_at r t i).bytes)
      → next ≤ length (p.accepted s) → (w : IsStreamBefore q reads)
      → ((o : ℕ) → length p.places ≤ o → IsAt r s true o → IsNew r gone s (w.ordered).cursor (read_ssn p 0 reads)
      (read_end p 0 reads) o)
      → IsCounted r gone current' next' ssn' s (w.ordered).cursor (read_ssn p 0 reads) (read_end p 0 reads)
      → IsStreamNow q reads
  stream_grows filled within w
      new c = record {
        got = all_weaker _ _ _ (λ g. got_kept p r e taken s g) w.got;
        once = subst AreDistinct (sym (numbers_kept p r e taken s (reads ++ q.complete) w.got)) w.once;
        rising = subst AreRising (sym (numbers_kept p r e taken s kept_reads kept_got)) w.rising;
        below =
            subst (λ z. AllByRecursion (λ (i : ℕ). i < z) (numbers_of r kept_reads))
            (sym (read_end_kept p r e taken s 0 reads got))
            (subst (AllByRecursion (λ (i : ℕ). i < read_end p 0 reads))
            (sym (numbers_kept p r e taken s kept_reads kept_got)) w.below);
        complete = w.complete;
        ordered =
            subst (λ z. IsOrderedNow (read_ssn r 0 reads) z q reads)
            (sym (read_end_kept p r e taken s 0 reads got))
            (subst (λ z. IsOrderedNow z (read_end p 0 reads) q reads)
            (sym (read_ssn_kept p r e taken s 0 reads got))
            (ordered_grows (read_ssn p 0 reads) (read_end p 0 reads) got
            (let a = w.ordered.until in omega arith) w.ordered new c));
        unordered = unordered_grows (reads ++ q.complete) w.got filled w.unordered;
      }
    where
      got : AllByRecursion (IsGot p taken s) reads
      got = all_front (IsGot p taken s) reads q.complete w.got

      kept_reads : List Got
      kept_reads = filter (λ (g : Got). g.ordered) reads

      kept_got : AllByRecursion (IsGot p taken s) kept_reads
      kept_got = all_filter (IsGot p taken s) (λ (g : Got). g.ordered) reads got

module _ (p : Plan) (gone gone' : ℕ → ℕ → Bool) (current : Option Place) (next ssn : ℕ) (taken : List ℕ)
    (passed skipped s : ℕ) where
  -- what holds of the stream where these messages were given up
  abbrev IsStreamWith : (ℕ → ℕ → Bool) → Queue → List Got → Type 0
  IsStreamWith given_up = IsStream p given_up current next ssn taken passed skipped s

  -- more messages are given up; the message going on isn't among them, or is no more going on
  pub stream_gone : (q : Queue) (reads : List Got) → ((t i : ℕ) → gone t i ≡ true → gone' t i ≡ true)
      → IsStreamWith gone q reads
      → IsStreamWith gone' q reads
  stream_gone q reads more w = record {
    got = w.got;
    once = w.once;
    rising = w.rising;
    below = w.below;
    complete = w.complete;
    ordered =
        let h = w.ordered in
        record {
          cursor = h.cursor;
          is = h.is;
          above = h.above;
          latest = h.latest;
          origin = ⊎_elim (λ (x : skipped ≡ 0). inl x) (λ (k : IsSkipped p gone passed s skipped). inr (record {
            offset = k.offset;
            below = k.below;
            at = k.at;
            given_up = more _ _ k.given_up;
            is = k.is;
          })) h.origin;
          begun = h.begun;
          going = h.going;
          held = h.held;
          past = h.past;
          later = h.later;
          link = h.link;
          until = h.until;
          gap = h.gap;
          full = λ none. h.full (fewer none);
        };
    unordered =
        let u = w.unordered in
        record {
          held = u.held;
          fresh = u.fresh;
          all = λ none. u.all (fewer none);
          kept = λ none. u.kept (fewer none);
        };
  }
    where
      fewer : NoneGone gone' s → NoneGone gone s
      fewer none i = false_from_ne_true _ (λ (g : gone s i ≡ true). true≢false (sym (more s i g) ∙ none i))
