-- A read keeps what holds of its stream.
use Rattle.std.proofs.Common.{ℕ, suc, ◌+◌, ◌*◌, ◌%◌, ◌<◌, ◌≤◌, ◌≡◌, ◌⊎◌, max, Bool, true, false, not, cond, eqb, List}
use Rattle.std.proofs.Common.{[], ◌∷◌, ◌++◌, length, take, drop, map, Option, Some, refl, sym, ap, ◌∙◌, subst, inl}
use Rattle.std.proofs.Common.{⊎_elim, arith}
use Rattle.std.specs.Prelude.{filter}
use Rattle.std.specs.List.{AllByRecursion}
use Rattle.std.proofs.lemmas.List.{take_more}
use Rattle.std.proofs.lemmas.Bool.{cases_lt, cases_eq, eq-eqb, ne_eqb, true≢false, cond-true, cond-false}
use Rattle.std.proofs.lemmas.Bool.{not_from_false, not-true, leb-false}
use Rattle.sctp_model.specs.Messages.{Place, Plan, IsAt, no_message, count_ordered, place_at, message_at, message_of}
use Rattle.sctp_model.specs.Messages.{rank}
use Rattle.sctp_model.specs.Packets.{Data, mem, data_at}
use Rattle.sctp_model.specs.Reassembly.{Queue, Run, Taken, Got, at, got_of}
use Rattle.sctp_model.specs.Safe.{IsWhole, IsKeptOrdered, letter_read, letter_written, letters_written, is_ordered}
use Rattle.sctp_model.specs.Safe.{number_of, ssn_of, read_end, read_ssn}
use Rattle.sctp_model.specs.Invariants.{IsPlanned, IsEarlier, IsGoing, IsSending, IsHeld, IsFull, IsOrdered, IsGot}
use Rattle.sctp_model.proofs.Lists.{all_filter, all_weaker, all_both, all_passed, map-join, mem_left, mem_right}
use Rattle.sctp_model.proofs.Lists.{mem_one}
use Rattle.sctp_model.proofs.OrderedRanks.{rank_yes, rank_rises, rank_of_all}
use Rattle.sctp_model.proofs.NumberWindows.{same_is, next_is}
use Rattle.sctp_model.proofs.CompleteRuns.{IsRunOf, at_filter}
use Rattle.sctp_model.proofs.NextOrdered.{IsDue, window, window_next, ssn_is}

pub read_end_push : (p : Plan) (found : ℕ) (gs : List Got) (g : Got)
    → read_end p found (gs ++ g ∷ []) ≡ cond g.ordered (suc (number_of p g)) (read_end p found gs)
read_end_push p found [] g = refl
read_end_push p found (x ∷ xs) g = read_end_push p (cond x.ordered (suc (number_of p x)) found) xs g

pub read_ssn_push : (p : Plan) (found : ℕ) (gs : List Got) (g : Got)
    → read_ssn p found (gs ++ g ∷ []) ≡ cond g.ordered (suc (ssn_of p g)) (read_ssn p found gs)
read_ssn_push p found [] g = refl
read_ssn_push p found (x ∷ xs) g = read_ssn_push p (cond x.ordered (suc (ssn_of p x)) found) xs g

-- the message going on has a piece on no offset, so it isn't whole
pub going_not_whole : (p : Plan) (over : ℕ → Bool) (gone : ℕ → ℕ → Bool) (taken : List ℕ) (y : Place) → IsPlanned p over
    → IsGoing p gone y
    → ((o : ℕ) → mem o taken ≡ true → o < length p.places) → IsWhole p taken y.stream y.message → ⊥
going_not_whole p over gone taken y h g below w =
    let m = g.last in
    let n = g.is in
    let f = g.follows in
    let lm : m < length p.places = omega arith in
    let text : message_at p y.stream y.message ≡ message_of p (place_at p m)
    = ap (λ z. message_at p z y.message) f.stream ∙ ap (message_at p (place_at p m).stream) f.message in
    let t =
    w.pieces (suc (place_at p m).piece)
    (subst (λ z. p.size * suc (place_at p m).piece < length z.bytes) (sym text) (leb-false _ _ g.more)) in
    let b = h.before t.offset (place_at p m).piece t.known t.piece in
    let c = b.1 in
    let v = c.follows in
    let nx = c.next in
    let tk = t.known in
    let same : b.0 ≡ m =
    h.one b.0 m (omega arith) lm (sym v.stream ∙ t.stream ∙ f.stream) (sym v.message ∙ t.message ∙ f.message)
    (let u : suc (place_at p b.0).piece ≡ suc (place_at p m).piece = sym v.piece ∙ t.piece in omega arith) in
    omega arith

-- a whole message's offsets were all taken in
pub whole_taken : (p : Plan) (over : ℕ → Bool) (taken : List ℕ) (s o : ℕ) → IsPlanned p over → o < length p.places
    → (place_at p o).stream ≡ s
    → IsWhole p taken s (place_at p o).message → mem o taken ≡ true
whole_taken p over taken s o h known st w =
    let t =
    w.pieces (place_at p o).piece
    (subst (λ z. p.size * (place_at p o).piece < length (message_at p z (place_at p o).message).bytes) st
    (h.piece o known)) in
    subst (λ z. mem z taken ≡ true) (h.one t.offset o t.known known (t.stream ∙ sym st) t.message t.piece) t.taken_in

module _ {p : Plan} {over : ℕ → Bool} {taken : List ℕ} {s : ℕ} {k : Bool} {low : ℕ} {r : Run}
    (h : IsPlanned p over) (hd : IsHeld p taken s k low r.head) where
  -- what a complete run gives is its message, whole
  pub run_got : (place_at p r.head.offset).piece ≡ 0 → IsRunOf p taken s r.head.offset r.pieces
      → IsGot p taken s (got_of r)
  run_got first run = record {
    known = hd.at.known;
    stream = hd.at.stream;
    tells = record {
      payload_type = ap (λ z. z.payload_type) hd.is ∙ ap (λ z. z.payload_type) text;
      bytes = run.bytes ∙ ap (λ z. drop (p.size * z) (message_of p (place_at p r.head.offset)).bytes) first
          ∙ ap (λ z. drop z (message_of p (place_at p r.head.offset)).bytes) (let e : p.size * 0 ≡ 0 = omega arith in e)
          ∙ ap (λ z. z.bytes) text;
      ordered = ap (λ z. z.ordered) hd.is ∙ ap (λ z. z.ordered) text;
      whole = record {
        accepted =
            subst (λ z. (place_at p r.head.offset).message < length (p.accepted z)) hd.at.stream
            (h.known r.head.offset hd.at.known);
        pieces =
            λ j l. run.pieces j (subst (λ z. z ≤ j) (sym first) (omega arith))
            (subst (λ z. p.size * j < length z.bytes) (sym text) l);
      };
    };
  }
    where
      text : message_of p (place_at p r.head.offset) ≡ message_at p s (place_at p r.head.offset).message
      text = ap (λ z. message_at p z (place_at p r.head.offset).message) hd.at.stream

module _ {p : Plan} {over : ℕ → Bool} {current : Option Place} {next ssn : ℕ → ℕ} {begun gone : ℕ → ℕ → Bool}
    {taken : List ℕ} {passed skipped s low end : ℕ} {q : Queue} {reads : List Got} {t : Taken}
    (hp : IsPlanned p over) (v : over s ≡ false) (g : IsSending p current next ssn begun gone over)
    (below : (o : ℕ) → mem o taken ≡ true → o < length p.places)
    (unread : count_ordered (drop end (p.accepted s)) < 32768)
    (h : IsOrdered p gone current (next s) (ssn s) taken passed skipped s low end q reads)
    (d : IsDue p taken s low h.cursor q t) (got : IsGot p taken s t.got) where
  -- One read of an ordered message. `low` and `end` are before it, x is the offset of its first piece.
  pub ordered_read : number_of p t.got ≡ (place_at p d.run.head.offset).message
      → IsOrdered p gone current (next s) (ssn s) taken passed skipped s (suc d.number)
      (suc (place_at p d.run.head.offset).message) t.rest (reads ++ t.got ∷ [])
  ordered_read
      number = record {
        cursor = cond (eqb d.number h.cursor) (suc d.number) h.cursor;
        is = ap (λ z. z.cursor) d.rest ∙ cursor_is;
        above = cursor_cases (λ z. suc d.number ≤ z) (λ e. omega arith) (λ ne. let u = d.until in omega (arith, ne));
        latest = cursor_cases (λ z. z ≡ max (suc d.number) skipped)
            (λ e. let u = h.latest in omega arith)
            (λ ne. let u = h.latest in let a = d.above in let b = d.until in omega (arith, ne));
        origin = h.origin;
        begun =
            cursor_cases (λ z. z ≤ ssn s) (λ e. let b = earlier.below in let c = d.ssn in omega arith) (λ ne. h.begun);
        going = λ y c st ky. cursor_cases (λ z. z ≤ y.ssn)
            (λ e. past_current y c st ky (let b = h.going y c st ky in omega arith))
            (λ ne. h.going y c st ky);
        held =
            subst (λ z. AllByRecursion (IsHeld p taken s true (suc d.number)) z.ordered) (sym d.rest)
            (held_after q.ordered h.held d.least);
        past = λ o a. cursor_cases (λ z. (place_at p o).ssn < z → (mem o taken ≡ true) ⊎ (o < passed))
            (λ e l. ⊎_elim
            (λ (b : (place_at p o).ssn < h.cursor). h.past o a b)
            (λ (b : h.cursor ≤ (place_at p o).ssn). inl (whole_taken p over taken s o hp a.known a.stream
            (subst (λ z. IsWhole p taken s z) (sym (same_message o a (let c = d.ssn in omega arith))) whole)))
            (cases_lt (place_at p o).ssn h.cursor))
            (λ ne l. h.past o a l);
        later = λ o a l. let b = pair_after o a l in b.0;
        link = λ o a l. let b = pair_after o a l in b.1;
        until = g.numbers s x ax;
        gap = let b = earlier.rank in let c = d.ssn in let r = rank_x in omega arith;
        full = λ none.
            let f = h.full none in
            let u = f.unskipped in
            let du = d.until in
            let da = d.above in
            let cx = f.exact x ax in
            let dx = d.ssn in
            let fl = f.level in
            let rx = rank_x in
            record {
              unskipped = cursor_cases (λ z. z ≡ suc d.number) (λ e. refl) (λ ne. absurd (ne (omega arith)));
              level = omega arith;
              exact = f.exact;
              level_next = f.level_next;
              held = λ o a m l.
                  let w = link_near o a (omega arith) in
                  let dn = d.near in
                  subst (λ z. at o z.ordered ≡ Some (data_at p o)) (sym d.rest)
                  (at_filter (λ (e : Data). not (eqb e.ssn (d.number % 65536))) o q.ordered (data_at p o)
                  (f.held o a m (omega arith))
                  (not_from_false _ (same_is (place_at p o).ssn d.number (omega arith) (omega arith)
                  ∙ ne_eqb _ _ (λ (e : (place_at p o).ssn ≡ d.number). omega arith))));
              read =
                  λ i l k. subst (λ z. mem i z ≡ true) (sym (map-join (number_of p) reads (t.got ∷ [])))
                  (read_below f i l k);
              letters = λ kept. letters f kept;
            };
      }
    where
      x : ℕ
      x = d.run.head.offset

      hd : IsHeld p taken s true low d.run.head
      hd = d.found.head

      ax : IsAt p s true x
      ax = hd.at

      earlier : IsEarlier p s (next s) (ssn s) (place_at p x) x
      earlier = g.earlier s v x ax

      known_x : (place_at p x).message < length (p.accepted s)
      known_x = subst (λ z. (place_at p x).message < length (p.accepted z)) ax.stream (hp.known x ax.known)

      ordered_x : is_ordered p s (place_at p x).message ≡ true
      ordered_x = subst (λ z. is_ordered p z (place_at p x).message ≡ true) ax.stream ax.kind

      rank_x : rank (p.accepted s) (suc (place_at p x).message) ≡ suc (rank (p.accepted s) (place_at p x).message)
      rank_x = rank_yes (p.accepted s) (place_at p x).message known_x ordered_x

      whole : IsWhole p taken s (place_at p x).message
      whole = subst (λ z. IsWhole p taken s z) number got.tells.whole

      cursor_near : h.cursor ≤ low + 32767
      cursor_near = let w = window_next p s low end (next s) (ssn s) h.gap unread in let b = h.begun in omega arith

      cursor_cases : (P : ℕ → Type 0) → (d.number ≡ h.cursor → P (suc d.number))
          → ((d.number ≡ h.cursor → ⊥) → P h.cursor)
          → P (cond (eqb d.number h.cursor) (suc d.number) h.cursor)
      cursor_cases P a b = ⊎_elim
          (λ (e : d.number ≡ h.cursor). subst P (sym (cond-true _ (suc d.number) h.cursor (eq-eqb _ _ e))) (a e))
          (λ (ne : d.number ≡ h.cursor → ⊥). subst P (sym (cond-false _ (suc d.number) h.cursor (ne_eqb _ _ ne)))
          (b ne))
          (cases_eq d.number h.cursor)

      cursor_is : cond (eqb (d.number % 65536) q.cursor) ((d.number % 65536 + 1) % 65536) q.cursor
          ≡ cond (eqb d.number h.cursor) (suc d.number) h.cursor % 65536
      cursor_is =
          ap (λ z. cond (eqb (d.number % 65536) z) ((d.number % 65536 + 1) % 65536) z) h.is
          ∙ ap (λ z. cond z ((d.number % 65536 + 1) % 65536) (h.cursor % 65536))
          (same_is d.number h.cursor (let a = h.above in let b = d.near in omega arith)
          (let a = d.above in let b = cursor_near in omega arith))
          ∙ ap (λ z. cond (eqb d.number h.cursor) z (h.cursor % 65536)) (next_is d.number)
          ∙ split (eqb d.number h.cursor)
        where
          split : (b : Bool) → cond b (suc d.number % 65536) (h.cursor % 65536) ≡ cond b (suc d.number) h.cursor % 65536
          split true = refl
          split false = refl

      -- two ordered offsets with one sequence number belong to one message
      same_message : (o : ℕ) → IsAt p s true o → (place_at p o).ssn ≡ (place_at p x).ssn
          → (place_at p o).message ≡ (place_at p x).message
      same_message o a e = ⊎_elim
          (λ (l : o < x). (hp.pairs s v o x (omega arith) a ax).together e)
          (λ (l : x ≤ o). sym ((hp.pairs s v x o l ax a).together (sym e)))
          (cases_lt o x)

      pair_after : (o : ℕ) → IsAt p s true o → suc d.number ≤ (place_at p o).ssn
          → (suc (place_at p x).message ≤ (place_at p o).message)
          × ((place_at p o).ssn + rank (p.accepted s) (suc (place_at p x).message)
          ≤ suc d.number + rank (p.accepted s) (place_at p o).message)
      pair_after o a l = ⊎_elim
          (λ (b : o < x). absurd (let c = hp.pairs s v o x (omega arith) a ax in let e = c.ssn in let f =
          d.ssn in omega arith))
          (λ (b : x ≤ o).
          let c = hp.pairs s v x o b ax a in
          let e = hp.rises s x o b ax a in
          let f = c.rank in
          let k = d.ssn in
          let r = rank_x in
          let apart : (place_at p x).message ≡ (place_at p o).message → ⊥ =
          (λ (u : (place_at p x).message ≡ (place_at p o).message). let w = c.alike u in omega arith) in
          (omega (arith, apart), omega arith))
          (cases_lt o x)

      past_current : (y : Place) → current ≡ Some y → y.stream ≡ s → (message_of p y).ordered ≡ true → d.number ≤ y.ssn
          → suc d.number ≤ y.ssn
      past_current y c st ky l =
          let go = g.going y c in
          let f = go.follows in
          let n = go.is in
          let am : IsAt p s true go.last = record {
            known = omega arith;
            stream = sym f.stream ∙ st;
            kind =
                ap (λ z. (message_at p z (place_at p go.last).message).ordered) (sym f.stream)
                ∙ ap (λ z. (message_at p y.stream z).ordered) (sym f.message) ∙ ky;
          } in
          ⊎_elim
          (λ (e : y.ssn ≡ d.number). absurd (going_not_whole p over gone taken y hp go below
          (subst (λ z. IsWhole p taken z y.message) (sym st)
          (subst (λ z. IsWhole p taken s z) (sym (f.message ∙ same_message go.last am (sym f.ssn ∙ e ∙ sym d.ssn)))
          whole))))
          (λ (ne : y.ssn ≡ d.number → ⊥). omega (arith, ne))
          (cases_eq y.ssn d.number)

      held_after : (ds : List Data) → AllByRecursion (IsHeld p taken s true low) ds
          → AllByRecursion (λ (e : Data). d.number ≤ (place_at p e.offset).ssn) ds
          → AllByRecursion (IsHeld p taken s true (suc d.number))
          (filter (λ (e : Data). not (eqb e.ssn (d.number % 65536))) ds)
      held_after ds a b = all_weaker _ _ _
          (λ e (f : (IsHeld p taken s true low e × (d.number ≤ (place_at p e.offset).ssn))
          × (not (eqb e.ssn (d.number % 65536)) ≡ true)).
          let u = f.0 in
          let he = u.0 in
          let le = u.1 in
          let ne : (place_at p e.offset).ssn ≡ d.number → ⊥ = (λ (w : (place_at p e.offset).ssn ≡ d.number).
          true≢false (sym (eq-eqb _ _ (ssn_is p taken s low true e he ∙ ap (λ z. z % 65536) w)) ∙ not-true _ f.1)) in
          record {
            is = he.is;
            at = he.at;
            sent = he.sent;
            taken_in = he.taken_in;
            above = omega (arith, ne);
          })
          (all_both (λ (e : Data). IsHeld p taken s true low e × (d.number ≤ (place_at p e.offset).ssn))
          (λ (e : Data). not (eqb e.ssn (d.number % 65536)) ≡ true) _
          (all_filter (λ (e : Data). IsHeld p taken s true low e × (d.number ≤ (place_at p e.offset).ssn)) _ ds
          (all_both (IsHeld p taken s true low) (λ (e : Data). d.number ≤ (place_at p e.offset).ssn) ds a b))
          (all_passed (λ (e : Data). not (eqb e.ssn (d.number % 65536))) ds))

      link_near : (o : ℕ) → IsAt p s true o → low ≤ (place_at p o).ssn → (place_at p o).ssn < low + 32767
      link_near o a l = window low end hp o a (h.link o a l) unread

      read_below : IsFull p taken s (next s) (ssn s) h.cursor low end q reads → (i : ℕ) → i < suc (place_at p x).message
          → is_ordered p s i ≡ true
          → mem i (map (number_of p) reads ++ number_of p t.got ∷ []) ≡ true
      read_below f i l k = ⊎_elim
          (λ (a : i < end). mem_left i (map (number_of p) reads) (number_of p t.got ∷ []) (f.read i a k))
          (λ (a : end ≤ i). ⊎_elim
          (λ (e : i ≡ (place_at p x).message). mem_right i (map (number_of p) reads) (number_of p t.got ∷ [])
          (subst (λ z. mem i (z ∷ []) ≡ true) (e ∙ sym number) (mem_one i)))
          (λ (ne : i ≡ (place_at p x).message → ⊥). absurd (
          let li : i < (place_at p x).message = omega (arith, ne) in
          let kx = known_x in
          let r1 = rank_yes (p.accepted s) i (omega arith) k in
          let r2 = rank_rises (p.accepted s) (suc i) (place_at p x).message (omega arith) in
          let r3 = rank_rises (p.accepted s) end i a in
          let u = f.unskipped in
          let du = d.until in
          let da = d.above in
          let cx = f.exact x ax in
          let dx = d.ssn in
          let fl = f.level in
          omega arith))
          (cases_eq i (place_at p x).message))
          (cases_lt i end)

      letters : IsFull p taken s (next s) (ssn s) h.cursor low end q reads → IsKeptOrdered p s
          → map letter_read (reads ++ t.got ∷ []) ≡ letters_written p s (suc (place_at p x).message)
      letters f kept =
          let kx = known_x in
          let en : end ≤ length (p.accepted s) = (let a = h.until in let b = g.within s in omega arith) in
          let r1 = rank_of_all (p.accepted s) (place_at p x).message (omega arith) kept in
          let r2 = rank_of_all (p.accepted s) end en kept in
          let u = f.unskipped in
          let du = d.until in
          let da = d.above in
          let cx = f.exact x ax in
          let dx = d.ssn in
          let fl = f.level in
          let same : (place_at p x).message ≡ end = omega arith in
          let tl = got.tells in
          let pt = tl.payload_type in
          let pb = tl.bytes in
          let lt : letter_read t.got ≡ letter_written (message_at p s (place_at p x).message) =
          (let m : message_at p s (number_of p t.got) ≡ message_at p s (place_at p x).message =
          ap (message_at p s) number in cc) in
          map-join letter_read reads (t.got ∷ [])
          ∙ ap (λ z. z ++ letter_read t.got ∷ []) (f.letters kept ∙ ap (letters_written p s) (sym same))
          ∙ ap (λ z. letters_written p s (place_at p x).message ++ z ∷ []) lt
          ∙ sym (map-join letter_written (take (place_at p x).message (p.accepted s))
          (message_at p s (place_at p x).message ∷ []))
          ∙ ap (map letter_written) (sym (take_more (p.accepted s) (place_at p x).message no_message kx)
          ∙ ap (λ z. take z (p.accepted s)) (let e : (place_at p x).message + 1 ≡ suc (place_at p x).message =
          omega arith in e))
