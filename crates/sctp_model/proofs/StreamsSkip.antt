-- A FORWARD TSN that is taken keeps what holds of the streams: it skips what was abandoned, and drops nothing else that
-- matters.
use Rattle.std.proofs.Common.{ℕ, zero, suc, ◌+◌, ◌-◌, ◌*◌, ◌%◌, ◌<◌, ◌≤◌, ◌≡◌, ◌⊎◌, max, Bool, true, false, cond, leb}
use Rattle.std.proofs.Common.{List, ◌++◌, length, drop, Option, Some, None, refl, sym, ap, ◌∙◌, subst, inl, inr, ⊎_elim}
use Rattle.std.proofs.Common.{arith}
use Rattle.std.specs.Prelude.{filter}
use Rattle.std.specs.List.{AllByRecursion}
use Rattle.std.proofs.Math.Nat.{mul-le-mul_left}
use Rattle.std.proofs.lemmas.Bool.{cases_lt, le-leb, lt-leb, true≢false, false_from_ne_true, cond-true, cond-false}
use Rattle.sctp_model.specs.Messages.{Place, Plan, IsAt, count_ordered, place_at, message_at, message_of, is_last}
use Rattle.sctp_model.specs.Packets.{Data, Forward, mem, wrapped, skips, data_at}
use Rattle.sctp_serial.specs.Serial.{ssn_lte}
use Rattle.sctp_model.specs.Reassembly.{Queue, Got, at, skip, skip_if, drop_unordered}
use Rattle.sctp_model.specs.Machine.{live, forwarded, skipped_by}
use Rattle.sctp_model.specs.Safe.{AreDistinct, IsTaken, IsWhole, is_ordered, read_end, read_ssn, unread}
use Rattle.sctp_model.specs.Invariants.{IsPlanned, IsEarlier, IsSending, IsForward, IsReported, IsAccounted, IsHeld}
use Rattle.sctp_model.specs.Invariants.{IsSkipped, IsOrdered, IsUnordered, IsGot, IsStream, NoneGone, numbers_of}
use Rattle.sctp_model.specs.Invariants.{gone_at, IsFresh}
use Rattle.sctp_model.proofs.Lists.{all_filter}
use Rattle.sctp_model.proofs.NumberWindows.{up_to_is, next_is}
use Rattle.sctp_model.proofs.CompleteRuns.{at_filter}
use Rattle.sctp_model.proofs.NextOrdered.{window}
use Rattle.sctp_model.proofs.OrderedHalves.{ordered_kept}

-- Below the reach of a FORWARD TSN a message that stays is whole.

module _ (p : Plan) (over : ℕ → Bool) (gone : ℕ → ℕ → Bool) (acked : ℕ → Bool) (now : ℕ) (taken : List ℕ)
    (f : Forward) (s i : ℕ)
    (hp : IsPlanned p over) (hf : IsForward p gone over acked now f)
    (account : (o : ℕ) → o < f.reach → IsAccounted p gone taken o) (none : NoneGone gone s)
    (tails : (o : ℕ) → o < length p.places → (place_at p o).marker ≡ true → gone_at p gone o ≡ true) where
  stays : (o : ℕ) → (place_at p o).stream ≡ s → gone_at p gone o ≡ false
  stays o st = ap (λ z. gone z (place_at p o).message) st ∙ none (place_at p o).message

  taken_below : (o k : ℕ) → o < f.reach → (place_at p o).stream ≡ s → (place_at p o).message ≡ i
      → (place_at p o).piece ≡ k → IsTaken p taken s i k
  taken_below o k l st m e = record {
    offset = o;
    known = let a = hf.known in omega arith;
    stream = st;
    message = m;
    piece = e;
    sent =
        false_from_ne_true _ (λ (k : (place_at p o).marker ≡ true).
        true≢false (sym (tails o (let a = hf.known in omega arith) k) ∙ stays o st));
    taken_in = ⊎_elim
        (λ (a : mem o taken ≡ true). a)
        (λ (g : gone_at p gone o ≡ true). absurd (true≢false (sym g ∙ stays o st)))
        (account o l);
  }

  down : (n o j : ℕ) → (place_at p o).piece ≡ n + j → o < f.reach → (place_at p o).stream ≡ s
      → (place_at p o).message ≡ i → IsTaken p taken s i j
  down zero o j e l st m = taken_below o j l st m (omega arith)
  down (suc n) o j e l st m =
      let b = hp.before o (n + j) (let a = hf.known in omega arith) (omega arith) in
      let c = b.1 in
      let w = c.follows in
      let nx = c.next in
      down n b.0 j (let u : suc (place_at p b.0).piece ≡ suc (n + j) =
      sym w.piece ∙ (let v : (place_at p o).piece ≡ suc (n + j) = omega arith in v) in omega arith)
      (omega arith) (sym w.stream ∙ st) (sym w.message ∙ m)

  up : (n o j : ℕ) → (place_at p o).piece + n ≡ j → o < f.reach → (place_at p o).stream ≡ s → (place_at p o).message ≡ i
      → p.size * j < length (message_at p s i).bytes → IsTaken p taken s i j
  up zero o j e l st m len = taken_below o j l st m (omega arith)
  up (suc n) o j e l st m len =
      let text : message_of p (place_at p o) ≡ message_at p s i =
      ap (λ z. message_at p z (place_at p o).message) st ∙ ap (message_at p s) m in
      let sizes : p.size * suc (place_at p o).piece ≤ p.size * j =
      mul-le-mul_left p.size (let u : suc (place_at p o).piece ≤ j = omega arith in u) in
      let more : is_last p (place_at p o) ≡ false =
      lt-leb _ _ (subst (λ z. p.size * suc (place_at p o).piece < length z.bytes) (sym text) (omega arith)) in
      let sent : (place_at p o).marker ≡ false = false_from_ne_true _ (λ (k : (place_at p o).marker ≡ true).
      true≢false (sym (tails o (let a = hf.known in omega arith) k) ∙ stays o st)) in
      ⊎_elim
      (λ (b : suc o < f.reach).
      let w = hp.after o (let a = hf.known in omega arith) more sent in
      up n (suc o) j (let u = w.piece in omega arith) b (w.stream ∙ st) (w.message ∙ m) len)
      (λ (b : f.reach ≤ suc o).
      absurd (true≢false (sym (hf.abandoned o (let a = hf.ahead in omega arith) (omega arith)) ∙ stays o st)))
      (cases_lt (suc o) f.reach)

  whole_below : (o : ℕ) → o < f.reach → (place_at p o).stream ≡ s → (place_at p o).message ≡ i → IsWhole p taken s i
  whole_below o l st m = record {
    accepted =
        subst (λ z. z < length (p.accepted s)) m
        (subst (λ z. (place_at p o).message < length (p.accepted z)) st (hp.known o (let a = hf.known in omega arith)));
    pieces = λ j len. ⊎_elim
        (λ (a : j < (place_at p o).piece). down ((place_at p o).piece - j) o j (omega arith) l st m)
        (λ (a : (place_at p o).piece ≤ j). up (j - (place_at p o).piece) o j (omega arith) l st m len)
        (cases_lt j (place_at p o).piece);
  }

module _ (p : Plan) (gone : ℕ → ℕ → Bool) (current : Option Place) (next ssn : ℕ) (taken : List ℕ)
    (passed passed' skipped s : ℕ) where
  -- what holds of the ordered half where the offsets below this one were passed over
  abbrev IsOrderedPast : ℕ → ℕ → ℕ → Queue → List Got → Type 0
  IsOrderedPast now = IsOrdered p gone current next ssn taken now skipped s

  -- the ordered half, where nothing of this stream is skipped
  ordered_on : (low end : ℕ) (q q' : Queue) (reads : List Got) → q'.cursor ≡ q.cursor → q'.ordered ≡ q.ordered
      → passed ≤ passed' → IsOrderedPast passed low end q reads
      → IsOrderedPast passed' low end q' reads
  ordered_on low end q q' reads c o far h =
      ordered_kept c (subst (AllByRecursion (IsHeld p taken s true low)) (sym o) h.held) (λ y m. m) far
      (λ y a m f. subst (λ z. at y z ≡ Some (data_at p y)) (sym o) (f m)) (λ i m. m) (λ kept. refl) h

module _ {p : Plan} {over : ℕ → Bool} {current : Option Place} {next ssn : ℕ → ℕ} {begun gone : ℕ → ℕ → Bool}
    {taken : List ℕ} {passed skipped s : ℕ} {acked : ℕ → Bool} {now low end : ℕ} {q : Queue} {reads : List Got}
    {f : Forward} {m : ℕ} (hp : IsPlanned p over) (v : over s ≡ false)
    (g : IsSending p current next ssn begun gone over) (hf : IsForward p gone over acked now f)
    (rep : IsReported p gone s f.start f.reach m)
    (all : (o : ℕ) → IsAt p s true o → (place_at p o).ssn ≤ m → o < f.reach) (far : passed ≤ f.reach)
    (flight : length p.places < f.reach + 16384) (near : count_ordered (drop end (p.accepted s)) < 32768)
    (h : IsOrdered p gone current (next s) (ssn s) taken passed skipped s low end q reads) where
  -- the ordered half, where the sequence number m is reported: the 16 bits are read rightly, as everything in flight is
  -- near
  ordered_skipped : (q' : Queue) → q'.cursor ≡ (skip q (m % 65536)).cursor → q'.ordered ≡ (skip q (m % 65536)).ordered
      → IsOrdered p gone current (next s) (ssn s) taken f.reach (max skipped (suc m)) s low end q' reads
  ordered_skipped q' ec eo = record {
    cursor = cond (leb h.cursor top) (suc top) h.cursor;
    is = ec ∙ cursor_is;
    above = cases (λ z. low ≤ z) (λ l. let a = h.above in omega arith) (λ l. h.above);
    latest =
        cases (λ z. z ≡ max low (max skipped (suc m))) (λ l. let a = h.latest in let b = rep.is in omega arith)
        (λ l. let a = h.latest in let b = rep.is in omega arith);
    origin = ⊎_elim
        (λ (l : suc top ≤ skipped). subst (λ z. (z ≡ 0) ⊎ IsSkipped p gone f.reach s z)
        (let b = rep.is in let e : skipped ≡ max skipped (suc m) = omega arith in e)
        (⊎_elim (λ (x : skipped ≡ 0). inl x) (λ (k : IsSkipped p gone passed s skipped). inr (record {
          offset = k.offset;
          below = let b = k.below in omega arith;
          at = k.at;
          given_up = k.given_up;
          is = k.is;
        })) h.origin))
        (λ (l : skipped < suc top). inr (record {
          offset = rep.offset;
          below = rep.below;
          at = rep.at;
          given_up = rep.given_up;
          is = let b = rep.is in omega arith;
        }))
        (swap (cases_lt skipped (suc top)));
    begun = cases (λ z. z ≤ ssn s) (λ l. earlier.below) (λ l. h.begun);
    going = λ y c st k. cases (λ z. z ≤ y.ssn) (λ l. past_current y c st k) (λ l. h.going y c st k);
    held =
        subst (AllByRecursion (IsHeld p taken s true low)) (sym eo)
        (all_filter (IsHeld p taken s true low) _ q.ordered h.held);
    past = λ o a. cases (λ z. (place_at p o).ssn < z → (mem o taken ≡ true) ⊎ (o < f.reach))
        (λ l b. inr (all o a (let c = rep.is in omega arith)))
        (λ l b. ⊎_elim (λ (x : mem o taken ≡ true). inl x) (λ (x : o < passed). inr (omega arith)) (h.past o a b));
    later = h.later;
    link = h.link;
    until = h.until;
    gap = h.gap;
    full =
        λ none.
        absurd
        (true≢false (sym rep.given_up ∙ ap (λ z. gone z (place_at p rep.offset).message) rep.at.stream
        ∙ none (place_at p rep.offset).message));
  }
    where
      top : ℕ
      top = (place_at p rep.offset).ssn

      swap : (skipped < suc top) ⊎ (suc top ≤ skipped) → (suc top ≤ skipped) ⊎ (skipped < suc top)
      swap (inl a) = inr a
      swap (inr a) = inl a

      earlier : IsEarlier p s (next s) (ssn s) (place_at p rep.offset) rep.offset
      earlier = g.earlier s v rep.offset rep.at

      behind : h.cursor < top + 32768
      behind = let a = earlier.near in let b = h.begun in let c = hf.near in let d = rep.from in omega arith

      ahead : top < h.cursor + 32768
      ahead = ⊎_elim
          (λ (l : low ≤ top). let w = window low end hp rep.offset rep.at (h.link rep.offset rep.at l) near in
          let a = h.above in omega arith)
          (λ (l : top < low). let a = h.above in omega arith)
          (either (cases_lt top low))
        where
          either : (top < low) ⊎ (low ≤ top) → (low ≤ top) ⊎ (top < low)
          either (inl a) = inr a
          either (inr a) = inl a

      cases : (P : ℕ → Type 0) → (h.cursor ≤ top → P (suc top)) → (top < h.cursor → P h.cursor)
          → P (cond (leb h.cursor top) (suc top) h.cursor)
      cases P a b = ⊎_elim
          (λ (l : top < h.cursor). subst P (sym (cond-false (leb h.cursor top) (suc top) h.cursor (lt-leb _ _ l)))
          (b l))
          (λ (l : h.cursor ≤ top). subst P (sym (cond-true (leb h.cursor top) (suc top) h.cursor (le-leb _ _ l))) (a l))
          (cases_lt top h.cursor)

      cursor_is : cond (ssn_lte q.cursor (m % 65536)) ((m % 65536 + 1) % 65536) q.cursor
          ≡ cond (leb h.cursor top) (suc top) h.cursor % 65536
      cursor_is =
          ap (λ z. cond (ssn_lte q.cursor (z % 65536)) ((z % 65536 + 1) % 65536) q.cursor) rep.is
          ∙ ap (λ z. cond (ssn_lte z (top % 65536)) ((top % 65536 + 1) % 65536) z) h.is
          ∙ ap (λ z. cond z ((top % 65536 + 1) % 65536) (h.cursor % 65536)) (up_to_is h.cursor top behind ahead)
          ∙ ap (λ z. cond (leb h.cursor top) z (h.cursor % 65536)) (next_is top)
          ∙ split (leb h.cursor top)
        where
          split : (b : Bool) → cond b (suc top % 65536) (h.cursor % 65536) ≡ cond b (suc top) h.cursor % 65536
          split true = refl
          split false = refl

      past_current : (y : Place) → current ≡ Some y → y.stream ≡ s → (message_of p y).ordered ≡ true → suc top ≤ y.ssn
      past_current y c st k =
          let go = g.going y c in
          let w = go.follows in
          let n = go.is in
          let ra = rep.at in
          let rk = ra.known in
          let am : IsAt p s true go.last = record {
            known = omega arith;
            stream = sym w.stream ∙ st;
            kind =
                ap (λ z. (message_at p z (place_at p go.last).message).ordered) (sym w.stream)
                ∙ ap (λ z. (message_at p y.stream z).ordered) (sym w.message) ∙ k;
          } in
          let pair = hp.pairs s v rep.offset go.last (omega arith) ra am in
          let le = pair.ssn in
          let ws = w.ssn in
          let apart : top ≡ (place_at p go.last).ssn → ⊥ = (λ (e : top ≡ (place_at p go.last).ssn).
          true≢false (sym rep.given_up ∙ ap (λ z. gone z (place_at p rep.offset).message) (ra.stream ∙ sym st)
          ∙ ap (gone y.stream) (pair.together e ∙ sym w.message) ∙ go.stays)) in
          omega (arith, apart)

module _ {p : Plan} {over : ℕ → Bool} {gone : ℕ → ℕ → Bool} {acked : ℕ → Bool} {now : ℕ} {taken : List ℕ}
    {s : ℕ} {f : Forward} (hp : IsPlanned p over) (hf : IsForward p gone over acked now f)
    (account : (o : ℕ) → o < f.reach → IsAccounted p gone taken o)
    (tails : (o : ℕ) → o < length p.places → (place_at p o).marker ≡ true → gone_at p gone o ≡ true) where
  -- what is kept of the unordered half: of messages that stay, all pieces of those that aren't whole lie past the reach
  unordered_on : (q q' : Queue) (gots gots' : List Got) → q'.unordered ≡ (drop_unordered f.reach q).unordered
      → gots' ≡ gots → IsUnordered p gone taken s q gots → IsUnordered p gone taken s q' gots'
  unordered_on q q' gots gots' eu eg u =
      subst (IsUnordered p gone taken s q') (sym eg) record {
        held =
            subst (AllByRecursion (IsHeld p taken s false 0)) (sym eu)
            (all_filter (IsHeld p taken s false 0) (λ (d : Data). leb f.reach d.offset) q.unordered u.held);
        fresh =
            subst (AllByRecursion (IsFresh p gots)) (sym eu)
            (all_filter (IsFresh p gots) (λ (d : Data). leb f.reach d.offset) q.unordered u.fresh);
        all = u.all;
        kept = λ none o a m. ⊎_elim
            (λ (b : o < f.reach). inr (u.all none (place_at p o).message
            (whole_below p over gone acked now taken f s (place_at p o).message hp hf account none tails o b
            a.stream refl)
            (ap (λ z. is_ordered p z (place_at p o).message) (sym a.stream) ∙ a.kind)))
            (λ (b : f.reach ≤ o). ⊎_elim
            (λ (l : at o q.unordered ≡ Some (data_at p o)). inl (subst (λ z. at o z ≡ Some (data_at p o)) (sym eu)
            (at_filter (λ (d : Data). leb f.reach d.offset) o q.unordered (data_at p o) l (le-leb _ _ b))))
            (λ (l : mem (place_at p o).message (numbers_of p gots) ≡ true). inr l)
            (u.kept none o a m))
            (cases_lt o f.reach);
      }

skipped_unordered : (q : Queue) (m : Option ℕ)
    → ((skip_if q m).unordered ≡ q.unordered) × ((skip_if q m).complete ≡ q.complete)
skipped_unordered q None = (refl, refl)
skipped_unordered q (Some m) = (refl, refl)

module _ (p : Plan) (gone : ℕ → ℕ → Bool) (current : Option Place) (next ssn : ℕ) (taken : List ℕ)
    (passed passed' skipped skipped' s : ℕ) where
  -- what holds of the stream where the offsets below the first number were passed over, and the sequence numbers below
  -- the second one were skipped
  abbrev IsStreamPast : ℕ → ℕ → Queue → List Got → Type 0
  IsStreamPast now left = IsStream p gone current next ssn taken now left s

  stream_with : (q q' : Queue) (reads : List Got) → q'.complete ≡ q.complete
      → IsOrdered p gone current next ssn taken passed' skipped' s (read_ssn p 0 reads) (read_end p 0 reads) q' reads
      → IsUnordered p gone taken s q' (reads ++ q'.complete)
      → IsStreamPast passed skipped q reads
      → IsStreamPast passed' skipped' q' reads
  stream_with q q' reads e o u w = record {
    got = subst (λ z. AllByRecursion (IsGot p taken s) (reads ++ z)) (sym e) w.got;
    once = subst (λ z. AreDistinctNumbers z) (sym e) w.once;
    rising = w.rising;
    below = w.below;
    complete = subst (AllByRecursion (λ (g : Got). g.ordered ≡ false)) (sym e) w.complete;
    ordered = o;
    unordered = u;
  }
    where
      AreDistinctNumbers : List Got → Type 0
      AreDistinctNumbers z = AreDistinct (numbers_of p (reads ++ z))

module _ {p : Plan} {over : ℕ → Bool} {current : Option Place} {next ssn : ℕ → ℕ} {begun gone : ℕ → ℕ → Bool}
    {taken : List ℕ} {passed skipped s : ℕ} {acked : ℕ → Bool} {now : ℕ} {reads : List Got} {f : Forward}
    (hp : IsPlanned p over) (v : over s ≡ false) (g : IsSending p current next ssn begun gone over)
    (hf : IsForward p gone over acked now f) (account : (o : ℕ) → o < f.reach → IsAccounted p gone taken o)
    (tails : (o : ℕ) → o < length p.places → (place_at p o).marker ≡ true → gone_at p gone o ≡ true)
    (far : passed ≤ f.reach) (flight : length p.places < f.reach + 16384) (near : unread p s reads < 32768) where
  pub stream_forwarded : (queue : Option Queue)
      → IsStream p gone current (next s) (ssn s) taken passed skipped s (live queue) reads
      → IsStream p gone current (next s) (ssn s) taken f.reach (skipped_by queue (f.numbers s) skipped) s
      (live (forwarded queue f.reach (skips f s))) reads
  stream_forwarded None w =
      stream_with p gone current (next s) (ssn s) taken passed f.reach skipped skipped s (live None)
      (live None) reads refl
      (ordered_on p gone current (next s) (ssn s) taken passed f.reach skipped s (read_ssn p 0 reads)
      (read_end p 0 reads)
      (live None) (live None) reads refl refl far w.ordered)
      w.unordered w
  stream_forwarded (Some q) w = go (f.numbers s) refl
    where
      go : (m : Option ℕ) → f.numbers s ≡ m
          → IsStream p gone current (next s) (ssn s) taken f.reach (skipped_by (Some q) m skipped) s
          (drop_unordered f.reach (skip_if q (wrapped m))) reads
      go m e =
          let same = skipped_unordered q (wrapped m) in
          stream_with p gone current (next s) (ssn s) taken passed f.reach skipped (skipped_by (Some q) m skipped) s q
          (drop_unordered f.reach (skip_if q (wrapped m))) reads same.1
          (ordered m e)
          (unordered_on hp hf account tails q (drop_unordered f.reach (skip_if q (wrapped m)))
          (reads ++ q.complete) (reads ++ (skip_if q (wrapped m)).complete)
          (ap (filter (λ (d : Data). leb f.reach d.offset)) same.0) (ap (λ z. reads ++ z) same.1) w.unordered)
          w
        where
          ordered : (m : Option ℕ) → f.numbers s ≡ m
              → IsOrdered p gone current (next s) (ssn s) taken f.reach (skipped_by (Some q) m skipped) s
              (read_ssn p 0 reads) (read_end p 0 reads) (drop_unordered f.reach (skip_if q (wrapped m))) reads
          ordered None e =
              ordered_on p gone current (next s) (ssn s) taken passed f.reach skipped s (read_ssn p 0 reads)
              (read_end p 0 reads) q (drop_unordered f.reach q) reads refl refl far w.ordered
          ordered (Some c) e =
              ordered_skipped hp v g hf (hf.reported s c e) (hf.all s c e v) far flight near w.ordered
              (drop_unordered f.reach (skip q (c % 65536))) refl refl
