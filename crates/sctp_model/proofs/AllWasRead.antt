-- When reads give nothing more, all that is to be had was read.
use Rattle.std.proofs.Common.{ℕ, zero, suc, ◌+◌, ◌*◌, ◌%◌, ◌<◌, ◌≤◌, ◌≡◌, Bool, true, false, not, cond, eqb, ◌&&◌, List}
use Rattle.std.proofs.Common.{[], ◌∷◌, ◌++◌, length, drop, Option, Some, None, refl, sym, ap, ◌∙◌, subst, ⊎_elim, arith}
use Rattle.std.proofs.Common.{append_assoc, append-nil}
use Rattle.std.specs.Prelude.{filter}
use Rattle.std.proofs.lemmas.List.{nil_from_length}
use Rattle.std.proofs.lemmas.Bool.{cases_Bool, cases_lt, eq-eqb, le-ltb, cond-true, cond-false, not_from_true}
use Rattle.sctp_model.specs.Messages.{Message, Place, Plan, IsAt, count_ordered, place_at, message_at, rank}
use Rattle.sctp_model.specs.Packets.{Data, mem, data_at}
use Rattle.sctp_serial.specs.Serial.{ssn_lt}
use Rattle.sctp_model.specs.Reassembly.{Queue, Run, Taken, Got, Drained, at, top, run_with, run_of, got_of, least}
use Rattle.sctp_model.specs.Reassembly.{begins, run_begun, message_in, without, taken_out, next_of, next_ordered, next}
use Rattle.sctp_model.specs.Reassembly.{next_from, drain, drain_on, waiting}
use Rattle.sctp_model.specs.Safe.{IsTaken, IsWhole, is_ordered, read_end, unread}
use Rattle.sctp_model.specs.Invariants.{IsPlanned, IsSending, IsHeld, IsOrdered, IsStream, NoneGone}
use Rattle.sctp_model.proofs.NumberWindows.{before_is, same_from}
use Rattle.sctp_model.proofs.CompleteRuns.{HasPiece, at_found, run_found}
use Rattle.sctp_model.proofs.NextOrdered.{IsNear, near_all, least_none, least_is, begins_found, begins_finds, ssn_is}
use Rattle.sctp_model.proofs.NextOrdered.{first_is}
use Rattle.sctp_model.proofs.ReadsKeepStreams.{stream_read, read_on}

-- Each read takes something out.

filter_short : {X : Type 0} (p : X → Bool) (xs : List X) → length (filter p xs) ≤ length xs
filter_short p [] = omega arith
filter_short p (x ∷ xs) =
    let r = filter_short p xs in
    ⊎_elim
    (λ (b : p x ≡ true). subst (λ z. length z ≤ suc (length xs))
    (sym (cond-true (p x) (x ∷ filter p xs) (filter p xs) b)) (omega arith))
    (λ (b : p x ≡ false). subst (λ z. length z ≤ suc (length xs))
    (sym (cond-false (p x) (x ∷ filter p xs) (filter p xs) b)) (omega arith))
    (cases_Bool (p x))

filter_shorter : (c : ℕ) (held : List Data) (d : Data) → begins c held ≡ Some d
    → length (filter (λ (e : Data). not (eqb e.ssn c)) held) < length held
filter_shorter c [] d e = absurd (cc)
filter_shorter c (x ∷ xs) d e =
    ⊎_elim
    (λ (b : eqb x.ssn c ≡ true).
    let r = filter_short (λ (y : Data). not (eqb y.ssn c)) xs in
    subst (λ z. length z < suc (length xs))
    (sym (cond-false (not (eqb x.ssn c)) (x ∷ filter (λ (y : Data). not (eqb y.ssn c)) xs)
    (filter (λ (y : Data). not (eqb y.ssn c)) xs) (not_from_true _ b))) (omega arith))
    (λ (b : eqb x.ssn c ≡ false).
    let r =
    filter_shorter c xs d
    (sym (cond-false (eqb x.ssn c && x.first) (Some x) (begins c xs) (ap (λ z. z && x.first) b)) ∙ e) in
    subst (λ z. length z < suc (length xs))
    (sym (cond-true (not (eqb x.ssn c)) (x ∷ filter (λ (y : Data). not (eqb y.ssn c)) xs)
    (filter (λ (y : Data). not (eqb y.ssn c)) xs) (ap not b))) (omega arith))
    (cases_Bool (eqb x.ssn c))

due_shrinks : (q : Queue) (t : Taken) → next_ordered q ≡ Some t
    → (length t.rest.ordered < length q.ordered) × (t.rest.complete ≡ q.complete)
due_shrinks q t e = go (least q.ordered) e
  where
    last : (c : ℕ) (b : Option Data) → begins c q.ordered ≡ b → taken_out q c (run_begun q.ordered b) ≡ Some t
        → (length t.rest.ordered < length q.ordered) × (t.rest.complete ≡ q.complete)
    last c None b f = absurd (cc)
    last c (Some d) b f = more (run_of q.ordered d) f
      where
        more : (r : Option Run) → taken_out q c r ≡ Some t
            → (length t.rest.ordered < length q.ordered) × (t.rest.complete ≡ q.complete)
        more None g = absurd (cc)
        more (Some r) g =
            let i : record { got = got_of r; rest = without q c } ≡ t = cc in (
              subst (λ z. length z.rest.ordered < length q.ordered) i (filter_shorter c q.ordered d b),
              sym (ap (λ z. z.rest.complete) i),
            )

    go : (c : Option ℕ) → next_of q c ≡ Some t
        → (length t.rest.ordered < length q.ordered) × (t.rest.complete ≡ q.complete)
    go None f = absurd (cc)
    go (Some c) f = ⊎_elim
        (λ (b : ssn_lt q.cursor c ≡ true). absurd (let n : None ≡ Some t =
        sym (cond-true (ssn_lt q.cursor c) None (taken_out q c (message_in q.ordered c)) b) ∙ f in cc))
        (λ (b : ssn_lt q.cursor c ≡ false). last c (begins c q.ordered) refl
        (sym (cond-false (ssn_lt q.cursor c) None (taken_out q c (message_in q.ordered c)) b) ∙ f))
        (cases_Bool (ssn_lt q.cursor c))

pub read_shrinks : (q : Queue) (t : Taken) → next q ≡ Some t → waiting t.rest < waiting q
read_shrinks q t e = go q.complete refl e
  where
    go : (c : List Got) → q.complete ≡ c → next_from q c ≡ Some t
        → length t.rest.complete + length t.rest.ordered < length q.complete + length q.ordered
    go [] n f = let d = due_shrinks q t f in let a = d.0 in let b = ap length d.1 in omega arith
    go (g ∷ gs) n f =
        let i : record { got = g; rest = record q { complete = gs } } ≡ t = cc in
        let a : length gs ≡ length t.rest.complete = ap (λ z. length z.rest.complete) i in
        let b : length q.ordered ≡ length t.rest.ordered = ap (λ z. length z.rest.ordered) i in
        let c : length q.complete ≡ suc (length gs) = ap length n in
        omega arith

pub nothing_waits : (q : Queue) → waiting q ≤ 0 → next q ≡ None
nothing_waits q l =
    let a : q.complete ≡ [] = nil_from_length q.complete (omega arith) in
    let b : q.ordered ≡ [] = nil_from_length q.ordered (omega arith) in
    ap (next_from q) a ∙ ap (λ z. next_of q (least z)) b

module _ (p : Plan) (gone : ℕ → ℕ → Bool) (current : Option Place) (next_number ssn : ℕ) (taken : List ℕ)
    (passed skipped s : ℕ) where
  -- what holds of the stream, by its queue and what was read of it
  abbrev IsStreamLeft : Queue → List Got → Type 0
  IsStreamLeft = IsStream p gone current next_number ssn taken passed skipped s

  -- after all that is ready was read: what holds still, and no read gives anything
  pub record IsDrained (reads : List Got) (d : Drained) : Type 0 where
    pub stream : IsStreamLeft d.rest (reads ++ d.gots)
    pub near : unread p s (reads ++ d.gots) < 32768
    pub on : read_end p 0 reads ≤ read_end p 0 (reads ++ d.gots)
    pub none : next d.rest ≡ None

count_less : (ms : List Message) (i j : ℕ) → i ≤ j → count_ordered (drop j ms) ≤ count_ordered (drop i ms)
count_less [] zero zero l = omega arith
count_less [] zero (suc j) l = omega arith
count_less [] (suc i) zero l = omega arith
count_less [] (suc i) (suc j) l = omega arith
count_less (m ∷ ms) zero zero l = omega arith
count_less (m ∷ ms) zero (suc j) l = let r = count_less ms zero j (omega arith) in
    let s : count_ordered (drop zero (m ∷ ms)) ≡ cond m.ordered 1 0 + count_ordered (drop zero ms) = refl in
    rw s (omega arith)
count_less (m ∷ ms) (suc i) zero l = absurd (omega arith)
count_less (m ∷ ms) (suc i) (suc j) l = count_less ms i j (omega arith)

module _ {p : Plan} {over : ℕ → Bool} {current : Option Place} {next' ssn : ℕ → ℕ} {begun gone : ℕ → ℕ → Bool}
    {taken : List ℕ} {passed skipped s : ℕ} (hp : IsPlanned p over) (v : over s ≡ false)
    (g : IsSending p current next' ssn begun gone over)
    (below : (o : ℕ) → mem o taken ≡ true → o < length p.places) where
  pub drained : (n : ℕ) (q : Queue) (reads : List Got) → unread p s reads < 32768 → waiting q ≤ n
      → IsStream p gone current (next' s) (ssn s) taken passed skipped s q reads
      → IsDrained p gone current (next' s) (ssn s) taken passed skipped s reads (drain n q)
  drained zero q reads near l w = record {
    stream = subst (IsStream p gone current (next' s) (ssn s) taken passed skipped s q) (sym (append-nil reads)) w;
    near = subst (λ z. unread p s z < 32768) (sym (append-nil reads)) near;
    on = subst (λ z. read_end p 0 reads ≤ read_end p 0 z) (sym (append-nil reads)) (omega arith);
    none = nothing_waits q l;
  }
  drained (suc n) q reads near l w =
      go (next q) refl (λ t e.
      let a = read_on t hp v g below near w e in
      let c = count_less (p.accepted s) (read_end p 0 reads) (read_end p 0 (reads ++ t.got ∷ [])) a in
      drained n t.rest (reads ++ t.got ∷ []) (omega arith) (let r = read_shrinks q t e in omega arith)
      (stream_read t hp v g below near w e))
    where
      go : (x : Option Taken) → next q ≡ x
          → ((t : Taken) → next q ≡ Some t
          → IsDrained p gone current (next' s) (ssn s) taken passed skipped s (reads ++ t.got ∷ []) (drain n t.rest))
          → IsDrained p gone current (next' s) (ssn s) taken passed skipped s reads (drain_on q x (drain n))
      go None e i = record {
        stream = subst (IsStream p gone current (next' s) (ssn s) taken passed skipped s q) (sym (append-nil reads)) w;
        near = subst (λ z. unread p s z < 32768) (sym (append-nil reads)) near;
        on = subst (λ z. read_end p 0 reads ≤ read_end p 0 z) (sym (append-nil reads)) (omega arith);
        none = e;
      }
      go (Some t) e i =
          let r = i t e in
          let further = read_on t hp v g below near w e in
          let d = drain n t.rest in
          let same : (reads ++ t.got ∷ []) ++ d.gots ≡ reads ++ t.got ∷ d.gots = append_assoc reads
          (t.got ∷ []) d.gots in
          record {
            stream = subst (IsStream p gone current (next' s) (ssn s) taken passed skipped s d.rest) same r.stream;
            near = subst (λ z. unread p s z < 32768) same r.near;
            on =
                subst (λ z. read_end p 0 reads ≤ read_end p 0 z) same (let a = r.on in omega arith);
            none = r.none;
          }

some_not_none : (t : Taken) → Some t ≡ None → ⊥
some_not_none t e = cc

near_low : (p : Plan) (taken : List ℕ) (s low : ℕ) (x : Data) → IsHeld p taken s true low x → IsNear p low x
    → x.ssn ≡ low % 65536
    → (place_at p x.offset).ssn ≡ low
unfolding IsNear
near_low p taken s low x hx n c =
    let a = hx.above in same_from _ _ (omega arith) (omega arith) (sym (ssn_is p taken s low true x hx) ∙ c)

module _ {p : Plan} {over : ℕ → Bool} {gone : ℕ → ℕ → Bool} {current : Option Place} {next_number ssn : ℕ}
    {taken : List ℕ} {passed skipped s low end j : ℕ} {q : Queue} {reads : List Got} (hp : IsPlanned p over)
    (v : over s ≡ false) (none : NoneGone gone s) (near : count_ordered (drop end (p.accepted s)) < 32768)
    (h : IsOrdered p gone current next_number ssn taken passed skipped s low end q reads) where
  -- Where no read gives anything, the next ordered message isn't whole.
  pub none_due : next_ordered q ≡ None → is_ordered p s j ≡ true → rank (p.accepted s) j ≡ low → IsWhole p taken s j → ⊥
  none_due empty kind level
      whole = go (least q.ordered) refl
    where
      first : IsTaken p taken s j 0
      first = whole.pieces 0 (let a = hp.filled s j whole.accepted in omega arith)

      o : ℕ
      o = first.offset

      at_piece : (k : ℕ) → (t : IsTaken p taken s j k) → IsAt p s true t.offset
      at_piece k t = record {
        known = t.known;
        stream = t.stream;
        kind =
            ap (λ z. (message_at p z (place_at p t.offset).message).ordered) t.stream
            ∙ ap (is_ordered p s) t.message ∙ kind;
      }

      ssn_piece : (k : ℕ) → (t : IsTaken p taken s j k) → (place_at p t.offset).ssn ≡ low
      ssn_piece k t = (h.full none).exact t.offset (at_piece k t) ∙ ap (rank (p.accepted s)) t.message ∙ level

      piece_held : (k : ℕ) → (t : IsTaken p taken s j k) → at t.offset q.ordered ≡ Some (data_at p t.offset)
      piece_held k t = (h.full none).held t.offset (at_piece k t) t.taken_in (let a = ssn_piece k t in omega arith)

      go : (c : Option ℕ) → least q.ordered ≡ c → ⊥
      go None e = let a : at o q.ordered ≡ None = ap (at o) (least_none q.ordered e) in let b = piece_held 0 first in cc
      go (Some c) e =
          let ns = near_all taken low end hp q.ordered h.held h.link near in
          let l = least_is p taken s low q.ordered c ns e in
          let la = l.above in
          let so = ssn_piece 0 first in
          let lb =
          (at_found (λ (d : Data). l.number ≤ (place_at p d.offset).ssn) o q.ordered (data_at p o) (piece_held 0 first)
          l.below).0 in
          let number : l.number ≡ low = omega arith in
          let u = (h.full none).unskipped in
          let order : ssn_lt q.cursor c ≡ false
          =
          ap (λ z. ssn_lt z c) h.is ∙ ap (ssn_lt (h.cursor % 65536)) l.is
          ∙ before_is h.cursor l.number (omega arith) (omega arith) ∙ le-ltb _ _ (omega arith) in
          let b =
          begins_finds c o q.ordered (data_at p o) (piece_held 0 first)
          (ap (λ z. z % 65536) (so ∙ sym number) ∙ sym l.is)
          (eq-eqb _ _ first.piece) in
          let x = b.0 in
          let bf = begins_found (λ (d : Data). IsHeld p taken s true low d × IsNear p low d) c q.ordered x b.1 ns in
          let bh = bf.0 in
          let hx = bh.0 in
          let sx : (place_at p x.offset).ssn ≡ low =
          near_low p taken s low x hx bh.1 (bf.1 ∙ l.is ∙ ap (λ z. z % 65536) number) in
          let px : (place_at p x.offset).piece ≡ 0 = first_is p taken s low true x hx bf.2 in
          let mx : (place_at p x.offset).message ≡ j = same_message x.offset hx.at sx in
          let hax = hx.at in
          let r = run_found q.ordered s hp (top q.ordered) x.offset hax.known hax.stream (omega arith)
          (subst (λ z. at z q.ordered ≡ Some (data_at p z))
          (hp.one o x.offset first.known hax.known (first.stream ∙ sym hax.stream) (first.message ∙ sym mx)
          (first.piece ∙ sym px)) (piece_held 0 first))
          (λ k a z.
          has x.offset k mx
          (whole.pieces k (subst (λ y. p.size * k < length (message_at p s y).bytes) mx
          (subst (λ y. p.size * k < length (message_at p y (place_at p x.offset).message).bytes) hax.stream z)))) in
          let m : message_in q.ordered c ≡ Some (record { head = x; pieces = r.0 }) =
          ap (run_begun q.ordered) b.1 ∙ ap (run_with x) r.1 in
          let n : next_ordered q ≡ Some
          (record { got = got_of (record { head = x; pieces = r.0 }); rest = without q c })
          =
          ap (next_of q) e ∙ cond-false (ssn_lt q.cursor c) None (taken_out q c (message_in q.ordered c)) order
          ∙ ap (taken_out q c) m in
          some_not_none _ (sym n ∙ empty)
        where
          same_message : (r : ℕ) → IsAt p s true r → (place_at p r).ssn ≡ low → (place_at p r).message ≡ j
          same_message r a e = ⊎_elim
              (λ (l : r < o). (hp.pairs s v r o (omega arith) a (at_piece 0 first)).together
              (e ∙ sym (ssn_piece 0 first))
              ∙ first.message)
              (λ (l : o ≤ r). sym ((hp.pairs s v o r l (at_piece 0 first) a).together (ssn_piece 0 first ∙ sym e))
              ∙ first.message)
              (cases_lt r o)

          has : (x k : ℕ) → (place_at p x).message ≡ j → IsTaken p taken s j k
              → HasPiece p q.ordered s (place_at p x).message k
          has x k e t = record {
            offset = t.offset;
            known = t.known;
            stream = t.stream;
            message = t.message ∙ sym e;
            piece = t.piece;
            is_held = piece_held k t;
          }
