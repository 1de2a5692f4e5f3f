-- What the reassembly gives as the next ordered message, and what is not given although it is whole.
use Rattle.std.proofs.Common.{ℕ, suc, ◌+◌, ◌%◌, ◌<◌, ◌≤◌, ◌≡◌, Bool, true, false, eqb, ltb, ◌&&◌, List, [], ◌∷◌, length}
use Rattle.std.proofs.Common.{drop, Option, Some, None, refl, sym, ap, ◌∙◌, subst, ⊎_elim, arith}
use Rattle.std.specs.List.{AllByRecursion}
use Rattle.std.proofs.lemmas.Bool.{cases_Bool, cases_lt, and_parts, and_from, eqb-true, eq-eqb, ltb-false, lt-ltb}
use Rattle.std.proofs.lemmas.Bool.{le-ltb, true≢false, cond-true, cond-false}
use Rattle.sctp_model.specs.Messages.{Plan, IsAt, count_ordered, place_at, message_at, rank}
use Rattle.sctp_model.specs.Packets.{Data}
use Rattle.sctp_serial.specs.Serial.{ssn_lt}
use Rattle.sctp_model.specs.Reassembly.{Queue, Run, Taken, at, top, run_from, run_with, run_of, got_of, earlier, least}
use Rattle.sctp_model.specs.Reassembly.{begins, run_begun, message_in, without, taken_out, next_of, next_ordered}
use Rattle.sctp_model.specs.Invariants.{IsPlanned, IsHeld}
use Rattle.sctp_model.proofs.OrderedRanks.{rank_yes, rank_rest}
use Rattle.sctp_model.proofs.NumberWindows.{before_is, same_from}
use Rattle.sctp_model.proofs.CompleteRuns.{IsRunOf, run_is}

module _ {p : Plan} {over : ℕ → Bool} {s : ℕ} (low end : ℕ) (h : IsPlanned p over) where
  -- Sequence numbers of a stream that are still needed lie in a window of half the range.
  pub window : (o : ℕ) → IsAt p s true o
      → (place_at p o).ssn + rank (p.accepted s) end ≤ low + rank (p.accepted s) (place_at p o).message
      → count_ordered (drop end (p.accepted s)) < 32768 → (place_at p o).ssn < low + 32767
  window o a link unread =
      let known : (place_at p o).message < length (p.accepted s) =
      subst (λ z. (place_at p o).message < length (p.accepted z)) a.stream (h.known o a.known) in
      let ordered : (message_at p s (place_at p o).message).ordered ≡ true =
      subst (λ z. (message_at p z (place_at p o).message).ordered ≡ true) a.stream a.kind in
      let more = rank_yes (p.accepted s) (place_at p o).message known ordered in
      let rest = rank_rest (p.accepted s) end (suc (place_at p o).message) in
      omega arith

pub window_next : (p : Plan) (s low end next ssn : ℕ) → ssn + rank (p.accepted s) end ≤ low + rank (p.accepted s) next
    → count_ordered (drop end (p.accepted s)) < 32768 → ssn ≤ low + 32767
window_next p s low end next ssn gap unread = let rest = rank_rest (p.accepted s) end next in omega arith

unfoldable pub IsNear : Plan → ℕ → Data → Type 0
IsNear p low d = (place_at p d.offset).ssn < low + 32767

module _ {p : Plan} {over : ℕ → Bool} (taken : List ℕ) {s : ℕ} (low end : ℕ) (h : IsPlanned p over) where
  pub near_all : (held : List Data) → AllByRecursion (IsHeld p taken s true low) held
      → ((o : ℕ) → IsAt p s true o → low ≤ (place_at p o).ssn → (place_at p o).ssn + rank (p.accepted s) end ≤ low +
      rank (p.accepted s) (place_at p o).message)
      → count_ordered (drop end (p.accepted s)) < 32768
      → AllByRecursion (λ (d : Data). IsHeld p taken s true low d × IsNear p low d) held
  unfolding IsNear
  near_all [] a link unread = tt
  near_all (d ∷ ds) a link unread =
      let x = a.0 in (
        (x, window low end h d.offset x.at (link d.offset x.at x.above) unread),
        near_all ds a.1 link unread,
      )

-- the least sequence number held, without wrap
pub record IsLeast (p : Plan) (low : ℕ) (held : List Data) (least : ℕ) : Type 0 where
  pub number : ℕ
  pub is : least ≡ number % 65536
  pub above : low ≤ number
  pub near : number < low + 32767
  pub below : AllByRecursion (λ (d : Data). number ≤ (place_at p d.offset).ssn) held

all_below : (p : Plan) (a b : ℕ) (ds : List Data) → a ≤ b
    → AllByRecursion (λ (d : Data). b ≤ (place_at p d.offset).ssn) ds
    → AllByRecursion (λ (d : Data). a ≤ (place_at p d.offset).ssn) ds
all_below p a b [] l h = tt
all_below p a b (d ∷ ds) l h = ((let x = h.0 in omega arith), all_below p a b ds l h.1)

pub least_none : (held : List Data) → least held ≡ None → held ≡ []
least_none [] e = refl
least_none (d ∷ ds) e = absurd (cc)

pub ssn_is : (p : Plan) (taken : List ℕ) (s low : ℕ) (k : Bool) (d : Data) → IsHeld p taken s k low d
    → d.ssn ≡ (place_at p d.offset).ssn % 65536
ssn_is p taken s low k d h = ap (λ z. z.ssn) h.is

module _ (p : Plan) (taken : List ℕ) (s low : ℕ) where
  pub least_is : (held : List Data) (c : ℕ)
      → AllByRecursion (λ (d : Data). IsHeld p taken s true low d × IsNear p low d) held → least held ≡ Some c
      → IsLeast p low held c
  unfolding IsNear
  least_is [] c a e = absurd (cc)
  least_is (d ∷ ds) c a e =
      let b = a.0 in
      go (least ds) refl (λ e' f. least_is ds e' a.1 f)
      (let x : earlier d.ssn (least ds) ≡ c = cc in x) b.0 b.1
    where
      go : (l : Option ℕ) → least ds ≡ l → ((e' : ℕ) → least ds ≡ Some e' → IsLeast p low ds e') → earlier d.ssn l ≡ c
          → IsHeld p taken s true low d → (place_at p d.offset).ssn < low + 32767 → IsLeast p low (d ∷ ds) c
      go None n i f h near = record {
        number = (place_at p d.offset).ssn;
        is = sym f ∙ ssn_is p taken s low true d h;
        above = h.above;
        near = near;
        below = (
          omega arith,
          subst (λ z. AllByRecursion (λ (x : Data). (place_at p d.offset).ssn ≤ (place_at p x.offset).ssn) z)
              (sym (least_none ds n)) tt,
        );
      }
      go (Some e') n i f h near =
          let r = i e' n in
          let ha = h.above in
          let ra = r.above in
          let rn = r.near in
          let test : ssn_lt e' d.ssn ≡ ltb r.number (place_at p d.offset).ssn
          = ap (λ z. ssn_lt z d.ssn) r.is ∙ ap (ssn_lt (r.number % 65536)) (ssn_is p taken s low true d h)
          ∙ before_is r.number (place_at p d.offset).ssn (omega arith) (omega arith) in
          ⊎_elim
          (λ (l : r.number < (place_at p d.offset).ssn). record {
            number = r.number;
            is = sym f ∙ cond-true (ssn_lt e' d.ssn) e' d.ssn (test ∙ lt-ltb _ _ l) ∙ r.is;
            above = r.above;
            near = r.near;
            below = (omega arith, r.below);
          })
          (λ (g : (place_at p d.offset).ssn ≤ r.number). record {
            number = (place_at p d.offset).ssn;
            is = sym f ∙ cond-false (ssn_lt e' d.ssn) e' d.ssn (test ∙ le-ltb _ _ g) ∙ ssn_is p taken s low true d h;
            above = h.above;
            near = near;
            below = (omega arith, all_below p (place_at p d.offset).ssn r.number ds g r.below);
          })
          (cases_lt r.number (place_at p d.offset).ssn)

-- the piece that begins a message
pub begins_found : (P : Data → Type 0) (c : ℕ) (held : List Data) (d : Data) → begins c held ≡ Some d
    → AllByRecursion P held → P d × (d.ssn ≡ c) × (d.first ≡ true)
begins_found P c [] d e a = absurd (cc)
begins_found P c (x ∷ xs) d e a =
    ⊎_elim
    (λ (b : (eqb x.ssn c && x.first) ≡ true).
    let i : x ≡ d = (let y : Some x ≡ Some d = sym (cond-true _ (Some x) (begins c xs) b) ∙ e in cc) in
    let parts = and_parts (eqb x.ssn c) x.first b in
    (subst P i a.0, sym (ap (λ z. z.ssn) i) ∙ eqb-true x.ssn c parts.0, sym (ap (λ z. z.first) i) ∙ parts.1))
    (λ (b : (eqb x.ssn c && x.first) ≡ false).
    begins_found P c xs d (sym (cond-false _ (Some x) (begins c xs) b) ∙ e) a.1)
    (cases_Bool (eqb x.ssn c && x.first))

pub begins_finds : (c o : ℕ) (held : List Data) (d : Data) → at o held ≡ Some d → d.ssn ≡ c → d.first ≡ true
    → (x : Data) × (begins c held ≡ Some x)
begins_finds c o [] d e s f = absurd (cc)
begins_finds c o (x ∷ xs) d e s f =
    ⊎_elim
    (λ (b : (eqb x.ssn c && x.first) ≡ true). (x, cond-true _ (Some x) (begins c xs) b))
    (λ (b : (eqb x.ssn c && x.first) ≡ false).
    ⊎_elim
    (λ (t : eqb x.offset o ≡ true). absurd (
    let i : x ≡ d = (let y : Some x ≡ Some d = sym (cond-true _ (Some x) (at o xs) t) ∙ e in cc) in
    true≢false (sym (and_from (eqb x.ssn c) x.first (eq-eqb x.ssn c (ap (λ z. z.ssn) i ∙ s)) (ap (λ z. z.first) i ∙ f))
    ∙ b)))
    (λ (t : eqb x.offset o ≡ false).
    let r = begins_finds c o xs d (sym (cond-false _ (Some x) (at o xs) t) ∙ e) s f in
    (r.0, cond-false _ (Some x) (begins c xs) b ∙ r.1))
    (cases_Bool (eqb x.offset o)))
    (cases_Bool (eqb x.ssn c && x.first))

-- a complete message found: where it begins, and its pieces
pub record IsRunFound (p : Plan) (taken : List ℕ) (s : ℕ) (k : Bool) (low c : ℕ) (r : Run) : Type 0 where
  pub head : IsHeld p taken s k low r.head
  pub ssn : r.head.ssn ≡ c
  pub first : (place_at p r.head.offset).piece ≡ 0
  pub run : IsRunOf p taken s r.head.offset r.pieces

module _ {p : Plan} {over : ℕ → Bool} {taken : List ℕ} {s : ℕ} (k : Bool) (low : ℕ) (held : List Data)
    (h : IsPlanned p over) (a : AllByRecursion (IsHeld p taken s k low) held) where
  pub run_of_is : (d : Data) (r : Run) → run_of held d ≡ Some r → (r.head ≡ d) × IsRunOf p taken s d.offset r.pieces
  run_of_is d r e = go (run_from (top held) d.offset held) refl e
    where
      go : (x : Option (List Data)) → run_from (top held) d.offset held ≡ x → run_with d x ≡ Some r
          → (r.head ≡ d) × IsRunOf p taken s d.offset r.pieces
      go None f g = absurd (cc)
      go (Some ps) f g =
          let i : record { head = d; pieces = ps } ≡ r = cc in (
            sym (ap (λ z. z.head) i),
            run_is k low held h a (top held) d.offset r.pieces (f ∙ ap (λ z. Some z.pieces) i),
          )

pub first_is : (p : Plan) (taken : List ℕ) (s low : ℕ) (k : Bool) (d : Data) → IsHeld p taken s k low d → d.first ≡ true
    → (place_at p d.offset).piece ≡ 0
first_is p taken s low k d h f = eqb-true _ _ (sym (ap (λ z. z.first) h.is) ∙ f)

module _ {p : Plan} {over : ℕ → Bool} {taken : List ℕ} {s : ℕ} (low : ℕ) (held : List Data)
    (h : IsPlanned p over) (a : AllByRecursion (IsHeld p taken s true low) held) where
  pub message_in_is : (c : ℕ) (r : Run) → message_in held c ≡ Some r → IsRunFound p taken s true low c r
  message_in_is c r e = go (begins c held) refl e
    where
      go : (x : Option Data) → begins c held ≡ x → run_begun held x ≡ Some r → IsRunFound p taken s true low c r
      go None f g = absurd (cc)
      go (Some d) f g =
          let b = begins_found (IsHeld p taken s true low) c held d f a in
          let w = run_of_is true low held h a d r g in
          let i = sym w.0 in
          record {
            head = subst (IsHeld p taken s true low) i b.0;
            ssn = ap (λ z. z.ssn) w.0 ∙ b.1;
            first = subst (λ z. (place_at p z.offset).piece ≡ 0) i (first_is p taken s low true d b.0 b.2);
            run = subst (λ z. IsRunOf p taken s z.offset r.pieces) i w.1;
          }

-- What a read of an ordered message gives: `number` is its sequence number without wrap.
pub record IsDue (p : Plan) (taken : List ℕ) (s low cursor : ℕ) (q : Queue) (t : Taken) : Type 0 where
  pub number : ℕ
  pub above : low ≤ number
  pub near : number < low + 32767
  pub until : number ≤ cursor
  pub least : AllByRecursion (λ (d : Data). number ≤ (place_at p d.offset).ssn) q.ordered
  pub run : Run
  pub found : IsRunFound p taken s true low (number % 65536) run
  pub ssn : (place_at p run.head.offset).ssn ≡ number
  pub got : t.got ≡ got_of run
  pub rest : t.rest ≡ without q (number % 65536)

module _ {p : Plan} {over : ℕ → Bool} (taken : List ℕ) (s low cursor : ℕ) (q : Queue) (t : Taken)
    (h : IsPlanned p over)
    (near : AllByRecursion (λ (d : Data). IsHeld p taken s true low d × IsNear p low d) q.ordered)
    (held : AllByRecursion (IsHeld p taken s true low) q.ordered) where
  pub due_is : ((o : ℕ) → IsAt p s true o → low ≤ (place_at p o).ssn → (place_at p o).ssn < low + 32767)
      → q.cursor ≡ cursor % 65536 → low ≤ cursor → cursor ≤ low + 32767 → next_ordered q ≡ Some t
      → IsDue p taken s low cursor q t
  due_is narrow is above until e = go (least q.ordered) refl e
    where
      take_it : (c : ℕ) → IsLeast p low q.ordered c → ssn_lt q.cursor c ≡ false → (x : Option Run)
          → message_in q.ordered c ≡ x → taken_out q c x ≡ Some t
          → IsDue p taken s low cursor q t
      take_it c l b None m f = absurd (cc)
      take_it c l b (Some r) m f =
          let la = l.above in
          let ln = l.near in
          let i : record { got = got_of r; rest = without q c } ≡ t = cc in
          let order : ssn_lt q.cursor c ≡ ltb cursor l.number
          =
          ap (λ z. ssn_lt z c) is ∙ ap (ssn_lt (cursor % 65536)) l.is
          ∙ before_is cursor l.number (omega arith) (omega arith) in
          let u = message_in_is low q.ordered h held c r m in
          let hd = u.head in
          let ha = hd.above in
          let hn = narrow r.head.offset hd.at hd.above in
          record {
            number = l.number;
            above = l.above;
            near = l.near;
            until = ltb-false _ _ (sym order ∙ b);
            least = l.below;
            run = r;
            found = subst (λ z. IsRunFound p taken s true low z r) l.is u;
            ssn = same_from _ _ (omega arith) (omega arith) (sym (ssn_is p taken s low true r.head hd) ∙ u.ssn ∙ l.is);
            got = sym (ap (λ z. z.got) i);
            rest = sym (ap (λ z. z.rest) i) ∙ ap (without q) l.is;
          }

      go : (c : Option ℕ) → least q.ordered ≡ c → next_of q c ≡ Some t → IsDue p taken s low cursor q t
      go None l f = absurd (cc)
      go (Some c) l f =
          ⊎_elim
          (λ (b : ssn_lt q.cursor c ≡ true). absurd (let n : None ≡ Some t =
          sym (cond-true (ssn_lt q.cursor c) None (taken_out q c (message_in q.ordered c)) b) ∙ f in cc))
          (λ (b : ssn_lt q.cursor c ≡ false).
          take_it c (least_is p taken s low q.ordered c near l) b (message_in q.ordered c) refl
          (sym (cond-false (ssn_lt q.cursor c) None (taken_out q c (message_in q.ordered c)) b) ∙ f))
          (cases_Bool (ssn_lt q.cursor c))
