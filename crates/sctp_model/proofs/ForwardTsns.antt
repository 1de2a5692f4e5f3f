-- A FORWARD TSN that the sender makes is true, and stays so.
use Rattle.std.proofs.Common.{ℕ, zero, suc, ◌+◌, ◌-◌, ◌<◌, ◌≤◌, ◌≡◌, ◌⊎◌, Bool, true, false, cond, eqb, List, [], ◌∷◌}
use Rattle.std.proofs.Common.{length, drop, get_or, Option, Some, None, refl, sym, ap, ◌∙◌, subst, inl, inr, ⊎_elim}
use Rattle.std.proofs.Common.{arith}
use Rattle.std.proofs.lemmas.List.{length-drop, get_or-drop}
use Rattle.std.proofs.lemmas.Bool.{cases_Bool, cases_lt, and_parts, and_from, eqb-true, eq-eqb, true≢false, cond-true}
use Rattle.std.proofs.lemmas.Bool.{cond-false}
use Rattle.sctp_model.specs.Messages.{Place, Plan, IsAt, no_place, place_at, message_of, is_last}
use Rattle.sctp_model.specs.Packets.{Forward}
use Rattle.sctp_model.specs.Machine.{Sender, is_gone, gone_among, gone_front, is_ordered_of, last_ssn, forward_of}
use Rattle.sctp_model.specs.Invariants.{IsPlanned, IsSending, IsAscending, IsForward, IsReported, gone_at}
use Rattle.sctp_model.proofs.PlansGrow.{IsExtended, last_kept, at_kept, at_before}

-- A message's offsets are consecutive.

pub record IsBack (p : Plan) (n o j q : ℕ) : Type 0 where
  pub is : q + n ≡ o
  pub stream : (place_at p q).stream ≡ (place_at p o).stream
  pub message : (place_at p q).message ≡ (place_at p o).message
  pub piece : (place_at p q).piece ≡ j

pub back : (p : Plan) (over : ℕ → Bool) (n o j : ℕ) → IsPlanned p over → o < length p.places
    → (place_at p o).piece ≡ n + j → (q : ℕ) × IsBack p n o j q
back p over zero o j h l e = (o, record { is = omega arith; stream = refl; message = refl; piece = omega arith })
back p over (suc n) o j h l e =
    let b = h.before o (n + j) l (omega arith) in
    let c = b.1 in
    let w = c.follows in
    let nx = c.next in
    let r =
    back p over n b.0 j h (omega arith) (let u : suc (place_at p b.0).piece ≡ suc (n + j) =
    sym w.piece ∙ (let v : (place_at p o).piece ≡ suc (n + j) = omega arith in v) in omega arith) in
    let k = r.1 in
    let ki = k.is in (
      r.0,
      record {
        is = omega arith;
        stream = k.stream ∙ sym w.stream;
        message = k.message ∙ sym w.message;
        piece = k.piece;
      },
    )

module _ {p : Plan} {over : ℕ → Bool} (a b c : ℕ) (h : IsPlanned p over) where
  pub between : a ≤ b → b ≤ c → c < length p.places → (place_at p a).stream ≡ (place_at p c).stream
      → (place_at p a).message ≡ (place_at p c).message
      → ((place_at p b).stream ≡ (place_at p a).stream) × ((place_at p b).message ≡ (place_at p a).message)
  between ab bc l st m =
      let fa = back p over (place_at p a).piece a 0 h (omega arith) (omega arith) in
      let fc = back p over (place_at p c).piece c 0 h l (omega arith) in
      let ka = fa.1 in
      let kc = fc.1 in
      let ia = ka.is in
      let ic = kc.is in
      let same : fa.0 ≡ fc.0 =
      h.one fa.0 fc.0 (omega arith) (omega arith) (ka.stream ∙ st ∙ sym kc.stream) (ka.message ∙ m ∙ sym kc.message)
      (ka.piece ∙ sym kc.piece) in
      let fb = back p over (c - b) c ((place_at p c).piece - (c - b)) h l (omega arith) in
      let kb = fb.1 in
      let ib = kb.is in
      let here : fb.0 ≡ b = omega arith in (
        sym (ap (λ z. (place_at p z).stream) here) ∙ kb.stream ∙ sym st,
        sym (ap (λ z. (place_at p z).message) here) ∙ kb.message ∙ sym m,
      )

-- the front of the abandoned

among_gone : (x : Sender) (ys : List Place) (j : ℕ) → j < length (gone_among x ys)
    → is_gone x (get_or ys j no_place) ≡ true
among_gone x [] j l = absurd (omega arith)
among_gone x (y ∷ ys) j l = ⊎_elim
    (λ (b : is_gone x y ≡ true). go j (subst (λ z. j < length z) (cond-true (is_gone x y) (y ∷ gone_among x ys) [] b) l)
    b (λ k. among_gone x ys k))
    (λ (b : is_gone x y ≡ false). absurd (let e : j < 0 =
    subst (λ z. j < length z) (cond-false (is_gone x y) (y ∷ gone_among x ys) [] b) l in omega arith))
    (cases_Bool (is_gone x y))
  where
    go : (j : ℕ) → j < suc (length (gone_among x ys)) → is_gone x y ≡ true
        → ((k : ℕ) → k < length (gone_among x ys) → is_gone x (get_or ys k no_place) ≡ true)
        → is_gone x (get_or (y ∷ ys) j no_place) ≡ true
    go zero l b r = b
    go (suc k) l b r = r k (omega arith)

among_short : (x : Sender) (ys : List Place) → length (gone_among x ys) ≤ length ys
among_short x [] = omega arith
among_short x (y ∷ ys) = ⊎_elim
    (λ (b : is_gone x y ≡ true). subst (λ z. length z ≤ suc (length ys))
    (sym (cond-true (is_gone x y) (y ∷ gone_among x ys) [] b)) (let r = among_short x ys in omega arith))
    (λ (b : is_gone x y ≡ false). subst (λ z. length z ≤ suc (length ys))
    (sym (cond-false (is_gone x y) (y ∷ gone_among x ys) [] b)) (omega arith))
    (cases_Bool (is_gone x y))

among_stops : (x : Sender) (ys : List Place) → length (gone_among x ys) < length ys
    → is_gone x (get_or ys (length (gone_among x ys)) no_place) ≡ false
among_stops x [] l = absurd (omega arith)
among_stops x (y ∷ ys) l = ⊎_elim
    (λ (b : is_gone x y ≡ true).
    let e = cond-true (is_gone x y) (y ∷ gone_among x ys) [] b in
    subst (λ z. is_gone x (get_or (y ∷ ys) (length z) no_place) ≡ false) (sym e)
    (among_stops x ys (let k : suc (length (gone_among x ys)) < suc (length ys) =
    subst (λ z. length z < suc (length ys)) e l in omega arith)))
    (λ (b : is_gone x y ≡ false).
    subst (λ z. is_gone x (get_or (y ∷ ys) (length z) no_place) ≡ false)
    (sym (cond-false (is_gone x y) (y ∷ gone_among x ys) [] b)) b)
    (cases_Bool (is_gone x y))

among_same : (x : Sender) (ys : List Place) (j : ℕ) → j < length (gone_among x ys)
    → get_or (gone_among x ys) j no_place ≡ get_or ys j no_place
among_same x [] j l = absurd (omega arith)
among_same x (y ∷ ys) j l = ⊎_elim
    (λ (b : is_gone x y ≡ true).
    let e = cond-true (is_gone x y) (y ∷ gone_among x ys) [] b in
    ap (λ z. get_or z j no_place) e ∙ go j (subst (λ z. j < length z) e l) (λ k. among_same x ys k))
    (λ (b : is_gone x y ≡ false). absurd (let e : j < 0 =
    subst (λ z. j < length z) (cond-false (is_gone x y) (y ∷ gone_among x ys) [] b) l in omega arith))
    (cases_Bool (is_gone x y))
  where
    go : (j : ℕ) → j < suc (length (gone_among x ys))
        → ((k : ℕ) → k < length (gone_among x ys) → get_or (gone_among x ys) k no_place ≡ get_or ys k no_place)
        → get_or (y ∷ gone_among x ys) j no_place ≡ get_or (y ∷ ys) j no_place
    go zero l r = refl
    go (suc k) l r = r k (omega arith)

-- no more are abandoned at the front than are assigned past the acknowledged reach
pub front_within : (x : Sender) (n : ℕ) → length x.plan.places ≤ x.reach + n → length (gone_front x) ≤ n
front_within x n few =
    let a = among_short x (drop x.reach x.plan.places) in
    let b = length-drop x.reach x.plan.places in
    omega (arith, few)

-- the last ordered place of a stream among some
pub record IsLastOf (p : Plan) (s : ℕ) (ys : List Place) (m j : ℕ) : Type 0 where
  pub within : j < length ys
  pub here : is_ordered_of p s (get_or ys j no_place) ≡ true
  pub is : m ≡ (get_or ys j no_place).ssn
  pub none_later : (k : ℕ) → j < k → k < length ys → is_ordered_of p s (get_or ys k no_place) ≡ false

last_of : (p : Plan) (s m : ℕ) (ys : List Place) (found : Option ℕ) → last_ssn p s ys found ≡ Some m
    → ((found ≡ Some m) × ((k : ℕ) → k < length ys → is_ordered_of p s (get_or ys k no_place) ≡ false))
    ⊎ ((j : ℕ) × IsLastOf p s ys m j)
last_of p s m [] found e = inl (e, λ k l. absurd (omega arith))
last_of p s m (y ∷ ys) found e = go (last_of p s m ys (cond (is_ordered_of p s y) (Some y.ssn) found) e)
  where
    first : ((k : ℕ) → k < length ys → is_ordered_of p s (get_or ys k no_place) ≡ false) → (k : ℕ) → 0 < k
        → k < suc (length ys)
        → is_ordered_of p s (get_or (y ∷ ys) k no_place) ≡ false
    first r zero a l = absurd (omega arith)
    first r (suc k) a l = r k (omega arith)

    all : is_ordered_of p s y ≡ false → ((k : ℕ) → k < length ys → is_ordered_of p s (get_or ys k no_place) ≡ false)
        → (k : ℕ) → k < suc (length ys)
        → is_ordered_of p s (get_or (y ∷ ys) k no_place) ≡ false
    all b r zero l = b
    all b r (suc k) l = r k (omega arith)

    later : (j : ℕ) → ((k : ℕ) → j < k → k < length ys → is_ordered_of p s (get_or ys k no_place) ≡ false) → (k : ℕ)
        → suc j < k → k < suc (length ys)
        → is_ordered_of p s (get_or (y ∷ ys) k no_place) ≡ false
    later j r zero a l = absurd (omega arith)
    later j r (suc k) a l = r k (omega arith) (omega arith)

    some_same : (a b : ℕ) → Some a ≡ Some b → a ≡ b
    some_same a b h = cc

    go : ((cond (is_ordered_of p s y) (Some y.ssn) found ≡ Some m)
        × ((k : ℕ) → k < length ys → is_ordered_of p s (get_or ys k no_place) ≡ false))
        ⊎ ((j : ℕ) × IsLastOf p s ys m j)
        → ((found ≡ Some m) × ((k : ℕ) → k < suc (length ys) → is_ordered_of p s (get_or (y ∷ ys) k no_place) ≡ false))
        ⊎ ((j : ℕ) × IsLastOf p s (y ∷ ys) m j)
    go (inl r) = ⊎_elim
        (λ (b : is_ordered_of p s y ≡ true). inr (
          0,
          record {
            within = omega arith;
            here = b;
            is = sym (some_same _ _ (sym (cond-true (is_ordered_of p s y) (Some y.ssn) found b) ∙ r.0));
            none_later = first r.1;
          },
        ))
        (λ (b : is_ordered_of p s y ≡ false).
        inl (sym (cond-false (is_ordered_of p s y) (Some y.ssn) found b) ∙ r.0, all b r.1))
        (cases_Bool (is_ordered_of p s y))
    go (inr r) =
        let k = r.1 in
        inr (
          suc r.0,
          record {
            within = let a = k.within in omega arith;
            here = k.here;
            is = k.is;
            none_later = later r.0 k.none_later;
          },
        )

-- one ordered place of a stream among some is enough for a number
kept_some : (p : Plan) (s m : ℕ) (ys : List Place) → (k : ℕ) × (last_ssn p s ys (Some m) ≡ Some k)
kept_some p s m [] = (m, refl)
kept_some p s m (y ∷ ys) = ⊎_elim
    (λ (b : is_ordered_of p s y ≡ true).
    let r = kept_some p s y.ssn ys in
    (r.0, ap (last_ssn p s ys) (cond-true (is_ordered_of p s y) (Some y.ssn) (Some m) b) ∙ r.1))
    (λ (b : is_ordered_of p s y ≡ false).
    let r = kept_some p s m ys in
    (r.0, ap (last_ssn p s ys) (cond-false (is_ordered_of p s y) (Some y.ssn) (Some m) b) ∙ r.1))
    (cases_Bool (is_ordered_of p s y))

found_some : (p : Plan) (s : ℕ) (ys : List Place) (found : Option ℕ) (j : ℕ) → j < length ys
    → is_ordered_of p s (get_or ys j no_place) ≡ true
    → (k : ℕ) × (last_ssn p s ys found ≡ Some k)
found_some p s [] found j l h = absurd (omega arith)
found_some p s (y ∷ ys) found zero l h =
    let r = kept_some p s y.ssn ys in
    (r.0, ap (last_ssn p s ys) (cond-true (is_ordered_of p s y) (Some y.ssn) found h) ∙ r.1)
found_some p s (y ∷ ys) found (suc j) l h =
    found_some p s ys (cond (is_ordered_of p s y) (Some y.ssn) found) j (omega arith) h

pub forward_made : (x : Sender) (over : ℕ → Bool) → IsPlanned x.plan over
    → IsSending x.plan x.current x.next x.ssn x.begun x.gone over → IsAscending x.plan x.current x.ssn x.reach
    → ((o : ℕ) → o < x.reach → x.acknowledged o ≡ true) → length (gone_front x) ≤ 16384
    → 0 < length (gone_front x)
    → IsForward x.plan x.gone over x.acknowledged x.reach (forward_of x over)
forward_made x over h g rising below flight some = record {
  behind = omega arith;
  ahead = omega arith;
  known = known;
  near = let a = known in omega arith;
  acknowledged = below;
  abandoned = gone;
  ends = λ o e. ends o e;
  complete = λ s o a from l. found_some x.plan s (gone_front x) None (o - x.reach) (omega arith)
      (subst (λ z. is_ordered_of x.plan s z ≡ true) (sym (among_same x rest (o - x.reach) (omega arith) ∙ place o from))
      (and_from _ _ (eq-eqb _ _ a.stream) a.kind));
  reported = λ s m e. reported s m (last_of x.plan s m (gone_front x) None e);
  greatest_given_up =
      λ s m e o a from l. greatest_given_up s m (reported s m (last_of x.plan s m (gone_front x) None e)) o a from l;
  greatest = λ s m e v. greatest s m v (reported s m (last_of x.plan s m (gone_front x) None e));
  all = λ s m e v. all s m v (reported s m (last_of x.plan s m (gone_front x) None e));
}
  where
    rest : List Place
    rest = drop x.reach x.plan.places

    known : x.reach + length (gone_front x) ≤ length x.plan.places
    known =
        let a = among_short x (drop x.reach x.plan.places) in let b = length-drop x.reach x.plan.places in omega arith

    place : (o : ℕ) → x.reach ≤ o → get_or rest (o - x.reach) no_place ≡ place_at x.plan o
    place o l =
        get_or-drop x.reach x.plan.places (o - x.reach) no_place
        ∙ ap (place_at x.plan) (let e : x.reach + (o - x.reach) ≡ o = omega arith in e)

    gone : (o : ℕ) → x.reach ≤ o → o < x.reach + length (gone_front x) → gone_at x.plan x.gone o ≡ true
    gone o a l = subst (λ z. is_gone x z ≡ true) (place o a) (among_gone x rest (o - x.reach) (omega arith))

    stops : (o : ℕ) → o ≡ x.reach + length (gone_front x) → o < length x.plan.places → gone_at x.plan x.gone o ≡ false
    stops o e l = subst (λ z. is_gone x z ≡ false) (place o (omega arith))
        (subst (λ z. is_gone x (get_or rest z no_place) ≡ false)
        (let u : length (gone_front x) ≡ o - x.reach = omega arith in u)
        (among_stops x rest (let b = length-drop x.reach x.plan.places in omega arith)))

    ends : (o : ℕ) → x.reach + length (gone_front x) ≡ suc o
        → (is_last x.plan (place_at x.plan o) ≡ true) ⊎ ((place_at x.plan o).marker ≡ true)
    ends o e =
        ⊎_elim (λ (a : is_last x.plan (place_at x.plan o) ≡ true). inl a)
        (λ (a : is_last x.plan (place_at x.plan o) ≡ false). ⊎_elim
        (λ (b : (place_at x.plan o).marker ≡ true). inr b)
        (λ (b : (place_at x.plan o).marker ≡ false). ⊎_elim
        (λ (l : suc o < length x.plan.places).
        let w = h.after o l a b in
        absurd
        (true≢false (sym (gone o (omega arith) (omega arith))
        ∙ ap (λ z. x.gone z (place_at x.plan o).message) (sym w.stream)
        ∙ ap (x.gone (place_at x.plan (suc o)).stream) (sym w.message) ∙ stops (suc o) (omega arith) l)))
        (λ (l : length x.plan.places ≤ suc o). at_the_end x.current refl (let k = known in omega arith))
        (cases_lt (suc o) (length x.plan.places)))
        (cases_Bool (place_at x.plan o).marker))
        (cases_Bool (is_last x.plan (place_at x.plan o)))
      where
        at_the_end : (c : Option Place) → x.current ≡ c → length x.plan.places ≡ suc o
            → (is_last x.plan (place_at x.plan o) ≡ true) ⊎ ((place_at x.plan o).marker ≡ true)
        at_the_end None f n = g.closed f o n
        at_the_end (Some y) f n =
            let go = g.going y f in
            let w = go.follows in
            let gi = go.is in
            let same : go.last ≡ o = omega arith in
            absurd (true≢false (sym (gone o (omega arith) (omega arith))
            ∙ ap (λ z. x.gone (place_at x.plan z).stream (place_at x.plan z).message) (sym same)
            ∙ ap (λ z. x.gone z (place_at x.plan go.last).message) (sym w.stream)
            ∙ ap (x.gone y.stream) (sym w.message) ∙ go.stays))

    reported : (s m : ℕ)
        → ((None ≡ Some m) × ((k : ℕ) → k < length (gone_front x)
        → is_ordered_of x.plan s (get_or (gone_front x) k no_place) ≡ false))
        ⊎ ((j : ℕ) × IsLastOf x.plan s (gone_front x) m j)
        → IsReported x.plan x.gone s x.reach (x.reach + length (gone_front x)) m
    reported s m (inl r) = absurd (none_some r.0)
      where
        none_some : None ≡ Some m → ⊥
        none_some h = cc
    reported s m (inr r) = record {
      offset = offset;
      from = omega arith;
      below = omega (arith, k.within);
      at = record { known = omega (arith, k.within, known); stream = eqb-true _ _ parts.0; kind = parts.1 };
      given_up = gone offset (omega arith) (omega (arith, k.within));
      is = k.is ∙ ap (λ z. z.ssn) found;
      last = up_to;
    }
      where
        k : IsLastOf x.plan s (gone_front x) m r.0
        k = r.1

        offset : ℕ
        offset = x.reach + r.0

        inside : (o : ℕ) → x.reach ≤ o → o < x.reach + length (gone_front x)
            → get_or (gone_front x) (o - x.reach) no_place ≡ place_at x.plan o
        inside o a l = among_same x rest (o - x.reach) (omega arith) ∙ place o a

        found : get_or (gone_front x) r.0 no_place ≡ place_at x.plan offset
        found =
            ap (λ z. get_or (gone_front x) z no_place) (let e : r.0 ≡ offset - x.reach = omega arith in e)
            ∙ inside offset (omega arith) (omega (arith, k.within))

        parts : (eqb (place_at x.plan offset).stream s ≡ true)
            × ((message_of x.plan (place_at x.plan offset)).ordered ≡ true)
        parts = and_parts _ _ (subst (λ z. is_ordered_of x.plan s z ≡ true) found k.here)

        up_to : (o : ℕ) → IsAt x.plan s true o → o < x.reach + length (gone_front x) → o ≤ offset
        up_to o a l = ⊎_elim
            (λ (b : offset < o). absurd (true≢false (
            sym (subst (λ z. is_ordered_of x.plan s z ≡ true) (sym (inside o (omega arith) l))
            (and_from _ _ (eq-eqb _ _ a.stream) a.kind))
            ∙ k.none_later (o - x.reach) (omega arith) (omega arith))))
            (λ (b : o ≤ offset). b)
            (cases_lt offset o)

    greatest_given_up : (s m : ℕ) → IsReported x.plan x.gone s x.reach (x.reach + length (gone_front x)) m
        → (o : ℕ) → IsAt x.plan s true o → x.reach ≤ o → o < x.reach + length (gone_front x)
        → (place_at x.plan o).ssn ≤ m
    greatest_given_up s m r o a from l =
        subst (λ z. (place_at x.plan o).ssn ≤ z) (sym r.is) (rising.ascends s o r.offset from (r.last o a l) a r.at)

    greatest : (s m : ℕ) → over s ≡ false → IsReported x.plan x.gone s x.reach (x.reach + length (gone_front x)) m
        → (o : ℕ) → IsAt x.plan s true o → o < x.reach + length (gone_front x) → (place_at x.plan o).ssn ≤ m
    greatest s m v r o a l =
        subst (λ z. (place_at x.plan o).ssn ≤ z) (sym r.is) (h.pairs s v o r.offset (r.last o a l) a r.at).ssn

    all : (s m : ℕ) → over s ≡ false → IsReported x.plan x.gone s x.reach (x.reach + length (gone_front x)) m
        → (o : ℕ) → IsAt x.plan s true o → (place_at x.plan o).ssn ≤ m → o < x.reach + length (gone_front x)
    all s m v r o a l = ⊎_elim
        (λ (b : r.offset < o). stays_below o a (let e = r.is in omega arith) b)
        (λ (b : o ≤ r.offset). let c = r.below in omega arith)
        (cases_lt r.offset o)
      where
        stays_below : (o : ℕ) → IsAt x.plan s true o → (place_at x.plan o).ssn ≤ (place_at x.plan r.offset).ssn
            → r.offset < o → o < x.reach + length (gone_front x)
        stays_below o a l b = ⊎_elim
            (λ (c : o < x.reach + length (gone_front x)). c)
            (λ (c : x.reach + length (gone_front x) ≤ o).
            let pair = h.pairs s v r.offset o (omega arith) r.at a in
            let le = pair.ssn in
            let ak = a.known in
            let rb = r.below in
            let rf = r.from in
            let ra = r.at in
            let w =
            between r.offset (x.reach + length (gone_front x)) o h (omega arith) c ak
            (ra.stream ∙ sym a.stream) (pair.together (omega arith)) in
            absurd (true≢false (sym (gone r.offset (omega arith) (omega arith))
            ∙ ap (λ z. x.gone z (place_at x.plan r.offset).message) (sym w.0)
            ∙ ap (x.gone (place_at x.plan (x.reach + length (gone_front x))).stream) (sym w.1)
            ∙ stops (x.reach + length (gone_front x)) refl (omega arith))))
            (cases_lt o (x.reach + length (gone_front x)))

module _ (p r : Plan) (gone gone' : ℕ → ℕ → Bool) (over acked : ℕ → Bool) (now : ℕ) (f : Forward)
    (e : IsExtended p r) where
  -- It stays true when more gets an offset, is accepted or given up, or is taken in.
  pub forward_grows : ((t i : ℕ) → gone t i ≡ true → gone' t i ≡ true)
      → ((s : ℕ) → over s ≡ false → (o : ℕ) → length p.places ≤ o → IsAt r s true o → (x : ℕ) → IsAt p s true x →
      gone_at p gone x ≡ true → (place_at p x).ssn < (place_at r o).ssn)
      → IsForward p gone over acked now f → IsForward r gone' over acked now f
  forward_grows more new h = record {
    behind = h.behind;
    ahead = h.ahead;
    known = let a = h.known in let b = e.more in omega arith;
    near = h.near;
    acknowledged = h.acknowledged;
    abandoned = λ o a l. gone_kept o (let b = h.known in omega arith) (h.abandoned o a l);
    ends = λ o l. ⊎_elim
        (λ (a : is_last p (place_at p o) ≡ true). inl (last_kept p r e o (let b = h.known in omega arith) ∙ a))
        (λ (a : (place_at p o).marker ≡ true). inr
        (ap (λ z. z.marker) (e.places o (let b = h.known in omega arith)) ∙ a))
        (h.ends o l);
    complete = λ s o a from l. h.complete s o (at_before p r e s o true (let b = h.known in omega arith) a) from l;
    reported = λ s m k.
        let q = h.reported s m k in
        let at = q.at in
        record {
          offset = q.offset;
          from = q.from;
          below = q.below;
          at = at_kept p r e s q.offset true q.at;
          given_up = gone_kept q.offset at.known q.given_up;
          is = q.is ∙ ap (λ z. z.ssn) (sym (e.places q.offset at.known));
          last = λ o a l. q.last o (at_before p r e s o true (let b = h.known in omega arith) a) l;
        };
    greatest_given_up = λ s m k o a from l.
        let lo : o < length p.places = (let b = h.known in omega arith) in
        subst (λ z. z.ssn ≤ m) (sym (e.places o lo))
        (h.greatest_given_up s m k o (at_before p r e s o true lo a) from l);
    greatest = λ s m k v o a l.
        let lo : o < length p.places = (let b = h.known in omega arith) in
        subst (λ z. z.ssn ≤ m) (sym (e.places o lo)) (h.greatest s m k v o (at_before p r e s o true lo a) l);
    all = λ s m k v o a l.
        let q = h.reported s m k in
        ⊎_elim
        (λ (lo : o < length p.places).
        h.all s m k v o (at_before p r e s o true lo a) (subst (λ z. z.ssn ≤ m) (e.places o lo) l))
        (λ (lo : length p.places ≤ o). absurd (
        let b = new s v o lo a q.offset q.at q.given_up in
        let c = q.is in
        omega arith))
        (cases_lt o (length p.places));
  }
    where
      gone_kept : (o : ℕ) → o < length p.places → gone_at p gone o ≡ true → gone_at r gone' o ≡ true
      gone_kept o l g = subst (λ z. gone' z.stream z.message ≡ true) (sym (e.places o l)) (more _ _ g)

module _ (p : Plan) (gone : ℕ → ℕ → Bool) (over over' acked acked' : ℕ → Bool) (now now' : ℕ) (f : Forward) where
  -- and when more is acknowledged, or the span of a stream ends
  pub forward_later : ((o : ℕ) → acked o ≡ true → acked' o ≡ true) → now ≤ now'
      → ((s : ℕ) → over' s ≡ false → over s ≡ false) → IsForward p gone over acked now f
      → IsForward p gone over' acked' now' f
  forward_later more on spans h = record {
    behind = let a = h.behind in omega arith;
    ahead = h.ahead;
    known = h.known;
    near = h.near;
    acknowledged = λ o l. more o (h.acknowledged o l);
    abandoned = h.abandoned;
    ends = h.ends;
    complete = h.complete;
    reported = h.reported;
    greatest_given_up = h.greatest_given_up;
    greatest = h.greatest;
    all = λ s m k v. h.all s m k (spans s v);
  }
