-- The sender assigns offsets and asks for resets.
use Rattle.std.proofs.Common.{◌≡◌, refl, sym, ap, ◌∙◌, subst, ℕ, suc, ◌+◌, ◌-◌, ◌≤◌, ◌<◌, Bool, true, false}
use Rattle.std.proofs.Common.{◌&&◌, List, [], ◌∷◌, ◌++◌, length, arith, ⊎_elim, inl}
use Rattle.std.proofs.Common.{inr, nat_lt, nat_le, drop}
use Rattle.std.proofs.lemmas.Bool.{cases_Bool, true≢false, and_parts}
use Rattle.sctp_model.proofs.Lists.{all_weaker}
use Rattle.sctp_courses.specs.Course.{Course, Request, boundary_at, held_on, is_named}
use Rattle.sctp_courses.specs.Course.{request_at}
use Rattle.sctp_courses.specs.Events.{assigned_mine, assigned_other, asking}
use Rattle.sctp_courses.specs.Events.{is_to_be_reset}
use Rattle.sctp_courses.specs.Invariants.{AreBelow}
use Rattle.sctp_courses.specs.Invariants.{Invariant, IsAtItsPlace, IsBehindARequest}
use Rattle.sctp_courses.specs.Invariants.{IsPerformed, IsToEnd, around}
use Rattle.std.proofs.lemmas.List.{get_or-drop, get_or_append_left, get_or_at, length-drop, length_push}
use Rattle.std.proofs.lemmas.List.Folds.{list_any_at}
use Rattle.sctp_courses.specs.Course.{no_request}
use Rattle.sctp_courses.proofs.Counts.{counted_assigned}
use Rattle.sctp_courses.proofs.Steps.{lt_false, lt_true}
use Rattle.sctp_courses.proofs.Marks.{below_more}

pub get_left : (asked : List Request) (q : Request) (k : ℕ) → k < length asked
    → request_at (asked ++ q ∷ []) k ≡ request_at asked k
get_left asked q k l = get_or_append_left asked (q ∷ []) no_request k l

pub get_new : (asked : List Request) (q : Request) → request_at (asked ++ q ∷ []) (length asked) ≡ q
get_new asked q = get_or_at asked q [] no_request (length asked) refl

-- What is so of a state, of which the invariant is.
module _ (c : Course) (h : Invariant c) where
  -- no request that was not performed names the stream
  pub none_named : is_to_be_reset c ≡ false → (k : ℕ) → c.performed ≤ k → k < length c.asked
      → is_named c.asked k ≡ false
  none_named none k from l =
      ⊎_elim (λ (e : is_named c.asked k ≡ true). absurd (true≢false (sym (found e) ∙ none)))
      (λ (e : is_named c.asked k ≡ false). e) (cases_Bool (is_named c.asked k))
    where
      found : is_named c.asked k ≡ true → is_to_be_reset c ≡ true
      found e =
          list_any_at (λ (q : Request). q.named) (drop c.performed c.asked) (k - c.performed) no_request
          (let d = length-drop c.performed c.asked in omega arith)
          (ap (λ (q : Request). q.named) (get_or-drop c.performed c.asked (k - c.performed) no_request
          ∙ ap (request_at c.asked) (let s : c.performed + (k - c.performed) ≡ k = omega arith in s)) ∙ e)

  pub mine_kept : is_to_be_reset c ≡ false → Invariant (assigned_mine c)
  mine_kept none = record {
    asks = record {
      ascend = h.asks.ascend;
      below = λ k l. let b = h.asks.below k l in omega arith;
      known = h.asks.known;
      quiet = λ k from l n. absurd (true≢false (sym n ∙ none_named none k from l));
      assigned_below = (omega arith, below_more c.assigned (suc c.assigned) c.mine (omega arith) h.asks.assigned_below);
    };
    counts = counted_assigned c.assigned h.counts;
    steps = h.steps;
    marks = h.marks;
    apart = h.apart;
    places = h.places;
    past_is = h.past_is;
    live_is = h.live_is;
    told_is = h.told_is;
  }

  pub other_kept : Invariant (assigned_other c)
  other_kept = record {
    asks = record {
      ascend = h.asks.ascend;
      below = λ k l. let b = h.asks.below k l in omega arith;
      known = h.asks.known;
      quiet = h.asks.quiet;
      assigned_below = below_more c.assigned (suc c.assigned) c.mine (omega arith) h.asks.assigned_below;
    };
    counts = h.counts;
    steps = h.steps;
    marks = h.marks;
    apart = h.apart;
    places = h.places;
    past_is = h.past_is;
    live_is = h.live_is;
    told_is = h.told_is;
  }

  -- A request is sent

  pub asks_kept : (named : Bool) → Invariant (asking named c)
  asks_kept named = record {
    asks = record {
      ascend = λ j k l m. by_end k m (λ z. j ≤ z → boundary_at more j ≤ boundary_at more z)
          (λ in_front le. same_both j k (omega arith) in_front (h.asks.ascend j k le in_front))
          (λ le. by_end j (omega arith) (λ z. boundary_at more z ≤ boundary_at more (length c.asked))
          (λ in_front. front_of j in_front (λ r. r.boundary ≤ boundary_at more (length c.asked))
          (last_of (λ r. boundary_at c.asked j ≤ r.boundary) (h.asks.below j in_front))) (omega arith)) l;
      below = λ k m. by_end k m (λ z. boundary_at more z ≤ c.assigned)
          (λ in_front. front_of k in_front (λ r. r.boundary ≤ c.assigned) (h.asks.below k in_front))
          (last_of (λ r. r.boundary ≤ c.assigned) (omega arith));
      known = let l = h.asks.known in let e = long in omega arith;
      quiet = λ k from m n. by_end k m (λ z. c.performed ≤ z → is_named more z ≡ true → AreBelow (boundary_at more z) c.mine)
          (λ in_front f. front_of k in_front (λ r. r.named ≡ true → AreBelow r.boundary c.mine)
          (h.asks.quiet k f in_front))
          (λ f. last_of (λ r. r.named ≡ true → AreBelow r.boundary c.mine) (λ e. h.asks.assigned_below)) from n;
      assigned_below = h.asks.assigned_below;
    };
    counts = h.counts;
    steps = record {
      waits_for = λ e. let w = h.steps.waits_for e in (let l = w.0 in let n = long in omega arith, w.1);
      some = h.steps.some;
      first = λ e.
          let f = h.steps.first e in
          (f.0, front_of (c.performed - 1) (done f.0) (λ r. r.named ≡ true) f.1);
    };
    marks = record {
      reached = λ k d. front_of k (in_front k d) (λ r. r.boundary ≤ c.point) (h.marks.reached k d);
      ascend = h.marks.ascend;
      each = all_weaker (IsPerformed c.asked c.performed) (IsPerformed more c.performed) c.marks
          (λ b p. (p.0, p.1, front_of p.0 (in_front p.0 p.1) (λ r. r.boundary ≡ b) p.2)) h.marks.each;
    };
    apart = record {
      held = h.apart.held;
      comes = h.apart.comes;
      later = h.apart.later;
      unmarked = λ e.
          all_weaker (IsBehindARequest c.asked c.performed c.waits c.releases)
          (IsBehindARequest more c.performed c.waits c.releases) c.deferred behind (h.apart.unmarked e);
      retiring = λ e.
          front_of (c.performed - 1) (done (h.steps.first e).0) (λ r. AreBelow r.boundary (held_on c.live))
          (h.apart.retiring e);
    };
    places = λ k d n.
        front_of k (in_front k d)
        (λ r. IsAtItsPlace r.boundary (IsToEnd c.retires c.performed k) (around c) (c.past k))
        (h.places k d (back_of k (in_front k d) (λ r. r.named ≡ true) n));
    past_is = λ k from e.
        let p = h.past_is k from e in (p.0, front_of k (in_front k p.0) (λ r. r.named ≡ true) p.1);
    live_is = h.live_is;
    told_is = h.told_is;
  }
    where
      new : Request
      new = record { boundary = c.assigned; named = named }

      more : List Request
      more = c.asked ++ new ∷ []

      long : length more ≡ suc (length c.asked)
      long = let e = length_push c.asked new in omega arith

      in_front : (k : ℕ) → k < c.performed → k < length c.asked
      in_front k d = let l = h.asks.known in omega arith

      done : c.releases ≡ true → c.performed - 1 < length c.asked
      done e = let s = (h.steps.some e).0 in let l = h.asks.known in omega arith

      front_of : (k : ℕ) → k < length c.asked → (P : Request → Type 0) → P (request_at c.asked k)
          → P (request_at more k)
      front_of k l P p = subst P (sym (get_left c.asked new k l)) p

      back_of : (k : ℕ) → k < length c.asked → (P : Request → Type 0) → P (request_at more k)
          → P (request_at c.asked k)
      back_of k l P p = subst P (get_left c.asked new k l) p

      last_of : (P : Request → Type 0) → P new → P (request_at more (length c.asked))
      last_of P p = subst P (sym (get_new c.asked new)) p

      same_both : (j k : ℕ) → j < length c.asked → k < length c.asked → boundary_at c.asked j ≤ boundary_at c.asked k
          → boundary_at more j ≤ boundary_at more k
      same_both j k l m p =
          front_of j l (λ r. r.boundary ≤ boundary_at more k)
          (front_of k m (λ r. boundary_at c.asked j ≤ r.boundary) p)

      by_end : (k : ℕ) → k < length more → (P : ℕ → Type 0) → (k < length c.asked → P k) → P (length c.asked) → P k
      by_end k l P f g =
          ⊎_elim (λ (e : nat_lt k (length c.asked) ≡ true). f (lt_true k (length c.asked) e))
          (λ (e : nat_lt k (length c.asked) ≡ false).
          let m = lt_false k (length c.asked) e in
          let n = long in
          let same : length c.asked ≡ k = omega arith in subst P same g) (cases_Bool (nat_lt k (length c.asked)))

      behind : (o : ℕ) → IsBehindARequest c.asked c.performed c.waits c.releases o
          → IsBehindARequest more c.performed c.waits c.releases o
      behind o (inl b) =
          let p = and_parts c.waits _ b in
          let l = (h.steps.waits_for p.0).0 in
          inl (front_of c.performed l (λ r. (c.waits && (r.named && nat_le r.boundary o)) ≡ true) b)
      behind o (inr b) = inr (
        b.0,
        front_of (c.performed - 1) (done b.0) (λ r. r.named ≡ true) b.1,
        front_of (c.performed - 1) (done b.0) (λ r. r.boundary ≤ o) b.2,
      )
