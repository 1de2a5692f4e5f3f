-- A performed request stays at its place, whatever happens to the stream that it names.
use Rattle.std.proofs.Common.{◌≡◌, refl, sym, ap, ◌∙◌, subst, ℕ, suc, ◌≤◌, ◌<◌, Bool, true, false, not}
use Rattle.std.proofs.Common.{List, [], ◌∷◌, ◌++◌, filter, arith, ⊎_elim, ◌⊎◌, inl, inr, Option, Some, None}
use Rattle.std.proofs.Common.{nat_lt}
use Rattle.std.proofs.lemmas.Bool.{cases_Bool, true≢false, false≢true, not-true, or_parts, or_left, or_right, eq-eqb}
use Rattle.std.specs.List.{AllByRecursion, list_any}
use Rattle.sctp_model.specs.Packets.{mem}
use Rattle.sctp_model.proofs.Lists.{all_filter, all_push, all_mem}
use Rattle.sctp_courses.specs.Course.{Live, Told, held_on, is_marked, is_readable, times}
use Rattle.sctp_courses.specs.Events.{are_held, closed_to_reads, held_where, with_held, without_held}
use Rattle.sctp_courses.specs.Invariants.{AreBelow, AreFrom, AreNotFalling, Around, IsAtItsPlace, IsOnItsSide, IsOver, IsPast}
use Rattle.sctp_courses.specs.Invariants.{OfFirst}
use Rattle.sctp_courses.proofs.Marks.{below_more, first_of_marked, marked_behind, marked_cases, marked_filtered}
use Rattle.sctp_courses.proofs.Marks.{marked_last, marked_push, unmarked_from}
use Rattle.sctp_courses.proofs.Times.{mem_times, none_times}

-- What is live then can be read only if what was live could, is of its generation, and holds none but its offsets.
pub record IsLess (less live : Option Live) : Type 0 where
  pub readable : is_readable less ≡ true → is_readable live ≡ true
  pub since : (l : Live) → less ≡ Some l → (k : Live) × (live ≡ Some k) × (k.generation ≡ l.generation)
  pub below : (b : ℕ) → AreBelow b (held_on live) → AreBelow b (held_on less)
  pub from : (b : ℕ) → AreFrom b (held_on live) → AreFrom b (held_on less)

pub none_less : (live : Option Live) → IsLess None live
none_less live = record {
  readable = λ e. absurd (false≢true e);
  since = λ l e. absurd (cc);
  below = λ b h. tt;
  from = λ b h. tt;
}

pub filtered_less : (test : ℕ → Bool) (live : Option Live) → IsLess (held_where test live) live
filtered_less test None = none_less None
filtered_less test (Some l) = record {
  readable = λ e. e;
  since = λ k e. (l, refl, same k e);
  below = λ b h. all_filter (λ (o : ℕ). o < b) test l.held h;
  from = λ b h. all_filter (λ (o : ℕ). b ≤ o) test l.held h;
}
  where
    same : (k : Live) → Some (record l { held = filter test l.held }) ≡ Some k → l.generation ≡ k.generation
    same k e = let f : record l { held = filter test l.held } ≡ k = cc in ap (λ (x : Live). x.generation) f

pub closed_less : (live : Option Live) → IsLess (closed_to_reads live) live
closed_less None = none_less None
closed_less (Some l) = record {
  readable = λ e. absurd (false≢true e);
  since = λ k e. (l, refl, same k e);
  below = λ b h. h;
  from = λ b h. h;
}
  where
    same : (k : Live) → Some (record l { is_open = false }) ≡ Some k → l.generation ≡ k.generation
    same k e = let f : record l { is_open = false } ≡ k = cc in ap (λ (x : Live). x.generation) f

pub unread_less : {less live : Option Live} → IsLess less live → is_readable live ≡ false → is_readable less ≡ false
unread_less {less} {live} h e =
    ⊎_elim (λ (r : is_readable less ≡ true). absurd (true≢false (sym (h.readable r) ∙ e)))
    (λ (r : is_readable less ≡ false). r) (cases_Bool (is_readable less))

from_filtered : (boundary : ℕ) (test : ℕ → Bool) (os : List ℕ) → AreFrom boundary os
    → AreFrom boundary (filter test os)
from_filtered boundary test os h = all_filter (λ (o : ℕ). boundary ≤ o) test os h

-- What is live holds one offset more.

pub as_readable : (live : Option Live) (o : ℕ) → is_readable (with_held live o) ≡ is_readable live
as_readable None o = refl
as_readable (Some l) o = refl

pub as_live : (live : Option Live) (o : ℕ) (k : Live) → with_held live o ≡ Some k
    → (l : Live) × (live ≡ Some l) × (l.generation ≡ k.generation)
as_live None o k e = absurd (cc)
as_live (Some l) o k e =
    let f : record l { held = o ∷ l.held } ≡ k = cc in (l, refl, ap (λ (y : Live). y.generation) f)

pub from_held : (boundary : ℕ) (live : Option Live) (o : ℕ) → boundary ≤ o → AreFrom boundary (held_on live)
    → AreFrom boundary (held_on (with_held live o))
from_held boundary None o l h = h
from_held boundary (Some x) o l h = (l, h)

module _ (boundary : ℕ) (Now : Type 0) (x : Around) where
  -- the request is at its place
  abbrev At : Option ℕ → Type 0
  At past = IsAtItsPlace boundary Now x past

  -- what ends its generation
  abbrev Ends : Type 0 → Around → Type 0
  Ends Then y = (is_marked y.marks y.deferred boundary ≡ true) ⊎ (IsOver boundary y ⊎ Then)

  pub less_stays : (less : Option Live) → IsLess less x.live → (past : Option ℕ) → At past
      → IsAtItsPlace boundary Now (record x { live = less }) past
  less_stays less l None h = record { below = h.below; ends = by h.ends }
    where
      by : Ends Now x → Ends Now (record x { live = less })
      by (inl m) = inl m
      by (inr (inl o)) = inr (inl (record { unread = unread_less l o.unread; later = o.later; comes = o.comes }))
      by (inr (inr n)) = inr (inr n)
  less_stays less l (Some from) h = record {
    given = h.given;
    since = λ k e. let was = l.since k e in subst (λ g. from ≤ g) was.2 (h.since was.0 was.1);
    held = λ e. l.from boundary (h.held (l.readable e));
    ends = h.ends;
    later = h.later;
    comes = h.comes;
    divided = h.divided;
  }

  -- what comes waits for a later generation
  pub kept_stays : (o : ℕ) → boundary ≤ o → (past : Option ℕ) → At past
      → IsAtItsPlace boundary Now (record x { deferred = o ∷ x.deferred }) past
  kept_stays o l None h = record { below = h.below; ends = by h.ends }
    where
      by : Ends Now x → Ends Now (record x { deferred = o ∷ x.deferred })
      by (inl m) = inl (marked_behind x.marks x.deferred o boundary l m)
      by (inr (inl v)) = inr (inl (record { unread = v.unread; later = (l, v.later); comes = v.comes }))
      by (inr (inr n)) = inr (inr n)
  kept_stays o l (Some from) h = record {
    given = h.given;
    since = h.since;
    held = h.held;
    ends = h.ends;
    later = (l, h.later);
    comes = h.comes;
    divided = h.divided;
  }

  -- some of what waits is dropped
  pub dropped_stays : (test : ℕ → Bool) (past : Option ℕ) → At past
      → IsAtItsPlace boundary Now (record x { deferred = filter test x.deferred }) past
  dropped_stays test None h = record { below = h.below; ends = by h.ends }
    where
      by : Ends Now x → Ends Now (record x { deferred = filter test x.deferred })
      by (inl m) = inl (marked_filtered test x.marks x.deferred boundary m)
      by (inr (inl v)) =
          inr (inl (record { unread = v.unread; later = from_filtered boundary test x.deferred v.later; comes = v.comes }))
      by (inr (inr n)) = inr (inr n)
  dropped_stays test (Some from) h = record {
    given = h.given;
    since = h.since;
    held = h.held;
    ends = h.ends;
    later = from_filtered boundary test x.deferred h.later;
    comes = h.comes;
    divided = h.divided;
  }

  -- the newest generation ends with a boundary that is not in front of this one, and with this one where it is to end it
  pub retired_stays : (mark : ℕ) (Then : Type 0) → boundary ≤ mark → (Now → boundary ≡ mark) → (past : Option ℕ)
      → At past → IsAtItsPlace boundary Then (record x { marks = x.marks ++ mark ∷ [] }) past
  retired_stays mark Then l now None h = record { below = h.below; ends = by h.ends }
    where
      by : Ends Now x → Ends Then (record x { marks = x.marks ++ mark ∷ [] })
      by (inl m) = inl (marked_push x.marks x.deferred mark boundary m)
      by (inr (inl v)) = inr (inl (record { unread = v.unread; later = v.later; comes = v.comes }))
      by (inr (inr n)) =
          inl (subst (λ b. is_marked (x.marks ++ b ∷ []) x.deferred boundary ≡ true) (now n)
          (marked_last x.marks x.deferred boundary))
  retired_stays mark Then l now (Some from) h = record {
    given = h.given;
    since = h.since;
    held = h.held;
    ends = all_push (λ (b : ℕ). boundary ≤ b) x.marks mark h.ends l;
    later = h.later;
    comes = h.comes;
    divided = h.divided;
  }

  -- it is to end the newest generation no longer: a mark stands for it, or nothing can be read
  pub ended_stays : (Then : Type 0) → (Now → Ends Then x) → (past : Option ℕ) → At past
      → IsAtItsPlace boundary Then x past
  ended_stays Then now None h = record { below = h.below; ends = by h.ends }
    where
      by : Ends Now x → Ends Then x
      by (inl m) = inl m
      by (inr (inl v)) = inr (inl v)
      by (inr (inr n)) = now n
  ended_stays Then now (Some from) h = h

  -- what can be read grows by what comes past the boundary
  pub held_stays : (o : ℕ) → boundary ≤ o → (past : Option ℕ) → At past
      → IsAtItsPlace boundary Now (record x { live = with_held x.live o }) past
  held_stays o l None h = record { below = h.below; ends = by h.ends }
    where
      by : Ends Now x → Ends Now (record x { live = with_held x.live o })
      by (inl m) = inl m
      by (inr (inl v)) =
          inr (inl (record { unread = as_readable x.live o ∙ v.unread; later = v.later; comes = v.comes }))
      by (inr (inr n)) = inr (inr n)
  held_stays o l (Some from) h = record {
    given = h.given;
    since = λ k e. let was = as_live x.live o k e in subst (λ g. from ≤ g) was.2 (h.since was.0 was.1);
    held = λ e. from_held boundary x.live o l (h.held (sym (as_readable x.live o) ∙ e));
    ends = h.ends;
    later = h.later;
    comes = h.comes;
    divided = h.divided;
  }

  -- the first of what is given comes to the stream, past the boundary where there is a generation past it
  pub given_stays : (o : ℕ) (os : List ℕ) → x.hand ≡ o ∷ os → (past : Option ℕ) → At past
      → IsAtItsPlace boundary Now (record x { live = with_held x.live o; hand = os }) past
  given_stays o os is None h = record { below = h.below; ends = by h.ends }
    where
      by : Ends Now x → Ends Now (record x { live = with_held x.live o; hand = os })
      by (inl m) = inl m
      by (inr (inl v)) =
          inr (inl (record {
            unread = as_readable x.live o ∙ v.unread;
            later = v.later;
            comes = (subst (AreFrom boundary) is v.comes).1;
          }))
      by (inr (inr n)) = inr (inr n)
  given_stays o os is (Some from) h =
      let comes : AreFrom boundary (o ∷ os) = subst (AreFrom boundary) is h.comes in
      record {
        given = h.given;
        since = λ k e. let was = as_live x.live o k e in subst (λ g. from ≤ g) was.2 (h.since was.0 was.1);
        held = λ e. from_held boundary x.live o comes.0 (h.held (sym (as_readable x.live o) ∙ e));
        ends = h.ends;
        later = h.later;
        comes = comes.1;
        divided = h.divided;
      }

  -- what waited is given to the stream
  pub released_stays : (Then : Type 0) → x.marks ≡ [] → (Now → ⊥) → (past : Option ℕ) → At past
      → IsAtItsPlace boundary Then (record x { hand = x.deferred; deferred = [] }) past
  released_stays Then none never None h = record { below = h.below; ends = by h.ends }
    where
      by : Ends Now x → Ends Then (record x { hand = x.deferred; deferred = [] })
      by (inl m) = absurd (false≢true (subst (λ ms. is_marked ms x.deferred boundary ≡ true) none m))
      by (inr (inl v)) = inr (inl (record { unread = v.unread; later = tt; comes = v.later }))
      by (inr (inr n)) = absurd (never n)
  released_stays Then none never (Some from) h = record {
    given = h.given;
    since = h.since;
    held = h.held;
    ends = h.ends;
    later = tt;
    comes = h.later;
    divided = h.divided;
  }

  -- the first mark is passed: what waits of the next generation is given out, and the rest waits on
  pub passed_stays : (mark : ℕ) (marks : List ℕ) (test : ℕ → Bool) → x.marks ≡ mark ∷ marks → AreFrom mark x.deferred
      → (past : Option ℕ) → At past
      → IsAtItsPlace boundary Now (record x {
        live = None;
        marks = marks;
        hand = filter test x.deferred;
        deferred = filter (λ o. not (test o)) x.deferred;
      }) past
  passed_stays mark marks test is first None h = record { below = h.below; ends = by h.ends }
    where
      y : Around
      y = record x {
        live = None;
        marks = marks;
        hand = filter test x.deferred;
        deferred = filter (λ o. not (test o)) x.deferred;
      }

      over : AreFrom boundary x.deferred → IsOver boundary y
      over f = record {
        unread = refl;
        later = from_filtered boundary (λ o. not (test o)) x.deferred f;
        comes = from_filtered boundary test x.deferred f;
      }

      by : Ends Now x → Ends Now y
      by (inl m) =
          ⊎_elim
          (λ (r : is_marked marks x.deferred boundary ≡ true).
          inl (marked_filtered (λ o. not (test o)) marks x.deferred boundary r))
          (λ (f : AreFrom boundary x.deferred). inr (inl (over f)))
          (marked_cases mark marks x.deferred boundary first
          (subst (λ ms. is_marked ms x.deferred boundary ≡ true) is m))
      by (inr (inl v)) = inr (inl (over v.later))
      by (inr (inr n)) = inr (inr n)
  passed_stays mark marks test is first (Some from) h = record {
    given = h.given;
    since = λ l e. absurd (cc);
    held = λ e. absurd (false≢true e);
    ends = (subst (AreFrom boundary) is h.ends).1;
    later = from_filtered boundary (λ o. not (test o)) x.deferred h.later;
    comes = from_filtered boundary test x.deferred h.later;
    divided = h.divided;
  }

  -- nothing of the stream is left but what can be read no more
  pub discarded_stays : is_readable x.live ≡ false → x.hand ≡ [] → (past : Option ℕ) → At past
      → IsAtItsPlace boundary Now (record x { marks = []; deferred = [] }) past
  discarded_stays unread none None h = record {
    below = h.below;
    ends = inr (inl (record { unread = unread; later = tt; comes = subst (AreFrom boundary) (sym none) tt }));
  }
  discarded_stays unread none (Some from) h = record {
    given = h.given;
    since = h.since;
    held = h.held;
    ends = tt;
    later = tt;
    comes = h.comes;
    divided = h.divided;
  }

-- A new generation is live: it is the first past each performed request for which no mark stands.
module _ (boundary : ℕ) (Now : Type 0) (x : Around) (generation : ℕ) where
  -- what is around then
  abbrev With : Around
  With = record x {
    next = suc generation;
    live = Some (record { generation = generation; is_open = true; held = [] });
  }

  pub opened_now : (Now → ⊥) → x.next ≤ generation → AllByRecursion (λ (t : Told). t.generation < x.next) x.told
      → is_marked x.marks x.deferred boundary ≡ false → IsAtItsPlace boundary Now x None
      → IsAtItsPlace boundary Now With (Some generation)
  opened_now never l told unmarked h = by h.ends
    where
      divided : (ts : List Told) → AllByRecursion (λ (t : Told). t.generation < x.next) ts
          → AllByRecursion (λ (t : Told). AreBelow boundary t.offsets) ts
          → AllByRecursion (IsOnItsSide boundary generation) ts
      divided [] a b = tt
      divided (t ∷ ts) a b =
          ((λ earlier. b.0, λ later. absurd (let e = a.0 in omega arith)), divided ts a.1 b.1)

      over : IsOver boundary x → IsPast boundary generation With
      over v = record {
        given = omega arith;
        since = λ k e. same k e;
        held = λ e. tt;
        ends = unmarked_from x.marks x.deferred boundary v.later unmarked;
        later = v.later;
        comes = v.comes;
        divided = divided x.told told h.below;
      }
        where
          same : (k : Live) → Some (record { generation = generation; is_open = true; held = [] }) ≡ Some k
              → generation ≤ k.generation
          same k e =
              let f : record { generation = generation; is_open = true; held = [] } ≡ k = cc in
              let g : generation ≡ k.generation = ap (λ (y : Live). y.generation) f in omega arith

      by : (is_marked x.marks x.deferred boundary ≡ true) ⊎ (IsOver boundary x ⊎ Now)
          → IsPast boundary generation With
      by (inl m) = absurd (true≢false (sym m ∙ unmarked))
      by (inr (inl v)) = over v
      by (inr (inr n)) = absurd (never n)

  pub opened_before : (from : ℕ) → x.next ≤ generation → IsAtItsPlace boundary Now x (Some from)
      → IsAtItsPlace boundary Now With (Some from)
  opened_before from l h = record {
    given = let g = h.given in omega arith;
    since = λ k e. same k e;
    held = λ e. tt;
    ends = h.ends;
    later = h.later;
    comes = h.comes;
    divided = h.divided;
  }
    where
      same : (k : Live) → Some (record { generation = generation; is_open = true; held = [] }) ≡ Some k
          → from ≤ k.generation
      same k e =
          let f : record { generation = generation; is_open = true; held = [] } ≡ k = cc in
          let g : generation ≡ k.generation = ap (λ (y : Live). y.generation) f in
          let b = h.given in omega arith

  pub opened_marked : is_marked x.marks x.deferred boundary ≡ true → IsAtItsPlace boundary Now x None
      → IsAtItsPlace boundary Now With None
  opened_marked m h = record { below = h.below; ends = inl m }

-- each of these offsets is held
pub all_held : (P : ℕ → Type 0) (os held : List ℕ) → are_held os held ≡ true → AllByRecursion P held
    → AllByRecursion P os
all_held P os held h all = go os os (λ o m. m) (not-true _ h)
  where
    go : (xs ys : List ℕ) → ((o : ℕ) → mem o xs ≡ true → mem o ys ≡ true)
        → list_any (λ o. nat_lt (times o held) (times o ys)) xs ≡ false → AllByRecursion P xs
    go [] ys among e = tt
    go (o ∷ xs) ys among e =
        let parts = or_parts _ _ e in
        let here : mem o ys ≡ true = among o (or_left _ _ (eq-eqb o o refl)) in (
          all_mem P held o all (is_there o (times o ys) (mem_times o ys here) parts.0),
          go xs ys (λ p m. among p (or_right _ _ m)) parts.1,
        )
      where
        is_there : (o n : ℕ) → 0 < n → nat_lt (times o held) n ≡ false → mem o held ≡ true
        is_there o n some few =
            ⊎_elim (λ (m : mem o held ≡ true). m)
            (λ (m : mem o held ≡ false).
            absurd (let z = none_times o held m in
            let l : n ≤ times o held = from_ltb _ _ few in omega arith)) (cases_Bool (mem o held))
          where
            from_ltb : (a b : ℕ) → nat_lt a b ≡ false → b ≤ a
            from_ltb a b f = grind arith

-- A message is read from what is live.
module _ (boundary : ℕ) (Now : Type 0) (x : Around) (l : Live) (os : List ℕ) where
  abbrev Then : Around
  Then = record x {
    live = Some (without_held os l);
    told = x.told ++ record { generation = l.generation; offsets = os } ∷ [];
  }

  pub read_stays : x.live ≡ Some l → l.is_open ≡ true → are_held os l.held ≡ true → AreNotFalling x.marks
      → OfFirst (λ b. AreBelow b l.held) x.marks → (Now → AreBelow boundary l.held) → (past : Option ℕ)
      → IsAtItsPlace boundary Now x past → IsAtItsPlace boundary Now Then past
  read_stays is can held ascend first now None h = record {
    below = all_push (λ (t : Told). AreBelow boundary t.offsets) x.told _ h.below
        (all_held (λ (o : ℕ). o < boundary) os l.held held (lower h.ends));
    ends = by h.ends;
  }
    where
      lower : (is_marked x.marks x.deferred boundary ≡ true) ⊎ (IsOver boundary x ⊎ Now) → AreBelow boundary l.held
      lower (inl m) =
          let f = first_of_marked x.marks x.deferred boundary ascend m in
          below_more f.first boundary l.held f.below (subst (OfFirst (λ b. AreBelow b l.held)) f.is first)
      lower (inr (inl v)) =
          absurd (true≢false (sym can ∙ subst (λ (y : Option Live). is_readable y ≡ false) is v.unread))
      lower (inr (inr n)) = now n

      by : (is_marked x.marks x.deferred boundary ≡ true) ⊎ (IsOver boundary x ⊎ Now)
          → (is_marked x.marks x.deferred boundary ≡ true) ⊎ (IsOver boundary Then ⊎ Now)
      by (inl m) = inl m
      by (inr (inl v)) =
          absurd (true≢false (sym can ∙ subst (λ (y : Option Live). is_readable y ≡ false) is v.unread))
      by (inr (inr n)) = inr (inr n)
  read_stays is can held ascend first now (Some from) h =
      let since : from ≤ l.generation = h.since l is in
      let past : AreFrom boundary l.held =
      subst (λ (y : Option Live). is_readable y ≡ true → AreFrom boundary (held_on y)) is h.held can
      in
      record {
        given = h.given;
        since = λ k e. same k e since;
        held = λ e. from_filtered boundary (λ o. not (mem o os)) l.held past;
        ends = h.ends;
        later = h.later;
        comes = h.comes;
        divided = all_push (IsOnItsSide boundary from) x.told _ h.divided (
          λ earlier. absurd (omega arith),
          λ later. all_held (λ (o : ℕ). boundary ≤ o) os l.held held past,
        );
      }
    where
      same : (k : Live) → Some (without_held os l) ≡ Some k → from ≤ l.generation → from ≤ k.generation
      same k e f =
          let g : without_held os l ≡ k = cc in
          subst (λ n. from ≤ n) (ap (λ (y : Live). y.generation) g) f
