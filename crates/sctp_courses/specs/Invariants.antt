-- What stays so of a stream across its resets, whatever happens.
use Rattle.std.specs.Prelude.{ℕ, suc, ◌+◌, ◌-◌, ◌<◌, ◌≤◌, ◌≡◌, ◌⊎◌, ⊤, if◌then◌else◌, Bool, true, false, List, [], ◌∷◌}
use Rattle.std.specs.Prelude.{length, Option, Some, None}
use Rattle.std.specs.List.{AllByRecursion}
use Rattle.sctp_model.specs.Packets.{mem}
use Rattle.sctp_courses.specs.Course.{Course, Live, Request, Told, boundary_at, held_on, is_marked, is_named, is_readable}
use Rattle.sctp_courses.specs.Course.{offsets_told, times}
use Rattle.sctp_courses.specs.Events.{is_behind}

-- each offset lies below the boundary, or at or past it

abbrev pub AreBelow : ℕ → List ℕ → Type 0
AreBelow boundary os = AllByRecursion (λ (o : ℕ). o < boundary) os

abbrev pub AreFrom : ℕ → List ℕ → Type 0
AreFrom boundary os = AllByRecursion (λ (o : ℕ). boundary ≤ o) os

abbrev pub AreNotFalling : List ℕ → Type 0
AreNotFalling [] = ⊤
AreNotFalling (b ∷ bs) = AreFrom b bs × AreNotFalling bs

-- so it is of the first one, if there is one
abbrev pub OfFirst : (ℕ → Type 0) → List ℕ → Type 0
OfFirst P [] = ⊤
OfFirst P (b ∷ bs) = P b

-- The sender's requests: their boundaries do not fall, and while one that names the stream was not performed, all
-- offsets of the stream lie below its boundary.
pub record AreAsked (asked : List Request) (assigned : ℕ) (mine : List ℕ) (performed : ℕ) : Type 0 where
  pub ascend : (j k : ℕ) → j ≤ k → k < length asked → boundary_at asked j ≤ boundary_at asked k
  pub below : (k : ℕ) → k < length asked → boundary_at asked k ≤ assigned
  pub known : performed ≤ length asked
  pub quiet : (k : ℕ) → performed ≤ k → k < length asked → is_named asked k ≡ true
      → AreBelow (boundary_at asked k) mine
  pub assigned_below : AreBelow assigned mine

-- An offset that was taken in is held, deferred, being given or read at most once, and no other one is.
pub record AreCounted (mine taken hand deferred held told : List ℕ) : Type 0 where
  pub are_mine : AllByRecursion (λ (o : ℕ). mem o mine ≡ true) taken
  pub once : (o : ℕ) → times o hand + times o deferred + times o held + times o told ≤ (if mem o taken then 1 else 0)

-- A request waits before it is performed, and is performed in steps.
pub record AreInStep (asked : List Request) (performed : ℕ) (waits retires releases : Bool) (hand : List ℕ) : Type 0 where
  pub waits_for : waits ≡ true → (performed < length asked) × (releases ≡ false)
  pub some : releases ≡ true → (0 < performed) × (hand ≡ [])
  pub first : retires ≡ true → (releases ≡ true) × (is_named asked (performed - 1) ≡ true)

-- a boundary of a performed request
abbrev pub IsPerformed : List Request → ℕ → ℕ → Type 0
IsPerformed asked performed boundary = (k : ℕ) × (k < performed) × (boundary_at asked k ≡ boundary)

-- The boundaries of performed requests were reached, and those of the marks are some of these.
pub record AreReached (asked : List Request) (performed point : ℕ) (marks : List ℕ) : Type 0 where
  pub reached : (k : ℕ) → k < performed → boundary_at asked k ≤ point
  pub ascend : AreNotFalling marks
  pub each : AllByRecursion (IsPerformed asked performed) marks

-- what is deferred while nothing retires lies behind the request that waits, or the one that is being performed
abbrev pub IsBehindARequest : List Request → ℕ → Bool → Bool → ℕ → Type 0
IsBehindARequest asked performed waits releases o =
    (is_behind asked performed waits o ≡ true)
    ⊎ ((releases ≡ true) × (is_named asked (performed - 1) ≡ true) × (boundary_at asked (performed - 1) ≤ o))

-- What is held lies below the first mark, and what is deferred at or past it.
pub record AreApart (asked : List Request) (performed : ℕ) (waits retires releases : Bool) (live : Option Live)
    (marks deferred hand : List ℕ) : Type 0 where
  pub held : is_readable live ≡ true → OfFirst (λ b. AreBelow b (held_on live)) marks
  pub comes : OfFirst (λ b. AreBelow b hand) marks
  pub later : OfFirst (λ b. AreFrom b deferred) marks
  pub unmarked : marks ≡ [] → AllByRecursion (IsBehindARequest asked performed waits releases) deferred
  pub retiring : retires ≡ true → AreBelow (boundary_at asked (performed - 1)) (held_on live)

-- What was read lies below a boundary, or at or past it, by the first generation past the boundary.
abbrev pub IsOnItsSide : ℕ → ℕ → Told → Type 0
IsOnItsSide boundary from t =
    (t.generation < from → AreBelow boundary t.offsets) × (from ≤ t.generation → AreFrom boundary t.offsets)

-- What a performed request has to do with: the stream as it is live, what waits for it, and what was read of it.
pub record Around : Type 0 where
  pub next : ℕ
  pub live : Option Live
  pub marks : List ℕ
  pub deferred : List ℕ
  pub hand : List ℕ
  pub told : List Told

abbrev pub around : Course → Around
around c = record {
  next = c.next;
  live = c.live;
  marks = c.marks;
  deferred = c.deferred;
  hand = c.hand;
  told = c.told;
}

-- Of a performed request that names the stream, with this boundary, and that has a first generation past it:
pub record IsPast (boundary from : ℕ) (x : Around) : Type 0 where
  pub given : from < x.next
  pub since : (l : Live) → x.live ≡ Some l → from ≤ l.generation
  pub held : is_readable x.live ≡ true → AreFrom boundary (held_on x.live)
  pub ends : AreFrom boundary x.marks
  pub later : AreFrom boundary x.deferred
  pub comes : AreFrom boundary x.hand
  pub divided : AllByRecursion (IsOnItsSide boundary from) x.told

-- nothing can be read, and what comes next is past the boundary
pub record IsOver (boundary : ℕ) (x : Around) : Type 0 where
  pub unread : is_readable x.live ≡ false
  pub later : AreFrom boundary x.deferred
  pub comes : AreFrom boundary x.hand

-- Of one that has none yet: all that was read lies below its boundary, and so does what can be read, until the
-- generation that it ends is over. Where `Now` it is still to end that one.
pub record IsPending (boundary : ℕ) (Now : Type 0) (x : Around) : Type 0 where
  pub below : AllByRecursion (λ (t : Told). AreBelow boundary t.offsets) x.told
  pub ends : (is_marked x.marks x.deferred boundary ≡ true) ⊎ (IsOver boundary x ⊎ Now)

abbrev pub IsAtItsPlace : ℕ → Type 0 → Around → Option ℕ → Type 0
IsAtItsPlace boundary Now x None = IsPending boundary Now x
IsAtItsPlace boundary Now x (Some from) = IsPast boundary from x

-- request k is still to end the newest generation
abbrev pub IsToEnd : Bool → ℕ → ℕ → Type 0
IsToEnd retires performed k = (retires ≡ true) × (suc k ≡ performed)

pub record Invariant (c : Course) : Type 0 where
  pub asks : AreAsked c.asked c.assigned c.mine c.performed
  pub counts : AreCounted c.mine c.taken c.hand c.deferred (held_on c.live) (offsets_told c.told)
  pub steps : AreInStep c.asked c.performed c.waits c.retires c.releases c.hand
  pub marks : AreReached c.asked c.performed c.point c.marks
  pub apart : AreApart c.asked c.performed c.waits c.retires c.releases c.live c.marks c.deferred c.hand
  pub places : (k : ℕ) → k < c.performed → is_named c.asked k ≡ true
      → IsAtItsPlace (boundary_at c.asked k) (IsToEnd c.retires c.performed k) (around c) (c.past k)
  pub past_is : (k from : ℕ) → c.past k ≡ Some from → (k < c.performed) × (is_named c.asked k ≡ true)
  pub live_is : (l : Live) → c.live ≡ Some l → l.generation < c.next
  pub told_is : AllByRecursion (λ (t : Told). t.generation < c.next) c.told
