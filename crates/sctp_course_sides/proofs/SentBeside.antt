-- What the sender of a course does leaves a side that follows the course where it stands.
use Rattle.std.proofs.Common.{◌≡◌, refl, sym, ap, ◌∙◌, subst, ℕ, suc, ◌<◌, ◌≤◌, ◌^◌, Bool, true, false, arith}
use Rattle.std.proofs.Common.{if◌then◌else◌, List, [], ◌∷◌, ◌++◌, length, Option, Some, None}
use Rattle.std.proofs.lemmas.Bool.{false≢true}
use Rattle.std.proofs.lemmas.List.{get_or_append_left}
use Rattle.sctp_wire_types.specs.declared.chunk.ChunkPayloadData.{ChunkPayloadData}
use Rattle.sctp_reset_requests.specs.Request.{PeerRequestView}
use Rattle.sctp_courses.specs.Course.{Course, Request, no_request, request_at}
use Rattle.sctp_courses.specs.Events.{Event, assigned_mine, happens, is_to_be_reset, run}
use Rattle.sctp_courses.specs.Invariants.{Invariant}
use Rattle.sctp_courses.proofs.Proved.{each_event_keeps_the_invariant}
use Rattle.sctp_reset_fit.specs.Stands.{WaitsFor, last_below}
use Rattle.sctp_directions.specs.Acts.{History}
use Rattle.sctp_assoc.specs.Shown.{Shown}
use Rattle.sctp_course_sides.specs.Follows.{Follows}
use Rattle.sctp_course_sides.specs.Sends.{is_at_sender}
use Rattle.sctp_course_sides.specs.Turns.{AreSent, IsFew}
use Rattle.sctp_course_sides.proofs.SentOn.{Grows, sends_grow}

-- A course with other requests and other offsets that were assigned.
abbrev pub with_sent : Course → List Request → ℕ → List ℕ → Course
with_sent c asked assigned mine = record c { asked = asked; assigned = assigned; mine = mine }

-- with those of another course
abbrev pub sent_as : Course → Course → Course
sent_as c d = with_sent c d.asked d.assigned d.mine

-- Nothing else changes by what the sender does.

mine_alone : (barred : Bool) (c : Course)
    → (if barred then c else assigned_mine c) ≡ sent_as c (if barred then c else assigned_mine c)
mine_alone true c = refl
mine_alone false c = refl

event_alone : (c : Course) (e : Event) → is_at_sender e ≡ true → happens c e ≡ sent_as c (happens c e)
event_alone c Event.AssignsMine at = mine_alone (is_to_be_reset c) c
event_alone c Event.AssignsOther at = refl
event_alone c (Event.Asks named) at = refl
event_alone c e at = absurd (false≢true at)

events_alone : (events : List Event) (c : Course) → AreSent events → run events c ≡ sent_as c (run events c)
events_alone [] c sent = refl
events_alone (e ∷ events) c sent =
    events_alone events (happens c e) sent.1
    ∙ ap (λ (x : Course). sent_as x (run events (happens c e))) (event_alone c e sent.0)

-- and the invariant stays
events_kept : (events : List Event) (c : Course) → Invariant c → Invariant (run events c)
events_kept [] c h = h
events_kept (e ∷ events) c h = events_kept events (happens c e) (each_event_keeps_the_invariant c e h)

-- What was asked

-- a request that was sent stays where it is
request_stays : (asked more qs : List Request) (k : ℕ) → qs ≡ asked ++ more → k < length asked
    → request_at qs k ≡ request_at asked k
request_stays asked more qs k is below =
    ap (λ (x : List Request). request_at x k) is ∙ get_or_append_left asked more no_request k below

none_shorter : (n : ℕ) → 0 ≤ n
none_shorter n = omega arith

both_more : (n m : ℕ) → n ≤ m → suc n ≤ suc m
both_more n m l = omega arith

longer : (xs ys : List Request) → length xs ≤ length (xs ++ ys)
longer [] ys = none_shorter (length ys)
longer (x ∷ xs) ys = both_more (length xs) (length (xs ++ ys)) (longer xs ys)

further : (k n m : ℕ) → k < n → n ≤ m → k < m
further k n m l g = omega arith

below_still : (asked more qs : List Request) (k : ℕ) → qs ≡ asked ++ more → k < length asked → k < length qs
below_still asked more qs k is below =
    subst (λ (x : List Request). k < length x) (sym is)
    (further k (length asked) (length (asked ++ more)) below (longer asked more))

no_more : (n m k : ℕ) → n ≤ m → m ≤ k → n ≤ k
no_more n m k l g = omega arith

-- the request that waits is the same
waits_still : (initial id : ℕ) (o : Option PeerRequestView) (asked more qs : List Request) (performed : ℕ)
    (waits : Bool) → qs ≡ asked ++ more → WaitsFor initial id o asked performed waits
    → WaitsFor initial id o qs performed waits
waits_still initial id None asked more qs performed waits is w = w
waits_still initial id (Some q) asked more qs performed waits is w =
    let same : request_at qs performed ≡ request_at asked performed =
    request_stays asked more qs performed is w.3 in (
      w.0,
      w.1 ∙ ap (λ (r : Request). last_below initial r.boundary) (sym same),
      w.2 ∙ ap (λ (r : Request). r.named) (sym same),
      below_still asked more qs performed is w.3,
    )

-- A side follows the course with more requests and more offsets.
more_sent : (P : ChunkPayloadData → Type 0) (initial id : ℕ) (a : Shown) (h : History) (c : Course)
    (qs more : List Request) (assigned : ℕ)
    (mine : List ℕ) → qs ≡ c.asked ++ more → c.assigned ≤ assigned → length qs < 2 ^ 31 → assigned < 2 ^ 31
    → Invariant (with_sent c qs assigned mine) → Follows P initial id a h c
    → Follows P initial id a h (with_sent c qs assigned mine)
more_sent P initial id a h c qs more assigned mine is grown few near kept f = record {
  small = f.small;
  few = few;
  binds = f.binds;
  stands = record {
    kept = kept;
    stands = record {
      live = f.stands.stands.live;
      next = f.stands.stands.next;
      marks = f.stands.stands.marks;
      kept = f.stands.stands.kept;
      deferred = f.stands.stands.deferred;
      waits =
          waits_still initial id a.resets.peer.in_progress c.asked more qs c.performed c.waits is
          f.stands.stands.waits;
      once_named = f.stands.stands.once_named;
      once_live = f.stands.stands.once_live;
      once_marked = f.stands.stands.once_marked;
      open_where_marked = f.stands.stands.open_where_marked;
      near = near;
      still = f.stands.stands.still;
    };
    read_on = f.stands.read_on;
    numbered = record { last = f.stands.numbered.last; current = f.stands.numbered.current };
  };
  reached = record {
    peer = f.reached.peer;
    point = f.reached.point;
    taken = f.reached.taken;
    assigned = λ o came. further o c.assigned assigned (f.reached.assigned o came) grown;
    passed = no_more h.passed c.assigned assigned f.reached.passed grown;
  };
}

-- So a side follows a course on which its sender did more.
pub sent_beside : (P : ChunkPayloadData → Type 0) (initial id : ℕ) (a : Shown) (h : History) (c : Course)
    (events : List Event) → AreSent events
    → IsFew (run events c) → Follows P initial id a h c → Follows P initial id a h (run events c)
sent_beside P initial id a h c events sent few f =
    let d : Course = run events c in
    let grows : Grows c d = sends_grow c d (record { events = events; sent = sent; is = refl }) in
    let alone : d ≡ sent_as c d = events_alone events c sent in
    let kept : Invariant (sent_as c d) = subst Invariant alone (events_kept events c f.stands.kept) in
    subst (Follows P initial id a h) (sym alone)
    (more_sent P initial id a h c d.asked grows.more d.assigned d.mine grows.asked grows.assigned few.requests
    few.offsets kept f)
