-- A side whose cumulative reach moves on follows the course that goes on so.
use Rattle.std.proofs.Common.{◌≡◌, refl, sym, ap, ◌∙◌, subst, subst₂, ⊎_elim, ℕ, ◌^◌, ◌<◌, ◌≤◌, Bool, true, false}
use Rattle.std.proofs.Common.{cond, nat_le, length, Option, Some, None, arith}
use Rattle.std.proofs.lemmas.Bool.{cases_lt}
use Rattle.sctp_streams.specs.Streams.{StreamMap}
use Rattle.sctp_inbound.specs.Receiver.{past_of}
use Rattle.sctp_model.specs.Machine.{Receiver}
use Rattle.sctp_model.specs.Packets.{mem}
use Rattle.sctp_model.proofs.OffsetSets.{reach_grows}
use Rattle.sctp_fit.specs.Incoming.{tsn_before}
use Rattle.sctp_serial.specs.Serial.{tsn}
use Rattle.sctp_wire_types.specs.declared.chunk.ChunkPayloadData.{ChunkPayloadData}
use Rattle.sctp_resets.specs.declared.performing.Settled.{Settled}
use Rattle.sctp_resets.specs.Resets.{Beside, ResetsView, Resetting, skips_done, skips_done_of}
use Rattle.sctp_resets.specs.Resets as resets
use Rattle.sctp_courses.specs.Course.{Course}
use Rattle.sctp_courses.specs.Events.{Event, happens}
use Rattle.sctp_courses.specs.Invariants.{Invariant}
use Rattle.sctp_courses.proofs.Proved.{each_event_keeps_the_invariant}
use Rattle.sctp_reset_fit.specs.Keeping.{GoesOn, GoesOnBeside, KeepsCourse, StandsBeside}
use Rattle.sctp_reset_fit.specs.Stands.{last_below}
use Rattle.sctp_reset_fit.proofs.Keeping.{beside_keeps, goes_by, goes_leaves, goes_nowhere, goes_on}
use Rattle.sctp_reset_fit.proofs.Settling.{settles_and_skips}
use Rattle.sctp_reset_fit.proofs.Skipping.{skips_done_of_keeps, skips_done_of_peer}
use Rattle.sctp_directions.specs.Acts.{History, Parts, reach_in}
use Rattle.sctp_assoc.specs.Leads.{Binds, IsSamePast, parts}
use Rattle.sctp_assoc.specs.Resets.{asking_if, channels_of, settled, settled_with, skips_applied_of, with_answer}
use Rattle.sctp_assoc.specs.Resets.{with_beside, with_resetting}
use Rattle.sctp_assoc.specs.Shown.{Shown}
use Rattle.sctp_assoc.proofs.Leading.{leads_nowhere, past_itself}
use Rattle.sctp_assoc.proofs.ResetsLeadOn.{settling_leads, skipping_leads}
use Rattle.sctp_assoc.proofs.WhatCame.{below_reach}
use Rattle.sctp_course_sides.specs.Following.{LeadsFollowing}
use Rattle.sctp_course_sides.specs.Follows.{Follows}

-- The cumulative reach

-- it is no further than all that came, and all that was passed over
pub reach_within : (h : History) (n : ℕ) → ((o : ℕ) → mem o h.taken ≡ true → o < n) → h.passed ≤ n → reach_in h ≤ n
reach_within h n taken passed =
    ⊎_elim
    (λ (l : n < reach_in h).
    ⊎_elim (λ (m : mem n h.taken ≡ true). absurd (let k : n < n = taken n m in omega arith))
    (λ (b : n < h.passed). absurd (omega (arith, b, passed))) (below_reach h n l))
    (λ (g : reach_in h ≤ n). g)
    (cases_lt n (reach_in h))

-- a receiver that has what came on this history
abbrev receiver_of : History → Receiver
receiver_of h = record { taken = h.taken; passed = h.passed; queues = λ s. None; is_open = true }

-- where more came it is no less far
pub reach_grown : (h k : History) → ((o : ℕ) → mem o h.taken ≡ true → mem o k.taken ≡ true) → h.passed ≤ k.passed
    → reach_in h ≤ reach_in k
reach_grown h k more far = reach_grows (receiver_of h) (receiver_of k) more far

reach_same : (h k : History) → IsSamePast h k → reach_in h ≡ reach_in k
reach_same h k same = rw (same.taken, same.passed) refl

-- The course's cumulative reach moves on

pub le_is : (a b : ℕ) → a ≤ b → nat_le a b ≡ true
le_is a b l = grind arith

advances_is : (c : Course) (point : ℕ) → c.point ≤ point → happens c (Event.Advances point) ≡ record c { point = point }
advances_is c point l = ap (λ z. cond z (record c { point = point }) c) (le_is c.point point l)

advanced_beside : (P : ChunkPayloadData → Type 0) (initial id : ℕ) (r : ResetsView) (m : StreamMap) (c : Course)
    (point : ℕ) → c.point ≤ point
    → StandsBeside P initial id r m c → StandsBeside P initial id r m (record c { point = point })
advanced_beside P initial id r m c point l h = record {
  kept = subst Invariant (advances_is c point l) (each_event_keeps_the_invariant c (Event.Advances point) h.kept);
  stands = record {
    live = h.stands.live;
    next = h.stands.next;
    marks = h.stands.marks;
    kept = h.stands.kept;
    deferred = h.stands.deferred;
    waits = h.stands.waits;
    once_named = h.stands.once_named;
    once_live = h.stands.once_live;
    once_marked = h.stands.once_marked;
    open_where_marked = h.stands.open_where_marked;
    near = h.stands.near;
    still = h.stands.still;
  };
  read_on = h.read_on;
  numbered = record { last = h.numbered.last; current = h.numbered.current };
}

-- A course went on, and a side has what the course has: it follows where the course's reach moves to its own.
pub reaches : (P : ChunkPayloadData → Type 0) (initial id : ℕ) (a b : Shown) (h k : History) (c d : Course)
    → Follows P initial id a h c → Binds b k
    → k.peer ≡ h.peer → GoesOn c d → d.told ≡ c.told → StandsBeside P initial id b.resets b.streams d
    → d.point ≤ reach_in k → ((o : ℕ) → mem o d.taken ≡ true → mem o k.taken ≡ true)
    → ((o : ℕ) → mem o k.taken ≡ true → o < c.assigned) → k.passed ≤ c.assigned → LeadsFollowing P initial id b c
reaches P initial id a b h k c d f binds peer goes told stands below taken assigned passed =
    let moves : GoesOn d (record d { point = reach_in k }) =
    subst (GoesOn d) (advances_is d (reach_in k) below) (goes_by d (Event.Advances (reach_in k)) refl) in
    let all : GoesOn c (record d { point = reach_in k }) = goes_on c d (record d { point = reach_in k }) goes moves in
    let left = goes_leaves c (record d { point = reach_in k }) all in
    record {
      after = record d { point = reach_in k };
      past = k;
      goes = all;
      told = told;
      follows = record {
        small = f.small;
        few = subst (λ qs. length qs < 2 ^ 31) (sym left.0) f.few;
        binds = binds;
        stands = advanced_beside P initial id b.resets b.streams d (reach_in k) below stands;
        reached = record {
          peer = peer ∙ f.reached.peer;
          point = refl;
          taken = taken;
          assigned = λ o m. subst (λ n. o < n) (sym left.1) (assigned o m);
          passed = subst (λ n. k.passed ≤ n) (sym left.1) passed;
        };
      };
    }

-- Nothing more came

pub goes_following : (P : ChunkPayloadData → Type 0) (initial id : ℕ) (a b : Shown) (h k : History) (c : Course)
    → Follows P initial id a h c → Binds b k
    → IsSamePast h k → GoesOnBeside P initial id b.resets b.streams c → LeadsFollowing P initial id b c
goes_following P initial id a b h k c f binds same g =
    reaches P initial id a b h k c g.after f binds same.peer g.goes g.told g.stands
    (let e : g.after.point ≡ reach_in k = g.point ∙ f.reached.point ∙ reach_same h k same in omega (arith, e))
    (λ o m.
    subst (λ xs. mem o xs ≡ true) (sym same.taken)
    (f.reached.taken o (subst (λ xs. mem o xs ≡ true) g.taken m)))
    (λ o m. f.reached.assigned o (subst (λ xs. mem o xs ≡ true) same.taken m))
    (subst (λ n. n ≤ c.assigned) (sym same.passed) f.reached.passed)

-- what keeps to courses is followed
pub keeps_following : (P : ChunkPayloadData → Type 0) (initial id : ℕ) (a b : Shown) (h k : History) (c : Course)
    → Follows P initial id a h c → Binds b k
    → IsSamePast h k → KeepsCourse P initial id a.resets a.streams b.resets b.streams → b.resets.peer ≡ a.resets.peer
    → LeadsFollowing P initial id b c
keeps_following P initial id a b h k c f binds same keeps peer =
    goes_following P initial id a b h k c f binds same
    (beside_keeps P initial id a.resets b.resets a.streams b.streams c keeps peer f.stands).0

-- what changes beside the directions and the resets is no matter
pub stays_following : (P : ChunkPayloadData → Type 0) (initial id : ℕ) (a b : Shown) (h : History) (c : Course)
    → parts b h ≡ parts a h
    → past_of b.receiver ≡ past_of a.receiver → b.resets ≡ a.resets → Follows P initial id a h c
    → LeadsFollowing P initial id b c
stays_following P initial id a b h c same past kept f = record {
  after = c;
  past = h;
  goes = goes_nowhere c;
  told = refl;
  follows = record {
    small = f.small;
    few = f.few;
    binds = (leads_nowhere a b h f.binds same past).binds;
    stands = subst₂ (λ (r : ResetsView) (m : StreamMap). StandsBeside P initial id r m c) (sym kept)
        (sym (ap (λ (p : Parts). p.streams) same)) f.stands;
    reached = f.reached;
  };
}

pub same_following : (P : ChunkPayloadData → Type 0) (initial id : ℕ) (a : Shown) (h : History) (c : Course)
    → Follows P initial id a h c
    → LeadsFollowing P initial id a c
same_following P initial id a h c f =
    record { after = c; past = h; goes = goes_nowhere c; told = refl; follows = f }

-- one thing behind another
pub then_following : (P : ChunkPayloadData → Type 0) (initial id : ℕ) (a b : Shown) (c : Course)
    → (first : LeadsFollowing P initial id a c)
    → LeadsFollowing P initial id b first.after → LeadsFollowing P initial id b c
then_following P initial id a b c first later = record {
  after = later.after;
  past = later.past;
  goes = goes_on c first.after later.after first.goes later.goes;
  told = later.told ∙ first.told;
  follows = later.follows;
}

-- What is known where a side follows

pub within_assigned : (P : ChunkPayloadData → Type 0) (initial id : ℕ) (a : Shown) (h : History) (c : Course)
    → Follows P initial id a h c
    → reach_in h ≤ c.assigned
within_assigned P initial id a h c f = reach_within h c.assigned f.reached.assigned f.reached.passed

pub reach_small : (P : ChunkPayloadData → Type 0) (initial id : ℕ) (a : Shown) (h : History) (c : Course)
    → Follows P initial id a h c
    → reach_in h < 2 ^ 31
reach_small P initial id a h c f =
    let within : reach_in h ≤ c.assigned = within_assigned P initial id a h c f in
    let near : c.assigned < 2 ^ 31 = f.stands.stands.near in omega (arith, within, near)

pub point_small : (P : ChunkPayloadData → Type 0) (initial id : ℕ) (a : Shown) (h : History) (c : Course)
    → Follows P initial id a h c → c.point < 2 ^ 31
point_small P initial id a h c f =
    subst (λ n. n < 2 ^ 31) (sym f.reached.point) (reach_small P initial id a h c f)

-- the last TSN in order is that below the course's reach
pub last_is : (P : ChunkPayloadData → Type 0) (initial id : ℕ) (a : Shown) (h : History) (c : Course)
    → Follows P initial id a h c
    → a.receiver.peer_last_tsn ≡ last_below initial c.point
last_is P initial id a h c f =
    f.binds.peer_last_tsn ∙ ap (λ p. tsn_before (tsn p (reach_in h))) f.reached.peer
    ∙ ap (λ n. last_below initial n) (sym f.reached.point)

-- What resets leave of an association: resets, streams and events

abbrev pub seen : Shown → Beside
seen a = (a.resets, a.streams, a.events)

pub beside_seen : (a : Shown) (x : Beside) → seen (with_beside a x) ≡ x
beside_seen a (r, m, told) = refl

pub resetting_seen : (a : Shown) (x : Resetting) → seen (with_resetting a x) ≡ (x.0, x.1.streams, x.1.events)
resetting_seen a (r, c) = refl

pub asking_seen : (asks : Bool) (a : Shown) → seen (asking_if asks a) ≡ seen a
asking_seen true a = refl
asking_seen false a = refl

answer_seen : (o : Option Settled) (a : Shown) → seen (with_answer o a) ≡ seen a
answer_seen None a = refl
answer_seen (Some q) a = asking_seen q.asks a

settled_with_seen : (a : Shown) (x : Resetting × Option Settled)
    → seen (settled_with a x) ≡ (x.0.0, x.0.1.streams, x.0.1.events)
settled_with_seen a (s, answer) = answer_seen answer (with_resetting a s) ∙ resetting_seen a s

abbrev performed_of : Shown → Resetting × Option Settled
performed_of a =
    resets.settled a.receiver.peer_last_tsn a.sender.queue.next_message_id a.receiver.max_receive_message_size a.resets
    (channels_of a)

settled_seen : (a : Shown)
    → seen (settled a)
    ≡ skips_done (performed_of a).0.0 (performed_of a).0.1.streams (performed_of a).0.1.events
unfolding settled
settled_seen a =
    let b : Shown = settled_with a (performed_of a) in
    beside_seen b (skips_done b.resets b.streams b.events)
    ∙ ap (λ (z : Beside). skips_done z.0 z.1 z.2) (settled_with_seen a (performed_of a))

-- a request that waited is performed where it is due, and skips that were kept are applied
pub settled_following : (P : ChunkPayloadData → Type 0) (initial id : ℕ) (a : Shown) (h : History) (c : Course)
    → Follows P initial id a h c
    → LeadsFollowing P initial id (settled a) c
settled_following P initial id a h c f =
    goes_following P initial id a (settled a) h h c f (settling_leads a h f.binds).binds (past_itself h)
    (subst (λ (z : Beside). GoesOnBeside P initial id z.0 z.1 c) (sym (settled_seen a))
    (settles_and_skips P initial id a.receiver.peer_last_tsn a.sender.queue.next_message_id
    a.receiver.max_receive_message_size a.resets (channels_of a) c f.stands (point_small P initial id a h c f)
    (last_is P initial id a h c f)))

-- so are those of one stream
pub skips_following : (P : ChunkPayloadData → Type 0) (initial id k : ℕ) (a : Shown) (h : History) (c : Course)
    → Follows P initial id a h c
    → LeadsFollowing P initial id (skips_applied_of k a) c
skips_following P initial id k a h c f =
    let is : seen (skips_applied_of k a) ≡ skips_done_of k a.resets a.streams a.events =
    beside_seen a (skips_done_of k a.resets a.streams a.events) in
    keeps_following P initial id a (skips_applied_of k a) h h c f (skipping_leads k a h f.binds).binds (past_itself h)
    (subst (λ (z : Beside). KeepsCourse P initial id a.resets a.streams z.0 z.1) (sym is)
    (skips_done_of_keeps P initial id a.resets a.streams k a.events))
    (ap (λ (z : Beside). z.0.peer) is ∙ skips_done_of_peer a.resets k a.streams a.events)
