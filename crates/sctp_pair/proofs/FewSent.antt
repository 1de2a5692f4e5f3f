-- By a poll no more offsets are assigned in a course than its world assigns, and no more requests are sent for the
-- first time than there are polls: so both are few where the world is within its limits and few steps poll.
use Rattle.std.proofs.Common.{◌≡◌, refl, sym, ap, ◌∙◌, subst, ◌⊎◌, ⊎_elim, inl, inr, ℕ, ◌+◌, ◌-◌, ◌<◌, ◌≤◌, ◌^◌, arith}
use Rattle.std.proofs.Common.{Bool, true, false, ◌&&◌, not, if◌then◌else◌, is_some, List, [], ◌∷◌, length, Option}
use Rattle.std.proofs.Common.{map}
use Rattle.std.specs.List.{AllByRecursion}
use Rattle.std.proofs.lemmas.Bool.{cases_Bool, true≢false}
use Rattle.sctp_outbound_queue.specs.declared.message.InFlight.{InFlight}
use Rattle.sctp_outbound_queue.specs.Message.{marked_again}
use Rattle.sctp_outbound_queue.specs.Outbound.{Outbound}
use Rattle.sctp_outbound_queue.specs.Waiting.{Waiting}
use Rattle.sctp_model.specs.Machine.{Direction}
use Rattle.sctp_fit.proofs.SentAgain.{flight_length}
use Rattle.sctp_directions.specs.Acts.{Act, Can, CanAll, Parts, done, done_all}
use Rattle.sctp_assoc.specs.declared.call.Reply.{Reply}
use Rattle.sctp_assoc.specs.declared.call.Reply.TheVariants as replies
use Rattle.sctp_assoc.specs.Gather.{open_polled, polled, without_control}
use Rattle.sctp_assoc.specs.Happened.{Polls, PollsOn, acts_of_exchange, acts_of_poll, forwards_of_poll}
use Rattle.sctp_assoc.specs.Leads.{parts}
use Rattle.sctp_assoc.specs.Replies.{GivesOut}
use Rattle.sctp_assoc.specs.Shown.{Shown}
use Rattle.sctp_assoc.specs.Shutdown.{awaits_answer, completes_shutdown}
use Rattle.sctp_sides.specs.Ending.{IsInOrder}
use Rattle.sctp_sides.specs.SideLaws.{KeepsTheStage}
use Rattle.sctp_sides.proofs.Proved.{closed_sides_exchange_nothing, done_append, polls_complete_what_is_due}
use Rattle.sctp_sides.proofs.Proved.{polls_end_last, polls_keep_the_stage, polls_outside_an_exchange_give_what_waits}
use Rattle.sctp_course_sides.proofs.SentData.{IsOfPoll}
use Rattle.sctp_course_sides.proofs.SenderPolls.{are_of_poll}
use Rattle.sctp_steps.specs.declared.step.Side2.{Side2}
use Rattle.sctp_steps.specs.declared.step.Side2.TheVariants as sides
use Rattle.sctp_steps.specs.declared.step.Step.{Step}
use Rattle.sctp_steps.specs.declared.step.Step.TheVariants as steps
use Rattle.sctp_steps.specs.Steps.{Steps}
use Rattle.sctp_boundaries.specs.Between.{AreFew, Courses}
use Rattle.sctp_boundaries.specs.Laws.{LeadsBoth, fresh_courses, more_in_flight, polls_side}
use Rattle.sctp_pair.specs.Fits.{EndsInOrder, Stands, StandsClosed, StandsIn, StandsOpen}
use Rattle.sctp_pair.specs.World.{IsWithinLimits, IsWorldStep, World}
use Rattle.sctp_pair.proofs.BetweenDirections.{can_front}
use Rattle.sctp_pair.proofs.GrowingPlans.{plan_grew}
use Rattle.sctp_pair.proofs.OutgoingData.{IsAllSent, no_message, old_leaves_all_sent}
use Rattle.sctp_pair.proofs.PollCall.{all_sent_is, complete_is_due}

-- Where all was sent a poll sends nothing

one_leaves_all_sent : (act : Act) (p : Parts) → IsOfPoll act → Can act p → IsAllSent p → IsAllSent (done act p)
one_leaves_all_sent (Act.Sent at_once now) p is can d =
    absurd (no_message (λ (m : Option Waiting). is_some m) refl p 0 d can)
one_leaves_all_sent (Act.SentAgain at_once by index) p is can d = old_leaves_all_sent (Act.SentAgain at_once by index) p tt can d
one_leaves_all_sent (Act.Abandoned index) p is can d = old_leaves_all_sent (Act.Abandoned index) p tt can d
one_leaves_all_sent Act.TailAbandoned p is can d = old_leaves_all_sent Act.TailAbandoned p tt can d
one_leaves_all_sent (Act.Dropped k) p is can d = old_leaves_all_sent (Act.Dropped k) p tt can d
one_leaves_all_sent (Act.Started now) p is can d = old_leaves_all_sent (Act.Started now) p tt can d
one_leaves_all_sent Act.Forwarded p is can d = d
one_leaves_all_sent Act.Reported p is can d = d
one_leaves_all_sent Act.Marked p is can d = record {
  nothing_waits = d.nothing_waits;
  nothing_in_flight = ap (λ (ps : List InFlight). map marked_again ps) d.nothing_in_flight;
}
one_leaves_all_sent Act.Ended p is can d = record {
  nothing_waits = d.nothing_waits;
  nothing_in_flight = d.nothing_in_flight;
}
one_leaves_all_sent act p is can d = absurd is

all_leave_all_sent : (acts : List Act) (p : Parts) → AllByRecursion IsOfPoll acts → CanAll acts p → IsAllSent p
    → IsAllSent (done_all acts p)
all_leave_all_sent [] p are can d = d
all_leave_all_sent (act ∷ acts) p (is, are) (can, cans) d =
    all_leave_all_sent acts (done act p) are cans (one_leaves_all_sent act p is can d)

ending_leaves : (closes : Bool) (p : Parts) → (done_all (if closes then Act.Ended ∷ [] else []) p).queue ≡ p.queue
ending_leaves true p = refl
ending_leaves false p = refl

-- Numbers

none_left : (n m : ℕ) → n ≡ 0 → n - m ≡ 0
none_left n m e = omega arith

same_left : (n m : ℕ) → n ≡ m → n - m ≡ 0
same_left n m e = omega arith

covers_none : (n m k : ℕ) → n ≤ m → k ≡ 0 → n + k ≤ m
covers_none n m k l e = omega arith

-- all that lies past the reach is in flight
covers_flight : (reach reach2 before after places places2 : ℕ) → reach + before ≡ places → reach2 + after ≡ places2
    → reach ≤ reach2 → places ≤ places2 → places + (after - before) ≤ places2
covers_flight reach reach2 before after places places2 e f l j = omega arith

-- where the side did not fail, and where it did
where_any : (failed : Bool) (n m k : ℕ) → n + k ≤ m → n + (if not failed then k else 0) ≤ m
where_any true n m k l = omega arith
where_any false n m k l = l

where_failed : (failed : Bool) → failed ≡ true → (n m k : ℕ) → n ≤ m → n + (if not failed then k else 0) ≤ m
where_failed true e n m k l = omega arith
where_failed false e n m k l = absurd (true≢false (sym e))

no_more : (n m : ℕ) → n ≤ m → n + 0 ≤ m
no_more n m l = omega arith

-- One side in two worlds, before a step and behind it: how it stands in both, and what its own direction grew by.
record SideInStep (a b : Shown) (out out2 : Direction) : Type 0 where
  loose : ℕ → Bool
  own : ℕ
  peer : ℕ
  coming : Direction
  before : Stands loose own peer a out coming
  ends : EndsInOrder a
  loose2 : ℕ → Bool
  own2 : ℕ
  peer2 : ℕ
  coming2 : Direction
  after : Stands loose2 own2 peer2 b out2 coming2
  grew : length out.sender.plan.places ≤ length out2.sender.plan.places
  reach_on : out.sender.reach ≤ out2.sender.reach

-- What the side has in flight more was assigned.
abbrev IsCovered : Shown → Shown → Direction → Direction → Type 0
IsCovered a b out out2 =
    length out.sender.plan.places + more_in_flight a b ≤ length out2.sender.plan.places

module _ (a b : Shown) (out out2 : Direction) (x : SideInStep a b out out2) where
  -- Polls

  module _ (now : ℕ) (packets : List (List ℕ)) (working : a.failed ≡ false) (is : (polled a now).0 ≡ b)
      (polls : PollsOn (acts_of_poll a now) (forwards_of_poll a now) a b packets) where
    abbrev closes : Bool
    closes = completes_shutdown (open_polled a now).0

    module _ (s : StandsOpen x.loose x.own x.peer a out x.coming) where
      -- a poll that closes has nothing more in flight, since all was sent before it
      all_was_sent : closes ≡ true → IsAllSent (parts a s.past)
      all_was_sent e =
          let before : IsInOrder a = ⊎_elim
          (λ (o : IsInOrder a). o)
          (λ (l : a.lost ≡ true). absurd (true≢false (sym l ∙ s.present)))
          (x.ends s.working) in
          let awaits : awaits_answer a.state ≡ true =
          before.order.asked (complete_is_due a.shutdown_due (polls_complete_what_is_due a now e)) in
          all_sent_is a s.past (before.order.behind_data awaits)

      nothing_flies : closes ≡ true → b.sender.queue.in_flight ≡ []
      nothing_flies e =
          let p : Parts = parts a s.past in
          let poll : Polls (acts_of_poll a now) (forwards_of_poll a now) a s.past b packets =
          polls.from s.past s.binds in
          let front : List Act = acts_of_exchange a now in
          let last : List Act = if closes then Act.Ended ∷ [] else [] in
          let can : CanAll front p =
          can_front front last p (subst (λ (zs : List Act). CanAll zs p) (polls_end_last a now) poll.leads.can) in
          let left = all_leave_all_sent front p (are_of_poll a now) can (all_was_sent e) in
          let queue : b.sender.queue ≡ (done_all front p).queue =
          ap (λ (z : Parts). z.queue) poll.leads.there
          ∙ ap (λ (zs : List Act). (done_all zs p).queue) (polls_end_last a now)
          ∙ ap (λ (z : Parts). z.queue) (done_append front last p)
          ∙ ending_leaves closes (done_all front p) in
          ap (λ (q : Outbound). q.in_flight) queue ∙ left.nothing_in_flight

      covers_closing : closes ≡ true → IsCovered a b out out2
      covers_closing e =
          covers_none (length out.sender.plan.places) (length out2.sender.plan.places) (more_in_flight a b) x.grew
          (none_left (length b.sender.queue.in_flight) (length a.sender.queue.in_flight)
          (ap length (nothing_flies e)))

      -- any other one leaves the side open
      stays : closes ≡ false → KeepsTheStage a b
      stays e = subst (KeepsTheStage a) is ((polls_keep_the_stage a now).same e)

      covers_open : closes ≡ false → Stands x.loose2 x.own2 x.peer2 b out2 x.coming2 → IsCovered a b out out2
      covers_open e (inl t) =
          let f = s.between.outgoing in
          let g = t.between.outgoing in
          let m = out.sender in
          let n = out2.sender in
          covers_flight m.reach n.reach (length a.sender.queue.in_flight) (length b.sender.queue.in_flight)
          (length m.plan.places) (length n.plan.places)
          (flight_length f.named m.plan m.acknowledged m.gone m.reach a.sender.queue.in_flight f.flight)
          (flight_length g.named n.plan n.acknowledged n.gone n.reach b.sender.queue.in_flight g.flight)
          x.reach_on x.grew
      covers_open e (inr (inl t)) = absurd (true≢false (sym t.lost ∙ (stays e).lost ∙ s.present))
      covers_open e (inr (inr t)) = absurd (true≢false (sym t.failed ∙ (stays e).failed ∙ working))

    -- a closed side sends nothing
    covers_closed : StandsClosed x.own a x.coming → IsCovered a b out out2
    covers_closed s =
        let nothing = closed_sides_exchange_nothing a s.closed in
        let plainly = polls_outside_an_exchange_give_what_waits a now s.no_reset nothing.0 nothing.1 in
        let left : b ≡ without_control a = sym is ∙ ap (λ (z : Shown × List (List ℕ)). z.0) plainly in
        covers_none (length out.sender.plan.places) (length out2.sender.plan.places) (more_in_flight a b) x.grew
        (same_left (length b.sender.queue.in_flight) (length a.sender.queue.in_flight)
        (ap (λ (z : Shown). length z.sender.queue.in_flight) left))

    polled_covers : Stands x.loose x.own x.peer a out x.coming → IsCovered a b out out2
    polled_covers (inl s) =
        ⊎_elim (covers_closing s) (λ (e : closes ≡ false). covers_open s e x.after) (cases_Bool closes)
    polled_covers (inr (inl s)) = covers_closed s
    polled_covers (inr (inr s)) = absurd (true≢false (sym s.failed ∙ working))

  -- Their replies

  abbrev IsCoveredIfOpen : Type 0
  IsCoveredIfOpen =
      length out.sender.plan.places + (if not b.failed then more_in_flight a b else 0)
      ≤ length out2.sender.plan.places

  failed_covers : b.failed ≡ true → IsCoveredIfOpen
  failed_covers e =
      where_failed b.failed e (length out.sender.plan.places) (length out2.sender.plan.places) (more_in_flight a b)
      x.grew

  any_covers : IsCovered a b out out2 → IsCoveredIfOpen
  any_covers l =
      where_any b.failed (length out.sender.plan.places) (length out2.sender.plan.places) (more_in_flight a b) l

  gives_cover : (packets more : List (List ℕ)) (now : ℕ) (r : Reply) → GivesOut a packets now r b more
      → IsCoveredIfOpen
  gives_cover packets more now replies.NothingSent (working, is, polls, e) =
      any_covers
      (polled_covers now [] working (ap (λ (z : Shown × List (List ℕ)). z.0) is) polls x.before)
  gives_cover packets more now (replies.Sent first count) (working, some, first_is, count_is, is, polls, e) =
      any_covers (polled_covers now (polled a now).1 working is polls x.before)
  gives_cover packets more now (replies.Refused n) (inl (had, e)) =
      failed_covers (ap (λ (z : Shown). z.failed) had.2 ∙ had.0)
  gives_cover packets more now (replies.Refused n) (inr (inl (gives, fails, e))) = failed_covers fails.2.marked
  gives_cover packets more now (replies.Refused n) (inr (inr (working, number, is, polls, kept))) =
      any_covers (polled_covers now (polled a now).1 working is polls x.before)
  gives_cover packets more now r h = absurd h

-- Any step

module _ (r : Reply) (step : Step) (w v : World) (h : IsWorldStep step w r v) (s : StandsIn w.ends w)
    (t : StandsIn v.ends v)
  where
    side_a : SideInStep w.ends.a v.ends.a w.ab v.ab
    side_a = record {
      loose = w.loose_a;
      own = w.initial_a;
      peer = w.initial_b;
      coming = w.ba;
      before = s.side_a;
      ends = s.ends_a;
      loose2 = v.loose_a;
      own2 = v.initial_a;
      peer2 = v.initial_b;
      coming2 = v.ba;
      after = t.side_a;
      grew = (plan_grew h.ab_step.events w.ab v.ab h.ab_step.happened).assigned;
      reach_on = h.ab_step.reach_on;
    }

    side_b : SideInStep w.ends.b v.ends.b w.ba v.ba
    side_b = record {
      loose = w.loose_b;
      own = w.initial_b;
      peer = w.initial_a;
      coming = w.ab;
      before = s.side_b;
      ends = s.ends_b;
      loose2 = v.loose_b;
      own2 = v.initial_b;
      peer2 = v.initial_a;
      coming2 = v.ab;
      after = t.side_b;
      grew = (plan_grew h.ba_step.events w.ba v.ba h.ba_step.happened).assigned;
      reach_on = h.ba_step.reach_on;
    }

    covers_a : (k : Step) → Steps k w.ends r v.ends → length w.ab.sender.plan.places
        + (if polls_side sides.A k && not v.ends.a.failed then more_in_flight w.ends.a v.ends.a else 0)
        ≤ length v.ab.sender.plan.places
    covers_a (steps.PollTransmit sides.A now) is =
        gives_cover w.ends.a v.ends.a w.ab v.ab side_a w.ends.packets_a v.ends.packets_a now r is.0
    covers_a k is = no_more (length w.ab.sender.plan.places) (length v.ab.sender.plan.places) side_a.grew

    covers_b : (k : Step) → Steps k w.ends r v.ends → length w.ba.sender.plan.places
        + (if polls_side sides.B k && not v.ends.b.failed then more_in_flight w.ends.b v.ends.b else 0)
        ≤ length v.ba.sender.plan.places
    covers_b (steps.PollTransmit sides.B now) is =
        gives_cover w.ends.b v.ends.b w.ba v.ba side_b w.ends.packets_b v.ends.packets_b now r is.0
    covers_b k is = no_more (length w.ba.sender.plan.places) (length v.ba.sender.plan.places) side_b.grew

-- Counts

-- With so many polls of A and of B, no more requests were sent, and no more offsets than the world assigned.
pub record AreCounted (polls_a polls_b : ℕ) (w : World) (c : Courses) : Type 0 where
  pub asked_ab : length c.ab.asked ≤ polls_a
  pub asked_ba : length c.ba.asked ≤ polls_b
  pub assigned_ab : c.ab.assigned ≤ length w.ab.sender.plan.places
  pub assigned_ba : c.ba.assigned ≤ length w.ba.sender.plan.places

none_at_all : (n m : ℕ) → n ≡ 0 → n ≤ m
none_at_all n m e = omega arith

pub nothing_counted : (w : World) → AreCounted 0 0 w fresh_courses
nothing_counted w = record {
  asked_ab = none_at_all (length fresh_courses.ab.asked) 0 refl;
  asked_ba = none_at_all (length fresh_courses.ba.asked) 0 refl;
  assigned_ab = none_at_all fresh_courses.ab.assigned (length w.ab.sender.plan.places) refl;
  assigned_ba = none_at_all fresh_courses.ba.assigned (length w.ba.sender.plan.places) refl;
}

assigned_on : (before after more places places2 : ℕ) → before ≤ places → after ≤ before + more
    → places + more ≤ places2 → after ≤ places2
assigned_on before after more places places2 l j k = omega arith

at_most_once : (polls idle : Bool) → (if polls && idle then 1 else 0) ≤ (if polls then 1 else 0)
at_most_once true true = omega arith
at_most_once true false = omega arith
at_most_once false idle = omega arith

at_most_more : (before after n k m : ℕ) → before ≤ n → after ≤ before + k → k ≤ m → after ≤ n + m
at_most_more before after n k m l j i = omega arith

asked_on : (polls idle : Bool) (before after n : ℕ) → before ≤ n
    → after ≤ before + (if polls && idle then 1 else 0) → after ≤ n + (if polls then 1 else 0)
asked_on polls idle before after n l j =
    at_most_more before after n (if polls && idle then 1 else 0) (if polls then 1 else 0) l j
    (at_most_once polls idle)

-- the step asks this side for packets: once, or not at all
abbrev pub polls_once : Side2 → Step → ℕ
polls_once x step = if polls_side x step then 1 else 0

pub counted_on : (own_a own_b id : ℕ) (step : Step) (r : Reply) (w v : World) (c : Courses)
    → IsWorldStep step w r v → StandsIn w.ends w → StandsIn v.ends v
    → (l : LeadsBoth own_a own_b id step w.ends r v.ends c) → (polls_a polls_b : ℕ) → AreCounted polls_a polls_b w c
    → AreCounted (polls_a + polls_once sides.A step) (polls_b + polls_once sides.B step) v l.after
counted_on own_a own_b id step r w v c h s t l polls_a polls_b n = record {
  asked_ab =
      asked_on (polls_side sides.A step) (not (is_some w.ends.a.resets.own.active)) (length c.ab.asked)
      (length l.after.ab.asked) polls_a n.asked_ab l.ab_grows.asks;
  asked_ba =
      asked_on (polls_side sides.B step) (not (is_some w.ends.b.resets.own.active)) (length c.ba.asked)
      (length l.after.ba.asked) polls_b n.asked_ba l.ba_grows.asks;
  assigned_ab =
      assigned_on c.ab.assigned l.after.ab.assigned _ (length w.ab.sender.plan.places)
      (length v.ab.sender.plan.places) n.assigned_ab l.ab_grows.assigns (covers_a r step w v h s t step h.ends_step);
  assigned_ba =
      assigned_on c.ba.assigned l.after.ba.assigned _ (length w.ba.sender.plan.places)
      (length v.ba.sender.plan.places) n.assigned_ba l.ba_grows.assigns (covers_b r step w v h s t step h.ends_step);
}

-- Both are few where few steps poll, these and those that follow, and the world is within its limits.

few_asked : (asked done now rest : ℕ) → asked ≤ done + now → done + (now + rest) < 2 ^ 31 → asked < 2 ^ 31
few_asked asked done now rest l few = omega arith

few_assigned : (assigned places : ℕ) → assigned ≤ places → places < 2 ^ 31 → assigned < 2 ^ 31
few_assigned assigned places l few = omega arith

pub few_sent : (polls_a now_a rest_a polls_b now_b rest_b : ℕ) (v : World) (c : Courses)
    → AreCounted (polls_a + now_a) (polls_b + now_b) v c → polls_a + (now_a + rest_a) < 2 ^ 31
    → polls_b + (now_b + rest_b) < 2 ^ 31 → IsWithinLimits v → AreFew c
few_sent polls_a now_a rest_a polls_b now_b rest_b v c n few_a few_b within = (
  record {
    requests = few_asked (length c.ab.asked) polls_a now_a rest_a n.asked_ab few_a;
    offsets = few_assigned c.ab.assigned (length v.ab.sender.plan.places) n.assigned_ab within.0.offsets;
  },
  record {
    requests = few_asked (length c.ba.asked) polls_b now_b rest_b n.asked_ba few_b;
    offsets = few_assigned c.ba.assigned (length v.ba.sender.plan.places) n.assigned_ba within.1.offsets;
  },
)

pub few_rest : (done now rest : ℕ) → done + (now + rest) < 2 ^ 31 → (done + now) + rest < 2 ^ 31
few_rest done now rest few = omega arith

pub few_first : (polls : ℕ) → polls < 2 ^ 31 → 0 + polls < 2 ^ 31
few_first polls few = omega arith
