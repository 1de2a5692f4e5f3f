-- Where each side accepted few pieces, each world that the steps of a new pair with a channel lead to is within the
-- limits, and so what was received after each of them is a front of what was sent.
use Rattle.std.proofs.Common.{◌≡◌, refl, sym, ap, ◌∙◌, subst, ℕ, zero, suc, ◌+◌, ◌<◌, ◌≤◌, arith, List, [], ◌∷◌, ◌++◌}
use Rattle.std.proofs.Common.{inl, length, take, Option, Some, None}
use Rattle.std.specs.Prelude.{false, IfOk, OnErr, Result, Ok, Err}
use Rattle.std.proofs.lemmas.List.{append-nil, append_assoc}
use Rattle.sctp_wire_types.specs.declared.error.Error.{Error}
use Rattle.sctp_wire_types.specs.declared.error.Error.TheVariants as errors
use Rattle.sctp_model.specs.Machine.{Direction}
use Rattle.sctp_fit.specs.FewPieces.{HasAccepted}
use Rattle.sctp_fit.proofs.PlacesCounted.{few_pieces_stay_within}
use Rattle.sctp_directions.proofs.Proved.{nothing_is_accepted_at_first}
use Rattle.sctp_assoc.specs.declared.call.Reply.{Reply}
use Rattle.sctp_steps.specs.declared.step.Side2.{Side2}
use Rattle.sctp_steps.specs.declared.step.Side2.TheVariants as sides
use Rattle.sctp_steps.specs.declared.step.Step.{Step}
use Rattle.sctp_steps.specs.Ends.{Ends, JoinRefuses}
use Rattle.sctp_steps.specs.Seen.{other_side}
use Rattle.sctp_pair.specs.Callers.{IsFrontOf}
use Rattle.sctp_pair.specs.Counted.{pieces_of}
use Rattle.sctp_pair.specs.Fits.{Fits, StandsIn}
use Rattle.sctp_pair.specs.World.{IsWithinLimits, IsWorldStep, World, empty_world}
use Rattle.sctp_pair.proofs.Counted.{pieces_counted}
use Rattle.channel_pair.specs.declared.seat.Seat.TheVariants as seats
use Rattle.channel_pair.specs.declared.step.ChannelStep.{ChannelStep}
use Rattle.channel_pair.specs.declared.step.ChannelReply.{ChannelReply}
use Rattle.channel_pair.specs.ChannelWorld.{ChannelWorld, FitsChannel, begun}
use Rattle.channel_pair.specs.Promise.{AreFronts, LeadThen, RunsChannel, got_by, grown, sent_by}
use Rattle.channel_pair.specs.Shapes.{Shape}
use Rattle.channel_pair.specs.Steps.{RunsAll}
use Rattle.channel_callers.specs.Telling.{HoldFromNew, LeadsFrom, most_accepted, most_pieces, received_in, sent_in}
use Rattle.channel_callers.proofs.PiecesDone.{done_bound, pieces_done}

-- Both sides have this payload size in the world, and accepted at most so many pieces.
record IsCounted (size a b : ℕ) (w : World) : Type 0 where
  size_a : w.ab.sender.plan.size ≡ size
  size_b : w.ba.sender.plan.size ≡ size
  of_a : HasAccepted a w.ab
  of_b : HasAccepted b w.ba

more_accepted : {n m : ℕ} {w : Direction} → n ≤ m → HasAccepted n w → HasAccepted m w
more_accepted {n} {m} most h = record {
  streams = h.streams;
  once = h.once;
  others = h.others;
  total = (let total = h.total in omega (arith, total, most));
}

more_counted : {size a b m n : ℕ} {w : World} → a ≤ m → b ≤ n → IsCounted size a b w → IsCounted size m n w
more_counted most_a most_b c = record {
  size_a = c.size_a;
  size_b = c.size_b;
  of_a = more_accepted most_a c.of_a;
  of_b = more_accepted most_b c.of_b;
}

-- a step of the pair
counted_on : {size a b : ℕ} {w v : World} (step : Step) (r : Reply) → IsWorldStep step w r v → IsCounted size a b w
    → IsCounted size (a + pieces_of size sides.A step r) (b + pieces_of size sides.B step r) v
counted_on {size} {a} {b} {w} {v} step r h c = record {
  size_a = h.ab_step.size ∙ c.size_a;
  size_b = h.ba_step.size ∙ c.size_b;
  of_a =
      subst (λ (z : ℕ). HasAccepted (a + pieces_of z sides.A step r) v.ab) c.size_a (pieces_counted h.ab_step c.of_a);
  of_b =
      subst (λ (z : ℕ). HasAccepted (b + pieces_of z sides.B step r) v.ba) c.size_b (pieces_counted h.ba_step c.of_b);
}

-- a world in which few pieces were accepted is within the limits
within_limits : {size a b : ℕ} {p : Ends} {v : World} → StandsIn p v → IsCounted size a b v → a < 16384 → b < 16384
    → IsWithinLimits v
within_limits {size} {a} {b} {p} {v} stands c few_a few_b = (
  few_pieces_stay_within a v.ab few_a c.of_a stands.sound_ab.invariant,
  few_pieces_stay_within b v.ba few_b c.of_b stands.sound_ba.invariant,
)

-- Where few pieces are accepted, the last world is reached.
reached : (size : ℕ) (done : List (Step × Reply)) (w : World) (Then : World → Type 0) (a b m n : ℕ)
    → LeadThen done w Then → IsCounted size a b w → a + pieces_done size sides.A done ≤ m
    → b + pieces_done size sides.B done ≤ n → m < 16384 → n < 16384 → (v : World) × Then v × IsCounted size m n v
reached size [] w Then a b m n h c most_a most_b few_a few_b =
    (w, h, more_counted (omega (arith, most_a)) (omega (arith, most_b)) c)
reached size (d ∷ done) w Then a b m n (v, step, stands, next) c most_a most_b few_a few_b =
    let on = counted_on d.0 d.1 step c in
    let then = next (within_limits stands on (omega (arith, most_a, few_a)) (omega (arith, most_b, few_b))) in
    reached size done v Then (a + pieces_of size sides.A d.0 d.1) (b + pieces_of size sides.B d.0 d.1) m n then.1 on
    (omega (arith, most_a)) (omega (arith, most_b)) few_a few_b

-- Fronts grow

nothing_more : (xs ys : List (List ℕ)) → IsFrontOf xs ys → IsFrontOf (xs ++ []) (ys ++ [])
nothing_more xs ys h =
    subst (λ (z : List (List ℕ)). IsFrontOf z (ys ++ [])) (sym (append-nil xs))
    (subst (λ (z : List (List ℕ)). IsFrontOf xs z) (sym (append-nil ys)) h)

regrouped : (xs one more ys other others : List (List ℕ)) → IsFrontOf ((xs ++ one) ++ more) ((ys ++ other) ++ others)
    → IsFrontOf (xs ++ (one ++ more)) (ys ++ (other ++ others))
regrouped xs one more ys other others h =
    subst (λ (z : List (List ℕ)). IsFrontOf z (ys ++ (other ++ others))) (append_assoc xs one more)
    (subst (λ (z : List (List ℕ)). IsFrontOf ((xs ++ one) ++ more) z) (append_assoc ys other others) h)

-- After the first k steps from a world of the channel what was received, in it and since, are fronts of what was sent.
module _ (size id : ℕ) (q : Shape) where
  fronts_after : (k : ℕ) (ss : List ChannelStep) (rs : List ChannelReply) (c : ChannelWorld) (a b : ℕ)
      → RunsChannel id ss rs c q → AreFronts c → IsCounted size a b c.world
      → a + most_accepted size sides.A (take k ss) (take k rs) < 16384
      → b + most_accepted size sides.B (take k ss) (take k rs) < 16384 → (x : Side2)
      → IsFrontOf (c.got x ++ received_in (take k ss) (take k rs) x)
      (c.sent (other_side x) ++ sent_in (take k ss) (take k rs) (other_side x))
  fronts_after zero ss rs c a b led fronts counted few_a few_b x =
      nothing_more (c.got x) (c.sent (other_side x)) (fronts x)
  fronts_after (suc k) [] [] c a b led fronts counted few_a few_b x =
      nothing_more (c.got x) (c.sent (other_side x)) (fronts x)
  fronts_after (suc k) (s ∷ ss) (r ∷ rs) c a b (done, are, lead) fronts counted few_a few_b x =
      let m = a + most_pieces size sides.A s r in
      let n = b + most_pieces size sides.B s r in
      let bound_a = done_bound size id sides.A s r done are in
      let bound_b = done_bound size id sides.B s r done are in
      let there =
      reached size done c.world (λ v. AreFronts (grown s r c v) × RunsChannel id ss rs (grown s r c v) q) a b m n lead
      counted (omega (arith, bound_a)) (omega (arith, bound_b)) (omega (arith, few_a)) (omega (arith, few_b)) in
      regrouped (c.got x) (got_by s r x) (received_in (take k ss) (take k rs) x) (c.sent (other_side x))
      (sent_by s r (other_side x)) (sent_in (take k ss) (take k rs) (other_side x))
      (fronts_after k ss rs (grown s r c there.0) m n there.1.1 there.1.0 there.2 (omega (arith, few_a))
      (omega (arith, few_b)) x)
  fronts_after (suc k) [] (r ∷ rs) c a b led fronts counted few_a few_b x = absurd led
  fronts_after (suc k) (s ∷ ss) [] c a b led fronts counted few_a few_b x = absurd led

as_many_replies : (ss : List ChannelStep) (rs : List ChannelReply) (p q : Shape) → RunsAll ss rs p q
    → length rs ≡ length ss
as_many_replies [] [] p q h = refl
as_many_replies (s ∷ ss) (r ∷ rs) p q (u, first, rest) =
    ap (λ (n : ℕ). suc n) (as_many_replies ss rs u q rest)
as_many_replies [] (r ∷ rs) p q h = absurd h
as_many_replies (s ∷ ss) [] p q h = absurd h

-- A new pair with a channel, and a run of it by its clauses.
module _ (ss : List ChannelStep) (rs : List ChannelReply) (p q : Shape) (led : RunsAll ss rs p q) where
  pub hold_from_new : (pair : Ends)
      → ((initial_a initial_b size_a size_b : ℕ) → Fits pair (empty_world pair initial_a initial_b size_a size_b)
      → FitsChannel p (begun (empty_world pair initial_a initial_b size_a size_b)))
      → ((c : ChannelWorld) → FitsChannel p c → RunsChannel p.id ss rs c q) → (initial_a initial_b size : ℕ)
      → Fits pair (empty_world pair initial_a initial_b size size) → HoldFromNew size ss rs
  hold_from_new pair new leads initial_a initial_b size fits =
      let begin = begun (empty_world pair initial_a initial_b size size) in
      let none : IsCounted size 0 0 begin.world =
      record {
        size_a = refl;
        size_b = refl;
        of_a = nothing_is_accepted_at_first size;
        of_b = nothing_is_accepted_at_first size;
      } in
      record {
        each = as_many_replies ss rs p q led;
        fronts = λ k few x.
            let few_a = few.of_a in
            let few_b = few.of_b in
            fronts_after size p.id q k ss rs begin 0 0 (leads begin (new initial_a initial_b size size fits))
            (λ y. ([], refl)) none (omega (arith, few_a)) (omega (arith, few_b)) x;
      }

  pub leads_from : (id : ℕ) (pair : Ends) → p ≡ record {
    pair = pair;
    id = id;
    a = seats.Vacant false;
    b = seats.Vacant false;
  } → LeadsFrom id ss rs pair
  leads_from id pair made = (q, subst (λ (z : Shape). RunsAll ss rs z q) made led)

-- what holds of a value that was answered by two things that do
pub if_both_ok : {A E : Type 0} {P Q R : A → Type 0} (r : Result A E) → IfOk r P → IfOk r Q
    → ((a : A) → P a → Q a → R a) → IfOk r R
if_both_ok (Ok a) first second f = f a first second
if_both_ok (Err e) first second f = first

-- of a pair that was made, want of memory is the only refusal
pub refused_after : {S : Type 0} (r : Result S Error) (first second : Option Error) → first ≡ None → second ≡ None
    → OnErr r (r ≡ Err errors.ErrNoMemory) → JoinRefuses r first second
refused_after (Ok a) first second e f h = (e, f)
refused_after (Err x) None second e f h = inl cc
refused_after (Err x) (Some y) second e f h = absurd cc
