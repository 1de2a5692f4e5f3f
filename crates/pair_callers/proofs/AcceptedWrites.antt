-- What is answered as written was accepted, and a write that is refused accepts nothing.
use Rattle.std.proofs.Common.{◌≡◌, refl, sym, ap, ◌∙◌, ℕ, Bool, true, false, eqb, ◌&&◌, if◌then◌else◌, List, []}
use Rattle.std.proofs.Common.{◌++◌, length, Option, None, is_some}
use Rattle.std.specs.Prelude.{IfSome}
use Rattle.std.proofs.lemmas.Bool.{eq-eqb, ne_eqb, true≢false}
use Rattle.std.proofs.lemmas.List.{append-nil}
use Rattle.sctp_streams.specs.Stream.{StreamView}
use Rattle.sctp_streams.specs.Streams.{stream_at}
use Rattle.sctp_model.specs.Messages.{Message}
use Rattle.sctp_assoc.specs.Calls.{stream_refusal, write_refusal}
use Rattle.sctp_sides.specs.SideLaws.{IsLive}
use Rattle.sctp_assoc.specs.Shown.{Shown}
use Rattle.sctp_sides.proofs.Proved.{found_streams_are_live}
use Rattle.sctp_directions.specs.Acts.{type_on}
use Rattle.sctp_fit.specs.Writes.{message_on}
use Rattle.sctp_assoc.specs.declared.call.Reply.{Reply}
use Rattle.sctp_assoc.specs.declared.call.Reply.TheVariants as replies
use Rattle.sctp_steps.specs.declared.step.Side2.{Side2}
use Rattle.sctp_steps.specs.declared.step.Step.TheVariants as steps
use Rattle.sctp_steps.specs.Ends.{Ends, end_of}
use Rattle.sctp_assoc.specs.Replies.{Writes}
use Rattle.sctp_steps.specs.Steps.{Steps}
use Rattle.sctp_steps.specs.Seen.{is_side}
use Rattle.sctp_pair.specs.World.{IsWorldStep, World, accepted_at}
use Rattle.sctp_pair.specs.World.{messages_on}
use Rattle.sctp_pair.proofs.ReadCall.{found_none}
use Rattle.pair_callers.specs.BetweenWorlds.{GoesOn, from_side}
use Rattle.pair_callers.specs.Writing.{AcceptsNone, AcceptsOne, count_in}
use Rattle.pair_callers.proofs.StepsByDirection.{Leads, at_its_side, goes_on, is_own, step_from}

-- A stream on which a write was answered is live.
pub written_is_live : (side : Side2) (id n : ℕ) (bytes : List ℕ) (w v : World)
    → IsWorldStep (steps.Write side id bytes) w (replies.Wrote n) v
    → IsLive (end_of side w.ends) id
written_is_live side id n bytes w v h =
    let done =
    at_its_side side w.ends (λ (x y : Shown). Writes x id None bytes (replies.Wrote n) y) v.ends h.ends_step in
    found_streams_are_live (end_of side w.ends) id
    (found_none (stream_refusal (end_of side w.ends) id) (write_refusal (end_of side w.ends) id (length bytes))
    done.0)

accepts_one : {w v : World} (side : Side2) (id n : ℕ) (bytes : List ℕ)
    → IsWorldStep (steps.Write side id bytes) w (replies.Wrote n) v
    → AcceptsOne id bytes (from_side side w) (from_side side v)
accepts_one {w} {v} side id n bytes h =
    let d = step_from side (steps.Write side id bytes) (replies.Wrote n) w v h in
    let a : Shown = end_of side w.ends in
    let live = written_is_live side id n bytes w v h in
    let here : (is_side side side && eqb id id) ≡ true = rw (is_own side, eq-eqb id id refl) refl in
    record {
      message = message_on live.stream (type_on live.stream None) bytes;
      same_bytes = refl;
      last = d.accepted id
          ∙ ap (λ (c : Bool). (from_side side w).sender.plan.accepted id ++
          (if c then messages_on (stream_at a.streams id) None bytes else [])) here
          ∙ ap (λ (o : Option StreamView). (from_side side w).sender.plan.accepted id ++ messages_on o None bytes)
          live.there;
      others = λ s ne.
          let there : (is_side side side && eqb id s) ≡ false = rw (
            is_own side,
            ne_eqb id s
                (λ (q : id ≡ s). ne (sym q)),
          ) refl in
          d.accepted s
          ∙ ap (λ (c : Bool). (from_side side w).sender.plan.accepted s ++
          (if c then messages_on (stream_at a.streams id) None bytes else [])) there
          ∙ append-nil ((from_side side w).sender.plan.accepted s);
    }

pub accepts_on : (side : Side2) (id : ℕ) (bytes : List ℕ) (r : Reply) (p q : Ends)
    → Leads (steps.Write side id bytes) r p q
    → IfSome (count_in r) (λ n. GoesOn p q (λ w v. AcceptsOne id bytes (from_side side w) (from_side side v)))
accepts_on side id bytes (replies.Wrote n) p q leads =
    goes_on (steps.Write side id bytes) (replies.Wrote n) p q (λ w v. AcceptsOne id bytes (from_side side w)
    (from_side side v))
    (λ w v before after. accepts_one side id n bytes) leads
accepts_on side id bytes _ p q leads = tt

adds_none : (x side : Side2) (id s : ℕ) (bytes : List ℕ) (r : Reply) (w : World) → count_in r ≡ None
    → accepted_at (steps.Write side id bytes) r x s w ≡ []
adds_none x side id s bytes (replies.Wrote n) w e = absurd (true≢false (ap is_some e))
adds_none x side id s bytes _ w e = refl

pub refused_on : (side : Side2) (id : ℕ) (bytes : List ℕ) (r : Reply) (p q : Ends)
    → Leads (steps.Write side id bytes) r p q
    → count_in r ≡ None → GoesOn p q (λ w v. AcceptsNone (from_side side w) (from_side side v))
refused_on side id bytes r p q leads none =
    goes_on (steps.Write side id bytes) r p q (λ w v. AcceptsNone (from_side side w) (from_side side v))
    (λ w v before after h s. (step_from side (steps.Write side id bytes) r w v h).accepted s
    ∙ ap (λ (ms : List Message). (from_side side w).sender.plan.accepted s ++ ms)
    (adds_none side side id s bytes r w none)
    ∙ append-nil ((from_side side w).sender.plan.accepted s)) leads

pub wrote_all : (side : Side2) (id : ℕ) (bytes : List ℕ) (r : Reply) (p q : Ends)
    → Steps (steps.Write side id bytes) p r q
    → IfSome (count_in r) (λ n. n ≡ length bytes)
wrote_all side id bytes (replies.Wrote n) p q h =
    (at_its_side side p (λ (x y : Shown). Writes x id None bytes (replies.Wrote n) y) q h).1
wrote_all side id bytes _ p q h = tt
