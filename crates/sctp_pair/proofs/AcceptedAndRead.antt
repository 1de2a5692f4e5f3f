-- What a step's call adds and reads at its side.
use Rattle.std.proofs.Common.{◌≡◌, refl, sym, subst, ℕ, List, [], Option, Some, None}
use Rattle.sctp_assoc.specs.declared.call.Reply.{Reply}
use Rattle.sctp_assoc.specs.declared.call.Reply.TheVariants as replies
use Rattle.sctp_steps.specs.declared.step.Side2.{Side2}
use Rattle.sctp_steps.specs.declared.step.Side2.TheVariants as sides
use Rattle.sctp_steps.specs.declared.step.Step.{Step}
use Rattle.sctp_steps.specs.Ends.{end_of}
use Rattle.sctp_wire_types.specs.declared.ids.PayloadProtocolIdentifier.{PayloadProtocolIdentifier}
use Rattle.sctp_steps.specs.Steps.{Writing, reading_of, writing_of}
use Rattle.sctp_steps.specs.Seen.{message_answered, message_read, other_side}
use Rattle.sctp_pair.specs.World.{World, accepted_at, accepted_of}
use Rattle.sctp_pair.proofs.BetweenDirections.{None_brought, nothing_added, nothing_read}
use Rattle.sctp_pair.proofs.CallsAreSteps.{IsCallAt}
use Rattle.sctp_pair.proofs.ReadCall.{read_by}
use Rattle.sctp_pair.proofs.WriteCall.{written_by}

-- A step that neither writes nor reads.
abbrev pub IsQuiet : Step → Reply → World → Type 0
IsQuiet step r w = (x : Side2) (s : ℕ) → ([] ≡ accepted_at step r x s w) × (None ≡ message_read step r x s)

pub quiet_call : (step : Step) (r : Reply) (side : Side2) (w : World) (initial : ℕ) → IsQuiet step r w
    → IsCallAt step r side w initial nothing_added nothing_read None_brought
quiet_call step r side w initial quiet = record {
  adds = λ s. (quiet side s).0;
  reads = λ s. (quiet side s).1;
  brings = λ o n. absurd n;
  passes = λ o n. absurd n;
  adds_alone = λ s. (quiet (other_side side) s).0;
  reads_alone = λ s. (quiet (other_side side) s).1;
  ends = λ s e. absurd e;
}

-- what a step writes, and what it reads
abbrev pub writes : Side2 → ℕ → Option PayloadProtocolIdentifier → List ℕ → Option Writing
writes side id named bytes = Some (record { side = side; id = id; named = named; bytes = bytes })

-- A write adds at its side what its reply says, and nothing at the other side.

wrote_here : (r : Reply) (side : Side2) (id : ℕ) (named : Option PayloadProtocolIdentifier) (bytes : List ℕ) (w : World)
    (s : ℕ)
    → written_by r (end_of side w.ends) id named bytes s ≡ accepted_of (writes side id named bytes) r side s w
wrote_here (replies.Wrote n) sides.A id named bytes w s = refl
wrote_here (replies.Wrote n) sides.B id named bytes w s = refl
wrote_here r side id named bytes w s = refl

wrote_there : (r : Reply) (side : Side2) (id : ℕ) (named : Option PayloadProtocolIdentifier) (bytes : List ℕ)
    (w : World) (s : ℕ) → [] ≡ accepted_of (writes side id named bytes) r (other_side side) s w
wrote_there (replies.Wrote n) sides.A id named bytes w s = refl
wrote_there (replies.Wrote n) sides.B id named bytes w s = refl
wrote_there r side id named bytes w s = refl

none_answered : (r : Reply) (x : Side2) (s : ℕ) → None ≡ message_answered None r x s
none_answered r x s = refl

module _ (step : Step) (side : Side2) (id : ℕ) (named : Option PayloadProtocolIdentifier) (bytes : List ℕ) (r : Reply)
    (w : World) (initial : ℕ) where
  pub write_call : writing_of step ≡ writes side id named bytes → reading_of step ≡ None
      → IsCallAt step r side w initial (written_by r (end_of side w.ends) id named bytes) nothing_read None_brought
  write_call e none = record {
    adds = λ s. subst (λ o. written_by r (end_of side w.ends) id named bytes s ≡ accepted_of o r side s w) (sym e)
        (wrote_here r side id named bytes w s);
    reads = λ s. subst (λ o. None ≡ message_answered o r side s) (sym none) (none_answered r side s);
    brings = λ o b. absurd b;
    passes = λ o b. absurd b;
    adds_alone = λ s. subst (λ o. [] ≡ accepted_of o r (other_side side) s w) (sym e)
        (wrote_there r side id named bytes w s);
    reads_alone =
        λ s. subst (λ o. None ≡ message_answered o r (other_side side) s) (sym none)
        (none_answered r (other_side side) s);
    ends = λ s e. absurd e;
  }

-- A read reads at its side what its reply says, and nothing at the other side.

read_here : (r : Reply) (side : Side2) (id s : ℕ) → read_by r id s ≡ message_answered (Some (side, id)) r side s
read_here (replies.Read m) sides.A id s = refl
read_here (replies.Read m) sides.B id s = refl
read_here r side id s = refl

read_there : (r : Reply) (side : Side2) (id s : ℕ) → None ≡ message_answered (Some (side, id)) r (other_side side) s
read_there (replies.Read m) sides.A id s = refl
read_there (replies.Read m) sides.B id s = refl
read_there r side id s = refl

none_accepted : (r : Reply) (x : Side2) (s : ℕ) (w : World) → [] ≡ accepted_of None r x s w
none_accepted r x s w = refl

pub read_call : (step : Step) (side : Side2) (id : ℕ) (r : Reply) (w : World) (initial : ℕ) → writing_of step ≡ None
    → reading_of step ≡ Some (side, id)
    → IsCallAt step r side w initial nothing_added (read_by r id) None_brought
read_call step side id r w initial none e = record {
  adds = λ s. subst (λ o. [] ≡ accepted_of o r side s w) (sym none) (none_accepted r side s w);
  reads = λ s. subst (λ o. read_by r id s ≡ message_answered o r side s) (sym e) (read_here r side id s);
  brings = λ o b. absurd b;
  passes = λ o b. absurd b;
  adds_alone =
      λ s. subst (λ o. [] ≡ accepted_of o r (other_side side) s w) (sym none) (none_accepted r (other_side side) s w);
  reads_alone = λ s. subst (λ o. None ≡ message_answered o r (other_side side) s) (sym e) (read_there r side id s);
  ends = λ s n. absurd n;
}
