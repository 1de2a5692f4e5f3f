-- Deeds of a port of a pair are deeds at the pair.
use Rattle.std.proofs.Common.{◌≡◌, sym, ap, ◌∙◌, subst, ℕ, List, [], ◌∷◌}
use Rattle.sctp_wire_types.specs.declared.ids.PayloadProtocolIdentifier.{PayloadProtocolIdentifier}
use Rattle.sctp_assoc.specs.declared.call.Reply.{Reply}
use Rattle.sctp_steps.specs.declared.step.Side2.{Side2}
use Rattle.sctp_steps.specs.declared.step.Step.TheVariants as steps
use Rattle.sctp_steps.specs.Ends.{Ends}
use Rattle.sctp_steps.specs.Steps.{Steps}
use Rattle.sctp_pair.specs.Fits.{Fits, LeadsSafely}
use Rattle.sctp_pair.specs.World.{World}
use Rattle.dcep_channel.specs.Deeds.{Deed, DoesAll}
use Rattle.channel_pair.specs.declared.port.PairPort.{PairPort}
use Rattle.channel_pair.specs.PairDeeds.{DoesAsPairPort, DoesAtPair, StepsOn, id_of, lender, pair_of, side_of}

pub deeds_at_pair : (ds : List Deed) (s t : PairPort) → DoesAll DoesAsPairPort ds s t
    → (lender t ≡ lender s) × (side_of t ≡ side_of s) × (id_of t ≡ id_of s)
    × DoesAll (DoesAtPair (side_of s) (id_of s)) ds (pair_of s) (pair_of t)
deeds_at_pair [] s t h = (ap lender h, ap side_of h, ap id_of h, ap pair_of h)
deeds_at_pair (d ∷ ds) s t (u, h, k) =
    let n = deeds_at_pair ds u t k in (
      n.0 ∙ h.0,
      n.1 ∙ h.1,
      n.2 ∙ h.2,
      (
        pair_of u,
        h.3,
        subst (λ (x : Side2). DoesAll (DoesAtPair x (id_of s)) ds (pair_of u) (pair_of t)) h.1
            (subst (λ (id : ℕ). DoesAll (DoesAtPair (side_of u) id) ds (pair_of u) (pair_of t)) h.2 n.3),
      ),
    )

-- The port was one of this side and stream of the pair p, and the pair is q behind it.
pub done_until : (x : Side2) (id : ℕ) (p q : Ends) (ds : List Deed) (s t : PairPort) → pair_of s ≡ p → side_of s ≡ x
    → id_of s ≡ id → q ≡ pair_of t → DoesAll DoesAsPairPort ds s t → DoesAll (DoesAtPair x id) ds p q
done_until x id p q ds s t same of_side of_stream end h =
    subst (λ (z : Ends). DoesAll (DoesAtPair x id) ds p z) (sym end)
    (subst (λ (z : Ends). DoesAll (DoesAtPair x id) ds z (pair_of t)) same
    (subst (λ (i : ℕ). DoesAll (DoesAtPair x i) ds (pair_of s) (pair_of t)) of_stream
    (subst (λ (y : Side2). DoesAll (DoesAtPair y (id_of s)) ds (pair_of s) (pair_of t)) of_side
    (deeds_at_pair ds s t h).3)))

-- a write of a copy of bytes is a write of the bytes
pub wrote_copy : (x : Side2) (id : ℕ) (kind : PayloadProtocolIdentifier) (copy bytes : List ℕ) (r : Reply) (p q : Ends)
    → copy ≡ bytes → Steps (steps.WriteWithPpi x id copy kind) p r q
    → ((w : World) → Fits p w → LeadsSafely (steps.WriteWithPpi x id copy kind) r w q)
    → StepsOn (steps.WriteWithPpi x id bytes kind) r p q
wrote_copy x id kind copy bytes r p q same exact headline =
    subst (λ (bs : List ℕ). StepsOn (steps.WriteWithPpi x id bs kind) r p q) same (exact, headline)
