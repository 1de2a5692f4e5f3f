-- What a port of a pair does: each deed is one step of the pair, with its reply and what the pair promises of it.
use Rattle.std.specs.Prelude.{◌≡◌, ◌⊎◌, ℕ, false, List, Err}
use Rattle.std.specs.Borrow.{GName}
use Rattle.sctp_wire_types.specs.Errors.{refusal_number}
use Rattle.sctp_wire_types.specs.declared.error.Error.TheVariants as errors
use Rattle.sctp_wire_types.specs.declared.ids.PayloadProtocolIdentifier.TheVariants as kinds
use Rattle.sctp_wire_types.specs.declared.reliability.ReliabilityType.TheVariants as reliabilities
use Rattle.sctp_assoc.specs.declared.call.Reply.{Reply}
use Rattle.sctp_steps.specs.declared.step.Side2.{Side2}
use Rattle.sctp_steps.specs.declared.step.Step.{Step}
use Rattle.sctp_steps.specs.declared.step.Step.TheVariants as steps
use Rattle.sctp_steps.specs.Ends.{Ends}
use Rattle.sctp_steps.specs.Steps.{Steps}
use Rattle.sctp_pair.specs.World.{World}
use Rattle.sctp_pair.specs.Fits.{Fits, LeadsSafely}
use Rattle.dcep_channel.specs.AssocDeeds.{reply_of}
use Rattle.dcep_channel.specs.Deeds.{Deed, DoesAll}
use Rattle.channel_pair.specs.declared.port.PairPort.{PairPort}

-- the pair behind a port, as it stands
abbrev pub pair_of : PairPort → Ends
pair_of p = p.pair.now

-- the loan by which a port borrows it
abbrev pub lender : PairPort → GName
lender p = p.pair.ghost_name

-- the side and the stream that it is a port of

abbrev pub side_of : PairPort → Side2
side_of p = p.side

abbrev pub id_of : PairPort → ℕ
id_of p = p.id

-- the step of a pair that a deed at side x on a stream is
abbrev pub step_of : Side2 → ℕ → Deed → Step
step_of x id (Deed.Opened fault) = steps.OpenStream x id kinds.Binary
step_of x id (Deed.Kept fault) = steps.SetReliabilityParams x id false reliabilities.Reliable 0
step_of x id (Deed.Wrote kind bytes answer) = steps.WriteWithPpi x id bytes kind
step_of x id (Deed.Read answer) = steps.Read x id

-- A step of a pair with its reply: it does and replies that, and leads safely from each world that the pair fits.
abbrev pub StepsOn : Step → Reply → Ends → Ends → Type 0
StepsOn step reply p q = Steps step p reply q × ((w : World) → Fits p w → LeadsSafely step reply w q)

-- the bytes of a write found no memory before there was a step
abbrev pub LacksCopy : Deed → Type 0
LacksCopy (Deed.Wrote kind bytes (Err n)) = n ≡ refusal_number errors.ErrNoMemory
LacksCopy deed = ⊥

-- what a deed at side x on a stream does to a pair
abbrev pub DoesAtPair : Side2 → ℕ → Ends → Deed → Ends → Type 0
DoesAtPair x id p deed q = StepsOn (step_of x id deed) (reply_of deed) p q ⊎ (LacksCopy deed × (q ≡ p))

-- what a deed does to a port of a pair: it borrows the same pair, of which that is true
abbrev pub DoesAsPairPort : PairPort → Deed → PairPort → Type 0
DoesAsPairPort s deed t =
    (lender t ≡ lender s) × (side_of t ≡ side_of s) × (id_of t ≡ id_of s)
    × DoesAtPair (side_of s) (id_of s) (pair_of s) deed (pair_of t)

-- some deeds at side x on a stream, one after another, lead from p to q, and this holds of them
abbrev pub DoesSome : Side2 → ℕ → Ends → Ends → (List Deed → Type 0) → Type 0
DoesSome x id p q Holds = (ds : List Deed) × DoesAll (DoesAtPair x id) ds p q × Holds ds
