-- What a step of a pair with a channel does and replies: p is what it was, q what it is then.
use Rattle.std.specs.Prelude.{◌≡◌, ℕ, Bool, true, false, List, [], ◌∷◌}
use Rattle.sctp_steps.specs.declared.step.Side2.{Side2}
use Rattle.sctp_steps.specs.declared.step.Side2.TheVariants as sides
use Rattle.sctp_steps.specs.declared.step.Step.{Step}
use Rattle.sctp_steps.specs.Ends.{end_of}
use Rattle.dcep_channel.specs.Deeds.{Deed}
use Rattle.channel_pair.specs.declared.seat.Seat.{Seat}
use Rattle.channel_pair.specs.declared.step.ChannelStep.{ChannelStep}
use Rattle.channel_pair.specs.declared.step.ChannelStep.TheVariants as steps
use Rattle.channel_pair.specs.declared.step.ChannelReply.{ChannelReply}
use Rattle.channel_pair.specs.declared.step.ChannelReply.TheVariants as replies
use Rattle.channel_pair.specs.Names.{names}
use Rattle.channel_pair.specs.PairDeeds.{DoesSome, StepsOn}
use Rattle.channel_pair.specs.Seats.{AcceptsAt, AcknowledgesAt, OpensAt, ReceivesAt, SendsAt}
use Rattle.channel_pair.specs.Shapes.{Shape}

-- one side's seat changes so, by deeds of that side on the stream, and nothing else
abbrev pub AtSeat : Side2 → Shape → (List Deed → Seat → Seat → Type 0) → Shape → Type 0
AtSeat sides.A p Changes q =
    DoesSome sides.A p.id p.pair q.pair (λ ds. Changes ds p.a q.a) × (q ≡ record p { pair = q.pair; a = q.a })
AtSeat sides.B p Changes q =
    DoesSome sides.B p.id p.pair q.pair (λ ds. Changes ds p.b q.b) × (q ≡ record p { pair = q.pair; b = q.b })

-- the association of a side failed
abbrev pub failed_at : Side2 → Shape → Bool
failed_at x p = (end_of x p.pair).failed

-- a step of the pair is carried out, unless it may name the channel's stream
abbrev pub StepsPair : Step → Shape → ChannelReply → Shape → Type 0
StepsPair step p replies.NotHere q = (names step p.id ≡ true) × (q ≡ p)
StepsPair step p (replies.OfPair reply) q =
    (names step p.id ≡ false) × StepsOn step reply p.pair q.pair × (q ≡ record p { pair = q.pair })
StepsPair step p r q = ⊥

abbrev pub StepsChannel : ChannelStep → Shape → ChannelReply → Shape → Type 0
StepsChannel (steps.Open x priority label protocol) p r q =
    AtSeat x p (λ ds a b. OpensAt (failed_at x p) priority label protocol a ds r b) q
StepsChannel (steps.Accept x) p r q = AtSeat x p (λ ds a b. AcceptsAt a ds r b) q
StepsChannel (steps.Acknowledge x) p r q = AtSeat x p (λ ds a b. AcknowledgesAt a ds r b) q
StepsChannel (steps.Send x bytes) p r q = AtSeat x p (λ ds a b. SendsAt bytes a ds r b) q
StepsChannel (steps.Receive x) p r q = AtSeat x p (λ ds a b. ReceivesAt a ds r b) q
StepsChannel (steps.OfPair step) p r q = StepsPair step p r q

-- the steps, with these replies, lead from p to q
abbrev pub RunsAll : List ChannelStep → List ChannelReply → Shape → Shape → Type 0
RunsAll [] [] p q = q ≡ p
RunsAll (s ∷ ss) (r ∷ rs) p q = (u : Shape) × StepsChannel s p r u × RunsAll ss rs u q
RunsAll [] (r ∷ rs) p q = ⊥
RunsAll (s ∷ ss) [] p q = ⊥
