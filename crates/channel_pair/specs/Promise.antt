-- The promise of a channel: what one side received is a front of what the other one sent.
use Rattle.std.specs.Prelude.{◌≡◌, ◌⊎◌, ℕ, if◌then◌else◌, List, [], ◌∷◌, ◌++◌, Some}
use Rattle.std.specs.List.{AllByRecursion}
use Rattle.sctp_receive_queues.specs.Messages.{bytes_left}
use Rattle.sctp_assoc.specs.declared.call.Reply.{Reply}
use Rattle.sctp_steps.specs.declared.step.Side2.{Side2}
use Rattle.sctp_steps.specs.declared.step.Step.{Step}
use Rattle.sctp_steps.specs.Seen.{is_side, other_side}
use Rattle.sctp_pair.specs.Callers.{IsFrontOf, bytes_written}
use Rattle.sctp_pair.specs.Fits.{StandsIn}
use Rattle.sctp_pair.specs.World.{IsSafeWorld, IsWithinLimits, IsWorldStep, World}
use Rattle.dcep_channel.specs.AssocDeeds.{reply_of}
use Rattle.dcep_channel.specs.Codec.{ack_bytes, open_bytes}
use Rattle.dcep_channel.specs.Deeds.{Deed}
use Rattle.channel_pair.specs.declared.step.ChannelStep.{ChannelStep}
use Rattle.channel_pair.specs.declared.step.ChannelStep.TheVariants as steps
use Rattle.channel_pair.specs.declared.step.ChannelReply.{ChannelReply}
use Rattle.channel_pair.specs.declared.step.ChannelReply.TheVariants as replies
use Rattle.channel_pair.specs.ChannelWorld.{ChannelWorld, FitsChannel}
use Rattle.channel_pair.specs.PairDeeds.{step_of}
use Rattle.channel_pair.specs.Shapes.{Shape}

-- the message that a step with this reply sent at side x
abbrev pub sent_by : ChannelStep → ChannelReply → Side2 → List (List ℕ)
sent_by (steps.Send side bytes) (replies.Sent n) x = if is_side side x then bytes ∷ [] else []
sent_by step reply x = []

-- the message that a step with this reply received at side x
abbrev pub got_by : ChannelStep → ChannelReply → Side2 → List (List ℕ)
got_by (steps.Receive side) (replies.Received (Some message)) x =
    if is_side side x then bytes_left message ∷ [] else []
got_by step reply x = []

-- what was sent and received, with what the step adds, in the world that it led to
abbrev pub grown : ChannelStep → ChannelReply → ChannelWorld → World → ChannelWorld
grown step reply c v = record {
  world = v;
  sent = λ x. c.sent x ++ sent_by step reply x;
  got = λ x. c.got x ++ got_by step reply x;
}

-- what each side received is, message by message, a front of what the other one sent
abbrev pub AreFronts : ChannelWorld → Type 0
AreFronts c = (x : Side2) → IsFrontOf (c.got x) (c.sent (other_side x))

-- These steps of a pair, with their replies, lead from world to world, from w on, and the pair stands in each. As long as
-- each so far is within the limits it is safe, and so it goes on, up to the last world, of which this holds.
abbrev pub LeadThen : List (Step × Reply) → World → (World → Type 0) → Type 0
LeadThen [] w Then = Then w
LeadThen (x ∷ xs) w Then =
    (v : World) × IsWorldStep x.0 w x.1 v × StandsIn v.ends v × (IsWithinLimits v → IsSafeWorld v × LeadThen xs v Then)

-- a step of a pair, with its reply, is a call of a port of side x and this stream
abbrev pub IsOfPort : Side2 → ℕ → Step × Reply → Type 0
IsOfPort x id done = (deed : Deed) × (done.0 ≡ step_of x id deed) × (done.1 ≡ reply_of deed)

abbrev pub AreOfPort : Side2 → ℕ → List (Step × Reply) → Type 0
AreOfPort x id done = AllByRecursion (IsOfPort x id) done

-- what steps of a pair, with their replies, wrote at side x on a stream, message by message
abbrev pub wrote_by : Side2 → ℕ → List (Step × Reply) → List (List ℕ)
wrote_by x id [] = []
wrote_by x id (d ∷ done) = bytes_written d.0 d.1 x id ++ wrote_by x id done

-- the message that a call of a channel with this reply may have written: its OPEN, its ACK or the data that it sent
abbrev pub may_write : ChannelStep → ChannelReply → List (List ℕ)
may_write (steps.Open x priority label protocol) replies.Opened = open_bytes priority label protocol ∷ []
may_write (steps.Acknowledge x) replies.Acknowledged = ack_bytes ∷ []
may_write (steps.Send x bytes) (replies.Sent n) = bytes ∷ []
may_write step reply = []

-- The steps of the pair that a call of a channel with this reply does: such of a port at its side, which wrote that
-- message or none. (`acknowledge` writes none where the channel is acknowledged.)
abbrev pub AreOfCall : Side2 → ℕ → ChannelStep → ChannelReply → List (Step × Reply) → Type 0
AreOfCall x id step reply done =
    AreOfPort x id done × ((wrote_by x id done ≡ []) ⊎ (wrote_by x id done ≡ may_write step reply))

-- the steps of the pair that a step with this reply does: those of a call of a channel, or that step of the pair, or
-- none
abbrev pub AreDoneFor : ℕ → ChannelStep → ChannelReply → List (Step × Reply) → Type 0
AreDoneFor id (steps.Open x priority label protocol) reply done =
    AreOfCall x id (steps.Open x priority label protocol) reply done
AreDoneFor id (steps.Accept x) reply done = AreOfCall x id (steps.Accept x) reply done
AreDoneFor id (steps.Acknowledge x) reply done = AreOfCall x id (steps.Acknowledge x) reply done
AreDoneFor id (steps.Send x bytes) reply done = AreOfCall x id (steps.Send x bytes) reply done
AreDoneFor id (steps.Receive x) reply done = AreOfCall x id (steps.Receive x) reply done
AreDoneFor id (steps.OfPair step) (replies.OfPair answer) done = done ≡ (step, answer) ∷ []
AreDoneFor id (steps.OfPair step) reply done = done ≡ []

-- One step, by what it does to the pair, leads from world to world. If the last one is reached, what was received is a
-- front of what was sent, and the pair with its channel fits that world with what the step sent and received.
abbrev pub LeadsChannel : ℕ → ChannelStep → ChannelReply → ChannelWorld → Shape → Type 0
LeadsChannel id step reply c q =
    (done : List (Step × Reply)) × AreDoneFor id step reply done
    × LeadThen done c.world (λ v. AreFronts (grown step reply c v) × FitsChannel q (grown step reply c v))

-- The steps, one after another, with these replies, lead from world to world in that way: as long as each world so far
-- is within the limits, what was received is a front of what was sent after each step, and in the last world the pair
-- with its channel fits.
abbrev pub RunsChannel : ℕ → List ChannelStep → List ChannelReply → ChannelWorld → Shape → Type 0
RunsChannel id [] [] c q = FitsChannel q c
RunsChannel id (s ∷ ss) (r ∷ rs) c q =
    (done : List (Step × Reply)) × AreDoneFor id s r done
    × LeadThen done c.world (λ v. AreFronts (grown s r c v) × RunsChannel id ss rs (grown s r c v) q)
RunsChannel id [] (r ∷ rs) c q = ⊥
RunsChannel id (s ∷ ss) [] c q = ⊥
