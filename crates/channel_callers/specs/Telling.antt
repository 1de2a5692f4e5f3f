-- What the replies of all steps of a new pair with a channel tell: what was sent, what was received, and how many
-- pieces were accepted at most.
use Rattle.std.specs.Prelude.{◌≡◌, ◌<◌, ℕ, ◌+◌, false, if◌then◌else◌, List, [], ◌∷◌, ◌++◌, length, take}
use Rattle.sctp_fit.specs.FewPieces.{pieces_in}
use Rattle.sctp_steps.specs.declared.step.Side2.{Side2}
use Rattle.sctp_steps.specs.declared.step.Side2.TheVariants as sides
use Rattle.sctp_steps.specs.Ends.{Ends}
use Rattle.sctp_steps.specs.Seen.{is_side, other_side}
use Rattle.sctp_pair.specs.Callers.{IsFrontOf}
use Rattle.sctp_pair.specs.Counted.{pieces_of}
use Rattle.channel_pair.specs.declared.seat.Seat.TheVariants as seats
use Rattle.channel_pair.specs.declared.step.ChannelStep.{ChannelStep}
use Rattle.channel_pair.specs.declared.step.ChannelStep.TheVariants as steps
use Rattle.channel_pair.specs.declared.step.ChannelReply.{ChannelReply}
use Rattle.channel_pair.specs.declared.step.ChannelReply.TheVariants as replies
use Rattle.channel_pair.specs.Promise.{got_by, may_write, sent_by}
use Rattle.channel_pair.specs.Shapes.{Shape}
use Rattle.channel_pair.specs.Steps.{RunsAll}

-- what side x sent on its channel, message by message
abbrev pub sent_in : List ChannelStep → List ChannelReply → Side2 → List (List ℕ)
sent_in (s ∷ ss) (r ∷ rs) x = sent_by s r x ++ sent_in ss rs x
sent_in [] rs x = []
sent_in (s ∷ ss) [] x = []

-- what side x received on its channel, message by message
abbrev pub received_in : List ChannelStep → List ChannelReply → Side2 → List (List ℕ)
received_in (s ∷ ss) (r ∷ rs) x = got_by s r x ++ received_in ss rs x
received_in [] rs x = []
received_in (s ∷ ss) [] x = []

-- the pieces, of at most `size` bytes each, of these messages
abbrev pub pieces_of_all : ℕ → List (List ℕ) → ℕ
pieces_of_all size [] = 0
pieces_of_all size (bytes ∷ messages) = pieces_in size (length bytes) + pieces_of_all size messages

-- those of the message that a call of a channel at this side may have written, where that is side x
abbrev pub pieces_of_call : ℕ → Side2 → Side2 → ChannelStep → ChannelReply → ℕ
pieces_of_call size x side step reply = if is_side side x then pieces_of_all size (may_write step reply) else 0

-- The pieces that side x accepted by a step with this reply, at most: those of the OPEN, the ACK or the data of a call
-- that was answered `Opened`, `Acknowledged` or `Sent`, and those of an accepted write that is a step of the pair.
abbrev pub most_pieces : ℕ → Side2 → ChannelStep → ChannelReply → ℕ
most_pieces size x (steps.Open side priority label protocol) reply =
    pieces_of_call size x side (steps.Open side priority label protocol) reply
most_pieces size x (steps.Accept side) reply = pieces_of_call size x side (steps.Accept side) reply
most_pieces size x (steps.Acknowledge side) reply = pieces_of_call size x side (steps.Acknowledge side) reply
most_pieces size x (steps.Send side bytes) reply = pieces_of_call size x side (steps.Send side bytes) reply
most_pieces size x (steps.Receive side) reply = pieces_of_call size x side (steps.Receive side) reply
most_pieces size x (steps.OfPair step) (replies.OfPair answer) = pieces_of size x step answer
most_pieces size x (steps.OfPair step) reply = 0

-- those of all of these steps
abbrev pub most_accepted : ℕ → Side2 → List ChannelStep → List ChannelReply → ℕ
most_accepted size x (s ∷ ss) (r ∷ rs) = most_pieces size x s r + most_accepted size x ss rs
most_accepted size x [] rs = 0
most_accepted size x (s ∷ ss) [] = 0

-- Each side accepted fewer than 16,384 pieces in all of these steps.
pub record AcceptFew (size : ℕ) (ss : List ChannelStep) (rs : List ChannelReply) : Type 0 where
  pub of_a : most_accepted size sides.A ss rs < 16384
  pub of_b : most_accepted size sides.B ss rs < 16384

-- what each side received is, message by message, a front of what the other one sent
abbrev pub ReceivedAreFronts : List ChannelStep → List ChannelReply → Type 0
ReceivedAreFronts ss rs = (x : Side2) → IsFrontOf (received_in ss rs x) (sent_in ss rs (other_side x))

-- All steps of a new pair with a channel, each side of which has this payload size: each step has its reply, and after
-- the first k of them, whichever k, what was received is such a front, where each side accepted few pieces in these.
pub record HoldFromNew (size : ℕ) (ss : List ChannelStep) (rs : List ChannelReply) : Type 0 where
  pub each : length rs ≡ length ss
  pub fronts : (k : ℕ) → AcceptFew size (take k ss) (take k rs) → ReceivedAreFronts (take k ss) (take k rs)

-- with no channel yet at either side of this stream, the steps with these replies lead on from the pair p
abbrev pub LeadsFrom : ℕ → List ChannelStep → List ChannelReply → Ends → Type 0
LeadsFrom id ss rs p =
    (q : Shape) × RunsAll ss rs (record {
      pair = p;
      id = id;
      a = seats.Vacant false;
      b = seats.Vacant false;
    }) q
