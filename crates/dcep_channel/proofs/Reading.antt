-- What is copied out of a message that was read, and the channel that it asks for.
use Rattle.std.proofs.Common.{◌≡◌, sym, ap, ◌∙◌, ℕ, Bool, true, false, if◌then◌else◌, List, ◌++◌, length}
use Rattle.std.proofs.Common.{drop, Option, Some, None, Result, Ok, Err, inl}
use Rattle.std.proofs.lemmas.List.{append-nil}
use Rattle.std.proofs.Math.Seq.{drop-length}
use Rattle.sctp_receive_queues.specs.Messages.{ReceivedMessage, bytes_left}
use Rattle.dcep_channel.specs.declared.error.ChannelError.{ChannelError}
use Rattle.dcep_channel.specs.declared.error.ChannelError.TheVariants as faults
use Rattle.dcep_channel.specs.Channels.{AcceptsBytes, AcceptsMessage, ChannelState, accept_refusal, accepter, is_dcep}
use Rattle.dcep_channel.specs.Codec.{open_refusal}

-- a buffer of the message's length is the message
pub copied_whole : (message old new : List ℕ) → new ≡ message ++ drop (length message) old
    → length old ≡ length message → new ≡ message
copied_whole message old new copied same =
    copied ∙ ap (λ (n : ℕ). message ++ drop n old) (sym same) ∙ ap (λ (ys : List ℕ). message ++ ys) (drop-length old)
    ∙ append-nil message

abbrev refusal_by : Bool → List ℕ → Option ChannelError
refusal_by dcep bytes = if dcep then open_refusal bytes else Some faults.ErrNotOpenMessage

of_dcep : (m : ReceivedMessage) (bytes : List ℕ) (refusal : Option ChannelError) → is_dcep m.payload_type ≡ true
    → bytes ≡ bytes_left m → open_refusal bytes ≡ refusal → accept_refusal m ≡ refusal
of_dcep m bytes refusal dcep same h =
    ap (λ (b : Bool). refusal_by b (bytes_left m)) dcep ∙ ap (λ (bs : List ℕ). open_refusal bs) (sym same) ∙ h

pub accepts_dcep : (m : ReceivedMessage) (bytes : List ℕ) (r : Result ChannelState ChannelError)
    → is_dcep m.payload_type ≡ true → bytes ≡ bytes_left m → AcceptsBytes bytes r → AcceptsMessage m r
accepts_dcep m bytes (Ok c) dcep same h = (of_dcep m bytes None dcep same h.0, h.1 ∙ ap accepter same)
accepts_dcep m bytes (Err e) dcep same h = inl (of_dcep m bytes (Some e) dcep same h)

pub accepts_no_other : (m : ReceivedMessage) → is_dcep m.payload_type ≡ false
    → AcceptsMessage m (Err faults.ErrNotOpenMessage)
accepts_no_other m other = inl (ap (λ (b : Bool). refusal_by b (bytes_left m)) other)
