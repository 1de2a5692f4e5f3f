-- What a call of one side brings, reads and gives out, and that it leads on as its parts do.
use Rattle.std.proofs.Common.{◌≡◌, ℕ, ◌<◌, ◌^◌, ◌==◌, if◌then◌else◌, Bool, true, false, List, [], take, ◌++◌}
use Rattle.std.proofs.Common.{Option, None}
use Rattle.std.specs.Bool.{⊤}
use Rattle.sctp_wire.specs.declared.packet.Packet.{Packet}
use Rattle.sctp_receive_queues.specs.Messages.{ReceivedMessage}
use Rattle.sctp_assoc.specs.declared.call.Call.{Call}
use Rattle.sctp_assoc.specs.declared.call.Call.TheVariants as calls
use Rattle.sctp_assoc.specs.declared.call.Reply.{Reply}
use Rattle.sctp_assoc.specs.declared.call.Reply.TheVariants as replies
use Rattle.sctp_assoc.specs.Calls.{read_from_stream, read_refusal}
use Rattle.sctp_assoc.specs.Chunks.{after_packet}
use Rattle.sctp_assoc.specs.Gather.{polled}
use Rattle.sctp_assoc.specs.Happened.{PollsOn, acts_of_poll, forwards_of_poll}
use Rattle.sctp_assoc.specs.Replies.{packet_in}
use Rattle.sctp_assoc.specs.Shown.{Shown}
use Rattle.sctp_sides.specs.OneSide as side
use Rattle.sctp_course_sides.proofs.ReceiverCalls.{BringsAndReadsNothing}
use Rattle.sctp_course_sides.proofs.TruthInCalls.{BringsNoPacket}

-- the message that a call reads on a stream
abbrev pub message_given : Call → Reply → ℕ → Option ReceivedMessage
message_given (calls.Read k) (replies.Read message) id = if k == id then message else None
message_given (calls.ReadSctp k) (replies.Read message) id = if k == id then message else None
message_given call reply id = None

-- a call asks for packets to send
abbrev pub is_poll : Call → Bool
is_poll (calls.PollTransmit now) = true
is_poll call = false

-- This is so of what a datagram spells that a call brings; a stream that it stops is named by an identifier.
abbrev pub IsBrought : (Option Packet → Type 0) → Call → Type 0
IsBrought Brings (calls.HandleDatagram bytes remote now) = Brings (packet_in bytes)
IsBrought Brings (calls.Stop k) = k < 2 ^ 16
IsBrought Brings (calls.CloseStream k) = k < 2 ^ 16
IsBrought Brings call = ⊤

-- no packet comes and none is asked for by a call, and a stream that it stops is named by an identifier
abbrev pub IsOfApplication : side.Call → Type 0
IsOfApplication (side.Call.HandleEvent packet now) = ⊥
IsOfApplication (side.Call.PollTransmit now) = ⊥
IsOfApplication (side.Call.Stop k) = k < 2 ^ 16
IsOfApplication (side.Call.CloseStream k) = k < 2 ^ 16
IsOfApplication call = ⊤

-- A side goes on so by whatever is called: by nothing, by a failure, by a call that reads nothing, by a read, by a
-- packet, and by a poll for packets, also where some of these are lost.
pub record GoesByCalls (id : ℕ) (x : Shown) (Brings : Option Packet → Type 0)
    (On : Bool → Option ReceivedMessage → Shown → List (List ℕ) → Type 0) : Type 0 where
  pub same : (polls : Bool) → On polls None x []
  pub failed : (polls : Bool) (y : Shown) → y.failed ≡ true → On polls None y []
  pub quiet : (c : side.Call) → IsOfApplication c → BringsNoPacket c → BringsAndReadsNothing c
      → side.call_refusal c x ≡ None → On false None (side.carried_out c x).0 []
  pub read : (k : ℕ) → read_refusal x k ≡ None
      → On false (if k == id then (read_from_stream x k).1 else None) (read_from_stream x k).0 []
  pub packet : (packet : Option Packet) (now : ℕ) → Brings packet → On false None (after_packet x packet now) []
  pub poll : (now : ℕ) → PollsOn (acts_of_poll x now) (forwards_of_poll x now) x (polled x now).0 (polled x now).1
      → On true None (polled x now).0 (polled x now).1
  pub front : (y : Shown) (kept : ℕ) (given : List (List ℕ)) → On true None y given → On true None y (take kept given)

-- What a call gives out, and how it goes on.
pub record CallGoes (On : Bool → Option ReceivedMessage → Shown → List (List ℕ) → Type 0) (id : ℕ) (call : Call)
    (r : Reply) (y : Shown) (packets more : List (List ℕ)) : Type 0 where
  pub given : List (List ℕ)
  pub extends : more ≡ packets ++ given
  pub goes : On (is_poll call) (message_given call r id) y given
