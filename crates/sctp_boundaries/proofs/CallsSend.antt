-- What a call of a present side does to what it sends by the course of a stream.
use Rattle.std.proofs.Common.{◌≡◌, refl, ℕ, false, None}
use Rattle.sctp_streams.specs.declared.event.AssociationError.TheVariants as reasons
use Rattle.sctp_streams.specs.declared.setting.Setting.TheVariants as settings
use Rattle.sctp_courses.specs.Course.{Course}
use Rattle.sctp_directions.specs.Acts.{History}
use Rattle.sctp_assoc.specs.Calls.{adjusted}
use Rattle.sctp_assoc.specs.Shown.{Shown}
use Rattle.sctp_sides.specs.OneSide.{Call, call_refusal, carried_out}
use Rattle.sctp_course_sides.specs.Sends.{Sends}
use Rattle.sctp_course_sides.proofs.SenderCalls.{accepted_stream_sends, adjusted_sends, closed_sends}
use Rattle.sctp_course_sides.proofs.SenderCalls.{endpoint_event_polled_sends, event_polled_sends, limited_sends}
use Rattle.sctp_course_sides.proofs.SenderCalls.{opened_sends, read_sends, shutdown_begun_sends, stopped_sends}
use Rattle.sctp_course_sides.proofs.SenderCalls.{timeouts_sends, written_sends}
use Rattle.sctp_boundaries.proofs.Calling.{IsOfApplication}

-- The sender's side of it: nothing is assigned, and nothing is asked for.
pub call_sends : (initial id : ℕ) (call : Call) (a : Shown) (h : History) (c : Course) → IsOfApplication call
    → call_refusal call a ≡ None → (carried_out call a).0.lost ≡ false → Sends initial id a h c
    → Sends initial id (carried_out call a).0 h c
call_sends initial id (Call.OpenStream k kind) a h c quiet accepted lost s = opened_sends initial id h c a k kind s
call_sends initial id (Call.Write k named bytes) a h c quiet accepted lost s =
    written_sends initial id a h c k named bytes accepted s
call_sends initial id (Call.Set k setting) a h c quiet accepted lost s = adjusted_sends initial id h c a k setting s
call_sends initial id Call.AcceptStream a h c quiet accepted lost s = accepted_stream_sends initial id h c a s
call_sends initial id (Call.SetMaxSendMessageSize size) a h c quiet accepted lost s =
    limited_sends initial id h c a size s
call_sends initial id Call.Shutdown a h c quiet accepted lost s = shutdown_begun_sends initial id h c a s
call_sends initial id Call.Close a h c quiet accepted lost s =
    closed_sends initial id h c a reasons.AssociationClosed lost s
call_sends initial id (Call.Read k) a h c quiet accepted lost s = read_sends initial id h c a k lost s
call_sends initial id Call.Poll a h c quiet accepted lost s = event_polled_sends initial id h c a s
call_sends initial id Call.PollEndpointEvent a h c quiet accepted lost s =
    endpoint_event_polled_sends initial id h c a s
call_sends initial id (Call.PollTransmit now) a h c quiet accepted lost s = absurd quiet
call_sends initial id (Call.HandleTimeout now) a h c quiet accepted lost s = timeouts_sends initial id h c a now s
call_sends initial id (Call.HandleEvent packet now) a h c quiet accepted lost s = absurd quiet
call_sends initial id (Call.Stop k) a h c quiet accepted lost s = stopped_sends initial id h c a k quiet lost s
call_sends initial id (Call.CloseStream k) a h c quiet accepted lost s =
    stopped_sends initial id h c (adjusted a k settings.WriteHalfClosed) k quiet lost
    (adjusted_sends initial id h c a k settings.WriteHalfClosed s)
