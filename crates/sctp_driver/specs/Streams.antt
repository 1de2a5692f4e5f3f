-- Calls of a stream by its identifier: the association lends the stream, and then the call is made.
use Rattle.std.specs.Prelude.{ℕ, Option, Some, None, Result, Err}
use Rattle.sctp_wire_types.specs.declared.error.Error.{Error}
use Rattle.sctp_streams.specs.Stream.{StreamView}
use Rattle.sctp_streams.specs.declared.setting.Setting.TheVariants as settings
use Rattle.sctp_assoc.specs.Calls.{adjusted, first_refusal, stop_refusal, stopped, stream_refusal, value_of}
use Rattle.sctp_assoc.specs.Shown.{Shown}
use Rattle.sctp_driver.specs.Driving.{Driving}
use Rattle.sctp_driver.specs.Messages.{without_message_of}

abbrev pub asked_if : {T : Type 0} → Option Error → Result T Error → Result T Error
asked_if None answer = answer
asked_if (Some e) answer = Err e

-- what a question about a stream answers
abbrev pub asked_of : {T : Type 0} → (StreamView → T) → Shown → ℕ → Result T Error
asked_of of a id = asked_if (stream_refusal a id) (value_of of a id)

-- the bytes that a stream accepted and did not release
abbrev pub buffered_on : Shown → ℕ → Result ℕ Error
buffered_on a id = asked_of (λ s. s.buffered) a id

-- why a stream is neither stopped nor closed
abbrev pub refusal_to_stop : Shown → ℕ → Option Error
refusal_to_stop a id = first_refusal (stream_refusal a id) (stop_refusal a id)

-- both halves of a stream are closed
abbrev pub stream_closed : Shown → ℕ → Shown
stream_closed a id = stopped (adjusted a id settings.WriteHalfClosed) id

-- the association changed so, and the message of the stream that waits for a buffer is dropped
abbrev pub with_stopped : Driving → ℕ → Shown → Driving
with_stopped d id a = record d { association = a; kept = without_message_of id d.kept }
