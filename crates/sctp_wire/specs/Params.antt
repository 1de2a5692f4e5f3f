-- Parameters and error causes: what bytes are read as, what values are spelled as, and the ranges of their numbers.
-- What is kept under `Other` stands for itself where its type is none that another variant has.
use Rattle.std.specs.Prelude.{ℕ, ◌-◌, ◌/◌, ◌==◌, if◌then◌else◌, nat_lt, Bool, true, List, ◌++◌, length, drop, Result}
use Rattle.std.specs.Prelude.{Ok, Err, ◌||◌, not}
use Rattle.std.specs.Int.{w16, w32, to_be_bytes}
use Rattle.std.specs.List.{flat_map, AllByRecursion}
use Rattle.sctp_wire_types.specs.declared.error.Fault.{Fault}
use Rattle.sctp_wire_types.specs.declared.error.Fault.TheVariants.{Short}
use Rattle.sctp_wire_types.specs.declared.chunk.ErrorCause.{ErrorCause}
use Rattle.sctp_wire_types.specs.declared.param.Param.{Param}
use Rattle.sctp_wire_types.specs.declared.param.Param.TheVariants as params
use Rattle.sctp_wire_types.specs.declared.param.ParamOutgoingResetRequest.{ParamOutgoingResetRequest}
use Rattle.sctp_wire_types.specs.declared.param.ParamReconfigResponse.{ParamReconfigResponse}
use Rattle.sctp_wire_types.specs.declared.param.ReconfigResult.{ReconfigResult}
use Rattle.sctp_wire_types.specs.declared.param.ReconfigResult.TheVariants as results
use Rattle.sctp_wire.specs.declared.frame.Frame.{Frame}
use Rattle.sctp_wire.specs.Results.{◌>>=◌}
use Rattle.sctp_wire.specs.Numbers.{u16_at, u32_at, IsU16, IsU32}
use Rattle.sctp_wire.specs.Frames.{items_at, entries_at, framed, frame_fits}

-- how a request ended (RFC 6525 section 4.4)
abbrev pub result_of : ℕ → ReconfigResult
result_of number =
    if number == 0 then results.SuccessNop else
    if number == 1 then results.SuccessPerformed else
    if number == 2 then results.Denied else
    if number == 3 then results.ErrorWrongSsn else
    if number == 4 then results.ErrorRequestAlreadyInProgress else
    if number == 5 then results.ErrorBadSequenceNumber else
    if number == 6 then results.InProgress else results.Unknown

-- the number of a result; 7 stands for the unknown ones
abbrev pub number_of_result : ReconfigResult → ℕ
number_of_result results.SuccessNop = 0
number_of_result results.SuccessPerformed = 1
number_of_result results.Denied = 2
number_of_result results.ErrorWrongSsn = 3
number_of_result results.ErrorRequestAlreadyInProgress = 4
number_of_result results.ErrorBadSequenceNumber = 5
number_of_result results.InProgress = 6
number_of_result results.Unknown = 7

-- Outgoing SSN Reset Request (RFC 6525 section 4.1)
unfoldable pub reset_request_of : List ℕ → Result ParamOutgoingResetRequest Fault
reset_request_of value =
    if nat_lt (length value) 12 then Err Short else
    Ok (record {
      reconfig_request_sequence_number = u32_at value 0;
      reconfig_response_sequence_number = u32_at value 4;
      sender_last_tsn = u32_at value 8;
      stream_identifiers = entries_at (λ entry. u16_at entry 0) 2 ((length value - 12) / 2) (drop 12 value);
    })

abbrev pub identifier_bytes : ℕ → List ℕ
identifier_bytes identifier = to_be_bytes w16 identifier

abbrev pub reset_request_value : ParamOutgoingResetRequest → List ℕ
reset_request_value p =
    to_be_bytes w32 p.reconfig_request_sequence_number ++ to_be_bytes w32 p.reconfig_response_sequence_number
    ++ to_be_bytes w32 p.sender_last_tsn ++ flat_map identifier_bytes p.stream_identifiers

abbrev pub IsResetRequest : ParamOutgoingResetRequest → Type 0
IsResetRequest p =
    IsU32 p.reconfig_request_sequence_number × IsU32 p.reconfig_response_sequence_number × IsU32 p.sender_last_tsn
    × AllByRecursion IsU16 p.stream_identifiers

-- Re-configuration Response (RFC 6525 section 4.4)
unfoldable pub reset_response_of : List ℕ → Result ParamReconfigResponse Fault
reset_response_of value =
    if nat_lt (length value) 8 then Err Short else
    Ok (record { reconfig_response_sequence_number = u32_at value 0; result = result_of (u32_at value 4) })

abbrev pub reset_response_value : ParamReconfigResponse → List ℕ
reset_response_value p =
    to_be_bytes w32 p.reconfig_response_sequence_number ++ to_be_bytes w32 (number_of_result p.result)

abbrev pub IsResetResponse : ParamReconfigResponse → Type 0
IsResetResponse p = IsU32 p.reconfig_response_sequence_number

unfoldable pub param_of : Frame → Result Param Fault
param_of frame =
    if frame.head == 1 then Ok (params.HeartbeatInfo frame.value) else
    if frame.head == 7 then Ok (params.StateCookie frame.value) else
    if frame.head == 13 then (reset_request_of frame.value >>= λ request. Ok (params.OutgoingResetRequest request)) else
    if frame.head == 16 then (reset_response_of frame.value >>= λ response. Ok (params.ReconfigResponse response)) else
    if frame.head == 0x8008 then Ok (params.SupportedExtensions frame.value) else
    Ok (params.Other frame.head frame.value)

abbrev pub param_frame : Param → Frame
param_frame (params.HeartbeatInfo info) = framed 1 info
param_frame (params.StateCookie cookie) = framed 7 cookie
param_frame (params.OutgoingResetRequest request) = framed 13 (reset_request_value request)
param_frame (params.ReconfigResponse response) = framed 16 (reset_response_value response)
param_frame (params.SupportedExtensions types) = framed 0x8008 types
param_frame (params.Other kind value) = framed kind value

abbrev pub param_fits : Param → Bool
param_fits param = frame_fits (param_frame param)

abbrev pub IsParam : Param → Type 0
IsParam (params.OutgoingResetRequest request) = IsResetRequest request
IsParam (params.ReconfigResponse response) = IsResetResponse response
IsParam (params.Other kind value) = IsU16 kind
IsParam _ = Unit {0}

abbrev pub names_param : ℕ → Bool
names_param kind = kind == 1 || kind == 7 || kind == 13 || kind == 16 || kind == 0x8008

abbrev pub param_is_plain : Param → Bool
param_is_plain (params.Other kind value) = not (names_param kind)
param_is_plain _ = true

abbrev pub params_at : List ℕ → Result (List Param) Fault
params_at bytes = items_at param_of 4 bytes

abbrev pub cause_of : Frame → Result ErrorCause Fault
cause_of frame = Ok (record { code = frame.head; value = frame.value })

abbrev pub cause_frame : ErrorCause → Frame
cause_frame cause = framed cause.code cause.value

abbrev pub cause_fits : ErrorCause → Bool
cause_fits cause = frame_fits (cause_frame cause)

abbrev pub IsCause : ErrorCause → Type 0
IsCause cause = IsU16 cause.code

abbrev pub causes_at : List ℕ → Result (List ErrorCause) Fault
causes_at bytes = items_at cause_of 4 bytes
