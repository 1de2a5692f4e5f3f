-- Why an association ended, as C holds it.
use Rattle.std.specs.Prelude.{ℕ, []}
use Rattle.sctp_watch.specs.declared.ends.Cause.{Cause}
use Rattle.sctp_watch.specs.declared.ends.End.{End}
use Rattle.sctp_watch.specs.declared.ends.End.TheVariants as ends
use Rattle.sctp_watch.specs.Ends.{cause_with, padded_reason, reason_length}
use Rattle.sctp_c.specs.declared.watch.Watch.{Watch}

-- `SCTP_ASSOC_END_..` of the header; 0 is none
abbrev pub end_number : End → ℕ
end_number ends.Closed = 1
end_number ends.Aborted = 2
end_number ends.ShutDown = 3
end_number (ends.AbortCame cause) = 4
end_number ends.Fault = 5
end_number ends.BufferExhausted = 6
end_number ends.Silent = 7

-- the cause of the peer's ABORT; the code 0 without a reason for any other end
abbrev pub cause_in : End → Cause
cause_in (ends.AbortCame cause) = cause
cause_in end = cause_with 0 []

abbrev pub with_end : End → Watch → Watch
with_end end w = record w {
  end = end_number end;
  cause = (cause_in end).code;
  reason_length = reason_length (cause_in end);
  reason = padded_reason (cause_in end);
}
