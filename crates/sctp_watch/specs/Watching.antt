-- What a watch keeps, and what becomes of it in the calls of a driver.
use Rattle.std.specs.Prelude.{◌≡◌, ℕ, ◌&&◌, if◌then◌else◌, not, Bool, true, false, Option, Some, None, Result, Ok, Err}
use Rattle.sctp_wire_types.specs.declared.error.Error.{Error}
use Rattle.sctp_streams.specs.declared.event.AssociationError.TheVariants as reasons
use Rattle.sctp_streams.specs.declared.event.Event.{Event}
use Rattle.sctp_streams.specs.declared.event.Event.TheVariants as events
use Rattle.sctp_parts.specs.Stats.{more_by, one_more}
use Rattle.sctp_driver.specs.declared.sending.PollAnswer.{PollAnswer}
use Rattle.sctp_driver.specs.declared.sending.PollAnswer.TheVariants as sendings
use Rattle.sctp_driver.specs.declared.tags.DatagramAnswer.{DatagramAnswer}
use Rattle.sctp_driver.specs.declared.tags.DatagramAnswer.TheVariants as fates
use Rattle.sctp_driver.specs.Driving.{Driving}
use Rattle.sctp_watch.specs.declared.ends.End.{End}
use Rattle.sctp_watch.specs.declared.ends.End.TheVariants as ends
use Rattle.sctp_watch.specs.declared.traffic.Traffic.{Traffic}

pub record Watching : Type 0 where
  pub traffic : Traffic
  -- None until the watch saw the association end
  pub end : Option End

abbrev pub no_traffic : Traffic
no_traffic = record { datagrams_sent = 0; bytes_sent = 0; datagrams_received = 0; bytes_received = 0 }

-- a watch that counted this, and saw no end
abbrev pub watching : Traffic → Watching
watching traffic = record { traffic = traffic; end = None }

abbrev pub with_received : ℕ → Traffic → Traffic
with_received bytes t = record t {
  datagrams_received = one_more t.datagrams_received;
  bytes_received = more_by bytes t.bytes_received;
}

abbrev pub with_sent : ℕ → Traffic → Traffic
with_sent bytes t = record t {
  datagrams_sent = one_more t.datagrams_sent;
  bytes_sent = more_by bytes t.bytes_sent;
}

-- a datagram of so many bytes is counted where it was taken
abbrev pub after_datagram : Result DatagramAnswer Error → ℕ → Traffic → Traffic
after_datagram (Ok fates.Taken) bytes t = with_received bytes t
after_datagram answer bytes t = t

-- a datagram is counted where it was given out
abbrev pub after_poll : Result PollAnswer Error → Traffic → Traffic
after_poll (Ok (sendings.Datagram bytes)) t = with_sent bytes t
after_poll answer t = t

-- the end that a watch knows behind a call: this one where the association was lost in that call
abbrev pub end_after : Driving → Driving → End → Option End → Option End
end_after d e end known = if not d.association.lost && e.association.lost then Some end else known

-- a datagram that left the receive buffer exhausted brings that end, and any other one this
abbrev pub brought : Bool → End → End
brought true end = ends.BufferExhausted
brought false end = end

-- the event tells that the receive buffer was exhausted
abbrev pub is_told_exhaustion : Result (Option Event) Error → Bool
is_told_exhaustion (Ok (Some (events.AssociationLost reasons.ReceiveBufferExhausted))) = true
is_told_exhaustion answer = false

abbrev pub after_event : Result (Option Event) Error → Option End → Option End
after_event answer known = if is_told_exhaustion answer then Some ends.BufferExhausted else known
