-- A request of the peer to reset its outgoing streams (RFC 6525 section 4.1).
use Rattle.std.specs.Prelude.{ℕ, Bool, ◌==◌, ◌&&◌, ◌||◌, List, length}
use Rattle.sctp_serial.specs.Serial.{tsn_gt, tsn_lte}
use Rattle.sctp_wire_types.specs.declared.param.ParamOutgoingResetRequest.{ParamOutgoingResetRequest}
use Rattle.sctp_reset_requests.specs.Ids.{has_id, set_of}

pub record PeerRequestView : Type 0 where
  pub number : ℕ
  -- the last TSN that the peer gave out before the request
  pub last_tsn : ℕ
  -- the streams that it names, ascending; none is all streams, as on the wire
  pub ids : List ℕ

-- the request that a parameter is
abbrev pub request_of : ParamOutgoingResetRequest → PeerRequestView
request_of p = record {
  number = p.reconfig_request_sequence_number;
  last_tsn = p.sender_last_tsn;
  ids = set_of p.stream_identifiers;
}

abbrev pub names_all : PeerRequestView → Bool
names_all r = length r.ids == 0

-- a stream is to be reset by it
abbrev pub names : PeerRequestView → ℕ → Bool
names r id = names_all r || has_id id r.ids

-- all that was sent before it came: it can be performed (RFC 6525 section 5.2.2, E2)
abbrev pub is_due : PeerRequestView → ℕ → Bool
is_due r cumulative_tsn = tsn_lte r.last_tsn cumulative_tsn

-- DATA of a stream that it resets, sent after it
abbrev pub is_behind : PeerRequestView → ℕ → ℕ → Bool
is_behind r id tsn = names r id && tsn_gt tsn r.last_tsn
