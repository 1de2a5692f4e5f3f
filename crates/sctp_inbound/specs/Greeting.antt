-- The chunks of the handshake, and what is read out of them (RFC 4960 sections 3.3.2 to 3.3.6 and 5.1).
use Rattle.std.specs.Prelude.{ℕ, List, [], ◌∷◌, Option, Some, None}
use Rattle.sctp_wire_types.specs.declared.chunk.ChunkHeartbeat.{ChunkHeartbeat}
use Rattle.sctp_wire_types.specs.declared.chunk.ChunkInit.{ChunkInit}
use Rattle.sctp_wire_types.specs.declared.param.Param.{Param}
use Rattle.sctp_wire_types.specs.declared.param.Param.TheVariants as params
use Rattle.sctp_inbound.specs.declared.handshake.Handshake.{Handshake}
use Rattle.sctp_inbound.specs.declared.handshake.Offer.{Offer}

-- the extensions that are listed: RE-CONFIG, chunk type 130, and FORWARD TSN, chunk type 192 (RFC 5061 section 4.2.7)
abbrev pub extensions : Param
extensions = params.SupportedExtensions (130 ∷ 192 ∷ [])

-- an INIT with this offer
abbrev pub init_of : Handshake → Offer → ChunkInit
init_of h offer = record {
  initiate_tag = h.my_verification_tag;
  advertised_receiver_window_credit = offer.window;
  num_outbound_streams = offer.num_outbound_streams;
  num_inbound_streams = offer.num_inbound_streams;
  initial_tsn = h.my_initial_tsn;
  params = extensions ∷ [];
}

-- the INIT ACK, with this side's cookie and the numbers of streams that both sides take
abbrev pub init_ack_of : Handshake → ℕ → ChunkInit
init_ack_of h window = record {
  initiate_tag = h.my_verification_tag;
  advertised_receiver_window_credit = window;
  num_outbound_streams = h.num_outbound_streams;
  num_inbound_streams = h.num_inbound_streams;
  initial_tsn = h.my_initial_tsn;
  params = params.StateCookie h.cookie ∷ extensions ∷ [];
}

abbrev pub cookie_in : Param → Option (List ℕ)
cookie_in (params.StateCookie cookie) = Some cookie
cookie_in _ = None

abbrev pub or_else : Option (List ℕ) → Option (List ℕ) → Option (List ℕ)
or_else (Some cookie) later = Some cookie
or_else None later = later

-- the first State Cookie among parameters
abbrev pub first_cookie : List Param → Option (List ℕ)
first_cookie [] = None
first_cookie (p ∷ ps) = or_else (cookie_in p) (first_cookie ps)

-- the Heartbeat Info with which parameters begin
abbrev pub information_of : List Param → Option (List ℕ)
information_of (params.HeartbeatInfo information ∷ ps) = Some information
information_of _ = None

-- a HEARTBEAT ACK with this information
abbrev pub heartbeat_ack_of : List ℕ → ChunkHeartbeat
heartbeat_ack_of information = record { params = params.HeartbeatInfo information ∷ [] }
