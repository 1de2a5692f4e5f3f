-- Which packets are taken, by their verification tag (RFC 4960 section 8.5).
use Rattle.std.specs.Prelude.{ℕ, Bool, false, ◌==◌, ◌&&◌, ◌%◌, if◌then◌else◌, not, List, length, nat_lt}
use Rattle.std.specs.Prelude.{slice_index, Option, Result, Ok, Err}
use Rattle.sctp_wire_types.specs.declared.error.Fault.{Fault}
use Rattle.sctp_wire.specs.declared.packet.Packet.{Packet}
use Rattle.sctp_wire.specs.declared.partial.PartialDecode.{PartialDecode}
use Rattle.sctp_wire.specs.Numbers.{u32_at}
use Rattle.sctp_wire.specs.Packets.{packet_at, partial_at}
use Rattle.sctp_assoc.specs.Calls.{is_beginning}
use Rattle.sctp_assoc.specs.Inbound.{taken_packet}
use Rattle.sctp_assoc.specs.Shown.{Shown}
use Rattle.sctp_driver.specs.declared.tags.FirstChunk.{FirstChunk}
use Rattle.sctp_driver.specs.declared.tags.FirstChunk.TheVariants as firsts
use Rattle.sctp_driver.specs.declared.tags.DatagramAnswer.{DatagramAnswer}
use Rattle.sctp_driver.specs.declared.tags.DatagramAnswer.TheVariants as answers
use Rattle.sctp_driver.specs.Driving.{Driving}

-- the T bit of an ABORT or a SHUTDOWN COMPLETE is the lowest one of its flags (RFC 4960 sections 3.3.7 and 3.3.13)
abbrev pub has_t_bit : ℕ → Bool
has_t_bit flags = flags % 2 == 1

-- the chunk types that have a rule of their own (RFC 4960 section 3.2): INIT, ABORT, SHUTDOWN ACK, COOKIE ECHO,
-- SHUTDOWN COMPLETE
abbrev pub chunk_named : ℕ → ℕ → FirstChunk
chunk_named kind flags =
    if kind == 1 then firsts.Init else
    if kind == 6 then firsts.Abort (has_t_bit flags) else
    if kind == 8 then firsts.ShutdownAck else
    if kind == 10 then firsts.CookieEcho else
    if kind == 14 then firsts.ShutdownComplete (has_t_bit flags) else firsts.Other

-- a packet's first chunk, by its type and its flags, the first two of its bytes (RFC 4960 section 3.2)
abbrev pub first_chunk_of : List ℕ → FirstChunk
first_chunk_of bytes =
    if nat_lt (length bytes) 2 then firsts.Other else chunk_named (slice_index bytes 0) (slice_index bytes 1)

abbrev pub taken_if : Bool → DatagramAnswer
taken_if fits = if fits then answers.Taken else answers.OtherTag

-- section 8.5.1 A: an INIT has the tag 0. It is for an association that is at its handshake; a repeated one is left
abbrev pub judged_init : ℕ → Bool → DatagramAnswer
judged_init tag begins =
    if tag == 0 then (if begins then answers.Taken else answers.RepeatedInit) else answers.OtherTag

-- sections 8.5.1 B and C: the own tag without the T bit, or with it the peer's tag, once that is known
abbrev pub is_own_or_reflected : Bool → ℕ → ℕ → ℕ → Bool
is_own_or_reflected reflected tag own peer = if reflected then not (peer == 0) && (tag == peer) else tag == own

-- What becomes of a packet with this first chunk and this tag, at a side with this own tag and this tag of its peer (0
-- where it is unknown), which may be at its handshake.
abbrev pub judged : FirstChunk → ℕ → ℕ → ℕ → Bool → DatagramAnswer
judged firsts.Init tag own peer begins = judged_init tag begins
judged (firsts.Abort reflected) tag own peer begins = taken_if (is_own_or_reflected reflected tag own peer)
judged (firsts.ShutdownComplete reflected) tag own peer begins =
    taken_if (is_own_or_reflected reflected tag own peer)
-- section 8.5.1 D: the own tag, and the association compares the cookie (section 5.1.5)
judged firsts.CookieEcho tag own peer begins = taken_if (tag == own)
-- section 8.5.1 E: in the state in which one is awaited; elsewhere it is answered where it has the own tag
judged firsts.ShutdownAck tag own peer begins = taken_if (tag == own)
-- section 8.5: any other packet has the own tag
judged firsts.Other tag own peer begins = taken_if (tag == own)

-- an association is at its handshake: no loss ended it, and it is in Closed, CookieWait or CookieEchoed
abbrev pub begins : Shown → Bool
begins a = not a.lost && is_beginning a.state

-- an INIT, the first of these chunks, has another initiate tag than the peer; that stands behind the four bytes of its
-- header (RFC 4960 section 3.3.2)
abbrev pub is_init_of_another : List ℕ → ℕ → Bool
is_init_of_another bytes peer = if nat_lt (length bytes) 8 then false else not (u32_at bytes 4 == peer)

-- an INIT past the handshake is a repeated one, or that of another (section 5.2.2)
abbrev pub init_told : DatagramAnswer → Bool → DatagramAnswer
init_told answers.RepeatedInit other = if other then answers.OtherInit else answers.RepeatedInit
init_told answer other = answer

abbrev pub judged_packet : Driving → PartialDecode → DatagramAnswer
judged_packet d packet =
    init_told (judged (first_chunk_of packet.remaining) packet.common_header.verification_tag d.own_tag
    d.association.handshake.peer_verification_tag (begins d.association))
    (is_init_of_another packet.remaining d.association.handshake.peer_verification_tag)

abbrev pub answer_to_read : Driving → Result PartialDecode Fault → DatagramAnswer
answer_to_read d (Ok packet) = judged_packet d packet
answer_to_read d (Err fault) = answers.NoPacket

-- what becomes of a datagram: left where it spells no packet, else judged by its tag
abbrev pub answer_to : Driving → List ℕ → DatagramAnswer
answer_to d bytes = answer_to_read d (partial_at bytes)

-- the packet that a datagram spells; none where its chunks do not decode or it is refused as a packet
abbrev pub packet_in : List ℕ → Option Packet
packet_in bytes = taken_packet (packet_at bytes)
