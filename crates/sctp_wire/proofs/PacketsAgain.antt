-- A packet that is spelled is read again.
use Rattle.std.proofs.Common.{◌≡◌, ℕ, ◌^◌, ◌<◌, ◌≤◌, Bool, true, false, eqb, cond, ltb, List}
use Rattle.std.proofs.Common.{length, drop, Result, Ok, Err, refl, sym, ap, ◌∙◌, arith}
use Rattle.std.proofs.lemmas.Bool.{le-ltb, eq-eqb}
use Rattle.std.proofs.lemmas.Nat.{from_be_bytes-to_be_bytes_2, from_be_bytes-to_be_bytes_4, from_le_bytes-to_le_bytes_4}
use Rattle.sctp_crc.specs.Crc.{crc32c, sum_of_packet}
use Rattle.sctp_wire_types.specs.declared.error.Fault.{Fault}
use Rattle.sctp_wire_types.specs.declared.error.Fault.TheVariants.{Long}
use Rattle.sctp_wire_types.specs.declared.packet.CommonHeader.{CommonHeader}
use Rattle.sctp_wire.specs.Results.{◌>>=◌}
use Rattle.sctp_wire.specs.Chunks.{chunks_at}
use Rattle.sctp_wire.proofs.ChunksAgain.{chunks_again}
use Rattle.sctp_wire.specs.declared.packet.Packet.{Packet}
use Rattle.sctp_wire.specs.declared.partial.PartialDecode.{PartialDecode}
use Rattle.sctp_wire.specs.Packets.{header_at, sum_at, partial_at, finished, packet_at, packet_fits, packet_is_plain}
use Rattle.sctp_wire.specs.Packets.{IsHeader, IsPacket, unsummed, spelling, written}

sum_below : (bytes : List ℕ) → sum_of_packet bytes < 2 ^ 32
unfolding sum_of_packet crc32c
sum_below bytes = omega arith

-- the checksum does not look at its own field
same_sum : (p : Packet) → sum_of_packet (spelling p) ≡ sum_of_packet (unsummed p)
unfolding sum_of_packet spelling
same_sum p = refl

header_made : (h : CommonHeader) (a b c : ℕ) → a ≡ h.source_port → b ≡ h.destination_port → c ≡ h.verification_tag
    → record { source_port = a; destination_port = b; verification_tag = c } ≡ h
header_made h a b c e f g = rw (e, f, g) refl

partial_made : (bytes : List ℕ) (h : CommonHeader) (rest : List ℕ) → 12 ≤ length bytes
    → sum_at bytes ≡ sum_of_packet bytes → header_at bytes ≡ h → drop 12 bytes ≡ rest
    → partial_at bytes ≡ Ok (record { common_header = h; remaining = rest })
unfolding partial_at
partial_made bytes h rest long sum header tail =
    let t : ltb (length bytes) 12 ≡ false = le-ltb _ _ long in
    let s : eqb (sum_at bytes) (sum_of_packet bytes) ≡ true = eq-eqb _ _ sum in
    rw (t, s, header, tail) refl

finished_made : (d : PartialDecode) (p : Packet) → d.common_header ≡ p.common_header
    → chunks_at d.remaining ≡ Ok p.chunks → finished d ≡ Ok p
unfolding finished
finished_made d p header chunks = rw (chunks, header) refl

spelled_partial : (p : Packet) (rest : List ℕ) → IsHeader p.common_header → drop 12 (spelling p) ≡ rest
    → partial_at (spelling p) ≡ Ok (record { common_header = p.common_header; remaining = rest })
unfolding spelling
spelled_partial p rest h tail =
    let s : ℕ = sum_of_packet (unsummed p) in
    let sum : sum_at (spelling p) ≡ sum_of_packet (spelling p) =
    from_le_bytes-to_le_bytes_4 (sum_of_packet (unsummed p)) (sum_below (unsummed p)) ∙ sym (same_sum p) in
    partial_made (spelling p) p.common_header rest (omega arith) sum
    (header_made p.common_header _ _ _ (from_be_bytes-to_be_bytes_2 p.common_header.source_port h.0)
    (from_be_bytes-to_be_bytes_2 p.common_header.destination_port h.1)
    (from_be_bytes-to_be_bytes_4 p.common_header.verification_tag h.2)) tail

pub packet_again : (p : Packet) → IsPacket p → packet_fits p ≡ true → packet_is_plain p ≡ true
    → packet_at (spelling p) ≡ Ok p
unfolding spelling
packet_again p h fits plain =
    ap (λ r. r >>= finished) (spelled_partial p (drop 12 (spelling p)) h.0 refl)
    ∙ finished_made (record { common_header = p.common_header; remaining = drop 12 (spelling p) }) p refl
    (chunks_again p.chunks h.1 fits plain)

abbrev done : List ℕ → Result (List ℕ) Fault
done x = Ok x

chosen : (b : Bool) (x y : List ℕ) → cond b (done x) (Err Long) ≡ done y → (b ≡ true) × (x ≡ y)
chosen true x y e = (refl, cc)
chosen false x y e = absurd cc

pub written_again : (p : Packet) (bytes : List ℕ) → written p ≡ Ok bytes → IsPacket p → packet_is_plain p ≡ true
    → packet_at bytes ≡ Ok p
unfolding written
written_again p bytes e h plain =
    let w = chosen (packet_fits p) (spelling p) bytes e in
    ap packet_at (sym w.1) ∙ packet_again p h w.0 plain
