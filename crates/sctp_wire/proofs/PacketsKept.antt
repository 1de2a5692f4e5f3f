-- A packet that was read can be written, and is read the same again.
use Rattle.std.proofs.Common.{◌≡◌, ℕ, true, List, Ok, refl}
use Rattle.sctp_wire_types.specs.declared.chunk.Chunk.{Chunk}
use Rattle.sctp_wire_types.specs.declared.packet.CommonHeader.{CommonHeader}
use Rattle.sctp_wire.specs.Chunks.{chunks_at}
use Rattle.sctp_wire.proofs.FramesKept.{AreBytes}
use Rattle.sctp_wire.proofs.ChunksKept.{chunks_kept}
use Rattle.sctp_wire.specs.declared.packet.Packet.{Packet}
use Rattle.sctp_wire.specs.Packets.{packet_at, packet_fits, IsHeader, spelling, written}
use Rattle.sctp_wire.proofs.PacketsAgain.{packet_again}

fits_written : (p : Packet) → packet_fits p ≡ true → written p ≡ Ok (spelling p)
unfolding written
fits_written p fits = rw fits refl

pub packet_kept : (h : CommonHeader) (bytes : List ℕ) (cs : List Chunk) → IsHeader h → AreBytes bytes
    → chunks_at bytes ≡ Ok cs
    → (written (record { common_header = h; chunks = cs }) ≡ Ok (spelling (record { common_header = h; chunks = cs })))
    × (packet_at (spelling (record { common_header = h; chunks = cs }))
    ≡ Ok (record { common_header = h; chunks = cs }))
packet_kept h bytes cs header are e =
    let k = chunks_kept bytes cs are e in
    let p : Packet = record { common_header = h; chunks = cs } in (
      fits_written (record { common_header = h; chunks = cs }) k.fits,
      packet_again (record { common_header = h; chunks = cs }) (header, k.ranges) k.fits k.plain,
    )
