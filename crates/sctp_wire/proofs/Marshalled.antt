-- A packet with its checksum set is spelled.
use Rattle.std.proofs.Common.{◌≡◌, ℕ, true, List, ◌++◌, length, take, drop, Ok, refl, ap, ◌∙◌}
use Rattle.std.proofs.Common.{arith}
use Rattle.std.specs.Int.{w32, to_le_bytes}
use Rattle.std.proofs.lemmas.List.{append-nil, drop_all, take_all}
use Rattle.sctp_crc.specs.Crc.{sum_of_packet}
use Rattle.sctp_wire.specs.declared.packet.Packet.{Packet}
use Rattle.sctp_wire.specs.Packets.{packet_fits, unsummed, spelling, written}

summed : (p : Packet) (items out : List ℕ) (sum : ℕ) → items ≡ unsummed p → sum ≡ sum_of_packet items
    → out ≡ take 8 items ++ to_le_bytes w32 sum ++ drop 12 items → out ≡ spelling p
unfolding spelling
summed p items out sum made summing put = put ∙ rw (summing, made) refl

same_length : (p : Packet) (items out : List ℕ) (sum : ℕ) → items ≡ unsummed p
    → out ≡ take 8 items ++ to_le_bytes w32 sum ++ drop 12 items → length out ≡ length items
same_length p items out sum made put = rw (put, made) refl

whole : (out items : List ℕ) (len : ℕ) → length out ≡ length items → len ≡ length items
    → take len (out ++ drop (length out) items) ≡ out
whole out items len same is =
    let nothing = drop_all (length out) items (omega arith) in
    ap (λ rest. take len (out ++ rest)) nothing ∙ ap (λ all. take len all) (append-nil out)
    ∙ take_all len out (omega arith)

module _ (p : Packet) (items out last : List ℕ) (sum len : ℕ) where
  pub marshalled : packet_fits p ≡ true → items ≡ unsummed p → sum ≡ sum_of_packet items
      → out ≡ take 8 items ++ to_le_bytes w32 sum ++ drop 12 items → last ≡ take len (out ++ drop (length out) items)
      → len ≡ length items → written p ≡ Ok last
  unfolding written
  marshalled fits made summing put ended is =
      let spelled =
      ended ∙ whole out items len (same_length p items out sum made put) is ∙ summed p items out sum made summing put in
      rw (fits, spelled) refl
