-- Label and protocol have the lengths that the header says.
use Rattle.std.proofs.Common.{◌≡◌, sym, ℕ, List, length, drop, arith}
use Rattle.std.proofs.lemmas.List.{length-drop, length-take-le}
use Rattle.dcep_messages.specs.Codec.{IsOpenMessage, label_in, label_length_in, protocol_in, protocol_length_in, u16_at}

pub of_label : (bytes : List ℕ) → IsOpenMessage bytes → u16_at bytes 8 ≡ length (label_in bytes)
of_label bytes h =
    sym (length-take-le (label_length_in bytes) (drop 12 bytes) (omega (arith, h.3, length-drop 12 bytes)))

pub of_protocol : (bytes : List ℕ) → IsOpenMessage bytes → u16_at bytes 10 ≡ length (protocol_in bytes)
of_protocol bytes h =
    sym (length-take-le (protocol_length_in bytes) (drop (label_length_in bytes) (drop 12 bytes))
    (omega (arith, h.3, length-drop 12 bytes, length-drop (label_length_in bytes) (drop 12 bytes))))
