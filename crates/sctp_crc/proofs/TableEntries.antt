-- The table's entries.
use Rattle.std.proofs.Common.{◌≡◌, ℕ, ◌+◌, ◌*◌, ◌/◌, ◌%◌, ◌<◌, get_or, map, refl, ap, ◌∙◌, arith}
use Rattle.std.specs.List.{range_with_len}
use Rattle.std.proofs.lemmas.List.FromFn.{get_or-map-range_with_len}
use Rattle.sctp_crc.specs.declared.table.TheConstants.{TABLE}
use Rattle.sctp_crc.specs.Crc.{crc_bit, crc_bits}

abbrev entry : ℕ → ℕ
entry i = crc_bits (8 * (i / 256) + 8) (i % 256)

table_computed : TABLE ≡ map entry (range_with_len 0 4096)
unfolding crc_bits crc_bit
table_computed = refl

pub table_is : (k b : ℕ) → k < 16 → b < 256 → get_or TABLE (256 * k + b) 0 ≡ crc_bits (8 * k + 8) b
table_is k b lt fits =
    let row : (256 * k + b) / 256 ≡ k = omega arith in
    let column : (256 * k + b) % 256 ≡ b = omega arith in
    let found : get_or (map entry (range_with_len 0 4096)) (256 * k + b) 0 ≡ entry (256 * k + b) =
    get_or-map-range_with_len entry 0 4096 (256 * k + b) (256 * k + b) 0 (omega arith) (omega arith) in
    ap (λ t. get_or t (256 * k + b) 0) table_computed ∙ found ∙ rw (row, column) refl
