use Rattle.std.proofs.Common.{◌≡◌, ◌∙◌, ◌+◌, ◌≤◌, ap, arith, drop, length, min, take}
use Rattle.std.specs.Prelude.{slice_range, sum_by}
use Rattle.std.proofs.lemmas.List.Sums.{sum_by-append}
use Rattle.sctp_outbound_queue.specs.Message.{piece_count}
use Rattle.sctp_outbound_queue.proofs.EmptyPlaces.{range_before, range_behind}
use Rattle.sctp_outbound_queue.proofs.QueuedBytes.{fold_saturates_twice}
use Rattle.sctp_outbound_queue.proofs.over_waiting.pieces_of.Goals as goal

pub returns : goal.returns
returns c =
    let ms = c.args.messages.now.items in
    let end = c.min-end.result in
    let many : c.len-all.result ≡ length ms = omega (arith, c.len-all.ensures, c.args.messages.now.ok.0) in
    let at : end ≡ min c.args.settled (length ms) = omega (arith, c.min-end.ensures, many) in
    let none : 0 ≤ 18446744073709551615 = omega arith in
    let first = c.add_pieces-first.ensures
    ∙ fold_saturates_twice piece_count 18446744073709551615 0 (slice_range ms 0 end) none in
    let small : c.add_pieces-first.result ≤ 18446744073709551615 = omega (arith, c.add_pieces-first.type_inv) in
    let all = c.add_pieces.ensures
    ∙ fold_saturates_twice piece_count 18446744073709551615 c.add_pieces-first.result
    (slice_range ms (end + c.args.dead) c.len-all.result) small in
    let before = ap (sum_by piece_count) (range_before c.args.settled end ms at) in
    let behind = ap (λ n. sum_by piece_count (slice_range ms (end + c.args.dead) n)) many
    ∙ ap (sum_by piece_count) (range_behind c.args.settled c.args.dead end ms c.requires at) in
    let both = sum_by-append piece_count (take c.args.settled ms) (drop (c.args.settled + c.args.dead) ms) in
    omega (arith, first, all, before, behind, both)
