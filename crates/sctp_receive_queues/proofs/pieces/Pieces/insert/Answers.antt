use Rattle.std.proofs.Common.{◌≡◌, ◌+◌, ◌^◌, ◌-◌, ◌%◌, sym, insert, length, arith, IfSome, max, rules}
use Rattle.std.specs.Option.{option_map}
use Rattle.std.proofs.lemmas.List.Sums.{sum_by-insert}
use Rattle.sctp_wire_types.specs.declared.chunk.ChunkPayloadData.{ChunkPayloadData}
use Rattle.sctp_receive_queues.specs.Reach.{AreWithin}
use Rattle.sctp_receive_queues.proofs.Reach.{farther_within, past_is}
use Rattle.sctp_receive_queues.proofs.pieces.Pieces.insert.Goals as goal

pub invariant_of-self-2 : goal.invariant_of-self-2
invariant_of-self-2 c =
    let q = c.self.inside in
    let i = c.place_of-index.result in
    let all : c.insert.new.self ≡ insert q.list i c.args.piece = search rules in
    let sums = sum_by-insert (λ (p : ChunkPayloadData). length p.user_data) q.list i c.args.piece in
    let long : c.len-bytes.result ≡ length c.args.piece.user_data = search rules in
    let far = (c.args.piece.tsn + (2 ^ 32 - q.base)) % 2 ^ 32 in
    let farther : c.further-self-inside.result ≡ option_map (max far) q.reach = c.further-self-inside.ensures in
    let within : IfSome (option_map (max far) q.reach) (AreWithin q.base (insert q.list i c.args.piece)) =
    farther_within q.base i far q.reach c.args.piece q.list (search rules)
    (sym (past_is q.base c.args.piece.tsn (search rules))) c.self.invariant.1 in
    rw all (omega (arith, sums, long, c.self.invariant.0), rw farther within)
