use Rattle.std.proofs.Common.{not, rules}
use Rattle.std.proofs.lemmas.Fn.{filter_same}
use Rattle.sctp_wire_types.specs.declared.chunk.ChunkPayloadData.{ChunkPayloadData}
use Rattle.sctp_serial.specs.Serial.{tsn_lte}
use Rattle.sctp_receive_queues.proofs.row.keep_above.Goals as goal

pub returns : goal.returns
returns c =
    filter_same _ (λ (p : ChunkPayloadData). not (tsn_lte p.tsn c.args.tsn)) _ (λ x b f' k. search rules) _ _
    c.retain.ensures.filtered
