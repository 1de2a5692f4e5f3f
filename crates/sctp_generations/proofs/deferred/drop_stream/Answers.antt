use Rattle.std.proofs.Common.{not, rules}
use Rattle.std.proofs.lemmas.Fn.{filter_same}
use Rattle.sctp_wire_types.specs.declared.chunk.ChunkPayloadData.{ChunkPayloadData}
use Rattle.sctp_generations.specs.Deferred.{is_of}
use Rattle.sctp_generations.proofs.deferred.drop_stream.Goals as goal

pub returns : goal.returns
returns c =
    filter_same _ (λ (d : ChunkPayloadData). not (is_of c.args.id d)) _ (λ x b f' k. search rules) _ _
    c.retain.ensures.filtered
