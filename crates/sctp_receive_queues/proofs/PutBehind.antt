-- A piece that comes as a message of its own behind all that are held.
use Rattle.std.proofs.Common.{◌≡◌, ◌∙◌, ℕ, eqb, false, List, [], ◌∷◌, ◌++◌, length, insert, slice_get, None, refl, sym}
use Rattle.std.proofs.Common.{ap, true≢false}
use Rattle.std.proofs.lemmas.List.Edits.{insert_end}
use Rattle.sctp_wire_types.specs.declared.chunk.ChunkPayloadData.{ChunkPayloadData}
use Rattle.sctp_receive_queues.specs.Pieces.{refusal_of}
use Rattle.sctp_receive_queues.specs.Reassembly.{Group, group_of, index_of_ssn, index_for_ssn, with_ordered}
use Rattle.sctp_receive_queues.specs.Reassembly.{refusal_of_ordered}

pub put_behind : (gs hs : List Group) (p : ChunkPayloadData) → index_of_ssn p.stream_sequence_number gs ≡ None
    → index_for_ssn p.stream_sequence_number gs ≡ length gs → hs ≡ gs ++ group_of p ∷ [] → hs ≡ with_ordered gs p
put_behind gs hs p none last e =
    let place : with_ordered gs p ≡ insert gs (index_for_ssn p.stream_sequence_number gs) (group_of p) =
    rw none refl in
    e ∙ sym (insert_end gs (group_of p)) ∙ ap (λ (n : ℕ). insert gs n (group_of p)) (sym last) ∙ sym place

-- it is refused as one of which no other piece is held
pub refused_behind : (gs : List Group) (p : ChunkPayloadData) (limit : ℕ)
    → index_of_ssn p.stream_sequence_number gs ≡ None → refusal_of_ordered gs p limit ≡ refusal_of [] p limit
refused_behind gs p limit none = rw none refl

-- where there is a first message it stays
pub first_stays : (gs hs : List Group) (x : Group) → eqb (length gs) 0 ≡ false → hs ≡ gs ++ x ∷ []
    → slice_get hs 0 ≡ slice_get gs 0
first_stays [] hs x none e = absurd (true≢false none)
first_stays (g ∷ gs) hs x some e = rw e refl
