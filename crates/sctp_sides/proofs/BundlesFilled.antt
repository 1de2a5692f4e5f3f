-- No packet of DATA that a poll gives is empty.
use Rattle.std.proofs.Common.{◌≡◌, ⊎_elim, ℕ, ◌<◌, arith, true, false, List, [], ◌∷◌, length}
use Rattle.std.specs.List.{AllByRecursion}
use Rattle.std.proofs.lemmas.Bool.{cases_Bool}
use Rattle.sctp_wire_types.specs.declared.chunk.ChunkPayloadData.{ChunkPayloadData}
use Rattle.sctp_wire.specs.DataPackets.{DataWritten, closed, data_fits, has_room, nothing_written, unless_empty}
use Rattle.sctp_wire.specs.DataPackets.{with_all}
use Rattle.sctp_wire.specs.DataPackets.{with_data}
use Rattle.sctp_inbound.specs.Handshake.{header_of}
use Rattle.sctp_model.proofs.Lists.{all_join}
use Rattle.sctp_assoc.specs.Gather.{data_polled, fast_polled, fast_sent, late_abandoned, marks_polled, marks_sent}
use Rattle.sctp_assoc.specs.Gather.{new_sent}
use Rattle.sctp_assoc.specs.Shown.{Shown}

abbrev pub IsFilled : List ChunkPayloadData → Type 0
IsFilled cs = 0 < length cs

abbrev AreFilled : DataWritten → Type 0
AreFilled w = AllByRecursion IsFilled w.done

unless_filled : (cs : List ChunkPayloadData) → AllByRecursion IsFilled (unless_empty cs)
unless_filled [] = tt
unless_filled (c ∷ cs) = (omega arith, tt)

closed_filled : (w : DataWritten) → AreFilled w → AreFilled (closed w)
closed_filled w filled = all_join IsFilled w.done (unless_empty w.current) filled (unless_filled w.current)

data_filled : (w : DataWritten) (c : ChunkPayloadData) → AreFilled w → AreFilled (with_data w c)
data_filled w c filled = ⊎_elim
    (λ (fits : data_fits c ≡ true). ⊎_elim
    (λ (room : has_room w c ≡ true). rw (fits, room) filled)
    (λ (full : has_room w c ≡ false). rw (fits, full) (closed_filled w filled))
    (cases_Bool (has_room w c)))
    (λ (long : data_fits c ≡ false). rw long filled)
    (cases_Bool (data_fits c))

all_filled : (w : DataWritten) (cs : List ChunkPayloadData) → AreFilled w → AreFilled (with_all w cs)
all_filled w [] filled = filled
all_filled w (c ∷ cs) filled = all_filled (with_data w c) cs (data_filled w c filled)

closed_after : (w : DataWritten) (cs : List ChunkPayloadData) → AreFilled w → AreFilled (closed (with_all w cs))
closed_after w cs filled = closed_filled (with_all w cs) (all_filled w cs filled)

pub polled_bundles_are_filled : (a : Shown) (now : ℕ) → AllByRecursion IsFilled (data_polled a now).1
unfolding data_polled
polled_bundles_are_filled a now =
    let none = nothing_written (header_of a.handshake) (late_abandoned a now).sender.mtu in
    let marked = closed (with_all none (marks_sent (late_abandoned a now))) in
    let missing = closed (with_all marked (fast_sent (marks_polled a now))) in
    closed_after missing (new_sent (fast_polled a now) now)
    (closed_after marked (fast_sent (marks_polled a now)) (closed_after none (marks_sent (late_abandoned a now)) tt))
