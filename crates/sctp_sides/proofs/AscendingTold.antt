-- A close tells the last counters of streams that ascend, and a FORWARD TSN names streams that do.
use Rattle.std.proofs.Common.{◌≡◌, refl, ap, ◌∙◌, ℕ, List, [], ◌∷◌, ◌++◌, map, nat_cmp}
use Rattle.std.specs.BTreeMap.{insert_entry}
use Rattle.std.specs.List.{AllByRecursion, fold}
use Rattle.std.proofs.lemmas.List.{append_assoc}
use Rattle.sctp_outbound_queue.specs.declared.message.InFlight.{InFlight}
use Rattle.sctp_streams.specs.declared.event.AssociationError.{AssociationError}
use Rattle.sctp_streams.specs.declared.event.Event.TheVariants.{AssociationLost, DataChannelStatsFinal}
use Rattle.sctp_streams.specs.Stream.{StreamView}
use Rattle.sctp_streams.specs.Streams.{last_stats, stats_of_each}
use Rattle.sctp_outbound.specs.Forward.{abandoned_front, skipped_numbers, skipped_stream, skipped_with}
use Rattle.sctp_resets.proofs.ListsOver.{of_chosen}
use Rattle.sctp_sides.specs.Ascending.{ClosesTellAscending, ForwardsAscend, IsAscending, IsNamed, final_ids}
use Rattle.sctp_sides.specs.Ascending.{skipped_ids}
use Rattle.sctp_sides.proofs.AscendingLists.{Rises, rises_with_entry}

-- the last counters that a close tells are those of the live streams, which they name
finals_named : (es : List (ℕ × StreamView)) (reason : AssociationError) → AllByRecursion IsNamed es
    → final_ids (map DataChannelStatsFinal (stats_of_each es) ++ AssociationLost reason ∷ []) ≡ map (λ e. e.0) es
finals_named [] reason each = refl
finals_named (e ∷ es) reason each =
    ap (λ (n : ℕ). n ∷ final_ids (map DataChannelStatsFinal (stats_of_each es) ++ AssociationLost reason ∷ [])) each.0
    ∙ ap (λ (ns : List ℕ). e.0 ∷ ns) (finals_named es reason each.1)

pub closes_tell_ascending : ClosesTellAscending
closes_tell_ascending a reason h = (
  record {
    told = map DataChannelStatsFinal (last_stats a.streams) ++ AssociationLost reason ∷ [];
    behind =
        append_assoc a.events (map DataChannelStatsFinal (last_stats a.streams)) (AssociationLost reason ∷ []);
    finals = finals_named a.streams.by_id reason h.named;
  },
  h.ascending,
)

-- the numbers of skipped messages are kept by ascending streams
skipped_rise : (pieces : List InFlight) (numbers : List (ℕ × ℕ)) → Rises numbers
    → Rises (fold (λ numbers p. skipped_with numbers p.message) numbers pieces)
skipped_rise [] numbers h = h
skipped_rise (p ∷ pieces) numbers h =
    skipped_rise pieces (skipped_with numbers p.message)
    (of_chosen Rises p.message.unordered numbers
    (insert_entry nat_cmp numbers p.message.stream_identifier p.message.stream_sequence_number) h
    (rises_with_entry numbers p.message.stream_identifier p.message.stream_sequence_number h))

skips_ascend : (numbers : List (ℕ × ℕ)) → Rises numbers → IsAscending (skipped_ids (map skipped_stream numbers))
skips_ascend [] h = tt
skips_ascend (e ∷ []) h = tt
skips_ascend (e ∷ f ∷ numbers) h = (h.0.0, skips_ascend (f ∷ numbers) h.1)

pub forwards_ascend : ForwardsAscend
forwards_ascend s =
    skips_ascend (skipped_numbers (abandoned_front s)) (skipped_rise (abandoned_front s) [] tt)
