-- DATA of a generation of its stream that is not read yet stays out of that stream.
use Rattle.std.proofs.Common.{◌≡◌, refl, sym, ap, ◌∙◌, subst, ℕ, ◌==◌, Bool, true, false, ◌&&◌, ◌||◌, not, cond}
use Rattle.std.proofs.Common.{if◌then◌else◌, List, Option, Some, None, is_some, ◌⊎◌, ⊎_elim, inl, inr}
use Rattle.std.proofs.lemmas.Bool.{false≢true, or_parts}
use Rattle.sctp_wire_types.specs.declared.chunk.ChunkPayloadData.{ChunkPayloadData}
use Rattle.sctp_wire_types.specs.declared.error.Error.{Error}
use Rattle.sctp_serial.specs.Serial.{tsn_gt, tsn_lt}
use Rattle.sctp_inbound.specs.declared.receiver.AckTrigger.{AckTrigger}
use Rattle.sctp_inbound.specs.Receiver.{admits}
use Rattle.sctp_generations.specs.Deferred.{is_above}
use Rattle.sctp_generations.specs.Generations.{has_skips}
use Rattle.sctp_generations.specs.Retiring.{boundaries_at}
use Rattle.sctp_reset_requests.specs.Peer.{advanced_with, boundary_for, is_behind_one, is_one_due}
use Rattle.sctp_reset_requests.specs.Request.{PeerRequestView, names}
use Rattle.sctp_resets.specs.Channels.{Channels}
use Rattle.sctp_resets.specs.Resets.{Beside, Resetting, ResetsView, is_retiring, refusal_of, settled_where}
use Rattle.sctp_resets.specs.declared.performing.Settled.{Settled}
use Rattle.sctp_resets.proofs.OthersStay.{skips_plainly}
use Rattle.sctp_assoc.specs.Chunks.{asks, asks_or_faults, counted_data, deferred_unless, deferred_where_admitted}
use Rattle.sctp_assoc.specs.Chunks.{on_data}
use Rattle.sctp_assoc.specs.Closing.{is_exhausted}
use Rattle.sctp_assoc.specs.Resets.{channels_of, settled, settled_with, settling_takes_memory, skips_applied}
use Rattle.sctp_assoc.specs.Resets.{with_beside}
use Rattle.sctp_assoc.specs.Shown.{Shown, all_waiting}
use Rattle.sctp_sides.proofs.PeerRequestsInChunks.{flow_same}
use Rattle.sctp_sides.specs.Repeats.{DataBehindIsForLater, IsReadOfOld, KeptDataReachesNoStream, LaterDataStaysOut}
use Rattle.sctp_sides.specs.Repeats.{LeavesTheStreams, OtherDataIsReadNow, RetiringDataIsForLater, RetiringDataStaysOut}

-- Above the last TSN of a request in progress

above_if : (same lower : Bool) → (not same && not lower) ≡ true → not (same || lower) ≡ true
above_if true lower e = e
above_if false lower e = e

named_above : (named : Bool) (tsn last : ℕ) → (named && tsn_gt tsn last) ≡ true
    → is_above (cond {A = Option ℕ} named (Some last) None) tsn ≡ true
named_above true tsn last e = above_if (tsn == last) (tsn_lt tsn last) e
named_above false tsn last e = absurd (false≢true e)

behind_is_above : (o : Option PeerRequestView) (id tsn : ℕ) → is_behind_one o id tsn ≡ true
    → is_above (boundary_for o id) tsn ≡ true
behind_is_above None id tsn e = absurd (false≢true e)
behind_is_above (Some r) id tsn e = named_above (names r id) tsn r.last_tsn e

either : (first second : Bool) → second ≡ true → (first || second) ≡ true
either true second e = refl
either false second e = e

pub data_behind_is_for_later : DataBehindIsForLater
data_behind_is_for_later a piece e =
    either (is_retiring a.resets piece.stream_identifier) _
    (behind_is_above a.resets.peer.in_progress piece.stream_identifier piece.tsn e)

-- Of a stream of which an ended generation is still read

first_so : (first second : Bool) → first ≡ true → (first || second) ≡ true
first_so true second e = refl
first_so false second e = absurd (false≢true e)

pub retiring_data_is_for_later : RetiringDataIsForLater
retiring_data_is_for_later a piece old =
    first_so (is_retiring a.resets piece.stream_identifier) _ (ap is_some old.kept)

-- No other

below_if : (same lower : Bool) → not (same || lower) ≡ true → (not same && not lower) ≡ true
below_if true lower e = absurd (false≢true e)
below_if false lower e = e

named_behind : (named : Bool) (tsn last : ℕ) → is_above (cond {A = Option ℕ} named (Some last) None) tsn ≡ true
    → (named && tsn_gt tsn last) ≡ true
named_behind true tsn last e = below_if (tsn == last) (tsn_lt tsn last) e
named_behind false tsn last e = absurd (false≢true e)

above_is_behind : (o : Option PeerRequestView) (id tsn : ℕ) → is_above (boundary_for o id) tsn ≡ true
    → is_behind_one o id tsn ≡ true
above_is_behind None id tsn e = absurd (false≢true e)
above_is_behind (Some r) id tsn e = named_behind (names r id) tsn r.last_tsn e

boundaries_kept : (a : Shown) (id : ℕ) (o : Option (List ℕ)) → boundaries_at a.resets.generations.retiring id ≡ o
    → is_some o ≡ true → IsReadOfOld a id
boundaries_kept a id (Some boundaries) e some = record { boundaries = boundaries; kept = e }
boundaries_kept a id None e some = absurd (false≢true some)

one_of_two : (first second : Bool) → (first || second) ≡ true → (first ≡ true) ⊎ (second ≡ true)
one_of_two true second e = inl refl
one_of_two false second e = inr e

pub other_data_is_read_now : OtherDataIsReadNow
other_data_is_read_now a piece later =
    ⊎_elim
    (λ (retires : is_retiring a.resets piece.stream_identifier ≡ true).
    inl (boundaries_kept a piece.stream_identifier _ refl retires))
    (λ (above : is_above (boundary_for a.resets.peer.in_progress piece.stream_identifier) piece.tsn ≡ true).
    inr (above_is_behind a.resets.peer.in_progress piece.stream_identifier piece.tsn above))
    (one_of_two (is_retiring a.resets piece.stream_identifier) _ later)

-- What is kept

same_streams : (a : Shown) → LeavesTheStreams a a
same_streams a = record { streams = refl; events = refl; to_accept = refl }

then_leaves : (a b c : Shown) → LeavesTheStreams a b → LeavesTheStreams b c → LeavesTheStreams a c
then_leaves a b c x y = record {
  streams = y.streams ∙ x.streams;
  events = y.events ∙ x.events;
  to_accept = y.to_accept ∙ x.to_accept;
}

kept_leaves : (refusal : Option Error) (a : Shown) (piece : ChunkPayloadData)
    → LeavesTheStreams a (deferred_unless refusal a piece).0
kept_leaves (Some fault) a piece = same_streams a
kept_leaves None a piece = record { streams = refl; events = refl; to_accept = refl }

kept_if : (credit : Bool) (refusal : Option Error) (a : Shown) (piece : ChunkPayloadData)
    → LeavesTheStreams a (if credit then deferred_unless refusal a piece else (a, None)).0
kept_if true refusal a piece = kept_leaves refusal a piece
kept_if false refusal a piece = same_streams a

pub kept_data_reaches_no_stream : KeptDataReachesNoStream
unfolding deferred_where_admitted
kept_data_reaches_no_stream a piece =
    kept_if (admits a.receiver piece.tsn (all_waiting a))
    (refusal_of a.resets piece a.receiver.max_receive_message_size) a piece

-- Nothing is due behind it

none_is_due : (o : Option PeerRequestView) (cumulative_tsn first limit : ℕ) (r : ResetsView) (c : Channels)
    → is_one_due o cumulative_tsn ≡ false
    → settled_where (advanced_with o r.peer cumulative_tsn) first limit r c ≡ ((r, c), None)
none_is_due None cumulative_tsn first limit r c e = refl
none_is_due (Some q) cumulative_tsn first limit r c e = rw e refl

pub settles_nothing : (a : Shown) → settling_takes_memory a ≡ false → settled a ≡ a
unfolding settled
settles_nothing a none =
    let parts =
    or_parts (is_one_due a.resets.peer.in_progress a.receiver.peer_last_tsn) (has_skips a.resets.generations) none in
    ap (λ (x : Resetting × Option Settled). skips_applied (settled_with a x))
    (none_is_due a.resets.peer.in_progress a.receiver.peer_last_tsn a.sender.queue.next_message_id
    a.receiver.max_receive_message_size a.resets (channels_of a) parts.0)
    ∙ ap (λ (x : Beside). with_beside a x) (skips_plainly a.resets a.streams a.events parts.1)

asks_leaves : (a b : Shown) (immediate : Bool) (trigger : AckTrigger) → LeavesTheStreams a b
    → LeavesTheStreams a (asks b immediate trigger).0
asks_leaves a b immediate trigger leaves =
    subst (LeavesTheStreams a) (sym (flow_same (is_exhausted b) b _ _)) leaves

settled_leaves : (x : Shown × Option Error) (immediate : Bool) (trigger : AckTrigger)
    → settling_takes_memory x.0 ≡ false → LeavesTheStreams x.0 (asks_or_faults x immediate trigger).0
settled_leaves (a, None) immediate trigger none =
    asks_leaves a (settled a) immediate trigger
    (subst (LeavesTheStreams a) (sym (settles_nothing a none)) (same_streams a))
settled_leaves (a, Some fault) immediate trigger none = same_streams a

pub later_data_stays_out : LaterDataStaysOut
unfolding on_data
later_data_stays_out a piece trigger new later none =
    let b : Shown = counted_data a in
    let x = deferred_where_admitted b piece in
    rw (new, later)
    (then_leaves a x.0 (asks_or_faults x piece.immediate_sack trigger).0
    (then_leaves a b x.0 (record { streams = refl; events = refl; to_accept = refl })
    (kept_data_reaches_no_stream b piece))
    (settled_leaves x piece.immediate_sack trigger none))

pub retiring_data_stays_out : RetiringDataStaysOut
retiring_data_stays_out a piece trigger new old none =
    later_data_stays_out a piece trigger new (retiring_data_is_for_later a piece old) none
