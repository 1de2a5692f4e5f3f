-- New DATA of a generation that is not read yet is kept apart, and other new DATA is taken in.
use Rattle.std.proofs.Common.{◌≡◌, refl, ap, ◌∙◌, Bool, true, false, not, if◌then◌else◌, Option}
use Rattle.std.proofs.lemmas.Bool.{false≢true, true≢false}
use Rattle.sctp_wire_types.specs.declared.chunk.ChunkPayloadData.{ChunkPayloadData}
use Rattle.sctp_wire_types.specs.declared.error.Error.{Error}
use Rattle.sctp_inbound.specs.declared.receiver.AckTrigger.{AckTrigger}
use Rattle.sctp_inbound.specs.Receiver.{is_new_to}
use Rattle.sctp_resets.specs.Resets.{is_hidden}
use Rattle.sctp_assoc.specs.declared.inbound.Flow.{Flow}
use Rattle.sctp_assoc.specs.Chunks.{asks, asks_or_faults, counted_data, deferred_where_admitted, on_data, on_new_data}
use Rattle.sctp_assoc.specs.Chunks.{stream_found, taken_where_admitted}
use Rattle.sctp_assoc.specs.Resets.{settled}
use Rattle.sctp_assoc.specs.Shown.{Shown}

abbrev on_data_if : Bool → Bool → Shown → ChunkPayloadData → AckTrigger → Shown × Flow
on_data_if new hidden a piece trigger =
    if not new then asks (settled a) piece.immediate_sack trigger else
    if hidden then asks_or_faults (deferred_where_admitted a piece) piece.immediate_sack trigger else
    on_new_data (stream_found a piece.stream_identifier) piece trigger

deferred_if : (new hidden : Bool) (a : Shown) (piece : ChunkPayloadData) (trigger : AckTrigger) → new ≡ true
    → hidden ≡ true
    → on_data_if new hidden a piece trigger
    ≡ asks_or_faults (deferred_where_admitted a piece) piece.immediate_sack trigger
deferred_if true true a piece trigger next out = refl
deferred_if true false a piece trigger next out = absurd (false≢true out)
deferred_if false hidden a piece trigger next out = absurd (false≢true next)

pub data_is_deferred : (a b : Shown) (piece : ChunkPayloadData) (trigger : AckTrigger) (fault : Option Error)
    → is_new_to a.receiver piece.tsn ≡ true → is_hidden a.resets piece.stream_identifier piece.tsn ≡ true
    → deferred_where_admitted (counted_data a) piece ≡ (b, fault)
    → on_data a piece trigger ≡ asks_or_faults (b, fault) piece.immediate_sack trigger
unfolding on_data
data_is_deferred a b piece trigger fault next hidden e =
    deferred_if (is_new_to a.receiver piece.tsn) (is_hidden a.resets piece.stream_identifier piece.tsn)
    (counted_data a) piece trigger next hidden
    ∙ ap (λ (x : Shown × Option Error). asks_or_faults x piece.immediate_sack trigger) e

taken_if : (new hidden : Bool) (a : Shown) (piece : ChunkPayloadData) (trigger : AckTrigger) → new ≡ true
    → hidden ≡ false
    → on_data_if new hidden a piece trigger ≡ on_new_data (stream_found a piece.stream_identifier) piece trigger
taken_if true false a piece trigger next read = refl
taken_if true true a piece trigger next read = absurd (true≢false read)
taken_if false hidden a piece trigger next read = absurd (false≢true next)

pub data_is_taken : (a b c : Shown) (piece : ChunkPayloadData) (trigger : AckTrigger) (fault : Option Error)
    → is_new_to a.receiver piece.tsn ≡ true → is_hidden a.resets piece.stream_identifier piece.tsn ≡ false
    → stream_found (counted_data a) piece.stream_identifier ≡ (b, true)
    → taken_where_admitted b piece ≡ (c, fault)
    → on_data a piece trigger ≡ asks_or_faults (c, fault) piece.immediate_sack trigger
unfolding on_data
data_is_taken a b c piece trigger fault next read found e =
    taken_if (is_new_to a.receiver piece.tsn) (is_hidden a.resets piece.stream_identifier piece.tsn)
    (counted_data a) piece trigger next read
    ∙ ap (λ (x : Shown × Bool). on_new_data x piece trigger) found
    ∙ ap (λ (x : Shown × Option Error). asks_or_faults x piece.immediate_sack trigger) e
