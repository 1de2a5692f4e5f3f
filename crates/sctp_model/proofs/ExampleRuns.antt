-- The runs compute.
use Rattle.std.proofs.Common.{refl}
use Rattle.sctp_model.specs.Machine.{happens}
use Rattle.sctp_model.specs.Runs.{ClosedReadsNothing, DroppedUnsent, FirstAbandonedAndSkipped}
use Rattle.sctp_model.specs.Runs.{LateForwardChangesNothing, LateNumberLeavesTheCursor, PiecesOutOfOrder}
use Rattle.sctp_model.specs.Runs.{SacksReleaseOnce, SequenceNumbersWrap, StreamBeginsAnew, StreamsDoNotWait}
use Rattle.sctp_model.specs.Runs.{UnorderedIsDropped, UnorderedIsReadFirst}

pub pieces_out_of_order : PiecesOutOfOrder
unfolding happens
pieces_out_of_order = refl

pub first_abandoned_and_skipped : FirstAbandonedAndSkipped
unfolding happens
first_abandoned_and_skipped = refl

pub late_forward_changes_nothing : LateForwardChangesNothing
unfolding happens
late_forward_changes_nothing = refl

pub unordered_is_read_first : UnorderedIsReadFirst
unfolding happens
unordered_is_read_first = refl

pub sequence_numbers_wrap : SequenceNumbersWrap
sequence_numbers_wrap = refl

pub late_number_leaves_the_cursor : LateNumberLeavesTheCursor
unfolding happens
late_number_leaves_the_cursor = (refl, refl, refl, refl, refl)

pub sacks_release_once : SacksReleaseOnce
unfolding happens
sacks_release_once = (refl, refl, refl, refl)

pub unordered_is_dropped : UnorderedIsDropped
unfolding happens
unordered_is_dropped = (refl, refl, refl)

pub streams_do_not_wait : StreamsDoNotWait
unfolding happens
streams_do_not_wait = (refl, refl, refl)

pub dropped_unsent : DroppedUnsent
unfolding happens
dropped_unsent = (refl, refl, refl)

pub closed_reads_nothing : ClosedReadsNothing
unfolding happens
closed_reads_nothing = refl

pub stream_begins_anew : StreamBeginsAnew
unfolding happens
stream_begins_anew = (refl, refl, refl, refl, refl, refl, refl, refl)
