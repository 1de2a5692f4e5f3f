-- The laws of an association between its directions, each by its name: what crates that build on this one cite of its
-- proofs.
pub use Rattle.sctp_directions.proofs.OutgoingWrote.{its_writes_are_accepted}
pub use Rattle.sctp_directions.proofs.OutgoingSentAgain.{its_marks_are_no_events, its_pieces_are_given}
pub use Rattle.sctp_directions.proofs.OutgoingAcknowledged.{its_acknowledgements_are_alike, sacks_mean_the_same}
pub use Rattle.sctp_directions.proofs.OutgoingAbandoned.{its_abandonments_are_alike, its_drops_are_alike}
pub use Rattle.sctp_directions.proofs.OutgoingAbandoned.{its_starts_are_no_events, its_tails_are_abandoned_alike}
pub use Rattle.sctp_directions.proofs.OutgoingForward.{forwards_pass_over_the_front, its_forwards_say_the_same}
pub use Rattle.sctp_directions.proofs.OutgoingBeside.{settings_are_no_events, what_comes_leaves_its_own}
pub use Rattle.sctp_directions.proofs.OrderKept.{only_settings_loosen}
pub use Rattle.sctp_directions.proofs.ReadsKept.{acts_keep_reads, only_ends_close_reads, own_acts_end_no_span}
pub use Rattle.sctp_directions.proofs.ReadsKept.{what_comes_ends_no_span}
pub use Rattle.sctp_directions.proofs.IncomingTook.{what_it_defers_comes, what_it_takes_in_comes}
pub use Rattle.sctp_directions.proofs.IncomingTook.{what_it_takes_in_past_its_span_comes}
pub use Rattle.sctp_directions.proofs.SpansOver.{its_spans_end, spans_of_what_comes_end}
pub use Rattle.sctp_directions.proofs.IncomingForward.{forwards_it_takes_come}
pub use Rattle.sctp_directions.proofs.IncomingReports.{reports_say_what_was_taken}
pub use Rattle.sctp_directions.proofs.IncomingBeside.{own_acts_leave_what_comes}
pub use Rattle.sctp_directions.proofs.InitialTsns.{acts_keep_the_initial_tsns}
pub use Rattle.sctp_directions.proofs.PeerKnown.{peer_known_is_no_event}
pub use Rattle.sctp_directions.proofs.LawsByEvent.{abandonments_assign_one_offset, closed_receivers_are_not_open}
pub use Rattle.sctp_directions.proofs.LawsByEvent.{events_keep_the_limits, fresh_directions_are_within}
pub use Rattle.sctp_directions.proofs.LawsByEvent.{only_beginnings_assign, only_forward_made_gives_forwards}
pub use Rattle.sctp_directions.proofs.LawsByEvent.{only_forwards_pass_over, only_reads_give_messages}
pub use Rattle.sctp_directions.proofs.LawsByEvent.{only_what_is_brought_is_taken_in}
pub use Rattle.sctp_directions.proofs.LawsByEvent.{only_writes_accept}
pub use Rattle.sctp_directions.proofs.LawsByEvent.{receivers_events_are_received, senders_events_are_sent}
pub use Rattle.sctp_directions.proofs.LawsByEvent.{senders_events_keep_the_invariant, writes_are_accepted_last}
pub use Rattle.sctp_directions.proofs.AcceptedCounted.{accepted_messages_are_counted, nothing_is_accepted_at_first}
pub use Rattle.sctp_directions.proofs.MessagePieces.{pieces_are_counted, short_messages_are_one_piece}
