-- The laws of one side, each by its name: what crates that build on this one cite of its proofs.
pub use Rattle.sctp_assoc.proofs.ActsKeepOffsets.{acts_tied, done_append, given_append}
pub use Rattle.sctp_sides.proofs.PacketLaws.{closed_sides_exchange_nothing}
pub use Rattle.sctp_sides.proofs.PacketLaws.{chunks_lead_on, established_is_not_closed, exhaustion_closes, faults_close}
pub use Rattle.sctp_sides.proofs.PacketLaws.{lost_associations_take_nothing, no_packet_changes_nothing, packets_carry}
pub use Rattle.sctp_sides.proofs.PacketLaws.{packets_end}
pub use Rattle.sctp_assoc.proofs.CallsLeadOn.{open_leads_on, poll_leads_on}
pub use Rattle.sctp_assoc.proofs.ReadsLeadOn.{plain_read_leads, read_leads_on}
pub use Rattle.sctp_sides.proofs.PastPackets.{past_packets_carry}
pub use Rattle.sctp_assoc.proofs.CallsLeadOn.{timeouts_lead_on}
pub use Rattle.sctp_assoc.proofs.CallsLeadOn.{close_leads_on, accept_leads_on, limit_leads_on, setting_leads_on}
pub use Rattle.sctp_assoc.proofs.CallsLeadOn.{write_leads_on}
pub use Rattle.sctp_sides.proofs.LiveStreams.{accepted_writes_fit, found_streams_are_live, opened_streams_hold_nothing}
pub use Rattle.sctp_sides.proofs.LiveStreams.{opened_streams_were_not_live, settings_hold_nothing}
pub use Rattle.sctp_sides.proofs.LiveStreams.{what_holds_nothing_gives_nothing}
pub use Rattle.sctp_sides.proofs.HandshakeChunks.{established_sides_talk, the_same_handshake_is_the_same_stage}
pub use Rattle.sctp_assoc.proofs.PollsLeadOn.{forwardings_are_silent, reports_are_silent}
pub use Rattle.sctp_sides.proofs.PolledPackets.{polls_outside_an_exchange_give_what_waits, polls_say_their_acts}
pub use Rattle.sctp_sides.proofs.PolledPackets.{no_reset_goes_out, what_waits_goes_out_as_it_is}
pub use Rattle.sctp_sides.proofs.WithoutResets.{what_waits_goes_out}
pub use Rattle.sctp_sides.proofs.ActsPast.{data_opens_or_takes, forwards_pass_over, i_forwards_pass_over}
pub use Rattle.sctp_sides.proofs.ActsPast.{reconfigs_end_past}
pub use Rattle.sctp_sides.proofs.ActsOfChunks.{greetings_make_the_peer_known}
pub use Rattle.sctp_sides.proofs.ActsOfChunks.{only_forwards_ahead_pass_over, other_chunks_do_nothing}
pub use Rattle.sctp_sides.proofs.ActsOfChunks.{unused_forwards_do_nothing}
pub use Rattle.sctp_sides.proofs.ActsOfChunks.{other_sacks_do_nothing, polls_give_and_report, sacks_acknowledge}
pub use Rattle.sctp_sides.proofs.ActsOfChunks.{taken_sacks_acknowledge, timeouts_mark_at_most}
pub use Rattle.sctp_sides.proofs.Status.{opened_streams_keep_the_status, reads_keep_the_status}
pub use Rattle.sctp_sides.proofs.ReconfigStatus.{reconfigs_keep_the_status}
pub use Rattle.sctp_sides.proofs.ActsOfPolls.{other_polls_do_nothing_in_front, polls_end_last, polls_lead_on_in_front}
pub use Rattle.sctp_sides.proofs.StatusOfPolls.{polls_keep_the_stage, the_same_status_is_the_same_stage}
pub use Rattle.sctp_sides.proofs.Status.{accepted_streams_keep_the_status, limits_keep_the_status}
pub use Rattle.sctp_sides.proofs.Status.{reads_change_streams_alone, settings_keep_the_status}
pub use Rattle.sctp_sides.proofs.Status.{timers_keep_the_status, told_events_keep_the_status}
pub use Rattle.sctp_sides.proofs.Status.{told_windows_keep_the_status, writes_keep_the_status}
pub use Rattle.sctp_sides.proofs.ChunksPast.{chunks_reset_no_more}
pub use Rattle.sctp_sides.proofs.ShutdownCalls.{endpoint_event_leads_on, endpoint_events_begin_no_reset}
pub use Rattle.sctp_sides.proofs.ShutdownCalls.{endpoint_events_keep_the_status, endpoint_events_reset_no_more}
pub use Rattle.sctp_sides.proofs.ShutdownCalls.{shutdown_leads_on, shutdowns_begin_no_reset, shutdowns_keep_the_stage}
pub use Rattle.sctp_sides.proofs.ShutdownCalls.{shutdowns_reset_no_more}
pub use Rattle.sctp_sides.proofs.StopsAndReads.{reads_lead_on, stops_are_in_established, stops_keep_the_status}
pub use Rattle.sctp_sides.proofs.ClosingCalls.{accepted_streams_do_not_close, closes_close, settings_do_not_close}
pub use Rattle.sctp_sides.proofs.HandshakeTruth.{greetings_stay_true}
pub use Rattle.sctp_sides.proofs.FirstBegunRuns.{created_sides_have_nothing_to_send, joined_sides_have_nothing_to_send}
pub use Rattle.sctp_sides.proofs.PollsInTime.{nothing_late_goes_out}
pub use Rattle.sctp_sides.proofs.BeginsNoReset.{accepted_streams_begin_no_reset, closes_begin_no_reset}
pub use Rattle.sctp_sides.proofs.BeginsNoReset.{created_sides_reset_nothing, exhaustion_begins_no_reset}
pub use Rattle.sctp_sides.proofs.BeginsNoReset.{joined_sides_reset_nothing, limits_begin_no_reset}
pub use Rattle.sctp_sides.proofs.BeginsNoReset.{opened_streams_begin_no_reset, other_chunks_begin_no_reset}
pub use Rattle.sctp_sides.proofs.BeginsNoReset.{packet_ends_begin_no_reset, polls_begin_no_reset, reads_begin_no_reset}
pub use Rattle.sctp_sides.proofs.BeginsNoReset.{settings_begin_no_reset, timers_begin_no_reset}
pub use Rattle.sctp_sides.proofs.BeginsNoReset.{told_events_begin_no_reset, writes_begin_no_reset}
pub use Rattle.sctp_sides.proofs.PastOnly.{more_are_past, more_is_asked_past, no_reset_is_past_only}
pub use Rattle.sctp_sides.proofs.ResetsNoMore.{accepted_streams_reset_no_more, closes_end_resets}
pub use Rattle.sctp_sides.proofs.ResetsNoMore.{closes_reset_no_more, exhaustion_ends_resets}
pub use Rattle.sctp_sides.proofs.ResetsNoMore.{exhaustion_resets_no_more, limits_reset_no_more}
pub use Rattle.sctp_sides.proofs.ResetsNoMore.{open_stops_reset_that_stream, opened_streams_reset_no_more}
pub use Rattle.sctp_sides.proofs.ResetsNoMore.{packet_ends_reset_no_more, polls_reset_no_more, reads_end_past}
pub use Rattle.sctp_sides.proofs.ResetsNoMore.{reads_reset_no_more, settings_reset_no_more, stops_reset_that_stream}
pub use Rattle.sctp_sides.proofs.ResetsNoMore.{timers_reset_no_more, told_events_reset_no_more}
pub use Rattle.sctp_sides.proofs.ResetsNoMore.{told_windows_reset_no_more, writes_reset_no_more}
pub use Rattle.sctp_sides.proofs.ShutdownsStayInOrder.{polls_complete_what_is_due, shutdowns_stay_in_order}
pub use Rattle.sctp_sides.proofs.HeldOverCalls.{calls_hold_what_came, lists_hold_what_came, reads_give_what_is_held}
pub use Rattle.sctp_sides.proofs.HeldWeaker.{held_weaker}
pub use Rattle.sctp_sides.proofs.LossToldOnce.{losses_are_told_once}
pub use Rattle.sctp_sides.proofs.TimersOverRuns.{created_sides_are_fresh, joined_sides_are_fresh}
pub use Rattle.sctp_sides.proofs.TimersOverRuns.{lost_sides_wait_for_nothing}
pub use Rattle.sctp_sides.proofs.RunsByActs.{runs_do_their_acts, runs_keep_retries, runs_send_nothing_late}
pub use Rattle.sctp_sides.proofs.RunsListed.{laws_hold_over_runs, listed, run_listed, runs_are_lists_of_calls}
pub use Rattle.sctp_sides.proofs.RunsListed.{runs_joined}
pub use Rattle.sctp_sides.proofs.ActiveOverRuns.{calls_restart_quietly}
pub use Rattle.sctp_sides.proofs.ActsWithoutWrites.{AreNoWrites, close_stream_writes_nothing, close_writes_nothing}
pub use Rattle.sctp_sides.proofs.ActsWithoutWrites.{packet_writes_nothing, poll_writes_nothing, read_writes_nothing}
pub use Rattle.sctp_sides.proofs.ActsWithoutWrites.{stop_writes_nothing, timeouts_write_nothing}
pub use Rattle.sctp_sides.proofs.QuietQueues.{acts_add_none}
