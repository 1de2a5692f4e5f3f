use Rattle.std.proofs.Common.{◌∙◌, ◌||◌, ◌≡◌, ap, drop, length, sym, nat_lt, List}
use Rattle.sctp_parts.specs.Estimate.{Estimate}
use Rattle.sctp_streams.specs.Streams.{StreamMap}
use Rattle.sctp_outbound_queue.specs.declared.message.InFlight.{InFlight}
use Rattle.sctp_outbound.specs.declared.sender.Sender.{Sender}
use Rattle.sctp_outbound.specs.GapAcks.{with_blocks}
use Rattle.sctp_outbound.specs.Progress.{any_new_up_to}
use Rattle.sctp_outbound.specs.Recovery.{past_recovery}
use Rattle.sctp_outbound.specs.Sacks.{grown_by, reported_by}
use Rattle.sctp_outbound.specs.Sender.{acknowledged, t3_after_sack}
use Rattle.sctp_outbound.proofs.MissingPieces.{brought_is, counts_with, heard_is}
use Rattle.sctp_outbound.proofs.NewPieces.{left_behind, newest_is, progress_is}
use Rattle.sctp_streams.proofs.LowMarks.{gathers_both, gathers_nothing}
use Rattle.sctp_outbound.proofs.sender.Sender.on_sack.Goals as goal

pub returns-then-sna32gt-clause-gathers : goal.returns-then-sna32gt-clause-gathers
returns-then-sna32gt-clause-gathers c = gathers_nothing c.args.streams.now c.args.fallen.now

pub returns-then-count-inflight_len-clause-gathers : goal.returns-then-count-inflight_len-clause-gathers
returns-then-count-inflight_len-clause-gathers c = gathers_nothing c.args.streams.now c.args.fallen.now

pub returns-then-names_unsent-clause-gathers : goal.returns-then-names_unsent-clause-gathers
returns-then-names_unsent-clause-gathers c = gathers_nothing c.args.streams.now c.args.fallen.now

pub returns-clause-gathers : goal.returns-clause-gathers
returns-clause-gathers c =
    gathers_both _ _ _ _ _ _ c.acknowledge-any_new.ensures.gathers c.acknowledge_blocks-newest.ensures.gathers

pub returns-clause-taken : goal.returns-clause-taken
returns-clause-taken c =
    let s : Sender = c.args.self.now in
    let n = c.count_to-count.result in
    let past : c.leave_recovery.new.self ≡ past_recovery n (record s { advertised_window = c.args.window }) =
    c.leave_recovery.ensures ∙ ap (λ (z : Sender). past_recovery n (record z { advertised_window = c.args.window }))
    c.names_earliest-earliest.ensures.same in
    let left : c.acknowledge-any_new.new.self.queue.in_flight ≡ drop n s.queue.in_flight =
    sym (ap (λ (z : Sender × Estimate × StreamMap). z.0.queue.in_flight) c.acknowledge-any_new.ensures.exact)
    ∙ left_behind n c.args.now c.leave_recovery.new.self c.args.rto.now c.args.streams.now
    ∙ ap (λ (z : Sender). drop n z.queue.in_flight) past in
    let pieces : c.leave_recovery.new.self.queue.in_flight ≡ s.queue.in_flight =
    ap (λ (z : Sender). z.queue.in_flight) past in
    let progress =
    ap (λ z. record {
      any_new = c.acknowledge-any_new.result || z;
      earliest = c.names_earliest-earliest.result;
    }) c.is_some.ensures
    ∙ progress_is s c.args.cumulative_tsn_ack c.args.blocks.now c.count_to-count.ensures
    (c.acknowledge-any_new.ensures.any ∙ ap (any_new_up_to n) pieces)
    (newest_is s c.args.cumulative_tsn_ack c.args.blocks.now c.count_to-count.ensures
    c.acknowledge_blocks-newest.ensures.newest left)
    c.names_earliest-earliest.ensures.names in
    λ _. rw (c.count_misses.ensures, c.grow_window.ensures)
    (counts_with s c.args.cumulative_tsn_ack c.args.blocks.now c.args.window c.args.now c.args.rto.now
    c.args.streams.now c.count_to-count.ensures
    (brought_is s c.args.cumulative_tsn_ack c.args.blocks.now c.count_to-count.ensures progress
    c.marked_len-any_marked.ensures c.inflight_bytes-before.ensures)
    (heard_is s c.args.cumulative_tsn_ack c.args.blocks.now c.count_to-count.ensures
    (newest_is s c.args.cumulative_tsn_ack c.args.blocks.now c.count_to-count.ensures
    c.acknowledge_blocks-newest.ensures.newest left)
    c.fresh_pieces-fresh.ensures c.reach.ensures)
    ∙ ap (λ z. reported_by (record {
      moved = nat_lt 0 n;
      newest = c.acknowledge_blocks-newest.result;
      fresh = c.fresh_pieces-fresh.result;
      is_round_over = s.is_round_over;
      reach = c.reach.result;
    })
    (grown_by (record {
      moved = nat_lt 0 n;
      any_new = c.acknowledge-any_new.result || c.is_some.result;
      any_marked = nat_lt 0 c.marked_len-any_marked.result;
      before = c.inflight_bytes-before.result;
    }) z))
    (ap (λ z. with_blocks c.args.now c.args.blocks.now
    (acknowledged n c.args.now (z, c.args.rto.now, c.args.streams.now))) (sym past)
    ∙ ap (with_blocks c.args.now c.args.blocks.now) c.acknowledge-any_new.ensures.exact
    ∙ c.acknowledge_blocks-newest.ensures.exact))

pub returns-clause-timer : goal.returns-clause-timer
returns-clause-timer c =
    let n = c.count_to-count.result in
    let pieces : c.leave_recovery.new.self.queue.in_flight ≡ c.args.self.now.queue.in_flight =
    ap (λ (z : Sender). z.queue.in_flight) c.leave_recovery.ensures
    ∙ ap (λ (z : Sender). z.queue.in_flight) c.names_earliest-earliest.ensures.same in
    let left =
    sym (ap (λ (z : Sender × Estimate × StreamMap). z.0.queue.in_flight) c.acknowledge-any_new.ensures.exact)
    ∙ left_behind n c.args.now c.leave_recovery.new.self c.args.rto.now c.args.streams.now
    ∙ ap (λ (z : List InFlight). drop n z) pieces in
    λ _. c.run_t3.ensures
    ∙ ap (λ p. t3_after_sack p (length c.count_misses.new.self.queue.in_flight) c.args.now
    c.acknowledge_blocks-newest.new.rto.rto c.args.timers.now)
    (ap (λ z. record {
      any_new = c.acknowledge-any_new.result || z;
      earliest = c.names_earliest-earliest.result;
    }) c.is_some.ensures
    ∙ progress_is c.args.self.now c.args.cumulative_tsn_ack c.args.blocks.now c.count_to-count.ensures
    (c.acknowledge-any_new.ensures.any ∙ ap (any_new_up_to n) pieces)
    (newest_is c.args.self.now c.args.cumulative_tsn_ack c.args.blocks.now c.count_to-count.ensures
    c.acknowledge_blocks-newest.ensures.newest left)
    c.names_earliest-earliest.ensures.names)
