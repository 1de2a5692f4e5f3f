use Rattle.std.proofs.Common.{◌≡◌, ◌∙◌, ap, sym, subst, ◌++◌, map, true}
use Rattle.std.specs.Prelude.{IfOk, OnOk}
use Rattle.std.specs.List.{AllByRecursion}
use Rattle.std.proofs.lemmas.Result.{on_err_weaker, on_ok_weaker}
use Rattle.sctp_wire.specs.DataPackets.{IsReadBack, datagrams_of, nothing_written, with_all}
use Rattle.sctp_streams.specs.LowMarks.{AreGathered, low_event}
use Rattle.sctp_inbound.specs.Handshake.{header_of}
use Rattle.sctp_outbound.proofs.SenderSteps.{on_err}
use Rattle.sctp_resets.proofs.FrontWaits.{waits_before_told}
use Rattle.sctp_assoc.specs.Gather.{AreReadAgain, after_fast, after_marks, after_new, bundled, data_polled, fast_gives}
use Rattle.sctp_assoc.specs.Gather.{fast_polled, fast_sent, fell_in_poll, late_abandoned, marks_polled, marks_sent}
use Rattle.sctp_assoc.specs.Gather.{new_gives, new_polled, new_sent}
use Rattle.sctp_assoc.specs.Shown.{Shown}
use Rattle.sctp_assoc.proofs.MemoryTaken.{fast_is_given, last_is_given, low_is_told, new_is_given}
use Rattle.sctp_assoc.proofs.PacketsReadAgain.{bundled_as, data_left, finished_as}
use Rattle.sctp_assoc.proofs.FallsInPolls.{all_told, poll_gathers, some_falls}
use Rattle.sctp_assoc.proofs.association.Association.gather_data.Goals.{In_ok-send_new}
use Rattle.sctp_assoc.proofs.association.Association.gather_data.Goals as goal

pub returns-in_err-resend_missing-clause-grows : goal.returns-in_err-resend_missing-clause-grows
returns-in_err-resend_missing-clause-grows c =
    let marked : c.resend_marked.new.self ≡ marks_polled c.args.self.now c.args.now =
    c.in_ok-resend_marked.ensures.exact ∙ ap after_marks c.in_ok-expire.ensures.exact in
    on_err c.from_residual-in_err-resend_missing.result
    (fast_is_given c.args.self.now c.args.now
    (subst (λ (b : Shown). fast_gives b ≡ true) marked c.in_err-resend_missing.ensures.grows))

pub returns-in_err-send_new-clause-grows : goal.returns-in_err-send_new-clause-grows
returns-in_err-send_new-clause-grows c =
    let again : c.resend_missing.new.self ≡ fast_polled c.args.self.now c.args.now =
    c.in_ok-resend_missing.ensures.exact
    ∙ ap after_fast (c.in_ok-resend_marked.ensures.exact ∙ ap after_marks c.in_ok-expire.ensures.exact) in
    on_err c.from_residual-in_err-send_new.result
    (new_is_given c.args.self.now c.args.now
    (subst (λ (b : Shown). new_gives b c.args.now ≡ true) again c.in_err-send_new.ensures.grows))

-- what fell in the steps of the poll is gathered before it is told
all_gathered : (c : In_ok-send_new)
    → AreGathered (fell_in_poll c.args.self.now c.args.now) c.new-fallen.result c.send_new.new.fallen
all_gathered c =
    let marked = c.in_ok-resend_marked.ensures.exact ∙ ap after_marks c.in_ok-expire.ensures.exact in
    poll_gathers c.args.self.now c.args.now c.in_ok-expire.ensures.exact marked
    (c.in_ok-resend_missing.ensures.exact ∙ ap after_fast marked) c.in_ok-expire.ensures.falls
    c.in_ok-resend_marked.ensures.falls c.in_ok-resend_missing.ensures.falls c.in_ok-send_new.ensures.falls

-- what the steps of the poll have bundled before the packets are finished
all_bundled : (c : In_ok-send_new)
    → c.send_new.new.packets
    ≡ with_all (bundled (bundled (nothing_written (header_of c.args.self.now.handshake)
    (late_abandoned c.args.self.now c.args.now).sender.mtu) (marks_sent (late_abandoned c.args.self.now c.args.now)))
    (fast_sent (marks_polled c.args.self.now c.args.now)))
    (new_sent (fast_polled c.args.self.now c.args.now) c.args.now)
all_bundled c =
    let late = c.self-2.view_is ∙ c.in_ok-expire.ensures.exact in
    let marked = c.in_ok-resend_marked.ensures.exact ∙ ap after_marks c.in_ok-expire.ensures.exact in
    let header = c.header.ensures ∙ ap (λ (a : Shown). header_of a.handshake) late in
    bundled_as c.args.self.now c.args.now c.in_ok-expire.ensures.exact marked
    (c.in_ok-resend_missing.ensures.exact ∙ ap after_fast marked)
    (c.new-packets.ensures ∙ ap (λ h. nothing_written h c.self-2.inside.sender.mtu) header
    ∙ ap (λ (a : Shown). nothing_written (header_of c.args.self.now.handshake) a.sender.mtu) late)
    c.in_ok-resend_marked.ensures.packets c.in_ok-resend_missing.ensures.packets c.in_ok-send_new.ensures.packets

pub returns-in_err-tell-clause-grows : goal.returns-in_err-tell-clause-grows
returns-in_err-tell-clause-grows c =
    let gathered = all_gathered (goal.at.returns-in_err-tell-clause-grows c).In_ok-send_new in
    on_err c.from_residual-in_err-tell.result
    (low_is_told c.args.self.now c.args.now
    (some_falls (fell_in_poll c.args.self.now c.args.now) c.new-fallen.result c.send_new.new.fallen c.new-fallen.ensures
    gathered c.in_err-tell.ensures.grows))

pub returns-clause-exact : goal.returns-clause-exact
returns-clause-exact c =
    let sent : c.send_new.new.self ≡ new_polled c.args.self.now c.args.now =
    c.in_ok-send_new.ensures.exact
    ∙ ap (λ (b : Shown). after_new b c.args.now) (c.in_ok-resend_missing.ensures.exact
    ∙ ap after_fast (c.in_ok-resend_marked.ensures.exact ∙ ap after_marks c.in_ok-expire.ensures.exact)) in
    let gathered = all_gathered (goal.at.returns-clause-exact c).In_ok-send_new in
    on_ok_weaker c.finish.result
    (λ again. data_left c.args.self.now c.send_new.new.self c.args.now c.tell.new.events sent
    (c.in_ok-tell.ensures.told
    ∙ ap (λ (b : Shown). b.events ++ map low_event c.send_new.new.fallen.ids) c.self-3.view_is
    ∙ ap (λ ids. c.send_new.new.self.events ++ map low_event ids)
    (all_told (fell_in_poll c.args.self.now c.args.now) c.new-fallen.result c.send_new.new.fallen c.new-fallen.ensures
    gathered c.in_ok-tell.ensures.whole))
    ∙ ap (λ (b : Shown). record b { events = c.tell.new.events }) (sym c.self-3.view_is))
    c.finish.ensures.again

pub returns-clause-packets : goal.returns-clause-packets
returns-clause-packets c =
    let same = all_bundled (goal.at.returns-clause-packets c).In_ok-send_new in
    let is = finished_as c.args.self.now c.args.now c.send_new.new.packets same in
    subst
    (λ h. IfOk c.finish.result (λ packets. packets.items ≡ datagrams_of h (data_polled c.args.self.now c.args.now).1))
    is.0
    (subst (λ d. IfOk c.finish.result (λ packets. packets.items ≡ datagrams_of c.send_new.new.packets.header d)) is.1
    c.finish.ensures.packets)

pub returns-clause-again : goal.returns-clause-again
returns-clause-again c =
    let same = all_bundled (goal.at.returns-clause-again c).In_ok-send_new in
    let is = finished_as c.args.self.now c.args.now c.send_new.new.packets same in
    subst (λ h. OnOk c.finish.result (AreReadAgain h (data_polled c.args.self.now c.args.now).1)) is.0
    (subst (λ d. OnOk c.finish.result (AllByRecursion (IsReadBack c.send_new.new.packets.header) d)) is.1
    c.finish.ensures.again)

pub returns-clause-grows : goal.returns-clause-grows
returns-clause-grows c =
    let same = all_bundled (goal.at.returns-clause-grows c).In_ok-send_new in
    on_err_weaker c.finish.result (λ some. last_is_given c.args.self.now c.args.now c.send_new.new.packets same some)
    c.finish.ensures.grows

pub invariant_of-self-2 : goal.invariant_of-self-2
invariant_of-self-2 c =
    let r = c.self-3.inside.resets in
    waits_before_told c.send_new.new.fallen.ids r.generations.retiring r.debts c.self-3.inside.events
    c.self-3.inside.waiting_in_front c.tell.new.events c.replace-waiting.result c.in_ok-tell.ensures.told
    c.replace-waiting.ensures.value c.self-3.invariant
