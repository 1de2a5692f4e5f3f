use Rattle.sctp_resets.specs.declared.performing.Handled.{Handled}
use Rattle.sctp_resets.specs.Channels.{channels}
use Rattle.sctp_resets.specs.Resets.{Resetting}
use Rattle.sctp_assoc.proofs.RequestsHandled.{request_on}
use Rattle.sctp_assoc.proofs.association.Association.on_reset_request.Goals as goal

pub returns : goal.returns
returns c =
    let asked = c.on_request.new in
    let to : Resetting × Handled = (
      (asked.self, channels asked.streams asked.events asked.to_accept.items),
      c.in_ok-handled.handled,
    ) in
    request_on c.tell_handled.result _ c.args.self.now c.tell_handled.new.self c.args.request.now to
    c.next_message_id.result c.self.view_is c.next_message_id.ensures c.in_ok-handled.ensures c.tell_handled.ensures
