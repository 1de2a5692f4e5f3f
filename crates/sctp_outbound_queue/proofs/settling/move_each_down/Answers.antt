use Rattle.std.proofs.Common.{◌∙◌}
use Rattle.sctp_outbound_queue.proofs.TrueSsns.{all_one}
use Rattle.sctp_outbound_queue.proofs.settling.move_each_down.Goals as goal

pub returns : goal.returns
returns c = c.lower_each.ensures ∙ all_one c.args.dropped.now c.args.messages.now c.requires
