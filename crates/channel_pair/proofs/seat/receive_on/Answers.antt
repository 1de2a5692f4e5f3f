use Rattle.std.proofs.Common.{◌∙◌, arith, rules}
use Rattle.std.proofs.lemmas.Grind.{common_steps}
use Rattle.channel_pair.proofs.PortDeeds.{deeds_at_pair, done_until}
use Rattle.channel_pair.proofs.seat.receive_on.Goals as goal

pub returns : goal.returns
returns c =
    let w = c.receive.ensures in
    let same = (deeds_at_pair w.0 c.new-port.result c.receive.new.port w.1).0 ∙ c.new-port.ensures.same in (
      w.0,
      done_until c.args.side c.args.id c.args.pair.now _ w.0 c.new-port.result c.receive.new.port
          c.new-port.ensures.value c.new-port.ensures.of_side c.new-port.ensures.of_stream
          (first_of (search (rules, same), cc, grind (arith, same), grind (arith, common_steps, same))) w.1,
      w.2,
    )
