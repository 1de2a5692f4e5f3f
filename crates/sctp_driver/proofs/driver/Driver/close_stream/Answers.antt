use Rattle.std.proofs.Common.{◌≡◌, subst}
use Rattle.sctp_driver.specs.Driving.{Driving}
use Rattle.sctp_driver.specs.Streams.{refusal_to_stop, stream_closed, with_stopped}
use Rattle.sctp_driver.proofs.StreamsStopped.{left_beside}
use Rattle.sctp_driver.proofs.Unchanged.{unchanged_beside}
use Rattle.sctp_driver.proofs.driver.Driver.close_stream.Goals as goal

pub returns-in_err-close_stream-clause-unchanged : goal.returns-in_err-close_stream-clause-unchanged
returns-in_err-close_stream-clause-unchanged c =
    rw (← c.self.view_is) (unchanged_beside (refusal_to_stop c.self.inside.association c.args.id) (record {
      association = c.self.inside.association;
      own_tag = c.self.inside.own_tag;
      shutdown_limit = c.self.inside.shutdown_limit;
      waiting = c.self.inside.waiting.items;
      kept = c.self.inside.kept.items;
    }) c.close_stream.new.association c.close_stream.ensures.unchanged)

pub returns-clause-ok : goal.returns-clause-ok
returns-clause-ok c =
    let before : Driving = record {
      association = c.self.inside.association;
      own_tag = c.self.inside.own_tag;
      shutdown_limit = c.self.inside.shutdown_limit;
      waiting = c.self.inside.waiting.items;
      kept = c.self.inside.kept.items;
    } in
    subst
    (λ (d : Driving). record before { association = c.close_stream.new.association; kept = c.forget.new.kept.items }
    ≡ with_stopped d c.args.id (stream_closed d.association c.args.id))
    c.self.view_is
    (left_beside before c.args.id c.in_ok-close_stream.ensures.ok c.forget.ensures)
