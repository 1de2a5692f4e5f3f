use Rattle.std.proofs.Common.{◌≡◌, ◌++◌, fold}
use Rattle.std.specs.Vec.Iter.{into_iter_items}
use Rattle.sctp_assoc.specs.Gather.{AreControlReadAgain, ControlRequestsReadAgain, GivenRequestsReadAgain}
use Rattle.sctp_assoc.specs.Gather.{control_polled, with_control_given}
use Rattle.sctp_assoc.proofs.association.Association.gather_control.Given as goal

abbrev pub invariant-loop-control : goal.invariant-loop-control
invariant-loop-control l = record {
  given : fold with_control_given (l.self, l.packets.items) (into_iter_items l.control-iterator)
      ≡ control_polled l.fn.self;
  all : l.fn.self.control ≡ l.yielded ++ into_iter_items l.control-iterator;
  again : AreControlReadAgain l.yielded;
  requests : GivenRequestsReadAgain (into_iter_items l.control-iterator) (l.self, l.packets.items)
      → ControlRequestsReadAgain l.fn.self;
}
