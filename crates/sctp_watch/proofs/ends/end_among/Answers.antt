use Rattle.std.proofs.Common.{arith, sym, ◌∙◌}
use Rattle.std.proofs.lemmas.Bool.{eqb-false, eqb-true}
use Rattle.sctp_wire.specs.Chunks.{chunks_at}
use Rattle.sctp_watch.specs.declared.ends.End.TheVariants as ends
use Rattle.sctp_watch.proofs.FirstEnds.{abort_found, at_last, ends_past, goes_past, other_past, stops}
use Rattle.sctp_watch.proofs.ends.end_among.Goals as goal
use Rattle.sctp_watch.proofs.ends.end_among.Goals.{else-kind-eq-SHUTDOWN_COMPLETE, then-kind-eq-SHUTDOWN_COMPLETE}

pub returns-in_default : goal.returns-in_default
returns-in_default c =
    let some = eqb-false _ 0 (sym c.is_empty.ensures ∙ c.chunks-test.true) in
    stops c.chunks.rest.now (chunks_at c.args.chunks.now) c.chunks.otherwise (omega (arith, some)) c.in_default.ensures
    c.chunks.invariant

pub returns-then-kind-eq-ABORT : goal.returns-then-kind-eq-ABORT
returns-then-kind-eq-ABORT c =
    let some = eqb-false _ 0 (sym c.is_empty.ensures ∙ c.chunks-test.true) in
    abort_found c.chunks.rest.now _ _ c.in-Some.head (omega (arith, some)) c.in-Some.ensures.2
    (chunks_at c.args.chunks.now) c.chunks.otherwise c.first_cause.result c.if-kind-eq-ABORT.true
    c.first_cause.ensures c.chunks.invariant

pub chunks-preserved : goal.chunks-preserved
chunks-preserved c =
    let some = eqb-false _ 0 (sym c.is_empty.ensures ∙ c.chunks-test.true) in
    let rest = c.chunks.rest.now in
    let head = c.in-Some.head in
    let otherwise = c.chunks.otherwise in
    rw c.behind-rest.ensures (elim c.if-kind-eq-SHUTDOWN_COMPLETE.branch [
      | then-kind-eq-SHUTDOWN_COMPLETE w ↦ rw w.otherwise-is
          (goes_past rest _ _ head (omega (arith, some)) c.in-Some.ensures.2 (chunks_at c.args.chunks.now) otherwise
          ends.ShutDown (ends_past rest _ _ head (omega (arith, some)) c.in-Some.ensures.2
          w.if-kind-eq-SHUTDOWN_COMPLETE.true otherwise) c.chunks.invariant)
      | else-kind-eq-SHUTDOWN_COMPLETE w ↦ rw w.otherwise-is
          (goes_past rest _ _ head (omega (arith, some)) c.in-Some.ensures.2 (chunks_at c.args.chunks.now) otherwise
          otherwise (other_past rest _ _ head (omega (arith, some)) c.in-Some.ensures.2
          c.if-kind-eq-ABORT.false w.if-kind-eq-SHUTDOWN_COMPLETE.false otherwise)
          c.chunks.invariant)
    ])

pub returns : goal.returns
returns c =
    let none = eqb-true _ 0 (sym c.is_empty.ensures ∙ c.chunks-test.false) in
    at_last c.chunks.rest.now (chunks_at c.args.chunks.now) c.chunks.otherwise (omega (arith, none)) c.chunks.invariant
