use Rattle.pair_callers.proofs.FewAccepted.{begins_with_nothing}
use Rattle.sctp_pair.proofs.AnsweredValues.{if_ok}
use Rattle.pair_callers.proofs.running.join.Goals as goal

pub returns-clause-empty : goal.returns-clause-empty
returns-clause-empty c = if_ok c.snap.result _ _ c.snap.ensures.fits (λ p fits.
    begins_with_nothing p c.args.token_a.now.initial_tsn c.args.token_b.now.initial_tsn c.args.max_payload_size
    c.args.max_payload_size fits)
