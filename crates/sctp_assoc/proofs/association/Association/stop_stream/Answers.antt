use Rattle.std.proofs.Common.{rules, ◌≡◌, true, None}
use Rattle.std.proofs.lemmas.Result.{IfErr-weaker, on_ok_weaker}
use Rattle.sctp_wire_types.specs.declared.error.Error.{Error}
use Rattle.sctp_assoc.specs.Calls.{credit_in, eased, stop_refusal, stop_takes_memory, stopped_open}
use Rattle.sctp_assoc.proofs.Stopping.{stop_fails}
use Rattle.sctp_assoc.proofs.StopsLeadOn.{open_stop_leads_on}
use Rattle.sctp_assoc.proofs.association.Association.stop_stream.Goals as goal

pub returns-clause-err : goal.returns-clause-err
returns-clause-err c =
    let free : stop_refusal c.args.self.now c.args.id ≡ None = search rules in
    let readable : stop_takes_memory c.args.self.now c.args.id ≡ true = search rules in
    let left : c.stop_open.new.self ≡ stopped_open c.args.self.now c.args.id = search rules in
    IfErr-weaker c.ease.result _ _
    (λ (error : Error) fails.
    stop_fails c.args.self.now c.stop_open.new.self c.ease.new.self c.args.id error free readable left fails)
    c.ease.ensures.err

pub returns-clause-acts : goal.returns-clause-acts
returns-clause-acts c =
    let readable : stop_takes_memory c.args.self.now c.args.id ≡ true = search rules in
    let left : c.stop_open.new.self ≡ stopped_open c.args.self.now c.args.id = search rules in
    on_ok_weaker c.ease.result
    (λ (e : c.ease.new.self ≡ eased (credit_in c.args.self.now) c.stop_open.new.self).
    open_stop_leads_on c.args.self.now c.stop_open.new.self c.ease.new.self c.args.id readable left e)
    (rw (← c.credit-credit.ensures) c.ease.ensures.ok)
