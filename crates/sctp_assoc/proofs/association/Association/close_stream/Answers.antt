use Rattle.std.specs.Prelude.{IfErr, OnOk}
use Rattle.std.proofs.Common.{rules, ◌≡◌, None, subst}
use Rattle.std.proofs.lemmas.Result.{IfErr-weaker, on_ok_weaker}
use Rattle.sctp_wire_types.specs.declared.error.Error.{Error}
use Rattle.sctp_streams.specs.declared.setting.Setting.TheVariants as settings
use Rattle.sctp_assoc.specs.Calls.{adjusted, RefusesOrLacksMemory, RefusesStop, stop_refusal, stopped}
use Rattle.sctp_assoc.specs.Shown.{Shown}
use Rattle.sctp_assoc.proofs.Stopping.{close_refuses, stop_refusal_stays}
use Rattle.sctp_assoc.proofs.StopsLeadOn.{close_stream_leads_on}
use Rattle.sctp_assoc.proofs.association.Association.close_stream.Goals as goal

pub returns-clause-refused : goal.returns-clause-refused
returns-clause-refused c =
    subst (RefusesOrLacksMemory c.stop_stream.result) (stop_refusal_stays c.args.self.now c.args.id)
    (subst (λ (b : Shown). RefusesOrLacksMemory c.stop_stream.result (stop_refusal b c.args.id))
    c.close_write_half.ensures c.stop_stream.ensures.refused)

pub returns-clause-err : goal.returns-clause-err
returns-clause-err c =
    let free : stop_refusal c.args.self.now c.args.id ≡ None = search rules in
    IfErr-weaker c.stop_stream.result _ _
    (λ (error : Error) refuses. close_refuses c.args.self.now c.stop_stream.new.self c.args.id error free refuses)
    (subst (λ (b : Shown). IfErr c.stop_stream.result
    (λ (error : Error). RefusesStop b c.args.id error c.stop_stream.new.self))
    c.close_write_half.ensures c.stop_stream.ensures.err)

pub returns-clause-ok : goal.returns-clause-ok
returns-clause-ok c =
    subst (λ (b : Shown). OnOk c.stop_stream.result (c.stop_stream.new.self ≡ stopped b c.args.id))
    c.close_write_half.ensures c.stop_stream.ensures.ok

pub returns-clause-acts : goal.returns-clause-acts
returns-clause-acts c =
    on_ok_weaker c.stop_stream.result
    (λ (e : c.stop_stream.new.self ≡ stopped (adjusted c.args.self.now c.args.id settings.WriteHalfClosed) c.args.id).
    close_stream_leads_on c.args.self.now c.stop_stream.new.self c.args.id e)
    (returns-clause-ok c)
