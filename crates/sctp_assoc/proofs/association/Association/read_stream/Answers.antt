use Rattle.std.proofs.Common.{rules, ◌≡◌, inr, None, Option}
use Rattle.std.proofs.lemmas.Result.{IfErr-weaker, IfOk-weaker}
use Rattle.sctp_receive_queues.specs.Messages.{ReceivedMessage}
use Rattle.sctp_wire_types.specs.declared.error.Error.{Error}
use Rattle.sctp_assoc.specs.Calls.{read_refusal}
use Rattle.sctp_assoc.proofs.ReadsLeadOn.{read_leads_on}
use Rattle.sctp_assoc.proofs.StreamReads.{reads_give_none, reads_give_the_first, reads_lack_memory}
use Rattle.sctp_assoc.proofs.StreamReads.{reads_leave_the_others}
use Rattle.sctp_assoc.proofs.association.Association.read_stream.Goals as goal

pub returns-clause-refused : goal.returns-clause-refused
returns-clause-refused c =
    let free : read_refusal c.args.self.now c.args.id ≡ None = search rules in
    reads_lack_memory c.args.self.now c.read_next.new.self c.args.id c.read_next.result free c.read_next.ensures.err

pub returns-clause-err : goal.returns-clause-err
returns-clause-err c =
    let free : read_refusal c.args.self.now c.args.id ≡ None = search rules in
    IfErr-weaker c.read_next.result _ _ (λ (error : Error) fails. inr (free, fails.1, fails.0, fails.2))
    c.read_next.ensures.err

pub returns-clause-first : goal.returns-clause-first
returns-clause-first c =
    IfOk-weaker c.read_next.result _ _
    (λ (message : Option ReceivedMessage) e.
    reads_give_the_first c.args.self.now c.read_next.new.self c.args.id message e)
    c.read_next.ensures.ok

pub returns-clause-others : goal.returns-clause-others
returns-clause-others c =
    IfOk-weaker c.read_next.result _ _
    (λ (message : Option ReceivedMessage) e.
    reads_leave_the_others c.args.self.now c.read_next.new.self c.args.id message e)
    c.read_next.ensures.ok

pub returns-clause-none : goal.returns-clause-none
returns-clause-none c =
    IfOk-weaker c.read_next.result _ _
    (λ (message : Option ReceivedMessage) e.
    reads_give_none c.args.self.now c.read_next.new.self c.args.id message e)
    c.read_next.ensures.ok

pub returns-clause-acts : goal.returns-clause-acts
returns-clause-acts c =
    IfOk-weaker c.read_next.result _ _
    (λ (message : Option ReceivedMessage) e.
    read_leads_on c.args.self.now c.read_next.new.self c.args.id message e)
    c.read_next.ensures.ok
