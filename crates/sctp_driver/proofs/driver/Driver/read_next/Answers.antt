use Rattle.std.proofs.Common.{◌≡◌, ◌∙◌, ap, refl, sym, subst, List, None}
use Rattle.sctp_driver.specs.Driving.{Driving, KeptMessage}
use Rattle.sctp_driver.specs.Messages.{GivesNew, Reads, index_of, kept_of, with_message}
use Rattle.sctp_driver.proofs.NewMessages.{new_read}
use Rattle.sctp_driver.proofs.driver.Driver.read_next.Goals as goal

pub returns-in-Some-clause-ok : goal.returns-in-Some-clause-ok
returns-in-Some-clause-ok c =
    let d : Driving = record {
      association = c.self.inside.association;
      own_tag = c.self.inside.own_tag;
      shutdown_limit = c.self.inside.shutdown_limit;
      waiting = c.self.inside.waiting.items;
      kept = c.self.inside.kept.items;
    } in
    let none : index_of c.args.id d.kept ≡ None =
    subst (λ (x : Driving). index_of c.args.id x.kept ≡ None) (sym c.self.view_is) c.requires in
    let answered = c.in_ok-message.ensures.ok ∙ ap (λ message. (c.read.new.association, message)) c.in-Some.is in
    let given = subst (λ (kept : List KeptMessage). GivesNew (kept_of c.args.id c.in-Some.message) kept
    c.args.buffer.now c.give_new.result c.give_new.new.kept.items c.give_new.new.buffer)
    c.in_ok-reserve.ensures.items c.give_new.ensures in
    subst (λ (x : Driving). Reads (with_message x c.args.id) c.args.id c.args.buffer.now c.give_new.result
    (record d { association = c.read.new.association; kept = c.give_new.new.kept.items }) c.give_new.new.buffer)
    c.self.view_is
    (new_read d c.args.id none answered refl c.args.buffer.now c.give_new.new.buffer
    c.give_new.new.kept.items c.give_new.result given)
