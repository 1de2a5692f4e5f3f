use Rattle.std.proofs.Common.{◌≡◌, ◌∙◌, ap, filter, rules}
use Rattle.std.proofs.lemmas.Fn.{filter_same}
use Rattle.std.proofs.lemmas.List.Kept.{AllPairs-filter}
use Rattle.sctp_receive_queues.specs.Ascending.{Ascend, IsBefore}
use Rattle.sctp_receive_queues.specs.Reassembly.{Group, stays}
use Rattle.sctp_receive_queues.proofs.groups.Groups.skip.Goals as goal

pub invariant_of-self : goal.invariant_of-self
invariant_of-self c t =
    let e : c.retain.new.self.items ≡ filter (stays c.args.ssn) c.self.inside.list.items =
    filter_same _ (stays c.args.ssn) _ (λ x b f' k. search rules) _ _ c.retain.ensures.filtered in
    let kept : Ascend (filter (stays c.args.ssn) c.self.inside.list.items) =
    AllPairs-filter (λ (g h : Group). IsBefore h.ssn g) (stays c.args.ssn) c.self.inside.list.items
    (c.self.invariant t) in
    rw e kept

pub returns : goal.returns
returns c =
    filter_same _ (stays c.args.ssn) _ (λ x b f' k. search rules) _ _ c.retain.ensures.filtered ∙
    ap (filter (stays c.args.ssn)) c.self.view_is
