use Rattle.std.proofs.Common.{rules, ◌≡◌, ap, ◌∙◌, ℕ, None, inl}
use Rattle.sctp_assoc.specs.Shown.{Shown}
use Rattle.sctp_assoc.specs.Calls.{stop_refusal, stopped, stream_refusal}
use Rattle.sctp_assoc.specs.Replies.{refusal_to_stop}
use Rattle.sctp_assoc.specs.Stream.{id_of}
use Rattle.sctp_calls.proofs.RefusalNumbers.{unfound_reported}
use Rattle.sctp_calls.proofs.calls.stop.Goals as goal

pub returns-in-Ok-stop : goal.returns-in-Ok-stop
returns-in-Ok-stop c =
    let unrefused : refusal_to_stop c.args.association.now c.args.id ≡ None = search rules in
    let left : c.stop.new.self.association.now ≡ stopped c.args.association.now c.args.id =
    c.in-Ok-stop.ensures.ok
    ∙ ap (λ (a : Shown). stopped a (id_of c.in-Ok.stream)) c.in-Ok.ensures.ok
    ∙ ap (λ (id : ℕ). stopped c.args.association.now id) c.in-Ok.ensures.id in
    (unrefused, search rules ∙ left)

pub returns-in-Err : goal.returns-in-Err
returns-in-Err c =
    let same : c.stream.follows.lender-at-none ≡ c.args.association.now = search rules in
    inl (
      unfound_reported (stream_refusal c.args.association.now c.args.id) (stop_refusal c.args.association.now c.args.id)
          c.in-Err.error c.number-in-Err.result c.in-Err.ensures.refused c.number-in-Err.ensures,
      same,
    )
