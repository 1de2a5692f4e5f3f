use Rattle.std.proofs.Common.{rules, ◌≡◌, ap, ◌∙◌, ℕ, None, inl}
use Rattle.sctp_streams.specs.declared.setting.Setting.TheVariants as settings
use Rattle.sctp_assoc.specs.Shown.{Shown}
use Rattle.sctp_assoc.specs.Calls.{adjusted, stop_refusal, stopped, stream_refusal}
use Rattle.sctp_assoc.specs.Replies.{refusal_to_stop}
use Rattle.sctp_assoc.specs.Stream.{id_of}
use Rattle.sctp_calls.proofs.RefusalNumbers.{unfound_reported}
use Rattle.sctp_calls.proofs.calls.close_stream.Goals as goal

-- both halves closed
abbrev pub closed : Shown → ℕ → Shown
closed a id = stopped (adjusted a id settings.WriteHalfClosed) id

pub returns-in-Ok-close : goal.returns-in-Ok-close
returns-in-Ok-close c =
    let unrefused : refusal_to_stop c.args.association.now c.args.id ≡ None = search rules in
    let left : c.close.new.self.association.now ≡ closed c.args.association.now c.args.id =
    c.in-Ok-close.ensures.ok
    ∙ ap (λ (a : Shown). closed a (id_of c.in-Ok.stream)) c.in-Ok.ensures.ok
    ∙ ap (λ (id : ℕ). closed c.args.association.now id) c.in-Ok.ensures.id in
    (unrefused, search rules ∙ left)

pub returns-in-Err : goal.returns-in-Err
returns-in-Err c =
    let same : c.stream.follows.lender-at-none ≡ c.args.association.now = search rules in
    inl (
      unfound_reported (stream_refusal c.args.association.now c.args.id) (stop_refusal c.args.association.now c.args.id)
          c.in-Err.error c.number-in-Err.result c.in-Err.ensures.refused c.number-in-Err.ensures,
      same,
    )
