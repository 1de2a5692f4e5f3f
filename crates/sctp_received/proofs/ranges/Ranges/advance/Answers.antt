use Rattle.std.proofs.Common.{◌≡◌, false, ◌-◌, ◌^◌, ◌∙◌, ap, sym, subst}
use Rattle.sctp_serial.specs.Serial.{tsn_past, tsn_after}
use Rattle.sctp_received.specs.Received.{is_held}
use Rattle.sctp_received.specs.TsnRanges.{tsns_of, IsTaken}
use Rattle.sctp_received.proofs.Taken.{stops_here, advanced_once, advanced_twice}
use Rattle.sctp_received.proofs.ranges.Ranges.advance.Goals as goal

pub returns-then-offset-clause-moved : goal.returns-then-offset-clause-moved
returns-then-offset-clause-moved c =
    let taken : IsTaken c.args.self.now c.take_run.new.self (tsn_after c.args.cumulative_tsn) c.in-Some.last =
    subst (λ t. IsTaken c.args.self.now c.take_run.new.self t c.in-Some.last) c.after.ensures c.in-Some.ensures.some in
    let stop =
    stops_here c.args.self.now c.take_run.new.self (tsn_after c.args.cumulative_tsn) c.in-Some.last taken
    (λ (e : tsn_past c.args.self.now.base c.in-Some.last ≡ 2 ^ 32 - 1).
    c.if-offset.true (c.offset.ensures ∙ ap (λ b. tsn_past b c.in-Some.last) taken.base ∙ e)) in
    advanced_once c.args.self.now c.take_run.new.self c.args.cumulative_tsn c.in-Some.last c.ranges.cumulative_tsn.fits
    taken stop

pub returns-then-offset-clause-stops : goal.returns-then-offset-clause-stops
returns-then-offset-clause-stops c =
    let taken : IsTaken c.args.self.now c.take_run.new.self (tsn_after c.args.cumulative_tsn) c.in-Some.last =
    subst (λ t. IsTaken c.args.self.now c.take_run.new.self t c.in-Some.last) c.after.ensures c.in-Some.ensures.some in
    stops_here c.args.self.now c.take_run.new.self (tsn_after c.args.cumulative_tsn) c.in-Some.last taken
    (λ (e : tsn_past c.args.self.now.base c.in-Some.last ≡ 2 ^ 32 - 1).
    c.if-offset.true (c.offset.ensures ∙ ap (λ b. tsn_past b c.in-Some.last) taken.base ∙ e))

pub returns-in-Some-take_run-clause-moved : goal.returns-in-Some-take_run-clause-moved
returns-in-Some-take_run-clause-moved c =
    let s = c.take_run.new.self in
    let taken : IsTaken c.args.self.now s (tsn_after c.args.cumulative_tsn) c.in-Some.last =
    subst (λ t. IsTaken c.args.self.now s t c.in-Some.last) c.after.ensures c.in-Some.ensures.some in
    let more : IsTaken s c.take_run-2.new.self (tsn_after c.in-Some.last) c.in-Some-take_run.end =
    subst (λ t. IsTaken s c.take_run-2.new.self t c.in-Some-take_run.end) c.after-2.ensures
    c.in-Some-take_run.ensures.some in
    let top = ap (λ b. tsn_past b c.in-Some.last) (sym taken.base) ∙ sym c.offset.ensures ∙ c.if-offset.false in
    (advanced_twice c.args.self.now s c.take_run-2.new.self c.args.cumulative_tsn c.in-Some.last c.in-Some-take_run.end
    c.ranges.cumulative_tsn.fits taken top more).0

pub returns-in-Some-take_run-clause-stops : goal.returns-in-Some-take_run-clause-stops
returns-in-Some-take_run-clause-stops c =
    let s = c.take_run.new.self in
    let taken : IsTaken c.args.self.now s (tsn_after c.args.cumulative_tsn) c.in-Some.last =
    subst (λ t. IsTaken c.args.self.now s t c.in-Some.last) c.after.ensures c.in-Some.ensures.some in
    let more : IsTaken s c.take_run-2.new.self (tsn_after c.in-Some.last) c.in-Some-take_run.end =
    subst (λ t. IsTaken s c.take_run-2.new.self t c.in-Some-take_run.end) c.after-2.ensures
    c.in-Some-take_run.ensures.some in
    let top = ap (λ b. tsn_past b c.in-Some.last) (sym taken.base) ∙ sym c.offset.ensures ∙ c.if-offset.false in
    (advanced_twice c.args.self.now s c.take_run-2.new.self c.args.cumulative_tsn c.in-Some.last c.in-Some-take_run.end
    c.ranges.cumulative_tsn.fits taken top more).1

pub returns-in-None-clause-moved : goal.returns-in-None-clause-moved
returns-in-None-clause-moved c =
    let s = c.take_run.new.self in
    let taken : IsTaken c.args.self.now s (tsn_after c.args.cumulative_tsn) c.in-Some.last =
    subst (λ t. IsTaken c.args.self.now s t c.in-Some.last) c.after.ensures c.in-Some.ensures.some in
    let none = c.take_run-2.ensures.none c.in-None.is in
    let stop : is_held (tsn_after c.in-Some.last) (tsns_of s) ≡ false =
    ap (λ t. is_held t (tsns_of s)) (sym c.after-2.ensures) ∙ none.1 in
    advanced_once c.args.self.now s c.args.cumulative_tsn c.in-Some.last c.ranges.cumulative_tsn.fits taken stop ∙
    ap (λ r. (c.in-Some.last, tsns_of r)) (sym none.0)
