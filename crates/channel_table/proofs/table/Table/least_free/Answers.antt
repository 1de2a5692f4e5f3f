use Rattle.std.proofs.Common.{subst, sym, ◌∙◌, ℕ, ◌+◌, ◌*◌, None, Some, refl}
use Rattle.channel_table.specs.Tables.{IsLeastFreeOf}
use Rattle.channel_table.proofs.Free.{is_least, none_below, none_below_streams, none_left, one_more}
use Rattle.channel_table.proofs.table.Table.least_free.Goals as goal

pub loop-index-init : goal.loop-index-init
loop-index-init c = none_below c.args.self.now c.parity-parity.result c.parity-parity.ensures.small

pub loop-index-preserved : goal.loop-index-preserved
loop-index-preserved c =
    one_more c.args.self.now c.parity-parity.result c.loop-index.index
    (2 * c.loop-index.index + c.parity-parity.result) c.parity-parity.ensures.small refl c.loop-index.invariant
    (sym c.contains.ensures ∙ c.if-not-contains.false)

pub returns-then-id-streams : goal.returns-then-id-streams
returns-then-id-streams c =
    let id = 2 * c.loop-index.index + c.parity-parity.result in
    subst (λ (p : ℕ). IsLeastFreeOf c.args.self.now p c.args.streams None) c.parity-parity.ensures.exact
    (none_below_streams c.args.self.now c.parity-parity.result c.args.streams c.loop-index.index id refl
    c.if-id-streams.true c.loop-index.invariant)

pub returns-then-not-contains : goal.returns-then-not-contains
returns-then-not-contains c =
    let id = 2 * c.loop-index.index + c.parity-parity.result in
    subst (λ (p : ℕ). IsLeastFreeOf c.args.self.now p c.args.streams (Some id)) c.parity-parity.ensures.exact
    (is_least c.args.self.now c.parity-parity.result c.args.streams c.loop-index.index id c.parity-parity.ensures.small refl
    c.if-id-streams.false c.loop-index.invariant (sym c.contains.ensures ∙ c.if-not-contains.true))

pub returns : goal.returns
returns c =
    subst (λ (p : ℕ). IsLeastFreeOf c.args.self.now p c.args.streams None) c.parity-parity.ensures.exact
    (none_left c.args.self.now c.parity-parity.result c.args.streams c.loop-index.index c.parity-parity.ensures.small
    c.ranges.streams.fits c.loop-index-test.false c.loop-index.invariant)
