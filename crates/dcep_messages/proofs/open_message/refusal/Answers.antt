use Rattle.std.proofs.Common.{arith, rules, ℕ}
use Rattle.dcep_messages.specs.Codec.{IsOpenMessage}
use Rattle.dcep_messages.proofs.Spelled.{spelled}
use Rattle.dcep_messages.proofs.open_message.refusal.Goals as goal

pub returns-clause-spelled : goal.returns-clause-spelled
returns-clause-spelled c =
    let form : IsOpenMessage c.args.bytes.now = search rules in
    λ none. spelled c.args.bytes.now (λ (i : ℕ). omega (arith, c.type_inv.bytes i)) form
