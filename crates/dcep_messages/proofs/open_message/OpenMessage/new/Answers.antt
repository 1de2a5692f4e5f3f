use Rattle.std.proofs.Common.{arith, sym, ◌∙◌, subst, List, ℕ}
use Rattle.dcep_messages.specs.Codec.{IsOpenMessage, IsOpenOf, is_too_long, open_bytes}
use Rattle.dcep_messages.proofs.OpenMessages.{is_open_message, is_open_of, lacks_memory, spells_all, spells_nothing}
use Rattle.dcep_messages.proofs.open_message.OpenMessage.new.Goals as goal

pub of_bytes-requires : goal.of_bytes-requires
of_bytes-requires c =
    let lengths = c.is_too_long.ensures.lengths c.if-is_too_long.false in
    subst (λ (bytes : List ℕ). IsOpenMessage bytes) (sym c.in-Ok.ensures.bytes)
    (is_open_message c.args.ordered c.args.persistence c.args.priority c.args.label.now c.args.protocol.now lengths.0
    lengths.1)

pub returns-then-is_too_long : goal.returns-then-is_too_long
returns-then-is_too_long c = record {
  bytes =
      spells_nothing (is_too_long c.args.label.now c.args.protocol.now)
      (open_bytes c.args.ordered c.args.persistence c.args.priority c.args.label.now c.args.protocol.now)
      (sym c.is_too_long.ensures.exact ∙ c.if-is_too_long.true);
  again = tt;
}

pub returns-in-Ok : goal.returns-in-Ok
returns-in-Ok c =
    let lengths = c.is_too_long.ensures.lengths c.if-is_too_long.false in
    let made = c.of_bytes.ensures ∙ c.in-Ok.ensures.bytes in record {
      bytes =
          spells_all (is_too_long c.args.label.now c.args.protocol.now)
          (open_bytes c.args.ordered c.args.persistence c.args.priority c.args.label.now c.args.protocol.now)
          c.of_bytes.result (sym c.is_too_long.ensures.exact ∙ c.if-is_too_long.false) made;
      again =
          subst (λ (bytes : List ℕ). IsOpenOf c.args.ordered c.args.persistence c.args.priority c.args.label.now
          c.args.protocol.now bytes) (sym made)
          (is_open_of c.args.ordered c.args.persistence c.args.priority c.args.label.now c.args.protocol.now
          c.spelled.ensures.parameter (omega arith) lengths.0 lengths.1);
    }

pub returns-in-Err : goal.returns-in-Err
returns-in-Err c = record {
  bytes =
      lacks_memory (is_too_long c.args.label.now c.args.protocol.now)
      (open_bytes c.args.ordered c.args.persistence c.args.priority c.args.label.now c.args.protocol.now)
      (sym c.is_too_long.ensures.exact ∙ c.if-is_too_long.false);
  again = tt;
}
