-- A stream is within its span by the names of a fit where it is by the direction.
use Rattle.std.proofs.Common.{◌≡◌, sym, ap, ◌∙◌, ℕ, true, false, not}
use Rattle.std.proofs.lemmas.Bool.{not-true}
use Rattle.sctp_model.specs.Machine.{Direction}
use Rattle.sctp_fit.specs.Outgoing.{FitsOutgoing, Sending}

module _ (a : Sending) (w : Direction) (f : FitsOutgoing a w) where
  pub named_within : (s : ℕ) → w.over s ≡ false → f.named.within s ≡ true
  named_within s e = f.within s ∙ ap not e

  pub not_over : (s : ℕ) → f.named.within s ≡ true → w.over s ≡ false
  not_over s e = not-true (w.over s) (sym (f.within s) ∙ e)
