-- What the timers of an association ask for at a moment.
use Rattle.std.proofs.Common.{◌≡◌, ap, ◌∙◌, subst, ℕ, true, Result, Ok, Err, OnOk}
use Rattle.sctp_wire_types.specs.declared.error.Error.{Error}
use Rattle.sctp_assoc.specs.Shown.{Shown}
use Rattle.sctp_assoc.specs.Timeouts.{after_timeouts, timeouts_take_memory}

-- at two moments that are the same
module _ (a : Shown) (m n : ℕ) (same : m ≡ n) where
  pub met_then : (r : Result (Unit {0}) Error) (b : Shown) → OnOk r (b ≡ after_timeouts a m)
      → OnOk r (b ≡ after_timeouts a n)
  met_then (Ok answer) b h = h ∙ ap (after_timeouts a) same
  met_then (Err error) b h = tt

  pub takes_memory_then : timeouts_take_memory a m ≡ true → timeouts_take_memory a n ≡ true
  takes_memory_then h = subst (λ k. timeouts_take_memory a k ≡ true) same h
