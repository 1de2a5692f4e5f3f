-- One generation of a stream after the other is over.
use Rattle.std.proofs.Common.{◌≡◌, refl, ap, ℕ, zero, suc, Bool, true, false, ◌-◌, ◌<◌, ◌≤◌, Option, arith}
use Rattle.std.proofs.Common.{List, None, Some, is_some}
use Rattle.sctp_generations.specs.Retiring.{count_of}
use Rattle.sctp_resets.specs.Draining.{Reading, passed_once, passed_times}

-- The messages of a stream that is made have the first identifier or a greater one, and are no longer than the limit;
-- `in_progress` is the last TSN of a request in progress that names the stream.
module _ (first limit id : ℕ) (in_progress : Option ℕ) where
  -- the last one that is looked at is not over
  pub none_passes_more : (n : ℕ) (before after : Reading) (over : Bool) → 0 < n
      → passed_once first limit id in_progress before ≡ (after, over) → over ≡ false
      → passed_times n first limit id in_progress before ≡ after
  none_passes_more zero before after over some same none = absurd (omega arith)
  none_passes_more (suc n) before after over some same none = rw (same, none) refl

  -- one is over, and so are those behind it
  pub others_pass : (n : ℕ) (before after : Reading) (over : Bool) → 0 < n
      → passed_once first limit id in_progress before ≡ (after, over) → over ≡ true
      → passed_times (n - 1) first limit id in_progress after ≡ passed_times n first limit id in_progress before
  others_pass zero before after over some same one = absurd (omega arith)
  others_pass (suc n) before after over some same one =
      let less : suc n - 1 ≡ n = omega arith in
      rw (same, one) (ap (λ m. passed_times m first limit id in_progress after) less)

  -- where none is left to look at, nothing changes
  pub none_is_left : (n : ℕ) (r : Reading) → n ≤ 0 → passed_times n first limit id in_progress r ≡ r
  none_is_left zero r none = refl
  none_is_left (suc n) r none = absurd (omega arith)

-- a stream of which a generation ended that is not drained retires
pub retires_where_counted : (o : Option (List ℕ)) → 0 < count_of o → is_some o ≡ true
retires_where_counted None some = absurd (omega arith)
retires_where_counted (Some boundaries) some = refl
