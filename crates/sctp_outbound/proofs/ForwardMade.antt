-- The numbers of the messages that a FORWARD TSN skips are gathered one piece after another.
use Rattle.std.proofs.Common.{◌≡◌, ℕ, ◌+◌, List, [], ◌∷◌, Option, Some, None, take, slice_get}
use Rattle.std.proofs.Common.{ap, sym, ◌∙◌, arith}
use Rattle.std.proofs.lemmas.List.{take_all}
use Rattle.std.proofs.lemmas.List.Sums.{fold-append}
use Rattle.sctp_outbound_queue.specs.declared.message.InFlight.{InFlight}
use Rattle.sctp_outbound.specs.Forward.{skipped_numbers, skipped_over, skipped_with}
use Rattle.sctp_outbound.proofs.SenderSteps.{none_past, take_get}

-- one piece more
pub skipped_more : (xs : List InFlight) (i : ℕ) (o : Option InFlight) (numbers more : List (ℕ × ℕ))
    → slice_get xs i ≡ o → numbers ≡ skipped_numbers (take i xs) → more ≡ skipped_over numbers o
    → more ≡ skipped_numbers (take (i + 1) xs)
skipped_more xs i None numbers more here before is =
    let past = none_past xs i here in
    is ∙ before ∙ ap skipped_numbers (take_all i xs past ∙ sym (take_all (i + 1) xs (omega (arith, past))))
skipped_more xs i (Some p) numbers more here before is =
    is
    ∙ ap (λ z. skipped_with z p.message) before
    ∙ sym (ap skipped_numbers (take_get xs i p here)
    ∙ fold-append (λ z (q : InFlight). skipped_with z q.message) [] (take i xs) (p ∷ []))
