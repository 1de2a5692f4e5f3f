-- Where the retransmission timer marked none of the pieces in flight, none is sent again.
use Rattle.std.proofs.Common.{◌≡◌, ℕ, ◌+◌, false, Bool, true, List, [], ◌∷◌, refl, ap, ◌∙◌, arith}
use Rattle.std.proofs.Math.Bool.{cond}
use Rattle.std.proofs.lemmas.List.Sums.{sum_by-cons}
use Rattle.sctp_outbound_queue.specs.declared.message.InFlight.{InFlight}
use Rattle.sctp_outbound_queue.specs.declared.message.Retransmission.TheVariants as causes
use Rattle.sctp_outbound_queue.specs.Outbound.{marked_of}
use Rattle.sctp_outbound.specs.Sender.{resent_chunks, resent_pieces}
use Rattle.sctp_outbound.proofs.SenderSteps.{chunks_skip, pieces_skip}

count_none : (b : Bool) (n m : ℕ) → m ≡ cond b 1 0 + n → m ≡ 0 → (b ≡ false) × (n ≡ 0)
count_none true n m sum none = absurd (omega (arith, sum, none))
count_none false n m sum none = (refl, omega (arith, sum, none))

pub none_of : (p : InFlight) (ps : List InFlight) → marked_of (p ∷ ps) ≡ 0 → (p.retransmit ≡ false) × (marked_of ps ≡ 0)
none_of p ps none =
    count_none p.retransmit (marked_of ps) (marked_of (p ∷ ps))
    (sum_by-cons (λ (q : InFlight). cond q.retransmit 1 0) p ps) none

pub none_resent : (at_once : Bool) (first index room : ℕ) (ps : List InFlight) → marked_of ps ≡ 0
    → resent_chunks at_once causes.Timer first index room ps ≡ []
none_resent at_once first index room [] none = refl
none_resent at_once first index room (p ∷ ps) none =
    let both = none_of p ps none in
    chunks_skip at_once causes.Timer p ps first index room both.0
    ∙ none_resent at_once first (index + 1) room ps both.1

pub all_stay : (room : ℕ) (ps : List InFlight) → marked_of ps ≡ 0 → resent_pieces causes.Timer room ps ≡ ps
all_stay room [] none = refl
all_stay room (p ∷ ps) none =
    let both = none_of p ps none in
    pieces_skip causes.Timer p ps room both.0 ∙ ap (λ z. p ∷ z) (all_stay room ps both.1)
