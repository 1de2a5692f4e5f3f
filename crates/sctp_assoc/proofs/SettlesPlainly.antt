-- Where no request of the peer can be performed and no skip is kept, settling changes nothing.
use Rattle.std.proofs.Common.{◌≡◌, ap, ◌∙◌, ℕ, false, Option}
use Rattle.std.proofs.lemmas.Bool.{or_parts}
use Rattle.sctp_generations.specs.Generations.{has_skips}
use Rattle.sctp_reset_requests.specs.Peer.{is_one_due}
use Rattle.sctp_resets.specs.declared.performing.Settled.{Settled}
use Rattle.sctp_resets.specs.Resets.{Resetting}
use Rattle.sctp_resets.proofs.OthersStay.{nothing_settled, skips_of_plainly, skips_plainly}
use Rattle.sctp_assoc.specs.Resets.{channels_of, settled, settled_with, settling_takes_memory, skips_applied}
use Rattle.sctp_assoc.specs.Resets.{skips_applied_of, with_beside}
use Rattle.sctp_assoc.specs.Shown.{Shown}

pub settles_plainly : (a : Shown) → settling_takes_memory a ≡ false → settled a ≡ a
unfolding settled
settles_plainly a none =
    let parts =
    or_parts (is_one_due a.resets.peer.in_progress a.receiver.peer_last_tsn) (has_skips a.resets.generations) none in
    ap (λ (x : Resetting × Option Settled). skips_applied (settled_with a x))
    (nothing_settled a.receiver.peer_last_tsn a.sender.queue.next_message_id a.receiver.max_receive_message_size
    a.resets
    (channels_of a) parts.0)
    ∙ ap (with_beside a) (skips_plainly a.resets a.streams a.events parts.1)

pub skips_apply_plainly : (id : ℕ) (a : Shown) → has_skips a.resets.generations ≡ false → skips_applied_of id a ≡ a
skips_apply_plainly id a none = ap (with_beside a) (skips_of_plainly id a.resets a.streams a.events none)
