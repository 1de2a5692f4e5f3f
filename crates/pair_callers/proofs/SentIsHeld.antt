-- What a side wrote waits or is in flight after the poll that follows, or is dropped by it.
use Rattle.std.proofs.Common.{◌≡◌, sym, ap, ◌∙◌, subst, ⊎_elim, inl, inr, ℕ, true, List, Option, None, is_some}
use Rattle.std.proofs.Common.{Result, Ok, Err, IfOk, OnOk}
use Rattle.sctp_wire_types.specs.declared.error.Error.{Error}
use Rattle.sctp_wire.specs.declared.transmit.Transmit.{Transmit}
use Rattle.sctp_assoc.specs.Calls.{stream_refusal, written}
use Rattle.sctp_sides.specs.Laws.{IsDroppedAt, PollsKeepWhatIsHeld, WritesAreHeld, is_held}
use Rattle.pair_callers.specs.Exchanging.{IsHeldOrDropped}
use Rattle.sctp_assoc.specs.Gather.{packets_of, polled}
use Rattle.sctp_assoc.specs.Shown.{Shown}
use Rattle.sctp_sides.proofs.Proved.{found_streams_are_live}

-- the association a was m after the write
pub sent_is_held : WritesAreHeld → PollsKeepWhatIsHeld
    → (a m b : Shown) (id now : ℕ) (bytes : List ℕ) (r : Result (Option Transmit) Error)
    → stream_refusal a id ≡ None → m ≡ written a id None bytes → IfOk r (λ given. polled m now ≡ (b, packets_of given))
    → OnOk r (IsHeldOrDropped (written a id None bytes) now b a.sender.queue.next_message_id)
sent_is_held writes polls a m b id now bytes (Ok given) live accepts e =
    let number = a.sender.queue.next_message_id in
    let held : is_held m.sender.queue number ≡ true =
    ap (λ (x : Shown). is_held x.sender.queue number) accepts
    ∙ writes a id None bytes (ap is_some (found_streams_are_live a id live).there) in
    subst (λ (x : Shown). IsHeldOrDropped x now b number) accepts
    (⊎_elim
    (λ (h : is_held (polled m now).0.sender.queue number ≡ true).
    inl (sym (ap (λ (x : Shown × List (List ℕ)). is_held x.0.sender.queue number) e) ∙ h))
    (λ (dropped : IsDroppedAt m now number). inr dropped)
    (polls m now number held))
sent_is_held writes polls a m b id now bytes (Err error) live accepts e = tt
