-- A shutdown that goes on behind DATA changes no more than the state and which of its chunks are due. In Established
-- nothing goes on.
use Rattle.std.proofs.Common.{◌≡◌, refl, ap, ◌∙◌, Bool, true, false, if◌then◌else◌}
use Rattle.std.proofs.lemmas.Bool.{false≢true}
use Rattle.sctp_parts.specs.declared.state.AssociationState.{AssociationState}
use Rattle.sctp_parts.specs.declared.state.AssociationState.TheVariants as states
use Rattle.sctp_assoc.specs.declared.shutdown.ShutdownDue.{ShutdownDue}
use Rattle.sctp_assoc.specs.Calls.{exchanges_data, is_established}
use Rattle.sctp_assoc.specs.Shown.{Shown}
use Rattle.sctp_assoc.specs.Shutdown.{all_acknowledged, due_behind_data, shutdown_continued, state_behind_data}
use Rattle.sctp_assoc.proofs.PartsOfPolls.{LeavesTheRest}

pub continued_leaves : (a : Shown) → LeavesTheRest a (shutdown_continued a)
continued_leaves a = record {
  sender = refl;
  receiver = refl;
  handshake = refl;
  streams = refl;
  events = refl;
  generations = refl;
}

-- DATA is exchanged in Established
pub established_exchanges : (state : AssociationState) → is_established state ≡ true → exchanges_data state ≡ true
established_exchanges states.Closed e = absurd (false≢true e)
established_exchanges states.CookieWait e = absurd (false≢true e)
established_exchanges states.CookieEchoed e = absurd (false≢true e)
established_exchanges states.Established e = refl
established_exchanges states.ShutdownAckSent e = absurd (false≢true e)
established_exchanges states.ShutdownPending e = refl
established_exchanges states.ShutdownReceived e = refl
established_exchanges states.ShutdownSent e = refl

behind_established : (state : AssociationState) (due : ShutdownDue) → is_established state ≡ true
    → (state_behind_data state ≡ state) × (due_behind_data state due ≡ due)
behind_established states.Closed due e = (refl, refl)
behind_established states.CookieWait due e = (refl, refl)
behind_established states.CookieEchoed due e = (refl, refl)
behind_established states.Established due e = (refl, refl)
behind_established states.ShutdownAckSent due e = (refl, refl)
behind_established states.ShutdownPending due e = absurd (false≢true e)
behind_established states.ShutdownReceived due e = absurd (false≢true e)
behind_established states.ShutdownSent due e = (refl, refl)

behind_if : (acknowledged : Bool) (state : AssociationState) (due : ShutdownDue) → is_established state ≡ true
    → ((if acknowledged then state_behind_data state else state) ≡ state)
    × ((if acknowledged then due_behind_data state due else due) ≡ due)
behind_if true state due e = behind_established state due e
behind_if false state due e = (refl, refl)

pub continued_in_established : (a : Shown) → is_established a.state ≡ true → shutdown_continued a ≡ a
continued_in_established a e =
    let all = all_acknowledged a in
    let same = behind_if all a.state a.shutdown_due e in
    ap (λ (state : AssociationState). record a {
      state = state;
      shutdown_due = if all then due_behind_data a.state a.shutdown_due else a.shutdown_due;
    }) same.0
    ∙ ap (λ (due : ShutdownDue). record a { shutdown_due = due }) same.1

established_behind : (state : AssociationState) → is_established (state_behind_data state) ≡ is_established state
established_behind states.Closed = refl
established_behind states.CookieWait = refl
established_behind states.CookieEchoed = refl
established_behind states.Established = refl
established_behind states.ShutdownAckSent = refl
established_behind states.ShutdownPending = refl
established_behind states.ShutdownReceived = refl
established_behind states.ShutdownSent = refl

established_if : (acknowledged : Bool) (state : AssociationState)
    → is_established (if acknowledged then state_behind_data state else state) ≡ is_established state
established_if true state = established_behind state
established_if false state = refl

-- nothing enters or leaves Established so
pub continued_is_established : (a : Shown) → is_established (shutdown_continued a).state ≡ is_established a.state
continued_is_established a = established_if (all_acknowledged a) a.state
