-- What is so where an INIT leaves what is known of the peer, and where a COOKIE ECHO is acknowledged again.
use Rattle.std.proofs.Common.{◌≡◌, refl, ap, ℕ, Bool, true, false, ◌&&◌, ◌||◌, ◌==◌, Option, Some, None, arith}
use Rattle.std.specs.List.{AllByRecursion}
use Rattle.std.proofs.lemmas.Bool.{false≢true}
use Rattle.std.proofs.lemmas.Bool.Decides.{nat_tests}
use Rattle.sctp_wire_types.specs.declared.chunk.ChunkInit.{ChunkInit}
use Rattle.sctp_wire_types.specs.Config.{is_rfc}
use Rattle.sctp_parts.specs.declared.state.AssociationState.{AssociationState}
use Rattle.sctp_parts.specs.declared.state.AssociationState.TheVariants as states
use Rattle.sctp_parts.specs.State.{is_closing}
use Rattle.sctp_directions.specs.Acts.{Act}
use Rattle.sctp_assoc.specs.Calls.{is_beginning, is_established}
use Rattle.sctp_assoc.specs.Happened.{known_unless}
use Rattle.sctp_assoc.specs.Handshake.{acknowledges_again, is_tsn, keeps_peer}
use Rattle.sctp_assoc.specs.Shown.{Shown}

same_tsn : (m n : ℕ) → (m == n) ≡ true → m ≡ n
same_tsn m n e = grind (arith, nat_tests, e)

some_tsn : (o : Option ℕ) (n : ℕ) → is_tsn o n ≡ true → o ≡ Some n
some_tsn None n e = absurd (false≢true e)
some_tsn (Some m) n e = ap Some (same_tsn m n e)

last_of : (p q r : Bool) → (p && (q && r)) ≡ true → r ≡ true
last_of true true r e = e
last_of true false r e = absurd (false≢true e)
last_of false q r e = absurd (false≢true e)

-- what is kept of a peer is what its INIT says
pub kept_is_known : (a : Shown) (init : ChunkInit) → keeps_peer a init ≡ true
    → a.handshake.peer_initial_tsn ≡ Some init.initial_tsn
kept_is_known a init e =
    some_tsn a.handshake.peer_initial_tsn init.initial_tsn
    (last_of (is_rfc a.profile) (a.handshake.peer_verification_tag == init.initiate_tag)
    (is_tsn a.handshake.peer_initial_tsn init.initial_tsn) e)

-- what holds of the peer's first TSN becoming known holds of all that an INIT does
pub known_all : (P : Act → Type 0) (keeps : Bool) (tsn : ℕ) → P (Act.PeerKnown tsn)
    → AllByRecursion P (known_unless keeps tsn)
known_all P true tsn p = tt
known_all P false tsn p = (p, tt)

past_beginning : (by_rfcs : Bool) (s : AssociationState) → (is_established s || (by_rfcs && is_closing s)) ≡ true
    → is_beginning s ≡ false
past_beginning true states.Closed e = absurd (false≢true e)
past_beginning false states.Closed e = absurd (false≢true e)
past_beginning true states.CookieWait e = absurd (false≢true e)
past_beginning false states.CookieWait e = absurd (false≢true e)
past_beginning true states.CookieEchoed e = absurd (false≢true e)
past_beginning false states.CookieEchoed e = absurd (false≢true e)
past_beginning by_rfcs states.Established e = refl
past_beginning by_rfcs states.ShutdownAckSent e = refl
past_beginning by_rfcs states.ShutdownPending e = refl
past_beginning by_rfcs states.ShutdownReceived e = refl
past_beginning by_rfcs states.ShutdownSent e = refl

-- a side that acknowledges a COOKIE ECHO again is past its handshake
pub again_is_past : (a : Shown) → acknowledges_again a ≡ true → is_beginning a.state ≡ false
again_is_past a e = past_beginning (is_rfc a.profile) a.state e
