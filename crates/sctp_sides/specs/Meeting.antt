-- How far the handshake of a side has come, and what its packets say of that side (RFC 4960 section 5.1).
use Rattle.std.specs.Prelude.{◌≡◌, ◌⊎◌, ℕ, Bool, true, false, is_some, List, [], ◌∷◌, ⊤}
use Rattle.std.specs.List.{AllByRecursion}
use Rattle.sctp_wire_types.specs.declared.chunk.Chunk.{Chunk}
use Rattle.sctp_wire_types.specs.declared.chunk.Chunk.TheVariants as chunks
use Rattle.sctp_wire_types.specs.declared.ids.Side.{Side}
use Rattle.sctp_wire_types.specs.declared.ids.Side.TheVariants as sides
use Rattle.sctp_wire_types.specs.declared.packet.CommonHeader.{CommonHeader}
use Rattle.sctp_parts.specs.declared.state.AssociationState.{AssociationState}
use Rattle.sctp_parts.specs.declared.state.AssociationState.TheVariants as states
use Rattle.sctp_inbound.specs.Greeting.{first_cookie}
use Rattle.sctp_assoc.specs.declared.control.Control.{Control}
use Rattle.sctp_assoc.specs.declared.control.Control.TheVariants as controls
use Rattle.sctp_directions.specs.Acts.{Act}
use Rattle.sctp_assoc.specs.Calls.{is_beginning}
use Rattle.sctp_assoc.specs.Happened.{acts_of_chunk}
use Rattle.sctp_assoc.specs.Gather.{WaitPlainly}
use Rattle.sctp_assoc.specs.Shown.{Shown}

-- What the handshake of a side tells the other one of it: whether it is client or server, whether it knows the peer's
-- initial TSN, and whether it is established or was.
pub record Stage : Type 0 where
  pub side : Side
  pub knows : Bool
  pub completed : Bool

abbrev pub stage_of : Shown → Stage
stage_of a = record { side = a.side; knows = is_some a.handshake.peer_initial_tsn; completed = a.handshake.completed }

-- t is s, or a later stage of the same side
pub record IsNoEarlier (s t : Stage) : Type 0 where
  pub side : t.side ≡ s.side
  pub knows : s.knows ≡ true → t.knows ≡ true
  pub completed : s.completed ≡ true → t.completed ≡ true

-- What a packet of the handshake says of the side that gives it out, whose initial TSN is own: INIT and INIT ACK say
-- that TSN, and INIT that the side is a client; an INIT ACK has a cookie; a COOKIE ECHO says that a client learnt the
-- peer's initial TSN, and a COOKIE ACK that the side is established or was. An ABORT and an ERROR say nothing of these,
-- and neither do the chunks of a shutdown.
abbrev pub Greets : ℕ → Stage → Chunk → Type 0
Greets own s (chunks.Init init) = (init.initial_tsn ≡ own) × (s.side ≡ sides.Client)
Greets own s (chunks.InitAck init) = (init.initial_tsn ≡ own) × (is_some (first_cookie init.params) ≡ true)
Greets own s (chunks.CookieEcho cookie) = (s.side ≡ sides.Client) × (s.knows ≡ true)
Greets own s chunks.CookieAck = s.completed ≡ true
Greets own s (chunks.Abort abort) = ⊤
Greets own s (chunks.Error error) = ⊤
Greets own s (chunks.Shutdown cumulative_tsn_ack) = ⊤
Greets own s chunks.ShutdownAck = ⊤
Greets own s chunks.ShutdownComplete = ⊤
Greets own s chunk = ⊥

-- A chunk that waits to go out says what is so; a RE-CONFIG says nothing of the handshake.
abbrev pub SaysWhatIsSo : ℕ → Stage → Chunk → Type 0
SaysWhatIsSo own s (chunks.Reconfig reconfig) = ⊤
SaysWhatIsSo own s chunk = Greets own s chunk

-- so does each packet that waits; the place of a request to reset streams says nothing of the handshake
abbrev pub WaitsTruthfully : ℕ → Stage → Control → Type 0
WaitsTruthfully own s (controls.Packet c) = SaysWhatIsSo own s c.chunk
WaitsTruthfully own s controls.OwnRequest = ⊤

-- Its initial TSN is own. Each packet that waits to go out says what is so, and keeps nothing under `Other` whose type
-- has a variant of its own; an INIT is kept for its timer by a client alone, and a COOKIE ECHO by a client that knows
-- the peer's initial TSN.
pub record IsTruthful (own : ℕ) (a : Shown) : Type 0 where
  pub tsn : a.handshake.my_initial_tsn ≡ own
  pub says : AllByRecursion (WaitsTruthfully own (stage_of a)) a.control
  pub plain : WaitPlainly a
  pub offers : is_some a.handshake.offer ≡ true → a.side ≡ sides.Client
  pub echoes : is_some a.handshake.echo ≡ true → (a.side ≡ sides.Client) × (is_some a.handshake.peer_initial_tsn ≡ true)

-- A client that waits for INIT ACK, and answered no INIT.
pub record AwaitsInitAck (a : Shown) : Type 0 where
  pub client : a.side ≡ sides.Client
  pub state : a.state ≡ states.CookieWait
  pub incomplete : a.handshake.completed ≡ false
  pub unissued : a.handshake.cookie_issued ≡ false
  pub unknown : is_some a.handshake.peer_initial_tsn ≡ false

-- A client that waits for COOKIE ACK, and answered no INIT.
pub record AwaitsCookieAck (a : Shown) : Type 0 where
  pub client : a.side ≡ sides.Client
  pub state : a.state ≡ states.CookieEchoed
  pub incomplete : a.handshake.completed ≡ false
  pub unissued : a.handshake.cookie_issued ≡ false
  pub known : is_some a.handshake.peer_initial_tsn ≡ true

-- A server that waits for INIT, or for COOKIE ECHO.
pub record Listens (a : Shown) : Type 0 where
  pub server : a.side ≡ sides.Server
  pub state : a.state ≡ states.Closed
  pub incomplete : a.handshake.completed ≡ false
  pub issued : a.handshake.cookie_issued ≡ true → is_some a.handshake.peer_initial_tsn ≡ true

-- An association that is established, or in which a shutdown began since (RFC 4960 section 9.2).
pub record IsEstablished (a : Shown) : Type 0 where
  pub state : is_beginning a.state ≡ false
  pub completed : a.handshake.completed ≡ true
  pub known : is_some a.handshake.peer_initial_tsn ≡ true

-- A state as far on as another one: the same, or both are past the handshake, and a shutdown may have gone on between
-- them.
abbrev pub IsAsFarOn : AssociationState → AssociationState → Type 0
IsAsFarOn s t = (t ≡ s) ⊎ ((is_beginning s ≡ false) × (is_beginning t ≡ false))

-- how far the handshake has come
abbrev pub HasCome : Shown → Type 0
HasCome a = AwaitsInitAck a ⊎ (AwaitsCookieAck a ⊎ (Listens a ⊎ IsEstablished a))

-- DATA may come to a side in this stage: it is established or was, or it is a client that knows the peer's initial TSN
-- (DATA may overtake COOKIE ACK, RFC 4960 section 5.1)
abbrev pub MayHear : Stage → Type 0
MayHear s = (s.completed ≡ true) ⊎ ((s.side ≡ sides.Client) × (s.knows ≡ true))

-- the peer's initial TSN became known where no DATA may have come yet, or what is known of it stays
abbrev pub IsLearning : ℕ → List Act → Shown → Shown → Type 0
IsLearning peer acts a b =
    ((acts ≡ []) × (b.handshake.peer_initial_tsn ≡ a.handshake.peer_initial_tsn))
    ⊎ ((acts ≡ Act.PeerKnown peer ∷ []) × (MayHear (stage_of a) → ⊥))

-- A chunk of the handshake of a peer in the stage t led the association a by these acts to b: what waits stays
-- truthful, and its stage is no earlier one. Where that establishes it, its DATA may come to the peer.
pub record IsGreeted (own peer : ℕ) (t : Stage) (acts : List Act) (a b : Shown) : Type 0 where
  pub truthful : IsTruthful own b
  pub come : HasCome b
  pub goes : IsNoEarlier (stage_of a) (stage_of b)
  pub completes : b.handshake.completed ≡ true → (a.handshake.completed ≡ true) ⊎ MayHear t
  pub learns : IsLearning peer acts a b

-- if both sides are clients, the first one is established or was
abbrev pub IsDoneAmongClients : Stage → Stage → Type 0
IsDoneAmongClients s t = s.side ≡ sides.Client → t.side ≡ sides.Client → s.completed ≡ true

-- A chunk that made b of a leads the handshake on where a peer in the stage t says it truthfully, and where a is
-- truthful, too, and not one of two clients that wait.
abbrev pub GreetsOn : CommonHeader → Chunk → Shown → Shown → Type 0
GreetsOn header chunk a b = (own peer : ℕ) (t : Stage) → Greets peer t chunk → IsDoneAmongClients (stage_of a) t
    → IsTruthful own a → HasCome a
    → IsGreeted own peer t (acts_of_chunk a header chunk) a b
