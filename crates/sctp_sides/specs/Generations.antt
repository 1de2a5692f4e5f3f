-- Generations over every list of calls: each number that was given out is that of a live stream, or of a stream whose
-- last counters were told or wait to be told, and of nothing twice.
use Rattle.std.specs.Prelude.{◌≡◌, ◌⊎◌, ◌<◌, ◌≤◌, ℕ, ◌==◌, false, List, [], ◌∷◌, ◌++◌, map, Option}
use Rattle.std.specs.List.{count_by}
use Rattle.std.specs.declared.net.ip_addr.IpAddr.{IpAddr}
use Rattle.std.specs.declared.net.socket_addr.SocketAddr.{SocketAddr}
use Rattle.sctp_wire_types.specs.declared.chunk.ChunkInit.{ChunkInit}
use Rattle.sctp_wire_types.specs.declared.config.ServerConfig.{ServerConfig}
use Rattle.sctp_wire_types.specs.Config.{Settings}
use Rattle.sctp_streams.specs.declared.event.Event.{Event}
use Rattle.sctp_streams.specs.declared.event.Event.TheVariants as events
use Rattle.sctp_streams.specs.Streams.{StreamMap, no_stream}
use Rattle.sctp_assoc.specs.Created.{created, joined}
use Rattle.sctp_assoc.specs.Shown.{Shown}
use Rattle.sctp_sides.specs.OneSide.{Call, IsRun}

-- the generation whose last counters an event tells, if it tells any
abbrev pub final_of : Event → List ℕ
final_of events.Connected = []
final_of (events.HandshakeFailed reason) = []
final_of (events.AssociationLost reason) = []
final_of (events.Stream e) = []
final_of (events.DataChannelStatsFinal stats) = stats.generation ∷ []
final_of events.DatagramReceived = []

-- the generations whose last counters these events tell
abbrev pub finals : List Event → List ℕ
finals [] = []
finals (e ∷ es) = final_of e ++ finals es

-- the generations of the live streams, identifiers ascending
abbrev pub live_generations : StreamMap → List ℕ
live_generations m = map (λ e. e.1.stats.generation) m.by_id

-- how often a list has a number
abbrev pub times : ℕ → List ℕ → ℕ
times n ns = count_by (λ m. m == n) ns

-- A generation is that of one live stream, and its last counters were not told; or of none, and they were told once.
abbrev pub IsLiveOrFinal : ℕ → List ℕ → List ℕ → Type 0
IsLiveOrFinal g live ended =
    ((times g live ≡ 1) × (times g ended ≡ 0)) ⊎ ((times g live ≡ 0) × (times g ended ≡ 1))

-- Each of so many first numbers is live or final, and no other number is either.
pub record EachIsLiveOrFinal (given : ℕ) (live ended : List ℕ) : Type 0 where
  pub each : (g : ℕ) → g < given → IsLiveOrFinal g live ended
  pub no_other : (g : ℕ) → given ≤ g → (times g live ≡ 0) × (times g ended ≡ 0)

-- It made no stream yet, and no event that waits tells of last counters.
abbrev pub HasNoGeneration : Shown → Type 0
HasNoGeneration a = (a.streams ≡ no_stream) × (finals a.events ≡ [])

-- Both constructors leave such an association.
abbrev pub CreatedSidesHaveNoGeneration : Type 0
CreatedSidesHaveNoGeneration = (of_server : Option ServerConfig) (config : Settings) (size tag initial_tsn : ℕ)
    (cookie : List ℕ) (remote_addr : SocketAddr) (local_ip : Option IpAddr) (now : ℕ)
    → HasNoGeneration (created of_server config size tag initial_tsn cookie remote_addr local_ip now)

abbrev pub JoinedSidesHaveNoGeneration : Type 0
JoinedSidesHaveNoGeneration = (config : Settings) (size : ℕ) (remote_addr : SocketAddr) (local_ip : Option IpAddr)
    (own peer : ChunkInit)
    → HasNoGeneration (joined config size remote_addr local_ip own peer)

-- Over every list of calls of an association that begins with no stream, and whatever the peer sends, each generation
-- that was given out is live or final, unless the association failed,
abbrev pub GenerationsAreLiveOrFinal : Type 0
GenerationsAreLiveOrFinal = (calls : List Call) (told : List Event) (a b : Shown) → HasNoGeneration a
    → IsRun calls told a b
    → b.failed ≡ false
    → EachIsLiveOrFinal b.streams.next_generation (live_generations b.streams) (finals (told ++ b.events))

-- and the last counters of a generation are told at most once, whether it failed or not.
abbrev pub FinalsAreToldOnce : Type 0
FinalsAreToldOnce = (calls : List Call) (told : List Event) (a b : Shown) → HasNoGeneration a
    → IsRun calls told a b
    → (g : ℕ) → times g (finals told) ≤ 1
