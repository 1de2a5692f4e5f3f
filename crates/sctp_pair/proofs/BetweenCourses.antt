-- A pair that two tokens joined stands between fresh courses of each stream, and so does one of a client and a server.
use Rattle.std.proofs.Common.{◌≡◌, sym, subst, ℕ, ◌<◌, ◌^◌, List, [], Some, None, arith}
use Rattle.std.specs.declared.net.socket_addr.SocketAddr.{SocketAddr}
use Rattle.sctp_serial.specs.Serial.{tsn}
use Rattle.sctp_wire_types.specs.declared.chunk.ChunkInit.{ChunkInit}
use Rattle.sctp_wire_types.specs.declared.config.ServerConfig.{ServerConfig}
use Rattle.sctp_wire_types.specs.Config.{Settings}
use Rattle.sctp_assoc.specs.Created.{created, joined}
use Rattle.sctp_assoc.specs.Handshake.{sends_init}
use Rattle.sctp_assoc.specs.Shown.{Shown}
use Rattle.sctp_steps.specs.Ends.{Ends}
use Rattle.sctp_boundaries.specs.Laws.{ClientsAndServersBegin, JoinedPairsBegin, StandsFresh}

-- an initial TSN that is the TSN on the first offset has 32 bits
small_first : (initial : ℕ) → initial ≡ tsn initial 0 → initial < 2 ^ 32
small_first initial e = omega arith

pub begins_fresh : JoinedPairsBegin → (config_a config_b : Settings) (size_a size_b : ℕ)
    (remote_a remote_b : SocketAddr) (token_a token_b : ChunkInit) {a b : Shown}
    → a ≡ joined config_a size_a remote_a None token_a token_b
    → b ≡ joined config_b size_b remote_b None token_b token_a
    → a.sender.queue.first_tsn ≡ tsn token_a.initial_tsn 0 → b.sender.queue.first_tsn ≡ tsn token_b.initial_tsn 0
    → (p : Ends)
    → p ≡ record { a = a; b = b; packets_a = []; packets_b = [] }
    → StandsFresh token_a.initial_tsn token_b.initial_tsn p
begins_fresh begin config_a config_b size_a size_b remote_a remote_b token_a token_b {a} {b} is_a is_b first_a first_b p
    is =
    subst (λ (z : Ends). StandsFresh token_a.initial_tsn token_b.initial_tsn z) (sym is)
    (subst
    (λ (x : Shown). StandsFresh token_a.initial_tsn token_b.initial_tsn
    (record { a = x; b = b; packets_a = []; packets_b = [] }))
    (sym is_a)
    (subst
    (λ (y : Shown). StandsFresh token_a.initial_tsn token_b.initial_tsn
    (record {
      a = joined config_a size_a remote_a None token_a token_b;
      b = y;
      packets_a = [];
      packets_b = [];
    }))
    (sym is_b)
    (begin config_a config_b size_a size_b remote_a remote_b None None token_a token_b
    (small_first token_a.initial_tsn
    (subst (λ (x : Shown). x.sender.queue.first_tsn ≡ tsn token_a.initial_tsn 0) is_a first_a))
    (small_first token_b.initial_tsn
    (subst (λ (x : Shown). x.sender.queue.first_tsn ≡ tsn token_b.initial_tsn 0) is_b first_b)))))

pub begins_hello : ClientsAndServersBegin → (of_server : ServerConfig) (config_a config_b : Settings)
    (size_a size_b tag_a tag_b tsn_a tsn_b : ℕ) (cookie_a cookie_b : List ℕ) (remote_a remote_b : SocketAddr) (now : ℕ)
    {a b : Shown} → a ≡ created None config_a size_a tag_a tsn_a cookie_a remote_a None now
    → b ≡ created (Some of_server) config_b size_b tag_b tsn_b cookie_b remote_b None now
    → a.sender.queue.first_tsn ≡ tsn tsn_a 0 → b.sender.queue.first_tsn ≡ tsn tsn_b 0 → (p : Ends)
    → p ≡ record { a = a; b = b; packets_a = []; packets_b = [] } → StandsFresh tsn_a tsn_b p
unfolding sends_init
begins_hello begin of_server config_a config_b size_a size_b tag_a tag_b tsn_a tsn_b cookie_a cookie_b remote_a remote_b
    now {a} {b} is_a is_b first_a first_b p is =
    subst (λ (z : Ends). StandsFresh tsn_a tsn_b z) (sym is)
    (subst (λ (x : Shown). StandsFresh tsn_a tsn_b (record { a = x; b = b; packets_a = []; packets_b = [] })) (sym is_a)
    (subst
    (λ (y : Shown). StandsFresh tsn_a tsn_b
    (record {
      a = created None config_a size_a tag_a tsn_a cookie_a remote_a None now;
      b = y;
      packets_a = [];
      packets_b = [];
    }))
    (sym is_b)
    (begin of_server config_a config_b size_a size_b tag_a tag_b tsn_a tsn_b cookie_a cookie_b remote_a remote_b None
    None now
    (small_first tsn_a (subst (λ (x : Shown). x.sender.queue.first_tsn ≡ tsn tsn_a 0) is_a first_a))
    (small_first tsn_b (subst (λ (x : Shown). x.sender.queue.first_tsn ≡ tsn tsn_b 0) is_b first_b)))))
