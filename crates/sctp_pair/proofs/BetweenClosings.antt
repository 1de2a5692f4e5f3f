-- Of a pair that two tokens joined nothing was closed, nor of one of a client and a server.
use Rattle.std.proofs.Common.{◌≡◌, sym, subst, ℕ, List, [], Some, None}
use Rattle.std.specs.declared.net.socket_addr.SocketAddr.{SocketAddr}
use Rattle.sctp_wire_types.specs.declared.chunk.ChunkInit.{ChunkInit}
use Rattle.sctp_wire_types.specs.declared.config.ServerConfig.{ServerConfig}
use Rattle.sctp_wire_types.specs.Config.{Settings}
use Rattle.sctp_assoc.specs.Created.{created, joined}
use Rattle.sctp_assoc.specs.Handshake.{sends_init}
use Rattle.sctp_assoc.specs.Shown.{Shown}
use Rattle.sctp_steps.specs.Ends.{Ends}
use Rattle.sctp_closed_between.specs.Between.{BeginsUnclosed, ClientsAndServersBeginUnclosed, JoinedPairsBeginUnclosed}

pub begins_unclosed : JoinedPairsBeginUnclosed → (config_a config_b : Settings) (size_a size_b : ℕ)
    (remote_a remote_b : SocketAddr) (token_a token_b : ChunkInit) {a b : Shown}
    → a ≡ joined config_a size_a remote_a None token_a token_b
    → b ≡ joined config_b size_b remote_b None token_b token_a → (p : Ends)
    → p ≡ record { a = a; b = b; packets_a = []; packets_b = [] } → BeginsUnclosed p
begins_unclosed begin config_a config_b size_a size_b remote_a remote_b token_a token_b {a} {b} is_a is_b p is =
    subst (λ (z : Ends). BeginsUnclosed z) (sym is)
    (subst (λ (x : Shown). BeginsUnclosed (record { a = x; b = b; packets_a = []; packets_b = [] })) (sym is_a)
    (subst
    (λ (y : Shown). BeginsUnclosed
    (record {
      a = joined config_a size_a remote_a None token_a token_b;
      b = y;
      packets_a = [];
      packets_b = [];
    }))
    (sym is_b)
    (begin config_a config_b size_a size_b remote_a remote_b None None token_a token_b)))

pub begins_unclosed_hello : ClientsAndServersBeginUnclosed → (of_server : ServerConfig) (config_a config_b : Settings)
    (size_a size_b tag_a tag_b tsn_a tsn_b : ℕ) (cookie_a cookie_b : List ℕ) (remote_a remote_b : SocketAddr) (now : ℕ)
    {a b : Shown} → a ≡ created None config_a size_a tag_a tsn_a cookie_a remote_a None now
    → b ≡ created (Some of_server) config_b size_b tag_b tsn_b cookie_b remote_b None now → (p : Ends)
    → p ≡ record { a = a; b = b; packets_a = []; packets_b = [] } → BeginsUnclosed p
unfolding sends_init
begins_unclosed_hello begin of_server config_a config_b size_a size_b tag_a tag_b tsn_a tsn_b cookie_a cookie_b remote_a
    remote_b now {a} {b} is_a is_b p is =
    subst (λ (z : Ends). BeginsUnclosed z) (sym is)
    (subst (λ (x : Shown). BeginsUnclosed (record { a = x; b = b; packets_a = []; packets_b = [] })) (sym is_a)
    (subst
    (λ (y : Shown). BeginsUnclosed
    (record {
      a = created None config_a size_a tag_a tsn_a cookie_a remote_a None now;
      b = y;
      packets_a = [];
      packets_b = [];
    }))
    (sym is_b)
    (begin of_server config_a config_b size_a size_b tag_a tag_b tsn_a tsn_b cookie_a cookie_b remote_a remote_b None
    None now)))
