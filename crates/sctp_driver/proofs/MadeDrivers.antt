-- A client and a server keep the address that they were given.
use Rattle.std.proofs.Common.{◌≡◌, refl, ◌∙◌, ap, sym, ℕ, List, Option, Some, None}
use Rattle.std.specs.declared.net.socket_addr.SocketAddr.{SocketAddr}
use Rattle.sctp_wire_types.specs.declared.config.ServerConfig.{ServerConfig}
use Rattle.sctp_wire_types.specs.Config.{Settings}
use Rattle.sctp_assoc.specs.Created.{created}
use Rattle.sctp_assoc.specs.Handshake.{sends_init}
use Rattle.sctp_assoc.specs.Shown.{Shown}
use Rattle.sctp_driver.specs.Driving.{Driving, begun_with}

addressed : (of_server : Option ServerConfig) (config : Settings) (size tag initial_tsn : ℕ) (cookie : List ℕ)
    (remote_addr : SocketAddr) (now : ℕ)
    → (created of_server config size tag initial_tsn cookie remote_addr None now).remote_addr ≡ remote_addr
unfolding sends_init
addressed None config size tag initial_tsn cookie remote_addr now = refl
addressed (Some of_server) config size tag initial_tsn cookie remote_addr now = refl

-- what a side is made of, but for the peer's address and the moment
pub record Making : Type 0 where
  pub of_server : Option ServerConfig
  pub config : Settings
  pub size : ℕ
  pub tag : ℕ
  pub initial_tsn : ℕ
  pub cookie : List ℕ

-- the side that is made of it
abbrev made : Making → SocketAddr → ℕ → Shown
made of remote_addr now =
    created of.of_server of.config of.size of.tag of.initial_tsn of.cookie remote_addr None now

-- a is what was made at the moment m, and d what a driver is then
module _ (of : Making) (remote_addr : SocketAddr) {a : Shown} {m now : ℕ} (is_made : a ≡ made of remote_addr m)
    (moment : m ≡ now)
  where
    pub made_driver : {d : Driving} → d ≡ begun_with a of.tag of.config.max_init_retransmits
        → d ≡ begun_with (made of d.association.remote_addr now) of.tag of.config.max_init_retransmits
    made_driver {d} is =
        let same : a ≡ made of remote_addr now = is_made ∙ ap (made of remote_addr) moment in
        let there : d.association.remote_addr ≡ remote_addr =
        ap (λ (x : Driving). x.association.remote_addr) is ∙ ap (λ (x : Shown). x.remote_addr) same
        ∙ addressed of.of_server of.config of.size of.tag of.initial_tsn of.cookie remote_addr now in
        is ∙ ap (λ x. begun_with x of.tag of.config.max_init_retransmits) same
        ∙ ap (λ x. begun_with (made of x now) of.tag of.config.max_init_retransmits) (sym there)
