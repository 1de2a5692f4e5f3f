-- An association begins on the history in which nothing happened.
use Rattle.std.proofs.Common.{◌≡◌, refl, sym, ap, subst, ◌∙◌, ℕ, ◌^◌, ◌<◌, List, [], Option, Some, None, arith}
use Rattle.std.specs.declared.net.ip_addr.IpAddr.{IpAddr}
use Rattle.std.specs.declared.net.socket_addr.SocketAddr.{SocketAddr}
use Rattle.sctp_wire_types.specs.Config.{Settings}
use Rattle.sctp_wire_types.specs.declared.config.ServerConfig.{ServerConfig}
use Rattle.sctp_assoc.specs.Leads.{Binds}
use Rattle.sctp_directions.specs.Acts.{begun}
use Rattle.sctp_assoc.specs.Created.{created, server, silent_client}
use Rattle.sctp_assoc.specs.Shown.{Shown}
use Rattle.sctp_inbound.specs.Receiver.{past_of}
use Rattle.sctp_fit.specs.HeldSet.{HoldsPast}
use Rattle.sctp_fit.proofs.HeldTsns.{nothing_is_held_at_first}
use Rattle.sctp_assoc.proofs.CallsLeadOn.{sends_init_leads}

fresh_binds : (a : Shown) (tsn : ℕ) → tsn < 2 ^ 32 → a.sender.queue.first_tsn ≡ tsn → past_of a.receiver ≡ (0, [])
    → a.sender.queue.in_flight ≡ []
    → Binds a (begun tsn 1)
fresh_binds a tsn small first peer_last_tsn none = record {
  first = first ∙ omega (arith, small);
  peer_last_tsn = ap (λ (z : ℕ × List ℕ). z.0) peer_last_tsn ∙ omega arith;
  held =
      subst (HoldsPast _) (sym (ap (λ (z : ℕ × List ℕ). z.1) peer_last_tsn)) (nothing_is_held_at_first _ refl);
  marked = rw none tt;
}

-- an association that a handshake is to establish
module _ (config : Settings) (size tag tsn : ℕ) (cookie : List ℕ) (remote : SocketAddr) (local : Option IpAddr)
    (now : ℕ) where
  pub created_binds : (of_server : Option ServerConfig) → tsn < 2 ^ 32
      → Binds (created of_server config size tag tsn cookie remote local now) (begun tsn 1)
  created_binds None small =
      let a : Shown = silent_client config size tag tsn cookie remote local in
      (sends_init_leads a now (begun tsn 1) (fresh_binds a tsn small refl refl refl)).binds
  created_binds (Some of_server) small =
      fresh_binds (server config size tag tsn cookie remote local) tsn small refl refl refl
