-- A pair of sides that two tokens joined, or a client and a server, stands between fresh courses.
use Rattle.std.proofs.Common.{◌≡◌, refl, sym, ◌∙◌, inl, inr, ℕ, ◌<◌, ◌^◌, List, [], Option, Some, None, true, false}
use Rattle.std.proofs.Common.{arith}
use Rattle.std.proofs.lemmas.Bool.{false≢true}
use Rattle.sctp_serial.specs.Serial.{tsn as tsn_at}
use Rattle.std.specs.declared.net.ip_addr.IpAddr.{IpAddr}
use Rattle.std.specs.declared.net.socket_addr.SocketAddr.{SocketAddr}
use Rattle.sctp_wire_types.specs.declared.chunk.ChunkInit.{ChunkInit}
use Rattle.sctp_wire_types.specs.declared.chunk.ChunkPayloadData.{ChunkPayloadData}
use Rattle.sctp_wire_types.specs.declared.config.ServerConfig.{ServerConfig}
use Rattle.sctp_wire_types.specs.declared.ids.Side.TheVariants as sides
use Rattle.sctp_wire_types.specs.Config.{Settings}
use Rattle.sctp_courses.specs.Course.{fresh_course}
use Rattle.sctp_fit.specs.Incoming.{tsn_before}
use Rattle.sctp_fit.proofs.HeldTsns.{nothing_is_held_at_first}
use Rattle.sctp_directions.specs.Acts.{begun}
use Rattle.sctp_assoc.specs.Created.{client, joined, server}
use Rattle.sctp_assoc.specs.Handshake.{sends_init}
use Rattle.sctp_assoc.specs.Leads.{Binds}
use Rattle.sctp_assoc.specs.Shown.{Shown}
use Rattle.sctp_sides.specs.Meeting.{stage_of}
use Rattle.sctp_sides.proofs.Proved.{created_sides_reset_nothing}
use Rattle.sctp_course_sides.specs.Meets.{IsAtStage, Meets}
use Rattle.sctp_course_sides.specs.Turns.{IsPresent}
use Rattle.sctp_course_sides.proofs.Beginning.{created_awaits, created_sends, fresh_kept, joined_answers}
use Rattle.sctp_course_sides.proofs.Beginning.{joined_follows}
use Rattle.sctp_course_sides.proofs.Beginning.{first_is, joined_sends}
use Rattle.sctp_course_sides.proofs.BesideInCalls.{joined_stays_beside}
use Rattle.sctp_boundaries.specs.Between.{IsGivenOut, StandsAt}
use Rattle.sctp_boundaries.specs.Laws.{ClientsAndServersBegin, JoinedPairsBegin}

-- Two tokens

joined_at : (config : Settings) (size : ℕ) (remote : SocketAddr) (local : Option IpAddr) (own peer : ChunkInit)
    → IsAtStage own.initial_tsn (stage_of (joined config size remote local own peer))
    (joined config size remote local own peer)
joined_at config size remote local own peer = record {
  stage = refl;
  come = inr (inr (inr record { state = refl; completed = refl; known = refl }));
  truthful = record {
    tsn = refl;
    says = tt;
    plain = tt;
    offers = λ o. absurd (false≢true o);
    echoes = λ x. absurd (false≢true x);
  };
}

-- one of the two sides
joined_stands : (P : ChunkPayloadData → Type 0) (id : ℕ) (config : Settings) (size : ℕ) (remote : SocketAddr)
    (local : Option IpAddr)
    (own peer : ChunkInit) → own.initial_tsn < 2 ^ 32 → peer.initial_tsn < 2 ^ 32
    → StandsAt P own.initial_tsn peer.initial_tsn id (stage_of (joined config size remote local own peer))
    (joined config size remote local own peer) fresh_course fresh_course
joined_stands P id config size remote local own peer own_small peer_small =
    let f = joined_follows P config size remote local own peer id own_small peer_small in
    record {
      at = joined_at config size remote local own peer;
      sent = begun own.initial_tsn peer.initial_tsn;
      sent_binds = f.binds;
      sends = joined_sends config size remote local own peer id own_small;
      came = begun own.initial_tsn peer.initial_tsn;
      follows = f;
      answers = joined_answers config size remote local own peer id peer.initial_tsn;
      beside = joined_stays_beside config size remote local own peer;
    }

pub joined_pairs_begin : JoinedPairsBegin
joined_pairs_begin config_a config_b size_a size_b address_a address_b ip_a ip_b token_a token_b small_a small_b id =
    record {
      kept_out = fresh_kept;
      kept_coming = fresh_kept;
      here_x = inl record { working = refl; not_lost = refl };
      here_y = inl record { working = refl; not_lost = refl };
      stage_x = stage_of (joined config_a size_a address_a ip_a token_a token_b);
      stage_y = stage_of (joined config_b size_b address_b ip_b token_b token_a);
      between = inr record {
        hears_x = inl refl;
        hears_y = inl refl;
        one_x = λ one other. refl;
        one_y = λ one other. refl;
        at_x =
            λ present. joined_stands (IsGivenOut []) id config_a size_a address_a ip_a token_a token_b small_a small_b;
        at_y =
            λ present. joined_stands (IsGivenOut []) id config_b size_b address_b ip_b token_b token_a small_b small_a;
        said_x = tt;
        said_y = tt;
      };
    }

-- A handshake

-- nothing came: the TSN before the first one is 0, whatever the peer's will be
none_came : 0 ≡ tsn_before (tsn_at 1 0)
none_came = omega arith

client_binds : (config : Settings) (size tag tsn : ℕ) (cookie : List ℕ) (remote : SocketAddr) (local : Option IpAddr)
    (now : ℕ) → tsn < 2 ^ 32 → Binds (client config size tag tsn cookie remote local now) (begun tsn 1)
unfolding sends_init
client_binds config size tag tsn cookie remote local now small = record {
  first = first_is tsn small;
  peer_last_tsn = none_came;
  held = nothing_is_held_at_first _ refl;
  marked = tt;
}

server_binds : (config : Settings) (size tag tsn : ℕ) (cookie : List ℕ) (remote : SocketAddr) (local : Option IpAddr)
    → tsn < 2 ^ 32 → Binds (server config size tag tsn cookie remote local) (begun tsn 1)
server_binds config size tag tsn cookie remote local small = record {
  first = first_is tsn small;
  peer_last_tsn = none_came;
  held = nothing_is_held_at_first _ refl;
  marked = tt;
}

client_at : (config : Settings) (size tag tsn : ℕ) (cookie : List ℕ) (remote : SocketAddr) (local : Option IpAddr)
    (now : ℕ)
    → IsAtStage tsn (record { side = sides.Client; knows = false; completed = false })
    (client config size tag tsn cookie remote local now)
unfolding sends_init
client_at config size tag tsn cookie remote local now = record {
  stage = refl;
  come = inl record { client = refl; state = refl; incomplete = refl; unissued = refl; unknown = refl };
  truthful = record {
    tsn = refl;
    says = ((refl, refl), tt);
    plain = (refl, tt);
    offers = λ o. refl;
    echoes = λ x. absurd (false≢true x);
  };
}

client_meets : (P : ChunkPayloadData → Type 0) (peer id : ℕ) (config : Settings) (size tag tsn : ℕ) (cookie : List ℕ)
    (remote : SocketAddr) (local : Option IpAddr) (now : ℕ) → tsn < 2 ^ 32 → peer < 2 ^ 32
    → Meets P tsn peer id (record { side = sides.Client; knows = false; completed = false })
    (client config size tag tsn cookie remote local now) fresh_course fresh_course
unfolding sends_init
client_meets P peer id config size tag tsn cookie remote local now small peer_small = record {
  at = client_at config size tag tsn cookie remote local now;
  small = peer_small;
  sent = begun tsn 1;
  sent_binds = client_binds config size tag tsn cookie remote local now small;
  sends = created_sends config size tag tsn cookie remote local now None 1 id small;
  receives = inr (refl, created_awaits P config size tag tsn cookie remote local now None peer id);
  no_reset = created_sides_reset_nothing None config size tag tsn cookie remote local now;
}

server_meets : (P : ChunkPayloadData → Type 0) (peer id : ℕ) (config : Settings) (size tag tsn : ℕ) (cookie : List ℕ)
    (remote : SocketAddr) (local : Option IpAddr) (of_server : ServerConfig) (now : ℕ) → tsn < 2 ^ 32 → peer < 2 ^ 32
    → Meets P tsn peer id (record { side = sides.Server; knows = false; completed = false })
    (server config size tag tsn cookie remote local) fresh_course fresh_course
server_meets P peer id config size tag tsn cookie remote local of_server now small peer_small = record {
  at = record {
    stage = refl;
    come = inr (inr (inl record {
      server = refl;
      state = refl;
      incomplete = refl;
      issued = λ i. absurd (false≢true i);
    }));
    truthful = record {
      tsn = refl;
      says = tt;
      plain = tt;
      offers = λ o. absurd (false≢true o);
      echoes = λ x. absurd (false≢true x);
    };
  };
  small = peer_small;
  sent = begun tsn 1;
  sent_binds = server_binds config size tag tsn cookie remote local small;
  sends = created_sends config size tag tsn cookie remote local now (Some of_server) 1 id small;
  receives = inr (refl, created_awaits P config size tag tsn cookie remote local now (Some of_server) peer id);
  no_reset = created_sides_reset_nothing (Some of_server) config size tag tsn cookie remote local now;
}

not_both : sides.Server ≡ sides.Client → ⊥
not_both e = cc

pub clients_and_servers_begin : ClientsAndServersBegin
unfolding sends_init
clients_and_servers_begin of_server config_a config_b size_a size_b tag_a tag_b tsn_a tsn_b cookie_a cookie_b address_a
    address_b ip_a ip_b now small_a small_b id =
    record {
      kept_out = fresh_kept;
      kept_coming = fresh_kept;
      here_x = inl record { working = refl; not_lost = refl };
      here_y = inl record { working = refl; not_lost = refl };
      stage_x = record { side = sides.Client; knows = false; completed = false };
      stage_y = record { side = sides.Server; knows = false; completed = false };
      between = inl record {
        never_x = refl;
        never_y = refl;
        no_clients = λ one other. not_both other;
        unsent_out = (refl, refl);
        unsent_coming = (refl, refl);
        at_x = λ present.
            client_meets (IsGivenOut []) tsn_b id config_a size_a tag_a tsn_a cookie_a address_a ip_a now small_a
            small_b;
        at_y = λ present.
            server_meets (IsGivenOut []) tsn_a id config_b size_b tag_b tsn_b cookie_b address_b ip_b of_server now
            small_b small_a;
        greets_x = tt;
        greets_y = tt;
      };
    }
