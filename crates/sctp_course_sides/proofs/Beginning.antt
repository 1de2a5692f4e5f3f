-- A side as a constructor leaves it, and the course in which nothing happened: it follows the course of each stream, or
-- awaits its peer, leads each course of its own on, and has answered nothing.
use Rattle.std.proofs.Common.{◌≡◌, refl, ap, ℕ, ◌<◌, ◌+◌, ◌-◌, ◌%◌, ◌^◌, arith, List, Option, Some, None}
use Rattle.std.proofs.lemmas.Bool.{false≢true}
use Rattle.std.specs.declared.net.ip_addr.IpAddr.{IpAddr}
use Rattle.std.specs.declared.net.socket_addr.SocketAddr.{SocketAddr}
use Rattle.sctp_serial.specs.Serial.{tsn}
use Rattle.sctp_wire_types.specs.declared.chunk.ChunkPayloadData.{ChunkPayloadData}
use Rattle.sctp_wire_types.specs.declared.chunk.ChunkInit.{ChunkInit}
use Rattle.sctp_wire_types.specs.declared.config.ServerConfig.{ServerConfig}
use Rattle.sctp_wire_types.specs.Config.{Settings}
use Rattle.sctp_reset_requests.specs.Peer.{number_before}
use Rattle.sctp_courses.specs.Course.{fresh_course}
use Rattle.sctp_courses.specs.Invariants.{Invariant}
use Rattle.sctp_fit.specs.Incoming.{tsn_before}
use Rattle.sctp_fit.proofs.HeldTsns.{nothing_is_held_at_first}
use Rattle.sctp_reset_fit.specs.Keeping.{StandsBeside}
use Rattle.sctp_reset_fit.specs.Stands.{IsReadOn}
use Rattle.sctp_reset_fit.proofs.Proved.{nothing_stands_for_the_start}
use Rattle.sctp_directions.specs.Acts.{begun}
use Rattle.sctp_assoc.specs.Created.{created, joined}
use Rattle.sctp_assoc.specs.Handshake.{sends_init}
use Rattle.sctp_assoc.specs.Leads.{Binds}
use Rattle.sctp_sides.proofs.SentCounts.{nothing_there}
use Rattle.sctp_course_sides.specs.Answers.{AnswersTruly}
use Rattle.sctp_course_sides.specs.Follows.{AwaitsIts, Follows, HasReached, IsUntouched}
use Rattle.sctp_course_sides.specs.Sends.{Sends}

-- The course

pub fresh_kept : Invariant fresh_course
fresh_kept = record {
  asks = record {
    ascend = λ j k le l. absurd (omega arith);
    below = λ k l. absurd (omega arith);
    known = omega arith;
    quiet = λ k from l n. absurd (omega arith);
    assigned_below = tt;
  };
  counts = record { are_mine = tt; once = λ o. omega arith };
  steps = record {
    waits_for = λ e. absurd (false≢true e);
    some = λ e. absurd (false≢true e);
    first = λ e. absurd (false≢true e);
  };
  marks = record { reached = λ k l. absurd (omega arith); ascend = tt; each = tt };
  apart = record {
    held = λ e. tt;
    comes = tt;
    later = tt;
    unmarked = λ e. tt;
    retiring = λ e. absurd (false≢true e);
  };
  places = λ k l n. absurd (omega arith);
  past_is = λ k from e. absurd (cc);
  live_is = λ l e. absurd (cc);
  told_is = tt;
}

pub fresh_read_on : IsReadOn fresh_course
fresh_read_on some = absurd (some refl)

pub fresh_untouched : IsUntouched fresh_course
fresh_untouched = record { asked = refl; assigned = refl; performed = refl; point = refl; taken = refl }

-- nothing came, as in the course
pub begun_reached : (own peer : ℕ) → HasReached peer (begun own peer) fresh_course
begun_reached own peer = record {
  peer = refl;
  point = refl;
  taken = λ o m. absurd (false≢true m);
  assigned = λ o m. absurd (false≢true m);
  passed = omega arith;
}

-- the first TSN stands on the first offset
pub first_is : (initial : ℕ) → initial < 2 ^ 32 → initial ≡ tsn initial 0
first_is initial small = omega (arith, small)

-- the last TSN before anything came is the one before the first
last_before : (t : ℕ) → (t + 2 ^ 32 - 1) % 2 ^ 32 ≡ tsn_before (tsn t 0)
last_before t = omega arith

-- Two tokens

module _ (config : Settings) (size : ℕ) (remote_addr : SocketAddr) (local_ip : Option IpAddr) (own peer : ChunkInit)
    (id : ℕ) where
  -- it stands on the history in which nothing happened, and beside the course in which nothing did
  joined_binds : own.initial_tsn < 2 ^ 32
      → Binds (joined config size remote_addr local_ip own peer) (begun own.initial_tsn peer.initial_tsn)
  joined_binds small = record {
    first = first_is own.initial_tsn small;
    peer_last_tsn = last_before peer.initial_tsn;
    held = nothing_is_held_at_first _ refl;
    marked = tt;
  }

  -- it leads the course of each stream of its own on
  pub joined_sends : own.initial_tsn < 2 ^ 32
      → Sends own.initial_tsn id (joined config size remote_addr local_ip own peer)
      (begun own.initial_tsn peer.initial_tsn) fresh_course
  joined_sends small = record {
    small = small;
    own = refl;
    assigned = refl;
    mine = λ index x e same. absurd (nothing_there x e);
    numbers = first_is own.initial_tsn small;
    in_order = tt;
    active = λ s e. absurd (nothing_there s e);
    by_ids = tt;
    peer_by_ids = tt;
    waiting = tt;
    held_back = λ e. absurd (false≢true e);
  }

  -- and it has answered nothing
  pub joined_answers : (initial : ℕ)
      → AnswersTruly initial (joined config size remote_addr local_ip own peer) fresh_course
  joined_answers initial = record { own = tt; control = tt }

module _ (P : ChunkPayloadData → Type 0) (config : Settings) (size : ℕ) (remote_addr : SocketAddr)
    (local_ip : Option IpAddr) (own peer : ChunkInit) (id : ℕ) where
  joined_stands : peer.initial_tsn < 2 ^ 32
      → StandsBeside P peer.initial_tsn id (joined config size remote_addr local_ip own peer).resets
      (joined config size remote_addr local_ip own peer).streams fresh_course
  joined_stands small = record {
    kept = fresh_kept;
    stands = nothing_stands_for_the_start P peer.initial_tsn id;
    read_on = fresh_read_on;
    numbered = record {
      last = ap (λ (n : ℕ). Some (number_before n)) (first_is peer.initial_tsn small);
      current = tt;
    };
  }

  -- a side that two tokens made follows the course of each stream of its peer
  pub joined_follows : own.initial_tsn < 2 ^ 32 → peer.initial_tsn < 2 ^ 32
      → Follows P peer.initial_tsn id (joined config size remote_addr local_ip own peer)
      (begun own.initial_tsn peer.initial_tsn) fresh_course
  joined_follows own_small peer_small = record {
    small = peer_small;
    few = omega arith;
    binds = joined_binds config size remote_addr local_ip own peer id own_small;
    stands = joined_stands peer_small;
    reached = begun_reached own.initial_tsn peer.initial_tsn;
  }

-- A handshake

module _ (P : ChunkPayloadData → Type 0) (config : Settings) (size tag initial_tsn : ℕ) (cookie : List ℕ)
    (remote_addr : SocketAddr) (local_ip : Option IpAddr) (now : ℕ) where
  -- a side before its handshake awaits its peer, whatever the initial TSN of that will be
  pub created_awaits : (of_server : Option ServerConfig) (initial id : ℕ)
      → AwaitsIts P initial id (created of_server config size tag initial_tsn cookie remote_addr local_ip now)
      fresh_course
  unfolding sends_init
  created_awaits None initial id = record {
    kept = fresh_kept;
    stands = nothing_stands_for_the_start P initial id;
    read_on = fresh_read_on;
    unknown = refl;
    untouched = fresh_untouched;
  }
  created_awaits (Some of_server) initial id = record {
    kept = fresh_kept;
    stands = nothing_stands_for_the_start P initial id;
    read_on = fresh_read_on;
    unknown = refl;
    untouched = fresh_untouched;
  }

module _ (config : Settings) (size tag initial_tsn : ℕ) (cookie : List ℕ) (remote_addr : SocketAddr)
    (local_ip : Option IpAddr) (now : ℕ) where
  -- it leads the course of each stream of its own on
  pub created_sends : (of_server : Option ServerConfig) (peer id : ℕ) → initial_tsn < 2 ^ 32
      → Sends initial_tsn id (created of_server config size tag initial_tsn cookie remote_addr local_ip now)
      (begun initial_tsn peer) fresh_course
  unfolding sends_init
  created_sends None peer id small = record {
    small = small;
    own = refl;
    assigned = refl;
    mine = λ index x e same. absurd (nothing_there x e);
    numbers = first_is initial_tsn small;
    in_order = tt;
    active = λ s e. absurd (nothing_there s e);
    by_ids = tt;
    peer_by_ids = tt;
    waiting = tt;
    held_back = λ e. absurd (false≢true e);
  }
  created_sends (Some of_server) peer id small = record {
    small = small;
    own = refl;
    assigned = refl;
    mine = λ index x e same. absurd (nothing_there x e);
    numbers = first_is initial_tsn small;
    in_order = tt;
    active = λ s e. absurd (nothing_there s e);
    by_ids = tt;
    peer_by_ids = tt;
    waiting = tt;
    held_back = λ e. absurd (false≢true e);
  }

  -- and it has answered nothing
  pub created_answers : (of_server : Option ServerConfig) (initial : ℕ)
      → AnswersTruly initial (created of_server config size tag initial_tsn cookie remote_addr local_ip now)
      fresh_course
  unfolding sends_init
  created_answers None initial = record { own = tt; control = (tt, tt) }
  created_answers (Some of_server) initial = record { own = tt; control = tt }
