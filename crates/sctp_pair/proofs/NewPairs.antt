-- A pair that two tokens joined, and a client and a server before any packet, stand in the world in which nothing
-- happened.
use Rattle.std.proofs.Common.{◌≡◌, refl, sym, ap, ◌∙◌, subst, ⊎_elim, inl, inr, ℕ, ◌<◌, arith, Bool, true, false, eqb}
use Rattle.std.proofs.Common.{◌||◌, if◌then◌else◌, List, [], Option, Some, None}
use Rattle.std.specs.Prelude.{is_some}
use Rattle.std.specs.declared.net.socket_addr.SocketAddr.{SocketAddr}
use Rattle.std.proofs.lemmas.Bool.{cases_Bool, eqb-false, false≢true, true≢false}
use Rattle.sctp_wire_types.specs.declared.chunk.ChunkInit.{ChunkInit}
use Rattle.sctp_wire_types.specs.declared.error.Error.{Error}
use Rattle.sctp_wire_types.specs.declared.ids.Side.TheVariants as sides
use Rattle.sctp_wire_types.specs.Config.{Settings}
use Rattle.sctp_streams.specs.Streams.{no_stream}
use Rattle.sctp_model.specs.Machine.{fresh}
use Rattle.sctp_model.proofs.Proved.{fresh_holds}
use Rattle.sctp_fit.proofs.NothingToSend.{fresh_ones_fit}
use Rattle.sctp_fit.proofs.OtherEnd.{fresh_ones_receive_nothing}
use Rattle.sctp_directions.specs.Acts.{HasReadOpen, IsKeptInOrder, begun}
use Rattle.sctp_directions.specs.Between.{FitsBetween, IsSound}
use Rattle.sctp_directions.proofs.Proved.{fresh_directions_are_within}
use Rattle.sctp_assoc.specs.Leads.{Binds, parts}
use Rattle.sctp_assoc.specs.Created.{client, create_refusal, join_refusal, joined, server}
use Rattle.sctp_assoc.specs.Handshake.{sends_init}
use Rattle.sctp_assoc.specs.Shown.{Shown}
use Rattle.sctp_sides.specs.Ending.{IsInOrder}
use Rattle.sctp_sides.specs.Meeting.{stage_of}
use Rattle.sctp_sides.specs.Restarts.{ActiveIsQuiet}
use Rattle.sctp_steps.specs.Ends.{Ends}
use Rattle.sctp_pair.specs.World.{empty_world, none_loose}
use Rattle.sctp_pair.specs.Fits.{Fits, StagesAgree, StandsOpen}

-- where nothing was sent and nothing came, as at a server that listens, an association is between directions in which
-- nothing happened
nothing_between : (config : Settings) (remote : SocketAddr) (own peer size other : ℕ)
    → FitsBetween (parts (server config size 0 own [] remote None) (begun own peer)) (fresh size) (fresh other)
nothing_between config remote own peer size other = record {
  outgoing = (fresh_ones_fit size own).0;
  incoming = fresh_ones_receive_nothing peer other no_stream refl;
}

-- no stream is live yet
no_stream_yet : (s : ℕ) → IsKeptInOrder no_stream s
no_stream_yet s t there = absurd (true≢false (sym (ap is_some there)))

none_to_read_yet : (s : ℕ) → HasReadOpen no_stream s
none_to_read_yet s t there = absurd (true≢false (sym (ap is_some there)))

-- a direction in which nothing happened is sound
fresh_is_sound : (size : ℕ) → 0 < size → IsSound (fresh size)
fresh_is_sound size some = record {
  invariant = fresh_holds size some;
  counts = (fresh_ones_fit size 0).1;
}

-- An association with this payload size begins: it stands open between directions in which nothing happened.
record Begins (own peer size other : ℕ) (a : Shown) : Type 0 where
  some : 0 < size
  stands : StandsOpen none_loose own peer a (fresh size) (fresh other)
  ends : IsInOrder a
  quiet : ActiveIsQuiet a

-- Two associations that begin, and whose stages fit, fit the empty world.
fits_begin : {own_a own_b size_a size_b : ℕ} {a b : Shown} → Begins own_a own_b size_a size_b a
    → Begins own_b own_a size_b size_a b → StagesAgree (stage_of a) (stage_of b) → (p : Ends)
    → p ≡ record { a = a; b = b; packets_a = []; packets_b = [] }
    → Fits p (empty_world p own_a own_b size_a size_b)
fits_begin {own_a} {own_b} {size_a} {size_b} {a} {b} of_a of_b meets p is =
    subst (λ (z : Ends). Fits z (empty_world z own_a own_b size_a size_b)) (sym is) record {
      within = (fresh_directions_are_within size_a, fresh_directions_are_within size_b);
      stand = record {
        is = refl;
        sound_ab = fresh_is_sound size_a of_a.some;
        sound_ba = fresh_is_sound size_b of_b.some;
        spans = λ s. refl;
        side_a = inl of_a.stands;
        side_b = inl of_b.stands;
        stage_a = stage_of a;
        stage_b = stage_of b;
        at_a = λ working. refl;
        at_b = λ working. refl;
        meets = meets;
        silent_a = λ never. refl;
        silent_b = λ never. refl;
        said_a = tt;
        said_b = tt;
        ends_a = λ working. inl of_a.ends;
        ends_b = λ working. inl of_b.ends;
        quiet_a = λ working. of_a.quiet;
        quiet_b = λ working. of_b.quiet;
      };
    }

-- a payload size that is not refused has a byte at least
some_size : (size : ℕ) (more : Bool) (fault : Error) (rest : Option Error)
    → (if eqb size 0 || more then Some fault else rest) ≡ None → 0 < size
some_size size more fault rest e =
    ⊎_elim
    (λ (b : eqb size 0 ≡ true). absurd (false≢true (sym (ap is_some e) ∙ rw b refl)))
    (λ (b : eqb size 0 ≡ false). let n = eqb-false size 0 b in omega (arith, n))
    (cases_Bool (eqb size 0))

-- Two tokens

-- The association is one that two tokens joined, its own and its peer's, with this payload size.
pub record IsJoined (size : ℕ) (own peer : ChunkInit) (a : Shown) : Type 0 where
  pub config : Settings
  pub remote : SocketAddr
  pub unrefused : join_refusal size own peer ≡ None
  pub is : a ≡ joined config size remote None own peer
  pub binds : Binds a (begun own.initial_tsn peer.initial_tsn)

joined_begins : {size : ℕ} {own peer : ChunkInit} {a : Shown} (other : ℕ) → IsJoined size own peer a
    → Begins own.initial_tsn peer.initial_tsn size other a
joined_begins {size} {own} {peer} other j = record {
  some = some_size size _ _ _ j.unrefused;
  stands =
      subst (λ (z : Shown). StandsOpen none_loose own.initial_tsn peer.initial_tsn z (fresh size) (fresh other))
      (sym j.is) stands;
  ends = subst IsInOrder (sym j.is) ends;
  quiet = subst ActiveIsQuiet (sym j.is) (λ id is. absurd (false≢true is));
}
  where
    ends : IsInOrder (joined j.config size j.remote None own peer)
    ends = record {
      order = record {
        behind_data = λ e. absurd (false≢true e);
        before_data = λ e. absurd (false≢true e);
        asked = λ e. absurd (false≢true e);
        agreed = λ e. absurd (false≢true e);
        answered = λ e. absurd (false≢true e);
        lives = λ e. absurd (false≢true e);
      };
    }

    stands : StandsOpen none_loose own.initial_tsn peer.initial_tsn (joined j.config size j.remote None own peer)
        (fresh size) (fresh other)
    stands = record {
      past = begun own.initial_tsn peer.initial_tsn;
      own_is = refl;
      peer_is = λ known. refl;
      binds = subst (λ (z : Shown). Binds z (begun own.initial_tsn peer.initial_tsn)) j.is j.binds;
      working = refl;
      come = inr (inr (inr record { state = refl; completed = refl; known = refl }));
      present = refl;
      truthful = record {
        tsn = refl;
        says = tt;
        plain = tt;
        offers = λ o. absurd (false≢true o);
        echoes = λ x. absurd (false≢true x);
      };
      size = refl;
      between = nothing_between j.config j.remote own.initial_tsn peer.initial_tsn size other;
      in_order = λ s within tight. no_stream_yet s;
      reads_open = λ s within. none_to_read_yet s;
      resets = record {
        resets = record {
          own = record { waiting = tt; queued = tt; active = tt };
          in_progress = tt;
          kept = record { retiring = tt; deferred = tt; skipped = tt };
        };
        control = tt;
      };
    }

-- A pair that two tokens joined stands in the empty world.
pub fits_start : {a b : Shown} {size_a size_b : ℕ} {token_a token_b : ChunkInit} → IsJoined size_a token_a token_b a
    → IsJoined size_b token_b token_a b → (p : Ends)
    → p ≡ record { a = a; b = b; packets_a = []; packets_b = [] }
    → Fits p (empty_world p token_a.initial_tsn token_b.initial_tsn size_a size_b)
fits_start {a} {b} {size_a} {size_b} of_a of_b p is =
    fits_begin (joined_begins size_b of_a) (joined_begins size_a of_b)
    record { one = λ x y. done_a; other = λ x y. done_b; hears = λ d. inl done_a; heard = λ d. inl done_b } p is
  where
    done_a : a.handshake.completed ≡ true
    done_a = ap (λ (z : Shown). z.handshake.completed) of_a.is

    done_b : b.handshake.completed ≡ true
    done_b = ap (λ (z : Shown). z.handshake.completed) of_b.is

-- A client and a server

-- The association is a client whose INIT waits to go out, with this payload size and this initial TSN.
pub record IsClient (size tsn : ℕ) (a : Shown) : Type 0 where
  pub config : Settings
  pub tag : ℕ
  pub cookie : List ℕ
  pub remote : SocketAddr
  pub now : ℕ
  pub unrefused : create_refusal size tsn ≡ None
  pub is : a ≡ client config size tag tsn cookie remote None now
  pub binds : Binds a (begun tsn 1)

client_begins : {size own : ℕ} {a : Shown} (other peer : ℕ) → IsClient size own a → Begins own peer size other a
unfolding sends_init
client_begins {size} {own} other peer c = record {
  some = some_size size _ _ _ c.unrefused;
  stands = subst (λ (z : Shown). StandsOpen none_loose own peer z (fresh size) (fresh other)) (sym c.is) stands;
  ends = subst IsInOrder (sym c.is) ends;
  quiet = subst ActiveIsQuiet (sym c.is) (λ id is. absurd (false≢true is));
}
  where
    ends : IsInOrder (client c.config size c.tag own c.cookie c.remote None c.now)
    ends = record {
      order = record {
        behind_data = λ e. absurd (false≢true e);
        before_data = λ e. absurd (false≢true e);
        asked = λ e. absurd (false≢true e);
        agreed = λ e. absurd (false≢true e);
        answered = λ e. absurd (false≢true e);
        lives = λ e. absurd (false≢true e);
      };
    }

    stands : StandsOpen none_loose own peer (client c.config size c.tag own c.cookie c.remote None c.now) (fresh size)
        (fresh other)
    stands = record {
      past = begun own 1;
      own_is = refl;
      peer_is = λ known. absurd (false≢true known);
      binds = subst (λ (z : Shown). Binds z (begun own 1)) c.is c.binds;
      working = refl;
      come = inl record { client = refl; state = refl; incomplete = refl; unissued = refl; unknown = refl };
      present = refl;
      truthful = record {
        tsn = refl;
        says = ((refl, refl), tt);
        plain = (refl, tt);
        offers = λ o. refl;
        echoes = λ x. absurd (false≢true x);
      };
      size = refl;
      between = nothing_between c.config c.remote own 1 size other;
      in_order = λ s within tight. no_stream_yet s;
      reads_open = λ s within. none_to_read_yet s;
      resets = record {
        resets = record {
          own = record { waiting = tt; queued = tt; active = tt };
          in_progress = tt;
          kept = record { retiring = tt; deferred = tt; skipped = tt };
        };
        control = (tt, tt);
      };
    }

-- The association is a server that listens, with this payload size and this initial TSN.
pub record IsServer (size tsn : ℕ) (a : Shown) : Type 0 where
  pub config : Settings
  pub tag : ℕ
  pub cookie : List ℕ
  pub remote : SocketAddr
  pub unrefused : create_refusal size tsn ≡ None
  pub is : a ≡ server config size tag tsn cookie remote None
  pub binds : Binds a (begun tsn 1)

server_begins : {size own : ℕ} {a : Shown} (other peer : ℕ) → IsServer size own a → Begins own peer size other a
server_begins {size} {own} other peer c = record {
  some = some_size size _ _ _ c.unrefused;
  stands = subst (λ (z : Shown). StandsOpen none_loose own peer z (fresh size) (fresh other)) (sym c.is) stands;
  ends = subst IsInOrder (sym c.is) ends;
  quiet = subst ActiveIsQuiet (sym c.is) (λ id is. absurd (false≢true is));
}
  where
    ends : IsInOrder (server c.config size c.tag own c.cookie c.remote None)
    ends = record {
      order = record {
        behind_data = λ e. absurd (false≢true e);
        before_data = λ e. absurd (false≢true e);
        asked = λ e. absurd (false≢true e);
        agreed = λ e. absurd (false≢true e);
        answered = λ e. absurd (false≢true e);
        lives = λ e. absurd (false≢true e);
      };
    }

    stands : StandsOpen none_loose own peer (server c.config size c.tag own c.cookie c.remote None) (fresh size)
        (fresh other)
    stands = record {
      past = begun own 1;
      own_is = refl;
      peer_is = λ known. absurd (false≢true known);
      binds = subst (λ (z : Shown). Binds z (begun own 1)) c.is c.binds;
      working = refl;
      come = inr (inr (inl record {
        server = refl;
        state = refl;
        incomplete = refl;
        issued = λ i. absurd (false≢true i);
      }));
      present = refl;
      truthful = record {
        tsn = refl;
        says = tt;
        plain = tt;
        offers = λ o. absurd (false≢true o);
        echoes = λ x. absurd (false≢true x);
      };
      size = refl;
      between = nothing_between c.config c.remote own 1 size other;
      in_order = λ s within tight. no_stream_yet s;
      reads_open = λ s within. none_to_read_yet s;
      resets = record {
        resets = record {
          own = record { waiting = tt; queued = tt; active = tt };
          in_progress = tt;
          kept = record { retiring = tt; deferred = tt; skipped = tt };
        };
        control = tt;
      };
    }

not_both : sides.Server ≡ sides.Client → ⊥
not_both e = cc

-- A client and a server before any packet stand in the empty world.
pub fits_hello : {a b : Shown} {size_a size_b tsn_a tsn_b : ℕ} → IsClient size_a tsn_a a → IsServer size_b tsn_b b
    → (p : Ends) → p ≡ record { a = a; b = b; packets_a = []; packets_b = [] }
    → Fits p (empty_world p tsn_a tsn_b size_a size_b)
unfolding sends_init
fits_hello {a} {b} {size_a} {size_b} {tsn_a} {tsn_b} of_a of_b p is =
    fits_begin (client_begins size_b tsn_b of_a) (server_begins size_a tsn_a of_b)
    record {
      one = λ x y. absurd (not_both (sym server_b ∙ y));
      other = λ x y. absurd (not_both (sym server_b ∙ x));
      hears = λ d. absurd (false≢true (sym begun_b ∙ d));
      heard = λ d. absurd (false≢true (sym begun_a ∙ d));
    } p is
  where
    server_b : b.side ≡ sides.Server
    server_b = ap (λ (z : Shown). z.side) of_b.is

    begun_a : a.handshake.completed ≡ false
    begun_a = ap (λ (z : Shown). z.handshake.completed) of_a.is

    begun_b : b.handshake.completed ≡ false
    begun_b = ap (λ (z : Shown). z.handshake.completed) of_b.is
