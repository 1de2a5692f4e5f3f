-- The chunks of a handshake lead it on as it is to go, and what waits to go out stays truthful.
use Rattle.std.proofs.Common.{◌≡◌, refl, sym, ap, ◌∙◌, inl, inr, ℕ, Bool, true, false, if◌then◌else◌, ◌&&◌, List, []}
use Rattle.std.proofs.Common.{◌∷◌, ◌++◌, Option, Some, None, is_some, Result, Ok, Err}
use Rattle.std.specs.Str.{bytes_eq}
use Rattle.std.proofs.lemmas.Bool.{false≢true, true≢false}
use Rattle.sctp_wire_types.specs.declared.chunk.Chunk.{Chunk}
use Rattle.sctp_wire_types.specs.declared.chunk.Chunk.TheVariants as chunks
use Rattle.sctp_wire_types.specs.declared.chunk.ChunkInit.{ChunkInit}
use Rattle.sctp_wire_types.specs.declared.error.Error.{Error}
use Rattle.sctp_wire_types.specs.declared.ids.Side.{Side}
use Rattle.sctp_wire_types.specs.declared.ids.Side.TheVariants as sides
use Rattle.sctp_wire_types.specs.declared.packet.CommonHeader.{CommonHeader}
use Rattle.sctp_wire_types.specs.Checks.{checked_chunk}
use Rattle.sctp_parts.specs.declared.state.AssociationState.{AssociationState}
use Rattle.sctp_parts.specs.declared.state.AssociationState.TheVariants as states
use Rattle.sctp_inbound.specs.declared.handshake.Handshake.{Handshake}
use Rattle.sctp_inbound.specs.declared.handshake.Offer.{Offer}
use Rattle.sctp_inbound.specs.declared.receiver.AckTrigger.{AckTrigger}
use Rattle.sctp_inbound.specs.Greeting.{first_cookie}
use Rattle.sctp_inbound.specs.Handshake.{comes_back, has_issued, header_of, learned_by_init}
use Rattle.sctp_assoc.specs.declared.control.Control.{Control}
use Rattle.sctp_assoc.specs.declared.control.Control.TheVariants as controls
use Rattle.sctp_directions.specs.Acts.{Act}
use Rattle.sctp_assoc.specs.Calls.{is_beginning, is_cookie_echoed, is_cookie_wait}
use Rattle.sctp_assoc.specs.Chunks.{checked_first, on_chunk}
use Rattle.sctp_assoc.specs.Handshake.{acknowledged_cookie, acknowledges_again, answered, connected, echoed}
use Rattle.sctp_assoc.specs.Handshake.{keeps_peer, learned_unless, on_cookie_ack, on_cookie_echo, on_init}
use Rattle.sctp_assoc.specs.Handshake.{on_init_ack, sends_cookie, with_echo}
use Rattle.sctp_assoc.specs.Happened.{acts_of_checked, known_unless}
use Rattle.sctp_assoc.specs.Shutdown.{all_acknowledged, shutdown_again, shutdown_answered, shutdown_taken}
use Rattle.sctp_assoc.specs.Shutdown.{state_at_shutdown}
use Rattle.sctp_assoc.proofs.HandshakeFacts.{kept_is_known}
use Rattle.sctp_sides.specs.Meeting.{AwaitsInitAck, Greets, GreetsOn, HasCome, IsAsFarOn, IsDoneAmongClients, IsGreeted}
use Rattle.sctp_sides.specs.Meeting.{IsNoEarlier, IsTruthful, Listens, MayHear, Stage, stage_of}
use Rattle.sctp_sides.specs.SideLaws.{EstablishedSidesTalk, TheSameHandshakeIsTheSameStage}
use Rattle.sctp_assoc.specs.Shown.{Shown}
use Rattle.sctp_sides.proofs.HandshakeTruth.{KeepsSaying, keeps_saying, truthful_still, truthful_with}

not_both : sides.Client ≡ sides.Server → ⊥
not_both e = cc

-- INIT

-- who takes an INIT listens: of two clients neither waits
listens : (a : Shown) (t : Stage) → is_beginning a.state ≡ true → t.side ≡ sides.Client
    → IsDoneAmongClients (stage_of a) t → HasCome a → Listens a
listens a t e client one (inl w) = absurd (true≢false (sym (one w.client client) ∙ w.incomplete))
listens a t e client one (inr (inl w)) = absurd (true≢false (sym (one w.client client) ∙ w.incomplete))
listens a t e client one (inr (inr (inl l))) = l
listens a t e client one (inr (inr (inr s))) = absurd (true≢false (sym e ∙ s.state))

listener_is_deaf : (a : Shown) → Listens a → MayHear (stage_of a) → ⊥
listener_is_deaf a l (inl completed) = true≢false (sym completed ∙ l.incomplete)
listener_is_deaf a l (inr (client, known)) = not_both (sym client ∙ l.server)

-- COOKIE ACK

connected_keeps : (a : Shown) → KeepsSaying a (connected a)
connected_keeps a = record {
  tsn = refl;
  goes = record { side = refl; knows = λ k. k; completed = λ d. refl };
  offers = λ o. absurd (false≢true o);
  echoes = λ x. absurd (false≢true x);
}

-- a state in which a COOKIE ECHO waits for its answer is one of the handshake's
echoed_begins : (s : AssociationState) → is_cookie_echoed s ≡ true → is_beginning s ≡ true
echoed_begins states.Closed e = absurd (false≢true e)
echoed_begins states.CookieWait e = absurd (false≢true e)
echoed_begins states.CookieEchoed e = refl
echoed_begins states.Established e = absurd (false≢true e)
echoed_begins states.ShutdownAckSent e = absurd (false≢true e)
echoed_begins states.ShutdownPending e = absurd (false≢true e)
echoed_begins states.ShutdownReceived e = absurd (false≢true e)
echoed_begins states.ShutdownSent e = absurd (false≢true e)

-- and so is one in which an INIT does
waits_begins : (s : AssociationState) → is_cookie_wait s ≡ true → is_beginning s ≡ true
waits_begins states.Closed e = absurd (false≢true e)
waits_begins states.CookieWait e = refl
waits_begins states.CookieEchoed e = absurd (false≢true e)
waits_begins states.Established e = absurd (false≢true e)
waits_begins states.ShutdownAckSent e = absurd (false≢true e)
waits_begins states.ShutdownPending e = absurd (false≢true e)
waits_begins states.ShutdownReceived e = absurd (false≢true e)
waits_begins states.ShutdownSent e = absurd (false≢true e)

ack_come : (a : Shown) → is_cookie_echoed a.state ≡ true → HasCome a → HasCome (connected a)
ack_come a e (inl w) = absurd (true≢false (sym e ∙ ap is_cookie_echoed w.state))
ack_come a e (inr (inl w)) = inr (inr (inr record { state = refl; completed = refl; known = w.known }))
ack_come a e (inr (inr (inl l))) = absurd (true≢false (sym e ∙ ap is_cookie_echoed l.state))
ack_come a e (inr (inr (inr s))) = absurd (true≢false (sym (echoed_begins a.state e) ∙ s.state))

-- COOKIE ECHO

echo_come : (a : Shown) → a.handshake.cookie_issued ≡ true → is_beginning a.state ≡ true → HasCome a
    → HasCome (acknowledged_cookie (connected a))
echo_come a issued begins (inl w) = absurd (true≢false (sym issued ∙ w.unissued))
echo_come a issued begins (inr (inl w)) = absurd (true≢false (sym issued ∙ w.unissued))
echo_come a issued begins (inr (inr (inl l))) =
    inr (inr (inr record { state = refl; completed = refl; known = l.issued issued }))
echo_come a issued begins (inr (inr (inr s))) = absurd (true≢false (sym begins ∙ s.state))

issued_of : (issued same : Bool) → (issued && same) ≡ true → issued ≡ true
issued_of true same e = refl
issued_of false same e = e

pub established_sides_talk : EstablishedSidesTalk
established_sides_talk a e (inl w) = absurd (false≢true (sym e ∙ ap is_beginning w.state))
established_sides_talk a e (inr (inl w)) = absurd (false≢true (sym e ∙ ap is_beginning w.state))
established_sides_talk a e (inr (inr (inl l))) = absurd (false≢true (sym e ∙ ap is_beginning l.state))
established_sides_talk a e (inr (inr (inr s))) = s

-- The same handshake has come as far where the state is as far on.
come_on : (a b : Shown) → b.side ≡ a.side → IsAsFarOn a.state b.state → b.handshake ≡ a.handshake → HasCome a
    → HasCome b
come_on a b side (inr (past, on)) same come =
    let s = established_sides_talk a past come in inr (inr (inr record {
      state = on;
      completed = ap (λ (x : Handshake). x.completed) same ∙ s.completed;
      known = ap (λ (x : Handshake). is_some x.peer_initial_tsn) same ∙ s.known;
    }))
come_on a b side (inl state) same (inl w) = inl record {
  client = side ∙ w.client;
  state = state ∙ w.state;
  incomplete = ap (λ (x : Handshake). x.completed) same ∙ w.incomplete;
  unissued = ap (λ (x : Handshake). x.cookie_issued) same ∙ w.unissued;
  unknown = ap (λ (x : Handshake). is_some x.peer_initial_tsn) same ∙ w.unknown;
}
come_on a b side (inl state) same (inr (inl w)) = inr (inl record {
  client = side ∙ w.client;
  state = state ∙ w.state;
  incomplete = ap (λ (x : Handshake). x.completed) same ∙ w.incomplete;
  unissued = ap (λ (x : Handshake). x.cookie_issued) same ∙ w.unissued;
  known = ap (λ (x : Handshake). is_some x.peer_initial_tsn) same ∙ w.known;
})
come_on a b side (inl state) same (inr (inr (inl l))) = inr (inr (inl record {
  server = side ∙ l.server;
  state = state ∙ l.state;
  incomplete = ap (λ (x : Handshake). x.completed) same ∙ l.incomplete;
  issued =
      λ i. ap (λ (x : Handshake). is_some x.peer_initial_tsn) same
      ∙ l.issued (ap (λ (x : Handshake). x.cookie_issued) (sym same) ∙ i);
}))
come_on a b side (inl state) same (inr (inr (inr s))) = inr (inr (inr record {
  state = ap is_beginning state ∙ s.state;
  completed = ap (λ (x : Handshake). x.completed) same ∙ s.completed;
  known = ap (λ (x : Handshake). is_some x.peer_initial_tsn) same ∙ s.known;
}))

-- SHUTDOWN

at_shutdown_far : (acknowledged : Bool) (s : AssociationState) → IsAsFarOn s (state_at_shutdown acknowledged s)
at_shutdown_far acknowledged states.Closed = inl refl
at_shutdown_far acknowledged states.CookieWait = inl refl
at_shutdown_far acknowledged states.CookieEchoed = inl refl
at_shutdown_far true states.Established = inr (refl, refl)
at_shutdown_far false states.Established = inr (refl, refl)
at_shutdown_far acknowledged states.ShutdownAckSent = inl refl
at_shutdown_far acknowledged states.ShutdownPending = inl refl
at_shutdown_far acknowledged states.ShutdownReceived = inl refl
at_shutdown_far acknowledged states.ShutdownSent = inr (refl, refl)

-- INIT ACK

-- What an INIT ACK with the ports of the INIT leaves, its cookie aside.
record IsMetBack (initial_tsn : ℕ) (a m : Shown) : Type 0 where
  pub side : m.side ≡ a.side
  pub state : m.state ≡ a.state
  pub control : m.control ≡ a.control
  pub tsn : m.handshake.my_initial_tsn ≡ a.handshake.my_initial_tsn
  pub known : m.handshake.peer_initial_tsn ≡ Some initial_tsn
  pub completed : m.handshake.completed ≡ a.handshake.completed
  pub issued : m.handshake.cookie_issued ≡ a.handshake.cookie_issued
  pub offer : m.handshake.offer ≡ None
  pub echo : m.handshake.echo ≡ a.handshake.echo

waits_for_it : (a : Shown) → is_cookie_wait a.state ≡ true → HasCome a → AwaitsInitAck a
waits_for_it a e (inl w) = w
waits_for_it a e (inr (inl w)) = absurd (true≢false (sym e ∙ ap is_cookie_wait w.state))
waits_for_it a e (inr (inr (inl l))) = absurd (true≢false (sym e ∙ ap is_cookie_wait l.state))
waits_for_it a e (inr (inr (inr s))) = absurd (true≢false (sym (waits_begins a.state e) ∙ s.state))

waiting_is_deaf : (a : Shown) → AwaitsInitAck a → MayHear (stage_of a) → ⊥
waiting_is_deaf a w (inl completed) = true≢false (sym completed ∙ w.incomplete)
waiting_is_deaf a w (inr (client, known)) = true≢false (sym known ∙ w.unknown)

none_is : (o : Option Offer) → o ≡ None → is_some o ≡ true → ⊥
none_is o e s = false≢true (ap is_some (sym e) ∙ s)

-- What an INIT ACK with other ports leaves: all but a tag and numbers of streams.
record IsLeftWaiting (a b : Shown) : Type 0 where
  pub side : b.side ≡ a.side
  pub state : b.state ≡ a.state
  pub control : b.control ≡ a.control
  pub tsn : b.handshake.my_initial_tsn ≡ a.handshake.my_initial_tsn
  pub known : b.handshake.peer_initial_tsn ≡ a.handshake.peer_initial_tsn
  pub completed : b.handshake.completed ≡ a.handshake.completed
  pub issued : b.handshake.cookie_issued ≡ a.handshake.cookie_issued
  pub offer : b.handshake.offer ≡ a.handshake.offer
  pub echo : b.handshake.echo ≡ a.handshake.echo

-- What each chunk makes of an association that stands by its handshake, whose peer is in this stage.
module _ (own peer : ℕ) (t : Stage) (a : Shown) (truthful : IsTruthful own a) (come : HasCome a) where
  -- an association that no chunk changes
  nothing_greeted : IsGreeted own peer t [] a a
  nothing_greeted = record {
    truthful = truthful;
    come = come;
    goes = record { side = refl; knows = λ k. k; completed = λ d. d };
    completes = λ d. inl d;
    learns = inl (refl, refl);
  }

  -- what leaves the handshake as it was, and what waits to go out, in a state that is as far on
  nothing_greeted_in : (b : Shown) → b.side ≡ a.side → b.handshake ≡ a.handshake → b.control ≡ a.control
      → IsAsFarOn a.state b.state → IsGreeted own peer t [] a b
  nothing_greeted_in b side same control far =
      let keeps = keeps_saying a b side same in
      record {
        truthful = truthful_still own a b truthful keeps control;
        come = come_on a b side far same come;
        goes = keeps.goes;
        completes = λ d. inl (ap (λ (x : Handshake). x.completed) (sym same) ∙ d);
        learns = inl (refl, ap (λ (x : Handshake). x.peer_initial_tsn) same);
      }

  -- INIT: a server takes it, and an association that is established doesn't; what it keeps of the peer is what it knew
  init_greets : (c kept : Bool) (header : CommonHeader) (init : ChunkInit) (trigger : AckTrigger)
      → is_beginning a.state ≡ c → keeps_peer a init ≡ kept
      → Greets peer t (chunks.Init init) → IsDoneAmongClients (stage_of a) t
      → IsGreeted own peer t (if c then known_unless kept init.initial_tsn else []) a (on_init a header init trigger).0
  unfolding on_init
  init_greets true true header init trigger e f (is, client) one =
      let b : Shown =
      answered (learned_unless true (record a { handshake = learned_by_init a.handshake header init }) init) in
      let l = listens a t e client one come in
      let goes : IsNoEarlier (stage_of a)
      (stage_of b) = record { side = refl; knows = λ k. refl; completed = λ d. d } in
      let keeps : KeepsSaying a b = record { tsn = refl; goes = goes; offers = λ o. o; echoes = λ x. inl x } in
      rw (e, f) (record {
        truthful = truthful_with own a b _ truthful keeps refl (truthful.tsn, refl) refl;
        come =
            inr (inr (inl record {
              server = l.server;
              state = l.state;
              incomplete = l.incomplete;
              issued = λ i. refl;
            }));
        goes = goes;
        completes = λ d. inl d;
        learns = inl (refl, sym (kept_is_known a init f));
      })
  init_greets true false header init trigger e f (is, client) one =
      let b : Shown =
      answered (learned_unless false (record a { handshake = learned_by_init a.handshake header init }) init) in
      let l = listens a t e client one come in
      let goes : IsNoEarlier (stage_of a)
      (stage_of b) = record { side = refl; knows = λ k. refl; completed = λ d. d } in
      let keeps : KeepsSaying a b = record { tsn = refl; goes = goes; offers = λ o. o; echoes = λ x. inl x } in
      rw (e, f) (record {
        truthful = truthful_with own a b _ truthful keeps refl (truthful.tsn, refl) refl;
        come =
            inr (inr (inl record {
              server = l.server;
              state = l.state;
              incomplete = l.incomplete;
              issued = λ i. refl;
            }));
        goes = goes;
        completes = λ d. inl d;
        learns = inr (ap (λ (n : ℕ). Act.PeerKnown n ∷ []) is, listener_is_deaf a l);
      })
  init_greets false kept header init trigger e f said one = rw e nothing_greeted

  -- COOKIE ACK completes what a client began
  cookie_ack_greets : (c : Bool) (trigger : AckTrigger) → is_cookie_echoed a.state ≡ c → t.completed ≡ true
      → IsGreeted own peer t [] a (on_cookie_ack a trigger).0
  unfolding on_cookie_ack
  cookie_ack_greets true trigger e said =
      let k = connected_keeps a in
      rw e (record {
        truthful = truthful_still own a (connected a) truthful k refl;
        come = ack_come a e come;
        goes = k.goes;
        completes = λ d. inr (inl said);
        learns = inl (refl, refl);
      })
  cookie_ack_greets false trigger e said = rw e nothing_greeted

  -- COOKIE ECHO completes what a server began
  cookie_echo_greets : (issued begins again : Bool) (cookie : List ℕ) (trigger : AckTrigger)
      → has_issued a.handshake cookie ≡ issued
      → is_beginning a.state ≡ begins → acknowledges_again a ≡ again
      → (t.side ≡ sides.Client) × (t.knows ≡ true)
      → IsGreeted own peer t [] a (on_cookie_echo a cookie trigger).0
  unfolding on_cookie_echo
  cookie_echo_greets false begins again cookie trigger e f g said = rw e nothing_greeted
  cookie_echo_greets true true again cookie trigger e f g said =
      let issued = issued_of a.handshake.cookie_issued (bytes_eq a.handshake.cookie cookie) e in
      let b : Shown = acknowledged_cookie (connected a) in
      let k = connected_keeps a in
      let keeps : KeepsSaying a b = record {
        tsn = k.tsn;
        goes = record { side = refl; knows = λ k. k; completed = λ d. refl };
        offers = k.offers;
        echoes = k.echoes;
      } in
      rw (e, f) (record {
        truthful = truthful_with own a b _ truthful keeps refl refl refl;
        come = echo_come a issued f come;
        goes = keeps.goes;
        completes = λ d. inr (inr said);
        learns = inl (refl, refl);
      })
  cookie_echo_greets true false true cookie trigger e f g said =
      let b : Shown = acknowledged_cookie (shutdown_again a) in
      let keeps : KeepsSaying a b = record {
        tsn = refl;
        goes = record { side = refl; knows = λ k. k; completed = λ d. d };
        offers = λ o. o;
        echoes = λ x. inl x;
      } in
      let s = established_sides_talk a f come in
      rw (e, f, g) (record {
        truthful = truthful_with own a b _ truthful keeps refl s.completed refl;
        come = inr (inr (inr record { state = s.state; completed = s.completed; known = s.known }));
        goes = keeps.goes;
        completes = λ d. inl d;
        learns = inl (refl, refl);
      })
  cookie_echo_greets true false false cookie trigger e f g said = rw (e, f, g) nothing_greeted

  -- INIT ACK: a client that waits for it takes it
  echoed_greets : (o : Option (List ℕ)) (m : Shown) (n : ℕ) (trigger : AckTrigger) (now : ℕ)
      → is_cookie_wait a.state ≡ true → is_some o ≡ true → n ≡ peer → IsMetBack n a m
      → IsGreeted own peer t (Act.PeerKnown n ∷ []) a (echoed o m trigger now).0
  unfolding sends_cookie
  echoed_greets None m n trigger now e some is met = absurd (false≢true some)
  echoed_greets (Some cookie) m n trigger now e some is met =
      let w = waits_for_it a e come in
      let b : Shown = with_echo m cookie now in
      let c : Control =
      controls.Packet (record { header = header_of m.handshake; chunk = chunks.CookieEcho cookie }) in
      let known : is_some m.handshake.peer_initial_tsn ≡ true = ap is_some met.known in
      let goes : IsNoEarlier (stage_of a)
      (stage_of b) = record { side = met.side; knows = λ k. known; completed = λ d. met.completed ∙ d } in
      let keeps : KeepsSaying a b = record {
        tsn = met.tsn;
        goes = goes;
        offers = λ s. absurd (none_is m.handshake.offer met.offer s);
        echoes = λ x. inr (met.side ∙ w.client, known);
      } in
      record {
        truthful =
            truthful_with own a b c truthful keeps (ap (λ (z : List Control). z ++ c ∷ []) met.control)
            (met.side ∙ w.client, known) refl;
        come = inr (inl record {
          client = met.side ∙ w.client;
          state = refl;
          incomplete = met.completed ∙ w.incomplete;
          unissued = met.issued ∙ w.unissued;
          known = known;
        });
        goes = goes;
        completes = λ d. inl (sym met.completed ∙ d);
        learns = inr (ap (λ (x : ℕ). Act.PeerKnown x ∷ []) is, waiting_is_deaf a w);
      }

  other_ports_greet : (b : Shown) → is_cookie_wait a.state ≡ true → IsLeftWaiting a b → IsGreeted own peer t [] a b
  other_ports_greet b e l =
      let w = waits_for_it a e come in
      let goes : IsNoEarlier (stage_of a)
      (stage_of b) = record { side = l.side; knows = λ k. ap is_some l.known ∙ k; completed = λ d. l.completed ∙ d } in
      record {
        truthful = truthful_still own a b truthful record {
          tsn = l.tsn;
          goes = goes;
          offers = λ o. ap is_some (sym l.offer) ∙ o;
          echoes = λ x. inl (ap is_some (sym l.echo) ∙ x);
        } l.control;
        come = inl record {
          client = l.side ∙ w.client;
          state = l.state ∙ w.state;
          incomplete = l.completed ∙ w.incomplete;
          unissued = l.issued ∙ w.unissued;
          unknown = ap is_some l.known ∙ w.unknown;
        };
        goes = goes;
        completes = λ d. inl (sym l.completed ∙ d);
        learns = inl (refl, l.known);
      }

  init_ack_greets : (waits back : Bool) (header : CommonHeader) (init : ChunkInit) (trigger : AckTrigger) (now : ℕ)
      → is_cookie_wait a.state ≡ waits
      → comes_back a.handshake header ≡ back → Greets peer t (chunks.InitAck init)
      → IsGreeted own peer t (if waits then (if back then Act.PeerKnown init.initial_tsn ∷ [] else []) else []) a
      (on_init_ack a header init trigger now).0
  unfolding on_init_ack
  init_ack_greets true true header init trigger now e f (is, some) =
      rw (e, f) (echoed_greets (first_cookie init.params) _ init.initial_tsn trigger now e some is record {
        side = refl;
        state = refl;
        control = refl;
        tsn = refl;
        known = refl;
        completed = refl;
        issued = refl;
        offer = refl;
        echo = refl;
      })
  init_ack_greets true false header init trigger now e f said =
      rw (e, f) (other_ports_greet _ e record {
        side = refl;
        state = refl;
        control = refl;
        tsn = refl;
        known = refl;
        completed = refl;
        issued = refl;
        offer = refl;
        echo = refl;
      })
  init_ack_greets false back header init trigger now e f said = rw e nothing_greeted

  -- Any chunk that its own check accepts, or refuses

  kind_greets : (r : Result (Unit {0}) Error) (header : CommonHeader) (c : Chunk) (trigger : AckTrigger) (now : ℕ)
      → Greets peer t c → IsDoneAmongClients (stage_of a) t
      → IsGreeted own peer t (acts_of_checked r a header c) a (checked_first r a header c trigger now).0
  kind_greets (Err fault) header c trigger now said one = nothing_greeted
  kind_greets (Ok done) header (chunks.Init x) trigger now said one =
      init_greets (is_beginning a.state) (keeps_peer a x) header x trigger refl refl said one
  kind_greets (Ok done) header (chunks.InitAck x) trigger now said one =
      init_ack_greets (is_cookie_wait a.state) (comes_back a.handshake header) header x trigger now refl refl said
  kind_greets (Ok done) header (chunks.CookieEcho x) trigger now said one =
      cookie_echo_greets (has_issued a.handshake x) (is_beginning a.state) (acknowledges_again a) x trigger refl refl
      refl said
  kind_greets (Ok done) header chunks.CookieAck trigger now said one =
      cookie_ack_greets (is_cookie_echoed a.state) trigger refl said
  kind_greets (Ok done) header (chunks.Data x) trigger now said one = absurd said
  kind_greets (Ok done) header (chunks.SelectiveAck x) trigger now said one = absurd said
  kind_greets (Ok done) header (chunks.Heartbeat x) trigger now said one = absurd said
  kind_greets (Ok done) header (chunks.HeartbeatAck x) trigger now said one = absurd said
  kind_greets (Ok done) header (chunks.Abort x) trigger now said one = nothing_greeted
  kind_greets (Ok done) header (chunks.Shutdown x) trigger now said one =
      nothing_greeted_in (shutdown_taken a) refl refl refl (at_shutdown_far (all_acknowledged a) a.state)
  kind_greets (Ok done) header chunks.ShutdownAck trigger now said one =
      nothing_greeted_in (shutdown_answered a) refl refl refl (inl refl)
  kind_greets (Ok done) header (chunks.Error x) trigger now said one = nothing_greeted
  kind_greets (Ok done) header chunks.ShutdownComplete trigger now said one = nothing_greeted
  kind_greets (Ok done) header (chunks.Reconfig x) trigger now said one = absurd said
  kind_greets (Ok done) header (chunks.ForwardTsn x) trigger now said one = absurd said
  kind_greets (Ok done) header (chunks.IForwardTsn x) trigger now said one = absurd said
  kind_greets (Ok done) header (chunks.Other kind flags value) trigger now said one = absurd said

pub chunk_greets : (header : CommonHeader) (c : Chunk) (a : Shown) (trigger : AckTrigger) (now : ℕ)
    → GreetsOn header c a (on_chunk a header c trigger now).0
unfolding on_chunk
chunk_greets header c a trigger now =
    λ own peer t said one truthful come.
    kind_greets own peer t a truthful come (checked_chunk c) header c trigger now said one

pub the_same_handshake_is_the_same_stage : TheSameHandshakeIsTheSameStage
the_same_handshake_is_the_same_stage a b side same = (
  ap
      (λ (z : Side). record {
        side = z;
        knows = is_some b.handshake.peer_initial_tsn;
        completed = b.handshake.completed;
      }) side
      ∙ ap (λ (h : Handshake). record { side = a.side; knows = is_some h.peer_initial_tsn; completed = h.completed })
      same,
  λ state come. come_on a b side state same come,
)
