-- What one side does, meeting its peer or talking to it, leaves both standing between the courses.
use Rattle.std.proofs.Common.{◌≡◌, refl, sym, ap, ◌∙◌, subst, ◌⊎◌, inl, inr, ℕ, Bool, true, false, is_some}
use Rattle.std.proofs.Common.{List, [], ◌++◌, Option, None}
use Rattle.std.proofs.lemmas.Bool.{cases_Bool, false≢true, true≢false}
use Rattle.sctp_wire_types.specs.declared.chunk.Chunk.{Chunk}
use Rattle.sctp_wire_types.specs.declared.chunk.Chunk.TheVariants as chunks
use Rattle.sctp_wire_types.specs.declared.chunk.ChunkPayloadData.{ChunkPayloadData}
use Rattle.sctp_wire_types.specs.declared.ids.Side.TheVariants as sides
use Rattle.sctp_receive_queues.specs.Messages.{ReceivedMessage}
use Rattle.sctp_courses.specs.Course.{Course}
use Rattle.sctp_courses.specs.Events.{Event, run}
use Rattle.sctp_reset_fit.specs.Keeping.{GoesOn}
use Rattle.sctp_reset_fit.proofs.Keeping.{goes_kept, goes_leaves}
use Rattle.sctp_directions.specs.Acts.{History}
use Rattle.sctp_assoc.specs.Shown.{Shown}
use Rattle.sctp_sides.specs.Meeting.{Greets, IsDoneAmongClients, IsNoEarlier, MayHear, Stage}
use Rattle.sctp_sides.proofs.Proved.{greetings_stay_true}
use Rattle.sctp_course_sides.specs.Follows.{AwaitsIts, Follows}
use Rattle.sctp_course_sides.specs.Meets.{FollowsOrAwaits, Meets}
use Rattle.sctp_course_sides.specs.Sends.{SendsOn}
use Rattle.sctp_course_sides.specs.Turns.{AreSent, IsFew, IsPresent}
use Rattle.sctp_course_sides.proofs.FollowsWeaker.{follows_weaker}
use Rattle.sctp_course_sides.proofs.Meeting.{no_reset_answers, no_reset_beside, receives_weaker}
use Rattle.sctp_course_sides.proofs.MeetingChunks.{greeting_speaks, one_then}
use Rattle.sctp_course_sides.proofs.SentOn.{sends_nothing}
use Rattle.sctp_course_sides.proofs.StageChunks.{stays_put}
use Rattle.sctp_course_sides.proofs.TalkingChunks.{hearers_know}
use Rattle.sctp_boundaries.specs.Between.{AreMeeting, AreTalking, IsGivenOut, IsPresentOrGone, IsSaid, OfEachDatagram}
use Rattle.sctp_boundaries.specs.Between.{Stand, StandsAt}
use Rattle.sctp_boundaries.proofs.Leading.{SideMeets, SideTalks}
use Rattle.sctp_boundaries.proofs.Led.{SideActs, given_still, grows_none}
use Rattle.sctp_boundaries.proofs.Staying.{answers_sent, datagrams_join, datagrams_weaker, said_beside, said_still}
use Rattle.sctp_boundaries.proofs.Staying.{sends_kept, sends_still}

-- A receiver follows the course still where its sender leads it on.
abbrev pub FollowsBesideSending : (ChunkPayloadData → Type 0) → Type 0
FollowsBesideSending P = (initial id : ℕ) (a : Shown) (h : History) (c : Course) (events : List Event) → AreSent events
    → IsFew (run events c) → Follows P initial id a h c → Follows P initial id a h (run events c)

-- who may hear goes on to do so
hear_later : (s u : Stage) → IsNoEarlier s u → MayHear s → MayHear u
hear_later s u later (inl done) = inl (later.completed done)
hear_later s u later (inr (client, known)) = inr (later.side ∙ client, later.knows known)

-- seen from the other one of two clients
other_then : (s t u : Stage) → IsNoEarlier s u → IsDoneAmongClients t s → IsDoneAmongClients t u
other_then s t u later one = λ client other. one client (sym later.side ∙ other)

-- Talking

module _ (sent_beside : (P : ChunkPayloadData → Type 0) → FollowsBesideSending P) where
  -- the other side stands there still, and holds nothing but what was given out by then
  stands_still : (packets more all : List (List ℕ)) → all ≡ packets ++ more → (own peer id : ℕ) (s : Stage) (y : Shown)
      (out further coming later : Course) → GoesOn out further → SendsOn coming later → IsFew later
      → StandsAt (IsGivenOut packets) own peer id s y out coming
      → StandsAt (IsGivenOut all) own peer id s y further later
  stands_still packets more all e own peer id s y out further coming later goes sends few st =
      let weaker = follows_weaker (IsGivenOut packets) (IsGivenOut all) (given_still packets more all e) peer id y
      st.came coming st.follows in
      record {
        at = st.at;
        sent = st.sent;
        sent_binds = st.sent_binds;
        sends = sends_still own id y st.sent out further goes st.sends;
        came = st.came;
        follows =
            subst (λ (c : Course). Follows (IsGivenOut all) peer id y st.came c) (sym sends.is)
            (sent_beside (IsGivenOut all) peer id y st.came coming sends.events sends.sent (subst IsFew sends.is few)
            weaker);
        answers = answers_sent peer y coming later sends st.answers;
        beside = st.beside;
      }

module _ (own peer id : ℕ) (polls : Bool) (x y z : Shown) (message : Option ReceivedMessage)
    (of_x of_y of_z given : List (List ℕ)) (more : of_z ≡ of_x ++ given) (out coming : Course)
    (st : Stand own peer id x y of_x of_y out coming) (here_z : IsPresentOrGone z)
  where
    pub talked : ((P : ChunkPayloadData → Type 0) → FollowsBesideSending P)
        → AreTalking own peer id st.stage_x st.stage_y x y of_x of_y out coming
        → SideTalks (IsGivenOut of_y) own peer id st.stage_x x out coming polls message z given
        → SideActs own peer id polls x y message z of_y of_z out coming
    talked sent_beside t l =
        let ahead : Course = l.moves.out_after in
        let after : Course = l.moves.coming_after in
        record {
          moves = l.moves;
          stand = λ few less. record {
            kept_out = sends_kept out ahead l.moves.sends st.kept_out;
            kept_coming = goes_kept coming after l.moves.goes st.kept_coming;
            here_x = here_z;
            here_y = st.here_y;
            stage_x = l.stage;
            stage_y = st.stage_y;
            between = inr record {
              hears_x = hear_later st.stage_x l.stage l.later t.hears_x;
              hears_y = t.hears_y;
              one_x = one_then st.stage_x st.stage_y l.stage l.later t.one_x;
              one_y = other_then st.stage_x st.stage_y l.stage l.later t.one_y;
              at_x = l.stands few less;
              at_y = λ present.
                  stands_still sent_beside of_x given of_z more peer own id st.stage_y y coming after out ahead
                  l.moves.goes l.moves.sends few (t.at_y present);
              said_x =
                  subst (OfEachDatagram (IsSaid own peer id l.stage ahead after)) (sym more)
                  (datagrams_join (IsSaid own peer id l.stage ahead after) of_x given
                  (datagrams_weaker (IsSaid own peer id st.stage_x out coming) (IsSaid own peer id l.stage ahead after)
                  (said_still own peer id st.stage_x l.stage out ahead coming after l.later l.moves.sends l.moves.goes)
                  of_x t.said_x)
                  l.said);
              said_y =
                  datagrams_weaker (IsSaid peer own id st.stage_y coming out)
                  (IsSaid peer own id st.stage_y after ahead)
                  (said_beside peer own id st.stage_y coming after out ahead l.moves.goes l.moves.sends) of_y t.said_y;
            };
          };
        }

-- Meeting

-- a side that met its peer, and may hear it, talks
begins_talking : (P : ChunkPayloadData → Type 0) (own peer id : ℕ) (s : Stage) (x : Shown) (out coming : Course)
    → MayHear s → Meets P own peer id s x out coming → StandsAt P own peer id s x out coming
begins_talking P own peer id s x out coming hears m = by m.receives
  where
    by : FollowsOrAwaits P peer id x coming → StandsAt P own peer id s x out coming
    by (inl (known, h, f)) = record {
      at = m.at;
      sent = m.sent;
      sent_binds = m.sent_binds;
      sends = m.sends;
      came = h;
      follows = f;
      answers = no_reset_answers peer x coming m.no_reset;
      beside = no_reset_beside own x m.no_reset m.at.truthful;
    }
    by (inr (unknown, w)) = absurd (true≢false (sym (hearers_know own s x m.at hears) ∙ unknown))

-- what is said of a handshake says nothing else
greeting_is_said : (own peer id : ℕ) (s : Stage) (out coming : Course) (chunk : Chunk) → Greets own s chunk
    → IsSaid own peer id s out coming chunk
greeting_is_said own peer id s out coming (chunks.Data x) said = absurd said
greeting_is_said own peer id s out coming (chunks.SelectiveAck x) said = absurd said
greeting_is_said own peer id s out coming (chunks.ForwardTsn x) said = absurd said
greeting_is_said own peer id s out coming (chunks.IForwardTsn x) said = absurd said
greeting_is_said own peer id s out coming (chunks.Reconfig x) said = absurd said
greeting_is_said own peer id s out coming (chunks.Heartbeat x) said = absurd said
greeting_is_said own peer id s out coming (chunks.HeartbeatAck x) said = absurd said
greeting_is_said own peer id s out coming (chunks.Other kind flags value) said = absurd said
greeting_is_said own peer id s out coming (chunks.Init x) said = (tt, (tt, tt), said)
greeting_is_said own peer id s out coming (chunks.InitAck x) said = (tt, (tt, tt), said)
greeting_is_said own peer id s out coming (chunks.CookieEcho x) said = (tt, (tt, tt), said)
greeting_is_said own peer id s out coming chunks.CookieAck said = (tt, (tt, tt), said)
greeting_is_said own peer id s out coming (chunks.Abort x) said = (tt, (tt, tt), tt)
greeting_is_said own peer id s out coming (chunks.Error x) said = (tt, (tt, tt), tt)
greeting_is_said own peer id s out coming (chunks.Shutdown x) said = (tt, (tt, tt), tt)
greeting_is_said own peer id s out coming chunks.ShutdownAck said = (tt, (tt, tt), tt)
greeting_is_said own peer id s out coming chunks.ShutdownComplete said = (tt, (tt, tt), tt)

pub greetings_are_said : (own peer id : ℕ) (s : Stage) (out coming : Course) (packets : List (List ℕ))
    → OfEachDatagram (Greets own s) packets → OfEachDatagram (IsSaid own peer id s out coming) packets
greetings_are_said own peer id s out coming packets all =
    datagrams_weaker (Greets own s) (IsSaid own peer id s out coming) (greeting_is_said own peer id s out coming)
    packets all

-- who hears the one that its handshake established just now
hears_then : (s t u : Stage) → s.completed ≡ false → (u.completed ≡ true → (s.completed ≡ true) ⊎ MayHear t)
    → u.completed ≡ true → MayHear t
hears_then s t u never completes done = by (completes done)
  where
    by : (s.completed ≡ true) ⊎ MayHear t → MayHear t
    by (inl before) = absurd (true≢false (sym before ∙ never))
    by (inr hears) = hears

module _ (own peer id : ℕ) (polls : Bool) (x y z : Shown) (message : Option ReceivedMessage)
    (of_x of_y of_z given : List (List ℕ)) (more : of_z ≡ of_x ++ given) (out coming : Course)
    (st : Stand own peer id x y of_x of_y out coming) (here_z : IsPresentOrGone z)
    (a : AreMeeting own peer id st.stage_x st.stage_y x y of_x of_y out coming)
    (l : SideMeets (IsGivenOut of_y) own peer id st.stage_y st.stage_x x out coming polls message z given)
  where
    -- what x gave out by then
    all_greet : OfEachDatagram (Greets own l.stage) of_z
    all_greet =
        subst (OfEachDatagram (Greets own l.stage)) (sym more)
        (datagrams_join (Greets own l.stage) of_x given
        (datagrams_weaker (Greets own st.stage_x) (Greets own l.stage)
        (λ chunk said. greetings_stay_true own st.stage_x l.stage chunk l.later said) of_x a.greets_x)
        l.greets)

    -- y meets x still
    meets_still : Meets (IsGivenOut of_x) peer own id st.stage_y y coming out
        → Meets (IsGivenOut of_z) peer own id st.stage_y y l.after out
    meets_still m = record {
      at = m.at;
      small = m.small;
      sent = m.sent;
      sent_binds = m.sent_binds;
      sends = sends_still peer id y m.sent coming l.after l.goes m.sends;
      receives =
          receives_weaker (IsGivenOut of_x) (IsGivenOut of_z) (given_still of_x given of_z more) own id y out m.small
          m.receives;
      no_reset = m.no_reset;
    }

    both_clients : l.stage.side ≡ sides.Client → st.stage_y.side ≡ sides.Client → ⊥
    both_clients client other = a.no_clients (sym l.later.side ∙ client) other

    meet_on : (done : Bool) → l.stage.completed ≡ done
        → AreMeeting own peer id l.stage st.stage_y z y of_z of_y out l.after
        ⊎ AreTalking own peer id l.stage st.stage_y z y of_z of_y out l.after
    meet_on false e =
        let left = goes_leaves coming l.after l.goes in
        inl record {
          never_x = e;
          never_y = a.never_y;
          no_clients = both_clients;
          unsent_out = a.unsent_out;
          unsent_coming = (left.0 ∙ a.unsent_coming.0, left.1 ∙ a.unsent_coming.1);
          at_x = l.meets;
          at_y = λ present. meets_still (a.at_y present);
          greets_x = all_greet;
          greets_y = a.greets_y;
        }
    meet_on true e =
        let hears : MayHear st.stage_y = hears_then st.stage_x st.stage_y l.stage a.never_x l.completes e in
        inr record {
          hears_x = inl e;
          hears_y = hears;
          one_x = λ client other. e;
          one_y = λ other client. absurd (both_clients client other);
          at_x = λ present.
              begins_talking (IsGivenOut of_y) own peer id l.stage z out l.after (inl e) (l.meets present);
          at_y = λ present.
              begins_talking (IsGivenOut of_z) peer own id st.stage_y y l.after out hears
              (meets_still (a.at_y present));
          said_x = greetings_are_said own peer id l.stage out l.after of_z all_greet;
          said_y = greetings_are_said peer own id st.stage_y l.after out of_y a.greets_y;
        }

    pub met : SideActs own peer id polls x y message z of_y of_z out coming
    met = record {
      moves = record {
        out_after = out;
        coming_after = l.after;
        sends = sends_nothing out;
        seen = grows_none polls x z out out refl refl;
        goes = l.goes;
        grows = l.grows;
      };
      stand = λ few less. record {
        kept_out = st.kept_out;
        kept_coming = goes_kept coming l.after l.goes st.kept_coming;
        here_x = here_z;
        here_y = st.here_y;
        stage_x = l.stage;
        stage_y = st.stage_y;
        between = meet_on l.stage.completed refl;
      };
    }
