-- Whatever is called of one side, and whether it is present or gone, both sides stand between the courses then.
use Rattle.std.proofs.Common.{◌≡◌, refl, sym, ap, ◌∙◌, subst, ◌⊎◌, inl, inr, ℕ, ◌<◌, ◌^◌, Bool, true, false}
use Rattle.std.proofs.Common.{suc, List, [], ◌∷◌, slice_get, Option, Some, None}
use Rattle.std.specs.Bool.{⊤}
use Rattle.std.specs.List.{AllByRecursion}
use Rattle.std.proofs.lemmas.Bool.{true≢false}
use Rattle.sctp_wire_types.specs.declared.chunk.Chunk.{Chunk}
use Rattle.sctp_wire_types.specs.declared.chunk.Chunk.TheVariants as chunks
use Rattle.sctp_wire_types.specs.declared.chunk.ChunkPayloadData.{ChunkPayloadData}
use Rattle.sctp_wire.specs.declared.packet.Packet.{Packet}
use Rattle.sctp_receive_queues.specs.Messages.{ReceivedMessage}
use Rattle.sctp_model.proofs.Lists.{all_both, all_get}
use Rattle.sctp_reset_requests.specs.Laws.{DataHoldsBack, NamesAreThoseListed}
use Rattle.sctp_courses.specs.Course.{Course}
use Rattle.sctp_reset_fit.proofs.Keeping.{goes_nowhere}
use Rattle.sctp_assoc.specs.declared.call.Call.{Call}
use Rattle.sctp_assoc.specs.declared.call.Call.TheVariants as calls
use Rattle.sctp_assoc.specs.declared.call.Reply.{Reply}
use Rattle.sctp_assoc.specs.Replies.{Replies, packet_in}
use Rattle.sctp_assoc.specs.Shown.{Shown}
use Rattle.sctp_sides.specs.Brought.{BringsOnly, IsOnly}
use Rattle.sctp_sides.specs.Meeting.{Greets, Stage}
use Rattle.sctp_sides.specs.SideLaws.{OfEachChunk}
use Rattle.sctp_course_sides.specs.Over.{SaysNothing}
use Rattle.sctp_course_sides.specs.Turns.{Grows, IsPresent}
use Rattle.sctp_course_sides.proofs.OverSides.{nothing_greets}
use Rattle.sctp_course_sides.proofs.StageChunks.{stays_put}
use Rattle.sctp_boundaries.specs.Between.{AreMeeting, AreTalking, IsGivenOut, IsGone, IsPresentOrGone, IsSaid}
use Rattle.sctp_boundaries.specs.Between.{HasPiece, OfEachDatagram, Stand, StandsAt}
use Rattle.sctp_boundaries.proofs.Acting.{FollowsBesideSending, greetings_are_said, met, talked}
use Rattle.sctp_boundaries.proofs.Calling.{CallGoes, GoesByCalls, IsBrought, is_poll, message_given}
use Rattle.sctp_boundaries.proofs.EachCall.{call_leads}
use Rattle.sctp_boundaries.proofs.Gone.{gone_absent, gone_leads, reply_gone, reply_on}
use Rattle.sctp_boundaries.proofs.Leading.{SideMeets, SideTalks}
use Rattle.sctp_boundaries.proofs.Led.{SideActs, moves_nothing}
use Rattle.sctp_boundaries.proofs.MeetingCalls.{failed_meets, front_meets, packets_meet, polls_meet, quiet_meets}
use Rattle.sctp_boundaries.proofs.MeetingCalls.{read_meets, same_meets}
use Rattle.sctp_boundaries.proofs.Staying.{datagrams_weaker}
use Rattle.sctp_boundaries.proofs.TalkingCalls.{failed_talks, front_talks, quiet_talks, read_talks, same_talks}
use Rattle.sctp_boundaries.proofs.TalkingPackets.{IsBroughtTruly, packets_talk}
use Rattle.sctp_boundaries.proofs.TalkingPolls.{polls_talk}

-- A datagram that a call brings is one of these; a stream that it stops is named by an identifier.
abbrev pub IsOfOther : List (List ℕ) → Call → Type 0
IsOfOther packets (calls.HandleDatagram bytes remote now) = (number : ℕ) × (slice_get packets number ≡ Some bytes)
IsOfOther packets (calls.Stop k) = k < 2 ^ 16
IsOfOther packets (calls.CloseStream k) = k < 2 ^ 16
IsOfOther packets call = ⊤

brought_of : (Brings : Option Packet → Type 0) (packets : List (List ℕ))
    → ((number : ℕ) (bytes : List ℕ) → slice_get packets number ≡ Some bytes → Brings (packet_in bytes))
    → (call : Call) → IsOfOther packets call → IsBrought Brings call
brought_of Brings packets each (calls.HandleDatagram bytes remote now) (number, is) = each number bytes is
brought_of Brings packets each (calls.Stop k) named = named
brought_of Brings packets each (calls.CloseStream k) named = named
brought_of Brings packets each call named = tt

-- what is so of each chunk of all datagrams is so of one
of_one : (Is : Chunk → Type 0) (packets : List (List ℕ)) (number : ℕ) (bytes : List ℕ)
    → slice_get packets number ≡ Some bytes → OfEachDatagram Is packets → OfEachChunk Is (packet_in bytes)
of_one Is packets number bytes is all =
    all_get (λ (b : List ℕ). OfEachChunk Is (packet_in b)) packets number bytes is all

-- what is so of each piece that is DATA of some chunks, is so of all their DATA
only_pieces : (P : ChunkPayloadData → Type 0) (all : List Chunk)
    → ((k : ℕ) (piece : ChunkPayloadData) → slice_get all k ≡ Some (chunks.Data piece) → P piece)
    → AllByRecursion (λ (chunk : Chunk). IsOnly P chunk) all
only_pieces P [] so = tt
only_pieces P (x ∷ xs) so = (one x refl, only_pieces P xs (λ k piece e. so (suc k) piece e))
  where
    one : (y : Chunk) → x ≡ y → IsOnly P y
    one (chunks.Data piece) e = so 0 piece (ap Some e)
    one other e = tt

-- what a packet brings that was given out
brings_given : (packets : List (List ℕ)) (number : ℕ) (bytes : List ℕ) → slice_get packets number ≡ Some bytes
    → BringsOnly (IsGivenOut packets) (packet_in bytes)
brings_given packets number bytes is = by (packet_in bytes) refl
  where
    by : (o : Option Packet) → packet_in bytes ≡ o → BringsOnly (IsGivenOut packets) o
    by None e = tt
    by (Some packet) e =
        only_pieces (IsGivenOut packets) packet.chunks
        (λ k piece at.
        (number, bytes, is, subst (λ (o : Option Packet). HasPiece o piece) (sym e) (k, at)))

-- with what is so of its chunks
both_brought : (P : ChunkPayloadData → Type 0) (Is : Chunk → Type 0) (packet : Option Packet) → OfEachChunk Is packet
    → BringsOnly P packet → OfEachChunk (λ (chunk : Chunk). Is chunk × IsOnly P chunk) packet
both_brought P Is None all only = tt
both_brought P Is (Some packet) all only = all_both Is (λ (c : Chunk). IsOnly P c) packet.chunks all only

module _ (sent_beside : (P : ChunkPayloadData → Type 0) → FollowsBesideSending P) (held : DataHoldsBack)
    (those_listed : NamesAreThoseListed) (own peer id : ℕ) (x y z : Shown) (of_x of_y of_z : List (List ℕ))
    (out coming : Course) (st : Stand own peer id x y of_x of_y out coming) (call : Call) (r : Reply)
    (brought : IsOfOther of_y call) (replies : Replies call x of_x r z of_z)
  where
    abbrev Of : ChunkPayloadData → Type 0
    Of = IsGivenOut of_y

    abbrev Acts : Type 0
    Acts = SideActs own peer id (is_poll call) x y (message_given call r id) z of_y of_z out coming

    abbrev Meets : Bool → Option ReceivedMessage → Shown → List (List ℕ) → Type 0
    Meets polls message b given = SideMeets Of own peer id st.stage_y st.stage_x x out coming polls message b given

    abbrev Talks : Bool → Option ReceivedMessage → Shown → List (List ℕ) → Type 0
    Talks polls message b given = SideTalks Of own peer id st.stage_x x out coming polls message b given

    here : IsPresentOrGone z
    here = reply_on call r x z of_x of_z replies st.here_x

    -- Meeting

    met_by : AreMeeting own peer id st.stage_x st.stage_y x y of_x of_y out coming
        → CallGoes Meets id call r z of_x of_z
        → Acts
    met_by a g =
        met own peer id (is_poll call) x y z (message_given call r id) of_x of_y of_z g.given g.extends out coming st
        here a g.goes

    meeting_acts : IsPresent x → AreMeeting own peer id st.stage_x st.stage_y x y of_x of_y out coming → Acts
    meeting_acts present a =
        let m = a.at_x present in
        let by : GoesByCalls id x (OfEachChunk (Greets peer st.stage_y)) Meets = record {
          same = same_meets Of own peer id st.stage_y st.stage_x x out coming a.never_x m;
          failed = failed_meets Of own peer id st.stage_y st.stage_x x out coming a.never_x m;
          quiet = quiet_meets Of own peer id st.stage_y st.stage_x x out coming a.never_x m;
          read = read_meets Of own peer id st.stage_y st.stage_x x out coming a.never_x m;
          packet =
              packets_meet Of own peer id st.stage_y st.stage_x x out coming a.never_x m a.unsent_out a.unsent_coming
              st.kept_out a.no_clients;
          poll = polls_meet Of own peer id st.stage_y st.stage_x x out coming a.never_x m present;
          front = front_meets Of own peer id st.stage_y st.stage_x x out coming a.never_x m;
        } in
        met_by a
        (call_leads id x (OfEachChunk (Greets peer st.stage_y)) Meets by present z of_x of_z call r replies
        (brought_of (OfEachChunk (Greets peer st.stage_y)) of_y
        (λ number bytes is. of_one (Greets peer st.stage_y) of_y number bytes is a.greets_y) call brought))

    gone_meeting_acts : IsGone x → AreMeeting own peer id st.stage_x st.stage_y x y of_x of_y out coming → Acts
    gone_meeting_acts gone a =
        let gone_z : IsGone z = reply_gone call r x z of_x of_z replies gone in
        let stays : (polls : Bool) (message : Option ReceivedMessage) (given : List (List ℕ)) → message ≡ None
        → OfEachDatagram SaysNothing given → Meets polls message z given =
        λ polls message given none says. record {
          after = coming;
          goes = goes_nowhere coming;
          grows = subst (λ (m : Option ReceivedMessage). Grows Of peer id m x coming.told coming.told) (sym none) refl;
          stage = st.stage_x;
          later = stays_put st.stage_x;
          completes = λ done. inl done;
          meets = λ there. absurd (gone_absent z gone_z there);
          greets =
              datagrams_weaker SaysNothing (Greets own st.stage_x) (nothing_greets own st.stage_x) given says;
        } in
        met_by a (gone_leads id x z of_x of_z Meets stays gone call r replies)

    -- Talking

    talked_by : AreTalking own peer id st.stage_x st.stage_y x y of_x of_y out coming
        → CallGoes Talks id call r z of_x of_z
        → Acts
    talked_by t g =
        talked own peer id (is_poll call) x y z (message_given call r id) of_x of_y of_z g.given g.extends out coming st
        here sent_beside t g.goes

    talking_acts : IsPresent x → AreTalking own peer id st.stage_x st.stage_y x y of_x of_y out coming → Acts
    talking_acts present t =
        let s : StandsAt Of own peer id st.stage_x x out coming = t.at_x present in
        let Truly : Chunk → Type 0 = IsBroughtTruly Of own peer id st.stage_y out coming in
        let by : GoesByCalls id x (OfEachChunk Truly) Talks = record {
          same = same_talks Of own peer id st.stage_x x out coming s;
          failed = failed_talks Of own peer id st.stage_x x out coming s;
          quiet = quiet_talks Of own peer id st.stage_x x out coming s;
          read = read_talks Of own peer id st.stage_x x out coming s;
          packet =
              packets_talk Of own peer id st.stage_y st.stage_x x out coming st.kept_out t.one_x t.hears_x s;
          poll = polls_talk held those_listed Of own peer id st.stage_x x out coming present s;
          front = front_talks Of own peer id st.stage_x x out coming s;
        } in
        talked_by t
        (call_leads id x (OfEachChunk Truly) Talks by present z of_x of_z call r replies
        (brought_of (OfEachChunk Truly) of_y
        (λ number bytes is.
        both_brought Of (IsSaid peer own id st.stage_y coming out) (packet_in bytes)
        (of_one (IsSaid peer own id st.stage_y coming out) of_y number bytes is t.said_y)
        (brings_given of_y number bytes is)) call brought))

    gone_talking_acts : IsGone x → AreTalking own peer id st.stage_x st.stage_y x y of_x of_y out coming → Acts
    gone_talking_acts gone t =
        let gone_z : IsGone z = reply_gone call r x z of_x of_z replies gone in
        let stays : (polls : Bool) (message : Option ReceivedMessage) (given : List (List ℕ)) → message ≡ None
        → OfEachDatagram SaysNothing given → Talks polls message z given =
        λ polls message given none says. record {
          moves = moves_nothing Of own peer id polls x message z out coming none;
          stage = st.stage_x;
          later = stays_put st.stage_x;
          stands = λ few less there. absurd (gone_absent z gone_z there);
          said =
              greetings_are_said own peer id st.stage_x out coming given
              (datagrams_weaker SaysNothing (Greets own st.stage_x) (nothing_greets own st.stage_x) given says);
        } in
        talked_by t (gone_leads id x z of_x of_z Talks stays gone call r replies)

    -- What one side does
    acts_by : IsPresentOrGone x
        → AreMeeting own peer id st.stage_x st.stage_y x y of_x of_y out coming
        ⊎ AreTalking own peer id st.stage_x st.stage_y x y of_x of_y out coming → Acts
    acts_by (inl present) (inl a) = meeting_acts present a
    acts_by (inl present) (inr t) = talking_acts present t
    acts_by (inr gone) (inl a) = gone_meeting_acts gone a
    acts_by (inr gone) (inr t) = gone_talking_acts gone t

    pub side_acts : SideActs own peer id (is_poll call) x y (message_given call r id) z of_y of_z out coming
    side_acts = acts_by st.here_x st.between
