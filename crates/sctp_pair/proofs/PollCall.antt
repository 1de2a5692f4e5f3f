-- A poll of one association for packets.
use Rattle.std.proofs.Common.{◌≡◌, ◌<◌, refl, sym, ap, ◌∙◌, subst, ◌⊎◌, ⊎_elim, inl, inr, ℕ, arith, Bool, true, false}
use Rattle.std.proofs.Common.{not, if◌then◌else◌, ◌&&◌, List, [], ◌∷◌, ◌++◌, length, take, drop, Option, Some, None}
use Rattle.std.specs.List.{AllByRecursion}
use Rattle.std.specs.Prelude.{◌==◌, ◌||◌}
use Rattle.std.proofs.lemmas.Bool.{and_parts, cases_Bool, eqb-true, false≢true, true≢false}
use Rattle.std.proofs.lemmas.List.{append-nil, nil_from_length, take-append-drop}
use Rattle.sctp_wire_types.specs.declared.chunk.Chunk.{Chunk}
use Rattle.sctp_wire_types.specs.declared.chunk.Chunk.TheVariants as chunks
use Rattle.sctp_wire.specs.declared.packet.Packet.{Packet}
use Rattle.sctp_parts.specs.declared.state.AssociationState.{AssociationState}
use Rattle.sctp_parts.specs.declared.state.AssociationState.TheVariants as states
use Rattle.sctp_parts.specs.State.{is_closing}
use Rattle.sctp_model.specs.Machine.{Direction, Event, happens}
use Rattle.sctp_model.specs.Safe.{IsWithin}
use Rattle.sctp_model.proofs.Lists.{all_front, all_get, all_join, all_weaker}
use Rattle.sctp_model.proofs.Proved.{each_event_keeps_the_invariant}
use Rattle.sctp_directions.specs.Acts.{Act, CanAll, History, Parts, all_data_given, done_all}
use Rattle.sctp_assoc.specs.Leads.{Binds, Leads, parts}
use Rattle.sctp_assoc.specs.Calls.{exchanges_data, is_beginning}
use Rattle.sctp_assoc.specs.Happened.{IsOfControl, IsOfShutdown, Polls, PollsOn, acts_of_exchange, acts_of_poll}
use Rattle.sctp_assoc.specs.Happened.{forwards_of_poll}
use Rattle.sctp_assoc.specs.declared.control.Control.TheVariants as controls
use Rattle.sctp_sides.specs.Meeting.{Greets, IsAsFarOn, IsTruthful, SaysWhatIsSo, Stage, WaitsTruthfully, stage_of}
use Rattle.sctp_assoc.specs.Gather.{AreControlReadAgain, control_polled, has_something_to_give, open_polled, polled}
use Rattle.sctp_assoc.specs.Gather.{without_control}
use Rattle.sctp_sides.specs.NoReset.{HasNoReset, control_packets}
use Rattle.sctp_sides.specs.PastSpan.{AsksPast, ResetsNoMore, ResetsPast, ResetsPastIfAny, ResetsPastOnly, WaitsPast}
use Rattle.sctp_sides.specs.SideLaws.{Closes, IsEnded, IsExchanged, IsGivenBy, IsPolling, IsWaitingToGo, KeepsTheStage}
use Rattle.sctp_sides.specs.SideLaws.{OfEachChunk, reports}
use Rattle.sctp_assoc.specs.Shown.{Shown}
use Rattle.sctp_assoc.specs.Shutdown.{all_acknowledged, awaits_answer, completes_shutdown}
use Rattle.sctp_assoc.specs.declared.shutdown.ShutdownDue.{ShutdownDue}
use Rattle.sctp_sides.specs.Ending.{IsInOrder, is_any_due}
use Rattle.sctp_sides.proofs.Proved.{acts_tied, closed_sides_exchange_nothing, done_append, established_sides_talk}
use Rattle.sctp_sides.proofs.Proved.{forwardings_are_silent, other_polls_do_nothing_in_front}
use Rattle.sctp_sides.proofs.Proved.{polls_complete_what_is_due, polls_end_last, polls_keep_the_stage}
use Rattle.sctp_sides.proofs.Proved.{polls_lead_on_in_front}
use Rattle.sctp_sides.proofs.Proved.{given_append, more_are_past, more_is_asked_past, no_reset_is_past_only}
use Rattle.sctp_sides.proofs.Proved.{polls_give_and_report, polls_reset_no_more}
use Rattle.sctp_sides.proofs.Proved.{polls_outside_an_exchange_give_what_waits, the_same_handshake_is_the_same_stage}
use Rattle.sctp_sides.proofs.Proved.{polls_say_their_acts, reports_are_silent, what_waits_goes_out_as_it_is}
use Rattle.sctp_pair.proofs.PiecesGiven.{IsGivenPiece}
use Rattle.sctp_pair.proofs.GrowingPlans.{same_plan}
use Rattle.sctp_serial.specs.Serial.{tsn}
use Rattle.sctp_outbound_queue.specs.Outbound.{Outbound, abandoned_in_front_of}
use Rattle.sctp_outbound.specs.declared.sender.Sender.{Sender}
use Rattle.sctp_outbound.specs.Forward.{forward_of}
use Rattle.sctp_outbound_queue.specs.declared.message.InFlight.{InFlight}
use Rattle.sctp_directions.specs.Said.{IsForwardMade, Says}
use Rattle.sctp_directions.proofs.Proved.{closed_receivers_are_not_open, receivers_events_are_received}
use Rattle.sctp_assoc.specs.declared.call.Reply.{Reply}
use Rattle.sctp_assoc.specs.declared.call.Reply.TheVariants as replies
use Rattle.sctp_pair.specs.Fits.{AreSaid, IsPieceIfData, IsSaidBy}
use Rattle.sctp_assoc.specs.Replies.{Fails, GivesOut, HadFailed, LosesSome, packet_in}
use Rattle.sctp_pair.proofs.SaidStaysSaid.{StageGoesOn, forward_stays_said, said_grows}
use Rattle.sctp_pair.proofs.BetweenDirections.{ClosedAt, Faces, Goes, Holds, None_brought, OpenAt, SettlesQuietly}
use Rattle.sctp_pair.proofs.BetweenDirections.{StandsAt, Surroundings, can_back, can_front, does_by_goes, goes_on}
use Rattle.sctp_pair.proofs.BetweenDirections.{moved}
use Rattle.sctp_pair.proofs.BetweenDirections.{goes_by_receiver, goes_nowhere, other_by_receiver, sound_after, spans_of}
use Rattle.sctp_pair.proofs.BetweenDirections.{spans_stay_put}
use Rattle.sctp_pair.proofs.ForwardsMade.{few_for_a_forward, new_data_says_the_same, with_queue}
use Rattle.sctp_pair.proofs.OutgoingData.{IsAllSent, all_new, all_new_stays, all_old, all_old_leaves_all_sent}
use Rattle.sctp_pair.proofs.OutgoingData.{forward_if, given_grows}
use Rattle.sctp_pair.proofs.QuietCalls.{by_working, closed_on, closed_stays, fails_settle, same_settles, still}
use Rattle.sctp_pair.proofs.HandshakeStages.{at_same, come_on, known_before, stays_put}
use Rattle.sctp_pair.proofs.NoReset.{without_control_none_begins}
use Rattle.sctp_pair.proofs.ComingData.{AfterComing, ReportsSaid, act_reported, coming_nowhere}

-- What a poll with these acts gives is what its directions have.

-- the association itself may say this chunk
abbrev SaysAt : Surroundings → Chunk → Type 0
SaysAt x c = IsSaidBy x.own x.peer x.here x.out x.coming c

-- these packets say what is so of its directions and of its handshake
abbrev SaidAt : Surroundings → List (List ℕ) → Type 0
SaidAt x packets = AreSaid x.own x.peer x.here x.out x.coming packets

-- The association gave out what these acts give of its direction; a report, where one is due, is of what came, and a
-- FORWARD TSN, where one is given, is one that was made.
module _ (x : Surroundings) (a b : Shown) (h : History) (acts : List Act) (forwards : Bool)
    (given : AllByRecursion (IsGivenPiece x.own x.out) (all_data_given acts (parts a h)))
    (made : reports a ≡ true → ReportsSaid x.peer h x.coming)
    (forwarded : forwards ≡ true → IsForwardMade x.own x.out (forward_of b.sender)) where
  exchanged_said : (c : Chunk) → IsExchanged acts forwards a b h c
      → Says x.own x.peer x.out x.coming c × IsPieceIfData x.own x.out c
  exchanged_said (chunks.Data piece) (k, e) =
      all_get (IsGivenPiece x.own x.out) (all_data_given acts (parts a h)) k piece e given
  exchanged_said (chunks.SelectiveAck sack) (due, says) = (made due sack says, tt)
  exchanged_said (chunks.ForwardTsn c) (e, is) =
      (subst (IsForwardMade x.own x.out) (sym is) (forwarded e), tt)
  exchanged_said c n = absurd n

-- what waits to go out is of a handshake, or resets streams past their span
greets_or_resets : (over : ℕ → Bool) (own : ℕ) (s : Stage) (c : Chunk) → SaysWhatIsSo own s c → ResetsPastIfAny over c
    → Greets own s c ⊎ ResetsPast over c
greets_or_resets over own s (chunks.Reconfig reconfig) says named = inr named
greets_or_resets over own s c says named = inl says

-- Of a side whose resets concern streams past their span alone, and such streams are past it in its own direction, too.
module _ (x : Surroundings) (a : Shown) (over : ℕ → Bool) (gone : (s : ℕ) → over s ≡ true → x.out.over s ≡ true) where
  -- a chunk that waited to go out says what is so
  waiting_said : stage_of a ≡ x.here → IsTruthful x.own a → AllByRecursion (WaitsPast over) a.control → (c : Chunk)
      → IsWaitingToGo a c → SaysAt x c
  waiting_said at t past c (k, w, e, is) =
      ⊎_elim
      (λ (greets : Greets x.own (stage_of a) w.chunk). inr (inl
      (subst (λ (z : Stage). Greets x.own z c) at (subst (Greets x.own (stage_of a)) is greets))))
      (λ (resets : ResetsPast over w.chunk). inr (inr
      (more_is_asked_past over x.out.over c gone (subst (ResetsPast over) is resets))))
      (greets_or_resets over x.own (stage_of a) w.chunk
      (all_get (WaitsTruthfully x.own (stage_of a)) a.control k (controls.Packet w) e t.says)
      (all_get (WaitsPast over) a.control k (controls.Packet w) e past))

  -- and so does a request to reset streams
  asked_said : (c : Chunk) → AsksPast over c → SaysAt x c
  asked_said c (request, is, named) =
      inr (inr (more_is_asked_past over x.out.over c gone (subst (ResetsPast over) (sym is) (named, tt))))

-- what each chunk of a packet is, where each is it
each_chunk : (Is Says : Chunk → Type 0) (packet : Option Packet) → ((c : Chunk) → Is c → Says c) → OfEachChunk Is packet
    → OfEachChunk Says packet
each_chunk Is Says None f said = tt
each_chunk Is Says (Some packet) f said = all_weaker Is Says packet.chunks f said

-- what each chunk of each packet is, where each is it
each_packet : (Is Says : Chunk → Type 0) (packets : List (List ℕ)) → ((c : Chunk) → Is c → Says c)
    → AllByRecursion (λ (bytes : List ℕ). OfEachChunk Is (packet_in bytes)) packets
    → AllByRecursion (λ (bytes : List ℕ). OfEachChunk Says (packet_in bytes)) packets
each_packet Is Says packets f said =
    all_weaker (λ (bytes : List ℕ). OfEachChunk Is (packet_in bytes))
    (λ (bytes : List ℕ). OfEachChunk Says (packet_in bytes)) packets
    (λ bytes all. each_chunk Is Says (packet_in bytes) f all) said

-- The report of a poll.

report_if : (due : Bool) (x : Surroundings) (p : Parts) → p.history.peer ≡ x.peer → IsWithin x.coming → Holds x p
    → (after : AfterComing x p None_brought) × (due ≡ true → ReportsSaid x.peer p.history after.coming2)
report_if false x p known within h = (coming_nowhere None_brought within h, λ due. absurd (false≢true due))
report_if true x p known within h =
    let report = act_reported None_brought h known within in (report.after, λ due. report.said)

report_does_nothing : (due : Bool) (p : Parts) → done_all (if due then Act.Reported ∷ [] else []) p ≡ p
report_does_nothing true p = refl
report_does_nothing false p = refl

-- FORWARD TSN leaves what the directions see, and goes out only where what is abandoned stands in front

forward_does_nothing : (forwards : Bool) (p : Parts) → done_all (if forwards then Act.Forwarded ∷ [] else []) p ≡ p
forward_does_nothing true p = refl
forward_does_nothing false p = refl

forward_could : (forwards : Bool) (p : Parts) → CanAll (if forwards then Act.Forwarded ∷ [] else []) p
    → forwards ≡ true → 0 < abandoned_in_front_of p.queue.in_flight
forward_could true p can e = can.0
forward_could false p can e = absurd (false≢true e)

-- An association polls: what it gives out is what its directions have then, or says what is so of its handshake.
pub record Polled (x : Surroundings) (b : Shown) (packets : List (List ℕ)) : Type 0 where
  pub settles : SettlesQuietly x b
  pub said : AreSaid x.own x.peer settles.here2 settles.out2 settles.coming2 packets

-- What a poll made of the directions in front of the chunk of a shutdown that goes out last, and what its packets say
-- of them. An offset is assigned past the handshake alone, and none where all was sent before.
record Gave (x : Surroundings) (a b : Shown) (h : History) (packets : List (List ℕ)) : Type 0 where
  out2 : Direction
  coming2 : Direction
  goes_out : Goes None_brought x.out out2
  goes_coming : Goes None_brought x.coming coming2
  within_coming : IsWithin coming2
  still : coming2.sender ≡ x.coming.sender
  holds : Holds (moved x out2 coming2) (parts b h)
  said : AreSaid x.own x.peer x.here out2 coming2 packets
  no_more : (is_beginning a.state ≡ false) ⊎ (out2.sender.plan.places ≡ x.out.sender.plan.places)
  all_sent : IsAllSent (parts a h) → out2 ≡ x.out

-- DATA is exchanged past the handshake alone
exchanging_is_past : (s : AssociationState) → exchanges_data s ≡ true → is_beginning s ≡ false
exchanging_is_past states.Closed e = absurd (false≢true e)
exchanging_is_past states.CookieWait e = absurd (false≢true e)
exchanging_is_past states.CookieEchoed e = absurd (false≢true e)
exchanging_is_past states.Established e = refl
exchanging_is_past states.ShutdownAckSent e = absurd (false≢true e)
exchanging_is_past states.ShutdownPending e = refl
exchanging_is_past states.ShutdownReceived e = refl
exchanging_is_past states.ShutdownSent e = refl

-- a state as far on as one past the handshake is past it, too
past_as_well : (s t : AssociationState) → IsAsFarOn s t → is_beginning s ≡ false → is_beginning t ≡ false
past_as_well s t (inl same) past = ap is_beginning same ∙ past
past_as_well s t (inr (before, later)) past = later

-- the chunks of a shutdown say nothing of the handshake
shutdowns_greet : (own : ℕ) (s : Stage) (c : Chunk) → IsOfShutdown c → Greets own s c
shutdowns_greet own s (chunks.Shutdown tsn) is = tt
shutdowns_greet own s chunks.ShutdownAck is = tt
shutdowns_greet own s chunks.ShutdownComplete is = tt
shutdowns_greet own s c is = absurd is

none_in_front : (n : ℕ) → n ≡ 0 → 0 < n → ⊥
none_in_front n e l = omega (arith, e, l)

-- where nothing is in flight no FORWARD TSN goes out
no_forward : (forwards : Bool) (p : Parts) → IsAllSent p
    → (forwards ≡ true → 0 < abandoned_in_front_of p.queue.in_flight) → forwards ≡ false
no_forward forwards p d could = ⊎_elim
    (λ (e : forwards ≡ true).
    absurd (none_in_front (abandoned_in_front_of p.queue.in_flight)
    (ap (λ (ps : List InFlight). abandoned_in_front_of ps) d.nothing_in_flight) (could e)))
    (λ (e : forwards ≡ false). e)
    (cases_Bool forwards)

-- What is said of a poll where what it exchanges is said: what waited, requests to reset streams, and the chunks of a
-- shutdown say what is so.
given_said : {x : Surroundings} {a : Shown} (f : Faces x a) (b : Shown) (out coming : Direction) (h : History)
    (acts : List Act) (forwards : Bool) → ((t : ℕ) → x.coming.over t ≡ true → out.over t ≡ true) → (s : OpenAt x a)
    → ((exchanges_data a.state ≡ true) → (c : Chunk) → IsExchanged acts forwards a b h c
    → Says x.own x.peer out coming c × IsPieceIfData x.own out c)
    → (c : Chunk) → IsGivenBy x.coming.over acts forwards a b h c → SaysAt (moved x out coming) c
given_said {x} {a} f b out coming h acts forwards gone s exchanged c (inl w) =
    waiting_said (moved x out coming) a x.coming.over gone (f.at s.working) s.truthful s.resets.control c w
given_said f b out coming h acts forwards gone s exchanged c (inr (inl (e, is))) = inl (exchanged e c is)
given_said {x} {a} f b out coming h acts forwards gone s exchanged c (inr (inr (inl asked))) =
    asked_said (moved x out coming) a x.coming.over gone c asked
given_said {x} f b out coming h acts forwards gone s exchanged c (inr (inr (inr is))) =
    inr (inl (shutdowns_greet x.own x.here c is))

-- A poll of an association gave these packets, and in front of the chunk of a shutdown that went out last left b.
module _ {x : Surroundings} {a b : Shown} {packets : List (List ℕ)} (f : Faces x a)
    (again : AreControlReadAgain a.control) (control : AllByRecursion (IsOfControl a) (control_polled a).1) where
  -- While DATA is exchanged it goes out, a report where it is due, FORWARD TSN where it is given, and what waits. The
  -- direction makes the FORWARD TSN before new DATA goes out, which says the same: only then few offsets are sure to be
  -- assigned.
  open_polls : (acts : List Act) (forwards : Bool) (s : OpenAt x a) → exchanges_data a.state ≡ true
      → IsPolling a forwards acts → Polls acts forwards a s.past b packets → Gave x a b s.past packets
  open_polls acts forwards s exchanging polling poll =
      let h : History = s.past in
      let p : Parts = parts a h in
      let os : List Act = polling.old in
      let ns : List Act = polling.new in
      let ks : List Act = if reports a then Act.Reported ∷ [] else [] in
      let fs : List Act = if forwards then Act.Forwarded ∷ [] else [] in
      let past : is_beginning a.state ≡ false = exchanging_is_past a.state exchanging in
      let known : h.peer ≡ x.peer = s.peer_is (established_sides_talk a past s.come).known in
      let before : Holds x p = record {
        own_is = s.own_is;
        sound_out = f.sound_out;
        sound_coming = f.sound_coming;
        between = s.between;
        in_order = s.in_order;
        reads_open = s.reads_open;
        other = f.other;
      } in
      let can : CanAll (os ++ ns ++ ks ++ fs) p = subst (λ zs. CanAll zs p) polling.are poll.leads.can in
      let can_three : CanAll (os ++ ns ++ ks) p = can_front (os ++ ns ++ ks) fs p can in
      let can_two : CanAll (os ++ ns) p = can_front (os ++ ns) ks p can_three in
      let can_old : CanAll os p = can_front os ns p can_two in
      let p1 : Parts = done_all os p in
      let p2 : Parts = done_all ns p1 in
      let two_is : done_all (os ++ ns) p ≡ p2 = done_append os ns p in
      let three_is : done_all (os ++ ns ++ ks) p ≡ p2 =
      done_append (os ++ ns) ks p ∙ ap (λ (z : Parts). done_all ks z) two_is ∙ report_does_nothing (reports a) p2 in
      let all_is : done_all (os ++ ns ++ ks ++ fs) p ≡ p2 =
      done_append (os ++ ns ++ ks) fs p ∙ ap (λ (z : Parts). done_all fs z) three_is
      ∙ forward_does_nothing forwards p2 in
      let there : parts b h ≡ p2 = poll.leads.there ∙ ap (λ zs. done_all zs p) polling.are ∙ all_is in
      let old = all_old os x p polling.old_are can_old before in
      let mid : Surroundings = record x { out = old.after.out2 } in
      let same = new_data_says_the_same ns p1 polling.new_are in
      let sender : Sender = with_queue p1.queue b.sender in
      let could : forwards ≡ true → 0 < abandoned_in_front_of p1.queue.in_flight =
      λ e. subst (λ (n : ℕ). 0 < n) same.front
      (forward_could forwards p2 (subst (CanAll fs) three_is (can_back (os ++ ns ++ ks) fs p can)) e) in
      let tied : p1.queue.first_tsn ≡ tsn p1.history.own p1.history.base = acts_tied os p can_old s.binds.first in
      let few =
      few_for_a_forward x.out old.after.out2 f.within_out old.room_is old.after.goes.reach_on in
      let made = forward_if forwards mid p1 sender could refl tied few old.after.holds in
      let mid2 : Surroundings = record x { out = made.out2 } in
      let can_new : CanAll ns p1 = can_back os ns p can_two in
      let new = all_new ns mid2 p1 polling.new_are can_new made.holds in
      let to_new : Goes None_brought old.after.out2 new.out2 =
      goes_on None_brought old.after.out2 made.out2 new.out2 made.goes new.goes in
      let goes : Goes None_brought x.out new.out2 =
      goes_on None_brought x.out old.after.out2 new.out2 old.after.goes to_new in
      let past_is : h ≡ p2.history = ap (λ (z : Parts). z.history) there in
      let out : Surroundings = record x { out = new.out2 } in
      let met = ap (λ (z : History). z.peer) (sym past_is) ∙ known in
      let report = report_if (reports a) out p2 met f.within_coming new.holds in
      let now : Surroundings = moved x new.out2 report.0.coming2 in
      let holds : Holds now (parts b h) = subst (Holds now) (sym there) report.0.holds in
      let given : AllByRecursion (IsGivenPiece x.own new.out2) (all_data_given os p ++ all_data_given ns p1) =
      all_join (IsGivenPiece x.own new.out2) (all_data_given os p) (all_data_given ns p1)
      (given_grows x.own old.after.out2 new.out2 (all_data_given os p) to_new old.after.said) new.said in
      let data_is : all_data_given acts p ≡ all_data_given os p ++ all_data_given ns p1 =
      ap (λ zs. all_data_given zs p) polling.are ∙ given_append (os ++ ns ++ ks) fs p
      ∙ ap (λ z. all_data_given (os ++ ns ++ ks) p ++ z) (forwardings_are_silent forwards (done_all (os ++ ns ++ ks) p))
      ∙ append-nil (all_data_given (os ++ ns ++ ks) p) ∙ given_append (os ++ ns) ks p
      ∙ ap (λ z. all_data_given (os ++ ns) p ++ z) (reports_are_silent (reports a) (done_all (os ++ ns) p))
      ∙ append-nil (all_data_given (os ++ ns) p) ∙ given_append os ns p in
      let queue_is : b.sender.queue ≡ p2.queue = ap (λ (z : Parts). z.queue) there in
      let chunk_is : forward_of b.sender ≡ forward_of sender =
      ap (λ (q : Outbound). forward_of (with_queue q b.sender)) queue_is ∙ same.chunk b.sender in
      let forwarded : forwards ≡ true → IsForwardMade x.own new.out2 (forward_of b.sender) =
      λ e. subst (IsForwardMade x.own new.out2) (sym chunk_is)
      (let m = made.said e in (
        m.0,
        m.1,
        new.goes.forwards m.0 m.1 m.2,
        forward_stays_said x.own (forward_of sender) m.1 (spans_of new.goes) m.3,
      )) in
      let gone : (t : ℕ) → x.coming.over t ≡ true → new.out2.over t ≡ true =
      λ t o. goes.same_spans t ∙ f.both t ∙ o in
      let exchanged = exchanged_said now a b h acts forwards
      (subst (λ z. AllByRecursion (IsGivenPiece x.own new.out2) z) (sym data_is) given)
      (λ due. subst (λ (z : History). ReportsSaid x.peer z report.0.coming2) (sym past_is) (report.1 due)) forwarded in
      record {
        out2 = new.out2;
        coming2 = report.0.coming2;
        goes_out = goes;
        goes_coming = report.0.goes;
        within_coming = report.0.within;
        still = report.0.still;
        holds = holds;
        said = each_packet (IsGivenBy x.coming.over acts forwards a b h) (SaysAt now) packets
            (given_said f b new.out2 report.0.coming2 h acts forwards gone s (λ e c is. exchanged c is))
            (polls_say_their_acts x.coming.over acts forwards a b h packets s.resets.resets s.truthful.plain again
            control s.binds poll);
        no_more = inl past;
        all_sent =
            λ d. (let left = all_old_leaves_all_sent os p polling.old_are can_old d in
            all_new_stays ns mid2 p1 polling.new_are can_new made.holds left
            ∙ made.still (no_forward forwards p1 left could) ∙ old.still d);
      }

  -- In any other state what waits goes out, requests to reset streams among it, and nothing else happens.
  quiet_polls : (acts : List Act) (forwards : Bool) (s : OpenAt x a) → acts ≡ [] → exchanges_data a.state ≡ false
      → Polls acts forwards a s.past b packets → Gave x a b s.past packets
  quiet_polls acts forwards s none outside poll =
      let h : History = s.past in
      let leads : Leads [] a h b h = subst (λ (zs : List Act). Leads zs a h b h) none poll.leads in
      let before : Holds x (parts a h) = record {
        own_is = s.own_is;
        sound_out = f.sound_out;
        sound_coming = f.sound_coming;
        between = s.between;
        in_order = s.in_order;
        reads_open = s.reads_open;
        other = f.other;
      } in
      record {
        out2 = x.out;
        coming2 = x.coming;
        goes_out = goes_nowhere None_brought x.out;
        goes_coming = goes_nowhere None_brought x.coming;
        within_coming = f.within_coming;
        still = refl;
        holds = subst (Holds x) (sym leads.there) before;
        said = each_packet (IsGivenBy x.coming.over acts forwards a b h) (SaysAt x) packets
            (given_said f b x.out x.coming h acts forwards (λ t o. f.both t ∙ o) s
            (λ e c is. absurd (false≢true (sym outside ∙ e))))
            (polls_say_their_acts x.coming.over acts forwards a b h packets s.resets.resets s.truthful.plain again
            control s.binds poll);
        no_more = inr refl;
        all_sent = λ d. refl;
      }

  -- either way
  polls_give : (now : ℕ) (s : OpenAt x a)
      → Polls (acts_of_exchange a now) (forwards_of_poll a now) a s.past b packets → Gave x a b s.past packets
  polls_give now s poll = ⊎_elim
      (λ (exchanging : exchanges_data a.state ≡ true).
      open_polls (acts_of_exchange a now) (forwards_of_poll a now) s exchanging (polls_give_and_report a now exchanging)
      poll)
      (λ (outside : exchanges_data a.state ≡ false).
      quiet_polls (acts_of_exchange a now) (forwards_of_poll a now) s (other_polls_do_nothing_in_front a now outside)
      outside poll)
      (cases_Bool (exchanges_data a.state))

-- A poll that closes nothing: the association stands open still.
stays_open : {x : Surroundings} {a b : Shown} {packets : List (List ℕ)} → Faces x a → KeepsTheStage a b
    → ResetsNoMore a b → (s : OpenAt x a) → Binds b s.past → Gave x a b s.past packets → Polled x b packets
stays_open {x} {a} {b} f same keeps s binds gave =
    let now : Surroundings = moved x gave.out2 gave.coming2 in
    let stands : OpenAt now b = record {
      past = s.past;
      own_is = s.own_is;
      peer_is = λ k. s.peer_is (known_before a b same k);
      binds = binds;
      working = same.failed ∙ s.working;
      come = come_on a b same s.come;
      present = same.lost ∙ s.present;
      truthful = same.truthful x.own s.truthful;
      size = gave.goes_out.size ∙ s.size ∙ sym same.size;
      between = gave.holds.between;
      in_order = gave.holds.in_order;
      reads_open = gave.holds.reads_open;
      resets =
          more_are_past x.coming.over gave.coming2.over b (λ t o. gave.goes_coming.same_spans t ∙ o)
          (keeps x.coming.over s.resets);
    } in
    record {
      settles = record {
        out2 = gave.out2;
        coming2 = gave.coming2;
        here2 = x.here;
        does_out = does_by_goes None_brought x.out gave.out2 gave.goes_out;
        does_coming = does_by_goes None_brought x.coming gave.coming2 gave.goes_coming;
        sound_out = gave.holds.sound_out;
        sound_coming = gave.holds.sound_coming;
        both = λ t. gave.goes_out.same_spans t ∙ f.both t ∙ sym (gave.goes_coming.same_spans t);
        stands = inl stands;
        other = gave.holds.other;
        goes = stays_put x.here;
        at = at_same a b x.here same f.at;
        meets = f.meets;
        no_more = ⊎_elim
            (λ (past : is_beginning a.state ≡ false). inl (past_as_well a.state b.state same.state past, stands))
            (λ (places : gave.out2.sender.plan.places ≡ x.out.sender.plan.places). inr places)
            gave.no_more;
        coming_still = gave.still;
      };
      said = gave.said;
    }

-- A poll that gives SHUTDOWN COMPLETE, behind what left m, closes as a fault does: its receiver closes. All was sent
-- before it.
closes_last : {x : Surroundings} {a m b : Shown} {packets : List (List ℕ)} → Faces x a → KeepsTheStage a m → Closes m b
    → IsEnded b → HasNoReset b → (s : OpenAt x a) → IsAllSent (parts a s.past) → Gave x a m s.past packets
    → Polled x b packets
closes_last {x} {a} {m} {b} {packets} f front closes ended none s all gave =
    let coming3 : Direction = happens gave.coming2 Event.Close in
    let received = receivers_events_are_received gave.coming2 Event.Close tt in
    let closing : Goes None_brought gave.coming2 coming3 =
    goes_by_receiver None_brought gave.coming2 Event.Close tt (λ n. n) (λ o n. n) (λ o n. n) in
    let goes : Goes None_brought x.coming coming3 =
    goes_on None_brought x.coming gave.coming2 coming3 gave.goes_coming closing in
    let on : StageGoesOn x.here x.here gave.out2 gave.coming2 gave.out2 coming3 = record {
      goes = stays_put x.here;
      datas = λ k d e. e;
      forwards = λ k g e. e;
      sacks = received.sacks;
      spans = spans_stay_put gave.out2;
      plan = same_plan gave.out2.sender.plan;
    } in
    record {
      settles = record {
        out2 = gave.out2;
        coming2 = coming3;
        here2 = x.here;
        does_out = does_by_goes None_brought x.out gave.out2 gave.goes_out;
        does_coming = does_by_goes None_brought x.coming coming3 goes;
        sound_out = gave.holds.sound_out;
        sound_coming =
            sound_after Event.Close
            (each_event_keeps_the_invariant gave.coming2 Event.Close gave.within_coming
            gave.holds.sound_coming.invariant)
            gave.holds.sound_coming;
        both = λ t. gave.goes_out.same_spans t ∙ f.both t ∙ sym (goes.same_spans t);
        stands = inr (inl record {
          closed = ended.closed;
          unestablished = ended.unestablished;
          lost = ended.lost;
          stopped = closed_receivers_are_not_open gave.coming2;
          nothing_left = ended.holds_nothing;
          truthful = closes.truthful x.own (front.truthful x.own s.truthful);
          no_reset = none;
        });
        other = other_by_receiver (moved x gave.out2 gave.coming2) Event.Close tt gave.holds.other;
        goes = stays_put x.here;
        at = λ working. (the_same_handshake_is_the_same_stage m b closes.side closes.handshake).0
            ∙ at_same a m x.here front f.at (sym closes.failed ∙ working);
        meets = f.meets;
        no_more = inr (ap (λ (w : Direction). w.sender.plan.places) (gave.all_sent all));
        coming_still = received.sender ∙ gave.still;
      };
      said = said_grows x.own x.peer on packets gave.said;
    }

-- A closed association, in which no reset is under way, gives what waits, too.
silent_polls : {x : Surroundings} {a b : Shown} {packets : List (List ℕ)} (now : ℕ) → Faces x a → KeepsTheStage a b
    → AreControlReadAgain a.control → a.failed ≡ false → polled a now ≡ (b, packets) → ClosedAt x a → Polled x b packets
unfolding still
silent_polls {x} {a} {b} {packets} now f same again working e s =
    let nothing = closed_sides_exchange_nothing a s.closed in
    let plainly = polls_outside_an_exchange_give_what_waits a now s.no_reset nothing.0 nothing.1 in
    let gives : (without_control a, control_packets a.control) ≡ (b, packets) = sym plainly ∙ e in
    let left : without_control a ≡ b = ap (λ (z : Shown × List (List ℕ)). z.0) gives in
    let stays : KeepsTheStage a (without_control a) = subst (KeepsTheStage a) (sym left) same in
    let there : StandsAt x b =
    subst (StandsAt x) left
    (inr (inl (closed_on stays (without_control_none_begins a s.no_reset) s.nothing_left s))) in
    let waits = (no_reset_is_past_only x.out.over a s.no_reset).control in
    let waited : SaidAt x (control_packets a.control) =
    each_packet (IsWaitingToGo a) (SaysAt x) (control_packets a.control)
    (waiting_said x a x.out.over (λ t o. o) (f.at working) s.truthful waits)
    (what_waits_goes_out_as_it_is a s.truthful.plain again) in
    record {
      settles = still f (at_same a b x.here same f.at) there;
      said = subst (SaidAt x) (ap (λ (z : Shown × List (List ℕ)). z.1) gives) waited;
    }

-- in a state that is none of a shutdown's SHUTDOWN COMPLETE does not go out
completes_none : (a : Shown) → is_closing a.state ≡ false → completes_shutdown a ≡ false
completes_none a e =
    ap (λ (c : Bool). c && not a.shutdown_due.shutdown && not a.shutdown_due.shutdown_ack
    && a.shutdown_due.shutdown_complete) e

-- both tests of a pair of them
pub all_sent_is : (a : Shown) (h : History) → all_acknowledged a ≡ true → IsAllSent (parts a h)
all_sent_is a h e =
    let both = and_parts (length a.sender.queue.pending == 0) (length a.sender.queue.in_flight == 0) e in
    record {
      nothing_waits = nil_from_length a.sender.queue.pending (eqb-true (length a.sender.queue.pending) 0 both.0);
      nothing_in_flight =
          nil_from_length a.sender.queue.in_flight (eqb-true (length a.sender.queue.in_flight) 0 both.1);
    }

third_of : (x y z : Bool) → z ≡ true → (x || y || z) ≡ true
third_of true y z e = refl
third_of false true z e = refl
third_of false false z e = e

pub complete_is_due : (due : ShutdownDue) → due.shutdown_complete ≡ true → is_any_due due ≡ true
complete_is_due due e = third_of due.shutdown due.shutdown_ack due.shutdown_complete e

-- what a poll does where it gives no SHUTDOWN COMPLETE
without_an_end : (a : Shown) (now : ℕ) → completes_shutdown (open_polled a now).0 ≡ false
    → acts_of_poll a now ≡ acts_of_exchange a now
without_an_end a now e =
    polls_end_last a now ∙ ap (λ (c : Bool). acts_of_exchange a now ++ (if c then Act.Ended ∷ [] else [])) e
    ∙ append-nil (acts_of_exchange a now)

-- Any association that didn't fail before polls, and is b then.
module _ {x : Surroundings} {a : Shown} (b : Shown) (now : ℕ) (packets : List (List ℕ)) (working : a.failed ≡ false)
    (e : polled a now ≡ (b, packets)) (polls : PollsOn (acts_of_poll a now) (forwards_of_poll a now) a b packets)
    (f : Faces x a) where
  abbrev front : Shown
  front = (open_polled a now).0

  left : (polled a now).0 ≡ b
  left = ap (λ (z : Shown × List (List ℕ)). z.0) e

  -- no SHUTDOWN COMPLETE goes out
  goes_without : completes_shutdown front ≡ false → KeepsTheStage a b
  goes_without goes = subst (KeepsTheStage a) left ((polls_keep_the_stage a now).same goes)

  open_stays : OpenAt x a → completes_shutdown front ≡ false → Polled x b packets
  open_stays s goes =
      let poll = polls.from s.past s.binds in
      let exchange : Polls (acts_of_exchange a now) (forwards_of_poll a now) a s.past b packets =
      subst (λ (zs : List Act). Polls zs (forwards_of_poll a now) a s.past b packets) (without_an_end a now goes)
      poll in
      stays_open f (goes_without goes)
      (λ over h. subst (ResetsPastOnly over) left (polls_reset_no_more a now over h)) s poll.leads.binds
      (polls_give f polls.control_again polls.control_said now s exchange)

  -- it goes out, and closes
  open_ends : OpenAt x a → completes_shutdown front ≡ true → Polled x b packets
  open_ends s ends =
      let on = polls_keep_the_stage a now in
      let before : IsInOrder a = ⊎_elim
      (λ (o : IsInOrder a). o)
      (λ (l : a.lost ≡ true). absurd (true≢false (sym l ∙ s.present)))
      (f.ends s.working) in
      let awaits : awaits_answer a.state ≡ true =
      before.order.asked (complete_is_due a.shutdown_due (polls_complete_what_is_due a now ends)) in
      let closes : Closes front b = subst (Closes front) left (on.closes ends) in
      let in_front = polls_lead_on_in_front a b now packets e polls in
      closes_last f on.front closes (closes.ends (on.was_open ends)) (subst HasNoReset left (on.no_reset ends)) s
      (all_sent_is a s.past (before.order.behind_data awaits))
      (polls_give f in_front.control_again in_front.control_said now s (in_front.from s.past s.binds))

  -- a closed association gives none
  closed_polls : ClosedAt x a → Polled x b packets
  closed_polls s =
      let state = closed_stays a.state front.state (polls_keep_the_stage a now).front.state s.closed in
      let goes = completes_none front (ap is_closing state ∙ (closed_sides_exchange_nothing a s.closed).1) in
      silent_polls now f (goes_without goes) polls.control_again working e s

  any_polls : Polled x b packets
  any_polls =
      by_working (Polled x b packets) working f
      (λ s. ⊎_elim (open_ends s) (open_stays s) (cases_Bool (completes_shutdown front)))
      closed_polls

-- of packets that are said the first ones are
first_said : (Says : Chunk → Type 0) (n : ℕ) (packets : List (List ℕ))
    → AllByRecursion (λ (bytes : List ℕ). OfEachChunk Says (packet_in bytes)) packets
    → AllByRecursion (λ (bytes : List ℕ). OfEachChunk Says (packet_in bytes)) (take n packets)
first_said Says n packets said =
    all_front (λ (bytes : List ℕ). OfEachChunk Says (packet_in bytes)) (take n packets) (drop n packets)
    (subst (AllByRecursion (λ (bytes : List ℕ). OfEachChunk Says (packet_in bytes)))
    (sym (take-append-drop n packets)) said)

pair_is : (x : Shown × List (List ℕ)) (b : Shown) → x.0 ≡ b → x ≡ (b, x.1)
pair_is (a, packets) b e = ap (λ (z : Shown). (z, packets)) e

-- A poll settles, and the packets that it gave out say what its directions have.
abbrev pub PollSettles : Surroundings → Shown → List (List ℕ) → List (List ℕ) → Type 0
PollSettles x b packets more =
    (s : SettlesQuietly x b) × (given : List (List ℕ)) × (more ≡ packets ++ given)
    × AreSaid x.own x.peer s.here2 s.out2 s.coming2 given

gives_nothing : {x : Surroundings} {b : Shown} (packets more : List (List ℕ)) → SettlesQuietly x b → more ≡ packets
    → PollSettles x b packets more
gives_nothing packets more s e = (s, [], e ∙ sym (append-nil packets), tt)

-- An association polls and is b then; what its side gave out before, and has given out then, are these packets.
module _ {x : Surroundings} {a : Shown} (b : Shown) (now : ℕ) (packets more : List (List ℕ)) (f : Faces x a) where
  refused_polls : (n : ℕ)
      → (HadFailed a n b × (more ≡ packets))
      ⊎ (((has_something_to_give a now ≡ true) × Fails a n b × (more ≡ packets)) ⊎ LosesSome a packets now n b more)
      → PollSettles x b packets more
  refused_polls n (inl (had, e)) = gives_nothing packets more (same_settles had.2 f) e
  refused_polls n (inr (inl (gives, fails, e))) = gives_nothing packets more (fails_settle fails.2.marked f) e
  refused_polls n (inr (inr (working, number, is, polls, (kept, fewer, e)))) =
      let all : List (List ℕ) = (polled a now).1 in
      let poll = any_polls b now all working (pair_is (polled a now) b is) polls f in
      let s = poll.settles in
      (s, take kept all, e, first_said (IsSaidBy x.own x.peer s.here2 s.out2 s.coming2) kept all poll.said)

  pub poll_settles : (r : Reply) → GivesOut a packets now r b more → PollSettles x b packets more
  poll_settles replies.NothingSent (working, is, polls, e) =
      let poll = any_polls b now [] working is polls f in gives_nothing packets more poll.settles e
  poll_settles (replies.Sent first count) (working, some, first_is, count_is, is, polls, e) =
      let poll = any_polls b now (polled a now).1 working (pair_is (polled a now) b is) polls f in
      (poll.settles, (polled a now).1, e, poll.said)
  poll_settles (replies.Refused n) h = refused_polls n h
  poll_settles r h = absurd h
