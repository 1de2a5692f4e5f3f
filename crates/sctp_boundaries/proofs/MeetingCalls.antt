-- What a side that meets its peer does, whatever is called: it sends nothing on streams, and goes on to follow what
-- comes or to await it.
use Rattle.std.proofs.Common.{◌≡◌, refl, sym, ap, ◌∙◌, subst, ◌⊎◌, inl, inr, ℕ, suc, ◌<◌, ◌^◌, Bool, true, false, eqb}
use Rattle.std.proofs.Common.{arith, if◌then◌else◌, length, List, [], ◌∷◌, ◌++◌, drop, take, Option, Some, None}
use Rattle.std.proofs.Common.{is_some}
use Rattle.std.specs.List.{AllByRecursion}
use Rattle.std.proofs.lemmas.Bool.{eqb-false, eqb-true, false≢true, true≢false}
use Rattle.std.proofs.lemmas.List.{take-append-drop}
use Rattle.sctp_wire_types.specs.declared.chunk.Chunk.{Chunk}
use Rattle.sctp_wire_types.specs.declared.chunk.Chunk.TheVariants as chunks
use Rattle.sctp_wire_types.specs.declared.chunk.ChunkPayloadData.{ChunkPayloadData}
use Rattle.sctp_wire_types.specs.declared.error.Error.TheVariants as errors
use Rattle.sctp_wire_types.specs.declared.ids.Side.TheVariants as sides
use Rattle.sctp_wire.specs.declared.packet.Packet.{Packet}
use Rattle.sctp_parts.specs.declared.state.AssociationState.TheVariants as states
use Rattle.sctp_parts.specs.State.{is_closing}
use Rattle.sctp_receive_queues.specs.Messages.{ReceivedMessage}
use Rattle.sctp_streams.specs.Stream.{StreamView}
use Rattle.sctp_streams.specs.Streams.{stream_at}
use Rattle.sctp_inbound.specs.declared.handshake.Handshake.{Handshake}
use Rattle.sctp_model.proofs.Lists.{all_front, all_weaker}
use Rattle.sctp_courses.specs.Course.{Course, Request, Told}
use Rattle.sctp_courses.specs.Invariants.{Invariant}
use Rattle.sctp_reset_fit.specs.Keeping.{GoesOn}
use Rattle.sctp_reset_fit.proofs.Keeping.{goes_nowhere}
use Rattle.sctp_directions.specs.Acts.{History}
use Rattle.sctp_assoc.specs.Calls.{exchanges_data, is_established, read_from_stream, read_refusal, read_refusal_at}
use Rattle.sctp_assoc.specs.Chunks.{after_packet}
use Rattle.sctp_assoc.specs.Gather.{polled, without_control}
use Rattle.sctp_assoc.specs.Happened.{PollsOn, acts_of_poll, forwards_of_poll}
use Rattle.sctp_assoc.specs.Leads.{Binds}
use Rattle.sctp_assoc.specs.Replies.{packet_in}
use Rattle.sctp_assoc.specs.Shown.{Shown}
use Rattle.sctp_assoc.proofs.CallsLeadOn.{packet_leads}
use Rattle.sctp_sides.specs.Meeting.{Greets, HasCome, IsDoneAmongClients, Stage, stage_of}
use Rattle.sctp_sides.specs.NoReset.{control_packets}
use Rattle.sctp_sides.specs.OneSide.{Call, call_refusal, carried_out}
use Rattle.sctp_sides.specs.SideLaws.{IsWaitingToGo, OfEachChunk}
use Rattle.sctp_sides.proofs.Proved.{polls_outside_an_exchange_give_what_waits, what_waits_goes_out_as_it_is}
use Rattle.sctp_sides.proofs.RunsListed.{works_unrefused}
use Rattle.sctp_course_sides.specs.Follows.{AwaitsIts, Follows}
use Rattle.sctp_course_sides.specs.Honest.{BringsHonest, IsHonest}
use Rattle.sctp_course_sides.specs.Meets.{FollowsOrAwaits, IsAtStage, Meets}
use Rattle.sctp_course_sides.specs.Sends.{Sends}
use Rattle.sctp_course_sides.specs.Turns.{Grows, IsPresent}
use Rattle.sctp_course_sides.proofs.Meeting.{early_call_begins_none, receives_on, receives_untouched, waiting_greets}
use Rattle.sctp_course_sides.proofs.MeetingChunks.{HasMet, packet_meets}
use Rattle.sctp_course_sides.proofs.ReceiverCalls.{BringsAndReadsNothing, keeps_call}
use Rattle.sctp_course_sides.proofs.ReceiverReads.{GoesOnReading, read_awaits, read_follows, read_keeps}
use Rattle.sctp_course_sides.proofs.SenderPackets.{packet_keeps_sending}
use Rattle.sctp_course_sides.proofs.SenderParts.{sends_by_asks}
use Rattle.sctp_course_sides.proofs.StageCalls.{call_keeps_the_stage, call_stays_at}
use Rattle.sctp_course_sides.proofs.StageChunks.{stays_put}
use Rattle.sctp_course_sides.proofs.TruthInCalls.{BringsNoPacket}
use Rattle.sctp_boundaries.specs.Between.{IsUnsent, OfEachDatagram}
use Rattle.sctp_boundaries.proofs.Calling.{IsOfApplication}
use Rattle.sctp_boundaries.proofs.CallsSend.{call_sends}
use Rattle.sctp_boundaries.proofs.Leading.{SideMeets}
use Rattle.sctp_boundaries.proofs.Staying.{datagrams_weaker}

-- A side that was never established exchanges no DATA, and no shutdown goes on.
record IsEarly (x : Shown) : Type 0 where
  pub unestablished : is_established x.state ≡ false
  pub silent : exchanges_data x.state ≡ false
  pub open_still : is_closing x.state ≡ false

early_by : (x : Shown) → x.handshake.completed ≡ false → HasCome x → IsEarly x
early_by x never (inl w) = record {
  unestablished = ap is_established w.state;
  silent = ap exchanges_data w.state;
  open_still = ap is_closing w.state;
}
early_by x never (inr (inl w)) = record {
  unestablished = ap is_established w.state;
  silent = ap exchanges_data w.state;
  open_still = ap is_closing w.state;
}
early_by x never (inr (inr (inl l))) = record {
  unestablished = ap is_established l.state;
  silent = ap exchanges_data l.state;
  open_still = ap is_closing l.state;
}
early_by x never (inr (inr (inr e))) = absurd (true≢false (sym e.completed ∙ never))

early : (own : ℕ) (s : Stage) (x : Shown) → IsAtStage own s x → s.completed ≡ false → IsEarly x
early own s x at never = early_by x (ap (λ (z : Stage). z.completed) at.stage ∙ never) at.come

-- a stream that a read is not refused on is live
live_of : (failed : Bool) (o : Option StreamView)
    → (if failed then Some errors.ErrAssociationFailed else read_refusal_at o) ≡ None → (t : StreamView) × (o ≡ Some t)
live_of true o e = absurd (true≢false (ap is_some e))
live_of false None e = absurd (true≢false (ap is_some e))
live_of false (Some t) e = (t, refl)

-- a message that was read
abbrev told_by : ℕ → List ℕ → Told
told_by generation offsets = record { generation = generation; offsets = offsets }

not_next : (k : ℕ) → k ≡ suc k → ⊥
not_next k e = omega arith

few_asked : (asked : List Request) → asked ≡ [] → length asked < 2 ^ 31
few_asked [] none = omega arith
few_asked (q ∷ qs) none = absurd (cc)

-- a chunk of a handshake says nothing of requests
greeting_is_honest : (own peer : ℕ) (t : Stage) (out : Course) (chunk : Chunk) → Greets peer t chunk
    → IsHonest own out chunk
greeting_is_honest own peer t out (chunks.Reconfig x) said = absurd said
greeting_is_honest own peer t out chunk said = (tt, tt)

greetings_are_honest : (own peer : ℕ) (t : Stage) (out : Course) (packet : Option Packet)
    → OfEachChunk (Greets peer t) packet → BringsHonest own out packet
greetings_are_honest own peer t out None all = tt
greetings_are_honest own peer t out (Some packet) all =
    all_weaker (Greets peer t) (IsHonest own out) packet.chunks (greeting_is_honest own peer t out) all

module _ (P : ChunkPayloadData → Type 0) (own peer id : ℕ) (t s : Stage) (x : Shown) (out coming : Course)
    (never : s.completed ≡ false) (m : Meets P own peer id s x out coming) where
  abbrev Meeting : Bool → Option ReceivedMessage → Shown → List (List ℕ) → Type 0
  Meeting polls message z given = SideMeets P own peer id t s x out coming polls message z given

  early_still : IsEarly x
  early_still = early own s x m.at never

  -- where nothing is read, and something gives out these
  rests : (polls : Bool) (z : Shown) (given : List (List ℕ)) → (IsPresent z → Meets P own peer id s z out coming)
      → OfEachDatagram (Greets own s) given → Meeting polls None z given
  rests polls z given meets greets = record {
    after = coming;
    goes = goes_nowhere coming;
    grows = refl;
    stage = s;
    later = stays_put s;
    completes = λ done. inl done;
    meets = meets;
    greets = greets;
  }

  pub same_meets : (polls : Bool) → Meeting polls None x []
  same_meets polls = rests polls x [] (λ present. m) tt

  pub failed_meets : (polls : Bool) (y : Shown) → y.failed ≡ true → Meeting polls None y []
  failed_meets polls y e = rests polls y [] (λ present. absurd (true≢false (sym e ∙ present.working))) tt

  -- A call that is carried out
  module _ (call : Call) (plain : IsOfApplication call) (apart : BringsNoPacket call)
      (accepted : call_refusal call x ≡ None)
    where
      abbrev left : Shown
      left = (carried_out call x).0

      meets_by : (message : Option ReceivedMessage) (after : Course) → GoesOn coming after
          → Grows P peer id message x coming.told after.told
          → (left.lost ≡ false → Binds left m.sent)
          → (left.lost ≡ false → FollowsOrAwaits P peer id left after)
          → Meeting false message left []
      meets_by message after goes grows binds receives = record {
        after = after;
        goes = goes;
        grows = grows;
        stage = s;
        later = stays_put s;
        completes = λ done. inl done;
        meets = λ present. record {
          at = call_stays_at own s call x apart accepted present.not_lost m.at;
          small = m.small;
          sent = m.sent;
          sent_binds = binds present.not_lost;
          sends = call_sends own id call x m.sent out plain accepted present.not_lost m.sends;
          receives = receives present.not_lost;
          no_reset = early_call_begins_none call x apart accepted early_still.unestablished m.no_reset;
        };
        greets = tt;
      }

      quietly : BringsAndReadsNothing call → Meeting false None left []
      quietly quiet = by left.lost refl
        where
          by : (lost : Bool) → left.lost ≡ lost → Meeting false None left []
          by true e =
              meets_by None coming (goes_nowhere coming) refl (λ f. absurd (true≢false (sym e ∙ f)))
              (λ f. absurd (true≢false (sym e ∙ f)))
          by false e =
              let keeps = keeps_call P peer id call x quiet accepted e in
              let on = receives_on P peer id x left coming keeps (call_keeps_the_stage call x apart accepted
              e).handshake
              m.receives in
              meets_by None on.0 on.1 on.2 (λ f. keeps.past m.sent m.sent_binds) (λ f. on.3)

  pub quiet_meets : (call : Call) → IsOfApplication call → BringsNoPacket call → BringsAndReadsNothing call
      → call_refusal call x ≡ None → Meeting false None (carried_out call x).0 []
  quiet_meets call plain apart quiet accepted = quietly call plain apart accepted quiet

  -- Reads

  past_of_read : (k : ℕ) → (read_from_stream x k).0.lost ≡ false → Binds (read_from_stream x k).0 m.sent
  past_of_read k lost = (read_keeps P peer (suc k) x k (inl (not_next k)) lost).past m.sent m.sent_binds

  -- what the handshake knew, it knows
  known_still : (k : ℕ) → read_refusal x k ≡ None → (read_from_stream x k).0.lost ≡ false
      → (read_from_stream x k).0.handshake ≡ x.handshake
  known_still k accepted lost = (call_keeps_the_stage (Call.Read k) x tt accepted lost).handshake

  silent_meets : (k : ℕ) → read_refusal x k ≡ None → (k ≡ id → ⊥) ⊎ ((read_from_stream x k).1 ≡ None)
      → Meeting false None (read_from_stream x k).0 []
  silent_meets k accepted none = by (read_from_stream x k).0.lost refl
    where
      by : (lost : Bool) → (read_from_stream x k).0.lost ≡ lost → Meeting false None (read_from_stream x k).0 []
      by true e =
          meets_by (Call.Read k) tt tt accepted None coming (goes_nowhere coming) refl
          (λ f. absurd (true≢false (sym e ∙ f))) (λ f. absurd (true≢false (sym e ∙ f)))
      by false e =
          let on = receives_on P peer id x (read_from_stream x k).0 coming (read_keeps P peer id x k none e)
          (known_still k accepted e) m.receives in
          meets_by (Call.Read k) tt tt accepted None on.0 on.1 on.2 (past_of_read k) (λ f. on.3)

  reading_by : (message : ReceivedMessage) → read_refusal x id ≡ None
      → GoesOnReading P peer id x message coming
      (λ d. (read_from_stream x id).0.lost ≡ false → FollowsOrAwaits P peer id (read_from_stream x id).0 d)
      → Meeting false (Some message) (read_from_stream x id).0 []
  reading_by message accepted on =
      let live = live_of x.failed (stream_at x.streams id) accepted in
      meets_by (Call.Read id) tt tt accepted (Some message) on.0 on.1
      (record {
        stream = live.0;
        live = live.1;
        offsets = on.2;
        made = on.3;
        is = on.6 ∙ ap (λ (n : ℕ). coming.told ++ told_by n on.2 ∷ []) (on.5 live.0 live.1);
      })
      (past_of_read id) on.7

  reading_meets : (message : ReceivedMessage) → read_refusal x id ≡ None → (read_from_stream x id).1 ≡ Some message
      → FollowsOrAwaits P peer id x coming → Meeting false (Some message) (read_from_stream x id).0 []
  reading_meets message accepted e (inl (known, h, f)) =
      let on = read_follows P peer id x h coming message accepted e f in
      reading_by message accepted (
        on.0,
        on.1,
        on.2,
        on.3,
        on.4,
        on.5,
        on.6,
        λ lost.
            (let k = on.7 lost in
            inl (ap (λ (z : Handshake). is_some z.peer_initial_tsn) (known_still id accepted lost) ∙ known, k.0, k.1)),
      )
  reading_meets message accepted e (inr (unknown, w)) =
      let on = read_awaits P peer id x coming message accepted e w in
      reading_by message accepted (
        on.0,
        on.1,
        on.2,
        on.3,
        on.4,
        on.5,
        on.6,
        λ lost.
            inr (
              ap (λ (z : Handshake). is_some z.peer_initial_tsn) (known_still id accepted lost) ∙ unknown,
              on.7
                  lost,
            ),
      )

  own_read_meets : (message : Option ReceivedMessage) → (read_from_stream x id).1 ≡ message → read_refusal x id ≡ None
      → Meeting false message (read_from_stream x id).0 []
  own_read_meets None e accepted = silent_meets id accepted (inr e)
  own_read_meets (Some message) e accepted = reading_meets message accepted e m.receives

  read_meets_if : (same : Bool) (k : ℕ) → eqb k id ≡ same → read_refusal x k ≡ None
      → Meeting false (if same then (read_from_stream x k).1 else None) (read_from_stream x k).0 []
  read_meets_if true k e accepted =
      subst
      (λ (i : ℕ). read_refusal x i ≡ None → Meeting false (read_from_stream x i).1 (read_from_stream x i).0 [])
      (sym (eqb-true k id e)) (λ own_one. own_read_meets (read_from_stream x id).1 refl own_one) accepted
  read_meets_if false k e accepted = silent_meets k accepted (inl (eqb-false k id e))

  pub read_meets : (k : ℕ) → read_refusal x k ≡ None
      → Meeting false (if eqb k id then (read_from_stream x k).1 else None) (read_from_stream x k).0 []
  read_meets k accepted = read_meets_if (eqb k id) k refl accepted

  -- Polls

  pub polls_meet : IsPresent x → (now : ℕ)
      → PollsOn (acts_of_poll x now) (forwards_of_poll x now) x (polled x now).0 (polled x now).1
      → Meeting true None (polled x now).0 (polled x now).1
  polls_meet present now on = by (polled x now).0.lost refl
    where
      whole : polled x now ≡ (without_control x, control_packets x.control)
      whole =
          polls_outside_an_exchange_give_what_waits x now m.no_reset early_still.silent early_still.open_still

      greets : OfEachDatagram (Greets own s) (polled x now).1
      greets =
          subst (OfEachDatagram (Greets own s)) (sym (ap (λ (z : Shown × List (List ℕ)). z.1) whole))
          (subst (λ (z : Stage). OfEachDatagram (Greets own z) (control_packets x.control)) m.at.stage
          (datagrams_weaker (IsWaitingToGo x) (Greets own (stage_of x)) (waiting_greets own x m.no_reset m.at.truthful)
          (control_packets x.control) (what_waits_goes_out_as_it_is x m.at.truthful.plain on.control_again)))

      accepted : call_refusal (Call.PollTransmit now) x ≡ None
      accepted = works_unrefused x.failed _ present.working

      sends : Sends own id (polled x now).0 m.sent out
      sends =
          subst (λ (z : Shown). Sends own id z m.sent out) (sym (ap (λ (z : Shown × List (List ℕ)). z.0) whole))
          (sends_by_asks own id out x (without_control x) m.sent refl (λ z. z) m.sends)

      by : (lost : Bool) → (polled x now).0.lost ≡ lost → Meeting true None (polled x now).0 (polled x now).1
      by true e =
          rests true (polled x now).0 (polled x now).1 (λ there. absurd (true≢false (sym e ∙ there.not_lost))) greets
      by false e =
          let call : Call = Call.PollTransmit now in
          let keeps = keeps_call P peer id call x tt accepted e in
          let on = receives_on P peer id x (polled x now).0 coming keeps
          (call_keeps_the_stage call x tt accepted e).handshake m.receives in
          record {
            after = on.0;
            goes = on.1;
            grows = on.2;
            stage = s;
            later = stays_put s;
            completes = λ done. inl done;
            meets = λ there. record {
              at = call_stays_at own s call x tt accepted e m.at;
              small = m.small;
              sent = m.sent;
              sent_binds = keeps.past m.sent m.sent_binds;
              sends = sends;
              receives = on.3;
              no_reset = early_call_begins_none call x tt accepted early_still.unestablished m.no_reset;
            };
            greets = greets;
          }

  pub front_meets : (y : Shown) (kept : ℕ) (given : List (List ℕ)) → Meeting true None y given
      → Meeting true None y (take kept given)
  front_meets y kept given l =
      let Is : List ℕ → Type 0 = λ (bytes : List ℕ). OfEachChunk (Greets own l.stage) (packet_in bytes) in
      record {
        after = l.after;
        goes = l.goes;
        grows = l.grows;
        stage = l.stage;
        later = l.later;
        completes = l.completes;
        meets = l.meets;
        greets =
            all_front Is (take kept given) (drop kept given)
            (subst (AllByRecursion Is) (sym (take-append-drop kept given)) l.greets);
      }

  -- Packets

  pub packets_meet : IsUnsent out → IsUnsent coming → Invariant out
      → (s.side ≡ sides.Client → t.side ≡ sides.Client → ⊥) → (packet : Option Packet) (now : ℕ)
      → OfEachChunk (Greets peer t) packet → Meeting false None (after_packet x packet now) []
  packets_meet unsent_out unsent kept no_clients packet now brings = by (after_packet x packet now).lost refl
    where
      one : IsDoneAmongClients s t
      one client other = absurd (no_clients client other)

      by : (lost : Bool) → (after_packet x packet now).lost ≡ lost → Meeting false None (after_packet x packet now) []
      by true e =
          rests false (after_packet x packet now) [] (λ there. absurd (true≢false (sym e ∙ there.not_lost))) tt
      by false e =
          let k : HasMet P own peer id t s coming (after_packet x packet now) =
          packet_meets P own peer id t s coming m.small
          (receives_untouched P peer id x coming m.receives unsent.0 unsent.1) one packet x now brings (record {
            goes = record { after = s; goes = stays_put s; completes = λ d. inl d; at = m.at };
            past = m.sent;
            binds = m.sent_binds;
            receives = m.receives;
            no_reset = m.no_reset;
          }) e in
          let l = packet_leads packet x now m.sent m.sent_binds in
          record {
            after = coming;
            goes = goes_nowhere coming;
            grows = refl;
            stage = k.goes.after;
            later = k.goes.goes;
            completes = k.goes.completes;
            meets = λ there. record {
              at = k.goes.at;
              small = m.small;
              sent = l.0;
              sent_binds = l.1.binds;
              sends =
                  packet_keeps_sending own id out kept (few_asked out.asked unsent_out.0) packet x now m.sent l.0
                  (greetings_are_honest own peer t out packet brings) m.sent_binds l.1 there.not_lost m.sends;
              receives = k.receives;
              no_reset = k.no_reset;
            };
            greets = tt;
          }
