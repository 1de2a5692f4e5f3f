-- What a call of a side that talks does to the courses of a stream: that it sends by the one, follows the other, and
-- answers truly stays so.
use Rattle.std.proofs.Common.{◌≡◌, refl, sym, ap, ◌∙◌, subst, ◌⊎◌, inl, inr, ℕ, suc, Bool, true, false, eqb, arith}
use Rattle.std.proofs.Common.{if◌then◌else◌, List, [], ◌∷◌, ◌++◌, drop, take, Option, Some, None, is_some}
use Rattle.std.specs.List.{AllByRecursion}
use Rattle.std.proofs.lemmas.Bool.{eqb-false, eqb-true, true≢false}
use Rattle.std.proofs.lemmas.List.{take-append-drop}
use Rattle.sctp_wire_types.specs.declared.chunk.ChunkPayloadData.{ChunkPayloadData}
use Rattle.sctp_wire_types.specs.declared.error.Error.TheVariants as errors
use Rattle.sctp_receive_queues.specs.Messages.{ReceivedMessage}
use Rattle.sctp_streams.specs.Stream.{StreamView}
use Rattle.sctp_streams.specs.Streams.{stream_at}
use Rattle.sctp_model.proofs.Lists.{all_front}
use Rattle.sctp_courses.specs.Course.{Course, Told}
use Rattle.sctp_reset_fit.specs.Keeping.{GoesOn}
use Rattle.sctp_reset_fit.proofs.Keeping.{goes_nowhere}
use Rattle.sctp_directions.specs.Acts.{History}
use Rattle.sctp_assoc.specs.Calls.{read_from_stream, read_refusal, read_refusal_at}
use Rattle.sctp_assoc.specs.Leads.{Binds}
use Rattle.sctp_assoc.specs.Replies.{packet_in}
use Rattle.sctp_assoc.specs.Shown.{Shown}
use Rattle.sctp_sides.specs.Meeting.{Stage}
use Rattle.sctp_sides.specs.OneSide.{Call, call_refusal, carried_out}
use Rattle.sctp_sides.specs.SideLaws.{OfEachChunk}
use Rattle.sctp_course_sides.specs.Follows.{Follows}
use Rattle.sctp_course_sides.specs.Turns.{Grows}
use Rattle.sctp_course_sides.proofs.BesideInCalls.{call_stays_beside}
use Rattle.sctp_course_sides.proofs.ReceiverCalls.{BringsAndReadsNothing, call_follows, keeps_call}
use Rattle.sctp_course_sides.proofs.ReceiverReads.{read_follows, read_keeps, silent_read_follows}
use Rattle.sctp_course_sides.proofs.SentOn.{sends_nothing}
use Rattle.sctp_course_sides.proofs.StageCalls.{call_stays_at}
use Rattle.sctp_course_sides.proofs.StageChunks.{stays_put}
use Rattle.sctp_course_sides.proofs.TruthInCalls.{BringsNoPacket, call_answers}
use Rattle.sctp_boundaries.specs.Between.{IsSaid, OfEachDatagram, StandsAt}
use Rattle.sctp_boundaries.proofs.Calling.{IsOfApplication}
use Rattle.sctp_boundaries.proofs.CallsSend.{call_sends}
use Rattle.sctp_boundaries.proofs.Leading.{SideTalks}
use Rattle.sctp_boundaries.proofs.Led.{grows_none, moves_nothing}
use Rattle.sctp_boundaries.proofs.Staying.{answers_still}

-- a stream that a read is not refused on is live
live_of : (failed : Bool) (o : Option StreamView)
    → (if failed then Some errors.ErrAssociationFailed else read_refusal_at o) ≡ None → (t : StreamView) × (o ≡ Some t)
live_of true o e = absurd (true≢false (ap is_some e))
live_of false None e = absurd (true≢false (ap is_some e))
live_of false (Some t) e = (t, refl)

-- a message that was read
abbrev told_by : ℕ → List ℕ → Told
told_by generation offsets = record { generation = generation; offsets = offsets }

not_next : (k : ℕ) → k ≡ suc k → ⊥
not_next k e = omega arith

module _ (P : ChunkPayloadData → Type 0) (own peer id : ℕ) (s : Stage) (x : Shown) (out coming : Course)
    (st : StandsAt P own peer id s x out coming) where
  abbrev Talks : Bool → Option ReceivedMessage → Shown → List (List ℕ) → Type 0
  Talks polls message z given = SideTalks P own peer id s x out coming polls message z given

  -- A call that is refused, or fails for want of memory

  -- nothing changed
  pub same_talks : (polls : Bool) → Talks polls None x []
  same_talks polls = record {
    moves = moves_nothing P own peer id polls x None x out coming refl;
    stage = s;
    later = stays_put s;
    stands = λ few less present. st;
    said = tt;
  }

  -- it failed
  pub failed_talks : (polls : Bool) (y : Shown) → y.failed ≡ true → Talks polls None y []
  failed_talks polls y e = record {
    moves = moves_nothing P own peer id polls x None y out coming refl;
    stage = s;
    later = stays_put s;
    stands = λ few less present. absurd (true≢false (sym e ∙ present.working));
    said = tt;
  }

  -- A call that is carried out
  module _ (call : Call) (plain : IsOfApplication call) (apart : BringsNoPacket call)
      (accepted : call_refusal call x ≡ None)
    where
      abbrev left : Shown
      left = (carried_out call x).0

      -- where the course that it receives goes on so, and the side follows that then
      talks_by : (message : Option ReceivedMessage) (after : Course) → GoesOn coming after
          → Grows P peer id message x coming.told after.told
          → (left.lost ≡ false → Binds left st.sent)
          → (left.lost ≡ false → (h : History) × Follows P peer id left h after)
          → Talks false message left []
      talks_by message after goes grows binds follows = record {
        moves = record {
          out_after = out;
          coming_after = after;
          sends = sends_nothing out;
          seen = grows_none false x left out out refl refl;
          goes = goes;
          grows = grows;
        };
        stage = s;
        later = stays_put s;
        stands = λ few less present. (let f = follows present.not_lost in record {
          at = call_stays_at own s call x apart accepted present.not_lost st.at;
          sent = st.sent;
          sent_binds = binds present.not_lost;
          sends = call_sends own id call x st.sent out plain accepted present.not_lost st.sends;
          came = f.0;
          follows = f.1;
          answers =
              answers_still peer left coming after goes
              (call_answers peer call x coming apart st.follows.stands.numbered st.answers);
          beside = call_stays_beside call x apart st.beside;
        });
        said = tt;
      }

      -- where nothing is read
      quietly : BringsAndReadsNothing call → Talks false None left []
      quietly quiet = by left.lost refl
        where
          by : (lost : Bool) → left.lost ≡ lost → Talks false None left []
          by true e =
              talks_by None coming (goes_nowhere coming) refl (λ f. absurd (true≢false (sym e ∙ f)))
              (λ f. absurd (true≢false (sym e ∙ f)))
          by false e =
              let on = call_follows P peer id call x st.came coming quiet accepted e st.follows in
              talks_by None on.0 on.1 on.2
              (λ f. (keeps_call P peer id call x quiet accepted e).past st.sent st.sent_binds)
              (λ f. on.3)

  pub quiet_talks : (call : Call) → IsOfApplication call → BringsNoPacket call → BringsAndReadsNothing call
      → call_refusal call x ≡ None → Talks false None (carried_out call x).0 []
  quiet_talks call plain apart quiet accepted = quietly call plain apart accepted quiet

  -- Reads

  -- a read leaves what is past, whatever it reads
  past_of_read : (k : ℕ) → (read_from_stream x k).0.lost ≡ false → Binds (read_from_stream x k).0 st.sent
  past_of_read k lost = (read_keeps P peer (suc k) x k (inl (not_next k)) lost).past st.sent st.sent_binds

  -- nothing of this stream is read
  silent_talks : (k : ℕ) → read_refusal x k ≡ None → (k ≡ id → ⊥) ⊎ ((read_from_stream x k).1 ≡ None)
      → Talks false None (read_from_stream x k).0 []
  silent_talks k accepted none =
      let on = silent_read_follows P peer id x k st.came coming none st.follows in
      talks_by (Call.Read k) tt tt accepted None on.0 on.1 on.2 (past_of_read k) on.3

  -- a message is
  reading_talks : (message : ReceivedMessage) → read_refusal x id ≡ None → (read_from_stream x id).1 ≡ Some message
      → Talks false (Some message) (read_from_stream x id).0 []
  reading_talks message accepted e =
      let live = live_of x.failed (stream_at x.streams id) accepted in
      let on = read_follows P peer id x st.came coming message accepted e st.follows in
      talks_by (Call.Read id) tt tt accepted (Some message) on.0 on.1
      (record {
        stream = live.0;
        live = live.1;
        offsets = on.2;
        made = on.3;
        is = on.6 ∙ ap (λ (n : ℕ). coming.told ++ told_by n on.2 ∷ []) (on.5 live.0 live.1);
      })
      (past_of_read id) on.7

  own_read_talks : (m : Option ReceivedMessage) → (read_from_stream x id).1 ≡ m → read_refusal x id ≡ None
      → Talks false m (read_from_stream x id).0 []
  own_read_talks None e accepted = silent_talks id accepted (inr e)
  own_read_talks (Some message) e accepted = reading_talks message accepted e

  read_talks_if : (same : Bool) (k : ℕ) → eqb k id ≡ same → read_refusal x k ≡ None
      → Talks false (if same then (read_from_stream x k).1 else None) (read_from_stream x k).0 []
  read_talks_if true k e accepted =
      subst
      (λ (i : ℕ). read_refusal x i ≡ None → Talks false (read_from_stream x i).1 (read_from_stream x i).0 [])
      (sym (eqb-true k id e)) (λ own_one. own_read_talks (read_from_stream x id).1 refl own_one) accepted
  read_talks_if false k e accepted = silent_talks k accepted (inl (eqb-false k id e))

  pub read_talks : (k : ℕ) → read_refusal x k ≡ None
      → Talks false (if eqb k id then (read_from_stream x k).1 else None) (read_from_stream x k).0 []
  read_talks k accepted = read_talks_if (eqb k id) k refl accepted

  -- Of what a poll gave out a front
  pub front_talks : (y : Shown) (kept : ℕ) (given : List (List ℕ)) → Talks true None y given
      → Talks true None y (take kept given)
  front_talks y kept given l =
      let Is : List ℕ → Type 0 = λ (bytes : List ℕ).
      OfEachChunk (IsSaid own peer id l.stage l.moves.out_after l.moves.coming_after) (packet_in bytes) in
      record {
        moves = l.moves;
        stage = l.stage;
        later = l.later;
        stands = l.stands;
        said =
            all_front Is (take kept given) (drop kept given)
            (subst (AllByRecursion Is) (sym (take-append-drop kept given)) l.said);
      }
