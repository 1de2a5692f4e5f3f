-- Sides that failed or were lost: they read nothing of a stream any more, and say nothing of it.
use Rattle.std.proofs.Common.{◌≡◌, refl, sym, ap, ◌∙◌, subst, ◌⊎◌, inl, inr, ℕ, Bool, true, false, eqb}
use Rattle.std.proofs.Common.{if◌then◌else◌, List, [], ◌∷◌, drop, take, Option, Some, None, is_some}
use Rattle.std.specs.List.{AllByRecursion}
use Rattle.std.proofs.lemmas.Bool.{true≢false}
use Rattle.std.proofs.lemmas.List.{append-nil, take-append-drop}
use Rattle.sctp_wire_types.specs.declared.error.Error.{Error}
use Rattle.sctp_wire_types.specs.declared.error.Error.TheVariants as errors
use Rattle.sctp_receive_queues.specs.Messages.{ReceivedMessage}
use Rattle.sctp_streams.specs.declared.event.Event.{Event}
use Rattle.sctp_streams.specs.Streams.{stream_at}
use Rattle.sctp_model.proofs.Lists.{all_front}
use Rattle.sctp_assoc.specs.declared.call.Call.{Call}
use Rattle.sctp_assoc.specs.declared.call.Call.TheVariants as calls
use Rattle.sctp_assoc.specs.declared.call.Reply.{Reply}
use Rattle.sctp_assoc.specs.declared.call.Reply.TheVariants as replies
use Rattle.sctp_assoc.specs.Calls.{read_refusal_at}
use Rattle.sctp_assoc.specs.Gather.{polled}
use Rattle.sctp_assoc.specs.Happened.{PollsOn, acts_of_poll, forwards_of_poll}
use Rattle.sctp_assoc.specs.Replies.{GivesOut, Reads, Replies, packet_in}
use Rattle.sctp_assoc.specs.Shown.{Shown}
use Rattle.sctp_sides.specs.OneSide as side
use Rattle.sctp_sides.specs.OneSide.{Calls, IsCarriedOut, IsRun, carried_out}
use Rattle.sctp_sides.specs.Runs.{side_calls_of, told_in}
use Rattle.sctp_sides.specs.SideLaws.{OfEachChunk}
use Rattle.sctp_sides.proofs.FirstBegunRuns.{carried_out_fails}
use Rattle.sctp_sides.proofs.RunsListed.{listed, own_unrefused}
use Rattle.sctp_sides.proofs.TimersOverRuns.{accepted_works}
use Rattle.sctp_course_sides.specs.Over.{IsOver, SaysNothing}
use Rattle.sctp_course_sides.specs.Turns.{IsPresent}
use Rattle.sctp_course_sides.proofs.OverSides.{over_reads_nothing, over_says, over_stays}
use Rattle.sctp_course_sides.proofs.StageCalls.{lost_is_over}
use Rattle.sctp_boundaries.specs.Between.{IsGone, IsPresentOrGone, OfEachDatagram}
use Rattle.sctp_boundaries.proofs.Calling.{CallGoes, is_poll, message_given}

-- One that is gone is not present.
pub gone_absent : (x : Shown) → IsGone x → IsPresent x → ⊥
gone_absent x (inl failed) present = true≢false (sym failed ∙ present.working)
gone_absent x (inr over) present = true≢false (sym over.lost ∙ present.not_lost)

-- One call, and all calls of a list

stays_gone : (call : side.Call) (told : List Event) (a b : Shown) → Calls call told a b → IsGone a → IsGone b
stays_gone call told a b (inl done) (inl failed) =
    inl (carried_out_fails call told a b done.there (accepted_works call a done.accepted) failed)
stays_gone call told a b (inl done) (inr over) = inr (over_stays call told a b over done)
stays_gone call told a b (inr (inl same)) gone = subst IsGone (sym same.same) gone
stays_gone call told a b (inr (inr fails)) gone = inl fails.failed.marked

run_gone : (made : List side.Call) (told : List Event) (a b : Shown) → IsRun made told a b → IsGone a → IsGone b
run_gone [] told a b run gone = subst IsGone (sym run.same) gone
run_gone (c ∷ cs) told a b run gone =
    run_gone cs run.later run.middle b run.others (stays_gone c run.first a run.middle run.called gone)

-- where a present side has these marks behind a call that was carried out
here_as : (call : side.Call) (told : List Event) (a b : Shown) (failed lost : Bool) → b.failed ≡ failed
    → b.lost ≡ lost → IsPresent a → IsCarriedOut call told a b → IsPresentOrGone b
here_as call told a b true lost e f before done = inr (inl e)
here_as call told a b false true e f before done =
    let is : (carried_out call a).0 ≡ b = ap (λ (x : Shown × List Event). x.0) done.there in
    inr (inr (subst IsOver is
    (lost_is_over call a done.accepted before.not_lost (ap (λ (z : Shown). z.lost) is ∙ f))))
here_as call told a b false false e f before done = inl (record { working = e; not_lost = f })

called_on : (call : side.Call) (told : List Event) (a b : Shown) → Calls call told a b → IsPresentOrGone a
    → IsPresentOrGone b
called_on call told a b called (inr gone) = inr (stays_gone call told a b called gone)
called_on call told a b (inl done) (inl before) = here_as call told a b b.failed b.lost refl refl before done
called_on call told a b (inr (inl same)) (inl before) = subst IsPresentOrGone (sym same.same) (inl before)
called_on call told a b (inr (inr fails)) (inl before) = inr (inl fails.failed.marked)

run_on : (made : List side.Call) (told : List Event) (a b : Shown) → IsRun made told a b → IsPresentOrGone a
    → IsPresentOrGone b
run_on [] told a b run h = subst IsPresentOrGone (sym run.same) h
run_on (c ∷ cs) told a b run h =
    run_on cs run.later run.middle b run.others (called_on c run.first a run.middle run.called h)

-- Any call and its reply

pub reply_gone : (call : Call) (r : Reply) (x y : Shown) (packets more : List (List ℕ))
    → Replies call x packets r y more → IsGone x → IsGone y
reply_gone call r x y packets more h =
    run_gone (side_calls_of call) (told_in r) x y (listed x y call packets more r h)

pub reply_on : (call : Call) (r : Reply) (x y : Shown) (packets more : List (List ℕ))
    → Replies call x packets r y more → IsPresentOrGone x → IsPresentOrGone y
reply_on call r x y packets more h =
    run_on (side_calls_of call) (told_in r) x y (listed x y call packets more r h)

-- a side that is present then was so before
pub present_before : (call : Call) (r : Reply) (x y : Shown) (packets more : List (List ℕ))
    → Replies call x packets r y more → IsPresentOrGone x → IsPresent y → IsPresent x
present_before call r x y packets more h (inl before) there = before
present_before call r x y packets more h (inr gone) there =
    absurd (gone_absent y (reply_gone call r x y packets more h gone) there)

-- a failed side refuses
failed_refuses : (failed : Bool) (fault : Error) (rest : Option Error) → failed ≡ true
    → (if failed then Some fault else rest) ≡ None → ⊥
failed_refuses true fault rest e f = true≢false (ap is_some f)
failed_refuses false fault rest e f = true≢false (sym e)

-- nothing is read on a stream where nothing is read at all
none_of : (same : Bool) (message : Option ReceivedMessage) → message ≡ None → (if same then message else None) ≡ None
none_of true message e = e
none_of false message e = refl

module _ (id : ℕ) (x y : Shown) (packets more : List (List ℕ))
    (On : Bool → Option ReceivedMessage → Shown → List (List ℕ) → Type 0)
    (stays : (polls : Bool) (message : Option ReceivedMessage) (given : List (List ℕ)) → message ≡ None
    → OfEachDatagram SaysNothing given → On polls message y given)
    (gone : IsGone x)
  where
    -- What is read

    nothing_read : (k : ℕ) (message : Option ReceivedMessage) → IsGone x → Reads x k (replies.Read message) y
        → message ≡ None
    nothing_read k message (inl failed) h =
        absurd (failed_refuses x.failed errors.ErrAssociationFailed (read_refusal_at (stream_at x.streams k)) failed
        (own_unrefused _ _ h.0))
    nothing_read k message (inr over) h =
        sym (ap (λ (v : Shown × Option ReceivedMessage). v.1) h.1) ∙ over_reads_nothing x k over

    read_of : (k : ℕ) (r : Reply) → Reads x k r y → message_given (calls.Read k) r id ≡ None
    read_of k (replies.Read message) h = none_of (eqb k id) message (nothing_read k message gone h)
    read_of k (replies.Refused n) h = refl
    read_of k r h = absurd h

    sctp_read_of : (k : ℕ) (r : Reply) → Reads x k r y → message_given (calls.ReadSctp k) r id ≡ None
    sctp_read_of k (replies.Read message) h = none_of (eqb k id) message (nothing_read k message gone h)
    sctp_read_of k (replies.Refused n) h = refl
    sctp_read_of k r h = absurd h

    -- What is given out

    poll_says : (now : ℕ) → IsGone x → x.failed ≡ false
        → PollsOn (acts_of_poll x now) (forwards_of_poll x now) x y (polled x now).1
        → OfEachDatagram SaysNothing (polled x now).1
    poll_says now (inl failed) works on = absurd (true≢false (sym failed ∙ works))
    poll_says now (inr over) works on = over_says x y now over on

    abbrev Leads : Call → Reply → Type 0
    Leads call r = CallGoes On id call r y packets more

    silent : (call : Call) (r : Reply) → more ≡ packets → message_given call r id ≡ None → Leads call r
    silent call r e none = record {
      given = [];
      extends = e ∙ sym (append-nil packets);
      goes = stays (is_poll call) (message_given call r id) [] none tt;
    }

    polls_lead : (now : ℕ) (r : Reply) → GivesOut x packets now r y more → Leads (calls.PollTransmit now) r
    polls_lead now replies.NothingSent h = silent (calls.PollTransmit now) replies.NothingSent h.3 refl
    polls_lead now (replies.Sent first count) h = record {
      given = (polled x now).1;
      extends = h.6;
      goes = stays true None (polled x now).1 refl (poll_says now gone h.0 h.5);
    }
    polls_lead now (replies.Refused n) (inl had) = silent (calls.PollTransmit now) (replies.Refused n) had.1 refl
    polls_lead now (replies.Refused n) (inr (inl h)) = silent (calls.PollTransmit now) (replies.Refused n) h.2 refl
    polls_lead now (replies.Refused n) (inr (inr loses)) =
        let kept : ℕ = loses.4.0 in
        let all : List (List ℕ) = (polled x now).1 in
        let Says : List ℕ → Type 0 = λ (bytes : List ℕ). OfEachChunk SaysNothing (packet_in bytes) in
        record {
          given = take kept all;
          extends = loses.4.2;
          goes =
              stays true None (take kept all) refl
              (all_front Says (take kept all) (drop kept all)
              (subst (AllByRecursion Says) (sym (take-append-drop kept all)) (poll_says now gone loses.0 loses.3)));
        }
    polls_lead now r h = absurd h

    -- Each call goes on.
    pub gone_leads : (call : Call) (r : Reply) → Replies call x packets r y more → Leads call r
    gone_leads (calls.Read k) r h = silent (calls.Read k) r h.1 (read_of k r h.0)
    gone_leads (calls.ReadSctp k) r h = silent (calls.ReadSctp k) r h.1 (sctp_read_of k r h.0)
    gone_leads (calls.PollTransmit now) r h = polls_lead now r h
    gone_leads call r h = silent call r h.1 refl
