-- What one side of a pair does leads both courses of a stream on, and both sides stand between them then.
use Rattle.std.proofs.Common.{◌≡◌, refl, sym, ap, subst, ◌⊎◌, inl, inr, ℕ, zero, suc, ◌+◌, ◌≤◌, arith, Bool, false}
use Rattle.std.proofs.Common.{List, [], ◌∷◌, length, slice_get, ◌++◌, Option, Some, None}
use Rattle.sctp_wire_types.specs.declared.chunk.ChunkPayloadData.{ChunkPayloadData}
use Rattle.sctp_receive_queues.specs.Messages.{ReceivedMessage}
use Rattle.sctp_courses.specs.Course.{Course}
use Rattle.sctp_courses.specs.Events.{is_to_be_reset}
use Rattle.sctp_courses.proofs.Proved.{the_invariant_is_enough}
use Rattle.sctp_reset_fit.specs.Keeping.{GoesOn}
use Rattle.sctp_reset_fit.proofs.Keeping.{goes_kept, goes_leaves, goes_nowhere}
use Rattle.sctp_reset_requests.specs.declared.own_request.SentRequest.{SentRequest}
use Rattle.sctp_assoc.specs.declared.call.Reply.{Reply}
use Rattle.sctp_assoc.specs.Shown.{Shown}
use Rattle.sctp_sides.proofs.SentCounts.{nothing_there}
use Rattle.sctp_course_sides.specs.Sends.{SendsOn}
use Rattle.sctp_course_sides.specs.Turns.{Grows, IsFew, IsPresent}
use Rattle.sctp_course_sides.proofs.SentOn.{sends_nothing}
use Rattle.sctp_steps.specs.declared.step.Side2.TheVariants as sides
use Rattle.sctp_steps.specs.declared.step.Step.{Step}
use Rattle.sctp_steps.specs.Ends.{Ends}
use Rattle.sctp_steps.specs.Seen.{EndsReset, message_read}
use Rattle.sctp_boundaries.specs.Between.{AreFew, AreMeeting, AreTalking, Courses, IsGivenOut, Stand, StandBetween}
use Rattle.sctp_boundaries.specs.Laws.{GrowsAsSeen, IsDividedBy, LeadsBoth, polls_side}
use Rattle.sctp_boundaries.proofs.Ended.{IsFurther, all_performed, divides_ended, divides_still, receiver_further}
use Rattle.sctp_boundaries.proofs.Ended.{sender_further}
use Rattle.sctp_boundaries.proofs.Staying.{sends_kept, sends_leave}

-- What a side does leads its own course on as a sender and the other one as a receiver.
pub record Moves (P : ChunkPayloadData → Type 0) (own peer id : ℕ) (polls : Bool) (x : Shown)
    (message : Option ReceivedMessage) (z : Shown) (out coming : Course) : Type 0 where
  pub out_after : Course
  pub coming_after : Course
  pub sends : SendsOn out out_after
  pub seen : GrowsAsSeen polls x z out out_after
  pub goes : GoesOn coming coming_after
  pub grows : Grows P peer id message x coming.told coming_after.told

-- A course that its sender leaves as it is grows by nothing.

none_more : (n m k : ℕ) → m ≡ n → m ≤ n + k
none_more n m k e = omega arith

pub grows_none : (polls : Bool) (x y : Shown) (c d : Course) → d.asked ≡ c.asked → d.assigned ≡ c.assigned
    → GrowsAsSeen polls x y c d
grows_none polls x y c d asked assigned = record {
  assigns = none_more c.assigned d.assigned _ assigned;
  asks = none_more (length c.asked) (length d.asked) _ (ap length asked);
}

-- a side of which nothing is read and that sends nothing
abbrev pub moves_nothing : (P : ChunkPayloadData → Type 0) (own peer id : ℕ) (polls : Bool) (x : Shown)
    (message : Option ReceivedMessage) (z : Shown) (out coming : Course) → message ≡ None
    → Moves P own peer id polls x message z out coming
moves_nothing P own peer id polls x message z out coming none = record {
  out_after = out;
  coming_after = coming;
  sends = sends_nothing out;
  seen = grows_none polls x z out out refl refl;
  goes = goes_nowhere coming;
  grows = subst (λ (m : Option ReceivedMessage). Grows P peer id m x coming.told coming.told) (sym none) refl;
}

-- What one side x does leads to z and all datagrams that it gave out then; it moves the courses so, and the two sides
-- stand between them still.
pub record SideActs (own peer id : ℕ) (polls : Bool) (x y : Shown) (message : Option ReceivedMessage) (z : Shown)
    (of_y of_z : List (List ℕ)) (out coming : Course) : Type 0 where
  pub moves : Moves (IsGivenOut of_y) own peer id polls x message z out coming
  pub stand : IsFew moves.out_after → IsFew moves.coming_after
      → Stand own peer id z y of_z of_y moves.out_after moves.coming_after

-- the two sides the other way round
flipped : (own peer id : ℕ) (x y : Shown) (of_x of_y : List (List ℕ)) (out coming : Course)
    → (s : Stand own peer id x y of_x of_y out coming)
    → AreMeeting own peer id s.stage_x s.stage_y x y of_x of_y out coming
    ⊎ AreTalking own peer id s.stage_x s.stage_y x y of_x of_y out coming
    → AreMeeting peer own id s.stage_y s.stage_x y x of_y of_x coming out
    ⊎ AreTalking peer own id s.stage_y s.stage_x y x of_y of_x coming out
flipped own peer id x y of_x of_y out coming s (inl m) = inl record {
  never_x = m.never_y;
  never_y = m.never_x;
  no_clients = λ one other. m.no_clients other one;
  unsent_out = m.unsent_coming;
  unsent_coming = m.unsent_out;
  at_x = m.at_y;
  at_y = m.at_x;
  greets_x = m.greets_y;
  greets_y = m.greets_x;
}
flipped own peer id x y of_x of_y out coming s (inr t) = inr record {
  hears_x = t.hears_y;
  hears_y = t.hears_x;
  one_x = t.one_y;
  one_y = t.one_x;
  at_x = t.at_y;
  at_y = t.at_x;
  said_x = t.said_y;
  said_y = t.said_x;
}

pub flip : (own peer id : ℕ) (x y : Shown) (of_x of_y : List (List ℕ)) (out coming : Course)
    → Stand own peer id x y of_x of_y out coming → Stand peer own id y x of_y of_x coming out
flip own peer id x y of_x of_y out coming s = record {
  kept_out = s.kept_coming;
  kept_coming = s.kept_out;
  here_x = s.here_y;
  here_y = s.here_x;
  stage_x = s.stage_y;
  stage_y = s.stage_x;
  between = flipped own peer id x y of_x of_y out coming s s.between;
}

-- a packet stays one of those that were given out
front_given : (packets more : List (List ℕ)) (number : ℕ) (bytes : List ℕ) → slice_get packets number ≡ Some bytes
    → slice_get (packets ++ more) number ≡ Some bytes
front_given [] more number bytes e = absurd (nothing_there bytes e)
front_given (x ∷ xs) more zero bytes e = e
front_given (x ∷ xs) more (suc number) bytes e = front_given xs more number bytes e

pub given_still : (packets more all : List (List ℕ)) → all ≡ packets ++ more → (piece : ChunkPayloadData)
    → IsGivenOut packets piece → IsGivenOut all piece
given_still packets more all e piece (number, bytes, is, has) = (
  number,
  bytes,
  subst (λ (ps : List (List ℕ)). slice_get ps number ≡ Some bytes) (sym e) (front_given packets more number bytes is),
  has,
)

-- A request that ended in a step from p to q was performed and divides what was read, in both directions.
module _ (own_a own_b id : ℕ) (p q : Ends) (w after : Courses) (s : StandBetween own_a own_b id p w)
    (standing : AreFew after → StandBetween own_a own_b id q after)
  where
    flipped_after : AreFew after → Stand own_b own_a id q.b q.a q.packets_b q.packets_a after.ba after.ab
    flipped_after few = flip own_a own_b id q.a q.b q.packets_a q.packets_b after.ab after.ba (standing few)

    performed_ab : AreFew after → EndsReset p.a q.a id → is_to_be_reset after.ab ≡ false
    performed_ab few =
        all_performed own_a own_b id p.a q.a q.b q.packets_a q.packets_b after.ab after.ba (standing few)

    performed_ba : AreFew after → EndsReset p.b q.b id → is_to_be_reset after.ba ≡ false
    performed_ba few =
        all_performed own_b own_a id p.b q.b q.a q.packets_b q.packets_a after.ba after.ab (flipped_after few)

    ended_ab : (IsPresent q.a → IsPresent p.a) → IsFurther w.ab after.ab → AreFew after → (r : SentRequest)
        → p.a.resets.own.active ≡ Some r → EndsReset p.a q.a id → IsDividedBy own_a r after.ab
    ended_ab was further few =
        divides_ended own_a own_b id p.a p.b q.a q.b p.packets_a p.packets_b q.packets_a q.packets_b w.ab w.ba after.ab
        after.ba s (standing few) was further

    ended_ba : (IsPresent q.b → IsPresent p.b) → IsFurther w.ba after.ba → AreFew after → (r : SentRequest)
        → p.b.resets.own.active ≡ Some r → EndsReset p.b q.b id → IsDividedBy own_b r after.ba
    ended_ba was further few =
        divides_ended own_b own_a id p.b p.a q.b q.a p.packets_b p.packets_a q.packets_b q.packets_a w.ba w.ab after.ba
        after.ab (flip own_a own_b id p.a p.b p.packets_a p.packets_b w.ab w.ba s) (flipped_after few) was further

-- what A does
pub a_leads : (own_a own_b id : ℕ) (step : Step) (p : Ends) (r : Reply) (q : Ends) (w : Courses)
    → StandBetween own_a own_b id p w
    → SideActs own_a own_b id (polls_side sides.A step) p.a p.b (message_read step r sides.A id) q.a p.packets_b
    q.packets_a w.ab w.ba
    → (IsPresent q.a → IsPresent p.a) → message_read step r sides.B id ≡ None → q.b ≡ p.b → q.packets_b ≡ p.packets_b
    → LeadsBoth own_a own_b id step p r q w
a_leads own_a own_b id step p r q w s l was none same silent =
    let m = l.moves in
    let ab : Course = m.out_after in
    let ba : Course = m.coming_after in
    let after : Courses = record { ab = ab; ba = ba } in
    let left = goes_leaves w.ba ba m.goes in
    let kept_ab = sends_kept w.ab ab m.sends s.kept_out in
    let kept_ba = goes_kept w.ba ba m.goes s.kept_coming in
    let further_ab = sender_further w.ab ab m.sends in
    let further_ba = receiver_further w.ba ba m.goes in
    let standing : AreFew after → StandBetween own_a own_b id q after =
    λ (few : AreFew after).
    subst (λ (ps : List (List ℕ)). Stand own_a own_b id q.a q.b q.packets_a ps ab ba) (sym silent)
    (subst (λ (z : Shown). Stand own_a own_b id q.a z q.packets_a p.packets_b ab ba) (sym same)
    (l.stand few.0 few.1)) in
    record {
      after = after;
      ab_goes = (m.sends.events, m.sends.is);
      ba_goes = (m.goes.events, m.goes.is);
      ab_grows = m.seen;
      ba_grows = grows_none (polls_side sides.B step) p.b q.b w.ba ba left.0 left.1;
      ab_read =
          subst (λ (n : Option ReceivedMessage). Grows (IsGivenOut p.packets_a) own_a id n p.b w.ab.told ab.told)
          (sym none) (sends_leave w.ab ab m.sends).1;
      ba_read = m.grows;
      ab_keeps = the_invariant_is_enough ab kept_ab;
      ba_keeps = the_invariant_is_enough ba kept_ba;
      stand = standing;
      ab_performed = performed_ab own_a own_b id p q w after s standing;
      ba_performed = performed_ba own_a own_b id p q w after s standing;
      ab_ended = ended_ab own_a own_b id p q w after s standing was further_ab;
      ba_ended = ended_ba own_a own_b id p q w after s standing (subst IsPresent same) further_ba;
      ab_stays_divided = λ request. divides_still own_a request w.ab ab s.kept_out kept_ab further_ab;
      ba_stays_divided = λ request. divides_still own_b request w.ba ba s.kept_coming kept_ba further_ba;
    }

-- and what B does
pub b_leads : (own_a own_b id : ℕ) (step : Step) (p : Ends) (r : Reply) (q : Ends) (w : Courses)
    → StandBetween own_a own_b id p w
    → SideActs own_b own_a id (polls_side sides.B step) p.b p.a (message_read step r sides.B id) q.b p.packets_a
    q.packets_b w.ba w.ab
    → (IsPresent q.b → IsPresent p.b) → message_read step r sides.A id ≡ None → q.a ≡ p.a → q.packets_a ≡ p.packets_a
    → LeadsBoth own_a own_b id step p r q w
b_leads own_a own_b id step p r q w s l was none same silent =
    let m = l.moves in
    let ba : Course = m.out_after in
    let ab : Course = m.coming_after in
    let after : Courses = record { ab = ab; ba = ba } in
    let left = goes_leaves w.ab ab m.goes in
    let kept_ab = goes_kept w.ab ab m.goes s.kept_out in
    let kept_ba = sends_kept w.ba ba m.sends s.kept_coming in
    let further_ab = receiver_further w.ab ab m.goes in
    let further_ba = sender_further w.ba ba m.sends in
    let standing : AreFew after → StandBetween own_a own_b id q after =
    λ (few : AreFew after).
    subst (λ (ps : List (List ℕ)). Stand own_a own_b id q.a q.b ps q.packets_b ab ba) (sym silent)
    (subst (λ (z : Shown). Stand own_a own_b id z q.b p.packets_a q.packets_b ab ba) (sym same)
    (flip own_b own_a id q.b p.a q.packets_b p.packets_a ba ab (l.stand few.1 few.0))) in
    record {
      after = after;
      ab_goes = (m.goes.events, m.goes.is);
      ba_goes = (m.sends.events, m.sends.is);
      ab_grows = grows_none (polls_side sides.A step) p.a q.a w.ab ab left.0 left.1;
      ba_grows = m.seen;
      ab_read = m.grows;
      ba_read =
          subst (λ (n : Option ReceivedMessage). Grows (IsGivenOut p.packets_b) own_b id n p.a w.ba.told ba.told)
          (sym none) (sends_leave w.ba ba m.sends).1;
      ab_keeps = the_invariant_is_enough ab kept_ab;
      ba_keeps = the_invariant_is_enough ba kept_ba;
      stand = standing;
      ab_performed = performed_ab own_a own_b id p q w after s standing;
      ba_performed = performed_ba own_a own_b id p q w after s standing;
      ab_ended = ended_ab own_a own_b id p q w after s standing (subst IsPresent same) further_ab;
      ba_ended = ended_ba own_a own_b id p q w after s standing was further_ba;
      ab_stays_divided = λ request. divides_still own_a request w.ab ab s.kept_out kept_ab further_ab;
      ba_stays_divided = λ request. divides_still own_b request w.ba ba s.kept_coming kept_ba further_ba;
    }
