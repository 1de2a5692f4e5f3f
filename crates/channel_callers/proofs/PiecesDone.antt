-- How many pieces are accepted by the steps of the pair that a step of a channel does: at most those that its call and
-- its reply let tell.
use Rattle.std.proofs.Common.{◌≡◌, refl, sym, ap, ◌∙◌, subst, ◌⊎◌, ⊎_elim, ℕ, ◌+◌, ◌≤◌, arith, Bool, eqb, ◌&&◌}
use Rattle.std.proofs.Common.{if◌then◌else◌, List, [], ◌∷◌, ◌++◌, length, Some, None}
use Rattle.std.specs.Prelude.{Ok, Err}
use Rattle.sctp_assoc.specs.declared.call.Reply.{Reply}
use Rattle.sctp_fit.specs.FewPieces.{pieces_in}
use Rattle.sctp_steps.specs.declared.step.Side2.{Side2}
use Rattle.sctp_steps.specs.declared.step.Side2.TheVariants as sides
use Rattle.sctp_steps.specs.declared.step.Step.{Step}
use Rattle.sctp_steps.specs.Seen.{other_side}
use Rattle.sctp_pair.specs.Callers.{bytes_written}
use Rattle.sctp_pair.specs.Counted.{pieces_of}
use Rattle.dcep_channel.specs.AssocDeeds.{reply_of}
use Rattle.dcep_channel.specs.Deeds.{Deed}
use Rattle.channel_pair.specs.declared.step.ChannelStep.{ChannelStep}
use Rattle.channel_pair.specs.declared.step.ChannelStep.TheVariants as steps
use Rattle.channel_pair.specs.declared.step.ChannelReply.{ChannelReply}
use Rattle.channel_pair.specs.declared.step.ChannelReply.TheVariants as replies
use Rattle.channel_pair.specs.PairDeeds.{step_of}
use Rattle.channel_pair.specs.Promise.{AreDoneFor, AreOfCall, AreOfPort, may_write, wrote_by}
use Rattle.channel_pair.proofs.StreamSteps.{is_here, is_own, not_there}
use Rattle.channel_callers.specs.Telling.{most_pieces, pieces_of_all, pieces_of_call}

-- the pieces that these steps of the pair accepted at side x
abbrev pub pieces_done : ℕ → Side2 → List (Step × Reply) → ℕ
pieces_done size x [] = 0
pieces_done size x (d ∷ done) = pieces_of size x d.0 d.1 + pieces_done size x done

all_append : (size : ℕ) (xs ys : List (List ℕ))
    → pieces_of_all size (xs ++ ys) ≡ pieces_of_all size xs + pieces_of_all size ys
all_append size [] ys = omega arith
all_append size (x ∷ xs) ys = let more = all_append size xs ys in omega (arith, more)

-- the pieces of one message
one_message : (size : ℕ) (bytes : List ℕ) → pieces_in size (length bytes) ≡ pieces_of_all size (bytes ∷ [])
one_message size bytes = omega arith

-- A deed at side x on stream id.
module _ (size : ℕ) (x : Side2) (id : ℕ) where
  deed_here : (d : Deed) → pieces_of size x (step_of x id d) (reply_of d)
      ≡ pieces_of_all size (bytes_written (step_of x id d) (reply_of d) x id)
  deed_here (Deed.Opened None) = refl
  deed_here (Deed.Opened (Some n)) = refl
  deed_here (Deed.Kept None) = refl
  deed_here (Deed.Kept (Some n)) = refl
  deed_here (Deed.Wrote kind bytes (Ok n)) =
      ap (λ (c : Bool). if c then pieces_in size (length bytes) else 0) (is_own x) ∙ one_message size bytes
      ∙ sym (ap (λ (c : Bool). pieces_of_all size (if c then bytes ∷ [] else [])) (is_here x id))
  deed_here (Deed.Wrote kind bytes (Err n)) = refl
  deed_here (Deed.Read (Ok message)) = refl
  deed_here (Deed.Read (Err n)) = refl

  -- at the other side it accepts nothing
  deed_there : (d : Deed) → pieces_of size (other_side x) (step_of x id d) (reply_of d) ≡ 0
  deed_there (Deed.Opened None) = refl
  deed_there (Deed.Opened (Some n)) = refl
  deed_there (Deed.Kept None) = refl
  deed_there (Deed.Kept (Some n)) = refl
  deed_there (Deed.Wrote kind bytes (Ok n)) =
      ap (λ (c : Bool). if c then pieces_in size (length bytes) else 0) (not_there x)
  deed_there (Deed.Wrote kind bytes (Err n)) = refl
  deed_there (Deed.Read (Ok message)) = refl
  deed_there (Deed.Read (Err n)) = refl

  -- So it is of rows of them.

  port_here : (done : List (Step × Reply)) → AreOfPort x id done
      → pieces_done size x done ≡ pieces_of_all size (wrote_by x id done)
  port_here [] of_port = refl
  port_here (d ∷ done) ((deed, of_step, of_reply), rest) =
      let one : pieces_of size x d.0 d.1 ≡ pieces_of_all size (bytes_written d.0 d.1 x id) =
      subst (λ (s : Step). pieces_of size x s d.1 ≡ pieces_of_all size (bytes_written s d.1 x id)) (sym of_step)
      (subst
      (λ (r : Reply). pieces_of size x (step_of x id deed) r
      ≡ pieces_of_all size (bytes_written (step_of x id deed) r x id))
      (sym of_reply) (deed_here deed)) in
      let more = port_here done rest in
      let both = all_append size (bytes_written d.0 d.1 x id) (wrote_by x id done) in
      omega (arith, one, more, both)

  port_there : (done : List (Step × Reply)) → AreOfPort x id done → pieces_done size (other_side x) done ≡ 0
  port_there [] of_port = refl
  port_there (d ∷ done) ((deed, of_step, of_reply), rest) =
      let none : pieces_of size (other_side x) d.0 d.1 ≡ 0 =
      subst (λ (s : Step). pieces_of size (other_side x) s d.1 ≡ 0) (sym of_step)
      (subst (λ (r : Reply). pieces_of size (other_side x) (step_of x id deed) r ≡ 0) (sym of_reply)
      (deed_there deed)) in
      let more = port_there done rest in
      omega (arith, none, more)

none_or_all : (size : ℕ) (wrote messages : List (List ℕ)) → (wrote ≡ []) ⊎ (wrote ≡ messages)
    → pieces_of_all size wrote ≤ pieces_of_all size messages
none_or_all size wrote messages h =
    ⊎_elim
    (λ (none : wrote ≡ []).
    let e = ap (λ (z : List (List ℕ)). pieces_of_all size z) none in
    omega (arith, e))
    (λ (all : wrote ≡ messages).
    let e = ap (λ (z : List (List ℕ)). pieces_of_all size z) all in
    omega (arith, e))
    h

-- A call of a channel, whose steps of the pair are these.
module _ (size id : ℕ) (s : ChannelStep) (r : ChannelReply) (done : List (Step × Reply)) where
  call_here : (x : Side2) → AreOfCall x id s r done → pieces_done size x done ≤ pieces_of_all size (may_write s r)
  call_here x h =
      let e = port_here size x id done h.0 in
      let most = none_or_all size (wrote_by x id done) (may_write s r) h.1 in
      omega (arith, e, most)

  call_bound : (y x : Side2) → AreOfCall x id s r done → pieces_done size y done ≤ pieces_of_call size y x s r
  call_bound sides.A sides.A h = call_here sides.A h
  call_bound sides.A sides.B h = let e = port_there size sides.B id done h.0 in omega (arith, e)
  call_bound sides.B sides.A h = let e = port_there size sides.A id done h.0 in omega (arith, e)
  call_bound sides.B sides.B h = call_here sides.B h

pub done_bound : (size id : ℕ) (y : Side2) (s : ChannelStep) (r : ChannelReply) (done : List (Step × Reply))
    → AreDoneFor id s r done → pieces_done size y done ≤ most_pieces size y s r
done_bound size id y (steps.Open x priority label protocol) r done h =
    call_bound size id (steps.Open x priority label protocol) r done y x h
done_bound size id y (steps.Accept x) r done h = call_bound size id (steps.Accept x) r done y x h
done_bound size id y (steps.Acknowledge x) r done h = call_bound size id (steps.Acknowledge x) r done y x h
done_bound size id y (steps.Send x bytes) r done h = call_bound size id (steps.Send x bytes) r done y x h
done_bound size id y (steps.Receive x) r done h = call_bound size id (steps.Receive x) r done y x h
done_bound size id y (steps.OfPair step) (replies.OfPair answer) done h =
    let e = ap (λ (z : List (Step × Reply)). pieces_done size y z) h in omega (arith, e)
done_bound size id y (steps.OfPair step) r done h =
    let e = ap (λ (z : List (Step × Reply)). pieces_done size y z) h in omega (arith, e)
