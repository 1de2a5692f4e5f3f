-- What a step of a pair does to one stream, from world to world.
use Rattle.std.proofs.Common.{◌≡◌, refl, sym, ap, ◌∙◌, subst, ⊎_elim, ℕ, Bool, true, false, eqb, ◌&&◌}
use Rattle.std.proofs.Common.{if◌then◌else◌, List, [], ◌∷◌, ◌++◌, map, Option, Some, None}
use Rattle.std.specs.Prelude.{◌||◌, Ok, Err}
use Rattle.std.proofs.lemmas.Bool.{cases_Bool, eq-eqb, true≢false}
use Rattle.std.proofs.lemmas.List.{append-nil, map-append}
use Rattle.std.specs.List.{AllByRecursion}
use Rattle.sctp_wire_types.specs.declared.ids.PayloadProtocolIdentifier.{PayloadProtocolIdentifier}
use Rattle.sctp_wire_types.specs.Ids.{number_of}
use Rattle.sctp_receive_queues.specs.Messages.{ReceivedMessage}
use Rattle.sctp_model.specs.Messages.{Message}
use Rattle.sctp_model.specs.Safe.{letter_written}
use Rattle.sctp_model.proofs.Lists.{all_join}
use Rattle.sctp_reassembly.specs.Stands.{letter_received}
use Rattle.sctp_assoc.specs.declared.call.Reply.{Reply}
use Rattle.sctp_steps.specs.declared.step.Side2.{Side2}
use Rattle.sctp_steps.specs.declared.step.Side2.TheVariants as sides
use Rattle.sctp_steps.specs.declared.step.Step.{Step}
use Rattle.sctp_steps.specs.Seen.{is_side, message_read, other_side}
use Rattle.sctp_pair.specs.Callers.{WrittenMessage, messages_of}
use Rattle.sctp_pair.specs.World.{EndsSpan, IsDirectionStep, IsOrderedAndReliable, IsWorldStep, World, accepted_at}
use Rattle.sctp_pair.specs.World.{ends_span, loose_after, loose_of, loosens}
use Rattle.sctp_pair.proofs.WrittenIndexes.{AreTold, letters_grow}
use Rattle.channel_pair.specs.ChannelWorld.{IsKeptFrom}
use Rattle.channel_pair.specs.Letters.{from_side, letter, letters_in, letters_out, to_side}

abbrev initial_of : Side2 → World → ℕ
initial_of sides.A w = w.initial_a
initial_of sides.B w = w.initial_b

-- A step with this reply leads from world w to v.
module _ (a : Step) (r : Reply) (w v : World) (h : IsWorldStep a w r v) where
  step_from : (x : Side2)
      → IsDirectionStep a r x (other_side x) w v.ends (initial_of x w) (from_side x w) (from_side x v)
  step_from sides.A = h.ab_step
  step_from sides.B = h.ba_step

  step_to : (x : Side2)
      → IsDirectionStep a r (other_side x) x w v.ends (initial_of (other_side x) w) (to_side x w) (to_side x v)
  step_to sides.A = h.ba_step
  step_to sides.B = h.ab_step

  loose_on : (x : Side2) (s : ℕ) → loose_of x v s ≡ loose_after a r x w s
  loose_on sides.A s = h.loose_a_is s
  loose_on sides.B s = h.loose_b_is s

  span_on : (x : Side2) (s : ℕ) → ends_span a r s ≡ false → (from_side x w).over s ≡ false
      → (from_side x v).over s ≡ false
  span_on x s stays within =
      ⊎_elim
      (λ (over : (from_side x v).over s ≡ true). ⊎_elim
      (λ (before : (from_side x w).over s ≡ true). absurd (true≢false (sym before ∙ within)))
      (λ (ends : EndsSpan a r s). absurd (true≢false (sym ends ∙ stays)))
      ((step_from x).span s over))
      (λ (still : (from_side x v).over s ≡ false). still)
      (cases_Bool ((from_side x v).over s))

  -- A stream that is kept is kept by a step that neither ends its span nor sets it loose.
  pub kept_on : (x : Side2) (s : ℕ) → ends_span a r s ≡ false → loosens a r x s ≡ false → IsKeptFrom x s w
      → IsKeptFrom x s v
  kept_on x s stays tight k = record {
    span = span_on x s stays k.span;
    tight = loose_on x s ∙ ap (λ z. z || loosens a r x s) k.tight ∙ tight;
    kept =
        subst (AllByRecursion IsOrderedAndReliable) (sym ((step_from x).accepted s))
        (all_join IsOrderedAndReliable ((from_side x w).sender.plan.accepted s) (accepted_at a r x s w) k.kept
        ((step_from x).in_order s k.span k.tight));
  }

  -- what was accepted grows by the step's write, and what was read by the step's read
  pub out_grows : (x : Side2) (s : ℕ)
      → letters_out x s v ≡ letters_out x s w ++ map letter_written (accepted_at a r x s w)
  out_grows x s =
      ap (map letter_written) ((step_from x).accepted s)
      ∙ map-append letter_written ((from_side x w).sender.plan.accepted s) (accepted_at a r x s w)

  pub in_grows : (x : Side2) (s : ℕ)
      → letters_in x s v ≡ letters_in x s w ++ map letter_received (messages_of (message_read a r x s))
  in_grows x s =
      letters_grow (message_read a r x s) ((to_side x w).reads s) ((to_side x v).reads s) ((step_to x).read s)

  -- a step that writes nothing there, or reads nothing

  pub out_stays : (x : Side2) (s : ℕ) → accepted_at a r x s w ≡ [] → letters_out x s v ≡ letters_out x s w
  out_stays x s none =
      out_grows x s ∙ ap (λ (ms : List Message). letters_out x s w ++ map letter_written ms) none
      ∙ append-nil (letters_out x s w)

  pub in_stays : (x : Side2) (s : ℕ) → message_read a r x s ≡ None → letters_in x s v ≡ letters_in x s w
  in_stays x s none =
      in_grows x s
      ∙ ap (λ (m : Option ReceivedMessage). letters_in x s w ++ map letter_received (messages_of m)) none
      ∙ append-nil (letters_in x s w)

-- a message that was accepted as a step told it, under the payload type that the step names
pub told_letter : (ms : List Message) (kind : PayloadProtocolIdentifier) (bytes : List ℕ)
    → AreTold ms (record { named = Some kind; bytes = bytes } ∷ [])
    → map letter_written ms ≡ letter (number_of kind) bytes ∷ []
told_letter [] kind bytes h = absurd h
told_letter (m ∷ []) kind bytes h =
    ap (λ (n : ℕ). letter n m.bytes ∷ []) h.0.payload_type ∙ ap (λ (bs : List ℕ). letter (number_of kind) bs ∷ [])
    h.0.bytes
told_letter (m ∷ n ∷ ms) kind bytes h = absurd h.1

pub is_own : (x : Side2) → is_side x x ≡ true
is_own sides.A = refl
is_own sides.B = refl

-- what is asked of a side and a stream is of that side and that stream
pub is_here : (x : Side2) (s : ℕ) → (is_side x x && eqb s s) ≡ true
is_here x s = rw (is_own x, eq-eqb s s refl) refl

pub not_there : (x : Side2) → is_side x (other_side x) ≡ false
not_there sides.A = refl
not_there sides.B = refl
