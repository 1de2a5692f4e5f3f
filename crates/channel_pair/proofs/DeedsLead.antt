-- Deeds of a port of one side lead from world to world: on the port's stream what that side wrote and read grows by what
-- the deeds wrote and read, and nothing else changes.
use Rattle.std.proofs.Common.{◌≡◌, refl, sym, ap, ◌∙◌, subst, ⊎_elim, ℕ, Bool, true, false, eqb, ◌&&◌}
use Rattle.std.proofs.Common.{if◌then◌else◌, List, [], ◌∷◌, ◌++◌, map, Option, Some, None}
use Rattle.std.specs.Prelude.{Ok, Err}
use Rattle.std.proofs.lemmas.List.{append-nil, append_assoc, map-append}
use Rattle.sctp_wire_types.specs.Ids.{number_of}
use Rattle.sctp_model.specs.Safe.{Letter, letter_written}
use Rattle.sctp_reassembly.specs.Stands.{letter_received}
use Rattle.sctp_assoc.specs.declared.call.Reply.{Reply}
use Rattle.sctp_assoc.specs.declared.call.Reply.TheVariants as replies
use Rattle.sctp_steps.specs.declared.step.Side2.{Side2}
use Rattle.sctp_steps.specs.declared.step.Side2.TheVariants as sides
use Rattle.sctp_steps.specs.declared.step.Step.{Step}
use Rattle.sctp_steps.specs.declared.step.Step.TheVariants as steps
use Rattle.sctp_steps.specs.Ends.{Ends}
use Rattle.sctp_steps.specs.Seen.{is_side, message_read, other_side}
use Rattle.sctp_steps.specs.Steps.{Steps}
use Rattle.sctp_pair.specs.Callers.{WrittenMessage, bytes_written, messages_of}
use Rattle.sctp_pair.specs.Fits.{Fits, StandsIn}
use Rattle.sctp_pair.specs.World.{IsWorldStep, World, accepted_at, ends_span, loosens}
use Rattle.sctp_pair.proofs.WrittenIndexes.{AreTold, told_accepted}
use Rattle.dcep_channel.specs.AssocDeeds.{reply_of}
use Rattle.dcep_channel.specs.Deeds.{Deed, DoesAll}
use Rattle.channel_pair.specs.ChannelWorld.{IsKeptFrom}
use Rattle.channel_pair.specs.Letters.{letter, letters_in, letters_out}
use Rattle.channel_pair.specs.PairDeeds.{DoesAtPair, LacksCopy, StepsOn, step_of}
use Rattle.channel_pair.specs.Promise.{AreOfPort, LeadThen, wrote_by}
use Rattle.channel_pair.proofs.StreamSteps.{in_grows, in_stays, is_here, kept_on, not_there, out_grows, out_stays}
use Rattle.channel_pair.proofs.StreamSteps.{told_letter}

-- what a deed writes, and what it reads

abbrev pub out_of : Deed → List Letter
out_of (Deed.Wrote kind bytes (Ok n)) = letter (number_of kind) bytes ∷ []
out_of deed = []

abbrev pub in_of : Deed → List Letter
in_of (Deed.Read (Ok message)) = map letter_received (messages_of message)
in_of deed = []

abbrev pub outs_of : List Deed → List Letter
outs_of [] = []
outs_of (d ∷ ds) = out_of d ++ outs_of ds

abbrev pub ins_of : List Deed → List Letter
ins_of [] = []
ins_of (d ∷ ds) = in_of d ++ ins_of ds

-- messages as their bytes
abbrev pub bytes_in : List Letter → List (List ℕ)
bytes_in ls = map (λ (l : Letter). l.bytes) ls

no_and : (a b : Bool) → (a && (b && false)) ≡ false
no_and true true = refl
no_and true false = refl
no_and false b = refl

-- One deed at side x on stream id.
module _ (x : Side2) (id : ℕ) where
  ends_none : (s : ℕ) (d : Deed) → ends_span (step_of x id d) (reply_of d) s ≡ false
  ends_none s (Deed.Opened None) = refl
  ends_none s (Deed.Opened (Some n)) = refl
  ends_none s (Deed.Kept None) = refl
  ends_none s (Deed.Kept (Some n)) = refl
  ends_none s (Deed.Wrote kind bytes (Ok n)) = refl
  ends_none s (Deed.Wrote kind bytes (Err n)) = refl
  ends_none s (Deed.Read (Ok message)) = refl
  ends_none s (Deed.Read (Err n)) = refl

  loosens_none : (y : Side2) (s : ℕ) (d : Deed) → loosens (step_of x id d) (reply_of d) y s ≡ false
  loosens_none y s (Deed.Opened None) = refl
  loosens_none y s (Deed.Opened (Some n)) = refl
  loosens_none y s (Deed.Kept None) = no_and (is_side x y) (eqb id s)
  loosens_none y s (Deed.Kept (Some n)) = refl
  loosens_none y s (Deed.Wrote kind bytes (Ok n)) = refl
  loosens_none y s (Deed.Wrote kind bytes (Err n)) = refl
  loosens_none y s (Deed.Read (Ok message)) = refl
  loosens_none y s (Deed.Read (Err n)) = refl

  accepted_here : (d : Deed) (w : World) (q : Ends) → Steps (step_of x id d) w.ends (reply_of d) q
      → map letter_written (accepted_at (step_of x id d) (reply_of d) x id w) ≡ out_of d
  accepted_here (Deed.Opened None) w q h = refl
  accepted_here (Deed.Opened (Some n)) w q h = refl
  accepted_here (Deed.Kept None) w q h = refl
  accepted_here (Deed.Kept (Some n)) w q h = refl
  accepted_here (Deed.Wrote kind bytes (Ok n)) w q h =
      let told : WrittenMessage = record { named = Some kind; bytes = bytes } in
      told_letter (accepted_at (steps.WriteWithPpi x id bytes kind) (replies.Wrote n) x id w) kind bytes
      (subst
      (λ (c : Bool). AreTold (accepted_at (steps.WriteWithPpi x id bytes kind) (replies.Wrote n) x id w)
      (if c then told ∷ [] else []))
      (is_here x id) (told_accepted id w q (steps.WriteWithPpi x id bytes kind) (replies.Wrote n) x h))
  accepted_here (Deed.Wrote kind bytes (Err n)) w q h = refl
  accepted_here (Deed.Read (Ok message)) w q h = refl
  accepted_here (Deed.Read (Err n)) w q h = refl

  read_here : (d : Deed)
      → map letter_received (messages_of (message_read (step_of x id d) (reply_of d) x id)) ≡ in_of d
  read_here (Deed.Opened None) = refl
  read_here (Deed.Opened (Some n)) = refl
  read_here (Deed.Kept None) = refl
  read_here (Deed.Kept (Some n)) = refl
  read_here (Deed.Wrote kind bytes (Ok n)) = refl
  read_here (Deed.Wrote kind bytes (Err n)) = refl
  read_here (Deed.Read (Ok message)) =
      ap (λ (c : Bool). map letter_received (messages_of (if c then message else None))) (is_here x id)
  read_here (Deed.Read (Err n)) = refl

  wrote_here : (d : Deed) → bytes_written (step_of x id d) (reply_of d) x id ≡ bytes_in (out_of d)
  wrote_here (Deed.Opened None) = refl
  wrote_here (Deed.Opened (Some n)) = refl
  wrote_here (Deed.Kept None) = refl
  wrote_here (Deed.Kept (Some n)) = refl
  wrote_here (Deed.Wrote kind bytes (Ok n)) = ap (λ (c : Bool). if c then bytes ∷ [] else []) (is_here x id)
  wrote_here (Deed.Wrote kind bytes (Err n)) = refl
  wrote_here (Deed.Read (Ok message)) = refl
  wrote_here (Deed.Read (Err n)) = refl

-- at the other side it writes and reads nothing

accepted_there : (x : Side2) (id s : ℕ) (d : Deed) (w : World)
    → accepted_at (step_of x id d) (reply_of d) (other_side x) s w ≡ []
accepted_there x id s (Deed.Opened None) w = refl
accepted_there x id s (Deed.Opened (Some n)) w = refl
accepted_there x id s (Deed.Kept None) w = refl
accepted_there x id s (Deed.Kept (Some n)) w = refl
accepted_there sides.A id s (Deed.Wrote kind bytes (Ok n)) w = refl
accepted_there sides.B id s (Deed.Wrote kind bytes (Ok n)) w = refl
accepted_there x id s (Deed.Wrote kind bytes (Err n)) w = refl
accepted_there x id s (Deed.Read (Ok message)) w = refl
accepted_there x id s (Deed.Read (Err n)) w = refl

read_there : (x : Side2) (id s : ℕ) (d : Deed)
    → message_read (step_of x id d) (reply_of d) (other_side x) s ≡ None
read_there x id s (Deed.Opened None) = refl
read_there x id s (Deed.Opened (Some n)) = refl
read_there x id s (Deed.Kept None) = refl
read_there x id s (Deed.Kept (Some n)) = refl
read_there x id s (Deed.Wrote kind bytes (Ok n)) = refl
read_there x id s (Deed.Wrote kind bytes (Err n)) = refl
read_there sides.A id s (Deed.Read (Ok message)) = refl
read_there sides.B id s (Deed.Read (Ok message)) = refl
read_there x id s (Deed.Read (Err n)) = refl

-- a write that lacks its copy writes nothing
nothing_of : (d : Deed) → LacksCopy d → (out_of d ≡ []) × (in_of d ≡ [])
nothing_of (Deed.Opened fault) h = absurd h
nothing_of (Deed.Kept fault) h = absurd h
nothing_of (Deed.Wrote kind bytes (Ok n)) h = absurd h
nothing_of (Deed.Wrote kind bytes (Err n)) h = (refl, refl)
nothing_of (Deed.Read answer) h = absurd h

-- What deeds at side x made of stream id between two worlds.
pub record Grew (x : Side2) (id : ℕ) (ds : List Deed) (w v : World) : Type 0 where
  pub kept : (y : Side2) → IsKeptFrom y id v
  pub out : letters_out x id v ≡ letters_out x id w ++ outs_of ds
  pub ins : letters_in x id v ≡ letters_in x id w ++ ins_of ds
  pub out_there : letters_out (other_side x) id v ≡ letters_out (other_side x) id w
  pub ins_there : letters_in (other_side x) id v ≡ letters_in (other_side x) id w

module _ (x : Side2) (id : ℕ) where
  grew_nothing : (w : World) → ((y : Side2) → IsKeptFrom y id w) → Grew x id [] w w
  grew_nothing w kept = record {
    kept = kept;
    out = sym (append-nil (letters_out x id w));
    ins = sym (append-nil (letters_in x id w));
    out_there = refl;
    ins_there = refl;
  }

  grew_one : (d : Deed) (ds : List Deed) (w u v : World) → IsWorldStep (step_of x id d) w (reply_of d) u
      → Grew x id ds u v → Grew x id (d ∷ ds) w v
  grew_one d ds w u v h g =
      let wrote : letters_out x id u ≡ letters_out x id w ++ out_of d =
      out_grows (step_of x id d) (reply_of d) w u h x id
      ∙ ap (λ (z : List Letter). letters_out x id w ++ z) (accepted_here x id d w u.ends h.ends_step) in
      let read : letters_in x id u ≡ letters_in x id w ++ in_of d =
      in_grows (step_of x id d) (reply_of d) w u h x id
      ∙ ap (λ (z : List Letter). letters_in x id w ++ z) (read_here x id d) in
      record {
        kept = g.kept;
        out = g.out ∙ ap (λ (z : List Letter). z ++ outs_of ds) wrote
            ∙ append_assoc (letters_out x id w) (out_of d) (outs_of ds);
        ins = g.ins ∙ ap (λ (z : List Letter). z ++ ins_of ds) read
            ∙ append_assoc (letters_in x id w) (in_of d) (ins_of ds);
        out_there =
            g.out_there
            ∙ out_stays (step_of x id d) (reply_of d) w u h (other_side x) id (accepted_there x id id d w);
        ins_there =
            g.ins_there ∙ in_stays (step_of x id d) (reply_of d) w u h (other_side x) id (read_there x id id d);
      }

  grew_copy : (d : Deed) (ds : List Deed) (w v : World) → LacksCopy d → Grew x id ds w v → Grew x id (d ∷ ds) w v
  grew_copy d ds w v lacks g =
      let none = nothing_of d lacks in
      record {
        kept = g.kept;
        out = g.out ∙ ap (λ (z : List Letter). letters_out x id w ++ (z ++ outs_of ds)) (sym none.0);
        ins = g.ins ∙ ap (λ (z : List Letter). letters_in x id w ++ (z ++ ins_of ds)) (sym none.1);
        out_there = g.out_there;
        ins_there = g.ins_there;
      }

-- what holds of the last world, where it is reached, may be weakened
pub lead_map : (done : List (Step × Reply)) (w : World) (P Q : World → Type 0) → ((v : World) → P v → Q v)
    → LeadThen done w P → LeadThen done w Q
lead_map [] w P Q f h = f w h
lead_map (x ∷ xs) w P Q f (v, step, stands, next) =
    (v, step, stands, λ within. let n = next within in (n.0, lead_map xs v P Q f n.1))

-- Deeds at side x on stream id, as steps of the pair, and where these lead to.
pub record Done (x : Side2) (id : ℕ) (ds : List Deed) (p q : Ends) : Type 0 where
  pub done : List (Step × Reply)
  pub of_port : AreOfPort x id done
  pub wrote : wrote_by x id done ≡ bytes_in (outs_of ds)
  pub lead : (w : World) → Fits p w → ((y : Side2) → IsKeptFrom y id w)
      → LeadThen done w (λ v. Fits q v × Grew x id ds w v)

module _ (x : Side2) (id : ℕ) where
  done_step : (d : Deed) (ds : List Deed) (p u q : Ends) → StepsOn (step_of x id d) (reply_of d) p u
      → Done x id ds u q → Done x id (d ∷ ds) p q
  done_step d ds p u q on more = record {
    done = (step_of x id d, reply_of d) ∷ more.done;
    of_port = ((d, refl, refl), more.of_port);
    wrote =
        ap (λ (z : List (List ℕ)). z ++ wrote_by x id more.done) (wrote_here x id d)
        ∙ ap (λ (z : List (List ℕ)). bytes_in (out_of d) ++ z) more.wrote
        ∙ sym (map-append (λ (l : Letter). l.bytes) (out_of d) (outs_of ds));
    lead = λ w fits kept.
        let l = on.1 w fits in (
          l.0,
          l.1,
          subst (λ (z : Ends). StandsIn z l.0) l.2.is l.2,
          λ within. (
            l.3 within,
            lead_map more.done l.0 (λ v. Fits q v × Grew x id ds l.0 v) (λ v. Fits q v × Grew x id (d ∷ ds) w v)
                (λ v h. (h.0, grew_one x id d ds w l.0 v l.1 h.1))
                (more.lead l.0 (record { within = within; stand = l.2 })
                (λ y. kept_on (step_of x id d) (reply_of d) w l.0 l.1 y id (ends_none x id id d)
                (loosens_none x id y id d) (kept y))),
          ),
        );
  }

  done_copy : (d : Deed) (ds : List Deed) (p u q : Ends) → LacksCopy d → u ≡ p → Done x id ds u q
      → Done x id (d ∷ ds) p q
  done_copy d ds p u q lacks same more = record {
    done = more.done;
    of_port = more.of_port;
    wrote = more.wrote ∙ ap (λ (z : List Letter). bytes_in (z ++ outs_of ds)) (sym (nothing_of d lacks).0);
    lead = λ w fits kept.
        lead_map more.done w (λ v. Fits q v × Grew x id ds w v) (λ v. Fits q v × Grew x id (d ∷ ds) w v)
        (λ v h. (h.0, grew_copy x id d ds w v lacks h.1))
        (more.lead w (subst (λ (z : Ends). Fits z w) (sym same) fits) kept);
  }

pub deeds_done : (x : Side2) (id : ℕ) (ds : List Deed) (p q : Ends) → DoesAll (DoesAtPair x id) ds p q
    → Done x id ds p q
deeds_done x id [] p q same = record {
  done = [];
  of_port = tt;
  wrote = refl;
  lead = λ w fits kept. (subst (λ (z : Ends). Fits z w) (sym same) fits, grew_nothing x id w kept);
}
deeds_done x id (d ∷ ds) p q (u, does, rest) =
    ⊎_elim
    (λ (on : StepsOn (step_of x id d) (reply_of d) p u). done_step x id d ds p u q on (deeds_done x id ds u q rest))
    (λ (none : LacksCopy d × (u ≡ p)). done_copy x id d ds p u q none.0 none.1 (deeds_done x id ds u q rest))
    does
