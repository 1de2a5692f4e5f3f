-- What a read answers comes next, and is of an accepted message.
use Rattle.std.proofs.Common.{◌≡◌, refl, sym, ap, ◌∙◌, subst, ℕ, ◌<◌, Bool, true, false, eqb, ◌&&◌, if◌then◌else◌, List}
use Rattle.std.proofs.Common.{[], ◌∷◌, ◌++◌, length, map, Option, Some, None}
use Rattle.std.specs.Prelude.{IfSome}
use Rattle.std.specs.List.{AllByRecursion}
use Rattle.std.proofs.lemmas.Bool.{eq-eqb, ne_eqb}
use Rattle.std.proofs.lemmas.List.{append-nil, map-append}
use Rattle.sctp_receive_queues.specs.Messages.{ReceivedMessage}
use Rattle.sctp_model.specs.Messages.{Plan, message_at}
use Rattle.sctp_model.specs.Machine.{Direction}
use Rattle.sctp_model.specs.Reassembly.{Got}
use Rattle.sctp_model.specs.Safe.{IsSafe, Letter, Names, Tells, letter_read}
use Rattle.sctp_reassembly.specs.Stands.{IsReadAs, letter_received}
use Rattle.sctp_assoc.specs.declared.call.Reply.{Reply}
use Rattle.sctp_assoc.specs.declared.call.Reply.TheVariants as replies
use Rattle.sctp_steps.specs.declared.step.Side2.{Side2}
use Rattle.sctp_steps.specs.declared.step.Step.{Step}
use Rattle.sctp_steps.specs.declared.step.Step.TheVariants as steps
use Rattle.sctp_steps.specs.Ends.{Ends}
use Rattle.sctp_steps.specs.Seen.{is_side, message_read}
use Rattle.sctp_pair.specs.World.{IsWorldStep, World}
use Rattle.pair_callers.specs.BetweenWorlds.{GoesOn, GoesOnWithin, to_side}
use Rattle.pair_callers.specs.Reading.{AreNumbered, IsOfAccepted, ReadsNext, letter_at, letters_of, message_in}
use Rattle.pair_callers.proofs.StepsByDirection.{Leads, goes_on, goes_on_within, is_own, promised_to, step_to}

-- The message of a read

abbrev no_message : Option ReceivedMessage
no_message = None

none_either : (c : Bool) → no_message ≡ (if c then no_message else no_message)
none_either true = refl
none_either false = refl

read_answer : (x side : Side2) (id s : ℕ) (r : Reply)
    → message_read (steps.Read side id) r x s ≡ (if is_side side x && eqb id s then message_in r else None)
read_answer x side id s (replies.Read m) = refl
read_answer x side id s _ = none_either (is_side side x && eqb id s)

read_here : (side : Side2) (id : ℕ) (r : Reply) → message_read (steps.Read side id) r side id ≡ message_in r
read_here side id r =
    let e : (is_side side side && eqb id id) ≡ true = rw (is_own side, eq-eqb id id refl) refl in
    read_answer side side id id r ∙ ap (λ (c : Bool). if c then message_in r else None) e

read_other : (side : Side2) (id s : ℕ) (r : Reply) → (s ≡ id → ⊥) → message_read (steps.Read side id) r side s ≡ None
read_other side id s r ne =
    let e : (is_side side side && eqb id s) ≡ false = rw (is_own side, ne_eqb id s (λ (q : id ≡ s). ne (sym q))) refl in
    read_answer side side id s r ∙ ap (λ (c : Bool). if c then message_in r else None) e

pub grows_by : (m : Option ReceivedMessage) (before after : List Got) → IsReadAs m before after
    → map letter_read after ≡ map letter_read before ++ letters_of m
grows_by None before after e = ap (λ (gs : List Got). map letter_read gs) e ∙ sym (append-nil (map letter_read before))
grows_by (Some m) before after (g, e, l) =
    ap (λ (gs : List Got). map letter_read gs) e ∙ map-append letter_read before (g ∷ []) ∙ ap
    (λ (x : Letter). map letter_read before ++ x ∷ []) (sym l)

reads_next : (side : Side2) (id : ℕ) (r : Reply) (w v : World) → IsWorldStep (steps.Read side id) w r v
    → ReadsNext id (message_in r) (to_side side w) (to_side side v)
reads_next side id r w v h =
    let d = step_to side (steps.Read side id) r w v h in
    record {
      next = grows_by (message_in r) ((to_side side w).reads id) ((to_side side v).reads id)
          (subst (λ (m : Option ReceivedMessage). IsReadAs m ((to_side side w).reads id) ((to_side side v).reads id))
          (read_here side id r) (d.read id));
      others = λ s ne. ap (λ (gs : List Got). map letter_read gs)
          (subst (λ (m : Option ReceivedMessage). IsReadAs m ((to_side side w).reads s) ((to_side side v).reads s))
          (read_other side id s r ne) (d.read s));
    }

pub reads_on : (side : Side2) (id : ℕ) (r : Reply) (p q : Ends) → Leads (steps.Read side id) r p q
    → GoesOn p q (λ w v. ReadsNext id (message_in r) (to_side side w) (to_side side v))
reads_on side id r p q leads =
    goes_on (steps.Read side id) r p q (λ w v. ReadsNext id (message_in r) (to_side side w) (to_side side v))
    (λ w v before after. reads_next side id r w v) leads

-- Accepted messages

same_letter : (n m : ℕ) (bs cs : List ℕ) → n ≡ m → bs ≡ cs
    → (let x : Letter = record { payload_type = n; bytes = bs } in x)
    ≡ (let y : Letter = record { payload_type = m; bytes = cs } in y)
same_letter n m bs cs e f = rw (e, f) refl

told : (p : Plan) (taken : List ℕ) (s : ℕ) (g : Got) (i : ℕ) → Tells p taken s g i → letter_read g ≡ letter_at p s i
told p taken s g i t =
    same_letter g.payload_type (message_at p s i).payload_type g.bytes (message_at p s i).bytes t.payload_type t.bytes

last_named : (p : Plan) (taken : List ℕ) (s : ℕ) (before : List Got) (g : Got) (numbers : List ℕ)
    → Names p taken s (before ++ g ∷ []) numbers
    → (i : ℕ) × Tells p taken s g i
last_named p taken s [] g [] h = absurd h
last_named p taken s [] g (i ∷ is) h = (i, h.0)
last_named p taken s (x ∷ xs) g [] h = absurd h
last_named p taken s (x ∷ xs) g (i ∷ is) h = last_named p taken s xs g is h.1

of_accepted : (w : Direction) (s : ℕ) (m : ReceivedMessage) (before : List Got) → IsReadAs (Some m) before (w.reads s)
    → IsSafe w s → IsOfAccepted w s (letter_received m)
of_accepted w s m before (g, e, l) safe =
    let n = safe.read in
    let t = last_named w.sender.plan w.receiver.taken s before g n.0 (subst
    (λ (gs : List Got). Names w.sender.plan w.receiver.taken s gs n.0) e n.1.named) in
    record {
      number = t.0;
      accepted = t.1.whole.accepted;
      tells = l ∙ told w.sender.plan w.receiver.taken s g t.0 t.1;
      whole = t.1.whole;
    }

pub reads_accepted : (side : Side2) (id : ℕ) (r : Reply) (p q : Ends) → Leads (steps.Read side id) r p q
    → IfSome (message_in r) (λ m. GoesOnWithin p q (λ w v. (to_side side v).over id ≡ false
    → IsOfAccepted (to_side side v) id (letter_received m)))
reads_accepted side id (replies.Read None) p q leads = tt
reads_accepted side id (replies.Read (Some m)) p q leads =
    goes_on_within (steps.Read side id) (replies.Read (Some m)) p q (λ w v. (to_side side v).over id ≡ false →
    IsOfAccepted (to_side side v) id (letter_received m))
    (λ w v before after h safe span.
    let d = step_to side (steps.Read side id) (replies.Read (Some m)) w v h in
    of_accepted (to_side side v) id m ((to_side side w).reads id)
    (subst (λ (x : Option ReceivedMessage). IsReadAs x ((to_side side w).reads id) ((to_side side v).reads id))
    (read_here side id (replies.Read (Some m))) (d.read id))
    ((promised_to side v safe).safe id span))
    leads
reads_accepted side id _ p q leads = tt

-- All that was read

pub tell_all : (p : Plan) (taken : List ℕ) (s : ℕ) (gots : List Got) (numbers : List ℕ) → Names p taken s gots numbers
    → map letter_read gots ≡ map (letter_at p s) numbers
tell_all p taken s [] [] h = refl
tell_all p taken s [] (i ∷ is) h = absurd h
tell_all p taken s (g ∷ gs) [] h = absurd h
tell_all p taken s (g ∷ gs) (i ∷ is) h =
    ap (λ (x : Letter). x ∷ map letter_read gs) (told p taken s g i h.0)
    ∙ ap (λ (xs : List Letter). letter_at p s i ∷ xs) (tell_all p taken s gs is h.1)

all_accepted : (p : Plan) (taken : List ℕ) (s : ℕ) (gots : List Got) (numbers : List ℕ) → Names p taken s gots numbers
    → AllByRecursion (λ (i : ℕ). i < length (p.accepted s)) numbers
all_accepted p taken s [] [] h = tt
all_accepted p taken s [] (i ∷ is) h = absurd h
all_accepted p taken s (g ∷ gs) [] h = absurd h
all_accepted p taken s (g ∷ gs) (i ∷ is) h = (h.0.whole.accepted, all_accepted p taken s gs is h.1)

pub are_numbered : (w : Direction) (s : ℕ) → IsSafe w s → AreNumbered w s
are_numbered w s safe =
    let n = safe.read in
    record {
      numbers = n.0;
      tell = tell_all w.sender.plan w.receiver.taken s (w.reads s) n.0 n.1.named;
      accepted = all_accepted w.sender.plan w.receiver.taken s (w.reads s) n.0 n.1.named;
      once = n.1.once;
      rising = n.1.rising;
    }

pub numbered : (step : Step) (r : Reply) (p q : Ends) → Leads step r p q → (side : Side2) (s : ℕ)
    → GoesOnWithin p q (λ w v. (to_side side v).over s ≡ false → AreNumbered (to_side side v) s)
numbered step r p q leads side s =
    goes_on_within step r p q (λ w v. (to_side side v).over s ≡ false → AreNumbered (to_side side v) s)
    (λ w v before after h safe span. are_numbered (to_side side v) s ((promised_to side v safe).safe s span)) leads
