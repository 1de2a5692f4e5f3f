-- A skip drops the same on both sides.
use Rattle.std.proofs.Common.{ℕ, ◌%◌, ◌^◌, ◌<◌, ◌≡◌, Bool, true, false, cond, not, ◌&&◌, ◌||◌, List, [], ◌∷◌, length}
use Rattle.std.proofs.Common.{filter, is_some, Option, Some, None, refl, sym, ap, ◌∙◌, ⊎_elim, arith}
use Rattle.std.specs.List.{AllByRecursion}
use Rattle.std.proofs.lemmas.Bool.{cases_Bool}
use Rattle.sctp_receive_queues.specs.Pieces.{is_complete}
use Rattle.sctp_receive_queues.specs.Reassembly.{Group, next_after_skip, stays, Reassembly, skipped}
use Rattle.sctp_serial.specs.Serial.{ssn_lte}
use Rattle.sctp_model.specs.Messages.{Plan, place_at}
use Rattle.sctp_model.specs.Packets.{Data, mem, data_at}
use Rattle.sctp_model.specs.Reassembly.{Queue, Run, message_in, skip}
use Rattle.sctp_model.specs.Safe.{AreRising, read_end, read_ssn}
use Rattle.sctp_model.specs.Machine.{live}
use Rattle.sctp_model.specs.Invariants.{IsPlanned}
use Rattle.sctp_model.proofs.NextOrdered.{IsNear, near_all, window_next}
use Rattle.sctp_model.proofs.Lists.{all_mem, all_weaker, mem-join}
use Rattle.sctp_reassembly.specs.Laws.{EmptyOnesStand, OrderedSkipsStand, TheInvariantGivesTheWindow}
use Rattle.sctp_reassembly.specs.Stands.{HeldMessage, IsOf, IsGroup, AreGroups, offsets_in, numbers_in, IsInWindow}
use Rattle.sctp_reassembly.specs.Stands.{StandsFor}
use Rattle.sctp_reassembly.proofs.ReadAnswers.{group_is, is_all}
use Rattle.sctp_reassembly.proofs.MessageRuns.{run_at}
use Rattle.sctp_reassembly.proofs.HeldMessages.{IsAlone, all_alone, and_none, at_filtered, full_from, nested}
use Rattle.sctp_reassembly.proofs.HeldMessages.{there_from}
use Rattle.sctp_reassembly.proofs.WholeMessages.{IsNearBy, message_is}

-- the messages whose number passes a test
abbrev pub those : (ℕ → Bool) → List HeldMessage → List HeldMessage
those keeps hs = filter (λ (h : HeldMessage). keeps h.number) hs

numbers_of_those : (P : ℕ → Type 0) (keeps : ℕ → Bool) (hs : List HeldMessage) → AllByRecursion P (numbers_in hs)
    → AllByRecursion P (numbers_in (those keeps hs))
numbers_of_those P keeps [] a = tt
numbers_of_those P keeps (h ∷ hs) a =
    ⊎_elim (λ (b : keeps h.number ≡ true). rw b (a.0, numbers_of_those P keeps hs a.1))
    (λ (b : keeps h.number ≡ false). rw b (numbers_of_those P keeps hs a.1)) (cases_Bool (keeps h.number))

rising_those : (keeps : ℕ → Bool) (hs : List HeldMessage) → AreRising (numbers_in hs)
    → AreRising (numbers_in (those keeps hs))
rising_those keeps [] r = tt
rising_those keeps (h ∷ hs) r =
    ⊎_elim
    (λ (b : keeps h.number ≡ true).
    rw b (numbers_of_those (λ (j : ℕ). h.number < j) keeps hs r.0, rising_those keeps hs r.1))
    (λ (b : keeps h.number ≡ false). rw b (rising_those keeps hs r.1))
    (cases_Bool (keeps h.number))

offsets_of_those : (initial : ℕ) (p : Plan) (s : ℕ) (keeps : ℕ → Bool) (gs : List Group) (hs : List HeldMessage) (x : ℕ)
    → AreGroups initial p s gs hs
    → mem x (offsets_in (those keeps hs)) ≡ (keeps (place_at p x).ssn && mem x (offsets_in hs))
offsets_of_those initial p s keeps gs [] x a = sym (and_none (keeps (place_at p x).ssn))
offsets_of_those initial p s keeps [] (h ∷ hs) x a = absurd a
offsets_of_those initial p s keeps (g ∷ gs) (h ∷ hs) x a =
    let more = offsets_of_those initial p s keeps gs hs x a.1 in
    ⊎_elim
    (λ (m : mem x h.offsets ≡ true).
    let i = all_mem (IsOf p s h.number) h.offsets x a.0.mine m in
    let e = i.is in
    ⊎_elim
    (λ (b : keeps h.number ≡ true).
    rw (b, mem-join x h.offsets (offsets_in (those keeps hs)), mem-join x h.offsets (offsets_in hs), m, ap keeps e ∙ b)
    refl)
    (λ (b : keeps h.number ≡ false). rw b (more ∙ rw (ap keeps e ∙ b) refl))
    (cases_Bool (keeps h.number)))
    (λ (m : mem x h.offsets ≡ false).
    ⊎_elim
    (λ (b : keeps h.number ≡ true).
    rw (b, mem-join x h.offsets (offsets_in (those keeps hs)), mem-join x h.offsets (offsets_in hs), m) more)
    (λ (b : keeps h.number ≡ false). rw (b, mem-join x h.offsets (offsets_in hs), m) more)
    (cases_Bool (keeps h.number)))
    (cases_Bool (mem x h.offsets))

-- a message stays past a skip where it lies past it, or all of it is there
abbrev pub keeps_past : List Data → ℕ → ℕ → Bool
keeps_past held m n = not (ssn_lte (n % 65536) m) || is_some (message_in held (n % 65536))

module _ (initial : ℕ) (p : Plan) (over : ℕ → Bool) (came : List ℕ) (s low cursor m : ℕ) (r : Reassembly)
    (q : Queue) (hp : IsPlanned p over) (v : over s ≡ false) (small : length p.places < 2 ^ 31)
    (w : IsInWindow p came s low cursor q) (st : StandsFor initial p s r q) where
  groups_of_those : (held : List Data) (keeps : ℕ → Bool) (gs : List Group) (hs : List HeldMessage)
      → AreGroups initial p s gs hs
      → AllByRecursion (IsAlone p s held) hs
      → ((g : Group) (h : HeldMessage) → IsGroup initial p s g h → IsAlone p s held h → stays m g ≡ keeps h.number)
      → AreGroups initial p s (filter (stays m) gs) (those keeps hs)
  groups_of_those held keeps [] [] a l f = tt
  groups_of_those held keeps [] (h ∷ hs) a l f = absurd a
  groups_of_those held keeps (g ∷ gs) [] a l f = absurd a
  groups_of_those held keeps (g ∷ gs) (h ∷ hs) a l f =
      let same = f g h a.0 l.0 in
      let more = groups_of_those held keeps gs hs a.1 l.1 f in
      ⊎_elim (λ (b : keeps h.number ≡ true). rw (same ∙ b, b) (a.0, more))
      (λ (b : keeps h.number ≡ false). rw (same ∙ b, b) more) (cases_Bool (keeps h.number))

  same_stays : (g : Group) (h : HeldMessage) → IsGroup initial p s g h → IsAlone p s q.ordered h
      → stays m g ≡ keeps_past q.ordered m h.number
  same_stays g h i a =
      let done = is_all p a.first a.rest in
      ap (λ z. not (ssn_lte z m) || is_complete g.pieces) i.ssn
      ∙ ap (λ z. not (ssn_lte (h.number % 65536) m) || z) (group_is small i a ∙ sym (
      ap (λ z. found z) (message_is came low hp v w.held w.near a.all)
      ∙ there done (run_at p a.first a.rest)))
    where
      found : Option Run → Bool
      found x = is_some x

      there : (b : Bool) (r : Run) → is_some (cond b (Some r) None) ≡ b
      there true r = refl
      there false r = refl

  skips_stand : StandsFor initial p s (skipped r m) (skip q m)
  skips_stand =
      let keeps = keeps_past q.ordered m in
      let alone =
      all_alone initial p s q.ordered r.ordered st.held st.ascends st.groups (there_from p q.ordered st.held st.same)
      (full_from p q.ordered st.held st.same) in
      record {
        held = those keeps st.held;
        groups = groups_of_those q.ordered keeps r.ordered st.held st.groups alone
            (λ g h i a. same_stays g h i a);
        ascends = rising_those keeps st.held st.ascends;
        same = λ o.
            at_filtered p (λ (d : Data). not (ssn_lte d.ssn m) || is_some (message_in q.ordered d.ssn)) o q.ordered
            (all_weaker _ _ q.ordered (λ d x. x.is) w.held)
            ∙ ap (λ z. cond (keeps (place_at p o).ssn) z None) (st.same o)
            ∙ nested (keeps (place_at p o).ssn) (mem o (offsets_in st.held)) (data_at p o)
            ∙ ap (λ z. cond z (Some (data_at p o)) None)
            (sym (offsets_of_those initial p s keeps r.ordered st.held o st.groups));
        next = ap (λ z. next_after_skip z m) st.next;
        waiting = st.waiting;
        complete = st.complete;
      }

pub ordered_skips_stand : OrderedSkipsStand
ordered_skips_stand = skips_stand

pub empty_ones_stand : EmptyOnesStand
empty_ones_stand initial p s = record {
  held = [];
  groups = tt;
  ascends = tt;
  same = λ o. refl;
  next = refl;
  waiting = record { offsets = []; runs = tt; ascends = tt; mine = tt; same = λ o. refl; exact = tt; incomplete = tt };
  complete = refl;
}

near_by : (p : Plan) (low : ℕ) (d : Data) → IsNear p low d → IsNearBy p low d
unfolding IsNear
near_by p low d n = n

pub the_invariant_gives_the_window : TheInvariantGivesTheWindow
the_invariant_gives_the_window w l i s v =
    let p = w.sender.plan in
    let h = (i.streams s v).ordered in
    let low = read_ssn p 0 (w.reads s) in
    let a = window_next p s low (read_end p 0 (w.reads s)) (w.sender.next s) (w.sender.ssn s) h.gap (l.unread s v) in
    let b = h.begun in (
      h.cursor,
      record {
        held = h.held;
        near = all_weaker _ _ (live (w.receiver.queues s)).ordered (λ d x. near_by p low d x.1)
            (near_all w.receiver.taken low (read_end p 0 (w.reads s))
            i.planned (live (w.receiver.queues s)).ordered h.held h.link (l.unread s v));
        is = h.is;
        above = h.above;
        until = omega arith;
      },
    )
