-- What a read answers is the same on both sides.
use Rattle.std.proofs.Common.{ℕ, ◌%◌, ◌^◌, ◌<◌, ◌≤◌, ◌≡◌, Bool, true, false, cond, not, eqb, ltb, leb, ◌&&◌, List, []}
use Rattle.std.proofs.Common.{◌∷◌, length, map, Option, Some, None, refl, sym, ap, ◌∙◌, subst, ⊎_elim, arith}
use Rattle.std.proofs.lemmas.Bool.{cases_lt, lt-ltb, le-ltb, lt-leb, le-leb}
use Rattle.sctp_serial.specs.Serial.{ssn_lte, ssn_lt}
use Rattle.sctp_receive_queues.specs.Messages.{ReceivedMessage, message_of as the_message}
use Rattle.sctp_receive_queues.specs.Pieces.{is_complete}
use Rattle.sctp_receive_queues.specs.Reassembly.{Group, Reassembly, after_read, is_due, read_from, read_ordered, taken}
use Rattle.sctp_model.specs.Messages.{Plan, place_at}
use Rattle.sctp_model.specs.Packets.{Data, mem, data_at}
use Rattle.sctp_model.specs.Reassembly.{Got, Queue, Run, at, got_of, least, message_in, without, taken_out, next_of}
use Rattle.sctp_model.specs.Reassembly.{next_from, next_ordered, next}
use Rattle.sctp_model.specs.Safe.{AreRising, letter_read}
use Rattle.sctp_model.specs.Invariants.{IsPlanned}
use Rattle.sctp_model.proofs.Lists.{all_weaker, all_mem}
use Rattle.sctp_model.proofs.NumberWindows.{before_is, up_to_is}
use Rattle.sctp_reassembly.specs.Laws.{ReadsAnswerAlike}
use Rattle.sctp_reassembly.specs.Stands.{HeldMessage, IsGroup, AreGroups, CarryDataOf, offsets_in, numbers_in}
use Rattle.sctp_reassembly.specs.Stands.{letter_received}
use Rattle.sctp_reassembly.specs.Stands.{StandsFor, IsInWindow, IsAnsweredAlike}
use Rattle.sctp_reassembly.proofs.HeldMessages.{IsAlone, first_alone, full_from, in_from, nothing_held, number_in}
use Rattle.sctp_reassembly.proofs.HeldMessages.{there_from, BeginsWith}
use Rattle.sctp_reassembly.proofs.WholeMessages.{message_is, complete_is, letter_is}
use Rattle.sctp_reassembly.proofs.MessageRuns.{is_rest, run_at}
use Rattle.sctp_reassembly.proofs.ReadsAlike.{in_window, least_first, stands_after}

-- the message of these offsets is all there
abbrev pub is_all : Plan → ℕ → List ℕ → Bool
is_all p o rest = eqb (place_at p o).piece 0 && is_rest p (o ∷ rest)

module _ {initial : ℕ} {p : Plan} {s : ℕ} {held : List Data} {g : Group} {h : HeldMessage}
    (small : length p.places < 2 ^ 31) (i : IsGroup initial p s g h) (a : IsAlone p s held h) where
  -- a group is complete where all of its message is there
  pub group_is : is_complete g.pieces ≡ is_all p a.first a.rest
  group_is =
      complete_is initial p g.pieces a.first a.rest (subst (CarryDataOf initial p g.pieces) a.offsets i.pieces)
      (all_weaker _ _ (a.first ∷ a.rest) (λ x m. let k = m.at.known in omega arith) a.all.from.mine)

module _ {initial : ℕ} {p : Plan} {over : ℕ → Bool} {came : List ℕ} {s low cursor : ℕ} {r : Reassembly}
    {q : Queue} (hp : IsPlanned p over) (v : over s ≡ false) (small : length p.places < 2 ^ 31)
    (w : IsInWindow p came s low cursor q) (st : StandsFor initial p s r q) where
  -- it is due where its number isn't past the cursor
  first_due : (g : Group) (h : HeldMessage) → IsGroup initial p s g h → IsAlone p s q.ordered h
      → (ssn_lte g.ssn r.next_ssn ≡ leb h.number cursor)
      × (ssn_lt q.cursor (h.number % 65536) ≡ not (leb h.number cursor))
  first_due g h i a =
      let b = in_window w a.first a.all.from.there.0 in
      let b0 = b.0 in
      let b1 = b.1 in
      let n = a.all.from.mine.0.is in
      let above = w.above in
      let until = w.until in (
        ap (λ z. ssn_lte z r.next_ssn) i.ssn ∙ ap (ssn_lte (h.number % 65536)) (st.next ∙ w.is)
            ∙ up_to_is h.number cursor (omega arith) (omega arith),
        ap (λ z. ssn_lt z (h.number % 65536)) w.is ∙ before_is cursor h.number (omega arith) (omega arith)
            ∙ turned cursor h.number,
      )
    where
      turned : (a b : ℕ) → ltb a b ≡ not (leb b a)
      turned a b =
          ⊎_elim (λ (l : a < b). lt-ltb a b l ∙ ap not (sym (lt-leb b a l)))
          (λ (g : b ≤ a). le-ltb a b g ∙ ap not (sym (le-leb b a g))) (cases_lt a b)

  decided : (after : Reassembly) (m : ReceivedMessage) (n : ℕ) (run : Run) (t c : Bool)
      → (letter_received m ≡ letter_read (got_of run)) × StandsFor initial p s after (without q n)
      → IsAnsweredAlike initial p s q (cond (t && c) (after, Some m) (r, None))
      (cond (not t) None (taken_out q n (cond c (Some run) None)))
  decided after m n run true true a = a
  decided after m n run true false a = st
  decided after m n run false c a = st

  first_answered : (g : Group) (gs : List Group) (h : HeldMessage) (hs : List HeldMessage)
      → AreGroups initial p s (g ∷ gs) (h ∷ hs)
      → AreRising (numbers_in (h ∷ hs)) → st.held ≡ h ∷ hs → IsAlone p s q.ordered h
      → ((o : ℕ) (d : Data) → at o q.ordered ≡ Some d → h.number ≤ (place_at p o).ssn)
      → IsAnsweredAlike initial p s q (read_ordered r (g ∷ gs)) (next_ordered q)
  first_answered g gs h hs a rise e alone below =
      let n : ℕ = h.number % 65536 in
      let due = first_due g h a.0 alone in
      let done = is_all p alone.first alone.rest in
      let run = run_at p alone.first alone.rest in
      let begin : BeginsWith initial p s q.ordered g gs h hs = record { groups = a; rising = rise.0; alone = alone } in
      let after : Reassembly = record r { next_ssn = after_read g.ssn r.next_ssn; ordered = gs } in
      let is : is_due r.next_ssn (Some g) ≡ (leb h.number cursor && done)
      =
      ap (λ z. z && is_complete g.pieces) due.0
      ∙ ap (λ z. leb h.number cursor && z) (group_is small a.0 alone) in
      let other : next_ordered q ≡ cond (not (leb h.number cursor)) None (taken_out q n (cond done (Some run) None))
      = ap (next_of q) (least_first w h alone below)
      ∙ ap (λ z. cond z None (taken_out q n (message_in q.ordered n))) due.1
      ∙ ap (λ z. cond (not (leb h.number cursor)) None (taken_out q n z))
      (message_is came low hp v w.held w.near alone.all) in
      subst (λ z. IsAnsweredAlike initial p s q (read_ordered r (g ∷ gs)) z) (sym other)
      (subst (λ z. IsAnsweredAlike initial p s q (cond z (after, Some (the_message g.pieces)) (r, None))
      (cond (not (leb h.number cursor)) None (taken_out q n (cond done (Some run) None)))) (sym is)
      (decided after (the_message g.pieces) n run (leb h.number cursor) done (
        letter_is initial p g.pieces alone.first alone.rest
            (subst (CarryDataOf initial p g.pieces) alone.offsets a.0.pieces),
        stands_after w begin r st e,
      )))

  -- the first message held has the least number
  least_number : (gs : List Group) (h : HeldMessage) (hs : List HeldMessage) → AreGroups initial p s gs (h ∷ hs)
      → AreRising (numbers_in (h ∷ hs))
      → ((o : ℕ) → at o q.ordered ≡ cond (mem o (offsets_in (h ∷ hs))) (Some (data_at p o)) None) → (o : ℕ) (d : Data)
      → at o q.ordered ≡ Some d → h.number ≤ (place_at p o).ssn
  least_number gs h hs a rise same o d e =
      all_mem (λ (j : ℕ). h.number ≤ j) (numbers_in (h ∷ hs)) (place_at p o).ssn
      (le_refl_of h.number, all_weaker _ _ (numbers_in hs) (λ j (l : h.number < j). omega arith) rise.0)
      (number_in initial p s gs (h ∷ hs) o a (in_from p q.ordered (h ∷ hs) same o d e))
    where
      le_refl_of : (n : ℕ) → n ≤ n
      le_refl_of n = omega arith

  ordered_answered : (gs : List Group) (hs : List HeldMessage) → AreGroups initial p s gs hs → AreRising (numbers_in hs)
      → ((o : ℕ) → at o q.ordered ≡ cond (mem o (offsets_in hs)) (Some (data_at p o)) None) → st.held ≡ hs
      → IsAnsweredAlike initial p s q (read_ordered r gs) (next_ordered q)
  ordered_answered [] [] a rise same e =
      subst (λ z. IsAnsweredAlike initial p s q (r, None) (next_of q z))
      (sym (ap the_least (nothing_held q.ordered same))) st
    where
      the_least : List Data → Option ℕ
      the_least ds = least ds
  ordered_answered [] (h ∷ hs) a rise same e = absurd a
  ordered_answered (g ∷ gs) [] a rise same e = absurd a
  ordered_answered (g ∷ gs) (h ∷ hs) a rise same e =
      first_answered g gs h hs a rise e
      (first_alone q.ordered hs rise a.0 gs a.1 (there_from p q.ordered (h ∷ hs) same)
      (full_from p q.ordered (h ∷ hs) same))
      (least_number (g ∷ gs) h hs a rise same)

  pub answered : IsAnsweredAlike initial p s q (taken r) (next q)
  answered = go r.complete q.complete refl refl st.complete
    where
      go : (ms : List ReceivedMessage) (gots : List Got) → r.complete ≡ ms → q.complete ≡ gots
          → map letter_received ms ≡ map letter_read gots
          → IsAnsweredAlike initial p s q (read_from r ms) (next_from q gots)
      go [] [] e f l =
          ordered_answered r.ordered st.held st.groups
          st.ascends st.same refl
      go [] (x ∷ xs) e f l = absurd (cc)
      go (m ∷ ms) [] e f l = absurd (cc)
      go (m ∷ ms) (x ∷ xs) e f l = (
        (let y : letter_received m ≡ letter_read x = cc in y),
        record {
          held = st.held;
          groups = st.groups;
          ascends = st.ascends;
          same = st.same;
          next = st.next;
          waiting = st.waiting;
          complete = (let y : map letter_received ms ≡ map letter_read xs = cc in y);
        },
      )

pub reads_answer_alike : ReadsAnswerAlike
reads_answer_alike initial p over came s low cursor r q = answered
