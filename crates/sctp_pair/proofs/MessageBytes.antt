-- Messages as their bytes alone: what a safe stream read is, as bytes, a front of what was accepted on it.
use Rattle.std.proofs.Common.{◌≡◌, refl, sym, ap, ◌∙◌, ⊎_elim, ℕ, zero, suc, ◌<◌, arith, true, false, List, [], ◌∷◌}
use Rattle.std.proofs.Common.{◌++◌, length, map, take, drop, get_or, Option, Some, None}
use Rattle.std.proofs.lemmas.Bool.{cases_Bool}
use Rattle.std.proofs.lemmas.List.{append-nil, append_assoc, map-append, take-append-drop}
use Rattle.std.specs.List.{AllByRecursion}
use Rattle.sctp_receive_queues.specs.Messages as letters
use Rattle.sctp_model.specs.Messages.{Message, Plan, is_reliable, message_at, no_message}
use Rattle.sctp_model.specs.Packets.{mem}
use Rattle.sctp_model.specs.Reassembly.{Got, ready}
use Rattle.sctp_model.specs.Machine.{Direction, live}
use Rattle.sctp_model.specs.Safe.{IsKeptOrdered, IsKeptReliable, IsSafe, IsTaken, Letter, Names, letter_read}
use Rattle.sctp_model.specs.Safe.{letter_written}
use Rattle.sctp_reassembly.specs.Stands.{IsReadAs}
use Rattle.sctp_pair.specs.Callers.{IsFrontOf, bytes_of}
use Rattle.sctp_pair.specs.World.{IsOrderedAndReliable}

abbrev pub bytes_accepted : List Message → List (List ℕ)
bytes_accepted ms = map (λ (m : Message). m.bytes) ms

abbrev pub bytes_got : List Got → List (List ℕ)
bytes_got gs = map (λ (g : Got). g.bytes) gs

bytes_in : List Letter → List (List ℕ)
bytes_in ls = map (λ (l : Letter). l.bytes) ls

of_letters_read : (gs : List Got) → bytes_in (map letter_read gs) ≡ bytes_got gs
unfolding bytes_in
of_letters_read [] = refl
of_letters_read (g ∷ gs) = ap (λ z. g.bytes ∷ z) (of_letters_read gs)

of_letters_written : (ms : List Message) → bytes_in (map letter_written ms) ≡ bytes_accepted ms
unfolding bytes_in
of_letters_written [] = refl
of_letters_written (m ∷ ms) = ap (λ z. m.bytes ∷ z) (of_letters_written ms)

-- A message that is read comes behind those read before.
pub read_grows : (m : Option letters.ReceivedMessage) (before after : List Got) → IsReadAs m before after
    → bytes_got after ≡ bytes_got before ++ bytes_of m
read_grows None before after e = ap bytes_got e ∙ sym (append-nil (bytes_got before))
read_grows (Some m) before after (g, e, l) =
    ap bytes_got e ∙ map-append (λ (x : Got). x.bytes) before (g ∷ [])
    ∙ ap (λ z. bytes_got before ++ z ∷ []) (ap (λ (x : Letter). x.bytes) (sym l))

-- Kept messages

each_kept : (ms : List Message) → AllByRecursion IsOrderedAndReliable ms → (i : ℕ) → i < length ms
    → IsOrderedAndReliable (get_or ms i no_message)
each_kept [] a i b = absurd (omega arith)
each_kept (m ∷ ms) a zero b = a.0
each_kept (m ∷ ms) a (suc i) b = each_kept ms a.1 i (omega arith)

-- Fronts

-- the first n messages were read or are ready, and those that were read are the first of them
front_of : (gs more : List Got) (ms : List Message) (n : ℕ)
    → map letter_read (gs ++ more) ≡ map letter_written (take n ms)
    → IsFrontOf (bytes_got gs) (bytes_accepted ms)
front_of gs more ms n e = (
  bytes_got more ++ bytes_accepted (drop n ms),
  ap bytes_accepted (sym (take-append-drop n ms)) ∙ map-append (λ (m : Message). m.bytes) (take n ms) (drop n ms)
      ∙ ap (λ z. z ++ bytes_accepted (drop n ms)) (sym first)
      ∙ append_assoc (bytes_got gs) (bytes_got more) (bytes_accepted (drop n ms)),
)
  where
    first : bytes_got gs ++ bytes_got more ≡ bytes_accepted (take n ms)
    first =
        sym (map-append (λ (g : Got). g.bytes) gs more) ∙ sym (of_letters_read (gs ++ more)) ∙ ap bytes_in e
        ∙ of_letters_written (take n ms)

-- On a safe stream on which all messages are kept, what was read is a front of what was accepted.
pub reads_are_a_front : (w : Direction) (s : ℕ) → IsSafe w s
    → AllByRecursion IsOrderedAndReliable (w.sender.plan.accepted s)
    → IsFrontOf (bytes_got (w.reads s)) (bytes_accepted (w.sender.plan.accepted s))
reads_are_a_front w s safe kept =
    let ordered : IsKeptOrdered w.sender.plan s = λ i b. (each_kept (w.sender.plan.accepted s) kept i b).ordered in
    let reliable : IsKeptReliable w.sender.plan s =
    λ i b. ap is_reliable (each_kept (w.sender.plan.accepted s) kept i b).reliable in
    ⊎_elim
    (λ (o : w.receiver.is_open ≡ true).
    let x = safe.prefix ordered reliable o in
    front_of (w.reads s) (ready (live (w.receiver.queues s))) (w.sender.plan.accepted s) x.0 x.2)
    (λ (c : w.receiver.is_open ≡ false).
    let x = safe.front ordered reliable c in
    front_of (w.reads s) [] (w.sender.plan.accepted s) x.1
    (ap (λ (gs : List Got). map letter_read gs) (append-nil (w.reads s)) ∙ x.4))
    (cases_Bool w.receiver.is_open)

-- Nothing taken in

none_named : (p : Plan) (taken : List ℕ) (s : ℕ) (gs : List Got) (ns : List ℕ) → Names p taken s gs ns
    → ((o : ℕ) → mem o taken ≡ true → ⊥) → ((i : ℕ) → i < length (p.accepted s) → 0 < length (message_at p s i).bytes)
    → gs ≡ []
none_named p taken s [] ns h none filled = refl
none_named p taken s (g ∷ gs) [] h none filled = absurd h
none_named p taken s (g ∷ gs) (i ∷ is) (told, rest) none filled =
    let some = filled i told.whole.accepted in
    let piece : IsTaken p taken s i 0 = told.whole.pieces 0 (omega (arith, some)) in
    absurd (none piece.offset piece.taken_in)

-- As long as no DATA was taken in nothing was read.
pub nothing_read_of_none : (w : Direction) (s : ℕ) → IsSafe w s → ((o : ℕ) → mem o w.receiver.taken ≡ true → ⊥)
    → ((i : ℕ) → i < length (w.sender.plan.accepted s) → 0 < length (message_at w.sender.plan s i).bytes)
    → w.reads s ≡ []
nothing_read_of_none w s safe none filled =
    none_named w.sender.plan w.receiver.taken s (w.reads s) (safe.read).0 (safe.read).1.named none filled
