-- Two queues of the model for which one reassembly stands hold the same DATA: a TSN spells one offset.
use Rattle.std.proofs.Common.{◌≡◌, sym, ap, ◌∙◌, refl, ℕ, ◌<◌, ◌^◌, arith, cond, List, [], ◌∷◌, ◌++◌, length}
use Rattle.std.proofs.Common.{Some, None}
use Rattle.std.specs.List.{AllByRecursion}
use Rattle.sctp_wire_types.specs.declared.chunk.ChunkPayloadData.{ChunkPayloadData}
use Rattle.sctp_receive_queues.specs.Reassembly.{Group, Reassembly}
use Rattle.sctp_model.specs.Messages.{Plan}
use Rattle.sctp_model.specs.Packets.{Data, data_at, mem}
use Rattle.sctp_serial.specs.Serial.{tsn}
use Rattle.sctp_model.proofs.Lists.{all_weaker}
use Rattle.sctp_reassembly.specs.Stands.{AreGroups, AreRuns, AreWaiting, CarryDataOf, HeldMessage, IsLoose, IsOf}
use Rattle.sctp_reassembly.specs.Stands.{StandsFor, offsets_in, runs_of}
use Rattle.sctp_reassembly.proofs.OffsetRuns.{all_in, joined, joined_runs}
use Rattle.sctp_fit.specs.Arrivals.{AreAlike, ReadersArePinned}
use Rattle.sctp_model.specs.Reassembly.{Queue}

-- offsets less than half the range of TSNs
abbrev AreSmall : List ℕ → Type 0
AreSmall os = AllByRecursion (λ (o : ℕ). o < 2 ^ 31) os

-- a TSN is that of one offset alone
one_offset : (initial a b : ℕ) → a < 2 ^ 31 → b < 2 ^ 31 → tsn initial a ≡ tsn initial b → a ≡ b
one_offset initial a b la lb e = omega arith

module _ (initial : ℕ) (p : Plan) where
  -- some chunks are the DATA of the same offsets only
  same_offsets : (cs : List ChunkPayloadData) (xs ys : List ℕ) → CarryDataOf initial p cs xs
      → CarryDataOf initial p cs ys → AreSmall xs → AreSmall ys → xs ≡ ys
  same_offsets [] [] [] x y a b = refl
  same_offsets [] [] (o ∷ ys) x y a b = absurd y
  same_offsets [] (o ∷ xs) ys x y a b = absurd x
  same_offsets (c ∷ cs) [] ys x y a b = absurd x
  same_offsets (c ∷ cs) (o ∷ xs) [] x y a b = absurd y
  same_offsets (c ∷ cs) (o ∷ xs) (u ∷ ys) x y a b =
      ap (λ z. z ∷ xs) (one_offset initial o u a.0 b.0 (sym x.0.tsn ∙ y.0.tsn))
      ∙ ap (λ z. u ∷ z) (same_offsets cs xs ys x.1 y.1 a.1 b.1)

  -- so are they of the same runs
  same_runs : (cs : List (List ChunkPayloadData)) (xs ys : List (List ℕ)) → AreRuns initial p cs xs
      → AreRuns initial p cs ys → AllByRecursion AreSmall xs → AllByRecursion AreSmall ys → xs ≡ ys
  same_runs [] [] [] x y a b = refl
  same_runs [] [] (o ∷ ys) x y a b = absurd y
  same_runs [] (o ∷ xs) ys x y a b = absurd x
  same_runs (c ∷ cs) [] ys x y a b = absurd x
  same_runs (c ∷ cs) (o ∷ xs) [] x y a b = absurd y
  same_runs (c ∷ cs) (o ∷ xs) (u ∷ ys) x y a b =
      ap (λ z. z ∷ xs) (same_offsets c o u x.0 y.0 a.0 b.0)
      ∙ ap (λ z. u ∷ z) (same_runs cs xs ys x.1 y.1 a.1 b.1)

module _ (initial : ℕ) (p : Plan) (s : ℕ) (near : length p.places < 2 ^ 31) where
  -- the offsets of what is held are among those assigned
  small_of : (number : ℕ) (os : List ℕ) → AllByRecursion (IsOf p s number) os → AreSmall os
  small_of number os a = all_weaker (IsOf p s number) (λ (o : ℕ). o < 2 ^ 31) os
      (λ o i. let k = i.at.known in omega arith) a

  small_loose : (os : List ℕ) → AllByRecursion (IsLoose p s) os → AreSmall os
  small_loose os a = all_weaker (IsLoose p s) (λ (o : ℕ). o < 2 ^ 31) os
      (λ o i. let k = i.at.known in omega arith) a

  -- the same pieces of ordered messages are held
  same_groups : (gs : List Group) (hs ks : List HeldMessage) → AreGroups initial p s gs hs → AreGroups initial p s gs ks
      → offsets_in hs ≡ offsets_in ks
  same_groups [] [] [] x y = refl
  same_groups [] [] (k ∷ ks) x y = absurd y
  same_groups [] (h ∷ hs) ks x y = absurd x
  same_groups (g ∷ gs) [] ks x y = absurd x
  same_groups (g ∷ gs) (h ∷ hs) [] x y = absurd y
  same_groups (g ∷ gs) (h ∷ hs) (k ∷ ks) x y =
      ap (λ z. z ++ offsets_in hs)
      (same_offsets initial p g.pieces h.offsets k.offsets x.0.pieces y.0.pieces
      (small_of h.number h.offsets x.0.mine) (small_of k.number k.offsets y.0.mine))
      ∙ ap (λ z. k.offsets ++ z) (same_groups gs hs ks x.1 y.1)

  -- the same pieces of unordered messages wait
  same_waiting : (cs : List (List ChunkPayloadData)) (ds es : List Data) (x : AreWaiting initial p s cs ds)
      (y : AreWaiting initial p s cs es) → x.offsets ≡ y.offsets
  same_waiting cs ds es x y =
      sym (joined_runs p x.offsets)
      ∙ ap joined (same_runs initial p cs (runs_of p x.offsets) (runs_of p y.offsets) x.runs y.runs
      (all_in (λ (o : ℕ). o < 2 ^ 31) p x.offsets (small_loose x.offsets x.mine))
      (all_in (λ (o : ℕ). o < 2 ^ 31) p y.offsets (small_loose y.offsets y.mine)))
      ∙ joined_runs p y.offsets

module _ (initial : ℕ) (p : Plan) (s : ℕ) (r : Reassembly) (q u : Queue) (near : length p.places < 2 ^ 31)
    (x : StandsFor initial p s r q) (y : StandsFor initial p s r u) where
  -- a reassembly stands for no two queues that answer differently
  queues_alike : AreAlike q u
  queues_alike = record {
    cursor = sym x.next ∙ y.next;
    ordered =
        λ o. x.same o
        ∙ ap (λ z. cond (mem o z) (Some (data_at p o)) None)
        (same_groups initial p s near r.ordered x.held y.held x.groups y.groups)
        ∙ sym (y.same o);
    unordered =
        λ o. x.waiting.same o
        ∙ ap (λ z. cond (mem o z) (Some (data_at p o)) None)
        (same_waiting initial p s near r.unordered q.unordered u.unordered x.waiting y.waiting)
        ∙ sym (y.waiting.same o);
    complete = sym x.complete ∙ y.complete;
  }

pub readers_are_pinned : ReadersArePinned
readers_are_pinned = queues_alike
