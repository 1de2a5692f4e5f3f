-- Ordered messages whose SSNs ascend.
use Rattle.std.proofs.Common.{◌≡◌, ◌≢◌, ℕ, ◌+◌, ◌-◌, ◌<◌, ◌≤◌, ◌^◌, true, false, eqb, List, length, refl, sym}
use Rattle.std.proofs.Common.{◌∙◌, ap, ⊎_elim, arith, get_or, set, Option, Some, None, insert, Result, Ok, Err}
use Rattle.std.proofs.Common.{slice_get, unwrap_or, OnOk, OnErr, option_to_list, ◌++◌, ◌∷◌, [], suc}
use Rattle.std.proofs.lemmas.Bool.{cases_Bool, cases_lt, cases_eq, ne_eqb, eq-eqb}
use Rattle.std.proofs.lemmas.Bool.Decides.{nat_tests}
use Rattle.std.proofs.lemmas.List.{get_or-set_same, get_or-set_other, get_or_default, length-set}
use Rattle.std.proofs.lemmas.List.Edits.{length-insert, get_or-insert_at, get_or-insert_below, get_or-insert_above}
use Rattle.std.proofs.lemmas.List.Edits.{insert_end}
use Rattle.std.proofs.lemmas.Option.{slice_get-get_or}
use Rattle.sctp_serial.specs.Serial.{ssn_lt, ssn_past}
use Rattle.sctp_receive_queues.proofs.Searches.{absent, found}
use Rattle.sctp_wire_types.specs.declared.chunk.ChunkPayloadData.{ChunkPayloadData}
use Rattle.sctp_wire_types.specs.declared.error.Error.{Error}
use Rattle.sctp_receive_queues.specs.Ascending.{Ascend, AreEndsBefore, AreEndsBehind, IsBefore, IsBehind}
use Rattle.sctp_receive_queues.specs.Reassembly.{Group, grown, grown_at, put_at, index_of_ssn, index_for_ssn}

-- the test of serial numbers as bounds, where the first is in range
record IsLess (a b : ℕ) : Type 0 where
  pub in_range : a < 2 ^ 16
  pub past : 0 < ssn_past a b
  pub near : ssn_past a b < 2 ^ 15

is_less : (a b : ℕ) → a < 2 ^ 16 → ssn_lt a b ≡ true → IsLess a b
is_less a b r e =
    record { in_range = r; past = grind (arith, nat_tests, e); near = grind (arith, nat_tests, e) }

less_is : (a b : ℕ) → 0 < ssn_past a b → ssn_past a b < 2 ^ 15 → ssn_lt a b ≡ true
less_is a b past near = grind (arith, nat_tests, past, near)

-- an SSN between two that are before this one is before it too
between_before : {f g l s : ℕ} → s < 2 ^ 16 → IsLess f g → IsLess g l → IsLess f l → IsLess f s → IsLess l s
    → ssn_lt g s ≡ true
between_before {g = g} {s = s} b fg gl fl fs ls =
    less_is g s
    (omega (
      arith,
      b,
      fg.in_range,
      gl.in_range,
      ls.in_range,
      fg.past,
      fg.near,
      gl.past,
      gl.near,
      fl.past,
      fl.near,
      fs.past,
      fs.near,
      ls.past,
      ls.near,
    ))
    (omega (
      arith,
      b,
      fg.in_range,
      gl.in_range,
      ls.in_range,
      fg.past,
      fg.near,
      gl.past,
      gl.near,
      fl.past,
      fl.near,
      fs.past,
      fs.near,
      ls.past,
      ls.near,
    ))

-- an SSN between two that are past this one is past it too
between_behind : {f g l s : ℕ} → l < 2 ^ 16 → IsLess f g → IsLess g l → IsLess f l → IsLess s f → IsLess s l
    → ssn_lt s g ≡ true
between_behind {g = g} {s = s} b fg gl fl sf sl =
    less_is s g
    (omega (
      arith,
      b,
      fg.in_range,
      gl.in_range,
      sf.in_range,
      fg.past,
      fg.near,
      gl.past,
      gl.near,
      fl.past,
      fl.near,
      sf.past,
      sf.near,
      sl.past,
      sl.near,
    ))
    (omega (
      arith,
      b,
      fg.in_range,
      gl.in_range,
      sf.in_range,
      fg.past,
      fg.near,
      gl.past,
      gl.near,
      fl.past,
      fl.near,
      sf.past,
      sf.near,
      sl.past,
      sl.near,
    ))

-- an SSN before another is not the same
less_apart : (a b : ℕ) → a < 2 ^ 16 → b < 2 ^ 16 → ssn_lt a b ≡ true → eqb a b ≡ false
less_apart a b ba bb e = let l = is_less a b ba e in ne_eqb a b (λ same. omega (arith, same, l.past, ba, bb))

-- and that one is not before it
less_one_way : (a b : ℕ) → a < 2 ^ 16 → b < 2 ^ 16 → ssn_lt a b ≡ true → ssn_lt b a ≡ false
less_one_way a b ba bb e =
    let l = is_less a b ba e in
    ⊎_elim
    (λ (r : ssn_lt b a ≡ true).
    let m = is_less b a bb r in absurd (omega (arith, l.past, l.near, m.past, m.near, ba, bb)))
    (λ (r : ssn_lt b a ≡ false). r)
    (cases_Bool (ssn_lt b a))

-- Ends speak for what is between them.

-- an SSN, and messages whose SSNs ascend
module _ (gs : List Group) (s : ℕ) (a : Ascend gs) (b : s < 2 ^ 16) where
  -- where the ends in front of an index are before the SSN, all in front of it are
  all_before : (index : ℕ) → index ≤ length gs → AreEndsBefore gs index s → (k : ℕ) (d : Group) → k < index
      → IsBefore s (get_or gs k d)
  all_before index le e k d h =
      let ends = e (omega (arith, h)) in
      let first = ends.0 d in
      let last = ends.1 d in
      ⊎_elim
      (λ (z : 0 < k).
      ⊎_elim
      (λ (w : k < index - 1).
      let fg = a 0 k d z (omega (arith, h, le)) in
      let gl = a k (index - 1) d w (omega (arith, h, le)) in
      let fl = a 0 (index - 1) d (omega (arith, z, w)) (omega (arith, h, le)) in (
        gl.0,
        between_before b (is_less _ _ fg.0 fg.1) (is_less _ _ gl.0 gl.1) (is_less _ _ fl.0 fl.1)
            (is_less _ _ first.0 first.1) (is_less _ _ last.0 last.1),
      ))
      (λ (w : index - 1 ≤ k). let same : k ≡ index - 1 = omega (arith, h, w) in rw same last)
      (cases_lt k (index - 1)))
      (λ (z : k ≤ 0). let same : k ≡ 0 = omega (arith, z) in rw same first)
      (cases_lt 0 k)

  -- where the ends from an index on are past the SSN, all from it on are
  all_behind : (index : ℕ) → AreEndsBehind gs index s → (k : ℕ) (d : Group) → index ≤ k → k < length gs
      → IsBehind s (get_or gs k d)
  all_behind index e k d le h =
      let ends = e (omega (arith, le, h)) in
      let first = ends.0 d in
      let last = ends.1 d in
      ⊎_elim
      (λ (z : index < k).
      ⊎_elim
      (λ (w : k < length gs - 1).
      let fg = a index k d z h in
      let gl = a k (length gs - 1) d w (omega (arith, h)) in
      let fl = a index (length gs - 1) d (omega (arith, z, w)) (omega (arith, h)) in (
        gl.0,
        between_behind last.0 (is_less _ _ fg.0 fg.1) (is_less _ _ gl.0 gl.1) (is_less _ _ fl.0 fl.1)
            (is_less _ _ b first.1) (is_less _ _ b last.1),
      ))
      (λ (w : length gs - 1 ≤ k). let same : k ≡ length gs - 1 = omega (arith, h, w) in rw same last)
      (cases_lt k (length gs - 1)))
      (λ (z : k ≤ index). let same : k ≡ index = omega (arith, z, le) in rw same first)
      (cases_lt index k)

  -- Searches from the end.

  -- where the SSN is past the ends no message has it
  pub none_has : AreEndsBefore gs (length gs) s → index_of_ssn s gs ≡ None
  none_has e =
      absent (λ (g : Group). eqb g.ssn s) gs
      (λ k d h. let f = all_before (length gs) (omega arith) e k d h in less_apart (get_or gs k d).ssn s f.0 b f.1)

  -- and its index is the end
  pub end_is_index : AreEndsBefore gs (length gs) s → index_for_ssn s gs ≡ length gs
  end_is_index e =
      let none =
      absent (λ (g : Group). ssn_lt s g.ssn) gs
      (λ k d h. let f = all_before (length gs) (omega arith) e k d h in
      less_one_way (get_or gs k d).ssn s f.0 b f.1) in
      rw none refl

-- the last message's SSN is of no other
pub newest_has : (gs : List Group) (last : Group) → Ascend gs → 0 < length gs → last.ssn < 2 ^ 16
    → last ≡ get_or gs (length gs - 1) last → index_of_ssn last.ssn gs ≡ Some (length gs - 1)
newest_has gs last a some b is =
    found (λ (g : Group). eqb g.ssn last.ssn) gs (length gs - 1) last (omega (arith, some))
    (λ k h. let f = a k (length gs - 1) last h (omega (arith, some)) in
    less_apart (get_or gs k last).ssn last.ssn f.0 b (rw (← is) at f.1))
    (rw (← is) (eq-eqb last.ssn last.ssn refl))

-- Changes that keep the order.

same_ascend : (gs hs : List Group) → gs ≡ hs → Ascend hs → Ascend gs
same_ascend gs hs e a = rw e a

-- behind the index of a new message each stands one further
above_place : (gs : List Group) (index : ℕ) (x d : Group) (k : ℕ) → index ≤ length gs → index < k
    → get_or (insert gs index x) k d ≡ get_or gs (k - 1) d
above_place gs index x d k le h =
    let same : k - 1 + 1 ≡ k = omega (arith, h) in
    ap (λ (n : ℕ). get_or (insert gs index x) n d) (sym same) ∙
    get_or-insert_above gs index x d (k - 1) (omega (arith, h)) le

-- a message between those before it and those past it
module _ (gs : List Group) (index : ℕ) (x : Group) (a : Ascend gs) (le : index ≤ length gs) (b : x.ssn < 2 ^ 16)
    (before : AreEndsBefore gs index x.ssn) (behind : AreEndsBehind gs index x.ssn) where
  pub insert_ascends : Ascend (insert gs index x)
  insert_ascends i j d lt h =
      let long : length (insert gs index x) ≡ length gs + 1 = length-insert gs index x le in
      ⊎_elim
      (λ (u : j < index).
      rw (get_or-insert_below gs index x d i (omega (arith, u, lt)) le, get_or-insert_below gs index x d j u le)
      (a i j d lt (omega (arith, u, le))))
      (λ (u : index ≤ j).
      ⊎_elim
      (λ (v : index < j).
      rw (above_place gs index x d j le v)
      (⊎_elim
      (λ (w : i < index).
      rw (get_or-insert_below gs index x d i w le) (a i (j - 1) d (omega (arith, v, w)) (omega (arith, h, long, v))))
      (λ (w : index ≤ i).
      ⊎_elim
      (λ (t : index < i).
      rw (above_place gs index x d i le t)
      (a (i - 1) (j - 1) d (omega (arith, t, lt)) (omega (arith, h, long, v))))
      (λ (t : i ≤ index).
      let same : i ≡ index = omega (arith, w, t) in
      rw (same, get_or-insert_at gs index x d le)
      (b, (all_behind gs x.ssn a b index behind (j - 1) d (omega (arith, v)) (omega (arith, h, long, v))).1))
      (cases_lt index i))
      (cases_lt i index)))
      (λ (v : j ≤ index).
      let same : j ≡ index = omega (arith, u, v) in
      let below : i < index = omega (arith, lt, same) in
      rw (get_or-insert_below gs index x d i below le, same, get_or-insert_at gs index x d le)
      (all_before gs x.ssn a b index le before i d below))
      (cases_lt index j))
      (cases_lt j index)

-- a message behind all, whose SSN is past theirs
pub push_ascends : (gs : List Group) (x : Group) → Ascend gs → x.ssn < 2 ^ 16 → AreEndsBefore gs (length gs) x.ssn
    → Ascend (gs ++ x ∷ [])
push_ascends gs x a b before =
    same_ascend (gs ++ x ∷ []) (insert gs (length gs) x) (sym (insert_end gs x))
    (insert_ascends gs (length gs) x a (omega arith) b before (λ h. absurd (omega (arith, h))))

-- a message in place of one with its SSN
module _ (gs : List Group) (k : ℕ) (y : Group) (e : y.ssn ≡ (get_or gs k y).ssn) (h : k < length gs) where
  -- changes the SSN of no index
  same_ssn : (i : ℕ) (d : Group) → (get_or (set gs k y) i d).ssn ≡ (get_or gs i d).ssn
  same_ssn i d =
      ⊎_elim
      (λ (same : i ≡ k).
      rw (same, get_or-set_same gs k y d h) (e ∙ ap (λ (g : Group). g.ssn) (get_or_default gs k y d h)))
      (λ (other : i ≢ k). rw (get_or-set_other gs k i y d other) refl)
      (cases_eq i k)

  set_ascends : Ascend gs → Ascend (set gs k y)
  set_ascends a i j d lt hj = rw (same_ssn i d, same_ssn j d) (a i j d lt (rw (length-set gs k y) at hj))

grown_ascends : (o : Option Group) (gs : List Group) (k : ℕ) (p : ChunkPayloadData) → slice_get gs k ≡ o
    → k < length gs → Ascend gs → Ascend (grown_at o k gs p)
grown_ascends None gs k p e h a = a
grown_ascends (Some g) gs k p e h a = set_ascends gs k (grown g p) (ssn_stays gs k g p e h) h a
  where
    ssn_stays : (gs : List Group) (k : ℕ) (g : Group) (p : ChunkPayloadData) → slice_get gs k ≡ Some g → k < length gs
        → g.ssn ≡ (get_or gs k (grown g p)).ssn
    ssn_stays gs k g p e h =
        ap (λ (o : Option Group). (unwrap_or o g).ssn) (sym e ∙ slice_get-get_or gs k (grown g p) h)

-- a piece that comes to a message, or is refused
pub put_ascends : (r : Result (Unit {0}) Error) (gs hs : List Group) (k : ℕ) (p : ChunkPayloadData)
    → OnOk r (hs ≡ put_at (Some k) gs p) → OnErr r (hs ≡ gs) → k < length gs → Ascend gs → Ascend hs
put_ascends (Ok u) gs hs k p put same h a = rw put (grown_ascends (slice_get gs k) gs k p refl h a)
put_ascends (Err e) gs hs k p put same h a = rw same a

tail_ascends : (g : Group) (gs : List Group) → Ascend (g ∷ gs) → Ascend gs
tail_ascends g gs a i j d lt h = a (suc i) (suc j) d (omega (arith, lt)) (omega (arith, h))

-- the first message is taken out, where there is one
pub rest_ascends : (r : Option Group) (gs hs : List Group) → gs ≡ option_to_list r ++ hs → Ascend gs → Ascend hs
rest_ascends None gs hs e a = same_ascend hs gs (sym e) a
rest_ascends (Some g) gs hs e a = tail_ascends g hs (same_ascend (g ∷ hs) gs (sym e) a)
