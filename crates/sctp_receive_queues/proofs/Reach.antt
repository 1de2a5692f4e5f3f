-- How far the pieces held of a message reach.
use Rattle.std.proofs.Common.{◌≡◌, ℕ, ◌+◌, ◌-◌, ◌<◌, ◌≤◌, ◌^◌, true, false, eqb, List, length, refl, sym}
use Rattle.std.proofs.Common.{◌∙◌, ap, ⊎_elim, arith, get_or, Option, Some, None, insert, max, IfSome}
use Rattle.std.proofs.Common.{ltb, ◌%◌}
use Rattle.std.specs.Option.{option_map}
use Rattle.std.proofs.lemmas.Bool.{cases_lt, ne_eqb}
use Rattle.std.proofs.lemmas.Bool.Decides.{nat_tests}
use Rattle.std.proofs.lemmas.List.Folds.{list_any_none}
use Rattle.std.proofs.lemmas.List.Edits.{length-insert, get_or-insert_at, get_or-insert_below, get_or-insert_above}
use Rattle.sctp_serial.specs.Serial.{tsn_lt, tsn_past}
use Rattle.sctp_wire_types.specs.declared.chunk.ChunkPayloadData.{ChunkPayloadData}
use Rattle.sctp_receive_queues.specs.Pieces.{has_tsn, index_of}
use Rattle.sctp_receive_queues.specs.Reach.{AreWithin}
use Rattle.sctp_receive_queues.proofs.Searches.{absent}

-- seen from a TSN beyond the reach, one within it is at least half a range ahead, and so counts as before
not_past : (base t s reach : ℕ) → base < 2 ^ 32 → s < 2 ^ 32 → tsn_past base t ≤ reach → reach < tsn_past base s
    → tsn_past base s < 2 ^ 31 → 2 ^ 31 ≤ tsn_past s t
not_past base t s reach bb bs w r h = omega (arith, bb, bs, w, r, h)

-- and so it is not later
not_later : (base t s reach : ℕ) → base < 2 ^ 32 → s < 2 ^ 32 → tsn_past base t ≤ reach → reach < tsn_past base s
    → tsn_past base s < 2 ^ 31 → tsn_lt s t ≡ false
not_later base t s reach bb bs w r h = let far = not_past base t s reach bb bs w r h in grind (arith, nat_tests, far)

-- nor is it the same
apart : (base t s reach : ℕ) → tsn_past base t ≤ reach → reach < tsn_past base s → eqb t s ≡ false
apart base t s reach w r =
    ne_eqb t s
    (λ same. let x : tsn_past base t ≡ tsn_past base s = rw same refl in omega (arith, x, w, r))

-- A distance as it is computed.

pub past_is : (base s : ℕ) → base < 2 ^ 32 → (s + (2 ^ 32 - base)) % 2 ^ 32 ≡ tsn_past base s
past_is base s b = omega (arith, b)

pub is_farther : (base s reach : ℕ) → base < 2 ^ 32 → reach < (s + (2 ^ 32 - base)) % 2 ^ 32 → reach < tsn_past base s
is_farther base s reach b h = omega (arith, past_is base s b, h)

pub is_near : (base s : ℕ) → base < 2 ^ 32 → ltb ((s + (2 ^ 32 - base)) % 2 ^ 32) (2 ^ 31) ≡ true
    → tsn_past base s < 2 ^ 31
is_near base s b e = let same = past_is base s b in grind (arith, nat_tests, rw same at e)

-- A TSN that is farther past than all pieces.

-- none of them has it
pub none_has : (base s reach : ℕ) (ps : List ChunkPayloadData) → AreWithin base ps reach → reach < tsn_past base s
    → has_tsn s ps ≡ false
none_has base s reach ps w r =
    list_any_none (λ (p : ChunkPayloadData). eqb p.tsn s) ps
    (λ k d l. apart base (get_or ps k d).tsn s reach (w k d l) r)

-- and its index is the end
pub end_is_slot : (base s reach : ℕ) (ps : List ChunkPayloadData) → base < 2 ^ 32 → s < 2 ^ 32
    → AreWithin base ps reach → reach < tsn_past base s → tsn_past base s < 2 ^ 31 → index_of s ps ≡ length ps
end_is_slot base s reach ps bb bs w r h =
    let none =
    absent (λ (p : ChunkPayloadData). tsn_lt s p.tsn) ps
    (λ k d l. not_later base (get_or ps k d).tsn s reach bb bs (w k d l) r h) in
    rw none refl

-- Pieces that come.

-- with one more piece none is farther past than the farther of both
module _ (base reach more i : ℕ) (p : ChunkPayloadData) (ps : List ChunkPayloadData) (le : i ≤ length ps)
    (w : AreWithin base ps reach) (r : reach ≤ more) (n : tsn_past base p.tsn ≤ more) where
  insert_within : AreWithin base (insert ps i p) more
  insert_within k d h =
      ⊎_elim
      (λ (u : k < i).
      rw (get_or-insert_below ps i p d k u le) (let x = w k d (omega (arith, u, le)) in omega (arith, x, r)))
      (λ (u : i ≤ k).
      ⊎_elim
      (λ (v : i < k).
      let same : k - 1 + 1 ≡ k = omega (arith, v) in
      let at : get_or (insert ps i p) k d ≡ get_or ps (k - 1) d =
      ap (λ (n : ℕ). get_or (insert ps i p) n d) (sym same) ∙
      get_or-insert_above ps i p d (k - 1) (omega (arith, v)) le in
      let x = w (k - 1) d (omega (arith, v, h, length-insert ps i p le)) in
      rw at (omega (arith, x, r)))
      (λ (v : k ≤ i).
      let same : k ≡ i = omega (arith, u, v) in
      rw (same, get_or-insert_at ps i p d le) n)
      (cases_lt i k))
      (cases_lt k i)

pub farther_within : (base i far : ℕ) (reach : Option ℕ) (p : ChunkPayloadData) (ps : List ChunkPayloadData)
    → i ≤ length ps → tsn_past base p.tsn ≡ far → IfSome reach (AreWithin base ps)
    → IfSome (option_map (max far) reach) (AreWithin base (insert ps i p))
farther_within base i far None p ps le e w = tt
farther_within base i far (Some reach) p ps le e w =
    insert_within base reach (max far reach) i p ps le w (grind arith) (grind (arith, e))
