-- What a FORWARD TSN that comes is: one that isn't in use, one that isn't ahead, or one that passes over what it says
-- once the streams on which it skips are found or made.
use Rattle.std.proofs.Common.{◌≡◌, refl, ap, ◌∙◌, ℕ, Bool, true, false, List, [], ◌∷◌, ◌++◌}
use Rattle.sctp_wire_types.specs.declared.chunk.SkippedStream.{SkippedStream}
use Rattle.sctp_inbound.specs.declared.receiver.AckTrigger.{AckTrigger}
use Rattle.sctp_directions.specs.Acts.{Act}
use Rattle.sctp_assoc.specs.declared.inbound.Flow.{Flow}
use Rattle.sctp_assoc.specs.declared.inbound.Flow.TheVariants as flows
use Rattle.sctp_assoc.specs.Finding.{found_for}
use Rattle.sctp_assoc.specs.Happened.{acts_of_finding, acts_of_forward, acts_of_passing}
use Rattle.sctp_assoc.specs.Shown.{Shown, uses_forward_tsn}
use Rattle.sctp_assoc.specs.Skipping.{acknowledged_at_once, is_ahead, on_forward, on_forward_ahead, refused}
use Rattle.sctp_assoc.proofs.StreamsFound.{found_for_is}

-- the association, with FORWARD TSN in use or not
abbrev pub with_use : Bool → Shown → Shown
with_use c a = record a { handshake = (let h = a.handshake in record h { use_forward_tsn = c }) }

-- finding streams leaves both as they were
found_uses : (tsn : ℕ) (es : List SkippedStream) (a : Shown)
    → uses_forward_tsn (found_for tsn es a) ≡ uses_forward_tsn a
found_uses tsn es a = ap uses_forward_tsn (found_for_is tsn es a)

found_ahead : (tsn : ℕ) (es : List SkippedStream) (a : Shown) → is_ahead (found_for tsn es a) tsn ≡ is_ahead a tsn
found_ahead tsn es a = ap (λ (b : Shown). is_ahead b tsn) (found_for_is tsn es a)

module _ (tsn : ℕ) (es : List SkippedStream) where
  module _ (P : Shown → Shown × Flow → Type 0) (trigger : AckTrigger) (now : ℕ)
      (unused : (a : Shown) → uses_forward_tsn a ≡ false → P a (refused a trigger))
      (behind : (a : Shown) → uses_forward_tsn a ≡ true → is_ahead a tsn ≡ false
      → P a (acknowledged_at_once a now, flows.Next trigger))
      (ahead : (a : Shown) → uses_forward_tsn a ≡ true → is_ahead a tsn ≡ true
      → P a (on_forward_ahead a tsn es trigger))
      (found : (a : Shown) (x : Shown × Flow) → P (found_for tsn es a) x → P a x) where
    by_use : (c d : Bool) (a : Shown) → is_ahead a tsn ≡ d
        → P (with_use c a) (on_forward (with_use c a) tsn es trigger now)
    unfolding on_forward
    by_use false d a e = unused (with_use false a) refl
    by_use true false a e = rw e (behind (with_use true a) refl e)
    by_use true true a e =
        let b : Shown = with_use true a in
        rw e (found b _ (ahead (found_for tsn es b) (found_uses tsn es b) (found_ahead tsn es b ∙ e)))

    pub forward_is_one_of : (a : Shown) → P a (on_forward a tsn es trigger now)
    forward_is_one_of a = by_use (uses_forward_tsn a) (is_ahead a tsn) a refl

  module _ (P : Shown → List Act → Type 0)
      (unused : (a : Shown) → uses_forward_tsn a ≡ false → P a [])
      (behind : (a : Shown) → uses_forward_tsn a ≡ true → is_ahead a tsn ≡ false → P a [])
      (ahead : (a : Shown) → uses_forward_tsn a ≡ true → is_ahead a tsn ≡ true
      → P a (acts_of_passing a tsn es))
      (found : (a : Shown) (xs : List Act) → P (found_for tsn es a) xs → P a (acts_of_finding tsn es a ++ xs)) where
    acts_by_use : (c d : Bool) (a : Shown) → is_ahead a tsn ≡ d
        → P (with_use c a) (acts_of_forward (with_use c a) tsn es)
    acts_by_use false d a e = unused (with_use false a) refl
    acts_by_use true false a e = rw e (behind (with_use true a) refl e)
    acts_by_use true true a e =
        let b : Shown = with_use true a in
        rw e (found b _ (ahead (found_for tsn es b) (found_uses tsn es b) (found_ahead tsn es b ∙ e)))

    pub acts_are_one_of : (a : Shown) → P a (acts_of_forward a tsn es)
    acts_are_one_of a = acts_by_use (uses_forward_tsn a) (is_ahead a tsn) a refl
