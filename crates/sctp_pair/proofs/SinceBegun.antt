-- What is so since a call began: where a side was present then, what it showed to be acknowledged is so; where it was
-- not, nothing comes in at it any more, and it assigns no offset.
use Rattle.std.proofs.Common.{◌≡◌, sym, ap, ◌∙◌, subst, ◌⊎◌, inl, inr, ⊎_elim, ℕ, ◌+◌, ◌<◌, ◌≤◌, arith, Bool, true}
use Rattle.std.proofs.Common.{false}
use Rattle.std.proofs.Common.{List, length}
use Rattle.std.proofs.lemmas.Bool.{cases_Bool, true≢false}
use Rattle.sctp_serial.specs.Serial.{tsn, tsn_past}
use Rattle.sctp_model.specs.Messages.{Place}
use Rattle.sctp_model.specs.Machine.{Direction}
use Rattle.sctp_assoc.specs.Shown.{Shown}
use Rattle.sctp_assoc.specs.declared.call.Reply.{Reply}
use Rattle.sctp_steps.specs.declared.step.Side2.{Side2}
use Rattle.sctp_steps.specs.declared.step.Step.{Step}
use Rattle.sctp_pair.specs.Counted.{IsPresent, acknowledged_of}
use Rattle.sctp_steps.specs.Ends.{Ends, end_of}
use Rattle.sctp_pair.specs.Fits.{Stands, StandsClosed, StandsFailed, StandsOpen}
use Rattle.sctp_steps.specs.Seen.{IsOpen, other_side}
use Rattle.sctp_pair.specs.World.{IsDirectionStep, World}
use Rattle.sctp_pair.proofs.Promised.{stands_open}

-- Of a side that was a when a call began, now between these directions; `initial` is its initial TSN.
pub record Since (initial : ℕ) (a : Shown) (out coming : Direction) : Type 0 where
  pub reached : IsPresent a → acknowledged_of initial a ≤ out.sender.reach
  pub stopped : (IsPresent a → ⊥) → coming.receiver.is_open ≡ false

-- an offset is no less than the distance of its TSN
tsn_back : (initial offset : ℕ) → tsn_past initial (tsn initial offset) ≤ offset
tsn_back initial offset = omega arith

-- so it is when the call begins
pub begins : {loose : ℕ → Bool} (own peer : ℕ) (a : Shown) (out coming : Direction)
    → Stands loose own peer a out coming → Since own a out coming
begins {loose} own peer a out coming h =
    ⊎_elim
    (λ (s : StandsOpen loose own peer a out coming).
    let first : a.sender.queue.first_tsn ≡ tsn own out.sender.reach =
    s.binds.first ∙ ap (λ (z : ℕ). tsn z s.past.base) s.own_is ∙ ap (λ (z : ℕ). tsn own z) s.between.outgoing.base in
    let since : Since own a out coming = record {
      reached = λ p. subst (λ (z : ℕ). tsn_past own z ≤ out.sender.reach) (sym first) (tsn_back own out.sender.reach);
      stopped = λ n. absurd (n (record { working = s.working; kept = s.present }));
    } in
    since)
    (λ (r : StandsClosed own a coming ⊎ StandsFailed a coming). ⊎_elim
    (λ (s : StandsClosed own a coming).
    let since : Since own a out coming =
    record { reached = λ p. absurd (true≢false (sym s.lost ∙ p.kept)); stopped = λ n. s.stopped } in
    since)
    (λ (s : StandsFailed a coming).
    let since : Since own a out coming =
    record { reached = λ p. absurd (true≢false (sym s.failed ∙ p.working)); stopped = λ n. s.stopped } in
    since)
    r)
    h

-- and it stays so
pub goes_on : {initial : ℕ} {a : Shown} {out coming next_out next_coming : Direction}
    → Since initial a out coming → out.sender.reach ≤ next_out.sender.reach
    → (coming.receiver.is_open ≡ false → next_coming.receiver.is_open ≡ false)
    → Since initial a next_out next_coming
goes_on {initial} {a} {out} {coming} {next_out} s reach closed = record {
  reached = λ p. let before = s.reached p in omega (arith, before, reach);
  stopped = λ n. closed (s.stopped n);
}

present_or_not : (a : Shown) → IsPresent a ⊎ (IsPresent a → ⊥)
present_or_not a =
    ⊎_elim
    (λ (f : a.failed ≡ true). inr (λ (p : IsPresent a). true≢false (sym f ∙ p.working)))
    (λ (w : a.failed ≡ false). ⊎_elim
    (λ (l : a.lost ≡ true). inr (λ (p : IsPresent a). true≢false (sym l ∙ p.kept)))
    (λ (k : a.lost ≡ false). inl (record { working = w; kept = k }))
    (cases_Bool a.lost))
    (cases_Bool a.failed)

-- A step of the direction from side x, which was `begin` when the call began: few offsets are past the acknowledged
-- reach then.
module _ {x : Side2} {step : Step} {r : Reply} {w : World} {q : Ends} {initial : ℕ} {before after coming : Direction}
    (h : IsDirectionStep step r x (other_side x) w q initial before after) where
  pub few_in_flight : {loose : ℕ → Bool} (own peer : ℕ) → Stands loose own peer (end_of x q) after coming
      → (begin : Shown) (pieces : ℕ) → Since initial begin after coming
      → (IsPresent begin → pieces < acknowledged_of initial begin + 16384)
      → length after.sender.plan.places ≤ pieces
      → length before.sender.plan.places < before.sender.reach + 16384
      → length after.sender.plan.places < after.sender.reach + 16384
  few_in_flight {loose} own peer stands begin pieces since few places flight =
      ⊎_elim
      (λ (p : IsPresent begin).
      let f = few p in
      let reached = since.reached p in
      omega (arith, f, reached, places))
      (λ (n : IsPresent begin → ⊥). ⊎_elim
      (λ (o : IsOpen (end_of x q)). absurd (true≢false
      (sym (stands_open own peer (end_of x q) after coming o stands).between.incoming.is_open ∙ since.stopped n)))
      (λ (same : after.sender.plan.places ≡ before.sender.plan.places).
      let e = ap (λ (ps : List Place). length ps) same in
      let on = h.reach_on in
      omega (arith, e, on, flight))
      h.no_more)
      (present_or_not begin)
