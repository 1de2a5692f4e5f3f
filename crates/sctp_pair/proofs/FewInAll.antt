-- Where each side accepted few pieces in all, few stay unacknowledged and unread, whatever was acknowledged and read.
use Rattle.std.proofs.Common.{◌≡◌, ℕ, ◌+◌, ◌<◌, ◌≤◌, arith, Bool, true, false, eqb, ◌&&◌, if◌then◌else◌, List, []}
use Rattle.std.proofs.Common.{◌∷◌, ◌++◌, length, Option, Some, None}
use Rattle.sctp_wire_types.specs.declared.ids.PayloadProtocolIdentifier.{PayloadProtocolIdentifier}
use Rattle.sctp_assoc.specs.Calls.{first_filled}
use Rattle.sctp_assoc.specs.Shown.{Shown}
use Rattle.sctp_sides.proofs.Proved.{accepted_writes_fit}
use Rattle.sctp_fit.specs.FewPieces.{pieces_in}
use Rattle.sctp_fit.proofs.PlacesCounted.{piece_counted}
use Rattle.sctp_assoc.specs.declared.call.Reply.{Reply}
use Rattle.sctp_assoc.specs.declared.call.Reply.TheVariants as replies
use Rattle.sctp_steps.specs.declared.step.Side2.{Side2}
use Rattle.sctp_steps.specs.declared.step.Side2.TheVariants as sides
use Rattle.sctp_steps.specs.declared.step.Step.{Step}
use Rattle.sctp_steps.specs.declared.step.Step.TheVariants as steps
use Rattle.sctp_pair.specs.Callers.{AcceptFew, FewStayFew, Made, StaysFew, accepted_in, tallied_by, tally_from}
use Rattle.sctp_pair.specs.Callers.{tally_of}
use Rattle.sctp_pair.specs.Counted.{Tally, nothing_tallied, one_accepted, one_written, pieces_accepted, pieces_of}
use Rattle.sctp_steps.specs.Ends.{Ends}
use Rattle.sctp_assoc.specs.Replies.{Writes}
use Rattle.sctp_steps.specs.Steps.{AtSide, Runs, Steps}
use Rattle.sctp_steps.specs.Seen.{is_side}
use Rattle.sctp_pair.proofs.AcceptedAndRead.{writes}
use Rattle.sctp_pair.proofs.WriteCall.{first_none}

-- An accepted message has a piece at least

filled : (a b : Shown) (id n : ℕ) (named : Option PayloadProtocolIdentifier) (bytes : List ℕ)
    → Writes a id named bytes (replies.Wrote n) b → 0 < length bytes
filled a b id n named bytes h = (accepted_writes_fit a id (length bytes) (first_none _ _ h.0)).some

filled_at : (side : Side2) (id n : ℕ) (named : Option PayloadProtocolIdentifier) (bytes : List ℕ) (p q : Ends)
    → AtSide side p (λ a b. Writes a id named bytes (replies.Wrote n) b) q → 0 < length bytes
filled_at sides.A id n named bytes p q h = filled p.a q.a id n named bytes h.0
filled_at sides.B id n named bytes p q h = filled p.b q.b id n named bytes h.0

one_piece : (here there : Bool) (size bytes : ℕ) → 0 < size → 0 < bytes
    → (if here && there then 1 else 0) ≤ (if here then pieces_in size bytes else 0)
one_piece true true size bytes some filled =
    let one = piece_counted size bytes 0 some (omega arith) in
    omega (arith, one)
one_piece true false size bytes some filled = omega arith
one_piece false there size bytes some filled = omega arith

-- A step leads from p to q. The side x puts at most `size` bytes of a message into a piece; s is a stream.
module _ (size : ℕ) (some : 0 < size) (x : Side2) (s : ℕ) (p q : Ends) where
  covered_at : (side : Side2) (id n : ℕ) (named : Option PayloadProtocolIdentifier) (bytes : List ℕ)
      → AtSide side p (λ a b. Writes a id named bytes (replies.Wrote n) b) q
      → one_accepted (writes side id named bytes) (replies.Wrote n) x s
      ≤ pieces_accepted size x (writes side id named bytes) (replies.Wrote n)
  covered_at side id n named bytes h =
      one_piece (is_side side x) (eqb id s) size (length bytes) some (filled_at side id n named bytes p q h)

  covered_by : (step : Step) (r : Reply) → Steps step p r q → one_written step r x s ≤ pieces_of size x step r
  covered_by (steps.Write side id bytes) (replies.Wrote n) h = covered_at side id n None bytes h
  covered_by (steps.WriteWithPpi side id bytes kind) (replies.Wrote n) h = covered_at side id n (Some kind) bytes h
  covered_by (steps.WriteSctp side id bytes kind) (replies.Wrote n) h = covered_at side id n (Some kind) bytes h
  covered_by (steps.WriteChunk side id bytes) (replies.Wrote n) h = covered_at side id n None bytes h
  covered_by (steps.WriteChunks side id chunks) (replies.Wrote n) h =
      covered_at side id n None (first_filled chunks.items) h
  covered_by step r h = omega arith

-- No more messages wait to be read on a stream than pieces were accepted.
record IsCovered (t : Tally) : Type 0 where
  of_a : (s : ℕ) → t.unread_a s ≤ t.pieces_a
  of_b : (s : ℕ) → t.unread_b s ≤ t.pieces_b

module _ (m : Made) (some_a : 0 < m.size_a) (some_b : 0 < m.size_b) where
  covered_step : (step : Step) (p q : Ends) (r : Reply) → Steps step p r q → (t : Tally) → IsCovered t
      → IsCovered (tallied_by m step r t)
  covered_step step p q r h t c = record {
    of_a = λ s.
        let one = covered_by m.size_a some_a sides.A s p q step r h in
        let old = c.of_a s in
        omega (arith, one, old);
    of_b = λ s.
        let one = covered_by m.size_b some_b sides.B s p q step r h in
        let old = c.of_b s in
        omega (arith, one, old);
  }

  covered_row : (ss : List Step) (rs : List Reply) (p q : Ends) → Runs ss rs p q → (t : Tally) → IsCovered t
      → IsCovered (tally_from m t ss rs)
  covered_row [] [] p q h t c = c
  covered_row (a ∷ ss) (r ∷ rs) p q (u, first, rest) t c =
      covered_row ss rs u q rest (tallied_by m a r t) (covered_step a p u r first t c)
  covered_row [] (r ∷ rs) p q h t c = absurd h
  covered_row (a ∷ ss) [] p q h t c = absurd h

  -- from a tally on with which these steps accept few pieces
  stays_few : (ss : List Step) (rs : List Reply) (p q : Ends) → Runs ss rs p q → (t : Tally) → IsCovered t
      → (begin : Ends) → t.pieces_a + accepted_in m.size_a sides.A ss rs < 16384
      → t.pieces_b + accepted_in m.size_b sides.B ss rs < 16384 → StaysFew m t ss rs begin
  stays_few [] [] p q h t c begin few_a few_b = tt
  stays_few (a ∷ ss) (r ∷ rs) p q (u, first, rest) t c begin few_a few_b =
      let next = covered_step a p u r first t c in (
        record {
          of_a = record {
            all = omega (arith, few_a);
            flight = λ present. omega (arith, few_a);
            waiting = λ s. let unread = next.of_a s in omega (arith, few_a, unread);
          };
          of_b = record {
            all = omega (arith, few_b);
            flight = λ present. omega (arith, few_b);
            waiting = λ s. let unread = next.of_b s in omega (arith, few_b, unread);
          };
        },
        stays_few ss rs u q rest (tallied_by m a r t) next begin (omega (arith, few_a)) (omega (arith, few_b)),
      )
  stays_few [] (r ∷ rs) p q h t c begin few_a few_b = absurd h
  stays_few (a ∷ ss) [] p q h t c begin few_a few_b = absurd h

-- Sums

-- what rows of steps accept adds up
accepted_join : (size : ℕ) (x : Side2) (ss : List Step) (rs : List Reply) (p q : Ends) → Runs ss rs p q
    → (more : List Step) (answers : List Reply)
    → accepted_in size x (ss ++ more) (rs ++ answers) ≡ accepted_in size x ss rs + accepted_in size x more answers
accepted_join size x [] [] p q h more answers = omega arith
accepted_join size x (a ∷ ss) (r ∷ rs) p q (u, first, rest) more answers =
    let next = accepted_join size x ss rs u q rest more answers in omega (arith, next)
accepted_join size x [] (r ∷ rs) p q h more answers = absurd h
accepted_join size x (a ∷ ss) [] p q h more answers = absurd h

-- and a tally has it
tallied_a : (m : Made) (t : Tally) (ss : List Step) (rs : List Reply)
    → (tally_from m t ss rs).pieces_a ≡ t.pieces_a + accepted_in m.size_a sides.A ss rs
tallied_a m t (a ∷ ss) (r ∷ rs) = let next = tallied_a m (tallied_by m a r t) ss rs in omega (arith, next)
tallied_a m t [] rs = omega arith
tallied_a m t (a ∷ ss) [] = omega arith

tallied_b : (m : Made) (t : Tally) (ss : List Step) (rs : List Reply)
    → (tally_from m t ss rs).pieces_b ≡ t.pieces_b + accepted_in m.size_b sides.B ss rs
tallied_b m t (a ∷ ss) (r ∷ rs) = let next = tallied_b m (tallied_by m a r t) ss rs in omega (arith, next)
tallied_b m t [] rs = omega arith
tallied_b m t (a ∷ ss) [] = omega arith

-- These steps led from p to q, and more are behind them.
module _ (size_a size_b : ℕ) (ss : List Step) (rs : List Reply) (p q : Ends) (led : Runs ss rs p q)
    (more : List Step) (answers : List Reply) where
  -- Where few are accepted in all steps, few are in the first ones.
  pub few_in_front : AcceptFew size_a size_b (ss ++ more) (rs ++ answers) → AcceptFew size_a size_b ss rs
  few_in_front few = record {
    of_a =
        (let all = few.of_a in
        let sum = accepted_join size_a sides.A ss rs p q led more answers in
        omega (arith, all, sum));
    of_b =
        (let all = few.of_b in
        let sum = accepted_join size_b sides.B ss rs p q led more answers in
        omega (arith, all, sum));
  }

module _ (more : List Step) (answers : List Reply) (p q : Ends) (led : Runs more answers p q) where
  -- Few pieces in all of the steps are few that stay.
  pub few_stay_few : FewStayFew more answers p
  few_stay_few m ss rs c few =
      let some_a : 0 < m.size_a = c.new.fits.stand.sound_ab.invariant.planned.size in
      let some_b : 0 < m.size_b = c.new.fits.stand.sound_ba.invariant.planned.size in
      let none : IsCovered nothing_tallied = record { of_a = λ s. omega arith; of_b = λ s. omega arith } in
      let covered = covered_row m some_a some_b ss rs c.begin p c.led nothing_tallied none in
      let first_a = tallied_a m nothing_tallied ss rs in
      let first_b = tallied_b m nothing_tallied ss rs in
      let sum_a = accepted_join m.size_a sides.A ss rs c.begin p c.led more answers in
      let sum_b = accepted_join m.size_b sides.B ss rs c.begin p c.led more answers in
      let few_a = few.of_a in
      let few_b = few.of_b in
      stays_few m some_a some_b more answers p q led (tally_of m ss rs) covered p
      (omega (arith, first_a, sum_a, few_a)) (omega (arith, first_b, sum_b, few_b))
