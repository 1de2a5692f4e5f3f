-- The ordered half of a stream goes on with another queue, with more taken in or passed over, or with more read.
use Rattle.std.proofs.Common.{ℕ, ◌<◌, ◌≤◌, ◌≡◌, Bool, true, List, map, Option, Some, ◌∙◌, inl, inr, ⊎_elim, arith}
use Rattle.std.specs.List.{AllByRecursion}
use Rattle.sctp_model.specs.Messages.{Place, Plan, IsAt}
use Rattle.sctp_model.specs.Packets.{mem, data_at}
use Rattle.sctp_model.specs.Reassembly.{Queue, Got, at}
use Rattle.sctp_model.specs.Safe.{IsKeptOrdered, letter_read, number_of}
use Rattle.sctp_model.specs.Invariants.{IsHeld, IsSkipped, IsOrdered}

-- The cursor stays. All that is held was taken in, and what was held before and was taken in is held.
module _ {p : Plan} {gone : ℕ → ℕ → Bool} {current : Option Place} {next ssn : ℕ} {taken taken' : List ℕ}
    {passed passed' skipped s low end : ℕ} {q q' : Queue} {reads reads' : List Got} where
  pub ordered_kept : q'.cursor ≡ q.cursor → AllByRecursion (IsHeld p taken' s true low) q'.ordered
      → ((o : ℕ) → mem o taken ≡ true → mem o taken' ≡ true) → passed ≤ passed'
      → ((o : ℕ) → IsAt p s true o → mem o taken' ≡ true
      → (mem o taken ≡ true → at o q.ordered ≡ Some (data_at p o)) → at o q'.ordered ≡ Some (data_at p o))
      → ((i : ℕ) → mem i (map (number_of p) reads) ≡ true → mem i (map (number_of p) reads') ≡ true)
      → (IsKeptOrdered p s → map letter_read reads' ≡ map letter_read reads)
      → IsOrdered p gone current next ssn taken passed skipped s low end q reads
      → IsOrdered p gone current next ssn taken' passed' skipped s low end q' reads'
  ordered_kept same held more far found gots letters h = record {
    cursor = h.cursor;
    is = same ∙ h.is;
    above = h.above;
    latest = h.latest;
    origin = ⊎_elim (λ (x : skipped ≡ 0). inl x) (λ (k : IsSkipped p gone passed s skipped). inr (record {
      offset = k.offset;
      below = let b = k.below in omega arith;
      at = k.at;
      given_up = k.given_up;
      is = k.is;
    })) h.origin;
    begun = h.begun;
    going = h.going;
    held = held;
    past = λ o a l. ⊎_elim
        (λ (m : mem o taken ≡ true). inl (more o m))
        (λ (b : o < passed). inr (omega arith))
        (h.past o a l);
    later = h.later;
    link = h.link;
    until = h.until;
    gap = h.gap;
    full = λ none.
        let f = h.full none in
        record {
          unskipped = f.unskipped;
          level = f.level;
          exact = f.exact;
          level_next = f.level_next;
          held = λ o a m l. found o a m (λ b. f.held o a b l);
          read = λ i l k. gots i (f.read i l k);
          letters = λ kept. letters kept ∙ f.letters kept;
        };
  }
