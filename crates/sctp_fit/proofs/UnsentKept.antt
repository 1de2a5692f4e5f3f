-- What waits unsent stays so when the plan grows, when messages that don't wait are looked for too, and when others are
-- no longer unsent.
use Rattle.std.proofs.Common.{ℕ, suc, ◌<◌, ◌≤◌, ◌≡◌, Bool, false, not, List, [], ◌∷◌, sym, ap, ◌∙◌, subst}
use Rattle.std.proofs.Common.{refl, ⊎_elim, arith}
use Rattle.std.proofs.lemmas.Bool.{cases_eq, cases_lt}
use Rattle.sctp_outbound_queue.specs.declared.message.Attributes.{Attributes}
use Rattle.sctp_outbound_queue.specs.Waiting.{Waiting}
use Rattle.sctp_model.specs.Messages.{Plan, message_at}
use Rattle.sctp_model.specs.Machine.{put}
use Rattle.sctp_model.proofs.PlansGrow.{IsExtended, at_put, off_put}
use Rattle.sctp_fit.specs.Outgoing.{ArePieces, AreUnsent, IsMessage, IsWaiting, Names, numbers_past}

-- From `from` on the same messages are unsent in both, and from `to` up to there none is in the second.
pub record AreUnsentAlike (unsent fewer : ℕ → ℕ → Bool) (from to : ℕ → ℕ) : Type 0 where
  pub lower : (s : ℕ) → to s ≤ from s
  pub below : (s i : ℕ) → to s ≤ i → i < from s → fewer s i ≡ false
  pub same : (s i : ℕ) → from s ≤ i → fewer s i ≡ unsent s i

-- where the same messages are unsent, they are alike from anywhere
pub alike_same : (unsent : ℕ → ℕ → Bool) (from : ℕ → ℕ) → AreUnsentAlike unsent unsent from from
alike_same unsent from = record {
  lower = λ s. omega arith;
  below = λ s i a b. absurd (omega arith);
  same = λ s i l. refl;
}

-- they are alike past a message too
alike_past : (unsent fewer : ℕ → ℕ → Bool) (from to : ℕ → ℕ) (s i : ℕ) → from s ≤ i
    → AreUnsentAlike unsent fewer from to
    → AreUnsentAlike unsent fewer (put from s (suc i)) (put to s (suc i))
alike_past unsent fewer from to s i past h = record { lower = lower; below = below; same = same }
  where
    lower : (t : ℕ) → put to s (suc i) t ≤ put from s (suc i) t
    lower t = ⊎_elim
        (λ (e : t ≡ s). let a = at_put from s t (suc i) e in let b = at_put to s t (suc i) e in omega arith)
        (λ (ne : t ≡ s → ⊥).
        let a = off_put from s t (suc i) ne in let b = off_put to s t (suc i) ne in let c = h.lower t in omega arith)
        (cases_eq t s)

    below : (t j : ℕ) → put to s (suc i) t ≤ j → j < put from s (suc i) t → fewer t j ≡ false
    below t j l b = ⊎_elim
        (λ (e : t ≡ s).
        let c = at_put from s t (suc i) e in let d = at_put to s t (suc i) e in absurd (omega arith))
        (λ (ne : t ≡ s → ⊥).
        let c = off_put from s t (suc i) ne in let d = off_put to s t (suc i) ne in
        h.below t j (omega arith) (omega arith))
        (cases_eq t s)

    same : (t j : ℕ) → put from s (suc i) t ≤ j → fewer t j ≡ unsent t j
    same t j l = ⊎_elim
        (λ (e : t ≡ s).
        let c = at_put from s t (suc i) e in let d = ap from e in h.same t j (omega arith))
        (λ (ne : t ≡ s → ⊥). let c = off_put from s t (suc i) ne in h.same t j (omega arith))
        (cases_eq t s)

module _ (n : Names) (p q : Plan) (e : IsExtended p q) where
  -- attributes of a message stay so when the plan grows
  pub attributes_kept : (i number : ℕ) (a : Attributes) → IsMessage n p i number a → IsMessage n q i number a
  attributes_kept i number a h = record {
    known = let l = h.known in let b = e.longer a.stream_identifier in omega arith;
    id = h.id;
    generation = h.generation;
    ordered = h.ordered ∙ ap (λ m. not m.ordered) (sym (e.messages a.stream_identifier i h.known));
    ssn = h.ssn;
    payload_type = h.payload_type ∙ ap (λ m. m.payload_type) (sym (e.messages a.stream_identifier i h.known));
    policy = h.policy ∙ ap (λ m. m.policy) (sym (e.messages a.stream_identifier i h.known));
  }

  -- so does what waits of a message
  pub waiting_kept : (i number k : ℕ) (x : Waiting) → IsWaiting n p i number k x → IsWaiting n q i number k x
  waiting_kept i number k x h = record {
    message = attributes_kept i number x.message h.message;
    pieces =
        subst (λ size. ArePieces size (message_at q x.message.stream_identifier i).bytes k x.user_data x.rest)
        (sym e.size)
        (subst (λ m. ArePieces p.size m.bytes k x.user_data x.rest)
        (sym (e.messages x.message.stream_identifier i h.message.known)) h.pieces);
  }

  -- All that waits unsent stays so, where what is unsent is alike.
  pub unsent_kept : {unsent fewer : ℕ → ℕ → Bool} {from to : ℕ → ℕ} → (numbers : ℕ → ℕ) (xs : List Waiting)
      → AreUnsentAlike unsent fewer from to → AreUnsent n p unsent from numbers xs → AreUnsent n q fewer to numbers xs
  unsent_kept {from = from} numbers [] a h = λ s i l. ⊎_elim
      (λ (b : i < from s). a.below s i l b)
      (λ (b : from s ≤ i). a.same s i b ∙ h s i b)
      (cases_lt i (from s))
  unsent_kept {unsent = unsent} {fewer = fewer} {from = from} {to = to} numbers (x ∷ xs) a (i, h, hs) = (
    i,
    record {
      waits = waiting_kept i _ 0 x h.waits;
      begun = h.begun;
      is = a.same x.message.stream_identifier i h.past ∙ h.is;
      past = let l = a.lower x.message.stream_identifier in let b = h.past in omega arith;
      next = λ j l b. ⊎_elim
          (λ (c : j < from x.message.stream_identifier). a.below x.message.stream_identifier j l c)
          (λ (c : from x.message.stream_identifier ≤ j). a.same x.message.stream_identifier j c ∙ h.next j c b)
          (cases_lt j (from x.message.stream_identifier));
    },
    unsent_kept {from = put from x.message.stream_identifier (suc i)} {to = put to x.message.stream_identifier (suc i)}
        (numbers_past numbers x.message) xs
        (alike_past unsent fewer from to x.message.stream_identifier i h.past a) hs,
  )
