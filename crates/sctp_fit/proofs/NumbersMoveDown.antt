-- The ordered messages of a stream that wait behind one that is dropped unsent move down by one stream sequence number.
use Rattle.std.proofs.Common.{ℕ, zero, suc, ◌+◌, ◌-◌, ◌≡◌, ◌%◌, ◌^◌, Bool, true, false, not, cond, eqb, ◌&&◌}
use Rattle.std.proofs.Common.{List, [], ◌∷◌, map, Some, refl, sym, ap, ◌∙◌, subst, ⊎_elim, arith}
use Rattle.std.specs.Prelude.{slice_get}
use Rattle.std.proofs.lemmas.Bool.{cases_Bool, cases_eq, cond_both, cond-false, eq-eqb, eqb-true, true≢false}
use Rattle.sctp_outbound_queue.specs.declared.message.Attributes.{Attributes}
use Rattle.sctp_outbound_queue.specs.Waiting.{Waiting}
use Rattle.sctp_outbound_queue.specs.Message.{moved_down, share_ssns}
use Rattle.sctp_model.specs.Messages.{Plan}
use Rattle.sctp_model.specs.Machine.{put}
use Rattle.sctp_model.proofs.PlansGrow.{at_put, off_put}
use Rattle.sctp_fit.specs.Drops.{without_at}
use Rattle.sctp_fit.specs.Outgoing.{AreUnsent, IsMessage, IsUnsent, Names, number_at, numbers_after, numbers_past}

-- one where it holds
abbrev pub one_if : Bool → ℕ
one_if b = cond b 1 0

-- by how much the numbers of a stream move down behind a message that is dropped: an ordered one of that stream gives
-- its own back
abbrev pub steps : Attributes → ℕ → ℕ
steps d t = one_if (not d.unordered && eqb d.stream_identifier t)

-- the next numbers `high` of all streams lie above `low` by as much
pub record AreAbove (d : Attributes) (high low : ℕ → ℕ) : Type 0 where
  pub at : (t : ℕ) → high t ≡ low t + steps d t

-- they do so behind a message more
above_put : {d : Attributes} {high low : ℕ → ℕ} (s : ℕ) → AreAbove d high low
    → AreAbove d (put high s (suc (high s))) (put low s (suc (low s)))
above_put {d} {high} {low} s h = record {
  at = λ t. ⊎_elim
      (λ (e : t ≡ s).
      let a = at_put high s t (suc (high s)) e in
      let b = at_put low s t (suc (low s)) e in
      let c = h.at s in
      let k = ap (steps d) e in
      omega arith)
      (λ (ne : t ≡ s → ⊥).
      let a = off_put high s t (suc (high s)) ne in
      let b = off_put low s t (suc (low s)) ne in
      let c = h.at t in
      omega arith)
      (cases_eq t s);
}

above_past : {d : Attributes} {high low : ℕ → ℕ} (s : ℕ) (begun unordered : Bool) → AreAbove d high low
    → AreAbove d (cond begun high (cond unordered high (put high s (suc (high s)))))
    (cond begun low (cond unordered low (put low s (suc (low s)))))
above_past s true unordered h = h
above_past s false true h = h
above_past s false false h = above_put s h

-- and behind the message itself
pub above_itself : (d : Attributes) (numbers : ℕ → ℕ) → AreAbove d (numbers_past numbers d) numbers
above_itself d numbers = record {
  at = λ t.
      by_order t d.unordered (eqb d.stream_identifier t) (eqb-true d.stream_identifier t)
      (eq-eqb d.stream_identifier t);
}
  where
    by_order : (t : ℕ) (u e : Bool) → (e ≡ true → d.stream_identifier ≡ t) → (d.stream_identifier ≡ t → e ≡ true)
        → cond u numbers (put numbers d.stream_identifier (suc (numbers d.stream_identifier))) t
        ≡ numbers t + one_if (not u && e)
    by_order t true e f g = omega arith
    by_order t false true f g =
        let a = at_put numbers d.stream_identifier t (suc (numbers d.stream_identifier)) (sym (f refl)) in
        let b = ap numbers (f refl) in
        omega arith
    by_order t false false f g =
        let a = off_put numbers d.stream_identifier t (suc (numbers d.stream_identifier))
        (λ (e : t ≡ d.stream_identifier). true≢false (sym (g (sym e)))) in
        omega arith

-- two attributes share their numbers
share_tells : (u v e g : Bool) → (not u && not v && e && g) ≡ true → (v ≡ false) × (one_if (not u && e) ≡ 1)
share_tells true v e g h = absurd (true≢false (sym h))
share_tells false true e g h = absurd (true≢false (sym h))
share_tells false false false g h = absurd (true≢false (sym h))
share_tells false false true false h = absurd (true≢false (sym h))
share_tells false false true true h = (refl, refl)

-- or they don't
apart_tells : (u v e g : Bool) → (not u && not v && e && g) ≡ false → v ≡ false → (e ≡ true → g ≡ true)
    → one_if (not u && e) ≡ 0
apart_tells true v e g h f k = refl
apart_tells false true e g h f k = absurd (true≢false f)
apart_tells false false false g h f k = refl
apart_tells false false true true h f k = absurd (true≢false h)
apart_tells false false true false h f k = absurd (true≢false (sym (k refl)))

-- a number that moves down by one, as it wraps
pub wrapped_down : (ssn high low by : ℕ) → ssn ≡ high % 65536 → high ≡ low + by → by ≡ 1
    → (ssn + 2 ^ 16 - 1) % 2 ^ 16 ≡ low % 65536
wrapped_down ssn high low by a b c = omega arith

-- the message that waits has the number before its own
abbrev down : Waiting → Waiting
down m = record m {
  message =
      (let a = m.message in record a { stream_sequence_number = (a.stream_sequence_number + 2 ^ 16 - 1) % 2 ^ 16 });
}

-- of a message of a stream past its span no number is said
unsent_anyhow : {n : Names} {p : Plan} {unsent : ℕ → ℕ → Bool} (from number other i : ℕ) (x : Waiting)
    → n.within x.message.stream_identifier ≡ false → IsUnsent n p unsent from number i x
    → IsUnsent n p unsent from other i x
unsent_anyhow from number other i x past h = record {
  waits = record {
    message = record {
      known = h.waits.message.known;
      id = h.waits.message.id;
      generation = h.waits.message.generation;
      ordered = h.waits.message.ordered;
      ssn = λ v. absurd (true≢false (sym v ∙ past));
      payload_type = h.waits.message.payload_type;
      policy = h.waits.message.policy;
    };
    pieces = h.waits.pieces;
  };
  begun = h.begun;
  is = h.is;
  past = h.past;
  next = h.next;
}

module _ (n : Names) (p : Plan) (d : Attributes)
    (live : n.within d.stream_identifier ≡ true → d.generation ≡ n.generations d.stream_identifier) where
  -- where the two share their numbers, one that waits moves down with its stream's
  ssn_down : {high low : ℕ → ℕ} (i : ℕ) (a : Attributes) → AreAbove d high low → share_ssns d a ≡ true
      → IsMessage n p i (number_at high a) a → n.within a.stream_identifier ≡ true
      → (a.stream_sequence_number + 2 ^ 16 - 1) % 2 ^ 16
      ≡ cond a.unordered ((a.stream_sequence_number + 2 ^ 16 - 1) % 2 ^ 16) (low a.stream_identifier) % 65536
  ssn_down {high} {low} i a above e h within =
      let t =
      share_tells d.unordered a.unordered (eqb d.stream_identifier a.stream_identifier)
      (eqb d.generation a.generation) e in
      wrapped_down a.stream_sequence_number (high a.stream_identifier) (low a.stream_identifier)
      (steps d a.stream_identifier)
      (h.ssn within ∙ ap (λ z. z % 65536)
      (cond-false a.unordered a.stream_sequence_number (high a.stream_identifier) t.0))
      (above.at a.stream_identifier) t.1
      ∙ ap (λ z. z % 65536) (sym (cond-false a.unordered ((a.stream_sequence_number + 2 ^ 16 - 1) % 2 ^ 16)
      (low a.stream_identifier) t.0))

  -- and where they don't, it stays
  number_stays : {high low : ℕ → ℕ} (a : Attributes) → AreAbove d high low → share_ssns d a ≡ false
      → n.within a.stream_identifier ≡ true → a.generation ≡ n.generations a.stream_identifier
      → number_at high a ≡ number_at low a
  number_stays {high} {low} a above e within g = by_order a.unordered refl
    where
      by_order : (u : Bool) → a.unordered ≡ u
          → cond u a.stream_sequence_number (high a.stream_identifier)
          ≡ cond u a.stream_sequence_number (low a.stream_identifier)
      by_order true f = refl
      by_order false f =
          let b = above.at a.stream_identifier in
          let c =
          apart_tells d.unordered a.unordered (eqb d.stream_identifier a.stream_identifier)
          (eqb d.generation a.generation) e f
          (λ k. let same = eqb-true d.stream_identifier a.stream_identifier k in
          eq-eqb d.generation a.generation
          (live (ap n.within same ∙ within) ∙ ap n.generations same ∙ sym g)) in
          omega arith

  -- What waits unsent behind the message moves down with the next numbers.
  pub unsent_down : (unsent : ℕ → ℕ → Bool) (from : ℕ → ℕ) {high low : ℕ → ℕ} (xs : List Waiting)
      → AreAbove d high low
      → AreUnsent n p unsent from high xs → AreUnsent n p unsent from low (map (moved_down d) xs)
  unsent_down unsent from [] above h = h
  unsent_down unsent from {high} {low} (x ∷ xs) above (i, h, hs) =
      let behind : AreUnsent n p unsent (put from x.message.stream_identifier (suc i)) (numbers_past low x.message)
      (map (moved_down d) xs)
      =
      unsent_down unsent (put from x.message.stream_identifier (suc i)) xs
      (above_past x.message.stream_identifier false x.message.unordered above) hs in
      cond_both (share_ssns d x.message) (down x) x
      (λ (z : Waiting). AreUnsent n p unsent from low (z ∷ map (moved_down d) xs))
      (λ e. (
        i,
        record {
          waits = record {
            message = record {
              known = h.waits.message.known;
              id = h.waits.message.id;
              generation = h.waits.message.generation;
              ordered = h.waits.message.ordered;
              ssn = ssn_down i x.message above e h.waits.message;
              payload_type = h.waits.message.payload_type;
              policy = h.waits.message.policy;
            };
            pieces = h.waits.pieces;
          };
          begun = h.begun;
          is = h.is;
          past = h.past;
          next = h.next;
        },
        behind,
      ))
      (λ e. (
        i,
        ⊎_elim
            (λ (v : n.within x.message.stream_identifier ≡ true).
            subst (λ z. IsUnsent n p unsent (from x.message.stream_identifier) z i x)
            (number_stays x.message above e v (h.waits.message.generation v)) h)
            (λ (v : n.within x.message.stream_identifier ≡ false).
            unsent_anyhow (from x.message.stream_identifier) (number_at high x.message) (number_at low x.message) i x v
            h)
            (cases_Bool (n.within x.message.stream_identifier)),
        behind,
      ))

-- The next numbers behind all that waits move down too,
after_down : {d : Attributes} (high low : ℕ → ℕ) (xs : List Waiting) → AreAbove d high low
    → AreAbove d (numbers_after high xs) (numbers_after low (map (moved_down d) xs))
after_down high low [] above = above
after_down {d} high low (x ∷ xs) above =
    let behind : AreAbove d (numbers_after high (x ∷ xs))
    (numbers_after (cond x.begun low (numbers_past low x.message)) (map (moved_down d) xs))
    =
    after_down (cond x.begun high (numbers_past high x.message)) (cond x.begun low (numbers_past low x.message)) xs
    (above_past x.message.stream_identifier x.begun x.message.unordered above) in
    cond_both (share_ssns d x.message) (down x) x
    (λ (z : Waiting). AreAbove d (numbers_after high (x ∷ xs)) (numbers_after low (z ∷ map (moved_down d) xs)))
    (λ e. behind) (λ e. behind)

-- wherever the message stood.
pub after_without : (k : ℕ) (x : Waiting) (numbers : ℕ → ℕ) (xs : List Waiting) → slice_get xs k ≡ Some x
    → x.begun ≡ false
    → AreAbove x.message (numbers_after numbers xs) (numbers_after numbers (without_at k xs))
after_without k x numbers [] e b = absurd (cc)
after_without zero x numbers (y ∷ ys) e b =
    let same : x ≡ y = cc in
    subst (λ (z : Waiting).
    AreAbove z.message (numbers_after numbers (y ∷ ys)) (numbers_after numbers (map (moved_down y.message) ys)))
    (sym same)
    (subst (λ (b : Bool).
    AreAbove y.message (numbers_after (cond b numbers (numbers_past numbers y.message)) ys)
    (numbers_after numbers (map (moved_down y.message) ys))) (sym (ap (λ (z : Waiting). z.begun) (sym same) ∙ b))
    (after_down (numbers_past numbers y.message) numbers ys (above_itself y.message numbers)))
after_without (suc k) x numbers (y ∷ ys) e b =
    after_without k x (cond y.begun numbers (numbers_past numbers y.message)) ys e b
