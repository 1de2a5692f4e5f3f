-- SSNs that are to be lowered yet: those of a generation of a stream by one more where a message of it is dropped.
use Rattle.std.proofs.Common.{◌≡◌, ℕ, ◌+◌, ◌-◌, ◌^◌, ◌<◌, ◌==◌, ◌%◌, true, false, ◌&&◌, List}
use Rattle.std.proofs.Common.{[], ◌∷◌, Some, length, map, slice_get, refl, ap, sym}
use Rattle.std.proofs.Common.{◌∙◌, ⊎_elim, arith, nat_lt}
use Rattle.std.proofs.Math.Bool.{cond}
use Rattle.std.specs.declared.cmp.Ordering.{Ordering}
use Rattle.std.specs.Ordering.{nat_cmp, ordering_then, is_eq}
use Rattle.std.specs.BTreeMap.{is_at}
use Rattle.std.specs.Map.{lookup}
use Rattle.std.specs.Option.{unwrap_or}
use Rattle.std.proofs.lemmas.Bool.{cases_Bool}
use Rattle.std.proofs.lemmas.Bool.Decides.{nat_tests}
use Rattle.sctp_outbound_queue.specs.declared.message.Attributes.{Attributes}
use Rattle.sctp_outbound_queue.specs.Waiting.{Waiting}
use Rattle.sctp_outbound_queue.specs.Message.{moved_down}
use Rattle.sctp_outbound_queue.specs.Owed.{Counts, count_of, generation_cmp, lowered}
use Rattle.sctp_outbound_queue.specs.Owed.{lowered_in, lowered_ssn}

-- one SSN lower

pub one_lower : (n ssn : ℕ) → n < 2 ^ 16 - 1 → lowered_ssn (n + 1) ssn ≡ (lowered_ssn n ssn + 2 ^ 16 - 1) % 2 ^ 16
one_lower n ssn few =
    let more : (n + 1 == 0) ≡ false = grind (arith, nat_tests) in
    ⊎_elim (λ (e : (n == 0) ≡ true). let none : n ≡ 0 = grind (arith, nat_tests, e) in rw (e, more) (omega (arith, none)))
    (λ (e : (n == 0) ≡ false). rw (e, more) (omega (arith, few)))
    (cases_Bool (n == 0))

-- the same generation of the same stream

eq_then : (a b : ℕ) (o : Ordering) → is_eq (ordering_then (nat_cmp a b) o) ≡ (a == b && is_eq o)
eq_then a b o =
    ⊎_elim (λ (l : nat_lt a b ≡ true).
    let apart : (a == b) ≡ false = grind (arith, nat_tests, l) in
    rw (l, apart) refl)
    (λ (l : nat_lt a b ≡ false).
    ⊎_elim (λ (e : (a == b) ≡ true). rw (l, e) refl) (λ (e : (a == b) ≡ false). rw (l, e) refl) (cases_Bool (a == b)))
    (cases_Bool (nat_lt a b))

eq_last : (a b : ℕ) → is_eq (nat_cmp a b) ≡ (a == b)
eq_last a b =
    ⊎_elim (λ (l : nat_lt a b ≡ true).
    let apart : (a == b) ≡ false = grind (arith, nat_tests, l) in
    rw (l, apart) refl)
    (λ (l : nat_lt a b ≡ false).
    ⊎_elim (λ (e : (a == b) ≡ true). rw (l, e) refl) (λ (e : (a == b) ≡ false). rw (l, e) refl) (cases_Bool (a == b)))
    (cases_Bool (nat_lt a b))

pub same_generation : (x y : ℕ × ℕ) → is_at (generation_cmp x) y ≡ (x.0 == y.0 && x.1 == y.1)
same_generation x y = eq_then x.0 y.0 (nat_cmp x.1 y.1) ∙ ap (λ b. x.0 == y.0 && b) (eq_last x.1 y.1)

-- the counts of others stay, and that of the dropped message's generation is one more
abbrev pub CountsOneMore : ℕ × ℕ → Counts → Counts → Type 0
CountsOneMore key old new =
    (q : ℕ × ℕ) → count_of new q ≡ (cond (is_at (generation_cmp key) q) (count_of old key + 1) (count_of old q))

pub counts_more : (key : ℕ × ℕ) (n : ℕ) (old new : Counts) → n ≡ count_of old key
    → ((q : ℕ × ℕ) → lookup (is_at (generation_cmp q)) new
    ≡ cond (is_at (generation_cmp key) q) (Some (n + 1)) (lookup (is_at (generation_cmp q)) old))
    → CountsOneMore key old new
counts_more key n old new is updates q =
    ⊎_elim (λ (e : is_at (generation_cmp key) q ≡ true).
    ap (λ o. unwrap_or o 0) (updates q) ∙ rw e (ap (λ k. k + 1) is))
    (λ (e : is_at (generation_cmp key) q ≡ false). ap (λ o. unwrap_or o 0) (updates q) ∙ rw e refl)
    (cases_Bool (is_at (generation_cmp key) q))

pub lowered_more : (old new : Counts) (d : Attributes) (m : Waiting) → d.unordered ≡ false
    → count_of old (d.stream_identifier, d.generation) < 2 ^ 16 - 1
    → CountsOneMore (d.stream_identifier, d.generation) old new
    → lowered new m ≡ moved_down d (lowered old m)
lowered_more old new d m ordered few counts =
    ⊎_elim (λ (u : m.message.unordered ≡ true). rw (u, ordered) refl)
    (λ (u : m.message.unordered ≡ false).
    let more = counts (m.message.stream_identifier, m.message.generation) in
    let at = same_generation (d.stream_identifier, d.generation) (m.message.stream_identifier, m.message.generation) in
    ⊎_elim (λ (s : (d.stream_identifier == m.message.stream_identifier && d.generation == m.message.generation) ≡ true).
    let stream : d.stream_identifier ≡ m.message.stream_identifier = grind (arith, nat_tests, s) in
    let generation : d.generation ≡ m.message.generation = grind (arith, nat_tests, s) in
    let is : count_of new (m.message.stream_identifier, m.message.generation)
    ≡ count_of old (m.message.stream_identifier, m.message.generation) + 1 =
    more ∙ rw (at, s) (rw (stream, generation) refl) in
    let one = one_lower (count_of old (m.message.stream_identifier, m.message.generation)) m.message.stream_sequence_number
    (rw (stream, generation) at few) in
    rw (u, ordered, s) (rw (is, one) refl))
    (λ (s : (d.stream_identifier == m.message.stream_identifier && d.generation == m.message.generation) ≡ false).
    let same : count_of new (m.message.stream_identifier, m.message.generation)
    ≡ count_of old (m.message.stream_identifier, m.message.generation) = more ∙ rw (at, s) refl in
    rw (u, ordered, s, same) refl)
    (cases_Bool (d.stream_identifier == m.message.stream_identifier && d.generation == m.message.generation)))
    (cases_Bool m.message.unordered)

-- one generation of one stream

pub one_entry : {X : Type 0} (es : List X) (e : X) → length es ≡ 1 → slice_get es 0 ≡ Some e → es ≡ e ∷ []
one_entry [] e one first = absurd (cc)
one_entry (x ∷ []) e one first = let same : x ≡ e = cc in rw same refl
one_entry (x ∷ y ∷ es) e one first = absurd (omega arith)

pub lowered_only : (stream generation n : ℕ) (m : Waiting)
    → lowered (((stream, generation), n) ∷ []) m ≡ lowered_in stream generation n m
lowered_only stream generation n m =
    let at = same_generation (m.message.stream_identifier, m.message.generation) (stream, generation) in
    ⊎_elim (λ (u : m.message.unordered ≡ true). rw u refl)
    (λ (u : m.message.unordered ≡ false).
    ⊎_elim (λ (s : (m.message.stream_identifier == stream && m.message.generation == generation) ≡ true).
    rw (u, s) (rw (at, s) refl))
    (λ (s : (m.message.stream_identifier == stream && m.message.generation == generation) ≡ false).
    rw (u, s) (rw (at, s) refl))
    (cases_Bool (m.message.stream_identifier == stream && m.message.generation == generation)))
    (cases_Bool m.message.unordered)

pub all_only : (stream generation n : ℕ) (counts : Counts) (ms : List Waiting)
    → counts ≡ ((stream, generation), n) ∷ []
    → map (lowered_in stream generation n) ms ≡ map (lowered counts) ms
all_only stream generation n counts [] is = refl
all_only stream generation n counts (m ∷ ms) is =
    let one : lowered_in stream generation n m ≡ lowered counts m =
    sym (ap (λ z. lowered z m) is ∙ lowered_only stream generation n m) in
    ap (λ z. z ∷ map (lowered_in stream generation n) ms) one
    ∙ ap (λ z. lowered counts m ∷ z) (all_only stream generation n counts ms is)

swapped : (a b c d : ℕ) → (a == b && c == d) ≡ (b == a && d == c)
swapped a b c d = grind (arith, nat_tests)

pub lowered_one : (d : Attributes) (m : Waiting) → d.unordered ≡ false
    → lowered_in d.stream_identifier d.generation 1 m ≡ moved_down d m
lowered_one d m ordered =
    let same = swapped m.message.stream_identifier d.stream_identifier m.message.generation d.generation in
    ⊎_elim (λ (u : m.message.unordered ≡ true). rw (u, ordered) refl)
    (λ (u : m.message.unordered ≡ false).
    ⊎_elim (λ (s : (d.stream_identifier == m.message.stream_identifier && d.generation == m.message.generation) ≡ true).
    rw (u, ordered, same, s) refl)
    (λ (s : (d.stream_identifier == m.message.stream_identifier && d.generation == m.message.generation) ≡ false).
    rw (u, ordered, same, s) refl)
    (cases_Bool (d.stream_identifier == m.message.stream_identifier && d.generation == m.message.generation)))
    (cases_Bool m.message.unordered)

pub none_lowered : (m : Waiting) → lowered [] m ≡ m
none_lowered m = ⊎_elim (λ (u : m.message.unordered ≡ true). rw u refl)
    (λ (u : m.message.unordered ≡ false). rw u refl) (cases_Bool m.message.unordered)
