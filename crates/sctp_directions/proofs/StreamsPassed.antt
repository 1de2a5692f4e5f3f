-- The live streams of an association once a FORWARD TSN passed over what it says, and what one stream's change leaves.
use Rattle.std.proofs.Common.{◌≡◌, refl, sym, ap, ◌∙◌, ⊎_elim, ℕ, Bool, true, false, cond, eqb}
use Rattle.std.proofs.Common.{List, [], ◌∷◌, Option, Some, None, is_eq, nat_cmp}
use Rattle.std.specs.Option.{option_map, option_to_list}
use Rattle.std.specs.BTreeMap.{is_at}
use Rattle.std.specs.Map.{lookup}
use Rattle.std.proofs.lemmas.Bool.{cases_Bool, cond-false, cond-true, eq-eqb, eqb-true, false≢true, ne_eqb}
use Rattle.sctp_serial.specs.Serial.{tsn}
use Rattle.sctp_wire_types.specs.declared.chunk.SkippedStream.{SkippedStream}
use Rattle.sctp_streams.specs.Stream.{StreamView, stream_passed, stream_skipped}
use Rattle.sctp_streams.specs.Streams.{StreamMap, change_at, changed_stream, passed_each, stream_at}
use Rattle.sctp_fit.specs.Forwards.{numbers_told, passed_stream}
use Rattle.sctp_fit.proofs.StreamsThere.{at_with}
use Rattle.sctp_directions.specs.Acts.{passed_over, skipped_each}

-- One stream changes

-- the stream of one identifier, if it is live, is changed, and each other one stays
at_changed : (f : StreamView → StreamView) (m : StreamMap) (id s : ℕ)
    → stream_at (changed_stream f m id) s ≡ cond (eqb id s) (option_map f (stream_at m s)) (stream_at m s)
at_changed f m id s = go (stream_at m id) refl
  where
    go : (o : Option StreamView) → stream_at m id ≡ o
        → stream_at (change_at f o m id) s ≡ cond (eqb id s) (option_map f (stream_at m s)) (stream_at m s)
    go None e = ⊎_elim
        (λ (b : eqb id s ≡ true).
        let none : stream_at m s ≡ None = ap (stream_at m) (sym (eqb-true id s b)) ∙ e in
        none ∙ sym (cond-true (eqb id s) (option_map f (stream_at m s)) (stream_at m s) b ∙ ap (option_map f) none))
        (λ (b : eqb id s ≡ false).
        sym (cond-false (eqb id s) (option_map f (stream_at m s)) (stream_at m s) b))
        (cases_Bool (eqb id s))
    go (Some t) e =
        at_with m id s t (f t) e
        ∙ ⊎_elim
        (λ (b : eqb id s ≡ true).
        cond-true (eqb s id) (Some (f t)) (stream_at m s) (turned b)
        ∙ sym (cond-true (eqb id s) (option_map f (stream_at m s)) (stream_at m s) b
        ∙ ap (option_map f) (ap (stream_at m) (sym (eqb-true id s b)) ∙ e)))
        (λ (b : eqb id s ≡ false).
        cond-false (eqb s id) (Some (f t)) (stream_at m s) (apart b)
        ∙ sym (cond-false (eqb id s) (option_map f (stream_at m s)) (stream_at m s) b))
        (cases_Bool (eqb id s))
      where
        turned : eqb id s ≡ true → eqb s id ≡ true
        turned b = eq-eqb s id (sym (eqb-true id s b))

        apart : eqb id s ≡ false → eqb s id ≡ false
        apart b = ne_eqb s id (λ (e : s ≡ id). false≢true (sym b ∙ eq-eqb id s (sym e)))

-- Ordered messages are skipped

-- a stream skips up to these numbers, one after another
abbrev pub skipped_by : List ℕ → StreamView → StreamView
skipped_by [] t = t
skipped_by (n ∷ ns) t = skipped_by ns (stream_skipped n t)

skipped_none : (o : Option StreamView) → option_map (skipped_by []) o ≡ o
skipped_none None = refl
skipped_none (Some t) = refl

skipped_first : (n : ℕ) (ns : List ℕ) (o : Option StreamView)
    → option_map (skipped_by ns) (option_map (stream_skipped n) o) ≡ option_map (skipped_by (n ∷ ns)) o
skipped_first n ns None = refl
skipped_first n ns (Some t) = refl

-- each live stream skips up to the numbers that are told for it
at_skipped : (es : List SkippedStream) (m : StreamMap) (s : ℕ)
    → stream_at (skipped_each es m) s ≡ option_map (skipped_by (numbers_told s es)) (stream_at m s)
at_skipped [] m s = sym (skipped_none (stream_at m s))
at_skipped (e ∷ es) m s =
    at_skipped es (changed_stream (stream_skipped e.stream_sequence_number) m e.stream_identifier) s
    ∙ ap (option_map (skipped_by (numbers_told s es)))
    (at_changed (stream_skipped e.stream_sequence_number) m e.stream_identifier s)
    ∙ ⊎_elim
    (λ (b : eqb e.stream_identifier s ≡ true).
    rw b (skipped_first e.stream_sequence_number (numbers_told s es) (stream_at m s)))
    (λ (b : eqb e.stream_identifier s ≡ false). rw b refl)
    (cases_Bool (eqb e.stream_identifier s))

-- Unordered pieces are dropped

mapped_step : (g : StreamView → StreamView) (b : Bool) (t : StreamView) (o : Option StreamView)
    → cond b (Some (g t)) (option_map g o) ≡ option_map g (cond b (Some t) o)
mapped_step g true t o = refl
mapped_step g false t o = refl

found_passed : (t s : ℕ) (es : List (ℕ × StreamView))
    → lookup (is_at (nat_cmp s)) (passed_each t es) ≡ option_map (stream_passed t) (lookup (is_at (nat_cmp s)) es)
found_passed t s [] = refl
found_passed t s (e ∷ es) =
    ap (cond (is_eq (nat_cmp s e.0)) (Some (stream_passed t e.1))) (found_passed t s es)
    ∙ mapped_step (stream_passed t) (is_eq (nat_cmp s e.0)) e.1 (lookup (is_at (nat_cmp s)) es)

-- Both

-- a stream once a FORWARD TSN passed over all up to a TSN and told these numbers for it
abbrev pub passed_by : ℕ → List ℕ → StreamView → StreamView
passed_by t ns u = stream_passed t (skipped_by ns u)

mapped_twice : (f g : StreamView → StreamView) (o : Option StreamView)
    → option_map f (option_map g o) ≡ option_map (λ t. f (g t)) o
mapped_twice f g None = refl
mapped_twice f g (Some t) = refl

pub at_passed : (t : ℕ) (es : List SkippedStream) (m : StreamMap) (s : ℕ)
    → stream_at (passed_over t es m) s ≡ option_map (passed_by t (numbers_told s es)) (stream_at m s)
at_passed t es m s =
    found_passed t s (skipped_each es m).by_id
    ∙ ap (option_map (stream_passed t)) (at_skipped es m s)
    ∙ mapped_twice (stream_passed t) (skipped_by (numbers_told s es)) (stream_at m s)

-- that is what the direction's receiver is asked to do, where the numbers and the TSN are those of its FORWARD TSN
pub passed_alike : (t peer o : ℕ) (ns : List ℕ) (number : Option ℕ) (x : Option StreamView) → t ≡ tsn peer o
    → ns ≡ option_to_list number
    → option_map (passed_by t ns) x ≡ option_map (passed_stream peer o number) x
passed_alike t peer o ns number x at same =
    ap (λ z. option_map (passed_by z ns) x) at
    ∙ ap (λ z. option_map (passed_by (tsn peer o) z) x) same
    ∙ by_number number
  where
    by_number : (n : Option ℕ)
        → option_map (passed_by (tsn peer o) (option_to_list n)) x ≡ option_map (passed_stream peer o n) x
    by_number None = ap (λ g. option_map g x) refl
    by_number (Some n) = ap (λ g. option_map g x) refl
