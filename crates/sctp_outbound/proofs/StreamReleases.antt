-- Bytes released at the streams one after another are the same in any order, and no bytes change nothing.
use Rattle.std.proofs.Common.{◌≡◌, ℕ, ◌-◌, true, false, cond, eqb, List, [], ◌∷◌, Option, Some, None}
use Rattle.std.proofs.Common.{refl, ap, sym, ◌∙◌, ⊎_elim, arith}
use Rattle.std.proofs.lemmas.Bool.{cases_Bool}
use Rattle.std.specs.Ordering.{nat_cmp}
use Rattle.std.specs.BTreeMap.{is_at}
use Rattle.std.specs.Map.{lookup}
use Rattle.sctp_outbound_queue.specs.declared.message.InFlight.{InFlight}
use Rattle.sctp_outbound_queue.specs.Message.{acked, outstanding_bytes}
use Rattle.sctp_streams.specs.Stream.{StreamView, released_from}
use Rattle.sctp_streams.specs.Streams.{StreamMap, change_at, is_generation, released_in}
use Rattle.sctp_outbound.specs.Sender.{streams_after}

-- a stream of this generation has so many bytes less
abbrev freed_of : ℕ → ℕ → StreamView → StreamView
freed_of generation bytes t = cond (eqb t.stats.generation generation) (released_from t bytes) t

-- so has the first stream of this identifier
abbrev freed_at : ℕ → ℕ → ℕ → List (ℕ × StreamView) → List (ℕ × StreamView)
freed_at id generation bytes [] = []
freed_at id generation bytes (e ∷ es) =
    cond (is_at (nat_cmp id) e.0) ((e.0, freed_of generation bytes e.1) ∷ es) (e ∷ freed_at id generation bytes es)

abbrev streams_of : List (ℕ × StreamView) → ℕ → StreamMap
streams_of es next = record { by_id = es; next_generation = next }

abbrev with_first : ℕ × StreamView → StreamMap → StreamMap
with_first e m = record m { by_id = e ∷ m.by_id }

module _ (id generation bytes next : ℕ) where
  -- what is released where the lookup found this stream
  abbrev released_where : Option StreamView → List (ℕ × StreamView) → StreamMap
  released_where o es =
      cond (is_generation o generation) (change_at (λ t. released_from t bytes) o (streams_of es next) id)
      (streams_of es next)

  -- a stream of another identifier in front stays
  released_behind : (e : ℕ × StreamView) (es : List (ℕ × StreamView)) (o : Option StreamView)
      → is_at (nat_cmp id) e.0 ≡ false → released_where o (e ∷ es) ≡ with_first e (released_where o es)
  released_behind e es None other = refl
  released_behind e es (Some t) other =
      ⊎_elim
      (λ (g : eqb t.stats.generation generation ≡ true). rw (g, other))
      (λ (g : eqb t.stats.generation generation ≡ false). rw g)
      (cases_Bool (eqb t.stats.generation generation))

  -- a release goes to the first stream of the identifier
  released_as : (es : List (ℕ × StreamView))
      → released_where (lookup (is_at (nat_cmp id)) es) es ≡ streams_of (freed_at id generation bytes es) next
  released_as [] = refl
  released_as (e ∷ es) =
      ⊎_elim (
      λ (here : is_at (nat_cmp id) e.0 ≡ true). ⊎_elim
      (λ (g : eqb e.1.stats.generation generation ≡ true). rw (here, g, here))
      (λ (g : eqb e.1.stats.generation generation ≡ false). rw (here, g))
      (cases_Bool (eqb e.1.stats.generation generation))
      ) (
      λ (other : is_at (nat_cmp id) e.0 ≡ false).
      rw other (released_behind e es (lookup (is_at (nat_cmp id)) es) other ∙ ap (with_first e) (released_as es))
      ) (cases_Bool (is_at (nat_cmp id) e.0))

-- no bytes change nothing

freed_of_none : (generation : ℕ) (t : StreamView) → freed_of generation 0 t ≡ t
freed_of_none generation t =
    ⊎_elim
    (λ (g : eqb t.stats.generation generation ≡ true).
    rw g (ap (λ z. record t { buffered = z }) (let e : t.buffered - 0 ≡ t.buffered = omega arith in e)))
    (λ (g : eqb t.stats.generation generation ≡ false). rw g)
    (cases_Bool (eqb t.stats.generation generation))

freed_none : (id generation : ℕ) (es : List (ℕ × StreamView)) → freed_at id generation 0 es ≡ es
freed_none id generation [] = refl
freed_none id generation (e ∷ es) =
    ⊎_elim
    (λ (here : is_at (nat_cmp id) e.0 ≡ true). rw (here, freed_of_none generation e.1))
    (λ (other : is_at (nat_cmp id) e.0 ≡ false). rw (other, freed_none id generation es))
    (cases_Bool (is_at (nat_cmp id) e.0))

-- a piece that is acknowledged already releases nothing
pub acked_releases_nothing : (x : InFlight) (m : StreamMap) → streams_after (Some (acked x)) m ≡ m
acked_releases_nothing x m =
    released_as x.message.stream_identifier x.message.generation 0 m.next_generation m.by_id
    ∙ ap (λ es. streams_of es m.next_generation)
    (freed_none x.message.stream_identifier x.message.generation m.by_id)

-- two releases

module _ (g b h c : ℕ) where
  freed_of_both : (t : StreamView) → freed_of g b (freed_of h c t) ≡ freed_of h c (freed_of g b t)
  freed_of_both t =
      ⊎_elim (
      λ (p : eqb t.stats.generation g ≡ true). ⊎_elim
      (λ (q : eqb t.stats.generation h ≡ true).
      rw (p, q, p)
      (ap (λ z. record t { buffered = z })
      (let e : t.buffered - c - b ≡ t.buffered - b - c = omega arith in e)))
      (λ (q : eqb t.stats.generation h ≡ false). rw (p, q, p))
      (cases_Bool (eqb t.stats.generation h))
      ) (
      λ (p : eqb t.stats.generation g ≡ false). ⊎_elim
      (λ (q : eqb t.stats.generation h ≡ true). rw (p, q, p))
      (λ (q : eqb t.stats.generation h ≡ false). rw (p, q, p))
      (cases_Bool (eqb t.stats.generation h))
      ) (cases_Bool (eqb t.stats.generation g))

  freed_both : (i j : ℕ) (es : List (ℕ × StreamView))
      → freed_at i g b (freed_at j h c es) ≡ freed_at j h c (freed_at i g b es)
  freed_both i j [] = refl
  freed_both i j (e ∷ es) =
      ⊎_elim (
      λ (p : is_at (nat_cmp i) e.0 ≡ true). ⊎_elim
      (λ (q : is_at (nat_cmp j) e.0 ≡ true). rw (p, q, p, freed_of_both e.1))
      (λ (q : is_at (nat_cmp j) e.0 ≡ false). rw (p, q, p))
      (cases_Bool (is_at (nat_cmp j) e.0))
      ) (
      λ (p : is_at (nat_cmp i) e.0 ≡ false). ⊎_elim
      (λ (q : is_at (nat_cmp j) e.0 ≡ true). rw (p, q, p))
      (λ (q : is_at (nat_cmp j) e.0 ≡ false). rw (p, q, p, freed_both i j es))
      (cases_Bool (is_at (nat_cmp j) e.0))
      ) (cases_Bool (is_at (nat_cmp i) e.0))

  released_both : (i j : ℕ) (m : StreamMap)
      → released_in (released_in m j h c) i g b ≡ released_in (released_in m i g b) j h c
  released_both i j m =
      ap (λ z. released_in z i g b) (released_as j h c m.next_generation m.by_id)
      ∙ released_as i g b m.next_generation (freed_at j h c m.by_id)
      ∙ ap (λ es. streams_of es m.next_generation) (freed_both i j m.by_id)
      ∙ sym (released_as j h c m.next_generation (freed_at i g b m.by_id))
      ∙ sym (ap (λ z. released_in z j h c) (released_as i g b m.next_generation m.by_id))

-- of two pieces it is all the same which is released first
pub releases_commute : (x y : InFlight) (m : StreamMap)
    → streams_after (Some x) (streams_after (Some y) m) ≡ streams_after (Some y) (streams_after (Some x) m)
releases_commute x y m =
    released_both x.message.generation (outstanding_bytes x) y.message.generation (outstanding_bytes y)
    x.message.stream_identifier y.message.stream_identifier m
