-- The bytes that a SACK releases are the same on both sides: of each live stream the outstanding bytes of the pieces
-- that it names, which are those that the direction's sender finds newly acknowledged (RFC 4960 section 6.2.1).
use Rattle.std.proofs.Common.{ℕ, suc, ◌+◌, ◌-◌, ◌<◌, ◌≤◌, ◌≡◌, Bool, true, false, not, cond, eqb, ◌&&◌, List, []}
use Rattle.std.proofs.Common.{◌∷◌, length, Option, Some, None, is_some, refl, sym, ap, ◌∙◌, ⊎_elim, arith}
use Rattle.std.proofs.lemmas.Bool.{cases_Bool, cond_both, cond-true, cond-false, eq-eqb, eqb-true, ne_eqb}
use Rattle.std.proofs.lemmas.Bool.{false≢true, true≢false}
use Rattle.sctp_outbound_queue.specs.declared.message.InFlight.{InFlight}
use Rattle.sctp_outbound_queue.specs.Message.{outstanding_bytes}
use Rattle.sctp_outbound.specs.GapAcks.{released_among}
use Rattle.sctp_outbound.specs.Sender.{streams_after}
use Rattle.sctp_streams.specs.Stream.{StreamView, released_from}
use Rattle.sctp_streams.specs.Streams.{StreamMap, change_at, is_generation, stream_at, with_stream}
use Rattle.sctp_model.specs.Messages.{Plan, accepted_bytes, bytes_at, bytes_below, piece_of, message_of, place_at}
use Rattle.sctp_model.specs.Invariants.{gone_at}
use Rattle.sctp_fit.specs.Outgoing.{AreInFlight, IsInFlight, IsNumbered, IsOwnAt, Names}
use Rattle.sctp_fit.proofs.StreamsThere.{at_with}

-- Streams

-- a stream, if one is live, once so many bytes were released
abbrev pub less : ℕ → Option StreamView → Option StreamView
less bytes None = None
less bytes (Some t) = Some (released_from t bytes)

-- no bytes released change nothing
less_none : (o : Option StreamView) → less 0 o ≡ o
less_none None = refl
less_none (Some t) =
    ap (λ z. Some (record t { buffered = z })) (let e : t.buffered - 0 ≡ t.buffered = omega arith in e)

-- what is released after one another is released together
less_more : (x y : ℕ) (o : Option StreamView) → less y (less x o) ≡ less (x + y) o
less_more x y None = refl
less_more x y (Some t) =
    ap (λ z. Some (record t { buffered = z }))
    (let e : t.buffered - x - y ≡ t.buffered - (x + y) = omega arith in e)

-- what is of a generation stays of it
generation_less : (generation bytes : ℕ) (o : Option StreamView)
    → ((t : StreamView) → o ≡ Some t → t.stats.generation ≡ generation)
    → (u : StreamView) → less bytes o ≡ Some u → u.stats.generation ≡ generation
generation_less generation bytes None h u e = absurd (false≢true (ap is_some e))
generation_less generation bytes (Some t) h u e =
    let r : u ≡ released_from t bytes = cc in ap (λ z. z.stats.generation) r ∙ h t refl

-- and gives its next ordered message the same number
pub numbered_less : (n : Names) (next s bytes : ℕ) (o : Option StreamView)
    → ((t : StreamView) → o ≡ Some t → IsNumbered n next s t)
    → (u : StreamView) → less bytes o ≡ Some u → IsNumbered n next s u
numbered_less n next s bytes None h u e = absurd (false≢true (ap is_some e))
numbered_less n next s bytes (Some t) h u e =
    let r : u ≡ released_from t bytes = cc in
    let k = h t refl in
    record {
      generation = ap (λ z. z.stats.generation) r ∙ k.generation;
      ssn = ap (λ z. z.next_ssn) r ∙ k.ssn;
    }

-- what is buffered falls by as much as is released, where that is no more than was accepted
pub own_less : (p : Plan) (freed s bytes : ℕ) (o : Option StreamView) → freed + bytes ≤ accepted_bytes p s
    → IsOwnAt p freed s o → IsOwnAt p (freed + bytes) s (less bytes o)
own_less p freed s bytes None l h = h
own_less p freed s bytes (Some t) l h = omega (arith, l, h)

-- One piece

-- the stream s, if it is live, is of this generation
abbrev pub IsOf : ℕ → StreamMap → ℕ → Type 0
IsOf generation m s = (t : StreamView) → stream_at m s ≡ Some t → t.stats.generation ≡ generation

-- bytes of a live stream are released in its generation, and those of another one are nothing to it
pub released_at : (m : StreamMap) (id generation bytes s : ℕ) (o : Option StreamView) → stream_at m id ≡ o
    → (id ≡ s → (t : StreamView) → o ≡ Some t → t.stats.generation ≡ generation)
    → stream_at (cond (is_generation o generation) (change_at (λ t. released_from t bytes) o m id) m) s
    ≡ less (cond (eqb id s) bytes 0) (stream_at m s)
released_at m id generation bytes s None e g =
    ⊎_elim
    (λ (b : eqb id s ≡ true).
    let n : stream_at m s ≡ None = ap (stream_at m) (sym (eqb-true id s b)) ∙ e in
    n ∙ sym (ap (less (cond (eqb id s) bytes 0)) n))
    (λ (b : eqb id s ≡ false).
    sym (ap (λ z. less (cond z bytes 0) (stream_at m s)) b ∙ less_none (stream_at m s)))
    (cases_Bool (eqb id s))
released_at m id generation bytes s (Some t) e g =
    ⊎_elim
    (λ (b : eqb id s ≡ true).
    let n : stream_at m s ≡ Some t = ap (stream_at m) (sym (eqb-true id s b)) ∙ e in
    ap (λ z. stream_at (cond z (with_stream m id (released_from t bytes)) m) s)
    (eq-eqb _ _ (g (eqb-true id s b) t refl))
    ∙ at_with m id s t (released_from t bytes) e
    ∙ cond-true (eqb s id) (Some (released_from t bytes)) (stream_at m s) (eq-eqb s id (sym (eqb-true id s b)))
    ∙ sym (ap (λ z. less (cond z bytes 0) (stream_at m s)) b ∙ ap (less bytes) n))
    (λ (b : eqb id s ≡ false).
    cond_both (eqb t.stats.generation generation) (with_stream m id (released_from t bytes)) m
    (λ (z : StreamMap). stream_at z s ≡ stream_at m s)
    (λ c. at_with m id s t (released_from t bytes) e
    ∙ cond-false (eqb s id) (Some (released_from t bytes)) (stream_at m s)
    (ne_eqb s id (λ (d : s ≡ id). false≢true (sym b ∙ eq-eqb id s (sym d)))))
    (λ c. refl)
    ∙ sym (ap (λ z. less (cond z bytes 0) (stream_at m s)) b ∙ less_none (stream_at m s)))
    (cases_Bool (eqb id s))

-- a piece releases its outstanding bytes, where a SACK names it
released_step : (m : StreamMap) (x : InFlight) (s : ℕ) (named : Bool)
    → (x.message.stream_identifier ≡ s → IsOf x.message.generation m x.message.stream_identifier)
    → stream_at (cond named (streams_after (Some x) m) m) s
    ≡ less (cond named (cond (eqb x.message.stream_identifier s) (outstanding_bytes x) 0) 0) (stream_at m s)
released_step m x s true is =
    released_at m x.message.stream_identifier x.message.generation (outstanding_bytes x) s
    (stream_at m x.message.stream_identifier) refl is
released_step m x s false is = sym (less_none (stream_at m s))

-- All pieces

-- the outstanding bytes of stream s among some pieces from the number j on, those that a SACK names
abbrev pub freed : (ℕ → Bool) → ℕ → ℕ → List InFlight → ℕ
freed named s j [] = 0
freed named s j (x ∷ xs) =
    cond (named j) (cond (eqb x.message.stream_identifier s) (outstanding_bytes x) 0) 0 + freed named s (suc j) xs

module _ (n : Names) (p : Plan) (acked : ℕ → Bool) (gone : ℕ → ℕ → Bool) (named : ℕ → Bool) (s : ℕ)
    (within : n.within s ≡ true) where
  -- a piece of the stream is of its generation
  same_generation : (m : StreamMap) (o : ℕ) (x : InFlight) → IsOf (n.generations s) m s → IsInFlight n p acked gone o x
      → x.message.stream_identifier ≡ s → IsOf x.message.generation m x.message.stream_identifier
  same_generation m o x is h e t there =
      is t (ap (stream_at m) (sym e) ∙ there) ∙ ap n.generations (sym e)
      ∙ sym (h.message.generation (ap n.within e ∙ within))

  -- if it is live, it has what was released of it less
  pub released_all : (o j : ℕ) (xs : List InFlight) (m : StreamMap) → IsOf (n.generations s) m s
      → AreInFlight n p acked gone o xs
      → stream_at (released_among named j xs m) s ≡ less (freed named s j xs) (stream_at m s)
  released_all o j [] m is h = sym (less_none (stream_at m s))
  released_all o j (x ∷ xs) m is (h, hs) =
      let here = released_step m x s (named j) (same_generation m o x is h) in
      released_all (suc o) (suc j) xs (cond (named j) (streams_after (Some x) m) m)
      (λ u e. generation_less (n.generations s) _ (stream_at m s) is u (sym here ∙ e))
      hs
      ∙ ap (less (freed named s (suc j) xs)) here
      ∙ less_more _ _ (stream_at m s)

-- The model

-- an offset that is acknowledged for the first time, of a message that isn't given up
abbrev pub newly_of : Plan → (ℕ → Bool) → (ℕ → ℕ → Bool) → (ℕ → Bool) → ℕ → Bool
newly_of p acked gone said o = said o && (not (acked o) && not (gone_at p gone o))

-- a piece that counts on the model's side counts here
either_way : (here named acked gone : Bool) (y z : ℕ) → (gone ≡ false → y ≡ z)
    → cond here (cond (named && (not acked && not gone)) y 0) 0
    ≡ cond named (cond here (cond (not acked && not gone) z 0) 0) 0
either_way true true true gone y z e = refl
either_way true true false true y z e = refl
either_way true true false false y z e = e refl
either_way true false acked gone y z e = refl
either_way false true acked gone y z e = refl
either_way false false acked gone y z e = refl

module _ (n : Names) (p : Plan) (acked : ℕ → Bool) (gone : ℕ → ℕ → Bool) (said named : ℕ → Bool) (s : ℕ)
    (tails : (o : ℕ) → o < length p.places → (place_at p o).marker ≡ true → gone_at p gone o ≡ true) where
  -- the bytes of a piece that isn't given up are those of its offset
  same_bytes : (o : ℕ) (x : InFlight) → IsInFlight n p acked gone o x → x.abandoned ≡ false
      → bytes_at p (place_at p o) ≡ length x.user_data
  same_bytes o x h stays = ⊎_elim
      (λ (b : (place_at p o).marker ≡ true). absurd (true≢false (sym (h.abandoned ∙ tails o h.known b) ∙ stays)))
      (λ (b : (place_at p o).marker ≡ false).
      cond-false (place_at p o).marker 0
      (length (piece_of p.size (message_of p (place_at p o)).bytes (place_at p o).piece)) b
      ∙ ap length (sym (h.piece b).bytes))
      (cases_Bool (place_at p o).marker)

  -- what a piece adds on both sides
  bytes_of_piece : (o j : ℕ) (x : InFlight) → IsInFlight n p acked gone o x → said o ≡ named j
      → cond (eqb (place_at p o).stream s) (cond (newly_of p acked gone said o) (bytes_at p (place_at p o)) 0) 0
      ≡ cond (named j) (cond (eqb x.message.stream_identifier s) (outstanding_bytes x) 0) 0
  bytes_of_piece o j x h e =
      ap (λ z. cond (eqb z s) (cond (newly_of p acked gone said o) (bytes_at p (place_at p o)) 0) 0) (sym h.stream)
      ∙ ap (λ z. cond (eqb x.message.stream_identifier s)
      (cond (z && (not (acked o) && not (gone_at p gone o))) (bytes_at p (place_at p o)) 0) 0) e
      ∙ ap (λ z. cond (eqb x.message.stream_identifier s)
      (cond (named j && (not z && not (gone_at p gone o))) (bytes_at p (place_at p o)) 0) 0) (sym h.acked)
      ∙ ap (λ z. cond (eqb x.message.stream_identifier s)
      (cond (named j && (not x.acked && not z)) (bytes_at p (place_at p o)) 0) 0) (sym h.abandoned)
      ∙ either_way (eqb x.message.stream_identifier s) (named j) x.acked x.abandoned (bytes_at p (place_at p o))
      (length x.user_data) (same_bytes o x h)

  -- what all pieces add
  pub bytes_of_flight : (o j : ℕ) (xs : List InFlight) → AreInFlight n p acked gone o xs
      → ((i : ℕ) → i < length xs → said (o + i) ≡ named (j + i))
      → bytes_below p (newly_of p acked gone said) s (length p.places)
      ≡ bytes_below p (newly_of p acked gone said) s o + freed named s j xs
  bytes_of_flight o j [] h e =
      ap (bytes_below p (newly_of p acked gone said) s) (sym h)
      ∙ (let r : bytes_below p (newly_of p acked gone said) s o
      ≡ bytes_below p (newly_of p acked gone said) s o + 0 = omega arith in r)
  bytes_of_flight o j (x ∷ xs) (h, hs) e =
      let first =
      bytes_of_piece o j x h
      (ap said (let r : o ≡ o + 0 = omega arith in r) ∙ e 0 (omega arith)
      ∙ ap named (let r : j + 0 ≡ j = omega arith in r)) in
      let rest =
      bytes_of_flight (suc o) (suc j) xs hs
      (λ i l. ap said (let r : suc o + i ≡ o + suc i = omega arith in r) ∙ e (suc i) (omega (arith, l))
      ∙ ap named (let r : j + suc i ≡ suc j + i = omega arith in r)) in
      omega arith
