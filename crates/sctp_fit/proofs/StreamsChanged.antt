-- What holds of all live streams, once one of them was changed or made.
use Rattle.std.proofs.Common.{◌≡◌, sym, ◌∙◌, ℕ, Option, Some, None, ⊎_elim, subst}
use Rattle.std.proofs.lemmas.Bool.{cases_eq, cond-true, cond-false, eq-eqb, ne_eqb}
use Rattle.sctp_wire_types.specs.declared.ids.PayloadProtocolIdentifier.{PayloadProtocolIdentifier}
use Rattle.sctp_streams.specs.Stream.{StreamView, fresh_stream}
use Rattle.sctp_streams.specs.Streams.{StreamMap, made, stream_at, with_stream}
use Rattle.sctp_fit.proofs.StreamsThere.{at_made, at_with}

-- What holds of one stream that is another now, and of each other one, holds of all.
module _ (m : StreamMap) (id : ℕ) (t u : StreamView) (P : ℕ → Option StreamView → Type 0)
    (e : stream_at m id ≡ Some t) (all : (s : ℕ) → (s ≡ id → ⊥) → P s (stream_at m s)) (here : P id (Some u)) where
  pub each_with : (s : ℕ) → P s (stream_at (with_stream m id u) s)
  each_with s = ⊎_elim
      (λ (a : s ≡ id). subst (P s) (sym (at_with m id s t u e ∙ cond-true _ (Some u) (stream_at m s) (eq-eqb s id a)))
      (subst (λ z. P z (Some u)) (sym a) here))
      (λ (ne : s ≡ id → ⊥).
      subst (P s) (sym (at_with m id s t u e ∙ cond-false _ (Some u) (stream_at m s) (ne_eqb s id ne))) (all s ne))
      (cases_eq s id)

-- What holds of a stream that is made, and of each other one, holds of all.
module _ (m : StreamMap) (id first : ℕ) (kind : PayloadProtocolIdentifier) (P : ℕ → Option StreamView → Type 0)
    (e : stream_at m id ≡ None) (all : (s : ℕ) → (s ≡ id → ⊥) → P s (stream_at m s))
    (here : P id (Some (fresh_stream id m.next_generation first kind))) where
  pub each_made : (s : ℕ) → P s (stream_at (made m id first kind) s)
  each_made s = ⊎_elim
      (λ (a : s ≡ id).
      subst (P s)
      (sym (at_made m id first s kind e
      ∙ cond-true _ (Some (fresh_stream id m.next_generation first kind)) (stream_at m s) (eq-eqb s id a)))
      (subst (λ z. P z (Some (fresh_stream id m.next_generation first kind))) (sym a) here))
      (λ (ne : s ≡ id → ⊥).
      subst (P s)
      (sym (at_made m id first s kind e ∙ cond-false _ (Some (fresh_stream id m.next_generation first kind))
      (stream_at m s) (ne_eqb s id ne))) (all s ne))
      (cases_eq s id)
