-- The live streams of an association, by their identifiers, once one of them was changed or made, and a live stream's
-- queue in the model.
use Rattle.std.proofs.Common.{◌≡◌, refl, sym, ap, ◌∙◌, subst, subst₂, ⊎_elim, ℕ, Bool, true, false, cond, eqb}
use Rattle.std.proofs.Common.{List, [], ◌∷◌, Option, Some, None, is_some, Ordering, Less, Equal, Greater}
use Rattle.std.proofs.Common.{is_eq, nat_cmp}
use Rattle.std.specs.Ordering.{match_ordering}
use Rattle.std.proofs.lemmas.Bool.{cases_Bool, cond-true, cond-false, eqb-true, false≢true, true≢false}
use Rattle.std.specs.BTreeMap.{is_at, insert_entry}
use Rattle.std.specs.Map.{lookup}
use Rattle.sctp_wire_types.specs.declared.ids.PayloadProtocolIdentifier.{PayloadProtocolIdentifier}
use Rattle.sctp_streams.specs.Stream.{StreamView, fresh_stream}
use Rattle.sctp_streams.specs.Streams.{StreamMap, made, stream_at}
use Rattle.sctp_model.specs.Messages.{Plan}
use Rattle.sctp_model.specs.Reassembly.{Queue}
use Rattle.sctp_model.specs.Machine.{Direction}
use Rattle.sctp_reassembly.specs.Stands.{StandsFor}
use Rattle.sctp_fit.specs.Incoming.{FitsIncoming, IsQueueAt, Receiving}
pub use Rattle.sctp_streams.proofs.LowMarks.{at_with, found_as, found_of}

-- two keys that differ are not both found
pub cond_swap : {X : Type 0} (n k l : ℕ) (x y z : X) → eqb l k ≡ false
    → cond (eqb n k) y (cond (eqb n l) x z) ≡ cond (eqb n l) x (cond (eqb n k) y z)
cond_swap n k l x y z apart =
    ⊎_elim
    (λ (a : eqb n k ≡ true).
    ⊎_elim
    (λ (b : eqb n l ≡ true). absurd (true≢false (sym (rw (← eqb-true n l b) a) ∙ apart)))
    (λ (b : eqb n l ≡ false). rw (a, b) refl)
    (cases_Bool (eqb n l)))
    (λ (a : eqb n k ≡ false). rw a refl)
    (cases_Bool (eqb n k))

not_first : (b : Bool) (x : StreamView) (o : Option StreamView) → cond b (Some x) o ≡ None → (b ≡ false) × (o ≡ None)
not_first true x o h = absurd (true≢false (ap is_some h))
not_first false x o h = (refl, h)

module _ (id n : ℕ) (s : StreamView) where
  -- a new key before or past the first entry, where it isn't that of the first one
  insert_step : (o : Ordering) (e : ℕ × StreamView) (es rest : List (ℕ × StreamView)) → is_eq o ≡ false
      → eqb id e.0 ≡ false
      → lookup (is_at (nat_cmp n)) rest ≡ cond (eqb n id) (Some s) (lookup (is_at (nat_cmp n)) es)
      → lookup (is_at (nat_cmp n)) (match_ordering o ((id, s) ∷ e ∷ es) ((e.0, s) ∷ es) (e ∷ rest))
      ≡ cond (eqb n id) (Some s) (cond (eqb n e.0) (Some e.1) (lookup (is_at (nat_cmp n)) es))
  insert_step Less e es rest none apart hyp = rw (found_as n id, found_as n e.0) refl
  insert_step Equal e es rest none apart hyp = absurd (true≢false none)
  insert_step Greater e es rest none apart hyp =
      rw (found_as n e.0, hyp) (cond_swap n e.0 id (Some s) (Some e.1) (lookup (is_at (nat_cmp n)) es) apart)

  -- a new key is found afterwards, and each other as before
  insert_found : (es : List (ℕ × StreamView)) → lookup (is_at (nat_cmp id)) es ≡ None
      → lookup (is_at (nat_cmp n)) (insert_entry nat_cmp es id s)
      ≡ cond (eqb n id) (Some s) (lookup (is_at (nat_cmp n)) es)
  insert_found [] h = rw (found_as n id) refl
  insert_found (e ∷ es) h =
      let first = not_first (is_eq (nat_cmp id e.0)) e.1 (lookup (is_at (nat_cmp id)) es) h in
      rw (found_as n e.0)
      (insert_step (nat_cmp id e.0) e es (insert_entry nat_cmp es id s) first.0 (sym (found_as id e.0) ∙ first.0)
      (insert_found es first.1))

-- a stream was made where none was live: the others stay
pub at_made : (m : StreamMap) (id first n : ℕ) (kind : PayloadProtocolIdentifier) → stream_at m id ≡ None
    → stream_at (made m id first kind) n
    ≡ cond (eqb n id) (Some (fresh_stream id m.next_generation first kind)) (stream_at m n)
at_made m id first n kind h = insert_found id n (fresh_stream id m.next_generation first kind) m.by_id h

-- The queues of the model

-- a live stream has a queue in the model
pub queue_of : (peer : ℕ) (p : Plan) (s : ℕ) (x : Option StreamView) (y : Option Queue) (t : StreamView) → x ≡ Some t
    → IsQueueAt peer p s x y
    → (q : Queue) × (y ≡ Some q) × StandsFor peer p s t.reassembly q
queue_of peer p s None y t e h = absurd (false≢true (ap is_some e))
queue_of peer p s (Some x) None t e h = absurd h
queue_of peer p s (Some x) (Some q) t e h =
    (q, refl, subst (λ z. StandsFor peer p s z.reassembly q) (let u : x ≡ t = cc in u) h)

-- where a stream isn't live there is none
pub no_queue_of : (peer : ℕ) (p : Plan) (s : ℕ) (x : Option StreamView) (y : Option Queue) → x ≡ None
    → IsQueueAt peer p s x y → y ≡ None
no_queue_of peer p s (Some x) y e h = absurd (false≢true (sym (ap is_some e)))
no_queue_of peer p s None None e h = refl
no_queue_of peer p s None (Some q) e h = absurd h

-- One live stream is another one now and has another queue, where it is within its span: the reassembly of the one
-- stands for the other. All other streams stay.
pub record IsChangedAt (a : Receiving) (w : Direction) (m : StreamMap) (f : ℕ → Option Queue) (id : ℕ) : Type 0 where
  pub stream : StreamView
  pub queue : Queue
  pub streams : (n : ℕ) → stream_at m n ≡ cond (eqb n id) (Some stream) (stream_at a.streams n)
  pub queues : (n : ℕ) → w.over n ≡ false → f n ≡ cond (eqb n id) (Some queue) (w.receiver.queues n)
  pub stands : StandsFor a.peer w.sender.plan id stream.reassembly queue

module _ (a : Receiving) (w : Direction) (m : StreamMap) (f : ℕ → Option Queue) (id : ℕ)
    (x : IsChangedAt a w m f id) (fits : FitsIncoming a w) where
  -- then each stream within its span has its queue as before
  pub queues_after : (n : ℕ) → w.over n ≡ false → IsQueueAt a.peer w.sender.plan n (stream_at m n) (f n)
  queues_after n v =
      ⊎_elim
      (λ (b : eqb n id ≡ true). subst₂ (IsQueueAt a.peer w.sender.plan n)
      (sym (x.streams n ∙ cond-true (eqb n id) (Some x.stream) (stream_at a.streams n) b))
      (sym (x.queues n v ∙ cond-true (eqb n id) (Some x.queue) (w.receiver.queues n) b))
      (subst (λ z. StandsFor a.peer w.sender.plan z x.stream.reassembly x.queue) (sym (eqb-true n id b)) x.stands))
      (λ (b : eqb n id ≡ false). subst₂ (IsQueueAt a.peer w.sender.plan n)
      (sym (x.streams n ∙ cond-false (eqb n id) (Some x.stream) (stream_at a.streams n) b))
      (sym (x.queues n v ∙ cond-false (eqb n id) (Some x.queue) (w.receiver.queues n) b)) (fits.queues n v))
      (cases_Bool (eqb n id))
