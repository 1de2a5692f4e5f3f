-- Messages of which nothing was sent and whose time is over are dropped, one after another.
use Rattle.std.proofs.Common.{◌≡◌, refl, sym, ap, ◌∙◌, ℕ, zero, suc, ◌+◌, Bool, true, false, not, ◌&&◌}
use Rattle.std.proofs.Common.{arith, if◌then◌else◌, is_some, List, [], ◌∷◌, slice_get, Option, Some, None}
use Rattle.std.proofs.lemmas.Bool.{and_parts, false≢true}
use Rattle.std.proofs.lemmas.List.Folds.{find_at}
use Rattle.std.specs.List.{find, position_or_len}
use Rattle.sctp_wire_types.specs.declared.reliability.Policy.{Policy}
use Rattle.sctp_wire_types.specs.declared.reliability.Policy.TheVariants.{Reliable, Rexmit, Timed}
use Rattle.sctp_outbound_queue.specs.Expiry.{without_expired}
use Rattle.sctp_outbound_queue.specs.Message.{is_expired, is_expired_unsent, is_past}
use Rattle.sctp_outbound_queue.specs.Waiting.{Waiting}
use Rattle.sctp_outbound_queue.proofs.ExpiredUnsent.{without_none}
use Rattle.sctp_streams.specs.Streams.{StreamMap}
use Rattle.sctp_outbound.specs.declared.sender.Sender.{Sender}
use Rattle.sctp_outbound.specs.Abandonment.{dropped_first, first_dropped}
use Rattle.sctp_model.specs.Messages.{is_reliable}
use Rattle.sctp_fit.specs.Drops.{without_at}
use Rattle.sctp_fit.specs.Outgoing.{policy_of}
use Rattle.sctp_directions.specs.Acts.{History, can_drop}
use Rattle.sctp_assoc.specs.Happened.{acts_of_dropping, acts_of_drops}
use Rattle.sctp_assoc.proofs.Giving.{Gives, both_parts, gives_none, gives_on}

-- a message that is past its time is not reliable
pub late_unreliable : (p : Policy) (deadline : Option ℕ) (now : ℕ) → is_past p deadline now ≡ true
    → is_reliable (policy_of p) ≡ false
late_unreliable Reliable deadline now e = absurd (false≢true e)
late_unreliable (Rexmit n) deadline now e = absurd (false≢true e)
late_unreliable (Timed ms) deadline now e = refl

both_true : (a b : Bool) → a ≡ true → b ≡ false → (a && not b) ≡ true
both_true a b e f = rw (e, f) refl

unsent_can_drop : (now : ℕ) (m : Waiting) → is_expired_unsent now m ≡ true → can_drop (Some m) ≡ true
unsent_can_drop now m e =
    let parts = and_parts (not m.begun) (is_expired now m.message) e in
    both_true (not m.begun) (is_reliable (policy_of m.message.policy)) parts.0
    (late_unreliable m.message.policy m.message.deadline now parts.1)

found_passes_if : (c : Bool) (test : Waiting → Bool) (m x : Waiting) (ms : List Waiting) → test m ≡ c
    → (find test ms ≡ Some x → test x ≡ true) → (if c then Some m else find test ms) ≡ Some x → test x ≡ true
found_passes_if true test m x ms e rest f = (let same : m ≡ x = cc in rw (← same) e)
found_passes_if false test m x ms e rest f = rest f

found_passes : (test : Waiting → Bool) (ms : List Waiting) (x : Waiting) → find test ms ≡ Some x → test x ≡ true
found_passes test [] x e = absurd cc
found_passes test (m ∷ ms) x e = found_passes_if (test m) test m x ms refl (found_passes test ms x) e

one_more : (n : ℕ) → 1 + n ≡ suc n
one_more n = omega arith

-- what waits without the first one that passes
module _ (now : ℕ) where
  without_first_if : (c : Bool) (m : Waiting) (ms : List Waiting) → is_expired_unsent now m ≡ c
      → (is_some (find (is_expired_unsent now) ms) ≡ true
      → without_expired now ms ≡ without_at (position_or_len (is_expired_unsent now) ms) ms)
      → is_some (find (is_expired_unsent now) (m ∷ ms)) ≡ true
      → without_expired now (m ∷ ms) ≡ without_at (position_or_len (is_expired_unsent now) (m ∷ ms)) (m ∷ ms)
  without_first_if true m ms e rest some = rw e refl
  without_first_if false m ms e rest some =
      let later : is_some (find (is_expired_unsent now) ms) ≡ true = rw e at some in
      let index = position_or_len (is_expired_unsent now) ms in
      rw e (ap (λ (z : List Waiting). m ∷ z) (rest later) ∙ sym (ap (λ k. without_at k (m ∷ ms)) (one_more index)))

  without_first_found : (ms : List Waiting) → is_some (find (is_expired_unsent now) ms) ≡ true
      → without_expired now ms ≡ without_at (position_or_len (is_expired_unsent now) ms) ms
  without_first_found [] some = absurd (false≢true some)
  without_first_found (m ∷ ms) some =
      without_first_if (is_expired_unsent now m) m ms refl (without_first_found ms) some

  one_drop_gives : (o : Option Waiting) (s : Sender) (m : StreamMap) (h : History)
      → find (is_expired_unsent now) s.queue.pending ≡ o
      → Gives (acts_of_dropping o (position_or_len (is_expired_unsent now) s.queue.pending)) (both_parts (s, m) h)
      (both_parts (first_dropped now (s, m)) h) []
  unfolding first_dropped
  one_drop_gives None s m h e =
      record { can = tt; there = rw (e, without_none now s.queue.pending e) refl; said = refl }
  one_drop_gives (Some x) s m h e =
      let index = position_or_len (is_expired_unsent now) s.queue.pending in
      let held : slice_get s.queue.pending index ≡ Some x =
      sym (find_at (is_expired_unsent now) s.queue.pending) ∙ e in
      let less = without_first_found s.queue.pending (ap (λ (z : Option Waiting). is_some z) e) in
      record {
        can = (
          rw held (unsent_can_drop now x (found_passes (is_expired_unsent now) s.queue.pending x e)),
          tt,
        );
        there = rw (held, e, less) refl;
        said = refl;
      }

  pub drops_give : (n : ℕ) (all : Sender × StreamMap) (h : History)
      → Gives (acts_of_drops n now all) (both_parts all h) (both_parts (dropped_first n now all) h) []
  drops_give zero all h = gives_none (both_parts all h)
  drops_give (suc n) (s, m) h =
      gives_on _ (acts_of_drops n now (first_dropped now (s, m))) (both_parts (s, m) h)
      (both_parts (first_dropped now (s, m)) h) (both_parts (dropped_first (suc n) now (s, m)) h) [] []
      (one_drop_gives (find (is_expired_unsent now) s.queue.pending) s m h refl)
      (drops_give n (first_dropped now (s, m)) h)
