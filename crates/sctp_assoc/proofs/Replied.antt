-- What a reply says of the association: one whose call was not refused worked, and a question leaves it as it was.
use Rattle.std.proofs.Common.{◌≡◌, refl, ap, inl, inr, ℕ, Bool, true, false, Option, Some, None, if◌then◌else◌}
use Rattle.std.proofs.lemmas.Bool.{true≢false}
use Rattle.std.specs.Prelude.{is_some}
use Rattle.sctp_wire_types.specs.declared.error.Error.{Error}
use Rattle.sctp_wire_types.specs.declared.error.Error.TheVariants as errors
use Rattle.sctp_streams.specs.Stream.{StreamView}
use Rattle.sctp_assoc.specs.declared.call.Reply.{Reply}
use Rattle.sctp_assoc.specs.declared.call.Reply.TheVariants as replies
use Rattle.sctp_assoc.specs.Calls.{first_refusal, stream_refusal}
use Rattle.sctp_assoc.specs.Replies.{Buffers, Finds, Lists, Measures, ShowsOrRefuses}
use Rattle.sctp_assoc.specs.Shown.{Shown}

-- what is not refused works, where failure is what refuses first
pub unfailed : (failed : Bool) (other : Option Error)
    → (if failed then Some errors.ErrAssociationFailed else other) ≡ None → failed ≡ false
unfailed false other e = refl
unfailed true other e = absurd (true≢false (ap is_some e))

pub first_unrefused : (first own : Option Error) → first_refusal first own ≡ None → first ≡ None
first_unrefused None own e = refl
first_unrefused (Some fault) own e = absurd (true≢false (ap is_some e))

pub found_works : (a : Shown) (id : ℕ) → stream_refusal a id ≡ None → a.failed ≡ false
found_works a id e = unfailed a.failed _ e

-- a call of a stream that is not refused
pub lent_works : (a : Shown) (id : ℕ) (own : Option Error) → first_refusal (stream_refusal a id) own ≡ None
    → a.failed ≡ false
lent_works a id own e = found_works a id (first_unrefused (stream_refusal a id) own e)

-- Questions change nothing

pub finds_same : (a : Shown) (id : ℕ) (r : Reply) (b : Shown) → Finds a id r b → b ≡ a
finds_same a id replies.Done b h = h.1
finds_same a id (replies.Refused n) b h = h.1
finds_same a id r b h = absurd h

pub lists_same : (a : Shown) (r : Reply) (b : Shown) → Lists a r b → b ≡ a
lists_same a (replies.StreamIds ids) b h = h.2
lists_same a (replies.Refused n) b (inl had) = had.2
lists_same a (replies.Refused n) b (inr lacks) = lacks.2
lists_same a r b h = absurd h

pub shows_same : (a : Shown) (id : ℕ) (answer : StreamView → Reply) (r : Reply) (b : Shown)
    → ShowsOrRefuses a id answer r b → b ≡ a
shows_same a id answer r b (inl shown) = shown.same
shows_same a id answer r b (inr refused) = refused.3

pub buffers_same : (a : Shown) (id : ℕ) (r : Reply) (b : Shown) → Buffers a id r b → b ≡ a
buffers_same a id (replies.BufferedAmount n) b h = h.1
buffers_same a id (replies.Refused n) b h = h.1
buffers_same a id r b h = absurd h

pub measures_same : (a : Shown) (r : Reply) (b : Shown) → Measures a r b → b ≡ a
measures_same a (replies.Rtt duration) b h = h.1
measures_same a r b h = absurd h
