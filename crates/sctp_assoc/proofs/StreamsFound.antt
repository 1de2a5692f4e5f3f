-- What a stream that is found, or made for DATA or a FORWARD TSN, leaves as it was.
use Rattle.std.proofs.Common.{◌≡◌, refl, ap, ◌∙◌, ℕ, Bool, true, false, List, [], ◌∷◌, ◌++◌, is_some}
use Rattle.std.specs.List.{AllByRecursion}
use Rattle.sctp_wire_types.specs.declared.chunk.SkippedStream.{SkippedStream}
use Rattle.sctp_wire_types.specs.declared.ids.PayloadProtocolIdentifier.TheVariants as kinds
use Rattle.sctp_streams.specs.Streams.{generation_left, stream_at}
use Rattle.sctp_directions.specs.Acts.{Act}
use Rattle.sctp_assoc.specs.Finding.{found_at, found_for, found_if, makes_for, stream_found}
use Rattle.sctp_assoc.specs.Happened.{acts_of_finding, acts_of_finding_if, acts_of_stream}
use Rattle.sctp_assoc.specs.Shown.{Shown}

pub stream_receiver : (there left : Bool) (a : Shown) (id : ℕ) → is_some (stream_at a.streams id) ≡ there
    → generation_left a.streams ≡ left
    → (stream_found a id).0.receiver ≡ a.receiver
unfolding stream_found
stream_receiver true left a id e f = rw e refl
stream_receiver false true a id e f = rw (e, f) refl
stream_receiver false false a id e f = rw (e, f) refl

pub stream_resets : (there left : Bool) (a : Shown) (id : ℕ) → is_some (stream_at a.streams id) ≡ there
    → generation_left a.streams ≡ left
    → (stream_found a id).0.resets ≡ a.resets
unfolding stream_found
stream_resets true left a id e f = rw e refl
stream_resets false true a id e f = rw (e, f) refl
stream_resets false false a id e f = rw (e, f) refl

-- What holds still where a stream is found or made holds still where those are on which a FORWARD TSN skips.
module _ (P : Shown → Type 0) (one : (a : Shown) (id : ℕ) → P a → P (stream_found a id).0) where
  found_if_keeps : (makes : Bool) (a : Shown) (id : ℕ) → P a → P (found_if makes a id)
  found_if_keeps true a id p = one a id p
  found_if_keeps false a id p = p

  pub found_at_keeps : (tsn id : ℕ) (a : Shown) → P a → P (found_at tsn id a)
  unfolding found_at
  found_at_keeps tsn id a p = found_if_keeps (makes_for tsn id a) a id p

  pub found_for_keeps : (tsn : ℕ) (es : List SkippedStream) (a : Shown) → P a → P (found_for tsn es a)
  found_for_keeps tsn [] a p = p
  found_for_keeps tsn (e ∷ es) a p =
      found_for_keeps tsn es (found_at tsn e.stream_identifier a) (found_at_keeps tsn e.stream_identifier a p)

-- Streams, what is to be accepted, and events change alone.
abbrev with_streams_of : Shown → Shown → Shown
with_streams_of b a = record a { streams = b.streams; to_accept = b.to_accept; events = b.events }

found_is_if : (there left : Bool) (a : Shown) (id : ℕ) → is_some (stream_at a.streams id) ≡ there
    → generation_left a.streams ≡ left
    → (stream_found a id).0 ≡ with_streams_of (stream_found a id).0 a
unfolding stream_found
found_is_if true left a id e f = rw e refl
found_is_if false true a id e f = rw (e, f) refl
found_is_if false false a id e f = rw (e, f) refl

pub stream_found_is : (a : Shown) (id : ℕ)
    → let b = (stream_found a id).0 in
    b ≡ record a { streams = b.streams; to_accept = b.to_accept; events = b.events }
stream_found_is a id = found_is_if (is_some (stream_at a.streams id)) (generation_left a.streams) a id refl refl

pub found_for_is : (tsn : ℕ) (es : List SkippedStream) (a : Shown)
    → let b = found_for tsn es a in
    b ≡ record a { streams = b.streams; to_accept = b.to_accept; events = b.events }
found_for_is tsn es a =
    found_for_keeps (λ b. b ≡ with_streams_of b a)
    (λ b id e. stream_found_is b id ∙ ap (with_streams_of (stream_found b id).0) e) tsn es a refl

-- Each act of it opens a stream.
module _ (Is : Act → Type 0) (opened : (id first : ℕ) → Is (Act.Opened id first kinds.Unknown)) where
  stream_opens : (there left : Bool) (a : Shown) (id : ℕ) → is_some (stream_at a.streams id) ≡ there
      → generation_left a.streams ≡ left → AllByRecursion Is (acts_of_stream a id)
  stream_opens true left a id e f = rw e tt
  stream_opens false true a id e f = rw (e, f) (opened id a.sender.queue.next_message_id, tt)
  stream_opens false false a id e f = rw (e, f) tt

  finding_opens_if : (makes : Bool) (a : Shown) (id : ℕ) → AllByRecursion Is (acts_of_finding_if makes a id)
  finding_opens_if true a id =
      stream_opens (is_some (stream_at a.streams id)) (generation_left a.streams) a id refl refl
  finding_opens_if false a id = tt

  both_open : (xs ys : List Act) → AllByRecursion Is xs → AllByRecursion Is ys → AllByRecursion Is (xs ++ ys)
  both_open [] ys p q = q
  both_open (x ∷ xs) ys p q = (p.0, both_open xs ys p.1 q)

  pub finding_opens : (tsn : ℕ) (es : List SkippedStream) (a : Shown) → AllByRecursion Is (acts_of_finding tsn es a)
  finding_opens tsn [] a = tt
  finding_opens tsn (e ∷ es) a =
      both_open (acts_of_finding_if (makes_for tsn e.stream_identifier a) a e.stream_identifier)
      (acts_of_finding tsn es (found_at tsn e.stream_identifier a))
      (finding_opens_if (makes_for tsn e.stream_identifier a) a e.stream_identifier)
      (finding_opens tsn es (found_at tsn e.stream_identifier a))
