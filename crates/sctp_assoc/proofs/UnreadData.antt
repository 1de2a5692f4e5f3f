-- Where nobody reads the stream any more to which DATA comes.
use Rattle.std.proofs.Common.{◌≡◌, refl, sym, ap, ◌∙◌, ℕ, Bool, true, false, ◌&&◌, not, is_some, [], ◌∷◌}
use Rattle.std.proofs.Common.{Option, Some, None}
use Rattle.std.proofs.lemmas.Bool.{and_parts, cond-true, eq-eqb, false≢true, true≢false, true_from_ne_false}
use Rattle.sctp_wire_types.specs.Config.{is_rfc}
use Rattle.sctp_wire_types.specs.declared.chunk.ChunkPayloadData.{ChunkPayloadData}
use Rattle.sctp_wire_types.specs.declared.config.Profile.{Profile}
use Rattle.sctp_wire_types.specs.declared.config.Profile.TheVariants as profiles
use Rattle.sctp_wire_types.specs.declared.ids.PayloadProtocolIdentifier.{PayloadProtocolIdentifier}
use Rattle.sctp_wire_types.specs.declared.ids.PayloadProtocolIdentifier.TheVariants as kinds
use Rattle.sctp_streams.specs.Stream.{StreamView, fresh_stream, is_read_half_open}
use Rattle.sctp_streams.specs.Streams.{StreamMap, generation_left, made, refusal_in, stream_at}
use Rattle.sctp_fit.proofs.StreamsThere.{at_made}
use Rattle.sctp_directions.specs.Acts.{Act, HasReadOpen}
use Rattle.sctp_assoc.specs.Calls.{holds_at}
use Rattle.sctp_assoc.specs.Chunks.{goes_unread, handed_over, intake_refusal, left_or_handed_over, left_unread}
use Rattle.sctp_assoc.specs.Chunks.{nobody_reads, refusal_unless_left, stream_found, taken_in}
use Rattle.sctp_assoc.specs.Happened.{acts_if_left, acts_of_taking, acts_unless_refused}
use Rattle.sctp_assoc.specs.Shown.{Shown}

-- by the rules of the port what comes is delivered to each live stream
pub read_by_port : (profile : Profile) (m : StreamMap) (id : ℕ) → profile ≡ profiles.Port
    → nobody_reads profile m id ≡ false
unfolding nobody_reads
read_by_port profile m id e = ap (λ (p : Profile). nobody_reads p m id) e

-- A stream that is found or made

and_none : (b : Bool) → (b && false) ≡ false
and_none true = refl
and_none false = refl

-- one that is not live has no read half that is closed
pub absent_is_read : (profile : Profile) (m : StreamMap) (id : ℕ) → stream_at m id ≡ None
    → nobody_reads profile m id ≡ false
unfolding nobody_reads
absent_is_read profile m id none =
    ap (λ (o : Option StreamView). is_rfc profile && holds_at (λ s. not (is_read_half_open s.halves)) o) none
    ∙ and_none (is_rfc profile)

-- and one that is made has one that is open
pub made_is_read : (profile : Profile) (m : StreamMap) (id first : ℕ) (kind : PayloadProtocolIdentifier)
    → stream_at m id ≡ None → nobody_reads profile (made m id first kind) id ≡ false
unfolding nobody_reads
made_is_read profile m id first kind none =
    ap (λ (o : Option StreamView). is_rfc profile && holds_at (λ s. not (is_read_half_open s.halves)) o)
    (at_made m id first id kind none
    ∙ cond-true _ (Some (fresh_stream id m.next_generation first kind)) (stream_at m id) (eq-eqb id id refl))
    ∙ and_none (is_rfc profile)

nothing_there : (o : Option StreamView) → is_some o ≡ false → o ≡ None
nothing_there None e = refl
nothing_there (Some s) e = absurd (true≢false e)

found_reads_if : (there left : Bool) (a : Shown) (id : ℕ) → is_some (stream_at a.streams id) ≡ there
    → generation_left a.streams ≡ left
    → nobody_reads (stream_found a id).0.profile (stream_found a id).0.streams id
    ≡ nobody_reads a.profile a.streams id
unfolding stream_found
found_reads_if true left a id e f = rw e refl
found_reads_if false true a id e f =
    let none : stream_at a.streams id ≡ None = nothing_there (stream_at a.streams id) e in
    rw (e, f)
    (made_is_read a.profile a.streams id a.sender.queue.next_message_id kinds.Unknown none
    ∙ sym (absent_is_read a.profile a.streams id none))
found_reads_if false false a id e f = rw (e, f) refl

-- so it is read, or not, as before
pub found_reads : (a b : Shown) (id : ℕ) → stream_found a id ≡ (b, true)
    → nobody_reads b.profile b.streams id ≡ nobody_reads a.profile a.streams id
found_reads a b id e =
    sym (ap (λ (z : Shown × Bool). nobody_reads z.0.profile z.0.streams id) e)
    ∙ found_reads_if (is_some (stream_at a.streams id)) (generation_left a.streams) a id refl refl

-- A stream that nobody reads

-- it is live
pub left_is_live : (profile : Profile) (m : StreamMap) (id : ℕ) → nobody_reads profile m id ≡ true
    → is_some (stream_at m id) ≡ true
unfolding nobody_reads
left_is_live profile m id left =
    go (stream_at m id)
    (and_parts (is_rfc profile) (holds_at (λ s. not (is_read_half_open s.halves)) (stream_at m id)) left).1
  where
    go : (o : Option StreamView) → holds_at (λ s. not (is_read_half_open s.halves)) o ≡ true → is_some o ≡ true
    go None closed = absurd (false≢true closed)
    go (Some s) closed = refl

-- and its read half is closed
pub left_is_closed : (profile : Profile) (m : StreamMap) (id : ℕ) → nobody_reads profile m id ≡ true
    → HasReadOpen m id → ⊥
unfolding nobody_reads
left_is_closed profile m id left reads =
    go (stream_at m id) refl
    (and_parts (is_rfc profile) (holds_at (λ s. not (is_read_half_open s.halves)) (stream_at m id)) left).1
  where
    go : (o : Option StreamView) → stream_at m id ≡ o → holds_at (λ s. not (is_read_half_open s.halves)) o ≡ true → ⊥
    go None is closed = false≢true closed
    go (Some s) is closed = false≢true (sym (ap not (reads s is)) ∙ closed)

-- so it is past its span, where those within theirs are read
pub unread_is_over : (over : ℕ → Bool) (a : Shown) (piece : ChunkPayloadData)
    → ((s : ℕ) → over s ≡ false → HasReadOpen a.streams s) → goes_unread a piece ≡ true
    → over piece.stream_identifier ≡ true
unread_is_over over a piece reads left =
    true_from_ne_false (over piece.stream_identifier)
    (λ (within : over piece.stream_identifier ≡ false).
    left_is_closed a.profile a.streams piece.stream_identifier left (reads piece.stream_identifier within))

-- What is done with DATA, by whether somebody reads its stream.
module _ (a : Shown) (piece : ChunkPayloadData) where
  pub taken_where_read : goes_unread a piece ≡ false → taken_in a piece ≡ handed_over a piece
  unfolding taken_in
  taken_where_read e = ap (λ (left : Bool). left_or_handed_over left a piece) e

  pub taken_where_unread : goes_unread a piece ≡ true → taken_in a piece ≡ (left_unread a piece, None)
  unfolding taken_in
  taken_where_unread e = ap (λ (left : Bool). left_or_handed_over left a piece) e

  pub refusal_where_read : goes_unread a piece ≡ false
      → intake_refusal a piece
      ≡ refusal_in a.streams piece.stream_identifier piece a.receiver.max_receive_message_size
  refusal_where_read e = ap (λ (left : Bool). refusal_unless_left left a piece) e

  pub refusal_where_unread : goes_unread a piece ≡ true → intake_refusal a piece ≡ None
  refusal_where_unread e = ap (λ (left : Bool). refusal_unless_left left a piece) e

  pub acts_where_read : goes_unread a piece ≡ false
      → acts_of_taking a piece
      ≡ acts_unless_refused
      (refusal_in a.streams piece.stream_identifier piece a.receiver.max_receive_message_size) (Act.Took piece)
  acts_where_read e = ap (λ (left : Bool). acts_if_left left a piece) e

  pub acts_where_unread : goes_unread a piece ≡ true → acts_of_taking a piece ≡ Act.Deferred piece ∷ []
  acts_where_unread e = ap (λ (left : Bool). acts_if_left left a piece) e
