-- What DATA that is taken in leaves of the resets: the requests of the peer, and no more skips than were kept.
use Rattle.std.proofs.Common.{◌≡◌, refl, sym, ap, ◌∙◌, subst, ℕ, Bool, true, false, ◌&&◌, if◌then◌else◌}
use Rattle.std.proofs.Common.{List, Option, Some, None}
use Rattle.std.proofs.lemmas.Bool.{false≢true}
use Rattle.sctp_wire_types.specs.declared.chunk.ChunkPayloadData.{ChunkPayloadData}
use Rattle.sctp_wire_types.specs.declared.error.Error.{Error}
use Rattle.sctp_streams.specs.declared.event.Event.{Event}
use Rattle.sctp_streams.specs.Streams.{StreamMap, is_readable_in, pushed_in, refusal_in}
use Rattle.sctp_inbound.specs.Receiver.{admits, taken_to}
use Rattle.sctp_generations.specs.Generations.{GenerationsView, has_skips}
use Rattle.sctp_resets.specs.Resets.{with_skips_done}
use Rattle.sctp_resets.specs.Skips.{Skipping}
use Rattle.sctp_resets.specs.Skips as skips
use Rattle.sctp_assoc.specs.Chunks.{goes_unread, left_or_handed_over, taken_in, taken_unless, taken_where_admitted}
use Rattle.sctp_assoc.specs.Chunks.{then_skips, told, with_message}
use Rattle.sctp_assoc.specs.Resets.{skips_applied_of, with_beside}
use Rattle.sctp_assoc.specs.Shown.{Shown, all_waiting}

pub record SettlesNoMore (a b : Shown) : Type 0 where
  pub peer : b.resets.peer ≡ a.resets.peer
  pub fewer : has_skips b.resets.generations ≡ true → has_skips a.resets.generations ≡ true

pub same_resets : (a b : Shown) → b.resets ≡ a.resets → SettlesNoMore a b
same_resets a b same = record {
  peer = rw same refl;
  fewer = λ some. rw (← same) some;
}

pub settles_on : (a b c : Shown) → SettlesNoMore a b → SettlesNoMore b c → SettlesNoMore a c
settles_on a b c first next = record {
  peer = next.peer ∙ first.peer;
  fewer = λ some. first.fewer (next.fewer some);
}

none_applied : (g : GenerationsView) (m : StreamMap) (told : List Event) (id : ℕ) → has_skips g ≡ false
    → skips.skips_applied_of (g, m, told) id ≡ (g, m, told)
none_applied g m told id none = rw none refl

applied_peer : (a : Shown) (x : Skipping) → (with_beside a (with_skips_done a.resets x)).resets.peer ≡ a.resets.peer
applied_peer a (g, m, told) = refl

fewer_kept : (some : Bool) (a : Shown) (id : ℕ) → has_skips a.resets.generations ≡ some
    → has_skips (skips_applied_of id a).resets.generations ≡ true → some ≡ true
fewer_kept true a id e kept = refl
fewer_kept false a id e kept =
    absurd (false≢true (sym e
    ∙ subst (λ (x : Skipping). has_skips (with_beside a (with_skips_done a.resets x)).resets.generations ≡ true)
    (none_applied a.resets.generations a.streams a.events id e) kept))

applying_settles : (a : Shown) (id : ℕ) → SettlesNoMore a (skips_applied_of id a)
applying_settles a id = record {
  peer = applied_peer a (skips.skips_applied_of (a.resets.generations, a.streams, a.events) id);
  fewer = λ kept. fewer_kept (has_skips a.resets.generations) a id refl kept;
}

told_resets : (c : Bool) (b : Shown) (id : ℕ) (kept : Bool) → (kept && is_readable_in b.streams id) ≡ c
    → (told b id kept).resets ≡ b.resets
told_resets true b id kept e = rw e refl
told_resets false b id kept e = rw e refl

message_resets : (a : Shown) (piece : ChunkPayloadData) (x : StreamMap × Bool)
    → (with_message a piece x).resets ≡ a.resets
message_resets a piece (streams, kept) =
    told_resets (kept && is_readable_in streams piece.stream_identifier)
    (record a { streams = streams; receiver = taken_to a.receiver piece.tsn }) piece.stream_identifier kept refl

unless_resets : (refusal : Option Error) (a : Shown) (piece : ChunkPayloadData)
    → (taken_unless refusal a piece).0.resets ≡ a.resets
unless_resets (Some fault) a piece = refl
unless_resets None a piece = message_resets a piece (pushed_in a.streams piece.stream_identifier piece)

left_resets : (left : Bool) (a : Shown) (piece : ChunkPayloadData)
    → (left_or_handed_over left a piece).0.resets ≡ a.resets
left_resets true a piece = refl
left_resets false a piece =
    unless_resets (refusal_in a.streams piece.stream_identifier piece a.receiver.max_receive_message_size) a piece

taken_resets : (a : Shown) (piece : ChunkPayloadData) → (taken_in a piece).0.resets ≡ a.resets
unfolding taken_in
taken_resets a piece = left_resets (goes_unread a piece) a piece

pub took_resets : (a b : Shown) (piece : ChunkPayloadData) (fault : Option Error) → taken_in a piece ≡ (b, fault)
    → b.resets ≡ a.resets
took_resets a b piece fault e = sym (ap (λ (x : Shown × Option Error). x.0.resets) e) ∙ taken_resets a piece

then_settles : (x : Shown × Option Error) (id : ℕ) → SettlesNoMore x.0 (then_skips x id).0
then_settles (a, None) id = applying_settles a id
then_settles (a, Some fault) id = same_resets a a refl

taken_if : (credit : Bool) (a : Shown) (piece : ChunkPayloadData)
    → SettlesNoMore a (if credit then then_skips (taken_in a piece) piece.stream_identifier else (a, None)).0
taken_if true a piece =
    settles_on a (taken_in a piece).0 _ (same_resets a (taken_in a piece).0 (taken_resets a piece))
    (then_settles (taken_in a piece) piece.stream_identifier)
taken_if false a piece = same_resets a a refl

pub taking_settles : (a b : Shown) (piece : ChunkPayloadData) (fault : Option Error)
    → taken_where_admitted a piece ≡ (b, fault) → SettlesNoMore a b
taking_settles a b piece fault e =
    subst (SettlesNoMore a) (ap (λ (x : Shown × Option Error). x.0) e)
    (taken_if (admits a.receiver piece.tsn (all_waiting a)) a piece)
