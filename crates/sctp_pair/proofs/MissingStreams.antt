-- The streams that a FORWARD TSN opens before it passes over what it says are missing until then.
use Rattle.std.proofs.Common.{◌≡◌, refl, sym, subst, ℕ, Bool, true, false, if◌then◌else◌, not, List, [], ◌∷◌, ◌++◌}
use Rattle.std.proofs.Common.{Option, Some, None, is_some, Result, Ok, Err}
use Rattle.std.specs.Prelude.{⊤}
use Rattle.std.proofs.lemmas.List.{append_assoc}
use Rattle.sctp_wire_types.specs.declared.chunk.Chunk.TheVariants as chunks
use Rattle.sctp_wire_types.specs.declared.chunk.ChunkForwardTsn.{ChunkForwardTsn}
use Rattle.sctp_wire_types.specs.declared.chunk.SkippedStream.{SkippedStream}
use Rattle.sctp_wire_types.specs.declared.error.Error.{Error}
use Rattle.sctp_wire_types.specs.declared.ids.PayloadProtocolIdentifier.TheVariants as kinds
use Rattle.sctp_wire_types.specs.declared.packet.CommonHeader.{CommonHeader}
use Rattle.sctp_wire_types.specs.Checks.{checked_chunk}
use Rattle.sctp_streams.specs.Stream.{StreamView}
use Rattle.sctp_streams.specs.Streams.{StreamMap, generation_left, made, stream_at}
use Rattle.sctp_resets.specs.Within.{ResetsOver}
use Rattle.sctp_directions.specs.Acts.{Act}
use Rattle.sctp_assoc.specs.Finding.{found_at, found_for, found_if, makes_for, stream_found, with_new_stream}
use Rattle.sctp_assoc.specs.Happened.{acts_of_checked, acts_of_chunk, acts_of_finding, acts_of_finding_if}
use Rattle.sctp_assoc.specs.Happened.{acts_of_forward, acts_of_stream}
use Rattle.sctp_assoc.specs.Shown.{Shown}
use Rattle.sctp_sides.specs.SideLaws.{IsPassingOver, WithEndsBehind}
use Rattle.sctp_sides.proofs.ForwardKinds.{acts_are_one_of}
use Rattle.sctp_sides.proofs.Proved.{forwards_pass_over}

-- each stream that these acts open, up to the first act that opens none, is missing until then
abbrev pub OpenMissing : List Act → StreamMap → Type 0
OpenMissing [] m = ⊤
OpenMissing (Act.Opened id first kind ∷ acts) m =
    (stream_at m id ≡ None) × OpenMissing acts (made m id first kind)
OpenMissing (act ∷ acts) m = ⊤

-- so it is of the first ones of acts of which it is so
front_missing : (front behind : List Act) (m : StreamMap) → OpenMissing (front ++ behind) m → OpenMissing front m
front_missing [] behind m h = tt
front_missing (Act.Opened id first kind ∷ front) behind m (none, h) =
    (none, front_missing front behind (made m id first kind) h)
front_missing (act ∷ front) behind m h = tt

-- One stream is found or made

-- the stream is there or not, and a generation is left for it or not
abbrev found_by : Bool → Bool → Shown → ℕ → Shown × Bool
found_by there left a id =
    if there then (a, true) else if not left then (a, false) else (with_new_stream a id, true)

abbrev opened_by : Bool → Bool → Shown → ℕ → List Act
opened_by there left a id =
    if there then [] else if left then Act.Opened id a.sender.queue.next_message_id kinds.Unknown ∷ [] else []

found_missing : (o : Option StreamView) (left : Bool) (a : Shown) (id : ℕ) (rest : List Act)
    → stream_at a.streams id ≡ o → OpenMissing rest (found_by (is_some o) left a id).0.streams
    → OpenMissing (opened_by (is_some o) left a id ++ rest) a.streams
found_missing (Some s) left a id rest e h = h
found_missing None true a id rest e h = (e, h)
found_missing None false a id rest e h = h

stream_missing : (a : Shown) (id : ℕ) (rest : List Act) → OpenMissing rest (stream_found a id).0.streams
    → OpenMissing (acts_of_stream a id ++ rest) a.streams
unfolding stream_found
stream_missing a id rest h =
    found_missing (stream_at a.streams id) (generation_left a.streams) a id rest refl h

-- Those on which a FORWARD TSN skips

one_missing : (makes : Bool) (a : Shown) (id : ℕ) (rest : List Act) → OpenMissing rest (found_if makes a id).streams
    → OpenMissing (acts_of_finding_if makes a id ++ rest) a.streams
one_missing true a id rest h = stream_missing a id rest h
one_missing false a id rest h = h

at_missing : (tsn id : ℕ) (a : Shown) (rest : List Act) → OpenMissing rest (found_at tsn id a).streams
    → OpenMissing (acts_of_finding_if (makes_for tsn id a) a id ++ rest) a.streams
unfolding found_at
at_missing tsn id a rest h = one_missing (makes_for tsn id a) a id rest h

finding_missing : (tsn : ℕ) (es : List SkippedStream) (a : Shown) (rest : List Act)
    → OpenMissing rest (found_for tsn es a).streams → OpenMissing (acts_of_finding tsn es a ++ rest) a.streams
finding_missing tsn [] a rest h = h
finding_missing tsn (e ∷ es) a rest h =
    let id = e.stream_identifier in
    let b : Shown = found_at tsn id a in
    subst (λ (acts : List Act). OpenMissing acts a.streams)
    (sym (append_assoc (acts_of_finding_if (makes_for tsn id a) a id) (acts_of_finding tsn es b) rest))
    (at_missing tsn id a (acts_of_finding tsn es b ++ rest) (finding_missing tsn es b rest h))

forward_missing : (a : Shown) (tsn : ℕ) (es : List SkippedStream) → OpenMissing (acts_of_forward a tsn es) a.streams
forward_missing a tsn es =
    acts_are_one_of tsn es (λ b acts. OpenMissing acts b.streams)
    (λ b e. tt)
    (λ b e f. tt)
    (λ b e f. tt)
    (λ b acts h. finding_missing tsn es b acts h)
    a

checked_missing : (r : Result (Unit {0}) Error) (a : Shown) (header : CommonHeader) (c : ChunkForwardTsn)
    → OpenMissing (acts_of_checked r a header (chunks.ForwardTsn c)) a.streams
checked_missing (Err fault) a header c = tt
checked_missing (Ok done) a header c = forward_missing a c.new_cumulative_tsn c.streams

-- A FORWARD TSN passes over what it says, or does nothing to the directions, and the streams that it opens before that
-- are missing until then.

abbrev pub PassesOverFound : ChunkForwardTsn → Shown → List Act → Type 0
PassesOverFound c a acts = IsPassingOver c.new_cumulative_tsn c.streams acts × OpenMissing acts a.streams

pub forwards_open_missing : (over : ℕ → Bool) (a : Shown) (header : CommonHeader) (c : ChunkForwardTsn)
    → ResetsOver over a.resets
    → WithEndsBehind over (PassesOverFound c a) (acts_of_chunk a header (chunks.ForwardTsn c))
forwards_open_missing over a header c h =
    let w = forwards_pass_over over a header c h in
    let all : OpenMissing (w.front ++ w.behind) a.streams =
    subst (λ (acts : List Act). OpenMissing acts a.streams) w.are
    (checked_missing (checked_chunk (chunks.ForwardTsn c)) a header c) in
    record {
      front = w.front;
      front_are = (w.front_are, front_missing w.front w.behind a.streams all);
      behind = w.behind;
      behind_are = w.behind_are;
      are = w.are;
    }
