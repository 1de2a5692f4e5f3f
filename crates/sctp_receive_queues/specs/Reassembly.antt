-- The pieces of one stream's messages until they are read (RFC 4960 sections 6.5, 6.6 and 6.9, RFC 3758 section 3.6).
use Rattle.std.specs.Prelude.{◌≡◌, ℕ, zero, suc, ◌+◌, ◌-◌, ◌%◌, ◌^◌, ◌==◌, ◌&&◌, ◌||◌, not, nat_lt, if◌then◌else◌, Bool}
use Rattle.std.specs.Prelude.{true, false, List, [], ◌∷◌, ◌++◌, length, drop, position, insert, remove, filter, map}
use Rattle.std.specs.Prelude.{fold, min, slice_get, slice_set, unwrap_or, Option, Some, None}
use Rattle.std.specs.List.{sum_by}
use Rattle.sctp_serial.specs.Serial.{ssn_lt, ssn_lte, tsn_lte}
use Rattle.sctp_wire_types.specs.declared.chunk.ChunkPayloadData.{ChunkPayloadData}
use Rattle.sctp_wire_types.specs.declared.error.Error.{Error}
use Rattle.sctp_wire_types.specs.declared.error.Error.TheVariants as errors
use Rattle.sctp_receive_queues.specs.Messages.{ReceivedMessage, bytes_left, message_of}
use Rattle.sctp_receive_queues.specs.Pieces.{bytes_of, is_complete, begins, ends, has_other_type, index_of, refusal_of}
use Rattle.sctp_receive_queues.specs.Pieces.{first_is_after, last_is_before, covers, is_past, is_later, last_of}

-- An ordered message that is put together: its SSN, and the pieces held of it in the order of their TSNs.
pub record Group : Type 0 where
  pub ssn : ℕ
  pub pieces : List ChunkPayloadData

pub record Reassembly : Type 0 where
  -- the SSN of the ordered message that is read next
  pub next_ssn : ℕ
  -- the ordered messages, in the order of their SSNs
  pub ordered : List Group
  -- the pieces of unordered messages that are not complete, in the order of their TSNs: runs of pieces of one message
  -- whose TSNs follow one another
  pub unordered : List (List ChunkPayloadData)
  -- the complete unordered messages, in the order of their completion
  pub complete : List ReceivedMessage

abbrev pub empty_reassembly : Reassembly
empty_reassembly = record { next_ssn = 0; ordered = []; unordered = []; complete = [] }

-- The bytes that wait.

abbrev pub bytes_in_groups : List Group → ℕ
bytes_in_groups groups = sum_by (λ (g : Group). bytes_of g.pieces) groups

abbrev pub bytes_in_runs : List (List ChunkPayloadData) → ℕ
bytes_in_runs runs = sum_by bytes_of runs

abbrev pub bytes_in_messages : List ReceivedMessage → ℕ
bytes_in_messages messages = sum_by (λ (m : ReceivedMessage). length (bytes_left m)) messages

-- the bytes of all pieces that came and were not read
abbrev pub bytes_waiting : Reassembly → ℕ
bytes_waiting q = bytes_in_groups q.ordered + bytes_in_runs q.unordered + bytes_in_messages q.complete

-- a sum that stays at the greatest number of 64 bits
abbrev pub saturated_bytes : {X : Type 0} → (X → ℕ) → List X → ℕ
saturated_bytes f xs = fold (λ sum x. min (sum + f x) (2 ^ 64 - 1)) 0 xs

-- Ordered messages.

abbrev pub group_of : ChunkPayloadData → Group
group_of p = record { ssn = p.stream_sequence_number; pieces = p ∷ [] }

abbrev pub index_of_ssn : ℕ → List Group → Option ℕ
index_of_ssn ssn groups = position (λ (g : Group). g.ssn == ssn) groups

-- in front of the first message that is past this SSN, else at the end
abbrev pub index_for_ssn : ℕ → List Group → ℕ
index_for_ssn ssn groups = unwrap_or (position (λ (g : Group). ssn_lt ssn g.ssn) groups) (length groups)

abbrev pub grown : Group → ChunkPayloadData → Group
grown g p = record g { pieces = insert g.pieces (index_of p.tsn g.pieces) p }

abbrev pub grown_at : Option Group → ℕ → List Group → ChunkPayloadData → List Group
grown_at None index groups p = groups
grown_at (Some g) index groups p = slice_set groups index (grown g p)

abbrev pub put_at : Option ℕ → List Group → ChunkPayloadData → List Group
put_at None groups p = insert groups (index_for_ssn p.stream_sequence_number groups) (group_of p)
put_at (Some index) groups p = grown_at (slice_get groups index) index groups p

-- the messages with a piece at its place
abbrev pub with_ordered : List Group → ChunkPayloadData → List Group
with_ordered groups p = put_at (index_of_ssn p.stream_sequence_number groups) groups p

abbrev pub pieces_of : Option Group → List ChunkPayloadData
pieces_of None = []
pieces_of (Some g) = g.pieces

abbrev pub pieces_at : Option ℕ → List Group → List ChunkPayloadData
pieces_at None groups = []
pieces_at (Some index) groups = pieces_of (slice_get groups index)

-- why an ordered piece is refused beside those held of its message
abbrev pub refusal_of_ordered : List Group → ChunkPayloadData → ℕ → Option Error
refusal_of_ordered groups p limit =
    refusal_of (pieces_at (index_of_ssn p.stream_sequence_number groups) groups) p limit

abbrev pub is_due : ℕ → Option Group → Bool
is_due next None = false
is_due next (Some g) = ssn_lte g.ssn next && is_complete g.pieces

abbrev pub after_read : ℕ → ℕ → ℕ
after_read ssn next = if ssn == next then (next + 1) % 2 ^ 16 else next

abbrev pub read_ordered : Reassembly → List Group → Reassembly × Option ReceivedMessage
read_ordered q [] = (q, None)
read_ordered q (g ∷ gs) =
    if is_due q.next_ssn (Some g) then (
      record q { next_ssn = after_read g.ssn q.next_ssn; ordered = gs },
      Some (message_of g.pieces),
    )
    else (q, None)

abbrev pub read_from : Reassembly → List ReceivedMessage → Reassembly × Option ReceivedMessage
read_from q [] = read_ordered q q.ordered
read_from q (m ∷ ms) = (record q { complete = ms }, Some m)

-- what is left after a read, and what the read gives: complete unordered messages first, then the first ordered one
-- held where it is complete and not past the next SSN; one with the next SSN moves that by one
abbrev pub taken : Reassembly → Reassembly × Option ReceivedMessage
taken q = read_from q q.complete

abbrev pub is_ready : Reassembly → Bool
is_ready q = not (length q.complete == 0) || is_due q.next_ssn (slice_get q.ordered 0)

abbrev pub stays : ℕ → Group → Bool
stays ssn g = not (ssn_lte g.ssn ssn) || is_complete g.pieces

abbrev pub next_after_skip : ℕ → ℕ → ℕ
next_after_skip next ssn = if ssn_lte next ssn then (ssn + 1) % 2 ^ 16 else next

-- incomplete ordered messages up to an SSN are dropped, and the next SSN is past it
abbrev pub skipped : Reassembly → ℕ → Reassembly
skipped q ssn = record q {
  next_ssn = next_after_skip q.next_ssn ssn;
  ordered = filter (stays ssn) q.ordered;
}

-- the greatest SSN up to this one that is before every message with a piece above the TSN
abbrev pub bounded : List Group → ℕ → ℕ → ℕ
bounded [] ssn tsn = ssn
bounded (g ∷ gs) ssn tsn =
    if ssn_lte g.ssn ssn && is_later tsn (last_of g.pieces) then (g.ssn + 2 ^ 16 - 1) % 2 ^ 16
    else bounded gs ssn tsn

-- Unordered messages.

-- in front of the first run that is past this TSN, else at the end
abbrev pub index_for_tsn : ℕ → List (List ChunkPayloadData) → ℕ
index_for_tsn tsn runs = unwrap_or (position (λ r. is_past r tsn) runs) (length runs)

-- the run in front of an index
abbrev pub run_before : List (List ChunkPayloadData) → ℕ → List ChunkPayloadData
run_before runs index = if index == 0 then [] else unwrap_or (slice_get runs (index - 1)) []

-- the run at an index
abbrev pub run_at : List (List ChunkPayloadData) → ℕ → List ChunkPayloadData
run_at runs index = unwrap_or (slice_get runs index) []

-- of two pieces with neighbouring TSNs the one ends a message and the other does not begin one, or the other way round,
-- or they are of one message and have different payload types
abbrev pub tears : Bool → Bool → Bool → Bool
tears ended begun other = if ended then not begun else begun || other

abbrev pub is_torn_before : List ChunkPayloadData → ChunkPayloadData → Bool
is_torn_before run p =
    last_is_before run p.tsn && tears (ends run) p.beginning_fragment (has_other_type run p)

abbrev pub is_torn_after : List ChunkPayloadData → ChunkPayloadData → Bool
is_torn_after run p =
    first_is_after run p.tsn && tears p.ending_fragment (begins run) (has_other_type run p)

-- a piece goes on with the message of the run in front of it
abbrev pub joins_before : List ChunkPayloadData → ChunkPayloadData → Bool
joins_before run p = last_is_before run p.tsn && not (ends run)

-- a piece is of the message of the run behind it
abbrev pub joins_after : List ChunkPayloadData → ChunkPayloadData → Bool
joins_after run p = first_is_after run p.tsn && not p.ending_fragment

abbrev pub part : Bool → List ChunkPayloadData → List ChunkPayloadData
part joins run = if joins then run else []

-- the pieces of a piece's message, with it, that follow one another
abbrev pub joined_run : List ChunkPayloadData → ChunkPayloadData → List ChunkPayloadData → List ChunkPayloadData
joined_run before p after = part (joins_before before p) before ++ p ∷ part (joins_after after p) after

abbrev pub refusal_between : List ChunkPayloadData → ChunkPayloadData → List ChunkPayloadData → ℕ → Option Error
refusal_between before p after limit =
    if covers before p.tsn || is_torn_before before p || is_torn_after after p then
    Some errors.ErrContradictoryPieces else
    if nat_lt limit (
    bytes_of (part (joins_before before p) before) + length p.user_data +
    bytes_of (part (joins_after after p) after)
    ) then Some errors.ErrInboundMessageTooLarge else
    None

-- why an unordered piece is refused beside those held
abbrev pub refusal_of_unordered : List (List ChunkPayloadData) → ChunkPayloadData → ℕ → Option Error
refusal_of_unordered runs p limit =
    let index = index_for_tsn p.tsn runs in
    refusal_between (run_before runs index) p (run_at runs index) limit

abbrev pub put_between : Bool → Bool → List (List ChunkPayloadData) → ℕ → List ChunkPayloadData
    → List (List ChunkPayloadData)
put_between false false runs index run = insert runs index run
put_between true false runs index run = slice_set runs (index - 1) run
put_between false true runs index run = slice_set runs index run
put_between true true runs index run = remove (slice_set runs (index - 1) run) index

-- the index of the piece's run
abbrev pub run_index : Bool → ℕ → ℕ
run_index joins_before index = if joins_before then index - 1 else index

-- the runs with a piece that has this index among them, and the index of its run
abbrev pub with_unordered : List (List ChunkPayloadData) → ℕ → ChunkPayloadData → List (List ChunkPayloadData) × ℕ
with_unordered runs index p = (
  put_between (joins_before (run_before runs index) p) (joins_after (run_at runs index) p) runs index
      (joined_run (run_before runs index) p (run_at runs index)),
  run_index (joins_before (run_before runs index) p) index,
)

-- a run that is a complete message is that
abbrev pub finished : List (List ChunkPayloadData) → ℕ → List ReceivedMessage
    → List (List ChunkPayloadData) × List ReceivedMessage
finished runs index messages =
    if is_complete (run_at runs index) then (remove runs index, messages ++ message_of (run_at runs index) ∷ [])
    else (runs, messages)

-- an unordered piece is held, and where it completes its message, that is the last of the complete ones
abbrev pub unordered_put : List (List ChunkPayloadData) → List ReceivedMessage → ChunkPayloadData
    → List (List ChunkPayloadData) × List ReceivedMessage
unordered_put runs messages p =
    let put = with_unordered runs (index_for_tsn p.tsn runs) p in finished put.0 put.1 messages

-- the pieces past a TSN
abbrev pub above : ℕ → List ChunkPayloadData → List ChunkPayloadData
above tsn run = filter (λ (p : ChunkPayloadData). not (tsn_lte p.tsn tsn)) run

abbrev pub is_up_to : ℕ → Option ChunkPayloadData → Bool
is_up_to tsn None = false
is_up_to tsn (Some p) = tsn_lte p.tsn tsn

-- pieces at or below a TSN are dropped
abbrev pub trimmed : ℕ → List (List ChunkPayloadData) → List (List ChunkPayloadData)
trimmed tsn runs = filter (λ (r : List ChunkPayloadData). not (length r == 0)) (map (above tsn) runs)

-- A piece that came.

abbrev pub with_put : Reassembly → List (List ChunkPayloadData) × List ReceivedMessage → Reassembly
with_put q put = record q { unordered = put.0; complete = put.1 }

-- a piece is held, but for an ordered one of a message before the next SSN, and whether it is
abbrev pub pushed : Reassembly → ChunkPayloadData → Reassembly × Bool
pushed q p =
    if p.unordered then (with_put q (unordered_put q.unordered q.complete p), true) else
    if ssn_lt p.stream_sequence_number q.next_ssn then (q, false) else
    (record q { ordered = with_ordered q.ordered p }, true)

-- why a piece is refused
abbrev pub refusal : Reassembly → ChunkPayloadData → ℕ → Option Error
refusal q p limit =
    if p.unordered then refusal_of_unordered q.unordered p limit else
    if ssn_lt p.stream_sequence_number q.next_ssn then None else
    refusal_of_ordered q.ordered p limit

-- incomplete unordered pieces at or below a TSN are dropped
abbrev pub unordered_skipped : Reassembly → ℕ → Reassembly
unordered_skipped q tsn = record q { unordered = trimmed tsn q.unordered }

-- What reads give.

abbrev pub ready_on : Reassembly × Option ReceivedMessage → (Reassembly → List ReceivedMessage) → List ReceivedMessage
ready_on (q, None) more = []
ready_on (q, Some m) more = m ∷ more q

-- what so many reads give, one after another, up to the first that gives none
abbrev pub ready_within : ℕ → Reassembly → List ReceivedMessage
ready_within zero q = []
ready_within (suc n) q = ready_on (taken q) (ready_within n)

-- each read takes a complete unordered message or an ordered one
abbrev pub messages_held : Reassembly → ℕ
messages_held q = length q.complete + length q.ordered

-- what reads give, repeated until one gives none
abbrev pub ready : Reassembly → List ReceivedMessage
ready q = ready_within (messages_held q) q

-- A read gives the first of these and leaves the others; it gives none where there are none, and leaves all as it is.
abbrev pub ReadsGiveWhatIsReady : Type 0
ReadsGiveWhatIsReady = (q : Reassembly) → ((taken q).1 ≡ slice_get (ready q) 0) × (ready (taken q).0 ≡ drop 1 (ready q))
