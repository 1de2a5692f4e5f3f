-- The bytes that wait grow by a piece's own.
use Rattle.std.proofs.Common.{◌≡◌, ℕ, ◌+◌, ◌-◌, ◌<◌, ◌≤◌, Bool, true, false, not, eqb, List, [], ◌∷◌, ◌++◌, length}
use Rattle.std.proofs.Common.{get_or, set, Option, Some, None, slice_get, map, min, ◌^◌, refl, ap, sym, ◌∙◌, ⊎_elim}
use Rattle.std.proofs.Common.{arith}
use Rattle.std.specs.List.{filter}
use Rattle.sctp_serial.specs.Serial.{tsn_lte}
use Rattle.std.proofs.lemmas.Bool.{cases_Bool, cases_lt, eqb-false}
use Rattle.std.proofs.lemmas.List.{get_or-set_other, length-set}
use Rattle.std.proofs.lemmas.List.Concat.{length-flat_map}
use Rattle.std.proofs.lemmas.List.Quantifiers.{position-Some}
use Rattle.std.proofs.lemmas.List.Sums.{sum_by-cons, sum_by-append, sum_by-insert, sum_by-remove, sum_by-set}
use Rattle.std.proofs.lemmas.Option.{slice_get-get_or, slice_get_past}
use Rattle.sctp_wire_types.specs.declared.chunk.ChunkPayloadData.{ChunkPayloadData}
use Rattle.sctp_receive_queues.specs.Messages.{ReceivedMessage, bytes_left, message_of}
use Rattle.sctp_receive_queues.specs.Pieces.{bytes_of, is_complete, index_of}
use Rattle.sctp_receive_queues.specs.Reassembly.{Group, bytes_in_groups, bytes_in_runs, bytes_in_messages, group_of}
use Rattle.sctp_receive_queues.specs.Reassembly.{grown, put_at, with_ordered, index_of_ssn, index_for_ssn, run_before}
use Rattle.sctp_receive_queues.specs.Reassembly.{run_at, index_for_tsn, joins_before, joins_after, part, put_between}
use Rattle.sctp_receive_queues.specs.Reassembly.{with_unordered, finished, unordered_put, saturated_bytes, stays, above}
use Rattle.sctp_receive_queues.specs.Reassembly.{trimmed}
use Rattle.sctp_receive_queues.proofs.Cuts.{bytes_of_pieces}
use Rattle.sctp_receive_queues.proofs.RunsJoined.{run_get}
use Rattle.sctp_receive_queues.proofs.SaturatedSums.{saturated_sum, filter_sum}

group_bytes : Group → ℕ
group_bytes g = bytes_of g.pieces

piece_bytes : ChunkPayloadData → ℕ
piece_bytes p = length p.user_data

message_bytes : ReceivedMessage → ℕ
message_bytes m = length (bytes_left m)

joined_bytes : (a b : List ChunkPayloadData) (p : ChunkPayloadData)
    → bytes_of (a ++ p ∷ b) ≡ bytes_of a + (length p.user_data + bytes_of b)
joined_bytes a b p =
    sum_by-append (λ (p : ChunkPayloadData). length p.user_data) a (p ∷ b) ∙
    ap (λ n. bytes_of a + n) (sum_by-cons (λ (p : ChunkPayloadData). length p.user_data) p b)

pub message_length : (run : List ChunkPayloadData) → length (bytes_left (message_of run)) ≡ bytes_of run
message_length run = ap length (bytes_of_pieces run) ∙ length-flat_map (λ (p : ChunkPayloadData). p.user_data) run

-- Ordered messages.

grown_bytes : (g : Group) (p : ChunkPayloadData) → bytes_of (grown g p).pieces ≡ bytes_of g.pieces + length p.user_data
grown_bytes g p = sum_by-insert (λ (p : ChunkPayloadData). length p.user_data) g.pieces (index_of p.tsn g.pieces) p

put_bytes : (o : Option ℕ) (groups : List Group) (p : ChunkPayloadData) → ((k : ℕ) → o ≡ Some k → k < length groups)
    → bytes_in_groups (put_at o groups p) ≡ bytes_in_groups groups + length p.user_data
put_bytes None groups p within =
    let sums =
    sum_by-insert (λ (g : Group). bytes_of g.pieces) groups (index_for_ssn p.stream_sequence_number groups)
    (group_of p) in
    omega (arith, sums, joined_bytes [] [] p)
put_bytes (Some k) groups p within =
    let bound = within k refl in
    let g = get_or groups k (group_of p) in
    let is : slice_get groups k ≡ Some g = slice_get-get_or groups k (group_of p) bound in
    let sums = sum_by-set (λ (g : Group). bytes_of g.pieces) groups k (grown g p) (group_of p) bound in
    rw is (omega (arith, sums, grown_bytes g p))

pub ordered_bytes : (groups : List Group) (p : ChunkPayloadData)
    → bytes_in_groups (with_ordered groups p) ≡ bytes_in_groups groups + length p.user_data
ordered_bytes groups p =
    put_bytes (index_of_ssn p.stream_sequence_number groups) groups p
    (λ k e. (position-Some (λ (g : Group). eqb g.ssn p.stream_sequence_number) groups k (group_of p) e).0)

-- Unordered messages.

between_bytes : (jb ja : Bool) (runs : List (List ChunkPayloadData)) (k : ℕ) (before after : List ChunkPayloadData)
    (p : ChunkPayloadData) → (jb ≡ true → (0 < k) × (k - 1 < length runs) × (before ≡ get_or runs (k - 1) []))
    → (ja ≡ true → (k < length runs) × (after ≡ get_or runs k []))
    → bytes_in_runs (put_between jb ja runs k (part jb before ++ p ∷ part ja after))
    ≡ bytes_in_runs runs + length p.user_data
between_bytes false false runs k before after p b a =
    let sums = sum_by-insert bytes_of runs k (p ∷ []) in
    omega (arith, sums, joined_bytes [] [] p)
between_bytes true false runs k before after p b a =
    let f = b refl in
    let sums = sum_by-set bytes_of runs (k - 1) (before ++ p ∷ []) [] f.1 in
    let more = joined_bytes before [] p in
    let same : bytes_of before ≡ bytes_of (get_or runs (k - 1) []) = ap bytes_of f.2 in
    omega (arith, sums, more, same)
between_bytes false true runs k before after p b a =
    let f = a refl in
    let sums = sum_by-set bytes_of runs k (p ∷ after) [] f.0 in
    let more = joined_bytes [] after p in
    let same : bytes_of after ≡ bytes_of (get_or runs k []) = ap bytes_of f.1 in
    omega (arith, sums, more, same)
between_bytes true true runs k before after p b a =
    let f = b refl in
    let g = a refl in
    let run = before ++ p ∷ after in
    let sums = sum_by-set bytes_of runs (k - 1) run [] f.1 in
    let more = joined_bytes before after p in
    let same : bytes_of before ≡ bytes_of (get_or runs (k - 1) []) = ap bytes_of f.2 in
    let long : k < length (set runs (k - 1) run) = rw (length-set runs (k - 1) run) g.0 in
    let fewer = sum_by-remove bytes_of (set runs (k - 1) run) k [] long in
    let other : get_or (set runs (k - 1) run) k [] ≡ get_or runs k [] =
    get_or-set_other runs (k - 1) k run [] (λ e. omega (arith, f.0, e)) in
    let taken : bytes_of (get_or (set runs (k - 1) run) k []) ≡ bytes_of after = ap bytes_of (other ∙ sym g.1) in
    omega (arith, sums, more, same, fewer, taken)

no_run_after : (runs : List (List ChunkPayloadData)) (k : ℕ) (p : ChunkPayloadData) → length runs ≤ k
    → joins_after (run_at runs k) p ≡ false
no_run_after runs k p le = rw (slice_get_past runs k le) refl

after_bound : (runs : List (List ChunkPayloadData)) (k : ℕ) (p : ChunkPayloadData)
    → joins_after (run_at runs k) p ≡ true → (k < length runs) × (run_at runs k ≡ get_or runs k [])
after_bound runs k p e = (
  ⊎_elim (λ (h : k < length runs). h) (λ (h : length runs ≤ k). let no = no_run_after runs k p h in absurd (cc))
      (cases_lt k (length runs)),
  run_get runs k,
)

no_run_before : (runs : List (List ChunkPayloadData)) (k : ℕ) (p : ChunkPayloadData) → length runs ≤ k
    → joins_before (run_at runs k) p ≡ false
no_run_before runs k p le = rw (slice_get_past runs k le) refl

before_at : (runs : List (List ChunkPayloadData)) (k : ℕ) → eqb k 0 ≡ false → run_before runs k ≡ run_at runs (k - 1)
before_at runs k e = rw e refl

before_first : (runs : List (List ChunkPayloadData)) (k : ℕ) (p : ChunkPayloadData) → eqb k 0 ≡ true
    → joins_before (run_before runs k) p ≡ false
before_first runs k p e = rw e refl

before_bound : (runs : List (List ChunkPayloadData)) (k : ℕ) (p : ChunkPayloadData)
    → joins_before (run_before runs k) p ≡ true
    → (0 < k) × (k - 1 < length runs) × (run_before runs k ≡ get_or runs (k - 1) [])
before_bound runs k p e =
    ⊎_elim
    (λ (z : eqb k 0 ≡ true). let no = before_first runs k p z in absurd (cc))
    (λ (z : eqb k 0 ≡ false).
    let same = before_at runs k z in
    let here : joins_before (run_at runs (k - 1)) p ≡ true = ap (λ r. joins_before r p) (sym same) ∙ e in (
      positive k z,
      ⊎_elim (λ (h : k - 1 < length runs). h) (λ (h : length runs ≤ k - 1). let no =
          no_run_before runs (k - 1) p h in absurd (cc)) (cases_lt (k - 1) (length runs)),
      same ∙ run_get runs (k - 1),
    ))
    (cases_Bool (eqb k 0))
  where
    positive : (k : ℕ) → eqb k 0 ≡ false → 0 < k
    positive k z =
        let apart = eqb-false k 0 z in
        ⊎_elim (λ (h : 0 < k). h) (λ (h : k ≤ 0). absurd (apart (omega (arith, h)))) (cases_lt 0 k)

with_bytes : (runs : List (List ChunkPayloadData)) (k : ℕ) (p : ChunkPayloadData)
    → bytes_in_runs (with_unordered runs k p).0 ≡ bytes_in_runs runs + length p.user_data
with_bytes runs k p =
    between_bytes (joins_before (run_before runs k) p) (joins_after (run_at runs k) p) runs k (run_before runs k)
    (run_at runs k) p
    (before_bound runs k p) (after_bound runs k p)

not_complete : (runs : List (List ChunkPayloadData)) (k : ℕ) → length runs ≤ k → is_complete (run_at runs k) ≡ false
not_complete runs k le = rw (slice_get_past runs k le) refl

finished_bytes : (runs : List (List ChunkPayloadData)) (k : ℕ) (ms : List ReceivedMessage)
    → bytes_in_runs (finished runs k ms).0 + bytes_in_messages (finished runs k ms).1
    ≡ bytes_in_runs runs + bytes_in_messages ms
finished_bytes runs k ms =
    ⊎_elim
    (λ (e : is_complete (run_at runs k) ≡ true).
    let bound : k < length runs =
    ⊎_elim (λ (h : k < length runs). h) (λ (h : length runs ≤ k). let no = not_complete runs k h in absurd (cc))
    (cases_lt k (length runs)) in
    let fewer = sum_by-remove bytes_of runs k [] bound in
    let same : bytes_of (run_at runs k) ≡ bytes_of (get_or runs k []) = ap bytes_of (run_get runs k) in
    let more = sum_by-append (λ (m : ReceivedMessage). length (bytes_left m)) ms (message_of (run_at runs k) ∷ []) in
    let one = sum_by-cons (λ (m : ReceivedMessage). length (bytes_left m)) (message_of (run_at runs k)) [] in
    let long = message_length (run_at runs k) in
    rw e (omega (arith, fewer, same, more, one, long)))
    (λ (e : is_complete (run_at runs k) ≡ false). rw e refl)
    (cases_Bool (is_complete (run_at runs k)))

pub unordered_bytes : (runs : List (List ChunkPayloadData)) (ms : List ReceivedMessage) (p : ChunkPayloadData)
    → bytes_in_runs (unordered_put runs ms p).0 + bytes_in_messages (unordered_put runs ms p).1
    ≡ bytes_in_runs runs + bytes_in_messages ms + length p.user_data
unordered_bytes runs ms p =
    let k = index_for_tsn p.tsn runs in
    let put = with_bytes runs k p in
    let done = finished_bytes (with_unordered runs k p).0 (with_unordered runs k p).1 ms in
    done ∙ rw put (omega arith)

-- Skips.

pub stays_bytes : (ssn : ℕ) (groups : List Group) → bytes_in_groups (filter (stays ssn) groups) ≤ bytes_in_groups groups
stays_bytes ssn groups = filter_sum (λ (g : Group). bytes_of g.pieces) (stays ssn) groups

above_bytes : (tsn : ℕ) (runs : List (List ChunkPayloadData))
    → bytes_in_runs (map (above tsn) runs) ≤ bytes_in_runs runs
above_bytes tsn [] = omega arith
above_bytes tsn (r ∷ rs) =
    let one =
    filter_sum (λ (p : ChunkPayloadData). length p.user_data) (λ (p : ChunkPayloadData). not (tsn_lte p.tsn tsn)) r in
    let more = above_bytes tsn rs in
    let old = sum_by-cons bytes_of r rs in
    let new = sum_by-cons bytes_of (above tsn r) (map (above tsn) rs) in
    omega (arith, one, more, old, new)

pub trimmed_bytes : (tsn : ℕ) (runs : List (List ChunkPayloadData))
    → bytes_in_runs (trimmed tsn runs) ≤ bytes_in_runs runs
trimmed_bytes tsn runs =
    let fewer = filter_sum bytes_of (λ (r : List ChunkPayloadData). not (eqb (length r) 0)) (map (above tsn) runs) in
    omega (arith, fewer, above_bytes tsn runs)

pub held_exactly : (groups : List Group) (runs : List (List ChunkPayloadData)) (ms : List ReceivedMessage)
    → bytes_in_groups groups + bytes_in_runs runs + bytes_in_messages ms < 2 ^ 64
    → min (min (saturated_bytes (λ (g : Group). bytes_of g.pieces) groups + saturated_bytes bytes_of runs) (2 ^ 64 - 1)
    + saturated_bytes (λ (m : ReceivedMessage). length (bytes_left m)) ms) (2 ^ 64 - 1)
    ≡ bytes_in_groups groups + bytes_in_runs runs + bytes_in_messages ms
held_exactly groups runs ms small =
    rw (
      saturated_sum (λ (g : Group). bytes_of g.pieces) groups (omega (arith, small)),
      saturated_sum bytes_of runs (omega (arith, small)),
      saturated_sum (λ (m : ReceivedMessage). length (bytes_left m)) ms (omega (arith, small)),
    )
    (small_sum (bytes_in_groups groups) (bytes_in_runs runs) (bytes_in_messages ms) small)
  where
    small_sum : (a b c : ℕ) → a + b + c < 2 ^ 64 → min (min (a + b) (2 ^ 64 - 1) + c) (2 ^ 64 - 1) ≡ a + b + c
    small_sum a b c small = grind (arith, small)
