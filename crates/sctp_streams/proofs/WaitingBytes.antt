-- The bytes that wait, summed over the live streams.
use Rattle.std.proofs.Common.{◌≡◌, ℕ, ◌+◌, ◌≤◌, map, Bool, true, false, List, [], ◌∷◌, length, Option, Some, None}
use Rattle.std.proofs.Common.{refl, ap, sym, ◌∙◌, arith, if◌then◌else◌}
use Rattle.std.specs.Map.{lookup, set_value}
use Rattle.std.specs.BTreeMap.{is_at}
use Rattle.std.specs.Ordering.{nat_cmp}
use Rattle.std.specs.List.Sorted.{IsStrictlySortedBy}
use Rattle.std.specs.Option.{option_map, unwrap_or}
use Rattle.std.specs.Map.{keys_of}
use Rattle.std.specs.BTreeMap.{insert_entry}
use Rattle.std.proofs.lemmas.Map.Entries.{sum_by-insert_entry, sum_by-set_value}
use Rattle.std.proofs.lemmas.Cmp.{nat_cmp_total}
use Rattle.std.proofs.lemmas.List.Sums.{sum_by-cons}
use Rattle.sctp_wire_types.specs.declared.chunk.ChunkPayloadData.{ChunkPayloadData}
use Rattle.sctp_serial.specs.Serial.{ssn_lt}
use Rattle.sctp_receive_queues.specs.Reassembly.{Group, Reassembly, bytes_in_groups, bytes_in_messages, bytes_waiting}
use Rattle.sctp_receive_queues.specs.Reassembly.{empty_reassembly, is_due, pushed, read_from, read_ordered, taken}
use Rattle.sctp_receive_queues.specs.Reassembly.{unordered_put, with_ordered, with_put}
use Rattle.sctp_receive_queues.specs.Messages.{ReceivedMessage, bytes_left}
use Rattle.sctp_receive_queues.specs.Pieces.{bytes_of}
use Rattle.sctp_receive_queues.proofs.BytesWaiting.{message_length, ordered_bytes, stays_bytes, trimmed_bytes}
use Rattle.sctp_receive_queues.proofs.BytesWaiting.{unordered_bytes}
use Rattle.sctp_streams.specs.declared.setting.Setting.{Setting}
use Rattle.sctp_streams.specs.declared.setting.Setting.TheVariants as settings
use Rattle.sctp_streams.specs.Stream.{StreamView, read_with, stream_passed, stream_pushed, stream_read}
use Rattle.sctp_streams.specs.Stream.{released_from, stream_skipped, with_setting, with_ssn_given_back}
use Rattle.sctp_streams.specs.Streams.{StreamMap, passed_each, pushed_in, stream_at, waiting_in, with_stream}

-- one stream's bytes are exchanged for those that it has after a change
pub exchanged : (id : ℕ) (m n : List (ℕ × StreamView)) (s t : StreamView) → lookup (is_at (nat_cmp id)) m ≡ Some s
    → n ≡ set_value (is_at (nat_cmp id)) m t
    → waiting_in n + bytes_waiting s.reassembly ≡ waiting_in m + bytes_waiting t.reassembly
exchanged id m n s t there is =
    rw is (sum_by-set_value (λ (s : StreamView). bytes_waiting s.reassembly) (is_at (nat_cmp id)) m s t there)

pub unchanged : (id : ℕ) (m n : List (ℕ × StreamView)) (s t : StreamView) → lookup (is_at (nat_cmp id)) m ≡ Some s
    → n ≡ set_value (is_at (nat_cmp id)) m t → t.reassembly ≡ s.reassembly → waiting_in n ≡ waiting_in m
unchanged id m n s t there is same =
    let e = exchanged id m n s t there is in
    let bytes : bytes_waiting t.reassembly ≡ bytes_waiting s.reassembly = ap bytes_waiting same in
    omega (arith, e, bytes)

-- no setting touches what came on a stream
pub set_reassembly : (s : StreamView) (x : Setting) → (with_setting s x).reassembly ≡ s.reassembly
set_reassembly s (settings.DefaultPayloadType kind) = refl
set_reassembly s (settings.Reliability params) = refl
set_reassembly s (settings.LowMark bytes) = refl
set_reassembly s (settings.HighMark bytes) = refl
set_reassembly s settings.WriteHalfClosed = refl

-- what is left of a reassembly after a piece that is unordered or not, and whose number is an old one or not
abbrev put : Reassembly → ChunkPayloadData → Bool → Bool → Reassembly × Bool
put r p unordered old =
    if unordered then (with_put r (unordered_put r.unordered r.complete p), true) else
    if old then (r, false) else (record r { ordered = with_ordered r.ordered p }, true)

-- a piece that is kept adds its bytes, and one that is not adds none
pub pushed_bytes : (r : Reassembly) (p : ChunkPayloadData)
    → bytes_waiting (pushed r p).0 ≡ bytes_waiting r + (if (pushed r p).1 then length p.user_data else 0)
pushed_bytes r p = by p.unordered (ssn_lt p.stream_sequence_number r.next_ssn)
  where
    by : (unordered old : Bool)
        → bytes_waiting (put r p unordered old).0
        ≡ bytes_waiting r + (if (put r p unordered old).1 then length p.user_data else 0)
    by true old = omega (arith, unordered_bytes r.unordered r.complete p)
    by false true = omega arith
    by false false = omega (arith, ordered_bytes r.ordered p)

-- a message that is read takes its bytes along

-- the bytes of the message that a read gives
abbrev pub given : Option ReceivedMessage → ℕ
given None = 0
given (Some m) = length (bytes_left m)

first_given : (r : Reassembly) (g : Group) (gs : List Group) (due : Bool) → is_due r.next_ssn (Some g) ≡ due
    → r.ordered ≡ g ∷ gs
    → bytes_waiting (read_ordered r (g ∷ gs)).0 + given (read_ordered r (g ∷ gs)).1 ≡ bytes_waiting r
first_given r g gs true due is =
    let one = sum_by-cons (λ (h : Group). bytes_of h.pieces) g gs in
    let all : bytes_in_groups r.ordered ≡ bytes_in_groups (g ∷ gs) = ap bytes_in_groups is in
    rw due (omega (arith, one, all, message_length g.pieces))
first_given r g gs false due is = rw due (omega arith)

ordered_given : (r : Reassembly) (gs : List Group) → r.ordered ≡ gs
    → bytes_waiting (read_ordered r gs).0 + given (read_ordered r gs).1 ≡ bytes_waiting r
ordered_given r [] is = omega arith
ordered_given r (g ∷ gs) is = first_given r g gs (is_due r.next_ssn (Some g)) refl is

from_given : (r : Reassembly) (ms : List ReceivedMessage) → r.complete ≡ ms
    → bytes_waiting (read_from r ms).0 + given (read_from r ms).1 ≡ bytes_waiting r
from_given r [] is = ordered_given r r.ordered refl
from_given r (m ∷ ms) is =
    let one = sum_by-cons (λ (n : ReceivedMessage). length (bytes_left n)) m ms in
    let all : bytes_in_messages r.complete ≡ bytes_in_messages (m ∷ ms) = ap bytes_in_messages is in
    omega (arith, one, all)

pub taken_bytes : (r : Reassembly) → bytes_waiting (taken r).0 + given (taken r).1 ≡ bytes_waiting r
taken_bytes r = from_given r r.complete refl

with_read : (s : StreamView) (q : Reassembly × Option ReceivedMessage)
    → bytes_waiting (read_with s q).0.reassembly + given (read_with s q).1 ≡ bytes_waiting q.0 + given q.1
with_read s (r, None) = refl
with_read s (r, Some m) = refl

pub read_bytes : (s t : StreamView) (o : Option ReceivedMessage) → stream_read s ≡ (t, o)
    → bytes_waiting t.reassembly + given o ≡ bytes_waiting s.reassembly
read_bytes s t o is =
    ap (λ (z : StreamView × Option ReceivedMessage). bytes_waiting z.0.reassembly + given z.1) (sym is)
    ∙ with_read s (taken s.reassembly) ∙ taken_bytes s.reassembly

pub kept_bytes : (s t : StreamView) (p : ChunkPayloadData) → stream_pushed s p ≡ (t, true)
    → bytes_waiting t.reassembly ≡ bytes_waiting s.reassembly + length p.user_data
kept_bytes s t p is =
    let kept : (pushed s.reassembly p).1 ≡ true = ap (λ (z : StreamView × Bool). z.1) is in
    let same : bytes_waiting t.reassembly ≡ bytes_waiting (pushed s.reassembly p).0 =
    ap (λ (z : StreamView × Bool). bytes_waiting z.0.reassembly) (sym is) in
    same ∙ pushed_bytes s.reassembly p
    ∙ ap (λ (k : Bool). bytes_waiting s.reassembly + (if k then length p.user_data else 0)) kept

pub dropped_bytes : (s t : StreamView) (p : ChunkPayloadData) → stream_pushed s p ≡ (t, false)
    → bytes_waiting t.reassembly ≡ bytes_waiting s.reassembly
dropped_bytes s t p is =
    let kept : (pushed s.reassembly p).1 ≡ false = ap (λ (z : StreamView × Bool). z.1) is in
    let same : bytes_waiting t.reassembly ≡ bytes_waiting (pushed s.reassembly p).0 =
    ap (λ (z : StreamView × Bool). bytes_waiting z.0.reassembly) (sym is) in
    let none = pushed_bytes s.reassembly p
    ∙ ap (λ (k : Bool). bytes_waiting s.reassembly + (if k then length p.user_data else 0)) kept in
    omega (arith, same, none)

-- what a map has after a piece came on one of its streams
pub pushed_is : (m : StreamMap) (id : ℕ) (p : ChunkPayloadData) {s t : StreamView} {kept : Bool}
    {n : List (ℕ × StreamView)} → stream_at m id ≡ Some s → stream_pushed s p ≡ (t, kept)
    → n ≡ set_value (is_at (nat_cmp id)) m.by_id t
    → pushed_in m id p ≡ (record { by_id = n; next_generation = m.next_generation }, kept)
pushed_is m id p {kept = kept} there is e =
    rw there (ap (λ (z : StreamView × Bool). (with_stream m id z.0, z.1)) is
    ∙ ap (λ (z : List (ℕ × StreamView)). (record { by_id = z; next_generation = m.next_generation }, kept)) (sym e))

-- a stream that is made holds nothing, and takes the place of one that was there

made_bytes : (es : List (ℕ × StreamView)) (id : ℕ) (s : StreamView) → IsStrictlySortedBy nat_cmp (keys_of es)
    → waiting_in (insert_entry nat_cmp es id s)
    + unwrap_or (option_map (λ (t : StreamView). bytes_waiting t.reassembly) (lookup (is_at (nat_cmp id)) es)) 0
    ≡ waiting_in es + bytes_waiting s.reassembly
made_bytes es id s sorted =
    sum_by-insert_entry (λ (t : StreamView). bytes_waiting t.reassembly) nat_cmp_total es id s sorted

pub replaced_bytes : (es n : List (ℕ × StreamView)) (id : ℕ) (s t : StreamView)
    → IsStrictlySortedBy nat_cmp (keys_of es) → n ≡ insert_entry nat_cmp es id s → s.reassembly ≡ empty_reassembly
    → lookup (is_at (nat_cmp id)) es ≡ Some t → waiting_in n + bytes_waiting t.reassembly ≡ waiting_in es
replaced_bytes es n id s t sorted is empty there =
    let sum = made_bytes es id s sorted in
    let none : bytes_waiting s.reassembly ≡ 0 = ap bytes_waiting empty in
    let all : waiting_in n ≡ waiting_in (insert_entry nat_cmp es id s) = ap waiting_in is in
    omega (arith, rw there at sum, none, all)

pub added_bytes : (es n : List (ℕ × StreamView)) (id : ℕ) (s : StreamView)
    → IsStrictlySortedBy nat_cmp (keys_of es) → n ≡ insert_entry nat_cmp es id s → s.reassembly ≡ empty_reassembly
    → lookup (is_at (nat_cmp id)) es ≡ None → waiting_in n ≡ waiting_in es
added_bytes es n id s sorted is empty there =
    let sum = made_bytes es id s sorted in
    let none : bytes_waiting s.reassembly ≡ 0 = ap bytes_waiting empty in
    let all : waiting_in n ≡ waiting_in (insert_entry nat_cmp es id s) = ap waiting_in is in
    omega (arith, rw there at sum, none, all)

-- what a FORWARD TSN passes over is dropped, and its bytes wait no more

pub skipped_bytes : (s t : StreamView) (ssn : ℕ) → t ≡ stream_skipped ssn s
    → bytes_waiting t.reassembly ≤ bytes_waiting s.reassembly
skipped_bytes s t ssn is =
    let less = stays_bytes ssn s.reassembly.ordered in
    rw is (omega (arith, less))

passed_bytes : (tsn : ℕ) (s : StreamView)
    → bytes_waiting (stream_passed tsn s).reassembly ≤ bytes_waiting s.reassembly
passed_bytes tsn s =
    let less = trimmed_bytes tsn s.reassembly.unordered in
    omega (arith, less)

pub passed_sum : (tsn : ℕ) (es : List (ℕ × StreamView)) → waiting_in (passed_each tsn es) ≤ waiting_in es
passed_sum tsn [] = omega arith
passed_sum tsn (e ∷ es) =
    let f : StreamView → ℕ = λ (s : StreamView). bytes_waiting s.reassembly in
    let a = sum_by-cons f (stream_passed tsn e.1) (map (λ e. e.1) (passed_each tsn es)) in
    let b = sum_by-cons f e.1 (map (λ e. e.1) es) in
    let one = passed_bytes tsn e.1 in
    let more = passed_sum tsn es in
    omega (arith, a, b, one, more)

-- a message that is given back touches nothing that came
pub given_reassembly : (s : StreamView) (unordered : Bool) (bytes : ℕ)
    → (released_from (if unordered then s else with_ssn_given_back s) bytes).reassembly ≡ s.reassembly
given_reassembly s true bytes = refl
given_reassembly s false bytes = refl
