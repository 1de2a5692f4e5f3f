-- What is left of the bytes that wait, and of the streams whose reads give messages, where a stream ends or is emptied.
use Rattle.std.proofs.Common.{◌≡◌, ℕ, ◌+◌, ◌&&◌, Bool, true, false, List, [], ◌∷◌, Some, refl, ap, arith, drop, length}
use Rattle.std.proofs.Common.{map, option_to_list, slice_index_or, take}
use Rattle.std.proofs.lemmas.List.Sums.{sum_by-cons}
use Rattle.std.specs.Map.{lookup, remove_entry}
use Rattle.std.specs.BTreeMap.{is_at}
use Rattle.std.specs.Ordering.{nat_cmp}
use Rattle.std.proofs.lemmas.Map.Entries.{sum_by-remove_entry}
use Rattle.sctp_receive_queues.specs.Reassembly.{bytes_waiting}
use Rattle.sctp_streams.specs.declared.halves.RecvSendState.{RecvSendState}
use Rattle.sctp_streams.specs.declared.halves.RecvSendState.TheVariants as open_halves
use Rattle.sctp_streams.specs.Stream.{StreamView, gives_messages, is_read_half_open, with_halves, without_read_half}
use Rattle.sctp_streams.specs.Stream.{without_unread}
use Rattle.sctp_streams.specs.Streams.{readable_count, readable_in, waiting_in}

-- a stream that ends takes along the bytes that wait there
pub ended_bytes : (id : ℕ) (m n : List (ℕ × StreamView)) (s : StreamView) → lookup (is_at (nat_cmp id)) m ≡ Some s
    → n ≡ remove_entry (is_at (nat_cmp id)) m → waiting_in n + bytes_waiting s.reassembly ≡ waiting_in m
ended_bytes id m n s there is =
    let sum = sum_by-remove_entry (λ (t : StreamView). bytes_waiting t.reassembly) (is_at (nat_cmp id)) m in
    let rest : waiting_in n ≡ waiting_in (remove_entry (is_at (nat_cmp id)) m) = ap waiting_in is in
    let all = rw there at sum in omega (arith, all, rest)

-- and counts no more among those that give messages
pub ended_count : (id : ℕ) (m n : List (ℕ × StreamView)) (s : StreamView) → lookup (is_at (nat_cmp id)) m ≡ Some s
    → n ≡ remove_entry (is_at (nat_cmp id)) m → readable_in n + readable_count s ≡ readable_in m
ended_count id m n s there is =
    let sum = sum_by-remove_entry readable_count (is_at (nat_cmp id)) m in
    let rest : readable_in n ≡ readable_in (remove_entry (is_at (nat_cmp id)) m) = ap readable_in is in
    let all = rw there at sum in omega (arith, all, rest)

-- a stream whose read half is closed gives no message
pub closed_is_silent : (s : StreamView) → gives_messages (with_halves s (without_read_half s.halves)) ≡ false
closed_is_silent s = rw (by s.halves) refl
  where
    by : (h : RecvSendState) → is_read_half_open (without_read_half h) ≡ false
    by open_halves.Closed = refl
    by open_halves.Readable = refl
    by open_halves.Writable = refl
    by open_halves.ReadWritable = refl

-- nor does one on which nothing waits
pub emptied_is_silent : (s : StreamView) → gives_messages (without_unread s) ≡ false
emptied_is_silent s = by (is_read_half_open s.halves)
  where
    by : (open_half : Bool) → (open_half && false) ≡ false
    by true = refl
    by false = refl

-- The first stream ends.

only_one : (s : StreamView) (e : ℕ × StreamView) (es : List (ℕ × StreamView))
    → option_to_list (Some s) ≡ map (λ e. e.1) (take 1 (e ∷ es)) → s ≡ e.1
only_one s e es is = ap (λ (ss : List StreamView). slice_index_or ss 0 s) is

pub first_bytes : (m n : List (ℕ × StreamView)) (s : StreamView)
    → option_to_list (Some s) ≡ map (λ e. e.1) (take 1 m) → n ≡ drop 1 m
    → waiting_in n + bytes_waiting s.reassembly ≡ waiting_in m
first_bytes [] n s first rest = let more = ap (λ (ss : List StreamView). length ss) first in absurd (omega (arith, more))
first_bytes (e ∷ es) n s first rest =
    let f : StreamView → ℕ = λ (t : StreamView). bytes_waiting t.reassembly in
    let sum = sum_by-cons f e.1 (map (λ e. e.1) es) in
    let own : bytes_waiting s.reassembly ≡ bytes_waiting e.1.reassembly = ap f (only_one s e es first) in
    let left : waiting_in n ≡ waiting_in es = ap waiting_in rest in
    omega (arith, sum, own, left)

pub first_count : (m n : List (ℕ × StreamView)) (s : StreamView)
    → option_to_list (Some s) ≡ map (λ e. e.1) (take 1 m) → n ≡ drop 1 m
    → readable_in n + readable_count s ≡ readable_in m
first_count [] n s first rest = let more = ap (λ (ss : List StreamView). length ss) first in absurd (omega (arith, more))
first_count (e ∷ es) n s first rest =
    let sum = sum_by-cons readable_count e.1 (map (λ e. e.1) es) in
    let own : readable_count s ≡ readable_count e.1 = ap readable_count (only_one s e es first) in
    let left : readable_in n ≡ readable_in es = ap readable_in rest in
    omega (arith, sum, own, left)
