-- Messages of which those behind the first so many get their SSNs later.
use Rattle.std.proofs.Common.{◌≡◌, ℕ, zero, suc, ◌+◌, ◌-◌, ◌≤◌, ◌==◌, Bool, true, false, List, [], ◌∷◌, ◌++◌, Option, Some}
use Rattle.std.proofs.Common.{length, map, take, drop, refl, ap, sym, ◌∙◌, arith, subst, Result, Ok, Err}
use Rattle.std.specs.List.{list_any, position_or_len}
use Rattle.std.proofs.lemmas.Bool.Decides.{nat_tests}
use Rattle.std.proofs.lemmas.List.Sums.{sum_by-cons}
use Rattle.std.specs.Result.{OnErr}
use Rattle.sctp_outbound_queue.specs.declared.message.Attributes.{Attributes}
use Rattle.sctp_outbound_queue.specs.declared.stretches.Stretch.{Stretch}
use Rattle.sctp_outbound_queue.specs.Clocks.{AllFrom, Cover}
use Rattle.sctp_outbound_queue.specs.Waiting.{Waiting}
use Rattle.sctp_outbound_queue.specs.Message.{is_expired_unsent, is_waiting_of_stream, moved_down, piece_count}
use Rattle.sctp_outbound_queue.specs.Outbound.{pieces_waiting}
use Rattle.sctp_outbound_queue.specs.Owed.{Counts, as_they_are, lowered}
use Rattle.sctp_outbound_queue.proofs.ExpiredUnsent.{unordered_stays}
use Rattle.sctp_outbound_queue.proofs.OwedSsns.{none_lowered, lowered_one}
use Rattle.sctp_outbound_queue.specs.Owed.{lowered_in}

-- a message whatever its SSN is
abbrev pub unnumbered : Waiting → Waiting
unnumbered m = record m { message = (let a = m.message in record a { stream_sequence_number = 0 }) }

-- the two differ in SSNs alone
abbrev pub AreAlike : List Waiting → List Waiting → Type 0
AreAlike ms ns = map unnumbered ms ≡ map unnumbered ns

-- what holds anyway holds where a call fails
pub on_err : {T E P : Type 0} → (r : Result T E) → P → OnErr r P
on_err (Ok value) h = tt
on_err (Err error) h = h

-- nothing is owed

none_lowered_each : (ms : List Waiting) → map (lowered []) ms ≡ ms
none_lowered_each [] = refl
none_lowered_each (m ∷ ms) =
    ap (λ z. z ∷ map (lowered []) ms) (none_lowered m) ∙ ap (λ z. m ∷ z) (none_lowered_each ms)

pub nothing_owed : (settled : ℕ) (ms : List Waiting) → as_they_are settled [] ms ≡ ms
nothing_owed zero ms = none_lowered_each ms
nothing_owed (suc settled) [] = refl
nothing_owed (suc settled) (m ∷ ms) = ap (λ z. m ∷ z) (nothing_owed settled ms)

pub owed_nothing : (settled : ℕ) (counts : Counts) (ms : List Waiting) → counts ≡ [] → as_they_are settled counts ms ≡ ms
owed_nothing settled counts ms none = ap (λ z. as_they_are settled z ms) none ∙ nothing_owed settled ms

pub none_kept : {b : Bool} (counts : Counts) → b ≡ (length counts == 0) → b ≡ true → counts ≡ []
none_kept [] is e = refl
none_kept (x ∷ counts) is e = let some = sym is ∙ e in absurd (not_none (length counts) some) where
  not_none : (n : ℕ) → (suc n == 0) ≡ true → ⊥
  not_none n e = grind (arith, nat_tests, e)

-- all have their SSNs
pub all_settled : (settled : ℕ) (counts : Counts) (ms : List Waiting) → length ms ≤ settled
    → as_they_are settled counts ms ≡ ms
all_settled zero counts [] le = refl
all_settled zero counts (m ∷ ms) le = absurd (omega arith)
all_settled (suc settled) counts [] le = refl
all_settled (suc settled) counts (m ∷ ms) le = ap (λ z. m ∷ z) (all_settled settled counts ms (omega arith))

pub as_many : (settled : ℕ) (counts : Counts) (ms : List Waiting) → length (as_they_are settled counts ms) ≡ length ms
as_many zero counts [] = refl
as_many zero counts (m ∷ ms) = ap suc (as_many zero counts ms)
as_many (suc settled) counts [] = refl
as_many (suc settled) counts (m ∷ ms) = ap suc (as_many settled counts ms)

pub long_as : (settled : ℕ) (counts : Counts) (ms : List Waiting) {ns : List Waiting}
    → as_they_are settled counts ms ≡ ns → length ms ≡ length ns
long_as settled counts ms is = sym (as_many settled counts ms) ∙ ap length is

-- nothing but SSNs is to be lowered

pub alike : (settled : ℕ) (counts : Counts) (ms : List Waiting) → AreAlike ms (as_they_are settled counts ms)
alike zero counts [] = refl
alike zero counts (m ∷ ms) = ap (λ z. unnumbered m ∷ z) (alike zero counts ms)
alike (suc settled) counts [] = refl
alike (suc settled) counts (m ∷ ms) = ap (λ z. unnumbered m ∷ z) (alike settled counts ms)

pieces_unnumbered : (ms : List Waiting) → pieces_waiting (map unnumbered ms) ≡ pieces_waiting ms
pieces_unnumbered [] = refl
pieces_unnumbered (m ∷ ms) =
    let a = sum_by-cons piece_count (unnumbered m) (map unnumbered ms) in
    let b = sum_by-cons piece_count m ms in
    let rest = pieces_unnumbered ms in
    omega (arith, a, b, rest)

pub as_many_pieces : (settled : ℕ) (counts : Counts) (ms : List Waiting)
    → pieces_waiting (as_they_are settled counts ms) ≡ pieces_waiting ms
as_many_pieces settled counts ms =
    sym (pieces_unnumbered (as_they_are settled counts ms)) ∙ ap pieces_waiting (sym (alike settled counts ms))
    ∙ pieces_unnumbered ms

stream_unnumbered : (id : ℕ) (ms : List Waiting)
    → list_any (is_waiting_of_stream id) (map unnumbered ms) ≡ list_any (is_waiting_of_stream id) ms
stream_unnumbered id [] = refl
stream_unnumbered id (m ∷ ms) = rw (stream_unnumbered id ms) refl

pub same_streams : (id settled : ℕ) (counts : Counts) (ms : List Waiting)
    → list_any (is_waiting_of_stream id) (as_they_are settled counts ms) ≡ list_any (is_waiting_of_stream id) ms
same_streams id settled counts ms =
    sym (stream_unnumbered id (as_they_are settled counts ms))
    ∙ ap (list_any (is_waiting_of_stream id)) (sym (alike settled counts ms)) ∙ stream_unnumbered id ms

expired_unnumbered : (now : ℕ) (ms : List Waiting)
    → position_or_len (is_expired_unsent now) (map unnumbered ms) ≡ position_or_len (is_expired_unsent now) ms
expired_unnumbered now [] = refl
expired_unnumbered now (m ∷ ms) = rw (expired_unnumbered now ms) refl

pub expired_alike : (now : ℕ) (ms ns : List Waiting) → AreAlike ms ns
    → position_or_len (is_expired_unsent now) ms ≡ position_or_len (is_expired_unsent now) ns
expired_alike now ms ns same =
    sym (expired_unnumbered now ms) ∙ ap (position_or_len (is_expired_unsent now)) same ∙ expired_unnumbered now ns

pub from_alike : (next : Option ℕ) (ms ns : List Waiting) → AreAlike ms ns → AllFrom next ms → AllFrom next ns
from_alike next [] [] same a = tt
from_alike next [] (n ∷ ns) same a = absurd (cc)
from_alike next (m ∷ ms) [] same a = absurd (cc)
from_alike next (m ∷ ms) (n ∷ ns) same (h, a) =
    let one : unnumbered m ≡ unnumbered n = cc in
    let more : map unnumbered ms ≡ map unnumbered ns = cc in
    ((subst (λ (z : Waiting). AllFrom next (z ∷ [])) one (h, tt)).0, from_alike next ms ns more a)

pub take_alike : (k : ℕ) (ms ns : List Waiting) → AreAlike ms ns → AreAlike (take k ms) (take k ns)
take_alike zero ms ns same = refl
take_alike (suc k) [] [] same = refl
take_alike (suc k) [] (n ∷ ns) same = absurd (cc)
take_alike (suc k) (m ∷ ms) [] same = absurd (cc)
take_alike (suc k) (m ∷ ms) (n ∷ ns) same =
    let one : unnumbered m ≡ unnumbered n = cc in
    let more : map unnumbered ms ≡ map unnumbered ns = cc in
    ap (λ z. z ∷ map unnumbered (take k ms)) one ∙ ap (λ z. unnumbered n ∷ z) (take_alike k ms ns more)

pub drop_alike : (k : ℕ) (ms ns : List Waiting) → AreAlike ms ns → AreAlike (drop k ms) (drop k ns)
drop_alike zero ms ns same = same
drop_alike (suc k) [] [] same = refl
drop_alike (suc k) [] (n ∷ ns) same = absurd (cc)
drop_alike (suc k) (m ∷ ms) [] same = absurd (cc)
drop_alike (suc k) (m ∷ ms) (n ∷ ns) same =
    let more : map unnumbered ms ≡ map unnumbered ns = cc in
    drop_alike k ms ns more

pub long_alike : (ms ns : List Waiting) → AreAlike ms ns → length ms ≡ length ns
long_alike [] [] same = refl
long_alike [] (n ∷ ns) same = absurd (cc)
long_alike (m ∷ ms) [] same = absurd (cc)
long_alike (m ∷ ms) (n ∷ ns) same =
    let more : map unnumbered ms ≡ map unnumbered ns = cc in
    ap suc (long_alike ms ns more)

pub cover_alike : (ss : List Stretch) (ms ns : List Waiting) → AreAlike ms ns → Cover ss ms → Cover ss ns
cover_alike [] ms ns same c = tt
cover_alike (s ∷ ss) ms ns same c = (
  omega (arith, c.0, long_alike ms ns same),
  from_alike (Some s.next) (take s.len ms) (take s.len ns) (take_alike s.len ms ns same) c.1,
  cover_alike ss (drop s.len ms) (drop s.len ns) (drop_alike s.len ms ns same) c.2,
)

-- a part gets its SSNs

first_settled : (n : ℕ) (counts : Counts) (ms : List Waiting) → n ≤ length ms
    → as_they_are n counts (map (lowered counts) (take n ms) ++ drop n ms) ≡ map (lowered counts) ms
first_settled zero counts ms within = refl
first_settled (suc n) counts [] within = absurd (omega arith)
first_settled (suc n) counts (m ∷ ms) within =
    ap (λ z. lowered counts m ∷ z) (first_settled n counts ms (omega arith))

some_settled : (from n : ℕ) (counts : Counts) (ms : List Waiting) → from + n ≤ length ms
    → as_they_are (from + n) counts
    (take from ms ++ (map (lowered counts) (take n (drop from ms)) ++ drop n (drop from ms)))
    ≡ as_they_are from counts ms
some_settled zero n counts ms within =
    let e : zero + n ≡ n = omega arith in
    rw e (first_settled n counts ms (omega arith))
some_settled (suc from) n counts [] within = absurd (omega arith)
some_settled (suc from) n counts (m ∷ ms) within =
    let e : suc from + n ≡ suc (from + n) = omega arith in
    rw e (ap (λ z. m ∷ z) (some_settled from n counts ms (omega arith)))

pub part_settled : (from to : ℕ) (counts : Counts) (ms ns part : List Waiting) → from ≤ to → to ≤ length ms
    → ns ≡ take from ms ++ (part ++ drop (to - from) (drop from ms))
    → part ≡ map (lowered counts) (take (to - from) (drop from ms))
    → as_they_are to counts ns ≡ as_they_are from counts ms
part_settled from to counts ms ns part le within whole is =
    let e : from + (to - from) ≡ to = omega (arith, le) in
    ap (as_they_are to counts) whole
    ∙ ap (λ z. as_they_are to counts (take from ms ++ (z ++ drop (to - from) (drop from ms)))) is
    ∙ ap (λ k. as_they_are k counts
    (take from ms ++ (map (lowered counts) (take (to - from) (drop from ms)) ++ drop (to - from) (drop from ms))))
    (sym e)
    ∙ some_settled from (to - from) counts ms (omega (arith, e, within))

-- what is owed grows

pub owed_more : (k : ℕ) (old new : Counts) (d : Attributes) (ms : List Waiting)
    → ((m : Waiting) → lowered new m ≡ moved_down d (lowered old m))
    → as_they_are k new ms ≡ take k ms ++ map (moved_down d) (map (lowered old) (drop k ms))
owed_more zero old new d [] more = refl
owed_more zero old new d (m ∷ ms) more =
    ap (λ z. z ∷ map (lowered new) ms) (more m)
    ∙ ap (λ z. moved_down d (lowered old m) ∷ z) (owed_more zero old new d ms more)
owed_more (suc k) old new d [] more = refl
owed_more (suc k) old new d (m ∷ ms) more = ap (λ z. m ∷ z) (owed_more k old new d ms more)

-- each moves down at once

pub all_one : (d : Attributes) (ms : List Waiting) → d.unordered ≡ false
    → map (lowered_in d.stream_identifier d.generation 1) ms ≡ map (moved_down d) ms
all_one d [] ordered = refl
all_one d (m ∷ ms) ordered =
    ap (λ z. z ∷ map (lowered_in d.stream_identifier d.generation 1) ms) (lowered_one d m ordered)
    ∙ ap (λ z. moved_down d m ∷ z) (all_one d ms ordered)

pub moved_at_once : (k : ℕ) (counts : Counts) (d : Attributes) (ms ns : List Waiting) → k ≤ length ms
    → ns ≡ as_they_are k counts ms
    → take k ns ++ map (moved_down d) (drop k ns) ≡ take k ms ++ map (moved_down d) (map (lowered counts) (drop k ms))
moved_at_once k counts d ms ns le is = ap (λ z. take k z ++ map (moved_down d) (drop k z)) is ∙ at k ms le where
  at : (k : ℕ) (ms : List Waiting) → k ≤ length ms
      → take k (as_they_are k counts ms) ++ map (moved_down d) (drop k (as_they_are k counts ms))
      ≡ take k ms ++ map (moved_down d) (map (lowered counts) (drop k ms))
  at zero ms le = refl
  at (suc k) [] le = absurd (omega arith)
  at (suc k) (m ∷ ms) le = ap (λ z. m ∷ z) (at k ms (omega arith))

-- none moves down
pub none_moves : (k : ℕ) (counts : Counts) (d : Attributes) (ms : List Waiting) → d.unordered ≡ true
    → as_they_are k counts ms ≡ take k ms ++ map (moved_down d) (map (lowered counts) (drop k ms))
none_moves k counts d ms unordered =
    ap (λ z. take k ms ++ z) (sym (unordered_stays d (map (lowered counts) (drop k ms)) unordered))

pub none_behind : (k : ℕ) (old : Counts) (d : Attributes) (ms : List Waiting) → length ms ≤ k
    → as_they_are k [] ms ≡ take k ms ++ map (moved_down d) (map (lowered old) (drop k ms))
none_behind zero old d [] le = refl
none_behind zero old d (m ∷ ms) le = absurd (omega arith)
none_behind (suc k) old d [] le = refl
none_behind (suc k) old d (m ∷ ms) le = ap (λ z. m ∷ z) (none_behind k old d ms (omega arith))
