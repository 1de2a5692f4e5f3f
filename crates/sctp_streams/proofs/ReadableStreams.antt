-- The streams whose reads give messages, counted over the live streams.
use Rattle.std.proofs.Common.{◌≡◌, ℕ, ◌+◌, ◌-◌, ◌^◌, ◌<◌, ◌≤◌, Bool, true, false, List, [], ◌∷◌, length, map, Some}
use Rattle.std.proofs.Common.{None, refl, ap, sym, ◌∙◌, arith, if◌then◌else◌, nat_lt, min, ◌||◌}
use Rattle.std.specs.List.{list_any, sum_by}
use Rattle.std.specs.List.Sorted.{IsStrictlySortedBy}
use Rattle.std.specs.Map.{keys_of, lookup, set_value}
use Rattle.std.specs.BTreeMap.{insert_entry, is_at}
use Rattle.std.specs.Ordering.{nat_cmp}
use Rattle.std.specs.Option.{option_map, unwrap_or}
use Rattle.std.proofs.lemmas.Bool.Decides.{nat_tests}
use Rattle.std.proofs.lemmas.Cmp.{nat_cmp_total}
use Rattle.std.proofs.lemmas.Map.Entries.{sum_by-insert_entry, sum_by-set_value}
use Rattle.std.proofs.lemmas.List.Sums.{sum_by-cons}
use Rattle.sctp_streams.specs.declared.setting.Setting.{Setting}
use Rattle.sctp_streams.specs.declared.setting.Setting.TheVariants as settings
use Rattle.sctp_streams.specs.declared.halves.RecvSendState.{RecvSendState}
use Rattle.sctp_streams.specs.declared.halves.RecvSendState.TheVariants as open_halves
use Rattle.sctp_streams.specs.Stream.{StreamView, gives_messages, is_read_half_open, stream_passed, with_setting}
use Rattle.sctp_streams.specs.Stream.{released_from, with_ssn_given_back, without_write_half}
use Rattle.sctp_streams.specs.Streams.{passed_each, readable_count, readable_in}

-- whether some stream gives messages is told by their number
pub some_counted : (ss : List StreamView) → list_any gives_messages ss ≡ nat_lt 0 (sum_by readable_count ss)
some_counted [] = refl
some_counted (s ∷ ss) =
    rw (sum_by-cons readable_count s ss) (by (gives_messages s) (list_any gives_messages ss) (some_counted ss))
  where
    by : (gives more : Bool) → more ≡ nat_lt 0 (sum_by readable_count ss)
        → (gives || more) ≡ nat_lt 0 ((if gives then 1 else 0) + sum_by readable_count ss)
    by true more is = grind (arith, nat_tests)
    by false more is =
        let same : sum_by readable_count ss ≡ 0 + sum_by readable_count ss = omega arith in is ∙ ap (nat_lt 0) same

-- no more of them than streams
pub at_most_all : (es : List (ℕ × StreamView)) → readable_in es ≤ length es
at_most_all [] = omega arith
at_most_all (e ∷ es) =
    let more = sum_by-cons readable_count e.1 (map (λ e. e.1) es) in
    omega (arith, more, at_most_one (gives_messages e.1), at_most_all es)
  where
    at_most_one : (gives : Bool) → (if gives then 1 else 0) ≤ 1
    at_most_one true = omega arith
    at_most_one false = omega arith

-- the number that the code reckons, of a stream that gave messages or not, and gives some or not
pub counted_anew : (old new all : ℕ) (gave gives : Bool)
    → new + (if gave then 1 else 0) ≡ old + (if gives then 1 else 0) → new ≤ all → all < 2 ^ 63
    → min (min (old + (if gives then 1 else 0)) (2 ^ 64 - 1) - (if gave then 1 else 0)) all ≡ new
counted_anew old new all true true is most small = grind (arith, is, most, small)
counted_anew old new all true false is most small = grind (arith, is, most, small)
counted_anew old new all false true is most small = grind (arith, is, most, small)
counted_anew old new all false false is most small = grind (arith, is, most, small)

-- one stream changes, and the others stay
module _ (id : ℕ) (m n : List (ℕ × StreamView)) (s t : StreamView) (there : lookup (is_at (nat_cmp id)) m ≡ Some s)
    (is : n ≡ set_value (is_at (nat_cmp id)) m t) where
  -- its count is exchanged for the one that it has after the change
  count_exchanged : readable_in n + readable_count s ≡ readable_in m + readable_count t
  count_exchanged = rw is (sum_by-set_value readable_count (is_at (nat_cmp id)) m s t there)

  -- a change that leaves alone whether the stream gives messages leaves their number
  pub still_readable : gives_messages t ≡ gives_messages s → readable_in n ≡ readable_in m
  still_readable same =
      let e = count_exchanged in
      let count : readable_count t ≡ readable_count s = ap (λ (g : Bool). if g then 1 else 0) same in
      omega (arith, e, count)

  -- the number that the code reckons after the change is that of the streams as they are then
  pub count_is : {old all : ℕ} {gave gives : Bool} → old ≡ readable_in m → gave ≡ gives_messages s
      → gives ≡ gives_messages t → all ≡ length n → all < 2 ^ 63
      → min (min (old + (if gives then 1 else 0)) (2 ^ 64 - 1) - (if gave then 1 else 0)) all ≡ readable_in n
  count_is {old = old} {all = all} {gave = gave} {gives = gives} count before after streams small =
      let e = count_exchanged in
      let less : (if gave then 1 else 0) ≡ readable_count s = ap (λ (g : Bool). if g then 1 else 0) before in
      let more : (if gives then 1 else 0) ≡ readable_count t = ap (λ (g : Bool). if g then 1 else 0) after in
      counted_anew old (readable_in n) all gave gives (omega (arith, e, less, more, count))
      (omega (arith, at_most_all n, streams)) small

-- the write half's end leaves the read half as it is
read_half_stays : (h : RecvSendState) → is_read_half_open (without_write_half h) ≡ is_read_half_open h
read_half_stays open_halves.Closed = refl
read_half_stays open_halves.Readable = refl
read_half_stays open_halves.Writable = refl
read_half_stays open_halves.ReadWritable = refl

-- no setting touches whether a stream gives messages
pub set_gives : (s : StreamView) (x : Setting) → gives_messages (with_setting s x) ≡ gives_messages s
set_gives s (settings.DefaultPayloadType kind) = refl
set_gives s (settings.Reliability params) = refl
set_gives s (settings.LowMark bytes) = refl
set_gives s (settings.HighMark bytes) = refl
set_gives s settings.WriteHalfClosed = rw (read_half_stays s.halves) refl

-- a stream that is made gives no message, and takes the place of one that was there

made_count : (es n : List (ℕ × StreamView)) (id : ℕ) (s : StreamView) → IsStrictlySortedBy nat_cmp (keys_of es)
    → n ≡ insert_entry nat_cmp es id s → gives_messages s ≡ false
    → readable_in n + unwrap_or (option_map readable_count (lookup (is_at (nat_cmp id)) es)) 0 ≡ readable_in es
made_count es n id s sorted is silent =
    let sum = sum_by-insert_entry readable_count nat_cmp_total es id s sorted in
    let none : readable_count s ≡ 0 = ap (λ (gives : Bool). if gives then 1 else 0) silent in
    let all : readable_in n ≡ readable_in (insert_entry nat_cmp es id s) = ap readable_in is in
    omega (arith, sum, none, all)

pub replaced_count : (es n : List (ℕ × StreamView)) (id : ℕ) (s t : StreamView)
    → IsStrictlySortedBy nat_cmp (keys_of es) → n ≡ insert_entry nat_cmp es id s → gives_messages s ≡ false
    → lookup (is_at (nat_cmp id)) es ≡ Some t → readable_in n + readable_count t ≡ readable_in es
replaced_count es n id s t sorted is silent there =
    let sum = made_count es n id s sorted is silent in rw there at sum

pub added_count : (es n : List (ℕ × StreamView)) (id : ℕ) (s : StreamView)
    → IsStrictlySortedBy nat_cmp (keys_of es) → n ≡ insert_entry nat_cmp es id s → gives_messages s ≡ false
    → lookup (is_at (nat_cmp id)) es ≡ None → readable_in n ≡ readable_in es
added_count es n id s sorted is silent there =
    let sum = made_count es n id s sorted is silent in
    let one = rw there at sum in omega (arith, one)

-- unordered pieces of messages that are not complete are not read
pub passed_count : (tsn : ℕ) (es : List (ℕ × StreamView)) → readable_in (passed_each tsn es) ≡ readable_in es
passed_count tsn [] = refl
passed_count tsn (e ∷ es) =
    sum_by-cons readable_count (stream_passed tsn e.1) (map (λ e. e.1) (passed_each tsn es))
    ∙ ap (λ n. readable_count e.1 + n) (passed_count tsn es)
    ∙ sym (sum_by-cons readable_count e.1 (map (λ e. e.1) es))

-- nor does a message that is given back touch whether one can be read
pub given_gives : (s : StreamView) (unordered : Bool) (bytes : ℕ)
    → gives_messages (released_from (if unordered then s else with_ssn_given_back s) bytes) ≡ gives_messages s
given_gives s true bytes = refl
given_gives s false bytes = refl
