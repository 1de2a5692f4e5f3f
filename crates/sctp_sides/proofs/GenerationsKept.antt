-- How often a generation is accounted for, in the live streams and in the events that wait, and what leaves that as it
-- is.
use Rattle.std.proofs.Common.{◌≡◌, refl, sym, ap, ◌∙◌, ℕ, zero, suc, ◌+◌, arith, Bool, true, false, not, cond, eqb}
use Rattle.std.proofs.Common.{if◌then◌else◌, List, [], ◌∷◌, ◌++◌, map, filter, Option, Some, None, is_some, nat_lt}
use Rattle.std.proofs.Common.{Ordering, Less, Equal, Greater, is_eq, nat_cmp}
use Rattle.std.specs.Ordering.{match_ordering}
use Rattle.std.specs.Prelude.{remove, slice_get}
use Rattle.std.specs.BTreeMap.{is_at, insert_entry}
use Rattle.std.specs.Map.{lookup, remove_entry, set_value}
use Rattle.std.proofs.lemmas.Bool.{false≢true, true≢false}
use Rattle.std.proofs.lemmas.Bool.Decides.{nat_tests}
use Rattle.std.proofs.lemmas.List.Sums.{sum_by-append, sum_by-cons}
use Rattle.sctp_wire_types.specs.declared.chunk.ChunkPayloadData.{ChunkPayloadData}
use Rattle.sctp_wire_types.specs.declared.ids.PayloadProtocolIdentifier.{PayloadProtocolIdentifier}
use Rattle.sctp_streams.specs.declared.event.AssociationError.{AssociationError}
use Rattle.sctp_streams.specs.declared.event.Event.{Event}
use Rattle.sctp_streams.specs.declared.event.Event.TheVariants.{AssociationLost, DataChannelStatsFinal}
use Rattle.sctp_streams.specs.declared.event.Event.TheVariants as events
use Rattle.sctp_streams.specs.Events.{is_told_of}
use Rattle.sctp_receive_queues.specs.Messages.{ReceivedMessage}
use Rattle.sctp_receive_queues.specs.Reassembly.{Reassembly, taken}
use Rattle.sctp_streams.specs.Stream.{StreamView, fresh_stream, read_with, stream_pushed, stream_read}
use Rattle.sctp_streams.specs.Streams.{StreamMap, change_at, changed_stream, last_stats, made, passed_each, passed_in}
use Rattle.sctp_streams.specs.Streams.{pushed_at, pushed_in, read_at, read_in, stats_of_each, stream_at, with_stream}
use Rattle.sctp_streams.specs.Streams.{without_stream, without_streams}
use Rattle.sctp_resets.specs.Channels.{final_told, final_told_at}
use Rattle.sctp_sides.specs.Generations.{final_of, finals, live_generations, times}
use Rattle.sctp_sides.specs.OneSide.{told_by}

-- the generations of these streams
abbrev generations_in : List (ℕ × StreamView) → List ℕ
generations_in es = map (λ e. e.1.stats.generation) es

-- that of a stream, if there is one
abbrev generation_of : Option StreamView → List ℕ
generation_of None = []
generation_of (Some s) = s.stats.generation ∷ []

-- one where a number was not given out yet, else none
abbrev pub not_given : ℕ → ℕ → ℕ
not_given g next = if nat_lt g next then 0 else 1

-- How often a number is accounted for: as that of a live stream, as that of last counters that wait to be told, or as
-- one that was not given out yet.
unfoldable pub tally : ℕ → StreamMap → List Event → ℕ
tally g m es = times g (live_generations m) + times g (finals es) + not_given g m.next_generation

-- Streams whose generations stay

-- the live streams are of the same generations, and the next generation has the same number
pub record HaveSameGenerations (m n : StreamMap) : Type 0 where
  pub live : live_generations n ≡ live_generations m
  pub next : n.next_generation ≡ m.next_generation

pub same_itself : (m : StreamMap) → HaveSameGenerations m m
same_itself m = record { live = refl; next = refl }

pub same_on : (l m n : StreamMap) → HaveSameGenerations l m → HaveSameGenerations m n → HaveSameGenerations l n
same_on l m n h k = record { live = k.live ∙ h.live; next = k.next ∙ h.next }

set_generations : (id : ℕ) (s t : StreamView) → t.stats.generation ≡ s.stats.generation
    → (es : List (ℕ × StreamView)) → lookup (is_at (nat_cmp id)) es ≡ Some s
    → generations_in (set_value (is_at (nat_cmp id)) es t) ≡ generations_in es
set_generations id s t same [] there = refl
set_generations id s t same (e ∷ es) there =
    by (is_at (nat_cmp id) e.0) there (set_generations id s t same es)
  where
    by : (b : Bool) → cond b (Some e.1) (lookup (is_at (nat_cmp id)) es) ≡ Some s
        → (lookup (is_at (nat_cmp id)) es ≡ Some s
        → generations_in (set_value (is_at (nat_cmp id)) es t) ≡ generations_in es)
        → generations_in (cond b ((e.0, t) ∷ es) (e ∷ set_value (is_at (nat_cmp id)) es t)) ≡ generations_in (e ∷ es)
    by true first more =
        let stream : s ≡ e.1 = cc in
        ap (λ (n : ℕ). n ∷ generations_in es) (same ∙ ap (λ (u : StreamView). u.stats.generation) stream)
    by false later more = ap (λ (ns : List ℕ). e.1.stats.generation ∷ ns) (more later)

-- one of them is another one now, of the same generation
pub with_same : (m : StreamMap) (id : ℕ) (s t : StreamView) → stream_at m id ≡ Some s
    → t.stats.generation ≡ s.stats.generation → HaveSameGenerations m (with_stream m id t)
with_same m id s t there same = record { live = set_generations id s t same m.by_id there; next = refl }

module _ (f : StreamView → StreamView) (keeps : (s : StreamView) → (f s).stats.generation ≡ s.stats.generation) where
  changed_at_same : (o : Option StreamView) (m : StreamMap) (id : ℕ) → stream_at m id ≡ o
      → HaveSameGenerations m (change_at f o m id)
  changed_at_same None m id there = same_itself m
  changed_at_same (Some s) m id there = with_same m id s (f s) there (keeps s)

  -- it is changed, and its generation is not
  pub changed_same : (m : StreamMap) (id : ℕ) → HaveSameGenerations m (changed_stream f m id)
  changed_same m id = changed_at_same (stream_at m id) m id refl

pushed_at_same : (o : Option StreamView) (m : StreamMap) (id : ℕ) (p : ChunkPayloadData) → stream_at m id ≡ o
    → HaveSameGenerations m (pushed_at o m id p).0
pushed_at_same None m id p there = same_itself m
pushed_at_same (Some s) m id p there = with_same m id s (stream_pushed s p).0 there refl

pub pushed_same : (m : StreamMap) (id : ℕ) (p : ChunkPayloadData) → HaveSameGenerations m (pushed_in m id p).0
pushed_same m id p = pushed_at_same (stream_at m id) m id p refl

read_with_same : (s : StreamView) (q : Reassembly × Option ReceivedMessage)
    → (read_with s q).0.stats.generation ≡ s.stats.generation
read_with_same s (r, None) = refl
read_with_same s (r, Some message) = refl

read_at_same : (o : Option StreamView) (m : StreamMap) (id : ℕ) → stream_at m id ≡ o
    → HaveSameGenerations m (read_at o m id).0
read_at_same None m id there = same_itself m
read_at_same (Some s) m id there =
    with_same m id s (stream_read s).0 there (read_with_same s (taken s.reassembly))

pub read_same : (m : StreamMap) (id : ℕ) → HaveSameGenerations m (read_in m id).0
read_same m id = read_at_same (stream_at m id) m id refl

passed_generations : (tsn : ℕ) (es : List (ℕ × StreamView))
    → generations_in (passed_each tsn es) ≡ generations_in es
passed_generations tsn [] = refl
passed_generations tsn (e ∷ es) = ap (λ (ns : List ℕ). e.1.stats.generation ∷ ns) (passed_generations tsn es)

pub passed_same : (m : StreamMap) (tsn : ℕ) → HaveSameGenerations m (passed_in m tsn)
passed_same m tsn = record { live = passed_generations tsn m.by_id; next = refl }

-- Events

-- what was told of a stream is no event of last counters
told_of_is_none : (id : ℕ) (e : Event) → is_told_of id e ≡ true → final_of e ≡ []
told_of_is_none id events.Connected h = refl
told_of_is_none id (events.HandshakeFailed reason) h = refl
told_of_is_none id (events.AssociationLost reason) h = refl
told_of_is_none id (events.Stream e) h = refl
told_of_is_none id (events.DataChannelStatsFinal stats) h = absurd (false≢true h)
told_of_is_none id events.DatagramReceived h = refl

without_told : (id : ℕ) (es : List Event)
    → finals (filter (λ (e : Event). not (is_told_of id e)) es) ≡ finals es
without_told id [] = refl
without_told id (e ∷ es) = by (is_told_of id e) refl (without_told id es)
  where
    by : (b : Bool) → is_told_of id e ≡ b → finals (filter (λ (e : Event). not (is_told_of id e)) es) ≡ finals es
        → finals (cond (not b) (e ∷ filter (λ (e : Event). not (is_told_of id e)) es)
        (filter (λ (e : Event). not (is_told_of id e)) es)) ≡ finals (e ∷ es)
    by true is more = more ∙ ap (λ (ns : List ℕ). ns ++ finals es) (sym (told_of_is_none id e is))
    by false is more = ap (λ (ns : List ℕ). final_of e ++ ns) more

finals_of_each : (es : List (ℕ × StreamView))
    → finals (map DataChannelStatsFinal (stats_of_each es)) ≡ generations_in es
finals_of_each [] = refl
finals_of_each (e ∷ es) = ap (λ (ns : List ℕ). e.1.stats.generation ∷ ns) (finals_of_each es)

module _ (g : ℕ) where
  times_cons : (n : ℕ) (ns : List ℕ) → times g (n ∷ ns) ≡ times g (n ∷ []) + times g ns
  times_cons n ns =
      let all : times g (n ∷ ns) ≡ cond (eqb n g) 1 0 + times g ns = sum_by-cons (λ m. cond (eqb m g) 1 0) n ns in
      omega (arith, all)

  times_append : (ms ns : List ℕ) → times g (ms ++ ns) ≡ times g ms + times g ns
  times_append ms ns = sum_by-append (λ m. cond (eqb m g) 1 0) ms ns

  pub finals_append : (es fs : List Event) → times g (finals (es ++ fs)) ≡ times g (finals es) + times g (finals fs)
  finals_append [] fs = omega arith
  finals_append (e ∷ es) fs =
      let whole : times g (final_of e ++ finals (es ++ fs)) ≡ times g (final_of e) + times g (finals (es ++ fs)) =
      times_append (final_of e) (finals (es ++ fs)) in
      let front : times g (final_of e ++ finals es) ≡ times g (final_of e) + times g (finals es) =
      times_append (final_of e) (finals es) in
      let more : times g (finals (es ++ fs)) ≡ times g (finals es) + times g (finals fs) = finals_append es fs in
      omega (arith, whole, front, more)

  -- The tally of streams whose generations stay, and of events that tell no last counters

  pub same_tally : (m n : StreamMap) (es : List Event) → HaveSameGenerations m n → tally g n es ≡ tally g m es
  unfolding tally
  same_tally m n es h =
      let live : times g (live_generations n) ≡ times g (live_generations m) = ap (times g) h.live in
      let given : not_given g n.next_generation ≡ not_given g m.next_generation = ap (not_given g) h.next in
      omega (arith, live, given)

  -- with more events it grows by the last counters that they tell
  pub more_told : (m : StreamMap) (es fs : List Event) → tally g m (es ++ fs) ≡ tally g m es + times g (finals fs)
  unfolding tally
  more_told m es fs =
      let all : times g (finals (es ++ fs)) ≡ times g (finals es) + times g (finals fs) = finals_append es fs in
      omega (arith, all)

  pub silent_told : (m : StreamMap) (es fs : List Event) → finals fs ≡ [] → tally g m (es ++ fs) ≡ tally g m es
  silent_told m es fs none =
      let all : tally g m (es ++ fs) ≡ tally g m es + times g (finals fs) = more_told m es fs in
      let no_more : times g (finals fs) ≡ 0 = ap (times g) none in
      omega (arith, all, no_more)

  pub one_told : (m : StreamMap) (es : List Event) (e : Event) → final_of e ≡ []
      → tally g m (es ++ e ∷ []) ≡ tally g m es
  one_told m es e none = silent_told m es (e ∷ []) (ap (λ (ns : List ℕ). ns ++ []) none)

  pub unread_told : (m : StreamMap) (id : ℕ) (es : List Event)
      → tally g m (filter (λ (e : Event). not (is_told_of id e)) es) ≡ tally g m es
  unfolding tally
  unread_told m id es =
      let same : times g (finals (filter (λ (e : Event). not (is_told_of id e)) es)) ≡ times g (finals es) =
      ap (times g) (without_told id es) in
      omega (arith, same)

  -- an event that is taken out was among those that waited
  pub removed_told : (es : List Event) (index : ℕ)
      → times g (finals (remove es index)) + times g (finals (told_by (slice_get es index))) ≡ times g (finals es)
  removed_told [] zero = refl
  removed_told [] (suc index) = refl
  removed_told (e ∷ es) zero =
      let one : times g (final_of e ++ []) ≡ times g (final_of e) + times g [] = times_append (final_of e) [] in
      let all : times g (final_of e ++ finals es) ≡ times g (final_of e) + times g (finals es) =
      times_append (final_of e) (finals es) in
      omega (arith, one, all)
  removed_told (e ∷ es) (suc index) =
      let left : times g (final_of e ++ finals (remove es index))
      ≡ times g (final_of e) + times g (finals (remove es index)) =
      times_append (final_of e) (finals (remove es index)) in
      let all : times g (final_of e ++ finals es) ≡ times g (final_of e) + times g (finals es) =
      times_append (final_of e) (finals es) in
      let on : times g (finals (remove es index)) + times g (finals (told_by (slice_get es index)))
      ≡ times g (finals es) =
      removed_told es index in
      omega (arith, left, all, on)

  pub taken_told : (m : StreamMap) (es : List Event) (index : ℕ)
      → tally g m (remove es index) + times g (finals (told_by (slice_get es index))) ≡ tally g m es
  unfolding tally
  taken_told m es index =
      let all : times g (finals (remove es index)) + times g (finals (told_by (slice_get es index)))
      ≡ times g (finals es) = removed_told es index in
      omega (arith, all)

  -- A stream that is made has the number that was next

  inserted_times : (id : ℕ) (s : StreamView) (es : List (ℕ × StreamView)) → lookup (is_at (nat_cmp id)) es ≡ None
      → times g (generations_in (insert_entry nat_cmp es id s))
      ≡ times g (s.stats.generation ∷ []) + times g (generations_in es)
  inserted_times id s [] none = omega arith
  inserted_times id s (e ∷ es) none = by (nat_cmp id e.0) none (inserted_times id s es)
    where
      by : (o : Ordering) → cond (is_eq o) (Some e.1) (lookup (is_at (nat_cmp id)) es) ≡ None
          → (lookup (is_at (nat_cmp id)) es ≡ None
          → times g (generations_in (insert_entry nat_cmp es id s))
          ≡ times g (s.stats.generation ∷ []) + times g (generations_in es))
          → times g (generations_in (match_ordering o ((id, s) ∷ e ∷ es) ((e.0, s) ∷ es)
          (e ∷ insert_entry nat_cmp es id s)))
          ≡ times g (s.stats.generation ∷ []) + times g (generations_in (e ∷ es))
      by Less apart more = times_cons s.stats.generation (generations_in (e ∷ es))
      by Equal apart more = absurd (true≢false (ap is_some apart))
      by Greater apart more =
          let whole : times g (e.1.stats.generation ∷ generations_in (insert_entry nat_cmp es id s))
          ≡ times g (e.1.stats.generation ∷ []) + times g (generations_in (insert_entry nat_cmp es id s)) =
          times_cons e.1.stats.generation (generations_in (insert_entry nat_cmp es id s)) in
          let before : times g (e.1.stats.generation ∷ generations_in es)
          ≡ times g (e.1.stats.generation ∷ []) + times g (generations_in es) =
          times_cons e.1.stats.generation (generations_in es) in
          let on : times g (generations_in (insert_entry nat_cmp es id s))
          ≡ times g (s.stats.generation ∷ []) + times g (generations_in es) = more apart in
          omega (arith, whole, before, on)

  next_given : (next : ℕ) → not_given g (next + 1) + times g (next ∷ []) ≡ not_given g next
  next_given next = grind (arith, nat_tests)

  pub made_tally : (m : StreamMap) (id first : ℕ) (kind : PayloadProtocolIdentifier) (es : List Event)
      → stream_at m id ≡ None → tally g (made m id first kind) es ≡ tally g m es
  unfolding tally
  made_tally m id first kind es none =
      let next : ℕ = m.next_generation in
      let live : times g (generations_in (insert_entry nat_cmp m.by_id id (fresh_stream id next first kind)))
      ≡ times g (next ∷ []) + times g (generations_in m.by_id) =
      inserted_times id (fresh_stream id next first kind) m.by_id none in
      let given : not_given g (next + 1) + times g (next ∷ []) ≡ not_given g next = next_given next in
      omega (arith, live, given)

  -- The last counters of a stream that ends are told

  removed_times : (id : ℕ) (es : List (ℕ × StreamView))
      → times g (generations_in (remove_entry (is_at (nat_cmp id)) es))
      + times g (generation_of (lookup (is_at (nat_cmp id)) es)) ≡ times g (generations_in es)
  removed_times id [] = refl
  removed_times id (e ∷ es) = by (is_at (nat_cmp id) e.0) (removed_times id es)
    where
      by : (b : Bool)
          → times g (generations_in (remove_entry (is_at (nat_cmp id)) es))
          + times g (generation_of (lookup (is_at (nat_cmp id)) es)) ≡ times g (generations_in es)
          → times g (generations_in (cond b es (e ∷ remove_entry (is_at (nat_cmp id)) es)))
          + times g (generation_of (cond b (Some e.1) (lookup (is_at (nat_cmp id)) es)))
          ≡ times g (generations_in (e ∷ es))
      by true more =
          let all : times g (e.1.stats.generation ∷ generations_in es)
          ≡ times g (e.1.stats.generation ∷ []) + times g (generations_in es) =
          times_cons e.1.stats.generation (generations_in es) in
          omega (arith, all)
      by false more =
          let left : times g (e.1.stats.generation ∷ generations_in (remove_entry (is_at (nat_cmp id)) es))
          ≡ times g (e.1.stats.generation ∷ []) + times g (generations_in (remove_entry (is_at (nat_cmp id)) es)) =
          times_cons e.1.stats.generation (generations_in (remove_entry (is_at (nat_cmp id)) es)) in
          let all : times g (e.1.stats.generation ∷ generations_in es)
          ≡ times g (e.1.stats.generation ∷ []) + times g (generations_in es) =
          times_cons e.1.stats.generation (generations_in es) in
          omega (arith, left, all, more)

  final_times : (o : Option StreamView) (es : List Event)
      → times g (finals (final_told_at o es)) ≡ times g (finals es) + times g (generation_of o)
  final_times None es = omega arith
  final_times (Some s) es = finals_append es (DataChannelStatsFinal s.stats ∷ [])

  pub ended_tally : (m : StreamMap) (id : ℕ) (es : List Event)
      → tally g (without_stream m id) (final_told m id es) ≡ tally g m es
  unfolding tally
  ended_tally m id es =
      let live : times g (generations_in (remove_entry (is_at (nat_cmp id)) m.by_id))
      + times g (generation_of (stream_at m id)) ≡ times g (generations_in m.by_id) = removed_times id m.by_id in
      let told : times g (finals (final_told_at (stream_at m id) es))
      ≡ times g (finals es) + times g (generation_of (stream_at m id)) = final_times (stream_at m id) es in
      omega (arith, live, told)

  -- so are those of all streams

  all_told : (m : StreamMap) (es : List Event)
      → tally g (without_streams m) (es ++ map DataChannelStatsFinal (last_stats m)) ≡ tally g m es
  unfolding tally
  all_told m es =
      let told : times g (finals (es ++ map DataChannelStatsFinal (last_stats m)))
      ≡ times g (finals es) + times g (finals (map DataChannelStatsFinal (last_stats m))) =
      finals_append es (map DataChannelStatsFinal (last_stats m)) in
      let each : times g (finals (map DataChannelStatsFinal (last_stats m))) ≡ times g (generations_in m.by_id) =
      ap (times g) (finals_of_each m.by_id) in
      omega (arith, told, each)

  -- where an association closes
  pub closed_tally : (m : StreamMap) (es : List Event) (reason : AssociationError)
      → tally g (without_streams m) (es ++ map DataChannelStatsFinal (last_stats m) ++ AssociationLost reason ∷ [])
      ≡ tally g m es
  closed_tally m es reason =
      one_told (without_streams m) (es ++ map DataChannelStatsFinal (last_stats m)) (AssociationLost reason) refl
      ∙ all_told m es
