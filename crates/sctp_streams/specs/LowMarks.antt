-- The streams whose buffered amount falls to their low mark while bytes are released.
use Rattle.std.specs.Prelude.{◌≡◌, ◌⊎◌, ℕ, ◌<◌, ◌≤◌, ◌&&◌, Bool, true, false, List, [], ◌∷◌, ◌++◌, length, map}
use Rattle.std.specs.Prelude.{nat_le, nat_lt, Option, Some, None, ⊤, if◌then◌else◌}
use Rattle.std.specs.BTreeSet.{insert_key}
use Rattle.std.specs.List.{filter}
use Rattle.std.specs.List.Sorted.{IsStrictlySortedBy}
use Rattle.std.specs.Ordering.{nat_cmp}
use Rattle.sctp_wire_types.specs.declared.event.StreamEvent.TheVariants.{BufferedAmountLow}
use Rattle.sctp_streams.specs.declared.event.Event.{Event}
use Rattle.sctp_streams.specs.declared.event.Event.TheVariants as events
use Rattle.sctp_streams.specs.Stream.{StreamView}
use Rattle.sctp_streams.specs.Streams.{StreamMap, falls_to_low_mark_in, live_ids, stream_at}

-- a stream's buffered amount was above its low mark before, and is at that mark or below it now
abbrev pub has_fallen : Option StreamView → Option StreamView → Bool
has_fallen None now = false
has_fallen (Some s) None = false
has_fallen (Some s) (Some t) = nat_lt s.low_mark s.buffered && nat_le t.buffered s.low_mark

-- the identifiers, which ascend, of the streams of which that holds, of those that were live before
unfoldable pub fallen : StreamMap → StreamMap → List ℕ
fallen before now = filter (λ i. has_fallen (stream_at before i) (stream_at now i)) (live_ids before)

abbrev pub low_event : ℕ → Event
low_event id = events.Stream (BufferedAmountLow id)

-- what is told of them: BufferedAmountLow once for each
abbrev pub low_told : StreamMap → StreamMap → List Event
low_told before now = map low_event (fallen before now)

-- Streams that are gathered to be told of, in the order in which they fell.
pub record FallenView : Type 0 where
  pub ids : List ℕ
  -- memory was refused for one of them
  pub refused : Bool

-- one identifier, if there is one, in front of others
abbrev pub ids_behind : Option ℕ → List ℕ → List ℕ
ids_behind None ids = ids
ids_behind (Some id) ids = id ∷ ids

-- identifiers that ascend, and more of them, each at its place
abbrev pub ascending_with : List ℕ → List ℕ → List ℕ
ascending_with ids [] = ids
ascending_with ids (id ∷ more) = ascending_with (insert_key nat_cmp ids id) more

-- identifiers, each once, ascending
abbrev pub ascending : List ℕ → List ℕ
ascending ids = ascending_with [] ids

abbrev pub none_fallen : FallenView
none_fallen = record { ids = []; refused = false }

-- a stream is live now as before, under the same low mark, and no more is buffered
abbrev pub HasNoMore : Option StreamView → Option StreamView → Type 0
HasNoMore None None = ⊤
HasNoMore None (Some t) = ⊥
HasNoMore (Some s) None = ⊥
HasNoMore (Some s) (Some t) = (t.low_mark ≡ s.low_mark) × (t.buffered ≤ s.buffered)

-- Since then bytes were released at most, and the streams that fell to their low mark are those gathered, in whatever
-- order they fell; where memory was refused there is one.
pub record IsGathered (before now : StreamMap) (f : FallenView) : Type 0 where
  pub sorted : IsStrictlySortedBy nat_cmp (live_ids before)
  pub released : (i : ℕ) → HasNoMore (stream_at before i) (stream_at now i)
  pub whole : f.refused ≡ false → ascending f.ids ≡ fallen before now
  pub some : f.refused ≡ true → 0 < length (fallen before now)

-- what was gathered since some moment, of the streams that one goes on with, stays so
unfoldable pub Gathers : StreamMap → FallenView → StreamMap → FallenView → Type 0
Gathers m f n g = (before : StreamMap) → IsGathered before m f → IsGathered before n g

-- the stream of which bytes of a generation are released, where that takes it to its low mark
abbrev pub falls_in : StreamMap → ℕ → ℕ → ℕ → List ℕ
falls_in m id generation bytes = if falls_to_low_mark_in m id generation bytes then id ∷ [] else []

-- Behind what was gathered before these streams fell, in this order; where memory was refused since then there is one.
pub record AreGathered (ids : List ℕ) (f g : FallenView) : Type 0 where
  pub whole : g.refused ≡ false → (f.refused ≡ false) × (g.ids ≡ f.ids ++ ids)
  pub some : g.refused ≡ true → (f.refused ≡ true) ⊎ (0 < length ids)
