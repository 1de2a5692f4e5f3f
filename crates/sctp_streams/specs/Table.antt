-- How the live streams lie in their table. No public clause cites this module.
use Rattle.std.specs.Prelude.{◌≡◌, ◌<◌, ◌≤◌, ℕ, List, [], ◌∷◌, ◌++◌, Option, Some, None, ◌+◌, ◌/◌, ◌%◌, length}
use Rattle.std.specs.Prelude.{slice_get, slice_set, min, ◌-◌, ◌^◌}
use Rattle.std.specs.List.{AllByRecursion}
use Rattle.std.specs.Option.{unwrap_or}
use Rattle.sctp_receive_queues.specs.Reassembly.{bytes_waiting}
use Rattle.sctp_streams.specs.Stream.{StreamView}
use Rattle.sctp_streams.specs.declared.table.Slot.{Slot}
use Rattle.sctp_streams.specs.declared.table.Slot.TheVariants.{Free, Held}

-- the stream that a slot holds
abbrev pub stream_of : Slot → Option StreamView
stream_of Free = None
stream_of (Held b) = Some b.value

-- a slot with this stream in place of the one that it holds; a free one stays free
abbrev pub holding : Slot → StreamView → Slot
holding Free s = Free
holding (Held b) s = Held (record b { value = s })

-- the stream at a place of a page
abbrev pub slot_at : List (Option StreamView) → ℕ → Option StreamView
slot_at slots place = unwrap_or (slice_get slots place) None

-- the page at an index; one past the last has no place
abbrev pub page_at : List (List (Option StreamView)) → ℕ → List (Option StreamView)
page_at pages index = unwrap_or (slice_get pages index) []

-- the stream of an identifier
abbrev pub stream_in : List (List (Option StreamView)) → ℕ → Option StreamView
stream_in pages id = slot_at (page_at pages (id / 256)) (id % 256)

-- the place of an identifier holds this
abbrev pub with_slot : List (List (Option StreamView)) → ℕ → Option StreamView → List (List (Option StreamView))
with_slot pages id s = slice_set pages (id / 256) (slice_set (page_at pages (id / 256)) (id % 256) s)

-- an identifier has a place
pub record HasRoom (pages : List (List (Option StreamView))) (id : ℕ) : Type 0 where
  pub page : id / 256 < length pages
  pub place : id % 256 < length (page_at pages (id / 256))

-- no page has a place for more than the identifiers that differ in their low byte alone
abbrev pub AreSmall : List (List (Option StreamView)) → Type 0
AreSmall pages = AllByRecursion (λ (p : List (Option StreamView)). length p ≤ 256) pages

-- pages for the identifiers of streams, of 16 bits
pub record IsTable (pages : List (List (Option StreamView))) : Type 0 where
  pub small : AreSmall pages
  pub few : length pages ≤ 256

-- what a place holds, under its identifier
abbrev pub entry : ℕ → Option StreamView → List (ℕ × StreamView)
entry id None = []
entry id (Some s) = (id, s) ∷ []

-- the streams of places, by their identifiers, of which the first place has this one
abbrev pub entries_of : ℕ → List (Option StreamView) → List (ℕ × StreamView)
entries_of id [] = []
entries_of id (None ∷ slots) = entries_of (id + 1) slots
entries_of id (Some s ∷ slots) = (id, s) ∷ entries_of (id + 1) slots

-- places hold the same streams under the same identifiers as others, whatever the first one's identifier is
abbrev pub IsAsBefore : List (Option StreamView) → List (Option StreamView) → Type 0
IsAsBefore old new = (id : ℕ) → entries_of id new ≡ entries_of id old

-- the streams of pages, by their identifiers, of which the first page begins with this one
abbrev pub entries_from : ℕ → List (List (Option StreamView)) → List (ℕ × StreamView)
entries_from id [] = []
entries_from id (p ∷ ps) = entries_of id p ++ entries_from (id + 256) ps

abbrev pub entries_in : List (List (Option StreamView)) → List (ℕ × StreamView)
entries_in pages = entries_from 0 pages

-- a sum with the bytes that wait on the stream at a place, at most the greatest number of 64 bits
abbrev pub added_waiting : ℕ → Option StreamView → ℕ
added_waiting sum None = sum
added_waiting sum (Some s) = min (sum + bytes_waiting s.reassembly) (2 ^ 64 - 1)
