-- The streams of which DATA waits that is past their newest boundary.
use Rattle.std.specs.Prelude.{◌≡◌, ℕ, Bool, List}
use Rattle.std.specs.BTreeSet.{BTreeSet, contains}
use Rattle.std.specs.Ordering.{nat_cmp}
use Rattle.sctp_wire_types.specs.declared.chunk.ChunkPayloadData.{ChunkPayloadData}
use Rattle.sctp_generations.specs.Deferred.{has_between, is_between}
use Rattle.sctp_generations.specs.Retiring.{RetiringMap, newest_boundary}

-- DATA that is past the newest boundary of its own stream and at or below a TSN
abbrev pub is_later : RetiringMap → ℕ → ChunkPayloadData → Bool
is_later m upto d = is_between d.stream_identifier (newest_boundary m d.stream_identifier) upto d

-- such DATA of a stream waits
abbrev pub has_later : RetiringMap → ℕ → List ChunkPayloadData → ℕ → Bool
has_later m upto ds id = has_between id (newest_boundary m id) upto ds

-- a set has the streams of which such DATA waits, and no others
abbrev pub AreWithLater : RetiringMap → ℕ → List ChunkPayloadData → BTreeSet ℕ → Type 0
AreWithLater m upto ds ids = (id : ℕ) → contains nat_cmp ids id ≡ has_later m upto ds id
