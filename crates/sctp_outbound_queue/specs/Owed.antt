-- SSNs that are to be lowered yet: where an ordered message is dropped, later ones of its stream and generation move
-- down by one SSN.
use Rattle.std.specs.Prelude.{ℕ, Bool, List, ◌++◌, ◌+◌, ◌-◌, ◌%◌, ◌^◌, ◌==◌, ◌&&◌, not, if◌then◌else◌, map, take, drop}
use Rattle.std.specs.declared.cmp.Ordering.{Ordering}
use Rattle.std.specs.Ordering.{nat_cmp, ordering_then}
use Rattle.std.specs.BTreeMap.{is_at}
use Rattle.std.specs.Map.{lookup}
use Rattle.std.specs.Option.{unwrap_or}
use Rattle.sctp_outbound_queue.specs.declared.message.Attributes.{Attributes}
use Rattle.sctp_outbound_queue.specs.Waiting.{Waiting}

-- streams and generations of them, each with the number of ordered messages that were dropped
abbrev pub Counts : Type 0
Counts = List ((ℕ × ℕ) × ℕ)

-- by stream, then by generation
abbrev pub generation_cmp : ℕ × ℕ → ℕ × ℕ → Ordering
generation_cmp x y = ordering_then (nat_cmp x.0 y.0) (nat_cmp x.1 y.1)

-- the number of a generation of a stream
abbrev pub count_of : Counts → ℕ × ℕ → ℕ
count_of counts key = unwrap_or (lookup (is_at (generation_cmp key)) counts) 0

-- by how much the SSN of a message is to be lowered: an unordered one has none
abbrev pub owed_to : Counts → Attributes → ℕ
owed_to counts a = if a.unordered then 0 else count_of counts (a.stream_identifier, a.generation)

-- an SSN lowered by so many, modulo 2^16
abbrev pub lowered_ssn : ℕ → ℕ → ℕ
lowered_ssn n ssn = if n == 0 then ssn else (ssn + 2 ^ 16 - n) % 2 ^ 16

-- a message with its SSN lowered by so many
abbrev pub lowered_by : ℕ → Waiting → Waiting
lowered_by n m = record m {
  message =
      (let a = m.message in record a { stream_sequence_number = lowered_ssn n a.stream_sequence_number });
}

-- an ordered message of this generation of a stream
abbrev pub has_ssn_of : ℕ → ℕ → Attributes → Bool
has_ssn_of stream generation a =
    not a.unordered && a.stream_identifier == stream && a.generation == generation

-- one of this generation of a stream is lowered by so many
abbrev pub lowered_in : ℕ → ℕ → ℕ → Waiting → Waiting
lowered_in stream generation n m = if has_ssn_of stream generation m.message then lowered_by n m else m

-- a message with the SSN that it truly has
abbrev pub lowered : Counts → Waiting → Waiting
lowered counts m = lowered_by (owed_to counts m.message) m

-- messages with the SSNs that they truly have, of which the first so many have them already
abbrev pub as_they_are : ℕ → Counts → List Waiting → List Waiting
as_they_are settled counts ms = take settled ms ++ map (lowered counts) (drop settled ms)

-- messages of which behind the first so many some places are empty
abbrev pub standing : ℕ → ℕ → List Waiting → List Waiting
standing settled dead ms = take settled ms ++ drop (settled + dead) ms
