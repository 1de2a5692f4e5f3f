-- The runs that go on over the unordered pieces of the streams.
use Rattle.std.specs.Prelude.{◌≡◌, ℕ, Bool, ◌==◌, ◌&&◌, ◌||◌, not, if◌then◌else◌, List, [], Option, Some, None, false}
use Rattle.std.specs.Ordering.{nat_cmp}
use Rattle.std.specs.BTreeMap.{is_at}
use Rattle.std.specs.List.{list_any}
use Rattle.std.specs.Map.{lookup}
use Rattle.sctp_wire_types.specs.declared.chunk.ChunkPayloadData.{ChunkPayloadData}
use Rattle.sctp_generations.specs.declared.whole.Run.{Run}
use Rattle.sctp_generations.specs.declared.whole.Run.TheVariants as run
use Rattle.sctp_generations.specs.Whole.{run_with, run_over, run_over_beside, run_walked}

-- Of a stream: the next TSN of the run that goes on, if one does; its TSNs behind the last ending fragment; and the
-- TSNs of all whole messages.
pub record StreamRuns : Type 0 where
  pub next : Option ℕ
  pub undecided : List ℕ
  pub whole : List ℕ

abbrev pub has_tsn : ℕ → List ℕ → Bool
has_tsn tsn tsns = list_any (is_at (nat_cmp tsn)) tsns

abbrev pub going_on : Bool → Option ℕ → Run
going_on holds None = run.Outside
going_on holds (Some next) = run.Next next holds

-- how far the walk came that looks for the message of a TSN
abbrev pub run_at : StreamRuns → ℕ → Run
run_at r tsn = if has_tsn tsn r.whole then run.Whole else going_on (has_tsn tsn r.undecided) r.next

-- the run breaks: what was not ended is not whole
abbrev pub broken : StreamRuns → StreamRuns
broken r = record r { next = None; undecided = [] }

abbrev pub follows : Option ℕ → ℕ → Bool
follows None tsn = false
follows (Some next) tsn = tsn == next

-- DATA goes on with the run
abbrev pub run_has_next : StreamRuns → ChunkPayloadData → Bool
run_has_next r d = not d.beginning_fragment && follows r.next d.tsn

-- a piece comes to the run, for each TSN that is looked for
abbrev pub TakeIn : ChunkPayloadData → StreamRuns → StreamRuns → Type 0
TakeIn d r taken =
    (tsn : ℕ) → run_at taken tsn
    ≡ if has_tsn tsn r.whole then run.Whole else run_with (has_tsn tsn r.undecided || d.tsn == tsn) d

-- the walk comes over one more piece of the stream, for each TSN that is looked for
abbrev pub RunOver : ChunkPayloadData → StreamRuns → StreamRuns → Type 0
RunOver d r over = (tsn : ℕ) → run_at over tsn ≡ run_over tsn (run_at r tsn) d

-- a set of TSNs has those of a list too
abbrev pub Settles : List ℕ → List ℕ → List ℕ → Type 0
Settles added tsns grown = (tsn : ℕ) → has_tsn tsn grown ≡ (has_tsn tsn tsns || has_tsn tsn added)

abbrev pub run_in_stream : Option StreamRuns → ℕ → Run
run_in_stream None tsn = run.Outside
run_in_stream (Some r) tsn = run_at r tsn

-- how far the walk came that looks for the message of a piece
abbrev pub run_in : List (ℕ × StreamRuns) → ChunkPayloadData → Run
run_in runs of = run_in_stream (lookup (is_at (nat_cmp of.stream_identifier)) runs) of.tsn

-- they tell of each piece how far a walk over all DATA comes
abbrev pub AreRuns : List ChunkPayloadData → List (ℕ × StreamRuns) → Type 0
AreRuns ds runs = (of : ChunkPayloadData) → run_in runs of ≡ run_walked ds of

-- each of them comes over one more piece
abbrev pub RunsGoOver : ChunkPayloadData → List (ℕ × StreamRuns) → List (ℕ × StreamRuns) → Type 0
RunsGoOver d runs over = (of : ChunkPayloadData) → run_in over of ≡ run_over_beside of (run_in runs of) d
