-- What a place, a page and a table of streams end as, where a stream of theirs was lent. No public clause cites this
-- module.
use Rattle.std.specs.Prelude.{ℕ, List, Option, Some, slice_set}
use Rattle.std.specs.Borrow.{Fml, Lends, LendsIf, MutBor}
use Rattle.std.specs.BTreeMap.{is_at}
use Rattle.std.specs.Map.{set_value}
use Rattle.std.specs.Ordering.{nat_cmp}
use Rattle.sctp_streams.specs.Stream.{StreamView}
use Rattle.sctp_streams.specs.Table.{holding}
use Rattle.sctp_streams.specs.declared.table.Slot.{Slot}
use Rattle.sctp_streams.specs.contracts.table.Slot as slot
use Rattle.sctp_streams.specs.contracts.table.Page as page
use Rattle.sctp_streams.specs.contracts.table.StreamTable as table
use Rattle.sctp_streams.specs.contracts.stream_state.StreamState as stream

-- what a borrower of its stream leaves stands in the slot
abbrev pub LendsHeld : MutBor Slot → MutBor StreamView → Fml
LendsHeld s r = Lends slot.the_row stream.the_row s r (holding s.now)

-- it stands at that place of the page
abbrev pub LendsAt : MutBor (List (Option StreamView)) → ℕ → MutBor StreamView → Fml
LendsAt s place r = Lends page.the_row stream.the_row s r (λ w. slice_set s.now place (Some w))

-- it stands under that identifier in the table
abbrev pub LendsFound : MutBor (List (ℕ × StreamView)) → ℕ → MutBor StreamView → Fml
LendsFound s id r = Lends table.the_row stream.the_row s r (set_value (is_at (nat_cmp id)) s.now)

-- it stands there where a stream was lent; else the table is as it was
abbrev pub LendsIfFound : MutBor (List (ℕ × StreamView)) → ℕ → Option (MutBor StreamView) → Fml
LendsIfFound s id r = LendsIf table.the_row stream.the_row s r (set_value (is_at (nat_cmp id)) s.now) s.now
