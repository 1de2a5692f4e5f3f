-- What the application is still to be told of resets of streams, and which of them failed (RFC 8831 section 6.7).
use Rattle.std.specs.Prelude.{ℕ, Bool, ◌+◌, ◌-◌, ◌^◌, ◌==◌, ◌&&◌, ◌||◌, if◌then◌else◌, nat_lt, min, List, []}
use Rattle.std.specs.Prelude.{Option, Some, None}
use Rattle.std.specs.BTreeMap.{insert_entry, is_at}
use Rattle.std.specs.BTreeSet.{insert_key}
use Rattle.std.specs.Map.{lookup, remove_entry, set_value}
use Rattle.std.specs.Option.{unwrap_or}
use Rattle.std.specs.Ordering.{nat_cmp}
use Rattle.std.specs.Set.{remove_key}
use Rattle.sctp_reset_requests.specs.declared.debts.Debt.{Debt}
use Rattle.sctp_reset_requests.specs.Ids.{has_id}

pub record DebtsView : Type 0 where
  -- for each stream of which something is open, identifiers ascending, what that is
  pub by_id : List (ℕ × Debt)
  -- the streams whose last reset failed, ascending
  pub failed : List ℕ

abbrev pub no_debt : DebtsView
no_debt = record { by_id = []; failed = [] }

-- nothing is open of a stream
abbrev pub nothing_open : Debt
nothing_open = record { owed = 0; untold = 0; told = 0 }

abbrev pub entry_at : DebtsView → ℕ → Option Debt
entry_at d id = lookup (is_at (nat_cmp id)) d.by_id

-- what is open of a stream
abbrev pub open_at : DebtsView → ℕ → Debt
open_at d id = unwrap_or (entry_at d id) nothing_open

-- an end of a reset is owed for the stream
abbrev pub is_owed : DebtsView → ℕ → Bool
is_owed d id = nat_lt 0 (open_at d id).owed

-- an end of a reset is owed for the stream, or its last reset failed: it is not used
abbrev pub bars : DebtsView → ℕ → Bool
bars d id = is_owed d id || has_id id d.failed

-- Finished of the stream was given to the application, and the end of that reset was not
abbrev pub awaits_end : DebtsView → ℕ → Bool
awaits_end d id = nat_lt 0 (open_at d id).told

-- the peer ended the stream: one end more is owed, and one event Finished more is to be given
abbrev pub one_more : Debt → Debt
one_more t = record t { owed = t.owed + 1; untold = t.untold + 1 }

-- the application is to be told that the peer ended the stream
abbrev pub owing : DebtsView → ℕ → DebtsView
owing d id = record d { by_id = insert_entry nat_cmp d.by_id id (one_more (open_at d id)) }

abbrev pub is_nothing : Debt → Bool
is_nothing t = t.owed == 0 && t.untold == 0 && t.told == 0

abbrev pub written_from : Option Debt → DebtsView → ℕ → Debt → DebtsView
written_from None d id t = d
written_from (Some before) d id t = record d { by_id = set_value (is_at (nat_cmp id)) d.by_id t }

-- of a stream with an entry this is open now; where that is nothing, its entry goes
abbrev pub put_from : Option Debt → DebtsView → ℕ → Debt → DebtsView
put_from entry d id t =
    if is_nothing t then record d { by_id = remove_entry (is_at (nat_cmp id)) d.by_id }
    else written_from entry d id t

abbrev pub changed_from : Option Debt → DebtsView → ℕ → (Debt → Debt) → DebtsView
changed_from None d id change = d
changed_from (Some t) d id change = put_from (Some t) d id (change t)

-- what is open of a stream changes; where nothing is, nothing does
abbrev pub changed : DebtsView → ℕ → (Debt → Debt) → DebtsView
changed d id change = changed_from (entry_at d id) d id change

abbrev pub one_end_less : Debt → Debt
one_end_less t = record t { owed = t.owed - 1 }

-- one end less is owed
abbrev pub paid : DebtsView → ℕ → DebtsView
paid d id = changed d id one_end_less

-- a count stays at the greatest number of 64 bits
abbrev pub one_given : Debt → Debt
one_given t = record t { untold = t.untold - 1; told = min (t.told + 1) (2 ^ 64 - 1) }

-- Finished of the stream is given to the application
abbrev pub told_of : DebtsView → ℕ → DebtsView
told_of d id = changed d id one_given

abbrev pub one_end_given : Debt → Debt
one_end_given t = record t { told = t.told - 1 }

-- the end of a reset of the stream is given to the application
abbrev pub end_told_of : DebtsView → ℕ → DebtsView
end_told_of d id = changed d id one_end_given

abbrev pub healed : DebtsView → ℕ → DebtsView
healed d id = record d { failed = remove_key (is_at (nat_cmp id)) d.failed }

-- a reset of the stream succeeded; whether the application is to be told
abbrev pub settled : DebtsView → ℕ → DebtsView × Bool
settled d id = (healed (paid d id) id, is_owed d id)

abbrev pub marked_failed : DebtsView → ℕ → DebtsView
marked_failed d id = record d { failed = insert_key nat_cmp d.failed id }

-- a reset of the stream failed, of which the application is told
abbrev pub failed_at : DebtsView → ℕ → DebtsView
failed_at d id = paid (marked_failed d id) id
