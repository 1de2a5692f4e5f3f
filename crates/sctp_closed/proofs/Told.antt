-- The events that wait, and those that calls tell, tell of an end of none but the streams that resets concern.
use Rattle.std.proofs.Common.{◌≡◌, refl, sym, ap, subst, inl, inr, ℕ, zero, suc, Bool, true, false, List, [], ◌∷◌, ◌++◌}
use Rattle.std.proofs.Common.{map, Option, Some, None, remove, slice_get}
use Rattle.std.specs.Prelude.{⊤}
use Rattle.std.specs.List.{AllByRecursion}
use Rattle.sctp_wire_types.specs.declared.error.Error.{Error}
use Rattle.sctp_wire_types.specs.declared.event.StreamEvent.{StreamEvent}
use Rattle.sctp_wire_types.specs.declared.event.StreamEvent.TheVariants as said
use Rattle.sctp_streams.specs.declared.event.Event.{Event}
use Rattle.sctp_streams.specs.declared.event.Event.TheVariants as events
use Rattle.sctp_streams.specs.declared.stats.DataChannelStats.{DataChannelStats}
use Rattle.sctp_streams.specs.Streams.{StreamMap, last_stats}
use Rattle.sctp_model.proofs.Lists.{all_filter, all_get, all_join}
use Rattle.sctp_resets.specs.Resets.{ResetsView, event_told, event_told_at, with_event}
use Rattle.sctp_resets.specs.Telling.{next_told}
use Rattle.sctp_assoc.specs.Calls.{event_from, fault_told}
use Rattle.sctp_assoc.specs.Shown.{Shown}
use Rattle.sctp_sides.specs.OneSide.{Call, Calls, IsRun, carried_out, told_by}
use Rattle.sctp_closed.specs.Closed.{EndsOnly, SaysEndsOnly}
use Rattle.sctp_closed.proofs.InPackets.{IsOnly}
use Rattle.sctp_closed.proofs.OverCalls.{CallIsOver, called_only, run_worked}
use Rattle.sctp_closed.proofs.Rules.{IsUnended}

-- More streams

says_more : (some more : ℕ → Bool) → ((id : ℕ) → some id ≡ true → more id ≡ true) → (e : StreamEvent)
    → SaysEndsOnly some e → SaysEndsOnly more e
says_more some more grows (said.Opened id) h = tt
says_more some more grows (said.Readable id) h = tt
says_more some more grows (said.Writable id) h = tt
says_more some more grows (said.Finished id) h = grows id h
says_more some more grows (said.ResetComplete id) h = grows id h
says_more some more grows (said.ResetFailed id reason) h = grows id h
says_more some more grows (said.Stopped id code) h = tt
says_more some more grows (said.BufferedAmountLow id) h = tt
says_more some more grows (said.BufferedAmountHigh id) h = tt
says_more some more grows said.Available h = tt

pub ends_more : (some more : ℕ → Bool) → ((id : ℕ) → some id ≡ true → more id ≡ true) → (e : Event)
    → EndsOnly some e → EndsOnly more e
ends_more some more grows events.Connected h = tt
ends_more some more grows (events.HandshakeFailed reason) h = tt
ends_more some more grows (events.AssociationLost reason) h = tt
ends_more some more grows (events.Stream e) h = says_more some more grows e h
ends_more some more grows (events.DataChannelStatsFinal stats) h = tt
ends_more some more grows events.DatagramReceived h = tt

-- where each stream is one of these, each event tells of an end of none but these

says_any : (over : ℕ → Bool) → ((id : ℕ) → over id ≡ true) → (e : StreamEvent) → SaysEndsOnly over e
says_any over each (said.Opened id) = tt
says_any over each (said.Readable id) = tt
says_any over each (said.Writable id) = tt
says_any over each (said.Finished id) = each id
says_any over each (said.ResetComplete id) = each id
says_any over each (said.ResetFailed id reason) = each id
says_any over each (said.Stopped id code) = tt
says_any over each (said.BufferedAmountLow id) = tt
says_any over each (said.BufferedAmountHigh id) = tt
says_any over each said.Available = tt

ends_any : (over : ℕ → Bool) → ((id : ℕ) → over id ≡ true) → (e : Event) → EndsOnly over e
ends_any over each events.Connected = tt
ends_any over each (events.HandshakeFailed reason) = tt
ends_any over each (events.AssociationLost reason) = tt
ends_any over each (events.Stream e) = says_any over each e
ends_any over each (events.DataChannelStatsFinal stats) = tt
ends_any over each events.DatagramReceived = tt

pub all_end_any : (over : ℕ → Bool) → ((id : ℕ) → over id ≡ true) → (es : List Event)
    → AllByRecursion (EndsOnly over) es
all_end_any over each [] = tt
all_end_any over each (e ∷ es) = (ends_any over each e, all_end_any over each es)

-- What is so of the events that wait

module _ (over : ℕ → Bool) where
  abbrev pub TellsOnly : Bool → StreamMap → List Event → Type 0
  TellsOnly lost m es = AllByRecursion (EndsOnly over) es

  all_left : (es : List Event) (index : ℕ) → AllByRecursion (EndsOnly over) es
      → AllByRecursion (EndsOnly over) (remove es index)
  all_left [] zero each = tt
  all_left [] (suc index) each = tt
  all_left (e ∷ es) zero each = each.1
  all_left (e ∷ es) (suc index) each = (each.0, all_left es index each.1)

  -- last counters tell of no such end
  finals_end_none : (stats : List DataChannelStats)
      → AllByRecursion (EndsOnly over) (map events.DataChannelStatsFinal stats)
  finals_end_none [] = tt
  finals_end_none (s ∷ ss) = (tt, finals_end_none ss)

  pub tells_only_is_kept : IsUnended over TellsOnly
  tells_only_is_kept = record {
    says = λ lost m es more each h. all_join (EndsOnly over) es more h each;
    untells = λ lost m es id h. all_filter (EndsOnly over) _ es h;
    gives = λ lost m es index h. all_left es index h;
    changes = λ lost m es change id mild h. h;
    reads = λ lost m es id h. h;
    pushes = λ lost m es id piece h. h;
    passes = λ lost m es tsn h. h;
    makes = λ lost m es id first kind none h. h;
    ends = λ lost m es id one h. h;
    closes = λ lost m es reason h.
        all_join (EndsOnly over) (es ++ map events.DataChannelStatsFinal (last_stats m))
        (events.AssociationLost reason ∷ [])
        (all_join (EndsOnly over) es (map events.DataChannelStatsFinal (last_stats m)) h
        (finals_end_none (last_stats m))) (tt, tt);
  }

  -- What calls tell

  abbrev EndsOnlyIf : Option Event → Type 0
  EndsOnlyIf None = ⊤
  EndsOnlyIf (Some e) = EndsOnly over e

  given_ends : (r : ResetsView) (told : List Event) → AllByRecursion (EndsOnly over) told
      → EndsOnlyIf (event_told r told).2
  given_ends r told each = by (next_told r.generations r.debts told)
    where
      given : (index : ℕ) (o : Option Event) → slice_get told index ≡ o
          → EndsOnlyIf (with_event o r (remove told index)).2
      given index None there = tt
      given index (Some e) there = all_get (EndsOnly over) told index e there each

      by : (o : Option ℕ) → EndsOnlyIf (event_told_at o r told).2
      by None = tt
      by (Some index) = given index (slice_get told index) refl

  fault_ends_none : (o : Option Error) → AllByRecursion (EndsOnly over) (told_by (fault_told o))
  fault_ends_none None = tt
  fault_ends_none (Some fault) = (tt, tt)

  from_ends : (x : ResetsView × List Event × Option Event) (a : Shown) → EndsOnlyIf x.2
      → AllByRecursion (EndsOnly over) (told_by (event_from x a).1)
  from_ends (r, left, None) a one = fault_ends_none a.handshake_fault
  from_ends (r, left, Some e) a one = (one, tt)

  pub carried_tells : (call : Call) (a : Shown) → AllByRecursion (EndsOnly over) a.events
      → AllByRecursion (EndsOnly over) (carried_out call a).1
  carried_tells Call.Poll a each =
      from_ends (event_told a.resets a.events) a (given_ends a.resets a.events each)
  carried_tells (Call.OpenStream id kind) a each = tt
  carried_tells (Call.Write id named bytes) a each = tt
  carried_tells (Call.Set id setting) a each = tt
  carried_tells Call.AcceptStream a each = tt
  carried_tells (Call.SetMaxSendMessageSize size) a each = tt
  carried_tells Call.Shutdown a each = tt
  carried_tells Call.Close a each = tt
  carried_tells (Call.Read id) a each = tt
  carried_tells Call.PollEndpointEvent a each = tt
  carried_tells (Call.PollTransmit now) a each = tt
  carried_tells (Call.HandleTimeout now) a each = tt
  carried_tells (Call.HandleEvent packet now) a each = tt
  carried_tells (Call.Stop id) a each = tt
  carried_tells (Call.CloseStream id) a each = tt

  called_tells : (call : Call) (told : List Event) (a b : Shown) → Calls call told a b
      → AllByRecursion (EndsOnly over) a.events → AllByRecursion (EndsOnly over) told
  called_tells call told a b (inl c) each =
      subst (AllByRecursion (EndsOnly over)) (ap (λ (x : Shown × List Event). x.1) c.there)
      (carried_tells call a each)
  called_tells call told a b (inr (inl c)) each = subst (AllByRecursion (EndsOnly over)) (sym c.silent) tt
  called_tells call told a b (inr (inr c)) each = subst (AllByRecursion (EndsOnly over)) (sym c.silent) tt

  pub list_tells : (calls : List Call) (told : List Event) (a b : Shown) → AllByRecursion (CallIsOver over) calls
      → IsRun calls told a b → b.failed ≡ false → IsOnly over TellsOnly a → AllByRecursion (EndsOnly over) told
  list_tells [] told a b calls_over run works h = subst (AllByRecursion (EndsOnly over)) (sym run.silent) tt
  list_tells (call ∷ calls) told a b calls_over run works h =
      subst (AllByRecursion (EndsOnly over)) (sym run.in_order)
      (all_join (EndsOnly over) run.first run.later
      (called_tells call run.first a run.middle run.called h.side)
      (list_tells calls run.later run.middle b calls_over.1 run.others works
      (called_only over TellsOnly tells_only_is_kept call run.first a run.middle run.called calls_over.0
      (run_worked calls run.later run.middle b run.others works) h)))
