-- The identifiers of the live streams ascend over every list of calls, and the counters of each stream name it.
use Rattle.std.proofs.Common.{◌≡◌, refl, sym, ap, ◌∙◌, subst, ⊎_elim, inl, inr, ℕ, Bool, true, false, cond}
use Rattle.std.proofs.Common.{List, [], ◌∷◌, Option, Some, None, is_some}
use Rattle.std.proofs.Common.{Ordering, Less, Equal, Greater, nat_cmp}
use Rattle.std.specs.List.{AllByRecursion}
use Rattle.std.specs.Ordering.{is_eq}
use Rattle.std.specs.BTreeMap.{is_at}
use Rattle.std.specs.Map.{lookup, set_value}
use Rattle.std.proofs.lemmas.Bool.{cases_Bool, false≢true}
use Rattle.std.proofs.lemmas.Cmp.{ranked}
use Rattle.sctp_wire_types.specs.declared.ids.PayloadProtocolIdentifier.{PayloadProtocolIdentifier}
use Rattle.sctp_streams.specs.declared.event.AssociationError.TheVariants as reasons
use Rattle.sctp_streams.specs.declared.event.Event.{Event}
use Rattle.sctp_streams.specs.declared.setting.Setting.TheVariants as settings
use Rattle.sctp_streams.specs.Stream.{StreamView, fresh_stream}
use Rattle.sctp_streams.specs.Streams.{StreamMap, change_at, changed_stream, made, passed_each, passed_in, stream_at}
use Rattle.sctp_streams.specs.Streams.{without_stream}
use Rattle.sctp_assoc.specs.Calls.{adjusted}
use Rattle.sctp_assoc.specs.Handshake.{sends_init}
use Rattle.sctp_assoc.specs.Shown.{Shown}
use Rattle.sctp_assoc.specs.Shutdown.{endpoint_event_polled, shutdown_begun}
use Rattle.sctp_sides.specs.OneSide.{Call, Calls, IsRun, carried_out}
use Rattle.sctp_sides.proofs.FirstBegunRuns.{carried_out_fails}
use Rattle.sctp_sides.proofs.TimersOverRuns.{accepted_works}
use Rattle.sctp_sides.specs.Ascending.{CreatedStreamsAscend, IsNamed, JoinedStreamsAscend}
use Rattle.sctp_sides.specs.Ascending.{RunsKeepStreamsAscending, StreamsAscend}
use Rattle.sctp_sides.proofs.AscendingInCalls.{accepted_kept, adjusted_kept, event_told_kept, limited_kept}
use Rattle.sctp_sides.proofs.AscendingInCalls.{opened_kept, read_kept, stopped_kept, written_kept}
use Rattle.sctp_sides.proofs.AscendingInChunks.{packet_kept}
use Rattle.sctp_sides.proofs.AscendingInPolls.{polled_kept, timeouts_kept}
use Rattle.sctp_sides.proofs.AscendingLists.{AreAbove, Rises, ascending_rises, entries_with_entry}
use Rattle.sctp_sides.proofs.AscendingLists.{entries_without, rises_ascending, rises_with_entry}
use Rattle.sctp_sides.proofs.AscendingLists.{rises_with_value, rises_without}
use Rattle.sctp_sides.proofs.AscendingSteps.{IsKept, Keeps, closed_kept, name_of, same_kept, then_kept}

-- Each change of streams keeps that they ascend

-- each stream has the identifier that its counters name
abbrev AreNamed : List (ℕ × StreamView) → Type 0
AreNamed es = AllByRecursion IsNamed es

abbrev Stands : StreamMap → Type 0
Stands m = Rises m.by_id × AreNamed m.by_id

-- an entry that is found has the identifier that is looked for
found_at : (id x : ℕ) → is_at (nat_cmp id) x ≡ true → id ≡ x
found_at id x e = by (nat_cmp id x) refl e
  where
    by : (o : Ordering) → o ≡ nat_cmp id x → is_eq o ≡ true → id ≡ x
    by Less from e = absurd (false≢true e)
    by Equal from e = ranked id x Equal from
    by Greater from e = absurd (false≢true e)

found_named : (id : ℕ) (es : List (ℕ × StreamView)) (s : StreamView) → AreNamed es
    → lookup (is_at (nat_cmp id)) es ≡ Some s → name_of s ≡ id
found_named id [] s each there = absurd (false≢true (ap is_some there))
found_named id (e ∷ es) s each there =
    by (is_at (nat_cmp id) e.0) refl there (found_named id es s each.1)
  where
    by : (b : Bool) → is_at (nat_cmp id) e.0 ≡ b → cond b (Some e.1) (lookup (is_at (nat_cmp id)) es) ≡ Some s
        → (lookup (is_at (nat_cmp id)) es ≡ Some s → name_of s ≡ id) → name_of s ≡ id
    by true here first more =
        let stream : s ≡ e.1 = cc in
        ap name_of stream ∙ each.0 ∙ sym (found_at id e.0 here)
    by false here later more = more later

set_named : (id : ℕ) (es : List (ℕ × StreamView)) (t : StreamView) → AreNamed es → name_of t ≡ id
    → AreNamed (set_value (is_at (nat_cmp id)) es t)
set_named id [] t each one = tt
set_named id (e ∷ es) t each one = by (is_at (nat_cmp id) e.0) refl (set_named id es t each.1 one)
  where
    by : (b : Bool) → is_at (nat_cmp id) e.0 ≡ b → AreNamed (set_value (is_at (nat_cmp id)) es t)
        → AreNamed (cond b ((e.0, t) ∷ es) (e ∷ set_value (is_at (nat_cmp id)) es t))
    by true here on = (one ∙ found_at id e.0 here, each.1)
    by false here on = (each.0, on)

module _ (f : StreamView → StreamView) (keeps : (s : StreamView) → name_of (f s) ≡ name_of s) where
  change_stands_at : (o : Option StreamView) (m : StreamMap) (id : ℕ) → stream_at m id ≡ o → Stands m
      → Stands (change_at f o m id)
  change_stands_at None m id there h = h
  change_stands_at (Some s) m id there h = (
    rises_with_value (is_at (nat_cmp id)) m.by_id (f s) h.0,
    set_named id m.by_id (f s) h.1 (keeps s ∙ found_named id m.by_id s h.1 there),
  )

  change_stands : (m : StreamMap) (id : ℕ) → Stands m → Stands (changed_stream f m id)
  change_stands m id h = change_stands_at (stream_at m id) m id refl h

made_stands : (m : StreamMap) (id first : ℕ) (kind : PayloadProtocolIdentifier) → Stands m
    → Stands (made m id first kind)
made_stands m id first kind h =
    let s : StreamView = fresh_stream id m.next_generation first kind in
    (rises_with_entry m.by_id id s h.0, entries_with_entry IsNamed m.by_id id s h.1 refl)

ended_stands : (m : StreamMap) (id : ℕ) → Stands m → Stands (without_stream m id)
ended_stands m id h =
    (rises_without (is_at (nat_cmp id)) m.by_id h.0, entries_without IsNamed (is_at (nat_cmp id)) m.by_id h.1)

passed_above : (tsn n : ℕ) (es : List (ℕ × StreamView)) → AreAbove n es → AreAbove n (passed_each tsn es)
passed_above tsn n [] h = tt
passed_above tsn n (e ∷ es) h = (h.0, passed_above tsn n es h.1)

passed_rises : (tsn : ℕ) (es : List (ℕ × StreamView)) → Rises es → Rises (passed_each tsn es)
passed_rises tsn [] h = tt
passed_rises tsn (e ∷ es) h = (passed_above tsn e.0 es h.0, passed_rises tsn es h.1)

passed_named : (tsn : ℕ) (es : List (ℕ × StreamView)) → AreNamed es → AreNamed (passed_each tsn es)
passed_named tsn [] h = tt
passed_named tsn (e ∷ es) h = (h.0, passed_named tsn es h.1)

passed_stands : (m : StreamMap) (tsn : ℕ) → Stands m → Stands (passed_in m tsn)
passed_stands m tsn h = (passed_rises tsn m.by_id h.0, passed_named tsn m.by_id h.1)

stands_kept : IsKept Stands
stands_kept = record {
  change = change_stands;
  make = made_stands;
  end_one = ended_stands;
  pass = passed_stands;
  end_all = λ m h. (tt, tt);
}

to_ascend : (m : StreamMap) → Stands m → StreamsAscend m
to_ascend m h = record { ascending = rises_ascending m.by_id h.0; named = h.1 }

from_ascend : (m : StreamMap) → StreamsAscend m → Stands m
from_ascend m h = (ascending_rises m.by_id h.ascending, h.named)

-- Calls

-- What is so of the live streams.
module _ (P : StreamMap → Type 0) (law : IsKept P) where
  call_kept : (call : Call) (a : Shown) → Keeps P a (carried_out call a).0
  call_kept (Call.OpenStream id kind) a = opened_kept P law a id kind
  call_kept (Call.Write id named bytes) a = written_kept P law a id named bytes
  call_kept (Call.Set id setting) a = adjusted_kept P law a id setting
  call_kept Call.AcceptStream a = accepted_kept P law a
  call_kept (Call.SetMaxSendMessageSize size) a = limited_kept P law a size
  call_kept Call.Shutdown a = same_kept P a (shutdown_begun a) refl
  call_kept Call.Close a = closed_kept P law a reasons.AssociationClosed
  call_kept (Call.Read id) a = read_kept P law a id
  call_kept Call.Poll a = event_told_kept P law a
  call_kept Call.PollEndpointEvent a = same_kept P a (endpoint_event_polled a).0 refl
  call_kept (Call.PollTransmit now) a = polled_kept P law a now
  call_kept (Call.HandleTimeout now) a = timeouts_kept P law a now
  call_kept (Call.HandleEvent packet now) a = packet_kept P law a packet now
  call_kept (Call.Stop id) a = stopped_kept P law a id
  call_kept (Call.CloseStream id) a =
      then_kept P (adjusted_kept P law a id settings.WriteHalfClosed)
      (stopped_kept P law (adjusted a id settings.WriteHalfClosed) id)

  -- an association that failed stays so
  stays_failed : (call : Call) (told : List Event) (a b : Shown) → Calls call told a b → a.failed ≡ true
      → b.failed ≡ true
  stays_failed call told a b (inl c) failed =
      carried_out_fails call told a b c.there (accepted_works call a c.accepted) failed
  stays_failed call told a b (inr (inl c)) failed = ap (λ (x : Shown). x.failed) c.same ∙ failed
  stays_failed call told a b (inr (inr c)) failed = c.failed.marked

  worked_before : (call : Call) (told : List Event) (a b : Shown) → Calls call told a b → b.failed ≡ false
      → a.failed ≡ false
  worked_before call told a b called works =
      ⊎_elim
      (λ (failed : a.failed ≡ true).
      absurd (false≢true (sym works ∙ stays_failed call told a b called failed)))
      (λ (working : a.failed ≡ false). working) (cases_Bool a.failed)

  -- it is so where the association works
  abbrev IsSoWhereItWorks : Shown → Type 0
  IsSoWhereItWorks a = a.failed ≡ false → P a.streams

  called_holds : (call : Call) (told : List Event) (a b : Shown) → Calls call told a b → IsSoWhereItWorks a
      → IsSoWhereItWorks b
  called_holds call told a b (inl c) held works =
      subst (λ (x : Shown × List Event). P x.0.streams) c.there
      ((call_kept call a).holds (held (worked_before call told a b (inl c) works)))
  called_holds call told a b (inr (inl c)) held works =
      subst (λ (x : Shown). P x.streams) (sym c.same) (held (worked_before call told a b (inr (inl c)) works))
  called_holds call told a b (inr (inr c)) held works = absurd (false≢true (sym works ∙ c.failed.marked))

  list_holds : (calls : List Call) (told : List Event) (a b : Shown) → IsRun calls told a b → IsSoWhereItWorks a
      → IsSoWhereItWorks b
  list_holds [] told a b run held works =
      subst (λ (x : Shown). P x.streams) (sym run.same) (held (ap (λ (x : Shown). x.failed) (sym run.same) ∙ works))
  list_holds (call ∷ calls) told a b run held works =
      list_holds calls run.later run.middle b run.others (called_holds call run.first a run.middle run.called held)
      works

pub runs_keep_streams_ascending : RunsKeepStreamsAscending
runs_keep_streams_ascending calls told a b h run works =
    to_ascend b.streams
    (list_holds Stands stands_kept calls told a b run (λ on. from_ascend a.streams h) works)

-- Beginning

pub created_streams_ascend : CreatedStreamsAscend
unfolding sends_init
created_streams_ascend None config size tag initial_tsn cookie remote_addr local_ip now =
    record { ascending = tt; named = tt }
created_streams_ascend (Some of_server) config size tag initial_tsn cookie remote_addr local_ip now =
    record { ascending = tt; named = tt }

pub joined_streams_ascend : JoinedStreamsAscend
joined_streams_ascend config size remote_addr local_ip own peer = record { ascending = tt; named = tt }
