-- What the rules keep stays so where the application reads a stream whose generation ended, and stops reading it.
use Rattle.std.proofs.Common.{◌≡◌, refl, ℕ, zero, suc, Bool, true, false, not, List, fold, filter, length, Option, Some}
use Rattle.std.proofs.Common.{None, is_some}
use Rattle.sctp_wire_types.specs.Config.{is_rfc}
use Rattle.sctp_streams.specs.declared.event.Event.{Event}
use Rattle.sctp_streams.specs.declared.setting.Setting.TheVariants as settings
use Rattle.sctp_streams.specs.Events.{is_told_of}
use Rattle.sctp_streams.specs.Stream.{with_setting, without_unread}
use Rattle.sctp_streams.specs.Streams.{StreamMap, changed_stream, waiting_of, without_stream}
use Rattle.sctp_generations.specs.Generations.{GenerationsView, after_given_to, discarded, drained, given_to}
use Rattle.sctp_generations.specs.Generations.{has_newest}
use Rattle.sctp_generations.specs.Retiring.{boundaries_at, count_of}
use Rattle.sctp_reset_requests.specs.Peer.{boundary_of}
use Rattle.sctp_resets.specs.Channels.{Channels, delivered, final_told, is_write_half_closed}
use Rattle.sctp_resets.specs.Draining.{Reading, ended, next_generation_read, passed_once, passed_times, passed_where}
use Rattle.sctp_resets.specs.Draining.{skipped_over, with_write_half, write_half_kept}
use Rattle.sctp_resets.specs.Resets.{Beside, ResetsView, Resetting, dropped, ended_unless, is_blocked, read_out}
use Rattle.sctp_resets.specs.Resets.{reset_or_ended, stopped_reading, with_generations, with_read}
use Rattle.sctp_resets.specs.Within.{ResetsOver}
use Rattle.sctp_resets.proofs.KeptOver.{retiring_is_over}
use Rattle.sctp_resets.proofs.ListsOver.{of_chosen}
use Rattle.sctp_ended.proofs.Carried.{emptied_is_mild}
use Rattle.sctp_ended.proofs.CarriedByCalls.{set_is_mild}
use Rattle.sctp_closed.proofs.Rules.{IsUnended, ended_keeps}
use Rattle.sctp_closed.proofs.InDelivery.{all_delivered_hold, applied_of_holds}

-- What the rules keep, of an association that was lost or was not.
module _ (over : ℕ → Bool) (P : Bool → StreamMap → List Event → Type 0) (law : IsUnended over P) (lost : Bool) where
  -- it is so of the streams and events of each of these

  abbrev InChannels : Channels → Type 0
  InChannels c = P lost c.streams c.events

  abbrev InResetting : Resetting → Type 0
  InResetting s = P lost s.1.streams s.1.events

  abbrev InBeside : Beside → Type 0
  InBeside b = P lost b.1 b.2

  abbrev InReading : Reading → Type 0
  InReading s = P lost s.1.streams s.1.events

  -- the last counters of a stream are told, and it ends
  ended_holds : (m : StreamMap) (es : List Event) (id : ℕ) → over id ≡ true → P lost m es
      → P lost (without_stream m id) (final_told m id es)
  ended_holds m es id one h = ended_keeps over P law lost m es id one h

  -- The application reads and stops

  module _ (first limit id : ℕ) (in_progress : Option ℕ) (one : over id ≡ true) where
    write_half_holds : (closed : Bool) (m : StreamMap) (es : List Event) → P lost m es
        → P lost (with_write_half closed m id) es
    write_half_holds true m es h =
        law.changes lost m es (λ s. with_setting s settings.WriteHalfClosed) id (set_is_mild settings.WriteHalfClosed) h
    write_half_holds false m es h = h

    skipped_over_holds : (s : Reading) → InReading s → InReading (skipped_over id s)
    skipped_over_holds (g, c) h = applied_of_holds over P law lost (g, c.streams, c.events) id h

    next_holds : (g : GenerationsView) (c : Channels) → InReading (g, c)
        → InReading (next_generation_read first limit id in_progress (g, c))
    unfolding next_generation_read
    next_holds g c h =
        skipped_over_holds
        (after_given_to g id in_progress, write_half_kept (is_write_half_closed c.streams id) filled id)
        (write_half_holds (is_write_half_closed c.streams id) filled.streams filled.events
        (all_delivered_hold over P law lost first limit (given_to g id in_progress) (ended c id)
        (ended_holds c.streams c.events id one h)))
      where
        filled : Channels
        filled = fold (delivered first limit) (ended c id) (given_to g id in_progress)

    passed_holds : (s : Reading) → InReading s → InReading (passed_once first limit id in_progress s).0
    passed_holds (g, c) h =
        by (drained g id (waiting_of c.streams id)).0 (drained g id (waiting_of c.streams id)).1
      where
        by : (d : GenerationsView) (is_over : Bool)
            → InReading (passed_where first limit id in_progress c (d, is_over)).0
        by d true = next_holds d c h
        by d false = h

    all_passed_hold : (n : ℕ) (s : Reading) → InReading s
        → InReading (passed_times n first limit id in_progress s)
    all_passed_hold zero s h = h
    all_passed_hold (suc n) s h =
        of_chosen InReading (passed_once first limit id in_progress s).1
        (passed_times n first limit id in_progress (passed_once first limit id in_progress s).0)
        (passed_once first limit id in_progress s).0
        (all_passed_hold n (passed_once first limit id in_progress s).0 (passed_holds s h)) (passed_holds s h)

  -- of a stream that does not retire no generation is over
  pub read_out_holds : (first limit id : ℕ) (r : ResetsView) (c : Channels) → ResetsOver over r → InChannels c
      → InResetting (read_out first limit id r c)
  read_out_holds first limit id r c past h =
      by (boundaries_at r.generations.retiring id) (retiring_is_over over r id past)
    where
      by : (o : Option (List ℕ)) → (is_some o ≡ true → over id ≡ true)
          → InResetting
          (with_read r (passed_times (count_of o) first limit id (boundary_of r.peer id) (r.generations, c)))
      by None is_over = h
      by (Some boundaries) is_over =
          all_passed_hold first limit id (boundary_of r.peer id) (is_over refl) (length boundaries) (r.generations, c) h

  -- the stream stays or ends, by the rules of the RFCs and by those of the port
  dropped_holds : (more : Bool) (r : ResetsView) (id : ℕ) (m : StreamMap) (told : List Event) → over id ≡ true
      → P lost m told → InBeside (dropped more r id m told)
  dropped_holds more r id m told one h =
      of_chosen InBeside (is_rfc r.own.profile) (reset_or_ended more r id m told)
      (ended_unless (is_blocked r id) r id m told) (by_rfcs more) (by_port (is_blocked r id))
    where
      by_rfcs : (resets : Bool) → InBeside (reset_or_ended resets r id m told)
      by_rfcs true = h
      by_rfcs false = ended_holds m told id one h

      by_port : (blocked : Bool) → InBeside (ended_unless blocked r id m told)
      by_port true = h
      by_port false = ended_holds m told id one h

  pub stopped_reading_holds : (id : ℕ) (r : ResetsView) (m : StreamMap) (told : List Event) → over id ≡ true
      → P lost m told → InBeside (stopped_reading id r m told)
  stopped_reading_holds id r m told one h =
      dropped_holds (has_newest r.generations id) (with_generations r (discarded r.generations id)) id
      (changed_stream without_unread m id) (filter (λ (e : Event). not (is_told_of id e)) told) one
      (law.untells lost (changed_stream without_unread m id) told id
      (law.changes lost m told without_unread id emptied_is_mild h))
