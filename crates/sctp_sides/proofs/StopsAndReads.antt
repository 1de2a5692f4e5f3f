-- Stops and reads of streams, up to where it is seen whether the receive buffer is left exhausted: what they do to the
-- directions, and that they leave the status.
use Rattle.std.proofs.Common.{◌≡◌, refl, ◌∙◌, inl, inr, ◌⊎◌, ℕ, Bool, true, false, ◌&&◌, ◌==◌, not}
use Rattle.std.proofs.Common.{if◌then◌else◌, [], ◌∷◌, Option, Some, None}
use Rattle.sctp_wire_types.specs.Config.{is_rfc}
use Rattle.sctp_wire_types.specs.declared.error.Error.TheVariants as errors
use Rattle.sctp_streams.specs.Stream.{StreamView, is_read_half_open}
use Rattle.sctp_streams.specs.Streams.{StreamMap, read_in, stream_at}
use Rattle.sctp_streams.proofs.LowMarks.{found_as}
use Rattle.sctp_reset_requests.specs.Ids.{has_id}
use Rattle.sctp_resets.specs.Concerned.{StayBeside}
use Rattle.sctp_resets.specs.Resets.{Beside, ResetsView, is_retiring, stopped_reading, waiting_for}
use Rattle.sctp_resets.proofs.OthersStay.{stopped_reading_stays}
use Rattle.sctp_directions.specs.Acts.{Act}
use Rattle.sctp_assoc.specs.Calls.{credit_in, eased, holds_at, holds_of, is_established, stop_refusal_at, stopped_open}
use Rattle.sctp_assoc.specs.Calls.{tells_window, told_if, unread_dropped, without_read_half_of}
use Rattle.sctp_assoc.specs.Closing.{exhausted, is_exhausted}
use Rattle.sctp_assoc.specs.ResetActs.{acts_of_draining}
use Rattle.sctp_assoc.specs.Resets.{with_beside}
use Rattle.sctp_assoc.specs.Shown.{Shown}
use Rattle.sctp_assoc.proofs.Leading.{leads_on}
use Rattle.sctp_assoc.proofs.ReadsLeadOn.{draining_leads, plain_read_leads}
use Rattle.sctp_assoc.proofs.StopsLeadOn.{closed_half_stays, dropping_stays, open_stop_leads}
use Rattle.sctp_sides.specs.SideLaws.{IsSameStatus, ReadsLeadOn, StopsAreInEstablished, StopsKeepTheStatus}
use Rattle.sctp_sides.proofs.Status.{beside_status, status_by, status_on}
use Rattle.sctp_sides.proofs.WindowsTold.{eased_exhausted, eased_plainly}
use Rattle.sctp_sides.proofs.WithoutResets.{none_retires}

-- A read, and the ends of generations that it read to their end

pub reads_lead_on : ReadsLeadOn
reads_lead_on a id h binds =
    let streams = (read_in a.streams id).0 in
    let one = plain_read_leads a id h binds in
    (h, leads_on (Act.WasRead id ∷ []) (acts_of_draining a id streams) one (draining_leads a id streams h one.binds))

-- A stop of a stream whose read half is open

open_stop_status : (retires : Bool) (x : Beside) (a : Shown) (id : ℕ) (n : StreamMap) (r : ResetsView)
    → IsSameStatus a
    (if retires then with_beside (without_read_half_of a id) x else
    record (without_read_half_of a id) { streams = n; resets = r })
open_stop_status true x a id n r =
    let b : Shown = without_read_half_of a id in
    status_on a b _ (status_by a b refl refl refl refl refl refl refl) (beside_status b x)
open_stop_status false x a id n r = status_by a _ refl refl refl refl refl refl refl

-- the other streams stay, whether a generation of this one is read no more or it is to be reset
open_stop_stays : (retires : Bool) (x : Beside) (a : Shown) (id : ℕ) (n : StreamMap) (r : ResetsView)
    → StayBeside (id ∷ []) (without_read_half_of a id).streams x.1
    → StayBeside (id ∷ []) (without_read_half_of a id).streams n
    → StayBeside (id ∷ []) a.streams
    (if retires then with_beside (without_read_half_of a id) x else
    record (without_read_half_of a id) { streams = n; resets = r }).streams
open_stop_stays true (s, m, told) a id n r stay left t other = stay t other ∙ closed_half_stays a id t other
open_stop_stays false x a id n r stay left t other = left t other ∙ closed_half_stays a id t other

not_named : (t id : ℕ) → (t == id) ≡ false → has_id t (id ∷ []) ≡ false
not_named t id apart = rw (found_as t id, apart) refl

-- It closes where it leaves the receive buffer exhausted, and else a window that it opened is told; where the read half
-- is closed already nothing changes.

eased_or_closed : (exhausts : Bool) (before : ℕ) (b : Shown) → is_exhausted b ≡ exhausts
    → (eased before b ≡ told_if (tells_window before b) b) ⊎ (eased before b ≡ exhausted b)
eased_or_closed true before b e = inr (eased_exhausted before b e)
eased_or_closed false before b e = inl (eased_plainly before b e)

stopped_or_not : (is_open : Bool) (before : ℕ) (a b : Shown)
    → ((if is_open then eased before b else a) ≡ a)
    ⊎ (((if is_open then eased before b else a) ≡ told_if (tells_window before b) b)
    ⊎ ((if is_open then eased before b else a) ≡ exhausted b))
stopped_or_not true before a b = inr (eased_or_closed (is_exhausted b) before b refl)
stopped_or_not false before a b = inl refl

pub stops_keep_the_status : StopsKeepTheStatus
stops_keep_the_status a id =
    let b : Shown = without_read_half_of a id in
    let retires = is_retiring a.resets id in
    let x = stopped_reading id b.resets b.streams b.events in
    let left = waiting_for b.resets id in
    let n : StreamMap = unread_dropped (is_rfc a.profile) b.streams id in record {
      same = open_stop_status retires x a id n left;
      leads = λ h binds. (h, open_stop_leads a id h binds);
      others = λ s apart.
          open_stop_stays retires x a id n left (stopped_reading_stays id b.resets b.streams b.events)
          (dropping_stays (is_rfc a.profile) b.streams id) s (not_named s id apart);
      either = stopped_or_not (holds_of (λ t. is_read_half_open t.halves) a id) (credit_in a) a (stopped_open a id);
    }

-- Where no generation of the stream retires, its read half is open in Established alone.

established_or_refused : (is_open retires established : Bool) (z : Shown) (a : Shown)
    → retires ≡ false
    → (if is_open && not retires && not established then Some errors.ErrResetPacketInStateNotExist else None) ≡ None
    → ((if is_open then z else a) ≡ a) ⊎ (established ≡ true)
established_or_refused is_open retires true z a quiet allowed = inr refl
established_or_refused false retires false z a quiet allowed = inl refl
established_or_refused true true false z a quiet allowed = absurd (cc)
established_or_refused true false false z a quiet allowed = absurd (cc)

stops_where_found : (o : Option StreamView) (a : Shown) (id : ℕ) (z : Shown) → is_retiring a.resets id ≡ false
    → stop_refusal_at a id o ≡ None
    → ((if holds_at (λ t. is_read_half_open t.halves) o then z else a) ≡ a) ⊎ (is_established a.state ≡ true)
stops_where_found None a id z quiet allowed = inl refl
stops_where_found (Some s) a id z quiet allowed =
    established_or_refused (is_read_half_open s.halves) (is_retiring a.resets id) (is_established a.state) z a quiet
    allowed

stops_where : (failed : Bool) (o : Option StreamView) (a : Shown) (id : ℕ) (z : Shown)
    → is_retiring a.resets id ≡ false
    → (if failed then Some errors.ErrAssociationFailed else stop_refusal_at a id o) ≡ None
    → ((if holds_at (λ t. is_read_half_open t.halves) o then z else a) ≡ a) ⊎ (is_established a.state ≡ true)
stops_where true o a id z quiet allowed = absurd (cc)
stops_where false o a id z quiet allowed = stops_where_found o a id z quiet allowed

pub stops_are_in_established : StopsAreInEstablished
stops_are_in_established a id none allowed =
    stops_where a.failed (stream_at a.streams id) a id (eased (credit_in a) (stopped_open a id))
    (none_retires a.resets id none.kept) allowed
