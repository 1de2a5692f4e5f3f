-- A stop of a stream does to the two directions what its acts say.
use Rattle.std.proofs.Common.{◌≡◌, refl, sym, ◌∙◌, ap, ℕ, Bool, true, false, [], ◌∷◌, if◌then◌else◌}
use Rattle.sctp_wire_types.specs.Config.{is_rfc}
use Rattle.sctp_streams.specs.declared.setting.Setting.TheVariants as settings
use Rattle.sctp_streams.specs.Stream.{is_read_half_open, with_halves, without_read_half, without_unread}
use Rattle.sctp_streams.specs.Streams.{StreamMap, changed_stream}
use Rattle.sctp_resets.specs.Concerned.{StayBeside}
use Rattle.sctp_resets.specs.Resets.{Beside, ResetsView, is_retiring, stopped_reading, waiting_for}
use Rattle.sctp_directions.specs.Acts.{Act, History}
use Rattle.sctp_assoc.specs.Calls.{adjusted, credit_in, eased, holds_of, stopped, stopped_open, stop_takes_memory}
use Rattle.sctp_assoc.specs.Calls.{unread_dropped, without_read_half_of}
use Rattle.sctp_assoc.specs.Closing.{is_exhausted}
use Rattle.sctp_assoc.specs.Happened.{acts_of_close, acts_of_close_stream, acts_of_stop}
use Rattle.sctp_assoc.specs.Leads.{Binds, Leads, LeadsOn}
use Rattle.sctp_assoc.specs.Resets.{with_beside}
use Rattle.sctp_assoc.specs.Shown.{Shown}
use Rattle.sctp_assoc.proofs.BesideOne.{can_end, change_stays}
use Rattle.sctp_assoc.proofs.ClosesLeadOn.{eased_leads}
use Rattle.sctp_assoc.proofs.Leading.{leads_by, leads_nowhere, leads_on, past_itself}
use Rattle.sctp_resets.proofs.OthersStay.{stopped_reading_stays}

pub closed_half_stays : (a : Shown) (id : ℕ) → StayBeside (id ∷ []) a.streams (without_read_half_of a id).streams
closed_half_stays a id = change_stays (λ s. with_halves s (without_read_half s.halves)) a.streams id

-- what holds of the streams as they are, and once what waits of one is dropped, holds whether it is dropped or not
pub dropped_or_not : (P : StreamMap → Type 0) (drops : Bool) (m : StreamMap) (id : ℕ) → P m
    → P (changed_stream without_unread m id) → P (unread_dropped drops m id)
dropped_or_not P true m id stays dropped = dropped
dropped_or_not P false m id stays dropped = stays

-- what waits of it is dropped or not: the other streams stay
pub dropping_stays : (drops : Bool) (m : StreamMap) (id : ℕ) → StayBeside (id ∷ []) m (unread_dropped drops m id)
dropping_stays true m id = change_stays without_unread m id
dropping_stays false m id = λ t other. refl

stop_leads_if : (retires : Bool) (x : Beside) (a : Shown) (id : ℕ) (n : StreamMap) (r : ResetsView) (h : History)
    → StayBeside (id ∷ []) (without_read_half_of a id).streams x.1
    → StayBeside (id ∷ []) (without_read_half_of a id).streams n → Binds a h
    → Leads (Act.SpansEnded (id ∷ []) (if retires then with_beside (without_read_half_of a id) x else
    record (without_read_half_of a id) { streams = n; resets = r }).streams ∷ []) a h
    (if retires then with_beside (without_read_half_of a id) x else
    record (without_read_half_of a id) { streams = n; resets = r }) h
stop_leads_if true (s, m, told) a id n r h stay left binds =
    leads_by (Act.SpansEnded (id ∷ []) m ∷ []) a (with_beside (without_read_half_of a id) (s, m, told)) h binds
    (can_end a id m h (λ t other. stay t other ∙ closed_half_stays a id t other)) refl refl (past_itself h)
stop_leads_if false x a id n r h stay left binds =
    let b : Shown = record (without_read_half_of a id) { streams = n; resets = r } in
    leads_by (Act.SpansEnded (id ∷ []) n ∷ []) a b h binds
    (can_end a id n h (λ t other. left t other ∙ closed_half_stays a id t other)) refl refl (past_itself h)

-- a stop of a stream whose read half is open, before it is seen whether the receive buffer is left exhausted
pub open_stop_leads : (a : Shown) (id : ℕ) (h : History) → Binds a h
    → Leads (Act.SpansEnded (id ∷ []) (stopped_open a id).streams ∷ []) a h (stopped_open a id) h
open_stop_leads a id h binds =
    let b : Shown = without_read_half_of a id in
    stop_leads_if (is_retiring a.resets id) (stopped_reading id b.resets b.streams b.events) a id
    (unread_dropped (is_rfc a.profile) b.streams id) (waiting_for b.resets id) h
    (stopped_reading_stays id b.resets b.streams b.events)
    (dropping_stays (is_rfc a.profile) b.streams id) binds

stop_leads : (is_open : Bool) (before : ℕ) (a : Shown) (id : ℕ) (h : History) → Binds a h
    → Leads (if is_open then Act.SpansEnded (id ∷ []) (stopped_open a id).streams
    ∷ (if is_exhausted (stopped_open a id) then acts_of_close (stopped_open a id) else []) else [])
    a h (if is_open then eased before (stopped_open a id) else a) h
stop_leads true before a id h binds =
    let s : Shown = stopped_open a id in
    let one = open_stop_leads a id h binds in
    leads_on (Act.SpansEnded (id ∷ []) s.streams ∷ []) (if is_exhausted s then acts_of_close s else []) one
    (eased_leads before s h one.binds)
stop_leads false before a id h binds = leads_nowhere a a h binds refl refl

pub stop_leads_on : (a b : Shown) (id : ℕ) → b ≡ stopped a id → LeadsOn (acts_of_stop a id) a b
stop_leads_on a b id e h binds =
    (h, rw e (stop_leads (holds_of (λ s. is_read_half_open s.halves) a id) (credit_in a) a id h binds))

-- the same where the read half is open, by its two steps, and where it is closed
pub open_stop_leads_on : (a s b : Shown) (id : ℕ) → stop_takes_memory a id ≡ true → s ≡ stopped_open a id
    → b ≡ eased (credit_in a) s → LeadsOn (acts_of_stop a id) a b
open_stop_leads_on a s b id readable left e =
    stop_leads_on a b id (e ∙ ap (eased (credit_in a)) left
    ∙ sym (ap (λ (c : Bool). if c then eased (credit_in a) (stopped_open a id) else a) readable))

pub idle_stop_leads_on : (a : Shown) (id : ℕ) → stop_takes_memory a id ≡ false → LeadsOn (acts_of_stop a id) a a
idle_stop_leads_on a id closed =
    stop_leads_on a a id (sym (ap (λ (c : Bool). if c then eased (credit_in a) (stopped_open a id) else a) closed))

-- a close of both halves of a stream is a setting and a stop
pub close_stream_leads_on : (a b : Shown) (id : ℕ) → b ≡ stopped (adjusted a id settings.WriteHalfClosed) id
    → LeadsOn (acts_of_close_stream a id) a b
close_stream_leads_on a b id e h binds =
    let c : Shown = adjusted a id settings.WriteHalfClosed in
    let one : Leads (Act.Adjusted id settings.WriteHalfClosed ∷ []) a h c h =
    leads_by (Act.Adjusted id settings.WriteHalfClosed ∷ []) a c h binds (tt, tt) refl refl (past_itself h) in
    let two = stop_leads_on c b id e h one.binds in
    (two.0, leads_on (Act.Adjusted id settings.WriteHalfClosed ∷ []) (acts_of_stop c id) one two.1)
