-- A shutdown that the application begins, and what its endpoint is told of it: neither closes, begins a reset of a
-- stream or does anything to the directions. A shutdown keeps the stage of the handshake, and what the endpoint is
-- told the whole status.
use Rattle.std.proofs.Common.{◌≡◌, refl, inr, Bool, true, false, if◌then◌else◌, []}
use Rattle.sctp_parts.specs.declared.state.AssociationState.{AssociationState}
use Rattle.sctp_parts.specs.declared.state.AssociationState.TheVariants as states
use Rattle.sctp_assoc.specs.Calls.{is_established}
use Rattle.sctp_assoc.specs.Closing.{is_closed_state}
use Rattle.sctp_assoc.specs.Leads.{LeadsOn}
use Rattle.sctp_assoc.specs.Shown.{Shown}
use Rattle.sctp_assoc.specs.Shutdown.{all_acknowledged, endpoint_event_polled, shutdown_begun}
use Rattle.sctp_assoc.proofs.Leading.{leads_nowhere}
use Rattle.sctp_sides.specs.Laws.{EndpointEventsDoNotClose, ShutdownsDoNotClose}
use Rattle.sctp_sides.specs.Meeting.{IsAsFarOn}
use Rattle.sctp_sides.specs.NoReset.{EndpointEventsBeginNoReset, ShutdownsBeginNoReset}
use Rattle.sctp_sides.specs.PastSpan.{EndpointEventsResetNoMore, ShutdownsResetNoMore}
use Rattle.sctp_sides.specs.SideLaws.{EndpointEventsKeepTheStatus, ShutdownsKeepTheStage}
use Rattle.sctp_sides.proofs.BeginsNoReset.{same_resets}
use Rattle.sctp_sides.proofs.HandshakeTruth.{keeps_saying, truthful_still}
use Rattle.sctp_sides.proofs.PastOnly.{same_stays_past}
use Rattle.sctp_sides.proofs.Status.{status_by}
use Rattle.sctp_sides.proofs.TimersRun.{begins_established, established_begins_no_more}

-- A shutdown that begins

-- it leads into one of two states, where DATA waits or is in flight and where not
begun_is_open : (acknowledged : Bool)
    → is_closed_state (if acknowledged then states.ShutdownSent else states.ShutdownPending) ≡ false
begun_is_open true = refl
begun_is_open false = refl

begun_as_far : (acknowledged : Bool) (s : AssociationState) → is_established s ≡ true
    → IsAsFarOn s (if acknowledged then states.ShutdownSent else states.ShutdownPending)
begun_as_far true s e = inr (established_begins_no_more s e, refl)
begun_as_far false s e = inr (established_begins_no_more s e, refl)

pub shutdowns_do_not_close : ShutdownsDoNotClose
shutdowns_do_not_close a e =
    record { still_open = begun_is_open (all_acknowledged a); lost = refl; events = refl }

pub shutdowns_keep_the_stage : ShutdownsKeepTheStage
shutdowns_keep_the_stage a e = (
  record {
    failed = refl;
    state = begun_as_far (all_acknowledged a) a.state (begins_established a.failed (is_established a.state) _ _ e);
    lost = refl;
    size = refl;
    side = refl;
    handshake = refl;
    truthful = λ own t. truthful_still own a (shutdown_begun a) t (keeps_saying a (shutdown_begun a) refl refl) refl;
  },
  refl,
)

pub shutdowns_begin_no_reset : ShutdownsBeginNoReset
shutdowns_begin_no_reset a = same_resets a (shutdown_begun a) refl refl

pub shutdowns_reset_no_more : ShutdownsResetNoMore
shutdowns_reset_no_more a = same_stays_past a (shutdown_begun a) refl refl

pub shutdown_leads_on : (a : Shown) → LeadsOn [] a (shutdown_begun a)
shutdown_leads_on a h binds = (h, leads_nowhere a (shutdown_begun a) h binds refl refl)

-- What the endpoint is told

pub endpoint_events_do_not_close : EndpointEventsDoNotClose
endpoint_events_do_not_close a = record { state = refl; lost = refl; events = refl }

pub endpoint_events_keep_the_status : EndpointEventsKeepTheStatus
endpoint_events_keep_the_status a =
    (status_by a (endpoint_event_polled a).0 refl refl refl refl refl refl refl, refl)

pub endpoint_events_begin_no_reset : EndpointEventsBeginNoReset
endpoint_events_begin_no_reset a = same_resets a (endpoint_event_polled a).0 refl refl

pub endpoint_events_reset_no_more : EndpointEventsResetNoMore
endpoint_events_reset_no_more a = same_stays_past a (endpoint_event_polled a).0 refl refl

pub endpoint_event_leads_on : (a : Shown) → LeadsOn [] a (endpoint_event_polled a).0
endpoint_event_leads_on a h binds = (h, leads_nowhere a (endpoint_event_polled a).0 h binds refl refl)
