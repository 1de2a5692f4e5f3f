-- An association tells its events, begins a shutdown and meets its timeouts: each leaves it between the same
-- directions.
use Rattle.std.proofs.Common.{◌≡◌, refl, sym, ap, ◌∙◌, subst, ◌⊎◌, ⊎_elim, inl, inr, ℕ, Bool, true, false, List, []}
use Rattle.std.proofs.Common.{◌∷◌, Option, Some, None, if◌then◌else◌, is_some}
use Rattle.std.specs.List.{AllByRecursion}
use Rattle.std.proofs.lemmas.Bool.{cases_Bool, true≢false}
use Rattle.sctp_wire_types.specs.declared.error.Error.{Error}
use Rattle.sctp_parts.specs.declared.shared.EndpointEvent.{EndpointEvent}
use Rattle.sctp_streams.specs.declared.event.Event.{Event}
use Rattle.sctp_model.specs.Machine.{Direction}
use Rattle.sctp_fit.specs.Incoming.{FitsIncoming}
use Rattle.sctp_fit.specs.Outgoing.{FitsOutgoing}
use Rattle.sctp_directions.specs.Acts.{Act, IsNotPeerKnown, Parts, done_all, receiving, sending}
use Rattle.sctp_directions.proofs.Proved.{its_marks_are_no_events, own_acts_leave_what_comes}
use Rattle.sctp_assoc.specs.Leads.{parts}
use Rattle.sctp_assoc.specs.Calls.{event_polled}
use Rattle.sctp_assoc.specs.Happened.{acts_of_timeouts}
use Rattle.sctp_assoc.specs.Shown.{Shown}
use Rattle.sctp_assoc.specs.Shutdown.{endpoint_event_polled}
use Rattle.sctp_assoc.specs.Timeouts.{after_timeouts}
use Rattle.sctp_sides.specs.NoReset.{HasNoReset}
use Rattle.sctp_sides.specs.PastSpan.{ResetsPastOnly}
use Rattle.sctp_sides.proofs.Proved.{endpoint_event_leads_on, endpoint_events_begin_no_reset}
use Rattle.sctp_sides.proofs.Proved.{endpoint_events_keep_the_status, endpoint_events_reset_no_more}
use Rattle.sctp_sides.proofs.Proved.{shutdown_leads_on, shutdowns_begin_no_reset, shutdowns_keep_the_stage}
use Rattle.sctp_sides.proofs.Proved.{shutdowns_reset_no_more}
use Rattle.sctp_sides.proofs.Proved.{poll_leads_on, timeouts_lead_on, timeouts_mark_at_most, timers_keep_the_status}
use Rattle.sctp_sides.proofs.Proved.{timers_begin_no_reset, timers_reset_no_more, told_events_begin_no_reset}
use Rattle.sctp_sides.proofs.Proved.{the_same_status_is_the_same_stage, told_events_keep_the_status}
use Rattle.sctp_sides.proofs.Proved.{told_events_reset_no_more}
use Rattle.sctp_assoc.specs.declared.call.Reply.{Reply}
use Rattle.sctp_assoc.specs.declared.call.Reply.TheVariants as replies
use Rattle.sctp_assoc.specs.Replies.{Expires, PollsEndpointEvent, PollsEvent, ShutsDown}
use Rattle.sctp_pair.proofs.BetweenDirections.{orderly_acts_keep_order}
use Rattle.sctp_pair.proofs.BetweenDirections.{EndsNoSpan, Faces, KeepsOrder, SettlesQuietly, Surroundings}
use Rattle.sctp_pair.proofs.QuietCalls.{empty_still, fails_settle, idle_settles, refused_call_settles, same_settles}
use Rattle.sctp_pair.proofs.QuietCalls.{stage_settles, unseen_settles}

-- Events

told_settles : {x : Surroundings} {a b : Shown} (event : Option Event) → a.failed ≡ false → event_polled a ≡ (b, event)
    → Faces x a → SettlesQuietly x b
told_settles {x} {a} {b} event working e f =
    idle_settles (told_events_keep_the_status a b event e)
    (λ none. subst HasNoReset (ap (λ (z : Shown × Option Event). z.0) e) (told_events_begin_no_reset a none))
    (λ over h. subst (ResetsPastOnly over) (ap (λ (z : Shown × Option Event). z.0) e)
    (told_events_reset_no_more a over h))
    (poll_leads_on a b event e) working f

-- The oldest event is told: the directions see nothing of it.
pub tells_settle : {x : Surroundings} {a b : Shown} (r : Reply) → PollsEvent a r b → Faces x a → SettlesQuietly x b
tells_settle (replies.Event event) h f = told_settles event h.0 h.1 f
tells_settle (replies.Refused n) h f = same_settles h.2 f
tells_settle r h f = absurd h

-- What its endpoint is to be told

drained_settles : {x : Surroundings} {a : Shown} → a.failed ≡ false → Faces x a
    → SettlesQuietly x (endpoint_event_polled a).0
drained_settles {x} {a} working f =
    idle_settles (endpoint_events_keep_the_status a) (endpoint_events_begin_no_reset a)
    (endpoint_events_reset_no_more a) (endpoint_event_leads_on a) working f

-- What the endpoint is to be told is taken out, which one that failed does, too: the directions see nothing of it.
pub drains_settle : {x : Surroundings} {a b : Shown} (r : Reply) → PollsEndpointEvent a r b → Faces x a
    → SettlesQuietly x b
drains_settle {x} {a} {b} (replies.EndpointEvent event) h f =
    let is : (endpoint_event_polled a).0 ≡ b = ap (λ (z : Shown × Option EndpointEvent). z.0) h in
    subst (SettlesQuietly x) is (⊎_elim
    (λ (failed : a.failed ≡ true). fails_settle ((endpoint_events_keep_the_status a).0.failed ∙ failed) f)
    (λ (working : a.failed ≡ false). drained_settles working f)
    (cases_Bool a.failed))
drains_settle r h f = absurd h

-- A shutdown

unrefused_works : (failed : Bool) (fault : Error) (more : Option Error) → (if failed then Some fault else more) ≡ None
    → failed ≡ false
unrefused_works true fault more e = absurd (true≢false (ap is_some e))
unrefused_works false fault more e = refl

-- A shutdown begins: no DATA is given up, and the directions see nothing of it.
pub shuts_down_settle : {x : Surroundings} {a b : Shown} (r : Reply) → ShutsDown a r b → Faces x a → SettlesQuietly x b
shuts_down_settle {x} {a} replies.Done h f =
    subst (SettlesQuietly x) (sym h.1)
    (stage_settles (shutdowns_keep_the_stage a h.0) (shutdowns_begin_no_reset a) (shutdowns_reset_no_more a)
    (shutdown_leads_on a) (unrefused_works a.failed _ _ h.0) f)
shuts_down_settle (replies.Refused n) h f = same_settles h.1 f
shuts_down_settle r h f = absurd h

-- Timeouts

timeouts_out : (acts : List Act) (p : Parts) (w : Direction) → (acts ≡ []) ⊎ (acts ≡ Act.Marked ∷ [])
    → FitsOutgoing (sending p) w → FitsOutgoing (sending (done_all acts p)) w
timeouts_out acts p w (inl none) h = subst (λ zs. FitsOutgoing (sending (done_all zs p)) w) (sym none) h
timeouts_out acts p w (inr marks) h =
    subst (λ zs. FitsOutgoing (sending (done_all zs p)) w) (sym marks) (its_marks_are_no_events p w h)

timeouts_coming : (acts : List Act) (p : Parts) (w : Direction) → (acts ≡ []) ⊎ (acts ≡ Act.Marked ∷ [])
    → FitsIncoming (receiving p) w → FitsIncoming (receiving (done_all acts p)) w
timeouts_coming acts p w (inl none) h = subst (λ zs. FitsIncoming (receiving (done_all zs p)) w) (sym none) h
timeouts_coming acts p w (inr marks) h =
    subst (λ zs. FitsIncoming (receiving (done_all zs p)) w) (sym marks)
    (own_acts_leave_what_comes Act.Marked p w tt h)

timeouts_are_not_peer_known : (acts : List Act) → (acts ≡ []) ⊎ (acts ≡ Act.Marked ∷ [])
    → AllByRecursion IsNotPeerKnown acts
timeouts_are_not_peer_known acts (inl none) = subst (AllByRecursion IsNotPeerKnown) (sym none) tt
timeouts_are_not_peer_known acts (inr marks) = subst (AllByRecursion IsNotPeerKnown) (sym marks) (tt, tt)

timeouts_keep_order : (loose : ℕ → Bool) (acts : List Act) → (acts ≡ []) ⊎ (acts ≡ Act.Marked ∷ [])
    → AllByRecursion (KeepsOrder loose) acts
timeouts_keep_order loose acts (inl none) = subst (AllByRecursion (KeepsOrder loose)) (sym none) tt
timeouts_keep_order loose acts (inr marks) =
    subst (AllByRecursion (KeepsOrder loose)) (sym marks)
    (orderly_acts_keep_order loose Act.Marked (λ s n. n), tt)

timeouts_end_no_span : (acts : List Act) → (acts ≡ []) ⊎ (acts ≡ Act.Marked ∷ []) → AllByRecursion EndsNoSpan acts
timeouts_end_no_span acts (inl none) = subst (AllByRecursion EndsNoSpan) (sym none) tt
timeouts_end_no_span acts (inr marks) = subst (AllByRecursion EndsNoSpan) (sym marks) ((λ s n. n), tt)

expired_settles : {x : Surroundings} {a : Shown} (now : ℕ) → a.failed ≡ false → Faces x a
    → SettlesQuietly x (after_timeouts a now)
expired_settles {x} {a} now working f =
    let acts : List Act = acts_of_timeouts a now in
    let stays = timers_keep_the_status a now in
    let shape = timeouts_mark_at_most a now in
    unseen_settles acts record {
      same = the_same_status_is_the_same_stage a (after_timeouts a now) stays.0;
      none = timers_begin_no_reset a now;
      past = timers_reset_no_more a now;
      empty = empty_still a (after_timeouts a now) stays.1;
      leads = timeouts_lead_on a (after_timeouts a now) now refl;
      nobody = timeouts_are_not_peer_known acts shape;
      orderly = timeouts_keep_order x.loose acts shape;
      ends_none = timeouts_end_no_span acts shape;
      outgoing = λ h. timeouts_out acts (parts a h) x.out shape;
      incoming = λ h. timeouts_coming acts (parts a h) x.coming shape;
    } working f

-- The timers are met as they are at a moment: at most, all that is outstanding is to go out again.
pub expires_settle : {x : Surroundings} {a b : Shown} (now : ℕ) (r : Reply) → Expires a now r b → Faces x a
    → SettlesQuietly x b
expires_settle {x} now replies.Done h f = subst (SettlesQuietly x) (sym h.1) (expired_settles now h.0 f)
expires_settle now (replies.Refused n) h f = refused_call_settles h f
expires_settle now r h f = absurd h
