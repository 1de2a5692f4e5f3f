-- Calls of streams that neither write nor read, and the application's close: each leads to directions between which
-- both associations stand.
use Rattle.std.proofs.Common.{◌≡◌, refl, sym, ap, ◌∙◌, subst, ⊎_elim, inl, inr, ℕ, Bool, true, false, [], ◌∷◌, Option}
use Rattle.std.proofs.Common.{Some, None, ◌⊎◌}
use Rattle.std.proofs.Common.{if◌then◌else◌}
use Rattle.std.proofs.lemmas.Bool.{cases_Bool, true≢false}
use Rattle.sctp_streams.specs.declared.event.AssociationError.TheVariants as reasons
use Rattle.sctp_streams.specs.declared.setting.Setting.{Setting}
use Rattle.sctp_streams.specs.Stream.{StreamView, ordered_and_reliable, with_setting}
use Rattle.sctp_model.specs.Machine.{Event}
use Rattle.sctp_directions.specs.Acts.{Act, IsKeptInOrder, SetsReliability}
use Rattle.sctp_fit.proofs.StreamsChanged.{each_with}
use Rattle.sctp_streams.specs.declared.halves.ReliabilityParams.{ReliabilityParams}
use Rattle.sctp_streams.specs.declared.setting.Setting.TheVariants as settings
use Rattle.sctp_streams.specs.Streams.{StreamMap, change_at, stream_at}
use Rattle.sctp_directions.proofs.Proved.{closed_receivers_are_not_open, own_acts_leave_what_comes}
use Rattle.sctp_directions.proofs.Proved.{settings_are_no_events}
use Rattle.sctp_assoc.specs.Leads.{parts}
use Rattle.sctp_assoc.specs.Calls.{accepted_from, accepted_stream, adjusted, stream_refusal}
use Rattle.sctp_assoc.specs.Calls.{with_max_send_message_size}
use Rattle.sctp_assoc.specs.Closing.{closed_by, is_closed_state}
use Rattle.sctp_assoc.specs.Shown.{Shown}
use Rattle.sctp_sides.specs.NoReset.{HasNoReset}
use Rattle.sctp_sides.specs.PastSpan.{ResetsPastOnly}
use Rattle.sctp_sides.specs.SideLaws.{IsSameStatus}
use Rattle.sctp_sides.proofs.Proved.{accept_leads_on, accepted_streams_keep_the_status, faults_close}
use Rattle.sctp_sides.proofs.Proved.{accepted_streams_begin_no_reset, accepted_streams_reset_no_more}
use Rattle.sctp_sides.proofs.Proved.{closes_end_resets, limits_begin_no_reset, limits_reset_no_more}
use Rattle.sctp_sides.proofs.Proved.{settings_reset_no_more}
use Rattle.sctp_sides.proofs.Proved.{limit_leads_on, limits_keep_the_status, settings_begin_no_reset}
use Rattle.sctp_sides.proofs.Proved.{found_streams_are_live, setting_leads_on, settings_hold_nothing}
use Rattle.sctp_sides.proofs.Proved.{settings_keep_the_status, the_same_handshake_is_the_same_stage}
use Rattle.sctp_sides.proofs.Proved.{the_same_status_is_the_same_stage}
use Rattle.sctp_assoc.specs.declared.call.Reply.{Reply}
use Rattle.sctp_assoc.specs.declared.call.Reply.TheVariants as replies
use Rattle.sctp_assoc.specs.Replies.{AcceptsStream, ClosesOne, Limits, Sets}
use Rattle.sctp_pair.proofs.BetweenDirections.{KeepsOrder, orderly_acts_keep_order}
use Rattle.sctp_pair.proofs.BetweenDirections.{Faces, SettlesQuietly, Surroundings}
use Rattle.sctp_pair.proofs.QuietCalls.{IsUnseen, by_working, idle_settles, refused_call_settles, same_settles}
use Rattle.sctp_pair.proofs.QuietCalls.{settles_by_receiver, unseen_settles}

-- Something is set on a stream

-- the directions do not see it
pub adjusted_unseen : (x : Surroundings) (a : Shown) (id : ℕ) (setting : Setting)
    → KeepsOrder x.loose (Act.Adjusted id setting)
    → IsUnseen x a (Act.Adjusted id setting ∷ []) (adjusted a id setting)
adjusted_unseen x a id setting orderly = record {
  same = the_same_status_is_the_same_stage a (adjusted a id setting) (settings_keep_the_status a id setting);
  none = settings_begin_no_reset a id setting;
  past = settings_reset_no_more a id setting;
  empty = settings_hold_nothing a id setting;
  leads = setting_leads_on a (adjusted a id setting) id setting refl;
  nobody = (tt, tt);
  orderly = (orderly, tt);
  ends_none = ((λ s n. n), tt);
  outgoing = λ h. settings_are_no_events (parts a h) id setting x.out;
  incoming = λ h. own_acts_leave_what_comes (Act.Adjusted id setting) (parts a h) x.coming tt;
}

adjusted_settles : (x : Surroundings) (a : Shown) (id : ℕ) (setting : Setting) → Faces x a
    → KeepsOrder x.loose (Act.Adjusted id setting) → stream_refusal a id ≡ None
    → SettlesQuietly x (adjusted a id setting)
adjusted_settles x a id setting f orderly e =
    unseen_settles (Act.Adjusted id setting ∷ []) (adjusted_unseen x a id setting orderly)
    (found_streams_are_live a id e).working f

-- What is set on a live stream, but for its order and reliability, is nothing to the directions.
pub sets_settle : {x : Surroundings} {a b : Shown} (id : ℕ) (setting : Setting) (r : Reply)
    → ((s : ℕ) → SetsReliability (Act.Adjusted id setting) s → ⊥) → Sets a id setting r b → Faces x a
    → SettlesQuietly x b
sets_settle {x} {a} id setting replies.Done orderly h f =
    subst (SettlesQuietly x) (sym h.1)
    (adjusted_settles x a id setting f (orderly_acts_keep_order x.loose (Act.Adjusted id setting) orderly) h.0)
sets_settle id setting (replies.Refused n) orderly h f = same_settles h.1 f
sets_settle id setting r orderly h f = absurd h

-- Order and reliability are set on a stream

-- where a call with this reply sets a stream so, it sends ordered, reliable messages then, or is loose
abbrev pub IsCovered : (ℕ → Bool) → ℕ → ReliabilityParams → Reply → Type 0
IsCovered loose id params replies.Done = (params ≡ ordered_and_reliable) ⊎ (loose id ≡ true)
IsCovered loose id params r = Unit {0}

-- a stream of this map, if it is the one that is set, sends what is set
set_in_order : (o : Option StreamView) (m : StreamMap) (id s : ℕ) (params : ReliabilityParams) → stream_at m id ≡ o
    → (id ≡ s → params ≡ ordered_and_reliable) → IsKeptInOrder m s
    → IsKeptInOrder (change_at (λ t. with_setting t (settings.Reliability params)) o m id) s
set_in_order None m id s params e same kept = kept
set_in_order (Some t) m id s params e same kept =
    each_with m id t (with_setting t (settings.Reliability params))
    (λ n o. n ≡ s → (v : StreamView) → o ≡ Some v → v.params ≡ ordered_and_reliable) e
    (λ n ne is. subst (IsKeptInOrder m) (sym is) kept)
    (λ is v i. let one : with_setting t (settings.Reliability params) ≡ v = cc in
    ap (λ z. z.params) (sym one) ∙ same is)
    s refl

covered_keeps_order : (loose : ℕ → Bool) (id : ℕ) (params : ReliabilityParams)
    → (params ≡ ordered_and_reliable) ⊎ (loose id ≡ true)
    → KeepsOrder loose (Act.Adjusted id (settings.Reliability params))
covered_keeps_order loose id params covered p s tight h =
    set_in_order (stream_at p.streams id) p.streams id s params refl
    (λ is. ⊎_elim
    (λ (e : params ≡ ordered_and_reliable). e)
    (λ (l : loose id ≡ true). absurd (true≢false (sym l ∙ ap loose is ∙ tight)))
    covered)
    h

-- Order and reliability that are set are nothing to the directions.
pub reliability_settles : {x : Surroundings} {a b : Shown} (id : ℕ) (params : ReliabilityParams) (r : Reply)
    → IsCovered x.loose id params r → Sets a id (settings.Reliability params) r b → Faces x a → SettlesQuietly x b
reliability_settles {x} {a} id params replies.Done covered h f =
    subst (SettlesQuietly x) (sym h.1) (adjusted_settles x a id (settings.Reliability params) f
    (covered_keeps_order x.loose id params covered) h.0)
reliability_settles id params (replies.Refused n) covered h f = same_settles h.1 f
reliability_settles id params r covered h f = absurd h

-- A stream is accepted

accepted_settles : {x : Surroundings} {a b : Shown} (id : Option ℕ) → a.failed ≡ false → accepted_stream a ≡ (b, id)
    → Faces x a → SettlesQuietly x b
accepted_settles {x} {a} {b} id working e f =
    let is : (accepted_stream a).0 ≡ b = ap (λ (z : Shown × Option ℕ). z.0) e in
    idle_settles
    (subst (λ z. IsSameStatus a z × (z.streams ≡ a.streams)) is (accepted_streams_keep_the_status a))
    (λ none. subst HasNoReset is (accepted_streams_begin_no_reset a none))
    (λ over h. subst (ResetsPastOnly over) is (accepted_streams_reset_no_more a over h))
    (accept_leads_on a b id e) working f

accepted_if_failed : (a b : Shown) (id : Option ℕ) → a.failed ≡ true → accepted_stream a ≡ (b, id) → b ≡ a
accepted_if_failed a b id failed e =
    sym (ap (λ (z : Shown × Option ℕ). z.0) (subst (λ (c : Bool). (if c then (a, None) else accepted_from a.to_accept a)
    ≡ (b, id)) failed e))

-- The oldest stream that the peer opened is accepted, or there is none.
pub accepts_settle : {x : Surroundings} {a b : Shown} (r : Reply) → AcceptsStream a r b → Faces x a → SettlesQuietly x b
accepts_settle {x} {a} {b} (replies.Accepted id) h f =
    ⊎_elim
    (λ (failed : a.failed ≡ true). same_settles (accepted_if_failed a b id failed h) f)
    (λ (working : a.failed ≡ false). accepted_settles id working h f)
    (cases_Bool a.failed)
accepts_settle r h f = absurd h

-- A limit is set

limit_if_failed : (a b : Shown) (size : ℕ) → a.failed ≡ true → b ≡ with_max_send_message_size a size → b ≡ a
limit_if_failed a b size failed e =
    subst (λ (c : Bool). b ≡ (if c then a else record a { max_send_message_size = size })) failed e

limit_settles : {x : Surroundings} {a b : Shown} (size : ℕ) → a.failed ≡ false
    → b ≡ with_max_send_message_size a size → Faces x a → SettlesQuietly x b
limit_settles {x} {a} {b} size working e f =
    idle_settles
    (subst (λ z. IsSameStatus a z × (z.streams ≡ a.streams)) (sym e) (limits_keep_the_status a size))
    (λ none. subst HasNoReset (sym e) (limits_begin_no_reset a size none))
    (λ over h. subst (ResetsPastOnly over) (sym e) (limits_reset_no_more a size over h))
    (limit_leads_on a b size e) working f

-- Writes take messages of up to so many bytes from now on.
pub limits_settle : {x : Surroundings} {a b : Shown} (size : ℕ) (r : Reply) → Limits a size r b → Faces x a
    → SettlesQuietly x b
limits_settle {x} {a} {b} size replies.Done h f =
    ⊎_elim
    (λ (failed : a.failed ≡ true). same_settles (limit_if_failed a b size failed h) f)
    (λ (working : a.failed ≡ false). limit_settles size working h f)
    (cases_Bool a.failed)
limits_settle size r h f = absurd h

-- The application closes

module _ (x : Surroundings) (a : Shown) (f : Faces x a) where
  closed_settles : a.failed ≡ false → SettlesQuietly x (closed_by a reasons.AssociationClosed)
  closed_settles working =
      let b : Shown = closed_by a reasons.AssociationClosed in
      let closes = faults_close a reasons.AssociationClosed in
      ⊎_elim
      (λ (closed : is_closed_state a.state ≡ true). same_settles (closes.stays closed) f)
      (λ (opened : is_closed_state a.state ≡ false).
      let ended = closes.ends opened in
      by_working (SettlesQuietly x b) working f
      (λ s. settles_by_receiver Event.Close f tt (λ n. n) (λ o n. n) (λ o n. n)
      (λ works. (the_same_handshake_is_the_same_stage a b closes.side closes.handshake).0
      ∙ f.at (sym closes.failed ∙ works))
      (inr (inl record {
        closed = ended.closed;
        unestablished = ended.unestablished;
        lost = ended.lost;
        stopped = closed_receivers_are_not_open x.coming;
        nothing_left = ended.holds_nothing;
        truthful = closes.truthful x.own s.truthful;
        no_reset = closes_end_resets a reasons.AssociationClosed opened;
      })))
      (λ s. absurd (true≢false (sym s.closed ∙ opened))))
      (cases_Bool (is_closed_state a.state))

-- The application's close stops what comes where the association is open; where memory is refused it failed.
pub closes_settle : {x : Surroundings} {a b : Shown} (r : Reply) → ClosesOne a r b → Faces x a → SettlesQuietly x b
closes_settle {x} {a} replies.Done h f = subst (SettlesQuietly x) (sym h.1) (closed_settles x a f h.0)
closes_settle (replies.Refused n) h f = refused_call_settles h f
closes_settle r h f = absurd h
