-- The calls of a side that receives keep to the course of each stream, all but reads. Nothing comes by them, and
-- nothing is read.
use Rattle.std.proofs.Common.{◌≡◌, refl, sym, ap, ◌∙◌, subst, ℕ, ◌<◌, ◌≤◌, ◌^◌, Bool, true, false, cond}
use Rattle.std.proofs.Common.{if◌then◌else◌, List, [], ◌∷◌, length, Option, Some, None}
use Rattle.std.specs.Prelude.{remove, slice_get, ⊤}
use Rattle.std.proofs.lemmas.Bool.{true≢false}
use Rattle.sctp_wire_types.specs.Config.{is_rfc}
use Rattle.sctp_wire_types.specs.declared.chunk.ChunkPayloadData.{ChunkPayloadData}
use Rattle.sctp_model.specs.Packets.{mem}
use Rattle.sctp_wire_types.specs.declared.ids.PayloadProtocolIdentifier.{PayloadProtocolIdentifier}
use Rattle.sctp_streams.specs.declared.event.AssociationError.{AssociationError}
use Rattle.sctp_streams.specs.declared.event.AssociationError.TheVariants as reasons
use Rattle.sctp_streams.specs.declared.event.Event.{Event}
use Rattle.sctp_streams.specs.declared.setting.Setting.{Setting}
use Rattle.sctp_streams.specs.declared.setting.Setting.TheVariants as settings
use Rattle.sctp_streams.specs.Stream.{StreamView, is_read_half_open}
use Rattle.sctp_streams.specs.Streams.{StreamMap, stream_at}
use Rattle.sctp_reset_requests.specs.Peer.{PeerView}
use Rattle.sctp_resets.specs.Resets.{Beside, ResetsView, event_told, event_told_at, is_retiring, stopped_reading}
use Rattle.sctp_resets.specs.Resets.{waiting_for, with_event}
use Rattle.sctp_resets.specs.Telling.{next_told}
use Rattle.sctp_directions.specs.Acts.{History, reach_in, type_on}
use Rattle.sctp_courses.specs.Course.{Course, Request}
use Rattle.sctp_reset_fit.specs.Keeping.{GoesOn, IsAsFar, KeepsCourse, StandsBeside}
use Rattle.sctp_reset_fit.specs.Laws.{LeadsTo}
use Rattle.sctp_reset_fit.proofs.Keeping.{beside_keeps, far_of, goes_leaves, goes_of}
use Rattle.sctp_reset_fit.proofs.Passing.{leads_keep}
use Rattle.sctp_reset_fit.proofs.Stopping.{stopped_open_keeps, with_read_half_closed, with_reads_stopped}
use Rattle.sctp_reset_fit.proofs.Streams.{made_keeps, setting_keeps, written_keeps}
use Rattle.sctp_assoc.specs.Calls.{accepted_from, adjusted, credit_in, eased, event_from, event_polled, holds_of}
use Rattle.sctp_assoc.specs.Calls.{opened, stopped, stopped_open, tells_window, told_if, unread_dropped}
use Rattle.sctp_assoc.specs.Calls.{without_read_half_of, written_at}
use Rattle.sctp_assoc.specs.Closing.{closed_by, closed_open, exhausted, is_closed_state, is_exhausted, out_of_resource}
use Rattle.sctp_assoc.specs.Closing.{relieved}
use Rattle.sctp_assoc.specs.Control.{queued}
use Rattle.sctp_assoc.specs.Leads.{Binds, IsSamePast}
use Rattle.sctp_assoc.specs.Resets.{with_beside}
use Rattle.sctp_assoc.specs.Shown.{Shown}
use Rattle.sctp_assoc.specs.Shutdown.{endpoint_event_polled, shutdown_begun}
use Rattle.sctp_sides.specs.OneSide.{Call, call_refusal, carried_out, with_told}
use Rattle.sctp_sides.proofs.LiveStreams.{opened_streams_were_not_live}
use Rattle.sctp_course_sides.specs.Follows.{AwaitsIts, Follows, IsUntouched}
use Rattle.sctp_course_sides.proofs.ReadsStopped.{stopped_has}
use Rattle.sctp_course_sides.proofs.ReceiverPolls.{KeepsOn, course_on, polled_on, same_on, stays_on, then_on}
use Rattle.sctp_course_sides.proofs.ReceiverPolls.{timeouts_on, with_peer_of}

-- A call by which nothing comes and nothing is read.
abbrev pub BringsAndReadsNothing : Call → Type 0
BringsAndReadsNothing (Call.Read k) = ⊥
BringsAndReadsNothing (Call.HandleEvent packet now) = ⊥
BringsAndReadsNothing call = ⊤

-- Requests and what is owed

event_stays : (o : Option Event) (r : ResetsView) (rest : List Event)
    → ((with_event o r rest).0.generations ≡ r.generations) × ((with_event o r rest).0.peer ≡ r.peer)
event_stays None r rest = (refl, refl)
event_stays (Some event) r rest = (refl, refl)

told_stays : (o : Option ℕ) (r : ResetsView) (told : List Event)
    → ((event_told_at o r told).0.generations ≡ r.generations) × ((event_told_at o r told).0.peer ≡ r.peer)
told_stays None r told = (refl, refl)
told_stays (Some index) r told = event_stays (slice_get told index) r (remove told index)

stopped_peer : (retires : Bool) (r : ResetsView) (m n : StreamMap) (told : List Event) (k : ℕ)
    → (cond {A = Beside} retires (stopped_reading k r (with_read_half_closed m k) told)
    (waiting_for r k, n, told)).0.peer ≡ r.peer
stopped_peer true r m n told k =
    stopped_has (λ (s : ResetsView). s.peer ≡ r.peer) k r (with_read_half_closed m k) told refl refl
stopped_peer false r m n told k = refl

-- a stop, by its two ways, where these streams are left of one that does not retire
stopped_is : (retires : Bool) (a : Shown) (k : ℕ) (n : StreamMap)
    → (if retires then
    with_beside (without_read_half_of a k)
    (stopped_reading k a.resets (with_read_half_closed a.streams k) a.events)
    else record (without_read_half_of a k) { streams = n; resets = waiting_for a.resets k })
    ≡ with_beside (without_read_half_of a k)
    (cond {A = Beside} retires (stopped_reading k a.resets (with_read_half_closed a.streams k) a.events)
    (waiting_for a.resets k, n, a.events))
stopped_is true a k n = refl
stopped_is false a k n = refl

-- The stream of a course, and the initial TSN.
module _ (P : ChunkPayloadData → Type 0) (initial id : ℕ) where
  -- one that closes is lost then

  closed_on_if : (closed : Bool) (a : Shown) (reason : AssociationError)
      → (if closed then a else closed_open a reason).lost ≡ false
      → KeepsOn P initial id a (if closed then a else closed_open a reason)
  closed_on_if true a reason lost = stays_on P initial id a
  closed_on_if false a reason lost = absurd (true≢false lost)

  closed_on : (a : Shown) (reason : AssociationError) → (closed_by a reason).lost ≡ false
      → KeepsOn P initial id a (closed_by a reason)
  closed_on a reason lost = closed_on_if (is_closed_state a.state) a reason lost

  relieved_on_if : (e : Bool) (a : Shown) → (if e then exhausted a else a).lost ≡ false
      → KeepsOn P initial id a (if e then exhausted a else a)
  relieved_on_if true a lost =
      let b : Shown = closed_by a reasons.ReceiveBufferExhausted in
      then_on P initial id (closed_on a reasons.ReceiveBufferExhausted lost)
      (same_on P initial id b (queued b out_of_resource) refl refl refl)
  relieved_on_if false a lost = stays_on P initial id a

  relieved_on : (a : Shown) → (relieved a).lost ≡ false → KeepsOn P initial id a (relieved a)
  relieved_on a lost = relieved_on_if (is_exhausted a) a lost

  -- a window that opened may be told, of one that did not close
  eased_on_if : (tells : Bool) (a b : Shown) → (b.lost ≡ false → KeepsOn P initial id a b)
      → (told_if tells b).lost ≡ false → KeepsOn P initial id a (told_if tells b)
  eased_on_if true a b on lost =
      then_on P initial id (on lost) (same_on P initial id b (told_if true b) refl refl refl)
  eased_on_if false a b on lost = on lost

  pub eased_on : (before : ℕ) (a : Shown) → (eased before a).lost ≡ false → KeepsOn P initial id a (eased before a)
  eased_on before a lost = eased_on_if (tells_window before (relieved a)) a (relieved a) (relieved_on a) lost

  -- Streams, writes, settings and limits

  opened_on : (a : Shown) (k : ℕ) (kind : PayloadProtocolIdentifier) → stream_at a.streams k ≡ None
      → KeepsOn P initial id a (opened a k kind)
  opened_on a k kind none =
      course_on P initial id a (opened a k kind)
      (made_keeps P initial id a.resets a.streams k a.sender.queue.next_message_id kind none) refl

  written_on_at : (o : Option StreamView) (a : Shown) (k : ℕ) (named : Option PayloadProtocolIdentifier)
      (bytes : List ℕ) → KeepsOn P initial id a (written_at o a k named bytes)
  written_on_at None a k named bytes = stays_on P initial id a
  written_on_at (Some s) a k named bytes =
      course_on P initial id a (written_at (Some s) a k named bytes)
      (written_keeps P initial id a.resets a.streams k (type_on s named) (length bytes)) refl

  adjusted_on : (a : Shown) (k : ℕ) (setting : Setting) → KeepsOn P initial id a (adjusted a k setting)
  adjusted_on a k setting =
      course_on P initial id a (adjusted a k setting) (setting_keeps P initial id a.resets a.streams k setting) refl

  accepted_on_from : (ids : List ℕ) (a : Shown) → KeepsOn P initial id a (accepted_from ids a).0
  accepted_on_from [] a = stays_on P initial id a
  accepted_on_from (k ∷ ids) a = same_on P initial id a (accepted_from (k ∷ ids) a).0 refl refl refl

  accepted_on_if : (failed : Bool) (a : Shown)
      → KeepsOn P initial id a (if failed then (a, None) else accepted_from a.to_accept a).0
  accepted_on_if true a = stays_on P initial id a
  accepted_on_if false a = accepted_on_from a.to_accept a

  limited_on_if : (failed : Bool) (a : Shown) (size : ℕ)
      → KeepsOn P initial id a (if failed then a else record a { max_send_message_size = size })
  limited_on_if true a size = stays_on P initial id a
  limited_on_if false a size = same_on P initial id a (record a { max_send_message_size = size }) refl refl refl

  -- Events

  told_on_from : (x : ResetsView × List Event × Option Event) (a : Shown)
      → (x.0.generations ≡ a.resets.generations) × (x.0.peer ≡ a.resets.peer)
      → KeepsOn P initial id a (with_told (event_from x a)).0
  told_on_from (r, left, None) a (kept, peer) =
      same_on P initial id a (event_from (r, left, None) a).0 refl kept (ap (with_peer_of a) peer)
  told_on_from (r, left, Some e) a (kept, peer) =
      same_on P initial id a (event_from (r, left, Some e) a).0 refl kept (ap (with_peer_of a) peer)

  told_on : (a : Shown) → KeepsOn P initial id a (with_told (event_polled a)).0
  told_on a =
      told_on_from (event_told a.resets a.events) a
      (told_stays (next_told a.resets.generations a.resets.debts a.events) a.resets a.events)

  -- Stops

  half_beside_on : (a : Shown) (k : ℕ) (x : Beside) → KeepsCourse P initial id a.resets a.streams x.0 x.1
      → x.0.peer ≡ a.resets.peer → KeepsOn P initial id a (with_beside (without_read_half_of a k) x)
  half_beside_on a k (r, m, told) course peer =
      course_on P initial id a (with_beside (without_read_half_of a k) (r, m, told)) course (ap (with_peer_of a) peer)

  stopped_open_on : (a : Shown) (k : ℕ) → KeepsOn P initial id a (stopped_open a k)
  stopped_open_on a k =
      let n : StreamMap = unread_dropped (is_rfc a.profile) (with_read_half_closed a.streams k) k in
      subst (KeepsOn P initial id a) (sym (stopped_is (is_retiring a.resets k) a k n))
      (half_beside_on a k (with_reads_stopped (is_rfc a.profile) k a.resets a.streams a.events)
      (stopped_open_keeps P initial id a.resets a.streams a.events (is_rfc a.profile) k)
      (stopped_peer (is_retiring a.resets k) a.resets a.streams n a.events k))

  stopped_on_if : (reads : Bool) (before : ℕ) (a : Shown) (k : ℕ)
      → (if reads then eased before (stopped_open a k) else a).lost ≡ false
      → KeepsOn P initial id a (if reads then eased before (stopped_open a k) else a)
  stopped_on_if true before a k lost =
      then_on P initial id (stopped_open_on a k) (eased_on before (stopped_open a k) lost)
  stopped_on_if false before a k lost = stays_on P initial id a

  stopped_on : (a : Shown) (k : ℕ) → (stopped a k).lost ≡ false → KeepsOn P initial id a (stopped a k)
  stopped_on a k lost = stopped_on_if (holds_of (λ s. is_read_half_open s.halves) a k) (credit_in a) a k lost

  -- Any call but a read and a datagram

  pub keeps_call : (call : Call) (a : Shown) → BringsAndReadsNothing call → call_refusal call a ≡ None
      → (carried_out call a).0.lost ≡ false → KeepsOn P initial id a (carried_out call a).0
  keeps_call (Call.OpenStream k kind) a quiet e lost =
      opened_on a k kind (opened_streams_were_not_live a k e).1
  keeps_call (Call.Write k named bytes) a quiet e lost = written_on_at (stream_at a.streams k) a k named bytes
  keeps_call (Call.Set k setting) a quiet e lost = adjusted_on a k setting
  keeps_call Call.AcceptStream a quiet e lost = accepted_on_if a.failed a
  keeps_call (Call.SetMaxSendMessageSize size) a quiet e lost = limited_on_if a.failed a size
  keeps_call Call.Shutdown a quiet e lost = same_on P initial id a (shutdown_begun a) refl refl refl
  keeps_call Call.Close a quiet e lost = closed_on a reasons.AssociationClosed lost
  keeps_call (Call.Read k) a quiet e lost = absurd quiet
  keeps_call Call.Poll a quiet e lost = told_on a
  keeps_call Call.PollEndpointEvent a quiet e lost = same_on P initial id a (endpoint_event_polled a).0 refl refl refl
  keeps_call (Call.PollTransmit now) a quiet e lost = polled_on P initial id a now lost
  keeps_call (Call.HandleTimeout now) a quiet e lost = timeouts_on P initial id a now
  keeps_call (Call.HandleEvent packet now) a quiet e lost = absurd quiet
  keeps_call (Call.Stop k) a quiet e lost = stopped_on a k lost
  keeps_call (Call.CloseStream k) a quiet e lost =
      then_on P initial id (adjusted_on a k settings.WriteHalfClosed)
      (stopped_on (adjusted a k settings.WriteHalfClosed) k lost)

-- Where a side follows a course

-- It follows one that this goes on to, where nothing came.
pub follows_beside : (P : ChunkPayloadData → Type 0) (initial id : ℕ) (a b : Shown) (h : History) (c d : Course)
    → Follows P initial id a h c
    → GoesOn c d → StandsBeside P initial id b.resets b.streams d → d.point ≡ c.point → d.taken ≡ c.taken → Binds b h
    → Follows P initial id b h d
follows_beside P initial id a b h c d f goes stands point taken binds =
    let left = goes_leaves c d goes in
    record {
      small = f.small;
      few = subst (λ (rs : List Request). length rs < 2 ^ 31) (sym left.0) f.few;
      binds = binds;
      stands = stands;
      reached = record {
        peer = f.reached.peer;
        point = point ∙ f.reached.point;
        taken = λ o came. f.reached.taken o (subst (λ (os : List ℕ). mem o os ≡ true) taken came);
        assigned = λ o came. subst (λ (n : ℕ). o < n) (sym left.1) (f.reached.assigned o came);
        passed = subst (λ (n : ℕ). h.passed ≤ n) (sym left.1) f.reached.passed;
      };
    }

reach_same : (h k : History) → IsSamePast h k → reach_in h ≡ reach_in k
reach_same h k same = rw (same.taken, same.passed) refl

-- It follows it on each history with the same past on which it stands.
pub follows_past : (P : ChunkPayloadData → Type 0) (initial id : ℕ) (b : Shown) (h k : History) (d : Course)
    → IsSamePast h k → Binds b k
    → Follows P initial id b h d → Follows P initial id b k d
follows_past P initial id b h k d same binds f = record {
  small = f.small;
  few = f.few;
  binds = binds;
  stands = f.stands;
  reached = record {
    peer = same.peer ∙ f.reached.peer;
    point = f.reached.point ∙ reach_same h k same;
    taken = λ o came. subst (λ (os : List ℕ). mem o os ≡ true) (sym same.taken) (f.reached.taken o came);
    assigned = λ o came. f.reached.assigned o (subst (λ (os : List ℕ). mem o os ≡ true) same.taken came);
    passed = subst (λ (n : ℕ). n ≤ d.assigned) (sym same.passed) f.reached.passed;
  };
}

untouched_still : (c d : Course) → IsAsFar c d → IsUntouched c → IsUntouched d
untouched_still c d far u = record {
  asked = far.asked ∙ u.asked;
  assigned = far.assigned ∙ u.assigned;
  performed = far.performed ∙ u.performed;
  point = far.point ∙ u.point;
  taken = far.taken ∙ u.taken;
}

-- What leads quietly leaves nothing sent.
pub untouched_leads : (c d : Course) → LeadsTo c d → IsUntouched c → IsUntouched d
untouched_leads c d leads u = untouched_still c d (far_of c d leads) u

-- What keeps on: the course goes on, and nothing is read.
pub follow_on : (P : ChunkPayloadData → Type 0) (initial id : ℕ) (a b : Shown) (h : History) (c : Course)
    → KeepsOn P initial id a b
    → Follows P initial id a h c
    → (d : Course) × GoesOn c d × (d.told ≡ c.told) × ((k : History) × Follows P initial id b k d)
follow_on P initial id a b h c k f =
    let g = beside_keeps P initial id a.resets b.resets a.streams b.streams c k.keeps.course k.keeps.peer f.stands in
    let d : Course = g.0.after in (
      d,
      g.0.goes,
      g.0.told,
      (h, follows_beside P initial id a b h c d f g.0.goes g.0.stands g.0.point g.0.taken (k.past h f.binds)),
    )

-- So it is of a side that does not know its peer yet.
pub await_on : (P : ChunkPayloadData → Type 0) (initial id : ℕ) (a b : Shown) (c : Course) → KeepsOn P initial id a b
    → AwaitsIts P initial id a c
    → (d : Course) × GoesOn c d × (d.told ≡ c.told) × AwaitsIts P initial id b d
await_on P initial id a b c k w =
    let one = k.keeps.course c w.kept w.stands w.read_on in
    let d : Course = one.0.after in (
      d,
      goes_of c d one.0.leads,
      one.0.told,
      record {
        kept = leads_keep c d one.0.leads w.kept;
        stands = one.0.stands;
        read_on = one.1;
        unknown = ap (λ (p : PeerView). p.last_completed) k.keeps.peer ∙ w.unknown;
        untouched = untouched_leads c d one.0.leads w.untouched;
      },
    )

-- A call by which nothing comes and nothing is read: the course goes on.
pub call_follows : (P : ChunkPayloadData → Type 0) (initial id : ℕ) (call : Call) (a : Shown) (h : History) (c : Course)
    → BringsAndReadsNothing call
    → call_refusal call a ≡ None → (carried_out call a).0.lost ≡ false → Follows P initial id a h c
    → (d : Course) × GoesOn c d × (d.told ≡ c.told)
    × ((k : History) × Follows P initial id (carried_out call a).0 k d)
call_follows P initial id call a h c quiet accepted lost f =
    follow_on P initial id a (carried_out call a).0 h c (keeps_call P initial id call a quiet accepted lost) f

pub call_awaits : (P : ChunkPayloadData → Type 0) (initial id : ℕ) (call : Call) (a : Shown) (c : Course)
    → BringsAndReadsNothing call
    → call_refusal call a ≡ None → (carried_out call a).0.lost ≡ false → AwaitsIts P initial id a c
    → (d : Course) × GoesOn c d × (d.told ≡ c.told) × AwaitsIts P initial id (carried_out call a).0 d
call_awaits P initial id call a c quiet accepted lost w =
    await_on P initial id a (carried_out call a).0 c (keeps_call P initial id call a quiet accepted lost) w
