-- How far quiet events and those of a receiver bring a course, and what keeps to the courses of streams.
use Rattle.std.proofs.Common.{◌≡◌, refl, sym, ap, ◌∙◌, subst, subst₂, ℕ, ◌≤◌, Bool, true, false, not, ◌&&◌}
use Rattle.std.proofs.Common.{if◌then◌else◌, eqb, nat_le, nat_lt, List, [], ◌∷◌, ◌++◌, length, Option, Some, None}
use Rattle.std.proofs.Common.{is_some, arith}
use Rattle.std.specs.List.{AllByRecursion}
use Rattle.std.proofs.lemmas.Bool.{false≢true}
use Rattle.sctp_wire_types.specs.declared.chunk.ChunkPayloadData.{ChunkPayloadData}
use Rattle.sctp_model.proofs.Lists.{all_join, all_weaker}
use Rattle.sctp_streams.specs.Streams.{StreamMap}
use Rattle.sctp_reset_requests.specs.Laws.{IsCompletedUpTo}
use Rattle.sctp_reset_requests.specs.Request.{PeerRequestView}
use Rattle.sctp_resets.specs.Resets.{ResetsView}
use Rattle.sctp_courses.specs.Course.{Course, Live, Request, is_marked, is_readable, times}
use Rattle.sctp_courses.specs.Events.{Event, are_held, discarded, finished, given_next, happens, is_due, is_hidden}
use Rattle.sctp_courses.specs.Events.{is_idle}
use Rattle.sctp_courses.specs.Events.{is_new, kept, last_boundary, left, opened, passed_first, performed_next}
use Rattle.sctp_courses.specs.Events.{read_from}
use Rattle.sctp_courses.specs.Events.{released, retired, run, taken_in}
use Rattle.sctp_courses.specs.Invariants.{Invariant}
use Rattle.sctp_courses.proofs.Proved.{each_event_keeps_the_invariant}
use Rattle.sctp_reset_fit.specs.Held.{IsHeldOn}
use Rattle.sctp_reset_fit.specs.Keeping.{GoesOn, GoesOnBeside, IsAsFar, KeepsCourse, StandsBeside, is_at_receiver}
use Rattle.sctp_reset_fit.specs.Laws.{LeadsTo, Stands, is_quiet}
use Rattle.sctp_reset_fit.specs.Stands.{AreKept, IsOnce, MarksAs, NamesOnce, TellsHeld, WaitsAs, offsets_of}
use Rattle.sctp_generations.specs.Retiring.{boundaries_at}
use Rattle.sctp_reset_fit.proofs.Leading.{leads_nowhere, leads_on, run-join}
use Rattle.sctp_reset_fit.proofs.Passing.{IsAlike, leads_keep}
use Rattle.sctp_reset_fit.proofs.Piles.{empty_on, more_on, passed_on, pushed_on, skipped_on}

-- what a stream holds is told from offsets
pub tells : (P : ChunkPayloadData → Type 0) (initial id : ℕ) → TellsHeld initial id P (IsHeldOn P initial id)
tells P initial id = record {
  empty = empty_on P initial id;
  more = more_on P initial id;
  pushes = λ q os p limit so same accepted h. pushed_on P initial id q os p limit so same accepted h;
  skips = skipped_on P initial id;
  passes = passed_on P initial id;
}

-- Quiet events leave what the sender did, and how far the receiver came

-- a course is as far as itself
far_itself : (c : Course) → IsAsFar c c
far_itself c = record {
  asked = refl;
  assigned = refl;
  mine = refl;
  performed = refl;
  point = refl;
  taken = refl;
}

far_on : (b c d : Course) → IsAsFar b c → IsAsFar c d → IsAsFar b d
far_on b c d f g = record {
  asked = g.asked ∙ f.asked;
  assigned = g.assigned ∙ f.assigned;
  mine = g.mine ∙ f.mine;
  performed = g.performed ∙ f.performed;
  point = g.point ∙ f.point;
  taken = g.taken ∙ f.taken;
}

-- a state with the same of each
abbrev far_parts : Course → List Request × ℕ × List ℕ × ℕ × ℕ × List ℕ
far_parts c = (c.asked, c.assigned, c.mine, c.performed, c.point, c.taken)

far_same : (c d : Course) → far_parts d ≡ far_parts c → IsAsFar c d
far_same c d e = record {
  asked = ap (λ (x : List Request × ℕ × List ℕ × ℕ × ℕ × List ℕ). x.0) e;
  assigned = ap (λ (x : List Request × ℕ × List ℕ × ℕ × ℕ × List ℕ). x.1) e;
  mine = ap (λ (x : List Request × ℕ × List ℕ × ℕ × ℕ × List ℕ). x.2) e;
  performed = ap (λ (x : List Request × ℕ × List ℕ × ℕ × ℕ × List ℕ). x.3) e;
  point = ap (λ (x : List Request × ℕ × List ℕ × ℕ × ℕ × List ℕ). x.4) e;
  taken = ap (λ (x : List Request × ℕ × List ℕ × ℕ × ℕ × List ℕ). x.5) e;
}

far_if : (b : Bool) (c d : Course) → IsAsFar c d → IsAsFar c (if b then d else c)
far_if true c d f = f
far_if false c d f = far_itself c

far_released : (b : Bool) (c d e : Course) → IsAsFar c d → IsAsFar c e → IsAsFar c (if b then d else e)
far_released true c d e f g = f
far_released false c d e f g = g

far_given : (hand : List ℕ) (c : Course) → IsAsFar c (given_next hand c)
far_given [] c = far_itself c
far_given (o ∷ os) c = far_same c (given_next (o ∷ os) c) refl

far_passed : (marks : List ℕ) (c : Course) → IsAsFar c (passed_first marks c)
far_passed [] c = far_itself c
far_passed (mark ∷ marks) c = far_same c (passed_first (mark ∷ marks) c) refl

far_read : (os : List ℕ) (live : Option Live) (c : Course) → IsAsFar c (read_from os live c)
far_read os None c = far_itself c
far_read os (Some l) c = far_if (l.is_open && are_held os l.held) c _ (far_same c _ refl)

-- by one event
far_by : (c : Course) (e : Event) → is_quiet e ≡ true → IsAsFar c (happens c e)
far_by c Event.AssignsMine q = absurd (false≢true q)
far_by c Event.AssignsOther q = absurd (false≢true q)
far_by c (Event.Asks named) q = absurd (false≢true q)
far_by c (Event.Advances point) q = absurd (false≢true q)
far_by c (Event.Takes o) q = absurd (false≢true q)
far_by c (Event.Keeps o) q = absurd (false≢true q)
far_by c (Event.Opens generation) q =
    far_if (not c.retires && (not (is_some c.live) && nat_le c.next generation)) c (opened c generation)
    (far_same c (opened c generation) refl)
far_by c Event.Comes q = absurd (false≢true q)
far_by c Event.Performs q = absurd (false≢true q)
far_by c Event.Retires q = far_if c.retires c (retired c) (far_same c (retired c) refl)
far_by c Event.Leaves q =
    far_if (c.retires && is_marked c.marks c.deferred (last_boundary c)) c (left c) (far_same c (left c) refl)
far_by c Event.Finishes q =
    far_if (c.retires && eqb (length c.marks) 0) c (finished c) (far_same c (finished c) refl)
far_by c Event.Releases q =
    far_if (c.releases && not c.retires) c (released c)
    (far_released (eqb (length c.marks) 0) c (record c { hand = c.deferred; deferred = []; releases = false })
    (record c { releases = false })
    (far_same c (record c { hand = c.deferred; deferred = []; releases = false }) refl)
    (far_same c (record c { releases = false }) refl))
far_by c Event.Gives q = far_given c.hand c
far_by c Event.Passes q = far_if (is_idle c) c (passed_first c.marks c) (far_passed c.marks c)
far_by c (Event.Reads os) q = far_read os c.live c
far_by c (Event.Holds test) q = far_same c (happens c (Event.Holds test)) refl
far_by c (Event.Defers test) q = far_same c (happens c (Event.Defers test)) refl
far_by c Event.Closes q = far_same c (happens c Event.Closes) refl
far_by c Event.Discards q =
    far_if (is_idle c && not (is_readable c.live)) c (discarded c) (far_same c (discarded c) refl)
far_by c Event.Vanishes q =
    far_released (is_readable c.live) c c (record c { live = None }) (far_itself c)
    (far_same c (record c { live = None }) refl)

far_run : (es : List Event) (c : Course) → AllByRecursion (λ (e : Event). is_quiet e ≡ true) es → IsAsFar c (run es c)
far_run [] c q = far_itself c
far_run (e ∷ es) c q = far_on c (happens c e) (run es (happens c e)) (far_by c e q.0) (far_run es (happens c e) q.1)

-- Where a course leads, it is as far.
pub far_of : (c d : Course) → LeadsTo c d → IsAsFar c d
far_of c d leads = subst (IsAsFar c) (sym leads.is) (far_run leads.events c leads.quiet)

-- What a receiver does

-- a quiet event is one of the receiver
quiet_received : (e : Event) → is_quiet e ≡ true → is_at_receiver e ≡ true
quiet_received Event.AssignsMine q = absurd (false≢true q)
quiet_received Event.AssignsOther q = absurd (false≢true q)
quiet_received (Event.Asks named) q = absurd (false≢true q)
quiet_received (Event.Advances point) q = refl
quiet_received (Event.Takes o) q = refl
quiet_received (Event.Keeps o) q = refl
quiet_received (Event.Opens generation) q = refl
quiet_received Event.Comes q = refl
quiet_received Event.Performs q = refl
quiet_received Event.Retires q = refl
quiet_received Event.Leaves q = refl
quiet_received Event.Finishes q = refl
quiet_received Event.Releases q = refl
quiet_received Event.Gives q = refl
quiet_received Event.Passes q = refl
quiet_received (Event.Reads os) q = refl
quiet_received (Event.Holds test) q = refl
quiet_received (Event.Defers test) q = refl
quiet_received Event.Closes q = refl
quiet_received Event.Discards q = refl
quiet_received Event.Vanishes q = refl

-- Where a course leads, it goes on.
pub goes_of : (c d : Course) → LeadsTo c d → GoesOn c d
goes_of c d leads = record {
  events = leads.events;
  received = all_weaker (λ (e : Event). is_quiet e ≡ true) (λ (e : Event). is_at_receiver e ≡ true) leads.events
      quiet_received leads.quiet;
  is = leads.is;
}

pub goes_nowhere : (c : Course) → GoesOn c c
goes_nowhere c = record { events = []; received = tt; is = refl }

pub goes_by : (c : Course) (e : Event) → is_at_receiver e ≡ true → GoesOn c (happens c e)
goes_by c e received = record { events = e ∷ []; received = (received, tt); is = refl }

pub goes_on : (b c d : Course) → GoesOn b c → GoesOn c d → GoesOn b d
goes_on b c d first later = record {
  events = first.events ++ later.events;
  received = all_join (λ (e : Event). is_at_receiver e ≡ true) first.events later.events first.received later.received;
  is = later.is ∙ ap (run later.events) first.is ∙ sym (run-join first.events later.events b);
}

kept_run : (es : List Event) (c : Course) → Invariant c → Invariant (run es c)
kept_run [] c h = h
kept_run (e ∷ es) c h = kept_run es (happens c e) (each_event_keeps_the_invariant c e h)

-- Where it goes on the invariant stays.
pub goes_kept : (c d : Course) → GoesOn c d → Invariant c → Invariant d
goes_kept c d goes h = subst Invariant (sym goes.is) (kept_run goes.events c h)

-- What the sender did is as it was, and no request was performed any less.
abbrev HasLeft : Course → Course → Type 0
HasLeft c d = (d.asked ≡ c.asked) × (d.assigned ≡ c.assigned) × (d.mine ≡ c.mine) × (c.performed ≤ d.performed)

left_itself : (c : Course) → HasLeft c c
left_itself c = (refl, refl, refl, omega arith)

left_on : (b c d : Course) → HasLeft b c → HasLeft c d → HasLeft b d
left_on b c d f g = (
  g.0 ∙ f.0,
  g.1 ∙ f.1,
  g.2 ∙ f.2,
  (let l : b.performed ≤ c.performed = f.3 in let m : c.performed ≤ d.performed = g.3 in omega arith),
)

left_of_far : (c d : Course) → IsAsFar c d → HasLeft c d
left_of_far c d f =
    (f.asked, f.assigned, f.mine, (let e : d.performed ≡ c.performed = f.performed in omega arith))

left_if : (b : Bool) (c d : Course) → HasLeft c d → HasLeft c (if b then d else c)
left_if true c d f = f
left_if false c d f = left_itself c

-- by one event
left_by : (c : Course) (e : Event) → is_at_receiver e ≡ true → HasLeft c (happens c e)
left_by c Event.AssignsMine r = absurd (false≢true r)
left_by c Event.AssignsOther r = absurd (false≢true r)
left_by c (Event.Asks named) r = absurd (false≢true r)
left_by c (Event.Advances point) r =
    left_if (nat_le c.point point) c (record c { point = point }) (refl, refl, refl, omega arith)
left_by c (Event.Takes o) r =
    left_if (is_idle c && (is_new c o && (is_some c.live && not (is_hidden c o)))) c (taken_in c o)
    (refl, refl, refl, omega arith)
left_by c (Event.Keeps o) r =
    left_if (is_idle c && (is_new c o && is_hidden c o)) c (kept c o) (refl, refl, refl, omega arith)
left_by c (Event.Opens generation) r = left_of_far c _ (far_by c (Event.Opens generation) refl)
left_by c Event.Comes r =
    left_if (is_idle c && nat_lt c.performed (length c.asked)) c (record c { waits = true })
    (refl, refl, refl, omega arith)
left_by c Event.Performs r =
    left_if (is_idle c && is_due c) c (performed_next c) (refl, refl, refl, omega arith)
left_by c Event.Retires r = left_of_far c _ (far_by c Event.Retires refl)
left_by c Event.Leaves r = left_of_far c _ (far_by c Event.Leaves refl)
left_by c Event.Finishes r = left_of_far c _ (far_by c Event.Finishes refl)
left_by c Event.Releases r = left_of_far c _ (far_by c Event.Releases refl)
left_by c Event.Gives r = left_of_far c _ (far_by c Event.Gives refl)
left_by c Event.Passes r = left_of_far c _ (far_by c Event.Passes refl)
left_by c (Event.Reads os) r = left_of_far c _ (far_by c (Event.Reads os) refl)
left_by c (Event.Holds test) r = left_of_far c _ (far_by c (Event.Holds test) refl)
left_by c (Event.Defers test) r = left_of_far c _ (far_by c (Event.Defers test) refl)
left_by c Event.Closes r = left_of_far c _ (far_by c Event.Closes refl)
left_by c Event.Discards r = left_of_far c _ (far_by c Event.Discards refl)
left_by c Event.Vanishes r = left_of_far c _ (far_by c Event.Vanishes refl)

left_run : (es : List Event) (c : Course) → AllByRecursion (λ (e : Event). is_at_receiver e ≡ true) es
    → HasLeft c (run es c)
left_run [] c r = left_itself c
left_run (e ∷ es) c r = left_on c (happens c e) (run es (happens c e)) (left_by c e r.0) (left_run es (happens c e) r.1)

-- Where a course goes on, its sender did nothing, and no request was performed any less.
pub goes_leaves : (c d : Course) → GoesOn c d
    → (d.asked ≡ c.asked) × (d.assigned ≡ c.assigned) × (d.mine ≡ c.mine) × (c.performed ≤ d.performed)
goes_leaves c d goes = subst (HasLeft c) (sym goes.is) (left_run goes.events c goes.received)

-- What keeps to a course

pub keeps_same : (P : ChunkPayloadData → Type 0) (initial id : ℕ) (r : ResetsView) (m : StreamMap)
    → KeepsCourse P initial id r m r m
keeps_same P initial id r m c inv h read =
    (record { after = c; leads = leads_nowhere c; stands = h; told = refl }, read)

pub keeps_then : (P : ChunkPayloadData → Type 0) (initial id : ℕ) (r s t : ResetsView) (m n k : StreamMap)
    → KeepsCourse P initial id r m s n
    → KeepsCourse P initial id s n t k → KeepsCourse P initial id r m t k
keeps_then P initial id r s t m n k first later c inv h read =
    let one = first c inv h read in
    let two = later one.0.after (leads_keep c one.0.after one.0.leads inv) one.0.stands one.1 in (
      record {
        after = two.0.after;
        leads = leads_on c one.0.after two.0.after one.0.leads two.0.leads;
        stands = two.0.stands;
        told = two.0.told ∙ one.0.told;
      },
      two.1,
    )

-- where nothing that the course has is another, and the same request waits
pub alike_keeps : (P : ChunkPayloadData → Type 0) (initial id : ℕ) (r s : ResetsView) (m n : StreamMap)
    → IsAlike id (IsHeldOn P initial id) r.generations m s.generations n → s.peer.in_progress ≡ r.peer.in_progress
    → KeepsCourse P initial id r m s n
alike_keeps P initial id r s m n a same c inv h read =
    (record { after = c; leads = leads_nowhere c; stands = stands; told = refl }, read)
  where
    stands : Stands P initial id s.generations n s.peer.in_progress c
    stands = record {
      live = a.live c.live h.live;
      next = let e = a.next in let l = h.next in omega arith;
      marks = subst (λ rs. MarksAs initial (boundaries_at rs id) c.marks) (sym a.retiring) h.marks;
      kept = subst (AreKept initial P) (sym a.deferred) h.kept;
      deferred = λ o.
          subst (λ ds. times o (offsets_of initial id ds) ≤ times o c.deferred) (sym a.deferred) (h.deferred o);
      waits = subst (λ (q : Option PeerRequestView). WaitsAs initial id q c) (sym same) h.waits;
      once_named = subst (NamesOnce id) (sym same) h.once_named;
      once_live = a.once h.once_live;
      once_marked = subst (λ rs. IsOnce id rs) (sym a.retiring) h.once_marked;
      open_where_marked = h.open_where_marked;
      near = h.near;
      still = h.still;
    }

-- What keeps to a course goes on beside it, where the peer's requests are the same.
pub beside_keeps : (P : ChunkPayloadData → Type 0) (initial id : ℕ) (r s : ResetsView) (m n : StreamMap) (c : Course)
    → KeepsCourse P initial id r m s n
    → s.peer ≡ r.peer → StandsBeside P initial id r m c
    → (g : GoesOnBeside P initial id s n c) × (g.after.performed ≡ c.performed)
beside_keeps P initial id r s m n c keeps same beside =
    let one = keeps c beside.kept beside.stands beside.read_on in
    let d : Course = one.0.after in
    let far : IsAsFar c d = far_of c d one.0.leads in (
      record {
        after = d;
        goes = goes_of c d one.0.leads;
        stands = record {
          kept = leads_keep c d one.0.leads beside.kept;
          stands = one.0.stands;
          read_on = one.1;
          numbered = subst₂ (IsCompletedUpTo initial) (sym far.performed) (sym same) beside.numbered;
        };
        told = one.0.told;
        point = far.point;
        taken = far.taken;
      },
      far.performed,
    )
