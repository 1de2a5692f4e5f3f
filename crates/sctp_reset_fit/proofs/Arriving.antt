-- A request of the peer arrives, one of those of the course: then resets and streams stand beside the course as it goes
-- on by that.
use Rattle.std.proofs.Common.{◌≡◌, refl, sym, ap, ◌∙◌, subst, ℕ, ◌+◌, ◌<◌, ◌≤◌, ◌^◌, ◌==◌, ◌&&◌, Bool, true, false}
use Rattle.std.proofs.Common.{cond, eqb, if◌then◌else◌, List, [], ◌∷◌, fold, length, Option, Some, None, is_some}
use Rattle.std.proofs.Common.{nat_lt, arith, Less, is_eq, nat_cmp}
use Rattle.std.specs.BTreeSet.{insert_key}
use Rattle.std.specs.List.{AllByRecursion}
use Rattle.std.specs.List.Sorted.{IsStrictlySortedBy}
use Rattle.std.proofs.lemmas.Bool.{eqb-true, lt-ltb}
use Rattle.sctp_serial.specs.Serial.{tsn, tsn_after}
use Rattle.sctp_wire_types.specs.declared.chunk.ChunkPayloadData.{ChunkPayloadData}
use Rattle.sctp_wire_types.specs.declared.param.ParamOutgoingResetRequest.{ParamOutgoingResetRequest}
use Rattle.sctp_streams.specs.Streams.{StreamMap}
use Rattle.sctp_streams.proofs.LowMarks.{found_as}
use Rattle.sctp_fit.proofs.HeldTsns.{insert_ascends}
use Rattle.sctp_reset_requests.specs.Ids.{set_of}
use Rattle.sctp_reset_requests.specs.Laws.{HasNumber}
use Rattle.sctp_reset_requests.specs.Peer.{PeerView, advanced_with, arrived_as, completed, is_completed, is_current}
use Rattle.sctp_reset_requests.specs.Peer.{is_next, number_before, taken_up}
use Rattle.sctp_reset_requests.specs.Request.{PeerRequestView, is_due, names, request_of}
use Rattle.sctp_reset_requests.specs.declared.answer.Standing.{Standing}
use Rattle.sctp_reset_requests.specs.declared.answer.Standing.TheVariants as standings
use Rattle.sctp_resets.specs.Channels.{Channels}
use Rattle.sctp_resets.specs.Resets.{ResetsView, Resetting, arrived_with, confirmed_by, handled, handled_after}
use Rattle.sctp_resets.specs.Resets.{performed}
use Rattle.sctp_courses.specs.Course.{Course, boundary_at, is_named, times}
use Rattle.sctp_courses.specs.Events.{Event, happens, is_idle}
use Rattle.sctp_courses.proofs.Proved.{each_event_keeps_the_invariant}
use Rattle.sctp_courses.specs.Invariants.{Invariant}
use Rattle.sctp_reset_fit.specs.Keeping.{GoesOn, GoesOnBeside, StandsBeside}
use Rattle.sctp_reset_fit.specs.Laws.{Stands}
use Rattle.sctp_reset_fit.specs.Stands.{last_below}
use Rattle.sctp_reset_fit.proofs.Answering.{confirmed_keeps, confirmed_peer}
use Rattle.sctp_reset_fit.proofs.Keeping.{beside_keeps, goes_by, goes_leaves}
use Rattle.sctp_reset_fit.proofs.Once.{apart_too}
use Rattle.sctp_reset_fit.proofs.Settling.{beside_on, beside_still, performs_beside, skips_behind}

-- A set names each identifier once

-- it ascends
sets_ascend : (ids set : List ℕ) → IsStrictlySortedBy nat_cmp set
    → IsStrictlySortedBy nat_cmp (fold (insert_key nat_cmp) set ids)
sets_ascend [] set h = h
sets_ascend (k ∷ ids) set h = sets_ascend ids (insert_key nat_cmp set k) (insert_ascends k set h)

-- an identifier is not among those above it
above_is_none : (id : ℕ) (xs : List ℕ) → AllByRecursion (λ (x : ℕ). nat_cmp id x ≡ Less) xs → times id xs ≡ 0
above_is_none id [] above = refl
above_is_none id (x ∷ xs) above =
    let other : eqb x id ≡ false = apart_too id x (sym (found_as id x) ∙ ap is_eq above.0) in
    let rest : times id xs ≡ 0 = above_is_none id xs above.1 in rw other (omega arith)

ascending_once : (id : ℕ) (xs : List ℕ) → IsStrictlySortedBy nat_cmp xs → times id xs ≤ 1
unfolding IsStrictlySortedBy
ascending_once id [] h = omega arith
ascending_once id (x ∷ xs) (above, h) = by (eqb x id) refl (ascending_once id xs h)
  where
    by : (b : Bool) → eqb x id ≡ b → times id xs ≤ 1 → (if b then 1 else 0) + times id xs ≤ 1
    by true e few =
        let same : x ≡ id = eqb-true x id e in
        let none : times id xs ≡ 0 =
        above_is_none id xs (subst (λ y. AllByRecursion (λ (z : ℕ). nat_cmp y z ≡ Less) xs) same above) in omega arith
    by false e few = omega arith

none_ascends : IsStrictlySortedBy nat_cmp []
unfolding IsStrictlySortedBy
none_ascends = tt

set_has_once : (id : ℕ) (ids : List ℕ) → times id (set_of ids) ≤ 1
set_has_once id ids = ascending_once id (set_of ids) (sets_ascend ids [] none_ascends)

-- The next request is that of the course

next_is : (initial number n : ℕ) → (number == tsn_after (number_before (tsn initial n))) ≡ true
    → number ≡ tsn initial n
next_is initial number n e =
    let same : number ≡ tsn_after (number_before (tsn initial n)) = eqb-true number _ e in same ∙ omega arith

same_index : (initial a b : ℕ) → a < 2 ^ 31 → b < 2 ^ 31 → tsn initial a ≡ tsn initial b → a ≡ b
same_index initial a b small little e = omega arith

-- it comes in the course
comes_is : (P : ChunkPayloadData → Type 0) (initial id : ℕ) (r : ResetsView) (m : StreamMap) (c : Course)
    → StandsBeside P initial id r m c
    → c.performed < length c.asked → happens c Event.Comes ≡ record c { waits = true }
comes_is P initial id r m c h some =
    let there : nat_lt c.performed (length c.asked) ≡ true = lt-ltb c.performed (length c.asked) some in
    let allowed : (is_idle c && nat_lt c.performed (length c.asked)) ≡ true =
    rw (h.stands.still.1, h.stands.still.2, there) refl in ap (λ z. cond z (record c { waits = true }) c) allowed

-- and then it waits there
comes_beside : (P : ChunkPayloadData → Type 0) (initial id : ℕ) (q : PeerRequestView) (r : ResetsView) (m : StreamMap)
    (c : Course)
    → q.number ≡ tsn initial c.performed → q.last_tsn ≡ last_below initial (boundary_at c.asked c.performed)
    → names q id ≡ is_named c.asked c.performed → times id q.ids ≤ 1 → c.performed < length c.asked
    → StandsBeside P initial id r m c
    → StandsBeside P initial id (record r { peer = record r.peer { in_progress = Some q } }) m
    (record c { waits = true })
comes_beside P initial id q r m c number last named once some h = record {
  kept = subst Invariant (comes_is P initial id r m c h some) (each_event_keeps_the_invariant c Event.Comes h.kept);
  stands = record {
    live = h.stands.live;
    next = h.stands.next;
    marks = h.stands.marks;
    kept = h.stands.kept;
    deferred = h.stands.deferred;
    waits = (refl, last, named, some);
    once_named = once;
    once_live = h.stands.once_live;
    once_marked = h.stands.once_marked;
    open_where_marked = h.stands.open_where_marked;
    near = h.stands.near;
    still = h.stands.still;
  };
  read_on = h.read_on;
  numbered = record { last = h.numbered.last; current = number };
}

-- A request that waits is performed if it is due, with the skips that were kept behind it, and else it waits on.
taken_up_beside : (P : ChunkPayloadData → Type 0) (initial id cumulative first limit : ℕ) (confirms : Bool)
    (q : PeerRequestView) (p : PeerView)
    (r : ResetsView) (x : Channels) (c : Course) → p.in_progress ≡ Some q
    → StandsBeside P initial id (record r { peer = p }) x.streams c → c.point < 2 ^ 31
    → cumulative ≡ last_below initial c.point
    → GoesOnBeside P initial id
    (arrived_with confirms first limit (taken_up (advanced_with (Some q) p cumulative)) r x).0.0
    (arrived_with confirms first limit (taken_up (advanced_with (Some q) p cumulative)) r x).0.1.streams c
taken_up_beside P initial id cumulative first limit confirms q p r x c waits h small here =
    by (is_due q cumulative) refl
  where
    by : (due : Bool) → is_due q cumulative ≡ due
        → GoesOnBeside P initial id
        (arrived_with confirms first limit
        (taken_up (cond {A = PeerView × Option PeerRequestView} due (completed q, Some q) (p, None))) r x).0.0
        (arrived_with confirms first limit
        (taken_up (cond {A = PeerView × Option PeerRequestView} due (completed q, Some q) (p, None))) r
        x).0.1.streams c
    by false d = beside_still P initial id (record r { peer = p }) x.streams c h
    by true d =
        let y : Resetting = (performed q first limit (record r { peer = completed q }) x).0 in
        skips_behind P initial id y.0 y.1.streams y.1.events c
        (performs_beside P initial id first limit q r x c h.kept
        (subst (λ (o : Option PeerRequestView). Stands P initial id r.generations x.streams o c) waits h.stands)
        h.read_on
        (subst (λ (o : Option PeerRequestView). HasNumber o (tsn initial c.performed)) waits h.numbered.current) small
        (subst (λ t. is_due q t ≡ true) here d))

-- How a request stands to those before it, by the tests of its number
abbrev standing_by : Bool → Bool → Bool → Bool → Standing
standing_by current done busy next =
    cond current standings.InProgress
    (cond done standings.Completed
    (cond busy standings.AnotherInProgress (cond next standings.Next standings.OutOfOrder)))

-- A request of the course arrives, where the last TSN in order is that below the course's cumulative reach. It is the
-- one with this index; only the next one is taken up, and only one that waits can be performed.
pub arrives : (P : ChunkPayloadData → Type 0) (initial id cumulative first limit : ℕ) (r : ResetsView) (x : Channels)
    (c : Course)
    (param : ParamOutgoingResetRequest) (index : ℕ) → index < length c.asked
    → param.reconfig_request_sequence_number ≡ tsn initial index
    → param.sender_last_tsn ≡ last_below initial (boundary_at c.asked index)
    → names (request_of param) id ≡ is_named c.asked index → initial < 2 ^ 32 → length c.asked < 2 ^ 31
    → c.point < 2 ^ 31 → cumulative ≡ last_below initial c.point → StandsBeside P initial id r x.streams c
    → (confirms : Bool)
    → GoesOnBeside P initial id (handled_after param cumulative first limit confirms (r, x)).0.0
    (handled_after param cumulative first limit confirms (r, x)).0.1.streams c
arrives P initial id cumulative first limit r x c param index asked number last named low few small here h confirms =
    by (is_current r.peer.in_progress param.reconfig_request_sequence_number)
    (is_completed r.peer.last_completed param.reconfig_request_sequence_number) (is_some r.peer.in_progress)
    (is_next r.peer.last_completed param.reconfig_request_sequence_number) refl
  where
    q : PeerRequestView
    q = request_of param

    still : GoesOnBeside P initial id r x.streams c
    still = beside_still P initial id r x.streams c h

    -- the one in progress, if there is one, is performed if it is due
    goes_again : (o : Option PeerRequestView) → r.peer.in_progress ≡ o
        → GoesOnBeside P initial id
        (arrived_with confirms first limit (taken_up (advanced_with o r.peer cumulative)) r x).0.0
        (arrived_with confirms first limit (taken_up (advanced_with o r.peer cumulative)) r x).0.1.streams c
    goes_again None e = still
    goes_again (Some w) e =
        taken_up_beside P initial id cumulative first limit confirms w r.peer r x c e h small here

    next_one : is_next r.peer.last_completed param.reconfig_request_sequence_number ≡ true → index ≡ c.performed
    next_one e =
        let known : c.performed ≤ length c.asked = h.kept.asks.known in
        let is : param.reconfig_request_sequence_number ≡ tsn initial c.performed =
        next_is initial param.reconfig_request_sequence_number c.performed
        (subst (λ (o : Option ℕ). is_next o param.reconfig_request_sequence_number ≡ true) h.numbered.last e) in
        same_index initial index c.performed (omega (arith, asked, few)) (omega (arith, known, few)) (sym number ∙ is)

    -- the next one comes
    goes_next : index ≡ c.performed
        → GoesOnBeside P initial id
        (arrived_with confirms first limit
        (taken_up (advanced_with (Some q) (record r.peer { in_progress = Some q }) cumulative)) r x).0.0
        (arrived_with confirms first limit
        (taken_up (advanced_with (Some q) (record r.peer { in_progress = Some q }) cumulative)) r x).0.1.streams c
    goes_next is =
        let some : c.performed < length c.asked = subst (λ n. n < length c.asked) is asked in
        let goes : GoesOn c (record c { waits = true }) =
        subst (GoesOn c) (comes_is P initial id r x.streams c h some) (goes_by c Event.Comes refl) in
        let beside =
        comes_beside P initial id q r x.streams c (number ∙ ap (tsn initial) is)
        (last ∙ ap (λ n. last_below initial (boundary_at c.asked n)) is) (named ∙ ap (is_named c.asked) is)
        (set_has_once id param.stream_identifiers) some h in
        beside_on P initial id
        (arrived_with confirms first limit
        (taken_up (advanced_with (Some q) (record r.peer { in_progress = Some q }) cumulative)) r x).0.0
        (arrived_with confirms first limit
        (taken_up (advanced_with (Some q) (record r.peer { in_progress = Some q }) cumulative)) r x).0.1.streams c
        (record c { waits = true }) goes refl refl refl
        (taken_up_beside P initial id cumulative first limit confirms q (record r.peer { in_progress = Some q }) r x
        (record c { waits = true }) refl beside small here)

    by : (current done busy next : Bool)
        → is_next r.peer.last_completed param.reconfig_request_sequence_number ≡ next
        → GoesOnBeside P initial id
        (arrived_with confirms first limit
        (arrived_as (standing_by current done busy next) r.peer q cumulative) r x).0.0
        (arrived_with confirms first limit
        (arrived_as (standing_by current done busy next) r.peer q cumulative) r x).0.1.streams c
    by true done busy next e = goes_again r.peer.in_progress refl
    by false true busy next e = still
    by false false true next e = still
    by false false false false e = still
    by false false false true e = goes_next (next_one e)

-- It ends the active request of this side that it names before.
pub request_arrives : (P : ChunkPayloadData → Type 0) (initial id cumulative first limit : ℕ) (r : ResetsView)
    (x : Channels) (c : Course)
    (param : ParamOutgoingResetRequest) (index : ℕ) → index < length c.asked
    → param.reconfig_request_sequence_number ≡ tsn initial index
    → param.sender_last_tsn ≡ last_below initial (boundary_at c.asked index)
    → names (request_of param) id ≡ is_named c.asked index → initial < 2 ^ 32 → length c.asked < 2 ^ 31
    → c.point < 2 ^ 31 → cumulative ≡ last_below initial c.point → StandsBeside P initial id r x.streams c
    → GoesOnBeside P initial id (handled param cumulative first limit r x).0.0
    (handled param cumulative first limit r x).0.1.streams c
request_arrives P initial id cumulative first limit r x c param index asked number last named low few small here h =
    let response : ℕ = param.reconfig_response_sequence_number in
    let b = confirmed_by response r x.streams x.events in
    let g : GoesOnBeside P initial id b.0.0 b.0.1 c =
    (beside_keeps P initial id r b.0.0 x.streams b.0.1 c (confirmed_keeps P initial id r x.streams x.events response)
    (confirmed_peer r x.streams x.events response) h).0 in
    let d : Course = g.after in
    let same : c.asked ≡ d.asked = sym (goes_leaves c d g.goes).0 in
    beside_on P initial id (handled param cumulative first limit r x).0.0
    (handled param cumulative first limit r x).0.1.streams c d g.goes g.told g.point g.taken
    (arrives P initial id cumulative first limit b.0.0 (record x { streams = b.0.1; events = b.0.2 }) d param index
    (subst (λ qs. index < length qs) same asked) number
    (subst (λ qs. param.sender_last_tsn ≡ last_below initial (boundary_at qs index)) same last)
    (subst (λ qs. names (request_of param) id ≡ is_named qs index) same named) low
    (subst (λ qs. length qs < 2 ^ 31) same few) (subst (λ n. n < 2 ^ 31) (sym g.point) small)
    (here ∙ ap (last_below initial) (sym g.point)) g.stands b.1)
