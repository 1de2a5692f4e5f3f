-- A request of the peer comes, waits and is performed: what a side asks for stays that of the course.
use Rattle.std.proofs.Common.{◌≡◌, refl, sym, ◌∙◌, subst, ℕ, suc, ◌<◌, ◌≤◌, ◌^◌, ◌==◌, ◌||◌, Bool, true, false, arith}
use Rattle.std.proofs.Common.{filter, is_some, if◌then◌else◌, nat_le, not, List, [], ◌∷◌, fold, length, nat_cmp}
use Rattle.std.proofs.Common.{Ordering, Less, Equal, Greater, Option, Some, None}
use Rattle.std.specs.BTreeSet.{insert_key}
use Rattle.std.specs.Ordering.{match_ordering}
use Rattle.std.specs.Prelude.{⊤}
use Rattle.std.proofs.lemmas.Bool.{and_left, false≢true}
use Rattle.std.proofs.lemmas.Bool.Decides.{nat_tests}
use Rattle.sctp_wire_types.specs.Config.{is_rfc}
use Rattle.sctp_wire_types.specs.declared.param.ParamOutgoingResetRequest.{ParamOutgoingResetRequest}
use Rattle.sctp_wire.specs.Numbers.{IsU16}
use Rattle.sctp_model.proofs.Lists.{all_filter, all_push}
use Rattle.sctp_streams.specs.Streams.{StreamMap, live_ids, stream_at}
use Rattle.sctp_generations.specs.declared.retirement.Retirement.{Retirement}
use Rattle.sctp_generations.specs.declared.retirement.Retirement.TheVariants as retirements
use Rattle.sctp_generations.specs.Generations.{retired, retirement_of}
use Rattle.sctp_reset_requests.specs.declared.answer.Arrival.{Arrival}
use Rattle.sctp_reset_requests.specs.declared.answer.Arrival.TheVariants as arrivals
use Rattle.sctp_reset_requests.specs.declared.answer.Standing.{Standing}
use Rattle.sctp_reset_requests.specs.declared.answer.Standing.TheVariants as standings
use Rattle.sctp_reset_requests.specs.Ids.{set_of}
use Rattle.sctp_reset_requests.specs.Own.{OwnView, answers_all, most_ids}
use Rattle.sctp_reset_requests.specs.Peer.{PeerView, advanced, advanced_with, arrived, arrived_as, completed}
use Rattle.sctp_reset_requests.specs.Peer.{standing_of, taken_up}
use Rattle.sctp_reset_requests.specs.Request.{PeerRequestView, is_due, names_all, request_of}
use Rattle.sctp_resets.specs.Channels.{Channels}
use Rattle.sctp_resets.specs.Performing.{Performing, answered_in, is_drained, named_in, named_live, performing}
use Rattle.sctp_resets.specs.Performing.{retired_as, retired_each, retired_next, retired_one, with_retired}
use Rattle.sctp_resets.specs.Resets.{Beside, ResetsView, Resetting, arrived_with, confirmed_by, handled, handled_behind}
use Rattle.sctp_resets.specs.Resets.{performed, performed_with, settled_by, settled_where, skips_done, skips_done_in}
use Rattle.sctp_resets.specs.Resets.{with_channels, with_skips_done}
use Rattle.sctp_resets.specs.Resets as resets
use Rattle.sctp_resets.specs.Skips.{Skipping, skips_applied}
use Rattle.sctp_resets.proofs.EndsTold.{each_to_reset}
use Rattle.sctp_resets.proofs.ListsOver.{of_chosen}
use Rattle.sctp_courses.specs.Course.{Course}
use Rattle.sctp_course_sides.specs.Answers.{IsOfPerformed}
use Rattle.sctp_course_sides.specs.Sends.{AreIdentifiers, PeerNames, PeerNamesStreams}
use Rattle.sctp_course_sides.proofs.EndsTold.{answered_failed}
use Rattle.sctp_course_sides.proofs.Identifiers.{set_small}
use Rattle.sctp_course_sides.proofs.SenderParts.{Asks, AsksOf}
use Rattle.sctp_course_sides.proofs.SenderRequests.{confirmed_asks, current_asks, made_asks}

-- A list that names something is no empty set

not_none : (n : ℕ) → (suc n == 0) ≡ false
not_none n = grind (arith, nat_tests)

inserted_some : (k : ℕ) (ks : List ℕ) → (length (insert_key nat_cmp ks k) == 0) ≡ false
inserted_some k [] = refl
inserted_some k (x ∷ xs) = by (nat_cmp k x)
  where
    by : (o : Ordering)
        → (length (match_ordering o (k ∷ x ∷ xs) (x ∷ xs) (x ∷ insert_key nat_cmp xs k)) == 0) ≡ false
    by Less = not_none (length (x ∷ xs))
    by Equal = not_none (length xs)
    by Greater = not_none (length (insert_key nat_cmp xs k))

stays_some : (ks ids : List ℕ) → (length ks == 0) ≡ false → (length (fold (insert_key nat_cmp) ks ids) == 0) ≡ false
stays_some ks [] some = some
stays_some ks (x ∷ xs) some = stays_some (insert_key nat_cmp ks x) xs (inserted_some x ks)

some_named : (ids : List ℕ) → 0 < length ids → (length (set_of ids) == 0) ≡ false
some_named [] some = absurd (omega (arith, some))
some_named (x ∷ xs) some = stays_some (insert_key nat_cmp [] x) xs (inserted_some x [])

request_named : (param : ParamOutgoingResetRequest) → 0 < length param.stream_identifiers
    → AreIdentifiers param.stream_identifiers → PeerNames (request_of param)
request_named param some small = record {
  listed = some_named param.stream_identifiers some;
  small = set_small param.stream_identifiers small;
}

some_ids : (n : ℕ) → (n == 0) ≡ false → 0 < n
some_ids n e = grind (arith, nat_tests, e)

-- The peer's request that waits

-- what is left of the peer's requests and what is performed names its streams
abbrev AdvanceNames : PeerView × Option PeerRequestView → Type 0
AdvanceNames x = PeerNamesStreams x.0.in_progress × PeerNamesStreams x.1

due_names : (due : Bool) (p : PeerView) (r : PeerRequestView) → PeerNames r
    → PeerNamesStreams p.in_progress
    → AdvanceNames (if◌then◌else◌ {A = PeerView × Option PeerRequestView} due (completed r, Some r) (p, None))
due_names true p r n m = (tt, n)
due_names false p r n m = (m, tt)

advance_names : (current : Option PeerRequestView) (p : PeerView) (t : ℕ) → PeerNamesStreams current
    → PeerNamesStreams p.in_progress → AdvanceNames (advanced_with current p t)
advance_names None p t n m = (m, tt)
advance_names (Some r) p t n m = due_names (is_due r t) p r n m

abbrev ArrivalNames : Arrival → Type 0
ArrivalNames (arrivals.Answered answer) = ⊤
ArrivalNames (arrivals.Performed q) = PeerNames q

abbrev ArrivedNames : PeerView × Arrival → Type 0
ArrivedNames x = PeerNamesStreams x.0.in_progress × ArrivalNames x.1

taken_up_names : (x : PeerView × Option PeerRequestView) → AdvanceNames x → ArrivedNames (taken_up x)
taken_up_names (p, None) n = (n.0, tt)
taken_up_names (p, Some r) n = (n.0, n.1)

arrived_as_names : (standing : Standing) (p : PeerView) (r : PeerRequestView) (t : ℕ) → PeerNamesStreams p.in_progress
    → PeerNames r → ArrivedNames (arrived_as standing p r t)
arrived_as_names standings.Completed p r t n m = (n, tt)
arrived_as_names standings.AnotherInProgress p r t n m = (n, tt)
arrived_as_names standings.OutOfOrder p r t n m = (n, tt)
arrived_as_names standings.InProgress p r t n m =
    taken_up_names (advanced p t) (advance_names p.in_progress p t n n)
arrived_as_names standings.Next p r t n m =
    let q : PeerView = record p { in_progress = Some r } in
    taken_up_names (advanced q t) (advance_names (Some r) q t m m)

-- What failed stays as a request of the peer is performed

retired_as_failed : (k : Retirement) (p : Performing) (i : ℕ) → (retired_as k p i).0.debts.failed ≡ p.debts.failed
retired_as_failed retirements.Ended p i = refl
retired_as_failed retirements.Retires p i = refl
retired_as_failed retirements.Unchanged p i = refl

retired_one_failed : (boundary : ℕ) (p : Performing) (i : ℕ)
    → (retired_one boundary p i).0.debts.failed ≡ p.debts.failed
unfolding retired_one
retired_one_failed boundary p i =
    retired_as_failed (retirement_of p.generations i boundary (is_drained p.streams i))
    (record p { generations = retired p.generations i boundary (is_drained p.streams i) }) i

with_retired_failed : (x : Performing × Bool) (ids : List ℕ) (i : ℕ)
    → (with_retired x ids i).0.debts.failed ≡ x.0.debts.failed
with_retired_failed (p, true) ids i = refl
with_retired_failed (p, false) ids i = refl

next_failed : (boundary : ℕ) (x : Performing × List ℕ) (i : ℕ)
    → (retired_next boundary x i).0.debts.failed ≡ x.0.debts.failed
next_failed boundary (p, ids) i =
    with_retired_failed (retired_one boundary p i) ids i ∙ retired_one_failed boundary p i

each_failed : (boundary : ℕ) (is : List ℕ) (x : Performing × List ℕ)
    → (fold (retired_next boundary) x is).0.debts.failed ≡ x.0.debts.failed
each_failed boundary [] x = refl
each_failed boundary (i ∷ is) x = each_failed boundary is (retired_next boundary x i) ∙ next_failed boundary x i

retired_failed : (q : PeerRequestView) (p : Performing) → (retired_each q p).0.debts.failed ≡ p.debts.failed
retired_failed q p = each_failed q.last_tsn (named_live p.streams q) (p, [])

-- The streams that a request of the peer names, and of which a generation ended

retired_small : (x : Performing × Bool) (ids : List ℕ) (i : ℕ) → AreIdentifiers ids → i < 2 ^ 16
    → AreIdentifiers (with_retired x ids i).1
retired_small (p, true) ids i s l = all_push IsU16 ids i s l
retired_small (p, false) ids i s l = s

next_small : (boundary : ℕ) (x : Performing × List ℕ) (i : ℕ) → AreIdentifiers x.1 → i < 2 ^ 16
    → AreIdentifiers (retired_next boundary x i).1
next_small boundary (p, ids) i s l = retired_small (retired_one boundary p i) ids i s l

each_small : (boundary : ℕ) (is : List ℕ) (x : Performing × List ℕ) → AreIdentifiers x.1 → AreIdentifiers is
    → AreIdentifiers (fold (retired_next boundary) x is).1
each_small boundary [] x s l = s
each_small boundary (i ∷ is) x s (l, ls) =
    each_small boundary is (retired_next boundary x i) (next_small boundary x i s l) ls

listed_small : (all : Bool) (live ids : List ℕ) → all ≡ false → AreIdentifiers ids
    → AreIdentifiers (if all then live else ids)
listed_small true live ids e s = absurd (false≢true (sym e))
listed_small false live ids e s = s

ended_small : (q : PeerRequestView) (p : Performing) → PeerNames q → AreIdentifiers (retired_each q p).1
ended_small q p n =
    let is_live : ℕ → Bool = λ (i : ℕ). is_some (stream_at p.streams i) in
    each_small q.last_tsn (named_live p.streams q) (p, []) tt
    (listed_small (names_all q) (live_ids p.streams) (filter is_live q.ids) n.listed
    (all_filter IsU16 is_live q.ids n.small))

-- The streams that this side resets in answer

named_small : (o : OwnView) (m : StreamMap) (q : PeerRequestView) → PeerNames q → AreIdentifiers (named_in o m q)
named_small o m q n =
    of_chosen AreIdentifiers (is_rfc o.profile) (if names_all q then live_ids m else q.ids) []
    (listed_small (names_all q) (live_ids m) q.ids n.listed n.small) tt

answered_small : (o : OwnView) (named : List ℕ) (y : Performing × List ℕ) → AreIdentifiers named → AreIdentifiers y.1
    → AreIdentifiers (answered_in o named y).1
answered_small o named (p, retired) s t = each_to_reset IsU16 o named retired s t

-- its request lists them where that of the peer does
answers_listed : (o : OwnView) (q : PeerRequestView) (ids : List ℕ) → names_all q ≡ false
    → answers_all o q ids ≡ false
answers_listed o q ids listed =
    and_left (names_all q) (length o.ahead == 0 || not (nat_le (length ids) most_ids)) listed

module _ (initial id : ℕ) (c : Course) where
  -- Skips that were kept are applied

  pub skipping_asks : (r : ResetsView) (x : Skipping) → AsksOf initial id c r
      → AsksOf initial id c (with_skips_done r x).0
  skipping_asks r (g, m, told) x = x

  channels_asks : (ch : Channels) (b : Beside) → AsksOf initial id c b.0 → AsksOf initial id c (with_channels ch b).0
  channels_asks ch (r, m, told) x = x

  skipped_asks : (s : Resetting) → AsksOf initial id c s.0 → AsksOf initial id c (skips_done_in s).0
  skipped_asks (r, ch) x =
      channels_asks ch (skips_done r ch.streams ch.events)
      (skipping_asks r (skips_applied (r.generations, ch.streams, ch.events)) x)

  -- A request of the peer is performed

  reset_asks : (q : PeerRequestView) (first limit : ℕ) (r : ResetsView) (to_accept named : List ℕ)
      (p : Performing × List ℕ) → p.0.debts.failed ≡ r.debts.failed → PeerNames q → AreIdentifiers p.1
      → AsksOf initial id c r → AsksOf initial id c (performed_with q first limit r to_accept named p).0.0
  reset_asks q first limit r to_accept named (p, ids) e n small x =
      made_asks initial id c (length ids == 0) (answers_all r.own q ids) r.own q.number ids r.peer.in_progress
      p.debts.failed (answers_listed r.own q ids n.listed) (λ some. some_ids (length ids) some) small
      (subst
      (λ (fs : List ℕ).
      Asks initial id c r.own.next_number r.own.waiting r.own.queued r.own.active r.peer.in_progress fs)
      (sym e) x)

  performed_asks : (q : PeerRequestView) (first limit : ℕ) (r : ResetsView) (ch : Channels) → PeerNames q
      → AsksOf initial id c r → AsksOf initial id c (performed q first limit r ch).0.0
  unfolding performed
  performed_asks q first limit r ch n x =
      let p : Performing = performing r.generations r.debts ch.streams ch.events in
      let named : List ℕ = named_in r.own ch.streams q in
      let y : Performing × List ℕ = retired_each q p in
      reset_asks q first limit r ch.to_accept named (answered_in r.own named y)
      (answered_failed r.own named y ∙ retired_failed q p) n
      (answered_small r.own named y (named_small r.own ch.streams q n) (ended_small q p n)) x

  -- what waits of the peer is what is left
  peer_asks : (p : PeerView) (r : ResetsView) → PeerNamesStreams p.in_progress → AsksOf initial id c r
      → AsksOf initial id c (record r { peer = p })
  peer_asks p r n x =
      current_asks initial id c r.own.next_number r.own.waiting r.own.queued r.own.active r.peer.in_progress
      p.in_progress r.debts.failed n x

  settled_by_asks : (q : PeerRequestView) (s : Resetting × Bool) → AsksOf initial id c s.0.0
      → AsksOf initial id c (settled_by q s).0.0
  settled_by_asks q (s, asks) x = x

  settled_where_asks : (p : PeerView × Option PeerRequestView) (first limit : ℕ) (r : ResetsView) (ch : Channels)
      → AdvanceNames p → AsksOf initial id c r → AsksOf initial id c (settled_where p first limit r ch).0.0
  settled_where_asks (p, None) first limit r ch n x = peer_asks p r n.0 x
  settled_where_asks (p, Some q) first limit r ch n x =
      let s : ResetsView = record r { peer = p } in
      settled_by_asks q (performed q first limit s ch) (performed_asks q first limit s ch n.1 (peer_asks p r n.0 x))

  -- the last TSN in order may have moved
  pub settled_asks : (t first limit : ℕ) (r : ResetsView) (ch : Channels) → AsksOf initial id c r
      → AsksOf initial id c (resets.settled t first limit r ch).0.0
  settled_asks t first limit r ch x =
      settled_where_asks (advanced r.peer t) first limit r ch
      (advance_names r.peer.in_progress r.peer t x.peer_by_ids x.peer_by_ids) x

  -- A request of the peer comes

  answer_asks : (confirms : Bool) (arrival : Arrival) (s : Resetting × Bool) → AsksOf initial id c s.0.0
      → AsksOf initial id c (resets.with_answer confirms arrival s).0.0
  answer_asks confirms arrival (s, asks) x = skipped_asks s x

  arrived_asks : (confirms : Bool) (first limit : ℕ) (p : PeerView × Arrival) (r : ResetsView) (ch : Channels)
      → ArrivedNames p → AsksOf initial id c r → AsksOf initial id c (arrived_with confirms first limit p r ch).0.0
  arrived_asks confirms first limit (p, arrivals.Answered answer) r ch n x = peer_asks p r n.0 x
  arrived_asks confirms first limit (p, arrivals.Performed q) r ch n x =
      let s : ResetsView = record r { peer = p } in
      answer_asks confirms (arrivals.Performed q) (performed q first limit s ch)
      (performed_asks q first limit s ch n.1 (peer_asks p r n.0 x))

  behind_asks : (param : ParamOutgoingResetRequest) (t first limit : ℕ) (ch : Channels) (b : Beside × Bool)
      → 0 < length param.stream_identifiers → AreIdentifiers param.stream_identifiers → AsksOf initial id c b.0.0
      → AsksOf initial id c (handled_behind param t first limit ch b).0.0
  behind_asks param t first limit ch ((r, m, told), confirms) some small x =
      let q : PeerRequestView = request_of param in
      arrived_asks confirms first limit (arrived r.peer q t) r (record ch { streams = m; events = told })
      (arrived_as_names (standing_of r.peer q.number) r.peer q t x.peer_by_ids (request_named param some small)) x

  -- it names streams, and what it says of this side's requests is true
  pub handled_asks : c.performed ≤ length c.asked → length c.asked < 2 ^ 31 → (param : ParamOutgoingResetRequest)
      → (t first limit : ℕ) (r : ResetsView) (ch : Channels) → 0 < length param.stream_identifiers
      → AreIdentifiers param.stream_identifiers → IsOfPerformed initial c param.reconfig_response_sequence_number
      → AsksOf initial id c r
      → AsksOf initial id c (handled param t first limit r ch).0.0
  handled_asks known few param t first limit r ch some small p x =
      let number = param.reconfig_response_sequence_number in
      behind_asks param t first limit ch (confirmed_by number r ch.streams ch.events) some small
      (confirmed_asks initial id c known few number r ch.streams ch.events p x)
