-- What a side sends of a stream, in its parts: what is in flight, what is held back, and the requests.
use Rattle.std.proofs.Common.{◌≡◌, refl, sym, ap, ◌∙◌, subst, ◌⊎◌, ℕ, zero, suc, ◌<◌, ◌≤◌, ◌+◌, ◌-◌, ◌^◌, arith}
use Rattle.std.proofs.Common.{Bool, true, false, if◌then◌else◌, List, [], ◌∷◌, ◌++◌, drop, length, map}
use Rattle.std.proofs.Common.{slice_get, take, Option, Some, None}
use Rattle.std.specs.List.{AllByRecursion}
use Rattle.std.specs.Prelude.{⊤}
use Rattle.std.proofs.lemmas.List.{length-drop, length-map}
use Rattle.sctp_serial.specs.Serial.{tsn}
use Rattle.sctp_outbound_queue.specs.declared.message.Attributes.{Attributes}
use Rattle.sctp_outbound_queue.specs.declared.message.InFlight.{InFlight}
use Rattle.sctp_outbound_queue.specs.declared.message.Reports.{Reports}
use Rattle.sctp_outbound_queue.specs.Message.{acked, is_outstanding, is_reported, marked_again, reported_missing}
use Rattle.sctp_outbound_queue.specs.Outbound.{Outbound, has_stream}
use Rattle.sctp_outbound.specs.GapAcks.{acked_among}
use Rattle.sctp_reset_requests.specs.declared.own_request.OwnRequest.{OwnRequest}
use Rattle.sctp_reset_requests.specs.declared.own_request.SentRequest.{SentRequest}
use Rattle.sctp_reset_requests.specs.Ids.{has_id}
use Rattle.sctp_reset_requests.specs.Own.{AreNumbered, open_with}
use Rattle.sctp_reset_requests.specs.Request.{PeerRequestView}
use Rattle.sctp_resets.specs.Resets.{ResetsView}
use Rattle.sctp_model.specs.Packets.{mem}
use Rattle.sctp_directions.specs.Acts.{Act, Can, CanAll, History, Parts, done, done_all, is_acknowledged_by}
use Rattle.sctp_courses.specs.Course.{Course}
use Rattle.sctp_courses.specs.Events.{is_to_be_reset}
use Rattle.sctp_assoc.specs.Shown.{Shown}
use Rattle.sctp_sides.specs.Restarts.{is_reset_by}
use Rattle.sctp_sides.proofs.SentCounts.{nothing_there, same_value}
use Rattle.sctp_course_sides.specs.Sends.{AreIdentifiers, IsLastAsked, NamesStreams, PeerNamesStreams, Sends}

-- What is in flight

-- the pieces of a stream, of these in flight from an offset on, stand on offsets that were assigned to it
abbrev pub AreMine : ℕ → List ℕ → ℕ → List InFlight → Type 0
AreMine id mine from [] = ⊤
AreMine id mine from (x ∷ xs) =
    (x.message.stream_identifier ≡ id → mem from mine ≡ true) × AreMine id mine (suc from) xs

-- What is in flight is of the course.
pub record Flown (id : ℕ) (c : Course) (flying : List InFlight) (base : ℕ) : Type 0 where
  pub assigned : c.assigned ≡ base + length flying
  pub mine : AreMine id c.mine base flying

no_more : (n : ℕ) → n + 0 ≡ n
no_more n = omega arith

one_more : (n k : ℕ) → n + suc k ≡ suc n + k
one_more n k = omega arith

mine_from : (id : ℕ) (mine : List ℕ) (from : ℕ) (xs : List InFlight)
    → ((index : ℕ) (x : InFlight) → slice_get xs index ≡ Some x → x.message.stream_identifier ≡ id
    → mem (from + index) mine ≡ true)
    → AreMine id mine from xs
mine_from id mine from [] f = tt
mine_from id mine from (x ∷ xs) f = (
  λ e. subst (λ (o : ℕ). mem o mine ≡ true) (no_more from) (f 0 x refl e),
  mine_from id mine (suc from) xs
      (λ index y there e. subst (λ (o : ℕ). mem o mine ≡ true) (one_more from index) (f (suc index) y there e)),
)

mine_at : (id : ℕ) (mine : List ℕ) (from : ℕ) (xs : List InFlight) → AreMine id mine from xs
    → (index : ℕ) (x : InFlight) → slice_get xs index ≡ Some x → x.message.stream_identifier ≡ id
    → mem (from + index) mine ≡ true
mine_at id mine from [] m index x there e = absurd (nothing_there x there)
mine_at id mine from (y ∷ ys) (m, ms) zero x there e =
    subst (λ (o : ℕ). mem o mine ≡ true) (sym (no_more from))
    (m (ap (λ (z : InFlight). z.message.stream_identifier) (same_value y x there) ∙ e))
mine_at id mine from (y ∷ ys) (m, ms) (suc index) x there e =
    subst (λ (o : ℕ). mem o mine ≡ true) (sym (one_more from index)) (mine_at id mine (suc from) ys ms index x there e)

-- Requests

-- the active request, if there is one, is the last one that the course has
abbrev pub ActiveIsLast : ℕ → ℕ → Course → Option SentRequest → Type 0
ActiveIsLast initial id c None = ⊤
ActiveIsLast initial id c (Some s) = IsLastAsked initial id c s

-- The requests of both sides that are open are those of the course, and so is what failed.
pub record Asks (initial id : ℕ) (c : Course) (next : ℕ) (waiting : List ℕ) (queued : List OwnRequest)
    (active : Option SentRequest) (current : Option PeerRequestView) (failed : List ℕ) : Type 0 where
  pub numbers : next ≡ tsn initial (length c.asked + length queued)
  pub in_order : AreNumbered (open_with active queued) next
  pub latest : ActiveIsLast initial id c active
  pub by_ids : AllByRecursion NamesStreams (open_with active queued)
  pub peer_by_ids : PeerNamesStreams current
  pub small : AreIdentifiers waiting
  pub barred : is_to_be_reset c ≡ true → (is_reset_by active id ≡ true) ⊎ (has_id id failed ≡ true)

abbrev pub AsksOf : ℕ → ℕ → Course → ResetsView → Type 0
AsksOf initial id c r =
    Asks initial id c r.own.next_number r.own.waiting r.own.queued r.own.active r.peer.in_progress r.debts.failed

active_from : (initial id : ℕ) (c : Course) (o : Option SentRequest)
    → ((s : SentRequest) → o ≡ Some s → IsLastAsked initial id c s) → ActiveIsLast initial id c o
active_from initial id c None f = tt
active_from initial id c (Some s) f = f s refl

active_at : (initial id : ℕ) (c : Course) (o : Option SentRequest) → ActiveIsLast initial id c o
    → (s : SentRequest) → o ≡ Some s → IsLastAsked initial id c s
active_at initial id c o l s e = subst (λ (z : Option SentRequest). ActiveIsLast initial id c z) e l

-- The parts together

-- no DATA of the stream waits or is in flight where a request that names it was not performed
abbrev pub IsQuiet : ℕ → Course → Outbound → Type 0
IsQuiet id c q = is_to_be_reset c ≡ true → has_stream q id ≡ false

module _ (initial id : ℕ) (a : Shown) (h : History) (c : Course) where
  pub asks_of : Sends initial id a h c → AsksOf initial id c a.resets
  asks_of s = record {
    numbers = s.numbers;
    in_order = s.in_order;
    latest = active_from initial id c a.resets.own.active s.active;
    by_ids = s.by_ids;
    peer_by_ids = s.peer_by_ids;
    small = s.waiting;
    barred = λ reset. (s.held_back reset).barred;
  }

  pub flown_of : Sends initial id a h c → Flown id c a.sender.queue.in_flight h.base
  flown_of s =
      record { assigned = s.assigned; mine = mine_from id c.mine h.base a.sender.queue.in_flight s.mine }

  pub quiet_of : Sends initial id a h c → IsQuiet id c a.sender.queue
  quiet_of s = λ reset. (s.held_back reset).quiet

  pub sends_from : initial < 2 ^ 32 → h.own ≡ initial → Flown id c a.sender.queue.in_flight h.base
      → IsQuiet id c a.sender.queue → AsksOf initial id c a.resets → Sends initial id a h c
  sends_from small own flown quiet asks = record {
    small = small;
    own = own;
    assigned = flown.assigned;
    mine = mine_at id c.mine h.base a.sender.queue.in_flight flown.mine;
    numbers = asks.numbers;
    in_order = asks.in_order;
    active = active_at initial id c a.resets.own.active asks.latest;
    by_ids = asks.by_ids;
    peer_by_ids = asks.peer_by_ids;
    waiting = asks.small;
    held_back = λ reset. record { quiet = quiet reset; barred = asks.barred reset };
  }

-- where what waits and is in flight stays as it is, the requests alone count
pub sends_by_asks : (initial id : ℕ) (c : Course) (a b : Shown) (h : History) → b.sender.queue ≡ a.sender.queue
    → (AsksOf initial id c a.resets → AsksOf initial id c b.resets) → Sends initial id a h c → Sends initial id b h c
sends_by_asks initial id c a b h e f s =
    sends_from initial id b h c s.small s.own
    (subst (λ (q : Outbound). Flown id c q.in_flight h.base) (sym e) (flown_of initial id a h c s))
    (subst (λ (q : Outbound). IsQuiet id c q) (sym e) (quiet_of initial id a h c s)) (f (asks_of initial id a h c s))

-- Pieces in flight change, but not their messages

same_if : (b : Bool) (x y : InFlight) → y.message ≡ x.message → (if b then y else x).message ≡ x.message
same_if true x y e = e
same_if false x y e = refl

-- the stream of a piece stays where its message does
of_changed : (id : ℕ) (x y : InFlight) → y.message ≡ x.message → y.message.stream_identifier ≡ id
    → x.message.stream_identifier ≡ id
of_changed id x y same e = sym (ap (λ (m : Attributes). m.stream_identifier) same) ∙ e

module _ (id : ℕ) (mine : List ℕ) where
  marked_mine : (from : ℕ) (xs : List InFlight) → AreMine id mine from xs
      → AreMine id mine from (map marked_again xs)
  marked_mine from [] m = tt
  marked_mine from (x ∷ xs) (m, ms) = (
    λ e. m (of_changed id x (marked_again x) (same_if (is_outstanding x) x _ refl) e),
    marked_mine (suc from) xs ms,
  )

  acked_mine : (named : ℕ → Bool) (j from : ℕ) (xs : List InFlight) → AreMine id mine from xs
      → AreMine id mine from (acked_among named j xs)
  acked_mine named j from [] m = tt
  acked_mine named j from (x ∷ xs) (m, ms) = (
    λ e. m (of_changed id x (if named j then acked x else x) (same_if (named j) x (acked x) refl) e),
    acked_mine named (suc j) (suc from) xs ms,
  )

  left_mine : (n from : ℕ) (xs : List InFlight) → AreMine id mine from xs → AreMine id mine (from + n) (drop n xs)
  left_mine zero from xs m = subst (λ (o : ℕ). AreMine id mine o xs) (sym (no_more from)) m
  left_mine (suc n) from [] m = tt
  left_mine (suc n) from (x ∷ xs) (m, ms) =
      subst (λ (o : ℕ). AreMine id mine o (drop n xs)) (sym (one_more from n)) (left_mine n (suc from) xs ms)

  missed_mine : (r : Reports) (n from : ℕ) (xs : List InFlight) → AreMine id mine from xs
      → AreMine id mine from (map (reported_missing r) (take n xs) ++ drop n xs)
  missed_mine r zero from xs m = m
  missed_mine r (suc n) from [] m = tt
  missed_mine r (suc n) from (x ∷ xs) (m, ms) = (
    λ e. m (of_changed id x (reported_missing r x) (same_if (is_reported r x) x _ refl) e),
    missed_mine r n (suc from) xs ms,
  )

acked_count : (named : ℕ → Bool) (j : ℕ) (xs : List InFlight) → length (acked_among named j xs) ≡ length xs
acked_count named j [] = refl
acked_count named j (x ∷ xs) = ap suc (acked_count named (suc j) xs)

missed_count : (r : Reports) (n : ℕ) (xs : List InFlight)
    → length (map (reported_missing r) (take n xs) ++ drop n xs) ≡ length xs
missed_count r zero xs = refl
missed_count r (suc n) [] = refl
missed_count r (suc n) (x ∷ xs) = ap suc (missed_count r n xs)

left_behind : (all base n flown left : ℕ) → all ≡ base + flown → n ≤ flown → left ≡ flown - n → all ≡ base + n + left
left_behind all base n flown left e within d = omega (arith, e, within, d)

-- all that is outstanding was marked: the retransmission timer expired, or the peer's window opened
pub marked_flown : (id : ℕ) (c : Course) (xs : List InFlight) (base : ℕ) → Flown id c xs base
    → Flown id c (map marked_again xs) base
marked_flown id c xs base f = record {
  assigned = f.assigned ∙ ap (λ (n : ℕ). base + n) (sym (length-map xs marked_again));
  mine = marked_mine id c.mine base xs f.mine;
}

-- a SACK acknowledged the first n pieces, and some of the others, and reported some missing
acknowledged_flown : (id : ℕ) (c : Course) (named : ℕ → Bool) (n : ℕ) (missing : Reports) (xs : List InFlight)
    (base : ℕ) → n ≤ length xs → Flown id c xs base
    → Flown id c
    (map (reported_missing missing) (take missing.count (drop n (acked_among named 0 xs)))
    ++ drop missing.count (drop n (acked_among named 0 xs))) (base + n)
acknowledged_flown id c named n missing xs base within f =
    let ys : List InFlight = acked_among named 0 xs in
    record {
      assigned =
          left_behind c.assigned base n (length xs) _ f.assigned within
          (missed_count missing missing.count (drop n ys) ∙ length-drop n ys
          ∙ ap (λ (k : ℕ). k - n) (acked_count named 0 xs));
      mine =
          missed_mine id c.mine missing missing.count (base + n) (drop n ys)
          (left_mine id c.mine n base ys (acked_mine id c.mine named 0 base xs f.mine));
    }

-- Acts of what comes

-- what a chunk that comes does to the directions
abbrev pub IsHeard : Act → Type 0
IsHeard (Act.PeerKnown t) = ⊤
IsHeard (Act.Opened stream first kind) = ⊤
IsHeard (Act.SpansEnded ids m) = ⊤
IsHeard Act.Marked = ⊤
IsHeard (Act.Acknowledged n blocks missing) = ⊤
IsHeard (Act.Took piece) = ⊤
IsHeard (Act.Deferred piece) = ⊤
IsHeard (Act.PassedOver t skipped) = ⊤
IsHeard act = ⊥

-- the initial TSN stays, and so does what is in flight, but for what is acknowledged or marked
record LeavesFlown (p q : Parts) : Type 0 where
  own : q.history.own ≡ p.history.own
  flown : (id : ℕ) (c : Course) → Flown id c p.queue.in_flight p.history.base
      → Flown id c q.queue.in_flight q.history.base

act_leaves : (act : Act) (p : Parts) → IsHeard act → Can act p → LeavesFlown p (done act p)
act_leaves (Act.PeerKnown t) p heard can = record { own = refl; flown = λ id c f. f }
act_leaves (Act.Opened stream first kind) p heard can = record { own = refl; flown = λ id c f. f }
act_leaves (Act.Wrote stream named bytes) p heard can = absurd heard
act_leaves (Act.Adjusted stream setting) p heard can = absurd heard
act_leaves (Act.SpansEnded ids m) p heard can = record { own = refl; flown = λ id c f. f }
act_leaves (Act.Sent at_once now) p heard can = absurd heard
act_leaves (Act.SentAgain at_once by index) p heard can = absurd heard
act_leaves Act.Marked p heard can = record {
  own = refl;
  flown = λ id c f. marked_flown id c p.queue.in_flight p.history.base f;
}
act_leaves (Act.Acknowledged n blocks missing) p heard can = record {
  own = refl;
  flown = λ id c f.
      acknowledged_flown id c (is_acknowledged_by n blocks) n missing p.queue.in_flight p.history.base can f;
}
act_leaves (Act.Abandoned index) p heard can = absurd heard
act_leaves Act.TailAbandoned p heard can = absurd heard
act_leaves (Act.Dropped k) p heard can = absurd heard
act_leaves (Act.Started now) p heard can = absurd heard
act_leaves Act.Forwarded p heard can = absurd heard
act_leaves (Act.Took piece) p heard can = record { own = refl; flown = λ id c f. f }
act_leaves (Act.Deferred piece) p heard can = record { own = refl; flown = λ id c f. f }
act_leaves (Act.PassedOver t skipped) p heard can = record { own = refl; flown = λ id c f. f }
act_leaves Act.Reported p heard can = absurd heard
act_leaves (Act.WasRead stream) p heard can = absurd heard
act_leaves Act.Ended p heard can = absurd heard

acts_leave : (acts : List Act) (p : Parts) → AllByRecursion IsHeard acts → CanAll acts p
    → LeavesFlown p (done_all acts p)
acts_leave [] p heard can = record { own = refl; flown = λ id c f. f }
acts_leave (act ∷ acts) p (heard, others) (can, cans) =
    let first = act_leaves act p heard can in
    let rest = acts_leave acts (done act p) others cans in
    record { own = rest.own ∙ first.own; flown = λ id c f. rest.flown id c (first.flown id c f) }

-- from here to there by acts of what comes
module _ (acts : List Act) (p q : Parts) (heard : AllByRecursion IsHeard acts) (can : CanAll acts p)
    (there : q ≡ done_all acts p) where
  pub heard_own : q.history.own ≡ p.history.own
  heard_own = ap (λ (z : Parts). z.history.own) there ∙ (acts_leave acts p heard can).own

  pub heard_flown : (id : ℕ) (c : Course) → Flown id c p.queue.in_flight p.history.base
      → Flown id c q.queue.in_flight q.history.base
  heard_flown id c f =
      subst (λ (z : Parts). Flown id c z.queue.in_flight z.history.base) (sym there)
      ((acts_leave acts p heard can).flown id c f)
