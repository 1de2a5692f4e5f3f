-- The acts of a poll lead the course of a stream on: each piece, or marker, that goes in flight has the next offset,
-- and all DATA that they give out stands on offsets that were assigned.
use Rattle.std.proofs.Common.{◌≡◌, refl, sym, ap, ap₂, ◌∙◌, subst, ℕ, zero, suc, ◌+◌, ◌<◌, arith, Bool, true, false}
use Rattle.std.proofs.Common.{◌==◌, ◌⊎◌, ⊎_elim, inl, inr, if◌then◌else◌, List, [], ◌∷◌, ◌++◌, drop, length, map}
use Rattle.std.proofs.Common.{eqb, slice_get, slice_set, Option, Some, None}
use Rattle.std.specs.Prelude.{⊤}
use Rattle.std.specs.List.{AllByRecursion, list_any}
use Rattle.std.proofs.lemmas.Bool.{cases_Bool, cond-false, eq-eqb, eqb-false, eqb-true, false≢true, or_left, or_right}
use Rattle.std.proofs.lemmas.List.{length-map, length_push}
use Rattle.std.proofs.lemmas.Option.{slice_get_within}
use Rattle.sctp_serial.specs.Serial.{tsn}
use Rattle.sctp_wire_types.specs.declared.chunk.ChunkPayloadData.{ChunkPayloadData}
use Rattle.sctp_model.specs.Packets.{mem}
use Rattle.sctp_model.proofs.Lists.{all_join, all_weaker}
use Rattle.sctp_outbound_queue.specs.declared.message.InFlight.{InFlight}
use Rattle.sctp_outbound_queue.specs.declared.message.Retransmission.{Retransmission}
use Rattle.sctp_outbound_queue.specs.declared.message.Retransmission.TheVariants as causes
use Rattle.sctp_outbound_queue.specs.Message.{counted_again, flagged, is_of, is_of_stream, is_outstanding}
use Rattle.sctp_outbound_queue.specs.Message.{is_waiting_of_stream, marked_again, marker_of, sent_once, sent_started}
use Rattle.sctp_outbound_queue.specs.Outbound.{Outbound, changed_from, has_stream, sent_from, tail_dropped}
use Rattle.sctp_outbound_queue.specs.Outbound.{tail_dropped_from}
use Rattle.sctp_outbound_queue.specs.Waiting.{Waiting}
use Rattle.sctp_outbound.specs.Sender.{chunk_of}
use Rattle.sctp_fit.specs.Sendings.{next_chunks}
use Rattle.sctp_directions.specs.Acts.{Act, History, Parts, all_data_given, chunk_said, data_given, done, done_all}
use Rattle.sctp_directions.specs.Acts.{with_abandoned, with_dropped, with_tail_abandoned}
use Rattle.sctp_courses.specs.Course.{Course, Request}
use Rattle.sctp_courses.specs.Events.{Event, assigned_mine, assigned_other, is_to_be_reset}
use Rattle.sctp_sides.proofs.QuietQueues.{IsNoWrite, acts_add_none}
use Rattle.sctp_course_sides.specs.Follows.{IsOfCourse}
use Rattle.sctp_course_sides.specs.Sends.{SendsOn}
use Rattle.sctp_course_sides.proofs.SentOn.{sends_by, sends_grow, sends_nothing, sends_then, still_of_course}

-- What is in flight

-- the pieces from an offset on that are of the stream stand on offsets of the stream
abbrev pub StandOn : ℕ → List ℕ → ℕ → List InFlight → Type 0
StandOn id mine o [] = ⊤
StandOn id mine o (x ∷ xs) =
    (x.message.stream_identifier ≡ id → mem o mine ≡ true) × StandOn id mine (suc o) xs

pub some_same : {X : Type 0} (x y : X) → Some x ≡ Some y → x ≡ y
some_same x y e = cc

just_past : (n m : ℕ) → m ≡ suc n → n < m
just_past n m e = omega arith

next_assigned : (n m base k j : ℕ) → m ≡ suc n → n ≡ base + k → j ≡ suc k → m ≡ base + j
next_assigned n m base k j e f g = omega arith

pub one_more : {X : Type 0} (xs : List X) (y : X) → length (xs ++ y ∷ []) ≡ suc (length xs)
one_more xs y = let l = length_push xs y in omega arith

pub plus_front : (n m : ℕ) → n + suc m ≡ suc n + m
plus_front n m = omega arith

pub set_length : {X : Type 0} (xs : List X) (index : ℕ) (y : X) → length (slice_set xs index y) ≡ length xs
set_length [] index y = refl
set_length (x ∷ xs) zero y = refl
set_length (x ∷ xs) (suc index) y = ap suc (set_length xs index y)

module _ (id : ℕ) where
  pub stand_more : (mine more : List ℕ) → ((o : ℕ) → mem o mine ≡ true → mem o more ≡ true) → (o : ℕ)
      → (xs : List InFlight) → StandOn id mine o xs → StandOn id more o xs
  stand_more mine more f o [] s = tt
  stand_more mine more f o (x ∷ xs) (s, ss) = (λ e. f o (s e), stand_more mine more f (suc o) xs ss)

  module _ (mine : List ℕ) where
    pub stand_get : (xs : List InFlight) (o index : ℕ) (x : InFlight) → slice_get xs index ≡ Some x
        → StandOn id mine o xs → x.message.stream_identifier ≡ id → mem (o + index) mine ≡ true
    stand_get [] o index x there s e = absurd (cc)
    stand_get (y ∷ ys) o zero x there (s, ss) e =
        let same : o ≡ o + 0 = omega arith in
        subst (λ (n : ℕ). mem n mine ≡ true) same
        (s (ap (λ (z : InFlight). z.message.stream_identifier) (some_same y x there) ∙ e))
    stand_get (y ∷ ys) o (suc index) x there (s, ss) e =
        let same : suc o + index ≡ o + suc index = omega arith in
        subst (λ (n : ℕ). mem n mine ≡ true) same (stand_get ys (suc o) index x there ss e)

    pub stand_where : (xs : List InFlight) (o : ℕ) → ((index : ℕ) (x : InFlight) → slice_get xs index ≡ Some x
        → x.message.stream_identifier ≡ id → mem (o + index) mine ≡ true) → StandOn id mine o xs
    stand_where [] o f = tt
    stand_where (x ∷ xs) o f =
        let here : o + 0 ≡ o = omega arith in (
          λ e. subst (λ (n : ℕ). mem n mine ≡ true) here (f 0 x refl e),
          stand_where xs (suc o) (λ index y there e.
              (let next : o + suc index ≡ suc o + index = omega arith in
              subst (λ (n : ℕ). mem n mine ≡ true) next (f (suc index) y there e))),
        )

    stand_push : (xs : List InFlight) (o : ℕ) (y : InFlight) → StandOn id mine o xs
        → (y.message.stream_identifier ≡ id → mem (o + length xs) mine ≡ true) → StandOn id mine o (xs ++ y ∷ [])
    stand_push [] o y s f =
        let here : o + 0 ≡ o = omega arith in (λ e. subst (λ (n : ℕ). mem n mine ≡ true) here (f e), tt)
    stand_push (x ∷ xs) o y (s, ss) f = (
      s,
      stand_push xs (suc o) y ss
          (λ e. subst (λ (n : ℕ). mem n mine ≡ true) (plus_front o (length xs)) (f e)),
    )

    -- each piece changed, and is of the stream it was of
    stand_map : (f : InFlight → InFlight)
        → ((x : InFlight) → (f x).message.stream_identifier ≡ x.message.stream_identifier) → (xs : List InFlight)
        → (o : ℕ) → StandOn id mine o xs → StandOn id mine o (map f xs)
    stand_map f same [] o s = tt
    stand_map f same (x ∷ xs) o (s, ss) = (λ e. s (sym (same x) ∙ e), stand_map f same xs (suc o) ss)

    stand_set : (xs : List InFlight) (o index : ℕ) (x y : InFlight) → slice_get xs index ≡ Some x
        → y.message.stream_identifier ≡ x.message.stream_identifier → StandOn id mine o xs
        → StandOn id mine o (slice_set xs index y)
    stand_set [] o index x y there same s = tt
    stand_set (z ∷ zs) o zero x y there same (s, ss) =
        let was : z.message.stream_identifier ≡ x.message.stream_identifier =
        ap (λ (w : InFlight). w.message.stream_identifier) (some_same z x there) in
        (λ e. s (was ∙ sym same ∙ e), ss)
    stand_set (z ∷ zs) o (suc index) x y there same (s, ss) = (s, stand_set zs (suc o) index x y there same ss)

-- The pieces keep their streams.

same_if : (c : Bool) (x y : InFlight) → y.message.stream_identifier ≡ x.message.stream_identifier
    → (if c then y else x).message.stream_identifier ≡ x.message.stream_identifier
same_if true x y e = e
same_if false x y e = refl

counted_same : (by : Retransmission) (x : InFlight)
    → (counted_again by x).message.stream_identifier ≡ x.message.stream_identifier
counted_same causes.Timer x = refl
counted_same causes.Fast x = refl

marked_same : (x : InFlight) → (marked_again x).message.stream_identifier ≡ x.message.stream_identifier
marked_same x = same_if (is_outstanding x) x _ refl

flagged_same : (message : ℕ) (x : InFlight)
    → (flagged message x).message.stream_identifier ≡ x.message.stream_identifier
flagged_same message x = same_if (is_of message x) x _ refl

-- What an act may be that a poll does, or a timeout.
abbrev pub IsOfPoll : Act → Type 0
IsOfPoll (Act.Sent at_once now) = ⊤
IsOfPoll (Act.SentAgain at_once by index) = ⊤
IsOfPoll Act.Marked = ⊤
IsOfPoll (Act.Abandoned index) = ⊤
IsOfPoll Act.TailAbandoned = ⊤
IsOfPoll (Act.Dropped k) = ⊤
IsOfPoll (Act.Started now) = ⊤
IsOfPoll Act.Forwarded = ⊤
IsOfPoll Act.Reported = ⊤
IsOfPoll Act.Ended = ⊤
IsOfPoll act = ⊥

-- What its queue says of the course: all that was assigned is what is in flight and what was before it, and of a stream
-- that is to be reset nothing waits or is in flight.
pub record LeadsData (initial id : ℕ) (p : Parts) (c : Course) : Type 0 where
  pub own : p.history.own ≡ initial
  pub assigned : c.assigned ≡ p.history.base + length p.queue.in_flight
  pub stand : StandOn id c.mine p.history.base p.queue.in_flight
  pub quiet : is_to_be_reset c ≡ true → has_stream p.queue id ≡ false

-- Acts led the course of a stream on, asked for nothing, and gave out DATA of it.
pub record SendsActs (initial id : ℕ) (c : Course) (q : Parts) (given : List ChunkPayloadData) : Type 0 where
  pub after : Course
  pub on : SendsOn c after
  pub asked : after.asked ≡ c.asked
  pub performed : after.performed ≡ c.performed
  pub leads : LeadsData initial id q after
  pub of_course : AllByRecursion (IsOfCourse initial id after) given

pub reset_same : (c d : Course) → d.asked ≡ c.asked → d.performed ≡ c.performed
    → is_to_be_reset d ≡ is_to_be_reset c
reset_same c d asked performed =
    ap₂ (λ (n : ℕ) (qs : List Request). list_any (λ (q : Request). q.named) (drop n qs)) performed asked

module _ (initial id : ℕ) (act : Act) (p r : Parts) (c : Course) (writes : IsNoWrite act) (is : done act p ≡ r)
    (same : r.history ≡ p.history) (h : LeadsData initial id p c)
  where
    quiet_then : is_to_be_reset c ≡ true → has_stream r.queue id ≡ false
    quiet_then e =
        subst (λ (z : Parts). has_stream z.queue id ≡ false) is
        (acts_add_none (act ∷ []) p id (writes, tt) (h.quiet e))

    -- no new offset
    stays : length r.queue.in_flight ≡ length p.queue.in_flight
        → StandOn id c.mine p.history.base r.queue.in_flight
        → AllByRecursion (IsOfCourse initial id c) (data_given act p)
        → SendsActs initial id c (done act p) (data_given act p)
    stays few stand given = record {
      after = c;
      on = sends_nothing c;
      asked = refl;
      performed = refl;
      leads = subst (λ (z : Parts). LeadsData initial id z c) (sym is) (record {
        own = ap (λ (k : History). k.own) same ∙ h.own;
        assigned =
            h.assigned ∙ ap (λ (n : ℕ). p.history.base + n) (sym few)
            ∙ ap (λ (k : History). k.base + length r.queue.in_flight) (sym same);
        stand = subst (λ (k : History). StandOn id c.mine k.base r.queue.in_flight) (sym same) stand;
        quiet = quiet_then;
      });
      of_course = given;
    }

    -- the next offset, which a piece has that was of a message that waited
    module _ (y : InFlight) (few : length r.queue.in_flight ≡ suc (length p.queue.in_flight))
        (stand : (mine : List ℕ) → StandOn id mine p.history.base (p.queue.in_flight ++ y ∷ [])
        → StandOn id mine p.history.base r.queue.in_flight)
        (waited : y.message.stream_identifier ≡ id → has_stream p.queue id ≡ true)
        (given : (d : Course) → d.assigned ≡ suc c.assigned
        → (y.message.stream_identifier ≡ id → mem c.assigned d.mine ≡ true)
        → AllByRecursion (IsOfCourse initial id d) (data_given act p))
      where
        takes_one : (d : Course) (e : Event) → SendsOn c d → d.asked ≡ c.asked → d.performed ≡ c.performed
            → d.assigned ≡ suc c.assigned → ((o : ℕ) → mem o c.mine ≡ true → mem o d.mine ≡ true)
            → (y.message.stream_identifier ≡ id → mem c.assigned d.mine ≡ true)
            → SendsActs initial id c (done act p) (data_given act p)
        takes_one d e on asked performed one more mine = record {
          after = d;
          on = on;
          asked = asked;
          performed = performed;
          leads = subst (λ (z : Parts). LeadsData initial id z d) (sym is) (record {
            own = ap (λ (k : History). k.own) same ∙ h.own;
            assigned =
                next_assigned c.assigned d.assigned p.history.base (length p.queue.in_flight)
                (length r.queue.in_flight) one h.assigned few
                ∙ ap (λ (k : History). k.base + length r.queue.in_flight) (sym same);
            stand =
                subst (λ (k : History). StandOn id d.mine k.base r.queue.in_flight) (sym same)
                (stand d.mine
                (stand_push id d.mine p.queue.in_flight p.history.base y
                (stand_more id c.mine d.mine more p.history.base p.queue.in_flight h.stand)
                (λ f. subst (λ (n : ℕ). mem n d.mine ≡ true) h.assigned (mine f))));
            quiet = λ f. quiet_then (sym (reset_same c d asked performed) ∙ f);
          });
          of_course = given d one mine;
        }

        -- it is of this stream, which so is not to be reset
        takes_mine : y.message.stream_identifier ≡ id → is_to_be_reset c ≡ false
            → SendsActs initial id c (done act p) (data_given act p)
        takes_mine ours none =
            takes_one (assigned_mine c) Event.AssignsMine
            (sends_by c (assigned_mine c) Event.AssignsMine refl
            (sym (cond-false (is_to_be_reset c) c (assigned_mine c) none))) refl refl refl
            (λ o m. or_right (eqb c.assigned o) (mem o c.mine) m)
            (λ f. or_left (eqb c.assigned c.assigned) (mem c.assigned c.mine) (eq-eqb c.assigned c.assigned refl))

        none_to_be_reset : y.message.stream_identifier ≡ id → is_to_be_reset c ≡ false
        none_to_be_reset ours =
            ⊎_elim (λ (e : is_to_be_reset c ≡ true). absurd (false≢true (sym (h.quiet e) ∙ waited ours)))
            (λ (e : is_to_be_reset c ≡ false). e) (cases_Bool (is_to_be_reset c))

        takes : SendsActs initial id c (done act p) (data_given act p)
        takes =
            ⊎_elim
            (λ (e : eqb y.message.stream_identifier id ≡ true).
            let ours = eqb-true y.message.stream_identifier id e in takes_mine ours (none_to_be_reset ours))
            (λ (e : eqb y.message.stream_identifier id ≡ false).
            takes_one (assigned_other c) Event.AssignsOther
            (sends_by c (assigned_other c) Event.AssignsOther refl refl) refl refl refl (λ o m. m)
            (λ f. absurd (eqb-false y.message.stream_identifier id e f)))
            (cases_Bool (eqb y.message.stream_identifier id))

-- The first message that waits is of a stream of which something waits.
first_waits : (id : ℕ) (q : Outbound) (m : Waiting) (ms : List Waiting) → q.pending ≡ m ∷ ms
    → m.message.stream_identifier ≡ id → has_stream q id ≡ true
first_waits id q m ms e ours =
    or_left (list_any (is_waiting_of_stream id) q.pending) (list_any (is_of_stream id) q.in_flight)
    (subst (λ (ws : List Waiting). list_any (is_waiting_of_stream id) ws ≡ true) (sym e)
    (or_left (is_waiting_of_stream id m) (list_any (is_waiting_of_stream id) ms)
    (eq-eqb m.message.stream_identifier id ours)))

-- Of a message whose tail is dropped a marker goes in flight, or nothing.
pub record Marks (id : ℕ) (q b : Outbound) : Type 0 where
  pub message : Waiting
  pub flies : b.in_flight ≡ q.in_flight ++ marker_of message.message ∷ []
  pub waited : message.message.stream_identifier ≡ id → has_stream q id ≡ true

tail_if : (id : ℕ) (first : Bool) (q a : Outbound) (bytes : ℕ) → Marks id q a
    → ((if◌then◌else◌ {A = Outbound × ℕ} first (a, bytes) (q, 0)).0.in_flight ≡ q.in_flight)
    ⊎ Marks id q (if◌then◌else◌ {A = Outbound × ℕ} first (a, bytes) (q, 0)).0
tail_if id true q a bytes m = inr m
tail_if id false q a bytes m = inl refl

tail_of : (id message : ℕ) (q : Outbound) (ws : List Waiting) → q.pending ≡ ws
    → ((tail_dropped_from ws q message).0.in_flight ≡ q.in_flight) ⊎ Marks id q (tail_dropped_from ws q message).0
tail_of id message q [] e = inl refl
tail_of id message q (m ∷ ms) e =
    tail_if id (m.message.message_id == message) q
    (record q { pending = ms; in_flight = q.in_flight ++ marker_of m.message ∷ [] }) _
    (record { message = m; flies = refl; waited = first_waits id q m ms e })

module _ (initial id : ℕ) (p : Parts) (c : Course) (h : LeadsData initial id p c) where
  abbrev pub Leads : Act → Type 0
  Leads act = SendsActs initial id c (done act p) (data_given act p)

  -- it leaves what is in flight
  rests : (act : Act) → IsNoWrite act → (done act p).queue.in_flight ≡ p.queue.in_flight
      → (done act p).history ≡ p.history → data_given act p ≡ [] → Leads act
  rests act writes flies same none =
      stays initial id act p (done act p) c writes refl same h (ap length flies)
      (subst (λ (xs : List InFlight). StandOn id c.mine p.history.base xs) (sym flies) h.stand)
      (subst (AllByRecursion (IsOfCourse initial id c)) (sym none) tt)

  -- New DATA

  sent_one : (at_once : Bool) (now : ℕ) (ws : List Waiting) → p.queue.pending ≡ ws → Leads (Act.Sent at_once now)
  sent_one at_once now [] e =
      let t = tsn p.history.own (p.history.base + length p.queue.in_flight) in
      let r : Parts = record p { queue = sent_from [] p.queue now } in
      stays initial id (Act.Sent at_once now) p r c tt
      (ap (λ (ws : List Waiting). record p { queue = sent_from ws p.queue now }) e) refl h refl h.stand
      (subst (λ (ws : List Waiting). AllByRecursion (IsOfCourse initial id c) (next_chunks at_once ws t)) (sym e) tt)
  sent_one at_once now (m ∷ ms) e =
      let t = tsn p.history.own (p.history.base + length p.queue.in_flight) in
      let r : Parts = record p { queue = sent_from (m ∷ ms) p.queue now } in
      let at : t ≡ tsn initial c.assigned =
      ap (λ (own : ℕ). tsn own (p.history.base + length p.queue.in_flight)) h.own
      ∙ ap (tsn initial) (sym h.assigned) in
      takes initial id (Act.Sent at_once now) p r c tt
      (ap (λ (ws : List Waiting). record p { queue = sent_from ws p.queue now }) e) refl h (sent_once now m)
      (one_more p.queue.in_flight (sent_once now m)) (λ mine s. s)
      (first_waits id p.queue m ms e)
      (λ d one mine.
      subst (λ (ws : List Waiting). AllByRecursion (IsOfCourse initial id d) (next_chunks at_once ws t)) (sym e)
      (record { offset = c.assigned; assigned = just_past c.assigned d.assigned one; is = at; mine = mine }, tt))

  -- DATA again

  sent_again : (at_once : Bool) (by : Retransmission) (index : ℕ) (o : Option InFlight) → slice_get p.queue.in_flight index ≡ o
      → Leads (Act.SentAgain at_once by index)
  sent_again at_once by index None e =
      let t = tsn p.history.own (p.history.base + index) in
      let r : Parts = record p { queue = changed_from (counted_again by) None p.queue index } in
      stays initial id (Act.SentAgain at_once by index) p r c tt
      (ap (λ (o : Option InFlight). record p { queue = changed_from (counted_again by) o p.queue index }) e) refl h refl
      h.stand
      (subst (λ (o : Option InFlight). AllByRecursion (IsOfCourse initial id c) (chunk_said at_once o t)) (sym e) tt)
  sent_again at_once by index (Some x) e =
      let t = tsn p.history.own (p.history.base + index) in
      let r : Parts = record p { queue = changed_from (counted_again by) (Some x) p.queue index } in
      let l = slice_get_within p.queue.in_flight index x e in
      let a = h.assigned in
      let one : IsOfCourse initial id c (chunk_of at_once x t) = record {
        offset = p.history.base + index;
        assigned = omega arith;
        is = ap (λ (own : ℕ). tsn own (p.history.base + index)) h.own;
        mine = λ ours. stand_get id c.mine p.queue.in_flight p.history.base index x e h.stand ours;
      } in
      stays initial id (Act.SentAgain at_once by index) p r c tt
      (ap (λ (o : Option InFlight). record p { queue = changed_from (counted_again by) o p.queue index }) e) refl h
      (set_length p.queue.in_flight index (counted_again by x))
      (stand_set id c.mine p.queue.in_flight p.history.base index x (counted_again by x) e (counted_same by x) h.stand)
      (subst (λ (o : Option InFlight). AllByRecursion (IsOfCourse initial id c) (chunk_said at_once o t)) (sym e) (one, tt))

  -- Messages that are given up

  abandoned_one : (index : ℕ) (o : Option InFlight) → slice_get p.queue.in_flight index ≡ o
      → Leads (Act.Abandoned index)
  abandoned_one index None e =
      stays initial id (Act.Abandoned index) p p c tt (ap (λ (o : Option InFlight). with_abandoned o p) e) refl h refl
      h.stand tt
  abandoned_one index (Some x) e =
      let number = x.message.message_id in
      let b = (tail_dropped p.queue number).0 in
      let r : Parts = with_abandoned (Some x) p in
      let is : done (Act.Abandoned index) p ≡ r = ap (λ (o : Option InFlight). with_abandoned o p) e in
      ⊎_elim
      (λ (flies : b.in_flight ≡ p.queue.in_flight).
      stays initial id (Act.Abandoned index) p r c tt is refl h
      (length-map b.in_flight (flagged number) ∙ ap length flies)
      (stand_map id c.mine (flagged number) (flagged_same number) b.in_flight p.history.base
      (subst (λ (xs : List InFlight). StandOn id c.mine p.history.base xs) (sym flies) h.stand)) tt)
      (λ (m : Marks id p.queue b).
      let y = marker_of m.message.message in
      takes initial id (Act.Abandoned index) p r c tt is refl h y
      (length-map b.in_flight (flagged number) ∙ ap length m.flies ∙ one_more p.queue.in_flight y)
      (λ mine s.
      stand_map id mine (flagged number) (flagged_same number) b.in_flight p.history.base
      (subst (λ (xs : List InFlight). StandOn id mine p.history.base xs) (sym m.flies) s))
      m.waited (λ d one mine. tt))
      (tail_of id number p.queue p.queue.pending refl)

  tail_one : (o : Option Waiting) → slice_get p.queue.pending 0 ≡ o → Leads Act.TailAbandoned
  tail_one None e =
      stays initial id Act.TailAbandoned p p c tt (ap (λ (o : Option Waiting). with_tail_abandoned o p) e) refl h refl
      h.stand tt
  tail_one (Some x) e =
      let number = x.message.message_id in
      let b = (tail_dropped p.queue number).0 in
      let r : Parts = with_tail_abandoned (Some x) p in
      let is : done Act.TailAbandoned p ≡ r = ap (λ (o : Option Waiting). with_tail_abandoned o p) e in
      ⊎_elim
      (λ (flies : b.in_flight ≡ p.queue.in_flight).
      stays initial id Act.TailAbandoned p r c tt is refl h (ap length flies)
      (subst (λ (xs : List InFlight). StandOn id c.mine p.history.base xs) (sym flies) h.stand) tt)
      (λ (m : Marks id p.queue b).
      let y = marker_of m.message.message in
      takes initial id Act.TailAbandoned p r c tt is refl h y
      (ap length m.flies ∙ one_more p.queue.in_flight y)
      (λ mine s. subst (λ (xs : List InFlight). StandOn id mine p.history.base xs) (sym m.flies) s)
      m.waited (λ d one mine. tt))
      (tail_of id number p.queue p.queue.pending refl)

  dropped_one : (k : ℕ) (o : Option Waiting) → slice_get p.queue.pending k ≡ o → Leads (Act.Dropped k)
  dropped_one k None e =
      stays initial id (Act.Dropped k) p p c tt (ap (λ (o : Option Waiting). with_dropped k o p) e) refl h refl h.stand
      tt
  dropped_one k (Some x) e =
      stays initial id (Act.Dropped k) p (with_dropped k (Some x) p) c tt
      (ap (λ (o : Option Waiting). with_dropped k o p) e) refl h refl h.stand tt

  -- each act of a poll
  pub act_sends : (act : Act) → IsOfPoll act → Leads act
  act_sends (Act.Sent at_once now) ours = sent_one at_once now p.queue.pending refl
  act_sends (Act.SentAgain at_once by index) ours = sent_again at_once by index (slice_get p.queue.in_flight index) refl
  act_sends Act.Marked ours =
      stays initial id Act.Marked p (done Act.Marked p) c tt refl refl h (length-map p.queue.in_flight marked_again)
      (stand_map id c.mine marked_again marked_same p.queue.in_flight p.history.base h.stand) tt
  act_sends (Act.Abandoned index) ours = abandoned_one index (slice_get p.queue.in_flight index) refl
  act_sends Act.TailAbandoned ours = tail_one (slice_get p.queue.pending 0) refl
  act_sends (Act.Dropped k) ours = dropped_one k (slice_get p.queue.pending k) refl
  act_sends (Act.Started now) ours =
      stays initial id (Act.Started now) p (done (Act.Started now) p) c tt refl refl h
      (length-map p.queue.in_flight (sent_started now))
      (stand_map id c.mine (sent_started now) (λ x. refl) p.queue.in_flight p.history.base h.stand) tt
  act_sends Act.Forwarded ours = rests Act.Forwarded tt refl refl refl
  act_sends Act.Reported ours = rests Act.Reported tt refl refl refl
  act_sends Act.Ended ours = rests Act.Ended tt refl refl refl
  act_sends act ours = absurd ours

-- All acts of a poll, one behind another: the course goes on by the offsets that they assign.
pub acts_send : (initial id : ℕ) (acts : List Act) (p : Parts) (c : Course) → AllByRecursion IsOfPoll acts
    → LeadsData initial id p c → SendsActs initial id c (done_all acts p) (all_data_given acts p)
acts_send initial id [] p c ours h = record {
  after = c;
  on = sends_nothing c;
  asked = refl;
  performed = refl;
  leads = h;
  of_course = tt;
}
acts_send initial id (act ∷ acts) p c (one, ours) h =
    let s = act_sends initial id p c h act one in
    let t = acts_send initial id acts (done act p) s.after ours s.leads in
    record {
      after = t.after;
      on = sends_then c s.after t.after s.on t.on;
      asked = t.asked ∙ s.asked;
      performed = t.performed ∙ s.performed;
      leads = t.leads;
      of_course =
          all_join (IsOfCourse initial id t.after) (data_given act p) (all_data_given acts (done act p))
          (all_weaker (IsOfCourse initial id s.after) (IsOfCourse initial id t.after) (data_given act p)
          (still_of_course initial id s.after t.after (sends_grow s.after t.after t.on)) s.of_course) t.of_course;
    }
