-- The requests of a poll lead the course of a stream on: one that goes out for the first time is asked for under the
-- next number, with what was assigned until then, and one that goes out again is the last one that the course has.
use Rattle.std.proofs.Common.{◌≡◌, refl, sym, ap, ◌∙◌, subst, ℕ, suc, ◌+◌, ◌<◌, ◌≤◌, ◌^◌, arith, Bool, true, false}
use Rattle.std.proofs.Common.{◌||◌, ◌==◌, ◌⊎◌, ⊎_elim, inl, inr, if◌then◌else◌, not, is_some, eqb, length}
use Rattle.std.proofs.Common.{List, [], ◌∷◌, ◌++◌, Option, Some, None}
use Rattle.std.specs.Prelude.{◌≢◌}
use Rattle.std.specs.List.{AllByRecursion}
use Rattle.std.proofs.lemmas.Bool.{cases_Bool, cond-false, eqb-false, eqb-true, false≢true, ne_eqb, or_parts}
use Rattle.std.proofs.lemmas.Bool.{true≢false}
use Rattle.std.proofs.lemmas.List.{get_or_at, nil_from_length}
use Rattle.sctp_serial.specs.Serial.{tsn, tsn_after}
use Rattle.sctp_wire_types.specs.declared.param.ParamOutgoingResetRequest.{ParamOutgoingResetRequest}
use Rattle.sctp_outbound_queue.specs.Outbound.{Outbound, has_stream}
use Rattle.sctp_reset_requests.specs.declared.own_request.OwnRequest.{OwnRequest}
use Rattle.sctp_reset_requests.specs.declared.own_request.SentRequest.{SentRequest}
use Rattle.sctp_reset_requests.specs.Ids.{has_id}
use Rattle.sctp_reset_requests.specs.Laws.{DataHoldsBack, NamesAreThoseListed}
use Rattle.sctp_reset_requests.specs.Own.{AreNumbered, OwnView, asked, asked_for, last_tsn_of, may_go, open_with}
use Rattle.sctp_reset_requests.specs.Own.{param_again, param_of, put_ahead, quiet_ids, repeated, resets, sent_first}
use Rattle.sctp_reset_requests.specs.Own.{sent_of, sent_param, stream_identifiers_of, with_active, with_repeat}
use Rattle.sctp_reset_requests.specs.Own.{with_request}
use Rattle.sctp_reset_requests.specs.Peer.{PeerView}
use Rattle.sctp_reset_requests.specs.Request.{names, request_of}
use Rattle.sctp_courses.specs.Course.{Course, Request, no_request, request_at}
use Rattle.sctp_courses.specs.Events.{Event, asking, is_to_be_reset}
use Rattle.sctp_reset_fit.specs.Stands.{last_below}
use Rattle.sctp_assoc.specs.Gather.{listed}
use Rattle.sctp_sides.specs.Restarts.{is_reset_by}
use Rattle.sctp_course_sides.specs.Follows.{IsAskedIn}
use Rattle.sctp_course_sides.specs.Honest.{RequestNames}
use Rattle.sctp_course_sides.specs.Sends.{AreIdentifiers, AreSmall, IsLastAsked, NamesStreams, SendsOn}
use Rattle.sctp_course_sides.proofs.Identifiers.{quiet_small, without_small}
use Rattle.sctp_course_sides.proofs.SentData.{one_more, plus_front, some_same}
use Rattle.sctp_course_sides.proofs.SentOn.{Grows, asked_then, sends_by, sends_nothing, still_asked}

-- One of the requests of the course, which lists its streams.
abbrev pub IsAskedByNames : ℕ → ℕ → Course → ParamOutgoingResetRequest → Type 0
IsAskedByNames initial id c param = IsAskedIn initial id c param × RequestNames param

-- What the requests of a side say of the course of one of its streams, beside what waits and is in flight, and beside
-- the streams whose last reset failed.
pub record OwnSends (initial id : ℕ) (failed : List ℕ) (q : Outbound) (o : OwnView) (c : Course) : Type 0 where
  pub numbers : o.next_number ≡ tsn initial (length c.asked + length o.queued)
  pub in_order : AreNumbered (open_with o.active o.queued) o.next_number
  pub small : AreSmall o.active o.queued
  pub active : (s : SentRequest) → o.active ≡ Some s → IsLastAsked initial id c s
  pub by_ids : AllByRecursion NamesStreams (open_with o.active o.queued)
  pub waiting : AreIdentifiers o.waiting
  pub held_back : is_to_be_reset c ≡ true → (has_stream q id ≡ false)
      × ((is_reset_by o.active id ≡ true) ⊎ (has_id id failed ≡ true))

-- So many requests may go out for the first time now: one, where none is active.
abbrev pub room_for_first : Option SentRequest → ℕ
room_for_first None = 1
room_for_first (Some s) = 0

-- The requests of a side led the course on, and are of it; nothing was assigned. One that went out for the first time
-- took the room that there was for it before.
pub record OwnLeads (initial id : ℕ) (failed : List ℕ) (q : Outbound) (c : Course) (before : ℕ) (o : OwnView)
    (given : List ParamOutgoingResetRequest) : Type 0 where
  pub after : Course
  pub on : SendsOn c after
  pub assigned : after.assigned ≡ c.assigned
  pub mine : after.mine ≡ c.mine
  pub count : length after.asked + room_for_first o.active ≡ length c.asked + before
  pub sends : OwnSends initial id failed q o after
  pub are_asked : AllByRecursion (IsAskedByNames initial id after) given

-- Numbers

tsn_next : (initial o : ℕ) → tsn_after (tsn initial o) ≡ tsn initial (suc o)
tsn_next initial o = omega arith

tsn_is_small : (initial o n : ℕ) → n ≡ tsn initial o → n < 2 ^ 32
tsn_is_small initial o n e = omega arith

after_is_small : (n m : ℕ) → tsn_after n ≡ m → m < 2 ^ 32
after_is_small n m e = omega arith

before_next : (initial o n : ℕ) → n < 2 ^ 32 → tsn_after n ≡ tsn initial (suc o) → n ≡ tsn initial o
before_next initial o n l e = omega arith

one_past : (n : ℕ) → n + suc 0 ≡ suc n
one_past n = omega arith

suc_plus : (n m : ℕ) → suc (n + m) ≡ n + suc m
suc_plus n m = omega arith

-- the number of the first of these requests, by the next number behind them
first_number : (initial n next : ℕ) (r : OwnRequest) (rs : List OwnRequest) → r.number < 2 ^ 32
    → AreNumbered (r ∷ rs) next → next ≡ tsn initial (n + length (r ∷ rs)) → r.number ≡ tsn initial n
first_number initial n next r [] l e f =
    before_next initial n r.number l (e ∙ f ∙ ap (tsn initial) (one_past n))
first_number initial n next r (s ∷ rs) l (e, es) f =
    before_next initial n r.number l
    (e ∙ first_number initial (suc n) next s rs (after_is_small r.number s.number e) es
    (f ∙ ap (tsn initial) (plus_front n (length (s ∷ rs)))))

-- What a request names

not_empty : (n : ℕ) → 0 < n → (n == 0) ≡ false
not_empty n l = ne_eqb n 0 (λ (e : n ≡ 0). omega arith)

some_in : (n : ℕ) → (n == 0) ≡ false → 0 < n
some_in n e = let ne : n ≢ 0 = eqb-false n 0 e in omega arith

none_there : {X : Type 0} (o : Option X) → is_some o ≡ false → o ≡ None
none_there None e = refl
none_there (Some x) e = absurd (true≢false e)

empty_of : (xs : List OwnRequest) → not (length xs == 0) ≡ false → xs ≡ []
empty_of xs f =
    ⊎_elim (λ (e : eqb (length xs) 0 ≡ true). nil_from_length xs (eqb-true (length xs) 0 e))
    (λ (e : eqb (length xs) 0 ≡ false). absurd (true≢false (sym (ap not e) ∙ f))) (cases_Bool (eqb (length xs) 0))

-- The requests that are made leave the active one.

active_some : (none : Bool) (o : OwnView) (ids : List ℕ) (last : ℕ)
    → (if◌then◌else◌ {A = OwnView × Bool} none (o, false)
    (with_request (put_ahead o ids) last false ids, true)).0.active ≡ o.active
active_some true o ids last = refl
active_some false o ids last = refl

active_for : (o : OwnView) (ids : List ℕ) (last : Option ℕ) → (asked_for ids last o).0.active ≡ o.active
active_for o ids None = refl
active_for o ids (Some last) = active_some (length ids == 0) o ids last

active_if : (open_still : Bool) (o : OwnView) (x : OwnView × Bool) → x.0.active ≡ o.active
    → (if open_still then (o, false) else x).0.active ≡ o.active
active_if true o x e = refl
active_if false o x e = e

pub made_leaves_active : (o : OwnView) (q : Outbound) (p : PeerView) → (asked o q p).0.active ≡ o.active
made_leaves_active o q p =
    active_if (is_some o.active || not (length o.queued == 0)) o (asked_for (quiet_ids o q) p.last_completed o)
    (active_for o (quiet_ids o q) p.last_completed)

-- So does one that goes out again, in what room there is.
room_again : (due : Bool) (active : Option SentRequest)
    → room_for_first (with_repeat due active) ≡ room_for_first active
room_again due None = refl
room_again due (Some s) = refl

-- one that goes out takes it
room_taken : (n m : ℕ) → m ≡ suc n → m + 0 ≡ n + 1
room_taken n m e = omega arith

-- where the course goes on, the request is still one of it
pub still_by_names : (initial id : ℕ) (c d : Course) → Grows c d → (p : ParamOutgoingResetRequest)
    → IsAskedByNames initial id c p → IsAskedByNames initial id d p
still_by_names initial id c d g p x = (still_asked initial id c d g p x.0, x.1)

-- One of these, as a whole: the last request of the course goes out, or goes out again.
module _ (those_listed : NamesAreThoseListed) (initial id : ℕ) where
  names_as : (r : OwnRequest) (last_tsn : ℕ) → NamesStreams r
      → names (request_of (param_of r last_tsn)) id ≡ resets id r
  names_as r last_tsn n =
      let ids : stream_identifiers_of r ≡ r.ids = cond-false r.names_all [] r.ids n.listed in
      let some : (length r.ids == 0) ≡ false = not_empty (length r.ids) n.some in
      those_listed (param_of r last_tsn) id
      ∙ ap (λ (xs : List ℕ). (length xs == 0) || has_id id xs) ids
      ∙ ap (λ (b : Bool). b || has_id id r.ids) some
      ∙ sym (ap (λ (b : Bool). b || has_id id r.ids) n.listed)

  pub last_is_asked : (c : Course) (s : SentRequest) → IsLastAsked initial id c s → NamesStreams s.request
      → IsAskedByNames initial id c (sent_param s)
  last_is_asked c s l n = (
    record {
      index = l.index;
      asked = (let e = l.last in omega arith);
      number = l.number;
      last = l.boundary;
      named = names_as s.request s.last_tsn n ∙ l.named;
    },
    subst (λ (ids : List ℕ). (0 < length ids) × AreIdentifiers ids)
        (sym (cond-false s.request.names_all [] s.request.ids n.listed)) (n.some, n.small),
  )

  -- The active request goes out again.

  again_if : (due : Bool) (c : Course) (s : SentRequest) → IsLastAsked initial id c s → NamesStreams s.request
      → AllByRecursion (IsAskedByNames initial id c) (listed (if due then Some (sent_param s) else None))
  again_if true c s l n = (last_is_asked c s l n, tt)
  again_if false c s l n = tt

  module _ (failed : List ℕ) (q : Outbound) (o : OwnView) (c : Course) (h : OwnSends initial id failed q o c) where
    again_of : (active : Option SentRequest) → o.active ≡ active
        → OwnSends initial id failed q (with_active o (with_repeat false active)) c
        × AllByRecursion (IsAskedByNames initial id c) (listed (param_again active))
    again_of None e = (
      record {
        numbers = h.numbers;
        in_order = subst (λ (a : Option SentRequest). AreNumbered (open_with a o.queued) o.next_number) e h.in_order;
        small = subst (λ (a : Option SentRequest). AreSmall a o.queued) e h.small;
        active = λ s f. h.active s (e ∙ f);
        by_ids = subst (λ (a : Option SentRequest). AllByRecursion NamesStreams (open_with a o.queued)) e h.by_ids;
        waiting = h.waiting;
        held_back = λ f.
            subst (λ (a : Option SentRequest). (has_stream q id ≡ false)
            × ((is_reset_by a id ≡ true) ⊎ (has_id id failed ≡ true))) e (h.held_back f);
      },
      tt,
    )
    again_of (Some s) e =
        let l = h.active s e in
        let t : SentRequest = record s { repeat_due = false } in
        let by_ids : AllByRecursion NamesStreams (s.request ∷ o.queued) =
        subst (λ (a : Option SentRequest). AllByRecursion NamesStreams (open_with a o.queued)) e h.by_ids in
        let last : IsLastAsked initial id c t =
        record { index = l.index; last = l.last; number = l.number; boundary = l.boundary; named = l.named } in (
          record {
            numbers = h.numbers;
            in_order =
                subst (λ (a : Option SentRequest). AreNumbered (open_with a o.queued) o.next_number) e h.in_order;
            small = subst (λ (a : Option SentRequest). AreSmall a o.queued) e h.small;
            active = λ u f. subst (λ (x : SentRequest). IsLastAsked initial id c x) (some_same t u f) last;
            by_ids = by_ids;
            waiting = h.waiting;
            held_back = λ f.
                subst (λ (a : Option SentRequest). (has_stream q id ≡ false)
                × ((is_reset_by a id ≡ true) ⊎ (has_id id failed ≡ true))) e (h.held_back f);
          },
          again_if s.repeat_due c s l by_ids.0,
        )

    pub again_sends : OwnLeads initial id failed q c (room_for_first o.active) (repeated o).0 (listed (repeated o).1)
    again_sends =
        let x = again_of o.active refl in
        record {
          after = c;
          on = sends_nothing c;
          assigned = refl;
          mine = refl;
          count = ap (λ (n : ℕ). length c.asked + n) (room_again false o.active);
          sends = x.0;
          are_asked = x.1;
        }

    -- A request is made, where none is open.

    made_of : (ids : List ℕ) (last : ℕ) → 0 < length ids → AreIdentifiers ids → o.active ≡ None → o.queued ≡ []
        → OwnSends initial id failed q (with_request (put_ahead o ids) last false ids) c
    made_of ids last some fit none empty =
        let r : OwnRequest = record { number = o.next_number; response_number = last; names_all = false; ids = ids } in
        let next = tsn_after o.next_number in
        let plus : suc (length c.asked + length o.queued) ≡ length c.asked + length (o.queued ++ r ∷ []) =
        suc_plus (length c.asked) (length o.queued)
        ∙ ap (λ (n : ℕ). length c.asked + n) (sym (one_more o.queued r)) in
        record {
          numbers =
              ap tsn_after h.numbers ∙ tsn_next initial (length c.asked + length o.queued) ∙ ap (tsn initial) plus;
          in_order =
              subst (λ (a : Option SentRequest). AreNumbered (open_with a (o.queued ++ r ∷ [])) next) (sym none)
              (subst (λ (rs : List OwnRequest). AreNumbered (rs ++ r ∷ []) next) (sym empty) refl);
          small =
              subst (λ (a : Option SentRequest). AreSmall a (o.queued ++ r ∷ [])) (sym none)
              (subst (λ (rs : List OwnRequest). AreSmall None (rs ++ r ∷ [])) (sym empty)
              (tsn_is_small initial (length c.asked + length o.queued) o.next_number h.numbers, tt));
          active = h.active;
          by_ids =
              subst (λ (a : Option SentRequest). AllByRecursion NamesStreams (open_with a (o.queued ++ r ∷ [])))
              (sym none)
              (subst (λ (rs : List OwnRequest). AllByRecursion NamesStreams (rs ++ r ∷ [])) (sym empty) (
                record {
                  listed = refl;
                  some = some;
                  small = fit;
                  numbered = tsn_is_small initial (length c.asked + length o.queued) o.next_number h.numbers;
                },
                tt,
              ));
          waiting = without_small o.waiting ids h.waiting;
          held_back = h.held_back;
        }

    made_some : (none : Bool) (ids : List ℕ) (last : ℕ) → (length ids == 0) ≡ none → AreIdentifiers ids
        → o.active ≡ None → o.queued ≡ []
        → OwnSends initial id failed q
        (if◌then◌else◌ {A = OwnView × Bool} none (o, false) (with_request (put_ahead o ids) last false ids, true)).0 c
    made_some true ids last e fit quiet empty = h
    made_some false ids last e fit quiet empty = made_of ids last (some_in (length ids) e) fit quiet empty

    made_for : (ids : List ℕ) (last : Option ℕ) → AreIdentifiers ids → o.active ≡ None → o.queued ≡ []
        → OwnSends initial id failed q (asked_for ids last o).0 c
    made_for ids None fit quiet empty = h
    made_for ids (Some last) fit quiet empty = made_some (length ids == 0) ids last refl fit quiet empty

    made_if : (open_still : Bool) (x : OwnView × Bool) → (open_still ≡ false → OwnSends initial id failed q x.0 c)
        → OwnSends initial id failed q (if open_still then (o, false) else x).0 c
    made_if true x made = h
    made_if false x made = made refl

    pub made_sends : (p : PeerView) → OwnSends initial id failed q (asked o q p).0 c
    made_sends p =
        made_if (is_some o.active || not (length o.queued == 0)) (asked_for (quiet_ids o q) p.last_completed o)
        (λ e.
        let parts = or_parts (is_some o.active) (not (length o.queued == 0)) e in
        made_for (quiet_ids o q) p.last_completed (quiet_small o q h.waiting)
        (none_there o.active parts.0) (empty_of o.queued parts.1))

    -- The oldest request that was never sent goes out.

    module _ (held : DataHoldsBack) (last_is : last_tsn_of q ≡ last_below initial c.assigned) where
      -- none does
      none_goes : sent_first o q ≡ (o, None)
          → OwnLeads initial id failed q c (room_for_first o.active) (sent_first o q).0 (listed (sent_first o q).1)
      none_goes e =
          subst (λ (x : OwnView × Option ParamOutgoingResetRequest).
          OwnLeads initial id failed q c (room_for_first o.active) x.0 (listed x.1))
          (sym e)
          (record {
            after = c;
            on = sends_nothing c;
            assigned = refl;
            mine = refl;
            count = refl;
            sends = h;
            are_asked = tt;
          })

      module _ (r : OwnRequest) (rs : List OwnRequest) (none : o.active ≡ None) (oldest : o.queued ≡ r ∷ rs)
          (there : sent_first o q
          ≡ (record o { queued = rs; active = Some (sent_of r q) }, Some (sent_param (sent_of r q))))
        where
          named_quiet : resets id r ≡ true → has_stream q id ≡ false
          named_quiet named =
              ⊎_elim
              (λ (waits : has_stream q id ≡ true).
              absurd (true≢false (ap (λ (x : OwnView × Option ParamOutgoingResetRequest). is_some x.1)
              (sym there ∙ held o q r rs id oldest named waits))))
              (λ (quiet : has_stream q id ≡ false). quiet)
              (cases_Bool (has_stream q id))

          abbrev after : Course
          after = asking (resets id r) c

          abbrev x : Request
          x = record { boundary = c.assigned; named = resets id r }

          newest : request_at (c.asked ++ x ∷ []) (length c.asked) ≡ x
          newest = get_or_at c.asked x [] no_request (length c.asked) refl

          open_before : open_with o.active o.queued ≡ r ∷ rs
          open_before =
              ap (λ (a : Option SentRequest). open_with a o.queued) none
              ∙ ap (λ (qs : List OwnRequest). open_with None qs) oldest

          number_is : r.number ≡ tsn initial (length c.asked)
          number_is =
              first_number initial (length c.asked) o.next_number r rs
              (subst (AllByRecursion (λ (s : OwnRequest). s.number < 2 ^ 32)) open_before h.small).0
              (subst (λ (qs : List OwnRequest). AreNumbered qs o.next_number) open_before h.in_order)
              (h.numbers ∙ ap (λ (qs : List OwnRequest). tsn initial (length c.asked + length qs)) oldest)

          last_now : IsLastAsked initial id after (sent_of r q)
          last_now = record {
            index = length c.asked;
            last = one_more c.asked x;
            number = number_is;
            boundary = last_is ∙ ap (λ (y : Request). last_below initial y.boundary) (sym newest);
            named = ap (λ (y : Request). y.named) (sym newest);
          }

          held_then : is_to_be_reset after ≡ true → (has_stream q id ≡ false)
              × ((is_reset_by (Some (sent_of r q)) id ≡ true) ⊎ (has_id id failed ≡ true))
          held_then e =
              ⊎_elim
              (λ (before : is_to_be_reset c ≡ true).
              (let b = h.held_back before in (
                b.0,
                ⊎_elim
                    (λ (active : is_reset_by o.active id ≡ true).
                    absurd (false≢true (sym (ap (λ (a : Option SentRequest). is_reset_by a id) none) ∙ active)))
                    (λ (failed_before : has_id id failed ≡ true). inr failed_before) b.1,
              )))
              (λ (named : resets id r ≡ true). (named_quiet named, inl named))
              (asked_then (resets id r) c e)

          plus : length c.asked + length (r ∷ rs) ≡ length (c.asked ++ x ∷ []) + length rs
          plus =
              plus_front (length c.asked) (length rs)
              ∙ ap (λ (n : ℕ). n + length rs) (sym (one_more c.asked x))

          named_streams : AllByRecursion NamesStreams (r ∷ rs)
          named_streams = subst (AllByRecursion NamesStreams) open_before h.by_ids

          one_goes : OwnLeads initial id failed q c (room_for_first o.active) (sent_first o q).0
              (listed (sent_first o q).1)
          one_goes =
              subst
              (λ (y : OwnView × Option ParamOutgoingResetRequest).
              OwnLeads initial id failed q c (room_for_first o.active) y.0 (listed y.1))
              (sym there)
              (record {
                after = after;
                on = sends_by c after (Event.Asks (resets id r)) refl refl;
                assigned = refl;
                mine = refl;
                count =
                    room_taken (length c.asked) (length (c.asked ++ x ∷ [])) (one_more c.asked x)
                    ∙ ap (λ (a : Option SentRequest). length c.asked + room_for_first a) (sym none);
                sends = record {
                  numbers =
                      h.numbers
                      ∙ ap (λ (qs : List OwnRequest). tsn initial (length c.asked + length qs)) oldest
                      ∙ ap (tsn initial) plus;
                  in_order = subst (λ (qs : List OwnRequest). AreNumbered qs o.next_number) open_before h.in_order;
                  small = subst (AllByRecursion (λ (s : OwnRequest). s.number < 2 ^ 32)) open_before h.small;
                  active = λ s f.
                      subst (λ (y : SentRequest). IsLastAsked initial id after y) (some_same (sent_of r q) s f)
                      last_now;
                  by_ids = named_streams;
                  waiting = h.waiting;
                  held_back = held_then;
                };
                are_asked = (last_is_asked after (sent_of r q) last_now named_streams.0, tt);
              })

      first_if : (goes : Bool) (r : OwnRequest) (rs : List OwnRequest) → may_go r q ≡ goes → o.active ≡ None
          → o.queued ≡ r ∷ rs
          → OwnLeads initial id failed q c (room_for_first o.active) (sent_first o q).0 (listed (sent_first o q).1)
      first_if true r rs e none oldest =
          let there : sent_first o q
          ≡ (record o { queued = rs; active = Some (sent_of r q) }, Some (sent_param (sent_of r q))) =
          rw (none, oldest, e) refl in
          one_goes r rs none oldest there
      first_if false r rs e none oldest =
          let there : sent_first o q ≡ (o, None) = rw (none, oldest, e) refl in none_goes there

      first_queued : (queued : List OwnRequest) → o.active ≡ None → o.queued ≡ queued
          → OwnLeads initial id failed q c (room_for_first o.active) (sent_first o q).0 (listed (sent_first o q).1)
      first_queued [] none e =
          let there : sent_first o q ≡ (o, None) = rw (none, e) refl in none_goes there
      first_queued (r ∷ rs) none e = first_if (may_go r q) r rs refl none e

      first_active : (active : Option SentRequest) → o.active ≡ active
          → OwnLeads initial id failed q c (room_for_first o.active) (sent_first o q).0 (listed (sent_first o q).1)
      first_active None e = first_queued o.queued e refl
      first_active (Some s) e =
          let there : sent_first o q ≡ (o, None) = rw e refl in none_goes there

      pub first_sends : OwnLeads initial id failed q c (room_for_first o.active) (sent_first o q).0
          (listed (sent_first o q).1)
      first_sends = first_active o.active refl
