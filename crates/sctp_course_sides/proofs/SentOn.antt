-- A course goes on by what its sender does, and what was said of it stays true.
use Rattle.std.proofs.Common.{◌≡◌, refl, sym, ap, ◌∙◌, subst, ℕ, zero, suc, ◌≤◌, Bool, true, false, ◌||◌, ◌⊎◌}
use Rattle.std.proofs.Common.{⊎_elim, inl, inr, arith, if◌then◌else◌, List, [], ◌∷◌, ◌++◌, drop, length}
use Rattle.std.specs.List.{AllByRecursion, list_any}
use Rattle.std.proofs.lemmas.Bool.{false≢true, or_cases, or_right}
use Rattle.std.proofs.lemmas.List.{append-nil, append_assoc, get_or_append_left}
use Rattle.sctp_wire_types.specs.declared.chunk.ChunkPayloadData.{ChunkPayloadData}
use Rattle.sctp_wire_types.specs.declared.param.ParamOutgoingResetRequest.{ParamOutgoingResetRequest}
use Rattle.sctp_model.specs.Packets.{mem}
use Rattle.sctp_model.proofs.Lists.{all_join}
use Rattle.sctp_courses.specs.Course.{Course, Request, no_request, request_at}
use Rattle.sctp_courses.specs.Events.{Event, asking, assigned_mine, happens, is_to_be_reset, run}
use Rattle.sctp_reset_fit.specs.Stands.{last_below}
use Rattle.sctp_course_sides.specs.Follows.{IsAskedIn, IsOfCourse, IsSentUpTo}
use Rattle.sctp_course_sides.specs.Sends.{SendsOn, is_at_sender}

-- Events of the sender, one behind another

run_join : (es fs : List Event) (c : Course) → run (es ++ fs) c ≡ run fs (run es c)
run_join [] fs c = refl
run_join (e ∷ es) fs c = run_join es fs (happens c e)

pub sends_nothing : (c : Course) → SendsOn c c
sends_nothing c = record { events = []; sent = tt; is = refl }

pub sends_by : (c d : Course) (e : Event) → is_at_sender e ≡ true → d ≡ happens c e → SendsOn c d
sends_by c d e at is = record { events = e ∷ []; sent = (at, tt); is = is }

pub sends_then : (b c d : Course) → SendsOn b c → SendsOn c d → SendsOn b d
sends_then b c d first later = record {
  events = first.events ++ later.events;
  sent = all_join (λ (e : Event). is_at_sender e ≡ true) first.events later.events first.sent later.sent;
  is = later.is ∙ ap (run later.events) first.is ∙ sym (run_join first.events later.events b);
}

-- What the sender does adds requests and offsets, and takes none away.
pub record Grows (c d : Course) : Type 0 where
  pub more : List Request
  pub asked : d.asked ≡ c.asked ++ more
  pub assigned : c.assigned ≤ d.assigned
  pub mine : (o : ℕ) → mem o c.mine ≡ true → mem o d.mine ≡ true

grows_itself : (c : Course) → Grows c c
grows_itself c = record {
  more = [];
  asked = sym (append-nil c.asked);
  assigned = omega arith;
  mine = λ o m. m;
}

grows_then : (b c d : Course) → Grows b c → Grows c d → Grows b d
grows_then b c d first later = record {
  more = first.more ++ later.more;
  asked =
      later.asked ∙ ap (λ (qs : List Request). qs ++ later.more) first.asked
      ∙ append_assoc b.asked first.more later.more;
  assigned = let l = first.assigned in let m = later.assigned in omega arith;
  mine = λ o m. later.mine o (first.mine o m);
}

mine_if : (barred : Bool) (c : Course) → Grows c (if barred then c else assigned_mine c)
mine_if true c = grows_itself c
mine_if false c = record {
  more = [];
  asked = sym (append-nil c.asked);
  assigned = omega arith;
  mine = λ o m. or_right _ _ m;
}

event_grows : (c : Course) (e : Event) → is_at_sender e ≡ true → Grows c (happens c e)
event_grows c Event.AssignsMine at = mine_if (is_to_be_reset c) c
event_grows c Event.AssignsOther at = record {
  more = [];
  asked = sym (append-nil c.asked);
  assigned = omega arith;
  mine = λ o m. m;
}
event_grows c (Event.Asks named) at = record {
  more = record { boundary = c.assigned; named = named } ∷ [];
  asked = refl;
  assigned = omega arith;
  mine = λ o m. m;
}
event_grows c e at = absurd (false≢true at)

events_grow : (events : List Event) (c : Course)
    → AllByRecursion (λ (e : Event). is_at_sender e ≡ true) events → Grows c (run events c)
events_grow [] c sent = grows_itself c
events_grow (e ∷ events) c (at, sent) =
    grows_then c (happens c e) (run events (happens c e)) (event_grows c e at) (events_grow events (happens c e) sent)

pub sends_grow : (c d : Course) → SendsOn c d → Grows c d
sends_grow c d s = subst (λ (x : Course). Grows c x) (sym s.is) (events_grow s.events c s.sent)

-- What was said

none_shorter : (n : ℕ) → 0 ≤ n
none_shorter n = omega arith

both_more : (n m : ℕ) → n ≤ m → suc n ≤ suc m
both_more n m l = omega arith

longer : (xs ys : List Request) → length xs ≤ length (xs ++ ys)
longer [] ys = none_shorter (length ys)
longer (x ∷ xs) ys = both_more (length xs) (length (xs ++ ys)) (longer xs ys)

module _ (initial id : ℕ) (c d : Course) (g : Grows c d) where
  pub still_of_course : (p : ChunkPayloadData) → IsOfCourse initial id c p → IsOfCourse initial id d p
  still_of_course p x = record {
    offset = x.offset;
    assigned = let l = x.assigned in let m = g.assigned in omega arith;
    is = x.is;
    mine = λ e. g.mine x.offset (x.mine e);
  }

  pub still_sent_up_to : (last : ℕ) → IsSentUpTo initial c last → IsSentUpTo initial d last
  still_sent_up_to last x = record {
    reach = x.reach;
    some = x.some;
    assigned = let l = x.assigned in let m = g.assigned in omega arith;
    is = x.is;
  }

  pub still_asked : (p : ParamOutgoingResetRequest) → IsAskedIn initial id c p → IsAskedIn initial id d p
  still_asked p x =
      let same : request_at d.asked x.index ≡ request_at c.asked x.index =
      ap (λ (qs : List Request). request_at qs x.index) g.asked
      ∙ get_or_append_left c.asked g.more no_request x.index x.asked in
      record {
        index = x.index;
        asked =
            let l = x.asked in
            let m = longer c.asked g.more in let e : length d.asked ≡ length (c.asked ++ g.more) = ap length g.asked in
            omega arith;
        number = x.number;
        last = x.last ∙ ap (λ (q : Request). last_below initial q.boundary) (sym same);
        named = x.named ∙ ap (λ (q : Request). q.named) (sym same);
      }

-- A request more

any_pushed : (test : Request → Bool) (qs : List Request) (q : Request) → list_any test (qs ++ q ∷ []) ≡ true
    → (list_any test qs ≡ true) ⊎ (test q ≡ true)
any_pushed test [] q e =
    ⊎_elim (λ (t : test q ≡ true). inr t) (λ (f : false ≡ true). absurd (false≢true f)) (or_cases (test q) false e)
any_pushed test (x ∷ qs) q e =
    ⊎_elim (λ (t : test x ≡ true). inl (by t))
    (λ (m : list_any test (qs ++ q ∷ []) ≡ true).
    ⊎_elim (λ (t : list_any test qs ≡ true). inl (or_right (test x) (list_any test qs) t))
    (λ (t : test q ≡ true). inr t)
    (any_pushed test qs q m))
    (or_cases (test x) (list_any test (qs ++ q ∷ [])) e)
  where
    by : test x ≡ true → (test x || list_any test qs) ≡ true
    by t = rw t refl

none_dropped : (test : Request → Bool) (n : ℕ) → list_any test (drop n []) ≡ true → ⊥
none_dropped test zero e = false≢true e
none_dropped test (suc n) e = false≢true e

any_left : (test : Request → Bool) (n : ℕ) (qs : List Request) (q : Request)
    → list_any test (drop n (qs ++ q ∷ [])) ≡ true → (list_any test (drop n qs) ≡ true) ⊎ (test q ≡ true)
any_left test zero [] q e = any_pushed test [] q e
any_left test zero (x ∷ qs) q e = any_pushed test (x ∷ qs) q e
any_left test (suc n) [] q e = absurd (none_dropped test n e)
any_left test (suc n) (x ∷ qs) q e = any_left test n qs q e

-- the stream is to be reset then where it was before, or where the request names it
pub asked_then : (named : Bool) (c : Course) → is_to_be_reset (asking named c) ≡ true
    → (is_to_be_reset c ≡ true) ⊎ (named ≡ true)
asked_then named c e =
    any_left (λ (q : Request). q.named) c.performed c.asked (record { boundary = c.assigned; named = named }) e
