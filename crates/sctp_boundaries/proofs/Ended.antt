-- Where a reset of a stream ended and did not fail, the other side performed it, and it divides what was read.
use Rattle.std.proofs.Common.{◌≡◌, sym, ap, ◌∙◌, subst, ◌⊎◌, ⊎_elim, inl, inr, ℕ, suc, ◌<◌, ◌≤◌, arith, true, false}
use Rattle.std.proofs.Common.{List, [], ◌∷◌, ◌++◌, length, drop, Option, Some}
use Rattle.std.specs.List.{list_any}
use Rattle.std.proofs.lemmas.Bool.{cases_Bool, cases_lt, false≢true, true≢false}
use Rattle.std.proofs.lemmas.List.{append-nil, get_or_append_left, length-append}
use Rattle.sctp_serial.specs.Serial.{tsn}
use Rattle.sctp_reset_requests.specs.declared.own_request.SentRequest.{SentRequest}
use Rattle.sctp_reset_requests.specs.Ids.{has_id}
use Rattle.sctp_courses.specs.Course.{Course, Request, boundary_at, is_named, no_request, request_at}
use Rattle.sctp_courses.specs.Events.{is_to_be_reset}
use Rattle.sctp_courses.specs.Invariants.{Invariant}
use Rattle.sctp_courses.proofs.Asking as asking
use Rattle.sctp_courses.proofs.Proved.{the_invariant_is_enough}
use Rattle.sctp_reset_fit.specs.Keeping.{GoesOn}
use Rattle.sctp_reset_fit.specs.Stands.{last_below}
use Rattle.sctp_reset_fit.proofs.Keeping.{goes_leaves}
use Rattle.sctp_assoc.specs.Shown.{Shown}
use Rattle.sctp_sides.specs.Restarts.{is_being_reset, is_reset_by}
use Rattle.sctp_course_sides.specs.Sends.{IsLastAsked, SendsOn}
use Rattle.sctp_course_sides.specs.Turns.{IsPresent}
use Rattle.sctp_course_sides.proofs.SentOn.{sends_grow}
use Rattle.sctp_steps.specs.Seen.{EndsReset}
use Rattle.sctp_boundaries.specs.Between.{AreMeeting, AreTalking, IsPresentOrGone, Stand}
use Rattle.sctp_boundaries.specs.Laws.{IsDividedBy}
use Rattle.sctp_boundaries.proofs.Staying.{any_of_dropped, performs_no_less}

-- Each request that names the stream was performed.

none_barred : (id : ℕ) (x y : Shown) → EndsReset x y id
    → (is_being_reset y id ≡ true) ⊎ (has_id id y.resets.debts.failed ≡ true) → ⊥
none_barred id x y ends (inl reset) = true≢false (sym reset ∙ ends.ended)
none_barred id x y ends (inr failed) = true≢false (sym failed ∙ ends.unfailed)

present_of : (id : ℕ) (x y : Shown) → EndsReset x y id → IsPresentOrGone y → IsPresent y
present_of id x y ends (inl present) = present
present_of id x y ends (inr (inl failed)) = absurd (true≢false (sym failed ∙ ends.stays_open.0))
present_of id x y ends (inr (inr over)) = absurd (true≢false (sym over.closed ∙ ends.stays_open.1))

none_named : (asked : List Request) (n : ℕ) → asked ≡ []
    → list_any (λ (q : Request). q.named) (drop n asked) ≡ true → ⊥
none_named [] n e some = false≢true (any_of_dropped (λ (q : Request). q.named) n [] some)
none_named (q ∷ qs) n e some = absurd (cc)

pub all_performed : (own peer id : ℕ) (before x y : Shown) (of_x of_y : List (List ℕ)) (out coming : Course)
    → Stand own peer id x y of_x of_y out coming → EndsReset before x id → is_to_be_reset out ≡ false
all_performed own peer id before x y of_x of_y out coming s ends =
    ⊎_elim (λ (e : is_to_be_reset out ≡ true). absurd (barred e s.between))
    (λ (e : is_to_be_reset out ≡ false). e) (cases_Bool (is_to_be_reset out))
  where
    barred : is_to_be_reset out ≡ true → AreMeeting own peer id s.stage_x s.stage_y x y of_x of_y out coming
        ⊎ AreTalking own peer id s.stage_x s.stage_y x y of_x of_y out coming → ⊥
    barred e (inl m) = none_named out.asked out.performed m.unsent_out.0 e
    barred e (inr t) =
        none_barred id before x ends ((t.at_x (present_of id before x ends s.here_x)).sends.held_back e).barred

-- A course that went on has the requests that it had, others behind them, and no fewer of them were performed.
pub record IsFurther (c d : Course) : Type 0 where
  pub more : List Request
  pub asked : d.asked ≡ c.asked ++ more
  pub performed : c.performed ≤ d.performed

pub sender_further : (c d : Course) → SendsOn c d → IsFurther c d
sender_further c d sends =
    let grown = sends_grow c d sends in
    record { more = grown.more; asked = grown.asked; performed = performs_no_less c d sends }

pub receiver_further : (c d : Course) → GoesOn c d → IsFurther c d
receiver_further c d goes =
    let left = goes_leaves c d goes in
    record { more = []; asked = left.0 ∙ sym (append-nil c.asked); performed = left.3 }

kept_request : (c d : Course) → IsFurther c d → (k : ℕ) → k < length c.asked
    → request_at d.asked k ≡ request_at c.asked k
kept_request c d further k sent =
    ap (λ (qs : List Request). request_at qs k) further.asked
    ∙ get_or_append_left c.asked further.more no_request k sent

sent_still : (c d : Course) → IsFurther c d → (k : ℕ) → k < length c.asked → k < length d.asked
sent_still c d further k sent =
    let longer : length d.asked ≡ length (c.asked ++ further.more) = ap length further.asked in
    omega (arith, sent, longer, length-append c.asked further.more)

-- A performed request that names the stream divides what was read of it.
divides_performed : (own : ℕ) (s : SentRequest) (d : Course) → Invariant d → (k : ℕ) → k < d.performed
    → is_named d.asked k ≡ true → s.request.number ≡ tsn own k → s.last_tsn ≡ last_below own (boundary_at d.asked k)
    → IsDividedBy own s d
divides_performed own s d kept k performed named number last = record {
  index = k;
  number = number;
  performed = performed;
  named = named;
  last_tsn = last;
  divides = (the_invariant_is_enough d kept).divides k performed named;
}

less_known : (k performed sent : ℕ) → k < performed → performed ≤ sent → k < sent
less_known k performed sent l known = omega arith

less_later : (k performed later : ℕ) → k < performed → performed ≤ later → k < later
less_later k performed later l no_less = omega arith

-- So it does still where the course goes on.
pub divides_still : (own : ℕ) (s : SentRequest) (c d : Course) → Invariant c → Invariant d → IsFurther c d
    → IsDividedBy own s c → IsDividedBy own s d
divides_still own s c d kept_c kept_d further x =
    let same : request_at d.asked x.index ≡ request_at c.asked x.index =
    kept_request c d further x.index
    (less_known x.index c.performed (length c.asked) x.performed kept_c.asks.known) in
    divides_performed own s d kept_d x.index
    (less_later x.index c.performed d.performed x.performed further.performed)
    (ap (λ (q : Request). q.named) same ∙ x.named) x.number
    (x.last_tsn ∙ ap (λ (q : Request). last_below own q.boundary) (sym same))

last_one : (n k : ℕ) → n ≡ suc k → k < n
last_one n k e = omega arith

-- The last request of a course does, where it names the stream and all that name it were performed.
divides_last : (own id : ℕ) (s : SentRequest) (c d : Course) → Invariant d → IsFurther c d
    → is_to_be_reset d ≡ false → IsLastAsked own id c s → is_reset_by (Some s) id ≡ true → IsDividedBy own s d
divides_last own id s c d kept further none last reset =
    let sent : last.index < length c.asked = last_one (length c.asked) last.index last.last in
    let same : request_at d.asked last.index ≡ request_at c.asked last.index =
    kept_request c d further last.index sent in
    let named : is_named d.asked last.index ≡ true = ap (λ (q : Request). q.named) same ∙ sym last.named ∙ reset in
    let performed : last.index < d.performed =
    ⊎_elim (λ (l : last.index < d.performed). l)
    (λ (l : d.performed ≤ last.index).
    absurd
    (true≢false
    (sym named
    ∙ asking.none_named d kept none last.index l (sent_still c d further last.index sent))))
    (cases_lt last.index d.performed) in
    divides_performed own s d kept last.index performed named last.number
    (last.boundary ∙ ap (λ (q : Request). last_below own q.boundary) (sym same))

-- the request of a side that was sent and is not answered is the last one of its course
last_is_active : (own peer id : ℕ) (x y : Shown) (of_x of_y : List (List ℕ)) (out coming : Course)
    → (st : Stand own peer id x y of_x of_y out coming) → IsPresent x → (s : SentRequest)
    → x.resets.own.active ≡ Some s
    → AreMeeting own peer id st.stage_x st.stage_y x y of_x of_y out coming
    ⊎ AreTalking own peer id st.stage_x st.stage_y x y of_x of_y out coming → IsLastAsked own id out s
last_is_active own peer id x y of_x of_y out coming st present s e (inl m) = (m.at_x present).sends.active s e
last_is_active own peer id x y of_x of_y out coming st present s e (inr t) = (t.at_x present).sends.active s e

-- A request of side x that ended, where x and y are z and v then, divides what was read.
pub divides_ended : (own peer id : ℕ) (x y z v : Shown) (of_x of_y of_z of_v : List (List ℕ))
    (out coming out_after coming_after : Course) → Stand own peer id x y of_x of_y out coming
    → Stand own peer id z v of_z of_v out_after coming_after → (IsPresent z → IsPresent x) → IsFurther out out_after
    → (s : SentRequest) → x.resets.own.active ≡ Some s → EndsReset x z id → IsDividedBy own s out_after
divides_ended own peer id x y z v of_x of_y of_z of_v out coming out_after coming_after st after was further s e ends =
    divides_last own id s out out_after after.kept_out further
    (all_performed own peer id x z v of_z of_v out_after coming_after after ends)
    (last_is_active own peer id x y of_x of_y out coming st (was (present_of id x z ends after.here_x)) s e st.between)
    (subst (λ (o : Option SentRequest). is_reset_by o id ≡ true) e ends.active)
