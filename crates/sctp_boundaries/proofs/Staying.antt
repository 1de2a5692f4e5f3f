-- What one side of a pair has stays by what the other side does to the courses.
use Rattle.std.proofs.Common.{◌≡◌, refl, sym, ap, ◌∙◌, subst, ℕ, zero, suc, ◌≤◌, ◌+◌, Bool, true, false, arith}
use Rattle.std.proofs.Common.{List, [], ◌∷◌, ◌++◌, length, drop, Option, Some, None, if◌then◌else◌}
use Rattle.std.specs.List.{AllByRecursion, list_any}
use Rattle.std.proofs.lemmas.Bool.{false≢true, or_right}
use Rattle.sctp_serial.specs.Serial.{tsn}
use Rattle.sctp_model.specs.Packets.{mem}
use Rattle.sctp_model.proofs.Lists.{all_join, all_weaker}
use Rattle.sctp_wire_types.specs.declared.chunk.Chunk.{Chunk}
use Rattle.sctp_wire_types.specs.declared.chunk.Chunk.TheVariants as chunks
use Rattle.sctp_wire_types.specs.declared.param.Param.{Param}
use Rattle.sctp_wire_types.specs.declared.param.Param.TheVariants as params
use Rattle.sctp_wire.specs.declared.packet.Packet.{Packet}
use Rattle.sctp_courses.specs.Course.{Course, Request}
use Rattle.sctp_courses.specs.Events.{Event, assigned_mine, happens, is_to_be_reset, run}
use Rattle.sctp_courses.specs.Invariants.{Invariant}
use Rattle.sctp_courses.proofs.Proved.{each_event_keeps_the_invariant}
use Rattle.sctp_reset_fit.specs.Keeping.{GoesOn}
use Rattle.sctp_reset_fit.proofs.Keeping.{goes_leaves}
use Rattle.sctp_directions.specs.Acts.{History}
use Rattle.sctp_assoc.specs.Replies.{packet_in}
use Rattle.sctp_assoc.specs.Shown.{Shown}
use Rattle.sctp_sides.specs.Meeting.{IsNoEarlier, Stage}
use Rattle.sctp_sides.specs.SideLaws.{OfEachChunk}
use Rattle.sctp_sides.proofs.Proved.{greetings_stay_true}
use Rattle.sctp_course_sides.specs.Answers.{AnswersTruly, ChunkIsTrue, ParamIsTrue, ParamIsTrueIf}
use Rattle.sctp_course_sides.specs.Follows.{ChunkComes, ParamComes, ParamComesIf}
use Rattle.sctp_course_sides.specs.Meets.{SpeaksOfStage}
use Rattle.sctp_course_sides.specs.Sends.{Sends, SendsOn, is_at_sender}
use Rattle.sctp_course_sides.proofs.PacketFollows.{comes_still}
use Rattle.sctp_course_sides.proofs.SendsBeside.{last_still}
use Rattle.sctp_course_sides.proofs.SentOn.{Grows, sends_grow, still_asked, still_of_course, still_sent_up_to}
use Rattle.sctp_course_sides.proofs.TruthBeside.{answers_grow}
use Rattle.sctp_course_sides.proofs.TruthOfRequests.{IsSuccess, true_of}
use Rattle.sctp_boundaries.specs.Between.{IsSaid, OfEachDatagram}

-- What the sender of a course has, where its receiver leads the course on

pub any_of_dropped : (test : Request → Bool) (n : ℕ) (qs : List Request) → list_any test (drop n qs) ≡ true
    → list_any test qs ≡ true
any_of_dropped test zero qs e = e
any_of_dropped test (suc n) [] e = e
any_of_dropped test (suc n) (q ∷ qs) e = or_right (test q) (list_any test qs) (any_of_dropped test n qs e)

none_below : {n : ℕ} → suc n ≤ 0 → ⊥
none_below l = omega arith

one_less : {n m : ℕ} → suc n ≤ suc m → n ≤ m
one_less l = omega arith

-- of fewer requests
any_dropped_less : (test : Request → Bool) (n m : ℕ) (qs : List Request) → n ≤ m
    → list_any test (drop m qs) ≡ true → list_any test (drop n qs) ≡ true
any_dropped_less test zero m qs l e = any_of_dropped test m qs e
any_dropped_less test (suc n) zero qs l e = absurd (none_below l)
any_dropped_less test (suc n) (suc m) [] l e = e
any_dropped_less test (suc n) (suc m) (q ∷ qs) l e = any_dropped_less test n m qs (one_less l) e

-- a stream that is to be reset was so before more was performed
to_be_reset_before : (c d : Course) → d.asked ≡ c.asked → c.performed ≤ d.performed → is_to_be_reset d ≡ true
    → is_to_be_reset c ≡ true
to_be_reset_before c d asked performed e =
    any_dropped_less (λ (q : Request). q.named) c.performed d.performed c.asked performed
    (subst (λ (qs : List Request). list_any (λ (q : Request). q.named) (drop d.performed qs) ≡ true) asked e)

pub sends_still : (initial id : ℕ) (x : Shown) (h : History) (c d : Course) → GoesOn c d → Sends initial id x h c
    → Sends initial id x h d
sends_still initial id x h c d goes s =
    let left = goes_leaves c d goes in
    record {
      small = s.small;
      own = s.own;
      assigned = left.1 ∙ s.assigned;
      mine = λ index y e same.
          subst (λ (os : List ℕ). mem (h.base + index) os ≡ true) (sym left.2) (s.mine index y e same);
      numbers =
          s.numbers
          ∙ ap (λ (rs : List Request). tsn initial (length rs + length x.resets.own.queued)) (sym left.0);
      in_order = s.in_order;
      active = λ r e. last_still initial id c d r left.0 (s.active r e);
      by_ids = s.by_ids;
      peer_by_ids = s.peer_by_ids;
      waiting = s.waiting;
      held_back = λ e. s.held_back (to_be_reset_before c d left.0 left.3 e);
    }

-- What was answered, where the receiver of a course leads it on
pub answers_still : (initial : ℕ) (y : Shown) (c d : Course) → GoesOn c d → AnswersTruly initial y c
    → AnswersTruly initial y d
answers_still initial y c d goes w = answers_grow initial c d (goes_leaves c d goes).3 y w

-- Where its sender does

mine_leaves_if : (barred : Bool) (c : Course)
    → ((if barred then c else assigned_mine c).performed ≡ c.performed)
    × ((if barred then c else assigned_mine c).told ≡ c.told)
mine_leaves_if true c = (refl, refl)
mine_leaves_if false c = (refl, refl)

event_leaves : (c : Course) (e : Event) → is_at_sender e ≡ true
    → ((happens c e).performed ≡ c.performed) × ((happens c e).told ≡ c.told)
event_leaves c Event.AssignsMine at = mine_leaves_if (is_to_be_reset c) c
event_leaves c Event.AssignsOther at = (refl, refl)
event_leaves c (Event.Asks named) at = (refl, refl)
event_leaves c e at = absurd (false≢true at)

events_leave : (events : List Event) (c : Course) → AllByRecursion (λ (e : Event). is_at_sender e ≡ true) events
    → ((run events c).performed ≡ c.performed) × ((run events c).told ≡ c.told)
events_leave [] c sent = (refl, refl)
events_leave (e ∷ events) c (at, sent) =
    let one = event_leaves c e at in
    let rest = events_leave events (happens c e) sent in (rest.0 ∙ one.0, rest.1 ∙ one.1)

-- the sender performs nothing and reads nothing
pub sends_leave : (c d : Course) → SendsOn c d → (d.performed ≡ c.performed) × (d.told ≡ c.told)
sends_leave c d s =
    subst (λ (x : Course). (x.performed ≡ c.performed) × (x.told ≡ c.told)) (sym s.is) (events_leave s.events c s.sent)

no_less : {n m : ℕ} → m ≡ n → n ≤ m
no_less e = omega arith

pub performs_no_less : (c d : Course) → SendsOn c d → c.performed ≤ d.performed
performs_no_less c d s = no_less (sends_leave c d s).0

pub answers_sent : (initial : ℕ) (y : Shown) (c d : Course) → SendsOn c d → AnswersTruly initial y c
    → AnswersTruly initial y d
answers_sent initial y c d s w = answers_grow initial c d (performs_no_less c d s) y w

kept_by : (events : List Event) (c : Course) → Invariant c → Invariant (run events c)
kept_by [] c h = h
kept_by (e ∷ events) c h = kept_by events (happens c e) (each_event_keeps_the_invariant c e h)

pub sends_kept : (c d : Course) → SendsOn c d → Invariant c → Invariant d
sends_kept c d s h = subst Invariant (sym s.is) (kept_by s.events c h)

-- What was said of DATA and of requests, where the sender of a course leads it on
module _ (initial id : ℕ) (c d : Course) (g : Grows c d) where
  param_said : (p : Param) → ParamComes initial id c p → ParamComes initial id d p
  param_said (params.OutgoingResetRequest request) came = still_asked initial id c d g request came
  param_said (params.ReconfigResponse response) came = tt
  param_said (params.HeartbeatInfo value) came = tt
  param_said (params.StateCookie value) came = tt
  param_said (params.SupportedExtensions value) came = tt
  param_said (params.Other kind value) came = tt

  param_said_if : (p : Option Param) → ParamComesIf initial id c p → ParamComesIf initial id d p
  param_said_if None came = tt
  param_said_if (Some p) came = param_said p came

  chunk_said : (k : Chunk) → ChunkComes initial id c k → ChunkComes initial id d k
  chunk_said (chunks.Data x) came = still_of_course initial id c d g x came
  chunk_said (chunks.Init x) came = tt
  chunk_said (chunks.InitAck x) came = tt
  chunk_said (chunks.SelectiveAck x) came = tt
  chunk_said (chunks.Heartbeat x) came = tt
  chunk_said (chunks.HeartbeatAck x) came = tt
  chunk_said (chunks.Abort x) came = tt
  chunk_said (chunks.Shutdown x) came = tt
  chunk_said chunks.ShutdownAck came = tt
  chunk_said (chunks.Error x) came = tt
  chunk_said (chunks.CookieEcho x) came = tt
  chunk_said chunks.CookieAck came = tt
  chunk_said chunks.ShutdownComplete came = tt
  chunk_said (chunks.Reconfig x) came = (param_said x.first came.0, param_said_if x.second came.1)
  chunk_said (chunks.ForwardTsn x) came = still_sent_up_to initial id c d g x.new_cumulative_tsn came
  chunk_said (chunks.IForwardTsn x) came = still_sent_up_to initial id c d g x.new_cumulative_tsn came
  chunk_said (chunks.Other kind flags value) came = tt

-- What was said of requests that were performed, where more are
module _ (initial : ℕ) (c d : Course) (grows : c.performed ≤ d.performed) where
  param_true : (p : Param) → ParamIsTrue initial c p → ParamIsTrue initial d p
  param_true (params.HeartbeatInfo value) t = tt
  param_true (params.StateCookie value) t = tt
  param_true (params.OutgoingResetRequest request) t =
      true_of initial c d request.reconfig_response_sequence_number t grows
  param_true (params.ReconfigResponse response) t =
      λ (s : IsSuccess response.result). true_of initial c d response.reconfig_response_sequence_number (t s) grows
  param_true (params.SupportedExtensions value) t = tt
  param_true (params.Other kind value) t = tt

  param_true_if : (p : Option Param) → ParamIsTrueIf initial c p → ParamIsTrueIf initial d p
  param_true_if None t = tt
  param_true_if (Some p) t = param_true p t

  chunk_true : (k : Chunk) → ChunkIsTrue initial c k → ChunkIsTrue initial d k
  chunk_true (chunks.Data x) t = tt
  chunk_true (chunks.Init x) t = tt
  chunk_true (chunks.InitAck x) t = tt
  chunk_true (chunks.SelectiveAck x) t = tt
  chunk_true (chunks.Heartbeat x) t = tt
  chunk_true (chunks.HeartbeatAck x) t = tt
  chunk_true (chunks.Abort x) t = tt
  chunk_true (chunks.Shutdown x) t = tt
  chunk_true chunks.ShutdownAck t = tt
  chunk_true (chunks.Error x) t = tt
  chunk_true (chunks.CookieEcho x) t = tt
  chunk_true chunks.CookieAck t = tt
  chunk_true chunks.ShutdownComplete t = tt
  chunk_true (chunks.Reconfig x) t = (param_true x.first t.0, param_true_if x.second t.1)
  chunk_true (chunks.ForwardTsn x) t = tt
  chunk_true (chunks.IForwardTsn x) t = tt
  chunk_true (chunks.Other kind flags value) t = tt

-- What was said of the handshake

-- is so in a later stage.
speaks_on : (own : ℕ) (s u : Stage) (chunk : Chunk) → IsNoEarlier s u → SpeaksOfStage own s chunk
    → SpeaksOfStage own u chunk
speaks_on own s u (chunks.Data x) later said = tt
speaks_on own s u (chunks.SelectiveAck x) later said = tt
speaks_on own s u (chunks.ForwardTsn x) later said = tt
speaks_on own s u (chunks.IForwardTsn x) later said = tt
speaks_on own s u (chunks.Reconfig x) later said = tt
speaks_on own s u (chunks.Init x) later said = greetings_stay_true own s u (chunks.Init x) later said
speaks_on own s u (chunks.InitAck x) later said = greetings_stay_true own s u (chunks.InitAck x) later said
speaks_on own s u (chunks.Heartbeat x) later said = greetings_stay_true own s u (chunks.Heartbeat x) later said
speaks_on own s u (chunks.HeartbeatAck x) later said = greetings_stay_true own s u (chunks.HeartbeatAck x) later said
speaks_on own s u (chunks.Abort x) later said = greetings_stay_true own s u (chunks.Abort x) later said
speaks_on own s u (chunks.Shutdown x) later said = greetings_stay_true own s u (chunks.Shutdown x) later said
speaks_on own s u chunks.ShutdownAck later said = greetings_stay_true own s u chunks.ShutdownAck later said
speaks_on own s u (chunks.Error x) later said = greetings_stay_true own s u (chunks.Error x) later said
speaks_on own s u (chunks.CookieEcho x) later said = greetings_stay_true own s u (chunks.CookieEcho x) later said
speaks_on own s u chunks.CookieAck later said = greetings_stay_true own s u chunks.CookieAck later said
speaks_on own s u chunks.ShutdownComplete later said = greetings_stay_true own s u chunks.ShutdownComplete later said
speaks_on own s u (chunks.Other kind flags value) later said =
    greetings_stay_true own s u (chunks.Other kind flags value) later said

-- What a side said stays said: where it sends on and receives on,
pub said_still : (own peer id : ℕ) (s u : Stage) (out further coming later : Course) → IsNoEarlier s u
    → SendsOn out further → GoesOn coming later → (chunk : Chunk) → IsSaid own peer id s out coming chunk
    → IsSaid own peer id u further later chunk
said_still own peer id s u out further coming later goes_on sends goes chunk said = (
  chunk_said own id out further (sends_grow out further sends) chunk said.0,
  (chunk_true peer coming later (goes_leaves coming later goes).3 chunk said.1.0, said.1.1),
  speaks_on own s u chunk goes_on said.2,
)

-- and where the other side does.
pub said_beside : (own peer id : ℕ) (s : Stage) (out further coming later : Course) → GoesOn out further
    → SendsOn coming later → (chunk : Chunk) → IsSaid own peer id s out coming chunk
    → IsSaid own peer id s further later chunk
said_beside own peer id s out further coming later goes sends chunk said = (
  comes_still own id out further goes chunk said.0,
  (chunk_true peer coming later (performs_no_less coming later sends) chunk said.1.0, said.1.1),
  said.2,
)

-- What is so of each chunk of some datagrams, and what follows from it

each_weaker : (Is So : Chunk → Type 0) → ((chunk : Chunk) → Is chunk → So chunk) → (packet : Option Packet)
    → OfEachChunk Is packet → OfEachChunk So packet
each_weaker Is So f None all = tt
each_weaker Is So f (Some packet) all = all_weaker Is So packet.chunks f all

pub datagrams_weaker : (Is So : Chunk → Type 0) → ((chunk : Chunk) → Is chunk → So chunk) → (packets : List (List ℕ))
    → OfEachDatagram Is packets → OfEachDatagram So packets
datagrams_weaker Is So f packets all =
    all_weaker (λ (bytes : List ℕ). OfEachChunk Is (packet_in bytes))
    (λ (bytes : List ℕ). OfEachChunk So (packet_in bytes)) packets
    (λ bytes each. each_weaker Is So f (packet_in bytes) each) all

-- and of two lists of them
pub datagrams_join : (Is : Chunk → Type 0) (packets more : List (List ℕ)) → OfEachDatagram Is packets
    → OfEachDatagram Is more → OfEachDatagram Is (packets ++ more)
datagrams_join Is packets more all rest =
    all_join (λ (bytes : List ℕ). OfEachChunk Is (packet_in bytes)) packets more all rest
