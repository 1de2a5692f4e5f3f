-- What is promised of a stream between two associations across its resets.
use Rattle.std.specs.Prelude.{◌≡◌, ◌<◌, ◌≤◌, ◌+◌, ◌-◌, ◌^◌, ◌&&◌, ⊤, ℕ, Bool, true, false, if◌then◌else◌, not}
use Rattle.std.specs.Prelude.{List, [], ◌∷◌, length, Option, Some, None, is_some}
use Rattle.std.specs.List.{AllByRecursion}
use Rattle.std.specs.declared.net.ip_addr.IpAddr.{IpAddr}
use Rattle.std.specs.declared.net.socket_addr.SocketAddr.{SocketAddr}
use Rattle.sctp_serial.specs.Serial.{tsn}
use Rattle.sctp_wire_types.specs.declared.chunk.ChunkInit.{ChunkInit}
use Rattle.sctp_wire_types.specs.declared.config.ServerConfig.{ServerConfig}
use Rattle.sctp_wire_types.specs.Config.{Settings}
use Rattle.sctp_reset_requests.specs.declared.own_request.SentRequest.{SentRequest}
use Rattle.sctp_courses.specs.Course.{Course, boundary_at, fresh_course, is_named}
use Rattle.sctp_courses.specs.Events.{Event, is_to_be_reset, run}
use Rattle.sctp_courses.specs.Laws.{IsDivided, KeepsBoundaries}
use Rattle.sctp_reset_fit.specs.Stands.{last_below}
use Rattle.sctp_assoc.specs.Created.{created, joined}
use Rattle.sctp_assoc.specs.declared.call.Reply.{Reply}
use Rattle.sctp_assoc.specs.Shown.{Shown}
use Rattle.sctp_course_sides.specs.Turns.{Grows}
use Rattle.sctp_steps.specs.declared.step.Side2.{Side2}
use Rattle.sctp_steps.specs.declared.step.Side2.TheVariants as sides
use Rattle.sctp_steps.specs.declared.step.Step.{Step}
use Rattle.sctp_steps.specs.declared.step.Step.TheVariants as steps
use Rattle.sctp_steps.specs.Ends.{Ends}
use Rattle.sctp_steps.specs.Steps.{Runs, Steps}
use Rattle.sctp_steps.specs.Seen.{EndsReset, is_side, message_read}
use Rattle.sctp_boundaries.specs.Between.{AreFew, Courses, IsGivenOut, StandBetween}

-- a stream that a step stops or closes is named by an identifier, of 16 bits (RFC 4960 section 3.3.1)
abbrev pub NamesIdentifiers : Step → Type 0
NamesIdentifiers (steps.Stop side stopped) = stopped < 2 ^ 16
NamesIdentifiers (steps.CloseStream side closed) = closed < 2 ^ 16
NamesIdentifiers step = ⊤

-- something happened to the stream
abbrev pub GoesTo : Course → Course → Type 0
GoesTo c d = (events : List Event) × (d ≡ run events c)

-- the step asks this side for packets to send
abbrev pub polls_side : Side2 → Step → Bool
polls_side x (steps.PollTransmit side now) = is_side side x
polls_side x step = false

-- so many pieces more are in flight
abbrev pub more_in_flight : Shown → Shown → ℕ
more_in_flight before after = length after.sender.queue.in_flight - length before.sender.queue.in_flight

-- What a course grows by can be seen of its sender, as it is before and after. Where that is asked for packets and does
-- not fail, no more offsets are assigned than it has pieces more in flight; and one request at most is sent for the
-- first time, where none was active (RFC 6525 section 5.1.1). Else there are none.
pub record GrowsAsSeen (polls : Bool) (before after : Shown) (c d : Course) : Type 0 where
  pub assigns : d.assigned ≤ c.assigned + (if polls && not after.failed then more_in_flight before after else 0)
  pub asks : length d.asked ≤ length c.asked + (if polls && not (is_some before.resets.own.active) then 1 else 0)

-- What was read of a stream is divided by a request to reset it (RFC 6525 section 4.1). By its Re-configuration Request
-- Sequence Number it is one of the course, the other side performed it, and its boundary is one past its Sender's Last
-- Assigned TSN. What was read in the generation that it ended, and in those before, lies up to that TSN, and what was
-- read in later ones lies past it.
pub record IsDividedBy (initial : ℕ) (s : SentRequest) (c : Course) : Type 0 where
  pub index : ℕ
  pub number : s.request.number ≡ tsn initial index
  pub performed : index < c.performed
  pub named : is_named c.asked index ≡ true
  pub last_tsn : s.last_tsn ≡ last_below initial (boundary_at c.asked index)
  pub divides : AllByRecursion (IsDivided (boundary_at c.asked index) (c.past index)) c.told

-- A step leads both courses on, and each of them grows no more than can be seen of its sender. What was read of each
-- grows by the message that the step reads on the stream, in the generation that the stream is in and on the offsets of
-- the DATA that it was made of, which the other side gave out; or by nothing. The boundaries are kept, and both sides
-- stand between the courses while few requests and offsets were sent. Where a request of a side that names the stream
-- ends then, and not in failure, the other side performed each request that names it, and that request divides what was
-- read. What a request divided before it divides still.
pub record LeadsBoth (own_a own_b id : ℕ) (step : Step) (p : Ends) (reply : Reply) (q : Ends) (w : Courses)
    : Type 0 where
  pub after : Courses
  pub ab_goes : GoesTo w.ab after.ab
  pub ba_goes : GoesTo w.ba after.ba
  pub ab_grows : GrowsAsSeen (polls_side sides.A step) p.a q.a w.ab after.ab
  pub ba_grows : GrowsAsSeen (polls_side sides.B step) p.b q.b w.ba after.ba
  pub ab_read : Grows (IsGivenOut p.packets_a) own_a id (message_read step reply sides.B id) p.b w.ab.told after.ab.told
  pub ba_read : Grows (IsGivenOut p.packets_b) own_b id (message_read step reply sides.A id) p.a w.ba.told after.ba.told
  pub ab_keeps : KeepsBoundaries after.ab
  pub ba_keeps : KeepsBoundaries after.ba
  pub stand : AreFew after → StandBetween own_a own_b id q after
  pub ab_performed : AreFew after → EndsReset p.a q.a id → is_to_be_reset after.ab ≡ false
  pub ba_performed : AreFew after → EndsReset p.b q.b id → is_to_be_reset after.ba ≡ false
  pub ab_ended : AreFew after → (s : SentRequest) → p.a.resets.own.active ≡ Some s → EndsReset p.a q.a id
      → IsDividedBy own_a s after.ab
  pub ba_ended : AreFew after → (s : SentRequest) → p.b.resets.own.active ≡ Some s → EndsReset p.b q.b id
      → IsDividedBy own_b s after.ba
  pub ab_stays_divided : (s : SentRequest) → IsDividedBy own_a s w.ab → IsDividedBy own_a s after.ab
  pub ba_stays_divided : (s : SentRequest) → IsDividedBy own_b s w.ba → IsDividedBy own_b s after.ba

-- A step of a pair that stands between the courses of a stream does, whatever the step is and whether its side is open,
-- lost or failed.
abbrev pub StepKeepsBoundaries : Step → Ends → Reply → Ends → Type 0
StepKeepsBoundaries step p reply q = (own_a own_b id : ℕ) (w : Courses) → NamesIdentifiers step
    → StandBetween own_a own_b id p w → LeadsBoth own_a own_b id step p reply q w

abbrev pub StepsKeepBoundaries : Type 0
StepsKeepBoundaries = (step : Step) (p : Ends) (reply : Reply) (q : Ends) → Steps step p reply q
    → StepKeepsBoundaries step p reply q

-- And so do all, one after another, as long as few requests and offsets were sent in either direction.
abbrev pub KeepAlong : ℕ → ℕ → ℕ → List Step → List Reply → Ends → Courses → Ends → Type 0
KeepAlong own_a own_b id [] [] p w q = (q ≡ p) × StandBetween own_a own_b id q w
KeepAlong own_a own_b id (s ∷ ss) (r ∷ rs) p w q =
    (u : Ends) × Steps s p r u × (l : LeadsBoth own_a own_b id s p r u w)
    × (AreFew l.after → KeepAlong own_a own_b id ss rs u l.after q)
KeepAlong own_a own_b id [] (r ∷ rs) p w q = ⊥
KeepAlong own_a own_b id (s ∷ ss) [] p w q = ⊥

-- steps with these replies do, of a pair that stands between the courses of a stream
abbrev pub RunKeepsBoundaries : List Step → List Reply → Ends → Ends → Type 0
RunKeepsBoundaries ss rs p q = (own_a own_b id : ℕ) (w : Courses) → AllByRecursion NamesIdentifiers ss
    → StandBetween own_a own_b id p w → KeepAlong own_a own_b id ss rs p w q

abbrev pub RunsKeepBoundaries : Type 0
RunsKeepBoundaries = (ss : List Step) (rs : List Reply) (p q : Ends) → Runs ss rs p q → RunKeepsBoundaries ss rs p q

-- Nothing was sent on the stream.
abbrev pub fresh_courses : Courses
fresh_courses = record { ab = fresh_course; ba = fresh_course }

-- Whichever the stream, a pair stands between fresh courses of it.
abbrev pub StandsFresh : ℕ → ℕ → Ends → Type 0
StandsFresh own_a own_b p = (id : ℕ) → StandBetween own_a own_b id p fresh_courses

-- So does a pair of sides that two tokens joined.
abbrev pub JoinedPairsBegin : Type 0
JoinedPairsBegin = (config_a config_b : Settings) (size_a size_b : ℕ) (address_a address_b : SocketAddr)
    (ip_a ip_b : Option IpAddr) (token_a token_b : ChunkInit) → token_a.initial_tsn < 2 ^ 32
    → token_b.initial_tsn < 2 ^ 32
    → StandsFresh token_a.initial_tsn token_b.initial_tsn
    (record {
      a = joined config_a size_a address_a ip_a token_a token_b;
      b = joined config_b size_b address_b ip_b token_b token_a;
      packets_a = [];
      packets_b = [];
    })

-- And so does a pair of a client and a server before any packet (RFC 4960 section 5.1).
abbrev pub ClientsAndServersBegin : Type 0
ClientsAndServersBegin = (of_server : ServerConfig) (config_a config_b : Settings)
    (size_a size_b tag_a tag_b tsn_a tsn_b : ℕ) (cookie_a cookie_b : List ℕ) (address_a address_b : SocketAddr)
    (ip_a ip_b : Option IpAddr) (now : ℕ)
    → tsn_a < 2 ^ 32 → tsn_b < 2 ^ 32
    → StandsFresh tsn_a tsn_b
    (record {
      a = created None config_a size_a tag_a tsn_a cookie_a address_a ip_a now;
      b = created (Some of_server) config_b size_b tag_b tsn_b cookie_b address_b ip_b now;
      packets_a = [];
      packets_b = [];
    })
