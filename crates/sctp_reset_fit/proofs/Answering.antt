-- The end of a request of this side keeps to the course of each stream.
use Rattle.std.proofs.Common.{◌≡◌, refl, sym, ap, ◌∙◌, ℕ, Bool, true, false, not, cond, if◌then◌else◌, List, []}
use Rattle.std.proofs.Common.{◌∷◌, fold, Option, Some, None, Result, Ok, Err}
use Rattle.sctp_wire_types.specs.Config.{is_rfc}
use Rattle.sctp_wire_types.specs.declared.chunk.ChunkPayloadData.{ChunkPayloadData}
use Rattle.sctp_wire_types.specs.declared.event.StreamResetError.{StreamResetError}
use Rattle.sctp_wire_types.specs.declared.event.StreamResetError.TheVariants as reasons
use Rattle.sctp_wire_types.specs.declared.param.ParamReconfigResponse.{ParamReconfigResponse}
use Rattle.sctp_streams.specs.declared.event.Event.{Event}
use Rattle.sctp_streams.specs.Stream.{StreamView, is_read_half_open, with_restarted_ssn}
use Rattle.sctp_streams.specs.Streams.{StreamMap, changed_stream, stream_at, without_stream}
use Rattle.sctp_reset_requests.specs.declared.outcome.Answered.{Answered}
use Rattle.sctp_reset_requests.specs.declared.outcome.Answered.TheVariants as answers
use Rattle.sctp_reset_requests.specs.declared.own_request.OwnRequest.{OwnRequest}
use Rattle.sctp_reset_requests.specs.Debts.{DebtsView}
use Rattle.sctp_reset_requests.specs.Debts as debts
use Rattle.sctp_reset_requests.specs.Own.{OwnView}
use Rattle.sctp_reset_requests.specs.Own as own
use Rattle.sctp_resets.specs.Answers.{Answering, answering, completed_one, completed_with, is_read_half_closed}
use Rattle.sctp_resets.specs.Answers.{read_half_closed_at}
use Rattle.sctp_resets.specs.Channels.{final_told}
use Rattle.sctp_resets.specs.Resets.{Beside, ResetsView, confirmed_by, confirmed_where, ended_as_answered, given_up}
use Rattle.sctp_resets.specs.Resets.{given_up_for_now, given_up_where, request_over, responded}
use Rattle.sctp_reset_fit.specs.Keeping.{KeepsCourse}
use Rattle.sctp_reset_fit.proofs.Keeping.{keeps_same, keeps_then}
use Rattle.sctp_reset_fit.proofs.Streams.{gone_keeps, restarted_keeps}

-- what is not so is false
false_of : (b : Bool) → not b ≡ true → b ≡ false
false_of true e = sym e
false_of false e = refl

-- One stream whose reset succeeded

-- a live stream of which the read half is closed cannot be read
closed_at : (m : StreamMap) (k : ℕ) → is_read_half_closed m k ≡ true → (t : StreamView) → stream_at m k ≡ Some t
    → is_read_half_open t.halves ≡ false
closed_at m k closed t is = false_of (is_read_half_open t.halves) (sym (ap read_half_closed_at is) ∙ closed)

-- one of two answerings keeps to the course where each does
either_keeps : (P : ChunkPayloadData → Type 0) (initial id : ℕ) (r : ResetsView) (m : StreamMap) (b : Bool)
    (x y : Answering)
    → (b ≡ true → KeepsCourse P initial id r m r x.streams) → KeepsCourse P initial id r m r y.streams
    → KeepsCourse P initial id r m r (cond b x y).streams
either_keeps P initial id r m true x y first second = first refl
either_keeps P initial id r m false x y first second = second

-- by the rules of the port it ends where its read half is closed and that was owed, and else its SSNs begin at 0 again
one_keeps : (P : ChunkPayloadData → Type 0) (initial id : ℕ) (r : ResetsView) (owed by_rfcs : Bool) (d : DebtsView)
    (a : Answering) (k : ℕ)
    → KeepsCourse P initial id r a.streams r (completed_with by_rfcs (d, owed) a k).streams
one_keeps P initial id r false by_rfcs d a k = restarted_keeps P initial id r a.streams k
one_keeps P initial id r true true d a k = restarted_keeps P initial id r a.streams k
one_keeps P initial id r true false d a k =
    either_keeps P initial id r a.streams (is_read_half_closed a.streams k)
    (record a { debts = d; streams = without_stream a.streams k; events = final_told a.streams k a.events })
    (record a { debts = d; streams = changed_stream with_restarted_ssn a.streams k })
    (λ closed. gone_keeps P initial id r a.streams k (closed_at a.streams k closed))
    (restarted_keeps P initial id r a.streams k)

-- All streams of a request

all_keep : (P : ChunkPayloadData → Type 0) (initial id : ℕ) (r : ResetsView) (by_rfcs : Bool) (ids : List ℕ)
    (a : Answering)
    → KeepsCourse P initial id r a.streams r (fold (completed_one by_rfcs) a ids).streams
all_keep P initial id r by_rfcs [] a = keeps_same P initial id r a.streams
all_keep P initial id r by_rfcs (k ∷ ids) a =
    keeps_then P initial id r r r a.streams (completed_one by_rfcs a k).streams
    (fold (completed_one by_rfcs) (completed_one by_rfcs a k) ids).streams
    (one_keeps P initial id r (debts.settled a.debts k).1 by_rfcs (debts.settled a.debts k).0 a k)
    (all_keep P initial id r by_rfcs ids (completed_one by_rfcs a k))

-- A request of this side ended: the course of each stream is kept to.
pub over_keeps : (P : ChunkPayloadData → Type 0) (initial id : ℕ) (r : ResetsView) (m : StreamMap) (told : List Event)
    (outcome : Result (Unit {0}) StreamResetError) (q : OwnRequest)
    → KeepsCourse P initial id r m (request_over outcome q r m told).0 (request_over outcome q r m told).1
over_keeps P initial id r m told (Ok done) q =
    all_keep P initial id r (is_rfc r.own.profile) q.ids (answering r.debts m told)
over_keeps P initial id r m told (Err reason) q = keeps_same P initial id r m

-- By what it ended

confirmed_as : (P : ChunkPayloadData → Type 0) (initial id : ℕ) (r : ResetsView) (m : StreamMap) (told : List Event)
    (x : OwnView × Option OwnRequest)
    → KeepsCourse P initial id r m (confirmed_where x r m told).0.0 (confirmed_where x r m told).0.1
confirmed_as P initial id r m told (o, None) = keeps_same P initial id r m
confirmed_as P initial id r m told (o, Some q) = over_keeps P initial id (record r { own = o }) m told (Ok tt) q

-- A request of the peer confirmed the active request.
pub confirmed_keeps : (P : ChunkPayloadData → Type 0) (initial id : ℕ) (r : ResetsView) (m : StreamMap)
    (told : List Event) (number : ℕ)
    → KeepsCourse P initial id r m (confirmed_by number r m told).0.0 (confirmed_by number r m told).0.1
confirmed_keeps P initial id r m told number = confirmed_as P initial id r m told (own.confirmed r.own number)

responded_as : (P : ChunkPayloadData → Type 0) (initial id : ℕ) (r : ResetsView) (m : StreamMap) (told : List Event)
    (x : OwnView × Answered)
    → KeepsCourse P initial id r m (ended_as_answered x r m told).0.0 (ended_as_answered x r m told).0.1
responded_as P initial id r m told (o, answers.Ignored) = keeps_same P initial id r m
responded_as P initial id r m told (o, answers.InProgress) = keeps_same P initial id r m
responded_as P initial id r m told (o, answers.Ended q outcome) =
    over_keeps P initial id (record r { own = o }) m told outcome q

-- A response of the peer came.
pub responded_keeps : (P : ChunkPayloadData → Type 0) (initial id : ℕ) (r : ResetsView) (m : StreamMap)
    (told : List Event)
    (response : ParamReconfigResponse)
    → KeepsCourse P initial id r m (responded response r m told).0.0 (responded response r m told).0.1
responded_keeps P initial id r m told response = responded_as P initial id r m told (own.answered r.own response)

given_up_as : (P : ChunkPayloadData → Type 0) (initial id : ℕ) (r : ResetsView) (m : StreamMap) (told : List Event)
    (x : OwnView × Option OwnRequest)
    → KeepsCourse P initial id r m (given_up_where x r m told).0 (given_up_where x r m told).1
given_up_as P initial id r m told (o, None) = keeps_same P initial id r m
given_up_as P initial id r m told (o, Some q) =
    over_keeps P initial id (record r { own = o }) m told (Err reasons.Failed) q

-- By the rules of the RFCs it stays active, and by those of the port it ends.
abbrev given_up_by : Bool → ResetsView → StreamMap → List Event → Beside
given_up_by by_rfcs r m told =
    if by_rfcs then given_up_for_now r m told else given_up_where (own.ended r.own) r m told

given_up_so : (P : ChunkPayloadData → Type 0) (initial id : ℕ) (r : ResetsView) (m : StreamMap) (told : List Event)
    (by_rfcs : Bool)
    → KeepsCourse P initial id r m (given_up_by by_rfcs r m told).0 (given_up_by by_rfcs r m told).1
given_up_so P initial id r m told true = keeps_same P initial id r m
given_up_so P initial id r m told false = given_up_as P initial id r m told (own.ended r.own)

-- The active request was given up.
pub given_up_keeps : (P : ChunkPayloadData → Type 0) (initial id : ℕ) (r : ResetsView) (m : StreamMap)
    (told : List Event)
    → KeepsCourse P initial id r m (given_up r m told).0 (given_up r m told).1
given_up_keeps P initial id r m told = given_up_so P initial id r m told (is_rfc r.own.profile)

-- The peer's requests, and what is kept of generations, stay as they are.

abbrev Stays : ResetsView → ResetsView → Type 0
Stays r s = (s.peer ≡ r.peer) × (s.generations ≡ r.generations)

confirmed_stays : (r : ResetsView) (m : StreamMap) (told : List Event) (x : OwnView × Option OwnRequest)
    → Stays r (confirmed_where x r m told).0.0
confirmed_stays r m told (o, None) = (refl, refl)
confirmed_stays r m told (o, Some q) = (refl, refl)

responded_stays : (r : ResetsView) (m : StreamMap) (told : List Event) (x : OwnView × Answered)
    → Stays r (ended_as_answered x r m told).0.0
responded_stays r m told (o, answers.Ignored) = (refl, refl)
responded_stays r m told (o, answers.InProgress) = (refl, refl)
responded_stays r m told (o, answers.Ended q outcome) = (refl, refl)

given_up_stays : (r : ResetsView) (m : StreamMap) (told : List Event) (x : OwnView × Option OwnRequest)
    → Stays r (given_up_where x r m told).0
given_up_stays r m told (o, None) = (refl, refl)
given_up_stays r m told (o, Some q) = (refl, refl)

given_up_so_stays : (r : ResetsView) (m : StreamMap) (told : List Event) (by_rfcs : Bool)
    → Stays r (given_up_by by_rfcs r m told).0
given_up_so_stays r m told true = (refl, refl)
given_up_so_stays r m told false = given_up_stays r m told (own.ended r.own)

pub confirmed_peer : (r : ResetsView) (m : StreamMap) (told : List Event) (number : ℕ)
    → (confirmed_by number r m told).0.0.peer ≡ r.peer
confirmed_peer r m told number = (confirmed_stays r m told (own.confirmed r.own number)).0

pub confirmed_generations : (r : ResetsView) (m : StreamMap) (told : List Event) (number : ℕ)
    → (confirmed_by number r m told).0.0.generations ≡ r.generations
confirmed_generations r m told number = (confirmed_stays r m told (own.confirmed r.own number)).1

pub responded_peer : (r : ResetsView) (m : StreamMap) (told : List Event) (response : ParamReconfigResponse)
    → (responded response r m told).0.0.peer ≡ r.peer
responded_peer r m told response = (responded_stays r m told (own.answered r.own response)).0

pub responded_generations : (r : ResetsView) (m : StreamMap) (told : List Event) (response : ParamReconfigResponse)
    → (responded response r m told).0.0.generations ≡ r.generations
responded_generations r m told response = (responded_stays r m told (own.answered r.own response)).1

pub given_up_peer : (r : ResetsView) (m : StreamMap) (told : List Event) → (given_up r m told).0.peer ≡ r.peer
given_up_peer r m told = (given_up_so_stays r m told (is_rfc r.own.profile)).0

pub given_up_generations : (r : ResetsView) (m : StreamMap) (told : List Event)
    → (given_up r m told).0.generations ≡ r.generations
given_up_generations r m told = (given_up_so_stays r m told (is_rfc r.own.profile)).1
