-- What ends was closed: the laws.
use Rattle.std.proofs.Common.{◌≡◌, refl, sym, ◌∙◌, ℕ, Bool, true, false, List, ◌++◌, Some, None}
use Rattle.std.specs.List.{AllByRecursion}
use Rattle.std.proofs.lemmas.Bool.{false≢true}
use Rattle.sctp_streams.specs.declared.event.Event.{Event}
use Rattle.sctp_model.proofs.Lists.{all_back, all_front, all_join, all_weaker}
use Rattle.sctp_assoc.specs.Gather.{polled}
use Rattle.sctp_assoc.specs.Handshake.{sends_init}
use Rattle.sctp_assoc.specs.Shown.{Shown}
use Rattle.sctp_sides.specs.NoReset.{HasNoReset}
use Rattle.sctp_sides.specs.OneSide.{Call, IsRun}
use Rattle.sctp_sides.specs.PastSpan.{ResetsPastOnly}
use Rattle.sctp_sides.proofs.PastOnly.{no_reset_is_past_only}
use Rattle.sctp_closed.specs.Closed.{CreatedSidesTellNoEnd, EndsOnly, JoinedSidesTellNoEnd, OnlyClosedStreamsAreReset}
use Rattle.sctp_closed.specs.Closed.{OnlyClosedStreamsEnd, OtherStreamsStayLive, ResetsOnly, TellsNoEnd, is_closed_by}
use Rattle.sctp_closed.proofs.Closings.{all_are_closed, calls_are_over, some_is_for_all}
use Rattle.sctp_closed.proofs.InPackets.{IsOnly}
use Rattle.sctp_closed.proofs.Live.{Anything, IsLiveAt, anything_is_kept, live_is_kept}
use Rattle.sctp_closed.proofs.OverCalls.{CallIsOver, list_only}
use Rattle.sctp_closed.proofs.Spelled.{any_polls_reset_only, past_polls_reset_only}
use Rattle.sctp_closed.proofs.Told.{TellsOnly, all_end_any, ends_more, list_tells, tells_only_is_kept}

-- Where no call hands over a request for all streams

closed_calls : (calls : List Call) → some_is_for_all calls ≡ false
    → AllByRecursion (CallIsOver (is_closed_by calls)) calls
closed_calls calls none = calls_are_over (is_closed_by calls) calls none (λ id e. e)

-- from an association in which no reset was under way, resets concern streams alone that calls close
only_past : (over : ℕ → Bool) (calls : List Call) (told : List Event) (a b : Shown) → HasNoReset a
    → AllByRecursion (CallIsOver over) calls → IsRun calls told a b → b.failed ≡ false → ResetsPastOnly over b
only_past over calls told a b none closed run works =
    let begins : IsOnly over Anything a = record { past = no_reset_is_past_only over a none; side = tt } in
    (list_only over Anything (anything_is_kept over) calls told a b closed run works begins).past

-- What goes out

pub only_closed_streams_are_reset : OnlyClosedStreamsAreReset
only_closed_streams_are_reset calls told a b now none run works = by (some_is_for_all calls) refl
  where
    by : (all : Bool) → some_is_for_all calls ≡ all → AllByRecursion (ResetsOnly (is_closed_by calls)) (polled b now).1
    by true e = any_polls_reset_only (is_closed_by calls) (λ id. all_are_closed id calls e) b now
    by false e =
        past_polls_reset_only (is_closed_by calls) b now
        (only_past (is_closed_by calls) calls told a b none (closed_calls calls e) run works)

-- What is told

pub begins_silent : (over : ℕ → Bool) (a : Shown) → TellsNoEnd a → AllByRecursion (EndsOnly over) a.events
begins_silent over a silent =
    all_weaker (EndsOnly (λ (id : ℕ). false)) (EndsOnly over) a.events
    (ends_more (λ (id : ℕ). false) over (λ id e. absurd (false≢true e))) silent

pub only_closed_streams_end : OnlyClosedStreamsEnd
only_closed_streams_end calls told a b none silent run works = by (some_is_for_all calls) refl
  where
    by : (all : Bool) → some_is_for_all calls ≡ all
        → AllByRecursion (EndsOnly (is_closed_by calls)) (told ++ b.events)
    by true e = all_end_any (is_closed_by calls) (λ id. all_are_closed id calls e) (told ++ b.events)
    by false e =
        let closed = closed_calls calls e in
        let begins : IsOnly (is_closed_by calls) (TellsOnly (is_closed_by calls)) a = record {
          past = no_reset_is_past_only (is_closed_by calls) a none;
          side = begins_silent (is_closed_by calls) a silent;
        } in
        all_join (EndsOnly (is_closed_by calls)) told b.events
        (list_tells (is_closed_by calls) calls told a b closed run works begins)
        (list_only (is_closed_by calls) (TellsOnly (is_closed_by calls)) (tells_only_is_kept (is_closed_by calls)) calls
        told a b closed run works begins).side

-- What stays live

-- where a stream was not closed, no request was for all
none_for_all : (id : ℕ) (calls : List Call) → is_closed_by calls id ≡ false → some_is_for_all calls ≡ false
none_for_all id calls other = by (some_is_for_all calls) refl
  where
    by : (all : Bool) → some_is_for_all calls ≡ all → some_is_for_all calls ≡ false
    by true e = absurd (false≢true (sym other ∙ all_are_closed id calls e))
    by false e = e

pub other_streams_stay_live : OtherStreamsStayLive
other_streams_stay_live id generation before calls first later start a b none reached worked live run works kept other =
    let over : ℕ → Bool = is_closed_by (before ++ calls) in
    let closed : AllByRecursion (CallIsOver over) (before ++ calls) =
    closed_calls (before ++ calls) (none_for_all id (before ++ calls) other) in
    let past : ResetsPastOnly over a =
    only_past over before first start a none (all_front (CallIsOver over) before calls closed) reached worked in
    let begins : IsOnly over (IsLiveAt id generation) a = record { past = past; side = λ open_still. live } in
    (list_only over (IsLiveAt id generation) (live_is_kept id generation over other) calls later a b
    (all_back (CallIsOver over) before calls closed) run works begins).side kept

-- Beginning

pub created_sides_tell_no_end : CreatedSidesTellNoEnd
unfolding sends_init
created_sides_tell_no_end None config size tag initial_tsn cookie remote_addr local_ip now = tt
created_sides_tell_no_end (Some of_server) config size tag initial_tsn cookie remote_addr local_ip now = tt

pub joined_sides_tell_no_end : JoinedSidesTellNoEnd
joined_sides_tell_no_end config size remote_addr local_ip own peer = (tt, tt)
