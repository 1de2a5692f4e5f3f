-- What the calls of a look give, put together, and one more turn of a poll.
use Rattle.std.proofs.Common.{◌≡◌, ◌∙◌, ap, inl, inr, refl, subst, ℕ, ◌+◌, add-one, Bool, false, not, List, []}
use Rattle.std.proofs.Common.{◌∷◌, slice_index, Option, Some, None, IfSome, Result, Ok, Err, IfErr, IsErrOf, OnErr}
use Rattle.std.proofs.Common.{OnOk}
use Rattle.sctp_wire_types.specs.declared.error.Error.{Error}
use Rattle.sctp_wire_types.specs.declared.error.Error.TheVariants as errors
use Rattle.sctp_assoc.specs.Calls.{Refuses, RefusesOrLacksMemory, stream_refusal}
use Rattle.sctp_driver.specs.declared.messages.ReadAnswer.{ReadAnswer}
use Rattle.sctp_driver.specs.Driving.{Driving, RunsOutOfMemory}
use Rattle.sctp_driver.specs.Streams.{stream_closed, with_stopped}
use Rattle.dcep_messages.specs.Codec.{ordered_in}
use Rattle.channel_table.specs.Channels.{ChannelView}
use Rattle.sctp_channels.specs.declared.looking.Looked.{Looked}
use Rattle.sctp_channels.specs.declared.polling.Turn.{Turn}
use Rattle.sctp_channels.specs.declared.polling.Turn.TheVariants as turns
use Rattle.sctp_channels.specs.declared.reading.First.{First}
use Rattle.sctp_channels.specs.Channels.{ChannelsView}
use Rattle.sctp_channels.specs.Looking.{with_dcep, with_sending}
use Rattle.sctp_channels.specs.Reading.{FirstBy, ReadsFirst, ReadsOrEnded}
use Rattle.sctp_channels.specs.Steps.{AnsweredBy, AwaitsAnswer, FailsToBeginOn, IsNotSet, ResetsWhere, goes_after}
use Rattle.sctp_channels.specs.Steps.{goes_by, sending_by}
use Rattle.sctp_channels.specs.Turning.{TakesTurn, Turning}

pub reads_first : (id : ℕ) (d : Driving) (answer : ReadAnswer) (x : Driving) (bytes : List ℕ)
    (r : Result First Error) (e : Driving) → ReadsOrEnded id d [] answer x bytes → FirstBy answer id x r e
    → ReadsFirst id d r e
unfolding ReadsFirst
reads_first id d answer x bytes (Ok first) e is_read is_by = (answer, x, bytes, is_read, is_by)
reads_first id d answer x bytes (Err error) e is_read is_by = inr (answer, x, bytes, is_read, is_by)

pub awaits : (id : ℕ) (t : List (ℕ × ChannelView)) (d : Driving) (answer : ReadAnswer) (x : Driving) (bytes : List ℕ)
    (r : Result Looked Error) (u : List (ℕ × ChannelView)) (e : Driving)
    → ReadsOrEnded id d (0 ∷ []) answer x bytes → AnsweredBy answer (slice_index bytes 0) id t x r u e
    → AwaitsAnswer id t d r u e
unfolding AwaitsAnswer
awaits id t d answer x bytes (Ok looked) u e is_read is_by = (answer, x, bytes, is_read, is_by)
awaits id t d answer x bytes (Err error) u e is_read is_by = inr (answer, x, bytes, is_read, is_by)

pub resets_or_not : (refusal : Option Error) (r : Result (Unit {0}) Error) (id : ℕ) (d e : Driving)
    → RefusesOrLacksMemory r refusal → OnOk r (e ≡ with_stopped d id (stream_closed d.association id))
    → IfSome refusal (λ error. e ≡ d) → (IsErrOf r errors.ErrNoMemory → RunsOutOfMemory d e)
    → ResetsWhere refusal id d e
resets_or_not (Some error) r id d e refused is_closed same lacks = same
resets_or_not None (Ok answer) id d e refused is_closed same lacks = inl is_closed
resets_or_not None (Err error) id d e refused is_closed same lacks = inr (lacks (cc))

pub goes_as : (answer : Result (Unit {0}) Error) (refusal : Option Error) → Refuses answer refusal
    → goes_after answer ≡ goes_by refusal
goes_as (Ok answer) refusal refused = rw refused
goes_as (Err error) refusal refused = rw refused

pub sends_as : (answer : Result (Unit {0}) Error) (refusal : Option Error) (d e : Driving) (id : ℕ) (c : ChannelView)
    → Refuses answer refusal → OnOk answer (e ≡ with_sending d id (not (ordered_in c.open_message)) c)
    → OnErr answer (e ≡ d) → e ≡ sending_by refusal d id c
sends_as (Ok answer) refusal d e id c refused is_set same = rw refused is_set
sends_as (Err error) refusal d e id c refused is_set same = rw refused same

-- the OPEN was written, and the stream refuses the rest
pub fails_behind_open : (r : Result (Unit {0}) Error) (n : Bool) (id : ℕ) (c : ChannelView) (message : List ℕ)
    (d x e : Driving) → n ≡ false → message ≡ c.open_message → x ≡ with_dcep d id message
    → Refuses r (stream_refusal x.association id) → OnErr r (e ≡ x)
    → IfErr r (λ error. FailsToBeginOn n id c d error e)
unfolding FailsToBeginOn
fails_behind_open (Ok answer) n id c message d x e is_open is_message is_written refused same = tt
fails_behind_open (Err error) n id c message d x e is_open is_message is_written refused same =
    rw is_open
    (inr (subst (λ (z : Driving). IsNotSet id z error e)
    (is_written ∙ ap (λ (m : List ℕ). with_dcep d id m) is_message) (refused, same)))

pub none_turned : (c : ChannelsView) (d : Driving) → Turning 0 c d c d
unfolding Turning
none_turned c d = (refl, refl)

pub one_turned : (count : ℕ) (c : ChannelsView) (d : Driving) (v : ChannelsView) (x : Driving) (turn : Turn)
    (f : ChannelsView) (e : Driving) → Turning count c d v x → TakesTurn v x (Ok turn) f e → turn ≡ turns.Silent
    → Turning (count + 1) c d f e
unfolding Turning
one_turned count c d v x turn f e before last is_silent =
    rw add-one (v, x, before, subst (λ (z : Turn). TakesTurn v x (Ok z) f e) is_silent last)

pub ruleset turning_steps = (none_turned, one_turned)
