-- What a look at a stream does to the channels and to the driver.
use Rattle.std.specs.Prelude.{◌≡◌, ◌⊎◌, ℕ, Bool, true, false, not, if◌then◌else◌, nat_lt, List, ◌∷◌, [], length}
use Rattle.std.specs.Prelude.{slice_index, Option, Some, None, IfSome, Result, Ok, Err}
use Rattle.std.specs.BTreeMap.{insert_entry, is_at}
use Rattle.std.specs.Map.{remove_entry}
use Rattle.std.specs.Ordering.{nat_cmp}
use Rattle.sctp_wire_types.specs.declared.error.Error.{Error}
use Rattle.sctp_wire_types.specs.declared.ids.PayloadProtocolIdentifier.{PayloadProtocolIdentifier}
use Rattle.sctp_assoc.specs.Calls.{RefusesOrLacksMemory, open_refusal, refusal_to_write, stream_refusal}
use Rattle.sctp_driver.specs.declared.messages.ReadAnswer.{ReadAnswer}
use Rattle.sctp_driver.specs.declared.messages.ReadAnswer.TheVariants as answers
use Rattle.sctp_driver.specs.Driving.{Driving, RunsOutOfMemory}
use Rattle.sctp_driver.specs.Messages.{ReadFails}
use Rattle.sctp_driver.specs.Streams.{refusal_to_stop, stream_closed, with_stopped}
use Rattle.dcep_messages.specs.Codec.{is_ack, ordered_in}
use Rattle.channel_table.specs.declared.channel.Stage.{Stage}
use Rattle.channel_table.specs.declared.channel.Stage.TheVariants as stages
use Rattle.channel_table.specs.Channels.{ChannelView, announced}
use Rattle.channel_table.specs.Tables.{at_stage, channel_at, keeping_first, stage_at}
use Rattle.sctp_channels.specs.declared.event.ChannelEvent.TheVariants as told
use Rattle.sctp_channels.specs.declared.looking.Looked.{Looked}
use Rattle.sctp_channels.specs.declared.looking.Looked.TheVariants as looks
use Rattle.sctp_channels.specs.declared.reading.First.{First}
use Rattle.sctp_channels.specs.declared.reading.First.TheVariants as firsts
use Rattle.sctp_channels.specs.Looking.{Announces, Begins, Unacknowledged, may_pass, names_stream, with_dcep}
use Rattle.sctp_channels.specs.Looking.{with_sending, with_stream}
use Rattle.sctp_channels.specs.Opening.{outbound}
use Rattle.sctp_channels.specs.Reading.{ReadsFirst, ReadsOrEnded, is_dcep}

abbrev pub ResetsWhere : Option Error → ℕ → Driving → Driving → Type 0
ResetsWhere None id d e = (e ≡ with_stopped d id (stream_closed d.association id)) ⊎ RunsOutOfMemory d e
ResetsWhere (Some error) id d e = e ≡ d

-- a stream is reset; or the driver refuses that and stays as it was, or fails for want of memory
unfoldable pub ResetsOrNot : ℕ → Driving → Driving → Type 0
ResetsOrNot id d e = ResetsWhere (refusal_to_stop d.association id) id d e

-- a stream of which there is no channel fails
abbrev pub Fails : ℕ → List (ℕ × ChannelView) → Driving → Looked → List (ℕ × ChannelView) → Driving → Type 0
Fails id t d looked u e = (looked ≡ looks.Ends (told.Failed id)) × (u ≡ t) × ResetsOrNot id d e

-- An OPEN makes a channel, which is acknowledged next; any other message, or want of memory for the channel, fails the
-- stream.
unfoldable pub MeetsFirst : First → ℕ → List (ℕ × ChannelView) → Driving → Looked → List (ℕ × ChannelView) → Driving
    → Type 0
MeetsFirst firsts.Nothing id t d looked u e = (looked ≡ looks.Done) × (u ≡ t) × (e ≡ d)
MeetsFirst firsts.Other id t d looked u e = Fails id t d looked u e
MeetsFirst (firsts.Open message) id t d looked u e =
    ((looked ≡ looks.Again) × (u ≡ insert_entry nat_cmp t id (announced message)) × (e ≡ d))
    ⊎ Fails id t d looked u e

-- a stream without a channel: its first message is read, and met
unfoldable pub MeetsStream : ℕ → List (ℕ × ChannelView) → Driving → Result Looked Error → List (ℕ × ChannelView)
    → Driving → Type 0
MeetsStream id t d (Ok looked) u e =
    (first : First) × (x : Driving) × ReadsFirst id d (Ok first) x × MeetsFirst first id t x looked u e
MeetsStream id t d (Err error) u e = (u ≡ t) × ReadsFirst id d (Err error) e

-- the driver does not open a stream
abbrev pub IsNotOpened : ℕ → Driving → Error → Driving → Type 0
IsNotOpened id d error e =
    RefusesOrLacksMemory {T = Unit {0}} (Err error) (open_refusal d.association id) × (e ≡ d)

-- the driver has no stream of which to set how it sends
abbrev pub IsNotSet : ℕ → Driving → Error → Driving → Type 0
IsNotSet id d error e = (stream_refusal d.association id ≡ Some error) × (e ≡ d)

-- a channel is not begun on a stream that is there: its OPEN is not written, or it is and the rest is refused
unfoldable pub FailsToBeginOn : Bool → ℕ → ChannelView → Driving → Error → Driving → Type 0
FailsToBeginOn true id c d error e = IsNotSet id d error e
FailsToBeginOn false id c d error e =
    (RefusesOrLacksMemory {T = ℕ} (Err error) (refusal_to_write d.association id (length c.open_message)) × (e ≡ d))
    ⊎ IsNotSet id (with_dcep d id c.open_message) error e

-- the same of one whose stream is made first, unless the peer made it
unfoldable pub FailsToBegin : ℕ → ChannelView → Driving → Error → Driving → Type 0
FailsToBegin id c d error e =
    IsNotOpened id d error e
    ⊎ (FailsToBeginOn c.negotiated id c d error e ⊎ FailsToBeginOn c.negotiated id c (with_stream d id) error e)

-- a channel of this side is gone before it began
abbrev pub IsGivenUp : ℕ → List (ℕ × ChannelView) → Looked → List (ℕ × ChannelView) → Type 0
IsGivenUp id t looked u = (looked ≡ looks.Ends (told.Failed id)) × (u ≡ remove_entry (is_at (nat_cmp id)) t)

-- the driver's refusal is one that does not pass
abbrev pub IsRefused : ℕ → ChannelView → Driving → Driving → Type 0
IsRefused id c d e = (error : Error) × FailsToBegin id c d error e × (may_pass error ≡ false)

-- a channel that is negotiated is open, and another one is looked at again
unfoldable pub HasBegun : Bool → ℕ → List (ℕ × ChannelView) → Looked → List (ℕ × ChannelView) → Type 0
HasBegun true id t looked u = (looked ≡ looks.Tells (told.Opened id)) × (u ≡ at_stage t id stages.Open)
HasBegun false id t looked u = (looked ≡ looks.Again) × (u ≡ at_stage t id stages.Begun)

abbrev pub BeginsAs : ℕ → ChannelView → List (ℕ × ChannelView) → Driving → Result Looked Error
    → List (ℕ × ChannelView) → Driving → Type 0
BeginsAs id c t d (Ok looked) u e =
    (Begins d id c e × HasBegun c.negotiated id t looked u) ⊎ (IsRefused id c d e × IsGivenUp id t looked u)
BeginsAs id c t d (Err error) u e = (u ≡ t) × FailsToBegin id c d error e

abbrev pub BeginsWhere : Bool → ℕ → List (ℕ × ChannelView) → Driving → Result Looked Error → List (ℕ × ChannelView)
    → Driving → Type 0
BeginsWhere true id t d r u e = IfSome (channel_at t id) (λ c. BeginsAs id c t d r u e)
BeginsWhere false id t d r u e =
    (r ≡ Ok (looks.Ends (told.Failed id))) × (u ≡ remove_entry (is_at (nat_cmp id)) t) × (e ≡ d)

-- A channel that waits begins, if its stream is one of those on which this side may send.
unfoldable pub BeginsChannel : ℕ → List (ℕ × ChannelView) → Driving → Result Looked Error → List (ℕ × ChannelView)
    → Driving → Type 0
BeginsChannel id t d r u e = BeginsWhere (nat_lt id (outbound d)) id t d r u e

-- whether a channel goes on where the driver refuses something of its stream
abbrev pub goes_despite : Error → Result Bool Error
goes_despite error = if may_pass error then Err error else Ok (names_stream error)

abbrev pub goes_after : Result (Unit {0}) Error → Result Bool Error
goes_after (Ok answer) = Ok true
goes_after (Err error) = goes_despite error

abbrev pub goes_by : Option Error → Result Bool Error
goes_by None = Ok true
goes_by (Some error) = goes_despite error

-- a stream sends as its channel says, unless the driver refuses that
abbrev pub sending_by : Option Error → Driving → ℕ → ChannelView → Driving
sending_by None d id c = with_sending d id (not (ordered_in c.open_message)) c
sending_by (Some error) d id c = d

abbrev pub ConfirmsAs : Result Bool Error → ℕ → List (ℕ × ChannelView) → Result Looked Error → List (ℕ × ChannelView)
    → List (ℕ × ChannelView) → Type 0
ConfirmsAs (Ok true) id t r u opened = (r ≡ Ok (looks.Tells (told.Opened id))) × (u ≡ opened)
ConfirmsAs (Ok false) id t r u opened = (r ≡ Ok looks.Done) × (u ≡ t)
ConfirmsAs (Err error) id t r u opened = (r ≡ Err error) × (u ≡ t)

-- The answer to an OPEN came: messages go as the channel says from now on, also where its stream is gone, and then the
-- channels are these.
unfoldable pub Confirms : ℕ → List (ℕ × ChannelView) → Driving → Result Looked Error → List (ℕ × ChannelView) → Driving
    → List (ℕ × ChannelView) → Type 0
Confirms id t d r u e opened =
    IfSome (channel_at t id) (λ c. ConfirmsAs (goes_by (stream_refusal d.association id)) id t r u opened
    × (e ≡ sending_by (stream_refusal d.association id) d id c))

abbrev pub AnsweredWhere : Bool → ℕ → List (ℕ × ChannelView) → Driving → Result Looked Error → List (ℕ × ChannelView)
    → Driving → Type 0
AnsweredWhere true id t d r u e = Confirms id t d r u e (at_stage t id stages.Open)
AnsweredWhere false id t d r u e =
    (r ≡ Ok (looks.Ends (told.Failed id))) × (u ≡ remove_entry (is_at (nat_cmp id)) t) × ResetsOrNot id d e

-- a DCEP message of this byte came: the ACK, or one that ends the channel
unfoldable pub AnsweredByDcep : ℕ → ℕ → List (ℕ × ChannelView) → Driving → Result Looked Error
    → List (ℕ × ChannelView) → Driving → Type 0
AnsweredByDcep byte id t d r u e = AnsweredWhere (is_ack (byte ∷ [])) id t d r u e

abbrev pub AnsweredByKind : Bool → PayloadProtocolIdentifier → ℕ → ℕ → List (ℕ × ChannelView) → Driving
    → Result Looked Error → List (ℕ × ChannelView) → Driving → Type 0
AnsweredByKind true kind byte id t d r u e = AnsweredByDcep byte id t d r u e
AnsweredByKind false kind byte id t d r u e =
    Confirms id t d r u e
    (keeping_first (at_stage t id stages.Open) id (record { payload_type = kind; byte = byte }))

-- What a read into one byte gave: a message of a byte in place of the ACK is kept, and a longer one stays to be
-- received.
unfoldable pub AnsweredBy : ReadAnswer → ℕ → ℕ → List (ℕ × ChannelView) → Driving → Result Looked Error
    → List (ℕ × ChannelView) → Driving → Type 0
AnsweredBy answers.Nothing byte id t d r u e = (r ≡ Ok looks.Done) × (u ≡ t) × (e ≡ d)
AnsweredBy (answers.NoRoom n) byte id t d r u e = Confirms id t d r u e (at_stage t id stages.Open)
AnsweredBy (answers.Message kind n) byte id t d r u e = AnsweredByKind (is_dcep kind) kind byte id t d r u e

abbrev pub ReadsThenAnswered : ℕ → List (ℕ × ChannelView) → Driving → Result Looked Error → List (ℕ × ChannelView)
    → Driving → Type 0
ReadsThenAnswered id t d r u e =
    (answer : ReadAnswer) × (x : Driving) × (bytes : List ℕ) × ReadsOrEnded id d (0 ∷ []) answer x bytes
    × AnsweredBy answer (slice_index bytes 0) id t x r u e

-- a channel whose OPEN was written: what its stream gives, into one byte, is the answer to that
unfoldable pub AwaitsAnswer : ℕ → List (ℕ × ChannelView) → Driving → Result Looked Error → List (ℕ × ChannelView)
    → Driving → Type 0
AwaitsAnswer id t d (Ok looked) u e = ReadsThenAnswered id t d (Ok looked) u e
AwaitsAnswer id t d (Err error) u e =
    ((u ≡ t) × ReadFails d id error e) ⊎ ReadsThenAnswered id t d (Err error) u e

-- the stream was refused for the ACK or for its settings, and that for no reason by which the channel goes on
abbrev pub IsUnanswered : ℕ → Driving → Driving → Type 0
IsUnanswered id d e = (error : Error) × Unacknowledged d id error e × (goes_despite error ≡ Ok false)

abbrev pub AnnouncesAs : ℕ → ChannelView → List (ℕ × ChannelView) → Driving → Result Looked Error
    → List (ℕ × ChannelView) → Driving → Type 0
AnnouncesAs id c t d (Ok looked) u e =
    ((looked ≡ looks.Tells (told.Announced id)) × (u ≡ at_stage t id stages.Open) × Announces d id c e)
    ⊎ ((looked ≡ looks.Done) × (u ≡ t) × IsUnanswered id d e)
AnnouncesAs id c t d (Err error) u e = (u ≡ t) × Unacknowledged d id error e

-- a channel of the peer: it is acknowledged and told; or the association ends, and it stays as it is
unfoldable pub AnnouncesChannel : ℕ → List (ℕ × ChannelView) → Driving → Result Looked Error → List (ℕ × ChannelView)
    → Driving → Type 0
AnnouncesChannel id t d r u e = IfSome (channel_at t id) (λ c. AnnouncesAs id c t d r u e)

abbrev pub LooksAtStage : Option Stage → ℕ → List (ℕ × ChannelView) → Driving → Result Looked Error
    → List (ℕ × ChannelView) → Driving → Type 0
LooksAtStage None id t d r u e = MeetsStream id t d r u e
LooksAtStage (Some stages.Waiting) id t d r u e = BeginsChannel id t d r u e
LooksAtStage (Some stages.Begun) id t d r u e = AwaitsAnswer id t d r u e
LooksAtStage (Some stages.Announcing) id t d r u e = AnnouncesChannel id t d r u e
LooksAtStage (Some stages.Open) id t d r u e = (r ≡ Ok (looks.Ends (told.Message id))) × (u ≡ t) × (e ≡ d)
LooksAtStage (Some stages.Closing) id t d r u e = (r ≡ Ok looks.Done) × (u ≡ t) × (e ≡ d)

-- A look at a stream, by how far its channel came. Of a channel that is open, or ends, no message is read.
unfoldable pub LooksAt : ℕ → List (ℕ × ChannelView) → Driving → Result Looked Error → List (ℕ × ChannelView) → Driving
    → Type 0
LooksAt id t d r u e = LooksAtStage (stage_at t id) id t d r u e
