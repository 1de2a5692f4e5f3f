-- Messages that an application receives.
use Rattle.std.specs.Prelude.{◌≡◌, ◌⊎◌, ℕ, zero, suc, ◌-◌, ◌^◌, ◌==◌, ◌&&◌, not, if◌then◌else◌}
use Rattle.std.specs.Prelude.{Bool, true, false, List, slice_index, slice_set, Option, Some, None, Result, Ok, Err}
use Rattle.sctp_wire_types.specs.declared.error.Error.TheVariants as errors
use Rattle.sctp_wire_types.specs.declared.ids.PayloadProtocolIdentifier.{PayloadProtocolIdentifier}
use Rattle.sctp_driver.specs.declared.messages.ReadAnswer.{ReadAnswer}
use Rattle.sctp_driver.specs.declared.messages.ReadAnswer.TheVariants as answers
use Rattle.sctp_driver.specs.Driving.{Driving}
use Rattle.sctp_driver.specs.Messages.{ReadFails}
use Rattle.channel_table.specs.declared.channel.ShortMessage.{ShortMessage}
use Rattle.channel_table.specs.declared.channel.Stage.{Stage}
use Rattle.channel_table.specs.declared.channel.Stage.TheVariants as stages
use Rattle.channel_table.specs.declared.error.ChannelError.{ChannelError}
use Rattle.channel_table.specs.declared.error.ChannelError.TheVariants as faults
use Rattle.channel_table.specs.declared.payload.Received.{Received}
use Rattle.channel_table.specs.declared.payload.Received.TheVariants as receipts
use Rattle.channel_table.specs.Payloads.{is_empty, received_as}
use Rattle.channel_table.specs.Tables.{first_at, stage_at, without_kept}
use Rattle.sctp_channels.specs.declared.receiving.Next.{Next}
use Rattle.sctp_channels.specs.declared.receiving.Next.TheVariants as nexts
use Rattle.sctp_channels.specs.Channels.{ChannelsView, with_table}
use Rattle.sctp_channels.specs.Opening.{Resets}
use Rattle.sctp_channels.specs.Reading.{ReadsOrEnded, is_dcep}

-- these bytes begin as an OPEN does, by the message type 3
abbrev pub begins_as_open : List ℕ → Bool
begins_as_open bytes = not (is_empty bytes) && (slice_index bytes 0 == 3)

abbrev pub met_as : Option Received → PayloadProtocolIdentifier → List ℕ → Next
met_as (Some received) kind bytes = nexts.Given received
met_as None kind bytes = if is_dcep kind && begins_as_open bytes then nexts.SecondOpen else nexts.Dropped

-- A message of an application is received. A second OPEN ends the channel: a DCEP message that begins as one, however
-- long it is. All other DCEP messages are dropped, an ACK of any length among them, and so are those of other payload
-- types. No message is empty, so that the first byte of the buffer into which it was read is its own.
abbrev pub met : PayloadProtocolIdentifier → ℕ → List ℕ → Next
met kind n bytes = met_as (received_as kind n) kind bytes

-- what a read of the stream of an open channel, with the buffer as it then is, is to its application
abbrev pub read_as : ReadAnswer → List ℕ → Next
read_as answers.Nothing bytes = nexts.Given receipts.Nothing
read_as (answers.NoRoom n) bytes = nexts.Given (receipts.NoRoom n)
read_as (answers.Message kind n) bytes = met kind n bytes

-- one read of the stream
abbrev pub ReadsNext : ℕ → Driving → List ℕ → Next → Driving → List ℕ → Type 0
ReadsNext id d buffer next e filled =
    (answer : ReadAnswer) × ReadsOrEnded id d buffer answer e filled × (next ≡ read_as answer filled)

-- so many reads gave messages that are dropped
abbrev pub Drops : ℕ → ℕ → Driving → List ℕ → Driving → List ℕ → Type 0
Drops zero id d buffer e filled = (e ≡ d) × (filled ≡ buffer)
Drops (suc count) id d buffer e filled =
    (x : Driving) × (y : List ℕ) × Drops count id d buffer x y × ReadsNext id x y nexts.Dropped e filled

-- the last read gave what is received; or it met a second OPEN, and the channel ends, of which nothing is received
abbrev pub ReceivesLast : ℕ → ChannelsView → Driving → List ℕ → Result Received ChannelError → ChannelsView → Driving
    → List ℕ → Type 0
ReceivesLast id c d buffer (Ok received) f e filled =
    ((f ≡ c) × ReadsNext id d buffer (nexts.Given received) e filled)
    ⊎ ((received ≡ receipts.Nothing)
    × ((x : Driving) × ReadsNext id d buffer nexts.SecondOpen x filled × Resets id x c (Ok tt) e f))
ReceivesLast id c d buffer (Err (faults.Beneath error)) f e filled =
    ((f ≡ c) × ReadFails d id error e × (filled ≡ buffer))
    ⊎ ((x : Driving) × ReadsNext id d buffer nexts.SecondOpen x filled × Resets id x c (Err (faults.Beneath error)) e f)
ReceivesLast id c d buffer (Err _) f e filled = ⊥

-- the call ends without a message after so many that are dropped, more than any memory holds
abbrev pub GivesUp : ℕ → Result Received ChannelError → Type 0
GivesUp count r = (count ≡ 2 ^ 64 - 1) × (r ≡ Err (faults.Beneath errors.ErrNoMemory))

-- messages that are no application's are dropped, and then one is received
abbrev pub ReceivesRead : ℕ → ChannelsView → Driving → List ℕ → Result Received ChannelError → ChannelsView → Driving
    → List ℕ → Type 0
ReceivesRead id c d buffer r f e filled =
    (count : ℕ) × (x : Driving) × (y : List ℕ) × Drops count id d buffer x y
    × (ReceivesLast id c x y r f e filled ⊎ (GivesUp count r × (f ≡ c) × (e ≡ x) × (filled ≡ y)))

abbrev pub first_as : Option Received → Received
first_as None = receipts.Nothing
first_as (Some received) = received

abbrev pub GivesFirstWhere : Bool → ShortMessage → ℕ → ChannelsView → List ℕ → Received → ChannelsView → List ℕ → Type 0
GivesFirstWhere true m id c buffer r f filled = (r ≡ receipts.NoRoom 1) × (f ≡ c) × (filled ≡ buffer)
GivesFirstWhere false m id c buffer r f filled =
    (r ≡ first_as (received_as m.payload_type 1)) × (f ≡ with_table c (without_kept c.table id))
    × (filled ≡ slice_set buffer 0 m.byte)

-- what came in place of the ACK is received, where the buffer has room for its byte
abbrev pub GivesFirst : ShortMessage → ℕ → ChannelsView → List ℕ → Received → ChannelsView → List ℕ → Type 0
GivesFirst m id c buffer r f filled = GivesFirstWhere (is_empty buffer) m id c buffer r f filled

abbrev pub GivesFirstOk : ShortMessage → ℕ → ChannelsView → List ℕ → Result Received ChannelError → ChannelsView
    → List ℕ → Type 0
GivesFirstOk m id c buffer (Ok received) f filled = GivesFirst m id c buffer received f filled
GivesFirstOk m id c buffer (Err fault) f filled = ⊥

-- of an open channel: what came in place of the ACK is received first, and then what its stream gives
abbrev pub ReceivesOpen : Option ShortMessage → ℕ → ChannelsView → Driving → List ℕ → Result Received ChannelError
    → ChannelsView → Driving → List ℕ → Type 0
ReceivesOpen None id c d buffer r f e filled = ReceivesRead id c d buffer r f e filled
ReceivesOpen (Some m) id c d buffer r f e filled = GivesFirstOk m id c buffer r f filled × (e ≡ d)

-- this is the answer, and nothing changes
abbrev pub AnswersAlone : ChannelsView → Driving → List ℕ → Result Received ChannelError → Result Received ChannelError
    → ChannelsView → Driving → List ℕ → Type 0
AnswersAlone c d buffer answer r f e filled = (r ≡ answer) × (f ≡ c) × (e ≡ d) × (filled ≡ buffer)

abbrev pub ReceivesAt : Option Stage → ℕ → ChannelsView → Driving → List ℕ → Result Received ChannelError
    → ChannelsView → Driving → List ℕ → Type 0
ReceivesAt None id c d buffer r f e filled = AnswersAlone c d buffer (Err faults.NoChannel) r f e filled
ReceivesAt (Some stages.Waiting) id c d buffer r f e filled = AnswersAlone c d buffer (Ok receipts.Nothing) r f e filled
ReceivesAt (Some stages.Begun) id c d buffer r f e filled = AnswersAlone c d buffer (Ok receipts.Nothing) r f e filled
ReceivesAt (Some stages.Announcing) id c d buffer r f e filled =
    AnswersAlone c d buffer (Ok receipts.Nothing) r f e filled
ReceivesAt (Some stages.Open) id c d buffer r f e filled =
    ReceivesOpen (first_at c.table id) id c d buffer r f e filled
ReceivesAt (Some stages.Closing) id c d buffer r f e filled =
    ReceivesOpen (first_at c.table id) id c d buffer r f e filled

-- a channel that is not open yet gives nothing; one that ends, what waited and what its stream still gives
abbrev pub Receives : ℕ → ChannelsView → Driving → List ℕ → Result Received ChannelError → ChannelsView → Driving
    → List ℕ → Type 0
Receives id c d buffer r f e filled = ReceivesAt (stage_at c.table id) id c d buffer r f e filled
