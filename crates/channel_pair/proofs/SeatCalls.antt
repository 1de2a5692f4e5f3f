-- What each call of a channel, by its deeds, makes of a side's seat and of what the side wrote and read.
use Rattle.std.proofs.Common.{◌≡◌, refl, sym, ap, ◌∙◌, ◌⊎◌, ⊎_elim, ℕ, Bool, true, false, eqb, ◌&&◌}
use Rattle.std.proofs.Common.{if◌then◌else◌, List, [], ◌∷◌, ◌++◌, Option, Some, None}
use Rattle.std.specs.Prelude.{◌||◌, not, Result, Ok, Err}
use Rattle.std.proofs.lemmas.Bool.{and_parts, true≢false}
use Rattle.std.proofs.lemmas.List.{append-nil}
use Rattle.sctp_wire_types.specs.declared.ids.PayloadProtocolIdentifier.{PayloadProtocolIdentifier}
use Rattle.sctp_wire_types.specs.declared.ids.PayloadProtocolIdentifier.TheVariants as kinds
use Rattle.sctp_wire_types.specs.Ids.{number_of}
use Rattle.sctp_receive_queues.specs.Messages.{ReceivedMessage, bytes_left}
use Rattle.sctp_reassembly.specs.Stands.{letter_received}
use Rattle.sctp_steps.specs.declared.step.Side2.{Side2}
use Rattle.dcep_channel.specs.declared.error.ChannelError.{ChannelError}
use Rattle.dcep_channel.specs.declared.error.ChannelError.TheVariants as faults
use Rattle.dcep_channel.specs.Channels.{AcceptsBy, AcknowledgesAs, AcknowledgesBy, AcknowledgesWhere, BeginsBy}
use Rattle.dcep_channel.specs.Channels.{BeginsWhere, ChannelState, OpensAndWrites, ReceivesBehind, ReceivesBy}
use Rattle.dcep_channel.specs.Channels.{ReceivesWhere, SendsWhere, WritesDcep, WritesReliably, accept_refusal}
use Rattle.dcep_channel.specs.Channels.{is_ack_message, is_awaited, is_binary, is_dcep, may_send, received}
use Rattle.dcep_channel.specs.Channels.{send_refusal, with_acknowledgement, with_failure}
use Rattle.dcep_channel.specs.Codec.{ack_bytes, has_open_form, is_ack, is_too_long, open_bytes, open_refusal}
use Rattle.dcep_channel.specs.Deeds.{Deed}
use Rattle.std.specs.Prelude.{◌==◌, slice_index}
use Rattle.channel_pair.specs.declared.seat.Seat.{Seat}
use Rattle.channel_pair.specs.declared.seat.Seat.TheVariants as seats
use Rattle.channel_pair.specs.declared.step.ChannelStep.{ChannelStep}
use Rattle.channel_pair.specs.declared.step.ChannelStep.TheVariants as steps
use Rattle.channel_pair.specs.declared.step.ChannelReply.{ChannelReply}
use Rattle.channel_pair.specs.declared.step.ChannelReply.TheVariants as replies
use Rattle.channel_pair.specs.Letters.{data_of, letter}
use Rattle.channel_pair.specs.Promise.{got_by, sent_by}
use Rattle.channel_pair.specs.Seats.{AcceptsAt, AcknowledgesAt, OpensAt, ReceivesAt, SendsAt, is_spoiling}
use Rattle.channel_pair.specs.Seats.{spoiled_refusal}
use Rattle.channel_pair.proofs.DeedsLead.{in_of, ins_of, outs_of}
use Rattle.channel_pair.proofs.Lists.{data_append, no_data}
use Rattle.channel_pair.proofs.SeatsGrow.{SeatGrows, accepted_grows, acknowledged_grows, grows_by, nothing_grows}
use Rattle.channel_pair.proofs.SeatsGrow.{opened_grows, received_grows, refused_grows, sent_grows}
use Rattle.channel_pair.proofs.StreamSteps.{is_own}

-- A step s at side x, with reply r, did these deeds.
abbrev GrowsBy : ChannelStep → Side2 → Seat → List Deed → ChannelReply → Seat → Type 0
GrowsBy s x a ds r b = SeatGrows a (outs_of ds) (ins_of ds) (sent_by s r x) (got_by s r x) b

-- nothing was done and nothing answered that counts
unmoved : (s : ChannelStep) (x : Side2) (a : Seat) (ds : List Deed) (r e : ChannelReply) (b : Seat) → ds ≡ [] → r ≡ e
    → b ≡ a → sent_by s e x ≡ [] → got_by s e x ≡ [] → GrowsBy s x a ds r b
unmoved s x a ds r e b none answered same no_sent no_got =
    grows_by a b a (outs_of ds) [] (ins_of ds) [] (sent_by s r x) [] (got_by s r x) [] (ap outs_of none)
    (ap ins_of none) (ap (λ (z : ChannelReply). sent_by s z x) answered ∙ no_sent)
    (ap (λ (z : ChannelReply). got_by s z x) answered ∙ no_got) same (nothing_grows a)

-- Deeds that write this and read nothing

-- what deeds write and read, by lists
abbrev Move : List Deed → List ℕ → Type 0
Move ds message = (outs_of ds ≡ letter 50 message ∷ []) × (ins_of ds ≡ [])

abbrev Stay : List Deed → Type 0
Stay ds = (outs_of ds ≡ []) × (ins_of ds ≡ [])

stay_of_none : (ds : List Deed) → ds ≡ [] → Stay ds
stay_of_none ds none = (ap outs_of none, ap ins_of none)

dcep_ok : (message : List ℕ) (ds : List Deed) (u : Unit {0}) → WritesDcep message ds (Ok u) → Move ds message
dcep_ok message [] u h = absurd h
dcep_ok message (Deed.Opened fault ∷ ds) u h = absurd h
dcep_ok message (Deed.Kept fault ∷ ds) u h = absurd h
dcep_ok message (Deed.Wrote kind bytes (Ok n) ∷ ds) u (of_kind, of_bytes, none, answered) = (
  ap (λ (k : PayloadProtocolIdentifier). letter (number_of k) bytes ∷ outs_of ds) of_kind
      ∙ ap (λ (bs : List ℕ). letter 50 bs ∷ outs_of ds) of_bytes
      ∙ ap (λ (z : List Deed). letter 50 message ∷ outs_of z) none,
  ap ins_of none,
)
dcep_ok message (Deed.Wrote kind bytes (Err n) ∷ ds) u (of_kind, of_bytes, none, answered) = absurd (cc)
dcep_ok message (Deed.Read answer ∷ ds) u h = absurd h

dcep_err : (message : List ℕ) (ds : List Deed) (e : ChannelError) → WritesDcep message ds (Err e) → Stay ds
dcep_err message [] e h = absurd h
dcep_err message (Deed.Opened fault ∷ ds) e h = absurd h
dcep_err message (Deed.Kept fault ∷ ds) e h = absurd h
dcep_err message (Deed.Wrote kind bytes (Ok n) ∷ ds) e (of_kind, of_bytes, none, answered) = absurd (cc)
dcep_err message (Deed.Wrote kind bytes (Err n) ∷ ds) e (of_kind, of_bytes, none, answered) =
    (ap outs_of none, ap ins_of none)
dcep_err message (Deed.Read answer ∷ ds) e h = absurd h

pub reliably_ok : (message : List ℕ) (ds : List Deed) (u : Unit {0}) → WritesReliably message ds (Ok u) → Move ds message
reliably_ok message [] u h = absurd h
reliably_ok message (Deed.Opened fault ∷ ds) u h = absurd h
reliably_ok message (Deed.Kept None ∷ ds) u h = dcep_ok message ds u h
reliably_ok message (Deed.Kept (Some n) ∷ ds) u (none, answered) = absurd (cc)
reliably_ok message (Deed.Wrote kind bytes answer ∷ ds) u h = absurd h
reliably_ok message (Deed.Read answer ∷ ds) u h = absurd h

pub reliably_err : (message : List ℕ) (ds : List Deed) (e : ChannelError) → WritesReliably message ds (Err e) → Stay ds
reliably_err message [] e h = absurd h
reliably_err message (Deed.Opened fault ∷ ds) e h = absurd h
reliably_err message (Deed.Kept None ∷ ds) e h = dcep_err message ds e h
reliably_err message (Deed.Kept (Some n) ∷ ds) e (none, answered) = (ap outs_of none, ap ins_of none)
reliably_err message (Deed.Wrote kind bytes answer ∷ ds) e h = absurd h
reliably_err message (Deed.Read answer ∷ ds) e h = absurd h

opens_ok : (message : List ℕ) (ds : List Deed) (u : Unit {0}) → OpensAndWrites message ds (Ok u) → Move ds message
opens_ok message [] u h = absurd h
opens_ok message (Deed.Opened None ∷ ds) u h = reliably_ok message ds u h
opens_ok message (Deed.Opened (Some n) ∷ ds) u (none, answered) = absurd (cc)
opens_ok message (Deed.Kept fault ∷ ds) u h = absurd h
opens_ok message (Deed.Wrote kind bytes answer ∷ ds) u h = absurd h
opens_ok message (Deed.Read answer ∷ ds) u h = absurd h

opens_err : (message : List ℕ) (ds : List Deed) (e : ChannelError) → OpensAndWrites message ds (Err e) → Stay ds
opens_err message [] e h = absurd h
opens_err message (Deed.Opened None ∷ ds) e h = reliably_err message ds e h
opens_err message (Deed.Opened (Some n) ∷ ds) e (none, answered) = (ap outs_of none, ap ins_of none)
opens_err message (Deed.Kept fault ∷ ds) e h = absurd h
opens_err message (Deed.Wrote kind bytes answer ∷ ds) e h = absurd h
opens_err message (Deed.Read answer ∷ ds) e h = absurd h

pub begins_ok : (long : Bool) (message : List ℕ) (ds : List Deed) (c : ChannelState) → BeginsWhere long message ds (Ok c)
    → Move ds message
begins_ok true message ds c (none, answered) = absurd (cc)
begins_ok false message ds c (same, opens) = opens_ok message ds tt opens

pub begins_err : (long : Bool) (message : List ℕ) (ds : List Deed) (e : ChannelError)
    → BeginsWhere long message ds (Err e) → Stay ds
begins_err true message ds e (none, answered) = stay_of_none ds none
begins_err false message ds e h =
    ⊎_elim
    (λ (own : (ds ≡ []) × (e ≡ faults.Beneath 4)). stay_of_none ds own.0)
    (λ (opens : OpensAndWrites message ds (Err e)). opens_err message ds e opens)
    h

-- `open`
pub open_grows : (failed : Bool) (priority : ℕ) (label protocol : List ℕ) (x : Side2) (a : Seat) (ds : List Deed)
    (r : ChannelReply) (b : Seat) → OpensAt failed priority label protocol a ds r b
    → GrowsBy (steps.Open x priority label protocol) x a ds r b
open_grows failed priority label protocol x (seats.Taken c) ds r b (none, answered, same) =
    unmoved (steps.Open x priority label protocol) x (seats.Taken c) ds r replies.NotHere b none answered same refl refl
open_grows failed priority label protocol x (seats.Vacant true) ds r b (none, answered, same) =
    unmoved (steps.Open x priority label protocol) x (seats.Vacant true) ds r (replies.Refused (spoiled_refusal failed))
    b none answered same refl refl
open_grows failed priority label protocol x (seats.Vacant false) ds replies.Opened (seats.Taken c) h =
    let m = begins_ok (is_too_long label protocol) (open_bytes priority label protocol) ds c h in
    grows_by (seats.Vacant false) (seats.Taken c) (seats.Taken c) (outs_of ds)
    (letter 50 (open_bytes priority label protocol) ∷ []) (ins_of ds) [] [] [] [] [] m.0 m.1 refl refl refl
    (opened_grows c (open_bytes priority label protocol))
open_grows failed priority label protocol x (seats.Vacant false) ds (replies.Refused e) b (begins, same) =
    let m = begins_err (is_too_long label protocol) (open_bytes priority label protocol) ds e begins in
    grows_by (seats.Vacant false) b (seats.Vacant false) (outs_of ds) [] (ins_of ds) [] [] [] [] [] m.0 m.1 refl refl
    same (nothing_grows (seats.Vacant false))
open_grows failed priority label protocol x (seats.Vacant false) ds r b h = absurd h

-- `accept`

dcep_number : (kind : PayloadProtocolIdentifier) → is_dcep kind ≡ true → number_of kind ≡ 50
dcep_number kinds.Dcep e = refl
dcep_number kinds.String e = absurd (true≢false (sym e))
dcep_number kinds.Binary e = absurd (true≢false (sym e))
dcep_number kinds.StringEmpty e = absurd (true≢false (sym e))
dcep_number kinds.BinaryEmpty e = absurd (true≢false (sym e))
dcep_number kinds.Unknown e = absurd (true≢false (sym e))

-- an OPEN is a message of DCEP
if_dcep : (dcep : Bool) (of_form : Option ChannelError)
    → (if dcep then of_form else Some faults.ErrNotOpenMessage) ≡ None → dcep ≡ true
if_dcep true of_form e = refl
if_dcep false of_form e = absurd (cc)

-- what is refused though it was read spoils the side
if_spoils : (dcep form reliable : Bool) (e : ChannelError)
    → (if dcep then (if form then (if reliable then None else Some faults.ErrChannelType)
    else Some faults.ErrNotOpenMessage) else Some faults.ErrNotOpenMessage) ≡ Some e → is_spoiling e ≡ true
if_spoils true true true e h = absurd (cc)
if_spoils true true false e h = let same : faults.ErrChannelType ≡ e = cc in ap is_spoiling (sym same)
if_spoils true false reliable e h = let same : faults.ErrNotOpenMessage ≡ e = cc in ap is_spoiling (sym same)
if_spoils false form reliable e h = let same : faults.ErrNotOpenMessage ≡ e = cc in ap is_spoiling (sym same)

-- deeds of a call that accepts a channel: they read a message of DCEP, and the channel may not send yet
abbrev Accepts : List Deed → ChannelState → Type 0
Accepts ds c =
    (message : List ℕ) × (outs_of ds ≡ []) × (ins_of ds ≡ letter 50 message ∷ []) × (may_send c ≡ false)

pub accepts_some : (ds : List Deed) (c : ChannelState) → AcceptsBy ds (Ok (Some c)) → Accepts ds c
accepts_some [] c h = absurd h
accepts_some (Deed.Opened fault ∷ ds) c h = absurd h
accepts_some (Deed.Kept fault ∷ ds) c h = absurd h
accepts_some (Deed.Wrote kind bytes answer ∷ ds) c h = absurd h
accepts_some (Deed.Read (Err n) ∷ ds) c (none, answered) = absurd (cc)
accepts_some (Deed.Read (Ok None) ∷ ds) c (none, answered) = absurd (cc)
accepts_some (Deed.Read (Ok (Some m)) ∷ ds) c (none, accepted) =
    let dcep = if_dcep (is_dcep m.payload_type) (open_refusal (bytes_left m)) accepted.0 in (
      bytes_left m,
      ap outs_of none,
      ap (λ (n : ℕ). letter n (bytes_left m) ∷ ins_of ds) (dcep_number m.payload_type dcep)
          ∙ ap (λ (z : List Deed). letter 50 (bytes_left m) ∷ ins_of z) none,
      ap may_send accepted.1,
    )

pub accepts_none : (ds : List Deed) → AcceptsBy ds (Ok None) → Stay ds
accepts_none [] h = absurd h
accepts_none (Deed.Opened fault ∷ ds) h = absurd h
accepts_none (Deed.Kept fault ∷ ds) h = absurd h
accepts_none (Deed.Wrote kind bytes answer ∷ ds) h = absurd h
accepts_none (Deed.Read (Err n) ∷ ds) (none, answered) = absurd (cc)
accepts_none (Deed.Read (Ok None) ∷ ds) (none, answered) = (ap outs_of none, ap ins_of none)
accepts_none (Deed.Read (Ok (Some m)) ∷ ds) h = absurd h.1

pub accepts_err : (ds : List Deed) (e : ChannelError) → AcceptsBy ds (Err e)
    → (outs_of ds ≡ []) × (is_spoiling e ≡ false → ins_of ds ≡ [])
accepts_err [] e h = absurd h
accepts_err (Deed.Opened fault ∷ ds) e h = absurd h
accepts_err (Deed.Kept fault ∷ ds) e h = absurd h
accepts_err (Deed.Wrote kind bytes answer ∷ ds) e h = absurd h
accepts_err (Deed.Read (Err n) ∷ ds) e (none, answered) = (ap outs_of none, λ unspoiled. ap ins_of none)
accepts_err (Deed.Read (Ok None) ∷ ds) e (none, answered) = absurd (cc)
accepts_err (Deed.Read (Ok (Some m)) ∷ ds) e (none, refused) = (
  ap outs_of none,
  λ unspoiled.
      let spoils : is_spoiling e ≡ true =
      ⊎_elim
      (λ (by_form : accept_refusal m ≡ Some e).
      if_spoils (is_dcep m.payload_type) (has_open_form (bytes_left m)) (slice_index (bytes_left m) 1 == 0) e by_form)
      (λ (lacks : (is_dcep m.payload_type ≡ true) × (e ≡ faults.Beneath 4)). ap is_spoiling lacks.1)
      refused in
      absurd (true≢false (sym spoils ∙ unspoiled)),
)

pub accept_grows : (x : Side2) (a : Seat) (ds : List Deed) (r : ChannelReply) (b : Seat) → AcceptsAt a ds r b
    → GrowsBy (steps.Accept x) x a ds r b
accept_grows x (seats.Taken c) ds r b (none, answered, same) =
    unmoved (steps.Accept x) x (seats.Taken c) ds r replies.NotHere b none answered same refl refl
accept_grows x (seats.Vacant spoiled) ds (replies.Accepted true) (seats.Taken c) h =
    let m = accepts_some ds c h in
    grows_by (seats.Vacant spoiled) (seats.Taken c) (seats.Taken c) (outs_of ds) [] (ins_of ds) (letter 50 m.0 ∷ []) []
    [] [] [] m.1 m.2 refl refl refl (accepted_grows spoiled c m.0 m.3)
accept_grows x (seats.Vacant spoiled) ds (replies.Accepted false) b (accepts, same) =
    let m = accepts_none ds accepts in
    grows_by (seats.Vacant spoiled) b (seats.Vacant spoiled) (outs_of ds) [] (ins_of ds) [] [] [] [] [] m.0 m.1 refl
    refl same (nothing_grows (seats.Vacant spoiled))
accept_grows x (seats.Vacant spoiled) ds (replies.Refused e) b (accepts, same) =
    let m = accepts_err ds e accepts in
    grows_by (seats.Vacant spoiled) b (seats.Vacant (spoiled || is_spoiling e)) (outs_of ds) [] (ins_of ds) (ins_of ds)
    [] [] [] [] m.0 refl refl refl same (refused_grows spoiled (is_spoiling e) (ins_of ds) m.1)
accept_grows x (seats.Vacant spoiled) ds r b h = absurd h

-- `acknowledge`

-- A channel of which `ready` is whether it may send.
acknowledges : (failed ready : Bool) (c after : ChannelState) (ds : List Deed)
    (r : Result (Unit {0}) ChannelError) → may_send c ≡ ready → AcknowledgesWhere failed ready c ds r after
    → SeatGrows (seats.Taken c) (outs_of ds) (ins_of ds) [] [] (seats.Taken after)
acknowledges true ready c after ds r may (none, answered, same) =
    grows_by (seats.Taken c) (seats.Taken after) (seats.Taken c) (outs_of ds) [] (ins_of ds) [] [] [] [] []
    (ap outs_of none) (ap ins_of none) refl refl (ap (λ (z : ChannelState). seats.Taken z) same)
    (nothing_grows (seats.Taken c))
acknowledges false true c after ds r may (none, answered, same) =
    grows_by (seats.Taken c) (seats.Taken after) (seats.Taken c) (outs_of ds) [] (ins_of ds) [] [] [] [] []
    (ap outs_of none) (ap ins_of none) refl refl (ap (λ (z : ChannelState). seats.Taken z) same)
    (nothing_grows (seats.Taken c))
acknowledges false false c after ds (Ok u) may (writes, same) =
    let m = reliably_ok ack_bytes ds u writes in
    grows_by (seats.Taken c) (seats.Taken after) (seats.Taken after) (outs_of ds) (letter 50 ack_bytes ∷ [])
    (ins_of ds) [] [] [] [] [] m.0 m.1 refl refl refl (acknowledged_grows c after ack_bytes may)
acknowledges false false c after ds (Err e) may (writes, same) =
    let m = reliably_err ack_bytes ds e writes in
    grows_by (seats.Taken c) (seats.Taken after) (seats.Taken c) (outs_of ds) [] (ins_of ds) [] [] [] [] [] m.0 m.1 refl
    refl (ap (λ (z : ChannelState). seats.Taken z) same) (nothing_grows (seats.Taken c))

pub acknowledge_grows : (x : Side2) (a : Seat) (ds : List Deed) (r : ChannelReply) (b : Seat)
    → AcknowledgesAt a ds r b → GrowsBy (steps.Acknowledge x) x a ds r b
acknowledge_grows x (seats.Vacant spoiled) ds r b (none, answered, same) =
    unmoved (steps.Acknowledge x) x (seats.Vacant spoiled) ds r replies.NotHere b none answered same refl refl
acknowledge_grows x (seats.Taken c) ds replies.Acknowledged (seats.Taken after) h =
    acknowledges c.failed (may_send c) c after ds (Ok tt) refl h
acknowledge_grows x (seats.Taken c) ds (replies.Refused e) (seats.Taken after) h =
    acknowledges c.failed (may_send c) c after ds (Err e) refl h
acknowledge_grows x (seats.Taken c) ds r b h = absurd h

-- `send`

may_if : (failed ready : Bool)
    → (if failed then Some faults.ErrChannelFailed else if ready then None else Some faults.ErrNotAcknowledged) ≡ None
    → ready ≡ true
may_if true ready e = absurd (cc)
may_if false true e = refl
may_if false false e = absurd (cc)

-- deeds of a call that sends: they write these bytes under the payload type 53
abbrev Sent : List Deed → List ℕ → Type 0
Sent ds bytes = (outs_of ds ≡ letter 53 bytes ∷ []) × (ins_of ds ≡ [])

pub sends_ok : (refusal : Option ChannelError) (bytes : List ℕ) (ds : List Deed) (n : ℕ)
    → SendsWhere refusal bytes ds (Ok n) → (refusal ≡ None) × Sent ds bytes
sends_ok (Some e) bytes ds n (none, answered) = absurd (cc)
sends_ok None bytes [] n h = absurd h
sends_ok None bytes (Deed.Opened fault ∷ ds) n h = absurd h
sends_ok None bytes (Deed.Kept fault ∷ ds) n h = absurd h
sends_ok None bytes (Deed.Wrote kind sent (Ok m) ∷ ds) n (of_kind, of_bytes, none, answered) = (
  refl,
  (
    ap (λ (k : PayloadProtocolIdentifier). letter (number_of k) sent ∷ outs_of ds) of_kind
        ∙ ap (λ (bs : List ℕ). letter 53 bs ∷ outs_of ds) of_bytes
        ∙ ap (λ (z : List Deed). letter 53 bytes ∷ outs_of z) none,
    ap ins_of none,
  ),
)
sends_ok None bytes (Deed.Wrote kind sent (Err m) ∷ ds) n (of_kind, of_bytes, none, answered) = absurd (cc)
sends_ok None bytes (Deed.Read answer ∷ ds) n h = absurd h

pub sends_err : (refusal : Option ChannelError) (bytes : List ℕ) (ds : List Deed) (e : ChannelError)
    → SendsWhere refusal bytes ds (Err e) → Stay ds
sends_err (Some own) bytes ds e (none, answered) = stay_of_none ds none
sends_err None bytes [] e h = absurd h
sends_err None bytes (Deed.Opened fault ∷ ds) e h = absurd h
sends_err None bytes (Deed.Kept fault ∷ ds) e h = absurd h
sends_err None bytes (Deed.Wrote kind sent (Ok m) ∷ ds) e (of_kind, of_bytes, none, answered) = absurd (cc)
sends_err None bytes (Deed.Wrote kind sent (Err m) ∷ ds) e (of_kind, of_bytes, none, answered) =
    (ap outs_of none, ap ins_of none)
sends_err None bytes (Deed.Read answer ∷ ds) e h = absurd h

own_bytes : (x : Side2) (bytes : List ℕ) (n : ℕ) → sent_by (steps.Send x bytes) (replies.Sent n) x ≡ bytes ∷ []
own_bytes x bytes n = ap (λ (c : Bool). if c then bytes ∷ [] else []) (is_own x)

pub send_grows : (bytes : List ℕ) (x : Side2) (a : Seat) (ds : List Deed) (r : ChannelReply) (b : Seat)
    → SendsAt bytes a ds r b → GrowsBy (steps.Send x bytes) x a ds r b
send_grows bytes x (seats.Vacant spoiled) ds r b (none, answered, same) =
    unmoved (steps.Send x bytes) x (seats.Vacant spoiled) ds r replies.NotHere b none answered same refl refl
send_grows bytes x (seats.Taken c) ds (replies.Sent n) b (sends, same) =
    let m = sends_ok (send_refusal c) bytes ds n sends in
    grows_by (seats.Taken c) b (seats.Taken c) (outs_of ds) (letter 53 bytes ∷ []) (ins_of ds) []
    (sent_by (steps.Send x bytes) (replies.Sent n) x) (bytes ∷ []) [] [] m.1.0 m.1.1 (own_bytes x bytes n) refl same
    (sent_grows c bytes (may_if c.failed (may_send c) m.0))
send_grows bytes x (seats.Taken c) ds (replies.Refused e) b (sends, same) =
    let m = sends_err (send_refusal c) bytes ds e sends in
    grows_by (seats.Taken c) b (seats.Taken c) (outs_of ds) [] (ins_of ds) [] [] [] [] [] m.0 m.1 refl refl same
    (nothing_grows (seats.Taken c))
send_grows bytes x (seats.Taken c) ds r b h = absurd h

-- `receive`

-- the message that was answered, as its bytes
abbrev got_in : Result (Option ReceivedMessage) ChannelError → List (List ℕ)
got_in (Ok (Some m)) = bytes_left m ∷ []
got_in r = []

binary_number : (kind : PayloadProtocolIdentifier) → eqb (number_of kind) 53 ≡ is_binary kind
binary_number kinds.Dcep = refl
binary_number kinds.String = refl
binary_number kinds.Binary = refl
binary_number kinds.StringEmpty = refl
binary_number kinds.BinaryEmpty = refl
binary_number kinds.Unknown = refl

abbrev Answered : Type 0
Answered = ChannelState × Result (Option ReceivedMessage) ChannelError

-- a message is answered by its payload type
sorted : (binary : Bool) (c after : ChannelState) (m : ReceivedMessage) (r : Result (Option ReceivedMessage) ChannelError)
    → (let here : Answered = (c, Ok (Some m)) in
    let fails : Answered = (with_failure c, Err faults.ErrUnexpectedMessage) in
    if binary then here else fails) ≡ (after, r)
    → ((if binary then bytes_left m ∷ [] else []) ≡ got_in r) × (may_send after ≡ may_send c)
sorted true c after m r e = (ap (λ (z : Answered). got_in z.1) e, ap (λ (z : Answered). may_send z.0) (sym e))
sorted false c after m r e = (ap (λ (z : Answered). got_in z.1) e, ap (λ (z : Answered). may_send z.0) (sym e))

-- what a read gave is answered: its data, and the channel may send as before
abbrev Gives : List Deed → ChannelState → Result (Option ReceivedMessage) ChannelError → ChannelState → Type 0
Gives ds c r after = (outs_of ds ≡ []) × (data_of (ins_of ds) ≡ got_in r) × (may_send after ≡ may_send c)

read_gives : (c after : ChannelState) (answer : Result (Option ReceivedMessage) ℕ)
    (r : Result (Option ReceivedMessage) ChannelError) → received c answer ≡ (after, r)
    → (data_of (in_of (Deed.Read answer)) ≡ got_in r) × (may_send after ≡ may_send c)
read_gives c after (Err n) r e = (ap (λ (z : Answered). got_in z.1) e, ap (λ (z : Answered). may_send z.0) (sym e))
read_gives c after (Ok None) r e = (ap (λ (z : Answered). got_in z.1) e, ap (λ (z : Answered). may_send z.0) (sym e))
read_gives c after (Ok (Some m)) r e =
    let s = sorted (is_binary m.payload_type) c after m r e in (
      ap (λ (b : Bool). if b then bytes_left m ∷ [] else []) (binary_number m.payload_type) ∙ s.0,
      s.1,
    )

-- the last read of a call
last_gives : (c after : ChannelState) (answer : Result (Option ReceivedMessage) ℕ) (ds : List Deed)
    (r : Result (Option ReceivedMessage) ChannelError) → ds ≡ [] → received c answer ≡ (after, r)
    → Gives (Deed.Read answer ∷ ds) c r after
last_gives c after answer ds r none e =
    let g = read_gives c after answer r e in (
      ap outs_of none,
      ap (λ (z : List Deed). data_of (in_of (Deed.Read answer) ++ ins_of z)) none
          ∙ ap data_of (append-nil (in_of (Deed.Read answer))) ∙ g.0,
      g.1,
    )

-- the ACK that an opener waits for is no data
awaited : (c : ChannelState) (first : Result (Option ReceivedMessage) ℕ) → is_awaited c first ≡ true
    → (data_of (in_of (Deed.Read first)) ≡ []) × (c.is_opener ≡ true)
awaited c (Err n) e = absurd (true≢false (sym e))
awaited c (Ok None) e = absurd (true≢false (sym e))
awaited c (Ok (Some m)) e =
    let both = and_parts (is_ack_message m) (c.is_opener && not c.acknowledged) e in
    let ack = and_parts (is_dcep m.payload_type) (is_ack (bytes_left m)) both.0 in
    let waits = and_parts c.is_opener (not c.acknowledged) both.1 in
    (no_data (letter_received m) [] (dcep_number m.payload_type ack.0), waits.0)

-- an opener may send
opener_may : (opener acknowledged : Bool) → opener ≡ true → (opener || true) ≡ (opener || acknowledged)
opener_may opener acknowledged e =
    ap (λ (b : Bool). b || true) e ∙ sym (ap (λ (b : Bool). b || acknowledged) e)

behind : (waits : Bool) (c after : ChannelState) (first : Result (Option ReceivedMessage) ℕ) (ds : List Deed)
    (r : Result (Option ReceivedMessage) ChannelError) → is_awaited c first ≡ waits
    → ReceivesBehind waits c first ds r after → Gives (Deed.Read first ∷ ds) c r after
behind false c after first ds r w (none, e) = last_gives c after first ds r none e
behind true c after first [] r w h = absurd h
behind true c after first (Deed.Opened fault ∷ ds) r w h = absurd h
behind true c after first (Deed.Kept fault ∷ ds) r w h = absurd h
behind true c after first (Deed.Wrote kind bytes answer ∷ ds) r w h = absurd h
behind true c after first (Deed.Read second ∷ ds) r w (none, e) =
    let a = awaited c first w in
    let l = last_gives (with_acknowledgement c) after second ds r none e in (
      l.0,
      data_append (in_of (Deed.Read first)) (ins_of (Deed.Read second ∷ ds))
          ∙ ap (λ (z : List (List ℕ)). z ++ data_of (ins_of (Deed.Read second ∷ ds))) a.0 ∙ l.1,
      l.2 ∙ opener_may c.is_opener c.acknowledged a.1,
    )

pub receives : (failed : Bool) (c after : ChannelState) (ds : List Deed)
    (r : Result (Option ReceivedMessage) ChannelError) → ReceivesWhere failed c ds r after → Gives ds c r after
receives true c after ds r (none, answered, same) = (
  ap outs_of none,
  ap (λ (z : List Deed). data_of (ins_of z)) none ∙ sym (ap got_in answered),
  ap may_send same,
)
receives false c after [] r h = absurd h
receives false c after (Deed.Opened fault ∷ ds) r h = absurd h
receives false c after (Deed.Kept fault ∷ ds) r h = absurd h
receives false c after (Deed.Wrote kind bytes answer ∷ ds) r h = absurd h
receives false c after (Deed.Read first ∷ ds) r h = behind (is_awaited c first) c after first ds r refl h

-- a call that received this
gives_grows : (c after : ChannelState) (ds : List Deed) (r : Result (Option ReceivedMessage) ChannelError)
    (got : List (List ℕ)) → got ≡ got_in r → Gives ds c r after
    → SeatGrows (seats.Taken c) (outs_of ds) (ins_of ds) [] got (seats.Taken after)
gives_grows c after ds r got same g =
    grows_by (seats.Taken c) (seats.Taken after) (seats.Taken after) (outs_of ds) [] (ins_of ds) (ins_of ds) [] [] got
    (got_in r) g.0 refl refl same refl (received_grows c after (ins_of ds) (got_in r) g.1 g.2)

own_message : (x : Side2) (message : Option ReceivedMessage)
    → got_by (steps.Receive x) (replies.Received message) x ≡ got_in (Ok message)
own_message x None = refl
own_message x (Some m) = ap (λ (c : Bool). if c then bytes_left m ∷ [] else []) (is_own x)

pub receive_grows : (x : Side2) (a : Seat) (ds : List Deed) (r : ChannelReply) (b : Seat) → ReceivesAt a ds r b
    → GrowsBy (steps.Receive x) x a ds r b
receive_grows x (seats.Vacant spoiled) ds r b (none, answered, same) =
    unmoved (steps.Receive x) x (seats.Vacant spoiled) ds r replies.NotHere b none answered same refl refl
receive_grows x (seats.Taken c) ds (replies.Received message) (seats.Taken after) h =
    gives_grows c after ds (Ok message) (got_by (steps.Receive x) (replies.Received message) x) (own_message x message)
    (receives c.failed c after ds (Ok message) h)
receive_grows x (seats.Taken c) ds (replies.Refused e) (seats.Taken after) h =
    gives_grows c after ds (Err e) [] refl (receives c.failed c after ds (Err e) h)
receive_grows x (seats.Taken c) ds r b h = absurd h
