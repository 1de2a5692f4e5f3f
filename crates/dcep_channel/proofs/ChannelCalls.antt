-- What the calls of a channel do, from what their parts do.
use Rattle.std.proofs.Common.{◌≡◌, refl, sym, ap, ◌∙◌, subst, ℕ, Bool, true, false, List, [], ◌∷◌}
use Rattle.std.proofs.Common.{Option, Some, None, Result, Ok, Err, inl, inr}
use Rattle.sctp_receive_queues.specs.Messages.{ReceivedMessage}
use Rattle.sctp_wire_types.specs.declared.ids.PayloadProtocolIdentifier.TheVariants as kinds
use Rattle.dcep_channel.specs.declared.error.ChannelError.{ChannelError}
use Rattle.dcep_channel.specs.declared.error.ChannelError.TheVariants as faults
use Rattle.dcep_channel.specs.Channels.{AcknowledgesBy, AcknowledgesWhere, BeginsWhere, BeginsWith}
use Rattle.dcep_channel.specs.Channels.{ChannelState}
use Rattle.dcep_channel.specs.Channels.{OpensAndWrites, ReceivesBehind, ReceivesBy, ReceivesWhere, SendsBy, SendsWhere}
use Rattle.dcep_channel.specs.Channels.{WritesReliably, from_beneath, is_awaited, may_send, opener, received}
use Rattle.dcep_channel.specs.Channels.{send_refusal}
use Rattle.dcep_channel.specs.Channels.{with_acknowledgement}
use Rattle.dcep_channel.specs.Codec.{ack_bytes}
use Rattle.dcep_channel.specs.Deeds.{Deed}
use Rattle.dcep_channel.specs.Faults.{Spells}

-- open

pub begins_refused : (long : Bool) (message : List ℕ) (e : ChannelError) → Spells long message (Err e)
    → BeginsWhere long message [] (Err e)
begins_refused true message e h = (refl, ap (λ (x : ChannelError). Err x) h)
begins_refused false message e h = inl (refl, h)

pub begins : (long : Bool) (message made : List ℕ) (ds : List Deed) (r : Result ChannelState ChannelError)
    → Spells long message (Ok made) → BeginsWith made ds r → BeginsWhere long message ds r
begins true message made ds r s h = absurd s
begins false message made ds (Ok c) s h =
    (h.0 ∙ ap opener s, subst (λ (m : List ℕ). OpensAndWrites m ds (Ok tt)) s h.1)
begins false message made ds (Err e) s h = inr (subst (λ (m : List ℕ). OpensAndWrites m ds (Err e)) s h)

-- what was begun with the bytes of an OPEN was begun with the OPEN

pub begun : (message bytes : List ℕ) (ds : List Deed) → bytes ≡ message → OpensAndWrites bytes ds (Ok tt)
    → OpensAndWrites message ds (Ok tt)
begun message bytes ds same h = subst (λ (m : List ℕ). OpensAndWrites m ds (Ok tt)) same h

pub begun_not : (message bytes : List ℕ) (ds : List Deed) (e : ChannelError) → bytes ≡ message
    → OpensAndWrites bytes ds (Err e) → OpensAndWrites message ds (Err e)
begun_not message bytes ds e same h = subst (λ (m : List ℕ). OpensAndWrites m ds (Err e)) same h

-- acknowledge

pub acknowledges_failed : (c : ChannelState) → c.failed ≡ true
    → AcknowledgesBy c [] (Err faults.ErrChannelFailed) c
acknowledges_failed c f =
    subst (λ (b : Bool). AcknowledgesWhere b (may_send c) c [] (Err faults.ErrChannelFailed) c)
    (sym f) (refl, refl, refl)

pub acknowledged_before : (c : ChannelState) → c.failed ≡ false → may_send c ≡ true
    → AcknowledgesBy c [] (Ok tt) c
acknowledged_before c f done =
    subst (λ (b : Bool). AcknowledgesWhere b (may_send c) c [] (Ok tt) c) (sym f)
    (subst (λ (b : Bool). AcknowledgesWhere false b c [] (Ok tt) c) (sym done) (refl, refl, refl))

pub acknowledges_now : (c after : ChannelState) (ds : List Deed) → c.failed ≡ false
    → may_send c ≡ false → WritesReliably ack_bytes ds (Ok tt) → after ≡ with_acknowledgement c
    → AcknowledgesBy c ds (Ok tt) after
acknowledges_now c after ds f done h marked =
    subst (λ (b : Bool). AcknowledgesWhere b (may_send c) c ds (Ok tt) after) (sym f)
    (subst (λ (b : Bool). AcknowledgesWhere false b c ds (Ok tt) after) (sym done) (h, marked))

pub acknowledges_not : (c : ChannelState) (ds : List Deed) (e : ChannelError) → c.failed ≡ false
    → may_send c ≡ false → WritesReliably ack_bytes ds (Err e)
    → AcknowledgesBy c ds (Err e) c
acknowledges_not c ds e f done h =
    subst (λ (b : Bool). AcknowledgesWhere b (may_send c) c ds (Err e) c) (sym f)
    (subst (λ (b : Bool). AcknowledgesWhere false b c ds (Err e) c) (sym done) (h, refl))

-- send

pub sends_not : (c : ChannelState) (bytes : List ℕ) (e : ChannelError) → send_refusal c ≡ Some e
    → SendsBy c bytes [] (Err e)
sends_not c bytes e h =
    subst (λ (x : Option ChannelError). SendsWhere x bytes [] (Err e)) (sym h) (refl, refl)

pub sends : (c : ChannelState) (bytes : List ℕ) (answer : Result ℕ ℕ) (r : Result ℕ ChannelError)
    → send_refusal c ≡ None → r ≡ from_beneath answer
    → SendsBy c bytes (Deed.Wrote kinds.Binary bytes answer ∷ []) r
sends c bytes answer r free h =
    subst (λ (x : Option ChannelError). SendsWhere x bytes (Deed.Wrote kinds.Binary bytes answer ∷ []) r)
    (sym free) (refl, refl, refl, h)

-- receive

pub receives_failed : (c : ChannelState) → c.failed ≡ true → ReceivesBy c [] (Err faults.ErrChannelFailed) c
receives_failed c f =
    subst (λ (b : Bool). ReceivesWhere b c [] (Err faults.ErrChannelFailed) c) (sym f) (refl, refl, refl)

pub receives_once : (c after : ChannelState) (first : Result (Option ReceivedMessage) ℕ)
    (r : Result (Option ReceivedMessage) ChannelError) → c.failed ≡ false → is_awaited c first ≡ false
    → received c first ≡ (after, r) → ReceivesBy c (Deed.Read first ∷ []) r after
receives_once c after first r f a e =
    subst (λ (b : Bool). ReceivesWhere b c (Deed.Read first ∷ []) r after) (sym f)
    (subst (λ (b : Bool). ReceivesBehind b c first [] r after) (sym a) (refl, e))

pub receives_twice : (c marked after : ChannelState) (first second : Result (Option ReceivedMessage) ℕ)
    (r : Result (Option ReceivedMessage) ChannelError) → c.failed ≡ false → is_awaited c first ≡ true
    → marked ≡ with_acknowledgement c → received marked second ≡ (after, r)
    → ReceivesBy c (Deed.Read first ∷ Deed.Read second ∷ []) r after
receives_twice c marked after first second r f a m e =
    subst (λ (b : Bool). ReceivesWhere b c (Deed.Read first ∷ Deed.Read second ∷ []) r after) (sym f)
    (subst (λ (b : Bool). ReceivesBehind b c first (Deed.Read second ∷ []) r after) (sym a)
    (refl, ap (λ (x : ChannelState). received x second) (sym m) ∙ e))
