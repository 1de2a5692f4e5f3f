-- From each world of a channel that a pair with it fits, its steps lead on, and what was received stays a front of what
-- was sent.
use Rattle.std.proofs.Common.{◌≡◌, refl, sym, ap, subst, ◌⊎◌, ℕ, Bool, true, false, eqb, ◌&&◌, if◌then◌else◌, List, []}
use Rattle.std.proofs.Common.{◌∷◌, Option, Some, None}
use Rattle.sctp_wire_types.specs.declared.ids.PayloadProtocolIdentifier.{PayloadProtocolIdentifier}
use Rattle.sctp_receive_queues.specs.Messages.{ReceivedMessage}
use Rattle.sctp_streams.specs.Streams.{stream_at}
use Rattle.sctp_assoc.specs.Calls.{first_filled}
use Rattle.sctp_assoc.specs.declared.call.Reply.{Reply}
use Rattle.sctp_assoc.specs.declared.call.Reply.TheVariants as answers
use Rattle.sctp_steps.specs.declared.step.Side2.{Side2}
use Rattle.sctp_steps.specs.declared.step.Side2.TheVariants as sides
use Rattle.sctp_steps.specs.declared.step.Step.{Step}
use Rattle.sctp_steps.specs.declared.step.Step.TheVariants as calls
use Rattle.sctp_steps.specs.Ends.{Ends, end_of}
use Rattle.sctp_steps.specs.Seen.{is_side, message_answered, message_read, other_side}
use Rattle.sctp_pair.specs.Fits.{Fits, StandsIn}
use Rattle.sctp_pair.specs.World.{IsWorldStep, World, accepted_at, accepted_of, ends_span, is_loose, loosens}
use Rattle.sctp_pair.specs.World.{messages_on}
use Rattle.sctp_pair.proofs.AcceptedAndRead.{writes}
use Rattle.dcep_channel.specs.Deeds.{Deed}
use Rattle.channel_pair.specs.declared.seat.Seat.{Seat}
use Rattle.channel_pair.specs.declared.step.ChannelStep.{ChannelStep}
use Rattle.channel_pair.specs.declared.step.ChannelStep.TheVariants as steps
use Rattle.channel_pair.specs.declared.step.ChannelReply.{ChannelReply}
use Rattle.channel_pair.specs.declared.step.ChannelReply.TheVariants as replies
use Rattle.channel_pair.specs.ChannelWorld.{ChannelWorld, FitsChannel, FitsOn}
use Rattle.channel_pair.specs.Names.{names}
use Rattle.channel_pair.specs.PairDeeds.{DoesSome}
use Rattle.channel_pair.specs.Promise.{AreDoneFor, AreFronts, AreOfCall, LeadsChannel, RunsChannel, got_by, grown}
use Rattle.channel_pair.specs.Promise.{may_write, sent_by}
use Rattle.channel_pair.specs.Seats.{AcceptsAt, AcknowledgesAt, OpensAt, ReceivesAt, SendsAt}
use Rattle.channel_pair.specs.Shapes.{Shape, seat_of}
use Rattle.channel_pair.specs.Steps.{AtSeat, RunsAll, StepsChannel, StepsPair, failed_at}
use Rattle.channel_pair.proofs.CallsWrite.{WritesAtMost, accept_writes, acknowledge_writes, open_writes, receive_writes}
use Rattle.channel_pair.proofs.CallsWrite.{send_writes}
use Rattle.channel_pair.proofs.DeedsLead.{Grew, deeds_done, ins_of, lead_map, outs_of}
use Rattle.channel_pair.proofs.Fronts.{fronts_of}
use Rattle.channel_pair.proofs.SeatCalls.{accept_grows, acknowledge_grows, open_grows, receive_grows, send_grows}
use Rattle.channel_pair.proofs.SeatsGrow.{SeatGrows, call_fits, idle_fits}
use Rattle.channel_pair.proofs.StreamSteps.{in_stays, kept_on, not_there, out_stays}

-- A call of a channel

-- a call of side x, whichever side that is
pub record Called (x : Side2) (p : Shape) (Changes : List Deed → Seat → Seat → Type 0) (q : Shape) : Type 0 where
  pub some : DoesSome x p.id p.pair q.pair (λ ds. Changes ds (seat_of x p) (seat_of x q))
  pub other : seat_of (other_side x) q ≡ seat_of (other_side x) p
  pub id_is : q.id ≡ p.id

called : (x : Side2) (p : Shape) (Changes : List Deed → Seat → Seat → Type 0) (q : Shape) → AtSeat x p Changes q
    → Called x p Changes q
called sides.A p Changes q (some, is) =
    record { some = some; other = ap (λ (z : Shape). z.b) is; id_is = ap (λ (z : Shape). z.id) is }
called sides.B p Changes q (some, is) =
    record { some = some; other = ap (λ (z : Shape). z.a) is; id_is = ap (λ (z : Shape). z.id) is }

-- A step s at side x, with reply r, is a call of a channel.
module _ (x : Side2) (s : ChannelStep) (r : ChannelReply) (p q : Shape)
    (Changes : List Deed → Seat → Seat → Type 0) where
  call_leads : AtSeat x p Changes q → sent_by s r (other_side x) ≡ [] → got_by s r (other_side x) ≡ []
      → ((ds : List Deed) (a b : Seat) → Changes ds a b
      → SeatGrows a (outs_of ds) (ins_of ds) (sent_by s r x) (got_by s r x) b)
      → ((ds : List Deed) (a b : Seat) → Changes ds a b → WritesAtMost ds (may_write s r))
      → ((done : List (Step × Reply)) → AreOfCall x p.id s r done → AreDoneFor p.id s r done)
      → (c : ChannelWorld) → FitsChannel p c → LeadsChannel p.id s r c q
  call_leads at no_sent no_got grows writes are_done c f =
      let call = called x p Changes q at in
      let ds = call.some.0 in
      let led = deeds_done x p.id ds p.pair q.pair call.some.1 in (
        led.done,
        are_done led.done (
          led.of_port,
          subst (λ (z : List (List ℕ)). (z ≡ []) ⊎ (z ≡ may_write s r)) (sym led.wrote)
              (writes ds (seat_of x p) (seat_of x q) call.some.2),
        ),
        lead_map led.done c.world (λ v. Fits q.pair v × Grew x p.id ds c.world v)
            (λ v. AreFronts (grown s r c v) × FitsChannel q (grown s r c v))
            (λ v h.
            let fit =
            call_fits p.id p q s r c v f h.0 x ds h.1 call.other no_sent no_got
            (grows ds (seat_of x p) (seat_of x q) call.some.2) in (
              fronts_of p.id q (grown s r c v) fit,
              subst (λ (id : ℕ). FitsOn id q (grown s r c v)) (sym call.id_is) fit,
            ))
            (led.lead c.world f.fits f.kept),
      )

sent_elsewhere : (x : Side2) (bytes : List ℕ) (r : ChannelReply) → sent_by (steps.Send x bytes) r (other_side x) ≡ []
sent_elsewhere sides.A bytes (replies.Sent n) = refl
sent_elsewhere sides.B bytes (replies.Sent n) = refl
sent_elsewhere x bytes r = refl

got_elsewhere : (x : Side2) (r : ChannelReply) → got_by (steps.Receive x) r (other_side x) ≡ []
got_elsewhere sides.A (replies.Received (Some m)) = refl
got_elsewhere sides.B (replies.Received (Some m)) = refl
got_elsewhere x r = refl

-- A step of the pair that does not name the channel's stream

and_none : (a b : Bool) → b ≡ false → (a && b) ≡ false
and_none true b e = e
and_none false b e = refl

-- a write of stream i accepts nothing on another one
not_accepted : (side y : Side2) (i id : ℕ) (named : Option PayloadProtocolIdentifier) (bytes : List ℕ) (r : Reply)
    (w : World) → eqb i id ≡ false → accepted_of (writes side i named bytes) r y id w ≡ []
not_accepted side y i id named bytes (answers.Wrote n) w e =
    ap (λ (c : Bool). if c then messages_on (stream_at (end_of y w.ends).streams i) named bytes else [])
    (and_none (is_side side y) (eqb i id) e)
not_accepted side y i id named bytes r w e = refl

not_answered : (side y : Side2) (i id : ℕ) (r : Reply) → eqb i id ≡ false
    → message_answered (Some (side, i)) r y id ≡ None
not_answered side y i id (answers.Read m) e =
    ap (λ (c : Bool). if c then m else None) (and_none (is_side side y) (eqb i id) e)
not_answered side y i id r e = refl

accepts_nothing : (a : Step) (r : Reply) (y : Side2) (id : ℕ) (w : World) → names a id ≡ false
    → accepted_at a r y id w ≡ []
accepts_nothing (calls.Write side i bytes) r y id w e = not_accepted side y i id None bytes r w e
accepts_nothing (calls.WriteWithPpi side i bytes kind) r y id w e = not_accepted side y i id (Some kind) bytes r w e
accepts_nothing (calls.WriteSctp side i bytes kind) r y id w e = not_accepted side y i id (Some kind) bytes r w e
accepts_nothing (calls.WriteChunk side i bytes) r y id w e = not_accepted side y i id None bytes r w e
accepts_nothing (calls.WriteChunks side i chunks) r y id w e =
    not_accepted side y i id None (first_filled chunks.items) r w e
accepts_nothing a r y id w e = refl

reads_nothing : (a : Step) (r : Reply) (y : Side2) (id : ℕ) → names a id ≡ false → message_read a r y id ≡ None
reads_nothing (calls.Read side i) r y id e = not_answered side y i id r e
reads_nothing (calls.ReadSctp side i) r y id e = not_answered side y i id r e
reads_nothing a r y id e = refl

loosens_nothing : (a : Step) (r : Reply) (y : Side2) (id : ℕ) → names a id ≡ false → loosens a r y id ≡ false
loosens_nothing (calls.SetReliabilityParams side i unordered kind value) answers.Done y id e =
    and_none (is_side side y) (eqb i id && is_loose unordered kind)
    (ap (λ (b : Bool). b && is_loose unordered kind) e)
loosens_nothing a r y id e = refl

ends_nothing : (a : Step) (r : Reply) (id : ℕ) → names a id ≡ false → ends_span a r id ≡ false
ends_nothing (calls.Stop side i) answers.Done id e = e
ends_nothing (calls.CloseStream side i) answers.Done id e = e
ends_nothing a r id e = refl

seats_stay : (p q : Shape) → q ≡ record p { pair = q.pair } → (y : Side2)
    → seat_of y q ≡ seat_of y p
seats_stay p q is sides.A = ap (λ (z : Shape). z.a) is
seats_stay p q is sides.B = ap (λ (z : Shape). z.b) is

pair_leads : (a : Step) (p : Shape) (r : ChannelReply) (q : Shape) → StepsPair a p r q → (c : ChannelWorld)
    → FitsChannel p c → LeadsChannel p.id (steps.OfPair a) r c q
pair_leads a p replies.NotHere q (named, same) c f =
    let fit =
    idle_fits p.id p q (steps.OfPair a) replies.NotHere c c.world f
    (subst (λ (z : Shape). Fits z.pair c.world) (sym same) f.fits) f.kept (λ y. refl) (λ y. refl)
    (λ y. ap (seat_of y) same) (λ y. refl) (λ y. refl) in (
      [],
      refl,
      (
        fronts_of p.id q (grown (steps.OfPair a) replies.NotHere c c.world) fit,
        subst (λ (id : ℕ). FitsOn id q (grown (steps.OfPair a) replies.NotHere c c.world))
            (sym (ap (λ (z : Shape). z.id) same)) fit,
      ),
    )
pair_leads a p (replies.OfPair answer) q (unnamed, on, is) c f =
    let l = on.1 c.world f.fits in (
      (a, answer) ∷ [],
      refl,
      (
        l.0,
        l.1,
        subst (λ (z : Ends). StandsIn z l.0) l.2.is l.2,
        λ within.
            let fit =
            idle_fits p.id p q (steps.OfPair a) (replies.OfPair answer) c l.0 f
            (record { within = within; stand = l.2 })
            (λ y. kept_on a answer c.world l.0 l.1 y p.id (ends_nothing a answer p.id unnamed)
            (loosens_nothing a answer y p.id unnamed) (f.kept y))
            (λ y. out_stays a answer c.world l.0 l.1 y p.id (accepts_nothing a answer y p.id c.world unnamed))
            (λ y. in_stays a answer c.world l.0 l.1 y p.id (reads_nothing a answer y p.id unnamed))
            (seats_stay p q is) (λ y. refl) (λ y. refl) in (
              l.3 within,
              (
                fronts_of p.id q (grown (steps.OfPair a) (replies.OfPair answer) c l.0) fit,
                subst (λ (id : ℕ). FitsOn id q (grown (steps.OfPair a) (replies.OfPair answer) c l.0))
                    (sym (ap (λ (z : Shape). z.id) is)) fit,
              ),
            ),
      ),
    )
pair_leads a p r q h c f = absurd h

-- Each step

pub step_leads : (s : ChannelStep) (p : Shape) (r : ChannelReply) (q : Shape) → StepsChannel s p r q
    → (c : ChannelWorld) → FitsChannel p c → LeadsChannel p.id s r c q
step_leads (steps.Open x priority label protocol) p r q h c f =
    call_leads x (steps.Open x priority label protocol) r p q
    (λ ds a b. OpensAt (failed_at x p) priority label protocol a ds r b) h refl refl
    (λ ds a b change. open_grows (failed_at x p) priority label protocol x a ds r b change)
    (λ ds a b change. open_writes (failed_at x p) priority label protocol x a ds r b change) (λ done of_call. of_call)
    c f
step_leads (steps.Accept x) p r q h c f =
    call_leads x (steps.Accept x) r p q (λ ds a b. AcceptsAt a ds r b) h refl refl
    (λ ds a b change. accept_grows x a ds r b change) (λ ds a b change. accept_writes x a ds r b change)
    (λ done of_call. of_call) c f
step_leads (steps.Acknowledge x) p r q h c f =
    call_leads x (steps.Acknowledge x) r p q (λ ds a b. AcknowledgesAt a ds r b) h refl refl
    (λ ds a b change. acknowledge_grows x a ds r b change) (λ ds a b change. acknowledge_writes x a ds r b change)
    (λ done of_call. of_call) c f
step_leads (steps.Send x bytes) p r q h c f =
    call_leads x (steps.Send x bytes) r p q (λ ds a b. SendsAt bytes a ds r b) h (sent_elsewhere x bytes r) refl
    (λ ds a b change. send_grows bytes x a ds r b change) (λ ds a b change. send_writes bytes x a ds r b change)
    (λ done of_call. of_call) c f
step_leads (steps.Receive x) p r q h c f =
    call_leads x (steps.Receive x) r p q (λ ds a b. ReceivesAt a ds r b) h refl (got_elsewhere x r)
    (λ ds a b change. receive_grows x a ds r b change) (λ ds a b change. receive_writes x a ds r b change)
    (λ done of_call. of_call) c f
step_leads (steps.OfPair a) p r q h c f = pair_leads a p r q h c f

-- Rows of steps

-- the channel's stream stays the same
id_stays : (s : ChannelStep) (p : Shape) (r : ChannelReply) (q : Shape) → StepsChannel s p r q → q.id ≡ p.id
id_stays (steps.Open x priority label protocol) p r q h =
    (called x p (λ ds a b. OpensAt (failed_at x p) priority label protocol a ds r b) q h).id_is
id_stays (steps.Accept x) p r q h = (called x p (λ ds a b. AcceptsAt a ds r b) q h).id_is
id_stays (steps.Acknowledge x) p r q h = (called x p (λ ds a b. AcknowledgesAt a ds r b) q h).id_is
id_stays (steps.Send x bytes) p r q h = (called x p (λ ds a b. SendsAt bytes a ds r b) q h).id_is
id_stays (steps.Receive x) p r q h = (called x p (λ ds a b. ReceivesAt a ds r b) q h).id_is
id_stays (steps.OfPair a) p replies.NotHere q (named, same) = ap (λ (z : Shape). z.id) same
id_stays (steps.OfPair a) p (replies.OfPair answer) q (unnamed, on, is) = ap (λ (z : Shape). z.id) is
id_stays (steps.OfPair a) p r q h = absurd h

pub runs_lead : (ss : List ChannelStep) (rs : List ChannelReply) (p q : Shape) → RunsAll ss rs p q
    → (c : ChannelWorld) → FitsChannel p c → RunsChannel p.id ss rs c q
runs_lead [] [] p q e c f = subst (λ (z : Shape). FitsChannel z c) (sym e) f
runs_lead (s ∷ ss) (r ∷ rs) p q (u, first, rest) c f =
    let l = step_leads s p r u first c f in (
      l.0,
      l.1,
      lead_map l.0 c.world (λ v. AreFronts (grown s r c v) × FitsChannel u (grown s r c v))
          (λ v. AreFronts (grown s r c v) × RunsChannel p.id ss rs (grown s r c v) q)
          (λ v h. (
            h.0,
            subst (λ (id : ℕ). RunsChannel id ss rs (grown s r c v) q) (id_stays s p r u first)
                (runs_lead ss rs u q rest (grown s r c v) h.1),
          ))
          l.2,
    )
runs_lead [] (r ∷ rs) p q h c f = absurd h
runs_lead (s ∷ ss) [] p q h c f = absurd h
