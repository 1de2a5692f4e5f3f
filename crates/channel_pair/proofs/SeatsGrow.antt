-- How what a side wrote and read grows by a step, and that the pair with its channel fits the world that the step led to.
use Rattle.std.proofs.Common.{◌≡◌, refl, sym, ap, ◌∙◌, subst, ℕ, Bool, true, false, List, [], ◌∷◌, ◌++◌}
use Rattle.std.specs.Prelude.{◌||◌}
use Rattle.std.proofs.lemmas.List.{append-nil}
use Rattle.sctp_model.specs.Safe.{Letter}
use Rattle.sctp_steps.specs.declared.step.Side2.{Side2}
use Rattle.sctp_steps.specs.declared.step.Side2.TheVariants as sides
use Rattle.sctp_steps.specs.Seen.{other_side}
use Rattle.sctp_pair.specs.Fits.{Fits}
use Rattle.sctp_pair.specs.World.{World}
use Rattle.sctp_pair.proofs.Promised.{safe_world}
use Rattle.dcep_channel.specs.Channels.{ChannelState, may_send}
use Rattle.dcep_channel.specs.Deeds.{Deed}
use Rattle.channel_pair.specs.declared.seat.Seat.{Seat}
use Rattle.channel_pair.specs.declared.seat.Seat.TheVariants as seats
use Rattle.channel_pair.specs.declared.step.ChannelStep.{ChannelStep}
use Rattle.channel_pair.specs.declared.step.ChannelReply.{ChannelReply}
use Rattle.channel_pair.specs.ChannelWorld.{ChannelWorld, FitsOn, GotBy, IsKeptFrom, WroteBy, may_send_from}
use Rattle.channel_pair.specs.Letters.{data_of, letter, letters_in, letters_out}
use Rattle.channel_pair.specs.Promise.{got_by, grown, sent_by}
use Rattle.channel_pair.specs.Shapes.{Shape, seat_of}
use Rattle.channel_pair.proofs.DeedsLead.{Grew, ins_of, outs_of}
use Rattle.channel_pair.proofs.Fronts.{comes_to}
use Rattle.channel_pair.proofs.Lists.{MayCome, data_append, none_before, wrote_comes, wrote_control, wrote_data}
use Rattle.channel_pair.proofs.Lists.{wrote_nothing}

-- A seat changes so where its side writes and reads these messages, and sends and receives that.
pub record SeatGrows (a : Seat) (outs ins : List Letter) (sent got : List (List ℕ)) (b : Seat) : Type 0 where
  pub wrote : (out : List Letter) (before : List (List ℕ)) → WroteBy (may_send_from a) out before
      → WroteBy (may_send_from b) (out ++ outs) (before ++ sent)
  pub reads : (inward : List Letter) (before : List (List ℕ)) → MayCome (inward ++ ins) → GotBy a inward before
      → GotBy b (inward ++ ins) (before ++ got)

-- the same along equations
pub grows_by : (a b b2 : Seat) (outs outs2 ins ins2 : List Letter) (sent sent2 got got2 : List (List ℕ)) → outs ≡ outs2
    → ins ≡ ins2 → sent ≡ sent2 → got ≡ got2 → b ≡ b2 → SeatGrows a outs2 ins2 sent2 got2 b2
    → SeatGrows a outs ins sent got b
grows_by a b b2 outs outs2 ins ins2 sent sent2 got got2 of_outs of_ins of_sent of_got of_seat h =
    subst (λ (z : List Letter). SeatGrows a z ins sent got b) (sym of_outs)
    (subst (λ (z : List Letter). SeatGrows a outs2 z sent got b) (sym of_ins)
    (subst (λ (z : List (List ℕ)). SeatGrows a outs2 ins2 z got b) (sym of_sent)
    (subst (λ (z : List (List ℕ)). SeatGrows a outs2 ins2 sent2 z b) (sym of_got)
    (subst (λ (z : Seat). SeatGrows a outs2 ins2 sent2 got2 z) (sym of_seat) h))))

got_nothing : (a : Seat) (ins : List Letter) (got : List (List ℕ)) → GotBy a ins got → GotBy a (ins ++ []) (got ++ [])
got_nothing a ins got h =
    subst (λ (z : List Letter). GotBy a z (got ++ [])) (sym (append-nil ins))
    (subst (λ (z : List (List ℕ)). GotBy a ins z) (sym (append-nil got)) h)

pub nothing_grows : (a : Seat) → SeatGrows a [] [] [] [] a
nothing_grows a = record {
  wrote = λ out before h. wrote_nothing (may_send_from a) out before h;
  reads = λ inward before come h. got_nothing a inward before h;
}

-- a side without a channel received nothing
vacant_got : (spoiled : Bool) (ins : List Letter) (got : List (List ℕ)) → GotBy (seats.Vacant spoiled) ins got
    → got ≡ []
vacant_got true ins got h = h
vacant_got false ins got h = h.1

-- an OPEN is written at a side where nothing was read
pub opened_grows : (c : ChannelState) (message : List ℕ)
    → SeatGrows (seats.Vacant false) (letter 50 message ∷ []) [] [] [] (seats.Taken c)
opened_grows c message = record {
  wrote = λ out before h. wrote_control (may_send c) out before message h;
  reads = λ inward before come h.
      append-nil before ∙ h.1 ∙ sym (ap data_of (append-nil inward ∙ h.0));
}

-- a message of DCEP is read for a channel that may not send yet
pub accepted_grows : (spoiled : Bool) (c : ChannelState) (message : List ℕ) → may_send c ≡ false
    → SeatGrows (seats.Vacant spoiled) [] (letter 50 message ∷ []) [] [] (seats.Taken c)
accepted_grows spoiled c message waits = record {
  wrote = λ out before h.
      subst (λ (m : Bool). WroteBy m (out ++ []) (before ++ [])) (sym waits) (wrote_nothing false out before h);
  reads = λ inward before come h.
      append-nil before ∙ vacant_got spoiled inward before h ∙ sym (none_before inward message come);
}

-- A message may be read that makes no channel, which spoils the side.
spoiled_got : (spoiled spoils : Bool) (ins : List Letter) → (spoils ≡ false → ins ≡ []) → (inward : List Letter)
    (got : List (List ℕ)) → GotBy (seats.Vacant spoiled) inward got
    → GotBy (seats.Vacant (spoiled || spoils)) (inward ++ ins) (got ++ [])
spoiled_got true spoils ins none inward got h = append-nil got ∙ h
spoiled_got false true ins none inward got h = append-nil got ∙ h.1
spoiled_got false false ins none inward got h =
    (ap (λ (z : List Letter). inward ++ z) (none refl) ∙ append-nil inward ∙ h.0, append-nil got ∙ h.1)

pub refused_grows : (spoiled spoils : Bool) (ins : List Letter) → (spoils ≡ false → ins ≡ [])
    → SeatGrows (seats.Vacant spoiled) [] ins [] [] (seats.Vacant (spoiled || spoils))
refused_grows spoiled spoils ins none = record {
  wrote = λ out before h. wrote_nothing false out before h;
  reads = λ inward before come h. spoiled_got spoiled spoils ins none inward before h;
}

-- ACK is written on a channel that may not send yet
pub acknowledged_grows : (c after : ChannelState) (message : List ℕ) → may_send c ≡ false
    → SeatGrows (seats.Taken c) (letter 50 message ∷ []) [] [] [] (seats.Taken after)
acknowledged_grows c after message waits = record {
  wrote = λ out before h.
      wrote_control (may_send after) out before message (subst (λ (m : Bool). WroteBy m out before) waits h);
  reads = λ inward before come h. got_nothing (seats.Taken c) inward before h;
}

-- data is sent on a channel that may send
pub sent_grows : (c : ChannelState) (bytes : List ℕ) → may_send c ≡ true
    → SeatGrows (seats.Taken c) (letter 53 bytes ∷ []) [] (bytes ∷ []) [] (seats.Taken c)
sent_grows c bytes may = record {
  wrote = λ out before h.
      subst (λ (m : Bool). WroteBy m (out ++ letter 53 bytes ∷ []) (before ++ bytes ∷ [])) (sym may)
      (wrote_data out before bytes (subst (λ (m : Bool). WroteBy m out before) may h));
  reads = λ inward before come h. got_nothing (seats.Taken c) inward before h;
}

-- the data of what is read is received
pub received_grows : (c after : ChannelState) (ins : List Letter) (got : List (List ℕ)) → data_of ins ≡ got
    → may_send after ≡ may_send c → SeatGrows (seats.Taken c) [] ins [] got (seats.Taken after)
received_grows c after ins got same may = record {
  wrote = λ out before h.
      subst (λ (m : Bool). WroteBy m (out ++ []) (before ++ [])) (sym may)
      (wrote_nothing (may_send c) out before h);
  reads = λ inward before come h.
      ap (λ (z : List (List ℕ)). z ++ got) h ∙ ap (λ (z : List (List ℕ)). data_of inward ++ z) (sym same)
      ∙ sym (data_append inward ins);
}

-- Worlds

-- what holds of a side and of the other one holds of both
by_side : (x : Side2) (P : Side2 → Type 0) → P x → P (other_side x) → (y : Side2) → P y
by_side sides.A P here there sides.A = here
by_side sides.A P here there sides.B = there
by_side sides.B P here there sides.A = there
by_side sides.B P here there sides.B = here

wrote_still : (a b : Seat) (out out2 : List Letter) (sent more : List (List ℕ)) → b ≡ a → out2 ≡ out → more ≡ []
    → WroteBy (may_send_from a) out sent → WroteBy (may_send_from b) out2 (sent ++ more)
wrote_still a b out out2 sent more of_seat of_out none h =
    subst (λ (z : Seat). WroteBy (may_send_from z) out2 (sent ++ more)) (sym of_seat)
    (subst (λ (z : List Letter). WroteBy (may_send_from a) z (sent ++ more)) (sym of_out)
    (subst (λ (z : List (List ℕ)). WroteBy (may_send_from a) out z)
    (sym (ap (λ (z : List (List ℕ)). sent ++ z) none ∙ append-nil sent)) h))

got_still : (a b : Seat) (ins ins2 : List Letter) (got more : List (List ℕ)) → b ≡ a → ins2 ≡ ins → more ≡ []
    → GotBy a ins got → GotBy b ins2 (got ++ more)
got_still a b ins ins2 got more of_seat of_ins none h =
    subst (λ (z : Seat). GotBy z ins2 (got ++ more)) (sym of_seat)
    (subst (λ (z : List Letter). GotBy a z (got ++ more)) (sym of_ins)
    (subst (λ (z : List (List ℕ)). GotBy a ins z) (sym (ap (λ (z : List (List ℕ)). got ++ z) none ∙ append-nil got))
    h))

-- A step s with reply r led from p, which fitted the world of c, to q, and from that world to v.
module _ (id : ℕ) (p q : Shape) (s : ChannelStep) (r : ChannelReply) (c : ChannelWorld) (v : World)
    (f : FitsOn id p c) (fits : Fits q.pair v) where
  -- one that touches neither seats nor the stream
  pub idle_fits : ((y : Side2) → IsKeptFrom y id v) → ((y : Side2) → letters_out y id v ≡ letters_out y id c.world)
      → ((y : Side2) → letters_in y id v ≡ letters_in y id c.world) → ((y : Side2) → seat_of y q ≡ seat_of y p)
      → ((y : Side2) → sent_by s r y ≡ []) → ((y : Side2) → got_by s r y ≡ []) → FitsOn id q (grown s r c v)
  idle_fits kept outs ins seat no_sent no_got = record {
    fits = fits;
    kept = kept;
    wrote = λ y.
        wrote_still (seat_of y p) (seat_of y q) (letters_out y id c.world) (letters_out y id v) (c.sent y)
        (sent_by s r y) (seat y) (outs y) (no_sent y) (f.wrote y);
    got = λ y.
        got_still (seat_of y p) (seat_of y q) (letters_in y id c.world) (letters_in y id v) (c.got y) (got_by s r y)
        (seat y) (ins y) (no_got y) (f.got y);
  }

  -- a call of a channel at side x, by these deeds
  module _ (x : Side2) (ds : List Deed) (g : Grew x id ds c.world v) where
    -- what comes to side x after it
    comes_on : MayCome (letters_in x id c.world ++ ins_of ds)
    comes_on =
        let o = other_side x in
        subst MayCome g.ins
        (wrote_comes (may_send_from (seat_of o p)) (letters_in x id v) (letters_out o id v) (c.sent o)
        (subst (λ (z : List Letter). WroteBy (may_send_from (seat_of o p)) z (c.sent o)) (sym g.out_there) (f.wrote o))
        (comes_to x id v (safe_world q.pair v fits) (g.kept o)))

    pub call_fits : seat_of (other_side x) q ≡ seat_of (other_side x) p → sent_by s r (other_side x) ≡ []
        → got_by s r (other_side x) ≡ []
        → SeatGrows (seat_of x p) (outs_of ds) (ins_of ds) (sent_by s r x) (got_by s r x) (seat_of x q)
        → FitsOn id q (grown s r c v)
    call_fits same no_sent no_got grows =
        let o = other_side x in
        record {
          fits = fits;
          kept = g.kept;
          wrote =
              by_side x (λ y. WroteBy (may_send_from (seat_of y q)) (letters_out y id v) (c.sent y ++ sent_by s r y))
              (subst (λ (z : List Letter). WroteBy (may_send_from (seat_of x q)) z (c.sent x ++ sent_by s r x)) (sym g.out)
              (grows.wrote (letters_out x id c.world) (c.sent x) (f.wrote x)))
              (wrote_still (seat_of o p) (seat_of o q) (letters_out o id c.world) (letters_out o id v) (c.sent o)
              (sent_by s r o) same g.out_there no_sent (f.wrote o));
          got =
              by_side x (λ y. GotBy (seat_of y q) (letters_in y id v) (c.got y ++ got_by s r y))
              (subst (λ (z : List Letter). GotBy (seat_of x q) z (c.got x ++ got_by s r x)) (sym g.ins)
              (grows.reads (letters_in x id c.world) (c.got x) comes_on (f.got x)))
              (got_still (seat_of o p) (seat_of o q) (letters_in o id c.world) (letters_in o id v) (c.got o)
              (got_by s r o) same g.ins_there no_got (f.got o));
        }
