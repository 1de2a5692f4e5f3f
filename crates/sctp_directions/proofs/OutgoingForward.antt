-- The FORWARD TSN that an association makes is the one that its direction makes.
use Rattle.std.proofs.Common.{◌≡◌, refl, sym, ap, ◌∙◌, ℕ, ◌+◌, ◌-◌, ◌%◌, ◌^◌, arith, length, take}
use Rattle.std.proofs.Common.{None, subst}
use Rattle.std.specs.Prelude.{slice_get}
use Rattle.std.specs.Option.{option_to_list}
use Rattle.sctp_outbound_queue.specs.Outbound.{Outbound, abandoned_in_front_of, tsn_at}
use Rattle.sctp_outbound.specs.declared.sender.Sender.{Sender}
use Rattle.sctp_outbound.specs.Forward.{abandoned_front, forward_of}
use Rattle.sctp_model.specs.Packets.{Forward}
use Rattle.sctp_model.specs.Machine.{Direction, Event, happens}
use Rattle.sctp_serial.specs.Serial.{tsn}
use Rattle.sctp_fit.specs.Forwards.{IsForwardOf, IsForwardSaid, last_ordered}
use Rattle.sctp_fit.specs.Incoming.{tsn_before}
use Rattle.sctp_fit.proofs.ForwardTold.{pairs_tell_the_last}
use Rattle.sctp_fit.proofs.FrontAlike as front
use Rattle.sctp_directions.specs.Acts.{Parts, sending}
use Rattle.sctp_directions.specs.Laws.{ForwardsPassOverTheFront, ItsForwardsSayTheSame}
use Rattle.sctp_directions.proofs.IncomingReports.{pushed_last}
use Rattle.sctp_directions.proofs.SenderCases.{forward_made_cases}

-- the TSN before the one that so many pieces past the first have, in offsets
front_tsn : (own base n first : ℕ) → first ≡ tsn own base
    → (tsn_at first n + 2 ^ 32 - 1) % 2 ^ 32 ≡ tsn_before (tsn own (base + n))
front_tsn own base n first e = omega (arith, e)

-- what the chunk says is what the direction's says
said : (p : Parts) (s : Sender) (w : Direction) (f : Forward) → s.queue ≡ p.queue
    → p.queue.first_tsn ≡ tsn p.history.own p.history.base → IsForwardOf (sending p) w f
    → IsForwardSaid w.over p.history.own (forward_of s) f
said p s w f same first is = record {
  reach =
      ap (λ (q : Outbound). (tsn_at q.first_tsn (abandoned_in_front_of q.in_flight) + 2 ^ 32 - 1) % 2 ^ 32) same
      ∙ front_tsn p.history.own p.history.base (abandoned_in_front_of p.queue.in_flight) p.queue.first_tsn first
      ∙ ap (λ z. tsn_before (tsn p.history.own z)) (sym is.reach);
  streams = λ n v.
      pairs_tell_the_last n (abandoned_front s)
      ∙ ap (λ (q : Outbound). option_to_list
      (last_ordered n (take (abandoned_in_front_of q.in_flight) q.in_flight) None)) same
      ∙ ap option_to_list (sym (is.streams n v));
}

-- A FORWARD TSN that is made ends no span.
spans_stay : (w : Direction) → (happens w Event.ForwardMade).over ≡ w.over
spans_stay w = forward_made_cases (λ (v : Direction). v.over ≡ w.over) w refl refl

-- It passes over the abandoned pieces in front.
pub forwards_pass_over_the_front : ForwardsPassOverTheFront
forwards_pass_over_the_front p w f =
    sym (front.front_alike f.named w.sender w.sender.reach p.queue.in_flight f.flight)

-- An association makes a FORWARD TSN: so does the direction, and it is that one.
pub its_forwards_say_the_same : ItsForwardsSayTheSame
its_forwards_say_the_same p s w some same first f =
    let r = front.forwards_say_the_same (sending p) w some f in
    let is = r.1.1 in (
      r.0,
      (
        length w.forwards,
        r.1.0,
        ap (λ fs. slice_get fs (length w.forwards)) is.made ∙ pushed_last w.forwards r.1.0,
        subst (λ over. IsForwardSaid over p.history.own (forward_of s) r.1.0) (sym (spans_stay w))
            (said p s w r.1.0 same first is),
      ),
    )
