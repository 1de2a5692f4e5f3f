-- In a world that a pair with a channel fits, what was received is a front of what was sent.
use Rattle.std.proofs.Common.{◌≡◌, sym, ap, ◌∙◌, ⊎_elim, ℕ, zero, suc, ◌<◌, arith, true, false, List, [], ◌∷◌, ◌++◌}
use Rattle.std.proofs.Common.{length, map, take, drop, get_or}
use Rattle.std.proofs.lemmas.Bool.{cases_Bool}
use Rattle.std.proofs.lemmas.List.{append-nil, append_assoc, map-append, take-append-drop}
use Rattle.std.specs.List.{AllByRecursion}
use Rattle.sctp_model.specs.Messages.{Message, is_reliable, no_message}
use Rattle.sctp_model.specs.Reassembly.{Got, ready}
use Rattle.sctp_model.specs.Machine.{Direction, live}
use Rattle.sctp_model.specs.Safe.{IsKeptOrdered, IsKeptReliable, IsSafe, Letter, letter_read, letter_written}
use Rattle.sctp_steps.specs.declared.step.Side2.{Side2}
use Rattle.sctp_steps.specs.declared.step.Side2.TheVariants as sides
use Rattle.sctp_steps.specs.Seen.{other_side}
use Rattle.sctp_pair.specs.Callers.{IsFrontOf}
use Rattle.sctp_pair.specs.World.{IsOrderedAndReliable, IsSafeWorld, World}
use Rattle.sctp_pair.proofs.Promised.{safe_world}
use Rattle.channel_pair.specs.declared.seat.Seat.{Seat}
use Rattle.channel_pair.specs.declared.seat.Seat.TheVariants as seats
use Rattle.channel_pair.specs.ChannelWorld.{ChannelWorld, FitsOn, GotBy, IsKeptFrom, may_send_from}
use Rattle.channel_pair.specs.Letters.{data_of, letters_in, letters_out}
use Rattle.channel_pair.specs.Promise.{AreFronts}
use Rattle.channel_pair.specs.Shapes.{Shape, seat_of}
use Rattle.channel_pair.proofs.Lists.{AreFrontOf, data_front, data_wrote}

each_kept : (ms : List Message) → AllByRecursion IsOrderedAndReliable ms → (i : ℕ) → i < length ms
    → IsOrderedAndReliable (get_or ms i no_message)
each_kept [] a i b = absurd (omega arith)
each_kept (m ∷ ms) a zero b = a.0
each_kept (m ∷ ms) a (suc i) b = each_kept ms a.1 i (omega arith)

-- the first n messages were read or are ready, and those that were read are the first of them
front_of : (gs more : List Got) (ms : List Message) (n : ℕ)
    → map letter_read (gs ++ more) ≡ map letter_written (take n ms)
    → AreFrontOf (map letter_read gs) (map letter_written ms)
front_of gs more ms n e = (
  map letter_read more ++ map letter_written (drop n ms),
  ap (map letter_written) (sym (take-append-drop n ms)) ∙ map-append letter_written (take n ms) (drop n ms)
      ∙ ap (λ (z : List Letter). z ++ map letter_written (drop n ms)) (sym first)
      ∙ append_assoc (map letter_read gs) (map letter_read more) (map letter_written (drop n ms)),
)
  where
    first : map letter_read gs ++ map letter_read more ≡ map letter_written (take n ms)
    first = sym (map-append letter_read gs more) ∙ e

-- On a safe stream on which all messages are kept, what was read is a front of what was accepted.
letters_are_a_front : (w : Direction) (s : ℕ) → IsSafe w s
    → AllByRecursion IsOrderedAndReliable (w.sender.plan.accepted s)
    → AreFrontOf (map letter_read (w.reads s)) (map letter_written (w.sender.plan.accepted s))
letters_are_a_front w s safe kept =
    let ordered : IsKeptOrdered w.sender.plan s = λ i b. (each_kept (w.sender.plan.accepted s) kept i b).ordered in
    let reliable : IsKeptReliable w.sender.plan s =
    λ i b. ap is_reliable (each_kept (w.sender.plan.accepted s) kept i b).reliable in
    ⊎_elim
    (λ (o : w.receiver.is_open ≡ true).
    let x = safe.prefix ordered reliable o in
    front_of (w.reads s) (ready (live (w.receiver.queues s))) (w.sender.plan.accepted s) x.0 x.2)
    (λ (c : w.receiver.is_open ≡ false).
    let x = safe.front ordered reliable c in
    front_of (w.reads s) [] (w.sender.plan.accepted s) x.1
    (ap (λ (gs : List Got). map letter_read gs) (append-nil (w.reads s)) ∙ x.4))
    (cases_Bool w.receiver.is_open)

-- what comes to side x is a front of what the other side wrote
pub comes_to : (x : Side2) (id : ℕ) (w : World) → IsSafeWorld w → IsKeptFrom (other_side x) id w
    → AreFrontOf (letters_in x id w) (letters_out (other_side x) id w)
comes_to sides.A id w safe k = letters_are_a_front w.ba id (safe.ba_safe.safe id k.span) k.kept
comes_to sides.B id w safe k = letters_are_a_front w.ab id (safe.ab_safe.safe id k.span) k.kept

got_front : (a : Seat) (ins out : List Letter) (got sent : List (List ℕ)) → GotBy a ins got
    → data_of out ≡ sent → AreFrontOf ins out → IsFrontOf got sent
got_front (seats.Vacant true) ins out got sent h e f = (sent, ap (λ (z : List (List ℕ)). z ++ sent) (sym h))
got_front (seats.Vacant false) ins out got sent h e f = (sent, ap (λ (z : List (List ℕ)). z ++ sent) (sym h.1))
got_front (seats.Taken c) ins out got sent h e f =
    let g = data_front ins out f in (g.0, sym e ∙ g.1 ∙ ap (λ (z : List (List ℕ)). z ++ g.0) (sym h))

pub fronts_of : (id : ℕ) (p : Shape) (c : ChannelWorld) → FitsOn id p c → AreFronts c
fronts_of id p c f x =
    let o = other_side x in
    got_front (seat_of x p) (letters_in x id c.world) (letters_out o id c.world) (c.got x) (c.sent o) (f.got x)
    (data_wrote (may_send_from (seat_of o p)) (letters_out o id c.world) (c.sent o) (f.wrote o))
    (comes_to x id c.world (safe_world p.pair c.world f.fits) (f.kept o))
