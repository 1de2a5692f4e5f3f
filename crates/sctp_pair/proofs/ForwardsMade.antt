-- The FORWARD TSN of a poll: new DATA that goes out before it says the same, and what is given up before it leaves few
-- offsets past the acknowledged reach.
use Rattle.std.proofs.Common.{◌≡◌, refl, ap, ◌∙◌, ℕ, zero, suc, ◌+◌, ◌-◌, ◌%◌, ◌^◌, ◌≤◌, arith, Bool, true, false}
use Rattle.std.proofs.Common.{if◌then◌else◌, List, [], ◌∷◌, ◌++◌, length, map, take, Option, Some, None, is_some}
use Rattle.std.specs.List.{AllByRecursion}
use Rattle.std.proofs.lemmas.Bool.{cond_both}
use Rattle.std.proofs.lemmas.List.{length-append}
use Rattle.sctp_wire_types.specs.declared.chunk.ChunkForwardTsn.{ChunkForwardTsn}
use Rattle.sctp_outbound_queue.specs.declared.message.InFlight.{InFlight}
use Rattle.sctp_outbound_queue.specs.Message.{sent_once}
use Rattle.sctp_outbound_queue.specs.Outbound.{Outbound, abandoned_in_front_of, sent_from, tsn_at}
use Rattle.sctp_outbound_queue.specs.Waiting.{Waiting}
use Rattle.sctp_outbound.specs.declared.sender.Sender.{Sender}
use Rattle.sctp_outbound.specs.Forward.{forward_of, skipped_numbers, skipped_stream}
use Rattle.sctp_model.specs.Messages.{Place}
use Rattle.sctp_model.specs.Machine.{Direction, Event, abandoned, can_abandon, can_drop, can_resend, dropped}
use Rattle.sctp_model.specs.Machine.{gone_front, happens}
use Rattle.sctp_model.proofs.ForwardTsns.{front_within as gone_within}
use Rattle.sctp_model.specs.Machine.{is_of, left, marked, tail_marked}
use Rattle.sctp_model.specs.Packets.{data_at}
use Rattle.sctp_model.specs.Safe.{IsWithin}
use Rattle.sctp_directions.specs.Acts.{Act, Parts, done, done_all}
use Rattle.sctp_sides.specs.SideLaws.{GivesNew}

-- New DATA behind what is abandoned

-- where nothing behind is abandoned, the abandoned pieces in front are the same
module _ (y : InFlight) (stays : y.abandoned ≡ false) where
  front_if : (c : Bool) (x : InFlight) (xs : List InFlight) → x.abandoned ≡ c
      → abandoned_in_front_of (xs ++ y ∷ []) ≡ abandoned_in_front_of xs
      → abandoned_in_front_of (x ∷ xs ++ y ∷ []) ≡ abandoned_in_front_of (x ∷ xs)
  front_if true x xs e rest = rw e (ap (λ (n : ℕ). 1 + n) rest)
  front_if false x xs e rest = rw e refl

  pub front_stays : (xs : List InFlight) → abandoned_in_front_of (xs ++ y ∷ []) ≡ abandoned_in_front_of xs
  front_stays [] = rw stays refl
  front_stays (x ∷ xs) = front_if x.abandoned x xs refl (front_stays xs)

  -- no more stand in front than there are
  within_if : (c : Bool) (x : InFlight) (xs : List InFlight) → x.abandoned ≡ c → abandoned_in_front_of xs ≤ length xs
      → abandoned_in_front_of (x ∷ xs) ≤ suc (length xs)
  within_if true x xs e rest = rw e (omega (arith, rest))
  within_if false x xs e rest = rw e (omega arith)

  front_within : (xs : List InFlight) → abandoned_in_front_of xs ≤ length xs
  front_within [] = omega arith
  front_within (x ∷ xs) = within_if x.abandoned x xs refl (front_within xs)

  front_taken : (n : ℕ) (xs : List InFlight) → n ≤ length xs → take n (xs ++ y ∷ []) ≡ take n xs
  front_taken zero xs l = refl
  front_taken (suc n) [] l = absurd (omega (arith, l))
  front_taken (suc n) (x ∷ xs) l = ap (λ (zs : List InFlight). x ∷ zs) (front_taken n xs (omega (arith, l)))

  pub pieces_stay : (xs : List InFlight)
      → take (abandoned_in_front_of (xs ++ y ∷ [])) (xs ++ y ∷ []) ≡ take (abandoned_in_front_of xs) xs
  pieces_stay xs =
      ap (λ (n : ℕ). take n (xs ++ y ∷ [])) (front_stays xs)
      ∙ front_taken (abandoned_in_front_of xs) xs (front_within xs)

-- a sender with this queue
abbrev pub with_queue : Outbound → Sender → Sender
with_queue q s = record s { queue = q }

-- FORWARD TSN over so many pieces from this first TSN on, and of these
abbrev forward_up_to : ℕ → ℕ → List InFlight → ChunkForwardTsn
forward_up_to first n pieces = record {
  new_cumulative_tsn = (tsn_at first n + 2 ^ 32 - 1) % 2 ^ 32;
  streams = map skipped_stream (skipped_numbers pieces);
}

-- Two queues of which a sender says the same FORWARD TSN.
pub record SaysTheSame (q r : Outbound) : Type 0 where
  pub front : abandoned_in_front_of r.in_flight ≡ abandoned_in_front_of q.in_flight
  pub chunk : (s : Sender) → forward_of (with_queue r s) ≡ forward_of (with_queue q s)

says_itself : (q : Outbound) → SaysTheSame q q
says_itself q = record { front = refl; chunk = λ s. refl }

says_on : (q r k : Outbound) → SaysTheSame q r → SaysTheSame r k → SaysTheSame q k
says_on q r k m n = record { front = n.front ∙ m.front; chunk = λ s. n.chunk s ∙ m.chunk s }

says_sent : (ms : List Waiting) (q : Outbound) (now : ℕ) → SaysTheSame q (sent_from ms q now)
says_sent [] q now = says_itself q
says_sent (m ∷ ms) q now =
    let y : InFlight = sent_once now m in
    let same = front_stays y refl q.in_flight in
    record {
      front = same;
      chunk =
          λ s. ap (λ (n : ℕ). forward_up_to q.first_tsn n
          (take (abandoned_in_front_of (q.in_flight ++ y ∷ [])) (q.in_flight ++ y ∷ []))) same
          ∙ ap (λ (ps : List InFlight). forward_up_to q.first_tsn (abandoned_in_front_of q.in_flight) ps)
          (pieces_stay y refl q.in_flight);
    }

pub new_data_says_the_same : (acts : List Act) (p : Parts) → AllByRecursion GivesNew acts
    → SaysTheSame p.queue (done_all acts p).queue
new_data_says_the_same [] p new = says_itself p.queue
new_data_says_the_same (Act.Sent at_once now ∷ acts) p (g, gs) =
    let q : Parts = done (Act.Sent at_once now) p in
    says_on p.queue q.queue (done_all acts q).queue (says_sent p.queue.pending p.queue now)
    (new_data_says_the_same acts q gs)
new_data_says_the_same (act ∷ acts) p (g, gs) = absurd g

-- What is given up takes at most one offset more

abbrev one_if : Bool → ℕ
one_if c = if c then 1 else 0

-- the offsets that were assigned, and one more for the rest of a message of which something was sent
abbrev pub room : Direction → ℕ
room w = length w.sender.plan.places + one_if (is_some w.sender.current)

pub abandonments_take_no_room : (w : Direction) (s i : ℕ) → room (happens w (Event.Abandon s i)) ≤ room w
unfolding happens
abandonments_take_no_room w s i =
    cond_both (can_abandon w.sender s i) (record w { sender = abandoned w.sender s i }) w (λ v. room v ≤ room w)
    (λ b. by_current w.sender.current refl) (λ b. omega arith)
  where
    by_current : (c : Option Place) → w.sender.current ≡ c
        → room (record w { sender = left (tail_marked w.sender s i c) s i }) ≤ room w
    by_current None e = omega arith
    by_current (Some y) e =
        cond_both (is_of y s i) (marked w.sender y) w.sender
        (λ z. room (record w { sender = left z s i }) ≤ room w)
        (λ b.
        let more = length-append w.sender.plan.places (record y { marker = true } ∷ []) in
        let one = ap (λ (o : Option Place). one_if (is_some o)) e in
        omega (arith, more, one))
        (λ b. omega arith)

pub drops_take_no_room : (w : Direction) (s i : ℕ) → room (happens w (Event.Drop s i)) ≤ room w
unfolding happens
drops_take_no_room w s i =
    cond_both (can_drop w.sender s i) (record w { sender = dropped w.sender s i }) w (λ v. room v ≤ room w)
    (λ b. omega arith) (λ b. omega arith)

pub resends_take_no_room : (w : Direction) (o : ℕ) → room (happens w (Event.Resend o)) ≤ room w
unfolding happens
resends_take_no_room w o =
    cond_both (can_resend w.sender.plan o) (record w { datas = w.datas ++ data_at w.sender.plan o ∷ [] }) w
    (λ v. room v ≤ room w) (λ b. omega arith) (λ b. omega arith)

one_at_most : (c : Bool) → one_if c ≤ 1
one_at_most true = omega arith
one_at_most false = omega arith

-- where the limits held before, the offsets past the acknowledged reach are few enough for a FORWARD TSN
pub few_for_a_forward : (w v : Direction) → IsWithin w → room v ≤ room w → w.sender.reach ≤ v.sender.reach
    → length (gone_front v.sender) ≤ 16384
few_for_a_forward w v within less onward =
    let one = one_at_most (is_some w.sender.current) in
    let flight = within.flight in
    gone_within v.sender 16384 (omega (arith, one, flight, less, onward))
