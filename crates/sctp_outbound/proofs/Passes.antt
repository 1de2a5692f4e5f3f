-- A pass looks at those pieces alone that it sends again: between one and the next it only moves on.
use Rattle.std.proofs.Common.{◌≡◌, ℕ, zero, suc, ◌+◌, ◌-◌, ◌<◌, ◌≤◌, Bool, true, false, nat_lt, List, [], ◌∷◌, ◌++◌}
use Rattle.std.proofs.Common.{Option, Some, None, length, take, drop, slice_get, refl, ap, sym, ◌∙◌, ⊎_elim, append_assoc}
use Rattle.std.proofs.Common.{arith}
use Rattle.std.proofs.Math.Seq.{take-append-add}
use Rattle.std.proofs.lemmas.Bool.{cases_Bool, false≢true, ltb-false, true≢false}
use Rattle.std.proofs.lemmas.List.{drop-drop, length-drop, length-take-le, take-append-drop}
use Rattle.std.proofs.lemmas.List.Sums.{prefix_len-le-length}
use Rattle.std.specs.Prelude.{is_some, not}
use Rattle.std.specs.List.{position, position_or_len}
use Rattle.std.specs.Option.{option_map}
use Rattle.sctp_wire.specs.DataPackets.{DataWritten}
use Rattle.sctp_streams.specs.Streams.{StreamMap}
use Rattle.sctp_outbound_queue.specs.declared.message.InFlight.{InFlight}
use Rattle.sctp_outbound_queue.specs.declared.message.Retransmission.{Retransmission}
use Rattle.sctp_outbound_queue.specs.Message.{picks, room_taken}
use Rattle.sctp_outbound_queue.specs.Outbound.{marked_of, tsn_at}
use Rattle.sctp_outbound.specs.declared.abandonment.Reason.{Reason}
use Rattle.sctp_outbound.specs.declared.abandonment.Reached.TheVariants as reached
use Rattle.sctp_outbound.specs.declared.sender.Attempt.{Attempt}
use Rattle.sctp_outbound.specs.declared.sender.Attempt.TheVariants as attempts
use Rattle.sctp_outbound.specs.declared.sender.Sender.{Sender}
use Rattle.sctp_outbound.specs.Abandonment.{is_spent, looks_for, next_given_up, reached_at, spent_index}
use Rattle.sctp_outbound.specs.Sender.{after_marked, alone_length_of, asks_again, both_windows, chunk_of, marked_by}
use Rattle.sctp_outbound.specs.Sender.{resend_window, resends_alone, resent_chunks, resent_pieces, tried_again, with_in_flight}
use Rattle.sctp_outbound.proofs.GivenUp.{GivesUpOn, pass_step}
use Rattle.sctp_outbound.proofs.MarkedPieces.{all_stay, none_of, none_resent}
use Rattle.sctp_outbound.proofs.SenderSteps.{ResendsOn, chunks_sent, chunks_skip, drop_get, pieces_skip}
use Rattle.sctp_outbound.proofs.Unlimited.{index_skip}

-- how many of these pieces stand before the first one that is picked
abbrev pub in_front : Retransmission → List InFlight → ℕ
in_front k xs = position_or_len (picks k) xs

abbrev pub is_picked : Retransmission → Option InFlight → Bool
is_picked k None = false
is_picked k (Some p) = picks k p

hit : (k : Retransmission) (p : InFlight) (ps : List InFlight) → picks k p ≡ true → in_front k (p ∷ ps) ≡ 0
hit k p ps a = rw a refl

miss : (k : Retransmission) (p : InFlight) (ps : List InFlight) → picks k p ≡ false
    → in_front k (p ∷ ps) ≡ suc (in_front k ps)
miss k p ps a =
    let one : 1 + in_front k ps ≡ suc (in_front k ps) = omega arith in
    rw a one

-- over pieces that are not picked, up to the first that is

pieces_on : (k : Retransmission) (room : ℕ) (ps : List InFlight)
    → resent_pieces k room ps ≡ take (in_front k ps) ps ++ resent_pieces k room (drop (in_front k ps) ps)
pieces_on k room [] = refl
pieces_on k room (p ∷ ps) =
    ⊎_elim
    (λ (a : picks k p ≡ true).
    ap (λ n. take n (p ∷ ps) ++ resent_pieces k room (drop n (p ∷ ps))) (sym (hit k p ps a)))
    (λ (a : picks k p ≡ false).
    pieces_skip k p ps room a ∙ ap (λ z. p ∷ z) (pieces_on k room ps)
    ∙ ap (λ n. take n (p ∷ ps) ++ resent_pieces k room (drop n (p ∷ ps))) (sym (miss k p ps a)))
    (cases_Bool (picks k p))

chunks_on : (at_once : Bool) (k : Retransmission) (first i j room : ℕ) (ps : List InFlight) → j ≡ i + in_front k ps
    → resent_chunks at_once k first i room ps ≡ resent_chunks at_once k first j room (drop (in_front k ps) ps)
chunks_on at_once k first i j room [] e = refl
chunks_on at_once k first i j room (p ∷ ps) e =
    ⊎_elim
    (λ (a : picks k p ≡ true).
    let same : i ≡ j = omega (arith, e, hit k p ps a) in
    ap (λ z. resent_chunks at_once k first z room (p ∷ ps)) same
    ∙ ap (λ n. resent_chunks at_once k first j room (drop n (p ∷ ps))) (sym (hit k p ps a)))
    (λ (a : picks k p ≡ false).
    let past : j ≡ i + 1 + in_front k ps = omega (arith, e, miss k p ps a) in
    chunks_skip at_once k p ps first i room a ∙ chunks_on at_once k first (i + 1) j room ps past
    ∙ ap (λ n. resent_chunks at_once k first j room (drop n (p ∷ ps))) (sym (miss k p ps a)))
    (cases_Bool (picks k p))

index_on : (k : Retransmission) (i j room : ℕ) (ps : List InFlight) → j ≡ i + in_front k ps
    → spent_index k i room ps ≡ spent_index k j room (drop (in_front k ps) ps)
index_on k i j room [] e = refl
index_on k i j room (p ∷ ps) e =
    ⊎_elim
    (λ (a : picks k p ≡ true).
    let same : i ≡ j = omega (arith, e, hit k p ps a) in
    ap (λ z. spent_index k z room (p ∷ ps)) same
    ∙ ap (λ n. spent_index k j room (drop n (p ∷ ps))) (sym (hit k p ps a)))
    (λ (a : picks k p ≡ false).
    let past : j ≡ i + 1 + in_front k ps = omega (arith, e, miss k p ps a) in
    index_skip k i room p ps a ∙ index_on k (i + 1) j room ps past
    ∙ ap (λ n. spent_index k j room (drop n (p ∷ ps))) (sym (miss k p ps a)))
    (cases_Bool (picks k p))

picked_first : (k : Retransmission) (ps : List InFlight) → in_front k ps < length ps
    → is_picked k (slice_get ps (in_front k ps)) ≡ true
picked_first k [] less = absurd (omega (arith, less))
picked_first k (p ∷ ps) less =
    ⊎_elim
    (λ (a : picks k p ≡ true). ap (λ n. is_picked k (slice_get (p ∷ ps) n)) (hit k p ps a) ∙ a)
    (λ (a : picks k p ≡ false).
    ap (λ n. is_picked k (slice_get (p ∷ ps) n)) (miss k p ps a)
    ∙ picked_first k ps (omega (arith, less, miss k p ps a)))
    (cases_Bool (picks k p))

-- and so from an index on

get_past : (i n j : ℕ) (xs : List InFlight) → j ≡ i + n → slice_get xs j ≡ slice_get (drop i xs) n
get_past zero n j xs e =
    let same : j ≡ n = omega (arith, e) in
    ap (slice_get xs) same
get_past (suc i) n j [] e = refl
get_past (suc i) n zero (x ∷ xs) e = absurd (omega (arith, e))
get_past (suc i) n (suc j) (x ∷ xs) e = get_past i n j xs (omega (arith, e))

take_past : (i n : ℕ) (xs : List InFlight) → i ≤ length xs → take (i + n) xs ≡ take i xs ++ take n (drop i xs)
take_past i n xs within =
    ap (take (i + n)) (sym (take-append-drop i xs))
    ∙ ap (λ m. take (m + n) (take i xs ++ drop i xs)) (sym (length-take-le i xs within))
    ∙ take-append-add (take i xs) (drop i xs) n

drop_to : (i n j : ℕ) (xs : List InFlight) → j ≡ i + n → drop j xs ≡ drop n (drop i xs)
drop_to i n j xs e = ap (λ z. drop z xs) e ∙ sym (drop-drop n i xs)

-- j is the index of the next piece, from the index i on
module _ (k : Retransmission) (i j room : ℕ) (xs : List InFlight) (e : j ≡ i + in_front k (drop i xs)) where
  pub pieces_between : i ≤ length xs
      → take j xs ++ resent_pieces k room (drop j xs) ≡ take i xs ++ resent_pieces k room (drop i xs)
  pieces_between within =
      let n = in_front k (drop i xs) in
      ap (λ z. z ++ resent_pieces k room (drop j xs)) (ap (λ z. take z xs) e ∙ take_past i n xs within)
      ∙ ap (λ z. (take i xs ++ take n (drop i xs)) ++ resent_pieces k room z) (drop_to i n j xs e)
      ∙ append_assoc (take i xs) (take n (drop i xs)) (resent_pieces k room (drop n (drop i xs)))
      ∙ ap (λ z. take i xs ++ z) (sym (pieces_on k room (drop i xs)))

  pub chunks_between : (at_once : Bool) (first : ℕ)
      → resent_chunks at_once k first j room (drop j xs) ≡ resent_chunks at_once k first i room (drop i xs)
  chunks_between at_once first =
      ap (resent_chunks at_once k first j room) (drop_to i (in_front k (drop i xs)) j xs e)
      ∙ sym (chunks_on at_once k first i j room (drop i xs) e)

  pub index_between : spent_index k j room (drop j xs) ≡ spent_index k i room (drop i xs)
  index_between =
      ap (spent_index k j room) (drop_to i (in_front k (drop i xs)) j xs e)
      ∙ sym (index_on k i j room (drop i xs) e)

  pub picked_next : i ≤ length xs → j < length xs → is_picked k (slice_get xs j) ≡ true
  picked_next within less =
      let rest = length-drop i xs in
      ap (is_picked k) (get_past i (in_front k (drop i xs)) j xs e)
      ∙ picked_first k (drop i xs) (omega (arith, e, less, within, rest))

  pub no_further : i ≤ length xs → j ≤ length xs
  no_further within =
      let rest = length-drop i xs in
      let most = prefix_len-le-length (λ p. not (picks k p)) (drop i xs) in
      omega (arith, e, within, rest, most)

-- where the queue answers none
pub next_missing : (k : Retransmission) (i : ℕ) (xs : List InFlight) → i ≤ length xs
    → None ≡ option_map (λ n. i + n) (position (picks k) (drop i xs)) → length xs ≡ i + in_front k (drop i xs)
next_missing k i xs within e =
    ⊎_elim
    (λ (b : nat_lt (in_front k (drop i xs)) (length (drop i xs)) ≡ true). let some = rw b at e in absurd (cc))
    (λ (b : nat_lt (in_front k (drop i xs)) (length (drop i xs)) ≡ false).
    let most = prefix_len-le-length (λ p. not (picks k p)) (drop i xs) in
    let rest = length-drop i xs in
    omega (arith, within, most, rest, ltb-false (in_front k (drop i xs)) (length (drop i xs)) b))
    (cases_Bool (nat_lt (in_front k (drop i xs)) (length (drop i xs))))

-- what is sent again

pub resends_from : (k : Retransmission) (s : Sender) (i end room : ℕ) (out : DataWritten)
    → end ≡ length s.queue.in_flight → i ≡ in_front k s.queue.in_flight → ResendsOn k s s i end room room 0 out out
resends_from k s i end room out count e =
    let at : i ≡ 0 + in_front k (drop 0 s.queue.in_flight) = omega (arith, e) in
    record {
      count = count;
      rest = refl;
      pieces = pieces_between k 0 i room s.queue.in_flight at (omega arith);
      given = [];
      many = refl;
      few = omega arith;
      chunks = chunks_between k 0 i room s.queue.in_flight at (asks_again s) s.queue.first_tsn;
      written = refl;
    }

pub moves_on : {k : Retransmission} {s0 s : Sender} {i end room left sent : ℕ} {out0 out : DataWritten} (j : ℕ)
    → ResendsOn k s0 s i end room left sent out0 out → i ≤ length s.queue.in_flight
    → j ≡ i + in_front k (drop i s.queue.in_flight) → ResendsOn k s0 s j end room left sent out0 out
moves_on {k = k} {s = s} {i = i} {left = left} j inv within e = record {
  count = inv.count;
  rest = inv.rest;
  pieces = pieces_between k i j left s.queue.in_flight e within ∙ inv.pieces;
  given = inv.given;
  many = inv.many;
  few = omega (arith, inv.few, e);
  chunks = ap (λ z. inv.given ++ z) (chunks_between k i j left s.queue.in_flight e (asks_again s) s.queue.first_tsn) ∙ inv.chunks;
  written = inv.written;
}

full_not_passed : attempts.Full ≡ attempts.Passed → ⊥
full_not_passed e = absurd (cc)

sent_not_passed : {room : ℕ} → attempts.Sent room ≡ attempts.Passed → ⊥
sent_not_passed e = absurd (cc)

-- a piece that is picked is not passed over
pub not_passed : (k : Retransmission) (o : Option InFlight) (s s2 : Sender) (i left : ℕ) → is_picked k o ≡ true
    → tried_again k o s i left ≡ (s2, attempts.Passed) → ⊥
not_passed k None s s2 i left a e = false≢true a
not_passed k (Some p) s s2 i left a e =
    ⊎_elim
    (λ (full : nat_lt left (room_taken k p) ≡ true).
    full_not_passed (ap (λ (z : Sender × Attempt). z.1) (rw (a, full) at e)))
    (λ (fits : nat_lt left (room_taken k p) ≡ false).
    sent_not_passed (ap (λ (z : Sender × Attempt). z.1) (rw (a, fits) at e)))
    (cases_Bool (nat_lt left (room_taken k p)))

-- so where it does not go again it does not fit
pub not_sent : (k : Retransmission) (o : Option InFlight) (s s2 : Sender) (i left : ℕ) (attempt : Attempt)
    → is_picked k o ≡ true → ((room : ℕ) → attempt ≡ attempts.Sent room → ⊥) → tried_again k o s i left ≡ (s2, attempt)
    → tried_again k o s i left ≡ (s2, attempts.Full)
not_sent k o s s2 i left attempts.Passed a other e = absurd (not_passed k o s s2 i left a e)
not_sent k o s s2 i left (attempts.Sent room) a other e = absurd (other room refl)
not_sent k o s s2 i left attempts.Full a other e = e

-- with no mark nothing is sent again

not_alone : (window : ℕ) (ps : List InFlight) → marked_of ps ≡ 0
    → is_some (alone_length_of window (slice_get ps 0)) ≡ false
not_alone window [] none = refl
not_alone window (p ∷ ps) none = rw (none_of p ps none).0 refl

pub unmarked_stay : (s : Sender) → marked_of s.queue.in_flight ≡ 0 → after_marked s ≡ s
unmarked_stay s none =
    let alone : resends_alone s ≡ false = not_alone (resend_window s) s.queue.in_flight none in
    rw alone (ap (with_in_flight s) (all_stay (both_windows s) s.queue.in_flight none))

pub none_marked : (s : Sender) → marked_of s.queue.in_flight ≡ 0 → marked_by s ≡ []
none_marked s none =
    let alone : resends_alone s ≡ false = not_alone (resend_window s) s.queue.in_flight none in
    rw alone (none_resent (asks_again s) s.queue.first_tsn 0 (both_windows s) s.queue.in_flight none)

-- what is given up

-- a walk over what a pass would send again comes to the piece to which it is to come. It looked once for each piece that
-- it passed, and once more
pub record Walks (at_once : Bool) (k : Retransmission) (xs : List InFlight) (first room i left before looks : ℕ) : Type 0 where
  pub index : spent_index k i left (drop i xs) ≡ spent_index k 0 room xs
  pub looked : looks + length (resent_chunks at_once k first i left (drop i xs))
      ≤ before + (length (resent_chunks at_once k first 0 room xs) + 1)
  pub picked : i < length xs → is_picked k (slice_get xs i) ≡ true

pub walks_from : (at_once : Bool) (k : Retransmission) (xs : List InFlight) (first room i before looks : ℕ)
    → i ≡ 0 + in_front k (drop 0 xs) → looks ≤ before + 1 → Walks at_once k xs first room i room before looks
walks_from at_once k xs first room i before looks e once =
    let same = ap length (chunks_between k 0 i room xs e at_once first) in
    record {
      index = index_between k 0 i room xs e;
      looked = omega (arith, same, once);
      picked = picked_next k 0 i room xs e (omega arith);
    }

reached_on : (k : Retransmission) (left left2 : ℕ) (p : InFlight) → picks k p ≡ true
    → reached_at k left p ≡ reached.On left2
    → (nat_lt left (room_taken k p) ≡ false) × (left - room_taken k p ≡ left2)
reached_on k left left2 p a e =
    ⊎_elim
    (λ (b : is_spent p ≡ true). let other = rw (a, b) at e in absurd (cc))
    (λ (b : is_spent p ≡ false). ⊎_elim
    (λ (c : nat_lt left (room_taken k p) ≡ true). let other = rw (a, b, c) at e in absurd (cc))
    (λ (c : nat_lt left (room_taken k p) ≡ false). let same = rw (a, b, c) at e in (c, cc))
    (cases_Bool (nat_lt left (room_taken k p))))
    (cases_Bool (is_spent p))

pub walks_on : {at_once : Bool} {k : Retransmission} {xs : List InFlight} {first room i left before looks : ℕ} (p : InFlight)
    (j left2 more : ℕ) → Walks at_once k xs first room i left before looks → slice_get xs i ≡ Some p → i < length xs
    → reached_at k left p ≡ reached.On left2 → j ≡ i + 1 + in_front k (drop (i + 1) xs) → more ≤ looks + 1
    → Walks at_once k xs first room j left2 before more
walks_on {at_once = at_once} {k = k} {xs = xs} {first = first} {i = i} {left = left} p j left2 more inv here less reach e once =
    let a : picks k p ≡ true = ap (is_picked k) (sym here) ∙ inv.picked less in
    let on = reached_on k left left2 p a reach in
    let sent =
    ap (resent_chunks at_once k first i left) (drop_get xs i p here) ∙ chunks_sent at_once k p (drop (i + 1) xs) first i left a on.0
    ∙ ap (λ z. chunk_of at_once p (tsn_at first i) ∷ resent_chunks at_once k first (i + 1) z (drop (i + 1) xs)) on.1 in
    let one = ap length sent in
    let same = ap length (chunks_between k (i + 1) j left2 xs e at_once first) in
    record {
      index =
          index_between k (i + 1) j left2 xs e
          ∙ sym (pass_step k i left xs p (reached.On left2) here (sym reach))
          ∙ inv.index;
      looked = omega (arith, one, same, once, inv.looked);
      picked = picked_next k (i + 1) j left2 xs e (omega (arith, less));
    }

-- where nothing was given up there was one look at most
pub looked_once : (why : Reason) (n i : ℕ) (before all : Sender × StreamMap) → GivesUpOn why n i before all
    → (first looks more : ℕ) → (i ≡ 0 → looks ≡ first) → more ≤ looks + looks_for why all.0
    → is_some (next_given_up why before.0) ≡ false → more ≤ first + looks_for why before.0
looked_once why n zero before all g first looks more none most nothing =
    let same = ap (looks_for why) (g.none refl) in
    omega (arith, same, none refl, most)
looked_once why n (suc i) before all g first looks more none most nothing =
    absurd (true≢false (sym (g.some (omega arith)) ∙ nothing))
