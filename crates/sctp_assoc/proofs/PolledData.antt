-- The DATA of a poll is what its acts give out.
use Rattle.std.proofs.Common.{◌≡◌, refl, sym, ap, ◌∙◌, ⊎_elim, ℕ, zero, suc, ◌+◌, ◌-◌, arith, Bool, true, false}
use Rattle.std.proofs.Common.{if◌then◌else◌, List, [], ◌∷◌, ◌++◌, length, nat_lt, slice_get, slice_set, Some, is_some}
use Rattle.std.proofs.Common.{nat_le, not, ◌&&◌}
use Rattle.std.proofs.lemmas.Bool.{and_parts, cases_Bool, false≢true}
use Rattle.std.proofs.lemmas.List.{append_assoc}
use Rattle.sctp_wire_types.specs.declared.chunk.ChunkPayloadData.{ChunkPayloadData}
use Rattle.sctp_serial.specs.Serial.{tsn}
use Rattle.sctp_outbound_queue.specs.declared.message.InFlight.{InFlight}
use Rattle.sctp_outbound_queue.specs.Waiting.{Waiting}
use Rattle.sctp_outbound_queue.specs.declared.message.Retransmission.{Retransmission}
use Rattle.sctp_outbound_queue.specs.declared.message.Retransmission.TheVariants as causes
use Rattle.sctp_outbound_queue.specs.Message.{counted_again, is_outstanding, picks, room_taken}
use Rattle.sctp_outbound_queue.specs.Outbound.{Outbound, pieces_waiting, sent_next, tsn_at}
use Rattle.sctp_streams.specs.Streams.{StreamMap}
use Rattle.sctp_outbound.specs.declared.sender.Sender.{Sender}
use Rattle.sctp_outbound.specs.Sender.{alone_length_of, both_windows, can_send_next, resend_window}
use Rattle.sctp_outbound.specs.Sender.{asks_again, asks_at_once, chunk_of, first_chunk}
use Rattle.sctp_outbound.specs.Sender.{after_marked, after_missing, fast_room, marked_by, missing_by}
use Rattle.sctp_outbound.specs.Sender.{first_counted, fits_windows, resends_alone, resent_chunks}
use Rattle.sctp_outbound.specs.Sender.{resent_pieces, sent_one, sent_within, with_in_flight}
use Rattle.sctp_directions.specs.Acts.{Act, History, Parts}
use Rattle.sctp_assoc.specs.Happened.{acts_of_missing}
use Rattle.sctp_assoc.specs.Happened.{acts_of_marks}
use Rattle.sctp_assoc.specs.Happened.{acts_of_resending, acts_of_sending, first_again, first_sent}
use Rattle.sctp_assoc.proofs.MarksOutstanding.{AreMarkedRight}
use Rattle.sctp_assoc.proofs.ActsKeepOffsets.{Tied, sent_first}
use Rattle.sctp_assoc.proofs.Giving.{Gives, gives_none, gives_on, sending}
use Rattle.sctp_outbound.proofs.SenderSteps.{chunks_full, chunks_sent, chunks_skip, pieces_full, pieces_sent}
use Rattle.sctp_outbound.proofs.SenderSteps.{pieces_skip}

abbrev with_pieces : Parts → List InFlight → Parts
with_pieces p pieces = record p { queue = (let q = p.queue in record q { in_flight = pieces }) }

-- Pieces that go out again.

tsn_at_index : (own base first index : ℕ) → first ≡ tsn own base → tsn own (base + index) ≡ tsn_at first index
tsn_at_index own base first index e = rw e (omega arith)

pub get_behind : {X : Type 0} (xs ys : List X) (x : X) → slice_get (xs ++ x ∷ ys) (length xs) ≡ Some x
get_behind [] ys x = refl
get_behind (z ∷ zs) ys x = get_behind zs ys x

pub set_behind : {X : Type 0} (xs ys : List X) (x y : X) → slice_set (xs ++ x ∷ ys) (length xs) y ≡ xs ++ y ∷ ys
set_behind [] ys x y = refl
set_behind (z ∷ zs) ys x y = ap (λ (l : List _). z ∷ l) (set_behind zs ys x y)

pub one_longer : {X : Type 0} (xs : List X) (x : X) → length (xs ++ x ∷ []) ≡ length xs + 1
one_longer [] x = refl
one_longer (z ∷ zs) x = let e = one_longer zs x in omega (arith, e)

-- a piece that is picked is outstanding
picked_right : (by : Retransmission) (x : InFlight) → picks by x ≡ true
    → (x.retransmit ≡ true → is_outstanding x ≡ true) → is_outstanding x ≡ true
picked_right causes.Timer x picked marked = marked picked
picked_right causes.Fast x picked marked =
    (and_parts (is_outstanding x) (not x.resent)
    (and_parts (is_outstanding x && not x.resent) (nat_le 3 x.misses) picked).0).0

again_one : (at_once : Bool) (by : Retransmission) (x : InFlight) (ps xs : List InFlight) (p : Parts)
    → p.queue.in_flight ≡ xs ++ x ∷ ps → Tied p
    → is_outstanding x ≡ true
    → Gives (Act.SentAgain at_once by (length xs) ∷ []) p (with_pieces p (xs ++ counted_again by x ∷ ps))
    (chunk_of at_once x (tsn_at p.queue.first_tsn (length xs)) ∷ [])
again_one at_once by x ps xs p e tied outstanding =
    let held : slice_get p.queue.in_flight (length xs) ≡ Some x = rw e (get_behind xs ps x) in
    let put : slice_set p.queue.in_flight (length xs) (counted_again by x) ≡ xs ++ counted_again by x ∷ ps =
    rw e (set_behind xs ps x (counted_again by x)) in
    record {
      can = (rw held outstanding, tt);
      there = rw (held, put) refl;
      said = rw (held, tsn_at_index p.history.own p.history.base p.queue.first_tsn (length xs) tied) refl;
    }

gives_same : {xs ys : List Act} {p q r : Parts} {c d : List ChunkPayloadData} → xs ≡ ys → q ≡ r → c ≡ d → Gives ys p r d
    → Gives xs p q c
gives_same e f g m = rw (e, f, g) m

pub acts_skip : (at_once : Bool) (by : Retransmission) (p : InFlight) (ps : List InFlight) (index room : ℕ) → picks by p ≡ false
    → acts_of_resending at_once by index room (p ∷ ps) ≡ acts_of_resending at_once by (index + 1) room ps
acts_skip at_once by p ps index room unmarked = rw unmarked

pub acts_full : (at_once : Bool) (by : Retransmission) (p : InFlight) (ps : List InFlight) (index room : ℕ) → picks by p ≡ true
    → nat_lt room (room_taken by p) ≡ true → acts_of_resending at_once by index room (p ∷ ps) ≡ []
acts_full at_once by p ps index room marked full = rw (marked, full)

pub acts_sent : (at_once : Bool) (by : Retransmission) (p : InFlight) (ps : List InFlight) (index room : ℕ) → picks by p ≡ true
    → nat_lt room (room_taken by p) ≡ false
    → acts_of_resending at_once by index room (p ∷ ps) ≡ Act.SentAgain at_once by index
    ∷ acts_of_resending at_once by (index + 1) (room - room_taken by p) ps
acts_sent at_once by p ps index room marked fits = rw (marked, fits)

-- the pieces behind one more
shifted : (c : InFlight) (xs rest : List InFlight) (acts : ℕ → List Act)
    (chunks : ℕ → List ChunkPayloadData) (p : Parts)
    → Gives (acts (length (xs ++ c ∷ []))) p (with_pieces p ((xs ++ c ∷ []) ++ rest)) (chunks (length (xs ++ c ∷ [])))
    → Gives (acts (length xs + 1)) p (with_pieces p (xs ++ c ∷ rest)) (chunks (length xs + 1))
shifted c xs rest acts chunks p m =
    gives_same (ap acts (sym (one_longer xs c)))
    (ap (λ (z : List InFlight). with_pieces p z) (sym (append_assoc xs (c ∷ []) rest)))
    (ap chunks (sym (one_longer xs c))) m

pub resending : (at_once : Bool) (by : Retransmission) (ps xs : List InFlight) (room : ℕ) (p : Parts)
    → p.queue.in_flight ≡ xs ++ ps → Tied p
    → AreMarkedRight ps
    → Gives (acts_of_resending at_once by (length xs) room ps) p (with_pieces p (xs ++ resent_pieces by room ps))
    (resent_chunks at_once by p.queue.first_tsn (length xs) room ps)
resending at_once by [] xs room p e tied right = record { can = tt; there = rw (← e) refl; said = refl }
resending at_once by (x ∷ ps) xs room p e tied right = ⊎_elim
    (λ (marked : picks by x ≡ true). ⊎_elim
    (λ (full : nat_lt room (room_taken by x) ≡ true).
    gives_same (acts_full at_once by x ps (length xs) room marked full)
    (ap (λ (z : List InFlight). with_pieces p (xs ++ z)) (pieces_full by x ps room marked full))
    (chunks_full at_once by x ps p.queue.first_tsn (length xs) room marked full)
    (record { can = tt; there = rw (← e) refl; said = refl }))
    (λ (fits : nat_lt room (room_taken by x) ≡ false).
    let c : InFlight = counted_again by x in
    let left : ℕ = room - room_taken by x in
    let q : Parts = with_pieces p (xs ++ c ∷ ps) in
    let rest = resending at_once by ps (xs ++ c ∷ []) left q (sym (append_assoc xs (c ∷ []) ps)) tied right.1 in
    let moved =
    shifted c xs (resent_pieces by left ps) (λ (n : ℕ). acts_of_resending at_once by n left ps)
    (λ (n : ℕ). resent_chunks at_once by p.queue.first_tsn n left ps) q rest in
    gives_same (acts_sent at_once by x ps (length xs) room marked fits)
    (ap (λ (z : List InFlight). with_pieces p (xs ++ z)) (pieces_sent by x ps room marked fits))
    (chunks_sent at_once by x ps p.queue.first_tsn (length xs) room marked fits)
    (gives_on (Act.SentAgain at_once by (length xs) ∷ []) (acts_of_resending at_once by (length xs + 1) left ps) p q _ _ _
    (again_one at_once by x ps xs p e tied (picked_right by x marked right.0)) moved))
    (cases_Bool (nat_lt room (room_taken by x))))
    (λ (unmarked : picks by x ≡ false).
    let rest = resending at_once by ps (xs ++ x ∷ []) room p (e ∙ sym (append_assoc xs (x ∷ []) ps)) tied right.1 in
    let moved =
    shifted x xs (resent_pieces by room ps) (λ (n : ℕ). acts_of_resending at_once by n room ps)
    (λ (n : ℕ). resent_chunks at_once by p.queue.first_tsn n room ps) p rest in
    gives_same (acts_skip at_once by x ps (length xs) room unmarked)
    (ap (λ (z : List InFlight). with_pieces p (xs ++ z)) (pieces_skip by x ps room unmarked))
    (chunks_skip at_once by x ps p.queue.first_tsn (length xs) room unmarked) moved)
    (cases_Bool (picks by x))

-- a piece that goes alone is marked
alone_marked : (c : Bool) (window : ℕ) (x : InFlight) → x.retransmit ≡ c
    → is_some (alone_length_of window (Some x)) ≡ true → c ≡ true
alone_marked true window x e alone = refl
alone_marked false window x e alone = absurd (false≢true (rw e at alone))

first_again_gives : (at_once : Bool) (ps : List InFlight) (window : ℕ) (p : Parts) → p.queue.in_flight ≡ ps → Tied p
    → AreMarkedRight ps → is_some (alone_length_of window (slice_get ps 0)) ≡ true
    → Gives (first_again at_once ps) p (with_pieces p (first_counted ps)) (first_chunk at_once p.queue.first_tsn ps)
first_again_gives at_once [] window p e tied right alone = record { can = tt; there = rw (← e) refl; said = refl }
first_again_gives at_once (x ∷ ps) window p e tied right alone =
    again_one at_once causes.Timer x ps [] p e tied (right.0 (alone_marked x.retransmit window x refl alone))

marks_give_if : (alone : Bool) (s : Sender) (m : StreamMap) (h : History) → s.queue.first_tsn ≡ tsn h.own h.base
    → AreMarkedRight s.queue.in_flight → resends_alone s ≡ alone
    → Gives (if alone then first_again (asks_again s) s.queue.in_flight else
    acts_of_resending (asks_again s) causes.Timer 0 (both_windows s) s.queue.in_flight)
    (sending s m h)
    (sending (with_in_flight s
    (if alone then first_counted s.queue.in_flight else
    resent_pieces causes.Timer (both_windows s) s.queue.in_flight)) m h)
    (if alone then first_chunk (asks_again s) s.queue.first_tsn s.queue.in_flight else
    resent_chunks (asks_again s) causes.Timer s.queue.first_tsn 0 (both_windows s) s.queue.in_flight)
marks_give_if true s m h tied right alone =
    first_again_gives (asks_again s) s.queue.in_flight (resend_window s) (sending s m h) refl tied right alone
marks_give_if false s m h tied right alone =
    resending (asks_again s) causes.Timer s.queue.in_flight [] (both_windows s) (sending s m h) refl tied right

pub marks_give : (s : Sender) (m : StreamMap) (h : History) → s.queue.first_tsn ≡ tsn h.own h.base
    → AreMarkedRight s.queue.in_flight
    → Gives (acts_of_marks s) (sending s m h) (sending (after_marked s) m h) (marked_by s)
marks_give s m h tied right = marks_give_if (resends_alone s) s m h tied right refl

missing_give_if : (due : Bool) (s : Sender) (m : StreamMap) (h : History) → s.queue.first_tsn ≡ tsn h.own h.base
    → AreMarkedRight s.queue.in_flight
    → Gives (if due then acts_of_resending (asks_again s) causes.Fast 0 (fast_room s) s.queue.in_flight else []) (sending s m h)
    (sending (with_in_flight s (if due then
    resent_pieces causes.Fast (fast_room s) s.queue.in_flight else s.queue.in_flight)) m h)
    (if due then resent_chunks (asks_again s) causes.Fast s.queue.first_tsn 0 (fast_room s) s.queue.in_flight else [])
missing_give_if true s m h tied right =
    resending (asks_again s) causes.Fast s.queue.in_flight [] (fast_room s) (sending s m h) refl tied right
missing_give_if false s m h tied right = gives_none (sending s m h)

pub missing_give : (s : Sender) (m : StreamMap) (h : History) → s.queue.first_tsn ≡ tsn h.own h.base
    → AreMarkedRight s.queue.in_flight
    → Gives (acts_of_missing s) (sending s m h) (sending (after_missing s) m h) (missing_by s)
missing_give s m h tied right = missing_give_if s.is_fast_due s m h tied right

-- Pieces that go out for the first time.

pub one_queue : (ms : List Waiting) (s : Sender) (now : ℕ) → s.queue.pending ≡ ms
    → (sent_one ms s now).0.queue ≡ sent_next s.queue now
unfolding sent_one
one_queue [] s now e = rw e refl
one_queue (m ∷ ms) s now e = refl

one_tied : (s : Sender) (now : ℕ) (h : History) → s.queue.first_tsn ≡ tsn h.own h.base
    → (sent_one s.queue.pending s now).0.queue.first_tsn ≡ tsn h.own h.base
one_tied s now h tied =
    ap (λ (q : Outbound). q.first_tsn) (one_queue s.queue.pending s now refl)
    ∙ sent_first s.queue.pending s.queue now ∙ tied

one_gives : (ms : List Waiting) (s : Sender) (now : ℕ) (m : StreamMap) (h : History) → s.queue.pending ≡ ms
    → s.queue.first_tsn ≡ tsn h.own h.base
    → Gives (first_sent (asks_at_once s) ms now) (sending s m h) (sending (sent_one ms s now).0 m h) (sent_one ms s now).1
unfolding sent_one
one_gives [] s now m h e tied = gives_none (sending s m h)
one_gives (w ∷ ws) s now m h e tied = record {
  can = (rw e refl, tt);
  there = refl;
  said = rw (e, tsn_at_index h.own h.base s.queue.first_tsn (length s.queue.in_flight) tied) refl;
}

is_pending : (ms : List Waiting) (s : Sender) (now : ℕ) → fits_windows s (slice_get ms 0) ≡ true
    → first_sent (asks_at_once s) ms now ≡ Act.Sent (asks_at_once s) now ∷ []
is_pending [] s now fits = absurd (false≢true fits)
is_pending (m ∷ ms) s now fits = refl

-- the next piece, and then others of those that wait, where it may go out
abbrev within_if : Bool → ℕ → Sender → ℕ → Sender × List ChunkPayloadData
within_if c n s now =
    if c then
    (let one = sent_one s.queue.pending s now in
    let rest = sent_within n one.0 now in (rest.0, one.1 ++ rest.1))
    else (s, [])

-- beside these streams, on this history
module _ (now : ℕ) (m : StreamMap) (h : History) where
  sending_gives_if : (c : Bool) (n : ℕ) (s : Sender) → can_send_next s ≡ c → s.queue.first_tsn ≡ tsn h.own h.base
      → ((t : Sender) → t.queue.first_tsn ≡ tsn h.own h.base
      → Gives (acts_of_sending n t now) (sending t m h) (sending (sent_within n t now).0 m h) (sent_within n t now).1)
      → Gives (if c then Act.Sent (asks_at_once s) now ∷ acts_of_sending n (sent_one s.queue.pending s now).0 now else [])
      (sending s m h) (sending (within_if c n s now).0 m h) (within_if c n s now).1
  sending_gives_if false n s e tied rest = gives_none (sending s m h)
  sending_gives_if true n s e tied rest =
      let one = sent_one s.queue.pending s now in
      let first =
      gives_same (sym (is_pending s.queue.pending s now e)) refl refl (one_gives s.queue.pending s now m h refl tied) in
      gives_on (Act.Sent (asks_at_once s) now ∷ []) (acts_of_sending n one.0 now) (sending s m h) (sending one.0 m h)
      (sending (sent_within n one.0 now).0 m h) one.1 (sent_within n one.0 now).1 first
      (rest one.0 (one_tied s now h tied))

  pub sending_gives : (n : ℕ) (s : Sender) → s.queue.first_tsn ≡ tsn h.own h.base
      → Gives (acts_of_sending n s now) (sending s m h) (sending (sent_within n s now).0 m h) (sent_within n s now).1
  sending_gives zero s tied = gives_none (sending s m h)
  sending_gives (suc n) s tied =
      sending_gives_if (can_send_next s) n s refl tied (λ t bound. sending_gives n t bound)

  pub new_gives_if : (c : Bool) (s : Sender) → s.queue.first_tsn ≡ tsn h.own h.base
      → Gives (if c then first_sent (asks_at_once s) s.queue.pending now else acts_of_sending (pieces_waiting s.queue.pending) s now)
      (sending s m h)
      (sending (if c then sent_one s.queue.pending s now else
      sent_within (pieces_waiting s.queue.pending) s now).0 m h)
      (if c then sent_one s.queue.pending s now else sent_within (pieces_waiting s.queue.pending) s now).1
  new_gives_if true s tied = one_gives s.queue.pending s now m h refl tied
  new_gives_if false s tied = sending_gives (pieces_waiting s.queue.pending) s tied
