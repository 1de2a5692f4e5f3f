use Rattle.std.proofs.Common.{◌≡◌, ℕ, zero, suc, ◌+◌, ◌-◌, ◌<◌, ◌≤◌, Bool, true, false, not, is_some, nat_lt}
use Rattle.std.proofs.Common.{List, [], ◌∷◌, ◌++◌, Option, Some, None, Result, Ok, Err, length, take, drop, set}
use Rattle.std.proofs.Common.{slice_get, refl, ap, sym, subst, ◌∙◌, ⊎_elim, append_assoc, arith}
use Rattle.std.proofs.lemmas.List.{length-append, take_more, take_more_set, drop_more, drop_all}
use Rattle.std.proofs.lemmas.List.{drop-set-lt, length-drop, take-append-drop, append-nil, length-set}
use Rattle.std.proofs.lemmas.Option.{get_or_from_slice_get, slice_get_within}
use Rattle.std.proofs.lemmas.Bool.{and_parts, cases_Bool, or_left, or_right, lt-ltb, ltb-true, not-true}
use Rattle.std.proofs.lemmas.Bool.Decides.{nat_tests}
use Rattle.sctp_wire_types.specs.declared.chunk.ChunkPayloadData.{ChunkPayloadData}
use Rattle.sctp_parts.specs.Estimate.{Estimate}
use Rattle.std.specs.Prelude.{◌==◌, OnErr}
use Rattle.std.proofs.lemmas.List.Sums.{sum_by-cons}
use Rattle.sctp_outbound_queue.specs.declared.message.InFlight.{InFlight}
use Rattle.sctp_outbound_queue.specs.Waiting.{Waiting}
use Rattle.sctp_outbound_queue.specs.Message.{counted_again, picks, piece_count, room_taken, without_piece}
use Rattle.sctp_outbound_queue.specs.declared.message.Retransmission.{Retransmission}
use Rattle.sctp_outbound_queue.specs.Outbound.{tsn_at, pieces_waiting, left_behind, after_piece}
use Rattle.sctp_streams.specs.Streams.{StreamMap}
use Rattle.sctp_wire.specs.DataPackets.{DataWritten, with_all, with_data}
use Rattle.sctp_outbound.specs.declared.sender.Attempt.{Attempt}
use Rattle.sctp_outbound.specs.declared.sender.Attempt.TheVariants as attempts
use Rattle.sctp_outbound.specs.declared.sender.Sender.{Sender}
use Rattle.sctp_outbound.specs.Sender.{after_first, after_resending, acknowledged, with_in_flight, resent_pieces}
use Rattle.sctp_outbound.specs.Sender.{after_marked, chunks_tried, marked_by, missing_by, resent_chunks, tried_again}
use Rattle.sctp_outbound.specs.Sender.{asks_again, chunk_of, fits_windows, can_send_next, gives_data}
use Rattle.sctp_outbound.specs.Sender.{goes_again, resends, sends_new, sent_one, sent_within}

pub acknowledge_more : (n i now : ℕ) (all : Sender × Estimate × StreamMap) → i < n
    → acknowledged (n - (i + 1)) now (after_first now all) ≡ acknowledged (n - i) now all
acknowledge_more n i now all below =
    let e : n - i ≡ suc (n - (i + 1)) = omega arith in
    rw e

pub acknowledge_end : (n i now : ℕ) (all : Sender × Estimate × StreamMap) → n ≤ i → acknowledged (n - i) now all ≡ all
acknowledge_end n i now all above =
    let e : n - i ≡ 0 = omega arith in
    rw e

-- pieces that wait

false_from_true : false ≡ true → ⊥
false_from_true e = cc

left_pieces : (m : Waiting) (ms : List Waiting) → pieces_waiting (m ∷ ms) ≡ suc (pieces_waiting (left_behind m ms))
left_pieces m ms =
    let all = sum_by-cons piece_count m ms in
    ⊎_elim (
    λ (none : (length m.rest == 0) ≡ true).
    rw none (grind (arith, nat_tests, all, none))
    ) (
    λ (more : (length m.rest == 0) ≡ false).
    let left = sum_by-cons piece_count (without_piece m) ms in
    let rest = length-drop 1 m.rest in
    rw more (grind (arith, nat_tests, all, left, rest, more))
    ) (cases_Bool (length m.rest == 0))

pub one_piece_less : (s : Sender) (ms : List Waiting) → fits_windows s (slice_get ms 0) ≡ true
    → pieces_waiting ms ≡ suc (pieces_waiting (after_piece ms))
one_piece_less s [] fits = absurd (false_from_true fits)
one_piece_less s (m ∷ ms) fits = left_pieces m ms

pub sent_more : (n k : ℕ) (s : Sender) (now : ℕ) → n ≡ suc k → can_send_next s ≡ true
    → sent_within n s now
    ≡ (
      (sent_within k (sent_one s.queue.pending s now).0 now).0,
      (sent_one s.queue.pending s now).1 ++ (sent_within k (sent_one s.queue.pending s now).0 now).1,
    )
sent_more n k s now less fits = rw (less, fits) refl

pub within_end : (n : ℕ) (s : Sender) (now : ℕ) → can_send_next s ≡ false → sent_within n s now ≡ (s, [])
within_end zero s now full = refl
within_end (suc n) s now full = rw full

-- so many went out, and with those behind them they are all that is sent
pub record SendsOn (s0 s : Sender) (now : ℕ) (any : Bool) (out0 out : DataWritten) : Type 0 where
  pub given : List ChunkPayloadData
  pub some : any ≡ nat_lt 0 (length given)
  pub sender : (sent_within (pieces_waiting s.queue.pending) s now).0
      ≡ (sent_within (pieces_waiting s0.queue.pending) s0 now).0
  pub all : given ++ (sent_within (pieces_waiting s.queue.pending) s now).1
      ≡ (sent_within (pieces_waiting s0.queue.pending) s0 now).1
  pub written : out ≡ with_all out0 given

pub sends_from : (s : Sender) (now : ℕ) (out : DataWritten) → SendsOn s s now false out out
sends_from s now out = record { given = []; some = refl; sender = refl; all = refl; written = refl }

pub all_after : (w : DataWritten) (cs ds : List ChunkPayloadData) → with_all w (cs ++ ds) ≡ with_all (with_all w cs) ds
all_after w [] ds = refl
all_after w (c ∷ cs) ds = all_after (with_data w c) cs ds

-- what holds anyway holds where a call fails
pub on_err : {T E P : Type 0} → (r : Result T E) → P → OnErr r P
on_err (Ok value) h = tt
on_err (Err error) h = h

pub err_then : {T E P Q : Type 0} → (r : Result T E) → OnErr r P → (P → Q) → OnErr r Q
err_then (Ok value) h f = tt
err_then (Err error) h f = f h

-- how much is sent

more_by_one : (out : List ChunkPayloadData) (chunk : ChunkPayloadData) → length (out ++ chunk ∷ []) ≡ length out + 1
more_by_one out chunk = length-append out (chunk ∷ [])

one_of : (ms : List Waiting) (s : Sender) (now : ℕ) → is_some (slice_get ms 0) ≡ true
    → length (sent_one ms s now).1 ≡ 1
unfolding sent_one
one_of [] s now waits = absurd (false_from_true waits)
one_of (m ∷ ms) s now waits = refl

fits_some : (s : Sender) (o : Option Waiting) → fits_windows s o ≡ true → is_some o ≡ true
fits_some s None fits = absurd (false_from_true fits)
fits_some s (Some m) fits = refl

-- where the next piece fits, some is sent
pub within_sends : (s : Sender) (now : ℕ) → can_send_next s ≡ true
    → 0 < length (sent_within (pieces_waiting s.queue.pending) s now).1
within_sends s now fits =
    let one = one_of s.queue.pending s now (fits_some s (slice_get s.queue.pending 0) fits) in
    let k = pieces_waiting (after_piece s.queue.pending) in
    let more =
    sent_more (pieces_waiting s.queue.pending) k s now (one_piece_less s s.queue.pending fits) fits in
    let both =
    length-append (sent_one s.queue.pending s now).1 (sent_within k (sent_one s.queue.pending s now).0 now).1 in
    rw more (omega (arith, one, both))

-- with nothing in flight the piece that probes the windows is sent
pub probe_sends : (s : Sender) (now : ℕ) → (length s.queue.in_flight == 0) ≡ true → can_send_next s ≡ false
    → is_some (slice_get s.queue.pending 0) ≡ true → sends_new s now ≡ true
probe_sends s now none full waits =
    let one = one_of s.queue.pending s now waits in
    rw (none, full) (lt-ltb _ _ (omega (arith, one)))

-- pieces in flight

pub drop_get : (xs : List InFlight) (i : ℕ) (p : InFlight) → slice_get xs i ≡ Some p → drop i xs ≡ p ∷ drop (i + 1) xs
drop_get xs i p e =
    let same = get_or_from_slice_get xs i p p e in
    rw (drop_more xs i p (slice_get_within xs i p e), same)

pub take_get : (xs : List InFlight) (i : ℕ) (p : InFlight) → slice_get xs i ≡ Some p
    → take (i + 1) xs ≡ take i xs ++ p ∷ []
take_get xs i p e =
    let same = get_or_from_slice_get xs i p p e in
    rw (take_more xs i p (slice_get_within xs i p e), same)

-- what is resent where the first piece in flight is not marked, does not fit, or is sent again: of the pieces that
-- stay, and of the DATA

pub pieces_skip : (k : Retransmission) (p : InFlight) (ps : List InFlight) (room : ℕ) → picks k p ≡ false
    → resent_pieces k room (p ∷ ps) ≡ p ∷ resent_pieces k room ps
pieces_skip k p ps room unmarked = rw unmarked

pub pieces_full : (k : Retransmission) (p : InFlight) (ps : List InFlight) (room : ℕ) → picks k p ≡ true
    → nat_lt room (room_taken k p) ≡ true → resent_pieces k room (p ∷ ps) ≡ p ∷ ps
pieces_full k p ps room marked full = rw (marked, full)

pub pieces_sent : (k : Retransmission) (p : InFlight) (ps : List InFlight) (room : ℕ) → picks k p ≡ true
    → nat_lt room (room_taken k p) ≡ false
    → resent_pieces k room (p ∷ ps) ≡ counted_again k p ∷ resent_pieces k (room - room_taken k p) ps
pieces_sent k p ps room marked fits = rw (marked, fits)

pub chunks_skip : (at_once : Bool) (k : Retransmission) (p : InFlight) (ps : List InFlight) (first index room : ℕ) → picks k p ≡ false
    → resent_chunks at_once k first index room (p ∷ ps) ≡ resent_chunks at_once k first (index + 1) room ps
chunks_skip at_once k p ps first index room unmarked = rw unmarked

pub chunks_full : (at_once : Bool) (k : Retransmission) (p : InFlight) (ps : List InFlight) (first index room : ℕ) → picks k p ≡ true
    → nat_lt room (room_taken k p) ≡ true → resent_chunks at_once k first index room (p ∷ ps) ≡ []
chunks_full at_once k p ps first index room marked full = rw (marked, full)

pub chunks_sent : (at_once : Bool) (k : Retransmission) (p : InFlight) (ps : List InFlight) (first index room : ℕ) → picks k p ≡ true
    → nat_lt room (room_taken k p) ≡ false
    → resent_chunks at_once k first index room (p ∷ ps) ≡ chunk_of at_once p (tsn_at first index)
    ∷ resent_chunks at_once k first (index + 1) (room - room_taken k p) ps
chunks_sent at_once k p ps first index room marked fits = rw (marked, fits)

one_more : {A : Type 0} → (a b w r : List A) (q : A) → b ≡ a ++ q ∷ [] → w ≡ q ∷ r → b ++ r ≡ a ++ w
one_more a b w r q e f = rw (e, f, append_assoc)

tried_skip : (k : Retransmission) (p : InFlight) (s : Sender) (index left : ℕ) → picks k p ≡ false
    → (tried_again k (Some p) s index left ≡ (s, attempts.Passed)) × (chunks_tried k (Some p) s index left ≡ [])
tried_skip k p s index left unmarked = (rw unmarked refl, rw unmarked refl)

tried_full : (k : Retransmission) (p : InFlight) (s : Sender) (index left : ℕ) → picks k p ≡ true
    → nat_lt left (room_taken k p) ≡ true
    → (tried_again k (Some p) s index left ≡ (s, attempts.Full)) × (chunks_tried k (Some p) s index left ≡ [])
tried_full k p s index left marked full = (rw (marked, full) refl, rw (marked, full) refl)

tried_sent : (k : Retransmission) (p : InFlight) (s : Sender) (index left : ℕ) → picks k p ≡ true
    → nat_lt left (room_taken k p) ≡ false
    → (tried_again k (Some p) s index left
    ≡ (with_in_flight s (set s.queue.in_flight index (counted_again k p)), attempts.Sent (left - room_taken k p)))
    × (chunks_tried k (Some p) s index left ≡ chunk_of (asks_again s) p (tsn_at s.queue.first_tsn index) ∷ [])
tried_sent k p s index left marked fits = (rw (marked, fits) refl, rw (marked, fits) refl)

-- once the piece at an index is dealt with, the rest is resent as it was to be before
pub record Stepped (k : Retransmission) (s s2 : Sender) (index left left2 : ℕ)
    (out out2 : List ChunkPayloadData) : Type 0 where
  pub count : length s2.queue.in_flight ≡ length s.queue.in_flight
  pub grown : length out ≤ length out2
  pub rest : s2 ≡ with_in_flight s s2.queue.in_flight
  pub pieces : take (index + 1) s2.queue.in_flight ++ resent_pieces k left2 (drop (index + 1) s2.queue.in_flight)
      ≡ take index s.queue.in_flight ++ resent_pieces k left (drop index s.queue.in_flight)
  pub chunks : out2 ++ resent_chunks (asks_again s2) k s2.queue.first_tsn (index + 1) left2 (drop (index + 1) s2.queue.in_flight)
      ≡ out ++ resent_chunks (asks_again s) k s.queue.first_tsn index left (drop index s.queue.in_flight)

skipped : (k : Retransmission) (p : InFlight) (s : Sender) (index left : ℕ) (out : List ChunkPayloadData)
    → slice_get s.queue.in_flight index ≡ Some p → picks k p ≡ false → Stepped k s s index left left out out
skipped k p s index left out here unmarked =
    let xs = s.queue.in_flight in
    let ds = drop (index + 1) s.queue.in_flight in
    record {
      count = refl;
      grown = omega arith;
      rest = refl;
      pieces =
          one_more (take index xs) (take (index + 1) xs) (resent_pieces k left (drop index xs))
          (resent_pieces k left ds) p
          (take_get xs index p here)
          (ap (resent_pieces k left) (drop_get xs index p here) ∙ pieces_skip k p ds left unmarked);
      chunks =
          ap (λ z. out ++ z) (sym (ap (resent_chunks (asks_again s) k s.queue.first_tsn index left) (drop_get xs index p here) ∙
          chunks_skip (asks_again s) k p ds s.queue.first_tsn index left unmarked));
    }

sent_again_at : (k : Retransmission) (p : InFlight) (s : Sender) (index left : ℕ) (out : List ChunkPayloadData)
    → slice_get s.queue.in_flight index ≡ Some p → picks k p ≡ true → nat_lt left (room_taken k p) ≡ false
    → Stepped k s (with_in_flight s (set s.queue.in_flight index (counted_again k p))) index left
    (left - room_taken k p) out (out ++ chunk_of (asks_again s) p (tsn_at s.queue.first_tsn index) ∷ [])
sent_again_at k p s index left out here marked fits =
    let xs = s.queue.in_flight in
    let first = s.queue.first_tsn in
    let q = counted_again k p in
    let left2 = left - room_taken k p in
    let chunk = chunk_of (asks_again s) p (tsn_at first index) in
    let ys = set s.queue.in_flight index q in
    let below = slice_get_within s.queue.in_flight index p here in
    let same : drop (index + 1) ys ≡ drop (index + 1) xs = drop-set-lt (index + 1) xs index q (omega arith) in
    let more = more_by_one out chunk in
    record {
      count = length-set xs index q;
      grown = omega (arith, more);
      rest = refl;
      pieces =
          one_more (take index xs) (take (index + 1) ys) (resent_pieces k left (drop index xs))
          (resent_pieces k left2 (drop (index + 1) ys)) q (take_more_set xs index q below) (
          ap (resent_pieces k left) (drop_get xs index p here) ∙ pieces_sent k p (drop (index + 1) xs) left marked fits
          ∙
          ap (λ z. q ∷ resent_pieces k left2 z) (sym same)
          );
      chunks =
          one_more out (out ++ chunk ∷ []) (resent_chunks (asks_again s) k first index left (drop index xs))
          (resent_chunks (asks_again s) k first (index + 1) left2 (drop (index + 1) ys)) chunk refl (
          ap (resent_chunks (asks_again s) k first index left) (drop_get xs index p here) ∙
          chunks_sent (asks_again s) k p (drop (index + 1) xs) first index left marked fits ∙
          ap (λ z. chunk ∷ resent_chunks (asks_again s) k first (index + 1) left2 z) (sym same)
          );
    }

pub none_past : (xs : List InFlight) (i : ℕ) → slice_get xs i ≡ None → length xs ≤ i
none_past [] i e = omega arith
none_past (x ∷ xs) zero e = absurd (cc)
none_past (x ∷ xs) (suc i) e = let below = none_past xs i e in omega arith

-- nothing more is resent from an index on
pub record Stopped (k : Retransmission) (s s2 : Sender) (index left : ℕ)
    (out out2 : List ChunkPayloadData) : Type 0 where
  pub sender : s2 ≡ s
  pub sent : out2 ≡ out
  pub pieces : resent_pieces k left (drop index s.queue.in_flight) ≡ drop index s.queue.in_flight
  pub chunks : resent_chunks (asks_again s) k s.queue.first_tsn index left (drop index s.queue.in_flight) ≡ []

past_end : (k : Retransmission) (s : Sender) (index left : ℕ) (out : List ChunkPayloadData)
    → length s.queue.in_flight ≤ index
    → Stopped k s s index left out out
past_end k s index left out past =
    let none : drop index s.queue.in_flight ≡ [] = drop_all index s.queue.in_flight past in
    record {
      sender = refl;
      sent = refl;
      pieces = rw none;
      chunks = rw none;
    }

does_not_fit : (k : Retransmission) (p : InFlight) (s : Sender) (index left : ℕ) (out : List ChunkPayloadData)
    → slice_get s.queue.in_flight index ≡ Some p → picks k p ≡ true → nat_lt left (room_taken k p) ≡ true
    → Stopped k s s index left out out
does_not_fit k p s index left out here marked full =
    let xs = s.queue.in_flight in
    let ds = drop (index + 1) s.queue.in_flight in
    record {
      sender = refl;
      sent = refl;
      pieces =
          ap (resent_pieces k left) (drop_get xs index p here) ∙ pieces_full k p ds left marked full ∙
          sym (drop_get xs index p here);
      chunks =
          ap (resent_chunks (asks_again s) k s.queue.first_tsn index left) (drop_get xs index p here) ∙
          chunks_full (asks_again s) k p ds s.queue.first_tsn index left marked full;
    }

-- what became of a piece at an index, with the chunks given before it and with it
abbrev Became : Retransmission → Sender → Sender → ℕ → ℕ → List ChunkPayloadData → List ChunkPayloadData → Attempt
    → Type 0
Became k s s2 index left out more attempts.Passed = Stepped k s s2 index left left out more × (more ≡ out)
Became k s s2 index left out more (attempts.Sent left2) =
    Stepped k s s2 index left left2 out more × (length more ≡ length out + 1)
Became k s s2 index left out more attempts.Full = Stopped k s s2 index left out more

became : (k : Retransmission) (o : Option InFlight) (s : Sender) (index left : ℕ) (out : List ChunkPayloadData)
    → slice_get s.queue.in_flight index ≡ o
    → Became k s (tried_again k o s index left).0 index left out (out ++ chunks_tried k o s index left)
    (tried_again k o s index left).1
became k None s index left out here =
    rw (append-nil out) (past_end k s index left out (none_past s.queue.in_flight index here))
became k (Some p) s index left out here =
    ⊎_elim (
    λ (marked : picks k p ≡ true). ⊎_elim (
    λ (full : nat_lt left (room_taken k p) ≡ true).
    let e = tried_full k p s index left marked full in
    rw (e.0, e.1, append-nil out) (does_not_fit k p s index left out here marked full)
    ) (
    λ (fits : nat_lt left (room_taken k p) ≡ false).
    let e = tried_sent k p s index left marked fits in
    rw (e.0, e.1)
    (sent_again_at k p s index left out here marked fits, more_by_one out (chunk_of (asks_again s) p (tsn_at s.queue.first_tsn index)))
    ) (cases_Bool (nat_lt left (room_taken k p)))
    ) (
    λ (unmarked : picks k p ≡ false).
    let e = tried_skip k p s index left unmarked in
    rw (e.0, e.1, append-nil out) (skipped k p s index left out here unmarked, refl)
    ) (cases_Bool (picks k p))

-- before an index the pieces are as they will stay; with what is resent of the rest they are what the whole was to
-- become; so many chunks were given, and are written
pub record ResendsOn (k : Retransmission) (s0 s : Sender) (i end room left sent : ℕ) (out0 out : DataWritten) : Type 0
  where
    pub count : end ≡ length s.queue.in_flight
    pub rest : s ≡ with_in_flight s0 s.queue.in_flight
    pub pieces : take i s.queue.in_flight ++ resent_pieces k left (drop i s.queue.in_flight)
        ≡ resent_pieces k room s0.queue.in_flight
    pub given : List ChunkPayloadData
    pub many : sent ≡ length given
    pub few : length given ≤ i
    pub chunks : given ++ resent_chunks (asks_again s) k s.queue.first_tsn i left (drop i s.queue.in_flight)
        ≡ resent_chunks (asks_again s0) k s0.queue.first_tsn 0 room s0.queue.in_flight
    pub written : out ≡ with_all out0 given

-- a piece that is to be sent again is the first of what is resent from its index on
goes_first : (k : Retransmission) (o : Option InFlight) (s : Sender) (index left : ℕ)
    → slice_get s.queue.in_flight index ≡ o
    → goes_again k o left ≡ true
    → 0 < length (resent_chunks (asks_again s) k s.queue.first_tsn index left (drop index s.queue.in_flight))
goes_first k None s index left here again = absurd (false_from_true again)
goes_first k (Some p) s index left here again =
    let parts = and_parts (picks k p) (not (nat_lt left (room_taken k p))) again in
    let first =
    ap (resent_chunks (asks_again s) k s.queue.first_tsn index left) (drop_get s.queue.in_flight index p here) ∙
    chunks_sent (asks_again s) k p (drop (index + 1) s.queue.in_flight) s.queue.first_tsn index left parts.0 (not-true _ parts.1) in
    rw first (omega arith)

module _ {k : Retransmission} {s0 s : Sender} {i end room left sent : ℕ} {out0 out : DataWritten}
    (inv : ResendsOn k s0 s i end room left sent out0 out) where
  -- with the piece at the index dealt with
  stepped_on : {s2 : Sender} {left2 : ℕ} {more : List ChunkPayloadData} (sent2 : ℕ) (out2 : DataWritten)
      → Stepped k s s2 i left left2 inv.given more → sent2 ≡ length more → length more ≤ i + 1
      → out2 ≡ with_all out0 more → ResendsOn k s0 s2 (i + 1) end room left2 sent2 out0 out2
  stepped_on {s2 = s2} {more = more} sent2 out2 step many few written = record {
    count = inv.count ∙ sym step.count;
    rest = step.rest ∙ ap (λ (z : Sender). with_in_flight z s2.queue.in_flight) inv.rest;
    pieces = step.pieces ∙ inv.pieces;
    given = more;
    many = many;
    few = few;
    chunks = step.chunks ∙ inv.chunks;
    written = written;
  }

  now_written : (out2 : DataWritten)
      → out2 ≡ with_all out (chunks_tried k (slice_get s.queue.in_flight i) s i left)
      → out2 ≡ with_all out0 (inv.given ++ chunks_tried k (slice_get s.queue.in_flight i) s i left)
  now_written out2 e =
      e ∙ ap (λ (w : DataWritten). with_all w (chunks_tried k (slice_get s.queue.in_flight i) s i left)) inv.written
      ∙ sym (all_after out0 inv.given (chunks_tried k (slice_get s.queue.in_flight i) s i left))

  of_attempt : {s2 : Sender} {attempt : Attempt}
      → tried_again k (slice_get s.queue.in_flight i) s i left ≡ (s2, attempt)
      → Became k s s2 i left inv.given (inv.given ++ chunks_tried k (slice_get s.queue.in_flight i) s i left) attempt
  of_attempt e =
      subst (λ (z : Sender × Attempt). Became k s z.0 i left inv.given
      (inv.given ++ chunks_tried k (slice_get s.queue.in_flight i) s i left) z.1) e
      (became k (slice_get s.queue.in_flight i) s i left inv.given refl)

  pub passes_on : {s2 : Sender} (out2 : DataWritten)
      → tried_again k (slice_get s.queue.in_flight i) s i left ≡ (s2, attempts.Passed)
      → out2 ≡ with_all out (chunks_tried k (slice_get s.queue.in_flight i) s i left)
      → ResendsOn k s0 s2 (i + 1) end room left sent out0 out2
  passes_on out2 e written =
      let done = of_attempt e in
      let same = ap length done.1 in
      stepped_on sent out2 done.0 (inv.many ∙ sym same) (omega (arith, same, inv.few)) (now_written out2 written)

  pub resends_on : {s2 : Sender} {left2 : ℕ} (out2 : DataWritten)
      → tried_again k (slice_get s.queue.in_flight i) s i left ≡ (s2, attempts.Sent left2)
      → out2 ≡ with_all out (chunks_tried k (slice_get s.queue.in_flight i) s i left)
      → ResendsOn k s0 s2 (i + 1) end room left2 (sent + 1) out0 out2
  resends_on out2 e written =
      let done = of_attempt e in
      stepped_on (sent + 1) out2 done.0 (omega (arith, done.1, inv.many)) (omega (arith, done.1, inv.few))
      (now_written out2 written)

  stopped : {s2 : Sender} → tried_again k (slice_get s.queue.in_flight i) s i left ≡ (s2, attempts.Full)
      → Stopped k s s2 i left inv.given (inv.given ++ chunks_tried k (slice_get s.queue.in_flight i) s i left)
  stopped e = of_attempt e

  -- with nothing more resent from the index on

  pub ends_sender : {s2 : Sender} {more : List ChunkPayloadData} → Stopped k s s2 i left inv.given more
      → s2 ≡ with_in_flight s0 (resent_pieces k room s0.queue.in_flight)
  ends_sender stop =
      let xs = s.queue.in_flight in
      let all : xs ≡ resent_pieces k room s0.queue.in_flight =
      sym (take-append-drop i xs) ∙ ap (λ z. take i xs ++ z) (sym stop.pieces) ∙ inv.pieces in
      stop.sender ∙ inv.rest ∙ ap (with_in_flight s0) all

  all_given : {s2 : Sender} {more : List ChunkPayloadData} → Stopped k s s2 i left inv.given more
      → inv.given ≡ resent_chunks (asks_again s0) k s0.queue.first_tsn 0 room s0.queue.in_flight
  all_given stop = sym (append-nil inv.given) ∙ ap (λ z. inv.given ++ z) (sym stop.chunks) ∙ inv.chunks

  pub ends_out : {s2 : Sender} {more : List ChunkPayloadData} (out2 : DataWritten)
      → Stopped k s s2 i left inv.given more → out2 ≡ with_all out0 more
      → out2 ≡ with_all out0 (resent_chunks (asks_again s0) k s0.queue.first_tsn 0 room s0.queue.in_flight)
  ends_out out2 stop written = written ∙ ap (with_all out0) (stop.sent ∙ all_given stop)

  pub ends_count : {s2 : Sender} {more : List ChunkPayloadData} → Stopped k s s2 i left inv.given more
      → sent ≡ length (resent_chunks (asks_again s0) k s0.queue.first_tsn 0 room s0.queue.in_flight)
  ends_count stop = inv.many ∙ ap length (all_given stop)

  pub resent_sender : {s2 : Sender} → tried_again k (slice_get s.queue.in_flight i) s i left ≡ (s2, attempts.Full)
      → s2 ≡ with_in_flight s0 (resent_pieces k room s0.queue.in_flight)
  resent_sender e = ends_sender (stopped e)

  pub resent_out : {s2 : Sender} (out2 : DataWritten)
      → tried_again k (slice_get s.queue.in_flight i) s i left ≡ (s2, attempts.Full)
      → out2 ≡ with_all out (chunks_tried k (slice_get s.queue.in_flight i) s i left)
      → out2 ≡ with_all out0 (resent_chunks (asks_again s0) k s0.queue.first_tsn 0 room s0.queue.in_flight)
  resent_out out2 e written = ends_out out2 (stopped e) (now_written out2 written)

  pub resent_count : {s2 : Sender} → tried_again k (slice_get s.queue.in_flight i) s i left ≡ (s2, attempts.Full)
      → sent ≡ length (resent_chunks (asks_again s0) k s0.queue.first_tsn 0 room s0.queue.in_flight)
  resent_count e = ends_count (stopped e)

  pub resends_some : goes_again k (slice_get s.queue.in_flight i) left ≡ true
      → nat_lt 0 (length (resent_chunks (asks_again s0) k s0.queue.first_tsn 0 room s0.queue.in_flight)) ≡ true
  resends_some again =
      let rest = resent_chunks (asks_again s) k s.queue.first_tsn i left (drop i s.queue.in_flight) in
      let all = resent_chunks (asks_again s0) k s0.queue.first_tsn 0 room s0.queue.in_flight in
      let some = goes_first k (slice_get s.queue.in_flight i) s i left refl again in
      let lengths : length inv.given + length rest ≡ length all =
      sym (length-append inv.given rest) ∙ ap length inv.chunks in
      lt-ltb _ _ (omega (arith, lengths, some))

-- DATA that waits

module _ {s0 s : Sender} {now : ℕ} {any : Bool} {out0 out : DataWritten} (inv : SendsOn s0 s now any out0 out) where
  pub sends_more : {s2 : Sender} (out2 : DataWritten) → can_send_next s ≡ true
      → (sent_one s.queue.pending s now).0 ≡ s2 → s2.queue.pending ≡ after_piece s.queue.pending
      → out2 ≡ with_all out (sent_one s.queue.pending s now).1 → SendsOn s0 s2 now true out0 out2
  sends_more {s2 = s2} out2 fits sent left written =
      let one = sent_one s.queue.pending s now in
      let less : pieces_waiting s.queue.pending ≡ suc (pieces_waiting s2.queue.pending) =
      one_piece_less s s.queue.pending fits ∙ ap (λ ms. suc (pieces_waiting ms)) (sym left) in
      let more =
      sent_more (pieces_waiting s.queue.pending) (pieces_waiting s2.queue.pending) s now less fits in
      let rest : (sent_within (pieces_waiting s2.queue.pending) (sent_one s.queue.pending s now).0 now)
      ≡ sent_within (pieces_waiting s2.queue.pending) s2 now =
      ap (λ (z : Sender). sent_within (pieces_waiting s2.queue.pending) z now) sent in
      let many = length-append inv.given (sent_one s.queue.pending s now).1 in
      let first = one_of s.queue.pending s now (fits_some s (slice_get s.queue.pending 0) fits) in
      record {
        given = inv.given ++ (sent_one s.queue.pending s now).1;
        some = sym (lt-ltb _ _ (omega (arith, many, first)));
        sender =
            sym (ap (λ (z : Sender × List ChunkPayloadData). z.0) rest)
            ∙ sym (ap (λ (z : Sender × List ChunkPayloadData). z.0) more) ∙ inv.sender;
        all =
            append_assoc inv.given one.1 (sent_within (pieces_waiting s2.queue.pending) s2 now).1
            ∙ ap (λ (z : Sender × List ChunkPayloadData). inv.given ++ (one.1 ++ z.1)) (sym rest)
            ∙ ap (λ (z : Sender × List ChunkPayloadData). inv.given ++ z.1) (sym more) ∙ inv.all;
        written =
            written ∙ ap (λ (w : DataWritten). with_all w (sent_one s.queue.pending s now).1) inv.written
            ∙ sym (all_after out0 inv.given (sent_one s.queue.pending s now).1);
      }

  pub sent_sender : can_send_next s ≡ false → (sent_within (pieces_waiting s0.queue.pending) s0 now).0 ≡ s
  sent_sender full =
      sym inv.sender
      ∙ ap (λ (z : Sender × List ChunkPayloadData). z.0) (within_end (pieces_waiting s.queue.pending) s now full)

  sent_given : can_send_next s ≡ false → inv.given ≡ (sent_within (pieces_waiting s0.queue.pending) s0 now).1
  sent_given full =
      sym (append-nil inv.given)
      ∙ ap (λ (z : Sender × List ChunkPayloadData). inv.given ++ z.1)
      (sym (within_end (pieces_waiting s.queue.pending) s now full))
      ∙ inv.all

  pub sent_out : can_send_next s ≡ false
      → out ≡ with_all out0 (sent_within (pieces_waiting s0.queue.pending) s0 now).1
  sent_out full = inv.written ∙ ap (with_all out0) (sent_given full)

  pub sent_any : can_send_next s ≡ false
      → any ≡ nat_lt 0 (length (sent_within (pieces_waiting s0.queue.pending) s0 now).1)
  sent_any full = inv.some ∙ ap (λ (z : List ChunkPayloadData). nat_lt 0 (length z)) (sent_given full)

  -- where a piece fits, some is sent
  pub sends_some : can_send_next s ≡ true
      → nat_lt 0 (length (sent_within (pieces_waiting s0.queue.pending) s0 now).1) ≡ true
  sends_some fits =
      let some = within_sends s now fits in
      let lengths =
      sym (length-append inv.given (sent_within (pieces_waiting s.queue.pending) s now).1) ∙ ap length inv.all in
      lt-ltb _ _ (omega (arith, lengths, some))

-- DATA of a poll that is sent again is given: what was marked, and what is missing
pub marked_gives : (s : Sender) (now : ℕ) → nat_lt 0 (length (marked_by s)) ≡ true → gives_data s now ≡ true
marked_gives s now some =
    let some_marked = ltb-true _ _ some in
    let both = length-append (marked_by s) (missing_by (after_marked s)) in
    or_left (resends s) (sends_new (after_resending s) now) (lt-ltb _ _ (omega (arith, some_marked, both)))

pub missing_gives : (s : Sender) (now : ℕ) → nat_lt 0 (length (missing_by (after_marked s))) ≡ true
    → gives_data s now ≡ true
missing_gives s now some =
    let some_missing = ltb-true _ _ some in
    let both = length-append (marked_by s) (missing_by (after_marked s)) in
    or_left (resends s) (sends_new (after_resending s) now) (lt-ltb _ _ (omega (arith, some_missing, both)))

-- and so is DATA that is sent behind it for the first time
pub sending_gives : (s : Sender) (now : ℕ) → sends_new (after_resending s) now ≡ true → gives_data s now ≡ true
sending_gives s now new = or_right (resends s) (sends_new (after_resending s) now) new
