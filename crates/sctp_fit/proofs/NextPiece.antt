-- The next piece that waits goes out, the first of a message or a later one: it stands on the next offset, and is DATA
-- of the direction.
use Rattle.std.proofs.Common.{ℕ, suc, ◌+◌, ◌-◌, ◌<◌, ◌≤◌, ◌≡◌, Bool, true, false, not, eqb, ◌&&◌, List, [], ◌∷◌, ◌++◌}
use Rattle.std.proofs.Common.{length, drop, Option, Some, None, is_some, refl, sym, ap, ◌∙◌, subst, ⊎_elim}
use Rattle.std.proofs.Common.{if◌then◌else◌, arith}
use Rattle.std.specs.Prelude.{slice_get, slice_index_or}
use Rattle.std.specs.List.{AllByRecursion}
use Rattle.std.proofs.Math.Dec.{eqb-suc-zero}
use Rattle.std.proofs.lemmas.Bool.{and_parts, cases_Bool, cases_lt, cond_both, cond-true, cond-false}
use Rattle.std.proofs.lemmas.Bool.{false_from_ne_true, not-true, true_from_ne_false, true≢false}
use Rattle.sctp_wire_types.specs.declared.chunk.ChunkPayloadData.{ChunkPayloadData}
use Rattle.sctp_outbound_queue.specs.declared.message.InFlight.{InFlight}
use Rattle.sctp_outbound_queue.specs.Waiting.{Waiting}
use Rattle.sctp_outbound_queue.specs.Message.{sent_once, without_piece}
use Rattle.sctp_outbound_queue.specs.Outbound.{left_behind, sent_from}
use Rattle.sctp_outbound.specs.Sender.{next_chunk_of}
use Rattle.sctp_streams.specs.Stream.{StreamView}
use Rattle.sctp_streams.specs.Streams.{stream_at}
use Rattle.sctp_serial.specs.Serial.{tsn}
use Rattle.sctp_model.specs.Messages.{Place, Plan, is_last, is_last_piece, message_at, piece_of, place_at}
use Rattle.sctp_model.specs.Packets.{Data, data_of, mem}
use Rattle.sctp_model.specs.Machine.{Direction, Event, Sender, first_place, following, is_unsent, left_after, next_data}
use Rattle.sctp_model.specs.Machine.{put, put_2, run, with_place}
use Rattle.sctp_model.specs.Invariants.{Invariant, IsGoing}
use Rattle.sctp_model.proofs.PlansGrow.{IsExtended, data_kept, place_extended}
use Rattle.sctp_model.proofs.OffsetPlaces.{length_placed, place_new}
use Rattle.sctp_fit.specs.Incoming.{IsSaid}
use Rattle.sctp_fit.specs.Outgoing.{AreInFlight, ArePieces, AreUnsent, AreWaiting, CountsBegun, FitsOutgoing}
use Rattle.sctp_fit.specs.Outgoing.{IsGoingOn, IsInFlight, IsMessage, IsNumbered, IsOwnAt, IsPieceOf, IsUnsent}
use Rattle.sctp_fit.specs.Outgoing.{IsWaiting, Names, Sending, number_at, numbers_after, numbers_past}
use Rattle.sctp_fit.specs.Sendings.{IsGiven, IsSentBy, SendsNext, SentPiecesAreEvents, next_chunks, sent}
use Rattle.sctp_fit.proofs.SentAgain.{flight_length, got_last, said_at}
use Rattle.sctp_fit.proofs.SpansNamed.{named_within}
use Rattle.sctp_fit.proofs.UnsentKept.{alike_same, attributes_kept, unsent_kept}
use Rattle.sctp_fit.proofs.FirstPiece.{Counters, PassesTo, alike_begun, counters_of, happens_begin, happens_go_on}
use Rattle.sctp_fit.proofs.FirstPiece.{passable, passes, with_piece}

-- an offset past the last one isn't acknowledged
pub none_past : (w : Direction) → Invariant w → (o : ℕ) → length w.sender.plan.places ≤ o → w.sender.acknowledged o ≡ false
none_past w inv o l = false_from_ne_true _ (λ (a : w.sender.acknowledged o ≡ true). ⊎_elim
    (λ (m : mem o w.receiver.taken ≡ true). let t = (inv.taken o m).0 in omega arith)
    (λ (b : o < w.receiver.passed). let t = inv.passed in omega arith)
    (inv.acknowledged o a))

-- Pieces

first_of : (size : ℕ) (bytes : List ℕ) (k : ℕ) (first : List ℕ) (rest : List (List ℕ))
    → ArePieces size bytes k first rest → first ≡ piece_of size bytes k
first_of size bytes k first [] (a, b) = a
first_of size bytes k first (r ∷ rs) (a, b, c) = a

-- none is left behind the last piece alone
last_of : (size : ℕ) (bytes : List ℕ) (k : ℕ) (first : List ℕ) (rest : List (List ℕ))
    → ArePieces size bytes k first rest → eqb (length rest) 0 ≡ is_last_piece size bytes k
last_of size bytes k first [] (a, b) = sym b
last_of size bytes k first (r ∷ rs) (a, b, c) = eqb-suc-zero (length rs) ∙ sym b

-- What is in flight

module _ (n : Names) (p q : Plan) (e : IsExtended p q) where
  -- a piece in flight stays that of its offset when the plan grows
  pub in_flight_kept : {acknowledged : ℕ → Bool} {gone : ℕ → ℕ → Bool} → (o : ℕ) (x : InFlight)
      → IsInFlight n p acknowledged gone o x → IsInFlight n q acknowledged gone o x
  in_flight_kept {gone = gone} o x h = record {
    known = let l = h.known in let m = e.more in omega arith;
    stream = h.stream ∙ ap (λ z. z.stream) (sym (e.places o h.known));
    message =
        subst (λ z. IsMessage n q z.message z.ssn x.message) (sym (e.places o h.known))
        (attributes_kept n p q e _ _ x.message h.message);
    piece = λ m.
        let k = h.piece (ap (λ z. z.marker) (sym (e.places o h.known)) ∙ m) in
        let same = sym (data_kept p q e o h.known) in
        record {
          first = k.first ∙ ap (λ d. d.first) same;
          last = k.last ∙ ap (λ d. d.last) same;
          bytes = k.bytes ∙ ap (λ d. d.bytes) same;
        };
    acked = h.acked;
    abandoned = h.abandoned ∙ ap (λ z. gone z.stream z.message) (sym (e.places o h.known));
  }

  -- the pieces in flight, with one on the next offset
  pub flight_placed : {acknowledged : ℕ → Bool} {gone : ℕ → ℕ → Bool} → (o : ℕ) (xs : List InFlight) (x : InFlight)
      → length q.places ≡ suc (length p.places)
      → IsInFlight n q acknowledged gone (length p.places) x → AreInFlight n p acknowledged gone o xs
      → AreInFlight n q acknowledged gone o (xs ++ x ∷ [])
  flight_placed {acknowledged = acknowledged} {gone = gone} o [] x l h all =
      (subst (λ z. IsInFlight n q acknowledged gone z x) (sym all) h, ap suc all ∙ sym l)
  flight_placed o (y ∷ ys) x l h (k, ks) = (in_flight_kept o y k, flight_placed (suc o) ys x l h ks)

-- The piece

-- The place y may take the next offset, as that of the next piece of the message x that waits.
record IsNextPiece (n : Names) (v : Sender) (y : Place) (x : Waiting) : Type 0 where
  waits : IsWaiting n v.plan y.message y.ssn y.piece x
  stream : x.message.stream_identifier ≡ y.stream
  first : not x.begun ≡ eqb y.piece 0
  stays : v.gone y.stream y.message ≡ false

module _ (n : Names) (w : Direction) (inv : Invariant w) (x : Waiting) (y : Place)
    (h : IsNextPiece n w.sender y x) where
  extended : IsExtended w.sender.plan (with_place w.sender.plan y)
  extended = place_extended w.sender.plan y inv.planned.known

  now_on : place_at (with_place w.sender.plan y) (length w.sender.plan.places) ≡ y
  now_on = place_new w.sender.plan y (length w.sender.plan.places) refl

  message : IsMessage n (with_place w.sender.plan y) y.message y.ssn x.message
  message = attributes_kept n w.sender.plan (with_place w.sender.plan y) extended _ _ x.message h.waits.message

  -- none is left behind it where it is the message's last piece
  last : eqb (length x.rest) 0 ≡ is_last w.sender.plan y
  last =
      last_of w.sender.plan.size _ y.piece x.user_data x.rest h.waits.pieces
      ∙ ap (λ s. is_last_piece w.sender.plan.size (message_at w.sender.plan s y.message).bytes y.piece) h.stream

  carries : (now : ℕ) → IsPieceOf (with_place w.sender.plan y) y (sent_once now x)
  carries now = record {
    first = h.first;
    last = last;
    bytes =
        first_of w.sender.plan.size _ y.piece x.user_data x.rest h.waits.pieces
        ∙ ap (λ s. piece_of w.sender.plan.size (message_at w.sender.plan s y.message).bytes y.piece) h.stream;
  }

  -- the piece is in flight on the next offset
  flies : (now : ℕ) → IsInFlight n (with_place w.sender.plan y) w.sender.acknowledged w.sender.gone
      (length w.sender.plan.places) (sent_once now x)
  flies now = record {
    known = let l = length_placed w.sender.plan y in omega arith;
    stream = h.stream ∙ ap (λ z. z.stream) (sym now_on);
    message = subst (λ z. IsMessage n (with_place w.sender.plan y) z.message z.ssn x.message) (sym now_on) message;
    piece = λ m. subst (λ z. IsPieceOf (with_place w.sender.plan y) z (sent_once now x)) (sym now_on) (carries now);
    acked = sym (none_past w inv (length w.sender.plan.places) (omega arith));
    abandoned = sym (ap (λ z. w.sender.gone z.stream z.message) now_on ∙ h.stays);
  }

  -- it is said to be the DATA of that offset
  said : (own : ℕ) (at_once : Bool) → ((s : ℕ) → w.over s ≡ false → n.within s ≡ true)
      → IsSaid w.over own (next_chunk_of at_once x (tsn own (length w.sender.plan.places))) (next_data w.sender y)
  said own at_once within =
      subst (λ z. IsSaid w.over own (next_chunk_of at_once x (tsn own (length w.sender.plan.places)))
      (data_of (with_place w.sender.plan y) (length w.sender.plan.places) z)) (sym now_on)
      (said_at w.over own n within (with_place w.sender.plan y) (length w.sender.plan.places) y (sent_once 0 x) message
      h.stream (carries 0) at_once)

  -- what waits once it went out
  waiting_left : (unsent : ℕ → ℕ → Bool) (numbers : ℕ → ℕ) (xs : List Waiting)
      → AreUnsent n (with_place w.sender.plan y) unsent (λ s. 0) numbers xs
      → AreWaiting n (with_place w.sender.plan y) unsent numbers (left_after w.sender.plan y) (left_behind x xs)
  waiting_left unsent numbers xs all = by_rest x.rest refl
    where
      bytes : List ℕ
      bytes = (message_at w.sender.plan x.message.stream_identifier y.message).bytes

      by_rest : (rest : List (List ℕ)) → x.rest ≡ rest
          → AreWaiting n (with_place w.sender.plan y) unsent numbers (left_after w.sender.plan y) (left_behind x xs)
      by_rest [] e =
          let none : eqb (length x.rest) 0 ≡ true = ap (λ z. eqb (length z) 0) e in
          subst (λ c. AreWaiting n (with_place w.sender.plan y) unsent numbers c (left_behind x xs))
          (sym (cond-true _ None (Some (following y)) (sym last ∙ none)))
          (subst (AreWaiting n (with_place w.sender.plan y) unsent numbers None)
          (sym (cond-true _ xs (without_piece x ∷ xs) none)) all)
      by_rest (r ∷ rs) e =
          let some : eqb (length x.rest) 0 ≡ false = ap (λ z. eqb (length z) 0) e ∙ eqb-suc-zero (length rs) in
          let pieces : ArePieces w.sender.plan.size bytes y.piece x.user_data (r ∷ rs) =
          subst (ArePieces w.sender.plan.size bytes y.piece x.user_data) e h.waits.pieces in
          subst (λ c. AreWaiting n (with_place w.sender.plan y) unsent numbers c (left_behind x xs))
          (sym (cond-false _ None (Some (following y)) (sym last ∙ some)))
          (subst (AreWaiting n (with_place w.sender.plan y) unsent numbers (Some (following y)))
          (sym (cond-false _ xs (without_piece x ∷ xs) some)) (
            record {
              begun = refl;
              stream = h.stream;
              waits = record {
                message = message;
                pieces =
                    subst (λ z. ArePieces w.sender.plan.size bytes (suc y.piece) (slice_index_or z 0 []) (drop 1 z))
                    (sym e) pieces.2;
              };
            },
            all,
          ))

-- What stays beside

-- the next numbers behind what waits unsent, with the rest of a message before that or not
numbers_left : (numbers : ℕ → ℕ) (x : Waiting) (xs : List Waiting) (s : ℕ)
    → numbers_after numbers (left_behind x xs) s ≡ numbers_after numbers xs s
numbers_left numbers x xs s =
    cond_both (eqb (length x.rest) 0) xs (without_piece x ∷ xs)
    (λ z. numbers_after numbers z s ≡ numbers_after numbers xs s) (λ b. refl) (λ b. refl)

-- one more offset says nothing of what is buffered
own_placed : (p : Plan) (y : Place) (freed s : ℕ) (o : Option StreamView) → IsOwnAt p freed s o
    → IsOwnAt (with_place p y) freed s o
own_placed p y freed s None h = h
own_placed p y freed s (Some t) h = h

-- What waits first goes out

module _ (own : ℕ) (a : Sending) (at_once : Bool) (now : ℕ) (w : Direction) (inv : Invariant w)
    (counts : CountsBegun w.sender) (f : FitsOutgoing a w) (x : Waiting) (xs : List Waiting) (e : a.queue.pending ≡ x ∷ xs) where
  -- the piece of the place y is DATA of the direction once it went out
  given : (y : Place) (c : Counters) → IsNextPiece f.named w.sender y x
      → IsGiven own (with_piece w y c) (next_chunk_of at_once x (tsn own (a.base + length a.queue.in_flight)))
  given y c h = (
    length w.datas,
    next_data w.sender y,
    got_last w.datas _,
    subst (λ o. IsSaid w.over own (next_chunk_of at_once x (tsn own o)) (next_data w.sender y))
        (let l =
        flight_length f.named w.sender.plan w.sender.acknowledged w.sender.gone w.sender.reach a.queue.in_flight
        f.flight in
        let b = f.base in
        let g : length w.sender.plan.places ≡ a.base + length a.queue.in_flight = omega arith in g)
        (said f.named w inv x y h own at_once (named_within a w f)),
  )

  -- events that lead to the direction in which it went out are those by which the next piece is sent
  sent_by : (y : Place) (c : Counters) (events : List Event) → AllByRecursion SendsNext events
      → run events w ≡ with_piece w y c → IsNextPiece f.named w.sender y x
      → AreUnsent f.named (with_place w.sender.plan y) (is_unsent (with_piece w y c).sender) (λ s. 0) c.ssn xs
      → ((s : ℕ) → numbers_after c.ssn xs s ≡ numbers_after w.sender.ssn (x ∷ xs) s)
      → IsSentBy own a at_once now w events
  sent_by y c events sends is h all numbers = record {
    sends = sends;
    fits = subst (FitsOutgoing (sent a now)) (sym is)
        (subst (λ ps. FitsOutgoing (record a { queue = sent_from ps a.queue now }) (with_piece w y c)) (sym e)
        (record {
          named = f.named;
          within = f.within;
          names = record { below = f.names.below; one = f.names.one };
          size = f.size;
          base = f.base;
          flight =
              flight_placed f.named w.sender.plan (with_place w.sender.plan y) (extended f.named w inv x y h)
              w.sender.reach a.queue.in_flight (sent_once now x) (length_placed w.sender.plan y)
              (flies f.named w inv x y h now) f.flight;
          waiting = waiting_left f.named w inv x y h (is_unsent (with_piece w y c).sender) c.ssn xs all;
          live = λ s t v there.
              subst (λ z. IsNumbered f.named z s t)
              (ap (λ ps. numbers_after w.sender.ssn ps s) e ∙ sym (numbers s) ∙ sym (numbers_left c.ssn x xs s))
              (f.live s t v there);
          own_streams = λ s v.
              own_placed w.sender.plan y (w.sender.released s) s (stream_at a.streams s) (f.own_streams s v);
        }));
    given =
        subst (λ ps. AllByRecursion (IsGiven own (run events w))
        (next_chunks at_once ps (tsn own (a.base + length a.queue.in_flight)))) (sym e) (
          subst (λ v. IsGiven own v (next_chunk_of at_once x (tsn own (a.base + length a.queue.in_flight)))) (sym is)
              (given y c h),
          tt,
        );
  }

  -- the message that was begun goes on
  goes_on : (y : Place) → w.sender.current ≡ Some y → IsGoingOn f.named w.sender.plan y x
      → AreUnsent f.named w.sender.plan (is_unsent w.sender) (λ s. 0) w.sender.ssn xs
      → (events : List Event) × IsSentBy own a at_once now w events
  goes_on y c h all = (
    Event.GoOn ∷ [],
    sent_by y (counters_of w.sender) (Event.GoOn ∷ []) (tt, tt) (happens_go_on w y c)
        (record {
          waits = h.waits;
          stream = h.stream;
          first = ap not h.begun ∙ sym (ap (λ k. eqb k 0) (going.follows).piece ∙ eqb-suc-zero _);
          stays = going.stays;
        })
        (unsent_kept f.named w.sender.plan (with_place w.sender.plan y)
        (place_extended w.sender.plan y inv.planned.known) w.sender.ssn xs
        (alike_same (is_unsent w.sender) (λ s. 0)) all)
        (λ s. ap (λ (b : Bool). numbers_after (if b then w.sender.ssn else numbers_past w.sender.ssn x.message) xs s)
        (sym h.begun)),
  )
    where
      going : IsGoing w.sender.plan w.sender.gone y
      going = inv.sending.going y c

  -- or message i of its stream begins
  begins : w.sender.current ≡ None → (i : ℕ)
      → IsUnsent f.named w.sender.plan (is_unsent w.sender) 0 (number_at w.sender.ssn x.message) i x
      → AreUnsent f.named w.sender.plan (is_unsent w.sender) (put (λ s. 0) x.message.stream_identifier (suc i))
      (numbers_past w.sender.ssn x.message) xs
      → (events : List Event) × IsSentBy own a at_once now w events
  begins c i h all = ⊎_elim
      (λ (u : x.message.unordered ≡ true).
      by_events (record { events = first ∷ []; after = w.sender.next; sends = (tt, tt); leads = refl })
      (λ (o : x.message.unordered ≡ false). absurd (true≢false (sym u ∙ o))))
      (λ (u : x.message.unordered ≡ false).
      let l = behind u in
      let r =
      passes w s i first tt (i - w.sender.next s) w.sender.next (omega arith)
      (λ j m b. passable w.sender s j counts (let k = h.waits.message.known in omega arith)
      (h.next j (omega arith) b) m) in
      by_events r.0 (λ o. r.1))
      (cases_Bool x.message.unordered)
    where
      s : ℕ
      s = x.message.stream_identifier

      y : Place
      y = first_place s i (number_at w.sender.ssn x.message)

      first : Event
      first = Event.Begin s i x.message.stream_sequence_number

      -- an ordered message that is unsent is the stream's next one or a later one
      behind : x.message.unordered ≡ false → w.sender.next s ≤ i
      behind u =
          let o : (message_at w.sender.plan s i).ordered ≡ true =
          true_from_ne_false _ (λ (b : (message_at w.sender.plan s i).ordered ≡ false).
          true≢false (sym (ap not b) ∙ sym h.waits.message.ordered ∙ u)) in
          ⊎_elim
          (λ (l : i < w.sender.next s). absurd (true≢false (sym h.is ∙ counts.behind s i l o)))
          (λ (l : w.sender.next s ≤ i). l)
          (cases_lt i (w.sender.next s))

      stays : w.sender.gone s i ≡ false
      stays =
          let b = (and_parts _ (not (w.sender.begun s i) && not (w.sender.gone s i)) h.is).1 in
          not-true _ (and_parts (not (w.sender.begun s i)) (not (w.sender.gone s i)) b).1

      by_events : (r : PassesTo w w.sender.next first) → (x.message.unordered ≡ false → r.after s ≡ i)
          → (events : List Event) × IsSentBy own a at_once now w events
      by_events r there =
          let b =
          happens_begin w s i x.message.stream_sequence_number r.after c h.is x.message.unordered
          h.waits.message.ordered there in (
            r.events,
            sent_by y (record {
              next = b.0;
              ssn = numbers_past w.sender.ssn x.message;
              begun = put_2 w.sender.begun s i;
            }) r.events r.sends (r.leads ∙ b.1)
                (record { waits = h.waits; stream = refl; first = ap not h.begun; stays = stays })
                (unsent_kept f.named w.sender.plan (with_place w.sender.plan y)
                (place_extended w.sender.plan y inv.planned.known) (numbers_past w.sender.ssn x.message) xs
                (alike_begun w.sender s i (λ j l. h.next j (omega arith) l)) all)
                (λ t. ap
                (λ (k : Bool). numbers_after (if k then w.sender.ssn else numbers_past w.sender.ssn x.message) xs t)
                (sym h.begun)),
          )

  -- whichever it is
  next_sent : (c : Option Place) → w.sender.current ≡ c
      → AreWaiting f.named w.sender.plan (is_unsent w.sender) w.sender.ssn c (x ∷ xs)
      → (events : List Event) × IsSentBy own a at_once now w events
  next_sent None c (i, h, hs) = begins c i h hs
  next_sent (Some y) c (h, hs) = goes_on y c h hs

-- A piece that goes out for the first time begins a message or goes on with one, and is DATA of the direction.
pub sent_pieces_are_events : SentPiecesAreEvents
sent_pieces_are_events own a at_once now w can inv counts f = by_first a.queue.pending refl can f.waiting
  where
    by_first : (ps : List Waiting) → a.queue.pending ≡ ps → is_some (slice_get ps 0) ≡ true
        → AreWaiting f.named w.sender.plan (is_unsent w.sender) w.sender.ssn w.sender.current ps
        → (events : List Event) × IsSentBy own a at_once now w events
    by_first [] e some all = absurd (true≢false (sym some))
    by_first (x ∷ xs) e some all = next_sent own a at_once now w inv counts f x xs e w.sender.current refl all
