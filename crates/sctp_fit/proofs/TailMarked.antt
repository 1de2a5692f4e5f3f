-- A message of which something was sent is abandoned whole by an association and its direction: what is in flight of
-- it, and its tail that waits, for which a marker takes the next offset (RFC 3758 section 3.5).
use Rattle.std.proofs.Common.{ℕ, suc, ◌+◌, ◌-◌, ◌≤◌, ◌≡◌, Bool, true, false, not, cond, eqb, ◌&&◌, List, [], ◌∷◌}
use Rattle.std.proofs.Common.{◌++◌, length, map, Option, Some, None, refl, sym, ap, ◌∙◌, subst, ⊎_elim, arith}
use Rattle.std.proofs.Common.{slice_get}
use Rattle.std.specs.List.{list_any}
use Rattle.std.proofs.lemmas.Bool.{and_from, and_parts, cases_eq, cond_both, cond-false, cond-true, eq-eqb, eqb-true}
use Rattle.std.proofs.lemmas.Bool.{false_from_ne_true, false≢true, lt-ltb, ne_eqb, not-true, true≢false}
use Rattle.sctp_outbound_queue.specs.declared.message.Attributes.{Attributes}
use Rattle.sctp_outbound_queue.specs.declared.message.InFlight.{InFlight}
use Rattle.sctp_outbound_queue.specs.Waiting.{Waiting}
use Rattle.sctp_outbound_queue.specs.Message.{flagged, is_of, marker_of, message_bytes}
use Rattle.sctp_outbound_queue.specs.Outbound.{Outbound, all_flagged, outstanding_of_message, tail_dropped}
use Rattle.sctp_outbound_queue.specs.Outbound.{tail_dropped_from}
use Rattle.sctp_streams.specs.Stream.{StreamView}
use Rattle.sctp_streams.specs.Streams.{released_in, stream_at}
use Rattle.sctp_model.specs.Messages.{Place, Plan, accepted_bytes, bytes_below, is_reliable, message_at, place_at}
use Rattle.sctp_model.specs.Machine.{Direction, Event, Sender, abandoned, can_abandon, happens, has_message, is_unsent}
use Rattle.sctp_model.specs.Machine.{left, marked, put, put_2, tail_marked, unacknowledged, with_place}
use Rattle.sctp_model.specs.Machine as machine
use Rattle.sctp_model.specs.Invariants.{Invariant}
use Rattle.sctp_model.proofs.PlansGrow.{IsExtended, at_put, bytes_kept, off_put, place_extended}
use Rattle.sctp_model.proofs.OffsetPlaces.{length_placed, place_new}
use Rattle.sctp_model.proofs.OffsetsAssigned.{keeps_marked, marked_frees}
use Rattle.sctp_model.proofs.SenderEvents.{given_keeps, same_plan}
use Rattle.sctp_model.proofs.ReleasedBytes.{bytes_none, bytes_same, bytes_tail, released_given, released_within}
use Rattle.sctp_fit.specs.Outgoing.{AreInFlight, AreUnsent, AreWaiting, FitsOutgoing, IsGoingOn, IsInFlight, IsMessage}
use Rattle.sctp_fit.specs.Outgoing.{IsNumbered, IsOwnAt, Names, Sending, numbers_after, numbers_past, policy_of}
use Rattle.sctp_fit.specs.Outgoing.{CountsBegun}
use Rattle.sctp_fit.specs.Abandonments as abandonments
use Rattle.sctp_fit.specs.Abandonments.{AbandonmentsAreAlike, TailsAreAbandonedAlike, tail_abandoned}
use Rattle.sctp_fit.proofs.BytesPartitioned.{GoesOnWith, IsOn, bytes_before, bytes_sent, bytes_split, goes_on_or_ends}
use Rattle.sctp_fit.proofs.BytesPartitioned.{pieces_bytes}
use Rattle.sctp_fit.proofs.BytesReleased.{less, numbered_less, own_less, released_at}
use Rattle.sctp_fit.proofs.FirstPiece.{at_put_2}
use Rattle.sctp_fit.proofs.NextPiece.{flight_placed, none_past}
use Rattle.sctp_fit.proofs.SentAgain.{flight_at}
use Rattle.sctp_fit.proofs.SpansNamed.{named_within}
use Rattle.sctp_fit.proofs.UnsentKept.{AreUnsentAlike, attributes_kept, unsent_kept}
use Rattle.sctp_fit.proofs.WholeAbandoned.{flagged_before, flight_bytes, flight_flagged, none_flagged}
use Rattle.sctp_fit.proofs.WholeAbandoned.{none_outstanding}

-- what is buffered has nothing to do with places
own_places : (p : Plan) (places : List Place) (freed s : ℕ) (o : Option StreamView) → IsOwnAt p freed s o
    → IsOwnAt (record p { places = places }) freed s o
own_places p places freed s None h = h
own_places p places freed s (Some t) h = h

-- a message that was begun isn't unsent, given up or not
same_unsent : (h b c g : Bool) → (c ≡ true → b ≡ true) → (h && (not b && not (cond c true g))) ≡ (h && (not b && not g))
same_unsent h b false g f = refl
same_unsent h true true g f = refl
same_unsent h false true g f = absurd (false≢true (f refl))

-- Message i of its stream has the attributes t, isn't reliable, stays so far, and has a piece on an offset.
pub record CanBeAbandoned (n : Names) (x : Sender) (t : Attributes) (i : ℕ) : Type 0 where
  pub number : ℕ
  pub offset : ℕ
  pub is : IsMessage n x.plan i number t
  pub stays : x.gone t.stream_identifier i ≡ false
  pub unreliable : is_reliable (policy_of t.policy) ≡ false
  pub on : IsOn x.plan t.stream_identifier i offset

module _ (a : Sending) (w : Direction) (inv : Invariant w) (f : FitsOutgoing a w) (t : Attributes) (i : ℕ)
    (can : CanBeAbandoned f.named w.sender t i) where
  abbrev pub s : ℕ
  s = t.stream_identifier

  abbrev pub p : Plan
  p = w.sender.plan

  -- what is given up then
  abbrev pub gone : ℕ → ℕ → Bool
  gone = put_2 w.sender.gone s i

  -- which messages are unsent then
  abbrev pub unsent : ℕ → ℕ → Bool
  unsent x j = has_message p x j && (not (w.sender.begun x j) && not (gone x j))

  begun : w.sender.begun s i ≡ true
  begun =
      ap (λ z. w.sender.begun z i) (sym can.on.stream)
      ∙ ap (w.sender.begun (place_at p can.offset).stream) (sym can.on.message)
      ∙ inv.sending.counted can.offset can.on.known

  kind : is_reliable (message_at p s i).policy ≡ false
  kind = ap is_reliable (sym can.is.policy) ∙ can.unreliable

  abbrev pub outstanding : ℕ
  outstanding = outstanding_of_message t.message_id a.queue.in_flight

  -- The sender, with these places and this next piece, is left with the message given up.
  abbrev pub with_places : List Place → Option Place → Sender
  with_places places current =
      (let v = w.sender in record v { plan = (let q = v.plan in record q { places = places }); current = current })

  -- the message's offsets that were acknowledged
  abbrev pub acked_of : Plan → ℕ → Bool
  acked_of q z = w.sender.acknowledged z && eqb (place_at q z).message i

  -- the message's pieces in flight are abandoned, and no others
  pieces_flagged : AreInFlight f.named p w.sender.acknowledged gone w.sender.reach
      (map (flagged t.message_id) a.queue.in_flight)
  pieces_flagged =
      flight_flagged f.named p a.queue.next_message_id f.names s i t.message_id can.is.known can.is.id
      w.sender.acknowledged w.sender.gone w.sender.reach a.queue.in_flight f.flight

  -- what was acknowledged of it and what is outstanding lie on offsets
  parted : bytes_sent w inv s i can.stays ≡ bytes_below p (acked_of p) s (length p.places) + outstanding
  parted =
      let e =
      bytes_split p w.sender.acknowledged (λ z. eqb (place_at p z).message i) s (length p.places) in
      let r =
      flight_bytes f.named p a.queue.next_message_id f.names s i t.message_id can.is.known can.is.id
      w.sender.acknowledged w.sender.gone can.stays inv.tails w.sender.reach a.queue.in_flight f.flight in
      let n =
      bytes_none p (λ z. not (w.sender.acknowledged z) && eqb (place_at p z).message i) s w.sender.reach (λ z l st.
      ap (λ b. not b && eqb (place_at p z).message i) (inv.cumulative z l)) in
      omega arith

  -- the same messages are unsent
  alike : AreUnsentAlike (is_unsent w.sender)
      unsent (λ x. 0) (λ x. 0)
  alike = record {
    lower = λ x. omega arith;
    below = λ x j b l. absurd (omega arith);
    same = λ x j l. same_unsent (has_message p x j) (w.sender.begun x j) (eqb x s && eqb j i) (w.sender.gone x j) (λ e.
        let r = and_parts (eqb x s) (eqb j i) e in
        ap (λ z. w.sender.begun z j) (eqb-true x s r.0) ∙ ap (w.sender.begun s) (eqb-true j i r.1) ∙ begun);
  }

  module _ (places : List Place) (current : Option Place) (bytes : ℕ)
      (amount : unacknowledged (with_places places current) s i ≡ bytes)
      (after : Invariant (record w { sender = left (with_places places current) s i })) where
    released_now : (z : ℕ)
        → put w.sender.released s (w.sender.released s + unacknowledged (with_places places current) s i) z
        ≡ w.sender.released z + cond (eqb s z) bytes 0
    released_now z = ⊎_elim
        (λ (e : z ≡ s).
        let b =
        at_put w.sender.released s z (w.sender.released s + unacknowledged (with_places places current) s i) e in
        let c = cond-true (eqb s z) bytes 0 (eq-eqb s z (sym e)) in
        let r = ap w.sender.released e in
        omega (arith, amount))
        (λ (ne : z ≡ s → ⊥).
        let b =
        off_put w.sender.released s z (w.sender.released s + unacknowledged (with_places places current) s i) ne in
        let c = cond-false (eqb s z) bytes 0 (ne_eqb s z (λ (k : s ≡ z). ne (sym k))) in
        omega arith)
        (cases_eq z s)

    streams_now : (z : ℕ) → w.over z ≡ false
        → stream_at (released_in a.streams s t.generation bytes) z
        ≡ less (cond (eqb s z) bytes 0) (stream_at a.streams z)
    streams_now z v =
        released_at a.streams s t.generation bytes z (stream_at a.streams s) refl
        (λ e r k. let span : w.over s ≡ false = ap w.over e ∙ v in
        (f.live s r span k).generation ∙ sym (can.is.generation (named_within a w f s span)))

    -- no more are released than were accepted
    most : (z : ℕ) → w.sender.released z + cond (eqb s z) bytes 0 ≤ accepted_bytes p z
    most z =
        let r = after.released z in
        let l =
        released_within (record p { places = places }) w.over w.sender.acknowledged gone z after.planned in
        let n = released_now z in
        omega arith

    -- what the association has left fits what the sender has left
    fits_left : (pending : List Waiting) (flight : List InFlight)
        → AreInFlight f.named (record p { places = places }) w.sender.acknowledged gone w.sender.reach flight
        → AreWaiting f.named (record p { places = places })
        unsent w.sender.ssn current pending
        → ((z : ℕ) → numbers_after w.sender.ssn pending z ≡ numbers_after w.sender.ssn a.queue.pending z)
        → FitsOutgoing
        (record a {
          queue = (let q = a.queue in record q { pending = pending; in_flight = flight });
          streams = released_in a.streams s t.generation bytes;
        })
        (record w { sender = left (with_places places current) s i })
    fits_left pending flight flies waits numbers = record {
      named = f.named;
      within = f.within;
      names = record { below = f.names.below; one = f.names.one };
      size = f.size;
      base = f.base;
      flight = flies;
      waiting = waits;
      live = λ z u v e.
          numbered_less f.named (numbers_after w.sender.ssn pending z) z (cond (eqb s z) bytes 0)
          (stream_at a.streams z)
          (λ r k. subst (λ y. IsNumbered f.named y z r) (sym (numbers z)) (f.live z r v k)) u
          (sym (streams_now z v) ∙ e);
      own_streams = λ z v.
          subst (λ y. IsOwnAt (record p { places = places }) y z
          (stream_at (released_in a.streams s t.generation bytes) z))
          (sym (released_now z))
          (subst (IsOwnAt (record p { places = places }) (w.sender.released z + cond (eqb s z) bytes 0) z)
          (sym (streams_now z v))
          (own_places p places (w.sender.released z + cond (eqb s z) bytes 0) z
          (less (cond (eqb s z) bytes 0) (stream_at a.streams z))
          (own_less p (w.sender.released z) z (cond (eqb s z) bytes 0) (stream_at a.streams z) (most z)
          (f.own_streams z v))));
    }

  -- the association, with its queue and what was dropped of the tail
  abbrev pub abandoned_with : Outbound → ℕ → Sending
  abandoned_with q bytes = record a {
    queue = all_flagged t.message_id q;
    streams = released_in a.streams s t.generation (outstanding + bytes);
  }

  -- The message goes on with the place y: its tail is marked.

  module _ (y : Place) (g : GoesOnWith w.sender.current s i y) (x : Waiting) (xs : List Waiting)
      (pending : a.queue.pending ≡ x ∷ xs) (h : IsGoingOn f.named p y x)
      (hs : AreUnsent f.named p (is_unsent w.sender) (λ z. 0) w.sender.ssn xs) where
    abbrev pub marker : Place
    marker = record y { marker = true }

    extended : IsExtended p (with_place p marker)
    extended = place_extended p marker inv.planned.known

    now_on : place_at (with_place p marker) (length p.places) ≡ marker
    now_on = place_new p marker (length p.places) refl

    marker_flies : IsInFlight f.named (with_place p marker) w.sender.acknowledged gone (length p.places)
        (marker_of x.message)
    marker_flies = record {
      known = let l = length_placed p marker in omega arith;
      stream = h.stream ∙ ap (λ z. z.stream) (sym now_on);
      message =
          subst (λ z. IsMessage f.named (with_place p marker) z.message z.ssn x.message) (sym now_on)
          (attributes_kept f.named p (with_place p marker) extended _ _ x.message h.waits.message);
      piece = λ k. absurd (true≢false (sym (ap (λ z. z.marker) now_on) ∙ k));
      acked = sym (none_past w inv (length p.places) (omega arith));
      abandoned =
          sym (ap (λ z. gone z.stream z.message) now_on
          ∙ at_put_2 w.sender.gone s i y.stream y.message g.stream g.message);
    }

    -- the marker has no bytes of the message
    same_acked : bytes_below (with_place p marker) (acked_of (with_place p marker)) s
        (length (with_place p marker).places)
        ≡ bytes_below p (acked_of p) s (length p.places)
    same_acked =
        bytes_tail (with_place p marker) (acked_of (with_place p marker)) s (length p.places)
        (length (with_place p marker).places) extended.more
        (λ z l. ap (λ b. b && eqb (place_at (with_place p marker) z).message i) (none_past w inv z l))
        ∙ bytes_kept p (with_place p marker) extended (acked_of (with_place p marker)) s (length p.places) (omega arith)
        ∙ bytes_same p (acked_of (with_place p marker)) (acked_of p) s (length p.places)
        (λ z l st. ap (λ v. w.sender.acknowledged z && eqb v.message i) (extended.places z l))

    amount_marked : unacknowledged (marked w.sender y) s i ≡ outstanding + message_bytes x
    amount_marked =
        let before = bytes_before w inv s i can.stays y g in
        let on_offsets = before.0 in
        let more = before.1 in
        let text : length (message_at p x.message.stream_identifier y.message).bytes ≡ length (message_at p s i).bytes =
        ap (λ z. length (message_at p z y.message).bytes) (h.stream ∙ g.stream)
        ∙ ap (λ z. length (message_at p s z).bytes) g.message in
        let rest =
        pieces_bytes p.size (message_at p x.message.stream_identifier y.message).bytes y.piece x.user_data x.rest
        (omega arith) h.waits.pieces in
        let same = same_acked in
        let all = parted in
        omega arith

    pub dropped_now : tail_dropped a.queue t.message_id
        ≡ (
          (let q = a.queue in record q { pending = xs; in_flight = q.in_flight ++ marker_of x.message ∷ [] }),
          message_bytes x,
        )
    dropped_now =
        ap (λ ps. tail_dropped_from ps a.queue t.message_id) pending
        ∙ cond-true (eqb x.message.message_id t.message_id) (
          (let q = a.queue in record q { pending = xs; in_flight = q.in_flight ++ marker_of x.message ∷ [] }),
          message_bytes x,
        )
        (a.queue, 0)
        (eq-eqb _ _
        (h.waits.message.id ∙ ap (λ z. f.named.ids z y.message) (h.stream ∙ g.stream) ∙ ap (f.named.ids s) g.message
        ∙ sym can.is.id))

    pub marked_fits : FitsOutgoing
        (abandoned_with (tail_dropped a.queue t.message_id).0 (tail_dropped a.queue t.message_id).1)
        (record w { sender = left (marked w.sender y) s i })
    marked_fits =
        subst (λ (r : Outbound × ℕ). FitsOutgoing (abandoned_with r.0 r.1)
        (record w { sender = left (marked w.sender y) s i })) (sym dropped_now)
        (fits_left (p.places ++ marker ∷ []) None (outstanding + message_bytes x) amount_marked
        (keeps_marked w s i (w.sender.released s + unacknowledged (marked w.sender y) s i) y g.is g.stream g.message
        can.is.known kind (marked_frees w s i y g.is g.stream g.message can.is.known inv) inv)
        xs (map (flagged t.message_id) (a.queue.in_flight ++ marker_of x.message ∷ []))
        (subst (AreInFlight f.named (with_place p marker) w.sender.acknowledged gone w.sender.reach)
        (sym (flagged_before t.message_id a.queue.in_flight x.message))
        (flight_placed f.named p (with_place p marker) extended w.sender.reach
        (map (flagged t.message_id) a.queue.in_flight) (marker_of x.message) (length_placed p marker) marker_flies
        pieces_flagged))
        (unsent_kept f.named p (with_place p marker) extended w.sender.ssn xs alike hs)
        (λ z. sym (ap (λ ps. numbers_after w.sender.ssn ps z) pending
        ∙ ap (λ (b : Bool). numbers_after (cond b w.sender.ssn (numbers_past w.sender.ssn x.message)) xs z) h.begun)))

  -- No piece of the message waits: all of it is in flight or acknowledged.

  module _ (whole : bytes_sent w inv s i can.stays ≡ length (message_at p s i).bytes) where
    apart : (y : Place) → w.sender.current ≡ Some y → (y.stream ≡ s) × (y.message ≡ i) → ⊥
    apart y c e =
        let b = bytes_before w inv s i can.stays y (record { is = c; stream = e.0; message = e.1 }) in
        let on_offsets = b.0 in
        let more = b.1 in
        omega arith

    unmarked : (c : Option Place) → w.sender.current ≡ c → tail_marked w.sender s i c ≡ w.sender
    unmarked None c = refl
    unmarked (Some y) c =
        cond-false (machine.is_of y s i) (marked w.sender y) w.sender
        (false_from_ne_true _ (λ (b : machine.is_of y s i ≡ true).
        let r = and_parts (eqb y.stream s) (eqb y.message i) b in
        apart y c (eqb-true _ _ r.0, eqb-true _ _ r.1)))

    not_dropped : (c : Option Place) (ps : List Waiting) → w.sender.current ≡ c
        → AreWaiting f.named p (is_unsent w.sender) w.sender.ssn c ps
        → tail_dropped_from ps a.queue t.message_id ≡ (a.queue, 0)
    not_dropped None [] e h = refl
    not_dropped (Some y) [] e h = absurd h
    not_dropped None (x ∷ xs) e (j, u, us) =
        cond-false (eqb x.message.message_id t.message_id) _ (a.queue, 0)
        (false_from_ne_true _ (λ (b : eqb x.message.message_id t.message_id ≡ true).
        let same : f.named.ids x.message.stream_identifier j ≡ f.named.ids s i =
        sym u.waits.message.id ∙ eqb-true _ _ b ∙ can.is.id in
        let r = f.names.one x.message.stream_identifier j s i u.waits.message.known can.is.known same in
        let c =
        (and_parts (has_message p x.message.stream_identifier j)
        (not (w.sender.begun x.message.stream_identifier j) && not (w.sender.gone x.message.stream_identifier j))
        u.is).1 in
        let d = not-true _ (and_parts (not (w.sender.begun x.message.stream_identifier j)) _ c).0 in
        true≢false (sym (ap (λ z. w.sender.begun z j) r.0 ∙ ap (w.sender.begun s) r.1 ∙ begun) ∙ d)))
    not_dropped (Some y) (x ∷ xs) e (h, hs) =
        cond-false (eqb x.message.message_id t.message_id) _ (a.queue, 0)
        (false_from_ne_true _ (λ (b : eqb x.message.message_id t.message_id ≡ true).
        let same : f.named.ids x.message.stream_identifier y.message ≡ f.named.ids s i =
        sym h.waits.message.id ∙ eqb-true _ _ b ∙ can.is.id in
        let r = f.names.one x.message.stream_identifier y.message s i h.waits.message.known can.is.known same in
        apart y e (sym h.stream ∙ r.0, r.1)))

    waiting_kept : (c : Option Place) (ps : List Waiting) → AreWaiting f.named p (is_unsent w.sender) w.sender.ssn c ps
        → AreWaiting f.named p unsent w.sender.ssn c ps
    waiting_kept None ps h = unsent_kept f.named p p (same_plan p inv.planned.known) w.sender.ssn ps alike h
    waiting_kept (Some y) [] h = absurd h
    waiting_kept (Some y) (x ∷ xs) (h, hs) =
        (h, unsent_kept f.named p p (same_plan p inv.planned.known) w.sender.ssn xs alike hs)

    amount_left : unacknowledged w.sender s i ≡ outstanding + 0
    amount_left = let all = parted in omega (arith, whole)

    pub whole_fits : FitsOutgoing
        (abandoned_with (tail_dropped a.queue t.message_id).0 (tail_dropped a.queue t.message_id).1)
        (record w { sender = left w.sender s i })
    whole_fits =
        subst (λ (r : Outbound × ℕ). FitsOutgoing (abandoned_with r.0 r.1) (record w { sender = left w.sender s i }))
        (sym (not_dropped w.sender.current a.queue.pending refl f.waiting))
        (fits_left p.places w.sender.current (outstanding + 0) amount_left
        (given_keeps w s i (w.sender.released s + unacknowledged w.sender s i) can.is.known kind apart
        (released_given w.sender.acknowledged w.sender.gone s i (w.sender.released s) inv.planned
        can.stays can.is.known (inv.released s)) inv)
        a.queue.pending (map (flagged t.message_id) a.queue.in_flight)
        pieces_flagged
        (waiting_kept w.sender.current a.queue.pending f.waiting) (λ z. refl))

  can_be : can_abandon w.sender s i ≡ true
  can_be =
      and_from _ _ (lt-ltb _ _ can.is.known)
      (and_from (w.sender.begun s i && not (w.sender.gone s i)) (not (is_reliable (message_at p s i).policy))
      (and_from (w.sender.begun s i) (not (w.sender.gone s i)) begun (ap not can.stays)) (ap not kind))

  happens_abandon : happens w (Event.Abandon s i) ≡ record w { sender = abandoned w.sender s i }
  unfolding happens
  happens_abandon = cond-true (can_abandon w.sender s i) (record w { sender = abandoned w.sender s i }) w can_be

  -- the sender with its tail marked or not
  leads_to : (x : Sender) → tail_marked w.sender s i w.sender.current ≡ x
      → FitsOutgoing (abandoned_with (tail_dropped a.queue t.message_id).0 (tail_dropped a.queue t.message_id).1)
      (record w { sender = left x s i })
      → FitsOutgoing (abandoned_with (tail_dropped a.queue t.message_id).0 (tail_dropped a.queue t.message_id).1)
      (happens w (Event.Abandon s i))
  leads_to x e h =
      subst (FitsOutgoing
      (abandoned_with (tail_dropped a.queue t.message_id).0 (tail_dropped a.queue t.message_id).1))
      (sym (happens_abandon ∙ ap (λ z. record w { sender = left z s i }) e)) h

  goes_on : (y : Place) → GoesOnWith w.sender.current s i y → (ps : List Waiting) → a.queue.pending ≡ ps
      → AreWaiting f.named p (is_unsent w.sender) w.sender.ssn (Some y) ps
      → FitsOutgoing (abandoned_with (tail_dropped a.queue t.message_id).0 (tail_dropped a.queue t.message_id).1)
      (happens w (Event.Abandon s i))
  goes_on y g [] e h = absurd h
  goes_on y g (x ∷ xs) e (h, hs) =
      leads_to (marked w.sender y)
      (ap (tail_marked w.sender s i) g.is
      ∙ cond-true (machine.is_of y s i) (marked w.sender y) w.sender
      (and_from (eqb y.stream s) (eqb y.message i) (eq-eqb _ _ g.stream) (eq-eqb _ _ g.message)))
      (marked_fits y g x xs e h hs)

  -- It is abandoned on both sides.
  pub abandoned_fits : FitsOutgoing
      (abandoned_with (tail_dropped a.queue t.message_id).0 (tail_dropped a.queue t.message_id).1)
      (happens w (Event.Abandon s i))
  abandoned_fits = ⊎_elim
      (λ (r : (y : Place) × GoesOnWith w.sender.current s i y).
      goes_on r.0 r.1 a.queue.pending refl
      (subst (λ c. AreWaiting f.named p (is_unsent w.sender) w.sender.ssn c a.queue.pending) (r.1).is f.waiting))
      (λ (e : bytes_sent w inv s i can.stays ≡ length (message_at p s i).bytes).
      leads_to w.sender (unmarked e w.sender.current refl) (whole_fits e))
      (goes_on_or_ends w inv s i can.stays (length p.places - suc can.offset) can.offset
      (let k = can.on.known in
      let n : can.offset + suc (length p.places - suc can.offset) ≡ length p.places = omega arith in
      n) can.on)

module _ (a : Sending) (index : ℕ) (x : InFlight) (w : Direction) (e : slice_get a.queue.in_flight index ≡ Some x)
    (stays : x.abandoned ≡ false) (unreliable : is_reliable (policy_of x.message.policy) ≡ false) (inv : Invariant w)
    (counts : CountsBegun w.sender) (f : FitsOutgoing a w) where
  -- A message of which a piece is in flight is abandoned in the direction too.
  abandoned_alike : (i : ℕ)
      × FitsOutgoing (abandonments.abandoned x a) (happens w (Event.Abandon x.message.stream_identifier i))
  abandoned_alike = (
    (place_at w.sender.plan (w.sender.reach + index)).message,
    abandoned_fits a w inv f x.message _ (record {
      number = (place_at w.sender.plan (w.sender.reach + index)).ssn;
      offset = w.sender.reach + index;
      is = here.message;
      stays =
          ap (λ z. w.sender.gone z (place_at w.sender.plan (w.sender.reach + index)).message) here.stream
          ∙ sym here.abandoned ∙ stays;
      unreliable = unreliable;
      on = record { known = here.known; stream = sym here.stream; message = refl };
    }),
  )
    where
      here : IsInFlight f.named w.sender.plan w.sender.acknowledged w.sender.gone (w.sender.reach + index) x
      here =
          flight_at f.named w.sender.plan w.sender.acknowledged w.sender.gone w.sender.reach a.queue.in_flight index x
          e f.flight

pub abandonments_are_alike : AbandonmentsAreAlike
abandonments_are_alike = abandoned_alike

-- a tail of which no piece is in flight is dropped alone
alone_dropped : (id : ℕ) (q : Outbound) (ps : List Waiting) → list_any (is_of id) q.in_flight ≡ false
    → all_flagged id (tail_dropped_from ps q id).0 ≡ (tail_dropped_from ps q id).0
alone_dropped id q [] e = ap (λ z. record q { in_flight = z }) (none_flagged id q.in_flight e)
alone_dropped id q (m ∷ ms) e =
    cond_both (eqb m.message.message_id id)
    (record q { pending = ms; in_flight = q.in_flight ++ marker_of m.message ∷ [] }, message_bytes m) (q, 0)
    (λ (z : Outbound × ℕ). all_flagged id z.0 ≡ z.0)
    (λ b. ap (λ z. record q { pending = ms; in_flight = z })
    (flagged_before id q.in_flight m.message
    ∙ ap (λ z. z ++ marker_of m.message ∷ []) (none_flagged id q.in_flight e)))
    (λ b. ap (λ z. record q { in_flight = z }) (none_flagged id q.in_flight e))

module _ (a : Sending) (x : Waiting) (xs : List Waiting) (w : Direction) (e : a.queue.pending ≡ x ∷ xs)
    (begun : x.begun ≡ true) (unreliable : is_reliable (policy_of x.message.policy) ≡ false)
    (none : list_any (is_of x.message.message_id) a.queue.in_flight ≡ false) (inv : Invariant w)
    (counts : CountsBegun w.sender) (f : FitsOutgoing a w) where
  -- So is one of which no piece is in flight any more, and the rest waits.
  tail_abandoned_alike : (i : ℕ)
      × FitsOutgoing (tail_abandoned x a) (happens w (Event.Abandon x.message.stream_identifier i))
  tail_abandoned_alike =
      by_current w.sender.current refl
      (subst (AreWaiting f.named w.sender.plan (is_unsent w.sender) w.sender.ssn w.sender.current) e f.waiting)
    where
      by_current : (c : Option Place) → w.sender.current ≡ c
          → AreWaiting f.named w.sender.plan (is_unsent w.sender) w.sender.ssn c (x ∷ xs)
          → (i : ℕ) × FitsOutgoing (record a {
            queue = (tail_dropped a.queue x.message.message_id).0;
            streams = released_in a.streams x.message.stream_identifier x.message.generation
                (tail_dropped a.queue x.message.message_id).1;
          }) (happens w (Event.Abandon x.message.stream_identifier i))
      by_current None c (i, u, us) = absurd (true≢false (sym begun ∙ u.begun))
      by_current (Some y) c (h, hs) =
          let g = inv.sending.going y c in
          let k = g.is in
          let r =
          abandoned_fits a w inv f x.message y.message (record {
            number = y.ssn;
            offset = g.last;
            is = h.waits.message;
            stays = ap (λ z. w.sender.gone z y.message) h.stream ∙ g.stays;
            unreliable = unreliable;
            on = record {
              known = omega arith;
              stream = sym g.follows.stream ∙ sym h.stream;
              message = sym g.follows.message;
            };
          }) in
          let bytes : outstanding_of_message x.message.message_id a.queue.in_flight
          + (tail_dropped a.queue x.message.message_id).1
          ≡ (tail_dropped a.queue x.message.message_id).1
          = let n = none_outstanding x.message.message_id a.queue.in_flight none in omega arith in (
            y.message,
            subst (λ q. FitsOutgoing (record a {
              queue = q;
              streams = released_in a.streams x.message.stream_identifier x.message.generation
                  (tail_dropped a.queue x.message.message_id).1;
            }) (happens w (Event.Abandon x.message.stream_identifier y.message)))
                (alone_dropped x.message.message_id a.queue a.queue.pending none)
                (subst (λ b. FitsOutgoing (record a {
                  queue = all_flagged x.message.message_id (tail_dropped a.queue x.message.message_id).0;
                  streams = released_in a.streams x.message.stream_identifier x.message.generation b;
                }) (happens w (Event.Abandon x.message.stream_identifier y.message))) bytes r),
          )

pub tails_are_abandoned_alike : TailsAreAbandonedAlike
tails_are_abandoned_alike = tail_abandoned_alike
