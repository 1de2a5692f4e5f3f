-- Each piece that waits to be sent fits the payload size, over every list of calls.
use Rattle.std.proofs.Common.{◌≡◌, refl, sym, ap, ◌∙◌, subst, ◌⊎◌, inl, inr, ℕ, zero, suc, ◌<◌, ◌≤◌, arith}
use Rattle.std.proofs.Common.{Bool, true, false, if◌then◌else◌, List, [], ◌∷◌, ◌++◌, drop, length, map}
use Rattle.std.proofs.Common.{nat_lt, take, Option, Some, None, is_some}
use Rattle.std.specs.List.{AllByRecursion}
use Rattle.std.specs.Prelude.{slice_get, ◌==◌, ◌||◌, slice_index_or}
use Rattle.std.proofs.lemmas.Bool.{eqb-false, eqb-true, false≢true, ltb-false, true≢false}
use Rattle.std.proofs.lemmas.List.{length-take}
use Rattle.sctp_wire_types.specs.declared.error.Error.{Error}
use Rattle.sctp_wire_types.specs.declared.ids.PayloadProtocolIdentifier.{PayloadProtocolIdentifier}
use Rattle.sctp_outbound_queue.specs.declared.message.Attributes.{Attributes}
use Rattle.sctp_outbound_queue.specs.declared.message.InFlight.{InFlight}
use Rattle.sctp_outbound_queue.specs.declared.message.Retransmission.{Retransmission}
use Rattle.sctp_outbound_queue.specs.Cut.{cut_up, first_piece, other_pieces}
use Rattle.sctp_outbound_queue.specs.Message.{accepted, counted_again, marker_of, moved_down, share_ssns}
use Rattle.sctp_outbound_queue.specs.Message.{waiting_started}
use Rattle.sctp_outbound_queue.specs.Message.{without_piece}
use Rattle.sctp_outbound_queue.specs.Outbound.{Outbound, changed_from, sent_from, tail_dropped_from}
use Rattle.sctp_outbound_queue.specs.Waiting.{Waiting}
use Rattle.sctp_streams.specs.Stream.{StreamView}
use Rattle.sctp_streams.specs.Streams.{stream_at}
use Rattle.sctp_model.proofs.Lists.{all_map, all_push, all_weaker}
use Rattle.sctp_fit.specs.Drops.{without_at}
use Rattle.sctp_directions.specs.Acts.{Act, History, Parts, done, done_all, message_of, type_on, with_abandoned}
use Rattle.sctp_directions.specs.Acts.{with_dropped, with_tail_abandoned, with_written}
use Rattle.sctp_assoc.specs.Handshake.{sends_init}
use Rattle.sctp_assoc.specs.Leads.{Leads, parts}
use Rattle.sctp_assoc.specs.Shown.{Shown}
use Rattle.sctp_sides.specs.Lifetimes.{DoInOrder, Does, acts_of_call}
use Rattle.sctp_sides.specs.OneSide.{Call, FailsInside, IsCarriedOut, IsUnchanged}
use Rattle.sctp_sides.specs.Pieces.{CreatedSidesBeginToSend, HasPiecesUpTo, IsPayloadSize}
use Rattle.sctp_sides.specs.Pieces.{JoinedSidesBeginToSend, PendingPiecesFit, PollsBeginWithNextPieces}
use Rattle.sctp_sides.proofs.FirstBegunRuns.{failed_for_good}
use Rattle.sctp_sides.proofs.WaitingGoesOut.{polls_begin_with_what_waits}

-- Cutting

abbrev IsUpTo : ℕ → List ℕ → Type 0
IsUpTo size piece = length piece ≤ size

take_short : (size : ℕ) (bytes : List ℕ) → IsUpTo size (take size bytes)
take_short size bytes = omega (arith, length-take size bytes)

cut_if : (c : Bool) (size : ℕ) (first : List ℕ) (others : List (List ℕ)) → IsUpTo size first
    → AllByRecursion (IsUpTo size) others → AllByRecursion (IsUpTo size) (if c then [] else first ∷ others)
cut_if true size first others short all = tt
cut_if false size first others short all = (short, all)

cut_short : (n size : ℕ) (bytes : List ℕ) → AllByRecursion (IsUpTo size) (cut_up n size bytes)
cut_short zero size bytes = tt
cut_short (suc n) size bytes =
    cut_if (length bytes == 0) size (take size bytes) (cut_up n size (drop size bytes)) (take_short size bytes)
    (cut_short n size (drop size bytes))

first_short : (size : ℕ) (bytes : List ℕ) → 0 < size → IsUpTo size (first_piece size bytes)
unfolding first_piece
first_short size bytes some = first_if (size == 0) refl
  where
    first_if : (c : Bool) → (size == 0) ≡ c → IsUpTo size (if c then bytes else take size bytes)
    first_if true e = absurd (omega (arith, some, eqb-true size 0 e))
    first_if false e = take_short size bytes

others_short : (size : ℕ) (bytes : List ℕ) → AllByRecursion (IsUpTo size) (other_pieces size bytes)
unfolding other_pieces
others_short size bytes = others_if (size == 0)
  where
    others_if : (c : Bool)
        → AllByRecursion (IsUpTo size) (if c then [] else cut_up (length bytes) size (drop size bytes))
    others_if true = tt
    others_if false = cut_short (length bytes) size (drop size bytes)

-- Acts

-- of a message whose pieces are those of another one
same_pieces : (size : ℕ) (m n : Waiting) → n.user_data ≡ m.user_data → n.rest ≡ m.rest → HasPiecesUpTo size m
    → HasPiecesUpTo size n
same_pieces size m n first rest h = record {
  next = subst (IsUpTo size) (sym first) h.next;
  others = subst (AllByRecursion (IsUpTo size)) (sym rest) h.others;
}

module _ (size : ℕ) where
  abbrev AllFit : List Waiting → Type 0
  AllFit ms = AllByRecursion (HasPiecesUpTo size) ms

  written_fit : (o : Option StreamView) (p : Parts) (id : ℕ) (named : Option PayloadProtocolIdentifier)
      (bytes : List ℕ) → 0 < size → p.size ≡ size → AllFit p.queue.pending
      → AllFit (with_written o p id named bytes).queue.pending
  written_fit None p id named bytes some same h = h
  written_fit (Some s) p id named bytes some same h =
      all_push (HasPiecesUpTo size) p.queue.pending
      (accepted p.queue.next_message_id (message_of s (type_on s named) p.size id bytes)) h
      (record {
        next = subst (λ (z : ℕ). length (first_piece z bytes) ≤ size) (sym same) (first_short size bytes some);
        others =
            subst (λ (z : ℕ). AllByRecursion (IsUpTo size) (other_pieces z bytes)) (sym same)
            (others_short size bytes);
      })

  behind_fits : (m : Waiting) (rest : List (List ℕ)) → m.rest ≡ rest → HasPiecesUpTo size m
      → HasPiecesUpTo size (without_piece m)
  behind_fits m [] e h = record {
    next = subst (λ (z : List (List ℕ)). IsUpTo size (slice_index_or z 0 [])) (sym e) (omega arith);
    others = subst (λ (z : List (List ℕ)). AllByRecursion (IsUpTo size) (drop 1 z)) (sym e) tt;
  }
  behind_fits m (piece ∷ rest) e h =
      let all : AllByRecursion (IsUpTo size) (piece ∷ rest) =
      subst (AllByRecursion (IsUpTo size)) e h.others in
      record {
        next = subst (λ (z : List (List ℕ)). IsUpTo size (slice_index_or z 0 [])) (sym e) all.0;
        others = subst (λ (z : List (List ℕ)). AllByRecursion (IsUpTo size) (drop 1 z)) (sym e) all.1;
      }

  left_if : (last : Bool) (m : Waiting) (ms : List Waiting) → AllFit (m ∷ ms)
      → AllFit (if last then ms else without_piece m ∷ ms)
  left_if true m ms (first, others) = others
  left_if false m ms (first, others) = (behind_fits m m.rest refl first, others)

  sent_fit : (ms : List Waiting) (q : Outbound) (now : ℕ) → q.pending ≡ ms → AllFit q.pending
      → AllFit (sent_from ms q now).pending
  sent_fit [] q now e h = h
  sent_fit (m ∷ ms) q now e h = left_if (length m.rest == 0) m ms (subst AllFit e h)

  again_fit : (by : Retransmission) (o : Option InFlight) (q : Outbound) (index : ℕ) → AllFit q.pending
      → AllFit (changed_from (counted_again by) o q index).pending
  again_fit by None q index h = h
  again_fit by (Some x) q index h = h

  tail_fit : (ms : List Waiting) (q : Outbound) (id : ℕ) → q.pending ≡ ms → AllFit q.pending
      → AllFit (tail_dropped_from ms q id).0.pending
  tail_fit [] q id e h = h
  tail_fit (m ∷ ms) q id e h = tail_if (m.message.message_id == id) _ _ (subst AllFit e h).1
    where
      tail_if : (c : Bool) (n k : ℕ) → AllFit ms
          → AllFit (if◌then◌else◌ {A = Outbound × ℕ} c
          (record q { pending = ms; in_flight = q.in_flight ++ marker_of m.message ∷ [] }, n) (q, k)).0.pending
      tail_if true n k others = others
      tail_if false n k others = h

  given_up_fit : (o : Option InFlight) (p : Parts) → AllFit p.queue.pending
      → AllFit (with_abandoned o p).queue.pending
  given_up_fit None p h = h
  given_up_fit (Some x) p h = tail_fit p.queue.pending p.queue x.message.message_id refl h

  tail_given_up_fit : (o : Option Waiting) (p : Parts) → AllFit p.queue.pending
      → AllFit (with_tail_abandoned o p).queue.pending
  tail_given_up_fit None p h = h
  tail_given_up_fit (Some x) p h = tail_fit p.queue.pending p.queue x.message.message_id refl h

  moved_fits : (dropped : Attributes) (m : Waiting) → HasPiecesUpTo size m → HasPiecesUpTo size (moved_down dropped m)
  moved_fits dropped m h = moved_if (share_ssns dropped m.message) _ h
    where
      moved_if : (c : Bool) (a : Attributes) → HasPiecesUpTo size m
          → HasPiecesUpTo size (if c then record m { message = a } else m)
      moved_if true a h = same_pieces size m (record m { message = a }) refl refl h
      moved_if false a h = h

  without_fit : (k : ℕ) (ms : List Waiting) → AllFit ms → AllFit (without_at k ms)
  without_fit k [] h = tt
  without_fit zero (m ∷ ms) (first, others) =
      all_map (HasPiecesUpTo size) (moved_down m.message) ms
      (all_weaker (HasPiecesUpTo size) (λ (x : Waiting). HasPiecesUpTo size (moved_down m.message x)) ms
      (moved_fits m.message) others)
  without_fit (suc k) (m ∷ ms) (first, others) = (first, without_fit k ms others)

  dropped_fit : (k : ℕ) (o : Option Waiting) (p : Parts) → AllFit p.queue.pending
      → AllFit (with_dropped k o p).queue.pending
  dropped_fit k None p h = h
  dropped_fit k (Some x) p h = without_fit k p.queue.pending h

  started_fit : (now : ℕ) (ms : List Waiting) → AllFit ms → AllFit (map (waiting_started now) ms)
  started_fit now ms h =
      all_map (HasPiecesUpTo size) (waiting_started now) ms
      (all_weaker (HasPiecesUpTo size) (λ (x : Waiting). HasPiecesUpTo size (waiting_started now x)) ms
      (λ (x : Waiting) (f : HasPiecesUpTo size x). same_pieces size x (waiting_started now x) refl refl f) h)

  -- the size is this one, and each piece fits it
  record Fits (p : Parts) : Type 0 where
    same : p.size ≡ size
    fit : AllFit p.queue.pending

  written_size : (o : Option StreamView) (p : Parts) (id : ℕ) (named : Option PayloadProtocolIdentifier)
      (bytes : List ℕ) → (with_written o p id named bytes).size ≡ p.size
  written_size None p id named bytes = refl
  written_size (Some s) p id named bytes = refl

  abandoned_size : (o : Option InFlight) (p : Parts) → (with_abandoned o p).size ≡ p.size
  abandoned_size None p = refl
  abandoned_size (Some x) p = refl

  tail_size : (o : Option Waiting) (p : Parts) → (with_tail_abandoned o p).size ≡ p.size
  tail_size None p = refl
  tail_size (Some x) p = refl

  dropped_size : (k : ℕ) (o : Option Waiting) (p : Parts) → (with_dropped k o p).size ≡ p.size
  dropped_size k None p = refl
  dropped_size k (Some x) p = refl

  -- one that changes nothing of this
  still : {p q : Parts} → q.size ≡ p.size → q.queue.pending ≡ p.queue.pending → Fits p → Fits q
  still {p} {q} size_same same h = record { same = size_same ∙ h.same; fit = subst AllFit (sym same) h.fit }

  act_fits : (act : Act) (p : Parts) → 0 < size → Fits p → Fits (done act p)
  act_fits (Act.PeerKnown t) p some h = still {p = p} refl refl h
  act_fits (Act.Opened id first kind) p some h = still {p = p} refl refl h
  act_fits (Act.Wrote id named bytes) p some h = record {
    same = written_size (stream_at p.streams id) p id named bytes ∙ h.same;
    fit = written_fit (stream_at p.streams id) p id named bytes some h.same h.fit;
  }
  act_fits (Act.Adjusted id setting) p some h = still {p = p} refl refl h
  act_fits (Act.SpansEnded ids m) p some h = still {p = p} refl refl h
  act_fits (Act.Sent at_once now) p some h =
      record { same = h.same; fit = sent_fit p.queue.pending p.queue now refl h.fit }
  act_fits (Act.SentAgain at_once by index) p some h =
      record { same = h.same; fit = again_fit by (slice_get p.queue.in_flight index) p.queue index h.fit }
  act_fits Act.Marked p some h = still {p = p} refl refl h
  act_fits (Act.Acknowledged n blocks missing) p some h = still {p = p} refl refl h
  act_fits (Act.Abandoned index) p some h = record {
    same = abandoned_size (slice_get p.queue.in_flight index) p ∙ h.same;
    fit = given_up_fit (slice_get p.queue.in_flight index) p h.fit;
  }
  act_fits Act.TailAbandoned p some h = record {
    same = tail_size (slice_get p.queue.pending 0) p ∙ h.same;
    fit = tail_given_up_fit (slice_get p.queue.pending 0) p h.fit;
  }
  act_fits (Act.Dropped k) p some h = record {
    same = dropped_size k (slice_get p.queue.pending k) p ∙ h.same;
    fit = dropped_fit k (slice_get p.queue.pending k) p h.fit;
  }
  act_fits (Act.Started now) p some h = record { same = h.same; fit = started_fit now p.queue.pending h.fit }
  act_fits Act.Forwarded p some h = h
  act_fits (Act.Took piece) p some h = still {p = p} refl refl h
  act_fits (Act.Deferred piece) p some h = still {p = p} refl refl h
  act_fits (Act.PassedOver t skipped) p some h = still {p = p} refl refl h
  act_fits Act.Reported p some h = h
  act_fits (Act.WasRead id) p some h = still {p = p} refl refl h
  act_fits Act.Ended p some h = still {p = p} refl refl h

  acts_fit : (acts : List Act) (p : Parts) → 0 < size → Fits p → Fits (done_all acts p)
  acts_fit [] p some h = h
  acts_fit (act ∷ acts) p some h = acts_fit acts (done act p) some (act_fits act p some h)

  -- Calls

  call_fits : (call : Call) (a b : Shown) (h k : History) (acts : List Act) → Does call a h acts b k → 0 < size
      → Fits (parts a h) → (b.failed ≡ true) ⊎ Fits (parts b k)
  call_fits call a b h k acts d some f = by_cases d.does
    where
      by_cases : (IsCarriedOut call d.told a b × (acts ≡ acts_of_call call a) × Leads acts a h b k)
          ⊎ ((IsUnchanged d.told a b ⊎ FailsInside call d.told a b) × (acts ≡ []) × (k ≡ h))
          → (b.failed ≡ true) ⊎ Fits (parts b k)
      by_cases (inl (c, e, l)) = inr (subst Fits (sym l.there) (acts_fit acts (parts a h) some f))
      by_cases (inr (inl u, e, l)) =
          inr (still {p = parts a h} {q = parts b k} (ap (λ (x : Shown). x.sender.max_payload_size) u.same)
          (ap (λ (x : Shown). x.sender.queue.pending) u.same) f)
      by_cases (inr (inr g, e, l)) = inl g.failed.marked

  module _ (b : Shown) (k : History) (works : b.failed ≡ false) (some : 0 < size) where
    goes_on : (calls : List Call) (c : Shown) (l : History) (later : List Act) → DoInOrder calls c l later b k
        → (Fits (parts c l) → Fits (parts b k)) → (c.failed ≡ true) ⊎ Fits (parts c l) → Fits (parts b k)
    goes_on calls c l later more on (inl failed) =
        absurd (false≢true (sym works ∙ failed_for_good calls c b l k later more failed))
    goes_on calls c l later more on (inr f) = on f

    run_fits : (calls : List Call) (a : Shown) (h : History) (acts : List Act) → DoInOrder calls a h acts b k
        → Fits (parts a h) → Fits (parts b k)
    run_fits [] a h acts (none, same, past) f =
        still {p = parts a h} {q = parts b k} (ap (λ (x : Shown). x.sender.max_payload_size) same)
        (ap (λ (x : Shown). x.sender.queue.pending) same) f
    run_fits (call ∷ calls) a h acts (c, l, first, later, e, d, more) f =
        goes_on calls c l later more (run_fits calls c l later more) (call_fits call a c h l first d some f)

pub pending_pieces_fit : PendingPiecesFit
pending_pieces_fit calls a b h k acts begins run works =
    let size = a.sender.max_payload_size in
    let nothing : AllFit size a.sender.queue.pending = subst (AllFit size) (sym begins.nothing.0) tt in
    let f = run_fits size b k works begins.size.some calls a h acts run (record { same = refl; fit = nothing }) in
    record { same = f.same; fit = f.fit }

-- what waits first
first_fits : (size : ℕ) (m : Waiting) (others ms : List Waiting) → ms ≡ m ∷ others → AllFit size ms
    → length m.user_data ≤ size
first_fits size m others ms e all = (subst (AllFit size) e all).0.next

pub polls_begin_with_next_pieces : PollsBeginWithNextPieces
polls_begin_with_next_pieces calls a b h k acts now m begins run works exchanges next kept =
    let f = pending_pieces_fit calls a b h k acts begins run works in
    let short = first_fits a.sender.max_payload_size m next.others b.sender.queue.pending next.waits f.fit in
    polls_begin_with_what_waits b now m exchanges next kept (omega (arith, short, begins.size.small))

-- Beginning

module _ (size : ℕ) where
  size_if : (none large : Bool) (own : Option Error) (fault : Error) → (size == 0) ≡ none → nat_lt 65519 size ≡ large
      → (if none || large then Some fault else own) ≡ None → IsPayloadSize size
  size_if true large own fault e f unrefused = absurd (true≢false (ap is_some unrefused))
  size_if false true own fault e f unrefused = absurd (true≢false (ap is_some unrefused))
  size_if false false own fault e f unrefused =
      let some : 0 < size = omega (arith, eqb-false size 0 e) in
      let small : size ≤ 65519 = omega (arith, ltb-false 65519 size f) in
      record { some = some; small = small }

pub created_sides_begin_to_send : CreatedSidesBeginToSend
unfolding sends_init
created_sides_begin_to_send None config size tag initial_tsn cookie remote_addr local_ip now e =
    record { size = size_if size _ _ _ _ refl refl e; nothing = (refl, refl) }
created_sides_begin_to_send (Some of_server) config size tag initial_tsn cookie remote_addr local_ip now e =
    record { size = size_if size _ _ _ _ refl refl e; nothing = (refl, refl) }

pub joined_sides_begin_to_send : JoinedSidesBeginToSend
joined_sides_begin_to_send config size remote_addr local_ip own peer e =
    record { size = size_if size _ _ _ _ refl refl e; nothing = (refl, refl) }
