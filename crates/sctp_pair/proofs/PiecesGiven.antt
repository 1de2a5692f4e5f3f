-- DATA that an association gives out is a piece of a message that it accepted, on a stream past its span, too.
use Rattle.std.proofs.Common.{◌≡◌, refl, sym, ap, ◌∙◌, subst, ℕ, ◌+◌, ◌<◌, Bool, true, false, not, List, [], ◌∷◌}
use Rattle.std.proofs.Common.{length, Option, Some, None}
use Rattle.std.specs.Prelude.{slice_get}
use Rattle.std.specs.List.{AllByRecursion}
use Rattle.std.proofs.lemmas.Bool.{and_parts, false_from_ne_true, not-true, true≢false}
use Rattle.sctp_serial.specs.Serial.{tsn}
use Rattle.sctp_wire_types.specs.declared.chunk.ChunkPayloadData.{ChunkPayloadData}
use Rattle.sctp_outbound_queue.specs.declared.message.InFlight.{InFlight}
use Rattle.sctp_outbound_queue.specs.Message.{sent_once}
use Rattle.sctp_outbound_queue.specs.Outbound.{sent_from}
use Rattle.sctp_outbound_queue.specs.Waiting.{Waiting}
use Rattle.sctp_outbound.specs.Sender.{chunk_of}
use Rattle.sctp_model.specs.Messages.{Plan, message_at, place_at}
use Rattle.sctp_model.specs.Machine.{Direction}
use Rattle.sctp_model.specs.Invariants.{Invariant}
use Rattle.sctp_model.proofs.Lists.{all_both, all_weaker}
use Rattle.sctp_fit.specs.Outgoing.{FitsOutgoing, IsInFlight, IsPieceOf, Sending}
use Rattle.sctp_fit.specs.Sendings.{IsGiven, next_chunks, sent}
use Rattle.sctp_fit.proofs.SentAgain.{flight_at, got_last}
use Rattle.sctp_directions.specs.Acts.{can_go_again, chunk_said}
use Rattle.sctp_plans.specs.Plans.{IsAcceptedPiece, IsGrown}
use Rattle.sctp_plans.proofs.GrownPlans.{accepted_pieces_stay}

-- DATA of the direction, and a piece of a message that was accepted there
abbrev pub IsGivenPiece : ℕ → Direction → ChunkPayloadData → Type 0
IsGivenPiece own w c = IsGiven own w c × IsAcceptedPiece own w.sender.plan c

module _ (own : ℕ) (a : Sending) (w : Direction) (inv : Invariant w) (f : FitsOutgoing a w) where
  -- a piece in flight that is not abandoned
  flying_is_accepted : (at_once : Bool) (k : ℕ) (x : InFlight) → slice_get a.queue.in_flight k ≡ Some x → x.abandoned ≡ false
      → IsAcceptedPiece own w.sender.plan (chunk_of at_once x (tsn own (a.base + k)))
  flying_is_accepted at_once k x there stays =
      let p : Plan = w.sender.plan in
      let o : ℕ = w.sender.reach + k in
      let here : IsInFlight f.named p w.sender.acknowledged w.sender.gone o x =
      flight_at f.named p w.sender.acknowledged w.sender.gone w.sender.reach a.queue.in_flight k x there f.flight in
      let sent : (place_at p o).marker ≡ false =
      false_from_ne_true _ (λ (m : (place_at p o).marker ≡ true).
      true≢false (sym (inv.tails o here.known m) ∙ sym here.abandoned ∙ stays)) in
      let piece : IsPieceOf p (place_at p o) x = here.piece sent in
      record {
        of_plan = record {
          offset = o;
          known = here.known;
          is = ap (λ (b : ℕ). tsn own (b + k)) f.base;
          sent = sent;
          stream = here.stream;
          first = piece.first;
          last = piece.last;
          bytes = piece.bytes;
        };
        accepted =
            subst (λ (s : ℕ). (place_at p o).message < length (p.accepted s)) here.stream here.message.known;
        payload_type =
            here.message.payload_type
            ∙ ap (λ (s : ℕ). (message_at p s (place_at p o).message).payload_type) here.stream;
      }

  -- so is one that goes out again
  again_is_accepted : (at_once : Bool) (k : ℕ) (found : Option InFlight) → slice_get a.queue.in_flight k ≡ found
      → can_go_again found ≡ true
      → AllByRecursion (IsAcceptedPiece own w.sender.plan) (chunk_said at_once found (tsn own (a.base + k)))
  again_is_accepted at_once k None there can = tt
  again_is_accepted at_once k (Some x) there can =
      (flying_is_accepted at_once k x there (not-true _ (and_parts (not x.acked) (not x.abandoned) can).1), tt)

-- and the next one that waits, once it went out
next_is_accepted : (own : ℕ) (a : Sending) (at_once : Bool) (now : ℕ) (v : Direction) → Invariant v → FitsOutgoing (sent a now) v
    → (ms : List Waiting) → a.queue.pending ≡ ms
    → AllByRecursion (IsAcceptedPiece own v.sender.plan)
    (next_chunks at_once ms (tsn own (a.base + length a.queue.in_flight)))
next_is_accepted own a at_once now v inv f [] e = tt
next_is_accepted own a at_once now v inv f (m ∷ ms) e =
    let piece =
    flying_is_accepted own (sent a now) v inv f at_once (length a.queue.in_flight) (sent_once now m)
    (ap (λ (ps : List Waiting). slice_get (sent_from ps a.queue now).in_flight (length a.queue.in_flight)) e
    ∙ got_last a.queue.in_flight (sent_once now m))
    refl in (piece, tt)

-- DATA that goes out for the first time
pub next_pieces_given : (own : ℕ) (a : Sending) (at_once : Bool) (now : ℕ) (v : Direction) → Invariant v → FitsOutgoing (sent a now) v
    → AllByRecursion (IsGiven own v) (next_chunks at_once a.queue.pending (tsn own (a.base + length a.queue.in_flight)))
    → AllByRecursion (IsGivenPiece own v) (next_chunks at_once a.queue.pending (tsn own (a.base + length a.queue.in_flight)))
next_pieces_given own a at_once now v inv f given =
    all_both (IsGiven own v) (IsAcceptedPiece own v.sender.plan)
    (next_chunks at_once a.queue.pending (tsn own (a.base + length a.queue.in_flight))) given
    (next_is_accepted own a at_once now v inv f a.queue.pending refl)

-- and again
pub pieces_given_again : (own : ℕ) (a : Sending) (at_once : Bool) (k : ℕ) (w v : Direction) → Invariant w → FitsOutgoing a w
    → IsGrown w.sender.plan v.sender.plan → can_go_again (slice_get a.queue.in_flight k) ≡ true
    → AllByRecursion (IsGiven own v) (chunk_said at_once (slice_get a.queue.in_flight k) (tsn own (a.base + k)))
    → AllByRecursion (IsGivenPiece own v) (chunk_said at_once (slice_get a.queue.in_flight k) (tsn own (a.base + k)))
pieces_given_again own a at_once k w v inv f grew can given =
    let chunks : List ChunkPayloadData = chunk_said at_once (slice_get a.queue.in_flight k) (tsn own (a.base + k)) in
    all_both (IsGiven own v) (IsAcceptedPiece own v.sender.plan) chunks given
    (all_weaker (IsAcceptedPiece own w.sender.plan) (IsAcceptedPiece own v.sender.plan) chunks
    (λ c piece. accepted_pieces_stay own w.sender.plan v.sender.plan c grew piece)
    (again_is_accepted own a w inv f at_once k (slice_get a.queue.in_flight k) refl can))
