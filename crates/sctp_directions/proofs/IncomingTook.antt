-- The new DATA that an association takes in, or keeps apart, stands on the offset that its TSN spells, and is one event
-- of its direction.
use Rattle.std.proofs.Common.{◌≡◌, refl, sym, ap, ◌∙◌, subst, ⊎_elim, ℕ, ◌+◌, ◌^◌, ◌<◌, ◌≤◌, arith, true, false, not}
use Rattle.std.proofs.Common.{leb, eqb, List, ◌∷◌, Option, Some, None, length, slice_get}
use Rattle.std.proofs.lemmas.Bool.{and_from, cases_lt, cond-false, le-leb}
use Rattle.sctp_serial.specs.Serial.{tsn, tsn_past}
use Rattle.sctp_model.specs.Packets.{Data, mem}
use Rattle.sctp_model.specs.Machine.{Direction, Event, Receiver, happens, is_new, reach}
use Rattle.sctp_model.specs.Invariants.{Invariant, IsPiece}
use Rattle.sctp_model.proofs.Lists.{all_get}
use Rattle.sctp_model.proofs.OffsetSets.{reach_below}
use Rattle.sctp_fit.specs.Arrivals.{took}
use Rattle.sctp_fit.specs.Incoming.{FitsIncoming, IsSaid}
use Rattle.sctp_fit.proofs.DataTaken.{same_reach}
use Rattle.sctp_fit.proofs.DataTaken as fit
use Rattle.sctp_fit.proofs.StreamsThere.{at_with}
use Rattle.sctp_directions.specs.Acts.{Act, IsNewTsn, Parts, done, offset_in, reach_in, receiving}
use Rattle.sctp_directions.specs.Laws.{WhatItDefersComes, WhatItTakesInComes, WhatItTakesInPastItsSpanComes}
use Rattle.sctp_wire_types.specs.declared.chunk.ChunkPayloadData.{ChunkPayloadData}
use Rattle.sctp_model.specs.Safe.{IsWithin}
use Rattle.sctp_streams.specs.Stream.{StreamView, stream_pushed}
use Rattle.sctp_streams.specs.Streams.{StreamMap, pushed_at, pushed_in, stream_at}

-- each offset below the receiver's reach was assigned
pub reach_known : (w : Direction) → Invariant w → reach w.receiver ≤ length w.sender.plan.places
reach_known w inv =
    ⊎_elim
    (λ (b : length w.sender.plan.places < reach w.receiver). absurd (⊎_elim
    (λ m. let l = (inv.taken (length w.sender.plan.places) m).0 in omega arith)
    (λ (l : length w.sender.plan.places < w.receiver.passed). let z = inv.passed in omega arith)
    (reach_below w.receiver (length w.sender.plan.places) b)))
    (λ (g : reach w.receiver ≤ length w.sender.plan.places). g)
    (cases_lt (length w.sender.plan.places) (reach w.receiver))

-- a TSN spells its offset, where that and the reach lie below half the range and it is not far past the reach
spelt_near : (initial reach o : ℕ) → reach < 2 ^ 31 → o < 2 ^ 31
    → reach + tsn_past (tsn initial reach) (tsn initial o) < reach + 65535
    → o ≡ reach + tsn_past (tsn initial reach) (tsn initial o)
spelt_near initial reach o r s near = omega arith

-- the offset of a new TSN is new at the receiver
new_at : (r : Receiver) (at o : ℕ) (taken : List ℕ) → at ≡ reach r → taken ≡ r.taken → at ≤ o → mem o taken ≡ false
    → is_new r o ≡ true
new_at r at o taken reached same past missing =
    and_from (leb (reach r) o) (not (mem o r.taken)) (le-leb (reach r) o (omega arith))
    (ap (λ z. not (mem o z)) (sym same) ∙ ap not missing)

-- The TSN of some DATA of the direction is new.
module _ (p : Parts) (piece : ChunkPayloadData) (k : ℕ) (d : Data) (w : Direction)
    (can : IsNewTsn p.history piece.tsn) (e : slice_get w.datas k ≡ Some d)
    (said : IsSaid w.over p.history.peer piece d) (within : IsWithin w) (inv : Invariant w)
    (fits : FitsIncoming (receiving p) w) where
  given : IsPiece w.sender.plan d
  given = all_get (IsPiece w.sender.plan) w.datas k d e inv.datas

  reached : reach_in p.history ≡ reach w.receiver
  reached = same_reach (receiving p) w fits

  small : d.offset < 2 ^ 31
  small = let l = given.known in let m = within.offsets in omega arith

  reach_small : reach_in p.history < 2 ^ 31
  reach_small = let e = reached in let l = reach_known w inv in let m = within.offsets in omega arith

  -- the offset that a TSN spells past the reach
  abbrev spelt : ℕ → ℕ
  spelt t = reach_in p.history + tsn_past (tsn p.history.peer (reach_in p.history)) t

  -- the DATA stands on the offset that the TSN spells
  here : d.offset ≡ offset_in p.history piece.tsn
  here =
      spelt_near p.history.peer (reach_in p.history) d.offset reach_small small
      (subst (λ t. spelt t < reach_in p.history + 65535) said.tsn can.near)
      ∙ ap spelt (sym said.tsn)

  -- and is new at the receiver
  new : is_new w.receiver d.offset ≡ true
  new =
      new_at w.receiver (reach_in p.history) d.offset p.history.taken reached fits.taken
      (let e = here in omega arith)
      (ap (λ o. mem o p.history.taken) here ∙ can.missing)

  -- Where its stream is live and within its span, an association that takes it in does what the model's receiver does.
  taken_in_comes : (t : StreamView) → stream_at p.streams piece.stream_identifier ≡ Some t
      → w.over piece.stream_identifier ≡ false
      → (d.offset ≡ offset_in p.history piece.tsn)
      × FitsIncoming (receiving (done (Act.Took piece) p)) (happens w (Event.DataComes k))
  taken_in_comes t there span = (
    here,
    subst (λ o. FitsIncoming (took (receiving p) piece o) (happens w (Event.DataComes k))) here
        (fit.what_is_taken_in_comes (receiving p) piece k d t 0 w e said new there span within inv fits).0,
  )

  -- Where its stream is past its span, so it does whatever becomes of that stream.
  past_its_span_comes : (m : StreamMap) → w.over piece.stream_identifier ≡ true
      → ((s : ℕ) → eqb s piece.stream_identifier ≡ false → stream_at m s ≡ stream_at p.streams s)
      → (d.offset ≡ offset_in p.history piece.tsn)
      × FitsIncoming (record (receiving p) { streams = m; taken = offset_in p.history piece.tsn ∷ p.history.taken })
      (happens w (Event.DataComes k))
  past_its_span_comes m past same = (
    here,
    subst (λ o. FitsIncoming (record (receiving p) { streams = m; taken = o ∷ p.history.taken })
        (happens w (Event.DataComes k))) here
        (fit.data_past_its_span_comes (receiving p) k d m w e new (ap w.over (sym said.stream) ∙ past)
        (λ s aside. same s (ap (eqb s) said.stream ∙ aside)) fits),
  )

-- DATA that is taken in leaves all other streams as they are
others_pushed : (o : Option StreamView) (m : StreamMap) (id s : ℕ) (piece : ChunkPayloadData) → stream_at m id ≡ o
    → eqb s id ≡ false → stream_at (pushed_at o m id piece).0 s ≡ stream_at m s
others_pushed None m id s piece e aside = refl
others_pushed (Some t) m id s piece e aside =
    at_with m id s t (stream_pushed t piece).0 e
    ∙ cond-false (eqb s id) (Some (stream_pushed t piece).0) (stream_at m s) aside

pub what_it_takes_in_comes : WhatItTakesInComes
what_it_takes_in_comes p piece k d t w can e said there span within inv fits =
    taken_in_comes p piece k d w can e said within inv fits t there span

pub what_it_takes_in_past_its_span_comes : WhatItTakesInPastItsSpanComes
what_it_takes_in_past_its_span_comes p piece k d w can e said past within inv fits =
    past_its_span_comes p piece k d w can e said within inv fits
    (pushed_in p.streams piece.stream_identifier piece).0 past
    (λ s. others_pushed (stream_at p.streams piece.stream_identifier) p.streams piece.stream_identifier s piece refl)

pub what_it_defers_comes : WhatItDefersComes
what_it_defers_comes p piece k d w can e said past within inv fits =
    past_its_span_comes p piece k d w can e said within inv fits p.streams past (λ s aside. refl)
