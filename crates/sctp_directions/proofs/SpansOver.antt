-- The spans of streams of an association end: they end at both of its directions.
use Rattle.std.proofs.Common.{◌≡◌, refl, sym, ℕ, false, ◌==◌, ◌||◌, List, [], ◌∷◌, eqb}
use Rattle.std.proofs.lemmas.Bool.{eqb-false, ne_eqb, or_from}
use Rattle.sctp_model.specs.Packets.{mem}
use Rattle.sctp_model.specs.Machine.{Direction, Event, happens}
use Rattle.sctp_fit.specs.Incoming.{FitsIncoming, Receiving}
use Rattle.sctp_fit.specs.Outgoing.{FitsOutgoing, Sending}
use Rattle.sctp_fit.proofs.SpanEnded as fit
use Rattle.sctp_directions.specs.Acts.{receiving, sending}
use Rattle.sctp_directions.specs.Laws.{ItsSpansEnd, SpansOfWhatComesEnd, spans_ended}

-- a stream that is within its span once another's ended was so before, and is none of those
before_end : (w : Direction) (id t : ℕ) → (happens w (Event.End id)).over t ≡ false
    → (w.over t ≡ false) × ((id == t) ≡ false)
unfolding happens
before_end w id t e =
    let other : eqb t id ≡ false = fit.another w.over id t e in (
      fit.before w.over id t e,
      ne_eqb id t (λ (same : id ≡ t). eqb-false t id other (sym same)),
    )

before_ends : (ids : List ℕ) (w : Direction) (t : ℕ) → (spans_ended ids w).over t ≡ false
    → (w.over t ≡ false) × (mem t ids ≡ false)
before_ends [] w t e = (e, refl)
before_ends (id ∷ ids) w t e =
    let rest = before_ends ids (happens w (Event.End id)) t e in
    let first = before_end w id t rest.0 in
    (first.0, or_from (id == t) (mem t ids) first.1 rest.1)

-- where nothing of the streams changes, the spans of any may end
ends_fit : (ids : List ℕ) (a : Sending) (w : Direction) → FitsOutgoing a w → FitsOutgoing a (spans_ended ids w)
ends_fit [] a w f = f
ends_fit (id ∷ ids) a w f =
    ends_fit ids a (happens w (Event.End id)) (fit.spans_end a w id a.streams (λ t other. refl) f)

ends_fit_where_it_comes : (ids : List ℕ) (a : Receiving) (w : Direction) → FitsIncoming a w
    → FitsIncoming a (spans_ended ids w)
ends_fit_where_it_comes [] a w f = f
ends_fit_where_it_comes (id ∷ ids) a w f =
    ends_fit_where_it_comes ids a (happens w (Event.End id))
    (fit.spans_end_where_it_comes a w id a.streams (λ t other. refl) f)

pub its_spans_end : ItsSpansEnd
its_spans_end p ids m w can f =
    fit.streams_past_their_span_change (sending p) (spans_ended ids w) m
    (λ t v. can t (before_ends ids w t v).1) (ends_fit ids (sending p) w f)

pub spans_of_what_comes_end : SpansOfWhatComesEnd
spans_of_what_comes_end p ids m w can fits =
    fit.streams_past_their_span_change_where_it_comes (receiving p) (spans_ended ids w) m
    (λ t v. can t (before_ends ids w t v).1) (ends_fit_where_it_comes ids (receiving p) w fits)
