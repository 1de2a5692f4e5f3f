-- Streams past their span may become anything: what an association does to such streams alone its directions do not
-- see.
use Rattle.std.proofs.Common.{◌≡◌, refl, sym, ap, ◌∙◌, subst, ⊎_elim, inl, inr, ℕ, Bool, true, false, List, [], ◌∷◌}
use Rattle.std.proofs.Common.{◌++◌, eqb, Option, Some, None}
use Rattle.std.proofs.lemmas.Bool.{cases_Bool, cond-false, eqb-true, true≢false, false_from_ne_true}
use Rattle.std.specs.List.{AllByRecursion}
use Rattle.sctp_wire_types.specs.declared.ids.PayloadProtocolIdentifier.{PayloadProtocolIdentifier}
use Rattle.sctp_streams.specs.Stream.{StreamView, fresh_stream, stream_read}
use Rattle.sctp_streams.specs.Streams.{StreamMap, made, read_at, read_in, stream_at, with_stream}
use Rattle.sctp_model.specs.Packets.{mem}
use Rattle.sctp_model.specs.Machine.{Direction, Event, happens}
use Rattle.sctp_model.specs.Invariants.{Invariant}
use Rattle.sctp_fit.specs.Incoming.{FitsIncoming}
use Rattle.sctp_fit.specs.Outgoing.{CountsBegun, FitsOutgoing}
use Rattle.sctp_fit.proofs.NothingToSend.{opened_streams_send_nothing}
use Rattle.sctp_fit.proofs.SpanEnded.{streams_past_their_span_change, streams_past_their_span_change_where_it_comes}
use Rattle.sctp_streams.proofs.LowMarks.{at_with}
use Rattle.sctp_fit.proofs.StreamsThere.{at_made}
use Rattle.sctp_directions.specs.Acts.{Act, Can, CanAll, HasReadOpen, IsKeptInOrder, IsNotPeerKnown, Parts, done}
use Rattle.sctp_directions.specs.Acts.{done_all, receiving, sending}
use Rattle.sctp_resets.specs.Within.{AreOver}
use Rattle.sctp_directions.specs.Events.{IsOfReceiving}
use Rattle.sctp_directions.proofs.Proved.{receivers_events_are_received}
use Rattle.sctp_assoc.specs.Shown.{Shown}
use Rattle.sctp_sides.specs.PastSpan.{EndsPast, ResetsPastOnly}

-- Of these parts the live streams are others now, and each that is within its span is what it was.
pub record ChangesPast (over : ℕ → Bool) (p q : Parts) : Type 0 where
  pub streams : StreamMap
  pub is : q ≡ record p { streams = streams }
  pub others : (t : ℕ) → over t ≡ false → stream_at streams t ≡ stream_at p.streams t

pub changes_nothing : (over : ℕ → Bool) (p : Parts) → ChangesPast over p p
changes_nothing over p = record { streams = p.streams; is = refl; others = λ t within. refl }

-- so it is where the same streams are past their span by another test
pub changes_as : {over more : ℕ → Bool} {p q : Parts} → ((t : ℕ) → more t ≡ false → over t ≡ false)
    → ChangesPast over p q → ChangesPast more p q
changes_as fewer c = record { streams = c.streams; is = c.is; others = λ t within. c.others t (fewer t within) }

-- The directions do not see it.

module _ (w : Direction) {p q : Parts} (c : ChangesPast w.over p q) where
  pub past_out : FitsOutgoing (sending p) w → FitsOutgoing (sending q) w
  past_out fits =
      subst (λ (z : Parts). FitsOutgoing (sending z) w) (sym c.is)
      (streams_past_their_span_change (sending p) w c.streams c.others fits)

  pub past_coming : FitsIncoming (receiving p) w → FitsIncoming (receiving q) w
  past_coming fits =
      subst (λ (z : Parts). FitsIncoming (receiving z) w) (sym c.is)
      (streams_past_their_span_change_where_it_comes (receiving p) w c.streams c.others fits)

-- and what sends ordered, reliable messages within its span does so still
pub past_in_order : {over : ℕ → Bool} {p q : Parts} → ChangesPast over p q → (s : ℕ) → over s ≡ false
    → IsKeptInOrder p.streams s → IsKeptInOrder q.streams s
past_in_order {p = p} {q = q} c s within kept t there =
    kept t (sym (c.others s within) ∙ ap (λ (z : Parts). stream_at z.streams s) (sym c.is) ∙ there)

-- and what can be read within its span can be read still
pub past_reads_open : {over : ℕ → Bool} {p q : Parts} → ChangesPast over p q → (s : ℕ) → over s ≡ false
    → HasReadOpen p.streams s → HasReadOpen q.streams s
past_reads_open {p = p} {q = q} c s within kept t there =
    kept t (sym (c.others s within) ∙ ap (λ (z : Parts). stream_at z.streams s) (sym c.is) ∙ there)

-- Ends of spans that are over

-- a stream within its span is none of those that are past theirs
none_of_them : (over : ℕ → Bool) (ids : List ℕ) (t : ℕ) → AreOver over ids → over t ≡ false → mem t ids ≡ false
none_of_them over [] t past within = refl
none_of_them over (id ∷ ids) t (one, more) within =
    none_first (eqb id t) refl (none_of_them over ids t more within)
  where
    none_first : (b : Bool) → eqb id t ≡ b → mem t ids ≡ false → mem t (id ∷ ids) ≡ false
    none_first true e rest = absurd (true≢false (sym one ∙ ap over (eqb-true id t e) ∙ within))
    none_first false e rest = rw (e, rest) refl

pub ends_change_past : (over : ℕ → Bool) (acts : List Act) (p : Parts) → AllByRecursion (EndsPast over) acts
    → CanAll acts p → ChangesPast over p (done_all acts p)
ends_change_past over [] p past can = changes_nothing over p
ends_change_past over (Act.SpansEnded ids m ∷ acts) p (one, more) (first, can) =
    let rest = ends_change_past over acts (record p { streams = m }) more can in
    record {
      streams = rest.streams;
      is = rest.is;
      others = λ t within. rest.others t within ∙ first t (none_of_them over ids t one within);
    }
ends_change_past over (act ∷ acts) p (one, more) can = absurd one

pub ends_are_not_peer_known : (over : ℕ → Bool) (acts : List Act) → AllByRecursion (EndsPast over) acts
    → AllByRecursion IsNotPeerKnown acts
ends_are_not_peer_known over [] past = tt
ends_are_not_peer_known over (Act.SpansEnded ids m ∷ acts) (one, more) = (tt, ends_are_not_peer_known over acts more)
ends_are_not_peer_known over (act ∷ acts) (one, more) = absurd one

-- A stream that is past its span is opened or read

-- a stream within its span is another one
another : (over : ℕ → Bool) (id t : ℕ) → over id ≡ true → over t ≡ false → eqb t id ≡ false
another over id t past within =
    false_from_ne_true (eqb t id)
    (λ (e : eqb t id ≡ true). true≢false (sym past ∙ ap over (sym (eqb-true t id e)) ∙ within))

pub opening_changes_past : (over : ℕ → Bool) (p : Parts) (id first : ℕ) (kind : PayloadProtocolIdentifier)
    → over id ≡ true → stream_at p.streams id ≡ None → ChangesPast over p (done (Act.Opened id first kind) p)
opening_changes_past over p id first kind past none = record {
  streams = made p.streams id first kind;
  is = refl;
  others = λ t within. at_made p.streams id first t kind none
      ∙ cond-false (eqb t id) (Some (fresh_stream id p.streams.next_generation first kind)) (stream_at p.streams t)
      (another over id t past within);
}

read_apart : (o : Option StreamView) (m : StreamMap) (id t : ℕ) → stream_at m id ≡ o → eqb t id ≡ false
    → stream_at (read_at o m id).0 t ≡ stream_at m t
read_apart None m id t there apart = refl
read_apart (Some s) m id t there apart =
    at_with m id t s (stream_read s).0 there
    ∙ cond-false (eqb t id) (Some (stream_read s).0) (stream_at m t) apart

pub reading_changes_past : (over : ℕ → Bool) (p : Parts) (id : ℕ) → over id ≡ true
    → ChangesPast over p (done (Act.WasRead id) p)
reading_changes_past over p id past = record {
  streams = (read_in p.streams id).0;
  is = refl;
  others = λ t within. read_apart (stream_at p.streams id) p.streams id t refl (another over id t past within);
}

-- A stream that is opened sends nothing, whether or not it is within its span.
pub opened_out : (p : Parts) (id first : ℕ) (kind : PayloadProtocolIdentifier) (w : Direction)
    → stream_at p.streams id ≡ None → Invariant w → CountsBegun w.sender → FitsOutgoing (sending p) w
    → FitsOutgoing (sending (done (Act.Opened id first kind) p)) w
opened_out p id first kind w none invariant counts fits = ⊎_elim
    (λ (past : w.over id ≡ true). past_out w (opening_changes_past w.over p id first kind past none) fits)
    (λ (within : w.over id ≡ false).
    opened_streams_send_nothing (sending p) id first kind w none within invariant counts fits)
    (cases_Bool (w.over id))

-- An event of the receiver leaves the spans, and so resets concern streams past theirs as before.
pub past_by_receiver : {a : Shown} (w : Direction) (e : Event) → IsOfReceiving e → ResetsPastOnly w.over a
    → ResetsPastOnly (happens w e).over a
past_by_receiver {a} w e at h =
    subst (λ (f : ℕ → Bool). ResetsPastOnly f a) (sym (receivers_events_are_received w e at).over) h
