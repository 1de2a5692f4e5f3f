-- What DATA that comes does to the two directions is what its acts say.
use Rattle.std.proofs.Common.{◌≡◌, refl, sym, ap, ◌∙◌, subst, ℕ, Bool, true, false, ◌&&◌, not, if◌then◌else◌}
use Rattle.std.proofs.Common.{List, [], ◌∷◌, ◌++◌, Option, Some, None, is_some}
use Rattle.sctp_wire_types.specs.declared.chunk.ChunkPayloadData.{ChunkPayloadData}
use Rattle.sctp_wire_types.specs.declared.error.Error.{Error}
use Rattle.sctp_wire_types.specs.declared.ids.PayloadProtocolIdentifier.TheVariants as kinds
use Rattle.sctp_streams.specs.Streams.{StreamMap, generation_left, is_readable_in, pushed_in, refusal_in, stream_at}
use Rattle.sctp_inbound.specs.declared.receiver.AckTrigger.{AckTrigger}
use Rattle.sctp_inbound.specs.declared.receiver.Receiver.{Receiver}
use Rattle.sctp_inbound.specs.Receiver.{admits, asked, is_new_to, taken_to}
use Rattle.sctp_resets.specs.Resets.{is_hidden, refusal_of}
use Rattle.sctp_fit.specs.HeldSet.{HoldsPast}
use Rattle.sctp_directions.specs.Acts.{Act, History, Parts, offset_in, with_taken}
use Rattle.sctp_assoc.specs.declared.inbound.Flow.{Flow}
use Rattle.sctp_assoc.specs.declared.inbound.Flow.TheVariants as flows
use Rattle.sctp_assoc.specs.Chunks.{asks, asks_or_faults, counted_data, deferred, deferred_unless}
use Rattle.sctp_assoc.specs.Chunks.{deferred_where_admitted, goes_unread, left_or_handed_over, left_unread, on_data}
use Rattle.sctp_assoc.specs.Chunks.{on_new_data, stream_found, taken_in, taken_unless, taken_where_admitted}
use Rattle.sctp_assoc.specs.Chunks.{then_skips, told, with_message, with_new_stream}
use Rattle.sctp_assoc.specs.Closing.{is_exhausted}
use Rattle.sctp_assoc.specs.Happened.{acts_of_data, acts_of_deferring, acts_of_found, acts_of_hidden}
use Rattle.sctp_assoc.specs.Happened.{acts_of_skips_behind, acts_of_stream, acts_of_taking}
use Rattle.sctp_assoc.specs.Happened.{acts_if_left, acts_of_taking_where_admitted, acts_unless_faulty}
use Rattle.sctp_assoc.specs.Happened.{acts_unless_refused}
use Rattle.sctp_assoc.specs.Leads.{Binds, Leads, parts}
use Rattle.sctp_assoc.specs.ResetActs.{acts_of_settling}
use Rattle.sctp_assoc.specs.Resets.{settled}
use Rattle.sctp_assoc.specs.Shown.{Shown, all_waiting}
use Rattle.sctp_assoc.proofs.DataCame.{held_follows, last_tsn_follows, new_tsn}
use Rattle.sctp_assoc.proofs.Leading.{leads_by, leads_nowhere, leads_on, past_itself}
use Rattle.sctp_assoc.proofs.MarksOutstanding.{AreMarkedRight}
use Rattle.sctp_assoc.proofs.ResetsLeadOn.{settling_leads, skipping_leads}
use Rattle.sctp_assoc.proofs.StreamsFound.{stream_receiver}
use Rattle.sctp_assoc.proofs.WhatCame.{came_on}

-- a stream that is found, or made for what comes
pub stream_leads : (there left : Bool) (a : Shown) (id : ℕ) (h : History) → is_some (stream_at a.streams id) ≡ there
    → generation_left a.streams ≡ left → Binds a h
    → Leads (acts_of_stream a id) a h (stream_found a id).0 h
unfolding stream_found
stream_leads true left a id h e f binds = rw e (leads_nowhere a a h binds refl refl)
stream_leads false true a id h e f binds =
    rw (e, f) (leads_by (Act.Opened id a.sender.queue.next_message_id kinds.Unknown ∷ []) a (with_new_stream a id) h
    binds (tt, tt) refl refl (past_itself h))
stream_leads false false a id h e f binds = rw (e, f) (leads_nowhere a a h binds refl refl)

-- DATA of the generation that is read

told_parts : (c : Bool) (b : Shown) (id : ℕ) (kept : Bool) (h : History) → (kept && is_readable_in b.streams id) ≡ c
    → parts (told b id kept) h ≡ parts b h
told_parts true b id kept h e = rw e refl
told_parts false b id kept h e = rw e refl

told_receiver : (c : Bool) (b : Shown) (id : ℕ) (kept : Bool) → (kept && is_readable_in b.streams id) ≡ c
    → (told b id kept).receiver ≡ b.receiver
told_receiver true b id kept e = rw e refl
told_receiver false b id kept e = rw e refl

took_leads : (a : Shown) (piece : ChunkPayloadData) (h : History) → Binds a h
    → is_new_to a.receiver piece.tsn ≡ true
    → (x : StreamMap × Bool) → x ≡ pushed_in a.streams piece.stream_identifier piece
    → Leads (Act.Took piece ∷ []) a h (with_message a piece x) (with_taken h (offset_in h piece.tsn))
took_leads a piece h binds new (streams, kept) e =
    let b : Shown = record a { streams = streams; receiver = taken_to a.receiver piece.tsn } in
    let k : History = with_taken h (offset_in h piece.tsn) in
    let same =
    told_parts (kept && is_readable_in streams piece.stream_identifier) b piece.stream_identifier kept k refl in
    let n : StreamMap = (with_message a piece (streams, kept)).streams in
    let told =
    told_receiver (kept && is_readable_in streams piece.stream_identifier) b piece.stream_identifier kept refl in
    record {
      can = (new_tsn h a.streams a.receiver piece.tsn binds.peer_last_tsn binds.held new, tt);
      there = same ∙ rw (← e) refl;
      binds = record {
        first = ap (λ (p : Parts). p.queue.first_tsn) same ∙ binds.first;
        peer_last_tsn =
            ap (λ (r : Receiver). r.peer_last_tsn) told
            ∙ last_tsn_follows h a.streams a.receiver piece.tsn binds.peer_last_tsn binds.held new n;
        held =
            subst (λ (r : Receiver). HoldsPast (came_on k n) r.held) (sym told)
            (held_follows h a.streams a.receiver piece.tsn binds.peer_last_tsn binds.held new n);
        marked = subst (λ (p : Parts). AreMarkedRight p.queue.in_flight) (sym same) binds.marked;
      };
    }

-- where these skips lead that were kept for a stream that takes DATA
skips_lead : (x : Shown × Option Error) (id : ℕ) (h : History) → Binds x.0 h
    → Leads (acts_of_skips_behind x id) x.0 h (then_skips x id).0 h
skips_lead (a, None) id h binds = skipping_leads id a h binds
skips_lead (a, Some fault) id h binds = leads_nowhere a a h binds refl refl

-- what DATA may be: taken in, or kept apart,
deferred_leads : (a : Shown) (piece : ChunkPayloadData) (h : History) → Binds a h
    → is_new_to a.receiver piece.tsn ≡ true
    → Leads (Act.Deferred piece ∷ []) a h (deferred_unless None a piece).0 (with_taken h (offset_in h piece.tsn))
deferred_leads a piece h binds new = record {
  can = (new_tsn h a.streams a.receiver piece.tsn binds.peer_last_tsn binds.held new, tt);
  there = refl;
  binds = record {
    first = binds.first;
    peer_last_tsn =
        last_tsn_follows h a.streams a.receiver piece.tsn binds.peer_last_tsn binds.held new a.streams;
    held = held_follows h a.streams a.receiver piece.tsn binds.peer_last_tsn binds.held new a.streams;
    marked = binds.marked;
  };
}

-- or received and left, since nobody reads its stream any more
left_leads : (a : Shown) (piece : ChunkPayloadData) (h : History) → Binds a h
    → is_new_to a.receiver piece.tsn ≡ true
    → Leads (Act.Deferred piece ∷ []) a h (left_unread a piece) (with_taken h (offset_in h piece.tsn))
left_leads a piece h binds new = record {
  can = (new_tsn h a.streams a.receiver piece.tsn binds.peer_last_tsn binds.held new, tt);
  there = refl;
  binds = record {
    first = binds.first;
    peer_last_tsn =
        last_tsn_follows h a.streams a.receiver piece.tsn binds.peer_last_tsn binds.held new a.streams;
    held = held_follows h a.streams a.receiver piece.tsn binds.peer_last_tsn binds.held new a.streams;
    marked = binds.marked;
  };
}

-- New DATA comes to an association that stands on this history.
module _ (a : Shown) (piece : ChunkPayloadData) (h : History) (binds : Binds a h)
    (new : is_new_to a.receiver piece.tsn ≡ true) where
  taking_leads_unless : (o : Option Error)
      → (k : History) × Leads (acts_unless_refused o (Act.Took piece)) a h (taken_unless o a piece).0 k
  taking_leads_unless (Some fault) = (h, leads_nowhere a a h binds refl refl)
  taking_leads_unless None = (with_taken h (offset_in h piece.tsn), took_leads a piece h binds new _ refl)

  taking_leads_if_left : (left : Bool)
      → (k : History) × Leads (acts_if_left left a piece) a h (left_or_handed_over left a piece).0 k
  taking_leads_if_left true = (with_taken h (offset_in h piece.tsn), left_leads a piece h binds new)
  taking_leads_if_left false =
      taking_leads_unless
      (refusal_in a.streams piece.stream_identifier piece a.receiver.max_receive_message_size)

  taking_leads : (k : History) × Leads (acts_of_taking a piece) a h (taken_in a piece).0 k
  unfolding taken_in
  taking_leads = taking_leads_if_left (goes_unread a piece)

  taking_with_skips_leads : (k : History)
      × Leads (acts_of_taking a piece ++ acts_of_skips_behind (taken_in a piece) piece.stream_identifier) a h
      (then_skips (taken_in a piece) piece.stream_identifier).0 k
  taking_with_skips_leads =
      let t = taking_leads in (
        t.0,
        leads_on (acts_of_taking a piece) (acts_of_skips_behind (taken_in a piece) piece.stream_identifier) t.1
            (skips_lead (taken_in a piece) piece.stream_identifier t.0 t.1.binds),
      )

  taken_leads_if : (credit : Bool)
      → (k : History)
      × Leads (if credit then
      acts_of_taking a piece ++ acts_of_skips_behind (taken_in a piece) piece.stream_identifier else []) a h
      (if credit then then_skips (taken_in a piece) piece.stream_identifier else (a, None)).0 k
  taken_leads_if true = taking_with_skips_leads
  taken_leads_if false = (h, leads_nowhere a a h binds refl refl)

  taken_leads : (k : History)
      × Leads (acts_of_taking_where_admitted a piece) a h (taken_where_admitted a piece).0 k
  taken_leads = taken_leads_if (admits a.receiver piece.tsn (all_waiting a))

  deferring_leads_unless : (o : Option Error)
      → (k : History) × Leads (acts_unless_refused o (Act.Deferred piece)) a h (deferred_unless o a piece).0 k
  deferring_leads_unless (Some fault) = (h, leads_nowhere a a h binds refl refl)
  deferring_leads_unless None = (with_taken h (offset_in h piece.tsn), deferred_leads a piece h binds new)

  deferring_leads_if : (credit : Bool)
      → (k : History)
      × Leads (if credit then
      acts_unless_refused (refusal_of a.resets piece a.receiver.max_receive_message_size) (Act.Deferred piece)
      else []) a h
      (if credit then deferred a piece else (a, None)).0 k
  deferring_leads_if true =
      deferring_leads_unless (refusal_of a.resets piece a.receiver.max_receive_message_size)
  deferring_leads_if false = (h, leads_nowhere a a h binds refl refl)

  deferring_leads : (k : History) × Leads (acts_of_deferring a piece) a h (deferred_where_admitted a piece).0 k
  unfolding deferred_where_admitted
  deferring_leads = deferring_leads_if (admits a.receiver piece.tsn (all_waiting a))

-- What DATA asks changes nothing.

flow_keeps : (e : Bool) (a : Shown) (f g : Flow) → (if◌then◌else◌ {A = Shown × Flow} e (a, f) (a, g)).0 ≡ a
flow_keeps true a f g = refl
flow_keeps false a f g = refl

pub asks_keeps : (a : Shown) (piece : ChunkPayloadData) (trigger : AckTrigger)
    → (asks a piece.immediate_sack trigger).0 ≡ a
asks_keeps a piece trigger =
    flow_keeps (is_exhausted a) a flows.Exhausted (flows.Next (asked a.receiver trigger piece.immediate_sack))

-- what is no fault is followed by settling
abbrev pub settled_unless : Shown × Option Error → Shown
settled_unless (a, None) = settled a
settled_unless (a, Some fault) = a

pub asks_same : (x : Shown × Option Error) (piece : ChunkPayloadData) (trigger : AckTrigger)
    → (asks_or_faults x piece.immediate_sack trigger).0 ≡ settled_unless x
asks_same (a, None) piece trigger = asks_keeps (settled a) piece trigger
asks_same (a, Some fault) piece trigger = refl

unless_faulty_leads : (x : Shown × Option Error) (h : History) → Binds x.0 h
    → Leads (acts_unless_faulty x) x.0 h (settled_unless x) h
unless_faulty_leads (a, None) h binds = settling_leads a h binds
unless_faulty_leads (a, Some fault) h binds = leads_nowhere a a h binds refl refl

-- behind DATA that is no fault, a request of the peer that waited for it is performed
behind_leads : (x : Shown × Option Error) (piece : ChunkPayloadData) (trigger : AckTrigger) (h : History) → Binds x.0 h
    → Leads (acts_unless_faulty x) x.0 h (asks_or_faults x piece.immediate_sack trigger).0 h
behind_leads x piece trigger h binds =
    subst (λ (z : Shown). Leads (acts_unless_faulty x) x.0 h z h) (sym (asks_same x piece trigger))
    (unless_faulty_leads x h binds)

found_leads : (x : Shown × Bool) (piece : ChunkPayloadData) (trigger : AckTrigger) (h : History) → Binds x.0 h
    → is_new_to x.0.receiver piece.tsn ≡ true
    → (k : History) × Leads (acts_of_found x piece) x.0 h (on_new_data x piece trigger).0 k
found_leads (b, false) piece trigger h binds new = (h, leads_nowhere b b h binds refl refl)
found_leads (b, true) piece trigger h binds new =
    let t = taken_leads b piece h binds new in (
      t.0,
      leads_on (acts_of_taking_where_admitted b piece) (acts_unless_faulty (taken_where_admitted b piece)) t.1
          (behind_leads (taken_where_admitted b piece) piece trigger t.0 t.1.binds),
    )

-- DATA comes to an association that stands on this history, and that counted it.
module _ (a : Shown) (piece : ChunkPayloadData) (trigger : AckTrigger) (h : History) (binds : Binds a h) where
  hidden_leads : is_new_to a.receiver piece.tsn ≡ true
      → (k : History)
      × Leads (acts_of_hidden a piece) a h
      (asks_or_faults (deferred_where_admitted a piece) piece.immediate_sack trigger).0 k
  hidden_leads new =
      let t = deferring_leads a piece h binds new in (
        t.0,
        leads_on (acts_of_deferring a piece) (acts_unless_faulty (deferred_where_admitted a piece)) t.1
            (behind_leads (deferred_where_admitted a piece) piece trigger t.0 t.1.binds),
      )

  open_leads : is_new_to a.receiver piece.tsn ≡ true
      → (k : History)
      × Leads
      (acts_of_stream a piece.stream_identifier ++ acts_of_found (stream_found a piece.stream_identifier) piece)
      a h (on_new_data (stream_found a piece.stream_identifier) piece trigger).0 k
  open_leads new =
      let id = piece.stream_identifier in
      let made = stream_leads (is_some (stream_at a.streams id)) (generation_left a.streams) a id h refl refl binds in
      let same = stream_receiver (is_some (stream_at a.streams id)) (generation_left a.streams) a id refl refl in
      let rest = found_leads (stream_found a id) piece trigger h made.binds (rw same new) in
      (rest.0, leads_on (acts_of_stream a id) (acts_of_found (stream_found a id) piece) made rest.1)

  counted_leads_if : (next hidden : Bool) → is_new_to a.receiver piece.tsn ≡ next
      → (k : History)
      × Leads
      (if not next then acts_of_settling a else if hidden then acts_of_hidden a piece else
      acts_of_stream a piece.stream_identifier ++ acts_of_found (stream_found a piece.stream_identifier) piece)
      a h
      (if not next then asks (settled a) piece.immediate_sack trigger else
      if hidden then asks_or_faults (deferred_where_admitted a piece) piece.immediate_sack trigger else
      on_new_data (stream_found a piece.stream_identifier) piece trigger).0 k
  counted_leads_if false hidden e = (
    h,
    subst (λ (z : Shown). Leads (acts_of_settling a) a h z h) (sym (asks_keeps (settled a) piece trigger))
        (settling_leads a h binds),
  )
  counted_leads_if true true e = hidden_leads e
  counted_leads_if true false e = open_leads e

-- what is counted beside is all that the directions do not see
from_counted : (xs : List Act) (a b : Shown) (h k : History) → Leads xs (counted_data a) h b k → Leads xs a h b k
from_counted xs a b h k m = record { can = m.can; there = m.there; binds = m.binds }

-- a DATA chunk
pub data_leads : (a : Shown) (piece : ChunkPayloadData) (trigger : AckTrigger) (h : History) → Binds a h
    → (k : History) × Leads (acts_of_data a piece) a h (on_data a piece trigger).0 k
unfolding on_data
data_leads a piece trigger h binds =
    let counted : Binds (counted_data a) h =
    record { first = binds.first; peer_last_tsn = binds.peer_last_tsn; held = binds.held; marked = binds.marked } in
    let m =
    counted_leads_if (counted_data a) piece trigger h counted (is_new_to a.receiver piece.tsn)
    (is_hidden a.resets piece.stream_identifier piece.tsn) refl in
    (m.0, from_counted (acts_of_data a piece) a (on_data a piece trigger).0 h m.0 m.1)

-- so it does whether it is new or not
pub next_leads : (c : Bool) (a : Shown) (piece : ChunkPayloadData) (trigger : AckTrigger) (h : History)
    → is_new_to a.receiver piece.tsn ≡ c
    → Binds a h → (k : History) × Leads (acts_of_data a piece) a h (on_data a piece trigger).0 k
next_leads c a piece trigger h e binds = data_leads a piece trigger h binds
