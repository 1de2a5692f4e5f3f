-- The laws of this crate.
use Rattle.std.proofs.Common.{◌≡◌, refl, sym, ap, ◌∙◌, ℕ, ◌≤◌, true, Option, arith}
use Rattle.std.proofs.Common.{nat_le}
use Rattle.sctp_serial.specs.Serial.{tsn_lte}
use Rattle.sctp_wire_types.specs.declared.chunk.ChunkPayloadData.{ChunkPayloadData}
use Rattle.sctp_generations.specs.Generations.{GenerationsView}
use Rattle.sctp_reset_requests.specs.Request.{PeerRequestView}
use Rattle.sctp_streams.specs.Streams.{StreamMap}
use Rattle.sctp_courses.specs.Course.{Course, boundary_at}
use Rattle.sctp_reset_fit.specs.Held.{IsHeldOn, IsMadeOn}
use Rattle.sctp_reset_fit.specs.Laws.{LaterDataWaits, LeadsOn, LeftDataIsTaken, MessagesAreRead, NewDataIsTaken}
use Rattle.sctp_reset_fit.specs.Laws.{NothingStandsForTheStart, RequestsArePerformed, StreamsAreReadOut}
use Rattle.sctp_reset_fit.specs.Laws.{WhatIsHiddenIsHidden}
use Rattle.sctp_reset_fit.specs.Stands.{last_below}
use Rattle.sctp_reset_fit.proofs.Coming.{hidden_as, keeps, leaves, takes}
use Rattle.sctp_reset_fit.proofs.Keeping.{tells}
use Rattle.sctp_reset_fit.proofs.Numbers.{lte_both}
use Rattle.sctp_reset_fit.proofs.Passing.{LeadsToOne, reads_out}
use Rattle.sctp_reset_fit.proofs.Performing.{performs}
use Rattle.sctp_reset_fit.proofs.Piles.{more_on, taken_on}
use Rattle.sctp_reset_fit.proofs.Reading.{reads_one}

abbrev leads_on : (P : ChunkPayloadData → Type 0) {initial id : ℕ} {g : GenerationsView} {m : StreamMap}
    {o : Option PeerRequestView} {c : Course}
    → LeadsToOne initial id P (IsHeldOn P initial id) g m o c → LeadsOn P initial id g m o c
leads_on P l = record { after = l.after; leads = l.leads; stands = l.stands; told = l.told }

pub nothing_stands_for_the_start : (P : ChunkPayloadData → Type 0) → NothingStandsForTheStart P
nothing_stands_for_the_start P initial id = record {
  live = tt;
  next = omega arith;
  marks = refl;
  kept = tt;
  deferred = λ o. omega arith;
  waits = refl;
  once_named = tt;
  once_live = omega arith;
  once_marked = omega arith;
  open_where_marked = λ some l e. absurd (some refl);
  near = omega arith;
  still = (refl, refl, refl);
}

pub what_is_hidden_is_hidden : (P : ChunkPayloadData → Type 0) → WhatIsHiddenIsHidden P
what_is_hidden_is_hidden P initial id t g m o c inv h near =
    hidden_as initial id P (IsHeldOn P initial id) (tells P initial id) g o c inv m t h near

pub new_data_is_taken : (P : ChunkPayloadData → Type 0) → NewDataIsTaken P
new_data_is_taken P initial limit p t g m o c inv h so near is accepted new shown =
    leads_on P (takes initial p.stream_identifier P (IsHeldOn P initial p.stream_identifier)
    (tells P initial p.stream_identifier) g o c inv
    m p limit t h refl so near is accepted new shown)

pub left_data_is_taken : (P : ChunkPayloadData → Type 0) → LeftDataIsTaken P
left_data_is_taken P initial p t g m o c inv h near is new shown =
    leads_on P (leaves initial p.stream_identifier P (IsHeldOn P initial p.stream_identifier)
    (tells P initial p.stream_identifier) g o c inv
    m p t h near is new shown)

pub later_data_waits : (P : ChunkPayloadData → Type 0) → LaterDataWaits P
later_data_waits P initial p g m o c inv h so near new hidden =
    leads_on P (keeps initial p.stream_identifier P (IsHeldOn P initial p.stream_identifier)
    (tells P initial p.stream_identifier) g o c inv
    m p h refl so near new hidden)

pub messages_are_read : (P : ChunkPayloadData → Type 0) → MessagesAreRead P
messages_are_read P initial id message t g m o c inv h is can given =
    let r = reads_one initial id P (IsHeldOn P initial id) (more_on P initial id) (IsMadeOn P initial id)
    (taken_on P initial id) g m o
    c t message inv h is can given in
    record {
      after = r.after;
      leads = r.leads;
      stands = r.stands;
      offsets = r.offsets;
      made = r.makes;
      told = r.told;
    }

pub streams_are_read_out : (P : ChunkPayloadData → Type 0) → StreamsAreReadOut P
streams_are_read_out P initial id first limit g x o c inv h =
    let l = reads_out initial id P (IsHeldOn P initial id) (tells P initial id) o first limit g x c inv h in
    (leads_on P l.0, l.1)

le_from : (a b : ℕ) → nat_le a b ≡ true → a ≤ b
le_from a b e = grind arith

pub requests_are_performed : (P : ChunkPayloadData → Type 0) → RequestsArePerformed P
requests_are_performed P initial id first limit q r x c inv h read small due =
    let known = inv.asks.below c.performed h.waits.3 in
    let near = h.near in
    let compared : tsn_lte q.last_tsn (last_below initial c.point) ≡ nat_le (boundary_at c.asked c.performed) c.point =
    ap (λ z. tsn_lte z (last_below initial c.point)) h.waits.1
    ∙ lte_both initial (boundary_at c.asked c.performed) c.point (omega arith) small in
    let reached : boundary_at c.asked c.performed ≤ c.point = le_from _ _ (sym compared ∙ due) in
    let l = performs initial id P (IsHeldOn P initial id) (tells P initial id) q first limit r x c inv h read reached in
    (leads_on P l.0, l.1)
