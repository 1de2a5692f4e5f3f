-- DATA that comes has the offset that its TSN spells, and what an association takes in of it the direction's receiver
-- takes in. Streams that are made are opened, and a SACK that is made changes nothing.
use Rattle.std.proofs.Common.{◌≡◌, refl, sym, ap, ◌∙◌, subst, subst₂, ⊎_elim, ℕ, ◌+◌, ◌^◌, ◌<◌, ◌≤◌, arith, true, false}
use Rattle.std.proofs.Common.{not, ◌&&◌, cond, eqb, leb, ◌∷◌, slice_get, Some, None}
use Rattle.std.proofs.lemmas.Bool.{cases_Bool, and_from, and_parts, cond-false, cond-true, eqb-true}
use Rattle.std.proofs.lemmas.Bool.{false_from_ne_true, leb-true, true≢false}
use Rattle.sctp_receive_queues.specs.Reassembly.{pushed, refusal}
use Rattle.sctp_streams.specs.Stream.{StreamView, fresh_stream, stream_pushed}
use Rattle.sctp_streams.specs.Streams.{made, pushed_at, pushed_in, stream_at}
use Rattle.sctp_model.specs.Messages.{Plan}
use Rattle.sctp_model.specs.Packets.{Data, mem}
use Rattle.sctp_serial.specs.Serial.{tsn_past, tsn}
use Rattle.sctp_model.specs.Reassembly.{Queue, empty_queue, push}
use Rattle.sctp_model.specs.Machine.{Direction, Event, climb, data_comes, happens, is_new, live, opened, past_all, put}
use Rattle.sctp_model.specs.Machine.{reach, took as model_took}
use Rattle.sctp_model.specs.Invariants.{Invariant, IsPiece}
use Rattle.sctp_model.proofs.PlansGrow.{at_put}
use Rattle.sctp_model.proofs.Lists.{all_get}
use Rattle.sctp_reassembly.specs.Stands.{IsForBytesAlone, StandsFor}
use Rattle.sctp_reassembly.proofs.LawsInEvents.{data_that_comes_stands, unordered_data_that_comes_stands}
use Rattle.sctp_reassembly.proofs.SkipsAlike.{empty_ones_stand}
use Rattle.sctp_fit.specs.Incoming.{FitsIncoming, IsQueueAt, IsSaid, Receiving, offset_of, reach_of}
use Rattle.sctp_fit.specs.Arrivals.{DataPastItsSpanComes, NewTsnsSpellTheirOffsets, OpenedStreamsAreAlike}
use Rattle.sctp_fit.specs.Arrivals.{ReportsChangeNothing, took}
use Rattle.sctp_fit.specs.Arrivals.{WhatIsTakenInComes}
use Rattle.sctp_fit.proofs.StreamsThere.{at_made, at_with, no_queue_of, queue_of, queues_after}
use Rattle.sctp_wire_types.specs.declared.chunk.ChunkPayloadData.{ChunkPayloadData}
use Rattle.sctp_model.specs.Safe.{IsWithin}

-- Offsets and TSNs

-- the association's reach is the receiver's
pub same_reach : (a : Receiving) (w : Direction) → FitsIncoming a w → reach_of a ≡ reach w.receiver
same_reach a w fits =
    ap (λ z. climb z (past_all z) a.passed) fits.taken
    ∙ ap (climb w.receiver.taken (past_all w.receiver.taken)) fits.passed

-- a TSN spells its offset, where that is not before the reach
spelt : (initial reach o : ℕ) → reach ≤ o → o < 2 ^ 31 → reach + tsn_past (tsn initial reach) (tsn initial o) ≡ o
spelt initial reach o l m = omega arith

module _ (a : Receiving) (piece : ChunkPayloadData) (k : ℕ) (d : Data) (w : Direction)
    (e : slice_get w.datas k ≡ Some d) (said : IsSaid w.over a.peer piece d) (new : is_new w.receiver d.offset ≡ true)
    (within : IsWithin w) (inv : Invariant w) (fits : FitsIncoming a w) where
  -- DATA that is new has the offset that its TSN spells past the reach
  spells_its_offset : offset_of a piece.tsn ≡ d.offset
  spells_its_offset =
      ap (λ z. z + tsn_past (tsn a.peer z) piece.tsn) (same_reach a w fits)
      ∙ ap (λ z. reach w.receiver + tsn_past (tsn a.peer (reach w.receiver)) z) said.tsn
      ∙ spelt a.peer (reach w.receiver) d.offset (leb-true _ _ past) small
    where
      given : IsPiece w.sender.plan d
      given = all_get (IsPiece w.sender.plan) w.datas k d e inv.datas

      small : d.offset < 2 ^ 31
      small = let l = given.known in let m = within.offsets in omega arith

      past : leb (reach w.receiver) d.offset ≡ true
      past = (and_parts (leb (reach w.receiver) d.offset) (not (mem d.offset w.receiver.taken)) new).0

pub new_tsns_spell_their_offsets : NewTsnsSpellTheirOffsets
new_tsns_spell_their_offsets = spells_its_offset

-- DATA that comes

-- new DATA that comes to a receiver that is open is taken in
came_in : (w : Direction) (k : ℕ) (d : Data) → slice_get w.datas k ≡ Some d → w.receiver.is_open ≡ true
    → is_new w.receiver d.offset ≡ true
    → happens w (Event.DataComes k) ≡ record w { receiver = model_took w.receiver d }
unfolding happens
came_in w k d e o n =
    ap (data_comes w) e ∙ cond-true (w.receiver.is_open && is_new w.receiver d.offset)
    (record w { receiver = model_took w.receiver d }) w (and_from w.receiver.is_open (is_new w.receiver d.offset) o n)

module _ (a : Receiving) (piece : ChunkPayloadData) (k : ℕ) (d : Data) (t : StreamView) (limit : ℕ) (w : Direction)
    (e : slice_get w.datas k ≡ Some d) (said : IsSaid w.over a.peer piece d) (new : is_new w.receiver d.offset ≡ true)
    (there : stream_at a.streams piece.stream_identifier ≡ Some t) (v : w.over piece.stream_identifier ≡ false)
    (within : IsWithin w) (inv : Invariant w) (fits : FitsIncoming a w) where
  -- what an association takes in of new DATA comes to the receiver, ordered or not
  taken_in_comes : FitsIncoming (took a piece d.offset) (happens w (Event.DataComes k))
      × IsForBytesAlone (refusal t.reassembly piece limit)
  taken_in_comes = (
    subst (FitsIncoming (took a piece d.offset)) (sym came) (record {
      is_open = fits.is_open;
      taken = ap (λ z. d.offset ∷ z) fits.taken;
      passed = fits.passed;
      queues =
          queues_after a w (pushed_in a.streams id piece).0 (model_took w.receiver d).queues d.stream
          (record { stream = pushed_stream; queue = put_to; streams = streams; queues = λ n o. refl; stands = stands })
          fits;
    }),
    both.1,
  )
    where
      p : Plan
      p = w.sender.plan

      id : ℕ
      id = piece.stream_identifier

      came : happens w (Event.DataComes k) ≡ record w { receiver = model_took w.receiver d }
      came = came_in w k d e fits.is_open new

      spans : w.over d.stream ≡ false
      spans = ap w.over (sym said.stream) ∙ v

      before : (q : Queue) × (w.receiver.queues d.stream ≡ Some q) × StandsFor a.peer p d.stream t.reassembly q
      before =
          queue_of a.peer p d.stream (stream_at a.streams d.stream) (w.receiver.queues d.stream) t
          (ap (stream_at a.streams) (sym said.stream) ∙ there) (fits.queues d.stream spans)

      stood : StandsFor a.peer p d.stream t.reassembly (live (w.receiver.queues d.stream))
      stood = subst (StandsFor a.peer p d.stream t.reassembly) (sym (ap live before.1)) before.2

      both : StandsFor a.peer p d.stream (pushed t.reassembly piece).0
          (live ((happens w (Event.DataComes k)).receiver.queues d.stream))
          × IsForBytesAlone (refusal t.reassembly piece limit)
      both =
          ⊎_elim
          (λ (b : d.ordered ≡ true).
          data_that_comes_stands a.peer w k limit t.reassembly piece d within inv spans e fits.is_open new b
          (said.carries spans) stood)
          (λ (b : d.ordered ≡ false).
          unordered_data_that_comes_stands a.peer w k limit t.reassembly piece d within inv spans e fits.is_open new b
          (said.carries spans) stood)
          (cases_Bool d.ordered)

      pushed_stream : StreamView
      pushed_stream = (stream_pushed t piece).0

      put_to : Queue
      put_to = push (live (w.receiver.queues d.stream)) d

      stands : StandsFor a.peer p d.stream pushed_stream.reassembly put_to
      stands =
          subst (StandsFor a.peer p d.stream (pushed t.reassembly piece).0)
          (ap (λ (z : Direction). live (z.receiver.queues d.stream)) came
          ∙ ap live (at_put w.receiver.queues d.stream d.stream (Some put_to) refl)) both.0

      streams : (n : ℕ) → stream_at (pushed_in a.streams id piece).0 n
          ≡ cond (eqb n d.stream) (Some pushed_stream) (stream_at a.streams n)
      streams n =
          ap (λ z. stream_at (pushed_at z a.streams id piece).0 n) there ∙ at_with a.streams id n t pushed_stream there
          ∙ ap (λ z. cond (eqb n z) (Some pushed_stream) (stream_at a.streams n)) said.stream

pub what_is_taken_in_comes : WhatIsTakenInComes
what_is_taken_in_comes = taken_in_comes

-- DATA of a stream past its span comes and changes no other stream
pub data_past_its_span_comes : DataPastItsSpanComes
data_past_its_span_comes a k d m w e new past same fits =
    subst (FitsIncoming (record a { streams = m; taken = d.offset ∷ a.taken }))
    (sym (came_in w k d e fits.is_open new)) (record {
      is_open = fits.is_open;
      taken = ap (λ z. d.offset ∷ z) fits.taken;
      passed = fits.passed;
      queues = λ s v.
          let aside : eqb s d.stream ≡ false =
          false_from_ne_true (eqb s d.stream) (λ (b : eqb s d.stream ≡ true).
          true≢false (sym past ∙ ap w.over (sym (eqb-true s d.stream b)) ∙ v)) in
          subst₂ (IsQueueAt a.peer w.sender.plan s) (sym (same s aside))
          (sym (cond-false (eqb s d.stream) (Some (push (live (w.receiver.queues d.stream)) d)) (w.receiver.queues s)
          aside))
          (fits.queues s v);
    })

-- Streams that are made, and SACKs

-- a stream that is made is empty on both sides
pub opened_streams_are_alike : OpenedStreamsAreAlike
unfolding happens
opened_streams_are_alike a id first kind w none fits = record {
  is_open = fits.is_open;
  taken = fits.taken;
  passed = fits.passed;
  queues =
      queues_after a w (made a.streams id first kind) (put w.receiver.queues id (opened (w.receiver.queues id))) id
      (record {
        stream = fresh_stream id a.streams.next_generation first kind;
        queue = empty_queue;
        streams = λ n. at_made a.streams id first n kind none;
        queues = queue;
        stands = empty_ones_stand a.peer w.sender.plan id;
      })
      fits;
}
  where
    missing : w.over id ≡ false → w.receiver.queues id ≡ None
    missing v =
        no_queue_of a.peer w.sender.plan id (stream_at a.streams id) (w.receiver.queues id) none (fits.queues id v)

    queue : (n : ℕ) → w.over n ≡ false
        → put w.receiver.queues id (opened (w.receiver.queues id)) n
        ≡ cond (eqb n id) (Some empty_queue) (w.receiver.queues n)
    queue n v =
        ⊎_elim
        (λ (b : eqb n id ≡ true).
        ap (λ z. cond (eqb n id) (opened z) (w.receiver.queues n))
        (missing (ap w.over (sym (eqb-true n id b)) ∙ v)))
        (λ (b : eqb n id ≡ false). rw b refl)
        (cases_Bool (eqb n id))

-- a SACK that is made leaves the receiver as it is
pub reports_change_nothing : ReportsChangeNothing
unfolding happens
reports_change_nothing a w fits =
    record { is_open = fits.is_open; taken = fits.taken; passed = fits.passed; queues = fits.queues }
