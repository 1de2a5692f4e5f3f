-- What comes to one association: DATA of the other's direction is taken in, what is given up there is passed over, and
-- both is reported, while its own direction stands still.
use Rattle.std.proofs.Common.{◌≡◌, refl, sym, ap, ◌∙◌, subst, ⊎_elim, ℕ, true, false, [], ◌∷◌, Some, None}
use Rattle.std.specs.Prelude.{slice_get}
use Rattle.std.proofs.lemmas.Bool.{cases_Bool}
use Rattle.sctp_wire_types.specs.declared.chunk.ChunkForwardTsn.{ChunkForwardTsn}
use Rattle.sctp_wire_types.specs.declared.chunk.ChunkPayloadData.{ChunkPayloadData}
use Rattle.sctp_wire_types.specs.declared.chunk.ChunkSelectiveAck.{ChunkSelectiveAck}
use Rattle.sctp_wire_types.specs.declared.ids.PayloadProtocolIdentifier.{PayloadProtocolIdentifier}
use Rattle.sctp_model.specs.Packets.{Data, Forward}
use Rattle.sctp_model.specs.Machine.{Direction, Event, happens}
use Rattle.sctp_model.specs.Safe.{IsWithin}
use Rattle.sctp_model.proofs.Proved.{each_event_keeps_the_invariant}
use Rattle.sctp_streams.specs.Stream.{StreamView}
use Rattle.sctp_streams.specs.Streams.{stream_at}
use Rattle.sctp_fit.specs.Forwards.{IsForwardSaid}
use Rattle.sctp_fit.specs.Incoming.{FitsIncoming, IsSaid}
use Rattle.sctp_fit.specs.Outgoing.{FitsOutgoing}
use Rattle.sctp_fit.proofs.DataTaken.{opened_streams_are_alike}
use Rattle.sctp_directions.specs.Acts.{Act, Can, History, IsNotPeerKnown, Parts, done, reach_in, receiving, sending}
use Rattle.sctp_directions.specs.Events.{Brings, BringsForward, GivesAMessage, IsOfReceiving}
use Rattle.sctp_directions.specs.Events.{KeepsWithin}
use Rattle.sctp_directions.specs.Reports.{SaysWhatWasTaken}
use Rattle.sctp_directions.specs.Said.{IsMade}
use Rattle.sctp_directions.proofs.Proved.{acts_keep_the_initial_tsns, events_keep_the_limits}
use Rattle.sctp_directions.proofs.Proved.{forwards_it_takes_come}
use Rattle.sctp_directions.proofs.Proved.{only_ends_close_reads, only_settings_loosen, receivers_events_are_received}
use Rattle.sctp_directions.proofs.Proved.{reports_say_what_was_taken, what_comes_leaves_its_own}
use Rattle.sctp_directions.proofs.Proved.{what_it_defers_comes, what_it_takes_in_comes}
use Rattle.sctp_directions.proofs.Proved.{what_it_takes_in_past_its_span_comes}
use Rattle.sctp_pair.proofs.BetweenDirections.{By, EndsNoSpan, Goes, Holds, IsOrderly, Surroundings, goes_by_receiver}
use Rattle.sctp_pair.proofs.BetweenDirections.{goes_nowhere}
use Rattle.sctp_pair.proofs.BetweenDirections.{other_by_receiver, sound_after, spans_of}
use Rattle.sctp_pair.proofs.PastSpans.{ChangesPast, changes_as, opened_out, past_coming, past_in_order, past_out}
use Rattle.sctp_pair.proofs.PastSpans.{past_reads_open}

-- What was done at the receiver of the direction that comes.
pub record AfterComing (x : Surroundings) (p : Parts) (B : By → ℕ → Type 0) : Type 0 where
  pub coming2 : Direction
  pub goes : Goes B x.coming coming2
  pub still : coming2.sender ≡ x.coming.sender
  pub within : IsWithin coming2
  pub holds : Holds (record x { coming = coming2 }) p

pub coming_nowhere : {x : Surroundings} {p : Parts} (B : By → ℕ → Type 0) → IsWithin x.coming → Holds x p
    → AfterComing x p B
coming_nowhere {x} B within h =
    record { coming2 = x.coming; goes = goes_nowhere B x.coming; still = refl; within = within; holds = h }

-- Of an association with these parts, the act is this event at the receiver of the direction that comes, and no read.
record IsReceiversEvent (x : Surroundings) (p : Parts) (B : By → ℕ → Type 0) (act : Act) (e : Event) : Type 0 where
  nobody : IsNotPeerKnown act
  orderly : IsOrderly act
  can : Can act p
  ends_none : EndsNoSpan act
  at : IsOfReceiving e
  none : GivesAMessage e → ⊥
  keeps : KeepsWithin e
  brings : (o : ℕ) → Brings x.coming e o → B By.ByData o
  passes : (n : ℕ) → BringsForward x.coming e n → B By.ByForward n
  outgoing : FitsOutgoing (sending (done act p)) x.out
  incoming : FitsIncoming (receiving (done act p)) (happens x.coming e)

-- The association may take in this piece of DATA, of a live stream, and what it brings is B.
pub record MayTake (x : Surroundings) (p : Parts) (B : By → ℕ → Type 0) (piece : ChunkPayloadData) : Type 0 where
  pub index : ℕ
  pub datum : Data
  pub there : slice_get x.coming.datas index ≡ Some datum
  pub said : IsSaid x.coming.over x.peer piece datum
  pub brought : B By.ByData datum.offset
  pub known : p.history.peer ≡ x.peer
  pub can : Can (Act.Took piece) p
  pub stream : StreamView
  pub live : stream_at p.streams piece.stream_identifier ≡ Some stream

-- The association may keep this piece of DATA apart from its stream, which is past its span, and what it brings is B.
pub record MayDefer (x : Surroundings) (p : Parts) (B : By → ℕ → Type 0) (piece : ChunkPayloadData) : Type 0 where
  pub index : ℕ
  pub datum : Data
  pub there : slice_get x.coming.datas index ≡ Some datum
  pub said : IsSaid x.coming.over x.peer piece datum
  pub brought : B By.ByData datum.offset
  pub known : p.history.peer ≡ x.peer
  pub can : Can (Act.Deferred piece) p
  pub past : x.coming.over piece.stream_identifier ≡ true

-- The association may pass over what a FORWARD TSN says, and what that brings is B.
pub record MayPass (x : Surroundings) (p : Parts) (B : By → ℕ → Type 0) (chunk : ChunkForwardTsn) : Type 0 where
  pub index : ℕ
  pub forward : Forward
  pub there : slice_get x.coming.forwards index ≡ Some forward
  pub said : IsForwardSaid x.coming.over x.peer chunk forward
  pub brought : B By.ByForward forward.reach
  pub known : p.history.peer ≡ x.peer
  pub can : Can (Act.PassedOver chunk.new_cumulative_tsn chunk.streams) p

-- The directions hold the association, and the one that comes to it is within the limits.
module _ (x : Surroundings) (p : Parts) (B : By → ℕ → Type 0) (h : Holds x p) (within : IsWithin x.coming) where
  act_at_receiver : (act : Act) (e : Event) → IsReceiversEvent x p B act e → AfterComing x (done act p) B
  act_at_receiver act e is = record {
    coming2 = happens x.coming e;
    goes = goes_by_receiver B x.coming e is.at is.none is.brings is.passes;
    still = (receivers_events_are_received x.coming e is.at).sender;
    within = events_keep_the_limits x.coming e is.keeps within;
    holds = record {
      own_is = (acts_keep_the_initial_tsns (act ∷ []) p (is.nobody, tt)).0 ∙ h.own_is;
      sound_out = h.sound_out;
      sound_coming =
          sound_after e (each_event_keeps_the_invariant x.coming e within h.sound_coming.invariant)
          h.sound_coming;
      between = record {
        outgoing = is.outgoing;
        incoming = is.incoming;
      };
      in_order = λ s out_within tight. only_settings_loosen act p s (is.orderly s) (h.in_order s out_within tight);
      reads_open =
          λ s inside. only_ends_close_reads act p s is.can (is.ends_none s)
          (h.reads_open s
          (spans_of (goes_by_receiver B x.coming e is.at is.none is.brings is.passes) s inside));
      other = other_by_receiver x e is.at h.other;
    };
  }

  pub act_opened : (id first : ℕ) (kind : PayloadProtocolIdentifier) → stream_at p.streams id ≡ None
      → AfterComing x (done (Act.Opened id first kind) p) B
  act_opened id first kind none =
      act_at_receiver (Act.Opened id first kind) (Event.Open id) record {
        nobody = tt;
        orderly = λ s n. n;
        can = tt;
        ends_none = λ s n. n;
        at = tt;
        none = λ n. n;
        keeps = tt;
        brings = λ o n. absurd n;
        passes = λ n b. absurd b;
        outgoing =
            opened_out p id first kind x.out none h.sound_out.invariant h.sound_out.counts h.between.outgoing;
        incoming = opened_streams_are_alike (receiving p) id first kind x.coming none h.between.incoming;
      }

  -- the DATA of this number brings its offset
  datum_brings : (index : ℕ) (datum : Data) → slice_get x.coming.datas index ≡ Some datum → B By.ByData datum.offset
      → (o : ℕ) → Brings x.coming (Event.DataComes index) o → B By.ByData o
  datum_brings index datum there brought o (c, found, at) =
      let same : c ≡ datum = (let g : Some c ≡ Some datum = sym found ∙ there in cc) in
      subst (B By.ByData) (sym (at ∙ ap (λ (z : Data). z.offset) same)) brought

  -- it is taken in, whether or not its stream is within its span
  took_fits : (piece : ChunkPayloadData) (m : MayTake x p B piece)
      → FitsIncoming (receiving (done (Act.Took piece) p)) (happens x.coming (Event.DataComes m.index))
  took_fits piece m =
      let named = subst (λ i. IsSaid x.coming.over i piece m.datum) (sym m.known) m.said in
      ⊎_elim
      (λ (past : x.coming.over piece.stream_identifier ≡ true).
      (what_it_takes_in_past_its_span_comes p piece m.index m.datum x.coming m.can m.there named past within
      h.sound_coming.invariant h.between.incoming).1)
      (λ (inside : x.coming.over piece.stream_identifier ≡ false).
      (what_it_takes_in_comes p piece m.index m.datum m.stream x.coming m.can m.there named m.live inside within
      h.sound_coming.invariant h.between.incoming).1)
      (cases_Bool (x.coming.over piece.stream_identifier))

  pub act_took : (piece : ChunkPayloadData) → MayTake x p B piece → AfterComing x (done (Act.Took piece) p) B
  act_took piece m =
      act_at_receiver (Act.Took piece) (Event.DataComes m.index) record {
        nobody = tt;
        orderly = λ s n. n;
        can = m.can;
        ends_none = λ s n. n;
        at = tt;
        none = λ n. n;
        keeps = tt;
        brings = brings;
        passes = λ n b. absurd b;
        outgoing = what_comes_leaves_its_own (Act.Took piece) p x.out tt h.between.outgoing;
        incoming = took_fits piece m;
      }
    where
      brings : (o : ℕ) → Brings x.coming (Event.DataComes m.index) o → B By.ByData o
      brings = datum_brings m.index m.datum m.there m.brought

  -- DATA that is kept apart from its stream, which is past its span, comes too
  pub act_deferred : (piece : ChunkPayloadData) → MayDefer x p B piece → AfterComing x (done (Act.Deferred piece) p) B
  act_deferred piece m =
      let named = subst (λ i. IsSaid x.coming.over i piece m.datum) (sym m.known) m.said in
      let fits =
      what_it_defers_comes p piece m.index m.datum x.coming m.can m.there named m.past within h.sound_coming.invariant
      h.between.incoming in
      act_at_receiver (Act.Deferred piece) (Event.DataComes m.index) record {
        nobody = tt;
        orderly = λ s n. n;
        can = m.can;
        ends_none = λ s n. n;
        at = tt;
        none = λ n. n;
        keeps = tt;
        brings = datum_brings m.index m.datum m.there m.brought;
        passes = λ n b. absurd b;
        outgoing = what_comes_leaves_its_own (Act.Deferred piece) p x.out tt h.between.outgoing;
        incoming = fits.1;
      }

  pub act_passed : (chunk : ChunkForwardTsn) → MayPass x p B chunk
      → AfterComing x (done (Act.PassedOver chunk.new_cumulative_tsn chunk.streams) p) B
  act_passed chunk m =
      let act : Act = Act.PassedOver chunk.new_cumulative_tsn chunk.streams in
      let named = subst (λ i. IsForwardSaid x.coming.over i chunk m.forward) (sym m.known) m.said in
      let fits =
      forwards_it_takes_come p chunk m.index m.forward x.coming m.can m.there named within h.sound_coming.invariant
      h.between.incoming in
      act_at_receiver act (Event.ForwardComes m.index) record {
        nobody = tt;
        orderly = λ s n. n;
        can = m.can;
        ends_none = λ s n. n;
        at = tt;
        none = λ n. n;
        keeps = tt;
        brings = λ o n. absurd n;
        passes = passes;
        outgoing = what_comes_leaves_its_own act p x.out tt h.between.outgoing;
        incoming = fits.1;
      }
    where
      passes : (n : ℕ) → BringsForward x.coming (Event.ForwardComes m.index) n → B By.ByForward n
      passes n (f, found, at) =
          let same : f ≡ m.forward = (let g : Some f ≡ Some m.forward = sym found ∙ m.there in cc) in
          subst (B By.ByForward) (sym (at ∙ ap (λ (z : Forward). z.reach) same)) m.brought

-- what says what came is a SACK that was made
abbrev pub ReportsSaid : ℕ → History → Direction → Type 0
ReportsSaid peer h coming =
    (c : ChunkSelectiveAck) → SaysWhatWasTaken h.peer (reach_in h) h.taken c → IsMade peer coming c

-- a SACK is made, which is any that says what came
pub record AfterReport (x : Surroundings) (p : Parts) (B : By → ℕ → Type 0) : Type 0 where
  pub after : AfterComing x p B
  pub said : ReportsSaid x.peer p.history after.coming2

pub act_reported : {x : Surroundings} {p : Parts} (B : By → ℕ → Type 0) → Holds x p → p.history.peer ≡ x.peer
    → IsWithin x.coming → AfterReport x p B
unfolding act_at_receiver
act_reported {x} {p} B h known within =
    let report = reports_say_what_was_taken p x.coming h.between.incoming in
    record {
      after =
          act_at_receiver x p B h within Act.Reported Event.SackMade record {
            nobody = tt;
            orderly = λ s n. n;
            can = tt;
            ends_none = λ s n. n;
            at = tt;
            none = λ n. n;
            keeps = tt;
            brings = λ o n. absurd n;
            passes = λ n b. absurd b;
            outgoing = h.between.outgoing;
            incoming = report.0;
          };
      said = λ c says. subst (λ (i : ℕ). IsMade i (happens x.coming Event.SackMade) c) known (report.1 c says);
    }

-- What changes of streams past their span alone the directions do not see, and they hold the association.
pub holds_past : (x : Surroundings) (p q : Parts) → ((s : ℕ) → x.out.over s ≡ x.coming.over s)
    → ChangesPast x.coming.over p q → Holds x p → Holds x q
holds_past x p q both c h =
    let out = changes_as (λ t within. sym (both t) ∙ within) c in
    record {
      own_is = ap (λ (z : Parts). z.history.own) c.is ∙ h.own_is;
      sound_out = h.sound_out;
      sound_coming = h.sound_coming;
      between = record {
        outgoing = past_out x.out out h.between.outgoing;
        incoming = past_coming x.coming c h.between.incoming;
      };
      in_order = λ s within tight. past_in_order out s within (h.in_order s within tight);
      reads_open = λ s within. past_reads_open c s within (h.reads_open s within);
      other = h.other;
    }
