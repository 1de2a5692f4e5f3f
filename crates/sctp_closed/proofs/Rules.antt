-- What is so of the live streams and of the events that wait, where each of a few rules keeps it: no rule ends a
-- stream, or tells of an end of it, but of some streams.
use Rattle.std.proofs.Common.{◌≡◌, sym, subst, ℕ, Bool, true, not, List, [], ◌∷◌, ◌++◌, map, filter, Option, Some, None}
use Rattle.std.proofs.Common.{remove}
use Rattle.std.specs.List.{AllByRecursion}
use Rattle.sctp_wire_types.specs.declared.chunk.ChunkPayloadData.{ChunkPayloadData}
use Rattle.sctp_wire_types.specs.declared.ids.PayloadProtocolIdentifier.{PayloadProtocolIdentifier}
use Rattle.sctp_streams.specs.declared.event.AssociationError.{AssociationError}
use Rattle.sctp_streams.specs.declared.event.Event.{Event}
use Rattle.sctp_streams.specs.declared.event.Event.TheVariants.{AssociationLost, DataChannelStatsFinal}
use Rattle.sctp_streams.specs.Events.{is_told_of}
use Rattle.sctp_streams.specs.Stream.{StreamView}
use Rattle.sctp_streams.specs.Streams.{StreamMap, changed_stream, last_stats, made, passed_in, pushed_in, read_in}
use Rattle.sctp_streams.specs.Streams.{stream_at, without_stream, without_streams}
use Rattle.sctp_resets.specs.Channels.{final_told, final_told_at}
use Rattle.sctp_resets.specs.Within.{ResetsOver}
use Rattle.sctp_assoc.specs.Shown.{Shown}
use Rattle.sctp_ended.proofs.Carried.{IsMild}
use Rattle.sctp_closed.specs.Closed.{EndsOnly}

-- What is so of an association by whether it was lost, its live streams and the events that wait, is kept where more is
-- told that ends none but these streams, where less is told, where a stream is changed and its generation is not, where
-- one is made, where one of these ends, and where the association is lost.
pub record IsUnended (over : ℕ → Bool) (P : Bool → StreamMap → List Event → Type 0) : Type 0 where
  pub says : (lost : Bool) (m : StreamMap) (es more : List Event) → AllByRecursion (EndsOnly over) more → P lost m es
      → P lost m (es ++ more)
  pub untells : (lost : Bool) (m : StreamMap) (es : List Event) (id : ℕ) → P lost m es
      → P lost m (filter (λ (e : Event). not (is_told_of id e)) es)
  pub gives : (lost : Bool) (m : StreamMap) (es : List Event) (index : ℕ) → P lost m es → P lost m (remove es index)
  pub changes : (lost : Bool) (m : StreamMap) (es : List Event) (change : StreamView → StreamView) (id : ℕ)
      → IsMild change → P lost m es → P lost (changed_stream change m id) es
  pub reads : (lost : Bool) (m : StreamMap) (es : List Event) (id : ℕ) → P lost m es → P lost (read_in m id).0 es
  pub pushes : (lost : Bool) (m : StreamMap) (es : List Event) (id : ℕ) (piece : ChunkPayloadData) → P lost m es
      → P lost (pushed_in m id piece).0 es
  pub passes : (lost : Bool) (m : StreamMap) (es : List Event) (tsn : ℕ) → P lost m es → P lost (passed_in m tsn) es
  pub makes : (lost : Bool) (m : StreamMap) (es : List Event) (id first : ℕ) (kind : PayloadProtocolIdentifier)
      → stream_at m id ≡ None → P lost m es → P lost (made m id first kind) es
  pub ends : (lost : Bool) (m : StreamMap) (es : List Event) (id : ℕ) → over id ≡ true → P lost m es
      → P lost (without_stream m id) es
  pub closes : (lost : Bool) (m : StreamMap) (es : List Event) (reason : AssociationError) → P lost m es
      → P true (without_streams m) (es ++ map DataChannelStatsFinal (last_stats m) ++ AssociationLost reason ∷ [])

-- it is so of an association
abbrev pub SideIs : (Bool → StreamMap → List Event → Type 0) → Shown → Type 0
SideIs P a = P a.lost a.streams a.events

-- A step from one association to another, where resets concern these streams alone: they still do, and it is still so.
pub record Keeps (over : ℕ → Bool) (P : Bool → StreamMap → List Event → Type 0) (a b : Shown) : Type 0 where
  pub resets : ResetsOver over a.resets → ResetsOver over b.resets
  pub keeps : ResetsOver over a.resets → SideIs P a → SideIs P b

module _ (over : ℕ → Bool) (P : Bool → StreamMap → List Event → Type 0) where
  -- no step, and two steps

  pub stays : (a : Shown) → Keeps over P a a
  stays a = record { resets = λ r. r; keeps = λ r h. h }

  pub then_keeps : {a b c : Shown} → Keeps over P a b → Keeps over P b c → Keeps over P a c
  then_keeps first second = record {
    resets = λ r. second.resets (first.resets r);
    keeps = λ r h. second.keeps (first.resets r) (first.keeps r h);
  }

  -- to the same association
  pub same_side : (a b : Shown) → b ≡ a → Keeps over P a b
  same_side a b e = subst (Keeps over P a) (sym e) (stays a)

  -- resets stay as they are
  pub still_keeps : (a b : Shown) → b.resets ≡ a.resets → (SideIs P a → SideIs P b) → Keeps over P a b
  still_keeps a b same still = record {
    resets = λ r. subst (ResetsOver over) (sym same) r;
    keeps = λ r h. still h;
  }

  -- a stream ends, of which the last counters are told
  pub ended_keeps : (law : IsUnended over P) (lost : Bool) (m : StreamMap) (es : List Event) (id : ℕ)
      → over id ≡ true → P lost m es → P lost (without_stream m id) (final_told m id es)
  ended_keeps law lost m es id one h = law.ends lost m (final_told m id es) id one (by (stream_at m id))
    where
      by : (o : Option StreamView) → P lost m (final_told_at o es)
      by None = h
      by (Some s) = law.says lost m es (DataChannelStatsFinal s.stats ∷ []) (tt, tt) h
