-- What the rules keep stays so where DATA that waited goes to its streams, and where skips that were kept are applied.
use Rattle.std.proofs.Common.{◌≡◌, refl, ℕ, ◌&&◌, Bool, true, false, not, cond, List, [], ◌∷◌, ◌++◌, fold, Option, Some}
use Rattle.std.proofs.Common.{None, is_some}
use Rattle.sctp_wire_types.specs.declared.chunk.ChunkPayloadData.{ChunkPayloadData}
use Rattle.sctp_wire_types.specs.declared.error.Error.{Error}
use Rattle.sctp_wire_types.specs.declared.event.StreamEvent.TheVariants.{Opened, Readable}
use Rattle.sctp_wire_types.specs.declared.ids.PayloadProtocolIdentifier.TheVariants as kinds
use Rattle.sctp_streams.specs.declared.event.Event.{Event}
use Rattle.sctp_streams.specs.declared.event.Event.TheVariants.{DatagramReceived}
use Rattle.sctp_streams.specs.declared.event.Event.TheVariants as events
use Rattle.sctp_streams.specs.Stream.{StreamView, stream_skipped}
use Rattle.sctp_streams.specs.Streams.{StreamMap, becomes_ready_in, changed_stream, generation_left, is_readable_in}
use Rattle.sctp_streams.specs.Streams.{made, pushed_in, refusal_in, stream_at}
use Rattle.sctp_generations.specs.declared.skips.KeptSkip.{KeptSkip}
use Rattle.sctp_generations.specs.Generations.{after_skips_given_to, has_skips, skips_given_to}
use Rattle.sctp_generations.specs.Skips.{skip_ids}
use Rattle.sctp_resets.specs.Channels.{Channels, delivered, given_unless, given_where, opened, with_new_stream}
use Rattle.sctp_resets.specs.Resets.{Beside, ResetsView, skips_done, skips_done_of}
use Rattle.sctp_resets.specs.Skips.{Skipping, end_of_skip, readable_told, skip_tried, skips_applied, skips_applied_of}
use Rattle.sctp_resets.proofs.ListsOver.{of_chosen}
use Rattle.sctp_ended.proofs.Carried.{skipped_is_mild}
use Rattle.sctp_closed.proofs.Rules.{IsUnended}

-- What the rules keep, of an association that was lost or was not.
module _ (over : ℕ → Bool) (P : Bool → StreamMap → List Event → Type 0) (law : IsUnended over P) (lost : Bool) where
  -- it is so of the streams and events of each of these

  abbrev InChannels : Channels → Type 0
  InChannels c = P lost c.streams c.events

  abbrev InBeside : Beside → Type 0
  InBeside b = P lost b.1 b.2

  abbrev InSkipping : Skipping → Type 0
  InSkipping g = P lost g.1 g.2

  -- DATA goes to its streams

  opened_holds : (first : ℕ) (c : Channels) (id : ℕ) → InChannels c → InChannels (opened first c id).0
  unfolding opened
  opened_holds first c id h = by (stream_at c.streams id) refl (generation_left c.streams)
    where
      by : (o : Option StreamView) → stream_at c.streams id ≡ o → (left : Bool)
          → InChannels
          (cond {A = Channels × Bool} (is_some o) (c, true)
          (cond {A = Channels × Bool} (not left) (c, false) (with_new_stream first c id, true))).0
      by (Some s) is left = h
      by None is false = h
      by None is true =
          law.says lost (made c.streams id first kinds.Unknown) c.events (events.Stream (Opened id) ∷ []) (tt, tt)
          (law.makes lost c.streams c.events id first kinds.Unknown is h)

  given_holds : (limit : ℕ) (c : Channels) (there : Bool) (d : ChunkPayloadData) → InChannels c
      → InChannels (given_where limit (c, there) d)
  given_holds limit c false d h = h
  given_holds limit c true d h = by (refusal_in c.streams d.stream_identifier d limit)
    where
      after : StreamMap
      after = (pushed_in c.streams d.stream_identifier d).0

      came : P lost after (c.events ++ DatagramReceived ∷ [])
      came =
          law.says lost after c.events (DatagramReceived ∷ []) (tt, tt)
          (law.pushes lost c.streams c.events d.stream_identifier d h)

      by : (o : Option Error) → InChannels (given_unless o c d)
      by (Some fault) = h
      by None =
          of_chosen InChannels
          ((pushed_in c.streams d.stream_identifier d).1
          && is_readable_in (pushed_in c.streams d.stream_identifier d).0 d.stream_identifier) _ _
          (law.says lost after (c.events ++ DatagramReceived ∷ []) (events.Stream (Readable d.stream_identifier) ∷ [])
          (tt, tt) came) came

  delivered_holds : (first limit : ℕ) (c : Channels) (d : ChunkPayloadData) → InChannels c
      → InChannels (delivered first limit c d)
  unfolding delivered
  delivered_holds first limit c d h =
      given_holds limit (opened first c d.stream_identifier).0 (opened first c d.stream_identifier).1 d
      (opened_holds first c d.stream_identifier h)

  pub all_delivered_hold : (first limit : ℕ) (ds : List ChunkPayloadData) (c : Channels) → InChannels c
      → InChannels (fold (delivered first limit) c ds)
  all_delivered_hold first limit [] c h = h
  all_delivered_hold first limit (d ∷ ds) c h =
      all_delivered_hold first limit ds (delivered first limit c d) (delivered_holds first limit c d h)

  -- Skips that were kept are applied

  pub readable_holds : (ready : Bool) (m : StreamMap) (es : List Event) (id : ℕ) → P lost m es
      → P lost m (es ++ readable_told ready id)
  readable_holds true m es id h = law.says lost m es (events.Stream (Readable id) ∷ []) (tt, tt) h
  readable_holds false m es id h = law.says lost m es [] tt h

  tried_holds : (g : Skipping) (s : KeptSkip) → InSkipping g → InSkipping (skip_tried g s)
  tried_holds (g, m, told) s h =
      readable_holds (becomes_ready_in m s.id (end_of_skip s m))
      (changed_stream (stream_skipped (end_of_skip s m)) m s.id) told s.id
      (law.changes lost m told (stream_skipped (end_of_skip s m)) s.id (skipped_is_mild (end_of_skip s m)) h)

  all_tried_hold : (ss : List KeptSkip) (g : Skipping) → InSkipping g → InSkipping (fold skip_tried g ss)
  all_tried_hold [] g h = h
  all_tried_hold (s ∷ ss) g h = all_tried_hold ss (skip_tried g s) (tried_holds g s h)

  pub applied_of_holds : (g : Skipping) (id : ℕ) → InSkipping g → InSkipping (skips_applied_of g id)
  applied_of_holds (g, m, told) id h =
      of_chosen InSkipping (has_skips g && is_some (stream_at m id)) _ (g, m, told)
      (all_tried_hold (skips_given_to g id) (after_skips_given_to g id, m, told) h) h

  each_applied_holds : (ids : List ℕ) (g : Skipping) → InSkipping g → InSkipping (fold skips_applied_of g ids)
  each_applied_holds [] g h = h
  each_applied_holds (id ∷ ids) g h = each_applied_holds ids (skips_applied_of g id) (applied_of_holds g id h)

  applied_holds : (g : Skipping) → InSkipping g → InSkipping (skips_applied g)
  applied_holds (g, m, told) h =
      of_chosen InSkipping (has_skips g) _ (g, m, told) (each_applied_holds (skip_ids g.skips) (g, m, told) h) h

  pub skips_done_of_holds : (id : ℕ) (r : ResetsView) (m : StreamMap) (told : List Event) → P lost m told
      → InBeside (skips_done_of id r m told)
  skips_done_of_holds id r m told h = applied_of_holds (r.generations, m, told) id h

  pub skips_done_holds : (r : ResetsView) (m : StreamMap) (told : List Event) → P lost m told
      → InBeside (skips_done r m told)
  skips_done_holds r m told h = applied_holds (r.generations, m, told) h
