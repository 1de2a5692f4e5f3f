-- A stream that is read out, or of which no more is read, leaves the others what they were.
use Rattle.std.proofs.Common.{◌≡◌, refl, ◌∙◌, ℕ, zero, suc, ◌==◌, Bool, true, false, ◌&&◌, not}
use Rattle.std.proofs.Common.{cond, List, [], ◌∷◌, fold, map, filter, Option, is_eq, nat_cmp, arith}
use Rattle.std.proofs.lemmas.Bool.{or_parts}
use Rattle.std.proofs.lemmas.Bool.Decides.{nat_tests}
use Rattle.sctp_wire_types.specs.Config.{is_rfc}
use Rattle.sctp_wire_types.specs.declared.chunk.ChunkPayloadData.{ChunkPayloadData}
use Rattle.sctp_streams.specs.declared.event.Event.{Event}
use Rattle.sctp_streams.specs.declared.setting.Setting.TheVariants as settings
use Rattle.sctp_streams.specs.Events.{is_told_of}
use Rattle.sctp_streams.specs.Stream.{with_setting, without_unread}
use Rattle.sctp_streams.specs.Streams.{StreamMap, changed_stream, stream_at, waiting_of, without_stream}
use Rattle.sctp_generations.specs.declared.skips.KeptSkip.{KeptSkip}
use Rattle.sctp_generations.specs.Generations as generations
use Rattle.sctp_generations.specs.Generations.{GenerationsView, after_given_to, drained, given_to, has_newest}
use Rattle.sctp_generations.specs.Generations.{readable_end}
use Rattle.sctp_generations.specs.Deferred.{is_up_to}
use Rattle.sctp_generations.specs.Retiring.{count_at, readable_boundary}
use Rattle.sctp_generations.specs.Skips.{is_same}
use Rattle.sctp_reset_requests.specs.Ids.{has_id}
use Rattle.sctp_reset_requests.specs.Peer.{boundary_of}
use Rattle.sctp_resets.specs.Channels.{Channels, delivered, is_write_half_closed}
use Rattle.sctp_resets.specs.Concerned.{StayBeside}
use Rattle.sctp_resets.specs.Draining.{Reading, ended, next_generation_read, passed_once, passed_times, passed_where}
use Rattle.sctp_resets.specs.Draining.{skipped_over, with_write_half, write_half_kept}
use Rattle.sctp_resets.specs.Resets.{Beside, ResetsView, ended_unless, is_blocked, read_out, reset_or_ended}
use Rattle.sctp_resets.specs.Resets.{stopped_reading, with_generations}
use Rattle.sctp_resets.proofs.SkipsBeside.{applied_apart}
use Rattle.sctp_resets.proofs.StreamsBeside.{all_delivered_apart, both_false, changed_apart, ended_apart, ids_of_data}

-- an identifier that is apart from another is apart from each that a test finds to be that one
apart_where_same : (t id k : ℕ) → is_eq (nat_cmp t id) ≡ false → (k == id) ≡ true → is_eq (nat_cmp t k) ≡ false
apart_where_same t id k apart same = grind (arith, nat_tests, apart, same)

module _ (t id : ℕ) (apart : is_eq (nat_cmp t id) ≡ false) where
  -- those of a list that are of one stream are of no other
  of_one_stream : {X : Type 0} (f : X → ℕ) (more : X → Bool) (xs : List X)
      → has_id t (map f (filter (λ x. (f x == id) && more x) xs)) ≡ false
  of_one_stream f more [] = refl
  of_one_stream f more (x ∷ xs) = by (f x == id) (more x) refl (of_one_stream f more xs)
    where
      by : (same passes : Bool) → (f x == id) ≡ same
          → has_id t (map f (filter (λ y. (f y == id) && more y) xs)) ≡ false
          → has_id t (map f (cond (same && passes) (x ∷ filter (λ y. (f y == id) && more y) xs)
          (filter (λ y. (f y == id) && more y) xs))) ≡ false
      by true true e others =
          both_false (is_eq (nat_cmp t (f x))) (has_id t (map f (filter (λ y. (f y == id) && more y) xs)))
          (apart_where_same t id (f x) apart e) others
      by true false e others = others
      by false passes e others = others

  module _ (first limit : ℕ) (in_progress : Option ℕ) where
    write_half_apart : (closed : Bool) (m : StreamMap) → stream_at (with_write_half closed m id) t ≡ stream_at m t
    write_half_apart true m = changed_apart t id apart (λ s. with_setting s settings.WriteHalfClosed) m
    write_half_apart false m = refl

    skipped_over_apart : (r : Reading) → stream_at (skipped_over id r).1.streams t ≡ stream_at r.1.streams t
    skipped_over_apart (g, c) =
        applied_apart t id (g, c.streams, c.events)
        (of_one_stream (λ (s : KeptSkip). s.id) (λ s. is_same s.boundary (readable_boundary g.retiring id)) g.skips)

    next_apart : (g : GenerationsView) (c : Channels)
        → stream_at (next_generation_read first limit id in_progress (g, c)).1.streams t ≡ stream_at c.streams t
    unfolding next_generation_read
    next_apart g c =
        skipped_over_apart
        (after_given_to g id in_progress, write_half_kept (is_write_half_closed c.streams id) filled id)
        ∙ write_half_apart (is_write_half_closed c.streams id) filled.streams
        ∙ all_delivered_apart t first limit (given_to g id in_progress) (ended c id) given
        ∙ ended_apart t id apart c.streams
      where
        filled : Channels
        filled = fold (delivered first limit) (ended c id) (given_to g id in_progress)

        given : has_id t (ids_of_data (given_to g id in_progress)) ≡ false
        given =
            of_one_stream (λ (d : ChunkPayloadData). d.stream_identifier)
            (λ d. is_up_to (readable_end g id in_progress) d.tsn) g.deferred

    passed_apart : (r : Reading)
        → stream_at (passed_once first limit id in_progress r).0.1.streams t ≡ stream_at r.1.streams t
    passed_apart (g, c) = by (drained g id (waiting_of c.streams id)).0 (drained g id (waiting_of c.streams id)).1
      where
        by : (h : GenerationsView) (over : Bool)
            → stream_at (passed_where first limit id in_progress c (h, over)).0.1.streams t ≡ stream_at c.streams t
        by h true = next_apart h c
        by h false = refl

    all_passed_apart : (n : ℕ) (r : Reading)
        → stream_at (passed_times n first limit id in_progress r).1.streams t ≡ stream_at r.1.streams t
    all_passed_apart zero r = refl
    all_passed_apart (suc n) r =
        by (passed_once first limit id in_progress r).1
        (all_passed_apart n (passed_once first limit id in_progress r).0)
      where
        by : (over : Bool)
            → stream_at
            (passed_times n first limit id in_progress (passed_once first limit id in_progress r).0).1.streams t
            ≡ stream_at (passed_once first limit id in_progress r).0.1.streams t
            → stream_at
            (cond {A = Reading} over
            (passed_times n first limit id in_progress (passed_once first limit id in_progress r).0)
            (passed_once first limit id in_progress r).0).1.streams t
            ≡ stream_at r.1.streams t
        by true more = more ∙ passed_apart r
        by false more = passed_apart r

-- only the stream itself is meant
named_alone : (t id : ℕ) → has_id t (id ∷ []) ≡ false → is_eq (nat_cmp t id) ≡ false
named_alone t id e = (or_parts (is_eq (nat_cmp t id)) false e).0

pub read_out_stays : (first limit id : ℕ) (r : ResetsView) (c : Channels)
    → StayBeside (id ∷ []) c.streams (read_out first limit id r c).1.streams
read_out_stays first limit id r c t beside =
    all_passed_apart t id (named_alone t id beside) first limit (boundary_of r.peer id)
    (count_at r.generations.retiring id) (r.generations, c)

pub stopped_reading_stays : (id : ℕ) (r : ResetsView) (m : StreamMap) (told : List Event)
    → StayBeside (id ∷ []) m (stopped_reading id r m told).1
stopped_reading_stays id r m told t beside =
    by (with_generations r (generations.discarded r.generations id)) (is_rfc r.own.profile)
    (has_newest r.generations id) (is_blocked (with_generations r (generations.discarded r.generations id)) id)
    (named_alone t id beside)
  where
    changed : is_eq (nat_cmp t id) ≡ false → stream_at (changed_stream without_unread m id) t ≡ stream_at m t
    changed apart = changed_apart t id apart without_unread m

    ends : is_eq (nat_cmp t id) ≡ false
        → stream_at (without_stream (changed_stream without_unread m id) id) t ≡ stream_at m t
    ends apart = ended_apart t id apart (changed_stream without_unread m id) ∙ changed apart

    by : (left : ResetsView) (by_rfcs more blocked : Bool) → is_eq (nat_cmp t id) ≡ false
        → stream_at
        (cond {A = Beside} by_rfcs
        (reset_or_ended more left id (changed_stream without_unread m id) (filter (λ e. not (is_told_of id e)) told))
        (ended_unless blocked left id (changed_stream without_unread m id)
        (filter (λ e. not (is_told_of id e)) told))).1 t
        ≡ stream_at m t
    by left true true blocked apart = changed apart
    by left true false blocked apart = ends apart
    by left false more true apart = changed apart
    by left false more false apart = ends apart
