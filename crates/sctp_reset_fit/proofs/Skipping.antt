-- What a FORWARD TSN does to streams, and to what is kept for later generations, keeps the course of a stream (RFC 3758
-- section 3.6).
use Rattle.std.proofs.Common.{◌≡◌, refl, sym, ap, ◌∙◌, subst, ℕ, ◌≤◌, Bool, true, false, cond, List, [], ◌∷◌}
use Rattle.std.proofs.Common.{filter, fold, Option, Some, None, arith, is_eq, nat_cmp}
use Rattle.std.specs.BTreeMap.{is_at}
use Rattle.std.specs.Map.{keys_of, lookup}
use Rattle.std.specs.Option.{option_map}
use Rattle.sctp_model.proofs.Lists.{all_filter}
use Rattle.sctp_wire_types.specs.declared.chunk.ChunkPayloadData.{ChunkPayloadData}
use Rattle.sctp_streams.specs.declared.event.Event.{Event}
use Rattle.sctp_streams.specs.Stream.{StreamView, stream_passed, stream_skipped}
use Rattle.sctp_streams.specs.Streams.{StreamMap, changed_stream, passed_each, passed_in, stream_at}
use Rattle.sctp_generations.specs.declared.skips.KeptSkip.{KeptSkip}
use Rattle.sctp_generations.specs.Deferred.{is_of}
use Rattle.sctp_generations.specs.Generations.{GenerationsView, has_skips}
use Rattle.sctp_generations.specs.Skips.{skip_ids}
use Rattle.sctp_resets.specs.Resets.{ResetsView, skips_done, skips_done_of, with_generations, with_skip}
use Rattle.sctp_resets.specs.Resets.{with_skips_done, without_unordered}
use Rattle.sctp_resets.specs.Skips.{Skipping, skips_applied, skips_applied_of}
use Rattle.sctp_courses.specs.Course.{Live, times}
use Rattle.sctp_reset_fit.specs.Held.{IsHeldOn}
use Rattle.sctp_reset_fit.specs.Keeping.{KeepsCourse}
use Rattle.sctp_reset_fit.specs.Stands.{IsNear, LiveAs, offsets_of}
use Rattle.sctp_reset_fit.proofs.Keeping.{alike_keeps}
use Rattle.sctp_reset_fit.proofs.Leading.{leads_nowhere}
use Rattle.sctp_reset_fit.proofs.Passing.{IsAlike, alike_itself, alike_on, changed_alike, skipped_as, skips_alike}
use Rattle.sctp_reset_fit.proofs.Piles.{passed_on, skipped_on}

-- some pieces stand on no other offsets than all of them
fewer_offsets : (initial id : ℕ) (choose : ChunkPayloadData → Bool) (o : ℕ) (ds : List ChunkPayloadData)
    → times o (offsets_of initial id (filter choose ds)) ≤ times o (offsets_of initial id ds)
fewer_offsets initial id choose o [] = omega arith
fewer_offsets initial id choose o (d ∷ ds) =
    by (choose d) (is_of id d) refl (fewer_offsets initial id choose o ds)
  where
    by : (chosen mine : Bool) → is_of id d ≡ mine
        → times o (offsets_of initial id (filter choose ds)) ≤ times o (offsets_of initial id ds)
        → times o (offsets_of initial id (cond chosen (d ∷ filter choose ds) (filter choose ds)))
        ≤ times o (offsets_of initial id (d ∷ ds))
    by true true e l = rw e (omega arith)
    by true false e l = rw e l
    by false true e l = rw e (omega arith)
    by false false e l = rw e l

-- Unordered pieces are dropped on all streams

mapped_step : (f : StreamView → StreamView) (b : Bool) (t : StreamView) (o : Option StreamView)
    → cond b (Some (f t)) (option_map f o) ≡ option_map f (cond b (Some t) o)
mapped_step f true t o = refl
mapped_step f false t o = refl

found_passed : (tsn id : ℕ) (es : List (ℕ × StreamView))
    → lookup (is_at (nat_cmp id)) (passed_each tsn es) ≡ option_map (stream_passed tsn) (lookup (is_at (nat_cmp id)) es)
found_passed tsn id [] = refl
found_passed tsn id (e ∷ es) =
    ap (cond (is_eq (nat_cmp id e.0)) (Some (stream_passed tsn e.1))) (found_passed tsn id es)
    ∙ mapped_step (stream_passed tsn) (is_eq (nat_cmp id e.0)) e.1 (lookup (is_at (nat_cmp id)) es)

same_keys : (tsn : ℕ) (es : List (ℕ × StreamView)) → keys_of (passed_each tsn es) ≡ keys_of es
same_keys tsn [] = refl
same_keys tsn (e ∷ es) = ap (λ (ks : List ℕ). e.0 ∷ ks) (same_keys tsn es)

module _ (P : ChunkPayloadData → Type 0) (initial id : ℕ) where
  passed_as : (tsn : ℕ) (o : Option StreamView) (l : Option Live) → LiveAs (IsHeldOn P initial id) o l
      → LiveAs (IsHeldOn P initial id) (option_map (stream_passed tsn) o) l
  passed_as tsn None l h = h
  passed_as tsn (Some t) None h = h
  passed_as tsn (Some t) (Some l) h = record {
    generation = h.generation;
    is_open = h.is_open;
    held = passed_on P initial id t.reassembly l.held tsn h.held;
  }

  passed_alike : (tsn : ℕ) (g : GenerationsView) (m : StreamMap)
      → IsAlike id (IsHeldOn P initial id) g m g (passed_in m tsn)
  passed_alike tsn g m = record {
    retiring = refl;
    deferred = refl;
    next = refl;
    live = λ l h.
        subst (λ (o : Option StreamView). LiveAs (IsHeldOn P initial id) o l) (sym (found_passed tsn id m.by_id))
        (passed_as tsn (stream_at m id) l h);
    once = λ h. subst (λ (ks : List ℕ). times id ks ≤ 1) (sym (same_keys tsn m.by_id)) h;
  }

  -- Skips that were kept are applied on the live streams

  each_applied_alike : (ks : List ℕ) (x : Skipping)
      → IsAlike id (IsHeldOn P initial id) x.0 x.1 (fold skips_applied_of x ks).0 (fold skips_applied_of x ks).1
  each_applied_alike [] x = alike_itself id (IsHeldOn P initial id) x.0 x.1
  each_applied_alike (k ∷ ks) x =
      alike_on id (IsHeldOn P initial id) (skips_alike id (IsHeldOn P initial id) (skipped_on P initial id) x k)
      (each_applied_alike ks (skips_applied_of x k))

  all_applied_alike : (x : Skipping)
      → IsAlike id (IsHeldOn P initial id) x.0 x.1 (skips_applied x).0 (skips_applied x).1
  all_applied_alike (g, m, told) = by (has_skips g)
    where
      by : (b : Bool)
          → IsAlike id (IsHeldOn P initial id) g m
          (cond {A = Skipping} b (fold skips_applied_of (g, m, told) (skip_ids g.skips)) (g, m, told)).0
          (cond {A = Skipping} b (fold skips_applied_of (g, m, told) (skip_ids g.skips)) (g, m, told)).1
      by true = each_applied_alike (skip_ids g.skips) (g, m, told)
      by false = alike_itself id (IsHeldOn P initial id) g m

module _ (P : ChunkPayloadData → Type 0) (initial id : ℕ) (r : ResetsView) (m : StreamMap) where
  -- some of what waits for later generations is dropped, and the skips that are kept are others
  fewer_keeps : (choose : ChunkPayloadData → Bool) (skips : List KeptSkip)
      → KeepsCourse P initial id r m
      (with_generations r
      (record r.generations { deferred = filter choose r.generations.deferred; skips = skips })) m
  fewer_keeps choose skips c inv h read = (
    record {
      after = c;
      leads = leads_nowhere c;
      stands = record {
        live = h.live;
        next = h.next;
        marks = h.marks;
        kept = all_filter (λ (p : ChunkPayloadData). P p × IsNear initial p.tsn) choose r.generations.deferred
            h.kept;
        deferred = λ o.
            (let few = fewer_offsets initial id choose o r.generations.deferred in
            let all = h.deferred o in omega arith);
        waits = h.waits;
        once_named = h.once_named;
        once_live = h.once_live;
        once_marked = h.once_marked;
        open_where_marked = h.open_where_marked;
        near = h.near;
        still = h.still;
      };
      told = refl;
    },
    read,
  )

  -- a FORWARD TSN passed over ordered messages of the newest generation of some stream
  pub skip_keeps : (k ssn tsn : ℕ) → KeepsCourse P initial id r m (with_skip r k ssn tsn) m
  skip_keeps k ssn tsn = fewer_keeps _ _

  -- it passed over ordered messages of a live stream
  pub stream_skip_keeps : (k ssn : ℕ) → KeepsCourse P initial id r m r (changed_stream (stream_skipped ssn) m k)
  stream_skip_keeps k ssn =
      alike_keeps P initial id r r m (changed_stream (stream_skipped ssn) m k)
      (changed_alike id (IsHeldOn P initial id) (stream_skipped ssn)
      (skipped_as id (IsHeldOn P initial id) (skipped_on P initial id) ssn) r.generations m k) refl

  -- it passed over the unordered messages up to its TSN, of those that wait for later generations
  pub unordered_keeps : (tsn : ℕ) → KeepsCourse P initial id r m (without_unordered r tsn) m
  unordered_keeps tsn = fewer_keeps _ _

  -- and of those that the live streams hold
  pub passed_keeps : (tsn : ℕ) → KeepsCourse P initial id r m r (passed_in m tsn)
  passed_keeps tsn =
      alike_keeps P initial id r r m (passed_in m tsn) (passed_alike P initial id tsn r.generations m) refl

  -- the skips of the generation that is read are applied, those of all streams
  pub skips_done_keeps : (told : List Event)
      → KeepsCourse P initial id r m (skips_done r m told).0 (skips_done r m told).1
  skips_done_keeps told =
      alike_keeps P initial id r (skips_done r m told).0 m (skips_done r m told).1
      (all_applied_alike P initial id (r.generations, m, told)) refl

  -- and those of one
  pub skips_done_of_keeps : (k : ℕ) (told : List Event)
      → KeepsCourse P initial id r m (skips_done_of k r m told).0 (skips_done_of k r m told).1
  skips_done_of_keeps k told =
      alike_keeps P initial id r (skips_done_of k r m told).0 m (skips_done_of k r m told).1
      (skips_alike id (IsHeldOn P initial id) (skipped_on P initial id) (r.generations, m, told) k) refl

-- Of resets only what is kept of generations may be another.
pub record GenerationsAlone (r s : ResetsView) : Type 0 where
  pub own : s.own ≡ r.own
  pub peer : s.peer ≡ r.peer
  pub debts : s.debts ≡ r.debts

pub generations_alone : (r : ResetsView) (g : GenerationsView) → GenerationsAlone r (with_generations r g)
generations_alone r g = record { own = refl; peer = refl; debts = refl }

module _ (r : ResetsView) where
  pub skip_alone : (k ssn tsn : ℕ) → GenerationsAlone r (with_skip r k ssn tsn)
  skip_alone k ssn tsn = generations_alone r _

  pub unordered_alone : (tsn : ℕ) → GenerationsAlone r (without_unordered r tsn)
  unordered_alone tsn = generations_alone r _

  applied_alone : (x : Skipping) → GenerationsAlone r (with_skips_done r x).0
  applied_alone (g, m, told) = generations_alone r g

  pub skips_done_alone : (m : StreamMap) (told : List Event) → GenerationsAlone r (skips_done r m told).0
  skips_done_alone m told = applied_alone (skips_applied (r.generations, m, told))

  pub skips_done_of_alone : (k : ℕ) (m : StreamMap) (told : List Event)
      → GenerationsAlone r (skips_done_of k r m told).0
  skips_done_of_alone k m told = applied_alone (skips_applied_of (r.generations, m, told) k)

  -- the requests of the peer stay
  pub skips_done_peer : (m : StreamMap) (told : List Event) → (skips_done r m told).0.peer ≡ r.peer
  skips_done_peer m told = (skips_done_alone m told).peer

  pub skips_done_of_peer : (k : ℕ) (m : StreamMap) (told : List Event) → (skips_done_of k r m told).0.peer ≡ r.peer
  skips_done_of_peer k m told = (skips_done_of_alone k m told).peer
