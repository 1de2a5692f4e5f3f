-- What is done to live streams, or waits for the generation of another one, keeps the course of a stream.
use Rattle.std.proofs.Common.{◌≡◌, refl, sym, ap, ◌∙◌, subst, subst₂, ℕ, zero, suc, ◌+◌, ◌≤◌, Bool, true, false}
use Rattle.std.proofs.Common.{cond, eqb, if◌then◌else◌, List, [], ◌∷◌, filter, insert, map, Option, Some, None, arith}
use Rattle.std.proofs.Common.{is_eq, nat_cmp}
use Rattle.std.specs.BTreeMap.{is_at}
use Rattle.std.proofs.lemmas.Bool.{cond-true, eq-eqb, eqb-true, ne_eqb, true≢false}
use Rattle.sctp_wire_types.specs.declared.chunk.ChunkPayloadData.{ChunkPayloadData}
use Rattle.sctp_wire_types.specs.declared.ids.PayloadProtocolIdentifier.{PayloadProtocolIdentifier}
use Rattle.sctp_streams.specs.declared.halves.RecvSendState.{RecvSendState}
use Rattle.sctp_streams.specs.declared.halves.RecvSendState.TheVariants as open_halves
use Rattle.sctp_streams.specs.declared.setting.Setting.{Setting}
use Rattle.sctp_streams.specs.declared.setting.Setting.TheVariants as settings
use Rattle.sctp_streams.specs.Stream.{StreamView, accepted_by, fresh_stream, is_read_half_open, released_from}
use Rattle.sctp_streams.specs.Stream.{stream_pushed, stream_read, with_halves, with_restarted_ssn, with_setting}
use Rattle.sctp_streams.specs.Stream.{with_ssn_given_back, without_read_half, without_write_half}
use Rattle.sctp_streams.specs.Streams.{StreamMap, change_at, changed_stream, given_back_in, is_generation, made}
use Rattle.sctp_streams.specs.Streams.{pushed_at, pushed_in, read_at, read_in, released_in, stream_at, with_stream}
use Rattle.sctp_streams.specs.Streams.{without_stream}
use Rattle.sctp_streams.proofs.LowMarks.{at_with, found_as, found_of}
use Rattle.sctp_generations.specs.Deferred.{is_of, place_of}
use Rattle.sctp_generations.specs.Generations.{GenerationsView}
use Rattle.sctp_generations.specs.Retiring.{boundaries_at}
use Rattle.sctp_reset_requests.specs.Request.{PeerRequestView}
use Rattle.sctp_resets.specs.Resets.{ResetsView, with_deferred}
use Rattle.sctp_resets.proofs.ListsOver.{all_inserted}
use Rattle.sctp_resets.proofs.StreamsBeside.{ended_apart, made_apart, stream_set_apart}
use Rattle.sctp_courses.specs.Course.{Course, Live, is_readable, times}
use Rattle.sctp_courses.specs.Events.{Event, closed_to_reads, opened}
use Rattle.sctp_reset_fit.specs.Held.{IsHeldOn}
use Rattle.sctp_reset_fit.specs.Keeping.{KeepsCourse}
use Rattle.sctp_reset_fit.specs.Laws.{Stands}
use Rattle.sctp_reset_fit.specs.Stands.{IsLiveAs, IsNear, IsOnce, LiveAs, MarksAs, offset_of}
use Rattle.sctp_reset_fit.proofs.Keeping.{alike_keeps}
use Rattle.sctp_reset_fit.proofs.Leading.{leads_by, leads_nowhere, leads_to_open}
use Rattle.sctp_reset_fit.proofs.Once.{inserted_once, inserted_there, removed_none, removed_once, set_once}
use Rattle.sctp_reset_fit.proofs.Passing.{changed_alike}
use Rattle.sctp_reset_fit.proofs.Piles.{empty_on}

-- once the read half is closed nothing can be read
reads_no_more : (h : RecvSendState) → is_read_half_open (without_read_half h) ≡ false
reads_no_more open_halves.Closed = refl
reads_no_more open_halves.Readable = refl
reads_no_more open_halves.Writable = refl
reads_no_more open_halves.ReadWritable = refl

-- once the write half is closed the read half is as it was
reads_on : (h : RecvSendState) → is_read_half_open (without_write_half h) ≡ is_read_half_open h
reads_on open_halves.Closed = refl
reads_on open_halves.Readable = refl
reads_on open_halves.Writable = refl
reads_on open_halves.ReadWritable = refl

-- the application reads the stream no more
abbrev read_closed : StreamView → StreamView
read_closed s = with_halves s (without_read_half s.halves)

-- a generation was given out, and the next one is past it
one_more : (n : ℕ) → suc n ≤ n + 1
one_more n = omega arith

-- a piece of another stream, wherever it is put in, is none of this one's
others_inserted : (id : ℕ) (p : ChunkPayloadData) → is_of id p ≡ false → (ds : List ChunkPayloadData) (place : ℕ)
    → filter (is_of id) (insert ds place p) ≡ filter (is_of id) ds
others_inserted id p other [] zero = rw other refl
others_inserted id p other [] (suc n) = rw other refl
others_inserted id p other (d ∷ ds) zero = rw other refl
others_inserted id p other (d ∷ ds) (suc n) =
    ap (λ (xs : List ChunkPayloadData). cond (is_of id d) (d ∷ xs) xs) (others_inserted id p other ds n)

module _ (P : ChunkPayloadData → Type 0) (initial id : ℕ) (r : ResetsView) (m : StreamMap) where
  -- The live stream of the identifier stays as it is, and so do the generations and the request that waits.
  pub alive_same_keeps : (s : ResetsView) (n : StreamMap) → stream_at n id ≡ stream_at m id
      → m.next_generation ≤ n.next_generation → (IsOnce id m.by_id → IsOnce id n.by_id)
      → s.generations ≡ r.generations → s.peer.in_progress ≡ r.peer.in_progress → KeepsCourse P initial id r m s n
  alive_same_keeps s n there later once same waiting c inv h read = (
    record {
      after = c;
      leads = leads_nowhere c;
      stands = subst₂ (λ (g : GenerationsView) (o : Option PeerRequestView). Stands P initial id g n o c) (sym same)
          (sym waiting) stands;
      told = refl;
    },
    read,
  )
    where
      stands : Stands P initial id r.generations n r.peer.in_progress c
      stands = record {
        live = subst (λ o. LiveAs (IsHeldOn P initial id) o c.live) (sym there) h.live;
        next = let a = h.next in omega arith;
        marks = h.marks;
        kept = h.kept;
        deferred = h.deferred;
        waits = h.waits;
        once_named = h.once_named;
        once_live = once h.once_live;
        once_marked = h.once_marked;
        open_where_marked = h.open_where_marked;
        near = h.near;
        still = h.still;
      }

  -- where nothing is done
  nothing_keeps : KeepsCourse P initial id r m r m
  nothing_keeps = alive_same_keeps r m refl (omega arith) (λ h. h) refl refl

  -- another live stream is another one now
  set_elsewhere_keeps : (k : ℕ) (s : StreamView) → is_eq (nat_cmp id k) ≡ false
      → KeepsCourse P initial id r m r (with_stream m k s)
  set_elsewhere_keeps k s apart =
      alive_same_keeps r (with_stream m k s) (stream_set_apart id k apart m s) (omega arith)
      (λ h. set_once id (is_at (nat_cmp k)) s m.by_id h) refl refl

  -- a live stream is changed in what the course does not have
  pub changed_keeps : (k : ℕ) (f : StreamView → StreamView)
      → ((t : StreamView) (l : Live) → IsLiveAs (IsHeldOn P initial id) t l → IsLiveAs (IsHeldOn P initial id) (f t) l)
      → KeepsCourse P initial id r m r (changed_stream f m k)
  changed_keeps k f keeps =
      alike_keeps P initial id r r m (changed_stream f m k)
      (changed_alike id (IsHeldOn P initial id) f keeps r.generations m k) refl

  -- one that leaves what waits, the generation, and whether the read half is open
  pub same_keeps : (k : ℕ) (f : StreamView → StreamView) → ((t : StreamView) → (f t).reassembly ≡ t.reassembly)
      → ((t : StreamView) → (f t).stats.generation ≡ t.stats.generation)
      → ((t : StreamView) → is_read_half_open (f t).halves ≡ is_read_half_open t.halves)
      → KeepsCourse P initial id r m r (changed_stream f m k)
  same_keeps k f held generation halves =
      changed_keeps k f (λ t l h. record {
        generation = h.generation ∙ sym (generation t);
        is_open = h.is_open ∙ sym (halves t);
        held = subst (λ q. IsHeldOn P initial id q l.held) (sym (held t)) h.held;
      })

  -- an application sets one thing of it
  pub setting_keeps : (k : ℕ) (setting : Setting)
      → KeepsCourse P initial id r m r (changed_stream (λ s. with_setting s setting) m k)
  setting_keeps k setting =
      same_keeps k (λ s. with_setting s setting) (λ t. held setting t) (λ t. generation setting t)
      (λ t. halves setting t)
    where
      held : (x : Setting) (t : StreamView) → (with_setting t x).reassembly ≡ t.reassembly
      held (settings.DefaultPayloadType kind) t = refl
      held (settings.Reliability params) t = refl
      held (settings.LowMark bytes) t = refl
      held (settings.HighMark bytes) t = refl
      held settings.WriteHalfClosed t = refl

      generation : (x : Setting) (t : StreamView) → (with_setting t x).stats.generation ≡ t.stats.generation
      generation (settings.DefaultPayloadType kind) t = refl
      generation (settings.Reliability params) t = refl
      generation (settings.LowMark bytes) t = refl
      generation (settings.HighMark bytes) t = refl
      generation settings.WriteHalfClosed t = refl

      halves : (x : Setting) (t : StreamView)
          → is_read_half_open (with_setting t x).halves ≡ is_read_half_open t.halves
      halves (settings.DefaultPayloadType kind) t = refl
      halves (settings.Reliability params) t = refl
      halves (settings.LowMark bytes) t = refl
      halves (settings.HighMark bytes) t = refl
      halves settings.WriteHalfClosed t = reads_on t.halves

  -- a message was accepted for sending
  pub written_keeps : (k : ℕ) (kind : PayloadProtocolIdentifier) (size : ℕ)
      → KeepsCourse P initial id r m r (changed_stream (λ t. accepted_by t kind size) m k)
  written_keeps k kind size =
      same_keeps k (λ t. accepted_by t kind size) (λ t. refl) (λ t. refl) (λ t. refl)

  -- the numbers of its ordered messages begin again
  pub restarted_keeps : (k : ℕ) → KeepsCourse P initial id r m r (changed_stream with_restarted_ssn m k)
  restarted_keeps k = same_keeps k with_restarted_ssn (λ t. refl) (λ t. refl) (λ t. refl)

  -- bytes of a generation are released
  pub released_keeps : (k generation bytes : ℕ) → KeepsCourse P initial id r m r (released_in m k generation bytes)
  released_keeps k generation bytes = by (is_generation (stream_at m k) generation)
    where
      by : (b : Bool)
          → KeepsCourse P initial id r m r (if b then changed_stream (λ s. released_from s bytes) m k else m)
      by true = same_keeps k (λ s. released_from s bytes) (λ t. refl) (λ t. refl) (λ t. refl)
      by false = nothing_keeps

  -- a message was dropped before any of it was sent
  pub given_back_keeps : (k generation : ℕ) (unordered : Bool) (bytes : ℕ)
      → KeepsCourse P initial id r m r (given_back_in m k generation unordered bytes)
  given_back_keeps k generation unordered bytes = by (is_generation (stream_at m k) generation) unordered
    where
      by : (b u : Bool)
          → KeepsCourse P initial id r m r
          (if b then changed_stream (λ s. released_from (if u then s else with_ssn_given_back s) bytes) m k else m)
      by true true = same_keeps k (λ s. released_from s bytes) (λ t. refl) (λ t. refl) (λ t. refl)
      by true false =
          same_keeps k (λ s. released_from (with_ssn_given_back s) bytes) (λ t. refl) (λ t. refl) (λ t. refl)
      by false u = nothing_keeps

  -- the application reads this stream no more, of which no generation ended that is still read
  closes : (t : StreamView) → stream_at m id ≡ Some t → boundaries_at r.generations.retiring id ≡ None
      → KeepsCourse P initial id r m r (with_stream m id (read_closed t))
  closes t is unmarked c inv h read = (
    record {
      after = after;
      leads = leads_by c after Event.Closes refl refl;
      stands = record {
        live = subst (λ o. LiveAs (IsHeldOn P initial id) o (closed_to_reads c.live)) (sym there)
            (by c.live (subst (λ o. LiveAs (IsHeldOn P initial id) o c.live) is h.live));
        next = h.next;
        marks = h.marks;
        kept = h.kept;
        deferred = h.deferred;
        waits = h.waits;
        once_named = h.once_named;
        once_live = set_once id (is_at (nat_cmp id)) (read_closed t) m.by_id h.once_live;
        once_marked = h.once_marked;
        open_where_marked = λ some l e. absurd (some none);
        near = h.near;
        still = h.still;
      };
      told = refl;
    },
    λ marked. absurd (marked none),
  )
    where
      after : Course
      after = record c { live = closed_to_reads c.live }

      none : c.marks ≡ []
      none = subst (λ o. MarksAs initial o c.marks) unmarked h.marks

      there : stream_at (with_stream m id (read_closed t)) id ≡ Some (read_closed t)
      there =
          at_with m id id t (read_closed t) is
          ∙ cond-true _ (Some (read_closed t)) (stream_at m id) (eq-eqb id id refl)

      by : (l : Option Live) → LiveAs (IsHeldOn P initial id) (Some t) l
          → LiveAs (IsHeldOn P initial id) (Some (read_closed t)) (closed_to_reads l)
      by None a = absurd a
      by (Some l) a = record {
        generation = a.generation;
        is_open = sym (reads_no_more t.halves);
        held = a.held;
      }

  -- so it is of any stream
  pub read_half_closed_keeps : (k : ℕ) → boundaries_at r.generations.retiring k ≡ None
      → KeepsCourse P initial id r m r (changed_stream (λ s. with_halves s (without_read_half s.halves)) m k)
  read_half_closed_keeps k unmarked = by (stream_at m k) refl
    where
      by : (o : Option StreamView) → stream_at m k ≡ o → KeepsCourse P initial id r m r (change_at read_closed o m k)
      by None is = nothing_keeps
      by (Some t) is = where_it_is (eqb id k) refl
        where
          where_it_is : (b : Bool) → eqb id k ≡ b → KeepsCourse P initial id r m r (with_stream m k (read_closed t))
          where_it_is true e =
              let same : id ≡ k = eqb-true id k e in
              subst (λ i. KeepsCourse P initial id r m r (with_stream m i (read_closed t))) same
              (closes t (ap (stream_at m) same ∙ is) (ap (boundaries_at r.generations.retiring) same ∙ unmarked))
          where_it_is false e = set_elsewhere_keeps k (read_closed t) (found_as id k ∙ e)

  -- this stream is made where it was not live: a new generation of it
  opens : (first : ℕ) (kind : PayloadProtocolIdentifier) → stream_at m id ≡ None
      → KeepsCourse P initial id r m r (made m id first kind)
  opens first kind none c inv h read = (
    record {
      after = after;
      leads = leads_to_open c m.next_generation h.still.0 gone h.next;
      stands = record {
        live = subst (λ o. LiveAs (IsHeldOn P initial id) o after.live)
            (sym (inserted_there id (fresh_stream id m.next_generation first kind) m.by_id none)) (record {
              generation = refl;
              is_open = refl;
              held = empty_on P initial id;
            });
        next = one_more m.next_generation;
        marks = h.marks;
        kept = h.kept;
        deferred = h.deferred;
        waits = h.waits;
        once_named = h.once_named;
        once_live = inserted_once id id (fresh_stream id m.next_generation first kind) m.by_id h.once_live
            (λ same. none);
        once_marked = h.once_marked;
        open_where_marked = λ some l e. ap is_readable (sym e);
        near = h.near;
        still = h.still;
      };
      told = refl;
    },
    λ marked. refl,
  )
    where
      after : Course
      after = opened c m.next_generation

      gone : c.live ≡ None
      gone = by c.live (subst (λ o. LiveAs (IsHeldOn P initial id) o c.live) none h.live)
        where
          by : (l : Option Live) → LiveAs (IsHeldOn P initial id) None l → l ≡ None
          by None a = refl
          by (Some l) a = absurd a

  -- so it is of any stream
  pub made_keeps : (k first : ℕ) (kind : PayloadProtocolIdentifier) → stream_at m k ≡ None
      → KeepsCourse P initial id r m r (made m k first kind)
  made_keeps k first kind none = by (eqb id k) refl
    where
      by : (b : Bool) → eqb id k ≡ b → KeepsCourse P initial id r m r (made m k first kind)
      by true e =
          let same : id ≡ k = eqb-true id k e in
          subst (λ i. KeepsCourse P initial id r m r (made m i first kind)) same
          (opens first kind (ap (stream_at m) same ∙ none))
      by false e =
          alive_same_keeps r (made m k first kind) (made_apart id k (found_as id k ∙ e) m first kind) (omega arith)
          (λ h. inserted_once id k (fresh_stream k m.next_generation first kind) m.by_id h
          (λ same. ap (stream_at m) same ∙ none)) refl refl

  -- this stream is gone, which was not live, or of which nothing could be read any more
  vanishes : ((t : StreamView) → stream_at m id ≡ Some t → is_read_half_open t.halves ≡ false)
      → KeepsCourse P initial id r m r (without_stream m id)
  vanishes shut c inv h read = (
    record {
      after = after;
      leads = leads_by c after Event.Vanishes refl (ap (λ b. cond b c after) unread);
      stands = record {
        live = subst (λ o. LiveAs (IsHeldOn P initial id) o None) (sym (removed_none id m.by_id h.once_live)) tt;
        next = h.next;
        marks = h.marks;
        kept = h.kept;
        deferred = h.deferred;
        waits = h.waits;
        once_named = h.once_named;
        once_live = removed_once id (is_at (nat_cmp id)) m.by_id h.once_live;
        once_marked = h.once_marked;
        open_where_marked = λ some l e. absurd (unmarked some);
        near = h.near;
        still = h.still;
      };
      told = refl;
    },
    λ marked. absurd (unmarked marked),
  )
    where
      after : Course
      after = record c { live = None }

      unread : is_readable c.live ≡ false
      unread = by (stream_at m id) refl c.live h.live
        where
          by : (o : Option StreamView) → stream_at m id ≡ o → (l : Option Live) → LiveAs (IsHeldOn P initial id) o l
              → is_readable l ≡ false
          by None is None a = refl
          by None is (Some l) a = absurd a
          by (Some t) is None a = absurd a
          by (Some t) is (Some l) a = a.is_open ∙ shut t is

      unmarked : (c.marks ≡ [] → ⊥) → ⊥
      unmarked some = true≢false (sym (read some) ∙ unread)

  -- so it is of any stream
  pub gone_keeps : (k : ℕ) → ((t : StreamView) → stream_at m k ≡ Some t → is_read_half_open t.halves ≡ false)
      → KeepsCourse P initial id r m r (without_stream m k)
  gone_keeps k shut = by (eqb id k) refl
    where
      by : (b : Bool) → eqb id k ≡ b → KeepsCourse P initial id r m r (without_stream m k)
      by true e =
          let same : id ≡ k = eqb-true id k e in
          subst (λ i. KeepsCourse P initial id r m r (without_stream m i)) same
          (vanishes (λ t is. shut t (ap (stream_at m) (sym same) ∙ is)))
      by false e =
          alive_same_keeps r (without_stream m k) (ended_apart id k (found_as id k ∙ e) m) (omega arith)
          (λ h. removed_once id (is_at (nat_cmp k)) m.by_id h) refl refl

  -- a piece came to another stream
  pub pushed_elsewhere_keeps : (piece : ChunkPayloadData) → (piece.stream_identifier ≡ id → ⊥)
      → KeepsCourse P initial id r m r (pushed_in m piece.stream_identifier piece).0
  pushed_elsewhere_keeps piece other = by (stream_at m piece.stream_identifier)
    where
      by : (o : Option StreamView) → KeepsCourse P initial id r m r (pushed_at o m piece.stream_identifier piece).0
      by None = nothing_keeps
      by (Some s) =
          set_elsewhere_keeps piece.stream_identifier (stream_pushed s piece).0
          (found_of piece.stream_identifier id ∙ ne_eqb piece.stream_identifier id other)

  -- another stream was read
  pub read_elsewhere_keeps : (k : ℕ) → (k ≡ id → ⊥) → KeepsCourse P initial id r m r (read_in m k).0
  read_elsewhere_keeps k other = by (stream_at m k)
    where
      by : (o : Option StreamView) → KeepsCourse P initial id r m r (read_at o m k).0
      by None = nothing_keeps
      by (Some s) = set_elsewhere_keeps k (stream_read s).0 (found_of k id ∙ ne_eqb k id other)

  -- a piece waits for a generation of another stream that is not read yet
  pub deferred_elsewhere_keeps : (piece : ChunkPayloadData) → (piece.stream_identifier ≡ id → ⊥) → P piece
      → IsNear initial piece.tsn → KeepsCourse P initial id r m (with_deferred r piece) m
  deferred_elsewhere_keeps piece other so near c inv h read = (
    record {
      after = c;
      leads = leads_nowhere c;
      stands = record {
        live = h.live;
        next = h.next;
        marks = h.marks;
        kept = all_inserted (λ (q : ChunkPayloadData). P q × IsNear initial q.tsn) r.generations.deferred
            (place_of piece.tsn r.generations.deferred) piece h.kept (so, near);
        deferred = λ o.
            subst
            (λ (qs : List ChunkPayloadData). times o (map (λ (p : ChunkPayloadData). offset_of initial p.tsn) qs)
            ≤ times o c.deferred)
            (sym (others_inserted id piece (ne_eqb piece.stream_identifier id other) r.generations.deferred
            (place_of piece.tsn r.generations.deferred))) (h.deferred o);
        waits = h.waits;
        once_named = h.once_named;
        once_live = h.once_live;
        once_marked = h.once_marked;
        open_where_marked = h.open_where_marked;
        near = h.near;
        still = h.still;
      };
      told = refl;
    },
    read,
  )
