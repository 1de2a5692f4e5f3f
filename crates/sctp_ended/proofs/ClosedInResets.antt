-- A request of the peer that is performed puts nothing into a generation that ended and is still read: what waited for
-- later generations is given to them alone.
use Rattle.std.proofs.Common.{◌≡◌, ◌++◌, refl, sym, ap, ◌∙◌, subst, ℕ, ◌&&◌, Bool, true, false, not, cond, eqb, List}
use Rattle.std.proofs.Common.{[], ◌∷◌, fold, filter, Option, Some, None, is_some, is_eq, nat_cmp}
use Rattle.std.specs.List.{AllByRecursion}
use Rattle.std.specs.BTreeMap.{is_at}
use Rattle.std.specs.Map.{lookup, set_value}
use Rattle.std.proofs.lemmas.Bool.{eqb-true, false≢true}
use Rattle.sctp_wire_types.specs.declared.chunk.ChunkPayloadData.{ChunkPayloadData}
use Rattle.sctp_wire_types.specs.declared.error.Error.{Error}
use Rattle.sctp_wire_types.specs.declared.ids.PayloadProtocolIdentifier.TheVariants as kinds
use Rattle.sctp_streams.specs.Stream.{StreamView}
use Rattle.sctp_streams.specs.Streams.{StreamMap, generation_left, is_readable_in, pushed_in}
use Rattle.sctp_streams.specs.Streams.{refusal_in, stream_at}
use Rattle.sctp_generations.specs.declared.retirement.Retirement.{Retirement}
use Rattle.sctp_generations.specs.declared.retirement.Retirement.TheVariants as retirements
use Rattle.sctp_generations.specs.Generations.{GenerationsView, given_to_all}
use Rattle.sctp_generations.specs.Generations.{retired_by, retirement_of, retires, with_boundary}
use Rattle.sctp_generations.specs.Generations.{without_newest_of}
use Rattle.sctp_generations.specs.Retiring.{RetiringMap, boundaries_at, is_retiring, retired_at, retired_with}
use Rattle.sctp_reset_requests.specs.Request.{PeerRequestView}
use Rattle.sctp_resets.specs.Channels.{Channels, channels, delivered, given_unless, given_where, opened}
use Rattle.sctp_resets.specs.Channels.{with_new_stream}
use Rattle.sctp_resets.specs.Performing.{Performing, answered_in, is_drained, named_in, named_live, performing}
use Rattle.sctp_resets.specs.Performing.{retired_as, retired_each, retired_next, retired_one, with_retired}
use Rattle.sctp_resets.specs.Resets.{ResetsView, Resetting, all_released, own_answered}
use Rattle.sctp_resets.specs.Resets.{performed, performed_with}
use Rattle.sctp_resets.proofs.ListsOver.{of_chosen}
use Rattle.sctp_reset_fit.proofs.Once.{inserted_apart}
use Rattle.sctp_ended.proofs.ClosedStreams.{IsClosed, made_closed, pushed_in_closed, weaker_closed}
use Rattle.sctp_ended.proofs.ClosedStreams.{without_closed}

-- Boundaries that are kept of a stream

module _ (id : ℕ) where
  -- of a map in which a value is set none is missing that was there
  set_some : (test : ℕ → Bool) (v : List ℕ) (es : RetiringMap)
      → is_some (lookup (is_at (nat_cmp id)) (set_value test es v)) ≡ is_some (lookup (is_at (nat_cmp id)) es)
  set_some test v [] = refl
  set_some test v (e ∷ es) = by (test e.0) (set_some test v es)
    where
      here : (b : Bool) (o : Option (List ℕ)) → is_some (cond b (Some v) o) ≡ is_some (cond b (Some e.1) o)
      here true o = refl
      here false o = refl

      later : (b : Bool) (o x : Option (List ℕ)) → is_some o ≡ is_some x
          → is_some (cond b (Some e.1) o) ≡ is_some (cond b (Some e.1) x)
      later true o x same = refl
      later false o x same = same

      by : (b : Bool)
          → is_some (lookup (is_at (nat_cmp id)) (set_value test es v)) ≡ is_some (lookup (is_at (nat_cmp id)) es)
          → is_some (lookup (is_at (nat_cmp id)) (cond b ((e.0, v) ∷ es) (e ∷ set_value test es v)))
          ≡ is_some (lookup (is_at (nat_cmp id)) (e ∷ es))
      by true more = here (is_eq (nat_cmp id e.0)) (lookup (is_at (nat_cmp id)) es)
      by false more =
          later (is_eq (nat_cmp id e.0)) (lookup (is_at (nat_cmp id)) (set_value test es v))
          (lookup (is_at (nat_cmp id)) es) more

  -- where a generation of some stream ends, boundaries that were kept still are
  retired_more : (m : RetiringMap) (k boundary : ℕ) → is_retiring m id ≡ true
      → is_retiring (retired_with m k boundary) id ≡ true
  retired_more m k boundary kept = by (boundaries_at m k) refl
    where
      apart : boundaries_at m k ≡ None → (b : Bool) → eqb id k ≡ b → eqb id k ≡ false
      apart none false e = e
      apart none true e =
          absurd (false≢true
          (ap is_some (sym none) ∙ ap (λ (j : ℕ). is_retiring m j) (sym (eqb-true id k e)) ∙ kept))

      by : (o : Option (List ℕ)) → boundaries_at m k ≡ o → is_some (boundaries_at (retired_at o m k boundary) id) ≡ true
      by None none = ap is_some (inserted_apart id k (boundary ∷ []) m (apart none (eqb id k) refl)) ∙ kept
      by (Some boundaries) there = set_some (is_at (nat_cmp k)) (boundaries ++ boundary ∷ []) m ∙ kept

  -- no boundaries are kept of the stream of a piece
  abbrev is_free : RetiringMap → ChunkPayloadData → Bool
  is_free m d = not (is_retiring m d.stream_identifier)

  -- DATA that goes to streams of which no boundaries are kept is of no stream of which some are
  apart_of_given : (m : RetiringMap) (ds : List ChunkPayloadData)
      → AllByRecursion (λ (d : ChunkPayloadData). id ≡ d.stream_identifier → is_retiring m id ≡ true → ⊥)
      (filter (is_free m) ds)
  apart_of_given m [] = tt
  apart_of_given m (d ∷ ds) = by (is_retiring m d.stream_identifier) refl (apart_of_given m ds)
    where
      by : (b : Bool) → is_retiring m d.stream_identifier ≡ b
          → AllByRecursion (λ (x : ChunkPayloadData). id ≡ x.stream_identifier → is_retiring m id ≡ true → ⊥)
          (filter (is_free m) ds)
          → AllByRecursion (λ (x : ChunkPayloadData). id ≡ x.stream_identifier → is_retiring m id ≡ true → ⊥)
          (cond (not b) (d ∷ filter (is_free m) ds) (filter (is_free m) ds))
      by true e rest = rest
      by false e rest = (
        λ same kept. false≢true (sym e ∙ subst (λ (j : ℕ). is_retiring m j ≡ true) same kept),
        rest,
      )

  -- nothing is of a stream where none can be
  pub apart_at_all : (ds : List ChunkPayloadData)
      → AllByRecursion (λ (d : ChunkPayloadData). id ≡ d.stream_identifier → ⊥ → ⊥) ds
  apart_at_all [] = tt
  apart_at_all (d ∷ ds) = ((λ same never. never), apart_at_all ds)

-- Where a generation of a stream that ended can be read, boundaries are kept of it, and P is so of what it holds.
abbrev pub IsClosedBeside : (ChunkPayloadData → Type 0) → ℕ → ℕ → GenerationsView → StreamMap → Type 0
IsClosedBeside P id generation g m = IsClosed P id generation (retires g id ≡ true) m

module _ (P : ChunkPayloadData → Type 0) (id generation : ℕ) where
  abbrev ChannelsAreClosed : Type 0 → Channels → Type 0
  ChannelsAreClosed M c = IsClosed P id generation M c.streams

  abbrev IsResettingClosed : Resetting → Type 0
  IsResettingClosed s = IsClosedBeside P id generation s.0.generations s.1.streams

  -- DATA goes to its streams, of which none is one of which boundaries are kept

  -- this DATA is of another stream, or no boundaries are kept of this one
  abbrev IsApart : Type 0 → ChunkPayloadData → Type 0
  IsApart M d = id ≡ d.stream_identifier → M → ⊥

  opened_closed : (M : Type 0) (first : ℕ) (c : Channels) (k : ℕ) → ChannelsAreClosed M c
      → ChannelsAreClosed M (opened first c k).0
  unfolding opened
  opened_closed M first c k h = by (stream_at c.streams k) refl (generation_left c.streams)
    where
      by : (o : Option StreamView) → stream_at c.streams k ≡ o → (left : Bool)
          → ChannelsAreClosed M
          (cond {A = Channels × Bool} (is_some o) (c, true)
          (cond {A = Channels × Bool} (not left) (c, false) (with_new_stream first c k, true))).0
      by (Some s) is left = h
      by None is false = h
      by None is true = made_closed P id generation M c.streams k first kinds.Unknown is h

  given_closed : (M : Type 0) (limit : ℕ) (c : Channels) (there : Bool) (d : ChunkPayloadData) → IsApart M d
      → ChannelsAreClosed M c → ChannelsAreClosed M (given_where limit (c, there) d)
  given_closed M limit c false d apart h = h
  given_closed M limit c true d apart h = by (refusal_in c.streams d.stream_identifier d limit)
    where
      by : (o : Option Error) → ChannelsAreClosed M (given_unless o c d)
      by (Some fault) = h
      by None =
          let pushed = pushed_in_closed P id generation M c.streams d.stream_identifier d apart h in
          of_chosen (ChannelsAreClosed M)
          ((pushed_in c.streams d.stream_identifier d).1
          && is_readable_in (pushed_in c.streams d.stream_identifier d).0 d.stream_identifier) _ _ pushed pushed

  delivered_closed : (M : Type 0) (first limit : ℕ) (c : Channels) (d : ChunkPayloadData) → IsApart M d
      → ChannelsAreClosed M c → ChannelsAreClosed M (delivered first limit c d)
  unfolding delivered
  delivered_closed M first limit c d apart h =
      given_closed M limit (opened first c d.stream_identifier).0 (opened first c d.stream_identifier).1 d apart
      (opened_closed M first c d.stream_identifier h)

  pub all_delivered_closed : (M : Type 0) (first limit : ℕ) (ds : List ChunkPayloadData) (c : Channels)
      → AllByRecursion (λ (d : ChunkPayloadData). id ≡ d.stream_identifier → M → ⊥) ds → ChannelsAreClosed M c
      → ChannelsAreClosed M (fold (delivered first limit) c ds)
  all_delivered_closed M first limit [] c each h = h
  all_delivered_closed M first limit (d ∷ ds) c each h =
      all_delivered_closed M first limit ds (delivered first limit c d) each.1
      (delivered_closed M first limit c d each.0 h)

  -- A request of the peer is performed

  abbrev IsPerformingClosed : Performing → Type 0
  IsPerformingClosed p = IsClosedBeside P id generation p.generations p.streams

  retired_one_closed : (boundary : ℕ) (p : Performing) (k : ℕ) → IsPerformingClosed p
      → IsPerformingClosed (retired_one boundary p k).0
  unfolding retired_one
  retired_one_closed boundary p k h = by (retirement_of p.generations k boundary (is_drained p.streams k))
    where
      by : (w : Retirement)
          → IsPerformingClosed (retired_as w (record p { generations = retired_by w p.generations k boundary }) k).0
      by retirements.Ended =
          without_closed P id generation (retires p.generations id ≡ true) (retires p.generations id ≡ true) p.streams k
          (λ other kept. kept) h
      by retirements.Retires =
          weaker_closed P id generation (retires p.generations id ≡ true)
          (retires (with_boundary p.generations k boundary) id ≡ true) p.streams
          (retired_more id p.generations.retiring k boundary) h
      by retirements.Unchanged = h

  listed_closed : (p : Performing) (made : Bool) (ids : List ℕ) (k : ℕ) → IsPerformingClosed p
      → IsPerformingClosed (with_retired (p, made) ids k).0
  listed_closed p true ids k h = h
  listed_closed p false ids k h = h

  all_retired_closed : (boundary : ℕ) (ids : List ℕ) (p : Performing × List ℕ) → IsPerformingClosed p.0
      → IsPerformingClosed (fold (retired_next boundary) p ids).0
  all_retired_closed boundary [] p h = h
  all_retired_closed boundary (k ∷ ids) p h =
      all_retired_closed boundary ids (retired_next boundary p k)
      (listed_closed (retired_one boundary p.0 k).0 (retired_one boundary p.0 k).1 p.1 k
      (retired_one_closed boundary p.0 k h))

  all_released_closed : (first limit : ℕ) (r : ResetsView) (c : Channels)
      → IsClosedBeside P id generation r.generations c.streams → IsResettingClosed (all_released first limit r c)
  all_released_closed first limit r c h =
      all_delivered_closed (retires r.generations id ≡ true) first limit (given_to_all r.generations) c
      (apart_of_given id r.generations.retiring r.generations.deferred) h

  performed_with_closed : (q : PeerRequestView) (first limit : ℕ) (r : ResetsView) (to_accept named : List ℕ)
      (p : Performing × List ℕ) → IsPerformingClosed p.0
      → IsResettingClosed (performed_with q first limit r to_accept named p).0
  performed_with_closed q first limit r to_accept named (p, ids) h =
      all_released_closed first limit (record r {
        own = own_answered q named ids r.own;
        debts = p.debts;
        generations = without_newest_of p.generations q.ids;
      }) (channels p.streams p.events to_accept) h

  pub performed_closed : (q : PeerRequestView) (first limit : ℕ) (r : ResetsView) (c : Channels)
      → IsClosedBeside P id generation r.generations c.streams → IsResettingClosed (performed q first limit r c).0
  unfolding performed
  performed_closed q first limit r c h =
      let named : List ℕ = named_in r.own c.streams q in
      performed_with_closed q first limit r c.to_accept named
      (answered_in r.own named (retired_each q (performing r.generations r.debts c.streams c.events)))
      (all_retired_closed q.last_tsn (named_live c.streams q)
      (performing r.generations r.debts c.streams c.events, []) h)
