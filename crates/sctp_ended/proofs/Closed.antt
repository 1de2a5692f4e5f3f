-- Over every list of calls, and whatever the peer sends, nothing is put into a generation of a stream that ended and is
-- still read.
use Rattle.std.proofs.Common.{◌≡◌, refl, sym, ap, ◌∙◌, subst, ⊎_elim, ℕ, ◌+◌, ◌<◌, ◌≤◌, arith, Bool, true}
use Rattle.std.proofs.Common.{false, cond, eqb, List, [], ◌∷◌, map, Option, Some, None, is_some, nat_cmp}
use Rattle.std.specs.BTreeMap.{is_at}
use Rattle.std.specs.Map.{lookup}
use Rattle.std.proofs.lemmas.Bool.{cases_lt, eq-eqb, false≢true}
use Rattle.std.proofs.lemmas.List.Sums.{sum_by-cons}
use Rattle.sctp_wire_types.specs.declared.chunk.ChunkPayloadData.{ChunkPayloadData}
use Rattle.sctp_streams.specs.Stream.{StreamView}
use Rattle.sctp_streams.specs.Streams.{stream_at}
use Rattle.sctp_generations.specs.Retiring.{boundaries_at}
use Rattle.sctp_reset_fit.specs.Laws.{Passes}
use Rattle.sctp_reset_fit.specs.Pieces.{HoldsOnly}
use Rattle.sctp_assoc.specs.Shown.{Shown}
use Rattle.sctp_sides.specs.Generations.{EachIsLiveOrFinal, live_generations, times}
use Rattle.sctp_sides.specs.Repeats.{IsReadOfOld}
use Rattle.sctp_sides.proofs.AscendingOverRuns.{runs_keep_streams_ascending}
use Rattle.sctp_sides.proofs.GenerationsOverRuns.{generations_are_live_or_final}
use Rattle.sctp_ended.specs.Ended.{EndedGenerationsOfReachedSidesTakeInNothing, EndedGenerationsTakeInNothing}
use Rattle.std.proofs.lemmas.Bool.{or_parts}
use Rattle.sctp_streams.specs.Stream.{without_unread}
use Rattle.sctp_streams.specs.Streams.{changed_stream}
use Rattle.sctp_generations.specs.Generations.{GenerationsView, discarded, is_hidden, no_generations, retires}
use Rattle.sctp_reset_requests.specs.Peer as peer
use Rattle.sctp_reset_requests.specs.Peer.{PeerView, boundary_of}
use Rattle.sctp_reset_fit.proofs.HeldPieces.{empty_holds}
use Rattle.sctp_ended.proofs.Ascending.{no_streams_ascend, once_ascending}
use Rattle.sctp_ended.proofs.Carried.{Anything, IsCarried, half_closed}
use Rattle.sctp_ended.proofs.CarriedOverCalls.{list_carries}
use Rattle.sctp_ended.proofs.ClosedInReads.{SideIsClosed, closed_by_streams, read_out_closed, still_kept}
use Rattle.sctp_ended.proofs.ClosedInResets.{IsClosedBeside, performed_closed}
use Rattle.sctp_ended.proofs.ClosedStreams as streams
use Rattle.sctp_ended.proofs.ClosedStreams.{all_closed, changed_closed, pushed_in_closed}
use Rattle.sctp_ended.proofs.Through.{runs_through}

module _ (test : ChunkPayloadData → Bool) (id generation : ℕ) where
  -- DATA of the generation of its stream that is read is of no stream of which boundaries are kept
  apart_where_read : (g : GenerationsView) (p : PeerView) (d : ChunkPayloadData)
      → is_hidden g d.stream_identifier d.tsn (boundary_of p d.stream_identifier) ≡ false → id ≡ d.stream_identifier
      → retires g id ≡ true → ⊥
  apart_where_read g p d now same kept =
      let parts = or_parts (retires g d.stream_identifier) _ now in
      false≢true (sym parts.0 ∙ subst (λ (j : ℕ). retires g j ≡ true) same kept)

  closed_is_carried : IsCarried Anything (SideIsClosed test id generation)
  closed_is_carried = record {
    streams = closed_by_streams test id generation;
    closes = λ g p m h.
        all_closed (Passes test) id generation (retires g id ≡ true) (retires no_generations id ≡ true) m h;
    drops = λ g p m choose h. h;
    meets = λ g p m last h. h;
    defers = λ g p m d later h. h;
    pushes = λ g p m d limit now fits h.
        pushed_in_closed (Passes test) id generation (retires g id ≡ true) m d.stream_identifier d
        (apart_where_read g p d now) h;
    takes_up = λ g p m q none any h. h;
    performs = λ q first limit r c waits h.
        performed_closed (Passes test) id generation q first limit (record r { peer = peer.completed q }) c h;
    reads_out = read_out_closed test id generation;
    stops = λ g p m k h.
        changed_closed (Passes test) id generation (retires (discarded g k) id ≡ true) without_unread (λ s. refl)
        (λ s e. e) (λ s held. empty_holds (Passes test) id) (changed_stream half_closed m k) k
        (streams.half_closed (Passes test) id generation (retires g id ≡ true) (retires (discarded g k) id ≡ true) m k
        (still_kept test id generation g k) h);
  }

-- boundaries are kept
kept_of : (a : Shown) (id : ℕ) (o : Option (List ℕ)) → boundaries_at a.resets.generations.retiring id ≡ o
    → is_some o ≡ true → IsReadOfOld a id
kept_of a id (Some boundaries) e some = record { boundaries = boundaries; kept = e }
kept_of a id None e some = absurd (false≢true some)

-- two streams that are found are one
same_found : (o : Option StreamView) (s t : StreamView) → o ≡ Some s → o ≡ Some t → s ≡ t
same_found o s t first second = cc

pub ended_generations_take_in_nothing : EndedGenerationsTakeInNothing
ended_generations_take_in_nothing id generation test calls told a b s ascend ended given run works live number is_open =
    let closed : IsClosedBeside (Passes test) id generation b.resets.generations b.streams =
    list_carries (closed_is_carried test id generation) calls told a b tt
    (runs_through (λ x. Anything x.resets.generations x.resets.peer) (λ x. tt) calls told a b run) (λ on. before)
    works in
    let old = closed.live.so s live number is_open in
    record {
      stream = s;
      live = live;
      number = number;
      is_open = is_open;
      marked = kept_of b id (boundaries_at b.resets.generations.retiring id) refl old.0;
      only = old.1;
    }
  where
    only : (t : StreamView) → stream_at a.streams id ≡ Some t → HoldsOnly (Passes test) id t.reassembly
    only t is =
        subst (λ (x : StreamView). HoldsOnly (Passes test) id x.reassembly)
        (same_found (stream_at a.streams id) ended.stream t ended.live is) ended.only

    before : IsClosedBeside (Passes test) id generation a.resets.generations a.streams
    before = record {
      given = given;
      live = record {
        once = once_ascending id a.streams ascend;
        so = λ t is same reads. (ap is_some ended.marked.kept, only t is);
      };
    }

-- From the beginning

-- a live stream is of a generation that is among those of the live streams
live_among : (id : ℕ) (s : StreamView) (es : List (ℕ × StreamView)) → lookup (is_at (nat_cmp id)) es ≡ Some s
    → 1 ≤ times s.stats.generation (map (λ e. e.1.stats.generation) es)
live_among id s [] there = absurd (false≢true (ap is_some there))
live_among id s (e ∷ es) there = by (is_at (nat_cmp id) e.0) there (live_among id s es)
  where
    g : ℕ
    g = s.stats.generation

    all : times g (e.1.stats.generation ∷ map (λ x. x.1.stats.generation) es)
        ≡ cond {A = ℕ} (eqb e.1.stats.generation g) 1 0 + times g (map (λ x. x.1.stats.generation) es)
    all = sum_by-cons (λ m. cond {A = ℕ} (eqb m g) 1 0) e.1.stats.generation (map (λ x. x.1.stats.generation) es)

    by : (b : Bool) → cond b (Some e.1) (lookup (is_at (nat_cmp id)) es) ≡ Some s
        → (lookup (is_at (nat_cmp id)) es ≡ Some s
        → 1 ≤ times g (map (λ x. x.1.stats.generation) es))
        → 1 ≤ times g (e.1.stats.generation ∷ map (λ x. x.1.stats.generation) es)
    by true first rest =
        let stream : e.1 ≡ s = cc in
        let here : eqb e.1.stats.generation g ≡ true =
        eq-eqb e.1.stats.generation g (ap (λ (x : StreamView). x.stats.generation) stream) in
        let one : cond {A = ℕ} (eqb e.1.stats.generation g) 1 0 ≡ 1 = ap (λ (b : Bool). cond {A = ℕ} b 1 0) here in
        omega (arith, all, one)
    by false later rest = let more = rest later in omega (arith, all, more)

-- a live generation was given out, where each that was given out is that of a live stream or final, and no other is
was_given : (a : Shown) (id generation : ℕ) (s : StreamView) (ended : List ℕ) → stream_at a.streams id ≡ Some s
    → s.stats.generation ≡ generation
    → EachIsLiveOrFinal a.streams.next_generation (live_generations a.streams) ended
    → generation < a.streams.next_generation
was_given a id generation s ended live number all =
    ⊎_elim (λ (below : generation < a.streams.next_generation). below)
    (λ (above : a.streams.next_generation ≤ generation).
    absurd (never (all.no_other generation above).0))
    (cases_lt generation a.streams.next_generation)
  where
    never : times generation (live_generations a.streams) ≡ 0 → ⊥
    never none =
        let some : 1 ≤ times generation (live_generations a.streams) =
        subst (λ (g : ℕ). 1 ≤ times g (live_generations a.streams)) number (live_among id s a.streams.by_id live) in
        omega (arith, none, some)

pub ended_generations_of_reached_sides_take_in_nothing : EndedGenerationsOfReachedSidesTakeInNothing
ended_generations_of_reached_sides_take_in_nothing id generation test before calls first later start a b s begins there
    worked ended run works live number is_open =
    ended_generations_take_in_nothing id generation test calls later a b s
    (runs_keep_streams_ascending before first start a (no_streams_ascend start.streams begins.0) there worked) ended
    (was_given a id generation ended.stream _ ended.live ended.number
    (generations_are_live_or_final before first start a begins there worked)) run works live number is_open
