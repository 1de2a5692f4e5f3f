-- DATA that is kept apart is of a generation that is not read yet, whatever happens.
use Rattle.std.proofs.Common.{◌≡◌, refl, sym, ap, ◌∙◌, subst, ◌⊎◌, ⊎_elim, ℕ, zero, suc, ◌==◌, ◌&&◌, ◌||◌, Bool}
use Rattle.std.proofs.Common.{true, false, not, cond, eqb, List, [], ◌∷◌, fold, filter, Option, Some, None}
use Rattle.std.proofs.Common.{is_some}
use Rattle.std.specs.List.{AllByRecursion}
use Rattle.std.proofs.lemmas.Bool.{eq-eqb, eqb-true, false≢true, or_left}
use Rattle.sctp_wire_types.specs.declared.chunk.ChunkPayloadData.{ChunkPayloadData}
use Rattle.sctp_streams.specs.Streams.{StreamMap, waiting_of}
use Rattle.sctp_streams.proofs.LowMarks.{found_as}
use Rattle.sctp_generations.specs.Deferred.{is_above, is_of, is_up_to, place_of}
use Rattle.sctp_generations.specs.Generations.{GenerationsView, after_given_to, discarded, first_boundary}
use Rattle.sctp_generations.specs.Generations.{given_to}
use Rattle.sctp_generations.specs.Generations.{is_hidden, readable_end, retires, without_newest_of}
use Rattle.sctp_generations.specs.Retiring.{boundaries_at, count_at, first_of, forgotten, is_retiring, passed}
use Rattle.sctp_reset_requests.specs.Peer as peer
use Rattle.sctp_reset_requests.specs.Peer.{PeerView, boundary_for, boundary_of, is_deferred}
use Rattle.sctp_reset_requests.specs.Request.{PeerRequestView}
use Rattle.sctp_resets.specs.Channels.{Channels, channels, delivered, is_write_half_closed}
use Rattle.sctp_resets.specs.Draining.{Reading, ended, next_generation_read, passed_once, passed_times, passed_where}
use Rattle.sctp_resets.specs.Draining.{with_write_half}
use Rattle.sctp_resets.specs.Performing.{Performing, answered_in, named_in, performing, retired_each}
use Rattle.sctp_resets.specs.Resets.{ResetsView, all_released, own_answered, performed, performed_with}
use Rattle.sctp_resets.proofs.ListsOver.{all_filtered, all_inserted, of_chosen}
use Rattle.sctp_resets.proofs.StreamsBeside.{removed_apart}
use Rattle.sctp_reset_fit.proofs.Elsewhere.{passed_stays}
use Rattle.sctp_model.proofs.Lists.{all_weaker}
use Rattle.sctp_assoc.specs.Handshake.{sends_init}
use Rattle.sctp_assoc.specs.Shown.{Shown}
use Rattle.sctp_sides.specs.Repeats.{IsReadOfOld}
use Rattle.sctp_sides.proofs.DataKeptOut.{data_behind_is_for_later, other_data_is_read_now, retiring_data_is_for_later}
use Rattle.sctp_ended.specs.KeptApart.{CreatedSidesKeepNothingApart, JoinedSidesKeepNothingApart}
use Rattle.sctp_ended.specs.KeptApart.{KeepsOnlyLaterDataApart, OtherDataIsNeverKeptApart}
use Rattle.sctp_ended.proofs.Carried.{Anything, IsCarried, IsCarriedByStreams, ResettingIs, SideIs}
use Rattle.sctp_ended.proofs.CarriedInResets.{applied_of_carries}
use Rattle.sctp_ended.proofs.CarriedOverCalls.{list_carries}
use Rattle.sctp_ended.proofs.Through.{runs_through}

-- a piece is of a generation that is not read yet
abbrev IsHidden : GenerationsView → PeerView → ChunkPayloadData → Type 0
IsHidden g p d = is_hidden g d.stream_identifier d.tsn (boundary_of p d.stream_identifier) ≡ true

-- each piece that is kept apart is
abbrev OnlyHidden : GenerationsView → PeerView → StreamMap → Type 0
OnlyHidden g p m = AllByRecursion (IsHidden g p) g.deferred

by_streams : IsCarriedByStreams OnlyHidden
by_streams = record {
  changes = λ g p m change id mild h. h;
  reads = λ g p m id h. h;
  passes = λ g p m tsn h. h;
  makes = λ g p m id first kind none h. h;
  ends = λ g p m id h. h;
  skips = λ g p m left h. h;
}

-- what is so of those that are chosen
chosen_are : (P Q : ChunkPayloadData → Type 0) (choose : ChunkPayloadData → Bool)
    → ((d : ChunkPayloadData) → P d → choose d ≡ true → Q d) → (ds : List ChunkPayloadData) → AllByRecursion P ds
    → AllByRecursion Q (filter choose ds)
chosen_are P Q choose f [] each = tt
chosen_are P Q choose f (d ∷ ds) each = by (choose d) refl (chosen_are P Q choose f ds each.1)
  where
    by : (b : Bool) → choose d ≡ b → AllByRecursion Q (filter choose ds)
        → AllByRecursion Q (cond b (d ∷ filter choose ds) (filter choose ds))
    by true e rest = (f d each.0 e, rest)
    by false e rest = rest

not_true : (b : Bool) → not b ≡ true → b ≡ false
not_true true e = absurd (false≢true e)
not_true false e = refl

-- A request is taken up where none is in progress: what is kept apart is of streams that retire

later_still : (g : GenerationsView) (o : Option PeerRequestView) (q : PeerRequestView) (d : ChunkPayloadData) → o ≡ None
    → is_hidden g d.stream_identifier d.tsn (boundary_for o d.stream_identifier) ≡ true
    → is_hidden g d.stream_identifier d.tsn (boundary_for (Some q) d.stream_identifier) ≡ true
later_still g (Some r) q d none h = absurd (false≢true (ap is_some (sym none)))
later_still g None q d none h = by (retires g d.stream_identifier) h
  where
    by : (b : Bool) → (b || false) ≡ true
        → (b || is_above (boundary_for (Some q) d.stream_identifier) d.tsn) ≡ true
    by true e = refl
    by false e = absurd (false≢true e)

-- A request is performed: what is left is of streams that retire

waiting_are_hidden : (g : GenerationsView) (p : PeerView) (ds : List ChunkPayloadData)
    → AllByRecursion (IsHidden g p) (filter (λ d. not (not (is_retiring g.retiring d.stream_identifier))) ds)
waiting_are_hidden g p [] = tt
waiting_are_hidden g p (d ∷ ds) = by (is_retiring g.retiring d.stream_identifier) refl (waiting_are_hidden g p ds)
  where
    rest : List ChunkPayloadData
    rest = filter (λ d. not (not (is_retiring g.retiring d.stream_identifier))) ds

    by : (b : Bool) → is_retiring g.retiring d.stream_identifier ≡ b → AllByRecursion (IsHidden g p) rest
        → AllByRecursion (IsHidden g p) (cond (not (not b)) (d ∷ rest) rest)
    by true e others = (
      or_left (retires g d.stream_identifier) (is_above (boundary_of p d.stream_identifier) d.tsn) e,
      others,
    )
    by false e others = others

released_apart : (first limit : ℕ) (r : ResetsView) (c : Channels)
    → ResettingIs OnlyHidden (all_released first limit r c)
released_apart first limit r c = waiting_are_hidden r.generations r.peer r.generations.deferred

with_apart : (q : PeerRequestView) (first limit : ℕ) (r : ResetsView) (to_accept named : List ℕ)
    (p : Performing × List ℕ) → ResettingIs OnlyHidden (performed_with q first limit r to_accept named p).0
with_apart q first limit r to_accept named (p, ids) =
    released_apart first limit (record r {
      own = own_answered q named ids r.own;
      debts = p.debts;
      generations = without_newest_of p.generations q.ids;
    }) (channels p.streams p.events to_accept)

performed_apart : (q : PeerRequestView) (first limit : ℕ) (r : ResetsView) (c : Channels)
    → ResettingIs OnlyHidden (performed q first limit r c).0
unfolding performed
performed_apart q first limit r c =
    let named : List ℕ = named_in r.own c.streams q in
    with_apart q first limit r c.to_accept named
    (answered_in r.own named (retired_each q (performing r.generations r.debts c.streams c.events)))

-- A stream is read out: what is left of it is of a generation behind

behind_the_end : (o : Option (List ℕ)) (in_progress : Option ℕ) (tsn : ℕ)
    → not (is_up_to (first_boundary (first_of o) in_progress) tsn) ≡ true
    → (is_some o || is_above in_progress tsn) ≡ true
behind_the_end None in_progress tsn e = e
behind_the_end (Some boundaries) in_progress tsn e = refl

module _ (p : PeerView) (k first limit : ℕ) where
  -- what is kept of generations where the first one that ended is passed
  abbrev passed_of : GenerationsView → GenerationsView
  passed_of g = record g { retiring = passed g.retiring k }

  -- it is hidden, as one of a stream with these boundaries
  abbrev HiddenOn : ChunkPayloadData → ℕ → Option (List ℕ) → Type 0
  HiddenOn d j o = (is_some o || is_above (boundary_of p j) d.tsn) ≡ true

  -- a piece that is not given to the generation that is read now
  left_is_hidden : (g : GenerationsView) (m : StreamMap) (d : ChunkPayloadData) → IsHidden g p d
      → not (is_of k d && is_up_to (readable_end (passed_of g) k (boundary_of p k)) d.tsn) ≡ true
      → IsHidden (passed_of g) p d
  left_is_hidden g m d h e = by (eqb d.stream_identifier k) refl e
    where
      by : (b : Bool) → eqb d.stream_identifier k ≡ b
          → not (b && is_up_to (readable_end (passed_of g) k (boundary_of p k)) d.tsn) ≡ true
          → HiddenOn d d.stream_identifier (boundaries_at (passed_of g).retiring d.stream_identifier)
      by true same above =
          subst (λ (j : ℕ). HiddenOn d j (boundaries_at (passed_of g).retiring j))
          (sym (eqb-true d.stream_identifier k same))
          (behind_the_end (boundaries_at (passed_of g).retiring k) (boundary_of p k) d.tsn above)
      by false other above =
          subst (HiddenOn d d.stream_identifier)
          (sym (passed_stays d.stream_identifier k (IsHidden g p)
          (λ same. false≢true (sym other ∙ eq-eqb d.stream_identifier k (sym same))) g m).marks) h

  next_apart : (g : GenerationsView) (c : Channels) → OnlyHidden g p c.streams
      → OnlyHidden (next_generation_read first limit k (boundary_of p k) (passed_of g, c)).0 p
      (next_generation_read first limit k (boundary_of p k) (passed_of g, c)).1.streams
  unfolding next_generation_read
  next_apart g c h =
      applied_of_carries by_streams p (
        after_given_to (passed_of g) k (boundary_of p k),
        with_write_half (is_write_half_closed c.streams k) filled.streams k,
        filled.events,
      ) k
      (chosen_are (IsHidden g p) (IsHidden (passed_of g) p)
      (λ d. not (is_of k d && is_up_to (readable_end (passed_of g) k (boundary_of p k)) d.tsn))
      (left_is_hidden g c.streams) g.deferred h)
    where
      filled : Channels
      filled = fold (delivered first limit) (ended c k) (given_to (passed_of g) k (boundary_of p k))

  once_apart : (s : Reading) → OnlyHidden s.0 p s.1.streams
      → OnlyHidden (passed_once first limit k (boundary_of p k) s).0.0 p
      (passed_once first limit k (boundary_of p k) s).0.1.streams
  once_apart (g, c) h = by (retires g k && (waiting_of c.streams k == 0))
    where
      by : (b : Bool)
          → OnlyHidden
          (passed_where first limit k (boundary_of p k) c
          (cond {A = GenerationsView × Bool} b (passed_of g, true) (g, false))).0.0 p
          (passed_where first limit k (boundary_of p k) c
          (cond {A = GenerationsView × Bool} b (passed_of g, true) (g, false))).0.1.streams
      by true = next_apart g c h
      by false = h

  times_apart : (n : ℕ) (s : Reading) → OnlyHidden s.0 p s.1.streams
      → OnlyHidden (passed_times n first limit k (boundary_of p k) s).0 p
      (passed_times n first limit k (boundary_of p k) s).1.streams
  times_apart zero s h = h
  times_apart (suc n) s h =
      of_chosen (λ (x : Reading). OnlyHidden x.0 p x.1.streams) (passed_once first limit k (boundary_of p k) s).1
      (passed_times n first limit k (boundary_of p k) (passed_once first limit k (boundary_of p k) s).0)
      (passed_once first limit k (boundary_of p k) s).0
      (times_apart n (passed_once first limit k (boundary_of p k) s).0 (once_apart s h)) (once_apart s h)

-- It is stopped: what waits of it is dropped

stopped_is_hidden : (g : GenerationsView) (p : PeerView) (k : ℕ) (d : ChunkPayloadData) → IsHidden g p d
    → not (is_of k d) ≡ true
    → (is_some (boundaries_at (forgotten g.retiring k) d.stream_identifier)
    || is_above (boundary_of p d.stream_identifier) d.tsn)
    ≡ true
stopped_is_hidden g p k d h e =
    subst (λ (o : Option (List ℕ)). (is_some o || is_above (boundary_of p d.stream_identifier) d.tsn) ≡ true)
    (sym (removed_apart d.stream_identifier k
    (found_as d.stream_identifier k ∙ not_true (eqb d.stream_identifier k) e) g.retiring)) h

hidden_is_carried : IsCarried Anything OnlyHidden
hidden_is_carried = record {
  streams = by_streams;
  closes = λ g p m h. tt;
  drops = λ g p m test h. all_filtered (IsHidden g p) test g.deferred h;
  meets = λ g p m last h. h;
  defers = λ g p m d later h. all_inserted (IsHidden g p) g.deferred (place_of d.tsn g.deferred) d h later;
  pushes = λ g p m d limit now fits h. h;
  takes_up = λ g p m q none any h.
      all_weaker (IsHidden g p) (IsHidden g (record p { in_progress = Some q })) g.deferred
      (λ d. later_still g p.in_progress q d none) h;
  performs = λ q first limit r c waits h. performed_apart q first limit (record r { peer = peer.completed q }) c;
  reads_out = λ first limit k r c h.
      times_apart r.peer k first limit (count_at r.generations.retiring k) (r.generations, c) h;
  stops = λ g p m k h.
      chosen_are (IsHidden g p) (IsHidden (discarded g k) p) (λ d. not (is_of k d)) (stopped_is_hidden g p k) g.deferred
      h;
}

-- The law

to_hidden : (a : Shown) → KeepsOnlyLaterDataApart a → SideIs OnlyHidden a
to_hidden a h =
    all_weaker
    (λ (d : ChunkPayloadData).
    IsReadOfOld a d.stream_identifier ⊎ (is_deferred a.resets.peer d.stream_identifier d.tsn ≡ true))
    (IsHidden a.resets.generations a.resets.peer) a.resets.generations.deferred
    (λ d either. ⊎_elim (λ (old : IsReadOfOld a d.stream_identifier). retiring_data_is_for_later a d old)
    (λ (behind : is_deferred a.resets.peer d.stream_identifier d.tsn ≡ true). data_behind_is_for_later a d behind)
    either) h

pub other_data_is_never_kept_apart : OtherDataIsNeverKeptApart
other_data_is_never_kept_apart calls told a b h run works =
    all_weaker (IsHidden b.resets.generations b.resets.peer)
    (λ (d : ChunkPayloadData).
    IsReadOfOld b d.stream_identifier ⊎ (is_deferred b.resets.peer d.stream_identifier d.tsn ≡ true))
    b.resets.generations.deferred
    (λ d later. other_data_is_read_now b d later)
    (list_carries hidden_is_carried calls told a b tt
    (runs_through (λ x. Anything x.resets.generations x.resets.peer) (λ x. tt) calls told a b run)
    (λ on. to_hidden a h) works)

pub created_sides_keep_nothing_apart : CreatedSidesKeepNothingApart
unfolding sends_init
created_sides_keep_nothing_apart None config size tag initial_tsn cookie remote_addr local_ip now = refl
created_sides_keep_nothing_apart (Some of_server) config size tag initial_tsn cookie remote_addr local_ip now = refl

pub joined_sides_keep_nothing_apart : JoinedSidesKeepNothingApart
joined_sides_keep_nothing_apart config size remote_addr local_ip own peer = refl
