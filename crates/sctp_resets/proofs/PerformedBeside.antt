-- A performed request of the peer changes only the streams that it names, and those of which something was kept.
use Rattle.std.proofs.Common.{◌≡◌, refl, sym, ap, ◌∙◌, subst, ℕ, Bool, true, false, ◌||◌, not, cond}
use Rattle.std.proofs.Common.{List, [], ◌∷◌, ◌++◌, fold, map, filter, Option, Some, None, is_eq, nat_cmp}
use Rattle.std.proofs.lemmas.Bool.{or_parts}
use Rattle.sctp_wire_types.specs.declared.chunk.ChunkPayloadData.{ChunkPayloadData}
use Rattle.sctp_streams.specs.Streams.{stream_at}
use Rattle.sctp_generations.specs.declared.skips.KeptSkip.{KeptSkip}
use Rattle.sctp_generations.specs.declared.retirement.Retirement.{Retirement}
use Rattle.sctp_generations.specs.declared.retirement.Retirement.TheVariants as retirements
use Rattle.sctp_generations.specs.Generations.{given_to_all, retired_by, retirement_of, without_newest_of}
use Rattle.sctp_generations.specs.Skips.{is_newest_of, is_skip_of, with_boundary}
use Rattle.sctp_reset_requests.specs.Ids.{has_id}
use Rattle.sctp_reset_requests.specs.Peer as peer
use Rattle.sctp_reset_requests.specs.Peer.{advanced_with, is_one_due}
use Rattle.sctp_reset_requests.specs.Request.{PeerRequestView}
use Rattle.sctp_reset_requests.specs.Request as request
use Rattle.sctp_resets.specs.declared.performing.Settled.{Settled}
use Rattle.sctp_resets.specs.Channels.{Channels, channels, delivered}
use Rattle.sctp_resets.specs.Concerned.{StayBeside, deferred_ids, in_reset, named_in_progress, retiring_ids}
use Rattle.sctp_resets.specs.Concerned.{skipped_ids}
use Rattle.sctp_resets.specs.Performing.{Performing, ends_told, is_drained, named_in, named_live, performing}
use Rattle.sctp_resets.specs.Performing.{retired_as, retired_each, retired_next, retired_one, with_retired}
use Rattle.sctp_resets.specs.Resets.{ResetsView, Resetting, performed, settled, settled_where}
use Rattle.sctp_resets.proofs.SkipsBeside.{ids_of_skips}
use Rattle.sctp_resets.proofs.StreamsBeside.{all_delivered_apart, both_false, ended_apart, filtered_apart}
use Rattle.sctp_resets.proofs.StreamsBeside.{ids_of_data, named_by_neither}

-- nothing due is performed, and nothing is to be answered
pub nothing_settled : (cumulative_tsn first limit : ℕ) (r : ResetsView) (c : Channels)
    → is_one_due r.peer.in_progress cumulative_tsn ≡ false
    → settled cumulative_tsn first limit r c ≡ ((r, c), None)
nothing_settled cumulative_tsn first limit r c = by r.peer.in_progress
  where
    by : (o : Option PeerRequestView) → is_one_due o cumulative_tsn ≡ false
        → settled_where (advanced_with o r.peer cumulative_tsn) first limit r c ≡ ((r, c), None)
    by None e = refl
    by (Some q) e = rw e refl

pub settled_plainly : (cumulative_tsn first limit : ℕ) (r : ResetsView) (c : Channels)
    → is_one_due r.peer.in_progress cumulative_tsn ≡ false
    → (settled cumulative_tsn first limit r c).0 ≡ (r, c)
settled_plainly cumulative_tsn first limit r c none =
    ap (λ (x : Resetting × Option Settled). x.0) (nothing_settled cumulative_tsn first limit r c none)

-- What retirements leave beside the streams that they are of: a stream, the DATA that waits, and no skip of that
-- stream.
abbrev LeavesBeside : ℕ → Performing → Performing → Type 0
LeavesBeside t p n =
    (stream_at n.streams t ≡ stream_at p.streams t) × (n.generations.deferred ≡ p.generations.deferred)
    × (has_id t (skipped_ids n.generations) ≡ false)

module _ (t : ℕ) where
  -- the skips of a generation that ended are of the same streams
  ended_skips : (id boundary : ℕ) (ss : List KeptSkip) → has_id t (ids_of_skips ss) ≡ false
      → has_id t (ids_of_skips (map (with_boundary id boundary) ss)) ≡ false
  ended_skips id boundary [] e = refl
  ended_skips id boundary (s ∷ ss) e =
      let parts = or_parts (is_eq (nat_cmp t s.id)) (has_id t (ids_of_skips ss)) e in
      by (is_skip_of id None s) parts.0 (ended_skips id boundary ss parts.1)
    where
      by : (b : Bool) → is_eq (nat_cmp t s.id) ≡ false
          → has_id t (ids_of_skips (map (with_boundary id boundary) ss)) ≡ false
          → (is_eq (nat_cmp t (cond {A = KeptSkip} b (record s { boundary = Some boundary }) s).id)
          || has_id t (ids_of_skips (map (with_boundary id boundary) ss))) ≡ false
      by true first others =
          both_false (is_eq (nat_cmp t s.id)) (has_id t (ids_of_skips (map (with_boundary id boundary) ss)))
          first others
      by false first others =
          both_false (is_eq (nat_cmp t s.id)) (has_id t (ids_of_skips (map (with_boundary id boundary) ss)))
          first others

  -- another stream retires, or ends
  retired_beside : (boundary id : ℕ) (p : Performing) → is_eq (nat_cmp t id) ≡ false
      → has_id t (skipped_ids p.generations) ≡ false → LeavesBeside t p (retired_one boundary p id).0
  unfolding retired_one
  retired_beside boundary id p apart none = by (retirement_of p.generations id boundary (is_drained p.streams id))
    where
      others : has_id t (ids_of_skips (filter (λ s. not (is_skip_of id None s)) p.generations.skips)) ≡ false
      others = filtered_apart t (λ (s : KeptSkip). s.id) (λ s. not (is_skip_of id None s)) p.generations.skips none

      by : (w : Retirement)
          → LeavesBeside t p
          (retired_as w (record p { generations = retired_by w p.generations id boundary }) id).0
      by retirements.Ended = (ended_apart t id apart p.streams, refl, others)
      by retirements.Retires = (refl, refl, ended_skips id boundary p.generations.skips none)
      by retirements.Unchanged = (refl, refl, others)

  listed_first : (p : Performing) (made : Bool) (ids : List ℕ) (id : ℕ) → (with_retired (p, made) ids id).0 ≡ p
  listed_first p true ids id = refl
  listed_first p false ids id = refl

  all_retired_beside : (boundary : ℕ) (ids : List ℕ) (p : Performing × List ℕ) → has_id t ids ≡ false
      → has_id t (skipped_ids p.0.generations) ≡ false
      → LeavesBeside t p.0 (fold (retired_next boundary) p ids).0
  all_retired_beside boundary [] p e none = (refl, refl, none)
  all_retired_beside boundary (id ∷ ids) p e none =
      let parts = or_parts (is_eq (nat_cmp t id)) (has_id t ids) e in
      let one = retired_beside boundary id p.0 parts.0 none in
      let here : LeavesBeside t p.0 (retired_next boundary p id).0 =
      subst (LeavesBeside t p.0)
      (sym (listed_first (retired_one boundary p.0 id).0 (retired_one boundary p.0 id).1 p.1 id)) one in
      let more = all_retired_beside boundary ids (retired_next boundary p id) parts.1 here.2 in
      (more.0 ∙ here.0, more.1 ∙ here.1, more.2)

  -- what a performed request makes of what it retires
  abbrev retired_from : PeerRequestView → ResetsView → Channels → Performing
  retired_from q r c = (retired_each q (performing r.generations r.debts c.streams c.events)).0

  -- a performed request leaves the streams that it does not name and of which nothing is kept
  pub performed_beside : (q : PeerRequestView) (first limit : ℕ) (r : ResetsView) (c : Channels)
      → has_id t (named_live c.streams q) ≡ false → has_id t (deferred_ids r.generations) ≡ false
      → has_id t (skipped_ids r.generations) ≡ false
      → (stream_at (performed q first limit r c).0.1.streams t ≡ stream_at c.streams t)
      × (has_id t (skipped_ids (performed q first limit r c).0.0.generations) ≡ false)
  unfolding performed
  performed_beside q first limit r c named waits none =
      by (ends_told r.own (named_in r.own c.streams q) (retired_from q r c))
      (all_retired_beside q.last_tsn (named_live c.streams q) (performing r.generations r.debts c.streams c.events, [])
      named none)
    where
      by : (p : Performing) → LeavesBeside t (performing r.generations r.debts c.streams c.events) p
          → (stream_at
          (fold (delivered first limit) (channels p.streams p.events c.to_accept)
          (given_to_all (without_newest_of p.generations q.ids))).streams t ≡ stream_at c.streams t)
          × (has_id t (ids_of_skips (filter (λ s. not (is_newest_of q.ids s)) p.generations.skips)) ≡ false)
      by p left = (
        all_delivered_apart t first limit (given_to_all (without_newest_of p.generations q.ids))
            (channels p.streams p.events c.to_accept)
            (filtered_apart t (λ (d : ChunkPayloadData). d.stream_identifier) _
            p.generations.deferred
            (subst (λ (ds : List ChunkPayloadData). has_id t (ids_of_data ds) ≡ false) (sym left.1) waits)) ∙ left.0,
        filtered_apart t (λ (s : KeptSkip). s.id) (λ s. not (is_newest_of q.ids s)) p.generations.skips left.2,
      )

-- what is in no reset is not named by the request in progress, and nothing is kept of it
pub kept_parts : (r : ResetsView) (c : Channels) (t : ℕ) → has_id t (in_reset r c.streams) ≡ false
    → (has_id t (named_in_progress c.streams r.peer.in_progress) ≡ false)
    × (has_id t (deferred_ids r.generations) ≡ false) × (has_id t (skipped_ids r.generations) ≡ false)
kept_parts r c t beside =
    let a = named_by_neither t (named_in_progress c.streams r.peer.in_progress)
    (retiring_ids r.generations ++ (deferred_ids r.generations ++ skipped_ids r.generations)) beside in
    let b = named_by_neither t (retiring_ids r.generations)
    (deferred_ids r.generations ++ skipped_ids r.generations) a.1 in
    let d = named_by_neither t (deferred_ids r.generations) (skipped_ids r.generations) b.1 in
    (a.0, d.0, d.1)

module _ (cumulative_tsn first limit : ℕ) (r : ResetsView) (c : Channels) (t : ℕ)
    (named_before : has_id t (named_in_progress c.streams r.peer.in_progress) ≡ false)
    (waits : has_id t (deferred_ids r.generations) ≡ false) (none : has_id t (skipped_ids r.generations) ≡ false) where
  settled_beside : (stream_at (settled cumulative_tsn first limit r c).0.1.streams t ≡ stream_at c.streams t)
      × (has_id t (skipped_ids (settled cumulative_tsn first limit r c).0.0.generations) ≡ false)
  settled_beside = by r.peer.in_progress named_before
    where
      taken : (q : PeerRequestView) (b : Bool) → has_id t (named_live c.streams q) ≡ false
          → (stream_at
          (settled_where (cond b (peer.completed q, Some q) (r.peer, None)) first limit r c).0.1.streams t
          ≡ stream_at c.streams t)
          × (has_id t
          (skipped_ids
          (settled_where (cond b (peer.completed q, Some q) (r.peer, None)) first limit r c).0.0.generations) ≡ false)
      taken q true named =
          performed_beside t q first limit (record r { peer = peer.completed q }) c named waits none
      taken q false named = (refl, none)

      by : (o : Option PeerRequestView) → has_id t (named_in_progress c.streams o) ≡ false
          → (stream_at (settled_where (advanced_with o r.peer cumulative_tsn) first limit r c).0.1.streams t
          ≡ stream_at c.streams t)
          × (has_id t
          (skipped_ids (settled_where (advanced_with o r.peer cumulative_tsn) first limit r c).0.0.generations) ≡ false)
      by None named = (refl, none)
      by (Some q) named = taken q (request.is_due q cumulative_tsn) named

-- what is due changes only the streams that the peer resets
pub settled_stays : (cumulative_tsn first limit : ℕ) (r : ResetsView) (c : Channels)
    → StayBeside (in_reset r c.streams) c.streams (settled cumulative_tsn first limit r c).0.1.streams
settled_stays cumulative_tsn first limit r c t beside =
    let parts = kept_parts r c t beside in
    (settled_beside cumulative_tsn first limit r c t parts.0 parts.1 parts.2).0

-- the skips that are kept behind it are of those streams, too
pub settled_skips : (cumulative_tsn first limit : ℕ) (r : ResetsView) (c : Channels) (t : ℕ)
    → has_id t (in_reset r c.streams) ≡ false
    → has_id t (skipped_ids (settled cumulative_tsn first limit r c).0.0.generations) ≡ false
settled_skips cumulative_tsn first limit r c t beside =
    let parts = kept_parts r c t beside in
    (settled_beside cumulative_tsn first limit r c t parts.0 parts.1 parts.2).1
