-- The request of the peer that waits is performed once all that was sent before it came: then resets and streams stand
-- beside the course that goes on so.
use Rattle.std.proofs.Common.{◌≡◌, refl, sym, ap, ◌∙◌, subst, ℕ, suc, ◌<◌, ◌^◌, ◌&&◌, Bool, true, false, cond}
use Rattle.std.proofs.Common.{List, Option, Some, None, nat_le, arith}
use Rattle.sctp_serial.specs.Serial.{tsn, tsn_lte}
use Rattle.sctp_wire_types.specs.declared.chunk.ChunkPayloadData.{ChunkPayloadData}
use Rattle.sctp_streams.specs.declared.event.Event.{Event as Told}
use Rattle.sctp_streams.specs.Streams.{StreamMap}
use Rattle.sctp_generations.specs.Generations.{GenerationsView}
use Rattle.sctp_reset_requests.specs.Laws.{HasNumber, IsCompletedUpTo}
use Rattle.sctp_reset_requests.specs.Peer.{PeerView, advanced_with, completed, number_before}
use Rattle.sctp_reset_requests.specs.Request.{PeerRequestView, is_due}
use Rattle.sctp_resets.specs.Channels.{Channels}
use Rattle.sctp_resets.specs.Performing.{Performing, answered_in, named_in, performing, retired_each}
use Rattle.sctp_resets.specs.Resets.{ResetsView, Resetting, performed, performed_with, settled, settled_where}
use Rattle.sctp_resets.specs.Resets.{skips_done}
use Rattle.sctp_courses.specs.Course.{Course, boundary_at}
use Rattle.sctp_courses.specs.Events as events
use Rattle.sctp_courses.specs.Events.{Event, happens, is_idle, performed_next}
use Rattle.sctp_courses.specs.Invariants.{Invariant}
use Rattle.sctp_reset_fit.specs.Keeping.{GoesOn, GoesOnBeside, IsAsFar, StandsBeside}
use Rattle.sctp_reset_fit.specs.Laws.{Stands}
use Rattle.sctp_reset_fit.specs.Stands.{IsReadOn, last_below}
use Rattle.sctp_reset_fit.proofs.Keeping.{beside_keeps, far_of, goes_by, goes_kept, goes_nowhere, goes_of, goes_on}
use Rattle.sctp_reset_fit.proofs.Numbers.{lte_both}
use Rattle.sctp_reset_fit.proofs.Proved.{requests_are_performed}
use Rattle.sctp_reset_fit.proofs.Skipping.{skips_done_keeps, skips_done_peer}

-- One thing behind another

-- where nothing happens
pub beside_still : (P : ChunkPayloadData → Type 0) (initial id : ℕ) (r : ResetsView) (m : StreamMap) (c : Course)
    → StandsBeside P initial id r m c
    → GoesOnBeside P initial id r m c
beside_still P initial id r m c h = record {
  after = c;
  goes = goes_nowhere c;
  stands = h;
  told = refl;
  point = refl;
  taken = refl;
}

-- where the course went on before
pub beside_on : (P : ChunkPayloadData → Type 0) (initial id : ℕ) (r : ResetsView) (m : StreamMap) (b c : Course)
    → GoesOn b c → c.told ≡ b.told
    → c.point ≡ b.point → c.taken ≡ b.taken → GoesOnBeside P initial id r m c → GoesOnBeside P initial id r m b
beside_on P initial id r m b c goes told point taken g = record {
  after = g.after;
  goes = goes_on b c g.after goes g.goes;
  stands = g.stands;
  told = g.told ∙ told;
  point = g.point ∙ point;
  taken = g.taken ∙ taken;
}

-- where skips that were kept are applied
pub skips_behind : (P : ChunkPayloadData → Type 0) (initial id : ℕ) (r : ResetsView) (m : StreamMap) (told : List Told)
    (c : Course)
    → GoesOnBeside P initial id r m c
    → GoesOnBeside P initial id (skips_done r m told).0 (skips_done r m told).1 c
skips_behind P initial id r m told c g =
    let k =
    beside_keeps P initial id r (skips_done r m told).0 m (skips_done r m told).1 g.after
    (skips_done_keeps P initial id r m told) (skips_done_peer r m told) g.stands in
    beside_on P initial id (skips_done r m told).0 (skips_done r m told).1 c g.after g.goes g.told g.point g.taken k.0

-- The request that waits is performed

-- what is known of the peer's requests is not touched
released_peer : (q : PeerRequestView) (first limit : ℕ) (r : ResetsView) (to_accept named : List ℕ)
    (x : Performing × List ℕ) → (performed_with q first limit r to_accept named x).0.0.peer ≡ r.peer
released_peer q first limit r to_accept named (p, ids) = refl

pub performed_peer : (q : PeerRequestView) (first limit : ℕ) (r : ResetsView) (x : Channels)
    → (performed q first limit r x).0.0.peer ≡ r.peer
unfolding performed
performed_peer q first limit r x =
    released_peer q first limit r x.to_accept (named_in r.own x.streams q)
    (answered_in r.own (named_in r.own x.streams q)
    (retired_each q (performing r.generations r.debts x.streams x.events)))

-- the number of a completed request is the one before the next
last_then : (initial n : ℕ) → tsn initial n ≡ number_before (tsn initial (suc n))
last_then initial n = omega arith

-- one that is due is performed in the course
performs_is : (P : ChunkPayloadData → Type 0) (initial id : ℕ) (q : PeerRequestView) (g : GenerationsView)
    (m : StreamMap) (c : Course) → Invariant c
    → Stands P initial id g m (Some q) c → c.point < 2 ^ 31 → is_due q (last_below initial c.point) ≡ true
    → happens c Event.Performs ≡ performed_next c
performs_is P initial id q g m c inv h small due =
    let known = inv.asks.below c.performed h.waits.3 in
    let near = h.near in
    let compared : tsn_lte q.last_tsn (last_below initial c.point) ≡ nat_le (boundary_at c.asked c.performed) c.point =
    ap (λ z. tsn_lte z (last_below initial c.point)) h.waits.1
    ∙ lte_both initial (boundary_at c.asked c.performed) c.point (omega arith) small in
    let reached : nat_le (boundary_at c.asked c.performed) c.point ≡ true = sym compared ∙ due in
    let allowed : (is_idle c && events.is_due c) ≡ true = rw (h.still.1, h.still.2, h.waits.0, reached) refl in
    ap (λ z. cond z (performed_next c) c) allowed

-- The course goes on: the request is its next one.
pub performs_beside : (P : ChunkPayloadData → Type 0) (initial id first limit : ℕ) (q : PeerRequestView)
    (r : ResetsView) (x : Channels) (c : Course)
    → Invariant c → Stands P initial id r.generations x.streams (Some q) c → IsReadOn c
    → q.number ≡ tsn initial c.performed → c.point < 2 ^ 31 → is_due q (last_below initial c.point) ≡ true
    → GoesOnBeside P initial id (performed q first limit (record r { peer = completed q }) x).0.0
    (performed q first limit (record r { peer = completed q }) x).0.1.streams c
performs_beside P initial id first limit q r x c inv h read number small due =
    let s : ResetsView = record r { peer = completed q } in
    let y : Resetting = (performed q first limit s x).0 in
    let c1 : Course = happens c Event.Performs in
    let is : c1 ≡ performed_next c = performs_is P initial id q r.generations x.streams c inv h small due in
    let l = requests_are_performed P initial id first limit q s x c inv h read small due in
    let d : Course = l.0.after in
    let far : IsAsFar c1 d = far_of c1 d l.0.leads in
    let goes : GoesOn c d = goes_on c c1 d (goes_by c Event.Performs refl) (goes_of c1 d l.0.leads) in
    let same : y.0.peer ≡ completed q = performed_peer q first limit s x in
    let count : d.performed ≡ suc c.performed = far.performed ∙ ap (λ (e : Course). e.performed) is in
    let numbered : IsCompletedUpTo initial d.performed (completed q) = record {
      last = ap Some (number ∙ last_then initial c.performed ∙ ap (λ n. number_before (tsn initial n)) (sym count));
      current = tt;
    } in
    record {
      after = d;
      goes = goes;
      stands = record {
        kept = goes_kept c d goes inv;
        stands = subst (λ (p : PeerView). Stands P initial id y.0.generations y.1.streams p.in_progress d) (sym same)
            l.0.stands;
        read_on = l.1;
        numbered = subst (λ (p : PeerView). IsCompletedUpTo initial d.performed p) (sym same) numbered;
      };
      told = l.0.told ∙ ap (λ (e : Course). e.told) is;
      point = far.point ∙ ap (λ (e : Course). e.point) is;
      taken = far.taken ∙ ap (λ (e : Course). e.taken) is;
    }

-- Where the last TSN in order is that below the course's cumulative reach, a request in progress that is due is
-- performed as the next one of the course.
pub settles : (P : ChunkPayloadData → Type 0) (initial id cumulative first limit : ℕ) (r : ResetsView) (x : Channels)
    (c : Course)
    → StandsBeside P initial id r x.streams c → c.point < 2 ^ 31 → cumulative ≡ last_below initial c.point
    → GoesOnBeside P initial id (settled cumulative first limit r x).0.0
    (settled cumulative first limit r x).0.1.streams c
settles P initial id cumulative first limit r x c h small here = by r.peer.in_progress refl
  where
    still : GoesOnBeside P initial id r x.streams c
    still = beside_still P initial id r x.streams c h

    by : (o : Option PeerRequestView) → r.peer.in_progress ≡ o
        → GoesOnBeside P initial id (settled_where (advanced_with o r.peer cumulative) first limit r x).0.0
        (settled_where (advanced_with o r.peer cumulative) first limit r x).0.1.streams c
    by None e = still
    by (Some q) e = on (is_due q cumulative) refl
      where
        on : (due : Bool) → is_due q cumulative ≡ due
            → GoesOnBeside P initial id
            (settled_where
            (cond {A = PeerView × Option PeerRequestView} due (completed q, Some q) (r.peer, None)) first limit r x).0.0
            (settled_where
            (cond {A = PeerView × Option PeerRequestView} due (completed q, Some q) (r.peer, None)) first limit r
            x).0.1.streams c
        on false d = still
        on true d =
            performs_beside P initial id first limit q r x c h.kept
            (subst (λ (o : Option PeerRequestView). Stands P initial id r.generations x.streams o c) e h.stands)
            h.read_on
            (subst (λ (o : Option PeerRequestView). HasNumber o (tsn initial c.performed)) e h.numbered.current) small
            (subst (λ t. is_due q t ≡ true) here d)

-- And then the skips that were kept are applied.
pub settles_and_skips : (P : ChunkPayloadData → Type 0) (initial id cumulative first limit : ℕ) (r : ResetsView)
    (x : Channels) (c : Course)
    → StandsBeside P initial id r x.streams c → c.point < 2 ^ 31 → cumulative ≡ last_below initial c.point
    → GoesOnBeside P initial id
    (skips_done (settled cumulative first limit r x).0.0 (settled cumulative first limit r x).0.1.streams
    (settled cumulative first limit r x).0.1.events).0
    (skips_done (settled cumulative first limit r x).0.0 (settled cumulative first limit r x).0.1.streams
    (settled cumulative first limit r x).0.1.events).1 c
settles_and_skips P initial id cumulative first limit r x c h small here =
    let y : Resetting = (settled cumulative first limit r x).0 in
    skips_behind P initial id y.0 y.1.streams y.1.events c
    (settles P initial id cumulative first limit r x c h small here)
