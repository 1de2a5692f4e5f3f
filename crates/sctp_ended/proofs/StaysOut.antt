-- Over every list of calls, and whatever the peer sends, DATA above where the generation of its stream ends that is
-- read stays out of the stream.
use Rattle.std.proofs.Common.{◌≡◌, refl, sym, ap, subst, ℕ, Bool, true, false, List, Option, Some, None, is_some}
use Rattle.std.proofs.lemmas.Bool.{eq-eqb, false≢true, or_left}
use Rattle.sctp_wire_types.specs.declared.chunk.ChunkPayloadData.{ChunkPayloadData}
use Rattle.sctp_streams.specs.Streams.{StreamMap}
use Rattle.sctp_generations.specs.Generations.{GenerationsView}
use Rattle.sctp_reset_requests.specs.Peer as peer
use Rattle.sctp_reset_requests.specs.Peer.{PeerView, is_current}
use Rattle.sctp_reset_requests.specs.Request.{PeerRequestView}
use Rattle.sctp_resets.specs.Channels.{Channels}
use Rattle.sctp_resets.specs.Performing.{Performing, answered_in, named_in, performing, retired_each}
use Rattle.sctp_resets.specs.Resets.{ResetsView, performed, performed_with}
use Rattle.sctp_reset_fit.specs.Laws.{Passes}
use Rattle.sctp_reset_fit.proofs.Weaker.{stream_weaker}
use Rattle.sctp_assoc.specs.Shown.{Shown}
use Rattle.sctp_sides.specs.Ascending.{StreamsAscend}
use Rattle.sctp_sides.proofs.AscendingOverRuns.{runs_keep_streams_ascending}
use Rattle.sctp_ended.specs.Boundaries.{AllUpToTheEndPass, DataAboveTheEndStaysOut}
use Rattle.sctp_ended.specs.Boundaries.{DataAboveTheEndStaysOutOfReachedSides, DataBehindARequestStaysOut, IsInProgress}
use Rattle.sctp_ended.specs.Boundaries.{StreamPasses, end_of}
use Rattle.sctp_ended.proofs.Ascending.{no_streams_ascend, once_ascending}
use Rattle.sctp_ended.proofs.Carried.{IsCarried, SideIs}
use Rattle.sctp_ended.proofs.CarriedOverCalls.{list_carries}
use Rattle.sctp_ended.proofs.Through.{last_is_so}
use Rattle.sctp_ended.proofs.UpToTheEnd.{EndsSomewhere, StreamIsWithin, all_pass, ends_as_before, within}
use Rattle.sctp_ended.proofs.UpToTheEnd.{within_is_carried}

module _ (test : ChunkPayloadData → Bool) (id : ℕ) where
  -- what passes lies not above the end, or passes
  within_before : (a : Shown) → StreamsAscend a.streams → StreamPasses test id a → SideIs (StreamIsWithin test id) a
  within_before a ascend passes = record {
    once = once_ascending id a.streams ascend;
    so = λ s e.
        stream_weaker (Passes test) (Passes (within test (end_of a id))) (λ d pass. or_left (test d) _ pass) id
        s.reassembly (passes s e);
  }

  -- where all passes that lies not above the end, all passes
  passes_after : (b : Shown) → SideIs (StreamIsWithin test id) b → AllUpToTheEndPass test id b → StreamPasses test id b
  passes_after b h all s live =
      stream_weaker (Passes (within test (end_of b id))) (Passes test) (all_pass test id (end_of b id) all) id
      s.reassembly (h.so s live)

pub data_above_the_end_stays_out : DataAboveTheEndStaysOut
data_above_the_end_stays_out id test calls told a b ascend passes ends run works all =
    passes_after test id b
    (list_carries (within_is_carried test id (EndsSomewhere test id) (ends_as_before test id)) calls told a b ends run
    (λ on. within_before test id a ascend passes) works) all

pub data_above_the_end_stays_out_of_reached_sides : DataAboveTheEndStaysOutOfReachedSides
data_above_the_end_stays_out_of_reached_sides id test before calls first later start a b begins there worked passes ends
    run works all =
    data_above_the_end_stays_out id test calls later a b
    (runs_keep_streams_ascending before first start a (no_streams_ascend start.streams begins.0) there worked) passes
    ends run works all

-- As long as a request with one number is in progress, none is taken up, and it stays the same one.

abbrev HasNumber : ℕ → GenerationsView → PeerView → Type 0
HasNumber number g p = is_current p.in_progress number ≡ true

none_has : (number : ℕ) (o : Option PeerRequestView) → o ≡ None → is_current o number ≡ true → ⊥
none_has number None none e = false≢true e
none_has number (Some q) none e = false≢true (ap is_some (sym none))

module _ (q : PeerRequestView) where
  abbrev IsThisOne : GenerationsView → PeerView → StreamMap → Type 0
  IsThisOne g p m = is_current p.in_progress q.number ≡ true → p.in_progress ≡ Some q

  over_with : (r : PeerRequestView) (first limit : ℕ) (s : ResetsView) (to_accept named : List ℕ)
      (p : Performing × List ℕ) → s.peer.in_progress ≡ None
      → (performed_with r first limit s to_accept named p).0.0.peer.in_progress ≡ None
  over_with r first limit s to_accept named (p, ids) none = none

  over : (r : PeerRequestView) (first limit : ℕ) (s : ResetsView) (c : Channels) → s.peer.in_progress ≡ None
      → (performed r first limit s c).0.0.peer.in_progress ≡ None
  unfolding performed
  over r first limit s c none =
      let named : List ℕ = named_in s.own c.streams r in
      over_with r first limit s c.to_accept named
      (answered_in s.own named (retired_each r (performing s.generations s.debts c.streams c.events))) none

  this_one_is_carried : IsCarried (HasNumber q.number) IsThisOne
  this_one_is_carried = record {
    streams = record {
      changes = λ g p m change id mild h. h;
      reads = λ g p m id h. h;
      passes = λ g p m tsn h. h;
      makes = λ g p m id first kind none h. h;
      ends = λ g p m id h. h;
      skips = λ g p m left h. h;
    };
    closes = λ g p m h e. absurd (none_has q.number None refl e);
    drops = λ g p m choose h. h;
    meets = λ g p m last h. h;
    defers = λ g p m d later h. h;
    pushes = λ g p m d limit now fits h. h;
    takes_up = λ g p m r none has h. absurd (none_has q.number p.in_progress none has);
    performs = λ r first limit s c waits h e.
        absurd (none_has q.number _ (over r first limit (record s { peer = peer.completed r }) c refl) e);
    reads_out = λ first limit id r c h. h;
    stops = λ g p m id h. h;
  }

pub data_behind_a_request_stays_out : DataBehindARequestStaysOut
data_behind_a_request_stays_out q id test calls told a b ascend passes waits run works =
    let has : IsInProgress q.number a =
    subst (λ (o : Option PeerRequestView). is_current o q.number ≡ true) (sym waits) (eq-eqb q.number q.number refl) in
    record {
      same =
          list_carries (this_one_is_carried q) calls told a b has run (λ on e. waits) works
          (last_is_so (IsInProgress q.number) calls told a b has run);
      out =
          passes_after test id b
          (list_carries
          (within_is_carried test id (HasNumber q.number)
          (λ g p m r none number h. absurd (none_has q.number p.in_progress none number))) calls told a b has run
          (λ on. within_before test id a ascend passes) works);
    }
