-- A read passes a generation that ended once nothing of it waits, and what waited for the next one goes to that:
-- nothing is put into the generation that ended.
use Rattle.std.proofs.Common.{◌≡◌, refl, sym, ap, ◌∙◌, subst, ℕ, zero, suc, ◌==◌, ◌&&◌, arith, Bool, true, false}
use Rattle.std.proofs.Common.{cond, eqb, fold, Option, is_some}
use Rattle.std.proofs.lemmas.Bool.{eq-eqb, eqb-true, false≢true}
use Rattle.sctp_wire_types.specs.declared.chunk.ChunkPayloadData.{ChunkPayloadData}
use Rattle.sctp_streams.specs.declared.setting.Setting.TheVariants as settings
use Rattle.sctp_streams.specs.Stream.{with_setting}
use Rattle.sctp_streams.specs.Streams.{StreamMap, waiting_of}
use Rattle.sctp_streams.proofs.LowMarks.{found_as}
use Rattle.sctp_generations.specs.Generations.{GenerationsView, after_given_to, discarded, given_to, retires}
use Rattle.sctp_generations.specs.Retiring.{count_at, passed}
use Rattle.sctp_reset_requests.specs.Peer.{boundary_of}
use Rattle.sctp_resets.specs.Channels.{Channels, delivered, is_write_half_closed}
use Rattle.sctp_resets.specs.Draining.{Reading, ended, next_generation_read, passed_once, passed_times, passed_where}
use Rattle.sctp_resets.specs.Draining.{with_write_half}
use Rattle.sctp_resets.specs.Resets.{ResetsView, Resetting}
use Rattle.sctp_resets.specs.Resets.{read_out}
use Rattle.sctp_resets.proofs.ListsOver.{of_chosen}
use Rattle.sctp_resets.proofs.StreamsBeside.{removed_apart}
use Rattle.sctp_reset_fit.proofs.Elsewhere.{StaysOf, times_stay}
use Rattle.sctp_ended.proofs.ClosedStreams.{IsClosed, changed_closed, weaker_closed, without_closed}
use Rattle.sctp_ended.proofs.ClosedInResets.{IsClosedBeside, all_delivered_closed, apart_at_all}
use Rattle.sctp_reset_requests.specs.Peer.{PeerView, no_peer_request}
use Rattle.sctp_reset_fit.specs.Laws.{Passes}
use Rattle.sctp_ended.proofs.Carried.{IsCarriedByStreams}
use Rattle.sctp_ended.proofs.CarriedByCalls.{set_is_mild}
use Rattle.sctp_ended.proofs.CarriedInResets.{applied_of_carries}
use Rattle.sctp_ended.proofs.ClosedStreams.{made_closed, passed_in_closed, read_in_closed}

module _ (test : ChunkPayloadData → Bool) (id generation : ℕ) where
  abbrev pub SideIsClosed : GenerationsView → PeerView → StreamMap → Type 0
  SideIsClosed g p m = IsClosedBeside (Passes test) id generation g m

  pub closed_by_streams : IsCarriedByStreams SideIsClosed
  closed_by_streams = record {
    changes = λ g p m change k mild h.
        changed_closed (Passes test) id generation (retires g id ≡ true) change mild.number mild.opens
        (mild.holds test id) m k h;
    reads = λ g p m k h. read_in_closed (Passes test) id generation (retires g id ≡ true) m k h;
    passes = λ g p m tsn h. passed_in_closed (Passes test) id generation (retires g id ≡ true) m tsn h;
    makes = λ g p m k first kind none h.
        made_closed (Passes test) id generation (retires g id ≡ true) m k first kind none h;
    ends = λ g p m k h.
        without_closed (Passes test) id generation (retires g id ≡ true) (retires g id ≡ true) m k (λ other kept. kept)
        h;
    skips = λ g p m left h. h;
  }

  -- The application reads: the generation is passed, and its stream ends; what waited goes to a new one

  abbrev IsResettingClosed : Resetting → Type 0
  IsResettingClosed s = IsClosedBeside (Passes test) id generation s.0.generations s.1.streams

  abbrev IsReadingClosed : Reading → Type 0
  IsReadingClosed s = IsClosedBeside (Passes test) id generation s.0 s.1.streams

  write_half_closed : (M : Type 0) (closed : Bool) (m : StreamMap) (k : ℕ) → IsClosed (Passes test) id generation M m
      → IsClosed (Passes test) id generation M (with_write_half closed m k)
  write_half_closed M true m k h =
      (let mild = set_is_mild settings.WriteHalfClosed in
      changed_closed (Passes test) id generation M (λ s. with_setting s settings.WriteHalfClosed) mild.number mild.opens
      (mild.holds test id) m k h)
  write_half_closed M false m k h = h

  module _ (first limit : ℕ) (in_progress : Option ℕ) where
    next_closed : (M : Type 0) (g : GenerationsView) (c : Channels) → IsClosed (Passes test) id generation M c.streams
        → IsReadingClosed (next_generation_read first limit id in_progress (g, c))
    unfolding next_generation_read
    next_closed M g c h =
        applied_of_carries closed_by_streams no_peer_request (
          after_given_to g id in_progress,
          with_write_half (is_write_half_closed c.streams id) filled.streams id,
          filled.events,
        ) id
        (weaker_closed (Passes test) id generation ⊥ (retires g id ≡ true)
        (with_write_half (is_write_half_closed c.streams id) filled.streams id) (λ never. absurd never)
        (write_half_closed ⊥ (is_write_half_closed c.streams id) filled.streams id
        (all_delivered_closed (Passes test) id generation ⊥ first limit (given_to g id in_progress) (ended c id)
        (apart_at_all id (given_to g id in_progress)) gone)))
      where
        filled : Channels
        filled = fold (delivered first limit) (ended c id) (given_to g id in_progress)

        gone : IsClosed (Passes test) id generation ⊥ (ended c id).streams
        gone =
            without_closed (Passes test) id generation M ⊥ c.streams id
            (λ other kept. absurd (false≢true (sym other ∙ eq-eqb id id refl))) h

    passed_closed : (s : Reading) → IsReadingClosed s → IsReadingClosed (passed_once first limit id in_progress s).0
    passed_closed (g, c) h = by (retires g id && (waiting_of c.streams id == 0))
      where
        left : GenerationsView
        left = record g { retiring = passed g.retiring id }

        by : (b : Bool)
            → IsReadingClosed
            (passed_where first limit id in_progress c (cond {A = GenerationsView × Bool} b (left, true) (g, false))).0
        by true = next_closed (retires g id ≡ true) left c h
        by false = h

    all_passed_closed : (n : ℕ) (s : Reading) → IsReadingClosed s
        → IsReadingClosed (passed_times n first limit id in_progress s)
    all_passed_closed zero s h = h
    all_passed_closed (suc n) s h =
        of_chosen IsReadingClosed (passed_once first limit id in_progress s).1
        (passed_times n first limit id in_progress (passed_once first limit id in_progress s).0)
        (passed_once first limit id in_progress s).0
        (all_passed_closed n (passed_once first limit id in_progress s).0 (passed_closed s h)) (passed_closed s h)

  -- what happens to other streams leaves this one
  stays_closed : {g h : GenerationsView} {m n : StreamMap} → StaysOf id (Passes test) g m h n
      → IsClosedBeside (Passes test) id generation g m → IsClosedBeside (Passes test) id generation h n
  stays_closed s closed = record {
    given = (let below = closed.given in let next = s.next in omega arith);
    live = record {
      once = s.once_live closed.live.once;
      so = λ t e number is_open.
          (let old = closed.live.so t (sym s.live ∙ e) number is_open in (ap is_some s.marks ∙ old.0, old.1));
    };
  }

  pub read_out_closed : (first limit k : ℕ) (r : ResetsView) (c : Channels)
      → IsClosedBeside (Passes test) id generation r.generations c.streams
      → IsClosedBeside (Passes test) id generation (read_out first limit k r c).0.generations
      (read_out first limit k r c).1.streams
  read_out_closed first limit k r c h = by (eqb id k) refl
    where
      by : (b : Bool) → eqb id k ≡ b → IsResettingClosed (read_out first limit k r c)
      by true same =
          subst (λ (j : ℕ). IsResettingClosed (read_out first limit j r c)) (eqb-true id k same)
          (all_passed_closed first limit (boundary_of r.peer id) (count_at r.generations.retiring id)
          (r.generations, c) h)
      by false other =
          stays_closed
          (times_stay id k (Passes test) (λ same. false≢true (sym other ∙ eq-eqb id k (sym same))) first limit
          (boundary_of r.peer k)
          (count_at r.generations.retiring k) (r.generations, c)) h

  -- It stops reading

  -- boundaries that are kept of a stream are forgotten where another one is read no more
  pub still_kept : (g : GenerationsView) (k : ℕ) → eqb id k ≡ false → retires g id ≡ true
      → retires (discarded g k) id ≡ true
  still_kept g k other kept = ap is_some (removed_apart id k (found_as id k ∙ other) g.retiring) ∙ kept
