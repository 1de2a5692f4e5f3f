-- What a SACK that is taken leaves, and that it takes memory only where it tells of a stream.
use Rattle.std.proofs.Common.{◌≡◌, ap, subst, ⊎_elim, ◌⊎◌, ℕ, ◌<◌, ◌++◌, true, false, arith, List, [], ◌∷◌, length, map}
use Rattle.std.proofs.Common.{nat_lt}
use Rattle.std.proofs.lemmas.Bool.{cases_Bool}
use Rattle.std.proofs.lemmas.Bool.Decides.{nat_tests}
use Rattle.sctp_wire_types.specs.declared.chunk.GapAckBlock.{GapAckBlock}
use Rattle.sctp_parts.specs.Estimate.{Estimate}
use Rattle.sctp_parts.specs.Timers.{Timers}
use Rattle.sctp_streams.specs.declared.event.Event.{Event}
use Rattle.sctp_streams.specs.LowMarks.{FallenView, IsGathered, ascending, fallen, low_event}
use Rattle.sctp_streams.specs.Streams.{StreamMap}
use Rattle.sctp_inbound.specs.declared.receiver.AckTrigger.{AckTrigger}
use Rattle.sctp_outbound.specs.declared.sender.Sender.{Sender}
use Rattle.sctp_outbound.specs.declared.sender.SackOutcome.TheVariants as outcomes
use Rattle.sctp_outbound.specs.Forward.{forward_asked}
use Rattle.sctp_outbound.specs.Sacks.{progress_of, sack_taken}
use Rattle.sctp_outbound.specs.Sender.{sack_outcome, t3_after_sack}
use Rattle.sctp_assoc.specs.declared.inbound.Flow.TheVariants as flows
use Rattle.sctp_assoc.specs.Calls.{sends_data}
use Rattle.sctp_assoc.specs.Chunks.{after_sack, counted_sack, on_sack, with_acknowledged}
use Rattle.sctp_assoc.specs.Memory.{sack_takes_memory}
use Rattle.sctp_assoc.specs.Probes.{is_probing, probes_answered}
use Rattle.sctp_assoc.specs.Shown.{Shown, uses_forward_tsn}
use Rattle.sctp_assoc.specs.Shutdown.{shutdown_continued}

pub some_mapped : (ids : List ℕ) → 0 < length ids → 0 < length (map low_event ids)
some_mapped [] l = l
some_mapped (id ∷ ids) l = omega arith

pub positive : (n : ℕ) → 0 < n → nat_lt 0 n ≡ true
positive n l = grind (arith, nat_tests, l)

-- where telling lacks memory some stream fell to its low mark
pub some_fell : (m n : StreamMap) (f : FallenView) → IsGathered m n f
    → (f.refused ≡ true) ⊎ (0 < length (ascending f.ids)) → 0 < length (fallen m n)
some_fell m n f g lacks =
    ⊎_elim
    (λ (r : f.refused ≡ true). g.some r)
    (λ (r : f.refused ≡ false).
    ⊎_elim
    (λ (t : f.refused ≡ true). g.some t)
    (λ (l : 0 < length (ascending f.ids)). subst (λ z. 0 < length z) (g.whole r) l)
    lacks)
    (cases_Bool f.refused)

module _ (a : Shown) (cumulative_tsn_ack : ℕ) (blocks : List GapAckBlock) (window now : ℕ) (s : Sender) (e : Estimate)
    (m : StreamMap)
    (sends : sends_data a.state ≡ true)
    (taken : sack_outcome a.sender cumulative_tsn_ack blocks ≡ outcomes.Taken)
    (is : sack_taken cumulative_tsn_ack blocks window now a.sender a.estimate a.streams ≡ (s, e, m))
  where
    pub taken_leaves : (trigger : AckTrigger) (asked : Sender) (timers : Timers) (queued : List Event) (ids : List ℕ)
        → asked ≡ forward_asked (uses_forward_tsn a) s
        → timers ≡ t3_after_sack (progress_of a.sender cumulative_tsn_ack blocks)
        (length s.queue.in_flight) now e.rto a.timers
        → queued ≡ a.events ++ map low_event ids → ids ≡ fallen a.streams m
        → on_sack a cumulative_tsn_ack blocks window trigger now
        ≡ (
          probes_answered (is_probing a.profile a.sender) window
              (shutdown_continued (record (counted_sack a) {
                sender = asked;
                estimate = e;
                streams = m;
                events = queued;
                timers = timers;
              })),
          flows.Next trigger,
        )
    unfolding on_sack
    taken_leaves trigger asked timers queued ids due timed told those =
        rw (sends, taken, due, timed, told, those)
        (ap (λ x. (
          probes_answered (is_probing a.profile a.sender) window
              (shutdown_continued (with_acknowledged (counted_sack a)
              (progress_of a.sender cumulative_tsn_ack blocks) now x)),
          flows.Next trigger,
        ))
        is)

    pub taken_takes : 0 < length (fallen a.streams m) → sack_takes_memory a cumulative_tsn_ack blocks window now ≡ true
    taken_takes some =
        let there : (after_sack a cumulative_tsn_ack blocks window now).streams ≡ m =
        ap (λ x. (with_acknowledged a (progress_of a.sender cumulative_tsn_ack blocks) now x).streams) is in
        rw (sends, taken, there) (positive _ (some_mapped (fallen a.streams m) some))
