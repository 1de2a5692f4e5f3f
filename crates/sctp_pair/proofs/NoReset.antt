-- What an association in which no reset of a stream is under way does plainly, and what leaves it so.
use Rattle.std.proofs.Common.{◌≡◌, refl, ◌∙◌, ap, subst, ℕ, Option, Some, None, is_some}
use Rattle.std.proofs.lemmas.Bool.{true≢false}
use Rattle.sctp_receive_queues.specs.Messages.{ReceivedMessage}
use Rattle.sctp_streams.specs.Streams.{StreamMap, read_in}
use Rattle.sctp_assoc.specs.Calls.{after_read, drained_behind, read_from_stream}
use Rattle.sctp_assoc.specs.Gather.{without_control}
use Rattle.sctp_assoc.specs.Shown.{Shown}
use Rattle.sctp_sides.specs.NoReset.{HasNoReset}
use Rattle.sctp_sides.specs.SideLaws.{IsSameStatus}
use Rattle.sctp_sides.proofs.Proved.{reads_change_streams_alone, reads_keep_the_status}

-- the association as a read leaves it that ends no generation of a stream, before it is seen whether the receive buffer
-- is exhausted, and whether the window opened
abbrev pub read_plainly : Shown → ℕ → Shown
read_plainly a id = record a { streams = (read_in a.streams id).0 }

-- neither is seen to where the read gives nothing
given_nothing : (x : StreamMap × Option ReceivedMessage) (a : Shown) (id : ℕ) → x.1 ≡ None
    → (after_read a id x).0 ≡ drained_behind a id x.0
given_nothing (streams, None) a id none = refl
given_nothing (streams, Some message) a id none = absurd (true≢false (ap is_some none))

-- A read that gives nothing leaves whatever else but streams.
pub record ReadsPlainly (a : Shown) (id : ℕ) : Type 0 where
  pub same : IsSameStatus a (read_plainly a id)
  pub plainly : (read_in a.streams id).1 ≡ None → (read_from_stream a id).0 ≡ read_plainly a id
  pub given : (read_from_stream a id).1 ≡ (read_in a.streams id).1
  pub no_reset : HasNoReset (read_plainly a id)

pub reads_plainly : (a : Shown) (id : ℕ) → HasNoReset a → ReadsPlainly a id
reads_plainly a id n =
    let e = reads_change_streams_alone a id n in
    let reads = reads_keep_the_status a id in
    record {
      same = subst (IsSameStatus a) e reads.same;
      plainly = λ none. given_nothing (read_in a.streams id) a id none ∙ e;
      given = reads.given;
      no_reset = record {
        waiting = n.waiting;
        queued = n.queued;
        active = n.active;
        ahead = n.ahead;
        in_progress = n.in_progress;
        owed = n.owed;
        kept = n.kept;
        control = n.control;
      };
    }

-- none is under way once what waited went out
pub without_control_none_begins : (a : Shown) → HasNoReset a → HasNoReset (without_control a)
without_control_none_begins a n = record {
  waiting = n.waiting;
  queued = n.queued;
  active = n.active;
  ahead = n.ahead;
  in_progress = n.in_progress;
  owed = n.owed;
  kept = n.kept;
  control = tt;
}
