-- No act but `PeerKnown` changes the initial TSNs of an association's directions.
use Rattle.std.proofs.Common.{◌≡◌, refl, ◌∙◌, ℕ, List, [], ◌∷◌, Option, Some, None, slice_get}
use Rattle.sctp_outbound_queue.specs.declared.message.InFlight.{InFlight}
use Rattle.sctp_outbound_queue.specs.Waiting.{Waiting}
use Rattle.sctp_wire_types.specs.declared.ids.PayloadProtocolIdentifier.{PayloadProtocolIdentifier}
use Rattle.sctp_streams.specs.Stream.{StreamView}
use Rattle.sctp_streams.specs.Streams.{stream_at}
use Rattle.sctp_directions.specs.Acts.{Act, IsNotPeerKnown, Parts, done, with_abandoned, with_dropped}
use Rattle.sctp_directions.specs.Acts.{with_tail_abandoned, with_written}
use Rattle.sctp_directions.specs.Laws.{ActsKeepTheInitialTsns}

-- a write changes none of them
written_initials : (o : Option StreamView) (p : Parts) (id : ℕ) (named : Option PayloadProtocolIdentifier)
    (bytes : List ℕ)
    → ((with_written o p id named bytes).history.own ≡ p.history.own)
    × ((with_written o p id named bytes).history.peer ≡ p.history.peer)
written_initials None p id named bytes = (refl, refl)
written_initials (Some t) p id named bytes = (refl, refl)

-- nor does a message that is given up
abandoned_initials : (o : Option InFlight) (p : Parts)
    → ((with_abandoned o p).history.own ≡ p.history.own) × ((with_abandoned o p).history.peer ≡ p.history.peer)
abandoned_initials None p = (refl, refl)
abandoned_initials (Some x) p = (refl, refl)

tail_initials : (o : Option Waiting) (p : Parts)
    → ((with_tail_abandoned o p).history.own ≡ p.history.own)
    × ((with_tail_abandoned o p).history.peer ≡ p.history.peer)
tail_initials None p = (refl, refl)
tail_initials (Some x) p = (refl, refl)

dropped_initials : (k : ℕ) (o : Option Waiting) (p : Parts)
    → ((with_dropped k o p).history.own ≡ p.history.own) × ((with_dropped k o p).history.peer ≡ p.history.peer)
dropped_initials k None p = (refl, refl)
dropped_initials k (Some x) p = (refl, refl)

-- one act changes none of them
same_initials : (x : Act) (p : Parts) → IsNotPeerKnown x
    → ((done x p).history.own ≡ p.history.own) × ((done x p).history.peer ≡ p.history.peer)
same_initials (Act.PeerKnown t) p nobody = absurd nobody
same_initials (Act.Opened id first kind) p nobody = (refl, refl)
same_initials (Act.Wrote id named bytes) p nobody = written_initials (stream_at p.streams id) p id named bytes
same_initials (Act.Adjusted id setting) p nobody = (refl, refl)
same_initials (Act.Sent at_once now) p nobody = (refl, refl)
same_initials (Act.SentAgain at_once by index) p nobody = (refl, refl)
same_initials Act.Marked p nobody = (refl, refl)
same_initials (Act.Acknowledged n blocks missing) p nobody = (refl, refl)
same_initials (Act.Abandoned index) p nobody = abandoned_initials (slice_get p.queue.in_flight index) p
same_initials Act.TailAbandoned p nobody = tail_initials (slice_get p.queue.pending 0) p
same_initials (Act.Dropped k) p nobody = dropped_initials k (slice_get p.queue.pending k) p
same_initials (Act.Started now) p nobody = (refl, refl)
same_initials Act.Forwarded p nobody = (refl, refl)
same_initials (Act.Took piece) p nobody = (refl, refl)
same_initials (Act.Deferred piece) p nobody = (refl, refl)
same_initials (Act.SpansEnded ids m) p nobody = (refl, refl)
same_initials (Act.PassedOver tsn skipped) p nobody = (refl, refl)
same_initials Act.Reported p nobody = (refl, refl)
same_initials (Act.WasRead id) p nobody = (refl, refl)
same_initials Act.Ended p nobody = (refl, refl)

-- and so with acts one after another
pub acts_keep_the_initial_tsns : ActsKeepTheInitialTsns
acts_keep_the_initial_tsns [] p nobody = (refl, refl)
acts_keep_the_initial_tsns (x ∷ xs) p (nobody, others) =
    let rest = acts_keep_the_initial_tsns xs (done x p) others in
    let first = same_initials x p nobody in
    (rest.0 ∙ first.0, rest.1 ∙ first.1)
