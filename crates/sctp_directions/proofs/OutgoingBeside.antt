-- What an association does for the direction that comes to it, and what an application sets on a stream, leaves how it
-- stands as the sender of its own.
use Rattle.std.proofs.Common.{◌≡◌, refl, sym, ap, ◌∙◌, subst, ℕ, ◌+◌, false, List, [], ◌∷◌, Option, Some, None, is_some}
use Rattle.std.specs.Option.{option_map}
use Rattle.std.proofs.lemmas.Bool.{false≢true}
use Rattle.sctp_wire_types.specs.declared.chunk.ChunkPayloadData.{ChunkPayloadData}
use Rattle.sctp_receive_queues.specs.Messages.{ReceivedMessage}
use Rattle.sctp_receive_queues.specs.Reassembly.{Reassembly, taken}
use Rattle.sctp_streams.specs.declared.setting.Setting.{Setting}
use Rattle.sctp_streams.specs.declared.setting.Setting.TheVariants as settings
use Rattle.sctp_streams.specs.Stream.{StreamView, read_with, stream_pushed, stream_read, stream_skipped, with_setting}
use Rattle.sctp_streams.specs.Streams.{StreamMap, change_at, pushed_at, read_at, stream_at, with_stream}
use Rattle.sctp_model.specs.Machine.{Direction}
use Rattle.sctp_fit.specs.Forwards.{numbers_told}
use Rattle.sctp_fit.specs.Outgoing.{FitsOutgoing, IsNumbered, IsOwnAt, Sending, numbers_after}
use Rattle.sctp_fit.proofs.StreamsChanged.{each_with}
use Rattle.sctp_directions.specs.Acts.{Act, passed_over, sending}
use Rattle.sctp_directions.specs.Laws.{SettingsAreNoEvents, WhatComesLeavesItsOwn}
use Rattle.sctp_directions.proofs.StreamsPassed.{at_passed, passed_by, skipped_by}

-- What a stream's sender sees stays

-- The stream u is t as far as its sender goes.
record IsSameSender (t u : StreamView) : Type 0 where
  pub generation : u.stats.generation ≡ t.stats.generation
  pub ssn : u.next_ssn ≡ t.next_ssn
  pub buffered : u.buffered ≡ t.buffered

-- a live stream became one that is the same to its sender
fits_beside : (a : Sending) (id : ℕ) (t u : StreamView) (w : Direction) → stream_at a.streams id ≡ Some t
    → IsSameSender t u → FitsOutgoing a w
    → FitsOutgoing (record a { streams = with_stream a.streams id u }) w
fits_beside a id t u w e s f = record {
  named = f.named;
  within = f.within;
  names = f.names;
  size = f.size;
  base = f.base;
  flight = f.flight;
  waiting = f.waiting;
  live =
      each_with a.streams id t u (λ n o. (v : StreamView) → w.over n ≡ false → o ≡ Some v → Numbered n v) e
      (λ n ne. f.live n)
      (λ v within i. let k = f.live id t within e in
      let same : u ≡ v = cc in
      subst (Numbered id) same (record { generation = s.generation ∙ k.generation; ssn = s.ssn ∙ k.ssn }));
  own_streams =
      each_with a.streams id t u
      (λ n o. w.over n ≡ false → IsOwnAt w.sender.plan (w.sender.released n) n o) e (λ n ne. f.own_streams n)
      (λ within. ap (λ z. z + w.sender.released id) s.buffered ∙ was within);
}
  where
    Numbered : ℕ → StreamView → Type 0
    Numbered n v = IsNumbered f.named (numbers_after w.sender.ssn a.queue.pending n) n v

    was : w.over id ≡ false → IsOwnAt w.sender.plan (w.sender.released id) id (Some t)
    was within = subst (IsOwnAt w.sender.plan (w.sender.released id) id) e (f.own_streams id within)

-- DATA was taken in on a stream
took_at : (o : Option StreamView) (a : Sending) (piece : ChunkPayloadData) (w : Direction)
    → stream_at a.streams piece.stream_identifier ≡ o → FitsOutgoing a w
    → FitsOutgoing (record a { streams = (pushed_at o a.streams piece.stream_identifier piece).0 }) w
took_at None a piece w e f = f
took_at (Some t) a piece w e f =
    fits_beside a piece.stream_identifier t (stream_pushed t piece).0 w e
    (record { generation = refl; ssn = refl; buffered = refl }) f

-- a read changes what was received alone
read_beside : (t : StreamView) (r : Reassembly × Option ReceivedMessage) → IsSameSender t (read_with t r).0
read_beside t (r, None) = record { generation = refl; ssn = refl; buffered = refl }
read_beside t (r, Some m) = record { generation = refl; ssn = refl; buffered = refl }

-- a stream was read
read_beside_at : (o : Option StreamView) (a : Sending) (id : ℕ) (w : Direction) → stream_at a.streams id ≡ o
    → FitsOutgoing a w
    → FitsOutgoing (record a { streams = (read_at o a.streams id).0 }) w
read_beside_at None a id w e f = f
read_beside_at (Some t) a id w e f = fits_beside a id t (stream_read t).0 w e (read_beside t (taken t.reassembly)) f

-- a FORWARD TSN changes what was received alone
same_sender : (t : StreamView) (r : Reassembly) → IsSameSender t (record t { reassembly = r })
same_sender t r = record { generation = refl; ssn = refl; buffered = refl }

skipped_beside : (ns : List ℕ) (t : StreamView) → IsSameSender t (skipped_by ns t)
skipped_beside [] t = same_sender t t.reassembly
skipped_beside (n ∷ ns) t =
    let rest = skipped_beside ns (stream_skipped n t) in
    record { generation = rest.generation; ssn = rest.ssn; buffered = rest.buffered }

passed_beside : (tsn : ℕ) (ns : List ℕ) (t : StreamView) → IsSameSender t (passed_by tsn ns t)
passed_beside tsn ns t =
    let skipped = skipped_beside ns t in
    record { generation = skipped.generation; ssn = skipped.ssn; buffered = skipped.buffered }

-- each live stream became one that is the same to its sender
fits_mapped : (a : Sending) (m : StreamMap) (w : Direction) (g : ℕ → StreamView → StreamView)
    → ((s : ℕ) (t : StreamView) → IsSameSender t (g s t))
    → ((s : ℕ) → stream_at m s ≡ option_map (g s) (stream_at a.streams s)) → FitsOutgoing a w
    → FitsOutgoing (record a { streams = m }) w
fits_mapped a m w g same at f = record {
  named = f.named;
  within = f.within;
  names = f.names;
  size = f.size;
  base = f.base;
  flight = f.flight;
  waiting = f.waiting;
  live = λ s v within e.
      numbered s (stream_at a.streams s) (λ t i. f.live s t within i) v (sym (at s) ∙ e);
  own_streams = λ s within.
      subst (IsOwnAt w.sender.plan (w.sender.released s) s) (sym (at s))
      (owned s (stream_at a.streams s) (f.own_streams s within));
}
  where
    Numbered : ℕ → StreamView → Type 0
    Numbered n v = IsNumbered f.named (numbers_after w.sender.ssn a.queue.pending n) n v

    numbered : (s : ℕ) (o : Option StreamView) → ((t : StreamView) → o ≡ Some t → Numbered s t) → (v : StreamView)
        → option_map (g s) o ≡ Some v → Numbered s v
    numbered s None h v e = absurd (false≢true (ap is_some e))
    numbered s (Some t) h v e =
        let is : g s t ≡ v = cc in
        let k = h t refl in
        let u = same s t in
        subst (Numbered s) is (record { generation = u.generation ∙ k.generation; ssn = u.ssn ∙ k.ssn })

    owned : (s : ℕ) (o : Option StreamView) → IsOwnAt w.sender.plan (w.sender.released s) s o
        → IsOwnAt w.sender.plan (w.sender.released s) s (option_map (g s) o)
    owned s None h = h
    owned s (Some t) h = ap (λ z. z + w.sender.released s) (same s t).buffered ∙ h

-- What is taken in, passed over, reported and read leaves the association as the sender of its own direction.
pub what_comes_leaves_its_own : WhatComesLeavesItsOwn
what_comes_leaves_its_own (Act.PeerKnown t) p w coming f = absurd coming
what_comes_leaves_its_own (Act.Opened id first kind) p w coming f = absurd coming
what_comes_leaves_its_own (Act.Wrote id named bytes) p w coming f = absurd coming
what_comes_leaves_its_own (Act.Adjusted id setting) p w coming f = absurd coming
what_comes_leaves_its_own (Act.Sent at_once now) p w coming f = absurd coming
what_comes_leaves_its_own (Act.SentAgain at_once by index) p w coming f = absurd coming
what_comes_leaves_its_own Act.Marked p w coming f = absurd coming
what_comes_leaves_its_own (Act.Acknowledged n blocks missing) p w coming f = absurd coming
what_comes_leaves_its_own (Act.Took piece) p w coming f =
    took_at (stream_at p.streams piece.stream_identifier) (sending p) piece w refl f
what_comes_leaves_its_own (Act.Deferred piece) p w coming f = f
what_comes_leaves_its_own (Act.SpansEnded ids m) p w coming f = absurd coming
what_comes_leaves_its_own (Act.Abandoned index) p w coming f = absurd coming
what_comes_leaves_its_own Act.TailAbandoned p w coming f = absurd coming
what_comes_leaves_its_own (Act.Dropped k) p w coming f = absurd coming
what_comes_leaves_its_own (Act.Started now) p w coming f = absurd coming
what_comes_leaves_its_own Act.Forwarded p w coming f = absurd coming
what_comes_leaves_its_own (Act.PassedOver tsn skipped) p w coming f =
    fits_mapped (sending p) (passed_over tsn skipped p.streams) w (λ s. passed_by tsn (numbers_told s skipped))
    (λ s t. passed_beside tsn (numbers_told s skipped) t) (at_passed tsn skipped p.streams) f
what_comes_leaves_its_own Act.Reported p w coming f = f
what_comes_leaves_its_own (Act.WasRead id) p w coming f =
    read_beside_at (stream_at p.streams id) (sending p) id w refl f
what_comes_leaves_its_own Act.Ended p w coming f = absurd coming

-- what is set on a stream is for later writes and for what is told to the application
set_beside : (t : StreamView) (setting : Setting) → IsSameSender t (with_setting t setting)
set_beside t (settings.DefaultPayloadType kind) = record { generation = refl; ssn = refl; buffered = refl }
set_beside t (settings.Reliability params) = record { generation = refl; ssn = refl; buffered = refl }
set_beside t (settings.LowMark bytes) = record { generation = refl; ssn = refl; buffered = refl }
set_beside t (settings.HighMark bytes) = record { generation = refl; ssn = refl; buffered = refl }
set_beside t settings.WriteHalfClosed = record { generation = refl; ssn = refl; buffered = refl }

-- something was set on a stream
set_beside_at : (o : Option StreamView) (a : Sending) (id : ℕ) (setting : Setting) (w : Direction)
    → stream_at a.streams id ≡ o → FitsOutgoing a w
    → FitsOutgoing (record a { streams = change_at (λ t. with_setting t setting) o a.streams id }) w
set_beside_at None a id setting w e f = f
set_beside_at (Some t) a id setting w e f =
    fits_beside a id t (with_setting t setting) w e (set_beside t setting) f

-- What an application sets on a stream leaves the association as the sender of its own direction.
pub settings_are_no_events : SettingsAreNoEvents
settings_are_no_events p id setting w f = set_beside_at (stream_at p.streams id) (sending p) id setting w refl f
