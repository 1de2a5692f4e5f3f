-- A stream that can be read can be read until its span ends.
use Rattle.std.proofs.Common.{◌≡◌, refl, sym, ap, ◌∙◌, subst, ℕ, suc, Bool, true, false, cond, List, [], ◌∷◌, length}
use Rattle.std.proofs.Common.{Option, Some, None, is_some}
use Rattle.std.specs.Prelude.{slice_get}
use Rattle.std.specs.List.{AllByRecursion}
use Rattle.std.specs.Option.{option_map}
use Rattle.std.proofs.lemmas.Bool.{cond_both, false_from_ne_true, false≢true}
use Rattle.sctp_wire_types.specs.declared.ids.PayloadProtocolIdentifier.{PayloadProtocolIdentifier}
use Rattle.sctp_wire_types.specs.declared.chunk.ChunkPayloadData.{ChunkPayloadData}
use Rattle.sctp_outbound_queue.specs.declared.message.InFlight.{InFlight}
use Rattle.sctp_outbound_queue.specs.Message.{message_bytes, outstanding_bytes}
use Rattle.sctp_outbound_queue.specs.Waiting.{Waiting}
use Rattle.sctp_outbound.specs.GapAcks.{released_among}
use Rattle.sctp_outbound.specs.Sender.{streams_after}
use Rattle.sctp_receive_queues.specs.Messages.{ReceivedMessage}
use Rattle.sctp_receive_queues.specs.Reassembly.{Reassembly, taken}
use Rattle.sctp_streams.specs.declared.halves.RecvSendState.{RecvSendState}
use Rattle.sctp_streams.specs.declared.halves.RecvSendState.TheVariants as open_halves
use Rattle.sctp_streams.specs.declared.setting.Setting.{Setting}
use Rattle.sctp_streams.specs.declared.setting.Setting.TheVariants as settings
use Rattle.sctp_streams.specs.Stream.{StreamView, accepted_by, fresh_stream, is_read_half_open, read_with}
use Rattle.sctp_streams.specs.Stream.{released_from, stream_pushed, stream_read, stream_skipped, with_setting}
use Rattle.sctp_streams.specs.Stream.{with_ssn_given_back, without_write_half}
use Rattle.sctp_streams.specs.Streams.{StreamMap, change_at, is_generation, made, pushed_at, read_at, released_in}
use Rattle.sctp_streams.specs.Streams.{stream_at, with_stream}
use Rattle.sctp_model.specs.Packets.{mem}
use Rattle.sctp_fit.specs.Forwards.{numbers_told}
use Rattle.sctp_fit.proofs.StreamsChanged.{each_with}
use Rattle.sctp_directions.specs.Acts.{Act, CanAll, EndsSpanOf, HasReadOpen, IsOfItsOwn, IsOfWhatComes, Parts, done}
use Rattle.sctp_directions.specs.Acts.{done_all, is_acknowledged_by, passed_over, type_on, with_abandoned, with_dropped}
use Rattle.sctp_directions.specs.Acts.{with_tail_abandoned, with_written}
use Rattle.sctp_directions.specs.Laws.{OnlyEndsCloseReads}
use Rattle.sctp_directions.proofs.OrderKept.{insert_found}
use Rattle.sctp_directions.proofs.StreamsPassed.{at_passed, passed_by, skipped_by}

-- One stream changes

-- a live stream became another, whose read half is open where its was
kept_with : (m : StreamMap) (id s : ℕ) (t u : StreamView) → stream_at m id ≡ Some t
    → is_read_half_open u.halves ≡ is_read_half_open t.halves → HasReadOpen m s
    → HasReadOpen (with_stream m id u) s
kept_with m id s t u e same kept =
    each_with m id t u (λ n o. n ≡ s → (v : StreamView) → o ≡ Some v → is_read_half_open v.halves ≡ true) e
    (λ n ne is. subst (HasReadOpen m) (sym is) kept)
    (λ is v i. let one : u ≡ v = cc in
    ap (λ (z : StreamView). is_read_half_open z.halves) (sym one) ∙ same
    ∙ kept t (subst (λ z. stream_at m z ≡ Some t) is e))
    s refl

-- so it is with any change
kept_changed : (f : StreamView → StreamView) (o : Option StreamView) (m : StreamMap) (id s : ℕ) → stream_at m id ≡ o
    → ((t : StreamView) → is_read_half_open (f t).halves ≡ is_read_half_open t.halves) → HasReadOpen m s
    → HasReadOpen (change_at f o m id) s
kept_changed f None m id s e same kept = kept
kept_changed f (Some t) m id s e same kept = kept_with m id s t (f t) e (same t) kept

-- DATA that was taken in changes what waits alone
kept_pushed : (o : Option StreamView) (m : StreamMap) (id s : ℕ) (piece : ChunkPayloadData) → stream_at m id ≡ o
    → HasReadOpen m s → HasReadOpen (pushed_at o m id piece).0 s
kept_pushed None m id s piece e kept = kept
kept_pushed (Some t) m id s piece e kept = kept_with m id s t (stream_pushed t piece).0 e refl kept

-- so does a read
read_halves : (t : StreamView) (r : Reassembly × Option ReceivedMessage)
    → is_read_half_open (read_with t r).0.halves ≡ is_read_half_open t.halves
read_halves t (r, None) = refl
read_halves t (r, Some m) = refl

kept_read : (o : Option StreamView) (m : StreamMap) (id s : ℕ) → stream_at m id ≡ o → HasReadOpen m s
    → HasReadOpen (read_at o m id).0 s
kept_read None m id s e kept = kept
kept_read (Some t) m id s e kept = kept_with m id s t (stream_read t).0 e (read_halves t (taken t.reassembly)) kept

-- bytes were released
kept_less : (m : StreamMap) (id generation bytes s : ℕ) → HasReadOpen m s
    → HasReadOpen (released_in m id generation bytes) s
kept_less m id generation bytes s kept =
    cond_both (is_generation (stream_at m id) generation) _ m (λ z. HasReadOpen z s)
    (λ b. kept_changed (λ t. released_from t bytes) (stream_at m id) m id s refl (λ t. refl) kept)
    (λ b. kept)

-- what a piece had outstanding was released, if there is one
kept_released : (o : Option InFlight) (m : StreamMap) (s : ℕ) → HasReadOpen m s → HasReadOpen (streams_after o m) s
kept_released None m s kept = kept
kept_released (Some x) m s kept =
    kept_less m x.message.stream_identifier x.message.generation (outstanding_bytes x) s kept

-- a message was given up
kept_abandoned : (o : Option InFlight) (p : Parts) (s : ℕ) → HasReadOpen p.streams s
    → HasReadOpen (with_abandoned o p).streams s
kept_abandoned None p s kept = kept
kept_abandoned (Some x) p s kept =
    kept_less p.streams x.message.stream_identifier x.message.generation _ s kept

kept_tail_abandoned : (o : Option Waiting) (p : Parts) (s : ℕ) → HasReadOpen p.streams s
    → HasReadOpen (with_tail_abandoned o p).streams s
kept_tail_abandoned None p s kept = kept
kept_tail_abandoned (Some x) p s kept =
    kept_less p.streams x.message.stream_identifier x.message.generation _ s kept

returned_halves : (unordered : Bool) (bytes : ℕ) (t : StreamView)
    → is_read_half_open (released_from (cond unordered t (with_ssn_given_back t)) bytes).halves
    ≡ is_read_half_open t.halves
returned_halves true bytes t = refl
returned_halves false bytes t = refl

kept_dropped : (k : ℕ) (o : Option Waiting) (p : Parts) (s : ℕ) → HasReadOpen p.streams s
    → HasReadOpen (with_dropped k o p).streams s
kept_dropped k None p s kept = kept
kept_dropped k (Some x) p s kept =
    cond_both (is_generation (stream_at p.streams x.message.stream_identifier) x.message.generation) _ p.streams
    (λ z. HasReadOpen z s)
    (λ b. kept_changed (λ t. released_from (cond x.message.unordered t (with_ssn_given_back t)) (message_bytes x))
    (stream_at p.streams x.message.stream_identifier) p.streams x.message.stream_identifier s refl
    (λ t. returned_halves x.message.unordered (message_bytes x) t) kept)
    (λ b. kept)

-- a FORWARD TSN passed over what was received
skipped_halves : (ns : List ℕ) (t : StreamView)
    → is_read_half_open (skipped_by ns t).halves ≡ is_read_half_open t.halves
skipped_halves [] t = refl
skipped_halves (n ∷ ns) t = skipped_halves ns (stream_skipped n t)

module _ (tsn : ℕ) (ns : List ℕ) (m : StreamMap) (s : ℕ) where
  kept_passed : (o : Option StreamView) → stream_at m s ≡ option_map (passed_by tsn ns) o
      → ((t : StreamView) → o ≡ Some t → is_read_half_open t.halves ≡ true)
      → HasReadOpen m s
  kept_passed None at kept u e = absurd (false≢true (ap is_some (sym at ∙ e)))
  kept_passed (Some t) at kept u e =
      let is : Some (passed_by tsn ns t) ≡ Some u = sym at ∙ e in
      let same : passed_by tsn ns t ≡ u = cc in
      ap (λ (z : StreamView). is_read_half_open z.halves) (sym same) ∙ skipped_halves ns t ∙ kept t refl

-- what the named pieces had outstanding was released
kept_acknowledged : (named : ℕ → Bool) (j : ℕ) (xs : List InFlight) (m : StreamMap) (s : ℕ) → HasReadOpen m s
    → HasReadOpen (released_among named j xs m) s
kept_acknowledged named j [] m s kept = kept
kept_acknowledged named j (x ∷ xs) m s kept =
    kept_acknowledged named (suc j) xs (cond (named j) (streams_after (Some x) m) m) s
    (cond_both (named j) (streams_after (Some x) m) m (λ z. HasReadOpen z s) (λ b. kept_released (Some x) m s kept)
    (λ b. kept))

-- a write was accepted
kept_written : (o : Option StreamView) (p : Parts) (id s : ℕ) (named : Option PayloadProtocolIdentifier)
    (bytes : List ℕ) → HasReadOpen p.streams s → HasReadOpen (with_written o p id named bytes).streams s
kept_written None p id s named bytes kept = kept
kept_written (Some t) p id s named bytes kept =
    kept_changed (λ u. accepted_by u (type_on t named) (length bytes)) (stream_at p.streams id) p.streams id s refl
    (λ u. refl) kept

-- what is set on a stream leaves its read half
reads_on : (h : RecvSendState) → is_read_half_open (without_write_half h) ≡ is_read_half_open h
reads_on open_halves.Closed = refl
reads_on open_halves.Readable = refl
reads_on open_halves.Writable = refl
reads_on open_halves.ReadWritable = refl

setting_leaves : (setting : Setting) (t : StreamView)
    → is_read_half_open (with_setting t setting).halves ≡ is_read_half_open t.halves
setting_leaves (settings.DefaultPayloadType kind) t = refl
setting_leaves (settings.Reliability params) t = refl
setting_leaves (settings.LowMark bytes) t = refl
setting_leaves (settings.HighMark bytes) t = refl
setting_leaves settings.WriteHalfClosed t = reads_on t.halves

-- a stream that is made can be read
kept_made : (m : StreamMap) (id first : ℕ) (kind : PayloadProtocolIdentifier) (s : ℕ) → HasReadOpen m s
    → HasReadOpen (made m id first kind) s
kept_made m id first kind s kept =
    insert_found (λ t. is_read_half_open t.halves ≡ true) s id (fresh_stream id m.next_generation first kind) refl
    m.by_id kept

-- The spans of other streams end

kept_beside : (ids : List ℕ) (m n : StreamMap) (s : ℕ)
    → ((t : ℕ) → mem t ids ≡ false → stream_at n t ≡ stream_at m t) → (mem s ids ≡ true → ⊥) → HasReadOpen m s
    → HasReadOpen n s
kept_beside ids m n s stay others kept t e =
    kept t (sym (stay s (false_from_ne_true (mem s ids) others)) ∙ e)

-- Any act but one that ends its span leaves a stream that can be read so.
pub only_ends_close_reads : OnlyEndsCloseReads
only_ends_close_reads (Act.PeerKnown t) p s can others kept = kept
only_ends_close_reads (Act.Opened id first kind) p s can others kept = kept_made p.streams id first kind s kept
only_ends_close_reads (Act.Wrote id named bytes) p s can others kept =
    kept_written (stream_at p.streams id) p id s named bytes kept
only_ends_close_reads (Act.Adjusted id setting) p s can others kept =
    kept_changed (λ t. with_setting t setting) (stream_at p.streams id) p.streams id s refl
    (λ t. setting_leaves setting t) kept
only_ends_close_reads (Act.Sent at_once now) p s can others kept = kept
only_ends_close_reads (Act.SentAgain at_once by index) p s can others kept = kept
only_ends_close_reads (Act.SpansEnded ids m) p s can others kept = kept_beside ids p.streams m s can others kept
only_ends_close_reads Act.Marked p s can others kept = kept
only_ends_close_reads (Act.Acknowledged n blocks missing) p s can others kept =
    kept_acknowledged (is_acknowledged_by n blocks) 0 p.queue.in_flight p.streams s kept
only_ends_close_reads (Act.Abandoned index) p s can others kept =
    kept_abandoned (slice_get p.queue.in_flight index) p s kept
only_ends_close_reads Act.TailAbandoned p s can others kept =
    kept_tail_abandoned (slice_get p.queue.pending 0) p s kept
only_ends_close_reads (Act.Dropped k) p s can others kept = kept_dropped k (slice_get p.queue.pending k) p s kept
only_ends_close_reads (Act.Started now) p s can others kept = kept
only_ends_close_reads Act.Forwarded p s can others kept = kept
only_ends_close_reads (Act.PassedOver tsn skipped) p s can others kept =
    kept_passed tsn (numbers_told s skipped) (passed_over tsn skipped p.streams) s (stream_at p.streams s)
    (at_passed tsn skipped p.streams s) kept
only_ends_close_reads (Act.Took piece) p s can others kept =
    kept_pushed (stream_at p.streams piece.stream_identifier) p.streams piece.stream_identifier s piece refl kept
only_ends_close_reads (Act.Deferred piece) p s can others kept = kept
only_ends_close_reads Act.Reported p s can others kept = kept
only_ends_close_reads (Act.WasRead id) p s can others kept =
    kept_read (stream_at p.streams id) p.streams id s refl kept
only_ends_close_reads Act.Ended p s can others kept = λ t e. absurd (false≢true (ap is_some e))

-- so do several of them, one after another
pub acts_keep_reads : (acts : List Act) (p : Parts) (s : ℕ) → CanAll acts p
    → AllByRecursion (λ (act : Act). EndsSpanOf act s → ⊥) acts → HasReadOpen p.streams s
    → HasReadOpen (done_all acts p).streams s
acts_keep_reads [] p s can others kept = kept
acts_keep_reads (x ∷ xs) p s (can, cans) (other, others) kept =
    acts_keep_reads xs (done x p) s cans others (only_ends_close_reads x p s can other kept)

-- What ends no span: acts of its own DATA, and of the DATA that comes.
pub own_acts_end_no_span : (act : Act) (s : ℕ) → IsOfItsOwn act → EndsSpanOf act s → ⊥
own_acts_end_no_span (Act.PeerKnown t) s own ends = ends
own_acts_end_no_span (Act.Opened id first kind) s own ends = ends
own_acts_end_no_span (Act.Wrote id named bytes) s own ends = ends
own_acts_end_no_span (Act.Adjusted id setting) s own ends = ends
own_acts_end_no_span (Act.Sent at_once now) s own ends = ends
own_acts_end_no_span (Act.SentAgain at_once by index) s own ends = ends
own_acts_end_no_span (Act.SpansEnded ids m) s own ends = own
own_acts_end_no_span Act.Marked s own ends = ends
own_acts_end_no_span (Act.Acknowledged n blocks missing) s own ends = ends
own_acts_end_no_span (Act.Abandoned index) s own ends = ends
own_acts_end_no_span Act.TailAbandoned s own ends = ends
own_acts_end_no_span (Act.Dropped k) s own ends = ends
own_acts_end_no_span (Act.Started now) s own ends = ends
own_acts_end_no_span Act.Forwarded s own ends = ends
own_acts_end_no_span (Act.PassedOver tsn skipped) s own ends = ends
own_acts_end_no_span (Act.Took piece) s own ends = ends
own_acts_end_no_span (Act.Deferred piece) s own ends = ends
own_acts_end_no_span Act.Reported s own ends = ends
own_acts_end_no_span (Act.WasRead id) s own ends = ends
own_acts_end_no_span Act.Ended s own ends = ends

pub what_comes_ends_no_span : (act : Act) (s : ℕ) → IsOfWhatComes act → EndsSpanOf act s → ⊥
what_comes_ends_no_span (Act.PeerKnown t) s comes ends = ends
what_comes_ends_no_span (Act.Opened id first kind) s comes ends = ends
what_comes_ends_no_span (Act.Wrote id named bytes) s comes ends = ends
what_comes_ends_no_span (Act.Adjusted id setting) s comes ends = ends
what_comes_ends_no_span (Act.Sent at_once now) s comes ends = ends
what_comes_ends_no_span (Act.SentAgain at_once by index) s comes ends = ends
what_comes_ends_no_span (Act.SpansEnded ids m) s comes ends = comes
what_comes_ends_no_span Act.Marked s comes ends = ends
what_comes_ends_no_span (Act.Acknowledged n blocks missing) s comes ends = ends
what_comes_ends_no_span (Act.Abandoned index) s comes ends = ends
what_comes_ends_no_span Act.TailAbandoned s comes ends = ends
what_comes_ends_no_span (Act.Dropped k) s comes ends = ends
what_comes_ends_no_span (Act.Started now) s comes ends = ends
what_comes_ends_no_span Act.Forwarded s comes ends = ends
what_comes_ends_no_span (Act.PassedOver tsn skipped) s comes ends = ends
what_comes_ends_no_span (Act.Took piece) s comes ends = ends
what_comes_ends_no_span (Act.Deferred piece) s comes ends = ends
what_comes_ends_no_span Act.Reported s comes ends = ends
what_comes_ends_no_span (Act.WasRead id) s comes ends = ends
what_comes_ends_no_span Act.Ended s comes ends = ends
