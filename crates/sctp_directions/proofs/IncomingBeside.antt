-- What an association does as a sender leaves it where it stands as a receiver: it changes nothing of what is held of
-- any stream.
use Rattle.std.proofs.Common.{◌≡◌, refl, sym, ap, ◌∙◌, subst, subst₂, ⊎_elim, ℕ, suc, Bool, true, false, cond, eqb}
use Rattle.std.proofs.Common.{List, [], ◌∷◌, length, Option, Some, None}
use Rattle.std.specs.Prelude.{⊤, slice_get}
use Rattle.std.proofs.lemmas.Bool.{cases_Bool, cond-true, cond-false, cond_both, eqb-true}
use Rattle.sctp_outbound_queue.specs.declared.message.InFlight.{InFlight}
use Rattle.sctp_outbound_queue.specs.Message.{outstanding_bytes}
use Rattle.sctp_outbound_queue.specs.Waiting.{Waiting}
use Rattle.sctp_outbound.specs.Sender.{streams_after}
use Rattle.sctp_wire_types.specs.declared.ids.PayloadProtocolIdentifier.{PayloadProtocolIdentifier}
use Rattle.sctp_streams.specs.declared.setting.Setting.{Setting}
use Rattle.sctp_streams.specs.declared.setting.Setting.TheVariants as settings
use Rattle.sctp_streams.specs.Stream.{StreamView, accepted_by, released_from, with_setting, with_ssn_given_back}
use Rattle.sctp_streams.specs.Streams.{StreamMap, change_at, changed_stream, given_back_in, is_generation, released_in}
use Rattle.sctp_streams.specs.Streams.{stream_at}
use Rattle.sctp_model.specs.Messages.{Plan}
use Rattle.sctp_model.specs.Reassembly.{Queue}
use Rattle.sctp_model.specs.Machine.{Direction}
use Rattle.sctp_fit.specs.Incoming.{FitsIncoming, IsQueueAt, Receiving}
use Rattle.sctp_outbound.specs.GapAcks.{released_among}
use Rattle.sctp_fit.proofs.StreamsThere.{at_with}
use Rattle.sctp_directions.specs.Acts.{Act, Parts, is_acknowledged_by, receiving, type_on, with_abandoned, with_dropped}
use Rattle.sctp_directions.specs.Acts.{with_tail_abandoned, with_written}
use Rattle.sctp_directions.specs.Laws.{OwnActsLeaveWhatComes}

-- Streams of which the same is held

-- the same is held of a stream, where it is live
abbrev IsSameHeld : Option StreamView → Option StreamView → Type 0
IsSameHeld None None = ⊤
IsSameHeld None (Some u) = ⊥
IsSameHeld (Some t) None = ⊥
IsSameHeld (Some t) (Some u) = u.reassembly ≡ t.reassembly

-- a stream holds the same as itself
same_held : (x : Option StreamView) → IsSameHeld x x
same_held None = tt
same_held (Some t) = refl

-- a queue that is a stream's is that of each stream of which the same is held
queue_same : (peer : ℕ) (p : Plan) (s : ℕ) (x y : Option StreamView) (o : Option Queue) → IsSameHeld x y
    → IsQueueAt peer p s x o → IsQueueAt peer p s y o
queue_same peer p s None None o same h = h
queue_same peer p s None (Some u) o same h = absurd same
queue_same peer p s (Some t) None o same h = absurd same
queue_same peer p s (Some t) (Some u) None same h = h
queue_same peer p s (Some t) (Some u) (Some q) same h =
    subst (λ z. IsQueueAt peer p s (Some (record t { reassembly = z })) (Some q)) (sym same) h

-- streams of which the same is held fit as before
fits_streams : (a : Receiving) (m : StreamMap) (w : Direction)
    → ((n : ℕ) → IsSameHeld (stream_at a.streams n) (stream_at m n)) → FitsIncoming a w
    → FitsIncoming (record a { streams = m }) w
fits_streams a m w same fits = record {
  is_open = fits.is_open;
  taken = fits.taken;
  passed = fits.passed;
  queues = λ n v.
      queue_same a.peer w.sender.plan n (stream_at a.streams n) (stream_at m n) (w.receiver.queues n) (same n)
      (fits.queues n v);
}

-- a change of a stream that leaves its reassembly leaves what is held
changed_same : (f : StreamView → StreamView) → ((t : StreamView) → (f t).reassembly ≡ t.reassembly)
    → (m : StreamMap) (id n : ℕ)
    → IsSameHeld (stream_at m n) (stream_at (changed_stream f m id) n)
changed_same f stays m id n = go (stream_at m id) refl
  where
    go : (x : Option StreamView) → stream_at m id ≡ x → IsSameHeld (stream_at m n) (stream_at (change_at f x m id) n)
    go None e = same_held (stream_at m n)
    go (Some t) e = ⊎_elim
        (λ (b : eqb n id ≡ true). subst₂ IsSameHeld (sym (ap (stream_at m) (eqb-true n id b) ∙ e))
        (sym (at_with m id n t (f t) e ∙ cond-true (eqb n id) (Some (f t)) (stream_at m n) b)) (stays t))
        (λ (b : eqb n id ≡ false). subst (IsSameHeld (stream_at m n))
        (sym (at_with m id n t (f t) e ∙ cond-false (eqb n id) (Some (f t)) (stream_at m n) b))
        (same_held (stream_at m n)))
        (cases_Bool (eqb n id))

-- The acts

-- a write on a stream leaves what came as it is
wrote_fits : (x : Option StreamView) (p : Parts) (id : ℕ) (named : Option PayloadProtocolIdentifier) (bytes : List ℕ)
    (w : Direction)
    → FitsIncoming (receiving p) w → FitsIncoming (receiving (with_written x p id named bytes)) w
wrote_fits None p id named bytes w fits = fits
wrote_fits (Some s) p id named bytes w fits =
    fits_streams (receiving p) (receiving (with_written (Some s) p id named bytes)).streams w
    (changed_same (λ t. accepted_by t (type_on s named) (length bytes)) (λ t. refl) p.streams id) fits

-- so does what an application sets on it
setting_holds : (setting : Setting) (t : StreamView) → (with_setting t setting).reassembly ≡ t.reassembly
setting_holds (settings.DefaultPayloadType kind) t = refl
setting_holds (settings.Reliability params) t = refl
setting_holds (settings.LowMark bytes) t = refl
setting_holds (settings.HighMark bytes) t = refl
setting_holds settings.WriteHalfClosed t = refl

-- releasing bytes leaves what is held of each stream
released_same : (m : StreamMap) (id generation bytes n : ℕ)
    → IsSameHeld (stream_at m n) (stream_at (released_in m id generation bytes) n)
released_same m id generation bytes n = cond_both (is_generation (stream_at m id) generation) _ m
    (λ (z : StreamMap). IsSameHeld (stream_at m n) (stream_at z n))
    (λ b. changed_same (λ t. released_from t bytes) (λ t. refl) m id n)
    (λ b. same_held (stream_at m n))

after_same : (x : Option InFlight) (m : StreamMap) (n : ℕ)
    → IsSameHeld (stream_at m n) (stream_at (streams_after x m) n)
after_same None m n = same_held (stream_at m n)
after_same (Some x) m n =
    released_same m x.message.stream_identifier x.message.generation (outstanding_bytes x) n

-- so does giving back what a dropped message took
returned_holds : (unordered : Bool) (bytes : ℕ) (t : StreamView)
    → (released_from (cond unordered t (with_ssn_given_back t)) bytes).reassembly ≡ t.reassembly
returned_holds true bytes t = refl
returned_holds false bytes t = refl

given_back_same : (m : StreamMap) (id generation : ℕ) (unordered : Bool) (bytes n : ℕ)
    → IsSameHeld (stream_at m n) (stream_at (given_back_in m id generation unordered bytes) n)
given_back_same m id generation unordered bytes n = cond_both (is_generation (stream_at m id) generation) _ m
    (λ (z : StreamMap). IsSameHeld (stream_at m n) (stream_at z n))
    (λ b. changed_same (λ t. released_from (cond unordered t (with_ssn_given_back t)) bytes)
    (returned_holds unordered bytes) m id n)
    (λ b. same_held (stream_at m n))

-- a message that is given up leaves what came as it is
abandoned_fits : (o : Option InFlight) (p : Parts) (w : Direction) → FitsIncoming (receiving p) w
    → FitsIncoming (receiving (with_abandoned o p)) w
abandoned_fits None p w fits = fits
abandoned_fits (Some x) p w fits =
    fits_streams (receiving p) (with_abandoned (Some x) p).streams w
    (released_same p.streams x.message.stream_identifier x.message.generation _) fits

tail_fits : (o : Option Waiting) (p : Parts) (w : Direction) → FitsIncoming (receiving p) w
    → FitsIncoming (receiving (with_tail_abandoned o p)) w
tail_fits None p w fits = fits
tail_fits (Some x) p w fits =
    fits_streams (receiving p) (with_tail_abandoned (Some x) p).streams w
    (released_same p.streams x.message.stream_identifier x.message.generation _) fits

dropped_fits : (k : ℕ) (o : Option Waiting) (p : Parts) (w : Direction) → FitsIncoming (receiving p) w
    → FitsIncoming (receiving (with_dropped k o p)) w
dropped_fits k None p w fits = fits
dropped_fits k (Some x) p w fits =
    fits_streams (receiving p) (with_dropped k (Some x) p).streams w
    (given_back_same p.streams x.message.stream_identifier x.message.generation x.message.unordered _) fits

-- and releasing those of the named pieces leaves what came as it is
released_fits : (named : ℕ → Bool) (j : ℕ) (xs : List InFlight) (m : StreamMap) (a : Receiving) (w : Direction)
    → FitsIncoming (record a { streams = m }) w → FitsIncoming (record a { streams = released_among named j xs m }) w
released_fits named j [] m a w fits = fits
released_fits named j (x ∷ xs) m a w fits =
    released_fits named (suc j) xs (cond (named j) (streams_after (Some x) m) m) a w
    (fits_streams (record a { streams = m }) (cond (named j) (streams_after (Some x) m) m) w
    (λ n. cond_both (named j) (streams_after (Some x) m) m (λ z. IsSameHeld (stream_at m n) (stream_at z n))
    (λ b. after_same (Some x) m n) (λ b. same_held (stream_at m n))) fits)

-- acts of its own DATA leave an association as a receiver
pub own_acts_leave_what_comes : OwnActsLeaveWhatComes
own_acts_leave_what_comes (Act.PeerKnown t) p w own fits = absurd own
own_acts_leave_what_comes (Act.Opened id first kind) p w own fits = absurd own
own_acts_leave_what_comes (Act.Wrote id named bytes) p w own fits =
    wrote_fits (stream_at p.streams id) p id named bytes w fits
own_acts_leave_what_comes (Act.Adjusted id setting) p w own fits =
    fits_streams (receiving p) (changed_stream (λ t. with_setting t setting) p.streams id) w
    (changed_same (λ t. with_setting t setting) (setting_holds setting) p.streams id) fits
own_acts_leave_what_comes (Act.Sent at_once now) p w own fits = fits
own_acts_leave_what_comes (Act.SentAgain at_once by index) p w own fits = fits
own_acts_leave_what_comes Act.Marked p w own fits = fits
own_acts_leave_what_comes (Act.Acknowledged n blocks missing) p w own fits =
    released_fits (is_acknowledged_by n blocks) 0 p.queue.in_flight p.streams (receiving p) w fits
own_acts_leave_what_comes (Act.Abandoned index) p w own fits =
    abandoned_fits (slice_get p.queue.in_flight index) p w fits
own_acts_leave_what_comes Act.TailAbandoned p w own fits = tail_fits (slice_get p.queue.pending 0) p w fits
own_acts_leave_what_comes (Act.Dropped k) p w own fits = dropped_fits k (slice_get p.queue.pending k) p w fits
own_acts_leave_what_comes (Act.Started now) p w own fits = fits
own_acts_leave_what_comes Act.Forwarded p w own fits = fits
own_acts_leave_what_comes (Act.SpansEnded ids m) p w own fits = absurd own
own_acts_leave_what_comes (Act.Took piece) p w own fits = absurd own
own_acts_leave_what_comes (Act.Deferred piece) p w own fits = absurd own
own_acts_leave_what_comes (Act.PassedOver tsn skipped) p w own fits = absurd own
own_acts_leave_what_comes Act.Reported p w own fits = absurd own
own_acts_leave_what_comes (Act.WasRead id) p w own fits = absurd own
own_acts_leave_what_comes Act.Ended p w own fits = absurd own
