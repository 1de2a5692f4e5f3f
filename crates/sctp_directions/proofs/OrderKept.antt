-- Only what an application sets on a stream, or what the live streams are once a span ended, has a stream send other
-- messages than ordered, reliable ones.
use Rattle.std.proofs.Common.{◌≡◌, ◌⊎◌, refl, sym, ap, ◌∙◌, subst, ⊎_elim, inl, inr, ℕ, suc, Bool, true, false, cond}
use Rattle.std.proofs.Common.{List, [], ◌∷◌, length, Option, Some, None, is_some, Ordering, Less, Equal, Greater}
use Rattle.std.proofs.Common.{is_eq, nat_cmp}
use Rattle.std.specs.Prelude.{slice_get}
use Rattle.std.specs.Option.{option_map}
use Rattle.std.specs.Ordering.{match_ordering}
use Rattle.std.specs.BTreeMap.{is_at, insert_entry}
use Rattle.std.specs.Map.{lookup}
use Rattle.std.proofs.lemmas.Bool.{cases_Bool, cond_both, cond-true, cond-false, false≢true, true≢false}
use Rattle.sctp_wire_types.specs.declared.ids.PayloadProtocolIdentifier.{PayloadProtocolIdentifier}
use Rattle.sctp_wire_types.specs.declared.chunk.ChunkPayloadData.{ChunkPayloadData}
use Rattle.sctp_wire_types.specs.declared.reliability.Policy.{Policy}
use Rattle.sctp_wire_types.specs.declared.reliability.Policy.TheVariants as policies
use Rattle.sctp_outbound_queue.specs.declared.message.InFlight.{InFlight}
use Rattle.sctp_outbound_queue.specs.Message.{message_bytes, outstanding_bytes}
use Rattle.sctp_outbound_queue.specs.Waiting.{Waiting}
use Rattle.sctp_outbound.specs.GapAcks.{released_among}
use Rattle.sctp_outbound.specs.Sender.{streams_after}
use Rattle.sctp_receive_queues.specs.Messages.{ReceivedMessage}
use Rattle.sctp_receive_queues.specs.Reassembly.{Reassembly, taken}
use Rattle.sctp_streams.specs.declared.halves.ReliabilityParams.{ReliabilityParams}
use Rattle.sctp_streams.specs.declared.setting.Setting.{Setting}
use Rattle.sctp_streams.specs.declared.setting.Setting.TheVariants as settings
use Rattle.sctp_streams.specs.Stream.{StreamView, accepted_by, fresh_stream, ordered_and_reliable, read_with}
use Rattle.sctp_streams.specs.Stream.{released_from, stream_pushed, stream_read, stream_skipped, with_setting}
use Rattle.sctp_streams.specs.Stream.{with_ssn_given_back}
use Rattle.sctp_streams.specs.Streams.{StreamMap, change_at, is_generation, made, pushed_at, read_at, released_in}
use Rattle.sctp_streams.specs.Streams.{stream_at, with_stream}
use Rattle.sctp_model.specs.Messages.{is_reliable}
use Rattle.sctp_fit.specs.Forwards.{numbers_told}
use Rattle.sctp_fit.specs.Outgoing.{policy_of}
use Rattle.sctp_fit.proofs.StreamsChanged.{each_with}
use Rattle.sctp_directions.specs.Acts.{Act, IsKeptInOrder, Parts, SetsReliability, is_acknowledged_by, passed_over}
use Rattle.sctp_directions.specs.Acts.{type_on, with_abandoned, with_dropped, with_tail_abandoned, with_written}
use Rattle.sctp_directions.specs.Laws.{OnlySettingsLoosen}
use Rattle.sctp_directions.proofs.StreamsPassed.{at_passed, passed_by, skipped_by}

-- One stream changes

-- a live stream became another, which sends the same messages if it is this stream
kept_with : (m : StreamMap) (id s : ℕ) (t u : StreamView) → stream_at m id ≡ Some t → (id ≡ s → u.params ≡ t.params)
    → IsKeptInOrder m s → IsKeptInOrder (with_stream m id u) s
kept_with m id s t u e same kept =
    each_with m id t u (λ n o. n ≡ s → (v : StreamView) → o ≡ Some v → v.params ≡ ordered_and_reliable) e
    (λ n ne is. subst (IsKeptInOrder m) (sym is) kept)
    (λ is v i. let one : u ≡ v = cc in
    ap (λ z. z.params) (sym one) ∙ same is ∙ kept t (subst (λ z. stream_at m z ≡ Some t) is e))
    s refl

-- so it is with any change
kept_changed : (f : StreamView → StreamView) (o : Option StreamView) (m : StreamMap) (id s : ℕ) → stream_at m id ≡ o
    → (id ≡ s → (t : StreamView) → (f t).params ≡ t.params) → IsKeptInOrder m s
    → IsKeptInOrder (change_at f o m id) s
kept_changed f None m id s e same kept = kept
kept_changed f (Some t) m id s e same kept = kept_with m id s t (f t) e (λ is. same is t) kept

-- DATA that was taken in changes what comes alone
kept_pushed : (o : Option StreamView) (m : StreamMap) (id s : ℕ) (piece : ChunkPayloadData) → stream_at m id ≡ o
    → IsKeptInOrder m s → IsKeptInOrder (pushed_at o m id piece).0 s
kept_pushed None m id s piece e kept = kept
kept_pushed (Some t) m id s piece e kept = kept_with m id s t (stream_pushed t piece).0 e (λ is. refl) kept

-- so does a read
read_params : (t : StreamView) (r : Reassembly × Option ReceivedMessage) → (read_with t r).0.params ≡ t.params
read_params t (r, None) = refl
read_params t (r, Some m) = refl

kept_read : (o : Option StreamView) (m : StreamMap) (id s : ℕ) → stream_at m id ≡ o → IsKeptInOrder m s
    → IsKeptInOrder (read_at o m id).0 s
kept_read None m id s e kept = kept
kept_read (Some t) m id s e kept =
    kept_with m id s t (stream_read t).0 e (λ is. read_params t (taken t.reassembly)) kept

-- bytes were released
kept_less : (m : StreamMap) (id generation bytes s : ℕ) → IsKeptInOrder m s
    → IsKeptInOrder (released_in m id generation bytes) s
kept_less m id generation bytes s kept =
    cond_both (is_generation (stream_at m id) generation) _ m (λ z. IsKeptInOrder z s)
    (λ b. kept_changed (λ t. released_from t bytes) (stream_at m id) m id s refl (λ is t. refl) kept)
    (λ b. kept)

-- what a piece had outstanding was released, if there is one
kept_released : (o : Option InFlight) (m : StreamMap) (s : ℕ) → IsKeptInOrder m s
    → IsKeptInOrder (streams_after o m) s
kept_released None m s kept = kept
kept_released (Some x) m s kept =
    kept_less m x.message.stream_identifier x.message.generation (outstanding_bytes x) s kept

-- a message was given up
kept_abandoned : (o : Option InFlight) (p : Parts) (s : ℕ) → IsKeptInOrder p.streams s
    → IsKeptInOrder (with_abandoned o p).streams s
kept_abandoned None p s kept = kept
kept_abandoned (Some x) p s kept =
    kept_less p.streams x.message.stream_identifier x.message.generation _ s kept

kept_tail_abandoned : (o : Option Waiting) (p : Parts) (s : ℕ) → IsKeptInOrder p.streams s
    → IsKeptInOrder (with_tail_abandoned o p).streams s
kept_tail_abandoned None p s kept = kept
kept_tail_abandoned (Some x) p s kept =
    kept_less p.streams x.message.stream_identifier x.message.generation _ s kept

returned_params : (unordered : Bool) (bytes : ℕ) (t : StreamView)
    → (released_from (cond unordered t (with_ssn_given_back t)) bytes).params ≡ t.params
returned_params true bytes t = refl
returned_params false bytes t = refl

kept_dropped : (k : ℕ) (o : Option Waiting) (p : Parts) (s : ℕ) → IsKeptInOrder p.streams s
    → IsKeptInOrder (with_dropped k o p).streams s
kept_dropped k None p s kept = kept
kept_dropped k (Some x) p s kept =
    cond_both (is_generation (stream_at p.streams x.message.stream_identifier) x.message.generation) _ p.streams
    (λ z. IsKeptInOrder z s)
    (λ b. kept_changed (λ t. released_from (cond x.message.unordered t (with_ssn_given_back t)) (message_bytes x))
    (stream_at p.streams x.message.stream_identifier) p.streams x.message.stream_identifier s refl
    (λ is t. returned_params x.message.unordered (message_bytes x) t) kept)
    (λ b. kept)

-- a FORWARD TSN passed over what was received
skipped_params : (ns : List ℕ) (t : StreamView) → (skipped_by ns t).params ≡ t.params
skipped_params [] t = refl
skipped_params (n ∷ ns) t = skipped_params ns (stream_skipped n t)

module _ (tsn : ℕ) (ns : List ℕ) (m : StreamMap) (s : ℕ) where
  kept_passed : (o : Option StreamView) → stream_at m s ≡ option_map (passed_by tsn ns) o
      → ((t : StreamView) → o ≡ Some t → t.params ≡ ordered_and_reliable)
      → IsKeptInOrder m s
  kept_passed None at kept u e = absurd (false≢true (ap is_some (sym at ∙ e)))
  kept_passed (Some t) at kept u e =
      let is : Some (passed_by tsn ns t) ≡ Some u = sym at ∙ e in
      let same : passed_by tsn ns t ≡ u = cc in
      ap (λ z. z.params) (sym same) ∙ skipped_params ns t ∙ kept t refl

-- what the named pieces had outstanding was released
kept_acknowledged : (named : ℕ → Bool) (j : ℕ) (xs : List InFlight) (m : StreamMap) (s : ℕ) → IsKeptInOrder m s
    → IsKeptInOrder (released_among named j xs m) s
kept_acknowledged named j [] m s kept = kept
kept_acknowledged named j (x ∷ xs) m s kept =
    kept_acknowledged named (suc j) xs (cond (named j) (streams_after (Some x) m) m) s
    (cond_both (named j) (streams_after (Some x) m) m (λ z. IsKeptInOrder z s) (λ b. kept_released (Some x) m s kept)
    (λ b. kept))

-- a write was accepted
kept_written : (o : Option StreamView) (p : Parts) (id s : ℕ) (named : Option PayloadProtocolIdentifier)
    (bytes : List ℕ) → IsKeptInOrder p.streams s → IsKeptInOrder (with_written o p id named bytes).streams s
kept_written None p id s named bytes kept = kept
kept_written (Some t) p id s named bytes kept =
    kept_changed (λ u. accepted_by u (type_on t named) (length bytes)) (stream_at p.streams id) p.streams id s refl
    (λ is u. refl) kept

-- what is set on a stream leaves its order and reliability, if it is not those of this stream that are set
setting_leaves : (setting : Setting) (id s : ℕ) → (SetsReliability (Act.Adjusted id setting) s → ⊥) → id ≡ s
    → (t : StreamView) → (with_setting t setting).params ≡ t.params
setting_leaves (settings.DefaultPayloadType kind) id s others is t = refl
setting_leaves (settings.Reliability params) id s others is t = absurd (others is)
setting_leaves (settings.LowMark bytes) id s others is t = refl
setting_leaves (settings.HighMark bytes) id s others is t = refl
setting_leaves settings.WriteHalfClosed id s others is t = refl

-- A stream is made

module _ (P : StreamView → Type 0) (s id : ℕ) (x : StreamView) (holds : P x) where
  -- P holds of the stream that is found under the identifier s
  abbrev pub Found : List (ℕ × StreamView) → Type 0
  Found es = (t : StreamView) → lookup (is_at (nat_cmp s)) es ≡ Some t → P t

  -- so it does of the first one, if that is found, and else of the one that is found behind it
  first_found : (e : ℕ × StreamView) (es : List (ℕ × StreamView)) → Found (e ∷ es) → is_eq (nat_cmp s e.0) ≡ true
      → P e.1
  first_found e es all b =
      all e.1 (cond-true (is_eq (nat_cmp s e.0)) (Some e.1) (lookup (is_at (nat_cmp s)) es) b)

  behind_found : (e : ℕ × StreamView) (es : List (ℕ × StreamView)) → Found (e ∷ es) → is_eq (nat_cmp s e.0) ≡ false
      → Found es
  behind_found e es all b t i =
      all t (cond-false (is_eq (nat_cmp s e.0)) (Some e.1) (lookup (is_at (nat_cmp s)) es) b ∙ i)

  -- and the other way round
  found_either : (k : ℕ) (y : StreamView) (es : List (ℕ × StreamView)) → (is_eq (nat_cmp s k) ≡ true → P y)
      → (is_eq (nat_cmp s k) ≡ false → Found es) → Found ((k, y) ∷ es)
  found_either k y es first behind t i =
      ⊎_elim
      (λ (b : is_eq (nat_cmp s k) ≡ true).
      let is : Some y ≡ Some t = sym (cond-true (is_eq (nat_cmp s k)) (Some y) (lookup (is_at (nat_cmp s)) es) b) ∙ i in
      let same : y ≡ t = cc in subst P same (first b))
      (λ (b : is_eq (nat_cmp s k) ≡ false).
      behind b t (sym (cond-false (is_eq (nat_cmp s k)) (Some y) (lookup (is_at (nat_cmp s)) es) b) ∙ i))
      (cases_Bool (is_eq (nat_cmp s k)))

  -- so it does once the stream x, of which P holds, was put before, into or past the first entry
  insert_step : (o : Ordering) (e : ℕ × StreamView) (es rest : List (ℕ × StreamView)) → Found (e ∷ es)
      → (is_eq (nat_cmp s e.0) ≡ false → Found rest)
      → Found (match_ordering o ((id, x) ∷ e ∷ es) ((e.0, x) ∷ es) (e ∷ rest))
  insert_step Less e es rest all behind = found_either id x (e ∷ es) (λ b. holds) (λ b. all)
  insert_step Equal e es rest all behind = found_either e.0 x es (λ b. holds) (behind_found e es all)
  insert_step Greater e es rest all behind = found_either e.0 e.1 rest (first_found e es all) behind

  -- and once it was put into the entries
  pub insert_found : (es : List (ℕ × StreamView)) → Found es → Found (insert_entry nat_cmp es id x)
  insert_found [] all = found_either id x [] (λ b. holds) (λ b. all)
  insert_found (e ∷ es) all =
      insert_step (nat_cmp id e.0) e es (insert_entry nat_cmp es id x) all
      (λ b. insert_found es (behind_found e es all b))

-- a stream that is made sends ordered, reliable messages
kept_made : (m : StreamMap) (id first : ℕ) (kind : PayloadProtocolIdentifier) (s : ℕ) → IsKeptInOrder m s
    → IsKeptInOrder (made m id first kind) s
kept_made m id first kind s kept =
    insert_found (λ t. t.params ≡ ordered_and_reliable) s id (fresh_stream id m.next_generation first kind) refl m.by_id
    kept

-- The live streams became others

-- order and reliability
abbrev params_with : Bool → Policy → ReliabilityParams
params_with unordered policy = record { unordered = unordered; policy = policy }

-- what is set on a stream is ordered and reliable, or isn't
ordered_or_not : (unordered : Bool) (policy : Policy)
    → (params_with unordered policy ≡ ordered_and_reliable) ⊎ (params_with unordered policy ≡ ordered_and_reliable → ⊥)
ordered_or_not true policy = inr (λ e. true≢false (ap (λ z. z.unordered) e))
ordered_or_not false policies.Reliable = inl refl
ordered_or_not false (policies.Rexmit retries) = inr (λ e. false≢true (ap (λ z. is_reliable (policy_of z.policy)) e))
ordered_or_not false (policies.Timed milliseconds) =
    inr (λ e. false≢true (ap (λ z. is_reliable (policy_of z.policy)) e))

-- so a stream that doesn't fail to be in order is in order
kept_otherwise : (m : StreamMap) (s : ℕ) → ((IsKeptInOrder m s → ⊥) → ⊥) → IsKeptInOrder m s
kept_otherwise m s others t e = ⊎_elim
    (λ (is : t.params ≡ ordered_and_reliable). is)
    (λ (no : t.params ≡ ordered_and_reliable → ⊥). absurd (others (λ kept. no (kept t e))))
    (ordered_or_not t.params.unordered t.params.policy)

-- Any act but one that sets its order or reliability leaves a stream that sends ordered, reliable messages at that.
pub only_settings_loosen : OnlySettingsLoosen
only_settings_loosen (Act.PeerKnown t) p s others kept = kept
only_settings_loosen (Act.Opened id first kind) p s others kept = kept_made p.streams id first kind s kept
only_settings_loosen (Act.Wrote id named bytes) p s others kept =
    kept_written (stream_at p.streams id) p id s named bytes kept
only_settings_loosen (Act.Adjusted id setting) p s others kept =
    kept_changed (λ t. with_setting t setting) (stream_at p.streams id) p.streams id s refl
    (setting_leaves setting id s others) kept
only_settings_loosen (Act.Sent at_once now) p s others kept = kept
only_settings_loosen (Act.SentAgain at_once by index) p s others kept = kept
only_settings_loosen (Act.SpansEnded ids m) p s others kept = kept_otherwise m s others
only_settings_loosen Act.Marked p s others kept = kept
only_settings_loosen (Act.Acknowledged n blocks missing) p s others kept =
    kept_acknowledged (is_acknowledged_by n blocks) 0 p.queue.in_flight p.streams s kept
only_settings_loosen (Act.Abandoned index) p s others kept =
    kept_abandoned (slice_get p.queue.in_flight index) p s kept
only_settings_loosen Act.TailAbandoned p s others kept = kept_tail_abandoned (slice_get p.queue.pending 0) p s kept
only_settings_loosen (Act.Dropped k) p s others kept = kept_dropped k (slice_get p.queue.pending k) p s kept
only_settings_loosen (Act.Started now) p s others kept = kept
only_settings_loosen Act.Forwarded p s others kept = kept
only_settings_loosen (Act.PassedOver tsn skipped) p s others kept =
    kept_passed tsn (numbers_told s skipped) (passed_over tsn skipped p.streams) s (stream_at p.streams s)
    (at_passed tsn skipped p.streams s) kept
only_settings_loosen (Act.Took piece) p s others kept =
    kept_pushed (stream_at p.streams piece.stream_identifier) p.streams piece.stream_identifier s piece refl kept
only_settings_loosen (Act.Deferred piece) p s others kept = kept
only_settings_loosen Act.Reported p s others kept = kept
only_settings_loosen (Act.WasRead id) p s others kept =
    kept_read (stream_at p.streams id) p.streams id s refl kept
only_settings_loosen Act.Ended p s others kept = λ t e. absurd (false≢true (ap is_some e))
