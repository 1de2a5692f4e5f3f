-- A FORWARD TSN that comes passes over what it says, or does nothing to the directions.
use Rattle.std.proofs.Common.{◌≡◌, refl, sym, ap, ◌∙◌, subst, ⊎_elim, ℕ, Bool, true, false, ◌||◌, cond, eqb, is_eq}
use Rattle.std.proofs.Common.{nat_cmp, not, length, ◌==◌, map, if◌then◌else◌, List, [], ◌∷◌, ◌++◌, Option, Some, None}
use Rattle.std.proofs.Common.{arith, is_some, suc}
use Rattle.std.specs.Option.{option_map}
use Rattle.std.specs.List.{list_any}
use Rattle.std.specs.Map.{lookup}
use Rattle.std.specs.BTreeMap.{is_at}
use Rattle.std.proofs.lemmas.Bool.{cases_Bool, cond-false, cond-true, eq-eqb, eqb-true, false≢true, ne_eqb, true≢false}
use Rattle.sctp_wire_types.specs.declared.chunk.SkippedStream.{SkippedStream}
use Rattle.sctp_inbound.specs.declared.receiver.AckTrigger.{AckTrigger}
use Rattle.sctp_inbound.specs.Receiver.{asked, passed_to}
use Rattle.sctp_streams.specs.Stream.{StreamView, stream_passed, stream_skipped}
use Rattle.sctp_streams.specs.Streams.{StreamMap, becomes_ready_in, change_at, changed_stream, passed_each, passed_in}
use Rattle.sctp_streams.specs.Streams.{generation_left, stream_at}
use Rattle.sctp_streams.proofs.LowMarks.{at_with}
use Rattle.sctp_generations.specs.Generations.{has_retiring}
use Rattle.sctp_generations.specs.Retiring.{RetiringMap, boundaries_at}
use Rattle.sctp_reset_requests.specs.Ids.{has_id}
use Rattle.sctp_resets.specs.Concerned.{retiring_ids}
use Rattle.sctp_resets.specs.Resets.{is_retiring}
use Rattle.sctp_resets.specs.Resets as resets
use Rattle.sctp_directions.specs.Acts.{Act, History, offset_in, skipped_each}
use Rattle.sctp_directions.specs.Acts.{with_passed as passed_on}
use Rattle.sctp_assoc.specs.declared.inbound.Flow.{Flow}
use Rattle.sctp_assoc.specs.declared.inbound.Flow.TheVariants as flows
use Rattle.sctp_assoc.specs.declared.skipping.Standing.{Standing}
use Rattle.sctp_assoc.specs.declared.skipping.Standing.TheVariants as standings
use Rattle.sctp_assoc.specs.Closing.{is_exhausted}
use Rattle.sctp_assoc.specs.Control.{queued}
use Rattle.sctp_assoc.specs.Finding.{found_at, found_for, found_if, makes_for}
use Rattle.sctp_assoc.specs.Happened.{acts_of_finding, acts_of_finding_if, acts_of_forward, acts_of_forward_at}
use Rattle.sctp_assoc.specs.Happened.{acts_of_passing}
use Rattle.sctp_assoc.specs.Leads.{Binds, Leads}
use Rattle.sctp_assoc.specs.ResetActs.{acts_of_keeping, acts_of_settling, spans_end_if}
use Rattle.sctp_assoc.specs.Resets.{settled}
use Rattle.sctp_assoc.specs.Shown.{Shown, uses_forward_tsn}
use Rattle.sctp_assoc.specs.Skipping.{acknowledged_at_once, asks_behind, is_ahead, on_forward, on_forward_at}
use Rattle.sctp_assoc.specs.Skipping.{readable_told, standing_of}
use Rattle.sctp_assoc.specs.Skipping.{unrecognized_chunk, with_passed, with_skip, with_skips}
use Rattle.sctp_assoc.proofs.DataLeadsOn.{stream_leads}
use Rattle.sctp_assoc.proofs.ForwardCame.{held_passes, last_tsn_passes, lies_ahead}
use Rattle.sctp_assoc.proofs.Leading.{leads_nowhere, leads_on}
use Rattle.sctp_assoc.proofs.ResetsLeadOn.{settling_leads, spans_end_leads, stays_leads}
use Rattle.sctp_assoc.proofs.StreamsFound.{found_for_is}

-- Skips

-- a skip, whether a generation of its stream ended and is still read or not
abbrev skip_if : Bool → ℕ → ℕ → ℕ → Shown → Shown
skip_if retires tsn id ssn a =
    if retires then record a { resets = resets.with_skip a.resets id ssn tsn } else
    record a {
      streams = changed_stream (stream_skipped ssn) a.streams id;
      events = a.events ++ readable_told (becomes_ready_in a.streams id ssn) id;
    }

skip_is_if : (tsn id ssn : ℕ) (a : Shown) → with_skip tsn id ssn a ≡ skip_if (is_retiring a.resets id) tsn id ssn a
unfolding with_skip
skip_is_if tsn id ssn a = refl

skip_is : (retires : Bool) (tsn id ssn : ℕ) (a : Shown)
    → let b = skip_if retires tsn id ssn a in
    b ≡ record a { streams = b.streams; events = b.events; resets = b.resets }
skip_is true tsn id ssn a = refl
skip_is false tsn id ssn a = refl

one_is : (tsn id ssn : ℕ) (a : Shown)
    → let b = with_skip tsn id ssn a in
    b ≡ record a { streams = b.streams; events = b.events; resets = b.resets }
one_is tsn id ssn a =
    subst (λ (b : Shown). b ≡ record a { streams = b.streams; events = b.events; resets = b.resets })
    (sym (skip_is_if tsn id ssn a)) (skip_is (is_retiring a.resets id) tsn id ssn a)

-- skips change streams, events and resets alone
pub skips_are : (tsn : ℕ) (es : List SkippedStream) (a : Shown)
    → let b = with_skips tsn es a in
    b ≡ record a { streams = b.streams; events = b.events; resets = b.resets }
skips_are tsn [] a = refl
skips_are tsn (e ∷ es) a =
    let b : Shown = with_skip tsn e.stream_identifier e.stream_sequence_number a in
    let c : Shown = with_skips tsn es b in
    skips_are tsn es b
    ∙ ap (λ (z : Shown). record z { streams = c.streams; events = c.events; resets = c.resets })
    (one_is tsn e.stream_identifier e.stream_sequence_number a)

abbrev retiring_of : Shown → RetiringMap
retiring_of a = a.resets.generations.retiring

skip_retires : (retires : Bool) (tsn id ssn : ℕ) (a : Shown)
    → retiring_of (skip_if retires tsn id ssn a) ≡ retiring_of a
skip_retires true tsn id ssn a = refl
skip_retires false tsn id ssn a = refl

one_retires : (tsn id ssn : ℕ) (a : Shown) → retiring_of (with_skip tsn id ssn a) ≡ retiring_of a
one_retires tsn id ssn a =
    ap retiring_of (skip_is_if tsn id ssn a) ∙ skip_retires (is_retiring a.resets id) tsn id ssn a

-- the streams that are skipped

-- the stream of one identifier, if it is live, is changed, and each other one stays
at_changed : (f : StreamView → StreamView) (m : StreamMap) (id s : ℕ)
    → stream_at (changed_stream f m id) s ≡ cond (eqb id s) (option_map f (stream_at m s)) (stream_at m s)
at_changed f m id s = go (stream_at m id) refl
  where
    go : (o : Option StreamView) → stream_at m id ≡ o
        → stream_at (change_at f o m id) s ≡ cond (eqb id s) (option_map f (stream_at m s)) (stream_at m s)
    go None e = ⊎_elim
        (λ (b : eqb id s ≡ true).
        let none : stream_at m s ≡ None = ap (stream_at m) (sym (eqb-true id s b)) ∙ e in
        none ∙ sym (cond-true (eqb id s) (option_map f (stream_at m s)) (stream_at m s) b ∙ ap (option_map f) none))
        (λ (b : eqb id s ≡ false).
        sym (cond-false (eqb id s) (option_map f (stream_at m s)) (stream_at m s) b))
        (cases_Bool (eqb id s))
    go (Some t) e =
        at_with m id s t (f t) e
        ∙ ⊎_elim
        (λ (b : eqb id s ≡ true).
        cond-true (eqb s id) (Some (f t)) (stream_at m s) (turned b)
        ∙ sym (cond-true (eqb id s) (option_map f (stream_at m s)) (stream_at m s) b
        ∙ ap (option_map f) (ap (stream_at m) (sym (eqb-true id s b)) ∙ e)))
        (λ (b : eqb id s ≡ false).
        cond-false (eqb s id) (Some (f t)) (stream_at m s) (apart b)
        ∙ sym (cond-false (eqb id s) (option_map f (stream_at m s)) (stream_at m s) b))
        (cases_Bool (eqb id s))
      where
        turned : eqb id s ≡ true → eqb s id ≡ true
        turned b = eq-eqb s id (sym (eqb-true id s b))

        apart : eqb id s ≡ false → eqb s id ≡ false
        apart b = ne_eqb s id (λ (e : s ≡ id). false≢true (sym b ∙ eq-eqb id s (sym e)))

-- a key of a map is found in the list of its keys
found_first : (b : Bool) (v : List ℕ) (o : Option (List ℕ)) → is_some (cond b (Some v) o) ≡ (b || is_some o)
found_first true v o = refl
found_first false v o = refl

keys_found : (test : ℕ → Bool) (es : RetiringMap) → is_some (lookup test es) ≡ list_any test (map (λ e. e.0) es)
keys_found test [] = refl
keys_found test (e ∷ es) =
    found_first (test e.0) e.1 (lookup test es) ∙ ap (λ b. test e.0 || b) (keys_found test es)

-- a stream of which no generation is still read is not among those
none_retires : (a : Shown) (t : ℕ) → has_id t (retiring_ids a.resets.generations) ≡ false
    → is_retiring a.resets t ≡ false
none_retires a t out = keys_found (is_at (nat_cmp t)) (retiring_of a) ∙ out

-- a stream that does not retire is skipped, wherever the others stand
skip_stays : (retires : Bool) (tsn id ssn t : ℕ) (a : Shown) (m : StreamMap) → is_retiring a.resets id ≡ retires
    → is_retiring a.resets t ≡ false → stream_at a.streams t ≡ stream_at m t
    → stream_at (skip_if retires tsn id ssn a).streams t ≡ stream_at (changed_stream (stream_skipped ssn) m id) t
skip_stays true tsn id ssn t a m e out same =
    let other : eqb id t ≡ false =
    ne_eqb id t (λ (is : id ≡ t). true≢false (sym e ∙ ap (is_retiring a.resets) is ∙ out)) in
    same
    ∙ sym (at_changed (stream_skipped ssn) m id t
    ∙ cond-false (eqb id t) (option_map (stream_skipped ssn) (stream_at m t)) (stream_at m t) other)
skip_stays false tsn id ssn t a m e out same =
    at_changed (stream_skipped ssn) a.streams id t
    ∙ ap (λ (o : Option StreamView). cond (eqb id t) (option_map (stream_skipped ssn) o) o) same
    ∙ sym (at_changed (stream_skipped ssn) m id t)

skips_stay_each : (es : List SkippedStream) (tsn t : ℕ) (a : Shown) (m : StreamMap)
    → has_id t (retiring_ids a.resets.generations) ≡ false → stream_at a.streams t ≡ stream_at m t
    → stream_at (with_skips tsn es a).streams t ≡ stream_at (skipped_each es m) t
skips_stay_each [] tsn t a m out same = same
skips_stay_each (e ∷ es) tsn t a m out same =
    let id = e.stream_identifier in
    let ssn = e.stream_sequence_number in
    let one : stream_at (with_skip tsn id ssn a).streams t ≡ stream_at (changed_stream (stream_skipped ssn) m id) t =
    ap (λ (z : Shown). stream_at z.streams t) (skip_is_if tsn id ssn a)
    ∙ skip_stays (is_retiring a.resets id) tsn id ssn t a m refl (none_retires a t out) same in
    skips_stay_each es tsn t (with_skip tsn id ssn a) (changed_stream (stream_skipped ssn) m id)
    (ap (λ (r : RetiringMap). has_id t (map (λ e. e.0) r)) (one_retires tsn id ssn a) ∙ out) one

-- where none retires all are skipped
skip_same : (retires : Bool) (tsn id ssn : ℕ) (a : Shown) → retires ≡ false
    → (skip_if retires tsn id ssn a).streams ≡ changed_stream (stream_skipped ssn) a.streams id
skip_same true tsn id ssn a none = absurd (true≢false none)
skip_same false tsn id ssn a none = refl

skips_same : (es : List SkippedStream) (tsn : ℕ) (a : Shown) → retiring_of a ≡ []
    → (with_skips tsn es a).streams ≡ skipped_each es a.streams
skips_same [] tsn a none = refl
skips_same (e ∷ es) tsn a none =
    let id = e.stream_identifier in
    let ssn = e.stream_sequence_number in
    let b : Shown = with_skip tsn id ssn a in
    skips_same es tsn b (one_retires tsn id ssn a ∙ none)
    ∙ ap (skipped_each es)
    (ap (λ (z : Shown). z.streams) (skip_is_if tsn id ssn a)
    ∙ skip_same (is_retiring a.resets id) tsn id ssn a (ap (λ (r : RetiringMap). is_some (boundaries_at r id)) none))

one_is_left : (n : ℕ) → eqb (suc n) 0 ≡ false
one_is_left n = ne_eqb (suc n) 0 (λ (none : suc n ≡ 0). omega arith)

none_is_left : (r : RetiringMap) → not (length r == 0) ≡ false → r ≡ []
none_is_left [] e = refl
none_is_left (x ∷ xs) e = absurd (true≢false (ap not (sym (one_is_left (length xs))) ∙ e))

-- Unordered pieces are dropped

mapped_step : (g : StreamView → StreamView) (b : Bool) (t : StreamView) (o : Option StreamView)
    → cond b (Some (g t)) (option_map g o) ≡ option_map g (cond b (Some t) o)
mapped_step g true t o = refl
mapped_step g false t o = refl

found_passed : (t s : ℕ) (es : List (ℕ × StreamView))
    → lookup (is_at (nat_cmp s)) (passed_each t es) ≡ option_map (stream_passed t) (lookup (is_at (nat_cmp s)) es)
found_passed t s [] = refl
found_passed t s (e ∷ es) =
    ap (cond (is_eq (nat_cmp s e.0)) (Some (stream_passed t e.1))) (found_passed t s es)
    ∙ mapped_step (stream_passed t) (is_eq (nat_cmp s e.0)) e.1 (lookup (is_at (nat_cmp s)) es)

passed_alike : (tsn t : ℕ) (m n : StreamMap) → stream_at m t ≡ stream_at n t
    → stream_at (passed_in m tsn) t ≡ stream_at (passed_in n tsn) t
passed_alike tsn t m n same =
    found_passed tsn t m.by_id ∙ ap (option_map (stream_passed tsn)) same ∙ sym (found_passed tsn t n.by_id)

-- What a FORWARD TSN does

-- an association as a FORWARD TSN leaves it where no generation of a stream ended that is still read
abbrev plainly_passed : Shown → ℕ → List SkippedStream → Shown
plainly_passed a t es = with_passed (record a { streams = skipped_each es a.streams }) t

-- and as it leaves it wherever it stands
abbrev all_passed : Shown → ℕ → List SkippedStream → Shown
all_passed a t es = with_passed (with_skips t es a) t

module _ (a : Shown) (t : ℕ) (es : List SkippedStream) (h : History) (binds : Binds a h) (ahead : is_ahead a t ≡ true)
  where
    passed_leads : Leads (Act.PassedOver t es ∷ []) a h (plainly_passed a t es) (passed_on h (offset_in h t))
    passed_leads = record {
      can = (lies_ahead h a.streams a.receiver t binds.peer_last_tsn binds.held ahead, tt);
      there = refl;
      binds = record {
        first = binds.first;
        peer_last_tsn =
            last_tsn_passes h a.streams a.receiver t binds.peer_last_tsn binds.held ahead
            (plainly_passed a t es).streams;
        held =
            held_passes h a.streams a.receiver t binds.peer_last_tsn binds.held ahead (plainly_passed a t es).streams;
        marked = binds.marked;
      };
    }

    keeping_leads_if : (some : Bool) → has_retiring a.resets.generations ≡ some → (k : History)
        → Binds (plainly_passed a t es) k
        → Leads (spans_end_if some (retiring_ids a.resets.generations) (all_passed a t es).streams)
        (plainly_passed a t es) k (all_passed a t es) k
    keeping_leads_if true e k bound =
        let are = skips_are t es a in
        spans_end_leads (retiring_ids a.resets.generations) (plainly_passed a t es) (all_passed a t es) k bound
        (ap (λ (z : Shown). z.sender) are)
        (ap (λ (z : Shown). passed_to z.receiver t) are)
        (λ s out. passed_alike t s (with_skips t es a).streams (skipped_each es a.streams)
        (skips_stay_each es t s a a.streams out refl))
    keeping_leads_if false e k bound =
        let are = skips_are t es a in
        stays_leads (plainly_passed a t es) (all_passed a t es) k bound (ap (λ (z : Shown). z.sender) are)
        (ap (λ (z : Shown). passed_to z.receiver t) are)
        (ap (λ (m : StreamMap). passed_in m t) (skips_same es t a (none_is_left (retiring_of a) e)))

    -- where a generation of a stream ended and is still read, its skip is kept
    pub keeping_leads : (k : History) → Binds (plainly_passed a t es) k
        → Leads (acts_of_keeping t es a) (plainly_passed a t es) k (all_passed a t es) k
    keeping_leads k bound = keeping_leads_if (has_retiring a.resets.generations) refl k bound

    ahead_leads : Leads (Act.PassedOver t es ∷ (acts_of_keeping t es a ++ acts_of_settling (all_passed a t es))) a h
        (settled (all_passed a t es)) (passed_on h (offset_in h t))
    ahead_leads =
        let k : History = passed_on h (offset_in h t) in
        let one = passed_leads in
        let two = keeping_leads k one.binds in
        leads_on (Act.PassedOver t es ∷ []) (acts_of_keeping t es a ++ acts_of_settling (all_passed a t es)) one
        (leads_on (acts_of_keeping t es a) (acts_of_settling (all_passed a t es)) two
        (settling_leads (all_passed a t es) k two.binds))

-- The streams on which it skips are found or made before.

finding_leads_if : (makes : Bool) (a : Shown) (id : ℕ) (h : History) → Binds a h
    → Leads (acts_of_finding_if makes a id) a h (found_if makes a id) h
finding_leads_if true a id h binds =
    stream_leads (is_some (stream_at a.streams id)) (generation_left a.streams) a id h refl refl binds
finding_leads_if false a id h binds = leads_nowhere a a h binds refl refl

found_at_leads : (tsn id : ℕ) (a : Shown) (h : History) → Binds a h
    → Leads (acts_of_finding_if (makes_for tsn id a) a id) a h (found_at tsn id a) h
unfolding found_at
found_at_leads tsn id a h binds = finding_leads_if (makes_for tsn id a) a id h binds

finding_leads : (tsn : ℕ) (es : List SkippedStream) (a : Shown) (h : History) → Binds a h
    → Leads (acts_of_finding tsn es a) a h (found_for tsn es a) h
finding_leads tsn [] a h binds = leads_nowhere a a h binds refl refl
finding_leads tsn (e ∷ es) a h binds =
    let id = e.stream_identifier in
    let one = found_at_leads tsn id a h binds in
    leads_on (acts_of_finding_if (makes_for tsn id a) a id) (acts_of_finding tsn es (found_at tsn id a)) one
    (finding_leads tsn es (found_at tsn id a) h one.binds)

asks_keeps_if : (e : Bool) (a : Shown) (f g : Flow) → (if◌then◌else◌ {A = Shown × Flow} e (a, f) (a, g)).0 ≡ a
asks_keeps_if true a f g = refl
asks_keeps_if false a f g = refl

pub asks_behind_keeps : (a : Shown) (trigger : AckTrigger) → (asks_behind a trigger).0 ≡ a
asks_behind_keeps a trigger =
    asks_keeps_if (is_exhausted a) a flows.Exhausted (flows.Next (asked a.receiver trigger false))

abbrev is_standing_ahead : Standing → Bool
is_standing_ahead standings.Unused = false
is_standing_ahead standings.Behind = false
is_standing_ahead standings.Ahead = true

ahead_from : (uses ahead : Bool)
    → is_standing_ahead (if uses then (if ahead then standings.Ahead else standings.Behind) else standings.Unused)
    ≡ true
    → ahead ≡ true
ahead_from true true e = refl
ahead_from true false e = absurd (false≢true e)
ahead_from false ahead e = absurd (false≢true e)

standing_leads : (s : Standing) (a : Shown) (t : ℕ) (es : List SkippedStream) (trigger : AckTrigger) (now : ℕ)
    (h : History) → standing_of a t ≡ s → Binds a h
    → (k : History) × Leads (acts_of_forward_at s a t es) a h (on_forward_at s a t es trigger now).0 k
standing_leads standings.Unused a t es trigger now h e binds =
    (h, leads_nowhere a (queued a unrecognized_chunk) h binds refl refl)
standing_leads standings.Behind a t es trigger now h e binds =
    (h, leads_nowhere a (acknowledged_at_once a now) h binds refl refl)
standing_leads standings.Ahead a t es trigger now h e binds =
    let b : Shown = found_for t es a in
    let found : Leads (acts_of_finding t es a) a h b h = finding_leads t es a h binds in
    let ahead : is_ahead b t ≡ true =
    ap (λ (z : Shown). is_ahead z t) (found_for_is t es a)
    ∙ ahead_from (uses_forward_tsn a) (is_ahead a t) (ap is_standing_ahead e) in
    let d : Shown = all_passed b t es in
    let k : History = passed_on h (offset_in h t) in (
      k,
      leads_on (acts_of_finding t es a) (acts_of_passing b t es) found
          (subst (λ (z : Shown). Leads (acts_of_passing b t es) b h z k)
          (sym (asks_behind_keeps (settled d) trigger)) (ahead_leads b t es h found.binds ahead)),
    )

pub forward_leads : (a : Shown) (t : ℕ) (es : List SkippedStream) (trigger : AckTrigger) (now : ℕ) (h : History)
    → Binds a h → (k : History) × Leads (acts_of_forward a t es) a h (on_forward a t es trigger now).0 k
unfolding on_forward
forward_leads a t es trigger now h binds = standing_leads (standing_of a t) a t es trigger now h refl binds
