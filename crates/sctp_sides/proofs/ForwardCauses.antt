-- A FORWARD TSN is no fault, and closes exactly where it is in use, lies ahead and leaves nothing to read.
use Rattle.std.proofs.Common.{◌≡◌, refl, sym, ap, ◌∙◌, subst, ◌⊎◌, ⊎_elim, inl, inr, ℕ, ◌+◌, ◌-◌, ◌%◌, ◌^◌, ◌<◌, ◌≤◌}
use Rattle.std.proofs.Common.{◌==◌, ◌&&◌}
use Rattle.std.proofs.Common.{◌||◌, arith, Bool, true, false, nat_lt, not, if◌then◌else◌, List, [], ◌∷◌, None}
use Rattle.std.proofs.lemmas.Bool.{and_from, and_parts, cases_Bool, eqb-true, le-ltb, lt-ltb}
use Rattle.sctp_serial.specs.Serial.{tsn, tsn_lte, tsn_past}
use Rattle.sctp_wire_types.specs.declared.chunk.Chunk.{Chunk}
use Rattle.sctp_wire_types.specs.declared.chunk.SkippedStream.{SkippedStream}
use Rattle.sctp_wire_types.specs.declared.packet.CommonHeader.{CommonHeader}
use Rattle.sctp_inbound.specs.declared.receiver.AckTrigger.{AckTrigger}
use Rattle.sctp_inbound.specs.Receiver.{asked, is_behind}
use Rattle.sctp_fit.specs.Incoming.{tsn_before}
use Rattle.sctp_directions.specs.Acts.{History, IsAhead, reach_in}
use Rattle.sctp_assoc.specs.declared.inbound.Flow.{Flow}
use Rattle.sctp_assoc.specs.declared.inbound.Flow.TheVariants as flows
use Rattle.sctp_assoc.specs.Closing.{is_exhausted}
use Rattle.sctp_assoc.specs.Finding.{found_for}
use Rattle.sctp_assoc.specs.Happened.{acts_of_chunk}
use Rattle.sctp_assoc.specs.Leads.{Binds, Leads, parts}
use Rattle.sctp_assoc.specs.Shown.{Shown, uses_forward_tsn}
use Rattle.sctp_assoc.specs.Skipping.{acknowledged_at_once, asks_behind, is_ahead, on_forward, refused}
use Rattle.sctp_assoc.specs.Skipping.{with_passed, with_skip, with_skips}
use Rattle.sctp_assoc.specs.Chunks.{on_chunk}
use Rattle.sctp_assoc.specs.Resets.{settled}
use Rattle.sctp_resets.specs.Resets.{is_retiring}
use Rattle.sctp_inbound.specs.declared.receiver.Receiver.{Receiver}
use Rattle.sctp_inbound.specs.declared.receiver.AckTrigger.TheVariants as triggers
use Rattle.sctp_assoc.proofs.ForwardCame.{lies_ahead}
use Rattle.sctp_assoc.proofs.CallsLeadOn.{chunk_leads}
use Rattle.sctp_assoc.proofs.StreamsFound.{found_for_is}
use Rattle.sctp_sides.specs.Causes.{IsFullForGood, PassesToNothingToRead, kept_apart, kept_behind}
use Rattle.sctp_sides.proofs.DataIntake.{exhausts_of, fault_of}
use Rattle.sctp_sides.proofs.ExhaustedBuffers.{exhausted_is_full, full_is_exhausted, settled_receiver}
use Rattle.sctp_sides.proofs.ForwardKinds.{forward_is_one_of, with_use}

-- It is no fault.

asks_without_fault : (e : Bool) (b : Shown) (f : AckTrigger)
    → fault_of (if◌then◌else◌ {A = Shown × Flow} e (b, flows.Exhausted) (b, flows.Next f)).1 ≡ None
asks_without_fault true b f = refl
asks_without_fault false b f = refl

pub forward_flow : (a : Shown) (t : ℕ) (es : List SkippedStream) (trigger : AckTrigger) (now : ℕ)
    → fault_of (on_forward a t es trigger now).1 ≡ None
forward_flow a t es trigger now =
    forward_is_one_of t es (λ b x. fault_of x.1 ≡ None) trigger now (λ b e. refl) (λ b e f. refl)
    (λ b e f. let c : Shown = settled (with_passed (with_skips t es b) t) in
    asks_without_fault (is_exhausted c) c (asked c.receiver trigger false))
    (λ b x p. p) a

-- Where it leaves the receive buffer exhausted.

asks_exhausts : (e : Bool) (b : Shown) (f : AckTrigger) → is_exhausted b ≡ e
    → exhausts_of (if◌then◌else◌ {A = Shown × Flow} e (b, flows.Exhausted) (b, flows.Next f)).1
    ≡ is_exhausted (if◌then◌else◌ {A = Shown × Flow} e (b, flows.Exhausted) (b, flows.Next f)).0
asks_exhausts true b f e = sym e
asks_exhausts false b f e = sym e

none_and : (a b c : Bool) → (a ≡ false) ⊎ (b ≡ false) → ((a && b) && c) ≡ false
none_and a b c (inl e) = rw e refl
none_and true b c (inr e) = rw e refl
none_and false b c (inr e) = refl

both_and : (a b c d : Bool) → a ≡ true → b ≡ true → c ≡ d → c ≡ ((a && b) && d)
both_and a b c d e f g = rw (e, f) g

forward_exhausts : (a : Shown) (t : ℕ) (es : List SkippedStream) (trigger : AckTrigger) (now : ℕ)
    → exhausts_of (on_forward a t es trigger now).1
    ≡ ((uses_forward_tsn a && is_ahead a t) && is_exhausted (on_forward a t es trigger now).0)
forward_exhausts a t es trigger now =
    forward_is_one_of t es (λ b x. exhausts_of x.1 ≡ ((uses_forward_tsn b && is_ahead b t) && is_exhausted x.0))
    trigger now
    (λ b e. sym (none_and (uses_forward_tsn b) (is_ahead b t) (is_exhausted (refused b trigger).0) (inl e)))
    (λ b e f. sym (none_and (uses_forward_tsn b) (is_ahead b t) (is_exhausted (acknowledged_at_once b now)) (inr f)))
    (λ b e f. let c : Shown = settled (with_passed (with_skips t es b) t) in
    both_and (uses_forward_tsn b) (is_ahead b t) (exhausts_of (asks_behind c trigger).1)
    (is_exhausted (asks_behind c trigger).0) e f
    (asks_exhausts (is_exhausted c) c (asked c.receiver trigger false) refl))
    (λ b x p. p ∙ ap (λ (z : Shown). (uses_forward_tsn z && is_ahead z t) && is_exhausted x.0) (found_for_is t es b))
    a

-- It leaves the size of the buffer.

asks_size : (e : Bool) (b : Shown) (f : AckTrigger)
    → (if◌then◌else◌ {A = Shown × Flow} e (b, flows.Exhausted) (b, flows.Next f)).0.receiver.buffer_size
    ≡ b.receiver.buffer_size
asks_size true b f = refl
asks_size false b f = refl

skip_receiver : (c : Bool) (t id ssn : ℕ) (a : Shown) → is_retiring a.resets id ≡ c
    → (with_skip t id ssn a).receiver ≡ a.receiver
unfolding with_skip
skip_receiver true t id ssn a e = rw e refl
skip_receiver false t id ssn a e = rw e refl

skips_receiver : (t : ℕ) (es : List SkippedStream) (a : Shown) → (with_skips t es a).receiver ≡ a.receiver
skips_receiver t [] a = refl
skips_receiver t (e ∷ es) a =
    skips_receiver t es (with_skip t e.stream_identifier e.stream_sequence_number a)
    ∙ skip_receiver _ t e.stream_identifier e.stream_sequence_number a refl

forward_size : (a : Shown) (t : ℕ) (es : List SkippedStream) (trigger : AckTrigger) (now : ℕ)
    → (on_forward a t es trigger now).0.receiver.buffer_size ≡ a.receiver.buffer_size
forward_size a t es trigger now =
    forward_is_one_of t es (λ b x. x.0.receiver.buffer_size ≡ b.receiver.buffer_size) trigger now
    (λ b e. refl) (λ b e f. refl)
    (λ b e f. let c : Shown = settled (with_passed (with_skips t es b) t) in
    asks_size (is_exhausted c) c (asked c.receiver trigger false)
    ∙ ap (λ (r : Receiver). r.buffer_size) (settled_receiver (with_passed (with_skips t es b) t))
    ∙ ap (λ (r : Receiver). r.buffer_size) (skips_receiver t es b))
    (λ b x p. p ∙ ap (λ (z : Shown). z.receiver.buffer_size) (found_for_is t es b)) a

-- What is kept apart behind it is the same whatever asked before, and whenever it comes.

asks_kept : (e : Bool) (b : Shown) (f : AckTrigger)
    → kept_apart (if◌then◌else◌ {A = Shown × Flow} e (b, flows.Exhausted) (b, flows.Next f)).0 ≡ kept_apart b
asks_kept true b f = refl
asks_kept false b f = refl

-- by whether FORWARD TSN is in use, and it lies ahead
forward_kept_by : (uses ahead : Bool) (a : Shown) (t : ℕ) (es : List SkippedStream) (trigger : AckTrigger) (now : ℕ)
    → is_ahead a t ≡ ahead
    → kept_apart (on_forward (with_use uses a) t es trigger now).0
    ≡ kept_apart (on_forward (with_use uses a) t es triggers.None 0).0
unfolding on_forward
forward_kept_by false ahead a t es trigger now e = refl
forward_kept_by true false a t es trigger now e = rw e refl
forward_kept_by true true a t es trigger now e =
    let b : Shown = with_use true a in
    let c : Shown = settled (with_passed (with_skips t es (found_for t es b)) t) in
    rw e (asks_kept (is_exhausted c) c (asked c.receiver trigger false)
    ∙ sym (asks_kept (is_exhausted c) c (asked c.receiver triggers.None false)))

forward_kept : (a : Shown) (t : ℕ) (es : List SkippedStream) (trigger : AckTrigger) (now : ℕ)
    → kept_apart (on_forward a t es trigger now).0 ≡ kept_apart (on_forward a t es triggers.None 0).0
forward_kept a t es trigger now = forward_kept_by (uses_forward_tsn a) (is_ahead a t) a t es trigger now refl

-- A TSN that lies ahead is not behind.

far_back : (first t : ℕ) → first < 2 ^ 32 → t < 2 ^ 32 → (t + 2 ^ 32 - first) % 2 ^ 32 < 2 ^ 31
    → 2 ^ 31 ≤ ((first + 2 ^ 32 - 1) % 2 ^ 32 + 2 ^ 32 - t) % 2 ^ 32
far_back first t a b c = omega (arith, a, b, c)

not_before : (first t : ℕ) → first < 2 ^ 32 → t < 2 ^ 32 → (t + 2 ^ 32 - first) % 2 ^ 32 < 2 ^ 31
    → t ≡ (first + 2 ^ 32 - 1) % 2 ^ 32 → ⊥
not_before first t a b c e = omega (arith, a, b, c, e)

none_of_both : (a b c : Bool) → a ≡ false → c ≡ false → (a || (b && c)) ≡ false
none_of_both a true c e f = rw (e, f) refl
none_of_both a false c e f = rw e refl

not_behind : (first t : ℕ) → first < 2 ^ 32 → t < 2 ^ 32 → tsn_past first t < 2 ^ 31
    → tsn_lte t (tsn_before first) ≡ false
not_behind first t a b near =
    none_of_both (t == tsn_before first) (nat_lt 0 (tsn_past t (tsn_before first)))
    (nat_lt (tsn_past t (tsn_before first)) (2 ^ 31))
    (⊎_elim
    (λ (e : (t == tsn_before first) ≡ true). absurd (not_before first t a b near (eqb-true t (tsn_before first) e)))
    (λ (e : (t == tsn_before first) ≡ false). e)
    (cases_Bool (t == tsn_before first)))
    (le-ltb (tsn_past t (tsn_before first)) (2 ^ 31) (far_back first t a b near))

tsn_small : (own base : ℕ) → tsn own base < 2 ^ 32
tsn_small own base = omega arith

less : (n d : ℕ) → n + d < n + 2 ^ 31 → d < 2 ^ 31
less n d l = omega (arith, l)

is_ahead_from : (a : Shown) (h : History) (t : ℕ) → Binds a h → IsAhead h t → is_ahead a t ≡ true
is_ahead_from a h t binds ahead =
    let first = tsn h.peer (reach_in h) in
    let near : tsn_past first t < 2 ^ 31 = less (reach_in h) (tsn_past first t) ahead.near in
    and_from (nat_lt t (2 ^ 32)) (not (is_behind a.receiver t)) (lt-ltb t (2 ^ 32) ahead.small)
    (ap (λ (p : ℕ). not (tsn_lte t p)) binds.peer_last_tsn
    ∙ ap not (not_behind first t (tsn_small h.peer (reach_in h)) ahead.small near))

-- Both ways.

module _ (a : Shown) (h : History) (header : CommonHeader) (chunk : Chunk) (t : ℕ) (es : List SkippedStream)
    (trigger : AckTrigger) (now : ℕ)
    (is_forward : (asked : AckTrigger) (at : ℕ) → on_chunk a header chunk asked at ≡ on_forward a t es asked at)
    (binds : Binds a h) where
  forward_leads_on : (k : History) × Leads (acts_of_chunk a header chunk) a h (on_forward a t es trigger now).0 k
  forward_leads_on =
      subst (λ (x : Shown × Flow). (k : History) × Leads (acts_of_chunk a header chunk) a h x.0 k)
      (is_forward trigger now) (chunk_leads header chunk a trigger now h binds)

  kept : kept_apart (on_forward a t es trigger now).0 ≡ kept_behind a header chunk
  kept =
      forward_kept a t es trigger now ∙ sym (ap (λ (x : Shown × Flow). kept_apart x.0) (is_forward triggers.None 0))

  pub exhausting_forwards_leave_nothing : exhausts_of (on_forward a t es trigger now).1 ≡ true
      → PassesToNothingToRead a h header chunk t
  exhausting_forwards_leave_nothing e =
      let b : Shown = (on_forward a t es trigger now).0 in
      let both =
      and_parts (uses_forward_tsn a && is_ahead a t) (is_exhausted b)
      (sym (forward_exhausts a t es trigger now) ∙ e) in
      let where_it_is = and_parts (uses_forward_tsn a) (is_ahead a t) both.0 in
      let on = forward_leads_on in
      let full = exhausted_is_full b on.0 on.1.binds both.1 in
      record {
        could = record {
          used = where_it_is.0;
          ahead = lies_ahead h a.streams a.receiver t binds.peer_last_tsn binds.held where_it_is.1;
        };
        full =
            subst (IsFullForGood a.receiver.buffer_size (kept_behind a header chunk)) on.1.there
            (subst (λ (n : ℕ). IsFullForGood a.receiver.buffer_size n (parts b on.0)) kept
            (subst (λ (n : ℕ). IsFullForGood n (kept_apart b) (parts b on.0)) (forward_size a t es trigger now)
            full));
      }

  pub passing_to_nothing_exhausts : PassesToNothingToRead a h header chunk t
      → exhausts_of (on_forward a t es trigger now).1 ≡ true
  passing_to_nothing_exhausts c =
      let b : Shown = (on_forward a t es trigger now).0 in
      let on = forward_leads_on in
      let full : IsFullForGood b.receiver.buffer_size (kept_apart b) (parts b on.0) =
      subst (λ (n : ℕ). IsFullForGood n (kept_apart b) (parts b on.0)) (sym (forward_size a t es trigger now))
      (subst (λ (n : ℕ). IsFullForGood a.receiver.buffer_size n (parts b on.0)) (sym kept)
      (subst (IsFullForGood a.receiver.buffer_size (kept_behind a header chunk)) (sym on.1.there) c.full)) in
      forward_exhausts a t es trigger now
      ∙ and_from (uses_forward_tsn a && is_ahead a t) (is_exhausted b)
      (and_from (uses_forward_tsn a) (is_ahead a t) c.could.used (is_ahead_from a h t binds c.could.ahead))
      (full_is_exhausted b on.0 on.1.binds full)
