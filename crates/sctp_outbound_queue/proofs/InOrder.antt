-- Message identifiers never fall, so the pieces of one message are neighbours.
use Rattle.std.proofs.Common.{◌≡◌, ℕ, zero, suc, ◌+◌, ◌<◌, ◌≤◌, ◌==◌, Bool, true, false, List, [], ◌∷◌}
use Rattle.std.proofs.Common.{◌++◌, Option, Some, None, length, map, take, drop, slice_get, refl, ap, sym, ◌∙◌}
use Rattle.std.proofs.Common.{arith, ⊎_elim, true≢false, append_assoc}
use Rattle.std.specs.Prelude.{slice_set}
use Rattle.std.specs.List.{list_any}
use Rattle.std.proofs.lemmas.Bool.{cases_Bool}
use Rattle.std.proofs.lemmas.Bool.Decides.{nat_tests}
use Rattle.std.specs.Option.{option_map}
use Rattle.sctp_outbound_queue.specs.declared.message.InFlight.{InFlight}
use Rattle.sctp_outbound_queue.specs.Waiting.{Waiting}
use Rattle.sctp_outbound_queue.specs.Expiry.{without_expired}
use Rattle.sctp_outbound_queue.specs.Front.{AreInOrder, NeverFall, flagged_at, holds_at, piece_ids, waiting_ids}
use Rattle.sctp_outbound_queue.specs.Message.{flagged, is_expired_unsent, is_of, marker_of, moved_down, sent_once, sent_started}
use Rattle.sctp_outbound_queue.specs.Message.{share_ssns, waiting_started}
use Rattle.sctp_outbound_queue.specs.Outbound.{Outbound, after_piece, tail_dropped, tail_dropped_from}
use Rattle.sctp_outbound_queue.proofs.Fronts.{ids_started}

-- numbers that never fall

lower : (a b : ℕ) (ns : List ℕ) → a ≤ b → NeverFall b ns → NeverFall a ns
lower a b [] le f = tt
lower a b (n ∷ ns) le (h, f) = (omega (arith, le, h), f)

-- those in front of others
in_front : (least : ℕ) (ns ks : List ℕ) → NeverFall least (ns ++ ks) → NeverFall least ns
in_front least [] ks f = tt
in_front least (n ∷ ns) ks (h, f) = (h, in_front n ns ks f)

-- one more at the end
at_end : (least n k : ℕ) (ns : List ℕ) → n ≤ k → NeverFall least (ns ++ n ∷ [])
    → NeverFall least ((ns ++ n ∷ []) ++ k ∷ [])
at_end least n k [] le (h, f) = (h, (le, tt))
at_end least n k (x ∷ ns) le (h, f) = (h, at_end x n k ns le f)

-- one twice
twice : (least n : ℕ) (ns ks : List ℕ) → NeverFall least (ns ++ n ∷ ks) → NeverFall least (ns ++ n ∷ n ∷ ks)
twice least n [] ks (h, f) = (h, (omega arith, f))
twice least n (x ∷ ns) ks (h, f) = (h, twice x n ns ks f)

-- one less
without : (least n : ℕ) (ns ks : List ℕ) → NeverFall least (ns ++ n ∷ ks) → NeverFall least (ns ++ ks)
without least n [] ks (h, f) = lower least n ks h f
without least n (x ∷ ns) ks (h, f) = (h, without x n ns ks f)

-- the queue's changes

pub none_in_order : AreInOrder [] [] 0
none_in_order = (omega arith, tt)

ids_with : (ms : List Waiting) (m : Waiting) → waiting_ids (ms ++ m ∷ []) ≡ waiting_ids ms ++ m.message.message_id ∷ []
ids_with [] m = refl
ids_with (x ∷ ms) m = ap (λ z. x.message.message_id ∷ z) (ids_with ms m)

sent_ids : (ps : List InFlight) (p : InFlight) → piece_ids (ps ++ p ∷ []) ≡ piece_ids ps ++ p.message.message_id ∷ []
sent_ids [] p = refl
sent_ids (x ∷ ps) p = ap (λ z. x.message.message_id ∷ z) (sent_ids ps p)

pub order_pushed : (ps : List InFlight) (ms ms2 : List Waiting) (m : Waiting) (next : ℕ)
    → m.message.message_id ≡ next → ms2 ≡ ms ++ m ∷ [] → AreInOrder ps ms next → AreInOrder ps ms2 (next + 1)
order_pushed ps ms ms2 m next id more order =
    rw (more, ids_with ms m, id, ← append_assoc (piece_ids ps) (waiting_ids ms ++ next ∷ []) ((next + 1) ∷ []))
    (rw (← append_assoc (piece_ids ps) (waiting_ids ms) (next ∷ []))
    (at_end 0 next (next + 1) (piece_ids ps ++ waiting_ids ms) (omega arith)
    (rw (append_assoc (piece_ids ps) (waiting_ids ms) (next ∷ [])) order)))

pub order_behind : (ps : List InFlight) (ms : List Waiting) (next : ℕ) → AreInOrder ps ms next
    → AreInOrder (drop 1 ps) ms next
order_behind [] ms next order = order
order_behind (p ∷ ps) ms next (h, order) = lower 0 p.message.message_id _ (omega arith) order

-- a piece of the first message that waits, or a marker for its pieces, goes behind the others
moved : (ns : List ℕ) (n : ℕ) (ks : List ℕ) → (ns ++ n ∷ []) ++ ks ≡ ns ++ n ∷ ks
moved ns n ks = append_assoc ns (n ∷ []) ks

pub order_marker : (ps : List InFlight) (ms : List Waiting) (m : Waiting) (p : InFlight) (next : ℕ)
    → slice_get ms 0 ≡ Some m → p.message ≡ m.message → AreInOrder ps ms next
    → AreInOrder (ps ++ p ∷ []) (drop 1 ms) next
order_marker ps [] m p next first same order = absurd (cc)
order_marker ps (x ∷ ms) m p next first same order =
    let id : p.message.message_id ≡ x.message.message_id = cc in
    rw (sent_ids ps p, id, moved (piece_ids ps) x.message.message_id (waiting_ids ms ++ next ∷ [])) order

pub order_sent : (now : ℕ) (ps : List InFlight) (ms : List Waiting) (p : InFlight) (next : ℕ)
    → option_map (sent_once now) (slice_get ms 0) ≡ Some p → AreInOrder ps ms next
    → AreInOrder (ps ++ p ∷ []) (after_piece ms) next
order_sent now ps [] p next first order = absurd (cc)
order_sent now ps (m ∷ ms) p next first order =
    let same : sent_once now m ≡ p = cc in
    let id : p.message.message_id ≡ m.message.message_id = ap (λ (q : InFlight). q.message.message_id) (sym same) in
    ⊎_elim (λ (a : (length m.rest == 0) ≡ true).
    rw (a, sent_ids ps p, id, moved (piece_ids ps) m.message.message_id (waiting_ids ms ++ next ∷ [])) order)
    (λ (a : (length m.rest == 0) ≡ false).
    rw (
      a,
      sent_ids ps p,
      id,
      moved (piece_ids ps) m.message.message_id (m.message.message_id ∷ (waiting_ids ms ++ next ∷ [])),
    )
    (twice 0 m.message.message_id (piece_ids ps) (waiting_ids ms ++ next ∷ []) order))
    (cases_Bool (length m.rest == 0))

ids_moved : (now : ℕ) (m : Waiting) (ms : List Waiting) → waiting_ids (map (moved_down m.message) ms) ≡ waiting_ids ms
ids_moved now m [] = refl
ids_moved now m (x ∷ ms) =
    let one : (moved_down m.message x).message.message_id ≡ x.message.message_id =
    ⊎_elim (λ (a : share_ssns m.message x.message ≡ true). rw a refl)
    (λ (a : share_ssns m.message x.message ≡ false). rw a refl) (cases_Bool (share_ssns m.message x.message)) in
    ap (λ z. z ∷ waiting_ids (map (moved_down m.message) ms)) one
    ∙ ap (λ z. x.message.message_id ∷ z) (ids_moved now m ms)

less_waiting : (now least : ℕ) (ns : List ℕ) (ms : List Waiting) (ks : List ℕ)
    → NeverFall least (ns ++ (waiting_ids ms ++ ks)) → NeverFall least (ns ++ (waiting_ids (without_expired now ms) ++ ks))
less_waiting now least (n ∷ ns) ms ks (h, f) = (h, less_waiting now n ns ms ks f)
less_waiting now least [] [] ks f = f
less_waiting now least [] (m ∷ ms) ks (h, f) =
    ⊎_elim (λ (a : is_expired_unsent now m ≡ true).
    rw (a, ids_moved now m ms) (lower least m.message.message_id (waiting_ids ms ++ ks) h f))
    (λ (a : is_expired_unsent now m ≡ false). rw a (h, less_waiting now m.message.message_id [] ms ks f))
    (cases_Bool (is_expired_unsent now m))

pub order_dropped : (now : ℕ) (ps : List InFlight) (ms ms2 : List Waiting) (next : ℕ)
    → ms2 ≡ without_expired now ms → AreInOrder ps ms next → AreInOrder ps ms2 next
order_dropped now ps ms ms2 next is order = rw is (less_waiting now 0 (piece_ids ps) ms (next ∷ []) order)

ids_waiting : (now : ℕ) (ms : List Waiting) → waiting_ids (map (waiting_started now) ms) ≡ waiting_ids ms
ids_waiting now [] = refl
ids_waiting now (m ∷ ms) = ap (λ z. m.message.message_id ∷ z) (ids_waiting now ms)

pub order_started : (now : ℕ) (ps qs : List InFlight) (ms ms2 : List Waiting) (next : ℕ)
    → qs ≡ map (sent_started now) ps → ms2 ≡ map (waiting_started now) ms → AreInOrder ps ms next
    → AreInOrder qs ms2 next
order_started now ps qs ms ms2 next sent waiting order =
    rw (sent, waiting, ids_started now ps, ids_waiting now ms) order

flagged_ids : (id : ℕ) (ps : List InFlight) → piece_ids (map (flagged id) ps) ≡ piece_ids ps
flagged_ids id [] = refl
flagged_ids id (p ∷ ps) =
    let one : (flagged id p).message.message_id ≡ p.message.message_id =
    ⊎_elim (λ (a : is_of id p ≡ true). rw a refl) (λ (a : is_of id p ≡ false). rw a refl) (cases_Bool (is_of id p)) in
    ap (λ z. z ∷ piece_ids (map (flagged id) ps)) one ∙ ap (λ z. p.message.message_id ∷ z) (flagged_ids id ps)

pub order_flagged : (id : ℕ) (ps qs : List InFlight) (ms : List Waiting) (next : ℕ) → qs ≡ map (flagged id) ps
    → AreInOrder ps ms next → AreInOrder qs ms next
order_flagged id ps qs ms next is order = rw (is, flagged_ids id ps) order

pub pieces_in_order : (ps : List InFlight) (ms : List Waiting) (next : ℕ) → AreInOrder ps ms next
    → NeverFall 0 (piece_ids ps)
pieces_in_order ps ms next order = in_front 0 (piece_ids ps) (waiting_ids ms ++ next ∷ []) order

-- pieces of other messages

other : (id : ℕ) (p : InFlight) → is_of id p ≡ false → flagged id p ≡ p
other id p e = rw e refl

less : (id n : ℕ) → n < id → (n == id) ≡ false
less id n lt = grind (arith, nat_tests, lt)

greater : (id n : ℕ) → id < n → (n == id) ≡ false
greater id n lt = grind (arith, nat_tests, lt)

same_ids : (id n : ℕ) → (n == id) ≡ true → n ≡ id
same_ids id n e = grind (arith, nat_tests, e)

apart : (id n : ℕ) → (n == id) ≡ false → n ≡ id → ⊥
apart id n e is = absurd (grind (arith, nat_tests, e, is))

-- no identifier is less than the first
least_at : (least i : ℕ) (ps : List InFlight) (p : InFlight) → NeverFall least (piece_ids ps)
    → slice_get ps i ≡ Some p → least ≤ p.message.message_id
least_at least i [] p f there = absurd (cc)
least_at least zero (q ∷ ps) p (h, f) there =
    let same : q ≡ p = cc in
    let is : q.message.message_id ≡ p.message.message_id = ap (λ (x : InFlight). x.message.message_id) same in
    omega (arith, h, is)
least_at least (suc i) (q ∷ ps) p (h, f) there =
    let rest = least_at q.message.message_id i ps p f there in
    omega (arith, h, rest)

-- nor than one before it
later_at : (least i j : ℕ) (ps : List InFlight) (p q : InFlight) → i ≤ j → NeverFall least (piece_ids ps)
    → slice_get ps i ≡ Some p → slice_get ps j ≡ Some q → p.message.message_id ≤ q.message.message_id
later_at least i j [] p q le f here there = absurd (cc)
later_at least zero zero (x ∷ ps) p q le f here there =
    let same : p ≡ q = cc in
    let is : p.message.message_id ≡ q.message.message_id = ap (λ (z : InFlight). z.message.message_id) same in
    omega (arith, is)
later_at least zero (suc j) (x ∷ ps) p q le (h, f) here there =
    let same : x ≡ p = cc in
    let is : x.message.message_id ≡ p.message.message_id = ap (λ (z : InFlight). z.message.message_id) same in
    let rest = least_at x.message.message_id j ps q f there in
    omega (arith, is, rest)
later_at least (suc i) zero (x ∷ ps) p q le f here there = absurd (omega arith)
later_at least (suc i) (suc j) (x ∷ ps) p q le (h, f) here there =
    later_at x.message.message_id i j ps p q (omega arith) f here there

none_up_to : (id least i : ℕ) (ps : List InFlight) (p : InFlight) → NeverFall least (piece_ids ps)
    → slice_get ps i ≡ Some p → p.message.message_id < id → list_any (is_of id) (take (suc i) ps) ≡ false
none_up_to id least i [] p f there lt = refl
none_up_to id least zero (q ∷ ps) p (h, f) there lt =
    let same : q ≡ p = cc in
    let is : q.message.message_id ≡ p.message.message_id = ap (λ (x : InFlight). x.message.message_id) same in
    let not_own : is_of id q ≡ false = less id q.message.message_id (omega (arith, is, lt)) in
    rw not_own refl
none_up_to id least (suc i) (q ∷ ps) p (h, f) there lt =
    let at_most = least_at q.message.message_id i ps p f there in
    let not_own : is_of id q ≡ false = less id q.message.message_id (omega (arith, at_most, lt)) in
    rw not_own (none_up_to id q.message.message_id i ps p f there lt)

others_behind : (id least : ℕ) (ps : List InFlight) → NeverFall least (piece_ids ps) → id < least
    → map (flagged id) ps ≡ ps
others_behind id least [] f lt = refl
others_behind id least (p ∷ ps) (h, f) lt =
    let not_own : is_of id p ≡ false = greater id p.message.message_id (omega (arith, h, lt)) in
    ap (λ z. z ∷ map (flagged id) ps) (other id p not_own)
    ∙ ap (λ z. p ∷ z) (others_behind id p.message.message_id ps f (omega (arith, h, lt)))

others_past : (id least i : ℕ) (ps : List InFlight) (p : InFlight) → NeverFall least (piece_ids ps)
    → slice_get ps i ≡ Some p → id < p.message.message_id → map (flagged id) (drop (suc i) ps) ≡ drop (suc i) ps
others_past id least i [] p f there lt = refl
others_past id least zero (q ∷ ps) p (h, f) there lt =
    let same : q ≡ p = cc in
    let is : q.message.message_id ≡ p.message.message_id = ap (λ (x : InFlight). x.message.message_id) same in
    others_behind id q.message.message_id ps f (omega (arith, is, lt))
others_past id least (suc i) (q ∷ ps) p (h, f) there lt = others_past id q.message.message_id i ps p f there lt

-- the walk back to the first piece of a message

is_there : (test : InFlight → Bool) (o : Option InFlight) → holds_at test o ≡ true → (p : InFlight) × (o ≡ Some p) × (test p ≡ true)
is_there test None e = absurd (true≢false (sym e))
is_there test (Some p) e = (p, refl, e)

no_gap : (ps : List InFlight) (i : ℕ) → i < length ps → slice_get ps i ≡ None → ⊥
no_gap [] i lt e = absurd (omega (arith, lt))
no_gap (x ∷ ps) zero lt e = cc
no_gap (x ∷ ps) (suc i) lt e = no_gap ps i (omega (arith, lt)) e

there_within : (ps : List InFlight) (i : ℕ) (p : InFlight) → slice_get ps i ≡ Some p → i < length ps
there_within [] i p e = absurd (cc)
there_within (q ∷ ps) zero p e = omega arith
there_within (q ∷ ps) (suc i) p e = let rest = there_within ps i p e in omega (arith, rest)

pub none_before : (id at index : ℕ) (ps : List InFlight) → NeverFall 0 (piece_ids ps) → at ≤ index
    → holds_at (is_of id) (slice_get ps index) ≡ true
    → holds_at (is_of id) (slice_get ps at) ≡ false → list_any (is_of id) (take (at + 1) ps) ≡ false
none_before id at index ps f le own none =
    let q = is_there (is_of id) (slice_get ps index) own in
    by q.0 q.1 (same_ids id q.0.message.message_id q.2) (slice_get ps at) refl none
  where
    by : (q : InFlight) → slice_get ps index ≡ Some q → q.message.message_id ≡ id → (o : Option InFlight)
        → slice_get ps at ≡ o → holds_at (is_of id) o ≡ false → list_any (is_of id) (take (at + 1) ps) ≡ false
    by q there is None here e =
        let lt = there_within ps index q there in
        absurd (no_gap ps at (omega (arith, le, lt)) here)
    by q there is (Some p) here e =
        let most = later_at 0 at index ps p q le f here there in
        let differs = apart id p.message.message_id e in
        let next : at + 1 ≡ suc at = omega arith in
        rw next (none_up_to id 0 at ps p f here (omega (arith, most, is, differs)))

-- the walk over the pieces of a message

pub before_flagged : (id n : ℕ) (ps : List InFlight) → list_any (is_of id) (take n ps) ≡ false
    → ps ≡ map (flagged id) (take n ps) ++ drop n ps
before_flagged id zero ps none = refl
before_flagged id (suc n) [] none = refl
before_flagged id (suc n) (p ∷ ps) none =
    ⊎_elim (λ (a : is_of id p ≡ true). let own = rw a at none in absurd (true≢false own))
    (λ (a : is_of id p ≡ false).
    let rest = rw a at none in
    ap (λ z. z ∷ ps) (sym (other id p a)) ∙ ap (λ z. flagged id p ∷ z) (before_flagged id n ps rest))
    (cases_Bool (is_of id p))

abbrev flagged_up_to : ℕ → ℕ → List InFlight → List InFlight
flagged_up_to id i ps = map (flagged id) (take i ps) ++ drop i ps

not_yet : (id : ℕ) (ps : List InFlight) (i : ℕ) → slice_get (flagged_up_to id i ps) i ≡ slice_get ps i
not_yet id [] zero = refl
not_yet id [] (suc i) = refl
not_yet id (p ∷ ps) zero = refl
not_yet id (p ∷ ps) (suc i) = not_yet id ps i

one_more : (id : ℕ) (ps : List InFlight) (i : ℕ) (p : InFlight) → slice_get ps i ≡ Some p
    → slice_set (flagged_up_to id i ps) i (flagged id p) ≡ flagged_up_to id (suc i) ps
one_more id [] i p e = absurd (cc)
one_more id (q ∷ ps) zero p e =
    let same : q ≡ p = cc in
    rw (← same) refl
one_more id (q ∷ ps) (suc i) p e = ap (λ z. flagged id q ∷ z) (one_more id ps i p e)

pub flagged_on : (id i : ℕ) (ps qs rs : List InFlight) → i < length ps
    → qs ≡ map (flagged id) (take i ps) ++ drop i ps → rs ≡ flagged_at id (slice_get qs i) i qs
    → rs ≡ map (flagged id) (take (i + 1) ps) ++ drop (i + 1) ps
flagged_on id i ps qs rs lt so_far made = at (slice_get ps i) refl where
  at : (p : Option InFlight) → slice_get ps i ≡ p → rs ≡ flagged_up_to id (i + 1) ps
  at None e = absurd (no_gap ps i lt e)
  at (Some p) e =
      let here : slice_get qs i ≡ Some p = ap (λ z. slice_get z i) so_far ∙ not_yet id ps i ∙ e in
      let next : i + 1 ≡ suc i = omega arith in
      made ∙ ap (λ m. flagged_at id m i qs) here ∙ ap (λ z. slice_set z i (flagged id p)) so_far
      ∙ one_more id ps i p e ∙ ap (λ k. flagged_up_to id k ps) (sym next)

both_flagged : (id n : ℕ) (ps : List InFlight) → map (flagged id) (take n ps) ++ map (flagged id) (drop n ps)
    ≡ map (flagged id) ps
both_flagged id zero ps = refl
both_flagged id (suc n) [] = refl
both_flagged id (suc n) (p ∷ ps) = ap (λ z. flagged id p ∷ z) (both_flagged id n ps)

-- behind a piece of another message there is none of it
pub past_flagged : (id first i : ℕ) (ps qs rs : List InFlight) {b : Bool} → NeverFall 0 (piece_ids ps)
    → holds_at (is_of id) (slice_get ps first) ≡ true → first ≤ i → i < length ps
    → qs ≡ map (flagged id) (take i ps) ++ drop i ps → b ≡ holds_at (is_of id) (slice_get qs i) → b ≡ false
    → rs ≡ flagged_at id (slice_get qs i) i qs → rs ≡ map (flagged id) ps
past_flagged id first i ps qs rs f own le lt so_far is none made =
    let q = is_there (is_of id) (slice_get ps first) own in
    by q.0 q.1 (same_ids id q.0.message.message_id q.2) (slice_get ps i) refl
  where
    by : (q : InFlight) → slice_get ps first ≡ Some q → q.message.message_id ≡ id → (o : Option InFlight)
        → slice_get ps i ≡ o → rs ≡ map (flagged id) ps
    by q there of None here = absurd (no_gap ps i lt here)
    by q there of (Some p) here =
        let at : holds_at (is_of id) (slice_get qs i) ≡ is_of id p =
        ap (λ z. holds_at (is_of id) (slice_get z i)) so_far ∙ ap (holds_at (is_of id)) (not_yet id ps i ∙ here) in
        let least = later_at 0 first i ps q p le f there here in
        let differs = apart id p.message.message_id (sym at ∙ sym is ∙ none) in
        let past = others_past id 0 i ps p f here (omega (arith, least, of, differs)) in
        let next : i + 1 ≡ suc i = omega arith in
        flagged_on id i ps qs rs lt so_far made ∙ ap (λ k. flagged_up_to id k ps) next
        ∙ ap (λ z. map (flagged id) (take (suc i) ps) ++ z) (sym past) ∙ both_flagged id (suc i) ps

-- a piece still stands where it stood once a marker went behind it

still_there : (ps : List InFlight) (q : InFlight) (i : ℕ) (p : InFlight) → slice_get ps i ≡ Some p
    → slice_get (ps ++ q ∷ []) i ≡ Some p
still_there [] q i p e = absurd (cc)
still_there (x ∷ ps) q zero p e = e
still_there (x ∷ ps) q (suc i) p e = still_there ps q i p e

tail_there : (ms : List Waiting) (q : Outbound) (id i : ℕ) (p : InFlight) → slice_get q.in_flight i ≡ Some p
    → slice_get (tail_dropped_from ms q id).0.in_flight i ≡ Some p
tail_there [] q id i p e = e
tail_there (m ∷ ms) q id i p e =
    ⊎_elim (λ (a : (m.message.message_id == id) ≡ true). rw a (still_there q.in_flight (marker_of m.message) i p e))
    (λ (a : (m.message.message_id == id) ≡ false). rw a e)
    (cases_Bool (m.message.message_id == id))

pub own_there : {q1 : Outbound} {tail : ℕ} (q : Outbound) (i : ℕ) (p : InFlight) → Some p ≡ slice_get q.in_flight i
    → tail_dropped q p.message.message_id ≡ (q1, tail)
    → holds_at (is_of p.message.message_id) (slice_get q1.in_flight i) ≡ true
own_there {q1} q i p here dropped =
    let same : (tail_dropped q p.message.message_id).0 ≡ q1 = ap (λ (z : Outbound × ℕ). z.0) dropped in
    let there : slice_get q1.in_flight i ≡ Some p =
    ap (λ (z : Outbound). slice_get z.in_flight i) (sym same)
    ∙ tail_there q.pending q p.message.message_id i p (sym here) in
    let own : (p.message.message_id == p.message.message_id) ≡ true = grind (arith, nat_tests) in
    rw there own
