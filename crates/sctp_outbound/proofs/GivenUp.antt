-- Messages are given up one after another.
use Rattle.std.proofs.Common.{◌≡◌, ℕ, zero, suc, ◌+◌, ◌-◌, ◌<◌, ◌≤◌, Bool, true, false, is_some, nat_lt, List, [], ◌∷◌}
use Rattle.std.proofs.Common.{Option, Some, None, length, drop, slice_get, refl, ap, sym, ◌∙◌, ⊎_elim, arith, ◌||◌}
use Rattle.std.proofs.Common.{◌&&◌, not}
use Rattle.std.specs.List.{list_any}
use Rattle.std.proofs.lemmas.Bool.{cases_Bool, lt-ltb, ltb-true, true≢false}
use Rattle.std.proofs.lemmas.List.{drop_all}
use Rattle.sctp_outbound_queue.specs.declared.message.InFlight.{InFlight}
use Rattle.sctp_outbound_queue.specs.declared.message.Retransmission.{Retransmission}
use Rattle.sctp_outbound_queue.specs.Waiting.{Waiting}
use Rattle.sctp_outbound_queue.specs.Outbound.{Outbound, abandoned_in_front_of}
use Rattle.sctp_outbound_queue.specs.Message.{is_expired, is_of}
use Rattle.sctp_outbound_queue.specs.Expiry.{after_tail_expiry_of}
use Rattle.sctp_streams.specs.Streams.{StreamMap}
use Rattle.sctp_outbound.specs.declared.abandonment.Reason.{Reason}
use Rattle.sctp_outbound.specs.declared.abandonment.Reason.TheVariants as reasons
use Rattle.sctp_outbound.specs.declared.abandonment.Reached.{Reached}
use Rattle.sctp_outbound.specs.declared.sender.Sender.{Sender}
use Rattle.sctp_outbound.specs.Abandonment.{abandoned_if, all_given_up, given_up_first, is_pass_due, next_given_up}
use Rattle.sctp_outbound.specs.Abandonment.{asked_past, has_late_tail, reached_at, spent_from, spent_index}
use Rattle.sctp_outbound.specs.Abandonment.{tail_given_up}
use Rattle.sctp_outbound.proofs.SenderSteps.{drop_get}

-- so many messages were abandoned, and those that are given up then are the others of all
pub record GivesUpOn (why : Reason) (n i : ℕ) (before now : Sender × StreamMap) : Type 0 where
  pub left : given_up_first (n - i) why now ≡ given_up_first n why before
  pub none : i ≡ 0 → now.0 ≡ before.0
  pub some : 0 < i → is_some (next_given_up why before.0) ≡ true

pub gives_up_from : (why : Reason) (n : ℕ) (all : Sender × StreamMap) → GivesUpOn why n 0 all all
gives_up_from why n all =
    let whole : n - 0 ≡ n = omega arith in
    record {
      left = ap (λ k. given_up_first k why all) whole;
      none = λ z. refl;
      some = λ l. absurd (omega (arith, l));
    }

-- what is given up then was given up at the start too
pub some_more : (why : Reason) (n i : ℕ) (before all : Sender × StreamMap) → GivesUpOn why n i before all
    → is_some (next_given_up why all.0) ≡ true → is_some (next_given_up why before.0) ≡ true
some_more why n zero before all g some =
    ap (λ (s : Sender). is_some (next_given_up why s)) (sym (g.none refl)) ∙ some
some_more why n (suc i) before all g some = g.some (omega arith)

none_of : (o : Option ℕ) → is_some o ≡ false → o ≡ None
none_of None e = refl
none_of (Some index) e = absurd (true≢false e)

-- where none is given up, none of any number is
pub none_given_up : (why : Reason) (n : ℕ) (all : Sender × StreamMap) → next_given_up why all.0 ≡ None
    → given_up_first n why all ≡ all
none_given_up why zero all none = refl
none_given_up why (suc n) all none = rw none (none_given_up why n all none)

-- so many messages were given up
module _ {why : Reason} {n i : ℕ} {before all : Sender × StreamMap} (g : GivesUpOn why n i before all) where
  -- one more is abandoned
  pub gives_up_more : {then : Sender × StreamMap} → i < n → is_some (next_given_up why all.0) ≡ true
      → abandoned_if (next_given_up why all.0) all ≡ then → GivesUpOn why n (i + 1) before then
  gives_up_more below some is =
      let one : n - i ≡ suc (n - (i + 1)) = omega (arith, below) in
      record {
        left =
            ap (given_up_first (n - (i + 1)) why) (sym is)
            ∙ ap (λ k. given_up_first k why all) (sym one)
            ∙ g.left;
        none = λ z. absurd (omega (arith, z));
        some = λ l. some_more why n i before all g some;
      }

  pub ends_early : {then : Sender × StreamMap} → n ≡ length before.0.queue.in_flight
      → is_some (next_given_up why all.0) ≡ false → abandoned_if (next_given_up why all.0) all ≡ then
      → all_given_up why before ≡ then
  ends_early count e is =
      let none = none_of (next_given_up why all.0) e in
      ap (λ k. given_up_first k why before) (sym count)
      ∙ sym g.left
      ∙ none_given_up why (n - i) all none
      ∙ ap (λ o. abandoned_if o all) (sym none)
      ∙ is

  pub ends_late : n ≡ length before.0.queue.in_flight → n ≤ i → all_given_up why before ≡ all
  ends_late count past =
      let over : n - i ≡ 0 = omega (arith, past) in
      ap (λ k. given_up_first k why before) (sym count) ∙ sym g.left ∙ ap (λ k. given_up_first k why all) over

-- the answer of one that ended early
pub any_early : (why : Reason) (n i : ℕ) (before all : Sender × StreamMap) → GivesUpOn why n i before all
    → is_some (next_given_up why all.0) ≡ false → nat_lt 0 i ≡ is_some (next_given_up why before.0)
any_early why n zero before all g none =
    sym (ap (λ (s : Sender). is_some (next_given_up why s)) (sym (g.none refl)) ∙ none)
any_early why n (suc i) before all g none = lt-ltb 0 (suc i) (omega arith) ∙ sym (g.some (omega arith))

nothing_spent : (k : Retransmission) (s : Sender) (xs : List InFlight) → s.queue.in_flight ≡ xs → length xs ≡ 0
    → next_given_up (reasons.Spent k) s ≡ None
nothing_spent k s [] e none =
    ⊎_elim
    (λ (due : is_pass_due k s ≡ true). rw (due, e) refl)
    (λ (due : is_pass_due k s ≡ false). rw due refl)
    (cases_Bool (is_pass_due k s))
nothing_spent k s (x ∷ xs) e none = absurd (omega (arith, none))

nothing_expired : (now : ℕ) (s : Sender) (xs : List InFlight) → s.queue.in_flight ≡ xs → length xs ≡ 0
    → next_given_up (reasons.Expired now) s ≡ None
nothing_expired now s [] e none = rw e refl
nothing_expired now s (x ∷ xs) e none = absurd (omega (arith, none))

-- with nothing in flight nothing is given up
pub nothing_given_up : (why : Reason) (s : Sender) → length s.queue.in_flight ≡ 0 → next_given_up why s ≡ None
nothing_given_up (reasons.Expired now) s none = nothing_expired now s s.queue.in_flight refl none
nothing_given_up (reasons.Spent k) s none = nothing_spent k s s.queue.in_flight refl none

-- the answer of one that went to the end
pub any_late : (why : Reason) (n i : ℕ) (before all : Sender × StreamMap) → GivesUpOn why n i before all
    → n ≡ length before.0.queue.in_flight → n ≤ i → nat_lt 0 n ≡ is_some (next_given_up why before.0)
any_late why zero i before all g count past =
    sym (ap (λ (z : Option ℕ). is_some z) (nothing_given_up why before.0 (sym count)))
any_late why (suc n) i before all g count past = lt-ltb 0 (suc n) (omega arith) ∙ sym (g.some (omega (arith, past)))

-- a pass

pub pass_done : (k : Retransmission) (i left : ℕ) (xs : List InFlight) → length xs ≤ i
    → spent_index k i left (drop i xs) ≡ None
pass_done k i left xs past = rw (drop_all i xs past) refl

pub pass_step : (k : Retransmission) (i left : ℕ) (xs : List InFlight) (p : InFlight) (r : Reached)
    → slice_get xs i ≡ Some p → r ≡ reached_at k left p
    → spent_index k i left (drop i xs) ≡ spent_from r i (λ room. spent_index k (i + 1) room (drop (i + 1) xs))
pass_step k i left xs p r here is = rw (is, drop_get xs i p here) refl

-- a tail

or_false : (a : Bool) → (a || false) ≡ a
or_false true = refl
or_false false = refl

pub lt_same : (n : ℕ) → nat_lt n n ≡ false
lt_same n =
    ⊎_elim
    (λ (less : nat_lt n n ≡ true). absurd (omega (arith, ltb-true n n less)))
    (λ (no : nat_lt n n ≡ false). no)
    (cases_Bool (nat_lt n n))

asked_same : (s : Sender) → asked_past (abandoned_in_front_of s.queue.in_flight) s ≡ s
asked_same s =
    ap (λ z. record s { is_forward_due = z })
    (ap (λ z. s.is_forward_due || z) (lt_same (abandoned_in_front_of s.queue.in_flight)) ∙ or_false s.is_forward_due)

not_late : (a b c : Bool) → (a && b) ≡ false → (a && b && c) ≡ false
not_late true true c e = absurd (true≢false e)
not_late true false c e = refl
not_late false true c e = refl
not_late false false c e = refl

-- the first message that waits is begun and expired
abbrev pub is_late : ℕ → Option Waiting → Bool
is_late now None = false
is_late now (Some m) = m.begun && is_expired now m.message

no_tail : (now : ℕ) (ms : List Waiting) (q : Outbound) → is_late now (slice_get ms 0) ≡ false
    → after_tail_expiry_of ms q now ≡ (q, None)
no_tail now [] q late = refl
no_tail now (m ∷ ms) q late =
    rw (not_late m.begun (is_expired now m.message) (not (list_any (is_of m.message.message_id) q.in_flight)) late) refl

-- where the first message that waits is not begun and expired, no tail is abandoned
pub tail_stays : (now : ℕ) (s : Sender) (m : StreamMap) → is_late now (slice_get s.queue.pending 0) ≡ false
    → tail_given_up now (s, m) ≡ (s, m)
unfolding tail_given_up
tail_stays now s m late =
    rw (no_tail now s.queue.pending s.queue late)
    (ap (λ (z : Sender). let both : Sender × StreamMap = (z, m) in both) (asked_same s))

pub no_late_tail : (now : ℕ) (s : Sender) → is_late now (slice_get s.queue.pending 0) ≡ false
    → has_late_tail now s ≡ false
no_late_tail now s late = rw (no_tail now s.queue.pending s.queue late) refl
