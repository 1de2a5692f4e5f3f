-- Messages of which nothing was sent are dropped one after another.
use Rattle.std.proofs.Common.{◌≡◌, ℕ, zero, suc, ◌+◌, ◌-◌, ◌<◌, ◌≤◌, false, is_some, Option}
use Rattle.std.proofs.Common.{Some}
use Rattle.std.proofs.Common.{None, length, refl, ap, sym, ◌∙◌, arith}
use Rattle.std.proofs.lemmas.Bool.{false≢true}
use Rattle.std.specs.Prelude.{find}
use Rattle.std.specs.Option.{option_map}
use Rattle.sctp_outbound_queue.specs.Waiting.{Waiting}
use Rattle.sctp_outbound_queue.specs.Message.{is_expired_unsent, message_bytes}
use Rattle.sctp_outbound_queue.specs.Outbound.{released}
use Rattle.sctp_outbound_queue.specs.Expiry.{after_expiry}
use Rattle.sctp_outbound_queue.proofs.ExpiredUnsent.{without_none}
use Rattle.sctp_streams.specs.Streams.{StreamMap}
use Rattle.sctp_outbound.specs.declared.sender.Sender.{Sender}
use Rattle.sctp_outbound.specs.Abandonment.{all_dropped, dropped_first, first_dropped}

none_found : (o : Option Waiting) → is_some (option_map (λ m. released m.message (message_bytes m)) o) ≡ false
    → o ≡ None
none_found None e = refl
none_found (Some m) e = absurd (false≢true (sym e))

-- where no message is expired and unsent nothing is dropped
pub none_dropped : (now : ℕ) (all : Sender × StreamMap) → is_some (after_expiry now all.0.queue).1 ≡ false
    → first_dropped now all ≡ all
unfolding first_dropped
none_dropped now (s, m) none =
    let nothing = none_found (find (is_expired_unsent now) s.queue.pending) none in
    let same = without_none now s.queue.pending nothing in
    rw (nothing, same) refl

pub none_of_any : (n now : ℕ) (all : Sender × StreamMap) → is_some (after_expiry now all.0.queue).1 ≡ false
    → dropped_first n now all ≡ all
none_of_any zero now all none = refl
none_of_any (suc n) now all none =
    ap (dropped_first n now) (none_dropped now all none) ∙ none_of_any n now all none

-- what is left to be dropped of so many, after some of them, is what was to be dropped at the start
pub drops_from : (n now : ℕ) (all : Sender × StreamMap) → dropped_first (n - 0) now all ≡ dropped_first n now all
drops_from n now all =
    let whole : n - 0 ≡ n = omega arith in
    ap (λ k. dropped_first k now all) whole

-- After i of n steps, that is what is left.
module _ (n i now : ℕ) (before all : Sender × StreamMap)
    (left : dropped_first (n - i) now all ≡ dropped_first n now before) where
  pub drops_more : {then : Sender × StreamMap} → i < n → first_dropped now all ≡ then
      → dropped_first (n - (i + 1)) now then ≡ dropped_first n now before
  drops_more below is =
      let one : n - i ≡ suc (n - (i + 1)) = omega (arith, below) in
      ap (dropped_first (n - (i + 1)) now) (sym is) ∙ ap (λ k. dropped_first k now all) (sym one) ∙ left

  pub drop_ends_early : {then : Sender × StreamMap} → n ≡ length before.0.queue.pending
      → is_some (after_expiry now all.0.queue).1 ≡ false → first_dropped now all ≡ then
      → all_dropped now before ≡ then
  drop_ends_early count none is =
      ap (λ k. dropped_first k now before) (sym count)
      ∙ sym left
      ∙ none_of_any (n - i) now all none
      ∙ sym (none_dropped now all none)
      ∙ is

  pub drop_ends_late : n ≡ length before.0.queue.pending → n ≤ i → all_dropped now before ≡ all
  drop_ends_late count past =
      let over : n - i ≡ 0 = omega (arith, past) in
      ap (λ k. dropped_first k now before) (sym count) ∙ sym left ∙ ap (λ k. dropped_first k now all) over
