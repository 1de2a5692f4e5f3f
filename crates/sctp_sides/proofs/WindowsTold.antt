-- What a read that gives a message and a stop leave behind them: a receive buffer that is left exhausted closes, and
-- else a window that opened is told.
use Rattle.std.proofs.Common.{◌≡◌, refl, ap, ◌∙◌, ℕ, ◌*◌, Bool, true, false, ◌&&◌, nat_lt, nat_le, if◌then◌else◌}
use Rattle.std.proofs.lemmas.Bool.{and_right}
use Rattle.sctp_wire_types.specs.Config.{is_rfc}
use Rattle.sctp_streams.specs.declared.event.AssociationError.TheVariants as reasons
use Rattle.sctp_assoc.specs.Calls.{credit_in, eased, exchanges_data, tells_window, told_if, twice_open}
use Rattle.sctp_assoc.specs.Closing.{closed_open, exhausted, is_closed_state, is_exhausted}
use Rattle.sctp_assoc.specs.Shown.{Shown}
use Rattle.sctp_sides.proofs.TimersRun.{closed_gives_nothing}

-- no window is told where no DATA may come
no_window_is_told : (before : ℕ) (a : Shown) → exchanges_data a.state ≡ false → tells_window before a ≡ false
unfolding tells_window
no_window_is_told before a e =
    and_right
    (is_rfc a.profile && nat_lt (2 * before) (twice_open a) && nat_le (twice_open a) (2 * credit_in a))
    (exchanges_data a.state) e

-- and none may where an exhausted receive buffer closed
exhausted_exchanges_nothing : (closed : Bool) (b : Shown) → is_closed_state b.state ≡ closed
    → exchanges_data (if closed then b else closed_open b reasons.ReceiveBufferExhausted).state ≡ false
exhausted_exchanges_nothing true b e = (closed_gives_nothing b.state e).0
exhausted_exchanges_nothing false b e = refl

pub exhausted_tells_no_window : (before : ℕ) (b : Shown)
    → told_if (tells_window before (exhausted b)) (exhausted b) ≡ exhausted b
exhausted_tells_no_window before b =
    ap (λ (tells : Bool). told_if tells (exhausted b))
    (no_window_is_told before (exhausted b) (exhausted_exchanges_nothing (is_closed_state b.state) b refl))

-- what is left, by whether the receive buffer is exhausted

abbrev eased_where : Bool → ℕ → Shown → Shown
eased_where exhausts before b =
    told_if (tells_window before (if exhausts then exhausted b else b)) (if exhausts then exhausted b else b)

pub eased_plainly : (before : ℕ) (b : Shown) → is_exhausted b ≡ false
    → eased before b ≡ told_if (tells_window before b) b
eased_plainly before b e = ap (λ (exhausts : Bool). eased_where exhausts before b) e

pub eased_exhausted : (before : ℕ) (b : Shown) → is_exhausted b ≡ true → eased before b ≡ exhausted b
eased_exhausted before b e =
    ap (λ (exhausts : Bool). eased_where exhausts before b) e ∙ exhausted_tells_no_window before b
