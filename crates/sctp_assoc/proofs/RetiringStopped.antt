-- What a stop leaves of a stream that retires, from its parts.
use Rattle.std.proofs.Common.{◌≡◌, ◌∙◌, ap, ℕ, true, Result}
use Rattle.std.specs.Prelude.{OnOk}
use Rattle.std.proofs.lemmas.Result.{on_ok_weaker}
use Rattle.sctp_streams.specs.Streams.{StreamMap}
use Rattle.sctp_resets.specs.Resets.{Beside, is_retiring, stopped_reading}
use Rattle.sctp_assoc.specs.Calls.{stopped_open, without_read_half_of}
use Rattle.sctp_assoc.specs.Resets.{with_beside}
use Rattle.sctp_assoc.specs.Shown.{Shown}

stopped_so : (a : Shown) (id : ℕ) (m : StreamMap) (x : Beside) → m ≡ (without_read_half_of a id).streams
    → is_retiring a.resets id ≡ true → x ≡ stopped_reading id a.resets m a.events
    → with_beside a x ≡ stopped_open a id
stopped_so a id m x streams retires left =
    rw retires
    (ap (with_beside a) (left ∙ ap (λ (n : StreamMap). stopped_reading id a.resets n a.events) streams))

-- v is seen of what is a before the call, and b behind it
pub stopped_on : {T E : Type 0} (result : Result T E) (v a b : Shown) (id : ℕ) (m : StreamMap) (x : Beside) → v ≡ a
    → b ≡ with_beside v x → m ≡ (without_read_half_of v id).streams → is_retiring v.resets id ≡ true
    → OnOk result (x ≡ stopped_reading id v.resets m v.events) → OnOk result (b ≡ stopped_open a id)
stopped_on result v a b id m x same seen streams retires left =
    rw (← same, seen) (on_ok_weaker result (stopped_so v id m x streams retires) left)
