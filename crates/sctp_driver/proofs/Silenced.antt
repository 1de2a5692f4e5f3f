-- An association ends where its peer is silent for good, and else does what its timers ask for.
use Rattle.std.proofs.Common.{◌≡◌, refl, ap, ◌∙◌, ℕ, Bool, true, false, Option, Result, Ok, Err, OnOk}
use Rattle.std.specs.Prelude.{◌||◌}
use Rattle.sctp_wire_types.specs.declared.error.Error.{Error}
use Rattle.sctp_streams.specs.declared.event.AssociationError.TheVariants as reasons
use Rattle.sctp_assoc.specs.Closing.{closed_by}
use Rattle.sctp_assoc.specs.Shown.{Shown}
use Rattle.sctp_assoc.specs.Timeouts.{after_timeouts, timeouts_take_memory}
use Rattle.sctp_driver.specs.Driving.{Driving, with_association}
use Rattle.sctp_driver.specs.Silence.{gives_up, timed_out, timing_out_takes_memory}

or_right : (x y : Bool) → y ≡ true → (x || y) ≡ true
or_right true y is = refl
or_right false y is = is

module _ (a b : Shown) (limit : Option ℕ) (now : ℕ) (answer : Result (Unit {0}) Error) where
  pub given_up : gives_up a limit now ≡ true → OnOk answer (b ≡ closed_by a reasons.AssociationClosed)
      → OnOk answer (b ≡ timed_out a limit now)
  given_up gives is = rw gives is

  pub gone_on : gives_up a limit now ≡ false → OnOk answer (b ≡ after_timeouts a now)
      → OnOk answer (b ≡ timed_out a limit now)
  gone_on hears is = rw hears is

module _ (a : Shown) (limit : Option ℕ) (now : ℕ) where
  pub closing_takes_memory : gives_up a limit now ≡ true → timing_out_takes_memory a limit now ≡ true
  closing_takes_memory gives = rw gives refl

  pub timers_take_memory : timeouts_take_memory a now ≡ true → timing_out_takes_memory a limit now ≡ true
  timers_take_memory is = or_right (gives_up a limit now) (timeouts_take_memory a now) is

-- beside its association nothing of a driver changes
pub timed_beside : (r : Result (Unit {0}) Error) (d e : Driving) (b : Shown) (n : ℕ) → d ≡ e
    → OnOk r (b ≡ timed_out d.association d.shutdown_limit n)
    → OnOk r (with_association d b ≡ with_association e (timed_out e.association e.shutdown_limit n))
timed_beside (Ok answer) d e b n same h =
    ap (with_association d) h
    ∙ ap (λ (x : Driving). with_association x (timed_out x.association x.shutdown_limit n)) same
timed_beside (Err error) d e b n same h = tt
