-- Which timers take memory, from the steps by which they are looked at.
use Rattle.std.proofs.Common.{◌≡◌, refl, ◌∙◌, ap, subst, ℕ, Bool, true, false, ◌||◌}
use Rattle.sctp_assoc.specs.Calls.{after_t3}
use Rattle.sctp_assoc.specs.Handshake.{after_t1_cookie, after_t1_init}
use Rattle.sctp_assoc.specs.Shown.{Shown}
use Rattle.sctp_assoc.specs.Shutdown.{after_t2_shutdown}
use Rattle.sctp_assoc.specs.Timeouts.{after_sending_timers, gives_requests_up, handshake_goes_out_again}
use Rattle.sctp_assoc.specs.Timeouts.{timeouts_take_memory}

either : (b c : Bool) → c ≡ true → (b || c) ≡ true
either true c e = refl
either false c e = e

-- requests are given up behind the timers of the handshake, of a shutdown and of DATA
pub giving_up_takes : (a b c d e : Shown) (now : ℕ) → b ≡ after_t1_init a now → c ≡ after_t1_cookie b now
    → d ≡ after_t2_shutdown c now → e ≡ after_t3 d now → gives_requests_up e now ≡ true
    → timeouts_take_memory a now ≡ true
giving_up_takes a b c d e now first second third fourth up =
    let ends : e ≡ after_sending_timers a now =
    fourth
    ∙ ap (λ x. after_t3 x now)
    (third ∙ ap (λ x. after_t2_shutdown x now) (second ∙ ap (λ x. after_t1_cookie x now) first)) in
    either (handshake_goes_out_again a now) (gives_requests_up (after_sending_timers a now) now)
    (subst (λ (x : Shown). gives_requests_up x now ≡ true) ends up)
