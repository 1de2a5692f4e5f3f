-- What a stop of a stream that an association lent leaves of the association, and of its driver.
use Rattle.std.proofs.Common.{◌≡◌, ap, ◌∙◌, ℕ, List, Result, Ok, Err, OnOk}
use Rattle.sctp_wire_types.specs.declared.error.Error.{Error}
use Rattle.sctp_assoc.specs.Calls.{stopped}
use Rattle.sctp_assoc.specs.Shown.{Shown}
use Rattle.sctp_driver.specs.Driving.{Driving, KeptMessage}
use Rattle.sctp_driver.specs.Messages.{without_message_of}
use Rattle.sctp_driver.specs.Streams.{stream_closed, with_stopped}

-- x is what the call left of the stream's association a, and y what is left of the one that lent it, b
module _ {x y a b : Shown} {i j : ℕ} (same : a ≡ b) (id : i ≡ j) (left : y ≡ x) where
  pub stopped_on : (answer : Result Unit Error) → OnOk answer (x ≡ stopped a i) → OnOk answer (y ≡ stopped b j)
  stopped_on (Ok done) is = left ∙ is ∙ ap (λ (z : Shown). stopped z i) same ∙ ap (λ (k : ℕ). stopped b k) id
  stopped_on (Err e) is = tt

  pub closed_on : (answer : Result Unit Error) → OnOk answer (x ≡ stream_closed a i)
      → OnOk answer (y ≡ stream_closed b j)
  closed_on (Ok done) is =
      left ∙ is ∙ ap (λ (z : Shown). stream_closed z i) same ∙ ap (λ (k : ℕ). stream_closed b k) id
  closed_on (Err e) is = tt

-- the association became another one, and the message of the stream that waits for a buffer was dropped
pub left_beside : (d : Driving) (id : ℕ) {a b : Shown} {kept : List KeptMessage} → b ≡ a
    → kept ≡ without_message_of id d.kept → record d { association = b; kept = kept } ≡ with_stopped d id a
left_beside d id {a} {b} {kept} is dropped =
    ap (λ (z : Shown). record d { association = z; kept = kept }) is
    ∙ ap (λ (k : List KeptMessage). record d { association = a; kept = k }) dropped
