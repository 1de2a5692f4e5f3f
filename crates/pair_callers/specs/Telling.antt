-- What the replies of all steps of a pair tell, run by run.
use Rattle.std.specs.Prelude.{◌≡◌, ℕ, List, ◌++◌, length}
use Rattle.sctp_assoc.specs.declared.call.Reply.{Reply}
use Rattle.sctp_steps.specs.declared.step.Step.{Step}
use Rattle.sctp_pair.specs.Callers.{AcceptFew, CameBy, Made, NothingIsReadBeforeADelivery, ReadsAreFronts}
use Rattle.sctp_pair.specs.Callers.{ReadsWereWritten, StaysFew, tally_of}
use Rattle.sctp_steps.specs.Ends.{Ends}
use Rattle.sctp_steps.specs.Steps.{Runs}

-- The laws of all steps of a pair.
pub record AllHold (ss : List Step) (rs : List Reply) : Type 0 where
  pub front : ReadsAreFronts ss rs
  pub written : ReadsWereWritten ss rs
  pub undelivered : NothingIsReadBeforeADelivery ss rs

-- All steps of a new pair, each side of which has this payload size: each step has its reply, and where each side
-- accepts few pieces in all, the laws hold.
pub record HoldFromNew (size : ℕ) (ss : List Step) (rs : List Reply) : Type 0 where
  pub each : length rs ≡ length ss
  pub hold : AcceptFew size size ss rs → AllHold ss rs

-- Two runs, of which the first one led from p to `between`, and the second one from there to q. Whatever steps led to p
-- before: where few pieces stay unacknowledged in the first run, counted from p, and in the second one, counted from
-- `between`, and few messages unread, the laws hold of all of these steps.
pub record HoldOverTwo (first : List Step) (answers : List Reply) (second : List Step) (replies : List Reply)
    (p q : Ends) : Type 0 where
  pub between : Ends
  pub first_led : Runs first answers p between
  pub second_led : Runs second replies between q
  pub hold : (m : Made) (ss : List Step) (rs : List Reply) → CameBy m ss rs p
      → StaysFew m (tally_of m ss rs) first answers p
      → StaysFew m (tally_of m (ss ++ first) (rs ++ answers)) second replies between
      → AllHold ((ss ++ first) ++ second) ((rs ++ answers) ++ replies)
