use Rattle.std.specs.Prelude.{ℕ, Bool, List}
use Rattle.sctp_outbound_queue.specs.declared.message.Attributes.{Attributes}

-- a message that waits to be sent, or the rest of one
pub record Waiting : Type 0 where
  pub message : Attributes
  -- a piece of it was sent, so the next one is not its first
  pub begun : Bool
  -- the piece that is sent next
  pub user_data : List ℕ
  -- the pieces behind that one, in their order
  pub rest : List (List ℕ)
