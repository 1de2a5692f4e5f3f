-- What callers see of a pair with a channel.
use Rattle.std.specs.Prelude.{ℕ}
use Rattle.sctp_steps.specs.declared.step.Side2.{Side2}
use Rattle.sctp_steps.specs.declared.step.Side2.TheVariants as sides
use Rattle.sctp_steps.specs.Ends.{Ends}
use Rattle.channel_pair.specs.declared.seat.Seat.{Seat}

-- the pair, the channel's stream, and what each side has of the channel
pub record Shape : Type 0 where
  pub pair : Ends
  pub id : ℕ
  pub a : Seat
  pub b : Seat

abbrev pub seat_of : Side2 → Shape → Seat
seat_of sides.A p = p.a
seat_of sides.B p = p.b
