-- A pair with a channel on whose stream nothing was written and read fits a world in which nothing was sent and received.
use Rattle.std.proofs.Common.{◌≡◌, refl, sym, subst, ℕ, false, List, []}
use Rattle.sctp_model.specs.Safe.{Letter}
use Rattle.sctp_steps.specs.declared.step.Side2.{Side2}
use Rattle.sctp_steps.specs.declared.step.Side2.TheVariants as sides
use Rattle.sctp_steps.specs.Ends.{Ends}
use Rattle.sctp_pair.specs.Fits.{Fits}
use Rattle.sctp_pair.specs.World.{World, empty_world}
use Rattle.channel_pair.specs.declared.seat.Seat.TheVariants as seats
use Rattle.channel_pair.specs.ChannelWorld.{FitsChannel, GotBy, HasNothingOn, IsKeptFrom, WroteBy, begun, may_send_from}
use Rattle.channel_pair.specs.Letters.{AreControls, letters_in, letters_out}
use Rattle.channel_pair.specs.Shapes.{Shape, seat_of}

-- neither side has a channel
abbrev new_shape : Ends → ℕ → Shape
new_shape pair id = record {
  pair = pair;
  id = id;
  a = seats.Vacant false;
  b = seats.Vacant false;
}

wrote_none : (out : List Letter) → out ≡ [] → WroteBy false out []
wrote_none out none = (subst AreControls (sym none) tt, refl)

module _ (id : ℕ) (pair : Ends) (w : World) (nothing : HasNothingOn id w) where
  wrote_at : (x : Side2) → WroteBy (may_send_from (seat_of x (new_shape pair id))) (letters_out x id w) []
  wrote_at sides.A = wrote_none (letters_out sides.A id w) (nothing.out sides.A)
  wrote_at sides.B = wrote_none (letters_out sides.B id w) (nothing.out sides.B)

  got_at : (x : Side2) → GotBy (seat_of x (new_shape pair id)) (letters_in x id w) []
  got_at sides.A = (nothing.ins sides.A, refl)
  got_at sides.B = (nothing.ins sides.B, refl)

pub new_fits : (pair : Ends) (id : ℕ) (w : World) → Fits pair w → HasNothingOn id w
    → FitsChannel (new_shape pair id) (begun w)
new_fits pair id w fits nothing = record {
  fits = fits;
  kept = nothing.kept;
  wrote = wrote_at id pair w nothing;
  got = got_at id pair w nothing;
}

-- In the empty world nothing was written and read on any stream.
module _ (id : ℕ) (pair : Ends) (initial_a initial_b size_a size_b : ℕ) where
  kept_at : (x : Side2) → IsKeptFrom x id (empty_world pair initial_a initial_b size_a size_b)
  kept_at sides.A = record { span = refl; tight = refl; kept = tt }
  kept_at sides.B = record { span = refl; tight = refl; kept = tt }

  none_out : (x : Side2) → letters_out x id (empty_world pair initial_a initial_b size_a size_b) ≡ []
  none_out sides.A = refl
  none_out sides.B = refl

  none_in : (x : Side2) → letters_in x id (empty_world pair initial_a initial_b size_a size_b) ≡ []
  none_in sides.A = refl
  none_in sides.B = refl

pub empty_fits : (pair : Ends) (id initial_a initial_b size_a size_b : ℕ)
    → Fits pair (empty_world pair initial_a initial_b size_a size_b)
    → FitsChannel (new_shape pair id) (begun (empty_world pair initial_a initial_b size_a size_b))
empty_fits pair id initial_a initial_b size_a size_b fits =
    new_fits pair id (empty_world pair initial_a initial_b size_a size_b) fits (record {
      kept = kept_at id pair initial_a initial_b size_a size_b;
      out = none_out id pair initial_a initial_b size_a size_b;
      ins = none_in id pair initial_a initial_b size_a size_b;
    })
