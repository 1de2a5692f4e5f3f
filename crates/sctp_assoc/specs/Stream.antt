-- A stream that an association lends, and how the association comes back.
use Rattle.std.specs.Prelude.{◌≡◌, ℕ, Option, Result}
use Rattle.std.specs.Borrow.{MutBor, Fml, GName, RestsIfErr, RestsIfNone}
use Rattle.sctp_assoc.specs.declared.stream.Stream.{Stream}
use Rattle.sctp_assoc.specs.Shown.{Shown}
use Rattle.sctp_assoc.specs.contracts.association.Association.{the_row}

-- the association that a stream borrows, as it stands
abbrev pub lent : Stream → Shown
lent s = s.association.now

-- the loan by which a stream borrows it
abbrev pub lender : Stream → GName
lender s = s.association.ghost_name

abbrev pub id_of : Stream → ℕ
id_of s = s.id

-- where no stream was lent the association ends as it was
abbrev pub rests_if_refused : {E : Type 0} → MutBor Shown → Result Stream E → Fml
rests_if_refused a r = RestsIfErr the_row a lender r (λ n. n ≡ a.now)

-- the same where the answer is an `Option`
abbrev pub rests_if_none : MutBor Shown → Option Stream → Fml
rests_if_none a r = RestsIfNone the_row a lender r (λ n. n ≡ a.now)
