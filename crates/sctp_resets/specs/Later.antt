-- The streams of which DATA waits that is past their newest boundary, while a request of the peer is performed.
use Rattle.std.specs.Prelude.{ℕ, Option, IfSome}
use Rattle.std.specs.BTreeSet.{BTreeSet}
use Rattle.sctp_generations.specs.Generations.{GenerationsView}
use Rattle.sctp_generations.specs.Later.{AreWithLater}

-- where a set of streams is given, it has those with such DATA at or below a TSN, and no others
abbrev pub AreRight : GenerationsView → ℕ → Option (BTreeSet ℕ) → Type 0
AreRight g upto later = IfSome later (λ ids. AreWithLater g.retiring upto g.deferred ids)
