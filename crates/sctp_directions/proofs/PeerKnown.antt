-- The peer's initial TSN becomes known where nothing came: the direction that comes sees nothing of it.
use Rattle.std.proofs.Common.{◌≡◌, refl, sym, subst, ℕ, ◌<◌, ◌≤◌, arith, true, eqb, List, [], ◌∷◌, length}
use Rattle.std.proofs.lemmas.Bool.{eq-eqb, or_left}
use Rattle.sctp_model.specs.Messages.{Place}
use Rattle.sctp_model.specs.Packets.{mem}
use Rattle.sctp_model.specs.Machine.{Direction}
use Rattle.sctp_model.specs.Invariants.{Invariant}
use Rattle.sctp_fit.specs.Incoming.{FitsIncoming}
use Rattle.sctp_fit.proofs.OtherEnd as fit
use Rattle.sctp_directions.specs.Acts.{receiving}
use Rattle.sctp_directions.specs.Laws.{PeerKnownIsNoEvent}

-- a list of which nothing is a member is empty
none_in : (xs : List ℕ) → ((o : ℕ) → mem o xs ≡ true → ⊥) → xs ≡ []
none_in [] none = refl
none_in (x ∷ xs) none = absurd (none x (or_left (eqb x x) (mem x xs) (eq-eqb x x refl)))

-- where no offset was assigned, nothing was taken in
nothing_taken : (w : Direction) → w.sender.plan.places ≡ [] → Invariant w → w.receiver.taken ≡ []
nothing_taken w e inv = none_in w.receiver.taken (λ o m.
    let l : o < 0 = subst (λ (ps : List Place). o < length ps) e (inv.taken o m).0 in omega arith)

-- and nothing was passed over
nothing_passed : (w : Direction) → w.sender.plan.places ≡ [] → Invariant w → w.receiver.passed ≡ 0
nothing_passed w e inv =
    let l : w.receiver.passed ≤ 0 =
    subst (λ (ps : List Place). w.receiver.passed ≤ length ps) e inv.passed in omega arith

-- where no offset was assigned, the peer's initial TSN may become known
pub peer_known_is_no_event : PeerKnownIsNoEvent
peer_known_is_no_event p t w none inv fits =
    let met : FitsIncoming (record (receiving p) { peer = t }) w =
    fit.initial_tsns_are_no_events (receiving p) t w none inv fits in
    record {
      is_open = met.is_open;
      taken = sym (nothing_taken w none inv);
      passed = sym (nothing_passed w none inv);
      queues = met.queues;
    }
