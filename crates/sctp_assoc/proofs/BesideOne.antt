-- Where the end of one stream's span leaves all other streams as they are, its act can be done.
use Rattle.std.proofs.Common.{◌≡◌, refl, ℕ, eqb, is_eq, nat_cmp, false, [], ◌∷◌}
use Rattle.std.proofs.lemmas.Bool.{or_parts}
use Rattle.sctp_streams.specs.Stream.{StreamView}
use Rattle.sctp_streams.specs.Streams.{StreamMap, changed_stream}
use Rattle.sctp_streams.proofs.LowMarks.{found_of}
use Rattle.sctp_model.specs.Packets.{mem}
use Rattle.sctp_reset_requests.specs.Ids.{has_id}
use Rattle.sctp_resets.specs.Concerned.{StayBeside}
use Rattle.sctp_resets.proofs.StreamsBeside.{changed_apart}
use Rattle.sctp_directions.specs.Acts.{Act, CanAll, History}
use Rattle.sctp_assoc.specs.Leads.{parts}
use Rattle.sctp_assoc.specs.Shown.{Shown}

not_found : (t id : ℕ) → mem t (id ∷ []) ≡ false → has_id t (id ∷ []) ≡ false
not_found t id other = let apart = (or_parts (eqb id t) false other).0 in rw (found_of id t, apart) refl

-- the span of a stream can end, with streams behind it of which the others stay
pub can_end : (a : Shown) (id : ℕ) (m : StreamMap) (h : History) → StayBeside (id ∷ []) a.streams m
    → CanAll (Act.SpansEnded (id ∷ []) m ∷ []) (parts a h)
can_end a id m h stay = (λ t other. stay t (not_found t id other), tt)

-- a change of a stream leaves the others
pub change_stays : (f : StreamView → StreamView) (m : StreamMap) (id : ℕ)
    → StayBeside (id ∷ []) m (changed_stream f m id)
change_stays f m id t other = changed_apart t id (or_parts (is_eq (nat_cmp t id)) false other).0 f m
