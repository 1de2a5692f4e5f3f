-- Where no stream waits to be reset, no request is made.
use Rattle.std.proofs.Common.{◌≡◌, refl, ap, ◌∙◌, ℕ, Bool, true, false, ◌==◌, ◌||◌, if◌then◌else◌, not, filter, take}
use Rattle.std.proofs.Common.{List, [], ◌∷◌, length, Option, Some, None, is_some}
use Rattle.std.proofs.lemmas.Bool.{eqb-true}
use Rattle.std.proofs.lemmas.List.{nil_from_length}
use Rattle.sctp_outbound_queue.specs.Outbound.{Outbound, has_stream}
use Rattle.sctp_reset_requests.specs.Own.{OwnView, asked, asked_for, most_ids, quiet_ids}
use Rattle.sctp_reset_requests.specs.Peer.{PeerView}

none_waits : (ids : List ℕ) → (length ids == 0) ≡ true → ids ≡ []
none_waits ids e = nil_from_length ids (eqb-true (length ids) 0 e)

none_asked_for : (ids : List ℕ) (last : Option ℕ) (o : OwnView) → ids ≡ [] → asked_for ids last o ≡ (o, false)
none_asked_for ids None o e = refl
none_asked_for ids (Some last) o e = rw e refl

asked_if : (busy : Bool) (ids : List ℕ) (last : Option ℕ) (o : OwnView) → ids ≡ []
    → (if busy then (o, false) else asked_for ids last o) ≡ (o, false)
asked_if true ids last o e = refl
asked_if false ids last o e = none_asked_for ids last o e

pub nothing_asked : (o : OwnView) (q : Outbound) (p : PeerView) → (length o.waiting == 0) ≡ true
    → asked o q p ≡ (o, false)
nothing_asked o q p e =
    asked_if (is_some o.active || not (length o.queued == 0)) (quiet_ids o q) p.last_completed o
    (ap (λ ids. take most_ids (filter (λ id. not (has_stream q id)) ids)) (none_waits o.waiting e))
