-- What failed stays where a request of the peer ends resets that this side began.
use Rattle.std.proofs.Common.{◌≡◌, refl, ◌∙◌, ℕ, Bool, true, false, if◌then◌else◌, List, [], ◌∷◌}
use Rattle.sctp_streams.specs.declared.event.Event.{Event}
use Rattle.sctp_reset_requests.specs.Debts.{DebtsView, entry_at, is_owed, one_end_less, paid}
use Rattle.sctp_reset_requests.specs.Own.{OwnView, ends_here}
use Rattle.sctp_resets.specs.Performing.{Performing, answered_in, each_end_told, end_told, paid_told, with_ends}
use Rattle.sctp_course_sides.proofs.SenderRequests.{changed_failed}

-- one end less is owed
paid_failed : (d : DebtsView) (i : ℕ) → (paid d i).failed ≡ d.failed
paid_failed d i = changed_failed (entry_at d i) d i one_end_less

-- which is told where it was owed
told_failed : (x : DebtsView × Bool) (told : List Event) (i : ℕ) → (paid_told x told i).0.failed ≡ x.0.failed
told_failed (d, true) told i = refl
told_failed (d, false) told i = refl

end_failed_if : (ends : Bool) (d : DebtsView) (told : List Event) (i : ℕ)
    → (if◌then◌else◌ {A = DebtsView × List Event} ends (paid_told (paid d i, is_owed d i) told i) (d, told)).0.failed
    ≡ d.failed
end_failed_if true d told i = told_failed (paid d i, is_owed d i) told i ∙ paid_failed d i
end_failed_if false d told i = refl

end_failed : (o : OwnView) (t : DebtsView × List Event) (i : ℕ) → (end_told o t i).0.failed ≡ t.0.failed
end_failed o (d, told) i = end_failed_if (ends_here o i) d told i

each_end_failed : (o : OwnView) (named : List ℕ) (t : DebtsView × List Event)
    → (each_end_told o named t).0.failed ≡ t.0.failed
each_end_failed o [] t = refl
each_end_failed o (i ∷ is) t = each_end_failed o is (end_told o t i) ∙ end_failed o t i

-- as the request is performed

with_ends_failed : (t : DebtsView × List Event) (p : Performing) → (with_ends t p).debts.failed ≡ t.0.failed
with_ends_failed (d, told) p = refl

pub answered_failed : (o : OwnView) (named : List ℕ) (y : Performing × List ℕ)
    → (answered_in o named y).0.debts.failed ≡ y.0.debts.failed
answered_failed o named (p, retired) =
    with_ends_failed (each_end_told o named (p.debts, p.events)) p
    ∙ each_end_failed o named (p.debts, p.events)
