-- What answered probes leave as it was.
use Rattle.std.proofs.Common.{refl, ℕ, Bool, true, false, [], ◌∷◌}
use Rattle.sctp_parts.specs.declared.timer.Timer.TheVariants as names
use Rattle.sctp_parts.specs.Timers.{without_retries}
use Rattle.sctp_outbound.specs.Sender.{probe_marked}
use Rattle.sctp_directions.specs.Acts.{Act, History}
use Rattle.sctp_assoc.specs.Happened.{marks_if}
use Rattle.sctp_assoc.specs.Leads.{Binds, Leads}
use Rattle.sctp_assoc.specs.Probes.{answers_probes, forgiven_if, marked_if, opens_window, probes_answered}
use Rattle.sctp_assoc.specs.Shown.{Shown}
use Rattle.sctp_assoc.proofs.Leading.{leads_by, leads_nowhere, leads_on, past_itself}

-- what holds still once the retries of T3-rtx are forgotten, and once a probe is marked
module _ (P : Shown → Type 0)
    (forgiven : (a : Shown) → P a → P (record a { timers = without_retries names.T3RTX a.timers }))
    (marked : (a : Shown) → P a → P (record a { sender = probe_marked a.sender }))
  where
    forgiven_keeps : (c : Bool) (a : Shown) → P a → P (forgiven_if c a)
    forgiven_keeps true a p = forgiven a p
    forgiven_keeps false a p = p

    marked_keeps : (c : Bool) (a : Shown) → P a → P (marked_if c a)
    marked_keeps true a p = marked a p
    marked_keeps false a p = p

    pub probes_keep : (probing : Bool) (window : ℕ) (a : Shown) → P a → P (probes_answered probing window a)
    unfolding probes_answered
    probes_keep probing window a p =
        marked_keeps (opens_window probing window) (forgiven_if (answers_probes a.profile window) a)
        (forgiven_keeps (answers_probes a.profile window) a p)

forgiven_leads : (c : Bool) (a : Shown) (h : History) → Binds a h → Leads [] a h (forgiven_if c a) h
forgiven_leads true a h binds =
    leads_nowhere a (record a { timers = without_retries names.T3RTX a.timers }) h binds refl refl
forgiven_leads false a h binds = leads_nowhere a a h binds refl refl

marked_leads : (c : Bool) (a : Shown) (h : History) → Binds a h → Leads (marks_if c) a h (marked_if c a) h
marked_leads true a h binds =
    leads_by (Act.Marked ∷ []) a (marked_if true a) h binds (tt, tt) refl refl (past_itself h)
marked_leads false a h binds = leads_nowhere a a h binds refl refl

-- they mark what is in flight where the window opens
pub probes_lead : (probing : Bool) (window : ℕ) (a : Shown) (h : History) → Binds a h
    → Leads (marks_if (opens_window probing window)) a h (probes_answered probing window a) h
unfolding probes_answered
probes_lead probing window a h binds =
    let one = forgiven_leads (answers_probes a.profile window) a h binds in
    leads_on [] (marks_if (opens_window probing window)) one
    (marked_leads (opens_window probing window) (forgiven_if (answers_probes a.profile window) a) h one.binds)
