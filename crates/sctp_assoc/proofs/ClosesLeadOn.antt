-- A close does to the two directions what its acts say.
use Rattle.std.proofs.Common.{◌≡◌, refl, ℕ, Bool, true, false, List, [], ◌∷◌, if◌then◌else◌}
use Rattle.sctp_streams.specs.declared.event.AssociationError.{AssociationError}
use Rattle.sctp_streams.specs.declared.event.AssociationError.TheVariants as reasons
use Rattle.sctp_directions.specs.Acts.{Act, History}
use Rattle.sctp_assoc.specs.Calls.{eased, tells_window, told_if}
use Rattle.sctp_assoc.specs.Closing.{closed_by, closed_open, exhausted, is_closed_state, is_exhausted, relieved}
use Rattle.sctp_assoc.specs.Happened.{acts_of_close}
use Rattle.sctp_assoc.specs.Leads.{Binds, Leads}
use Rattle.sctp_assoc.specs.Shown.{Shown}
use Rattle.sctp_assoc.proofs.Leading.{leads_beside, leads_by, leads_nowhere, past_itself}

pub close_leads : (closed : Bool) (a : Shown) (reason : AssociationError) (h : History)
    → is_closed_state a.state ≡ closed → Binds a h
    → Leads (acts_of_close a) a h (closed_by a reason) h
close_leads true a reason h e binds = rw e (leads_nowhere a a h binds refl refl)
close_leads false a reason h e binds =
    rw e (leads_by (Act.Ended ∷ []) a (closed_open a reason) h binds (tt, tt) refl refl (past_itself h))

pub exhausted_leads : (a : Shown) (h : History) → Binds a h → Leads (acts_of_close a) a h (exhausted a) h
exhausted_leads a h binds =
    let closes : Leads (acts_of_close a) a h (closed_by a reasons.ReceiveBufferExhausted) h =
    close_leads (is_closed_state a.state) a reasons.ReceiveBufferExhausted h refl binds in
    leads_beside (acts_of_close a) a (closed_by a reasons.ReceiveBufferExhausted) (exhausted a) h h refl refl closes

-- a close where the receive buffer is exhausted
pub relieved_leads : (exhausts : Bool) (b : Shown) (h : History) → Binds b h
    → Leads (if exhausts then acts_of_close b else []) b h (if exhausts then exhausted b else b) h
relieved_leads true b h binds = exhausted_leads b h binds
relieved_leads false b h binds = leads_nowhere b b h binds refl refl

-- a window that opened is told behind what was done
pub told_leads : (tells : Bool) (acts : List Act) (a b : Shown) (h : History) → Leads acts a h b h
    → Leads acts a h (told_if tells b) h
told_leads true acts a b h leads = leads_beside acts a b (told_if true b) h h refl refl leads
told_leads false acts a b h leads = leads

-- the same where that was a stop
pub eased_leads : (before : ℕ) (b : Shown) (h : History) → Binds b h
    → Leads (if is_exhausted b then acts_of_close b else []) b h (eased before b) h
eased_leads before b h binds =
    told_leads (tells_window before (relieved b)) (if is_exhausted b then acts_of_close b else []) b (relieved b) h
    (relieved_leads (is_exhausted b) b h binds)
