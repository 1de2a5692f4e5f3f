-- A read does to the two directions what its acts say.
use Rattle.std.proofs.Common.{◌≡◌, refl, sym, ap, subst, ℕ, Bool, true, false, ◌&&◌, List, [], ◌∷◌, ◌++◌}
use Rattle.std.proofs.Common.{if◌then◌else◌, is_some, Option, Some, None}
use Rattle.sctp_parts.specs.declared.state.AssociationState.{AssociationState}
use Rattle.sctp_receive_queues.specs.Messages.{ReceivedMessage}
use Rattle.sctp_streams.specs.Streams.{StreamMap, read_in}
use Rattle.sctp_resets.specs.Channels.{channels}
use Rattle.sctp_resets.specs.Concerned.{StayBeside}
use Rattle.sctp_resets.specs.Resets.{Resetting, is_retiring, read_out}
use Rattle.sctp_directions.specs.Acts.{Act, History}
use Rattle.sctp_assoc.specs.Calls.{after_read, credit_in, drained_behind, eased, read_from_stream, tells_window}
use Rattle.sctp_assoc.specs.Closing.{exhausted, is_closed_state, is_exhausted, relieved}
use Rattle.sctp_assoc.specs.Happened.{acts_of_close, acts_of_read}
use Rattle.sctp_assoc.specs.Leads.{Binds, Leads, LeadsOn}
use Rattle.sctp_assoc.specs.ResetActs.{acts_of_draining, spans_end_if}
use Rattle.sctp_assoc.specs.Resets.{with_resetting}
use Rattle.sctp_assoc.specs.Shown.{Shown}
use Rattle.sctp_assoc.proofs.BesideOne.{can_end}
use Rattle.sctp_assoc.proofs.ClosesLeadOn.{relieved_leads, told_leads}
use Rattle.sctp_assoc.proofs.Leading.{leads_by, leads_nowhere, leads_on, past_itself}
use Rattle.sctp_resets.proofs.OthersStay.{read_out_stays}
use Rattle.sctp_assoc.proofs.StreamReads.{drained_plainly}

-- a read, before it is seen whether a generation of the stream is read to its end, and whether the receive buffer is
-- left exhausted
pub plain_read_leads : (a : Shown) (id : ℕ) (h : History) → Binds a h
    → Leads (Act.WasRead id ∷ []) a h (record a { streams = (read_in a.streams id).0 }) h
plain_read_leads a id h binds =
    leads_by (Act.WasRead id ∷ []) a (record a { streams = (read_in a.streams id).0 }) h binds (tt, tt) refl refl
    (past_itself h)

-- what a reset makes of the streams that a read left
resetting_leads : (x : Resetting) (a : Shown) (id : ℕ) (streams : StreamMap) (h : History)
    → StayBeside (id ∷ []) streams x.1.streams → Binds (record a { streams = streams }) h
    → Leads (Act.SpansEnded (id ∷ []) (with_resetting a x).streams ∷ []) (record a { streams = streams }) h
    (with_resetting a x) h
resetting_leads (r, c) a id streams h stay binds =
    let b : Shown = record a { streams = streams } in
    leads_by (Act.SpansEnded (id ∷ []) c.streams ∷ []) b (with_resetting a (r, c)) h binds
    (can_end b id c.streams h stay) refl refl (past_itself h)

draining_leads_if : (retires : Bool) (a : Shown) (id : ℕ) (streams : StreamMap) (h : History)
    → is_retiring a.resets id ≡ retires → Binds (record a { streams = streams }) h
    → Leads (spans_end_if retires (id ∷ []) (drained_behind a id streams).streams) (record a { streams = streams }) h
    (drained_behind a id streams) h
draining_leads_if true a id streams h e binds =
    let first = a.sender.queue.next_message_id in
    let limit = a.receiver.max_receive_message_size in
    let c = channels streams a.events a.to_accept in
    resetting_leads (read_out first limit id a.resets c) a id streams h (read_out_stays first limit id a.resets c) binds
draining_leads_if false a id streams h e binds =
    let b : Shown = record a { streams = streams } in
    subst (λ (z : Shown). Leads [] b h z h) (sym (drained_plainly a id streams e)) (leads_nowhere b b h binds refl refl)

-- behind a read that left these streams, generations of its stream end that are read to their end
pub draining_leads : (a : Shown) (id : ℕ) (streams : StreamMap) (h : History) → Binds (record a { streams = streams }) h
    → Leads (acts_of_draining a id streams) (record a { streams = streams }) h (drained_behind a id streams) h
draining_leads a id streams h binds = draining_leads_if (is_retiring a.resets id) a id streams h refl binds

resetting_state : (x : Resetting) (a : Shown) → (with_resetting a x).state ≡ a.state
resetting_state (r, c) a = refl

-- ends of generations leave the state
drained_state : (a : Shown) (id : ℕ) (streams : StreamMap) → (drained_behind a id streams).state ≡ a.state
drained_state a id streams =
    resetting_state (read_out a.sender.queue.next_message_id a.receiver.max_receive_message_size id a.resets
    (channels streams a.events a.to_accept)) a

-- a close behind the read
relief_leads : (a : Shown) (id : ℕ) (streams : StreamMap) (h : History) → Binds (drained_behind a id streams) h
    → Leads (if is_exhausted (drained_behind a id streams) then acts_of_close a else []) (drained_behind a id streams) h
    (if is_exhausted (drained_behind a id streams) then exhausted (drained_behind a id streams) else
    drained_behind a id streams) h
relief_leads a id streams h binds =
    let b : Shown = drained_behind a id streams in
    let exhausts : Bool = is_exhausted b in
    let left : Shown = if exhausts then exhausted b else b in
    subst (λ (state : AssociationState).
    Leads (if exhausts then (if is_closed_state state then [] else Act.Ended ∷ []) else []) b h left h)
    (drained_state a id streams) (relieved_leads exhausts b h binds)

-- the same where a window that opened is told behind it
easing_leads : (a : Shown) (id : ℕ) (streams : StreamMap) (h : History) → Binds (drained_behind a id streams) h
    → Leads (if is_exhausted (drained_behind a id streams) then acts_of_close a else []) (drained_behind a id streams) h
    (eased (credit_in a) (drained_behind a id streams)) h
easing_leads a id streams h binds =
    let b : Shown = drained_behind a id streams in
    told_leads (tells_window (credit_in a) (relieved b)) (if is_exhausted b then acts_of_close a else []) b (relieved b)
    h
    (relief_leads a id streams h binds)

after_read_leads : (x : StreamMap × Option ReceivedMessage) (a : Shown) (id : ℕ) (h : History)
    → Leads (Act.WasRead id ∷ []) a h (record a { streams = x.0 }) h
    → Leads (Act.WasRead id ∷ (acts_of_draining a id x.0
    ++ (if is_some x.1 && is_exhausted (drained_behind a id x.0) then acts_of_close a else [])))
    a h (after_read a id x).0 h
after_read_leads (streams, None) a id h one =
    let b : Shown = drained_behind a id streams in
    let two = draining_leads a id streams h one.binds in
    leads_on (Act.WasRead id ∷ []) (acts_of_draining a id streams ++ []) one
    (leads_on (acts_of_draining a id streams) [] two (leads_nowhere b b h two.binds refl refl))
after_read_leads (streams, Some message) a id h one =
    let closes : List Act = if is_exhausted (drained_behind a id streams) then acts_of_close a else [] in
    let two = draining_leads a id streams h one.binds in
    leads_on (Act.WasRead id ∷ []) (acts_of_draining a id streams ++ closes) one
    (leads_on (acts_of_draining a id streams) closes two (easing_leads a id streams h two.binds))

pub read_leads_on : (a b : Shown) (id : ℕ) (message : Option ReceivedMessage) → read_from_stream a id ≡ (b, message)
    → LeadsOn (acts_of_read a id) a b
read_leads_on a b id message e h binds = (
  h,
  subst (λ (z : Shown). Leads (acts_of_read a id) a h z h)
      (ap (λ (x : Shown × Option ReceivedMessage). x.0) e)
      (after_read_leads (read_in a.streams id) a id h (plain_read_leads a id h binds)),
)
