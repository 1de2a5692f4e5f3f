-- What resets of streams do to an association is what their acts say: they leave its sender and its receiver, and all
-- streams but those that they concern.
use Rattle.std.proofs.Common.{◌≡◌, refl, sym, ap, ◌∙◌, subst, ℕ, eqb}
use Rattle.std.proofs.Common.{Bool, true, false, List, [], ◌∷◌, Option, Some, None}
use Rattle.std.proofs.lemmas.Bool.{or_parts}
use Rattle.sctp_wire_types.specs.declared.chunk.ChunkReconfig.{ChunkReconfig}
use Rattle.sctp_wire_types.specs.declared.param.Param.{Param}
use Rattle.sctp_wire_types.specs.declared.param.Param.TheVariants as params
use Rattle.sctp_wire_types.specs.declared.param.ParamOutgoingResetRequest.{ParamOutgoingResetRequest}
use Rattle.sctp_wire_types.specs.declared.param.ParamReconfigResponse.{ParamReconfigResponse}
use Rattle.sctp_streams.specs.Streams.{StreamMap, stream_at}
use Rattle.sctp_streams.proofs.LowMarks.{found_of}
use Rattle.sctp_inbound.specs.declared.receiver.AckTrigger.{AckTrigger}
use Rattle.sctp_inbound.specs.Receiver.{past_of}
use Rattle.sctp_outbound.specs.declared.sender.Sender.{Sender}
use Rattle.sctp_generations.specs.Generations.{has_skips}
use Rattle.sctp_model.specs.Packets.{mem}
use Rattle.sctp_reset_requests.specs.Ids.{has_id}
use Rattle.sctp_reset_requests.specs.Peer.{is_one_due}
use Rattle.sctp_resets.specs.declared.answers.TimerChange.{TimerChange}
use Rattle.sctp_resets.specs.declared.performing.Handled.{Handled}
use Rattle.sctp_resets.specs.declared.performing.Settled.{Settled}
use Rattle.sctp_resets.specs.Concerned.{StayBeside, active_ids, ids_of_request, in_reset, skipped_ids}
use Rattle.sctp_resets.specs.Resets.{Beside, ResetsView, Resetting, handled, responded, skips_done, skips_done_of}
use Rattle.sctp_resets.specs.Resets as resets
use Rattle.sctp_directions.specs.Acts.{Act, History, Parts}
use Rattle.sctp_assoc.specs.Leads.{Binds, Leads, parts}
use Rattle.sctp_assoc.specs.ResetActs.{acts_of_kept_skips, acts_of_param, acts_of_reconfig, acts_of_request}
use Rattle.sctp_assoc.specs.ResetActs.{acts_of_response, acts_of_second, acts_of_settling, spans_end_if}
use Rattle.sctp_assoc.specs.Resets.{after_param, asking_if, behind_first, behind_params, channels_of, handled_with}
use Rattle.sctp_assoc.specs.Resets.{on_reconfig, on_request, on_response, responded_with, settled, settled_with}
use Rattle.sctp_assoc.specs.Resets.{settling_takes_memory, skips_applied_of, stopped_if, with_answer}
use Rattle.sctp_assoc.specs.Resets.{with_beside, with_resetting}
use Rattle.sctp_assoc.specs.Shown.{Shown}
use Rattle.sctp_assoc.proofs.Leading.{leads_by, leads_nowhere, leads_on, past_itself}
use Rattle.sctp_resets.proofs.OthersStay.{handled_stays, responded_stays, settled_plainly, settled_skips, settled_stays}
use Rattle.sctp_resets.proofs.OthersStay.{skips_of_plainly, skips_of_stay, skips_plainly, skips_stay}

-- what is no member of a list is not found in it
pub not_found : (t : ℕ) (ids : List ℕ) → mem t ids ≡ false → has_id t ids ≡ false
not_found t [] out = refl
not_found t (x ∷ xs) out =
    let parts = or_parts (eqb x t) (mem t xs) out in
    rw (found_of x t, parts.0) (not_found t xs parts.1)

-- A reset left the sender and the receiver, and these resets and streams.
pub record IsReset (a b : Shown) (r : ResetsView) (m : StreamMap) : Type 0 where
  pub sender : b.sender ≡ a.sender
  pub receiver : b.receiver ≡ a.receiver
  pub resets : b.resets ≡ r
  pub streams : b.streams ≡ m

then_reset : {a b c : Shown} {r s : ResetsView} {m n : StreamMap} → IsReset a b r m → IsReset b c s n → IsReset a c s n
then_reset first next = record {
  sender = next.sender ∙ first.sender;
  receiver = next.receiver ∙ first.receiver;
  resets = next.resets;
  streams = next.streams;
}

abbrev with_streams : StreamMap → Parts → Parts
with_streams m p = record p { streams = m }

-- with the same sender the directions see the same, but for the streams
same_parts : (m : StreamMap) (h : History) (a b : Shown) → b.sender ≡ a.sender
    → with_streams m (parts b h) ≡ with_streams m (parts a h)
same_parts m h a b sender =
    ap (λ (s : Sender). record { queue = s.queue; streams = m; size = s.max_payload_size; history = h }) sender

-- where the other streams stay, the spans of these streams ended, and no more
pub spans_end_leads : (ids : List ℕ) (a b : Shown) (h : History) → Binds a h → b.sender ≡ a.sender
    → b.receiver ≡ a.receiver → StayBeside ids a.streams b.streams
    → Leads (Act.SpansEnded ids b.streams ∷ []) a h b h
spans_end_leads ids a b h binds sender receiver stay =
    leads_by (Act.SpansEnded ids b.streams ∷ []) a b h binds (λ t out. stay t (not_found t ids out), tt)
    (same_parts b.streams h a b sender) (ap past_of receiver) (past_itself h)

-- and where all stay, nothing happened
pub stays_leads : (a b : Shown) (h : History) → Binds a h → b.sender ≡ a.sender → b.receiver ≡ a.receiver
    → b.streams ≡ a.streams → Leads [] a h b h
stays_leads a b h binds sender receiver streams =
    leads_nowhere a b h binds
    (same_parts b.streams h a b sender ∙ ap (λ (m : StreamMap). with_streams m (parts a h)) streams)
    (ap past_of receiver)

pub reset_leads : (ids : List ℕ) (a b : Shown) (r : ResetsView) (m : StreamMap) (h : History) → Binds a h
    → IsReset a b r m → StayBeside ids a.streams m → Leads (Act.SpansEnded ids b.streams ∷ []) a h b h
reset_leads ids a b r m h binds is stay =
    spans_end_leads ids a b h binds is.sender is.receiver (subst (StayBeside ids a.streams) (sym is.streams) stay)

-- What each part of a reset leaves

beside_is : (a : Shown) (x : Beside) → IsReset a (with_beside a x) x.0 x.1
beside_is a (r, m, told) = record { sender = refl; receiver = refl; resets = refl; streams = refl }

resetting_is : (a : Shown) (x : Resetting) → IsReset a (with_resetting a x) x.0 x.1.streams
resetting_is a (r, c) = record { sender = refl; receiver = refl; resets = refl; streams = refl }

asking_is : (asks : Bool) (a : Shown) → IsReset a (asking_if asks a) a.resets a.streams
asking_is true a = record { sender = refl; receiver = refl; resets = refl; streams = refl }
asking_is false a = record { sender = refl; receiver = refl; resets = refl; streams = refl }

stopped_is : (confirms : Bool) (a : Shown) → IsReset a (stopped_if confirms a) a.resets a.streams
stopped_is true a = record { sender = refl; receiver = refl; resets = refl; streams = refl }
stopped_is false a = record { sender = refl; receiver = refl; resets = refl; streams = refl }

answer_is : (o : Option Settled) (a : Shown) → IsReset a (with_answer o a) a.resets a.streams
answer_is None a = record { sender = refl; receiver = refl; resets = refl; streams = refl }
answer_is (Some q) a =
    let is = asking_is q.asks a in
    record { sender = is.sender; receiver = is.receiver; resets = is.resets; streams = is.streams }

settled_with_is : (a : Shown) (x : Resetting × Option Settled)
    → IsReset a (settled_with a x) x.0.0 x.0.1.streams
settled_with_is a (s, o) =
    let first = resetting_is a s in
    let next = answer_is o (with_resetting a s) in record {
      sender = next.sender ∙ first.sender;
      receiver = next.receiver ∙ first.receiver;
      resets = next.resets ∙ first.resets;
      streams = next.streams ∙ first.streams;
    }

-- Settling

-- what settling leaves before kept skips are applied, and with them
abbrev performed_of : Shown → Resetting × Option Settled
performed_of a =
    resets.settled a.receiver.peer_last_tsn a.sender.queue.next_message_id a.receiver.max_receive_message_size a.resets
    (channels_of a)

settled_is : (a : Shown)
    → let b = settled_with a (performed_of a) in
    IsReset a (settled a) (skips_done b.resets b.streams b.events).0 (skips_done b.resets b.streams b.events).1
unfolding settled
settled_is a =
    let b : Shown = settled_with a (performed_of a) in
    then_reset (settled_with_is a (performed_of a)) (beside_is b (skips_done b.resets b.streams b.events))

settled_stay : (a : Shown)
    → let b = settled_with a (performed_of a) in
    StayBeside (in_reset a.resets a.streams) a.streams (skips_done b.resets b.streams b.events).1
settled_stay a t out =
    let b : Shown = settled_with a (performed_of a) in
    let is = settled_with_is a (performed_of a) in
    let last = a.receiver.peer_last_tsn in
    let first = a.sender.queue.next_message_id in
    let limit = a.receiver.max_receive_message_size in
    skips_stay b.resets b.streams b.events t
    (ap (λ (r : ResetsView). has_id t (skipped_ids r.generations)) is.resets
    ∙ settled_skips last first limit a.resets (channels_of a) t out)
    ∙ ap (λ (m : StreamMap). stream_at m t) is.streams
    ∙ settled_stays last first limit a.resets (channels_of a) t out

settled_same : (a : Shown) → settling_takes_memory a ≡ false
    → let b = settled_with a (performed_of a) in (skips_done b.resets b.streams b.events).1 ≡ a.streams
settled_same a none =
    let b : Shown = settled_with a (performed_of a) in
    let is = settled_with_is a (performed_of a) in
    let parts =
    or_parts (is_one_due a.resets.peer.in_progress a.receiver.peer_last_tsn) (has_skips a.resets.generations) none in
    let plain =
    settled_plainly a.receiver.peer_last_tsn a.sender.queue.next_message_id a.receiver.max_receive_message_size a.resets
    (channels_of a) parts.0 in
    ap (λ (x : Beside). x.1)
    (skips_plainly b.resets b.streams b.events
    (ap (λ (r : ResetsView). has_skips r.generations) (is.resets ∙ ap (λ (x : Resetting). x.0) plain) ∙ parts.1))
    ∙ is.streams ∙ ap (λ (x : Resetting). x.1.streams) plain

settling_leads_if : (takes : Bool) (a : Shown) (h : History) → settling_takes_memory a ≡ takes → Binds a h
    → Leads (spans_end_if takes (in_reset a.resets a.streams) (settled a).streams) a h (settled a) h
settling_leads_if true a h e binds =
    reset_leads (in_reset a.resets a.streams) a (settled a) _ _ h binds (settled_is a) (settled_stay a)
settling_leads_if false a h e binds =
    let is = settled_is a in
    stays_leads a (settled a) h binds is.sender is.receiver (is.streams ∙ settled_same a e)

-- the last TSN in order may have moved
pub settling_leads : (a : Shown) (h : History) → Binds a h → Leads (acts_of_settling a) a h (settled a) h
settling_leads a h binds = settling_leads_if (settling_takes_memory a) a h refl binds

-- Kept skips

skipping_leads_if : (some : Bool) (id : ℕ) (a : Shown) (h : History) → has_skips a.resets.generations ≡ some
    → Binds a h
    → Leads (spans_end_if some (skipped_ids a.resets.generations) (skips_applied_of id a).streams) a h
    (skips_applied_of id a) h
skipping_leads_if true id a h e binds =
    reset_leads (skipped_ids a.resets.generations) a (skips_applied_of id a) _ _ h binds
    (beside_is a (skips_done_of id a.resets a.streams a.events)) (skips_of_stay id a.resets a.streams a.events)
skipping_leads_if false id a h e binds =
    let is = beside_is a (skips_done_of id a.resets a.streams a.events) in
    stays_leads a (skips_applied_of id a) h binds is.sender is.receiver
    (is.streams ∙ ap (λ (x : Beside). x.1) (skips_of_plainly id a.resets a.streams a.events e))

-- the skips that were kept for the generation of a stream that is read now
pub skipping_leads : (id : ℕ) (a : Shown) (h : History) → Binds a h
    → Leads (acts_of_kept_skips id a) a h (skips_applied_of id a) h
skipping_leads id a h binds = skipping_leads_if (has_skips a.resets.generations) id a h refl binds

-- RE-CONFIG

handled_is : (a : Shown) (number : ℕ) (x : Resetting × Handled)
    → IsReset a (handled_with a number x) x.0.0 x.0.1.streams
handled_is a number (s, h) =
    let first = resetting_is a s in
    let next = stopped_is h.confirms (with_resetting a s) in
    let last = asking_is h.asks (stopped_if h.confirms (with_resetting a s)) in record {
      sender = last.sender ∙ next.sender ∙ first.sender;
      receiver = last.receiver ∙ next.receiver ∙ first.receiver;
      resets = last.resets ∙ next.resets ∙ first.resets;
      streams = last.streams ∙ next.streams ∙ first.streams;
    }

-- a request of the peer
pub request_leads : (a : Shown) (param : ParamOutgoingResetRequest) (h : History) → Binds a h
    → Leads (acts_of_request a param) a h (on_request a param) h
unfolding on_request
request_leads a param h binds =
    let last = a.receiver.peer_last_tsn in
    let first = a.sender.queue.next_message_id in
    let limit = a.receiver.max_receive_message_size in
    reset_leads (ids_of_request param a.resets a.streams) a (on_request a param) _ _ h binds
    (handled_is a param.reconfig_request_sequence_number (handled param last first limit a.resets (channels_of a)))
    (handled_stays param last first limit a.resets (channels_of a))

responded_is : (a : Shown) (x : Beside × TimerChange) → IsReset a (responded_with a x) x.0.0 x.0.1
responded_is a (b, change) =
    let is = beside_is a b in
    record { sender = is.sender; receiver = is.receiver; resets = is.resets; streams = is.streams }

-- a response of the peer
pub response_leads : (a : Shown) (response : ParamReconfigResponse) (h : History) → Binds a h
    → Leads (acts_of_response a response) a h (on_response a response) h
unfolding on_response
response_leads a response h binds =
    reset_leads (active_ids a.resets) a (on_response a response) _ _ h binds
    (responded_is a (responded response a.resets a.streams a.events))
    (responded_stays response a.resets a.streams a.events)

param_leads : (a : Shown) (param : Param) (h : History) → Binds a h
    → Leads (acts_of_param a param) a h (after_param param a).0 h
param_leads a (params.OutgoingResetRequest request) h binds = request_leads a request h binds
param_leads a (params.ReconfigResponse response) h binds = response_leads a response h binds
param_leads a param h binds = leads_nowhere a a h binds refl refl

params_flow : (x : Shown × Bool) (trigger : AckTrigger) → (behind_params x trigger).0 ≡ x.0
params_flow (a, true) trigger = refl
params_flow (a, false) trigger = refl

second_leads : (x : Shown × Bool) (second : Option Param) (trigger : AckTrigger) (h : History) → Binds x.0 h
    → Leads (acts_of_second x second) x.0 h (behind_first x second trigger).0 h
second_leads (a, true) None trigger h binds = leads_nowhere a a h binds refl refl
second_leads (a, true) (Some second) trigger h binds =
    subst (λ (z : Shown). Leads (acts_of_param a second) a h z h) (sym (params_flow (after_param second a) trigger))
    (param_leads a second h binds)
second_leads (a, false) second trigger h binds = leads_nowhere a a h binds refl refl

-- a RE-CONFIG chunk
pub reconfig_leads : (a : Shown) (reconfig : ChunkReconfig) (trigger : AckTrigger) (h : History) → Binds a h
    → Leads (acts_of_reconfig a reconfig) a h (on_reconfig a reconfig trigger).0 h
unfolding on_reconfig
reconfig_leads a reconfig trigger h binds =
    let one = param_leads a reconfig.first h binds in
    leads_on (acts_of_param a reconfig.first) (acts_of_second (after_param reconfig.first a) reconfig.second) one
    (second_leads (after_param reconfig.first a) reconfig.second trigger h one.binds)
