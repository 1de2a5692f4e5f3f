-- Live streams: what calls that were not refused can rely on, and streams that hold nothing.
use Rattle.std.proofs.Common.{◌≡◌, refl, sym, ap, ◌∙◌, ⊎_elim, ℕ, arith, Bool, true, false, eqb, ltb, not}
use Rattle.std.proofs.Common.{if◌then◌else◌, Option, Some, None, is_some}
use Rattle.std.proofs.lemmas.Bool.{cases_Bool, cond-false, cond-true, eqb-false, true≢false}
use Rattle.sctp_wire_types.specs.declared.error.Error.TheVariants as errors
use Rattle.sctp_receive_queues.specs.Messages.{ReceivedMessage}
use Rattle.sctp_receive_queues.specs.Reassembly.{empty_reassembly, taken}
use Rattle.sctp_streams.specs.declared.setting.Setting.{Setting}
use Rattle.sctp_streams.specs.declared.setting.Setting.TheVariants as settings
use Rattle.sctp_streams.specs.Stream.{StreamView, fresh_stream, is_write_half_open, read_with, stream_read}
use Rattle.sctp_streams.specs.Stream.{with_setting}
use Rattle.sctp_streams.specs.Streams.{StreamMap, change_at, generation_left, read_at, read_in, stream_at, with_stream}
use Rattle.sctp_assoc.specs.Calls.{is_established, opened, write_refusal_at}
use Rattle.sctp_sides.specs.SideLaws.{AcceptedWritesFit, WasWritable, FoundStreamsAreLive, IsLive}
use Rattle.sctp_sides.specs.SideLaws.{OpenedStreamsHoldNothing, OpenedStreamsWereNotLive, SettingsHoldNothing}
use Rattle.sctp_sides.specs.SideLaws.{WhatHoldsNothingGivesNothing}
use Rattle.sctp_assoc.specs.Shown.{Shown}
use Rattle.sctp_resets.specs.Resets.{is_blocked}
use Rattle.sctp_sides.proofs.WithoutResets.{nothing_is_drained}
use Rattle.sctp_fit.proofs.StreamsThere.{at_made, at_with}
use Rattle.sctp_assoc.specs.Calls.{after_read, read_from_stream}

-- Refusals

found_if : (failed : Bool) (o : Option StreamView) (a : Shown) (id : ℕ) → a.failed ≡ failed → stream_at a.streams id ≡ o
    → (if failed then Some errors.ErrAssociationFailed else if is_some o then None else Some errors.ErrStreamNotExisted)
    ≡ None → IsLive a id
found_if true o a id f there e = absurd (true≢false (ap is_some e))
found_if false None a id f there e = absurd (true≢false (ap is_some e))
found_if false (Some t) a id f there e = record { working = f; stream = t; there = there }

pub found_streams_are_live : FoundStreamsAreLive
found_streams_are_live a id e = found_if a.failed (stream_at a.streams id) a id refl refl e

free_if : (failed : Bool) (o : Option StreamView) (blocked left : Bool)
    → (if failed then Some errors.ErrAssociationFailed else if is_some o then Some errors.ErrStreamAlreadyExist else
    if blocked then Some errors.ErrStreamResetPending else
    if left then None else Some errors.ErrStreamCreateFailed) ≡ None
    → (failed ≡ false) × (o ≡ None)
free_if true o blocked left e = absurd (true≢false (ap is_some e))
free_if false (Some t) blocked left e = absurd (true≢false (ap is_some e))
free_if false None blocked left e = (refl, refl)

pub opened_streams_were_not_live : OpenedStreamsWereNotLive
opened_streams_were_not_live a id e =
    free_if a.failed (stream_at a.streams id) (is_blocked a.resets id) (generation_left a.streams) e

size_free : (opens established blocked empty large : Bool)
    → (if opens then (if not established then Some errors.ErrPayloadDataStateNotExist else
    if blocked then Some errors.ErrStreamResetPending else if empty then Some errors.ErrEmptyMessage else
    if large then Some errors.ErrOutboundPacketTooLarge else None) else Some errors.ErrStreamClosed) ≡ None
    → (established ≡ true) × (empty ≡ false) × (large ≡ false)
size_free false established blocked empty large e = absurd (true≢false (ap is_some e))
size_free true false blocked empty large e = absurd (true≢false (ap is_some e))
size_free true true true empty large e = absurd (true≢false (ap is_some e))
size_free true true false true large e = absurd (true≢false (ap is_some e))
size_free true true false false true e = absurd (true≢false (ap is_some e))
size_free true true false false false e = (refl, refl, refl)

write_free : (failed : Bool) (x : Option StreamView) (a : Shown) (id size : ℕ) → a.failed ≡ failed
    → stream_at a.streams id ≡ x
    → (if failed then Some errors.ErrAssociationFailed else write_refusal_at a x id size) ≡ None → WasWritable a id size
write_free true x a id size working there e = absurd (true≢false (ap is_some e))
write_free false None a id size working there e = absurd (true≢false (ap is_some e))
write_free false (Some t) a id size working there e =
    let free =
    size_free (is_write_half_open t.halves) (is_established a.state) (is_blocked a.resets id) (eqb size 0)
    (ltb a.max_send_message_size size) e in
    record {
      live = record { working = working; stream = t; there = there };
      established = free.0;
      some = (let ne = eqb-false size 0 free.1 in omega (arith, ne));
    }

pub accepted_writes_fit : AcceptedWritesFit
accepted_writes_fit a id size e = write_free a.failed (stream_at a.streams id) a id size refl refl e

-- Streams that hold nothing

-- no stream of the map holds anything
abbrev AreEmpty : StreamMap → Type 0
AreEmpty m = (s : ℕ) (t : StreamView) → stream_at m s ≡ Some t → t.reassembly ≡ empty_reassembly

-- nor where one of them became another one that is empty
module _ (m n : StreamMap) (id : ℕ) (u : StreamView) (empty : u.reassembly ≡ empty_reassembly)
    (at : (s : ℕ) → stream_at n s ≡ (if eqb s id then Some u else stream_at m s)) (all : AreEmpty m) where
  empty_beside : AreEmpty n
  empty_beside s t e = ⊎_elim
      (λ (b : eqb s id ≡ true).
      let f : Some u ≡ Some t = sym (cond-true (eqb s id) (Some u) (stream_at m s) b) ∙ sym (at s) ∙ e in
      let g : u ≡ t = cc in
      ap (λ (z : StreamView). z.reassembly) (sym g) ∙ empty)
      (λ (b : eqb s id ≡ false). all s t (sym (cond-false (eqb s id) (Some u) (stream_at m s) b) ∙ sym (at s) ∙ e))
      (cases_Bool (eqb s id))

pub opened_streams_hold_nothing : OpenedStreamsHoldNothing
opened_streams_hold_nothing a id kind none all =
    let first : ℕ = a.sender.queue.next_message_id in
    empty_beside a.streams (opened a id kind).streams id (fresh_stream id a.streams.next_generation first kind) refl
    (λ s. at_made a.streams id first s kind none) all

setting_leaves : (s : StreamView) (setting : Setting) → (with_setting s setting).reassembly ≡ s.reassembly
setting_leaves s (settings.DefaultPayloadType kind) = refl
setting_leaves s (settings.Reliability params) = refl
setting_leaves s (settings.LowMark bytes) = refl
setting_leaves s (settings.HighMark bytes) = refl
setting_leaves s settings.WriteHalfClosed = refl

set_empty : (o : Option StreamView) (m : StreamMap) (id : ℕ) (setting : Setting) → stream_at m id ≡ o → AreEmpty m
    → AreEmpty (change_at (λ s. with_setting s setting) o m id)
set_empty None m id setting there all = all
set_empty (Some t) m id setting there all =
    let u : StreamView = with_setting t setting in
    empty_beside m (with_stream m id u) id u (setting_leaves t setting ∙ all id t there)
    (λ n. at_with m id n t u there) all

pub settings_hold_nothing : SettingsHoldNothing
settings_hold_nothing a id setting all = set_empty (stream_at a.streams id) a.streams id setting refl all

empty_read : (t : StreamView) → t.reassembly ≡ empty_reassembly
    → stream_read t ≡ (record t { reassembly = empty_reassembly }, None)
empty_read t e = ap (λ r. read_with t (taken r)) e

pub what_holds_nothing_gives_nothing : WhatHoldsNothingGivesNothing
what_holds_nothing_gives_nothing a id none live all =
    let t : StreamView = live.stream in
    let u : StreamView = record t { reassembly = empty_reassembly } in
    let left : read_in a.streams id ≡ (with_stream a.streams id u, None) =
    ap (λ o. read_at o a.streams id) live.there
    ∙ ap (λ (z : StreamView × Option ReceivedMessage). (with_stream a.streams id z.0, z.1))
    (empty_read t (all id t live.there)) in
    let whole : read_from_stream a id ≡ (record a { streams = with_stream a.streams id u }, None) =
    ap (after_read a id) left
    ∙ ap (λ (z : Shown). (z, None)) (nothing_is_drained a id (with_stream a.streams id u) none.kept) in (
      ap (λ (z : Shown × Option ReceivedMessage). z.1) whole,
      empty_beside a.streams (read_from_stream a id).0.streams id u refl
          (λ n. ap (λ (z : Shown × Option ReceivedMessage). stream_at z.0.streams n) whole
          ∙ at_with a.streams id n t u live.there) all,
    )
