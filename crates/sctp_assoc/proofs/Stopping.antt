-- A write half that was closed changes nothing of whether and how a stream is stopped.
use Rattle.std.proofs.Common.{◌≡◌, refl, sym, ap, subst, ◌∙◌, ⊎_elim, inr, ℕ, Bool, true, false, ◌&&◌, not}
use Rattle.std.proofs.Common.{if◌then◌else◌}
use Rattle.std.proofs.Common.{Option, Some, None}
use Rattle.std.specs.Ordering.{nat_cmp}
use Rattle.std.specs.BTreeMap.{is_at}
use Rattle.sctp_wire_types.specs.Config.{is_rfc}
use Rattle.sctp_wire_types.specs.declared.error.Error.{Error}
use Rattle.sctp_wire_types.specs.declared.error.Error.TheVariants as errors
use Rattle.sctp_streams.specs.declared.halves.RecvSendState.{RecvSendState}
use Rattle.sctp_streams.specs.declared.halves.RecvSendState.TheVariants as open_halves
use Rattle.sctp_streams.specs.declared.setting.Setting.TheVariants as settings
use Rattle.sctp_streams.specs.Stream.{StreamView, is_read_half_open, with_setting, without_write_half}
use Rattle.sctp_streams.specs.Streams.{StreamMap, change_at, stream_at}
use Rattle.sctp_resets.specs.Resets.{Beside, ResetsView, is_retiring, stopped_reading, waiting_for}
use Rattle.sctp_assoc.specs.Calls.{RefusesStop, adjusted, holds_at, is_established, stop_refusal, stop_refusal_at}
use Rattle.sctp_assoc.specs.Calls.{stop_takes_memory, stopped_open, unread_dropped, without_read_half_of}
use Rattle.sctp_assoc.specs.Closing.{is_exhausted}
use Rattle.sctp_assoc.specs.Resets.{with_beside}
use Rattle.sctp_assoc.specs.declared.effects.Answers.{Answers}
use Rattle.sctp_assoc.specs.Shown.{HasFailed, Shown, answers_of}
use Rattle.sctp_assoc.proofs.StreamReads.{found_again}

read_half_stays : (h : RecvSendState) → is_read_half_open (without_write_half h) ≡ is_read_half_open h
read_half_stays open_halves.Closed = refl
read_half_stays open_halves.Readable = refl
read_half_stays open_halves.Writable = refl
read_half_stays open_halves.ReadWritable = refl

abbrev closing : StreamView → StreamView
closing s = with_setting s settings.WriteHalfClosed

found_closed : (m : StreamMap) (id : ℕ) (s : StreamView) → stream_at m id ≡ Some s
    → stream_at (change_at closing (Some s) m id) id ≡ Some (closing s)
found_closed m id s e = found_again (is_at (nat_cmp id)) m.by_id s (closing s) e

holds_stays : (o : Option StreamView) (m : StreamMap) (id : ℕ) → stream_at m id ≡ o
    → holds_at (λ s. is_read_half_open s.halves) (stream_at (change_at closing o m id) id)
    ≡ holds_at (λ s. is_read_half_open s.halves) o
holds_stays None m id e = ap (holds_at (λ s. is_read_half_open s.halves)) e
holds_stays (Some s) m id e =
    ap (holds_at (λ s. is_read_half_open s.halves)) (found_closed m id s e) ∙ read_half_stays s.halves

refusal_stays : (a : Shown) (o : Option StreamView) (m : StreamMap) (id : ℕ) → stream_at m id ≡ o
    → stop_refusal_at a id (stream_at (change_at closing o m id) id) ≡ stop_refusal_at a id o
refusal_stays a None m id e = ap (stop_refusal_at a id) e
refusal_stays a (Some s) m id e =
    ap (stop_refusal_at a id) (found_closed m id s e)
    ∙ ap (λ b. if b && not (is_retiring a.resets id) && not (is_established a.state) then
    Some errors.ErrResetPacketInStateNotExist else None) (read_half_stays s.halves)

beside_answers : (a : Shown) (b : Beside) → answers_of (with_beside a b) ≡ answers_of a
beside_answers a (r, m, told) = refl

-- a stop leaves what the questions about the state answer
stopped_if : (retires : Bool) (a : Shown) (b : Beside) (m : StreamMap) (r : ResetsView)
    → answers_of (if retires then with_beside a b else record a { streams = m; resets = r }) ≡ answers_of a
stopped_if true a b m r = beside_answers a b
stopped_if false a b m r = refl

stopped_answers : (a : Shown) (id : ℕ) → answers_of (stopped_open a id) ≡ answers_of a
stopped_answers a id =
    let b = without_read_half_of a id in
    stopped_if (is_retiring a.resets id) b (stopped_reading id b.resets b.streams b.events)
    (unread_dropped (is_rfc a.profile) b.streams id) (waiting_for b.resets id)

-- a stop that leaves the receive buffer exhausted may find no memory for the close
pub stop_fails : (a s b : Shown) (id : ℕ) (error : Error) → stop_refusal a id ≡ None
    → stop_takes_memory a id ≡ true → s ≡ stopped_open a id
    → (error ≡ errors.ErrNoMemory) × (is_exhausted s ≡ true) × HasFailed (answers_of s) b
    → RefusesStop a id error b
stop_fails a s b id error free readable is fails =
    inr (
      free,
      readable,
      fails.0,
      subst (λ (z : Answers). HasFailed z b) (ap answers_of is ∙ stopped_answers a id) fails.2,
    )

pub stop_refusal_stays : (a : Shown) (id : ℕ)
    → stop_refusal (adjusted a id settings.WriteHalfClosed) id ≡ stop_refusal a id
stop_refusal_stays a id =
    ap (λ (r : Option Error). if a.failed then Some errors.ErrAssociationFailed else r)
    (refusal_stays a (stream_at a.streams id) a.streams id refl)

none_is_some : (error : Error) → None ≡ Some error → ⊥
none_is_some error e = absurd (cc)

pub close_refuses : (a b : Shown) (id : ℕ) (error : Error) → stop_refusal a id ≡ None
    → RefusesStop (adjusted a id settings.WriteHalfClosed) id error b → RefusesStop a id error b
close_refuses a b id error free refuses = ⊎_elim
    (λ (x : (stop_refusal (adjusted a id settings.WriteHalfClosed) id ≡ Some error)
    × (b ≡ adjusted a id settings.WriteHalfClosed)).
    absurd (none_is_some error (sym free ∙ sym (stop_refusal_stays a id) ∙ x.0)))
    (λ (y : (stop_refusal (adjusted a id settings.WriteHalfClosed) id ≡ None)
    × (stop_takes_memory (adjusted a id settings.WriteHalfClosed) id ≡ true) × (error ≡ errors.ErrNoMemory)
    × HasFailed (answers_of a) b).
    inr (free, sym (holds_stays (stream_at a.streams id) a.streams id refl) ∙ y.1, y.2, y.3))
    refuses
