-- What a poll for events gave, in one statement.
use Rattle.std.proofs.Common.{◌≡◌, refl, ◌⊎◌, [], Option, Some, None, Result, Ok, Err, IfOk, IfErr, IfSome}
use Rattle.sctp_wire_types.specs.declared.error.Error.TheVariants as errors
use Rattle.sctp_driver.specs.Driving.{Driving}
use Rattle.channel_table.specs.declared.error.ChannelError.{ChannelError}
use Rattle.channel_table.specs.declared.error.ChannelError.TheVariants as faults
use Rattle.channel_table.specs.Tables.{KeepsOrEnds}
use Rattle.sctp_channels.specs.declared.event.ChannelEvent.{ChannelEvent}
use Rattle.sctp_channels.specs.Channels.{ChannelsView}
use Rattle.sctp_channels.specs.Looking.{IsAcknowledged, IsTold}
use Rattle.sctp_channels.specs.Polling.{IsIdle}
use Rattle.sctp_channels_c.specs.Polls.{Finds, Polls}

finds : (answer : Result (Option ChannelEvent) ChannelError) (f : ChannelsView) (e : Driving)
    → IfOk answer (λ told. IfSome told (λ event. IsTold event f.table))
    → IfOk answer (λ told. IfSome told (λ event. IsAcknowledged event f.table e))
    → (answer ≡ Ok None → f.due ≡ []) → (answer ≡ Ok None → IsIdle e)
    → IfErr answer (λ fault. (fault ≡ faults.Beneath errors.ErrNoMemory)
    ⊎ (fault ≡ faults.Beneath errors.ErrAssociationFailed)) → Finds answer f e
finds (Ok (Some event)) f e told acks all idle only = (told, acks)
finds (Ok None) f e told acks all idle only = (all refl, idle refl)
finds (Err fault) f e told acks all idle only = only

pub polls : (answer : Result (Option ChannelEvent) ChannelError) (c f : ChannelsView) (e : Driving)
    → IfOk answer (λ told. IfSome told (λ event. IsTold event f.table))
    → IfOk answer (λ told. IfSome told (λ event. IsAcknowledged event f.table e)) → KeepsOrEnds c.table f.table
    → (answer ≡ Ok None → f.due ≡ []) → (answer ≡ Ok None → IsIdle e) → f.role ≡ c.role
    → IfErr answer (λ fault. (fault ≡ faults.Beneath errors.ErrNoMemory)
    ⊎ (fault ≡ faults.Beneath errors.ErrAssociationFailed)) → Polls answer c f e
polls answer c f e told acks keeps all idle role only = (finds answer f e told acks all idle only, keeps, role)
