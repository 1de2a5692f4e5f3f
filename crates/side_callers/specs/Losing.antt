-- What one association does no more once its loss was told, against any peer.
use Rattle.std.specs.Prelude.{◌≡◌, ◌≢◌, ◌<◌, ℕ, List, slice_get, Some}
use Rattle.sctp_streams.specs.declared.event.AssociationError.{AssociationError}
use Rattle.sctp_streams.specs.declared.event.Event.TheVariants.{AssociationLost}
use Rattle.sctp_assoc.specs.declared.call.Reply.{Reply}
use Rattle.sctp_assoc.specs.declared.call.Reply.TheVariants as replies

-- Behind the event that the association was lost no reply accepts bytes.
abbrev pub NothingIsAcceptedBehindALoss : List Reply → Type 0
NothingIsAcceptedBehindALoss answers = (index later bytes : ℕ) (reason : AssociationError)
    → slice_get answers index ≡ Some (replies.Event (Some (AssociationLost reason))) → index < later
    → slice_get answers later ≢ Some (replies.Wrote bytes)
