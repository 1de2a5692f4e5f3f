-- What a port of an association does: each deed is one call of the association on that stream, with its reply.
use Rattle.std.specs.Prelude.{◌≡◌, ℕ, false, Some, None, Ok, Err}
use Rattle.std.specs.Borrow.{GName}
use Rattle.sctp_wire_types.specs.declared.ids.PayloadProtocolIdentifier.TheVariants as kinds
use Rattle.sctp_wire_types.specs.declared.reliability.ReliabilityType.TheVariants as reliabilities
use Rattle.sctp_assoc.specs.declared.call.Call.{Call}
use Rattle.sctp_assoc.specs.declared.call.Call.TheVariants as calls
use Rattle.sctp_assoc.specs.declared.call.Reply.{Reply}
use Rattle.sctp_assoc.specs.declared.call.Reply.TheVariants as replies
use Rattle.sctp_assoc.specs.Replies.{RepliesAlone}
use Rattle.sctp_assoc.specs.Shown.{Shown}
use Rattle.dcep_channel.specs.declared.assoc_port.AssocPort.{AssocPort}
use Rattle.dcep_channel.specs.Deeds.{Deed}

-- the association behind a port, as it stands
abbrev pub association_of : AssocPort → Shown
association_of p = p.association.now

-- the loan by which a port borrows it
abbrev pub lender : AssocPort → GName
lender p = p.association.ghost_name

-- the stream that it is a port of
abbrev pub id_of : AssocPort → ℕ
id_of p = p.id

-- the call that a deed on a stream is
abbrev pub call_of : ℕ → Deed → Call
call_of id (Deed.Opened fault) = calls.OpenStream id kinds.Binary
call_of id (Deed.Kept fault) = calls.SetReliabilityParams id false reliabilities.Reliable 0
call_of id (Deed.Wrote kind bytes answer) = calls.WriteWithPpi id bytes kind
call_of id (Deed.Read answer) = calls.Read id

-- the reply that a deed tells of
abbrev pub reply_of : Deed → Reply
reply_of (Deed.Opened None) = replies.Done
reply_of (Deed.Opened (Some n)) = replies.Refused n
reply_of (Deed.Kept None) = replies.Done
reply_of (Deed.Kept (Some n)) = replies.Refused n
reply_of (Deed.Wrote kind bytes (Ok n)) = replies.Wrote n
reply_of (Deed.Wrote kind bytes (Err n)) = replies.Refused n
reply_of (Deed.Read (Ok message)) = replies.Read message
reply_of (Deed.Read (Err n)) = replies.Refused n

-- what a deed on a stream does to an association
abbrev pub DoesAtAssociation : ℕ → Shown → Deed → Shown → Type 0
DoesAtAssociation id a deed b = RepliesAlone (call_of id deed) a (reply_of deed) b

-- what a deed does to a port of an association: it borrows the same association, of which that is true
abbrev pub DoesAsAssocPort : AssocPort → Deed → AssocPort → Type 0
DoesAsAssocPort s deed t =
    (lender t ≡ lender s) × (id_of t ≡ id_of s)
    × DoesAtAssociation (id_of s) (association_of s) deed (association_of t)
