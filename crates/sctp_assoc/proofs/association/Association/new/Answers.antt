use Rattle.std.proofs.Common.{rules, ◌≡◌, sym, subst}
use Rattle.std.specs.Option.{option_copied}
use Rattle.sctp_assoc.specs.Leads.{Binds}
use Rattle.sctp_directions.specs.Acts.{begun}
use Rattle.sctp_assoc.specs.Created.{created}
use Rattle.sctp_assoc.specs.Shown.{Shown}
use Rattle.sctp_assoc.proofs.FreshHistory.{created_binds}
use Rattle.sctp_assoc.proofs.association.Association.new.Goals as goal

pub returns-clause-begins : goal.returns-clause-begins
returns-clause-begins c =
    let e : c.if-is_none.association ≡ created (option_copied c.args.server_config) c.args.config.now
    c.args.max_payload_size c.args.local_aid c.args.initial_tsn c.args.cookie c.args.remote_addr c.args.local_ip
    c.args.now = search rules in
    subst (λ (z : Shown). Binds z (begun c.args.initial_tsn 1)) (sym e)
    (created_binds c.args.config.now c.args.max_payload_size c.args.local_aid c.args.initial_tsn c.args.cookie
    c.args.remote_addr c.args.local_ip c.args.now (option_copied c.args.server_config) c.ranges.initial_tsn.fits)
