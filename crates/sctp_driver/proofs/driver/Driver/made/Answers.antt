use Rattle.std.proofs.Common.{◌≡◌, ◌∙◌, ap, subst, ℕ, Option, None}
use Rattle.std.specs.Option.{option_copied}
use Rattle.sctp_wire_types.specs.Config.{Settings}
use Rattle.sctp_assoc.specs.Created.{created}
use Rattle.sctp_driver.specs.Driving.{begun_with, by_rfcs}
use Rattle.sctp_driver.proofs.MadeDrivers.{made_driver}
use Rattle.sctp_driver.proofs.driver.Driver.made.Goals as goal

pub returns-clause-created : goal.returns-clause-created
returns-clause-created c =
    made_driver record {
      of_server = option_copied c.args.server_config;
      config = by_rfcs c.args.config.now;
      size = c.args.max_payload_size;
      tag = c.args.local_tag;
      initial_tsn = c.args.initial_tsn;
      cookie = c.args.cookie;
    } c.nowhere.result
    (subst
    (λ (chosen : Settings).
    c.in_ok-association.association
    ≡ created (option_copied c.args.server_config) chosen c.args.max_payload_size c.args.local_tag
    c.args.initial_tsn c.args.cookie c.nowhere.result None c.from_nanos.result)
    c.in_ok-config.ensures.chosen c.in_ok-association.ensures.created)
    c.from_nanos.ensures
    (c.of.ensures
    ∙ ap (λ (limit : Option ℕ). begun_with c.in_ok-association.association c.args.local_tag limit)
    (c.max_init_retransmits.ensures
    ∙ ap (λ (chosen : Settings). chosen.max_init_retransmits) c.in_ok-config.ensures.chosen))
