-- Of a pair that is new nothing was closed.
use Rattle.std.proofs.Common.{refl, Some, None}
use Rattle.sctp_sides.proofs.BeginsNoReset.{created_sides_reset_nothing, joined_sides_reset_nothing}
use Rattle.sctp_closed.proofs.Proved.{created_sides_tell_no_end, joined_sides_tell_no_end}
use Rattle.sctp_closed_between.specs.Between.{ClientsAndServersBeginUnclosed, JoinedPairsBeginUnclosed}

pub joined_pairs_begin_unclosed : JoinedPairsBeginUnclosed
joined_pairs_begin_unclosed config_a config_b size_a size_b address_a address_b ip_a ip_b token_a token_b = record {
  quiet_a = joined_sides_reset_nothing config_a size_a address_a ip_a token_a token_b;
  quiet_b = joined_sides_reset_nothing config_b size_b address_b ip_b token_b token_a;
  silent_a = joined_sides_tell_no_end config_a size_a address_a ip_a token_a token_b;
  silent_b = joined_sides_tell_no_end config_b size_b address_b ip_b token_b token_a;
  none_a = refl;
  none_b = refl;
}

pub clients_and_servers_begin_unclosed : ClientsAndServersBeginUnclosed
clients_and_servers_begin_unclosed of_server config_a config_b size_a size_b tag_a tag_b tsn_a tsn_b cookie_a cookie_b
    address_a address_b ip_a ip_b now =
    record {
      quiet_a = created_sides_reset_nothing None config_a size_a tag_a tsn_a cookie_a address_a ip_a now;
      quiet_b = created_sides_reset_nothing (Some of_server) config_b size_b tag_b tsn_b cookie_b address_b ip_b now;
      silent_a = created_sides_tell_no_end None config_a size_a tag_a tsn_a cookie_a address_a ip_a now;
      silent_b = created_sides_tell_no_end (Some of_server) config_b size_b tag_b tsn_b cookie_b address_b ip_b now;
      none_a = refl;
      none_b = refl;
    }
