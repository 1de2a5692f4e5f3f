use Rattle.std.proofs.Common.{refl}
use Rattle.std.proofs.lemmas.Result.{err_from_is_err_and}
use Rattle.sctp_assoc.specs.Created.{create_refusal}
use Rattle.sctp_assoc.specs.Shown.{Shown}
use Rattle.sctp_pair.proofs.AnsweredValues.{second_refuses}
use Rattle.sctp_pair.proofs.BetweenClosings.{begins_unclosed_hello}
use Rattle.sctp_pair.proofs.BetweenCourses.{begins_hello}
use Rattle.sctp_pair.proofs.Counted.{fits_with_none}
use Rattle.sctp_pair.proofs.NewPairs.{IsClient, IsServer, fits_hello}
use Rattle.sctp_pair.proofs.pair.Pair.client_server.Goals as goal

-- both associations stand where nothing happened, and no packet was given out
pub returns-clause-fits : goal.returns-clause-fits
returns-clause-fits c =
    let a = c.in_ok-a.ensures in
    let b = c.in_ok-b.ensures in
    let of_a : IsClient c.args.max_payload_size_a c.args.tsn_a c.in_ok-a.a = record {
      config = c.args.config_a.now;
      tag = c.args.tag_a;
      cookie = c.args.cookie_a;
      remote = c.args.remote_of_a;
      now = c.args.now;
      unrefused = a.refused;
      is = a.created;
      binds = a.begins;
    } in
    let of_b : IsServer c.args.max_payload_size_b c.args.tsn_b c.in_ok-b.b = record {
      config = c.args.config_b.now;
      tag = c.args.tag_b;
      cookie = c.args.cookie_b;
      remote = c.args.remote_of_b;
      unrefused = b.refused;
      is = b.created;
      binds = b.begins;
    } in
    fits_hello of_a of_b _ (rw (c.new-3.ensures.items, c.new-4.ensures.items) refl)

pub returns-clause-counted : goal.returns-clause-counted
returns-clause-counted c =
    fits_with_none _ c.args.tsn_a c.args.tsn_b c.args.max_payload_size_a c.args.max_payload_size_b
    (returns-clause-fits c)

-- no step led to it yet
pub returns-clause-new : goal.returns-clause-new
returns-clause-new c = record {
  begin = _;
  new = returns-clause-counted c;
  led = refl;
  safely = returns-clause-counted c;
}

-- and between fresh courses of each stream
pub returns-clause-boundaries : goal.returns-clause-boundaries
returns-clause-boundaries c =
    let a = c.in_ok-a.ensures in
    let b = c.in_ok-b.ensures in
    begins_hello c.boundaries_are_kept.ensures.created c.args.server_config_b.now c.args.config_a.now
    c.args.config_b.now c.args.max_payload_size_a c.args.max_payload_size_b c.args.tag_a c.args.tag_b c.args.tsn_a
    c.args.tsn_b c.args.cookie_a c.args.cookie_b c.args.remote_of_a c.args.remote_of_b c.args.now a.created b.created
    a.begins.first b.begins.first _ (rw (c.new-3.ensures.items, c.new-4.ensures.items) refl)

-- and nothing of it was closed
pub returns-clause-unclosed : goal.returns-clause-unclosed
returns-clause-unclosed c =
    let a = c.in_ok-a.ensures in
    let b = c.in_ok-b.ensures in
    begins_unclosed_hello c.only_closed_streams_end_between.ensures.created c.args.server_config_b.now
    c.args.config_a.now c.args.config_b.now c.args.max_payload_size_a c.args.max_payload_size_b c.args.tag_a
    c.args.tag_b c.args.tsn_a c.args.tsn_b c.args.cookie_a c.args.cookie_b c.args.remote_of_a c.args.remote_of_b
    c.args.now a.created b.created _ (rw (c.new-3.ensures.items, c.new-4.ensures.items) refl)

pub returns-clause-fresh : goal.returns-clause-fresh
returns-clause-fresh c = record {
  came = record {
    begin = _;
    new = returns-clause-counted c;
    led = refl;
    safely = returns-clause-counted c;
  };
  fresh = returns-clause-boundaries c;
  named = tt;
}

-- B is refused
pub returns-in_err-b-clause-refused : goal.returns-in_err-b-clause-refused
returns-in_err-b-clause-refused c =
    let p = err_from_is_err_and c.from_residual-in_err-b.result c.from_residual-in_err-b.ensures.1 in
    second_refuses Shown c.from_residual-in_err-b.result p.0 _
    (create_refusal c.args.max_payload_size_a c.args.tsn_a)
    (create_refusal c.args.max_payload_size_b c.args.tsn_b) p.1 p.2
    c.in_ok-a.ensures.refused c.in_err-b.ensures.refused
