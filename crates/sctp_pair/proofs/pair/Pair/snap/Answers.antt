use Rattle.std.proofs.Common.{refl}
use Rattle.std.proofs.lemmas.Result.{err_from_is_err_and}
use Rattle.sctp_assoc.specs.Created.{join_refusal}
use Rattle.sctp_assoc.specs.Shown.{Shown}
use Rattle.sctp_pair.proofs.AnsweredValues.{second_refuses}
use Rattle.sctp_pair.proofs.Counted.{fits_with_none}
use Rattle.sctp_pair.proofs.BetweenClosings.{begins_unclosed}
use Rattle.sctp_pair.proofs.BetweenCourses.{begins_fresh}
use Rattle.sctp_pair.proofs.NewPairs.{IsJoined, fits_start}
use Rattle.sctp_pair.proofs.pair.Pair.snap.Goals as goal

-- both associations stand where nothing happened, and no packet was given out
pub returns-clause-fits : goal.returns-clause-fits
returns-clause-fits c =
    let a = c.in_ok-a.ensures in
    let b = c.in_ok-b.ensures in
    let of_a : IsJoined c.args.max_payload_size_a c.args.token_a.now c.args.token_b.now c.in_ok-a.a = record {
      config = c.args.config_a.now;
      remote = c.args.remote_of_a;
      unrefused = a.refused;
      is = a.joined;
      binds = a.begins;
    } in
    let of_b : IsJoined c.args.max_payload_size_b c.args.token_b.now c.args.token_a.now c.in_ok-b.b = record {
      config = c.args.config_b.now;
      remote = c.args.remote_of_b;
      unrefused = b.refused;
      is = b.joined;
      binds = b.begins;
    } in
    fits_start of_a of_b _ (rw (c.new.ensures.items, c.new-2.ensures.items) refl)

pub returns-clause-counted : goal.returns-clause-counted
returns-clause-counted c =
    fits_with_none _ c.args.token_a.now.initial_tsn c.args.token_b.now.initial_tsn c.args.max_payload_size_a
    c.args.max_payload_size_b (returns-clause-fits c)

-- no step led to it yet
pub returns-clause-new : goal.returns-clause-new
returns-clause-new c = record {
  begin = _;
  new = returns-clause-counted c;
  led = refl;
  safely = returns-clause-counted c;
}

-- and between fresh courses of each stream
pub returns-clause-boundaries : goal.returns-clause-boundaries
returns-clause-boundaries c =
    let a = c.in_ok-a.ensures in
    let b = c.in_ok-b.ensures in
    begins_fresh c.boundaries_are_kept.ensures.joined c.args.config_a.now c.args.config_b.now
    c.args.max_payload_size_a c.args.max_payload_size_b c.args.remote_of_a c.args.remote_of_b c.args.token_a.now
    c.args.token_b.now a.joined b.joined a.begins.first b.begins.first _
    (rw (c.new.ensures.items, c.new-2.ensures.items) refl)

-- and nothing of it was closed
pub returns-clause-unclosed : goal.returns-clause-unclosed
returns-clause-unclosed c =
    let a = c.in_ok-a.ensures in
    let b = c.in_ok-b.ensures in
    begins_unclosed c.only_closed_streams_end_between.ensures.joined c.args.config_a.now c.args.config_b.now
    c.args.max_payload_size_a c.args.max_payload_size_b c.args.remote_of_a c.args.remote_of_b c.args.token_a.now
    c.args.token_b.now a.joined b.joined _ (rw (c.new.ensures.items, c.new-2.ensures.items) refl)

pub returns-clause-fresh : goal.returns-clause-fresh
returns-clause-fresh c = record {
  came = record {
    begin = _;
    new = returns-clause-counted c;
    led = refl;
    safely = returns-clause-counted c;
  };
  fresh = returns-clause-boundaries c;
  named = tt;
}

-- B is refused
pub returns-in_err-b-clause-refused : goal.returns-in_err-b-clause-refused
returns-in_err-b-clause-refused c =
    let p = err_from_is_err_and c.from_residual-in_err-b.result c.from_residual-in_err-b.ensures.1 in
    second_refuses Shown c.from_residual-in_err-b.result p.0 _
    (join_refusal c.args.max_payload_size_a c.args.token_a.now c.args.token_b.now)
    (join_refusal c.args.max_payload_size_b c.args.token_b.now c.args.token_a.now) p.1 p.2
    c.in_ok-a.ensures.refused c.in_err-b.ensures.refused
