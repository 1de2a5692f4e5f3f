-- What a fit says outright: what of a stream is released and not buffered, how far the acknowledgements reach, and how
-- many offsets are assigned.
use Rattle.std.proofs.Common.{sym, subst, arith}
use Rattle.sctp_fit.specs.Outgoing.{IsOwnAt}
use Rattle.sctp_fit.specs.Acknowledgements.{SendersArePinned, WhatIsReleasedIsNotBuffered}
use Rattle.sctp_fit.proofs.SentAgain.{flight_length}

-- What is released of a live stream within its span is what was accepted and is not buffered.
pub what_is_released_is_not_buffered : WhatIsReleasedIsNotBuffered
what_is_released_is_not_buffered a id t w e within f =
    subst (IsOwnAt w.sender.plan (w.sender.released id) id) e (f.own_streams id within)

-- The reach and the number of assigned offsets follow from what the association has.
pub senders_are_pinned : SendersArePinned
senders_are_pinned a w f = (
  sym f.base,
  let n =
      flight_length f.named w.sender.plan w.sender.acknowledged w.sender.gone w.sender.reach a.queue.in_flight
      f.flight in
      let b = f.base in
      omega arith,
)
