-- The numbers of the requests of a side that sends the course of a stream.
use Rattle.std.proofs.Common.{ℕ, ◌<◌, ◌^◌}
use Rattle.sctp_model.proofs.Lists.{all_weaker}
use Rattle.sctp_reset_requests.specs.declared.own_request.OwnRequest.{OwnRequest}
use Rattle.sctp_reset_requests.specs.Own.{open_with}
use Rattle.sctp_courses.specs.Course.{Course}
use Rattle.sctp_directions.specs.Acts.{History}
use Rattle.sctp_assoc.specs.Shown.{Shown}
use Rattle.sctp_course_sides.specs.Sends.{AreSmall, NamesStreams, Sends}

-- They have 32 bits.
pub sends_small : (initial id : ℕ) (a : Shown) (h : History) (c : Course) → Sends initial id a h c
    → AreSmall a.resets.own.active a.resets.own.queued
sends_small initial id a h c s =
    all_weaker NamesStreams (λ (r : OwnRequest). r.number < 2 ^ 32)
    (open_with a.resets.own.active a.resets.own.queued) (λ (r : OwnRequest) (n : NamesStreams r). n.numbered) s.by_ids
