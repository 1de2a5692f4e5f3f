-- A request is carried as it is where its numbers fit; and what is so of it by the course of a stream is so of what it
-- is carried as.
use Rattle.std.proofs.Common.{◌≡◌, refl, ap, ◌∙◌, ℕ, ◌%◌, ◌^◌, ◌<◌, arith, map, List, [], ◌∷◌}
use Rattle.std.specs.List.{AllByRecursion}
use Rattle.sctp_serial.specs.Serial.{tsn}
use Rattle.sctp_wire_types.specs.declared.param.ParamOutgoingResetRequest.{ParamOutgoingResetRequest}
use Rattle.sctp_wire.specs.Numbers.{IsU16}
use Rattle.sctp_wire.specs.Params.{IsResetRequest}
use Rattle.sctp_reset_requests.specs.Ids.{set_of}
use Rattle.sctp_reset_requests.specs.Peer.{number_before}
use Rattle.sctp_reset_requests.specs.Request.{names}
use Rattle.sctp_courses.specs.Course.{Course, boundary_at}
use Rattle.sctp_reset_fit.specs.Stands.{last_below}
use Rattle.sctp_course_sides.specs.Answers.{IsOfPerformed}
use Rattle.sctp_course_sides.specs.Follows.{IsAskedIn}
use Rattle.sctp_course_sides.specs.Spelled.{carried}

number_fits : (n : ℕ) → n < 2 ^ 32 → n % 2 ^ 32 ≡ n
number_fits n l = omega arith

identifier_fits : (n : ℕ) → n < 2 ^ 16 → n % 2 ^ 16 ≡ n
identifier_fits n l = omega arith

identifiers_fit : (ids : List ℕ) → AllByRecursion IsU16 ids → map (λ (id : ℕ). id % 2 ^ 16) ids ≡ ids
identifiers_fit [] fit = refl
identifiers_fit (id ∷ ids) (one, more) = rw (identifier_fits id one, identifiers_fit ids more) refl

request_made : (p : ParamOutgoingResetRequest) (number response last : ℕ) (ids : List ℕ)
    → number ≡ p.reconfig_request_sequence_number → response ≡ p.reconfig_response_sequence_number
    → last ≡ p.sender_last_tsn → ids ≡ p.stream_identifiers
    → record {
      reconfig_request_sequence_number = number;
      reconfig_response_sequence_number = response;
      sender_last_tsn = last;
      stream_identifiers = ids;
    }
    ≡ p
request_made p number response last ids e f g h = rw (e, f, g, h) refl

-- a request whose numbers fit is carried as it is
pub carried_whole : (p : ParamOutgoingResetRequest) → IsResetRequest p → carried p ≡ p
carried_whole p fits =
    request_made p (p.reconfig_request_sequence_number % 2 ^ 32) (p.reconfig_response_sequence_number % 2 ^ 32)
    (p.sender_last_tsn % 2 ^ 32) (map (λ (id : ℕ). id % 2 ^ 16) p.stream_identifiers)
    (number_fits p.reconfig_request_sequence_number fits.0) (number_fits p.reconfig_response_sequence_number fits.1)
    (number_fits p.sender_last_tsn fits.2) (identifiers_fit p.stream_identifiers fits.3)

number_of_course : (initial offset n : ℕ) → n ≡ tsn initial offset → n % 2 ^ 32 ≡ tsn initial offset
number_of_course initial offset n e = omega arith

last_of_course : (initial boundary n : ℕ) → n ≡ last_below initial boundary → n % 2 ^ 32 ≡ last_below initial boundary
last_of_course initial boundary n e = omega arith

-- One of the requests of the course is carried as that one, where its identifiers fit.
pub carried_asked : (initial id : ℕ) (c : Course) (p : ParamOutgoingResetRequest)
    → AllByRecursion IsU16 p.stream_identifiers → IsAskedIn initial id c p → IsAskedIn initial id c (carried p)
carried_asked initial id c p fit h = record {
  index = h.index;
  asked = h.asked;
  number = number_of_course initial h.index p.reconfig_request_sequence_number h.number;
  last = last_of_course initial (boundary_at c.asked h.index) p.sender_last_tsn h.last;
  named =
      ap (λ (ids : List ℕ). names (record { number = 0; last_tsn = 0; ids = set_of ids }) id)
      (identifiers_fit p.stream_identifiers fit)
      ∙ h.named;
}

performed_of_course : (n m : ℕ) → n ≡ number_before m → n % 2 ^ 32 ≡ number_before m
performed_of_course n m e = omega arith

-- the number of a request that was performed is carried as it is
pub carried_performed : (initial : ℕ) (c : Course) (number : ℕ) → IsOfPerformed initial c number
    → IsOfPerformed initial c (number % 2 ^ 32)
carried_performed initial c number h = record {
  count = h.count;
  performed = h.performed;
  is = performed_of_course number (tsn initial h.count) h.is;
}
