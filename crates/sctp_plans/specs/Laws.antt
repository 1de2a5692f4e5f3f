-- What is made of pieces of a plan.
use Rattle.std.specs.Prelude.{◌≡◌, ◌<◌, ◌≤◌, ◌+◌, ◌^◌, ℕ, Bool, true, List, length}
use Rattle.std.specs.List.{AllByRecursion}
use Rattle.sctp_wire_types.specs.declared.chunk.ChunkPayloadData.{ChunkPayloadData}
use Rattle.sctp_wire_types.specs.Ids.{number_of}
use Rattle.sctp_receive_queues.specs.Messages.{ReceivedMessage, message_of}
use Rattle.sctp_receive_queues.specs.Pieces.{has_tsn, is_complete}
use Rattle.sctp_model.specs.Messages.{Plan, message_at}
use Rattle.sctp_model.specs.Invariants.{IsPlanned}
use Rattle.sctp_courses.specs.Course.{times}
use Rattle.sctp_reset_fit.specs.Held.{offsets_in}
use Rattle.sctp_reset_fit.specs.Pieces.{IsMadeOf}
use Rattle.sctp_plans.specs.Plans.{HasItsType, IsAccepted, IsAcceptedPiece, IsGrown, IsOfPlan}

-- A message, on whatever stream, that is made of pieces of which P is so is one that was accepted, whole.
abbrev pub WereAccepted : ℕ → Plan → (ChunkPayloadData → Type 0) → Type 0
WereAccepted initial p P = (id : ℕ) (over : ℕ → Bool) (m : ReceivedMessage) → IsPlanned p over
    → length p.places < 2 ^ 31 → (made : IsMadeOf P id m) → IsAccepted initial id p m made.pieces

-- What is made of pieces of a plan was accepted.
abbrev pub WhatIsMadeOfAPlanWasAccepted : Type 0
WhatIsMadeOfAPlanWasAccepted = (initial : ℕ) (p : Plan) → WereAccepted initial p (IsOfPlan initial p)

-- So was what is made of pieces that pass a test, if none but pieces of the plan pass it.
abbrev pub WhatPassesAndIsMadeWasAccepted : Type 0
WhatPassesAndIsMadeWasAccepted = (initial : ℕ) (p : Plan) (test : ChunkPayloadData → Bool)
    → ((c : ChunkPayloadData) → test c ≡ true → IsOfPlan initial p c)
    → WereAccepted initial p (λ (c : ChunkPayloadData). test c ≡ true)

-- An accepted message that is made of all these pieces has the payload type that was accepted with it, if each piece
-- has the payload type of its message.
abbrev pub AcceptedMessagesHaveTheirType : Type 0
AcceptedMessagesHaveTheirType = (initial id : ℕ) (p : Plan) (m : ReceivedMessage) (pieces : List ChunkPayloadData)
    → (a : IsAccepted initial id p m pieces) → is_complete pieces ≡ true → m ≡ message_of pieces
    → AllByRecursion (λ (c : ChunkPayloadData). HasItsType initial p c) pieces
    → number_of m.payload_type ≡ (message_at p id a.number).payload_type

-- Two messages of a stream that are made of pieces none of which have a TSN in common are two of those accepted.
abbrev pub OtherPiecesAreAnotherMessage : Type 0
OtherPiecesAreAnotherMessage = (initial id : ℕ) (p : Plan) (m n : ReceivedMessage) (ps qs : List ChunkPayloadData)
    → (a : IsAccepted initial id p m ps) → (b : IsAccepted initial id p n qs) → is_complete qs ≡ true
    → ((t : ℕ) → has_tsn t ps ≡ true → has_tsn t qs ≡ true → ⊥) → a.number ≡ b.number → ⊥

-- So are two that are made of pieces on offsets of which none stands twice in all.
abbrev pub OtherOffsetsAreAnotherMessage : Type 0
OtherOffsetsAreAnotherMessage = (initial id : ℕ) (p : Plan) (m n : ReceivedMessage) (ps qs : List ChunkPayloadData)
    → (a : IsAccepted initial id p m ps) → (b : IsAccepted initial id p n qs) → is_complete qs ≡ true
    → ((o : ℕ) → times o (offsets_in initial ps) + times o (offsets_in initial qs) ≤ 1) → a.number ≡ b.number → ⊥

-- What is made of pieces of accepted messages was accepted, under its payload type.
abbrev pub WhatIsMadeOfAcceptedPiecesWasAccepted : Type 0
WhatIsMadeOfAcceptedPiecesWasAccepted = (initial id : ℕ) (p : Plan) (over : ℕ → Bool) (m : ReceivedMessage)
    → IsPlanned p over → length p.places < 2 ^ 31 → (made : IsMadeOf (IsAcceptedPiece initial p) id m)
    → (a : IsAccepted initial id p m made.pieces)
    × (number_of m.payload_type ≡ (message_at p id a.number).payload_type)

-- A piece of an accepted message stays one when the plan grows.
abbrev pub AcceptedPiecesStay : Type 0
AcceptedPiecesStay = (initial : ℕ) (p q : Plan) (c : ChunkPayloadData) → IsGrown p q → IsAcceptedPiece initial p c
    → IsAcceptedPiece initial q c
