-- What is known of the first pieces in flight, as they change.
use Rattle.std.proofs.Common.{◌≡◌, ℕ, zero, suc, ◌≤◌, ◌&&◌, Bool, true, false, not, List, []}
use Rattle.std.proofs.Common.{◌∷◌, ◌++◌, Some, map, take, drop, slice_get, refl, ap, sym, ◌∙◌}
use Rattle.std.proofs.Common.{arith, ⊎_elim, true≢false}
use Rattle.std.specs.Prelude.{slice_set}
use Rattle.std.specs.List.{position_or_len}
use Rattle.std.proofs.lemmas.Bool.{cases_Bool}
use Rattle.sctp_outbound_queue.specs.declared.front.Front.{Front}
use Rattle.sctp_outbound_queue.specs.declared.message.Attributes.{Attributes}
use Rattle.sctp_outbound_queue.specs.declared.message.InFlight.{InFlight}
use Rattle.sctp_outbound_queue.specs.declared.message.Reports.{Reports}
use Rattle.sctp_outbound_queue.specs.declared.message.Retransmission.{Retransmission}
use Rattle.sctp_outbound_queue.specs.declared.message.Retransmission.TheVariants as causes
use Rattle.sctp_outbound_queue.specs.Waiting.{Waiting}
use Rattle.sctp_outbound_queue.specs.Front.{AreInOrder, IsFront, piece_ids, started_front}
use Rattle.sctp_outbound_queue.specs.Message.{counted_again, flagged, is_expired, is_expired_piece, is_of}
use Rattle.sctp_outbound_queue.specs.Message.{is_outstanding, is_reported, marked_again, reported_missing}
use Rattle.sctp_outbound_queue.specs.Message.{sent_started}
use Rattle.sctp_outbound_queue.specs.Outbound.{abandoned_in_front_of}
use Rattle.sctp_outbound_queue.proofs.Positions.{later_after, later_with}
use Rattle.sctp_outbound_queue.proofs.Timely.{expired_later}

-- pieces that are abandoned alike, of the same messages

abbrev pub outline : InFlight → Bool × Attributes
outline p = (p.abandoned, p.message)

abbrev pub AreLike : List InFlight → List InFlight → Type 0
AreLike ps qs = map outline ps ≡ map outline qs

abbrev is_kept : InFlight → Bool
is_kept p = not p.abandoned

position_mapped : {X Y : Type 0} (f : X → Y) (test : Y → Bool) (xs : List X)
    → position_or_len test (map f xs) ≡ position_or_len (λ x. test (f x)) xs
position_mapped f test [] = refl
position_mapped f test (x ∷ xs) = rw (position_mapped f test xs) refl

map_twice : {X Y Z : Type 0} (f : X → Y) (g : Y → Z) (xs : List X) → map g (map f xs) ≡ map (λ x. g (f x)) xs
map_twice f g [] = refl
map_twice f g (x ∷ xs) = ap (λ z. g (f x) ∷ z) (map_twice f g xs)

abandoned_alike : (ps qs : List InFlight) → AreLike ps qs → abandoned_in_front_of ps ≡ abandoned_in_front_of qs
abandoned_alike ps qs alike =
    let kept : Bool × Attributes → Bool = λ o. not o.0 in
    sym (position_mapped outline kept ps) ∙ ap (position_or_len kept) alike ∙ position_mapped outline kept qs

expired_alike : (at : ℕ) (ps qs : List InFlight) → AreLike ps qs
    → position_or_len (is_expired_piece at) ps ≡ position_or_len (is_expired_piece at) qs
expired_alike at ps qs alike =
    let over : Bool × Attributes → Bool = λ o. not o.0 && is_expired at o.1 in
    sym (position_mapped outline over ps) ∙ ap (position_or_len over) alike ∙ position_mapped outline over qs

ids_alike : (ps qs : List InFlight) → AreLike ps qs → piece_ids ps ≡ piece_ids qs
ids_alike ps qs alike =
    let id : Bool × Attributes → ℕ = λ o. o.1.message_id in
    sym (map_twice outline id ps) ∙ ap (map id) alike ∙ map_twice outline id qs

pub front_alike : (f : Front) (ps qs : List InFlight) → AreLike ps qs → IsFront f ps → IsFront f qs
front_alike f ps qs alike (over, passed) =
    let same = abandoned_alike ps qs alike in
    (omega (arith, over, same), omega (arith, passed, expired_alike f.passed_at ps qs alike))

pub order_alike : (ps qs : List InFlight) (ms : List Waiting) (next : ℕ) → AreLike ps qs → AreInOrder ps ms next
    → AreInOrder qs ms next
order_alike ps qs ms next alike order = rw (ids_alike ps qs alike) at order

pub alike_each : (g : InFlight → InFlight) → ((p : InFlight) → outline (g p) ≡ outline p) → (ps : List InFlight)
    → AreLike ps (map g ps)
alike_each g same [] = refl
alike_each g same (p ∷ ps) =
    ap (λ z. z ∷ map outline ps) (sym (same p)) ∙ ap (λ z. outline (g p) ∷ z) (alike_each g same ps)

pub alike_first : (g : InFlight → InFlight) → ((p : InFlight) → outline (g p) ≡ outline p) → (n : ℕ)
    (ps : List InFlight) → AreLike ps (map g (take n ps) ++ drop n ps)
alike_first g same zero ps = refl
alike_first g same (suc n) [] = refl
alike_first g same (suc n) (p ∷ ps) =
    ap (λ z. z ∷ map outline ps) (sym (same p)) ∙ ap (λ z. outline (g p) ∷ z) (alike_first g same n ps)

pub alike_at : (ps : List InFlight) (i : ℕ) (x y : InFlight) → slice_get ps i ≡ Some x → outline y ≡ outline x
    → AreLike ps (slice_set ps i y)
alike_at [] i x y there same = refl
alike_at (p ∷ ps) zero x y there same =
    let is : p ≡ x = cc in
    ap (λ z. z ∷ map outline ps) (ap outline is ∙ sym same)
alike_at (p ∷ ps) (suc i) x y there same = ap (λ z. outline p ∷ z) (alike_at ps i x y there same)

pub outline_marked : (p : InFlight) → outline (marked_again p) ≡ outline p
outline_marked p =
    ⊎_elim (λ (a : is_outstanding p ≡ true). rw a refl) (λ (a : is_outstanding p ≡ false). rw a refl)
    (cases_Bool (is_outstanding p))

pub outline_reported : (r : Reports) (p : InFlight) → outline (reported_missing r p) ≡ outline p
outline_reported r p =
    ⊎_elim (λ (a : is_reported r p ≡ true). rw a refl) (λ (a : is_reported r p ≡ false). rw a refl)
    (cases_Bool (is_reported r p))

pub outline_resent : (by : Retransmission) (p : InFlight) → outline (counted_again by p) ≡ outline p
outline_resent causes.Timer p = refl
outline_resent causes.Fast p = refl

-- one piece more

pub front_more : (f : Front) (ps : List InFlight) (p : InFlight) → IsFront f ps → IsFront f (ps ++ p ∷ [])
front_more f ps p (over, passed) = (
  omega (arith, over, later_with is_kept ps p),
  omega (arith, passed, later_with (is_expired_piece f.passed_at) ps p),
)

-- pieces of a message are abandoned

pub kept_less : (id : ℕ) (ps : List InFlight)
    → abandoned_in_front_of ps ≤ abandoned_in_front_of (map (flagged id) ps)
kept_less id ps = later_after is_kept (flagged id) stays ps where
  stays : (p : InFlight) → is_kept p ≡ false → is_kept (flagged id p) ≡ false
  stays p gone = ⊎_elim (λ (t : is_of id p ≡ true). rw t refl) (λ (f : is_of id p ≡ false). rw f gone)
      (cases_Bool (is_of id p))

pub expired_less : (id at : ℕ) (ps : List InFlight)
    → position_or_len (is_expired_piece at) ps ≤ position_or_len (is_expired_piece at) (map (flagged id) ps)
expired_less id at ps = later_after (is_expired_piece at) (flagged id) stays ps where
  stays : (p : InFlight) → is_expired_piece at p ≡ false → is_expired_piece at (flagged id p) ≡ false
  stays p e = ⊎_elim (λ (t : is_of id p ≡ true). rw t refl) (λ (f : is_of id p ≡ false). rw f e)
      (cases_Bool (is_of id p))

pub front_flagged : (f : Front) (id : ℕ) (ps qs : List InFlight) → qs ≡ map (flagged id) ps → IsFront f ps
    → IsFront (record f { abandoned = abandoned_in_front_of qs }) qs
front_flagged f id ps qs is (over, passed) = (omega arith, rw is (omega (arith, passed, expired_less id f.passed_at ps)))

-- times begin to run

kept_started : (now : ℕ) (ps : List InFlight)
    → abandoned_in_front_of (map (sent_started now) ps) ≡ abandoned_in_front_of ps
kept_started now [] = refl
kept_started now (p ∷ ps) = rw (kept_started now ps) refl

pub ids_started : (now : ℕ) (ps : List InFlight) → piece_ids (map (sent_started now) ps) ≡ piece_ids ps
ids_started now [] = refl
ids_started now (p ∷ ps) = ap (λ z. p.message.message_id ∷ z) (ids_started now ps)

pub front_started : (run : Bool) (now : ℕ) (f : Front) (ps qs : List InFlight) → (run ≡ true → ps ≡ qs)
    → qs ≡ map (sent_started now) ps → IsFront f ps → IsFront (started_front run f) qs
front_started run now f ps qs same is (over, passed) =
    ⊎_elim (λ (a : run ≡ true).
    let whole : IsFront f ps = (over, passed) in
    rw a (rw (same a) at whole))
    (λ (a : run ≡ false).
    let as_many = ap abandoned_in_front_of is in
    rw a (omega (arith, over, as_many, kept_started now ps), omega arith))
    (cases_Bool run)

-- what an earlier look passed

over_later : (now at : ℕ) (p : InFlight) → now ≤ at → is_expired_piece now p ≡ true → is_expired_piece at p ≡ true
over_later now at p le e =
    ⊎_elim (λ (b : p.abandoned ≡ true). let none = rw b at e in absurd (true≢false (sym none)))
    (λ (b : p.abandoned ≡ false). let late = rw b at e in
    rw b (expired_later now at p.message.policy p.message.deadline le late))
    (cases_Bool p.abandoned)

pub earlier_over : (now at : ℕ) (ps : List InFlight) → now ≤ at
    → position_or_len (is_expired_piece at) ps ≤ position_or_len (is_expired_piece now) ps
earlier_over now at [] le = omega arith
earlier_over now at (p ∷ ps) le =
    let rest = earlier_over now at ps le in
    ⊎_elim (λ (a : is_expired_piece now p ≡ true). rw (a, over_later now at p le a) (omega arith))
    (λ (a : is_expired_piece now p ≡ false).
    ⊎_elim (λ (b : is_expired_piece at p ≡ true). rw (a, b) (omega arith))
    (λ (b : is_expired_piece at p ≡ false). rw (a, b) (omega (arith, rest)))
    (cases_Bool (is_expired_piece at p)))
    (cases_Bool (is_expired_piece now p))
