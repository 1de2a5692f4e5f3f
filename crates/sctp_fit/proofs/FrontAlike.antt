-- The abandoned pieces in front of all others in flight are those of the direction's offsets past the acknowledged
-- reach, so the FORWARD TSN that an association makes says what its direction's does (RFC 3758 sections 3.2 and 3.5).
use Rattle.std.proofs.Common.{◌≡◌, refl, sym, ap, ◌∙◌, subst, ⊎_elim, ℕ, suc, ◌+◌, ◌%◌, ◌<◌, arith, Bool, true, false}
use Rattle.std.proofs.Common.{not, ◌&&◌, cond, eqb, List, [], ◌∷◌, ◌++◌, length, take, drop, Option, Some, None}
use Rattle.std.proofs.lemmas.Bool.{and_parts, cases_Bool, cond-true, cond-false, eqb-true, false≢true, lt-ltb}
use Rattle.std.proofs.lemmas.Bool.{true≢false}
use Rattle.std.proofs.lemmas.List.{drop_all}
use Rattle.std.proofs.Math.Seq.{drop-cons}
use Rattle.sctp_outbound_queue.specs.declared.message.InFlight.{InFlight}
use Rattle.sctp_outbound_queue.specs.Outbound.{abandoned_in_front_of}
use Rattle.sctp_model.specs.Messages.{Place, message_at, no_place, place_at}
use Rattle.sctp_model.specs.Packets.{wrapped}
use Rattle.sctp_model.specs.Machine.{Direction, Event, Sender, forward_of, gone_among, gone_front, happens}
use Rattle.sctp_model.specs.Machine.{is_gone, is_ordered_of, last_ssn}
use Rattle.sctp_fit.specs.Outgoing.{AreInFlight, FitsOutgoing, IsInFlight, Names}
use Rattle.sctp_fit.specs.Forwards.{ForwardsSayTheSame, IsForwardOf, last_ordered}
use Rattle.sctp_fit.proofs.SpansNamed.{named_within}

-- the pieces before the first one that stays, one by one
front_more : (x : InFlight) (xs : List InFlight) → x.abandoned ≡ true
    → abandoned_in_front_of (x ∷ xs) ≡ suc (abandoned_in_front_of xs)
front_more x xs e = rw e (omega arith)

front_none : (x : InFlight) (xs : List InFlight) → x.abandoned ≡ false → abandoned_in_front_of (x ∷ xs) ≡ 0
front_none x xs e = rw e refl

-- a found number that is wrapped is that of the piece, where this is an ordered one of the stream
module _ (m k : ℕ) (found seen : Option ℕ) (before : seen ≡ wrapped found) where
  found_here : (b c : Bool) → b ≡ c → (b ≡ true → m ≡ k % 65536)
      → cond b (Some m) seen ≡ wrapped (cond c (Some k) found)
  found_here true true same number = ap (λ z. Some z) (number refl)
  found_here false false same number = before
  found_here true false same number = absurd (true≢false same)
  found_here false true same number = absurd (false≢true same)

not_twice : (b : Bool) → not (not b) ≡ b
not_twice true = refl
not_twice false = refl

module _ (n : Names) (v : Sender) where
  -- the piece is an ordered one of stream s where its place is
  ordered_here : (s o : ℕ) (x : InFlight) → IsInFlight n v.plan v.acknowledged v.gone o x
      → (eqb x.message.stream_identifier s && not x.message.unordered) ≡ is_ordered_of v.plan s (place_at v.plan o)
  ordered_here s o x h =
      ap (λ z. eqb z s && not x.message.unordered) h.stream
      ∙ ap (λ z. eqb (place_at v.plan o).stream s && not z) h.message.ordered
      ∙ ap (λ z. eqb (place_at v.plan o).stream s && z)
      (not_twice (message_at v.plan x.message.stream_identifier (place_at v.plan o).message).ordered)
      ∙ ap (λ z. eqb (place_at v.plan o).stream s && (message_at v.plan z (place_at v.plan o).message).ordered) h.stream

  -- as many pieces are abandoned in front of all others in flight as offsets past the acknowledged reach
  pub front_alike : (o : ℕ) (xs : List InFlight) → AreInFlight n v.plan v.acknowledged v.gone o xs
      → abandoned_in_front_of xs ≡ length (gone_among v (drop o v.plan.places))
  front_alike o [] h = sym (ap (λ z. length (gone_among v z)) (drop_all o v.plan.places (omega (arith, h))))
  front_alike o (x ∷ xs) (h, hs) =
      ⊎_elim
      (λ (b : x.abandoned ≡ true).
      front_more x xs b ∙ ap suc (front_alike (suc o) xs hs)
      ∙ sym (ap length (front ∙ cond-true _ (y ∷ rest) [] (sym h.abandoned ∙ b))))
      (λ (b : x.abandoned ≡ false).
      front_none x xs b ∙ sym (ap length (front ∙ cond-false _ (y ∷ rest) [] (sym h.abandoned ∙ b))))
      (cases_Bool x.abandoned)
    where
      y : Place
      y = place_at v.plan o

      rest : List Place
      rest = gone_among v (drop (suc o) v.plan.places)

      front : gone_among v (drop o v.plan.places) ≡ cond (is_gone v y) (y ∷ rest) []
      front = ap (gone_among v) (drop-cons v.plan.places o no_place h.known)

  -- and of each stream within its span the last ordered one among them has the number that is told
  numbers_alike : (s o : ℕ) (xs : List InFlight) (found seen : Option ℕ) → n.within s ≡ true → seen ≡ wrapped found
      → AreInFlight n v.plan v.acknowledged v.gone o xs
      → last_ordered s (take (abandoned_in_front_of xs) xs) seen
      ≡ wrapped (last_ssn v.plan s (gone_among v (drop o v.plan.places)) found)
  numbers_alike s o [] found seen within same h =
      same
      ∙ sym (ap (λ z. wrapped (last_ssn v.plan s (gone_among v z) found))
      (drop_all o v.plan.places (omega (arith, h))))
  numbers_alike s o (x ∷ xs) found seen within same (h, hs) =
      ⊎_elim
      (λ (b : x.abandoned ≡ true).
      ap (λ z. last_ordered s (take z (x ∷ xs)) seen) (front_more x xs b)
      ∙ numbers_alike s (suc o) xs (cond (is_ordered_of v.plan s y) (Some y.ssn) found)
      (cond (eqb x.message.stream_identifier s && not x.message.unordered) (Some x.message.stream_sequence_number) seen)
      within
      (found_here x.message.stream_sequence_number y.ssn found seen same
      (eqb x.message.stream_identifier s && not x.message.unordered) (is_ordered_of v.plan s y) (ordered_here s o x h)
      (λ c. h.message.ssn (ap n.within (eqb-true x.message.stream_identifier s
      (and_parts (eqb x.message.stream_identifier s) (not x.message.unordered) c).0) ∙ within)))
      hs
      ∙ sym (told (cond-true _ (y ∷ rest) [] (sym h.abandoned ∙ b))))
      (λ (b : x.abandoned ≡ false).
      ap (λ z. last_ordered s (take z (x ∷ xs)) seen) (front_none x xs b)
      ∙ same ∙ sym (told (cond-false _ (y ∷ rest) [] (sym h.abandoned ∙ b))))
      (cases_Bool x.abandoned)
    where
      y : Place
      y = place_at v.plan o

      rest : List Place
      rest = gone_among v (drop (suc o) v.plan.places)

      told : {ys : List Place} → cond (is_gone v y) (y ∷ rest) [] ≡ ys
          → wrapped (last_ssn v.plan s (gone_among v (drop o v.plan.places)) found)
          ≡ wrapped (last_ssn v.plan s ys found)
      told e =
          ap (λ z. wrapped (last_ssn v.plan s z found))
          (ap (gone_among v) (drop-cons v.plan.places o no_place h.known) ∙ e)

-- the direction, with its FORWARD TSN made
abbrev with_forward : Direction → Direction
with_forward w = record w { forwards = w.forwards ++ forward_of w.sender w.over ∷ [] }

happens_forward_made : (w : Direction) → 0 < length (gone_front w.sender)
    → happens w Event.ForwardMade ≡ with_forward w
unfolding happens
happens_forward_made w l = cond-true _ (with_forward w) w (lt-ltb _ _ l)

-- Where abandoned pieces stand in front of all others in flight, the direction makes the FORWARD TSN that says so.
pub forwards_say_the_same : ForwardsSayTheSame
forwards_say_the_same a w some f = (
  subst (FitsOutgoing a) (sym event) (record {
    named = f.named;
    within = f.within;
    names = f.names;
    size = f.size;
    base = f.base;
    flight = f.flight;
    waiting = f.waiting;
    live = f.live;
    own_streams = f.own_streams;
  }),
  (forward_of w.sender w.over, said),
)
  where
    alike : abandoned_in_front_of a.queue.in_flight ≡ length (gone_front w.sender)
    alike = front_alike f.named w.sender w.sender.reach a.queue.in_flight f.flight

    event : happens w Event.ForwardMade ≡ with_forward w
    event = happens_forward_made w (subst (λ z. 0 < z) alike some)

    said : IsForwardOf a w (forward_of w.sender w.over)
    said = record {
      made = ap (λ (z : Direction). z.forwards) event;
      reach =
          ap (λ z. w.sender.reach + z) (sym alike) ∙ ap (λ z. z + abandoned_in_front_of a.queue.in_flight) (sym f.base);
      streams = λ s v.
          sym (numbers_alike f.named w.sender s w.sender.reach a.queue.in_flight None None (named_within a w f s v) refl
          f.flight);
    }
