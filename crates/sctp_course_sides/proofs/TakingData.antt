-- New DATA goes on the course as the side takes it in: to its stream, or with what waits for a later generation. DATA
-- that nobody reads is taken in there all the same.
use Rattle.std.proofs.Common.{◌≡◌, refl, sym, ◌∙◌, subst, ℕ, ◌<◌, Bool, true, false, not, ◌&&◌}
use Rattle.std.proofs.Common.{eqb, if◌then◌else◌, is_some, List, [], ◌∷◌, length, Option, Some, None, arith}
use Rattle.std.proofs.lemmas.Bool.{eqb-false, eqb-true, or_parts, or_right}
use Rattle.sctp_wire_types.specs.declared.chunk.ChunkPayloadData.{ChunkPayloadData}
use Rattle.sctp_model.specs.Packets.{mem}
use Rattle.sctp_streams.specs.Stream.{StreamView}
use Rattle.sctp_streams.specs.Streams.{StreamMap, pushed_at, pushed_in, refusal_at, stream_at}
use Rattle.sctp_generations.specs.Generations.{GenerationsView, retires}
use Rattle.sctp_generations.specs.Retiring.{boundaries_at}
use Rattle.sctp_reset_requests.specs.Laws.{IsCompletedUpTo}
use Rattle.sctp_reset_requests.specs.Request.{PeerRequestView}
use Rattle.sctp_resets.specs.Resets.{ResetsView, is_hidden, with_deferred}
use Rattle.sctp_courses.specs.Course.{Course, Live, is_readable}
use Rattle.sctp_courses.specs.Events as events
use Rattle.sctp_courses.specs.Events.{Event, happens, is_idle, is_new}
use Rattle.sctp_reset_fit.specs.Held.{IsHeldOn}
use Rattle.sctp_reset_fit.specs.Keeping.{GoesOn, GoesOnBeside, IsAsFar, StandsBeside}
use Rattle.sctp_reset_fit.specs.Laws.{LeadsOn, Stands}
use Rattle.sctp_reset_fit.specs.Stands.{IsNear, IsReadOn, LiveAs, MarksAs, offset_of}
use Rattle.sctp_reset_fit.proofs.Keeping.{beside_keeps, far_of, goes_by, goes_kept, goes_nowhere, goes_of, goes_on}
use Rattle.sctp_reset_fit.proofs.Proved.{later_data_waits, left_data_is_taken, new_data_is_taken}
use Rattle.sctp_reset_fit.proofs.Streams.{deferred_elsewhere_keeps, pushed_elsewhere_keeps}

-- The course goes on where an offset was taken in, or nothing was.
pub record TakesOn (P : ChunkPayloadData → Type 0) (initial id o : ℕ) (r : ResetsView) (m : StreamMap)
    (c : Course) : Type 0 where
  pub after : Course
  pub goes : GoesOn c after
  pub stands : StandsBeside P initial id r m after
  pub told : after.told ≡ c.told
  pub point : after.point ≡ c.point
  pub taken : (n : ℕ) → mem n after.taken ≡ true → mem n (o ∷ c.taken) ≡ true

takes_nothing : (P : ChunkPayloadData → Type 0) (initial id o : ℕ) (r : ResetsView) (m : StreamMap) (c : Course)
    → StandsBeside P initial id r m c
    → TakesOn P initial id o r m c
takes_nothing P initial id o r m c h = record {
  after = c;
  goes = goes_nowhere c;
  stands = h;
  told = refl;
  point = refl;
  taken = λ n e. or_right (eqb o n) (mem n c.taken) e;
}

takes_beside : (P : ChunkPayloadData → Type 0) (initial id o : ℕ) (r : ResetsView) (m : StreamMap) (c : Course)
    → GoesOnBeside P initial id r m c
    → TakesOn P initial id o r m c
takes_beside P initial id o r m c g = record {
  after = g.after;
  goes = g.goes;
  stands = g.stands;
  told = g.told;
  point = g.point;
  taken = λ n e. or_right (eqb o n) (mem n c.taken) (subst (λ xs. mem n xs ≡ true) g.taken e);
}

-- What comes by an event is no more than an offset.
record IsBy (o : ℕ) (c d : Course) : Type 0 where
  told : d.told ≡ c.told
  point : d.point ≡ c.point
  performed : d.performed ≡ c.performed
  taken : (n : ℕ) → mem n d.taken ≡ true → mem n (o ∷ c.taken) ≡ true

by_if : (b : Bool) (o : ℕ) (c d : Course) → IsBy o c d → IsBy o c (if b then d else c)
by_if true o c d x = x
by_if false o c d x = record {
  told = refl;
  point = refl;
  performed = refl;
  taken = λ n e. or_right (eqb o n) (mem n c.taken) e;
}

takes_by : (o : ℕ) (c : Course) → IsBy o c (happens c (Event.Takes o))
takes_by o c =
    by_if (is_idle c && (is_new c o && (is_some c.live && not (events.is_hidden c o)))) o c (events.taken_in c o)
    (record { told = refl; point = refl; performed = refl; taken = λ n e. e })

keeps_by : (o : ℕ) (c : Course) → IsBy o c (happens c (Event.Keeps o))
keeps_by o c =
    by_if (is_idle c && (is_new c o && events.is_hidden c o)) o c (events.kept c o)
    (record { told = refl; point = refl; performed = refl; taken = λ n e. e })

-- What ended and has nothing to read was passed, too

none_of : (o : Option (List ℕ)) → is_some o ≡ false → o ≡ None
none_of None e = refl
none_of (Some boundaries) e = absurd (let f : true ≡ false = e in cc)

marks_too : (initial : ℕ) (o : Option (List ℕ)) (marks others : List ℕ) → MarksAs initial o marks
    → MarksAs initial o others → (others ≡ [] → ⊥) → marks ≡ [] → ⊥
marks_too initial None marks others h k some e = some k
marks_too initial (Some boundaries) marks others h k some e = none marks h.1 e
  where
    none : (xs : List ℕ) → 0 < length xs → xs ≡ [] → ⊥
    none xs some e = absurd (let f : 0 < 0 = subst (λ (ys : List ℕ). 0 < length ys) e some in omega (arith, f))

readable_too : (P : ChunkPayloadData → Type 0) (initial id : ℕ) (o : Option StreamView) (l k : Option Live)
    → LiveAs (IsHeldOn P initial id) o l
    → LiveAs (IsHeldOn P initial id) o k → is_readable l ≡ true → is_readable k ≡ true
readable_too P initial id None None None h i e = e
readable_too P initial id None None (Some k) h i e = absurd i
readable_too P initial id None (Some l) k h i e = absurd h
readable_too P initial id (Some t) None k h i e = absurd h
readable_too P initial id (Some t) (Some l) None h i e = absurd i
readable_too P initial id (Some t) (Some l) (Some k) h i e = i.is_open ∙ sym h.is_open ∙ e

read_on_too : (P : ChunkPayloadData → Type 0) (initial id : ℕ) (f g : GenerationsView) (m : StreamMap)
    (q : Option PeerRequestView) (c d : Course)
    → g.retiring ≡ f.retiring → Stands P initial id f m q c → Stands P initial id g m q d → IsReadOn c → IsReadOn d
read_on_too P initial id f g m q c d same h k read some =
    readable_too P initial id (stream_at m id) c.live d.live h.live k.live
    (read
    (marks_too initial (boundaries_at f.retiring id) c.marks d.marks h.marks
    (subst (λ rs. MarksAs initial (boundaries_at rs id) d.marks) same k.marks) some))

-- DATA of the stream

-- what leads on behind an event that brings an offset
led : (P : ChunkPayloadData → Type 0) (initial id o : ℕ) (e : Event) (r s : ResetsView) (m n : StreamMap) (c : Course)
    → StandsBeside P initial id r m c
    → s.peer ≡ r.peer → IsBy o c (happens c e) → (goes : GoesOn c (happens c e))
    → (l : LeadsOn P initial id s.generations n s.peer.in_progress (happens c e)) → IsReadOn l.after
    → TakesOn P initial id o s n c
led P initial id o e r s m n c h peer by goes l read =
    let far : IsAsFar (happens c e) l.after = far_of (happens c e) l.after l.leads in
    let all : GoesOn c l.after = goes_on c (happens c e) l.after goes (goes_of (happens c e) l.after l.leads) in
    record {
      after = l.after;
      goes = all;
      stands = record {
        kept = goes_kept c l.after all h.kept;
        stands = l.stands;
        read_on = read;
        numbered = subst (λ p. IsCompletedUpTo initial l.after.performed p) (sym peer)
            (subst (λ k. IsCompletedUpTo initial k r.peer) (sym (far.performed ∙ by.performed)) h.numbered);
      };
      told = l.told ∙ by.told;
      point = far.point ∙ by.point;
      taken = λ k f. by.taken k (subst (λ xs. mem k xs ≡ true) far.taken f);
    }

module _ (P : ChunkPayloadData → Type 0) (initial : ℕ) (piece : ChunkPayloadData) (so : P piece)
    (near : IsNear initial piece.tsn) (r : ResetsView) (m : StreamMap)
    (c : Course) where
  -- of the generation that is read
  takes_here : (limit : ℕ) → StandsBeside P initial piece.stream_identifier r m c
      → is_new c (offset_of initial piece.tsn) ≡ true → is_hidden r piece.stream_identifier piece.tsn ≡ false
      → (o : Option StreamView) → stream_at m piece.stream_identifier ≡ o → refusal_at o piece limit ≡ None
      → TakesOn P initial piece.stream_identifier (offset_of initial piece.tsn) r
      (pushed_at o m piece.stream_identifier piece).0 c
  takes_here limit h new out None is accepted =
      takes_nothing P initial piece.stream_identifier (offset_of initial piece.tsn) r m c h
  takes_here limit h new out (Some t) is accepted =
      let l : LeadsOn P initial piece.stream_identifier r.generations (pushed_in m piece.stream_identifier piece).0
      r.peer.in_progress (happens c (Event.Takes (offset_of initial piece.tsn))) =
      new_data_is_taken P initial limit piece t r.generations m r.peer.in_progress c h.kept h.stands so near is accepted
      new
      out in
      let none : boundaries_at r.generations.retiring piece.stream_identifier ≡ None =
      none_of (boundaries_at r.generations.retiring piece.stream_identifier)
      (or_parts (retires r.generations piece.stream_identifier) _ out).0 in
      let unmarked : l.after.marks ≡ [] = subst (λ x. MarksAs initial x l.after.marks) none l.stands.marks in
      subst
      (λ x. TakesOn P initial piece.stream_identifier (offset_of initial piece.tsn) r
      (pushed_at x m piece.stream_identifier piece).0 c) is
      (led P initial piece.stream_identifier (offset_of initial piece.tsn)
      (Event.Takes (offset_of initial piece.tsn)) r r
      m (pushed_in m piece.stream_identifier piece).0 c h refl (takes_by (offset_of initial piece.tsn) c)
      (goes_by c (Event.Takes (offset_of initial piece.tsn)) refl) l (λ some. absurd (some unmarked)))

  -- of that generation, where it does not go to its stream: that stays as it was
  leaves_here : StandsBeside P initial piece.stream_identifier r m c → is_new c (offset_of initial piece.tsn) ≡ true
      → is_hidden r piece.stream_identifier piece.tsn ≡ false
      → (o : Option StreamView) → stream_at m piece.stream_identifier ≡ o
      → TakesOn P initial piece.stream_identifier (offset_of initial piece.tsn) r m c
  leaves_here h new out None is =
      takes_nothing P initial piece.stream_identifier (offset_of initial piece.tsn) r m c h
  leaves_here h new out (Some t) is =
      let l : LeadsOn P initial piece.stream_identifier r.generations m r.peer.in_progress
      (happens c (Event.Takes (offset_of initial piece.tsn))) =
      left_data_is_taken P initial piece t r.generations m r.peer.in_progress c h.kept h.stands near is new out in
      let none : boundaries_at r.generations.retiring piece.stream_identifier ≡ None =
      none_of (boundaries_at r.generations.retiring piece.stream_identifier)
      (or_parts (retires r.generations piece.stream_identifier) _ out).0 in
      let unmarked : l.after.marks ≡ [] = subst (λ x. MarksAs initial x l.after.marks) none l.stands.marks in
      led P initial piece.stream_identifier (offset_of initial piece.tsn) (Event.Takes (offset_of initial piece.tsn)) r
      r m m c h refl (takes_by (offset_of initial piece.tsn) c)
      (goes_by c (Event.Takes (offset_of initial piece.tsn)) refl) l (λ some. absurd (some unmarked))

  -- of a later one
  waits_here : StandsBeside P initial piece.stream_identifier r m c → is_new c (offset_of initial piece.tsn) ≡ true
      → is_hidden r piece.stream_identifier piece.tsn ≡ true
      → TakesOn P initial piece.stream_identifier (offset_of initial piece.tsn) (with_deferred r piece) m c
  waits_here h new out =
      let l : LeadsOn P initial piece.stream_identifier (with_deferred r piece).generations m r.peer.in_progress
      (happens c (Event.Keeps (offset_of initial piece.tsn))) =
      later_data_waits P initial piece r.generations m r.peer.in_progress c h.kept h.stands so near new out in
      led P initial piece.stream_identifier (offset_of initial piece.tsn) (Event.Keeps (offset_of initial piece.tsn)) r
      (with_deferred r piece) m m c h refl (keeps_by (offset_of initial piece.tsn) c)
      (goes_by c (Event.Keeps (offset_of initial piece.tsn)) refl) l
      (read_on_too P initial piece.stream_identifier r.generations (with_deferred r piece).generations m
      r.peer.in_progress c l.after refl h.stands l.stands h.read_on)

  -- DATA of this stream or of another one

  pub takes_on : (id limit : ℕ) → StandsBeside P initial id r m c
      → (piece.stream_identifier ≡ id → is_new c (offset_of initial piece.tsn) ≡ true)
      → is_hidden r piece.stream_identifier piece.tsn ≡ false
      → refusal_at (stream_at m piece.stream_identifier) piece limit ≡ None
      → TakesOn P initial id (offset_of initial piece.tsn) r (pushed_in m piece.stream_identifier piece).0 c
  takes_on id limit h new out accepted = by (eqb piece.stream_identifier id) refl
    where
      by : (b : Bool) → eqb piece.stream_identifier id ≡ b
          → TakesOn P initial id (offset_of initial piece.tsn) r (pushed_in m piece.stream_identifier piece).0 c
      by true e =
          let same : piece.stream_identifier ≡ id = eqb-true piece.stream_identifier id e in
          subst
          (λ i. TakesOn P initial i (offset_of initial piece.tsn) r (pushed_in m piece.stream_identifier piece).0 c)
          same
          (takes_here limit (subst (λ i. StandsBeside P initial i r m c) (sym same) h) (new same) out
          (stream_at m piece.stream_identifier) refl accepted)
      by false e =
          takes_beside P initial id (offset_of initial piece.tsn) r (pushed_in m piece.stream_identifier piece).0 c
          (beside_keeps P initial id r r m (pushed_in m piece.stream_identifier piece).0 c
          (pushed_elsewhere_keeps P initial id r m piece (eqb-false piece.stream_identifier id e)) refl h).0

  pub leaves_on : (id : ℕ) → StandsBeside P initial id r m c
      → (piece.stream_identifier ≡ id → is_new c (offset_of initial piece.tsn) ≡ true)
      → is_hidden r piece.stream_identifier piece.tsn ≡ false
      → TakesOn P initial id (offset_of initial piece.tsn) r m c
  leaves_on id h new out = by (eqb piece.stream_identifier id) refl
    where
      by : (b : Bool) → eqb piece.stream_identifier id ≡ b
          → TakesOn P initial id (offset_of initial piece.tsn) r m c
      by true e =
          let same : piece.stream_identifier ≡ id = eqb-true piece.stream_identifier id e in
          subst (λ i. TakesOn P initial i (offset_of initial piece.tsn) r m c) same
          (leaves_here (subst (λ i. StandsBeside P initial i r m c) (sym same) h) (new same) out
          (stream_at m piece.stream_identifier) refl)
      by false e = takes_nothing P initial id (offset_of initial piece.tsn) r m c h

  pub waits_on : (id : ℕ) → StandsBeside P initial id r m c
      → (piece.stream_identifier ≡ id → is_new c (offset_of initial piece.tsn) ≡ true)
      → is_hidden r piece.stream_identifier piece.tsn ≡ true
      → TakesOn P initial id (offset_of initial piece.tsn) (with_deferred r piece) m c
  waits_on id h new out = by (eqb piece.stream_identifier id) refl
    where
      by : (b : Bool) → eqb piece.stream_identifier id ≡ b
          → TakesOn P initial id (offset_of initial piece.tsn) (with_deferred r piece) m c
      by true e =
          let same : piece.stream_identifier ≡ id = eqb-true piece.stream_identifier id e in
          subst (λ i. TakesOn P initial i (offset_of initial piece.tsn) (with_deferred r piece) m c) same
          (waits_here (subst (λ i. StandsBeside P initial i r m c) (sym same) h) (new same) out)
      by false e =
          takes_beside P initial id (offset_of initial piece.tsn) (with_deferred r piece) m c
          (beside_keeps P initial id r (with_deferred r piece) m m c
          (deferred_elsewhere_keeps P initial id r m piece (eqb-false piece.stream_identifier id e) so near) refl h).0
