-- What was accepted and what has an offset stays so when more is accepted or gets an offset.
use Rattle.std.proofs.Common.{ℕ, zero, suc, ◌+◌, ◌*◌, ◌<◌, ◌≤◌, ◌≡◌, Bool, true, cond, eqb, leb, List, [], ◌∷◌, ◌++◌}
use Rattle.std.proofs.Common.{length, take, map, get_or, refl, sym, ap, ◌∙◌, subst, ⊎_elim, arith}
use Rattle.std.specs.List.{AllByRecursion}
use Rattle.std.proofs.lemmas.List.{take-append-le, get_or_append_left, length_push}
use Rattle.std.proofs.lemmas.Bool.{cases_eq, eq-eqb, ne_eqb}
use Rattle.sctp_model.specs.Messages.{Message, Place, Plan, IsAt, no_message, no_place, place_at, message_at}
use Rattle.sctp_model.specs.Messages.{message_of, count_ordered, is_last, rank, bytes_at, bytes_below, piece_of}
use Rattle.sctp_model.specs.Packets.{Data, mem, data_at}
use Rattle.sctp_model.specs.Reassembly.{Got}
use Rattle.sctp_model.specs.Machine.{put, with_message, with_place}
use Rattle.sctp_model.specs.Safe.{IsTaken, IsWhole, Tells, is_ordered, number_of, ssn_of, read_end, read_ssn}
use Rattle.sctp_model.specs.Invariants.{IsPair, Follows, IsGot, IsPiece, IsHeld}
use Rattle.sctp_model.proofs.Lists.{map_same}

-- q holds all that p holds
pub record IsExtended (p q : Plan) : Type 0 where
  pub size : q.size ≡ p.size
  pub more : length p.places ≤ length q.places
  pub places : (o : ℕ) → o < length p.places → place_at q o ≡ place_at p o
  pub known : (o : ℕ) → o < length p.places → (place_at p o).message < length (p.accepted (place_at p o).stream)
  pub longer : (s : ℕ) → length (p.accepted s) ≤ length (q.accepted s)
  pub messages : (s i : ℕ) → i < length (p.accepted s) → message_at q s i ≡ message_at p s i
  pub fronts : (s i : ℕ) → i ≤ length (p.accepted s) → take i (q.accepted s) ≡ take i (p.accepted s)

pub at_put : {X : Type 0} (f : ℕ → X) (s t : ℕ) (x : X) → t ≡ s → put f s x t ≡ x
at_put f s t x e = rw (eq-eqb t s e) refl

pub off_put : {X : Type 0} (f : ℕ → X) (s t : ℕ) (x : X) → (t ≡ s → ⊥) → put f s x t ≡ f t
off_put f s t x e = rw (ne_eqb t s e) refl

pub place_extended : (p : Plan) (y : Place)
    → ((o : ℕ) → o < length p.places → (place_at p o).message < length (p.accepted (place_at p o).stream))
    → IsExtended p (with_place p y)
place_extended p y known = record {
  size = refl;
  more = omega (arith, length_push p.places y);
  places = λ o l. get_or_append_left p.places (y ∷ []) no_place o l;
  known = known;
  longer = λ s. omega arith;
  messages = λ s i l. refl;
  fronts = λ s i l. refl;
}

pub message_extended : (p : Plan) (s : ℕ) (m : Message)
    → ((o : ℕ) → o < length p.places → (place_at p o).message < length (p.accepted (place_at p o).stream))
    → IsExtended p (with_message p s m)
message_extended p s m known = record {
  size = refl;
  more = omega arith;
  places = λ o l. refl;
  known = known;
  longer = longer;
  messages = messages;
  fronts = fronts;
}
  where
    longer : (t : ℕ) → length (p.accepted t) ≤ length ((with_message p s m).accepted t)
    longer t = ⊎_elim
        (λ (e : t ≡ s). rw (at_put p.accepted s t (p.accepted s ++ m ∷ []) e)
        (omega (arith, length_push (p.accepted s) m, ap (λ z. length (p.accepted z)) e)))
        (λ (ne : t ≡ s → ⊥). rw (off_put p.accepted s t (p.accepted s ++ m ∷ []) ne) (omega arith))
        (cases_eq t s)

    messages : (t i : ℕ) → i < length (p.accepted t) → message_at (with_message p s m) t i ≡ message_at p t i
    messages t i l = ⊎_elim
        (λ (e : t ≡ s). rw (at_put p.accepted s t (p.accepted s ++ m ∷ []) e)
        (get_or_append_left (p.accepted s) (m ∷ []) no_message i (subst (λ z. i < length (p.accepted z)) e l)
        ∙ ap (λ z. get_or (p.accepted z) i no_message) (sym e)))
        (λ (ne : t ≡ s → ⊥). rw (off_put p.accepted s t (p.accepted s ++ m ∷ []) ne) refl)
        (cases_eq t s)

    fronts : (t i : ℕ) → i ≤ length (p.accepted t) → take i ((with_message p s m).accepted t) ≡ take i (p.accepted t)
    fronts t i l = ⊎_elim
        (λ (e : t ≡ s). rw (at_put p.accepted s t (p.accepted s ++ m ∷ []) e)
        (take-append-le i (p.accepted s) (m ∷ []) (subst (λ z. i ≤ length (p.accepted z)) e l)
        ∙ ap (λ z. take i (p.accepted z)) (sym e)))
        (λ (ne : t ≡ s → ⊥). rw (off_put p.accepted s t (p.accepted s ++ m ∷ []) ne) refl)
        (cases_eq t s)

pub message_kept : (p q : Plan) (e : IsExtended p q) (o : ℕ) → o < length p.places
    → message_of q (place_at q o) ≡ message_of p (place_at p o)
message_kept p q e o l = ap (message_of q) (e.places o l) ∙ e.messages _ _ (e.known o l)

pub last_kept : (p q : Plan) (e : IsExtended p q) (o : ℕ) → o < length p.places
    → is_last q (place_at q o) ≡ is_last p (place_at p o)
last_kept p q e o l =
    ap (λ z. leb (length (message_of q (place_at q o)).bytes) (z * suc (place_at q o).piece)) e.size
    ∙ ap (λ z. leb (length z.bytes) (p.size * suc (place_at q o).piece)) (message_kept p q e o l)
    ∙ ap (λ z. leb (length (message_of p (place_at p o)).bytes) (p.size * suc z.piece)) (e.places o l)

pub data_kept : (p q : Plan) (e : IsExtended p q) (o : ℕ) → o < length p.places → data_at q o ≡ data_at p o
data_kept p q e o l =
    let m = message_kept p q e o l in
    let y = e.places o l in
    let s = e.size in
    let b = last_kept p q e o l in
    cc

pub at_kept : (p q : Plan) (e : IsExtended p q) (s o : ℕ) (k : Bool) → IsAt p s k o → IsAt q s k o
at_kept p q e s o k a = record {
  known = let m = e.more in let l = a.known in omega arith;
  stream = ap (λ z. z.stream) (e.places o a.known) ∙ a.stream;
  kind = ap (λ z. z.ordered) (message_kept p q e o a.known) ∙ a.kind;
}

pub at_before : (p q : Plan) (e : IsExtended p q) (s o : ℕ) (k : Bool) → o < length p.places → IsAt q s k o
    → IsAt p s k o
at_before p q e s o k l a = record {
  known = l;
  stream = sym (ap (λ z. z.stream) (e.places o l)) ∙ a.stream;
  kind = sym (ap (λ z. z.ordered) (message_kept p q e o l)) ∙ a.kind;
}

pub rank_kept : (p q : Plan) (e : IsExtended p q) (s i : ℕ) → i ≤ length (p.accepted s)
    → rank (q.accepted s) i ≡ rank (p.accepted s) i
rank_kept p q e s i l = ap count_ordered (e.fronts s i l)

pub ordered_kept : (p q : Plan) (e : IsExtended p q) (s i : ℕ) → i < length (p.accepted s)
    → is_ordered q s i ≡ is_ordered p s i
ordered_kept p q e s i l = ap (λ z. z.ordered) (e.messages s i l)

pub number_kept : (p q : Plan) (e : IsExtended p q) (g : Got) → g.from < length p.places → number_of q g ≡ number_of p g
number_kept p q e g l = ap (λ z. z.message) (e.places g.from l)

pub taken_kept : (p q : Plan) (e : IsExtended p q) (taken : List ℕ) (s i k : ℕ) → IsTaken p taken s i k
    → IsTaken q taken s i k
taken_kept p q e taken s i k t = record {
  offset = t.offset;
  known = let m = e.more in let l = t.known in omega arith;
  stream = ap (λ z. z.stream) (e.places t.offset t.known) ∙ t.stream;
  message = ap (λ z. z.message) (e.places t.offset t.known) ∙ t.message;
  piece = ap (λ z. z.piece) (e.places t.offset t.known) ∙ t.piece;
  sent = ap (λ z. z.marker) (e.places t.offset t.known) ∙ t.sent;
  taken_in = t.taken_in;
}

module _ (p q : Plan) (e : IsExtended p q) (taken : List ℕ) (s i : ℕ) where
  pub taken_before : (k : ℕ) → ((o : ℕ) → mem o taken ≡ true → o < length p.places) → IsTaken q taken s i k
      → IsTaken p taken s i k
  taken_before k below t =
      let l = below t.offset t.taken_in in
      let y = sym (e.places t.offset l) in
      record {
        offset = t.offset;
        known = l;
        stream = ap (λ z. z.stream) y ∙ t.stream;
        message = ap (λ z. z.message) y ∙ t.message;
        piece = ap (λ z. z.piece) y ∙ t.piece;
        sent = ap (λ z. z.marker) y ∙ t.sent;
        taken_in = t.taken_in;
      }

  pub whole_kept : IsWhole p taken s i → IsWhole q taken s i
  whole_kept w = record {
    accepted = let l = e.longer s in let a = w.accepted in omega arith;
    pieces = λ k h. taken_kept p q e taken s i k
        (w.pieces k (subst (λ z. z * k < length (message_at p s i).bytes) e.size
        (subst (λ z. q.size * k < length z.bytes) (e.messages s i w.accepted) h)));
  }

  -- a message that is whole was accepted before, since one of its bytes was taken in
  pub whole_before : ((o : ℕ) → mem o taken ≡ true → o < length p.places) → 0 < length (message_at q s i).bytes
      → IsWhole q taken s i → IsWhole p taken s i
  whole_before below filled w =
      let first = taken_before 0 below (w.pieces 0 (omega arith)) in
      let accepted : i < length (p.accepted s) = subst (λ z. z < length (p.accepted s)) first.message
      (subst (λ z. (place_at p first.offset).message < length (p.accepted z)) first.stream
      (e.known first.offset first.known)) in
      record {
        accepted = accepted;
        pieces =
            λ k h. taken_before k below
            (w.pieces k (subst (λ z. z * k < length (message_at q s i).bytes) (sym e.size)
            (subst (λ z. p.size * k < length z.bytes) (sym (e.messages s i accepted)) h)));
      }

pub tells_kept : (p q : Plan) (e : IsExtended p q) (taken : List ℕ) (s : ℕ) (g : Got) (i : ℕ) → Tells p taken s g i
    → Tells q taken s g i
tells_kept p q e taken s g i t =
    let m = sym (e.messages s i t.whole.accepted) in
    record {
      payload_type = t.payload_type ∙ ap (λ z. z.payload_type) m;
      bytes = t.bytes ∙ ap (λ z. z.bytes) m;
      ordered = t.ordered ∙ ap (λ z. z.ordered) m;
      whole = whole_kept p q e taken s i t.whole;
    }

pub got_kept : (p q : Plan) (e : IsExtended p q) (taken : List ℕ) (s : ℕ) (g : Got) → IsGot p taken s g
    → IsGot q taken s g
got_kept p q e taken s g t = record {
  known = let m = e.more in let l = t.known in omega arith;
  stream = ap (λ z. z.stream) (e.places g.from t.known) ∙ t.stream;
  tells =
      subst (Tells q taken s g) (sym (number_kept p q e g t.known))
      (tells_kept p q e taken s g (number_of p g) t.tells);
}

pub numbers_kept : (p q : Plan) (e : IsExtended p q) (taken : List ℕ) (s : ℕ) (gots : List Got)
    → AllByRecursion (IsGot p taken s) gots
    → map (number_of q) gots ≡ map (number_of p) gots
numbers_kept p q e taken s gots a =
    map_same (number_of q) (number_of p) (IsGot p taken s) gots a (λ g t. number_kept p q e g t.known)

pub read_end_kept : (p q : Plan) (e : IsExtended p q) (taken : List ℕ) (s found : ℕ) (gots : List Got)
    → AllByRecursion (IsGot p taken s) gots
    → read_end q found gots ≡ read_end p found gots
read_end_kept p q e taken s found [] a = refl
read_end_kept p q e taken s found (g ∷ gs) a =
    ap (λ z. read_end q (cond g.ordered (suc z) found) gs) (number_kept p q e g (a.0).known)
    ∙ read_end_kept p q e taken s (cond g.ordered (suc (number_of p g)) found) gs a.1

pub read_ssn_kept : (p q : Plan) (e : IsExtended p q) (taken : List ℕ) (s found : ℕ) (gots : List Got)
    → AllByRecursion (IsGot p taken s) gots
    → read_ssn q found gots ≡ read_ssn p found gots
read_ssn_kept p q e taken s found [] a = refl
read_ssn_kept p q e taken s found (g ∷ gs) a =
    ap (λ z. read_ssn q (cond g.ordered (suc z) found) gs) (ap (λ z. z.ssn) (e.places g.from (a.0).known))
    ∙ read_ssn_kept p q e taken s (cond g.ordered (suc (ssn_of p g)) found) gs a.1

pub piece_kept : (p q : Plan) (e : IsExtended p q) (d : Data) → IsPiece p d → IsPiece q d
piece_kept p q e d h = record {
  known = let m = e.more in let l = h.known in omega arith;
  is = h.is ∙ sym (data_kept p q e d.offset h.known);
  sent = ap (λ z. z.marker) (e.places d.offset h.known) ∙ h.sent;
}

pub held_kept : (p q : Plan) (e : IsExtended p q) (taken : List ℕ) (s low : ℕ) (k : Bool) (d : Data)
    → IsHeld p taken s k low d → IsHeld q taken s k low d
held_kept p q e taken s low k d h = record {
  is = h.is ∙ sym (data_kept p q e d.offset h.at.known);
  at = at_kept p q e s d.offset k h.at;
  sent = ap (λ z. z.marker) (e.places d.offset h.at.known) ∙ h.sent;
  taken_in = h.taken_in;
  above = subst (λ z. low ≤ z.ssn) (sym (e.places d.offset h.at.known)) h.above;
}

pub follows_kept : (x y x' y' : Place) → x' ≡ x → y' ≡ y → Follows x y → Follows x' y'
follows_kept x y x' y' a b f = subst (λ z. Follows z y') (sym a) (subst (λ z. Follows x z) (sym b) f)

module _ {p q : Plan} (e : IsExtended p q) {s : ℕ} {x y : Place} {o r : ℕ} where
  pub pair_kept : x.message ≤ length (p.accepted s) → y.message ≤ length (p.accepted s) → IsPair p s x y o r
      → IsPair q s x y o r
  pair_kept lx ly h = record {
    ssn = h.ssn;
    together = h.together;
    alike = h.alike;
    near = h.near;
    rank =
        let a = rank_kept p q e s x.message lx in let b = rank_kept p q e s y.message ly in let c
        = h.rank in omega arith;
  }

pub bytes_kept : (p q : Plan) (e : IsExtended p q) (test : ℕ → Bool) (s n : ℕ) → n ≤ length p.places
    → bytes_below q test s n ≡ bytes_below p test s n
bytes_kept p q e test s zero l = refl
bytes_kept p q e test s (suc o) l =
    let y = e.places o (omega arith) in
    let m = message_kept p q e o (omega arith) in
    let b : bytes_at q (place_at q o) ≡ bytes_at p (place_at p o) =
    ap (λ z. cond (place_at q o).marker 0
    (length (piece_of z (message_of q (place_at q o)).bytes (place_at q o).piece))) e.size
    ∙ ap (λ z. cond (place_at q o).marker 0 (length (piece_of p.size z.bytes (place_at q o).piece))) m
    ∙ ap (λ z. cond z.marker 0 (length (piece_of p.size (message_of p (place_at p o)).bytes z.piece))) y in
    let r = bytes_kept p q e test s o (omega arith) in
    ap (λ z. cond (eqb (place_at q o).stream s) (cond (test o) z 0) 0 + bytes_below q test s o) b
    ∙ ap (λ z. cond (eqb (place_at q o).stream s) (cond (test o) (bytes_at p (place_at p o)) 0) 0 + z) r
    ∙ ap (λ z. cond (eqb z.stream s) (cond (test o) (bytes_at p (place_at p o)) 0) 0 + bytes_below p test s o) y
