-- The pieces held of a message: what a complete run of them is, and that it is found.
use Rattle.std.proofs.Common.{ℕ, zero, suc, ◌+◌, ◌*◌, ◌<◌, ◌≤◌, ◌≡◌, Bool, true, false, eqb, List, [], ◌∷◌, ◌++◌}
use Rattle.std.proofs.Common.{length, drop, Option, Some, None, refl, sym, ap, ◌∙◌, subst, ⊎_elim, arith, append-nil}
use Rattle.std.specs.Prelude.{filter, flat_map, is_some}
use Rattle.std.specs.List.{AllByRecursion}
use Rattle.std.proofs.lemmas.List.{take-append-drop, drop-drop, take_all, length-drop}
use Rattle.std.proofs.Math.Nat.{mul-le-mul_left}
use Rattle.std.proofs.lemmas.Bool.{cases_Bool, cases_lt, eqb-true, eq-eqb, leb-true, leb-false, cond-true, cond-false}
use Rattle.sctp_model.specs.Messages.{Plan, place_at, message_at, message_of, is_last, piece_of}
use Rattle.sctp_model.specs.Packets.{Data, mem, data_at}
use Rattle.sctp_model.specs.Reassembly.{at, top, with_first, run_on, run_from}
use Rattle.sctp_model.specs.Safe.{IsTaken}
use Rattle.sctp_model.specs.Invariants.{IsPlanned, Follows, IsHeld}

pub at_found : (P : Data → Type 0) (o : ℕ) (held : List Data) (d : Data) → at o held ≡ Some d → AllByRecursion P held
    → P d × (d.offset ≡ o)
at_found P o [] d e a = absurd (cc)
at_found P o (x ∷ xs) d e a =
    ⊎_elim
    (λ (b : eqb x.offset o ≡ true).
    let s : Some x ≡ Some d = rw b at e in
    let i : x ≡ d = cc in
    (subst P i a.0, sym (ap (λ z. z.offset) i) ∙ eqb-true x.offset o b))
    (λ (b : eqb x.offset o ≡ false). at_found P o xs d (rw b at e) a.1)
    (cases_Bool (eqb x.offset o))

pub at_filter : (p : Data → Bool) (o : ℕ) (held : List Data) (d : Data) → at o held ≡ Some d → p d ≡ true
    → at o (filter p held) ≡ Some d
at_filter p o [] d e t = absurd (cc)
at_filter p o (x ∷ xs) d e t =
    ⊎_elim
    (λ (b : eqb x.offset o ≡ true).
    let s : Some x ≡ Some d = rw b at e in
    let i : x ≡ d = cc in
    rw (ap p i ∙ t, b) s)
    (λ (b : eqb x.offset o ≡ false).
    let r = at_filter p o xs d (rw b at e) t in
    ⊎_elim (λ (c : p x ≡ true). rw (c, b) r) (λ (c : p x ≡ false). rw c r) (cases_Bool (p x)))
    (cases_Bool (eqb x.offset o))

pub at_top : (o : ℕ) (held : List Data) (d : Data) → at o held ≡ Some d → o < top held
at_top o [] d e = absurd (cc)
at_top o (x ∷ xs) d e =
    ⊎_elim
    (λ (b : eqb x.offset o ≡ true). omega (arith, eqb-true x.offset o b))
    (λ (b : eqb x.offset o ≡ false). let r = at_top o xs d (rw b at e) in omega arith)
    (cases_Bool (eqb x.offset o))

-- what a run of pieces from the offset o on is: the rest of the message that the piece there belongs to
pub record IsRunOf (p : Plan) (taken : List ℕ) (s o : ℕ) (ps : List Data) : Type 0 where
  pub bytes : flat_map (λ (d : Data). d.bytes) ps
      ≡ drop (p.size * (place_at p o).piece) (message_of p (place_at p o)).bytes
  pub pieces : (j : ℕ) → (place_at p o).piece ≤ j → p.size * j < length (message_of p (place_at p o)).bytes
      → IsTaken p taken s (place_at p o).message j
  pub mine : AllByRecursion (λ (d : Data). (place_at p d.offset).message ≡ (place_at p o).message) ps
  pub all : (q : ℕ) → q < length p.places → (place_at p q).stream ≡ s → (place_at p q).message ≡ (place_at p o).message
      → (place_at p o).piece ≤ (place_at p q).piece → is_some (at q ps) ≡ true

module _ {p : Plan} {over : ℕ → Bool} {taken : List ℕ} {s o : ℕ} {k : Bool} {low : ℕ} {d : Data}
    (h : IsPlanned p over) (held : IsHeld p taken s k low d) (e : d.offset ≡ o) where
  -- the last piece of a message
  run_last : d.last ≡ true → IsRunOf p taken s o (d ∷ [])
  run_last last = record {
    bytes =
        append-nil d.bytes ∙ ap (λ z. z.bytes) is ∙ take_all p.size _
        (omega (arith, short, length-drop (p.size * (place_at p o).piece) (message_of p (place_at p o)).bytes));
    pieces = λ j l m. record {
      offset = o;
      known = known;
      stream = stream;
      message = refl;
      piece = only j l m;
      sent = subst (λ z. (place_at p z).marker ≡ false) e held.sent;
      taken_in = subst (λ z. mem z taken ≡ true) e held.taken_in;
    };
    mine = (ap (λ z. (place_at p z).message) e, tt);
    all = λ q l st m c.
        let same : q ≡ o = h.one q o l known (st ∙ sym stream) m
        (sym (only (place_at p q).piece c
        (subst (λ z. p.size * (place_at p q).piece < length z.bytes) (message_same q st m) (h.piece q l)))) in
        rw (eq-eqb d.offset q (e ∙ sym same)) refl;
  }
    where
      is : d ≡ data_at p o
      is = held.is ∙ ap (data_at p) e

      known : o < length p.places
      known = subst (λ z. z < length p.places) e held.at.known

      stream : (place_at p o).stream ≡ s
      stream = sym (ap (λ z. (place_at p z).stream) e) ∙ held.at.stream

      short : length (message_of p (place_at p o)).bytes ≤ p.size * suc (place_at p o).piece
      short = leb-true _ _ (sym (ap (λ z. z.last) is) ∙ last)

      message_same : (q : ℕ) → (place_at p q).stream ≡ s → (place_at p q).message ≡ (place_at p o).message
          → message_of p (place_at p q) ≡ message_of p (place_at p o)
      message_same q st m =
          ap (λ z. message_at p z (place_at p q).message) (st ∙ sym stream) ∙ ap (message_at p (place_at p o).stream) m

      only : (j : ℕ) → (place_at p o).piece ≤ j → p.size * j < length (message_of p (place_at p o)).bytes
          → (place_at p o).piece ≡ j
      only j l m = ⊎_elim
          (λ (a : (place_at p o).piece < j). absurd (let b : p.size * suc (place_at p o).piece ≤ p.size * j =
          mul-le-mul_left p.size a in omega (arith, short)))
          (λ (b : j ≤ (place_at p o).piece). omega arith)
          (cases_lt (place_at p o).piece j)

  -- a piece that isn't the last, and the run from the next offset on
  run_more : (ps : List Data) → d.last ≡ false → suc o < length p.places → IsRunOf p taken s (suc o) ps
      → IsRunOf p taken s o (d ∷ ps)
  run_more ps last next r = record {
    bytes =
        ap (λ z. z.bytes ++ flat_map (λ (x : Data). x.bytes) ps) is
        ∙ ap (λ z. piece_of p.size bytes (place_at p o).piece ++ z)
        (r.bytes ∙ ap (λ z. drop (p.size * z) (message_of p (place_at p (suc o))).bytes) f.piece
        ∙ ap (λ z. drop (p.size * suc (place_at p o).piece) z.bytes) same
        ∙ ap (λ z. drop z bytes) (let m : p.size * suc (place_at p o).piece ≡ p.size * (place_at p o).piece + p.size =
        omega arith in m)
        ∙ sym (drop-drop p.size (p.size * (place_at p o).piece) bytes))
        ∙ take-append-drop p.size (drop (p.size * (place_at p o).piece) bytes);
    pieces = λ j l m. ⊎_elim
        (λ (a : (place_at p o).piece < j). subst (λ z. IsTaken p taken s z j) f.message
        (r.pieces j (subst (λ z. z ≤ j) (sym f.piece) a) (subst (λ z. p.size * j < length z.bytes) (sym same) m)))
        (λ (b : j ≤ (place_at p o).piece). record {
          offset = o;
          known = known;
          stream = stream;
          message = refl;
          piece = omega arith;
          sent = subst (λ z. (place_at p z).marker ≡ false) e held.sent;
          taken_in = subst (λ z. mem z taken ≡ true) e held.taken_in;
        })
        (cases_lt (place_at p o).piece j);
    mine = (ap (λ z. (place_at p z).message) e, all_to ps r.mine);
    all = λ q l st m c. ⊎_elim
        (λ (a : (place_at p o).piece < (place_at p q).piece).
        let i = r.all q l st (m ∙ sym f.message) (subst (λ z. z ≤ (place_at p q).piece) (sym f.piece) a) in
        ⊎_elim (λ (b : eqb d.offset q ≡ true). rw b refl) (λ (b : eqb d.offset q ≡ false). rw b i)
        (cases_Bool (eqb d.offset q)))
        (λ (b : (place_at p q).piece ≤ (place_at p o).piece).
        let same_o : q ≡ o = h.one q o l known (st ∙ sym stream) m (omega arith) in
        rw (eq-eqb d.offset q (e ∙ sym same_o)) refl)
        (cases_lt (place_at p o).piece (place_at p q).piece);
  }
    where
      is : d ≡ data_at p o
      is = held.is ∙ ap (data_at p) e

      known : o < length p.places
      known = omega arith

      stream : (place_at p o).stream ≡ s
      stream = sym (ap (λ z. (place_at p z).stream) e) ∙ held.at.stream

      bytes : List ℕ
      bytes = (message_of p (place_at p o)).bytes

      f : Follows (place_at p o) (place_at p (suc o))
      f = h.after o next (sym (ap (λ z. z.last) is) ∙ last) (sym (ap (λ z. (place_at p z).marker) e) ∙ held.sent)

      same : message_of p (place_at p (suc o)) ≡ message_of p (place_at p o)
      same =
          ap (λ z. message_at p z (place_at p (suc o)).message) f.stream
          ∙ ap (message_at p (place_at p o).stream) f.message

      all_to : (xs : List Data)
          → AllByRecursion (λ (x : Data). (place_at p x.offset).message ≡ (place_at p (suc o)).message) xs
          → AllByRecursion (λ (x : Data). (place_at p x.offset).message ≡ (place_at p o).message) xs
      all_to [] a = tt
      all_to (x ∷ xs) a = (a.0 ∙ f.message, all_to xs a.1)

-- a run that isn't none begins with a piece held
run_starts : (n o : ℕ) (held : List Data) (ps : List Data) → run_from n o held ≡ Some ps
    → (d : Data) × (at o held ≡ Some d)
run_starts zero o held ps e = absurd (cc)
run_starts (suc n) o held ps e = go (at o held) refl e
  where
    go : (x : Option Data) → at o held ≡ x → run_on x (run_from n (suc o) held) ≡ Some ps
        → (d : Data) × (at o held ≡ Some d)
    go None a b = absurd (cc)
    go (Some d) a b = (d, a)

module _ {p : Plan} {over : ℕ → Bool} {taken : List ℕ} {s : ℕ} (k : Bool) (low : ℕ) (held : List Data)
    (h : IsPlanned p over) (a : AllByRecursion (IsHeld p taken s k low) held) where
  pub run_is : (n o : ℕ) (ps : List Data) → run_from n o held ≡ Some ps → IsRunOf p taken s o ps
  run_is zero o ps e = absurd (cc)
  run_is (suc n) o ps e =
      go (at o held) (run_from n (suc o) held) refl refl (λ qs r. run_is n (suc o) qs r) e
    where
      go : (x : Option Data) (rest : Option (List Data)) → at o held ≡ x → run_from n (suc o) held ≡ rest
          → ((qs : List Data) → run_from n (suc o) held ≡ Some qs → IsRunOf p taken s (suc o) qs)
          → run_on x rest ≡ Some ps → IsRunOf p taken s o ps
      go None rest x r i b = absurd (cc)
      go (Some d) rest x r i b =
          let f = at_found (IsHeld p taken s k low) o held d x a in
          ⊎_elim
          (λ (l : d.last ≡ true).
          let c : Some (d ∷ []) ≡ Some ps = sym (cond-true d.last (Some (d ∷ [])) (with_first d rest) l) ∙ b in
          let u : d ∷ [] ≡ ps = cc in
          subst (IsRunOf p taken s o) u (run_last h f.0 f.1 l))
          (λ (l : d.last ≡ false).
          more d rest f.0 f.1 l r i (sym (cond-false d.last (Some (d ∷ [])) (with_first d rest) l) ∙ b))
          (cases_Bool d.last)
        where
          more : (d : Data) (rest : Option (List Data)) → IsHeld p taken s k low d → d.offset ≡ o → d.last ≡ false
              → run_from n (suc o) held ≡ rest
              → ((qs : List Data) → run_from n (suc o) held ≡ Some qs → IsRunOf p taken s (suc o) qs)
              → with_first d rest ≡ Some ps → IsRunOf p taken s o ps
          more d None hd eo l r i b = absurd (cc)
          more d (Some qs) hd eo l r i b =
              let c : d ∷ qs ≡ ps = cc in
              let w = run_starts n (suc o) held qs r in
              let v = at_found (IsHeld p taken s k low) (suc o) held w.0 w.1 a in
              let z = v.0 in
              subst (IsRunOf p taken s o) c (run_more h hd eo qs l
              (subst (λ y. y < length p.places) v.1 z.at.known) (i qs r))

-- piece j of message i of stream s is held
pub record HasPiece (p : Plan) (held : List Data) (s i j : ℕ) : Type 0 where
  pub offset : ℕ
  pub known : offset < length p.places
  pub stream : (place_at p offset).stream ≡ s
  pub message : (place_at p offset).message ≡ i
  pub piece : (place_at p offset).piece ≡ j
  pub is_held : at offset held ≡ Some (data_at p offset)

module _ {p : Plan} {over : ℕ → Bool} (held : List Data) (s : ℕ) (h : IsPlanned p over) where
  -- where all pieces from some offset on are held, the run is found
  pub run_found : (n o : ℕ) → o < length p.places → (place_at p o).stream ≡ s → top held ≤ o + n
      → at o held ≡ Some (data_at p o)
      → ((j : ℕ) → (place_at p o).piece ≤ j → p.size * j < length (message_of p (place_at p o)).bytes → HasPiece p held
      s (place_at p o).message j)
      → (ps : List Data) × (run_from n o held ≡ Some ps)
  run_found zero o known st t e pieces = absurd (let l = at_top o held (data_at p o) e in omega arith)
  run_found (suc n) o known st t e pieces =
      ⊎_elim
      (λ (l : is_last p (place_at p o) ≡ true). (data_at p o ∷ [], rw (e, l) refl))
      (λ (l : is_last p (place_at p o) ≡ false).
      let m = pieces (suc (place_at p o).piece) (omega arith) (leb-false _ _ l) in
      let b = h.before m.offset (place_at p o).piece m.known m.piece in
      let c = b.1 in
      let w = c.follows in
      let nx = c.next in
      let mk = m.known in
      let same : b.0 ≡ o = h.one b.0 o (omega arith) known (sym w.stream ∙ m.stream ∙ sym st)
      (sym w.message ∙ m.message)
      (let u : suc (place_at p b.0).piece ≡ suc (place_at p o).piece = sym w.piece ∙ m.piece in omega arith) in
      let next : m.offset ≡ suc o = nx ∙ ap suc same in
      let message : (place_at p (suc o)).message ≡ (place_at p o).message =
      sym (ap (λ z. (place_at p z).message) next) ∙ m.message in
      let stream : (place_at p (suc o)).stream ≡ s = sym (ap (λ z. (place_at p z).stream) next) ∙ m.stream in
      let piece : (place_at p (suc o)).piece ≡ suc (place_at p o).piece =
      sym (ap (λ z. (place_at p z).piece) next) ∙ m.piece in
      let text : message_of p (place_at p (suc o)) ≡ message_of p (place_at p o)
      =
      ap (λ z. message_at p z (place_at p (suc o)).message) (stream ∙ sym st)
      ∙ ap (message_at p (place_at p o).stream) message in
      let r =
      run_found n (suc o) (subst (λ z. z < length p.places) next mk) stream (omega arith)
      (subst (λ z. at z held ≡ Some (data_at p z)) next m.is_held)
      (λ j a z. subst (λ y. HasPiece p held s y j) (sym message)
      (pieces j (omega arith) (subst (λ y. p.size * j < length y.bytes) text z))) in
      (data_at p o ∷ r.0, rw (e, l, r.1) refl))
      (cases_Bool (is_last p (place_at p o)))
