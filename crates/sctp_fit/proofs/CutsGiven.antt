-- Pieces that are full but for the last, and in their order are the bytes, are the pieces of these bytes.
use Rattle.std.proofs.Common.{ℕ, suc, ◌*◌, ◌<◌, ◌≡◌, List, [], ◌∷◌, ◌++◌, length, take, drop}
use Rattle.std.proofs.Common.{sym, ap, ◌∙◌, arith}
use Rattle.std.specs.List.{concat}
use Rattle.std.proofs.Math.Nat.{mul-suc}
use Rattle.std.proofs.Math.Seq.{drop-append_seam, take-append_seam}
use Rattle.std.proofs.lemmas.Bool.{le-leb, lt-leb}
use Rattle.std.proofs.lemmas.List.{append-nil, drop-drop, length-append, length-drop, take_all}
use Rattle.sctp_outbound_queue.specs.Cut.{AreFull}
use Rattle.sctp_fit.specs.Cuts.{CutsArePieces}
use Rattle.sctp_fit.specs.Outgoing.{ArePieces}

-- a list of n behind which others come is the first n
front_of : (n : ℕ) (xs ys : List ℕ) → length xs ≡ n → xs ≡ take n (xs ++ ys)
front_of n xs ys e = sym (take-append_seam xs ys) ∙ ap (λ z. take z (xs ++ ys)) e

behind_of : (n : ℕ) (xs ys : List ℕ) → length xs ≡ n → drop n (xs ++ ys) ≡ ys
behind_of n xs ys e = ap (λ z. drop z (xs ++ ys)) (sym e) ∙ drop-append_seam xs ys

module _ (size : ℕ) (bytes : List ℕ) (some : 0 < size) where
  -- what is left from piece k on is cut into the pieces from k on
  pieces_from : (k : ℕ) (first : List ℕ) (rest : List (List ℕ)) → size * k < length bytes
      → drop (size * k) bytes ≡ first ++ concat rest → AreFull size first rest → ArePieces size bytes k first rest
  pieces_from k first [] more e f =
      let whole : drop (size * k) bytes ≡ first = e ∙ append-nil first in
      let l = ap length (sym whole) ∙ length-drop (size * k) bytes in
      let m = mul-suc size k in (
        sym (ap (take size) whole ∙ take_all size first f),
        le-leb (length bytes) (size * suc k) (omega (arith, l, m)),
      )
  pieces_from k first (r ∷ rs) more e f =
      let full = f.0 in
      let filled = f.1 in
      let l = ap length e ∙ length-append first (r ++ concat rs) in
      let b = length-append r (concat rs) in
      let d = length-drop (size * k) bytes in
      let m = mul-suc size k in
      let past : size * suc k < length bytes = omega (arith, full, filled, l, b, d, m) in (
        front_of size first (r ++ concat rs) full ∙ ap (take size) (sym e),
        lt-leb (length bytes) (size * suc k) past,
        pieces_from (suc k) r rs past
            (ap (λ z. drop z bytes) m ∙ sym (drop-drop size (size * k) bytes) ∙ ap (drop size) e
            ∙ behind_of size first (r ++ concat rs) full) f.2,
      )

pub cuts_give_the_pieces : CutsArePieces
cuts_give_the_pieces size bytes first rest some filled h =
    pieces_from size bytes some 0 first rest (omega arith)
    (let e : size * 0 ≡ 0 = omega arith in ap (λ z. drop z bytes) e ∙ sym h.whole) h.full
