use Rattle.std.proofs.Common.{◌≡◌, ◌+◌, ◌-◌, ◌≤◌, ◌++◌, ◌∙◌, take, drop, length, replicate, refl, sym, ap, subst, arith}
use Rattle.std.proofs.lemmas.List.{length-take-le, length-drop}
use Rattle.std.proofs.lemmas.List.Edits.{length-paste}
use Rattle.std.proofs.lemmas.Simd.{put_chunk_whole}
use Rattle.std.proofs.lemmas.Slice.{take-put_mid, put_mid-paste}
use Rattle.sctp_crc.specs.Fold.{taken, IsKept}
use Rattle.sctp_crc.proofs.FoldedLanes.{moved-long, pass_parts, nothing_left}
use Rattle.sctp_crc.proofs.fold.Kept.last_taken.Goals as goal

pub vectors-preserved : goal.vectors-preserved
vectors-preserved c =
    let at = c.vectors.at in
    let last = c.vectors.last in
    let kept = c.vectors.kept in
    let rest = c.vectors.rest.now in
    let new = c.taken.result in
    let new_len = c.taken.ensures.length in
    let last_len = c.vectors.invariant.1 in
    let rest_len = c.vectors.invariant.2 in
    let ok = c.vectors.invariant.0 in
    let more : at + 16 ≤ 112 = omega (arith, c.vectors-test.true, c.vectors.invariant.3) in
    let sixteen : at + 16 - at ≡ 16 = omega arith in
    let room : length (take 16 (drop at last)) ≡ length new =
    length-take-le 16 (drop at last) (omega (arith, length-drop at last, last_len, more)) ∙ sym new_len in
    let whole = put_chunk_whole (take 16 (drop at last)) new room in (
      subst IsKept (sym c.followed_by-kept.ensures) (moved-long kept (replicate 16 0) ok refl),
      rw (sixteen, whole)
          (ap length (put_mid-paste at 16 last new new 16 refl refl (sym new_len))
          ∙ length-paste last at new 16 (omega (arith, last_len, more)) (omega (arith, new_len))
          ∙ last_len),
      omega (arith, rest_len, c.split_at.ensures.back_len, more),
      omega (arith, c.vectors.invariant.3),
      rw (c.followed_by-kept.ensures, c.split_at.ensures.back)
          (pass_parts kept rest last _ (taken c.args.self c.args.bytes.now) at ok (omega (arith, rest_len, more))
          (rw (sixteen, whole)
          (take-put_mid at 16 last new (at + 16) (omega (arith, new_len)) (omega (arith, last_len, more))
          ∙ ap (λ z. take at last ++ z) (c.taken.ensures.bytes ∙ rw c.split_at.ensures.front refl)))
          c.vectors.invariant.4),
    )

pub returns : goal.returns
returns c =
    nothing_left c.vectors.kept c.vectors.rest.now c.vectors.last (taken c.args.self c.args.bytes.now) c.vectors.at
    (omega (arith, c.vectors-test.false, c.vectors.invariant.2))
    (omega (arith, c.vectors-test.false, c.vectors.invariant.1)) c.vectors.invariant.4
