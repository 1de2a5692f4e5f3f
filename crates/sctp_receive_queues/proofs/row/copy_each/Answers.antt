use Rattle.std.proofs.Common.{◌≡◌, ◌∙◌, ℕ, ◌+◌, ◌-◌, ◌≤◌, List, ◌++◌, length, take, drop, ap, arith, append_assoc}
use Rattle.std.proofs.Common.{length-append}
use Rattle.std.proofs.lemmas.Grind.{common_steps}
use Rattle.std.proofs.lemmas.Slice.{take-put_mid, drop-put_mid}
use borrow.Rule.Slice.PartMut.{put_mid}
use Rattle.std.specs.VecDeque.Iter.{deque_iter_rest}
use Rattle.sctp_receive_queues.specs.Messages.{joined}
use Rattle.sctp_receive_queues.proofs.row.copy_each.Goals as goal

-- a buffer in which so many bytes were copied, and `bytes` and `more` are to come behind them
module _ (copied : ℕ) (buffer bytes more : List ℕ) (fits : copied + length (bytes ++ more) ≤ length buffer) where
  room : copied + length bytes ≤ length buffer
  room = omega (arith, fits, length-append bytes more)

  in_front : take (copied + length bytes) (put_mid copied (copied + length bytes - copied) buffer bytes)
      ≡ take copied buffer ++ bytes
  in_front =
      take-put_mid copied (copied + length bytes - copied) buffer bytes (copied + length bytes) (omega arith)
      (omega (arith, room))

  behind : drop (copied + length bytes + length more) (put_mid copied (copied + length bytes - copied) buffer bytes)
      ≡ drop (copied + length (bytes ++ more)) buffer
  behind =
      drop-put_mid copied (copied + length bytes - copied) buffer bytes (copied + length bytes + length more)
      (omega arith) (omega (arith, room)) (omega arith)
      ∙ ap (λ (n : ℕ). drop n buffer) (omega (arith, length-append bytes more))

  still_fits : copied + length bytes + length more
      ≤ length (put_mid copied (copied + length bytes - copied) buffer bytes)
  still_fits = grind (arith, common_steps, fits)

  -- with `bytes` behind them only `more` are to come
  more_copied : take (copied + length bytes) (put_mid copied (copied + length bytes - copied) buffer bytes) ++ more
      ++ drop (copied + length bytes + length more) (put_mid copied (copied + length bytes - copied) buffer bytes)
      ≡ take copied buffer ++ (bytes ++ more) ++ drop (copied + length (bytes ++ more)) buffer
  more_copied =
      rw (in_front, behind) (
      ap (λ (z : List ℕ). z ++ drop (copied + length (bytes ++ more)) buffer)
      (append_assoc (take copied buffer) bytes more))

pub loop-piece-preserved : goal.loop-piece-preserved
loop-piece-preserved c =
    let old = rw c.in-Some.ensures.steps at c.loop-piece.invariant in
    let copied = c.loop-piece.copied in
    let buffer = c.loop-piece.buffer in
    let bytes = c.in-Some.piece.now.user_data in
    let more = joined (deque_iter_rest c.next.new.self) in
    rw (c.copy_from_slice.ensures.after, c.as_slice-bytes.ensures) record {
      room = still_fits copied buffer bytes more old.room;
      copied = more_copied copied buffer bytes more old.room ∙ old.copied;
    }
