-- A FORWARD TSN that lies ahead passes over all up to the offset that its new cumulative TSN spells, and is one event
-- of the direction.
use Rattle.std.proofs.Common.{◌≡◌, sym, ap, ◌∙◌, subst, ℕ, suc, ◌+◌, ◌-◌, ◌^◌, ◌<◌, arith, true, false, ltb, Some}
use Rattle.std.proofs.Common.{slice_get}
use Rattle.std.proofs.lemmas.Bool.{lt-ltb}
use Rattle.std.specs.Option.{option_map}
use Rattle.sctp_serial.specs.Serial.{tsn, tsn_past}
use Rattle.sctp_streams.specs.Streams.{StreamMap, stream_at}
use Rattle.sctp_model.specs.Packets.{Forward, skips}
use Rattle.sctp_model.specs.Machine.{Direction, Event, happens, reach}
use Rattle.sctp_model.specs.Invariants.{Invariant, IsForward}
use Rattle.sctp_model.proofs.Lists.{all_get}
use Rattle.sctp_fit.specs.Forwards.{IsForwardSaid, numbers_told, passed_stream}
use Rattle.sctp_fit.specs.Incoming.{FitsIncoming, tsn_before}
use Rattle.sctp_fit.proofs.DataTaken.{same_reach}
use Rattle.sctp_fit.proofs.ForwardTaken as fit
use Rattle.sctp_directions.specs.Acts.{Act, Can, Parts, done, offset_in, passed_over, reach_in, receiving}
use Rattle.sctp_directions.specs.Laws.{ForwardsItTakesCome}
use Rattle.sctp_directions.proofs.IncomingTook.{reach_known}
use Rattle.sctp_directions.proofs.StreamsPassed.{at_passed, passed_alike}
use Rattle.sctp_wire_types.specs.declared.chunk.ChunkForwardTsn.{ChunkForwardTsn}
use Rattle.sctp_model.specs.Safe.{IsWithin}

-- the TSN before that of an offset is that of the one before
before_next : (initial o : ℕ) → tsn_before (tsn initial (suc o)) ≡ tsn initial o
before_next initial o = omega arith

-- a TSN spells its offset, where that and the reach lie below half the range and it is not further past the reach
spelt_ahead : (initial at o : ℕ) → at < 2 ^ 31 → o < 2 ^ 31
    → at + tsn_past (tsn initial at) (tsn initial o) < at + 2 ^ 31
    → o ≡ at + tsn_past (tsn initial at) (tsn initial o)
spelt_ahead initial at o r s near = omega arith

module _ (p : Parts) (c : ChunkForwardTsn) (k : ℕ) (f : Forward) (w : Direction)
    (can : Can (Act.PassedOver c.new_cumulative_tsn c.streams) p) (e : slice_get w.forwards k ≡ Some f)
    (said : IsForwardSaid w.over p.history.peer c f) (within : IsWithin w) (inv : Invariant w)
    (fits : FitsIncoming (receiving p) w) where
  -- an association that takes a FORWARD TSN does what the model's receiver does
  forward_taken : (f.reach ≡ suc (offset_in p.history c.new_cumulative_tsn))
      × FitsIncoming (receiving (done (Act.PassedOver c.new_cumulative_tsn c.streams) p))
      (happens w (Event.ForwardComes k))
  forward_taken = (
    passes,
    subst (λ n. FitsIncoming (record (receiving p) { streams = left; passed = n }) (happens w (Event.ForwardComes k)))
        passes
        (fit.forwards_that_come_are_taken (receiving p) k o f left w e ahead next streams within inv fits),
  )
    where
      given : IsForward w.sender.plan w.sender.gone w.over w.sender.acknowledged w.sender.reach f
      given =
          all_get (IsForward w.sender.plan w.sender.gone w.over w.sender.acknowledged w.sender.reach) w.forwards k f e
          inv.forwards

      -- the last offset that is passed over
      o : ℕ
      o = f.reach - 1

      next : f.reach ≡ suc o
      next = let some = given.ahead in omega arith

      at : c.new_cumulative_tsn ≡ tsn p.history.peer o
      at = said.reach ∙ ap (λ z. tsn_before (tsn p.history.peer z)) next ∙ before_next p.history.peer o

      reached : reach_in p.history ≡ reach w.receiver
      reached = same_reach (receiving p) w fits

      small : o < 2 ^ 31
      small = let l = given.known in let m = within.offsets in omega (arith, next)

      reach_small : reach_in p.history < 2 ^ 31
      reach_small = let e = reached in let l = reach_known w inv in let m = within.offsets in omega arith

      -- the offset that a TSN spells past the reach
      spelt : ℕ → ℕ
      spelt t = reach_in p.history + tsn_past (tsn p.history.peer (reach_in p.history)) t

      here : o ≡ offset_in p.history c.new_cumulative_tsn
      here =
          spelt_ahead p.history.peer (reach_in p.history) o reach_small small
          (subst (λ t. spelt t < reach_in p.history + 2 ^ 31) at can.near)
          ∙ ap spelt (sym at)

      passes : f.reach ≡ suc (offset_in p.history c.new_cumulative_tsn)
      passes = next ∙ ap suc here

      ahead : ltb (reach w.receiver) f.reach ≡ true
      ahead = lt-ltb (reach w.receiver) f.reach (let a = reached in let b = here in omega (arith, next))

      left : StreamMap
      left = passed_over c.new_cumulative_tsn c.streams p.streams

      streams : (s : ℕ) → w.over s ≡ false
          → stream_at left s ≡ option_map (passed_stream p.history.peer o (skips f s)) (stream_at p.streams s)
      streams s v =
          at_passed c.new_cumulative_tsn c.streams p.streams s
          ∙ passed_alike c.new_cumulative_tsn p.history.peer o (numbers_told s c.streams) (skips f s)
          (stream_at p.streams s) at (said.streams s v)

pub forwards_it_takes_come : ForwardsItTakesCome
forwards_it_takes_come = forward_taken
