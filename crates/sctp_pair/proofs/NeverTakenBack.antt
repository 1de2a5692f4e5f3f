-- What no event of a direction takes back: a span that is over stays over, and a receiver that closed stays closed.
use Rattle.std.proofs.Common.{◌≡◌, refl, ℕ, Bool, true, false, eqb, ltb, if◌then◌else◌, List, [], ◌∷◌, ◌++◌, length}
use Rattle.std.proofs.Common.{◌&&◌, Option, Some, None}
use Rattle.std.specs.Prelude.{slice_get}
use Rattle.sctp_model.specs.Messages.{Place, as_kept}
use Rattle.sctp_model.specs.Packets.{Data, Forward, Sack, data_at}
use Rattle.sctp_model.specs.Reassembly.{Queue, Taken, next}
use Rattle.sctp_model.specs.Machine.{Direction, Event, abandoned, acknowledged_by, begin, begin_if, can_abandon}
use Rattle.sctp_model.specs.Machine.{can_begin, can_drop, can_pass_over, can_resend, can_restart, data_comes, dropped}
use Rattle.sctp_model.specs.Machine.{forward_comes, forward_of, go_on, gone_front, happens, is_empty, is_new}
use Rattle.sctp_model.specs.Machine.{number_for, passed_over, passes, reach, put, read, run, sack_comes, took, was_read}
use Rattle.sctp_model.specs.Machine.{written}

pub record IsOnward (w v : Direction) : Type 0 where
  pub over : (s : ℕ) → w.over s ≡ true → v.over s ≡ true
  pub closed : w.receiver.is_open ≡ false → v.receiver.is_open ≡ false

stays : (w : Direction) → IsOnward w w
stays w = record { over = λ s o. o; closed = λ c. c }

-- what an event makes of a direction where it can happen, and otherwise it changes nothing
where_it_can : (can : Bool) (w v : Direction) → IsOnward w v → IsOnward w (if can then v else w)
where_it_can true w v h = h
where_it_can false w v h = stays w

-- where it can't happen the direction stays
where_it_cannot : (cannot : Bool) (w v : Direction) → IsOnward w v → IsOnward w (if cannot then w else v)
where_it_cannot true w v h = stays w
where_it_cannot false w v h = h

begins : (w : Direction) (s i any : ℕ) (c : Option Place) → IsOnward w (begin_if w s i any c)
begins w s i any None =
    where_it_can (can_begin w.sender s i) w (begin w s i (number_for w.sender s i any))
    record { over = λ t o. o; closed = λ c. c }
begins w s i any (Some y) = stays w

goes : (w : Direction) (c : Option Place) → IsOnward w (go_on w c)
goes w None = stays w
goes w (Some y) = record { over = λ t o. o; closed = λ c. c }

acknowledges : (w : Direction) (x : Option Sack) → IsOnward w (sack_comes w x)
acknowledges w None = stays w
acknowledges w (Some k) =
    where_it_cannot (ltb k.reach w.sender.reach) w (record w { sender = acknowledged_by w.sender k })
    record { over = λ t o. o; closed = λ c. c }

takes : (w : Direction) (x : Option Data) → IsOnward w (data_comes w x)
takes w None = stays w
takes w (Some d) =
    where_it_can (w.receiver.is_open && is_new w.receiver d.offset) w (record w { receiver = took w.receiver d })
    record { over = λ t o. o; closed = λ c. c }

skips : (w : Direction) (x : Option Forward) → IsOnward w (forward_comes w x)
skips w None = stays w
skips w (Some f) =
    where_it_can (w.receiver.is_open && ltb (reach w.receiver) f.reach) w (passes w f)
    record { over = λ t o. o; closed = λ c. c }

gives : (w : Direction) (s : ℕ) (t : Option Taken) → IsOnward w (was_read w s t)
gives w s None = stays w
gives w s (Some t) = record { over = λ n o. o; closed = λ c. c }

reads : (w : Direction) (s : ℕ) (q : Option Queue) → IsOnward w (read w s q)
reads w s None = stays w
reads w s (Some q) = where_it_can w.receiver.is_open w (was_read w s (next q)) (gives w s (next q))

ends : (over : ℕ → Bool) (s t : ℕ) → over t ≡ true → put over s true t ≡ true
ends over s t o = go (eqb t s)
  where
    go : (b : Bool) → (if b then true else over t) ≡ true
    go true = refl
    go false = o

pub events_are_onward : (w : Direction) (e : Event) → IsOnward w (happens w e)
unfolding happens
events_are_onward w (Event.Write s m) =
    where_it_cannot (is_empty m) w (record w { sender = written w.sender s (as_kept m) })
    record { over = λ t o. o; closed = λ c. c }
events_are_onward w (Event.PassOver s) =
    where_it_can (can_pass_over w.sender s) w (record w { sender = passed_over w.sender s })
    record { over = λ t o. o; closed = λ c. c }
events_are_onward w (Event.Drop s i) =
    where_it_can (can_drop w.sender s i) w (record w { sender = dropped w.sender s i })
    record { over = λ t o. o; closed = λ c. c }
events_are_onward w (Event.Begin s i any) = begins w s i any w.sender.current
events_are_onward w Event.GoOn = goes w w.sender.current
events_are_onward w (Event.Resend o) =
    where_it_can (can_resend w.sender.plan o) w (record w { datas = w.datas ++ data_at w.sender.plan o ∷ [] })
    record { over = λ t o. o; closed = λ c. c }
events_are_onward w (Event.Abandon s i) =
    where_it_can (can_abandon w.sender s i) w (record w { sender = abandoned w.sender s i })
    record { over = λ t o. o; closed = λ c. c }
events_are_onward w (Event.SackComes k) = acknowledges w (slice_get w.sacks k)
events_are_onward w Event.ForwardMade =
    where_it_can (ltb 0 (length (gone_front w.sender))) w
    (record w { forwards = w.forwards ++ forward_of w.sender w.over ∷ [] }) record { over = λ t o. o; closed = λ c. c }
events_are_onward w (Event.DataComes k) = takes w (slice_get w.datas k)
events_are_onward w Event.SackMade = record { over = λ t o. o; closed = λ c. c }
events_are_onward w (Event.ForwardComes k) = skips w (slice_get w.forwards k)
events_are_onward w (Event.Open s) = record { over = λ t o. o; closed = λ c. c }
events_are_onward w (Event.Read s) = reads w s (w.receiver.queues s)
events_are_onward w Event.Close = record { over = λ t o. o; closed = λ c. refl }
events_are_onward w (Event.End s) = record { over = λ t o. ends w.over s t o; closed = λ c. c }
events_are_onward w (Event.Restart s) =
    where_it_can (can_restart w s) w (record w { sender = record w.sender { ssn = put w.sender.ssn s 0 } })
    record { over = λ t o. o; closed = λ c. c }
events_are_onward w (Event.Replace s q) =
    where_it_can (w.over s) w (record w { receiver = record w.receiver { queues = put w.receiver.queues s q } })
    record { over = λ t o. o; closed = λ c. c }

-- nor do events one after another
pub runs_are_onward : (es : List Event) (w : Direction) → IsOnward w (run es w)
runs_are_onward [] w = stays w
runs_are_onward (e ∷ es) w =
    let first = events_are_onward w e in
    let rest = runs_are_onward es (happens w e) in
    record { over = λ s o. rest.over s (first.over s o); closed = λ c. rest.closed (first.closed c) }
