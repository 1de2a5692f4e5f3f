use Rattle.std.proofs.Common.{◌≡◌, ◌<◌, length, ap, sym, subst}
use Rattle.std.specs.Option.{IfSome}
use Rattle.sctp_ranges.specs.Stored.{Stored}
use Rattle.sctp_ranges.proofs.Removals.{ArePlaces, start_by, end_within, first_room, second_room, put_back, left_is}
use Rattle.sctp_ranges.proofs.Removals.{left_fewer}
use Rattle.sctp_ranges.proofs.removed.remove_offsets.Goals as goal

pub put-back-requires : goal.put-back-requires
put-back-requires c =
    let i = c.args.lower.index in
    let j = c.args.upper.index in
    let e = c.index_past-end.result in
    let rs = c.args.row.now.list in
    let p : ArePlaces c.args.from c.args.to i j e c.args.lower.run c.args.upper.run rs = record {
      order = c.requires.order;
      apart = c.requires.apart;
      first = c.requires.lower_index;
      lower_is = c.requires.lower_run;
      last = c.requires.upper_index;
      upper_is = c.requires.upper_run;
      end = c.index_past-end.ensures;
    } in
    record {
      start = start_by c.args.from c.args.to i j e c.args.lower.run c.args.upper.run rs p;
      end = end_within c.args.from c.args.to i j e c.args.lower.run c.args.upper.run rs p;
      room = first_room c.args.from c.args.to i j e c.args.row.now.room c.after.result c.args.lower.run
          c.args.upper.run rs p c.after.ensures;
    }

pub put-front-requires-clause-room : goal.put-front-requires-clause-room
put-front-requires-clause-room c =
    let i = c.args.lower.index in
    let j = c.args.upper.index in
    let e = c.index_past-end.result in
    let rs = c.args.row.now.list in
    let p : ArePlaces c.args.from c.args.to i j e c.args.lower.run c.args.upper.run rs = record {
      order = c.requires.order;
      apart = c.requires.apart;
      first = c.requires.lower_index;
      lower_is = c.requires.lower_run;
      last = c.requires.upper_index;
      upper_is = c.requires.upper_run;
      end = c.index_past-end.ensures;
    } in
    let room =
    second_room c.args.from c.args.to i j e c.put-back.result c.args.row.now.room (length c.put-back.new.self.list)
    c.after.result c.before-2.result c.args.lower.run c.args.upper.run rs p c.after.ensures c.before-2.ensures
    c.put-back.ensures.index c.put-back.ensures.len c.requires.room in
    subst
    (λ z. IfSome c.before-2.result (λ r. c.args.lower.index ≡ c.put-back.result → length c.put-back.new.self.list < z))
    (sym c.put-back.ensures.room) room

pub returns-clause-removed : goal.returns-clause-removed
returns-clause-removed c =
    let i = c.args.lower.index in
    let j = c.args.upper.index in
    let e = c.index_past-end.result in
    let rs = c.args.row.now.list in
    let p : ArePlaces c.args.from c.args.to i j e c.args.lower.run c.args.upper.run rs = record {
      order = c.requires.order;
      apart = c.requires.apart;
      first = c.requires.lower_index;
      lower_is = c.requires.lower_run;
      last = c.requires.upper_index;
      upper_is = c.requires.upper_run;
      end = c.index_past-end.ensures;
    } in
    let is =
    put_back c.args.from c.args.to i e c.put-back.result c.put-front.result c.after.result c.before-2.result
    c.args.lower.run c.args.upper.run rs c.put-back.new.self.list c.put-front.new.self.list
    c.remove_between.new.self.list (ap (λ (s : Stored). s.list) c.remove_between.ensures) c.put-front.ensures.front
    c.put-back.ensures.front c.put-front.ensures.back c.put-back.ensures.back c.before-2.ensures c.after.ensures in
    left_is c.args.from c.args.to i j e c.args.lower.run c.args.upper.run rs c.remove_between.new.self.list p
    c.ranges.to.fits is

pub returns-clause-fewer : goal.returns-clause-fewer
returns-clause-fewer c = λ over.
    let i = c.args.lower.index in
    let j = c.args.upper.index in
    let e = c.index_past-end.result in
    let rs = c.args.row.now.list in
    let p : ArePlaces c.args.from c.args.to i j e c.args.lower.run c.args.upper.run rs = record {
      order = c.requires.order;
      apart = c.requires.apart;
      first = c.requires.lower_index;
      lower_is = c.requires.lower_run;
      last = c.requires.upper_index;
      upper_is = c.requires.upper_run;
      end = c.index_past-end.ensures;
    } in
    let is =
    put_back c.args.from c.args.to i e c.put-back.result c.put-front.result c.after.result c.before-2.result
    c.args.lower.run c.args.upper.run rs c.put-back.new.self.list c.put-front.new.self.list
    c.remove_between.new.self.list (ap (λ (s : Stored). s.list) c.remove_between.ensures) c.put-front.ensures.front
    c.put-back.ensures.front c.put-front.ensures.back c.put-back.ensures.back c.before-2.ensures c.after.ensures in
    left_fewer c.args.from c.args.to i j e c.args.lower.run c.args.upper.run rs c.remove_between.new.self.list p is over
