use Rattle.std.proofs.Common.{◌≡◌, slice_get, ap, subst, sym}
use Rattle.sctp_ranges.specs.Runs.{AreApart, HaveRoom}
use Rattle.sctp_received.specs.TsnRanges.{TsnRanges}
use Rattle.sctp_received.proofs.Taken.{room_over, room_after, room_released}
use Rattle.sctp_received.proofs.ranges.Ranges.remove.Goals as goal

pub remove_offsets-requires-clause-room : goal.remove_offsets-requires-clause-room
remove_offsets-requires-clause-room c =
    let lower =
    subst (λ rs. c.args.lower.run ≡ slice_get rs c.args.lower.index)
    (sym (ap (λ (r : TsnRanges). r.ranges) c.self.view_is)) c.requires.lower_run in
    room_over c.args.from c.args.to c.args.lower.index c.self.inside.row.room c.args.lower.run c.self.inside.row.list
    c.self.invariant.2 lower c.requires.half

pub invariant_of-self : goal.invariant_of-self
invariant_of-self c =
    let after =
    room_after c.args.from c.args.to c.self.inside.row.room c.args.lower.run c.self.inside.row.list
    c.remove_offsets.new.row.list c.self.invariant.2 c.remove_offsets.ensures.removed c.remove_offsets.ensures.fewer
    c.requires.half c.ranges.to.fits in
    let kept = subst (HaveRoom c.remove_offsets.new.row.list) (sym c.remove_offsets.ensures.room) after in
    let left =
    room_released c.remove_offsets.new.row.room c.release.new.self.room c.remove_offsets.new.row.list kept
    c.release.ensures.room in (
      c.self.invariant.0,
      subst (AreApart 0) (sym c.release.ensures.list) c.remove_offsets.ensures.removed.0,
      subst (λ rs. HaveRoom rs c.release.new.self.room) (sym c.release.ensures.list) left,
    )
