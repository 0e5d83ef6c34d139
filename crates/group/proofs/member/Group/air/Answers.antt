use Rattle.std.proofs.Common.{ap, ◌∙◌, subst, take, arith}
use Rattle.wire.specs.Frames.{walk_of}
use Rattle.promises.specs.Runs.{kind_of}
use Rattle.group.specs.Groups.{group_of}
use Rattle.group.specs.Weeks.{course_of, board_at, Part}
use Rattle.group.proofs.Keeping.{told_keeps, told_more}
use Rattle.std.specs.List.{slice_get}
use Rattle.group.proofs.member.Group.air.Goals as goal

pub loop-shown-preserved : goal.loop-shown-preserved
loop-shown-preserved g c =
    let e = g.K.Entry in
    let kind = kind_of e.WIDTH e.valid in
    let i = c.loop-shown.invariant in
    let s = c.in-Some.shown in
    let j = c.args.sender in
    let part = subst (λ o. Part e.WIDTH (board_at o) c.loop-shown.number s.next c.frame_at.new.buffer s.bytes) (ap (slice_get (group_of e.bytes c.loop-shown.self)) c.from-at.ensures ∙ i.stays) c.in-Some.ensures.value in
    record {
      within = part.within;
      stays = told_keeps kind (g.C.Coin.meaning c.loop-shown.self.coin) j (course_of e.bytes c.loop-shown.self) (course_of e.bytes c.tell_frame.new.self) (walk_of e.WIDTH (take s.bytes c.frame_at.new.buffer)).found c.tell_frame.ensures.value ∙ i.stays;
      so_far = told_more kind _ _ j _ _ _ _ c.loop-shown.number s.next _ (omega (arith, part.onward)) i.so_far i.coin part.found c.tell_frame.ensures.value;
      coin = c.tell_frame.ensures.coin ∙ i.coin;
      size = c.in-Some.ensures.size ∙ i.size;
    }
