use Rattle.std.proofs.Common.{refl, ap, fold, ◌∙◌}
use Rattle.wire.specs.Frames.{walk_of}
use Rattle.wire.specs.Steps.{left, parts_in}
use Rattle.promises.specs.Runs.{kind_of}
use Rattle.group.specs.Weeks.{course_of, told}
use Rattle.group.proofs.Steps.{parts_found}
use Rattle.group.proofs.member.Group.tell_frame.Goals as goal

pub loop-step-init : goal.loop-step-init
loop-step-init g c =
    let e = g.K.Entry in
    let walk = walk_of e.WIDTH c.args.frame.now in (
      ap (λ l. fold (told (kind_of e.WIDTH e.valid) (g.C.Coin.meaning c.args.self.now.coin) c.args.sender) (course_of e.bytes c.args.self.now) (parts_in l)) (ap (left e.WIDTH) c.into_iter-step-iterator.ensures.into_iter_gives ∙ c.walk-step-items.ensures.value)
          ∙ ap (fold (told (kind_of e.WIDTH e.valid) (g.C.Coin.meaning c.args.self.now.coin) c.args.sender) (course_of e.bytes c.args.self.now)) (parts_found 0 walk.found walk.stop),
      refl,
    )
