use Rattle.std.proofs.Common.{◌≡◌, fold}
use Rattle.wire.specs.Frames.{walk_of}
use Rattle.wire.specs.Steps.{left, parts_in}
use Rattle.promises.specs.Runs.{kind_of}
use Rattle.group.specs.Weeks.{course_of, told}
use Rattle.group.proofs.member.Group.tell_frame.Given as goal

-- the statements that are left, told, come to what all come to, and the coin means what it meant
abbrev pub invariant-loop-step : goal.invariant-loop-step
invariant-loop-step g l =
    let e = g.K.Entry in
    let coin = g.C.Coin.meaning l.fn.self.coin in
    let tell = told (kind_of e.WIDTH e.valid) coin l.sender in
    (fold tell (course_of e.bytes l.self) (parts_in (left e.WIDTH l.step-iterator)) ≡ fold tell (course_of e.bytes l.fn.self) (walk_of e.WIDTH l.frame).found)
    × (g.C.Coin.meaning l.self.coin ≡ coin)
