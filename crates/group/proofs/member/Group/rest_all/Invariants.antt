use Rattle.std.proofs.Common.{◌≡◌, fold}
use Rattle.std.specs.List.{range_with_len}
use Rattle.promises.specs.Runs.{kind_of}
use Rattle.group.specs.Weeks.{course_of, rested}
use Rattle.group.proofs.member.Group.rest_all.Given as goal

-- those so far rest, and the coin means what it meant
abbrev pub invariant-loop-at : goal.invariant-loop-at
invariant-loop-at g l =
    let e = g.K.Entry in
    let coin = g.C.Coin.meaning l.fn.self.coin in
    (fold (rested (kind_of e.WIDTH e.valid) coin) (course_of e.bytes l.fn.self) (range_with_len 0 l.at) ≡ course_of e.bytes l.self)
    × (g.C.Coin.meaning l.self.coin ≡ coin)
