use Rattle.std.proofs.Common.{◌≡◌, ◌-◌}
use Rattle.promises.specs.Runs.{kind_of}
use Rattle.group.specs.Weeks.{course_of, again, acted, turns_most}
use Rattle.group.proofs.member.Group.rest.Given as goal

-- the turns that are left come to what all come to, and the coin means what it meant
abbrev pub invariant-loop : goal.invariant-loop
invariant-loop g l =
    let e = g.K.Entry in
    let coin = g.C.Coin.meaning l.fn.self.coin in
    let turn = acted (kind_of e.WIDTH e.valid) coin l.at in
    (again turn (turns_most - l.counter) (course_of e.bytes l.self) ≡ again turn turns_most (course_of e.bytes l.fn.self))
    × (g.C.Coin.meaning l.self.coin ≡ coin)
