use Rattle.std.proofs.Common.{◌≡◌, ◌-◌, ◌≤◌, length}
use Rattle.promises.specs.Runs.{kind_of}
use Rattle.group.specs.Groups.{group_of}
use Rattle.group.specs.Weeks.{again, pass, passes_most}
use Rattle.group.proofs.member.Group.settle.Given as goal

-- the passes that are left come to what all come to, and the coin means what it meant
abbrev pub invariant-loop : goal.invariant-loop
invariant-loop g l =
    let e = g.K.Entry in
    let coin = g.C.Coin.meaning l.fn.self.coin in
    let f = pass (kind_of e.WIDTH e.valid) coin in
    record {
      left : again f (passes_most - l.counter) (group_of e.bytes l.self) ≡ again f passes_most (group_of e.bytes l.fn.self);
      coin : g.C.Coin.meaning l.self.coin ≡ coin;
      few : length (group_of e.bytes l.self) ≤ 256;
      size : length l.buffer ≡ length l.fn.buffer;
    }
