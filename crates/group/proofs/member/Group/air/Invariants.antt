use Rattle.std.proofs.Common.{◌≡◌, ◌-◌, ◌≤◌, length, take, fold}
use Rattle.std.specs.List.{slice_get}
use Rattle.promises.specs.Runs.{kind_of}
use Rattle.group.specs.Groups.{group_of}
use Rattle.group.specs.Weeks.{course_of, board_at, told}
use Rattle.group.proofs.member.Group.air.Given as goal

-- the statements below the number have been told, and the one who is heard is as he was
abbrev pub invariant-loop-shown : goal.invariant-loop-shown
invariant-loop-shown g l =
    let e = g.K.Entry in
    let coin = g.C.Coin.meaning l.fn.self.coin in
    let board = board_at (slice_get (group_of e.bytes l.fn.self) l.sender) in
    record {
      within : l.number ≤ length board;
      stays : slice_get (group_of e.bytes l.self) l.sender ≡ slice_get (group_of e.bytes l.fn.self) l.sender;
      so_far : fold (told (kind_of e.WIDTH e.valid) coin l.sender) (course_of e.bytes l.fn.self) (take l.number board) ≡ course_of e.bytes l.self;
      coin : g.C.Coin.meaning l.self.coin ≡ coin;
      size : length l.buffer ≡ length l.fn.buffer;
    }

abbrev pub decreases-loop-shown : goal.decreases-loop-shown
decreases-loop-shown g l = length (board_at (slice_get (group_of g.K.Entry.bytes l.fn.self) l.sender)) - l.number
