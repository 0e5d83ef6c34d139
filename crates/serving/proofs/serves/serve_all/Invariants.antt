use Rattle.std.proofs.Common.{◌≡◌, map, length, take}
use Rattle.common.specs.Refusals.{numbered}
use Rattle.replica.specs.Store.{store}
use Rattle.promises.specs.Runs.{kind_of}
use Rattle.serving.specs.Serves.{served}
use Rattle.serving.proofs.serves.serve_all.Given as goal

-- what is put down, the replica and its tables are as the calls so far leave them, and the coin means what it meant
abbrev pub invariant-loop-i : goal.invariant-loop-i
invariant-loop-i g l =
    let e = g.K.Entry in
    (served (kind_of e.WIDTH e.valid) (g.C.Coin.meaning l.fn.coin) l.fn.replica (store e.bytes l.fn.tables) (take l.i l.calls) ≡ (take l.i (map numbered l.answers), l.replica, store e.bytes l.tables))
    × (length l.answers ≡ length l.calls)
    × (g.C.Coin.meaning l.coin ≡ g.C.Coin.meaning l.fn.coin)
