use Rattle.std.proofs.Common.{◌≡◌, length, drop}
use Rattle.replica.specs.Store.{store}
use Rattle.showing.specs.Boards.{places, filled}
use Rattle.showing.proofs.board.BoardIterator.next.Given as goal

abbrev pub invariant-loop-i : goal.invariant-loop-i
invariant-loop-i g l =
    let lent = l.self-inside.lent in
    let os = places lent.replica.now (store g.K.Entry.bytes lent.tables.now) in
    (l.i-end ≡ length os) × (l.fn.self ≡ filled (drop l.i os)) × (filled (drop l.self-inside.place os) ≡ l.fn.self)
