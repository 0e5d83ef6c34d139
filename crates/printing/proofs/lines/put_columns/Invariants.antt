use Rattle.std.proofs.Common.{ℕ, List, drop}
use Rattle.printing.specs.Files.{cells_of}
use Rattle.printing.proofs.Putting.{Going}
use Rattle.printing.proofs.lines.put_columns.Given as goal

abbrev pub invariant-loop-i : goal.invariant-loop-i
invariant-loop-i g l =
    let ns : List ℕ = g.K.Entry.columns (g.K.Entry.bytes l.x) in
    Going g.S.Sink.put_gives l.initial.sink (cells_of ns) l.sink (cells_of (drop l.i-iterator.start ns))
