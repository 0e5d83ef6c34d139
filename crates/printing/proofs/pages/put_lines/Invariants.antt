use Rattle.std.proofs.Common.{map, drop}
use Rattle.std.specs.Option.{option_map}
use Rattle.replica.specs.Store.{paged}
use Rattle.replica.specs.View.{leading}
use Rattle.printing.specs.Files.{lines_of}
use Rattle.printing.proofs.Putting.{Going}
use Rattle.printing.proofs.pages.put_lines.Given as goal

abbrev pub invariant-loop-cell : goal.invariant-loop-cell
invariant-loop-cell g l =
    let e = g.K.Entry in
    let f = option_map (paged e.bytes) in
    Going g.S.Sink.put_gives l.initial.sink (lines_of e.columns (leading (map f l.pages))) l.sink (lines_of e.columns (leading (map f (drop l.cell-index l.pages))))
