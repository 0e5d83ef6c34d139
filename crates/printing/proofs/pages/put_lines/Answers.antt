use Rattle.std.proofs.Common.{ap}
use Rattle.replica.specs.Store.{paged}
use Rattle.printing.specs.Files.{lines_of}
use Rattle.printing.proofs.Putting.{on}
use Rattle.printing.proofs.Leading.{at_page}
use Rattle.printing.proofs.pages.put_lines.Goals as goal

pub loop-cell-preserved : goal.loop-cell-preserved
loop-cell-preserved g c =
    let e = g.K.Entry in
    let more = at_page (paged e.bytes) c.args.pages.now c.loop-cell.cell-index c.cell-item.result c.in-Some.page c.loop-cell-test.true c.cell-item.is c.in-Some.is in
    on g.met.S.Sink.joined (ap (lines_of e.columns) more) c.loop-cell.invariant c.put_line.ensures
