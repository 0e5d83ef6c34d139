use Rattle.std.proofs.Common.{ℕ, List, take, Ok, Err, ap, ◌∙◌, arith, rules}
use Rattle.std.proofs.lemmas.Result.{err_from_is_err_and}
use Rattle.printing.specs.Grids.{grid_in}
use Rattle.printing.proofs.Filing.{print_unfit, print_long, print_done, print_grid}
use Rattle.printing.proofs.file.print.Goals as goal

pub returns-in_err-replica-clause-value : goal.returns-in_err-replica-clause-value
returns-in_err-replica-clause-value g c =
    let e = g.K.Entry in
    let p = err_from_is_err_and c.from_residual.result c.from_residual.ensures.1 in
    print_unfit e.bytes e.heading e.columns c.args.replica.now c.args.tables.now c.args.out.now c.in_err-replica.field-0.0 c.from_residual.result (p.1 ∙ ap Err p.2) c.in_err-replica.ensures

pub returns-then-out-length-clause-value : goal.returns-then-out-length-clause-value
returns-then-out-length-clause-value g c =
    let e = g.K.Entry in
    let l = c.in_ok-replica.field-0 in
    print_long e.bytes e.heading e.columns c.args.replica.now c.args.tables.now c.args.out.now l.replica.now l.tables.now l.long c.in_ok-replica.ensures c.book_cells-pages.result.now c.book_cells-pages.ensures (omega (arith, c.put_file.ensures (omega arith)))

pub returns-clause-value : goal.returns-clause-value
returns-clause-value g c =
    let e = g.K.Entry in
    let l = c.in_ok-replica.field-0 in
    let s = c.put_file-2.new.sink in
    let file = c.put_file-2.ensures.1 (omega (arith, c.put_file.ensures (omega arith))) in
    ap (λ (o : List ℕ). (Ok s.at, o)) (search rules)
    ∙ print_done e.bytes e.heading e.columns c.args.replica.now c.args.tables.now c.args.out.now l.replica.now l.tables.now l.long c.in_ok-replica.ensures c.book_cells-pages.result.now c.book_cells-pages.ensures s.at s.out.now file

pub returns-clause-grid : goal.returns-clause-grid
returns-clause-grid g c =
    let e = g.K.Entry in
    let l = c.in_ok-replica.field-0 in
    let s = c.put_file-2.new.sink in
    let file = c.put_file-2.ensures.1 (omega (arith, c.put_file.ensures (omega arith))) in
    ap (λ (o : List ℕ). grid_in (take s.at o)) (search rules)
    ∙ print_grid e.bytes e.heading e.columns c.args.replica.now c.args.tables.now c.args.out.now l.replica.now l.tables.now l.long c.in_ok-replica.ensures c.book_cells-pages.result.now c.book_cells-pages.ensures s.at s.out.now file
