use Rattle.std.proofs.Common.{◌≡◌, ap, sym, ◌∙◌, rules, Err}
use Rattle.std.specs.Option.{option_map}
use Rattle.std.proofs.lemmas.Result.{err_from_is_err_and}
use Rattle.cells.proofs.Cellrows.{map_read}
use Rattle.replica.specs.Store.{store, paged}
use Rattle.replica.proofs.Answering.{page_short, page_past, page_found, answered_found}
use Rattle.replica.proofs.Accepting.{refused, accepted}
use Rattle.replica.proofs.state.Replica.page.Goals as goal

pub returns-in_err-lent-clause-value : goal.returns-in_err-lent-clause-value
returns-in_err-lent-clause-value g c =
    let b = g.K.Entry.bytes in
    let m = c.args.self.now in
    let p = err_from_is_err_and c.from_residual.result c.from_residual.ensures.1 in
    let r = refused b m c.args.tables.now c.in_err-lent.field-0.0 c.in_err-lent.ensures in
    rw (p.1, p.2) (ap Err r.1 ∙ page_short m (store b c.args.tables.now) c.args.place r.0)

pub returns-then-place-from-clause-value : goal.returns-then-place-from-clause-value
returns-then-place-from-clause-value g c =
    let b = g.K.Entry.bytes in
    let m = c.args.self.now in
    page_past m (store b c.args.tables.now) c.args.place (accepted b m c.args.tables.now _ c.in_ok-lent.ensures).1 (search rules)

pub returns-clause-value : goal.returns-clause-value
returns-clause-value g c =
    let b = g.K.Entry.bytes in
    let m = c.args.self.now in
    let t = c.args.tables.now in
    let q = accepted b m t _ c.in_ok-lent.ensures in
    let given : c.in_ok-lent.lent.tables.now ≡ t = λ i. (q.0 i).1 in
    let there = rw given at c.get.ensures in
    answered_found b c.get.result c.ok_or.result c.ok_or.ensures.value
    ∙ page_found m (store b t) c.args.place q.1 (search rules) (option_map (paged b) c.get.result) (ap (option_map (paged b)) there ∙ sym (map_read (paged b) t.pages.cells.now c.args.place))
