use Rattle.std.proofs.Common.{Ok, Err, sym, ap, ◌∙◌, subst}
use Rattle.std.proofs.lemmas.Result.{err_from_is_err_and}
use Rattle.cells.specs.declared.grid.Grid.{Grid}
use Rattle.replica.specs.Store.{store, fits, cleared, Wiped}
use Rattle.common.specs.Refusals.{answered}
use Rattle.replica.specs.Making.{numbers, plain}
use Rattle.replica.proofs.Answering.{make_declined, make_short, make_fresh}
use Rattle.replica.proofs.Wiping.{wiped}
use Rattle.replica.proofs.Freshness.{accepted_grid, fresh_begins}
use Rattle.replica.proofs.state.Replica.make.Goals as goal

pub returns-in_err-set-clause-value : goal.returns-in_err-set-clause-value
returns-in_err-set-clause-value g c =
    let t = store g.K.Entry.bytes c.args.tables.now in
    let p = err_from_is_err_and c.from_residual.result c.from_residual.ensures.1 in
    ap (λ r. (answered plain r, t)) (p.1 ∙ ap Err p.2) ∙ make_declined c.args.n c.args.me c.args.w t _ c.in_err-set.ensures

pub returns-then-not-fit-clause-value : goal.returns-then-not-fit-clause-value
returns-then-not-fit-clause-value g c =
    let s = numbers c.in_ok-set.set in
    let grid = accepted_grid c.args.n c.args.me c.args.w s c.in_ok-set.ensures c.grid-grid.result c.grid-grid.ensures in
    let t = store g.K.Entry.bytes c.args.tables.now in
    make_short c.args.n c.args.me c.args.w t s c.in_ok-set.ensures (c.if-not-fit.ensures ∙ ap (λ (x : Grid). fits x.n x.w t) grid)

pub returns : goal.returns
returns g c =
    let t = store g.K.Entry.bytes c.args.tables.now in
    let n = c.args.n in
    let w = c.args.w in
    let s = numbers c.in_ok-set.set in
    let grid = accepted_grid n c.args.me w s c.in_ok-set.ensures c.grid-grid.result c.grid-grid.ensures in
    let long = c.if-not-fit.ensures ∙ ap (λ (x : Grid). fits x.n x.w t) grid in
    let emptied = c.clear.ensures ∙ ap (λ (x : Grid). cleared x.n x.w t) grid in
    let wiped-now = subst (Wiped n w t) (sym emptied) (wiped n w t (sym long)) in
    record {
      value =
          (λ i. (Ok (c.fresh.ensures i), emptied i))
          ∙ make_fresh n c.args.me w t s c.in_ok-set.ensures long;
      wiped = wiped-now;
      begins = fresh_begins c.fresh.result n c.args.me w s t (store g.K.Entry.bytes c.clear.new.self) c.fresh.ensures c.in_ok-set.ensures wiped-now;
    }
