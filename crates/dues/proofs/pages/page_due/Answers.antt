use Rattle.std.proofs.Common.{None, ap, ◌∙◌}
use Rattle.std.specs.Option.{option_map}
use Rattle.theory.specs.Turns.{kept_at}
use Rattle.replica.specs.Store.{store}
use Rattle.replica.specs.View.{plan, box}
use Rattle.dues.proofs.Paging.{page_inside, page_kept}
use Rattle.dues.proofs.pages.page_due.Goals as goal

pub kept-requires-clause-inside : goal.kept-requires-clause-inside
kept-requires-clause-inside g c = page_inside c.args.lent.now.replica.now (store g.K.Entry.bytes c.args.lent.now.tables.now) c.in_ok-slot.slot c.in_ok-slot.ensures

pub returns-in_err-item-clause-value : goal.returns-in_err-item-clause-value
returns-in_err-item-clause-value g c =
    let b = g.K.Entry.bytes in
    let m = c.args.lent.now.replica.now in
    let t = store b c.args.lent.now.tables.now in
    let at = ap (λ q. kept_at (plan m) (box m t) q c.in_ok-slot.slot) c.queue_of-queue.ensures in
    ap (option_map (λ p. (p.0, b p.1))) c.from_residual-in_err-item.ensures
    ∙ page_kept m t c.in_ok-slot.slot c.in_ok-slot.ensures None (c.in_err-item.ensures ∙ at)

pub returns-clause-value : goal.returns-clause-value
returns-clause-value g c =
    let b = g.K.Entry.bytes in
    let m = c.args.lent.now.replica.now in
    let t = store b c.args.lent.now.tables.now in
    let at = ap (λ q. kept_at (plan m) (box m t) q c.in_ok-slot.slot) c.queue_of-queue.ensures in
    page_kept m t c.in_ok-slot.slot c.in_ok-slot.ensures _ (c.in_ok-item.ensures ∙ at)

pub returns-clause-within : goal.returns-clause-within
returns-clause-within g c = page_inside c.args.lent.now.replica.now (store g.K.Entry.bytes c.args.lent.now.tables.now) c.in_ok-slot.slot c.in_ok-slot.ensures
