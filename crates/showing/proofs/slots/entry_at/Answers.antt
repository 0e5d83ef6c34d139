use Rattle.std.proofs.Common.{refl, sym, ap, ◌∙◌, arith}
use Rattle.std.specs.Option.{option_map}
use Rattle.theory.specs.Statement.{echo, ready, have}
use Rattle.replica.specs.Store.{store}
use Rattle.showing.proofs.Owning.{own_echo, own_ready, own_have}
use Rattle.showing.proofs.slots.entry_at.Goals as goal

pub returns-in_err-queue : goal.returns-in_err-queue
returns-in_err-queue g c =
    let b = g.K.Entry.bytes in
    let l = c.args.lent.now in
    let rows = rw c.grid.ensures at c.slots-rows.ensures in
    rw c.from_residual.ensures (sym (ap (option_map (λ x. echo x.0 x.1 (b x.2))) c.in_err-queue.was) ∙ c.own_entry.ensures echo ∙ own_echo l.replica.now (store b l.tables.now) c.args.i _ (omega (arith, rows)) refl)

pub returns-then-i-rows : goal.returns-then-i-rows
returns-then-i-rows g c =
    let b = g.K.Entry.bytes in
    let l = c.args.lent.now in
    let rows = rw c.grid.ensures at c.slots-rows.ensures in
    sym (ap (option_map (λ x. echo x.0 x.1 (b x.2))) c.in_ok-queue.was) ∙ c.own_entry.ensures echo ∙ own_echo l.replica.now (store b l.tables.now) c.args.i _ (omega (arith, rows)) refl

pub returns-in_err-queue-2 : goal.returns-in_err-queue-2
returns-in_err-queue-2 g c =
    let b = g.K.Entry.bytes in
    let l = c.args.lent.now in
    let rows = rw c.grid.ensures at c.slots-rows.ensures in
    rw c.from_residual-in_err-queue-2.ensures (sym (ap (option_map (λ x. ready x.0 x.1 (b x.2))) c.in_err-queue-2.was) ∙ c.own_entry-then-i-rows-2.ensures ready ∙ own_ready l.replica.now (store b l.tables.now) c.args.i _ (omega (arith, rows)) (omega (arith, rows)))

pub returns-then-i-rows-2 : goal.returns-then-i-rows-2
returns-then-i-rows-2 g c =
    let b = g.K.Entry.bytes in
    let l = c.args.lent.now in
    let rows = rw c.grid.ensures at c.slots-rows.ensures in
    sym (ap (option_map (λ x. ready x.0 x.1 (b x.2))) c.in_ok-queue-2.was) ∙ c.own_entry-then-i-rows-2.ensures ready ∙ own_ready l.replica.now (store b l.tables.now) c.args.i _ (omega (arith, rows)) (omega (arith, rows))

pub returns-in_err-queue-3 : goal.returns-in_err-queue-3
returns-in_err-queue-3 g c =
    let b = g.K.Entry.bytes in
    let l = c.args.lent.now in
    let rows = rw c.grid.ensures at c.slots-rows.ensures in
    rw c.from_residual-in_err-queue-3.ensures (sym (ap (option_map (λ x. have x.0 x.1 (b x.2))) c.in_err-queue-3.was) ∙ c.own_entry-2.ensures have ∙ own_have l.replica.now (store b l.tables.now) c.args.i _ (omega (arith, rows)) (omega (arith, rows)))

pub returns : goal.returns
returns g c =
    let b = g.K.Entry.bytes in
    let l = c.args.lent.now in
    let rows = rw c.grid.ensures at c.slots-rows.ensures in
    sym (ap (option_map (λ x. have x.0 x.1 (b x.2))) c.in_ok-queue-3.was) ∙ c.own_entry-2.ensures have ∙ own_have l.replica.now (store b l.tables.now) c.args.i _ (omega (arith, rows)) (omega (arith, rows))
