use Rattle.std.proofs.Common.{◌+◌, map, sym, ◌∙◌}
use Rattle.std.specs.Option.{option_map}
use Rattle.cells.specs.Rows.{lowest_in, part}
use Rattle.dues.proofs.Slotting.{cell_free, vouched_first, vouched_else}
use Rattle.dues.proofs.slots.vouched.Goals as goal

pub returns-in-Some : goal.returns-in-Some
returns-in-Some g c =
    let b = g.K.Entry.bytes in
    let free = cell_free b c.args.stated.now.cells.now c.place.result _ c.get.result c.get.ensures (rw c.grid-grid.ensures at c.place.ensures.value) (sym c.is_some.ensures ∙ c.if-is_some.false) in
    vouched_first c.args.set.now c.args.queue c.args.slot (map (option_map b) c.args.stated.now.cells.now) (map (option_map b) c.args.heard.now.cells.now) c.args.enough free _
    (c.in-Some.ensures ∙ (λ i. lowest_in c.args.enough (part ((rw c.grid-grid.ensures at c.row-row.ensures.value) i) (c.from-n.ensures i) (map (option_map b) c.args.heard.now.cells.now))))

pub returns : goal.returns
returns g c =
    let b = g.K.Entry.bytes in
    let free = cell_free b c.args.stated.now.cells.now c.place.result _ c.get.result c.get.ensures (rw c.grid-grid.ensures at c.place.ensures.value) (sym c.is_some.ensures ∙ c.if-is_some.false) in
    c.lowest-2.ensures
    ∙ (λ i. lowest_in (c.from.ensures i + 1) (part ((rw c.grid-grid.ensures at c.row-row.ensures.value) i) (c.from-n.ensures i) (map (option_map b) c.args.stated.now.cells.now)))
    ∙ vouched_else c.args.set.now c.args.queue c.args.slot (map (option_map b) c.args.stated.now.cells.now) (map (option_map b) c.args.heard.now.cells.now) c.args.enough free
    (c.in_default.ensures ∙ (λ i. lowest_in c.args.enough (part ((rw c.grid-grid.ensures at c.row-row.ensures.value) i) (c.from-n.ensures i) (map (option_map b) c.args.heard.now.cells.now))))
