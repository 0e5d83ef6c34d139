use Rattle.std.proofs.Common.{◌∷◌, ◌++◌, map, vec_items, sym, ap, ◌∙◌}
use Rattle.std.specs.Option.{option_map}
use Rattle.listing.specs.Rows.{numbers_of, padded, text_of, following}
use Rattle.listing.proofs.Growing.{then_more, following_padded}
use Rattle.listing.proofs.rows.push_columns.Goals as goal

pub loop-i-preserved : goal.loop-i-preserved
loop-i-preserved g c =
    let was = vec_items c.args.out.now in
    let ns = numbers_of g.K.Entry.columns (option_map g.K.Entry.bytes c.args.entry) in
    then_more was _ _ c.loop-i.invariant c.in_ok-push_cell.ensures
    ∙ ap (λ o. was ++ (following (map text_of (padded c.loop-i.i ns)) ++ (59 ∷ text_of o))) c.column.ensures
    ∙ ap (λ l. was ++ l) (sym (following_padded ns c.loop-i.i))
