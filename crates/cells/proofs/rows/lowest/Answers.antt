use Rattle.std.proofs.Common.{map, None, sym, ◌∙◌, rules}
use borrow.Author.Tests.{tests}
use Rattle.std.specs.Option.{option_map}
use Rattle.std.proofs.lemmas.List.{length-map}
use Rattle.theory.specs.Search.{first}
use Rattle.cells.specs.Rows.{lowest_in}
use Rattle.cells.proofs.Firsts.{found}
use Rattle.cells.proofs.Cellrows.{map_read, backed, backed_kept}
use Rattle.cells.proofs.rows.lowest.Goals as goal

pub returns : goal.returns
unfolding lowest_in
returns g c =
    let b = g.K.Entry.bytes in
    let xs = c.args.cells.now in
    let row = map (option_map b) xs in
    let k = c.args.least in
    found _ _ b (λ o. backed k row (option_map b o)) (λ a r f h. search rules) (λ x r h. backed_kept b k row x.now r (search (rules, tests))) xs None _ _ c.iter.ensures.rest c.find_map.ensures.runs
    ∙ sym (λ i. first (length-map xs (option_map b) i) (λ j. backed k row (map_read b xs j i)))
