use Rattle.std.proofs.Common.{rules, tests, ◌∙◌, is_some}
use Rattle.std.proofs.lemmas.Iterator.{YieldsList-from_slice}
use Rattle.std.proofs.lemmas.Iterator.Consumers.{count_from_yields_List}
use Rattle.std.proofs.lemmas.Iterator.Search.{YieldsList-from_take_while}
use Rattle.std.proofs.lemmas.List.Folds.{length-prefix_len}
use Rattle.replica.specs.Store.{paged}
use Rattle.printing.proofs.Leading.{leading_long}
use Rattle.printing.proofs.pages.filled.Goals as goal

pub returns : goal.returns
returns g c =
    let cells = c.args.pages.now in
    count_from_yields_List c.take_while.result c.count.result c.count.ensures.ran
    (YieldsList-from_take_while _ is_some (YieldsList-from_slice cells cc) c.take_while.ensures.closure c.take_while.ensures.done (λ x b q k. search (rules, tests)))
    ∙ length-prefix_len is_some cells ∙ leading_long (paged g.K.Entry.bytes) cells
