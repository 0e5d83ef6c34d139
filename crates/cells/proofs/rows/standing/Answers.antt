use Rattle.std.proofs.Common.{◌≡◌, map, length, get_or, None, ap, ◌∙◌, arith}
use Rattle.std.specs.Option.{option_map}
use Rattle.std.proofs.lemmas.List.{length-map}
use Rattle.theory.specs.Count.{count}
use Rattle.cells.specs.Rows.{holds, standing}
use Rattle.cells.proofs.rows.standing.Goals as goal

pub returns : goal.returns
unfolding standing
returns g c =
    let b = g.K.Entry.bytes in
    let x = b c.args.x.now in
    let row = map (option_map b) c.args.cells.now in
    let e : c.loop-sender._sender ≡ length row = omega (arith, length-map c.args.cells.now (option_map b), c.loop-sender-test.false) in
    c.loop-sender.invariant.1 ∙ ap (λ k. count k (λ j. holds x (get_or row j None))) e
