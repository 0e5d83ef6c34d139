use Rattle.std.proofs.Common.{◌≡◌, ◌+◌, ◌*◌, le_refl, arith, rules}
use Rattle.std.proofs.lemmas.Nat.{mul-le}
use Rattle.cells.proofs.grid.Grid.row.Goals as goal

pub returns-clause-within : goal.returns-clause-within
returns-clause-within c =
    let n = c.args.self.n in
    let e : c.from.result ≡ n = search rules in
    rw e (omega (arith, mul-le (c.slot_place.result + 1) n (n * c.args.self.w) n (omega arith) (le_refl n)))
