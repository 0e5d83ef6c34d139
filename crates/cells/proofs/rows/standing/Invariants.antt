use Rattle.std.proofs.Common.{◌≡◌, ◌≤◌, map, get_or, None}
use Rattle.std.specs.Option.{option_map}
use Rattle.theory.specs.Count.{count}
use Rattle.cells.specs.Rows.{holds}
use Rattle.cells.proofs.rows.standing.Given as goal

abbrev pub invariant-loop-sender : goal.invariant-loop-sender
invariant-loop-sender g l =
    let b = g.K.Entry.bytes in
    (l.senders ≤ l._sender) × (l.senders ≡ count l._sender (λ j. holds (b l.x) (get_or (map (option_map b) l.cells) j None)))
