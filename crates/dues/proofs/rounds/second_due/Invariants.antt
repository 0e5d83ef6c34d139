use Rattle.std.proofs.Common.{◌≡◌, None}
use Rattle.theory.specs.Search.{first}
use Rattle.replica.specs.Store.{Store}
use Rattle.replica.specs.View.{plan, box}
use Rattle.dues.specs.Seconds.{second_in}
use Rattle.dues.proofs.rounds.second_due.Given as goal

abbrev pub invariant-loop-k : goal.invariant-loop-k
invariant-loop-k l = (t : Store) → first l.k (second_in (plan l.replica) (box l.replica t)) ≡ None
