use Rattle.showing.proofs.Skipping.{Passed}
use Rattle.showing.proofs.output.skip.Given as goal

abbrev pub invariant-loop : goal.invariant-loop
invariant-loop g l = Passed l.counter l.fn.board l.board
