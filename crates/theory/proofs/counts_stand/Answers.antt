-- The counting laws hold.
use Rattle.theory.proofs.Counting.{counts}
use Rattle.theory.proofs.counts_stand.Goals as goal

pub returns : goal.returns
returns c = counts
