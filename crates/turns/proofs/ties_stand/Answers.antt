use Rattle.turns.proofs.Tied.{ties}
use Rattle.turns.proofs.ties_stand.Goals as goal

pub returns : goal.returns
returns c = ties
