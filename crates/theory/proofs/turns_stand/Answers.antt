-- The turns and calls do what their rules say.
use Rattle.theory.proofs.Doing.{turn_laws}
use Rattle.theory.proofs.turns_stand.Goals as goal

pub returns : goal.returns
returns g c = turn_laws _
