-- Every legal history agrees.
use Rattle.theory.proofs.Agreement.{agreement}
use Rattle.theory.proofs.histories_stand.Goals as goal

pub returns : goal.returns
returns g c = agreement _
