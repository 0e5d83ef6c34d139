-- The promises hold after every fair list of calls.
use Rattle.theory.proofs.Quieting.{promise}
use Rattle.theory.proofs.promises_stand.Goals as goal

pub returns : goal.returns
returns g c = promise _
