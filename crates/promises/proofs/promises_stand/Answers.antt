use Rattle.promises.proofs.Standing.{stands}
use Rattle.promises.proofs.promises_stand.Goals as goal

pub returns : goal.returns
returns c = stands
