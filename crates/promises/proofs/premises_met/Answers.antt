-- The script meets every premise.
use Rattle.promises.proofs.Example.{met}
use Rattle.promises.proofs.premises_met.Goals as goal

pub returns : goal.returns
returns c = met
