-- The script meets every premise.
use Rattle.theory.proofs.Example.{met}
use Rattle.theory.proofs.premises_met.Goals as goal

pub returns : goal.returns
returns c = met
