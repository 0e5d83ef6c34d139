-- The laws of candidates and pages hold.
use Rattle.theory.proofs.Books.{ledger_laws}
use Rattle.theory.proofs.ledgers_stand.Goals as goal

pub returns : goal.returns
returns g c = ledger_laws _
