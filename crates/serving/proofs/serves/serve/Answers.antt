use Rattle.promises.proofs.Standing.{stands}
use Rattle.serving.proofs.serves.serve.Goals as goal

pub returns-in_err-submit-in-Submit-clause-promise : goal.returns-in_err-submit-in-Submit-clause-promise
returns-in_err-submit-in-Submit-clause-promise g c = stands

pub returns-in_err-open-in-Open-clause-promise : goal.returns-in_err-open-in-Open-clause-promise
returns-in_err-open-in-Open-clause-promise g c = stands

pub returns-in_err-hear-in-Hear-clause-promise : goal.returns-in_err-hear-in-Hear-clause-promise
returns-in_err-hear-in-Hear-clause-promise g c = stands

pub returns-in-Turn-clause-promise : goal.returns-in-Turn-clause-promise
returns-in-Turn-clause-promise g c = stands

pub returns-in_ok-submit-in-Submit-clause-promise : goal.returns-in_ok-submit-in-Submit-clause-promise
returns-in_ok-submit-in-Submit-clause-promise g c = stands

pub returns-in_ok-open-in-Open-clause-promise : goal.returns-in_ok-open-in-Open-clause-promise
returns-in_ok-open-in-Open-clause-promise g c = stands

pub returns-in_ok-hear-in-Hear-clause-promise : goal.returns-in_ok-hear-in-Hear-clause-promise
returns-in_ok-hear-in-Hear-clause-promise g c = stands
