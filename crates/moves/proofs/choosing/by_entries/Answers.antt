use Rattle.std.proofs.Common.{ap, ◌∙◌}
use Rattle.std.specs.Option.{option_map}
use Rattle.theory.specs.Calls.{to_echo, to_ready, to_keep}
use Rattle.replica.specs.Store.{store}
use Rattle.moves.specs.Moves.{move_of}
use Rattle.moves.proofs.Trying.{hit, miss, last, none}
use Rattle.moves.proofs.choosing.by_entries.Goals as goal

pub returns-in-Some-clause-value : goal.returns-in-Some-clause-value
returns-in-Some-clause-value g c coin = hit to_echo _ _ _ c.in-Some.ensures.value

pub returns-in-Some-ready_due-clause-value : goal.returns-in-Some-ready_due-clause-value
returns-in-Some-ready_due-clause-value g c coin = miss to_echo _ _ _ c.in_default.ensures.value (hit to_ready _ _ _ c.in-Some-ready_due.ensures.value)

pub returns-in_err-due-clause-value : goal.returns-in_err-due-clause-value
returns-in_err-due-clause-value g c coin =
    ap (option_map (move_of g.K.Entry.bytes c.args.lent.now.replica.now (store g.K.Entry.bytes c.args.lent.now.tables.now))) c.from_residual.ensures
    ∙ miss to_echo _ _ _ c.in_default.ensures.value (miss to_ready _ _ _ c.in_default-ready_due.ensures.value (none to_keep _ c.in_err-due.ensures.value))

pub returns-clause-value : goal.returns-clause-value
returns-clause-value g c coin = miss to_echo _ _ _ c.in_default.ensures.value (miss to_ready _ _ _ c.in_default-ready_due.ensures.value (last to_keep _ _ c.in_ok-due.ensures.value))
