use Rattle.std.proofs.Common.{rules}
use Rattle.theory.specs.Statement.{ready}
use Rattle.theory.specs.Turns.{ready_at}
use Rattle.replica.specs.Fitting.{plan_of, box_of}
use Rattle.dues.proofs.slots.ready_due.Goals as goal

pub returns-clause-value : goal.returns-clause-value
returns-clause-value g c =
    let l = c.args.lent.now in
    c.first_slot.ensures.value ready (ready_at (plan_of l) (box_of l)) (λ q s r lq ls h. search rules)
