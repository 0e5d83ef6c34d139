use Rattle.std.proofs.Common.{◌≡◌, suc, ◌+◌, sym, ap, ◌∙◌, arith}
use Rattle.theory.specs.Search.{first}
use Rattle.cells.proofs.Firsts.{first_start, first_on, first_here}
use Rattle.replica.specs.View.{plan, box}
use Rattle.dues.specs.Seconds.{second_in}
use Rattle.dues.proofs.rounds.second_due.Goals as goal

pub loop-k-init : goal.loop-k-init
loop-k-init c t = first_start _

pub returns-in-Some-clause-value : goal.returns-in-Some-clause-value
returns-in-Some-clause-value c t =
    sym (first_here (second_in (plan c.args.replica.now) (box c.args.replica.now t)) _ c.loop-k.k _ (omega (arith, c.loop-k-test.true)) (c.loop-k.invariant t) (sym (c.in-Some.ensures.value t)))

pub loop-k-preserved : goal.loop-k-preserved
loop-k-preserved c t = first_on _ _ (c.loop-k.invariant t) (sym (c.in_default.ensures.value t))

pub returns-in_default-clause-value : goal.returns-in_default-clause-value
returns-in_default-clause-value c t =
    let last : suc c.args.round ≡ c.loop-k.k + 1 = omega arith in
    sym (ap (λ k. first k (second_in (plan c.args.replica.now) (box c.args.replica.now t))) last ∙ first_on _ _ (c.loop-k.invariant t) (sym (c.in_default.ensures.value t)))
