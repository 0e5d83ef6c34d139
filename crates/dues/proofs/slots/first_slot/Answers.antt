use Rattle.std.proofs.Common.{◌≡◌, sym, ap, ◌∙◌, arith}
use Rattle.std.specs.Option.{option_map}
use Rattle.theory.specs.Search.{first}
use Rattle.cells.proofs.Firsts.{first_start, first_on, first_here}
use Rattle.dues.proofs.slots.first_slot.Goals as goal

pub loop-queue-init : goal.loop-queue-init
loop-queue-init g c st at finds = first_start _

pub loop-slot-init : goal.loop-slot-init
loop-slot-init g c st at finds = (c.loop-queue.invariant st at finds, first_start _)

pub returns-in-Some-clause-value : goal.returns-in-Some-clause-value
returns-in-Some-clause-value g c st at finds =
    let now = c.loop-slot.invariant st at finds in
    let found = sym (finds c.loop-queue.queue c.loop-slot.slot c.due.result c.loop-queue-test.true c.loop-slot-test.true c.due.ensures) ∙ ap (option_map (λ x. st c.loop-queue.queue c.loop-slot.slot (g.K.Entry.bytes x))) c.in-Some.is in
    sym (first_here (λ q. first c.args.set.now.w (at q)) _ c.loop-queue.queue _ c.loop-queue-test.true now.0 (first_here (at c.loop-queue.queue) _ c.loop-slot.slot _ c.loop-slot-test.true now.1 found))

pub loop-slot-preserved : goal.loop-slot-preserved
loop-slot-preserved g c st at finds =
    let now = c.loop-slot.invariant st at finds in
    let none = sym (finds c.loop-queue.queue c.loop-slot.slot c.due.result c.loop-queue-test.true c.loop-slot-test.true c.due.ensures) ∙ ap (option_map (λ x. st c.loop-queue.queue c.loop-slot.slot (g.K.Entry.bytes x))) c.in_default.is in
    (now.0, first_on (at c.loop-queue.queue) c.loop-slot.slot now.1 none)

pub loop-queue-preserved : goal.loop-queue-preserved
loop-queue-preserved g c st at finds =
    let now = c.loop-slot.invariant st at finds in
    let all : c.args.set.now.w ≡ c.loop-slot.slot = omega arith in
    first_on (λ q. first c.args.set.now.w (at q)) c.loop-queue.queue now.0 (ap (λ k. first k (at c.loop-queue.queue)) all ∙ now.1)

pub returns-clause-value : goal.returns-clause-value
returns-clause-value g c st at finds =
    let all : c.args.set.now.n ≡ c.loop-queue.queue = omega arith in
    sym (ap (λ k. first k (λ q. first c.args.set.now.w (at q))) all ∙ c.loop-queue.invariant st at finds)
