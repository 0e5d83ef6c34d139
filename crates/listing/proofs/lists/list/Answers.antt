use Rattle.std.proofs.Common.{◌≡◌, length, sym, ap, ◌∙◌, subst, refl, arith, rules}
use Rattle.wire.specs.Statements.{message_of}
use Rattle.wire.specs.Frames.{Statements, walk_of}
use Rattle.wire.specs.Steps.{left, parts_in}
use Rattle.listing.specs.Rows.{Kind, kind_of, row_of}
use Rattle.listing.specs.Lists.{Listed, grown}
use Rattle.listing.specs.Records.{listed_of}
use Rattle.listing.proofs.Going.{behind, behind_none, listed, listed_walk, at_row, whole_after}
use Rattle.listing.proofs.lists.list.Given as given
use Rattle.listing.proofs.lists.list.Goals as goal

abbrev kind : given.Over → Kind
kind g = let e = g.K.Entry in kind_of e.WIDTH e.valid e.heading e.columns

pub loop-step-init : goal.loop-step-init
loop-step-init g c =
    let k = kind g in
    let w = g.K.Entry.WIDTH in
    let frame = c.args.frame.now in
    let law = c.walk-step-items.ensures.walked in
    let walk = walk_of w frame in
    let begun = ap (left w) c.into_iter-step-iterator.ensures.into_iter_gives ∙ c.walk-step-items.ensures.value in (
      omega (arith, ap length begun, law.few),
      subst (λ l. Statements w (parts_in l)) (sym begun) law.whole,
      refl,
      rw c.new.ensures.items (behind_none _ ∙ ap (listed k) begun ∙ listed_walk k 0 walk.found walk.stop),
    )

pub loop-step-preserved : goal.loop-step-preserved
loop-step-preserved g c =
    let k = kind g in
    let was = listed_of c.loop-step.listing in
    let i = c.loop-step.invariant in
    let step = c.in-Some.step in
    let steps = c.in-Some.ensures.steps in
    let more = left k.width c.next.new.self in
    let row = c.in-Ok.row in
    let grows : listed_of c.push.new.self ≡ grown (row_of k row.place (message_of row.statement)) was = c.in_ok-push-in-Ok.ensures in (
      omega (arith, i.0, ap (λ (l : Listed). l.count) grows, ap length steps),
      whole_after k was more step (subst (λ l. Statements k.width (parts_in l)) steps i.1),
      ap (λ (l : Listed). l.fault) grows ∙ i.2,
      ap (λ l. behind l (listed k more)) grows
          ∙ sym (at_row k was more step row.place (message_of row.statement) (search rules))
          ∙ ap (λ x. behind was (listed k x)) (sym steps) ∙ i.3,
    )
