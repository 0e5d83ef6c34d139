use Rattle.std.proofs.Common.{◌∙◌}
use Rattle.replica.specs.Store.{store}
use Rattle.theory.specs.Statement.{echo, ready, have}
use Rattle.replica.proofs.Vacating.{row_vacant, confirm_vacant}
use Rattle.replica.proofs.fitted.Fitted.vacant.Goals as goal

pub returns-in-Echo : goal.returns-in-Echo
returns-in-Echo g c =
    let s = c.in-Echo in
    rw s.is (c.settle-in-Echo.ensures ∙ row_vacant g.K.PartialEq.eq g.K.Entry.bytes g.met.K.Entry.same (echo s.queue s.slot) (λ x y h. cc) _ _ c.requires.from _ (rw s.is at c.requires.ranged) c.args.self.now.tables.now.echoes.cells.now _ _ _ c.get-in-Echo.ensures (rw c.grid-grid.ensures at c.place.ensures.value) s.item)

pub returns-in-Ready : goal.returns-in-Ready
returns-in-Ready g c =
    let s = c.in-Ready in
    rw s.is (c.settle-in-Ready.ensures ∙ row_vacant g.K.PartialEq.eq g.K.Entry.bytes g.met.K.Entry.same (ready s.queue s.slot) (λ x y h. cc) _ _ c.requires.from _ (rw s.is at c.requires.ranged) c.args.self.now.tables.now.readies.cells.now _ _ _ c.get-in-Ready.ensures (rw c.grid-grid.ensures at c.place-in-Ready.ensures.value) s.item)

pub returns-in-Have : goal.returns-in-Have
returns-in-Have g c =
    let s = c.in-Have in
    rw s.is (c.settle-in-Have.ensures ∙ row_vacant g.K.PartialEq.eq g.K.Entry.bytes g.met.K.Entry.same (have s.queue s.slot) (λ x y h. cc) _ _ c.requires.from _ (rw s.is at c.requires.ranged) c.args.self.now.tables.now.haves.cells.now _ _ _ c.get-in-Have.ensures (rw c.grid-grid.ensures at c.place-in-Have.ensures.value) s.item)

pub returns-in-Confirm : goal.returns-in-Confirm
returns-in-Confirm g c =
    let s = c.in-Confirm in let t = store g.K.Entry.bytes c.args.self.now.tables.now in
    rw s.is (c.settle-in-Confirm.ensures ∙ confirm_vacant c.args.self.now.replica.now t c.args.sender c.requires.from s.epoch s.round s.set c.set.result (rw s.is at c.requires.ranged) (rw c.from-in-Confirm.ensures at c.set.ensures))
