use Rattle.std.proofs.Common.{◌%◌, sym, ap, ◌∙◌, get_or}
use Rattle.std.specs.Option.{option_map}
use Rattle.theory.specs.Plan.{sameness}
use Rattle.theory.specs.Book.{stands_in_book}
use Rattle.theory.specs.Turns.{kept_at}
use Rattle.replica.specs.Store.{store}
use Rattle.replica.specs.View.{plan, box, book_of}
use Rattle.dues.proofs.Paging.{From, from_none, from_old, from_new}
use Rattle.dues.proofs.pages.candidate.Goals as goal

pub loop-slot-init : goal.loop-slot-init
loop-slot-init g c =
    let m = c.args.lent.now.replica.now in
    let t = store g.K.Entry.bytes c.args.lent.now.tables.now in
    let q = sym (c.from.ensures ∙ c.queue_of-queue.ensures) in
    ap (λ k. From (stands_in_book (sameness (plan m)) (book_of m t)) (kept_at (plan m) (box m t) (c.args.lent.now.replica.now.epoch % m.set.n)) m.set.w (get_or m.heads k 0)) q

pub returns-in_err-item : goal.returns-in_err-item
returns-in_err-item g c =
    let m = c.args.lent.now.replica.now in
    let t = store g.K.Entry.bytes c.args.lent.now.tables.now in
    let kept = kept_at (plan m) (box m t) (m.epoch % m.set.n) in
    let none = ap (λ q. kept_at (plan m) (box m t) q c.loop-slot.slot) (sym c.queue_of-queue.ensures) ∙ sym c.in_err-item.ensures in
    c.from_residual.ensures
    ∙ ap (option_map (λ p. p.0)) (sym (c.loop-slot.invariant ∙ from_none (stands_in_book (sameness (plan m)) (book_of m t)) kept m.set.w c.loop-slot.slot c.loop-slot-test.true none))

pub returns-then-not-booked : goal.returns-then-not-booked
returns-then-not-booked g c =
    let m = c.args.lent.now.replica.now in
    let t = store g.K.Entry.bytes c.args.lent.now.tables.now in
    let kept = kept_at (plan m) (box m t) (m.epoch % m.set.n) in
    let some = ap (λ q. kept_at (plan m) (box m t) q c.loop-slot.slot) (sym c.queue_of-queue.ensures) ∙ sym c.in_ok-item.ensures in
    ap (option_map (λ p. p.0)) (sym (c.loop-slot.invariant ∙ from_new (stands_in_book (sameness (plan m)) (book_of m t)) kept m.set.w c.loop-slot.slot _ c.loop-slot-test.true some (sym c.if-not-booked.ensures)))

pub loop-slot-preserved : goal.loop-slot-preserved
loop-slot-preserved g c =
    let m = c.args.lent.now.replica.now in
    let t = store g.K.Entry.bytes c.args.lent.now.tables.now in
    let kept = kept_at (plan m) (box m t) (m.epoch % m.set.n) in
    let some = ap (λ q. kept_at (plan m) (box m t) q c.loop-slot.slot) (sym c.queue_of-queue.ensures) ∙ sym c.in_ok-item.ensures in
    c.loop-slot.invariant ∙ from_old (stands_in_book (sameness (plan m)) (book_of m t)) kept m.set.w c.loop-slot.slot _ c.loop-slot-test.true some (sym c.if-not-booked.ensures)
