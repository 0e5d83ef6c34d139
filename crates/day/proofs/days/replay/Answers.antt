use Rattle.std.proofs.Common.{suc, [], length, fold, sym, ap, ◌∙◌}
use Rattle.replica.specs.Store.{store}
use Rattle.day.specs.Days.{Run}
use Rattle.day.proofs.Cutting.{found_taken, day_found}
use Rattle.day.proofs.days.replay.Goals as goal

pub loop-found-init : goal.loop-found-init
loop-found-init g c =
    let k = g.K.Entry in
    let d = c.args.day.now in
    let r : Run = ([], c.args.replica.now, store k.bytes c.args.tables.now) in
    ap (λ text. fold (found_taken k.WIDTH k.valid) (text, r.1, r.2) c.into_iter-found-iterator.result) c.new-text.ensures.items
    ∙ ap (fold (found_taken k.WIDTH k.valid) r) (c.into_iter-found-iterator.ensures.into_iter_gives ∙ c.new-found-items.ensures)
    ∙ sym (day_found (suc (length d)) k.WIDTH k.valid d 0 r)
