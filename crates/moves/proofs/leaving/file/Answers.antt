use Rattle.std.proofs.Common.{◌+◌, Some, map, set, ap, ◌∙◌}
use Rattle.std.specs.Option.{option_map}
use Rattle.std.proofs.lemmas.List.{map-set}
use Rattle.replica.specs.Store.{store, paged}
use Rattle.moves.proofs.leaving.file.Goals as goal

pub returns-then-place-len : goal.returns-then-place-len
returns-then-place-len g c =
    let b = g.K.Entry.bytes in
    let m = c.args.replica.now in
    let t = c.args.tables.now in
    let p = c.args.page in
    let pages = ap (map (option_map (paged b))) c.hold.ensures.cells ∙ map-set (option_map (paged b)) t.pages.cells.now c.from-place.result (Some p) ∙ ap (λ k. set (map (option_map (paged b)) t.pages.cells.now) k (Some (paged b p))) c.from-place.ensures in
    λ i. (
      record { set = m.set; epoch = m.epoch; stage = m.stage; votes = m.votes; past = m.past; heads = set m.heads (c.from.ensures i) (p.slot + 1); pages = c.saturating_add-replica.ensures i },
      record { sends = (store b t).sends; echoes = (store b t).echoes; readies = (store b t).readies; haves = (store b t).haves; pages = pages i },
    )
