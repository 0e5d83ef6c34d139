use Rattle.std.proofs.Common.{◌≡◌, ℕ, List, map, Option, ap, ◌∙◌}
use Rattle.std.specs.Option.{option_map}
use Rattle.cells.specs.Rows.{emptied}
use Rattle.cells.proofs.Cellrows.{map_emptied}
use Rattle.replica.specs.Store.{paged}
use Rattle.replica.proofs.lent.Tables.clear.Goals as goal

-- a table whose first cells were emptied, seen by its bytes
seen : {A B : Type 0} (f : A → B) (before after : List (Option A)) (k n : ℕ) → after ≡ emptied k before → k ≡ n → map (option_map f) after ≡ emptied n (map (option_map f) before)
seen f before after k n h e = ap (map (option_map f)) h ∙ map_emptied f k before ∙ ap (λ i. emptied i (map (option_map f) before)) e

pub returns : goal.returns
returns g c =
    let b = g.K.Entry.bytes in
    let t = c.args.self.now in
    let slots = c.slots-slots.ensures in
    let rows = c.row_cells-rows.ensures in
    λ i. record {
      sends = seen b t.sends.cells.now _ _ _ c.clear.ensures.cells slots i;
      echoes = seen b t.echoes.cells.now _ _ _ c.clear-2.ensures.cells rows i;
      readies = seen b t.readies.cells.now _ _ _ c.clear-3.ensures.cells rows i;
      haves = seen b t.haves.cells.now _ _ _ c.clear-4.ensures.cells rows i;
      pages = seen (paged b) t.pages.cells.now _ _ _ c.clear-5.ensures.cells slots i;
    }
