-- What is empty after a table was emptied.
use Rattle.std.proofs.Common.{◌≡◌, ℕ, ◌*◌, ◌≤◌, true, List, length, Option, arith, rules}
use Rattle.std.proofs.lemmas.List.{places}
use Rattle.cells.specs.Rows.{emptied}
use Rattle.replica.specs.Store.{Store, fits, cleared, Empty, Wiped}

pub wiped_table : {A : Type 0} (k : ℕ) (cells : List (Option A)) → k ≤ length cells → Empty k cells (emptied k cells)
wiped_table k cells h = record {
  long = grind (arith, places);
  empty = λ i l. grind (arith, places);
  other = λ i l. grind (arith, places);
}

pub wiped : (n w : ℕ) (t : Store) → fits n w t ≡ true → Wiped n w t (cleared n w t)
wiped n w t h = record {
  sends = wiped_table (n * w) t.sends (search rules);
  echoes = wiped_table (n * w * n) t.echoes (search rules);
  readies = wiped_table (n * w * n) t.readies (search rules);
  haves = wiped_table (n * w * n) t.haves (search rules);
  pages = wiped_table (n * w) t.pages (search rules);
}
