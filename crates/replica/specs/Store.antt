-- The lent tables, seen by the bytes of what they hold.
use Rattle.std.specs.Prelude.{◌≡◌, ℕ, ◌*◌, ◌<◌, ◌≤◌, Bool, ◌&&◌, List, map, length, None, Option, nat_le, slice_index_or}
use Rattle.std.specs.Option.{option_map}
use Rattle.theory.specs.Book.{Page}
use Rattle.cells.specs.Rows.{Cells, emptied}
use Rattle.replica.specs.declared.lent.Tables.{Tables}
use Rattle.replica.specs.declared.lent.Page as declared

pub record Store : Type 0 where
  pub sends : Cells
  pub echoes : Cells
  pub readies : Cells
  pub haves : Cells
  pub pages : List (Option (Page (List ℕ)))

-- a page with its entry's bytes
abbrev pub paged : {K : Type 0} → (K → List ℕ) → declared.Page K → Page (List ℕ)
paged bytes p = record { epoch = p.epoch; queue = p.queue; slot = p.slot; entry = bytes p.item }

abbrev pub store : {K : Type 0} → (K → List ℕ) → Tables K → Store
store bytes t = record {
  sends = map (option_map bytes) t.sends.cells.now;
  echoes = map (option_map bytes) t.echoes.cells.now;
  readies = map (option_map bytes) t.readies.cells.now;
  haves = map (option_map bytes) t.haves.cells.now;
  pages = map (option_map (paged bytes)) t.pages.cells.now;
}

-- whether each table is long enough for n replicas with w slots each
abbrev pub fits : ℕ → ℕ → Store → Bool
fits n w t =
    nat_le (n * w) (length t.sends)
    && (nat_le (n * w * n) (length t.echoes)
    && (nat_le (n * w * n) (length t.readies)
    && (nat_le (n * w * n) (length t.haves)
    && nat_le (n * w) (length t.pages))))

-- what they need is empty
abbrev pub cleared : ℕ → ℕ → Store → Store
cleared n w t = record {
  sends = emptied (n * w) t.sends;
  echoes = emptied (n * w * n) t.echoes;
  readies = emptied (n * w * n) t.readies;
  haves = emptied (n * w * n) t.haves;
  pages = emptied (n * w) t.pages;
}

-- the first k cells are empty now, and each other cell is as it was
pub record Empty {A : Type 0} (k : ℕ) (before after : List (Option A)) : Type 0 where
  pub long : length after ≡ length before
  pub empty : (i : ℕ) → i < k → slice_index_or after i None ≡ None
  pub other : (i : ℕ) → k ≤ i → slice_index_or after i None ≡ slice_index_or before i None

-- so in each table: a cell for each sender and slot, for each queue, slot and sender, and for each page
pub record Wiped (n w : ℕ) (before after : Store) : Type 0 where
  pub sends : Empty (n * w) before.sends after.sends
  pub echoes : Empty (n * w * n) before.echoes after.echoes
  pub readies : Empty (n * w * n) before.readies after.readies
  pub haves : Empty (n * w * n) before.haves after.haves
  pub pages : Empty (n * w) before.pages after.pages
