-- Cells seen by the bytes of what they hold, and the row of a queue's slot.
use Rattle.std.specs.Prelude.{ℕ, ◌+◌, ◌*◌, Bool, false, List, ◌++◌, length, take, drop, replicate, Some, None, Option, nat_le, slice_index_or}
use Rattle.std.specs.Str.{bytes_eq}
use Rattle.theory.specs.Count.{count}
use Rattle.theory.specs.Search.{first, bind, guard}

abbrev pub Cells : Type 0
Cells = List (Option (List ℕ))

-- the place of a queue's slot
abbrev pub slot_of : ℕ → ℕ → ℕ → ℕ
slot_of w q s = q * w + s

-- where the row of a queue's slot begins, with n cells a row
abbrev pub row_of : ℕ → ℕ → ℕ → ℕ → ℕ
row_of n w q s = slot_of w q s * n

-- the place of sender j's cell in the row of a queue's slot
abbrev pub place_of : ℕ → ℕ → ℕ → ℕ → ℕ → ℕ
place_of n w q s j = row_of n w q s + j

-- n cells from a place on
abbrev pub part : {A : Type 0} → ℕ → ℕ → List A → List A
part from n cells = take n (drop from cells)

-- the first n cells are empty, and what lies beyond is as before
abbrev pub emptied : {A : Type 0} → ℕ → List (Option A) → List (Option A)
emptied n cells = replicate n None ++ drop n cells

-- whether a cell holds these bytes
abbrev pub holds : List ℕ → Option (List ℕ) → Bool
holds b None = false
holds b (Some c) = bytes_eq c b

-- how many senders of a row hold these bytes
unfoldable pub standing : Cells → List ℕ → ℕ
standing row x = count (length row) (λ j. holds x (slice_index_or row j None))

-- the bytes of the lowest sender of a row that at least k senders hold
unfoldable pub lowest_in : ℕ → Cells → Option (List ℕ)
lowest_in k row = first (length row) (λ j. bind (slice_index_or row j None) (λ x. guard (nat_le k (standing row x)) x))
