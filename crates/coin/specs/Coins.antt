-- What the two coins mean.
use Rattle.std.specs.Prelude.{ℕ, ◌+◌, ◌*◌, ◌/◌, ◌%◌, ◌^◌, Bool, cond, List, length, Ok, Result, ◌==◌, slice_index}
use Rattle.common.specs.Limits.{epochs}
use Rattle.common.specs.Refusals.{declined}
use Rattle.common.specs.declared.refusal.Refusal.TheVariants as refusals
use Rattle.coin.specs.declared.sheet.Sheet.{Sheet}

-- whether epoch plus round is odd
abbrev pub bench_of : ℕ → ℕ → Bool
bench_of e r = (e + r) % 2 == 1

-- bit r mod 8 of byte 2e + r / 8, where bit 0 is the lowest; no bit is set behind the sheet
abbrev pub sheet_of : Sheet → ℕ → ℕ → Bool
sheet_of s e r = slice_index s.dealt (2 * e + r / 8) / 2 ^ (r % 8) % 2 == 1

-- two bytes for each epoch make a sheet
abbrev pub deal_of : List ℕ → Result (List ℕ) ℕ
deal_of bytes = cond (length bytes == 2 * epochs) (Ok bytes) (declined refusals.Sheet)
