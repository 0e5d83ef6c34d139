-- Bytes in a buffer, and numbers as text.
use Rattle.std.specs.Prelude.{◌≡◌, ℕ, ◌+◌, ◌≤◌, List, ◌++◌, length, take, drop, codes, decimal}

-- bytes laid over others from a place on
abbrev pub laid : List ℕ → ℕ → List ℕ → List ℕ
laid out at bs = take at out ++ (bs ++ drop (at + length bs) out)

-- they were, and r is the place behind them
pub record Laid (out : List ℕ) (at : ℕ) (bs : List ℕ) (r : ℕ) (last : List ℕ) : Type 0 where
  pub fits : at + length bs ≤ length out
  pub value : r ≡ at + length bs
  pub after : last ≡ laid out at bs

-- a number behind a semicolon
abbrev pub cell_of : ℕ → List ℕ
cell_of n = codes ";" ++ decimal n
