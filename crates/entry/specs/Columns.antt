-- How many columns a kind has.
use Rattle.std.specs.Prelude.{ℕ, ◌+◌, List, count_by, nat_eq}

-- as many as there are names, with a semicolon between any two
abbrev pub breadth_of : List ℕ → ℕ
breadth_of heading = count_by (nat_eq 59) heading + 1
