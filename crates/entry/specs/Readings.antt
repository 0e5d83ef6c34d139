-- A reading: house in two bytes, week in one, quantity in one, amount in four.
use Rattle.std.specs.Prelude.{ℕ, Bool, ◌&&◌, List, [], ◌∷◌, length, ◌==◌}
use Rattle.entry.specs.Numbers.{byte, pair, word, in_pair, in_word, within, are_octets}
use Rattle.entry.specs.declared.reading.Reading.{Reading}
use Rattle.entry.specs.declared.quantity.Quantity.{Quantity}
use Rattle.entry.specs.declared.quantity.Quantity.TheVariants.{Heat, Water, Carbon}

-- the number of a quantity
abbrev pub quantity_of : Quantity → ℕ
quantity_of Heat = 1
quantity_of Water = 2
quantity_of Carbon = 3

abbrev pub reading_bytes : Reading → List ℕ
reading_bytes x = in_pair x.house.number (x.week ∷ quantity_of x.quantity ∷ in_word x.amount [])

abbrev pub is_reading : List ℕ → Bool
is_reading s =
    (length s == 8)
    && (are_octets s && (within 1 999 (pair s 0) && (within 1 53 (byte s 2) && within 1 3 (byte s 3))))

-- house, week, quantity, amount
abbrev pub reading_columns : List ℕ → List ℕ
reading_columns s = pair s 0 ∷ byte s 2 ∷ byte s 3 ∷ word s 4 ∷ []
