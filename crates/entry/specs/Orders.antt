-- A share order: kind in one byte, giving house in two, taking house in two, amount in four.
use Rattle.std.specs.Prelude.{ℕ, Bool, not, ◌&&◌, ◌||◌, List, [], ◌∷◌, length, ◌==◌, nat_le}
use Rattle.entry.specs.Numbers.{byte, pair, word, in_pair, in_word, within, are_octets}
use Rattle.entry.specs.declared.order.ShareOrder.{ShareOrder}
use Rattle.entry.specs.declared.order.ShareOrder.TheVariants.{Give, Close}

-- the number of each kind of order, and its houses and amount; a close has its house first, and then zeros
abbrev pub fields_of : ShareOrder → ℕ × ℕ × ℕ × ℕ
fields_of (Give g) = (1, g.from.number, g.to.number, g.amount)
fields_of (Close h) = (2, h.number, 0, 0)

abbrev pub field_bytes : ℕ × ℕ × ℕ × ℕ → List ℕ
field_bytes f = f.0 ∷ in_pair f.1 (in_pair f.2 (in_word f.3 []))

abbrev pub order_bytes : ShareOrder → List ℕ
order_bytes x = field_bytes (fields_of x)

-- another house takes, and at least 1
abbrev pub is_gift : ℕ → ℕ → ℕ → Bool
is_gift from to amount = within 1 999 to && (not (from == to) && nat_le 1 amount)

-- nothing but zeros stands behind the house
abbrev pub is_close : ℕ → ℕ → Bool
is_close to amount = to == 0 && amount == 0

abbrev pub is_order : List ℕ → Bool
is_order s =
    (length s == 9)
    && (are_octets s
    && (within 1 999 (pair s 1)
    && (byte s 0 == 1 && is_gift (pair s 1) (pair s 3) (word s 5) || byte s 0 == 2 && is_close (pair s 3) (word s 5))))

-- kind, from, to, amount
abbrev pub order_columns : List ℕ → List ℕ
order_columns s = byte s 0 ∷ pair s 1 ∷ pair s 3 ∷ word s 5 ∷ []
