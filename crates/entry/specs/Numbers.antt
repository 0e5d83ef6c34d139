-- Numbers in bytes, unsigned, high byte first.
use Rattle.std.specs.Prelude.{ℕ, ◌+◌, ◌*◌, ◌/◌, ◌%◌, Bool, true, ◌&&◌, List, [], ◌∷◌, nat_le, nat_lt, slice_index}

-- the number in the byte, the two bytes and the four bytes from i on
abbrev pub byte : List ℕ → ℕ → ℕ
byte s i = slice_index s i

abbrev pub pair : List ℕ → ℕ → ℕ
pair s i = byte s i * 256 + byte s (i + 1)

abbrev pub word : List ℕ → ℕ → ℕ
word s i = byte s i * 16777216 + byte s (i + 1) * 65536 + byte s (i + 2) * 256 + byte s (i + 3)

-- a number's two bytes, and its four, before others
abbrev pub in_pair : ℕ → List ℕ → List ℕ
in_pair n rest = n / 256 % 256 ∷ n % 256 ∷ rest

abbrev pub in_word : ℕ → List ℕ → List ℕ
in_word n rest = n / 16777216 % 256 ∷ n / 65536 % 256 ∷ n / 256 % 256 ∷ n % 256 ∷ rest

abbrev pub within : ℕ → ℕ → ℕ → Bool
within low high n = nat_le low n && nat_le n high

-- whether each is a byte
abbrev pub are_octets : List ℕ → Bool
are_octets [] = true
are_octets (b ∷ bs) = nat_lt b 256 && are_octets bs
