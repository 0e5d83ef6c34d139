-- A statement as a row of a table.
use Rattle.std.specs.Prelude.{ℕ, zero, suc, Bool, List, [], ◌∷◌, ◌++◌, map, Some, None, codes, decimal, Option}
use Rattle.std.specs.List.{slice_get}
use Rattle.std.specs.Option.{option_map_or}
use Rattle.entry.specs.Columns.{breadth_of}
use Rattle.wire.specs.Letters.{byte_of}
use Rattle.wire.specs.Statements.{Message, send, echo, ready, have, value, seen, confirm, finish, letter_in, item_in}
use Rattle.wire.specs.declared.letter.Letter.{Letter}
use Rattle.wire.specs.declared.letter.Letter.TheVariants.{Send, Echo, Ready, Have, Value, Seen, Confirm, Finish}

-- what a kind of entry is to a list: its width, its entries, the names and the numbers of its columns
pub record Kind : Type 0 where
  pub width : ℕ
  pub valid : List ℕ → Bool
  pub heading : List ℕ
  pub columns : List ℕ → List ℕ

abbrev pub kind_of : ℕ → (List ℕ → Bool) → List ℕ → (List ℕ → List ℕ) → Kind
kind_of width valid heading columns = record { width = width; valid = valid; heading = heading; columns = columns }

abbrev pub says_of : Letter → List ℕ
says_of Send = codes "send"
says_of Echo = codes "echo"
says_of Ready = codes "ready"
says_of Have = codes "have"
says_of Value = codes "value"
says_of Seen = codes "seen"
says_of Confirm = codes "confirm"
says_of Finish = codes "finish"

-- queue, slot, epoch, round, bit and set, where it has them
abbrev pub operands_of : Message → List (Option ℕ)
operands_of (send s x) = None ∷ Some s ∷ None ∷ None ∷ None ∷ None ∷ []
operands_of (echo q s x) = Some q ∷ Some s ∷ None ∷ None ∷ None ∷ None ∷ []
operands_of (ready q s x) = Some q ∷ Some s ∷ None ∷ None ∷ None ∷ None ∷ []
operands_of (have q s x) = Some q ∷ Some s ∷ None ∷ None ∷ None ∷ None ∷ []
operands_of (value e r b) = None ∷ None ∷ Some e ∷ Some r ∷ Some b ∷ None ∷ []
operands_of (seen e r b) = None ∷ None ∷ Some e ∷ Some r ∷ Some b ∷ None ∷ []
operands_of (confirm e r u) = None ∷ None ∷ Some e ∷ Some r ∷ None ∷ Some u ∷ []
operands_of (finish e b) = None ∷ None ∷ Some e ∷ None ∷ Some b ∷ None ∷ []

-- the numbers of a statement's columns
abbrev pub numbers_of : (List ℕ → List ℕ) → Option (List ℕ) → List ℕ
numbers_of columns None = []
numbers_of columns (Some x) = columns x

-- the first n cells of a row with these numbers, empty behind the last
abbrev pub padded : ℕ → List ℕ → List (Option ℕ)
padded zero ns = []
padded (suc n) ns = padded n ns ++ (slice_get ns n ∷ [])

-- a number, or nothing
abbrev pub text_of : Option ℕ → List ℕ
text_of cell = option_map_or decimal cell []

-- cells, each behind a semicolon
abbrev pub following : List (List ℕ) → List ℕ
following [] = []
following (t ∷ ts) = 59 ∷ t ++ following ts

-- place, letter, what it says, its operands, its entry's columns
abbrev pub row_of : Kind → ℕ → Message → List ℕ
row_of k p m =
    decimal p
    ++ (following ((byte_of (letter_in m) ∷ []) ∷ says_of (letter_in m) ∷ [])
    ++ (following (map text_of (operands_of m))
    ++ (following (map text_of (padded (breadth_of k.heading) (numbers_of k.columns (item_in m)))) ++ (10 ∷ []))))
