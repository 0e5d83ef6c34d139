-- The record of a frame: two rows that say what it is, the rows of its statements, and its fault.
use Rattle.std.specs.Prelude.{ℕ, List, [], ◌∷◌, ◌++◌, length, Some, None, vec_items, codes, decimal, Option}
use Rattle.std.specs.Option.{option_map}
use Rattle.common.specs.Refusals.{number_of}
use Rattle.wire.specs.declared.part.Fault.{Fault}
use Rattle.listing.specs.Rows.{Kind, following}
use Rattle.listing.specs.Lists.{Listed, list_of}
use Rattle.listing.specs.declared.listing.Listing.{Listing}

-- a fault by its number
abbrev pub fault_in : Option Fault → Option (ℕ × ℕ)
fault_in o = option_map (λ f. (number_of f.refusal, f.place)) o

-- what a `Listing` holds
abbrev pub listed_of : Listing → Listed
listed_of l = record { rows = vec_items l.rows; count = l.count; fault = fault_in l.fault }

-- a row of a word and two numbers
abbrev pub note_of : List ℕ → ℕ → ℕ → List ℕ
note_of word a b = word ++ (following (decimal a ∷ decimal b ∷ []) ++ (10 ∷ []))

-- the names of the columns
abbrev pub heading_of : List ℕ → List ℕ
heading_of names = codes "place;letter;says;queue;slot;epoch;round;bit;set;" ++ (names ++ (10 ∷ []))

-- the number and the place of a fault
abbrev pub fault_of : Option (ℕ × ℕ) → List ℕ
fault_of None = []
fault_of (Some p) = note_of (codes "refused") p.0 p.1

-- how many bytes and statements the frame has, the columns, the statements, the fault
abbrev pub record_of : Kind → List ℕ → List ℕ
record_of k s =
    note_of (codes "frame") (length s) (list_of k s).count
    ++ (heading_of k.heading ++ ((list_of k s).rows ++ fault_of (list_of k s).fault))
