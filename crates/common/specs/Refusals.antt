-- The number of each refusal, and answers by their numbers.
use Rattle.std.specs.Prelude.{ℕ, Ok, Err, Result}
use Rattle.common.specs.declared.refusal.Refusal.{Refusal}
use Rattle.common.specs.declared.refusal.Refusal.TheVariants.{Boxes, Own, Slots, Table, Place, Letter, Short, Sender, Long, Range, Entry, Past, Future, Held, Other, Full, Booked, Over, Begun, Number, Room, Page, File, Sheet}

abbrev pub number_of : Refusal → ℕ
number_of Boxes = 1
number_of Own = 2
number_of Slots = 3
number_of Table = 4
number_of Place = 5
number_of Letter = 6
number_of Short = 7
number_of Sender = 8
number_of Long = 9
number_of Range = 10
number_of Entry = 11
number_of Past = 12
number_of Future = 13
number_of Held = 14
number_of Other = 15
number_of Full = 16
number_of Booked = 17
number_of Over = 18
number_of Begun = 19
number_of Number = 20
number_of Room = 21
number_of Page = 22
number_of File = 23
number_of Sheet = 24

-- a call declines, marked as such, with the refusal's number
abbrev pub declined : {A : Type 0} → Refusal → Result A ℕ
declined e = Err (number_of e)

-- what a call answers, with what it hands out seen by f
abbrev pub answered : {A B : Type 0} → (A → B) → Result A Refusal → Result B ℕ
answered f (Ok x) = Ok (f x)
answered f (Err e) = declined e

abbrev pub numbered : {A : Type 0} → Result A Refusal → Result A ℕ
numbered r = answered (λ x. x) r
