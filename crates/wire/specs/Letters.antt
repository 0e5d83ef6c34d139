-- The letter that a statement begins with, and how long the statement is.
use Rattle.std.specs.Prelude.{ℕ, ◌+◌, cond, Some, None, Option, Result, ◌==◌, ok_or}
use Rattle.common.specs.declared.refusal.Refusal.{Refusal}
use Rattle.common.specs.declared.refusal.Refusal.TheVariants as refusals
use Rattle.wire.specs.declared.letter.Letter.{Letter}
use Rattle.wire.specs.declared.letter.Letter.TheVariants.{Send, Echo, Ready, Have, Value, Seen, Confirm, Finish}

-- the byte of each letter: S, E, R, H, V, A, C, F
abbrev pub byte_of : Letter → ℕ
byte_of Send = 83
byte_of Echo = 69
byte_of Ready = 82
byte_of Have = 72
byte_of Value = 86
byte_of Seen = 65
byte_of Confirm = 67
byte_of Finish = 70

abbrev pub letter_of : ℕ → Option Letter
letter_of b =
    cond (b == byte_of Send) (Some Send)
    (cond (b == byte_of Echo) (Some Echo)
    (cond (b == byte_of Ready) (Some Ready)
    (cond (b == byte_of Have) (Some Have)
    (cond (b == byte_of Value) (Some Value)
    (cond (b == byte_of Seen) (Some Seen)
    (cond (b == byte_of Confirm) (Some Confirm)
    (cond (b == byte_of Finish) (Some Finish) None)))))))

-- the letter, or the refusal where there is none
abbrev pub known : Option Letter → Result Letter Refusal
known l = ok_or l refusals.Letter

-- the length of a statement whose entry has w bytes
abbrev pub length_of : ℕ → Letter → ℕ
length_of w Send = 2 + w
length_of w Echo = 3 + w
length_of w Ready = 3 + w
length_of w Have = 3 + w
length_of w Value = 4
length_of w Seen = 4
length_of w Confirm = 4
length_of w Finish = 3
