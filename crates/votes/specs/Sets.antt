-- The set of a confirm: as the theory's, its bits, and its number.
use Rattle.std.specs.Prelude.{ℕ, Bool, true, false, cond, Some, None, Option, Result, ◌==◌, ok_or}
use Rattle.common.specs.Refusals.{number_of}
use Rattle.common.specs.declared.refusal.Refusal.TheVariants.{Range}
use Rattle.theory.specs.Statement.{Bits, only, both}
use Rattle.theory.specs.Turns.{same_bit}
use Rattle.votes.specs.declared.bits.Bits as declared
use Rattle.votes.specs.declared.bits.Bits.TheVariants.{Only, Both}

abbrev pub bits_of : declared.Bits → Bits
bits_of (Only v) = only v
bits_of Both = both

-- whether a bit is in a set
abbrev pub in_set : Bits → Bool → Bool
in_set (only v) u = same_bit v u
in_set both u = true

-- whether a bit is in what may be no set
abbrev pub bit_in : Option declared.Bits → Bool → Bool
bit_in None u = false
bit_in (Some s) u = in_set (bits_of s) u

-- the number of a set
abbrev pub number_of_set : Bits → ℕ
number_of_set (only false) = 1
number_of_set (only true) = 2
number_of_set both = 3

-- the set that an operand is
abbrev pub set_numbered : ℕ → Option Bits
set_numbered u = cond (u == 1) (Some (only false)) (cond (u == 2) (Some (only true)) (cond (u == 3) (Some both) None))

abbrev pub set_read : ℕ → Result Bits ℕ
set_read u = ok_or (set_numbered u) (number_of Range)
