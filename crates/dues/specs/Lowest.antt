-- The lowest bit of what may be no set: bit 0 before bit 1.
use Rattle.std.specs.Prelude.{Bool, false, Some, None, Option}
use Rattle.theory.specs.Statement.{Bits, only, both}

abbrev pub lowest : Option Bits → Option Bool
lowest None = None
lowest (Some (only v)) = Some v
lowest (Some both) = Some false
