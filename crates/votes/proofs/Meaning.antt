-- What two masks of senders mean, as cases on whether a sender is in the one and in the other.
use Rattle.std.proofs.Common.{◌≡◌, Bool, true, false, not, ◌&&◌, ◌||◌, arith}
use Rattle.theory.specs.Statement.{Bits, only, both}
use Rattle.theory.specs.Turns.{set_of}
use Rattle.votes.specs.Votes.{is_set, fits}

-- x and y: whether bit 0, and whether bit 1 is marked; z and o: whether bit 0, and whether bit 1 is given
-- the marks are those of the set u, and it lies within the given bits; or some such set
abbrev standing : Bool → Bool → Bool → Bool → Bits → Bool
standing z o x y u = fits z o u && is_set u (set_of x y)

abbrev some : Bool → Bool → Bool → Bool → Bool
some z o x y = (standing z o x y (only false) || standing z o x y (only true)) || standing z o x y both

pub set_told : (z o x y : Bool) → ((x || y) && not ((not z && x) || (not o && y))) ≡ some z o x y
set_told z o x y = grind arith

pub zero_joined : (z o x y : Bool) → (some z o x y && x) ≡ (standing z o x y (only false) || standing z o x y both)
zero_joined z o x y = grind arith

pub one_joined : (z o x y : Bool) → (some z o x y && y) ≡ (standing z o x y (only true) || standing z o x y both)
one_joined z o x y = grind arith
