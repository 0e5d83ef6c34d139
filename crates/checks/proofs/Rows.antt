-- Every row computes, by a test that tells whether two byte strings are equal.
use Rattle.std.proofs.Common.{refl, sym}
use Rattle.std.proofs.Math.Decide.{ℕ_discrete}
use Rattle.std.proofs.lemmas.Bool.{ltb-true, lt-leb}
use Rattle.theory.specs.Statement.{CellDiscrete}
use Rattle.theory.specs.Search.{or_else, first, bits, only_if, guard, unless, given, bind, map, entry}
use Rattle.theory.specs.Turns.{backed}
use Rattle.votes.specs.Votes.{has}
use Rattle.replica.specs.Making.{make_of}
use Rattle.turns.proofs.Sameness.{by_test, by_bytes, by_bytes_is}
use Rattle.checks.specs.Examples.{All, examples}

-- one row and the rows behind it
infixr 20 ◌and◌
◌and◌ : {A B : Type 0} → A → B → A × B
a and b = (a, b)

-- the rows in their order, those of one example in a line
pub stand : All examples
unfolding or_else first bits only_if guard unless given bind map entry backed CellDiscrete has make_of ℕ_discrete by_test by_bytes
stand = rw (sym by_bytes_is) (
    refl and refl and refl
    and refl and refl and refl and refl
    and (λ m t j lent below other. rw (lent, lt-leb m.set.n j (ltb-true j m.set.n below), other) refl)
    and refl and refl and refl
    and refl and refl and refl
    and refl and refl and refl and refl
    and refl and refl and refl and refl and refl
    and refl and refl and refl and refl
    and tt)
