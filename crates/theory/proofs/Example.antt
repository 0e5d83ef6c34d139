-- The script meets every premise: the tests compute.
use Rattle.std.proofs.Common.{◌≡◌, ℕ, true, not, ◌&&◌, ltb, [], ◌∷◌, refl, ◌∙◌, arith}
use mathlib.Core.Bool.{false≢true}
use native.Mathlib.Decide.{ℕ_discrete}
use Rattle.theory.specs.Count.{Honest, count}
use Rattle.theory.specs.Statement.{sends, echo, CellDiscrete, ready}
use Rattle.theory.specs.Plan.{Rule, boxes}
use Rattle.theory.specs.Machine.{Holds, Board}
use Rattle.theory.specs.Search.{or_else, first, bits, only_if, guard, unless, given, bind, map, entry}
use Rattle.theory.specs.Turns.{backed}
use Rattle.theory.specs.Promises.{box, book}
use Rattle.theory.specs.Script.{four, by_turns, script, page, Met}
use Rattle.theory.proofs.Testing.{fair_test, fair_check, still, quiet_check}
use Rattle.theory.proofs.Quieting.{promise}

abbrev rule : Rule ℕ
rule = record { plan = four; coin = by_turns; honest = λ i. ltb i 3; few = omega arith; room = omega arith; cross = omega arith; rounded = omega arith }

script_fair : fair_test rule script ≡ true
unfolding or_else first bits only_if guard unless given bind entry backed map CellDiscrete ℕ_discrete
script_fair = refl

script_still : count 4 (λ i. ltb i 3 && not (still rule script i)) ≡ 0
unfolding or_else first bits only_if guard unless given bind entry backed map CellDiscrete ℕ_discrete
script_still = refl

script_written : book rule script 1 ≡ page ∷ []
unfolding or_else first bits only_if guard unless given bind entry backed map CellDiscrete ℕ_discrete
script_written = refl

script_believed : Holds (box rule script 1) 3 (echo 0 0 99) × Holds (box rule script 2) 3 (ready 0 0 99) × Board (box rule script 0) (sends 0 7)
unfolding or_else first bits only_if guard unless given bind entry backed map CellDiscrete ℕ_discrete
script_believed = (refl, refl, refl)

pub met : Met
met =
    let fair = fair_check rule script script_fair in
    let quiet = quiet_check rule script fair script_still in
    let one : Honest (boxes rule) 1 = record { below = omega arith; good = refl } in
    record {
      rule = rule;
      plan = refl;
      coin = refl;
      fair = fair;
      faulty = λ e. false≢true e;
      believed = script_believed;
      written = λ i is. (promise ℕ rule script fair).evening_out quiet i 1 is one ∙ script_written;
      quiet = quiet;
    }
