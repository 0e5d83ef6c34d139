-- What the theory's boxes meet after the calls of the script: the tests compute.
use Rattle.std.proofs.Common.{◌≡◌, ℕ, ◌+◌, ◌*◌, ◌%◌, ◌<◌, ◌≤◌, Bool, true, not, ◌&&◌, ltb, List, [], ◌∷◌, length, refl, ◌∙◌, subst, arith}
use native.Mathlib.Bridge.{le_prop}
use native.Mathlib.Decide.{ℕ_discrete}
use Rattle.std.proofs.lemmas.Bool.{and_parts, eqb-true}
use Rattle.common.specs.Quorums.{faults, echoes}
use Rattle.theory.specs.Count.{Honest, count}
use Rattle.theory.specs.Statement.{sends, echo, CellDiscrete, ready}
use Rattle.theory.specs.Plan.{Plan, Rule, boxes}
use Rattle.theory.specs.Machine.{Holds, Board}
use Rattle.theory.specs.Search.{or_else, first, bits, only_if, guard, unless, given, bind, map, entry}
use Rattle.theory.specs.Turns.{backed}
use Rattle.theory.specs.Promises.{box, book, Fair, Quiet}
use Rattle.theory.specs.Calls.{Calls}
use Rattle.theory.specs.Script.{by_turns}
use Rattle.theory.proofs.Testing.{fair_test, fair_check, still, quiet_check}
use Rattle.theory.proofs.Quieting.{promise}
use Rattle.entry.specs.Readings.{is_reading}
use Rattle.replica.specs.View.{bytes_same}
use Rattle.turns.proofs.Sameness.{by_test, by_bytes, by_bytes_is}
use Rattle.promises.specs.Runs.{Kind, Wide}
use Rattle.promises.specs.Met.{truth, lie, page}
use Rattle.promises.specs.Met as bytes
use Rattle.promises.proofs.Typing.{calls}

abbrev pub kind : Kind
kind = record { width = 8; valid = is_reading }

pub wide : Wide kind
wide s e = eqb-true (length s) 8 (and_parts _ _ e).0

-- the script by statements
abbrev pub script : Calls (List ℕ)
script = calls kind bytes.script

-- four boxes of two slots; epoch e is of queue e mod 4
abbrev among : Discrete (List ℕ) → Plan (List ℕ)
among same = record { size = 4; faults = faults 4; quorum = echoes 4; width = 2; epochs = 256; rounds = 16; queue = λ e. e % 4; eq = same }

-- box 3 is the faulty one
abbrev pub first_three : ℕ → Bool
first_three i = ltb i 3

abbrev Few : Type 0
Few = count 4 (λ i. not (first_three i)) ≤ faults 4

abbrev ruled : Discrete (List ℕ) → Few → 3 * faults 4 < 4 → 4 + faults 4 < 2 * echoes 4 → 1 ≤ 16 → Rule (List ℕ)
ruled same few room cross rounded = record { plan = among same; coin = by_turns; honest = first_three; few = few; room = room; cross = cross; rounded = rounded }

few_three : Few
few_three = omega arith

abbrev computing : Rule (List ℕ)
computing = ruled by_bytes few_three (omega arith) (omega arith) (omega arith)

script_fair : fair_test computing script ≡ true
unfolding or_else first bits only_if guard unless given bind entry backed map CellDiscrete ℕ_discrete by_test by_bytes
script_fair = refl

script_still : count 4 (λ i. first_three i && not (still computing script i)) ≡ 0
unfolding or_else first bits only_if guard unless given bind entry backed map CellDiscrete ℕ_discrete by_test by_bytes
script_still = refl

script_written : book computing script 1 ≡ page ∷ []
unfolding or_else first bits only_if guard unless given bind entry backed map CellDiscrete ℕ_discrete by_test by_bytes
script_written = refl

abbrev pub Believed : Rule (List ℕ) → Type 0
Believed R = Holds (box R script 1) 3 (echo 0 0 lie) × Holds (box R script 2) 3 (ready 0 0 lie) × Board (box R script 0) (sends 0 truth)

script_believed : Believed computing
unfolding or_else first bits only_if guard unless given bind entry backed map CellDiscrete ℕ_discrete by_test by_bytes
script_believed = (refl, refl, refl)

-- the same with the equality that the plan names, whatever proves that one faulty box is not too many
module _ (few : Few) (room : 3 * faults 4 < 4) (cross : 4 + faults 4 < 2 * echoes 4) (rounded : 1 ≤ 16) where
  abbrev pub rule : Rule (List ℕ)
  rule = ruled (bytes_same) few room cross rounded

  carried : (P : Rule (List ℕ) → Type 0) → P computing → P rule
  carried P = subst P (λ i. ruled (by_bytes_is i) (le_prop few_three few i) (le_prop computing.room room i) (le_prop computing.cross cross i) (le_prop computing.rounded rounded i))

  pub fair : Fair rule script
  fair = carried (λ R. Fair R script) (fair_check computing script script_fair)

  pub quiet : Quiet rule script
  quiet = carried (λ R. Quiet R script) (quiet_check computing script (fair_check computing script script_fair) script_still)

  pub believed : Believed rule
  believed = carried Believed script_believed

  one : Honest (boxes rule) 1
  one = record { below = omega arith; good = refl }

  pub written : (i : ℕ) → Honest (boxes rule) i → book rule script i ≡ page ∷ []
  written i is = (promise (List ℕ) rule script fair).evening_out quiet i 1 is one ∙ carried (λ R. book R script 1 ≡ page ∷ []) script_written
