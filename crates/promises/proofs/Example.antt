-- The script by bytes meets every premise, since the theory's boxes meet them after its calls.
use Rattle.std.proofs.Common.{◌≡◌, ℕ, zero, suc, ◌+◌, ◌*◌, ◌<◌, ◌≤◌, true, not, replicate, None, refl, ◌∙◌, arith}
use mathlib.Core.Bool.{false≢true}
use Rattle.std.proofs.lemmas.Bool.{ltb-true}
use Rattle.common.specs.Limits.{most_replicas, epochs}
use Rattle.common.specs.Quorums.{faults, echoes}
use Rattle.theory.specs.Count.{count}
use Rattle.theory.specs.Statement.{sends, echo, ready}
use Rattle.theory.specs.Script.{by_turns}
use Rattle.votes.specs.Votes.{no_votes}
use Rattle.replica.specs.declared.set.Set as numbered
use Rattle.replica.specs.declared.state.Stage.TheVariants.{Unopened}
use Rattle.replica.specs.Store.{Store}
use Rattle.replica.specs.Making.{make_of}
use Rattle.promises.specs.Runs.{State}
use Rattle.promises.specs.Promised.{Made, Set, Honest, Lending}
use Rattle.promises.specs.Met.{truth, lie, script, Met}
use Rattle.promises.proofs.Typing.{few_room, quorums_cross, some_round}
use Rattle.promises.proofs.Transferring.{R, honest_box, on_board}
use Rattle.promises.proofs.Meeting.{own_lending, fair_here, quiet_here, book_here, holds_here}
use Rattle.promises.proofs.Computing.{kind, wide}
use Rattle.promises.proofs.Computing as boxes

-- tables that are just long enough, with nothing in them
abbrev tables : Store
tables = record { sends = replicate 8 None; echoes = replicate 32 None; readies = replicate 32 None; haves = replicate 32 None; pages = replicate 8 None }

abbrev numbers : (i : ℕ) → i < 4 → numbered.Set
numbers i h = record { n = 4; w = 2; f = faults 4; q = echoes 4; me = i; own = h; least = omega arith; most = omega arith; some = omega arith; slots = omega arith; faulty = refl; quorum = refl }

abbrev fresh_one : (i : ℕ) → i < 4 → State
fresh_one i h = (record { set = numbers i h; epoch = 0; stage = Unopened; votes = no_votes; past = replicate epochs None; heads = replicate most_replicas 0; pages = 0 }, tables)

-- replicas 0, 1 and 2 as make leaves them; whoever else is as replica 3
abbrev starts : ℕ → State
starts zero = fresh_one 0 (omega arith)
starts (suc zero) = fresh_one 1 (omega arith)
starts (suc (suc zero)) = fresh_one 2 (omega arith)
starts (suc (suc (suc i))) = fresh_one 3 (omega arith)

made : (i : ℕ) → i < 4 → boxes.first_three i ≡ true → Made 4 2 i (starts i)
unfolding make_of
made zero h e = (tables, refl)
made (suc zero) h e = (tables, refl)
made (suc (suc zero)) h e = (tables, refl)
made (suc (suc (suc i))) h e = let z : suc (suc (suc i)) < 3 = ltb-true _ _ e in absurd (omega arith)

few : count 4 (λ i. not (boxes.first_three i)) ≤ faults 4
few = omega arith

abbrev four : Set
four = record {
  n = 4;
  w = 2;
  least = omega arith;
  most = omega arith;
  some = omega arith;
  slots = omega arith;
  kind = kind;
  wide = wide;
  coin = by_turns;
  honest = boxes.first_three;
  few = few;
  start = starts;
  made = made;
}

lending : Lending four script
lending = own_lending four script refl

abbrev room : 3 * faults 4 < 4
room = few_room 4 four.least

abbrev cross : 4 + faults 4 < 2 * echoes 4
cross = quorums_cross 4 four.least

box_believed : boxes.Believed (R four)
box_believed = boxes.believed few room cross some_round

none : Honest four 0
none = (omega arith, refl)

one : Honest four 1
one = (omega arith, refl)

two : Honest four 2
two = (omega arith, refl)

pub met : Met
met = record {
  set = four;
  size = refl;
  slots = refl;
  width = refl;
  valid = refl;
  coin = refl;
  readings = (refl, refl);
  honest = (none, one, two);
  faulty = λ h. false≢true h.1;
  fair = fair_here four script lending (boxes.fair few room cross some_round);
  believed = (holds_here four script lending 1 one 3 (echo 0 0 lie) box_believed.0, holds_here four script lending 2 two 3 (ready 0 0 lie) box_believed.1);
  shown = on_board four script lending 0 none (sends 0 truth) box_believed.2;
  written = λ i h. book_here four script lending i h ∙ boxes.written few room cross some_round i (honest_box four i h);
  quiet = quiet_here four script lending (boxes.quiet few room cross some_round);
}
