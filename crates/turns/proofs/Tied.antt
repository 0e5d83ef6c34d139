-- Open and turn on whole replicas.
use Rattle.std.proofs.Common.{◌≡◌, ℕ, ◌<◌, ◌≤◌, Bool, ◌⊎◌, List, Some, None, Ok, Option, refl, inl, inr}
use Rattle.std.proofs.lemmas.Bool.{cases_lt, lt-leb, le-leb, le-ltb}
use Rattle.common.specs.Limits.{epochs}
use Rattle.theory.specs.Machine.{Stage, unopened, awaiting, running, Steps}
use Rattle.theory.specs.Search.{map, guard}
use Rattle.theory.specs.Calls.{Turn, turn, opening, opens, steps}
use Rattle.replica.specs.declared.state.Replica.{Replica}
use Rattle.replica.specs.Store.{Store}
use Rattle.replica.specs.View.{plan, box}
use Rattle.turns.specs.Turning.{open_of, turned}
use Rattle.turns.specs.Ties.{Whole, Tied, number_in, Ties}
use Rattle.turns.proofs.Fitted.{turn_tied, open_tied}

-- at the end of the week no epoch opens
over_none : (m : Replica) (t : Store) (g : Stage) → epochs ≤ m.epoch → opening (plan m) (box m t) g ≡ None
unfolding guard
over_none m t unopened l = rw (le-ltb m.epoch epochs l) refl
over_none m t awaiting l = refl
over_none m t (running r d) l = refl

number_told : (m : Replica) (t : Store) (o : Option (Turn × Steps (List ℕ))) → (turned m t o).0 ≡ Ok (number_in o)
number_told m t None = refl
number_told m t (Some k) = refl

at_open : (coin : ℕ → ℕ → Bool) (m : Replica) (t : Store) → Whole m t → (m.epoch < epochs) ⊎ (epochs ≤ m.epoch) → let p = open_of m t in Tied m t (steps (plan m) coin (box m t) opens) p.1 p.2
unfolding map
at_open coin m t W (inl l) = rw (W.lent, lt-leb epochs m.epoch l) (open_tied m t coin W l (opening (plan m) (box m t) (box m t).stage) refl)
at_open coin m t W (inr l) = rw (W.lent, le-leb epochs m.epoch l, over_none m t (box m t).stage l) (W, refl)

pub ties : Ties
ties = record {
  opens = λ coin m t W. at_open coin m t W (cases_lt m.epoch epochs);
  turns = λ coin m t W. rw W.lent (turn_tied m t coin W (turn (plan m) (box m t) coin) refl);
  answer = λ coin m t W. rw W.lent (number_told m t (turn (plan m) (box m t) coin));
}
