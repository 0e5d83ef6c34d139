-- Open and turn: what they answer, and the replica and every cell after them.
use Rattle.std.specs.Prelude.{ℕ, Bool, cond, not, List, Some, None, Ok, Option, Result, nat_le}
use Rattle.common.specs.Limits.{epochs}
use Rattle.common.specs.Refusals.{declined}
use Rattle.common.specs.declared.refusal.Refusal.TheVariants.{Table, Over, Begun}
use Rattle.theory.specs.Machine.{enters, Steps}
use Rattle.theory.specs.Calls.{Turn, number, opening, turn}
use Rattle.replica.specs.declared.state.Replica.{Replica}
use Rattle.replica.specs.Store.{Store, fits}
use Rattle.replica.specs.View.{plan, box}
use Rattle.turns.specs.Stepping.{step_of, steps_of}

-- round 0 begins with this bit, unless the epoch is open or awaits its page
abbrev pub opened : Replica → Store → Option Bool → Result (Unit {0}) ℕ × Replica × Store
opened m t None = (declined Begun, m, t)
opened m t (Some v) = let p = step_of (enters m.epoch v) m t in (Ok tt, p.0, p.1)

abbrev pub open_of : Replica → Store → Result (Unit {0}) ℕ × Replica × Store
open_of m t =
    cond (not (fits m.set.n m.set.w t)) (declined Table, m, t)
    (cond (nat_le epochs m.epoch) (declined Over, m, t)
    (opened m t (opening (plan m) (box m t) (box m t).stage)))

-- the first of the ten that applies is done, and its number answered; 0 is rest
abbrev pub turned : Replica → Store → Option (Turn × Steps (List ℕ)) → Result ℕ ℕ × Replica × Store
turned m t None = (Ok 0, m, t)
turned m t (Some k) = let p = steps_of k.1 m t in (Ok (number k.0), p.0, p.1)

abbrev pub turn_of : (ℕ → ℕ → Bool) → Replica → Store → Result ℕ ℕ × Replica × Store
turn_of coin m t =
    cond (not (fits m.set.n m.set.w t)) (declined Table, m, t)
    (turned m t (turn (plan m) (box m t) coin))
