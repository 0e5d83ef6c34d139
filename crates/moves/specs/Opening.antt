-- The bit with which an epoch opens.
use Rattle.std.specs.Prelude.{ℕ, Bool, cond, nat_le, ok_or, Result}
use Rattle.common.specs.Limits.{epochs}
use Rattle.common.specs.Refusals.{number_of, declined}
use Rattle.common.specs.declared.refusal.Refusal.TheVariants.{Over, Begun}
use Rattle.theory.specs.Calls.{opening}
use Rattle.replica.specs.declared.state.Replica.{Replica}
use Rattle.replica.specs.Store.{Store}
use Rattle.replica.specs.View.{plan, box}

-- it, or why the epoch does not open
abbrev pub opening_of : Replica → Store → Result Bool ℕ
opening_of m t = cond (nat_le epochs m.epoch) (declined Over) (ok_or (opening (plan m) (box m t) (box m t).stage) (number_of Begun))
