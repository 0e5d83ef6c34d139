-- A replica with tables that are long enough for its set.
use Rattle.std.specs.Prelude.{ℕ, cond, List, Ok, Result}
use Rattle.std.specs.declared.cmp.PartialEq as equal
use Rattle.common.specs.Refusals.{declined}
use Rattle.common.specs.declared.refusal.Refusal.TheVariants as refusal
use Rattle.entry.specs.declared.kind.Entry as kind
use Rattle.theory.specs.Plan.{Plan}
use Rattle.theory.specs.Machine.{Box}
use Rattle.replica.specs.declared.fitted.Fitted.{Fitted}
use Rattle.replica.specs.declared.lent.Tables.{Tables}
use Rattle.replica.specs.declared.state.Replica.{Replica}
use Rattle.replica.specs.Store.{Store, store, fits}
use Rattle.replica.specs.View.{plan, box}

abbrev pub fitted_of : {K : Type 0} → (K → List ℕ) → Replica → Tables K → Result (Replica × Tables K) ℕ
fitted_of bytes m tables = cond (fits m.set.n m.set.w (store bytes tables)) (Ok (m, tables)) (declined refusal.Table)

module _ {K : Type 0} {e : kind.Ghosts K} {p : equal.Ghosts K} where
  -- its tables by bytes, the terms that it goes by, and both as a box of the theory
  abbrev pub store_of : Fitted K e p → Store
  store_of l = store e.bytes l.tables.now

  abbrev pub plan_of : Fitted K e p → Plan (List ℕ)
  plan_of l = plan l.replica.now

  abbrev pub box_of : Fitted K e p → Box (List ℕ)
  box_of l = box l.replica.now (store_of l)
