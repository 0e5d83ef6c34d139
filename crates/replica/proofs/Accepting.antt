-- What it tells of tables that they were accepted or refused.
use Rattle.std.proofs.Common.{◌≡◌, ℕ, Bool, true, false, List, Ok, Err, Result, sym, refl, arith}
use Rattle.common.specs.Refusals.{declined, number_of}
use Rattle.common.specs.declared.refusal.Refusal.{Refusal}
use Rattle.replica.specs.declared.lent.Tables.{Tables}
use Rattle.replica.specs.declared.state.Replica.{Replica}
use Rattle.replica.specs.Store.{store, fits}
use Rattle.replica.specs.Fitting.{fitted_of}

module _ {K : Type 0} (bytes : K → List ℕ) (m : Replica) (tables : Tables K) where
  abbrev long : Bool
  long = fits m.set.n m.set.w (store bytes tables)

  -- they are refused where they are too short
  pub refused : (e : Refusal) → declined e ≡ fitted_of bytes m tables → (false ≡ long) × (number_of e ≡ 4)
  refused e h = by long refl
    where
      by : (b : Bool) → long ≡ b → (false ≡ long) × (number_of e ≡ 4)
      by true f = absurd (let z = rw f at h in let y : ◌≡◌ {A = ℕ} 0 1 = cc in omega arith)
      by false f =
          let z : ◌≡◌ {A = Result (Replica × Tables K) ℕ} (Err (number_of e)) (Err 4) = rw f at h in
          (sym f, cc)

  -- the parts are the given ones
  pub accepted : (p : Replica × Tables K) → Ok p ≡ fitted_of bytes m tables → (p ≡ (m, tables)) × (true ≡ long)
  accepted p h = by long refl
    where
      by : (b : Bool) → long ≡ b → (p ≡ (m, tables)) × (true ≡ long)
      by true f =
          let z : ◌≡◌ {A = Result (Replica × Tables K) ℕ} (Ok p) (Ok (m, tables)) = rw f at h in
          (cc, sym f)
      by false f = absurd (let z = rw f at h in let y : ◌≡◌ {A = ℕ} 0 1 = cc in omega arith)
