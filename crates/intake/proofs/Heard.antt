-- What hear answers and leaves, in the theory's words.
use Rattle.std.proofs.Common.{◌≡◌, ℕ, Bool, List, Ok, Err, Result, sym, refl, ◌∙◌, subst, arith}
use Rattle.std.proofs.lemmas.Bool.{ltb-true}
use Rattle.theory.specs.Statement.{Stmt}
use Rattle.replica.specs.declared.state.Replica.{Replica}
use Rattle.replica.specs.Store.{Store}
use Rattle.replica.proofs.Putting.{box_held, sized_held}
use Rattle.intake.specs.Hearing.{judge_of, heard, hear_of}
use Rattle.intake.specs.Meaning.{Hears}
use Rattle.intake.proofs.Judged.{judged, accepted, judges}

pub ok≢err : {A : Type 0} {a : A} {n : ℕ} → ◌≡◌ {A = Result A ℕ} (Ok a) (Err n) → ⊥
ok≢err e = let z : ◌≡◌ {A = ℕ} 0 1 = cc in omega arith

module _ (w : ℕ) (valid : List ℕ → Bool) (m : Replica) (t : Store) (j : ℕ) (s : List ℕ) where
  by_judgement : (r : Result (Stmt (List ℕ)) ℕ) → judge_of w valid m t j s ≡ r → Hears w valid m t j s (heard m t j r).0 (heard m t j r).1 (heard m t j r).2
  by_judgement (Ok st) e =
      let g = judged w valid m t j s st e in
      record {
        accepted = λ ok. (st, g.says, accepted w valid m t j s st g, λ z. (box_held m t j z g.lent (ltb-true _ _ g.from) st g.ranged g.free, sized_held m t j st z));
        accepting = λ long x says a. refl;
      }
  by_judgement (Err n) e =
      record {
        accepted = λ h. absurd (ok≢err (sym h));
        accepting = λ long x says a. absurd (ok≢err (sym (judges w valid m t j s long x says a) ∙ e));
      }

  pub hears_law : let p = hear_of w valid m t j s in Hears w valid m t j s p.0 p.1 p.2
  hears_law = by_judgement (judge_of w valid m t j s) refl

  -- what answers and leaves that has the law
  pub hears_by : (answer : Result (Unit {0}) ℕ) (after : Replica) (left : Store) → ◌≡◌ {A = Result (Unit {0}) ℕ × Replica × Store} (answer, after, left) (hear_of w valid m t j s) → Hears w valid m t j s answer after left
  hears_by answer after left e = subst (λ (p : Result (Unit {0}) ℕ × Replica × Store). Hears w valid m t j s p.0 p.1 p.2) (sym e) hears_law
