-- What show answers, case by case.
use Rattle.std.proofs.Common.{◌≡◌, ℕ, ◌<◌, ◌≤◌, true, List, map, length, drop, Err, refl, ap, ◌∙◌}
use Rattle.std.proofs.lemmas.Bool.{lt-ltb, le-ltb}
use Rattle.common.specs.Refusals.{declined}
use Rattle.common.specs.declared.refusal.Refusal.{Refusal}
use Rattle.common.specs.declared.refusal.Refusal.TheVariants as refusals
use Rattle.replica.specs.declared.state.Replica.{Replica}
use Rattle.replica.specs.declared.lent.Tables.{Tables}
use Rattle.replica.specs.Store.{Store, store, fits}
use Rattle.replica.specs.Fitting.{fitted_of}
use Rattle.theory.specs.Statement.{Stmt}
use Rattle.replica.proofs.Accepting.{refused}
use Rattle.showing.specs.Boards.{board_of}
use Rattle.showing.specs.Spoken.{spelled}
use Rattle.showing.specs.Showing.{lay_of, show_of}

module _ (m : Replica) (number : ℕ) (out : List ℕ) where
  pub show_refused : {K : Type 0} (bytes : K → List ℕ) (tables : Tables K) (e : Refusal) → declined e ≡ fitted_of bytes m tables → (declined e, out) ≡ show_of m (store bytes tables) number out
  unfolding show_of
  show_refused bytes tables e h =
      let r = refused bytes m tables e h in
      rw (← r.0) (ap (λ k. (Err k, out)) r.1)

  module _ (t : Store) (long : fits m.set.n m.set.w t ≡ true) where
    pub show_past : length (board_of m t) < number → (declined refusals.Number, out) ≡ show_of m t number out
    unfolding show_of
    show_past h = rw (long, lt-ltb _ _ h) refl

    pub show_from : (ss : List (Stmt (List ℕ))) → number ≤ length (board_of m t) → ss ≡ drop number (board_of m t) → lay_of number (map spelled ss) out ≡ show_of m t number out
    unfolding show_of
    show_from ss h e = ap (λ l. lay_of number (map spelled l) out) e ∙ (rw (long, le-ltb _ _ h) refl)
