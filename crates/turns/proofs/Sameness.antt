-- Sameness of byte strings by a test that computes: with it open and turn compute, where all that is held is written out.
use Rattle.std.proofs.Common.{◌≡◌, ℕ, Bool, true, false, List, refl, sym, ◌∙◌}
use mathlib.Core.Bool.{false≢true}
use mathlib.Core.Logic.{Dec-prop}
use mathlib.Core.HLevel.{hedberg}
use Rattle.std.specs.Str.{bytes_eq}
use Rattle.std.proofs.lemmas.Slice.Eq.{bytes_eq-Decides}
use Rattle.replica.specs.View.{bytes_same}

unfoldable pub by_test : (xs ys : List ℕ) (b : Bool) → bytes_eq xs ys ≡ b → Dec (xs ≡ ys)
by_test xs ys true e = yes ((bytes_eq-Decides xs ys).0 e)
by_test xs ys false e = no (λ p. false≢true (sym e ∙ (bytes_eq-Decides xs ys).1 p))

unfoldable pub by_bytes : Discrete (List ℕ)
by_bytes xs ys = by_test xs ys (bytes_eq xs ys) refl

pub by_bytes_is : by_bytes ≡ bytes_same
by_bytes_is = λ i x y. Dec-prop (hedberg (bytes_same) x y) (by_bytes x y) (bytes_same x y) i
