-- Numbers read one by one.
use Rattle.std.proofs.Common.{◌≡◌, ℕ, zero, suc, ◌+◌, List, [], ◌∷◌, drop, Some, None, ap, arith}
use native.Mathlib.Numerals.{unary_clauses}
use Rattle.std.specs.List.{slice_get}
use Rattle.std.proofs.lemmas.List.{drop_all}

pub next : (ns : List ℕ) (i n : ℕ) → Some n ≡ slice_get ns i → drop i ns ≡ n ∷ drop (i + 1) ns
next [] i n e = absurd (let z : ◌≡◌ {A = ℕ} 0 1 = cc in omega arith)
next (m ∷ ns) zero n e = let same : m ≡ n = cc in ap (λ k. k ∷ ns) same
next (m ∷ ns) (suc i) n e = simp unary_clauses (simp unary_clauses at (next ns i n e))

pub none : (ns : List ℕ) (i : ℕ) → None ≡ slice_get ns i → drop i ns ≡ []
none [] i e = drop_all i [] (omega arith)
none (m ∷ ns) zero e = absurd (let z : ◌≡◌ {A = ℕ} 0 1 = cc in omega arith)
none (m ∷ ns) (suc i) e = none ns i e
