-- A table's rule, proved at all of its entries by one test that antt computes.
use Rattle.std.proofs.Common.{◌≡◌, ℕ, ◌+◌, ◌-◌, ◌<◌, ◌≤◌, Bool, true, ◌&&◌, eqb, List, length, get_or, ap, ◌∙◌, eqb-true, arith}
use Rattle.std.proofs.lemmas.Bool.{and_parts, agree_below, agree_below_at}
use Rattle.common.specs.Quorums.{faults, echoes, Sound}

-- whether entry k of a table is that of least + k
abbrev pub right : List (ℕ × ℕ) → ℕ → ℕ → Bool
right t least k = eqb (get_or t k (0, 0)).0 (faults (least + k)) && eqb (get_or t k (0, 0)).1 (echoes (least + k))

-- what a table from least on that passes the test holds at n
pub row : (t : List (ℕ × ℕ)) (least n : ℕ) → agree_below (right t least) (λ _. true) (length t) ≡ true → least ≤ n → n - least < length t → get_or t (n - least) (0, 0) ≡ (faults n, echoes n)
row t least n ok low within =
    let back : least + (n - least) ≡ n = omega arith in
    let both = and_parts _ _ (agree_below_at (right t least) (λ _. true) (length t) (n - least) ok within) in
    let a = eqb-true _ _ both.0 ∙ ap faults back in
    let b = eqb-true _ _ both.1 ∙ ap echoes back in
    λ i. (a i, b i)

pub sound : (n : ℕ) → 1 ≤ n → Sound n (faults n, echoes n)
sound n h = record { few = omega arith; shared = omega arith; reached = omega arith }
