-- Statements counted off from the front of the board.
use Rattle.std.proofs.Common.{◌≡◌, ℕ, ◌+◌, ◌≤◌, List, [], ◌∷◌, length, drop, sym, ap, ◌∙◌, arith, length-drop, drop-drop}

-- the first k of all are passed, and these are left
abbrev pub Passed : {A : Type 0} → ℕ → List A → List A → Type 0
Passed k all left = (k ≤ length all) × (left ≡ drop k all)

pub passed_more : {A : Type 0} (k : ℕ) (all left rest : List A) (x : A) → Passed k all left → left ≡ x ∷ rest → Passed (k + 1) all rest
passed_more k all left rest x p e =
    let is : drop k all ≡ x ∷ rest = sym p.1 ∙ e in
    (omega (arith, ap length is, length-drop k all), sym (ap (drop 1) is) ∙ drop-drop 1 k all)

pub passed_all : {A : Type 0} (k : ℕ) (all left : List A) → Passed k all left → left ≡ [] → length all ≤ k
passed_all k all left p e = omega (arith, ap length (sym p.1 ∙ e), length-drop k all)
