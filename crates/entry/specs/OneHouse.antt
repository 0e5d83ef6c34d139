-- Houses of one number are one house: that it is in range has one proof.
use Rattle.std.specs.Prelude.{◌≡◌, ℕ, ◌≤◌}
use Rattle.std.proofs.Math.Path.{PathP}
use mathlib.Core.HLevel.{is_prop→PathP}
use Rattle.std.proofs.Math.Bridge.{le_prop}
use Rattle.entry.specs.declared.house.House.{House}

-- a fact m i ≤ n i that holds at both ends of a path
pub le_path : {m m' n n' : ℕ} (p : m ≡ m') (q : n ≡ n') (a : m ≤ n) (b : m' ≤ n') → PathP (λ i. p i ≤ q i) a b
le_path p q a b = is_prop→PathP (λ i. p i ≤ q i) (λ i. le_prop) a b

pub house_same : (a b : House) → a.number ≡ b.number → a ≡ b
house_same a b e =
    λ i. record { number = e i; least = le_path (λ _. 1) e a.least b.least i; most = le_path e (λ _. 999) a.most b.most i }
