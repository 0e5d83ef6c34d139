-- Sets of boxes as tests on their numbers, how many boxes are in one, and what is asked of N, f and Q.
use Rattle.std.specs.Prelude.{◌≡◌, ℕ, zero, suc, ◌+◌, ◌-◌, ◌*◌, ◌<◌, ◌≤◌, Bool, true, false, not}
use Rattle.common.specs.Quorums.{faults, echoes, Sound}

abbrev pub bit : Bool → ℕ
bit true = 1
bit false = 0

-- how many numbers below n pass the test
abbrev pub count : ℕ → (ℕ → Bool) → ℕ
count zero p = 0
count (suc n) p = bit (p n) + count n p

-- N boxes of which at most f are faulty, with 3f < N, and Q so large that two sets of Q share more than f
pub record Boxes : Type 0 where
  pub size : ℕ
  pub faults : ℕ
  pub quorum : ℕ
  pub honest : ℕ → Bool
  pub few : count size (λ i. not (honest i)) ≤ faults
  pub room : 3 * faults < size
  pub cross : size + faults < 2 * quorum

-- i is a box, and honest
pub record Honest (b : Boxes) (i : ℕ) : Type 0 where
  pub below : i < b.size
  pub good : b.honest i ≡ true

-- at least k boxes, each honest one of which has φ
pub record Of (b : Boxes) (k : ℕ) (φ : ℕ → Type 0) : Type 0 where
  pub member : ℕ → Bool
  pub enough : k ≤ count b.size member
  pub each : (i : ℕ) → Honest b i → member i ≡ true → φ i

-- some honest box has φ
pub record Somebody (b : Boxes) (φ : ℕ → Type 0) : Type 0 where
  pub who : ℕ
  pub is : Honest b who
  pub has : φ who

-- two sets of at least k boxes share an honest one
abbrev pub Share : Boxes → ℕ → Type 0
Share b k = (p q : ℕ → Bool) → k ≤ count b.size p → k ≤ count b.size q → Somebody b (λ i. (p i ≡ true) × (q i ≡ true))

pub record Counting (b : Boxes) : Type 0 where
  pub one_honest : (p : ℕ → Bool) → b.faults < count b.size p → Somebody b (λ i. p i ≡ true)
  pub quorums_share : Share b b.quorum
  pub large_share : Share b (b.size - b.faults)
  pub honest_many : b.size - b.faults ≤ count b.size b.honest
  pub honest_most : 2 * b.faults + 1 ≤ b.size - b.faults

-- the table's f and Q are as asked, and N - f boxes can make every number that a turn asks
pub record Tabled (n : ℕ) : Type 0 where
  pub sound : Sound n (faults n, echoes n)
  pub readies : 2 * faults n + 1 ≤ n - faults n

pub record Counts : Type 0 where
  pub counting : (b : Boxes) → Counting b
  pub tabled : (n : ℕ) → 1 ≤ n → Tabled n
