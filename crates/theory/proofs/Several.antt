-- So many distinct boxes, as a chain of them, are so many by count.
use Rattle.std.proofs.Common.{◌≡◌, ℕ, zero, suc, ◌<◌, ◌≤◌, Bool, true, false, leb, ◌⊎◌, refl, ap, inl, inr, arith}
use Rattle.std.proofs.lemmas.Bool.{leb-true, le-leb, cases_order}
use Rattle.theory.specs.Count.{bit, count}
use Rattle.theory.specs.Rules.{Several}
use Rattle.theory.specs.Laws.{Iff}

pub several_map : {φ ψ : ℕ → Type 0} → ((i : ℕ) → φ i → ψ i) → (k n : ℕ) → Several k n φ → Several k n ψ
several_map f zero n s = tt
several_map f (suc k) n s = (s.0, s.1, f s.0 s.2, several_map f k s.0 s.3)

count_above : (p : ℕ → Bool) (n i : ℕ) → i < n → p i ≡ true → suc (count i p) ≤ count n p
count_above p zero i l e = absurd (omega arith)
count_above p (suc n) i l e = at (cases_order i n) (count_above p n i)
  where
    at : (i ≡ n) ⊎ ((i < n) ⊎ (n < i)) → (i < n → p i ≡ true → suc (count i p) ≤ count n p) → suc (count i p) ≤ count (suc n) p
    at (inl eq) ih = let b : bit (p n) ≡ 1 = ap bit (rw eq at e) in let c : count i p ≡ count n p = ap (λ (k : ℕ). count k p) eq in omega arith
    at (inr (inl less)) ih = omega (arith, ih less e)
    at (inr (inr more)) ih = absurd (omega arith)

several_count : (p : ℕ → Bool) (k n : ℕ) → Several k n (λ i. p i ≡ true) → k ≤ count n p
several_count p zero n s = omega arith
several_count p (suc k) n s = omega (arith, count_above p n s.0 s.1 s.2, several_count p k s.0 s.3)

several_more : (φ : ℕ → Type 0) (k n : ℕ) → Several k n φ → Several k (suc n) φ
several_more φ zero n s = tt
several_more φ (suc k) n s = (s.0, omega (arith, s.1), s.2, s.3)

count_several : (p : ℕ → Bool) (k n : ℕ) → k ≤ count n p → Several k n (λ i. p i ≡ true)
count_several p zero n h = tt
count_several p (suc k) zero h = absurd (omega arith)
count_several p (suc k) (suc n) h = at (p n) refl (count_several p k n) (count_several p (suc k) n)
  where
    at : (v : Bool) → p n ≡ v → (k ≤ count n p → Several k n (λ i. p i ≡ true)) → (suc k ≤ count n p → Several (suc k) n (λ i. p i ≡ true)) → Several (suc k) (suc n) (λ i. p i ≡ true)
    at true e less same = (n, omega arith, e, less (omega (arith, rw e at h)))
    at false e less same = several_more (λ i. p i ≡ true) (suc k) n (same (omega (arith, rw e at h)))

-- one of them
pub several_some : (φ : ℕ → Type 0) (k n : ℕ) → 1 ≤ k → Several k n φ → (i : ℕ) × (i < n) × φ i
several_some φ zero n h s = absurd (omega arith)
several_some φ (suc k) n h s = (s.0, s.1, s.2)

-- a test that decides φ, and the number of boxes that pass it
pub several_is : {φ : ℕ → Type 0} (p : ℕ → Bool) → ((i : ℕ) → Iff (p i ≡ true) (φ i)) → (k n : ℕ) → Iff (leb k (count n p) ≡ true) (Several k n φ)
several_is p f k n = (
  λ e. several_map (λ i. (f i).0) k n (count_several p k n (leb-true k (count n p) e)),
  λ s. le-leb k (count n p) (several_count p k n (several_map (λ i. (f i).1) k n s)),
)
