-- Steps, one more at a time.
use Rattle.std.proofs.Common.{◌≡◌, ℕ, zero, suc, ◌+◌, ◌-◌, ◌<◌, ◌≤◌, Bool, true, false, cond, List, [], ◌∷◌, ◌++◌, length, Some, None, Option, fold, sym, refl, ap, ◌∙◌, arith}
use Rattle.std.specs.List.{range_with_len}
use Rattle.std.proofs.lemmas.List.Sums.{fold-append}
use Rattle.wire.specs.Steps.{parts_in, steps_from}
use Rattle.group.specs.Weeks.{again}

last : (a n : ℕ) → range_with_len a (suc n) ≡ range_with_len a n ++ ((a + n) ∷ [])
last a zero = ap (λ k. k ∷ []) (omega arith)
last a (suc n) = ap (λ l. a ∷ l) (last (a + 1) n ∙ ap (λ k. range_with_len (a + 1) n ++ (k ∷ [])) (omega arith))

-- by a coin that means the same, for the next number
pub one_more :
    {S : Type 0} (F : (ℕ → ℕ → Bool) → S → ℕ → S) (c d : ℕ → ℕ → Bool) (p q r : S) (k : ℕ)
    → fold (F c) p (range_with_len 0 k) ≡ q → d ≡ c → r ≡ F d q k → fold (F c) p (range_with_len 0 (k + 1)) ≡ r
one_more F c d p q r k was same is =
    let n : k + 1 ≡ suc k = omega arith in
    let z : 0 + k ≡ k = omega arith in
    ap (fold (F c) p) (ap (range_with_len 0) n ∙ last 0 k ∙ ap (λ i. range_with_len 0 k ++ (i ∷ [])) z)
    ∙ fold-append (F c) p (range_with_len 0 k) (k ∷ [])
    ∙ ap (λ s. F c s k) was
    ∙ sym (is ∙ ap (λ m. F m q k) same)

module _ {S : Type 0} (F : (ℕ → ℕ → Bool) → S → Bool × S) (n k : ℕ) (c d : ℕ → ℕ → Bool) (s t : S) where
  again_one : k < n → again (F c) (n - k) s ≡ cond (F c s).0 (again (F c) (n - (k + 1)) (F c s).1) (F c s).1
  unfolding again
  again_one h = let e : n - k ≡ suc (n - (k + 1)) = omega arith in ap (λ m. again (F c) m s) e

  step : (b : Bool) (r : S) → k < n → again (F c) (n - k) s ≡ t → d ≡ c → (b, r) ≡ F d s → cond b (again (F c) (n - (k + 1)) r) r ≡ t
  step b r h was same is =
      ap (λ (q : Bool × S). cond q.0 (again (F c) (n - (k + 1)) q.1) q.1) (is ∙ ap (λ m. F m s) same)
      ∙ sym (again_one h) ∙ was

  pub again_more : (r : S) → k < n → again (F c) (n - k) s ≡ t → d ≡ c → (true, r) ≡ F d s → again (F c) (n - (k + 1)) r ≡ t
  again_more r = step true r

  pub again_stop : (r : S) → k < n → again (F c) (n - k) s ≡ t → d ≡ c → (false, r) ≡ F d s → r ≡ t
  again_stop r = step false r

pub again_end : {S : Type 0} (f : S → Bool × S) (n k : ℕ) (s t : S) → n ≤ k → again f (n - k) s ≡ t → s ≡ t
unfolding again
again_end f n k s t h was = let e : n - k ≡ 0 = omega arith in sym (ap (λ m. again f m s) e) ∙ was

-- the statements among the steps of a walk
pub parts_found : (p : ℕ) (ts : List (List ℕ)) (stop : Option ℕ) → parts_in (steps_from p ts stop) ≡ ts
parts_found p [] None = refl
parts_found p [] (Some e) = refl
parts_found p (t ∷ ts) stop = ap (λ l. t ∷ l) (parts_found (p + length t) ts stop)
