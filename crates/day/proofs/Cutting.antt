-- A day, one record after the other.
use Rattle.std.proofs.Common.{◌≡◌, ℕ, zero, suc, ◌+◌, ◌≤◌, Bool, List, [], ◌∷◌, length, Ok, Err, fold, sym, refl, ap, ◌∙◌, arith}
use Rattle.std.proofs.lemmas.Bool.{le-leb}
use Rattle.day.specs.Days.{Run, noted, torn_line, taken_of, Cut, end, torn, whole, cut_at, Found, found_on, found_from, found_left, further, day_from}

-- nothing stands at the end
pub ended : (d : List ℕ) (p : ℕ) → length d ≤ p → cut_at d p ≡ end
ended d p h = rw (le-leb (length d) p h)

-- one more than enough steps find no more
pub steady : (n : ℕ) (d : List ℕ) (p : ℕ) → length d ≤ n + p → found_from n d p ≡ found_from (suc n) d p
unfolding found_from
steady zero d p h =
    sym (ap (λ v. found_on v p (λ s. [])) (ended d p (omega arith)))
steady (suc n) d p h = by (cut_at d p) (λ s. steady n d (p + 3 + length s) (omega arith))
  where
    by : (v : Cut) → ((s : List ℕ) → found_from n d (p + 3 + length s) ≡ found_from (suc n) d (p + 3 + length s))
        → found_on v p (λ s. found_from n d (p + 3 + length s)) ≡ found_on v p (λ s. found_from (suc n) d (p + 3 + length s))
    by end more = refl
    by torn more = refl
    by (whole j s) more = ap (λ l. Ok (j, p + 3, s) ∷ l) (more s)

-- what is found, taken in
abbrev pub found_taken : ℕ → (List ℕ → Bool) → Run → Found → Run
found_taken w valid r (Ok x) = taken_of w valid x.0 x.1 x.2 r
found_taken w valid r (Err p) = noted r (torn_line p)

-- a day is what is found in it, taken in
pub day_found : (n w : ℕ) (valid : List ℕ → Bool) (d : List ℕ) (p : ℕ) (r : Run) → day_from n w valid d p r ≡ fold (found_taken w valid) r (found_from n d p)
unfolding day_from found_from
day_found zero w valid d p r = refl
day_found (suc n) w valid d p r = by (cut_at d p) (λ j s. day_found n w valid d (p + 3 + length s) (taken_of w valid j (p + 3) s r))
  where
    by : (v : Cut) → ((j : ℕ) (s : List ℕ) → day_from n w valid d (p + 3 + length s) (taken_of w valid j (p + 3) s r) ≡ fold (found_taken w valid) (taken_of w valid j (p + 3) s r) (found_from n d (p + 3 + length s)))
        → further v p r (λ j s. day_from n w valid d (p + 3 + length s) (taken_of w valid j (p + 3) s r)) ≡ fold (found_taken w valid) r (found_on v p (λ s. found_from n d (p + 3 + length s)))
    by end more = refl
    by torn more = refl
    by (whole j s) more = more j s

-- what is left at a place, by what stands there
pub none_left : (d : List ℕ) (p : ℕ) → length d ≤ p → found_left d p ≡ []
unfolding found_from
none_left d p h = ap (λ v. found_on v p (λ s. found_from (length d) d (p + 3 + length s))) (ended d p h)

pub torn_left : (d : List ℕ) (p : ℕ) → cut_at d p ≡ torn → found_left d p ≡ Err p ∷ found_left d (length d)
unfolding found_from
torn_left d p is =
    ap (λ v. found_on v p (λ s. found_from (length d) d (p + 3 + length s))) is
    ∙ sym (ap (λ l. Err p ∷ l) (none_left d (length d) (omega arith)))

pub more_left : (d : List ℕ) (p j : ℕ) (s : List ℕ) → cut_at d p ≡ whole j s → found_left d p ≡ Ok (j, p + 3, s) ∷ found_left d (p + 3 + length s)
unfolding found_from
more_left d p j s is =
    ap (λ v. found_on v p (λ s. found_from (length d) d (p + 3 + length s))) is
    ∙ ap (λ l. Ok (j, p + 3, s) ∷ l) (steady (length d) d (p + 3 + length s) (omega arith))
