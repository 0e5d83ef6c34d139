-- What the others' hearing and turning leave as it was.
use Rattle.std.proofs.Common.{◌≡◌, ◌||◌, cond, ℕ, zero, suc, ◌+◌, ◌-◌, ◌≤◌, Bool, true, false, eqb, List, [], ◌∷◌, length, take, Some, None, Option, fold, slice_set, sym, refl, ap, ◌∙◌, arith}
use Rattle.std.specs.List.{slice_get, slice_range}
use Rattle.std.proofs.Math.Seq.{take-add}
use Rattle.std.proofs.lemmas.Bool.{eqb-false}
use Rattle.std.proofs.lemmas.List.{length-set}
use Rattle.std.proofs.lemmas.List.Sums.{fold-append}
use Rattle.promises.specs.Runs.{Kind, Call, State, hear, turns}
use Rattle.group.specs.Groups.{Group, called_on, called}
use Rattle.group.specs.Weeks.{Course, everyone, accepted, again, board_at, heard_at, told, aired, acted, rested, turns_most, all_aired, pass, settled, passes_most}

fold_keeps : {S A X : Type 0} (f : S → A → S) (P : S → X) → ((s : S) (a : A) → P (f s a) ≡ P s) → (s : S) (xs : List A) → P (fold f s xs) ≡ P s
fold_keeps f P h s [] = refl
fold_keeps f P h s (x ∷ xs) = fold_keeps f P h (f s x) xs ∙ h s x

again_keeps : {S X : Type 0} (f : S → Bool × S) (P : S → X) → ((s : S) → P (f s).1 ≡ P s) → (n : ℕ) (s : S) → P (again f n s) ≡ P s
unfolding again
again_keeps f P h zero s = refl
again_keeps f P h (suc n) s = by (f s).0 (again_keeps f P h n (f s).1)
  where
    by : (b : Bool) → P (again f n (f s).1) ≡ P (f s).1 → P (cond b (again f n (f s).1) (f s).1) ≡ P s
    by true more = more ∙ h s
    by false more = h s

other_set : {A : Type 0} (xs : List A) (i j : ℕ) (x : A) → (i ≡ j → ⊥) → slice_get (slice_set xs i x) j ≡ slice_get xs j
other_set [] i j x h = refl
other_set (y ∷ xs) zero zero x h = absurd (h refl)
other_set (y ∷ xs) zero (suc j) x h = refl
other_set (y ∷ xs) (suc i) zero x h = refl
other_set (y ∷ xs) (suc i) (suc j) x h = other_set xs i j x (λ e. h (ap suc e))

module _ (K : Kind) (coin : ℕ → ℕ → Bool) where
  pub called_other : (g : Group) (i j : ℕ) (c : Call) → (i ≡ j → ⊥) → slice_get (called K coin g i c).1 j ≡ slice_get g j
  called_other g i j c h = by (slice_get g i)
    where
      by : (o : Option State) → slice_get (called_on K coin g i c o).1 j ≡ slice_get g j
      by None = refl
      by (Some p) = other_set g i j _ h

  pub called_long : (g : Group) (i : ℕ) (c : Call) → length (called K coin g i c).1 ≡ length g
  called_long g i c = by (slice_get g i)
    where
      by : (o : Option State) → length (called_on K coin g i c o).1 ≡ length g
      by None = refl
      by (Some p) = length-set g i _

  pub heard_keeps : (j : ℕ) (s : List ℕ) (p : Course) (i : ℕ) → slice_get (heard_at K coin j s p i).1 j ≡ slice_get p.1 j
  heard_keeps j s p i = by (eqb i j) refl
    where
      by : (b : Bool) → eqb i j ≡ b → slice_get (cond b p (let r = called K coin p.1 i (hear j s) in (p.0 || accepted r.0, r.1))).1 j ≡ slice_get p.1 j
      by true e = refl
      by false e = called_other p.1 i j (hear j s) (eqb-false i j e)

  heard_long : (j : ℕ) (s : List ℕ) (p : Course) (i : ℕ) → length (heard_at K coin j s p i).1 ≡ length p.1
  heard_long j s p i = by (eqb i j)
    where
      by : (b : Bool) → length (cond b p (let r = called K coin p.1 i (hear j s) in (p.0 || accepted r.0, r.1))).1 ≡ length p.1
      by true = refl
      by false = called_long p.1 i (hear j s)

  -- the one who is heard stays as he was
  pub told_keeps : (j : ℕ) (p q : Course) (ss : List (List ℕ)) → q ≡ fold (told K coin j) p ss → slice_get q.1 j ≡ slice_get p.1 j
  told_keeps j p q ss is = ap (λ (r : Course). slice_get r.1 j) is ∙ fold_keeps (told K coin j) (λ q. slice_get q.1 j) (λ q s. fold_keeps (heard_at K coin j s) (λ r. slice_get r.1 j) (heard_keeps j s) q (everyone q)) p ss

  -- nobody comes or goes
  aired_long : (p : Course) (j : ℕ) → length (aired K coin p j).1 ≡ length p.1
  aired_long p j = fold_keeps (told K coin j) (λ q. length q.1) (λ q s. fold_keeps (heard_at K coin j s) (λ r. length r.1) (heard_long j s) q (everyone q)) p (board_at (slice_get p.1 j))

  rested_long : (p : Course) (i : ℕ) → length (rested K coin p i).1 ≡ length p.1
  rested_long p i = again_keeps (acted K coin i) (λ q. length q.1) (λ q. called_long q.1 i turns) turns_most p

  pub pass_long : (g : Group) → length (pass K coin g).1 ≡ length g
  pass_long g =
      let a = all_aired K coin (false, g) in
      fold_keeps (rested K coin) (λ q. length q.1) rested_long a (everyone a)
      ∙ fold_keeps (aired K coin) (λ q. length q.1) aired_long (false, g) (everyone (false, g))

  pub settled_long : (g : Group) → length (settled K coin g) ≡ length g
  settled_long g = again_keeps (pass K coin) length pass_long passes_most g

  -- what a frame has of a board is told
  pub told_more :
      (d : ℕ → ℕ → Bool) (j : ℕ) (p q r : Course) (board : List (List ℕ)) (number next : ℕ) (found : List (List ℕ)) → number ≤ next
      → fold (told K coin j) p (take number board) ≡ q → d ≡ coin → found ≡ slice_range board number next → r ≡ fold (told K d j) q found → fold (told K coin j) p (take next board) ≡ r
  told_more d j p q r board number next found on was same is h =
      let sum : next ≡ number + (next - number) = omega arith in
      ap (fold (told K coin j) p) (ap (λ k. take k board) sum ∙ take-add number (next - number) board)
      ∙ fold-append (told K coin j) p (take number board) (slice_range board number next)
      ∙ (λ z. fold (told K coin j) (was z) (sym is z))
      ∙ sym (h ∙ ap (λ m. fold (told K m j) q found) same)
