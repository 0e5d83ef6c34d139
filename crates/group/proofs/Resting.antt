-- A pass that alters nothing finds nothing to do.
use Rattle.std.proofs.Common.{◌≡◌, ℕ, zero, suc, ◌+◌, ◌<◌, ◌≤◌, Bool, true, false, cond, not, ◌||◌, eqb, nat_lt, ◌⊎◌, inl, inr, List, [], ◌∷◌, length, Some, None, Ok, Err, Option, Result, fold, slice_set, sym, refl, ap, ◌∙◌, subst, arith}
use Rattle.std.specs.List.{slice_get, slice_index_or, range_with_len, AllByRecursion}
use Rattle.theory.specs.Machine.{Steps}
use Rattle.theory.specs.Calls.{Turn, to_echo, to_ready, to_keep, to_follow, to_decide, to_write, to_second, to_see, to_confirm, to_close, number, turn}
use Rattle.theory.specs.Statement.{Stmt}
use Rattle.replica.specs.declared.state.Replica.{Replica}
use Rattle.replica.specs.Store.{Store, fits}
use Rattle.replica.specs.View.{plan, box}
use Rattle.intake.specs.Hearing.{heard, judge_of}
use Rattle.turns.specs.Turning.{turned, turn_of}
use Rattle.common.specs.Refusals.{declined}
use Rattle.common.specs.declared.refusal.Refusal.TheVariants.{Table}
use Rattle.std.proofs.lemmas.Bool.{eqb-true, eqb-false, ltb-true, ltb-false}
use Rattle.promises.specs.Runs.{Kind, State, hear, turns, nought}
use Rattle.group.specs.Groups.{Group, called_on, called}
use Rattle.group.specs.Weeks.{Course, everyone, accepted, above, again, board_at, passes_most, heard_at, told, aired, all_aired, acted, rested, pass, Still, Busy, Settles}

pub true≢false : true ≡ false → ⊥
true≢false e = let z : ◌≡◌ {A = ℕ} 1 0 = ap (λ b. cond b 1 0) e in omega arith

-- neither of two is so
neither : (a b : Bool) → (a || b) ≡ false → (a ≡ false) × (b ≡ false)
neither true b e = absurd (true≢false e)
neither false b e = (refl, e)

same_set : (g : Group) (i : ℕ) (p : State) → slice_get g i ≡ Some p → slice_set g i p ≡ g
same_set [] i p e = refl
same_set (x ∷ g) zero p e = let same : x ≡ p = cc in ap (λ y. y ∷ g) (sym same)
same_set (x ∷ g) (suc i) p e = ap (λ l. x ∷ l) (same_set g i p e)

-- each turn has a number above 0
numbered : (k : Turn) → nat_lt 0 (number k) ≡ true
numbered k = elim k as (λ u. nat_lt 0 (number u) ≡ true) [ to_echo ↦ refl | to_ready ↦ refl | to_keep ↦ refl | to_follow ↦ refl | to_decide ↦ refl | to_write ↦ refl | to_second ↦ refl | to_see ↦ refl | to_confirm ↦ refl | to_close ↦ refl ]

module _ (m : Replica) (t : Store) where
  -- what is declined leaves all as it was
  heard_stays : (j : ℕ) (r : Result (Stmt (List ℕ)) ℕ) → let q = nought (heard m t j r) in accepted q.0 ≡ false → ◌≡◌ {A = State} (q.1, q.2) (m, t)
  heard_stays j (Ok st) e = absurd (true≢false e)
  heard_stays j (Err n) e = refl

  turned_stays : (coin : ℕ → ℕ → Bool) → let q = turn_of coin m t in above q.0 ≡ false → ◌≡◌ {A = State} (q.1, q.2) (m, t)
  turned_stays coin = by (not (fits m.set.n m.set.w t))
    where
      on : (o : Option (Turn × Steps (List ℕ))) → let q = turned m t o in above q.0 ≡ false → ◌≡◌ {A = State} (q.1, q.2) (m, t)
      on None e = refl
      on (Some k) e = absurd (true≢false (sym (numbered k.0) ∙ e))

      by : (b : Bool) → let q = cond b (declined Table, m, t) (turned m t (turn (plan m) (box m t) coin)) in above q.0 ≡ false → ◌≡◌ {A = State} (q.1, q.2) (m, t)
      by true e = refl
      by false e = on (turn (plan m) (box m t) coin) e

-- a step that says nothing was altered did nothing, nor was anything altered before, and so much is so
record Calm {X : Type 0} (f : Course → X → Course) (Fact : Group → X → Type 0) : Type 0 where
  calm : (p : Course) (x : X) → (f p x).0 ≡ false → (p.0 ≡ false) × ((f p x).1 ≡ p.1) × Fact p.1 x

module _ {X : Type 0} (f : Course → X → Course) (Fact : Group → X → Type 0) (c : Calm f Fact) where
  calm_fold : (xs : List X) (p : Course) → (fold f p xs).0 ≡ false → (p.0 ≡ false) × ((fold f p xs).1 ≡ p.1) × AllByRecursion (Fact p.1) xs
  calm_fold [] p e = (e, refl, tt)
  calm_fold (x ∷ xs) p e =
      let more = calm_fold xs (f p x) e in
      let one = c.calm p x more.0 in
      (one.0, more.1 ∙ one.1, (one.2, subst (λ g. AllByRecursion (Fact g) xs) one.1 more.2))

above_else : (a i : ℕ) → a ≤ i → (i ≡ a → ⊥) → a + 1 ≤ i
above_else a i low z = at (nat_lt a i) refl
  where
    at : (b : Bool) → nat_lt a i ≡ b → a + 1 ≤ i
    at true e = omega (arith, ltb-true a i e)
    at false e = absurd (z (omega (arith, ltb-false a i e)))

all_numbers : (P : ℕ → Type 0) (a n : ℕ) → AllByRecursion P (range_with_len a n) → (i : ℕ) → a ≤ i → i < a + n → P i
all_numbers P a zero h i low high = absurd (omega arith)
all_numbers P a (suc n) h i low high = by (eqb i a) refl (λ next. all_numbers P (a + 1) n h.1 i next (omega arith))
  where
    by : (b : Bool) → eqb i a ≡ b → (a + 1 ≤ i → P i) → P i
    by true e more = subst P (sym (eqb-true i a e)) h.0
    by false e more = more (above_else a i low (eqb-false i a e))

all_at : {A : Type 0} (P : A → Type 0) (xs : List A) → AllByRecursion P xs → (x : A) (i : ℕ) → i < length xs → ((d : A) → slice_index_or xs i d ≡ x) → P x
all_at P [] h x i low is = absurd (omega arith)
all_at P (y ∷ xs) h x zero low is = subst P (is y) h.0
all_at P (y ∷ xs) h x (suc i) low is = all_at P xs h.1 x i (omega arith) is

module _ (K : Kind) (coin : ℕ → ℕ → Bool) where
  hear_stays : (g : Group) (i j : ℕ) (s : List ℕ) → accepted (called K coin g i (hear j s)).0 ≡ false → (called K coin g i (hear j s)).1 ≡ g
  hear_stays g i j s = by (slice_get g i) refl
    where
      by : (o : Option State) → slice_get g i ≡ o → accepted (called_on K coin g i (hear j s) o).0 ≡ false → (called_on K coin g i (hear j s) o).1 ≡ g
      by None is e = refl
      by (Some p) is e = ap (slice_set g i) (heard_stays p.0 p.1 j (judge_of K.width K.valid p.0 p.1 j s) e) ∙ same_set g i p is

  turn_stays : (g : Group) (i : ℕ) → above (called K coin g i turns).0 ≡ false → (called K coin g i turns).1 ≡ g
  turn_stays g i = by (slice_get g i) refl
    where
      by : (o : Option State) → slice_get g i ≡ o → above (called_on K coin g i turns o).0 ≡ false → (called_on K coin g i turns o).1 ≡ g
      by None is e = refl
      by (Some p) is e = ap (slice_set g i) (turned_stays p.0 p.1 coin e) ∙ same_set g i p is

  -- what nobody accepts
  abbrev Deaf : ℕ → List ℕ → Group → ℕ → Type 0
  Deaf j s g i = eqb i j ≡ false → accepted (called K coin g i (hear j s)).0 ≡ false

  abbrev Untold : ℕ → Group → List ℕ → Type 0
  Untold j g s = AllByRecursion (Deaf j s g) (range_with_len 0 (length g))

  abbrev Unheard : Group → ℕ → Type 0
  Unheard g j = AllByRecursion (Untold j g) (board_at (slice_get g j))

  abbrev Resting : Group → ℕ → Type 0
  Resting g i = above (called K coin g i turns).0 ≡ false

  calm_heard : (j : ℕ) (s : List ℕ) → Calm (heard_at K coin j s) (Deaf j s)
  calm_heard j s = record { calm = λ p i. by p i (eqb i j) refl }
    where
      by : (p : Course) (i : ℕ) (b : Bool) → eqb i j ≡ b → let q = cond b p (let r = called K coin p.1 i (hear j s) in (p.0 || accepted r.0, r.1)) in q.0 ≡ false → (p.0 ≡ false) × (q.1 ≡ p.1) × Deaf j s p.1 i
      by p i true is e = (e, refl, λ h. absurd (true≢false (sym is ∙ h)))
      by p i false is e = let two = neither p.0 _ e in (two.0, hear_stays p.1 i j s two.1, λ h. two.1)

  calm_told : (j : ℕ) → Calm (told K coin j) (Untold j)
  calm_told j = record { calm = λ p s. calm_fold (heard_at K coin j s) (Deaf j s) (calm_heard j s) (everyone p) p }

  calm_aired : Calm (aired K coin) Unheard
  calm_aired = record { calm = λ p j. calm_fold (told K coin j) (Untold j) (calm_told j) (board_at (slice_get p.1 j)) p }

  -- a flag stays
  flagged : (i n : ℕ) (p : Course) → p.0 ≡ true → (again (acted K coin i) n p).0 ≡ true
  unfolding again
  flagged i zero p e = e
  flagged i (suc n) p e = by (acted K coin i p).0 (flagged i n (acted K coin i p).1 (ap (λ b. b || above (called K coin p.1 i turns).0) e)) (ap (λ b. b || above (called K coin p.1 i turns).0) e)
    where
      by : (b : Bool) → (again (acted K coin i) n (acted K coin i p).1).0 ≡ true → (acted K coin i p).1.0 ≡ true → (cond b (again (acted K coin i) n (acted K coin i p).1) (acted K coin i p).1).0 ≡ true
      by true more one = more
      by false more one = one

  calm_again : (i n : ℕ) (p : Course) → (again (acted K coin i) (suc n) p).0 ≡ false → (p.0 ≡ false) × ((again (acted K coin i) (suc n) p).1 ≡ p.1) × Resting p.1 i
  unfolding again
  calm_again i n p = by (above (called K coin p.1 i turns).0) refl
    where
      r : Course
      r = (acted K coin i p).1

      by : (b : Bool) → above (called K coin p.1 i turns).0 ≡ b → let q = cond b (again (acted K coin i) n r) r in q.0 ≡ false → (p.0 ≡ false) × (q.1 ≡ p.1) × Resting p.1 i
      by true is e = absurd (true≢false (sym (flagged i n r (ap (λ b. p.0 || b) is ∙ so p.0)) ∙ e))
        where
          so : (b : Bool) → (b || true) ≡ true
          so true = refl
          so false = refl
      by false is e = let two = neither p.0 _ e in (two.0, turn_stays p.1 i is, is)

  calm_rested : Calm (rested K coin) Resting
  calm_rested = record { calm = λ p i e. calm_again i 65535 p e }

  -- A pass that says that nothing was altered left all as it was, and nothing is left to do.
  pass_rests : (g : Group) → (pass K coin g).0 ≡ false → ((pass K coin g).1 ≡ g) × Still K coin g
  pass_rests g e =
      let a = all_aired K coin (false, g) in
      let rests = calm_fold (rested K coin) Resting calm_rested (everyone a) a e in
      let hears = calm_fold (aired K coin) Unheard calm_aired (everyone (false, g)) (false, g) rests.0 in
      let quiet = subst (λ h. AllByRecursion (Resting h) (range_with_len 0 (length h))) hears.1 rests.2 in (
        rests.1 ∙ hears.1,
        record {
          heard = λ i j here there other s on.
              let untold = all_numbers (Unheard g) 0 (length g) hears.2 j (omega arith) (omega arith) in
              let deaf = all_at (Untold j g) (board_at (slice_get g j)) untold s on.0 on.1 on.2 in
              all_numbers (Deaf j s g) 0 (length g) deaf i (omega arith) (omega arith) other;
          rest = λ i here. all_numbers (Resting g) 0 (length g) quiet i (omega arith) (omega arith);
        },
      )

  settles_from : (n : ℕ) (g : Group) → Still K coin (again (pass K coin) n g) ⊎ Busy K coin n g
  unfolding again Busy
  settles_from zero g = inr tt
  settles_from (suc n) g = by (pass K coin g).0 refl (settles_from n (pass K coin g).1)
    where
      by : (b : Bool) → (pass K coin g).0 ≡ b → Still K coin (again (pass K coin) n (pass K coin g).1) ⊎ Busy K coin n (pass K coin g).1
          → Still K coin (cond b (again (pass K coin) n (pass K coin g).1) (pass K coin g).1) ⊎ ((pass K coin g).0 ≡ true) × Busy K coin n (pass K coin g).1
      by true e (inl h) = inl h
      by true e (inr h) = inr (e, h)
      by false e more = let h = pass_rests g e in inl (subst (Still K coin) (sym h.0) h.1)

  pub settles : (g : Group) → Settles K coin g
  settles g = settles_from passes_most g
