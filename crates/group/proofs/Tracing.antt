-- Whatever a group does is a list of calls.
use Rattle.std.proofs.Common.{◌≡◌, ℕ, zero, suc, Bool, true, false, cond, ◌||◌, eqb, List, [], ◌∷◌, Some, None, fold, slice_set, sym, refl, ap, ◌∙◌, arith}
use Rattle.std.specs.List.{slice_get}
use Rattle.std.proofs.lemmas.Bool.{eqb-true, eqb-false}
use Rattle.promises.specs.Runs.{Kind, Call, Asked, State, hear, turns, left, after}
use Rattle.group.specs.Groups.{Group, called_on, called}
use Rattle.group.specs.Weeks.{Course, everyone, accepted, again, board_at, turns_most, passes_most, heard_at, told, aired, all_aired, acted, rested, pass, settled}
use Rattle.group.specs.Traces.{Ran}
use Rattle.group.proofs.Keeping.{called_other}

get_set : (g : Group) (i : ℕ) (p x : State) → slice_get g i ≡ Some p → slice_get (slice_set g i x) i ≡ Some x
get_set [] i p x e = absurd (let z : ◌≡◌ {A = ℕ} 0 1 = cc in omega arith)
get_set (y ∷ g) zero p x e = refl
get_set (y ∷ g) (suc i) p x e = get_set g i p x e

-- what each step keeps, all of them keep
pub fold_holds : {S X : Type 0} (f : S → X → S) (P : S → Type 0) → ((s : S) (x : X) → P s → P (f s x)) → (s : S) (xs : List X) → P s → P (fold f s xs)
fold_holds f P step s [] r = r
fold_holds f P step s (x ∷ xs) r = fold_holds f P step (f s x) xs (step s x r)

again_holds : {S : Type 0} (f : S → Bool × S) (P : S → Type 0) → ((s : S) → P s → P (f s).1) → (n : ℕ) (s : S) → P s → P (again f n s)
unfolding again
again_holds f P step zero s r = r
again_holds f P step (suc n) s r = by (f s).0 (step s r) (again_holds f P step n (f s).1 (step s r))
  where
    by : (b : Bool) → P (f s).1 → P (again f n (f s).1) → P (cond b (again f n (f s).1) (f s).1)
    by true one more = more
    by false one more = one

abbrev pub asked : ℕ → Call → Asked
asked i c = record { at = i; lent = None; call = c }

module _ (K : Kind) (coin : ℕ → ℕ → Bool) where
  pub nothing_ran : (g : Group) → Ran K coin g g
  nothing_ran g = record { calls = []; own = tt; ends = λ start named i p e. e ∙ ap Some (sym (named i p e)) }

  -- one call more, at one of them
  pub called_after :
      (start : ℕ → State) (h : Group) (i : ℕ) (c : Call) (calls : List Asked) (j : ℕ) → slice_get h j ≡ Some (after K coin start calls j)
      → slice_get (called K coin h i c).1 j ≡ Some (after K coin start (asked i c ∷ calls) j)
  called_after start h i c calls j is = by (eqb j i) refl
    where
      q : State
      q = after K coin start calls j

      by : (b : Bool) → eqb j i ≡ b → slice_get (called K coin h i c).1 j ≡ Some (cond b (left K coin q None c) q)
      by false e = called_other K coin h i j c (λ z. eqb-false j i e (sym z)) ∙ is
      by true e =
          let here : j ≡ i = eqb-true j i e in
          let there : slice_get h i ≡ Some q = ap (slice_get h) (sym here) ∙ is in
          ap (slice_get (called K coin h i c).1) here
          ∙ ap (λ o. slice_get (called_on K coin h i c o).1 i) there
          ∙ get_set h i q (left K coin q None c) there

  pub call_ran : (g h : Group) (i : ℕ) (c : Call) → Ran K coin g h → Ran K coin g (called K coin h i c).1
  call_ran g h i c r = record {
    calls = asked i c ∷ r.calls;
    own = (refl, r.own);
    ends = λ start named j p e. called_after start h i c r.calls j (r.ends start named j p e);
  }

  module _ (P : Group → Type 0) where
    pub rested_holds : ((h : Group) (i : ℕ) → P h → P (called K coin h i turns).1) → (p : Course) (i : ℕ) → P p.1 → P (rested K coin p i).1
    rested_holds step p i r = again_holds (acted K coin i) (λ q. P q.1) (λ q. step q.1 i) turns_most p r

    pub settled_holds :
        ((h : Group) (i : ℕ) → P h → P (called K coin h i turns).1) → ((p : Course) (j : ℕ) → P p.1 → P (aired K coin p j).1)
        → (h : Group) → P h → P (settled K coin h)
    settled_holds turn air h r = again_holds (pass K coin) P passes passes_most h r
      where
        passes : (h : Group) → P h → P (pass K coin h).1
        passes h r =
            let a = all_aired K coin (false, h) in
            fold_holds (rested K coin) (λ q. P q.1) (rested_holds turn) a (everyone a) (fold_holds (aired K coin) (λ q. P q.1) air (false, h) (everyone (false, h)) r)

  module _ (g : Group) where
    heard_ran : (j : ℕ) (s : List ℕ) (p : Course) (i : ℕ) → Ran K coin g p.1 → Ran K coin g (heard_at K coin j s p i).1
    heard_ran j s p i r = by (eqb i j)
      where
        by : (b : Bool) → Ran K coin g (cond b p (let q = called K coin p.1 i (hear j s) in (p.0 || accepted q.0, q.1))).1
        by true = r
        by false = call_ran g p.1 i (hear j s) r

    aired_ran : (p : Course) (j : ℕ) → Ran K coin g p.1 → Ran K coin g (aired K coin p j).1
    aired_ran p j r = fold_holds (told K coin j) (λ q. Ran K coin g q.1) (λ q s. fold_holds (heard_at K coin j s) (λ q. Ran K coin g q.1) (heard_ran j s) q (everyone q)) p (board_at (slice_get p.1 j)) r

    pub settled_ran : (h : Group) → Ran K coin g h → Ran K coin g (settled K coin h)
    settled_ran h r = settled_holds (Ran K coin g) (λ h i. call_ran g h i turns) aired_ran h r
