-- Turns 9 and 10 answer what their rules say.
use Rattle.std.proofs.Common.{◌≡◌, ℕ, ◌<◌, Bool, true, false, not, ◌&&◌, ◌||◌, leb, ◌⊎◌, Some, sym, refl, ap, ◌∙◌, subst, ap₂, inl, inr, ⊎_elim, arith}
use mathlib.Core.Bool.{false≢true}
use Rattle.std.proofs.lemmas.Bool.{and_parts, and_from, or_cases, or_left, or_right, cases_Bool}
use Rattle.theory.specs.Count.{count}
use Rattle.theory.specs.Statement.{Bits, only, both, In, seen, confirm, finish, at_seen, at_confirm, at_finish}
use Rattle.theory.specs.Plan.{Plan, all_honest}
use Rattle.theory.specs.Machine.{Box, Holds, own}
use Rattle.theory.specs.Search.{absent}
use Rattle.theory.specs.Turns.{set_of, same_bit, outcome, told, in_values, seen_in, confirms, fits, stands, within, joined, closes}
use Rattle.theory.specs.Rules.{Several, Unsaid, Values, ConfirmRule, Within, Union, Single, Double, CloseRule}
use Rattle.theory.specs.Laws.{Iff, Filed, Never, Law}
use Rattle.theory.proofs.Books.{none≢some}
use Rattle.theory.proofs.Searching.{only_if_some, only_if_true, guard_some, guard_true, absent_none, none_absent, unless_some, unless_empty, given_some, given_full, bind_some, bind_full}
use Rattle.theory.proofs.Cells.{sort_seen, sort_confirm, sort_finish, of_sort}
use Rattle.theory.proofs.Several.{several_some, several_is}
use Rattle.theory.proofs.Turning.{law_one, told_is, values_is, unsaid_is}

-- the set that two tests make: its bits are those that pass
pub set_in : (p : Bool → Bool) (u : Bits) → set_of (p false) (p true) ≡ Some u → (v : Bool) → Iff (In v u) (p v ≡ true)
set_in p u e = at (p false) refl (p true) refl e
  where
    at : (a : Bool) → p false ≡ a → (c : Bool) → p true ≡ c → set_of a c ≡ Some u → (v : Bool) → Iff (In v u) (p v ≡ true)
    at true x true y e v = let w : both ≡ u = cc in subst (λ (u : Bits). Iff (In v u) (p v ≡ true)) w (λ i. elim v as (λ w. p w ≡ true) [ true ↦ y | false ↦ x ], λ i. tt)
    at true x false y e v = let w : only false ≡ u = cc in subst (λ (u : Bits). Iff (In v u) (p v ≡ true)) w (λ i. rw i x, λ t. elim v as (λ w. p w ≡ true → w ≡ false) [ true ↦ λ t. absurd (false≢true (sym y ∙ t)) | false ↦ λ t. refl ] t)
    at false x true y e v = let w : only true ≡ u = cc in subst (λ (u : Bits). Iff (In v u) (p v ≡ true)) w (λ i. rw i y, λ t. elim v as (λ w. p w ≡ true → w ≡ true) [ true ↦ λ t. refl | false ↦ λ t. absurd (false≢true (sym x ∙ t)) ] t)
    at false x false y e v = absurd (none≢some e)

not_in : (p : Bool → Bool) (u v : Bool) → (p v ≡ true → v ≡ u) → (v ≡ u → ⊥) → p v ≡ false
not_in p u v f n = ⊎_elim (λ t. absurd (n (f t))) (λ e. e) (cases_Bool (p v))

set_is : (p : Bool → Bool) (u : Bits) → ((v : Bool) → Iff (In v u) (p v ≡ true)) → set_of (p false) (p true) ≡ Some u
set_is p (only true) f = rw ((f true).0 refl, not_in p true false (f false).1 false≢true) refl
set_is p (only false) f = rw ((f false).0 refl, not_in p false true (f true).1 (λ e. false≢true (sym e))) refl
set_is p both f = rw ((f false).0 tt, (f true).0 tt) refl

-- tests that are true together are equal
same_test : (a c : Bool) → Iff (a ≡ true) (c ≡ true) → a ≡ c
same_test true c f = sym (f.0 refl)
same_test false true f = f.1 refl
same_test false false f = refl

same_bit_is : (v t : Bool) → Iff (same_bit v t ≡ true) (v ≡ t)
same_bit_is true t = (λ e. sym e, λ e. sym e)
same_bit_is false true = (λ e. absurd (false≢true e), λ e. absurd (false≢true e))
same_bit_is false false = (λ e. refl, λ e. refl)

-- no set is empty
some_bit : (u : Bits) → (v : Bool) × In v u
some_bit (only v) = (v, refl)
some_bit both = (false, tt)

module _ {X : Type 0} (P : Plan X) (B : Box X) (filed : Filed B.mem) (r : ℕ) where
  seen_in_is : (j : ℕ) → Iff (seen_in P B r j ≡ true) ((v : Bool) × Values P B r v × Holds B j (seen B.epoch r v))
  seen_in_is j =
      (λ e. ⊎_elim (way false) (way true) (or_cases _ _ e), λ w. back w.0 w.1 w.2)
    where
      way : (v : Bool) → (in_values P B r v && told P B j (seen B.epoch r v)) ≡ true → (v : Bool) × Values P B r v × Holds B j (seen B.epoch r v)
      way v a = let p = and_parts _ _ a in (v, (values_is P B filed r v).0 p.0, (told_is P B j (seen B.epoch r v)).0 p.1)

      one : (v : Bool) → Values P B r v → Holds B j (seen B.epoch r v) → (in_values P B r v && told P B j (seen B.epoch r v)) ≡ true
      one v a c = and_from _ _ ((values_is P B filed r v).1 a) ((told_is P B j (seen B.epoch r v)).1 c)

      back : (v : Bool) → Values P B r v → Holds B j (seen B.epoch r v) → seen_in P B r j ≡ true
      back false a c = or_left _ _ (one false a c)
      back true a c = or_right _ _ (one true a c)

  seen_enough : Iff (leb (all_honest P) (count P.size (seen_in P B r)) ≡ true) (Several (all_honest P) P.size (λ j. (v : Bool) × Values P B r v × Holds B j (seen B.epoch r v)))
  seen_enough = several_is (seen_in P B r) seen_in_is (all_honest P) P.size

  pub confirm_law : Law (confirms P B r) Never (confirm B.epoch r) (ConfirmRule P B r)
  confirm_law = law_one
      (λ a e. let g = given_some (own B (at_seen B.epoch r)) _ a e in
      let n = unless_some (own B (at_confirm B.epoch r)) _ a g.1 in
      let o = only_if_some _ _ a n.1 in
      let y = bind_some _ _ a o.1 in
      let s = set_in (in_values P B r) y.0 y.1 in (
        y.0,
        (let w : a ≡ confirm B.epoch r y.0 = cc in w),
        record {
          after = of_sort B.mem filed (sort_seen B.epoch r) B.me g.0.0 g.0.1;
          unsaid = (unsaid_is P B filed (sort_confirm B.epoch r)).0 n.0;
          enough = seen_enough.0 o.0;
          inside = λ v i. (values_is P B filed r v).0 ((s v).0 i);
          whole = λ v i. (s v).1 ((values_is P B filed r v).1 i);
        },
      ))
      (λ u c. given_full (own B (at_seen B.epoch r)) _ _ c.after.1
      ∙ (unless_empty (own B (at_confirm B.epoch r)) _ ((unsaid_is P B filed (sort_confirm B.epoch r)).1 c.unsaid)
      ∙ (only_if_true _ _ (seen_enough.1 c.enough)
      ∙ bind_full _ _ u (set_is (in_values P B r) u (λ v. (λ i. (values_is P B filed r v).1 (c.inside v i), λ t. c.whole v ((values_is P B filed r v).0 t)))))))

  -- a set within values(r), and who has confirmed one
  fits_is : (u : Bits) → Iff (fits P B r u ≡ true) ((v : Bool) → In v u → Values P B r v)
  fits_is (only v) = (λ e w i. rw i ((values_is P B filed r v).0 e), λ f. (values_is P B filed r v).1 (f v refl))
  fits_is both = (
    λ e v i. let p = and_parts (in_values P B r false) (in_values P B r true) e in (values_is P B filed r v).0 (elim v as (λ w. in_values P B r w ≡ true) [ true ↦ p.1 | false ↦ p.0 ]),
    λ f. and_from _ _ ((values_is P B filed r false).1 (f false tt)) ((values_is P B filed r true).1 (f true tt)),
  )

  stands_is : (u : Bits) (j : ℕ) → Iff (stands P B r u j ≡ true) (Within P B r j u)
  stands_is u j = (
    λ e. let p = and_parts _ _ e in ((told_is P B j (confirm B.epoch r u)).0 p.1, (fits_is u).0 p.0),
    λ w. and_from _ _ ((fits_is u).1 w.1) ((told_is P B j (confirm B.epoch r u)).1 w.0),
  )

  within_is : (j : ℕ) → Iff (within P B r j ≡ true) ((u : Bits) × Within P B r j u)
  within_is j = (
    λ e. ⊎_elim (⊎_elim (λ a. (only false, (stands_is (only false) j).0 a)) (λ a. (only true, (stands_is (only true) j).0 a))) (λ a. (both, (stands_is both j).0 a)) (⊎_elim (λ a. inl (or_cases _ _ a)) inr (or_cases _ _ e)),
    λ w. back w.0 ((stands_is w.0 j).1 w.1),
  )
    where
      back : (u : Bits) → stands P B r u j ≡ true → within P B r j ≡ true
      back (only false) a = or_left _ _ (or_left _ _ a)
      back (only true) a = or_left _ _ (or_right _ _ a)
      back both a = or_right _ _ a

  within_enough : Iff (leb (all_honest P) (count P.size (within P B r)) ≡ true) (Several (all_honest P) P.size (λ j. (u : Bits) × Within P B r j u))
  within_enough = several_is (within P B r) within_is (all_honest P) P.size

  -- the union of all such sets
  has_bit : (v : Bool) (j : ℕ) → Iff ((stands P B r (only v) j || stands P B r both j) ≡ true) ((u : Bits) × (Within P B r j u × In v u))
  has_bit v j = (
    λ e. ⊎_elim (λ a. (only v, ((stands_is (only v) j).0 a, refl))) (λ a. (both, ((stands_is both j).0 a, tt))) (or_cases _ _ e),
    λ w. back w.0 ((stands_is w.0 j).1 w.1.0) w.1.1,
  )
    where
      back : (u : Bits) → stands P B r u j ≡ true → In v u → (stands P B r (only v) j || stands P B r both j) ≡ true
      back (only u) a i = or_left (stands P B r (only v) j) (stands P B r both j) (rw i a)
      back both a i = or_right _ _ a

  pub union_is : (v : Bool) → Iff (joined P B r v ≡ true) (Union P B r v)
  union_is v =
      let s = several_is (λ j. stands P B r (only v) j || stands P B r both j) (has_bit v) 1 P.size in
      (λ e. let j = s.0 e in (j.0, j.1, j.2.0, j.2.1.0, j.2.1.1), λ j. s.1 (j.0, j.1, (j.2, (j.3, j.4)), tt))

  not_union : (v : Bool) → Iff (joined P B r v ≡ false) (Union P B r v → ⊥)
  not_union v = (λ e j. false≢true (sym e ∙ (union_is v).1 j), λ n. ⊎_elim (λ t. absurd (n ((union_is v).0 t))) (λ e. e) (cases_Bool (joined P B r v)))

  -- what the union and the toss settle
  free_is : Iff (absent (own B (at_finish B.epoch)) ≡ true) (Unsaid P B (finish B.epoch))
  free_is = let s = unsaid_is P B filed (sort_finish B.epoch) in (λ e. s.0 (absent_none _ e), λ n. none_absent _ (s.1 n))

  module _ (toss : Bool) where
    abbrev answer : Bool × Bool
    answer = outcome (set_of (joined P B r false) (joined P B r true)) toss (absent (own B (at_finish B.epoch)))

    abbrev ends : Bool → Bool
    ends v = same_bit v toss && absent (own B (at_finish B.epoch))

    ends_is : (v : Bool) → Iff (ends v ≡ true) ((v ≡ toss) × Unsaid P B (finish B.epoch))
    ends_is v = (
      λ e. let p = and_parts _ _ e in ((same_bit_is v toss).0 p.0, free_is.0 p.1),
      λ w. and_from _ _ ((same_bit_is v toss).1 w.0) (free_is.1 w.1),
    )

    single_answer : (v : Bool) → joined P B r v ≡ true → joined P B r (not v) ≡ false → answer ≡ (v, ends v)
    single_answer true a c = rw (a, c) refl
    single_answer false a c = rw (a, c) refl

    double_answer : joined P B r false ≡ true → joined P B r true ≡ true → answer ≡ (toss, false)
    double_answer a c = rw (a, c) refl

    abbrev Settled : Bool × Bool → Type 0
    Settled c = Single P B toss r c.0 c.1 ⊎ Double P B toss r c.0 c.1

    single_settled : (v : Bool) → joined P B r v ≡ true → joined P B r (not v) ≡ false → Settled answer
    single_settled v a c = subst Settled (sym (single_answer v a c)) (inl ((union_is v).0 a, (not_union (not v)).0 c, (ends_is v).0, λ e n. (ends_is v).1 (e, n)))

    answer_settled : (v : Bool) → Union P B r v → Settled answer
    answer_settled v n = at (joined P B r false) refl (joined P B r true) refl
      where
        at : (a : Bool) → joined P B r false ≡ a → (c : Bool) → joined P B r true ≡ c → Settled answer
        at true x true y = subst Settled (sym (double_answer x y)) (inr ((union_is false).0 x, (union_is true).0 y, refl, refl))
        at true x false y = single_settled false x y
        at false x true y = single_settled true y x
        at false x false y = absurd ((not_union v).0 (elim v as (λ w. joined P B r w ≡ false) [ true ↦ y | false ↦ x ]) n)

    settled_answer : (c : Bool × Bool) → Settled c → answer ≡ c
    settled_answer c (inl s) =
        single_answer c.0 ((union_is c.0).1 s.0) ((not_union (not c.0)).1 s.1)
        ∙ ap (λ (f : Bool). (c.0, f)) (same_test (ends c.0) c.1 (λ e. let w = (ends_is c.0).0 e in s.3 w.0 w.1, λ e. (ends_is c.0).1 (s.2 e)))
    settled_answer c (inr d) =
        double_answer ((union_is false).1 d.0) ((union_is true).1 d.1) ∙ ap₂ (λ (a c : Bool). (a, c)) (sym d.2) (sym d.3)

  pub close_law : (coin : ℕ → ℕ → Bool) → P.faults < P.size → Law {I = Bool × Bool} (closes P B coin r) Never (λ c. c) (λ c. CloseRule P B (coin B.epoch r) r c.0 c.1)
  close_law coin lt = law_one
      (λ a e. let g = given_some (own B (at_confirm B.epoch r)) _ a e in
      let o = guard_some (leb (all_honest P) (count P.size (within P B r))) _ a g.1 in
      let many = within_enough.0 o.0 in
      let j = several_some _ _ _ (omega arith) many in
      let v = some_bit j.2.0 in (
        a,
        refl,
        record {
          after = of_sort B.mem filed (sort_confirm B.epoch r) B.me g.0.0 g.0.1;
          enough = many;
          settled = subst (Settled (coin B.epoch r)) o.1 (answer_settled (coin B.epoch r) v.0 (j.0, j.1, j.2.0, j.2.1, v.1));
        },
      ))
      (λ c w. given_full (own B (at_confirm B.epoch r)) _ _ w.after.1
      ∙ (guard_true (leb (all_honest P) (count P.size (within P B r))) _ (within_enough.1 w.enough)
      ∙ ap Some (settled_answer (coin B.epoch r) c w.settled)))
