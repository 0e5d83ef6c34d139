-- Tests that compute, for lists of calls that are fair and quiet.
use Rattle.std.proofs.Common.{◌≡◌, ℕ, Bool, true, false, not, ◌&&◌, ◌||◌, ltb, [], ◌∷◌, sym, ◌∙◌, inl, inr, ⊎_elim}
use mathlib.Core.Bool.{false≢true}
use Rattle.std.proofs.lemmas.Bool.{and_parts, and_from, and_cases, or_cases, ltb-true, lt-ltb, not-true, not-false}
use Rattle.theory.specs.Count.{Honest, count}
use Rattle.theory.specs.Statement.{Stmt}
use Rattle.theory.specs.Plan.{Rule, boxes}
use Rattle.theory.specs.History.{Log, Said}
use Rattle.theory.specs.Machine.{Box, Board}
use Rattle.theory.specs.Search.{absent}
use Rattle.theory.specs.Turns.{told}
use Rattle.theory.specs.Calls.{turn, accepts, Call, submit, opens, hear, turns, Calls}
use Rattle.theory.specs.Promises.{box, Shown, Authentic, Fair, Quiet}
use Rattle.theory.proofs.Counting.{count_none}
use Rattle.theory.proofs.Searching.{absent_none}
use Rattle.theory.proofs.Turning.{told_is}
use Rattle.theory.proofs.Runs.{log}
use Rattle.theory.proofs.Standing.{run}
use Rattle.theory.proofs.Fairness.{board_said, fair_stands}

module _ {X : Type 0} (R : Rule X) where
  abbrev good : ℕ → Bool
  good i = ltb i R.plan.size && R.honest i

  good_honest : (i : ℕ) → good i ≡ true → Honest (boxes R) i
  good_honest i e = let p = and_parts _ _ e in record { below = ltb-true i R.plan.size p.0; good = p.1 }

  honest_good : (i : ℕ) → Honest (boxes R) i → good i ≡ true
  honest_good i h = and_from _ _ (lt-ltb i R.plan.size h.below) h.good

  -- what is heard from an honest box stands on its board now
  abbrev authentic_test : Calls X → Call X → Bool
  authentic_test c (submit x) = true
  authentic_test c opens = true
  authentic_test c (hear j s) = let B = box R c j in not (good j) || told R.plan B B.me s
  authentic_test c turns = true

  abbrev pub fair_test : Calls X → Bool
  fair_test [] = true
  fair_test (p ∷ c) = fair_test c && (good p.0 && authentic_test c p.1)

  shown_now : (c : Calls X) (j : ℕ) (s : Stmt X) → Board (box R c j) s → Shown R c j s
  shown_now [] j s h = h
  shown_now (p ∷ c) j s h = inr h

  authentic_check : (c : Calls X) (i : ℕ) (k : Call X) → authentic_test c k ≡ true → Authentic R c i k
  authentic_check c i (submit x) e = tt
  authentic_check c i opens e = tt
  authentic_check c i (hear j s) e = λ a js. ⊎_elim
      (λ n. absurd (false≢true (sym (not-true (good j) n) ∙ honest_good j js)))
      (λ t. shown_now c j s ((told_is R.plan (box R c j) (box R c j).me s).0 t))
      (or_cases (not (good j)) (told R.plan (box R c j) (box R c j).me s) e)
  authentic_check c i turns e = tt

  pub fair_check : (c : Calls X) → fair_test c ≡ true → Fair R c
  fair_check [] e = tt
  fair_check (p ∷ c) e =
      let a = and_parts (fair_test c) (good p.0 && authentic_test c p.1) e in
      let b = and_parts (good p.0) (authentic_test c p.1) a.1 in
      (fair_check c a.0, good_honest p.0 b.0, authentic_check c p.0 p.1 b.1)

  -- box B would accept nothing that was ever stated
  abbrev deaf : Box X → Log X → Bool
  deaf B [] = true
  deaf B (p ∷ l) = not (accepts R.plan B p.0 p.1) && deaf B l

  deaf_said : (B : Box X) (l : Log X) (j : ℕ) (s : Stmt X) → deaf B l ≡ true → Said l j s → accepts R.plan B j s ≡ false
  deaf_said B [] j s e a = absurd a
  deaf_said B (p ∷ l) j s e (inl a) = deaf_said B l j s (and_parts (not (accepts R.plan B p.0 p.1)) (deaf B l) e).1 a
  deaf_said B (p ∷ l) j s e (inr a) = rw (a.0, a.1) (not-true (accepts R.plan B p.0 p.1) (and_parts (not (accepts R.plan B p.0 p.1)) (deaf B l) e).0)

  abbrev pub still : Calls X → ℕ → Bool
  still c i = let B = box R c i in deaf B (log (run R.plan R.coin c)) && absent (turn R.plan B R.coin)

  all_still : (c : Calls X) → count R.plan.size (λ i. R.honest i && not (still c i)) ≡ 0 → (i : ℕ) → Honest (boxes R) i → still c i ≡ true
  all_still c e i h = ⊎_elim
      (λ n. absurd (false≢true (sym n ∙ h.good)))
      (λ s. not-false (still c i) s)
      (and_cases (R.honest i) (not (still c i)) (count_none R.plan.size (λ i. R.honest i && not (still c i)) e i h.below))

  pub quiet_check : (c : Calls X) → Fair R c → count R.plan.size (λ i. R.honest i && not (still c i)) ≡ 0 → Quiet R c
  quiet_check c f e = record {
    heard = λ i j is js n s b. deaf_said (box R c i) (log (run R.plan R.coin c)) j s (and_parts _ _ (all_still c e i is)).0 (board_said R c (fair_stands R c f).lawful j js s b);
    rest = λ i is. absent_none (turn R.plan (box R c i) R.coin) (and_parts _ _ (all_still c e i is)).1;
  }
