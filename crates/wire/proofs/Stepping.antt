-- A walk goes as `next` does, step by step.
use Rattle.std.proofs.Common.{◌≡◌, ℕ, zero, suc, ◌+◌, ◌<◌, ◌≤◌, List, [], ◌∷◌, ◌++◌, length, take, drop, All, Some, None, Ok, Err, Option, Result, sym, refl, ap, ◌∙◌, subst, zero-add, arith, length-append, length-drop, drop-drop}
use Rattle.std.specs.Option.{option_map}
use Rattle.std.proofs.lemmas.List.{take_at}
use Rattle.std.proofs.lemmas.List.Elements.{All-nil, All-cons}
use Rattle.wire.specs.Frames.{first_of, next_of, walk_of, joined, Statements}
use Rattle.wire.specs.Steps.{steps_from, steps_of, parts_in, fault_among, Inside, Given, Walked}
use Rattle.wire.proofs.Walking.{first_piece, shorter, next_first, walks, walk_first}

pub first_next : (w : ℕ) (s : List ℕ) (v : Result (Option (List ℕ)) ℕ) → v ≡ next_of w s 0 → first_of w s ≡ v
first_next w s v e = sym (e ∙ next_first w 0 s (omega arith))

module _ (w p : ℕ) (s : List ℕ) where
  pub step_end : first_of w s ≡ Ok None → steps_of w p s ≡ []
  step_end e = let walk = walk_first w s (Ok None) e in ap (λ k. steps_from p k.found k.stop) walk

  pub step_stop : (r : ℕ) → first_of w s ≡ Err r → steps_of w p s ≡ Err (r, p) ∷ []
  step_stop r e = let walk = walk_first w s (Err r) e in ap (λ k. steps_from p k.found k.stop) walk

  pub step_part : (t : List ℕ) → first_of w s ≡ Ok (Some t) → steps_of w p s ≡ Ok (p, t) ∷ steps_of w (p + length t) (drop (length t) s)
  step_part t e = let walk = walk_first w s (Ok (Some t)) e in ap (λ k. steps_from p k.found k.stop) walk

-- a walk from the place p on is what next hands out
given : (n w p : ℕ) (s : List ℕ) → p ≤ length s → length (drop p s) < n → Given w s p (steps_of w p (drop p s))
given zero w p s inside enough = absurd (omega arith)
given (suc n) w p s inside enough = by (first_of w (drop p s)) refl (λ q a b. given n w q s a b)
  where
    by :
        (v : Result (Option (List ℕ)) ℕ) → first_of w (drop p s) ≡ v
        → ((q : ℕ) → q ≤ length s → length (drop q s) < n → Given w s q (steps_of w q (drop q s)))
        → Given w s p (steps_of w p (drop p s))
    by (Err r) e more = rw (step_stop w p (drop p s) r e) (refl, next_first w p s inside ∙ e, refl)
    by (Ok None) e more = rw (step_end w p (drop p s) e) (next_first w p s inside ∙ e)
    by (Ok (Some t)) e more =
        let cut = first_piece w (drop p s) t e in
        let whole = ap length cut.cut ∙ length-append t (drop (length t) (drop p s)) in
        let on : drop (length t) (drop p s) ≡ drop (p + length t) s = drop-drop (length t) p s in
        rw (step_part w p (drop p s) t e, on)
        (refl, next_first w p s inside ∙ e, more (p + length t) (omega (arith, whole, length-drop p s)) (omega (arith, shorter w (drop p s) t cut, ap length on)))

-- a walk takes no more steps than there are bytes
few : (n w p : ℕ) (s : List ℕ) → length s < n → length (steps_of w p s) ≤ length s
few zero w p s enough = absurd (omega arith)
few (suc n) w p s enough = by (first_of w s) refl (λ q t a. few n w q t a)
  where
    some : (s : List ℕ) (r : ℕ) → first_of w s ≡ Err r → 1 ≤ length s
    some [] r e = absurd (let z : ◌≡◌ {A = ℕ} 0 1 = cc in omega arith)
    some (b ∷ s) r e = omega arith

    by :
        (v : Result (Option (List ℕ)) ℕ) → first_of w s ≡ v → ((q : ℕ) (t : List ℕ) → length t < n → length (steps_of w q t) ≤ length t)
        → length (steps_of w p s) ≤ length s
    by (Err r) e more = rw (step_stop w p s r e) (some s r e)
    by (Ok None) e more = rw (step_end w p s e) (omega arith)
    by (Ok (Some t)) e more =
        let less = shorter w s t (first_piece w s t e) in
        rw (step_part w p s t e) (omega (arith, less, more (p + length t) (drop (length t) s) (omega (arith, less))))

parts_found : (p : ℕ) (ts : List (List ℕ)) (stop : Option ℕ) → parts_in (steps_from p ts stop) ≡ ts
parts_found p [] None = refl
parts_found p [] (Some e) = refl
parts_found p (t ∷ ts) stop = ap (λ us. t ∷ us) (parts_found (p + length t) ts stop)

fault_found : (p : ℕ) (ts : List (List ℕ)) (stop : Option ℕ) → fault_among (steps_from p ts stop) ≡ option_map (λ e. (e, p + length (joined ts))) stop
fault_found p [] None = refl
fault_found p [] (Some e) = ap (λ n. Some (e, n)) (omega arith)
fault_found p (t ∷ ts) stop =
    fault_found (p + length t) ts stop
    ∙ ap (λ n. option_map (λ e. (e, n)) stop) (omega (arith, length-append t (joined ts)))

all_inside : (n p : ℕ) (ts : List (List ℕ)) (stop : Option ℕ) → p + length (joined ts) ≤ n → All (Inside n) (steps_from p ts stop)
all_inside n p [] None h = All-nil (Inside n)
all_inside n p [] (Some e) h = All-cons (Inside n) (Err (e, p)) [] (omega arith) (All-nil (Inside n))
all_inside n p (t ∷ ts) stop h =
    let both = length-append t (joined ts) in
    All-cons (Inside n) (Ok (p, t)) (steps_from (p + length t) ts stop) (omega (arith, both)) (all_inside n (p + length t) ts stop (omega (arith, both)))

by_end : {X : Type 0} (f : ℕ → X) (stop : Option ℕ) → option_map f stop ≡ None → stop ≡ None
by_end f None e = refl
by_end f (Some r) e = absurd (let z : ◌≡◌ {A = ℕ} 0 1 = cc in omega arith)

by_stop :
    (front rest s : List ℕ) (stop : Option ℕ) (e p : ℕ) → s ≡ front ++ rest → option_map {U = ℕ × ℕ} (λ e. (e, length front)) stop ≡ Some (e, p)
    → front ≡ take p s
by_stop front rest s None e p cut f = absurd (let z : ◌≡◌ {A = ℕ} 0 1 = cc in omega arith)
by_stop front rest s (Some r) e p cut f =
    let same : ◌≡◌ {A = ℕ × ℕ} (r, length front) (e, p) = cc in
    sym (ap (take p) cut ∙ take_at front rest p (ap (λ (x : ℕ × ℕ). x.1) same))

pub walked : (w : ℕ) (s : List ℕ) → Walked w s
walked w s =
    let all = walks w s in
    let ts = (walk_of w s).found in
    let stop = (walk_of w s).stop in
    let parts = parts_found 0 ts stop in
    let fault = fault_found 0 ts stop in
    let inside : length (joined ts) ≤ length s = omega (arith, ap length all.front ∙ length-append (joined ts) (drop (length (joined ts)) s)) in
    record {
      given = given (suc (length s)) w 0 s (omega arith) (omega arith);
      whole = subst (Statements w) (sym parts) all.whole;
      ended = λ e. rw parts (all.ended (by_end _ stop (sym fault ∙ e)));
      stopped = λ e p f. rw parts (by_stop (joined ts) _ s stop e p all.front (ap (λ n. option_map {U = ℕ × ℕ} (λ e. (e, n)) stop) (sym (zero-add (length (joined ts)))) ∙ sym fault ∙ f));
      inside = all_inside (length s) 0 ts stop (omega arith);
      few = few (suc (length s)) w 0 s (omega arith);
    }
