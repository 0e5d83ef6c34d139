-- A frame is heard as it is walked.
use Rattle.std.proofs.Common.{◌≡◌, ℕ, zero, suc, ◌+◌, ◌<◌, ◌≤◌, Bool, List, [], ◌∷◌, length, drop, Some, None, Ok, Err, Option, Result, All, fold, sym, refl, ap, ◌∙◌, add-zero, add_assoc, arith, drop-drop, length-append, length-drop}
use Rattle.std.proofs.lemmas.List.Elements.{All-rest}
use Rattle.wire.specs.Frames.{next_of, Walk, walk_of}
use Rattle.wire.specs.Frames as frames
use Rattle.wire.specs.Steps.{Step, steps_from, steps_of, Inside}
use Rattle.wire.proofs.Walking.{Piece, first_piece, next_first, walk_first}
use Rattle.day.specs.Days.{Run, noted, refused_line, heard_at, onward, frame_from, frame_of, heard_all, Heard}

-- the next statement has bytes, and lies inside the frame
pub inside : (w : ℕ) (s : List ℕ) (p : ℕ) → p ≤ length s → (t : List ℕ) → next_of w s p ≡ Ok (Some t) → (1 ≤ length t) × (p + length t ≤ length s)
inside w s p low t e =
    let piece : Piece w (drop p s) t = first_piece w (drop p s) t (sym (next_first w p s low) ∙ e) in
    let long : length (drop p s) ≡ length t + length (drop (length t) (drop p s)) = ap length piece.cut ∙ length-append t (drop (length t) (drop p s)) in
    (omega (arith, piece.some), omega (arith, length-drop p s))

-- the statements of a walk, heard
abbrev along : ℕ → (List ℕ → Bool) → ℕ → ℕ → Walk → Run → Run
along w valid j p k r = heard_all w valid j p k.found k.stop r

heard_from : (n w : ℕ) (valid : List ℕ → Bool) (j b : ℕ) (s : List ℕ) (p : ℕ) (r : Run) → p ≤ length s → length s < n + p
    → frame_from n w valid j b s p r ≡ along w valid j (b + p) (walk_of w (drop p s)) r
unfolding frame_from
heard_from zero w valid j b s p r low h = absurd (omega arith)
heard_from (suc n) w valid j b s p r low h =
    by (next_of w s p) refl
    (λ t is. let i = inside w s p low t is in heard_from n w valid j b s (p + length t) (heard_at w valid j (b + p) t r) i.1 (omega (arith, i.0)))
  where
    goes : (v : Result (Option (List ℕ)) ℕ) → next_of w s p ≡ v → walk_of w (drop p s) ≡ frames.onward v (λ t. walk_of w (drop (length t) (drop p s)))
    goes v is = walk_first w (drop p s) v (sym (next_first w p s low) ∙ is)

    by : (v : Result (Option (List ℕ)) ℕ) → next_of w s p ≡ v
        → ((t : List ℕ) → next_of w s p ≡ Ok (Some t) → frame_from n w valid j b s (p + length t) (heard_at w valid j (b + p) t r) ≡ along w valid j (b + (p + length t)) (walk_of w (drop (p + length t) s)) (heard_at w valid j (b + p) t r))
        → onward v (b + p) r (λ t. frame_from n w valid j b s (p + length t) (heard_at w valid j (b + p) t r)) ≡ along w valid j (b + p) (walk_of w (drop p s)) r
    by (Err e) is more = sym (ap (λ k. along w valid j (b + p) k r) (goes (Err e) is))
    by (Ok None) is more = sym (ap (λ k. along w valid j (b + p) k r) (goes (Ok None) is))
    by (Ok (Some t)) is more =
        let there : (b + p) + length t ≡ b + (p + length t) = add_assoc b p (length t) in
        let rest : drop (length t) (drop p s) ≡ drop (p + length t) s = drop-drop (length t) p s in
        more t is
        ∙ sym (λ i. along w valid j (there i) (walk_of w (rest i)) (heard_at w valid j (b + p) t r))
        ∙ sym (ap (λ k. along w valid j (b + p) k r) (goes (Ok (Some t)) is))

pub heard : (w : ℕ) (valid : List ℕ → Bool) → Heard w valid
heard w valid j b s r =
    heard_from (suc (length s)) w valid j b s 0 r (omega arith) (omega arith)
    ∙ ap (λ p. along w valid j p (walk_of w s) r) (add-zero b)

-- a step of a walk over a frame that begins at place b, heard
abbrev pub step_heard : ℕ → (List ℕ → Bool) → ℕ → ℕ → Run → Step → Run
step_heard w valid j b r (Ok part) = heard_at w valid j (b + part.0) part.1 r
step_heard w valid j b r (Err fault) = noted r (refused_line fault.0 (b + fault.1))

by_steps : (w : ℕ) (valid : List ℕ → Bool) (j b p : ℕ) (ts : List (List ℕ)) (stop : Option ℕ) (r : Run)
    → heard_all w valid j (b + p) ts stop r ≡ fold (step_heard w valid j b) r (steps_from p ts stop)
by_steps w valid j b p [] None r = refl
by_steps w valid j b p [] (Some e) r = refl
by_steps w valid j b p (t ∷ ts) stop r =
    ap (λ q. heard_all w valid j q ts stop (heard_at w valid j (b + p) t r)) (add_assoc b p (length t))
    ∙ by_steps w valid j b (p + length t) ts stop (heard_at w valid j (b + p) t r)

-- a frame is the steps of its walk, heard
pub frame_steps : (w : ℕ) (valid : List ℕ → Bool) (j b : ℕ) (s : List ℕ) (r : Run) → frame_of w valid j b s r ≡ fold (step_heard w valid j b) r (steps_of w 0 s)
frame_steps w valid j b s r =
    heard_from (suc (length s)) w valid j b s 0 r (omega arith) (omega arith)
    ∙ by_steps w valid j b 0 (walk_of w s).found (walk_of w s).stop r

-- one step of a walk whose steps lie inside of n bytes
pub step_on : (w : ℕ) (valid : List ℕ → Bool) (j b n : ℕ) (x : Step) (xs more : List Step) (r after all : Run)
    → xs ≡ x ∷ more → after ≡ step_heard w valid j b r x
    → All (Inside n) xs × (fold (step_heard w valid j b) r xs ≡ all) → All (Inside n) more × (fold (step_heard w valid j b) after more ≡ all)
step_on w valid j b n x xs more r after all first e rest =
    (All-rest (Inside n) x more xs first rest.0, ap (λ s. fold (step_heard w valid j b) s more) e ∙ sym (ap (fold (step_heard w valid j b) r) first) ∙ rest.1)
