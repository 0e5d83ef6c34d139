-- A file as it is printed into a buffer, whatever the buffer held.
use Rattle.std.proofs.Common.{◌≡◌, ℕ, ◌≤◌, Bool, true, false, cond, not, ltb, nat_lt, List, ◌++◌, length, drop, replicate, Ok, Err, Result, sym, refl, ap, ◌∙◌, arith, length-append}
use Rattle.std.proofs.Math.Seq.{take-append_seam}
use Rattle.std.proofs.lemmas.List.{length-replicate}
use Rattle.common.specs.Refusals.{declined}
use Rattle.common.specs.declared.refusal.Refusal.TheVariants as refusal
use Rattle.replica.specs.declared.state.Replica.{Replica}
use Rattle.replica.specs.Store.{Store, fits}
use Rattle.replica.specs.View.{book_of}
use Rattle.printing.specs.Files.{file_of, placed_of, print_of}
use Rattle.intake.proofs.Heard.{ok≢err}
use Rattle.script.specs.Scripts.{room, file_in, line_of}

-- the number of an answer
number_in : Result ℕ ℕ → ℕ
number_in (Ok k) = k
number_in (Err e) = e

-- what is placed is the file, if it fits
placed_in : (file out : List ℕ) → file_in (placed_of file out) ≡ cond (nat_lt (length out) (length file)) (line_of (declined refusal.File)) file
placed_in file out = by (ltb (length out) (length file))
  where
    by : (b : Bool) → file_in (cond b (declined refusal.File, out) (Ok (length file), file ++ drop (length file) out)) ≡ cond b (line_of (declined refusal.File)) file
    by true = refl
    by false = take-append_seam file (drop (length file) out)

module _ (heading : List ℕ) (columns : List ℕ → List ℕ) (m : Replica) (t : Store) (out : List ℕ) where
  pub file_same : (r : Result ℕ ℕ) (after : List ℕ) → length out ≡ room → (r, after) ≡ print_of heading columns m t out → file_in (r, after) ≡ file_in (print_of heading columns m t (replicate room 0))
  unfolding print_of
  file_same r after size is =
      let file = file_of heading columns m.set.n (book_of m t) in
      let none : ℕ = 0 in
      let other : length {A = ℕ} (replicate room 0) ≡ room = length-replicate room none in
      ap file_in is ∙ by (fits m.set.n m.set.w t) (placed_in file out ∙ ap (λ n. cond (nat_lt n (length file)) (line_of (declined refusal.File)) file) (size ∙ sym other) ∙ sym (placed_in file (replicate room 0)))
    where
      by : (b : Bool) → file_in (placed_of (file_of heading columns m.set.n (book_of m t)) out) ≡ file_in (placed_of (file_of heading columns m.set.n (book_of m t)) (replicate room 0))
          → file_in (cond (not b) (declined refusal.Table, out) (placed_of (file_of heading columns m.set.n (book_of m t)) out)) ≡ file_in (cond (not b) (declined refusal.Table, replicate room 0) (placed_of (file_of heading columns m.set.n (book_of m t)) (replicate room 0)))
      by true same = same
      by false same = refl

  pub file_within : (k : ℕ) (after : List ℕ) → ◌≡◌ {A = Result ℕ ℕ × List ℕ} (Ok k, after) (print_of heading columns m t out) → k ≤ length after
  unfolding print_of number_in file_of
  file_within k after is = by (not (fits m.set.n m.set.w t)) is
    where
      file : List ℕ
      file = file_of heading columns m.set.n (book_of m t)

      placed : (b : Bool) → ◌≡◌ {A = Result ℕ ℕ × List ℕ} (Ok k, after) (cond b (declined refusal.File, out) (Ok (length file), file ++ drop (length file) out)) → k ≤ length after
      placed true e = absurd (ok≢err (ap (λ (r : Result ℕ ℕ × List ℕ). r.0) e))
      placed false e =
          let same : k ≡ length file = ap (λ (r : Result ℕ ℕ × List ℕ). number_in r.0) e in
          let all : after ≡ file ++ drop (length file) out = ap (λ (r : Result ℕ ℕ × List ℕ). r.1) e in
          omega (arith, same, ap length all, length-append file (drop (length file) out))

      by : (b : Bool) → ◌≡◌ {A = Result ℕ ℕ × List ℕ} (Ok k, after) (cond b (declined refusal.Table, out) (placed_of file out)) → k ≤ length after
      by true e = absurd (ok≢err (ap (λ (r : Result ℕ ℕ × List ℕ). r.0) e))
      by false e = placed (ltb (length out) (length file)) e
