-- Parts put one behind the other: counted, and laid over other bytes.
use Rattle.std.specs.Prelude.{◌≡◌, ℕ, ◌+◌, ◌-◌, ◌^◌, ◌<◌, ◌≤◌, List, [], ◌++◌, length, take, drop, min}
use Rattle.std.proofs.Common.{sym, ap, ◌∙◌, append_assoc, add-zero, arith, length-append, length-drop, take-append-drop, length-take-le, drop-drop}
use Rattle.std.proofs.lemmas.List.{take_at, drop_at}
use Rattle.printing.specs.Texts.{laid, Laid}

-- a count that stops at the greatest one
pub none_counted : (n : ℕ) → n < 2 ^ 64 → n ≡ min (n + 0) (2 ^ 64 - 1)
none_counted n h = omega arith

pub both_counted : (s m t : ℕ) (a b : List ℕ)
    → (s < 2 ^ 64 → m ≡ min (s + length a) (2 ^ 64 - 1)) → (m < 2 ^ 64 → t ≡ min (m + length b) (2 ^ 64 - 1))
    → s < 2 ^ 64 → t ≡ min (s + length (a ++ b)) (2 ^ 64 - 1)
both_counted s m t a b x y h = omega (arith, length-append a b)

module _ (out a : List ℕ) (at : ℕ) (h : at + length a ≤ length out) where
  front : length (take at out ++ a) ≡ at + length a
  front = length-append (take at out) a ∙ ap (λ n. n + length a) (length-take-le at out (omega arith))

  again : laid out at a ≡ (take at out ++ a) ++ drop (at + length a) out
  again = sym (append_assoc (take at out) a (drop (at + length a) out))

  take_laid : take (at + length a) (laid out at a) ≡ take at out ++ a
  take_laid = ap (take (at + length a)) again ∙ take_at (take at out ++ a) (drop (at + length a) out) _ front

  drop_laid : (k : ℕ) → drop (at + length a + k) (laid out at a) ≡ drop (at + length a + k) out
  drop_laid k =
      sym (drop-drop k (at + length a) (laid out at a))
      ∙ ap (drop k) (ap (drop (at + length a)) again ∙ drop_at (take at out ++ a) (drop (at + length a) out) _ front)
      ∙ drop-drop k (at + length a) out

  pub length_laid : length (laid out at a) ≡ length out
  length_laid = ap length again ∙ length-append (take at out ++ a) (drop (at + length a) out) ∙ (λ i. front i + length-drop (at + length a) out i) ∙ omega arith

pub none_laid : (out : List ℕ) (at : ℕ) → at + 0 ≤ length out → Laid out at [] at out
none_laid out at h = record { fits = h; value = omega arith; after = sym (ap (λ k. take at out ++ drop k out) (add-zero at) ∙ take-append-drop at out) }

-- a part, and another behind it
pub then : {out a b mid last : List ℕ} {at m r : ℕ} → Laid out at a m mid → Laid mid m b r last → Laid out at (a ++ b) r last
then {out} {a} {b} {mid} {last} {at} {m} {r} x y =
    let long : length (a ++ b) ≡ length a + length b = length-append a b in
    let size : length mid ≡ length out = ap length x.after ∙ length_laid out a at x.fits in
    let place : m + length b ≡ at + length (a ++ b) = omega (arith, x.value) in
    record {
      fits = omega (arith, y.fits);
      value = y.value ∙ place;
      after =
          y.after
          ∙ (λ i. laid (x.after i) (x.value i) b)
          ∙ (λ i. take_laid out a at x.fits i ++ (b ++ drop_laid out a at x.fits (length b) i))
          ∙ append_assoc (take at out) a (b ++ drop (at + length a + length b) out)
          ∙ ap (λ l. take at out ++ l) (sym (append_assoc a b (drop (at + length a + length b) out)))
          ∙ ap (λ k. take at out ++ ((a ++ b) ++ drop k out)) (omega (arith, long));
    }

pub both_laid :
    {out a b mid last : List ℕ} {at m r : ℕ}
    → (at + length a ≤ length out → Laid out at a m mid) → (m + length b ≤ length mid → Laid mid m b r last)
    → at + length (a ++ b) ≤ length out → Laid out at (a ++ b) r last
both_laid {out} {a} {b} {mid} {last} {at} {m} {r} x y h =
    let long : length (a ++ b) ≡ length a + length b = length-append a b in
    let first = x (omega arith) in
    let size : length mid ≡ length out = ap length first.after ∙ length_laid out a at first.fits in
    then first (y (omega (arith, first.value)))
