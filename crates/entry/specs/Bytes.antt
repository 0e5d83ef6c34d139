-- Numbers put into bytes and taken out again.
use Rattle.std.specs.Prelude.{◌≡◌, ℕ, zero, suc, ◌+◌, ◌/◌, ◌%◌, ◌^◌, ◌<◌, ◌≤◌, true, List, [], ◌∷◌, ◌++◌, length, drop}
use Rattle.std.proofs.Common.{ap, sym, ◌∙◌, append-nil, add-zero, arith}
use Rattle.std.proofs.lemmas.List.{drop_more, drop_all}
use Rattle.std.proofs.lemmas.Bool.Decides.{nat_tests}
use Rattle.entry.specs.Numbers.{byte, pair, word, in_pair, in_word, are_octets}

pub octet_at : (s : List ℕ) → are_octets s ≡ true → (i : ℕ) → byte s i < 256
octet_at [] h i = omega arith
octet_at (b ∷ bs) h zero = grind (arith, nat_tests)
octet_at (b ∷ bs) h (suc i) = octet_at bs (grind (arith, nat_tests)) i

-- the n bytes from i on
abbrev pub spell : ℕ → ℕ → List ℕ → List ℕ
spell zero i s = []
spell (suc n) i s = byte s i ∷ spell n (i + 1) s

-- a list from i on begins with its bytes, written out
pub fronted : (n i : ℕ) (s : List ℕ) → i + n ≤ length s → drop i s ≡ spell n i s ++ drop (i + n) s
fronted zero i s h = ap (λ k. drop k s) (sym (add-zero i))
fronted (suc n) i s h =
    let at : i < length s = omega arith in
    let on : i + 1 + n ≡ i + suc n = omega arith in
    drop_more s i 0 at ∙ ap (λ r. byte s i ∷ r) (fronted n (i + 1) s (omega arith) ∙ ap (λ k. spell n (i + 1) s ++ drop k s) on)

-- a list is its bytes, written out
pub spelled : (n : ℕ) (s : List ℕ) → length s ≡ n → s ≡ spell n 0 s
spelled n s h =
    fronted n 0 s (omega arith) ∙ ap (λ r. spell n 0 s ++ r) (drop_all (0 + n) s (omega arith)) ∙ append-nil (spell n 0 s)

module _ (s : List ℕ) (small : (i : ℕ) → byte s i < 256) (i n : ℕ) (rest : List ℕ) where
  pub pair_back : n ≡ pair s i → in_pair n rest ≡ byte s i ∷ byte s (i + 1) ∷ rest
  pair_back e =
      let high : n / 256 % 256 ≡ byte s i = omega (arith, small i, small (i + 1)) in
      let low : n % 256 ≡ byte s (i + 1) = omega (arith, small i, small (i + 1)) in
      λ k. high k ∷ low k ∷ rest

  pub word_back : n ≡ word s i → in_word n rest ≡ byte s i ∷ byte s (i + 1) ∷ byte s (i + 2) ∷ byte s (i + 3) ∷ rest
  word_back e =
      let a : n / 16777216 % 256 ≡ byte s i = omega (arith, small i, small (i + 1), small (i + 2), small (i + 3)) in
      let b : n / 65536 % 256 ≡ byte s (i + 1) = omega (arith, small i, small (i + 1), small (i + 2), small (i + 3)) in
      let c : n / 256 % 256 ≡ byte s (i + 2) = omega (arith, small i, small (i + 1), small (i + 2), small (i + 3)) in
      let d : n % 256 ≡ byte s (i + 3) = omega (arith, small i, small (i + 1), small (i + 2), small (i + 3)) in
      λ k. a k ∷ b k ∷ c k ∷ d k ∷ rest

-- two numbers with the same bytes
pub pair_unique : (m n : ℕ) → m < 65536 → n < 65536 → m / 256 % 256 ≡ n / 256 % 256 → m % 256 ≡ n % 256 → m ≡ n
pair_unique m n hm hn a b = omega arith

pub word_unique :
    (m n : ℕ) → m < 2 ^ 32 → n < 2 ^ 32 → m / 16777216 % 256 ≡ n / 16777216 % 256 → m / 65536 % 256 ≡ n / 65536 % 256
    → m / 256 % 256 ≡ n / 256 % 256 → m % 256 ≡ n % 256 → m ≡ n
word_unique m n hm hn a b c d = omega arith
