use Rattle.std.proofs.Common.{◌≡◌, ℕ, ◌<◌, Bool, false, List, [], ◌∷◌, length, Some, None, Ok, Err, Option, Result, sym, ap, ◌∙◌, arith, rules, MatchOption, MatchResult}
use Rattle.std.specs.Result.{result_ok}
use Rattle.std.proofs.lemmas.Bool.Decides.{nat_tests}
use Rattle.entry.specs.Numbers.{within, byte, pair, word, in_pair, in_word}
use Rattle.entry.specs.Orders.{fields_of, field_bytes, order_bytes, is_gift, is_close, is_order}
use Rattle.entry.specs.declared.house.House.{House}
use Rattle.entry.specs.declared.house.UnknownHouse.{UnknownHouse}
use Rattle.entry.specs.declared.order.ShareOrder.{ShareOrder}
use Rattle.entry.specs.Bytes.{spelled, pair_back, word_back}
use Rattle.entry.proofs.orders.ShareOrderEntry.read.Goals as goal

module _ (s : List ℕ) (long : length s ≡ 9) (small : (i : ℕ) → byte s i < 256) (f : ℕ × ℕ × ℕ × ℕ)
    (kind : f.0 ≡ byte s 0) (from : f.1 ≡ pair s 1) (to : f.2 ≡ pair s 3) (amount : f.3 ≡ word s 5) where
  -- the fields that were taken out of the bytes give them back
  back : field_bytes f ≡ s
  back =
      let a = word_back s small 5 f.3 [] amount in
      let t = pair_back s small 3 f.2 (in_word f.3 []) to in
      let h = pair_back s small 1 f.1 (in_pair f.2 (in_word f.3 [])) from in
      (λ i. kind i ∷ h i) ∙ ap (λ r. byte s 0 ∷ byte s 1 ∷ byte s 2 ∷ r) (t ∙ ap (λ r. byte s 3 ∷ byte s 4 ∷ r) a)
      ∙ sym (spelled 9 s long)

  -- one kind of order was tried
  tried : (test : Bool) → (test ≡ false → is_order s ≡ false) → (r : Option ShareOrder) → MatchOption r (test ≡ false) (λ x. fields_of x ≡ f) → MatchOption r (is_order s ≡ false) (λ x. order_bytes x ≡ s)
  tried test refused None h = refused h
  tried test refused (Some x) h = ap field_bytes h ∙ back

-- the number of the house that was read
house_read :
    (r : Result House UnknownHouse) (h : House) (n : ℕ) → Some h ≡ result_ok r
    → MatchResult r (λ h. h.number ≡ n) (λ e. (e.0 ≡ n) × (within 1 999 n ≡ false)) → h.number ≡ n
house_read (Ok k) h n is e = let same : h ≡ k = cc in ap (λ h. h.number) same ∙ e
house_read (Err k) h n is e = absurd (let z : ◌≡◌ {A = ℕ} 0 1 = cc in omega arith)

no-gift : (s : List ℕ) → byte s 0 ≡ 1 → is_gift (pair s 1) (pair s 3) (word s 5) ≡ false → is_order s ≡ false
no-gift s k e = grind (arith, nat_tests)

no-close : (s : List ℕ) → byte s 0 ≡ 2 → is_close (pair s 3) (word s 5) ≡ false → is_order s ≡ false
no-close s k e = grind (arith, nat_tests)

-- the two answers stay apart: the facts of the two exits have types of their own, and a lemma for both would take
-- each fact by itself
pub returns-in-1 : goal.returns-in-1
returns-in-1 c =
    let s = c.args.s.now in
    let from = house_read _ _ _ c.in_ok-from.ensures.value c.try_from.ensures ∙ c.from_be_bytes.ensures in
    let to = c.from_be_bytes-to.ensures in
    let amount = c.from_be_bytes-amount.ensures in
    tried s (search rules) (λ i. (c.type_inv.s i).fits) _ (sym c.in-1.is) from to amount _
    (λ e. no-gift s c.in-1.is (sym (λ i. is_gift (from i) (to i) (amount i)) ∙ e)) _ c.give.ensures

pub returns-in-2 : goal.returns-in-2
returns-in-2 c =
    let s = c.args.s.now in
    let from = house_read _ _ _ c.in_ok-from.ensures.value c.try_from.ensures ∙ c.from_be_bytes.ensures in
    let to = c.from_be_bytes-to.ensures in
    let amount = c.from_be_bytes-amount.ensures in
    tried s (search rules) (λ i. (c.type_inv.s i).fits) _ (sym c.in-2.is) from to amount _
    (λ e. no-close s c.in-2.is (sym (λ i. is_close (to i) (amount i)) ∙ e)) _ c.close.ensures
