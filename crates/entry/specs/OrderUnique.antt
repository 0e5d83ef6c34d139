-- Orders are told apart by their bytes.
use Rattle.std.specs.Prelude.{◌≡◌, suc, ◌^◌, ◌<◌}
use Rattle.std.proofs.Common.{ap, arith}
use mathlib.Core.HLevel.{is_prop→PathP, ¬_prop}
use Rattle.entry.specs.Orders.{fields_of, order_bytes}
use Rattle.entry.specs.declared.gift.Gift.{Gift}
use Rattle.entry.specs.declared.order.ShareOrder.{ShareOrder}
use Rattle.entry.specs.declared.order.ShareOrder.TheVariants.{Give, Close}
use Rattle.entry.specs.Bytes.{pair_unique, word_unique}
use Rattle.entry.specs.OneHouse.{house_same, le_path}

gift_same : (a b : Gift) → a.from.number ≡ b.from.number → a.to.number ≡ b.to.number → a.amount ≡ b.amount → a ≡ b
gift_same a b f t amount =
    let from = house_same a.from b.from f in
    let to = house_same a.to b.to t in
    λ i. record {
      from = from i;
      to = to i;
      amount = amount i;
      apart = is_prop→PathP (λ k. (from k).number ≡ (to k).number → ⊥) (λ k. ¬_prop) a.apart b.apart i;
      least = le_path (λ _. 1) amount a.least b.least i;
      word = le_path (λ k. suc (amount k)) (λ _. 2 ^ 32) a.word b.word i;
    }

-- orders are told apart by their fields
same_fields : (x y : ShareOrder) → (fields_of x).0 ≡ (fields_of y).0 → (fields_of x).1 ≡ (fields_of y).1 → (fields_of x).2 ≡ (fields_of y).2 → (fields_of x).3 ≡ (fields_of y).3 → x ≡ y
same_fields (Give a) (Give b) k f t n = ap Give (gift_same a b f t n)
same_fields (Close a) (Close b) k f t n = ap Close (house_same a b f)
same_fields (Give a) (Close b) k f t n = absurd (omega arith)
same_fields (Close a) (Give b) k f t n = absurd (omega arith)

pub record Small (x : ShareOrder) : Type 0 where
  pub from : (fields_of x).1 < 65536
  pub to : (fields_of x).2 < 65536
  pub amount : (fields_of x).3 < 2 ^ 32

small : (x : ShareOrder) → Small x
small (Give g) = record { from = omega (arith, g.from.most); to = omega (arith, g.to.most); amount = g.word }
small (Close h) = record { from = omega (arith, h.most); to = omega arith; amount = omega arith }

pub order_unique : (x y : ShareOrder) → order_bytes x ≡ order_bytes y → x ≡ y
order_unique x y e =
    let a = small x in
    let b = small y in
    same_fields x y (cc)
    (pair_unique (fields_of x).1 (fields_of y).1 a.from b.from (cc) (cc))
    (pair_unique (fields_of x).2 (fields_of y).2 a.to b.to (cc) (cc))
    (word_unique (fields_of x).3 (fields_of y).3 a.amount b.amount (cc) (cc) (cc) (cc))
