-- Readings are told apart by their bytes.
use Rattle.std.specs.Prelude.{◌≡◌, suc, ◌^◌, refl}
use Rattle.std.proofs.Common.{arith}
use Rattle.entry.specs.Readings.{quantity_of, reading_bytes}
use Rattle.entry.specs.declared.quantity.Quantity.{Quantity}
use Rattle.entry.specs.declared.quantity.Quantity.TheVariants.{Heat, Water, Carbon}
use Rattle.entry.specs.declared.reading.Reading.{Reading}
use Rattle.entry.specs.Bytes.{pair_unique, word_unique}
use Rattle.entry.specs.OneHouse.{house_same, le_path}

quantity_unique : (p q : Quantity) → quantity_of p ≡ quantity_of q → p ≡ q
quantity_unique Heat Heat e = refl
quantity_unique Heat Water e = absurd (omega arith)
quantity_unique Heat Carbon e = absurd (omega arith)
quantity_unique Water Heat e = absurd (omega arith)
quantity_unique Water Water e = refl
quantity_unique Water Carbon e = absurd (omega arith)
quantity_unique Carbon Heat e = absurd (omega arith)
quantity_unique Carbon Water e = absurd (omega arith)
quantity_unique Carbon Carbon e = refl

pub reading_unique : (x y : Reading) → reading_bytes x ≡ reading_bytes y → x ≡ y
reading_unique x y e =
    let number = pair_unique x.house.number y.house.number (omega (arith, x.house.most)) (omega (arith, y.house.most)) (cc) (cc) in
    let house = house_same x.house y.house number in
    let week : x.week ≡ y.week = cc in
    let quantity = quantity_unique x.quantity y.quantity (cc) in
    let amount = word_unique x.amount y.amount x.word y.word (cc) (cc) (cc) (cc) in
    λ i. record {
      house = house i;
      week = week i;
      quantity = quantity i;
      amount = amount i;
      least = le_path (λ _. 1) week x.least y.least i;
      most = le_path week (λ _. 53) x.most y.most i;
      word = le_path (λ k. suc (amount k)) (λ _. 2 ^ 32) x.word y.word i;
    }
