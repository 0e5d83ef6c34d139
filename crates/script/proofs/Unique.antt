-- Groups that are as make leaves them are one group: the proofs of a set's ranges are unique.
use Rattle.std.proofs.Common.{◌≡◌, ℕ, ◌<◌, ◌≤◌, [], ◌∷◌, length, suc, Some, Ok, Result, sym, refl, ap, ◌∙◌, subst, arith}
use Rattle.std.specs.List.{slice_get}
use Rattle.std.proofs.Math.Nat.{ℕ_set}
use Rattle.std.proofs.Math.Bridge.{le_prop}
use Rattle.common.specs.Quorums.{faults, echoes}
use Rattle.replica.specs.declared.set.Set as declared
use Rattle.replica.specs.declared.state.Replica.{Replica}
use Rattle.replica.specs.Store.{Store}
use Rattle.replica.specs.Making.{Numbers, numbers, Plain, plain}
use Rattle.promises.specs.Runs.{State}
use Rattle.group.specs.Groups.{Group}
use Rattle.group.specs.Makings.{Fresh, Made}

-- the ranges of a set's numbers
record Ranges (k : Numbers) : Type 0 where
  own : k.me < k.n
  least : 4 ≤ k.n
  most : k.n ≤ 16
  some : 1 ≤ k.w
  slots : k.w ≤ 16
  faulty : k.f ≡ faults k.n
  quorum : k.q ≡ echoes k.n

ranges_same : (k : Numbers) (r s : Ranges k) → r ≡ s
ranges_same k r s = λ i. record {
  own = le_prop r.own s.own i;
  least = le_prop r.least s.least i;
  most = le_prop r.most s.most i;
  some = le_prop r.some s.some i;
  slots = le_prop r.slots s.slots i;
  faulty = ℕ_set k.f (faults k.n) r.faulty s.faulty i;
  quorum = ℕ_set k.q (echoes k.n) r.quorum s.quorum i;
}

abbrev from_ranges : (k : Numbers) → Ranges k → declared.Set
from_ranges k r = record {
  n = k.n;
  w = k.w;
  f = k.f;
  q = k.q;
  me = k.me;
  own = r.own;
  least = r.least;
  most = r.most;
  some = r.some;
  slots = r.slots;
  faulty = r.faulty;
  quorum = r.quorum;
}

abbrev ranges : (s : declared.Set) → Ranges (numbers s)
ranges s = record { own = s.own; least = s.least; most = s.most; some = s.some; slots = s.slots; faulty = s.faulty; quorum = s.quorum }

set_same : (a b : declared.Set) → numbers a ≡ numbers b → a ≡ b
set_same a b e =
    subst (λ (k : Numbers). (r : Ranges k) → a ≡ from_ranges k r) e
    (λ r. ap (from_ranges (numbers a)) (ranges_same (numbers a) (ranges a) r)) (ranges b)

abbrev from_plain : declared.Set → Plain → Replica
from_plain s p = record { set = s; epoch = p.epoch; stage = p.stage; votes = p.votes; past = p.past; heads = p.heads; pages = p.pages }

replica_same : (a b : Replica) → plain a ≡ plain b → a ≡ b
replica_same a b e = λ i. from_plain (set_same a.set b.set (ap (λ (p : Plain). p.set) e) i) (e i)

ok_same : (x y : Plain) → ◌≡◌ {A = Result Plain ℕ} (Ok x) (Ok y) → x ≡ y
ok_same x y e = cc

fresh_same : (n w i : ℕ) (p q : State) → Fresh n w i p → Fresh n w i q → p ≡ q
fresh_same n w i p q a b =
    let e : ◌≡◌ {A = Result Plain ℕ × Store} (Ok (plain p.0), p.1) (Ok (plain q.0), q.1) = a ∙ sym b in
    let m = replica_same p.0 q.0 (ok_same _ _ (ap (λ (r : Result Plain ℕ × Store). r.0) e)) in
    let t = ap (λ (r : Result Plain ℕ × Store). r.1) e in
    λ i. (m i, t i)

lists_same : (g h : Group) → length g ≡ length h → ((i : ℕ) (p q : State) → slice_get g i ≡ Some p → slice_get h i ≡ Some q → p ≡ q) → g ≡ h
lists_same [] [] e same = refl
lists_same [] (q ∷ h) e same = absurd (omega arith)
lists_same (p ∷ g) [] e same = absurd (omega arith)
lists_same (p ∷ g) (q ∷ h) e same = let first = same 0 p q refl refl in let rest = lists_same g h (omega arith) (λ i. same (suc i)) in λ i. first i ∷ rest i

pub made_same : (n w : ℕ) (g h : Group) → Made n w n g → Made n w n h → g ≡ h
made_same n w g h a b = lists_same g h (a.many ∙ sym b.many) (λ i p q x y. fresh_same n w i p q (a.fresh i p x) (b.fresh i q y))
