-- Parts put to a sink, one behind the other.
use Rattle.std.proofs.Common.{◌≡◌, ℕ, List, [], ◌++◌, sym, subst}

-- on the way from s to all: who puts what is left to m has put all to s
pub record Going {S : Type 0} (gives : S → List ℕ → S → Type 0) (s : S) (all : List ℕ) (m : S) (left : List ℕ) : Type 0 where
  pub goes : (t : S) → gives m left t → gives s all t

module _ {S : Type 0} {gives : S → List ℕ → S → Type 0} where
  module _ (joined : (s m t : S) (a b : List ℕ) → gives s a m → gives m b t → gives s (a ++ b) t) where
    pub then : {s m t : S} {a b : List ℕ} → gives s a m → gives m b t → gives s (a ++ b) t
    then {s} {m} {t} {a} {b} x y = joined s m t a b x y

    pub on : {s m u : S} {all left a rest : List ℕ} → left ≡ a ++ rest → Going gives s all m left → gives m a u → Going gives s all u rest
    on {m = m} {u = u} {a = a} {rest = rest} e k x = record { goes = λ t y. k.goes t (subst (λ (l : List ℕ). gives m l t) (sym e) (joined m u t a rest x y)) }

  pub over : {s m : S} {all left : List ℕ} → ((s : S) → gives s [] s) → left ≡ [] → Going gives s all m left → gives s all m
  over {m = m} nothing e k = k.goes m (subst (λ (l : List ℕ). gives m l m) (sym e) (nothing m))
