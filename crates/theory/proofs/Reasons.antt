-- In a legal history each honest statement has the rule's own reason: who followed f + 1 others followed an honest one.
use Rattle.std.proofs.Common.{◌≡◌, ℕ, zero, suc, Bool, ◌⊎◌, [], ◌∷◌, sym, refl, ap, ◌∙◌, inl, inr, arith}
use Rattle.theory.specs.Count.{Honest, Somebody}
use Rattle.theory.specs.Statement.{In, Stmt, sends, echo, ready, have, value, seen, confirm, finish, cell}
use Rattle.theory.specs.Plan.{Rule, boxes, some_honest, most}
use Rattle.theory.specs.History.{Say, Supported, Next, Locked, Due, Opens, Log, Said, Opened, Legal}
use Rattle.theory.proofs.Counting.{one}
use Rattle.theory.proofs.Growth.{say_grows, next_grows, locked_grows}

module _ {X : Type 0} (R : Rule X) (r : Log X) where
  abbrev pub Just : Stmt X → Type 0
  Just (sends s x) = Unit {0}
  Just (echo q s x) = Honest (boxes R) q → Said r q (sends s x)
  Just (ready q s x) = Say R (Said r) R.plan.quorum (echo q s x)
  Just (have q s x) = Say R (Said r) (most R.plan) (ready q s x)
  Just (value e zero v) = Somebody (boxes R) (λ i. Opened r i e v)
  Just (value e (suc k) v) = Next R (Said r) e k v
  Just (seen e k v) = Supported R (Said r) e k v
  Just (confirm e k u) = (v : Bool) → In v u → Supported R (Said r) e k v
  Just (finish e v) = (k : ℕ) × Locked R (Said r) e k v

  pub record History : Type 0 where
    pub single : (i : ℕ) → Honest (boxes R) i → (s t : Stmt X) → Said r i s → Said r i t → cell s ≡ cell t → s ≡ t
    pub just : (i : ℕ) → Honest (boxes R) i → (s : Stmt X) → Said r i s → Just s

module _ {X : Type 0} (R : Rule X) (r : Log X) (h : History R r) where
  as_others : (s : Stmt X) → Say R (Said r) (some_honest R.plan) s → Just R r s
  as_others s o = let n = one (omega arith) o in h.just n.who n.is s n.has

  due_just : (s : Stmt X) → Due R (Said r) s → Just R r s
  due_just (sends s x) d = tt
  due_just (echo q s x) d = d
  due_just (ready q s x) (inl o) = o
  due_just (ready q s x) (inr o) = as_others (ready q s x) o
  due_just (have q s x) (inl o) = o
  due_just (have q s x) (inr o) = as_others (have q s x) o
  due_just (value e zero v) o = as_others (value e zero v) o
  due_just (value e (suc k) v) (inl o) = o
  due_just (value e (suc k) v) (inr o) = as_others (value e (suc k) v) o
  due_just (seen e k v) d = d
  due_just (confirm e k u) d = d
  due_just (finish e v) (inl o) = o
  due_just (finish e v) (inr o) = as_others (finish e v) o

  module _ (j : ℕ) (st : Stmt X) where
    more : (i : ℕ) → Honest (boxes R) i → (s : Stmt X) → Said r i s → Said ((j, st) ∷ r) i s
    more i is s a = inl a

    just_grows : (s : Stmt X) → Just R r s → Just R ((j, st) ∷ r) s
    just_grows (sends s x) g = tt
    just_grows (echo q s x) g = λ is. inl (g is)
    just_grows (ready q s x) g = say_grows R (Said r) (Said ((j, st) ∷ r)) more _ _ g
    just_grows (have q s x) g = say_grows R (Said r) (Said ((j, st) ∷ r)) more _ _ g
    just_grows (value e zero v) g = record { who = g.who; is = g.is; has = inl g.has }
    just_grows (value e (suc k) v) g = next_grows R (Said r) (Said ((j, st) ∷ r)) more e k v g
    just_grows (seen e k v) g = say_grows R (Said r) (Said ((j, st) ∷ r)) more _ _ g
    just_grows (confirm e k u) g = λ v is. say_grows R (Said r) (Said ((j, st) ∷ r)) more _ _ (g v is)
    just_grows (finish e v) g = locked_grows R (Said r) (Said ((j, st) ∷ r)) more e v g

    -- an opening is its own reason
    opens_just : Honest (boxes R) j → (s : Stmt X) → st ≡ s → Opens (Said r) j s → Just R ((j, st) ∷ r) s
    opens_just js (sends s x) e o = absurd o
    opens_just js (echo q s x) e o = absurd o
    opens_just js (ready q s x) e o = absurd o
    opens_just js (have q s x) e o = absurd o
    opens_just js (value n zero v) e o = record { who = j; is = js; has = inr (refl, sym e, o) }
    opens_just js (value n (suc k) v) e o = absurd o
    opens_just js (seen n k v) e o = absurd o
    opens_just js (confirm n k u) e o = absurd o
    opens_just js (finish n v) e o = absurd o

    reason : Honest (boxes R) j → Due R (Said r) st ⊎ Opens (Said r) j st → Just R ((j, st) ∷ r) st
    reason js (inl d) = just_grows st (due_just st d)
    reason js (inr o) = opens_just js st refl o

    module _ (ok : Honest (boxes R) j → ((s : Stmt X) → Said r j s → cell s ≡ cell st → ⊥) × (Due R (Said r) st ⊎ Opens (Said r) j st)) where
      still_single : (i : ℕ) → Honest (boxes R) i → (s t : Stmt X) → Said ((j, st) ∷ r) i s → Said ((j, st) ∷ r) i t → cell s ≡ cell t → s ≡ t
      still_single i is s t (inl a) (inl c) e = h.single i is s t a c e
      still_single i is s t (inl a) (inr c) e = absurd ((ok (rw c.0 at is)).0 s (rw c.0 at a) (e ∙ ap cell c.1))
      still_single i is s t (inr a) (inl c) e = absurd ((ok (rw a.0 at is)).0 t (rw a.0 at c) (sym e ∙ ap cell a.1))
      still_single i is s t (inr a) (inr c) e = cc

      still_just : (i : ℕ) → Honest (boxes R) i → (s : Stmt X) → Said ((j, st) ∷ r) i s → Just R ((j, st) ∷ r) s
      still_just i is s (inl a) = just_grows s (h.just i is s a)
      still_just i is s (inr a) = rw a.1 (reason (rw a.0 at is) (ok (rw a.0 at is)).1)

      pub states : History R ((j, st) ∷ r)
      states = record { single = still_single; just = still_just }

pub history : {X : Type 0} (R : Rule X) (r : Log X) → Legal R r → History R r
history R [] l = record { single = λ i is s t a c e. absurd a; just = λ i is s a. absurd a }
history R (p ∷ r) l = states R r (history R r l.0) p.0 p.1 l.1
