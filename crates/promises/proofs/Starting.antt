-- A replica as make left it is whole, and the theory's box as it begins.
use Rattle.std.proofs.Common.{◌≡◌, ℕ, Bool, true, false, cond, length, get_or, take, Ok, Err, Result, sym, refl, ap, ◌∙◌, subst, arith}
use Rattle.common.specs.Limits.{most_replicas}
use Rattle.common.specs.Refusals.{declined}
use Rattle.common.specs.declared.refusal.Refusal.TheVariants.{Table}
use Rattle.theory.specs.Machine.{made}
use Rattle.replica.specs.declared.state.Replica.{Replica}
use Rattle.replica.specs.declared.state.Stage.TheVariants.{Unopened}
use Rattle.replica.specs.Store.{Store, fits, cleared, Wiped}
use Rattle.replica.specs.View.{leading, box}
use Rattle.replica.specs.Making.{Numbers, numbers, Plain, plain, set_for, fresh, begun, make_of}
use Rattle.replica.proofs.Wiping.{wiped}
use Rattle.replica.proofs.Freshness.{all_same, accepted_numbers, fresh_begins}
use Rattle.intake.proofs.Heard.{ok≢err}
use Rattle.turns.specs.Ties.{Whole}

-- what an accepted make tells
pub record Begun (n i w : ℕ) (m : Replica) (t : Store) : Type 0 where
  pub set : Numbers
  pub is_set : Ok set ≡ set_for n i w
  pub fresh : plain m ≡ fresh set
  pub before : Store
  pub long : fits n w before ≡ true
  pub wiped : Wiped n w before t

module _ (n i w : ℕ) (m : Replica) (t before : Store) where
  by_length : (s : Numbers) → Ok s ≡ set_for n i w → (b : Bool) → fits n w before ≡ b → ◌≡◌ {A = Result Plain ℕ × Store} (Ok (plain m), t) (cond b (Ok (fresh s), cleared n w before) (declined Table, before)) → Begun n i w m t
  by_length s h true l e =
      let f : ◌≡◌ {A = Result Plain ℕ} (Ok (plain m)) (Ok (fresh s)) = ap (λ (p : Result Plain ℕ × Store). p.0) e in
      record { set = s; is_set = h; fresh = cc; before = before; long = l; wiped = subst (Wiped n w before) (sym (ap (λ (p : Result Plain ℕ × Store). p.1) e)) (wiped n w before l) }
  by_length s h false l e = absurd (ok≢err (ap (λ (p : Result Plain ℕ × Store). p.0) e))

  by_set : (r : Result Numbers ℕ) → set_for n i w ≡ r → ◌≡◌ {A = Result Plain ℕ × Store} (Ok (plain m), t) (begun n w r before) → Begun n i w m t
  by_set (Ok s) h e = by_length s (sym h) (fits n w before) refl e
  by_set (Err k) h e = absurd (ok≢err (ap (λ (p : Result Plain ℕ × Store). p.0) e))

  pub begins_made : (Ok (plain m), t) ≡ make_of n i w before → Begun n i w m t
  unfolding make_of
  begins_made e = by_set (set_for n i w) refl e

-- tables that were wiped are as long as they were
fits_wiped : (n w : ℕ) (before t : Store) → Wiped n w before t → fits n w before ≡ true → fits n w t ≡ true
fits_wiped n w before t x h = rw (x.sends.long, x.echoes.long, x.readies.long, x.haves.long, x.pages.long) h

module _ (n i w : ℕ) (m : Replica) (t : Store) (b : Begun n i w m t) where
  pub set_is : numbers m.set ≡ b.set
  set_is = ap (λ (p : Plain). p.set) b.fresh

  pub whole_made : Whole m t
  whole_made =
      let k = set_is ∙ accepted_numbers n i w b.set b.is_set in
      let en : m.set.n ≡ n = ap (λ (x : Numbers). x.n) k in
      let ew : m.set.w ≡ w = ap (λ (x : Numbers). x.w) k in
      let none : m.pages ≡ 0 = ap (λ (p : Plain). p.pages) b.fresh in
      record {
        sized = (fresh_begins m n i w b.set b.before t b.fresh b.is_set b.wiped).1;
        past = ap (λ (p : Plain). length p.past) b.fresh;
        heads = ap (λ (p : Plain). length p.heads) b.fresh;
        lent = (λ z. fits (en z) (ew z) t) ∙ fits_wiped n w b.before t b.wiped b.long;
        week = omega (arith, ap (λ (p : Plain). p.epoch) b.fresh);
        round = λ r d e. absurd (let u : m.stage ≡ Unopened = ap (λ (p : Plain). p.stage) b.fresh in let z : ◌≡◌ {A = ℕ} 0 1 = cc in omega arith);
        filled = ap (λ k. length (leading (take k t.pages))) none ∙ sym none;
        low = λ q. omega (arith, ap (λ (p : Plain). get_or p.heads q 0) b.fresh, all_same {A = ℕ} most_replicas 0 q);
        room = omega (arith, none);
      }

  pub box_made : box m t ≡ made i
  box_made = (fresh_begins m n i w b.set b.before t b.fresh b.is_set b.wiped).0
