-- What follows of every legal history: readies, haves, values after a lock, finishes and decided bits agree.
use Rattle.std.proofs.Common.{◌≡◌, ℕ, zero, suc, ◌<◌, Bool, ◌⊎◌, sym, refl, ◌∙◌, inl, inr, arith}
use Rattle.std.proofs.lemmas.Bool.{cases_order}
use Rattle.theory.specs.Count.{Honest, Somebody}
use Rattle.theory.specs.Statement.{only, sends, echo, ready, have, value, confirm, finish}
use Rattle.theory.specs.Plan.{Rule, boxes}
use Rattle.theory.specs.History.{Say, Supported, Confirmed, Next, Locked, Decided, Log, Said, Opened, Vouches, Agreement}
use Rattle.theory.proofs.Counting.{one, two_echoes, two_most}
use Rattle.theory.proofs.Reasons.{History, history}

module _ {X : Type 0} {R : Rule X} {r : Log X} (h : History R r) where
  -- Q echoes for one entry of a slot, and Q for another: the entries are equal
  echoed_same : (q s : ℕ) (x y : X) → Say R (Said r) R.plan.quorum (echo q s x) → Say R (Said r) R.plan.quorum (echo q s y) → x ≡ y
  echoed_same q s x y o u =
      let n = two_echoes o u in
      let e = h.single n.who n.is (echo q s x) (echo q s y) n.has.0 n.has.1 refl in
      cc

  -- behind every ready and every have of an honest box stand Q echoes
  vouched_echoed : (i q s : ℕ) (x : X) → Honest (boxes R) i → Vouches R r i q s x → Say R (Said r) R.plan.quorum (echo q s x)
  vouched_echoed i q s x is (inl a) = h.just i is (ready q s x) a
  vouched_echoed i q s x is (inr a) =
      let n = one (omega arith) (h.just i is (have q s x) a) in
      h.just n.who n.is (ready q s x) n.has

  pub vouched_same : (i j q s : ℕ) (x y : X) → Honest (boxes R) i → Honest (boxes R) j → Vouches R r i q s x → Vouches R r j q s y → x ≡ y
  vouched_same i j q s x y is js a c = echoed_same q s x y (vouched_echoed i q s x is a) (vouched_echoed j q s y js c)

  pub kept_sent : (i q s : ℕ) (x : X) → Honest (boxes R) i → Honest (boxes R) q → Said r i (have q s x) → Said r q (sends s x)
  kept_sent i q s x is qs a =
      let n = one (omega (arith, R.room, R.cross)) (vouched_echoed i q s x is (inr a)) in
      h.just n.who n.is (echo q s x) n.has qs

  -- what is confirmed alone is supported
  confirmed_supported : (e k : ℕ) (u : Bool) → Confirmed R (Said r) e k u → Supported R (Said r) e k u
  confirmed_supported e k u o =
      let n = one (omega (arith, R.room)) o in
      h.just n.who n.is (confirm e k (only u)) n.has u refl

  next_supported : (e k : ℕ) (u : Bool) → Next R (Said r) e k u → Supported R (Said r) e k u
  next_supported e k u (inl o) = confirmed_supported e k u o
  next_supported e k u (inr p) = p.1

  confirmed_same : (e k : ℕ) (u v : Bool) → Confirmed R (Said r) e k u → Confirmed R (Said r) e k v → u ≡ v
  confirmed_same e k u v o p =
      let n = two_most o p in
      let c = h.single n.who n.is (confirm e k (only u)) (confirm e k (only v)) n.has.0 n.has.1 refl in
      cc

  -- every honest value of round k is v
  abbrev AllAre : ℕ → ℕ → Bool → Type 0
  AllAre e k v = (i : ℕ) → Honest (boxes R) i → (u : Bool) → Said r i (value e k u) → u ≡ v

  supported_is : (e k : ℕ) (u v : Bool) → AllAre e k v → Supported R (Said r) e k u → u ≡ v
  supported_is e k u v all o = let n = one (omega arith) o in all n.who n.is u n.has

  next_locked : (e k : ℕ) (u v : Bool) → Locked R (Said r) e k v → Next R (Said r) e k u → u ≡ v
  next_locked e k u v l (inl o) = confirmed_same e k u v o l.1
  next_locked e k u v l (inr p) = p.0 ∙ l.0

  -- a lock in round n fixes the honest values of all later rounds
  pub lock_fixes : (e n : ℕ) (v : Bool) → Locked R (Said r) e n v → (k : ℕ) → n < k → AllAre e k v
  lock_fixes e n v l zero lt i is u said = absurd (omega arith)
  lock_fixes e n v l (suc k) lt i is u said = at (cases_order n k) (lock_fixes e n v l k)
    where
      next : Next R (Said r) e k u
      next = h.just i is (value e (suc k) u) said

      at : (n ≡ k) ⊎ ((n < k) ⊎ (k < n)) → (n < k → AllAre e k v) → u ≡ v
      at (inl eq) ih = next_locked e k u v (rw eq at l) next
      at (inr (inl less)) ih = supported_is e k u v (ih less) (next_supported e k u next)
      at (inr (inr more)) ih = absurd (omega arith)

  later_same : (e n k : ℕ) (u v : Bool) → n < k → Locked R (Said r) e n u → Locked R (Said r) e k v → v ≡ u
  later_same e n k u v lt l m = supported_is e k v u (lock_fixes e n u l k lt) (confirmed_supported e k v m.1)

  locked_same : (e n k : ℕ) (u v : Bool) → Locked R (Said r) e n u → Locked R (Said r) e k v → u ≡ v
  locked_same e n k u v l m = at (cases_order n k)
    where
      at : (n ≡ k) ⊎ ((n < k) ⊎ (k < n)) → u ≡ v
      at (inl eq) = let o : Locked R (Said r) e k u = rw eq at l in confirmed_same e k u v o.1 m.1
      at (inr (inl less)) = sym (later_same e n k u v less l m)
      at (inr (inr more)) = later_same e k n v u more m l

  pub finish_same : (i j e : ℕ) (u v : Bool) → Honest (boxes R) i → Honest (boxes R) j → Said r i (finish e u) → Said r j (finish e v) → u ≡ v
  finish_same i j e u v is js a c =
      let l = h.just i is (finish e u) a in
      let m = h.just j js (finish e v) c in
      locked_same e l.0 m.0 u v l.1 m.1

  -- an honest finish is what is decided
  pub decided_is : (i e : ℕ) (u v : Bool) → Honest (boxes R) i → Said r i (finish e u) → Decided R (Said r) e v → u ≡ v
  decided_is i e u v is a o = let n = one (omega arith) o in finish_same i n.who e u v is n.is a n.has

  pub decided_same : (e : ℕ) (u v : Bool) → Decided R (Said r) e u → Decided R (Said r) e v → u ≡ v
  decided_same e u v o p = let n = one (omega arith) o in decided_is n.who e u v n.is n.has p

  -- down the rounds, an honest value was some honest box's opening bit
  supported_opened : (e k : ℕ) (v : Bool) → Supported R (Said r) e k v → Somebody (boxes R) (λ i. Opened r i e v)
  supported_opened e zero v o = let n = one (omega arith) o in h.just n.who n.is (value e 0 v) n.has
  supported_opened e (suc k) v o =
      let n = one (omega arith) o in
      supported_opened e k v (next_supported e k v (h.just n.who n.is (value e (suc k) v) n.has))

  pub decided_opened : (e : ℕ) (v : Bool) → Decided R (Said r) e v → Somebody (boxes R) (λ i. Opened r i e v)
  decided_opened e v o =
      let n = one (omega arith) o in
      let l = h.just n.who n.is (finish e v) n.has in
      supported_opened e l.0 v (confirmed_supported e l.0 v l.1.1)

pub agreement : (X : Type 0) → Agreement X
agreement X R r l =
    let h = history R r l in
    record {
      vouched = vouched_same h;
      sent = kept_sent h;
      locked = λ e n k i u v l lt is a. lock_fixes h e n v l k lt i is u a;
      finished = finish_same h;
      decided = decided_same h;
      opened = decided_opened h;
    }
