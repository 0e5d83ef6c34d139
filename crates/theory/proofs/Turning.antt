-- Turns 1 to 5, 7 and 8 answer what their rules say.
use Rattle.std.proofs.Common.{◌≡◌, ℕ, suc, ◌≤◌, Bool, true, Some, None, Option, sym, refl, ap, ◌∙◌, ⊎_elim, arith}
use mathlib.Core.Bool.{false≢true}
use Rattle.theory.specs.Statement.{Stmt, sends, echo, ready, have, value, seen, finish, StmtEq, Cell, at_send, at_value, cell, entry_stated}
use Rattle.theory.specs.Plan.{Plan, some_honest, most}
use Rattle.theory.specs.Machine.{Box, Holds, Board, own}
use Rattle.theory.specs.Search.{guard, bind, entry}
use Rattle.theory.specs.Turns.{told, many, backed, each_slot, echo_at, ready_at, have_at, follow, decides, second, in_values, sees}
use Rattle.theory.specs.Rules.{Heard, Unsaid, Lowest, EchoRule, ReadyRule, KeepRule, FollowRule, DecideRule, SecondRule, Values, SeenRule}
use Rattle.theory.specs.Laws.{Iff, Filed, Never, BitFirst, LowFirst, Law, SlotLaw}
use Rattle.theory.proofs.Books.{none≢some}
use Rattle.theory.proofs.Searching.{cases_option, first_none, first_some, first_hit, guard_none, guard_some, guard_true, bind_none, bind_some, bind_full, bind_empty}
use Rattle.theory.proofs.Cells.{is_true, is_yes, Sort, sort_send, sort_echo, sort_ready, sort_have, sort_seen, sort_finish, fills, of_sort, entry_held, held_entry}
use Rattle.theory.proofs.Several.{several_some, several_is}
use Rattle.theory.proofs.Answering.{law, law_like, law_first, tells_guard, tells_unless, law_bits, law_unless, law_else}

-- a rule of which there is one case at most
pub law_one : {I A : Type 0} {o : Option A} {says : I → A} {Rule : I → Type 0} → ((a : A) → o ≡ Some a → (i : I) × (a ≡ says i) × Rule i) → ((i : I) → Rule i → o ≡ Some (says i)) → Law o Never says Rule
law_one {o} f g = law {o = o} {Before = Never}
    (λ a e. let i = f a e in (i.0, i.1, (i.2, λ j b. absurd b)))
    (λ i r. g i r.0)
    (λ e i r. none≢some (sym e ∙ g i r))

module _ {X : Type 0} (P : Plan X) (B : Box X) where
  pub told_is : (j : ℕ) (s : Stmt X) → Iff (told P B j s ≡ true) (Holds B j s)
  told_is j s = (is_true (StmtEq P.eq) (B.mem j (cell s)) s, is_yes (StmtEq P.eq) (B.mem j (cell s)) s)

  pub many_is : (k : ℕ) (s : Stmt X) → Iff (many P B k s ≡ true) (Heard P B k s)
  many_is k s = several_is (λ j. told P B j s) (λ j. told_is j s) k P.size

module _ {X : Type 0} (P : Plan X) (B : Box X) (filed : Filed B.mem) where
  pub unsaid_is : {A : Type 0} {c : Cell} {st : A → Stmt X} → Sort c st → Iff (own B c ≡ None) (Unsaid P B st)
  unsaid_is {A} {c} {st} k = (
    λ e a h. none≢some (sym e ∙ rw (k.cells a) at h),
    λ n. ⊎_elim (λ e. e) (λ t. let f = of_sort B.mem filed k B.me t.0 t.1 in absurd (n f.0 f.1)) (cases_option (own B c)),
  )

  -- the first sender with an entry that k boxes have stated
  module _ {c : Cell} {heard : X → Stmt X} (kind : Sort c heard) (has : (x : X) → entry_stated (heard x) ≡ Some x) (k : ℕ) (st : X → Stmt X) where
    abbrev trial : ℕ → Option (Stmt X)
    trial i = bind (entry (B.mem i c)) (λ x. guard (many P B k (heard x)) (st x))

    trial_none : (j : ℕ) → trial j ≡ None → (y : X) → Holds B j (heard y) → Heard P B k (heard y) → ⊥
    trial_none j e y h n =
        false≢true (sym (guard_none _ _ (bind_none _ _ y e (held_entry B.mem filed kind has j y h))) ∙ (many_is P B k (heard y)).1 n)

    no_trial : (j : ℕ) → ((y : X) → Holds B j (heard y) → Heard P B k (heard y) → ⊥) → trial j ≡ None
    no_trial j n = bind_empty (entry (B.mem j c)) _ (λ y e. ⊎_elim (λ o. o)
        (λ t. absurd (n y (entry_held B.mem filed kind has j y e) ((many_is P B k (heard y)).0 (guard_some _ _ _ t.1).0)))
        (cases_option (guard (many P B k (heard y)) (st y))))

    pub backed_law : Law (backed P B k c heard st) Never st (Lowest P B k heard)
    unfolding backed
    backed_law = law_one
        (λ a e. let i = first_some P.size trial a e in
        let y = bind_some (entry (B.mem i.0 c)) _ a i.2.0 in
        let g = guard_some (many P B k (heard y.0)) (st y.0) a y.2 in (
          y.0,
          sym g.1,
          record {
            sender = i.0;
            below = i.1;
            states = entry_held B.mem filed kind has i.0 y.0 y.1;
            equally = (many_is P B k (heard y.0)).0 g.0;
            lowest = λ j l. trial_none j (i.2.1 j l);
          },
        ))
        (λ x r. first_hit P.size trial (st x) r.sender r.below (
          bind_full _ _ x (held_entry B.mem filed kind has r.sender x r.states) ∙ guard_true _ _ ((many_is P B k (heard x)).1 r.equally),
          λ j l. no_trial j (r.lowest j l),
        ))

    -- where k boxes have stated one, some entry is found
    pub lowest_some : (x : X) → 1 ≤ k → Heard P B k (heard x) → (y : X) × Lowest P B k heard y
    unfolding backed
    lowest_some x l h = ⊎_elim
        (λ e. let j = several_some _ k P.size l h in absurd (trial_none j.0 (first_none P.size trial e j.0 j.1) x j.2 h))
        (λ a. let i = backed_law.sound a.0 a.1 in (i.0, i.2.0))
        (cases_option (backed P B k c heard st))

  heard_send : (q s : ℕ) → Law (bind (entry (B.mem q (at_send s))) (λ x. Some (echo q s x))) Never (echo q s) (λ x. Holds B q (sends s x))
  heard_send q s = law_one
      (λ a e. let y = bind_some (entry (B.mem q (at_send s))) _ a e in
      (y.0, (let w : a ≡ echo q s y.0 = cc in w), entry_held B.mem filed (sort_send s) (λ x. refl) q y.0 y.1))
      (λ x h. bind_full _ _ x (held_entry B.mem filed (sort_send s) (λ x. refl) q x h))

  -- at a queue and slot
  echo_law : (q s : ℕ) → Law (echo_at P B q s) Never (echo q s) (EchoRule P B q s)
  echo_law q s = law_unless (unsaid_is (sort_echo q s)) (heard_send q s)

  ready_law : (q s : ℕ) → Law (ready_at P B q s) Never (ready q s) (ReadyRule P B q s)
  ready_law q s = law_unless (unsaid_is (sort_ready q s)) (law_else (backed_law (sort_echo q s) (λ x. refl) _ (ready q s)) (backed_law (sort_ready q s) (λ x. refl) _ (ready q s)))

  keep_law : (q s : ℕ) → Law (have_at P B q s) Never (have q s) (KeepRule P B q s)
  keep_law q s = law_unless (unsaid_is (sort_have q s)) (law_else (backed_law (sort_ready q s) (λ x. refl) _ (have q s)) (backed_law (sort_have q s) (λ x. refl) _ (have q s)))

  slot_law : (g : ℕ → ℕ → Option (Stmt X)) (st : ℕ → ℕ → X → Stmt X) (Rule : ℕ → ℕ → X → Type 0) → ((q s : ℕ) → Law (g q s) Never (st q s) (Rule q s)) → SlotLaw P B (each_slot P B g) st Rule
  slot_law g st Rule l = law_like (λ i. (λ r. (r.0, r.1.0, r.1.1), λ r. (r.0, (r.1, r.2))))
      (law_first {says = λ q i. st q i.0 i.1} P.size _ (λ q. law_first {says = st q} {Rule = Rule q} P.width _ (l q)))

  pub echoes_law : SlotLaw P B (each_slot P B (echo_at P B)) echo (EchoRule P B)
  echoes_law = slot_law (echo_at P B) echo (EchoRule P B) echo_law

  pub readies_law : SlotLaw P B (each_slot P B (ready_at P B)) ready (ReadyRule P B)
  readies_law = slot_law (ready_at P B) ready (ReadyRule P B) ready_law

  pub keeps_law : SlotLaw P B (each_slot P B (have_at P B)) have (KeepRule P B)
  keeps_law = slot_law (have_at P B) have (KeepRule P B) keep_law

  pub follow_law : Law (follow P B) BitFirst (finish B.epoch) (FollowRule P B)
  follow_law = law_unless (unsaid_is (sort_finish B.epoch)) (law_bits _ (λ v. tells_guard (finish B.epoch v) (many_is P B (some_honest P) (finish B.epoch v))))

  pub decide_law : Law (decides P B) BitFirst (λ v. v) (DecideRule P B)
  decide_law = law_bits _ (λ v. tells_guard v (many_is P B (most P) (finish B.epoch v)))

  pub value_unsaid : (e k : ℕ) (v : Bool) → Iff (own B (at_value e k v) ≡ None) (Board B (value e k v) → ⊥)
  value_unsaid e k v = (
    λ n h. none≢some (sym n ∙ h),
    λ n. ⊎_elim (λ z. z) (λ t. absurd (n (t.1 ∙ ap Some (fills B.mem filed B.me (at_value e k v) t.0 t.1)))) (cases_option (own B (at_value e k v))),
  )

  pub second_law : (r : ℕ) → Law {I = ℕ × Bool} (second P B r) (LowFirst BitFirst) (λ i. value B.epoch i.0 i.1) (λ i. SecondRule P B r i.0 i.1)
  second_law r = law_like (λ i. (λ c. (omega (arith, c.0), c.1.0, c.1.1), λ c. (omega (arith, c.0), (c.1, c.2))))
      (law_first {says = value B.epoch} (suc r) _ (λ k. law_bits {says = value B.epoch k} _
      (λ v. tells_unless (value_unsaid B.epoch k v) (tells_guard (value B.epoch k v) (many_is P B (some_honest P) (value B.epoch k v))))))

  pub values_is : (r : ℕ) (v : Bool) → Iff (in_values P B r v ≡ true) (Values P B r v)
  values_is r v = many_is P B (most P) (value B.epoch r v)

  pub see_law : (r : ℕ) → Law (sees P B r) BitFirst (seen B.epoch r) (SeenRule P B r)
  see_law r = law_unless (unsaid_is (sort_seen B.epoch r)) (law_bits _ (λ v. tells_guard (seen B.epoch r v) (values_is r v)))
