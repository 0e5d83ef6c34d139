-- What a turn's rule says is due: its statement may be stated, its epoch left, its page written.
use Rattle.std.proofs.Common.{◌≡◌, ℕ, zero, suc, ◌<◌, ◌≤◌, Bool, true, false, not, ◌⊎◌, Some, None, sym, refl, ◌∙◌, inl, inr, ⊎_elim, arith}
use mathlib.Core.Bool.{false≢true}
use Rattle.std.proofs.lemmas.Bool.{leb-true, le-leb}
use Rattle.theory.specs.Statement.{Bits, only, both, Stmt, echo, ready, have, value, seen, confirm, finish, at_finish}
use Rattle.theory.specs.Plan.{Plan, Rule, some_honest, most, all_honest}
use Rattle.theory.specs.History.{Say, Next, Confirmed, Locked, Decided, Due}
use Rattle.theory.proofs.Passing.{Finds}
use Rattle.theory.specs.Machine.{Box, Holds, Board, own, says}
use Rattle.theory.specs.Turns.{told, tally, kept_at, queue, writes}
use Rattle.theory.specs.Rules.{Several, Heard, FromElse, EchoRule, ReadyRule, KeepRule, FollowRule, SecondRule, Values, SeenRule, ConfirmRule, Within, Union, CloseRule}
use Rattle.theory.proofs.Searching.{cases_option}
use Rattle.theory.proofs.Cells.{sort_echo, sort_ready, sort_have, sort_seen, sort_confirm, sort_finish, of_sort}
use Rattle.theory.proofs.Turning.{told_is, many_is, unsaid_is, value_unsaid}
use Rattle.theory.proofs.Candidates.{kept_is}
use Rattle.theory.proofs.Runs.{begun, Entered, Allowed}
use Rattle.theory.proofs.Standing.{Voiced, Sound}

pub heard_say : {X : Type 0} (R : Rule X) (B : Box X) (k : ℕ) (s : Stmt X) → Heard R.plan B k s → Say R (Holds B) k s
heard_say R B k s h = record {
  member = λ j. told R.plan B j s;
  enough = leb-true k (tally R.plan B s) ((many_is R.plan B k s).1 h);
  each = λ i is e. (told_is R.plan B i s).0 e;
}

pub heard_fewer : {X : Type 0} (P : Plan X) (B : Box X) (j k : ℕ) (s : Stmt X) → j ≤ k → Heard P B k s → Heard P B j s
heard_fewer P B j k s l h = (many_is P B j s).0 (le-leb j (tally P B s) (omega (arith, leb-true k (tally P B s) ((many_is P B k s).1 h))))

bit_apart : (v w : Bool) → (w ≡ not v → ⊥) → w ≡ v
bit_apart true true n = refl
bit_apart true false n = absurd (n refl)
bit_apart false true n = absurd (n refl)
bit_apart false false n = refl

module _ {X : Type 0} (R : Rule X) (B : Box X) (S : Sound R B) where
  -- allowed to be stated, whatever others have said; by a turn
  abbrev pub Good : Stmt X → Type 0
  Good s = Allowed R (λ j t. Unit {0}) B (says s) × Voiced s

  pub echo_good : (q s : ℕ) (x : X) → EchoRule R.plan B q s x → Good (echo q s x)
  echo_good q s x r = (((unsaid_is R.plan B S.filed (sort_echo q s)).1 r.0, λ qs. r.1, tt, tt, tt), tt)

  else_due : (k : ℕ) (st also : X → Stmt X) (x : X) → FromElse R.plan B k st also x → Say R (Holds B) k (st x) ⊎ Say R (Holds B) (some_honest R.plan) (also x)
  else_due k st also x (inl l) = inl (heard_say R B k (st x) l.equally)
  else_due k st also x (inr l) = inr (heard_say R B (some_honest R.plan) (also x) l.1.equally)

  pub ready_good : (q s : ℕ) (x : X) → q < R.plan.size → s < R.plan.width → ReadyRule R.plan B q s x → Good (ready q s x)
  ready_good q s x lq ls r = (((unsaid_is R.plan B S.filed (sort_ready q s)).1 r.0, else_due _ (echo q s) (ready q s) x r.1, tt, (lq, ls), tt), tt)

  pub keep_good : (q s : ℕ) (x : X) → q < R.plan.size → s < R.plan.width → KeepRule R.plan B q s x → Good (have q s x)
  keep_good q s x lq ls r = (((unsaid_is R.plan B S.filed (sort_have q s)).1 r.0, else_due _ (ready q s) (have q s) x r.1, tt, (lq, ls), tt), tt)

  pub follow_good : (v : Bool) → FollowRule R.plan B v → Good (finish B.epoch v)
  follow_good v r = (((unsaid_is R.plan B S.filed (sort_finish B.epoch)).1 r.0, inr (heard_say R B _ (finish B.epoch v) r.1), tt, omega arith, tt), tt)

  due_value : (e k : ℕ) (v : Bool) → Say R (Holds B) (some_honest R.plan) (value e k v) → Due R (Holds B) (value e k v)
  due_value e zero v o = o
  due_value e (suc k) v o = inr o

  pub second_good : (r : ℕ) → suc r ≤ begun R.plan.rounds B.stage → Entered B B.epoch → (k : ℕ) (v : Bool) → SecondRule R.plan B r k v → Good (value B.epoch k v)
  second_good r h n k v c = (((value_unsaid R.plan B S.filed B.epoch k v).1 c.1, due_value B.epoch k v (heard_say R B _ (value B.epoch k v) c.2), refl, omega arith, (omega (arith, c.0), n)), tt)

  pub see_good : (r : ℕ) (v : Bool) → SeenRule R.plan B r v → Good (seen B.epoch r v)
  see_good r v c = (((unsaid_is R.plan B S.filed (sort_seen B.epoch r)).1 c.0, heard_say R B _ (value B.epoch r v) c.1, refl, omega arith, tt), tt)

  pub confirm_good : (r : ℕ) (u : Bits) → ConfirmRule R.plan B r u → Good (confirm B.epoch r u)
  confirm_good r u c = (((unsaid_is R.plan B S.filed (sort_confirm B.epoch r)).1 c.unsaid, λ v i. heard_say R B _ (value B.epoch r v) (c.inside v i), refl, omega arith, tt), tt)

  -- a set within values(r), where the union of all is one bit, is that bit
  only_set : (r : ℕ) (v : Bool) → (Union R.plan B r (not v) → ⊥) → (j : ℕ) → j < R.plan.size → (u : Bits) → Within R.plan B r j u → Holds B j (confirm B.epoch r (only v))
  only_set r v n j l (only w) c = let e = bit_apart v w (λ q. n (j, l, only w, c, sym q)) in rw (sym e) c.0
  only_set r v n j l both c = absurd (n (j, l, both, c, tt))

  several_below : {φ ψ : ℕ → Type 0} (N : ℕ) → ((i : ℕ) → i < N → φ i → ψ i) → (k n : ℕ) → n ≤ N → Several k n φ → Several k n ψ
  several_below N f zero n le s = tt
  several_below N f (suc k) n le s = (s.0, s.1, f s.0 (omega (arith, s.1)) s.2, several_below N f k s.0 (omega (arith, s.1)) s.3)

  single_confirmed : (r : ℕ) (v : Bool) → (Union R.plan B r (not v) → ⊥) → Several (all_honest R.plan) R.plan.size (λ j. (u : Bits) × Within R.plan B r j u) → Confirmed R (Holds B) B.epoch r v
  single_confirmed r v n s = heard_say R B _ (confirm B.epoch r (only v)) (several_below R.plan.size (λ j l c. only_set r v n j l c.0 c.1) (all_honest R.plan) R.plan.size (omega arith) s)

  union_supported : (r : ℕ) (v : Bool) → Union R.plan B r v → Values R.plan B r v
  union_supported r v u = u.3.1 v u.4

  -- what a close states: the next value, and perhaps a finish
  abbrev pub Closing : ℕ → Bool × Bool → Type 0
  Closing r c = Next R (Holds B) B.epoch r c.0 × (c.1 ≡ true → Locked R (Holds B) B.epoch r c.0 × (own B (at_finish B.epoch) ≡ None))

  pub close_good : (r : ℕ) (c : Bool × Bool) → CloseRule R.plan B (R.coin B.epoch r) r c.0 c.1 → Closing r c
  close_good r c k = ⊎_elim
      (λ s. let o = single_confirmed r c.0 s.1 k.enough in
      (inl o, λ f. let t = s.2 f in ((sym t.0, o), (unsaid_is R.plan B S.filed (sort_finish B.epoch)).1 t.1)))
      (λ d. let v = union_supported r c.0 (either c.0 d.0 d.1) in
      (inr (d.2, heard_say R B _ (value B.epoch r c.0) v), λ f. absurd (false≢true (sym d.3 ∙ f))))
      k.settled
    where
      either : (v : Bool) → Union R.plan B r false → Union R.plan B r true → Union R.plan B r v
      either true a b = b
      either false a b = a

  pub decided_good : (v : Bool) → Heard R.plan B (most R.plan) (finish B.epoch v) → Decided R (Holds B) B.epoch v
  decided_good v h = heard_say R B (most R.plan) (finish B.epoch v) h

  abbrev pub finds_good : (p : ℕ × X) → writes R.plan B ≡ Some p → Finds R (Holds B) B.me B.epoch B.ledger
  finds_good p e = record { kept = kept_at R.plan B (queue R.plan B); stated = λ s x k. (kept_is R.plan B S.filed (queue R.plan B) s x).0 k; found = p; first = e }

  -- a box that has heard f + 1 finishes and does not follow has finished
  pub finish_stated : (v : Bool) → (FollowRule R.plan B v → ⊥) → Heard R.plan B (some_honest R.plan) (finish B.epoch v) → (u : Bool) × Board B (finish B.epoch u)
  finish_stated v n h = ⊎_elim
      (λ e. absurd (n ((unsaid_is R.plan B S.filed (sort_finish B.epoch)).0 e, h)))
      (λ t. of_sort B.mem S.filed (sort_finish B.epoch) B.me t.0 t.1)
      (cases_option (own B (at_finish B.epoch)))
