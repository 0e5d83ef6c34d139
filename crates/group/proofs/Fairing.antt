-- A group whose boards are heard makes fair calls alone.
use Rattle.std.proofs.Common.{◌≡◌, ℕ, zero, suc, ◌<◌, Bool, true, false, cond, ◌||◌, eqb, ltb, inr, List, [], ◌∷◌, map, length, Some, fold, sym, refl, ◌∙◌, subst, arith}
use Rattle.std.specs.List.{slice_get, slice_index_or, ContainsAt, AllByRecursion}
use Rattle.std.proofs.ByRecursion.{all_has_itself}
use Rattle.std.proofs.lemmas.Bool.{ltb-true, lt-ltb}
use Rattle.theory.specs.Statement.{Stmt}
use Rattle.replica.specs.Store.{fits}
use Rattle.showing.specs.Boards.{board_of}
use Rattle.showing.specs.Spoken.{spelled}
use Rattle.intake.specs.Meaning.{Says}
use Rattle.promises.specs.Runs.{Call, hear, turns, Asked}
use Rattle.promises.specs.Promised.{Set, Honest, state, board, Shown, Authentic}
use Rattle.promises.proofs.Transferring.{fair_lending, on_box}
use Rattle.promises.proofs.Valid.{board_says}
use Rattle.promises.proofs.Typing.{says_meant}
use Rattle.group.specs.Groups.{Group, called}
use Rattle.group.specs.Weeks.{Course, everyone, accepted, board_at, heard_at, told, aired, settled}
use Rattle.group.specs.Traces.{Fairly}
use Rattle.group.proofs.Keeping.{called_other, heard_keeps, told_keeps}
use Rattle.group.proofs.Resting.{true≢false}
use Rattle.group.proofs.Tracing.{fold_holds, asked, called_after, settled_holds}

-- what is in a list's map comes from what is in the list
from_map : (xs : List (Stmt (List ℕ))) (s : List ℕ) (i : ℕ) → i < length (map spelled xs) → ((d : List ℕ) → slice_index_or (map spelled xs) i d ≡ s) → (y : Stmt (List ℕ)) × ContainsAt xs y × (spelled y ≡ s)
from_map [] s i low is = absurd (omega arith)
from_map (x ∷ xs) s zero low is = (x, (0, omega arith, λ d. refl), is [])
from_map (x ∷ xs) s (suc i) low is = let r = from_map xs s i (omega arith) is in (r.0, (suc r.1.0, (let more = r.1.1 in omega arith), r.1.2), r.2)

in_map : (b : Bool) (xs : List (Stmt (List ℕ))) (s : List ℕ) → ContainsAt (cond b (map spelled xs) []) s → (y : Stmt (List ℕ)) × ContainsAt xs y × (spelled y ≡ s)
in_map false xs s on = absurd (let low = on.1 in omega arith)
in_map true xs s on = from_map xs s on.0 on.1 on.2

-- what each step keeps for what is in a list, all of them keep
list_holds : {S X : Type 0} (f : S → X → S) (Q : X → Type 0) (P : S → Type 0) → ((s : S) (x : X) → Q x → P s → P (f s x)) → (s : S) (xs : List X) → AllByRecursion Q xs → P s → P (fold f s xs)
list_holds f Q P step s [] q r = r
list_holds f Q P step s (x ∷ xs) q r = list_holds f Q P step (f s x) xs q.1 (step s x q.0 r)

module _ (S : Set) where
  shown_now : (c : List Asked) (j : ℕ) (x : Stmt (List ℕ)) → ContainsAt (board S c j) x → Shown S c j x
  shown_now [] j x h = h
  shown_now (a ∷ c) j x h = inr h

  -- a call that is authentic, where it is one at an honest replica
  pub call_fair : (h : Group) (i : ℕ) (c : Call) (r : Fairly S h) → (Honest S i → Authentic S r.calls i c) → Fairly S (called S.kind S.coin h i c).1
  call_fair h i c r authentic = by (ltb i S.n) refl (S.honest i) refl
    where
      other : (Honest S i → ⊥) → Fairly S (called S.kind S.coin h i c).1
      other lies = record {
        calls = r.calls;
        fair = r.fair;
        ends = λ j hj. called_other S.kind S.coin h i j c (λ z. lies (subst (Honest S) (sym z) hj)) ∙ r.ends j hj;
      }

      by : (b : Bool) → ltb i S.n ≡ b → (v : Bool) → S.honest i ≡ v → Fairly S (called S.kind S.coin h i c).1
      by false e v w = other (λ hi. true≢false (sym (lt-ltb i S.n hi.0) ∙ e))
      by true e false w = other (λ hi. true≢false (sym hi.1 ∙ w))
      by true e true w =
          let hi : Honest S i = (ltb-true i S.n e, w) in
          record {
            calls = asked i c ∷ r.calls;
            fair = (r.fair, hi, authentic hi);
            ends = λ j hj. called_after S.kind S.coin S.start h i c r.calls j (r.ends j hj);
          }

  -- what stands on an honest board is shown, and says what it says there
  heard_true : (h : Group) (i j : ℕ) (s : List ℕ) (r : Fairly S h) → ContainsAt (board_at (slice_get h j)) s → Authentic S r.calls i (hear j s)
  heard_true h i j s r on = λ ok hj x says.
      let q = state S r.calls j in
      let y = in_map (fits q.0.set.n q.0.set.w q.1) (board_of q.0 q.1) s (subst (λ o. ContainsAt (board_at o) s) (r.ends j hj) on) in
      let lent = fair_lending S r.calls r.fair in
      let told = subst (λ t. Says S.kind.width S.kind.valid t y.0) y.2 (board_says S j hj r.calls lent y.0 (on_box S r.calls lent j hj y.0 y.1)) in
      let same : Some x ≡ Some y.0 = sym (says_meant S.kind s x says) ∙ says_meant S.kind s y.0 told in
      subst (Shown S r.calls j) (let e : y.0 ≡ x = cc in e) (shown_now r.calls j y.0 y.1)

  heard_fair : (j : ℕ) (s : List ℕ) (p : Course) (i : ℕ) → ContainsAt (board_at (slice_get p.1 j)) s → Fairly S p.1 → Fairly S (heard_at S.kind S.coin j s p i).1
  heard_fair j s p i on r = by (eqb i j)
    where
      by : (b : Bool) → Fairly S (cond b p (let q = called S.kind S.coin p.1 i (hear j s) in (p.0 || accepted q.0, q.1))).1
      by true = r
      by false = call_fair p.1 i (hear j s) r (λ hi. heard_true p.1 i j s r on)

  told_fair : (j : ℕ) (p : Course) (s : List ℕ) → ContainsAt (board_at (slice_get p.1 j)) s → Fairly S p.1 → Fairly S (told S.kind S.coin j p s).1
  told_fair j p s on r =
      (fold_holds (heard_at S.kind S.coin j s) (λ q. Fairly S q.1 × ContainsAt (board_at (slice_get q.1 j)) s)
      (λ q i k. (heard_fair j s q i k.1 k.0, subst (λ o. ContainsAt (board_at o) s) (sym (heard_keeps S.kind S.coin j s q i)) k.1))
      p (everyone p) (r, on)).0

  aired_fair : (p : Course) (j : ℕ) → Fairly S p.1 → Fairly S (aired S.kind S.coin p j).1
  aired_fair p j r =
      let all = board_at (slice_get p.1 j) in
      (list_holds (told S.kind S.coin j) (ContainsAt all) (λ q. Fairly S q.1 × (slice_get q.1 j ≡ slice_get p.1 j))
      (λ q s on k. (
        told_fair j q s (subst (λ o. ContainsAt (board_at o) s) (sym k.1) on) k.0,
        told_keeps S.kind S.coin j q (told S.kind S.coin j q s) (s ∷ []) refl ∙ k.1,
      ))
      p all (all_has_itself all) (r, refl)).0

  pub settled_fair : (h : Group) → Fairly S h → Fairly S (settled S.kind S.coin h)
  settled_fair h r = settled_holds S.kind S.coin (Fairly S) (λ g i k. call_fair g i turns k (λ hi. tt)) aired_fair h r
