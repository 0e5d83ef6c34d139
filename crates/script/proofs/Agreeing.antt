-- The theorem, for the books of a script.
use Rattle.std.proofs.Common.{◌≡◌, ℕ, ◌<◌, ◌≤◌, Bool, true, not, List, [], ◌∷◌, get_or, Some, sym, refl, ◌∙◌, subst, arith}
use Rattle.std.specs.List.{slice_get}
use Rattle.std.proofs.lemmas.Option.{slice_get-get_or}
use Rattle.common.specs.Quorums.{faults}
use Rattle.theory.specs.Count.{count}
use Rattle.promises.specs.Runs.{State, Wide}
use Rattle.promises.specs.Promised.{Set, Honest, state, Promises}
use Rattle.promises.proofs.Standing.{stands}
use Rattle.group.specs.Groups.{Group}
use Rattle.group.specs.Makings.{blank, Made}
use Rattle.group.specs.Traces.{Fairly}
use Rattle.script.specs.Scripts.{Form, read_of, Unforged, played, Plays}
use Rattle.script.specs.Writing.{Agree}

module _ (F : Form) (coin : ℕ → ℕ → Bool) (n w : ℕ) (least : 4 ≤ n) (most : n ≤ 16) (some : 1 ≤ w) (slots : w ≤ 16) (wide : Wide F.kind) (s : List ℕ) (honest : ℕ → Bool) (few : count n (λ i. not (honest i)) ≤ faults n) where
  module _ (g : Group) (d : State) (made : Made n w n g) where
    at : (i : ℕ) → i < n → slice_get g i ≡ Some (get_or g i d)
    at i low = slice_get-get_or g i d (omega (arith, made.many))

    abbrev set : Set
    set = record {
      n = n;
      w = w;
      least = least;
      most = most;
      some = some;
      slots = slots;
      kind = F.kind;
      wide = wide;
      coin = coin;
      honest = honest;
      few = few;
      start = λ i. get_or g i d;
      made = λ i low yes. (blank n w, made.fresh i (get_or g i d) (at i low));
    }

    same : (h : Group) (f : Fairly set h) (i : ℕ) (p : State) → Honest set i → slice_get h i ≡ Some p → state set f.calls i ≡ p
    same h f i p hi is = let z : Some (state set f.calls i) ≡ Some p = sym (f.ends i hi) ∙ is in cc

    agreeing : Plays F coin s g → Unforged honest (read_of F.kind.width n s).commands → (i j : ℕ) → Honest set i → Honest set j
        → (p q : State) → slice_get (played F coin s ([], g)).1 i ≡ Some p → slice_get (played F coin s ([], g)).1 j ≡ Some q → Agree p q
    agreeing plays unforged i j hi hj p q a b =
        let f : Fairly set (played F coin s ([], g)).1 = plays set refl refl (λ k hk. at k hk.0) (subst (λ m. Unforged honest (read_of F.kind.width m s).commands) (sym made.many) unforged) in
        let t : Promises set f.calls = stands set f.calls f.fair in
        let own : Agree (state set f.calls i) (state set f.calls j) = record { agreement = t.agreement i j hi hj; no_repetition = t.no_repetition i hi } in
        subst (λ x. Agree x q) (same _ f i p hi a) (subst (Agree (state set f.calls i)) (same _ f j q hj b) own)

  pub agree : (g : Group) → Made n w n g → Plays F coin s g → Unforged honest (read_of F.kind.width n s).commands
      → (i j : ℕ) → i < n → honest i ≡ true → j < n → honest j ≡ true
      → (p q : State) → slice_get (played F coin s ([], g)).1 i ≡ Some p → slice_get (played F coin s ([], g)).1 j ≡ Some q → Agree p q
  agree [] made = absurd (let none = made.many in omega arith)
  agree (d ∷ g) made = λ plays unforged i j li hi lj hj. agreeing (d ∷ g) d made plays unforged i j (li, hi) (lj, hj)
