-- What the board and show promise.
use Rattle.std.proofs.Common.{◌≡◌, ℕ, zero, suc, ◌+◌, ◌-◌, ◌<◌, ◌≤◌, true, ◌⊎◌, List, [], ◌∷◌, ◌++◌, map, length, take, drop, replicate, Ok, sym, refl, ap, ◌∙◌, inl, inr, arith, take_all, drop-drop, take-add}
use mathlib.Core.List.{map-append}
use Rattle.std.specs.List.{ContainsAt, AllByRecursion}
use Rattle.std.proofs.ByRecursion.{All-weaker, all_has_itself, All-take, All-drop}
use Rattle.std.proofs.lemmas.Bool.{cases_lt}
use Rattle.theory.specs.Statement.{Stmt}
use Rattle.wire.specs.Codec.{parse_of}
use Rattle.wire.specs.Frames.{joined, Statements}
use Rattle.wire.proofs.Reading.{written_read}
use Rattle.wire.proofs.Walking.{joined_append}
use Rattle.replica.specs.declared.state.Replica.{Replica}
use Rattle.replica.specs.Store.{Store, fits}
use Rattle.showing.specs.Boards.{board_of}
use Rattle.showing.specs.Spoken.{spoken, spelled}
use Rattle.showing.specs.Showing.{show_of}
use Rattle.showing.specs.Laws.{parts, Roomy, Step, Wrote, Shows}
use Rattle.showing.proofs.Standing.{Wide}
use Rattle.showing.proofs.Filling.{board_all, board_only, board_fits}
use Rattle.showing.proofs.Ranking.{board_once}
use Rattle.showing.proofs.Stepping.{stepped, answers}

-- the statements up to one number, and from there up to another
parts_joined : (m : Replica) (t : Store) (i j k : ℕ) → i ≤ j → j ≤ k → joined (parts m t i j) ++ joined (parts m t j k) ≡ joined (parts m t i k)
parts_joined m t i j k a b =
    let board = board_of m t in
    let from = drop i board in
    let past : drop j board ≡ drop (j - i) from = ap (λ n. drop n board) (omega arith) ∙ sym (drop-drop (j - i) i board) in
    let sum : k - i ≡ (j - i) + (k - j) = omega arith in
    let both : take (k - i) from ≡ take (j - i) from ++ take (k - j) (drop j board) = ap (λ n. take n from) sum ∙ take-add (j - i) (k - j) from ∙ ap (λ l. take (j - i) from ++ take (k - j) l) (sym past) in
    sym (ap (λ l. joined (map spelled l)) both ∙ ap joined (map-append spelled (take (j - i) from) (take (k - j) (drop j board))) ∙ joined_append (parts m t i j) (parts m t j k))

statements : (w : ℕ) (ss : List (Stmt (List ℕ))) → AllByRecursion (λ s. parse_of w (spelled s) ≡ Ok (spoken s)) ss → Statements w (map spelled ss)
statements w [] ok = tt
statements w (s ∷ ss) ok = ((spoken s, ok.0), statements w ss ok.1)

module _ (w : ℕ) (m : Replica) (t : Store) (wide : Wide w t) where
  read : (s : Stmt (List ℕ)) → ContainsAt (board_of m t) s → parse_of w (spelled s) ≡ Ok (spoken s)
  read s h = written_read w (spoken s) (board_fits m t s w wide h)

  -- each part is one whole statement
  readable : (i j : ℕ) → Statements w (parts m t i j)
  readable i j =
      let P : Stmt (List ℕ) → Type 0 = λ s. parse_of w (spelled s) ≡ Ok (spoken s) in
      let each = All-weaker (ContainsAt (board_of m t)) P read (board_of m t) (all_has_itself (board_of m t)) in
      statements w (take (j - i) (drop i (board_of m t))) (All-take P (j - i) (drop i (board_of m t)) (All-drop P i (board_of m t) each))

  step : (number : ℕ) (out : List ℕ) (k next : ℕ) (after : List ℕ) → show_of m t number out ≡ (Ok (k, next), after) → Step w m t number out k next after
  step number out k next after e = stepped m t number out w k next after (readable number next) e

  wrote : (outs : List (List ℕ)) (number : ℕ) (bs : List ℕ) (end : ℕ) → Wrote m t number outs bs end → (number ≤ end) × (bs ≡ joined (parts m t number end))
  wrote [] number bs end h =
      let none : end - number ≡ 0 = omega (arith, h.1) in
      (omega (arith, h.1), h.0 ∙ sym (ap (λ n. joined (map spelled (take n (drop number (board_of m t))))) none))
  wrote (out ∷ outs) number bs end (k, next, after, more, e, is, rest) =
      let s = step number out k next after e in
      let r = wrote outs next more end rest in
      (omega (arith, s.from, r.0), is ∙ (λ i. s.bytes i ++ r.1 i) ∙ parts_joined m t number next end s.from r.0)

  -- calls with room for each statement come to the end
  module _ (out : List ℕ) (long : fits m.set.n m.set.w t ≡ true) (fit : Roomy m t out) where
    abbrev Ends : ℕ → Type 0
    Ends number = (n : ℕ) × (bs : List ℕ) × Wrote m t number (replicate n out) bs (length (board_of m t))

    ended : (number : ℕ) → number ≡ length (board_of m t) → Ends number
    ended number e = (0, [], (refl, e))

    -- in so many calls at most
    reaches : (calls number : ℕ) → number ≤ length (board_of m t) → length (board_of m t) ≤ number + calls → Ends number
    reaches zero number a b = ended number (omega arith)
    reaches (suc calls) number a b = by (reaches calls) (cases_lt number (length (board_of m t)))
      where
        by : ((next : ℕ) → next ≤ length (board_of m t) → length (board_of m t) ≤ next + calls → Ends next) → (number < length (board_of m t)) ⊎ (length (board_of m t) ≤ number) → Ends number
        by more (inr h) = ended number (omega arith)
        by more (inl h) =
            let r = answers m t number out long a fit in
            let s = step number out r.0 r.1 r.2 r.3 in
            let on = s.onward h in
            let rest = more r.1 s.within (omega arith) in
            (suc rest.0, take r.0 r.2 ++ rest.1, (r.0, r.1, r.2, rest.1, r.3, refl, rest.2))

  pub shows : Shows w m t
  shows = record {
    board = record { all = board_all m t; only = board_only m t; once = board_once m t; read = read };
    step = step;
    answers = λ number out. answers m t number out;
    reaches = λ out long fit. reaches out long fit (length (board_of m t)) 0 (omega arith) (omega arith);
    whole = λ outs bs h. (wrote outs 0 bs (length (board_of m t)) h).1 ∙ ap (λ l. joined (map spelled l)) (take_all (length (board_of m t) - 0) (board_of m t) (omega arith));
  }
