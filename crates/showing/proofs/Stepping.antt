-- What a call writes are the statements from its number up to the next.
use Rattle.std.proofs.Common.{◌≡◌, ℕ, ◌+◌, ◌-◌, ◌≤◌, Bool, true, false, ltb, List, [], ◌∷◌, ◌++◌, length, take, drop, Ok, Err, Result, sym, refl, ap, ◌∙◌, subst, arith, length-append, length-drop}
use Rattle.std.specs.List.{AllByRecursion}
use Rattle.std.proofs.ByRecursion.{All-map, All-drop}
use Rattle.std.proofs.lemmas.List.{length-map, take-map, take_at, drop_at}
use Rattle.std.proofs.lemmas.Bool.{cond_both, ltb-false, le-ltb}
use Rattle.wire.specs.Frames.{Walk, walk_of, joined, Statements, Handed}
use Rattle.wire.proofs.Walking.{cut_again, walks}
use Rattle.replica.specs.declared.state.Replica.{Replica}
use Rattle.replica.specs.Store.{Store, fits}
use Rattle.showing.specs.Boards.{board_of}
use Rattle.showing.specs.Spoken.{spelled}
use Rattle.showing.specs.Showing.{fitting, written, lay_of, from, show_of}
use Rattle.showing.specs.Laws.{parts, Roomy, Step, Answers}

abbrev Answer : Type 0
Answer = Result (ℕ × ℕ) ℕ × List ℕ

-- the bytes and the number of an answer
abbrev told : Result (ℕ × ℕ) ℕ → ℕ × ℕ
told (Ok p) = p
told (Err e) = (0, 0)

-- these are the first of all, and they have room
pub record Front (space : ℕ) (all ts : List (List ℕ)) : Type 0 where
  pub few : length ts ≤ length all
  pub first : ts ≡ take (length ts) all
  pub room : length (joined ts) ≤ space

pub fitting_front : (room : ℕ) (all : List (List ℕ)) → Front room all (fitting room all)
fitting_front room [] = record { few = omega arith; first = refl; room = omega arith }
fitting_front room (s ∷ ss) =
    let more = fitting_front (room - length s) ss in
    let ts = fitting (room - length s) ss in
    cond_both (ltb room (length s)) [] (s ∷ ts) (Front room (s ∷ ss))
    (λ _. record { few = omega arith; first = refl; room = omega arith })
    (λ e. record {
      few = omega (arith, more.few);
      first = ap (λ l. s ∷ l) more.first;
      room = omega (arith, more.room, ltb-false room (length s) e, length-append s (joined ts));
    })

-- what was written, from the answer
pub record Told (number : ℕ) (all ts : List (List ℕ)) (out : List ℕ) (k next : ℕ) (after : List ℕ) : Type 0 where
  pub size : k ≡ length (joined ts)
  pub ends : next ≡ number + length ts
  pub lies : after ≡ joined ts ++ drop k out
  pub some : 1 ≤ length all → 1 ≤ length ts

written_told :
    (number : ℕ) (all ts : List (List ℕ)) (out : List ℕ) (k next : ℕ) (after : List ℕ) → length ts ≤ length all
    → written number all ts out ≡ (Ok (k, next), after) → Told number all ts out k next after
written_told number [] [] out k next after few e =
    let b : 0 ≡ k = ap (λ (p : Answer). (told p.0).0) e in
    let c : number ≡ next = ap (λ (p : Answer). (told p.0).1) e in
    record { size = sym b; ends = sym c ∙ omega arith; lies = sym (ap (λ (p : Answer). p.1) e) ∙ ap (λ j. drop j out) b; some = λ h. h }
written_told number [] (t ∷ ts) out k next after few e = absurd (omega arith)
written_told number (s ∷ ss) [] out k next after few e = absurd (let a = ap (λ (p : Answer). p.0) e in let z : ◌≡◌ {A = ℕ} 0 1 = cc in omega arith)
written_told number (s ∷ ss) (t ∷ ts) out k next after few e =
    let b : length (joined (t ∷ ts)) ≡ k = ap (λ (p : Answer). (told p.0).0) e in
    let c : number + length (t ∷ ts) ≡ next = ap (λ (p : Answer). (told p.0).1) e in
    record { size = sym b; ends = sym c; lies = sym (ap (λ (p : Answer). p.1) e) ∙ ap (λ j. joined (t ∷ ts) ++ drop j out) b; some = λ _. omega arith }

module _ (m : Replica) (t : Store) (number : ℕ) (out : List ℕ) where
  abbrev all : List (List ℕ)
  all = from number m t

  -- an answer is of what fits
  pub answered_laid : (r : ℕ × ℕ) (after : List ℕ) → show_of m t number out ≡ (Ok r, after) → (number ≤ length (board_of m t)) × (lay_of number all out ≡ (Ok r, after))
  unfolding show_of
  answered_laid r after e = by (fits m.set.n m.set.w t) (ltb (length (board_of m t)) number) refl refl
    where
      by : (a b : Bool) → fits m.set.n m.set.w t ≡ a → ltb (length (board_of m t)) number ≡ b → (number ≤ length (board_of m t)) × (lay_of number all out ≡ (Ok r, after))
      by false b p q = absurd (let f = ap (λ (p : Answer). p.0) (rw p at e) in let z : ◌≡◌ {A = ℕ} 0 1 = cc in omega arith)
      by true true p q = absurd (let f = ap (λ (p : Answer). p.0) (rw (p, q) at e) in let z : ◌≡◌ {A = ℕ} 0 1 = cc in omega arith)
      by true false p q = (ltb-false _ _ q, rw (p, q) at e)

  pub stepped : (w k next : ℕ) (after : List ℕ) → Statements w (parts m t number next) → show_of m t number out ≡ (Ok (k, next), after) → Step w m t number out k next after
  stepped w k next after ok e =
      let a = answered_laid (k, next) after e in
      let ts = fitting (length out) all in
      let f = fitting_front (length out) all in
      let d = written_told number all ts out k next after f.few a.1 in
      let long : length all ≡ length (board_of m t) - number = length-map (drop number (board_of m t)) spelled ∙ length-drop number (board_of m t) in
      let count : length ts ≡ next - number = omega (arith, d.ends) in
      let same : ts ≡ parts m t number next = f.first ∙ ap (λ n. take n all) count ∙ take-map spelled (next - number) (drop number (board_of m t)) in
      let bytes = ap (take k) d.lies ∙ take_at (joined ts) (drop k out) k (sym d.size) ∙ ap joined same in
      let walk = ap (walk_of w) bytes ∙ cut_again (length (joined (parts m t number next))) w (parts m t number next) ok (omega arith) in
      record {
        onward = λ h. omega (arith, d.some (omega (arith, long)), d.ends);
        from = omega (arith, d.ends);
        within = omega (arith, d.ends, f.few, a.0);
        room = omega (arith, d.size, f.room);
        bytes = bytes;
        rest = ap (drop k) d.lies ∙ drop_at (joined ts) (drop k out) k (sym d.size);
        walk = walk;
        handed = subst (Handed w (take k after) 0) (ap (λ (k : Walk). k.found) walk) (walks w (take k after)).handed;
      }

  -- with room for each there is an answer
  lay_answers : (ss : List (List ℕ)) → AllByRecursion (λ s. length s ≤ length out) ss → (k : ℕ) × (next : ℕ) × (after : List ℕ) × (lay_of number ss out ≡ (Ok (k, next), after))
  lay_answers [] fit = (0, number, out, refl)
  lay_answers (s ∷ ss) fit =
      let ts = s ∷ fitting (length out - length s) ss in
      (length (joined ts), number + length ts, joined ts ++ drop (length (joined ts)) out, rw (le-ltb (length out) (length s) fit.0) refl)

  pub answers :
      fits m.set.n m.set.w t ≡ true → number ≤ length (board_of m t) → Roomy m t out → Answers m t number out
  unfolding show_of
  answers long low fit =
      let r = lay_answers all (All-map (λ s. length s ≤ length out) spelled (drop number (board_of m t)) (All-drop (λ s. length (spelled s) ≤ length out) number (board_of m t) fit)) in
      (r.0, r.1, r.2, rw (long, le-ltb (length (board_of m t)) number low) r.3)
