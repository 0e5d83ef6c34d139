-- A board is heard, one frame after the other.
use Rattle.std.proofs.Common.{◌≡◌, ltb, nat_lt, ℕ, ◌+◌, ◌-◌, ◌<◌, ◌≤◌, Bool, true, false, cond, List, [], map, length, take, drop, Some, Ok, Err, Option, Result, sym, refl, ap, ◌∙◌, subst, arith}
use Rattle.std.specs.List.{ContainsAt}
use Rattle.std.specs.Bool.{then_some}
use Rattle.std.specs.Option.{MatchOption}
use Rattle.std.proofs.lemmas.Bool.{ltb-true, ltb-false}
use Rattle.showing.specs.declared.shown.Shown.{Shown}
use Rattle.std.proofs.ByRecursion.{All-weaker, all_has_itself}
use Rattle.std.proofs.lemmas.List.{length-map, drop-map, take-map}
use Rattle.wire.specs.Frames.{Walk}
use Rattle.theory.specs.Statement.{Stmt, sends, echo, ready, have, value, seen, confirm, finish, cell}
use Rattle.replica.specs.declared.state.Replica.{Replica}
use Rattle.replica.specs.Store.{Store, fits}
use Rattle.showing.specs.Boards.{board_of}
use Rattle.showing.specs.Spoken.{spelled}
use Rattle.showing.specs.Laws.{Roomy, Shows}
use Rattle.showing.specs.Showing.{show_of}
use Rattle.showing.proofs.Standing.{Wide, Broad, broad}
use Rattle.showing.proofs.Filling.{board_only}
use Rattle.intake.proofs.Heard.{ok≢err}
use Rattle.group.specs.Weeks.{board_at, Part}

-- a statement whose entry has w bytes has three more at most
long : (w : ℕ) → 1 ≤ w → (s : Stmt (List ℕ)) → Broad w s → length (spelled s) ≤ 3 + w
long w some (sends s x) h = omega (arith, h x refl)
long w some (echo q s x) h = omega (arith, h x refl)
long w some (ready q s x) h = omega (arith, h x refl)
long w some (have q s x) h = omega (arith, h x refl)
long w some (value e k v) h = omega arith
long w some (seen e k v) h = omega arith
long w some (confirm e k u) h = omega arith
long w some (finish e v) h = omega arith

module _ (w : ℕ) (some : 1 ≤ w) (m : Replica) (t : Store) (wide : Wide w t) (out : List ℕ) (room : 3 + w ≤ length out) where
  roomy : Roomy m t out
  roomy = All-weaker (ContainsAt (board_of m t)) (λ s. length (spelled s) ≤ length out)
      (λ s h. let k = long w some s (broad w m t wide s m.set.me (cell s) (board_only m t s h)) in omega (arith, k))
      (board_of m t) (all_has_itself (board_of m t))

  module _ (law : Shows w m t) (number : ℕ) (after : List ℕ) where
    abbrev board : List (List ℕ)
    board = board_at (Some (m, t))

    -- show declines only at the end
    pub declined_end : (e : ℕ) → number ≤ length board → (Err e, after) ≡ show_of m t number out → number ≡ length board
    declined_end e = by (fits m.set.n m.set.w t) refl
      where
        by : (b : Bool) → fits m.set.n m.set.w t ≡ b → number ≤ length (cond b (map spelled (board_of m t)) []) → (Err e, after) ≡ show_of m t number out → number ≡ length (cond b (map spelled (board_of m t)) [])
        by false lent low is = omega arith
        by true lent low is =
            let a = law.answers number out lent (omega (arith, length-map (board_of m t) spelled)) roomy in
            absurd (ok≢err (ap (λ (r : Result (ℕ × ℕ) ℕ × List ℕ). r.0) (sym a.3 ∙ sym is)))

    -- it answers only where the tables are long enough
    lent_shown : (r : ℕ × ℕ) → (Ok r, after) ≡ show_of m t number out → fits m.set.n m.set.w t ≡ true
    unfolding show_of
    lent_shown r is = by (fits m.set.n m.set.w t) refl
      where
        by : (b : Bool) → fits m.set.n m.set.w t ≡ b → b ≡ true
        by true e = refl
        by false e = absurd (ok≢err (ap (λ (r : Result (ℕ × ℕ) ℕ × List ℕ). r.0) (rw e at is)))

    -- else it gets on, or stands at the end
    pub shown_on : (k next : ℕ) → length after ≡ length out → (Ok (k, next), after) ≡ show_of m t number out → number < next → Part w board number next after k
    shown_on k next size is on =
        let s = law.step number out k next after (sym is) in
        subst (λ b. Part w (cond b (map spelled (board_of m t)) []) number next after k) (sym (lent_shown (k, next) is)) (record {
          onward = on;
          within = omega (arith, s.within, length-map (board_of m t) spelled);
          room = omega (arith, s.room);
          found = ap (λ (x : Walk). x.found) s.walk ∙ sym (ap (take (next - number)) (drop-map spelled number (board_of m t)) ∙ take-map spelled (next - number) (drop number (board_of m t)));
        })

    pub shown_end : (k next : ℕ) → number ≤ length board → (Ok (k, next), after) ≡ show_of m t number out → next ≤ number → number ≡ length board
    shown_end k next there is stop =
        let s = law.step number out k next after (sym is) in
        let all : length (map spelled (board_of m t)) ≡ length (board_of m t) = length-map (board_of m t) spelled in
        let whole : board ≡ map spelled (board_of m t) = ap (λ b. cond b (map spelled (board_of m t)) []) (lent_shown (k, next) is) in
        let low : number ≤ length (board_of m t) = omega (arith, there, ap length whole, all) in
        by low (ap length whole ∙ all) s.onward
      where
        by : number ≤ length (board_of m t) → length board ≡ length (board_of m t) → (number < length (board_of m t) → number < next) → number ≡ length board
        by low same onward = at (ltb number (length (board_of m t))) refl
          where
            at : (b : Bool) → ltb number (length (board_of m t)) ≡ b → number ≡ length board
            at true e = absurd (let on = onward (ltb-true _ _ e) in omega arith)
            at false e = omega (arith, ltb-false _ _ e)

-- what a frame's end is to the loop that goes on from it
pub then_on : (w : ℕ) (board : List (List ℕ)) (number : ℕ) (after : List ℕ) (s : Shown) → (number < s.next → Part w board number s.next after s.bytes) → (s.next ≤ number → number ≡ length board)
    → (o : Option Shown) → o ≡ then_some (nat_lt number s.next) s → MatchOption o (number ≡ length board) (λ x. Part w board number x.next after x.bytes)
then_on w board number after s on end o is = subst (λ (o : Option Shown). MatchOption o (number ≡ length board) (λ x. Part w board number x.next after x.bytes)) (sym is) (at (ltb number s.next) refl)
  where
    at : (b : Bool) → ltb number s.next ≡ b → MatchOption (then_some b s) (number ≡ length board) (λ x. Part w board number x.next after x.bytes)
    at true e = on (ltb-true _ _ e)
    at false e = end (ltb-false _ _ e)
