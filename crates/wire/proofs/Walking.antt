-- A frame is cut into its statements, and joined statements are cut apart again.
use Rattle.std.proofs.Common.{◌≡◌, ℕ, zero, suc, ◌+◌, ◌-◌, ◌<◌, ◌≤◌, Bool, true, false, cond, ltb, List, [], ◌∷◌, ◌++◌, length, take, drop, Some, None, Ok, Err, Option, Result, sym, refl, ap, ◌∙◌, subst, append_assoc, arith, length-append, length-drop, take-append-drop, length-take-le, drop-drop, ltb-false}
use Rattle.std.proofs.lemmas.List.{take_at, drop_at}
use Rattle.std.proofs.lemmas.Bool.Decides.{nat_tests}
use Rattle.common.specs.Refusals.{declined}
use Rattle.common.specs.declared.refusal.Refusal.TheVariants as refusals
use Rattle.wire.specs.Letters.{letter_of, length_of}
use Rattle.wire.specs.Statements.{Message}
use Rattle.wire.specs.Codec.{read_of, parse_of}
use Rattle.wire.specs.Frames.{cut_of, first_of, next_of, Walk, onward, walked, walk_of, joined, Statements, Handed, Walks}
use Rattle.wire.specs.declared.letter.Letter.{Letter}
use Rattle.wire.proofs.Reading.{lengths, whole_read, reading_of}

-- t is a whole statement, and s begins with it
pub record Piece (w : ℕ) (s t : List ℕ) : Type 0 where
  pub says : Message
  pub reads : parse_of w t ≡ Ok says
  pub cut : s ≡ t ++ drop (length t) s
  pub some : 1 ≤ length t

piece : (w b : ℕ) (s : List ℕ) (l : Letter) → letter_of b ≡ Some l → length_of w l ≤ length (b ∷ s) → Piece w (b ∷ s) (take (length_of w l) (b ∷ s))
piece w b s l is fits = at (length_of w l) refl (lengths w l)
  where
    at : (n : ℕ) → n ≡ length_of w l → 2 ≤ n → Piece w (b ∷ s) (take n (b ∷ s))
    at zero e h = absurd (omega arith)
    at (suc n) e h =
        let long : length (take (suc n) (b ∷ s)) ≡ suc n = length-take-le (suc n) (b ∷ s) (omega arith) in
        record {
          says = read_of l (take (suc n) (b ∷ s));
          reads = whole_read w b (take n s) l is (long ∙ e);
          cut = sym (take-append-drop (suc n) (b ∷ s)) ∙ ap (λ k. take (suc n) (b ∷ s) ++ drop k (b ∷ s)) (sym long);
          some = omega arith;
        }

-- while something is left, a statement is handed out or the frame is declined
first_some : (w b : ℕ) (s : List ℕ) (v : Option (List ℕ)) → first_of w (b ∷ s) ≡ Ok v → (t : List ℕ) × (v ≡ Some t) × Piece w (b ∷ s) t
first_some w b s v e = by_letter (letter_of b) refl
  where
    by_letter : (o : Option Letter) → letter_of b ≡ o → (t : List ℕ) × (v ≡ Some t) × Piece w (b ∷ s) t
    by_letter None is = absurd (let f = sym (ap (cut_of w (b ∷ s)) is) ∙ e in let z : ◌≡◌ {A = ℕ} 0 1 = cc in omega arith)
    by_letter (Some l) is = by_length (ltb (length (b ∷ s)) (length_of w l)) refl
      where
        cuts : cond (ltb (length (b ∷ s)) (length_of w l)) (declined refusals.Short) (Ok (Some (take (length_of w l) (b ∷ s)))) ≡ Ok v
        cuts = sym (ap (cut_of w (b ∷ s)) is) ∙ e

        by_length : (x : Bool) → ltb (length (b ∷ s)) (length_of w l) ≡ x → (t : List ℕ) × (v ≡ Some t) × Piece w (b ∷ s) t
        by_length true p = absurd (let f = rw p at cuts in let z : ◌≡◌ {A = ℕ} 0 1 = cc in omega arith)
        by_length false p = let f = rw p at cuts in (take (length_of w l) (b ∷ s), cc, piece w b s l is (ltb-false _ _ p))

pub first_piece : (w : ℕ) (s t : List ℕ) → first_of w s ≡ Ok (Some t) → Piece w s t
first_piece w [] t e = absurd (let z : ◌≡◌ {A = ℕ} 0 1 = cc in omega arith)
first_piece w (b ∷ s) t e =
    let f = first_some w b s (Some t) e in
    let same : Some t ≡ Some f.0 = f.1 in
    let is : f.0 ≡ t = cc in
    subst (Piece w (b ∷ s)) is f.2

pub first_end : (w : ℕ) (s : List ℕ) → first_of w s ≡ Ok None → s ≡ []
first_end w [] e = refl
first_end w (b ∷ s) e = absurd (let f = (first_some w b s None e).1 in let z : ◌≡◌ {A = ℕ} 0 1 = cc in omega arith)

-- what is left after the first statement has fewer bytes
pub shorter : (w : ℕ) (s t : List ℕ) → Piece w s t → length (drop (length t) s) < length s
shorter w s t p = omega (arith, ap length p.cut ∙ length-append t (drop (length t) s), p.some)

-- the walk from s on is what Walks says, but for where it begins
pub record Cut (w : ℕ) (s : List ℕ) (k : Walk) : Type 0 where
  pub whole : Statements w k.found
  pub front : s ≡ joined k.found ++ drop (length (joined k.found)) s
  pub ended : k.stop ≡ None → s ≡ joined k.found
  pub stopped : (e : ℕ) → k.stop ≡ Some e → first_of w (drop (length (joined k.found)) s) ≡ Err e

one_more : (w : ℕ) (s t : List ℕ) (k : Walk) → Piece w s t → Cut w (drop (length t) s) k → Cut w s (record { found = t ∷ k.found; stop = k.stop })
one_more w s t k p c =
    let rest = drop (length t) s in
    let js = joined k.found in
    let further : drop (length (t ++ js)) s ≡ drop (length js) rest =
    ap (λ n. drop n s) (length-append t js) ∙ sym (drop-drop (length js) (length t) s) in
    record {
      whole = ((p.says, p.reads), c.whole);
      front = p.cut ∙ ap (λ r. t ++ r) (c.front ∙ ap (λ r. js ++ r) (sym further)) ∙ sym (append_assoc t js (drop (length (t ++ js)) s));
      ended = λ e. p.cut ∙ ap (λ r. t ++ r) (c.ended e);
      stopped = λ r e. ap (first_of w) further ∙ c.stopped r e;
    }

pub cut_up : (n w : ℕ) (s : List ℕ) → length s ≤ n → Cut w s (walked n w s)
unfolding walked
cut_up zero w [] h = record { whole = tt; front = refl; ended = λ _. refl; stopped = λ r e. absurd (let z : ◌≡◌ {A = ℕ} 0 1 = cc in omega arith) }
cut_up zero w (b ∷ s) h = absurd (omega arith)
cut_up (suc n) w s h = by (first_of w s) refl (λ t p. cut_up n w (drop (length t) s) (omega (arith, shorter w s t p)))
  where
    by : (v : Result (Option (List ℕ)) ℕ) → first_of w s ≡ v → ((t : List ℕ) → Piece w s t → Cut w (drop (length t) s) (walked n w (drop (length t) s)))
        → Cut w s (onward v (λ t. walked n w (drop (length t) s)))
    by (Err r) e more = record { whole = tt; front = refl; ended = λ z. absurd (let y : ◌≡◌ {A = ℕ} 0 1 = cc in omega arith); stopped = λ q z. e ∙ cc }
    by (Ok None) e more = record { whole = tt; front = refl; ended = λ _. first_end w s e; stopped = λ q z. absurd (let y : ◌≡◌ {A = ℕ} 0 1 = cc in omega arith) }
    by (Ok (Some t)) e more = let p = first_piece w s t e in one_more w s t (walked n w (drop (length t) s)) p (more t p)

-- a whole statement is cut off from what follows it
pub first_joined : (w : ℕ) (t rest : List ℕ) (m : Message) → parse_of w t ≡ Ok m → first_of w (t ++ rest) ≡ Ok (Some t)
first_joined w t rest m e =
    let r = reading_of w t m e in
    let n : length (t ++ rest) ≡ length t + length rest = length-append t rest in
    let fits : ltb (length (t ++ rest)) (length_of w r.letter) ≡ false = (let l = r.long in grind (arith, nat_tests)) in
    ap (λ l. first_of w (l ++ rest)) r.is
    ∙ ap (λ l. cut_of w (l ++ rest) (letter_of r.first)) (sym r.is)
    ∙ ap (cut_of w (t ++ rest)) r.begins
    ∙ (rw fits (ap (λ l. Ok (Some l)) (take_at t rest (length_of w r.letter) r.long)))

pub cut_again : (n w : ℕ) (ts : List (List ℕ)) → Statements w ts → length (joined ts) ≤ n → walked n w (joined ts) ≡ record { found = ts; stop = None }
unfolding walked
cut_again zero w [] ok h = refl
cut_again (suc n) w [] ok h = refl
cut_again zero w (t ∷ ts) ok h = absurd (omega (arith, first_some_byte, length-append t (joined ts)))
  where
    first_some_byte : 1 ≤ length t
    first_some_byte = let r = reading_of w t ok.0.0 ok.0.1 in omega (arith, r.long, lengths w r.letter)
cut_again (suc n) w (t ∷ ts) ok h =
    let r = reading_of w t ok.0.0 ok.0.1 in
    let js = joined ts in
    let first = first_joined w t js ok.0.0 ok.0.1 in
    let rest : drop (length t) (t ++ js) ≡ js = drop_at t js (length t) refl in
    let more = cut_again n w ts ok.1 (omega (arith, length-append t js, r.long, lengths w r.letter)) in
    ap (λ v. onward v (λ u. walked n w (drop (length u) (t ++ js)))) first
    ∙ ap (λ (k : Walk). record { found = t ∷ k.found; stop = k.stop }) (ap (walked n w) rest ∙ more)

pub next_first : (w p : ℕ) (s : List ℕ) → p ≤ length s → next_of w s p ≡ first_of w (drop p s)
next_first w p s h = let a : ltb (length s) p ≡ false = grind (arith, nat_tests) in rw a refl

pub joined_append : (ts us : List (List ℕ)) → joined (ts ++ us) ≡ joined ts ++ joined us
joined_append [] us = refl
joined_append (t ∷ ts) us = ap (λ r. t ++ r) (joined_append ts us) ∙ sym (append_assoc t (joined ts) (joined us))

-- next hands out joined statements one by one
handed : (w p : ℕ) (s rest : List ℕ) (ts : List (List ℕ)) → Statements w ts → p ≤ length s → drop p s ≡ joined ts ++ rest → Handed w s p ts
handed w p s rest [] ok inside e = tt
handed w p s rest (t ∷ ts) ok inside e =
    let left : drop p s ≡ t ++ (joined ts ++ rest) = e ∙ append_assoc t (joined ts) rest in
    let long : length s - p ≡ length t + length (joined ts ++ rest) = sym (length-drop p s) ∙ ap length left ∙ length-append t (joined ts ++ rest) in (
      next_first w p s inside ∙ ap (first_of w) left ∙ first_joined w t (joined ts ++ rest) ok.0.0 ok.0.1,
      handed w (p + length t) s rest ts ok.1 (omega arith)
          (sym (drop-drop (length t) p s) ∙ ap (drop (length t)) left ∙ drop_at t (joined ts ++ rest) (length t) refl),
    )

pub walks : (w : ℕ) (s : List ℕ) → Walks w s
walks w s =
    let c = cut_up (length s) w s (omega arith) in
    let k = walk_of w s in
    let inside : length (joined k.found) ≤ length s = omega (arith, ap length c.front ∙ length-append (joined k.found) (drop (length (joined k.found)) s)) in
    record {
      handed = handed w 0 s (drop (length (joined k.found)) s) k.found c.whole (omega arith) c.front;
      whole = c.whole;
      front = c.front;
      ended = c.ended;
      stopped = λ r e. next_first w (length (joined k.found)) s inside ∙ c.stopped r e;
      cut = λ ts ok e.
          let again = ap (walked (length s) w) e ∙ cut_again (length s) w ts ok (omega (arith, ap length e)) in
          (ap (λ (k : Walk). k.found) again, ap (λ (k : Walk). k.stop) again);
    }

-- more steps than bytes change nothing
walked_enough : (m n w : ℕ) (s : List ℕ) → length s ≤ m → length s ≤ n → walked m w s ≡ walked n w s
unfolding walked
walked_enough zero zero w s a b = refl
walked_enough zero (suc n) w [] a b = refl
walked_enough (suc m) zero w [] a b = refl
walked_enough zero (suc n) w (x ∷ s) a b = absurd (omega arith)
walked_enough (suc m) zero w (x ∷ s) a b = absurd (omega arith)
walked_enough (suc m) (suc n) w s a b =
    by (first_of w s) refl (λ t p. walked_enough m n w (drop (length t) s) (omega (arith, shorter w s t p)) (omega (arith, shorter w s t p)))
  where
    by : (v : Result (Option (List ℕ)) ℕ) → first_of w s ≡ v
        → ((t : List ℕ) → Piece w s t → walked m w (drop (length t) s) ≡ walked n w (drop (length t) s))
        → onward v (λ t. walked m w (drop (length t) s)) ≡ onward v (λ t. walked n w (drop (length t) s))
    by (Err r) e more = refl
    by (Ok None) e more = refl
    by (Ok (Some t)) e more = ap (λ (k : Walk). record { found = t ∷ k.found; stop = k.stop }) (more t (first_piece w s t e))

-- the walk goes as its first statement says
pub walk_first : (w : ℕ) (s : List ℕ) (v : Result (Option (List ℕ)) ℕ) → first_of w s ≡ v → walk_of w s ≡ onward v (λ t. walk_of w (drop (length t) s))
unfolding walked
walk_first w s v e = walked_enough (length s) (suc (length s)) w s (omega arith) (omega arith) ∙ ap (λ v. onward v (λ t. walked (length s) w (drop (length t) s))) e ∙ by v e
  where
    by : (v : Result (Option (List ℕ)) ℕ) → first_of w s ≡ v → onward v (λ t. walked (length s) w (drop (length t) s)) ≡ onward v (λ t. walk_of w (drop (length t) s))
    by (Err r) e = refl
    by (Ok None) e = refl
    by (Ok (Some t)) e =
        ap (λ (k : Walk). record { found = t ∷ k.found; stop = k.stop })
        (walked_enough (length s) (length (drop (length t) s)) w (drop (length t) s) (omega (arith, shorter w s t (first_piece w s t e))) (omega arith))
