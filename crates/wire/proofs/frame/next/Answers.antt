use Rattle.std.proofs.Common.{◌≡◌, ℕ, ◌-◌, ◌<◌, ◌≤◌, true, false, cond, ltb, List, [], ◌∷◌, length, get_or, take, drop, Some, None, Ok, Option, sym, refl, ap, ◌∙◌, le_refl, arith, MatchOption, Bor}
use Rattle.std.specs.Option.{option_map, ok_or, IsSomeAnd}
use Rattle.std.specs.List.{PartBy}
use Rattle.std.proofs.lemmas.Slice.{between_to_end}
use Rattle.std.proofs.lemmas.Bool.Decides.{nat_tests}
use Rattle.common.specs.Refusals.{answered, declined}
use Rattle.common.specs.declared.refusal.Refusal.TheVariants as refusals
use Rattle.wire.specs.Letters.{known, letter_of}
use Rattle.wire.specs.Frames.{cut_of, first_of}
use Rattle.wire.specs.declared.letter.Letter.{Letter}
use Rattle.wire.proofs.Walking.{next_first, walks}
use Rattle.wire.proofs.frame.next.Goals as goal

pub returns-in_err-rest-clause-walks : goal.returns-in_err-rest-clause-walks
returns-in_err-rest-clause-walks g c = walks g.K.Entry.WIDTH c.args.frame.now

pub returns-in_default-clause-walks : goal.returns-in_default-clause-walks
returns-in_default-clause-walks g c = walks g.K.Entry.WIDTH c.args.frame.now

pub returns-in_err-try_from-clause-walks : goal.returns-in_err-try_from-clause-walks
returns-in_err-try_from-clause-walks g c = walks g.K.Entry.WIDTH c.args.frame.now

pub returns-clause-walks : goal.returns-clause-walks
returns-clause-walks g c = walks g.K.Entry.WIDTH c.args.frame.now

-- what is left of the frame, from the place on
left : (p : ℕ) (s : List ℕ) (o : Option (Bor (List ℕ))) (r : Bor (List ℕ)) → o ≡ Some r → PartBy (λ (x : Bor (List ℕ)). x.now) s p (length s) o → (p ≤ length s) × (r.now ≡ drop p s)
left p s None r is h = cc
left p s (Some q) r is h =
    let same : q ≡ r = cc in
    (h.0.0, ap (λ (x : Bor (List ℕ)). x.now) (sym same) ∙ h.0.2 ∙ between_to_end s p _ (le_refl _))

-- the letter that it begins with
begun : (w b : ℕ) (s : List ℕ) (l : Letter) → 0 < length s → b ≡ get_or s 0 0 → Ok l ≡ known (letter_of b) → first_of w s ≡ cut_of w s (Some l)
begun w b [] l some is e = absurd (omega arith)
begun w b (a ∷ s) l some is e = ap (cut_of w (a ∷ s)) (ap letter_of (sym is) ∙ named (letter_of b) e)
  where
    named : (o : Option Letter) → Ok l ≡ known o → o ≡ Some l
    named None e = cc
    named (Some k) e = cc

-- as many bytes as its length says are cut off, if there are so many
ended :
    (n : ℕ) (s : List ℕ) (o : Option (Bor (List ℕ))) (m : Option (Option (Bor (List ℕ)))) → PartBy (λ (x : Bor (List ℕ)). x.now) s 0 n o
    → MatchOption o (m ≡ None) (λ x. IsSomeAnd m (λ y. y ≡ Some x))
    → answered (option_map (λ (x : Bor (List ℕ)). x.now)) (ok_or m refusals.Short) ≡ cond (ltb (length s) n) (declined refusals.Short) (Ok (Some (take n s)))
ended n s None None h k = let a : ltb (length s) n ≡ true = grind (arith, nat_tests) in rw a refl
ended n s None (Some y) h k = absurd (let z : ◌≡◌ {A = ℕ} 0 1 = cc in omega arith)
ended n s (Some x) None h k = absurd k
ended n s (Some x) (Some y) h k =
    let a : ltb (length s) n ≡ false = (let fits = h.0.1 in grind (arith, nat_tests)) in
    let whole : n - 0 ≡ n = omega arith in
    let part = h.0.2 ∙ ap (λ k. take k s) whole in
    rw (k, a) (ap (λ t. Ok (Some t)) part)

pub returns-clause-value : goal.returns-clause-value
returns-clause-value g c =
    let w = g.K.Entry.WIDTH in
    let p = c.args.place in
    let s = c.args.frame.now in
    let rest = left p s _ _ c.in_ok-rest.ensures.ok_part c.get.ensures.lookup in
    let item = c.in-Some.ensures.item in
    let first = begun w c.in-Some.field-0.now c.in_ok-rest.rest.now _ item.3.0 (item.4 (omega arith) 0) c.in_ok-try_from.ensures in
    let cut = ended c.length-n.result c.in_ok-rest.rest.now _ _ c.get-2.ensures.lookup c.map.ensures.cases in
    ap (answered (option_map (λ (x : Bor (List ℕ)). x.now))) c.ok_or-2.ensures.value ∙ cut ∙ ap (λ n. cond (ltb (length c.in_ok-rest.rest.now) n) (declined refusals.Short) (Ok (Some (take n c.in_ok-rest.rest.now)))) c.length-n.ensures
    ∙ sym (next_first w p s rest.0 ∙ ap (first_of w) (sym rest.1) ∙ first)
