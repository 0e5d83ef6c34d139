use Rattle.std.proofs.Common.{◌≡◌, ℕ, Bool, true, false, ◌&&◌, leb, ap, ◌∙◌, ap₂}
use lib.Bits.{bit_and}
use Rattle.theory.specs.Count.{count}
use Rattle.theory.specs.Turns.{set_of}
use Rattle.votes.specs.Sets.{bit_in}
use Rattle.votes.specs.Votes.{has, union_has}
use Rattle.votes.proofs.Bitwise.{count_same, has_and}
use Rattle.votes.proofs.Meaning.{zero_joined, one_joined}
use Rattle.votes.proofs.marks.Marks.union.Goals as goal

-- whether anybody is in two masks at once, of whom the test tells
anybody : (n k m a b : ℕ) (is : ℕ → Bool) → k ≡ count n (has m) → m ≡ bit_and a b → ((j : ℕ) → (has a j && has b j) ≡ is j) → leb 1 k ≡ leb 1 (count n is)
anybody n k m a b is counted e told = ap (leb 1) (counted ∙ count_same n _ _ (λ j l. ap (λ x. has x j) e ∙ has_and a b j ∙ told j))

pub returns : goal.returns
returns c =
    let p = c.args.self in let n = c.args.n in let w = c.confirmed-confirmed in
    let z = bit_in c.args.within false in let o = bit_in c.args.within true in
    let zero : leb 1 c.count.result ≡ union_has p z o n false =
    anybody n _ _ w.result.0 p.zero.0 _ c.count.ensures c.bitand.ensures (λ j. ap (λ b. b && has p.zero.0 j) (w.ensures j) ∙ zero_joined z o (has p.zero.0 j) (has p.one.0 j)) in
    let one : leb 1 c.count-2.result ≡ union_has p z o n true =
    anybody n _ _ w.result.0 p.one.0 _ c.count-2.ensures c.bitand-2.ensures (λ j. ap (λ b. b && has p.one.0 j) (w.ensures j) ∙ one_joined z o (has p.zero.0 j) (has p.one.0 j)) in
    c.of.ensures ∙ ap₂ set_of zero one
