use Rattle.std.proofs.Common.{true, false, not, ◌&&◌, ◌||◌, refl, ap, ◌∙◌, ap₂}
use Rattle.votes.specs.Sets.{bit_in}
use Rattle.votes.specs.Votes.{has}
use Rattle.votes.proofs.Bitwise.{has_or, has_kept}
use Rattle.votes.proofs.Meaning.{set_told}
use Rattle.votes.proofs.marks.Marks.confirmed.Goals as goal

pub returns : goal.returns
returns c = λ j.
    let p = c.args.self in
    let z = bit_in c.args.within false in let o = bit_in c.args.within true in
    let x = has p.zero.0 j in let y = has p.one.0 j in
    let zero = has_kept c.kept-zero.result.0 p.zero.0 j (not c.holds.result) (not z) x c.kept-zero.ensures (ap not c.holds.ensures) refl in
    let one = has_kept c.kept-one.result.0 p.one.0 j (not c.holds-2.result) (not o) y c.kept-one.ensures (ap not c.holds-2.ensures) refl in
    c.except.ensures j
    ∙ ap₂ (λ a b. a && not b) (ap (λ m. has m j) c.bitor.ensures ∙ has_or p.zero.0 p.one.0 j) (ap (λ m. has m j) c.bitor-2.ensures ∙ has_or c.kept-zero.result.0 c.kept-one.result.0 j ∙ ap₂ (λ a b. a || b) zero one)
    ∙ set_told z o x y
