use Rattle.std.proofs.Common.{true, false, ◌||◌, ap, ◌∙◌, ap₂}
use Rattle.votes.specs.Sets.{bit_in}
use Rattle.votes.specs.Votes.{has, is_bit, bit_of}
use Rattle.votes.proofs.Bitwise.{count_same, has_or, has_kept}
use Rattle.votes.proofs.marks.Marks.seen_within.Goals as goal

pub returns : goal.returns
returns c =
    let p = c.args.self in
    c.count.ensures ∙ count_same c.args.n _ _ (λ j l.
    ap (λ m. has m j) c.bitor.ensures ∙ has_or c.kept-zero.result.0 c.kept-one.result.0 j
    ∙ ap₂ (λ a b. a || b)
    (has_kept c.kept-zero.result.0 c.told.result.0 j c.holds.result (bit_in c.args.within false) (is_bit false (bit_of p j)) c.kept-zero.ensures c.holds.ensures (c.told.ensures j))
    (has_kept c.kept-one.result.0 c.told-2.result.0 j c.holds-2.result (bit_in c.args.within true) (is_bit true (bit_of p j)) c.kept-one.ensures c.holds-2.ensures (c.told-2.ensures j)))
