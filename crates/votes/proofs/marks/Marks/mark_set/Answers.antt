use Rattle.std.proofs.Common.{◌≡◌, ℕ, true, false, sym, refl, subst, ap₂}
use Rattle.votes.specs.declared.marks.Marks.{Marks}
use Rattle.votes.specs.Sets.{bit_in}
use Rattle.votes.specs.Votes.{senders, with_set, Marked}
use Rattle.votes.proofs.Marking.{joined, marked}
use Rattle.votes.proofs.marks.Marks.mark_set.Goals as goal

pub returns : goal.returns
returns c =
    let p = c.args.self in let j = c.args.sender in
    let z = bit_in c.args.set false in let o = bit_in c.args.set true in
    let zero = joined p.zero.0 j c.bitor.result.0 c.kept.result.0 _ c.holds.result z c.requires c.bitor.ensures c.kept.ensures refl c.holds.ensures in
    let one = joined p.one.0 j c.bitor-2.result.0 c.kept-2.result.0 _ c.holds-2.result o c.requires c.bitor-2.ensures c.kept-2.ensures refl c.holds-2.ensures in
    let pair : ℕ → ℕ → Marks = λ a b. record { zero = senders a; one = senders b } in
    let e : pair c.bitor.result.0 c.bitor-2.result.0 ≡ with_set p z o j = ap₂ pair zero one in
    record { value = e; marked = subst (Marked p z o j) (sym e) (marked p z o j) }
