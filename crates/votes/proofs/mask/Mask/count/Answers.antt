use Rattle.std.proofs.Common.{◌-◌, ◌*◌, ◌%◌, ◌^◌, ap, ◌∙◌, arith}
use lib.Bits.{bit_and}
use lib.Count.{ones}
use Rattle.std.proofs.lemmas.Nat.{one_shl, and_mask}
use Rattle.votes.proofs.Bitwise.{count_cut}
use Rattle.votes.proofs.mask.Mask.count.Goals as goal

pub returns : goal.returns
returns c =
    let m = c.args.self.0 in let k = c.min.result in
    ap (λ x. ones (bit_and x (1 * 2 ^ k % 2 ^ 32 - 1))) c.from.ensures ∙ ap (λ x. ones (bit_and m (x - 1))) (one_shl k 32 (omega arith)) ∙ ap ones (and_mask m k) ∙ ap (λ x. ones (m % 2 ^ x)) c.min.ensures ∙ count_cut m c.args.n (omega arith)
