use Rattle.std.proofs.Common.{sym, refl, ◌∙◌, arith}
use Rattle.std.proofs.lemmas.Bool.{le-ltb}
use Rattle.votes.specs.Votes.{has}
use Rattle.votes.proofs.Bitwise.{has_past}
use Rattle.votes.proofs.mask.Mask.contains.Goals as goal

pub returns-then-sender-lt16 : goal.returns-then-sender-lt16
unfolding has
returns-then-sender-lt16 c = refl

pub returns-else-sender-lt16 : goal.returns-else-sender-lt16
returns-else-sender-lt16 c = le-ltb c.args.sender 16 c.if-sender-lt16.false ∙ sym (has_past c.args.self.0 c.args.sender (omega arith) c.if-sender-lt16.false)
