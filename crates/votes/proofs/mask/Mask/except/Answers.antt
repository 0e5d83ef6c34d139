use Rattle.std.proofs.Common.{arith}
use Rattle.votes.proofs.Bitwise.{has_except}
use Rattle.votes.proofs.mask.Mask.except.Goals as goal

pub returns : goal.returns
returns c = λ j. has_except c.args.self.0 c.args.other.0 j (omega arith) (omega arith)
