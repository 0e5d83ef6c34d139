use Rattle.std.proofs.Common.{◌∙◌}
use Rattle.dues.proofs.Voting.{decided_is}
use Rattle.dues.proofs.ballots.decided.Goals as goal

pub returns : goal.returns
returns c t = c.lowest.ensures ∙ decided_is c.args.replica.now t c.requires.week _ _ _ c.bit_count.ensures c.bit_count-2.ensures _ c.of.ensures c.most-enough.ensures
