use Rattle.std.proofs.Common.{◌*◌, ap, ◌∙◌}
use Rattle.dues.proofs.Voting.{values_is}
use Rattle.dues.proofs.Unmarked.{in_a_round, no_values}
use Rattle.dues.proofs.rounds.values_in.Goals as goal

pub returns-clause-value : goal.returns-clause-value
returns-clause-value c t = c.of.ensures ∙ values_is c.args.replica.now t c.requires.week c.args.round c.votes_in.result c.votes_in.ensures.value c.votes_in.ensures.past _ _ _ c.value_count.ensures c.value_count-2.ensures c.most-enough.ensures

pub returns-clause-within : goal.returns-clause-within
returns-clause-within c =
    in_a_round c.args.round c.of.result (λ past.
    no_values c.args.replica.now.set.n (2 * c.args.replica.now.set.f) _ _ _ _ c.of.result (ap (λ p. p.values) (c.votes_in.ensures.past past)) c.most-enough.ensures c.value_count.ensures c.value_count-2.ensures c.of.ensures)
