use Rattle.std.proofs.Common.{true, false, ap, ◌∙◌}
use Rattle.std.specs.Option.{option_map}
use Rattle.theory.specs.Statement.{value}
use Rattle.dues.proofs.Voting.{second_is}
use Rattle.dues.proofs.Unmarked.{in_a_round, unwanted, no_second}
use Rattle.dues.proofs.rounds.second_at.Goals as goal

pub returns-clause-value : goal.returns-clause-value
returns-clause-value c t =
    let m = c.args.replica.now in
    ap (option_map (value m.epoch c.args.round)) c.lowest.ensures
    ∙ second_is m t c.requires.week c.args.round c.votes_in.result c.votes_in.ensures.value c.votes_in.ensures.past _ _ _ c.is_wanted.ensures c.is_wanted-2.ensures c.of.ensures

pub returns-clause-within : goal.returns-clause-within
returns-clause-within c =
    let set = c.args.replica.now.set in
    in_a_round c.args.round c.lowest.result (λ past.
    let none = ap (λ p. p.values) (c.votes_in.ensures.past past) in
    no_second c.votes_in.result.values _ _ _ c.lowest.result (unwanted set.n set.f set.me false _ _ none c.is_wanted.ensures) (unwanted set.n set.f set.me true _ _ none c.is_wanted-2.ensures) c.of.ensures c.lowest.ensures)
