use Rattle.std.proofs.Common.{sym, ap, ◌∙◌}
use Rattle.std.specs.Option.{option_map, is_some}
use Rattle.theory.specs.Statement.{seen}
use Rattle.dues.proofs.Voting.{seen_stated, seen_is}
use Rattle.dues.proofs.rounds.seen_due.Goals as goal

pub returns-then-is_some-clause-value : goal.returns-then-is_some-clause-value
returns-then-is_some-clause-value c t =
    let v = c.votes_in-votes in
    seen_stated c.args.replica.now t c.requires.week c.args.round v.result v.ensures.value v.ensures.past (ap is_some (sym c.bit.ensures) ∙ sym c.is_some.ensures ∙ c.if-is_some.true)

pub returns-clause-value : goal.returns-clause-value
returns-clause-value c t =
    let v = c.votes_in-votes in
    ap (option_map (seen c.args.replica.now.epoch c.args.round)) c.lowest.ensures
    ∙ seen_is c.args.replica.now t c.requires.week c.args.round v.result v.ensures.value v.ensures.past (ap is_some (sym c.bit.ensures) ∙ sym c.is_some.ensures ∙ c.if-is_some.false) _ (c.values_in.ensures.value t)
