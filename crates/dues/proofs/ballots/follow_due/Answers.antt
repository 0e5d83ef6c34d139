use Rattle.std.proofs.Common.{sym, ap, ◌∙◌}
use Rattle.std.specs.Option.{option_map, is_some}
use Rattle.theory.specs.Statement.{finish}
use Rattle.dues.proofs.Voting.{follow_stated, follow_is}
use Rattle.dues.proofs.ballots.follow_due.Goals as goal

pub returns-then-is_some : goal.returns-then-is_some
returns-then-is_some c t = follow_stated c.args.replica.now t c.requires.week (ap is_some (sym c.bit.ensures) ∙ sym c.is_some.ensures ∙ c.if-is_some.true)

pub returns : goal.returns
returns c t =
    let m = c.args.replica.now in
    ap (option_map (finish m.epoch)) c.lowest.ensures
    ∙ follow_is m t c.requires.week _ _ _ c.bit_count.ensures c.bit_count-2.ensures _ c.of.ensures c.some_honest-enough.ensures (ap is_some (sym c.bit.ensures) ∙ sym c.is_some.ensures ∙ c.if-is_some.false)
