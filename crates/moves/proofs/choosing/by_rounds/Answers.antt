use Rattle.std.proofs.Common.{None, ap, ◌∙◌}
use Rattle.std.specs.Option.{option_map}
use Rattle.moves.specs.Moves.{move_of}
use Rattle.moves.proofs.Trying.{second_first, see_first, confirm_first, closed_is, close_is}
use Rattle.moves.proofs.choosing.by_rounds.Goals as goal

pub returns-in-Some-clause-value : goal.returns-in-Some-clause-value
returns-in-Some-clause-value g c t = second_first c.args.replica.now t (g.C.Coin.meaning c.args.coin.now) c.requires.week c.args.round c.args.closed c.requires.open _ (c.in-Some.ensures.value t)

pub returns-in-Some-seen_due-clause-value : goal.returns-in-Some-seen_due-clause-value
returns-in-Some-seen_due-clause-value g c t =
    see_first c.args.replica.now t (g.C.Coin.meaning c.args.coin.now) c.requires.week c.args.round c.args.closed c.requires.open (c.in_default.ensures.value t) _ (c.in-Some-seen_due.ensures.value t)

pub returns-in-Some-confirm_due-clause-value : goal.returns-in-Some-confirm_due-clause-value
returns-in-Some-confirm_due-clause-value g c t =
    confirm_first c.args.replica.now t (g.C.Coin.meaning c.args.coin.now) c.requires.week c.args.round c.args.closed c.requires.open (c.in_default.ensures.value t) (c.in_default-seen_due.ensures.value t) _ (c.in-Some-confirm_due.ensures.value t)

pub returns-then-closed-clause-value : goal.returns-then-closed-clause-value
returns-then-closed-clause-value g c t =
    closed_is c.args.replica.now t (g.C.Coin.meaning c.args.coin.now) c.requires.week c.args.round c.args.closed c.requires.open (c.in_default.ensures.value t) (c.in_default-seen_due.ensures.value t) (c.in_default-confirm_due.ensures.value t) c.if-closed.true

pub returns-in_err-closing-clause-value : goal.returns-in_err-closing-clause-value
returns-in_err-closing-clause-value g c t =
    ap (option_map (move_of g.K.Entry.bytes c.args.replica.now t)) c.from_residual.ensures
    ∙ close_is c.args.replica.now t (g.C.Coin.meaning c.args.coin.now) c.requires.week c.args.round c.args.closed c.requires.open (c.in_default.ensures.value t) (c.in_default-seen_due.ensures.value t) (c.in_default-confirm_due.ensures.value t) c.if-closed.false None (c.in_err-closing.ensures.value t)

pub returns-clause-value : goal.returns-clause-value
returns-clause-value g c t =
    close_is c.args.replica.now t (g.C.Coin.meaning c.args.coin.now) c.requires.week c.args.round c.args.closed c.requires.open (c.in_default.ensures.value t) (c.in_default-seen_due.ensures.value t) (c.in_default-confirm_due.ensures.value t) c.if-closed.false _ (c.in_ok-closing.ensures.value t)
