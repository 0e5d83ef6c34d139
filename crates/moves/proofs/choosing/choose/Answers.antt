use Rattle.std.proofs.Common.{◌<◌, None, ap, ◌∙◌, arith}
use Rattle.std.specs.Option.{option_map}
use Rattle.theory.specs.Calls.{awaits, to_write, writing}
use Rattle.replica.specs.Store.{store}
use Rattle.replica.specs.View.{stage_of, plan, box}
use Rattle.moves.specs.Moves.{move_of}
use Rattle.moves.proofs.Trying.{entries_first, entries_none, over, follow_first, awaiting_is, decided_first, undecided, unopened_is}
use Rattle.moves.proofs.choosing.choose.Goals as goal

pub returns-in-Some-clause-value : goal.returns-in-Some-clause-value
returns-in-Some-clause-value g c =
    let coin = g.C.Coin.meaning c.args.coin.now in
    entries_first c.args.lent.now.replica.now (store g.K.Entry.bytes c.args.lent.now.tables.now) coin _ (c.in-Some.ensures.value coin)

pub returns-then-replica-ge-EPOCHS-clause-value : goal.returns-then-replica-ge-EPOCHS-clause-value
returns-then-replica-ge-EPOCHS-clause-value g c =
    let m = c.args.lent.now.replica.now in
    let t = store g.K.Entry.bytes c.args.lent.now.tables.now in
    let coin = g.C.Coin.meaning c.args.coin.now in
    entries_none m t coin None (c.in_default.ensures.value coin) (over m t coin (omega (arith, c.if-replica-ge-EPOCHS.true)))

pub returns-in-Some-follow_due-clause-value : goal.returns-in-Some-follow_due-clause-value
returns-in-Some-follow_due-clause-value g c =
    let m = c.args.lent.now.replica.now in
    let t = store g.K.Entry.bytes c.args.lent.now.tables.now in
    let coin = g.C.Coin.meaning c.args.coin.now in
    entries_none m t coin _ (c.in_default.ensures.value coin) (follow_first m t coin (omega (arith, c.if-replica-ge-EPOCHS.false)) _ (c.in-Some-follow_due.ensures t))

pub returns-in_err-slot-in-Awaiting-clause-value : goal.returns-in_err-slot-in-Awaiting-clause-value
returns-in_err-slot-in-Awaiting-clause-value g c =
    let b = g.K.Entry.bytes in
    let m = c.args.lent.now.replica.now in
    let t = store b c.args.lent.now.tables.now in
    let coin = g.C.Coin.meaning c.args.coin.now in
    let week : m.epoch < 256 = omega (arith, c.if-replica-ge-EPOCHS.false) in
    ap (option_map (move_of b m t)) c.from_residual.ensures
    ∙ entries_none m t coin None (c.in_default.ensures.value coin)
    (ap (option_map (λ p. (to_write, writing (plan m) (box m t) p))) c.in_err-slot-in-Awaiting.ensures.value ∙ awaiting_is m t coin week (c.in_default-follow_due.ensures t) c.in-Awaiting.is)

pub returns-in_ok-slot-in-Awaiting-clause-value : goal.returns-in_ok-slot-in-Awaiting-clause-value
returns-in_ok-slot-in-Awaiting-clause-value g c =
    let m = c.args.lent.now.replica.now in
    let t = store g.K.Entry.bytes c.args.lent.now.tables.now in
    let coin = g.C.Coin.meaning c.args.coin.now in
    let week : m.epoch < 256 = omega (arith, c.if-replica-ge-EPOCHS.false) in
    entries_none m t coin _ (c.in_default.ensures.value coin)
    (ap (option_map (λ p. (to_write, writing (plan m) (box m t) p))) c.in_ok-slot-in-Awaiting.ensures.value ∙ awaiting_is m t coin week (c.in_default-follow_due.ensures t) c.in-Awaiting.is)

pub returns-in_err-bit-in-Unopened-clause-value : goal.returns-in_err-bit-in-Unopened-clause-value
returns-in_err-bit-in-Unopened-clause-value g c =
    let b = g.K.Entry.bytes in
    let m = c.args.lent.now.replica.now in
    let t = store b c.args.lent.now.tables.now in
    let coin = g.C.Coin.meaning c.args.coin.now in
    let week : m.epoch < 256 = omega (arith, c.if-replica-ge-EPOCHS.false) in
    ap (option_map (move_of b m t)) c.from_residual-in_err-bit-in-Unopened.ensures
    ∙ entries_none m t coin None (c.in_default.ensures.value coin)
    (unopened_is m t coin week (c.in_default-follow_due.ensures t) (ap (λ g. awaits (stage_of g)) c.in-Unopened.is) c.in-Unopened.is (c.in_err-bit-in-Unopened.ensures t))

pub returns-in_ok-bit-in-Unopened-clause-value : goal.returns-in_ok-bit-in-Unopened-clause-value
returns-in_ok-bit-in-Unopened-clause-value g c =
    let m = c.args.lent.now.replica.now in
    let t = store g.K.Entry.bytes c.args.lent.now.tables.now in
    let coin = g.C.Coin.meaning c.args.coin.now in
    let week : m.epoch < 256 = omega (arith, c.if-replica-ge-EPOCHS.false) in
    entries_none m t coin _ (c.in_default.ensures.value coin)
    (decided_first m t coin week (c.in_default-follow_due.ensures t) (ap (λ g. awaits (stage_of g)) c.in-Unopened.is) _ (c.in_ok-bit-in-Unopened.ensures t))

pub returns-in-Some-decided-clause-value : goal.returns-in-Some-decided-clause-value
returns-in-Some-decided-clause-value g c =
    let m = c.args.lent.now.replica.now in
    let t = store g.K.Entry.bytes c.args.lent.now.tables.now in
    let coin = g.C.Coin.meaning c.args.coin.now in
    let week : m.epoch < 256 = omega (arith, c.if-replica-ge-EPOCHS.false) in
    entries_none m t coin _ (c.in_default.ensures.value coin)
    (decided_first m t coin week (c.in_default-follow_due.ensures t) (ap (λ g. awaits (stage_of g)) c.in-Open.is) _ (c.in-Some-decided.ensures t))

pub returns-in-None-clause-value : goal.returns-in-None-clause-value
returns-in-None-clause-value g c =
    let m = c.args.lent.now.replica.now in
    let t = store g.K.Entry.bytes c.args.lent.now.tables.now in
    let coin = g.C.Coin.meaning c.args.coin.now in
    let week : m.epoch < 256 = omega (arith, c.if-replica-ge-EPOCHS.false) in
    entries_none m t coin _ (c.in_default.ensures.value coin)
    (undecided m t coin week (c.in_default-follow_due.ensures t) (ap (λ g. awaits (stage_of g)) c.in-Open.is) (c.in-None.ensures t) _ (c.by_rounds.ensures.value t))
