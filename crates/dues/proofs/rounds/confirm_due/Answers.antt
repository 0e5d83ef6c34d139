use Rattle.std.proofs.Common.{sym, ap, ◌∙◌}
use Rattle.std.specs.Option.{option_map, is_some}
use Rattle.theory.specs.Statement.{confirm}
use Rattle.votes.specs.Sets.{bits_of}
use Rattle.dues.proofs.Voting.{confirm_unseen, confirm_stated, confirm_few, confirm_is}
use Rattle.dues.proofs.Finding.{some_mapped}
use Rattle.dues.proofs.rounds.confirm_due.Goals as goal

pub returns-in_err-bit-clause-value : goal.returns-in_err-bit-clause-value
returns-in_err-bit-clause-value c t =
    let v = c.votes_in-votes in
    let m = c.args.replica.now in
    ap (option_map (λ u. confirm m.epoch c.args.round (bits_of u))) c.from_residual.ensures
    ∙ confirm_unseen m t c.requires.week c.args.round v.result v.ensures.value v.ensures.past (sym c.bit.ensures ∙ c.in_err-bit.was)

pub returns-then-is_some-clause-value : goal.returns-then-is_some-clause-value
returns-then-is_some-clause-value c t =
    let v = c.votes_in-votes in
    confirm_stated c.args.replica.now t c.requires.week c.args.round v.result v.ensures.value v.ensures.past (ap is_some (sym c.set.ensures) ∙ some_mapped bits_of c.set.result ∙ sym c.is_some.ensures ∙ c.if-is_some.true)

pub returns-then-seen_within-all_honest-clause-value : goal.returns-then-seen_within-all_honest-clause-value
returns-then-seen_within-all_honest-clause-value c t =
    let v = c.votes_in-votes in
    confirm_few c.args.replica.now t c.requires.week c.args.round v.result v.ensures.value v.ensures.past _ (c.values_in-values.ensures.value t) _ _ c.all_honest.ensures c.seen_within.ensures c.if-seen_within-all_honest.true

pub returns-clause-value : goal.returns-clause-value
returns-clause-value c t =
    let v = c.votes_in-votes in
    confirm_is c.args.replica.now t c.requires.week c.args.round v.result v.ensures.value v.ensures.past _ (c.values_in-values.ensures.value t) _ _ c.all_honest.ensures c.seen_within.ensures
    c.in_ok-bit.field-0 (sym c.bit.ensures ∙ c.in_ok-bit.was) (ap is_some (sym c.set.ensures) ∙ some_mapped bits_of c.set.result ∙ sym c.is_some.ensures ∙ c.if-is_some.false) c.if-seen_within-all_honest.false
