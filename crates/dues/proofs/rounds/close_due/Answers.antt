use Rattle.std.proofs.Common.{◌≡◌, Some, None, sym, ap, ◌∙◌}
use Rattle.std.specs.Option.{option_map, is_some}
use Rattle.votes.specs.Sets.{bits_of}
use Rattle.dues.proofs.Voting.{close_unstated, close_few, close_is}
use Rattle.theory.proofs.Books.{none≢some}
use Rattle.dues.proofs.Unmarked.{in_a_round, no_set}
use Rattle.dues.proofs.rounds.close_due.Goals as goal

pub returns-in_err-set-clause-value : goal.returns-in_err-set-clause-value
returns-in_err-set-clause-value g c t =
    let v = c.votes_in-votes in
    ap (option_map (λ c. (c.bit, c.finish))) c.from_residual.ensures
    ∙ close_unstated c.args.replica.now t c.requires.week c.args.round v.result v.ensures.value v.ensures.past (g.C.Coin.meaning c.args.coin.now) (sym c.set.ensures ∙ ap (option_map bits_of) c.in_err-set.was)

pub returns-then-confirmed_within-all_honest-clause-value : goal.returns-then-confirmed_within-all_honest-clause-value
returns-then-confirmed_within-all_honest-clause-value g c t =
    let v = c.votes_in-votes in
    close_few c.args.replica.now t c.requires.week c.args.round v.result v.ensures.value v.ensures.past _ (c.values_in-values.ensures.value t) (g.C.Coin.meaning c.args.coin.now) _ _ c.all_honest.ensures c.confirmed_within.ensures c.if-confirmed_within-all_honest.true

pub returns-clause-value : goal.returns-clause-value
returns-clause-value g c t =
    let v = c.votes_in-votes in
    ap Some c.outcome.ensures
    ∙ close_is c.args.replica.now t c.requires.week c.args.round v.result v.ensures.value v.ensures.past _ (c.values_in-values.ensures.value t) (g.C.Coin.meaning c.args.coin.now) _ _ c.all_honest.ensures c.confirmed_within.ensures
    (bits_of c.in_ok-set.field-0) (sym c.set.ensures ∙ ap (option_map bits_of) c.in_ok-set.was) c.if-confirmed_within-all_honest.false
    _ c.union-joined.ensures c.is_none-free.result (ap is_some (sym c.bit.ensures) ∙ c.is_none-free.ensures) c.toss-toss.result c.toss-toss.ensures.value

some_none : {A : Type 0} {a : A} → Some a ≡ None → ⊥
some_none e = none≢some (sym e)

pub returns-clause-within : goal.returns-clause-within
returns-clause-within g c =
    in_a_round c.args.round (Some c.outcome.result) (λ past.
    absurd (some_none (sym c.in_ok-set.was ∙ no_set c.votes_in-votes.result c.args.replica.now.set.me c.set.result (c.votes_in-votes.ensures.past past) c.set.ensures)))
