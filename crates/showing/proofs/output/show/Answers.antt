use Rattle.std.proofs.Common.{◌≡◌, length, map, None, sym, ap, ◌∙◌, subst, arith, length-drop}
use Rattle.std.specs.Option.{ok_or}
use Rattle.std.specs.List.{AllByRecursion}
use Rattle.std.proofs.ByRecursion.{All-drop}
use Rattle.std.proofs.lemmas.Option.{MatchOption-at_some, MatchOption-at_none}
use Rattle.std.proofs.lemmas.Result.{err_from_is_err_and}
use Rattle.common.specs.Refusals.{answered, declined}
use Rattle.common.specs.declared.refusal.Refusal.TheVariants as refusals
use Rattle.wire.specs.Codec.{unfit}
use Rattle.replica.specs.Store.{store}
use Rattle.replica.proofs.Accepting.{accepted}
use Rattle.showing.specs.Boards.{board_of}
use Rattle.showing.specs.Spoken.{spoken, spelled}
use Rattle.showing.specs.Showing.{lay_of, show_of}
use Rattle.showing.proofs.Standing.{store_wide}
use Rattle.showing.proofs.Filling.{board_writable, board_few}
use Rattle.showing.proofs.Telling.{show_refused, show_past, show_from}
use Rattle.showing.proofs.Promising.{shows}
use Rattle.showing.proofs.output.show.Goals as goal

pub returns-in_err-lent-clause-value : goal.returns-in_err-lent-clause-value
returns-in_err-lent-clause-value g c =
    let p = err_from_is_err_and c.from_residual.result c.from_residual.ensures.1 in
    rw (p.1, p.2) (show_refused c.args.replica.now c.args.number c.args.out.now g.K.Entry.bytes c.args.tables.now c.in_err-lent.field-0.0 c.in_err-lent.ensures)

pub returns-in_err-rest-clause-value : goal.returns-in_err-rest-clause-value
returns-in_err-rest-clause-value g c =
    let b = g.K.Entry.bytes in
    let lent = c.in_ok-lent.lent in
    let n = c.args.number in
    let out = c.args.out.now in
    let p = err_from_is_err_and c.from_residual-in_err-rest.result c.from_residual-in_err-rest.ensures.1 in
    let e = c.in_err-rest.ensures in
    rw (p.1, p.2) (
    ap (λ r. (answered (λ _. (0, 0)) r, out)) (e.value ∙ ap (λ o. ok_or o refusals.Number) e.ok_part)
    ∙ subst (λ p. (declined refusals.Number, out) ≡ show_of p.0 (store b p.1) n out)
    (accepted b c.args.replica.now c.args.tables.now _ c.in_ok-lent.ensures).0
    (show_past lent.replica.now n out (store b lent.tables.now) lent.long (MatchOption-at_none _ _ e.ok_part c.skip.ensures))
    )

pub lay-requires-clause-few : goal.lay-requires-clause-few
lay-requires-clause-few g c =
    let lent = c.in_ok-lent.lent in
    let t = store g.K.Entry.bytes lent.tables.now in
    let rest = MatchOption-at_some _ _ _ c.in_ok-rest.ensures.ok_part c.skip.ensures in
    omega (arith, rest.0, ap length rest.1, length-drop c.args.number (board_of lent.replica.now t), board_few lent.replica.now t)

pub lay-requires-clause-fit : goal.lay-requires-clause-fit
lay-requires-clause-fit g c =
    let b = g.K.Entry.bytes in
    let w = g.K.Entry.WIDTH in
    let law = g.met.K.Entry in
    let m = c.in_ok-lent.lent.replica.now in
    let tables = c.in_ok-lent.lent.tables.now in
    let all = board_writable m (store b tables) w (store_wide b _ w tables law.wide law.sound) in
    subst (AllByRecursion (λ s. unfit w (spoken s) ≡ None)) (sym (MatchOption-at_some _ _ _ c.in_ok-rest.ensures.ok_part c.skip.ensures).1) (All-drop _ c.args.number (board_of m (store b tables)) all)

pub returns-clause-value : goal.returns-clause-value
returns-clause-value g c =
    let b = g.K.Entry.bytes in
    let lent = c.in_ok-lent.lent in
    let ss = c.in_ok-rest.rest in
    let n = c.args.number in
    let out = c.args.out.now in
    let kept = MatchOption-at_some _ _ _ c.in_ok-rest.ensures.ok_part c.skip.ensures in
    c.lay.ensures
    ∙ subst (λ p. lay_of n (map spelled ss) out ≡ show_of p.0 (store b p.1) n out)
    (accepted b c.args.replica.now c.args.tables.now _ c.in_ok-lent.ensures).0
    (show_from lent.replica.now n out (store b lent.tables.now) lent.long ss kept.0 kept.1)

-- the law, three times: a lemma that the function names does not find what the entry's kind promises
pub returns-in_err-lent-clause-law : goal.returns-in_err-lent-clause-law
returns-in_err-lent-clause-law g c = shows _ _ _ (store_wide g.K.Entry.bytes _ _ c.args.tables.now g.met.K.Entry.wide g.met.K.Entry.sound)

pub returns-in_err-rest-clause-law : goal.returns-in_err-rest-clause-law
returns-in_err-rest-clause-law g c = shows _ _ _ (store_wide g.K.Entry.bytes _ _ c.args.tables.now g.met.K.Entry.wide g.met.K.Entry.sound)

pub returns-clause-law : goal.returns-clause-law
returns-clause-law g c = shows _ _ _ (store_wide g.K.Entry.bytes _ _ c.args.tables.now g.met.K.Entry.wide g.met.K.Entry.sound)
