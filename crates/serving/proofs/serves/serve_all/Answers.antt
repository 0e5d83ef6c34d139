use Rattle.std.proofs.Common.{◌+◌, map, take, sym, ap, ◌∙◌, arith}
use Rattle.std.proofs.lemmas.List.{take_all, length-map, map-set, length-set}
use Rattle.common.specs.Refusals.{numbered}
use Rattle.replica.specs.Store.{store}
use Rattle.promises.specs.Runs.{kind_of}
use Rattle.serving.specs.Serves.{served}
use Rattle.serving.proofs.Serving.{served_step}
use Rattle.serving.proofs.serves.serve_all.Goals as goal

pub loop-i-preserved : goal.loop-i-preserved
loop-i-preserved g c =
    let e = g.K.Entry in
    let told = map numbered c.loop-i.answers in
    let size = length-map c.loop-i.answers numbered ∙ c.loop-i.invariant.1 in
    let t = store e.bytes c.serve.new.tables in (
      served_step (kind_of e.WIDTH e.valid) (g.C.Coin.meaning c.args.coin.now) c.args.replica.now (store e.bytes c.args.tables.now) c.args.calls.now c.loop-i.i _ c.loop-i-test.true told size _ _ _ _ _
          c.loop-i.invariant.0 _ c.loop-i.invariant.2 c.serve.ensures.value
          ∙ ap (λ l. (take (c.loop-i.i + 1) l, c.serve.new.replica, t)) (sym (map-set numbered c.loop-i.answers c.loop-i.i c.serve.result)),
      length-set c.loop-i.answers c.loop-i.i c.serve.result ∙ c.loop-i.invariant.1,
      c.serve.ensures.coin ∙ c.loop-i.invariant.2,
    )

pub returns-clause-value : goal.returns-clause-value
returns-clause-value g c =
    let e = g.K.Entry in
    let told = map numbered c.loop-i.answers in
    let size = length-map c.loop-i.answers numbered ∙ c.loop-i.invariant.1 in
    sym (
    ap (served (kind_of e.WIDTH e.valid) (g.C.Coin.meaning c.args.coin.now) c.args.replica.now (store e.bytes c.args.tables.now)) (sym (take_all c.loop-i.i c.args.calls.now c.loop-i-test.false))
    ∙ c.loop-i.invariant.0
    ∙ ap (λ l. (l, c.loop-i.replica, store e.bytes c.loop-i.tables)) (take_all c.loop-i.i told (omega (arith, size, c.loop-i-test.false)))
    )
