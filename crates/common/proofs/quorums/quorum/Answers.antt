use Rattle.std.proofs.Common.{◌-◌, ◌<◌, ◌≤◌, get_or, sym, refl, ap, ◌∙◌, subst, arith}
use Rattle.common.specs.Quorums.{Sound}
use Rattle.common.specs.declared.quorums.TheConstants.{TABLE}
use Rattle.common.proofs.Tables.{row, sound}
use Rattle.common.proofs.quorums.quorum.Goals as goal

pub returns-clause-sound : goal.returns-clause-sound
returns-clause-sound c =
    let n = c.args.n in
    let low : 4 ≤ n = omega (arith, c.if-n-lt-MIN_REPLICAS.false) in
    let high : n ≤ 16 = omega (arith, c.if-n-gt-MAX_REPLICAS.false) in
    let within : n - 4 < 13 = omega arith in
    let e = ap (λ k. get_or TABLE k (0, 0)) c.from.ensures ∙ row TABLE 4 n refl low within in
    subst (Sound n) (sym e) (sound n (omega arith))
