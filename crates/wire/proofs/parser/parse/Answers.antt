use Rattle.std.proofs.Common.{◌≡◌, Ok, rules}
use Rattle.wire.specs.Statements.{message_of}
use Rattle.wire.specs.Codec.{parse_of, placed}
use Rattle.wire.proofs.Reading.{read_written, read_fits}
use Rattle.wire.proofs.parser.parse.Goals as goal

pub returns-clause-back : goal.returns-clause-back
returns-clause-back g c =
    let w = g.K.Entry.WIDTH in
    let s = c.args.s.now in
    let m = message_of c.operands.result in
    let is : parse_of w s ≡ Ok m = search rules in
    λ out. (λ i. placed (read_fits w s m (λ i. (c.type_inv.s i).fits) is i) (read_written w s m is i) out)
