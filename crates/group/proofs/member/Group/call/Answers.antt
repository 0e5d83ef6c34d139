use Rattle.std.proofs.Common.{arith, vec_items}
use Rattle.promises.specs.Runs.{kind_of}
use Rattle.serving.specs.Serves.{call_in}
use Rattle.group.proofs.Calling.{called_done}
use Rattle.group.proofs.member.Group.call.Goals as goal

pub returns-clause-value : goal.returns-clause-value
returns-clause-value g c =
    let e = g.K.Entry in
    called_done e.bytes (kind_of e.WIDTH e.valid) (g.C.Coin.meaning c.args.self.now.coin) (vec_items c.args.self.now.members) c.args.at (call_in c.args.call)
    c.index_mut-member.result.now _ c.serve.new.replica c.serve.new.tables (omega (arith, c.len.ensures, c.if-at-len.false, c.args.self.now.members.ok.0)) c.index_mut-member.ensures.value (rw c.own.view_is at c.serve.ensures.value)
