use Rattle.std.proofs.Common.{arith}
use Rattle.showing.proofs.Ordering.{length_places}
use Rattle.showing.proofs.board.places.Goals as goal

pub returns : goal.returns
returns c t = omega (arith, length_places c.args.replica.now t, c.slots.ensures)
