-- The ranges of what a move carries.
use Rattle.std.specs.Prelude.{◌<◌}
use Rattle.common.specs.Limits.{epochs, rounds}
use Rattle.replica.specs.declared.state.Replica.{Replica}
use Rattle.dues.specs.Slots.{Inside}
use Rattle.moves.specs.declared.moves.Move as declared
use Rattle.moves.specs.declared.moves.Move.TheVariants.{Echo, Ready, Keep, Follow, Decide, Write, Second, See, Confirm, Close}

-- what it states is in range, as in every move that is chosen
abbrev pub Allowed : {K : Type 0} → Replica → declared.Move K → Type 0
Allowed m (Echo d) = Inside m.set d
Allowed m (Ready d) = Inside m.set d
Allowed m (Keep d) = Inside m.set d
Allowed m (Follow v) = m.epoch < epochs
Allowed m (Decide v) = m.epoch < epochs
Allowed m (Write s x) = (m.epoch < epochs) × (s < m.set.w)
Allowed m (Second k v) = (m.epoch < epochs) × (k < rounds)
Allowed m (See k v) = (m.epoch < epochs) × (k < rounds)
Allowed m (Confirm k u) = (m.epoch < epochs) × (k < rounds)
Allowed m (Close k c) = (m.epoch < epochs) × (k < rounds)
