-- What each case of a move is: its turn, and the steps that it takes, with the values that it carries.
use Rattle.std.specs.Prelude.{ℕ, List, [], ◌∷◌}
use Rattle.theory.specs.Statement.{Stmt, echo, ready, have, value, seen, confirm, finish}
use Rattle.theory.specs.Machine.{says, Steps}
use Rattle.theory.specs.Calls.{Turn, to_echo, to_ready, to_keep, to_follow, to_decide, to_write, to_second, to_see, to_confirm, to_close, deciding, writing, closing}
use Rattle.votes.specs.Sets.{bits_of}
use Rattle.replica.specs.declared.state.Replica.{Replica}
use Rattle.replica.specs.Store.{Store}
use Rattle.replica.specs.View.{plan, box}
use Rattle.moves.specs.declared.moves.Move as declared
use Rattle.moves.specs.declared.moves.Move.TheVariants.{Echo, Ready, Keep, Follow, Decide, Write, Second, See, Confirm, Close}

abbrev pub states : Stmt (List ℕ) → Steps (List ℕ)
states st = says st ∷ []

abbrev pub move_of : {K : Type 0} → (K → List ℕ) → Replica → Store → declared.Move K → Turn × Steps (List ℕ)
move_of b m t (Echo d) = (to_echo, states (echo d.queue d.slot (b d.item)))
move_of b m t (Ready d) = (to_ready, states (ready d.queue d.slot (b d.item)))
move_of b m t (Keep d) = (to_keep, states (have d.queue d.slot (b d.item)))
move_of b m t (Follow v) = (to_follow, states (finish m.epoch v))
move_of b m t (Decide v) = (to_decide, deciding (plan m) (box m t) v)
move_of b m t (Write s x) = (to_write, writing (plan m) (box m t) (s, b x))
move_of b m t (Second k v) = (to_second, states (value m.epoch k v))
move_of b m t (See k v) = (to_see, states (seen m.epoch k v))
move_of b m t (Confirm k u) = (to_confirm, states (confirm m.epoch k (bits_of u)))
move_of b m t (Close k c) = (to_close, closing (plan m) (box m t) k (c.bit, c.finish))
