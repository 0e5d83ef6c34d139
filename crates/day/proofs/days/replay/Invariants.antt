use Rattle.std.proofs.Common.{◌≡◌, fold, vec_items}
use Rattle.replica.specs.Store.{store}
use Rattle.day.specs.Days.{day_of}
use Rattle.day.proofs.Cutting.{found_taken}
use Rattle.day.proofs.days.replay.Given as goal

-- what is left, taken in, comes to what the day comes to
abbrev pub invariant-loop-found : goal.invariant-loop-found
invariant-loop-found g l =
    let e = g.K.Entry in
    fold (found_taken e.WIDTH e.valid) (vec_items l.text, l.replica, store e.bytes l.tables) l.found-iterator
    ≡ day_of e.WIDTH e.valid l.initial.replica (store e.bytes l.initial.tables) l.day
