use Rattle.std.proofs.Common.{◌≡◌, length, All, fold, vec_items}
use Rattle.replica.specs.Store.{store}
use Rattle.wire.specs.Steps.{Inside, left}
use Rattle.day.specs.Days.{frame_of}
use Rattle.day.proofs.Hearing.{step_heard}
use Rattle.day.proofs.frames.hear_frame.Given as goal

-- what is left lies inside the frame, and heard it comes to what the frame comes to
abbrev pub invariant-loop-step : goal.invariant-loop-step
invariant-loop-step g l =
    let e = g.K.Entry in
    let x = l.sent in
    All (Inside (length x.bytes.now)) (left e.WIDTH l.step-iterator)
    × (fold (step_heard e.WIDTH e.valid x.sender x.start) (vec_items l.text, l.replica, store e.bytes l.tables) (left e.WIDTH l.step-iterator)
    ≡ frame_of e.WIDTH e.valid x.sender x.start x.bytes.now (vec_items l.initial.text, l.initial.replica, store e.bytes l.initial.tables))
