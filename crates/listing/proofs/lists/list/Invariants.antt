use Rattle.std.proofs.Common.{◌≡◌, ◌+◌, ◌≤◌, length, None}
use Rattle.wire.specs.Frames.{Statements}
use Rattle.wire.specs.Steps.{left, parts_in}
use Rattle.listing.specs.Rows.{kind_of}
use Rattle.listing.specs.Lists.{list_of}
use Rattle.listing.specs.Records.{listed_of}
use Rattle.listing.proofs.Going.{behind, listed}
use Rattle.listing.proofs.lists.list.Given as goal

abbrev pub invariant-loop-step : goal.invariant-loop-step
invariant-loop-step g l =
    let e = g.K.Entry in
    let k = kind_of e.WIDTH e.valid e.heading e.columns in
    let steps = left e.WIDTH l.step-iterator in
    (l.listing.count + length steps ≤ length l.frame) × Statements e.WIDTH (parts_in steps) × ((listed_of l.listing).fault ≡ None) × (behind (listed_of l.listing) (listed k steps) ≡ list_of k l.frame)
