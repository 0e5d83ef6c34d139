use Rattle.std.proofs.Common.{◌≡◌, map, None}
use Rattle.std.specs.List.{AllByRecursion}
use Rattle.wire.specs.Codec.{unfit}
use Rattle.showing.specs.Spoken.{spoken, spelled}
use Rattle.showing.proofs.Laying.{Laid}
use Rattle.showing.proofs.output.lay.Given as goal

abbrev pub invariant-loop-claim : goal.invariant-loop-claim
invariant-loop-claim g l =
    AllByRecursion (λ s. unfit g.K.Entry.WIDTH (spoken s) ≡ None) l.claim-iterator
    × Laid l.initial.out (map spelled l.fn.board) (map spelled l.claim-iterator) l.number l.shown.bytes l.shown.next l.out
