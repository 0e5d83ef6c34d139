use Rattle.std.proofs.Common.{◌≡◌, ◌++◌, map, vec_items}
use Rattle.std.specs.Option.{option_map}
use Rattle.listing.specs.Rows.{numbers_of, padded, text_of, following}
use Rattle.listing.proofs.rows.push_columns.Given as goal

abbrev pub invariant-loop-i : goal.invariant-loop-i
invariant-loop-i g l =
    vec_items l.out ≡ vec_items l.initial.out ++ following (map text_of (padded l.i (numbers_of g.K.Entry.columns (option_map g.K.Entry.bytes l.entry))))
