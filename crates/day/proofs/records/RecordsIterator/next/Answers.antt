use Rattle.std.proofs.Common.{◌≡◌, ◌+◌, [], ◌∷◌, length, Ok, sym, ap, ◌∙◌, arith, rules}
use Rattle.day.specs.Days.{cut_of, found_left}
use Rattle.day.proofs.Cutting.{none_left, torn_left, more_left}
use Rattle.day.proofs.records.RecordsIterator.next.Goals as goal

pub returns-then-place-self-clause-steps : goal.returns-then-place-self-clause-steps
returns-then-place-self-clause-steps c =
    let none : found_left c.self.inside.day.now c.self.inside.place ≡ [] = none_left _ _ (omega arith) in
    (cc, cc)

pub returns-in_default-clause-steps : goal.returns-in_default-clause-steps
returns-in_default-clause-steps c =
    let last = torn_left c.self.inside.day.now c.self.inside.place (sym c.record_at.ensures.cut ∙ ap cut_of c.in_default.is) in
    sym c.self.view_is ∙ last

pub returns-in_default-clause-goes : goal.returns-in_default-clause-goes
returns-in_default-clause-goes c =
    let fewer = ap length (returns-in_default-clause-steps c) in
    search rules

pub returns-clause-steps : goal.returns-clause-steps
returns-clause-steps c =
    let x = c.in-Some.record in
    let next = more_left c.self.inside.day.now c.self.inside.place x.sender x.bytes.now (sym c.record_at.ensures.cut ∙ ap cut_of c.in-Some.is) in
    sym c.self.view_is ∙ next ∙ sym (ap (λ p. Ok (x.sender, p, x.bytes.now) ∷ found_left c.self.inside.day.now (p + length x.bytes.now)) c.in-Some.ensures.start)

pub returns-clause-goes : goal.returns-clause-goes
returns-clause-goes c =
    let fewer = ap length (returns-clause-steps c) in
    search rules
