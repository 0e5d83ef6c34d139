use Rattle.std.proofs.Common.{◌+◌, [], ◌∷◌, length, Ok, Err, sym, refl, ap, ◌∙◌, le_refl, arith}
use Rattle.std.specs.Option.{option_map}
use Rattle.std.proofs.lemmas.Slice.{between_to_end}
use Rattle.common.specs.Refusals.{number_of}
use Rattle.wire.specs.Steps.{steps_of}
use Rattle.wire.proofs.Stepping.{first_next, step_end, step_stop, step_part}
use Rattle.wire.proofs.steps.PartsIterator.next.Goals as goal

pub returns-in-Ok-None-clause-steps : goal.returns-in-Ok-None-clause-steps
returns-in-Ok-None-clause-steps g c =
    let w = g.K.Entry.WIDTH in
    let it = c.args.self.now in
    let none = step_end w it.place it.rest.now (first_next w it.rest.now _ (ap (λ o. Ok (option_map (λ x. x.now) o)) (sym c.in-Ok-None.field-0-is) ∙ c.in-Ok-None.ensures.value)) in
    (none, none)

pub returns-in-Ok-Some-clause-steps : goal.returns-in-Ok-Some-clause-steps
returns-in-Ok-Some-clause-steps g c =
    let w = g.K.Entry.WIDTH in
    let it = c.args.self.now in
    let t = c.in-Ok-Some.bytes.now in
    let one = step_part w it.place it.rest.now t (first_next w it.rest.now _ (ap (λ o. Ok (option_map (λ x. x.now) o)) (sym c.in-Ok-Some.field-0-is) ∙ c.in-Ok-Some.ensures.value)) in
    one ∙ ap (λ s. Ok (it.place, t) ∷ steps_of w (it.place + length t) s) (sym (between_to_end it.rest.now (length t) _ (le_refl _)))

-- the two answers `goes` stay apart: the facts of the two exits have types of their own, and a lemma for both would
-- say the clause again
pub returns-in-Ok-Some-clause-goes : goal.returns-in-Ok-Some-clause-goes
returns-in-Ok-Some-clause-goes g c =
    record { on = λ _. (tt, tt, omega (arith, ap length (returns-in-Ok-Some-clause-steps g c))); keeps = tt; rests = λ _. tt }

pub returns-in-Err-clause-steps : goal.returns-in-Err-clause-steps
returns-in-Err-clause-steps g c =
    let w = g.K.Entry.WIDTH in
    let it = c.args.self.now in
    step_stop w it.place it.rest.now _ (first_next w it.rest.now _ c.in-Err.ensures.value)
    ∙ ap (λ l. Err (number_of c.in-Err.refusal, it.place) ∷ l) (sym (step_end w it.place [] refl))

pub returns-in-Err-clause-goes : goal.returns-in-Err-clause-goes
returns-in-Err-clause-goes g c =
    record { on = λ _. (tt, tt, omega (arith, ap length (returns-in-Err-clause-steps g c))); keeps = tt; rests = λ _. tt }
