use Rattle.std.proofs.Common.{◌≡◌, ℕ, ◌+◌, length, fold, Result, vec_items, sym, ap, ◌∙◌}
use Rattle.std.proofs.lemmas.List.Elements.{All-same}
use Rattle.common.specs.Refusals.{numbered}
use Rattle.common.specs.declared.refusal.Refusal.{Refusal}
use Rattle.replica.specs.declared.state.Replica.{Replica}
use Rattle.replica.specs.Store.{Store, store}
use Rattle.wire.specs.Steps.{Step, step_of, steps_of, left, Inside}
use Rattle.day.specs.Days.{Run, called}
use Rattle.day.proofs.Hearing.{step_heard, frame_steps, step_on}
use Rattle.day.proofs.frames.hear_frame.Goals as goal
use Rattle.day.proofs.frames.hear_frame.Goals.{in-Ok, in-Err}

pub loop-step-init : goal.loop-step-init
loop-step-init g c =
    let k = g.K.Entry in
    let x = c.args.sent in
    let r : Run = (vec_items c.args.text.now, c.args.replica.now, store k.bytes c.args.tables.now) in
    let all : left k.WIDTH c.into_iter-step-iterator.result ≡ steps_of k.WIDTH 0 x.bytes.now = ap (left k.WIDTH) c.into_iter-step-iterator.ensures.into_iter_gives ∙ c.walk-step-items.ensures.value in (
      All-same (Inside (length x.bytes.now)) _ _ all c.walk-step-items.ensures.walked.inside,
      ap (fold (step_heard k.WIDTH k.valid x.sender x.start) r) all ∙ sym (frame_steps k.WIDTH k.valid x.sender x.start x.bytes.now r),
    )

pub loop-step-preserved : goal.loop-step-preserved
loop-step-preserved g c =
    let k = g.K.Entry in
    let x = c.args.sent in
    let l = c.loop-step in
    let m = c.match-step in
    let r : Run = (vec_items l.text, l.replica, store k.bytes l.tables) in
    let said = λ (place : ℕ) (answer : Result (Unit {0}) Refusal) (replica : Replica) (tables : Store). called r.0 (x.start + place) (numbered answer, replica, tables) in
    let same = λ (s : Step). step_heard k.WIDTH k.valid x.sender x.start r s in
    let heard : said m.place.0 m.place.1 m.replica (store k.bytes m.tables) ≡ same (step_of c.in-Some.step) =
    (elim m.branch [
      | in-Ok w ↦
          (λ i. said (w.place-is i).0 (w.place-is i).1 (w.replica-is i) (store k.bytes (w.tables-is i)))
          ∙ ap (called r.0 (x.start + w.in-Ok.part.place)) w.hear.ensures.value ∙ sym (ap (λ s. same (step_of s)) w.in-Ok.is)
      | in-Err w ↦
          (λ i. said (w.place-is i).0 (w.place-is i).1 (w.replica-is i) (store k.bytes (w.tables-is i)))
          ∙ sym (ap (λ s. same (step_of s)) w.in-Err.is)
    ]) in
    step_on k.WIDTH k.valid x.sender x.start (length x.bytes.now) _ _ (left k.WIDTH c.next.new.self) r _ _ c.in-Some.ensures.steps
    (ap (λ text. (text, m.replica, store k.bytes m.tables)) c.in_ok-push_answer.ensures ∙ heard)
    l.invariant
