use Rattle.std.proofs.Common.{◌≡◌, ℕ, List, ◌∷◌, map, None, sym, ap, subst, arith}
use Rattle.std.proofs.lemmas.List.{length-map}
use Rattle.std.specs.List.{AllByRecursion}
use Rattle.theory.specs.Statement.{Stmt}
use Rattle.wire.specs.Codec.{unfit}
use Rattle.replica.specs.Claims.{claim_of}
use Rattle.showing.specs.Spoken.{spoken, spelled}
use Rattle.showing.proofs.Laying.{Laid, laid_start, laid_count, laid_more, laid_stop, laid_first, laid_end}
use Rattle.showing.proofs.output.lay.Goals as goal

-- the invariant, of the statements that are left
abbrev Still : ℕ → List ℕ → List (Stmt (List ℕ)) → ℕ → ℕ → ℕ → List ℕ → List (Stmt (List ℕ)) → Type 0
Still w was all number at next out rest = AllByRecursion (λ s. unfit w (spoken s) ≡ None) rest × Laid was (map spelled all) (map spelled rest) number at next out

onward :
    (w : ℕ) (was : List ℕ) (all : List (Stmt (List ℕ))) (number at next : ℕ) (out : List ℕ) (left rest : List (Stmt (List ℕ))) (s : Stmt (List ℕ))
    → left ≡ s ∷ rest → Still w was all number at next out left → Still w was all number at next out (s ∷ rest)
onward w was all number at next out left rest s e = subst (Still w was all number at next out) e

pub loop-claim-init : goal.loop-claim-init
loop-claim-init g c =
    let out = c.args.out.now in
    subst (Still g.K.Entry.WIDTH out c.args.board c.args.number 0 c.args.number out)
    (sym c.into_iter-claim-iterator.ensures.into_iter_gives)
    (c.requires.fit, laid_start out (map spelled c.args.board) c.args.number)

pub overflow_add-shown-in-Ok : goal.overflow_add-shown-in-Ok
overflow_add-shown-in-Ok g c =
    let l = (onward _ _ _ _ _ _ _ _ _ (claim_of g.K.Entry.bytes c.in-Some.claim) c.in-Some.ensures.steps c.loop-claim.invariant).1 in
    omega (arith, laid_count _ _ _ _ _ _ _ l, length-map c.args.board spelled, c.requires.few)

pub loop-claim-preserved : goal.loop-claim-preserved
loop-claim-preserved g c =
    let l = onward _ _ _ _ _ _ _ _ _ (claim_of g.K.Entry.bytes c.in-Some.claim) c.in-Some.ensures.steps c.loop-claim.invariant in
    (l.0.1, laid_more _ _ _ _ _ _ _ _ c.write.new.out l.1 c.in-Ok.bytes c.in-Ok.ensures)

pub returns-then-shown-number : goal.returns-then-shown-number
returns-then-shown-number g c =
    let l = (onward _ _ _ _ _ _ _ _ _ (claim_of g.K.Entry.bytes c.in-Some.claim) c.in-Some.ensures.steps c.loop-claim.invariant).1 in
    laid_first _ _ _ _ _ _ _ _ c.write.new.out l _ c.in-Err.ensures c.if-shown-number.true

pub returns-else-shown-number : goal.returns-else-shown-number
returns-else-shown-number g c =
    let l = (onward _ _ _ _ _ _ _ _ _ (claim_of g.K.Entry.bytes c.in-Some.claim) c.in-Some.ensures.steps c.loop-claim.invariant).1 in
    laid_stop _ _ _ _ _ _ _ _ c.write.new.out l _ c.in-Err.ensures c.if-shown-number.false

pub returns-in-None : goal.returns-in-None
returns-in-None g c = laid_end _ _ _ _ _ _ _ c.loop-claim.invariant.1 (ap (map spelled) c.in-None.ensures.steps.0)
