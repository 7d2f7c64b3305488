use Rattle.std.proofs.Common.{◌≡◌, ℕ, ◌<◌, ◌+◌, ◌-◌, List, length, get_or, Some, map, ◌≤◌, refl, sym, ◌∙◌, subst, arith}
use Rattle.std.specs.Prelude.{slice_get}
use Rattle.std.proofs.lemmas.Option.{slice_get_read, slice_get-get_or}
use Rattle.fol_base.specs.Clause.{TreeLiteral, TreeClause}
use Rattle.fol_base.specs.Literal.{clause_of}
use Rattle.kernel_steps.specs.declared.step.Step.{Step}
use Rattle.kernel_steps.specs.declared.step.Line.{Line}
use Rattle.split_parts.specs.SignedNames.{named}
use Rattle.tstp_writer.specs.Cone.{StepsNeedEarlier, IsStepCone}
use Rattle.pool_writer.proofs.AboutRetracing.NeededLemmas.{AreNeeded, needed-of}
use Rattle.pool_writer.proofs.AboutRetracing.RisingLemmas.{at-has}
use Rattle.pool_writer.proofs.AboutRetracing.RetraceLemmas.{IsBuilt, built-none, can-conclude, built-one-more, needed-low, is-refutation, is-retracing, all-needed}
use Rattle.pool_writer.proofs.retrace.refutation.Goals as goal

pub loop-number-init : goal.loop-number-init
loop-number-init c =
    subst (IsBuilt (map clause_of c.args.form.now) (named c.args.parts.now.parts) c.args.steps.now c.as_slice-numbers.result.now 0)
    (sym (c.from_vec-lines.ensures ∙ c.in_ok-with_capacity.ensures.items))
    (built-none (map clause_of c.args.form.now) (named c.args.parts.now.parts) c.args.steps.now c.as_slice-numbers.result.now)

-- each number is a step's
within :
    (steps : List Step) (numbers : List ℕ) (k : ℕ) → 0 < length steps → StepsNeedEarlier steps → AreNeeded steps numbers
    → k < length numbers → get_or numbers k 0 < length steps
within steps numbers k some earlier needed less =
    omega (arith, some, needed-low steps numbers needed earlier (get_or numbers k 0) (at-has numbers k (get_or numbers k 0) (slice_get-get_or numbers k 0 less)))

pub bounds-steps-number : goal.bounds-steps-number
bounds-steps-number c =
    within c.args.steps.now c.as_slice-numbers.result.now c.loop-number.number-index c.prove_steps.ensures.some c.prove_steps.ensures.earlier
    (needed-of c.args.steps.now c.as_slice-numbers.result.now (subst (IsStepCone c.args.steps.now (length c.args.steps.now - 1)) (sym c.as_slice-numbers.ensures) c.in_ok-numbers.ensures)) c.loop-number-test.true

pub offset_bounds-steps-number : goal.offset_bounds-steps-number
offset_bounds-steps-number c =
    let low =
    within c.args.steps.now c.as_slice-numbers.result.now c.loop-number.number-index c.prove_steps.ensures.some c.prove_steps.ensures.earlier
    (needed-of c.args.steps.now c.as_slice-numbers.result.now (subst (IsStepCone c.args.steps.now (length c.args.steps.now - 1)) (sym c.as_slice-numbers.ensures) c.in_ok-numbers.ensures)) c.loop-number-test.true in
    record { fits = omega (arith, low, c.well_formed) }

-- the step of the number at an index
step-there :
    (steps : List Step) (numbers : List ℕ) (k : ℕ) (step : Step) → 0 < length steps → StepsNeedEarlier steps → AreNeeded steps numbers
    → k < length numbers → step ≡ get_or steps (get_or numbers k 0) step → slice_get steps (get_or numbers k 0) ≡ Some step
step-there steps numbers k step some earlier needed less is =
    slice_get_read steps (length steps) (get_or numbers k 0) step refl (within steps numbers k some earlier needed less) is

pub retraced-requires-clause-rising : goal.retraced-requires-clause-rising
retraced-requires-clause-rising c =
    (needed-of c.args.steps.now c.as_slice-numbers.result.now
    (subst (IsStepCone c.args.steps.now (length c.args.steps.now - 1)) (sym c.as_slice-numbers.ensures) c.in_ok-numbers.ensures)).rising

pub retraced-requires-clause-comes : goal.retraced-requires-clause-comes
retraced-requires-clause-comes c =
    let needed : AreNeeded c.args.steps.now c.as_slice-numbers.result.now =
    needed-of c.args.steps.now c.as_slice-numbers.result.now
    (subst (IsStepCone c.args.steps.now (length c.args.steps.now - 1)) (sym c.as_slice-numbers.ensures) c.in_ok-numbers.ensures) in
    can-conclude (map clause_of c.args.form.now) (named c.args.parts.now.parts) c.args.steps.now c.as_slice-numbers.result.now needed c.loop-number.number-index
    (get_or c.as_slice-numbers.result.now c.loop-number.number-index 0)
    (slice_get-get_or c.as_slice-numbers.result.now c.loop-number.number-index 0 c.loop-number-test.true)
    c.loop-number.lines c.loop-number.invariant c.index-steps-number.result
    (step-there c.args.steps.now c.as_slice-numbers.result.now c.loop-number.number-index c.index-steps-number.result c.prove_steps.ensures.some
    c.prove_steps.ensures.earlier needed c.loop-number-test.true c.index-steps-number.is)
    c.requires.lines c.requires.refutes.derived c.requires.bodies_are c.requires.same

pub loop-number-preserved : goal.loop-number-preserved
loop-number-preserved c =
    let needed : AreNeeded c.args.steps.now c.as_slice-numbers.result.now =
    needed-of c.args.steps.now c.as_slice-numbers.result.now
    (subst (IsStepCone c.args.steps.now (length c.args.steps.now - 1)) (sym c.as_slice-numbers.ensures) c.in_ok-numbers.ensures) in
    subst (IsBuilt (map clause_of c.args.form.now) (named c.args.parts.now.parts) c.args.steps.now c.as_slice-numbers.result.now (c.loop-number.number-index + 1))
    (sym c.in_ok-push.ensures.ok)
    (built-one-more (map clause_of c.args.form.now) (named c.args.parts.now.parts) c.args.steps.now c.as_slice-numbers.result.now needed c.loop-number.number-index
    (get_or c.as_slice-numbers.result.now c.loop-number.number-index 0)
    (slice_get-get_or c.as_slice-numbers.result.now c.loop-number.number-index 0 c.loop-number-test.true)
    c.loop-number.lines c.loop-number.invariant c.index-steps-number.result
    (step-there c.args.steps.now c.as_slice-numbers.result.now c.loop-number.number-index c.index-steps-number.result c.prove_steps.ensures.some
    c.prove_steps.ensures.earlier needed c.loop-number-test.true c.index-steps-number.is)
    c.in_ok-line.line c.in_ok-line.ensures.step c.in_ok-line.ensures.clause)

-- the lines of all numbers
all-built :
    (form : List TreeClause) (bodies : List (List TreeLiteral)) (steps : List Step) (numbers : List ℕ) (k : ℕ) (lines : List Line)
    → k ≤ length numbers → length numbers ≤ k → IsBuilt form bodies steps numbers k lines → IsBuilt form bodies steps numbers (length numbers) lines
all-built form bodies steps numbers k lines low high built = subst (λ n. IsBuilt form bodies steps numbers n lines) (omega (arith, low, high)) built

pub returns-clause-refutes : goal.returns-clause-refutes
returns-clause-refutes c =
    is-refutation (map clause_of c.args.form.now) (named c.args.parts.now.parts) c.args.steps.now c.requires c.as_slice-numbers.result.now
    (needed-of c.args.steps.now c.as_slice-numbers.result.now (subst (IsStepCone c.args.steps.now (length c.args.steps.now - 1)) (sym c.as_slice-numbers.ensures) c.in_ok-numbers.ensures)) c.loop-number.lines
    (all-built (map clause_of c.args.form.now) (named c.args.parts.now.parts) c.args.steps.now c.as_slice-numbers.result.now c.loop-number.number-index c.loop-number.lines
    c.loop-number.auto.number-index-end c.loop-number-test.false c.loop-number.invariant)

pub returns-clause-retraced : goal.returns-clause-retraced
returns-clause-retraced c =
    is-retracing (map clause_of c.args.form.now) (named c.args.parts.now.parts) c.args.steps.now c.requires c.as_slice-numbers.result.now
    (needed-of c.args.steps.now c.as_slice-numbers.result.now (subst (IsStepCone c.args.steps.now (length c.args.steps.now - 1)) (sym c.as_slice-numbers.ensures) c.in_ok-numbers.ensures)) c.loop-number.lines
    (all-built (map clause_of c.args.form.now) (named c.args.parts.now.parts) c.args.steps.now c.as_slice-numbers.result.now c.loop-number.number-index c.loop-number.lines
    c.loop-number.auto.number-index-end c.loop-number-test.false c.loop-number.invariant)
    (subst (IsStepCone c.args.steps.now (length c.args.steps.now - 1)) (sym c.as_slice-numbers.ensures) c.in_ok-numbers.ensures)

pub returns-clause-all_needed : goal.returns-clause-all_needed
returns-clause-all_needed c =
    all-needed (map clause_of c.args.form.now) (named c.args.parts.now.parts) c.args.steps.now c.requires c.as_slice-numbers.result.now
    (needed-of c.args.steps.now c.as_slice-numbers.result.now (subst (IsStepCone c.args.steps.now (length c.args.steps.now - 1)) (sym c.as_slice-numbers.ensures) c.in_ok-numbers.ensures)) c.loop-number.lines
    (all-built (map clause_of c.args.form.now) (named c.args.parts.now.parts) c.args.steps.now c.as_slice-numbers.result.now c.loop-number.number-index c.loop-number.lines
    c.loop-number.auto.number-index-end c.loop-number-test.false c.loop-number.invariant)
