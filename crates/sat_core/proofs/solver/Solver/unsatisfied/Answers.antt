use Rattle.std.proofs.Common.{sym, ap, ◌∙◌, arith}
use Rattle.std.specs.List.{list_any}
use Rattle.std.proofs.lemmas.List.{length-append}
use Rattle.sat_core.specs.Clause.{PropClause}
use Rattle.sat_core.specs.Known.{known}
use Rattle.sat_core.specs.Trail.{is_true}
use Rattle.sat_core.proofs.AboutAnswers.SolverLemmas.{no_true_literal, clauses_true_more}
use Rattle.sat_core.proofs.solver.Solver.unsatisfied.Goals as goal

pub returns-then-not-has_true_literal-clause-no_true : goal.returns-then-not-has_true_literal-clause-no_true
returns-then-not-has_true_literal-clause-no_true c =
    no_true_literal c.args.self.now.trail.slots.items _
    (ap (λ (x : PropClause). list_any (is_true c.args.self.now.trail.slots.items) x) (sym c.literals.ensures)
    ∙ sym c.has_true_literal.ensures ∙ c.if-not-has_true_literal.true)

pub loop-number-preserved : goal.loop-number-preserved
loop-number-preserved c =
    let n = length-append c.args.self.now.clauses.inputs.now c.args.self.now.clauses.learned in
    clauses_true_more c.args.self.now.trail.slots.items (known c.args.self.now.clauses) c.loop-number.number
    (omega (arith, n)) c.loop-number.invariant
    (ap (λ (x : PropClause). list_any (is_true c.args.self.now.trail.slots.items) x) (sym c.literals.ensures)
    ∙ sym c.has_true_literal.ensures ∙ c.if-not-has_true_literal.false)
