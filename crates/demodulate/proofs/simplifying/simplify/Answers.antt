use Rattle.std.proofs.Common.{ap, sym, ◌∙◌, subst}
use Rattle.fol_base.specs.Literal.{clause_of}
use Rattle.kernel_steps.specs.Inference.{is_tautology}
use Rattle.demodulate.specs.Reducing.{IsReduction}
use Rattle.demodulate.specs.Subsuming.{IsSubsumedBySome}
use Rattle.demodulate.proofs.SimplifiedLemmas.{already, becomes-tautology, is-irreducible, is-subsumed, keeps-form}
use Rattle.demodulate.proofs.simplifying.simplify.Goals as goal

pub returns-then-is_tautology-clause-outcome : goal.returns-then-is_tautology-clause-outcome
returns-then-is_tautology-clause-outcome c =
    already c.args.by.now.equations.now c.args.by.now.units.now c.args.by.now.members.now c.args.by.now.left_out (clause_of c.args.clause.now)
    (sym c.is_tautology.ensures ∙ c.if-is_tautology.true)

pub returns-in-Tautology-clause-outcome : goal.returns-in-Tautology-clause-outcome
returns-in-Tautology-clause-outcome c =
    becomes-tautology c.args.by.now.equations.now c.args.by.now.units.now c.args.by.now.members.now c.args.by.now.left_out (clause_of c.args.clause.now)
    c.in_ok-reduced.reduced c.reduce.new.reduced c.in_ok-reduced.ensures.same c.in_ok-reduced.ensures.reduced c.reduce.ensures.further
    (subst
    (IsReduction c.args.by.now.equations.now c.args.by.now.units.now c.args.by.now.left_out c.in_ok-reduced.reduced c.reduce.new.reduced)
    c.in-Tautology.is c.in_ok-reduce.ensures.ok)

pub returns-in-Some-clause-outcome : goal.returns-in-Some-clause-outcome
returns-in-Some-clause-outcome c =
    is-subsumed c.args.by.now.equations.now c.args.by.now.units.now c.args.by.now.members.now c.args.by.now.left_out (clause_of c.args.clause.now)
    c.in_ok-reduced.reduced c.reduce.new.reduced c.in_ok-reduced.ensures.same c.in_ok-reduced.ensures.reduced c.reduce.ensures.further
    c.in-Some.number
    (subst
    (IsSubsumedBySome c.args.by.now.equations.now c.args.by.now.units.now c.args.by.now.members.now c.args.by.now.left_out (clause_of c.reduce.new.reduced.clause))
    c.in-Some.is c.in_ok-number-in-Irreducible.ensures)

pub returns-in-None-clause-outcome : goal.returns-in-None-clause-outcome
returns-in-None-clause-outcome c =
    let ended =
    subst
    (IsReduction c.args.by.now.equations.now c.args.by.now.units.now c.args.by.now.left_out c.in_ok-reduced.reduced c.reduce.new.reduced)
    c.in-Irreducible.is c.in_ok-reduce.ensures.ok in
    is-irreducible c.args.by.now.equations.now c.args.by.now.units.now c.args.by.now.members.now c.args.by.now.left_out (clause_of c.args.clause.now)
    c.in_ok-reduced.reduced c.reduce.new.reduced c.in_ok-reduced.ensures.same c.in_ok-reduced.ensures.reduced c.reduce.ensures.further
    ended.0 (ended.1 (ap is_tautology c.in_ok-reduced.ensures.same ∙ sym c.is_tautology.ensures ∙ c.if-is_tautology.false))
    (subst
    (IsSubsumedBySome c.args.by.now.equations.now c.args.by.now.units.now c.args.by.now.members.now c.args.by.now.left_out (clause_of c.reduce.new.reduced.clause))
    c.in-None.is c.in_ok-number-in-Irreducible.ensures)

pub returns-in-None-clause-form : goal.returns-in-None-clause-form
returns-in-None-clause-form c =
    keeps-form c.args.by.now.equations.now c.args.by.now.units.now c.args.by.now.members.now c.args.by.now.left_out (clause_of c.args.clause.now)
    c.in_ok-reduced.reduced c.reduce.new.reduced c.in_ok-reduced.ensures.same c.in_ok-reduced.ensures.reduced c.reduce.ensures.further
