use Rattle.std.proofs.Common.{◌≡◌, true, List, ap, sym, ◌∙◌, subst}
use Rattle.std.specs.Prelude.{slice_get}
use Rattle.std.proofs.lemmas.Option.{slice_get_within}
use Rattle.fol_base.specs.Canonical.{bound_of, terms_from}
use Rattle.fol_base.specs.Clause.{TreeLiteral, clause_variables}
use Rattle.fol_base.specs.Lent.{lent_of}
use Rattle.fol_base.specs.Literal.{clause_of}
use Rattle.bank_clause.specs.Clause.{clause_at}
use Rattle.unifier.specs.Matching.{are_below, by_pairs}
use Rattle.eq_rules.proofs.AboutConclusions.PremiseLemmas.{literal-below}
use Rattle.unit_cutting.proofs.AboutCuts.CutAnswers.{applies-first, applies-second, own-covered, unit-covered}
use Rattle.unit_cutting.proofs.cut_lines.first_line.Goals as goal

pub subst-requires : goal.subst-requires
subst-requires c =
    let uc = clause_at c.args.unit.now.clause in
    let of = c.requires.cut in
    subst (λ n. are_below n c.args.cut.now.fitting.terms ≡ true) (sym c.variable_bound.ensures.variables)
    (of.cuts.fits.below (bound_of (clause_variables uc)) (literal-below uc 0 of.literal (ap (λ (ls : List TreeLiteral). slice_get ls 0) of.is_unit)))

pub literal-literal-requires : goal.literal-literal-requires
literal-literal-requires c = slice_get_within (clause_of c.args.clause.now).literals c.args.cut.now.index c.requires.cut.cuts.literal c.requires.cut.cuts.there

pub number_first-requires-clause-inside : goal.number_first-requires-clause-inside
number_first-requires-clause-inside c = slice_get_within (clause_of c.args.clause.now).literals c.args.cut.now.index c.requires.cut.cuts.literal c.requires.cut.cuts.there

pub number_in_place-requires-clause-inside : goal.number_in_place-requires-clause-inside
number_in_place-requires-clause-inside c = slice_get_within (clause_of c.args.clause.now).literals c.args.cut.now.index c.requires.cut.cuts.literal c.requires.cut.cuts.there

pub superposition_line-requires-clause-first_covered : goal.superposition_line-requires-clause-first_covered
superposition_line-requires-clause-first_covered c =
    own-covered (clause_at c.args.unit.now.clause) (clause_of c.args.clause.now) c.args.cut.now c.requires.cut (lent_of c.literal-literal.result) c.literal-literal.ensures
    c.in_ok-own.own c.in_ok-unit_terms.unit_terms c.lend-unit_literals.result c.open_side-side.result c.fitting_side.result c.in_ok-own.ensures
    (c.in_ok-unit_terms.ensures.terms ∙ ap (λ n. terms_from 0 n (by_pairs c.args.cut.now.fitting.terms)) c.variable_bound.ensures.variables)
    c.lend-unit_literals.ensures c.open_side-side.ensures c.fitting_side.ensures

pub superposition_line-requires-clause-second_covered : goal.superposition_line-requires-clause-second_covered
superposition_line-requires-clause-second_covered c =
    unit-covered (clause_at c.args.unit.now.clause) (clause_of c.args.clause.now) c.args.cut.now c.requires.cut (lent_of c.literal-literal.result) c.literal-literal.ensures
    c.in_ok-own.own c.in_ok-unit_terms.unit_terms c.lend-unit_literals.result c.open_side-side.result c.fitting_side.result c.in_ok-own.ensures
    (c.in_ok-unit_terms.ensures.terms ∙ ap (λ n. terms_from 0 n (by_pairs c.args.cut.now.fitting.terms)) c.variable_bound.ensures.variables)
    c.lend-unit_literals.ensures c.open_side-side.ensures c.fitting_side.ensures

pub superposition_line-requires-clause-applies : goal.superposition_line-requires-clause-applies
superposition_line-requires-clause-applies c =
    applies-first (clause_at c.args.unit.now.clause) (clause_of c.args.clause.now) c.args.cut.now c.requires.cut (lent_of c.literal-literal.result) c.literal-literal.ensures
    c.in_ok-own.own c.in_ok-unit_terms.unit_terms c.lend-unit_literals.result c.open_side-side.result c.fitting_side.result c.in_ok-own.ensures
    (c.in_ok-unit_terms.ensures.terms ∙ ap (λ n. terms_from 0 n (by_pairs c.args.cut.now.fitting.terms)) c.variable_bound.ensures.variables)
    c.lend-unit_literals.ensures c.open_side-side.ensures c.fitting_side.ensures c.if-literal.true

pub superposition_line-requires-else-literal-clause-first_covered : goal.superposition_line-requires-else-literal-clause-first_covered
superposition_line-requires-else-literal-clause-first_covered c =
    unit-covered (clause_at c.args.unit.now.clause) (clause_of c.args.clause.now) c.args.cut.now c.requires.cut (lent_of c.literal-literal.result) c.literal-literal.ensures
    c.in_ok-own.own c.in_ok-unit_terms.unit_terms c.lend-unit_literals.result c.open_side-side.result c.fitting_side.result c.in_ok-own.ensures
    (c.in_ok-unit_terms.ensures.terms ∙ ap (λ n. terms_from 0 n (by_pairs c.args.cut.now.fitting.terms)) c.variable_bound.ensures.variables)
    c.lend-unit_literals.ensures c.open_side-side.ensures c.fitting_side.ensures

pub superposition_line-requires-else-literal-clause-second_covered : goal.superposition_line-requires-else-literal-clause-second_covered
superposition_line-requires-else-literal-clause-second_covered c =
    own-covered (clause_at c.args.unit.now.clause) (clause_of c.args.clause.now) c.args.cut.now c.requires.cut (lent_of c.literal-literal.result) c.literal-literal.ensures
    c.in_ok-own.own c.in_ok-unit_terms.unit_terms c.lend-unit_literals.result c.open_side-side.result c.fitting_side.result c.in_ok-own.ensures
    (c.in_ok-unit_terms.ensures.terms ∙ ap (λ n. terms_from 0 n (by_pairs c.args.cut.now.fitting.terms)) c.variable_bound.ensures.variables)
    c.lend-unit_literals.ensures c.open_side-side.ensures c.fitting_side.ensures

pub superposition_line-requires-else-literal-clause-applies : goal.superposition_line-requires-else-literal-clause-applies
superposition_line-requires-else-literal-clause-applies c =
    applies-second (clause_at c.args.unit.now.clause) (clause_of c.args.clause.now) c.args.cut.now c.requires.cut (lent_of c.literal-literal.result) c.literal-literal.ensures
    c.in_ok-own.own c.in_ok-unit_terms.unit_terms c.lend-unit_literals.result c.open_side-side.result c.fitting_side.result c.in_ok-own.ensures
    (c.in_ok-unit_terms.ensures.terms ∙ ap (λ n. terms_from 0 n (by_pairs c.args.cut.now.fitting.terms)) c.variable_bound.ensures.variables)
    c.lend-unit_literals.ensures c.open_side-side.ensures c.fitting_side.ensures c.if-literal.false
