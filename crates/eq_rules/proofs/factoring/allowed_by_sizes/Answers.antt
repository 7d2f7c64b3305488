use Rattle.std.proofs.Common.{◌≡◌, ◌≤◌, true, false, List, length, arith, ap, ap₂, sym, ◌∙◌, subst}
use Rattle.std.specs.Prelude.{slice_get, IfSome}
use Rattle.std.proofs.lemmas.Option.{slice_get_within}
use Rattle.fol_base.specs.Tree.{Tree, VariablesBelow}
use Rattle.fol_base.specs.Instance.{instance}
use Rattle.fol_base.specs.Clause.{TreeLiteral, clause_variables}
use Rattle.fol_base.specs.Canonical.{bound_of}
use Rattle.fol_base.specs.Lent.{lent_of}
use Rattle.fol_base.specs.Order.{tree_greater}
use Rattle.fol_base.specs.Sides.{other_side_of}
use Rattle.fol_base.specs.Term.{tree_of}
use Rattle.fol_base.specs.declared.clause.Side.TheVariants.{Left}
use Rattle.fol_base.specs.declared.limits.TheConstants.{SIZE_LIMIT}
use Rattle.bank_clause.specs.Clause.{clause_at}
use Rattle.unifier.specs.SolvedForm.{substitution_of}
use Rattle.unifier.proofs.AboutLayouts.BoundLemmas.{fits-above}
use Rattle.eq_rules.specs.Factoring.{IsLargest}
use Rattle.eq_rules.proofs.AboutConclusions.OutsizeLemmas.{literal-few}
use Rattle.eq_rules.proofs.AboutConclusions.SideLemmas.{other_side-below}
use Rattle.eq_rules.proofs.AboutFactoring.FactorAnswers.{lent_there}
use Rattle.eq_rules.proofs.AboutFactoring.SizedLemmas.{factoring_refused, factoring_allowed}
use Rattle.eq_rules.proofs.factoring.allowed_by_sizes.Goals as goal

pub literal-becomes-requires : goal.literal-becomes-requires
literal-becomes-requires c =
    let r = c.requires.unified in
    omega (arith, ap (λ (ls : List TreeLiteral). length ls) c.lend-literals.ensures, slice_get_within _ c.args.place.becomes.literal r.literal_i r.i_there)

pub literal-other-requires : goal.literal-other-requires
literal-other-requires c =
    let r = c.requires.unified in
    omega (arith, ap (λ (ls : List TreeLiteral). length ls) c.lend-literals.ensures, slice_get_within _ c.args.place.other.literal r.literal_j r.j_there)

pub is_greater_by_size-requires-clause-fits : goal.is_greater_by_size-requires-clause-fits
is_greater_by_size-requires-clause-fits c =
    let bound = bound_of (clause_variables (clause_at c.args.given.now.clause)) in
    let few : bound ≤ SIZE_LIMIT = omega (arith, c.variable_bound.ensures.variables, c.variable_bound.ensures.limit) in
    fits-above c.args.unifier.now bound 0 SIZE_LIMIT SIZE_LIMIT few (omega arith) c.requires.unified.counted

pub is_greater_by_size-requires-clause-one_below : goal.is_greater_by_size-requires-clause-one_below
is_greater_by_size-requires-clause-one_below c =
    let d = clause_at c.args.given.now.clause in
    let at = c.args.place.other in
    subst (λ (t : Tree). VariablesBelow SIZE_LIMIT t) (sym c.other_side-coming.ensures)
    (other_side-below SIZE_LIMIT at.side (lent_of c.literal-other.result)
    (literal-few d SIZE_LIMIT at.literal (lent_of c.literal-other.result)
    (ap (λ (ls : List TreeLiteral). slice_get ls at.literal) (sym c.lend-literals.ensures) ∙ c.literal-other.ensures)
    (omega (arith, c.variable_bound.ensures.variables, c.variable_bound.ensures.limit))))

pub is_greater_by_size-requires-clause-other_below : goal.is_greater_by_size-requires-clause-other_below
is_greater_by_size-requires-clause-other_below c =
    let d = clause_at c.args.given.now.clause in
    let at = c.args.place.becomes in
    subst (λ (t : Tree). VariablesBelow SIZE_LIMIT t) (sym c.other_side-staying.ensures)
    (other_side-below SIZE_LIMIT at.side (lent_of c.literal-becomes.result)
    (literal-few d SIZE_LIMIT at.literal (lent_of c.literal-becomes.result)
    (ap (λ (ls : List TreeLiteral). slice_get ls at.literal) (sym c.lend-literals.ensures) ∙ c.literal-becomes.ensures)
    (omega (arith, c.variable_bound.ensures.variables, c.variable_bound.ensures.limit))))

pub returns-in-Some-true : goal.returns-in-Some-true
returns-in-Some-true c =
    let d = clause_at c.args.given.now.clause in
    let place = c.args.place in
    let b = c.args.unifier.now in
    let r = c.requires.unified in
    let σ = substitution_of b Left in
    let becomes_is = lent_there c.lend-literals.result d.literals place.becomes.literal (lent_of c.literal-becomes.result) r.literal_i c.lend-literals.ensures c.literal-becomes.ensures r.i_there in
    let other_is = lent_there c.lend-literals.result d.literals place.other.literal (lent_of c.literal-other.result) r.literal_j c.lend-literals.ensures c.literal-other.ensures r.j_there in
    let greater : tree_greater (instance σ (tree_of c.other_side-coming.result.now)) (instance σ (tree_of c.other_side-staying.result.now)) ≡ true =
    subst
    (λ o. IfSome o
    (λ told. tree_greater (instance σ (tree_of c.other_side-coming.result.now)) (instance σ (tree_of c.other_side-staying.result.now)) ≡ told))
    c.in-Some-true.is c.in_ok-is_greater_by_size.ensures
    ∙ c.in-Some-true.field-0-test in
    factoring_refused b d place r
    (ap₂ (λ (t u : Tree). tree_greater (instance σ t) (instance σ u))
    (sym (c.other_side-coming.ensures ∙ ap (other_side_of place.other.side) other_is))
    (sym (c.other_side-staying.ensures ∙ ap (other_side_of place.becomes.side) becomes_is))
    ∙ greater)

pub is_surely_largest-requires : goal.is_surely_largest-requires
is_surely_largest-requires c =
    let r = c.requires.unified in
    omega (arith, ap (λ (ls : List TreeLiteral). length ls) c.lend-literals.ensures, slice_get_within _ c.args.place.becomes.literal r.literal_i r.i_there)

pub returns-then-largest : goal.returns-then-largest
returns-then-largest c =
    let d = clause_at c.args.given.now.clause in
    let place = c.args.place in
    let b = c.args.unifier.now in
    let r = c.requires.unified in
    let σ = substitution_of b Left in
    let becomes_is = lent_there c.lend-literals.result d.literals place.becomes.literal (lent_of c.literal-becomes.result) r.literal_i c.lend-literals.ensures c.literal-becomes.ensures r.i_there in
    let other_is = lent_there c.lend-literals.result d.literals place.other.literal (lent_of c.literal-other.result) r.literal_j c.lend-literals.ensures c.literal-other.ensures r.j_there in
    let not_greater : tree_greater (instance σ (tree_of c.other_side-coming.result.now)) (instance σ (tree_of c.other_side-staying.result.now)) ≡ false =
    subst
    (λ o. IfSome o
    (λ told. tree_greater (instance σ (tree_of c.other_side-coming.result.now)) (instance σ (tree_of c.other_side-staying.result.now)) ≡ told))
    c.in-Some-false.is c.in_ok-is_greater_by_size.ensures
    ∙ c.in-Some-false.field-0-test in
    factoring_allowed b d place r
    (ap₂ (λ (t u : Tree). tree_greater (instance σ t) (instance σ u))
    (sym (c.other_side-coming.ensures ∙ ap (other_side_of place.other.side) other_is))
    (sym (c.other_side-staying.ensures ∙ ap (other_side_of place.becomes.side) becomes_is))
    ∙ not_greater)
    (subst (λ (ls : List TreeLiteral). IsLargest σ ls place) c.lend-literals.ensures (c.in_ok-largest-in-Some-false.ensures c.if-largest.true))
