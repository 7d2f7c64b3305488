-- The printing and the sizes of small formulas.
use Rattle.std.specs.Prelude.{◌≡◌, ◌+◌, true, false, List, [], ◌∷◌, length, codes}
use Rattle.tptp_tree.specs.Term.{TermTree, variable, application, no_terms, term_then}
use Rattle.tptp_tree.specs.Formula.{implies, for_all, FormulaTree, truth, predicate, equation, negation, conjunction, disjunction, connected, quantified, no_formulas, formula_then}
use Rattle.tptp_tree.specs.declared.limits.TheConstants.{MOST_PROBLEM_SIZE}
use Rattle.tptp_tree.specs.declared.formula.Formula.TheVariants.{True}
use Rattle.tptp_tree.specs.declared.problem.Annotated.{Annotated}
use Rattle.tptp_tree.specs.declared.role.Role.TheVariants.{Axiom}
use Rattle.tptp_tree.specs.ProblemSize.{occurrences, problem_size, HasProblemSize}
use Rattle.tptp_tree.specs.Printing.{formula_text}

abbrev p : FormulaTree
p = predicate (codes "p") no_terms

abbrev q : FormulaTree
q = predicate (codes "q") no_terms

abbrev a : TermTree
a = application (codes "a") no_terms

-- the body of a quantifier in parentheses
abbrev pub BoundImplication : Type 0
BoundImplication =
    formula_text (quantified for_all (codes "X" ∷ []) (connected implies (predicate (codes "p") (term_then (variable (codes "X")) no_terms)) q))
    ≡ codes "! [X] : (p(X) => q)"

-- a negated formula in parentheses
abbrev pub NegatedConjunction : Type 0
NegatedConjunction = formula_text (negation (conjunction (formula_then p (formula_then q no_formulas)))) ≡ codes "~(p & q)"

-- a negated equation is no inequation
abbrev pub NegatedEquation : Type 0
NegatedEquation = formula_text (negation (equation true a a)) ≡ codes "~(a = a)"

-- operands that are negations or quantified stand bare
abbrev pub BareOperands : Type 0
BareOperands =
    formula_text
    (disjunction (formula_then (negation (negation truth)) (formula_then (quantified for_all (codes "X" ∷ codes "Y" ∷ []) p) (formula_then (conjunction (formula_then p (formula_then q no_formulas))) no_formulas))))
    ≡ codes "~~$true | ! [X,Y] : p | (p & q)"

-- p, its X, q, and the X of the quantifier
abbrev pub OccurrencesInImplication : Type 0
OccurrencesInImplication =
    occurrences (quantified for_all (codes "X" ∷ []) (connected implies (predicate (codes "p") (term_then (variable (codes "X")) no_terms)) q)) ≡ 4

-- `$true` is no symbol that occurs
abbrev pub OccurrencesInTruth : Type 0
OccurrencesInTruth = occurrences (disjunction (formula_then truth (formula_then (equation false a a) no_formulas))) ≡ 2

-- the axiom `$true`
abbrev true_axiom : Annotated
true_axiom = record { name = []; role = Axiom; clause = false; formula = True; file = []; place = 0 }

-- two formulas in which nothing occurs
abbrev pub SizeOfTwoFormulas : Type 0
SizeOfTwoFormulas = problem_size (true_axiom ∷ true_axiom ∷ []) ≡ 2

abbrev pub TwoFormulasFit : Type 0
TwoFormulasFit = HasProblemSize (true_axiom ∷ true_axiom ∷ [])

-- one formula more than a problem may have
abbrev pub TooManyFormulas : Type 0
TooManyFormulas = (fs : List Annotated) → length fs ≡ MOST_PROBLEM_SIZE + 1 → HasProblemSize fs → ⊥
