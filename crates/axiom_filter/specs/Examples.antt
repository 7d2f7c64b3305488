-- Worked selections. Formulas are written by the names of their symbols.
use Rattle.std.specs.Prelude.{◌≡◌, ℕ, List, [], ◌∷◌, codes}
use Rattle.tptp_tree.specs.Term.{TermTree, variable, application, no_terms, term_then}
use Rattle.tptp_tree.specs.Formula.{implies, for_all, FormulaTree, truth, predicate, negation, connected, quantified}
use Rattle.tptp_tree.specs.declared.problem.Annotated.{Annotated}
use Rattle.signature.specs.Examples.{fof_axiom, conjecture}
use Rattle.axiom_filter.specs.Selection.{kept_places}
use Rattle.axiom_filter.specs.Restriction.{kept_numbers}

abbrev pub of_one : List ℕ → TermTree → FormulaTree
of_one p t = predicate p (term_then t no_terms)

abbrev pub constant : List ℕ → TermTree
constant a = application a no_terms

-- p(X) => q(X), for each X
abbrev pub all_imply : List ℕ → List ℕ → FormulaTree
all_imply p q = quantified for_all (codes "X" ∷ []) (connected implies (of_one p (variable (codes "X"))) (of_one q (variable (codes "X"))))

-- ! [X] : (p(X) => q(X)), p(a) and r(b), with the conjecture q(a)
abbrev pub with_goal : List Annotated
with_goal =
    fof_axiom (all_imply (codes "p") (codes "q"))
    ∷ (fof_axiom (of_one (codes "p") (constant (codes "a")))
    ∷ (fof_axiom (of_one (codes "r") (constant (codes "b"))) ∷ (conjecture (of_one (codes "q") (constant (codes "a"))) ∷ [])))

-- p(a) and ~r(b), with the conjecture p(b)
abbrev pub with_frequent_symbols : List Annotated
with_frequent_symbols =
    fof_axiom (of_one (codes "p") (constant (codes "a")))
    ∷ (fof_axiom (negation (of_one (codes "r") (constant (codes "b")))) ∷ (conjecture (of_one (codes "p") (constant (codes "b"))) ∷ []))

-- p => q and q => r, with the conjecture r, all of X
abbrev pub in_two_steps : List Annotated
in_two_steps =
    fof_axiom (all_imply (codes "p") (codes "q"))
    ∷ (fof_axiom (all_imply (codes "q") (codes "r")) ∷ (conjecture (of_one (codes "r") (constant (codes "a"))) ∷ []))

-- $true and r(b), with the conjecture p(a)
abbrev pub with_truth : List Annotated
with_truth = fof_axiom truth ∷ (fof_axiom (of_one (codes "r") (constant (codes "b"))) ∷ (conjecture (of_one (codes "p") (constant (codes "a"))) ∷ []))

-- r(b) shares no symbol with what the goal reaches
abbrev pub SelectsByRarity : Type 0
SelectsByRarity = kept_places 100 1 with_goal ≡ 0 ∷ 1 ∷ 3 ∷ []

-- `p` and `b` are more frequent than the other symbols of the axioms; a tolerance of 200 lets them pass
abbrev pub ToleranceTakesMore : Type 0
ToleranceTakesMore = (kept_places 100 1 with_frequent_symbols ≡ 2 ∷ []) × (kept_places 200 1 with_frequent_symbols ≡ 0 ∷ 1 ∷ 2 ∷ [])

-- the first axiom is reached through the second
abbrev pub DepthTakesMore : Type 0
DepthTakesMore = (kept_places 200 1 in_two_steps ≡ 1 ∷ 2 ∷ []) × (kept_places 1000 2 in_two_steps ≡ 0 ∷ 1 ∷ 2 ∷ [])

abbrev pub KeepsWithoutGoal : Type 0
KeepsWithoutGoal = kept_places 100 1 (fof_axiom (of_one (codes "p") (constant (codes "a"))) ∷ (fof_axiom (of_one (codes "r") (constant (codes "b"))) ∷ [])) ≡ 0 ∷ 1 ∷ []

abbrev pub KeepsWithoutSymbols : Type 0
KeepsWithoutSymbols = kept_places 100 1 with_truth ≡ 0 ∷ 2 ∷ []

-- the clauses of the formulas 0 and 2, by the origins of all
abbrev pub PartOfForm : Type 0
PartOfForm = kept_numbers (0 ∷ 2 ∷ []) (0 ∷ 1 ∷ 1 ∷ 2 ∷ []) ≡ 0 ∷ 3 ∷ []
