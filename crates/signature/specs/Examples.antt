-- The problems of the worked examples: entries, formulas over names, and clauses over numbers of symbols.
use Rattle.std.specs.Prelude.{ℕ, Bool, true, false, List, [], ◌∷◌, ◌++◌, map, codes}
use Rattle.std.specs.Fmt.{decimal}
use Rattle.tptp_tree.specs.Term.{TermTree, variable, application, TermTrees, no_terms, term_then, list_of_terms}
use Rattle.tptp_tree.specs.Formula.{implies, implied, equivalent, different, nor, nand, for_all, exists_some, FormulaTree, truth, falsity, predicate, equation, negation, conjunction, disjunction, connected, quantified, formulas_of, list_of_formulas}
use Rattle.tptp_tree.specs.declared.term.TreeTerm.{TreeTerm}
use Rattle.tptp_tree.specs.declared.term.TreeTerm.TheVariants.{Var, App}
use Rattle.tptp_tree.specs.declared.formula.Formula.{Formula}
use Rattle.tptp_tree.specs.declared.formula.Formula.TheVariants.{True, False, Pred, Equal, NotEqual, Not, And, Or, Implies, Implied, Iff, Xor, Nor, Nand, All, Ex}
use Rattle.tptp_tree.specs.declared.role.Role.{Role}
use Rattle.tptp_tree.specs.declared.role.Role.TheVariants.{Axiom, Conjecture}
use Rattle.tptp_tree.specs.declared.problem.Annotated.{Annotated}
use Rattle.fol_base.specs.Tree.{Tree, true_tree, trees_of, variable as tree_variable, application as tree_application}
use Rattle.fol_base.specs.Clause.{TreeLiteral, TreeClause}
use Rattle.fol_base.specs.Canonical.{numbers_from}
use Rattle.fol_base.specs.Interpretation.{Interpretation}
use Rattle.signature.specs.declared.symbol.Symbol.{Symbol}
use Rattle.signature.specs.Occurrences.{problem_symbols}
use Rattle.signature.specs.Symbol.{true_symbol, predicate_symbol, function_symbol}
use Rattle.signature.specs.Truth.{formula_true}
use Rattle.signature.specs.Form.{clausal_form}

-- ---- entries

abbrev pub program_term : TermTree → TreeTerm
program_term (variable x) = Var x
program_term (application f ts) = App f (list_of_terms ts)

-- the program's formula that is this tree
abbrev pub program_formula : FormulaTree → Formula
program_formula truth = True
program_formula falsity = False
program_formula (predicate p ts) = Pred p (list_of_terms ts)
program_formula (equation true s t) = Equal (program_term s) (program_term t)
program_formula (equation false s t) = NotEqual (program_term s) (program_term t)
program_formula (negation f) = Not f
program_formula (conjunction fs) = And (list_of_formulas fs)
program_formula (disjunction fs) = Or (list_of_formulas fs)
program_formula (connected implies f g) = Implies f g
program_formula (connected implied f g) = Implied f g
program_formula (connected equivalent f g) = Iff f g
program_formula (connected different f g) = Xor f g
program_formula (connected nor f g) = Nor f g
program_formula (connected nand f g) = Nand f g
program_formula (quantified for_all xs f) = All xs f
program_formula (quantified exists_some xs f) = Ex xs f

abbrev pub entry : Role → Bool → FormulaTree → Annotated
entry role is_clause f = record { name = []; role = role; clause = is_clause; formula = program_formula f; file = []; place = 0 }

abbrev pub fof_axiom : FormulaTree → Annotated
fof_axiom f = entry Axiom false f

abbrev pub cnf_axiom : FormulaTree → Annotated
cnf_axiom f = entry Axiom true f

abbrev pub conjecture : FormulaTree → Annotated
conjecture f = entry Conjecture false f

-- the problem that has that formula as its only axiom, by its symbols, and by the clauses and the signature of its form
abbrev pub symbols_of : FormulaTree → List Symbol
symbols_of f = problem_symbols (fof_axiom f ∷ [])

abbrev pub clauses : FormulaTree → List TreeClause
clauses f = (clausal_form (fof_axiom f ∷ [])).clauses

abbrev pub signature_of : FormulaTree → List Symbol
signature_of f = (clausal_form (fof_axiom f ∷ [])).symbols

-- ---- formulas

abbrev pub x : List ℕ
x = codes "X"

abbrev pub y : List ℕ
y = codes "Y"

abbrev pub z : List ℕ
z = codes "Z"

abbrev pub w : List ℕ
w = codes "W"

-- an atom, its arguments variables
abbrev pub atom_of : List ℕ → List (List ℕ) → FormulaTree
atom_of p xs = predicate p (variables_of xs)
  where
    variables_of : List (List ℕ) → TermTrees
    variables_of [] = no_terms
    variables_of (x ∷ xs) = term_then (variable x) (variables_of xs)

abbrev pub p : FormulaTree
p = atom_of (codes "p") []

abbrev pub q : FormulaTree
q = atom_of (codes "q") []

abbrev pub p_of : List ℕ → FormulaTree
p_of x = atom_of (codes "p") (x ∷ [])

abbrev pub r_of : List ℕ → List ℕ → FormulaTree
r_of x y = atom_of (codes "r") (x ∷ y ∷ [])

-- the constants a and b
abbrev pub a : TermTree
a = application (codes "a") no_terms

abbrev pub b : TermTree
b = application (codes "b") no_terms

-- f of a term
abbrev pub f_of : TermTree → TermTree
f_of t = application (codes "f") (term_then t no_terms)

abbrev pub all_of : List FormulaTree → FormulaTree
all_of fs = conjunction (formulas_of fs)

abbrev pub one_of : List FormulaTree → FormulaTree
one_of fs = disjunction (formulas_of fs)

-- the atoms of a letter with a run of numbers from n on, at variables
abbrev pub atoms : List ℕ → List (List ℕ) → ℕ → ℕ → List FormulaTree
atoms letter xs n count = map (λ i. atom_of (letter ++ decimal i) xs) (numbers_from n count)

-- the conjunctions of pI and qI for a run of numbers I from n on, at variables
abbrev pub pairs : List (List ℕ) → ℕ → ℕ → List FormulaTree
pairs xs n count =
    map (λ i. all_of (atom_of (codes "p" ++ decimal i) xs ∷ atom_of (codes "q" ++ decimal i) xs ∷ [])) (numbers_from n count)

-- ---- problems

-- `? [X] : p(X)`, the conjecture `! [X] : p(X)`, and with `cnf` the clause `p(X) | ~r(Y,X)`
abbrev pub mixed : List Annotated
mixed =
    fof_axiom (quantified exists_some (x ∷ []) (p_of x)) ∷ conjecture (quantified for_all (x ∷ []) (p_of x))
    ∷ cnf_axiom (one_of (p_of x ∷ negation (r_of y x) ∷ [])) ∷ []

-- two axioms, each of them nine atoms or nine atoms
abbrev pub nine_by_nine : List Annotated
nine_by_nine =
    fof_axiom (one_of (all_of (atoms (codes "a") [] 1 9) ∷ all_of (atoms (codes "b") [] 1 9) ∷ []))
    ∷ fof_axiom (one_of (all_of (atoms (codes "c") [] 1 9) ∷ all_of (atoms (codes "d") [] 1 9) ∷ [])) ∷ []

-- ---- clauses

-- the variable of that number
abbrev pub v : ℕ → Tree
v n = tree_variable n

-- the term of a symbol by its number
abbrev pub term : ℕ → List Tree → Tree
term symbol ts = tree_application symbol (trees_of ts)

-- the atom of a symbol by its number, with a sign
abbrev pub literal : Bool → ℕ → List Tree → TreeLiteral
literal sign symbol ts = record { positive = sign; left = term symbol ts; right = true_tree }

abbrev pub clause : List TreeLiteral → TreeClause
clause ls = record { literals = ls; names = [] }

-- the clause of two propositions, 1 and 2, with their signs
abbrev pub both : Bool → Bool → TreeClause
both first second = clause (literal first 1 [] ∷ literal second 2 [] ∷ [])

-- the clause of one proposition
abbrev pub unit : Bool → ℕ → TreeClause
unit sign symbol = clause (literal sign symbol [] ∷ [])

-- the clause of an equation of the constants 1 and 2
abbrev pub sides : Bool → TreeClause
sides sign = clause (record { positive = sign; left = term 1 []; right = term 2 [] } ∷ [])

-- the clauses of a literal and an atom, one for each of `count` symbols from the first on, at variables
abbrev pub before_each : TreeLiteral → ℕ → ℕ → List Tree → List TreeClause
before_each l first count ts = map (λ s. clause (l ∷ literal true s ts ∷ [])) (numbers_from first count)

-- ---- interpretations

-- two values, of which p holds for 0 alone
abbrev pub p_of_zero_alone : Interpretation
p_of_zero_alone = record { size = 2; rows = record { symbol = 1; arguments = 0 ∷ []; value = 1 } ∷ [] }

-- two values, of which p holds for both
abbrev pub p_of_both : Interpretation
p_of_both =
    record {
      size = 2;
      rows = record { symbol = 1; arguments = 0 ∷ []; value = 1 } ∷ record { symbol = 1; arguments = 1 ∷ []; value = 1 } ∷ [];
    }

-- whether a formula of the propositions p and q is true where p holds and q doesn't
abbrev pub where_p_holds : FormulaTree → Bool
where_p_holds f =
    formula_true (true_symbol ∷ predicate_symbol (codes "p") 0 ∷ predicate_symbol (codes "q") 0 ∷ [])
    (record { size = 1; rows = record { symbol = 1; arguments = []; value = 1 } ∷ [] }) f []

-- whether one of the constants a and b and of f is true where they are 0 and 1, and f exchanges them
abbrev pub where_f_exchanges : FormulaTree → Bool
where_f_exchanges f =
    formula_true (true_symbol ∷ function_symbol (codes "a") 0 ∷ function_symbol (codes "b") 0 ∷ function_symbol (codes "f") 1 ∷ [])
    (record {
      size = 2;
      rows =
          record { symbol = 2; arguments = []; value = 1 } ∷ record { symbol = 3; arguments = 0 ∷ []; value = 1 }
          ∷ record { symbol = 3; arguments = 1 ∷ []; value = 0 } ∷ [];
    }) f []
