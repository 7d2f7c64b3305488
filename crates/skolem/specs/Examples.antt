-- The forms of the worked examples, over the names p, r, X, Y, Z.
use Rattle.std.specs.Prelude.{ℕ, true, List, [], ◌∷◌, codes}
use Rattle.tptp_tree.specs.Term.{TermTree, variable, application as application_of, no_terms, term_then}
use Rattle.tptp_tree.specs.Formula.{FormulaTree, predicate}
use Rattle.fol_base.specs.Tree.{variable as numbered, application, no_trees, tree_then}
use Rattle.fol_base.specs.Clause.{TreeLiteral}
use Rattle.signature.specs.declared.symbol.Symbol.{Symbol}
use Rattle.signature.specs.Symbol.{true_symbol, predicate_symbol}
use Rattle.signature.specs.Clausal.{atom_literal}

abbrev pub x : List ℕ
x = codes "X"

abbrev pub y : List ℕ
y = codes "Y"

abbrev pub z : List ℕ
z = codes "Z"

abbrev pub p_of : List ℕ → FormulaTree
p_of v = predicate (codes "p") (term_then (variable v) no_terms)

abbrev pub r_of : List ℕ → List ℕ → FormulaTree
r_of v w = predicate (codes "r") (term_then (variable v) (term_then (variable w) no_terms))

abbrev pub f_of : List ℕ → List ℕ → TermTree
f_of v w = application_of (codes "f") (term_then (variable v) (term_then (variable w) no_terms))

-- `$true`, p, r
abbrev pub known : List Symbol
known = true_symbol ∷ predicate_symbol (codes "p") 1 ∷ predicate_symbol (codes "r") 2 ∷ []

-- p of a numbered variable
abbrev pub p_literal : ℕ → TreeLiteral
p_literal v = atom_literal true (application 1 (tree_then (numbered v) no_trees))
