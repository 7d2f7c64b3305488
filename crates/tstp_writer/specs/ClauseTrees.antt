-- The formulas as which clauses are written: literals, and names after them.
use Rattle.std.specs.Prelude.{ℕ, ◌==◌, List, [], ◌∷◌, ◌++◌, map, codes, option_map, unwrap_or, slice_get, if◌then◌else◌}
use Rattle.std.specs.Fmt.{decimal}
use Rattle.plain_types.specs.declared.sequence.NameLit.{NameLit}
use Rattle.fol_base.specs.Tree.{Tree, variable, application, Trees, no_trees, tree_then, tree_eq, true_tree}
use Rattle.fol_base.specs.Clause.{TreeLiteral, TreeClause}
use Rattle.tptp_tree.specs.Term.{TermTree, variable as named_variable, application as named_application, TermTrees, no_terms, term_then}
use Rattle.tptp_tree.specs.Formula.{FormulaTree, truth, falsity, predicate, equation, with_sign, disjunction, formulas_of}
use Rattle.signature.specs.declared.symbol.Symbol.{Symbol}

-- ---- terms

-- the name of the symbol with that number, empty past the end
abbrev pub symbol_name : List Symbol → ℕ → List ℕ
symbol_name symbols f = unwrap_or (option_map (λ (s : Symbol). s.name) (slice_get symbols f)) []

-- variables are X0, X1 and so on
abbrev pub variable_name : ℕ → List ℕ
variable_name v = codes "X" ++ decimal v

abbrev mutual
  pub term_tree : List Symbol → Tree → TermTree
  term_tree symbols (variable v) = named_variable (variable_name v)
  term_tree symbols (application f ts) = named_application (symbol_name symbols f) (term_trees symbols ts)

  pub term_trees : List Symbol → Trees → TermTrees
  term_trees symbols no_trees = no_terms
  term_trees symbols (tree_then t ts) = term_then (term_tree symbols t) (term_trees symbols ts)

-- ---- literals

-- The atom that a term of a predicate is; symbol 0 is `$true`. No literal has a variable in the place of an atom, and here it is `$true`.
abbrev pub atom_formula : List Symbol → Tree → FormulaTree
atom_formula symbols (variable v) = truth
atom_formula symbols (application f ts) = if f == 0 then truth else predicate (symbol_name symbols f) (term_trees symbols ts)

-- an equation with `$true` is written as its atom
abbrev pub literal_formula : List Symbol → TreeLiteral → FormulaTree
literal_formula symbols l =
    if tree_eq l.right true_tree then with_sign l.positive (atom_formula symbols l.left)
    else equation l.positive (term_tree symbols l.left) (term_tree symbols l.right)

-- ---- clauses

-- the name with a number is a prefix and the number
abbrev pub introduced_name : List ℕ → ℕ → List ℕ
introduced_name prefix n = prefix ++ decimal n

abbrev pub signed_name_formula : List ℕ → NameLit → FormulaTree
signed_name_formula prefix n = with_sign n.positive (predicate (introduced_name prefix n.name) no_terms)

abbrev pub one_of : List FormulaTree → FormulaTree
one_of [] = falsity
one_of (f ∷ []) = f
one_of (f ∷ g ∷ fs) = disjunction (formulas_of (f ∷ g ∷ fs))

-- the literals in order, then the names
abbrev pub clause_formula : List Symbol → List ℕ → TreeClause → FormulaTree
clause_formula symbols prefix c =
    one_of (map (literal_formula symbols) c.literals ++ map (signed_name_formula prefix) c.names)
