-- The kinds of terms: function terms, predicate terms and `$true`; and the literals that they make.
use Rattle.std.specs.Prelude.{ℕ, Bool, true, false, not, ◌&&◌, ◌||◌, ◌==◌, List, slice_index_or, IsTrue}
use Rattle.std.specs.List.{list_all}
use Rattle.fol_base.specs.Tree.{Tree, variable, application, Trees, no_trees, tree_then, true_symbol, is_truth}
use Rattle.fol_base.specs.Instance.{Substitution}
use Rattle.fol_base.specs.Clause.{TreeLiteral, TreeClause}
use Rattle.fol_base.specs.Symbols.{FunctionSymbols}
use Rattle.fol_base.specs.Ground.{ground_over}

-- function symbols and variables alone: no predicate and no `$true`
abbrev mutual
  pub is_function_term : (ℕ → Bool) → Tree → Bool
  is_function_term is_predicate (variable v) = true
  is_function_term is_predicate (application f ts) =
      not (f == true_symbol) && (not (is_predicate f) && are_function_terms is_predicate ts)

  pub are_function_terms : (ℕ → Bool) → Trees → Bool
  are_function_terms is_predicate no_trees = true
  are_function_terms is_predicate (tree_then t ts) = is_function_term is_predicate t && are_function_terms is_predicate ts

-- a predicate applied to function terms
abbrev pub is_predicate_term : (ℕ → Bool) → Tree → Bool
is_predicate_term is_predicate (variable v) = false
is_predicate_term is_predicate (application f ts) =
    not (f == true_symbol) && (is_predicate f && are_function_terms is_predicate ts)

-- an equation between function terms, or an atom `p(t..) = $true`, or `$true = $true`; or the negation of one of these
abbrev pub is_literal : (ℕ → Bool) → TreeLiteral → Bool
is_literal is_predicate l =
    (is_function_term is_predicate l.left && is_function_term is_predicate l.right)
    || ((is_predicate_term is_predicate l.left || is_truth l.left) && is_truth l.right)

-- each variable becomes a function term
abbrev pub PutsFunctionTerms : (ℕ → Bool) → Substitution → Type 0
PutsFunctionTerms is_predicate σ = (v : ℕ) → IsTrue (is_function_term is_predicate (σ v))

-- each literal of each clause has a predicate applied to function terms on its left
abbrev pub are_predicate_atoms : (ℕ → Bool) → List TreeClause → Bool
are_predicate_atoms is_predicate cs = list_all (λ (c : TreeClause). list_all (λ l. is_predicate_term is_predicate l.left) c.literals) cs

-- the test that a list of answers gives, by the symbols' numbers; a number past its end is no predicate
abbrev pub is_predicate_of : List Bool → ℕ → Bool
is_predicate_of answers f = slice_index_or answers f false

-- ---- law

-- ground trees over function symbols are function terms
abbrev pub GroundTreesAreFunctionTerms : Type 0
GroundTreesAreFunctionTerms =
    (is_predicate : ℕ → Bool) (functions : FunctionSymbols is_predicate) (t : Tree)
    → IsTrue (ground_over functions.symbols t) → IsTrue (is_function_term is_predicate t)
