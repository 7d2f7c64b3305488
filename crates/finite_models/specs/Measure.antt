-- How large the propositional clauses of a form become at a size.
use Rattle.std.specs.Prelude.{ℕ, ◌+◌, ◌*◌, ◌^◌, drop, sum_by, if◌then◌else◌}
use Rattle.fol_base.specs.Tree.{Tree, variable, application, Trees, no_trees, tree_then, is_truth}
use Rattle.fol_base.specs.Clause.{TreeLiteral, TreeClause, clause_size, clause_variables}
use Rattle.fol_base.specs.Canonical.{bound_of}
use Rattle.signature.specs.declared.symbol.Symbol.{Symbol}
use Rattle.signature.specs.Symbol.{is_predicate_kind}
use Rattle.signature.specs.Form.{ClausalForm}

-- the occurrences of terms that aren't variables, in a function term
abbrev mutual
  pub occurrences : Tree → ℕ
  occurrences (variable v) = 0
  occurrences (application f ts) = all_occurrences ts + 1

  pub all_occurrences : Trees → ℕ
  all_occurrences no_trees = 0
  all_occurrences (tree_then t ts) = occurrences t + all_occurrences ts

-- in an atom those in its arguments
abbrev pub argument_occurrences : Tree → ℕ
argument_occurrences (variable v) = 0
argument_occurrences (application f ts) = all_occurrences ts

-- the right side of an atom is `$true`, that of an equation never is
abbrev pub literal_occurrences : TreeLiteral → ℕ
literal_occurrences l = if is_truth l.right then argument_occurrences l.left else occurrences l.left + occurrences l.right

-- The variables of a clause. Those of a canonical clause, as each one of a clausal form is, are the numbers below this bound.
abbrev pub variable_count : TreeClause → ℕ
variable_count c = bound_of (clause_variables c)

-- Each variable, and each function term that isn't one, takes every value.
abbrev pub clause_measure : ℕ → TreeClause → ℕ
clause_measure size c = clause_size c * size ^ (variable_count c + sum_by literal_occurrences c.literals)

-- a function has a clause for each two values at each list of arguments
abbrev pub symbol_measure : ℕ → Symbol → ℕ
symbol_measure size s = if is_predicate_kind s.kind then size ^ s.arity else 2 * size ^ (s.arity + 2)

-- `$true`, the first of the symbols, counts nothing
abbrev pub form_measure : ClausalForm → ℕ → ℕ
form_measure form size = sum_by (clause_measure size) form.clauses + sum_by (symbol_measure size) (drop 1 form.symbols)
