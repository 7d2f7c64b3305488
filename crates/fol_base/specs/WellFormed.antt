-- Well-formed clauses: the condition that all clauses of one call meet together.
use Rattle.std.specs.Prelude.{◌≡◌, ℕ, Bool, true, ◌&&◌, ◌||◌, ◌==◌, List, Some, IsTrue}
use Rattle.std.specs.List.{list_all}
use Rattle.fol_base.specs.Tree.{Tree, variable, application, Trees, no_trees, tree_then, trees_count, is_truth}
use Rattle.fol_base.specs.Instance.{Substitution}
use Rattle.fol_base.specs.Clause.{TreeLiteral, TreeClause}
use Rattle.fol_base.specs.Kind.{is_function_term, is_predicate_term, is_literal}
use Rattle.fol_base.specs.Symbols.{FunctionSymbol, FunctionSymbols}
use Rattle.fol_base.specs.Ground.{IsGroundOver, literals_instance}
use Rattle.fol_base.specs.Sides.{side_of}
use Rattle.fol_base.specs.Rules.{superposed, resolved, factored, merged}
use Rattle.fol_base.specs.declared.clause.Side.{Side}

-- how symbols are used: which are predicates, and how many arguments each takes. So none is both a predicate and a function.
pub record SymbolUse : Type 0 where
  pub is_predicate : ℕ → Bool
  pub arity : ℕ → ℕ

-- each symbol has its number of arguments
abbrev mutual
  pub has_arities : (ℕ → ℕ) → Tree → Bool
  has_arities arity (variable v) = true
  has_arities arity (application f ts) = (arity f == trees_count ts) && have_arities arity ts

  pub have_arities : (ℕ → ℕ) → Trees → Bool
  have_arities arity no_trees = true
  have_arities arity (tree_then t ts) = has_arities arity t && have_arities arity ts

-- An equation between function terms, an atom or `$true = $true`, or the negation of one of these, each symbol with its number of
-- arguments. `$true` stands only as a side.
abbrev pub is_literal_of : SymbolUse → TreeLiteral → Bool
is_literal_of usage l =
    is_literal usage.is_predicate l && (has_arities usage.arity l.left && has_arities usage.arity l.right)

-- each literal of the list is such a literal
abbrev pub are_literals_of : SymbolUse → List TreeLiteral → Bool
are_literals_of usage ls = list_all (is_literal_of usage) ls

-- a whole term or a side: a function term, a predicate term or `$true`, each symbol with its number of arguments
abbrev pub is_term_of : SymbolUse → Tree → Bool
is_term_of usage t =
    (is_function_term usage.is_predicate t || (is_predicate_term usage.is_predicate t || is_truth t)) && has_arities usage.arity t

-- the symbols of a list take as many arguments as in this use
abbrev pub are_symbols_of : SymbolUse → List FunctionSymbol → Bool
are_symbols_of usage symbols = list_all (λ (s : FunctionSymbol). usage.arity s.number == s.arity) symbols

-- Clauses are well-formed together where some use of the symbols is that of all their literals.
pub record WellFormed (cs : List TreeClause) : Type 0 where
  pub usage : SymbolUse
  pub used : IsTrue (list_all (λ (c : TreeClause). are_literals_of usage c.literals) cs)

-- each variable becomes a function term
abbrev pub PutsFunctionTermsOf : SymbolUse → Substitution → Type 0
PutsFunctionTermsOf usage σ = (v : ℕ) → IsTrue (is_function_term usage.is_predicate (σ v) && has_arities usage.arity (σ v))

-- ---- laws: the sides and instances of well-formed literals, and the rules' conclusions from them, are well-formed

-- the sides of a literal
abbrev pub WellFormedSides : Type 0
WellFormedSides =
    (usage : SymbolUse) (s : Side) (l : TreeLiteral) → IsTrue (is_literal_of usage l) → IsTrue (is_term_of usage (side_of s l))

-- ground trees over function symbols whose numbers of arguments are those of the use
abbrev pub GroundTreesAreOfUse : Type 0
GroundTreesAreOfUse =
    (usage : SymbolUse) (functions : FunctionSymbols usage.is_predicate) (σ : Substitution)
    → IsTrue (are_symbols_of usage functions.symbols) → IsGroundOver functions σ → PutsFunctionTermsOf usage σ

abbrev pub WellFormedInstances : Type 0
WellFormedInstances =
    (usage : SymbolUse) (σ : Substitution) (ls : List TreeLiteral)
    → PutsFunctionTermsOf usage σ → IsTrue (are_literals_of usage ls) → IsTrue (are_literals_of usage (literals_instance σ ls))

abbrev pub WellFormedSuperpositions : Type 0
WellFormedSuperpositions =
    (usage : SymbolUse) (first second made : List TreeLiteral) (i j : ℕ) (from_side into_side : Side) (place : List ℕ)
    → IsTrue (are_literals_of usage first) → IsTrue (are_literals_of usage second)
    → superposed first i from_side second j into_side place ≡ Some made → IsTrue (are_literals_of usage made)

abbrev pub WellFormedResolutions : Type 0
WellFormedResolutions =
    (usage : SymbolUse) (ls made : List TreeLiteral) (i : ℕ)
    → IsTrue (are_literals_of usage ls) → resolved ls i ≡ Some made → IsTrue (are_literals_of usage made)

abbrev pub WellFormedFactorings : Type 0
WellFormedFactorings =
    (usage : SymbolUse) (ls made : List TreeLiteral) (i j : ℕ) (side_i side_j : Side)
    → IsTrue (are_literals_of usage ls) → factored ls i side_i j side_j ≡ Some made → IsTrue (are_literals_of usage made)

abbrev pub WellFormedMerges : Type 0
WellFormedMerges =
    (usage : SymbolUse) (ls made : List TreeLiteral) (i j : ℕ)
    → IsTrue (are_literals_of usage ls) → merged ls i j ≡ Some made → IsTrue (are_literals_of usage made)
