-- Members of a saturated set, and the symbols over which they are printed.
use Rattle.std.specs.Prelude.{ℕ, Bool, true, false, List, [], ◌∷◌, codes}
use Rattle.plain_types.specs.Names.{negative_of}
use Rattle.fol_base.specs.Tree.{Tree, variable, application, true_tree, trees_of}
use Rattle.fol_base.specs.Clause.{TreeLiteral, TreeClause}
use Rattle.fol_base.specs.Examples.{equation}
use Rattle.kernel_steps.specs.Derivation.{under_names}
use Rattle.signature.specs.Symbol.{true_symbol, predicate_symbol, function_symbol}
use Rattle.signature.specs.declared.symbol.Symbol.{Symbol}

-- `$true`, a predicate, a function and three constants, by their numbers
abbrev pub symbols : List Symbol
symbols =
    true_symbol ∷ predicate_symbol (codes "p") 1 ∷ function_symbol (codes "f") 1 ∷ function_symbol (codes "a") 0
    ∷ function_symbol (codes "b") 0 ∷ function_symbol (codes "c") 0 ∷ []

abbrev constant : ℕ → Tree
constant n = application n (trees_of [])

abbrev f : Tree → Tree
f t = application 2 (trees_of (t ∷ []))

-- an atom of p, with its sign
abbrev p : Bool → Tree → TreeLiteral
p positive t = record { positive = positive; left = application 1 (trees_of (t ∷ [])); right = true_tree }

abbrev pub p_of_all : TreeClause
p_of_all = under_names (p true (variable 0) ∷ []) []

abbrev pub f_of_a : TreeClause
f_of_a = under_names (equation (f (constant 3)) (constant 4) ∷ []) []

abbrev pub b_is_c : TreeClause
b_is_c = under_names (equation (constant 4) (constant 5) ∷ []) []

-- two literals, asserted under a name
abbrev pub asserted : TreeClause
asserted = under_names (p false (constant 3) ∷ p true (f (variable 0)) ∷ []) (negative_of 0 ∷ [])
