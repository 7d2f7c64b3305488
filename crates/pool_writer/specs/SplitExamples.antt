-- Two refutations in which clauses are split, over the symbols of their problems as these are read, and the parts for which their names
-- stand.
use Rattle.std.specs.Prelude.{List, [], ◌∷◌}
use Rattle.plain_types.specs.Names.{positive_of, negative_of}
use Rattle.fol_base.specs.Tree.{Tree, variable, application, no_trees, tree_then, true_tree}
use Rattle.fol_base.specs.Clause.{TreeLiteral, TreeClause}
use Rattle.fol_base.specs.Examples.{equation, clause}
use Rattle.fol_base.specs.declared.clause.Side.TheVariants.{Left}
use Rattle.kernel_steps.specs.Derivation.{complement}
use Rattle.kernel_steps.specs.Examples.{line, named_line, not_true, halves}
use Rattle.kernel_steps.specs.declared.step.Step.TheVariants.{Clausify, Para, Refl, Component, Opposite, Split, Chain}
use Rattle.kernel_steps.specs.declared.step.Line.{Line}

-- ---- p(X) or q(Y), but neither p(a) nor q(b)

abbrev pub p : Tree → TreeLiteral
p t = equation (application 1 (tree_then t no_trees)) true_tree

abbrev pub q : Tree → TreeLiteral
q t = equation (application 2 (tree_then t no_trees)) true_tree

abbrev pub a : Tree
a = application 3 no_trees

abbrev pub b : Tree
b = application 4 no_trees

abbrev pub two_parts : List TreeClause
two_parts =
    clause (p (variable 0) ∷ q (variable 1) ∷ []) ∷ clause (complement (p a) ∷ []) ∷ clause (complement (q b) ∷ []) ∷ []

abbrev pub two_bodies : List (List TreeLiteral)
two_bodies = (p (variable 0) ∷ []) ∷ (q (variable 0) ∷ []) ∷ []

abbrev pub two_parts_lines : List Line
two_parts_lines =
    line (Clausify 0) (p (variable 0) ∷ q (variable 1) ∷ [])
    ∷ line (Clausify 1) (complement (p a) ∷ [])
    ∷ line (Clausify 2) (complement (q b) ∷ [])
    ∷ named_line (Component 0) (p (variable 0) ∷ []) (negative_of 0 ∷ [])
    ∷ named_line (Component 1) (q (variable 0) ∷ []) (negative_of 1 ∷ [])
    ∷ named_line (Split 0 (3 ∷ 4 ∷ []) halves) [] (positive_of 0 ∷ positive_of 1 ∷ [])
    ∷ named_line (Para 3 1 0 Left 0 Left [] (a ∷ []) []) (not_true ∷ []) (negative_of 0 ∷ [])
    ∷ named_line (Refl 6 0 []) [] (negative_of 0 ∷ [])
    ∷ named_line (Para 4 2 0 Left 0 Left [] (b ∷ []) []) (not_true ∷ []) (negative_of 1 ∷ [])
    ∷ named_line (Refl 8 0 []) [] (negative_of 1 ∷ [])
    ∷ line (Chain (5 ∷ 7 ∷ 9 ∷ []) (positive_of 0 ∷ positive_of 1 ∷ [])) []
    ∷ []

-- ---- the four clauses of p and q, where a literal and its complement share a name

abbrev pub p₀ : TreeLiteral
p₀ = equation (application 1 no_trees) true_tree

abbrev pub q₀ : TreeLiteral
q₀ = equation (application 2 no_trees) true_tree

abbrev pub four_clauses : List TreeClause
four_clauses =
    clause (p₀ ∷ q₀ ∷ [])
    ∷ clause (complement p₀ ∷ q₀ ∷ [])
    ∷ clause (p₀ ∷ complement q₀ ∷ [])
    ∷ clause (complement p₀ ∷ complement q₀ ∷ [])
    ∷ []

abbrev pub four_bodies : List (List TreeLiteral)
four_bodies = (p₀ ∷ []) ∷ (q₀ ∷ []) ∷ []

abbrev pub four_clauses_lines : List Line
four_clauses_lines =
    line (Clausify 0) (p₀ ∷ q₀ ∷ [])
    ∷ line (Clausify 1) (complement p₀ ∷ q₀ ∷ [])
    ∷ line (Clausify 2) (p₀ ∷ complement q₀ ∷ [])
    ∷ line (Clausify 3) (complement p₀ ∷ complement q₀ ∷ [])
    ∷ named_line (Component 0) (p₀ ∷ []) (negative_of 0 ∷ [])
    ∷ named_line (Component 1) (q₀ ∷ []) (negative_of 1 ∷ [])
    ∷ named_line (Opposite 0) (complement p₀ ∷ []) (positive_of 0 ∷ [])
    ∷ named_line (Opposite 1) (complement q₀ ∷ []) (positive_of 1 ∷ [])
    ∷ named_line (Split 0 (4 ∷ 5 ∷ []) halves) [] (positive_of 0 ∷ positive_of 1 ∷ [])
    ∷ named_line (Split 1 (6 ∷ 5 ∷ []) halves) [] (negative_of 0 ∷ positive_of 1 ∷ [])
    ∷ named_line (Split 2 (4 ∷ 7 ∷ []) halves) [] (positive_of 0 ∷ negative_of 1 ∷ [])
    ∷ named_line (Split 3 (6 ∷ 7 ∷ []) halves) [] (negative_of 0 ∷ negative_of 1 ∷ [])
    ∷ named_line (Chain (8 ∷ 9 ∷ []) (positive_of 0 ∷ [])) [] (positive_of 1 ∷ [])
    ∷ named_line (Chain (10 ∷ 11 ∷ []) (positive_of 0 ∷ [])) [] (negative_of 1 ∷ [])
    ∷ line (Chain (12 ∷ 13 ∷ []) (positive_of 1 ∷ [])) []
    ∷ []
