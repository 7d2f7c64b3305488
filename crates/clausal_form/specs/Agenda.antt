-- The agenda of the program's writing of a matrix: the clauses of the matrices that are left, each with the literals that were
-- written before.
use Rattle.std.specs.Prelude.{ℕ, ◌+◌, List, [], ◌∷◌, ◌++◌}
use denote.Ref.{Bor}
use Rattle.fol_base.specs.Clause.{TreeLiteral, TreeClause}
use Rattle.signature.specs.Clausal.{Literals, all_pairs, canonical_literals}
use Rattle.skolem.specs.Matrix.{matrix_size}
use Rattle.skolem.specs.Shape.{matrix_tree}
use Rattle.skolem.specs.declared.matrix.Matrix.{Matrix}
use Rattle.clausal_form.specs.Written.{written}

abbrev pub lent_literal : Bor TreeLiteral → TreeLiteral
lent_literal l = l.now

-- the product of the matrices' clauses, the last one first, and then those that are given
abbrev pub products_before : List Literals → List (Bor Matrix) → List Literals
products_before cs [] = cs
products_before cs (m ∷ ms) = products_before (all_pairs (written (matrix_tree m.now)) cs) ms

abbrev pub agenda_clauses : List (Bor Matrix) → List Literals
agenda_clauses ms = products_before ([] ∷ []) ms

abbrev pub agenda_size : List (Bor Matrix) → ℕ
agenda_size [] = 0
agenda_size (m ∷ ms) = matrix_size (matrix_tree m.now) + agenda_size ms

-- the canonical clause of the literals that were written before and further ones
abbrev pub canonical_after : Literals → Literals → TreeClause
canonical_after before c = canonical_literals (before ++ c)

abbrev pub placed : ℕ → Literals → ℕ
placed place c = place
