-- Ground clauses without equality.
use Rattle.std.specs.Prelude.{◌≡◌, ℕ, Bool, false, not, ◌&&◌, ◌==◌, List, [], All, IsTrue, sum_by}
use Rattle.std.specs.List.{list_all}
use Rattle.fol_base.specs.Tree.{Tree, variable, application, true_symbol, is_truth}
use Rattle.fol_base.specs.Clause.{TreeLiteral, TreeClause, clause_size}
use Rattle.fol_base.specs.Ground.{are_ground}

-- a ground term whose head isn't `$true`
abbrev pub is_ground_atom : Tree → Bool
is_ground_atom (variable v) = false
is_ground_atom (application f ts) = not (f == true_symbol) && are_ground ts

-- an atom on the left and `$true` on the right
abbrev pub is_atom_literal : TreeLiteral → Bool
is_atom_literal l = is_ground_atom l.left && is_truth l.right

-- ground literals of predicates alone, and no names of split-off parts
abbrev pub IsGroundClause : TreeClause → Type 0
IsGroundClause c = (c.names ≡ []) × IsTrue (list_all is_atom_literal c.literals)

-- each clause of the list is such a clause
abbrev pub IsGroundForm : List TreeClause → Type 0
IsGroundForm cs = All IsGroundClause cs

-- the occurrences of symbols in all clauses together
abbrev pub form_size : List TreeClause → ℕ
form_size cs = sum_by clause_size cs
