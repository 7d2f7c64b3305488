-- The program's literals and clauses, over trees.
use Rattle.std.specs.Prelude.{map}
use Rattle.fol_base.specs.Term.{tree_of}
use Rattle.fol_base.specs.Clause.{TreeLiteral, TreeClause}
use Rattle.fol_base.specs.declared.clause.Literal.{Literal}
use Rattle.fol_base.specs.declared.clause.Clause.{Clause}

-- the literal over trees that a literal of the program stands for
abbrev pub literal_of : Literal → TreeLiteral
literal_of l = record { positive = l.positive; left = tree_of l.left; right = tree_of l.right }

-- the clause over trees that a clause of the program stands for: its literals in order, and its names
abbrev pub clause_of : Clause → TreeClause
clause_of c = record { literals = map literal_of c.literals; names = c.names }
