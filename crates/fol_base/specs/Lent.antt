-- Borrowed literals, over trees.
use Rattle.fol_base.specs.Term.{tree_of}
use Rattle.fol_base.specs.Clause.{TreeLiteral}
use Rattle.fol_base.specs.declared.literal_ref.LiteralRef.{LiteralRef}

-- the literal over trees that a borrowed literal stands for
abbrev pub lent_of : LiteralRef → TreeLiteral
lent_of l = record { positive = l.positive; left = tree_of l.left.now; right = tree_of l.right.now }
