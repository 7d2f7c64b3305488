-- The two sides of a literal.
use Rattle.fol_base.specs.Tree.{Tree}
use Rattle.fol_base.specs.Clause.{TreeLiteral}
use Rattle.fol_base.specs.declared.clause.Side.{Side}
use Rattle.fol_base.specs.declared.clause.Side.TheVariants.{Left, Right}

-- the named side of a literal
abbrev pub side_of : Side → TreeLiteral → Tree
side_of Left l = l.left
side_of Right l = l.right

-- the side opposite to the named one
abbrev pub other_side_of : Side → TreeLiteral → Tree
other_side_of Left l = l.right
other_side_of Right l = l.left

-- the literal with that side replaced
abbrev pub with_side : Side → Tree → TreeLiteral → TreeLiteral
with_side Left t l = record l { left = t }
with_side Right t l = record l { right = t }

-- the literal with its sides exchanged
abbrev pub exchanged : TreeLiteral → TreeLiteral
exchanged l = record l { left = l.right; right = l.left }
