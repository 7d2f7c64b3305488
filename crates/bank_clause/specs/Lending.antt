-- What contracts see of the literals that a clause of a bank lends.
use Rattle.std.specs.Prelude.{List}
use Rattle.std.specs.Coded.{Coded, codes}
use Rattle.fol_base.specs.TreeCode.{tree_code}
use Rattle.fol_base.specs.Clause.{TreeLiteral}

pub tree_literals_code : Coded (List TreeLiteral)
tree_literals_code = hlevel (codes, tree_code)
